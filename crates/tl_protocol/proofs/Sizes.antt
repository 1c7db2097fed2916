-- Every run keeps the bytes of each block whole.
use Rattle.std.proofs.Common.{◌≡◌, ℕ, List, [], ◌∷◌, length, Option, Some, None, sym, refl, ap, ◌∙◌, subst}
use Rattle.std.specs.List.{All}
use Rattle.std.proofs.lemmas.List.Elements.{All-nil, All-cons}
use Rattle.tl_types.specs.Message.{upward_bytes}
use Rattle.tl_types.specs.Bodies.{downward_bytes}
use Rattle.tl_types.specs.declared.permission.Perm.{Perm}
use Rattle.tl_types.specs.declared.permission.Grow.{Grow}
use Rattle.tl_types.specs.declared.permission.ProbeCap.{ProbeCap}
use Rattle.tl_types.specs.declared.wait.Awaited.{Awaited}
use Rattle.tl_types.specs.declared.message.Upward.{Upward}
use Rattle.tl_types.specs.declared.message.Upward.TheVariants.{ProbeAck, Release}
use Rattle.tl_types.specs.declared.message.Downward.{Downward}
use Rattle.tl_types.specs.declared.message.Downward.TheVariants.{Grant, ReleaseAck}
use Rattle.tl_protocol.specs.declared.copy.CachedCopy.{CachedCopy}
use Rattle.tl_protocol.specs.declared.copy.CachedCopy.TheVariants.{Absent, Readable, Writable}
use Rattle.tl_protocol.specs.declared.client.Client.{Client}
use Rattle.tl_protocol.specs.declared.event.Event.{Event}
use Rattle.tl_protocol.specs.declared.event.Event.TheVariants.{AcceptAcquire, TakeC, SendGrant, SendGet, Serve, TakeData, Drop, SendPut, TakePutAck}
use Rattle.tl_protocol.specs.declared.home.Accepted.{Accepted}
use Rattle.tl_protocol.specs.declared.home.Line.{Line}
use Rattle.tl_protocol.specs.declared.home.Outward.{Outward}
use Rattle.tl_protocol.specs.declared.home.Outward.TheVariants.{Quiet, Get, Data, Put, PutAck}
use Rattle.tl_protocol.specs.declared.shape.Shape.{Shape}
use Rattle.tl_protocol.specs.Client.{first_bytes}
use Rattle.tl_protocol.specs.Protocol.{Block, MayOn, after, accepted_from, home_after, home_bytes, grants, served, took_data}
use Rattle.tl_protocol.specs.Sizes.{copy_bytes, line_bytes, outward_bytes, IsWhole}
use Rattle.tl_protocol.proofs.Invariant.{IsCurrent, IsData, IsSent, Heard, Talk, ClientIs, Invariant}
use Rattle.tl_protocol.proofs.Clients.{first_is}

-- ## Home and the memory

-- the memory's bytes, home's copy and what is outward are a whole block
abbrev pub HomeIsWhole : ℕ → Block → Type 0
HomeIsWhole size s = (length s.memory ≡ size) × IsWhole size (line_bytes s.home) × IsWhole size (outward_bytes s.outward)

-- data of a client is the bytes last stored, so it is whole
pub data_whole :
    (size : ℕ) (now : List ℕ) (bytes : Option (List ℕ)) (from : Perm) → length now ≡ size → IsData now bytes from
    → IsWhole size bytes
data_whole size now None from long brings = tt
data_whole size now (Some bytes) from long brings = ap length brings.0 ∙ long

-- the data of the first message of C
first_whole :
    (size : ℕ) (now : List ℕ) (k : Client) (c : List Upward) → c ≡ k.c → length now ≡ size → ClientIs now k
    → IsWhole size (first_bytes c)
first_whole size now k [] e long holds = tt
first_whole size now k (message ∷ rest) e long holds =
    data_whole size now (upward_bytes message) k.recorded long (first_is now k message rest e holds).1

-- home's copy after data was taken
taken_whole :
    (size : ℕ) (home : Option Line) (sent : Option (List ℕ)) → IsWhole size sent → IsWhole size (line_bytes home)
    → IsWhole size (line_bytes (home_after home sent))
taken_whole size home None sent whole = whole
taken_whole size home (Some bytes) sent whole = sent

-- home's bytes where it has a copy
line_whole :
    (size : ℕ) (home : Option Line) (line : Line) → home ≡ Some line → IsWhole size (line_bytes home)
    → length (home_bytes home) ≡ size
line_whole size None line e whole = cc
line_whole size (Some own) line e whole = whole

-- home accepts an Acquire
accepted_whole : (size : ℕ) (s : Block) (c : ℕ) (a : List Grow) → HomeIsWhole size s → HomeIsWhole size (accepted_from s c a)
accepted_whole size s c [] whole = whole
accepted_whole size s c (grow ∷ rest) whole = whole

-- home sends a Grant
granted_whole :
    (size : ℕ) (shape : Shape) (s : Block) (c : ℕ) (accepted : Option Accepted) → HomeIsWhole size s
    → HomeIsWhole size (grants shape s c accepted)
granted_whole size shape s c None whole = whole
granted_whole size shape s c (Some acquire) whole = whole

-- the memory answers
served_whole :
    (size : ℕ) (s : Block) (outward : Outward) → IsWhole size (outward_bytes outward) → HomeIsWhole size s
    → HomeIsWhole size (served s outward)
served_whole size s Quiet sent whole = whole
served_whole size s Get sent whole = (whole.0, whole.1, whole.0)
served_whole size s (Data bytes) sent whole = whole
served_whole size s (Put bytes) sent whole = (sent, whole.1, tt)
served_whole size s PutAck sent whole = whole

-- home takes the data that is there
took_data_whole :
    (size : ℕ) (s : Block) (outward : Outward) → IsWhole size (outward_bytes outward) → HomeIsWhole size s
    → HomeIsWhole size (took_data s outward)
took_data_whole size s Quiet sent whole = whole
took_data_whole size s Get sent whole = whole
took_data_whole size s (Data bytes) sent whole = (whole.0, sent, tt)
took_data_whole size s (Put bytes) sent whole = whole
took_data_whole size s PutAck sent whole = whole

-- a permitted event keeps them whole
pub step_whole :
    (size : ℕ) (shape : Shape) (now : List ℕ) (s : Block) (e : Event) → length now ≡ size → MayOn shape s e
    → Invariant shape now s → HomeIsWhole size s → HomeIsWhole size (after shape s e)
step_whole size shape now s (AcceptAcquire c block) long may holds whole = accepted_whole size s c (s.client c).a whole
step_whole size shape now s (TakeC c block) long may holds whole = (
  whole.0,
  taken_whole size s.home (first_bytes (s.client c).c)
      (first_whole size now (s.client c) (s.client c).c refl long (holds.local c)) whole.1,
  whole.2,
)
step_whole size shape now s (SendGrant c block) long may holds whole = granted_whole size shape s c s.accepted whole
step_whole size shape now s (SendGet block) long may holds whole = (whole.0, whole.1, tt)
step_whole size shape now s (Serve block) long may holds whole = served_whole size s s.outward whole.2 whole
step_whole size shape now s (TakeData block) long may holds whole = took_data_whole size s s.outward whole.2 whole
step_whole size shape now s (Drop block) long may holds whole = (whole.0, tt, whole.2)
step_whole size shape now s (SendPut block) long may holds whole =
    (whole.0, tt, line_whole size s.home may.0.0 may.0.1 whole.1)
step_whole size shape now s (TakePutAck block) long may holds whole = (whole.0, whole.1, tt)
step_whole size shape now s e long may holds whole = whole

-- ## Copies and messages

-- a copy that has the bytes last stored
pub copy_whole :
    (size : ℕ) (now : List ℕ) (held : CachedCopy) → length now ≡ size → IsCurrent now held → IsWhole size (copy_bytes held)
copy_whole size now Absent long current = tt
copy_whole size now (Readable bytes) long current = ap length current ∙ long
copy_whole size now (Writable bytes dirty) long current = ap length current ∙ long

-- what a Grant brings
sent_whole :
    (size : ℕ) (now : List ℕ) (held : CachedCopy) (bytes : Option (List ℕ)) → length now ≡ size → IsSent bytes now held
    → IsWhole size bytes
sent_whole size now held None long sent = tt
sent_whole size now held (Some bytes) long sent = ap length sent.1 ∙ long

-- no bytes are whole bytes
none_whole : (size : ℕ) (bytes : Option (List ℕ)) → bytes ≡ None → IsWhole size bytes
none_whole size None e = tt
none_whole size (Some bytes) e = cc

-- the message has whole bytes, if any
abbrev UpwardIsWhole : ℕ → Upward → Type 0
UpwardIsWhole size message = IsWhole size (upward_bytes message)

-- and so on D
abbrev DownwardIsWhole : ℕ → Downward → Type 0
DownwardIsWhole size message = IsWhole size (downward_bytes message)

-- the messages on C, where nothing is on D
heard_whole :
    (size : ℕ) (now : List ℕ) (held : CachedCopy) (wait : Awaited) (recorded : Perm) (b : List ProbeCap) (c : List Upward)
    → length now ≡ size → Heard now held wait recorded b c → All (UpwardIsWhole size) c
heard_whole size now held wait recorded b [] long talk = All-nil (UpwardIsWhole size)
heard_whole size now held wait recorded b (ProbeAck answer ∷ []) long talk =
    All-cons (UpwardIsWhole size) (ProbeAck answer) [] (data_whole size now (upward_bytes (ProbeAck answer)) recorded long talk.2.2)
    (All-nil (UpwardIsWhole size))
heard_whole size now held wait recorded b (Release given ∷ []) long talk =
    All-cons (UpwardIsWhole size) (Release given) [] (data_whole size now (upward_bytes (Release given)) recorded long talk.1.2)
    (All-nil (UpwardIsWhole size))
heard_whole size now held wait recorded b (ProbeAck answer ∷ Release given ∷ []) long talk =
    All-cons (UpwardIsWhole size) (ProbeAck answer) (Release given ∷ [])
    (data_whole size now (upward_bytes (ProbeAck answer)) recorded long talk.2.2)
    (All-cons (UpwardIsWhole size) (Release given) [] (none_whole size (upward_bytes (Release given)) talk.4)
    (All-nil (UpwardIsWhole size)))
heard_whole size now held wait recorded b (message ∷ rest) long talk = absurd talk

-- an empty C
empty_whole : (size : ℕ) (c : List Upward) → c ≡ [] → All (UpwardIsWhole size) c
empty_whole size c e = subst (λ (c : List Upward). All (UpwardIsWhole size) c) (sym e) (All-nil (UpwardIsWhole size))

-- the messages on C
pub c_whole :
    (size : ℕ) (now : List ℕ) (held : CachedCopy) (wait : Awaited) (recorded : Perm) (b : List ProbeCap) (c : List Upward)
    (d : List Downward)
    → length now ≡ size → Talk now held wait recorded b c d → All (UpwardIsWhole size) c
c_whole size now held wait recorded b c [] long talk = heard_whole size now held wait recorded b c long talk
c_whole size now held wait recorded b c (Grant cap bytes ∷ []) long talk = empty_whole size c talk.0
c_whole size now held wait recorded b c (ReleaseAck ∷ []) long talk = empty_whole size c talk.0
c_whole size now held wait recorded b c (first ∷ second ∷ rest) long talk = absurd talk

-- the messages on D
pub d_whole :
    (size : ℕ) (now : List ℕ) (held : CachedCopy) (wait : Awaited) (recorded : Perm) (b : List ProbeCap) (c : List Upward)
    (d : List Downward)
    → length now ≡ size → Talk now held wait recorded b c d → All (DownwardIsWhole size) d
d_whole size now held wait recorded b c [] long talk = All-nil (DownwardIsWhole size)
d_whole size now held wait recorded b c (Grant cap bytes ∷ []) long talk =
    All-cons (DownwardIsWhole size) (Grant cap bytes) [] (sent_whole size now held bytes long talk.4) (All-nil (DownwardIsWhole size))
d_whole size now held wait recorded b c (ReleaseAck ∷ []) long talk =
    All-cons (DownwardIsWhole size) ReleaseAck [] tt (All-nil (DownwardIsWhole size))
d_whole size now held wait recorded b c (first ∷ second ∷ rest) long talk = absurd talk
