-- Each event that no client starts lowers what its block owes, so every run ends.
use Rattle.std.proofs.Common.{◌≡◌, ◌≢◌, ℕ, zero, suc, ◌+◌, ◌*◌, ◌%◌, ◌<◌, ◌≤◌, Bool, true, false, cond, List, [], ◌∷◌, ◌++◌, length, drop, slice_index, Option, Some, None, ⊎_elim, refl, sym, ap, ◌∙◌, subst, arith, add-one, eq-eqb}
use Rattle.std.specs.Prelude.{count_by, min}
use Rattle.std.specs.List.{list_any}
use Rattle.std.proofs.lemmas.Bool.{cases_eq, ne_eqb}
use Rattle.std.proofs.lemmas.List.{length_push}
use Rattle.std.proofs.lemmas.List.Sums.{sum_by-cons}
use Rattle.tl_types.specs.Permission.{rank, probe_perm, grant_perm}
use Rattle.tl_types.specs.Bytes.{image_bytes}
use Rattle.tl_types.specs.Message.{probe_answer, surrender, upward_to, is_probe_ack, is_grant}
use Rattle.tl_types.specs.declared.permission.Perm.{Perm}
use Rattle.tl_types.specs.declared.permission.Perm.TheVariants.{None as p_None, Branch, Tip}
use Rattle.tl_types.specs.declared.permission.Grow.{Grow}
use Rattle.tl_types.specs.declared.permission.ProbeCap.{ProbeCap}
use Rattle.tl_types.specs.declared.permission.ProbeCap.TheVariants.{ToB as cap_ToB, ToN as cap_ToN}
use Rattle.tl_types.specs.declared.permission.GrantCap.{GrantCap}
use Rattle.tl_types.specs.declared.wait.Awaited.{Awaited}
use Rattle.tl_types.specs.declared.wait.Awaited.TheVariants.{ForReleaseAck}
use Rattle.tl_types.specs.declared.message.Surrender.{Surrender}
use Rattle.tl_types.specs.declared.message.ProbeAnswer.{ProbeAnswer}
use Rattle.tl_types.specs.declared.message.Upward.{Upward}
use Rattle.tl_types.specs.declared.message.Upward.TheVariants.{ProbeAck, Release}
use Rattle.tl_types.specs.declared.message.Downward.{Downward}
use Rattle.tl_types.specs.declared.message.Downward.TheVariants.{Grant, ReleaseAck}
use Rattle.tl_protocol.specs.declared.copy.CachedCopy.{CachedCopy}
use Rattle.tl_protocol.specs.declared.client.Client.{Client}
use Rattle.tl_protocol.specs.declared.event.Event.{Event}
use Rattle.tl_protocol.specs.declared.event.Event.TheVariants.{Load, Store, SendAcquire, SendRelease, AnswerProbe, TakeGrant, TakeReleaseAck, AcceptAcquire, SendProbe, TakeC, SendGrant, TakeGrantAck, SendGet, Serve, TakeData, Drop, SendPut, TakePutAck}
use Rattle.tl_protocol.specs.declared.home.Accepted.{Accepted}
use Rattle.tl_protocol.specs.declared.home.Line.{Line}
use Rattle.tl_protocol.specs.declared.home.Outward.{Outward}
use Rattle.tl_protocol.specs.declared.home.Outward.TheVariants.{Quiet, Get, Data, Put, PutAck}
use Rattle.tl_protocol.specs.declared.shape.Shape.{Shape}
use Rattle.tl_protocol.specs.Client.{MayAnswerProbe, MayTakeGrant, MayTakeA, MayTakeC, fresh_client, stored, sent_acquire, released, answered, took_grant, took_release_ack, sent_probe, grant_bytes, sent_grant, took_grant_ack, took_c_from, first_bytes}
use Rattle.tl_protocol.specs.Coherent.{byte_after}
use Rattle.tl_protocol.specs.Copy.{perm_of, dirty_bytes}
use Rattle.tl_protocol.specs.Home.{IsRequest, IsData}
use Rattle.tl_protocol.specs.Ledger.{one_if}
use Rattle.tl_protocol.specs.Protocol.{Block, reset, block_of, MaySendGet, with_client, MaySendGrant, MayGiveUp, MayOn, after, accepted_from, home_after, home_bytes, grants, granted, served, took_c, took_data}
use Rattle.tl_protocol.specs.Runs.{MayNext, after_next, IsRunFrom, end_from, at_reset, end_of}
use Rattle.tl_protocol.specs.Work.{sum_below, owed_on_c, owed_on_d, promised, owed_by, until_grant, owed_until_grant, owed_to_fetch, owed_at_home, work, work_of_all, is_receiving, is_acquire, is_release, brought_by, EveryReceivingEventLowers, EveryRunOwes, EveryRunEnds}
use Rattle.tl_protocol.proofs.Invariant.{has_probe_ack, IsData as IsDataOf, Heard, Talk, IsAtMostOne, ClientIs, HomeIs, Invariant}
use Rattle.tl_protocol.proofs.Messages.{to_le}
use Rattle.tl_protocol.proofs.Talk.{first_talk}
use Rattle.tl_protocol.proofs.Clients.{rest_of_one}
use Rattle.tl_protocol.proofs.Blocks.{put, at_put}
use Rattle.tl_protocol.proofs.Coherent.{AllKept, step_kept, reset_kept, end_kept}

-- ## Sums

-- a sum of the same numbers is the same
same_sum : (n : ℕ) (f g : ℕ → ℕ) → ((x : ℕ) → x < n → f x ≡ g x) → sum_below n f ≡ sum_below n g
same_sum zero f g same = refl
same_sum (suc n) f g same =
    let first = same n (omega arith) in
    let rest = same_sum n f g (λ x l. same x (omega arith)) in
    omega arith

-- a sum of which one number changes
changed_sum :
    (n : ℕ) (f g : ℕ → ℕ) (c : ℕ) → c < n → ((x : ℕ) → x ≢ c → f x ≡ g x) → sum_below n f + g c ≡ sum_below n g + f c
changed_sum zero f g c inside same = absurd (omega arith)
changed_sum (suc n) f g c inside same =
    ⊎_elim
    (λ (e : n ≡ c).
    let rest = same_sum n f g (λ x l. same x (λ h. omega arith)) in
    let first = ap f e in
    let second = ap g e in
    omega arith)
    (λ (apart : n ≡ c → ⊥).
    let first = same n apart in
    let rest = changed_sum n f g c (omega arith) same in
    omega arith)
    (cases_eq n c)

-- a sum over clients of which one changes
put_sum :
    (w : Client → ℕ) (n : ℕ) (client : ℕ → Client) (c : ℕ) (k : Client) → c < n
    → sum_below n (λ x. w (put client c k x)) + w (client c) ≡ sum_below n (λ x. w (client x)) + w k
put_sum w n client c k inside =
    let own : w (put client c k c) ≡ w k = at_put (λ m. w m ≡ w k) client c k c (λ e. refl) (λ apart. absurd (apart refl)) in
    let sum = changed_sum n (λ x. w (put client c k x)) (λ x. w (client x)) c inside
    (λ x apart. at_put (λ m. w m ≡ w (client x)) client c k x (λ e. absurd (apart e)) (λ a. refl)) in
    omega arith

-- ## What is owed until the Grant

-- at most 9
until_le : (d : List Downward) (e : ℕ) → until_grant d e ≤ 9
until_le d zero = go (list_any is_grant d)
  where
    go : (t : Bool) → cond t 0 9 ≤ 9
    go true = omega arith
    go false = omega arith
until_le d (suc e) = omega arith

-- nothing beside a Grant that is first on D
until_granted : (cap : GrantCap) (bytes : Option (List ℕ)) (rest : List Downward) (e : ℕ) → until_grant (Grant cap bytes ∷ rest) e ≡ 0
until_granted cap bytes rest zero = refl
until_granted cap bytes rest (suc e) = refl

-- nothing beside a Grant that is last on D
until_sent : (d : List Downward) (cap : GrantCap) (bytes : Option (List ℕ)) (e : ℕ) → until_grant (d ++ Grant cap bytes ∷ []) e ≡ 0
until_sent [] cap bytes e = until_granted cap bytes [] e
until_sent (Grant own carried ∷ d) cap bytes e = until_granted own carried (d ++ Grant cap bytes ∷ []) e
until_sent (ReleaseAck ∷ d) cap bytes zero = until_sent d cap bytes zero
until_sent (ReleaseAck ∷ d) cap bytes (suc e) = refl

-- nothing beside a GrantAck
until_acked : (d : List Downward) (e : ℕ) → until_grant d (e + 1) ≡ 0
until_acked d e = rw add-one refl

-- 9 where no Grant is pending
until_none : (d : List Downward) (e : ℕ) → list_any is_grant d ≡ false → e ≡ 0 → until_grant d e ≡ 9
until_none d e none zero_acks =
    ap (λ (acks : ℕ). until_grant d acks) zero_acks ∙ ap (λ (t : Bool). cond t 0 9) none

-- a ReleaseAck first on D changes nothing
until_ack : (d : List Downward) (e : ℕ) → until_grant (ReleaseAck ∷ d) e ≡ until_grant d e
until_ack d zero = refl
until_ack d (suc e) = refl

-- nor does one on an empty D
until_acking : (d : List Downward) (e : ℕ) → d ≡ [] → until_grant (d ++ ReleaseAck ∷ []) e ≡ until_grant d e
until_acking [] zero none = refl
until_acking [] (suc e) none = refl
until_acking (first ∷ d) e none = cc

-- the accepted Acquire owes the same where the changed client has as much pending
same_until :
    (accepted : Option Accepted) (client : ℕ → Client) (c : ℕ) (k : Client)
    → until_grant k.d k.e ≡ until_grant (client c).d (client c).e
    → owed_until_grant accepted (put client c k) ≡ owed_until_grant accepted client
same_until None client c k same = refl
same_until (Some acquire) client c k same =
    at_put (λ m. until_grant m.d m.e ≡ until_grant (client acquire.client).d (client acquire.client).e) client c k acquire.client
    (λ e. same ∙ ap (λ (y : ℕ). until_grant (client y).d (client y).e) (sym e)) (λ a. refl)

-- ## A client that changes alone

-- a block owes as much less as the client does
client_owes :
    (shape : Shape) (s : Block) (c : ℕ) (k : Client) → c < shape.clients
    → until_grant k.d k.e ≡ until_grant (s.client c).d (s.client c).e
    → work shape (with_client s c k) + owed_by (s.client c) ≡ work shape s + owed_by k
client_owes shape s c k inside same =
    let sum = put_sum owed_by shape.clients s.client c k inside in
    let until = same_until s.accepted s.client c k same in
    omega arith

-- an answer to a Probe leads to at most what home records, and to at most what the Probe leaves
answer_within :
    (perm : Perm) (cap : ProbeCap) (bytes : Option (List ℕ))
    → rank (upward_to (ProbeAck (probe_answer perm cap bytes))) ≤ min (rank perm) (rank (probe_perm cap))
answer_within p_None cap_ToB bytes = omega arith
answer_within p_None cap_ToN bytes = omega arith
answer_within Branch cap_ToB bytes = omega arith
answer_within Branch cap_ToN bytes = omega arith
answer_within Tip cap_ToB bytes = omega arith
answer_within Tip cap_ToN bytes = omega arith

-- with a Probe on B and no Release under way nothing is on C, and home records what the client holds
probed_heard :
    (now : List ℕ) (held : CachedCopy) (wait : Awaited) (recorded : Perm) (cap : ProbeCap) (rest : List ProbeCap) (c : List Upward)
    → wait ≢ ForReleaseAck → Heard now held wait recorded (cap ∷ rest) c → (c ≡ []) × (recorded ≡ perm_of held)
probed_heard now held wait recorded cap rest [] n talk = (refl, talk.1)
probed_heard now held wait recorded cap rest (ProbeAck answer ∷ []) n talk = cc
probed_heard now held wait recorded cap rest (Release given ∷ []) n talk = absurd (n talk.0)
probed_heard now held wait recorded cap rest (ProbeAck answer ∷ Release given ∷ []) n talk = absurd (n talk.0)
probed_heard now held wait recorded cap rest (message ∷ tail) n talk = absurd talk

-- whatever is on D
probed_talk :
    (now : List ℕ) (held : CachedCopy) (wait : Awaited) (recorded : Perm) (cap : ProbeCap) (rest : List ProbeCap) (c : List Upward)
    (d : List Downward)
    → wait ≢ ForReleaseAck → Talk now held wait recorded (cap ∷ rest) c d → (c ≡ []) × (recorded ≡ perm_of held)
probed_talk now held wait recorded cap rest c [] n talk = probed_heard now held wait recorded cap rest c n talk
probed_talk now held wait recorded cap rest c (Grant grant bytes ∷ []) n talk = cc
probed_talk now held wait recorded cap rest c (ReleaseAck ∷ []) n talk = absurd (n talk.1)
probed_talk now held wait recorded cap rest c (first ∷ second ∷ tail) n talk = absurd talk

-- the Probe owes 2, its answer 1
answer_parts :
    (perm recorded : Perm) (cap : ProbeCap) (rest : List ProbeCap) (c : List Upward) (bytes : Option (List ℕ))
    → rest ≡ [] → c ≡ [] → recorded ≡ perm
    → 2 * length rest + owed_on_c (c ++ ProbeAck (probe_answer perm cap bytes) ∷ [])
    + 3 * promised recorded rest (c ++ ProbeAck (probe_answer perm cap bytes) ∷ []) + 1
    ≤ 2 * length (cap ∷ rest) + owed_on_c c + 3 * promised recorded (cap ∷ rest) c
answer_parts perm recorded cap [] [] bytes e f g =
    let within = answer_within perm cap bytes in
    let same = ap rank g in
    omega arith
answer_parts perm recorded cap [] (message ∷ c) bytes e f g = cc
answer_parts perm recorded cap (more ∷ rest) c bytes e f g = cc

-- a client answers its Probe
answered_owes :
    (now : List ℕ) (k : Client) (b : List ProbeCap) → b ≡ k.b → MayAnswerProbe k → ClientIs now k
    → owed_by (answered k b) + 1 ≤ owed_by k
answered_owes now k [] e may holds = let has = may.0.2 in let none : [] ≡ k.b = e in cc
answered_owes now k (cap ∷ rest) e may holds =
    let one : rest ≡ [] = rest_of_one cap rest (subst (λ (b : List ProbeCap). IsAtMostOne b) (sym e) holds.one_probe) in
    let idle = probed_talk now k.held k.wait k.recorded cap rest k.c k.d may.1
    (subst (λ (b : List ProbeCap). Talk now k.held k.wait k.recorded b k.c k.d) (sym e) holds.talk) in
    let parts = answer_parts (perm_of k.held) k.recorded cap rest k.c (dirty_bytes k.held) one idle.0 idle.1 in
    let on_b = ap (λ (b : List ProbeCap). 2 * length b + 3 * promised k.recorded b k.c) e in
    omega arith

-- a client takes its Grant
took_grant_owes :
    (k : Client) (d : List Downward) → d ≡ k.d → MayTakeGrant k
    → (owed_by (took_grant k d) + 1 ≤ owed_by k)
    × (until_grant (took_grant k d).d (took_grant k d).e ≡ until_grant k.d k.e)
took_grant_owes k [] e may = let has = may.3 in let none : [] ≡ k.d = e in cc
took_grant_owes k (ReleaseAck ∷ rest) e may = let has = may.3 in let none : ReleaseAck ∷ rest ≡ k.d = e in cc
took_grant_owes k (Grant cap bytes ∷ rest) e may =
    let on_d = ap owed_on_d e in (
      omega arith,
      until_acked rest k.e ∙ (sym (until_granted cap bytes rest k.e) ∙ ap (λ (d : List Downward). until_grant d k.e) e),
    )

-- a ReleaseAck first on D owes 1
ack_parts :
    (d rest : List Downward) (e : ℕ) → d ≡ ReleaseAck ∷ rest
    → (owed_on_d (drop 1 d) + 1 ≡ owed_on_d d) × (until_grant (drop 1 d) e ≡ until_grant d e)
ack_parts [] rest e is = cc
ack_parts (Grant cap bytes ∷ d) rest e is = cc
ack_parts (ReleaseAck ∷ d) rest e is = (omega arith, sym (until_ack d e))

-- the Probe owes 2, the ranks that it asks for 3 each
probe_parts :
    (recorded : Perm) (cap : ProbeCap) (b : List ProbeCap) (c : List Upward)
    → rank (probe_perm cap) < rank recorded → b ≡ [] → list_any is_probe_ack c ≡ false
    → 2 * length (b ++ cap ∷ []) + 3 * promised recorded (b ++ cap ∷ []) c + 1 ≤ 2 * length b + 3 * promised recorded b c
probe_parts recorded cap [] [] below e none = omega arith
probe_parts recorded cap [] (ProbeAck answer ∷ c) below e none = cc
probe_parts recorded cap [] (Release given ∷ c) below e none = omega arith
probe_parts recorded cap (first ∷ b) c below e none = cc

-- a client that answers a Probe has as much pending
answered_until : (k : Client) (b : List ProbeCap) → until_grant (answered k b).d (answered k b).e ≡ until_grant k.d k.e
answered_until k [] = refl
answered_until k (cap ∷ rest) = refl

-- a Release joins C, and owes 2
released_on_c : (c : List Upward) (given : Surrender) → owed_on_c (c ++ Release given ∷ []) ≡ owed_on_c c + 2
released_on_c [] given = omega arith
released_on_c (ProbeAck answer ∷ c) given = omega (arith, released_on_c c given)
released_on_c (Release own ∷ c) given = omega (arith, released_on_c c given)

-- it changes nothing that home will record before it is taken
released_promised :
    (recorded : Perm) (b : List ProbeCap) (c : List Upward) (given : Surrender)
    → promised recorded b (c ++ Release given ∷ []) ≡ promised recorded b c
released_promised recorded (cap ∷ b) c given = refl
released_promised recorded [] [] given = refl
released_promised recorded [] (ProbeAck answer ∷ c) given = refl
released_promised recorded [] (Release own ∷ c) given = refl

-- ## Home takes a message of C

-- beside an answer to a Probe no Probe is on B, and behind it no other answer
answered_heard :
    (now : List ℕ) (held : CachedCopy) (wait : Awaited) (recorded : Perm) (b : List ProbeCap) (answer : ProbeAnswer) (rest : List Upward)
    → Heard now held wait recorded b (ProbeAck answer ∷ rest) → (b ≡ []) × (has_probe_ack rest ≡ false)
answered_heard now held wait recorded b answer [] talk = (talk.1, refl)
answered_heard now held wait recorded b answer (Release given ∷ []) talk = (talk.1, refl)
answered_heard now held wait recorded b answer rest talk = absurd talk

-- whatever is on D
answered_talk :
    (now : List ℕ) (held : CachedCopy) (wait : Awaited) (recorded : Perm) (b : List ProbeCap) (answer : ProbeAnswer) (rest : List Upward)
    (d : List Downward)
    → Talk now held wait recorded b (ProbeAck answer ∷ rest) d → (b ≡ []) × (has_probe_ack rest ≡ false)
answered_talk now held wait recorded b answer rest [] talk = answered_heard now held wait recorded b answer rest talk
answered_talk now held wait recorded b answer rest (Grant cap bytes ∷ []) talk = cc
answered_talk now held wait recorded b answer rest (ReleaseAck ∷ []) talk = cc
answered_talk now held wait recorded b answer rest (first ∷ second ∷ tail) talk = absurd talk

-- a Release is the last message on C
release_heard_last :
    (now : List ℕ) (held : CachedCopy) (wait : Awaited) (recorded : Perm) (b : List ProbeCap) (given : Surrender) (rest : List Upward)
    → Heard now held wait recorded b (Release given ∷ rest) → rest ≡ []
release_heard_last now held wait recorded b given [] talk = refl
release_heard_last now held wait recorded b given (message ∷ rest) talk = absurd talk

-- whatever is on D
release_last :
    (now : List ℕ) (held : CachedCopy) (wait : Awaited) (recorded : Perm) (b : List ProbeCap) (given : Surrender) (rest : List Upward)
    (d : List Downward)
    → Talk now held wait recorded b (Release given ∷ rest) d → rest ≡ []
release_last now held wait recorded b given rest [] talk = release_heard_last now held wait recorded b given rest talk
release_last now held wait recorded b given rest (Grant cap bytes ∷ []) talk = cc
release_last now held wait recorded b given rest (ReleaseAck ∷ []) talk = cc
release_last now held wait recorded b given rest (first ∷ second ∷ tail) talk = absurd talk

-- what the answer promised is recorded
ack_promised :
    (recorded : Perm) (b : List ProbeCap) (answer : ProbeAnswer) (rest : List Upward) → b ≡ [] → has_probe_ack rest ≡ false
    → promised (upward_to (ProbeAck answer)) b rest ≡ promised recorded b (ProbeAck answer ∷ rest)
ack_promised recorded [] answer [] e none = refl
ack_promised recorded [] answer (ProbeAck more ∷ rest) e none = cc
ack_promised recorded [] answer (Release given ∷ rest) e none = refl
ack_promised recorded (cap ∷ b) answer rest e none = cc

-- a lower record promises no more
lower_promised :
    (recorded to : Perm) (b : List ProbeCap) (given : Surrender) → rank to ≤ rank recorded
    → promised to b [] ≤ promised recorded b (Release given ∷ [])
lower_promised recorded to [] given below = below
lower_promised recorded to (cap ∷ b) given below = omega arith

-- a ReleaseAck joins an empty D
one_acked : (d : List Downward) → d ≡ [] → owed_on_d (d ++ ReleaseAck ∷ []) ≡ owed_on_d d + 1
one_acked [] none = omega arith
one_acked (first ∷ d) none = cc

-- home takes the first message of C
took_c_owes :
    (now : List ℕ) (k : Client) (c : List Upward) → c ≡ k.c → MayTakeC k → ClientIs now k
    → (owed_by (took_c_from k c) + 1 ≤ owed_by k)
    × (until_grant (took_c_from k c).d (took_c_from k c).e ≡ until_grant k.d k.e)
took_c_owes now k [] e may holds = let has = may.2 in let none : [] ≡ k.c = e in cc
took_c_owes now k (ProbeAck answer ∷ rest) e may holds =
    let talk : Talk now k.held k.wait k.recorded k.b (ProbeAck answer ∷ rest) k.d =
    subst (λ (c : List Upward). Talk now k.held k.wait k.recorded k.b c k.d) (sym e) holds.talk in
    let idle = answered_talk now k.held k.wait k.recorded k.b answer rest k.d talk in
    let same = ack_promised k.recorded k.b answer rest idle.0 idle.1 in
    let on_c = ap (λ (c : List Upward). owed_on_c c + 3 * promised k.recorded k.b c) e in
    (omega arith, refl)
took_c_owes now k (Release given ∷ rest) e may holds =
    let talk : Talk now k.held k.wait k.recorded k.b (Release given ∷ rest) k.d =
    subst (λ (c : List Upward). Talk now k.held k.wait k.recorded k.b c k.d) (sym e) holds.talk in
    let none : rest ≡ [] = release_last now k.held k.wait k.recorded k.b given rest k.d talk in
    let first = first_talk now k.held k.wait k.recorded k.b (Release given) rest k.d talk in
    let below = to_le (Release given) in
    let from = ap rank first.0 in
    let lower = lower_promised k.recorded (upward_to (Release given)) k.b given (omega arith) in
    let was = ap (λ (c : List Upward). owed_on_c (Release given ∷ c) + 3 * promised k.recorded k.b (Release given ∷ c)) none in
    let will = ap (λ (c : List Upward). owed_on_c c + 3 * promised (upward_to (Release given)) k.b c) none in
    let on_c = ap (λ (c : List Upward). owed_on_c c + 3 * promised k.recorded k.b c) e in
    let on_d = one_acked k.d first.2 in
    (omega arith, until_acking k.d k.e first.2)

-- data on C finds home's copy there, and leaves one that owes the same
took_home :
    (now memory : List ℕ) (home : Option Line) (outward : Outward) (accepted : Option Accepted) (client : ℕ → Client) (c : ℕ)
    (bytes : Option (List ℕ))
    → IsDataOf now bytes (client c).recorded → HomeIs now memory home outward client
    → owed_at_home (home_after home bytes) outward accepted ≡ owed_at_home home outward accepted
took_home now memory home outward accepted client c None given holds = refl
took_home now memory (Some line) outward accepted client c (Some bytes) given holds = refl
took_home now memory None outward accepted client c (Some bytes) given holds =
    let never : p_None ≡ Tip = sym (holds.0 c) ∙ given.1 in cc

-- the first message of C has data only from Tip
first_data :
    (now : List ℕ) (k : Client) (c : List Upward) → c ≡ k.c → ClientIs now k → IsDataOf now (first_bytes c) k.recorded
first_data now k [] e holds = tt
first_data now k (message ∷ rest) e holds =
    (first_talk now k.held k.wait k.recorded k.b message rest k.d
    (subst (λ (c : List Upward). Talk now k.held k.wait k.recorded k.b c k.d) (sym e) holds.talk)).1

-- home's copy and what is outward owe apart from all else
home_owes :
    (shape : Shape) (s : Block) (home : Option Line) (outward : Outward)
    → work shape (record s { home = home; outward = outward }) + owed_at_home s.home s.outward s.accepted
    ≡ work shape s + owed_at_home home outward s.accepted
home_owes shape s home outward = omega arith

-- home takes a message of C
took_c_step :
    (shape : Shape) (now : List ℕ) (s : Block) (c : ℕ) → c < shape.clients → MayTakeC (s.client c) → Invariant shape now s
    → work shape (took_c s c) < work shape s
took_c_step shape now s c inside may holds =
    let k : Client = s.client c in
    let home : Option Line = home_after s.home (first_bytes k.c) in
    let taken = took_c_owes now k k.c refl may (holds.local c) in
    let same = took_home now s.memory s.home s.outward s.accepted s.client c (first_bytes k.c)
    (first_data now k k.c refl (holds.local c)) holds.home in
    let at_home = home_owes shape s home s.outward in
    let client = client_owes shape (record s { home = home }) c (took_c_from k k.c) inside taken.1 in
    omega (arith, taken.0)

-- ## The Acquire that home serves

-- an Acquire that home serves owes at most 9 until its Grant, and 6 to fetch the block
accepted_parts :
    (home : Option Line) (outward : Outward) (acquire : Accepted) (client : ℕ → Client)
    → owed_until_grant (Some acquire) client + owed_at_home home outward (Some acquire) ≤ 15 + owed_at_home home outward None
accepted_parts (Some line) outward acquire client =
    let until = until_le (client acquire.client).d (client acquire.client).e in omega arith
accepted_parts None Quiet acquire client =
    let until = until_le (client acquire.client).d (client acquire.client).e in omega arith
accepted_parts None Get acquire client =
    let until = until_le (client acquire.client).d (client acquire.client).e in omega arith
accepted_parts None (Data bytes) acquire client =
    let until = until_le (client acquire.client).d (client acquire.client).e in omega arith
accepted_parts None (Put bytes) acquire client =
    let until = until_le (client acquire.client).d (client acquire.client).e in omega arith
accepted_parts None PutAck acquire client =
    let until = until_le (client acquire.client).d (client acquire.client).e in omega arith

-- with no Acquire to serve home owes no more
not_accepted_le :
    (home : Option Line) (outward : Outward) (accepted : Option Accepted)
    → owed_at_home home outward None ≤ owed_at_home home outward accepted
not_accepted_le (Some line) outward accepted = omega arith
not_accepted_le None Quiet accepted = omega arith
not_accepted_le None Get accepted = omega arith
not_accepted_le None (Data bytes) accepted = omega arith
not_accepted_le None (Put bytes) accepted = omega arith
not_accepted_le None PutAck accepted = omega arith

-- home accepts an Acquire
accepted_step :
    (shape : Shape) (s : Block) (c : ℕ) (a : List Grow) → c < shape.clients → a ≡ (s.client c).a → MayTakeA (s.client c)
    → s.accepted ≡ None
    → work shape (accepted_from s c a) < work shape s
accepted_step shape s c [] inside e may none = let has = may.2 in let empty : [] ≡ (s.client c).a = e in cc
accepted_step shape s c (grow ∷ rest) inside e may none =
    let k : Client = s.client c in
    let later : Client = record k { a = rest } in
    let acquire : Accepted = record { client = c; grow = grow } in
    let on_a = ap length e in
    let sum = put_sum owed_by shape.clients s.client c later inside in
    let parts = accepted_parts s.home s.outward acquire (put s.client c later) in
    let until = ap (λ (o : Option Accepted). owed_until_grant o s.client + owed_at_home s.home s.outward o) none in
    omega arith

-- a Grant joins D
one_granted : (d : List Downward) (cap : GrantCap) (bytes : Option (List ℕ)) → owed_on_d (d ++ Grant cap bytes ∷ []) ≡ owed_on_d d + 2
one_granted [] cap bytes = omega arith
one_granted (Grant own carried ∷ d) cap bytes = omega (arith, one_granted d cap bytes)
one_granted (ReleaseAck ∷ d) cap bytes = omega (arith, one_granted d cap bytes)

-- there are three ranks
rank_le : (perm : Perm) → rank perm ≤ 2
rank_le p_None = omega arith
rank_le Branch = omega arith
rank_le Tip = omega arith

-- no more is promised than Tip
promised_le : (recorded : Perm) (b : List ProbeCap) (c : List Upward) → promised recorded b c ≤ 2
promised_le recorded (cap ∷ b) c = omega (arith, rank_le recorded)
promised_le recorded [] [] = rank_le recorded
promised_le recorded [] (ProbeAck answer ∷ c) = rank_le (upward_to (ProbeAck answer))
promised_le recorded [] (Release given ∷ c) = rank_le recorded

-- a Grant owes 2, and a record of Tip 6
sent_owes :
    (k : Client) (cap : GrantCap) (bytes : List ℕ) → owed_by (sent_grant k cap bytes) ≤ owed_by k + 8
sent_owes k cap bytes =
    let on_d = one_granted k.d cap (grant_bytes k.recorded bytes) in
    let most = promised_le (grant_perm cap) k.b k.c in
    omega arith

-- home sends the Grant
grants_step :
    (shape : Shape) (s : Block) (c : ℕ) (accepted : Option Accepted) → c < shape.clients → accepted ≡ s.accepted
    → MaySendGrant shape s c
    → work shape (grants shape s c accepted) < work shape s
grants_step shape s c None inside e may = let has = may.0.1 in cc
grants_step shape s c (Some acquire) inside e may =
    let k : Client = s.client c in
    let cap : GrantCap = granted shape s acquire in
    let later : Client = sent_grant k cap (home_bytes s.home) in
    let has = may.0.1 in
    let none = may.3 c inside in
    let was : owed_until_grant s.accepted s.client ≡ 9 =
    ap (λ (o : Option Accepted). owed_until_grant o s.client) has ∙ until_none k.d k.e none.0 none.1 in
    let will : owed_until_grant s.accepted (put s.client c later) ≡ 0 =
    ap (λ (o : Option Accepted). owed_until_grant o (put s.client c later)) has
    ∙ at_put (λ m. until_grant m.d m.e ≡ 0) s.client c later c
    (λ own. until_sent k.d cap (grant_bytes k.recorded (home_bytes s.home)) k.e) (λ apart. absurd (apart refl)) in
    let sum = put_sum owed_by shape.clients s.client c later inside in
    let most = sent_owes k cap (home_bytes s.home) in
    omega arith

-- home takes the GrantAck
acked_step :
    (shape : Shape) (s : Block) (c : ℕ) → c < shape.clients → 0 < (s.client c).e
    → work shape (with_client (record s { accepted = None }) c (took_grant_ack (s.client c))) < work shape s
acked_step shape s c inside has =
    let sum = put_sum owed_by shape.clients s.client c (took_grant_ack (s.client c)) inside in
    let at_home = not_accepted_le s.home s.outward s.accepted in
    omega arith

-- ## Home and the memory

-- with a copy at home nothing is outward
outward_none :
    (now memory : List ℕ) (home : Option Line) (outward : Outward) (client : ℕ → Client) → (outward ≡ Quiet → ⊥)
    → HomeIs now memory home outward client → home ≡ None
outward_none now memory None outward client n holds = refl
outward_none now memory (Some line) outward client n holds = absurd (n holds.0)

-- what is owed at home while home has no copy
outward_owes :
    (home : Option Line) (outward own : Outward) (accepted : Option Accepted) → home ≡ None → own ≡ outward
    → owed_at_home home outward accepted ≡ owed_at_home None own accepted
outward_owes home outward own accepted none e =
    ap (λ (h : Option Line). owed_at_home h outward accepted) none ∙ ap (λ (o : Outward). owed_at_home None o accepted) (sym e)

-- home asks the memory
get_step : (shape : Shape) (s : Block) → MaySendGet s → work shape (record s { outward = Get }) < work shape s
get_step shape s may =
    let asked = may.0.1 in
    let was : owed_at_home s.home s.outward s.accepted ≡ 6 =
    outward_owes s.home s.outward Quiet s.accepted may.1 (sym may.2) ∙ ap owed_to_fetch asked in
    let will : owed_at_home s.home Get s.accepted ≡ 5 = ap (λ (h : Option Line). owed_at_home h Get s.accepted) may.1 in
    let at_home = home_owes shape s s.home Get in
    omega arith

-- the memory answers
served_step :
    (shape : Shape) (now : List ℕ) (s : Block) (outward : Outward) → outward ≡ s.outward → IsRequest s.outward → Invariant shape now s
    → work shape (served s outward) < work shape s
served_step shape now s Quiet e may holds =
    absurd (⊎_elim (λ (get : s.outward ≡ Get). cc) (λ (put : (bytes : List ℕ) × (s.outward ≡ Put bytes)). let is = put.1 in cc) may)
served_step shape now s Get e may holds =
    let none = outward_none now s.memory s.home s.outward s.client (λ q. cc) holds.home in
    let was = outward_owes s.home s.outward Get s.accepted none e in
    let will = ap (λ (h : Option Line). owed_at_home h (Data s.memory) s.accepted) none in
    let at_home = home_owes shape s s.home (Data s.memory) in
    omega arith
served_step shape now s (Data bytes) e may holds =
    absurd (⊎_elim (λ (get : s.outward ≡ Get). cc) (λ (put : (bytes : List ℕ) × (s.outward ≡ Put bytes)). let is = put.1 in cc) may)
served_step shape now s (Put bytes) e may holds =
    let none = outward_none now s.memory s.home s.outward s.client (λ q. cc) holds.home in
    let was = outward_owes s.home s.outward (Put bytes) s.accepted none e in
    let will = ap (λ (h : Option Line). owed_at_home h PutAck s.accepted) none in
    let at_home = home_owes shape s s.home PutAck in
    omega arith
served_step shape now s PutAck e may holds =
    absurd (⊎_elim (λ (get : s.outward ≡ Get). cc) (λ (put : (bytes : List ℕ) × (s.outward ≡ Put bytes)). let is = put.1 in cc) may)

-- home takes the data
took_data_step :
    (shape : Shape) (now : List ℕ) (s : Block) (outward : Outward) → outward ≡ s.outward → IsData s.outward → Invariant shape now s
    → work shape (took_data s outward) < work shape s
took_data_step shape now s Quiet e may holds = let is = may.1 in cc
took_data_step shape now s Get e may holds = let is = may.1 in cc
took_data_step shape now s (Data bytes) e may holds =
    let none = outward_none now s.memory s.home s.outward s.client (λ q. cc) holds.home in
    let was = outward_owes s.home s.outward (Data bytes) s.accepted none e in
    let at_home = home_owes shape s (Some (record { bytes = bytes; dirty = false })) Quiet in
    omega arith
took_data_step shape now s (Put bytes) e may holds = let is = may.1 in cc
took_data_step shape now s PutAck e may holds = let is = may.1 in cc

-- home's copy owes 3
copy_owes : (home : Option Line) (line : Line) (outward : Outward) (accepted : Option Accepted) → home ≡ Some line → owed_at_home home outward accepted ≡ 3
copy_owes home line outward accepted e = ap (λ (h : Option Line). owed_at_home h outward accepted) e

-- home drops its copy
dropped_step : (shape : Shape) (s : Block) → MayGiveUp shape s false → work shape (record s { home = None }) < work shape s
dropped_step shape s may =
    let was = copy_owes s.home may.0.0 s.outward s.accepted may.0.1 in
    let idle = may.1 in
    let will : owed_at_home None s.outward s.accepted ≡ 0 =
    outward_owes None s.outward Quiet s.accepted refl (sym idle.quiet) ∙ ap owed_to_fetch idle.not_accepted in
    let at_home = home_owes shape s None s.outward in
    omega arith

-- home writes its copy back
put_step :
    (shape : Shape) (s : Block) (bytes : List ℕ) → MayGiveUp shape s true
    → work shape (record s { home = None; outward = Put bytes }) < work shape s
put_step shape s bytes may =
    let was = copy_owes s.home may.0.0 s.outward s.accepted may.0.1 in
    let idle = may.1 in
    let will : owed_at_home None (Put bytes) s.accepted ≡ 2 = ap (λ (o : Option Accepted). 2 + owed_to_fetch o) idle.not_accepted in
    let at_home = home_owes shape s None (Put bytes) in
    omega arith

-- home takes the acknowledgement
put_ack_step :
    (shape : Shape) (now : List ℕ) (s : Block) → s.outward ≡ PutAck → Invariant shape now s
    → work shape (record s { outward = Quiet }) < work shape s
put_ack_step shape now s is holds =
    let none = outward_none now s.memory s.home s.outward s.client (λ q. cc) holds.home in
    let was = outward_owes s.home s.outward PutAck s.accepted none (sym is) in
    let will = ap (λ (h : Option Line). owed_at_home h Quiet s.accepted) none in
    let at_home = home_owes shape s s.home Quiet in
    omega arith

-- ## One event

-- an event that no client starts lowers what its block owes
lowers :
    (shape : Shape) (now : List ℕ) (s : Block) (e : Event) → MayOn shape s e → Invariant shape now s → is_receiving e ≡ true
    → work shape (after shape s e) < work shape s
lowers shape now s (Load access) may holds received = cc
lowers shape now s (Store access) may holds received = cc
lowers shape now s (SendAcquire c block grow) may holds received = cc
lowers shape now s (SendRelease c block prune) may holds received = cc
lowers shape now s (AnswerProbe c block) may holds received =
    let k : Client = s.client c in
    let less = answered_owes now k k.b refl may.1 (holds.local c) in
    let client = client_owes shape s c (answered k k.b) may.0 (answered_until k k.b) in
    omega arith
lowers shape now s (TakeGrant c block) may holds received =
    let k : Client = s.client c in
    let less = took_grant_owes k k.d refl may.1 in
    let client = client_owes shape s c (took_grant k k.d) may.0 less.1 in
    omega (arith, less.0)
lowers shape now s (TakeReleaseAck c block) may holds received =
    let k : Client = s.client c in
    let less = ack_parts k.d may.1.0 k.e may.1.1 in
    let client = client_owes shape s c (took_release_ack k) may.0 less.1 in
    omega (arith, less.0)
lowers shape now s (AcceptAcquire c block) may holds received =
    accepted_step shape s c (s.client c).a may.0 refl may.1 may.2
lowers shape now s (SendProbe c block cap) may holds received =
    let k : Client = s.client c in
    let less = probe_parts k.recorded cap k.b k.c may.1.0 may.1.1.0 may.1.1.1 in
    let client = client_owes shape s c (sent_probe k cap) may.0 refl in
    omega arith
lowers shape now s (TakeC c block) may holds received = took_c_step shape now s c may.0 may.1 holds
lowers shape now s (SendGrant c block) may holds received = grants_step shape s c s.accepted may.0 refl may.1
lowers shape now s (TakeGrantAck c block) may holds received = acked_step shape s c may.0 may.1
lowers shape now s (SendGet block) may holds received = get_step shape s may
lowers shape now s (Serve block) may holds received = served_step shape now s s.outward refl may holds
lowers shape now s (TakeData block) may holds received = took_data_step shape now s s.outward refl may holds
lowers shape now s (Drop block) may holds received = dropped_step shape s may
lowers shape now s (SendPut block) may holds received = put_step shape s (home_bytes s.home) may
lowers shape now s (TakePutAck block) may holds received = put_ack_step shape now s may holds

-- another adds what it brings
adds :
    (shape : Shape) (s : Block) (e : Event) → MayOn shape s e → is_receiving e ≡ false
    → work shape (after shape s e) ≡ work shape s + brought_by e
adds shape s (Load access) may started = omega arith
adds shape s (Store access) may started =
    let c : ℕ = access.client in
    let client = client_owes shape s c
    (stored (s.client c) (access.address % shape.block_bytes) access.bytes) may.0 refl in
    omega arith
adds shape s (SendAcquire c block grow) may started =
    let k : Client = s.client c in
    let client = client_owes shape s c (sent_acquire k grow) may.0 refl in
    let longer = length_push k.a grow in
    omega arith
adds shape s (SendRelease c block prune) may started =
    let k : Client = s.client c in
    let client = client_owes shape s c (released k prune) may.0 refl in
    let given : Surrender = surrender prune (dirty_bytes k.held) in
    let longer = released_on_c k.c given in
    let same = released_promised k.recorded k.b k.c given in
    omega arith
adds shape s (AnswerProbe c block) may started = cc
adds shape s (TakeGrant c block) may started = cc
adds shape s (TakeReleaseAck c block) may started = cc
adds shape s (AcceptAcquire c block) may started = cc
adds shape s (SendProbe c block cap) may started = cc
adds shape s (TakeC c block) may started = cc
adds shape s (SendGrant c block) may started = cc
adds shape s (TakeGrantAck c block) may started = cc
adds shape s (SendGet block) may started = cc
adds shape s (Serve block) may started = cc
adds shape s (TakeData block) may started = cc
adds shape s (Drop block) may started = cc
adds shape s (SendPut block) may started = cc
adds shape s (TakePutAck block) may started = cc

-- what an event takes off and brings, in one line
both :
    (shape : Shape) (now : List ℕ) (s : Block) (e : Event) → MayOn shape s e → Invariant shape now s
    → work shape (after shape s e) + one_if (is_receiving e) ≤ work shape s + brought_by e
both shape now s e may holds = go (is_receiving e) refl
  where
    go : (t : Bool) → is_receiving e ≡ t → work shape (after shape s e) + one_if t ≤ work shape s + brought_by e
    go true is = let less = lowers shape now s e may holds is in omega arith
    go false is = let same = adds shape s e may is in omega arith

-- ## Every run

-- a fresh client owes nothing
zero_sum : (n : ℕ) → sum_below n (λ x. owed_by fresh_client) ≡ 0
zero_sum zero = refl
zero_sum (suc n) = let rest = zero_sum n in omega arith

-- at reset nothing is owed
reset_owes : (shape : Shape) (bytes : List ℕ) → work shape (reset bytes) ≡ 0
reset_owes shape bytes =
    let none = zero_sum shape.clients in
    omega arith

-- each event that may come next in a run
pub every_receiving_event_lowers : EveryReceivingEventLowers
every_receiving_event_lowers shape image = (
  (λ block. reset_owes shape (image_bytes image (block * shape.block_bytes) shape.block_bytes)),
  (λ events e run may.
      let s : Block = end_of shape image events (block_of shape e) in
      let kept = end_kept shape image events run (block_of shape e) in
      (lowers shape kept.now s e may.1 kept.inv, adds shape s e may.1)),
)

-- an event changes what its own block owes alone
next_owes :
    (shape : Shape) (byte : ℕ → ℕ) (s : ℕ → Block) (e : Event) → MayNext shape s e → AllKept shape byte s
    → work_of_all shape (after_next shape s e) + one_if (is_receiving e) ≤ work_of_all shape s + brought_by e
next_owes shape byte s e may kept =
    let own : ℕ = block_of shape e in
    let k = kept own in
    let sum = changed_sum shape.blocks (λ block. work shape (after_next shape s e block)) (λ block. work shape (s block)) own may.0
    (λ block apart. ap (λ (t : Bool). work shape (cond t (after shape (s block) e) (s block))) (ne_eqb block own apart)) in
    let here : work shape (after_next shape s e own) ≡ work shape (after shape (s own) e) =
    ap (λ (t : Bool). work shape (cond t (after shape (s own) e) (s own))) (eq-eqb own own refl) in
    let one = both shape k.now (s own) e may.1 k.inv in
    omega arith

-- at reset no block owes anything
all_reset : (shape : Shape) (image : List ℕ) (n : ℕ) → sum_below n (λ block. work shape (at_reset shape image block)) ≡ 0
all_reset shape image zero = refl
all_reset shape image (suc n) =
    let first = reset_owes shape (image_bytes image (n * shape.block_bytes) shape.block_bytes) in
    let rest = all_reset shape image n in
    omega arith

-- the two ways in which one is counted
one_as : (t : Bool) → cond t 1 0 ≡ one_if t
one_as true = refl
one_as false = refl

-- what an event brings is 16 where it is a SendAcquire, and 2 where it is a SendRelease
brought_as : (e : Event) → brought_by e ≡ 16 * one_if (is_acquire e) + 2 * one_if (is_release e)
brought_as (SendAcquire c block grow) = refl
brought_as (SendRelease c block prune) = refl
brought_as e = refl

-- one more event counts by its test
count_one : (test : Event → Bool) (e : Event) (es : List Event) → count_by test (e ∷ es) ≡ one_if (test e) + count_by test es
count_one test e es = sum_by-cons (λ x. cond (test x) 1 0) e es ∙ ap (λ (n : ℕ). n + count_by test es) (one_as (test e))

-- any run
run_owes :
    (shape : Shape) (byte : ℕ → ℕ) (s : ℕ → Block) (es : List Event) → AllKept shape byte s → IsRunFrom shape s es
    → count_by is_receiving es + work_of_all shape (end_from shape s es)
    ≤ work_of_all shape s + (16 * count_by is_acquire es + 2 * count_by is_release es)
run_owes shape byte s [] kept run = omega arith
run_owes shape byte s (e ∷ es) kept run =
    let rest = run_owes shape (λ a. byte_after e a (byte a)) (after_next shape s e) es (step_kept shape byte s e run.0 kept) run.1 in
    let first = next_owes shape byte s e run.0 kept in
    let received = count_one is_receiving e es in
    let acquires = count_one is_acquire e es in
    let releases = count_one is_release e es in
    let brought = brought_as e in
    omega arith

-- what was received and what is owed in the end of every run
pub every_run_owes : EveryRunOwes
every_run_owes shape image events run =
    let owes = run_owes shape (slice_index image) (at_reset shape image) events (reset_kept shape image) run in
    let none = all_reset shape image shape.blocks in
    omega arith

-- every run ends
pub every_run_ends : EveryRunEnds
every_run_ends shape image events run = let owes = every_run_owes shape image events run in omega arith
