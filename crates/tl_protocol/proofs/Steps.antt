-- Each permitted event keeps what holds of a block.
use Rattle.std.proofs.Common.{◌≡◌, ◌≢◌, ℕ, ◌-◌, ◌<◌, ◌≤◌, Bool, true, false, List, [], ◌∷◌, ◌++◌, drop, Option, Some, None, ◌⊎◌, inl, inr, ⊎_elim, sym, refl, ap, ◌∙◌, subst, arith, ◌%◌}
use Rattle.tl_types.specs.declared.permission.Perm.{Perm}
use Rattle.tl_types.specs.declared.permission.Grow.TheVariants.{NtoB, NtoT, BtoT}
use Rattle.tl_types.specs.Permission.{rank, grow_from, prune_from, grant_perm}
use Rattle.tl_types.specs.Message.{surrender, upward_to, upward_bytes}
use Rattle.tl_types.specs.declared.message.Surrender.{Surrender}
use Rattle.tl_types.specs.declared.permission.Perm.TheVariants.{None as p_None, Branch, Tip}
use Rattle.tl_types.specs.declared.permission.Grow.{Grow}
use Rattle.tl_types.specs.declared.permission.Prune.{Prune}
use Rattle.tl_types.specs.declared.permission.ProbeCap.{ProbeCap}
use Rattle.tl_types.specs.declared.permission.GrantCap.{GrantCap}
use Rattle.tl_types.specs.declared.permission.GrantCap.TheVariants.{ToB, ToT}
use Rattle.std.proofs.lemmas.Bool.{cases_lt, cases_eq}
use Rattle.tl_protocol.specs.declared.event.Event.{Event}
use Rattle.tl_protocol.specs.declared.event.Event.TheVariants.{Load, Store, SendAcquire, SendRelease, AnswerProbe, TakeGrant, TakeReleaseAck, AcceptAcquire, SendProbe, TakeC, SendGrant, TakeGrantAck, SendGet, Serve, TakeData, Drop, SendPut, TakePutAck}
use Rattle.tl_protocol.specs.declared.shape.Shape.{Shape}
use Rattle.tl_protocol.specs.declared.copy.CachedCopy.{CachedCopy}
use Rattle.tl_protocol.specs.declared.copy.CachedCopy.TheVariants.{Writable}
use Rattle.tl_types.specs.declared.wait.Awaited.TheVariants.{Nothing, ForGrant, ForReleaseAck}
use Rattle.tl_types.specs.declared.message.Upward.{Upward}
use Rattle.tl_types.specs.declared.message.Upward.TheVariants.{ProbeAck, Release}
use Rattle.tl_types.specs.declared.message.Downward.{Downward}
use Rattle.tl_types.specs.declared.message.Downward.TheVariants.{Grant, ReleaseAck}
use Rattle.tl_protocol.specs.declared.client.Client.{Client}
use Rattle.tl_protocol.specs.declared.home.Line.{Line}
use Rattle.tl_protocol.specs.declared.home.Accepted.{Accepted}
use Rattle.tl_protocol.specs.declared.home.Outward.{Outward}
use Rattle.tl_protocol.specs.declared.home.Outward.TheVariants.{Quiet, Get, Data, Put, PutAck}
use Rattle.tl_protocol.specs.Protocol.{Block, NoGrant, NoProbe, NobodyRecorded, RoomFor, with_client, May, MayOn, after, accepted_from, home_after, home_bytes, is_alone, granted_cap, granted, grants, served, took_data, Idle}
use Rattle.tl_protocol.specs.Copy.{perm_of, bytes_of, dirty_bytes, stored_in}
use Rattle.tl_protocol.specs.Pending.{IsGrantPending, beside}
use Rattle.tl_protocol.proofs.Invariant.{has_probe_ack, has_grant, IsData, Talk, ClientIs, IsServed, IsThere, HasData, IsDirty, OutwardIs, HomeIs, Invariant}
use Rattle.tl_protocol.proofs.Messages.{bytes_now, none_to_none, to_le, to_not_tip}
use Rattle.tl_protocol.proofs.Talk.{acked_talk}
use Rattle.tl_protocol.specs.Client.{first_bytes, took_c_from, NoProbePending, NoGrantPending, released, answered, took_grant, sent_grant}
use Rattle.tl_types.specs.Bytes.{overwrite}
use Rattle.tl_protocol.proofs.Clients.{acquired_ok, released_ok, answered_ok, took_grant_ok, took_release_ack_ok, accepted_ok, probed_ok, took_probe_ack_ok, took_release_ok, first_is, sent_grant_ok, took_grant_ack_ok, stored_ok, passed_ok, dirty_tip, released_dirty, answered_dirty, took_grant_dirty, waiting_clean, tip_is, no_grant_after}
use Rattle.tl_protocol.proofs.Blocks.{put, at_put, at_all, put_outside, put_local, put_alone, put_home, put_service, client_step, not_pending, served_one, all_no_grant, all_no_probe, all_none}

-- the bytes last stored in a block after an event of it
abbrev pub now_after : Shape → List ℕ → Event → List ℕ
now_after shape now (Store access) = overwrite (access.address % shape.block_bytes) access.bytes now
now_after shape now e = now

-- ## Steps of a client

-- the stored bytes are a dirty copy, which home need not have
pub store_home :
    (now later memory : List ℕ) (home : Option Line) (outward : Outward) (client : ℕ → Client) (c : ℕ) (k : Client)
    → (client c).recorded ≡ Tip → IsDirty k → HomeIs now memory home outward client
    → HomeIs later memory home outward (put client c k)
store_home now later memory None outward client c k tip dirty h = let none = h.0 c in cc
store_home now later memory (Some line) outward client c k tip dirty h =
    (h.0, inr (c, at_put IsDirty client c k c (λ e. dirty) (λ n. absurd (n refl))), h.2)

-- a client stores: it is the only one with a record above None, and its copy becomes the newest
pub store_step :
    (shape : Shape) (now : List ℕ) (s : Block) (c offset : ℕ) (bytes : List ℕ) → c < shape.clients
    → perm_of (s.client c).held ≡ Tip → Invariant shape now s
    → Invariant shape (overwrite offset bytes now) (with_client s c (record (s.client c) { held = stored_in offset bytes (s.client c).held }))
store_step shape now s c offset bytes inside e holds =
    let old : Client = s.client c in
    let k : Client = record old { held = stored_in offset bytes old.held } in
    let later : List ℕ = overwrite offset bytes now in
    let is : bytes_of old.held ≡ now = bytes_now now old.held (λ n. cc) (holds.local c).current in
    let mine : ClientIs later k = subst (λ (b : List ℕ). ClientIs later (record old { held = Writable (overwrite offset bytes b) true }))
    (sym is) (stored_ok now later old e (holds.local c)) in
    let tip : old.recorded ≡ Tip = (tip_is now old e (holds.local c)).1 in
    record {
      outside = put_outside shape.clients s.client c k inside holds.outside;
      local = put_local now later s.client c k mine
          (λ x n. passed_ok now later (s.client x) (holds.alone c x (λ q. n (sym q)) tip) (holds.local x));
      service = put_service s.accepted s.client c k holds.service (λ p. p) (λ x p. holds.service.no_probe x c p) (holds.service.waits c) (omega arith);
      alone = put_alone s.client c k holds.alone (λ t. t) (λ n. n);
      home = store_home now later s.memory s.home s.outward s.client c k tip (inl tt) holds.home;
    }

-- a client sends an Acquire
pub acquire_step :
    (shape : Shape) (now : List ℕ) (s : Block) (c : ℕ) (grow : Grow) → c < shape.clients → (s.client c).wait ≡ Nothing
    → perm_of (s.client c).held ≡ grow_from grow → Invariant shape now s
    → Invariant shape now (with_client s c (record (s.client c) { a = (s.client c).a ++ grow ∷ []; wait = ForGrant }))
acquire_step shape now s c grow inside w e holds =
    client_step shape now s c (record (s.client c) { a = (s.client c).a ++ grow ∷ []; wait = ForGrant }) inside holds
    (acquired_ok now (s.client c) grow w e (holds.local c)) refl (λ p. p) (λ x p. holds.service.no_probe x c p)
    (λ served none. let waits = holds.service.waits c served none in cc) (λ d. d)

-- a Release is no answer to a Probe
pub no_ack_more :
    (c : List Upward) (given : Surrender) → has_probe_ack c ≡ false → has_probe_ack (c ++ Release given ∷ []) ≡ false
no_ack_more [] given e = refl
no_ack_more (ProbeAck answer ∷ rest) given e = e
no_ack_more (Release other ∷ rest) given e = no_ack_more rest given e

-- a client sends a Release
pub release_step :
    (shape : Shape) (now : List ℕ) (s : Block) (c : ℕ) (prune : Prune) → c < shape.clients → (s.client c).wait ≡ Nothing
    → perm_of (s.client c).held ≡ prune_from prune → Invariant shape now s
    → Invariant shape now (with_client s c (released (s.client c) prune))
release_step shape now s c prune inside w e holds =
    client_step shape now s c (released (s.client c) prune) inside holds
    (released_ok now (s.client c) prune w e (holds.local c)) refl (λ p. p)
    (λ x p. let quiet = holds.service.no_probe x c p in
    (quiet.0, no_ack_more (s.client c).c (surrender prune (dirty_bytes (s.client c).held)) quiet.1))
    (λ served none. let waits = holds.service.waits c served none in cc)
    (released_dirty now (s.client c) prune e (holds.local c))

-- a client answers its Probe
pub answer_step :
    (shape : Shape) (now : List ℕ) (s : Block) (c : ℕ) (cap : ProbeCap) (rest : List ProbeCap) → c < shape.clients
    → (s.client c).b ≡ cap ∷ rest → (s.client c).wait ≢ ForReleaseAck → Invariant shape now s
    → Invariant shape now (with_client s c (answered (s.client c) (s.client c).b))
answer_step shape now s c cap rest inside e w holds =
    subst (λ (b : List ProbeCap). Invariant shape now (with_client s c (answered (s.client c) b))) (sym e)
    (client_step shape now s c (answered (s.client c) (cap ∷ rest)) inside holds
    (answered_ok now (s.client c) (cap ∷ rest) (sym e) w (holds.local c)) refl (λ p. p)
    (λ x p. let quiet = holds.service.no_probe x c p in cc) (holds.service.waits c)
    (answered_dirty now (s.client c) (cap ∷ rest) (holds.local c)))

-- a client takes its Grant, and owes a GrantAck from then on
pub take_grant_step :
    (shape : Shape) (now : List ℕ) (s : Block) (c : ℕ) (cap : GrantCap) (bytes : Option (List ℕ)) (rest : List Downward)
    → c < shape.clients → (s.client c).d ≡ Grant cap bytes ∷ rest → Invariant shape now s
    → Invariant shape now (with_client s c (took_grant (s.client c) (s.client c).d))
take_grant_step shape now s c cap bytes rest inside e holds =
    subst (λ (d : List Downward). Invariant shape now (with_client s c (took_grant (s.client c) d))) (sym e)
    (client_step shape now s c (took_grant (s.client c) (Grant cap bytes ∷ rest)) inside holds
    (took_grant_ok now (s.client c) (Grant cap bytes ∷ rest) (sym e)
    (λ g. (holds.service.waits c (holds.service.served c (inl g)) ((holds.local c).apart g)).1) (holds.local c))
    refl (λ p. inl (ap has_grant e)) (λ x p. holds.service.no_probe x c p) (λ served none. absurd (omega arith))
    (took_grant_dirty now (s.client c) (Grant cap bytes ∷ rest) (sym e) (holds.local c)))

-- a client takes a ReleaseAck
pub take_release_ack_step :
    (shape : Shape) (now : List ℕ) (s : Block) (c : ℕ) (rest : List Downward) → c < shape.clients
    → (s.client c).d ≡ ReleaseAck ∷ rest → Invariant shape now s
    → Invariant shape now (with_client s c (record (s.client c) { wait = Nothing; d = drop 1 (s.client c).d }))
take_release_ack_step shape now s c rest inside e holds =
    let k : Client = s.client c in
    let talk : Talk now k.held k.wait k.recorded k.b k.c (ReleaseAck ∷ rest) =
    subst (λ (d : List Downward). Talk now k.held k.wait k.recorded k.b k.c d) e (holds.local c).talk in
    let waits : k.wait ≡ ForReleaseAck = (acked_talk now k.held k.wait k.recorded k.b k.c rest talk).1 in
    let same : has_grant (drop 1 k.d) ≡ has_grant rest = ap (λ (d : List Downward). has_grant (drop 1 d)) e in
    client_step shape now s c (record k { wait = Nothing; d = drop 1 k.d }) inside holds
    (took_release_ack_ok now k rest e (holds.local c)) refl
    (⊎_elim (λ (g : has_grant (drop 1 k.d) ≡ true). inl (ap has_grant e ∙ (sym same ∙ g))) (λ (p : 0 < k.e). inr p))
    (λ x p. holds.service.no_probe x c p)
    (λ served none. let old = holds.service.waits c served none in cc) (λ d. d)

-- ## Steps of home towards a client

-- home accepts an Acquire, while it serves no other
pub accept_step :
    (shape : Shape) (now : List ℕ) (s : Block) (c : ℕ) (grow : Grow) (rest : List Grow) → c < shape.clients
    → (s.client c).a ≡ grow ∷ rest → s.accepted ≡ None → Invariant shape now s
    → Invariant shape now (accepted_from s c (s.client c).a)
accept_step shape now s c grow rest inside e none holds =
    let k : Client = record (s.client c) { a = rest } in
    let ok = accepted_ok now (s.client c) grow rest (sym e) (holds.local c) in
    let nobody : (x : ℕ) → IsGrantPending (s.client x) → ⊥ =
    λ x p. subst (λ (o : Option Accepted). IsServed o x) none (holds.service.served x p) in
    let nobody_now : (x : ℕ) → IsGrantPending (put s.client c k x) → ⊥ =
    λ x. at_put (λ m. IsGrantPending m → ⊥) s.client c k x (λ q. nobody c) (λ n. nobody x) in
    subst (λ (a : List Grow). Invariant shape now (accepted_from s c a)) (sym e) record {
      outside = put_outside shape.clients s.client c k inside holds.outside;
      local = put_local now now s.client c k ok.0 (λ x n. holds.local x);
      service = record {
        served = λ x p. absurd (nobody_now x p);
        no_probe = λ x y p. absurd (nobody_now x p);
        waits = λ x is. at_put (λ m. m.e ≡ 0 → (m.wait ≡ ForGrant) × (m.a ≡ [])) s.client c k x
            (λ q zero_acks. (ok.2, ok.1)) (λ n. absurd (n (sym is)));
        room = λ acquire same p. absurd (nobody_now acquire.client p);
      };
      alone = put_alone s.client c k holds.alone (λ t. t) (λ n. n);
      home = put_home now s.memory s.home s.outward s.client c k (λ n. n) (λ d. d) holds.home;
    }

-- home sends a Probe, while no Grant is pending
pub probe_step :
    (shape : Shape) (now : List ℕ) (s : Block) (c : ℕ) (cap : ProbeCap) → c < shape.clients → NoProbePending (s.client c)
    → NoGrant shape s → Invariant shape now s
    → Invariant shape now (with_client s c (record (s.client c) { b = (s.client c).b ++ cap ∷ [] }))
probe_step shape now s c cap inside probe grant holds =
    let all : (x : ℕ) → NoGrantPending (s.client x) = all_no_grant shape now s holds grant in
    client_step shape now s c (record (s.client c) { b = (s.client c).b ++ cap ∷ [] }) inside holds
    (probed_ok now (s.client c) cap probe (all c) (holds.local c)) refl (λ p. p)
    (λ x p. absurd (not_pending (s.client x) (all x) p)) (holds.service.waits c) (λ d. d)

-- a message's data becomes home's copy, which is dirty then; without data nobody's newer bytes are lost
pub took_home :
    (now memory : List ℕ) (home : Option Line) (sent : Option (List ℕ)) (outward : Outward) (client : ℕ → Client) (c : ℕ) (k : Client)
    → IsData now sent (client c).recorded → ((client c).recorded ≡ p_None → k.recorded ≡ p_None)
    → ((IsThere sent → ⊥) → IsDirty (client c) → IsDirty k) → HomeIs now memory home outward client
    → HomeIs now memory (home_after home sent) outward (put client c k)
took_home now memory home None outward client c k sent none dirty h =
    put_home now memory home outward client c k none (dirty (λ t. t)) h
took_home now memory None (Some bytes) outward client c k sent none dirty h = let nobody = h.0 c in cc
took_home now memory (Some line) (Some bytes) outward client c k sent none dirty h = (h.0, inl sent.0, λ q. cc)

-- a message without data leaves the bytes that home has not got yet where they are
pub still_dirty :
    (held : CachedCopy) (c rest : List Upward) (message : Upward) → message ∷ rest ≡ c → (IsThere (upward_bytes message) → ⊥)
    → IsThere (dirty_bytes held) ⊎ HasData c → IsThere (dirty_bytes held) ⊎ HasData rest
still_dirty held c rest message e n (inl d) = inl d
still_dirty held c rest message e n (inr h) = absurd (n (subst (λ (u : List Upward). HasData u) (sym e) h))

-- home takes the first message of C, whichever it is
pub took_step :
    (shape : Shape) (now : List ℕ) (s : Block) (c : ℕ) (message : Upward) (rest : List Upward) (k : Client) → c < shape.clients
    → message ∷ rest ≡ (s.client c).c → Invariant shape now s → ClientIs now k → k.recorded ≡ upward_to message
    → (IsGrantPending k → IsGrantPending (s.client c)) → (NoProbePending (s.client c) → NoProbePending k)
    → (IsServed s.accepted c → k.e ≡ 0 → (k.wait ≡ ForGrant) × (k.a ≡ []))
    → ((IsThere (upward_bytes message) → ⊥) → IsDirty (s.client c) → IsDirty k)
    → Invariant shape now (with_client (record s { home = home_after s.home (upward_bytes message) }) c k)
took_step shape now s c message rest k inside e holds mine to before quiet waits dirty =
    let first = first_is now (s.client c) message rest e (holds.local c) in
    let none : (s.client c).recorded ≡ p_None → k.recorded ≡ p_None = λ n. to ∙ none_to_none message (sym first.0 ∙ n) in
    record {
      outside = put_outside shape.clients s.client c k inside holds.outside;
      local = put_local now now s.client c k mine (λ x n. holds.local x);
      service = put_service s.accepted s.client c k holds.service before (λ x p. quiet (holds.service.no_probe x c p)) waits
          (omega (arith, ap rank to, ap rank first.0, to_le message));
      alone = put_alone s.client c k holds.alone (λ t. absurd (to_not_tip message (sym to ∙ t))) none;
      home = took_home now s.memory s.home (upward_bytes message) s.outward s.client c k first.1 none dirty holds.home;
    }

-- where no answer to a Probe is on C, none is behind the first message
pub no_ack_rest : (message : Upward) (rest : List Upward) → has_probe_ack (message ∷ rest) ≡ false → has_probe_ack rest ≡ false
no_ack_rest (ProbeAck answer) rest e = cc
no_ack_rest (Release given) rest e = e

-- a message that home takes brings no Probe
pub quiet_rest :
    (b : List ProbeCap) (c rest : List Upward) (message : Upward) → message ∷ rest ≡ c → (b ≡ []) × (has_probe_ack c ≡ false)
    → (b ≡ []) × (has_probe_ack rest ≡ false)
quiet_rest b c rest message e quiet = (quiet.0, no_ack_rest message rest (ap has_probe_ack e ∙ quiet.1))

-- what home leaves where these are the messages on C
abbrev pub took_by : Block → ℕ → List Upward → Block
took_by s c u = with_client (record s { home = home_after s.home (first_bytes u) }) c (took_c_from (s.client c) u)

-- home takes the first message of C, and answers a Release
pub take_c_step :
    (shape : Shape) (now : List ℕ) (s : Block) (c : ℕ) (message : Upward) (rest : List Upward) → c < shape.clients
    → message ∷ rest ≡ (s.client c).c → Invariant shape now s → Invariant shape now (took_by s c (message ∷ rest))
take_c_step shape now s c (ProbeAck answer) rest inside e holds =
    let old : Client = s.client c in
    let message : Upward = ProbeAck answer in
    took_step shape now s c message rest (record old { recorded = upward_to (ProbeAck answer); c = rest }) inside e holds
    (took_probe_ack_ok now old answer rest e (holds.local c)) refl (λ p. p)
    (quiet_rest old.b old.c rest message e) (holds.service.waits c) (still_dirty old.held old.c rest message e)
take_c_step shape now s c (Release given) rest inside e holds =
    let old : Client = s.client c in
    let message : Upward = Release given in
    let first = first_is now old message rest e (holds.local c) in
    took_step shape now s c message rest (record old { recorded = upward_to (Release given); c = rest; d = old.d ++ ReleaseAck ∷ [] }) inside e holds
    (took_release_ok now old given rest e (holds.local c)) refl
    (⊎_elim (λ (g : has_grant (old.d ++ ReleaseAck ∷ []) ≡ true). let never : false ≡ true = sym (no_grant_after old.d first.2) ∙ g in cc)
    (λ (p : 0 < old.e). inr p))
    (quiet_rest old.b old.c rest message e) (holds.service.waits c) (still_dirty old.held old.c rest message e)

-- nobody else may have Tip where a Grant is sent
pub no_tip_beside :
    (shape : Shape) (now : List ℕ) (s : Block) (c : ℕ) (cap : GrantCap) → Invariant shape now s → RoomFor shape s c cap
    → (x : ℕ) → x ≢ c → (s.client x).recorded ≢ Tip
no_tip_beside shape now s c ToB holds room x n t =
    at_all (λ k. k.recorded ≢ Tip) shape.clients s.client holds.outside (λ e. cc) room x t
no_tip_beside shape now s c ToT holds room x n t =
    ⊎_elim (λ (below : x < shape.clients). let none : (s.client x).recorded ≡ p_None = room x below n in cc)
    (λ (g : shape.clients ≤ x). let none : (s.client x).recorded ≡ p_None = ap (λ (k : Client). k.recorded) (holds.outside x (λ inside. omega arith)) in cc)
    (cases_lt x shape.clients)

-- nor any record, where Tip is granted
pub none_beside :
    (shape : Shape) (now : List ℕ) (s : Block) (c : ℕ) (cap : GrantCap) → Invariant shape now s → RoomFor shape s c cap
    → grant_perm cap ≡ Tip → (x : ℕ) → x ≢ c → (s.client x).recorded ≡ p_None
none_beside shape now s c ToB holds room t x n = cc
none_beside shape now s c ToT holds room t x n =
    ⊎_elim (λ (below : x < shape.clients). room x below n)
    (λ (g : shape.clients ≤ x). ap (λ (k : Client). k.recorded) (holds.outside x (λ inside. omega arith)))
    (cases_lt x shape.clients)

-- toB is granted to an NtoB alone
abbrev pub Fits : Grow → GrantCap → Type 0
Fits grow ToT = Unit {0}
Fits grow ToB = grow ≡ NtoB

-- so it is with the permission that the definitions grant
pub granted_fits : (grow : Grow) (alone : Bool) → Fits grow (granted_cap grow alone)
granted_fits NtoB true = tt
granted_fits NtoB false = refl
granted_fits NtoT alone = tt
granted_fits BtoT alone = tt

-- a permission that is not Tip is at most Branch
not_tip_le : (perm : Perm) → perm ≢ Tip → rank perm ≤ 1
not_tip_le p_None n = omega arith
not_tip_le Branch n = omega arith
not_tip_le Tip n = absurd (n refl)

-- the other records leave a Grant room
room_beside :
    (shape : Shape) (now : List ℕ) (s : Block) (c : ℕ) (grow : Grow) (cap : GrantCap) → Fits grow cap → Invariant shape now s
    → RoomFor shape s c cap → (x : ℕ) → x ≢ c → rank (s.client x).recorded ≤ rank (beside grow)
room_beside shape now s c grow ToT fits holds room x n =
    omega (arith, ap rank (none_beside shape now s c ToT holds room refl x n))
room_beside shape now s c grow ToB fits holds room x n =
    subst (λ (g : Grow). rank (s.client x).recorded ≤ rank (beside g)) (sym fits)
    (not_tip_le (s.client x).recorded (no_tip_beside shape now s c ToB holds room x n))

-- home serves one Acquire
served_acquire : (accepted : Option Accepted) (one other : Accepted) → accepted ≡ Some one → accepted ≡ Some other → one ≡ other
served_acquire None one other e f = cc
served_acquire (Some own) one other e f = cc

-- home's line has the bytes last stored, where no client has others
pub clean_home :
    (now memory : List ℕ) (home : Option Line) (line : Line) (outward : Outward) (client : ℕ → Client) → home ≡ Some line
    → ((x : ℕ) → IsDirty (client x) → ⊥) → HomeIs now memory home outward client
    → (outward ≡ Quiet) × (line.bytes ≡ now) × (line.dirty ≡ false → memory ≡ line.bytes)
clean_home now memory home line outward client e clean h =
    let at : HomeIs now memory (Some line) outward client = subst (λ (o : Option Line). HomeIs now memory o outward client) e h in
    (at.0, ⊎_elim (λ (q : line.bytes ≡ now). q) (λ (d : (x : ℕ) × IsDirty (client x)). absurd (clean d.0 d.1)) at.1, at.2)

-- home sends a Grant of its copy, while no Probe and no Grant is pending: nobody has newer bytes
pub grant_step :
    (shape : Shape) (now : List ℕ) (s : Block) (c : ℕ) (acquire : Accepted) (cap : GrantCap) (line : Line) → c < shape.clients
    → s.accepted ≡ Some acquire → acquire.client ≡ c → RoomFor shape s c cap → s.home ≡ Some line
    → Fits acquire.grow cap → NoProbe shape s → NoGrant shape s → Invariant shape now s
    → Invariant shape now (with_client s c (sent_grant (s.client c) cap (home_bytes s.home)))
grant_step shape now s c acquire cap line inside acc is room e fits probe grant holds =
    let old : Client = s.client c in
    let k : Client = sent_grant old cap (home_bytes s.home) in
    let probes : (x : ℕ) → NoProbePending (s.client x) = all_no_probe shape now s holds probe in
    let grants_out : (x : ℕ) → NoGrantPending (s.client x) = all_no_grant shape now s holds grant in
    let serves : IsServed s.accepted c = subst (λ (o : Option Accepted). IsServed o c) (sym acc) is in
    let waits : old.wait ≡ ForGrant = (holds.service.waits c serves (grants_out c).1).0 in
    let clean : (x : ℕ) → IsDirty (s.client x) → ⊥ = λ x d.
    ⊎_elim
    (λ (q : x ≡ c). waiting_clean now old waits (probes c) (grants_out c) (holds.local c)
    (subst (λ (y : ℕ). IsDirty (s.client y)) q d))
    (λ (n : x ≡ c → ⊥). no_tip_beside shape now s c cap holds room x n (dirty_tip now (s.client x) (holds.local x) d))
    (cases_eq x c) in
    let home = clean_home now s.memory s.home line s.outward s.client e clean holds.home in
    record {
      outside = put_outside shape.clients s.client c k inside holds.outside;
      local = put_local now now s.client c k
          (sent_grant_ok now old cap (home_bytes s.home) waits (probes c) (grants_out c) (ap home_bytes e ∙ home.1) (holds.local c))
          (λ x n. holds.local x);
      service = record {
        served = λ x. at_put (λ m. IsGrantPending m → IsServed s.accepted x) s.client c k x
            (λ q p. subst (λ (y : ℕ). IsServed s.accepted y) (sym q) serves)
            (λ n p. absurd (not_pending (s.client x) (grants_out x) p));
        no_probe = λ x y p. at_put NoProbePending s.client c k y (λ q. probes c) (λ n. probes y);
        waits = λ x at. at_put (λ m. m.e ≡ 0 → (m.wait ≡ ForGrant) × (m.a ≡ [])) s.client c k x
            (λ q. holds.service.waits c serves) (λ n. holds.service.waits x at);
        room = λ other same p x apart. at_put (λ m. rank m.recorded ≤ rank (beside other.grow)) s.client c k x
            (λ q. absurd (apart (q ∙ (sym is ∙ ap (λ (a : Accepted). a.client) (served_acquire s.accepted acquire other acc same)))))
            (λ n. subst (λ (a : Accepted). rank (s.client x).recorded ≤ rank (beside a.grow))
            (served_acquire s.accepted acquire other acc same)
            (room_beside shape now s c acquire.grow cap fits holds room x n));
      };
      alone = λ x y apart. at_put (λ m. m.recorded ≡ Tip → (put s.client c k y).recorded ≡ p_None) s.client c k x
          (λ q t. at_put (λ m. m.recorded ≡ p_None) s.client c k y (λ f. absurd (apart (q ∙ sym f)))
          (none_beside shape now s c cap holds room t y))
          (λ n t. absurd (no_tip_beside shape now s c cap holds room x n t));
      home = subst (λ (o : Option Line). HomeIs now s.memory o s.outward (put s.client c k)) (sym e)
          (home.0, inl home.1, home.2);
    }

-- home takes a GrantAck, and serves nobody then
pub take_grant_ack_step :
    (shape : Shape) (now : List ℕ) (s : Block) (c : ℕ) → c < shape.clients → 0 < (s.client c).e → Invariant shape now s
    → Invariant shape now (with_client (record s { accepted = None }) c (record (s.client c) { e = (s.client c).e - 1 }))
take_grant_ack_step shape now s c inside some holds =
    let old : Client = s.client c in
    let k : Client = record old { e = old.e - 1 } in
    let few : old.e ≤ 1 = (holds.local c).few in
    let mine : IsGrantPending k → ⊥ = ⊎_elim
    (λ (g : has_grant old.d ≡ true). let none : old.e ≡ 0 = (holds.local c).apart g in omega arith)
    (λ (p : 0 < old.e - 1). omega arith) in
    let nobody : (x : ℕ) → IsGrantPending (put s.client c k x) → ⊥ =
    λ x. at_put (λ m. IsGrantPending m → ⊥) s.client c k x (λ q. mine)
    (λ n p. n (served_one s.accepted x c (holds.service.served x p) (holds.service.served c (inr some)))) in
    record {
      outside = put_outside shape.clients s.client c k inside holds.outside;
      local = put_local now now s.client c k (took_grant_ack_ok now old (holds.local c)) (λ x n. holds.local x);
      service = record {
        served = λ x p. nobody x p;
        no_probe = λ x y p. absurd (nobody x p);
        waits = λ x is. absurd is;
        room = λ acquire none. cc;
      };
      alone = put_alone s.client c k holds.alone (λ t. t) (λ n. n);
      home = put_home now s.memory s.home s.outward s.client c k (λ n. n) (λ d. d) holds.home;
    }

-- ## Steps between home and the memory

-- a step between home and the memory, which leaves the clients alone
pub home_step :
    (shape : Shape) (now : List ℕ) (s : Block) (memory : List ℕ) (home : Option Line) (outward : Outward)
    → HomeIs now memory home outward s.client → Invariant shape now s
    → Invariant shape now (record s { memory = memory; home = home; outward = outward })
home_step shape now s memory home outward h holds = record {
  outside = holds.outside;
  local = holds.local;
  service = holds.service;
  alone = holds.alone;
  home = h;
}

-- home sends a Get
pub get_home :
    (now memory : List ℕ) (home : Option Line) (outward : Outward) (client : ℕ → Client) → home ≡ None → outward ≡ Quiet
    → HomeIs now memory home outward client → HomeIs now memory home Get client
get_home now memory None outward client e q h =
    (h.0, subst (λ (o : Outward). OutwardIs now memory o) q h.1)
get_home now memory (Some line) outward client e q h = cc

-- the memory answers a Get with the bytes last stored
pub data_home :
    (now memory : List ℕ) (home : Option Line) (client : ℕ → Client)
    → HomeIs now memory home Get client → HomeIs now memory home (Data memory) client
data_home now memory None client h = (h.0, (h.1, h.1))
data_home now memory (Some line) client h = cc

-- the memory takes the bytes last stored
pub put_ack_home :
    (now memory bytes : List ℕ) (home : Option Line) (client : ℕ → Client)
    → HomeIs now memory home (Put bytes) client → HomeIs now bytes home PutAck client
put_ack_home now memory bytes None client h = (h.0, h.1)
put_ack_home now memory bytes (Some line) client h = cc

-- home takes the data: its copy is clean and the newest
pub filled_home :
    (now memory bytes : List ℕ) (home : Option Line) (client : ℕ → Client)
    → HomeIs now memory home (Data bytes) client
    → HomeIs now memory (Some (record { bytes = bytes; dirty = false })) Quiet client
filled_home now memory bytes None client h = (refl, inl h.1.0, λ q. h.1.1 ∙ sym h.1.0)
filled_home now memory bytes (Some line) client h = cc

-- home takes the acknowledgement of a Put
pub settled_home :
    (now memory : List ℕ) (home : Option Line) (client : ℕ → Client)
    → HomeIs now memory home PutAck client → HomeIs now memory home Quiet client
settled_home now memory None client h = (h.0, h.1)
settled_home now memory (Some line) client h = cc

-- the memory answers whatever is outward
pub serve_step :
    (shape : Shape) (now : List ℕ) (s : Block) (o : Outward) → o ≡ s.outward → Invariant shape now s → Invariant shape now (served s o)
serve_step shape now s Quiet e holds = holds
serve_step shape now s Get e holds =
    home_step shape now s s.memory s.home (Data s.memory)
    (data_home now s.memory s.home s.client (subst (λ (o : Outward). HomeIs now s.memory s.home o s.client) (sym e) holds.home)) holds
serve_step shape now s (Data bytes) e holds = holds
serve_step shape now s (Put bytes) e holds =
    home_step shape now s bytes s.home PutAck
    (put_ack_home now s.memory bytes s.home s.client (subst (λ (o : Outward). HomeIs now s.memory s.home o s.client) (sym e) holds.home)) holds
serve_step shape now s PutAck e holds = holds

-- home takes the data that is there
pub take_data_step :
    (shape : Shape) (now : List ℕ) (s : Block) (o : Outward) → o ≡ s.outward → Invariant shape now s → Invariant shape now (took_data s o)
take_data_step shape now s Quiet e holds = holds
take_data_step shape now s Get e holds = holds
take_data_step shape now s (Data bytes) e holds =
    home_step shape now s s.memory (Some (record { bytes = bytes; dirty = false })) Quiet
    (filled_home now s.memory bytes s.home s.client (subst (λ (o : Outward). HomeIs now s.memory s.home o s.client) (sym e) holds.home)) holds
take_data_step shape now s (Put bytes) e holds = holds
take_data_step shape now s PutAck e holds = holds

-- where nobody is recorded, nobody has bytes that home has not got
pub nobody_dirty :
    (shape : Shape) (now : List ℕ) (s : Block) → Invariant shape now s → NobodyRecorded shape s → (x : ℕ) → IsDirty (s.client x) → ⊥
nobody_dirty shape now s holds nobody x d =
    let none : (s.client x).recorded ≡ p_None = all_none shape now s holds nobody x in
    let tip : (s.client x).recorded ≡ Tip = dirty_tip now (s.client x) (holds.local x) d in
    cc

-- home gives up a clean copy, which equals the memory
pub drop_step :
    (shape : Shape) (now : List ℕ) (s : Block) (line : Line) → s.home ≡ Some line → line.dirty ≡ false
    → Idle shape s → Invariant shape now s → Invariant shape now (record s { home = None })
drop_step shape now s line e clean idle holds =
    let home = clean_home now s.memory s.home line s.outward s.client e
    (nobody_dirty shape now s holds idle.nobody) holds.home in
    home_step shape now s s.memory None s.outward (
      all_none shape now s holds idle.nobody,
      subst (λ (o : Outward). OutwardIs now s.memory o) (sym home.0) (home.2 clean ∙ home.1),
    ) holds

-- home gives up a dirty copy, whose bytes are on their way to the memory then
pub put_step :
    (shape : Shape) (now : List ℕ) (s : Block) (line : Line) → s.home ≡ Some line
    → Idle shape s → Invariant shape now s → Invariant shape now (record s { home = None; outward = Put (home_bytes s.home) })
put_step shape now s line e idle holds =
    let home = clean_home now s.memory s.home line s.outward s.client e
    (nobody_dirty shape now s holds idle.nobody) holds.home in
    home_step shape now s s.memory None (Put (home_bytes s.home))
    (all_none shape now s holds idle.nobody, ap home_bytes e ∙ home.1) holds

-- ## Every event

-- where the event is of the block
pub step_on :
    (shape : Shape) (now : List ℕ) (s : Block) (e : Event) → MayOn shape s e → Invariant shape now s
    → Invariant shape (now_after shape now e) (after shape s e)
step_on shape now s (Load access) may holds = holds
step_on shape now s (Store access) may holds =
    store_step shape now s access.client (access.address % shape.block_bytes) access.bytes may.0 may.1.1 holds
step_on shape now s (SendAcquire c block grow) may holds = acquire_step shape now s c grow may.0 may.1.0 may.1.1 holds
step_on shape now s (SendRelease c block prune) may holds = release_step shape now s c prune may.0 may.1.0 may.1.1 holds
step_on shape now s (AnswerProbe c block) may holds =
    answer_step shape now s c may.1.0.0 may.1.0.1 may.0 may.1.0.2 may.1.1 holds
step_on shape now s (TakeGrant c block) may holds = take_grant_step shape now s c may.1.0 may.1.1 may.1.2 may.0 may.1.3 holds
step_on shape now s (TakeReleaseAck c block) may holds = take_release_ack_step shape now s c may.1.0 may.0 may.1.1 holds
step_on shape now s (AcceptAcquire c block) may holds = accept_step shape now s c may.1.0 may.1.1 may.0 may.1.2 may.2 holds
step_on shape now s (SendProbe c block cap) may holds = probe_step shape now s c cap may.0 may.1.1 may.1.2 holds
step_on shape now s (TakeC c block) may holds =
    subst (λ (u : List Upward). Invariant shape now (took_by s c u)) (sym may.1.2)
    (take_c_step shape now s c may.1.0 may.1.1 may.0 (sym may.1.2) holds)
step_on shape now s (SendGrant c block) may holds =
    let permitted = may.1 in
    let acquire : Accepted = record { client = c; grow = permitted.0.0 } in
    let line : Line = permitted.1.0 in
    subst (λ (o : Option Accepted). Invariant shape now (grants shape s c o)) (sym permitted.0.1)
    (grant_step shape now s c acquire (granted shape s acquire) line may.0 permitted.0.1 refl permitted.0.2 permitted.1.1
    (granted_fits acquire.grow (is_alone shape.clients c s.client)) permitted.2 permitted.3 holds)
step_on shape now s (TakeGrantAck c block) may holds = take_grant_ack_step shape now s c may.0 may.1 holds
step_on shape now s (SendGet block) may holds =
    home_step shape now s s.memory s.home Get (get_home now s.memory s.home s.outward s.client may.1 may.2 holds.home) holds
step_on shape now s (Serve block) may holds = serve_step shape now s s.outward refl holds
step_on shape now s (TakeData block) may holds = take_data_step shape now s s.outward refl holds
step_on shape now s (Drop block) may holds = drop_step shape now s may.0.0 may.0.1 may.0.2 may.1 holds
step_on shape now s (SendPut block) may holds = put_step shape now s may.0.0 may.0.1 may.1 holds
step_on shape now s (TakePutAck block) may holds =
    home_step shape now s s.memory s.home Quiet
    (settled_home now s.memory s.home s.client (subst (λ (o : Outward). HomeIs now s.memory s.home o s.client) may holds.home)) holds

-- an event that is permitted
pub step :
    (shape : Shape) (now : List ℕ) (s : Block) (e : Event) → May shape s e → Invariant shape now s
    → Invariant shape (now_after shape now e) (after shape s e)
step shape now s e may holds = step_on shape now s e may.1 holds
