-- A block that is not quiet permits an event that moves it on.
use Rattle.std.proofs.Common.{◌≡◌, ◌≢◌, ◌⊎◌, ℕ, zero, suc, ◌<◌, ◌≤◌, Bool, true, false, List, [], ◌∷◌, Option, Some, None, inl, inr, ⊎_elim, refl, sym, ap, subst, arith}
use Rattle.std.specs.List.{list_any}
use Rattle.std.proofs.lemmas.Bool.{cases_lt, cases_eq}
use Rattle.tl_types.specs.Message.{is_probe_ack, is_grant}
use Rattle.tl_types.specs.Permission.{rank, probe_perm}
use Rattle.tl_types.specs.declared.permission.Perm.{Perm}
use Rattle.tl_types.specs.declared.permission.Perm.TheVariants.{Tip}
use Rattle.tl_types.specs.declared.permission.Grow.{Grow}
use Rattle.tl_types.specs.declared.permission.Grow.TheVariants.{NtoB, NtoT, BtoT}
use Rattle.tl_types.specs.declared.permission.ProbeCap.{ProbeCap}
use Rattle.tl_types.specs.declared.permission.ProbeCap.TheVariants.{ToB as cap_ToB, ToN as cap_ToN}
use Rattle.tl_types.specs.declared.wait.Awaited.{Awaited}
use Rattle.tl_types.specs.declared.wait.Awaited.TheVariants.{Nothing, ForGrant, ForReleaseAck}
use Rattle.tl_types.specs.declared.message.Upward.{Upward}
use Rattle.tl_types.specs.declared.message.Downward.{Downward}
use Rattle.tl_types.specs.declared.message.Downward.TheVariants.{Grant, ReleaseAck}
use Rattle.tl_protocol.specs.declared.client.Client.{Client}
use Rattle.tl_protocol.specs.declared.event.Event.{Event}
use Rattle.tl_protocol.specs.declared.event.Event.TheVariants.{AnswerProbe, TakeGrant, TakeReleaseAck, AcceptAcquire, SendProbe, TakeC, SendGrant, TakeGrantAck, SendGet, Serve, TakeData, TakePutAck}
use Rattle.tl_protocol.specs.declared.home.Accepted.{Accepted}
use Rattle.tl_protocol.specs.declared.home.Line.{Line}
use Rattle.tl_protocol.specs.declared.home.Outward.{Outward}
use Rattle.tl_protocol.specs.declared.home.Outward.TheVariants.{Quiet, Get, Data, Put, PutAck}
use Rattle.tl_protocol.specs.declared.shape.Shape.{Shape}
use Rattle.tl_protocol.specs.Client.{fresh_client, NoProbePending, NoGrantPending, MayTakeGrant, MayTakeReleaseAck}
use Rattle.tl_protocol.specs.Moves.{IsQuietAt, IsNeeded, EveryBlockMoves}
use Rattle.tl_protocol.specs.Pending.{beside}
use Rattle.tl_protocol.specs.Protocol.{Block, block_of, MayOn, RoomFor, is_alone, granted_cap, granted}
use Rattle.tl_protocol.specs.Queue.{HasFirst}
use Rattle.tl_protocol.specs.Runs.{end_of}
use Rattle.tl_protocol.proofs.Alone.{room_from_alone}
use Rattle.tl_protocol.proofs.Awaiting.{IsAsked, IsUnderWay, end_asked}
use Rattle.tl_protocol.proofs.Blocks.{at_all}
use Rattle.tl_protocol.proofs.Coherent.{end_kept}
use Rattle.tl_protocol.proofs.Invariant.{Talk, ClientIs, Invariant}
use Rattle.tl_protocol.proofs.Messages.{rank_none}
use Rattle.tl_protocol.proofs.Pending.{service_at}

-- a block is quiet, or it permits an event that moves it on, wherever it lies
abbrev Goes : Shape → ℕ → Block → Type 0
Goes shape block s = IsQuietAt s ⊎ ((e : Event) × (block_of shape e ≡ block) × MayOn shape s e × IsNeeded s e)

-- one of the first clients does what is looked for, or none does
search_below :
    (P : Type 0) (Q : ℕ → Type 0) (n : ℕ) → ((x : ℕ) → x < n → P ⊎ Q x) → P ⊎ ((x : ℕ) → x < n → Q x)
search_below P Q zero test = inr (λ x l. absurd (omega arith))
search_below P Q (suc n) test =
    ⊎_elim (λ (p : P). inl p)
    (λ (q : Q n). ⊎_elim (λ (p : P). inl p)
    (λ (each : (x : ℕ) → x < n → Q x). inr (λ x l. ⊎_elim (λ (below : x < n). each x below)
    (λ (above : n ≤ x). subst Q (let same : n ≡ x = omega arith in same) q) (cases_lt x n)))
    (search_below P Q n (λ x l. test x (omega arith))))
    (test n (omega arith))

-- a list has a first element or is empty
first_or_none : {X : Type 0} (xs : List X) → HasFirst xs ⊎ (xs ≡ [])
first_or_none [] = inr refl
first_or_none (x ∷ xs) = inl (x, xs, refl)

-- a number is positive or 0
some_or_none : (n : ℕ) → (0 < n) ⊎ (n ≡ 0)
some_or_none zero = inr refl
some_or_none (suc n) = inl (omega arith)

-- a Grant or a ReleaseAck is first on D, or nothing is there
first_on_d : (k : Client) (d : List Downward) → k.d ≡ d → (MayTakeGrant k ⊎ MayTakeReleaseAck k) ⊎ (d ≡ [])
first_on_d k [] e = inr refl
first_on_d k (Grant cap bytes ∷ rest) e = inl (inl (cap, bytes, rest, e))
first_on_d k (ReleaseAck ∷ rest) e = inl (inr (rest, e))

-- nothing is on B, C, D and E of a client
abbrev IsSilent : Client → Type 0
IsSilent k = (k.e ≡ 0) × (k.d ≡ []) × (k.c ≡ []) × (k.b ≡ [])

-- a client with nothing on C and D waits for no ReleaseAck
not_released :
    (now : List ℕ) (k : Client) → ClientIs now k → k.d ≡ [] → k.c ≡ [] → k.wait ≢ ForReleaseAck
not_released now k holds on_d on_c =
    (subst (λ (c : List Upward). Talk now k.held k.wait k.recorded k.b c []) on_c
    (subst (λ (d : List Downward). Talk now k.held k.wait k.recorded k.b k.c d) on_d holds.talk)).0

-- the first message of E, D, C or B of a client may be taken
client_moves :
    (shape : Shape) (now : List ℕ) (block : ℕ) (s : Block) (x : ℕ) → x < shape.clients → ClientIs now (s.client x)
    → Goes shape block s ⊎ IsSilent (s.client x)
client_moves shape now block s x inside holds =
    let k : Client = s.client x in
    ⊎_elim (λ (has : 0 < k.e). inl (inr (TakeGrantAck x block, refl, (inside, has), refl)))
    (λ (on_e : k.e ≡ 0). ⊎_elim
    (λ (has : MayTakeGrant k ⊎ MayTakeReleaseAck k). ⊎_elim
    (λ (grant : MayTakeGrant k). inl (inr (TakeGrant x block, refl, (inside, grant), refl)))
    (λ (ack : MayTakeReleaseAck k). inl (inr (TakeReleaseAck x block, refl, (inside, ack), refl))) has)
    (λ (on_d : k.d ≡ []). ⊎_elim
    (λ (has : HasFirst k.c). inl (inr (TakeC x block, refl, (inside, has), refl)))
    (λ (on_c : k.c ≡ []). ⊎_elim
    (λ (has : HasFirst k.b). inl (inr (AnswerProbe x block, refl, (inside, (has, not_released now k holds on_d on_c)), refl)))
    (λ (on_b : k.b ≡ []). inr (on_e, on_d, on_c, on_b)) (first_or_none k.b))
    (first_or_none k.c))
    (first_on_d k k.d refl))
    (some_or_none k.e)

-- what passes between home and the memory may go on
outward_moves :
    (shape : Shape) (block : ℕ) (s : Block) (outward : Outward) → s.outward ≡ outward
    → Goes shape block s ⊎ (outward ≡ Quiet)
outward_moves shape block s Quiet e = inr refl
outward_moves shape block s Get e = inl (inr (Serve block, refl, inl e, refl))
outward_moves shape block s (Data bytes) e = inl (inr (TakeData block, refl, (bytes, e), refl))
outward_moves shape block s (Put bytes) e = inl (inr (Serve block, refl, inr (bytes, e), refl))
outward_moves shape block s PutAck e = inl (inr (TakePutAck block, refl, e, refl))

-- ## The Acquire that home serves

-- the Probe that an Acquire needs
probe_for : (grow : Grow) → (cap : ProbeCap) × (probe_perm cap ≡ beside grow)
probe_for NtoB = (cap_ToB, refl)
probe_for NtoT = (cap_ToN, refl)
probe_for BtoT = (cap_ToN, refl)

-- a permission of at most rank 1 is not Tip
below_tip : (perm : Perm) → rank perm ≤ 1 → perm ≢ Tip
below_tip perm below e = let same = ap rank e in absurd (omega arith)

-- the others leave the Grant room
leaves_room :
    (shape : Shape) (s : Block) (c : ℕ) (grow : Grow) (alone : Bool) → is_alone shape.clients c s.client ≡ alone
    → (s.client c).recorded ≢ Tip
    → ((x : ℕ) → x < shape.clients → x ≢ c → rank (s.client x).recorded ≤ rank (beside grow))
    → RoomFor shape s c (granted_cap grow alone)
leaves_room shape s c NtoB true e own others = room_from_alone shape.clients c s.client e
leaves_room shape s c NtoB false e own others = λ x inside.
    ⊎_elim (λ (same : x ≡ c). subst (λ (y : ℕ). (s.client y).recorded ≢ Tip) (sym same) own)
    (λ (apart : x ≢ c). below_tip (s.client x).recorded (others x inside apart)) (cases_eq x c)
leaves_room shape s c NtoT alone e own others = λ x inside apart. rank_none (s.client x).recorded (others x inside apart)
leaves_room shape s c BtoT alone e own others = λ x inside apart. rank_none (s.client x).recorded (others x inside apart)

-- where nothing is under way between home and the clients no Probe is pending
silent_no_probe : (k : Client) → IsSilent k → NoProbePending k
silent_no_probe k silent = (silent.3, subst (λ (c : List Upward). list_any is_probe_ack c ≡ false) (sym silent.2) refl)

-- and no Grant
silent_no_grant : (k : Client) → IsSilent k → NoGrantPending k
silent_no_grant k silent = (subst (λ (d : List Downward). list_any is_grant d ≡ false) (sym silent.1) refl, silent.0)

-- home fetches the block, probes who has too much, or sends the Grant
served_moves :
    (shape : Shape) (now : List ℕ) (block : ℕ) (s : Block) (acquire : Accepted) (home : Option Line) → Invariant shape now s
    → ((x : ℕ) → IsSilent (s.client x)) → s.outward ≡ Quiet → s.accepted ≡ Some acquire → s.home ≡ home
    → Goes shape block s
served_moves shape now block s acquire None holds silent quiet e there =
    inr (SendGet block, refl, ((acquire, e), there, quiet), refl)
served_moves shape now block s acquire (Some line) holds silent quiet e there =
    let c : ℕ = acquire.client in
    let service = service_at shape now s holds in
    let no_grant : NoGrantPending (s.client c) = silent_no_grant (s.client c) (silent c) in
    let waits = (service.waits acquire e no_grant).0 in
    let inside : c < shape.clients =
    ⊎_elim (λ (below : c < shape.clients). below)
    (λ (above : shape.clients ≤ c).
    let fresh : s.client c ≡ fresh_client = service.outside c (λ below. omega arith) in
    let never = ap (λ (k : Client). k.wait) fresh in cc)
    (cases_lt c shape.clients) in
    let own = (service.settled acquire e no_grant (silent_no_probe (s.client c) (silent c))).3 in
    let cap = probe_for acquire.grow in
    ⊎_elim (λ (moves : Goes shape block s). moves)
    (λ (others : (x : ℕ) → x < shape.clients → x ≢ c → rank (s.client x).recorded ≤ rank (beside acquire.grow)). inr (
      SendGrant c block,
      refl,
      (
        inside,
        (
          (acquire.grow, e, leaves_room shape s c acquire.grow (is_alone shape.clients c s.client) refl own others),
          (line, there),
          (λ x l. silent_no_probe (s.client x) (silent x)),
          (λ x l. silent_no_grant (s.client x) (silent x)),
        ),
      ),
      refl,
    ))
    (search_below (Goes shape block s) (λ x. x ≢ c → rank (s.client x).recorded ≤ rank (beside acquire.grow)) shape.clients
    (λ x below. ⊎_elim (λ (same : x ≡ c). inr (λ apart. absurd (apart same)))
    (λ (apart : x ≢ c). ⊎_elim
    (λ (more : rank (beside acquire.grow) < rank (s.client x).recorded). inl (inr (
      SendProbe x block cap.0,
      refl,
      (
        below,
        (
          (let same = ap rank cap.1 in omega arith),
          silent_no_probe (s.client x) (silent x),
          (λ y l. silent_no_grant (s.client y) (silent y)),
        ),
      ),
      (acquire, e, apart, more, cap.1),
    )))
    (λ (less : rank (s.client x).recorded ≤ rank (beside acquire.grow)). inr (λ a. less))
    (cases_lt (rank (beside acquire.grow)) (rank (s.client x).recorded)))
    (cases_eq x c)))

-- ## Quiet

-- with nothing on A and D, and no Acquire that home serves, no Acquire is under way
not_asked : (k : Client) (x : ℕ) → IsSilent k → k.a ≡ [] → IsUnderWay None k x → ⊥
not_asked k x silent on_a (inl asks) = asks on_a
not_asked k x silent on_a (inr (inl being)) = let never = being.1 in cc
not_asked k x silent on_a (inr (inr granted)) = let none = (silent_no_grant k silent).0 in cc

-- a client with nothing on its channels waits for nothing, where home serves no Acquire
waits_for_nothing :
    (now : List ℕ) (k : Client) (x : ℕ) (wait : Awaited) → k.wait ≡ wait → ClientIs now k → IsAsked None k x → IsSilent k → k.a ≡ []
    → wait ≡ Nothing
waits_for_nothing now k x Nothing e holds asked silent on_a = refl
waits_for_nothing now k x ForGrant e holds asked silent on_a =
    absurd (not_asked k x silent on_a (asked e))
waits_for_nothing now k x ForReleaseAck e holds asked silent on_a = absurd (not_released now k holds silent.1 silent.2 e)

-- home accepts an Acquire, or the block is quiet
unserved_moves :
    (shape : Shape) (now : List ℕ) (block : ℕ) (s : Block) → Invariant shape now s → ((x : ℕ) → IsAsked s.accepted (s.client x) x)
    → ((x : ℕ) → IsSilent (s.client x)) → s.outward ≡ Quiet → s.accepted ≡ None
    → Goes shape block s
unserved_moves shape now block s holds asked silent quiet none =
    ⊎_elim (λ (moves : Goes shape block s). moves)
    (λ (each : (x : ℕ) → x < shape.clients → (s.client x).a ≡ []).
    let on_a : (x : ℕ) → (s.client x).a ≡ [] = at_all (λ k. k.a ≡ []) shape.clients s.client holds.outside refl each in
    inl (record {
      client = λ x. record {
        waits = waits_for_nothing now (s.client x) x (s.client x).wait refl (holds.local x)
            (subst (λ (o : Option Accepted). IsAsked o (s.client x) x) none (asked x)) (silent x) (on_a x);
        a = on_a x;
        b = (silent x).3;
        c = (silent x).2;
        d = (silent x).1;
        e = (silent x).0;
      };
      not_accepted = none;
      quiet = quiet;
    }))
    (search_below (Goes shape block s) (λ x. (s.client x).a ≡ []) shape.clients
    (λ x inside. ⊎_elim
    (λ (has : HasFirst (s.client x).a). inl (inr (AcceptAcquire x block, refl, (inside, has, none), refl)))
    (λ (empty : (s.client x).a ≡ []). inr empty)
    (first_or_none (s.client x).a)))

-- whether home serves an Acquire or none
accepted_moves :
    (shape : Shape) (now : List ℕ) (block : ℕ) (s : Block) (accepted : Option Accepted) → Invariant shape now s
    → ((x : ℕ) → IsAsked s.accepted (s.client x) x) → ((x : ℕ) → IsSilent (s.client x)) → s.outward ≡ Quiet
    → s.accepted ≡ accepted
    → Goes shape block s
accepted_moves shape now block s None holds asked silent quiet e = unserved_moves shape now block s holds asked silent quiet e
accepted_moves shape now block s (Some acquire) holds asked silent quiet e =
    served_moves shape now block s acquire s.home holds silent quiet e refl

-- what is right and heard is quiet or moves
block_moves :
    (shape : Shape) (now : List ℕ) (block : ℕ) (s : Block) → Invariant shape now s → ((x : ℕ) → IsAsked s.accepted (s.client x) x)
    → Goes shape block s
block_moves shape now block s holds asked =
    ⊎_elim (λ (moves : Goes shape block s). moves)
    (λ (each : (x : ℕ) → x < shape.clients → IsSilent (s.client x)).
    let silent : (x : ℕ) → IsSilent (s.client x) =
    at_all IsSilent shape.clients s.client holds.outside (refl, refl, refl, refl) each in
    ⊎_elim (λ (moves : Goes shape block s). moves)
    (λ (quiet : s.outward ≡ Quiet). accepted_moves shape now block s s.accepted holds asked silent quiet refl)
    (outward_moves shape block s s.outward refl))
    (search_below (Goes shape block s) (λ x. IsSilent (s.client x)) shape.clients
    (λ x inside. client_moves shape now block s x inside (holds.local x)))

-- each block of the memory moves in the end of every run
pub every_block_moves : EveryBlockMoves
every_block_moves shape image events run block below =
    let kept = end_kept shape image events run block in
    ⊎_elim (λ (quiet : IsQuietAt (end_of shape image events block)). inl quiet)
    (λ (moves : (e : Event) × (block_of shape e ≡ block) × MayOn shape (end_of shape image events block) e
    × IsNeeded (end_of shape image events block) e). inr (moves.0, moves.1, (subst (λ (b : ℕ). b < shape.blocks) (sym moves.1) below, moves.2), moves.3))
    (block_moves shape kept.now block (end_of shape image events block) kept.inv (end_asked shape image events run block))
