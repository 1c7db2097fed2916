-- What a register does next is permitted.
use Rattle.std.proofs.Common.{◌≡◌, ◌≤◌, eq-eqb, ◌≢◌, ℕ, ◌<◌, ◌==◌, ◌&&◌, not, Bool, true, false, List, [], ◌∷◌, Option, Some, None, if◌then◌else◌, refl, sym, ◌∙◌, ap, subst, arith, inl, inr, eqb-true}
use Rattle.std.specs.Prelude.{◌⊎◌}
use Rattle.std.proofs.lemmas.Bool.{cases_eq, cases_Bool, and_parts, not-true}
use Rattle.tl_protocol.proofs.Alone.{room_from_alone}
use Rattle.tl_types.proofs.Lowest.{lowest-none, lowest-some}
use Rattle.tl_types.specs.Lowest.{lowest}
use Rattle.tl_types.specs.Permission.{rank, probe_perm}
use Rattle.tl_types.specs.declared.permission.Perm.{Perm}
use Rattle.tl_types.specs.declared.permission.Perm.TheVariants.{None as p_None, Branch, Tip}
use Rattle.tl_types.specs.declared.permission.Grow.{Grow}
use Rattle.tl_types.specs.declared.permission.Grow.TheVariants.{NtoB, NtoT, BtoT}
use Rattle.tl_types.specs.declared.permission.ProbeCap.{ProbeCap}
use Rattle.tl_types.specs.declared.permission.ProbeCap.TheVariants.{ToB, ToN}
use Rattle.tl_types.specs.declared.permission.GrantCap.TheVariants.{ToT as g_ToT}
use Rattle.tl_protocol.specs.declared.home.Accepted.{Accepted}
use Rattle.tl_protocol.specs.declared.home.Line.{Line}
use Rattle.tl_protocol.specs.declared.shape.Shape.{Shape}
use Rattle.tl_protocol.specs.Client.{NoProbePending}
use Rattle.tl_protocol.specs.Pending.{IsGrantPending, beside, IsServiceAt}
use Rattle.tl_protocol.specs.Protocol.{Block, NoGrant, Idle, RoomFor, is_alone, granted, granted_cap, MayOn, block_of}
use Rattle.tl_registers.specs.declared.due.Due.{Due}
use Rattle.tl_registers.specs.declared.due.Due.TheVariants.{Probe, Grant, Get, Put, Drop}
use Rattle.tl_registers.specs.declared.register.Register.{Register}
use Rattle.tl_registers.specs.declared.register.Task.{Task}
use Rattle.tl_registers.specs.declared.register.Task.TheVariants.{Acquire, Replace, Evict}
use Rattle.tl_registers.specs.Fit.{event_of, ProbesFit, Leaves, IsServed, TaskFits, EveryActionIsPermitted}
use Rattle.tl_registers.specs.NextAction.{ActionCase, passes, waits, acts, first, probes, probe_victim, await_probes, give_up, await_put, probes_before, fetch, probe_others, grant, serve, cases}
use Rattle.tl_registers.specs.Pending.{is_probed, probe_pending, grant_pending, is_quiet}
use Rattle.tl_registers.specs.Register.{has_probed, is_above, is_other, must_probe, victim_in, IsBelow}
use Rattle.tl_registers.proofs.Pending.{any_below-false, probe-free, no-probe, no-grant, grant-none, some-granted, quiet-is}

-- ## Permissions

-- a permission above a Probe's cap is more than that Probe leaves
above : (p : Perm) (cap : ProbeCap) → is_above p cap ≡ true → rank (probe_perm cap) < rank p
above p_None ToB h = cc
above p_None ToN h = cc
above Branch ToB h = cc
above Branch ToN h = omega arith
above Tip ToB h = omega arith
above Tip ToN h = omega arith

-- a permission that is not above toN is None
none-below : (p : Perm) → is_above p ToN ≡ false → p ≡ p_None
none-below p_None h = refl
none-below Branch h = cc
none-below Tip h = cc

-- and one that is not above toB is not Tip
no-tip-below : (p : Perm) → is_above p ToB ≡ false → p ≢ Tip
no-tip-below p_None h = λ e. cc
no-tip-below Branch h = λ e. cc
no-tip-below Tip h = cc

-- ## Probes

-- what makes a client the next to be probed
to-probe : (r : Register) (s : Block) (asking : Option ℕ) (cap : ProbeCap) (x : ℕ) → must_probe r s asking cap x ≡ true
    → (is_other asking x ≡ true) × (is_above (s.client x).recorded cap ≡ true) × (has_probed r x ≡ false)
to-probe r s asking cap x h =
    let one = and_parts (is_other asking x) (is_above (s.client x).recorded cap && not (has_probed r x)) h in
    let two = and_parts (is_above (s.client x).recorded cap) (not (has_probed r x)) one.1 in
    (one.0, two.0, not-true (has_probed r x) two.1)

-- once nobody is to be probed and no Probe is pending, no other client has more than the cap
settled : (shape : Shape) (s : Block) (r : Register) (asking : Option ℕ) (cap : ProbeCap) → ProbesFit shape s.client r asking cap
    → lowest (must_probe r s asking cap) shape.clients ≡ None → probe_pending shape s ≡ false
    → (x : ℕ) → x < shape.clients → is_other asking x ≡ true → is_above (s.client x).recorded cap ≡ false
settled shape s r asking cap fits none quiet x l other =
    let m : must_probe r s asking cap x ≡ false = lowest-none (must_probe r s asking cap) shape.clients x none l in
    let q : is_probed (s.client x) ≡ false = any_below-false (λ c. is_probed (s.client c)) shape.clients x quiet l in
    elim (cases_Bool (is_above (s.client x).recorded cap)) [
      | inr e ↦ e
      | inl e ↦ elim (cases_Bool (has_probed r x)) [
        | inl h ↦ (fits x l).answered other h q
        | inr h ↦ let bad : must_probe r s asking cap x ≡ true = rw (other, e, h) refl in cc
      ]
    ]

-- the Probe to the lowest client is permitted
may-probe : (shape : Shape) (s : Block) (r : Register) (asking : Option ℕ) (cap : ProbeCap) (c : ℕ)
    → ProbesFit shape s.client r asking cap → lowest (must_probe r s asking cap) shape.clients ≡ Some c → grant_pending shape s ≡ false
    → (c < shape.clients) × ((rank (probe_perm cap) < rank (s.client c).recorded) × NoProbePending (s.client c) × NoGrant shape s)
may-probe shape s r asking cap c fits h free =
    let at = lowest-some (must_probe r s asking cap) shape.clients c h in
    let why = to-probe r s asking cap c at.1 in
    let clear : is_probed (s.client c) ≡ false =
    elim (cases_Bool (is_probed (s.client c))) [ inr e ↦ e | inl e ↦ let bad = (fits c at.0).sent e in cc ] in
    (at.0, (above (s.client c).recorded cap why.1, probe-free (s.client c) clear, no-grant shape s free))

-- ## The first case that applies

-- a Probe where there is one to send, nothing while Probes are pending, and else what the later cases say
abbrev pub ProbesOr : Option ℕ → ℕ → ProbeCap → Bool → List ActionCase → Due → Type 0
ProbesOr to block cap pending later due =
    ((c : ℕ) × (to ≡ Some c) × (due ≡ Probe c block cap)) ⊎ ((to ≡ None) × (pending ≡ false) × (first later ≡ Some due))

-- where the cases of the Probes come first, what is due is so
pub probes-first : (to : Option ℕ) (block : ℕ) (cap : ProbeCap) (pending : Bool) (later : List ActionCase) (due : Due)
    → first (probes block cap to ∷ (if pending then waits else passes) ∷ later) ≡ Some due
    → ProbesOr to block cap pending later due
probes-first (Some c) block cap pending later due h = inl (c, refl, cc)
probes-first None block cap true later due h = cc
probes-first None block cap false later due h = inr (refl, refl, h)

-- ## A block leaves home

-- the action is of the block, which may take it
abbrev IsPermitted : Shape → Block → ℕ → ℕ → Due → Type 0
IsPermitted shape s own block due = (block_of shape (event_of own due) ≡ block) × MayOn shape s (event_of own due)

-- an idle block's Put is permitted where home's copy is dirty, and its drop where that is clean
given-up : (shape : Shape) (s : Block) (own block : ℕ) (line : Line) (t : Bool) (due : Due)
    → s.home ≡ Some line → line.dirty ≡ t → Idle shape s → (if t then Put block else Drop block) ≡ due
    → IsPermitted shape s own block due
given-up shape s own block line true due home dirty idle e =
    let P : Due → Type 0 = IsPermitted shape s own block in
    subst P e (refl, ((line, home, dirty), idle))
given-up shape s own block line false due home dirty idle e =
    let P : Due → Type 0 = IsPermitted shape s own block in
    subst P e (refl, ((line, home, dirty), idle))

-- with no Acquire accepted no Grant is pending
nobody-granted : (shape : Shape) (s : Block) → IsServiceAt shape s → s.accepted ≡ None → grant_pending shape s ≡ false
nobody-granted shape s kept free = grant-none shape s (λ x l. kept.no_grant free x)

-- a block that is gone from home waits for the Put's acknowledgement
pub gone : (pending : Bool) (due : Due) → first ((if pending then waits else passes) ∷ passes ∷ waits ∷ []) ≡ Some due → ⊥
gone true due h = cc
gone false due h = cc

-- what is due of a block that leaves home is permitted
away-may : (shape : Shape) (s : Block) (r : Register) (own block : ℕ) (home : Option Line) (due : Due)
    → s.home ≡ home → IsServiceAt shape s → Leaves shape s r
    → first (probe_victim shape r block s home ∷ await_probes shape s ∷ give_up block home ∷ await_put ∷ []) ≡ Some due
    → IsPermitted shape s own block due
away-may shape s r own block None due is kept fits h = absurd (gone (probe_pending shape s) due h)
away-may shape s r own block (Some line) due is kept fits h =
    let P : Due → Type 0 = IsPermitted shape s own block in
    elim (probes-first (lowest (must_probe r s None ToN) shape.clients) block ToN (probe_pending shape s)
    (acts (if line.dirty then Put block else Drop block) ∷ await_put ∷ []) due h) [
      | inl k ↦ subst P (sym k.2) (refl, may-probe shape s r None ToN k.0 fits.probes k.1 (nobody-granted shape s kept fits.not_accepted))
      | inr k ↦
          let idle : Idle shape s = record {
            nobody = λ x l. none-below (s.client x).recorded (settled shape s r None ToN fits.probes k.0 k.1 x l refl);
            no_probe = no-probe shape s k.1;
            no_grant = λ x l. kept.no_grant fits.not_accepted x;
            not_accepted = fits.not_accepted;
            quiet = kept.quiet line is;
          } in
          given-up shape s own block line line.dirty due is refl idle (let e = k.2 in cc)
    ]

-- ## The own block is served

-- a client that is not the one that asks is another
is-other : (c x : ℕ) → x ≢ c → is_other (Some c) x ≡ true
is-other c x ne = elim (cases_Bool (x == c)) [ inl e ↦ absurd (ne (eqb-true x c e)) | inr e ↦ rw e refl ]

-- no other client has more than a cap
abbrev OthersBelow : Shape → Block → ℕ → ProbeCap → Type 0
OthersBelow shape s c cap =
    (x : ℕ) → x < shape.clients → is_other (Some c) x ≡ true → is_above (s.client x).recorded cap ≡ false

-- where no other client has more than toN leaves, there is room for a Grant toT
room-toT : (shape : Shape) (s : Block) (c : ℕ) → OthersBelow shape s c ToN → RoomFor shape s c g_ToT
room-toT shape s c h = λ x l ne. none-below (s.client x).recorded (h x l (is-other c x ne))

-- where none has more than toB leaves, and the client itself is not recorded Tip, there is room for what NtoB is granted
room-toB : (shape : Shape) (s : Block) (c : ℕ) → OthersBelow shape s c ToB → (s.client c).recorded ≢ Tip
    → (alone : Bool) → is_alone shape.clients c s.client ≡ alone → RoomFor shape s c (granted_cap NtoB alone)
room-toB shape s c h own true is = λ x l ne. room_from_alone shape.clients c s.client is x l ne
room-toB shape s c h own false is = λ x l.
    elim (cases_eq x c) [
      | inl e ↦ λ tip. own (ap (λ (y : ℕ). (s.client y).recorded) (sym e) ∙ tip)
      | inr e ↦ no-tip-below (s.client x).recorded (h x l (is-other c x e))
    ]

-- the other records leave room for what is granted
room : (shape : Shape) (s : Block) (c : ℕ) (grow : Grow) → OthersBelow shape s c (probes_before grow)
    → (grow ≡ NtoB → (s.client c).recorded ≢ Tip)
    → RoomFor shape s c (granted shape s (record { client = c; grow = grow }))
room shape s c NtoB h own = room-toB shape s c h (own refl) (is_alone shape.clients c s.client) refl
room shape s c NtoT h own = room-toT shape s c h
room shape s c BtoT h own = room-toT shape s c h

-- what may stand beside a Grant is not above what the Probes before it leave
not-above : (p : Perm) (grow : Grow) → rank p ≤ rank (beside grow) → is_above p (probes_before grow) ≡ false
not-above p_None NtoB l = refl
not-above p_None NtoT l = refl
not-above p_None BtoT l = refl
not-above Branch NtoB l = refl
not-above Branch NtoT l = absurd (omega arith)
not-above Branch BtoT l = absurd (omega arith)
not-above Tip NtoB l = absurd (omega arith)
not-above Tip NtoT l = absurd (omega arith)
not-above Tip BtoT l = absurd (omega arith)

-- another client is not the one that asks
other-than : (c x : ℕ) → is_other (Some c) x ≡ true → x ≢ c
other-than c x h = λ e. let t = eq-eqb x c e in cc

-- beside a pending Grant no other client has more than it leaves room for
no-room-to-probe : (shape : Shape) (s : Block) (acquire : Accepted) (x : ℕ) → IsServiceAt shape s → s.accepted ≡ Some acquire
    → grant_pending shape s ≡ true → is_other (Some acquire.client) x ≡ true
    → is_above (s.client x).recorded (probes_before acquire.grow) ≡ true → grant_pending shape s ≡ false
no-room-to-probe shape s acquire x kept is pending other above =
    let y = some-granted shape s pending in
    let whose = kept.served y.0 y.1 in
    let same : Some whose.0 ≡ Some acquire = sym whose.1 ∙ is in
    let one : whose.0 ≡ acquire = cc in
    let here : acquire.client ≡ y.0 = ap (λ (a : Accepted). a.client) (sym one) ∙ whose.2 in
    let P : ℕ → Type 0 = λ z. IsGrantPending (s.client z) in
    let few = kept.room acquire is (subst P (sym here) y.1) x (other-than acquire.client x other) in
    let bad = not-above (s.client x).recorded acquire.grow few in
    cc

-- where a Get or waiting comes first, what is due is the Get, and its test passes
pub fetched : (t : Bool) (later : List ActionCase) (due : Due)
    → first ((if t then acts Get else waits) ∷ later) ≡ Some due → (t ≡ true) × (Get ≡ due)
fetched true later due h = (refl, cc)
fetched false later due h = cc

-- where waiting or the Grant is all that is left, what is due is the Grant, and the test for waiting fails
pub granting : (t : Bool) (c : ℕ) (due : Due)
    → first ((if t then waits else acts (Grant c)) ∷ []) ≡ Some due → (t ≡ false) × (Grant c ≡ due)
granting true c due h = cc
granting false c due h = (refl, cc)

-- what is due to serve the own block is permitted
serve-may : (shape : Shape) (s : Block) (r : Register) (acquire : Accepted) (home : Option Line) (due : Due)
    → s.home ≡ home → IsServiceAt shape s → IsServed shape s r acquire
    → first (fetch s home ∷ probe_others shape r acquire s ∷ await_probes shape s ∷ grant shape acquire s ∷ []) ≡ Some due
    → IsPermitted shape s r.own r.own due
serve-may shape s r acquire None due is kept fits h =
    let P : Due → Type 0 = IsPermitted shape s r.own r.own in
    let k = fetched (is_quiet s.outward) (probe_others shape r acquire s ∷ await_probes shape s ∷ grant shape acquire s ∷ []) due h in
    subst P k.1 (refl, ((acquire, fits.accepted), is, quiet-is s.outward k.0))
serve-may shape s r acquire (Some line) due is kept fits h =
    let P : Due → Type 0 = IsPermitted shape s r.own r.own in
    let c = acquire.client in
    let cap = probes_before acquire.grow in
    elim (probes-first (lowest (must_probe r s (Some c) cap) shape.clients) r.own cap (probe_pending shape s) (grant shape acquire s ∷ []) due h) [
      | inl k ↦
          let at = lowest-some (must_probe r s (Some c) cap) shape.clients k.0 k.1 in
          let why = to-probe r s (Some c) cap k.0 at.1 in
          let free : grant_pending shape s ≡ false =
          elim (cases_Bool (grant_pending shape s)) [ inr e ↦ e | inl e ↦ no-room-to-probe shape s acquire k.0 kept fits.accepted e why.0 why.1 ] in
          subst P (sym k.2) (refl, may-probe shape s r (Some c) cap k.0 fits.probes k.1 free)
      | inr k ↦
          let free = granting (grant_pending shape s) c due k.2 in
          let others = settled shape s r (Some c) cap fits.probes k.0 k.1 in
          let settled_here = kept.settled acquire fits.accepted (no-grant shape s free.0 c fits.inside) (no-probe shape s k.1 c fits.inside) in
          let own : acquire.grow ≡ NtoB → (s.client c).recorded ≢ Tip = λ e. settled_here.3 in
          subst P free.1
          (refl, (fits.inside, ((acquire.grow, fits.accepted, room shape s c acquire.grow others own), (line, is), no-probe shape s k.1, no-grant shape s free.0)))
    ]

-- ## The register

-- while the victim has not left, its cases alone say what comes next
pub away-first : (a b c d : ActionCase) (later : List ActionCase) → d ≡ waits → first (a ∷ b ∷ c ∷ d ∷ later) ≡ first (a ∷ b ∷ c ∷ d ∷ [])
away-first passes passes passes d later e = rw e refl
away-first passes passes waits d later e = refl
away-first passes passes (acts due) d later e = refl
away-first passes waits c d later e = refl
away-first passes (acts due) c d later e = refl
away-first waits b c d later e = refl
away-first (acts due) b c d later e = refl

-- the block of the action is of the memory, and may take it
abbrev IsDone : Shape → (ℕ → Block) → ℕ → Due → Type 0
IsDone shape states own due =
    (block : ℕ) × (block < shape.blocks) × IsPermitted shape (states block) own block due

-- what is due for a register's task is of a block of the memory that may take it
task-may : (shape : Shape) (states : ℕ → Block) (r : Register) (task : Task) (due : Due)
    → ((block : ℕ) → IsServiceAt shape (states block)) → r.own < shape.blocks → IsBelow shape.blocks (victim_in r.own task) → TaskFits shape states r task
    → first (cases shape states r task) ≡ Some due → IsDone shape states r.own due
task-may shape states r (Acquire acquire) due kept own victim fits h =
    (r.own, own, serve-may shape (states r.own) r acquire (states r.own).home due refl (kept r.own) fits h)
task-may shape states r (Replace acquire block) due kept own victim fits h =
    let s = states block in
    let e = away-first (probe_victim shape r block s s.home) (await_probes shape s) (give_up block s.home) await_put (serve shape r acquire (states r.own)) refl in
    (block, victim, away-may shape s r r.own block s.home due refl (kept block) fits.2 (sym e ∙ h))
task-may shape states r Evict due kept own victim fits h =
    (r.own, own, away-may shape (states r.own) r r.own r.own (states r.own).home due refl (kept r.own) fits h)

-- what a register does next is permitted
pub every-action-is-permitted : EveryActionIsPermitted
every-action-is-permitted shape states r due kept fits h =
    let k = task-may shape states r r.task due kept fits.known.0 fits.known.1 fits.task h in
    let P : ℕ → Type 0 = λ b. (b < shape.blocks) × MayOn shape (states b) (event_of r.own due) in
    subst P (sym k.2.0) (k.1, k.2.1)
