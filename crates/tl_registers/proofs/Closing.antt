-- What a register carries out, and what closes it, keeps the agreement.
use Rattle.std.proofs.Common.{◌≡◌, ◌≢◌, ℕ, ◌-◌, ◌<◌, ◌==◌, ◌&&◌, ◌||◌, not, Bool, true, false, List, [], ◌∷◌, map, filter, Option, Some, None, refl, sym, ◌∙◌, ap, subst, arith, inl, inr, eqb-true, eq-eqb}
use Rattle.std.specs.List.{AllByRecursion}
use Rattle.tl_types.proofs.Booleans.{or-else}
use Rattle.std.specs.Prelude.{◌⊎◌}
use Rattle.std.proofs.lemmas.Bool.{cases_eq, cases_Bool, or_parts, not-true, eqb-false}
use Rattle.tl_types.specs.declared.message.Upward.{Upward}
use Rattle.tl_types.specs.declared.permission.Grow.{Grow}
use Rattle.tl_types.specs.declared.permission.ProbeCap.{ProbeCap}
use Rattle.tl_protocol.specs.Client.{sent_grant, took_grant_ack}
use Rattle.tl_protocol.specs.Pending.{IsGrantPending, IsServiceAt}
use Rattle.tl_protocol.specs.Protocol.{Block, Idle, block_of, with_client, granted, grants, home_bytes}
use Rattle.tl_protocol.specs.Runs.{after_next}
use Rattle.tl_protocol.specs.declared.client.Client.{Client}
use Rattle.tl_protocol.specs.declared.event.Event.{Event}
use Rattle.tl_protocol.specs.declared.event.Event.TheVariants.{SendGrant, TakeGrantAck, Drop, SendPut, TakePutAck}
use Rattle.tl_protocol.specs.declared.home.Accepted.{Accepted}
use Rattle.tl_protocol.specs.declared.home.Line.{Line}
use Rattle.tl_protocol.specs.declared.home.Outward.TheVariants.{Quiet, Put, PutAck}
use Rattle.tl_protocol.specs.declared.shape.Shape.{Shape}
use Rattle.tl_registers.specs.declared.register.Register.{Register}
use Rattle.tl_registers.specs.declared.register.Task.{Task}
use Rattle.tl_registers.specs.declared.register.Task.TheVariants.{Acquire, Replace, Evict}
use Rattle.tl_registers.specs.Agree.{IsAtRest, Agree, GrantingKeepsAgreement, PuttingKeepsAgreement, DroppingKeepsAgreement, ClosingKeepsAgreement, EndingKeepsAgreement}
use Rattle.tl_registers.specs.Fit.{Ask, Answer, ProbeFits, Leaves, IsServed, Awaits, TaskFits, Fits}
use Rattle.tl_registers.specs.NextAction.{probes_before}
use Rattle.tl_registers.specs.Pending.{is_probed, has_grant_pending, grant_pending}
use Rattle.tl_registers.specs.Register.{victim_in, has_probed, is_other, is_block, works_on, IsBelow}
use Rattle.tl_registers.specs.Registers.{is_busy, closed, ended, is_evict, task_without, without_victim}
use Rattle.tl_registers.proofs.Agreement.{WorksOn}
use Rattle.tl_registers.proofs.Blocks.{put-probes}
use Rattle.tl_registers.proofs.Opening.{elsewhere, here, fits-elsewhere}
use Rattle.tl_registers.proofs.Pending.{any_below-false, free-probe, grant-free, free-grant}
use Rattle.tl_registers.proofs.Probes.{same-probes}
use Rattle.tl_registers.proofs.Tables.{each-follows, each-map, each-filter, apart-map, apart-filter}

-- ## Who works on a block

-- a register that works on a block sends it away, or serves it as its own
abbrev WorksHow : Shape → (ℕ → Block) → Register → ℕ → Type 0
WorksHow shape states q block =
    Leaves shape (states block) q ⊎ ((acquire : Accepted) × IsServed shape (states block) q acquire × (q.own ≡ block))

-- where a register serves its own block, and this is that block, it serves this one
served-at : (shape : Shape) (states : ℕ → Block) (q : Register) (block : ℕ) (acquire : Accepted) → (q.own == block) ≡ true
    → IsServed shape (states q.own) q acquire → WorksHow shape states q block
served-at shape states q block acquire t h =
    let e = eqb-true q.own block t in
    let P = λ (b : ℕ). IsServed shape (states b) q acquire in
    inr (acquire, subst P e h, e)

-- where it sends a block away, and this is that block, it sends this one away
leaves-at : (shape : Shape) (states : ℕ → Block) (q : Register) (victim block : ℕ) → (victim == block) ≡ true
    → Leaves shape (states victim) q → WorksHow shape states q block
leaves-at shape states q victim block t h =
    let P = λ (b : ℕ). Leaves shape (states b) q in inl (subst P (eqb-true victim block t) h)

-- a register whose task fits sends away each block that it works on, or serves it as its own
works-how : (shape : Shape) (states : ℕ → Block) (q : Register) (task : Task) (block : ℕ) → TaskFits shape states q task
    → WorksOn q task block → WorksHow shape states q block
works-how shape states q (Acquire acquire) block h on =
    elim (cases_Bool (q.own == block)) [
      | inl e ↦ served-at shape states q block acquire e h
      | inr e ↦ let bad = or-else (q.own == block) false on e in cc
    ]
works-how shape states q (Replace acquire victim) block h on =
    elim (cases_Bool (q.own == block)) [
      | inl e ↦ served-at shape states q block acquire e h.0
      | inr e ↦ leaves-at shape states q victim block (or-else (q.own == block) (victim == block) on e) h.2
    ]
works-how shape states q Evict block h on =
    elim (cases_Bool (q.own == block)) [
      | inl e ↦ leaves-at shape states q q.own block e h
      | inr e ↦ let t = or-else (q.own == block) (q.own == block) on e in let bad : true ≡ false = sym t ∙ e in cc
    ]

-- of a busy block, a register that works on it
someone : (shape : Shape) (states : ℕ → Block) (registers : List Register) (block : ℕ) → AllByRecursion (Fits shape states) registers
    → is_busy block registers ≡ true → (q : Register) × WorksHow shape states q block
someone shape states [] block h busy = cc
someone shape states (q ∷ rest) block h busy =
    elim (cases_Bool (works_on q block)) [
      | inl e ↦ (q, works-how shape states q q.task block h.0.task e)
      | inr e ↦ someone shape states rest block h.1 (or-else (works_on q block) (is_busy block rest) busy e)
    ]

-- ## A Grant

-- the client that has the Grant is the one that asks: its Probes are as they were
granted-probe : (shape : Shape) (s : Block) (q : Register) (acquire : Accepted) (c : ℕ) (k : Client) (x : ℕ) → acquire.client ≡ c
    → k.b ≡ (s.client c).b → k.c ≡ (s.client c).c
    → ProbeFits (s.client x) (probes_before acquire.grow) (has_probed q x) (is_other (Some acquire.client) x)
    → ProbeFits ((with_client s c k).client x) (probes_before acquire.grow) (has_probed q x) (is_other (Some acquire.client) x)
granted-probe shape s q acquire c k x client-is b c-is h =
    elim (cases_Bool (x == c)) [
      | inr e ↦ rw e h
      | inl e ↦
          let x-is : x ≡ c = eqb-true x c e in
          let asks : (x == acquire.client) ≡ true = eq-eqb x acquire.client (x-is ∙ sym client-is) in
          let at : s.client c ≡ s.client x = ap s.client (sym x-is) in
          let same-b : k.b ≡ (s.client x).b = b ∙ ap (λ (y : Client). y.b) at in
          let same-c : k.c ≡ (s.client x).c = c-is ∙ ap (λ (y : Client). y.c) at in
          let same : is_probed k ≡ is_probed (s.client x) = rw (same-b, same-c) refl in
          let P = λ (bs : List ProbeCap). Ask (probes_before acquire.grow) bs in
          let Q = λ (cs : List Upward). Answer (probes_before acquire.grow) cs in
          rw e (record {
            sent = λ p. h.sent (sym same ∙ p);
            asks = subst P (sym same-b) h.asks;
            answers = subst Q (sym same-c) h.answers;
            answered = λ o p n. let bad : not (x == acquire.client) ≡ false = rw asks refl in let worse : true ≡ false = sym o ∙ bad in cc;
          })
    ]

-- the task of a register that works on the block whose Grant is sent still fits
granted-fits : (shape : Shape) (states later : ℕ → Block) (q : Register) (task : Task) (c own : ℕ) (grow : Grow) (line : Line)
    (k : Client) → (states own).accepted ≡ Some (record { client = c; grow = grow }) → (states own).home ≡ Some line
    → later own ≡ with_client (states own) c k → k.b ≡ ((states own).client c).b → k.c ≡ ((states own).client c).c
    → WorksOn q task own → TaskFits shape states q task → TaskFits shape later q task
granted-fits shape states later q (Acquire acquire) c own grow line k accepted home is b same-c on h =
    elim (cases_Bool (q.own == own)) [
      | inr e ↦ let bad = or-else (q.own == own) false on e in cc
      | inl e ↦
          let own-is = eqb-true q.own own e in
          let P = λ (x : ℕ). IsServed shape (states x) q acquire in
          let served = subst P own-is h in
          let same : Some acquire ≡ Some (record { client = c; grow = grow }) = sym served.accepted ∙ accepted in
          let one : acquire ≡ record { client = c; grow = grow } = cc in
          let client-is : acquire.client ≡ c = ap (λ (a : Accepted). a.client) one in
          let Q = λ (s : Block). IsServed shape s q acquire in
          let R = λ (x : ℕ). IsServed shape (later x) q acquire in
          subst R (sym own-is) (subst Q (sym is) (record {
            inside = served.inside;
            accepted = served.accepted;
            probes = λ x l. granted-probe shape (states own) q acquire c k x client-is b same-c (served.probes x l);
            getting = served.getting;
            held = λ pending. (line, home);
          }))
    ]
granted-fits shape states later q (Replace acquire victim) c own grow line k accepted home is b same-c on h =
    elim (cases_Bool (q.own == own)) [
      | inl e ↦
          let own-is = eqb-true q.own own e in
          let lacks : (states own).home ≡ None = ap (λ (x : ℕ). (states x).home) (sym own-is) ∙ h.1.lacks in
          let bad : Some line ≡ None = sym home ∙ lacks in
          cc
      | inr e ↦
          let victim-is = eqb-true victim own (or-else (q.own == own) (victim == own) on e) in
          let none : (states own).accepted ≡ None = ap (λ (x : ℕ). (states x).accepted) (sym victim-is) ∙ h.2.not_accepted in
          let bad : Some (record { client = c; grow = grow }) ≡ None = sym accepted ∙ none in
          cc
    ]
granted-fits shape states later q Evict c own grow line k accepted home is b same-c on h =
    elim (works-how shape states q Evict own h on) [
      | inl leaves ↦ let bad : Some (record { client = c; grow = grow }) ≡ None = sym accepted ∙ leaves.not_accepted in cc
      | inr served ↦
          let none : (states own).accepted ≡ None = ap (λ (x : ℕ). (states x).accepted) (sym served.2) ∙ h.not_accepted in
          let bad : Some (record { client = c; grow = grow }) ≡ None = sym accepted ∙ none in
          cc
    ]

-- a state in which a block that is at rest, or that a register works on, changed
pub each-at : (shape : Shape) (states : ℕ → Block) (e : Event) (registers : List Register)
    → ((q : Register) → works_on q (block_of shape e) ≡ true → Fits shape states q → Fits shape (after_next shape states e) q)
    → AllByRecursion (Fits shape states) registers → AllByRecursion (Fits shape (after_next shape states e)) registers
each-at shape states e registers on h =
    each-follows (Fits shape states) (Fits shape (after_next shape states e)) registers
    (λ q fits. elim (cases_Bool (works_on q (block_of shape e))) [
      | inl t ↦ on q t fits
      | inr t ↦ fits-elsewhere shape states e q t fits
    ]) h

-- the other blocks that are at rest stay so
pub rest-at : (shape : Shape) (states : ℕ → Block) (e : Event) (block : ℕ) → (block ≡ block_of shape e → IsAtRest shape (after_next shape states e block))
    → (block ≢ block_of shape e → IsAtRest shape (states block)) → IsAtRest shape (after_next shape states e block)
rest-at shape states e block same other =
    elim (cases_eq block (block_of shape e)) [
      | inl q ↦ same q
      | inr q ↦ let P = λ (s : Block). IsAtRest shape s in subst P (sym (elsewhere shape states e block q)) (other q)
    ]

-- a Grant that is permitted keeps the agreement
pub granting-keeps-agreement : GrantingKeepsAgreement
granting-keeps-agreement shape states registers c own agree may =
    let e = SendGrant c own in
    let s = states own in
    let asked = may.1.1.0 in
    let line = may.1.1.1 in
    let acquire : Accepted = record { client = c; grow = asked.0 } in
    let now : after_next shape states e own ≡ with_client s c (sent_grant (s.client c) (granted shape s acquire) (home_bytes s.home)) =
    here shape states e own refl ∙ ap (grants shape s c) asked.1 in
    record {
      fits = each-at shape states e registers
          (λ q on fits. record {
            known = fits.known;
            places = fits.places;
            task = granted-fits shape states (after_next shape states e) q q.task c own asked.0 line.0 _ asked.1 line.1 now refl refl on fits.task;
          }) agree.fits;
      at_rest = λ block free. rest-at shape states e block
          (λ q. let none = (agree.at_rest block free).not_accepted in
          let there : (states block).accepted ≡ Some acquire = ap (λ (x : ℕ). (states x).accepted) q ∙ asked.1 in
          let bad : None ≡ Some acquire = sym none ∙ there in
          cc)
          (λ q. agree.at_rest block free);
      apart = agree.apart;
    }

-- ## A victim ends

-- a block that no register serves is not the own block of one that serves
pub not-own : (shape : Shape) (states : ℕ → Block) (q : Register) (acquire : Accepted) (victim : ℕ)
    → ((a : Accepted) → IsServed shape (states victim) q a → ⊥) → IsServed shape (states q.own) q acquire → q.own ≢ victim
not-own shape states q acquire victim served h = λ e.
    let P = λ (b : ℕ). IsServed shape (states b) q acquire in served acquire (subst P e h)

-- where no register serves a block, those that stay go on without it
end-task : (shape : Shape) (states later : ℕ → Block) (q : Register) (task : Task) (victim : ℕ)
    → ((acquire : Accepted) → IsServed shape (states victim) q acquire → ⊥)
    → ((block : ℕ) → block ≢ victim → later block ≡ states block)
    → not (is_evict task && (q.own == victim)) ≡ true → TaskFits shape states q task
    → TaskFits shape later q (task_without victim task)
end-task shape states later q (Acquire acquire) victim served other stays h =
    let P = λ (s : Block). IsServed shape s q acquire in
    subst P (sym (other q.own (not-own shape states q acquire victim served h))) h
end-task shape states later q (Replace acquire block) victim served other stays h =
    let P = λ (s : Block). IsServed shape s q acquire in
    let own = other q.own (not-own shape states q acquire victim served h.0) in
    elim (cases_Bool (block == victim)) [
      | inl e ↦ rw e (subst P (sym own) h.0)
      | inr e ↦
          let Q = λ (s : Block). Awaits s in
          let R = λ (s : Block). Leaves shape s q in
          rw e (subst P (sym own) h.0, subst Q (sym own) h.1, subst R (sym (other block (eqb-false block victim e))) h.2)
    ]
end-task shape states later q Evict victim served other stays h =
    elim (cases_Bool (q.own == victim)) [
      | inl e ↦ let bad : not (q.own == victim) ≡ false = rw e refl in let worse : true ≡ false = sym stays ∙ bad in cc
      | inr e ↦ let R = λ (s : Block). Leaves shape s q in subst R (sym (other q.own (eqb-false q.own victim e))) h
    ]

-- the task of a register does not say which clients it has probed
same-marks : (shape : Shape) (states : ℕ → Block) (q : Register) (marked task : Task) → TaskFits shape states q task
    → TaskFits shape states (record q { task = marked }) task
same-marks shape states q marked (Acquire acquire) h = record { inside = h.inside; accepted = h.accepted; probes = h.probes; getting = h.getting; held = h.held }
same-marks shape states q marked (Replace acquire victim) h = (
  record { inside = h.0.inside; accepted = h.0.accepted; probes = h.0.probes; getting = h.0.getting; held = h.0.held },
  h.1,
  record { probes = h.2.probes; not_accepted = h.2.not_accepted; gone = h.2.gone; leaving = h.2.leaving; putting = h.2.putting },
)
same-marks shape states q marked Evict h =
    record { probes = h.probes; not_accepted = h.not_accepted; gone = h.gone; leaving = h.leaving; putting = h.putting }

-- what a register still sends away once a victim is gone is a block of the memory, where it was before
below-without : (blocks own victim : ℕ) (task : Task) → IsBelow blocks (victim_in own task)
    → IsBelow blocks (victim_in own (task_without victim task))
below-without blocks own victim (Acquire acquire) h = h
below-without blocks own victim (Replace acquire block) h =
    elim (cases_Bool (block == victim)) [ inl e ↦ rw e tt | inr e ↦ rw e h ]
below-without blocks own victim Evict h = h

-- a register that goes on without a victim works on none but its blocks
fewer-works : (own victim block : ℕ) (task : Task)
    → ((own == block) || is_block block (victim_in own (task_without victim task))) ≡ true
    → ((own == block) || is_block block (victim_in own task)) ≡ true
fewer-works own victim block (Acquire acquire) h = h
fewer-works own victim block (Replace acquire b) h =
    elim (cases_Bool (own == block)) [
      | inl e ↦ rw e refl
      | inr e ↦ elim (cases_Bool (b == victim)) [
        | inl t ↦ let g : ((own == block) || false) ≡ true = (rw t at h) in let bad = or-else (own == block) false g e in cc
        | inr t ↦ (rw t at h)
      ]
    ]
fewer-works own victim block Evict h = h

-- and on all of them but the victim
still-works : (own victim block : ℕ) (task : Task) → block ≢ victim
    → ((own == block) || is_block block (victim_in own (task_without victim task))) ≡ false
    → ((own == block) || is_block block (victim_in own task)) ≡ false
still-works own victim block (Acquire acquire) ne h = h
still-works own victim block (Replace acquire b) ne h =
    elim (cases_Bool (b == victim)) [
      | inr t ↦ (rw t at h)
      | inl t ↦
          let g : ((own == block) || false) ≡ false = (rw t at h) in
          let here : (own == block) ≡ false = (or_parts (own == block) false g).0 in
          let there : (b == block) ≡ false =
          elim (cases_Bool (b == block)) [ inr n ↦ n | inl n ↦ absurd (ne (sym (eqb-true b block n) ∙ eqb-true b victim t)) ] in
          rw (here, there) refl
    ]
still-works own victim block Evict ne h = h

-- an evict register that closes worked on its own block alone
gone-works : (own victim block : ℕ) (task : Task) → block ≢ victim → not (is_evict task && (own == victim)) ≡ false
    → ((own == block) || is_block block (victim_in own task)) ≡ false
gone-works own victim block (Acquire acquire) ne h = cc
gone-works own victim block (Replace acquire b) ne h = cc
gone-works own victim block Evict ne h =
    elim (cases_Bool (own == victim)) [
      | inr e ↦ let bad : not (own == victim) ≡ true = rw e refl in let worse : true ≡ false = sym bad ∙ h in cc
      | inl e ↦
          let other : (own == block) ≡ false =
          elim (cases_Bool (own == block)) [ inr n ↦ n | inl n ↦ absurd (ne (sym (eqb-true own block n) ∙ eqb-true own victim e)) ] in
          rw other refl
    ]

-- a block that is not busy afterwards was not before
was-free : (test : Register → Bool) (f : Register → Register) (block : ℕ) (xs : List Register)
    → ((q : Register) → test q ≡ false → works_on q block ≡ false)
    → ((q : Register) → works_on (f q) block ≡ false → works_on q block ≡ false)
    → is_busy block (map f (filter test xs)) ≡ false → is_busy block xs ≡ false
was-free test f block [] gone still h = refl
was-free test f block (q ∷ rest) gone still h =
    elim (cases_Bool (test q)) [
      | inl e ↦
          let g : (works_on (f q) block || is_busy block (map f (filter test rest))) ≡ false = (rw e at h) in
          let both = or_parts (works_on (f q) block) (is_busy block (map f (filter test rest))) g in
          let here = still q both.0 in
          let more = was-free test f block rest gone still both.1 in
          rw (here, more) refl
      | inr e ↦
          let g : is_busy block (map f (filter test rest)) ≡ false = (rw e at h) in
          let here = gone q e in
          let more = was-free test f block rest gone still g in
          rw (here, more) refl
    ]

-- where no register serves a block, and it is at rest later, its registers go on or close
end-agrees : (shape : Shape) (states later : ℕ → Block) (registers : List Register) (victim : ℕ) → Agree shape states registers
    → ((q : Register) (acquire : Accepted) → IsServed shape (states victim) q acquire → ⊥)
    → ((block : ℕ) → block ≢ victim → later block ≡ states block) → IsAtRest shape (later victim)
    → Agree shape later (ended victim registers)
end-agrees shape states later registers victim agree served other rest =
    let test : Register → Bool = λ q. not (is_evict q.task && (q.own == victim)) in
    let f = without_victim victim in
    record {
      fits = each-map (Fits shape later) f (filter test registers)
          (each-filter (λ q. Fits shape later (f q)) test registers
          (each-follows (Fits shape states) (λ q. test q ≡ true → Fits shape later (f q)) registers
          (λ q fits stays. record {
            known = (fits.known.0, below-without shape.blocks q.own victim q.task fits.known.1);
            places = fits.places;
            task = same-marks shape later q (task_without victim q.task) (task_without victim q.task) (end-task shape states later q q.task victim (served q) other stays fits.task);
          })
          agree.fits));
      at_rest = λ block free. elim (cases_eq block victim) [
        | inl e ↦ let P = λ (b : ℕ). IsAtRest shape (later b) in subst P (sym e) rest
        | inr e ↦
            let P = λ (s : Block). IsAtRest shape s in
            subst P (sym (other block e))
            (agree.at_rest block
            (was-free test f block registers (λ q t. gone-works q.own victim block q.task e t) (λ q t. still-works q.own victim block q.task e t) free))
      ];
      apart = apart-map f (filter test registers) (λ q block on. fewer-works q.own victim block q.task on) (apart-filter test registers agree.apart);
    }

-- a drop that is permitted, and ends the victim, keeps the agreement
pub dropping-keeps-agreement : DroppingKeepsAgreement
dropping-keeps-agreement shape states registers block agree may =
    let e = Drop block in
    let idle = may.1.1 in
    let Q = λ (s : Block). IsAtRest shape s in
    end-agrees shape states (after_next shape states e) registers block agree
    (λ q acquire served. let bad : None ≡ Some acquire = sym idle.not_accepted ∙ served.accepted in cc)
    (λ b ne. elsewhere shape states e b ne)
    (subst Q (sym (here shape states e block refl)) (record {
      not_accepted = idle.not_accepted;
      unprobed = λ x l. free-probe ((states block).client x) (idle.no_probe x l);
      quiet = idle.quiet;
    }))

-- with a Put acknowledged, home has no copy
no-copy : (shape : Shape) (s : Block) (home : Option Line) → IsServiceAt shape s → s.home ≡ home → s.outward ≡ PutAck → s.home ≡ None
no-copy shape s None kept is out = is
no-copy shape s (Some line) kept is out = let quiet = kept.quiet line is in let bad : PutAck ≡ Quiet = sym out ∙ quiet in cc

-- a block whose Put is acknowledged is at rest once the acknowledgement is taken
acknowledged : (shape : Shape) (states : ℕ → Block) (registers : List Register) (victim : ℕ) → IsServiceAt shape (states victim)
    → Agree shape states registers → (states victim).outward ≡ PutAck → IsAtRest shape (record (states victim) { outward = Quiet })
acknowledged shape states registers victim kept agree out =
    elim (cases_Bool (is_busy victim registers)) [
      | inr free ↦ let quiet = (agree.at_rest victim free).quiet in let bad : PutAck ≡ Quiet = sym out ∙ quiet in cc
      | inl busy ↦
          let who = someone shape states registers victim agree.fits busy in
          elim who.1 [
            | inl leaves ↦ record {
              not_accepted = leaves.not_accepted;
              unprobed = leaves.gone (no-copy shape (states victim) (states victim).home kept refl out);
              quiet = refl;
            }
            | inr served ↦ let getting = served.1.getting in absurd (rw out at getting)
          ]
    ]

-- a victim that ends when its Put's acknowledgement is taken keeps the agreement
pub ending-keeps-agreement : EndingKeepsAgreement
ending-keeps-agreement shape states registers victim steady agree may =
    let e = TakePutAck victim in
    let Q = λ (s : Block). IsAtRest shape s in
    end-agrees shape states (after_next shape states e) registers victim agree
    (λ q acquire served. let getting = served.getting in let out = may.1 in absurd (rw out at getting))
    (λ b ne. elsewhere shape states e b ne)
    (subst Q (sym (here shape states e victim refl)) (acknowledged shape states registers victim (steady.service victim) agree may.1))

-- ## A Put

-- an idle block that leaves home still does once its Put is sent
put-leaves : (shape : Shape) (s later : Block) (q : Register) (bytes : List ℕ) → Idle shape s
    → later ≡ record s { home = None; outward = Put bytes } → Leaves shape s q → Leaves shape later q
put-leaves shape s later q bytes idle now h =
    let P = λ (b : Block). Leaves shape b q in
    subst P (sym now) (record {
      probes = h.probes;
      not_accepted = h.not_accepted;
      gone = λ none x l. free-probe (s.client x) (idle.no_probe x l);
      leaving = λ none e. cc;
      putting = tt;
    })

-- a block that is idle is served by no register
idle-served : (shape : Shape) (s : Block) (q : Register) (acquire : Accepted) → Idle shape s → IsServed shape s q acquire → ⊥
idle-served shape s q acquire idle served = let bad : None ≡ Some acquire = sym idle.not_accepted ∙ served.accepted in cc

-- a block that a register sends away still leaves home when an idle block's Put is sent, that one's or another's
put-away : (shape : Shape) (states later : ℕ → Block) (q : Register) (victim block : ℕ) (bytes : List ℕ)
    → Idle shape (states block) → later block ≡ record (states block) { home = None; outward = Put bytes }
    → ((b : ℕ) → b ≢ block → later b ≡ states b) → Leaves shape (states victim) q → Leaves shape (later victim) q
put-away shape states later q victim block bytes idle now other h =
    elim (cases_eq victim block) [
      | inl e ↦
          let P = λ (b : ℕ). Leaves shape (states b) q in
          let Q = λ (b : ℕ). Leaves shape (later b) q in
          subst Q (sym e) (put-leaves shape (states block) (later block) q bytes idle now (subst P e h))
      | inr e ↦ let P = λ (s : Block). Leaves shape s q in subst P (sym (other victim e)) h
    ]

-- a task still fits when an idle block's Put is sent
put-task : (shape : Shape) (states later : ℕ → Block) (q : Register) (task : Task) (block : ℕ) (bytes : List ℕ)
    → Idle shape (states block) → later block ≡ record (states block) { home = None; outward = Put bytes }
    → ((b : ℕ) → b ≢ block → later b ≡ states b) → TaskFits shape states q task → TaskFits shape later q task
put-task shape states later q (Acquire acquire) block bytes idle now other h =
    let P = λ (s : Block). IsServed shape s q acquire in
    let ne = not-own shape states q acquire block (λ a. idle-served shape (states block) q a idle) h in
    subst P (sym (other q.own ne)) h
put-task shape states later q (Replace acquire victim) block bytes idle now other h =
    let P = λ (s : Block). IsServed shape s q acquire in
    let Q = λ (s : Block). Awaits s in
    let ne = not-own shape states q acquire block (λ a. idle-served shape (states block) q a idle) h.0 in (
      subst P (sym (other q.own ne)) h.0,
      subst Q (sym (other q.own ne)) h.1,
      put-away shape states later q victim block bytes idle now other h.2,
    )
put-task shape states later q Evict block bytes idle now other h = put-away shape states later q q.own block bytes idle now other h

-- a Put of a block that a register works on keeps the agreement
pub putting-keeps-agreement : PuttingKeepsAgreement
putting-keeps-agreement shape states registers block agree may busy =
    let e = SendPut block in
    let s = states block in
    let now = here shape states e block refl in
    record {
      fits = each-follows (Fits shape states) (Fits shape (after_next shape states e)) registers
          (λ q fits. record {
            known = fits.known;
            places = fits.places;
            task = put-task shape states (after_next shape states e) q q.task block (home_bytes s.home) may.1.1 now (λ b ne. elsewhere shape states e b ne) fits.task;
          }) agree.fits;
      at_rest = λ b free. rest-at shape states e b
          (λ q. let none : is_busy block registers ≡ false = ap (λ (x : ℕ). is_busy x registers) (sym q) ∙ free in
          let bad : true ≡ false = sym busy ∙ none in
          cc)
          (λ q. agree.at_rest b free);
      apart = agree.apart;
    }

-- ## The GrantAck is taken

-- while its GrantAck is on its way a client's Grant is pending
granted-by : (k : Client) → 0 < k.e → has_grant_pending k ≡ true
granted-by k l =
    elim (cases_Bool (has_grant_pending k)) [
      | inl e ↦ e
      | inr e ↦ let free = grant-free k e in absurd (omega (arith, free.1))
    ]

-- where one client is granted, a Grant is pending
pending-at : (shape : Shape) (s : Block) (c : ℕ) → c < shape.clients → has_grant_pending (s.client c) ≡ true → grant_pending shape s ≡ true
pending-at shape s c l h =
    elim (cases_Bool (grant_pending shape s)) [
      | inl e ↦ e
      | inr e ↦ let bad : true ≡ false = sym h ∙ any_below-false (λ x. has_grant_pending (s.client x)) shape.clients c e l in cc
    ]

-- of a block whose Grant is pending, a register with another own block has another victim
not-victim : (shape : Shape) (states : ℕ → Block) (q : Register) (own : ℕ) (acquire : Accepted) → Fits shape states q
    → (states own).accepted ≡ Some acquire → (q.own == own) ≡ false → works_on q own ≡ false
not-victim shape states q own acquire fits accepted ne =
    elim (cases_Bool (works_on q own)) [
      | inr e ↦ e
      | inl e ↦ elim (works-how shape states q q.task own fits.task e) [
        | inl leaves ↦ let bad : Some acquire ≡ None = sym accepted ∙ leaves.not_accepted in cc
        | inr served ↦ absurd (eqb-false q.own own ne served.2)
      ]
    ]

-- its own register has no victim any more
own-alone : (shape : Shape) (states : ℕ → Block) (q : Register) (task : Task) (own block : ℕ) (acquire : Accepted) → q.own ≡ own
    → (states own).accepted ≡ Some acquire → grant_pending shape (states own) ≡ true → TaskFits shape states q task → block ≢ own
    → ((q.own == block) || is_block block (victim_in q.own task)) ≡ false
own-alone shape states q (Acquire a) own block acquire is accepted pending h ne =
    let other : (q.own == block) ≡ false =
    elim (cases_Bool (q.own == block)) [ inr n ↦ n | inl n ↦ absurd (ne (sym (eqb-true q.own block n) ∙ is)) ] in
    rw other refl
own-alone shape states q (Replace a victim) own block acquire is accepted pending h ne =
    let here : grant_pending shape (states q.own) ≡ true = ap (λ (x : ℕ). grant_pending shape (states x)) is ∙ pending in
    let line = h.0.held here in
    let bad : Some line.0 ≡ None = sym line.1 ∙ h.1.lacks in
    cc
own-alone shape states q Evict own block acquire is accepted pending h ne =
    let none : (states own).accepted ≡ None = ap (λ (x : ℕ). (states x).accepted) (sym is) ∙ h.not_accepted in
    let bad : Some acquire ≡ None = sym accepted ∙ none in
    cc

-- home holds a block whose Grant is pending
home-holds : (shape : Shape) (states : ℕ → Block) (registers : List Register) (own : ℕ) (acquire : Accepted)
    → Agree shape states registers → (states own).accepted ≡ Some acquire → grant_pending shape (states own) ≡ true
    → (line : Line) × ((states own).home ≡ Some line)
home-holds shape states registers own acquire agree accepted pending =
    elim (cases_Bool (is_busy own registers)) [
      | inr free ↦ let bad : None ≡ Some acquire = sym (agree.at_rest own free).not_accepted ∙ accepted in cc
      | inl busy ↦
          let who = someone shape states registers own agree.fits busy in
          elim who.1 [
            | inl leaves ↦ let bad : Some acquire ≡ None = sym accepted ∙ leaves.not_accepted in cc
            | inr served ↦ served.1.held pending
          ]
    ]

-- a block that is not busy once a register is closed was not before, if that register did not work on it
free-closed : (own block : ℕ) (registers : List Register) → AllByRecursion (λ q. (q.own == own) ≡ true → works_on q block ≡ false) registers
    → is_busy block (closed own registers) ≡ false → is_busy block registers ≡ false
free-closed own block [] each h = refl
free-closed own block (q ∷ rest) each h =
    elim (cases_Bool (q.own == own)) [
      | inl e ↦
          let g : is_busy block (closed own rest) ≡ false = (rw e at h) in
          let here = each.0 e in
          let more = free-closed own block rest each.1 g in
          rw (here, more) refl
      | inr e ↦
          let g : (works_on q block || is_busy block (closed own rest)) ≡ false = (rw e at h) in
          let both = or_parts (works_on q block) (is_busy block (closed own rest)) g in
          let here = both.0 in
          let more = free-closed own block rest each.1 both.1 in
          rw (here, more) refl
    ]

-- a client at which no Grant is pending has none pending once a GrantAck is taken
pub fewer-acks : (k : Client) → has_grant_pending k ≡ false → has_grant_pending (took_grant_ack k) ≡ false
fewer-acks k h =
    let free = grant-free k h in
    let none : k.e - 1 ≡ 0 = omega (arith, free.1) in
    free-grant (took_grant_ack k) (free.0, none)

-- a register that closes when its GrantAck is taken keeps the agreement
pub closing-keeps-agreement : ClosingKeepsAgreement
closing-keeps-agreement shape states registers c own steady agree may =
    let e = TakeGrantAck c own in
    let s = states own in
    let kept = steady.service own in
    let acks : 0 < (s.client c).e = may.1.1 in
    let pending : IsGrantPending (s.client c) = inr acks in
    let whose = kept.served c pending in
    let accepted : s.accepted ≡ Some whose.0 = whose.1 in
    let granted : grant_pending shape s ≡ true = pending-at shape s c may.1.0 (granted-by (s.client c) acks) in
    let line = home-holds shape states registers own whose.0 agree accepted granted in
    let later = after_next shape states e in
    let Q = λ (b : Block). IsAtRest shape b in
    record {
      fits = each-filter (Fits shape later) (λ q. not (q.own == own)) registers
          (each-follows (Fits shape states) (λ q. not (q.own == own) ≡ true → Fits shape later q) registers
          (λ q fits stays. fits-elsewhere shape states e q (not-victim shape states q own whose.0 fits accepted (not-true (q.own == own) stays)) fits)
          agree.fits);
      at_rest = λ block free. rest-at shape states e block
          (λ q.
          let P = λ (x : ℕ). IsAtRest shape (later x) in
          subst P (sym q) (subst Q (sym (here shape states e own refl)) (record {
            not_accepted = refl;
            unprobed = λ x l. (put-probes s c (took_grant_ack (s.client c)) (same-probes (s.client c) _ refl refl refl (fewer-acks (s.client c))) x).brings_none (free-probe (s.client x) (kept.no_probe c x pending));
            quiet = kept.quiet line.0 line.1;
          })))
          (λ ne. agree.at_rest block
          (free-closed own block registers
          (each-follows (Fits shape states) (λ q. (q.own == own) ≡ true → works_on q block ≡ false) registers
          (λ q fits t. own-alone shape states q q.task own block whose.0 (eqb-true q.own own t) accepted granted fits.task ne)
          agree.fits) free));
      apart = apart-filter (λ q. not (q.own == own)) registers agree.apart;
    }
