-- The Probes and the Get of a register keep the agreement.
use Rattle.std.proofs.Common.{◌≡◌, ◌≢◌, ℕ, ◌<◌, ◌==◌, ◌||◌, Bool, true, false, List, [], ◌∷◌, ◌++◌, length, Option, Some, None, refl, sym, ◌∙◌, ap, subst, arith, inl, inr, eqb-true, eq-eqb, set, length-set, get_or-set_other, get_or-set_same}
use Rattle.std.proofs.lemmas.Bool.{cases_eq, cases_Bool, or_parts, eqb-false}
use Rattle.tl_types.specs.Permission.{rank}
use Rattle.tl_types.specs.declared.permission.Perm.{Perm}
use Rattle.tl_types.specs.declared.permission.Perm.TheVariants.{None as p_None, Branch, Tip}
use Rattle.tl_types.specs.declared.permission.ProbeCap.{ProbeCap}
use Rattle.tl_types.specs.declared.permission.ProbeCap.TheVariants.{ToB, ToN}
use Rattle.tl_protocol.specs.Client.{sent_probe}
use Rattle.tl_protocol.specs.Pending.{IsServiceAt}
use Rattle.tl_protocol.specs.Protocol.{Block, NoGrant, with_client}
use Rattle.tl_protocol.specs.Runs.{after_next}
use Rattle.tl_protocol.specs.declared.client.Client.{Client}
use Rattle.tl_protocol.specs.declared.event.Event.TheVariants.{SendProbe, SendGet}
use Rattle.tl_protocol.specs.declared.home.Accepted.{Accepted}
use Rattle.tl_protocol.specs.declared.home.Outward.TheVariants.{Get}
use Rattle.tl_protocol.specs.declared.shape.Shape.{Shape}
use Rattle.tl_registers.specs.declared.register.Register.{Register}
use Rattle.tl_registers.specs.declared.register.Task.{Task}
use Rattle.tl_registers.specs.declared.register.Task.TheVariants.{Acquire, Replace, Evict}
use Rattle.tl_registers.specs.Agree.{IsSteady, IsToProbe, ProbingKeepsAgreement, FetchingKeepsAgreement}
use Rattle.tl_registers.specs.Fit.{Ask, ProbeFits, ProbesFit, Leaves, IsServed, Awaits, TaskFits, Fits}
use Rattle.tl_registers.specs.NextAction.{probes_before}
use Rattle.tl_registers.specs.Pending.{has_first, is_probed, has_grant_pending, grant_pending}
use Rattle.tl_registers.specs.Register.{with_probed, has_probed, is_above, is_other, is_block, victim_in, victim_of, works_on}
use Rattle.tl_registers.specs.Registers.{is_busy, with_probe_of, noted}
use Rattle.tl_registers.proofs.Agreement.{on-own, on-victim}
use Rattle.tl_registers.proofs.Closing.{rest-at}
use Rattle.tl_registers.proofs.Opening.{elsewhere, here, fits-elsewhere}
use Rattle.tl_registers.proofs.Pending.{any_below-none, free-grant}
use Rattle.tl_registers.proofs.Tables.{IsOneOf, one-among, found-busy, each-both, each-map, apart-map}

-- ## A Get

-- the task of a register that sends a Get for its own block still fits
fetched-task : (shape : Shape) (states later : ℕ → Block) (q : Register) (task : Task) (acquire : Accepted) → task ≡ Acquire acquire
    → later q.own ≡ record (states q.own) { outward = Get } → (states q.own).home ≡ None → TaskFits shape states q task
    → TaskFits shape later q task
fetched-task shape states later q (Acquire a) acquire is now lacks h =
    let P = λ (s : Block). IsServed shape s q a in
    subst P (sym now) (record {
      inside = h.inside;
      accepted = h.accepted;
      probes = h.probes;
      getting = tt;
      held = λ pending. let line = h.held pending in let bad : None ≡ Some line.0 = sym lacks ∙ line.1 in cc;
    })
fetched-task shape states later q (Replace a victim) acquire is now lacks h = cc
fetched-task shape states later q Evict acquire is now lacks h = cc

-- a Get of a register that serves its own block keeps the agreement
pub fetching-keeps-agreement : FetchingKeepsAgreement
fetching-keeps-agreement shape states registers r acquire agree found task may =
    let e = SendGet r.own in
    let later = after_next shape states e in
    let asked = may.1.0 in
    record {
      fits = each-both (IsOneOf r) (Fits shape states) (Fits shape later) registers
          (λ q which fits. elim which [
            | inl same ↦
                let P = λ (x : Register). Fits shape later x in
                let Q = λ (x : Register). Fits shape states x in
                let now : Fits shape states r = subst Q same fits in
                subst P (sym same) (record {
                  known = now.known;
                  places = now.places;
                  task = fetched-task shape states later r r.task acquire task (here shape states e r.own refl) may.1.1 now.task;
                })
            | inr other ↦ fits-elsewhere shape states e q (other r.own (on-own r r.task)) fits
          ])
          (one-among r.own registers r agree.apart found) agree.fits;
      at_rest = λ block free. rest-at shape states e block
          (λ q. let none = (agree.at_rest block free).not_accepted in
          let there : (states block).accepted ≡ Some asked.0 = ap (λ (x : ℕ). (states x).accepted) q ∙ asked.1 in
          let bad : None ≡ Some asked.0 = sym none ∙ there in
          cc)
          (λ q. agree.at_rest block free);
      apart = agree.apart;
    }

-- ## A Probe

-- with one more Probe of the cap on B, each there still asks for it
ask-more : (cap : ProbeCap) (b : List ProbeCap) → Ask cap b → Ask cap (b ++ cap ∷ [])
ask-more cap [] h = (refl, tt)
ask-more cap (first ∷ rest) h = (h.0, ask-more cap rest h.1)

-- with one more Probe on B there is a first one
first-more : (b : List ProbeCap) (cap : ProbeCap) → has_first (b ++ cap ∷ []) ≡ true
first-more [] cap = refl
first-more (first ∷ rest) cap = refl

-- a client to which a Probe was sent has one pending
sent-one : (k : Client) (cap : ProbeCap) → is_probed (sent_probe k cap) ≡ true
sent-one k cap = rw (first-more k.b cap) refl

-- a Probe that is noted of one client leaves what is noted of another
marked-other : (r : Register) (c x : ℕ) → x ≢ c → has_probed (with_probed r c) x ≡ has_probed r x
marked-other r c x ne = get_or-set_other r.probed c x true false ne

-- a client of which a Probe is noted has been probed
marked-here : (r : Register) (c : ℕ) → c < length r.probed → has_probed (with_probed r c) c ≡ true
marked-here r c l = get_or-set_same r.probed c true false l

-- the block's Probes fit with the one more, which is noted
probed-more : (shape : Shape) (s : Block) (r : Register) (asking : Option ℕ) (cap : ProbeCap) (c : ℕ) → c < length r.probed
    → ProbesFit shape s.client r asking cap
    → ProbesFit shape (with_client s c (sent_probe (s.client c) cap)).client (with_probed r c) asking cap
probed-more shape s r asking cap c place h = λ x l.
    elim (cases_Bool (x == c)) [
      | inl e ↦
          let is : x ≡ c = eqb-true x c e in
          let marked : has_probed (with_probed r c) x ≡ true = ap (has_probed (with_probed r c)) is ∙ marked-here r c place in
          let P = λ (y : ℕ). ProbeFits (s.client y) cap (has_probed r y) (is_other asking y) in
          let was = subst P is (h x l) in
          rw e (record {
            sent = λ p. marked;
            asks = ask-more cap (s.client c).b was.asks;
            answers = was.answers;
            answered = λ o p n. let bad : true ≡ false = sym (sent-one (s.client c) cap) ∙ n in cc;
          })
      | inr e ↦
          let mark = marked-other r c x (eqb-false x c e) in
          let P = λ (t : Bool). ProbeFits (s.client x) cap t (is_other asking x) in
          rw e (subst P (sym mark) (h x l))
    ]

-- None is above no cap
none-above : (p : Perm) (cap : ProbeCap) → p ≡ p_None → is_above p cap ≡ false
none-above p ToB e = ap (λ q. is_above q ToB) e
none-above p ToN e = ap (λ q. is_above q ToN) e

-- where nobody is recorded, another block's Probe may be noted
noted-elsewhere : (shape : Shape) (s : Block) (r : Register) (asking : Option ℕ) (cap : ProbeCap) (c : ℕ) → c < length r.probed
    → ((x : ℕ) → (s.client x).recorded ≡ p_None) → ProbesFit shape s.client r asking cap
    → ProbesFit shape s.client (with_probed r c) asking cap
noted-elsewhere shape s r asking cap c place nobody h = λ x l.
    elim (cases_eq x c) [
      | inl is ↦
          let was = h x l in
          let marked : has_probed (with_probed r c) x ≡ true = ap (has_probed (with_probed r c)) is ∙ marked-here r c place in
          record {
            sent = λ p. marked;
            asks = was.asks;
            answers = was.answers;
            answered = λ o p n. none-above (s.client x).recorded cap (nobody x);
          }
      | inr ne ↦
          let P = λ (t : Bool). ProbeFits (s.client x) cap t (is_other asking x) in
          subst P (sym (marked-other r c x ne)) (h x l)
    ]

-- a permission that is no other than None is None
unrecorded : (p : Perm) → ((p ≢ p_None) → ⊥) → p ≡ p_None
unrecorded p_None h = refl
unrecorded Branch h = absurd (h (λ e. cc))
unrecorded Tip h = absurd (h (λ e. cc))

-- where home has no copy nobody is recorded
nobody-recorded : (shape : Shape) (s : Block) → IsServiceAt shape s → s.home ≡ None → (x : ℕ) → (s.client x).recorded ≡ p_None
nobody-recorded shape s kept none x = unrecorded (s.client x).recorded (λ n. let there = kept.at_home x n in let bad : None ≡ Some there.0 = sym none ∙ there.1 in cc)

-- no Grant is pending of a block that is probed
probed-ungranted : (shape : Shape) (s : Block) (c : ℕ) (cap : ProbeCap) → NoGrant shape s
    → grant_pending shape (with_client s c (sent_probe (s.client c) cap)) ≡ false
probed-ungranted shape s c cap free =
    any_below-none (λ x. has_grant_pending ((with_client s c (sent_probe (s.client c) cap)).client x)) shape.clients
    (λ x l. elim (cases_Bool (x == c)) [
      | inl e ↦
          let P = λ (y : ℕ). has_grant_pending (s.client y) ≡ false in
          let here : has_grant_pending (s.client c) ≡ false = subst P (eqb-true x c e) (free-grant (s.client x) (free x l)) in
          rw e here
      | inr e ↦ rw e (free-grant (s.client x) (free x l))
    ])

-- a block that leaves home, and is still there, does so with one more Probe toN, which is noted
leaves-probed : (shape : Shape) (s later : Block) (r : Register) (c : ℕ) → c < length r.probed
    → (s.home ≡ None → ⊥) → later ≡ with_client s c (sent_probe (s.client c) ToN) → Leaves shape s r
    → Leaves shape later (with_probed r c)
leaves-probed shape s later r c place there now h =
    let P = λ (b : Block). Leaves shape b (with_probed r c) in
    subst P (sym now) (record {
      probes = probed-more shape s r None ToN c place h.probes;
      not_accepted = h.not_accepted;
      gone = λ none. absurd (there none);
      leaving = h.leaving;
      putting = h.putting;
    })

-- a block that is served is so with one more Probe before its Grant, which is noted
served-probed : (shape : Shape) (s later : Block) (r : Register) (acquire : Accepted) (c : ℕ) → c < length r.probed
    → NoGrant shape s → later ≡ with_client s c (sent_probe (s.client c) (probes_before acquire.grow)) → IsServed shape s r acquire
    → IsServed shape later (with_probed r c) acquire
served-probed shape s later r acquire c place free now h =
    let P = λ (b : Block). IsServed shape b (with_probed r c) acquire in
    subst P (sym now) (record {
      inside = h.inside;
      accepted = h.accepted;
      probes = probed-more shape s r (Some acquire.client) (probes_before acquire.grow) c place h.probes;
      getting = h.getting;
      held = λ pending. let bad : true ≡ false = sym pending ∙ probed-ungranted shape s c (probes_before acquire.grow) free in cc;
    })

-- a block that is served, and of which nobody is recorded, is so where another block's Probe is noted
served-noted : (shape : Shape) (s : Block) (r : Register) (acquire : Accepted) (c : ℕ) → c < length r.probed
    → ((x : ℕ) → (s.client x).recorded ≡ p_None) → IsServed shape s r acquire → IsServed shape s (with_probed r c) acquire
served-noted shape s r acquire c place nobody h = record {
  inside = h.inside;
  accepted = h.accepted;
  probes = noted-elsewhere shape s r (Some acquire.client) (probes_before acquire.grow) c place nobody h.probes;
  getting = h.getting;
  held = h.held;
}

-- the register that sent the Probe still fits, with the Probe noted
probed-task : (shape : Shape) (states : ℕ → Block) (r : Register) (task : Task) (c block : ℕ) (cap : ProbeCap)
    → IsSteady shape states → c < length r.probed → NoGrant shape (states block) → ((states block).home ≡ None → ⊥)
    → IsToProbe r task block cap → TaskFits shape states r task
    → TaskFits shape (after_next shape states (SendProbe c block cap)) (with_probed r c) task
probed-task shape states r (Acquire acquire) c block cap steady place free there which h =
    let s = states r.own in
    let P = λ (b : ℕ). NoGrant shape (states b) in
    let now : after_next shape states (SendProbe c block cap) r.own ≡ with_client s c (sent_probe (s.client c) (probes_before acquire.grow)) =
    here shape states (SendProbe c block cap) r.own (sym which.0) ∙ ap (λ (x : ProbeCap). with_client s c (sent_probe (s.client c) x)) which.1 in
    served-probed shape s _ r acquire c place (subst P which.0 free) now h
probed-task shape states r (Replace acquire victim) c block cap steady place free there which h =
    let e = SendProbe c block cap in
    let s = states victim in
    let ne : r.own ≢ block =
    λ q.
    let same : r.own ≡ victim = q ∙ which.0 in
    let none : (states r.own).accepted ≡ None = ap (λ (x : ℕ). (states x).accepted) same ∙ h.2.not_accepted in
    let bad : Some acquire ≡ None = sym h.0.accepted ∙ none in
    cc
    in
    let own = elsewhere shape states e r.own ne in
    let P = λ (b : Block). IsServed shape b (with_probed r c) acquire in
    let Q = λ (b : Block). Awaits b in
    let R = λ (b : ℕ). (states b).home ≡ None → ⊥ in
    let now : after_next shape states e victim ≡ with_client s c (sent_probe (s.client c) ToN) =
    here shape states e victim (sym which.0) ∙ ap (λ (x : ProbeCap). with_client s c (sent_probe (s.client c) x)) which.1 in (
      subst P (sym own) (served-noted shape (states r.own) r acquire c place (nobody-recorded shape (states r.own) (steady.service r.own) h.1.lacks) h.0),
      subst Q (sym own) h.1,
      leaves-probed shape s _ r c place (subst R which.0 there) now h.2,
    )
probed-task shape states r Evict c block cap steady place free there which h =
    let e = SendProbe c block cap in
    let s = states r.own in
    let R = λ (b : ℕ). (states b).home ≡ None → ⊥ in
    let now : after_next shape states e r.own ≡ with_client s c (sent_probe (s.client c) ToN) =
    here shape states e r.own (sym which.0) ∙ ap (λ (x : ProbeCap). with_client s c (sent_probe (s.client c) x)) which.1 in
    leaves-probed shape s _ r c place (subst R which.0 there) now h

-- the register works on the block that it probes
works-there : (r : Register) (task : Task) (block : ℕ) (cap : ProbeCap) → IsToProbe r task block cap
    → ((r.own == block) || is_block block (victim_in r.own task)) ≡ true
works-there r (Acquire acquire) block cap which =
    let P = λ (b : ℕ). ((r.own == b) || is_block b (victim_in r.own (Acquire acquire))) ≡ true in
    subst P (sym which.0) (on-own r (Acquire acquire))
works-there r (Replace acquire victim) block cap which =
    let P = λ (b : ℕ). ((r.own == b) || is_block b (victim_in r.own (Replace acquire victim))) ≡ true in
    subst P (sym which.0) (on-victim r acquire victim)
works-there r Evict block cap which =
    let P = λ (b : ℕ). ((r.own == b) || is_block b (victim_in r.own Evict)) ≡ true in
    subst P (sym which.0) (on-own r Evict)

-- a noted Probe does not change what a register works on
same-works : (own c block : ℕ) (q : Register) → works_on (with_probe_of own c q) block ≡ works_on q block
same-works own c block q = elim (cases_Bool (q.own == own)) [ inl e ↦ rw e refl | inr e ↦ rw e refl ]

-- a block that is not busy after a Probe is noted was not before
free-noted : (own c block : ℕ) (registers : List Register) → is_busy block (noted own c registers) ≡ false
    → is_busy block registers ≡ false
free-noted own c block [] h = refl
free-noted own c block (q ∷ rest) h =
    let both = or_parts (works_on (with_probe_of own c q) block) (is_busy block (noted own c rest)) h in
    let here : works_on q block ≡ false = sym (same-works own c block q) ∙ both.0 in
    let more = free-noted own c block rest both.1 in
    rw (here, more) refl

-- a Probe of a register's, which it notes, keeps the agreement
pub probing-keeps-agreement : ProbingKeepsAgreement
probing-keeps-agreement shape states registers r c block cap steady agree found which may =
    let e = SendProbe c block cap in
    let later = after_next shape states e in
    let s = states block in
    let f = with_probe_of r.own c in
    let there : s.home ≡ None → ⊥ =
    λ none.
    let nobody = nobody-recorded shape s (steady.service block) none c in
    absurd (omega (arith, ap rank nobody, may.1.1.0))
    in
    record {
      fits = each-map (Fits shape later) f registers
          (each-both (IsOneOf r) (Fits shape states) (λ q. Fits shape later (f q)) registers
          (λ q which-one fits. elim which-one [
            | inl same ↦
                let P = λ (x : Register). Fits shape later (f x) in
                let Q = λ (x : Register). Fits shape states x in
                let now : Fits shape states r = subst Q same fits in
                let own : (r.own == r.own) ≡ true = eq-eqb r.own r.own refl in
                let place : c < length r.probed = omega (arith, may.1.0, now.places) in
                let long : length (set r.probed c true) ≡ length r.probed = simp length-set in
                let one : Fits shape later (with_probed r c) = record {
                  known = now.known;
                  places = omega (arith, now.places, long);
                  task = probed-task shape states r r.task c block cap steady place may.1.1.2 there which now.task;
                } in
                subst P (sym same) (rw own one)
            | inr other ↦
                let away : (q.own == r.own) ≡ false = (or_parts (q.own == r.own) (is_block r.own (victim_of q)) (other r.own (on-own r r.task))).0 in
                rw away (fits-elsewhere shape states e q (other block (works-there r r.task block cap which)) fits)
          ])
          (one-among r.own registers r agree.apart found) agree.fits);
      at_rest = λ b none. rest-at shape states e b
          (λ q.
          let free : is_busy block registers ≡ false = ap (λ (x : ℕ). is_busy x registers) (sym q) ∙ free-noted r.own c b registers none in
          absurd (found-busy r.own registers r block found (works-there r r.task block cap which) free))
          (λ q. agree.at_rest b (free-noted r.own c b registers none));
      apart = apart-map f registers (λ q b on. sym (same-works r.own c b q) ∙ on) agree.apart;
    }
