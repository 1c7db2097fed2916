-- A register that opens fits the state, and the others still do.
use Rattle.std.proofs.Common.{◌≡◌, ◌≢◌, ℕ, zero, suc, ◌<◌, ◌≤◌, ◌==◌, ◌||◌, true, false, List, [], ◌∷◌, replicate, get_or, Option, Some, None, refl, sym, ◌∙◌, ap, subst, inl, inr, eqb-true, eq-eqb}
use Rattle.std.specs.List.{AllByRecursion}
use Rattle.tl_types.specs.declared.limits.TheConstants.{CLIENTS}
use Rattle.tl_types.proofs.Booleans.{or-else}
use Rattle.std.proofs.lemmas.Bool.{cases_Bool, or_parts, ne_eqb}
use Rattle.std.specs.Prelude.{◌⊎◌}
use Rattle.std.specs.List.{list_any}
use Rattle.tl_types.specs.Message.{is_probe_ack}
use Rattle.tl_types.specs.declared.message.Upward.{Upward}
use Rattle.tl_types.specs.declared.message.Upward.TheVariants.{ProbeAck, Release}
use Rattle.tl_types.specs.declared.permission.Grow.{Grow}
use Rattle.tl_types.specs.declared.permission.ProbeCap.{ProbeCap}
use Rattle.tl_types.specs.declared.permission.ProbeCap.TheVariants.{ToN}
use Rattle.tl_protocol.specs.Pending.{IsServiceAt}
use Rattle.tl_protocol.specs.Protocol.{Block, block_of, after, accepted_from, with_client}
use Rattle.tl_protocol.specs.Runs.{after_next}
use Rattle.tl_protocol.specs.declared.client.Client.{Client}
use Rattle.tl_protocol.specs.declared.event.Event.{Event}
use Rattle.tl_protocol.specs.declared.event.Event.TheVariants.{AcceptAcquire}
use Rattle.tl_protocol.specs.declared.home.Accepted.{Accepted}
use Rattle.tl_protocol.specs.declared.home.Outward.{Outward}
use Rattle.tl_protocol.specs.declared.home.Outward.TheVariants.{Quiet}
use Rattle.tl_protocol.specs.declared.shape.Shape.{Shape}
use Rattle.tl_registers.specs.declared.register.Register.{Register}
use Rattle.tl_registers.specs.declared.register.Task.{Task}
use Rattle.tl_registers.specs.declared.register.Task.TheVariants.{Acquire, Replace, Evict}
use Rattle.tl_registers.specs.declared.way_of_set.WayOfSet.{WayOfSet}
use Rattle.tl_registers.specs.Agree.{IsAtRest, Agree, IsSteady, IsFreeVictim, EvictingKeepsAgreement, AcceptingKeepsAgreement}
use Rattle.tl_registers.specs.Fit.{Ask, Answer, ProbesFit, NobodyIsProbed, IsPutting, IsGetting, Leaves, IsServed, Awaits, Fits}
use Rattle.tl_registers.specs.NextAction.{probes_before}
use Rattle.tl_registers.specs.Pending.{has_first, has_grant_pending, grant_pending}
use Rattle.tl_registers.specs.Register.{opened, acquire_task, has_probed, works_on}
use Rattle.tl_registers.specs.Registers.{is_busy}
use Rattle.tl_registers.proofs.Agreement.{KeepsFor, fits-kept}
use Rattle.tl_registers.proofs.Blocks.{Keeps, nothing-keeps, put-probes}
use Rattle.tl_registers.proofs.Pending.{any_below-none, free-grant}
use Rattle.tl_registers.proofs.Probes.{same-probes}
use Rattle.tl_registers.proofs.Tables.{each-both, each-end, busy-end, apart-end}

-- ## Nothing is under way

-- with no Probe on B, none asks for another cap
no-asks : (cap : ProbeCap) (b : List ProbeCap) → has_first b ≡ false → Ask cap b
no-asks cap [] h = tt
no-asks cap (first ∷ rest) h = cc

-- with no answer to a Probe on C, none leaves more than the cap
no-answers : (cap : ProbeCap) (c : List Upward) → list_any is_probe_ack c ≡ false → Answer cap c
no-answers cap [] h = tt
no-answers cap (ProbeAck answer ∷ rest) h = cc
no-answers cap (Release given ∷ rest) h = no-answers cap rest h

-- a set of clients in which nobody was put yet has nobody
nobody : (n x : ℕ) → get_or (replicate n false) x false ≡ false
nobody zero x = refl
nobody (suc n) zero = refl
nobody (suc n) (suc x) = nobody n x

-- a register that has probed nobody fits a block of which no Probe is pending
fresh-probes : (shape : Shape) (client : ℕ → Client) (r : Register) (asking : Option ℕ) (cap : ProbeCap)
    → ((x : ℕ) → has_probed r x ≡ false) → NobodyIsProbed shape client → ProbesFit shape client r asking cap
fresh-probes shape client r asking cap none unprobed = λ x l.
    let free = unprobed x l in
    let both = or_parts (has_first (client x).b) (list_any is_probe_ack (client x).c) free in
    record {
      sent = λ h. let bad : true ≡ false = sym h ∙ free in cc;
      asks = no-asks cap (client x).b both.0;
      answers = no-answers cap (client x).c both.1;
      answered = λ o p h. let bad : true ≡ false = sym p ∙ none x in cc;
    }

-- where nothing is under way to the memory, nothing but a Put or its acknowledgement is
putting-quiet : (o : Outward) → o ≡ Quiet → IsPutting o
putting-quiet o e = let P = IsPutting in subst P (sym e) tt

-- where nothing is under way to the memory, nothing but a Get or its data is
getting-quiet : (o : Outward) → o ≡ Quiet → IsGetting o
getting-quiet o e = let P = IsGetting in subst P (sym e) tt

-- such a register may send a block away that home holds, and on which nothing is under way
leaves-fresh : (shape : Shape) (s : Block) (r : Register) → ((x : ℕ) → has_probed r x ≡ false) → IsAtRest shape s → s.home ≢ None
    → Leaves shape s r
leaves-fresh shape s r none rest there = record {
  probes = fresh-probes shape s.client r None ToN none rest.unprobed;
  not_accepted = rest.not_accepted;
  gone = λ h. rest.unprobed;
  leaving = λ h. absurd (there h);
  putting = putting-quiet s.outward rest.quiet;
}

-- ## An evict register

-- an evict register works on its own block alone
evict-works : (own block : ℕ) (way : WayOfSet) → works_on (opened own way Evict) block ≡ true → own ≡ block
evict-works own block way on =
    elim (cases_Bool (own == block)) [
      | inl e ↦ eqb-true own block e
      | inr e ↦ let bad : (own == block) || (own == block) ≡ false = rw e refl in cc
    ]

-- an evict register that opens for a block that home holds, and on which no register works, keeps the agreement
pub evicting-keeps-agreement : EvictingKeepsAgreement
evicting-keeps-agreement shape states registers own way steady agree few known free there =
    let r = opened own way Evict in
    record {
      fits = each-end (Fits shape states) registers r agree.fits (record {
        known = (known, known);
        places = few;
        task = leaves-fresh shape (states own) r (nobody CLIENTS) (agree.at_rest own free) there;
      });
      at_rest = λ block none. agree.at_rest block (busy-end block registers r none).0;
      apart = apart-end registers r
          (λ block on. let P = λ (b : ℕ). is_busy b registers ≡ false in subst P (evict-works own block way on) free)
          agree.apart;
    }

-- ## A register for an Acquire

-- an event leaves the other blocks
pub elsewhere : (shape : Shape) (states : ℕ → Block) (e : Event) (block : ℕ) → block ≢ block_of shape e
    → after_next shape states e block ≡ states block
elsewhere shape states e block ne = rw (ne_eqb block (block_of shape e) ne) refl

-- and its own is as the event leaves it
pub here : (shape : Shape) (states : ℕ → Block) (e : Event) (block : ℕ) → block ≡ block_of shape e
    → after_next shape states e block ≡ after shape (states block) e
here shape states e block is = rw (eq-eqb block (block_of shape e) is) refl

-- a register that works on another block than the event's still fits
pub fits-elsewhere : (shape : Shape) (states : ℕ → Block) (e : Event) (q : Register) → works_on q (block_of shape e) ≡ false
    → Fits shape states q → Fits shape (after_next shape states e) q
fits-elsewhere shape states e q free fits =
    let keep : KeepsFor states (after_next shape states e) q =
    λ block on.
    let ne : block ≢ block_of shape e = λ is. let bad : true ≡ false = sym on ∙ (ap (works_on q) is ∙ free) in cc in
    let P = λ (s : Block). Keeps (states block) s in
    subst P (sym (elsewhere shape states e block ne)) (nothing-keeps (states block))
    in
    fits-kept shape states (after_next shape states e) q keep fits

-- no register works on a block that is not busy
each-free : (block : ℕ) (registers : List Register) → is_busy block registers ≡ false
    → AllByRecursion (λ q. works_on q block ≡ false) registers
each-free block [] h = tt
each-free block (q ∷ rest) h =
    let k = or_parts (works_on q block) (is_busy block rest) h in (k.0, each-free block rest k.1)

-- what is left of the block when its Acquire is accepted
abbrev accepted-block : Block → ℕ → Grow → List Grow → Block
accepted-block s c grow rest =
    with_client (record s { accepted = Some (record { client = c; grow = grow }) }) c (record (s.client c) { a = rest })

-- a register that has probed nobody may serve the Acquire just accepted, of a block that was at rest
served-fresh : (shape : Shape) (s : Block) (r : Register) (c : ℕ) (grow : Grow) (rest : List Grow)
    → ((x : ℕ) → has_probed r x ≡ false) → c < shape.clients → IsServiceAt shape s → IsAtRest shape s
    → IsServed shape (accepted-block s c grow rest) r (record { client = c; grow = grow })
served-fresh shape s r c grow rest none inside kept free = record {
  inside = inside;
  accepted = refl;
  probes = fresh-probes shape (accepted-block s c grow rest).client r (Some c) (probes_before grow) none
      (λ x l. (put-probes s c (record (s.client c) { a = rest }) (same-probes (s.client c) _ refl refl refl (λ h. h)) x).brings_none (free.unprobed x l));
  getting = getting-quiet s.outward free.quiet;
  held = λ h.
      let later = accepted-block s c grow rest in
      let ungranted : grant_pending shape later ≡ false =
      any_below-none (λ x. has_grant_pending (later.client x)) shape.clients
      (λ x l. (put-probes s c (record (s.client c) { a = rest }) (same-probes (s.client c) _ refl refl refl (λ h. h)) x).grants_none (free-grant (s.client x) (kept.no_grant free.not_accepted x))) in
      let bad : true ≡ false = sym h ∙ ungranted in
      cc;
}

-- a register that opens for an Acquire works on its own block and its victim alone
acquire-works : (own block : ℕ) (way : WayOfSet) (acquire : Accepted) (victim : Option ℕ)
    → works_on (opened own way (acquire_task acquire victim)) block ≡ true → (own ≡ block) ⊎ (victim ≡ Some block)
acquire-works own block way acquire None on =
    elim (cases_Bool (own == block)) [
      | inl e ↦ inl (eqb-true own block e)
      | inr e ↦ let bad = or-else (own == block) false on e in cc
    ]
acquire-works own block way acquire (Some victim) on =
    elim (cases_Bool (own == block)) [
      | inl e ↦ inl (eqb-true own block e)
      | inr e ↦ inr (ap Some (eqb-true victim block (or-else (own == block) (victim == block) on e)))
    ]

-- a register that opens works on its own block
own-works : (own : ℕ) (way : WayOfSet) (task : Task) → works_on (opened own way task) own ≡ true
own-works own way task = rw (eq-eqb own own refl) refl

-- neither the own block nor the victim of a register that opens is busy
free-of : (shape : Shape) (states : ℕ → Block) (registers : List Register) (own block : ℕ) (victim : Option ℕ)
    → is_busy own registers ≡ false → IsFreeVictim shape states registers own victim
    → (own ≡ block) ⊎ (victim ≡ Some block) → is_busy block registers ≡ false
free-of shape states registers own block None free out which =
    elim which [
      | inl e ↦ let P = λ (b : ℕ). is_busy b registers ≡ false in subst P e free
      | inr e ↦ cc
    ]
free-of shape states registers own block (Some victim) free out which =
    let P : ℕ → Type 0 = λ b. is_busy b registers ≡ false in
    elim which [
      | inl e ↦ subst P e free
      | inr e ↦ let same : victim ≡ block = cc in subst P same out.2
    ]

-- a register that opens for an accepted Acquire fits the state after it is accepted
acquire-fits : (shape : Shape) (states later : ℕ → Block) (registers : List Register) (c own : ℕ) (grow : Grow) (rest : List Grow)
    (way : WayOfSet) (victim : Option ℕ) → IsSteady shape states → Agree shape states registers → shape.clients ≤ CLIENTS → own < shape.blocks → c < shape.clients
    → is_busy own registers ≡ false → IsFreeVictim shape states registers own victim
    → later own ≡ accepted-block (states own) c grow rest → ((block : ℕ) → block ≢ own → later block ≡ states block)
    → Fits shape later (opened own way (acquire_task (record { client = c; grow = grow }) victim))
acquire-fits shape states later registers c own grow rest way None steady agree few known inside free out is same =
    let acquire : Accepted = record { client = c; grow = grow } in
    let r = opened own way (Acquire acquire) in
    let P = λ (s : Block). IsServed shape s r acquire in
    record {
      known = (known, tt);
      places = few;
      task = subst P (sym is) (served-fresh shape (states own) r c grow rest (nobody CLIENTS) inside (steady.service own) (agree.at_rest own free));
    }
acquire-fits shape states later registers c own grow rest way (Some victim) steady agree few known inside free out is same =
    let acquire : Accepted = record { client = c; grow = grow } in
    let r = opened own way (Replace acquire victim) in
    let P = λ (s : Block). IsServed shape s r acquire in
    let Q = λ (s : Block). Awaits s in
    let R = λ (s : Block). Leaves shape s r in
    let quiet = (agree.at_rest own free).quiet in
    record {
      known = (known, out.0);
      places = few;
      task = (
        subst P (sym is) (served-fresh shape (states own) r c grow rest (nobody CLIENTS) inside (steady.service own) (agree.at_rest own free)),
        subst Q (sym is) (record { lacks = out.3; quiet = quiet }),
        subst R (sym (same victim out.1)) (leaves-fresh shape (states victim) r (nobody CLIENTS) (agree.at_rest victim out.2) out.4),
      );
    }

-- a register that opens for an accepted Acquire, of blocks that no register works on, keeps the agreement
pub accepting-keeps-agreement : AcceptingKeepsAgreement
accepting-keeps-agreement shape states registers c own grow rest way victim steady agree few may is free out =
    let e = AcceptAcquire c own in
    let later : ℕ → Block = after_next shape states e in
    let acquire : Accepted = record { client = c; grow = grow } in
    let r = opened own way (acquire_task acquire victim) in
    let now : later own ≡ accepted-block (states own) c grow rest =
    here shape states e own refl ∙ ap (accepted_from (states own) c) is in
    let same : (block : ℕ) → block ≢ own → later block ≡ states block = λ block ne. elsewhere shape states e block ne in
    record {
      fits = each-end (Fits shape later) registers r
          (each-both (λ q. works_on q own ≡ false) (Fits shape states) (Fits shape later) registers
          (λ q away fits. fits-elsewhere shape states e q away fits) (each-free own registers free) agree.fits)
          (acquire-fits shape states later registers c own grow rest way victim steady agree few may.0 may.1.0 free out now same);
      at_rest = λ block none.
          let both = busy-end block registers r none in
          let ne : block ≢ own = λ q. let bad : true ≡ false = sym (own-works own way (acquire_task acquire victim)) ∙ (ap (works_on r) (sym q) ∙ both.1) in cc in
          let P = λ (s : Block). IsAtRest shape s in
          subst P (sym (same block ne)) (agree.at_rest block both.0);
      apart = apart-end registers r
          (λ block on. free-of shape states registers own block victim free out (acquire-works own block way acquire victim on))
          agree.apart;
    }
