-- A quiet bank may send a block away, and one whose home has nothing is flushed.
use Rattle.std.proofs.Common.{◌≡◌, ℕ, zero, suc, ◌<◌, ◌⊎◌, Bool, true, false, List, [], ◌∷◌, ◌++◌, Option, Some, None, is_none, is_some, slice_get, refl, sym, ◌∙◌, ap, subst, arith, inl, inr, if◌then◌else◌}
use Rattle.std.specs.List.{All, list_any}
use Rattle.std.specs.Prelude.{IfSome, Result, Ok, Err, OnOk}
use Rattle.std.specs.Option.{option_map}
use Rattle.std.proofs.lemmas.Bool.{cases_Bool, cases_eq, or_parts}
use Rattle.std.proofs.lemmas.List.{append-nil}
use Rattle.std.proofs.lemmas.List.Elements.{All-append, All-cons, All-head, All-nil}
use Rattle.tl_types.specs.Message.{is_grant}
use Rattle.tl_types.specs.declared.channel.Channel.TheVariants.{C, D}
use Rattle.tl_types.specs.declared.message.Upward.{Upward}
use Rattle.tl_types.specs.declared.permission.Perm.{Perm}
use Rattle.tl_types.specs.declared.permission.Perm.TheVariants.{None as p_None, Branch, Tip}
use Rattle.tl_map.specs.Limits.{IsLawful}
use Rattle.tl_protocol.proofs.Coherent.{every_run_keeps_copies}
use Rattle.tl_protocol.proofs.Pending.{every_run_keeps_messages}
use Rattle.tl_protocol.proofs.Written.{every_block_is_written}
use Rattle.tl_protocol.specs.Copy.{perm_of}
use Rattle.tl_protocol.specs.Kept.{IsKeptAt}
use Rattle.tl_protocol.specs.Pending.{IsOrderly, Lead}
use Rattle.tl_protocol.specs.Protocol.{Block}
use Rattle.tl_protocol.specs.declared.client.Client.{Client}
use Rattle.tl_protocol.specs.declared.event.Event.{Event}
use Rattle.tl_protocol.specs.declared.home.Line.{Line}
use Rattle.tl_protocol.specs.Work.{is_receiving}
use Rattle.tl_protocol_lanes.specs.Lawful.{Lawful}
use Rattle.tl_registers.specs.Register.{opened}
use Rattle.tl_registers.specs.declared.register.Register.{Register}
use Rattle.tl_registers.specs.declared.register.Task.TheVariants.{Evict}
use Rattle.tl_map.specs.Places.{set_of}
use Rattle.tl_bank_spec.specs.Cases.{elsewhere, no_block}
use Rattle.tl_bank_spec.specs.Ways.{way_in_set}
use Rattle.tl_bank_spec.specs.Effects.{Evicts}
use Rattle.tl_bank_spec.specs.HomeCalls.{evict_cases}
use Rattle.tl_bank_spec.specs.HomeCases.{lacks}
use Rattle.tl_bank_spec.specs.Own.{IsOwn}
use Rattle.tl_bank_spec.specs.Refusal.{first_of}
use Rattle.tl_bank_spec.specs.Share.{ShareView}
use Rattle.tl_bank_spec.specs.View.{View, client_at, end_at, perm_at, shape_of}
use Rattle.tl_bank_spec.specs.Views.{IsQuiet, blocks_at_home, is_at_home, not_own, passing_below}
use Rattle.tl_bank_spec.specs.declared.refusal.Refusal.{Refusal}
use Rattle.tl_bank_rest.proofs.Acting.{none-busy, none-full, own-not}
use Rattle.tl_bank_rest.proofs.Cases.{not-refused}
use Rattle.tl_bank_rest.proofs.Empty.{c-empty, d-empty}
use Rattle.tl_bank_rest.specs.Flushed.{IsFlushed}
use Rattle.tl_bank_rest.specs.Rest.{Receives, work_at}
use Rattle.tl_bank_rest.specs.Shares.{AreShares}

-- ## What is at home

-- a block of which home has a copy is the bank's, and home does not lack it
at-home : (v : View) (block : ℕ) → is_at_home v block ≡ true → (not_own v block ≡ false) × (lacks v block ≡ false)
at-home v block h =
    let split : (t : Bool) (home : Option Line)
    → is_some (if t then None else option_map (λ (line : Line). line.dirty) home) ≡ true → (t ≡ false) × (is_none home ≡ false) =
    λ t home. elim t as (λ t. is_some (if t then None else option_map (λ (line : Line). line.dirty) home) ≡ true → (t ≡ false) × (is_none home ≡ false)) [
      | true ↦ λ e. cc
      | false ↦ elim home as (λ o. is_some (option_map (λ (line : Line). line.dirty) o) ≡ true → (false ≡ false) × (is_none o ≡ false)) [
        | None ↦ λ e. cc
        | Some line ↦ λ e. (refl, refl)
      ]
    ] in
    split (not_own v block) (end_at v block).home h

-- of its own block that is not shown to be at home home has none
not-home : (v : View) (block : ℕ) → IsOwn v.geometry v.number block → is_at_home v block ≡ false → (end_at v block).home ≡ None
not-home v block own h =
    let none : (home : Option Line) → is_some (option_map (λ (line : Line). line.dirty) home) ≡ false → home ≡ None =
    λ home. elim home as (λ o. is_some (option_map (λ (line : Line). line.dirty) o) ≡ false → o ≡ None) [
      | None ↦ λ e. refl
      | Some line ↦ λ e. cc
    ] in
    none (end_at v block).home (rw (own-not v block own) at h)

-- each of the numbers that pass a test passes it
passing-all : (test : ℕ → Bool) (n : ℕ) → All (λ x. test x ≡ true) (passing_below test n)
passing-all test zero = All-nil (λ x. test x ≡ true)
passing-all test (suc n) =
    let rest : All (λ x. test x ≡ true) (passing_below test n) = passing-all test n in
    elim (cases_Bool (test n)) [
      | inl e ↦
          rw e (All-append (λ x. test x ≡ true) (passing_below test n) (n ∷ []) rest
          (All-cons (λ x. test x ≡ true) n [] e (All-nil (λ x. test x ≡ true))))
      | inr e ↦ rw e rest
    ]

-- what ends in an element is not empty
ends-some : (xs : List ℕ) (n : ℕ) → xs ++ n ∷ [] ≡ [] → ⊥
ends-some [] n h = cc
ends-some (x ∷ rest) n h = cc

-- where none passes each number fails the test
passing-none : (test : ℕ → Bool) (n x : ℕ) → passing_below test n ≡ [] → x < n → test x ≡ false
passing-none test zero x h lt = absurd (omega arith)
passing-none test (suc n) x h lt =
    elim (cases_Bool (test n)) [
      | inl e ↦ absurd (ends-some (passing_below test n) n (rw e at h))
      | inr e ↦
          let none : passing_below test n ≡ [] = rw e at h in
          elim (cases_eq x n) [
            | inl same ↦ rw same e
            | inr apart ↦ passing-none test n x none (omega arith)
          ]
    ]

-- the first of some numbers that have a property has it
first-has : (P : ℕ → Type 0) (xs : List ℕ) (x : ℕ) → All P xs → slice_get xs 0 ≡ Some x → P x
first-has P [] x all h = cc
first-has P (y ∷ rest) x all h = let same : y ≡ x = cc in subst P same (All-head P y rest all)

-- where there is no first number there is none
first-none : (xs : List ℕ) → slice_get xs 0 ≡ None → xs ≡ []
first-none [] h = refl
first-none (x ∷ rest) h = cc

-- the first block that home is shown to have is at home
pub first-shown : (v : View) (xs : List ℕ) (found : Option ℕ) → xs ≡ blocks_at_home v → found ≡ slice_get xs 0
    → IfSome found (λ block. is_at_home v block ≡ true)
first-shown v xs None e h = tt
first-shown v xs (Some block) e h =
    first-has (λ b. is_at_home v b ≡ true) (blocks_at_home v) block (passing-all (is_at_home v) v.geometry.memory_blocks)
    (ap (λ (ys : List ℕ). slice_get ys 0) (sym e) ∙ sym h)

-- where home is shown to have none it has none
pub none-shown : (v : View) (xs : List ℕ) → xs ≡ blocks_at_home v → slice_get xs 0 ≡ None
    → (block : ℕ) → IsOwn v.geometry v.number block → (end_at v block).home ≡ None
none-shown v xs e h block own =
    not-home v block own
    (passing-none (is_at_home v) v.geometry.memory_blocks block (sym e ∙ first-none xs h) own.0)

-- ## Sending away

-- in a quiet bank no case refuses to send a block away that home has
pub sends-away : (v : View) (block : ℕ) → IsQuiet v → IsLawful v.geometry → is_at_home v block ≡ true
    → first_of (evict_cases v block) ≡ None
sends-away v block quiet geometry h =
    let there = at-home v block h in
    let both = or_parts (no_block v block) (elsewhere v block) there.0 in
    not-refused (evict_cases v block) (
      both.0,
      (both.1, (none-busy v block quiet.registers, (there.1, (none-full v quiet.registers geometry, tt)))),
    )

-- what ends in a register is not empty
ends-open : (xs : List Register) (r : Register) → xs ++ r ∷ [] ≡ [] → ⊥
ends-open [] r h = cc
ends-open (x ∷ rest) r h = cc

-- a bank that sends a block away is not quiet
pub away-busy : (old new : View) (block : ℕ) → Evicts old new block → IsQuiet new → ⊥
away-busy old new block e quiet =
    ends-open old.registers (opened block (way_in_set (set_of old.geometry block) e.way) Evict)
    (sym (ap (λ (v : View). v.registers) e.is) ∙ quiet.registers)

-- its shares are as before
pub away-shares : (old new : View) (block : ℕ) (shares : List ShareView) → Evicts old new block → AreShares old shares → AreShares new shares
away-shares old new block shares e h = subst (λ (v : View). AreShares v shares) (sym e.is) (record { as_many = h.as_many; each = h.each })

-- and no event came
pub away-received : (old new : View) (block : ℕ) → Evicts old new block → Receives old new []
away-received old new block e =
    let F : View → Type 0 = λ v. Receives old v [] in
    subst F (sym e.is) (record {
      is = ap (λ (log : List Event). record old { log = log; registers = old.registers ++ opened block (way_in_set (set_of old.geometry block) e.way) Evict ∷ [] }) (sym (append-nil old.log));
      room = omega arith;
      each = All-nil (λ x. is_receiving x ≡ true);
      few = omega arith;
    })

-- once it is quiet again less is owed
pub away-moved : (old mid new : View) (block : ℕ) (answer : Result (Unit {0}) Refusal) → Evicts old mid block
    → OnOk answer (IsQuiet new) → (new ≡ mid) ⊎ (work_at new < work_at mid) → OnOk answer (work_at new < work_at old)
away-moved old mid new block (Err e) evicts quiet moved = tt
away-moved old mid new block (Ok x) evicts quiet moved =
    let same : work_at mid ≡ work_at old = ap work_at evicts.is in
    elim moved [
      | inl e ↦ absurd (away-busy old mid block evicts (subst (λ (v : View). IsQuiet v) e quiet))
      | inr less ↦ omega arith
    ]

-- ## Nothing is left

-- no client has a copy of what home has none of
absent-at : (s : Block) (client : ℕ) → IsKeptAt s → s.home ≡ None → perm_of (s.client client).held ≡ p_None
absent-at s client kept none =
    let split : (p : Perm) → perm_of (s.client client).held ≡ p → p ≡ p_None =
    λ p. elim p as (λ q. perm_of (s.client client).held ≡ q → q ≡ p_None) [
      | p_None ↦ λ e. refl
      | Branch ↦ λ e. let found = kept.at_home client (λ h. let bad : Branch ≡ p_None = sym e ∙ h in cc) in cc (found.1, none)
      | Tip ↦ λ e. let found = kept.at_home client (λ h. let bad : Tip ≡ p_None = sym e ∙ h in cc) in cc (found.1, none)
    ] in
    split (perm_of (s.client client).held) refl

-- what home records of a client is what it holds, where nothing is on C and D
leads-none : (k : Client) → IsOrderly k → k.c ≡ [] → k.d ≡ [] → k.recorded ≡ perm_of k.held
leads-none k orderly c d =
    let P : List Upward → Type 0 = λ xs. Lead k.recorded xs (perm_of k.held) in
    subst P c (orderly.leads (ap (list_any is_grant) d))

-- so a quiet bank's block that home has none of is in the memory alone
pub quiet-flushed : (v : View) (block : ℕ) → Lawful (shape_of v.geometry) v.image v.log → IsQuiet v → IsOwn v.geometry v.number block
    → (end_at v block).home ≡ None → IsFlushed v block
quiet-flushed v block lawful quiet own none =
    let kept = every_run_keeps_copies (shape_of v.geometry) v.image v.log lawful.run block in
    let written = every_block_is_written (shape_of v.geometry) v.image v.log lawful.run block in
    let absent : (client : ℕ) → perm_at v client block ≡ p_None = λ client. absent-at (end_at v block) client kept none in
    record {
      home = none;
      nobody = λ client lt.
          let orderly = every_run_keeps_messages (shape_of v.geometry) v.image v.log lawful.run block client in
          let c = c-empty v lawful client block (quiet.messages client lt C) in
          let d = d-empty v lawful client block (quiet.messages client lt D) in
          leads-none (client_at v client block) orderly c d ∙ absent client;
      no_copy = λ client lt. absent client;
      memory = written.memory none (λ bytes e. let bad = sym (quiet.outward block own) ∙ e in cc);
    }
