-- When a bank is quiet, and what its counts add up to.
use Rattle.std.proofs.Common.{◌≡◌, ℕ, zero, suc, ◌+◌, ◌<◌, Bool, true, false, List, [], ◌∷◌, map, length, ◌==◌, cond, refl, sym, ◌∙◌, ap, arith, subst, eqb-true}
use Rattle.std.proofs.lemmas.Bool.Decides.{nat_tests}
use Rattle.tl_types.specs.Lane.{bodies_of}
use Rattle.tl_types.specs.declared.channel.Channel.TheVariants.{C, D}
use Rattle.tl_types.specs.declared.message.Body.TheVariants.{Upward as b_Upward, Downward as b_Downward}
use Rattle.tl_protocol.specs.Ledger.{has_copy, is_recorded, is_under_way, IsSilent}
use Rattle.tl_protocol.proofs.Ledger.{every_ledger_adds_up}
use Rattle.tl_registers.specs.declared.register.Register.{Register}
use Rattle.tl_registers.specs.Registers.{is_busy}
use Rattle.tl_bank_spec.specs.View.{View, shape_of, end_at, client_at}
use Rattle.tl_bank_spec.specs.Views.{not_own, HasNoMessage, AwaitsNothing, IsQuiet, blocks_below, pairs_at}
use Rattle.tl_bank_laws.specs.Layers.{Layers}
use Rattle.tl_bank_laws.specs.Means.{Means}
use Rattle.tl_protocol_lanes.proofs.Logs.{interleaves}

-- ## Quiet

-- no register is open, and each client is as in a quiet bank: then it is one, since what passes to the memory is a register's
pub quiet-is : (v : View) (h : Layers) → Means v h → v.registers ≡ []
    → ((c : ℕ) → c < v.geometry.clients → HasNoMessage v c × AwaitsNothing v c) → IsQuiet v
quiet-is v h m none each = record {
  registers = none;
  messages = λ c lt. (each c lt).0;
  waits = λ c lt. (each c lt).1;
  outward = λ b own. (m.registers.agree.at_rest b (ap (λ rs. is_busy b rs) none)).quiet;
}

-- a list of which no message is made is empty
map-empty : {X Y : Type 0} (f : X → Y) (xs : List X) → map f xs ≡ [] → xs ≡ []
map-empty f [] h = refl
map-empty f (x ∷ rest) h = cc

-- in a quiet bank nothing is on its way between home and the clients
quiet-silent : (v : View) (h : Layers) → Means v h → IsQuiet v → (n : ℕ) → IsSilent (shape_of v.geometry) (end_at v) (blocks_below v n)
quiet-silent v h m quiet zero = tt
quiet-silent v h m quiet (suc n) =
    let rest = quiet-silent v h m quiet n in
    let here : (x : ℕ) → x < v.geometry.clients → ((client_at v x n).c ≡ []) × ((client_at v x n).d ≡ []) =
    λ x lt. (
      map-empty b_Upward (client_at v x n).c ((interleaves (shape_of v.geometry) v.image v.log m.lawful).ordered x n C ∙ ap (bodies_of n) (quiet.messages x lt C)),
      map-empty b_Downward (client_at v x n).d ((interleaves (shape_of v.geometry) v.image v.log m.lawful).ordered x n D ∙ ap (bodies_of n) (quiet.messages x lt D)),
    ) in
    let split : (t : Bool) → IsSilent (shape_of v.geometry) (end_at v) (cond t (blocks_below v n) (n ∷ blocks_below v n)) =
    λ t. elim t as (λ t. IsSilent (shape_of v.geometry) (end_at v) (cond t (blocks_below v n) (n ∷ blocks_below v n))) [
      | true ↦ rest
      | false ↦ (here, rest)
    ] in
    split (not_own v n)

-- what holds of each number below n and of n holds below n + 1
pub below-more : (P : ℕ → Type 0) (n : ℕ) → ((x : ℕ) → x < n → P x) → P n → (x : ℕ) → x < n + 1 → P x
below-more P n before here x lt =
    let split : (t : Bool) → (x == n) ≡ t → P x =
    λ t. elim t as (λ t. (x == n) ≡ t → P x) [
      | true ↦ λ e. subst P (sym (eqb-true x n e)) here
      | false ↦ λ e. before x (grind (arith, nat_tests))
    ] in
    split (x == n) refl

-- a list of registers that is found to have length 0 is empty
no-registers : (rs : List Register) → (length rs == 0) ≡ true → rs ≡ []
no-registers [] h = refl
no-registers (r ∷ rest) h = absurd (grind (arith, nat_tests))

-- no register is open where the list of them has length 0
pub registers-none : (v : View) (rs : List Register) → rs ≡ v.registers → (length rs == 0) ≡ true → v.registers ≡ []
registers-none v rs same h = sym same ∙ no-registers rs h

-- ## The ledger

-- what home has recorded is what the clients hold, and what is under way
pub ledger-is : (v : View) (h : Layers) → Means v h → pairs_at is_recorded v ≡ pairs_at has_copy v + pairs_at is_under_way v
ledger-is v h m =
    (every_ledger_adds_up (shape_of v.geometry) v.image v.log (blocks_below v v.geometry.memory_blocks) m.lawful.run).0

-- in a quiet bank the two are equal
pub ledger-quiet : (v : View) (h : Layers) → Means v h → IsQuiet v → pairs_at is_recorded v ≡ pairs_at has_copy v
ledger-quiet v h m quiet =
    (every_ledger_adds_up (shape_of v.geometry) v.image v.log (blocks_below v v.geometry.memory_blocks) m.lawful.run).1
    (quiet-silent v h m quiet v.geometry.memory_blocks)
