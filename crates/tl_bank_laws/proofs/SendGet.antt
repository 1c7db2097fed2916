-- Home asks the memory for a block.
use Rattle.std.proofs.Common.{◌≡◌, ℕ, ◌<◌, ◌≤◌, ◌==◌, List, Option, Some, None, if◌then◌else◌, refl, sym, ◌∙◌, ap, subst, eq-eqb}
use Rattle.std.proofs.lemmas.Bool.{ne_eqb}
use Rattle.std.specs.Prelude.{slice_index_or}
use Rattle.tl_protocol.specs.Protocol.{Block}
use Rattle.tl_protocol.specs.Runs.{MayNext}
use Rattle.tl_protocol.specs.declared.event.Event.TheVariants.{SendGet}
use Rattle.tl_protocol.specs.declared.home.Outward.TheVariants.{Quiet, Get as o_Get}
use Rattle.tl_bank_home.specs.Homes.{HomeState, SameBank, SameHome, SameMemory, EachHasHolder, outward_in, way_in}
use Rattle.tl_registers.specs.Agree.{Agree}
use Rattle.tl_registers.specs.Register.{victim_in, victim_of}
use Rattle.tl_registers.specs.Registers.{register_of}
use Rattle.tl_registers.specs.declared.register.Task.{Task}
use Rattle.tl_registers.specs.declared.due.Due.TheVariants.{Get}
use Rattle.tl_registers.proofs.Probing.{fetching-keeps-agreement}
use Rattle.tl_bank_spec.specs.View.{View, end_at, shape_of}
use Rattle.tl_bank_laws.specs.Layers.{Layers}
use Rattle.tl_bank_laws.specs.Means.{IsHomeOf, Means}
use Rattle.tl_bank_laws.proofs.Crossed.{crossings-few}
use Rattle.tl_bank_laws.proofs.Dues.{Acts}
use Rattle.tl_bank_laws.proofs.Next.{block_next, means-next, next_view, registers-next}
use Rattle.tl_bank_laws.proofs.Pointwise.{entries-next, homes-next, quiet-next}
use Rattle.tl_bank_laws.proofs.Ways.{bank-steady, same-work, ways-stay}

-- nothing passes of a block that is to be fetched
pub get-quiet : (v : View) (h : Layers) (own : ℕ) → Means v h → Acts v own Get → outward_in h.home own ≡ Quiet
get-quiet v h own m acts = (m.home own acts.is_own).outward ∙ acts.may.1.2

-- a Get that is due is sent: the bank holds what its log leaves
pub get-keeps : (v : View) (h : Layers) (own room : ℕ) (ways : List (Option ℕ)) (home : HomeState) → Means v h → Acts v own Get
    → SameBank h.home home → SameHome h.home home
    → ((b : ℕ) → outward_in home b ≡ (if b == own then o_Get else outward_in h.home b)) → SameMemory h.home home
    → ((b : ℕ) → b < v.geometry.memory_blocks → slice_index_or ways b None ≡ way_in home b)
    → Means (next_view v (SendGet own) room v.registers ways) (record h { home = home })
get-keeps v h own room ways home m acts bank same outward memory shown =
    let shape = shape_of v.geometry in
    let e = SendGet own in
    let s : Block = end_at v own in
    let steady = bank-steady v h m in
    let is : IsHomeOf h.home own s = m.home own acts.is_own in
    let found : register_of acts.register.own v.registers ≡ Some acts.register =
    subst (λ (n : ℕ). register_of n v.registers ≡ Some acts.register) (sym acts.here) acts.found in
    let agree : Agree shape (block_next v e) v.registers =
    subst (λ (n : ℕ). Agree shape (block_next v (SendGet n)) v.registers) acts.here
    (fetching-keeps-agreement shape (end_at v) v.registers acts.register acts.of.0 m.registers.agree found acts.of.1
    (subst (λ (n : ℕ). MayNext shape (end_at v) (SendGet n)) (sym acts.here) acts.may)) in
    let there : outward_in home own ≡ o_Get = outward own ∙ (let t = eq-eqb own own refl in rw t refl) in
    means-next v h (record h { home = home }) e room v.registers ways m
    (record { may = acts.may; first = tt; here = acts.bank; later = tt })
    (record {
      lanes = λ x l lt. refl;
      copies = entries-next v h e m (λ x. refl);
      home = homes-next v h e home m
          (record {
            line = same.lines own ∙ is.line;
            recorded = λ x. same.recorded x own ∙ is.recorded x;
            outward = there;
            memory = memory own ∙ is.memory;
          })
          (λ b ne was. record {
            line = same.lines b ∙ was.line;
            recorded = λ x. same.recorded x b ∙ was.recorded x;
            outward = outward b ∙ (let t = ne_eqb b own ne in rw t was.outward);
            memory = memory b ∙ was.memory;
          });
      quiet = quiet-next v e h.home home acts.is_own (λ b ne. outward b ∙ (let t = ne_eqb b own ne in rw t refl));
      links_size = record { bank = refl; clients = refl };
      copies_size = record { bank = refl; limit = refl; blocks = refl; clients = refl };
      home_bank = bank;
      limit = refl;
      clock = refl;
    })
    (registers-next v e room v.registers ways agree m.registers.few)
    (ways-stay v e room v.registers ways h.home home steady tt tt (same-work v.registers) same.ways shown m.ways)

-- and something passes of fewer than eight blocks
pub get-few : (v : View) (h : Layers) (own count : ℕ) → Means v h → Acts v own Get
    → ((n : ℕ) (holder : ℕ → ℕ) → EachHasHolder h.home n holder → count ≤ n) → count < 8
get-few v h own count m acts most =
    crossings-few v h own acts.register count m acts.found acts.here acts.fits
    (λ none. ap (λ (n : ℕ). (end_at v n).outward) acts.here ∙ acts.may.1.2)
    (λ x victim.
    let none : victim_of acts.register ≡ None = ap (λ (t : Task). victim_in acts.register.own t) acts.of.1 in
    let bad : None ≡ Some x = sym none ∙ victim in cc)
    most
