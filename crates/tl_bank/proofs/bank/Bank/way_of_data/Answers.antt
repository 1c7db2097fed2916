use Rattle.std.proofs.Common.{Option, Some, None, IsSome, option_copied, Bor, refl, sym, subst, rules}
use Rattle.tl_protocol.specs.Home.{IsData}
use Rattle.tl_registers.specs.declared.register.Register.{Register}
use Rattle.tl_bank_spec.specs.View.{View, end_at}
use Rattle.tl_bank.specs.Shown.{shown, layers}
use Rattle.tl_bank_laws.proofs.Fetched.{data-register}
use Rattle.tl_bank.proofs.bank.Bank.way_of_data.Goals as goal

-- there is a reference where there is what it refers to
copied-some : (o : Option (Bor Register)) → IsSome (option_copied o) → IsSome o
copied-some None h = h
copied-some (Some r) h = refl

pub unwrap-register-requires : goal.unwrap-register-requires
unwrap-register-requires c =
    let v : View = shown c.self.inside in
    let came : IsData (end_at v c.args.block).outward =
    subst (λ (w : View). IsData (end_at w c.args.block).outward) (sym c.self.view_is) c.requires in
    copied-some c.of_block.result
    (subst (λ (o : Option Register). IsSome o) (sym c.of_block.ensures)
    (data-register v (layers c.self.inside) c.args.block c.self.invariant came))

pub returns : goal.returns
returns c = search rules
