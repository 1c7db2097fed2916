use Rattle.std.proofs.Common.{◌≡◌, ◌/◌, ◌%◌, ◌^◌, ◌∙◌, ℕ, ap, sym, subst, bit_and}
use Rattle.tl_registers.specs.Registers.{RegisterTable, is_busy}
use Rattle.tl_registers.proofs.Marks.{not-marked}
use Rattle.tl_registers.proofs.registers.Registers.is_busy.Goals as goal

pub returns-then-self-number-eq0 : goal.returns-then-self-number-eq0
returns-then-self-number-eq0 c =
    let marks : ℕ = c.self.inside.marks in
    let clear : bit_and (marks / 2 ^ (c.args.block % 64)) 1 ≡ 0 =
    subst (λ (b : ℕ). bit_and (marks / 2 ^ (b % 64)) 1 ≡ 0) c.number.ensures c.if-self-number-eq0.true in
    sym (not-marked c.self.inside.registers.items marks c.args.block c.self.invariant.2 clear)
    ∙ ap (λ (t : RegisterTable). is_busy c.args.block t.open_registers) c.self.view_is
