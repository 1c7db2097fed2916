use Rattle.std.proofs.Common.{◌≡◌, ◌==◌, ◌%◌, ◌∙◌, Some, true, ap, sym, subst, rules, eqb-true}
use Rattle.std.specs.Int.{bit_at}
use Rattle.tl_registers.specs.Register.{is_block, victim_of}
use Rattle.tl_registers.proofs.Marks.{either, left-bit, right-bit}
use Rattle.tl_registers.proofs.register.Register.marks.Goals as goal

pub returns-in-Some : goal.returns-in-Some
returns-in-Some c = λ block works.
    let r = c.args.self.now in
    let has : victim_of r ≡ Some c.in-Some.victim = search rules in
    either (r.own == block) (is_block block (victim_of r)) works
    (λ here.
    left-bit c.mark-own.result c.mark.result (block % 64)
    (subst (λ b. bit_at c.mark-own.result (b % 64) ≡ 1) (eqb-true r.own block here) c.mark-own.ensures))
    (λ there.
    let same : (c.in-Some.victim == block) ≡ true = ap (is_block block) (sym has) ∙ there in
    right-bit c.mark-own.result c.mark.result (block % 64)
    (subst (λ b. bit_at c.mark.result (b % 64) ≡ 1) (eqb-true c.in-Some.victim block same) c.mark.ensures))
