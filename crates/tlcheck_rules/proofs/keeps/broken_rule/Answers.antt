use Rattle.std.proofs.Common.{◌≡◌, ◌<◌, ℕ, length, refl, sym, ap, subst, ◌∙◌, arith, rules, get_or}
use Rattle.tl_protocol.specs.Protocol.{block_of}
use Rattle.tl_protocol.specs.declared.shape.Shape.{Shape}
use Rattle.tl_rules.specs.Plain.{state_of_plain}
use Rattle.tlcheck_rules.specs.Rules.{KeepsBefore, rules_of}
use Rattle.tlcheck_rules.proofs.Rules.{first_broken, goes_on, kept, may_come, neither, no_block, none_broken, permits}
use Rattle.tl_protocol.specs.Protocol.{Block}
use Rattle.tl_protocol.specs.declared.event.Event.{Event}
use Rattle.tl_rules.specs.PlainState.{PlainState}
use Rattle.tlcheck_rules.specs.declared.rule.Rule.TheVariants.{BlockIsThere}
use Rattle.tlcheck_rules.proofs.keeps.broken_rule.Goals as goal

-- the block of the event
abbrev own_block : PlainState → Event → Block
own_block p e = state_of_plain p (block_of p.shape e)

-- the block is not there
pub returns-in_default-clause-first : goal.returns-in_default-clause-first
returns-in_default-clause-first c =
    no_block c.args.plain.now.shape (own_block c.args.plain.now c.args.event.now) c.args.event.now
    (let h = (c.in_default.ensures {u = tt}).state in
    let at : c.block.result ≡ block_of c.args.plain.now.shape c.args.event.now =
    c.block.ensures ∙ ap (λ (shape : Shape). block_of shape c.args.event.now) c.shape-shape.ensures.value in omega (arith, h, at))

pub returns-in_default-clause-permitted : goal.returns-in_default-clause-permitted
returns-in_default-clause-permitted c = neither c.args.plain.now.shape (own_block c.args.plain.now c.args.event.now) c.args.event.now BlockIsThere (returns-in_default-clause-first c)

pub keeps-requires-clause-bytes : goal.keeps-requires-clause-bytes
keeps-requires-clause-bytes c = (c.shape-shape.ensures.nonempty, c.shape-shape.ensures.at_most)

pub keeps-requires-clause-there : goal.keeps-requires-clause-there
keeps-requires-clause-there c =
    subst (λ (n : ℕ). n < c.shape-shape.result.blocks) c.block.ensures
    (subst (λ (shape : Shape). c.block.result < shape.blocks) (sym c.shape-shape.ensures.value) (c.in-Some.ensures {u = tt}).state.0)

-- an event that may come next breaks no rule
pub returns-then-may_follow-clause-first : goal.returns-then-may_follow-clause-first
returns-then-may_follow-clause-first c =
    kept c.args.plain.now.shape (own_block c.args.plain.now c.args.event.now) c.args.event.now
    (may_come c.args.plain.now c.args.event.now c.shape-shape.result c.shape-shape.ensures.value (rules_of c.args.event.now) refl _
    ((c.in-Some.ensures {u = tt}).state.1 ∙ ap (λ (n : ℕ). state_of_plain c.args.plain.now n) c.block.ensures)
    (subst (λ (n : ℕ). n < c.shape-shape.result.blocks) c.block.ensures
    (subst (λ (shape : Shape). c.block.result < shape.blocks) (sym c.shape-shape.ensures.value) (c.in-Some.ensures {u = tt}).state.0))
    ((c.if-may_follow.ensures {u = tt}).0 (search rules)))

-- the rule is the first that is broken
pub returns-then-not-keeps-clause-first : goal.returns-then-not-keeps-clause-first
returns-then-not-keeps-clause-first c =
    first_broken c.args.plain.now c.args.event.now c.shape-shape.result c.shape-shape.ensures.value c.rules_of-rule-items.result.now
    c.rules_of-rule-items.ensures _ ((c.in-Some.ensures {u = tt}).state.1 ∙ ap (λ (n : ℕ). state_of_plain c.args.plain.now n) c.block.ensures)
    c.loop-rule.rule-index c.loop-rule-test.true c.loop-rule.invariant
    (λ k. let t = (c.if-not-keeps.ensures {u = tt}).1 k in search rules)

pub returns-then-not-keeps-clause-permitted : goal.returns-then-not-keeps-clause-permitted
returns-then-not-keeps-clause-permitted c =
    neither c.args.plain.now.shape (own_block c.args.plain.now c.args.event.now) c.args.event.now
    (get_or c.rules_of-rule-items.result.now c.loop-rule.rule-index BlockIsThere) (returns-then-not-keeps-clause-first c)

-- one more rule is kept
pub loop-rule-preserved : goal.loop-rule-preserved
loop-rule-preserved c =
    goes_on c.args.plain.now c.args.event.now c.shape-shape.result c.shape-shape.ensures.value c.rules_of-rule-items.result.now
    c.rules_of-rule-items.ensures _ ((c.in-Some.ensures {u = tt}).state.1 ∙ ap (λ (n : ℕ). state_of_plain c.args.plain.now n) c.block.ensures)
    c.loop-rule.rule-index c.loop-rule.invariant
    ((c.if-not-keeps.ensures {u = tt}).0 (search rules))

-- all rules are kept
all_before : (c : goal.After-loop-rule) → c.loop-rule.rule-index ≡ length c.rules_of-rule-items.result.now
all_before c = omega (arith, c.loop-rule-test.false, c.loop-rule.auto.rule-index-end)

pub returns-clause-first : goal.returns-clause-first
returns-clause-first c =
    none_broken c.args.plain.now c.args.event.now c.shape-shape.result c.shape-shape.ensures.value c.rules_of-rule-items.result.now
    c.rules_of-rule-items.ensures
    (subst (λ (n : ℕ). KeepsBefore c.shape-shape.result (state_of_plain c.args.plain.now (block_of c.shape-shape.result c.args.event.now)) c.args.event.now n)
    (all_before c) c.loop-rule.invariant)

pub returns-clause-permitted : goal.returns-clause-permitted
returns-clause-permitted c =
    permits c.args.plain.now c.args.event.now c.shape-shape.result c.shape-shape.ensures.value c.rules_of-rule-items.result.now
    c.rules_of-rule-items.ensures
    (subst (λ (n : ℕ). KeepsBefore c.shape-shape.result (state_of_plain c.args.plain.now (block_of c.shape-shape.result c.args.event.now)) c.args.event.now n)
    (all_before c) c.loop-rule.invariant)
