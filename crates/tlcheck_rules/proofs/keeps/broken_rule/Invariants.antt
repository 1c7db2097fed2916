use Rattle.tlcheck_rules.specs.Rules.{KeepsBefore}
use Rattle.tl_protocol.specs.Protocol.{block_of}
use Rattle.tl_rules.specs.Plain.{state_of_plain}
use Rattle.tlcheck_rules.proofs.keeps.broken_rule.Given as goal

-- the event keeps the rules so far
abbrev pub invariant-loop-rule : goal.invariant-loop-rule
invariant-loop-rule l = KeepsBefore l.shape (state_of_plain l.plain (block_of l.shape l.event)) l.event l.rule-index
