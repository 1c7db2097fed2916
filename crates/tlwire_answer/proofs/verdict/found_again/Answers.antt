use Rattle.std.proofs.Common.{List, sym, subst}
use Rattle.tlwire_search.specs.declared.seen.Seen.{Seen}
use Rattle.tlwire_answer.specs.Answer.{IsFound, with_lines}
use Rattle.tlwire_answer.proofs.Found.{found_then}
use Rattle.tlwire_answer.proofs.verdict.found_again.Goals as goal

pub returns : goal.returns
returns c = found_then c.explained_again.result c.args.messages.now c.seen.result.now c.seen.ensures c.explained_again.ensures

-- what was seen is the record's
pub explained_again-requires : goal.explained_again-requires
explained_again-requires c =
    subst (λ (xs : List Seen). IsFound (with_lines c.args.messages.now xs) c.args.first) (sym c.seen.ensures) c.requires
