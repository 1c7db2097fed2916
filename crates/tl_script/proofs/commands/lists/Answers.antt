use Rattle.std.proofs.Common.{rules, tests}
use Rattle.std.proofs.lemmas.Iterator.{YieldsList-from_slice}
use Rattle.std.proofs.lemmas.Iterator.Search.{all_from_yields_List}
use Rattle.toml.specs.View.{view}
use Rattle.tl_script.specs.Values.{are_texts}
use Rattle.tl_script.proofs.TextLemmas.{lists-tested}
use Rattle.tl_script.proofs.commands.lists.Goals as goal

pub returns-then-all : goal.returns-then-all
returns-then-all c =
    let all = all_from_yields_List (λ v. are_texts (view v)) _ _ c.all.result c.all.ensures.ran (YieldsList-from_slice c.args.items.now cc) (λ x b q k. search (rules, tests)) in
    rw c.if-all.true at (lists-tested c.args.items.now c.all.result all)

pub returns-else-all : goal.returns-else-all
returns-else-all c =
    let all = all_from_yields_List (λ v. are_texts (view v)) _ _ c.all.result c.all.ensures.ran (YieldsList-from_slice c.args.items.now cc) (λ x b q k. search (rules, tests)) in
    rw c.if-all.false at (lists-tested c.args.items.now c.all.result all)
