use Rattle.std.proofs.Common.{rules, tests, is_some}
use Rattle.std.proofs.lemmas.Iterator.{YieldsList-from_slice}
use Rattle.std.proofs.lemmas.Iterator.Search.{all_from_yields_List}
use Rattle.std.proofs.lemmas.List.Folds.{list_all-map}
use Rattle.toml.specs.Data.{as_str}
use Rattle.toml.specs.View.{view}
use Rattle.tl_script.proofs.document.are_texts.Goals as goal

pub returns-then-is_array : goal.returns-then-is_array
returns-then-is_array c =
    let all = all_from_yields_List (λ v. is_some (as_str (view v))) _ _ c.all.result c.all.ensures.ran (YieldsList-from_slice c.values_of.result.now cc) (λ x b q k. search (rules, tests)) in
    rw (← c.if-is_array.ensures, ← c.values_of.ensures, list_all-map) all
