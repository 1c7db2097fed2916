use Rattle.std.proofs.Common.{rules, tests, ◌∙◌}
use Rattle.std.proofs.lemmas.Iterator.{YieldsList-from_slice}
use Rattle.std.proofs.lemmas.Iterator.Search.{any_from_yields_List}
use Rattle.toml.specs.View.{view}
use Rattle.tl_script.specs.Values.{texts_of}
use Rattle.tl_script.specs.Commands.{is_long}
use Rattle.tl_script.proofs.TextLemmas.{list_any-lists}
use Rattle.tl_script.proofs.commands.is_any_long.Goals as goal

pub returns : goal.returns
returns c = any_from_yields_List (λ v. is_long (texts_of (view v))) _ _ _ c.any.ensures.ran (YieldsList-from_slice c.args.all.now cc) (λ x b q k. search (rules, tests)) ∙ list_any-lists c.args.all.now
