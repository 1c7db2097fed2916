use Rattle.std.proofs.Common.{◌≡◌, drop, map}
use Rattle.toml.specs.View.{view}
use Rattle.tl_script_words.specs.Words.{texts}
use Rattle.tl_script.specs.Each.{each}
use Rattle.tl_script.specs.Document.{text_in}
use Rattle.tl_script.proofs.EachLemmas.{with_front}
use Rattle.tl_script.proofs.document.texts.Given as goal

abbrev pub invariant-loop-item : goal.invariant-loop-item
invariant-loop-item l = with_front (texts l.texts.items) (each (λ _ e. text_in l.key e) l.item-index (map view (drop l.item-index l.items))) ≡ each (λ _ e. text_in l.key e) 0 (map view l.items)
