-- Each line that is seen of a run may be seen.
use Rattle.std.proofs.Common.{◌≡◌, ℕ, List, ◌++◌, filter, sym, subst, ◌∙◌}
use Rattle.tl_protocol.specs.Runs.{at_reset}
use Rattle.tl_protocol.specs.declared.event.Event.{Event}
use Rattle.tl_protocol.specs.declared.shape.Shape.{Shape}
use Rattle.tlwire_search.specs.declared.seen.Seen.{Seen}
use Rattle.tlwire_pins.specs.Impossible.{EveryLineMayBeSeen}
use Rattle.tlwire_pins.specs.Pins.{IsSeenAt, is_message, lines_from, own}
use Rattle.tlwire_pins.specs.View.{fresh, keeps}
use Rattle.tlwire_pins.specs.Walk.{AllMay}
use Rattle.tlwire_pins.specs.declared.view.Cores.{Cores}
use Rattle.tlwire_pins.specs.declared.view.Cores.TheVariants.{Watched, Unseen}
use Rattle.tlwire_pins.proofs.Dropped.{may_behind_drops}
use Rattle.tlwire_pins.proofs.Leads.{seen_run}
use Rattle.tlwire_pins.proofs.Unseen.{agrees, each_may, may_first, messages_of, one_may, unseen_may}

-- the lines of a record in full may be seen, one after another
all_may : (cores : Cores) (c : ℕ) (shape : Shape) (image : List ℕ) (full : List Seen) (run : List Event) → IsSeenAt cores c shape image full run
    → (block : ℕ) → AllMay (keeps cores) shape fresh (own shape c block full)
all_may Watched c shape image full run so block =
    let lines : List Seen = own shape c block (lines_from shape (at_reset shape image) run) in
    let all : AllMay (keeps Watched) shape fresh lines =
    each_may shape lines fresh (λ xs ys y h. seen_run shape c block run (at_reset shape image) xs ys y so.lawful h) in
    let each = so.each block in
    may_first (keeps Watched) shape fresh (own shape c block full) each.0 (subst (λ (xs : List Seen). AllMay (keeps Watched) shape fresh xs) each.1 all)
all_may Unseen c shape image full run so block =
    let lines : List Seen = own shape c block (lines_from shape (at_reset shape image) run) in
    let all : AllMay (keeps Watched) shape fresh lines =
    each_may shape lines fresh (λ xs ys y h. seen_run shape c block run (at_reset shape image) xs ys y so.lawful h) in
    let each = so.each block in
    let same : filter is_message lines ≡ own shape c block full ++ each.0 =
    sym (messages_of shape c block (lines_from shape (at_reset shape image) run)) ∙ each.1 in
    may_first (keeps Unseen) shape fresh (own shape c block full) each.0
    (subst (λ (xs : List Seen). AllMay (keeps Unseen) shape fresh xs) same (unseen_may shape lines fresh fresh (agrees fresh) all))

pub every_line : EveryLineMayBeSeen
every_line tap c shape image seen full run filled so block before later x e =
    one_may tap shape before later x fresh
    (subst (λ (xs : List Seen). AllMay tap shape fresh xs) e
    (may_behind_drops tap shape c block seen full fresh filled (all_may tap.cores c shape image full run so block)))
