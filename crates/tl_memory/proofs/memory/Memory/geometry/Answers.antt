use Rattle.std.proofs.Common.{vec_capacity, ◌≡◌, ◌<◌, ℕ, List, true, length, refl, ap, ◌∙◌}
use Rattle.tl_types.proofs.Image.{length-image_bytes}
use Rattle.tl_memory.specs.Blocks.{is_kept}
use Rattle.tl_memory.proofs.BlockLaws.{block_in-laid, place_in-lt}
use Rattle.tl_memory.proofs.memory.Memory.geometry.Goals as goal

pub returns-clause-sized : goal.returns-clause-sized
returns-clause-sized c = λ b inside kept.
    let g = c.self.inside.geometry in
    let bank = c.self.inside.bank in
    let inside' : b < g.memory_blocks = rw (← c.self.view_is) at inside in
    let kept' : is_kept g bank b ≡ true = rw (← c.self.view_is) at kept in
    let is = block_in-laid c.args.self.now g bank (vec_capacity c.self.inside.bytes) c.self.inside.bytes.items c.self.view_is c.self.invariant.0 c.self.invariant.1 b
    (place_in-lt g bank b c.banks.ensures.lawful inside') kept' in
    ap (λ (xs : List ℕ). length xs) is ∙ length-image_bytes c.self.inside.bytes.items _ g.block_bytes ∙ rw (← c.self.view_is) refl
