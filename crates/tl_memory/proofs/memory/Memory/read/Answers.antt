use Rattle.std.proofs.Common.{vec_capacity, ◌≡◌, ◌*◌, ◌<◌, true, sym, ◌∙◌}
use Rattle.tl_types.proofs.Image.{length-image_bytes}
use Rattle.tl_memory.specs.Blocks.{is_kept, place_in}
use Rattle.tl_memory.proofs.BlockLaws.{block_in-laid, place_in-lt, whole_beats}
use Rattle.tl_memory.proofs.memory.Memory.read.Goals as goal

pub returns-clause-block : goal.returns-clause-block
returns-clause-block c =
    let inside : c.args.block < c.self.inside.geometry.memory_blocks = rw (← c.self.view_is) at c.requires.inside in
    let kept : is_kept c.self.inside.geometry c.self.inside.bank c.args.block ≡ true = rw (← c.self.view_is) at c.requires.kept in
    let begins : c.start-from.result ≡ place_in c.self.inside.geometry c.self.inside.bank c.args.block * c.self.inside.geometry.block_bytes =
    rw (← c.self.view_is) at c.start-from.ensures.is in
    rw (c.from_image.ensures, c.as_slice.ensures.value, c.block_bytes.ensures.is, begins)
    (sym (block_in-laid _ c.self.inside.geometry c.self.inside.bank (vec_capacity c.self.inside.bytes) c.self.inside.bytes.items c.self.view_is c.self.invariant.0 c.self.invariant.1
    c.args.block (place_in-lt c.self.inside.geometry c.self.inside.bank c.args.block c.block_bytes.ensures.lawful inside) kept))

pub returns-clause-len : goal.returns-clause-len
returns-clause-len c =
    rw (← c.self.view_is, c.from_image.ensures) (length-image_bytes c.as_slice.result.now c.start-from.result c.block_bytes.result ∙ c.block_bytes.ensures.is)

pub returns-clause-beats : goal.returns-clause-beats
returns-clause-beats c =
    rw (c.from_image.ensures, length-image_bytes c.as_slice.result.now c.start-from.result c.block_bytes.result, c.block_bytes.ensures.is)
    (whole_beats c.self.inside.geometry.block_bytes c.block_bytes.ensures.lawful.block_bytes).0
