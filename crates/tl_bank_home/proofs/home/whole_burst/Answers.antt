use Rattle.tl_memory.proofs.BlockLaws.{whole_beats}
use Rattle.tl_bank_home.proofs.home.whole_burst.Goals as goal

pub of_block-requires : goal.of_block-requires
of_block-requires c =
    rw (c.copied.ensures, c.requires) (whole_beats c.args.geometry.block_bytes c.block_bytes.ensures.lawful.block_bytes).0
