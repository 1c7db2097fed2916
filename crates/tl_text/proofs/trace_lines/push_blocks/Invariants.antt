use Rattle.std.proofs.Common.{◌≡◌, ◌++◌, take, string_bytes}
use Rattle.std.specs.List.{flat_map}
use Rattle.tl_text.specs.Closing.{block_line}
use Rattle.tl_text.proofs.trace_lines.push_blocks.Given as goal

abbrev pub invariant-loop-block : goal.invariant-loop-block
invariant-loop-block l = string_bytes l.text ≡ string_bytes l.fn.text ++ flat_map block_line (take l.block-index l.blocks)
