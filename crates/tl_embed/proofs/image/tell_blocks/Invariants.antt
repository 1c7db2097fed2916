use Rattle.std.proofs.Common.{◌≡◌, ◌++◌, length, min, take, drop}
use Rattle.tl_embed.specs.Images.{bytes_from}
use Rattle.tl_embed.proofs.image.tell_blocks.Given as goal

abbrev pub invariant-loop-number : goal.invariant-loop-number
invariant-loop-number l = record {
  at : l.at ≡ min (length (bytes_from l.network l.first l.number)) (length l.initial.bytes);
  told :
      l.bytes
      ≡ take (length l.initial.bytes) (bytes_from l.network l.first l.number)
      ++ drop (length (bytes_from l.network l.first l.number)) l.initial.bytes;
}
