use Rattle.std.proofs.Common.{ℕ, length}
use Rattle.std.proofs.lemmas.List.{drop-replicate}
use Rattle.tl_types.specs.declared.limits.TheConstants.{BLOCK_BYTES}
use Rattle.tlcheck_embed.proofs.verdict.padded.Goals as goal

-- past the bytes there are zeros
pub returns : goal.returns
returns c = let zero_byte : ℕ = 0 in cc (c.copy_from_slice.ensures.after, drop-replicate (length c.args.bytes.now) BLOCK_BYTES zero_byte)
