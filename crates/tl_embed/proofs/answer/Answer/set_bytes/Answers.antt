use Rattle.std.proofs.Common.{ℕ, List, length, drop, replicate, ap, ◌∙◌, ◌++◌}
use Rattle.std.proofs.lemmas.List.{drop-replicate}
use Rattle.tl_types.specs.declared.limits.TheConstants.{BLOCK_BYTES}
use Rattle.tl_embed.proofs.answer.Answer.set_bytes.Goals as goal

-- past the bytes there are zeros
pub returns : goal.returns
returns c =
    let zero_byte : ℕ = 0 in
    ap (λ (all : List ℕ). record c.args.self.now { len = length c.args.bytes.now; bytes = all })
    (ap (λ (front : List ℕ). front ++ drop (length c.args.bytes.now) (replicate BLOCK_BYTES zero_byte)) c.copy_from_slice.ensures.after
    ∙ ap (λ (rest : List ℕ). c.args.bytes.now ++ rest) (drop-replicate (length c.args.bytes.now) BLOCK_BYTES zero_byte))
