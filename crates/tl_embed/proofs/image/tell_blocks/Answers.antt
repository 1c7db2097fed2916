use Rattle.std.proofs.Common.{◌≡◌, ℕ, suc, ◌+◌, ◌-◌, List, ◌++◌, length, min, take, drop, sym, ◌∙◌, ap, subst, arith}
use Rattle.tl_embed.specs.Images.{bytes_from, bytes_in}
use Rattle.tl_embed.specs.Views.{home_of}
use Rattle.tl_embed.proofs.Imaged.{place-more, told-more}
use Rattle.tl_embed.proofs.image.tell_blocks.Goals as goal

-- one block more
pub loop-number-preserved : goal.loop-number-preserved
loop-number-preserved c =
    let number : ℕ = c.args.first + c.loop-number.number in
    let whole : List ℕ = bytes_from c.args.network.now c.args.first c.loop-number.number in
    let block : List ℕ = bytes_in (home_of c.args.network.now number) number in
    let before : List ℕ = c.args.bytes.now in
    let one : c.loop-number.number + 1 ≡ suc c.loop-number.number = omega arith in
    let up : bytes_from c.args.network.now c.args.first (c.loop-number.number + 1) ≡ whole ++ block =
    ap (λ (k : ℕ). bytes_from c.args.network.now c.args.first k) one in
    record {
      at =
          place-more whole block before c.loop-number.bytes c.loop-number.at c.tell_block-at.result c.loop-number.invariant.at
          c.loop-number.invariant.told
          (subst
          (λ (b : ℕ). c.tell_block-at.result
          ≡ min (c.loop-number.at + length (bytes_in (home_of c.args.network.now b) b)) (length c.loop-number.bytes))
          c.new.ensures c.tell_block-at.ensures.next)
          ∙ ap (λ (zs : List ℕ). min (length zs) (length before)) (sym up);
      told =
          told-more whole block before c.loop-number.bytes c.tell_block-at.new.bytes c.loop-number.at c.loop-number.invariant.at
          c.loop-number.invariant.told
          (subst
          (λ (b : ℕ). c.tell_block-at.new.bytes
          ≡ take c.loop-number.at c.loop-number.bytes
          ++ take (length c.loop-number.bytes - c.loop-number.at) (bytes_in (home_of c.args.network.now b) b)
          ++ drop (c.loop-number.at + length (bytes_in (home_of c.args.network.now b) b)) c.loop-number.bytes)
          c.new.ensures c.tell_block-at.ensures.told)
          ∙ ap (λ (zs : List ℕ). take (length before) zs ++ drop (length zs) before) (sym up);
    }
