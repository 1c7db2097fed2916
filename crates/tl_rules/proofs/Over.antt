-- The states of a map over an image, one block after the other.
use Rattle.std.proofs.Common.{◌≡◌, ℕ, ◌+◌, ◌*◌, ◌<◌, List, [], ◌∷◌, ◌++◌, Option, Some, None, MatchOption, length, get_or, unwrap_or, sym, ap, subst, ◌∙◌}
use Rattle.std.proofs.lemmas.List.{map-append}
use Rattle.tl_types.specs.Bytes.{image_bytes}
use Rattle.tl_protocol.specs.Protocol.{reset}
use Rattle.tl_protocol.specs.declared.shape.Shape.{Shape}
use Rattle.tl_rules.specs.Plain.{block_state, empty_block}
use Rattle.tl_rules.specs.PlainBlock.{PlainBlock}
use Rattle.tl_rules.specs.PlainState.{each_block}
use Rattle.tl_rules.proofs.Fresh.{each_of_more, one_more}
use Rattle.tl_rules.proofs.Owned.{own_state}

-- the bytes of a block of an image
abbrev pub bytes_at : Shape → List ℕ → ℕ → List ℕ
bytes_at shape image block = image_bytes image (block * shape.block_bytes) shape.block_bytes

-- a block is at reset over these bytes, with each client
abbrev pub IsOver : Shape → List ℕ → PlainBlock → Type 0
IsOver shape memory b = (block_state b ≡ reset memory) × (length b.clients ≡ shape.clients)

-- some states over an image: a fresh block's, and then those of its first blocks
pub record AreOver (shape : Shape) (image : List ℕ) (count : ℕ) (states : List (Option PlainBlock)) : Type 0 where
  pub fresh : PlainBlock
  pub own : List (Option PlainBlock)
  pub are : states ≡ Some fresh ∷ own
  pub fresh_is : IsOver shape (image_bytes [] 0 shape.block_bytes) fresh
  pub as_many : length (each_block fresh own) ≡ count
  pub each : (k : ℕ) → k < count → IsOver shape (bytes_at shape image k) (get_or (each_block fresh own) k empty_block)

-- a block that has no state of its own is over its bytes, where these are the fresh block's
own_over : (shape : Shape) (memory zeros : List ℕ) (fresh : PlainBlock) (own : Option PlainBlock) → IsOver shape zeros fresh
    → MatchOption own (memory ≡ zeros) (λ b. IsOver shape memory b) → IsOver shape memory (unwrap_or own fresh)
own_over shape memory zeros fresh None fresh_is same = (fresh_is.0 ∙ sym (ap reset same), fresh_is.1)
own_over shape memory zeros fresh (Some b) fresh_is over = over

-- one block more
pub over_more : (shape : Shape) (image memory zeros : List ℕ) (i : ℕ) (states grown : List (Option PlainBlock)) (own : Option PlainBlock)
    → AreOver shape image i states → grown ≡ states ++ own ∷ [] → zeros ≡ image_bytes [] 0 shape.block_bytes
    → memory ≡ bytes_at shape image i → MatchOption own (memory ≡ zeros) (λ b. IsOver shape memory b) → AreOver shape image (i + 1) grown
over_more shape image memory zeros i states grown own before is zeros_are bytes over =
    let one : PlainBlock = unwrap_or own before.fresh in
    let fresh_is : IsOver shape zeros before.fresh = subst (λ (bs : List ℕ). IsOver shape bs before.fresh) (sym zeros_are) before.fresh_is in
    let here : IsOver shape (bytes_at shape image i) one
    = subst (λ (bs : List ℕ). IsOver shape bs one) bytes (own_over shape memory zeros before.fresh own fresh_is over) in
    let blocks : List PlainBlock = each_block before.fresh before.own in
    let more : each_block before.fresh (before.own ++ own ∷ []) ≡ blocks ++ one ∷ []
    = map-append (own_state before.fresh) before.own (own ∷ []) in
    record {
      fresh = before.fresh;
      own = before.own ++ own ∷ [];
      are = is ∙ ap (λ (ss : List (Option PlainBlock)). ss ++ own ∷ []) before.are;
      fresh_is = before.fresh_is;
      as_many = one_more blocks _ one i more before.as_many;
      each =
          each_of_more (λ (k : ℕ) (b : PlainBlock). IsOver shape (bytes_at shape image k) b) blocks _ one empty_block i more
          before.as_many before.each here;
    }
