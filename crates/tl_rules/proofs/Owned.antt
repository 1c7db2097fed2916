-- Blocks of which some have a state of their own.
use Rattle.std.proofs.Common.{◌≡◌, ℕ, ◌+◌, ◌<◌, List, [], ◌∷◌, Option, Some, None, get_or, length, unwrap_or, add-one, inl, inr, refl, sym, ap, subst, ◌∙◌, arith}
use Rattle.std.specs.Prelude.{slice_get, slice_index_or, slice_set}
use Rattle.std.proofs.lemmas.List.{get_or-map, get_or-set_other, get_or-set_same, get_or_past, get_or_read, length-map, length-set, map-set}
use Rattle.std.proofs.lemmas.List.Elements.{All-get_or, All-set}
use Rattle.std.proofs.lemmas.Option.{get_or_from_slice_get, slice_get-get_or, slice_get_cases}
use Rattle.tl_protocol.specs.Protocol.{May, after, block_of}
use Rattle.tl_protocol.specs.declared.event.Event.{Event}
use Rattle.tl_protocol.specs.declared.shape.Shape.{Shape}
use Rattle.tl_rules.specs.Plain.{IsStep, block_state, empty_block, state_of_plain}
use Rattle.tl_rules.specs.PlainBlock.{PlainBlock}
use Rattle.tl_rules.specs.PlainState.{IsShaped, PlainState, blocks_in, each_block}

-- a block that is there
pub some_here : (blocks : List PlainBlock) (i : ℕ) (b : PlainBlock) → slice_get blocks i ≡ Some b → slice_index_or blocks i empty_block ≡ b
some_here blocks i b here = get_or_from_slice_get blocks i b empty_block here

-- a block that is not there
pub none_past : (blocks : List PlainBlock) (i : ℕ) → slice_get blocks i ≡ None → slice_index_or blocks i empty_block ≡ empty_block
none_past blocks i none = elim (slice_get_cases blocks i).1 [
  | inl there ↦ let some = there.2 in cc
  | inr past ↦ get_or_past blocks i empty_block past.0
]

-- a block as it stands, if it has a state of its own
abbrev pub own_state : PlainBlock → Option PlainBlock → PlainBlock
own_state fresh own = unwrap_or own fresh

-- a block gets a state of its own
set_own : (fresh : PlainBlock) (blocks : List (Option PlainBlock)) (i : ℕ) (own : Option PlainBlock)
    → each_block fresh (slice_set blocks i own) ≡ slice_set (each_block fresh blocks) i (unwrap_or own fresh)
set_own fresh blocks i own = map-set (own_state fresh) blocks i own

-- the map stays in shape then
pub shaped_own : (shape : Shape) (fresh : PlainBlock) (blocks : List (Option PlainBlock)) (i : ℕ) (own : Option PlainBlock)
    → IsShaped shape (each_block fresh blocks) → length (unwrap_or own fresh).clients ≡ shape.clients
    → IsShaped shape (each_block fresh (slice_set blocks i own))
shaped_own shape fresh blocks i own before clients =
    subst (λ (bs : List PlainBlock). IsShaped shape bs) (sym (set_own fresh blocks i own))
    (record {
      nonempty = before.nonempty;
      at_most = before.at_most;
      all_blocks = length-set (each_block fresh blocks) i (unwrap_or own fresh) ∙ before.all_blocks;
      all_clients =
          All-set (λ (b : PlainBlock). length b.clients ≡ shape.clients) (each_block fresh blocks) i (unwrap_or own fresh) clients
          before.all_clients;
    })

-- the map over such blocks
abbrev pub map_over : Shape → PlainBlock → List (Option PlainBlock) → PlainState
map_over shape fresh blocks = record { shape = shape; blocks = each_block fresh blocks }

-- a step of the map, where it is one of its block
pub stepped : (shape : Shape) (fresh : PlainBlock) (blocks : List (Option PlainBlock)) (i : ℕ) (own : Option PlainBlock) (e : Event)
    → i ≡ block_of shape e → i < length blocks → May shape (state_of_plain (map_over shape fresh blocks) (block_of shape e)) e
    → block_state (unwrap_or own fresh) ≡ after shape (block_state (unwrap_or (slice_index_or blocks i None) fresh)) e
    → IsStep (map_over shape fresh blocks) (map_over shape fresh (slice_set blocks i own)) e
stepped shape fresh blocks i own e at lt may led =
    let old : List PlainBlock = each_block fresh blocks in
    let inside : i < length old = subst (λ (n : ℕ). i < n) (sym (length-map blocks (own_state fresh))) lt in
    let was : slice_index_or old i empty_block ≡ unwrap_or (slice_index_or blocks i None) fresh
    = get_or-map (own_state fresh) blocks i None empty_block lt in
    let is : slice_index_or (each_block fresh (slice_set blocks i own)) i empty_block ≡ unwrap_or own fresh
    = ap (λ (bs : List PlainBlock). slice_index_or bs i empty_block) (set_own fresh blocks i own)
    ∙ get_or-set_same old i (unwrap_or own fresh) empty_block inside in
    record {
      same_shape = refl;
      permitted = may;
      changed =
          subst
          (λ (n : ℕ). block_state (slice_index_or (each_block fresh (slice_set blocks i own)) n empty_block)
          ≡ after shape (block_state (slice_index_or old n empty_block)) e)
          at
          (ap (λ (b : PlainBlock). block_state b) is ∙ (led ∙ ap (λ (b : PlainBlock). after shape (block_state b) e) (sym was)));
      others = λ block other.
          ap (λ (b : PlainBlock). block_state b)
          (ap (λ (bs : List PlainBlock). slice_index_or bs block empty_block) (set_own fresh blocks i own)
          ∙ get_or-set_other old i block (unwrap_or own fresh) empty_block (λ same. other (same ∙ at)));
    }

-- ## The states of the map: a fresh block's, and behind it each block's own

-- where there is a block there is its place
pub place_there : (shape : Shape) (states : List (Option PlainBlock)) (i : ℕ) → IsShaped shape (blocks_in states) → i < shape.blocks
    → i + 1 < length states
place_there shape [] i before lt = absurd (omega (arith, lt, before.all_blocks))
place_there shape (None ∷ own) i before lt = absurd (omega (arith, lt, before.all_blocks))
place_there shape (Some fresh ∷ own) i before lt = omega (arith, lt, before.all_blocks, length-map own (own_state fresh))

-- a block and its clients
abbrev IsAt : Shape → List PlainBlock → ℕ → PlainBlock → Type 0
IsAt shape blocks i b = (slice_index_or blocks i empty_block ≡ b) × (length b.clients ≡ shape.clients)

-- what stands at its place
at_place : (shape : Shape) (fresh : PlainBlock) (own : List (Option PlainBlock)) (i : ℕ) (here : Option PlainBlock)
    → IsShaped shape (each_block fresh own) → i < shape.blocks → here ≡ get_or (Some fresh ∷ own) (i + 1) here
    → IsAt shape (each_block fresh own) i (unwrap_or here fresh)
at_place shape fresh own i here before lt is =
    let inside : i < length own = omega (arith, lt, before.all_blocks, length-map own (own_state fresh)) in
    let read : here ≡ get_or own i here = rw add-one at is in
    let block : slice_index_or (each_block fresh own) i empty_block ≡ unwrap_or here fresh
    = get_or-map (own_state fresh) own i None empty_block inside
    ∙ ap (λ (o : Option PlainBlock). unwrap_or o fresh) (sym (get_or_read own i here inside read None)) in (
      block,
      subst (λ (b : PlainBlock). length b.clients ≡ shape.clients) block
          (All-get_or (λ (b : PlainBlock). length b.clients ≡ shape.clients) (each_block fresh own) i empty_block
          (omega (arith, lt, before.all_blocks)) before.all_clients),
    )

-- its own state
pub own_at : (shape : Shape) (states : List (Option PlainBlock)) (i : ℕ) (here : Option PlainBlock) (b : PlainBlock)
    → IsShaped shape (blocks_in states) → i < shape.blocks → here ≡ get_or states (i + 1) here → here ≡ Some b
    → (slice_index_or (blocks_in states) i empty_block ≡ b) × (length b.clients ≡ shape.clients)
own_at shape [] i here b before lt is some = absurd (omega (arith, lt, before.all_blocks))
own_at shape (None ∷ own) i here b before lt is some = absurd (omega (arith, lt, before.all_blocks))
own_at shape (Some fresh ∷ own) i here b before lt is some =
    subst (λ (o : Option PlainBlock). IsAt shape (each_block fresh own) i (unwrap_or o fresh)) some
    (at_place shape fresh own i here before lt is)

-- or the fresh one, which is read when what stands at its place was written back
pub fresh_at : (shape : Shape) (states : List (Option PlainBlock)) (i : ℕ) (here first : Option PlainBlock) (b : PlainBlock)
    → IsShaped shape (blocks_in states) → i < shape.blocks → here ≡ get_or states (i + 1) here → here ≡ None
    → get_or (slice_set states (i + 1) (get_or states (i + 1) here)) 0 first ≡ Some b
    → (slice_index_or (blocks_in states) i empty_block ≡ b) × (length b.clients ≡ shape.clients)
fresh_at shape [] i here first b before lt is none some = absurd (omega (arith, lt, before.all_blocks))
fresh_at shape (None ∷ own) i here first b before lt is none some = absurd (omega (arith, lt, before.all_blocks))
fresh_at shape (Some fresh ∷ own) i here first b before lt is none some =
    let head : Some fresh ≡ Some b = rw add-one at some in
    let same : fresh ≡ b = cc in
    subst (λ (x : PlainBlock). IsAt shape (each_block fresh own) i x) same
    (subst (λ (o : Option PlainBlock). IsAt shape (each_block fresh own) i (unwrap_or o fresh)) none
    (at_place shape fresh own i here before lt is))

-- a block that is there is its own state
pub own_there : (shape : Shape) (states : List (Option PlainBlock)) (i : ℕ) (here : Option PlainBlock) (b : PlainBlock)
    → IsShaped shape (blocks_in states) → i < shape.blocks → here ≡ get_or states (i + 1) here → here ≡ Some b
    → slice_get (blocks_in states) i ≡ Some b
own_there shape states i here b before lt is some =
    slice_get-get_or (blocks_in states) i empty_block (omega (arith, lt, before.all_blocks))
    ∙ ap Some (own_at shape states i here b before lt is some).0

-- or the fresh one
pub fresh_there : (shape : Shape) (states : List (Option PlainBlock)) (i : ℕ) (here first : Option PlainBlock)
    → IsShaped shape (blocks_in states) → i < shape.blocks → here ≡ get_or states (i + 1) here → here ≡ None
    → first ≡ get_or states 0 first → slice_get (blocks_in states) i ≡ first
fresh_there shape [] i here first before lt is none read = absurd (omega (arith, lt, before.all_blocks))
fresh_there shape (None ∷ own) i here first before lt is none read = absurd (omega (arith, lt, before.all_blocks))
fresh_there shape (Some fresh ∷ own) i here first before lt is none read =
    let at : IsAt shape (each_block fresh own) i fresh
    = subst (λ (o : Option PlainBlock). IsAt shape (each_block fresh own) i (unwrap_or o fresh)) none
    (at_place shape fresh own i here before lt is) in
    slice_get-get_or (each_block fresh own) i empty_block (omega (arith, lt, before.all_blocks)) ∙ ap Some at.0 ∙ sym read

-- the map stays in shape where a block gets a state
pub shaped_at : (shape : Shape) (states : List (Option PlainBlock)) (i : ℕ) (b : PlainBlock) → IsShaped shape (blocks_in states)
    → length b.clients ≡ shape.clients → IsShaped shape (blocks_in (slice_set states (i + 1) (Some b)))
shaped_at shape [] i b before clients = before
shaped_at shape (None ∷ own) i b before clients = rw add-one before
shaped_at shape (Some fresh ∷ own) i b before clients = rw add-one (shaped_own shape fresh own i (Some b) before clients)

-- the map over such states
abbrev pub map_in : Shape → List (Option PlainBlock) → PlainState
map_in shape states = record { shape = shape; blocks = blocks_in states }

-- and that is a step of the map, where it is one of the block
pub stepped_at : (shape : Shape) (states : List (Option PlainBlock)) (i : ℕ) (b : PlainBlock) (e : Event)
    → IsShaped shape (blocks_in states) → i ≡ block_of shape e → May shape (state_of_plain (map_in shape states) (block_of shape e)) e
    → block_state b ≡ after shape (block_state (slice_index_or (blocks_in states) i empty_block)) e
    → IsStep (map_in shape states) (map_in shape (slice_set states (i + 1) (Some b))) e
stepped_at shape [] i b e before at may led = absurd (omega (arith, may.0, before.all_blocks))
stepped_at shape (None ∷ own) i b e before at may led = absurd (omega (arith, may.0, before.all_blocks))
stepped_at shape (Some fresh ∷ own) i b e before at may led =
    let inside : i < length own = omega (arith, at, may.0, before.all_blocks, length-map own (own_state fresh)) in
    let was : slice_index_or (each_block fresh own) i empty_block ≡ unwrap_or (slice_index_or own i None) fresh
    = get_or-map (own_state fresh) own i None empty_block inside in
    rw add-one
    (stepped shape fresh own i (Some b) e at inside may
    (led ∙ ap (λ (x : PlainBlock). after shape (block_state x) e) was))
