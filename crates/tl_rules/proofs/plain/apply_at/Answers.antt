use Rattle.std.proofs.Common.{◌≡◌, ◌+◌, List, Option, Some, length, refl, sym, ap, subst, ◌∙◌}
use Rattle.std.specs.Prelude.{slice_index_or, slice_set}
use Rattle.std.proofs.lemmas.List.{set-get_or}
use Rattle.std.proofs.lemmas.Result.{on_ok_weaker}
use Rattle.tl_protocol.specs.Protocol.{MayOn, after}
use Rattle.tl_rules.specs.Plain.{block_state, empty_block}
use Rattle.tl_rules.specs.PlainBlock.{PlainBlock}
use Rattle.tl_rules.specs.PlainState.{IsShaped, blocks_in}
use Rattle.tl_rules.proofs.Owned.{fresh_at, own_at, place_there, shaped_at}
use Rattle.tl_rules.proofs.plain.apply_at.Goals as goal

pub bounds-states-place : goal.bounds-states-place
bounds-states-place c = place_there c.args.shape c.args.states.now c.args.block c.requires.shaped c.requires.there

-- ## A block with a state of its own

pub apply-requires-clause-size : goal.apply-requires-clause-size
apply-requires-clause-size c =
    (own_at c.args.shape c.args.states.now c.args.block c.index-states-place.result c.in-Some.state c.requires.shaped c.requires.there
    c.index-states-place.is (c.index-states-place.is ∙ c.in-Some.is)).1

pub apply-requires-clause-may : goal.apply-requires-clause-may
apply-requires-clause-may c =
    subst (λ (b : PlainBlock). MayOn c.args.shape (block_state b) c.args.event.now)
    (own_at c.args.shape c.args.states.now c.args.block c.index-states-place.result c.in-Some.state c.requires.shaped c.requires.there
    c.index-states-place.is (c.index-states-place.is ∙ c.in-Some.is)).0 c.requires.may

pub returns-in-Some-clause-ok : goal.returns-in-Some-clause-ok
returns-in-Some-clause-ok c =
    let was : slice_index_or (blocks_in c.args.states.now) c.args.block empty_block ≡ c.in-Some.state
    = (own_at c.args.shape c.args.states.now c.args.block c.index-states-place.result c.in-Some.state c.requires.shaped c.requires.there
    c.index-states-place.is (c.index-states-place.is ∙ c.in-Some.is)).0 in
    on_ok_weaker c.apply.result
    (λ led. (
      c.apply.new.self,
      refl,
      led ∙ ap (λ (b : PlainBlock). after c.args.shape (block_state b) c.args.event.now) (sym was),
    )) c.apply.ensures.ok

pub returns-in-Some-clause-shaped : goal.returns-in-Some-clause-shaped
returns-in-Some-clause-shaped c =
    shaped_at c.args.shape c.args.states.now c.args.block c.apply.new.self c.requires.shaped
    (c.apply.ensures.clients
    ∙ (own_at c.args.shape c.args.states.now c.args.block c.index-states-place.result c.in-Some.state c.requires.shaped c.requires.there
    c.index-states-place.is (c.index-states-place.is ∙ c.in-Some.is)).1)

-- ## A block as the fresh one

pub apply-requires-2-clause-size : goal.apply-requires-2-clause-size
apply-requires-2-clause-size c =
    ap (λ (b : PlainBlock). length b.clients) c.in_ok-state.ensures
    ∙ (fresh_at c.args.shape c.args.states.now c.args.block c.index-states-place.result c.index-states-0.result c.in-Some-states.fresh
    c.requires.shaped c.requires.there c.index-states-place.is (c.index-states-place.is ∙ c.in_default.is) c.in-Some-states.is).1

pub apply-requires-2-clause-may : goal.apply-requires-2-clause-may
apply-requires-2-clause-may c =
    subst (λ (b : PlainBlock). MayOn c.args.shape (block_state b) c.args.event.now)
    ((fresh_at c.args.shape c.args.states.now c.args.block c.index-states-place.result c.index-states-0.result c.in-Some-states.fresh
    c.requires.shaped c.requires.there c.index-states-place.is (c.index-states-place.is ∙ c.in_default.is) c.in-Some-states.is).0
    ∙ sym c.in_ok-state.ensures) c.requires.may

pub returns-clause-ok : goal.returns-clause-ok
returns-clause-ok c =
    let was : slice_index_or (blocks_in c.args.states.now) c.args.block empty_block ≡ c.in-Some-states.fresh
    = (fresh_at c.args.shape c.args.states.now c.args.block c.index-states-place.result c.index-states-0.result c.in-Some-states.fresh
    c.requires.shaped c.requires.there c.index-states-place.is (c.index-states-place.is ∙ c.in_default.is) c.in-Some-states.is).0 in (
      c.apply-2.new.self,
      ap (λ (ss : List (Option PlainBlock)). slice_set ss (c.args.block + 1) (Some c.apply-2.new.self))
          (set-get_or c.args.states.now (c.args.block + 1) c.index-states-place.result),
      c.in_ok-apply.ensures.ok
          ∙ ap (λ (b : PlainBlock). after c.args.shape (block_state b) c.args.event.now) (c.in_ok-state.ensures ∙ sym was),
    )

pub returns-clause-shaped : goal.returns-clause-shaped
returns-clause-shaped c =
    let clients : length c.in-Some-states.fresh.clients ≡ c.args.shape.clients
    = (fresh_at c.args.shape c.args.states.now c.args.block c.index-states-place.result c.index-states-0.result c.in-Some-states.fresh
    c.requires.shaped c.requires.there c.index-states-place.is (c.index-states-place.is ∙ c.in_default.is) c.in-Some-states.is).1 in
    subst (λ (ss : List (Option PlainBlock)). IsShaped c.args.shape (blocks_in (slice_set ss (c.args.block + 1) (Some c.apply-2.new.self))))
    (sym (set-get_or c.args.states.now (c.args.block + 1) c.index-states-place.result))
    (shaped_at c.args.shape c.args.states.now c.args.block c.apply-2.new.self c.requires.shaped
    (c.apply-2.ensures.clients ∙ (ap (λ (b : PlainBlock). length b.clients) c.in_ok-state.ensures ∙ clients)))
