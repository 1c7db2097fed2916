use Rattle.std.proofs.Common.{◌≡◌, ◌+◌, List, Option, Some, length, sym, ap, subst, arith}
use Rattle.std.proofs.lemmas.List.{length-set, with_items_is}
use Rattle.tl_protocol.specs.Protocol.{May, block_of}
use Rattle.tl_rules.specs.Plain.{IsStep, state_of_plain}
use Rattle.tl_rules.specs.PlainBlock.{PlainBlock}
use Rattle.tl_rules.specs.PlainState.{PlainState}
use Rattle.tl_rules.specs.States.{IsLedTo}
use Rattle.tl_rules.proofs.Owned.{map_in, stepped_at}
use Rattle.tl_rules.proofs.plain.Plain.carry_out.Goals as goal

pub returns-clause-ok : goal.returns-clause-ok
returns-clause-ok c =
    let states : List (Option PlainBlock) = c.self.inside.states.items in
    let old : PlainState = map_in c.self.inside.shape states in
    let may : May old.shape (state_of_plain old (block_of old.shape c.args.event.now)) c.args.event.now
    = subst (λ (p : PlainState). May p.shape (state_of_plain p (block_of p.shape c.args.event.now)) c.args.event.now)
    (sym c.self.view_is) c.requires in
    let led : IsLedTo c.self.inside.shape states c.apply_at.new.states c.block-block.result c.args.event.now
    = subst (λ (ss : List (Option PlainBlock)). IsLedTo c.self.inside.shape ss c.apply_at.new.states c.block-block.result c.args.event.now)
    c.deref_mut.ensures.value c.in_ok-apply_at.ensures.ok in
    let len : length c.apply_at.new.states ≡ c.self.inside.states.len
    = omega (arith, ap length led.1, length-set states (c.block-block.result + 1) (Some led.0), c.self.inside.states.ok.0) in
    let step : IsStep old (map_in c.self.inside.shape c.apply_at.new.states) c.args.event.now
    = subst (λ (ss : List (Option PlainBlock)). IsStep old (map_in c.self.inside.shape ss) c.args.event.now) (sym led.1)
    (stepped_at c.self.inside.shape states c.block-block.result led.0 c.args.event.now c.self.invariant c.block-block.ensures may led.2) in
    subst (λ (ss : List (Option PlainBlock)). IsStep c.args.self.now (map_in c.self.inside.shape ss) c.args.event.now)
    (sym (with_items_is c.self.inside.states c.apply_at.new.states len))
    (subst (λ (p : PlainState). IsStep p (map_in c.self.inside.shape c.apply_at.new.states) c.args.event.now) c.self.view_is step)
