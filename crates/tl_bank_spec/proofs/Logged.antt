-- A bank whose log went on by one event: what its lanes and its blocks are then.
use Rattle.std.proofs.Common.{◌≡◌, ℕ, ◌++◌, ◌∷◌, [], List, sym, ap, subst}
use Rattle.tl_types.specs.declared.channel.Channel.{Channel}
use Rattle.tl_map.specs.Numbers.{Numbers}
use Rattle.tl_protocol.specs.declared.event.Event.{Event}
use Rattle.tl_protocol.specs.Protocol.{Block, block_of}
use Rattle.tl_protocol.specs.Runs.{IsRun, after_next, end_of}
use Rattle.tl_bank_spec.specs.Forbidden.{MayAt}
use Rattle.tl_protocol.proofs.Runs.{runs_grow_by_one}
use Rattle.tl_protocol_lanes.specs.Lanes.{lane_after, lane_of}
use Rattle.tl_protocol_lanes.proofs.Logs.{lanes_grow_by_one, end_of-append}
use Rattle.tl_registers.specs.declared.register.Register.{Register}
use Rattle.std.specs.Prelude.{Option}
use Rattle.tl_bank_spec.specs.Effects.{AppendsWith}
use Rattle.tl_bank_spec.specs.View.{View, end_at, shape_of}
use Rattle.tl_bank_spec.specs.Steps.{Appends, Extends}
use Rattle.tl_bank_spec.specs.Channels.{lane_at}

-- a call that appends an event leaves the same bank, with that event more in its log
pub extends-appends : (v w : View) (e : Event) → Appends v w e → Extends v w e
extends-appends v w e a = record {
  geometry = ap (λ (t : View). t.geometry) a.is;
  number = ap (λ (t : View). t.number) a.is;
  image = ap (λ (t : View). t.image) a.is;
  log = ap (λ (t : View). t.log) a.is;
}

-- and so does one that may also change the open registers and the ways
pub extends-serves :
    (v w : View) (e : Event) (registers : List Register) (ways : ℕ → Option ℕ) → AppendsWith v w e registers ways → Extends v w e
extends-serves v w e registers ways s = record {
  geometry = ap (λ (t : View). t.geometry) s.is;
  number = ap (λ (t : View). t.number) s.is;
  image = ap (λ (t : View). t.image) s.is;
  log = ap (λ (t : View). t.log) s.is;
}

-- a fact of what a bank is made of and its log, of the bank with one more event
pub along :
    (P : Numbers → List ℕ → List Event → Type 0) (v w : View) (e : Event) → Extends v w e → P v.geometry v.image (v.log ++ e ∷ [])
    → P w.geometry w.image w.log
along P v w e x h =
    subst (λ (g : Numbers). P g w.image w.log) (sym x.geometry)
    (subst (λ (i : List ℕ). P v.geometry i w.log) (sym x.image)
    (subst (λ (l : List Event). P v.geometry v.image l) (sym x.log) h))

-- and back
pub back :
    (P : Numbers → List ℕ → List Event → Type 0) (v w : View) (e : Event) → Extends v w e → P w.geometry w.image w.log
    → P v.geometry v.image (v.log ++ e ∷ [])
back P v w e x h =
    subst (λ (l : List Event). P v.geometry v.image l) x.log
    (subst (λ (i : List ℕ). P v.geometry i w.log) x.image
    (subst (λ (g : Numbers). P g w.image w.log) x.geometry h))

-- its lanes
pub lane-next :
    (v w : View) (e : Event) (c : ℕ) (l : Channel) → Extends v w e
    → lane_at w c l
    ≡ lane_after (shape_of v.geometry) (end_at v (block_of (shape_of v.geometry) e)) e c l (lane_at v c l)
lane-next v w e c l x =
    along
    (λ g i log.
    lane_of (shape_of g) i log c l
    ≡ lane_after (shape_of v.geometry) (end_at v (block_of (shape_of v.geometry) e)) e c l (lane_at v c l))
    v w e x (lanes_grow_by_one (shape_of v.geometry) v.image v.log e c l)

-- its blocks
pub block-next :
    (v w : View) (e : Event) (b : ℕ) → Extends v w e
    → end_at w b ≡ after_next (shape_of v.geometry) (end_at v) e b
block-next v w e b x =
    along (λ g i log. end_of (shape_of g) i log b ≡ after_next (shape_of v.geometry) (end_at v) e b) v w e x
    (ap (λ (t : ℕ → Block). t b) (end_of-append (shape_of v.geometry) v.image v.log e))

-- the event was permitted
pub may-next :
    (v w : View) (e : Event) → Extends v w e → IsRun (shape_of w.geometry) w.image w.log
    → MayAt v e
may-next v w e x run =
    (((runs_grow_by_one (shape_of v.geometry) v.image).2 v.log e).0.0
    (back (λ g i log. IsRun (shape_of g) i log) v w e x run)).1
