use Rattle.std.proofs.Common.{◌≡◌, ◌*◌, ◌<◌, ◌≤◌, ℕ, List, length, sym, ◌∙◌, ap, arith}
use Rattle.std.proofs.Math.Nat.{mul-le-mul}
use Rattle.std.specs.Int.{div_ceil}
use Rattle.tl_types.specs.declared.limits.TheConstants.{BLOCKS, BLOCK_BYTES}
use Rattle.tl_types.specs.Bytes.{image_bytes}
use Rattle.tl_types.proofs.Image.{length-image_bytes}
use Rattle.tl_map.specs.Numbers.{Numbers}
use Rattle.tl_memory.proofs.BlockLaws.{ceil_above, ceil_below, ceil_inside, filled-all, filled-more, filled-skip, whole_beats}
use Rattle.tl_memory.proofs.memory.Memory.of_bank.Goals as goal
use Rattle.tl_memory.proofs.memory.Memory.of_bank.Goals.{then-keeps, else-keeps}

pub loop-number-init : goal.loop-number-init
loop-number-init c = record {
  geometry = c.in_ok-memory.ensures.geometry;
  bank = c.in_ok-memory.ensures.bank;
  part = c.in_ok-memory.ensures.part;
  room = c.in_ok-memory.ensures.room;
  below = λ b inside own less. absurd (omega arith);
  rest = λ b inside own past. c.in_ok-memory.ensures.blocks b inside own;
}

pub loop-number-preserved : goal.loop-number-preserved
loop-number-preserved c =
    let bytes = c.block_bytes-block_bytes.ensures.is in
    elim c.if-keeps.branch [
      | then-keeps w ↦
          let read : w.from_image.result ≡ image_bytes c.args.image.now (c.loop-number.number * c.args.geometry.block_bytes) c.args.geometry.block_bytes =
          rw (← bytes) (w.from_image.ensures) in
          rw (w.memory-is)
          (filled-more c.args.geometry c.args.bank c.args.image.now c.loop-number.number w.from_image.result c.loop-number.memory w.write.new.self
          c.loop-number.invariant w.write.ensures.geometry w.write.ensures.bank w.write.ensures.len w.write.ensures.room
          (rw (c.new-block.ensures) at w.write.ensures.blocks) read)
      | else-keeps w ↦
          rw (w.memory-is)
          (filled-skip c.args.geometry c.args.bank c.args.image.now c.loop-number.number c.loop-number.memory c.loop-number.invariant
          (rw (← c.new-block.ensures) (sym c.keeps.ensures ∙ w.if-keeps.false)))
    ]

pub overflow_mul-from : goal.overflow_mul-from
overflow_mul-from c =
    let some = (whole_beats c.args.geometry.block_bytes c.block_bytes-block_bytes.ensures.lawful.block_bytes).1 in
    let bytes = c.block_bytes-block_bytes.ensures.is in
    let end : c.loop-number.number < div_ceil (length c.args.image.now) c.args.geometry.block_bytes =
    rw (← bytes, ← c.div_ceil-number-end.ensures) c.loop-number-test.true in
    let below = ceil_below (length c.args.image.now) c.args.geometry.block_bytes c.loop-number.number some end in
    let lawful = c.block_bytes-block_bytes.ensures.lawful in
    let most : c.args.geometry.memory_blocks * c.args.geometry.block_bytes ≤ BLOCKS * BLOCK_BYTES = mul-le-mul lawful.memory_blocks.most lawful.block_bytes.most in
    rw bytes (omega (arith, below, c.requires, most))

pub write-requires-clause-inside : goal.write-requires-clause-inside
write-requires-clause-inside c =
    let some = (whole_beats c.args.geometry.block_bytes c.block_bytes-block_bytes.ensures.lawful.block_bytes).1 in
    let bytes = c.block_bytes-block_bytes.ensures.is in
    let end : c.loop-number.number < div_ceil (length c.args.image.now) c.args.geometry.block_bytes =
    rw (← bytes, ← c.div_ceil-number-end.ensures) c.loop-number-test.true in
    rw (c.loop-number.invariant.geometry, c.new-block.ensures)
    (ceil_inside (length c.args.image.now) c.args.geometry.block_bytes c.args.geometry.memory_blocks c.loop-number.number some c.requires end)

pub write-requires-clause-kept : goal.write-requires-clause-kept
write-requires-clause-kept c = sym c.keeps.ensures ∙ c.if-keeps.true

pub write-requires-clause-len : goal.write-requires-clause-len
write-requires-clause-len c =
    ap (λ (xs : List ℕ). length xs) c.from_image.ensures ∙ length-image_bytes c.args.image.now _ c.block_bytes-block_bytes.result
    ∙ c.block_bytes-block_bytes.ensures.is ∙ sym (ap (λ (g : Numbers). g.block_bytes) c.loop-number.invariant.geometry)

pub returns-clause-geometry : goal.returns-clause-geometry
returns-clause-geometry c = c.loop-number.invariant.geometry

pub returns-clause-bank : goal.returns-clause-bank
returns-clause-bank c = c.loop-number.invariant.bank

pub returns-clause-part : goal.returns-clause-part
returns-clause-part c = c.loop-number.invariant.part

pub returns-clause-room : goal.returns-clause-room
returns-clause-room c = c.loop-number.invariant.room

pub returns-clause-blocks : goal.returns-clause-blocks
returns-clause-blocks c =
    let some = (whole_beats c.args.geometry.block_bytes c.block_bytes-block_bytes.ensures.lawful.block_bytes).1 in
    let above : length c.args.image.now ≤ div_ceil (length c.args.image.now) c.block_bytes-block_bytes.result * c.block_bytes-block_bytes.result =
    rw (c.block_bytes-block_bytes.ensures.is) (ceil_above (length c.args.image.now) c.args.geometry.block_bytes some) in
    let end : c.loop-number.number ≡ c.div_ceil-number-end.result = omega (arith, c.loop-number.auto.number-end, c.loop-number-test.false) in
    let whole : length c.args.image.now ≤ c.loop-number.number * c.args.geometry.block_bytes =
    rw (end, c.div_ceil-number-end.ensures, ← c.block_bytes-block_bytes.ensures.is) above in
    filled-all c.args.geometry c.args.bank c.args.image.now c.loop-number.number c.loop-number.memory c.loop-number.invariant whole
