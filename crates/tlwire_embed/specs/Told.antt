-- What is told of a line (this project's own numbers).
use Rattle.std.specs.Prelude.{ℕ, replicate}
use Rattle.tl_types.specs.declared.limits.TheConstants.{BLOCK_BYTES}
use Rattle.tl_types.specs.declared.permission.Perm.{Perm}
use Rattle.tl_types.specs.declared.wait.Awaited.{Awaited}
use Rattle.tl_types.specs.declared.wait.Awaited.TheVariants.{Nothing, ForGrant, ForReleaseAck}
use Rattle.tl_protocol.specs.Copy.{perm_of}
use Rattle.tlcheck_embed.specs.Told.{breach_told, perm_number}
use Rattle.tlcheck_embed.specs.declared.verdict.Verdict.{Verdict}
use Rattle.tlwire_pins.specs.declared.view.View.{View}
use Rattle.tlwire_pins.specs.declared.views.Broken.{Broken}
use Rattle.tlwire_embed.specs.declared.verdict.PinsVerdict.{PinsVerdict}

-- nothing is told but a status
abbrev pub only : ℕ → PinsVerdict
only status = record {
  status = status;
  rule = 0;
  opcode = 0;
  param = 0;
  len = 0;
  perm = 0;
  wait = 0;
  why = 0;
  bytes = replicate BLOCK_BYTES 0;
}

-- the number of an answer that a client waits for
abbrev pub wait_number : Awaited → ℕ
wait_number Nothing = 0
wait_number ForGrant = 1
wait_number ForReleaseAck = 2

-- the same with what the client may do with the block, and what it waits for
abbrev pub with_state : Perm → Awaited → PinsVerdict → PinsVerdict
with_state perm wait told = record told { perm = perm_number perm; wait = wait_number wait }

-- the same with what the client holds of the block, and what it waits for
abbrev pub with_view : View → PinsVerdict → PinsVerdict
with_view v told = with_state (perm_of v.held) v.wait told

-- what the judge of events tells, without a state
abbrev pub told_of : Verdict → PinsVerdict
told_of v =
    record (only v.status) { rule = v.rule; opcode = v.opcode; param = v.param; len = v.len; bytes = v.bytes }

-- not to be seen, which rule it breaks or how it differs from what the client sends, and the client's state before it
abbrev pub broken_told : Broken → PinsVerdict
broken_told b = with_view b.view (told_of (breach_told b.breach))
