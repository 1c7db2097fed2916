-- Which messages are looked for (the four messages of TileLink 1.8, section 9, that home or a client has pending).
use Rattle.std.specs.Prelude.{Bool, true, false}
use Rattle.tl_types.specs.Message.{is_probe_ack}
use Rattle.tl_types.specs.Bodies.{is_a_grant}
use Rattle.tl_types.specs.declared.message.Body.{Body}
use Rattle.tl_types.specs.declared.message.Body.TheVariants.{AcquireBlock, ProbeBlock, Upward, Downward, GrantAck}
use Rattle.tl_links.specs.declared.wanted.Wanted.{Wanted}
use Rattle.tl_links.specs.declared.wanted.Wanted.TheVariants.{Any, Probe, ProbeAck, Grant}

-- whether a message says a Probe
abbrev pub is_probe : Body → Bool
is_probe (AcquireBlock grow) = false
is_probe (ProbeBlock cap) = true
is_probe (Upward message) = false
is_probe (Downward message) = false
is_probe GrantAck = false

-- whether it answers a Probe
abbrev pub answers_probe : Body → Bool
answers_probe (AcquireBlock grow) = false
answers_probe (ProbeBlock cap) = false
answers_probe (Upward message) = is_probe_ack message
answers_probe (Downward message) = false
answers_probe GrantAck = false

-- whether a message is looked for
abbrev pub is_wanted : Wanted → Body → Bool
is_wanted Any body = true
is_wanted Probe body = is_probe body
is_wanted ProbeAck body = answers_probe body
is_wanted Grant body = is_a_grant body
