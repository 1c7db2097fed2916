use Rattle.std.proofs.Common.{◌≡◌, ◌==◌, false, take}
use Rattle.std.specs.List.{list_any}
use Rattle.tl_types.specs.declared.message.Message.{Message}
use Rattle.tl_bank_spec.specs.Channels.{lane_at}
use Rattle.tl_embed.proofs.seen.Seen.waits_there.Given as goal

abbrev pub invariant-loop-place : goal.invariant-loop-place
invariant-loop-place l =
    list_any (λ (m : Message). m.block == l.self.block) (take l.place (lane_at l.bank l.self.client l.channel).messages) ≡ false
