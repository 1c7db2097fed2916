use Rattle.std.proofs.Common.{◌≡◌, ℕ, true, take}
use Rattle.std.specs.List.{list_any}
use Rattle.tl_protocol.specs.Runs.{IsRun}
use Rattle.tlwire_search.specs.Clients.{is_client}
use Rattle.tlwire_search.specs.declared.way.Way.TheVariants.{AtClient}
use Rattle.tlwire_answer.specs.Answer.{Meets, with_lines}
use Rattle.tlwire_answer.proofs.order.meets_at_clients.Given as goal

-- at the pins of each of the clients so far
abbrev pub invariant-loop-client : goal.invariant-loop-client
invariant-loop-client l =
    IsRun l.messages.setting.shape l.messages.image l.run
    → (client : ℕ) → list_any (is_client client) (take l.client-index l.named) ≡ true → Meets (with_lines l.messages l.seen) l.run (AtClient client)
