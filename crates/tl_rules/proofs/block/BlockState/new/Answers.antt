use Rattle.std.proofs.Common.{ℕ, List, get_or, ap, ◌∙◌}
use Rattle.tl_protocol.specs.Client.{fresh_client}
use Rattle.tl_protocol.specs.declared.client.Client.{Client}
use Rattle.tl_rules.proofs.Fresh.{untouched, untouched_is_reset}
use Rattle.tl_rules.proofs.block.BlockState.new.Goals as goal

-- each client is fresh
pub returns-clause-reset : goal.returns-clause-reset
returns-clause-reset c =
    ap (λ (cs : List Client). untouched c.args.memory (λ (k : ℕ). get_or cs k fresh_client)) c.loop-client.invariant
    ∙ untouched_is_reset c.args.memory c.loop-client._client
