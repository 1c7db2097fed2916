-- What succeeds at a client's port, and what is asked at it and at a home's (this project's own).
use Rattle.std.specs.Prelude.{◌≡◌, ◌≢◌, ℕ, Bool, true, false, List, [], ◌∷◌, ◌++◌, MatchResult}
use Rattle.std.specs.declared.result.Result.{Result}
use Rattle.tl_types.specs.declared.ticket.Ticket.{Ticket}
use Rattle.tl_bank_spec.specs.declared.refusal.Refusal.{Refusal}
use Rattle.tl_bank_spec.specs.declared.refusal.Refusal.TheVariants.{Memory}
use Rattle.tl_client_ports.specs.declared.port.Asked.{Asked}
use Rattle.tl_client_ports.specs.declared.port.Success.{Success}

-- a call that asked a ticket, and whether it served it
abbrev pub asked : Ticket → Bool → Asked
asked ticket served = record { ticket = ticket; served = served }

-- a call asked its ticket, with this answer; where it was refused for want of memory, nothing is said
abbrev pub Asks : {X : Type 0} → Ticket → Result X Refusal → List Asked → List Asked → Type 0
Asks ticket answer old new =
    MatchResult answer (λ _. new ≡ old ++ asked ticket true ∷ []) (λ refusal. refusal ≢ Memory → new ≡ old ++ asked ticket false ∷ [])

-- what contracts see of a home's port: the number of its bank, and the tickets that were asked in the turn, each with whether it was served
pub record BankPortView : Type 0 where
  pub bank : ℕ
  pub asked : List Asked

-- what contracts see of a client's port: its client, the loads and stores that succeeded, in order, room for so many, and the tickets that
-- were asked in the turn, each with whether it was served
pub record OfClient : Type 0 where
  pub client : ℕ
  pub successes : List Success
  pub room : ℕ
  pub asked : List Asked
