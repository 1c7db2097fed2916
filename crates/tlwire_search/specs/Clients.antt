-- The clients that lines of a header name (this project's own).
use Rattle.std.specs.Prelude.{ℕ, ◌==◌, ◌||◌, nat_lt, Bool, List, length}
use Rattle.std.specs.List.{list_any}

-- One line names all clients; and those with a line of their own, in the order of these lines.
pub record ClientsState : Type 0 where
  pub all : Bool
  pub named : List ℕ

-- it is this client
abbrev pub is_client : ℕ → ℕ → Bool
is_client client other = other == client

-- a client has a line of its own
abbrev pub is_named : ClientsState → ℕ → Bool
is_named clients client = list_any (is_client client) clients.named

-- a client is among them
abbrev pub has_client : ClientsState → ℕ → Bool
has_client clients client = clients.all || is_named clients client

-- some client is
abbrev pub has_some : ClientsState → Bool
has_some clients = clients.all || nat_lt 0 (length clients.named)
