-- What a header says before its first line, and with one line more that names clients (this project's own). No definition of a promise
-- cites it.
use Rattle.std.specs.Prelude.{ℕ, ◌++◌, true, false, [], ◌∷◌, None}
use Rattle.tlwire_search.specs.Clients.{ClientsState}
use Rattle.tlwire_search.specs.declared.premises.Premises.{Premises}

-- no line names any client
abbrev pub no_clients : ClientsState
no_clients = record { all = false; named = [] }

-- one line names all
abbrev pub with_all : ClientsState → ClientsState
with_all clients = record clients { all = true }

-- a line names this one
abbrev pub with_one : ClientsState → ℕ → ClientsState
with_one clients client = record clients { named = clients.named ++ client ∷ [] }

-- the header says nothing
abbrev pub no_premises : Premises
no_premises =
    record {
      pins = no_clients;
      at_home = false;
      between = false;
      skew = None;
      whole = false;
      memory_unseen = false;
      cores_unseen = false;
      dropping = no_clients;
    }
