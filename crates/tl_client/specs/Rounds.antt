-- A round over tickets that wait, as homes and agents make it (this project's own; each channel of a link keeps its order).
use Rattle.std.specs.Prelude.{◌≡◌, ◌⊎◌, true, false, List, [], ◌∷◌, ◌++◌}
use Rattle.tl_types.specs.declared.ticket.Ticket.{Ticket}
use Rattle.tl_client_mail.specs.Rounds.{is_barred}
use Rattle.tl_client_ports.specs.Ports.{asked}
use Rattle.tl_client_ports.specs.declared.port.Asked.{Asked}

-- a round over tickets, in order: one whose channel and link has one kept is kept unasked; any other is asked, and kept where it was
-- refused. `all` are those asked, `end` those kept at the end
abbrev pub Goes : List Ticket → List Ticket → List Asked → List Ticket → Type 0
Goes kept [] all end = (all ≡ []) × (end ≡ kept)
Goes kept (ticket ∷ rest) all end =
    ((is_barred kept ticket ≡ true) × Goes (kept ++ ticket ∷ []) rest all end)
    ⊎ ((is_barred kept ticket ≡ false) × ((later : List Asked)
    × (((all ≡ asked ticket true ∷ later) × Goes kept rest later end)
    ⊎ ((all ≡ asked ticket false ∷ later) × Goes (kept ++ ticket ∷ []) rest later end))))
