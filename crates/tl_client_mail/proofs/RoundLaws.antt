-- One more ticket that was barred when it joined those kept.
use Rattle.std.proofs.Common.{◌≡◌, List, [], ◌∷◌, ◌++◌, true, append-nil, append_assoc}
use Rattle.tl_types.specs.declared.ticket.Ticket.{Ticket}
use Rattle.tl_client_mail.specs.Rounds.{AreBarred, is_barred}

-- each was barred in its turn, the last one too
pub barred-push : (kept passed : List Ticket) (t : Ticket) → AreBarred kept passed → is_barred (kept ++ passed) t ≡ true → AreBarred kept (passed ++ t ∷ [])
barred-push kept [] t all last = (rw append-nil at last, tt)
barred-push kept (p ∷ rest) t all last = (all.0, barred-push (kept ++ p ∷ []) rest t all.1 (rw append_assoc last))
