-- The lines before the messages that say which clients drop clean copies (this project's own format).
use Rattle.std.specs.Prelude.{ℕ, nat_lt, Bool, false, List, [], ◌∷◌, codes, bytes_eq, Result, Ok, Err, if◌then◌else◌}
use Rattle.tl_protocol.specs.declared.shape.Shape.{Shape}
use Rattle.tlcheck_record.specs.Cause.{◌>>=◌}
use Rattle.tlcheck_record.specs.Words.{number_in}
use Rattle.tlcheck_record.specs.declared.cause.Cause.{Cause}
use Rattle.tlcheck_record.specs.declared.cause.Cause.TheVariants as cause
use Rattle.tlwire_search.specs.Premises.{drops, has_drops}
use Rattle.tlwire_search.specs.declared.premises.Premises.{Premises}
use Rattle.tlwire_record.specs.declared.premise.Premise.{Premise}
use Rattle.tlwire_record.specs.declared.premise.Premise.TheVariants.{ClientDrops, ClientsDrop}

-- a client that is there
abbrev pub dropping_client : Shape → ℕ → Result Premise Cause
dropping_client shape c = if nat_lt c shape.clients then Ok (ClientDrops c) else Err cause.Client

-- behind `drops`: `clients`, or `client NUM`
unfoldable pub drops_in : Shape → List (List ℕ) → Result Premise Cause
drops_in shape (word ∷ []) = if bytes_eq word (codes "clients") then Ok ClientsDrop else Err cause.Premise
drops_in shape (word ∷ number ∷ []) =
    if bytes_eq word (codes "client") then number_in number >>= (λ c. dropping_client shape c)
    else Err cause.Premise
drops_in shape _ = Err cause.Premise

-- an earlier line says already that a client drops, or that some do
abbrev pub says_again : Premises → Premise → Bool
says_again premises (ClientDrops c) = drops premises c
says_again premises ClientsDrop = has_drops premises
says_again premises p = false
