-- An entry of home's directory, beside the protocol's state (this project's own).
use Rattle.std.specs.Prelude.{◌≡◌, ℕ, Option, Some, None}
use Rattle.std.specs.Option.{option_map}
use Rattle.tl_types.specs.declared.permission.Perm.TheVariants.{None as NoAccess}
use Rattle.tl_protocol.specs.declared.home.Line.{Line}
use Rattle.tl_protocol.specs.Protocol.{Block}
use Rattle.tl_ways.specs.Entries.{Entry, entry_perm}

-- what an entry of the directory says of a block is what home has and records of it; where there is none, home lacks the block
abbrev pub Records : Option Entry → Block → Type 0
Records None s = (s.home ≡ None) × ((client : ℕ) → (s.client client).recorded ≡ NoAccess)
Records (Some entry) s =
    (option_map (λ (line : Line). line.dirty) s.home ≡ Some entry.dirty) × ((client : ℕ) → (s.client client).recorded ≡ entry_perm entry client)
