-- What a header says with one line more of how its record was seen (this project's own format).
use Rattle.std.specs.Prelude.{ℕ, nat_le, true, Option, Some, None, if◌then◌else◌}
use Rattle.tlwire_search.specs.Naming.{with_all, with_one}
use Rattle.tlwire_search.specs.declared.premises.Premises.{Premises}
use Rattle.tlwire_record.specs.declared.premise.Premise.{Premise}
use Rattle.tlwire_record.specs.declared.premise.Premise.TheVariants.{AtClient, AtClients, AtHome, Between, Skew, Whole, MemoryUnseen, CoresUnseen, ClientDrops, ClientsDrop}

-- the lesser of a number that may be absent and another
abbrev pub least : Option ℕ → ℕ → ℕ
least None other = other
least (Some one) other = if nat_le one other then one else other

-- all lines hold together; of several lines `skew D` the least counts
abbrev pub with_line : Premises → Premise → Premises
with_line premises (AtClient client) = record premises { pins = with_one premises.pins client }
with_line premises AtClients = record premises { pins = with_all premises.pins }
with_line premises AtHome = record premises { at_home = true }
with_line premises Between = record premises { between = true }
with_line premises (Skew most) = record premises { skew = Some (least premises.skew most) }
with_line premises Whole = record premises { whole = true }
with_line premises MemoryUnseen = record premises { memory_unseen = true }
with_line premises CoresUnseen = record premises { cores_unseen = true }
with_line premises (ClientDrops client) = record premises { dropping = with_one premises.dropping client }
with_line premises ClientsDrop = record premises { dropping = with_all premises.dropping }
