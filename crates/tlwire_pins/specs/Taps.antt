-- What a header says of what stays unseen at a client's pins (this project's own).
use Rattle.std.specs.Prelude.{ℕ, if◌then◌else◌}
use Rattle.tlwire_search.specs.Premises.{drops, is_unseen}
use Rattle.tlwire_search.specs.declared.premises.Premises.{Premises}
use Rattle.tlwire_search.specs.declared.seen.Wire.TheVariants.{Core}
use Rattle.tlwire_pins.specs.declared.view.Cores.{Cores}
use Rattle.tlwire_pins.specs.declared.view.Cores.TheVariants.{Watched, Unseen}
use Rattle.tlwire_pins.specs.declared.view.Tap.{Tap}

-- whether the header says that nobody watched a client's core
abbrev pub cores_of : Premises → ℕ → Cores
cores_of premises client = if is_unseen premises (Core client) then Unseen else Watched

-- what of a client may stay unseen at its pins: its core, and the clean copies that it drops
abbrev pub tap_of : Premises → ℕ → Tap
tap_of premises client = record { cores = cores_of premises client; drops = drops premises client }
