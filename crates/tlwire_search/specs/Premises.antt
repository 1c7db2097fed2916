-- What the header of a record says of how it was seen (this project's own).
use Rattle.std.specs.Prelude.{ℕ, ◌==◌, ◌||◌, not, Bool, false, unwrap_or}
use Rattle.tlwire_search.specs.Clients.{has_client, has_some}
use Rattle.tlwire_search.specs.declared.premises.Premises.{Premises}
use Rattle.tlwire_search.specs.declared.seen.Wire.{Wire}
use Rattle.tlwire_search.specs.declared.seen.Wire.TheVariants.{Link, Memory, Core}

-- nobody watched a wire: `memory unseen` the memory's, `cores unseen` the cores'
abbrev pub is_unseen : Premises → Wire → Bool
is_unseen premises (Link client channel) = false
is_unseen premises (Memory channel) = premises.memory_unseen
is_unseen premises (Core client) = premises.cores_unseen

-- More may have been sent on a wire than the record has: it was cut, or nobody watched the wire.
abbrev pub may_have_more : Premises → Wire → Bool
may_have_more premises wire = not premises.whole || is_unseen premises wire

-- A client's link was seen at the client's pins.
abbrev pub is_seen_at_pins : Premises → ℕ → Bool
is_seen_at_pins premises client = has_client premises.pins client

-- By how many lines one may stand behind a later one: 0 where the header gives no number.
abbrev pub skew_of : Premises → ℕ
skew_of premises = unwrap_or premises.skew 0

-- Lines stand in order of time: the header gives no skew, or one of 0.
abbrev pub is_in_time : Premises → Bool
is_in_time premises = skew_of premises == 0

-- A client may give up a clean copy without a word.
abbrev pub drops : Premises → ℕ → Bool
drops premises client = has_client premises.dropping client

-- Some client may.
abbrev pub has_drops : Premises → Bool
has_drops premises = has_some premises.dropping
