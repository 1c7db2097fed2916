-- Which premises of closed sets a header names (this project's own).
use Rattle.std.specs.Prelude.{◌≡◌, ◌||◌, ◌&&◌, ◌⊎◌, not, ℕ, Bool, true, is_none, is_some}
use Rattle.tlwire_search.specs.Clients.{is_named}
use Rattle.tlwire_search.specs.Premises.{is_in_time, is_seen_at_pins, skew_of}
use Rattle.tlwire_search.specs.declared.premises.Premises.{Premises}
use Rattle.tlwire_closed.specs.declared.premise.Premise.{Premise}
use Rattle.tlwire_search.specs.declared.way.Way.{Way}
use Rattle.tlwire_search.specs.declared.way.Way.TheVariants.{Between, AtHome, AtClients, AtClient}

-- A client's lines are told in order of time at the client's pins. With a skew they are not, and the way of seeing says what is asked.
abbrev pub is_told : Premises → ℕ → Bool
is_told premises client = is_seen_at_pins premises client && is_in_time premises

-- A header names a way of seeing. `skew D` beside no other way says that each message is seen between its sending and its taking; so beside
-- any way it is. With a skew `seen at client N` is a way too: on other links each message is seen between.
abbrev pub names : Premises → Way → Bool
names premises Between =
    premises.between || (is_some premises.skew && not premises.at_home && not premises.pins.all)
names premises AtHome = premises.at_home
names premises AtClients = premises.pins.all
names premises (AtClient client) =
    is_named premises.pins client && not premises.pins.all && not (is_in_time premises)

-- the premise of a way: lines stand in order of time but for the skew, and of what nobody watched there are none
abbrev pub premise_of : Premises → Way → Premise
premise_of premises way =
    record {
      way = way;
      skew = skew_of premises;
      whole = premises.whole;
      memory_unseen = premises.memory_unseen;
      cores_unseen = premises.cores_unseen;
    }

-- The header does not say when messages were seen, but for clients that it names one by one, and says that none is left out.
abbrev pub is_untimed : Premises → Bool
is_untimed premises =
    premises.whole && not premises.between && not premises.at_home && not premises.pins.all && is_none premises.skew

-- Then lines of different wires may stand in any order: any two of them stand closer than the skew, which is how many there are.
abbrev pub untimed : Premises → ℕ → Premise
untimed premises lines = record (premise_of premises Between) { skew = lines }

-- A header says so of a record of so many lines, by a way that it names or by none.
abbrev pub Says : Premises → ℕ → Premise → Type 0
Says premises lines premise =
    ((way : Way) × (names premises way ≡ true) × (premise ≡ premise_of premises way))
    ⊎ ((is_untimed premises ≡ true) × (premise ≡ untimed premises lines))
