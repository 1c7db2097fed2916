-- A list that no code holds (this project's own).
use Rattle.std.specs.Prelude.{List, [], Option, Some, None}
use Rattle.std.specs.declared.snapshot.Snapshot.{Snapshot}

-- what the list is up to here; empty where nothing is before
abbrev pub all_to : {T : Type 0} → Option (Snapshot (List T)) → List T
all_to None = []
all_to (Some end) = end.value
