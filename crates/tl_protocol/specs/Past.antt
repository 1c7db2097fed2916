-- What a log has forgotten. It takes no memory, and no code can read it (this project's own).
use Rattle.std.specs.Prelude.{List, [], Option, Some, None}
use Rattle.std.specs.declared.snapshot.Snapshot.{Snapshot}

-- the events that were forgotten up to here; none where nothing was
abbrev pub all_past : {T : Type 0} → Option (Snapshot (List T)) → List T
all_past None = []
all_past (Some past) = past.value
