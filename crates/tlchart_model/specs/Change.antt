-- Where clients gain and lose permissions to a block (TileLink 1.8, section 9).
use Rattle.std.specs.Prelude.{ℕ, ◌==◌, List, Option, Some, None, option_map, if◌then◌else◌}
use Rattle.std.specs.List.{filter_map}
use Rattle.tl_types.specs.Permission.{grant_perm, prune_to, report_to}
use Rattle.tl_types.specs.Parameters.{dirty_prune, probe_report}
use Rattle.tl_types.specs.declared.kind.Kind.{Kind}
use Rattle.tl_types.specs.declared.kind.Kind.TheVariants as kind
use Rattle.tl_types.specs.declared.permission.Perm.{Perm}
use Rattle.tlchart_model.specs.declared.arrow.Arrow.{Arrow}
use Rattle.tlchart_model.specs.declared.change.Change.{Change}

-- the receiver has a permission from the row where it takes the message
abbrev pub where_taken : Arrow → Perm → Option Change
where_taken a perm = option_map (λ row. record { row = row; client = a.message.to; perm = perm }) a.taken

-- the sender has a permission from the row where it sends the message
abbrev pub where_sent : Arrow → Perm → Option Change
where_sent a perm = Some (record { row = a.sent; client = a.message.from; perm = perm })

-- A Grant gives the client that takes it its cap; a ProbeAck and a Release leave the client that sends them what they say.
abbrev pub change_by : Arrow → Kind → Option Change
change_by a (kind.Grant cap) = where_taken a (grant_perm cap)
change_by a (kind.GrantData cap) = where_taken a (grant_perm cap)
change_by a (kind.ProbeAck report) = where_sent a (report_to (probe_report report))
change_by a (kind.ProbeAckData prune) = where_sent a (prune_to (dirty_prune prune))
change_by a (kind.Release prune) = where_sent a (prune_to prune)
change_by a (kind.ReleaseData prune) = where_sent a (prune_to (dirty_prune prune))
change_by a _ = None

-- what a message about the block changes
abbrev pub change_in : ℕ → Arrow → Option Change
change_in block a = if a.message.block == block then change_by a a.message.kind else None

-- what each message about the block changes, in the order of the messages
abbrev pub changes_of : ℕ → List Arrow → List Change
changes_of block arrows = filter_map (change_in block) arrows
