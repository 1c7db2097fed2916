use Rattle.tl_bank_spec.proofs.Counted.{every_event_leaves_other_counts}
use Rattle.tl_bank_spec.proofs.laws.every_count.Goals as goal

pub returns : goal.returns
returns c = every_event_leaves_other_counts
