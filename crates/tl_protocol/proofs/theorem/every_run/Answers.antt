use Rattle.tl_protocol.proofs.Coherent.{every_run_keeps_copies, every_run_reads_last}
use Rattle.tl_protocol.proofs.Ledger.{every_ledger_adds_up}
use Rattle.tl_protocol.proofs.OneMemory.{every_merge_is_one_memory}
use Rattle.tl_protocol.proofs.Runs.{runs_grow_by_one, runs_are_of_blocks, every_merge_is_a_run}
use Rattle.tl_protocol.proofs.theorem.every_run.Goals as goal

pub returns-clause-copies : goal.returns-clause-copies
returns-clause-copies c = every_run_keeps_copies

pub returns-clause-bytes : goal.returns-clause-bytes
returns-clause-bytes c = every_run_reads_last

pub returns-clause-grows : goal.returns-clause-grows
returns-clause-grows c = runs_grow_by_one

pub returns-clause-blocks : goal.returns-clause-blocks
returns-clause-blocks c = runs_are_of_blocks

pub returns-clause-merges : goal.returns-clause-merges
returns-clause-merges c = every_merge_is_a_run

pub returns-clause-ledger : goal.returns-clause-ledger
returns-clause-ledger c = every_ledger_adds_up

pub returns-clause-memory : goal.returns-clause-memory
returns-clause-memory c = every_merge_is_one_memory
