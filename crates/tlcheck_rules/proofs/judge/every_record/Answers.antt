use Rattle.tlcheck_rules.proofs.Judging.{every_lawful_record, every_lawful_run, every_record_in_order, no_broken_entry}
use Rattle.tlcheck_rules.proofs.judge.every_record.Goals as goal

pub returns : goal.returns
returns c = record { lawful = every_lawful_record; run = every_lawful_run; blocks = every_record_in_order; broken = no_broken_entry }
