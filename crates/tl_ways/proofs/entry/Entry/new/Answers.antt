use Rattle.tl_ways.proofs.EntryLaws.{perm_of-new}
use Rattle.tl_ways.proofs.entry.Entry.new.Goals as goal

pub returns-clause-perms : goal.returns-clause-perms
returns-clause-perms c = λ client. perm_of-new c.args.tag c.args.dirty client
