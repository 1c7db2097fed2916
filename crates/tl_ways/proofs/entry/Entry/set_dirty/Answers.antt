use Rattle.tl_ways.proofs.EntryLaws.{perm_of-dirty}
use Rattle.tl_ways.proofs.entry.Entry.set_dirty.Goals as goal

pub returns-clause-perms : goal.returns-clause-perms
returns-clause-perms c = λ client. rw (← c.self.view_is) (perm_of-dirty _ c.args.dirty client)
