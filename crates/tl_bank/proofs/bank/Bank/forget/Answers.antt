use Rattle.std.proofs.Common.{rules}
use Rattle.tl_bank.specs.Shown.{shown, layers}
use Rattle.tl_bank_laws.proofs.Rooms.{means-forget, means-room}
use Rattle.tl_bank.proofs.bank.Bank.forget.Goals as goal

pub invariant_of-self : goal.invariant_of-self
invariant_of-self c =
    rw c.forget.ensures.events
    (means-room (record (shown c.self.inside) { forgotten = c.forget.new.self.forgotten }) c.forget.new.self.room (layers c.self.inside)
    (means-forget (shown c.self.inside) c.forget.new.self.forgotten (layers c.self.inside) c.self.invariant))

pub returns : goal.returns
returns c = search rules
