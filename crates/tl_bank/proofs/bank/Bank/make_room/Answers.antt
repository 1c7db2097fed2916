use Rattle.tl_bank.specs.Shown.{shown, layers}
use Rattle.tl_bank_laws.proofs.Rooms.{means-room}
use Rattle.tl_bank.proofs.bank.Bank.make_room.Goals as goal

pub invariant_of-self : goal.invariant_of-self
invariant_of-self c =
    rw (c.reserve.ensures.events, c.reserve.ensures.forgotten)
    (means-room (shown c.self.inside) c.reserve.new.self.room (layers c.self.inside) c.self.invariant)
