use Rattle.std.proofs.Common.{◌∙◌, refl, rules}
use Rattle.tl_bank_home.specs.Homes.{way_in}
use Rattle.tl_bank_laws.specs.Layers.{Layers}
use Rattle.tl_bank_laws.proofs.Fresh.{lies-nowhere, means-fresh}
use Rattle.tl_bank.proofs.bank.Bank.new.Goals as goal

pub invariant_of-bank : goal.invariant_of-bank
invariant_of-bank c =
    let h : Layers = record {
      links = c.in_ok-new.field-0;
      copies = c.in_ok-new-2.field-0;
      home = c.in_ok-new-3.field-0;
      limit = c.registers.result;
      clock = 0;
    } in
    rw (c.new.ensures.events, c.new.ensures.forgotten, c.in_ok-from_slice.ensures.items, c.new-6.ensures)
    (means-fresh c.args.geometry c.args.number c.args.image.now c.new.result.room h c.clients.ensures.lawful c.in_ok-new.ensures.empty
    c.in_ok-new-2.ensures.empty c.in_ok-new-3.ensures.lines c.in_ok-new-3.ensures.recorded c.in_ok-new-3.ensures.outward
    c.in_ok-new-3.ensures.memory c.in_ok-new-3.ensures.ways c.in_ok-new-3.ensures.free
    c.in_ok-new-3.ensures.orders refl c.in_ok-new.ensures.bank (c.in_ok-new.ensures.clients ∙ c.clients.ensures.is)
    c.in_ok-new-2.ensures.clients c.in_ok-new-2.ensures.blocks c.in_ok-new-2.ensures.limit
    c.in_ok-new-3.ensures.geometry c.in_ok-new-3.ensures.bank c.registers.ensures.is)

pub returns-clause-empty : goal.returns-clause-empty
returns-clause-empty c =
    lies-nowhere (way_in c.in_ok-new-3.field-0) c.args.geometry.memory_blocks c.in_ok-new-3.ensures.ways

pub returns-clause-bank : goal.returns-clause-bank
returns-clause-bank c = search rules
