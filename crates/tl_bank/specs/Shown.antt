-- A bank's fields as contracts see them, and its layers.
use Rattle.tl_bank_home.specs.Homes.{way_in}
use Rattle.tl_bank_spec.specs.View.{View}
use Rattle.tl_bank_spec.specs.Own.{ways_below}
use Rattle.tl_bank.specs.declared.bank.Bank.TheInside.{Inside}
use Rattle.tl_bank_laws.specs.Layers.{Layers}

-- the view of a bank's fields, with the way that home has for each block of the memory
abbrev pub shown : Inside → View
shown b = record {
  geometry = b.geometry;
  number = b.number;
  image = b.image.items;
  log = b.log.events;
  forgotten = b.log.forgotten;
  room = b.log.room;
  registers = b.registers.open_registers;
  ways = ways_below (way_in b.home) b.geometry.memory_blocks;
}

-- the layers of a bank's fields, with the limit of its registers and its clock
abbrev pub layers : Inside → Layers
layers b = record {
  links = b.links;
  copies = b.copies;
  home = b.home;
  limit = b.registers.limit;
  clock = b.clock;
}
