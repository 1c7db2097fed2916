-- A bank may go to any thread, and the banks behind their locks may be seen by all. The check finds this by itself for a type
-- that contains no recursive one; what a log forgot is recursive, so here the parts of a bank are named one by one.
use denote.Param.Send.{IsSend, IsSync, recorded_sync, sendable, struct_sync}
use denote.Struct.Declared.{shape}
use Rattle.std.proofs.Crossing.{crosses}
use Rattle.tl_protocol.specs.contracts.event.Event as event
use Rattle.tl_protocol.specs.contracts.log.Log as log
use Rattle.tl_map.specs.contracts.geometry.Geometry as geometry
use Rattle.tl_links.specs.contracts.links.Links as links
use Rattle.tl_copies.specs.contracts.copies.Copies as copies
use Rattle.tl_bank_home.specs.contracts.home.Home as home
use Rattle.tl_registers.specs.contracts.registers.Registers as registers
use Rattle.tl_bank.specs.contracts.bank.Bank.{the_row}
use Rattle.tl_client_ports.specs.contracts.locked.LockedBank as one
use Rattle.tl_client_ports.specs.contracts.locked.Locked as all
use Rattle.tl_runner_threads.specs.contracts.workers.Shared as shared
use denote.RattleType.{RattleType}
use denote.Ref.{NamedLft}

-- what a bank consists of
pub event_send : IsSend event.the_row
event_send = search (sendable, crosses) depth 80 fits 9000

pub log_send : IsSend log.the_row
log_send = search (event_send, sendable, crosses) depth 60 fits 9000

pub geometry_send : IsSend geometry.the_row
geometry_send = search (sendable, crosses) depth 40 fits 9000

pub links_send : IsSend links.the_row
links_send = search (sendable, crosses) depth 80 fits 9000

pub copies_send : IsSend copies.the_row
copies_send = search (sendable, crosses) depth 80 fits 9000

pub home_send : IsSend home.the_row
home_send = search (sendable, crosses) depth 80 fits 9000

pub registers_send : IsSend registers.the_row
registers_send = search (sendable, crosses) depth 80 fits 9000

-- a bank
pub bank_send : IsSend the_row
bank_send = search (geometry_send, log_send, links_send, copies_send, home_send, registers_send, sendable, crosses) depth 80 fits 9000

-- the banks behind their locks
pub locked_bank_sync : IsSync one.the_row
locked_bank_sync = search (bank_send, sendable, crosses) depth 40 fits 9000

pub locked_sync : IsSync all.the_row
locked_sync = search (locked_bank_sync, sendable, crosses) depth 40 fits 9000

-- what all threads share may be seen by each of them, where the gate may
pub shared_sync : (a : NamedLft) (T : RattleType) → IsSync T → IsSync (shared.the_row a T)
shared_sync a T gate =
    recorded_sync (shared.the_field a T).row _ _ (shared.the_type a T).to_one
    (struct_sync (shape (shared.the_type a T))
    (search (sendable, crosses), (search (locked_sync, sendable), (search (gate, sendable), (search sendable, (search sendable, tt))))))
