-- A cache may go to any thread. The check finds this by itself for a type that contains no recursive one; what a log forgot is recursive,
-- so here the parts of a cache are named one by one.
use denote.Param.Send.{IsSend, sendable}
use Rattle.std.proofs.Crossing.{crosses}
use Rattle.tl_protocol.specs.contracts.event.Event as event
use Rattle.tl_protocol.specs.contracts.log.Log as log
use Rattle.tl_map.specs.contracts.geometry.Geometry as geometry
use Rattle.tl_links.specs.contracts.links.Links as links
use Rattle.tl_copies.specs.contracts.copies.Copies as copies
use Rattle.tl_bank_home.specs.contracts.home.Home as home
use Rattle.tl_registers.specs.contracts.registers.Registers as registers
use Rattle.tl_bank.specs.contracts.bank.Bank as bank
use Rattle.tl_bank.specs.contracts.share.Share as share
use Rattle.tl_trace.specs.contracts.shared_bank.SharedBank as shared_bank
use Rattle.tl_trace.specs.contracts.network.Network as network
use Rattle.tl_embed.specs.contracts.cache.Cache as cache

-- what a bank consists of
event_send : IsSend event.the_row
event_send = search (sendable, crosses) depth 80 fits 9000

log_send : IsSend log.the_row
log_send = search (event_send, sendable, crosses) depth 60 fits 9000

geometry_send : IsSend geometry.the_row
geometry_send = search (sendable, crosses) depth 40 fits 9000

links_send : IsSend links.the_row
links_send = search (sendable, crosses) depth 80 fits 9000

copies_send : IsSend copies.the_row
copies_send = search (sendable, crosses) depth 80 fits 9000

home_send : IsSend home.the_row
home_send = search (sendable, crosses) depth 80 fits 9000

registers_send : IsSend registers.the_row
registers_send = search (sendable, crosses) depth 80 fits 9000

-- a bank, with the share of each client
bank_send : IsSend bank.the_row
bank_send = search (geometry_send, log_send, links_send, copies_send, home_send, registers_send, sendable, crosses) depth 80 fits 9000

share_send : IsSend share.the_row
share_send = search (sendable, crosses) depth 40 fits 9000

shared_bank_send : IsSend shared_bank.the_row
shared_bank_send = search (bank_send, share_send, sendable, crosses) depth 60 fits 9000

-- all banks
network_send : IsSend network.the_row
network_send = search (shared_bank_send, geometry_send, sendable, crosses) depth 60 fits 9000

pub cache_send : IsSend cache.the_row
cache_send = search (network_send, sendable, crosses) depth 40 fits 9000
