-- The exchanges of TileLink: a message and the response that it waits for, on one link, of one block.
use Rattle.std.specs.Prelude.{ℕ, ◌&&◌, nat_eq, Bool, false, Option, Some, None}
use Rattle.std.specs.Option.{option_eq}
use Rattle.tl_types.specs.declared.kind.Kind.{Kind}
use Rattle.tl_types.specs.declared.kind.Kind.TheVariants as kind
use Rattle.tlwire_search.specs.declared.seen.Seen.{Seen}
use Rattle.tlwire_search.specs.declared.seen.Seen.TheVariants.{OnLink, OnMemory, Load, Store}
use Rattle.tlwire_exchanges.specs.declared.exchange.Exchange.{Exchange}
use Rattle.tlwire_exchanges.specs.declared.exchange.Response.{Response}
use Rattle.tlwire_exchanges.specs.declared.exchange.Response.TheVariants.{Grant, GrantAck, ProbeAck, ReleaseAck, AccessAckData, AccessAck}

-- an AcquireBlock waits for its Grant, a Grant for its GrantAck, a ProbeBlock for its ProbeAck, a Release for its
-- ReleaseAck (TileLink 1.8, section 9); a Get and a PutFullData for their AccessAckData and AccessAck (section 7)
abbrev pub response_to : Kind → Option Response
response_to (kind.AcquireBlock grow) = Some Grant
response_to (kind.Grant cap) = Some GrantAck
response_to (kind.GrantData cap) = Some GrantAck
response_to (kind.ProbeBlock cap) = Some ProbeAck
response_to (kind.Release prune) = Some ReleaseAck
response_to (kind.ReleaseData prune) = Some ReleaseAck
response_to kind.Get = Some AccessAckData
response_to kind.PutFullData = Some AccessAck
response_to _ = None

-- the response that a message is
abbrev pub response_by : Kind → Option Response
response_by (kind.Grant cap) = Some Grant
response_by (kind.GrantData cap) = Some Grant
response_by kind.GrantAck = Some GrantAck
response_by (kind.ProbeAck report) = Some ProbeAck
response_by (kind.ProbeAckData prune) = Some ProbeAck
response_by kind.ReleaseAck = Some ReleaseAck
response_by kind.AccessAckData = Some AccessAckData
response_by kind.AccessAck = Some AccessAck
response_by _ = None

-- the exchange with a response, on a link, of a block
abbrev pub exchange_on : Option Response → Option ℕ → ℕ → Option Exchange
exchange_on None client block = None
exchange_on (Some response) client block = Some (record { response = response; client = client; block = block })

-- the exchange that what was seen opens
abbrev pub opened_by : Seen → Option Exchange
opened_by (OnLink client block shown) = exchange_on (response_to shown.kind) (Some client) block
opened_by (OnMemory block shown) = exchange_on (response_to shown.kind) None block
opened_by (Load client address bytes) = None
opened_by (Store client address bytes) = None

-- the exchange that what was seen answers
abbrev pub answered_by : Seen → Option Exchange
answered_by (OnLink client block shown) = exchange_on (response_by shown.kind) (Some client) block
answered_by (OnMemory block shown) = exchange_on (response_by shown.kind) None block
answered_by (Load client address bytes) = None
answered_by (Store client address bytes) = None

-- the order of responses among themselves
abbrev pub number_of : Response → ℕ
number_of Grant = 0
number_of GrantAck = 1
number_of ProbeAck = 2
number_of ReleaseAck = 3
number_of AccessAckData = 4
number_of AccessAck = 5

-- two are the same exchange
abbrev pub is_same : Exchange → Exchange → Bool
is_same a b = nat_eq (number_of a.response) (number_of b.response) && (option_eq nat_eq a.client b.client && nat_eq a.block b.block)

-- it is this exchange
abbrev pub is_this : Option Exchange → Exchange → Bool
is_this None e = false
is_this (Some f) e = is_same f e

-- what was seen opens this exchange
abbrev pub opens : Exchange → Seen → Bool
opens e seen = is_this (opened_by seen) e

-- what was seen answers it
abbrev pub answers : Exchange → Seen → Bool
answers e seen = is_this (answered_by seen) e
