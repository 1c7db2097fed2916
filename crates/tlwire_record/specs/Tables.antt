-- What is open on the links, and the block that a message is of: by its address on A, B and C, by its source on D, by its sink on E
-- (TileLink 1.8, section 3: a source names a request that is not answered, a sink a Grant that is not acknowledged).
use Rattle.std.specs.Prelude.{ℕ, List, [], Option, Some, None, Result, Ok, Err, ok_or, if◌then◌else◌}
use Rattle.std.specs.declared.cmp.Ordering.{Ordering}
use Rattle.std.specs.BTreeMap.{insert_entry, is_at}
use Rattle.std.specs.Map.{lookup, remove_entry}
use Rattle.std.specs.Option.{is_some, option_cmp}
use Rattle.std.specs.Ordering.{nat_cmp, ordering_then}
use Rattle.tlcheck_record.specs.Cause.{◌>>=◌}
use Rattle.tlwire_record.specs.Header.{SettingState}
use Rattle.tlwire_record.specs.Place.{block_at}
use Rattle.tlwire_record.specs.declared.code.Role.{Role}
use Rattle.tlwire_record.specs.declared.code.Role.TheVariants as role
use Rattle.tlcheck_record.specs.declared.cause.Cause.{Cause}
use Rattle.tlcheck_record.specs.declared.cause.Cause.TheVariants as cause
use Rattle.tlwire_record.specs.declared.fields.Fields.{Fields}
use Rattle.tlwire_record.specs.declared.line.Link.{Link}
use Rattle.tlwire_record.specs.declared.line.Link.TheVariants.{Client, Memory}
use Rattle.tlwire_record.specs.declared.tables.Id.{Id}

-- the block of each exchange that is open, by its source or its sink, in the order of these
abbrev pub Exchanges : Type 0
Exchanges = List (Id × ℕ)

-- What is open on all links.
pub record TableState : Type 0 where
  pub requests : Exchanges
  pub releases : Exchanges
  pub grants : Exchanges

-- nothing is open
abbrev pub no_tables : TableState
no_tables = record { requests = []; releases = []; grants = [] }

-- a source or a sink on a link
abbrev pub id_on : Link → ℕ → Id
id_on (Client c) number = record { client = Some c; number = number }
id_on Memory number = record { client = None; number = number }

-- ids in order: those of the memory's link, then by client, and on a link by number
abbrev pub by_id : Id → Id → Ordering
by_id a b = ordering_then (option_cmp nat_cmp a.client b.client) (nat_cmp a.number b.number)

-- the block of what is open under an id
abbrev pub block_of : Id → Exchanges → Option ℕ
block_of id open_ = lookup (is_at (by_id id)) open_

-- one more is open, unless its id is in use
abbrev pub opened : Id → ℕ → Cause → Exchanges → Result Exchanges Cause
opened id block in_use open_ = if is_some (block_of id open_) then Err in_use else Ok (insert_entry by_id open_ id block)

-- what is open under an id closes: its block, and what is left
abbrev pub closed : Id → Cause → Exchanges → Result (ℕ × Exchanges) Cause
closed id unknown open_ = ok_or (block_of id open_) unknown >>= (λ block. Ok (block, remove_entry (is_at (by_id id)) open_))

-- a field that has to stand
abbrev pub needed : Option ℕ → Result ℕ Cause
needed field = ok_or field cause.Missing

-- the block at the address that stands
abbrev pub at_address : SettingState → Fields → Result ℕ Cause
at_address setting f = needed f.address >>= (λ a. block_at setting.shape setting.base a)

-- AcquireBlock, Get, PutFullData: by its address, and a request is open under its source
unfoldable pub request_taken : SettingState → TableState → Link → Fields → Result (ℕ × TableState) Cause
request_taken setting t link f =
    at_address setting f
    >>= (λ block. needed f.source
    >>= (λ source. opened (id_on link source) block cause.SourceInUse t.requests
    >>= (λ requests. Ok (block, record t { requests = requests }))))

-- Release, ReleaseData: by its address, and a release is open under its source
unfoldable pub release_taken : SettingState → TableState → Link → Fields → Result (ℕ × TableState) Cause
release_taken setting t link f =
    at_address setting f
    >>= (λ block. needed f.source
    >>= (λ source. opened (id_on link source) block cause.SourceInUse t.releases
    >>= (λ releases. Ok (block, record t { releases = releases }))))

-- ProbeBlock, ProbeAck, ProbeAckData: by its address
unfoldable pub alone_taken : SettingState → TableState → Fields → Result (ℕ × TableState) Cause
alone_taken setting t f = at_address setting f >>= (λ block. Ok (block, t))

-- AccessAck, AccessAckData: that of the request of its source, which closes
unfoldable pub answer_taken : TableState → Link → Fields → Result (ℕ × TableState) Cause
answer_taken t link f =
    needed f.source
    >>= (λ source. closed (id_on link source) cause.NoRequest t.requests
    >>= (λ c. Ok (c.0, record t { requests = c.1 })))

-- ReleaseAck: that of the release of its source, which closes
unfoldable pub release_answer_taken : TableState → Link → Fields → Result (ℕ × TableState) Cause
release_answer_taken t link f =
    needed f.source
    >>= (λ source. closed (id_on link source) cause.NoRequest t.releases
    >>= (λ c. Ok (c.0, record t { releases = c.1 })))

-- Grant, GrantData: that of the request of its source, which closes; and a grant is open under its sink
unfoldable pub grant_taken : TableState → Link → Fields → Result (ℕ × TableState) Cause
grant_taken t link f =
    needed f.source
    >>= (λ source. needed f.sink
    >>= (λ sink. closed (id_on link source) cause.NoRequest t.requests
    >>= (λ c. opened (id_on link sink) c.0 cause.SinkInUse t.grants
    >>= (λ grants. Ok (c.0, record t { requests = c.1; grants = grants })))))

-- GrantAck: that of the grant of its sink, which closes
unfoldable pub end_taken : TableState → Link → Fields → Result (ℕ × TableState) Cause
end_taken t link f =
    needed f.sink
    >>= (λ sink. closed (id_on link sink) cause.NoGrant t.grants
    >>= (λ c. Ok (c.0, record t { grants = c.1 })))

-- the block of a message, and what is open after it
abbrev pub taken : SettingState → TableState → Role → Link → Fields → Result (ℕ × TableState) Cause
taken setting t role.Request link f = request_taken setting t link f
taken setting t role.Release link f = release_taken setting t link f
taken setting t role.Alone link f = alone_taken setting t f
taken setting t role.Grant link f = grant_taken t link f
taken setting t role.Answer link f = answer_taken t link f
taken setting t role.ReleaseAnswer link f = release_answer_taken t link f
taken setting t role.End link f = end_taken t link f
