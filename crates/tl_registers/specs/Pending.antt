-- Whether a Probe or a Grant of a block is pending, answered yes or no (TileLink 1.8, section 9; the tie to the protocol's
-- NoProbe and NoGrant is this project's own).
use Rattle.std.specs.Prelude.{◌≡◌, ◌↔◌, ℕ, zero, suc, ◌==◌, ◌||◌, not, Bool, true, false, List, [], ◌∷◌}
use Rattle.std.specs.List.{list_any}
use Rattle.tl_types.specs.Message.{is_probe_ack, is_grant}
use Rattle.tl_protocol.specs.declared.client.Client.{Client}
use Rattle.tl_protocol.specs.declared.home.Outward.{Outward}
use Rattle.tl_protocol.specs.declared.home.Outward.TheVariants.{Quiet, Get, Data, Put, PutAck}
use Rattle.tl_protocol.specs.declared.shape.Shape.{Shape}
use Rattle.tl_protocol.specs.Protocol.{Block, NoProbe, NoGrant}

-- there is a first one
abbrev pub has_first : {X : Type 0} → List X → Bool
has_first [] = false
has_first (x ∷ rest) = true

-- a Probe is on its way to the client, or an answer from it
abbrev pub is_probed : Client → Bool
is_probed k = has_first k.b || list_any is_probe_ack k.c

-- a Grant is on its way to the client, or a GrantAck from it
abbrev pub has_grant_pending : Client → Bool
has_grant_pending k = list_any is_grant k.d || not (k.e == 0)

-- some number below n passes a test
abbrev pub any_below : (ℕ → Bool) → ℕ → Bool
any_below test zero = false
any_below test (suc n) = any_below test n || test n

-- a Probe of the block is pending at some client
abbrev pub probe_pending : Shape → Block → Bool
probe_pending shape s = any_below (λ c. is_probed (s.client c)) shape.clients

-- a Grant of the block is pending at some client
abbrev pub grant_pending : Shape → Block → Bool
grant_pending shape s = any_below (λ c. has_grant_pending (s.client c)) shape.clients

-- nothing passes between home and the memory
abbrev pub is_quiet : Outward → Bool
is_quiet Quiet = true
is_quiet Get = false
is_quiet (Data bytes) = false
is_quiet (Put bytes) = false
is_quiet PutAck = false

-- These answers are the protocol's own.
abbrev pub PendingIsTheProtocols : Type 0
PendingIsTheProtocols =
    (shape : Shape) (s : Block)
    → ((probe_pending shape s ≡ false) ↔ NoProbe shape s) × ((grant_pending shape s ≡ false) ↔ NoGrant shape s)
    × ((is_quiet s.outward ≡ true) ↔ (s.outward ≡ Quiet))
