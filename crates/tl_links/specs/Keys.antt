-- How one channel keeps its messages: in places with keys, and the keys in the order of sending.
use Rattle.std.specs.Prelude.{◌≡◌, ◌≢◌, ℕ, ◌+◌, ◌^◌, ◌<◌, ◌≤◌, List, [], ◌∷◌, length}
use Rattle.std.specs.List.{filter_map, AllByRecursion}
use Rattle.slab.specs.Slab.{Slab, get, ContainsKey, slab_len}
use Rattle.tl_types.specs.declared.message.Message.{Message}
use Rattle.tl_types.specs.declared.limits.TheConstants.{MESSAGES}

-- the messages under these keys, in the keys' order
abbrev pub in_order : Slab Message → List ℕ → List Message
in_order slab keys = filter_map (λ key. get slab key) keys

-- each key has a message, and no two keys are the same
abbrev pub AreKeys : Slab Message → List ℕ → Type 0
AreKeys slab [] = Unit {0}
AreKeys slab (key ∷ rest) = ContainsKey slab key × AllByRecursion (λ other. key ≢ other) rest × AreKeys slab rest

-- The keys in order are distinct and are the slab's: each has a message, and there are as many as messages. Both have room
-- for `MESSAGES`, and no more wait. The number of messages sent fits 64 bits.
pub record IsSound (taken : ℕ) (slab : Slab Message) (keys : List ℕ) (places : ℕ) : Type 0 where
  pub apart : AreKeys slab keys
  pub all : slab_len slab ≡ length keys
  pub few : length keys ≤ MESSAGES
  pub messages_room : MESSAGES ≤ slab.capacity
  pub order_room : MESSAGES ≤ places
  pub counted : taken + length keys < 2 ^ 64
