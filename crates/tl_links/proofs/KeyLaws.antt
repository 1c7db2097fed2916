-- A channel's keys and messages after one is put last, and after the first is taken.
use Rattle.std.proofs.Common.{◌≡◌, ◌≢◌, ℕ, ◌+◌, ◌-◌, ◌^◌, zero, suc, ◌<◌, ◌≤◌, List, [], ◌∷◌, ◌++◌, length, Option, Some, None, IsSome, slice_get, refl, sym, ◌∙◌, ap, subst, arith, length-append}
use Rattle.std.proofs.lemmas.Bool.{le-ltb}
use Rattle.std.proofs.lemmas.List.Elements.{filter_map-append}
use Rattle.std.proofs.lemmas.Option.{slice_get_past}
use Rattle.std.specs.Prelude.{OnSome}
use Rattle.std.specs.List.{cons_option, AllByRecursion}
use Rattle.slab.specs.Slab.{Slab, get, ContainsKey, slab_len, Updates}
use Rattle.tl_types.specs.Lane.{Lane, message_at, sent, with_message, first_taken, without_first}
use Rattle.tl_types.specs.declared.message.Message.{Message}
use Rattle.tl_types.specs.declared.limits.TheConstants.{MESSAGES}
use Rattle.tl_links.specs.Keys.{in_order, AreKeys, IsSound}

-- no key of these is the key
abbrev pub NotAmong : ℕ → List ℕ → Type 0
NotAmong key keys = AllByRecursion (λ other. key ≢ other) keys

-- a key that has no message is none of these
fresh : (slab : Slab Message) (key : ℕ) (keys : List ℕ) → AreKeys slab keys → get slab key ≡ None → NotAmong key keys
fresh slab key [] k n = tt
fresh slab key (x ∷ rest) k n =
    (λ e. let there : IsSome (get slab key) = subst (λ y. IsSome (get slab y)) (sym e) k.0 in cc, fresh slab key rest k.2 n)

-- keys that differ do so either way round
flipped : (a b : ℕ) → a ≢ b → b ≢ a
flipped a b d = λ e. d (sym e)

-- keys other than the one that changed keep their messages
same_order : (old new : Slab Message) (key : ℕ) (slot : Option Message) (keys : List ℕ) → Updates old new key slot
    → NotAmong key keys
    → in_order new keys ≡ in_order old keys
same_order old new key slot [] u d = refl
same_order old new key slot (x ∷ rest) u d =
    let here : get new x ≡ get old x = u.others x (flipped key x d.0) in
    rw (here, same_order old new key slot rest u d.1) refl

-- and stay keys
same_keys : (old new : Slab Message) (key : ℕ) (slot : Option Message) (keys : List ℕ) → Updates old new key slot
    → NotAmong key keys
    → AreKeys old keys → AreKeys new keys
same_keys old new key slot [] u d k = tt
same_keys old new key slot (x ∷ rest) u d k =
    (subst IsSome (sym (u.others x (flipped key x d.0))) k.0, k.1, same_keys old new key slot rest u d.1 k.2)

-- a key that is none of these, nor the one put last, is none of them all
one_more_other : (x key : ℕ) (keys : List ℕ) → NotAmong x keys → x ≢ key → NotAmong x (keys ++ key ∷ [])
one_more_other x key [] d e = (e, tt)
one_more_other x key (y ∷ rest) d e = (d.0, one_more_other x key rest d.1 e)

-- a key that has a message, and is none of these, may be put last
one_more_key : (slab : Slab Message) (key : ℕ) (keys : List ℕ) → AreKeys slab keys → NotAmong key keys → ContainsKey slab key
    → AreKeys slab (keys ++ key ∷ [])
one_more_key slab key [] k d c = (c, tt, tt)
one_more_key slab key (x ∷ rest) k d c =
    (k.0, one_more_other x key rest k.1 (flipped key x d.0), one_more_key slab key rest k.2 d.1 c)

-- a message under a key that had none goes last
pub AreKeys-append : (old new : Slab Message) (key : ℕ) (message : Message) (keys : List ℕ)
    → AreKeys old keys → get old key ≡ None → Updates old new key (Some message) → AreKeys new (keys ++ key ∷ [])
AreKeys-append old new key message keys k n u =
    let apart : NotAmong key keys = fresh old key keys k n in
    one_more_key new key keys (same_keys old new key (Some message) keys u apart k) apart (rw u.changed refl)

-- and it is the last of the messages in order
pub in_order-append : (old new : Slab Message) (key : ℕ) (message : Message) (keys : List ℕ)
    → AreKeys old keys → get old key ≡ None → Updates old new key (Some message)
    → in_order new (keys ++ key ∷ []) ≡ in_order old keys ++ message ∷ []
in_order-append old new key message keys k n u =
    let apart : NotAmong key keys = fresh old key keys k n in
    let last : in_order new (key ∷ []) ≡ message ∷ [] = ap (λ (slot : Option Message). cons_option slot []) u.changed in
    filter_map-append (λ x. get new x) keys (key ∷ []) ∙ rw (same_order old new key (Some message) keys u apart, last) refl

-- a key that has a message puts one more in front
length-cons_option : (slot : Option Message) (messages : List Message) → IsSome slot
    → length (cons_option slot messages) ≡ length messages + 1
length-cons_option None messages h = cc
length-cons_option (Some message) messages h = omega arith

-- there are as many messages as keys
pub length-in_order : (slab : Slab Message) (keys : List ℕ) → AreKeys slab keys → length (in_order slab keys) ≡ length keys
length-in_order slab [] k = refl
length-in_order slab (x ∷ rest) k = omega (arith, length-cons_option (get slab x) (in_order slab rest) k.0, length-in_order slab rest k.2)

-- the message put in front is the first
first-cons_option : (slot : Option Message) (messages : List Message) → IsSome slot → slice_get (cons_option slot messages) 0 ≡ slot
first-cons_option None messages h = cc
first-cons_option (Some message) messages h = refl

-- and the others are one place further on
next-cons_option : (slot : Option Message) (messages : List Message) (i : ℕ) → IsSome slot
    → slice_get (cons_option slot messages) (suc i) ≡ slice_get messages i
next-cons_option None messages i h = cc
next-cons_option (Some message) messages i h = refl

-- the message at a place is the one under the key at that place
pub at_key : (slab : Slab Message) (keys : List ℕ) (place key : ℕ) → AreKeys slab keys → slice_get keys place ≡ Some key
    → slice_get (in_order slab keys) place ≡ get slab key
at_key slab [] place key k h = cc
at_key slab (x ∷ rest) zero key k h =
    let same : x ≡ key = cc in
    subst (λ y. slice_get (in_order slab (x ∷ rest)) 0 ≡ get slab y) same (first-cons_option (get slab x) (in_order slab rest) k.0)
at_key slab (x ∷ rest) (suc i) key k h =
    next-cons_option (get slab x) (in_order slab rest) i k.0 ∙ at_key slab rest i key k.2 h

-- what is said where there is a value holds where one is known
pub at_some : {P : Type 0} (slot : Option Message) → IsSome slot → OnSome slot P → P
at_some None h p = cc
at_some (Some message) h p = p

-- ## A channel that is sound

-- the lane that contracts see
abbrev pub lane_of : ℕ → Slab Message → List ℕ → Lane
lane_of taken slab keys = record { taken = taken; messages = in_order slab keys }

module _ {taken : ℕ} {slab : Slab Message} {keys : List ℕ} {places : ℕ} {lane : Lane}
    (s : IsSound taken slab keys places) (v : lane_of taken slab keys ≡ lane) where
  -- as many keys as messages wait
  pub length-keys : length keys ≡ length lane.messages
  length-keys = sym (length-in_order slab keys s.apart) ∙ ap (λ (l : Lane). length l.messages) v

  pub sent-keys : taken + length keys ≡ sent lane
  sent-keys = omega (arith, length-keys, ap (λ (l : Lane). l.taken) v)

  -- the message with a serial is the one at so many places behind the first
  at_place : (serial place : ℕ) → taken ≤ serial → serial - taken ≡ place
      → slice_get (in_order slab keys) place ≡ message_at lane serial
  at_place serial place l p = rw (← v, le-ltb serial taken l, p) refl

  pub message-key : (serial place key : ℕ) → taken ≤ serial → serial - taken ≡ place → slice_get keys place ≡ Some key
      → get slab key ≡ message_at lane serial
  message-key serial place key l p h = sym (at_key slab keys place key s.apart h) ∙ at_place serial place l p

  -- past the last key none waits
  pub message-past : (serial place : ℕ) → taken ≤ serial → serial - taken ≡ place → length keys ≤ place
      → None ≡ message_at lane serial
  message-past serial place l p h =
      let few : length (in_order slab keys) ≤ place = rw (length-in_order slab keys s.apart) h in
      sym (slice_get_past (in_order slab keys) place few) ∙ at_place serial place l p

  -- one more message
  pub lane-append : (new : Slab Message) (key : ℕ) (message : Message) → get slab key ≡ None → Updates slab new key (Some message)
      → lane_of taken new (keys ++ key ∷ []) ≡ with_message lane message
  lane-append new key message n u = rw (← v, in_order-append slab new key message keys s.apart n u) refl

  pub IsSound-append : (new : Slab Message) (key : ℕ) (message : Message) → get slab key ≡ None
      → Updates slab new key (Some message)
      → slab_len new ≡ slab_len slab + 1 → new.capacity ≡ slab.capacity → length lane.messages < MESSAGES → sent lane < 2 ^ 64 - 1
      → IsSound taken new (keys ++ key ∷ []) places
  IsSound-append new key message n u l c f t =
      let len : length (keys ++ key ∷ []) ≡ length keys + 1 = length-append keys (key ∷ []) in
      let all : slab_len slab ≡ length keys = s.all in
      let room : MESSAGES ≤ slab.capacity = s.messages_room in
      let few : length keys ≡ length lane.messages = length-keys in
      let count : taken + length keys ≡ sent lane = sent-keys in
      record {
        apart = AreKeys-append slab new key message keys s.apart n u;
        all = l ∙ omega arith;
        few = omega arith;
        messages_room = omega arith;
        order_room = s.order_room;
        counted = omega arith;
      }

module _ {taken : ℕ} {slab : Slab Message} {key : ℕ} {rest : List ℕ} {places : ℕ} (s : IsSound taken slab (key ∷ rest) places) where
  -- the first message taken
  pub IsSound-rest : (new : Slab Message) → Updates slab new key None → slab_len new + 1 ≡ slab_len slab
      → new.capacity ≡ slab.capacity
      → IsSound (taken + 1) new rest places
  IsSound-rest new u l c =
      let all : slab_len slab ≡ length (key ∷ rest) = s.all in
      let few : length (key ∷ rest) ≤ MESSAGES = s.few in
      let room : MESSAGES ≤ slab.capacity = s.messages_room in
      let counted : taken + length (key ∷ rest) < 2 ^ 64 = s.counted in
      record {
        apart = same_keys slab new key None rest u s.apart.1 s.apart.2;
        all = omega arith;
        few = omega arith;
        messages_room = omega arith;
        order_room = s.order_room;
        counted = omega arith;
      }

  popped : (slot : Option Message) → IsSome slot
      → lane_of (taken + 1) slab rest ≡ first_taken taken (cons_option slot (in_order slab rest))
  popped None h = cc
  popped (Some message) h = refl

  pub lane-rest : (new : Slab Message) (lane : Lane) → lane_of taken slab (key ∷ rest) ≡ lane → Updates slab new key None
      → lane_of (taken + 1) new rest ≡ without_first lane
  lane-rest new lane v u = rw (← v, same_order slab new key None rest u s.apart.1) (popped (get slab key) s.apart.0)
