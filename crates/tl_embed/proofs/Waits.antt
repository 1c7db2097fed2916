-- Whether one of the first of a list passes a test, found by going along it.
use Rattle.std.proofs.Common.{◌≡◌, ℕ, zero, suc, ◌<◌, ◌||◌, Bool, true, false, List, [], ◌∷◌, take, Option, Some, None, slice_get, refl, ap, ◌∙◌, arith}
use Rattle.std.specs.List.{list_any}
use Rattle.std.specs.Option.{option_map}
use Rattle.std.proofs.lemmas.Bool.{or_parts}
use Rattle.std.proofs.lemmas.Bool.Decides.{nat_tests}
use Rattle.tl_types.specs.declared.channel.Channel.{Channel}
use Rattle.tl_types.specs.declared.message.Message.{Message}
use Rattle.tl_types.specs.declared.ticket.Ticket.{Ticket}
use Rattle.tl_bank.specs.Contents.{message_waiting, waiting_ticket}
use Rattle.tl_bank_spec.specs.Cases.{no_client}
use Rattle.tl_bank_spec.specs.Channels.{lane_at}
use Rattle.tl_bank_spec.specs.View.{View}

-- something or true
or-true : (b : Bool) → (b || true) ≡ true
or-true true = refl
or-true false = refl

-- none passes where none did so far and there is no more
pub any-no-more : {X : Type 0} (p : X → Bool) (xs : List X) (k n : ℕ) → slice_get xs k ≡ None → list_any p (take k xs) ≡ false
    → list_any p (take n xs) ≡ false
any-no-more p [] k zero none so_far = refl
any-no-more p [] k (suc n) none so_far = refl
any-no-more p (x ∷ xs) zero n none so_far = cc
any-no-more p (x ∷ xs) (suc k) zero none so_far = refl
any-no-more p (x ∷ xs) (suc k) (suc n) none so_far =
    let both = or_parts (p x) (list_any p (take k xs)) so_far in
    let rest = any-no-more p xs k n none both.1 in
    rw (both.0, rest) refl

-- nor where the next does not
pub any-next-not : {X : Type 0} (p : X → Bool) (xs : List X) (k : ℕ) (y : X) → slice_get xs k ≡ Some y → p y ≡ false
    → list_any p (take k xs) ≡ false → list_any p (take (suc k) xs) ≡ false
any-next-not p [] k y is not so_far = refl
any-next-not p (x ∷ xs) zero y is not so_far =
    let same : x ≡ y = cc in
    rw (ap p same ∙ not) refl
any-next-not p (x ∷ xs) (suc k) y is not so_far =
    let both = or_parts (p x) (list_any p (take k xs)) so_far in
    let rest = any-next-not p xs k y is not both.1 in
    rw (both.0, rest) refl

-- one passes where the next does
pub any-next : {X : Type 0} (p : X → Bool) (xs : List X) (k n : ℕ) (y : X) → slice_get xs k ≡ Some y → p y ≡ true → k < n
    → list_any p (take n xs) ≡ true
any-next p [] k n y is passes below = cc
any-next p (x ∷ xs) k zero y is passes below = absurd (omega (arith, below))
any-next p (x ∷ xs) zero (suc n) y is passes below =
    let same : x ≡ y = cc in
    rw (ap p same ∙ passes) refl
any-next p (x ∷ xs) (suc k) (suc n) y is passes below =
    let rest = any-next p xs k n y is passes (omega (arith, below)) in
    rw rest (or-true (p x))

-- ## On a channel

-- an option that is nothing once it is mapped is nothing
map-none : {X Y : Type 0} (f : X → Y) (o : Option X) → option_map f o ≡ None → o ≡ None
map-none f None h = refl
map-none f (Some x) h = cc

-- one that is something was something
map-message : (t : Message → Ticket) (o : Option Message) (w : Ticket × Message) → option_map (λ m. (t m, m)) o ≡ Some w → o ≡ Some w.1
map-message t None w h = cc
map-message t (Some m) w h =
    let same : (t m, m) ≡ w = cc in ap (λ (x : Ticket × Message). Some x.1) same

-- there is such a client
client-there : (v : View) (client : ℕ) → client < v.geometry.clients → no_client v client ≡ false
client-there v client below = grind (arith, nat_tests)

-- where nothing is found at a place there is no message
pub none-waits : (v : View) (client : ℕ) (channel : Channel) (place : ℕ) → client < v.geometry.clients
    → message_waiting v client channel place ≡ None → slice_get (lane_at v client channel).messages place ≡ None
none-waits v client channel place below h =
    map-none (λ (m : Message). (waiting_ticket v client channel place, m)) (slice_get (lane_at v client channel).messages place)
    (rw (client-there v client below) at h)

-- what is found there is that message
pub one-waits : (v : View) (client : ℕ) (channel : Channel) (place : ℕ) (w : Ticket × Message) → client < v.geometry.clients
    → message_waiting v client channel place ≡ Some w → slice_get (lane_at v client channel).messages place ≡ Some w.1
one-waits v client channel place w below h =
    map-message (λ m. waiting_ticket v client channel place) (slice_get (lane_at v client channel).messages place) w
    (rw (client-there v client below) at h)
