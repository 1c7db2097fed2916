-- How many messages wait by the last four bits of their blocks' numbers, as one channel of one client changes.
use Rattle.std.proofs.Common.{◌≡◌, ◌≢◌, ℕ, zero, suc, ◌+◌, ◌-◌, ◌*◌, ◌%◌, ◌<◌, ◌≤◌, ◌==◌, Bool, false, true, List, [], ◌∷◌, ◌++◌, length, replicate, refl, sym, ◌∙◌, ap, arith, eq-eqb, inl, inr}
use Rattle.std.specs.Prelude.{slice_index, slice_set, if◌then◌else◌}
use Rattle.std.proofs.lemmas.Bool.{cases_eq, ne_eqb}
use Rattle.std.proofs.lemmas.List.{get_or-set_same, get_or-set_other, get_or-replicate, length-replicate, length-set}
use Rattle.tl_types.specs.Channel.{channel_index}
use Rattle.tl_types.specs.Lane.{Lane, bodies_of, empty_lane, first_taken, with_message, without_first}
use Rattle.tl_types.specs.declared.channel.Channel.{Channel}
use Rattle.tl_types.specs.declared.message.Message.{Message}
use Rattle.tl_types.specs.declared.limits.TheConstants.{CLIENTS, MESSAGES}
use Rattle.tl_links.specs.declared.wanted.Wanted.{Wanted}
use Rattle.tl_links.specs.Table.{LinkTable, lane_in, some_has, waiting_below, ending_in, ending_below, IsCounted, IsCountedByEnding}
use Rattle.tl_links.proofs.Counts.{placed, place-few, at-here, other-client, other-channel, waiting-few}

-- ## The messages of one channel

-- one test counts for one at most
one-most : (test : Bool) → (if test then 1 else 0) ≤ 1
one-most true = omega arith
one-most false = omega arith

-- no more have an ending than there are
ending-few : (ending : ℕ) (messages : List Message) → ending_in ending messages ≤ length messages
ending-few ending [] = omega arith
ending-few ending (x ∷ rest) =
    let before = ending-few ending rest in
    let here = one-most (x.block % 16 == ending) in
    omega (arith, before, here)

-- one message more
ending-push : (ending : ℕ) (messages : List Message) (message : Message)
    → ending_in ending (messages ++ message ∷ []) ≡ ending_in ending messages + (if message.block % 16 == ending then 1 else 0)
ending-push ending [] message = omega arith
ending-push ending (x ∷ rest) message = let before = ending-push ending rest message in omega (arith, before)

-- where no block's number ends like this one's, no message is of this block
none-ending : (block : ℕ) (messages : List Message) → ending_in (block % 16) messages ≡ 0 → bodies_of block messages ≡ []
none-ending block [] none = refl
none-ending block (x ∷ rest) none =
    elim (cases_eq x.block block) [
      | inl same ↦
          let test : (x.block % 16 == block % 16) ≡ true = eq-eqb (x.block % 16) (block % 16) (ap (λ n. n % 16) same) in
          let more : 1 + ending_in (block % 16) rest ≡ 0 = rw test at none in
          absurd (omega (arith, more))
      | inr apart ↦
          let test : (x.block == block) ≡ false = ne_eqb x.block block apart in
          let later : bodies_of block rest ≡ [] = none-ending block rest (omega (arith, none)) in
          rw test later
    ]

-- ## All clients

-- where none has a block's ending, no client has one that is looked for
pub some-none : (t : LinkTable) (l : Channel) (block : ℕ) (wanted : Wanted) (n : ℕ) → ending_below t l (block % 16) n ≡ 0
    → some_has t l block wanted n ≡ false
some-none t l block wanted zero none = refl
some-none t l block wanted (suc n) none =
    let before : some_has t l block wanted n ≡ false = some-none t l block wanted n (omega (arith, none)) in
    let here : bodies_of block (lane_in t n l).messages ≡ [] = none-ending block (lane_in t n l).messages (omega (arith, none)) in
    rw (before, here) refl

-- no more have an ending than wait
below-few : (t : LinkTable) (l : Channel) (ending n : ℕ) → ending_below t l ending n ≤ waiting_below t l n
below-few t l ending zero = omega arith
below-few t l ending (suc n) =
    let before = below-few t l ending n in
    let here = ending-few ending (lane_in t n l).messages in
    omega (arith, before, here)

-- at one client at most as many have an ending as at all
below-some : (t : LinkTable) (l : Channel) (ending n x : ℕ) → x < n → ending_in ending (lane_in t x l).messages ≤ ending_below t l ending n
below-some t l ending zero x h = absurd (omega arith)
below-some t l ending (suc n) x h =
    elim (cases_eq x n) [
      | inl e ↦
          let here : ending_in ending (lane_in t x l).messages ≡ ending_in ending (lane_in t n l).messages =
          ap (λ y. ending_in ending (lane_in t y l).messages) e in
          omega (arith, here)
      | inr e ↦ let before = below-some t l ending n x (omega arith) in omega (arith, before)
    ]

-- where only empty channels stand, none has an ending
below-none : (t : LinkTable) (l : Channel) (ending : ℕ) → ((x : ℕ) (k : Channel) → lane_in t x k ≡ empty_lane) → (n : ℕ)
    → ending_below t l ending n ≡ 0
below-none t l ending e zero = refl
below-none t l ending e (suc n) = rw (below-none t l ending e n, e n l) refl

module _ (t : LinkTable) (c : ℕ) (k : Channel) (lane : Lane) (ending : ℕ) where
  -- as many have an ending on another channel
  below-other : (l : Channel) → channel_index l ≢ channel_index k → (n : ℕ)
      → ending_below (placed t c k lane) l ending n ≡ ending_below t l ending n
  below-other l apart zero = refl
  below-other l apart (suc n) = rw (below-other l apart n, other-channel t c k lane n l apart) refl

  -- and at the clients before
  below-before : (l : Channel) (n : ℕ) → n ≤ c → ending_below (placed t c k lane) l ending n ≡ ending_below t l ending n
  below-before l zero h = refl
  below-before l (suc n) h =
      rw (below-before l n (omega arith), other-client t c k lane n l (λ e. absurd (omega arith))) refl

  -- a channel of the same number is the same channel
  was-ending : (l : Channel) → channel_index l ≡ channel_index k
      → ending_in ending (lane_in t c l).messages ≡ ending_in ending (lane_in t c k).messages
  unfolding lane_in
  was-ending l e = rw e refl

  -- on the channel itself as many more or fewer have an ending as on the one that changed
  below-changed : c * 5 + channel_index k < length t.lanes → (l : Channel) → channel_index l ≡ channel_index k → (n : ℕ) → c < n
      → ending_below (placed t c k lane) l ending n + ending_in ending (lane_in t c k).messages
      ≡ ending_below t l ending n + ending_in ending lane.messages
  below-changed inside l e zero h = absurd (omega arith)
  below-changed inside l e (suc n) h =
      elim (cases_eq c n) [
        | inl same ↦
            let before = below-before l n (omega arith) in
            let now : ending_in ending (lane_in (placed t c k lane) n l).messages ≡ ending_in ending lane.messages =
            ap (λ y. ending_in ending (lane_in (placed t c k lane) y l).messages) (sym same)
            ∙ ap (λ (a : Lane). ending_in ending a.messages) (at-here t c k lane inside l e) in
            let earlier : ending_in ending (lane_in t n l).messages ≡ ending_in ending (lane_in t c k).messages =
            ap (λ y. ending_in ending (lane_in t y l).messages) (sym same) ∙ was-ending l e in
            omega (arith, before, now, earlier)
        | inr apart ↦
            let before = below-changed inside l e n (omega arith) in
            let stays : ending_in ending (lane_in (placed t c k lane) n l).messages ≡ ending_in ending (lane_in t n l).messages =
            ap (λ (a : Lane). ending_in ending a.messages) (other-client t c k lane n l (λ same. apart (sym same))) in
            omega (arith, before, stays)
      ]

-- ## The numbers

-- A table with its numbers by channel, and by channel and ending.
module _ {t : LinkTable} {waiting numbers : List ℕ} (counted : IsCounted t waiting) (ended : IsCountedByEnding t numbers) where
  -- a client's channel is one of the lanes
  inside-lanes : (c : ℕ) (k : Channel) → c < t.clients → c * 5 + channel_index k < length t.lanes
  inside-lanes c k h = let few = place-few k in omega (arith, counted.all, few)

  -- a number is at most 1,024
  pub ending-most : (k : Channel) (ending : ℕ) → ending < 16 → slice_index numbers (channel_index k * 16 + ending) ≤ MESSAGES * CLIENTS
  ending-most k ending h =
      omega (arith, ended.numbered k ending h, below-few t k ending t.clients, waiting-few counted k t.clients, counted.few)

  -- and no less than those of one client that have the ending
  ending-some : (c : ℕ) (k : Channel) (ending : ℕ) → c < t.clients → ending < 16
      → ending_in ending (lane_in t c k).messages ≤ slice_index numbers (channel_index k * 16 + ending)
  ending-some c k ending h few = omega (arith, ended.numbered k ending few, below-some t k ending t.clients c h)

  -- where a block's number is 0, no client has a message of it
  pub none-wanted : (k : Channel) (block : ℕ) (wanted : Wanted) → slice_index numbers (channel_index k * 16 + block % 16) ≡ 0
      → some_has t k block wanted t.clients ≡ false
  none-wanted k block wanted none =
      let few : block % 16 < 16 = omega arith in
      some-none t k block wanted t.clients (sym (ended.numbered k (block % 16) few) ∙ none)

  -- a channel changes, and its number with it
  IsCountedByEnding-placed : (c : ℕ) (k : Channel) (lane : Lane) (ending number : ℕ) → c < t.clients → ending < 16
      → number + ending_in ending (lane_in t c k).messages
      ≡ slice_index numbers (channel_index k * 16 + ending) + ending_in ending lane.messages
      → ((other : ℕ) → other ≢ ending → ending_in other lane.messages ≡ ending_in other (lane_in t c k).messages)
      → IsCountedByEnding (placed t c k lane) (slice_set numbers (channel_index k * 16 + ending) number)
  IsCountedByEnding-placed c k lane ending number h few sum others =
      let inside = inside-lanes c k h in
      let place : ℕ = channel_index k * 16 + ending in
      record {
        all = length-set numbers place number ∙ ended.all;
        numbered = λ l q small.
            let old = ended.numbered l q small in
            elim (cases_eq (channel_index l) (channel_index k)) [
              | inl e ↦
                  let changed = below-changed t c k lane q inside l e t.clients h in
                  elim (cases_eq q ending) [
                    | inl same ↦
                        let short = place-few k in
                        let set : slice_index (slice_set numbers place number) place ≡ number =
                        get_or-set_same numbers place number 0 (omega (arith, ended.all, short)) in
                        let at : channel_index l * 16 + q ≡ place = omega (arith, e, same) in
                        let earlier : slice_index numbers (channel_index l * 16 + q) ≡ slice_index numbers place = ap (λ p. slice_index numbers p) at in
                        let here : slice_index (slice_set numbers place number) (channel_index l * 16 + q) ≡ number =
                        ap (λ p. slice_index (slice_set numbers place number) p) at ∙ set in
                        let was : ending_in q (lane_in t c k).messages ≡ ending_in ending (lane_in t c k).messages =
                        ap (λ p. ending_in p (lane_in t c k).messages) same in
                        let is : ending_in q lane.messages ≡ ending_in ending lane.messages = ap (λ p. ending_in p lane.messages) same in
                        omega (arith, here, changed, was, is, sum, old, earlier)
                    | inr apart ↦
                        let stays : slice_index (slice_set numbers place number) (channel_index l * 16 + q) ≡ slice_index numbers (channel_index l * 16 + q) =
                        get_or-set_other numbers place (channel_index l * 16 + q) number 0 (λ at. apart (omega (arith, at, e))) in
                        let same = others q apart in
                        omega (arith, stays, changed, same, old)
                  ]
              | inr e ↦
                  get_or-set_other numbers place (channel_index l * 16 + q) number 0 (λ at. e (omega (arith, at, few, small))) ∙ old
                  ∙ sym (below-other t c k lane q l e t.clients)
            ];
      }

  -- one message more
  pub IsCountedByEnding-sent : (c : ℕ) (k : Channel) (message : Message) (new : Lane) → c < t.clients
      → new ≡ with_message (lane_in t c k) message
      → IsCountedByEnding (placed t c k new)
      (slice_set numbers (channel_index k * 16 + message.block % 16) (slice_index numbers (channel_index k * 16 + message.block % 16) + 1))
  IsCountedByEnding-sent c k message new h e =
      let ending : ℕ = message.block % 16 in
      let few : ending < 16 = omega arith in
      let more : (q : ℕ) → ending_in q new.messages ≡ ending_in q (lane_in t c k).messages + (if ending == q then 1 else 0) =
      λ q. ap (λ (l : Lane). ending_in q l.messages) e ∙ ending-push q (lane_in t c k).messages message in
      let one : (ending == ending) ≡ true = eq-eqb ending ending refl in
      let here : ending_in ending new.messages ≡ ending_in ending (lane_in t c k).messages + 1 =
      let it = more ending in rw one at it in
      IsCountedByEnding-placed c k new ending (slice_index numbers (channel_index k * 16 + ending) + 1) h few (omega (arith, here))
      (λ q apart.
      let none : (ending == q) ≡ false = ne_eqb ending q (λ same. apart (sym same)) in
      let same : ending_in q new.messages ≡ ending_in q (lane_in t c k).messages + 0 =
      let it = more q in rw none at it in
      omega (arith, same))

  -- the first of a channel's messages counts
  pub ending-first : (c : ℕ) (k : Channel) (message : Message) (rest : List Message) → c < t.clients
      → (lane_in t c k).messages ≡ message ∷ rest → 1 ≤ slice_index numbers (channel_index k * 16 + message.block % 16)
  ending-first c k message rest h is =
      let ending : ℕ = message.block % 16 in
      let few : ending < 16 = omega arith in
      let one : (ending == ending) ≡ true = eq-eqb ending ending refl in
      let here : ending_in ending (lane_in t c k).messages ≡ 1 + ending_in ending rest =
      ap (ending_in ending) is ∙ rw one refl in
      omega (arith, here, ending-some c k ending h few)

  -- one message fewer
  pub IsCountedByEnding-taken : (c : ℕ) (k : Channel) (message : Message) (rest : List Message) (new : Lane) → c < t.clients
      → (lane_in t c k).messages ≡ message ∷ rest → new ≡ without_first (lane_in t c k)
      → IsCountedByEnding (placed t c k new)
      (slice_set numbers (channel_index k * 16 + message.block % 16) (slice_index numbers (channel_index k * 16 + message.block % 16) - 1))
  IsCountedByEnding-taken c k message rest new h is e =
      let ending : ℕ = message.block % 16 in
      let few : ending < 16 = omega arith in
      let left : new.messages ≡ rest =
      ap (λ (l : Lane). l.messages) e ∙ ap (λ messages. (first_taken (lane_in t c k).taken messages).messages) is in
      let was : (q : ℕ) → ending_in q (lane_in t c k).messages ≡ (if ending == q then 1 else 0) + ending_in q rest =
      λ q. ap (ending_in q) is in
      let now : (q : ℕ) → ending_in q new.messages ≡ ending_in q rest = λ q. ap (ending_in q) left in
      let one : (ending == ending) ≡ true = eq-eqb ending ending refl in
      let here : ending_in ending (lane_in t c k).messages ≡ 1 + ending_in ending rest =
      let it = was ending in rw one at it in
      let some = ending-first c k message rest h is in
      IsCountedByEnding-placed c k new ending (slice_index numbers (channel_index k * 16 + ending) - 1) h few (omega (arith, here, now ending, some))
      (λ q apart.
      let none : (ending == q) ≡ false = ne_eqb ending q (λ same. apart (sym same)) in
      let same : ending_in q (lane_in t c k).messages ≡ 0 + ending_in q rest =
      let it = was q in rw none at it in
      omega (arith, same, now q))

-- the numbers at the start
pub IsCountedByEnding-empty : (t : LinkTable) → ((x : ℕ) (k : Channel) → lane_in t x k ≡ empty_lane)
    → IsCountedByEnding t (replicate 80 0)
IsCountedByEnding-empty t e =
    record {
      all = length-replicate {A = ℕ} 80 0;
      numbered = λ k ending few.
          let short = place-few k in
          get_or-replicate 80 (channel_index k * 16 + ending) 0 0 (omega (arith, short, few)) ∙ sym (below-none t k ending e t.clients);
    }
