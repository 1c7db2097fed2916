-- How many messages wait on each channel, as one channel of one client changes.
use Rattle.std.proofs.Common.{◌≡◌, ◌≢◌, ℕ, zero, suc, ◌+◌, ◌-◌, ◌*◌, ◌<◌, ◌≤◌, false, true, List, [], ◌∷◌, length, slice_index_or, refl, sym, ◌∙◌, ap, arith, add-one, inl, inr}
use Rattle.std.proofs.Math.Bool.{or-true}
use Rattle.std.specs.Prelude.{slice_index, slice_set}
use Rattle.std.specs.List.{list_any}
use Rattle.std.proofs.lemmas.Bool.{cases_eq}
use Rattle.std.proofs.lemmas.List.{get_or-set_same, get_or-set_other, get_or_default, length_push, nil_from_length, length-set}
use Rattle.tl_types.specs.Channel.{channel_index}
use Rattle.tl_types.specs.Lane.{Lane, bodies_of, empty_lane, first_taken, with_message, without_first}
use Rattle.tl_types.specs.declared.channel.Channel.{Channel}
use Rattle.tl_types.specs.declared.channel.Channel.TheVariants.{A, B, C, D, E}
use Rattle.tl_types.specs.declared.message.Message.{Message}
use Rattle.tl_types.specs.declared.limits.TheConstants.{CLIENTS, MESSAGES}
use Rattle.tl_links.specs.declared.wanted.Wanted.{Wanted}
use Rattle.tl_links.specs.Table.{LinkTable, lane_in, some_has, waiting_below, IsCounted}
use Rattle.tl_links.specs.Wanted.{is_wanted}

-- there are five channels
pub place-few : (k : Channel) → channel_index k < 5
place-few A = omega arith
place-few B = omega arith
place-few C = omega arith
place-few D = omega arith
place-few E = omega arith

-- how many messages wait on a channel of a client
abbrev pub waits_at : LinkTable → ℕ → Channel → ℕ
waits_at t x l = length (lane_in t x l).messages

-- the table with another lane as one channel of a client
abbrev pub placed : LinkTable → ℕ → Channel → Lane → LinkTable
placed t c k lane = record { bank = t.bank; clients = t.clients; lanes = slice_set t.lanes (c * 5 + channel_index k) lane }

-- where only empty channels stand, none waits
waiting-none : (t : LinkTable) (l : Channel) → ((x : ℕ) (k : Channel) → lane_in t x k ≡ empty_lane) → (n : ℕ) → waiting_below t l n ≡ 0
waiting-none t l e zero = refl
waiting-none t l e (suc n) = rw (waiting-none t l e n, e n l) refl

-- at one client at most as many wait as at all
waiting-some : (t : LinkTable) (l : Channel) (n x : ℕ) → x < n → waits_at t x l ≤ waiting_below t l n
waiting-some t l zero x h = absurd (omega arith)
waiting-some t l (suc n) x h =
    elim (cases_eq x n) [
      | inl e ↦ let here : waits_at t x l ≡ waits_at t n l = ap (λ y. waits_at t y l) e in omega arith
      | inr e ↦ let before = waiting-some t l n x (omega arith) in omega arith
    ]

-- no more than `MESSAGES` wait at each client
waiting-most : (t : LinkTable) (l : Channel) → ((x : ℕ) (k : Channel) → waits_at t x k ≤ MESSAGES) → (n : ℕ) → waiting_below t l n ≤ MESSAGES * n
waiting-most t l m zero = omega arith
waiting-most t l m (suc n) = let before = waiting-most t l m n in let here : waits_at t n l ≤ MESSAGES = m n l in omega arith

-- where none waits, none is found
none-found : (messages : List Message) (block : ℕ) (wanted : Wanted) → length messages ≡ 0
    → list_any (is_wanted wanted) (bodies_of block messages) ≡ false
none-found messages block wanted h = rw (nil_from_length messages h) refl

-- at more clients as many wait, or more
waiting-more : (t : LinkTable) (l : Channel) (m n : ℕ) → m ≤ n → waiting_below t l m ≤ waiting_below t l n
waiting-more t l m zero h = let none : m ≡ 0 = omega arith in omega (arith, ap (λ x. waiting_below t l x) none)
waiting-more t l m (suc n) h =
    elim (cases_eq m (suc n)) [
      | inl e ↦ omega (arith, ap (λ x. waiting_below t l x) e)
      | inr e ↦ let before = waiting-more t l m n (omega arith) in omega arith
    ]

-- one client more
pub waiting-next : (t : LinkTable) (l : Channel) (n : ℕ) → waiting_below t l (n + 1) ≡ waiting_below t l n + waits_at t n l
waiting-next t l n = rw add-one refl

-- a client at which none waits
pub none-next : (t : LinkTable) (l : Channel) (block : ℕ) (wanted : Wanted) (n : ℕ) → some_has t l block wanted n ≡ false → waits_at t n l ≡ 0
    → some_has t l block wanted (n + 1) ≡ false
none-next t l block wanted n none here = rw (add-one, none, none-found (lane_in t n l).messages block wanted here) refl

-- where as many wait at the clients below m as at those below n, the later ones have none
none-later : (t : LinkTable) (l : Channel) (block : ℕ) (wanted : Wanted) (m n : ℕ) → m ≤ n → waiting_below t l m ≡ waiting_below t l n
    → some_has t l block wanted m ≡ false → some_has t l block wanted n ≡ false
none-later t l block wanted m zero h same none = refl
none-later t l block wanted m (suc n) h same none =
    elim (cases_eq m (suc n)) [
      | inl e ↦ sym (ap (λ x. some_has t l block wanted x) e) ∙ none
      | inr e ↦
          let more = waiting-more t l m n (omega arith) in
          let before : some_has t l block wanted n ≡ false = none-later t l block wanted m n (omega arith) (omega arith) none in
          let here : waits_at t n l ≡ 0 = omega arith in
          rw (before, none-found (lane_in t n l).messages block wanted here) refl
    ]

-- where one client below n has a message that is looked for, some has
pub some-has : (t : LinkTable) (l : Channel) (block : ℕ) (wanted : Wanted) (n x : ℕ) → x < n
    → list_any (is_wanted wanted) (bodies_of block (lane_in t x l).messages) ≡ true → some_has t l block wanted n ≡ true
some-has t l block wanted zero x h has = absurd (omega arith)
some-has t l block wanted (suc n) x h has =
    elim (cases_eq x n) [
      | inl e ↦
          let here : list_any (is_wanted wanted) (bodies_of block (lane_in t n l).messages) ≡ true =
          ap (λ y. list_any (is_wanted wanted) (bodies_of block (lane_in t y l).messages)) (sym e) ∙ has in
          rw here (or-true (some_has t l block wanted n))
      | inr e ↦ let before = some-has t l block wanted n x (omega arith) has in rw before refl
    ]

-- messages that are some
pub length-some : (messages : List Message) → messages ≢ [] → 1 ≤ length messages
length-some [] h = absurd (h refl)
length-some (x ∷ rest) h = omega arith

-- one fewer once the first is taken
length-without : (taken : ℕ) (messages : List Message) → messages ≢ [] → length (first_taken taken messages).messages + 1 ≡ length messages
length-without taken [] h = absurd (h refl)
length-without taken (x ∷ rest) h = omega arith

module _ (t : LinkTable) (c : ℕ) (k : Channel) (lane : Lane) where
  pub at-here : c * 5 + channel_index k < length t.lanes → (l : Channel) → channel_index l ≡ channel_index k → lane_in (placed t c k lane) c l ≡ lane
  unfolding lane_in
  at-here inside l e = rw e (get_or-set_same t.lanes (c * 5 + channel_index k) lane empty_lane inside)

  was-here : (l : Channel) → channel_index l ≡ channel_index k → waits_at t c l ≡ waits_at t c k
  unfolding lane_in
  was-here l e = rw e refl

  at-other : (x : ℕ) (l : Channel) → x * 5 + channel_index l ≢ c * 5 + channel_index k → lane_in (placed t c k lane) x l ≡ lane_in t x l
  unfolding lane_in
  at-other x l apart = get_or-set_other t.lanes (c * 5 + channel_index k) (x * 5 + channel_index l) lane empty_lane apart

  -- another client's channel stays
  pub other-client : (x : ℕ) (l : Channel) → x ≢ c → lane_in (placed t c k lane) x l ≡ lane_in t x l
  other-client x l apart =
      let few = place-few k in let fewer = place-few l in
      at-other x l (λ e. apart (omega arith))

  -- and another channel
  pub other-channel : (x : ℕ) (l : Channel) → channel_index l ≢ channel_index k → lane_in (placed t c k lane) x l ≡ lane_in t x l
  other-channel x l apart =
      let few = place-few k in let fewer = place-few l in
      at-other x l (λ e. apart (omega arith))

  -- as many wait on another channel
  waiting-other : (l : Channel) → channel_index l ≢ channel_index k → (n : ℕ) → waiting_below (placed t c k lane) l n ≡ waiting_below t l n
  waiting-other l apart zero = refl
  waiting-other l apart (suc n) = rw (waiting-other l apart n, other-channel n l apart) refl

  -- and at the clients before
  waiting-before : (l : Channel) (n : ℕ) → n ≤ c → waiting_below (placed t c k lane) l n ≡ waiting_below t l n
  waiting-before l zero h = refl
  waiting-before l (suc n) h =
      rw (waiting-before l n (omega arith), other-client n l (λ e. absurd (omega arith))) refl

  -- on the channel itself as many more or fewer wait as on the one that changed
  waiting-changed : c * 5 + channel_index k < length t.lanes → (l : Channel) → channel_index l ≡ channel_index k → (n : ℕ) → c < n
      → waiting_below (placed t c k lane) l n + waits_at t c k ≡ waiting_below t l n + length lane.messages
  waiting-changed inside l e zero h = absurd (omega arith)
  waiting-changed inside l e (suc n) h =
      elim (cases_eq c n) [
        | inl same ↦
            let before = waiting-before l n (omega arith) in
            let now : waits_at (placed t c k lane) n l ≡ length lane.messages =
            ap (λ y. waits_at (placed t c k lane) y l) (sym same) ∙ ap (λ (a : Lane). length a.messages) (at-here inside l e) in
            let then : waits_at t n l ≡ waits_at t c k = ap (λ y. waits_at t y l) (sym same) ∙ was-here l e in
            omega arith
        | inr apart ↦
            let before = waiting-changed inside l e n (omega arith) in
            let stays : waits_at (placed t c k lane) n l ≡ waits_at t n l =
            ap (λ (a : Lane). length a.messages) (other-client n l (λ same. apart (sym same))) in
            omega arith
      ]

  -- no channel has more than `MESSAGES`
  most-placed : c * 5 + channel_index k < length t.lanes → length lane.messages ≤ MESSAGES → ((x : ℕ) (l : Channel) → waits_at t x l ≤ MESSAGES)
      → (x : ℕ) (l : Channel) → waits_at (placed t c k lane) x l ≤ MESSAGES
  most-placed inside few most x l =
      elim (cases_eq x c) [
        | inl same ↦
            elim (cases_eq (channel_index l) (channel_index k)) [
              | inl e ↦
                  let now : waits_at (placed t c k lane) x l ≡ length lane.messages =
                  ap (λ y. waits_at (placed t c k lane) y l) same ∙ ap (λ (a : Lane). length a.messages) (at-here inside l e) in
                  omega arith
              | inr e ↦ rw (other-channel x l e) (most x l)
            ]
        | inr apart ↦ rw (other-client x l apart) (most x l)
      ]

-- A table with its numbers.
module _ {t : LinkTable} {numbers : List ℕ} (counted : IsCounted t numbers) where
  -- a client's channel is one of the lanes
  inside-lanes : (c : ℕ) (k : Channel) → c < t.clients → c * 5 + channel_index k < length t.lanes
  inside-lanes c k h = let few = place-few k in omega (arith, counted.all)

  -- a number is no less than what waits on a channel of one client
  pub number-some : (c : ℕ) (k : Channel) → c < t.clients → waits_at t c k ≤ slice_index numbers (channel_index k)
  number-some c k h = omega (arith, counted.numbered k, waiting-some t k t.clients c h)

  -- and at most 1,024
  pub number-most : (k : Channel) → slice_index numbers (channel_index k) ≤ MESSAGES * CLIENTS
  number-most k = omega (arith, counted.numbered k, waiting-most t k counted.most t.clients, counted.few)

  -- where all that wait are passed, no client has one that is looked for but those before
  pub none-has : (k : Channel) (block : ℕ) (wanted : Wanted) (n : ℕ) → n ≤ t.clients → waiting_below t k n ≡ slice_index numbers (channel_index k)
      → some_has t k block wanted n ≡ false → some_has t k block wanted t.clients ≡ false
  none-has k block wanted n h all none = none-later t k block wanted n t.clients h (all ∙ counted.numbered k) none

  -- no more than `MESSAGES` wait at each client
  pub waiting-few : (k : Channel) (n : ℕ) → waiting_below t k n ≤ MESSAGES * n
  waiting-few k n = waiting-most t k counted.most n

  -- a channel changes, and its number with it
  pub IsCounted-placed : (c : ℕ) (k : Channel) (lane : Lane) (number : ℕ) → c < t.clients → length lane.messages ≤ MESSAGES
      → number + waits_at t c k ≡ slice_index numbers (channel_index k) + length lane.messages
      → IsCounted (placed t c k lane) (slice_set numbers (channel_index k) number)
  IsCounted-placed c k lane number h few sum =
      let inside = inside-lanes c k h in
      record {
        all = length-set t.lanes (c * 5 + channel_index k) lane ∙ counted.all;
        few = counted.few;
        most = most-placed t c k lane inside few counted.most;
        five = length-set numbers (channel_index k) number ∙ counted.five;
        numbered = λ l.
            elim (cases_eq (channel_index l) (channel_index k)) [
              | inl e ↦
                  let short = place-few k in
                  let set : slice_index (slice_set numbers (channel_index k) number) (channel_index k) ≡ number =
                  get_or-set_same numbers (channel_index k) number 0 (omega (arith, counted.five)) in
                  let old : slice_index numbers (channel_index l) ≡ waiting_below t l t.clients = counted.numbered l in
                  let then : slice_index numbers (channel_index l) ≡ slice_index numbers (channel_index k) = ap (λ p. slice_index numbers p) e in
                  let here : slice_index (slice_set numbers (channel_index k) number) (channel_index l) ≡ number =
                  ap (λ p. slice_index (slice_set numbers (channel_index k) number) p) e ∙ set in
                  let changed = waiting-changed t c k lane inside l e t.clients h in
                  omega arith
              | inr e ↦
                  get_or-set_other numbers (channel_index k) (channel_index l) number 0 e ∙ counted.numbered l
                  ∙ sym (waiting-other t c k lane l e t.clients)
            ];
      }

  -- what a channel's place holds is its lane
  pub lane-read : (c : ℕ) (k : Channel) (place : ℕ) (lane : Lane) → c < t.clients → place ≡ c * 5 + channel_index k
      → lane ≡ slice_index_or t.lanes place lane → lane ≡ lane_in t c k
  unfolding lane_in
  lane-read c k place lane h e read =
      read ∙ ap (λ p. slice_index_or t.lanes p lane) e
      ∙ get_or_default t.lanes (c * 5 + channel_index k) lane empty_lane (inside-lanes c k h)

  -- one message more
  pub IsCounted-sent : (c : ℕ) (k : Channel) (message : Message) (new : Lane) → c < t.clients
      → new ≡ with_message (lane_in t c k) message → waits_at t c k ≢ MESSAGES
      → IsCounted (placed t c k new) (slice_set numbers (channel_index k) (slice_index numbers (channel_index k) + 1))
  IsCounted-sent c k message new h e room =
      let most : waits_at t c k ≤ MESSAGES = counted.most c k in
      let more : length new.messages ≡ waits_at t c k + 1 =
      ap (λ (l : Lane). length l.messages) e ∙ length_push (lane_in t c k).messages message in
      IsCounted-placed c k new (slice_index numbers (channel_index k) + 1) h (omega arith) (omega arith)

  -- one message fewer
  pub IsCounted-taken : (c : ℕ) (k : Channel) (new : Lane) → c < t.clients
      → new ≡ without_first (lane_in t c k) → (lane_in t c k).messages ≢ []
      → IsCounted (placed t c k new) (slice_set numbers (channel_index k) (slice_index numbers (channel_index k) - 1))
  IsCounted-taken c k new h e waits =
      let most : waits_at t c k ≤ MESSAGES = counted.most c k in
      let some : 1 ≤ waits_at t c k = length-some (lane_in t c k).messages waits in
      let all : waits_at t c k ≤ slice_index numbers (channel_index k) = number-some c k h in
      let fewer : length new.messages + 1 ≡ waits_at t c k =
      ap (λ (l : Lane). length l.messages + 1) e ∙ length-without (lane_in t c k).taken (lane_in t c k).messages waits in
      IsCounted-placed c k new (slice_index numbers (channel_index k) - 1) h (omega arith) (omega arith)

-- the numbers at the start
pub IsCounted-empty : (t : LinkTable) → length t.lanes ≡ t.clients * 5 → t.clients ≤ CLIENTS
    → ((x : ℕ) (k : Channel) → lane_in t x k ≡ empty_lane) → IsCounted t (0 ∷ 0 ∷ 0 ∷ 0 ∷ 0 ∷ [])
IsCounted-empty t all few e =
    record {
      all = all;
      few = few;
      most = λ x k. rw (e x k) (omega arith);
      five = refl;
      numbered = λ k. zero-at k ∙ sym (waiting-none t k e t.clients);
    }
  where
    zero-at : (k : Channel) → slice_index (0 ∷ 0 ∷ 0 ∷ 0 ∷ 0 ∷ []) (channel_index k) ≡ 0
    zero-at A = refl
    zero-at B = refl
    zero-at C = refl
    zero-at D = refl
    zero-at E = refl
