-- The exchanges that what was seen opens, and their answers.
use Rattle.std.specs.Prelude.{◌≡◌, ℕ, suc, ◌+◌, ◌<◌, Bool, List, [], ◌∷◌, ◌++◌, length, take, drop, slice_get, slice_index_or, slice_set, Option, Some, None, IfSome, if◌then◌else◌}
use Rattle.std.specs.BTreeMap.{BTreeMap, get}
use Rattle.std.specs.Option.{option_cmp, option_flatten}
use Rattle.std.specs.Ordering.{nat_cmp, ordering_then}
use Rattle.std.specs.declared.cmp.Ordering.{Ordering}
use Rattle.tlwire_search.specs.declared.seen.Seen.{Seen}
use Rattle.tlwire_exchanges.specs.Exchange.{answers, number_of, opened_by, opens}
use Rattle.tlwire_exchanges.specs.declared.answers.Answers.{Answers}
use Rattle.tlwire_exchanges.specs.declared.answers.Key.{Key}
use Rattle.tlwire_exchanges.specs.declared.exchange.Exchange.{Exchange}
use Rattle.tlwire_exchanges.specs.declared.opened.Opened.{Opened}

-- the places of what passes a test, where the first of these has the place n
abbrev pub places_from : (Seen → Bool) → ℕ → List Seen → List ℕ
places_from test n [] = []
places_from test n (s ∷ rest) = if test s then n ∷ places_from test (suc n) rest else places_from test (suc n) rest

-- the places of what passes a test
abbrev pub places : (Seen → Bool) → List Seen → List ℕ
places test seen = places_from test 0 seen

-- how many things seen before a place open an exchange
abbrev pub number_at : Exchange → ℕ → List Seen → ℕ
number_at e place seen = length (places (opens e) (take place seen))

-- The answer to the exchange that is opened at a place: of a link and a block, the first message that answers such an
-- exchange answers the first that opens one, the second the second, and so on (TileLink 1.8, section 9: a channel
-- keeps the order of the messages of a block). None where it is open at the end.
abbrev pub answer_at : Exchange → ℕ → List Seen → Option ℕ
answer_at e place seen = slice_get (places (answers e) seen) (number_at e place seen)

-- the exchange that is opened at a place, with its answer
abbrev pub opened_at : ℕ → Option Exchange → List Seen → List Opened
opened_at place None seen = []
opened_at place (Some e) seen = (record { place = place; exchange = e; answer = answer_at e place seen }) ∷ []

-- those that these lines open, of which the first has the place n, with their answers among all that was seen
abbrev pub opened_from : List Seen → ℕ → List Seen → List Opened
opened_from seen n [] = []
opened_from seen n (s ∷ rest) = opened_at n (opened_by s) seen ++ opened_from seen (n + 1) rest

-- the exchanges of what was seen, in the order in which they are opened
abbrev pub exchanges_of : List Seen → List Opened
exchanges_of seen = opened_from seen 0 seen

-- ## What is kept of each exchange. No public clause cites these.

-- an exchange as it is looked up
abbrev pub key_of : Exchange → Key
key_of e = record { block = e.block; client = e.client; response = number_of e.response }

-- keys in order
abbrev pub by_key : Key → Key → Ordering
by_key a b =
    ordering_then (nat_cmp a.block b.block)
    (ordering_then (option_cmp nat_cmp a.client b.client) (nat_cmp a.response b.response))

-- the place of the first answer to an exchange, of those that are left
abbrev pub first_of : BTreeMap Key (Option ℕ) → Exchange → Option ℕ
first_of first e = option_flatten (get by_key first (key_of e))

-- the place of the answer after this one
abbrev pub after : List (Option ℕ) → Option ℕ → Option ℕ
after next None = None
after next (Some place) = slice_index_or next place None

-- Each first answer that is left has a place in the list of the next ones.
abbrev pub AreWithin : Answers → Type 0
AreWithin a = (e : Exchange) → IfSome (first_of a.first e) (λ place. place < length a.next.items)

-- Each of these places leads to the one behind it, and the last to none.
abbrev pub IsLinked : List (Option ℕ) → List ℕ → Type 0
IsLinked next ps = (n : ℕ) → after next (slice_get ps n) ≡ slice_get ps (suc n)

-- the places of the answers to an exchange from a place on
abbrev pub answers_from : Exchange → ℕ → List Seen → List ℕ
answers_from e place seen = places_from (answers e) place (drop place seen)

-- The answers from a place on are kept: the first to each exchange, and behind each one the next.
pub record HasAnswers (a : Answers) (place : ℕ) (seen : List Seen) : Type 0 where
  pub first : (e : Exchange) → first_of a.first e ≡ slice_get (answers_from e place seen) 0
  pub next : (e : Exchange) → IsLinked a.next.items (answers_from e place seen)
  pub sized : length a.next.items ≡ length seen

-- Those answers are left that no exchange opened before a place has.
pub record AreLeft (a : Answers) (place : ℕ) (seen : List Seen) : Type 0 where
  pub first : (e : Exchange) → first_of a.first e ≡ answer_at e place seen
  pub next : (e : Exchange) → IsLinked a.next.items (places (answers e) seen)
  pub sized : length a.next.items ≡ length seen

-- the next answers, where one to this exchange at a place comes before its first
abbrev pub linked : BTreeMap Key (Option ℕ) → Option Exchange → ℕ → List (Option ℕ) → List (Option ℕ)
linked first None place next = next
linked first (Some e) place next = slice_set next place (first_of first e)

-- what joins the exchanges at a place, by the answers that are left
abbrev pub joined_by : BTreeMap Key (Option ℕ) → ℕ → Option Exchange → List Opened
joined_by first place None = []
joined_by first place (Some e) = (record { place = place; exchange = e; answer = first_of first e }) ∷ []
