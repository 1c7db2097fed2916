-- The first line that is wrong at the pins of some clients.
use Rattle.std.proofs.Common.{◌≡◌, ◌≤◌, ◌+◌, ℕ, true, List, take, Option, Some, None, Result, Ok, Err, IfOk, IfSome, IsNone, IsSome, below_more, refl, subst}
use Rattle.tl_protocol.specs.declared.shape.Shape.{Shape}
use Rattle.tlwire_search.specs.declared.seen.Seen.{Seen}
use Rattle.tlwire_pins.specs.Impossible.{IsImpossible}
use Rattle.tlwire_pins.specs.Judged.{EachMay}
use Rattle.tlwire_pins.specs.Walk.{IsWrong}
use Rattle.tlwire_pins.specs.declared.pass.Wrong.{Wrong}
use Rattle.tlwire_pins.specs.declared.view.Tap.{Tap}
use Rattle.tlwire_pins.proofs.Walk.{each_may_less, each_may_take}
use Rattle.tlwire_record.specs.Messages.{MessagesState}
use Rattle.tlwire_answer.specs.Answer.{IsFirstOf, IsWrongAt, MayAt, MayAtPins}
use Rattle.tlwire_answer.specs.Named.{is_told}
use Rattle.tlwire_pins.specs.Taps.{tap_of}

-- what may be seen may be seen up to a place
may_take : (m : MessagesState) (place client : ℕ) → MayAt m m.seen client → MayAt m (take place m.seen) client
may_take m place client may = λ told.
    each_may_take (tap_of m.setting.premises client) m.setting.shape client place m.seen (may told)

-- and up to an earlier one
may_less : (m : MessagesState) (place to client : ℕ) → place ≤ to → MayAt m (take to m.seen) client → MayAt m (take place m.seen) client
may_less m place to client le may = λ told.
    each_may_less (tap_of m.setting.premises client) m.setting.shape client place to m.seen le (may told)

pub pins_take : (m : MessagesState) (place : ℕ) → MayAtPins m m.seen → MayAtPins m (take place m.seen)
pins_take m place may = λ client lt. may_take m place client (may client lt)

pub pins_less : (m : MessagesState) (place to : ℕ) → place ≤ to → MayAtPins m (take to m.seen) → MayAtPins m (take place m.seen)
pins_less m place to le may = λ client lt. may_less m place to client le (may client lt)

-- nothing was wrong before: the first is what is wrong there, if something is
pub first_there : (m : MessagesState) (clients : ℕ) (other : Option Wrong) → IsFirstOf m clients None → IsWrongAt m clients other → IsFirstOf m (clients + 1) other
first_there m clients None first here = below_more (λ (x : ℕ). MayAt m m.seen x) clients first here
first_there m clients (Some w) first here = (
  here.0,
  below_more (λ (x : ℕ). MayAt m (take w.place m.seen) x) clients (λ client lt. may_take m w.place client (first client lt)) here.1,
)

-- the first stays
pub first_stays : (m : MessagesState) (clients : ℕ) (w : Wrong) → IsFirstOf m clients (Some w) → IsWrongAt m clients None → IsFirstOf m (clients + 1) (Some w)
first_stays m clients w first here = (
  first.0,
  below_more (λ (x : ℕ). MayAt m (take w.place m.seen) x) clients first.1 (may_take m w.place clients here),
)

-- before another one
pub first_before : (m : MessagesState) (clients : ℕ) (w other : Wrong) → w.place ≤ other.place → IsFirstOf m clients (Some w)
    → IsWrongAt m clients (Some other) → IsFirstOf m (clients + 1) (Some w)
first_before m clients w other le first here = (
  first.0,
  below_more (λ (x : ℕ). MayAt m (take w.place m.seen) x) clients first.1 (may_less m w.place other.place clients le here.1),
)

-- or that one stands before it
pub first_behind : (m : MessagesState) (clients : ℕ) (w other : Wrong) → other.place ≤ w.place → IsFirstOf m clients (Some w)
    → IsWrongAt m clients (Some other) → IsFirstOf m (clients + 1) (Some other)
first_behind m clients w other le first here = (
  here.0,
  below_more (λ (x : ℕ). MayAt m (take other.place m.seen) x) clients (λ client lt. may_less m other.place w.place client le (first.1 client lt)) here.1,
)

-- what holds of the record's own shape and lines
own_of : (P : Tap → Shape → List Seen → Type 0) (m : MessagesState) (tap : Tap) (shape : Shape) (seen : List Seen) (client : ℕ)
    → tap ≡ tap_of m.setting.premises client → shape ≡ m.setting.shape → seen ≡ m.seen → P tap shape seen
    → P (tap_of m.setting.premises client) m.setting.shape m.seen
own_of P m tap shape seen client k s e p =
    subst (λ (xs : List Seen). P (tap_of m.setting.premises client) m.setting.shape xs) e
    (subst (λ (x : Shape). P (tap_of m.setting.premises client) x seen) s (subst (λ (x : Tap). P x shape seen) k p))

-- what is said at the pins of a client that is told there
pub wrong_then : {E : Type 0} (r : Result (Option Wrong) E) (m : MessagesState) (tap : Tap) (shape : Shape) (seen : List Seen) (client : ℕ)
    → tap ≡ tap_of m.setting.premises client → shape ≡ m.setting.shape → seen ≡ m.seen → is_told m.setting.premises client ≡ true
    → IfOk r (λ found. IfSome found (IsWrong tap shape client seen))
    → IfOk r (λ found. IsSome found → IsImpossible tap shape client seen)
    → IfOk r (λ found. IfSome found (λ (w : Wrong). EachMay tap shape client (take w.place seen)))
    → IfOk r (λ found. IsNone found → EachMay tap shape client seen)
    → IfOk r (IsWrongAt m client)
wrong_then (Ok (Some w)) m tap shape seen client k s e told wrong none first all = (
  record {
    client = client;
    premise = told;
    wrong = own_of (λ (x : Tap) (sh : Shape) (xs : List Seen). IsWrong x sh client xs w) m tap shape seen client k s e wrong;
    impossible = own_of (λ (x : Tap) (sh : Shape) (xs : List Seen). IsImpossible x sh client xs) m tap shape seen client k s e (none refl);
  },
  λ t. own_of (λ (x : Tap) (sh : Shape) (xs : List Seen). EachMay x sh client (take w.place xs)) m tap shape seen client k s e first,
)
wrong_then (Ok None) m tap shape seen client k s e told wrong none first all =
    λ t. own_of (λ (x : Tap) (sh : Shape) (xs : List Seen). EachMay x sh client xs) m tap shape seen client k s e (all refl)
wrong_then (Err x) m tap shape seen client k s e told wrong none first all = tt
