-- A bell and its seats, as their callers see them. This is the project's own: TileLink knows no bells.
use Rattle.std.specs.Prelude.{◌≡◌, ℕ, zero, suc, ◌+◌, ◌^◌, ◌<◌, ◌==◌, List, [], ◌∷◌, ◌++◌, length, count_by}
use Rattle.std.specs.List.{sum_by}
use Rattle.atomic_table.specs.Seated.{TableId}

-- a bell: which one it is, and how many seats it has
pub record BellView : Type 0 where
  pub table : TableId
  pub seats : ℕ

-- a seat: the bell that gave it out, its own number, how often it rang, and the most that it has seen
pub record SeatView : Type 0 where
  pub table : TableId
  pub number : ℕ
  pub rung : ℕ
  pub seen : ℕ

-- the bell gave out this seat
abbrev pub IsSeatOf : BellView → SeatView → Type 0
IsSeatOf bell seat = seat.table ≡ bell.table

-- the same seat, whatever it rang and has seen since
abbrev pub IsSameSeat : SeatView → SeatView → Type 0
IsSameSeat old new = (new.table ≡ old.table) × (new.number ≡ old.number)

-- how often a seat may ring
abbrev pub most_rings : ℕ
most_rings = 2 ^ 40

-- the seat, after it rang
abbrev pub after_ring : SeatView → SeatView
after_ring seat = record seat { rung = seat.rung + 1 }

-- the seat, after it heard a number
abbrev pub after_hearing : SeatView → ℕ → SeatView
after_hearing seat heard = record seat { seen = heard }

-- each seat of a bell with this many seats is there once
abbrev pub IsEachSeatOnce : ℕ → List SeatView → Type 0
IsEachSeatOnce seats list = (length list ≡ seats) × ((k : ℕ) → k < seats → count_by (λ (s : SeatView). s.number == k) list ≡ 1)

-- how often the seats rang
abbrev pub rings_of : List SeatView → ℕ
rings_of list = sum_by (λ (s : SeatView). s.rung) list

-- a seat as it is given out
abbrev pub fresh_seat : BellView → ℕ → SeatView
fresh_seat bell number = record { table = bell.table; number = number; rung = 0; seen = 0 }

-- the first n seats as they are given out
abbrev pub fresh_seats : BellView → ℕ → List SeatView
fresh_seats bell zero = []
fresh_seats bell (suc n) = fresh_seats bell n ++ fresh_seat bell n ∷ []
