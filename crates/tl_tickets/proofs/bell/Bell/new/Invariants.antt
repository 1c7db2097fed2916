use Rattle.std.proofs.Common.{◌≡◌, ◌-◌, []}
use Rattle.tl_tickets.specs.Bell.{BellView, fresh_seats}
use Rattle.tl_tickets.specs.Ringing.{tally}
use Rattle.tl_tickets.proofs.bell.Bell.new.Given as goal

abbrev pub invariant-loop-number : goal.invariant-loop-number
invariant-loop-number l =
    let bell : BellView = record { table = l.word.shared.table_id; seats = l.seats } in
    (l.root.table_id ≡ l.word.shared.table_id) × (l.root.me ≡ (tally (l.seats - l.number) 0 0, [])) × (l.list.items ≡ fresh_seats bell l.number) × (l.word.shared.table_id.words ≡ 1) × (l.word.shared.key ≡ l.seats)
