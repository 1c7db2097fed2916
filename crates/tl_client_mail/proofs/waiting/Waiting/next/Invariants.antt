use Rattle.std.proofs.Common.{◌≡◌, ◌++◌, List, length}
use Rattle.tl_types.specs.declared.ticket.Ticket.{Ticket}
use Rattle.tl_client_mail.specs.Rounds.{AreBarred, all_of}
use Rattle.tl_client_mail.proofs.waiting.Waiting.next.Given as goal

-- all tickets in order stay, and so does the room; those that joined the kept ones were barred
abbrev pub invariant-loop-ticket : goal.invariant-loop-ticket
invariant-loop-ticket l = record {
  order : all_of l.self ≡ all_of l.fn.self;
  room : l.self.room ≡ l.fn.self.room;
  barred : (passed : List Ticket) × (l.self.kept ≡ l.fn.self.kept ++ passed) × AreBarred l.fn.self.kept passed;
}

abbrev pub decreases-loop-ticket : goal.decreases-loop-ticket
decreases-loop-ticket l = length l.self.rest
