-- The rule of an inbox's queue: what was taken of each sender, followed by what waits of it, is what it put. This is the project's own.
use Rattle.std.specs.Prelude.{◌≡◌, ℕ, ◌+◌, ◌<◌, ◌≤◌, ◌==◌, ◌%◌, ◌^◌, true, false, ◌||◌, cond, List, [], ◌∷◌, ◌++◌, length, map}
use Rattle.std.specs.List.{AllByRecursion}
use Rattle.std.specs.List.{sum_by}
use mathlib.Core.Option.{some}
use lib.ListN.{get_elem?}
use Rattle.atomic_table.specs.Seated.{TableId}
use Rattle.tl_tickets.specs.declared.sent.Sent.{Sent}
use Rattle.tl_types.specs.declared.ticket.Ticket.{Ticket}
use Rattle.tl_tickets.specs.declared.sent.Put.{Put}
use Rattle.tl_tickets.specs.declared.sent.Known.{Known}
use Rattle.tl_tickets.specs.Inbox.{PassView, tickets_of, AreFrom}

-- what the sender s put, one of n senders
abbrev pub put_by : ℕ → ℕ → List Ticket → Put
put_by n s ts = record { sender = s; among = n; tickets = ts }

-- what the receiver knows, once `made` senders are counted and the first `given` of them have their passes
abbrev pub receiver : ℕ → ℕ → ℕ → List Sent → Known
receiver made given behind taken = record { takes = true; made = made; given = given; behind = behind; taken = taken; puts = [] }

-- what a sender knows, one of n: what it put
abbrev pub sender : ℕ → ℕ → List Ticket → Known
sender n s ts = record { takes = false; made = 0; given = 0; behind = 0; taken = []; puts = put_by n s ts ∷ [] }

-- what a pass knows that was joined to another, or that only counted a sender
abbrev pub nothing : Known
nothing = record { takes = false; made = 0; given = 0; behind = 0; taken = []; puts = [] }

-- what is known with a pass
abbrev pub known : PassView → Known
known pass = cond (pass.number == 0) (receiver pass.senders pass.senders pass.behind pass.taken) (sender pass.senders pass.number pass.put)

-- the same, and one more sender is counted
abbrev pub with_counted : Known → Known
with_counted v = record v { made = v.made + 1 }

-- what the pass knows that only counted a sender
abbrev pub only_counted : Known → Known
only_counted v = nothing

-- the same, and one more sender has its pass
abbrev pub with_sender : Known → Known
with_sender v = record v { given = v.given + 1 }

-- what the new sender knows
abbrev pub new_sender : Known → Known
new_sender v = sender v.made (v.given + 1) []

-- what two passes know together
abbrev pub together : Known → Known → Known
together v w = record {
  takes = v.takes || w.takes;
  made = cond v.takes v.made w.made;
  given = cond v.takes v.given w.given;
  behind = cond v.takes v.behind w.behind;
  taken = cond v.takes v.taken w.taken;
  puts = w.puts ++ v.puts;
}

-- what all passes know together
abbrev pub gathered : List PassView → Known
gathered [] = nothing
gathered (p ∷ ps) = together (gathered ps) (known p)

-- what was put by a sender is what was taken of it and what waits of it
abbrev pub Agrees : List Sent → List Sent → Put → Type 0
Agrees taken waiting p = p.tickets ≡ tickets_of p.sender taken ++ tickets_of p.sender waiting

-- each sender's puts are known with one pass, its owner, which knows how many senders there are
abbrev pub FitsPuts : (ℕ → ℕ) → ℕ → ℕ → List Sent → List Sent → ℕ → Known → Type 0
FitsPuts owner made given taken waiting pass v = AllByRecursion (λ (p : Put). (owner p.sender ≡ pass) × (0 < p.sender) × (p.sender ≤ given) × (p.among ≡ made) × Agrees taken waiting p) v.puts

-- one pass takes, and what it knows to wait does
abbrev pub FitsTaker : ℕ → ℕ → ℕ → List Sent → List Sent → ℕ → Known → Type 0
FitsTaker taker made given taken waiting pass v = v.takes ≡ true → (taker ≡ pass) × (v.made ≡ made) × (v.given ≡ given) × (v.taken ≡ taken) × (v.behind ≤ length waiting)

-- the rule: each put is known with one pass, one pass takes, and every account is right. At most 4,096 tickets wait. All senders are
-- counted before the first has its pass, so that each pass knows how many there are
pub record Delivers (waiting : List Sent) (views : List Known) : Type 0 where
  pub owner : ℕ → ℕ
  pub taker : ℕ
  pub made : ℕ
  pub given : ℕ
  pub taken : List Sent
  pub room : length waiting ≤ 4096
  pub few : given ≤ made
  pub senders : AreFrom given (taken ++ waiting)
  pub fits : (pass : ℕ) (v : Known) → get_elem? views pass ≡ some v → FitsPuts owner made given taken waiting pass v × FitsTaker taker made given taken waiting pass v

-- what is known after a ticket was put
abbrev pub with_put : Known → Ticket → Known
with_put v t = record v { puts = map (λ (p : Put). put_by p.among p.sender (p.tickets ++ t ∷ [])) v.puts }

-- what a push tells
abbrev pub Puts : Known → Sent → Known → Type 0
Puts v x w = w ≡ with_put v x.ticket

-- what a pop tells: the rest that waited is still behind
abbrev pub Takes : Known → Sent → Known → Type 0
Takes v x w = (rest : ℕ) × (0 < x.sender) × (x.sender ≤ v.given) × (v.behind ≤ rest + 1) × (w ≡ record v { taken = v.taken ++ x ∷ []; behind = rest })

-- what a pass shows of one moment
abbrev pub Shows : Known → List Sent → Type 0
Shows v waiting = (taken : List Sent) × AllByRecursion (λ (p : Put). Agrees taken waiting p × AreFrom p.among (taken ++ waiting)) v.puts
    × (v.takes ≡ true → (v.taken ≡ taken) × (length waiting ≤ 4096) × AreFrom v.given (taken ++ waiting) × (v.behind ≤ length waiting))

-- the tickets of the first
abbrev pub first_tickets : List Put → List Ticket
first_tickets [] = []
first_tickets (p ∷ ps) = p.tickets

-- the pass with this number that knows v
abbrev pub pass_with : TableId → ℕ → ℕ → Known → PassView
pass_with table senders number v = record { table = table; senders = senders; number = number; put = first_tickets v.puts; taken = v.taken; behind = v.behind }

-- the balance is what was put less what was taken, below 2 ^ 64
abbrev pub IsBalance : ℕ → PassView → Type 0
IsBalance balance pass = (balance + length pass.taken) % 2 ^ 64 ≡ length pass.put % 2 ^ 64

-- how many tickets were put with a sender's pass
abbrev pub put_count : PassView → ℕ
put_count pass = cond (pass.number == 0) 0 (length pass.put)

-- how many tickets were taken with the receiver's pass
abbrev pub taken_count : PassView → ℕ
taken_count pass = cond (pass.number == 0) (length pass.taken) 0

-- the balance of several passes, below 2 ^ 64
abbrev pub IsTotal : ℕ → List PassView → Type 0
IsTotal total passes = (total + sum_by taken_count passes) % 2 ^ 64 ≡ sum_by put_count passes % 2 ^ 64
