-- How many copies home has recorded, the clients hold, and are under way (this project's own theorems).
use Rattle.std.specs.Prelude.{◌≡◌, ℕ, zero, suc, ◌+◌, ◌<◌, ◌&&◌, ◌||◌, Bool, true, false, not, List, [], ◌∷◌, Some, None}
use Rattle.tl_types.specs.Message.{upward_to}
use Rattle.tl_types.specs.Bodies.{upward_from}
use Rattle.tl_protocol.specs.declared.client.Client.{Client}
use Rattle.tl_protocol.specs.declared.event.Event.{Event}
use Rattle.tl_types.specs.declared.message.Downward.{Downward}
use Rattle.tl_types.specs.declared.message.Downward.TheVariants.{Grant, ReleaseAck}
use Rattle.tl_types.specs.declared.message.Upward.{Upward}
use Rattle.tl_protocol.specs.declared.shape.Shape.{Shape}
use Rattle.tl_protocol.specs.Copy.{perm_of}
use Rattle.tl_protocol.specs.Protocol.{Block, is_none}
use Rattle.tl_protocol.specs.Runs.{IsRun, end_of}

-- whether a client holds a copy
abbrev pub has_copy : Client → Bool
has_copy k = not (is_none (perm_of k.held))

-- whether home records one
abbrev pub is_recorded : Client → Bool
is_recorded k = not (is_none k.recorded)

-- whether a Grant with data is among these messages
abbrev pub has_grant_data : List Downward → Bool
has_grant_data [] = false
has_grant_data (Grant cap None ∷ rest) = has_grant_data rest
has_grant_data (Grant cap (Some bytes) ∷ rest) = true
has_grant_data (ReleaseAck ∷ rest) = has_grant_data rest

-- whether a copy is given up by one of these messages, from above None to None
abbrev pub gives_up : List Upward → Bool
gives_up [] = false
gives_up (message ∷ rest) = (not (is_none (upward_from message)) && is_none (upward_to message)) || gives_up rest

-- whether a copy is on its way to or from a client
abbrev pub is_under_way : Client → Bool
is_under_way k = has_grant_data k.d || gives_up k.c

-- one if a test is met
abbrev pub one_if : Bool → ℕ
one_if true = 1
one_if false = 0

-- how many of the first n clients pass a test
abbrev pub count_clients : (Client → Bool) → ℕ → (ℕ → Client) → ℕ
count_clients test zero client = 0
count_clients test (suc n) client = one_if (test (client n)) + count_clients test n client

-- how many pairs of a client and one of these blocks pass it
abbrev pub count_pairs : (Client → Bool) → Shape → (ℕ → Block) → List ℕ → ℕ
count_pairs test shape s [] = 0
count_pairs test shape s (block ∷ rest) = count_clients test shape.clients (s block).client + count_pairs test shape s rest

-- nothing is on its way between home and the clients on these blocks
abbrev pub IsSilent : Shape → (ℕ → Block) → List ℕ → Type 0
IsSilent shape s [] = Unit {0}
IsSilent shape s (block ∷ rest) =
    ((x : ℕ) → x < shape.clients → (((s block).client x).c ≡ []) × (((s block).client x).d ≡ [])) × IsSilent shape s rest

-- What home has recorded is what the clients hold, and what is under way. Where nothing is, the two are equal.
abbrev pub LedgerAddsUp : Shape → (ℕ → Block) → List ℕ → Type 0
LedgerAddsUp shape s blocks =
    (count_pairs is_recorded shape s blocks ≡ count_pairs has_copy shape s blocks + count_pairs is_under_way shape s blocks)
    × (IsSilent shape s blocks → count_pairs is_recorded shape s blocks ≡ count_pairs has_copy shape s blocks)

-- so it is in the end of every run, for whichever blocks
abbrev pub EveryLedgerAddsUp : Type 0
EveryLedgerAddsUp =
    (shape : Shape) (image : List ℕ) (events : List Event) (blocks : List ℕ) → IsRun shape image events
    → LedgerAddsUp shape (end_of shape image events) blocks
