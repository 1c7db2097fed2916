-- The steps of a trace: one for each call of a bank (this project's own format).
use Rattle.std.specs.Prelude.{ℕ, if◌then◌else◌, List, [], ◌∷◌, codes, bytes_eq, Option, Some, None}
use Rattle.tl_script_words.specs.declared.step.TicketCall.{TicketCall}
use Rattle.tl_script_words.specs.declared.step.TicketCall.TheVariants.{AnswerProbe, TakeGrant, TakeReleaseAck, Accept, TakeC, TakeGrantAck}
use Rattle.tl_script_words.specs.declared.step.BlockCall.{BlockCall}
use Rattle.tl_script_words.specs.declared.step.BlockCall.TheVariants.{Advance, Evict, ServeMemory, TakeMemory}
use Rattle.tl_script_words.specs.declared.step.Step.{Step}
use Rattle.tl_script_words.specs.declared.step.Step.TheVariants as step
use Rattle.tl_script_words.specs.Reads.{◌>>=◌}
use Rattle.tl_script_words.specs.Ticket.{grow_of, prune_of, ticket_of}
use Rattle.tl_script_words.specs.Words.{words_of, number_of, address_of, len_of, access_of}

-- `load CLIENT ADDR LEN`, after its verb
unfoldable pub load_of : List (List ℕ) → Option Step
load_of (client ∷ address ∷ len ∷ []) = do
  c ← number_of client
  a ← address_of address
  n ← len_of len
  Some (step.Load c a n)
load_of _ = None

-- `store CLIENT ADDR HEX`, after its verb
unfoldable pub store_of : List (List ℕ) → Option Step
store_of (client ∷ address ∷ bytes ∷ []) = do
  c ← number_of client
  a ← address_of address
  bs ← access_of bytes
  Some (step.Store c a bs)
store_of _ = None

-- `acquire CLIENT BLOCK GROW`, after its verb
unfoldable pub acquire_of : List (List ℕ) → Option Step
acquire_of (client ∷ block ∷ grow ∷ []) = do
  c ← number_of client
  b ← number_of block
  g ← grow_of grow
  Some (step.Acquire c b g)
acquire_of _ = None

-- `release CLIENT BLOCK PRUNE`, after its verb
unfoldable pub release_of : List (List ℕ) → Option Step
release_of (client ∷ block ∷ prune ∷ []) = do
  c ← number_of client
  b ← number_of block
  p ← prune_of prune
  Some (step.Release c b p)
release_of _ = None

-- a verb's call, and its TICKET
unfoldable pub ticket_step_of : TicketCall → List (List ℕ) → Option Step
ticket_step_of call (ticket ∷ []) = do
  t ← ticket_of ticket
  Some (step.Ticket call t)
ticket_step_of call _ = None

-- a verb's call, and its BLOCK
unfoldable pub block_step_of : BlockCall → List (List ℕ) → Option Step
block_step_of call (block ∷ []) = do
  b ← number_of block
  Some (step.Block call b)
block_step_of call _ = None

-- the step that a verb and its arguments write
unfoldable pub step_by : List ℕ → List (List ℕ) → Option Step
step_by verb arguments =
    if bytes_eq verb (codes "load") then load_of arguments
    else if bytes_eq verb (codes "store") then store_of arguments
    else if bytes_eq verb (codes "acquire") then acquire_of arguments
    else if bytes_eq verb (codes "release") then release_of arguments
    else if bytes_eq verb (codes "answer_probe") then ticket_step_of AnswerProbe arguments
    else if bytes_eq verb (codes "take_grant") then ticket_step_of TakeGrant arguments
    else if bytes_eq verb (codes "take_release_ack") then ticket_step_of TakeReleaseAck arguments
    else if bytes_eq verb (codes "accept") then ticket_step_of Accept arguments
    else if bytes_eq verb (codes "advance") then block_step_of Advance arguments
    else if bytes_eq verb (codes "take_c") then ticket_step_of TakeC arguments
    else if bytes_eq verb (codes "take_grant_ack") then ticket_step_of TakeGrantAck arguments
    else if bytes_eq verb (codes "evict") then block_step_of Evict arguments
    else if bytes_eq verb (codes "serve_memory") then block_step_of ServeMemory arguments
    else if bytes_eq verb (codes "take_memory") then block_step_of TakeMemory arguments
    else None

-- the step that some words write
unfoldable pub step_in : List (List ℕ) → Option Step
step_in [] = None
step_in (verb ∷ arguments) = step_by verb arguments

-- the step that a text writes
abbrev pub step_of : List ℕ → Option Step
step_of text = step_in (words_of text)
