-- The calls of home and of the memory: each with its refusals, in the order in which they are tested (this project's own).
use Rattle.std.specs.Prelude.{ℕ, ◌++◌, List, [], ◌∷◌, is_none, not}
use Rattle.tl_bank_spec.specs.Refusal.{Case}
use Rattle.tl_types.specs.declared.channel.Channel.TheVariants.{A, C, E}
use Rattle.tl_types.specs.declared.ticket.Ticket.{Ticket}
use Rattle.tl_bank_spec.specs.Calls.{ticket_cases}
use Rattle.tl_bank_spec.specs.Cases.{no_block, elsewhere, any_body, block_named}
use Rattle.tl_bank_spec.specs.HomeCases.{busy, lacks, no_register, due_at, due_full, answer_full, is_request, is_reply}
use Rattle.tl_bank_spec.specs.View.{View, end_at}
use Rattle.tl_bank_spec.specs.Ways.{registers_full}
use Rattle.tl_bank_spec.specs.declared.refusal.Refusal.TheVariants.{NothingThere, NoRegister, BlockBusy, NotYet, OutOfRange, WrongBank, LinkFull}

-- the cases in which the accepting of an Acquire is refused, in the order in which they are tested
abbrev pub accept_cases : View → Ticket → List Case
accept_cases v ticket =
    ticket_cases v ticket A any_body
    ++ (busy v (block_named v ticket A), BlockBusy) ∷ (no_register v (block_named v ticket A), NoRegister) ∷ []

-- the cases in which the next action of a block's register is refused, in the order in which they are tested
abbrev pub advance_cases : View → ℕ → List Case
advance_cases v block =
    (no_block v block, OutOfRange)
    ∷ (elsewhere v block, WrongBank)
    ∷ (is_none (due_at v block), NotYet)
    ∷ (due_full v (due_at v block), LinkFull) ∷ []

-- the cases in which the taking of a message from C is refused, in the order in which they are tested
abbrev pub take_c_cases : View → Ticket → List Case
take_c_cases v ticket = ticket_cases v ticket C any_body ++ (answer_full v ticket, LinkFull) ∷ []

-- the cases in which the taking of a GrantAck is refused, in the order in which they are tested
abbrev pub take_grant_ack_cases : View → Ticket → List Case
take_grant_ack_cases v ticket = ticket_cases v ticket E any_body

-- the cases in which the eviction of a block is refused, in the order in which they are tested
abbrev pub evict_cases : View → ℕ → List Case
evict_cases v block =
    (no_block v block, OutOfRange)
    ∷ (elsewhere v block, WrongBank)
    ∷ (busy v block, BlockBusy)
    ∷ (lacks v block, NotYet)
    ∷ (registers_full v, NoRegister) ∷ []

-- the cases in which the memory's answer to a request is refused, in the order in which they are tested
abbrev pub serve_memory_cases : View → ℕ → List Case
serve_memory_cases v block =
    (no_block v block, OutOfRange)
    ∷ (elsewhere v block, WrongBank)
    ∷ (not (is_request (end_at v block).outward), NothingThere) ∷ []

-- the cases in which the taking of the memory's answer is refused, in the order in which they are tested
abbrev pub take_memory_cases : View → ℕ → List Case
take_memory_cases v block =
    (no_block v block, OutOfRange)
    ∷ (elsewhere v block, WrongBank)
    ∷ (not (is_reply (end_at v block).outward), NothingThere) ∷ []
