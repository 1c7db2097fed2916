-- What a step may do, and answer, at the bank that it is asked of: what that bank's call may (this project's own).
use Rattle.std.specs.Prelude.{◌≡◌, ℕ, ◌+◌, Bool, List, length, slice_range}
use Rattle.tl_types.specs.declared.channel.Channel.TheVariants.{A, B, C, D, E}
use Rattle.tl_types.specs.declared.ticket.Ticket.{Ticket}
use Rattle.tl_map.specs.Places.{block_of_address, offset_of, set_of}
use Rattle.tl_protocol.specs.Copy.{bytes_of}
use Rattle.tl_protocol.specs.declared.event.Event.{Event}
use Rattle.tl_protocol.specs.declared.event.Event.TheVariants as event
use Rattle.tl_registers.specs.Registers.{closed}
use Rattle.tl_script_words.specs.declared.step.BlockCall.{BlockCall}
use Rattle.tl_script_words.specs.declared.step.BlockCall.TheVariants.{Advance, Evict, ServeMemory, TakeMemory}
use Rattle.tl_script_words.specs.declared.step.Step.{Step}
use Rattle.tl_script_words.specs.declared.step.Step.TheVariants as step
use Rattle.tl_script_words.specs.declared.step.TicketCall.{TicketCall}
use Rattle.tl_script_words.specs.declared.step.TicketCall.TheVariants.{AnswerProbe, TakeGrant, TakeReleaseAck, Accept, TakeC, TakeGrantAck}
use Rattle.tl_bank_spec.specs.Calls.{load_cases, store_cases, acquire_cases, release_cases, answer_probe_cases, take_grant_cases, take_release_ack_cases}
use Rattle.tl_bank_spec.specs.Cases.{block_named}
use Rattle.tl_bank_spec.specs.Delivered.{Sends}
use Rattle.tl_bank_spec.specs.Effects.{Accepts, Advances, Evicts, MemoryReplies, AppendsWith, TakesMemory, answer_to}
use Rattle.tl_bank_spec.specs.HomeCalls.{accept_cases, advance_cases, evict_cases, serve_memory_cases, take_c_cases, take_grant_ack_cases, take_memory_cases}
use Rattle.tl_bank_spec.specs.Refusal.{first_of}
use Rattle.tl_bank_spec.specs.Share.{ShareView, recounted}
use Rattle.tl_bank_spec.specs.View.{View, end_at, client_at, perm_at}
use Rattle.tl_bank_spec.specs.Steps.{Appends}
use Rattle.tl_bank_spec.specs.Clock.{latest}
use Rattle.tl_bank_spec.specs.Channels.{next_ticket}
use Rattle.tl_bank_spec.specs.Own.{way_at}
use Rattle.tl_bank_spec.specs.declared.action.Action.{Action}
use Rattle.tl_bank_spec.specs.declared.refusal.Refusal.{Refusal}
use Rattle.tl_memory.specs.declared.request.Reply.{Reply}
use Rattle.tl_text.specs.declared.answer.Answer.{Answer}
use Rattle.tl_text.specs.declared.answer.Answer.TheVariants.{Loaded, Done}
use Rattle.tl_trace.specs.Answers.{Answers, Shows, ShowsAction, ShowsIfSent, ShowsMemory, message_in}

-- What a step is asked of: a bank, and a share and the clock of the client that it names.
pub record Scene : Type 0 where
  pub bank : View
  pub share : ShareView
  pub clock : ℕ

-- ## Refusals

-- the cases in which a call with a ticket is refused, in the order in which they are tested
abbrev pub ticket_cases_of : View → ShareView → TicketCall → Ticket → List (Bool × Refusal)
ticket_cases_of v share AnswerProbe ticket = answer_probe_cases v ticket share
ticket_cases_of v share TakeGrant ticket = take_grant_cases v ticket share
ticket_cases_of v share TakeReleaseAck ticket = take_release_ack_cases v ticket
ticket_cases_of v share Accept ticket = accept_cases v ticket
ticket_cases_of v share TakeC ticket = take_c_cases v ticket
ticket_cases_of v share TakeGrantAck ticket = take_grant_ack_cases v ticket

-- the cases in which a call with a block is refused, in the order in which they are tested
abbrev pub block_cases_of : View → BlockCall → ℕ → List (Bool × Refusal)
block_cases_of v Advance block = advance_cases v block
block_cases_of v Evict block = evict_cases v block
block_cases_of v ServeMemory block = serve_memory_cases v block
block_cases_of v TakeMemory block = take_memory_cases v block

-- the refusals of a step's call, in the order in which they are tested
abbrev pub cases_of : Scene → Step → List (Bool × Refusal)
cases_of s (step.Load client address len) = load_cases s.bank client address len s.clock
cases_of s (step.Store client address bytes) = store_cases s.bank client address (length bytes) s.clock
cases_of s (step.Acquire client block grow) = acquire_cases s.bank client block grow
cases_of s (step.Release client block prune) = release_cases s.bank client block prune s.share
cases_of s (step.Ticket call ticket) = ticket_cases_of s.bank s.share call ticket
cases_of s (step.Block call block) = block_cases_of s.bank call block

-- ## Accesses

-- A load is logged with the step's index, and answers the copy's bytes; the client's clock is its stamp.
pub record Loads (index : ℕ) (old new : View) (before after : ℕ) (client address len : ℕ) (answer : Answer) : Type 0 where
  pub bytes : List ℕ
  pub appends :
      Appends old new
      (event.Load (record { client = client; address = address; bytes = bytes; stamp = after; index = index }))
  pub read :
      bytes
      ≡ slice_range (bytes_of (client_at old client (block_of_address old.geometry address)).held)
      (offset_of old.geometry address) (offset_of old.geometry address + len)
  pub stamp : after ≡ latest old before + 1
  pub says : answer ≡ Loaded bytes

-- A store is logged likewise.
pub record Stores (index : ℕ) (old new : View) (before after : ℕ) (client address : ℕ) (bytes : List ℕ) (answer : Answer) : Type 0 where
  pub appends :
      Appends old new
      (event.Store (record { client = client; address = address; bytes = bytes; stamp = after; index = index }))
  pub stamp : after ≡ latest old before + 1
  pub says : answer ≡ Done

-- ## Messages

-- An event is logged, and the answer shows the message that it sent.
pub record Posts (old new : View) (event : Event) (ticket : Ticket) (answer : Answer) : Type 0 where
  pub appends : Appends old new event
  pub sends : Sends old new event ticket
  pub shows : Shows new ticket answer

-- An event is logged, and there is nothing to show.
pub record Logs (old new : View) (event : Event) (answer : Answer) : Type 0 where
  pub appends : Appends old new event
  pub says : answer ≡ Done

-- the share counts what became of the client's copy of a block
abbrev pub Recounts : View → View → ℕ → ℕ → ShareView → ShareView → Type 0
Recounts old new client block before after = after ≡ recounted (perm_at old client block) (perm_at new client block) before

-- Home takes the first message of C, and the answer shows the ReleaseAck where it was a Release.
pub record TakesC (old new : View) (ticket : Ticket) (answer : Answer) : Type 0 where
  pub serves : AppendsWith old new (event.TakeC ticket.client (block_named old ticket C)) old.registers (way_at old)
  pub shows : ShowsIfSent new (answer_to old ticket) answer

-- Home takes a GrantAck, and the register of its block closes.
pub record TakesGrantAck (old new : View) (ticket : Ticket) (answer : Answer) : Type 0 where
  pub serves :
      AppendsWith old new (event.TakeGrantAck ticket.client (block_named old ticket E)) (closed (block_named old ticket E) old.registers)
      (way_at old)
  pub says : answer ≡ Done

-- Home accepts an Acquire.
pub record Opens (old new : View) (ticket : Ticket) (answer : Answer) : Type 0 where
  pub accepts : Accepts old new ticket (block_named old ticket A) (set_of old.geometry (block_named old ticket A))
  pub says : answer ≡ Done

-- ## Blocks

-- The register of a block does what is due, and the answer shows that.
pub record GoesOn (old new : View) (block : ℕ) (answer : Answer) : Type 0 where
  pub action : Action
  pub advances : Advances old new block action
  pub shows : ShowsAction new block action answer

-- A register opens that sends a block away.
pub record SendsAway (old new : View) (block : ℕ) (answer : Answer) : Type 0 where
  pub evicts : Evicts old new block
  pub says : answer ≡ Done

-- The memory answers a request, and the answer shows that.
pub record Replies (old new : View) (block : ℕ) (answer : Answer) : Type 0 where
  pub serves : AppendsWith old new (event.Serve block) old.registers (way_at old)
  pub reply : Reply
  pub replies : MemoryReplies old block reply
  pub shows : ShowsMemory new (message_in reply) answer

-- Home takes what the memory answered.
pub record TakesReply (old new : View) (block : ℕ) (answer : Answer) : Type 0 where
  pub takes : TakesMemory old new block
  pub says : answer ≡ Done

-- ## Steps

-- what a call with a ticket does to a bank and a share, where it is not refused
abbrev pub TicketDoes : TicketCall → Ticket → View → View → ShareView → ShareView → Answer → Type 0
TicketDoes AnswerProbe ticket old new before after answer =
    Posts old new (event.AnswerProbe ticket.client (block_named old ticket B)) (next_ticket old ticket.client C) answer
    × Recounts old new ticket.client (block_named old ticket B) before after
TicketDoes TakeGrant ticket old new before after answer =
    Posts old new (event.TakeGrant ticket.client (block_named old ticket D)) (next_ticket old ticket.client E) answer
    × Recounts old new ticket.client (block_named old ticket D) before after
TicketDoes TakeReleaseAck ticket old new before after answer =
    Logs old new (event.TakeReleaseAck ticket.client (block_named old ticket D)) answer × (after ≡ before)
TicketDoes Accept ticket old new before after answer = Opens old new ticket answer × (after ≡ before)
TicketDoes TakeC ticket old new before after answer = TakesC old new ticket answer × (after ≡ before)
TicketDoes TakeGrantAck ticket old new before after answer = TakesGrantAck old new ticket answer × (after ≡ before)

-- what a call with a block does to a bank, where it is not refused
abbrev pub BlockDoes : BlockCall → ℕ → View → View → Answer → Type 0
BlockDoes Advance block old new answer = GoesOn old new block answer
BlockDoes Evict block old new answer = SendsAway old new block answer
BlockDoes ServeMemory block old new answer = Replies old new block answer
BlockDoes TakeMemory block old new answer = TakesReply old new block answer

-- the share and the clock stay
pub record Keeps (old new : Scene) : Type 0 where
  pub share : new.share ≡ old.share
  pub clock : new.clock ≡ old.clock

-- what a step does, where it is not refused; an access has the step's index
abbrev pub Does : ℕ → Step → Scene → Scene → Answer → Type 0
Does index (step.Load client address len) old new answer =
    Loads index old.bank new.bank old.clock new.clock client address len answer × (new.share ≡ old.share)
Does index (step.Store client address bytes) old new answer =
    Stores index old.bank new.bank old.clock new.clock client address bytes answer × (new.share ≡ old.share)
Does index (step.Acquire client block grow) old new answer =
    Posts old.bank new.bank (event.SendAcquire client block grow) (next_ticket old.bank client A) answer × Keeps old new
Does index (step.Release client block prune) old new answer =
    Posts old.bank new.bank (event.SendRelease client block prune) (next_ticket old.bank client C) answer
    × Recounts old.bank new.bank client block old.share new.share
    × (new.clock ≡ old.clock)
Does index (step.Ticket call ticket) old new answer =
    TicketDoes call ticket old.bank new.bank old.share new.share answer × (new.clock ≡ old.clock)
Does index (step.Block call block) old new answer = BlockDoes call block old.bank new.bank answer × Keeps old new

-- A step is refused by the first of its refusals whose case holds, and then nothing changes; where there is none it does what it
-- names.
abbrev pub IsStep : ℕ → Step → Scene → Scene → Answer → Type 0
IsStep index step old new answer = Answers (first_of (cases_of old step)) (new ≡ old) (Does index step old new answer) answer
