-- What a view tells of the call that moves a bank on (this project's own).
use Rattle.std.specs.Prelude.{◌≡◌, ℕ, replicate}
use Rattle.tl_types.specs.Channel.{channel_index}
use Rattle.tl_types.specs.declared.ticket.Ticket.{Ticket}
use Rattle.tl_bank_spec.specs.View.{View}
use Rattle.tl_bank_spec.specs.Views.{IsQuiet}
use Rattle.tl_bank_rest.specs.Taken.{IsTaken}
use Rattle.tl_bank_rest.specs.declared.receiving.Receiving.{Receiving}
use Rattle.tl_bank_rest.specs.declared.receiving.Receiving.TheVariants.{TakeGrantAck, TakeGrant, TakeReleaseAck, TakeC, AnswerProbe, ServeMemory, TakeMemory, Advance, Accept}
use Rattle.tl_script_words.specs.declared.step.BlockCall.TheVariants.{Advance as b_Advance, ServeMemory as b_ServeMemory, TakeMemory as b_TakeMemory}
use Rattle.tl_script_words.specs.declared.step.Step.{Step}
use Rattle.tl_script_words.specs.declared.step.Step.TheVariants as step
use Rattle.tl_script_words.specs.declared.step.TicketCall.TheVariants.{AnswerProbe as t_AnswerProbe, TakeGrant as t_TakeGrant, TakeReleaseAck as t_TakeReleaseAck, Accept as t_Accept, TakeC as t_TakeC, TakeGrantAck as t_TakeGrantAck}
use Rattle.tl_embed.specs.Asked.{asked}
use Rattle.tl_embed.specs.Told.{only}
use Rattle.tl_embed.specs.declared.answer.Answer.{Answer}
use Rattle.tl_embed.specs.declared.request.Asked.TheVariants as a
use Rattle.tl_embed.specs.declared.request.Request.{Request}

-- a call with a ticket: its number, and the numbers of the ticket
abbrev pub by_ticket : ℕ → Ticket → Answer
by_ticket call ticket =
    record (only 0) {
      what = 9;
      opcode = call;
      bank = ticket.bank;
      client = ticket.client;
      channel = channel_index ticket.channel;
      serial = ticket.serial;
    }

-- a call with a block
abbrev pub by_block : ℕ → ℕ → Answer
by_block call block = record (only 0) { what = 9; opcode = call; place = block }

-- a call by which something is received, with the number that a request has for it
abbrev pub call_told : Receiving → Answer
call_told (AnswerProbe ticket) = by_ticket 5 ticket
call_told (TakeGrant ticket) = by_ticket 6 ticket
call_told (TakeReleaseAck ticket) = by_ticket 7 ticket
call_told (Accept ticket) = by_ticket 8 ticket
call_told (Advance block) = by_block 9 block
call_told (TakeC ticket) = by_ticket 10 ticket
call_told (TakeGrantAck ticket) = by_ticket 11 ticket
call_told (ServeMemory block) = by_block 13 block
call_told (TakeMemory block) = by_block 14 block

-- the step that it is
abbrev pub step_of : Receiving → Step
step_of (AnswerProbe ticket) = step.Ticket t_AnswerProbe ticket
step_of (TakeGrant ticket) = step.Ticket t_TakeGrant ticket
step_of (TakeReleaseAck ticket) = step.Ticket t_TakeReleaseAck ticket
step_of (Accept ticket) = step.Ticket t_Accept ticket
step_of (Advance block) = step.Block b_Advance block
step_of (TakeC ticket) = step.Ticket t_TakeC ticket
step_of (TakeGrantAck ticket) = step.Ticket t_TakeGrantAck ticket
step_of (ServeMemory block) = step.Block b_ServeMemory block
step_of (TakeMemory block) = step.Block b_TakeMemory block

-- the request with the numbers that are told of a call
abbrev pub request_told : Answer → Request
request_told told = record {
  call = told.opcode;
  index = 0;
  client = told.client;
  place = told.place;
  param = 0;
  bank = told.bank;
  channel = told.channel;
  len = 0;
  serial = told.serial;
  bytes = replicate 8 0;
}

-- A call that no case refuses, with the share of its ticket's client, is told; the request with its numbers asks for that step.
pub record TellsNext (v : View) (told : Answer) : Type 0 where
  pub call : Receiving
  pub taken : IsTaken v call
  pub told_is : told ≡ call_told call
  pub asks : asked (request_told told) ≡ a.Step (step_of call)

-- Where the bank is quiet, that there is no such call.
pub record NextTold (v : View) (told : Answer) : Type 0 where
  pub quiet : IsQuiet v → told ≡ only 4
  pub busy : (IsQuiet v → ⊥) → TellsNext v told
