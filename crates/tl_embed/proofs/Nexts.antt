-- A call that is told is asked for by its numbers.
use Rattle.std.proofs.Common.{◌≡◌, ℕ, Option, Some, None, refl, ap, ◌∙◌, sym}
use Rattle.std.specs.Prelude.{◌↔◌, IfSome}
use Rattle.tl_types.specs.Channel.{channel_index}
use Rattle.tl_types.specs.declared.channel.Channel.{Channel}
use Rattle.tl_types.specs.declared.channel.Channel.TheVariants.{A, B, C, D, E}
use Rattle.tl_bank_spec.specs.View.{View}
use Rattle.tl_bank_spec.specs.Views.{IsQuiet}
use Rattle.tl_bank_rest.specs.Taken.{IsTaken}
use Rattle.tl_bank_rest.specs.declared.receiving.Receiving.{Receiving}
use Rattle.tl_bank_rest.specs.declared.receiving.Receiving.TheVariants.{TakeGrantAck, TakeGrant, TakeReleaseAck, TakeC, AnswerProbe, ServeMemory, TakeMemory, Advance, Accept}
use Rattle.tl_script_words.specs.declared.step.Step.TheVariants as step
use Rattle.tl_script_words.specs.declared.step.TicketCall.{TicketCall}
use Rattle.tl_script_words.specs.declared.step.TicketCall.TheVariants.{AnswerProbe as t_AnswerProbe, TakeGrant as t_TakeGrant, TakeReleaseAck as t_TakeReleaseAck, Accept as t_Accept, TakeC as t_TakeC, TakeGrantAck as t_TakeGrantAck}
use Rattle.std.specs.Option.{option_map}
use Rattle.tl_types.specs.declared.ticket.Ticket.{Ticket}
use Rattle.tl_embed.specs.Asked.{asked, channel_at, of_step}
use Rattle.tl_embed.specs.Next.{NextTold, TellsNext, call_told, request_told, step_of}
use Rattle.tl_embed.specs.Told.{only}
use Rattle.tl_embed.specs.declared.answer.Answer.{Answer}
use Rattle.tl_embed.specs.declared.request.Asked.{Asked}
use Rattle.tl_embed.specs.declared.request.Asked.TheVariants as a

-- a channel is at its own number
at-index : (channel : Channel) → channel_at (channel_index channel) ≡ Some channel
at-index A = refl
at-index B = refl
at-index C = refl
at-index D = refl
at-index E = refl

-- so a ticket's numbers name it
ticket-back : (call : TicketCall) (t : Ticket)
    → of_step (option_map (λ (x : Ticket). step.Ticket call x)
    (option_map (λ (channel : Channel). record { bank = t.bank; client = t.client; channel = channel; serial = t.serial })
    (channel_at (channel_index t.channel))))
    ≡ a.Step (step.Ticket call t)
ticket-back call t =
    ap
    (λ (o : Option Channel). of_step (option_map (λ (x : Ticket). step.Ticket call x)
    (option_map (λ (channel : Channel). record { bank = t.bank; client = t.client; channel = channel; serial = t.serial }) o)))
    (at-index t.channel)

-- each call
call-asked : (call : Receiving) → asked (request_told (call_told call)) ≡ a.Step (step_of call)
call-asked (AnswerProbe ticket) = ticket-back t_AnswerProbe ticket
call-asked (TakeGrant ticket) = ticket-back t_TakeGrant ticket
call-asked (TakeReleaseAck ticket) = ticket-back t_TakeReleaseAck ticket
call-asked (Accept ticket) = ticket-back t_Accept ticket
call-asked (Advance block) = refl
call-asked (TakeC ticket) = ticket-back t_TakeC ticket
call-asked (TakeGrantAck ticket) = ticket-back t_TakeGrantAck ticket
call-asked (ServeMemory block) = refl
call-asked (TakeMemory block) = refl

-- a call that is next
pub call-next : (v : View) (told : Answer) (next : Option Receiving) (call : Receiving) → (next ≡ None) ↔ IsQuiet v → next ≡ Some call
    → IsTaken v call → told ≡ call_told call → NextTold v told
call-next v told next call quiet is taken says = record {
  quiet = λ rest. let none : next ≡ None = quiet.1 rest in cc;
  busy = λ busy. record {
    call = call;
    taken = taken;
    told_is = says;
    asks = ap (λ (x : Answer). asked (request_told x)) says ∙ call-asked call;
  };
}

-- or none is
pub none-next : (v : View) (told : Answer) (next : Option Receiving) → (next ≡ None) ↔ IsQuiet v → next ≡ None → told ≡ only 4
    → NextTold v told
none-next v told next quiet is says = record { quiet = λ rest. says; busy = λ busy. absurd (busy (quiet.0 is)) }
