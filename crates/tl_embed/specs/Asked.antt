-- What a request asks for (this project's own numbers of calls).
use Rattle.std.specs.Prelude.{ℕ, ◌==◌, take, Option, Some, None, nat_lt, if◌then◌else◌}
use Rattle.std.specs.Option.{option_map}
use Rattle.tl_types.specs.Decoding.{grow_at, prune_at}
use Rattle.tl_types.specs.declared.channel.Channel.{Channel}
use Rattle.tl_types.specs.declared.channel.Channel.TheVariants.{A, B, C, D, E}
use Rattle.tl_types.specs.declared.ticket.Ticket.{Ticket}
use Rattle.tl_script_words.specs.declared.step.TicketCall.{TicketCall}
use Rattle.tl_script_words.specs.declared.step.TicketCall.TheVariants.{AnswerProbe, TakeGrant, TakeReleaseAck, Accept, TakeC, TakeGrantAck}
use Rattle.tl_script_words.specs.declared.step.BlockCall.{BlockCall}
use Rattle.tl_script_words.specs.declared.step.BlockCall.TheVariants.{Advance, Evict, ServeMemory, TakeMemory}
use Rattle.tl_script_words.specs.declared.step.Step.{Step}
use Rattle.tl_script_words.specs.declared.step.Step.TheVariants as step
use Rattle.tl_embed.specs.declared.request.Asked.{Asked}
use Rattle.tl_embed.specs.declared.request.Asked.TheVariants as a
use Rattle.tl_embed.specs.declared.request.Request.{Request}

-- the channel with a number
abbrev pub channel_at : ℕ → Option Channel
channel_at n =
    if n == 0 then Some A
    else if n == 1 then Some B
    else if n == 2 then Some C
    else if n == 3 then Some D
    else if n == 4 then Some E
    else None

-- a load of at most eight bytes
abbrev pub load_asked : Request → Option Step
load_asked r = if nat_lt 8 r.len then None else Some (step.Load r.client r.place r.len)

-- a store of the first bytes, at most eight
abbrev pub store_asked : Request → Option Step
store_asked r = if nat_lt 8 r.len then None else Some (step.Store r.client r.place (take r.len r.bytes))

-- an Acquire with a param that there is
abbrev pub acquire_asked : Request → Option Step
acquire_asked r = option_map (λ grow. step.Acquire r.client r.place grow) (grow_at r.param)

-- a Release with a param that there is
abbrev pub release_asked : Request → Option Step
release_asked r = option_map (λ prune. step.Release r.client r.place prune) (prune_at r.param)

-- the ticket of the request's numbers, where there is its channel
abbrev pub ticket_named : Request → Option Ticket
ticket_named r =
    option_map (λ channel. record { bank = r.bank; client = r.client; channel = channel; serial = r.serial }) (channel_at r.channel)

-- a call with that ticket
abbrev pub ticket_asked : TicketCall → Request → Option Step
ticket_asked call r = option_map (λ ticket. step.Ticket call ticket) (ticket_named r)

-- a call with the request's block
abbrev pub block_asked : BlockCall → Request → Step
block_asked call r = step.Block call r.place

-- a step, or an argument that there is not
abbrev pub of_step : Option Step → Asked
of_step None = a.BadArgument
of_step (Some step) = a.Step step

-- what a request asks for
abbrev pub asked : Request → Asked
asked r =
    if r.call == 1 then of_step (load_asked r)
    else if r.call == 2 then of_step (store_asked r)
    else if r.call == 3 then of_step (acquire_asked r)
    else if r.call == 4 then of_step (release_asked r)
    else if r.call == 5 then of_step (ticket_asked AnswerProbe r)
    else if r.call == 6 then of_step (ticket_asked TakeGrant r)
    else if r.call == 7 then of_step (ticket_asked TakeReleaseAck r)
    else if r.call == 8 then of_step (ticket_asked Accept r)
    else if r.call == 9 then a.Step (block_asked Advance r)
    else if r.call == 10 then of_step (ticket_asked TakeC r)
    else if r.call == 11 then of_step (ticket_asked TakeGrantAck r)
    else if r.call == 12 then a.Step (block_asked Evict r)
    else if r.call == 13 then a.Step (block_asked ServeMemory r)
    else if r.call == 14 then a.Step (block_asked TakeMemory r)
    else if r.call == 15 then a.Reserve
    else if r.call == 16 then a.Forget
    else if r.call == 17 then a.Drain
    else if r.call == 18 then a.Flush
    else a.Other
