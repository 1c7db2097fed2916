-- What a step would be refused for, or would send on C, were it asked now (this project's own).
use Rattle.std.specs.Prelude.{◌≡◌, ℕ, Option, Some, None, slice_get, slice_index, MatchResult, Result}
use Rattle.tl_types.specs.declared.channel.Channel.TheVariants.{B}
use Rattle.tl_types.specs.declared.message.Message.{Message}
use Rattle.tl_protocol.specs.Protocol.{block_of}
use Rattle.tl_protocol.specs.declared.event.Event.{Event}
use Rattle.tl_protocol.specs.declared.event.Event.TheVariants as event
use Rattle.tl_script_words.specs.declared.step.Step.{Step}
use Rattle.tl_script_words.specs.declared.step.Step.TheVariants as step
use Rattle.tl_script_words.specs.declared.step.TicketCall.TheVariants.{AnswerProbe}
use Rattle.tl_bank.specs.Would.{WouldSend}
use Rattle.tl_bank_spec.specs.Cases.{block_named}
use Rattle.tl_bank_spec.specs.Refusal.{first_of}
use Rattle.tl_bank_spec.specs.Share.{ShareView}
use Rattle.tl_bank_spec.specs.View.{View, shape_of}
use Rattle.tl_bank_spec.specs.declared.refusal.Refusal.{Refusal}
use Rattle.tl_trace.specs.NetworkState.{NetworkState, SharedBankState, bank_asked, client_named, share_place}
use Rattle.tl_trace.specs.Steps.{cases_of}

-- the event of a step that sends a message on C
abbrev pub event_on_c : View → Step → Option Event
event_on_c v (step.Load client address len) = None
event_on_c v (step.Store client address bytes) = None
event_on_c v (step.Acquire client block grow) = None
event_on_c v (step.Release client block prune) = Some (event.SendRelease client block prune)
event_on_c v (step.Ticket AnswerProbe ticket) = Some (event.AnswerProbe ticket.client (block_named v ticket B))
event_on_c v (step.Ticket call ticket) = None
event_on_c v (step.Block call block) = None

-- A refusal stands against a step at a bank, the first of them, with the share of the client that it names and a clock.
pub record WouldRefuseAt (shared_bank : SharedBankState) (clock : ℕ) (step : Step) (refusal : Refusal) : Type 0 where
  pub share : ShareView
  pub is_share : slice_get shared_bank.shares (share_place shared_bank.shares (client_named step)) ≡ Some share
  pub first : first_of (cases_of (record { bank = shared_bank.bank; share = share; clock = clock }) step) ≡ Some refusal

-- None stands against it, and it would send this message on C, of its event's block.
pub record WouldSendAt (shared_bank : SharedBankState) (clock : ℕ) (step : Step) (message : Message) : Type 0 where
  pub share : ShareView
  pub is_share : slice_get shared_bank.shares (share_place shared_bank.shares (client_named step)) ≡ Some share
  pub permitted : first_of (cases_of (record { bank = shared_bank.bank; share = share; clock = clock }) step) ≡ None
  pub event : Event
  pub is_event : event_on_c shared_bank.bank step ≡ Some event
  pub block : message.block ≡ block_of (shape_of shared_bank.bank.geometry) event
  pub sends : WouldSend shared_bank.bank event message.body

-- The same at the bank that the step names, with the clock of the client that it names.
pub record WouldRefuse (network : NetworkState) (step : Step) (refusal : Refusal) : Type 0 where
  pub shared_bank : SharedBankState
  pub is_site : slice_get network.shared_banks (bank_asked network.geometry step) ≡ Some shared_bank
  pub refuses : WouldRefuseAt shared_bank (slice_index network.clocks (client_named step)) step refusal

-- The same where it would send.
pub record WouldSendOnC (network : NetworkState) (step : Step) (message : Message) : Type 0 where
  pub shared_bank : SharedBankState
  pub is_site : slice_get network.shared_banks (bank_asked network.geometry step) ≡ Some shared_bank
  pub sends : WouldSendAt shared_bank (slice_index network.clocks (client_named step)) step message

-- What would come of a step that sends a message on C, but for want of memory: the message, or the first refusal that stands against it.
abbrev pub WouldComeTo : NetworkState → Step → Result Message Refusal → Type 0
WouldComeTo network step outcome =
    MatchResult outcome (λ message. WouldSendOnC network step message) (λ refusal. WouldRefuse network step refusal)
