-- What a step would send on C, or be refused for, at the bank that is asked.
use Rattle.std.proofs.Common.{◌≡◌, ℕ, ◌<◌, List, length, get_or, Some, None, Result, Ok, Err, slice_get, slice_index, refl, sym, ◌∙◌, ap, subst}
use Rattle.std.specs.Prelude.{MatchResult}
use Rattle.std.proofs.lemmas.Option.{slice_get-get_or}
use Rattle.tl_types.specs.declared.channel.Channel.TheVariants.{B}
use Rattle.tl_types.specs.declared.message.Body.TheVariants.{Upward as b_Upward}
use Rattle.tl_types.specs.declared.message.Message.{Message}
use Rattle.tl_types.specs.declared.message.ProbeAnswer.{ProbeAnswer}
use Rattle.tl_types.specs.declared.message.Surrender.{Surrender}
use Rattle.tl_types.specs.declared.message.Upward.TheVariants.{ProbeAck, Release}
use Rattle.tl_types.specs.declared.permission.Prune.{Prune}
use Rattle.tl_types.specs.declared.ticket.Ticket.{Ticket}
use Rattle.tl_protocol.specs.declared.event.Event.{Event}
use Rattle.tl_protocol.specs.declared.event.Event.TheVariants as event
use Rattle.tl_script_words.specs.declared.step.Step.{Step}
use Rattle.tl_script_words.specs.declared.step.Step.TheVariants as step
use Rattle.tl_script_words.specs.declared.step.TicketCall.TheVariants.{AnswerProbe}
use Rattle.tl_bank.specs.Would.{WouldSend}
use Rattle.tl_bank_spec.specs.Calls.{answer_probe_cases, release_cases}
use Rattle.tl_bank_spec.specs.Cases.{block_named}
use Rattle.tl_bank_spec.specs.Refusal.{first_of}
use Rattle.tl_bank_spec.specs.Share.{ShareView}
use Rattle.tl_bank_spec.specs.View.{View}
use Rattle.tl_bank_spec.specs.declared.refusal.Refusal.{Refusal}
use Rattle.tl_trace.specs.NetworkState.{NetworkState, SharedBankState, bank_asked, client_named, share_place}
use Rattle.tl_trace.specs.Would.{WouldComeTo, WouldRefuseAt, WouldSendAt}

-- the share that was looked at is that of the client
pub share-found : (s : SharedBankState) (client place : ℕ) (shown : List ShareView) (share : ShareView) → place ≡ share_place s.shares client
    → place < length s.shares → shown ≡ s.shares → share ≡ get_or shown place share
    → slice_get s.shares (share_place s.shares client) ≡ Some share
share-found s client place shown share at inside is of =
    let held : share ≡ get_or s.shares place share = of ∙ ap (λ (xs : List ShareView). get_or xs place share) is in
    subst (λ (n : ℕ). slice_get s.shares n ≡ Some share) at
    (slice_get-get_or s.shares place share inside ∙ ap (λ (x : ShareView). Some x) (sym held))

-- a Release that the bank foresees
pub release-foreseen : (s : SharedBankState) (v : View) (share : ShareView) (client block : ℕ) (prune : Prune) (given : Surrender) (message : Message)
    → v ≡ s.bank → slice_get s.shares (share_place s.shares client) ≡ Some share → first_of (release_cases v client block prune share) ≡ None
    → WouldSend v (event.SendRelease client block prune) (b_Upward (Release given))
    → message ≡ record { block = block; body = b_Upward (Release given) } → (clock : ℕ)
    → WouldSendAt s clock (step.Release client block prune) message
release-foreseen s v share client block prune given message is found none sends made clock =
    let e : Event = event.SendRelease client block prune in
    record {
      share = share;
      is_share = found;
      permitted = subst (λ (w : View). first_of (release_cases w client block prune share) ≡ None) is none;
      event = e;
      is_event = refl;
      block = ap (λ (m : Message). m.block) made;
      sends =
          subst (λ (m : Message). WouldSend s.bank e m.body) (sym made)
          (subst (λ (w : View). WouldSend w e (b_Upward (Release given))) is sends);
    }

-- an answer that it foresees
pub answer-foreseen : (s : SharedBankState) (v : View) (share : ShareView) (ticket : Ticket) (block : ℕ) (answer : ProbeAnswer) (message : Message)
    → v ≡ s.bank → slice_get s.shares (share_place s.shares ticket.client) ≡ Some share → first_of (answer_probe_cases v ticket share) ≡ None
    → block ≡ block_named v ticket B → WouldSend v (event.AnswerProbe ticket.client block) (b_Upward (ProbeAck answer))
    → message ≡ record { block = block; body = b_Upward (ProbeAck answer) } → (clock : ℕ)
    → WouldSendAt s clock (step.Ticket AnswerProbe ticket) message
answer-foreseen s v share ticket block answer message is found none named sends made clock =
    let e : Event = event.AnswerProbe ticket.client block in
    record {
      share = share;
      is_share = found;
      permitted = subst (λ (w : View). first_of (answer_probe_cases w ticket share) ≡ None) is none;
      event = e;
      is_event =
          ap (λ (n : ℕ). Some (event.AnswerProbe ticket.client n))
          (sym (named ∙ ap (λ (w : View). block_named w ticket B) is));
      block = ap (λ (m : Message). m.block) made;
      sends =
          subst (λ (m : Message). WouldSend s.bank e m.body) (sym made)
          (subst (λ (w : View). WouldSend w e (b_Upward (ProbeAck answer))) is sends);
    }

-- a Release that it foresees to be refused
pub release-refused : (s : SharedBankState) (v : View) (share : ShareView) (client block : ℕ) (prune : Prune) (refusal : Refusal)
    → v ≡ s.bank → slice_get s.shares (share_place s.shares client) ≡ Some share
    → first_of (release_cases v client block prune share) ≡ Some refusal → (clock : ℕ)
    → WouldRefuseAt s clock (step.Release client block prune) refusal
release-refused s v share client block prune refusal is found first clock = record {
  share = share;
  is_share = found;
  first = subst (λ (w : View). first_of (release_cases w client block prune share) ≡ Some refusal) is first;
}

-- an answer, likewise
pub answer-refused : (s : SharedBankState) (v : View) (share : ShareView) (ticket : Ticket) (refusal : Refusal) → v ≡ s.bank
    → slice_get s.shares (share_place s.shares ticket.client) ≡ Some share → first_of (answer_probe_cases v ticket share) ≡ Some refusal
    → (clock : ℕ) → WouldRefuseAt s clock (step.Ticket AnswerProbe ticket) refusal
answer-refused s v share ticket refusal is found first clock = record {
  share = share;
  is_share = found;
  first = subst (λ (w : View). first_of (answer_probe_cases w ticket share) ≡ Some refusal) is first;
}

-- what one bank foresees, of all of them
pub come-to : (old : NetworkState) (asked : Step) (outcome : Result Message Refusal) (place : ℕ) (s : SharedBankState)
    → place ≡ bank_asked old.geometry asked → place < length old.shared_banks → s ≡ get_or old.shared_banks place s
    → MatchResult outcome (λ message. (clock : ℕ) → WouldSendAt s clock asked message) (λ refusal. (clock : ℕ) → WouldRefuseAt s clock asked refusal)
    → WouldComeTo old asked outcome
come-to old asked (Ok message) place s at inside is foresees = record {
  shared_bank = s;
  is_site =
      subst (λ (n : ℕ). slice_get old.shared_banks n ≡ Some s) at
      (slice_get-get_or old.shared_banks place s inside ∙ ap (λ (x : SharedBankState). Some x) (sym is));
  sends = foresees (slice_index old.clocks (client_named asked));
}
come-to old asked (Err refusal) place s at inside is foresees = record {
  shared_bank = s;
  is_site =
      subst (λ (n : ℕ). slice_get old.shared_banks n ≡ Some s) at
      (slice_get-get_or old.shared_banks place s inside ∙ ap (λ (x : SharedBankState). Some x) (sym is));
  refuses = foresees (slice_index old.clocks (client_named asked));
}
