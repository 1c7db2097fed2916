-- What each call leaves of the logs.
use Rattle.std.proofs.Common.{◌≡◌, inl, inr, ℕ, List, [], ◌∷◌, ◌++◌, Option, Some, None, sym, ◌∙◌, ap, append_assoc}
use Rattle.std.proofs.lemmas.List.{append-nil}
use Rattle.tl_protocol.specs.declared.event.Event.{Event}
use Rattle.tl_registers.specs.declared.register.Register.{Register}
use Rattle.tl_bank_spec.specs.Effects.{Evicts, AppendsWith, TakesMemory}
use Rattle.tl_bank_spec.specs.Refusal.{first_of}
use Rattle.tl_bank_spec.specs.Share.{ShareView}
use Rattle.tl_bank_spec.specs.Steps.{Appends}
use Rattle.tl_bank_spec.specs.View.{View}
use Rattle.tl_bank_spec.specs.declared.refusal.Refusal.{Refusal}
use Rattle.tl_script_words.specs.declared.step.BlockCall.{BlockCall}
use Rattle.tl_script_words.specs.declared.step.BlockCall.TheVariants.{Advance, Evict, ServeMemory, TakeMemory}
use Rattle.tl_script_words.specs.declared.step.Step.{Step}
use Rattle.tl_script_words.specs.declared.step.Step.TheVariants as step
use Rattle.tl_script_words.specs.declared.step.TicketCall.{TicketCall}
use Rattle.tl_script_words.specs.declared.step.TicketCall.TheVariants.{AnswerProbe, TakeGrant, TakeReleaseAck, Accept, TakeC, TakeGrantAck}
use Rattle.tl_types.specs.declared.ticket.Ticket.{Ticket}
use Rattle.tl_text.specs.declared.answer.Answer.{Answer}
use Rattle.tl_trace.specs.Answers.{Answers}
use Rattle.tl_trace.specs.Steps.{BlockDoes, Does, IsStep, Scene, TicketDoes, cases_of}
use Rattle.tl_embed.specs.Histories.{IsLater}

-- ## One bank

-- a bank that is as it was
pub same-later : (old new : View) → new ≡ old → IsLater old new
same-later old new is = record {
  geometry = ap (λ (v : View). v.geometry) is;
  number = ap (λ (v : View). v.number) is;
  image = ap (λ (v : View). v.image) is;
  since = [];
  log = ap (λ (v : View). v.log) is ∙ sym (append-nil old.log);
}

-- a bank with one event more
appends-later : (old new : View) (event : Event) → Appends old new event → IsLater old new
appends-later old new event h = record {
  geometry = ap (λ (v : View). v.geometry) h.is;
  number = ap (λ (v : View). v.number) h.is;
  image = ap (λ (v : View). v.image) h.is;
  since = event ∷ [];
  log = ap (λ (v : View). v.log) h.is;
}

-- the same where registers and ways changed
serves-later : (old new : View) (event : Event) (registers : List Register) (lies : ℕ → Option ℕ) → AppendsWith old new event registers lies
    → IsLater old new
serves-later old new event registers lies h = record {
  geometry = ap (λ (v : View). v.geometry) h.is;
  number = ap (λ (v : View). v.number) h.is;
  image = ap (λ (v : View). v.image) h.is;
  since = event ∷ [];
  log = ap (λ (v : View). v.log) h.is;
}

-- a bank where a register opened, with no event
evicts-later : (old new : View) (block : ℕ) → Evicts old new block → IsLater old new
evicts-later old new block h = record {
  geometry = ap (λ (v : View). v.geometry) h.is;
  number = ap (λ (v : View). v.number) h.is;
  image = ap (λ (v : View). v.image) h.is;
  since = [];
  log = ap (λ (v : View). v.log) h.is ∙ sym (append-nil old.log);
}

-- what the memory answered was taken
memory-later : (old new : View) (block : ℕ) → TakesMemory old new block → IsLater old new
memory-later old new block (inl h) = serves-later old new _ _ _ h.serves
memory-later old new block (inr h) = serves-later old new _ _ _ h.serves

-- twice later
pub later-twice : (a b c : View) → IsLater a b → IsLater b c → IsLater a c
later-twice a b c h k = record {
  geometry = k.geometry ∙ h.geometry;
  number = k.number ∙ h.number;
  image = k.image ∙ h.image;
  since = h.since ++ k.since;
  log = k.log ∙ ap (λ (log : List Event). log ++ k.since) h.log ∙ append_assoc a.log h.since k.since;
}

-- ## A step

-- a call with a ticket
ticket-later : (call : TicketCall) (ticket : Ticket) (old new : View) (before after : ShareView) (answer : Answer)
    → TicketDoes call ticket old new before after answer → IsLater old new
ticket-later AnswerProbe ticket old new before after answer h = appends-later old new _ h.0.appends
ticket-later TakeGrant ticket old new before after answer h = appends-later old new _ h.0.appends
ticket-later TakeReleaseAck ticket old new before after answer h = appends-later old new _ h.0.appends
ticket-later Accept ticket old new before after answer h = serves-later old new _ _ _ h.0.accepts.serves
ticket-later TakeC ticket old new before after answer h = serves-later old new _ _ _ h.0.serves
ticket-later TakeGrantAck ticket old new before after answer h = serves-later old new _ _ _ h.0.serves

-- a call with a block
block-later : (call : BlockCall) (block : ℕ) (old new : View) (answer : Answer) → BlockDoes call block old new answer → IsLater old new
block-later Advance block old new answer h = serves-later old new _ _ _ h.advances.serves
block-later Evict block old new answer h = evicts-later old new block h.evicts
block-later ServeMemory block old new answer h = serves-later old new _ _ _ h.serves
block-later TakeMemory block old new answer h = memory-later old new block h.takes

-- a step that is done
does-later : (index : ℕ) (s : Step) (old new : Scene) (answer : Answer) → Does index s old new answer → IsLater old.bank new.bank
does-later index (step.Load client address len) old new answer h = appends-later old.bank new.bank _ h.0.appends
does-later index (step.Store client address bytes) old new answer h = appends-later old.bank new.bank _ h.0.appends
does-later index (step.Acquire client block grow) old new answer h = appends-later old.bank new.bank _ h.0.appends
does-later index (step.Release client block prune) old new answer h = appends-later old.bank new.bank _ h.0.appends
does-later index (step.Ticket call ticket) old new answer h =
    ticket-later call ticket old.bank new.bank old.share new.share answer h.0
does-later index (step.Block call block) old new answer h = block-later call block old.bank new.bank answer h.0

-- a step that is refused or done
answers-later : (first : Option Refusal) (index : ℕ) (s : Step) (old new : Scene) (answer : Answer)
    → Answers first (new ≡ old) (Does index s old new answer) answer → IsLater old.bank new.bank
answers-later None index s old new answer h = does-later index s old new answer h
answers-later (Some refusal) index s old new answer h = same-later old.bank new.bank (ap (λ (c : Scene). c.bank) h.0)

-- a step
pub step-later : (index : ℕ) (s : Step) (old new : Scene) (answer : Answer) → IsStep index s old new answer → IsLater old.bank new.bank
step-later index s old new answer h = answers-later (first_of (cases_of old s)) index s old new answer h
