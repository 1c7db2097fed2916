-- What a step leaves of a bank: the log as it was, or with one event more, and then only the block of that event lies elsewhere.
use Rattle.std.proofs.Common.{◌≡◌, ◌≢◌, ℕ, ◌==◌, ◌⊎◌, false, List, Option, Some, None, refl, ap, ◌∙◌, inl, inr}
use Rattle.std.proofs.lemmas.Bool.{ne_eqb}
use Rattle.tl_types.specs.declared.ticket.Ticket.{Ticket}
use Rattle.tl_map.specs.Numbers.{Numbers}
use Rattle.tl_protocol.specs.Protocol.{block_of}
use Rattle.tl_protocol.specs.declared.event.Event.{Event}
use Rattle.tl_registers.specs.Fit.{event_of}
use Rattle.tl_registers.specs.declared.due.Due.{Due}
use Rattle.tl_registers.specs.declared.due.Due.TheVariants.{Probe as due_Probe, Grant as due_Grant, Get as due_Get, Put as due_Put, Drop as due_Drop}
use Rattle.tl_registers.specs.declared.register.Register.{Register}
use Rattle.tl_script_words.specs.declared.step.BlockCall.{BlockCall}
use Rattle.tl_script_words.specs.declared.step.BlockCall.TheVariants.{Advance, Evict, ServeMemory, TakeMemory}
use Rattle.tl_script_words.specs.declared.step.Step.{Step}
use Rattle.tl_script_words.specs.declared.step.Step.TheVariants as step
use Rattle.tl_script_words.specs.declared.step.TicketCall.{TicketCall}
use Rattle.tl_script_words.specs.declared.step.TicketCall.TheVariants.{AnswerProbe, TakeGrant, TakeReleaseAck, Accept, TakeC, TakeGrantAck}
use Rattle.tl_bank_spec.specs.Effects.{AppendsWith, TakesMemory, registers_after, ways_after, ways_without}
use Rattle.tl_bank_spec.specs.Own.{way_at}
use Rattle.tl_bank_spec.specs.Refusal.{first_of}
use Rattle.tl_bank_spec.specs.Share.{ShareView}
use Rattle.tl_bank_spec.specs.Steps.{Appends, Extends}
use Rattle.tl_bank_spec.specs.View.{View, shape_of}
use Rattle.tl_bank_spec.specs.declared.refusal.Refusal.{Refusal}
use Rattle.tl_bank_spec.proofs.Logged.{extends-appends, extends-serves}
use Rattle.tl_text.specs.declared.answer.Answer.{Answer}
use Rattle.tl_trace.specs.Answers.{Answers}
use Rattle.tl_trace.specs.Steps.{BlockDoes, Does, IsStep, Scene, TicketDoes, cases_of}

-- The log stayed, and each block lies where it lay.
pub record Stays (old new : View) : Type 0 where
  pub geometry : new.geometry ≡ old.geometry
  pub number : new.number ≡ old.number
  pub image : new.image ≡ old.image
  pub log : new.log ≡ old.log
  pub ways : (block : ℕ) → way_at new block ≡ way_at old block

-- The log has one event more, and each block but that of the event lies where it lay.
pub record Goes (old new : View) (e : Event) : Type 0 where
  pub extends : Extends old new e
  pub ways : (block : ℕ) → block ≢ block_of (shape_of old.geometry) e → way_at new block ≡ way_at old block

-- one or the other
abbrev pub Moves : View → View → Type 0
Moves old new = Stays old new ⊎ ((e : Event) × Goes old new e)

-- ## What a call leaves

-- at most the registers changed
stays : (old new : View) (registers : List Register) → new ≡ record old { registers = registers } → Moves old new
stays old new registers is = inl (record {
  geometry = ap (λ (v : View). v.geometry) is;
  number = ap (λ (v : View). v.number) is;
  image = ap (λ (v : View). v.image) is;
  log = ap (λ (v : View). v.log) is;
  ways = λ block. ap (λ (v : View). way_at v block) is;
})

-- one event more
appends : (old new : View) (e : Event) → Appends old new e → Moves old new
appends old new e a = inr (
  e,
  record { extends = extends-appends old new e a; ways = λ block ne. ap (λ (v : View). way_at v block) a.is },
)

-- one event more, with other registers and ways
serves : (old new : View) (e : Event) (registers : List Register) (lies : ℕ → Option ℕ) → AppendsWith old new e registers lies
    → ((block : ℕ) → block ≢ block_of (shape_of old.geometry) e → lies block ≡ way_at old block) → Moves old new
serves old new e registers lies s same = inr (
  e,
  record { extends = extends-serves old new e registers lies s; ways = λ block ne. s.ways block ∙ same block ne },
)

-- a block that leaves its way leaves the others where they are
ways_without-other : (gone : ℕ) (ways : ℕ → Option ℕ) (block : ℕ) → block ≢ gone → ways_without gone ways block ≡ ways block
ways_without-other gone ways block ne = let fails : (block == gone) ≡ false = ne_eqb block gone ne in rw fails refl

-- the action of a register
advances : (old new : View) (own : ℕ) (due : Due)
    → AppendsWith old new (event_of own due) (registers_after own due old.registers) (ways_after due (way_at old)) → Moves old new
advances old new own (due_Probe client block cap) s =
    serves old new (event_of own (due_Probe client block cap)) (registers_after own (due_Probe client block cap) old.registers) (way_at old) s
    (λ b ne. refl)
advances old new own (due_Grant client) s =
    serves old new (event_of own (due_Grant client)) old.registers (way_at old) s (λ b ne. refl)
advances old new own due_Get s = serves old new (event_of own due_Get) old.registers (way_at old) s (λ b ne. refl)
advances old new own (due_Put block) s =
    serves old new (event_of own (due_Put block)) old.registers (ways_without block (way_at old)) s (ways_without-other block (way_at old))
advances old new own (due_Drop block) s =
    serves old new (event_of own (due_Drop block)) (registers_after own (due_Drop block) old.registers) (ways_without block (way_at old)) s
    (ways_without-other block (way_at old))

-- what the memory answered is taken: bytes come into the way of their block's register
takes : (old new : View) (block : ℕ) → TakesMemory old new block → Moves old new
takes old new block (inl t) =
    serves old new _ _ _ t.serves (λ b ne. let fails : (b == block) ≡ false = ne_eqb b block ne in rw fails refl)
takes old new block (inr t) = serves old new _ _ _ t.serves (λ b ne. refl)

-- ## What a step leaves

-- a call with a ticket
ticket-moves : (call : TicketCall) (ticket : Ticket) (old new : View) (before after : ShareView) (answer : Answer)
    → TicketDoes call ticket old new before after answer → Moves old new
ticket-moves AnswerProbe ticket old new before after answer d = appends old new _ d.0.appends
ticket-moves TakeGrant ticket old new before after answer d = appends old new _ d.0.appends
ticket-moves TakeReleaseAck ticket old new before after answer d = appends old new _ d.0.appends
ticket-moves Accept ticket old new before after answer d = serves old new _ _ _ d.0.accepts.serves (λ b ne. refl)
ticket-moves TakeC ticket old new before after answer d = serves old new _ _ _ d.0.serves (λ b ne. refl)
ticket-moves TakeGrantAck ticket old new before after answer d = serves old new _ _ _ d.0.serves (λ b ne. refl)

-- a call with a block
block-moves : (call : BlockCall) (block : ℕ) (old new : View) (answer : Answer) → BlockDoes call block old new answer → Moves old new
block-moves Advance block old new answer d = advances old new block d.advances.due d.advances.serves
block-moves Evict block old new answer d = stays old new _ d.evicts.is
block-moves ServeMemory block old new answer d = serves old new _ _ _ d.serves (λ b ne. refl)
block-moves TakeMemory block old new answer d = takes old new block d.takes

-- a step that is not refused
does-moves : (index : ℕ) (asked : Step) (old new : Scene) (answer : Answer) → Does index asked old new answer → Moves old.bank new.bank
does-moves index (step.Load client address len) old new answer d = appends old.bank new.bank _ d.0.appends
does-moves index (step.Store client address bytes) old new answer d = appends old.bank new.bank _ d.0.appends
does-moves index (step.Acquire client block grow) old new answer d = appends old.bank new.bank _ d.0.appends
does-moves index (step.Release client block prune) old new answer d = appends old.bank new.bank _ d.0.appends
does-moves index (step.Ticket call ticket) old new answer d = ticket-moves call ticket old.bank new.bank old.share new.share answer d.0
does-moves index (step.Block call block) old new answer d = block-moves call block old.bank new.bank answer d.0

-- what follows of a step that is refused, and of one that is not, follows of each
either : (first : Option Refusal) (unchanged done moves : Type 0) (answer : Answer) → (unchanged → moves) → (done → moves)
    → Answers first unchanged done answer → moves
either None unchanged done moves answer f g h = g h
either (Some refusal) unchanged done moves answer f g h = f h.0

-- a step
pub step-moves : (index : ℕ) (asked : Step) (old new : Scene) (answer : Answer) → IsStep index asked old new answer
    → Moves old.bank new.bank
step-moves index asked old new answer h =
    either (first_of (cases_of old asked)) (new ≡ old) (Does index asked old new answer) (Moves old.bank new.bank) answer
    (λ same. stays old.bank new.bank old.bank.registers (ap (λ (s : Scene). s.bank) same)) (does-moves index asked old new answer) h
