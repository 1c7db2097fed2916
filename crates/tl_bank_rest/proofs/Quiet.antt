-- When a bank is quiet: where nothing is left to take, and nowhere else.
use Rattle.std.proofs.Common.{◌≡◌, ◌≢◌, ℕ, ◌<◌, not, Bool, true, false, List, [], ◌∷◌, ◌++◌, Option, Some, None, is_none, slice_get, if◌then◌else◌, refl, sym, ◌∙◌, ap, arith, inl, inr}
use Rattle.std.specs.Prelude.{IfSome}
use Rattle.std.proofs.lemmas.Bool.{or_parts}
use Rattle.std.proofs.lemmas.Bool.Decides.{nat_tests}
use Rattle.tl_types.specs.Bodies.{is_a_grant}
use Rattle.tl_types.specs.declared.channel.Channel.{Channel}
use Rattle.tl_types.specs.declared.channel.Channel.TheVariants.{A, B, C, D, E}
use Rattle.tl_types.specs.declared.message.Body.{Body}
use Rattle.tl_types.specs.declared.ticket.Ticket.{Ticket}
use Rattle.tl_types.specs.declared.wait.Awaited.{Awaited}
use Rattle.tl_types.specs.declared.wait.Awaited.TheVariants.{Nothing, ForGrant, ForReleaseAck}
use Rattle.tl_protocol.proofs.Awaiting.{every_wait_is_heard}
use Rattle.tl_protocol.specs.Awaiting.{IsHeard}
use Rattle.tl_protocol.specs.Protocol.{Block}
use Rattle.tl_protocol_lanes.specs.Lawful.{Lawful}
use Rattle.tl_registers.specs.Agree.{Agree}
use Rattle.tl_registers.specs.Registers.{due_of, is_busy, register_of}
use Rattle.tl_registers.specs.declared.register.Register.{Register}
use Rattle.tl_bank_spec.proofs.Named.{every_ticket_names_the_first}
use Rattle.tl_bank_spec.specs.Calls.{shared_ticket_cases, ticket_cases}
use Rattle.tl_bank_spec.specs.Cases.{any_body, awaits_release_ack, bad_share, block_named, is_a_release_ack, link_full, no_client, release_pending}
use Rattle.tl_bank_spec.specs.Channels.{lane_at}
use Rattle.tl_bank_spec.specs.Delivered.{NamesFirst}
use Rattle.tl_bank_spec.specs.HomeCalls.{advance_cases, serve_memory_cases, take_memory_cases}
use Rattle.tl_bank_spec.specs.HomeCases.{answer_full, busy, due_at, is_reply, is_request, no_register}
use Rattle.tl_bank_spec.specs.Kept.{ServesByRegisters, accepted_by}
use Rattle.tl_bank_spec.specs.Refusal.{Case, first_of}
use Rattle.tl_bank_spec.specs.Share.{ShareView}
use Rattle.tl_bank_spec.specs.View.{View, client_at, end_at, shape_of}
use Rattle.tl_bank_spec.specs.Views.{IsQuiet}
use Rattle.tl_bank_spec.specs.declared.refusal.Refusal.{Refusal}
use Rattle.tl_bank_spec.specs.declared.refusal.Refusal.TheVariants.{BlockBusy, LinkFull, NoRegister, ReleasePending}
use Rattle.tl_bank_rest.proofs.Acting.{own-is}
use Rattle.tl_bank_rest.proofs.Cases.{NoneHolds}
use Rattle.tl_bank_rest.proofs.Empty.{a-empty, c-empty, d-empty}
use Rattle.tl_bank_rest.specs.Heads.{AllTaken, IsEmpty}
use Rattle.tl_bank_rest.specs.Shares.{share_of}
use Rattle.tl_bank_rest.specs.Taken.{IsTaken}
use Rattle.tl_bank_rest.specs.declared.receiving.Receiving.{Receiving}
use Rattle.tl_bank_rest.specs.declared.receiving.Receiving.TheVariants.{TakeGrantAck, TakeGrant, TakeReleaseAck, TakeC, AnswerProbe, ServeMemory, TakeMemory, Advance, Accept}

-- ## A call that is not refused has something to take

-- where there is no first refusal, the first case does not hold, and there is none among the rest
first-false : (refusal : Refusal) (t : Bool) (rest : List Case) → (if t then Some refusal else first_of rest) ≡ None
    → (t ≡ false) × (first_of rest ≡ None)
first-false refusal true rest h = cc
first-false refusal false rest h = (refl, h)

-- where there is no first refusal, no case holds
pub none-holds : (cases : List Case) → first_of cases ≡ None → NoneHolds cases
none-holds [] h = tt
none-holds (x ∷ rest) h =
    let both : (x.0 ≡ false) × (first_of rest ≡ None) = first-false x.1 x.0 rest h in
    (both.0, none-holds rest both.1)

-- a client that is found to be there is
pub client-is : (v : View) (client : ℕ) → no_client v client ≡ false → client < v.geometry.clients
client-is v client h = grind (arith, nat_tests)

-- in a quiet bank no ticket names a first message
first-busy : (v : View) (ticket : Ticket) (channel : Channel) (kind : Body → Bool) → IsQuiet v → ticket.client < v.geometry.clients
    → NamesFirst v ticket channel kind → ⊥
first-busy v ticket channel kind quiet lt first =
    let none = quiet.messages ticket.client lt channel in
    let bad : first.message ∷ first.rest ≡ [] = sym first.first ∙ none in
    cc

-- so one that is not refused is of a bank that is not quiet
ticket-busy : (v : View) (ticket : Ticket) (channel : Channel) (kind : Body → Bool) (more : List Case)
    → first_of (ticket_cases v ticket channel kind ++ more) ≡ None → IsQuiet v → ⊥
ticket-busy v ticket channel kind more none quiet =
    let f : NoneHolds (ticket_cases v ticket channel kind ++ more) = none-holds (ticket_cases v ticket channel kind ++ more) none in
    first-busy v ticket channel kind quiet (client-is v ticket.client f.0)
    ((every_ticket_names_the_first v ticket channel kind more).0 none)

-- with a share too
shared-busy : (v : View) (ticket : Ticket) (share : ShareView) (channel : Channel) (kind : Body → Bool) (more : List Case)
    → first_of (shared_ticket_cases v ticket share channel kind ++ more) ≡ None → IsQuiet v → ⊥
shared-busy v ticket share channel kind more none quiet =
    let f : NoneHolds (shared_ticket_cases v ticket share channel kind ++ more) =
    none-holds (shared_ticket_cases v ticket share channel kind ++ more) none in
    let client = or_parts (no_client v ticket.client) (bad_share v ticket.client share) f.0 in
    first-busy v ticket channel kind quiet (client-is v ticket.client client.0)
    ((every_ticket_names_the_first v ticket channel kind more).1 share none)

-- in a quiet bank the memory has no request
serve-busy : (v : View) (block : ℕ) → first_of (serve_memory_cases v block) ≡ None → IsQuiet v → ⊥
serve-busy v block none quiet =
    let f : NoneHolds (serve_memory_cases v block) = none-holds (serve_memory_cases v block) none in
    let still = quiet.outward block (own-is v block f.0 f.1.0) in
    let asks : not (is_request (end_at v block).outward) ≡ false = f.1.1.0 in
    let bad : true ≡ false = rw still at asks in
    cc

-- and no answer
take-busy : (v : View) (block : ℕ) → first_of (take_memory_cases v block) ≡ None → IsQuiet v → ⊥
take-busy v block none quiet =
    let f : NoneHolds (take_memory_cases v block) = none-holds (take_memory_cases v block) none in
    let still = quiet.outward block (own-is v block f.0 f.1.0) in
    let came : not (is_reply (end_at v block).outward) ≡ false = f.1.1.0 in
    let bad : true ≡ false = rw still at came in
    cc

-- no register acts
advance-busy : (v : View) (block : ℕ) → first_of (advance_cases v block) ≡ None → IsQuiet v → ⊥
advance-busy v block none quiet =
    let f : NoneHolds (advance_cases v block) = none-holds (advance_cases v block) none in
    let acts : is_none (due_at v block) ≡ false = f.1.1.0 in
    let waits : is_none (due_at v block) ≡ true =
    ap (λ (xs : List Register). is_none (due_of (shape_of v.geometry) (end_at v) (register_of block xs))) quiet.registers in
    let bad : true ≡ false = sym waits ∙ acts in
    cc

-- so a quiet bank takes nothing
pub taken-busy : (v : View) (call : Receiving) → IsTaken v call → IsQuiet v → ⊥
taken-busy v (TakeGrantAck ticket) h quiet = ticket-busy v ticket E any_body [] h quiet
taken-busy v (TakeGrant ticket) h quiet =
    shared-busy v ticket (share_of v ticket.client) D is_a_grant ((link_full v ticket.client E, LinkFull) ∷ []) h quiet
taken-busy v (TakeReleaseAck ticket) h quiet = ticket-busy v ticket D is_a_release_ack [] h quiet
taken-busy v (TakeC ticket) h quiet = ticket-busy v ticket C any_body ((answer_full v ticket, LinkFull) ∷ []) h quiet
taken-busy v (AnswerProbe ticket) h quiet =
    shared-busy v ticket (share_of v ticket.client) B any_body
    ((release_pending v ticket.client (block_named v ticket B), ReleasePending) ∷ (link_full v ticket.client C, LinkFull) ∷ []) h quiet
taken-busy v (ServeMemory block) h quiet = serve-busy v block h quiet
taken-busy v (TakeMemory block) h quiet = take-busy v block h quiet
taken-busy v (Advance block) h quiet = advance-busy v block h quiet
taken-busy v (Accept ticket) h quiet =
    ticket-busy v ticket A any_body
    ((busy v (block_named v ticket A), BlockBusy) ∷ (no_register v (block_named v ticket A), NoRegister) ∷ []) h quiet

-- what is taken, where anything is, is nothing in a quiet bank
pub none-taken : (v : View) (call : Option Receiving) → IfSome call (λ k. IsTaken v k) → IsQuiet v → call ≡ None
none-taken v None h quiet = refl
none-taken v (Some call) h quiet = absurd (taken-busy v call h quiet)

-- ## The oldest register

-- the first of some registers is the oldest
pub oldest-is : (xs : List Register) (r : Register) → slice_get xs 0 ≡ Some r → (rest : List Register) × (xs ≡ r ∷ rest)
oldest-is [] r h = cc
oldest-is (x ∷ rest) r h = let same : x ≡ r = cc in (rest, ap (λ (y : Register). y ∷ rest) same)

-- where there is no first one there is none
pub none-open : (xs : List Register) → slice_get xs 0 ≡ None → xs ≡ []
none-open [] h = refl
none-open (x ∷ rest) h = cc

-- ## Who waits

-- a client of which nothing of a block is on C and D waits for no ReleaseAck of it
not-acked : (s : Block) (x : ℕ) → IsHeard s x → (s.client x).c ≡ [] → (s.client x).d ≡ [] → (s.client x).wait ≢ ForReleaseAck
not-acked s x heard c d w =
    elim (heard.ack w) [
      | inl e ↦ let bad : false ≡ true = rw c at e in cc
      | inr e ↦ let bad : false ≡ true = rw d at e in cc
    ]

-- nor for a Grant, where home serves no Acquire and nothing is on A either
not-granted : (s : Block) (x : ℕ) → IsHeard s x → (s.client x).a ≡ [] → (s.client x).d ≡ [] → s.accepted ≡ None
    → (s.client x).wait ≢ ForGrant
not-granted s x heard a d none w =
    elim (heard.grant w) [
      | inl e ↦ absurd (e a)
      | inr more ↦ elim more [
        | inl e ↦ let bad : None ≡ Some e.0 = sym none ∙ e.1 in cc
        | inr e ↦ let bad : false ≡ true = rw d at e in cc
      ]
    ]

-- who waits neither for a Grant nor for a ReleaseAck waits for nothing
waits-nothing : (w : Awaited) → w ≢ ForGrant → w ≢ ForReleaseAck → w ≡ Nothing
waits-nothing Nothing g r = refl
waits-nothing ForGrant g r = absurd (g refl)
waits-nothing ForReleaseAck g r = absurd (r refl)

-- the client of a Probe waits for no ReleaseAck where nothing is on C and D
release-none : (w : Awaited) → w ≢ ForReleaseAck → awaits_release_ack w ≡ false
release-none Nothing r = refl
release-none ForGrant r = refl
release-none ForReleaseAck r = absurd (r refl)

-- so no answer to a Probe is refused for it
pub no-release : (v : View) (client block : ℕ) → Lawful (shape_of v.geometry) v.image v.log
    → (lane_at v client C).messages ≡ [] → (lane_at v client D).messages ≡ [] → release_pending v client block ≡ false
no-release v client block lawful c d =
    release-none (client_at v client block).wait
    (not-acked (end_at v block) client (every_wait_is_heard (shape_of v.geometry) v.image v.log lawful.run block client)
    (c-empty v lawful client block c) (d-empty v lawful client block d))

-- ## Nothing is left

-- no message waits on a channel of a client
no-message : (v : View) (client : ℕ) → client < v.geometry.clients → AllTaken v → IsEmpty v A → (channel : Channel)
    → (lane_at v client channel).messages ≡ []
no-message v client lt silent a A = a client lt
no-message v client lt silent a B = silent.b client lt
no-message v client lt silent a C = silent.c client lt
no-message v client lt silent a D = silent.d client lt
no-message v client lt silent a E = silent.e client lt

-- a bank without a register and without a message is quiet
pub quiet-is : (v : View) → Lawful (shape_of v.geometry) v.image v.log → Agree (shape_of v.geometry) (end_at v) v.registers
    → ServesByRegisters v → v.registers ≡ [] → AllTaken v → IsEmpty v A → IsQuiet v
quiet-is v lawful agree serves none silent a =
    let idle : (block : ℕ) → (end_at v block).accepted ≡ None =
    λ block. serves block ∙ ap (λ (xs : List Register). accepted_by (register_of block xs)) none in
    record {
      registers = none;
      messages = λ client lt. no-message v client lt silent a;
      waits = λ client lt block own.
          let heard = every_wait_is_heard (shape_of v.geometry) v.image v.log lawful.run block client in
          let d = d-empty v lawful client block (silent.d client lt) in
          waits-nothing (client_at v client block).wait
          (not-granted (end_at v block) client heard (a-empty v lawful client block (a client lt)) d (idle block))
          (not-acked (end_at v block) client heard (c-empty v lawful client block (silent.c client lt)) d);
      outward = λ block own. (agree.at_rest block (ap (λ (xs : List Register). is_busy block xs) none)).quiet;
    }
