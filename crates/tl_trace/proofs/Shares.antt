-- The shares of a bank are its clients', whatever step is asked of it.
use Rattle.std.proofs.Common.{◌≡◌, ◌≢◌, ℕ, zero, suc, ◌+◌, ◌<◌, Bool, true, not, ◌||◌, if◌then◌else◌, List, [], ◌∷◌, length, set, get_or, Option, Some, None, Result, Ok, Err, OnErr, OnOk, IfErr, IfOk, nat_lt, slice_get, slice_set, refl, sym, ◌∙◌, ap, subst, arith, inl, inr, eq-eqb, length-append}
use Rattle.std.specs.List.{length_refill, refill}
use Rattle.std.proofs.lemmas.Bool.{cases_eq, ne_eqb, or_parts}
use Rattle.std.proofs.lemmas.Bool.Decides.{nat_tests}
use Rattle.std.proofs.lemmas.List.{get_or_append_left, get_or_push}
use Rattle.std.proofs.lemmas.Option.{get_or_from_slice_get}
use Rattle.tl_types.proofs.Counts.{count_below-change, count_below-none}
use Rattle.tl_types.specs.Count.{count_below}
use Rattle.tl_types.specs.declared.channel.Channel.TheVariants.{B, D}
use Rattle.tl_types.specs.declared.permission.Perm.{Perm}
use Rattle.tl_types.specs.declared.permission.Perm.TheVariants.{None as p_None, Branch, Tip}
use Rattle.tl_types.specs.declared.permission.Prune.{Prune}
use Rattle.tl_types.specs.declared.ticket.Ticket.{Ticket}
use Rattle.tl_map.specs.Numbers.{Numbers}
use Rattle.tl_protocol.specs.Ledger.{has_copy}
use Rattle.tl_protocol.specs.Protocol.{Block, after, block_of, is_none}
use Rattle.tl_protocol.specs.Runs.{IsRun, end_of}
use Rattle.tl_protocol.specs.declared.event.Event.{Event}
use Rattle.tl_protocol.specs.declared.event.Event.TheVariants as event
use Rattle.tl_protocol.specs.declared.shape.Shape.{Shape}
use Rattle.tl_protocol_lanes.specs.Lists.{IsOther}
use Rattle.tl_registers.specs.Fit.{event_of}
use Rattle.tl_registers.specs.declared.due.Due.{Due}
use Rattle.tl_registers.specs.declared.due.Due.TheVariants as due
use Rattle.tl_script_words.specs.declared.step.BlockCall.{BlockCall}
use Rattle.tl_script_words.specs.declared.step.BlockCall.TheVariants.{Advance, Evict, ServeMemory, TakeMemory}
use Rattle.tl_script_words.specs.declared.step.Step.{Step}
use Rattle.tl_script_words.specs.declared.step.Step.TheVariants as step
use Rattle.tl_script_words.specs.declared.step.TicketCall.{TicketCall}
use Rattle.tl_script_words.specs.declared.step.TicketCall.TheVariants.{AnswerProbe, TakeGrant, TakeReleaseAck, Accept, TakeC, TakeGrantAck}
use Rattle.tl_bank_spec.proofs.Counted.{every_event_leaves_other_counts}
use Rattle.tl_bank_spec.proofs.Logged.{block-next, extends-appends, extends-serves, may-next}
use Rattle.tl_bank_spec.specs.Calls.{release_cases}
use Rattle.tl_bank_spec.specs.Cases.{bad_share, block_named, no_block, no_client, other_share}
use Rattle.tl_bank_spec.specs.Counted.{client_counted}
use Rattle.tl_bank_spec.specs.Effects.{Evicts, TakesMemory}
use Rattle.tl_bank_spec.specs.Forbidden.{MayAt}
use Rattle.tl_bank_spec.specs.Refusal.{IsRefused, first_of}
use Rattle.tl_bank_spec.specs.Share.{ShareView, first_shares, recount, recounted}
use Rattle.tl_bank_spec.specs.Steps.{Extends, Forgets}
use Rattle.tl_bank_spec.specs.Tables.{copies_at}
use Rattle.tl_bank_spec.specs.View.{View, client_at, end_at, perm_at, shape_of}
use Rattle.tl_bank_spec.specs.declared.refusal.Refusal.{Refusal}
use Rattle.tl_bank_spec.specs.declared.refusal.Refusal.TheVariants.{Memory}
use Rattle.tl_bank_rest.proofs.Quiet.{client-is, none-holds}
use Rattle.tl_bank_rest.proofs.Received.{shares-set, shares-stay}
use Rattle.tl_bank_rest.proofs.Sharing.{all-pass, grant-client, none_refused, probe-client}
use Rattle.tl_bank_rest.specs.Rest.{Receives}
use Rattle.tl_bank_rest.specs.Shares.{AreShares, is_bad, is_other, share_in, share_of, shares_cases}
use Rattle.tl_text.specs.declared.answer.Answer.{Answer}
use Rattle.tl_text.specs.declared.answer.Answer.TheVariants.{Done, Loaded}
use Rattle.tl_trace.proofs.Places.{refill-whole}
use Rattle.tl_trace.proofs.Resets.{length-first_shares}
use Rattle.tl_trace.specs.Answers.{Answers}
use Rattle.tl_trace.specs.NetworkState.{SharedBankState, client_named, share_place}
use Rattle.tl_trace.specs.NetworkSteps.{IsStarvedAt, IsStepAt}
use Rattle.tl_trace.specs.Rests.{Takes}
use Rattle.tl_trace.specs.Steps.{BlockDoes, Does, Loads, Recounts, Scene, Stores, TicketDoes, cases_of}

-- ## Copies

-- the count after one copy changed is the one told anew from its permission before and later
recount-is : (before later : Perm) (n m : ℕ)
    → n + (if not (is_none later) then 1 else 0) ≡ m + (if not (is_none before) then 1 else 0) → m ≡ recount before later n
recount-is p_None p_None n m h = omega arith
recount-is p_None Branch n m h = omega arith
recount-is p_None Tip n m h = omega arith
recount-is Branch p_None n m h = omega arith
recount-is Branch Branch n m h = omega arith
recount-is Branch Tip n m h = omega arith
recount-is Tip p_None n m h = omega arith
recount-is Tip Branch n m h = omega arith
recount-is Tip Tip n m h = omega arith

-- the number of a client's copies after an event, told anew from what became of its copy of the event's block
counted-next : (old new : View) (e : Event) (c : ℕ) → Extends old new e → MayAt old e
    → copies_at new c
    ≡ recount (perm_at old c (block_of (shape_of old.geometry) e)) (perm_at new c (block_of (shape_of old.geometry) e)) (copies_at old c)
counted-next old new e c x may =
    let shape : Shape = shape_of old.geometry in
    let block : ℕ = block_of shape e in
    let n : ℕ = old.geometry.memory_blocks in
    let p : ℕ → Bool = λ b. has_copy (client_at old c b) in
    let q : ℕ → Bool = λ b. has_copy (client_at new c b) in
    let still : (b : ℕ) → b ≢ block → end_at new b ≡ end_at old b =
    λ b other.
    block-next old new e b x
    ∙ ap (λ (t : Bool). if t then after shape (end_at old b) e else end_at old b) (ne_eqb b block other) in
    let same : (b : ℕ) → b ≢ block → p b ≡ q b =
    λ b other. sym (ap (λ (s : Block). has_copy (s.client c)) (still b other)) in
    let change : count_below p n + (if q block then 1 else 0) ≡ count_below q n + (if p block then 1 else 0) =
    count_below-change p q n block may.0 same in
    ap (λ (g : Numbers). count_below q g.memory_blocks) x.geometry
    ∙ recount-is (perm_at old c block) (perm_at new c block) (count_below p n) (count_below q n) change

-- ## One call

-- a client's share is as it was where its number of copies is
share-same : (old new : View) (client : ℕ) → new.number ≡ old.number → copies_at new client ≡ copies_at old client
    → share_of new client ≡ share_of old client
share-same old new client number copies =
    ap (λ (n : ℕ). record { client = client; bank = n; count = copies_at new client }) number
    ∙ ap (λ (n : ℕ). record { client = client; bank = old.number; count = n }) copies

-- an event of no share's client leaves each client's number of copies
is-other : (counted : Option ℕ) (x : ℕ) → counted ≡ None → IsOther counted x
is-other None x e = tt
is-other (Some c) x e = cc

-- so the shares stay
kept-shares : (old new : View) (shares : List ShareView) (e : Event) → Extends old new e
    → IsRun (shape_of new.geometry) new.image new.log → client_counted e ≡ None → AreShares old shares → AreShares new shares
kept-shares old new shares e x run none own =
    shares-stay old new shares x.geometry
    (λ client. share-same old new client x.number
    (every_event_leaves_other_counts old new e client (may-next old new e x run) x (is-other (client_counted e) client none)))
    own

-- the client's share of an event is counted anew
own-counted : (old new : View) (e : Event) (client : ℕ) (share left : ShareView) → Extends old new e → MayAt old e
    → share ≡ share_of old client
    → left
    ≡ recounted (perm_at old client (block_of (shape_of old.geometry) e)) (perm_at new client (block_of (shape_of old.geometry) e)) share
    → left ≡ share_of new client
own-counted old new e client share left x may own counts =
    let block : ℕ = block_of (shape_of old.geometry) e in
    counts
    ∙ (ap (λ (s : ShareView). recounted (perm_at old client block) (perm_at new client block) s) own
    ∙ (ap (λ (n : ℕ). record { client = client; bank = old.number; count = n }) (sym (counted-next old new e client x may))
    ∙ ap (λ (n : ℕ). record { client = client; bank = n; count = copies_at new client }) (sym x.number)))

-- and the others stay
counted-shares : (old new : View) (shares : List ShareView) (e : Event) (client place : ℕ) (share left : ShareView) → Extends old new e
    → IsRun (shape_of new.geometry) new.image new.log → client_counted e ≡ Some client → client < old.geometry.clients → place ≡ client
    → share ≡ share_of old client
    → left
    ≡ recounted (perm_at old client (block_of (shape_of old.geometry) e)) (perm_at new client (block_of (shape_of old.geometry) e)) share
    → AreShares old shares → AreShares new (set shares place left)
counted-shares old new shares e client place share left x run of there at own counts given =
    let may : MayAt old e = may-next old new e x run in
    shares-set old new shares client place left x.geometry there at (own-counted old new e client share left x may own counts)
    (λ y apart. share-same old new y x.number
    (every_event_leaves_other_counts old new e y may x (subst (λ (o : Option ℕ). IsOther o y) (sym of) apart)))
    given

-- ## Places

-- what is in a place, written there again
set-again : {X : Type 0} (xs : List X) (place : ℕ) (x : X) → slice_get xs place ≡ Some x → slice_set xs place x ≡ xs
set-again [] place x h = refl
set-again (y ∷ xs) zero x h = let e : y ≡ x = cc in ap (λ z. z ∷ xs) (sym e)
set-again (y ∷ xs) (suc place) x h = ap (λ zs. y ∷ zs) (set-again xs place x h)

-- the place of a client that is there
place-is : (v : View) (shares : List ShareView) (client : ℕ) → AreShares v shares → client < v.geometry.clients
    → share_place shares client ≡ client
place-is v shares client own there =
    let many = own.as_many in
    let inside : nat_lt client (length shares) ≡ true = grind (arith, nat_tests) in
    rw inside refl

-- and the share in it
place-own : (v : View) (shares : List ShareView) (client : ℕ) (share : ShareView) → AreShares v shares → client < v.geometry.clients
    → slice_get shares (share_place shares client) ≡ Some share → share ≡ share_of v client
place-own v shares client share own there at =
    sym (get_or_from_slice_get shares client share share
    (subst (λ (n : ℕ). slice_get shares n ≡ Some share) (place-is v shares client own there) at))
    ∙ own.each client share there

-- the client of a Release that no case refuses is there
release-client : (v : View) (client block : ℕ) (prune : Prune) (share : ShareView)
    → first_of (release_cases v client block prune share) ≡ None → client < v.geometry.clients
release-client v client block prune share none =
    client-is v client
    (or_parts (no_client v client) (no_block v block)
    (or_parts (no_client v client || no_block v block) (bad_share v client share)
    (none-holds (release_cases v client block prune share) none).0).0).0

-- ## A step

-- the shares of a bank where no share is written
stays : (old new : Scene) (shares : List ShareView) (place : ℕ) → slice_get shares place ≡ Some old.share → new.share ≡ old.share
    → AreShares new.bank shares → AreShares new.bank (slice_set shares place new.share)
stays old new shares place at same own =
    subst (λ (xs : List ShareView). AreShares new.bank xs)
    (sym (set-again shares place new.share (at ∙ ap (λ (s : ShareView). Some s) (sym same)))) own

-- one event, and no share is written
event-stays : (old new : Scene) (shares : List ShareView) (place : ℕ) (e : Event) → Extends old.bank new.bank e
    → IsRun (shape_of new.bank.geometry) new.bank.image new.bank.log → client_counted e ≡ None → AreShares old.bank shares
    → slice_get shares place ≡ Some old.share → new.share ≡ old.share → AreShares new.bank (slice_set shares place new.share)
event-stays old new shares place e x run none own at same =
    stays old new shares place at same (kept-shares old.bank new.bank shares e x run none own)

-- one event that the client's share is counted anew by
event-counts : (old new : Scene) (shares : List ShareView) (e : Event) (client : ℕ) → Extends old.bank new.bank e
    → IsRun (shape_of new.bank.geometry) new.bank.image new.bank.log → client_counted e ≡ Some client → client < old.bank.geometry.clients
    → AreShares old.bank shares → slice_get shares (share_place shares client) ≡ Some old.share
    → Recounts old.bank new.bank client (block_of (shape_of old.bank.geometry) e) old.share new.share
    → AreShares new.bank (slice_set shares (share_place shares client) new.share)
event-counts old new shares e client x run of there own at counts =
    counted-shares old.bank new.bank shares e client (share_place shares client) old.share new.share x run of there
    (place-is old.bank shares client own there) (place-own old.bank shares client old.share own there at) counts own

-- an eviction is no event
evict-shares : (old new : View) (shares : List ShareView) (block : ℕ) → Evicts old new block → AreShares old shares → AreShares new shares
evict-shares old new shares block h own =
    shares-stay old new shares (ap (λ (v : View). v.geometry) h.is)
    (λ client. ap (λ (v : View). share_of v client) h.is) own

-- each action of a register is an event of no share's client
due-counts : (own : ℕ) (what : Due) → client_counted (event_of own what) ≡ None
due-counts own (due.Probe c block cap) = refl
due-counts own (due.Grant c) = refl
due-counts own due.Get = refl
due-counts own (due.Put block) = refl
due-counts own (due.Drop block) = refl

-- a call with a ticket
ticket-shares : (call : TicketCall) (ticket : Ticket) (old new : Scene) (answer : Answer) (shares : List ShareView)
    → first_of (cases_of old (step.Ticket call ticket)) ≡ None
    → TicketDoes call ticket old.bank new.bank old.share new.share answer → IsRun (shape_of new.bank.geometry) new.bank.image new.bank.log
    → AreShares old.bank shares → slice_get shares (share_place shares ticket.client) ≡ Some old.share
    → AreShares new.bank (slice_set shares (share_place shares ticket.client) new.share)
ticket-shares AnswerProbe ticket old new answer shares none h run own at =
    event-counts old new shares (event.AnswerProbe ticket.client (block_named old.bank ticket B)) ticket.client
    (extends-appends _ _ _ h.0.appends) run refl (probe-client old.bank ticket old.share none) own at h.1
ticket-shares TakeGrant ticket old new answer shares none h run own at =
    event-counts old new shares (event.TakeGrant ticket.client (block_named old.bank ticket D)) ticket.client
    (extends-appends _ _ _ h.0.appends) run refl (grant-client old.bank ticket old.share none) own at h.1
ticket-shares TakeReleaseAck ticket old new answer shares none h run own at =
    event-stays old new shares _ _ (extends-appends _ _ _ h.0.appends) run refl own at h.1
ticket-shares Accept ticket old new answer shares none h run own at =
    event-stays old new shares _ _ (extends-serves _ _ _ _ _ h.0.accepts.serves) run refl own at h.1
ticket-shares TakeC ticket old new answer shares none h run own at =
    event-stays old new shares _ _ (extends-serves _ _ _ _ _ h.0.serves) run refl own at h.1
ticket-shares TakeGrantAck ticket old new answer shares none h run own at =
    event-stays old new shares _ _ (extends-serves _ _ _ _ _ h.0.serves) run refl own at h.1

-- the taking of the memory's answer
memory-shares : (old new : View) (shares : List ShareView) (block : ℕ) → TakesMemory old new block
    → IsRun (shape_of new.geometry) new.image new.log → AreShares old shares → AreShares new shares
memory-shares old new shares block h run own =
    elim h [
      | inl came ↦ kept-shares old new shares _ (extends-serves _ _ _ _ _ came.serves) run refl own
      | inr put ↦ kept-shares old new shares _ (extends-serves _ _ _ _ _ put.serves) run refl own
    ]

-- a call with a block
block-shares : (call : BlockCall) (block : ℕ) (old new : View) (answer : Answer) (shares : List ShareView)
    → BlockDoes call block old new answer → IsRun (shape_of new.geometry) new.image new.log → AreShares old shares → AreShares new shares
block-shares Advance block old new answer shares h run own =
    kept-shares old new shares (event_of block h.advances.due) (extends-serves _ _ _ _ _ h.advances.serves) run
    (due-counts block h.advances.due) own
block-shares Evict block old new answer shares h run own = evict-shares old new shares block h.evicts own
block-shares ServeMemory block old new answer shares h run own =
    kept-shares old new shares _ (extends-serves _ _ _ _ _ h.serves) run refl own
block-shares TakeMemory block old new answer shares h run own = memory-shares old new shares block h.takes run own

-- a step that is done
does-shares : (index : ℕ) (s : Step) (old new : Scene) (answer : Answer) (shares : List ShareView) → first_of (cases_of old s) ≡ None
    → Does index s old new answer → IsRun (shape_of new.bank.geometry) new.bank.image new.bank.log → AreShares old.bank shares
    → slice_get shares (share_place shares (client_named s)) ≡ Some old.share
    → AreShares new.bank (slice_set shares (share_place shares (client_named s)) new.share)
does-shares index (step.Load client address len) old new answer shares none h run own at =
    event-stays old new shares _ _ (extends-appends _ _ _ h.0.appends) run refl own at h.1
does-shares index (step.Store client address bytes) old new answer shares none h run own at =
    event-stays old new shares _ _ (extends-appends _ _ _ h.0.appends) run refl own at h.1
does-shares index (step.Acquire client block grow) old new answer shares none h run own at =
    event-stays old new shares _ _ (extends-appends _ _ _ h.0.appends) run refl own at h.1.share
does-shares index (step.Release client block prune) old new answer shares none h run own at =
    event-counts old new shares (event.SendRelease client block prune) client (extends-appends _ _ _ h.0.appends) run refl
    (release-client old.bank client block prune old.share none) own at h.1
does-shares index (step.Ticket call ticket) old new answer shares none h run own at =
    ticket-shares call ticket old new answer shares none h.0 run own at
does-shares index (step.Block call block) old new answer shares none h run own at =
    stays old new shares _ at h.1.share (block-shares call block old.bank new.bank answer shares h.0 run own)

-- a step that is refused or done
answers-shares : (first : Option Refusal) (index : ℕ) (s : Step) (old new : Scene) (answer : Answer) (shares : List ShareView)
    → first_of (cases_of old s) ≡ first → Answers first (new ≡ old) (Does index s old new answer) answer
    → IsRun (shape_of new.bank.geometry) new.bank.image new.bank.log → AreShares old.bank shares
    → slice_get shares (share_place shares (client_named s)) ≡ Some old.share
    → AreShares new.bank (slice_set shares (share_place shares (client_named s)) new.share)
answers-shares None index s old new answer shares first h run own at = does-shares index s old new answer shares first h run own at
answers-shares (Some refusal) index s old new answer shares first h run own at =
    stays old new shares _ at (ap (λ (c : Scene). c.share) h.0)
    (subst (λ (c : Scene). AreShares c.bank shares) (sym h.0) own)

-- a step
pub step-shares : (index : ℕ) (s : Step) (old new : SharedBankState) (before after : ℕ) (answer : Answer)
    → IsStepAt index s old new before after answer → IsRun (shape_of new.bank.geometry) new.bank.image new.bank.log
    → AreShares old.bank old.shares → AreShares new.bank new.shares
step-shares index s old new before after answer h run own =
    subst (λ (xs : List ShareView). AreShares new.bank xs) (sym h.shares)
    (answers-shares (first_of (cases_of (record { bank = old.bank; share = h.share; clock = before }) s)) index s
    (record { bank = old.bank; share = h.share; clock = before }) (record { bank = new.bank; share = h.left; clock = after }) answer
    old.shares refl h.acts run own h.is_share)

-- a step that found no memory
pub starved-shares : (old new : SharedBankState) (before after : ℕ) → IsStarvedAt old new before after → AreShares old.bank old.shares
    → AreShares new.bank new.shares
starved-shares old new before after h own = subst (λ (s : SharedBankState). AreShares s.bank s.shares) (sym h.same) own

-- what holds where a call was refused, and where it was not, holds
pub either-way : {T E : Type 0} (result : Result T E) (P : Type 0) → OnErr result P → OnOk result P → P
either-way (Ok x) P refused done = done
either-way (Err e) P refused done = refused

-- a load that was done or refused
pub load-shares : (result : Result (List ℕ) Refusal) (index client address len before after : ℕ) (old new : View) (shares : List ShareView)
    → OnErr result ((new ≡ old) × (after ≡ before))
    → IfOk result (λ bytes. Loads index old new before after client address len (Loaded bytes))
    → IsRun (shape_of new.geometry) new.image new.log → AreShares old shares → AreShares new shares
load-shares (Ok bytes) index client address len before after old new shares same does run own =
    kept-shares old new shares _ (extends-appends _ _ _ does.appends) run refl own
load-shares (Err e) index client address len before after old new shares same does run own =
    subst (λ (v : View). AreShares v shares) (sym same.0) own

-- and a store
pub store-shares : (result : Result (Unit {0}) Refusal) (index client address before after : ℕ) (bytes : List ℕ) (old new : View)
    (shares : List ShareView) → OnErr result ((new ≡ old) × (after ≡ before))
    → IfOk result (λ _. Stores index old new before after client address bytes Done)
    → IsRun (shape_of new.geometry) new.image new.log → AreShares old shares → AreShares new shares
store-shares (Ok x) index client address before after bytes old new shares same does run own =
    kept-shares old new shares _ (extends-appends _ _ _ does.appends) run refl own
store-shares (Err e) index client address before after bytes old new shares same does run own =
    subst (λ (v : View). AreShares v shares) (sym same.0) own

-- ## Other calls

-- more room
pub room-shares : (old new : View) (shares : List ShareView) (room : ℕ) → new ≡ record old { room = room } → AreShares old shares
    → AreShares new shares
room-shares old new shares room is own =
    shares-stay old new shares (ap (λ (v : View). v.geometry) is) (λ client. ap (λ (v : View). share_of v client) is) own

-- events that are forgotten
pub forgotten-shares : (old new : View) (shares : List ShareView) → Forgets old new → AreShares old shares → AreShares new shares
forgotten-shares old new shares h own =
    shares-stay old new shares (ap (λ (v : View). v.geometry) h.is) (λ client. ap (λ (v : View). share_of v client) h.is) own

-- ## Reset

-- nobody has a copy at reset
no-copies : (v : View) (client : ℕ) → v.log ≡ [] → copies_at v client ≡ 0
no-copies v client nothing =
    count_below-none (λ b. has_copy (client_at v client b)) v.geometry.memory_blocks
    (λ b l. ap (λ (log : List Event). has_copy ((end_of (shape_of v.geometry) v.image log b).client client)) nothing)

-- the first shares, in their places
first-at : (number n client : ℕ) (d : ShareView) → client < n
    → get_or (first_shares number n) client d ≡ record { client = client; bank = number; count = 0 }
first-at number zero client d l = absurd (omega arith)
first-at number (suc n) client d l =
    elim (cases_eq client n) [
      | inl e ↦ rw e (get_or_push (first_shares number n) _ d n (length-first_shares number n))
      | inr apart ↦
          let long = length-first_shares number n in
          get_or_append_left (first_shares number n) _ d client (omega arith) ∙ first-at number n client d (omega arith)
    ]

-- they are those of a bank at reset
pub fresh-shares : (v : View) (shares : List ShareView) (number : ℕ) → v.number ≡ number → v.log ≡ []
    → shares ≡ first_shares number v.geometry.clients → AreShares v shares
fresh-shares v shares number is nothing given =
    subst (λ (xs : List ShareView). AreShares v xs) (sym given) (record {
      as_many = length-first_shares number v.geometry.clients;
      each = λ client d l.
          first-at number v.geometry.clients client d l
          ∙ (ap (λ (n : ℕ). record { client = client; bank = n; count = 0 }) (sym is)
          ∙ ap (λ (n : ℕ). record { client = client; bank = v.number; count = n }) (sym (no-copies v client nothing)));
    })

-- ## Rest

-- no case refuses them
pub none-stands : (v : View) (shares : List ShareView) → AreShares v shares → first_of (shares_cases v shares) ≡ None
none-stands v shares own =
    let n : ℕ = v.geometry.clients in
    let here : (x : ℕ) → x < n → share_in v shares x ≡ share_of v x = λ x l. own.each x (share_of v x) l in
    none_refused v shares own.as_many
    (all-pass (is_bad v shares) n (λ x l.
    ap (λ (s : ShareView). bad_share v x s) (here x l)
    ∙ rw (eq-eqb x x refl, eq-eqb v.number v.number refl, eq-eqb (copies_at v x) (copies_at v x) refl) refl))
    (all-pass (is_other v shares) n (λ x l.
    ap (λ (s : ShareView). other_share v s) (here x l) ∙ rw (eq-eqb v.number v.number refl) refl))

-- only want of memory is left to refuse them
pub only-short : {T : Type 0} (v : View) (shares : List ShareView) (room : ℕ) (answer : Result T Refusal) → AreShares v shares
    → IfErr answer (λ r. IsRefused (first_of (shares_cases v shares)) room r) → IfErr answer (λ r. (r ≡ Memory) × (room ≡ 0))
only-short v shares room (Ok x) own refused = tt
only-short v shares room (Err e) own refused =
    subst (λ (first : Option Refusal). IsRefused first room e) (none-stands v shares own) refused

-- the events that came are as many as the log has more
came-count : (old new : View) (events : List Event) → Receives old new events → length new.log ≡ length old.log + length events
came-count old new events h =
    ap (λ (v : View). length v.log) h.is ∙ length-append old.log events

-- the shares of a bank that received something, written back
back-shares : (old new : View) (held shares : List ShareView) (events : List Event) → Receives old new events → AreShares old held
    → AreShares new shares → AreShares new (refill (length held) held shares)
back-shares old new held shares events h own after =
    let clients : new.geometry.clients ≡ old.geometry.clients = ap (λ (v : View). v.geometry.clients) h.is in
    let long : length shares ≡ length held = after.as_many ∙ (clients ∙ sym own.as_many) in
    subst (λ (xs : List ShareView). AreShares new xs) (sym (refill-whole held shares long)) after

-- and what was received, and how much
took : (old : SharedBankState) (bank : View) (shares : List ShareView) (answer : Result ℕ Refusal) (events : List Event)
    → Receives old.bank bank events → IfOk answer (λ count. length bank.log ≡ length old.bank.log + count) → AreShares bank shares
    → (events : List Event) × Takes old (record { bank = bank; shares = shares }) events × IfOk answer (λ count. length events ≡ count)
took old bank shares (Err e) events h count after = (events, record { receives = h; shares = after }, tt)
took old bank shares (Ok n) events h count after =
    let long = came-count old.bank bank events h in
    (events, record { receives = h; shares = after }, omega (arith, long, count))

-- a bank that took what was under way, with its shares back in their place
pub rest-takes : (old : SharedBankState) (bank : View) (given shares : List ShareView) (answer : Result ℕ Refusal)
    → AreShares old.bank old.shares → given ≡ old.shares → ((events : List Event) × Receives old.bank bank events)
    → IfOk answer (λ count. length bank.log ≡ length old.bank.log + count)
    → (first_of (shares_cases old.bank given) ≡ None → AreShares bank shares)
    → (events : List Event) × Takes old (record { bank = bank; shares = refill (length old.shares) old.shares shares }) events
    × IfOk answer (λ count. length events ≡ count)
rest-takes old bank given shares answer own is came count after =
    let none : first_of (shares_cases old.bank given) ≡ None =
    none-stands old.bank given (subst (λ (xs : List ShareView). AreShares old.bank xs) (sym is) own) in
    took old bank (refill (length old.shares) old.shares shares) answer came.0 came.1 count
    (back-shares old.bank bank old.shares shares came.0 came.1 own (after none))

-- and the shares are its clients' then
pub rest-shares : (old : SharedBankState) (bank : View) (given shares : List ShareView) → AreShares old.bank old.shares → given ≡ old.shares
    → ((events : List Event) × Receives old.bank bank events) → (first_of (shares_cases old.bank given) ≡ None → AreShares bank shares)
    → AreShares bank (refill (length old.shares) old.shares shares)
rest-shares old bank given shares own is came after =
    back-shares old.bank bank old.shares shares came.0 came.1 own
    (after (none-stands old.bank given (subst (λ (xs : List ShareView). AreShares old.bank xs) (sym is) own)))

-- there are as many as there were
pub some-left : (held shares : List ShareView) → 0 < length held → 0 < length (refill (length held) held shares)
some-left held shares some = omega (arith, length_refill (length held) held shares refl)
