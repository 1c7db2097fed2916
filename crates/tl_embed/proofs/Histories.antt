-- What a sequence of calls leaves of the logs of all banks.
use Rattle.std.proofs.Common.{◌≡◌, ◌≢◌, ◌⊎◌, inl, inr, ℕ, zero, suc, ◌+◌, ◌*◌, ◌<◌, ◌≤◌, List, [], ◌∷◌, length, Option, Some, None, Result, Ok, Err, slice_get, slice_set, refl, sym, ◌∙◌, ap, subst, arith}
use Rattle.std.specs.Prelude.{IfSome, MatchResult}
use Rattle.std.specs.Option.{option_map}
use Rattle.std.proofs.lemmas.Option.{same_Some}
use Rattle.tl_map.specs.Numbers.{Numbers as Shape}
use Rattle.tl_map.specs.Refusals.{numbers_of, refusal_of}
use Rattle.tl_map.specs.declared.numbers.GeometryError.{GeometryError}
use Rattle.tl_map.specs.declared.numbers.GeometryNumbers.{GeometryNumbers}
use Rattle.tl_protocol.specs.declared.event.Event.{Event}
use Rattle.tl_bank_spec.specs.View.{View}
use Rattle.tl_bank_spec.specs.Views.{IsQuiet}
use Rattle.tl_bank_spec.specs.declared.refusal.Refusal.{Refusal}
use Rattle.tl_types.specs.declared.kind.Kind.{Kind}
use Rattle.tl_types.specs.declared.message.Message.{Message}
use Rattle.tl_script_words.specs.declared.step.Step.{Step}
use Rattle.tl_trace.specs.NetworkState.{AreFresh, HasRoom, IsFresh, IsForgotten, IsReserved, IsReset, NetworkState, SharedBankState, bank_asked, bank_at}
use Rattle.tl_trace.specs.NetworkSteps.{IsNetworkStep}
use Rattle.tl_trace.specs.Rests.{IsAway, IsCutShort, Takes}
use Rattle.tl_text.specs.declared.answer.Answer.{Answer as Shown}
use Rattle.tl_embed.specs.Asked.{asked}
use Rattle.tl_embed.specs.Calls.{AsksFor, Calls, CallsOn, GoesOn, IsPlayed, IsStarved}
use Rattle.tl_embed.specs.Events.{Forgets, Reserves}
use Rattle.tl_embed.specs.Histories.{AreCalls, Asking, EveryHistory, IsAsked, IsLater, IsRunning, RunsOn}
use Rattle.tl_embed.specs.Saw.{AreStored, AsCompared, AsLed, Compared, SawsOn, SeenDoes, SeesOn, Stores, inferred, step_on_c, store_of}
use Rattle.tl_embed.specs.Seen.{seen_asks}
use Rattle.tl_embed.specs.Told.{only}
use Rattle.tl_embed.specs.Rests.{RestBelow, Rests}
use Rattle.tl_embed.specs.Opens.{OpensBy, OpensOver, as_given, closed}
use Rattle.tl_embed.specs.declared.answer.Answer.{Answer}
use Rattle.tl_embed.specs.declared.cache.Cache.{Cache}
use Rattle.tl_embed.specs.declared.request.Asked.{Asked}
use Rattle.tl_embed.specs.declared.request.Asked.TheVariants as a
use Rattle.tl_embed.specs.declared.request.Request.{Request}
use Rattle.tl_embed.specs.declared.seen.Seen.{Seen}
use Rattle.tl_embed.specs.declared.seen.SeenAsks.{SeenAsks}
use Rattle.tl_embed.specs.declared.seen.SeenAsks.TheVariants.{Tells, Plays, Sends}
use Rattle.tl_embed.specs.declared.stores.Inferred.{Inferred}
use Rattle.tl_embed.proofs.Later.{later-twice, same-later, step-later}

-- equal options hold equal values
some-same : {X : Type 0} {x y : X} → Some x ≡ Some y → x ≡ y
some-same h = same_Some _ _ h

-- ## All banks

-- a bank of a list of them, if it is there
abbrev bank_in : List SharedBankState → ℕ → Option View
bank_in xs number = option_map (λ (s : SharedBankState). s.bank) (slice_get xs number)

-- the bank with a number is there, and later than it was
record IsLaterIn (xs : List SharedBankState) (number : ℕ) (before : View) : Type 0 where
  after : View
  is : bank_in xs number ≡ Some after
  later : IsLater before after

-- each bank that there was is there, and later
abbrev AreLater : NetworkState → NetworkState → Type 0
AreLater old new = (number : ℕ) (before : View) → bank_at old number ≡ Some before → IsLaterIn new.shared_banks number before

-- a bank is as it was
same-in : (xs : List SharedBankState) (number : ℕ) (before : View) → bank_in xs number ≡ Some before → IsLaterIn xs number before
same-in xs number before is = record { after = before; is = is; later = same-later before before refl }

-- one bank is later, the others are as they were
set-later : (xs : List SharedBankState) (place number : ℕ) (s left : SharedBankState) (before : View) → slice_get xs place ≡ Some s
    → IsLater s.bank left.bank → bank_in xs number ≡ Some before → IsLaterIn (slice_set xs place left) number before
set-later [] place number s left before at later is = cc
set-later (x ∷ xs) zero zero s left before at later is = record {
  after = left.bank;
  is = refl;
  later =
      subst (λ (v : View). IsLater v left.bank)
      (ap (λ (t : SharedBankState). t.bank) (sym (some-same at)) ∙ some-same is) later;
}
set-later (x ∷ xs) zero (suc n) s left before at later is = same-in (left ∷ xs) (suc n) before is
set-later (x ∷ xs) (suc p) zero s left before at later is = same-in (x ∷ slice_set xs p left) zero before is
set-later (x ∷ xs) (suc p) (suc n) s left before at later is =
    let rest = set-later xs p n s left before at later is in
    record { after = rest.after; is = rest.is; later = rest.later }

-- all are as they were
none-later : (old new : NetworkState) → new ≡ old → AreLater old new
none-later old new is number before at = same-in new.shared_banks number before (ap (λ (x : NetworkState). bank_at x number) is ∙ at)

-- twice later
later-then : (x y z : NetworkState) → AreLater x y → AreLater y z → AreLater x z
later-then x y z h k number before at =
    let one = h number before at in
    let two = k number one.after one.is in
    record { after = two.after; is = two.is; later = later-twice before one.after two.after one.later two.later }

-- ## One call

-- a step
step-of-network : (index : ℕ) (step : Step) (old new : NetworkState) (shown : Shown) → IsNetworkStep index step old new shown
    → AreLater old new
step-of-network index step old new shown h number before at =
    subst (λ (x : NetworkState). IsLaterIn x.shared_banks number before) (sym h.is)
    (set-later old.shared_banks (bank_asked old.geometry step) number h.shared_bank h.left before h.is_site
    (step-later index step _ _ shown h.acts.acts) at)

-- room for more
room-later : (count : ℕ) (old new : SharedBankState) → HasRoom count old new → IsLater old.bank new.bank
room-later count old new h =
    let same : IsLater old.bank old.bank = same-later old.bank old.bank refl in
    record {
      geometry = ap (λ (s : SharedBankState). s.bank.geometry) h.is;
      number = ap (λ (s : SharedBankState). s.bank.number) h.is;
      image = ap (λ (s : SharedBankState). s.bank.image) h.is;
      since = same.since;
      log = ap (λ (s : SharedBankState). s.bank.log) h.is ∙ same.log;
    }

reserved-later : (bank count : ℕ) (old new : NetworkState) → IsReserved bank count old new → AreLater old new
reserved-later bank count old new h number before at =
    subst (λ (x : NetworkState). IsLaterIn x.shared_banks number before) (sym h.is)
    (set-later old.shared_banks bank number h.shared_bank h.left before h.is_site (room-later count h.shared_bank h.left h.has_room) at)

-- what was forgotten
forgotten-later : (bank : ℕ) (old new : NetworkState) → IsForgotten bank old new → AreLater old new
forgotten-later bank old new h number before at =
    let kept : IsLater h.shared_bank.bank h.shared_bank.bank = same-later h.shared_bank.bank h.shared_bank.bank refl in
    subst (λ (x : NetworkState). IsLaterIn x.shared_banks number before) (sym h.is)
    (set-later old.shared_banks bank number h.shared_bank h.left before h.is_site
    (subst (λ (v : View). IsLater h.shared_bank.bank v) (sym h.forgets.is)
    (record { geometry = refl; number = refl; image = refl; since = kept.since; log = kept.log }))
    at)

-- one number is below another or not
below-or : (a b : ℕ) → (a < b) ⊎ (b ≤ a)
below-or a zero = inr (omega arith)
below-or zero (suc b) = inl (omega arith)
below-or (suc a) (suc b) = elim (below-or a b) [ inl h ↦ inl (omega (arith, h)) | inr h ↦ inr (omega (arith, h)) ]

room-asked : (bank count : ℕ) (old new : NetworkState) (told : Answer) → Reserves bank count old new told → AreLater old new
room-asked bank count old new told h =
    elim (below-or bank old.geometry.banks) [
      | inl there ↦ elim (h.there there) [
        | inl done ↦ reserved-later bank count old new done.0
        | inr short ↦ none-later old new short.0.same
      ]
      | inr absent ↦ none-later old new (h.absent absent).0
    ]

-- a bank that is asked to forget
forget-asked : (bank : ℕ) (old new : NetworkState) (told : Answer) → Forgets bank old new told → AreLater old new
forget-asked bank old new told h =
    elim (below-or bank old.geometry.banks) [
      | inl there ↦ forgotten-later bank old new (h.there there).0
      | inr absent ↦ none-later old new (h.absent absent).0
    ]

-- a bank that received something
takes-later : (old new : SharedBankState) (events : List Event) → Takes old new events → IsLater old.bank new.bank
takes-later old new events h = record {
  geometry = ap (λ (v : View). v.geometry) h.receives.is;
  number = ap (λ (v : View). v.number) h.receives.is;
  image = ap (λ (v : View). v.image) h.receives.is;
  since = events;
  log = ap (λ (v : View). v.log) h.receives.is;
}

-- a bank that is shown, with its shares
site-of : (o : Option SharedBankState) (before : View) → option_map (λ (s : SharedBankState). s.bank) o ≡ Some before
    → (s : SharedBankState) × (o ≡ Some s) × (s.bank ≡ before)
site-of None before h = cc
site-of (Some s) before h = (s, refl, some-same h)

-- banks that rested
below-later : (ends : View → Type 0) (place count : ℕ) (old new : NetworkState) → RestBelow ends place count old new → AreLater old new
below-later ends place count old new h number before at =
    let site = site-of (slice_get old.shared_banks number) before at in
    elim (below-or number place) [
      | inl l ↦
          let r = h.rested number site.0 l site.1 in
          record {
            after = r.after.bank;
            is = ap (λ (o : Option SharedBankState). option_map (λ (s : SharedBankState). s.bank) o) r.is;
            later = subst (λ (v : View). IsLater v r.after.bank) site.2 (takes-later site.0 r.after r.events r.takes);
          }
      | inr le ↦
          same-in new.shared_banks number before
          (ap (λ (o : Option SharedBankState). option_map (λ (s : SharedBankState). s.bank) o) (h.behind number le) ∙ at)
    ]

-- a bank that found no memory
cut-later : (place : ℕ) (old new : NetworkState) → IsCutShort place old new → AreLater old new
cut-later place old new h number before at =
    subst (λ (x : NetworkState). IsLaterIn x.shared_banks number before) (sym h.at.is)
    (set-later old.shared_banks place number h.at.shared_bank h.at.left before h.at.is_site
    (takes-later h.at.shared_bank h.at.left h.at.events h.at.takes) at)

-- all banks, or up to one that found no memory
rests-later : (ends : View → Type 0) (old new : NetworkState) (told : Answer) → Rests ends old new told → AreLater old new
rests-later ends old new told (inl all) = below-later ends old.geometry.banks all.1.count old new all.1.all
rests-later ends old new told (inr short) =
    later-then old short.0.mid new (below-later ends short.0.place short.0.count old short.0.mid short.0.first)
    (cut-later short.0.place short.0.mid new short.0.cut)

-- what a request asks for
asks-later : (what : Asked) (old new : NetworkState) (r : Request) (told : Answer) → AsksFor what old r new told → AreLater old new
asks-later (a.Step step) old new r told (inl played) = step-of-network r.index step old new played.shown played.does
asks-later (a.Step step) old new r told (inr starved) = none-later old new starved.0.same
asks-later a.BadArgument old new r told h = none-later old new h.0
asks-later a.Reserve old new r told h = room-asked r.bank r.serial old new told h
asks-later a.Forget old new r told h = forget-asked r.bank old new told h
asks-later a.Drain old new r told h = rests-later IsQuiet old new told h
asks-later a.Flush old new r told h = rests-later IsAway old new told h
asks-later a.Other old new r told h = none-later old new h.same

-- a step that was made, or found no memory
made-later : (index : ℕ) (step : Step) (old new : NetworkState) (told : Answer)
    → IsPlayed index step old new told ⊎ IsStarved step old new told → AreLater old new
made-later index step old new told (inl played) = step-of-network index step old new played.shown played.does
made-later index step old new told (inr starved) = none-later old new starved.0.same

-- a step that was compared with what was seen
compared-later : (outcome : Result Message Refusal) (kind : Kind) (s : Seen) (step : Step) (old new : NetworkState) (told : Answer)
    → AsCompared outcome kind s step old new told → AreLater old new
compared-later (Err refusal) kind s step old new told h = none-later old new h.0
compared-later (Ok message) kind s step old new told (inl same) = made-later 0 step old new told same.1
compared-later (Ok message) kind s step old new told (inr other) = none-later old new other.1

-- stores that were done
stored-later : (i : Inferred) (s : Seen) (places : List ℕ) (old new : NetworkState) → AreStored i s places old new → AreLater old new
stored-later i s [] old new h = none-later old new h
stored-later i s (place ∷ places) old new h =
    later-then old h.0 new (made-later s.index (store_of i s place) old h.0 h.1 h.2) (stored-later i s places h.0 new h.4)

-- all of them, or up to one that was not done
stores-later : (made : Result ℕ Answer) (i : Inferred) (s : Seen) (old new : NetworkState) → Stores i s old new made → AreLater old new
stores-later (Ok count) i s old new h = stored-later i s _ old new h.stored
stores-later (Err told) i s old new h =
    later-then old h.2 new (stored-later i s _ old h.2 h.3.stored) (made-later s.index (store_of i s h.0) h.2 new h.4.last h.4.asked)

-- the call after them
call-after : (made : Result ℕ Answer) (kind : Kind) (s : Seen) (step : Step) (mid new : NetworkState) (told : Answer)
    → MatchResult made (λ count. (last : Answer) × Compared kind s step mid new last × (told ≡ record last { stores = count }))
    (λ last. (new ≡ mid) × (told ≡ last))
    → AreLater mid new
call-after (Ok count) kind s step mid new told h = compared-later h.1.outcome kind s step mid new h.0 h.1.does
call-after (Err last) kind s step mid new told h = none-later mid new h.0

-- a call on C, with the stores before it
led-later : (wanted : Option Inferred) (outcome : Result Message Refusal) (kind : Kind) (s : Seen) (step : Step) (old new : NetworkState)
    (told : Answer) → AsLed wanted outcome kind s step old new told → AreLater old new
led-later None outcome kind s step old new told h = compared-later outcome kind s step old new told h
led-later (Some i) outcome kind s step old new told h =
    let first : AreLater old h.ready = room-asked _ _ old h.ready h.room h.reserves in
    elim h.does [
      | inl short ↦ subst (λ (x : NetworkState). AreLater old x) (sym short.1) first
      | inr goes ↦
          later-then old h.ready new first
          (later-then h.ready goes.1.mid new (stores-later goes.1.made i s h.ready goes.1.mid goes.1.stores)
          (call-after goes.1.made kind s step goes.1.mid new told goes.1.ends))
    ]

-- what a message that was seen asks
seen-later : (what : SeenAsks) (old new : NetworkState) (s : Seen) (told : Answer) → SeenDoes what old s new told → AreLater old new
seen-later (Tells status) old new s told h = none-later old new h.0
seen-later (Plays step) old new s told h = made-later 0 step old new told h
seen-later (Sends call kind) old new s told h =
    led-later (inferred old kind s h.outcome) h.outcome kind s (step_on_c s call) old new told h.does

-- A cache was open before, and its banks are later now.
record IsOpenSince (old : Option NetworkState) (now : NetworkState) : Type 0 where
  before : NetworkState
  is : old ≡ Some before
  later : AreLater before now

-- a number is 0 or not
zero-or : (n : ℕ) (P Q : Type 0) → (n ≡ 0 → P) × (n ≢ 0 → Q) → P ⊎ Q
zero-or zero P Q h = inl (h.0 refl)
zero-or (suc n) P Q h = inr (h.1 (λ e. cc))

-- a cache that goes on was open
goes-on-later : (network next now : NetworkState) (old : Option NetworkState) (what : Asked) (r : Request) (told : Answer)
    → old ≡ Some network → AsksFor what network r next told → next ≡ now → IsOpenSince old now
goes-on-later network next now old what r told was asks same = record {
  before = network;
  is = was;
  later = subst (λ (x : NetworkState). AreLater network x) same (asks-later what network next r told asks);
}

-- a call of an open cache closes it or leaves it open
open-later : (network now : NetworkState) (old new : Cache) (r : Request) (told : Answer) → old.network ≡ Some network
    → ((new ≡ closed 18) × (told ≡ only 0)) ⊎ GoesOn network old r new told → new.network ≡ Some now → IsOpenSince old.network now
open-later network now old new r told was (inl shut) is = let gone : new.network ≡ None = ap (λ (x : Cache). x.network) shut.0 in cc
open-later network now old new r told was (inr on) is =
    goes-on-later network on.next now old.network (asked r) r told was on.asks
    (some-same (sym (ap (λ (x : Cache). x.network) on.is) ∙ is))

-- what holds of an option's cases holds of it
by-option : {X R : Type 0} (o : Option X) (C : Option X → Type 0) → (C None → o ≡ None → R) → ((x : X) → C (Some x) → o ≡ Some x → R)
    → C o → R
by-option None C f g c = f c refl
by-option (Some x) C f g c = g x c refl

-- a closed cache stays closed
closed-later : (old new : Cache) (now : NetworkState) → new ≡ old → old.network ≡ None → new.network ≡ Some now → IsOpenSince old.network now
closed-later old new now same none is =
    let kept : new.network ≡ old.network = ap (λ (x : Cache). x.network) same in cc

-- a call that leaves a cache open found it open
call-later : (old new : Cache) (r : Request) (told : Answer) (now : NetworkState) → Calls old r new told → new.network ≡ Some now
    → IsOpenSince old.network now
call-later old new r told now h is =
    by-option old.network (λ o. CallsOn o old r new told) (λ shut none. closed-later old new now shut.0 none is)
    (λ network asks was. open-later network now old new r told was (zero-or r.call _ _ asks) is) h

-- a message that was seen by an open cache leaves it open
sees-later : (network now : NetworkState) (old new : Cache) (s : Seen) (told : Answer) → old.network ≡ Some network
    → SeesOn network old s new told → new.network ≡ Some now → IsOpenSince old.network now
sees-later network now old new s told was on is =
    let same : on.next ≡ now = some-same (sym (ap (λ (x : Cache). x.network) on.is) ∙ is) in
    record {
      before = network;
      is = was;
      later = subst (λ (x : NetworkState). AreLater network x) same (seen-later (seen_asks network s) network on.next s told on.does);
    }

-- what leaves a cache open found it open
asked-later : (asking : Asking) (old new : Cache) (now : NetworkState) → IsAsked old asking new → new.network ≡ Some now
    → IsOpenSince old.network now
asked-later (inl call) old new now h is = call-later old new call.0 call.1 now h is
asked-later (inr sight) old new now h is =
    by-option old.network (λ o. SawsOn o old sight.0 new sight.1) (λ shut none. closed-later old new now shut.0 none is)
    (λ network does was. sees-later network now old new sight.0 sight.1 was does is) h

-- ## All calls

-- a sequence of calls that leaves a cache open found it open
calls-later : (calls : List Asking) (old new : Cache) (now : NetworkState) → AreCalls old calls new
    → new.network ≡ Some now → IsOpenSince old.network now
calls-later [] old new now h is = record {
  before = now;
  is = ap (λ (x : Cache). x.network) (sym h) ∙ is;
  later = none-later now now refl;
}
calls-later (call ∷ calls) old new now h is =
    let rest = calls-later calls h.0 new now h.2 is in
    let one = asked-later call old h.0 rest.before h.1 rest.is in
    record { before = one.before; is = one.is; later = later-then one.before rest.before now one.later rest.later }

-- ## The opening

-- the bank at a place among those at reset
record IsFreshAt (g : Shape) (image : List ℕ) (xs : List SharedBankState) (number place : ℕ) : Type 0 where
  shared_bank : SharedBankState
  is : slice_get xs place ≡ Some shared_bank
  fresh : IsFresh g image number shared_bank

fresh-at : (g : Shape) (image : List ℕ) (xs : List SharedBankState) (from place : ℕ) → AreFresh g image from xs → place < length xs
    → IsFreshAt g image xs (from + place) place
fresh-at g image [] from place h below = absurd (omega (arith, below))
fresh-at g image (x ∷ xs) from zero h below =
    let at : from ≡ from + 0 = omega arith in
    record { shared_bank = x; is = refl; fresh = subst (λ (n : ℕ). IsFresh g image n x) at h.0 }
fresh-at g image (x ∷ xs) from (suc place) h below =
    let rest = fresh-at g image xs (suc from) place h.1 (omega (arith, below)) in
    let at : suc from + place ≡ from + suc place = omega arith in
    record { shared_bank = rest.shared_bank; is = rest.is; fresh = subst (λ (n : ℕ). IsFresh g image n rest.shared_bank) at rest.fresh }

-- a cache that is open was given lawful numbers, and is at reset
record IsOpened (given : GeometryNumbers) (image : List ℕ) (start : NetworkState) : Type 0 where
  g : Shape
  numbers : numbers_of g ≡ given
  reset : IsReset g image start

opens-over : (g : Shape) (image : List ℕ) (made : Cache) (start : NetworkState) → OpensOver g image made → made.network ≡ Some start
    → IsReset g image start
opens-over g image made start h is =
    elim (below-or (g.memory_blocks * g.block_bytes) (length image)) [
      | inl long ↦ let none : made.network ≡ None = ap (λ (x : Cache). x.network) (h.long long) in cc
      | inr fits ↦ elim (h.fits fits) [
        | inl fresh ↦
            let same : fresh.network ≡ start = some-same (sym (ap (λ (x : Cache). x.network) fresh.is) ∙ is) in
            subst (λ (x : NetworkState). IsReset g image x) same fresh.reset
        | inr shut ↦ let none : made.network ≡ None = ap (λ (x : Cache). x.network) shut in cc
      ]
    ]

opens-by : (error : Option GeometryError) (given : GeometryNumbers) (image : List ℕ) (made : Cache) (start : NetworkState)
    → OpensBy error given image made → made.network ≡ Some start → IsOpened given image start
opens-by (Some error) given image made start h is =
    let none : made.network ≡ None = ap (λ (x : Cache). x.network) h in cc
opens-by None given image made start h is = record { g = h.0; numbers = h.1; reset = opens-over h.0 image made start h.2 is }

-- ## The theorem

-- a bank of a cache that was opened, and went on twice
runs-on : (g : Shape) (image : List ℕ) (number : ℕ) (start before now : NetworkState) → IsReset g image start → AreLater start before
    → AreLater before now → IfSome (bank_at now number) IsRunning → number < g.banks → RunsOn g image number before now
runs-on g image number start before now reset first later running below =
    let fresh = fresh-at g image start.shared_banks 0 number reset.fresh (rw reset.count below) in
    let one = first number fresh.shared_bank.bank (ap (λ (o : Option SharedBankState). option_map (λ (s : SharedBankState). s.bank) o) fresh.is) in
    let two = later number one.after one.is in
    let all = later-twice fresh.shared_bank.bank one.after two.after one.later two.later in
    let is : IsFresh g image number fresh.shared_bank =
    (let at : 0 + number ≡ number = omega arith in subst (λ (n : ℕ). IsFresh g image n fresh.shared_bank) at fresh.fresh) in
    record {
      old = one.after;
      new = two.after;
      was = one.is;
      is = two.is;
      holds = record {
        geometry = all.geometry ∙ ap (λ (v : View). v.geometry) is.bank;
        is_number = all.number ∙ ap (λ (v : View). v.number) is.bank;
        is_image = all.image ∙ ap (λ (v : View). v.image) is.bank;
        running = subst (λ (o : Option View). IfSome o IsRunning) two.is running;
      };
      later = two.later;
    }

-- the theorem, of an open cache whose bank with the number holds a run
pub history : (end : Cache) (number : ℕ) (network : NetworkState) → end.network ≡ Some network
    → IfSome (bank_at network number) IsRunning → EveryHistory end number
history end number network opened running numbers image made between first later before now opens h k was is =
    let since = calls-later later between end now k is in
    let start = calls-later first made between before h was in
    let given = opens-by (refusal_of (as_given numbers)) (as_given numbers) image made start.before opens start.is in
    let from : since.before ≡ before = some-same (sym since.is ∙ was) in
    let end_is : network ≡ now = some-same (sym opened ∙ is) in (
      given.g,
      given.numbers,
      λ below. runs-on given.g image number start.before before now given.reset start.later
          (subst (λ (x : NetworkState). AreLater x now) from since.later)
          (subst (λ (x : NetworkState). IfSome (bank_at x number) IsRunning) end_is running) below,
    )
