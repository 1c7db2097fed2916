-- What a judge tells of all entries that it sees.
use Rattle.std.proofs.Common.{◌≡◌, ◌⊎◌, inl, inr, ℕ, List, [], ◌∷◌, ◌++◌, Option, Some, None, refl, sym, ◌∙◌, ap, subst}
use Rattle.tl_protocol.specs.declared.event.Event.{Event}
use Rattle.tl_protocol.specs.declared.shape.Shape.{Shape}
use Rattle.tlcheck_rules.specs.declared.order.ChannelOrder.{ChannelOrder}
use Rattle.tlcheck_rules.specs.Judged.{Follows, IsPermitted}
use Rattle.tlcheck_rules.specs.declared.difference.Difference.TheVariants as d
use Rattle.tlcheck_rules.specs.declared.entry.Entry.{Entry}
use Rattle.tlcheck_rules.specs.declared.judge.Breach.{Breach}
use Rattle.tlcheck_rules.specs.declared.judge.Breach.TheVariants.{NotPermitted, OutOfOrder, NotAsShown}
use Rattle.tlcheck_embed.specs.Asked.{entry_of}
use Rattle.tlcheck_embed.specs.Histories.{AllTold, AreRepeated, AreSeen, AreToldAfter, EveryJudging, IsToldBroken}
use Rattle.tlcheck_embed.specs.Opens.{SeesOn, closed}
use Rattle.tlcheck_embed.specs.Sees.{Judges, JudgesIf, SeesAt}
use Rattle.tlcheck_embed.specs.Told.{breach_told, only}
use Rattle.tlcheck_embed.specs.declared.bench.Bench.{Bench}
use Rattle.tlcheck_embed.specs.declared.entry.BenchEntry.{BenchEntry}
use Rattle.tlcheck_embed.specs.declared.room.JudgeRoom.{JudgeRoom}
use Rattle.tlcheck_embed.specs.declared.verdict.Verdict.{Verdict}

-- a closed judge tells each that it is closed
closed-told : (seen : List (BenchEntry × Verdict)) (old end : JudgeRoom) → old ≡ closed 18 → AreSeen old seen end
    → AllTold (record (only 18) { why = 18 }) seen
closed-told [] old end is h = tt
closed-told (x ∷ more) old end is h =
    let now : SeesOn None old x.0 h.0 x.1 =
    subst (λ (o : Option Bench). SeesOn o old x.0 h.0 x.1) (ap (λ (r : JudgeRoom). r.bench) is) h.1 in
    (now.1 ∙ ap (λ (r : JudgeRoom). record (only 18) { why = r.status }) is, closed-told more h.0 end (now.0 ∙ is) h.2)

-- after a fault each is told it again
repeated : (seen : List (BenchEntry × Verdict)) (old end : JudgeRoom) (b : Bench) (fault : Verdict) → old.bench ≡ Some b
    → b.fault ≡ Some fault → AreSeen old seen end → AreRepeated fault seen
repeated [] old end b fault was is h = tt
repeated (x ∷ more) old end b fault was is h =
    let now : SeesOn (Some b) old x.0 h.0 x.1 = subst (λ (o : Option Bench). SeesOn o old x.0 h.0 x.1) was h.1 in (
      (λ shuts. ((now.0 shuts).1, closed-told more h.0 end (now.0 shuts).0 h.2)),
      (λ other.
          let on = now.1 other in
          let again : SeesAt (Some fault) b x.0 on.next x.1 =
          subst (λ (o : Option Verdict). SeesAt o b x.0 on.next x.1) is on.sees in (
            again.1,
            repeated more h.0 end on.next fault (ap (λ (r : JudgeRoom). r.bench) on.is) (ap (λ (c : Bench). c.fault) again.0 ∙ is) h.2,
          )),
    )

-- each breach is told with 31
status-told : (breach : Breach) → (breach_told breach).status ≡ 31
status-told (NotPermitted rule) = refl
status-told OutOfOrder = refl
status-told (NotAsShown d.NothingIsSent) = refl
status-told (NotAsShown (d.OtherMessage sent)) = refl
status-told (NotAsShown (d.OtherParam sent)) = refl
status-told (NotAsShown (d.DataIsMissing sent)) = refl
status-told (NotAsShown (d.DataIsExtra sent)) = refl
status-told (NotAsShown (d.OtherBytes sent shown)) = refl

-- what is told of one entry, and of those behind it
abbrev TellsOn : ChannelOrder → Shape → List ℕ → List Event → BenchEntry → Verdict → List (BenchEntry × Verdict) → Type 0
TellsOn order shape image log e told more =
    ((entry_of e ≡ None) × (told ≡ only 17) × AreToldAfter order shape image log more)
    ⊎ ((entry : Entry) × (entry_of e ≡ Some entry)
    × (((told.status ≡ 0) × IsPermitted order shape image log entry × AreToldAfter order shape image (log ++ entry.event ∷ []) more)
    ⊎ ((IsToldBroken order shape image log entry told ⊎ (told ≡ only 14)) × AreRepeated told more)))

-- one entry, and those behind it
told-entry : (e : BenchEntry) (told : Verdict) (more : List (BenchEntry × Verdict)) (order : ChannelOrder) (shape : Shape) (image : List ℕ) (log : List Event)
    (entry : Entry) (old next : Bench) → entry_of e ≡ Some entry → Follows order shape image log old.judge
    → ((log' : List Event) → next.fault ≡ None → Follows order shape image log' next.judge → AreToldAfter order shape image log' more)
    → (next.fault ≡ Some told → AreRepeated told more) → Judges old entry next told → TellsOn order shape image log e told more
told-entry e told more order shape image log entry old next is f goes again (inl takes) =
    let behind = takes.follows order shape image log f in
    inr (
      entry,
      is,
      inl (ap (λ (v : Verdict). v.status) takes.tells, behind.0, goes (log ++ entry.event ∷ []) takes.lawful behind.1),
    )
told-entry e told more order shape image log entry old next is f goes again (inr (inl refuses)) =
    inr (
      entry,
      is,
      inr (
        inl (record {
          breach = refuses.breach;
          breaks = refuses.breaks order shape image log f;
          status = ap (λ (v : Verdict). v.status) refuses.tells ∙ status-told refuses.breach;
          rule = ap (λ (v : Verdict). v.rule) refuses.tells;
        }),
        again (ap (λ (b : Bench). b.fault) refuses.keeps),
      ),
    )
told-entry e told more order shape image log entry old next is f goes again (inr (inr starves)) =
    inr (entry, is, inr (inr starves.tells, again starves.keeps))

-- what is no entry, or one
told-next : (o : Option Entry) (e : BenchEntry) (told : Verdict) (more : List (BenchEntry × Verdict)) (order : ChannelOrder) (shape : Shape) (image : List ℕ)
    (log : List Event) (old next : Bench) → entry_of e ≡ o → old.fault ≡ None → Follows order shape image log old.judge
    → ((log' : List Event) → next.fault ≡ None → Follows order shape image log' next.judge → AreToldAfter order shape image log' more)
    → (next.fault ≡ Some told → AreRepeated told more) → JudgesIf o old next told → TellsOn order shape image log e told more
told-next None e told more order shape image log old next is lawful f goes again h =
    inl (
      is,
      h.1,
      goes log (ap (λ (b : Bench). b.fault) h.0 ∙ lawful)
          (subst (λ (b : Bench). Follows order shape image log b.judge) (sym h.0) f),
    )
told-next (Some entry) e told more order shape image log old next is lawful f goes again h =
    told-entry e told more order shape image log entry old next is f goes again h

-- all of them
all-told : (seen : List (BenchEntry × Verdict)) (order : ChannelOrder) (shape : Shape) (image : List ℕ) (log : List Event) (old end : JudgeRoom) (b : Bench)
    → old.bench ≡ Some b → b.fault ≡ None → Follows order shape image log b.judge → AreSeen old seen end → AreToldAfter order shape image log seen
all-told [] order shape image log old end b was lawful f h = tt
all-told (x ∷ more) order shape image log old end b was lawful f h =
    let now : SeesOn (Some b) old x.0 h.0 x.1 = subst (λ (o : Option Bench). SeesOn o old x.0 h.0 x.1) was h.1 in (
      (λ shuts. ((now.0 shuts).1, closed-told more h.0 end (now.0 shuts).0 h.2)),
      (λ other.
          let on = now.1 other in
          let is_open : h.0.bench ≡ Some on.next = ap (λ (r : JudgeRoom). r.bench) on.is in
          told-next (entry_of x.0) x.0 x.1 more order shape image log b on.next refl lawful f
          (λ log' next_lawful follows. all-told more order shape image log' h.0 end on.next is_open next_lawful follows h.2)
          (λ keeps. repeated more h.0 end on.next x.1 is_open keeps h.2)
          (subst (λ (o : Option Verdict). SeesAt o b x.0 on.next x.1) lawful on.sees)),
    )

pub every-judging : EveryJudging
every-judging order shape image seen made end opened h =
    all-told seen order shape image [] made end opened.bench (ap (λ (r : JudgeRoom). r.bench) opened.is) opened.fresh.lawful opened.fresh.follows h
