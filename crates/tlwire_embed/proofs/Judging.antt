-- What a judge at a client's pins tells of all lines that it sees.
use Rattle.std.proofs.Common.{◌≡◌, ◌⊎◌, inl, inr, ℕ, List, [], ◌∷◌, ◌++◌, Option, Some, None, refl, sym, ◌∙◌, ap, subst}
use Rattle.tl_protocol.specs.declared.shape.Shape.{Shape}
use Rattle.tlwire_search.specs.Where.{block_of}
use Rattle.tlwire_search.specs.declared.seen.Seen.{Seen}
use Rattle.tlwire_pins.specs.Judged.{EachMay, Follows, holds}
use Rattle.tlwire_pins.specs.View.{keeps}
use Rattle.tlwire_pins.specs.declared.judge.PinsJudge.{PinsJudge}
use Rattle.tlwire_pins.specs.declared.view.Cores.{Cores}
use Rattle.tlwire_pins.specs.declared.view.View.{View}
use Rattle.tlwire_embed.specs.Histories.{AllTold, AreRepeated, AreSeen, AreToldBehind, EveryJudgingAtPins, IsToldBroken, taken_told}
use Rattle.tlwire_embed.specs.Lines.{line_of}
use Rattle.tlwire_embed.specs.Opens.{SeesOn, closed}
use Rattle.tlwire_embed.specs.Sees.{Judges, JudgesIf, SeesAt, state_told}
use Rattle.tlwire_embed.specs.Told.{only, with_view}
use Rattle.tlwire_embed.specs.declared.bench.PinsBench.{PinsBench}
use Rattle.tlwire_embed.specs.declared.line.PinsLine.{PinsLine}
use Rattle.tlwire_embed.specs.declared.room.PinsRoom.{PinsRoom}
use Rattle.tlwire_embed.specs.declared.verdict.PinsVerdict.{PinsVerdict}

-- a closed judge tells each that it is closed
closed-told : (seen : List (PinsLine × PinsVerdict)) (old end : PinsRoom) → old ≡ closed 18 → AreSeen old seen end
    → AllTold (record (only 18) { why = 18 }) seen
closed-told [] old end is h = tt
closed-told (x ∷ more) old end is h =
    let now : SeesOn None old x.0 h.0 x.1 =
    subst (λ (o : Option PinsBench). SeesOn o old x.0 h.0 x.1) (ap (λ (r : PinsRoom). r.bench) is) h.1 in
    (now.1 ∙ ap (λ (r : PinsRoom). record (only 18) { why = r.status }) is, closed-told more h.0 end (now.0 ∙ is) h.2)

-- after a fault each is told it again
repeated : (seen : List (PinsLine × PinsVerdict)) (old end : PinsRoom) (b : PinsBench) (fault : PinsVerdict) → old.bench ≡ Some b
    → b.fault ≡ Some fault → AreSeen old seen end → AreRepeated fault seen
repeated [] old end b fault was is h = tt
repeated (x ∷ more) old end b fault was is h =
    let now : SeesOn (Some b) old x.0 h.0 x.1 = subst (λ (o : Option PinsBench). SeesOn o old x.0 h.0 x.1) was h.1 in (
      (λ shuts. ((now.0 shuts).1, closed-told more h.0 end (now.0 shuts).0 h.2)),
      (λ other.
          let on = now.1 other in
          let again : SeesAt (Some fault) b x.0 on.next x.1 =
          subst (λ (o : Option PinsVerdict). SeesAt o b x.0 on.next x.1) is on.sees in (
            again.1,
            repeated more h.0 end on.next fault (ap (λ (r : PinsRoom). r.bench) on.is) (ap (λ (c : PinsBench). c.fault) again.0 ∙ is) h.2,
          )),
    )

-- the state that a judge tells is what the lines lead to
state-told : (cores : Cores) (shape : Shape) (c : ℕ) (lines : List Seen) (x : Seen) (j : PinsJudge) → Follows cores shape c lines j
    → state_told j x ≡ taken_told cores shape c lines x
state-told cores shape c lines x j f =
    ap (λ (s : Shape). with_view (holds j (block_of s.block_bytes x)) (only 0)) f.same_shape
    ∙ ap (λ (v : View). with_view v (only 0)) (f.led (block_of shape.block_bytes x))

-- what is told of one line, and of those behind it
abbrev TellsOn : Cores → Shape → ℕ → List Seen → PinsLine → PinsVerdict → List (PinsLine × PinsVerdict) → Type 0
TellsOn cores shape c lines l told more =
    ((line_of cores shape l ≡ None) × (told ≡ only 17) × AreToldBehind cores shape c lines more)
    ⊎ ((line : Seen) × (line_of cores shape l ≡ Some line)
    × ((EachMay (keeps cores) shape c (lines ++ line ∷ []) × (told ≡ taken_told cores shape c (lines ++ line ∷ []) line)
    × AreToldBehind cores shape c (lines ++ line ∷ []) more)
    ⊎ ((IsToldBroken cores shape c lines line told ⊎ (told ≡ only 14)) × AreRepeated told more)))

-- one line, and those behind it
told-line : (l : PinsLine) (told : PinsVerdict) (more : List (PinsLine × PinsVerdict)) (cores : Cores) (shape : Shape) (c : ℕ)
    (lines : List Seen) (line : Seen) (old next : PinsBench) → line_of cores shape l ≡ Some line → Follows cores shape c lines old.judge
    → ((lines' : List Seen) → next.fault ≡ None → Follows cores shape c lines' next.judge → AreToldBehind cores shape c lines' more)
    → (next.fault ≡ Some told → AreRepeated told more) → Judges old line next told → TellsOn cores shape c lines l told more
told-line l told more cores shape c lines line old next is f goes again (inl takes) =
    let behind : Follows cores shape c (lines ++ line ∷ []) next.judge = takes.follows cores shape c lines f in
    inr (
      line,
      is,
      inl (
        behind.may,
        takes.tells ∙ state-told cores shape c (lines ++ line ∷ []) line next.judge behind,
        goes (lines ++ line ∷ []) takes.lawful behind,
      ),
    )
told-line l told more cores shape c lines line old next is f goes again (inr (inl refuses)) =
    inr (
      line,
      is,
      inr (
        inl (record {
          broken = refuses.broken;
          breaks = refuses.breaks cores shape c lines f;
          tells = refuses.tells;
        }),
        again refuses.keeps,
      ),
    )
told-line l told more cores shape c lines line old next is f goes again (inr (inr starves)) =
    inr (line, is, inr (inr starves.tells, again starves.keeps))

-- what is no line, or one
told-next : (o : Option Seen) (l : PinsLine) (told : PinsVerdict) (more : List (PinsLine × PinsVerdict)) (cores : Cores) (shape : Shape)
    (c : ℕ) (lines : List Seen) (old next : PinsBench) → line_of cores shape l ≡ o → old.fault ≡ None
    → Follows cores shape c lines old.judge
    → ((lines' : List Seen) → next.fault ≡ None → Follows cores shape c lines' next.judge → AreToldBehind cores shape c lines' more)
    → (next.fault ≡ Some told → AreRepeated told more) → JudgesIf o old next told → TellsOn cores shape c lines l told more
told-next None l told more cores shape c lines old next is lawful f goes again h =
    inl (
      is,
      h.1,
      goes lines (ap (λ (b : PinsBench). b.fault) h.0 ∙ lawful)
          (subst (λ (b : PinsBench). Follows cores shape c lines b.judge) (sym h.0) f),
    )
told-next (Some line) l told more cores shape c lines old next is lawful f goes again h =
    told-line l told more cores shape c lines line old next is f goes again h

-- what a judge that follows the lines takes the numbers for
line-there : (cores : Cores) (shape : Shape) (c : ℕ) (lines : List Seen) (j : PinsJudge) (l : PinsLine) → Follows cores shape c lines j
    → line_of j.cores j.shape l ≡ line_of cores shape l
line-there cores shape c lines j l f =
    ap (λ (k : Cores). line_of k j.shape l) f.same_cores ∙ ap (λ (s : Shape). line_of cores s l) f.same_shape

-- all of them
all-told : (seen : List (PinsLine × PinsVerdict)) (cores : Cores) (shape : Shape) (c : ℕ) (lines : List Seen) (old end : PinsRoom)
    (b : PinsBench) → old.bench ≡ Some b → b.fault ≡ None → Follows cores shape c lines b.judge → AreSeen old seen end
    → AreToldBehind cores shape c lines seen
all-told [] cores shape c lines old end b was lawful f h = tt
all-told (x ∷ more) cores shape c lines old end b was lawful f h =
    let now : SeesOn (Some b) old x.0 h.0 x.1 = subst (λ (o : Option PinsBench). SeesOn o old x.0 h.0 x.1) was h.1 in (
      (λ shuts. ((now.0 shuts).1, closed-told more h.0 end (now.0 shuts).0 h.2)),
      (λ other.
          let on = now.1 other in
          let is_open : h.0.bench ≡ Some on.next = ap (λ (r : PinsRoom). r.bench) on.is in
          told-next (line_of cores shape x.0) x.0 x.1 more cores shape c lines b on.next refl lawful f
          (λ lines' next_lawful follows. all-told more cores shape c lines' h.0 end on.next is_open next_lawful follows h.2)
          (λ keeps. repeated more h.0 end on.next x.1 is_open keeps h.2)
          (subst (λ (o : Option Seen). JudgesIf o b on.next x.1) (line-there cores shape c lines b.judge x.0 f)
          (subst (λ (o : Option PinsVerdict). SeesAt o b x.0 on.next x.1) lawful on.sees))),
    )

pub every-judging-at-pins : EveryJudgingAtPins
every-judging-at-pins cores shape c seen made end opened h =
    all-told seen cores shape c [] made end opened.bench (ap (λ (r : PinsRoom). r.bench) opened.is) opened.fresh.lawful opened.fresh.follows h
