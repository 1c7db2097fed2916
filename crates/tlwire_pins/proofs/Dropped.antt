-- Drops that nobody saw: the lines of a record may be seen where those of the record in full may.
use Rattle.std.proofs.Common.{◌≡◌, ◌==◌, ◌&&◌, ℕ, Bool, true, false, cond, List, [], ◌∷◌, None, refl, sym, ap, subst, ◌∙◌, inl, inr}
use Rattle.tl_types.specs.Codes.{channel_of}
use Rattle.tl_types.specs.Permission.{prune_to}
use Rattle.tl_types.specs.declared.kind.Kind.{Kind}
use Rattle.tl_types.specs.declared.kind.Kind.TheVariants as kind
use Rattle.tl_types.specs.declared.permission.Grow.TheVariants.{NtoB, NtoT, BtoT}
use Rattle.tl_types.specs.declared.permission.Perm.TheVariants.{None as p_None}
use Rattle.tl_types.specs.declared.permission.ProbeCap.TheVariants.{ToN}
use Rattle.tl_types.specs.declared.permission.ProbeReport.TheVariants as report
use Rattle.tl_types.specs.declared.permission.Prune.{Prune}
use Rattle.tl_types.specs.declared.permission.Prune.TheVariants.{TtoB, TtoN, BtoN}
use Rattle.tl_types.specs.declared.wait.Awaited.{Awaited}
use Rattle.tl_types.specs.declared.wait.Awaited.TheVariants.{Nothing}
use Rattle.tl_protocol.specs.Copy.{perm_of}
use Rattle.tl_protocol.specs.declared.copy.CachedCopy.{CachedCopy}
use Rattle.tl_protocol.specs.declared.copy.CachedCopy.TheVariants.{Absent, Readable, Writable}
use Rattle.tl_protocol.specs.declared.shape.Shape.{Shape}
use Rattle.tlcheck_rules.specs.Differs.{IsMessage}
use Rattle.tlcheck_rules.specs.declared.entry.Shown.{Shown}
use Rattle.tlwire_search.specs.declared.seen.Seen.{Seen}
use Rattle.tlwire_search.specs.declared.seen.Seen.TheVariants.{OnLink, OnMemory, Load, Store}
use Rattle.tlwire_pins.specs.Drops.{IsBehindDrop, IsInFull, behind_drop, has_nothing, release_ack_line, release_line, shows_nothing}
use Rattle.tlwire_pins.specs.Impossible.{dropper}
use Rattle.tlwire_pins.specs.Pins.{is_own, is_told, own}
use Rattle.tlwire_pins.specs.View.{MayBeSeen, MayLine, MaySeeAs, after_line, after_seen, answer_of, before_line, dropped, is_clean, is_idle, keeps, may_drop, with_stores}
use Rattle.tlwire_pins.specs.Walk.{AllMay}
use Rattle.tlwire_pins.specs.declared.view.Cores.{Cores}
use Rattle.tlwire_pins.specs.declared.view.Cores.TheVariants.{Watched, Unseen}
use Rattle.tlwire_pins.specs.declared.view.Tap.{Tap}
use Rattle.tlwire_pins.specs.declared.view.View.{View}
use Rattle.tlwire_pins.proofs.Unseen.{shown_perm}

-- ## A line before which nothing was dropped

-- what nobody saw stored keeps the permission
stores_perm : (cores : Cores) (v : View) (x : Seen) → perm_of (with_stores cores v x).held ≡ perm_of v.held
stores_perm Watched v x = refl
stores_perm Unseen v (OnLink c block message) = shown_perm v.held message.bytes
stores_perm Unseen v (OnMemory block message) = shown_perm v.held None
stores_perm Unseen v (Load c address bytes) = shown_perm v.held None
stores_perm Unseen v (Store c address bytes) = shown_perm v.held None

-- a copy that is not there cannot be dropped
none_is_clean : (cores : Cores) (held : CachedCopy) → perm_of held ≡ p_None → is_clean cores held ≡ false
none_is_clean cores Absent e = refl
none_is_clean cores (Readable bytes) e = cc
none_is_clean cores (Writable bytes dirty) e = cc

and_false : (t u : Bool) → u ≡ false → (t && u) ≡ false
and_false true u e = e
and_false false u e = refl

none_may_drop : (cores : Cores) (v : View) → perm_of v.held ≡ p_None → may_drop cores v ≡ false
none_may_drop cores v e = and_false (is_idle v.wait) (is_clean cores v.held) (none_is_clean cores v.held e)

-- a copy that answers by NtoN is none
answers_none : (held : CachedCopy) (message : Shown) → IsMessage (answer_of held ToN) message → message.kind ≡ kind.ProbeAck report.NtoN
    → perm_of held ≡ p_None
answers_none Absent message is e = refl
answers_none (Readable bytes) message is e = let same = is.0 in cc
answers_none (Writable bytes true) message is e = let same = is.0 in cc
answers_none (Writable bytes false) message is e = let same = is.0 in cc

-- who sends such a message has nothing
sent_from_none : (u : View) (message : Shown) (k : Kind) → MaySeeAs u message k → message.kind ≡ k → has_nothing k ≡ true → perm_of u.held ≡ p_None
sent_from_none u message (kind.AcquireBlock NtoB) may same e = may.1
sent_from_none u message (kind.AcquireBlock NtoT) may same e = may.1
sent_from_none u message (kind.AcquireBlock BtoT) may same e = cc
sent_from_none u message (kind.ProbeAck report.NtoN) may same e = answers_none u.held message may.1 same
sent_from_none u message (kind.ProbeAck report.TtoB) may same e = cc
sent_from_none u message (kind.ProbeAck report.TtoN) may same e = cc
sent_from_none u message (kind.ProbeAck report.BtoB) may same e = cc
sent_from_none u message (kind.ProbeAck report.BtoN) may same e = cc
sent_from_none u message (kind.ProbeAckData prune) may same e = cc
sent_from_none u message (kind.ProbeBlock cap) may same e = cc
sent_from_none u message (kind.Release prune) may same e = cc
sent_from_none u message (kind.ReleaseData prune) may same e = cc
sent_from_none u message (kind.Grant cap) may same e = cc
sent_from_none u message (kind.GrantData cap) may same e = cc
sent_from_none u message kind.PutFullData may same e = cc
sent_from_none u message kind.Get may same e = cc
sent_from_none u message kind.AccessAck may same e = cc
sent_from_none u message kind.AccessAckData may same e = cc
sent_from_none u message kind.ReleaseAck may same e = cc
sent_from_none u message kind.GrantAck may same e = cc

and_of : (t u : Bool) → (t ≡ true → u ≡ false) → (t && u) ≡ false
and_of true u h = h refl
and_of false u h = refl

-- what may be seen without a drop is seen with none before it
nothing_to_drop : (cores : Cores) (shape : Shape) (v : View) (x : Seen) → MayBeSeen (keeps cores) shape v x
    → (shows_nothing x && may_drop cores v) ≡ false
nothing_to_drop cores shape v (OnLink c block message) may =
    and_of (has_nothing message.kind) (may_drop cores v)
    (λ e. none_may_drop cores v
    (sym (stores_perm cores v (OnLink c block message))
    ∙ sent_from_none (with_stores cores v (OnLink c block message)) message message.kind may refl e))
nothing_to_drop cores shape v (OnMemory block message) may = refl
nothing_to_drop cores shape v (Load c address bytes) may = refl
nothing_to_drop cores shape v (Store c address bytes) may = refl

drop_or_not : (t u : Bool) (v : View) → u ≡ false → cond (t && u) (dropped v) v ≡ v
drop_or_not true u v e = ap (λ (b : Bool). cond b (dropped v) v) e
drop_or_not false u v e = refl

same_before : (tap : Tap) (shape : Shape) (v : View) (x : Seen) → MayBeSeen (keeps tap.cores) shape v x
    → before_line tap v x ≡ before_line (keeps tap.cores) v x
same_before tap shape v x may =
    ap (λ (u : View). with_stores tap.cores u x)
    (drop_or_not tap.drops (shows_nothing x && may_drop tap.cores v) v (nothing_to_drop tap.cores shape v x may))

-- ## A line before which a copy was dropped

idle : (wait : Awaited) → wait ≡ Nothing → is_idle wait ≡ true
idle wait e = ap (λ (w : Awaited). is_idle w) e

both : (t u : Bool) → t ≡ true → u ≡ true → (t && u) ≡ true
both true true a b = refl
both true false a b = b
both false u a b = a

-- what is given up without its bytes may be dropped
clean_given : (cores : Cores) (shape : Shape) (d b : ℕ) (held : CachedCopy) (wait : Awaited) (prune : Prune) → prune_to prune ≡ p_None
    → MayBeSeen (keeps cores) shape (record { held = held; wait = wait }) (release_line d b prune) → is_clean cores held ≡ true
clean_given cores shape d b held wait TtoB to may = cc
clean_given Watched shape d b Absent wait TtoN to may = let from = may.1 in cc
clean_given Watched shape d b (Readable bytes) wait TtoN to may = let from = may.1 in cc
clean_given Watched shape d b (Writable bytes true) wait TtoN to may = let same = may.2.0 in cc
clean_given Watched shape d b (Writable bytes false) wait TtoN to may = refl
clean_given Unseen shape d b Absent wait TtoN to may = let from = may.1 in cc
clean_given Unseen shape d b (Readable bytes) wait TtoN to may = let from = may.1 in cc
clean_given Unseen shape d b (Writable bytes dirty) wait TtoN to may = refl
clean_given Watched shape d b Absent wait BtoN to may = let from = may.1 in cc
clean_given Watched shape d b (Readable bytes) wait BtoN to may = refl
clean_given Watched shape d b (Writable bytes dirty) wait BtoN to may = let from = may.1 in cc
clean_given Unseen shape d b Absent wait BtoN to may = let from = may.1 in cc
clean_given Unseen shape d b (Readable bytes) wait BtoN to may = refl
clean_given Unseen shape d b (Writable bytes dirty) wait BtoN to may = let from = may.1 in cc

-- the client waits for nothing there
given_idle : (cores : Cores) (shape : Shape) (d b : ℕ) (v : View) (prune : Prune) → MayBeSeen (keeps cores) shape v (release_line d b prune)
    → v.wait ≡ Nothing
given_idle Watched shape d b v prune may = may.0
given_idle Unseen shape d b v prune may = may.0

-- what a Release of all and its ReleaseAck leave
behind_release : (cores : Cores) (shape : Shape) (d b : ℕ) (v : View) (prune : Prune) → prune_to prune ≡ p_None → v.wait ≡ Nothing
    → after_seen (keeps cores) shape (after_seen (keeps cores) shape v (release_line d b prune)) (release_ack_line d b) ≡ dropped v
behind_release cores shape d b v TtoB to idle = cc
behind_release Watched shape d b v TtoN to idle = ap (λ (w : Awaited). record { held = Absent; wait = w }) (sym idle)
behind_release Unseen shape d b v TtoN to idle = ap (λ (w : Awaited). record { held = Absent; wait = w }) (sym idle)
behind_release Watched shape d b v BtoN to idle = ap (λ (w : Awaited). record { held = Absent; wait = w }) (sym idle)
behind_release Unseen shape d b v BtoN to idle = ap (λ (w : Awaited). record { held = Absent; wait = w }) (sym idle)

dropped_if : (t u s : Bool) (v : View) → t ≡ true → u ≡ true → s ≡ true → cond (t && (u && s)) (dropped v) v ≡ dropped v
dropped_if true true true v a b c = refl
dropped_if true true false v a b c = cc
dropped_if true false s v a b c = cc
dropped_if false u s v a b c = cc

-- before such a line the copy is dropped
drops_before : (tap : Tap) (shape : Shape) (d b : ℕ) (v : View) (prune : Prune) (x : Seen) → tap.drops ≡ true → prune_to prune ≡ p_None
    → shows_nothing x ≡ true → MayBeSeen (keeps tap.cores) shape v (release_line d b prune)
    → before_line tap v x ≡ before_line (keeps tap.cores) (dropped v) x
drops_before tap shape d b v prune x drops to shows may =
    ap (λ (u : View). with_stores tap.cores u x)
    (dropped_if tap.drops (shows_nothing x) (may_drop tap.cores v) v drops shows
    (both (is_idle v.wait) (is_clean tap.cores v.held) (idle v.wait (given_idle tap.cores shape d b v prune may))
    (clean_given tap.cores shape d b v.held v.wait prune to may)))

-- ## All lines

-- the lines behind may be seen wherever those of the record in full may
abbrev MayBehind : Tap → Shape → List Seen → List Seen → Type 0
MayBehind tap shape rest seen = (v : View) → AllMay (keeps tap.cores) shape v rest → AllMay tap shape v seen

-- a line that is told, or one of another client or block
one_line : (tap : Tap) (shape : Shape) (t : Bool) (x : Seen) (rest seen : List Seen) → MayBehind tap shape rest seen
    → MayBehind tap shape (cond t (x ∷ rest) rest) (cond t (x ∷ seen) seen)
one_line tap shape false x rest seen go v all = go v all
one_line tap shape true x rest seen go v all =
    let same : before_line (keeps tap.cores) v x ≡ before_line tap v x = sym (same_before tap shape v x all.0) in (
      subst (λ (u : View). MayLine shape u x) same all.0,
      go (after_seen tap shape v x) (subst (λ (u : View). AllMay (keeps tap.cores) shape (after_line shape u x) rest) same all.1),
    )

-- one behind a drop
one_drop : (tap : Tap) (shape : Shape) (t : Bool) (d b : ℕ) (prune : Prune) (x : Seen) (rest seen : List Seen) → tap.drops ≡ true
    → prune_to prune ≡ p_None → shows_nothing x ≡ true → MayBehind tap shape rest seen
    → MayBehind tap shape
    (cond t (release_line d b prune ∷ cond t (release_ack_line d b ∷ cond t (x ∷ rest) rest) (cond t (x ∷ rest) rest))
    (cond t (release_ack_line d b ∷ cond t (x ∷ rest) rest) (cond t (x ∷ rest) rest)))
    (cond t (x ∷ seen) seen)
one_drop tap shape false d b prune x rest seen drops to shows go v all = go v all
one_drop tap shape true d b prune x rest seen drops to shows go v all =
    let left = behind_release tap.cores shape d b v prune to (given_idle tap.cores shape d b v prune all.0) in
    let behind : AllMay (keeps tap.cores) shape (dropped v) (x ∷ rest) =
    subst (λ (u : View). AllMay (keeps tap.cores) shape u (x ∷ rest)) left all.1.1 in
    let same : before_line (keeps tap.cores) (dropped v) x ≡ before_line tap v x = sym (drops_before tap shape d b v prune x drops to shows all.0) in (
      subst (λ (u : View). MayLine shape u x) same behind.0,
      go (after_seen tap shape v x) (subst (λ (u : View). AllMay (keeps tap.cores) shape (after_line shape u x) rest) same behind.1),
    )

-- what shows that a client has nothing is told at its pins
told_nothing : (k : Kind) → has_nothing k ≡ true → is_told (channel_of k) ≡ true
told_nothing (kind.AcquireBlock grow) e = refl
told_nothing (kind.ProbeAck reported) e = refl
told_nothing (kind.ProbeAckData prune) e = cc
told_nothing (kind.ProbeBlock cap) e = cc
told_nothing (kind.Release prune) e = cc
told_nothing (kind.ReleaseData prune) e = cc
told_nothing (kind.Grant cap) e = cc
told_nothing (kind.GrantData cap) e = cc
told_nothing kind.PutFullData e = cc
told_nothing kind.Get e = cc
told_nothing kind.AccessAck e = cc
told_nothing kind.AccessAckData e = cc
told_nothing kind.ReleaseAck e = cc
told_nothing kind.GrantAck e = cc

second : (t u : Bool) → (t && u) ≡ true → u ≡ true
second true u e = e
second false u e = cc

module _ (tap : Tap) (shape : Shape) (c block : ℕ) where
  -- one message behind a drop
  message_behind : (d b : ℕ) (message : Shown) (prune : Prune) (rest seen : List Seen) → IsBehindDrop (dropper tap c) prune (OnLink d b message)
      → MayBehind tap shape (own shape c block rest) (own shape c block seen)
      → MayBehind tap shape (own shape c block (behind_drop prune (OnLink d b message) rest)) (own shape c block (OnLink d b message ∷ seen))
  message_behind d b message prune rest seen behind go =
      let x : Seen = OnLink d b message in
      let at : Bool = (d == c) && (b == block) && true in
      let same : at ≡ is_own shape c block x = ap (λ (u : Bool). (d == c) && (b == block) && u) (sym (told_nothing message.kind behind.2)) in
      let xs : List Seen = own shape c block rest in
      let ys : List Seen = own shape c block seen in
      subst
      (λ (t : Bool).
      MayBehind tap shape
      (cond at (release_line d b prune ∷ cond at (release_ack_line d b ∷ cond t (x ∷ xs) xs) (cond t (x ∷ xs) xs))
      (cond at (release_ack_line d b ∷ cond t (x ∷ xs) xs) (cond t (x ∷ xs) xs)))
      (cond t (x ∷ ys) ys)) same
      (one_drop tap shape at d b prune x xs ys (second (d == c) tap.drops behind.0) behind.1 behind.2 go)

  -- each line
  all_behind : (seen full : List Seen) → IsInFull (dropper tap c) seen full → MayBehind tap shape (own shape c block full) (own shape c block seen)
  all_behind [] full e = λ v all. tt
  all_behind (x ∷ seen) full (rest, filled, inl e) =
      subst (λ (xs : List Seen). MayBehind tap shape (own shape c block xs) (own shape c block (x ∷ seen))) (sym e)
      (one_line tap shape (is_own shape c block x) x (own shape c block rest) (own shape c block seen) (all_behind seen rest filled))
  all_behind (OnLink d b message ∷ seen) full (rest, filled, inr (prune, behind, e)) =
      subst (λ (xs : List Seen). MayBehind tap shape (own shape c block xs) (own shape c block (OnLink d b message ∷ seen))) (sym e)
      (message_behind d b message prune rest seen behind (all_behind seen rest filled))
  all_behind (OnMemory b message ∷ seen) full (rest, filled, inr (prune, behind, e)) = absurd behind
  all_behind (Load d address bytes ∷ seen) full (rest, filled, inr (prune, behind, e)) = absurd behind
  all_behind (Store d address bytes ∷ seen) full (rest, filled, inr (prune, behind, e)) = absurd behind

-- where each line of the record in full may be seen, each line of the record may, with the drops before it
pub may_behind_drops : (tap : Tap) (shape : Shape) (c block : ℕ) (seen full : List Seen) (v : View) → IsInFull (dropper tap c) seen full
    → AllMay (keeps tap.cores) shape v (own shape c block full) → AllMay tap shape v (own shape c block seen)
may_behind_drops tap shape c block seen full v filled all = all_behind tap shape c block seen full filled v all
