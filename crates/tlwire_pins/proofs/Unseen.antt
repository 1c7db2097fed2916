-- Where nobody watched a core, stores may have made of its Tip what a message shows.
use Rattle.std.proofs.Common.{◌≡◌, ℕ, Bool, true, false, cond, List, [], ◌∷◌, ◌++◌, filter, Option, Some, None, refl, sym, ap, subst, ◌∙◌}
use Rattle.tl_types.specs.Message.{answer_bytes, probe_answer, surrender, surrender_bytes}
use Rattle.tl_types.specs.Parameters.{dirty_prune, probe_report}
use Rattle.tl_types.specs.Permission.{grant_perm, prune_from, prune_to, report_to}
use Rattle.tl_types.specs.declared.kind.Kind.{Kind}
use Rattle.tl_types.specs.declared.kind.Kind.TheVariants as kind
use Rattle.tl_types.specs.declared.message.Body.TheVariants as body
use Rattle.tl_types.specs.declared.message.Upward.TheVariants.{ProbeAck, Release}
use Rattle.tl_types.specs.declared.message.ProbeAnswer.{ProbeAnswer}
use Rattle.tl_types.specs.declared.message.Surrender.{Surrender}
use Rattle.tl_types.specs.declared.permission.Perm.{Perm}
use Rattle.tl_types.specs.declared.permission.Perm.TheVariants.{None as p_None, Branch, Tip}
use Rattle.tl_types.specs.declared.permission.ProbeCap.{ProbeCap}
use Rattle.tl_types.specs.declared.permission.ProbeCap.TheVariants.{ToB, ToN}
use Rattle.tl_types.specs.declared.permission.Prune.{Prune}
use Rattle.tl_types.specs.declared.permission.Prune.TheVariants.{TtoB, TtoN, BtoN}
use Rattle.tl_protocol.specs.Client.{bytes_or}
use Rattle.tl_protocol.specs.Copy.{bytes_of, clean_copy, dirty_bytes, perm_of, reduced}
use Rattle.tl_protocol.specs.declared.copy.CachedCopy.{CachedCopy}
use Rattle.tl_protocol.specs.declared.copy.CachedCopy.TheVariants.{Absent, Readable, Writable}
use Rattle.tl_protocol.specs.declared.shape.Shape.{Shape}
use Rattle.tlcheck_rules.specs.Differs.{IsMessage}
use Rattle.tlcheck_rules.specs.declared.entry.Shown.{Shown}
use Rattle.tlwire_search.specs.declared.seen.Seen.{Seen}
use Rattle.tlwire_search.specs.declared.seen.Seen.TheVariants.{OnLink, OnMemory, Load, Store}
use Rattle.tlwire_pins.specs.Pins.{is_message, is_own, own}
use Rattle.tlwire_pins.specs.View.{MayBeSeen, MayLine, MaySeeAs, after_line, after_message, after_seen, answer_of, as_shown, before_line, cap_to, keeps, led_by, release_of}
use Rattle.tlwire_pins.specs.Walk.{AllMay}
use Rattle.tlwire_pins.specs.declared.view.Cores.TheVariants.{Watched, Unseen}
use Rattle.tlwire_pins.specs.declared.view.Tap.{Tap}
use Rattle.tlwire_pins.specs.declared.view.View.{View}

-- two views agree in the permission and in what is waited for
pub record Agree (v w : View) : Type 0 where
  pub perm : perm_of v.held ≡ perm_of w.held
  pub wait : v.wait ≡ w.wait

-- ## Copies

-- a copy keeps its permission
pub shown_perm : (held : CachedCopy) (shown : Option (List ℕ)) → perm_of (as_shown held shown) ≡ perm_of held
shown_perm Absent shown = refl
shown_perm (Readable bytes) shown = refl
shown_perm (Writable bytes dirty) None = refl
shown_perm (Writable bytes dirty) (Some shown) = refl

-- what it is reduced to has a permission that the copy's alone says
abbrev least : Perm → Perm → Perm
least p_None q = p_None
least Branch p_None = p_None
least Branch Branch = Branch
least Branch Tip = Branch
least Tip q = q

reduced_perm : (held : CachedCopy) (q : Perm) → perm_of (reduced held q) ≡ least (perm_of held) q
reduced_perm Absent p_None = refl
reduced_perm Absent Branch = refl
reduced_perm Absent Tip = refl
reduced_perm (Readable bytes) p_None = refl
reduced_perm (Readable bytes) Branch = refl
reduced_perm (Readable bytes) Tip = refl
reduced_perm (Writable bytes dirty) p_None = refl
reduced_perm (Writable bytes dirty) Branch = refl
reduced_perm (Writable bytes dirty) Tip = refl

reduced_alike : (h k : CachedCopy) (q : Perm) → perm_of h ≡ perm_of k → perm_of (reduced h q) ≡ perm_of (reduced k q)
reduced_alike h k q e = reduced_perm h q ∙ (ap (λ (p : Perm). least p q) e ∙ sym (reduced_perm k q))

clean_perm : (p : Perm) (xs ys : List ℕ) → perm_of (clean_copy p xs) ≡ perm_of (clean_copy p ys)
clean_perm p_None xs ys = refl
clean_perm Branch xs ys = refl
clean_perm Tip xs ys = refl

-- ## Messages

-- a Release of a copy that is as the Release of another one shows it is the same
given_alike : (prune : Prune) (h k : CachedCopy) → perm_of h ≡ perm_of k → perm_of h ≡ prune_from prune
    → surrender prune (dirty_bytes (as_shown k (surrender_bytes (surrender prune (dirty_bytes h))))) ≡ surrender prune (dirty_bytes h)
given_alike BtoN h k e from = refl
given_alike TtoB Absent k e from = cc
given_alike TtoB (Readable bytes) k e from = cc
given_alike TtoB (Writable bytes true) Absent e from = cc
given_alike TtoB (Writable bytes true) (Readable other) e from = cc
given_alike TtoB (Writable bytes true) (Writable other dirty) e from = refl
given_alike TtoB (Writable bytes false) Absent e from = cc
given_alike TtoB (Writable bytes false) (Readable other) e from = cc
given_alike TtoB (Writable bytes false) (Writable other dirty) e from = refl
given_alike TtoN Absent k e from = cc
given_alike TtoN (Readable bytes) k e from = cc
given_alike TtoN (Writable bytes true) Absent e from = cc
given_alike TtoN (Writable bytes true) (Readable other) e from = cc
given_alike TtoN (Writable bytes true) (Writable other dirty) e from = refl
given_alike TtoN (Writable bytes false) Absent e from = cc
given_alike TtoN (Writable bytes false) (Readable other) e from = cc
given_alike TtoN (Writable bytes false) (Writable other dirty) e from = refl

-- and so is an answer
answer_alike : (asked : ProbeCap) (h k : CachedCopy) → perm_of h ≡ perm_of k
    → probe_answer (perm_of (as_shown k (answer_bytes (probe_answer (perm_of h) asked (dirty_bytes h))))) asked
    (dirty_bytes (as_shown k (answer_bytes (probe_answer (perm_of h) asked (dirty_bytes h)))))
    ≡ probe_answer (perm_of h) asked (dirty_bytes h)
answer_alike ToB Absent Absent e = refl
answer_alike ToB Absent (Readable other) e = cc
answer_alike ToB Absent (Writable other dirty) e = cc
answer_alike ToB (Readable bytes) Absent e = cc
answer_alike ToB (Readable bytes) (Readable other) e = refl
answer_alike ToB (Readable bytes) (Writable other dirty) e = cc
answer_alike ToB (Writable bytes true) Absent e = cc
answer_alike ToB (Writable bytes true) (Readable other) e = cc
answer_alike ToB (Writable bytes true) (Writable other dirty) e = refl
answer_alike ToB (Writable bytes false) Absent e = cc
answer_alike ToB (Writable bytes false) (Readable other) e = cc
answer_alike ToB (Writable bytes false) (Writable other dirty) e = refl
answer_alike ToN Absent Absent e = refl
answer_alike ToN Absent (Readable other) e = cc
answer_alike ToN Absent (Writable other dirty) e = cc
answer_alike ToN (Readable bytes) Absent e = cc
answer_alike ToN (Readable bytes) (Readable other) e = refl
answer_alike ToN (Readable bytes) (Writable other dirty) e = cc
answer_alike ToN (Writable bytes true) Absent e = cc
answer_alike ToN (Writable bytes true) (Readable other) e = cc
answer_alike ToN (Writable bytes true) (Writable other dirty) e = refl
answer_alike ToN (Writable bytes false) Absent e = cc
answer_alike ToN (Writable bytes false) (Readable other) e = cc
answer_alike ToN (Writable bytes false) (Writable other dirty) e = refl

release_is : (prune : Prune) (h k : CachedCopy) (message : Shown) → perm_of h ≡ perm_of k → perm_of h ≡ prune_from prune
    → IsMessage (release_of h prune) message → IsMessage (release_of (as_shown k message.bytes) prune) message
release_is prune h k message e from is =
    let bytes : message.bytes ≡ surrender_bytes (surrender prune (dirty_bytes h)) = sym is.1 in
    let same : surrender prune (dirty_bytes (as_shown k message.bytes)) ≡ surrender prune (dirty_bytes h) =
    ap (λ (b : Option (List ℕ)). surrender prune (dirty_bytes (as_shown k b))) bytes ∙ given_alike prune h k e from in
    subst (λ (s : Surrender). IsMessage (body.Upward (Release s)) message) (sym same) is

answer_is : (asked : ProbeCap) (h k : CachedCopy) (message : Shown) → perm_of h ≡ perm_of k → IsMessage (answer_of h asked) message
    → IsMessage (answer_of (as_shown k message.bytes) asked) message
answer_is asked h k message e is =
    let bytes : message.bytes ≡ answer_bytes (probe_answer (perm_of h) asked (dirty_bytes h)) = sym is.1 in
    let same : probe_answer (perm_of (as_shown k message.bytes)) asked (dirty_bytes (as_shown k message.bytes))
    ≡ probe_answer (perm_of h) asked (dirty_bytes h) =
    ap (λ (b : Option (List ℕ)). probe_answer (perm_of (as_shown k b)) asked (dirty_bytes (as_shown k b))) bytes ∙ answer_alike asked h k e in
    subst (λ (a : ProbeAnswer). IsMessage (body.Upward (ProbeAck a)) message) (sym same) is

-- ## A line

-- the view with the stores that a message shows
abbrev stored : View → Shown → View
stored w message = record w { held = as_shown w.held message.bytes }

stored_agrees : (v w : View) (message : Shown) → Agree v w → Agree v (stored w message)
stored_agrees v w message h = record { perm = h.perm ∙ sym (shown_perm w.held message.bytes); wait = h.wait }

-- what may be sent or taken in one of two views that agree may be in the other one with its stores, and they agree
-- behind it
abbrev Follows : View → View → Shown → Kind → Type 0
Follows v w message k =
    MaySeeAs (stored w message) message k × Agree (after_message v k message.bytes) (after_message (stored w message) k message.bytes)

message_follows : (v w : View) (message : Shown) (k : Kind) → Agree v w → MaySeeAs v message k → Follows v w message k
message_follows v w message (kind.AcquireBlock grow) h may = (
  (sym h.wait ∙ may.0, sym (stored_agrees v w message h).perm ∙ may.1),
  record { perm = (stored_agrees v w message h).perm; wait = refl },
)
message_follows v w message (kind.Release prune) h may = (
  (sym h.wait ∙ may.0, sym (stored_agrees v w message h).perm ∙ may.1, release_is prune v.held w.held message h.perm may.1 may.2),
  record { perm = reduced_alike v.held (stored w message).held (prune_to prune) (stored_agrees v w message h).perm; wait = refl },
)
message_follows v w message (kind.ReleaseData prune) h may = (
  (
    sym h.wait ∙ may.0,
    sym (stored_agrees v w message h).perm ∙ may.1,
    release_is (dirty_prune prune) v.held w.held message h.perm may.1 may.2,
  ),
  record {
    perm = reduced_alike v.held (stored w message).held (prune_to (dirty_prune prune)) (stored_agrees v w message h).perm;
    wait = refl;
  },
)
message_follows v w message (kind.ProbeAck report) h may = (
  (λ e. may.0 (h.wait ∙ e), answer_is (cap_to (report_to (probe_report report))) v.held w.held message h.perm may.1),
  record {
    perm = reduced_alike v.held (stored w message).held (report_to (probe_report report)) (stored_agrees v w message h).perm;
    wait = h.wait;
  },
)
message_follows v w message (kind.ProbeAckData prune) h may = (
  (λ e. may.0 (h.wait ∙ e), answer_is (cap_to (prune_to (dirty_prune prune))) v.held w.held message h.perm may.1),
  record {
    perm = reduced_alike v.held (stored w message).held (prune_to (dirty_prune prune)) (stored_agrees v w message h).perm;
    wait = h.wait;
  },
)
message_follows v w message (kind.Grant cap) h may = (
  tt,
  record {
    perm =
        clean_perm (grant_perm cap) (bytes_or message.bytes (bytes_of v.held)) (bytes_or message.bytes (bytes_of (stored w message).held));
    wait = refl;
  },
)
message_follows v w message (kind.GrantData cap) h may = (
  tt,
  record {
    perm =
        clean_perm (grant_perm cap) (bytes_or message.bytes (bytes_of v.held)) (bytes_or message.bytes (bytes_of (stored w message).held));
    wait = refl;
  },
)
message_follows v w message kind.ReleaseAck h may = (tt, record { perm = (stored_agrees v w message h).perm; wait = refl })
message_follows v w message kind.PutFullData h may = (tt, stored_agrees v w message h)
message_follows v w message kind.Get h may = (tt, stored_agrees v w message h)
message_follows v w message (kind.ProbeBlock cap) h may = (tt, stored_agrees v w message h)
message_follows v w message kind.AccessAck h may = (tt, stored_agrees v w message h)
message_follows v w message kind.AccessAckData h may = (tt, stored_agrees v w message h)
message_follows v w message kind.GrantAck h may = (tt, stored_agrees v w message h)

-- where each line may be seen with the loads and stores, each message may be without them
pub unseen_may : (shape : Shape) (xs : List Seen) (v w : View) → Agree v w → AllMay (keeps Watched) shape v xs → AllMay (keeps Unseen) shape w (filter is_message xs)
unseen_may shape [] v w h all = tt
unseen_may shape (OnLink c block message ∷ xs) v w h all =
    let one = message_follows v w message message.kind h all.0 in (
      one.0,
      unseen_may shape xs (after_message v message.kind message.bytes) (after_message (stored w message) message.kind message.bytes) one.1 all.1,
    )
unseen_may shape (OnMemory block message ∷ xs) v w h all = (
  tt,
  unseen_may shape xs v (before_line (keeps Unseen) w (OnMemory block message))
      (record { perm = h.perm ∙ sym (shown_perm w.held None); wait = h.wait }) all.1,
)
unseen_may shape (Load c address bytes ∷ xs) v w h all = unseen_may shape xs v w h all.1
unseen_may shape (Store c address bytes ∷ xs) v w h all =
    unseen_may shape xs (after_line shape v (Store c address bytes)) w (record { perm = sym all.0.1 ∙ h.perm; wait = h.wait }) all.1

-- ## All lines

-- a view agrees with itself
pub agrees : (v : View) → Agree v v
agrees v = record { perm = refl; wait = refl }

-- where each line may be seen behind those before it, all may
pub each_may : (shape : Shape) (all : List Seen) (v : View)
    → ((xs ys : List Seen) (x : Seen) → all ≡ xs ++ x ∷ ys → MayLine shape (led_by (keeps Watched) shape v xs) x) → AllMay (keeps Watched) shape v all
each_may shape [] v h = tt
each_may shape (x ∷ xs) v h = (
  h [] xs x refl,
  each_may shape xs (after_line shape v x) (λ ys zs y e. h (x ∷ ys) zs y (ap (λ (l : List Seen). x ∷ l) e)),
)

-- and where all may, each may behind those before it
pub one_may : (tap : Tap) (shape : Shape) (xs ys : List Seen) (x : Seen) (v : View) → AllMay tap shape v (xs ++ x ∷ ys)
    → MayBeSeen tap shape (led_by tap shape v xs) x
one_may tap shape [] ys x v all = all.0
one_may tap shape (y ∷ xs) ys x v all = one_may tap shape xs ys x (after_seen tap shape v y) all.1

-- and each of the first ones may
pub may_first : (tap : Tap) (shape : Shape) (v : View) (xs ys : List Seen) → AllMay tap shape v (xs ++ ys) → AllMay tap shape v xs
may_first tap shape v [] ys all = tt
may_first tap shape v (x ∷ xs) ys all = (all.0, may_first tap shape (after_seen tap shape v x) xs ys all.1)

-- the messages of a client and a block are those of its lines that are messages
kept_by : (t : Bool) (x : Seen) (xs : List Seen) → is_message x ≡ true
    → cond t (x ∷ filter is_message xs) (filter is_message xs) ≡ filter is_message (cond t (x ∷ xs) xs)
kept_by true x xs e = sym (ap (λ (u : Bool). cond u (x ∷ filter is_message xs) (filter is_message xs)) e)
kept_by false x xs e = refl

left_by : (t : Bool) (x : Seen) (xs : List Seen) → is_message x ≡ false → filter is_message xs ≡ filter is_message (cond t (x ∷ xs) xs)
left_by true x xs e = sym (ap (λ (u : Bool). cond u (x ∷ filter is_message xs) (filter is_message xs)) e)
left_by false x xs e = refl

pub messages_of : (shape : Shape) (c block : ℕ) (xs : List Seen) → own shape c block (filter is_message xs) ≡ filter is_message (own shape c block xs)
messages_of shape c block [] = refl
messages_of shape c block (OnLink x b message ∷ xs) =
    ap (λ (l : List Seen). cond (is_own shape c block (OnLink x b message)) (OnLink x b message ∷ l) l) (messages_of shape c block xs)
    ∙ kept_by (is_own shape c block (OnLink x b message)) (OnLink x b message) (own shape c block xs) refl
messages_of shape c block (OnMemory b message ∷ xs) = messages_of shape c block xs
messages_of shape c block (Load x address bytes ∷ xs) =
    messages_of shape c block xs ∙ left_by (is_own shape c block (Load x address bytes)) (Load x address bytes) (own shape c block xs) refl
messages_of shape c block (Store x address bytes ∷ xs) =
    messages_of shape c block xs ∙ left_by (is_own shape c block (Store x address bytes)) (Store x address bytes) (own shape c block xs) refl
