-- What the invariant says of the messages under way and of the Acquire that home serves.
use Rattle.std.proofs.Common.{◌≡◌, ℕ, zero, suc, ◌<◌, ◌≤◌, Bool, true, false, List, [], ◌∷◌, length, Option, Some, None, inl, inr, sym, refl, ap, ◌∙◌, subst, arith}
use Rattle.tl_types.specs.declared.permission.Perm.{Perm}
use Rattle.tl_types.specs.declared.permission.Perm.TheVariants.{None as p_None, Branch, Tip}
use Rattle.tl_types.specs.declared.permission.Grow.{Grow}
use Rattle.tl_types.specs.declared.permission.ProbeCap.{ProbeCap}
use Rattle.tl_types.specs.declared.permission.ProbeCap.TheVariants.{ToB as cap_ToB, ToN as cap_ToN}
use Rattle.tl_types.specs.declared.wait.Awaited.{Awaited}
use Rattle.tl_types.specs.declared.wait.Awaited.TheVariants.{ForGrant}
use Rattle.tl_types.specs.declared.message.Upward.{Upward}
use Rattle.tl_types.specs.declared.message.Upward.TheVariants.{ProbeAck, Release}
use Rattle.tl_types.specs.declared.message.Downward.{Downward}
use Rattle.tl_types.specs.declared.message.Downward.TheVariants.{Grant, ReleaseAck}
use Rattle.tl_protocol.specs.declared.copy.CachedCopy.{CachedCopy}
use Rattle.tl_protocol.specs.declared.client.Client.{Client}
use Rattle.tl_protocol.specs.declared.home.Accepted.{Accepted}
use Rattle.tl_protocol.specs.declared.home.Line.{Line}
use Rattle.tl_protocol.specs.declared.home.Outward.{Outward}
use Rattle.tl_protocol.specs.declared.home.Outward.TheVariants.{Quiet}
use Rattle.tl_protocol.specs.declared.shape.Shape.{Shape}
use Rattle.tl_protocol.specs.Client.{NoGrantPending}
use Rattle.tl_protocol.specs.Copy.{perm_of}
use Rattle.tl_protocol.specs.Pending.{IsGrantPending, Lead, IsOrderly, EveryRunKeepsMessages, EveryMessageLeadsDown, EveryAnswerIsWithin, IsServiceAt, EveryRunKeepsService}
use Rattle.tl_protocol.specs.Protocol.{Block}
use Rattle.tl_protocol.specs.Runs.{end_of}
use Rattle.tl_protocol.proofs.Invariant.{has_grant, Heard, Talk, Asks, IsAtMostOne, ClientIs, IsServed, HomeIs, Invariant}
use Rattle.tl_protocol.proofs.Messages.{to_le}
use Rattle.tl_protocol.proofs.Talk.{granted_talk, acked_talk, idle_talk}
use Rattle.tl_protocol.proofs.Coherent.{end_kept, home_there}

-- ## One client

-- at most one Acquire is on A
one_asks : (a : List Grow) (wait : Awaited) → Asks a wait → length a ≤ 1
one_asks [] wait asks = omega arith
one_asks (grow ∷ []) wait asks = omega arith
one_asks (first ∷ second ∷ rest) wait asks = absurd asks

-- its client waits for a Grant
asker_waits : (a : List Grow) (wait : Awaited) (grow : Grow) (rest : List Grow) → a ≡ grow ∷ rest → Asks a wait → wait ≡ ForGrant
asker_waits [] wait grow rest e asks = cc
asker_waits (own ∷ []) wait grow rest e asks = asks
asker_waits (first ∷ second ∷ more) wait grow rest e asks = absurd asks

-- at most one Probe is on B
one_on_b : (b : List ProbeCap) → IsAtMostOne b → length b ≤ 1
one_on_b [] one = omega arith
one_on_b (cap ∷ []) one = omega arith
one_on_b (first ∷ second ∷ rest) one = absurd one

-- at most two messages are on C
two_heard :
    (now : List ℕ) (held : CachedCopy) (wait : Awaited) (recorded : Perm) (b : List ProbeCap) (c : List Upward)
    → Heard now held wait recorded b c → length c ≤ 2
two_heard now held wait recorded b [] talk = omega arith
two_heard now held wait recorded b (ProbeAck answer ∷ []) talk = omega arith
two_heard now held wait recorded b (Release given ∷ []) talk = omega arith
two_heard now held wait recorded b (ProbeAck answer ∷ Release given ∷ []) talk = omega arith
two_heard now held wait recorded b (message ∷ rest) talk = absurd talk

-- whatever is on D, on which at most one message is
two_on_c :
    (now : List ℕ) (held : CachedCopy) (wait : Awaited) (recorded : Perm) (b : List ProbeCap) (c : List Upward) (d : List Downward)
    → Talk now held wait recorded b c d → (length c ≤ 2) × (length d ≤ 1)
two_on_c now held wait recorded b c [] talk = (two_heard now held wait recorded b c talk, omega arith)
two_on_c now held wait recorded b c (Grant cap bytes ∷ []) talk =
    let none : length c ≡ 0 = ap length talk.0 in (omega arith, omega arith)
two_on_c now held wait recorded b c (ReleaseAck ∷ []) talk =
    let none : length c ≡ 0 = ap length talk.0 in (omega arith, omega arith)
two_on_c now held wait recorded b c (first ∷ second ∷ rest) talk = absurd talk

-- the messages on C lead from what is recorded to what is held
heard_leads :
    (now : List ℕ) (held : CachedCopy) (wait : Awaited) (recorded : Perm) (b : List ProbeCap) (c : List Upward)
    → Heard now held wait recorded b c → Lead recorded c (perm_of held)
heard_leads now held wait recorded b [] talk = talk.1
heard_leads now held wait recorded b (ProbeAck answer ∷ []) talk = (talk.2.0, talk.2.1)
heard_leads now held wait recorded b (Release given ∷ []) talk = (talk.1.0, talk.1.1)
heard_leads now held wait recorded b (ProbeAck answer ∷ Release given ∷ []) talk = (talk.2.0, (talk.2.1, talk.3))
heard_leads now held wait recorded b (message ∷ rest) talk = absurd talk

-- so do none
none_lead : (c : List Upward) (from to : Perm) → c ≡ [] → from ≡ to → Lead from c to
none_lead [] from to e same = same
none_lead (message ∷ rest) from to e same = cc

-- whatever is on D but a Grant
talk_leads :
    (now : List ℕ) (held : CachedCopy) (wait : Awaited) (recorded : Perm) (b : List ProbeCap) (c : List Upward) (d : List Downward)
    → has_grant d ≡ false → Talk now held wait recorded b c d → Lead recorded c (perm_of held)
talk_leads now held wait recorded b c [] none talk = heard_leads now held wait recorded b c talk
talk_leads now held wait recorded b c (Grant cap bytes ∷ []) none talk = cc
talk_leads now held wait recorded b c (ReleaseAck ∷ []) none talk = none_lead c recorded (perm_of held) talk.0 talk.2
talk_leads now held wait recorded b c (first ∷ second ∷ rest) none talk = absurd talk

-- what holds of one client
pub orderly : (now : List ℕ) (k : Client) → ClientIs now k → IsOrderly k
orderly now k holds =
    let few = two_on_c now k.held k.wait k.recorded k.b k.c k.d holds.talk in
    record {
      one_acquire = one_asks k.a k.wait holds.asks;
      one_probe = one_on_b k.b holds.one_probe;
      two_on_c = few.0;
      one_on_d = few.1;
      one_grant_ack = holds.few;
      leads = λ none. talk_leads now k.held k.wait k.recorded k.b k.c k.d none holds.talk;
      asks = λ grow rest e. asker_waits k.a k.wait grow rest e holds.asks;
      below_tip = holds.no_tip;
      granted = λ cap bytes rest e.
          let known = granted_talk now k.held k.wait k.recorded k.b k.c cap bytes rest
          (subst (λ (d : List Downward). Talk now k.held k.wait k.recorded k.b k.c d) e holds.talk) in
          (known.1, known.2, known.0, known.3);
      acknowledged = λ rest e.
          let known = acked_talk now k.held k.wait k.recorded k.b k.c rest
          (subst (λ (d : List Downward). Talk now k.held k.wait k.recorded k.b k.c d) e holds.talk) in
          (known.1, known.0);
    }

-- no message on C leads upward
pub every_message_leads_down : EveryMessageLeadsDown
every_message_leads_down message = to_le message

-- an answer to a Probe leads to at most what the Probe leaves
pub every_answer_is_within : EveryAnswerIsWithin
every_answer_is_within p_None cap_ToB bytes = omega arith
every_answer_is_within p_None cap_ToN bytes = omega arith
every_answer_is_within Branch cap_ToB bytes = omega arith
every_answer_is_within Branch cap_ToN bytes = omega arith
every_answer_is_within Tip cap_ToB bytes = omega arith
every_answer_is_within Tip cap_ToN bytes = omega arith

-- ## Home

-- the Acquire that home serves is there
served_there :
    (accepted : Option Accepted) (x : ℕ) → IsServed accepted x
    → (acquire : Accepted) × (accepted ≡ Some acquire) × (acquire.client ≡ x)
served_there None x is = absurd is
served_there (Some acquire) x is = (acquire, refl, is)

-- it is its client's
is_served : (accepted : Option Accepted) (acquire : Accepted) → accepted ≡ Some acquire → IsServed accepted acquire.client
is_served accepted acquire e = subst (λ (o : Option Accepted). IsServed o acquire.client) (sym e) refl

-- a test that is not met fails
not_true : (t : Bool) → (t ≡ true → ⊥) → t ≡ false
not_true true n = absurd (n refl)
not_true false n = refl

-- no GrantAck is owed
none_owed : (e : ℕ) → (0 < e → ⊥) → e ≡ 0
none_owed zero n = refl
none_owed (suc e) n = absurd (n (omega arith))

-- where no Grant is pending at a client
none_pending : (k : Client) → (IsGrantPending k → ⊥) → NoGrantPending k
none_pending k n = (not_true (has_grant k.d) (λ g. n (inl g)), none_owed k.e (λ p. n (inr p)))

-- with a copy at home nothing is outward
quiet_there :
    (now memory : List ℕ) (home : Option Line) (outward : Outward) (client : ℕ → Client) (line : Line) → home ≡ Some line
    → HomeIs now memory home outward client → outward ≡ Quiet
quiet_there now memory None outward client line e h = cc
quiet_there now memory (Some own) outward client line e h = h.0

-- what holds of home and the Acquire that it serves
pub service_at : (shape : Shape) (now : List ℕ) (s : Block) → Invariant shape now s → IsServiceAt shape s
service_at shape now s holds = record {
  served = λ x pending. served_there s.accepted x (holds.service.served x pending);
  no_probe = λ x y pending. holds.service.no_probe x y pending;
  no_grant = λ none x. none_pending (s.client x)
      (λ pending. subst (λ (o : Option Accepted). IsServed o x) none (holds.service.served x pending));
  waits = λ acquire e none. holds.service.waits acquire.client (is_served s.accepted acquire e) none.1;
  settled = λ acquire e none probe.
      let k : Client = s.client acquire.client in
      let waits : k.wait ≡ ForGrant = (holds.service.waits acquire.client (is_served s.accepted acquire e) none.1).0 in
      let local : ClientIs now k = holds.local acquire.client in
      let idle = idle_talk now k.held k.wait k.recorded k.b k.c k.d waits probe.1 none.0 local.talk in
      (idle.0, idle.1, idle.2, λ tip. local.no_tip waits (sym idle.2 ∙ tip));
  room = holds.service.room;
  alone = holds.alone;
  at_home = λ x n. home_there now s.memory s.home s.outward s.client x n holds.home;
  quiet = λ line e. quiet_there now s.memory s.home s.outward s.client line e holds.home;
  outside = holds.outside;
}

-- ## Every run

-- each client's messages are in order
pub every_run_keeps_messages : EveryRunKeepsMessages
every_run_keeps_messages shape image events run block x =
    let kept = end_kept shape image events run block in
    orderly kept.now ((end_of shape image events block).client x) ((kept.inv).local x)

-- home serves one Acquire, and nothing else is pending beside its Grant
pub every_run_keeps_service : EveryRunKeepsService
every_run_keeps_service shape image events run block =
    let kept = end_kept shape image events run block in
    service_at shape kept.now (end_of shape image events block) kept.inv
