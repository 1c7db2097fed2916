-- What an event leaves of the Grants that are pending, and of which blocks home holds.
use Rattle.std.proofs.Common.{◌≡◌, ℕ, ◌==◌, false, List, [], ◌∷◌, Option, Some, None, is_none, refl, subst, inl, inr, eqb-true}
use Rattle.std.proofs.lemmas.Bool.{cases_Bool}
use Rattle.tl_registers.proofs.Closing.{fewer-acks}
use Rattle.tl_types.specs.declared.permission.Grow.{Grow}
use Rattle.tl_protocol.specs.declared.client.Client.{Client}
use Rattle.tl_protocol.specs.declared.event.Event.{Event}
use Rattle.tl_protocol.specs.declared.event.Event.TheVariants.{Load, Store, SendAcquire, SendRelease, AnswerProbe, TakeGrant, TakeReleaseAck, AcceptAcquire, SendProbe, TakeC, SendGrant, TakeGrantAck, SendGet, Serve, TakeData, Drop, SendPut, TakePutAck}
use Rattle.tl_protocol.specs.declared.home.Accepted.{Accepted}
use Rattle.tl_protocol.specs.declared.home.Line.{Line}
use Rattle.tl_protocol.specs.declared.home.Outward.{Outward}
use Rattle.tl_protocol.specs.declared.home.Outward.TheVariants.{Quiet, Get, Data, Put, PutAck}
use Rattle.tl_protocol.specs.declared.shape.Shape.{Shape}
use Rattle.tl_protocol.specs.Client.{took_grant_ack}
use Rattle.tl_protocol.specs.Pending.{IsServiceAt, IsOrderly}
use Rattle.tl_protocol.specs.Protocol.{Block, block_of, after, with_client, accepted_from, grants, served}
use Rattle.tl_protocol.specs.Runs.{after_next}
use Rattle.tl_registers.specs.Agree.{IsSteady}
use Rattle.tl_registers.specs.Pending.{has_grant_pending, grant_pending}
use Rattle.tl_registers.proofs.Blocks.{Keeps, event-keeps}
use Rattle.tl_registers.proofs.Pending.{any_below-false, any_below-none}
use Rattle.tl_bank_laws.proofs.Orders.{GrantsNothing}

-- ## Grants

-- a client at which no Grant was pending has none pending later
abbrev pub GrantsStayNone : Block → Block → Type 0
GrantsStayNone s later = (x : ℕ) → has_grant_pending (s.client x) ≡ false → has_grant_pending (later.client x) ≡ false

-- a block of which none was pending then has none pending later
pub none-pending : (shape : Shape) (s later : Block) → GrantsStayNone s later → grant_pending shape s ≡ false
    → grant_pending shape later ≡ false
none-pending shape s later stay h =
    any_below-none (λ x. has_grant_pending (later.client x)) shape.clients
    (λ x l. stay x (any_below-false (λ y. has_grant_pending (s.client y)) shape.clients x h l))

-- one client's step
put-none : (s : Block) (c : ℕ) (k : Client) → (has_grant_pending (s.client c) ≡ false → has_grant_pending k ≡ false) → GrantsStayNone s (with_client s c k)
put-none s c k one x h =
    elim (cases_Bool (x == c)) [
      | inl e ↦
          let here : has_grant_pending (s.client c) ≡ false = subst (λ (y : ℕ). has_grant_pending (s.client y) ≡ false) (eqb-true x c e) h in
          rw e (one here)
      | inr e ↦ rw e h
    ]

-- accepting an Acquire brings no Grant
accepted-none : (s : Block) (c : ℕ) (a : List Grow) → GrantsStayNone s (accepted_from s c a)
accepted-none s c [] x h = h
accepted-none s c (grow ∷ rest) x h = put-none s c (record (s.client c) { a = rest }) (λ n. n) x h

-- what keeps a block brings no Grant
kept-none : (shape : Shape) (s later : Block) → Keeps s later → GrantsStayNone s later
kept-none shape s later k x = (k.probes x).grants_none

-- an event that grants nothing brings no Grant
event-none : (shape : Shape) (s : Block) (e : Event) → GrantsNothing e → IsServiceAt shape s → ((x : ℕ) → IsOrderly (s.client x))
    → GrantsStayNone s (after shape s e)
event-none shape s (Load access) none kept orderly = kept-none shape s _ (event-keeps shape s (Load access) tt kept orderly)
event-none shape s (Store access) none kept orderly = kept-none shape s _ (event-keeps shape s (Store access) tt kept orderly)
event-none shape s (SendAcquire c block grow) none kept orderly = kept-none shape s _ (event-keeps shape s (SendAcquire c block grow) tt kept orderly)
event-none shape s (SendRelease c block prune) none kept orderly = kept-none shape s _ (event-keeps shape s (SendRelease c block prune) tt kept orderly)
event-none shape s (AnswerProbe c block) none kept orderly = kept-none shape s _ (event-keeps shape s (AnswerProbe c block) tt kept orderly)
event-none shape s (TakeGrant c block) none kept orderly = kept-none shape s _ (event-keeps shape s (TakeGrant c block) tt kept orderly)
event-none shape s (TakeReleaseAck c block) none kept orderly = kept-none shape s _ (event-keeps shape s (TakeReleaseAck c block) tt kept orderly)
event-none shape s (TakeC c block) none kept orderly = kept-none shape s _ (event-keeps shape s (TakeC c block) tt kept orderly)
event-none shape s (Serve block) none kept orderly = kept-none shape s _ (event-keeps shape s (Serve block) tt kept orderly)
event-none shape s (TakeData block) none kept orderly = kept-none shape s _ (event-keeps shape s (TakeData block) tt kept orderly)
event-none shape s (AcceptAcquire c block) none kept orderly = accepted-none s c (s.client c).a
event-none shape s (SendProbe c block cap) none kept orderly = put-none s c _ (λ h. h)
event-none shape s (SendGrant c block) none kept orderly = absurd none
event-none shape s (TakeGrantAck c block) none kept orderly = put-none (record s { accepted = None }) c (took_grant_ack (s.client c)) (fewer-acks (s.client c))
event-none shape s (SendGet block) none kept orderly = λ x h. h
event-none shape s (Drop block) none kept orderly = λ x h. h
event-none shape s (SendPut block) none kept orderly = λ x h. h
event-none shape s (TakePutAck block) none kept orderly = λ x h. h

-- after an event that grants nothing no Grant of a block is pending of which none was before
pub no-grant-comes : (shape : Shape) (states : ℕ → Block) (e : Event) (b : ℕ) → IsSteady shape states → GrantsNothing e
    → grant_pending shape (states b) ≡ false → grant_pending shape (after_next shape states e b) ≡ false
no-grant-comes shape states e b steady none h =
    elim (cases_Bool (b == block_of shape e)) [
      | inl t ↦ rw t (none-pending shape (states b) (after shape (states b) e) (event-none shape (states b) e none (steady.service b) (steady.orderly b)) h)
      | inr t ↦ rw t h
    ]

-- ## What home holds

-- the event brings home no block and takes none from it
abbrev pub HoldsOn : Event → Type 0
HoldsOn (TakeData block) = ⊥
HoldsOn (Drop block) = ⊥
HoldsOn (SendPut block) = ⊥
HoldsOn e = Unit {0}

-- where home lacks a block later just if it lacked it before, the test for that says the same later as before
none-as : (x y : Option Line) → (x ≡ None → y ≡ None) → (y ≡ None → x ≡ None) → is_none y ≡ is_none x
none-as None None f h = refl
none-as None (Some line) f h = let bad = f refl in cc
none-as (Some line) None f h = let bad = h refl in cc
none-as (Some line) (Some other) f h = refl

-- what a service says, it says also where nothing is outward
quiet-service : (shape : Shape) (s : Block) → IsServiceAt shape s → IsServiceAt shape (record s { outward = Quiet })
quiet-service shape s h = record {
  served = h.served;
  no_probe = h.no_probe;
  no_grant = h.no_grant;
  waits = h.waits;
  settled = h.settled;
  room = h.room;
  alone = h.alone;
  at_home = h.at_home;
  quiet = λ line is. refl;
  outside = h.outside;
}

-- data comes on C only of a block that home holds
take_c-holds : (shape : Shape) (s : Block) (c block : ℕ) → IsServiceAt shape s → ((x : ℕ) → IsOrderly (s.client x))
    → is_none (after shape s (TakeC c block)).home ≡ is_none s.home
take_c-holds shape s c block kept orderly =
    let t : Block = record s { outward = Quiet } in
    let k = event-keeps shape t (TakeC c block) tt (quiet-service shape s kept) orderly in
    none-as s.home (after shape s (TakeC c block)).home (λ h. k.brings_none refl h) (λ h. k.lacks h)

-- accepting an Acquire leaves whether home holds the block
accepted-holds : (s : Block) (c : ℕ) (a : List Grow) → is_none (accepted_from s c a).home ≡ is_none s.home
accepted-holds s c [] = refl
accepted-holds s c (grow ∷ rest) = refl

-- sending a Grant leaves it
grants-holds : (shape : Shape) (s : Block) (c : ℕ) (o : Option Accepted) → is_none (grants shape s c o).home ≡ is_none s.home
grants-holds shape s c None = refl
grants-holds shape s c (Some acquire) = refl

-- the memory's answer leaves it
served-holds : (s : Block) (o : Outward) → is_none (served s o).home ≡ is_none s.home
served-holds s Quiet = refl
served-holds s Get = refl
served-holds s (Data bytes) = refl
served-holds s (Put bytes) = refl
served-holds s PutAck = refl

-- an event that brings home no block and takes none from it leaves whether home holds this one
event-holds : (shape : Shape) (s : Block) (e : Event) → HoldsOn e → IsServiceAt shape s → ((x : ℕ) → IsOrderly (s.client x))
    → is_none (after shape s e).home ≡ is_none s.home
event-holds shape s (Load access) on kept orderly = refl
event-holds shape s (Store access) on kept orderly = refl
event-holds shape s (SendAcquire c block grow) on kept orderly = refl
event-holds shape s (SendRelease c block prune) on kept orderly = refl
event-holds shape s (AnswerProbe c block) on kept orderly = refl
event-holds shape s (TakeGrant c block) on kept orderly = refl
event-holds shape s (TakeReleaseAck c block) on kept orderly = refl
event-holds shape s (AcceptAcquire c block) on kept orderly = accepted-holds s c (s.client c).a
event-holds shape s (SendProbe c block cap) on kept orderly = refl
event-holds shape s (TakeC c block) on kept orderly = take_c-holds shape s c block kept orderly
event-holds shape s (SendGrant c block) on kept orderly = grants-holds shape s c s.accepted
event-holds shape s (TakeGrantAck c block) on kept orderly = refl
event-holds shape s (SendGet block) on kept orderly = refl
event-holds shape s (Serve block) on kept orderly = served-holds s s.outward
event-holds shape s (TakeData block) on kept orderly = absurd on
event-holds shape s (Drop block) on kept orderly = absurd on
event-holds shape s (SendPut block) on kept orderly = absurd on
event-holds shape s (TakePutAck block) on kept orderly = refl

-- such an event leaves which blocks home holds
pub home-holds-on : (shape : Shape) (states : ℕ → Block) (e : Event) (b : ℕ) → IsSteady shape states → HoldsOn e
    → is_none (after_next shape states e b).home ≡ is_none (states b).home
home-holds-on shape states e b steady on =
    elim (cases_Bool (b == block_of shape e)) [
      | inl t ↦ rw t (event-holds shape (states b) e on (steady.service b) (steady.orderly b))
      | inr t ↦ rw t refl
    ]
