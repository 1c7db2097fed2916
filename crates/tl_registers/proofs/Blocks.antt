-- What an event that leaves the registers leaves of the blocks that they work on.
use Rattle.std.proofs.Common.{◌≡◌, ◌≢◌, ℕ, ◌≤◌, ◌==◌, true, false, List, [], ◌∷◌, Option, Some, None, refl, sym, ◌∙◌, ap, subst, arith, inl, inr, eqb-true}
use Rattle.std.proofs.lemmas.Bool.{cases_Bool}
use Rattle.std.specs.List.{list_any}
use Rattle.tl_types.specs.Message.{upward_to, upward_bytes, is_grant}
use Rattle.tl_types.specs.Bodies.{upward_from}
use Rattle.tl_types.specs.Permission.{rank}
use Rattle.tl_types.specs.declared.message.Downward.{Downward}
use Rattle.tl_types.specs.declared.message.Downward.TheVariants.{Grant, ReleaseAck}
use Rattle.tl_types.specs.declared.message.ProbeAnswer.TheVariants.{TtoB as a_TtoB, TtoN as a_TtoN, BtoB, BtoN as a_BtoN, NtoN}
use Rattle.tl_types.specs.declared.message.Surrender.TheVariants.{TtoB as s_TtoB, TtoN as s_TtoN, BtoN as s_BtoN}
use Rattle.tl_types.specs.declared.message.Upward.{Upward}
use Rattle.tl_types.specs.declared.message.Upward.TheVariants.{ProbeAck, Release}
use Rattle.tl_types.specs.declared.permission.Perm.TheVariants.{None as p_None, Tip}
use Rattle.tl_protocol.specs.Client.{first_bytes, took_c_from}
use Rattle.tl_protocol.specs.Pending.{Lead, IsOrderly, IsServiceAt}
use Rattle.tl_protocol.specs.Protocol.{Block, after, with_client, took_c, home_after, served, took_data}
use Rattle.tl_protocol.specs.declared.client.Client.{Client}
use Rattle.tl_protocol.specs.declared.event.Event.{Event}
use Rattle.tl_protocol.specs.declared.event.Event.TheVariants.{Load, Store, SendAcquire, SendRelease, AnswerProbe, TakeGrant, TakeReleaseAck, AcceptAcquire, SendProbe, TakeC, SendGrant, TakeGrantAck, SendGet, Serve, TakeData, Drop, SendPut, TakePutAck}
use Rattle.tl_protocol.specs.declared.home.Line.{Line}
use Rattle.tl_protocol.specs.declared.home.Outward.{Outward}
use Rattle.tl_protocol.specs.declared.home.Outward.TheVariants.{Quiet, Get, Data, Put, PutAck}
use Rattle.tl_protocol.specs.declared.shape.Shape.{Shape}
use Rattle.tl_protocol.proofs.Pending.{every_message_leads_down}
use Rattle.tl_registers.specs.Agree.{LeavesRegisters}
use Rattle.tl_registers.specs.Fit.{IsPutting, IsGetting}
use Rattle.tl_registers.proofs.Probes.{KeepsProbes, same-probes, released-probes, answered-probes, took_grant-probes, took_c-probes, fewer-grants}

-- What such an event does to a block: no Acquire is accepted or done with, the Probes of each client are kept, and home and what
-- is outward change only as a register that works on the block can bear.
pub record Keeps (s later : Block) : Type 0 where
  pub accepted : later.accepted ≡ s.accepted
  pub probes : (x : ℕ) → KeepsProbes (s.client x) (later.client x)
  pub putting : IsPutting s.outward → IsPutting later.outward
  pub getting : IsGetting s.outward → IsGetting later.outward
  pub quiet : s.outward ≡ Quiet → later.outward ≡ Quiet
  -- what passes to the memory goes on passing, unless it comes home
  pub passes : later.home ≡ None → s.outward ≢ Quiet → later.outward ≢ Quiet
  -- home gets a copy only by data from the memory, and never loses one
  pub lacks : later.home ≡ None → s.home ≡ None
  pub brings_none : s.outward ≡ Quiet → s.home ≡ None → later.home ≡ None
  pub holds : (line : Line) → s.home ≡ Some line → (now : Line) × (later.home ≡ Some now)

-- ## A client's step

-- what a step of one client keeps, the others keep too
pub put-probes : (s : Block) (c : ℕ) (k : Client) → KeepsProbes (s.client c) k → (x : ℕ) → KeepsProbes (s.client x) ((with_client s c k).client x)
put-probes s c k one x =
    elim (cases_Bool (x == c)) [
      | inl e ↦
          let P = λ (y : ℕ). KeepsProbes (s.client y) k in
          let here : KeepsProbes (s.client x) k = subst P (sym (eqb-true x c e)) one in
          rw e here
      | inr e ↦ rw e (same-probes (s.client x) (s.client x) refl refl refl (λ h. h))
    ]

-- a client's step that keeps its Probes keeps the block
client-keeps : (s : Block) (c : ℕ) (k : Client) → KeepsProbes (s.client c) k → Keeps s (with_client s c k)
client-keeps s c k one = record {
  accepted = refl;
  probes = put-probes s c k one;
  putting = λ h. h;
  getting = λ h. h;
  quiet = λ h. h;
  passes = λ none h. h;
  lacks = λ h. h;
  brings_none = λ q h. h;
  holds = λ line h. (line, h);
}

-- a block to which nothing happens is kept
pub nothing-keeps : (s : Block) → Keeps s s
nothing-keeps s = record {
  accepted = refl;
  probes = λ x. same-probes (s.client x) (s.client x) refl refl refl (λ h. h);
  putting = λ h. h;
  getting = λ h. h;
  quiet = λ h. h;
  passes = λ none h. h;
  lacks = λ h. h;
  brings_none = λ q h. h;
  holds = λ line h. (line, h);
}

-- ## Home takes a message of C

-- data comes from Tip
from-tip : (m : Upward) (bytes : List ℕ) → upward_bytes m ≡ Some bytes → upward_from m ≡ Tip
from-tip (ProbeAck (a_TtoB own)) bytes h = refl
from-tip (ProbeAck (a_TtoN own)) bytes h = refl
from-tip (ProbeAck BtoB) bytes h = cc
from-tip (ProbeAck a_BtoN) bytes h = cc
from-tip (ProbeAck NtoN) bytes h = cc
from-tip (Release (s_TtoB own)) bytes h = refl
from-tip (Release (s_TtoN own)) bytes h = refl
from-tip (Release s_BtoN) bytes h = cc

-- with a message on C no Grant is on D
no-grant-beside : (k : Client) (m : Upward) (rest : List Upward) (d : List Downward) → IsOrderly k → k.c ≡ m ∷ rest → k.d ≡ d
    → list_any is_grant d ≡ false
no-grant-beside k m rest [] orderly c is = refl
no-grant-beside k m rest (Grant cap bytes ∷ more) orderly c is =
    let none = (orderly.granted cap bytes more is).2 in cc
no-grant-beside k m rest (ReleaseAck ∷ more) orderly c is =
    let none = (orderly.acknowledged more is).1 in cc

-- the first message of C starts from what home records
pub first-from : (k : Client) (m : Upward) (rest : List Upward) → IsOrderly k → k.c ≡ m ∷ rest → k.recorded ≡ upward_from m
first-from k m rest orderly is =
    let none : list_any is_grant k.d ≡ false = no-grant-beside k m rest k.d orderly is refl in
    let lead : Lead k.recorded (m ∷ rest) _ = (rw is at (orderly.leads none)) in
    lead.0

-- the first message of C does not lead above what home records
first-down : (k : Client) (c : List Upward) → IsOrderly k → k.c ≡ c → (m : Upward) (rest : List Upward) → c ≡ m ∷ rest
    → rank (upward_to m) ≤ rank k.recorded
first-down k c orderly is m rest e =
    let from = first-from k m rest orderly (is ∙ e) in
    let down = every_message_leads_down m in
    omega (arith, ap rank from, down)

-- where home has no copy, the first message of C carries no data
bytes-none : (shape : Shape) (s : Block) (c : ℕ) (m : Upward) (rest : List Upward) (bytes : Option (List ℕ)) → IsServiceAt shape s
    → IsOrderly (s.client c) → (s.client c).c ≡ m ∷ rest → s.home ≡ None → upward_bytes m ≡ bytes → bytes ≡ None
bytes-none shape s c m rest None kept orderly is none e = refl
bytes-none shape s c m rest (Some bytes) kept orderly is none e =
    let from = first-from (s.client c) m rest orderly is in
    let tip : (s.client c).recorded ≡ Tip = from ∙ from-tip m bytes e in
    let there = kept.at_home c (λ n. let bad : Tip ≡ p_None = sym tip ∙ n in cc) in
    let bad : None ≡ Some there.0 = sym none ∙ there.1 in
    cc

-- where home has no copy, no data is first on C
no-data : (shape : Shape) (s : Block) (c : ℕ) (messages : List Upward) → IsServiceAt shape s → IsOrderly (s.client c)
    → (s.client c).c ≡ messages → s.home ≡ None → first_bytes messages ≡ None
no-data shape s c [] kept orderly is none = refl
no-data shape s c (m ∷ rest) kept orderly is none = bytes-none shape s c m rest (upward_bytes m) kept orderly is none refl

-- home that has no copy after a message of C had none before
no-home : (home : Option Line) (bytes : Option (List ℕ)) → home_after home bytes ≡ None → home ≡ None
no-home home None h = h
no-home home (Some bytes) h = cc

-- home that has a copy has one after a message of C
after-data : (home : Option Line) (bytes : Option (List ℕ)) (line : Line) → home ≡ Some line
    → (now : Line) × (home_after home bytes ≡ Some now)
after-data home None line h = (line, h)
after-data home (Some bytes) line h = (record { bytes = bytes; dirty = true }, refl)

-- home keeps the block as it takes a message of C
take_c-keeps : (shape : Shape) (s : Block) (c : ℕ) → IsServiceAt shape s → IsOrderly (s.client c) → Keeps s (took_c s c)
take_c-keeps shape s c kept orderly =
    let messages = (s.client c).c in
    record {
      accepted = refl;
      probes = put-probes s c (took_c_from (s.client c) messages) (took_c-probes (s.client c) messages refl (first-down (s.client c) messages orderly refl));
      putting = λ h. h;
      getting = λ h. h;
      quiet = λ h. h;
      passes = λ none h. h;
      lacks = λ h. no-home s.home (first_bytes messages) h;
      brings_none = λ q none. ap (home_after s.home) (no-data shape s c messages kept orderly refl none) ∙ none;
      holds = λ line h. after-data s.home (first_bytes messages) line h;
    }

-- ## The memory answers, and home takes its data

-- the memory's answer keeps the block
serve-keeps : (s : Block) (out : Outward) → s.outward ≡ out → Keeps s (served s out)
serve-keeps s Quiet is = nothing-keeps s
serve-keeps s Get is = record {
  accepted = refl;
  probes = λ x. same-probes (s.client x) (s.client x) refl refl refl (λ h. h);
  putting = λ h. absurd (rw is at h);
  getting = λ h. tt;
  quiet = λ h. let bad : Get ≡ Quiet = sym is ∙ h in cc;
  passes = λ none h e. cc;
  lacks = λ h. h;
  brings_none = λ q h. h;
  holds = λ line h. (line, h);
}
serve-keeps s (Data bytes) is = nothing-keeps s
serve-keeps s (Put bytes) is = record {
  accepted = refl;
  probes = λ x. same-probes (s.client x) (s.client x) refl refl refl (λ h. h);
  putting = λ h. tt;
  getting = λ h. absurd (rw is at h);
  quiet = λ h. let bad : Put bytes ≡ Quiet = sym is ∙ h in cc;
  passes = λ none h e. cc;
  lacks = λ h. h;
  brings_none = λ q h. h;
  holds = λ line h. (line, h);
}
serve-keeps s PutAck is = nothing-keeps s

-- home keeps the block as it takes the memory's data
take_data-keeps : (s : Block) (out : Outward) → s.outward ≡ out → Keeps s (took_data s out)
take_data-keeps s Quiet is = nothing-keeps s
take_data-keeps s Get is = nothing-keeps s
take_data-keeps s (Data bytes) is = record {
  accepted = refl;
  probes = λ x. same-probes (s.client x) (s.client x) refl refl refl (λ h. h);
  putting = λ h. tt;
  getting = λ h. tt;
  quiet = λ h. refl;
  passes = λ none h e. cc;
  lacks = λ h. cc;
  brings_none = λ q h. let bad : Data bytes ≡ Quiet = sym is ∙ q in cc;
  holds = λ line h. (_, refl);
}
take_data-keeps s (Put bytes) is = nothing-keeps s
take_data-keeps s PutAck is = nothing-keeps s

-- ## Each event that leaves the registers

-- each event that leaves the registers keeps its block
pub event-keeps : (shape : Shape) (s : Block) (e : Event) → LeavesRegisters e → IsServiceAt shape s
    → ((x : ℕ) → IsOrderly (s.client x)) → Keeps s (after shape s e)
event-keeps shape s (Load access) leaves kept orderly = nothing-keeps s
event-keeps shape s (Store access) leaves kept orderly =
    client-keeps s access.client _ (same-probes (s.client access.client) _ refl refl refl (λ h. h))
event-keeps shape s (SendAcquire c block grow) leaves kept orderly =
    client-keeps s c _ (same-probes (s.client c) _ refl refl refl (λ h. h))
event-keeps shape s (SendRelease c block prune) leaves kept orderly = client-keeps s c _ (released-probes (s.client c) prune)
event-keeps shape s (AnswerProbe c block) leaves kept orderly =
    client-keeps s c _ (answered-probes (s.client c) (s.client c).b refl)
event-keeps shape s (TakeGrant c block) leaves kept orderly = client-keeps s c _ (took_grant-probes (s.client c) (s.client c).d refl)
event-keeps shape s (TakeReleaseAck c block) leaves kept orderly =
    client-keeps s c _ (same-probes (s.client c) _ refl refl refl (fewer-grants (s.client c).d (s.client c).e))
event-keeps shape s (TakeC c block) leaves kept orderly = take_c-keeps shape s c kept (orderly c)
event-keeps shape s (Serve block) leaves kept orderly = serve-keeps s s.outward refl
event-keeps shape s (TakeData block) leaves kept orderly = take_data-keeps s s.outward refl
event-keeps shape s (AcceptAcquire c block) leaves kept orderly = absurd leaves
event-keeps shape s (SendProbe c block cap) leaves kept orderly = absurd leaves
event-keeps shape s (SendGrant c block) leaves kept orderly = absurd leaves
event-keeps shape s (TakeGrantAck c block) leaves kept orderly = absurd leaves
event-keeps shape s (SendGet block) leaves kept orderly = absurd leaves
event-keeps shape s (Drop block) leaves kept orderly = absurd leaves
event-keeps shape s (SendPut block) leaves kept orderly = absurd leaves
event-keeps shape s (TakePutAck block) leaves kept orderly = absurd leaves
