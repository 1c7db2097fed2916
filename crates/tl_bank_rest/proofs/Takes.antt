-- Each call that is answered is taken.
use Rattle.std.proofs.Common.{◌≡◌, ℕ, ◌&&◌, not, Bool, true, false, List, [], ◌∷◌, Some, None, refl, ◌∙◌, ap, subst}
use Rattle.std.specs.List.{All}
use Rattle.std.proofs.lemmas.List.Elements.{All-head}
use Rattle.tl_types.specs.Bodies.{body_kind, is_a_grant, upward_kind}
use Rattle.tl_types.specs.Codes.{channel_of}
use Rattle.tl_types.specs.declared.channel.Channel.{Channel}
use Rattle.tl_types.specs.declared.channel.Channel.TheVariants.{A, B, C, D, E}
use Rattle.tl_types.specs.declared.message.Body.{Body}
use Rattle.tl_types.specs.declared.message.Body.TheVariants.{AcquireBlock, ProbeBlock, Upward as b_Upward, Downward as b_Downward, GrantAck}
use Rattle.tl_types.specs.declared.message.Downward.TheVariants.{Grant, ReleaseAck}
use Rattle.tl_types.specs.declared.message.Message.{Message}
use Rattle.tl_types.specs.declared.message.ProbeAnswer.TheVariants.{TtoB as a_TtoB, TtoN as a_TtoN, BtoB, BtoN as a_BtoN, NtoN}
use Rattle.tl_types.specs.declared.message.Surrender.TheVariants.{TtoB as s_TtoB, TtoN as s_TtoN, BtoN as s_BtoN}
use Rattle.tl_types.specs.declared.message.Upward.{Upward}
use Rattle.tl_types.specs.declared.message.Upward.TheVariants.{ProbeAck, Release}
use Rattle.tl_types.specs.declared.ticket.Ticket.{Ticket}
use Rattle.tl_map.specs.Limits.{IsLawful}
use Rattle.tl_protocol.specs.declared.home.Outward.{Outward}
use Rattle.tl_protocol_lanes.proofs.Logs.{messages_fit_their_channels}
use Rattle.tl_protocol_lanes.specs.Lawful.{Lawful}
use Rattle.tl_bank_spec.specs.Calls.{answer_probe_cases, shared_ticket_cases, take_grant_cases, take_release_ack_cases, ticket_cases}
use Rattle.tl_bank_spec.specs.Cases.{any_body, begins, block_named, is_a_release, is_a_release_ack, link_full, release_pending, waiting_at}
use Rattle.tl_bank_spec.specs.HomeCalls.{accept_cases, serve_memory_cases, take_c_cases, take_grant_ack_cases, take_memory_cases}
use Rattle.tl_bank_spec.specs.HomeCases.{answer_full, busy, is_reply, is_request, no_register}
use Rattle.tl_bank_spec.specs.View.{View, shape_of}
use Rattle.tl_bank_spec.specs.Views.{outward_at}
use Rattle.tl_bank_spec.specs.declared.refusal.Refusal.TheVariants.{BlockBusy, LinkFull, NoRegister, ReleasePending}
use Rattle.tl_bank_rest.proofs.Acting.{none-busy, none-refuses, shown-outward}
use Rattle.tl_bank_rest.proofs.Cases.{empty-room, head-cases, none-more, not-refused, shared-cases}
use Rattle.tl_bank_rest.proofs.Quiet.{no-release}
use Rattle.tl_bank_rest.specs.Heads.{IsEmpty, IsHead}
use Rattle.tl_bank_rest.specs.Shares.{share_of}
use Rattle.tl_bank_rest.specs.Taken.{IsTaken}
use Rattle.tl_bank_rest.specs.declared.receiving.Receiving.TheVariants.{TakeGrantAck, TakeGrant, TakeReleaseAck, TakeC, AnswerProbe, ServeMemory, TakeMemory, Accept}

-- the first message on E
pub taken_on_e : (v : View) (ticket : Ticket) (message : Message) → IsHead v E ticket message → IsTaken v (TakeGrantAck ticket)
taken_on_e v ticket message h = not-refused (take_grant_ack_cases v ticket) (head-cases v E ticket message any_body h refl)

-- a Grant that is first on D, where nothing is on E
pub taken_grant : (v : View) (ticket : Ticket) (message : Message) → IsHead v D ticket message → IsEmpty v E
    → is_a_grant message.body ≡ true → IsTaken v (TakeGrant ticket)
taken_grant v ticket message h e is =
    not-refused (take_grant_cases v ticket (share_of v ticket.client))
    (none-more (shared_ticket_cases v ticket (share_of v ticket.client) D is_a_grant) ((link_full v ticket.client E, LinkFull) ∷ [])
    (shared-cases v D ticket message is_a_grant h is) (empty-room v ticket.client E (e ticket.client h.client), tt))

-- two tests of which the second fails do not both hold
and-false : (a b : Bool) → b ≡ false → (a && b) ≡ false
and-false true b e = e
and-false false b e = refl

-- no answer to a Probe and no Release is on D
upward-not : (message : Upward) → channel_of (upward_kind message) ≡ D → is_a_release_ack (b_Upward message) ≡ true
upward-not (ProbeAck (a_TtoB None)) on = cc
upward-not (ProbeAck (a_TtoB (Some bytes))) on = cc
upward-not (ProbeAck (a_TtoN None)) on = cc
upward-not (ProbeAck (a_TtoN (Some bytes))) on = cc
upward-not (ProbeAck BtoB) on = cc
upward-not (ProbeAck a_BtoN) on = cc
upward-not (ProbeAck NtoN) on = cc
upward-not (Release (s_TtoB None)) on = cc
upward-not (Release (s_TtoB (Some bytes))) on = cc
upward-not (Release (s_TtoN None)) on = cc
upward-not (Release (s_TtoN (Some bytes))) on = cc
upward-not (Release s_BtoN) on = cc

-- what is on D and no Grant is a ReleaseAck
ack-is : (body : Body) → channel_of (body_kind body) ≡ D → is_a_grant body ≡ false → is_a_release_ack body ≡ true
ack-is (AcquireBlock grow) on none = cc
ack-is (ProbeBlock cap) on none = cc
ack-is (b_Upward message) on none = upward-not message on
ack-is (b_Downward (Grant cap bytes)) on none = cc
ack-is (b_Downward ReleaseAck) on none = refl
ack-is GrantAck on none = cc

-- the first message of a channel is of its kind
head-fits : (v : View) (channel : Channel) (ticket : Ticket) (message : Message) → IsHead v channel ticket message
    → channel_of (body_kind message.body) ≡ channel
head-fits v channel ticket message h =
    let P : List Message → Type 0 = λ xs. All (λ m. channel_of (body_kind m.body) ≡ channel) xs in
    All-head (λ (m : Message). channel_of (body_kind m.body) ≡ channel) message h.rest
    (subst P h.first (messages_fit_their_channels (shape_of v.geometry) v.image v.log ticket.client channel))

-- a ReleaseAck that is first on D
pub taken_ack : (v : View) (ticket : Ticket) (message : Message) → IsHead v D ticket message → is_a_grant message.body ≡ false
    → IsTaken v (TakeReleaseAck ticket)
taken_ack v ticket message h none =
    not-refused (take_release_ack_cases v ticket)
    (head-cases v D ticket message is_a_release_ack h (ack-is message.body (head-fits v D ticket message h) none))

-- the first message on C, where nothing is on D
pub taken_on_c : (v : View) (ticket : Ticket) (message : Message) → IsHead v C ticket message → IsEmpty v D → IsTaken v (TakeC ticket)
taken_on_c v ticket message h d =
    not-refused (take_c_cases v ticket)
    (none-more (ticket_cases v ticket C any_body) ((answer_full v ticket, LinkFull) ∷ [])
    (head-cases v C ticket message any_body h refl)
    (and-false (begins is_a_release (waiting_at v ticket C)) (link_full v ticket.client D) (empty-room v ticket.client D (d ticket.client h.client)), tt))

-- the first Probe, where nothing is on C and D
pub taken_on_b : (v : View) (ticket : Ticket) (message : Message) → Lawful (shape_of v.geometry) v.image v.log
    → IsHead v B ticket message → IsEmpty v C → IsEmpty v D → IsTaken v (AnswerProbe ticket)
taken_on_b v ticket message lawful h c d =
    not-refused (answer_probe_cases v ticket (share_of v ticket.client))
    (none-more (shared_ticket_cases v ticket (share_of v ticket.client) B any_body)
    ((release_pending v ticket.client (block_named v ticket B), ReleasePending) ∷ (link_full v ticket.client C, LinkFull) ∷ [])
    (shared-cases v B ticket message any_body h refl) (
      no-release v ticket.client (block_named v ticket B) lawful (c ticket.client h.client) (d ticket.client h.client),
      (empty-room v ticket.client C (c ticket.client h.client), tt),
    ))

-- the first Acquire, where no register is open
pub taken_on_a : (v : View) (ticket : Ticket) (message : Message) → v.registers ≡ [] → IsLawful v.geometry → IsHead v A ticket message
    → IsTaken v (Accept ticket)
taken_on_a v ticket message none geometry h =
    not-refused (accept_cases v ticket)
    (none-more (ticket_cases v ticket A any_body)
    ((busy v (block_named v ticket A), BlockBusy) ∷ (no_register v (block_named v ticket A), NoRegister) ∷ [])
    (head-cases v A ticket message any_body h refl)
    (none-busy v (block_named v ticket A) none, (none-refuses v (block_named v ticket A) none geometry, tt)))

-- what the memory is asked
pub taken_request : (v : View) (block : ℕ) (o : Outward) → outward_at v block ≡ Some o → is_request o ≡ true → IsTaken v (ServeMemory block)
taken_request v block o shown is =
    let there = shown-outward v block o shown in
    not-refused (serve_memory_cases v block) (there.0, (there.1, (ap (λ (x : Outward). not (is_request x)) there.2 ∙ ap not is, tt)))

-- what it answered
pub taken_reply : (v : View) (block : ℕ) (o : Outward) → outward_at v block ≡ Some o → is_reply o ≡ true → IsTaken v (TakeMemory block)
taken_reply v block o shown is =
    let there = shown-outward v block o shown in
    not-refused (take_memory_cases v block) (there.0, (there.1, (ap (λ (x : Outward). not (is_reply x)) there.2 ∙ ap not is, tt)))
