-- What empty channels say of the blocks.
use Rattle.std.proofs.Common.{◌≡◌, ℕ, zero, suc, ◌<◌, false, List, [], ◌∷◌, map, replicate, Some, None, refl, ◌∙◌, ap, subst, arith, add-zero, slice_get}
use Rattle.std.specs.List.{list_any}
use Rattle.std.specs.Option.{option_map}
use Rattle.std.proofs.lemmas.Bool.Decides.{nat_tests}
use Rattle.tl_types.specs.Lane.{bodies_of}
use Rattle.tl_types.specs.Message.{is_grant, is_probe_ack}
use Rattle.tl_types.specs.declared.channel.Channel.{Channel}
use Rattle.tl_types.specs.declared.channel.Channel.TheVariants.{A, B, C, D, E}
use Rattle.tl_types.specs.declared.message.Body.TheVariants.{AcquireBlock, ProbeBlock, Upward as b_Upward, Downward as b_Downward, GrantAck}
use Rattle.tl_types.specs.declared.message.Message.{Message}
use Rattle.tl_types.specs.declared.ticket.Ticket.{Ticket}
use Rattle.tl_protocol.specs.declared.home.Outward.TheVariants.{Quiet}
use Rattle.tl_protocol_lanes.proofs.Logs.{interleaves}
use Rattle.tl_protocol_lanes.specs.Lawful.{Lawful}
use Rattle.tl_protocol_lanes.specs.Lists.{list_in}
use Rattle.tl_registers.specs.Acts.{NothingPasses}
use Rattle.tl_bank.specs.Contents.{message_waiting, waiting_ticket}
use Rattle.tl_bank_spec.specs.Cases.{no_client}
use Rattle.tl_bank_spec.specs.Channels.{lane_at}
use Rattle.tl_bank_spec.specs.View.{View, client_at, end_at, shape_of}
use Rattle.tl_bank_rest.specs.Heads.{AllTaken, IsHead}

-- ## The first message

-- the first of some messages, with its ticket, is the first
first-is : (v : View) (client : ℕ) (channel : Channel) (xs : List Message) (ticket : Ticket) (message : Message)
    → (lane_at v client channel).messages ≡ xs → client < v.geometry.clients
    → option_map {U = Ticket × Message} (λ m. (waiting_ticket v client channel 0, m)) (slice_get xs 0) ≡ Some (ticket, message)
    → IsHead v channel ticket message
first-is v client channel [] ticket message is lt h = cc
first-is v client channel (x ∷ rest) ticket message is lt h =
    let pair : (waiting_ticket v client channel 0, x) ≡ (ticket, message) = cc in
    let named : waiting_ticket v client channel 0 ≡ ticket = ap (λ (p : Ticket × Message). p.0) pair in
    let same : x ≡ message = ap (λ (p : Ticket × Message). p.1) pair in
    let P : Ticket → Type 0 = λ t. IsHead v channel t message in
    subst P named (record {
      bank = refl;
      client = lt;
      on = refl;
      serial = add-zero (lane_at v client channel).taken;
      rest = rest;
      first = is ∙ ap (λ (m : Message). m ∷ rest) same;
    })

-- what a bank shows first on a channel is the first message there
pub shown-head : (v : View) (client : ℕ) (channel : Channel) (ticket : Ticket) (message : Message) → client < v.geometry.clients
    → message_waiting v client channel 0 ≡ Some (ticket, message) → IsHead v channel ticket message
shown-head v client channel ticket message lt h =
    let there : no_client v client ≡ false = grind (arith, nat_tests) in
    first-is v client channel (lane_at v client channel).messages ticket message refl lt (rw there at h)

-- no first message, no message
none-is : (v : View) (client : ℕ) (channel : Channel) (xs : List Message)
    → option_map {U = Ticket × Message} (λ m. (waiting_ticket v client channel 0, m)) (slice_get xs 0) ≡ None → xs ≡ []
none-is v client channel [] h = refl
none-is v client channel (x ∷ rest) h = cc

-- where a bank shows no first message none waits
pub shown-none : (v : View) (client : ℕ) (channel : Channel) → client < v.geometry.clients
    → message_waiting v client channel 0 ≡ None → (lane_at v client channel).messages ≡ []
shown-none v client channel lt h =
    let there : no_client v client ≡ false = grind (arith, nat_tests) in
    none-is v client channel (lane_at v client channel).messages (rw there at h)

-- ## The lists of a block

-- where no message waits on a channel none of a block does
none-of : (v : View) → Lawful (shape_of v.geometry) v.image v.log → (client block : ℕ) (channel : Channel)
    → (lane_at v client channel).messages ≡ [] → list_in (client_at v client block) channel ≡ []
none-of v lawful client block channel e =
    (interleaves (shape_of v.geometry) v.image v.log lawful).ordered client block channel ∙ ap (bodies_of block) e

-- a list of which no message is made is empty
map-empty : {X Y : Type 0} (f : X → Y) (xs : List X) → map f xs ≡ [] → xs ≡ []
map-empty f [] h = refl
map-empty f (x ∷ rest) h = cc

-- and no copies, no count
replicate-empty : {X : Type 0} (x : X) (n : ℕ) → replicate n x ≡ [] → n ≡ 0
replicate-empty x zero h = refl
replicate-empty x (suc n) h = cc

-- nothing of the block is on a client's A
pub a-empty : (v : View) → Lawful (shape_of v.geometry) v.image v.log → (client block : ℕ) → (lane_at v client A).messages ≡ []
    → (client_at v client block).a ≡ []
a-empty v lawful client block e = map-empty AcquireBlock (client_at v client block).a (none-of v lawful client block A e)

-- on its B
pub b-empty : (v : View) → Lawful (shape_of v.geometry) v.image v.log → (client block : ℕ) → (lane_at v client B).messages ≡ []
    → (client_at v client block).b ≡ []
b-empty v lawful client block e = map-empty ProbeBlock (client_at v client block).b (none-of v lawful client block B e)

-- on its C
pub c-empty : (v : View) → Lawful (shape_of v.geometry) v.image v.log → (client block : ℕ) → (lane_at v client C).messages ≡ []
    → (client_at v client block).c ≡ []
c-empty v lawful client block e = map-empty b_Upward (client_at v client block).c (none-of v lawful client block C e)

-- on its D
pub d-empty : (v : View) → Lawful (shape_of v.geometry) v.image v.log → (client block : ℕ) → (lane_at v client D).messages ≡ []
    → (client_at v client block).d ≡ []
d-empty v lawful client block e = map-empty b_Downward (client_at v client block).d (none-of v lawful client block D e)

-- on its E
pub e-empty : (v : View) → Lawful (shape_of v.geometry) v.image v.log → (client block : ℕ) → (lane_at v client E).messages ≡ []
    → (client_at v client block).e ≡ 0
e-empty v lawful client block e = replicate-empty GrantAck (client_at v client block).e (none-of v lawful client block E e)

-- so nothing passes of a block that does not pass to the memory
pub nothing-passes : (v : View) → Lawful (shape_of v.geometry) v.image v.log → AllTaken v → (block : ℕ)
    → (end_at v block).outward ≡ Quiet → NothingPasses (shape_of v.geometry) (end_at v block)
nothing-passes v lawful silent block quiet = record {
  no_probe = λ x lt. (
    b-empty v lawful x block (silent.b x lt),
    ap (list_any is_probe_ack) (c-empty v lawful x block (silent.c x lt)),
  );
  no_grant = λ x lt. (
    ap (list_any is_grant) (d-empty v lawful x block (silent.d x lt)),
    e-empty v lawful x block (silent.e x lt),
  );
  quiet = quiet;
}
