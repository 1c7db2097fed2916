-- Home takes a client's first message on channel C, and what that leaves.
use Rattle.std.proofs.Common.{◌≡◌, ◌≢◌, ℕ, ◌-◌, ◌^◌, ◌<◌, ◌≤◌, ◌==◌, ◌&&◌, Bool, true, false, cond, slice_index_or, List, [], ◌∷◌, length, IsSome, Option, Some, None, if◌then◌else◌, refl, sym, ◌∙◌, ap, subst, arith, eqb-true, eq-eqb}
use Rattle.std.proofs.Math.Bool.{or-true}
use Rattle.std.specs.List.{list_any}
use Rattle.tl_types.specs.Lane.{Lane, IsFirst, is_here, with_message, without_first, bodies_of}
use Rattle.tl_types.specs.Message.{upward_to, is_probe_ack}
use Rattle.tl_types.specs.Bodies.{upward_from}
use Rattle.tl_types.specs.Permission.{rank}
use Rattle.tl_types.specs.declared.channel.Channel.{Channel}
use Rattle.tl_types.specs.declared.channel.Channel.TheVariants.{C, D}
use Rattle.tl_types.specs.declared.message.Body.{Body}
use Rattle.tl_types.specs.declared.message.Body.TheVariants.{AcquireBlock, ProbeBlock, Upward as b_Upward, Downward as b_Downward, GrantAck}
use Rattle.tl_types.specs.declared.message.Downward.TheVariants.{ReleaseAck}
use Rattle.tl_types.specs.declared.message.Message.{Message}
use Rattle.tl_types.specs.declared.message.Surrender.TheVariants.{TtoB, TtoN, BtoN}
use Rattle.tl_types.specs.declared.message.Upward.{Upward}
use Rattle.tl_types.specs.declared.message.Upward.TheVariants.{ProbeAck, Release}
use Rattle.tl_types.specs.declared.permission.Perm.{Perm}
use Rattle.tl_types.specs.declared.permission.Perm.TheVariants.{None as p_None, Branch, Tip}
use Rattle.tl_types.specs.declared.ticket.Ticket.{Ticket}
use Rattle.tl_protocol.specs.Client.{first_bytes, took_c_from}
use Rattle.tl_protocol.specs.Pending.{IsOrderly, IsServiceAt}
use Rattle.tl_protocol.specs.Protocol.{Block, home_after, took_c}
use Rattle.tl_protocol.specs.declared.client.Client.{Client}
use Rattle.tl_protocol.specs.declared.event.Event.{Event}
use Rattle.tl_protocol.specs.declared.event.Event.TheVariants.{TakeC}
use Rattle.tl_protocol.specs.declared.home.Line.{Line}
use Rattle.tl_protocol.proofs.Messages.{to_le, to_not_tip}
use Rattle.tl_protocol.proofs.Pending.{every_run_keeps_messages, every_run_keeps_service}
use Rattle.tl_protocol.proofs.Blocks.{at_put}
use Rattle.tl_protocol.proofs.Runs.{cond_at}
use Rattle.tl_protocol_lanes.specs.Lanes.{ack_post, lane_after, sent_to}
use Rattle.tl_protocol_lanes.proofs.First.{every_first_is_first}
use Rattle.tl_links.specs.Table.{LinkTable, lane_in, SameSize as SameLinks}
use Rattle.tl_bank_home.specs.Homes.{HomeState, SameBank, SameMemory, SameOutward, SameWays, line_in, recorded_in, way_in}
use Rattle.tl_registers.specs.Pending.{has_first, is_probed}
use Rattle.tl_registers.proofs.Blocks.{first-from}
use Rattle.tl_bank_spec.specs.Cases.{any_body, begins, block_named, first_block, is_a_release, link_full}
use Rattle.tl_bank_spec.specs.HomeCalls.{take_c_cases}
use Rattle.tl_bank_spec.specs.Refusal.{first_of}
use Rattle.tl_bank_spec.specs.View.{View, shape_of, end_at, client_at}
use Rattle.tl_bank_spec.specs.Own.{IsOwn}
use Rattle.tl_bank_spec.specs.Channels.{lane_at}
use Rattle.tl_bank_laws.specs.Entry.{entry_of}
use Rattle.tl_bank_laws.specs.Given.{left_by, brought_by}
use Rattle.tl_bank_laws.specs.Layers.{Layers}
use Rattle.tl_bank_laws.specs.Link.{HasRoom}
use Rattle.tl_bank_laws.specs.Means.{Means, IsHomeOf}
use Rattle.tl_bank_laws.proofs.Allowed.{AllFalse, all-false, client-is}
use Rattle.tl_bank_laws.proofs.Heads.{HeadAllowed, head-allowed, head-first, head-list, head-own}
use Rattle.tl_bank_laws.proofs.Next.{NextEvent, NextLayers, block_next, means-next, next_view}
use Rattle.tl_bank_laws.proofs.Probed.{gone-is-unprobed}
use Rattle.tl_bank_laws.proofs.SendProbe.{channel-room}
use Rattle.tl_bank_laws.proofs.Ways.{bank-steady, fit-stays, same-work, ways-stay}

-- ## The message that comes

-- where no refusal's case holds, the ticket names the first message on C
pub take_c-allowed : (v : View) (t : Ticket) → first_of (take_c_cases v t) ≡ None → HeadAllowed v t C any_body
take_c-allowed v t none =
    let f : AllFalse (take_c_cases v t) = all-false (take_c_cases v t) none in
    head-allowed v t C any_body (client-is v t.client f.0) f.1.0 f.1.1.0 f.1.1.1.1.0

-- a message is first of its block on C, and the client has it first
pub record Comes (v : View) (t : Ticket) (x : Message) : Type 0 where
  pub client : t.client < v.geometry.clients
  pub block : x.block ≡ block_named v t C
  pub own : IsOwn v.geometry v.number x.block
  pub is_release : begins is_a_release (lane_at v t.client C).messages ≡ is_a_release x.body
  pub message : Upward
  pub more : List Upward
  pub body : x.body ≡ b_Upward message
  pub list : (client_at v t.client x.block).c ≡ message ∷ more

-- so is the one that is taken from the link
pub take_c-comes : (v : View) (h : Layers) (t : Ticket) (x : Message) (rest : List Message) → Means v h
    → first_of (take_c_cases v t) ≡ None → (lane_in h.links t.client t.channel).messages ≡ x ∷ rest → Comes v t x
take_c-comes v h t x rest m none there =
    let ok = take_c-allowed v t none in
    let lane : (lane_in h.links t.client t.channel).messages ≡ (lane_at v t.client C).messages =
    rw (ok.channel, m.lanes t.client C ok.client) refl in
    let same : x ∷ rest ≡ ok.first.0 ∷ ok.first.1 = sym there ∙ lane ∙ ok.first.2 in
    let is : x ≡ ok.first.0 = cc in
    let at : x.block ≡ block_named v t C = ap first_block (sym there ∙ lane) in
    let list = (every_first_is_first (client_at v t.client (block_named v t C))).on_c ok.first.0.body (bodies_of ok.first.0.block ok.first.1)
    (head-list v h t C any_body m ok) in
    record {
      client = ok.client;
      block = at;
      own = subst (λ (b : ℕ). IsOwn v.geometry v.number b) (sym at) (head-own v h t C any_body m ok);
      is_release = ap (begins is_a_release) (sym lane ∙ there);
      message = list.0;
      more = list.1;
      body = ap (λ (y : Message). y.body) is ∙ list.2;
      list = subst (λ (b : ℕ). (client_at v t.client b).c ≡ list.0 ∷ list.1) (sym at) list.3;
    }

-- whatever holds of both of two tests, and the first holds, the second fails where both together do
second-fails : (a b : Bool) → a ≡ true → (a && b) ≡ false → b ≡ false
second-fails true b is none = none
second-fails false b is none = absurd (cc)

-- where home takes a Release, channel D has a place for the ReleaseAck
pub answer-room : (v : View) (h : Layers) (t : Ticket) (x : Message) (between : LinkTable) → Means v h
    → first_of (take_c_cases v t) ≡ None → Comes v t x → SameLinks h.links between
    → ((y : ℕ) (l : Channel) → lane_in between y l
    ≡ (if is_here t.client t.channel y l then without_first (lane_in h.links y l) else lane_in h.links y l))
    → length v.log < 2 ^ 64 - 1 → is_a_release x.body ≡ true → HasRoom between t.client D
answer-room v h t x between m none comes same took small is =
    let ok = take_c-allowed v t none in
    let f : AllFalse (take_c_cases v t) = all-false (take_c_cases v t) none in
    let free : link_full v t.client D ≡ false =
    second-fails (begins is_a_release (lane_at v t.client C).messages) (link_full v t.client D) (comes.is_release ∙ is) f.1.1.1.1.1.0 in
    let Took : Channel → Type 0 = λ k. (y : ℕ) (l : Channel) → lane_in between y l
    ≡ (if is_here t.client k y l then without_first (lane_in h.links y l) else lane_in h.links y l) in
    let from_c : Took C = subst Took ok.channel took in
    let elsewhere : is_here t.client C t.client D ≡ false = rw (eq-eqb t.client t.client refl) refl in
    let lane : lane_in between t.client D ≡ lane_in h.links t.client D =
    from_c t.client D ∙ ap (λ here. cond here (without_first (lane_in h.links t.client D)) (lane_in h.links t.client D)) elsewhere in
    let room : HasRoom h.links t.client D = channel-room v h t.client D m ok.client free small in
    record { client = rw same.clients room.client; place = rw lane room.place; counted = rw lane room.counted }

-- ## What home may rely on

-- what passes of a block between a client and home is as every run keeps it
orderly-at : (v : View) (h : Layers) (c b : ℕ) → Means v h → IsOrderly (client_at v c b)
orderly-at v h c b m = every_run_keeps_messages (shape_of v.geometry) v.image v.log m.lawful.run b c

-- home, the Acquire that it serves of a block, and what is pending are as every run keeps them
service-of : (v : View) (h : Layers) (b : ℕ) → Means v h → IsServiceAt (shape_of v.geometry) (end_at v b)
service-of v h b m = every_run_keeps_service (shape_of v.geometry) v.image v.log m.lawful.run b

-- the message starts from what home records
starts : (v : View) (h : Layers) (t : Ticket) (x : Message) → Means v h → (comes : Comes v t x)
    → (client_at v t.client x.block).recorded ≡ upward_from comes.message
starts v h t x m comes =
    first-from (client_at v t.client x.block) comes.message comes.more (orderly-at v h t.client x.block m) comes.list

-- a Release that comes started from a permission above None
release-from : (given : _) → upward_from (Release given) ≢ p_None
release-from (TtoB bytes) e = cc
release-from (TtoN bytes) e = cc
release-from BtoN e = cc

-- a message on C is of a block that home holds: a Release comes of a copy, and a block that is probed is there
there-by : (v : View) (h : Layers) (t : Ticket) (x : Message) (message : Upward) (more : List Upward) → Means v h
    → (client_at v t.client x.block).c ≡ message ∷ more → (client_at v t.client x.block).recorded ≡ upward_from message
    → (end_at v x.block).home ≡ None → ⊥
there-by v h t x (ProbeAck answer) more m list from gone =
    let k : Client = client_at v t.client x.block in
    let unprobed : is_probed k ≡ false = gone-is-unprobed (shape_of v.geometry) v.image v.log m.lawful.run x.block gone t.client in
    let probed : list_any is_probe_ack k.c ≡ true = rw list refl in
    let bad : true ≡ false = rw (probed, or-true (has_first k.b)) at unprobed in
    cc
there-by v h t x (Release given) more m list from gone =
    let there = (service-of v h x.block m).at_home t.client (λ e. release-from given (sym from ∙ e)) in
    let bad : None ≡ Some there.0 = sym gone ∙ there.1 in
    cc

-- home has a copy of a block that it does not lack
line-is : (home : Option Line) → (home ≡ None → ⊥) → (line : Line) × (home ≡ Some line)
line-is None there = absurd (there refl)
line-is (Some line) there = (line, refl)

-- so home holds the block
pub take_c-held : (v : View) (h : Layers) (t : Ticket) (x : Message) → Means v h → Comes v t x → IsSome (line_in h.home x.block)
take_c-held v h t x m comes =
    let there = line-is (end_at v x.block).home
    (there-by v h t x comes.message comes.more m comes.list (starts v h t x m comes)) in
    rw ((m.home x.block comes.own).line, there.1) refl

-- a message on C never leaves Tip
left-below-tip : (body : Body) → left_by body ≢ Tip
left-below-tip (AcquireBlock grow) e = cc
left-below-tip (ProbeBlock cap) e = cc
left-below-tip (b_Upward message) e = to_not_tip message e
left-below-tip (b_Downward message) e = cc
left-below-tip GrantAck e = cc

-- where it leaves Branch the client was recorded above None, so nobody else Tip
pub take_c-branch : (v : View) (h : Layers) (t : Ticket) (x : Message) → Means v h → Comes v t x → left_by x.body ≡ Branch
    → (other : ℕ) → other ≢ t.client → recorded_in h.home other x.block ≢ Tip
take_c-branch v h t x m comes branch other apart tip =
    let recorded : ((end_at v x.block).client other).recorded ≡ Tip = sym ((m.home x.block comes.own).recorded other) ∙ tip in
    let none : (client_at v t.client x.block).recorded ≡ p_None = (service-of v h x.block m).alone other t.client apart recorded in
    let to : upward_to comes.message ≡ Branch = sym (ap left_by comes.body) ∙ branch in
    let down : rank (upward_to comes.message) ≤ rank (upward_from comes.message) = to_le comes.message in
    omega (arith, ap rank to, ap rank none, ap rank (starts v h t x m comes), down)

-- ## Home

-- home took what a message on C gave up
pub record Received (old new : HomeState) (c b : ℕ) (to : Perm) (bytes : Option (List ℕ)) : Type 0 where
  pub bank : SameBank old new
  pub lines : (y : ℕ) → line_in new y ≡ cond (y == b) (home_after (line_in old b) bytes) (line_in old y)
  pub recorded : (x y : ℕ) → recorded_in new x y ≡ cond ((x == c) && (y == b)) to (recorded_in old x y)
  pub ways : SameWays old new
  pub outward : SameOutward old new
  pub memory : SameMemory old new

-- what home records of the client then
recorded-then : (k : Client) (message : Upward) (more : List Upward) → (took_c_from k (message ∷ more)).recorded ≡ upward_to message
recorded-then k (ProbeAck answer) more = refl
recorded-then k (Release given) more = refl

-- of the message's own client is recorded what it left, of each other what was
recorded-of : (t : Bool) (to : Perm) (k later : Client) → later.recorded ≡ to
    → cond (t && true) to k.recorded ≡ (cond t later k).recorded
recorded-of true to k later e = sym e
recorded-of false to k later e = refl

-- home has of the block what the message leaves
home-here : (v : View) (h : Layers) (t : Ticket) (x : Message) (home : HomeState) → Means v h → Comes v t x
    → Received h.home home t.client x.block (left_by x.body) (brought_by x.body)
    → IsHomeOf home x.block (took_c (end_at v x.block) t.client)
home-here v h t x home m comes received =
    let was : IsHomeOf h.home x.block (end_at v x.block) = m.home x.block comes.own in
    let k : Client = client_at v t.client x.block in
    let here : (x.block == x.block) ≡ true = eq-eqb x.block x.block refl in
    let bytes : brought_by x.body ≡ first_bytes k.c = ap brought_by comes.body ∙ sym (ap first_bytes comes.list) in
    let to : (took_c_from k k.c).recorded ≡ left_by x.body =
    ap (λ (c : List Upward). (took_c_from k c).recorded) comes.list ∙ recorded-then k comes.message comes.more ∙ sym (ap left_by comes.body) in
    record {
      line =
          received.lines x.block
          ∙ ap (λ u. cond u (home_after (line_in h.home x.block) (brought_by x.body)) (line_in h.home x.block)) here
          ∙ ap (λ (line : Option Line). home_after line (brought_by x.body)) was.line
          ∙ ap (λ (b : Option (List ℕ)). home_after (end_at v x.block).home b) bytes;
      recorded = λ c.
          received.recorded c x.block
          ∙ ap (λ u. cond ((c == t.client) && u) (left_by x.body) (recorded_in h.home c x.block)) here
          ∙ ap (λ p. cond ((c == t.client) && true) (left_by x.body) p) (was.recorded c)
          ∙ recorded-of (c == t.client) (left_by x.body) (client_at v c x.block) (took_c_from k k.c) to;
      outward = (received.outward).outward x.block ∙ was.outward;
      memory = received.memory x.block ∙ was.memory;
    }

-- nobody's record of another block
nobody : (t : Bool) (to p : Perm) → cond (t && false) to p ≡ p
nobody true to p = refl
nobody false to p = refl

-- and of every other block what it had
home-elsewhere : (old home : HomeState) (c b y : ℕ) (to : Perm) (bytes : Option (List ℕ)) (s : Block) → (y == b) ≡ false
    → Received old home c b to bytes → IsHomeOf old y s → IsHomeOf home y s
home-elsewhere old home c b y to bytes s apart received was = record {
  line = received.lines y ∙ ap (λ u. cond u (home_after (line_in old b) bytes) (line_in old y)) apart ∙ was.line;
  recorded = λ x. received.recorded x y ∙ ap (λ u. cond ((x == c) && u) to (recorded_in old x y)) apart
      ∙ nobody (x == c) to (recorded_in old x y) ∙ was.recorded x;
  outward = (received.outward).outward y ∙ was.outward;
  memory = received.memory y ∙ was.memory;
}

-- home has of each block of the bank what the event leaves
home-next : (v : View) (h : Layers) (t : Ticket) (x : Message) (home : HomeState) → Means v h → Comes v t x
    → Received h.home home t.client x.block (left_by x.body) (brought_by x.body) → (y : ℕ) → IsOwn v.geometry v.number y
    → IsHomeOf home y (block_next v (TakeC t.client x.block) y)
home-next v h t x home m comes received y own =
    cond_at (λ (s : Block). IsHomeOf home y s) (y == x.block) (took_c (end_at v y) t.client) (end_at v y)
    (λ q. subst (λ b. IsHomeOf home b (took_c (end_at v b) t.client)) (sym (eqb-true y x.block q)) (home-here v h t x home m comes received))
    (λ q. home-elsewhere h.home home t.client x.block y (left_by x.body) (brought_by x.body) (end_at v y) q received (m.home y own))

-- ## The links

-- the links once the message was taken, and a Release answered
pub record Passed (old between links : LinkTable) (t : Ticket) (block : ℕ) (is_release : Bool) : Type 0 where
  pub first : SameLinks old between
  pub took :
      (x : ℕ) (l : Channel) → lane_in between x l
      ≡ cond (is_here t.client t.channel x l) (without_first (lane_in old x l)) (lane_in old x l)
  pub second : SameLinks between links
  pub answered :
      (x : ℕ) (l : Channel) → lane_in links x l
      ≡ cond (is_release && is_here t.client D x l)
      (with_message (lane_in between x l) (record { block = block; body = b_Downward ReleaseAck })) (lane_in between x l)

-- channel D is as it was until then
lane-between : (v : View) (h : Layers) (t : Ticket) (between : LinkTable) → Means v h → first_of (take_c_cases v t) ≡ None
    → ((x : ℕ) (l : Channel) → lane_in between x l
    ≡ cond (is_here t.client t.channel x l) (without_first (lane_in h.links x l)) (lane_in h.links x l))
    → lane_in between t.client D ≡ lane_at v t.client D
lane-between v h t between m none took =
    let ok = take_c-allowed v t none in
    let elsewhere : is_here t.client C t.client D ≡ false = rw (eq-eqb t.client t.client refl) refl in
    took t.client D
    ∙ ap (λ (c : Channel). cond (is_here t.client c t.client D) (without_first (lane_in h.links t.client D)) (lane_in h.links t.client D))
    ok.channel
    ∙ ap (λ here. cond here (without_first (lane_in h.links t.client D)) (lane_in h.links t.client D)) elsewhere
    ∙ m.lanes t.client D ok.client

-- channel D is not full where a Release comes and is not refused for that
place-there : (is_release full : Bool) → (is_release && full) ≡ false → is_release ≡ true → full ≡ false
place-there true full h e = h
place-there false full h e = cc

-- the answer is what the event sends
answer-is : (c b x : ℕ) (l : Channel) (message : Upward) (more : List Upward) (lane : Lane)
    → cond (is_a_release (b_Upward message) && is_here c D x l)
    (with_message lane (record { block = b; body = b_Downward ReleaseAck })) lane
    ≡ sent_to (ack_post c (message ∷ more)) b x l lane
answer-is c b x l (ProbeAck answer) more lane = refl
answer-is c b x l (Release given) more lane = refl

-- each channel has what the event leaves on it
lanes-next : (v : View) (h : Layers) (t : Ticket) (x : Message) (between links : LinkTable) → first_of (take_c_cases v t) ≡ None
    → Comes v t x → Passed h.links between links t x.block (is_a_release x.body) → (y : ℕ) (l : Channel)
    → lane_in links y l ≡ lane_after (shape_of v.geometry) (end_at v x.block) (TakeC t.client x.block) y l (lane_in h.links y l)
lanes-next v h t x between links none comes passed y l =
    let ok = take_c-allowed v t none in
    let k : Client = client_at v t.client x.block in
    let Send : Bool → Lane → Lane =
    λ r lane. cond (r && is_here t.client D y l) (with_message lane (record { block = x.block; body = b_Downward ReleaseAck })) lane in
    let took : lane_in between y l ≡ cond (is_here t.client C y l) (without_first (lane_in h.links y l)) (lane_in h.links y l) =
    passed.took y l
    ∙ ap (λ (c : Channel). cond (is_here t.client c y l) (without_first (lane_in h.links y l)) (lane_in h.links y l)) ok.channel in
    passed.answered y l
    ∙ ap (λ (b : Body). Send (is_a_release b) (lane_in between y l)) comes.body
    ∙ ap (λ (lane : Lane). Send (is_a_release (b_Upward comes.message)) lane) took
    ∙ answer-is t.client x.block y l comes.message comes.more
    (cond (is_here t.client C y l) (without_first (lane_in h.links y l)) (lane_in h.links y l))
    ∙ ap (λ (c : List Upward). sent_to (ack_post t.client c) x.block y l
    (cond (is_here t.client C y l) (without_first (lane_in h.links y l)) (lane_in h.links y l))) (sym comes.list)

-- ## The tables of copies

-- home takes nothing of what the client holds
entry-then : (k : Client) (c : List Upward) → entry_of (took_c_from k c) ≡ entry_of k
entry-then k [] = refl
entry-then k (ProbeAck answer ∷ rest) = refl
entry-then k (Release given ∷ rest) = refl

-- so each client has the entry of each block that it had
copies-next : (v : View) (c b x y : ℕ) → entry_of (client_at v x y) ≡ entry_of ((block_next v (TakeC c b) y).client x)
copies-next v c b x y =
    cond_at (λ (s : Block). entry_of (client_at v x y) ≡ entry_of (s.client x)) (y == b) (took_c (end_at v y) c) (end_at v y)
    (λ q. at_put (λ k. entry_of (client_at v x y) ≡ entry_of k) (end_at v y).client c _ x
    (λ e. ap (λ z. entry_of (client_at v z y)) e ∙ sym (entry-then (client_at v c y) (client_at v c y).c)) (λ n. refl))
    (λ q. refl)

-- ## The step

-- home may take that message next
pub take_c-event : (v : View) (h : Layers) (t : Ticket) (x : Message) → Means v h → first_of (take_c_cases v t) ≡ None → Comes v t x
    → NextEvent v (TakeC t.client x.block)
take_c-event v h t x m none comes =
    record {
      may = (comes.own.0, (comes.client, (comes.message, comes.more, comes.list)));
      first = subst (λ b. IsFirst b (lane_at v t.client C).messages) (sym comes.block) (head-first v t C any_body (take_c-allowed v t none));
      here = comes.own.1;
      later = tt;
    }

-- what became of the layers: each holds what the event leaves
take_c-layers : (v : View) (h : Layers) (t : Ticket) (x : Message) (between links : LinkTable) (home : HomeState) → Means v h
    → first_of (take_c_cases v t) ≡ None → Comes v t x → Passed h.links between links t x.block (is_a_release x.body)
    → Received h.home home t.client x.block (left_by x.body) (brought_by x.body)
    → NextLayers v (TakeC t.client x.block) h (record h { links = links; home = home })
take_c-layers v h t x between links home m none comes passed received =
    record {
      lanes = λ y l inside. lanes-next v h t x between links none comes passed y l;
      copies = λ y b inside there. m.copies y b inside there ∙ copies-next v t.client x.block y b;
      home = home-next v h t x home m comes received;
      quiet = λ b other. (received.outward).outward b;
      links_size = record {
        bank = (passed.second).bank ∙ (passed.first).bank;
        clients = (passed.second).clients ∙ (passed.first).clients;
      };
      copies_size = record { bank = refl; clients = refl; blocks = refl; limit = refl };
      home_bank = received.bank;
      limit = refl;
      clock = refl;
    }

-- the bank is kept once home took the message
pub take_c-keeps : (v : View) (h : Layers) (t : Ticket) (x : Message) (between links : LinkTable) (home : HomeState) (room : ℕ)
    (ways : List (Option ℕ)) → Means v h → first_of (take_c_cases v t) ≡ None → Comes v t x
    → Passed h.links between links t x.block (is_a_release x.body)
    → Received h.home home t.client x.block (left_by x.body) (brought_by x.body)
    → ((b : ℕ) → b < v.geometry.memory_blocks → slice_index_or ways b None ≡ way_in home b)
    → Means (next_view v (TakeC t.client x.block) room v.registers ways) (record h { links = links; home = home })
take_c-keeps v h t x between links home room ways m none comes passed received shown =
    let e : Event = TakeC t.client x.block in
    let steady = bank-steady v h m in
    means-next v h (record h { links = links; home = home }) e room v.registers ways m
    (take_c-event v h t x m none comes)
    (take_c-layers v h t x between links home m none comes passed received)
    (fit-stays v e room ways steady tt m.registers)
    (ways-stay v e room v.registers ways h.home home steady tt tt (same-work v.registers) received.ways shown m.ways)
