-- Home takes a GrantAck, and what that leaves.
use Rattle.std.proofs.Common.{◌≡◌, ℕ, ◌<◌, ◌==◌, ◌&&◌, not, true, false, cond, slice_index_or, List, Option, None, inl, inr, refl, sym, ◌∙◌, ap, subst, arith}
use Rattle.std.proofs.lemmas.Bool.{and_parts, cases_Bool, not-true, ne_eqb}
use Rattle.tl_bank_laws.proofs.Crossed.{closed-few}
use Rattle.tl_types.specs.Lane.{IsFirst, is_here, without_first, bodies_of}
use Rattle.tl_types.specs.declared.channel.Channel.{Channel}
use Rattle.tl_types.specs.declared.channel.Channel.TheVariants.{E}
use Rattle.tl_types.specs.declared.ticket.Ticket.{Ticket}
use Rattle.tl_protocol.specs.Client.{took_grant_ack}
use Rattle.tl_protocol.specs.Protocol.{Block, with_client}
use Rattle.tl_protocol.specs.declared.client.Client.{Client}
use Rattle.tl_protocol.specs.declared.event.Event.{Event}
use Rattle.tl_protocol.specs.declared.event.Event.TheVariants.{TakeGrantAck}
use Rattle.tl_protocol.proofs.Blocks.{at_put}
use Rattle.tl_protocol.proofs.Runs.{cond_at}
use Rattle.tl_protocol_lanes.proofs.First.{every_first_is_first}
use Rattle.tl_links.specs.Table.{LinkTable, lane_in, SameSize as SameLinks}
use Rattle.tl_bank_home.specs.Homes.{HomeState, recorded_in, way_in}
use Rattle.tl_registers.specs.Pending.{grant_pending}
use Rattle.tl_registers.specs.Registers.{closed}
use Rattle.tl_registers.specs.declared.register.Register.{Register}
use Rattle.tl_registers.proofs.Closing.{closing-keeps-agreement}
use Rattle.tl_registers.proofs.Pending.{no-grant}
use Rattle.tl_bank_spec.specs.Cases.{any_body, block_named}
use Rattle.tl_bank_spec.specs.HomeCalls.{take_grant_ack_cases}
use Rattle.tl_bank_spec.specs.Refusal.{first_of}
use Rattle.tl_bank_spec.specs.View.{View, shape_of, end_at, client_at}
use Rattle.tl_bank_spec.specs.Own.{IsOwn}
use Rattle.tl_bank_spec.specs.Channels.{lane_at}
use Rattle.tl_bank_laws.specs.Entry.{entry_of}
use Rattle.tl_bank_laws.specs.Layers.{Layers}
use Rattle.tl_bank_laws.specs.Means.{Means, IsHomeOf, is_filling_by}
use Rattle.tl_bank_laws.proofs.Allowed.{AllFalse, all-false, client-is}
use Rattle.tl_bank_laws.proofs.Heads.{HeadAllowed, head-allowed, head-first, head-list, head-own}
use Rattle.tl_bank_laws.proofs.Narrow.{ways-narrow}
use Rattle.tl_bank_laws.proofs.Next.{NextEvent, block_next, means-next, next_view, registers-next}
use Rattle.tl_bank_laws.proofs.Ways.{bank-steady, same-work, ways-stay}

-- ## The GrantAck that is there

-- where no refusal's case holds, the ticket names the first message on E
grant_ack-allowed : (v : View) (t : Ticket) → first_of (take_grant_ack_cases v t) ≡ None → HeadAllowed v t E any_body
grant_ack-allowed v t none =
    let f : AllFalse (take_grant_ack_cases v t) = all-false (take_grant_ack_cases v t) none in
    head-allowed v t E any_body (client-is v t.client f.0) f.1.0 f.1.1.0 f.1.1.1.1.0

-- the block is one of this bank, and a GrantAck of it is on its way
pub record Acked (v : View) (t : Ticket) (block : ℕ) : Type 0 where
  pub client : t.client < v.geometry.clients
  pub own : IsOwn v.geometry v.number block
  pub some : 0 < (client_at v t.client block).e
  pub first : IsFirst block (lane_at v t.client E).messages

-- so it is where no refusal's case holds
pub grant_ack-comes : (v : View) (h : Layers) (t : Ticket) → Means v h → first_of (take_grant_ack_cases v t) ≡ None
    → Acked v t (block_named v t E)
grant_ack-comes v h t m none =
    let ok = grant_ack-allowed v t none in
    record {
      client = ok.client;
      own = head-own v h t E any_body m ok;
      some =
          ((every_first_is_first (client_at v t.client (block_named v t E))).on_e ok.first.0.body
          (bodies_of ok.first.0.block ok.first.1) (head-list v h t E any_body m ok)).1;
      first = head-first v t E any_body ok;
    }

-- so a Grant of the block is pending
ack-pending : (v : View) (t : Ticket) (block : ℕ) → Acked v t block → grant_pending (shape_of v.geometry) (end_at v block) ≡ true
ack-pending v t block acked =
    elim (cases_Bool (grant_pending (shape_of v.geometry) (end_at v block))) [
      | inl some ↦ some
      | inr none ↦
          let free = no-grant (shape_of v.geometry) (end_at v block) none t.client acked.client in
          absurd (omega (arith, free.1, acked.some))
    ]

-- ## What stays

-- the other clients' parts, and home's
copies-next : (v : View) (c b x y : ℕ) → entry_of (client_at v x y) ≡ entry_of ((block_next v (TakeGrantAck c b) y).client x)
copies-next v c b x y =
    let Same : Client → Type 0 = λ k. entry_of (client_at v x y) ≡ entry_of k in
    cond_at (λ (s : Block). Same (s.client x)) (y == b)
    (with_client (record (end_at v y) { accepted = None }) c (took_grant_ack (client_at v c y))) (end_at v y)
    (λ q. at_put Same (end_at v y).client c _ x (λ e. ap (λ z. entry_of (client_at v z y)) e) (λ n. refl))
    (λ q. refl)

-- home has of each block what it had
home-next : (v : View) (home : HomeState) (c b y : ℕ) → IsHomeOf home y (end_at v y) → IsHomeOf home y (block_next v (TakeGrantAck c b) y)
home-next v home c b y was =
    cond_at (λ (s : Block). IsHomeOf home y s) (y == b)
    (with_client (record (end_at v y) { accepted = None }) c (took_grant_ack (client_at v c y))) (end_at v y)
    (λ q. record {
      line = was.line;
      recorded = λ x.
          at_put (λ k. recorded_in home x y ≡ k.recorded) (end_at v y).client c _ x
          (λ e. was.recorded x ∙ ap (λ z. (client_at v z y).recorded) e) (λ n. was.recorded x);
      outward = was.outward;
      memory = was.memory;
    })
    (λ q. was)

-- the way of the register that closes is not filling: its block was granted
closing-fills : (v : View) (t : Ticket) (block set way : ℕ) (r : Register) → Acked v t block → is_filling_by v set way r ≡ true
    → not (r.own == block) ≡ true
closing-fills v t block set way r acked fills =
    let both = and_parts ((r.way.set == set) && (r.way.way == way)) _ fills in
    let none : grant_pending (shape_of v.geometry) (end_at v r.own) ≡ false =
    not-true (grant_pending (shape_of v.geometry) (end_at v r.own)) both.1 in
    let apart : (r.own == block) ≡ false =
    ne_eqb r.own block
    (λ e. let bad : false ≡ true = sym none ∙ ap (λ b. grant_pending (shape_of v.geometry) (end_at v b)) e ∙ ack-pending v t block acked in cc) in
    rw apart refl

-- ## The step

-- the bank is kept once home took the GrantAck, and the block's register is closed
pub grant_ack-keeps : (v : View) (h : Layers) (t : Ticket) (block : ℕ) (links : LinkTable) (room : ℕ) (ways : List (Option ℕ)) → Means v h
    → first_of (take_grant_ack_cases v t) ≡ None → block ≡ block_named v t E → SameLinks h.links links
    → ((x : ℕ) (l : Channel) → lane_in links x l
    ≡ cond (is_here t.client t.channel x l) (without_first (lane_in h.links x l)) (lane_in h.links x l))
    → ((b : ℕ) → b < v.geometry.memory_blocks → slice_index_or ways b None ≡ way_in h.home b)
    → Means (next_view v (TakeGrantAck t.client block) room (closed block v.registers) ways) (record h { links = links })
grant_ack-keeps v h t block links room ways m none is same took shown =
    let e : Event = TakeGrantAck t.client block in
    let ok = grant_ack-allowed v t none in
    let acked : Acked v t block = subst (λ b. Acked v t b) (sym is) (grant_ack-comes v h t m none) in
    let steady = bank-steady v h m in
    let Took : Channel → Type 0 = λ k. (x : ℕ) (l : Channel) → lane_in links x l
    ≡ cond (is_here t.client k x l) (without_first (lane_in h.links x l)) (lane_in h.links x l) in
    let from_e : Took E = subst Took ok.channel took in
    let event : NextEvent v e = record {
      may = (acked.own.0, (acked.client, acked.some));
      first = acked.first;
      here = acked.own.1;
      later = tt;
    } in
    let narrow : View = record v { registers = closed block v.registers } in
    means-next v h (record h { links = links }) e room (closed block v.registers) ways m event
    (record {
      lanes = λ x l inside. from_e x l;
      copies = λ x y inside there. m.copies x y inside there ∙ copies-next v t.client block x y;
      home = λ y own. home-next v h.home t.client block y (m.home y own);
      quiet = λ b other. refl;
      links_size = same;
      copies_size = record { bank = refl; clients = refl; blocks = refl; limit = refl };
      home_bank = record { geometry = refl; bank = refl };
      limit = refl;
      clock = refl;
    })
    (registers-next v e room (closed block v.registers) ways
    (closing-keeps-agreement (shape_of v.geometry) (end_at v) v.registers t.client block steady m.registers.agree event.may)
    (omega (arith, closed-few block v.registers, m.registers.few)))
    (ways-stay narrow e room narrow.registers ways h.home h.home steady tt tt (same-work narrow.registers)
    (record { ways = λ b. refl; free = λ set way. refl; orders = λ set. refl }) shown
    (ways-narrow v (λ r. not (r.own == block)) h.home (λ set way r fills. closing-fills v t block set way r acked fills) m.ways))
