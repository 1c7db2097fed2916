-- A Probe is sent, and its register notes it.
use Rattle.std.proofs.Common.{◌≡◌, ℕ, ◌^◌, ◌-◌, ◌<◌, ◌≤◌, ◌==◌, false, length, Some, if◌then◌else◌, refl, sym, ◌∙◌, ap, subst, arith, nat_le, inl, inr, eqb-true}
use Rattle.std.proofs.lemmas.Bool.{cases_Bool}
use Rattle.std.proofs.lemmas.Bool.Decides.{nat_tests}
use Rattle.std.proofs.lemmas.List.{length-map}
use Rattle.tl_types.specs.declared.limits.TheConstants.{MESSAGES}
use Rattle.tl_types.specs.Lane.{is_here, sent, with_message}
use Rattle.tl_types.specs.declared.channel.Channel.{Channel}
use Rattle.tl_types.specs.declared.channel.Channel.TheVariants.{B}
use Rattle.tl_types.specs.declared.message.Body.TheVariants.{ProbeBlock}
use Rattle.tl_types.specs.declared.permission.ProbeCap.{ProbeCap}
use Rattle.tl_protocol.specs.Client.{sent_probe}
use Rattle.tl_protocol.specs.Protocol.{Block, with_client}
use Rattle.tl_protocol.specs.declared.client.Client.{Client}
use Rattle.tl_protocol.specs.declared.event.Event.TheVariants.{SendProbe}
use Rattle.tl_links.specs.Table.{LinkTable, lane_in, SameSize as SameLinks}
use Rattle.tl_registers.specs.Agree.{Agree}
use Rattle.tl_registers.specs.Registers.{noted, register_of, with_probe_of}
use Rattle.tl_registers.specs.declared.due.Due.TheVariants.{Probe}
use Rattle.tl_registers.proofs.Probing.{probing-keeps-agreement}
use Rattle.tl_bank_spec.specs.Cases.{link_full}
use Rattle.tl_bank_spec.specs.View.{View, end_at, shape_of}
use Rattle.tl_bank_spec.specs.Channels.{lane_at}
use Rattle.tl_bank_laws.specs.Entry.{entry_of}
use Rattle.tl_bank_laws.specs.Layers.{Layers}
use Rattle.tl_bank_laws.specs.Link.{HasRoom}
use Rattle.tl_bank_laws.specs.Means.{IsHomeOf, Means}
use Rattle.tl_bank_laws.proofs.Dues.{Acts}
use Rattle.tl_bank_laws.proofs.Next.{block_next, means-next, next_view, registers-next}
use Rattle.tl_bank_laws.proofs.Pointwise.{entries-next, homes-next}
use Rattle.tl_bank_laws.proofs.Ways.{bank-steady, noted-work, ways-stay}
use Rattle.tl_protocol_lanes.proofs.Logs.{interleaves}

-- on a channel that is not full fewer than `MESSAGES` messages wait
place-left : (n : ℕ) → nat_le MESSAGES n ≡ false → n < MESSAGES
place-left n h = grind (arith, nat_tests)

-- a channel that is not full has room for one more message
pub channel-room : (v : View) (h : Layers) (c : ℕ) (k : Channel) → Means v h → c < v.geometry.clients → link_full v c k ≡ false
    → length v.log < 2 ^ 64 - 1 → HasRoom h.links c k
channel-room v h c k m l free small =
    let counted : sent (lane_at v c k) ≤ length v.log = (interleaves (shape_of v.geometry) v.image v.log m.lawful).counted c k in
    let place : length (lane_at v c k).messages < MESSAGES = place-left (length (lane_at v c k).messages) free in
    record {
      client = rw m.links_clients l;
      place = rw (m.lanes c k l) place;
      counted = rw (m.lanes c k l) (omega arith);
    }

-- a field that a client keeps is what it was for all clients
pub field-put : {X : Type 0} (f : Client → X) (s : Block) (c : ℕ) (k : Client) → f k ≡ f (s.client c)
    → (x : ℕ) → f ((with_client s c k).client x) ≡ f (s.client x)
field-put f s c k same x =
    elim (cases_Bool (x == c)) [
      | inl t ↦ rw t (same ∙ ap (λ (y : ℕ). f (s.client y)) (sym (eqb-true x c t)))
      | inr t ↦ rw t refl
    ]

-- a Probe that is due is sent: the bank holds what its log leaves
pub probe-keeps : (v : View) (h : Layers) (own c block : ℕ) (cap : ProbeCap) (room : ℕ) (links : LinkTable) → Means v h
    → Acts v own (Probe c block cap) → SameLinks h.links links
    → ((x : ℕ) (l : Channel) → lane_in links x l
    ≡ (if is_here c B x l then with_message (lane_in h.links x l) (record { block = block; body = ProbeBlock cap })
    else lane_in h.links x l))
    → Means (next_view v (SendProbe c block cap) room (noted own c v.registers) v.ways) (record h { links = links })
probe-keeps v h own c block cap room links m acts same sends =
    let shape = shape_of v.geometry in
    let e = SendProbe c block cap in
    let s : Block = end_at v block in
    let k : Client = sent_probe (s.client c) cap in
    let steady = bank-steady v h m in
    let is : IsHomeOf h.home block s = m.home block (acts.may.0, acts.bank) in
    let found : register_of acts.register.own v.registers ≡ Some acts.register =
    subst (λ (n : ℕ). register_of n v.registers ≡ Some acts.register) (sym acts.here) acts.found in
    let agree : Agree shape (block_next v e) (noted own c v.registers) =
    subst (λ (n : ℕ). Agree shape (block_next v e) (noted n c v.registers)) acts.here
    (probing-keeps-agreement shape (end_at v) v.registers acts.register c block cap steady m.registers.agree found acts.of acts.may) in
    let long : length (noted own c v.registers) ≡ length v.registers = length-map v.registers (with_probe_of own c) in
    let few : length (noted own c v.registers) ≤ v.geometry.registers = rw long m.registers.few in
    means-next v h (record h { links = links }) e room (noted own c v.registers) v.ways m
    (record { may = acts.may; first = tt; here = acts.bank; later = tt })
    (record {
      lanes = λ x l lt. sends x l;
      copies = entries-next v h e m (λ x. field-put entry_of s c k refl x);
      home = homes-next v h e h.home m
          (record {
            line = is.line;
            recorded = λ x. is.recorded x ∙ sym (field-put (λ (y : Client). y.recorded) s c k refl x);
            outward = is.outward;
            memory = is.memory;
          })
          (λ b ne there. there);
      quiet = λ b apart. refl;
      links_size = same;
      copies_size = record { bank = refl; limit = refl; blocks = refl; clients = refl };
      home_bank = record { geometry = refl; bank = refl };
      limit = refl;
      clock = refl;
    })
    (registers-next v e room (noted own c v.registers) v.ways agree few)
    (ways-stay v e room (noted own c v.registers) v.ways h.home h.home steady tt tt (noted-work own c v.registers)
    (record { ways = λ b. refl; free = λ set way. refl; orders = λ set. refl }) (λ b l. m.ways.shown b l) m.ways)
