-- A bank at reset.
use Rattle.std.proofs.Common.{◌≡◌, ℕ, ◌*◌, ◌<◌, true, false, List, [], Option, Some, None, is_none, refl, sym, ◌∙◌, ap, subst, arith, inl, inr}
use Rattle.std.specs.Prelude.{slice_index_or}
use Rattle.std.proofs.lemmas.Bool.{cases_lt, cases_Bool}
use Rattle.std.specs.List.{All}
use Rattle.std.proofs.lemmas.List.Elements.{All-nil}
use Rattle.tl_ways.proofs.OrderLaws.{among-rising, rising-only}
use Rattle.tl_types.proofs.Lowest.{none-lowest}
use Rattle.tl_types.specs.Bytes.{image_bytes}
use Rattle.tl_types.specs.Lane.{Lane, empty_lane}
use Rattle.tl_types.specs.declared.channel.Channel.{Channel}
use Rattle.tl_types.specs.declared.message.Message.{Message}
use Rattle.tl_types.specs.declared.permission.Perm.TheVariants.{None as p_None}
use Rattle.tl_protocol.specs.Protocol.{block_of}
use Rattle.tl_protocol.specs.declared.event.Event.{Event}
use Rattle.tl_protocol.specs.declared.home.Outward.TheVariants.{Quiet}
use Rattle.tl_protocol_lanes.proofs.Logs.{empty_is_lawful}
use Rattle.tl_links.specs.Table.{lane_in}
use Rattle.tl_copies.specs.Copies.{held_at, clients_of}
use Rattle.tl_map.specs.Numbers.{Numbers}
use Rattle.tl_map.specs.Limits.{IsLawful}
use Rattle.tl_map.specs.Places.{bank_of}
use Rattle.tl_bank_spec.specs.View.{View, shape_of}
use Rattle.tl_bank_spec.specs.Own.{IsOwn, way_at, ways_below}
use Rattle.tl_bank_spec.specs.Ways.{lies_in, slot_at, slots_at}
use Rattle.tl_bank_home.specs.Homes.{bank_in, geometry_in, line_in, recorded_in, outward_in, memory_in, way_in, free_at, order_at}
use Rattle.tl_ways.specs.Orders.{rising}
use Rattle.tl_registers.specs.VictimWay.{IsInOrder, block_in}
use Rattle.tl_registers.proofs.Agreement.{agree-at-reset}
use Rattle.tl_registers.proofs.Order.{free-set-is-in-order}
use Rattle.tl_bank_laws.specs.Layers.{Layers}
use Rattle.tl_bank_laws.specs.Means.{Means, is_filling}
use Rattle.tl_bank_laws.proofs.Slots.{below-at, below-past, lies-true, slots-in, slots-length, slots-past}

-- ## No block lies anywhere

-- where no block lies in a way, the list of the blocks' ways has none for any block
pub lies-nowhere : (lies : ℕ → Option ℕ) (n : ℕ) → ((b : ℕ) → lies b ≡ None) → (b : ℕ) → slice_index_or (ways_below lies n) b None ≡ None
lies-nowhere lies n none b =
    elim (cases_lt b n) [ inl l ↦ below-at lies n b l ∙ none b | inr l ↦ below-past lies n b l ]

-- a block that lies nowhere lies in no way of a set
nowhere-lies : (v : View) (set way b : ℕ) → way_at v b ≡ None → lies_in v set way b ≡ false
nowhere-lies v set way b none =
    elim (cases_Bool (lies_in v set way b)) [
      | inr e ↦ e
      | inl e ↦ let bad : None ≡ Some way = sym none ∙ (lies-true v set way b e).2 in cc
    ]

-- where no way of a set has a block, the list of what is in its ways has none
empty-slots : (v : View) (set way : ℕ) → ((way : ℕ) → slot_at v set way ≡ None) → block_in (slots_at v set) way ≡ None
empty-slots v set way none =
    elim (cases_lt way v.geometry.ways) [ inl l ↦ slots-in v set way l ∙ none way | inr l ↦ slots-past v set way l ]

-- layers that hold nothing mean a bank whose log is empty
pub means-fresh : (g : Numbers) (number : ℕ) (image : List ℕ) (room : ℕ) (h : Layers) → IsLawful g
    → ((c : ℕ) (k : Channel) → lane_in h.links c k ≡ empty_lane)
    → ((c b : ℕ) → held_at h.copies c b ≡ None)
    → ((b : ℕ) → line_in h.home b ≡ None) → ((c b : ℕ) → recorded_in h.home c b ≡ p_None) → ((b : ℕ) → outward_in h.home b ≡ Quiet)
    → ((b : ℕ) → b < g.memory_blocks → bank_of g b ≡ number → memory_in h.home b ≡ image_bytes image (b * g.block_bytes) g.block_bytes)
    → ((b : ℕ) → way_in h.home b ≡ None) → ((set way : ℕ) → free_at h.home set way ≡ true)
    → ((set : ℕ) → set < g.sets → order_at h.home set ≡ rising g.ways) → h.clock ≡ 0 → h.links.bank ≡ number → h.links.clients ≡ g.clients → clients_of h.copies ≡ g.clients
    → h.copies.blocks ≡ g.memory_blocks → h.copies.limit ≡ g.copies → geometry_in h.home ≡ g → bank_in h.home ≡ number → h.limit ≡ g.registers
    → Means (record { geometry = g; number = number; image = image; log = []; forgotten = 0; room = room; registers = []; ways = ways_below (way_in h.home) g.memory_blocks }) h
means-fresh g number image room h lawful lanes copies line recorded outward memory ways free orders clock lb lc cc' cb cl hg hn limit =
    let empty = empty_is_lawful (shape_of g) image in
    let v : View = record {
      geometry = g;
      number = number;
      image = image;
      log = [];
      forgotten = 0;
      room = room;
      registers = [];
      ways = ways_below (way_in h.home) g.memory_blocks;
    } in
    let nowhere : (b : ℕ) → way_at v b ≡ None = lies-nowhere (way_in h.home) g.memory_blocks ways in
    let no_slot : (set way : ℕ) → slot_at v set way ≡ None =
    λ set way. none-lowest (lies_in v set way) g.memory_blocks (λ b l. nowhere-lies v set way b (nowhere b)) in
    record {
      lawful = empty.0;
      own = All-nil (λ (e : Event). IsOwn g number (block_of (shape_of g) e));
      rising = tt;
      inside = λ c k. subst (λ (l : Lane). All (λ (x : Message). IsOwn g number x.block) l.messages) (sym (empty.1 c k)) (All-nil (λ (x : Message). IsOwn g number x.block));
      lanes = λ c k l. lanes c k ∙ sym (empty.1 c k);
      copies = λ c b l k. copies c b;
      home = λ b own. record { line = line b; recorded = λ c. recorded c b; outward = outward b; memory = memory b own.0 own.1 };
      quiet = λ b no. outward b;
      accepted = λ b. refl;
      registers = record { agree = agree-at-reset (shape_of g) image; few = omega arith };
      ways = record {
        shown = λ b l. nowhere b ∙ sym (ways b);
        inside = λ b w own lies. let bad : None ≡ Some w = sym (nowhere b) ∙ lies in cc;
        once = λ a b w own_a own_b in_set lies other. let bad : None ≡ Some w = sym (nowhere a) ∙ lies in cc;
        holds = λ b own. ap (λ (o : Option ℕ). is_none o) (sym (nowhere b));
        free = λ set way l k. free set way ∙ ap (λ (o : Option ℕ). is_none o) (sym (no_slot set way));
        held = tt;
        apart = tt;
        orders = λ set l.
            subst (λ (order : List ℕ). IsInOrder (slots_at v set) (is_filling v set) [] order) (sym (orders set l))
            (free-set-is-in-order (slots_at v set) (is_filling v set) [] (rising g.ways)
            (λ way. empty-slots v set way (no_slot set))
            (λ way k. among-rising g.ways way (omega (arith, slots-length v set)))
            (λ way k. omega (arith, slots-length v set, rising-only g.ways way k)));
      };
      clock = clock;
      geometry = lawful;
      links_bank = lb;
      links_clients = lc;
      copies_clients = cc';
      copies_blocks = cb;
      copies_limit = cl;
      home_geometry = hg;
      home_bank = hn;
      limit = limit;
    }
