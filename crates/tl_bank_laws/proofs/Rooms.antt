-- Room for more events, and how many of them are forgotten, are nothing that the layers hold.
use Rattle.std.proofs.Common.{ℕ, List, [], ◌∷◌, Option, is_none, refl, sym, ◌∙◌, ap, subst}
use Rattle.std.specs.List.{AllByRecursion}
use Rattle.tl_registers.specs.declared.register.Register.{Register}
use Rattle.tl_registers.specs.VictimWay.{IsInOrder}
use Rattle.tl_bank_home.specs.Homes.{HomeState, order_at}
use Rattle.tl_bank_spec.specs.View.{View}
use Rattle.tl_bank_laws.specs.Layers.{Layers}
use Rattle.tl_bank_laws.specs.Means.{HoldsWay, Means, WaysFit, is_filling}
use Rattle.tl_bank_laws.proofs.Slots.{slot-same, slots-same}
use Rattle.tl_bank_laws.proofs.Ways.{each-holds-stay, same-work, slot-stays, slots-stay}

-- with other room the ways fit as before
ways-room : (v : View) (room : ℕ) (home : HomeState) → WaysFit v home → WaysFit (record v { room = room }) home
ways-room v room home fit =
    let t : View = record v { room = room } in
    record {
      shown = fit.shown;
      inside = fit.inside;
      once = fit.once;
      holds = fit.holds;
      free = λ set way l k.
          fit.free set way l k
          ∙ ap (λ (o : Option ℕ). is_none o) (sym (slot-stays v v.log room v.registers v.ways (λ b l. refl) set way));
      held = each-holds-stay v v.log room v.registers v.ways v.registers v.registers (λ b l. refl) (same-work v.registers) fit.held;
      apart = fit.apart;
      orders = λ set l.
          subst (λ (slots : List (Option ℕ)). IsInOrder slots (is_filling t set) v.log (order_at home set))
          (sym (slots-stay v v.log room v.registers v.ways (λ b l. refl) set)) (fit.orders set l);
    }

-- with other room the layers hold the same
pub means-room : (v : View) (room : ℕ) (layers : Layers) → Means v layers → Means (record v { room = room }) layers
means-room v room layers m = record {
  lawful = m.lawful;
  own = m.own;
  rising = m.rising;
  inside = m.inside;
  lanes = m.lanes;
  copies = m.copies;
  home = m.home;
  quiet = m.quiet;
  accepted = m.accepted;
  registers = record { agree = m.registers.agree; few = m.registers.few };
  ways = ways-room v room layers.home m.ways;
  clock = m.clock;
  geometry = m.geometry;
  links_bank = m.links_bank;
  links_clients = m.links_clients;
  copies_clients = m.copies_clients;
  copies_blocks = m.copies_blocks;
  copies_limit = m.copies_limit;
  home_geometry = m.home_geometry;
  home_bank = m.home_bank;
  limit = m.limit;
}

-- each register holds its way as before, whatever is forgotten
each-holds-forget : (v : View) (forgotten : ℕ) (registers : List Register) → AllByRecursion (HoldsWay v) registers
    → AllByRecursion (HoldsWay (record v { forgotten = forgotten })) registers
each-holds-forget v forgotten [] held = tt
each-holds-forget v forgotten (r ∷ rest) held = (
  record { inside = held.0.inside; own = held.0.own; lies = held.0.lies; alone = held.0.alone },
  each-holds-forget v forgotten rest held.1,
)

-- the ways fit as before, whatever is forgotten
ways-forget : (v : View) (forgotten : ℕ) (home : HomeState) → WaysFit v home → WaysFit (record v { forgotten = forgotten }) home
ways-forget v forgotten home fit =
    let t : View = record v { forgotten = forgotten } in
    record {
      shown = fit.shown;
      inside = fit.inside;
      once = fit.once;
      holds = fit.holds;
      free = λ set way l k.
          fit.free set way l k ∙ ap (λ (o : Option ℕ). is_none o) (sym (slot-same v t set way refl (λ b l. refl)));
      held = each-holds-forget v forgotten v.registers fit.held;
      apart = fit.apart;
      orders = λ set l.
          subst (λ (slots : List (Option ℕ)). IsInOrder slots (is_filling t set) v.log (order_at home set))
          (sym (slots-same v t set refl (λ way l. slot-same v t set way refl (λ b l. refl)))) (fit.orders set l);
    }

-- the layers hold the same, whatever is forgotten
pub means-forget : (v : View) (forgotten : ℕ) (layers : Layers) → Means v layers → Means (record v { forgotten = forgotten }) layers
means-forget v forgotten layers m = record {
  lawful = m.lawful;
  own = m.own;
  rising = m.rising;
  inside = m.inside;
  lanes = m.lanes;
  copies = m.copies;
  home = m.home;
  quiet = m.quiet;
  accepted = m.accepted;
  registers = record { agree = m.registers.agree; few = m.registers.few };
  ways = ways-forget v forgotten layers.home m.ways;
  clock = m.clock;
  geometry = m.geometry;
  links_bank = m.links_bank;
  links_clients = m.links_clients;
  copies_clients = m.copies_clients;
  copies_blocks = m.copies_blocks;
  copies_limit = m.copies_limit;
  home_geometry = m.home_geometry;
  home_bank = m.home_bank;
  limit = m.limit;
}
