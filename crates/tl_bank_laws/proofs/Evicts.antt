-- A register opens that sends a block away, and what it leaves.
use Rattle.std.proofs.Common.{◌≡◌, ℕ, ◌+◌, ◌<◌, ◌≤◌, false, [], ◌∷◌, ◌++◌, length, true, Some, None, is_none, refl, sym, ◌∙◌, ap, arith, length-append}
use Rattle.std.proofs.lemmas.Bool.Decides.{nat_tests}
use Rattle.tl_map.proofs.LimitLaws.{few_clients}
use Rattle.tl_map.specs.Places.{set_of}
use Rattle.tl_registers.specs.Agree.{Agree}
use Rattle.tl_registers.specs.Register.{opened}
use Rattle.tl_registers.specs.Registers.{is_busy}
use Rattle.tl_registers.specs.declared.register.Register.{Register}
use Rattle.tl_registers.specs.declared.register.Task.TheVariants.{Evict}
use Rattle.tl_registers.proofs.Opening.{evicting-keeps-agreement}
use Rattle.tl_bank_spec.specs.HomeCalls.{evict_cases}
use Rattle.tl_bank_spec.specs.Refusal.{first_of}
use Rattle.tl_bank_spec.specs.View.{View, end_at, shape_of}
use Rattle.tl_bank_spec.specs.Own.{IsOwn, way_at}
use Rattle.tl_bank_spec.specs.Ways.{registers_full, way_in_set, slots_at}
use Rattle.tl_bank_home.specs.Homes.{order_at}
use Rattle.tl_bank_laws.specs.Layers.{Layers}
use Rattle.tl_bank_laws.specs.Means.{Means, WaysFit, is_filling, is_filling_by}
use Rattle.tl_bank_laws.proofs.Accepted.{accepted-by-agree}
use Rattle.tl_bank_laws.proofs.Allowed.{AllFalse, all-false, block-is, here-is}
use Rattle.tl_bank_laws.proofs.Opens.{MayHold, any-follows, evict-works-on, may-hold, new-holds, opened_view, ways-open}
use Rattle.tl_bank_laws.proofs.Orders.{order-fills}
use Rattle.tl_bank_laws.proofs.Ways.{bank-steady}

-- ## A register more

-- where not all registers are in use there is one for more
pub one-more : (v : View) (r : Register) → registers_full v ≡ false → length (v.registers ++ r ∷ []) ≤ v.geometry.registers
one-more v r free =
    let less : length v.registers < v.geometry.registers = grind (arith, nat_tests) in
    let long : length (v.registers ++ r ∷ []) ≡ length v.registers + 1 = simp length-append refl in
    omega (arith, less, long)

-- ## The block that is sent away

-- the block is of this bank, home holds it, no register works on it, and one more may open
pub record EvictAllowed (v : View) (block : ℕ) : Type 0 where
  pub own : IsOwn v.geometry v.number block
  pub free : is_busy block v.registers ≡ false
  pub held : is_none (end_at v block).home ≡ false
  pub room : registers_full v ≡ false

-- that is so where no case refuses to send the block away
pub evict-allowed : (v : View) (block : ℕ) → first_of (evict_cases v block) ≡ None → EvictAllowed v block
evict-allowed v block none =
    let f : AllFalse (evict_cases v block) = all-false (evict_cases v block) none in
    record {
      own = (block-is v block f.0, here-is v block f.1.0);
      free = f.1.1.0;
      held = f.1.1.1.0;
      room = f.1.1.1.1.0;
    }

-- ## The bank then

-- the register that opens
abbrev pub evicting : View → ℕ → ℕ → Register
evicting v block way = opened block (way_in_set (set_of v.geometry block) way) Evict

-- the ways of the bank fit home with that register open as well
evict-ways : (v : View) (h : Layers) (block way : ℕ) → Means v h → EvictAllowed v block → way_at v block ≡ Some way
    → WaysFit (opened_view v v.log v.room (evicting v block way)) h.home
evict-ways v h block way m ok lies =
    let set : ℕ = set_of v.geometry block in
    let r : Register = evicting v block way in
    let may : MayHold v block way None = may-hold v h.home block way (Some way) m.ways ok.own ok.free lies refl in
    ways-open v h.home v.log v.room r m.ways (new-holds v block way Evict None may (evict-works-on block (way_in_set set way)))
    may.not_held (λ b. refl)
    (λ s l. order-fills (slots_at v s) (is_filling v s) (is_filling (opened_view v v.log v.room r) s) v.log (order_at h.home s)
    (λ w b here filled. any-follows (is_filling_by v s w) (is_filling_by (opened_view v v.log v.room r) s w) v.registers r (λ x t. t) filled)
    (m.ways.orders s l))

-- a register more, and the log and the layers as they were
pub evict-keeps : (v : View) (h : Layers) (block way : ℕ) → Means v h → first_of (evict_cases v block) ≡ None
    → way_at v block ≡ Some way → Means (record v { registers = v.registers ++ evicting v block way ∷ [] }) h
evict-keeps v h block way m none lies =
    let ok = evict-allowed v block none in
    let r : Register = evicting v block way in
    let agree : Agree (shape_of v.geometry) (end_at v) (v.registers ++ r ∷ []) =
    evicting-keeps-agreement (shape_of v.geometry) (end_at v) v.registers block r.way (bank-steady v h m) m.registers.agree
    (few_clients v.geometry m.geometry) ok.own.0 ok.free (λ none. let bad : true ≡ false = sym (ap is_none none) ∙ ok.held in cc) in
    record {
      lawful = m.lawful;
      own = m.own;
      rising = m.rising;
      inside = m.inside;
      lanes = m.lanes;
      copies = m.copies;
      home = m.home;
      quiet = m.quiet;
      accepted = λ b. accepted-by-agree (shape_of v.geometry) (end_at v) (v.registers ++ r ∷ []) agree b;
      registers = record { agree = agree; few = one-more v r ok.room };
      ways = evict-ways v h block way m ok lies;
      clock = m.clock;
      geometry = m.geometry;
      links_bank = m.links_bank;
      links_clients = m.links_clients;
      copies_clients = m.copies_clients;
      copies_blocks = m.copies_blocks;
      copies_limit = m.copies_limit;
      home_geometry = m.home_geometry;
      home_bank = m.home_bank;
      limit = m.limit;
    }
