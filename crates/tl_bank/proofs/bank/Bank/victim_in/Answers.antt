use Rattle.std.proofs.Common.{◌≡◌, ◌<◌, None, sym, ◌∙◌, subst}
use Rattle.tl_map.specs.Places.{set_of}
use Rattle.tl_bank_spec.specs.View.{View}
use Rattle.tl_bank_spec.specs.Own.{IsOwn, way_at}
use Rattle.tl_bank_spec.specs.Ways.{victim_of_way}
use Rattle.tl_bank_laws.proofs.Opens.{victim-found}
use Rattle.tl_bank.specs.Shown.{shown, layers}
use Rattle.tl_bank.proofs.bank.Bank.victim_in.Goals as goal

pub returns : goal.returns
returns c =
    let block = c.args.block in
    let way = c.args.way in
    let found = c.occupant.result in
    let Victim : View → Type 0 = λ v. IsOwn v.geometry v.number block → c.args.set ≡ set_of v.geometry block
    → way_at v block ≡ None → c.args.set < v.geometry.sets → way < v.geometry.ways
    → found ≡ victim_of_way v (set_of v.geometry block) (way_at v block) way in
    subst Victim c.self.view_is
    (λ own place away small inside.
    victim-found (shown c.self.inside) (layers c.self.inside) block way found c.self.invariant own.0
    (rw place at small) inside (sym (c.self.invariant.ways.shown block own.0) ∙ away) c.occupant.ensures.inside
    (rw place at c.occupant.ensures.set) c.occupant.ensures.way (rw place at c.occupant.ensures.free))
    c.requires.own c.requires.set c.requires.away c.requires.small c.requires.inside
