use Rattle.std.proofs.Common.{◌∙◌, sym, subst}
use Rattle.tl_protocol.specs.Coherent.{AreLast}
use Rattle.tl_bank_spec.specs.View.{View}
use Rattle.tl_bank.specs.Shown.{shown, layers}
use Rattle.tl_bank_laws.proofs.Loads.{Reads, load-keeps}
use Rattle.tl_bank_laws.proofs.Views.{load-last}
use Rattle.tl_bank.proofs.bank.Bank.load.Goals as goal

-- what was read, of the bank before the load
reads : (c : goal.After-append) → Reads (shown c.self.inside) c.args.client c.args.address c.args.len c.args.when.clock
    c.in_ok-bytes.bytes c.next_stamp-stamp.result
reads c =
    let Shows : View → Type 0 =
    λ w. Reads w c.args.client c.args.address c.args.len c.args.when.clock c.in_ok-bytes.bytes c.next_stamp-stamp.result in
    subst Shows (sym (c.self.view_is ∙ c.make_room.ensures.same))
    (record {
      allowed = c.in_ok-bytes.ensures.permitted;
      bytes_are = c.in_ok-bytes.ensures.bytes;
      stamp_is = c.next_stamp-stamp.ensures;
    })

pub invariant_of-self : goal.invariant_of-self
invariant_of-self c =
    rw (c.append.ensures.events, c.append.ensures.forgotten)
    (load-keeps (shown c.self.inside) (layers c.self.inside) c.args.client c.args.address c.args.len c.args.when.clock c.in_ok-bytes.bytes
    c.next_stamp-stamp.result c.args.when.index c.append.new.self.room c.self.invariant (reads c))

pub returns-clause-newest : goal.returns-clause-newest
returns-clause-newest c =
    rw c.loaded-loaded.ensures (subst (λ (w : View). AreLast w.image w.log c.args.address c.in_ok-bytes.bytes) (c.self.view_is ∙ c.make_room.ensures.same)
    (load-last (shown c.self.inside) (layers c.self.inside) c.args.client c.args.address c.args.len c.args.when.clock c.in_ok-bytes.bytes
    c.next_stamp-stamp.result c.args.when.index c.append.new.self.room c.self.invariant (reads c)))
