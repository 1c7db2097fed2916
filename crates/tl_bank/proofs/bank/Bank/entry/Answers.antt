use Rattle.std.proofs.Common.{◌≡◌, ◌<◌, is_some, ◌∙◌, ap, subst}
use Rattle.std.specs.Option.{option_copied}
use Rattle.tl_protocol.specs.Copy.{bytes_of}
use Rattle.tl_bank_spec.specs.View.{View, client_at, perm_at}
use Rattle.tl_bank_spec.specs.Tables.{has_entry}
use Rattle.tl_bank_laws.specs.Entry.{copy_in, perm_in, wait_in, bytes_in}
use Rattle.tl_bank.specs.Shown.{shown, layers}
use Rattle.tl_bank_laws.proofs.Entries.{copy-is, perm-is, wait-is, bytes_in-entry, has_entry-is}
use Rattle.tl_bank.proofs.bank.Bank.entry.Goals as goal

pub returns-clause-copy : goal.returns-clause-copy
returns-clause-copy c =
    let lt : c.args.client < (shown c.self.inside).geometry.clients = rw (← c.self.view_is) at c.requires.client in
    let lb : c.args.block < (shown c.self.inside).geometry.memory_blocks = rw (← c.self.view_is) at c.requires.block in
    subst (λ (v : View). copy_in (option_copied c.held.result) ≡ (client_at v c.args.client c.args.block).held) c.self.view_is
    (ap copy_in c.held.ensures ∙ copy-is (shown c.self.inside) (layers c.self.inside) c.args.client c.args.block c.self.invariant lt lb)

pub returns-clause-perm : goal.returns-clause-perm
returns-clause-perm c =
    let lt : c.args.client < (shown c.self.inside).geometry.clients = rw (← c.self.view_is) at c.requires.client in
    let lb : c.args.block < (shown c.self.inside).geometry.memory_blocks = rw (← c.self.view_is) at c.requires.block in
    subst (λ (v : View). perm_in (option_copied c.held.result) ≡ perm_at v c.args.client c.args.block) c.self.view_is
    (ap perm_in c.held.ensures ∙ perm-is (shown c.self.inside) (layers c.self.inside) c.args.client c.args.block c.self.invariant lt lb)

pub returns-clause-wait : goal.returns-clause-wait
returns-clause-wait c =
    let lt : c.args.client < (shown c.self.inside).geometry.clients = rw (← c.self.view_is) at c.requires.client in
    let lb : c.args.block < (shown c.self.inside).geometry.memory_blocks = rw (← c.self.view_is) at c.requires.block in
    subst (λ (v : View). wait_in (option_copied c.held.result) ≡ (client_at v c.args.client c.args.block).wait) c.self.view_is
    (ap wait_in c.held.ensures ∙ wait-is (shown c.self.inside) (layers c.self.inside) c.args.client c.args.block c.self.invariant lt lb)

pub returns-clause-bytes : goal.returns-clause-bytes
returns-clause-bytes c =
    let v : View = shown c.self.inside in
    let lt : c.args.client < v.geometry.clients = rw (← c.self.view_is) at c.requires.client in
    let lb : c.args.block < v.geometry.memory_blocks = rw (← c.self.view_is) at c.requires.block in
    let k = client_at v c.args.client c.args.block in
    subst (λ (v : View). bytes_in (option_copied c.held.result) ≡ bytes_of (client_at v c.args.client c.args.block).held) c.self.view_is
    (ap bytes_in (c.held.ensures ∙ c.self.invariant.copies c.args.client c.args.block lt lb) ∙ bytes_in-entry k.held k.wait)

pub returns-clause-has : goal.returns-clause-has
returns-clause-has c =
    let lt : c.args.client < (shown c.self.inside).geometry.clients = rw (← c.self.view_is) at c.requires.client in
    let lb : c.args.block < (shown c.self.inside).geometry.memory_blocks = rw (← c.self.view_is) at c.requires.block in
    subst (λ (v : View). is_some (option_copied c.held.result) ≡ has_entry (client_at v c.args.client c.args.block)) c.self.view_is
    (ap (λ o. is_some o) c.held.ensures ∙ has_entry-is (shown c.self.inside) (layers c.self.inside) c.args.client c.args.block c.self.invariant lt lb)
