use Rattle.std.proofs.Common.{◌≡◌, ◌≢◌, ℕ, ◌∙◌, ◌<◌, ◌^◌, ◌-◌, Option, None, Some, length, arith, ap, subst, sym}
use Rattle.std.specs.Prelude.{slice_index_or}
use Rattle.tl_types.specs.declared.channel.Channel.TheVariants.{D}
use Rattle.tl_types.specs.declared.ticket.Ticket.{Ticket}
use Rattle.tl_map.specs.Numbers.{Numbers}
use Rattle.tl_protocol.specs.Client.{grant_bytes}
use Rattle.tl_bank_home.specs.Homes.{way_in}
use Rattle.tl_registers.specs.declared.due.Due.TheVariants.{Grant}
use Rattle.tl_bank_spec.specs.View.{View, end_at, client_at}
use Rattle.tl_bank_spec.specs.Own.{way_at, ways_below}
use Rattle.tl_bank_spec.specs.declared.action.Action.TheVariants.{Grant as did_Grant}
use Rattle.tl_bank.specs.Shown.{shown, layers}
use Rattle.tl_bank_laws.proofs.Dues.{acts-at, advances-at, grant-free, ticket-is}
use Rattle.tl_bank_laws.proofs.SendGrant.{Gives, grant-branch, grant-keeps, grant-tip, home-has}
use Rattle.tl_bank_laws.proofs.SendProbe.{channel-room}
use Rattle.tl_bank_laws.proofs.Slots.{below-at, below-same}
use Rattle.tl_bank.proofs.bank.Bank.send_grant.Goals as goal

pub home_line-entry-requires-clause-held : goal.home_line-entry-requires-clause-held
home_line-entry-requires-clause-held c =
    let v : View = shown c.self.inside in
    let h = layers c.self.inside in
    let acts = acts-at v c.args.self.now h c.args.own (Grant c.args.client) c.self.invariant c.self.view_is c.requires.permitted
    c.requires.due in
    subst (λ (w : View). (end_at w c.args.own).home ≢ None) c.self.view_is (home-has v c.args.own c.args.client acts)

pub send-ticket-requires : goal.send-ticket-requires
send-ticket-requires c =
    let v : View = shown c.self.inside in
    let h = layers c.self.inside in
    let acts = acts-at v c.args.self.now h c.args.own (Grant c.args.client) c.self.invariant c.self.view_is c.requires.permitted
    c.requires.due in
    channel-room v h c.args.client D c.self.invariant acts.may.1.0
    (grant-free v c.args.self.now c.args.own c.args.client c.self.view_is c.requires.permitted c.requires.due)
    (subst (λ (w : View). length w.log < 2 ^ 64 - 1) (sym c.self.view_is) c.requires.small)

pub grant-requires-clause-lies : goal.grant-requires-clause-lies
grant-requires-clause-lies c =
    let v : View = shown c.self.inside in
    let h = layers c.self.inside in
    let acts = acts-at v c.args.self.now h c.args.own (Grant c.args.client) c.self.invariant c.self.view_is c.requires.permitted
    c.requires.due in
    sym (c.self.invariant.ways.shown c.args.own acts.is_own.0)
    ∙ subst (λ (w : View). way_at w c.args.own ≡ Some c.home_line-entry.result.2) (sym c.self.view_is) c.home_line-entry.ensures.way

pub grant-requires-clause-known : goal.grant-requires-clause-known
grant-requires-clause-known c =
    let v : View = shown c.self.inside in
    let h = layers c.self.inside in
    let acts = acts-at v c.args.self.now h c.args.own (Grant c.args.client) c.self.invariant c.self.view_is c.requires.permitted
    c.requires.due in
    subst (λ (g : Numbers). c.args.client < g.clients) (sym c.self.invariant.home_geometry) acts.may.1.0

pub grant-requires-clause-tip : goal.grant-requires-clause-tip
grant-requires-clause-tip c = λ tip other ne.
    let v : View = shown c.self.inside in
    let h = layers c.self.inside in
    let acts = acts-at v c.args.self.now h c.args.own (Grant c.args.client) c.self.invariant c.self.view_is c.requires.permitted
    c.requires.due in
    let Shows : View → Type 0 =
    λ w. Gives w c.args.own c.args.client c.unwrap-acquire.result c.granted-cap.result c.grant_bytes.result in
    let gives : Shows v =
    subst Shows (sym c.self.view_is)
    (record {
      accepted = sym c.accepted.ensures ∙ c.unwrap-acquire.ensures;
      cap_is = c.granted-cap.ensures;
      bytes_is = c.grant_bytes.ensures
          ∙ ap (λ p. grant_bytes p c.home_line-entry.result.1.now) (c.perm-recorded.ensures.is ∙ sym (c.home_line-entry.ensures.recorded c.args.client))
          ∙ ap (λ b. grant_bytes (client_at c.args.self.now c.args.client c.args.own).recorded b) c.home_line-entry.ensures.bytes;
    }) in
    grant-tip v h c.args.own c.args.client c.unwrap-acquire.result c.granted-cap.result c.grant_bytes.result c.self.invariant acts gives
    (sym c.perm.ensures ∙ tip) other ne

pub grant-requires-clause-branch : goal.grant-requires-clause-branch
grant-requires-clause-branch c = λ branch other ne.
    let v : View = shown c.self.inside in
    let h = layers c.self.inside in
    let acts = acts-at v c.args.self.now h c.args.own (Grant c.args.client) c.self.invariant c.self.view_is c.requires.permitted
    c.requires.due in
    let Shows : View → Type 0 =
    λ w. Gives w c.args.own c.args.client c.unwrap-acquire.result c.granted-cap.result c.grant_bytes.result in
    let gives : Shows v =
    subst Shows (sym c.self.view_is)
    (record {
      accepted = sym c.accepted.ensures ∙ c.unwrap-acquire.ensures;
      cap_is = c.granted-cap.ensures;
      bytes_is = c.grant_bytes.ensures
          ∙ ap (λ p. grant_bytes p c.home_line-entry.result.1.now) (c.perm-recorded.ensures.is ∙ sym (c.home_line-entry.ensures.recorded c.args.client))
          ∙ ap (λ b. grant_bytes (client_at c.args.self.now c.args.client c.args.own).recorded b) c.home_line-entry.ensures.bytes;
    }) in
    grant-branch v h c.args.own c.args.client c.unwrap-acquire.result c.granted-cap.result c.grant_bytes.result c.self.invariant acts gives
    (sym c.perm.ensures ∙ branch) other

pub invariant_of-self : goal.invariant_of-self
invariant_of-self c =
    let v : View = shown c.self.inside in
    let h = layers c.self.inside in
    let acts = acts-at v c.args.self.now h c.args.own (Grant c.args.client) c.self.invariant c.self.view_is c.requires.permitted
    c.requires.due in
    let Shows : View → Type 0 =
    λ w. Gives w c.args.own c.args.client c.unwrap-acquire.result c.granted-cap.result c.grant_bytes.result in
    let gives : Shows v =
    subst Shows (sym c.self.view_is)
    (record {
      accepted = sym c.accepted.ensures ∙ c.unwrap-acquire.ensures;
      cap_is = c.granted-cap.ensures;
      bytes_is = c.grant_bytes.ensures
          ∙ ap (λ p. grant_bytes p c.home_line-entry.result.1.now) (c.perm-recorded.ensures.is ∙ sym (c.home_line-entry.ensures.recorded c.args.client))
          ∙ ap (λ b. grant_bytes (client_at c.args.self.now c.args.client c.args.own).recorded b) c.home_line-entry.ensures.bytes;
    }) in
    let lies : ℕ → Option ℕ = way_in c.grant.new.self in
    rw (c.append.ensures.events, c.append.ensures.forgotten)
    (grant-keeps v h c.args.own c.args.client c.unwrap-acquire.result c.granted-cap.result c.grant_bytes.result c.append.new.self.room
    (ways_below lies v.geometry.memory_blocks) c.send-ticket.new.links c.grant.new.self c.self.invariant acts gives
    c.send-ticket.ensures.same c.send-ticket.ensures.after
    (record {
      bank = c.grant.ensures.bank;
      lines = c.grant.ensures.lines;
      recorded = rw (← c.perm.ensures) c.grant.ensures.recorded;
      ways = c.grant.ensures.ways;
      free = c.grant.ensures.free;
      orders = c.grant.ensures.orders;
      outward = c.grant.ensures.outward;
      memory = c.grant.ensures.memory;
    })
    (λ b l. below-at lies v.geometry.memory_blocks b l))

pub returns : goal.returns
returns c =
    let v : View = shown c.self.inside in
    let h = layers c.self.inside in
    let acts = acts-at v c.args.self.now h c.args.own (Grant c.args.client) c.self.invariant c.self.view_is c.requires.permitted
    c.requires.due in
    let left = c.append.ensures.room in
    let same = below-same (way_in c.grant.new.self) (way_in c.self.inside.home) v.geometry.memory_blocks (λ b l. c.grant.ensures.ways b) in
    rw c.append.ensures.forgotten
    (advances-at v c.args.self.now c.args.own (Grant c.args.client) (did_Grant c.send-ticket.result) c.append.new.self.events
    c.append.new.self.room (ways_below (way_in c.grant.new.self) v.geometry.memory_blocks) c.self.view_is c.requires.due
    c.append.ensures.events (omega (arith, left)) (λ b. ap (λ ways. slice_index_or ways b None) same)
    (ap (λ (t : Ticket). did_Grant t)
    (c.send-ticket.ensures.ticket ∙ ticket-is v h c.args.client D c.self.invariant acts.may.1.0)))
