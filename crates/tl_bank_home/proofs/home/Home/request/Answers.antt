use Rattle.std.proofs.Common.{◌≡◌, ◌^◌, sym, ◌∙◌, ap, subst}
use Rattle.tl_map.specs.Limits.{IsLawful}
use Rattle.tl_map.specs.Numbers.{Numbers}
use Rattle.tl_bank_home.specs.Homes.{IsHome, geometry_in}
use Rattle.tl_bank_home.proofs.ServeLaws.{may_ask}
use Rattle.tl_bank_home.proofs.home.Home.request.Goals as goal

pub returns-in-Some-Put-clause-servable : goal.returns-in-Some-Put-clause-servable
unfolding geometry_in
returns-in-Some-Put-clause-servable c =
    let h = c.args.self.now in
    let home : IsHome h = subst IsHome c.self.view_is c.self.invariant in
    let g : c.geometry-geometry.result ≡ geometry_in h = c.geometry-geometry.ensures in
    let lawful : IsLawful (geometry_in h) = subst IsLawful g c.block_bytes.ensures.lawful in
    let size : 2 ^ c.block_size-size.result ≡ (geometry_in h).block_bytes = c.block_size-size.ensures ∙ ap (λ (n : Numbers). n.block_bytes) g in (
      rw (c.number.ensures, c.block_bytes.ensures.is, g) (may_ask h c.block_size-size.result c.args.block home lawful size c.requires.block c.requires.own),
      c.whole_burst.ensures.len ∙ ap (λ (n : Numbers). n.block_bytes) (g ∙ sym home.geometry),
    )

pub returns-in_default-clause-servable : goal.returns-in_default-clause-servable
returns-in_default-clause-servable c =
    let h = c.args.self.now in
    let home : IsHome h = subst IsHome c.self.view_is c.self.invariant in
    let g : c.geometry-geometry.result ≡ geometry_in h = c.geometry-geometry.ensures in
    let lawful : IsLawful (geometry_in h) = subst IsLawful g c.block_bytes.ensures.lawful in
    let size : 2 ^ c.block_size-size.result ≡ (geometry_in h).block_bytes = c.block_size-size.ensures ∙ ap (λ (n : Numbers). n.block_bytes) g in
    rw (c.number.ensures, c.block_bytes.ensures.is, g) (may_ask h c.block_size-size.result c.args.block home lawful size c.requires.block c.requires.own)
