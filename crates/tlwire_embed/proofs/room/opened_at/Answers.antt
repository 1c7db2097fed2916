use Rattle.std.proofs.Common.{ℕ, refl, subst}
use Rattle.tl_protocol.specs.declared.shape.Shape.{Shape}
use Rattle.tlcheck_embed.specs.Opens.{shape_of}
use Rattle.tlwire_pins.specs.declared.view.Cores.{Cores}
use Rattle.tlwire_embed.specs.Sees.{IsFresh}
use Rattle.tlwire_embed.proofs.room.opened_at.Goals as goal

pub returns : goal.returns
returns c =
    record {
      bench = c.new.result;
      is = refl;
      fresh =
          subst (λ (k : Cores). IsFresh k (shape_of c.args.numbers.now.of) c.args.numbers.now.client c.new.result) c.cores_of.ensures
          (subst (λ (s : Shape). IsFresh c.cores_of.result s c.args.numbers.now.client c.new.result) c.shape_of-shape.ensures
          (subst (λ (x : ℕ). IsFresh c.cores_of.result c.shape_of-shape.result x c.new.result) c.new-client.ensures c.new.ensures));
    }
