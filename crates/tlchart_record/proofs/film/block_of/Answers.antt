use Rattle.std.proofs.Common.{◌∙◌, ap}
use Rattle.tl_protocol.specs.Protocol.{block_of}
use Rattle.tl_protocol.specs.declared.shape.Shape.{Shape}
use Rattle.tl_rules.specs.PlainState.{PlainState}
use Rattle.tlchart_record.proofs.film.block_of.Goals as goal

-- the shape is the judge's
pub returns : goal.returns
returns c =
    c.block.ensures
    ∙ ap (λ (s : Shape). block_of s c.args.entry.now.event) (c.shape.ensures.value ∙ ap (λ (p : PlainState). p.shape) c.plain.ensures)
