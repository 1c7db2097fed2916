-- What `decode` answers is the table of codes, read backward.
use Rattle.std.proofs.Common.{◌∙◌, sym}
use Rattle.tl_types.proofs.CodeLaws.{own_code, every_code}
use Rattle.tl_types.proofs.kind.decode.Goals as goal

pub returns-clause-own : goal.returns-clause-own
returns-clause-own c kind codes = c.kind_at.ensures ∙ own_code c.args.channel c.args.opcode c.args.param kind codes

pub returns-clause-each : goal.returns-clause-each
returns-clause-each c kind is = every_code c.args.channel c.args.opcode c.args.param kind (sym c.kind_at.ensures ∙ is)
