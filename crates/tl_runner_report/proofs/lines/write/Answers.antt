use Rattle.std.proofs.Common.{◌≡◌, get_or, ap}
use Rattle.std.proofs.lemmas.List.{map-set}
use Rattle.std.proofs.Math.Seq.{map-set_same}
use Rattle.tl_text.specs.declared.report.Answered.{Answered}
use Rattle.tl_runner_report.proofs.lines.write.Goals as goal

pub returns-in-Some-clause-commands : goal.returns-in-Some-clause-commands
returns-in-Some-clause-commands c =
    let is : c.in-Some.line.now ≡ get_or c.args.lines.now.items c.args.index c.in-Some.line.now = c.in-Some.ensures.value in
    map-set_same (λ (line : Answered). line.command) c.args.lines.now.items c.args.index _ c.in-Some.line.now (ap (λ (line : Answered). line.command) is)

pub returns-in-Some-clause-bytes : goal.returns-in-Some-clause-bytes
returns-in-Some-clause-bytes c = map-set (λ (line : Answered). line.bytes) c.args.lines.now.items c.args.index _
