use Rattle.std.proofs.Common.{get_or, set, ap, ◌∙◌}
use Rattle.tlcheck_coverage.specs.Tallies.{TalliesState}
use Rattle.tlcheck_coverage.proofs.Opening.{on_ok, sees_at}
use Rattle.tlcheck_coverage.proofs.tallies.Tallies.see.Goals as goal

pub returns-clause-ok : goal.returns-clause-ok
returns-clause-ok c =
    on_ok c.see.result _ _
    (λ seen order shape image log follows some.
    sees_at c.args.place order shape image log c.args.entry.now c.args.mark c.see.new.judge c.index_mut.result.now c.see.new.self c.args.self.now _
    c.requires
    (c.index_mut.ensures.value ∙ ap (λ (s : TalliesState). get_or s.tallies c.args.place c.index_mut.result.now) c.self.view_is)
    (ap (λ (s : TalliesState). s.by_home) c.self.view_is)
    (ap (λ (s : TalliesState). set s.tallies c.args.place c.see.new.self) c.self.view_is)
    (seen order shape image log follows some)) c.see.ensures.ok
