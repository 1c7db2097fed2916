use Rattle.std.proofs.Common.{◌≡◌, Some, None, codes, refl}
use Rattle.clap.specs.Words.{found_of, rows_of, first_of}
use Rattle.tl_runner.proofs.JobLemmas.{met, file_met}
use Rattle.tl_runner.proofs.line.chosen.Goals as goal

pub returns-in-None-get_str-clause-usage : goal.returns-in-None-get_str-clause-usage
returns-in-None-get_str-clause-usage c = λ _.
    let sub = met c.args.matches.now c.in-Some.name.now (rows_of (found_of c.in-Some.inner.now)) c.in-Some.ensures.name c.in-Some.ensures.rows in
    let file = file_met (found_of c.in-Some.inner.now) c.get_str.result c.get_str.ensures in
    let none : first_of (codes "file") (rows_of (found_of c.in-Some.inner.now)) ≡ None = rw c.in-None-get_str.is at file in
    rw (sub, none)

pub returns-in_ok-file-in-Some-get_str-clause-ok : goal.returns-in_ok-file-in-Some-get_str-clause-ok
returns-in_ok-file-in-Some-get_str-clause-ok c =
    let sub = met c.args.matches.now c.in-Some.name.now (rows_of (found_of c.in-Some.inner.now)) c.in-Some.ensures.name c.in-Some.ensures.rows in
    let file = file_met (found_of c.in-Some.inner.now) c.get_str.result c.get_str.ensures in
    let some : first_of (codes "file") (rows_of (found_of c.in-Some.inner.now)) ≡ Some c.in-Some-get_str.file.now = rw c.in-Some-get_str.is at file in
    rw (sub, some, c.eq-traces.ensures, c.in_ok-file-in-Some-get_str.ensures.ok) refl
