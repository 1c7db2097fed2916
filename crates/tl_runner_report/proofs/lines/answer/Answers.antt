use Rattle.std.proofs.Common.{◌≡◌, ◌<◌, ℕ, List, [], Vec, get_or, set, length, map, refl, ap, sym, ◌∙◌, arith}
use Rattle.std.specs.declared.alloc.Global.{Global}
use Rattle.std.proofs.lemmas.List.{map-set}
use Rattle.std.proofs.Math.Seq.{map-set_same}
use Rattle.tl_script_words.specs.declared.command.Command.{Command}
use Rattle.tl_text.specs.declared.report.Answered.{Answered}
use Rattle.tl_runner_report.specs.Loops.{bytes_on}
use Rattle.tl_runner_report.proofs.Compared.{read_mapped}
use Rattle.tl_runner_report.proofs.lines.answer.Goals as goal

abbrev commands_of : Vec Answered Global → List Command
commands_of lines = map (λ (line : Answered). line.command) lines.items

abbrev bytes_of : Vec Answered Global → List (List ℕ)
bytes_of lines = map (λ (line : Answered). line.bytes) lines.items

pub returns-in-Some-clause-commands : goal.returns-in-Some-clause-commands
returns-in-Some-clause-commands c =
    let is : c.in-Some.lines.now ≡ get_or c.args.all.now.items c.number.result c.in-Some.lines.now = c.in-Some.ensures.value in
    map-set_same commands_of c.args.all.now.items c.number.result c.write.new.lines c.in-Some.lines.now (c.write.ensures.commands ∙ ap commands_of is)

pub returns-in-Some-clause-bytes : goal.returns-in-Some-clause-bytes
returns-in-Some-clause-bytes c =
    let all = c.args.all.now.items in
    let k = c.number.result in
    let a = c.args.access.now in
    let is : c.in-Some.lines.now ≡ get_or all k c.in-Some.lines.now = c.in-Some.ensures.value in
    let lt : k < length all = (let some = c.in-Some.ensures.variant.0 refl in let len = c.args.all.now.ok in omega (arith, some, len)) in
    let row : get_or (bytes_on all) k [] ≡ bytes_of c.in-Some.lines.now = read_mapped bytes_of all k c.in-Some.lines.now [] lt is in
    let own : bytes_of c.write.new.lines ≡ set (get_or (bytes_on all) k []) a.index a.bytes =
    c.write.ensures.bytes ∙ (ap (λ (t : List (List ℕ)). set t a.index c.copied.result) (sym row) ∙ ap (λ (b : List ℕ). set (get_or (bytes_on all) k []) a.index b) c.copied.ensures) in
    map-set bytes_of all k c.write.new.lines
    ∙ (ap (λ (t : List (List ℕ)). set (bytes_on all) k t) own
    ∙ ap (λ (n : ℕ). set (bytes_on all) n (set (get_or (bytes_on all) n []) a.index a.bytes)) c.number.ensures)
