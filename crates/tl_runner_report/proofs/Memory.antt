-- Banks that match a script are one memory, whose accesses the lines show.
use Rattle.std.proofs.Common.{◌≡◌, ℕ, zero, suc, ◌<◌, ◌≤◌, ⊎_elim, List, [], ◌∷◌, length, slice_get, filter, All, Vec, Some, refl, sym, subst, arith}
use Rattle.std.specs.List.{AllZip}
use Rattle.std.specs.declared.alloc.Global.{Global}
use Rattle.std.proofs.lemmas.Bool.{cases_lt}
use Rattle.std.proofs.lemmas.List.{get_or_past}
use Rattle.tl_map.specs.Numbers.{Numbers}
use Rattle.tl_map.specs.Places.{bank_of}
use Rattle.tl_protocol.specs.declared.event.Event.{Event}
use Rattle.tl_text.specs.declared.report.Answered.{Answered}
use Rattle.tl_script.specs.Commands.{commands as commands_in}
use Rattle.tl_script.specs.declared.script.Script.{Script}
use Rattle.tl_bank_spec.specs.View.{View, shape_of}
use Rattle.tl_rules.specs.Ordered.{EveryCertifiedOrderIsOneMemory}
use Rattle.tl_runner_report.specs.Banks.{HasRun, logs_in}
use Rattle.tl_runner_report.specs.Carried.{Answers, is_line, lines_of, is_by, commands_of}
use Rattle.tl_runner_report.specs.Conclusion.{AreMatched, IsOneMemory, ShowsAll, ShowsClient}
use Rattle.tl_runner_report.proofs.Carried.{answered, none_beyond}
use Rattle.tl_runner_report.proofs.Compared.{length_lists}
use Rattle.tl_runner_report.proofs.ScriptBanks.{runs_of_script}

-- the lines of a client that is there
record LinesAt (clients : List (Vec Answered Global)) (client : ℕ) : Type 0 where
  lines : Vec Answered Global
  there : slice_get clients client ≡ Some lines
  is : lines_of clients client ≡ lines.items

lines_at : (clients : List (Vec Answered Global)) (client : ℕ) → client < length clients → LinesAt clients client
lines_at [] client lt = absurd (omega arith)
lines_at (x ∷ xs) zero lt = record { lines = x; there = refl; is = refl }
lines_at (x ∷ xs) (suc client) lt =
    let rest : LinesAt xs client = lines_at xs client (omega arith) in record { lines = rest.lines; there = rest.there; is = rest.is }

lines_past : (clients : List (Vec Answered Global)) (client : ℕ) → length clients ≤ client → lines_of clients client ≡ []
lines_past [] client le = refl
lines_past (x ∷ xs) zero le = absurd (omega arith)
lines_past (x ∷ xs) (suc client) le = lines_past xs client (omega arith)

pub one_memory : EveryCertifiedOrderIsOneMemory → (script : Script) (banks : List View) (clients : List (Vec Answered Global))
    → AreMatched script banks → ShowsAll (commands_in script.commands.items) (logs_in banks) clients (length script.commands.items)
    → All HasRun banks → IsOneMemory script banks clients
one_memory law script banks clients matched shows has =
    let g : Numbers = script.geometry in
    let logs = logs_in banks in
    let commands = commands_in script.commands.items in
    let many : length clients ≡ length script.commands.items = shows.as_many in
    let long = length_lists script.commands.items in
    let found = law (shape_of g) script.image.items (bank_of g) logs matched.certified (runs_of_script script banks matched.banks_of has) in
    let order : List Event = found.0 in
    record {
      runs = has;
      ordered = order;
      in_order = found.1;
      answered = λ client.
          ⊎_elim
          (λ (lt : client < length clients).
          let at : LinesAt clients client = lines_at clients client lt in
          let own : ShowsClient (commands_of commands client) client logs at.lines.items = shows.each client at.lines at.there in
          subst (λ (lines : List Answered). AllZip Answers (filter is_line lines) (filter (is_by client) order)) (sym at.is)
          (answered commands logs order found.1.all found.2 matched.each client (matched.as_many client (omega arith)) at.lines.items own.same own.accesses))
          (λ (le : length clients ≤ client).
          let none : commands_of commands client ≡ [] = get_or_past commands client [] (omega arith) in
          subst (λ (lines : List Answered). AllZip Answers (filter is_line lines) (filter (is_by client) order)) (sym (lines_past clients client le))
          (subst (λ (es : List Event). AllZip Answers (filter is_line []) es) (sym (none_beyond commands logs order found.1.all matched.each client none)) tt))
          (cases_lt client (length clients));
      one_memory = found.3;
    }
