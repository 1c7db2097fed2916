-- The cases of a conclusion.
use Rattle.std.proofs.Common.{◌≡◌, List, length, Vec, Result, Ok, Err, sym, ap, ◌∙◌, subst}
use Rattle.std.specs.Borrow.{Bor}
use Rattle.std.specs.declared.alloc.Global.{Global}
use Rattle.tl_protocol.specs.declared.event.Event.{Event}
use Rattle.tl_script_words.specs.declared.command.Command.{Command}
use Rattle.tl_text.specs.declared.report.Answered.{Answered}
use Rattle.tl_text.specs.declared.report.Report.{Report}
use Rattle.tl_script.specs.Commands.{commands as commands_in}
use Rattle.tl_script.specs.declared.script.Script.{Script}
use Rattle.tl_bank_spec.specs.Share.{ShareView}
use Rattle.tl_bank_spec.specs.View.{View}
use Rattle.tl_rules.specs.Certified.{events_of, IsCertified}
use Rattle.tl_runner_report.specs.Banks.{AreBanksOf, logs_in}
use Rattle.tl_runner_report.specs.Carried.{EachHasCommand, AreAsMany}
use Rattle.tl_runner_report.specs.Loops.{AreCarriedOut}
use Rattle.tl_runner_report.specs.Conclusion.{AreAllShares, AreMatched, ShowsAll}
use Rattle.tl_runner_report.specs.declared.error.RunError.{RunError}
use Rattle.tl_runner_report.specs.declared.error.RunError.TheVariants.{Memory, NotOrdered}
use Rattle.tl_runner_report.proofs.Reported.{each_moved, many_moved}

pub matched : (script : Script) (banks : List View) (cs : List (Vec Command Global)) (logs : List (Bor (List Event)))
    → cs ≡ script.commands.items → events_of logs ≡ logs_in banks → IsCertified (events_of logs) → AreBanksOf script banks
    → EachHasCommand (commands_in cs) (events_of logs) → AreAsMany (commands_in cs) (events_of logs) → AreMatched script banks
matched script banks cs logs p q certified banks_of each as_many = record {
  certified = subst IsCertified q certified;
  banks_of = banks_of;
  each = each_moved (commands_in cs) (commands_in script.commands.items) (events_of logs) (logs_in banks) (ap commands_in p) q each;
  as_many = many_moved (commands_in cs) (commands_in script.commands.items) (events_of logs) (logs_in banks) (ap commands_in p) q as_many;
}

-- what matches a script carries out its commands
pub carried : (script : Script) (banks : List View) (cs : List (Vec Command Global)) (logs : List (Bor (List Event)))
    → cs ≡ script.commands.items → events_of logs ≡ logs_in banks → AreMatched script banks → AreCarriedOut (commands_in cs) (events_of logs)
carried script banks cs logs p q m = (
  each_moved (commands_in script.commands.items) (commands_in cs) (logs_in banks) (events_of logs) (ap commands_in (sym p)) (sym q) m.each,
  many_moved (commands_in script.commands.items) (commands_in cs) (logs_in banks) (events_of logs) (ap commands_in (sym p)) (sym q) m.as_many,
)

-- the same lines, of the same commands and logs
pub shown_moved : (cs ds : List (Vec Command Global)) (ls ms : List (List Event)) (xs ys : List (Vec Answered Global)) → cs ≡ ds → ls ≡ ms → ys ≡ xs
    → ShowsAll (commands_in cs) ls xs (length cs) → ShowsAll (commands_in ds) ms ys (length ds)
shown_moved cs ds ls ms xs ys p q r shows =
    subst (λ (c : List (Vec Command Global)). ShowsAll (commands_in c) ms ys (length c)) p
    (subst (λ (l : List (List Event)). ShowsAll (commands_in cs) l ys (length cs)) q
    (subst (λ (a : List (Vec Answered Global)). ShowsAll (commands_in cs) ls a (length cs)) (sym r) shows))

-- when 42 is answered
abbrev pub IsNotOrdered : Script → List View → List (Vec ShareView Global) → Result Report RunError → Type 0
IsNotOrdered script banks shares r =
    (r ≡ Err NotOrdered → AreAllShares banks shares × (AreMatched script banks → ⊥))
    × (AreAllShares banks shares × (AreMatched script banks → ⊥) → r ≡ Err NotOrdered)

pub is_ordered : (script : Script) (banks : List View) (shares : List (Vec ShareView Global)) (r : Result Report RunError)
    → AreMatched script banks → (r ≡ Err NotOrdered → ⊥) → IsNotOrdered script banks shares r
is_ordered script banks shares r m never = (λ p. absurd (never p), λ n. absurd (n.1 m))

pub memory_is_other : (r : Result Report RunError) → r ≡ Err Memory → r ≡ Err NotOrdered → ⊥
memory_is_other r p q =
    let e : ◌≡◌ {A = Result Report RunError} (Err Memory) (Err NotOrdered) = sym p ∙ q in cc

pub ok_is_other : (report : Report) → ◌≡◌ {A = Result Report RunError} (Ok report) (Err NotOrdered) → ⊥
ok_is_other report q = cc
