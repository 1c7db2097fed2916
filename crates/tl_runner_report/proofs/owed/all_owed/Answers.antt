use Rattle.std.proofs.Common.{◌≡◌, ◌<◌, ◌≤◌, ⊎_elim, List, count_by, sym, ap, ◌∙◌, arith}
use Rattle.std.proofs.Math.ListN.{length-set}
use Rattle.std.proofs.lemmas.Bool.{cases_lt}
use Rattle.std.proofs.lemmas.List.{get_or-set_other}
use Rattle.tl_script_words.specs.declared.command.Command.{Command}
use Rattle.tl_script.specs.Commands.{commands as commands_in}
use Rattle.tl_runner_report.specs.Carried.{commands_of, makes_access}
use Rattle.tl_runner_report.proofs.Compared.{length_lists, none_owed, read_list, written_at}
use Rattle.tl_runner_report.proofs.owed.all_owed.Goals as goal

pub loop-client-preserved : goal.loop-client-preserved
loop-client-preserved c =
    let i = c.loop-client.client in
    let wide = c.loop-client.invariant.2 in
    let list = read_list c.args.commands.now i c.index-commands-client.result (omega arith) c.index-commands-client.is in
    let number = c.count_accesses.ensures ∙ ap (λ (cs : List Command). count_by makes_access cs) (c.deref.ensures.value ∙ sym list) in (
      written_at c.loop-client.owed i c.count_accesses.result
          (λ client n. n ≡ count_by makes_access (commands_of (commands_in c.args.commands.now) client)) (omega arith) c.loop-client.invariant.0 number,
      λ client le. get_or-set_other c.loop-client.owed i client c.count_accesses.result 0 (λ e. absurd (omega arith)) ∙ c.loop-client.invariant.1 client (omega arith),
      length-set c.loop-client.owed i c.count_accesses.result ∙ wide,
    )

pub returns : goal.returns
returns c =
    let i = c.loop-client.client in
    let cs = c.args.commands.now in
    let past = c.loop-client-test.false in
    λ client.
    ⊎_elim (λ (lt : client < i). c.loop-client.invariant.0 client lt)
    (λ (le : i ≤ client).
    c.loop-client.invariant.1 client le ∙ sym (none_owed (commands_in cs) client (let long = length_lists cs in omega (arith, le, past, long))))
    (cases_lt client i)
