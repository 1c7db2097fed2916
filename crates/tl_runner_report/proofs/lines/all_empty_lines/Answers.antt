use Rattle.std.proofs.Common.{◌≡◌, ℕ, List, [], Vec, length, map, replicate, take, ap, sym, ◌∙◌, arith}
use Rattle.std.specs.declared.alloc.Global.{Global}
use Rattle.tl_script_words.specs.declared.command.Command.{Command}
use Rattle.tl_text.specs.declared.report.Answered.{Answered}
use Rattle.tl_script.specs.Commands.{commands as commands_in}
use Rattle.tl_runner_report.proofs.Compared.{grown, lists_more, mapped_more}
use Rattle.tl_runner_report.proofs.lines.all_empty_lines.Goals as goal

abbrev without : List Command → List (List ℕ)
without list = replicate (length list) []

pub loop-list-preserved : goal.loop-list-preserved
loop-list-preserved c =
    let cs = c.args.commands.now in
    let i = c.loop-list.list-index in
    let more = lists_more cs i c.list-item.result (omega arith) c.list-item.is in
    let list = c.list-item.result.items in
    let same : c.deref.result.now ≡ list = c.deref.ensures.value in (
      grown (λ (lines : Vec Answered Global). map (λ (line : Answered). line.command) lines.items) c.loop-list.all.items c.push.new.self.items c.in_ok-lines.lines (take i (commands_in cs)) list
          c.in_ok-push.ensures.items c.loop-list.invariant.0 (c.in_ok-lines.ensures.commands ∙ same)
          ∙ sym more,
      grown (λ (lines : Vec Answered Global). map (λ (line : Answered). line.bytes) lines.items) c.loop-list.all.items c.push.new.self.items c.in_ok-lines.lines (map without (take i (commands_in cs))) (without list)
          c.in_ok-push.ensures.items c.loop-list.invariant.1 (c.in_ok-lines.ensures.bytes ∙ ap without same)
          ∙ (sym (mapped_more without (take i (commands_in cs)) list) ∙ ap (λ (ls : List (List Command)). map without ls) (sym more)),
    )
