use Rattle.tl_script_words.specs.Words.{texts}
use Rattle.tlwire_answer.proofs.Replied.{told_may}
use Rattle.tlwire_answer.proofs.reply.reply.Goals as goal

pub returns : goal.returns
returns g c =
    let told = c.tell_ending.ensures in (
      told.0,
      told_may (texts c.args.lines.now) c.judge_lines-ending.result told.0 told.1 c.judge_lines-ending.ensures,
      told.2,
      told.3,
    )
