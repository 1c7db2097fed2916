use Rattle.std.proofs.Common.{rules}
use Rattle.tl_streams.proofs.command_line.WordsErrorFromClapError.from.Goals as goal

pub returns-in-OutOfMemory : goal.returns-in-OutOfMemory
returns-in-OutOfMemory c = search rules
