-- Why the words of a command line ask for nothing (this project's own).
use Rattle.std.specs.Prelude.{◌≡◌, Result, Ok, Err}
use Rattle.std.specs.IoError.{error_kind}
use Rattle.std.specs.declared.io.Error.{Error}
use Rattle.std.specs.declared.io.ErrorKind.{ErrorKind as IoErrorKind}
use Rattle.std.specs.declared.io.ErrorKind.TheVariants.{OutOfMemory as IoOutOfMemory}
use Rattle.clap.specs.declared.error.kind.ErrorKind.{ErrorKind}
use Rattle.clap.specs.declared.error.kind.ErrorKind.TheVariants.{OutOfMemory}
use Rattle.tl_streams.specs.declared.command_line.WordsError.{WordsError}
use Rattle.tl_streams.specs.declared.command_line.WordsError.TheVariants.{Usage, Memory}

-- words that the system has not for want of memory are Memory, each other Usage
abbrev pub error_of_system : IoErrorKind → WordsError
error_of_system IoOutOfMemory = Memory
error_of_system _ = Usage

-- words that `clap` refuses for want of memory are Memory, each other Usage
abbrev pub error_of_parse : ErrorKind → WordsError
error_of_parse OutOfMemory = Memory
error_of_parse _ = Usage

-- why there are no words: the system's cause, or want of memory where it has them
abbrev pub IsWhyNoWords : {X : Type 0} → Result X Error → WordsError → Type 0
IsWhyNoWords (Err error) cause = cause ≡ error_of_system (error_kind error)
IsWhyNoWords (Ok given) cause = cause ≡ Memory
