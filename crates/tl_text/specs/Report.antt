-- The report of a run, as text (this project's own format).
use Rattle.std.specs.Prelude.{ℕ, ◌+◌, List, [], ◌∷◌, ◌++◌, codes, decimal, Vec}
use Rattle.std.specs.declared.alloc.Global.{Global}
use Rattle.tl_script_words.specs.declared.command.Command.{Command}
use Rattle.tl_script_words.specs.declared.command.Command.TheVariants.{Load, Store, Drop}
use Rattle.tl_text.specs.declared.report.Answered.{Answered}
use Rattle.tl_text.specs.declared.report.BankLine.{BankLine}
use Rattle.tl_text.specs.declared.report.Report.{Report}
use Rattle.tl_script_words.specs.Hex.{hex_text, address_text}

-- the command, and the bytes that a load got
abbrev pub command_text : Command → List ℕ → List ℕ
command_text (Load address len) got = codes "load " ++ address_text address ++ codes " " ++ hex_text got
command_text (Store address bytes) got = codes "store " ++ address_text address ++ codes " " ++ hex_text bytes
command_text (Drop address) got = codes "drop " ++ address_text address

-- what a command that was answered prints as
abbrev pub answered_text : Answered → List ℕ
answered_text a = command_text a.command a.bytes

-- the line of each element and its number, from number i on
abbrev pub lines_from : {X : Type 0} → (ℕ → X → List ℕ) → ℕ → List X → List ℕ
lines_from line i [] = []
lines_from line i (x ∷ xs) = line i x ++ lines_from line (i + 1) xs

-- its index in front
abbrev pub answered_line : ℕ → Answered → List ℕ
answered_line index a = decimal index ++ codes " " ++ answered_text a ++ codes "\n"

-- a client's line, and those of its commands
abbrev pub client_lines : ℕ → Vec Answered Global → List ℕ
client_lines client answers = codes "client " ++ decimal client ++ codes "\n" ++ lines_from answered_line 0 answers.items

-- the line of a bank
abbrev pub bank_line : ℕ → BankLine → List ℕ
bank_line bank line = codes "bank " ++ decimal bank ++ codes " held " ++ decimal line.held ++ codes " recorded " ++ decimal line.recorded ++ codes "\n"

-- the clients, the banks, and `ok`
abbrev pub report_text : Report → List ℕ
report_text r = lines_from client_lines 0 r.clients.items ++ lines_from bank_line 0 r.banks.items ++ codes "ok\n"
