-- What a bank holds at the end, as text (this project's own format).
use Rattle.std.specs.Prelude.{ℕ, Bool, true, false, List, ◌++◌, codes, decimal}
use Rattle.std.specs.List.{flat_map}
use Rattle.tl_types.specs.declared.permission.Perm.{Perm}
use Rattle.tl_types.specs.declared.permission.Perm.TheVariants.{None, Branch, Tip}
use Rattle.tl_text.specs.declared.closing.Standing.{Standing}
use Rattle.tl_text.specs.declared.closing.BlockLine.{BlockLine}
use Rattle.tl_text.specs.declared.closing.BankClosing.{BankClosing}

-- the letter of a permission
abbrev pub perm_letter : Perm → List ℕ
perm_letter None = codes "N"
perm_letter Branch = codes "B"
perm_letter Tip = codes "T"

-- what home records of each client
abbrev pub recorded_letters : List Standing → List ℕ
recorded_letters clients = flat_map (λ s. perm_letter s.recorded) clients

-- what each client holds
abbrev pub held_letters : List Standing → List ℕ
held_letters clients = flat_map (λ s. perm_letter s.held) clients

-- whether home's copy is dirty
abbrev pub flag_text : Bool → List ℕ
flag_text true = codes "dirty"
flag_text false = codes "clean"

-- what home and the clients have of a block
abbrev pub block_text : BlockLine → List ℕ
block_text b = codes "block " ++ decimal b.block ++ codes " " ++ flag_text b.dirty ++ codes " recorded " ++ recorded_letters b.clients.items ++ codes " copies " ++ held_letters b.clients.items

-- its line
abbrev pub block_line : BlockLine → List ℕ
block_line b = block_text b ++ codes "\n"

-- a bank's own line
abbrev pub bank_line : ℕ → BankClosing → List ℕ
bank_line bank c = codes "bank " ++ decimal bank ++ codes " held " ++ decimal c.held ++ codes " recorded " ++ decimal c.recorded ++ codes " events " ++ decimal c.events ++ codes "\n"

-- the line of each block, and the bank's own
abbrev pub closing_lines : ℕ → BankClosing → List ℕ
closing_lines bank c = flat_map block_line c.blocks.items ++ bank_line bank c
