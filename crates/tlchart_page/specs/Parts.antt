-- What the page shows of a bank, part by part, in the words of `Words`: just what the bank's views answer (this project's own).
use Rattle.std.specs.Prelude.{ℕ, zero, suc, List, [], ◌∷◌, ◌++◌, Option, Some, None, codes, decimal, map}
use Rattle.std.specs.List.{flat_map}
use Rattle.tl_types.specs.declared.limits.TheConstants.{MESSAGES}
use Rattle.tl_types.specs.declared.channel.Channel.{Channel}
use Rattle.tl_registers.specs.declared.register.Register.{Register}
use Rattle.tl_text.specs.Closing.{perm_letter}
use Rattle.tl_bank_spec.specs.View.{View}
use Rattle.tl_bank_spec.specs.Views.{recorded_at, outward_at}
use Rattle.tl_bank.specs.Contents.{copy_at, wait_at, line_at, memory_at, message_waiting, next_at, slot_shown}
use Rattle.tl_trace.specs.NetworkState.{NetworkState, bank_at}
use Rattle.tlchart_page.specs.Words.{copy_text, wait_text, line_text, outward_text, bytes_text, message_text, task_text, members_below, due_text, slot_text}
use Rattle.tlchart_page.specs.declared.parts.Part.{Part}
use Rattle.tlchart_page.specs.declared.parts.Part.TheVariants as part
use Rattle.tlchart_page.specs.declared.parts.Cell.{Cell}

-- a client's copy of a block, what it waits for, and what home records of it
abbrev pub client_text : View → ℕ → ℕ → List ℕ
client_text v client block =
    copy_text (copy_at v client block) ++ codes " " ++ wait_text (wait_at v client block) ++ codes " "
    ++ perm_letter (recorded_at v client block)

-- home's copy of a block, and what passes of it between home and the memory
abbrev pub home_text : View → ℕ → List ℕ
home_text v block = line_text (line_at v block) ++ codes " " ++ outward_text (outward_at v block)

-- the messages that wait at the first places of a channel, oldest first
unfoldable pub waiting_below : View → ℕ → Channel → ℕ → List ℕ
waiting_below v client channel zero = []
waiting_below v client channel (suc n) =
    waiting_below v client channel n ++ message_text (message_waiting v client channel n)

-- a register's block, its way, and what it is open for
unfoldable pub head_text : Register → List ℕ
head_text r = decimal r.own ++ codes "," ++ decimal r.way.set ++ codes "," ++ decimal r.way.way ++ codes "," ++ task_text r.task ++ codes ","

-- what a register does next
unfoldable pub tail_text : View → ℕ → List ℕ
tail_text v own = codes "," ++ due_text (next_at v own) ++ codes ";"

-- a register: its block, its way, what it is open for, whom it has probed, and what it does next
abbrev pub register_text : View → Register → List ℕ
register_text v r = head_text r ++ members_below r.probed v.geometry.clients ++ tail_text v r.own

-- what lies in the first ways of a set
abbrev pub ways_below : View → ℕ → ℕ → List ℕ
ways_below v set zero = []
ways_below v set (suc n) = ways_below v set n ++ slot_text (slot_shown v set n)

-- a part of a bank; a channel has room for `MESSAGES` messages
abbrev pub part_text : View → Part → List ℕ
part_text v (part.Client client block) = client_text v client block
part_text v (part.Home block) = home_text v block
part_text v (part.Memory block) = bytes_text (memory_at v block)
part_text v (part.Channel client channel) = waiting_below v client channel MESSAGES
part_text v (part.Set set) = ways_below v set v.geometry.ways
part_text v part.Registers = flat_map (register_text v) v.registers

-- a part of a bank that may be there
abbrev pub part_of : Option View → Part → List ℕ
part_of None p = []
part_of (Some v) p = part_text v p

-- what a cell shows of all banks: a part of its bank
abbrev pub cell_text : NetworkState → Cell → List ℕ
cell_text network cell = part_of (bank_at network cell.bank) cell.part

-- what these cells show: the state, as the page has it
abbrev pub state_shown : NetworkState → List Cell → List (List ℕ)
state_shown network cells = map (cell_text network) cells
