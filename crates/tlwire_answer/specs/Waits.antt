-- What the header expects of the exchanges of a record, and what is told of them (this project's own format).
use Rattle.std.specs.Prelude.{ℕ, ◌==◌, List, [], ◌++◌, length, codes, decimal, Option, Some, None, if◌then◌else◌}
use Rattle.std.specs.List.{flat_map}
use Rattle.tlwire_exchanges.specs.Opened.{exchanges_of}
use Rattle.tlwire_exchanges.specs.Times.{cycle_at, first, is_longer, is_open, longest_closed, open_for}
use Rattle.tlwire_exchanges.specs.declared.exchange.Response.{Response}
use Rattle.tlwire_exchanges.specs.declared.exchange.Response.TheVariants.{Grant, GrantAck, ProbeAck, ReleaseAck, AccessAckData, AccessAck}
use Rattle.tlwire_exchanges.specs.declared.opened.Opened.{Opened}
use Rattle.tlwire_record.specs.Messages.{MessagesState}
use Rattle.tlwire_answer.specs.Lines.{number_at, text_at}
use Rattle.tlwire_answer.specs.declared.waits.Told.{Told}
use Rattle.tlwire_answer.specs.declared.waits.Told.TheVariants as told
use Rattle.tlwire_answer.specs.declared.waits.Unmet.{Unmet}
use Rattle.tlwire_answer.specs.declared.waits.Unmet.TheVariants.{TooLong, NotQuiet}

-- ## What is expected

-- `patience NUM`: the first exchange that is open for more cycles
abbrev pub too_long : MessagesState → Option ℕ → Option Opened
too_long m None = None
too_long m (Some most) = first (is_longer m.cycles m.cycle most) (exchanges_of m.seen)

-- `ends quiet`: the first exchange that is open at the end
abbrev pub not_quiet : MessagesState → Option Opened
not_quiet m = if m.setting.expects.quiet then first is_open (exchanges_of m.seen) else None

-- what is not kept: of a patience before of the end
abbrev pub unmet_by : Option Opened → Option Opened → Option Unmet
unmet_by (Some o) quiet = Some (TooLong o)
unmet_by None (Some o) = Some (NotQuiet o)
unmet_by None None = None

-- What the header expects and the record does not keep, if anything.
abbrev pub unmet_of : MessagesState → Option Unmet
unmet_of m = unmet_by (too_long m m.setting.expects.patience) (not_quiet m)

-- ## What is told

-- as what an exchange is told
abbrev pub head_text : Told → List ℕ
head_text told.Open = codes "open at the end"
head_text told.Longest = codes "longest wait"
head_text told.TooLong = codes "too long"
head_text told.NotQuiet = codes "not quiet"

-- the name of a response
abbrev pub response_text : Response → List ℕ
response_text Grant = codes "Grant"
response_text GrantAck = codes "GrantAck"
response_text ProbeAck = codes "ProbeAck"
response_text ReleaseAck = codes "ReleaseAck"
response_text AccessAckData = codes "AccessAckData"
response_text AccessAck = codes "AccessAck"

-- the number of the line that opens it
abbrev pub line_text : Told → ℕ → List ℕ
line_text t number = head_text t ++ codes ": line " ++ decimal number

-- so many cycles
abbrev pub cycles_text : ℕ → List ℕ
cycles_text cycles = if cycles == 1 then codes "1 cycle" else decimal cycles ++ codes " cycles"

-- since when it is open, and for how many cycles
abbrev pub since_text : ℕ → ℕ → List ℕ
since_text since cycles = codes ", since cycle " ++ decimal since ++ codes ", for " ++ cycles_text cycles

-- the number of the line of its answer, or that there is none
abbrev pub answer_line : Response → Option ℕ → List ℕ
answer_line response None = codes ", without its " ++ response_text response ++ codes ": "
answer_line response (Some number) = codes ", until its " ++ response_text response ++ codes " in line " ++ decimal number ++ codes ": "

-- the number of that line
abbrev pub answer_number : List ℕ → Option ℕ → Option ℕ
answer_number numbers None = None
answer_number numbers (Some place) = Some (number_at numbers place)

-- an exchange: its line, since when it is open and for how long, its answer, and the line as it stands
abbrev pub wait_text : Told → List (List ℕ) → MessagesState → Opened → List ℕ
wait_text t lines m o =
    line_text t (number_at m.lines o.place) ++ since_text (cycle_at m.cycles o.place) (open_for m.cycles m.cycle o)
    ++ answer_line o.exchange.response (answer_number m.lines o.answer)
    ++ text_at lines (number_at m.lines o.place)
    ++ codes "\n"

-- one that is open at the end
abbrev pub open_text : List (List ℕ) → MessagesState → Opened → List ℕ
open_text lines m o = if is_open o then wait_text told.Open lines m o else []

-- the longest wait of those that were answered, if there is one
abbrev pub longest_text : List (List ℕ) → MessagesState → Option Opened → List ℕ
longest_text lines m None = []
longest_text lines m (Some o) = wait_text told.Longest lines m o

-- Each exchange that is open at the end, in the order of their lines, and the longest wait of the others.
abbrev pub waits_text : List (List ℕ) → MessagesState → List ℕ
waits_text lines m =
    flat_map (open_text lines m) (exchanges_of m.seen) ++ longest_text lines m (longest_closed m.cycles m.cycle (exchanges_of m.seen))

-- the exchange that is not as the header expects
abbrev pub unmet_text : List (List ℕ) → MessagesState → Unmet → List ℕ
unmet_text lines m (TooLong o) = wait_text told.TooLong lines m o
unmet_text lines m (NotQuiet o) = wait_text told.NotQuiet lines m o

-- how many lines are left out, where some are
abbrev pub left_count : ℕ → List ℕ
left_count count = if count == 0 then [] else codes "lines left out: " ++ decimal count ++ codes "\n"

-- the same of a record
abbrev pub left_text : MessagesState → List ℕ
left_text m = left_count (length m.left_lines)

-- What stands behind an answer: how many lines are left out, and the exchanges.
abbrev pub tail_text : List (List ℕ) → MessagesState → List ℕ
tail_text lines m = left_text m ++ waits_text lines m
