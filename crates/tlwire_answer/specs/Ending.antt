-- What an answer ends with, what is written then, and its status (this project's own format).
use Rattle.std.specs.Prelude.{◌≡◌, ◌≢◌, ℕ, Bool, List, [], ◌++◌, length, codes, decimal, Option, Some, None, if◌then◌else◌}
use Rattle.std.specs.Io.KnownBytes.{Appends}
use Rattle.std.specs.List.{flat_map}
use Rattle.tl_protocol.specs.declared.event.Event.{Event}
use Rattle.tl_streams.specs.Fault.{program_fault_text}
use Rattle.tl_streams.specs.declared.command_line.WordsError.{WordsError}
use Rattle.tl_streams.specs.declared.command_line.WordsError.TheVariants as words
use Rattle.tl_streams.specs.declared.fault.ProgramFault.TheVariants as program
use Rattle.tl_streams.specs.Written.{AppendsBeginning}
use Rattle.tl_streams.specs.declared.reading.ReadError.{ReadError}
use Rattle.tl_streams.specs.declared.reading.ReadError.TheVariants as read
use Rattle.tlcheck_rules.specs.declared.judge.Breach.{Breach}
use Rattle.tlcheck_record.specs.Reason.{reason_text}
use Rattle.tlcheck_record.specs.State.{copy_text, wait_text}
use Rattle.tlwire_search.specs.Premises.{has_drops}
use Rattle.tlwire_search.specs.declared.search.Limit.{Limit}
use Rattle.tlwire_search.specs.declared.search.Limit.TheVariants.{NoWay, Depth, Events}
use Rattle.tlwire_closed.specs.declared.answer.Hindrance.{Hindrance}
use Rattle.tlwire_closed.specs.declared.answer.Hindrance.TheVariants.{Breach as Breaks, Line as Behind, Order as InOrder}
use Rattle.tlwire_closed.specs.declared.answer.Reason.{Reason}
use Rattle.tlwire_closed.specs.declared.answer.Reason.TheVariants.{NoContradiction, TooManyStates}
use Rattle.tlwire_closed.specs.declared.answer.Side.{Side}
use Rattle.tlwire_closed.specs.declared.answer.Side.TheVariants as side
use Rattle.tlwire_closed.specs.declared.answer.Stop.{Stop}
use Rattle.tlwire_closed.specs.declared.answer.Stuck.{Stuck}
use Rattle.tlwire_pins.specs.declared.pass.Wrong.{Wrong}
use Rattle.tlwire_pins.specs.declared.view.View.{View}
use Rattle.tlcheck_record.specs.Cause.{is_outside, sentence}
use Rattle.tlwire_record.specs.Messages.{MessagesState}
use Rattle.tlcheck_record.specs.declared.cause.Cause.{Cause}
use Rattle.tlwire_answer.specs.Advice.{advised_line}
use Rattle.tlwire_answer.specs.Lines.{number_at, text_at}
use Rattle.tlwire_answer.specs.Run.{run_text}
use Rattle.tlwire_answer.specs.Waits.{left_text, tail_text, unmet_text}
use Rattle.tlwire_answer.specs.declared.ending.Ending.{Ending}
use Rattle.tlwire_answer.specs.declared.ending.Ending.TheVariants.{Usage, Answered, Wrong as WrongLine, Empty, Memory, File}
use Rattle.tlwire_answer.specs.declared.order.Order.{Order}
use Rattle.tlwire_answer.specs.declared.order.Order.TheVariants.{AtPins, Between, AtHome, AtClients}
use Rattle.tlwire_answer.specs.declared.verdict.Undecided.{Undecided}
use Rattle.tlwire_answer.specs.declared.verdict.Verdict.{Verdict}
use Rattle.tlwire_answer.specs.declared.verdict.Verdict.TheVariants.{Explained, Impossible, RuledOut, NotDecided, OtherOrder, Unmet}
use Rattle.tlwire_answer.specs.declared.ending.Form.{Form}
use Rattle.tlwire_answer.specs.declared.ending.Form.TheVariants.{Summary, Run}

-- explained ends with 0, impossible and what is not as the header expects with 1, not decided with 6
abbrev pub verdict_status : Verdict → ℕ
verdict_status (Explained events) = 0
verdict_status (Impossible wrong) = 1
verdict_status (RuledOut stuck) = 1
verdict_status (NotDecided place limit sets) = 6
verdict_status (OtherOrder order sets) = 6
verdict_status (Unmet unmet) = 1

-- usage ends with 2, what is no record of messages with 3, want of memory with 4, the file with 5
abbrev pub status_of : Ending → ℕ
status_of Usage = 2
status_of (Answered messages verdict) = verdict_status verdict
status_of (WrongLine line cause) = 3
status_of Empty = 3
status_of Memory = 4
status_of File = 5

-- 50 is outside the format, 52 TileLink's and outside the profile
abbrev pub wrong_text : ℕ → Cause → List ℕ
wrong_text line cause =
    if is_outside cause then codes "error 52 line " ++ decimal line ++ codes ": " ++ sentence cause
    else codes "error 50 line " ++ decimal line ++ codes ": " ++ sentence cause

-- a fault as it prints
abbrev pub fault_text : Ending → List ℕ
fault_text Usage = program_fault_text program.Usage
fault_text (Answered messages verdict) = []
fault_text (WrongLine line cause) = wrong_text line cause
fault_text Empty = codes "error 51 empty"
fault_text Memory = program_fault_text program.Memory
fault_text File = program_fault_text program.File

-- the line of a fault
abbrev pub fault_line : Ending → List ℕ
fault_line ending = fault_text ending ++ codes "\n"

-- words that ask for nothing end as usage, or for want of memory
abbrev pub ending_of_words : WordsError → Ending
ending_of_words words.Usage = Usage
ending_of_words words.Memory = Memory

-- a file that is not read to its end ends as a read, or for want of memory
abbrev pub ending_of_read : ReadError → Ending
ending_of_read read.Memory = Memory
ending_of_read read.File = File

-- so much was seen, and so many events explain it
abbrev pub summary_text : ℕ → ℕ → List ℕ
summary_text seen events = codes "explained: " ++ decimal seen ++ codes " seen, " ++ decimal events ++ codes " events\n"

-- how much was seen, and how many events explain it
abbrev pub summary_line : MessagesState → List Event → List ℕ
summary_line m events = summary_text (length m.seen) (length events)

-- the run, as a record of events
abbrev pub run_of : MessagesState → List Event → List ℕ
run_of m events = run_text m.setting.shape m.image events

-- what ended an attempt
abbrev pub limit_text : Limit → List ℕ
limit_text NoWay = codes "no event that was tried leads there"
limit_text Depth = codes "each of a row of 96 events asks for another one first"
limit_text Events = codes "4096 events did not lead there"

-- why no closed set says that it is unlawful, where one was sought, or where a client drops clean copies
abbrev pub sets_text : Bool → Option Reason → List ℕ
sets_text drops None = if drops then codes "; no closed set is made where a client drops clean copies" else []
sets_text drops (Some NoContradiction) = codes "; in each block a state comes past all lines"
sets_text drops (Some TooManyStates) = codes "; a block has more states than are kept"

-- that nothing more is said: why closed sets say nothing, and which line of the header would have decided it
abbrev pub undecided_text : Bool → Undecided → List ℕ
undecided_text drops u =
    sets_text drops u.sets ++ codes "; this is no verdict that it is unlawful\n" ++ advised_line u.advice

-- what ended an attempt, behind the line that it did not reach
abbrev pub limit_line : Limit → Bool → Undecided → List ℕ
limit_line limit drops u = codes "\n" ++ limit_text limit ++ undecided_text drops u

-- the line that no attempt reached, and what ended it
abbrev pub not_decided_text : ℕ → List ℕ → Limit → Bool → Undecided → List ℕ
not_decided_text number line limit drops u =
    codes "not decided: line " ++ decimal number ++ codes ": " ++ line ++ limit_line limit drops u

-- where the order is another one
abbrev pub order_text : Order → List ℕ
order_text AtPins = codes "at a client's pins"
order_text Between = codes "between sending and taking"
order_text AtHome = codes "at home's pins"
order_text AtClients = codes "at the clients' pins"

-- a run that was found is seen in another order there
abbrev pub other_order_text : Order → Bool → Undecided → List ℕ
other_order_text order drops u =
    codes "not decided: the run that was found has another order " ++ order_text order ++ undecided_text drops u

-- what a line breaks that may not be seen at its client's pins
abbrev pub rule_line : ℕ → Breach → List ℕ
rule_line number breach = codes "impossible: line " ++ decimal number ++ codes ": " ++ reason_text breach ++ codes "\n"

-- what the client holds of the block there, and waits for
abbrev pub view_line : ℕ → ℕ → View → List ℕ
view_line block client v =
    codes "\nblock " ++ decimal block ++ codes ", client " ++ decimal client ++ codes ": " ++ copy_text v.held ++ wait_text v.wait ++ codes "\n"

-- the rule, the line, and the client's state
abbrev pub impossible_text : ℕ → List ℕ → Wrong → List ℕ
impossible_text number line w = rule_line number w.breach ++ line ++ view_line w.block w.client w.view

-- the number of a line that no run comes to
abbrev pub stuck_line : ℕ → List ℕ
stuck_line number = codes "impossible: line " ++ decimal number ++ codes ": no lawful run comes so far\n"

-- the block of it
abbrev pub block_line : ℕ → List ℕ
block_line block = codes "\nblock " ++ decimal block ++ codes "\n"

-- whose line it is that a state does not reach, with what a client holds of the block in it, and waits for
abbrev pub side_text : Side → List ℕ
side_text (side.Client client held wait) =
    codes "client " ++ decimal client ++ codes ": " ++ copy_text held ++ wait_text wait
side_text side.Memory = codes "memory"

-- what keeps a state from a line, by the numbers of the lines
abbrev pub hindrance_text : List ℕ → Hindrance → List ℕ
hindrance_text numbers (Breaks breach) = reason_text breach
hindrance_text numbers (Behind place) =
    codes "line " ++ decimal (number_at numbers place) ++ codes " has to be seen first"
hindrance_text numbers InOrder = codes "another line has to be seen first"

-- a state that does not reach a line
abbrev pub stop_line : List ℕ → Stop → List ℕ
stop_line numbers stop = side_text stop.side ++ codes "; " ++ hindrance_text numbers stop.hindrance ++ codes "\n"

-- the line that no run comes to, its block, and what keeps each of the last states from it
abbrev pub ruled_out_text : List ℕ → ℕ → List ℕ → Stuck → List ℕ
ruled_out_text numbers number line stuck =
    stuck_line number ++ line ++ (block_line stuck.block ++ flat_map (stop_line numbers) stuck.stops.items)

-- what is written of a run that was found: how much it explains, with what stands behind it; or the run alone
abbrev pub explained_text : Form → List (List ℕ) → MessagesState → List Event → List ℕ
explained_text Summary lines m events = summary_line m events ++ tail_text lines m
explained_text Run lines m events = run_of m events

-- what is written of what was said
abbrev pub answer_text : Form → List (List ℕ) → MessagesState → Verdict → List ℕ
answer_text form lines m (Explained events) = explained_text form lines m events.items
answer_text form lines m (Impossible w) =
    impossible_text (number_at m.lines w.place) (text_at lines (number_at m.lines w.place)) w ++ left_text m
answer_text form lines m (RuledOut stuck) =
    ruled_out_text m.lines (number_at m.lines stuck.place) (text_at lines (number_at m.lines stuck.place)) stuck ++ left_text m
answer_text form lines m (NotDecided place limit sets) =
    not_decided_text (number_at m.lines place) (text_at lines (number_at m.lines place)) limit (has_drops m.setting.premises) sets
    ++ tail_text lines m
answer_text form lines m (OtherOrder order sets) = other_order_text order (has_drops m.setting.premises) sets ++ tail_text lines m
answer_text form lines m (Unmet unmet) = unmet_text lines m unmet ++ tail_text lines m

-- what is written of an ending that is an answer
abbrev pub ending_text : Form → List (List ℕ) → Ending → List ℕ
ending_text form lines (Answered messages verdict) = answer_text form lines messages verdict
ending_text form lines Usage = []
ending_text form lines (WrongLine line cause) = []
ending_text form lines Empty = []
ending_text form lines Memory = []
ending_text form lines File = []

-- What is told of an ending: it, or that there was no memory for its text, or that it could not be written.
abbrev pub Tells : Ending → Ending → Type 0
Tells ending Usage = Usage ≡ ending
Tells ending (Answered messages verdict) = Answered messages verdict ≡ ending
Tells ending (WrongLine line cause) = WrongLine line cause ≡ ending
Tells ending Empty = Empty ≡ ending
Tells ending Memory = Unit {0}
Tells ending File = Unit {0}

-- An answer stands in the output, and nothing in the faults.
pub record IsAnswer (written : List ℕ) (output output_new faults faults_new : Option (List ℕ)) : Type 0 where
  pub text : Appends output output_new written
  pub quiet : faults_new ≡ faults

-- A fault stands in the faults, as far as they take it, and nothing in the output, unless that could not be written.
pub record IsFault (ending : Ending) (output output_new faults faults_new : Option (List ℕ)) : Type 0 where
  pub line : AppendsBeginning faults faults_new (fault_line ending)
  pub nothing : status_of ending ≢ 5 → output_new ≡ output

-- which of the two stands for a status
pub record IsTold (status : ℕ) (form : Form) (lines : List (List ℕ)) (ending : Ending) (output output_new faults faults_new : Option (List ℕ)) : Type 0 where
  pub explained : status ≡ 0 → IsAnswer (ending_text form lines ending) output output_new faults faults_new
  pub impossible : status ≡ 1 → IsAnswer (ending_text form lines ending) output output_new faults faults_new
  pub not_decided : status ≡ 6 → IsAnswer (ending_text form lines ending) output output_new faults faults_new
  pub fault : status ≢ 0 → status ≢ 1 → status ≢ 6 → IsFault ending output output_new faults faults_new
