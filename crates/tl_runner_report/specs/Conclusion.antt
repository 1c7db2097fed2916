-- What a run concludes from its script, its banks and the shares that were given back (this project's own theorem).
use Rattle.std.specs.Prelude.{◌≡◌, ℕ, List, [], length, map, filter, slice_get, All, Some, Vec}
use Rattle.std.specs.List.{AllZip}
use Rattle.std.specs.declared.alloc.Global.{Global}
use Rattle.tl_map.specs.Places.{bank_of}
use Rattle.tl_protocol.specs.declared.event.Access.{Access}
use Rattle.tl_protocol.specs.declared.event.Event.{Event}
use Rattle.tl_protocol.specs.Coherent.{LoadsLast}
use Rattle.tl_protocol.specs.Ledger.{has_copy, is_recorded}
use Rattle.tl_script_words.specs.declared.command.Command.{Command}
use Rattle.tl_script_words.specs.declared.command.Command.TheVariants.{Drop}
use Rattle.tl_script.specs.Commands.{commands as commands_in}
use Rattle.tl_script.specs.declared.script.Script.{Script}
use Rattle.tl_text.specs.declared.report.Answered.{Answered}
use Rattle.tl_text.specs.declared.report.BankLine.{BankLine}
use Rattle.tl_text.specs.declared.report.Report.{Report}
use Rattle.tl_bank_spec.specs.Share.{ShareView}
use Rattle.tl_bank_spec.specs.View.{View, shape_of}
use Rattle.tl_bank_spec.specs.Views.{pairs_at}
use Rattle.tl_rules.specs.Certified.{all_accesses, IsCertified}
use Rattle.tl_rules.specs.Ordered.{AreInOrder}
use Rattle.tl_runner_report.specs.Banks.{AreBanksOf, HasRun, logs_in}
use Rattle.tl_runner_report.specs.Carried.{Answers, is_line, lines_of, is_by, commands_of, EachHasCommand, AreAsMany}
use Rattle.tl_tickets.specs.Shares.{AreShares}
use Rattle.tl_runner_report.specs.declared.error.RunError.{RunError}
use Rattle.tl_runner_report.specs.declared.error.RunError.TheVariants.{Stalled, Memory, NotOrdered, Shares}

-- there is one list for each bank, with the shares of that bank
abbrev pub AreAllShares : List View → List (Vec ShareView Global) → Type 0
AreAllShares banks shares = AllZip (λ v list. AreShares v list.items) banks shares

-- The banks are those of the script, their accesses have one order, each carries out the command at its index, and each client has
-- as many as loads and stores among its commands.
pub record AreMatched (script : Script) (banks : List View) : Type 0 where
  pub certified : IsCertified (logs_in banks)
  pub banks_of : AreBanksOf script banks
  pub each : EachHasCommand (commands_in script.commands.items) (logs_in banks)
  pub as_many : AreAsMany (commands_in script.commands.items) (logs_in banks)

-- The logs of the banks are runs, and their accesses, in the order of stamp and then of client, are one memory's over the script's
-- image. Among them each client's, in that order, are answered one by one by the load and store lines of that client, with their
-- bytes; so a client without lines has no accesses.
pub record IsOneMemory (script : Script) (banks : List View) (clients : List (Vec Answered Global)) : Type 0 where
  pub runs : All HasRun banks
  pub ordered : List Event
  pub in_order :
      AreInOrder (shape_of script.geometry) (bank_of script.geometry) (logs_in banks) ordered
  pub answered : (client : ℕ) → AllZip Answers (filter is_line (lines_of clients client)) (filter (is_by client) ordered)
  pub one_memory : LoadsLast script.image.items ordered

-- The lines of a client are its commands in order, each load and store with the bytes of its access, a drop with none.
pub record ShowsClient (commands : List Command) (client : ℕ) (logs : List (List Event)) (lines : List Answered) : Type 0 where
  pub same : map (λ (line : Answered). line.command) lines ≡ commands
  pub accesses :
      All (λ (a : Access). a.client ≡ client → slice_get (map (λ (line : Answered). line.bytes) lines) a.index ≡ Some a.bytes)
      (all_accesses logs)
  pub drops :
      (i address : ℕ) → slice_get commands i ≡ Some (Drop address)
      → slice_get (map (λ (line : Answered). line.bytes) lines) i ≡ Some []

-- there are so many clients, and each has its lines
pub record ShowsAll (commands : List (List Command)) (logs : List (List Event)) (all : List (Vec Answered Global)) (count : ℕ) : Type 0 where
  pub as_many : length all ≡ count
  pub each :
      (client : ℕ) (lines : Vec Answered Global) → slice_get all client ≡ Some lines
      → ShowsClient (commands_of commands client) client logs lines.items

-- the line of a bank
abbrev pub bank_line : View → BankLine
bank_line v = record { held = pairs_at has_copy v; recorded = pairs_at is_recorded v }

-- The report shows each client's lines and each bank's.
pub record IsReportOf (script : Script) (banks : List View) (report : Report) : Type 0 where
  pub clients :
      ShowsAll (commands_in script.commands.items) (logs_in banks) report.clients.items (length script.commands.items)
  pub lines : report.banks.items ≡ map bank_line banks

-- What an Ok says: all shares were given back; the banks match the script; the accesses of their logs, in order of stamp and then
-- client, hold each client's loads and stores in script order, each once, and are one memory's over the script's image; and the
-- report's lines show their bytes, its bank lines the copies held and recorded.
pub record IsConclusion (script : Script) (banks : List View) (shares : List (Vec ShareView Global)) (report : Report) : Type 0 where
  pub shares_back : AreAllShares banks shares
  pub matched : AreMatched script banks
  pub one_memory : IsOneMemory script banks report.clients.items
  pub shown : IsReportOf script banks report

-- a report of a run: the conclusion from some banks and the shares that were given back
abbrev pub IsRunReport : Script → Report → Type 0
IsRunReport script report =
    (banks : List View) × (shares : List (Vec ShareView Global)) × IsConclusion script banks shares report

-- Why there is none: shares are missing; or all are back and the banks do not match; or both are right and a request for memory
-- was refused. Nothing is said of a stall here.
abbrev pub IsRefusal : Script → List View → List (Vec ShareView Global) → RunError → Type 0
IsRefusal script banks shares Shares = AreAllShares banks shares → ⊥
IsRefusal script banks shares NotOrdered = AreAllShares banks shares × (AreMatched script banks → ⊥)
IsRefusal script banks shares Memory = AreAllShares banks shares × AreMatched script banks
IsRefusal script banks shares (Stalled turns) = ⊥
