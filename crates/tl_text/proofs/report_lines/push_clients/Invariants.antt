use Rattle.std.proofs.Common.{◌≡◌, ◌++◌, drop, string_bytes}
use Rattle.tl_text.specs.Report.{lines_from, client_lines}
use Rattle.tl_text.proofs.report_lines.push_clients.Given as goal

abbrev pub invariant-loop-client : goal.invariant-loop-client
invariant-loop-client l = string_bytes l.text ++ lines_from client_lines l.client (drop l.client l.clients) ≡ string_bytes l.fn.text ++ lines_from client_lines 0 l.clients
