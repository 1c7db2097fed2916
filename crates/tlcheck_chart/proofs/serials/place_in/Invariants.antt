use Rattle.std.proofs.Common.{◌≡◌, ◌++◌, take, drop}
use Rattle.tlcheck_chart.specs.Serials.{first_of, without}
use Rattle.tlcheck_chart.proofs.serials.place_in.Given as goal

-- no message so far is of the block
abbrev pub invariant-loop-place : goal.invariant-loop-place
invariant-loop-place l = record {
  number : first_of l.block (drop l.place l.waiting) ≡ first_of l.block l.waiting;
  left : take l.place l.waiting ++ without l.block (drop l.place l.waiting) ≡ without l.block l.waiting;
}
