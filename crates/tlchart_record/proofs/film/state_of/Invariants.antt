use Rattle.std.proofs.Common.{◌≡◌, map, take, string_bytes}
use Rattle.tlchart_record.specs.Film.{blocks_shown}
use Rattle.tlchart_record.proofs.film.state_of.Given as goal

abbrev pub invariant-loop-block : goal.invariant-loop-block
invariant-loop-block l = map string_bytes l.state.items ≡ blocks_shown l.judge.plain (take l.block-index l.blocks)
