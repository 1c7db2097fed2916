use Rattle.std.proofs.Common.{◌≡◌, ◌≤◌, ◌-◌, ◌++◌, max, replicate, vec_capacity, vec_len}
use Rattle.tl_memory.proofs.memory.laid_down.Given as goal

abbrev pub invariant-laying : goal.invariant-laying
invariant-laying l = record {
  items : l.bytes.items ≡ l.initial.bytes.items ++ replicate (vec_len l.bytes - vec_len l.initial.bytes) 0;
  more : vec_len l.initial.bytes ≤ vec_len l.bytes;
  most : vec_len l.bytes ≤ max l.len (vec_len l.initial.bytes);
  room : vec_capacity l.bytes ≡ vec_capacity l.initial.bytes;
}

abbrev pub decreases-laying : goal.decreases-laying
decreases-laying l = l.len - vec_len l.bytes
