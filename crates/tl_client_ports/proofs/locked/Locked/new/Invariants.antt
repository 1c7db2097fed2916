use Rattle.std.proofs.Common.{◌≡◌, ◌++◌, map}
use Rattle.std.specs.Vec.Iter.{into_iter_items}
use Rattle.tl_client_ports.specs.Locks.{numbers_of}
use Rattle.tl_client_ports.specs.declared.locked.LockedBank.{LockedBank}
use Rattle.tl_client_ports.proofs.locked.Locked.new.Given as goal

-- the numbers so far, with those of the banks that are left, are all banks' numbers
abbrev pub invariant-loop-bank : goal.invariant-loop-bank
invariant-loop-bank l = map (λ (b : LockedBank). b.number) l.locks.items ++ numbers_of (into_iter_items l.bank-iterator) ≡ numbers_of l.fn.banks.items
