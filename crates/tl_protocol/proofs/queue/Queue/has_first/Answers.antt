use Rattle.std.proofs.Common.{◌≡◌, ◌↔◌, [], ◌∷◌, IsTrue, List, Bool, true, false, length, ◌==◌, refl, not, rules}
use Rattle.tl_protocol.specs.Queue.{HasFirst}
use Rattle.tl_protocol.proofs.queue.Queue.has_first.Goals as goal

-- a queue has a first message just where it is not empty
tested : {X : Type 0} (xs : List X) (b : Bool) → b ≡ (length xs == 0) → IsTrue (not b) ↔ HasFirst xs
tested {X} [] b e = (λ h. let q : false ≡ true = rw e at h in cc, λ f. let p = f.2 in cc)
tested (x ∷ xs) b e = (λ _. (x, xs, refl), λ _. rw e (search rules))

pub returns : goal.returns
returns g c = tested c.args.self.now c.is_empty.result (rw c.as_slice.ensures at c.is_empty.ensures)
