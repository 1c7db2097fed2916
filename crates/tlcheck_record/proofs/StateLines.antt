-- The lines of the clients, one after another.
use Rattle.std.proofs.Common.{◌≡◌, ℕ, suc, ◌+◌, List, ◌++◌, ap, ◌∙◌, append_assoc, arith}
use Rattle.tl_protocol.specs.Protocol.{Block}
use Rattle.tl_protocol.specs.declared.shape.Shape.{Shape}
use Rattle.tlcheck_record.specs.State.{client_lines, client_text}

-- a text with the lines of one more client
pub one_more : (shape : Shape) (s : Block) (n : ℕ) (start before after : List ℕ) → before ≡ start ++ client_lines shape s n
    → after ≡ before ++ client_text shape s n → after ≡ start ++ client_lines shape s (n + 1)
one_more shape s n start before after so_far wrote =
    let next : n + 1 ≡ suc n = omega arith in
    rw next (wrote ∙ ap (λ (t : List ℕ). t ++ client_text shape s n) so_far ∙ append_assoc start (client_lines shape s n) (client_text shape s n))
