use Rattle.std.proofs.Common.{◌≡◌, ◌∙◌, ◌++◌, ℕ, List, ap, string_bytes, subst, sym}
use Rattle.tl_script.specs.Script.{read_of}
use Rattle.tlgen.specs.Offered.{head_line}
use Rattle.tlgen.proofs.certify.played_back.Goals as goal

-- a first line of the same numbers
same_head :
    (steps other refused told : ℕ) (rest text : List ℕ) → steps ≡ other → refused ≡ told → text ≡ head_line other told ++ rest
    → text ≡ head_line steps refused ++ rest
same_head steps other refused told rest text s r h =
    subst (λ (n : ℕ). text ≡ head_line n refused ++ rest) (sym s) (subst (λ (n : ℕ). text ≡ head_line other n ++ rest) (sym r) h)

-- the script that was read back, and its trace
pub returns-then-is_as_told : goal.returns-then-is_as_told
returns-then-is_as_told c =
    let same = c.is_as_told.ensures c.if-is_as_told.true in
    record {
      script = c.in_ok-script.script;
      trace = c.in_ok-trace.trace;
      rest = string_bytes c.args.draft.now.text;
      reads = ap read_of (sym c.as_bytes.ensures.value) ∙ c.in_ok-script.ensures;
      plays = c.in_ok-trace.ensures;
      head = same_head _ _ _ _ _ _ same.0 same.1 c.in_ok-text.ensures;
    }
