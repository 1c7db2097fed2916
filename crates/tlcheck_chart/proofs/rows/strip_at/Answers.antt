use Rattle.std.proofs.Common.{◌≡◌, ◌∙◌, ℕ, ◌+◌, ◌-◌, List, Bor, arith, ap, drop, length, map, subst, sym}
use Rattle.std.proofs.lemmas.List.{length-map}
use Rattle.tl_protocol.specs.declared.shape.Shape.{Shape}
use Rattle.tl_rules.specs.PlainState.{PlainState}
use Rattle.tl_script_words.specs.Words.{texts}
use Rattle.tlchart_draw.proofs.Strips.{last_of-map}
use Rattle.tlchart_draw.specs.Strip.{IsBrokenRow, last_of}
use Rattle.tlchart_draw.specs.declared.strip.TheConstants.{LINES_BEFORE}
use Rattle.tlcheck_chart.specs.Rows.{numbers_of}
use Rattle.tlcheck_chart.specs.declared.entries.Numbered.{Numbered}
use Rattle.tlcheck_record.specs.Reason.{breaks_text}
use Rattle.tlcheck_chart.proofs.rows.strip_at.Goals as goal

-- the rows of the last entries, and that of the entry that is not permitted
pub returns : goal.returns
returns c =
    let es : List Numbered = c.in_ok-entries.entries.items in
    let shape : c.shape-shape.result ≡ c.args.judge.plain.shape =
    c.shape-shape.ensures.value ∙ ap (λ (p : PlainState). p.shape) c.plain.ensures in
    let shown : c.split_at.result.1.now ≡ drop (length es - LINES_BEFORE) es = grind arith in
    record {
      before = c.in_ok-rows.rows.items;
      last = c.in_ok-last_row.field-0;
      order = c.in_ok-push.ensures.items;
      numbered =
          c.in_ok-rows.ensures.numbered
          ∙ (ap (map (λ (n : Numbered). n.number)) shown
          ∙ (last_of-map (λ (n : Numbered). n.number) LINES_BEFORE es
          ∙ (ap (last_of LINES_BEFORE) c.in_ok-entries.ensures
          ∙ ap (λ (s : Shape). last_of LINES_BEFORE (numbers_of s c.args.broken.now.block 1 (texts c.args.lines.now))) shape)));
      unbroken = c.in_ok-rows.ensures.unbroken;
      broken =
          subst (λ (n : ℕ). IsBrokenRow (n + 1) (breaks_text c.args.broken.now.breach) c.in_ok-last_row.field-0)
          (sym (length-map c.args.lines.now (λ (w : Bor (List ℕ)). w.now))) c.in_ok-last_row.ensures;
    }
