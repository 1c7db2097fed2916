use Rattle.std.proofs.Common.{◌≡◌, ◌∙◌, ℕ, ◌-◌, List, arith, ap, drop, length, map, string_bytes, subst}
use Rattle.tlchart_draw.proofs.Strips.{last_of-map}
use Rattle.tlchart_draw.specs.Strip.{IsBrokenRow, last_of}
use Rattle.tlchart_draw.specs.declared.strip.TheConstants.{LINES_BEFORE}
use Rattle.tlwire_answer.specs.Lines.{number_at}
use Rattle.tlwire_chart.specs.Rows.{places_before, told_at}
use Rattle.tlwire_record.specs.Messages.{MessagesState}
use Rattle.tlwire_search.specs.Where.{block_of}
use Rattle.tlwire_chart.proofs.rows.strip_at.Goals as goal

-- the rows of the last lines, and that of the line that is impossible
pub returns : goal.returns
returns c =
    let m : MessagesState = c.args.messages.now in
    let places : List ℕ = c.in_ok-places.places.items in
    let found : places ≡ places_before m (block_of m.setting.shape.block_bytes c.args.seen.now) c.args.place = grind arith in
    let shown : c.split_at.result.1.now ≡ drop (length places - LINES_BEFORE) places = grind arith in
    record {
      seen = c.args.seen.now;
      there = c.requires;
      rows = record {
        before = c.in_ok-rows.rows.items;
        last = c.broken_row.result;
        order = c.in_ok-push.ensures.items;
        numbered =
            c.in_ok-rows.ensures.numbered
            ∙ (ap (map (number_at m.lines)) shown
            ∙ (last_of-map (number_at m.lines) LINES_BEFORE places
            ∙ ap (λ (ps : List ℕ). last_of LINES_BEFORE (map (number_at m.lines) ps)) found));
        unbroken = c.in_ok-rows.ensures.unbroken;
        broken =
            subst (λ (n : ℕ). IsBrokenRow n (string_bytes c.args.words) c.broken_row.result) c.in_ok-line.ensures c.broken_row.ensures;
      };
      told = c.in_ok-rows.ensures.told ∙ ap (map (told_at m)) (shown ∙ ap (last_of LINES_BEFORE) found);
    }
