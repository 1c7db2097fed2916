use Rattle.std.proofs.Common.{◌≡◌, ℕ, Bool, Option, List, [], ◌∷◌, ◌++◌, map, take, sym, ◌∙◌, ap}
use Rattle.std.proofs.lemmas.List.{append-nil, map-append, take_all}
use Rattle.tl_bank_spec.specs.View.{View}
use Rattle.tl_bank_spec.specs.Views.{dirty_at}
use Rattle.tl_text.specs.declared.closing.BlockLine.{BlockLine}
use Rattle.tl_text.specs.declared.closing.Standing.{Standing}
use Rattle.tl_trace.specs.Closing.{LineState, line_state, line_if}
use Rattle.tl_trace.proofs.ClosingLemmas.{lines_of, lines-more, lines-all}
use Rattle.tl_trace.proofs.closing.lines.Goals as goal
use Rattle.tl_trace.proofs.closing.lines.Goals.{in-Some+in_ok-push, in_default}

pub loop-block-preserved : goal.loop-block-preserved
loop-block-preserved c =
    let v : View = c.args.bank.now in
    let b : ℕ = c.block-item.result in
    let before : List LineState = lines_of v (take c.loop-block.block-index c.as_slice-block-items.result.now) in
    let more = lines-more v c.as_slice-block-items.result.now c.loop-block.block-index b c.loop-block-test.true c.block-item.is in
    let found : before ++ line_if v b c.home.result ≡ before ++ line_if v b (dirty_at v b) =
    ap (λ (o : Option Bool). before ++ line_if v b o) c.home.ensures in
    let so_far : map line_state c.loop-block.lines.items ≡ before = c.loop-block.invariant in
    elim c.match-home.branch [
      | in-Some+in_ok-push w ↦
          let made : List Standing → LineState = λ standings. record { block = b; dirty = w.in-Some.dirty; clients = standings } in
          let line : BlockLine = record { block = b; dirty = w.in-Some.dirty; clients = w.standings.result } in
          let one = ap (λ (o : Option Bool). before ++ line_if v b o) w.in-Some.is in
          let end : w.push.new.self.items ≡ c.loop-block.lines.items ++ line ∷ [] = w.in_ok-push.ensures.items in
          let pushed : c.match-home.lines.items ≡ c.loop-block.lines.items ++ line ∷ [] = cc in
          ap (map line_state) pushed
          ∙ map-append line_state c.loop-block.lines.items (line ∷ [])
          ∙ ap (λ (ls : List LineState). ls ++ line_state line ∷ []) so_far
          ∙ ap (λ (ss : List Standing). before ++ made ss ∷ []) w.standings.ensures
          ∙ sym one ∙ found ∙ sym more
      | in_default w ↦
          let none = ap (λ (o : Option Bool). before ++ line_if v b o) w.in_default.is in
          let same : map line_state c.match-home.lines.items ≡ map line_state c.loop-block.lines.items = cc in
          same ∙ so_far ∙ sym (append-nil before) ∙ sym none ∙ found ∙ sym more
    ]

pub returns : goal.returns
returns c =
    let v : View = c.args.bank.now in
    c.loop-block.invariant
    ∙ ap (lines_of v)
    (take_all c.loop-block.block-index c.as_slice-block-items.result.now c.loop-block-test.false
    ∙ c.as_slice-block-items.ensures.value ∙ c.blocks_at_home.ensures.is)
    ∙ lines-all v v.geometry.memory_blocks
