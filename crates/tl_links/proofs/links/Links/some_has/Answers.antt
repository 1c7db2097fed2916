use Rattle.std.proofs.Common.{◌≡◌, ◌<◌, ◌≤◌, ◌+◌, ◌*◌, ◌%◌, ◌∙◌, ℕ, Bool, List, false, true, ap, arith, subst, sym}
use Rattle.std.specs.Prelude.{slice_index}
use Rattle.std.specs.List.{list_any}
use Rattle.tl_types.specs.Channel.{channel_index}
use Rattle.tl_types.specs.Lane.{bodies_of}
use Rattle.tl_types.specs.declared.channel.Channel.{Channel}
use Rattle.tl_links.specs.declared.wanted.Wanted.{Wanted}
use Rattle.tl_links.specs.Table.{LinkTable, IsCounted, IsCountedByEnding, lane_in, some_has, waiting_below}
use Rattle.tl_links.specs.Wanted.{is_wanted}
use Rattle.tl_links.proofs.Counts.{none-has, some-has, waiting-few}
use Rattle.tl_links.proofs.Endings.{none-wanted}
use Rattle.tl_links.proofs.links.Links.some_has.Goals as goal

-- all that wait are passed, and none of them is looked for
all-passed : (s t : LinkTable) (numbers : List ℕ) (k : Channel) (block : ℕ) (wanted : Wanted) (n passed : ℕ) → s ≡ t
    → IsCounted s numbers → n < s.clients → passed ≡ waiting_below t k n
    → passed ≡ slice_index numbers (channel_index k) → some_has t k block wanted n ≡ false
    → false ≡ some_has t k block wanted t.clients
all-passed s t numbers k block wanted n passed e counted below here all none =
    let sound : IsCounted t numbers = subst (λ (w : LinkTable). IsCounted w numbers) e counted in
    let few : n < t.clients = subst (λ (w : LinkTable). n < w.clients) e below in
    sym (none-has sound k block wanted n (omega arith) (sym here ∙ all) none)

-- at most 1,024 are passed
few-passed : (s t : LinkTable) (numbers : List ℕ) (k : Channel) (n : ℕ) → s ≡ t → IsCounted s numbers → n < s.clients
    → waiting_below t k n ≤ 1024
few-passed s t numbers k n e counted below =
    let sound : IsCounted t numbers = subst (λ (w : LinkTable). IsCounted w numbers) e counted in
    let few : n < t.clients = subst (λ (w : LinkTable). n < w.clients) e below in
    omega (arith, waiting-few sound k n, sound.few)

-- none that waits is of a block like this one
none-ending : (s t : LinkTable) (waiting numbers : List ℕ) (k : Channel) (block : ℕ) (wanted : Wanted) → s ≡ t
    → IsCounted s waiting → IsCountedByEnding s numbers → slice_index numbers (channel_index k * 16 + block % 16) ≡ 0
    → false ≡ some_has t k block wanted t.clients
none-ending s t waiting numbers k block wanted e counted ended zero =
    subst (λ (w : LinkTable). false ≡ some_has w k block wanted w.clients) e
    (sym (none-wanted counted ended k block wanted zero))

pub returns-then-self-place_by_ending-eq0 : goal.returns-then-self-place_by_ending-eq0
returns-then-self-place_by_ending-eq0 c =
    none-ending _ c.args.self.now c.self.inside.waiting c.self.inside.by_ending c.args.channel c.args.block c.args.wanted
    c.self.view_is c.self.invariant.0 c.self.invariant.1
    (ap (λ p. slice_index c.self.inside.by_ending p) (sym c.place_by_ending.ensures) ∙ c.if-self-place_by_ending-eq0.true)

pub returns-then-passed-all : goal.returns-then-passed-all
returns-then-passed-all c =
    all-passed _ c.args.self.now c.self.inside.waiting c.args.channel c.args.block c.args.wanted c.loop-number.number
    c.loop-number.passed c.self.view_is c.self.invariant.0 c.loop-number-test.true c.loop-number.invariant.1
    (c.if-passed-all.true ∙ ap (λ p. slice_index c.self.inside.waiting p) c.index.ensures.value)
    c.loop-number.invariant.0

pub overflow_add-passed : goal.overflow_add-passed
overflow_add-passed c =
    omega (
      arith,
      few-passed _ c.args.self.now c.self.inside.waiting c.args.channel c.loop-number.number c.self.view_is
          c.self.invariant.0 c.loop-number-test.true,
      c.loop-number.invariant.1,
      c.waiting-waiting.ensures.few,
    )

pub returns-then-has : goal.returns-then-has
returns-then-has c =
    let t : LinkTable = c.args.self.now in
    let k = c.args.channel in
    let test : ℕ → Bool = λ x. list_any (is_wanted c.args.wanted) (bodies_of c.args.block (lane_in t x k).messages) in
    let below : c.loop-number.number < t.clients =
    subst (λ (w : LinkTable). c.loop-number.number < w.clients) c.self.view_is c.loop-number-test.true in
    let passes : test c.loop-number.number ≡ true =
    subst (λ (x : ℕ). test x ≡ true) c.new-client.ensures (sym c.has.ensures ∙ c.if-has.true) in
    sym (some-has t k c.args.block c.args.wanted t.clients c.loop-number.number below passes)
