use Rattle.std.proofs.Common.{ℕ, List, rules, sym, ap, ◌∙◌}
use Rattle.std.specs.Io.BufRead.{strip_last}
use Rattle.tlcheck_record.specs.Words.{is_blank}
use Rattle.tlcheck_reader.proofs.Steps.{onto_full, over_blank}
use Rattle.tlcheck_reader.proofs.entries.full_line.Goals as goal

pub loop-before-init : goal.loop-before-init
loop-before-init g c = λ known reading h. h

-- a line that is not blank
pub returns-then-not-is_blank : goal.returns-then-not-is_blank
returns-then-not-is_blank g c = λ known reading h.
    let text = c.text_of.ensures ∙ ap (λ (x : List ℕ). strip_last 10 x) c.deref.ensures.value in
    onto_full (g.R.Read.remaining c.loop-before.reader) c.loop-before.before reading c.clear.new.self.items c.read_until.new.buf.items
    c.clear.ensures.items (c.in_ok-read_until.ensures {u = tt}).bytes
    (λ e. let t = c.if-is_empty.ensures {u = tt} in search rules)
    (g.R.Read.remaining c.read_until.new.self) (c.in_ok-read_until.ensures {u = tt}).rest known
    (ap (λ (x : List ℕ). is_blank x) (sym text) ∙ sym (c.if-not-is_blank.ensures {u = tt})) (c.loop-before.invariant known reading h)

-- a blank line
pub loop-before-preserved : goal.loop-before-preserved
loop-before-preserved g c = λ known reading h.
    let text = c.text_of.ensures ∙ ap (λ (x : List ℕ). strip_last 10 x) c.deref.ensures.value in
    over_blank (g.R.Read.remaining c.loop-before.reader) c.loop-before.before reading c.clear.new.self.items c.read_until.new.buf.items
    c.clear.ensures.items (c.in_ok-read_until.ensures {u = tt}).bytes
    (λ e. let t = c.if-is_empty.ensures {u = tt} in search rules)
    (g.R.Read.remaining c.read_until.new.self) (c.in_ok-read_until.ensures {u = tt}).rest known
    (ap (λ (x : List ℕ). is_blank x) (sym text) ∙ sym (c.if-not-is_blank.ensures {u = tt})) (c.loop-before.invariant known reading h)
