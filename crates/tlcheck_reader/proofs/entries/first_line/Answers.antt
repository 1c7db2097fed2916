use Rattle.std.proofs.Common.{◌≡◌, Err, Ok, Result, rules, ap}
use Rattle.tlcheck_record.specs.Cause.{◌>>=◌}
use Rattle.tlcheck_record.specs.Header.{head_of}
use Rattle.tlcheck_record.specs.declared.cause.Cause.{Cause}
use Rattle.tlcheck_record.specs.declared.header.Head.{Head}
use Rattle.tlcheck_reader.specs.Entries.{IsUnreadHere}
use Rattle.tlcheck_reader.specs.Text.{IsShort}
use Rattle.tlcheck_reader.specs.Reading.{fresh, shaped}
use Rattle.tlcheck_reader.proofs.Giving.{unread_on}
use Rattle.tlcheck_reader.proofs.Shape.{has_client}
use Rattle.tlcheck_reader.proofs.Steps.{init, no_line_read, says_fault, says_read, words_fault}
use Rattle.tlcheck_reader.proofs.entries.first_line.Goals as goal

-- no line was read
pub returns-in_err-number-clause-first : goal.returns-in_err-number-clause-first
returns-in_err-number-clause-first g c =
    let known = g.R.Read.remaining c.args.reader.now in
    let is : c.from_residual.result ≡ Err c.in_err-number.field-0.0 = search rules in
    rw is (no_line_read known IsShort c.in_err-number.field-0.0 (c.in_err-number.ensures {u = tt} known fresh (init known)))

-- each line is blank
pub returns-in_default-clause-first : goal.returns-in_default-clause-first
returns-in_default-clause-first g c =
    let known = g.R.Read.remaining c.args.reader.now in
    rw c.in_default.is at (c.in_ok-number.ensures {u = tt} known fresh (init known))

-- the line is no text
pub returns-in_err-words_of-clause-first : goal.returns-in_err-words_of-clause-first
returns-in_err-words_of-clause-first g c =
    let known = g.R.Read.remaining c.args.reader.now in
    let at = rw c.in-Some.is at (c.in_ok-number.ensures {u = tt} known fresh (init known)) in
    let is : c.from_residual-in_err-words_of.result ≡ Err c.in_err-words_of.field-0.0 = search rules in
    rw is (words_fault known (g.R.Read.remaining c.full_line.new.reader) c.in-Some.number fresh c.full_line.new.line.items IsShort tt c.in_err-words_of.field-0.0 at
    (rw c.deref.ensures.value at (c.in_err-words_of.ensures {u = tt})))

-- it has the geometry
pub returns-clause-first : goal.returns-clause-first
returns-clause-first g c =
    let known = g.R.Read.remaining c.args.reader.now in
    let at = rw c.in-Some.is at (c.in_ok-number.ensures {u = tt} known fresh (init known)) in
    let text = rw c.deref.ensures.value at (c.in_ok-words_of.ensures {u = tt}) in
    let words = c.in_ok-words_of.field-0.now in
    let reads : head_of words ≡ Ok c.in_ok-head.head = search rules in
    says_read (g.R.Read.remaining c.full_line.new.reader) c.in-Some.number fresh c.full_line.new.line.items words text known
    (shaped c.in_ok-head.head) at (ap (λ (o : Result Head Cause). o >>= (λ head. Ok (shaped head))) reads)

pub returns-clause-fit : goal.returns-clause-fit
returns-clause-fit g c =
    let words = c.in_ok-words_of.field-0.now in
    let reads : head_of words ≡ Ok c.in_ok-head.head = search rules in
    record { clients = has_client words c.in_ok-head.head reads; some = search rules; bytes = search rules; blocks = search rules }

-- it says no geometry
pub returns-in_err-head-clause-first : goal.returns-in_err-head-clause-first
returns-in_err-head-clause-first g c =
    let known = g.R.Read.remaining c.args.reader.now in
    let at = rw c.in-Some.is at (c.in_ok-number.ensures {u = tt} known fresh (init known)) in
    let text = rw c.deref.ensures.value at (c.in_ok-words_of.ensures {u = tt}) in
    let words = c.in_ok-words_of.field-0.now in
    let is : c.from_residual-in_err-head.result ≡ Err c.in_err-head.field-0.0 = search rules in
    let unread : IsUnreadHere c.in-Some.number (head_of words) c.in_err-head.field-0.0 = search rules in
    rw is (says_fault (g.R.Read.remaining c.full_line.new.reader) c.in-Some.number fresh c.full_line.new.line.items words text known IsShort tt
    c.in_err-head.field-0.0 at (unread_on c.in-Some.number (head_of words) (λ head. Ok (shaped head)) c.in_err-head.field-0.0 unread))
