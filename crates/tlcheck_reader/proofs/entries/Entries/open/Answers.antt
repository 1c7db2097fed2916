use Rattle.std.proofs.Common.{◌≡◌, Err, rules}
use Rattle.tlcheck_reader.specs.Entries.{waiting}
use Rattle.tlcheck_reader.specs.Text.{IsShort}
use Rattle.tlcheck_reader.specs.Reading.{going, shaped}
use Rattle.tlcheck_reader.proofs.Giving.{opens}
use Rattle.tlcheck_reader.proofs.Steps.{says_fault, says_from, says_read, words_fault}
use Rattle.tlcheck_reader.proofs.entries.Entries.open.Goals as goal

-- the second line is no text
pub returns-in_err-words_of-clause-opens : goal.returns-in_err-words_of-clause-opens
returns-in_err-words_of-clause-opens g c =
    let known = g.R.Read.remaining c.args.reader.now in
    let shape = rw c.in-Some.is at (c.in_ok-lines.ensures {u = tt}).first in
    let at = rw c.in-Some-2.is at (c.in_ok-number.ensures {u = tt} known (shaped c.in-Some.head) shape) in
    let is : c.from_residual-in_err-words_of.result ≡ Err c.in_err-words_of.field-0.0 = search rules in
    rw is (words_fault known (g.R.Read.remaining c.full_line.new.reader) c.in-Some-2.number (shaped c.in-Some.head) c.full_line.new.line.items IsShort tt c.in_err-words_of.field-0.0 at
    (rw c.deref.ensures.value at (c.in_err-words_of.ensures {u = tt})))

-- it has neither image nor entry
pub returns-in_err-image-clause-opens : goal.returns-in_err-image-clause-opens
returns-in_err-image-clause-opens g c =
    let known = g.R.Read.remaining c.args.reader.now in
    let shape = rw c.in-Some.is at (c.in_ok-lines.ensures {u = tt}).first in
    let at = rw c.in-Some-2.is at (c.in_ok-number.ensures {u = tt} known (shaped c.in-Some.head) shape) in
    let text = rw c.deref.ensures.value at (c.in_ok-words_of.ensures {u = tt}) in
    let is : c.from_residual-in_err-image.result ≡ Err c.in_err-image.field-0.0 = search rules in
    rw is (says_fault (g.R.Read.remaining c.full_line.new.reader) c.in-Some-2.number (shaped c.in-Some.head) c.full_line.new.line.items c.in_ok-words_of.field-0.now text known
    IsShort tt c.in_err-image.field-0.0 at (c.in_err-image.ensures {u = tt}))

-- it has one
pub returns-clause-opens : goal.returns-clause-opens
returns-clause-opens g c =
    let known = g.R.Read.remaining c.args.reader.now in
    let shape = rw c.in-Some.is at (c.in_ok-lines.ensures {u = tt}).first in
    let at = rw c.in-Some-2.is at (c.in_ok-number.ensures {u = tt} known (shaped c.in-Some.head) shape) in
    let text = rw c.deref.ensures.value at (c.in_ok-words_of.ensures {u = tt}) in
    let now = g.R.Read.remaining c.full_line.new.reader in
    let line = c.full_line.new.line.items in
    let words = c.in_ok-words_of.field-0.now in
    let head = c.in-Some.head in
    let read = c.in_ok-image.ensures {u = tt} in
    let to = going head c.in_ok-image.image.items (waiting c.in_ok-image.first) in
    opens known now c.in-Some-2.number head c.in_ok-image.image.items c.in_ok-image.first
    (says_read now c.in-Some-2.number (shaped head) line words text known to at read)
    (says_from now c.in-Some-2.number (shaped head) line words text known to at read)
