use Rattle.std.proofs.Common.{◌≡◌, Err, Ok, refl, [], ◌∷◌, ◌++◌, rules, sym, ◌∙◌}
use Rattle.tlcheck_rules.specs.declared.entry.Entry.{Entry}
use Rattle.tlcheck_record.specs.Entry.{entry_of}
use Rattle.tlcheck_reader.specs.Entries.{IsUnreadHere}
use Rattle.tlcheck_reader.specs.Reading.{going}
use Rattle.tlcheck_reader.proofs.Giving.{as_among, as_read, gives_first, says_entry, unread_on}
use Rattle.tlcheck_reader.proofs.Steps.{no_line_read, says_fault, says_line, says_read, words_fault}
use Rattle.tlcheck_reader.proofs.entries.Entries.next.Goals as goal

-- the first entry waited
pub returns-in-Some : goal.returns-in-Some
returns-in-Some g c = λ known head image entries h.
    gives_first known (g.R.Read.remaining c.args.reader.now) c.args.self.now c.self.inside.number c.self.inside.first c.take.new.self head image entries
    c.in-Some.entry c.self.view_is (sym c.take.ensures.value ∙ c.in-Some.is) c.take.ensures.after h

-- no line was read
pub returns-in_err-number : goal.returns-in_err-number
returns-in_err-number g c = λ known head image entries h.
    let read = as_read known (g.R.Read.remaining c.args.reader.now) c.args.self.now c.self.inside.number c.self.inside.first head image entries
    c.self.view_is (sym c.take.ensures.value ∙ c.in_default.is) h in
    let is : c.from_residual.result ≡ Err c.in_err-number.field-0.0 = search rules in
    rw is (no_line_read known (λ r. r ≡ going head image entries) c.in_err-number.field-0.0 (c.in_err-number.ensures {u = tt} known (going head image entries) read))

-- nothing is left
pub returns-in_default-2 : goal.returns-in_default-2
returns-in_default-2 g c = λ known head image entries h.
    let read = as_read known (g.R.Read.remaining c.args.reader.now) c.args.self.now c.self.inside.number c.self.inside.first head image entries
    c.self.view_is (sym c.take.ensures.value ∙ c.in_default.is) h in
    rw c.in_default-2.is at (c.in_ok-number.ensures {u = tt} known (going head image entries) read)

-- the line is no text
pub returns-in_err-words_of : goal.returns-in_err-words_of
returns-in_err-words_of g c = λ known head image entries h.
    let read = as_read known (g.R.Read.remaining c.args.reader.now) c.args.self.now c.self.inside.number c.self.inside.first head image entries
    c.self.view_is (sym c.take.ensures.value ∙ c.in_default.is) h in
    let at = rw c.in-Some-2.is at (c.in_ok-number.ensures {u = tt} known (going head image entries) read) in
    let is : c.from_residual-in_err-words_of.result ≡ Err c.in_err-words_of.field-0.0 = search rules in
    rw is (words_fault known (g.R.Read.remaining c.full_line.new.reader) c.in-Some-2.number (going head image entries) c.full_line.new.line.items (λ r. r ≡ going head image entries) refl c.in_err-words_of.field-0.0 at
    (rw c.deref.ensures.value at (c.in_err-words_of.ensures {u = tt})))

-- the line has no entry
pub returns-in_err-entry : goal.returns-in_err-entry
returns-in_err-entry g c = λ known head image entries h.
    let read = as_read known (g.R.Read.remaining c.args.reader.now) c.args.self.now c.self.inside.number c.self.inside.first head image entries
    c.self.view_is (sym c.take.ensures.value ∙ c.in_default.is) h in
    let at = rw c.in-Some-2.is at (c.in_ok-number.ensures {u = tt} known (going head image entries) read) in
    let text = rw c.deref.ensures.value at (c.in_ok-words_of.ensures {u = tt}) in
    let words = c.in_ok-words_of.field-0.now in
    let is : c.from_residual-in_err-entry.result ≡ Err c.in_err-entry.field-0.0 = search rules in
    let unread : IsUnreadHere c.in-Some-2.number (entry_of words) c.in_err-entry.field-0.0 = search rules in
    rw is (says_fault (g.R.Read.remaining c.full_line.new.reader) c.in-Some-2.number (going head image entries) c.full_line.new.line.items words text known
    (λ r. r ≡ going head image entries) refl c.in_err-entry.field-0.0 at
    (unread_on c.in-Some-2.number (entry_of words) (λ (x : Entry). Ok (going head image (entries ++ x ∷ []))) c.in_err-entry.field-0.0 unread))

-- it has one
pub returns : goal.returns
returns g c = λ known head image entries h.
    let read = as_read known (g.R.Read.remaining c.args.reader.now) c.args.self.now c.self.inside.number c.self.inside.first head image entries
    c.self.view_is (sym c.take.ensures.value ∙ c.in_default.is) h in
    let at = rw c.in-Some-2.is at (c.in_ok-number.ensures {u = tt} known (going head image entries) read) in
    let text = rw c.deref.ensures.value at (c.in_ok-words_of.ensures {u = tt}) in
    let now = g.R.Read.remaining c.full_line.new.reader in
    let line = c.full_line.new.line.items in
    let words = c.in_ok-words_of.field-0.now in
    let reads : entry_of words ≡ Ok c.in_ok-entry.entry = search rules in
    let says = says_entry head image entries words c.in_ok-entry.entry reads in
    let then_ = going head image (entries ++ c.in_ok-entry.entry ∷ []) in (
      as_among known now c.in-Some-2.number c.take.new.self head image (entries ++ c.in_ok-entry.entry ∷ []) c.take.ensures.after
          (says_read now c.in-Some-2.number (going head image entries) line words text known then_ at says),
      says_line now c.in-Some-2.number (going head image entries) line words text known then_ at says,
    )
