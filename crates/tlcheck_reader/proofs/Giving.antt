-- What a record says before its entries, and the next of them.
use Rattle.std.proofs.Common.{◌≡◌, ℕ, List, [], ◌∷◌, ◌++◌, Option, Some, None, IfSome, Result, Ok, refl, sym, ◌∙◌, ap, subst}
use Rattle.std.proofs.lemmas.List.{append-nil}
use Rattle.tlcheck_record.specs.Cause.{◌>>=◌}
use Rattle.tlcheck_record.specs.Entry.{entry_of}
use Rattle.tlcheck_record.specs.declared.cause.Cause.{Cause}
use Rattle.tlcheck_record.specs.declared.header.Head.{Head}
use Rattle.tlcheck_rules.specs.declared.entry.Entry.{Entry}
use Rattle.tlcheck_reader.specs.EntriesState.{EntriesState}
use Rattle.tlcheck_reader.specs.Entries.{HasRead, IsAmong, IsFirstEntry, IsLineFrom, IsRead, IsUnreadHere, waiting}
use Rattle.tlcheck_reader.specs.Text.{IsEntryLine}
use Rattle.tlcheck_reader.specs.Reading.{Reading, shaped, going, next}
use Rattle.tlcheck_reader.specs.declared.entries.ReadFault.{ReadFault}
use Rattle.tlcheck_reader.specs.declared.entries.ReadFault.TheVariants.{Unreadable, Memory, File}

-- ## What a line says

-- what cannot be read here cannot be read on
pub unread_on : {A : Type 0} (number : ℕ) (value : Result A Cause) (f : A → Result Reading Cause) (fault : ReadFault) → IsUnreadHere number value fault
    → IsUnreadHere number (value >>= f) fault
unread_on number value f (Unreadable line cause) h = (h.0, ap (λ v. v >>= f) h.1)
unread_on number value f Memory h = tt
unread_on number value f File h = absurd h

-- one more entry
pub says_entry : (head : Head) (image : List ℕ) (entries : List Entry) (words : List ℕ) (entry : Entry) → entry_of words ≡ Ok entry
    → next (going head image entries) words ≡ Ok (going head image (entries ++ entry ∷ []))
says_entry head image entries words entry e = ap (λ (o : Result Entry Cause). o >>= (λ (x : Entry). Ok (going head image (entries ++ x ∷ [])))) e

-- ## The entries that were given out

abbrev HasReadSo : List ℕ → List ℕ → ℕ → Head → List ℕ → List Entry → Type 0
HasReadSo text left number head image entries = HasRead text left number (going head image entries)

-- none yet, and the first may wait
opens_with : (text : List ℕ) (number : ℕ) (head : Head) (image : List ℕ) (first : Option Entry)
    → IsLineFrom text number (shaped head) (going head image (waiting first)) → IfSome first (λ entry. IsFirstEntry text number head image [] entry)
opens_with text number head image None l = tt
opens_with text number head image (Some entry) l = (refl, l)

pub opens : (known now : Option (List ℕ)) (number : ℕ) (head : Head) (image : List ℕ) (first : Option Entry)
    → IsRead known now number (going head image (waiting first))
    → IfSome known (λ text. IsLineFrom text number (shaped head) (going head image (waiting first)))
    → IsAmong known now (record { number = number; first = first }) head image []
opens None now number head image first r l = tt
opens (Some text) now number head image first r l =
    record { left = r.0; now_ = r.1; read = r.2; waits = opens_with text number head image first l }

-- one that waited
gives_of : (known now : Option (List ℕ)) (number : ℕ) (head : Head) (image : List ℕ) (entries : List Entry) (entry : Entry)
    → IsAmong known now (record { number = number; first = Some entry }) head image entries
    → (IsAmong known now (record { number = number; first = None }) head image (entries ++ entry ∷ [])
    × IfSome known (λ text. IsEntryLine text number head image entries entry))
gives_of None now number head image entries entry a = (tt, tt)
gives_of (Some text) now number head image entries entry a = (
  record {
    left = a.left;
    now_ = a.now_;
    read = subst (λ (es : List Entry). HasReadSo text a.left number head image es) (sym (append-nil (entries ++ entry ∷ []))) a.read;
    waits = tt;
  },
  record {
    reading = shaped head;
    line = a.waits.1.line;
    at = a.waits.1.at;
    full = a.waits.1.full;
    reads = a.waits.1.reads ∙ ap (λ (es : List Entry). let read : Result Reading Cause = Ok (going head image (es ++ entry ∷ [])) in read) (sym a.waits.0);
  },
)

pub gives_first : (known now : Option (List ℕ)) (at : EntriesState) (number : ℕ) (first then_ : Option Entry) (head : Head) (image : List ℕ) (entries : List Entry) (entry : Entry)
    → record { number = number; first = first } ≡ at → first ≡ Some entry → then_ ≡ None → IsAmong known now at head image entries
    → (IsAmong known now (record { number = number; first = then_ }) head image (entries ++ entry ∷ [])
    × IfSome known (λ text. IsEntryLine text number head image entries entry))
gives_first known now at number first then_ head image entries entry is some none a =
    let same : at ≡ record { number = number; first = Some entry } = cc in
    let gives = gives_of known now number head image entries entry (subst (λ (s : EntriesState). IsAmong known now s head image entries) same a) in (
      subst (λ (f : Option Entry). IsAmong known now (record { number = number; first = f }) head image (entries ++ entry ∷ [])) (sym none) gives.0,
      gives.1,
    )

-- none waits
read_of : (known now : Option (List ℕ)) (number : ℕ) (head : Head) (image : List ℕ) (entries : List Entry)
    → IsAmong known now (record { number = number; first = None }) head image entries → IsRead known now number (going head image entries)
read_of None now number head image entries a = tt
read_of (Some text) now number head image entries a =
    (a.left, a.now_, subst (λ (es : List Entry). HasReadSo text a.left number head image es) (append-nil entries) a.read)

pub as_read : (known now : Option (List ℕ)) (at : EntriesState) (number : ℕ) (first : Option Entry) (head : Head) (image : List ℕ) (entries : List Entry)
    → record { number = number; first = first } ≡ at → first ≡ None → IsAmong known now at head image entries → IsRead known now number (going head image entries)
as_read known now at number first head image entries is none a =
    let same : at ≡ record { number = number; first = None } = cc in
    read_of known now number head image entries (subst (λ (s : EntriesState). IsAmong known now s head image entries) same a)

among_of : (known now : Option (List ℕ)) (number : ℕ) (head : Head) (image : List ℕ) (entries : List Entry)
    → IsRead known now number (going head image entries) → IsAmong known now (record { number = number; first = None }) head image entries
among_of None now number head image entries r = tt
among_of (Some text) now number head image entries r = record {
  left = r.0;
  now_ = r.1;
  read = subst (λ (es : List Entry). HasReadSo text r.0 number head image es) (sym (append-nil entries)) r.2;
  waits = tt;
}

pub as_among : (known now : Option (List ℕ)) (number : ℕ) (first : Option Entry) (head : Head) (image : List ℕ) (entries : List Entry) → first ≡ None
    → IsRead known now number (going head image entries) → IsAmong known now (record { number = number; first = first }) head image entries
as_among known now number first head image entries none r =
    subst (λ (f : Option Entry). IsAmong known now (record { number = number; first = f }) head image entries) (sym none)
    (among_of known now number head image entries r)
