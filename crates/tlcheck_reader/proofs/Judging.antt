-- Entries that are judged as they are read.
use Rattle.std.proofs.Common.{◌≡◌, ◌+◌, ℕ, List, [], ◌∷◌, ◌++◌, length, Option, Some, None, IfSome, Ok, Err, refl, sym, ◌∙◌, ap, subst, arith, append_assoc, length-append}
use Rattle.std.proofs.lemmas.List.{append-nil}
use Rattle.tl_protocol.specs.Protocol.{block_of}
use Rattle.tl_protocol.specs.declared.event.Event.{Event}
use Rattle.tl_protocol.specs.declared.shape.Shape.{Shape}
use Rattle.tlcheck_rules.specs.Judged.{Breaks, Follows, IsLawful, IsLawfulAfter, IsPermitted, JudgeState, events_of}
use Rattle.tlcheck_rules.specs.declared.entry.Entry.{Entry}
use Rattle.tlcheck_rules.specs.declared.judge.Breach.{Breach}
use Rattle.tlcheck_rules.specs.declared.order.ChannelOrder.{ChannelOrder}
use Rattle.tlcheck_record.specs.declared.header.Head.{Head}
use Rattle.tlcheck_reader.specs.EntriesState.{EntriesState}
use Rattle.tlcheck_reader.specs.Entries.{IsAmong, IsReadFault}
use Rattle.tlcheck_reader.specs.Text.{IsEntryLine}
use Rattle.tlcheck_reader.specs.Lines.{lines_of}
use Rattle.tlcheck_reader.specs.Outcome.{IsChecked, IsOutcome, Stops, broken_at}
use Rattle.tlcheck_reader.specs.Reading.{Reading, fresh, going, reading_of}
use Rattle.tlcheck_reader.specs.declared.entries.ReadFault.{ReadFault}
use Rattle.tlcheck_reader.specs.declared.entries.ReadFault.TheVariants as read
use Rattle.tlcheck_reader.specs.declared.outcome.Outcome.TheVariants.{Lawful, Broken}
use Rattle.tlcheck_reader.proofs.Steps.{read_more}

-- the events of one more entry
pub events_more : (entries : List Entry) (entry : Entry) → events_of (entries ++ entry ∷ []) ≡ events_of entries ++ entry.event ∷ []
events_more [] entry = refl
events_more (x ∷ rest) entry = ap (λ (es : List Event). x.event ∷ es) (events_more rest entry)

-- one more entry is one more
pub length_more : (entries : List Entry) (entry : Entry) → length (entries ++ entry ∷ []) ≡ length entries + 1
length_more [] entry = refl
length_more (x ∷ rest) entry = omega (arith, length_more rest entry)

-- entries stay lawful with one more that is permitted
pub lawful_more : (order : ChannelOrder) (shape : Shape) (image : List ℕ) (log : List Event) (entries : List Entry) (entry : Entry)
    → IsLawfulAfter order shape image log entries → IsPermitted order shape image (log ++ events_of entries) entry
    → IsLawfulAfter order shape image log (entries ++ entry ∷ [])
lawful_more order shape image log [] entry h p = (subst (λ (es : List Event). IsPermitted order shape image es entry) (append-nil log) p, tt)
lawful_more order shape image log (x ∷ rest) entry h p = (
  h.0,
  lawful_more order shape image (log ++ x.event ∷ []) rest entry h.1
      (subst (λ (es : List Event). IsPermitted order shape image es entry) (sym (append_assoc log (x.event ∷ []) (events_of rest))) p),
)

-- The judge has taken the entries that were given out.
pub record Judged (known now : Option (List ℕ)) (at : EntriesState) (head : Head) (image : List ℕ) (judge : JudgeState) (count : ℕ) : Type 0 where
  pub entries : List Entry
  pub among : IsAmong known now at head image entries
  pub lawful : IsLawful head.order head.shape image entries
  pub counted : length entries ≡ count
  pub follows : Follows head.order head.shape image (events_of entries) judge

-- none was given out yet
abbrev pub init : (known now : Option (List ℕ)) (at : EntriesState) (head : Head) (image : List ℕ) (judge : JudgeState)
    → IsAmong known now at head image [] → Follows head.order head.shape image [] judge → Judged known now at head image judge 0
init known now at head image judge a f = record { entries = []; among = a; lawful = tt; counted = refl; follows = f }

module _ (known now : Option (List ℕ)) (at : EntriesState) (head : Head) (image : List ℕ) (judge : JudgeState) (count : ℕ) (h : Judged known now at head image judge count) where
  -- one more that is permitted
  abbrev pub goes_on : (then_now : Option (List ℕ)) (then_at : EntriesState) (entry : Entry) (then_judge : JudgeState)
      → IsAmong known then_now then_at head image (h.entries ++ entry ∷ [])
      → IsPermitted head.order head.shape image (events_of h.entries) entry
      → Follows head.order head.shape image (events_of h.entries ++ entry.event ∷ []) then_judge
      → Judged known then_now then_at head image then_judge (count + 1)
  goes_on then_now then_at entry then_judge among permitted follows = record {
    entries = h.entries ++ entry ∷ [];
    among = among;
    lawful = lawful_more head.order head.shape image [] h.entries entry h.lawful permitted;
    counted = omega (arith, h.counted, length_more h.entries entry);
    follows = subst (λ (es : List Event). Follows head.order head.shape image es then_judge) (sym (events_more h.entries entry)) follows;
  }

  -- at the end
  ended : (k : Option (List ℕ)) → IfSome k (λ text. reading_of fresh (lines_of text) ≡ Ok (going head image h.entries))
      → IfSome k (λ text. IsOutcome text (Lawful judge count))
  ended None e = tt
  ended (Some text) e =
      record { head = head; image = image; entries = h.entries; reads = e; lawful = h.lawful; counted = h.counted; end = h.follows }

  pub at_end : IfSome known (λ text. reading_of fresh (lines_of text) ≡ Ok (going head image h.entries))
      → IfSome known (λ text. IsOutcome text (Lawful judge count))
  at_end e = ended known e

  -- an entry that breaks something, where the judge stays as it was
  module _ (entry : Entry) (new : JudgeState) (breach : Breach) (kept : new ≡ judge)
      (breaks : Breaks head.order head.shape image (events_of h.entries) entry breach) where
    before : Follows head.order head.shape image (events_of h.entries) new
    before = subst (λ (j : JudgeState). Follows head.order head.shape image (events_of h.entries) j) (sym kept) h.follows

    stops : Stops head image h.entries entry (broken_at new entry (count + 1) breach)
    stops = record {
      breaks = breaks;
      counted = omega (arith, h.counted);
      block = ap (λ (sh : Shape). block_of sh entry.event) (sym before.same_shape);
      before = before;
    }

    stopped : (k : Option (List ℕ)) (number : ℕ) → IfSome k (λ text. IsEntryLine text number head image h.entries entry)
        → IfSome k (λ text. IsOutcome text (Broken number (broken_at new entry (count + 1) breach)))
    stopped None number l = tt
    stopped (Some text) number l = record {
      head = head;
      image = image;
      entries = h.entries;
      entry = entry;
      read = l.at.read ++ l.line ∷ [];
      rest = l.at.rest;
      lines = l.at.lines ∙ sym (append_assoc l.at.read (l.line ∷ []) l.at.rest);
      reads = read_more fresh l.at.read l.line l.reading l.at.reads ∙ l.reads;
      lawful = h.lawful;
      stops = stops;
      number = omega (arith, length-append l.at.read (l.line ∷ []), l.at.numbered);
    }

    pub stops_at : (number : ℕ) → IfSome known (λ text. IsEntryLine text number head image h.entries entry)
        → IfSome known (λ text. IsOutcome text (Broken number (broken_at new entry (count + 1) breach)))
    stops_at number l = stopped known number l

-- ## A record that is not read on

pub stopped_on : (known : Option (List ℕ)) (Read : Reading → Type 0) (fault : ReadFault) → IsReadFault known Read fault → IsChecked known (Err fault)
stopped_on None Read (read.Unreadable line cause) h = tt
stopped_on (Some text) Read (read.Unreadable line cause) h = h.0
stopped_on known Read read.Memory h = tt
stopped_on known Read read.File h = tt
