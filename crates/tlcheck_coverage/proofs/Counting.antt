-- What is counted with each entry that is given out.
use Rattle.std.proofs.Common.{◌≡◌, inl, inr, ◌≤◌, ◌+◌, ℕ, List, [], ◌∷◌, ◌++◌, length, min, Option, Some, None, IfSome, Ok, refl, sym, ◌∙◌, ap, subst, arith, append_assoc, length-append}
use Rattle.std.specs.Io.BufRead.{strip_last}
use Rattle.std.specs.Prelude.{slice_get}
use Rattle.tlcheck_rules.specs.Judged.{Breaks, Follows, IsPermitted, JudgeState, events_of}
use Rattle.tlcheck_rules.specs.declared.entry.Entry.{Entry}
use Rattle.tlcheck_rules.specs.declared.judge.Breach.{Breach}
use Rattle.tlcheck_record.specs.declared.header.Head.{Head}
use Rattle.tlcheck_reader.specs.EntriesState.{EntriesState}
use Rattle.tlcheck_reader.specs.Entries.{IsAmong, IsReadFault}
use Rattle.tlcheck_reader.specs.Text.{IsEntryLine, IsShort}
use Rattle.tlcheck_reader.specs.Lines.{lines_of}
use Rattle.tlcheck_reader.specs.Outcome.{IsOutcome, broken_at}
use Rattle.tlcheck_reader.specs.Reading.{Reading, fresh, going, after_line, entries_in, reading_of}
use Rattle.tlcheck_reader.specs.declared.entries.ReadFault.{ReadFault}
use Rattle.tlcheck_reader.specs.declared.entries.ReadFault.TheVariants as read
use Rattle.tlcheck_reader.specs.declared.outcome.Outcome.TheVariants.{Broken, Empty}
use Rattle.tlcheck_reader.proofs.Growing.{Beginnings, beginnings, count_in, entries_before, leaves, longer, never_fewer, reads_line, reads_rest, shorter}
use Rattle.tlcheck_reader.proofs.Steps.{read_more}
use Rattle.tlcheck_reader.proofs.Judging.{Judged, goes_on as judged_on, init as judged_init, stops_at}
use Rattle.tlcheck_situations.specs.Reach.{situation_after}
use Rattle.tlcheck_home.specs.Tally.{IsNoted, TallyState}
use Rattle.tlcheck_coverage.specs.Covered.{CountsLine, CountsLines, IsCovered, mark_after}
use Rattle.tlcheck_coverage.specs.Faults.{IsFaultOf, fault_of}
use Rattle.tlcheck_coverage.specs.Tallies.{IsChangedAt, Opens, SeesAt, TalliesState}
use Rattle.tlcheck_coverage.specs.declared.reading.Fault.TheVariants as fault
use Rattle.tlcheck_coverage.specs.declared.tallies.TheConstants.{MOST}
use Rattle.tlcheck_coverage.proofs.Opening.{is_there, stays_at, tally_of, then_at}

-- ## Lines

-- lines that have no entry count nothing
counts_none : (file n : ℕ) (lines : List (List ℕ)) (reading last : Reading) → reading_of reading lines ≡ Ok last → count_in last ≤ count_in reading
    → (tally : TallyState) → CountsLines file n reading lines tally tally
counts_none file n [] reading last e h tally = refl
counts_none file n (line ∷ rest) reading last e h tally =
    let on = reads_line reading line rest last e in
    let up = never_fewer rest on.0 last on.2 in
    let same : entries_in on.0 ≡ entries_in reading = leaves reading (strip_last 10 line) on.0 on.1 (omega (arith, h, up)) in
    let few : count_in last ≤ count_in on.0 = omega (arith, h, ap (λ (es : List Entry). length es) same) in
    (on.0, tally, on.1, inl (same, refl), counts_none file (n + 1) rest on.0 last on.2 few tally)

-- what two parts of the lines count
counts_both : (file n k : ℕ) (xs ys : List (List ℕ)) (reading then_ : Reading) (old mid new : TallyState) → n + length xs ≡ k
    → reading_of reading xs ≡ Ok then_ → CountsLines file n reading xs old mid → CountsLines file k then_ ys mid new
    → CountsLines file n reading (xs ++ ys) old new
counts_both file n k [] ys reading then_ old mid new at e a b =
    let here : k ≡ n = omega (arith, at) in
    let is : then_ ≡ reading = cc in
    subst (λ (r : Reading). CountsLines file n r ys old new) is
    (subst (λ (t : TallyState). CountsLines file n then_ ys t new) a (subst (λ (i : ℕ). CountsLines file i then_ ys mid new) here b))
counts_both file n k (line ∷ xs) ys reading then_ old mid new at e a b =
    let on = reads_line reading line xs then_ e in
    let is : on.0 ≡ a.0 = cc in
    let rest : reading_of a.0 xs ≡ Ok then_ = subst (λ (r : Reading). reading_of r xs ≡ Ok then_) is on.2 in
    (a.0, a.1, a.2, a.3, counts_both file (n + 1) k xs ys a.0 then_ a.1 mid new (omega (arith, at)) rest a.4 b)

-- ## Entries

-- Some first lines have these entries, and are counted.
pub record Tallied (file : ℕ) (text : List ℕ) (entries : List Entry) (old new : TallyState) : Type 0 where
  pub read : List (List ℕ)
  pub rest : List (List ℕ)
  pub reading : Reading
  pub lines : lines_of text ≡ read ++ rest
  pub reads : reading_of fresh read ≡ Ok reading
  pub has : entries_in reading ≡ entries
  pub counts : CountsLines file 0 fresh read old new

-- none yet
none_tallied : (file : ℕ) (text : List ℕ) (tally : TallyState) → Tallied file text [] tally tally
none_tallied file text tally =
    record { read = []; rest = lines_of text; reading = fresh; lines = refl; reads = refl; has = refl; counts = refl }

module _ (file : ℕ) (text : List ℕ) (head : Head) (image : List ℕ) (entries : List Entry) (entry : Entry) (number : ℕ) (old mid new : TallyState)
    (t : Tallied file text entries old mid) (l : IsEntryLine text number head image entries entry)
    (noted : IsNoted (situation_after head.shape image (events_of entries) entry.event) (record { file = file; line = number }) mid new) where
  before : entries_in l.reading ≡ entries
  before = entries_before l.reading (strip_last 10 l.line) head image entries entry l.full l.reads

  -- the entry's line counts it
  here : CountsLine (mark_after file (length l.at.read)) l.reading (going head image (entries ++ entry ∷ [])) mid new
  here = inr (record {
    head = head;
    image = image;
    entry = entry;
    reads = ap (λ (es : List Entry). going head image (es ++ entry ∷ [])) (sym before);
    noted =
        subst (λ (es : List Entry). IsNoted (situation_after head.shape image (events_of es) entry.event) (mark_after file (length l.at.read)) mid new) (sym before)
        (subst (λ (k : ℕ). IsNoted (situation_after head.shape image (events_of entries) entry.event) (record { file = file; line = k }) mid new) (sym l.at.numbered) noted);
  })

  -- the lines between count nothing
  over : (middle : List (List ℕ)) → l.at.read ≡ t.read ++ middle → CountsLines file 0 fresh l.at.read old mid
  over middle e =
      let reads : reading_of fresh (t.read ++ middle) ≡ Ok l.reading = ap (λ (ls : List (List ℕ)). reading_of fresh ls) (sym e) ∙ l.at.reads in
      let on : reading_of t.reading middle ≡ Ok l.reading = reads_rest t.read middle fresh t.reading l.reading t.reads reads in
      let few : count_in l.reading ≤ count_in t.reading =
      omega (arith, ap (λ (es : List Entry). length es) before, ap (λ (es : List Entry). length es) t.has) in
      subst (λ (ls : List (List ℕ)). CountsLines file 0 fresh ls old mid) (sym e)
      (counts_both file 0 (length t.read) t.read middle fresh t.reading old mid mid (omega arith) t.reads t.counts
      (counts_none file (length t.read) middle t.reading l.reading on few mid))

  -- and these have no more entries
  never : (line : List ℕ) (middle : List (List ℕ)) → t.read ≡ l.at.read ++ line ∷ middle → l.line ∷ l.at.rest ≡ line ∷ (middle ++ t.rest) → ⊥
  never line middle e rest =
      let first : line ≡ l.line = cc in
      let reads : reading_of fresh (l.at.read ++ line ∷ middle) ≡ Ok t.reading = ap (λ (ls : List (List ℕ)). reading_of fresh ls) (sym e) ∙ t.reads in
      let behind : reading_of l.reading (line ∷ middle) ≡ Ok t.reading = reads_rest l.at.read (line ∷ middle) fresh l.reading t.reading l.at.reads reads in
      let on = reads_line l.reading line middle t.reading behind in
      let is : after_line l.reading line ≡ Ok (going head image (entries ++ entry ∷ [])) = ap (λ (x : List ℕ). after_line l.reading x) first ∙ l.reads in
      let same : on.0 ≡ going head image (entries ++ entry ∷ []) = cc in
      omega (
        arith,
        never_fewer middle on.0 t.reading on.2,
        ap (λ (r : Reading). length (entries_in r)) same,
        length-append entries (entry ∷ []),
        ap (λ (es : List Entry). length es) t.has,
      )

  counted : Beginnings t.read t.rest l.at.read (l.line ∷ l.at.rest) → CountsLines file 0 fresh l.at.read old mid
  counted (longer middle e) = over middle e
  counted (shorter line middle e rest) = absurd (never line middle e rest)

  pub tallies_more : Tallied file text (entries ++ entry ∷ []) old new
  tallies_more = record {
    read = l.at.read ++ l.line ∷ [];
    rest = l.at.rest;
    reading = going head image (entries ++ entry ∷ []);
    lines = l.at.lines ∙ sym (append_assoc l.at.read (l.line ∷ []) l.at.rest);
    reads = read_more fresh l.at.read l.line l.reading l.at.reads ∙ l.reads;
    has = refl;
    counts =
        counts_both file 0 (length l.at.read) l.at.read (l.line ∷ []) fresh l.reading old mid new (omega arith) l.at.reads
        (counted (beginnings t.read t.rest l.at.read (l.line ∷ l.at.rest) (sym t.lines ∙ l.at.lines)))
        (going head image (entries ++ entry ∷ []), new, l.reads, here, refl);
  }

-- at the end
all_tallied : (file : ℕ) (text : List ℕ) (head : Head) (image : List ℕ) (entries : List Entry) (old new : TallyState) → Tallied file text entries old new
    → reading_of fresh (lines_of text) ≡ Ok (going head image entries) → CountsLines file 0 fresh (lines_of text) old new
all_tallied file text head image entries old new t e =
    let reads : reading_of fresh (t.read ++ t.rest) ≡ Ok (going head image entries) = ap (λ (ls : List (List ℕ)). reading_of fresh ls) (sym t.lines) ∙ e in
    let on : reading_of t.reading t.rest ≡ Ok (going head image entries) = reads_rest t.read t.rest fresh t.reading (going head image entries) t.reads reads in
    subst (λ (ls : List (List ℕ)). CountsLines file 0 fresh ls old new) (sym t.lines)
    (counts_both file 0 (length t.read) t.read t.rest fresh t.reading old new new (omega arith) t.reads t.counts
    (counts_none file (length t.read) t.rest t.reading (going head image entries) on (omega (arith, ap (λ (es : List Entry). length es) t.has)) new))

-- ## The reading

-- The entries that were given out are judged, and counted over the tally at a place.
pub record Amid (file place : ℕ) (known now : Option (List ℕ)) (at : EntriesState) (head : Head) (image : List ℕ) (judge : JudgeState) (count : ℕ)
    (initial tallies : TalliesState) : Type 0 where
  pub judged : Judged known now at head image judge count
  pub opened : TalliesState
  pub opens : Opens (min head.shape.clients MOST) place initial opened
  pub before : TallyState
  pub there : slice_get opened.tallies place ≡ Some before
  pub after : TallyState
  pub changes : IsChangedAt place after opened tallies
  pub tallied : IfSome known (λ text. Tallied file text judged.entries before after)

none_yet : (file : ℕ) (known : Option (List ℕ)) (tally : TallyState) → IfSome known (λ text. Tallied file text [] tally tally)
none_yet file None tally = tt
none_yet file (Some text) tally = none_tallied file text tally

pub begins : (file place : ℕ) (known now : Option (List ℕ)) (at : EntriesState) (head : Head) (image : List ℕ) (judge : JudgeState) (initial opened : TalliesState)
    → IsAmong known now at head image [] → Follows head.order head.shape image [] judge → Opens (min head.shape.clients MOST) place initial opened
    → Amid file place known now at head image judge 0 initial opened
begins file place known now at head image judge initial opened among follows opens =
    let tally = tally_of (min head.shape.clients MOST) place opened.tallies opens.there in
    record {
      judged = judged_init known now at head image judge among follows;
      opened = opened;
      opens = opens;
      before = tally.0;
      there = tally.1;
      after = tally.0;
      changes = stays_at place tally.0 opened tally.1;
      tallied = none_yet file known tally.0;
    }

more_tallied : (file : ℕ) (known : Option (List ℕ)) (head : Head) (image : List ℕ) (entries : List Entry) (entry : Entry) (number : ℕ) (old mid new : TallyState)
    → IfSome known (λ text. Tallied file text entries old mid) → IfSome known (λ text. IsEntryLine text number head image entries entry)
    → IsNoted (situation_after head.shape image (events_of entries) entry.event) (record { file = file; line = number }) mid new
    → IfSome known (λ text. Tallied file text (entries ++ entry ∷ []) old new)
more_tallied file None head image entries entry number old mid new t l noted = tt
more_tallied file (Some text) head image entries entry number old mid new t l noted =
    tallies_more file text head image entries entry number old mid new t l noted

module _ (file place : ℕ) (known now : Option (List ℕ)) (at : EntriesState) (head : Head) (image : List ℕ) (judge : JudgeState) (count : ℕ)
    (initial tallies : TalliesState) (h : Amid file place known now at head image judge count initial tallies) where
  pub goes_on : (then_now : Option (List ℕ)) (next_at : EntriesState) (entry : Entry) (then_judge : JudgeState) (new : TalliesState)
      → IsAmong known then_now next_at head image (h.judged.entries ++ entry ∷ [])
      → IfSome known (λ text. IsEntryLine text next_at.number head image h.judged.entries entry)
      → IsPermitted head.order head.shape image (events_of h.judged.entries) entry
      → Follows head.order head.shape image (events_of h.judged.entries ++ entry.event ∷ []) then_judge
      → SeesAt place head.order head.shape image (events_of h.judged.entries) entry (record { file = file; line = next_at.number }) then_judge tallies new
      → Amid file place known then_now next_at head image then_judge (count + 1) initial new
  goes_on then_now next_at entry then_judge new among line permitted follows sees =
      let same : sees.tally ≡ h.after = is_there tallies place sees.tally h.after sees.there h.changes.here in
      record {
        judged = judged_on known now at head image judge count h.judged then_now next_at entry then_judge among permitted follows;
        opened = h.opened;
        opens = h.opens;
        before = h.before;
        there = h.there;
        after = sees.then_;
        changes = then_at place h.after sees.then_ h.opened tallies new h.changes sees.changes;
        tallied =
            more_tallied file known head image h.judged.entries entry next_at.number h.before h.after sees.then_ h.tallied line
            (subst (λ (t : TallyState). IsNoted (situation_after head.shape image (events_of h.judged.entries) entry.event) (record { file = file; line = next_at.number }) t sees.then_) same sees.seen.noted);
      }

  ended : (k : Option (List ℕ)) → IfSome k (λ text. Tallied file text h.judged.entries h.before h.after)
      → IfSome k (λ text. reading_of fresh (lines_of text) ≡ Ok (going head image h.judged.entries))
      → IfSome k (λ text. IsCovered file text count initial tallies)
  ended None t e = tt
  ended (Some text) t e = record {
    head = head;
    image = image;
    entries = h.judged.entries;
    reads = e;
    lawful = h.judged.lawful;
    counted = h.judged.counted;
    place = place;
    opened = h.opened;
    opens = h.opens;
    before = h.before;
    there = h.there;
    after = h.after;
    counts = all_tallied file text head image h.judged.entries h.before h.after t e;
    changes = h.changes;
  }

  pub at_end : IfSome known (λ text. reading_of fresh (lines_of text) ≡ Ok (going head image h.judged.entries))
      → IfSome known (λ text. IsCovered file text count initial tallies)
  at_end e = ended known h.tallied e

-- ## What is refused

-- what an outcome says that refuses a record
refuses_at : (known : Option (List ℕ)) (number : ℕ) (judge : JudgeState) (entry : Entry) (count : ℕ) (breach : Breach)
    → IfSome known (λ text. IsOutcome text (Broken number (broken_at judge entry (count + 1) breach)))
    → IfSome known (λ text. IsFaultOf text (fault.Refused (Broken number (broken_at judge entry (count + 1) breach))))
refuses_at None number judge entry count breach h = tt
refuses_at (Some text) number judge entry count breach h = (h, tt)

pub refuses : (known now : Option (List ℕ)) (at : EntriesState) (head : Head) (image : List ℕ) (judge : JudgeState) (count : ℕ)
    (h : Judged known now at head image judge count) (entry : Entry) (new : JudgeState) (breach : Breach) → new ≡ judge
    → Breaks head.order head.shape image (events_of h.entries) entry breach
    → (number : ℕ) → IfSome known (λ text. IsEntryLine text number head image h.entries entry)
    → IfSome known (λ text. IsFaultOf text (fault.Refused (Broken number (broken_at new entry (count + 1) breach))))
refuses known now at head image judge count h entry new breach kept breaks number l =
    refuses_at known number new entry count breach (stops_at known now at head image judge count h entry new breach kept breaks number l)

-- a record that is not read on
pub not_read : (known : Option (List ℕ)) (Read : Reading → Type 0) (error : ReadFault) → IsReadFault known Read error
    → IfSome known (λ text. IsFaultOf text (fault_of error))
not_read None Read error h = tt
not_read (Some text) Read (read.Unreadable line cause) h = (h.0, tt)
not_read (Some text) Read read.Memory h = tt
not_read (Some text) Read read.File h = tt

-- one that has neither image nor entry
pub is_empty : (known : Option (List ℕ)) → IfSome known (λ text. (reading : Reading) × (reading_of fresh (lines_of text) ≡ Ok reading) × IsShort reading)
    → IfSome known (λ text. IsFaultOf text (fault.Refused Empty))
is_empty None h = tt
is_empty (Some text) h = (h, tt)
