-- The entries that a page shows.
use Rattle.std.proofs.Common.{◌≡◌, ◌+◌, ◌<◌, ◌≤◌, ℕ, Bool, true, false, List, [], ◌∷◌, ◌++◌, length, take, Option, Some, None, IfOk, Result, Ok, Err, refl, sym, ◌∙◌, ap, subst, arith, append_assoc}
use Rattle.std.proofs.lemmas.List.{append-nil, take_all, drop_all, take-append-drop, take-append-le, drop-append-le, map-append}
use Rattle.std.specs.Prelude.{is_some}
use Rattle.tl_protocol.specs.declared.event.Event.{Event}
use Rattle.tlcheck_rules.specs.Judged.{Follows}
use Rattle.tlcheck_rules.specs.declared.entry.Entry.{Entry}
use Rattle.tlcheck_record.specs.declared.cause.Cause.{Cause}
use Rattle.tlcheck_record.specs.declared.header.Head.{Head}
use Rattle.tlcheck_reader.specs.Entries.{IsAmong, IsReadFault}
use Rattle.tlcheck_reader.specs.Text.{IsFullLine, IsShort, IsUnreadable}
use Rattle.tlcheck_reader.specs.EntriesState.{EntriesState}
use Rattle.tlcheck_reader.specs.Lines.{lines_of}
use Rattle.tlcheck_reader.specs.Reading.{Reading, fresh, shaped, going, after_line, entries_in, reading_of}
use Rattle.tlcheck_reader.specs.declared.entries.ReadFault.{ReadFault}
use Rattle.tlcheck_reader.specs.declared.entries.ReadFault.TheVariants as read
use Rattle.tlcheck_reader.proofs.Growing.{Beginnings, beginnings, longer, never_fewer, reads_line, reads_rest, shorter, stays_going}
use Rattle.tlcheck_reader.proofs.Judging.{length_more}
use Rattle.tlchart_record.specs.Film.{GoesOn, IsSomewhere, Plays, entries_of}
use Rattle.tlchart_record.specs.Window.{AreWrittenAfter, HasEntries, IsWindow, IsWrittenAfter, Lead, Shows, Takes, Writes, fault_of}
use Rattle.tlchart_record.specs.declared.window.Window.{Window}
use Rattle.tlchart_record.specs.declared.window.WindowFault.{WindowFault}
use Rattle.tlchart_record.specs.declared.window.WindowFault.TheVariants.{Line}
use Rattle.tlchart_record.specs.declared.window.Written.{Written}

-- ## One more entry

-- the log goes on with it
lead-more : (head : Head) (image : List ℕ) (log : List Event) (entries : List Entry) (mid next_ : List Event) (entry : Entry)
    → Lead head image log entries mid → GoesOn head image mid entry next_ → Lead head image log (entries ++ entry ∷ []) next_
lead-more head image log [] mid next_ entry h g = (next_, subst (λ (es : List Event). GoesOn head image es entry next_) h g, refl)
lead-more head image log (x ∷ rest) mid next_ entry h g = (h.0, h.1, lead-more head image h.0 rest mid next_ entry h.2 g)

-- it is written after those that are shown
written-more : (text : List ℕ) (head : Head) (image : List ℕ) (entries : List Entry) (shown : List Written) (written : Written)
    → AreWrittenAfter text head image entries shown → IsWrittenAfter text head image (entries ++ entries_of shown) written
    → AreWrittenAfter text head image entries (shown ++ written ∷ [])
written-more text head image entries [] written h w =
    (subst (λ (es : List Entry). IsWrittenAfter text head image es written) (append-nil entries) w, tt)
written-more text head image entries (x ∷ rest) written h w = (
  h.0,
  written-more text head image (entries ++ x.entry ∷ []) rest written h.1
      (subst (λ (es : List Entry). IsWrittenAfter text head image es written) (sym (append_assoc entries (x.entry ∷ []) (entries_of rest))) w),
)

-- nothing is shown where no entry is
empty : (ws : List Written) → entries_of ws ≡ [] → ws ≡ []
empty [] e = refl
empty (w ∷ ws) e = cc

-- an entry before the window
shows-before : (text : List ℕ) (before : ℕ) (head : Head) (image : List ℕ) (entries : List Entry) (entry : Entry) (old new : Window)
    → length entries < before → Shows text before head image entries old → Plays entry old.judge new.judge
    → new.entries.items ≡ old.entries.items → Shows text before head image (entries ++ entry ∷ []) new
shows-before text before head image entries entry old new few shows plays same =
    let more : length (entries ++ entry ∷ []) ≤ before = omega (arith, few, length_more entries entry) in
    let all : take before entries ≡ entries = take_all before entries (omega (arith, few)) in
    let all_more : take before (entries ++ entry ∷ []) ≡ entries ++ entry ∷ [] = take_all before (entries ++ entry ∷ []) more in
    let none : old.entries.items ≡ [] = empty old.entries.items (shows.shown ∙ drop_all before entries (omega (arith, few))) in
    let played = plays head image shows.log shows.judge in
    record {
      shown = ap (λ (ws : List Written). entries_of ws) (same ∙ none) ∙ sym (drop_all before (entries ++ entry ∷ []) more);
      lines = subst (λ (ws : List Written). AreWrittenAfter text head image (take before (entries ++ entry ∷ [])) ws) (sym (same ∙ none)) tt;
      log = played.0;
      taken =
          subst (λ (es : List Entry). Lead head image [] es played.0) (sym all_more)
          (lead-more head image [] entries shows.log played.0 entry (subst (λ (es : List Entry). Lead head image [] es shows.log) all shows.taken) played.1);
      judge = played.2;
    }

-- an entry of the window
shows-more : (text : List ℕ) (before : ℕ) (head : Head) (image : List ℕ) (entries : List Entry) (written : Written) (old new : Window)
    → before ≤ length entries → Shows text before head image entries old → new.judge ≡ old.judge
    → new.entries.items ≡ old.entries.items ++ written ∷ [] → IsWrittenAfter text head image entries written
    → Shows text before head image (entries ++ written.entry ∷ []) new
shows-more text before head image entries written old new many shows same more w =
    let kept : take before (entries ++ written.entry ∷ []) ≡ take before entries = take-append-le before entries (written.entry ∷ []) many in
    let split : take before entries ++ entries_of old.entries.items ≡ entries =
    ap (λ (es : List Entry). take before entries ++ es) shows.shown ∙ take-append-drop before entries in
    record {
      shown =
          ap (λ (ws : List Written). entries_of ws) more ∙ map-append _ old.entries.items (written ∷ [])
          ∙ ap (λ (es : List Entry). es ++ written.entry ∷ []) shows.shown
          ∙ sym (drop-append-le before entries (written.entry ∷ []) many);
      lines =
          rw (kept, more)
          (written-more text head image (take before entries) old.entries.items written shows.lines
          (subst (λ (es : List Entry). IsWrittenAfter text head image es written) (sym split) w));
      log = shows.log;
      taken = subst (λ (es : List Entry). Lead head image [] es shows.log) (sym kept) shows.taken;
      judge = subst (λ j. Follows head.order head.shape image shows.log j) (sym same) shows.judge;
    }

-- either
pub shows-next : (text : List ℕ) (before count line : ℕ) (head : Head) (image : List ℕ) (entries : List Entry) (entry : Entry) (old new : Window)
    → (is_shown : Bool) → (is_shown ≡ true → before ≤ count) → (is_shown ≡ false → count < before)
    → Takes is_shown line entry old new → Shows text before head image entries old → length entries ≡ count
    → IsFullLine text line (Ok (going head image (entries ++ entry ∷ []))) → Shows text before head image (entries ++ entry ∷ []) new
shows-next text before count line head image entries entry old new true many few t shows same w =
    let enough : before ≤ length entries = rw same (many refl) in
    shows-more text before head image entries (record { line = line; entry = entry }) old new enough shows t.0 t.1 w
shows-next text before count line head image entries entry old new false many few t shows same w =
    let less : length entries < before = rw same (few refl) in
    shows-before text before head image entries entry old new less shows t.0 t.1

-- a window before all entries
pub shows-none : (text : List ℕ) (before : ℕ) (head : Head) (image : List ℕ) (window : Window) → Follows head.order head.shape image [] window.judge
    → window.entries.items ≡ [] → Shows text before head image [] window
shows-none text before head image window f none =
    let taken : take before [] ≡ [] = take_all before [] (omega arith) in
    record {
      shown = ap (λ (ws : List Written). entries_of ws) none ∙ sym (drop_all before [] (omega arith));
      lines = subst (λ (ws : List Written). AreWrittenAfter text head image (take before []) ws) (sym none) tt;
      log = [];
      taken = subst (λ (es : List Entry). Lead head image [] es []) (sym taken) refl;
      judge = f;
    }

-- ## As many entries as are asked for

-- those that were given out are written, where none waits
writes_as : (text : List ℕ) (now : Option (List ℕ)) (number : ℕ) (first : Option Entry) (head : Head) (image : List ℕ) (entries : List Entry)
    → (length entries ≡ 0 → first ≡ None) → IsAmong (Some text) now (record { number = number; first = first }) head image entries
    → Writes text head image entries
writes_as text now number None head image entries none a = record {
  read = a.read.read;
  rest = lines_of a.left;
  lines = a.read.lines;
  reads =
      subst (λ (es : List Entry). reading_of fresh a.read.read ≡ Ok (going head image es)) (append-nil entries) a.read.reads;
}
writes_as text now number (Some entry) head image entries none a =
    let never : Some entry ≡ None = none (ap (λ (es : List Entry). length es) a.waits.0) in
    cc

-- So many were given out.
pub record Given (text : List ℕ) (now : Option (List ℕ)) (at : EntriesState) (head : Head) (image : List ℕ) (taken : ℕ) : Type 0 where
  pub entries : List Entry
  pub among : IsAmong (Some text) now at head image entries
  pub counted : length entries ≡ taken

pub given_more : (text : List ℕ) (now : Option (List ℕ)) (at : EntriesState) (head : Head) (image : List ℕ) (taken : ℕ) (given : Given text now at head image taken)
    (then_now : Option (List ℕ)) (next_at : EntriesState) (entry : Entry) → IsAmong (Some text) then_now next_at head image (given.entries ++ entry ∷ [])
    → Given text then_now next_at head image (taken + 1)
given_more text now at head image taken given then_now next_at entry among =
    record { entries = given.entries ++ entry ∷ []; among = among; counted = omega (arith, given.counted, length_more given.entries entry) }

-- So many were taken into a window.
pub record Took (text : List ℕ) (before : ℕ) (now : Option (List ℕ)) (at : EntriesState) (head : Head) (image : List ℕ) (window : Window) (taken : ℕ) : Type 0 where
  pub entries : List Entry
  pub among : IsAmong (Some text) now at head image entries
  pub shows : Shows text before head image entries window
  pub counted : length entries ≡ taken

pub took_none : (text : List ℕ) (before : ℕ) (now : Option (List ℕ)) (at : EntriesState) (head : Head) (image : List ℕ) (window : Window)
    → IsAmong (Some text) now at head image [] → Shows text before head image [] window → Took text before now at head image window 0
took_none text before now at head image window a s = record { entries = []; among = a; shows = s; counted = refl }

pub took_more : (text : List ℕ) (before : ℕ) (now : Option (List ℕ)) (at : EntriesState) (head : Head) (image : List ℕ) (old new : Window) (taken : ℕ)
    (took : Took text before now at head image old taken) (then_now : Option (List ℕ)) (next_at : EntriesState) (entry : Entry) (is_shown : Bool)
    → (is_shown ≡ true → before ≤ taken) → (is_shown ≡ false → taken < before)
    → IsAmong (Some text) then_now next_at head image (took.entries ++ entry ∷ [])
    → IsFullLine text next_at.number (Ok (going head image (took.entries ++ entry ∷ [])))
    → Takes is_shown next_at.number entry old new → Took text before then_now next_at head image new (taken + 1)
took_more text before now at head image old new taken took then_now next_at entry is_shown many few among line takes = record {
  entries = took.entries ++ entry ∷ [];
  among = among;
  shows = shows-next text before taken next_at.number head image took.entries entry old new is_shown many few takes took.shows took.counted line;
  counted = omega (arith, took.counted, length_more took.entries entry);
}

-- the window
pub is_window : (text : List ℕ) (before : ℕ) (now : Option (List ℕ)) (at : EntriesState) (head : Head) (image : List ℕ) (window : Window) (count : ℕ)
    → Took text before now at head image window count → (count ≡ 0 → at.first ≡ None) → IsWindow text before count window
is_window text before now at head image window count took none = record {
  head = head;
  image = image;
  entries = took.entries;
  writes = writes_as text now at.number at.first head image took.entries (λ e. none (sym took.counted ∙ e)) took.among;
  counted = took.counted;
  shows = took.shows;
}

-- ## Fewer

-- the text has fewer
pub ended : (text : List ℕ) (count : ℕ) (head : Head) (image : List ℕ) (entries : List Entry) → reading_of fresh (lines_of text) ≡ Ok (going head image entries)
    → length entries < count → HasEntries text count → ⊥
ended text count head image entries e few has =
    let all : reading_of fresh (has.writes.read ++ has.writes.rest) ≡ Ok (going head image entries) =
    ap (λ (ls : List (List ℕ)). reading_of fresh ls) (sym has.writes.lines) ∙ e in
    let on = reads_rest has.writes.read has.writes.rest fresh (going has.head has.image has.entries) (going head image entries) has.writes.reads all in
    omega (arith, few, has.counted, never_fewer has.writes.rest (going has.head has.image has.entries) (going head image entries) on)

-- it has neither image nor entry
pub empty_text : (text : List ℕ) (count : ℕ) (reading : Reading) → reading_of fresh (lines_of text) ≡ Ok reading → IsShort reading → HasEntries text count → ⊥
empty_text text count reading e short has =
    let all : reading_of fresh (has.writes.read ++ has.writes.rest) ≡ Ok reading =
    ap (λ (ls : List (List ℕ)). reading_of fresh ls) (sym has.writes.lines) ∙ e in
    stays_going has.writes.rest has.head has.image has.entries reading
    (reads_rest has.writes.read has.writes.rest fresh (going has.head has.image has.entries) reading has.writes.reads all) short

-- a line cannot be read, and those before it have not so many
module _ (text : List ℕ) (count number : ℕ) (cause : Cause) (bad : IsUnreadable text number cause)
    (few : (head : Head) (image : List ℕ) (entries : List Entry) (lines : List (List ℕ)) → length entries ≡ count
    → reading_of (going head image entries) lines ≡ Ok bad.reading → ⊥) (has : HasEntries text count) where
  shorter_than : (line : List ℕ) (middle : List (List ℕ)) → has.writes.read ≡ bad.read ++ line ∷ middle → bad.bad ∷ bad.rest ≡ line ∷ (middle ++ has.writes.rest) → ⊥
  shorter_than line middle e rest =
      let first : line ≡ bad.bad = cc in
      let last = going has.head has.image has.entries in
      let all : reading_of fresh (bad.read ++ line ∷ middle) ≡ Ok last = ap (λ (ls : List (List ℕ)). reading_of fresh ls) (sym e) ∙ has.writes.reads in
      let on = reads_line bad.reading line middle last (reads_rest bad.read (line ∷ middle) fresh bad.reading last bad.reads all) in
      let stops : after_line bad.reading line ≡ Err cause = ap (λ (x : List ℕ). after_line bad.reading x) first ∙ bad.outside in
      let goes : after_line bad.reading line ≡ Ok on.0 = on.1 in
      cc

  compared : Beginnings has.writes.read has.writes.rest bad.read (bad.bad ∷ bad.rest) → ⊥
  compared (longer middle e) =
      let last = bad.reading in
      let all : reading_of fresh (has.writes.read ++ middle) ≡ Ok last = ap (λ (ls : List (List ℕ)). reading_of fresh ls) (sym e) ∙ bad.reads in
      few has.head has.image has.entries middle has.counted (reads_rest has.writes.read middle fresh (going has.head has.image has.entries) last has.writes.reads all)
  compared (shorter line middle e rest) = shorter_than line middle e rest

  not_there : ⊥
  not_there = compared (beginnings has.writes.read has.writes.rest bad.read (bad.bad ∷ bad.rest) (sym has.writes.lines ∙ bad.lines))

-- before the entries
pub no_opening : (text : List ℕ) (count : ℕ) (error : ReadFault) → IsReadFault (Some text) IsShort error → fault_of error ≡ Line → HasEntries text count → ⊥
no_opening text count (read.Unreadable number cause) h e has =
    not_there text count number cause h.0 (λ head image entries lines same on. stays_going lines head image entries h.0.reading on h.1) has
no_opening text count read.Memory h e has = cc
no_opening text count read.File h e has = cc

-- among them
pub no_entry : (text : List ℕ) (count : ℕ) (head : Head) (image : List ℕ) (entries : List Entry) (error : ReadFault)
    → IsReadFault (Some text) (λ reading. reading ≡ going head image entries) error → length entries < count → fault_of error ≡ Line → HasEntries text count → ⊥
no_entry text count head image entries (read.Unreadable number cause) h less e has =
    not_there text count number cause h.0
    (λ hd im es lines same on.
    omega (arith, less, same, never_fewer lines (going hd im es) h.0.reading on, ap (λ (r : Reading). length (entries_in r)) h.1)) has
no_entry text count head image entries read.Memory h less e has = cc
no_entry text count head image entries read.File h less e has = cc

-- the first entry stands behind the geometry
module _ (text : List ℕ) (now : Option (List ℕ)) (number : ℕ) (entry : Entry) (head : Head) (image : List ℕ)
    (a : IsAmong (Some text) now (record { number = number; first = Some entry }) head image []) (has : HasEntries text 0) where
  no_shorter : (line : List ℕ) (middle : List (List ℕ)) → has.writes.read ≡ a.waits.1.at.read ++ line ∷ middle
      → a.waits.1.line ∷ a.waits.1.at.rest ≡ line ∷ (middle ++ has.writes.rest) → ⊥
  no_shorter line middle e rest =
      let first : line ≡ a.waits.1.line = cc in
      let last = going has.head has.image has.entries in
      let all : reading_of fresh (a.waits.1.at.read ++ line ∷ middle) ≡ Ok last = ap (λ (ls : List (List ℕ)). reading_of fresh ls) (sym e) ∙ has.writes.reads in
      let on = reads_line (shaped head) line middle last (reads_rest a.waits.1.at.read (line ∷ middle) fresh (shaped head) last a.waits.1.at.reads all) in
      let is : after_line (shaped head) line ≡ Ok (going head image (entry ∷ [])) = ap (λ (x : List ℕ). after_line (shaped head) x) first ∙ a.waits.1.reads in
      let same : on.0 ≡ going head image (entry ∷ []) = cc in
      omega (arith, never_fewer middle on.0 last on.2, ap (λ (r : Reading). length (entries_in r)) same, has.counted)

  waiting_compared : Beginnings has.writes.read has.writes.rest a.waits.1.at.read (a.waits.1.line ∷ a.waits.1.at.rest) → ⊥
  waiting_compared (longer middle e) =
      let all : reading_of fresh (has.writes.read ++ middle) ≡ Ok (shaped head) = ap (λ (ls : List (List ℕ)). reading_of fresh ls) (sym e) ∙ a.waits.1.at.reads in
      stays_going middle has.head has.image has.entries (shaped head)
      (reads_rest has.writes.read middle fresh (going has.head has.image has.entries) (shaped head) has.writes.reads all) tt
  waiting_compared (shorter line middle e rest) = no_shorter line middle e rest

  none_there : ⊥
  none_there = waiting_compared (beginnings has.writes.read has.writes.rest a.waits.1.at.read (a.waits.1.line ∷ a.waits.1.at.rest) (sym has.writes.lines ∙ a.waits.1.at.lines))

-- whether one waits
pub waits_some : (first : Option Entry) → is_some first ≡ true → (entry : Entry) × (first ≡ Some entry)
waits_some None e = cc
waits_some (Some entry) e = (entry, refl)

pub waits_none : (first : Option Entry) → is_some first ≡ false → first ≡ None
waits_none None e = refl
waits_none (Some entry) e = cc

pub never_none : (text : List ℕ) (now : Option (List ℕ)) (number : ℕ) (first : Option Entry) (entry : Entry) (head : Head) (image : List ℕ) → first ≡ Some entry
    → IsAmong (Some text) now (record { number = number; first = first }) head image [] → HasEntries text 0 → ⊥
never_none text now number first entry head image some a has =
    none_there text now number entry head image
    (subst (λ (f : Option Entry). IsAmong (Some text) now (record { number = number; first = f }) head image []) some a) has

-- the judge of a window is where some log leads
pub window-somewhere : (text : List ℕ) (before count : ℕ) (window : Window) → IsWindow text before count window → IsSomewhere window.judge
window-somewhere text before count window w = record { head = w.head; image = w.image; log = w.shows.log; follows = w.shows.judge }

pub all-somewhere : (text : List ℕ) (before count : ℕ) (result : Result Window WindowFault) → IfOk result (λ window. IsWindow text before count window)
    → IfOk result (λ window. IsSomewhere window.judge)
all-somewhere text before count (Ok window) w = window-somewhere text before count window w
all-somewhere text before count (Err why) w = tt
