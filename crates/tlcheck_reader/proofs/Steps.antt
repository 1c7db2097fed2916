-- From one line to the next.
use Rattle.std.proofs.Common.{◌≡◌, ◌≢◌, ◌+◌, ◌==◌, ℕ, Bool, true, false, cond, List, [], ◌∷◌, ◌++◌, Option, Some, None, IfSome, Result, Ok, Err, refl, sym, ◌∙◌, ap, subst, arith, append_assoc, length-append}
use Rattle.std.proofs.lemmas.List.{append-nil}
use Rattle.std.specs.Io.BufRead.{take_through, drop_through, strip_last}
use Rattle.tlcheck_record.specs.Cause.{◌>>=◌}
use Rattle.tlcheck_record.specs.Words.{is_blank, text_in}
use Rattle.tlcheck_record.specs.declared.cause.Cause.{Cause}
use Rattle.tlcheck_reader.specs.Entries.{HasRead, IsFullAt, IsLineFrom, IsNoLine, IsRead, IsReadFault, IsUnreadHere}
use Rattle.tlcheck_reader.specs.Text.{IsFullLine, IsUnreadable}
use Rattle.tlcheck_reader.specs.Lines.{lines_of, onto_first}
use Rattle.tlcheck_reader.specs.Reading.{Reading, fresh, after_line, after_text, next, reading_of}
use Rattle.tlcheck_reader.specs.declared.entries.ReadFault.{ReadFault}
use Rattle.tlcheck_reader.specs.declared.entries.ReadFault.TheVariants.{Unreadable, Memory, File}

-- ## Lines

-- the first line, and the others
cut_byte : (x : ℕ) (xs : List ℕ) (t : Bool) → (x == 10) ≡ t
    → ((y : ℕ) (ys : List ℕ) → xs ≡ y ∷ ys → lines_of xs ≡ take_through 10 xs ∷ lines_of (drop_through 10 xs))
    → cond t ((x ∷ []) ∷ lines_of xs) (onto_first x (lines_of xs)) ≡ cond t (x ∷ []) (x ∷ take_through 10 xs) ∷ lines_of (cond t xs (drop_through 10 xs))
cut_byte x xs true e h = refl
cut_byte x [] false e h = refl
cut_byte x (y ∷ ys) false e h = ap (λ (ls : List (List ℕ)). onto_first x ls) (h y ys refl)

cut_all : (xs : List ℕ) (y : ℕ) (ys : List ℕ) → xs ≡ y ∷ ys → lines_of xs ≡ take_through 10 xs ∷ lines_of (drop_through 10 xs)
cut_all [] y ys e = cc
cut_all (x ∷ xs) y ys e = cut_byte x xs (x == 10) refl (λ z zs s. cut_all xs z zs s)

-- something is taken where something is left
pub cut : (xs : List ℕ) → take_through 10 xs ≢ [] → lines_of xs ≡ take_through 10 xs ∷ lines_of (drop_through 10 xs)
cut [] some = absurd (some refl)
cut (x ∷ xs) some = cut_all (x ∷ xs) x xs refl

-- nothing is taken only at the end
at_end_byte : (x : ℕ) (xs : List ℕ) (t : Bool) → cond t (x ∷ []) (x ∷ take_through 10 xs) ≡ [] → ⊥
at_end_byte x xs true e = cc
at_end_byte x xs false e = cc

pub at_end : (xs : List ℕ) → take_through 10 xs ≡ [] → xs ≡ []
at_end [] e = refl
at_end (x ∷ xs) e = absurd (at_end_byte x xs (x == 10) e)

-- ## Reading

-- a reading that goes on as it is
bind_ok : (o : Result Reading Cause) → (o >>= (λ t. Ok t)) ≡ o
bind_ok (Err cause) = refl
bind_ok (Ok t) = refl

-- lines that are joined
bind_joined : (o : Result Reading Cause) (xs ys : List (List ℕ)) → ((t : Reading) → reading_of t (xs ++ ys) ≡ (reading_of t xs >>= (λ u. reading_of u ys)))
    → (o >>= (λ t. reading_of t (xs ++ ys))) ≡ ((o >>= (λ t. reading_of t xs)) >>= (λ u. reading_of u ys))
bind_joined (Err cause) xs ys h = refl
bind_joined (Ok t) xs ys h = h t

joined : (xs : List (List ℕ)) (ys : List (List ℕ)) (r : Reading) → reading_of r (xs ++ ys) ≡ (reading_of r xs >>= (λ u. reading_of u ys))
joined [] ys r = refl
joined (l ∷ xs) ys r = bind_joined (after_line r l) xs ys (λ t. joined xs ys t)

-- one more line
pub read_more : (r : Reading) (read : List (List ℕ)) (line : List ℕ) (last : Reading) → reading_of r read ≡ Ok last
    → reading_of r (read ++ line ∷ []) ≡ after_line last line
read_more r read line last e =
    joined read (line ∷ []) r ∙ (ap (λ (o : Result Reading Cause). o >>= (λ u. reading_of u (line ∷ []))) e ∙ bind_ok (after_line last line))

-- a blank line writes nothing
after_blank : (reading : Reading) (text : List ℕ) → is_blank text ≡ true → after_text reading text ≡ Ok reading
after_blank reading text b = rw b refl

-- what a line writes that is not blank
after_words : (reading : Reading) (text words : List ℕ) → is_blank text ≡ false → text_in text ≡ Ok words → after_text reading text ≡ next reading words
after_words reading text words b e =
    ap (λ (v : Bool). cond v (Ok reading) (text_in text >>= (λ x. next reading x))) b ∙ ap (λ (o : Result (List ℕ) Cause). o >>= (λ x. next reading x)) e

-- one that is no text
after_none : (reading : Reading) (text : List ℕ) (cause : Cause) → is_blank text ≡ false → text_in text ≡ Err cause → after_text reading text ≡ Err cause
after_none reading text cause b e =
    ap (λ (v : Bool). cond v (Ok reading) (text_in text >>= (λ x. next reading x))) b ∙ ap (λ (o : Result (List ℕ) Cause). o >>= (λ x. next reading x)) e

-- ## The next line

module _ (text left : List ℕ) (count : ℕ) (reading : Reading) (at : HasRead text left count reading) where
  -- at the end all was read
  pub all_read : take_through 10 left ≡ [] → reading_of fresh (lines_of text) ≡ Ok reading
  all_read none =
      let all : lines_of text ≡ at.read = at.lines ∙ (ap (λ (l : List ℕ). at.read ++ lines_of l) (at_end left none) ∙ append-nil at.read) in
      ap (λ (ls : List (List ℕ)). reading_of fresh ls) all ∙ at.reads

  module _ (some : take_through 10 left ≢ []) where
    abbrev line : List ℕ
    line = take_through 10 left

    lines_left : lines_of text ≡ at.read ++ line ∷ lines_of (drop_through 10 left)
    lines_left = at.lines ∙ ap (λ (ls : List (List ℕ)). at.read ++ ls) (cut left some)

    pub passes : is_blank (strip_last 10 line) ≡ true → HasRead text (drop_through 10 left) (count + 1) reading
    passes b = record {
      read = at.read ++ line ∷ [];
      lines = lines_left ∙ sym (append_assoc at.read (line ∷ []) (lines_of (drop_through 10 left)));
      reads = read_more fresh at.read line reading at.reads ∙ after_blank reading (strip_last 10 line) b;
      number = omega (arith, length-append at.read (line ∷ []), at.number);
    }

    pub stands : (now : Option (List ℕ)) → now ≡ Some (drop_through 10 left) → is_blank (strip_last 10 line) ≡ false
        → IsFullAt text now (count + 1) reading line
    stands now e b = record {
      left = drop_through 10 left;
      now_ = e;
      read = at.read;
      lines = lines_left;
      reads = at.reads;
      number_ = ap (λ (n : ℕ). n + 1) at.number;
      full = b;
    }

pub init : (known : Option (List ℕ)) → IsRead known known 0 fresh
init None = tt
init (Some text) = (text, refl, record { read = []; lines = refl; reads = refl; number = refl })

module _ (now : Option (List ℕ)) (n : ℕ) (reading : Reading) (old new : List ℕ) (none : old ≡ []) (bytes : IfSome now (λ xs. new ≡ old ++ take_through 10 xs)) where
  -- what was read is the first line of what is left
  taken : (left : List ℕ) → now ≡ Some left → take_through 10 left ≡ new
  taken left e =
      let read : new ≡ old ++ take_through 10 left = subst (λ (o : Option (List ℕ)). IfSome o (λ xs. new ≡ old ++ take_through 10 xs)) e bytes in
      sym (read ∙ ap (λ (o : List ℕ). o ++ take_through 10 left) none)

  pub at_eof : (known : Option (List ℕ)) → IsRead known now n reading → new ≡ [] → IfSome known (λ text. reading_of fresh (lines_of text) ≡ Ok reading)
  at_eof None w e = tt
  at_eof (Some text) w e = all_read text w.0 n reading w.2 (taken w.0 w.1 ∙ e)

  module _ (some : new ≢ []) (next_now : Option (List ℕ)) (rest : IfSome now (λ xs. next_now ≡ Some (drop_through 10 xs))) where
    there : (left : List ℕ) → now ≡ Some left → take_through 10 left ≢ []
    there left e = λ h. some (sym (taken left e) ∙ h)

    then_left : (left : List ℕ) → now ≡ Some left → next_now ≡ Some (drop_through 10 left)
    then_left left e = subst (λ (o : Option (List ℕ)). IfSome o (λ xs. next_now ≡ Some (drop_through 10 xs))) e rest

    is_so : (v : Bool) (left : List ℕ) → now ≡ Some left → is_blank (strip_last 10 new) ≡ v → is_blank (strip_last 10 (take_through 10 left)) ≡ v
    is_so v left e b = ap (λ (l : List ℕ). is_blank (strip_last 10 l)) (taken left e) ∙ b

    pub over_blank : (known : Option (List ℕ)) → is_blank (strip_last 10 new) ≡ true → IsRead known now n reading → IsRead known next_now (n + 1) reading
    over_blank None b w = tt
    over_blank (Some text) b w =
        (drop_through 10 w.0, then_left w.0 w.1, passes text w.0 n reading w.2 (there w.0 w.1) (is_so true w.0 w.1 b))

    pub onto_full : (known : Option (List ℕ)) → is_blank (strip_last 10 new) ≡ false → IsRead known now n reading
        → IfSome known (λ text. IsFullAt text next_now (n + 1) reading new)
    onto_full None b w = tt
    onto_full (Some text) b w =
        subst (λ (l : List ℕ). IsFullAt text next_now (n + 1) reading l) (taken w.0 w.1)
        (stands text w.0 n reading w.2 (there w.0 w.1) next_now (then_left w.0 w.1) (is_so false w.0 w.1 b))

-- ## What a full line says

module _ (text : List ℕ) (now : Option (List ℕ)) (number : ℕ) (reading : Reading) (line : List ℕ) (at : IsFullAt text now number reading line) where
  read_on : (then_ : Reading) → after_line reading line ≡ Ok then_ → HasRead text at.left number then_
  read_on then_ e = record {
    read = at.read ++ line ∷ [];
    lines = at.lines ∙ sym (append_assoc at.read (line ∷ []) (lines_of at.left));
    reads = read_more fresh at.read line reading at.reads ∙ e;
    number = omega (arith, length-append at.read (line ∷ []), at.number_);
  }

  not_read_on : (cause : Cause) → after_line reading line ≡ Err cause → IsUnreadable text number cause
  not_read_on cause e = record {
    reading = reading;
    bad = line;
    read = at.read;
    rest = lines_of at.left;
    lines = at.lines;
    reads = at.reads;
    outside = e;
    number = at.number_;
  }

  full_says : (then_ : Result Reading Cause) → after_line reading line ≡ then_ → IsFullLine text number then_
  full_says then_ e = record {
    reading = reading;
    line = line;
    at = record { read = at.read; rest = lines_of at.left; lines = at.lines; reads = at.reads; numbered = at.number_ };
    full = at.full;
    reads = e;
  }

  full_from : (then_ : Reading) → after_line reading line ≡ Ok then_ → IsLineFrom text number reading then_
  full_from then_ e = record {
    line = line;
    at = record { read = at.read; rest = lines_of at.left; lines = at.lines; reads = at.reads; numbered = at.number_ };
    full = at.full;
    reads = e;
  }

  here_fault : (Read : Reading → Type 0) → Read reading → (fault : ReadFault) → IsUnreadHere number (after_line reading line) fault
      → IsReadFault (Some text) Read fault
  unfolding not_read_on
  here_fault Read r (Unreadable k cause) u =
      subst (λ (m : ℕ). (bad : IsUnreadable text m cause) × Read bad.reading) (sym u.0) (not_read_on cause u.1, r)
  here_fault Read r Memory u = tt
  here_fault Read r File u = tt

  -- a fault of its text
  text_fault : (Read : Reading → Type 0) → Read reading → (fault : ReadFault) → IsUnreadHere number (text_in (strip_last 10 line)) fault
      → IsReadFault (Some text) Read fault
  text_fault Read r (Unreadable k cause) u = here_fault Read r (Unreadable k cause) (u.0, after_none reading (strip_last 10 line) cause at.full u.1)
  text_fault Read r Memory u = tt
  text_fault Read r File u = tt

-- no line was read
pub no_line_read : (known : Option (List ℕ)) (Read : Reading → Type 0) (fault : ReadFault) → IsNoLine fault → IsReadFault known Read fault
no_line_read known Read (Unreadable number cause) h = absurd h
no_line_read known Read Memory h = tt
no_line_read known Read File h = tt

-- where the bytes are not known nothing is asked
unknown : (Read : Reading → Type 0) (fault : ReadFault) → IsReadFault None Read fault
unknown Read (Unreadable number cause) = tt
unknown Read Memory = tt
unknown Read File = tt

-- the line is no text
pub words_fault : (known now : Option (List ℕ)) (number : ℕ) (reading : Reading) (line : List ℕ) (Read : Reading → Type 0) → Read reading → (fault : ReadFault)
    → IfSome known (λ text. IsFullAt text now number reading line) → IsUnreadHere number (text_in (strip_last 10 line)) fault → IsReadFault known Read fault
words_fault None now number reading here Read r fault at u = unknown Read fault
words_fault (Some text) now number reading here Read r fault at u = text_fault text now number reading here at Read r fault u

module _ (now : Option (List ℕ)) (number : ℕ) (reading : Reading) (line words : List ℕ) (reads : text_in (strip_last 10 line) ≡ Ok words) where
  -- its words say nothing
  pub says_fault : (known : Option (List ℕ)) (Read : Reading → Type 0) → Read reading → (fault : ReadFault)
      → IfSome known (λ text. IsFullAt text now number reading line) → IsUnreadHere number (next reading words) fault → IsReadFault known Read fault
  says_fault None Read r fault at u = unknown Read fault
  says_fault (Some text) Read r fault at u =
      here_fault text now number reading line at Read r fault
      (subst (λ (o : Result Reading Cause). IsUnreadHere number o fault) (sym (after_words reading (strip_last 10 line) words at.full reads)) u)

  -- what they say was read
  pub says_read : (known : Option (List ℕ)) (then_ : Reading) → IfSome known (λ text. IsFullAt text now number reading line)
      → next reading words ≡ Ok then_ → IsRead known now number then_
  says_read None then_ at e = tt
  says_read (Some text) then_ at e =
      (at.left, at.now_, read_on text now number reading line at then_ (after_words reading (strip_last 10 line) words at.full reads ∙ e))

  -- the line says it
  pub says_line : (known : Option (List ℕ)) (then_ : Reading) → IfSome known (λ text. IsFullAt text now number reading line)
      → next reading words ≡ Ok then_ → IfSome known (λ text. IsFullLine text number (Ok then_))
  says_line None then_ at e = tt
  says_line (Some text) then_ at e =
      full_says text now number reading line at (Ok then_) (after_words reading (strip_last 10 line) words at.full reads ∙ e)

  -- the line says it, after what was read
  pub says_from : (known : Option (List ℕ)) (then_ : Reading) → IfSome known (λ text. IsFullAt text now number reading line)
      → next reading words ≡ Ok then_ → IfSome known (λ text. IsLineFrom text number reading then_)
  says_from None then_ at e = tt
  says_from (Some text) then_ at e =
      full_from text now number reading line at then_ (after_words reading (strip_last 10 line) words at.full reads ∙ e)
