-- The entries that lines write: a line leaves those before it, or has one more.
use Rattle.std.proofs.Common.{◌≡◌, ◌≤◌, ℕ, Bool, true, false, cond, List, [], ◌∷◌, ◌++◌, length, Option, Some, None, Result, Ok, Err, refl, sym, ◌∙◌, ap, subst, arith, length-append}
use Rattle.std.specs.Io.BufRead.{strip_last}
use Rattle.tlcheck_rules.specs.declared.entry.Entry.{Entry}
use Rattle.tlcheck_record.specs.Cause.{◌>>=◌}
use Rattle.tlcheck_record.specs.Entry.{entry_of}
use Rattle.tlcheck_record.specs.Header.{head_of, image_of}
use Rattle.tlcheck_record.specs.Words.{is_blank, text_in}
use Rattle.tlcheck_record.specs.declared.cause.Cause.{Cause}
use Rattle.tlcheck_record.specs.declared.header.Head.{Head}
use Rattle.tlcheck_reader.specs.Text.{IsShort}
use Rattle.tlcheck_reader.specs.Reading.{Reading, fresh, shaped, going, after_line, after_text, entries_in, image_or_entry, next, reading_of}

-- what a line leaves: what was read, where it is blank; no entry; or one more
pub data Grows (blank : Bool) (before after : Reading) : Type 0 where
  same : blank ≡ true → after ≡ before → Grows blank before after
  begins : entries_in before ≡ [] → entries_in after ≡ [] → Grows blank before after
  more : (head : Head) (image : List ℕ) (entry : Entry) → after ≡ going head image (entries_in before ++ entry ∷ []) → Grows blank before after

grow_entry : (s : Head) (image : List ℕ) (before : Reading) (entries : List Entry) → entries_in before ≡ entries → (o : Result Entry Cause) (after : Reading)
    → (o >>= (λ (entry : Entry). Ok (going s image (entries ++ entry ∷ [])))) ≡ Ok after → Grows false before after
grow_entry s image before entries is (Err cause) after e = cc
grow_entry s image before entries is (Ok entry) after e =
    let to : after ≡ going s image (entries ++ entry ∷ []) = cc in
    more s image entry (to ∙ ap (λ (es : List Entry). going s image (es ++ entry ∷ [])) (sym is))

grow_image : (s : Head) (line : List ℕ) (o : Result (Option (List ℕ)) Cause) (after : Reading)
    → (o >>= (λ i. image_or_entry s line i)) ≡ Ok after → Grows false (shaped s) after
grow_image s line (Err cause) after e = cc
grow_image s line (Ok None) after e = grow_entry s [] (shaped s) [] refl (entry_of line) after e
grow_image s line (Ok (Some image)) after e =
    let to : going s image [] ≡ after = cc in
    begins refl (sym (ap (λ (r : Reading). entries_in r) to))

grow_head : (o : Result Head Cause) (after : Reading) → (o >>= (λ head. Ok (shaped head))) ≡ Ok after → Grows false fresh after
grow_head (Err cause) after e = cc
grow_head (Ok head) after e =
    let to : shaped head ≡ after = cc in
    begins refl (sym (ap (λ (r : Reading). entries_in r) to))

grow_next : (reading : Reading) (line : List ℕ) (after : Reading) → next reading line ≡ Ok after → Grows false reading after
grow_next fresh line after e = grow_head (head_of line) after e
grow_next (shaped s) line after e = grow_image s line (image_of s.shape line) after e
grow_next (going s image entries) line after e = grow_entry s image (going s image entries) entries refl (entry_of line) after e

grow_text : (reading : Reading) (o : Result (List ℕ) Cause) (after : Reading) → (o >>= (λ t. next reading t)) ≡ Ok after → Grows false reading after
grow_text reading (Err cause) after e = cc
grow_text reading (Ok t) after e = grow_next reading t after e

grow_blank : (reading : Reading) (text : List ℕ) (b : Bool) (after : Reading)
    → cond b (Ok reading) (text_in text >>= (λ t. next reading t)) ≡ Ok after → Grows b reading after
grow_blank reading text true after e =
    let to : after ≡ reading = cc in
    same refl to
grow_blank reading text false after e = grow_text reading (text_in text) after e

-- one more line
pub grows_text : (reading : Reading) (text : List ℕ) (after : Reading) → after_text reading text ≡ Ok after → Grows (is_blank text) reading after
grows_text reading text after e = grow_blank reading text (is_blank text) after e

-- entries that end alike
pub last_same : (xs ys : List Entry) (x y : Entry) → xs ++ x ∷ [] ≡ ys ++ y ∷ [] → ((xs ≡ ys) × (x ≡ y))
last_same [] [] x y e =
    let is : x ≡ y = cc in
    (refl, is)
last_same [] (b ∷ ys) x y e = absurd (omega (arith, ap (λ (es : List Entry). length es) e, length-append ys (y ∷ [])))
last_same (a ∷ xs) [] x y e = absurd (omega (arith, ap (λ (es : List Entry). length es) e, length-append xs (x ∷ [])))
last_same (a ∷ xs) (b ∷ ys) x y e =
    let first : a ≡ b = cc in
    let rest : xs ++ x ∷ [] ≡ ys ++ y ∷ [] = cc in
    let on = last_same xs ys x y rest in
    (subst (λ (z : Entry). a ∷ xs ≡ z ∷ ys) first (ap (λ (es : List Entry). a ∷ es) on.0), on.1)

-- the entries before one that a line writes
before_as : (blank : Bool) (before : Reading) (head : Head) (image : List ℕ) (entries : List Entry) (entry : Entry) → blank ≡ false
    → Grows blank before (going head image (entries ++ entry ∷ [])) → entries_in before ≡ entries
before_as blank before head image entries entry full (same b e) = cc
before_as blank before head image entries entry full (begins e none) =
    absurd (omega (arith, ap (λ (es : List Entry). length es) none, length-append entries (entry ∷ [])))
before_as blank before head image entries entry full (more h i x e) =
    let is : entries ++ entry ∷ [] ≡ entries_in before ++ x ∷ [] = ap (λ (r : Reading). entries_in r) e in
    sym (last_same entries (entries_in before) entry x is).0

pub entries_before : (before : Reading) (text : List ℕ) (head : Head) (image : List ℕ) (entries : List Entry) (entry : Entry) → is_blank text ≡ false
    → after_text before text ≡ Ok (going head image (entries ++ entry ∷ [])) → entries_in before ≡ entries
entries_before before text head image entries entry full e =
    before_as (is_blank text) before head image entries entry full (grows_text before text (going head image (entries ++ entry ∷ [])) e)

-- how many there are
abbrev pub count_in : Reading → ℕ
count_in reading = length (entries_in reading)

step_up : (blank : Bool) (before after : Reading) → Grows blank before after → count_in before ≤ count_in after
step_up blank before after (same b e) = omega (arith, ap (λ (r : Reading). length (entries_in r)) e)
step_up blank before after (begins e none) = omega (arith, ap (λ (es : List Entry). length es) e)
step_up blank before after (more head image entry e) =
    omega (arith, ap (λ (r : Reading). length (entries_in r)) e, length-append (entries_in before) (entry ∷ []))

step_same : (blank : Bool) (before after : Reading) → Grows blank before after → count_in after ≤ count_in before → entries_in after ≡ entries_in before
step_same blank before after (same b e) h = ap (λ (r : Reading). entries_in r) e
step_same blank before after (begins e none) h = none ∙ sym e
step_same blank before after (more head image entry e) h =
    absurd (omega (arith, h, ap (λ (r : Reading). length (entries_in r)) e, length-append (entries_in before) (entry ∷ [])))

-- a line that leaves as many leaves the same
pub leaves : (before : Reading) (text : List ℕ) (after : Reading) → after_text before text ≡ Ok after → count_in after ≤ count_in before
    → entries_in after ≡ entries_in before
leaves before text after e h = step_same (is_blank text) before after (grows_text before text after e) h

-- the first of some lines, and the others
reads_first : (o : Result Reading Cause) (rest : List (List ℕ)) (last : Reading) → (o >>= (λ t. reading_of t rest)) ≡ Ok last
    → (then_ : Reading) × (o ≡ Ok then_) × (reading_of then_ rest ≡ Ok last)
reads_first (Err cause) rest last e = cc
reads_first (Ok then_) rest last e = (then_, refl, e)

pub reads_line : (reading : Reading) (line : List ℕ) (rest : List (List ℕ)) (last : Reading) → reading_of reading (line ∷ rest) ≡ Ok last
    → (then_ : Reading) × (after_line reading line ≡ Ok then_) × (reading_of then_ rest ≡ Ok last)
reads_line reading line rest last e = reads_first (after_line reading line) rest last e

-- ## Behind the image or the first entry

going_entry : (head : Head) (image : List ℕ) (entries : List Entry) (o : Result Entry Cause) (after : Reading)
    → (o >>= (λ (entry : Entry). Ok (going head image (entries ++ entry ∷ [])))) ≡ Ok after → (more : List Entry) × (after ≡ going head image more)
going_entry head image entries (Err cause) after e = cc
going_entry head image entries (Ok entry) after e =
    let to : after ≡ going head image (entries ++ entry ∷ []) = cc in
    (entries ++ entry ∷ [], to)

going_text : (head : Head) (image : List ℕ) (entries : List Entry) (o : Result (List ℕ) Cause) (after : Reading)
    → (o >>= (λ t. next (going head image entries) t)) ≡ Ok after → (more : List Entry) × (after ≡ going head image more)
going_text head image entries (Err cause) after e = cc
going_text head image entries (Ok t) after e = going_entry head image entries (entry_of t) after e

going_line : (head : Head) (image : List ℕ) (entries : List Entry) (text : List ℕ) (b : Bool) (after : Reading)
    → cond b (Ok (going head image entries)) (text_in text >>= (λ t. next (going head image entries) t)) ≡ Ok after
    → (more : List Entry) × (after ≡ going head image more)
going_line head image entries text true after e =
    let to : after ≡ going head image entries = cc in
    (entries, to)
going_line head image entries text false after e = going_text head image entries (text_in text) after e

not_short : (last : Reading) (head : Head) (image : List ℕ) (entries : List Entry) → last ≡ going head image entries → IsShort last → ⊥
not_short last head image entries e short = subst (λ (r : Reading). IsShort r) e short

-- there is no way back
pub stays_going : (lines : List (List ℕ)) (head : Head) (image : List ℕ) (entries : List Entry) (last : Reading)
    → reading_of (going head image entries) lines ≡ Ok last → IsShort last → ⊥
stays_going [] head image entries last e short =
    let same : last ≡ going head image entries = cc in
    not_short last head image entries same short
stays_going (line ∷ rest) head image entries last e short =
    let on = reads_line (going head image entries) line rest last e in
    let more = going_line head image entries (strip_last 10 line) (is_blank (strip_last 10 line)) on.0 on.1 in
    stays_going rest head image more.0 last (subst (λ (r : Reading). reading_of r rest ≡ Ok last) more.1 on.2) short

-- ## Counting

-- lines never have fewer
pub never_fewer : (lines : List (List ℕ)) (reading last : Reading) → reading_of reading lines ≡ Ok last → count_in reading ≤ count_in last
never_fewer [] reading last e =
    let same : reading ≡ last = cc in
    omega (arith, ap (λ (r : Reading). count_in r) same)
never_fewer (line ∷ rest) reading last e =
    let on = reads_line reading line rest last e in
    omega (arith, step_up _ reading on.0 (grows_text reading (strip_last 10 line) on.0 on.1), never_fewer rest on.0 last on.2)

-- lines that are joined
reads_both : (xs ys : List (List ℕ)) (r then_ last : Reading) → reading_of r xs ≡ Ok then_ → reading_of r (xs ++ ys) ≡ Ok last → reading_of then_ ys ≡ Ok last
reads_both [] ys r then_ last e h =
    let same : r ≡ then_ = cc in
    subst (λ (t : Reading). reading_of t ys ≡ Ok last) same h
reads_both (x ∷ xs) ys r then_ last e h =
    let one = reads_line r x xs then_ e in
    let two = reads_line r x (xs ++ ys) last h in
    let same : two.0 ≡ one.0 = cc in
    reads_both xs ys one.0 then_ last one.2 (subst (λ (t : Reading). reading_of t (xs ++ ys) ≡ Ok last) same two.2)

pub reads_rest : (xs ys : List (List ℕ)) (r then_ last : Reading) → reading_of r xs ≡ Ok then_ → reading_of r (xs ++ ys) ≡ Ok last → reading_of then_ ys ≡ Ok last
reads_rest xs ys r then_ last e h = reads_both xs ys r then_ last e h

-- ## Two beginnings of the same lines

-- one is a beginning of the other
pub data Beginnings (xs us ys vs : List (List ℕ)) : Type 0 where
  longer : (middle : List (List ℕ)) → ys ≡ xs ++ middle → Beginnings xs us ys vs
  shorter : (line : List ℕ) (middle : List (List ℕ)) → xs ≡ ys ++ line ∷ middle → vs ≡ line ∷ (middle ++ us) → Beginnings xs us ys vs

onto : (x : List ℕ) (xs us ys vs : List (List ℕ)) → Beginnings xs us ys vs → Beginnings (x ∷ xs) us (x ∷ ys) vs
onto x xs us ys vs (longer middle e) = longer middle (ap (λ (l : List (List ℕ)). x ∷ l) e)
onto x xs us ys vs (shorter line middle e rest) = shorter line middle (ap (λ (l : List (List ℕ)). x ∷ l) e) rest

pub beginnings : (xs us ys vs : List (List ℕ)) → xs ++ us ≡ ys ++ vs → Beginnings xs us ys vs
beginnings [] us ys vs e = longer ys refl
beginnings (x ∷ xs) us [] vs e = shorter x xs refl (sym e)
beginnings (x ∷ xs) us (y ∷ ys) vs e =
    let first : x ≡ y = cc in
    let rest : xs ++ us ≡ ys ++ vs = cc in
    subst (λ (z : List ℕ). Beginnings (x ∷ xs) us (z ∷ ys) vs) first (onto x xs us ys vs (beginnings xs us ys vs rest))
