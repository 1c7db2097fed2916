-- The lists of lines by wire and block: what a new line and a sent one leave of what they keep.
use Rattle.std.proofs.Common.{◌≡◌, ◌≢◌, ◌<◌, true, ◌≤◌, ◌+◌, ◌-◌, ◌⊎◌, ◌++◌, ◌∷◌, ℕ, zero, suc, List, [], Some, length, get_or, set, slice_get, replicate, refl, sym, subst, ap, ◌∙◌, inl, inr, arith}
use Rattle.std.proofs.lemmas.List.{get_or_append_left}
use Rattle.std.proofs.lemmas.Option.{slice_get_within}
use Rattle.std.proofs.Math.Seq.{get_or-append_seam}
use Rattle.tl_types.specs.Codes.{channel_of}
use Rattle.tl_types.specs.declared.channel.Channel.{Channel}
use Rattle.tl_types.specs.declared.channel.Channel.TheVariants.{A, B, C, D, E}
use Rattle.tlwire_search.specs.Explained.{wire_of}
use Rattle.tlwire_search.specs.Lists.{AreOfTheirWires, BeginInTime, IsMovedOn, IsOnWire, gap_at, list_at, list_of, number_of}
use Rattle.tlwire_search.specs.Where.{block_of}
use Rattle.tlwire_search.specs.Sought.{IsLike, is_grant}
use Rattle.tlwire_search.specs.declared.seen.Seen.{Seen}
use Rattle.tlwire_search.specs.declared.seen.Seen.TheVariants.{OnLink, OnMemory, Load, Store}
use Rattle.tlwire_search.specs.declared.seen.Wire.{Wire}
use Rattle.tlwire_search.specs.declared.seen.Wire.TheVariants.{Link}
use Rattle.tlwire_search.specs.declared.sought.Sought.{Sought}

-- ## Lists of numbers

-- what is read behind a write: what was written, or what was there
pub read_back : (xs : List ℕ) (i k v y : ℕ) → slice_get (set xs i v) k ≡ Some y → ((i ≡ k) × (v ≡ y)) ⊎ ((i ≢ k) × (slice_get xs k ≡ Some y))
read_back [] i k v y is = absurd (omega (arith, slice_get_within {A = ℕ} [] k y is))
read_back (x ∷ xs) zero zero v y is = inl (refl, cc)
read_back (x ∷ xs) zero (suc k) v y is = inr ((λ e. omega arith), is)
read_back (x ∷ xs) (suc i) zero v y is = inr ((λ e. omega arith), is)
read_back (x ∷ xs) (suc i) (suc k) v y is = elim (read_back xs i k v y is) [
  | inl h ↦ inl (omega (arith, h.0), h.1)
  | inr h ↦ inr ((λ e. h.0 (omega arith)), h.1)
]

-- all that is read of equal numbers is that number
pub read_alike : (n v k y : ℕ) → slice_get (replicate n v) k ≡ Some y → v ≡ y
read_alike zero v k y is = absurd (omega (arith, slice_get_within {A = ℕ} [] k y is))
read_alike (suc n) v zero y is = cc
read_alike (suc n) v (suc k) y is = read_alike n v k y is

-- what was written is no more than it
written_at : (xs : List ℕ) (i v : ℕ) → get_or (set xs i v) i 0 ≤ v
written_at [] i v = omega arith
written_at (x ∷ xs) zero v = omega arith
written_at (x ∷ xs) (suc i) v = written_at xs i v

-- what is read behind a write is no more than a bound, where both are
pub written_within : (xs : List ℕ) (i k v bound : ℕ) → (i ≡ k → v ≤ bound) → get_or xs k 0 ≤ bound → get_or (set xs i v) k 0 ≤ bound
written_within [] i k v bound new old = old
written_within (x ∷ xs) zero zero v bound new old = new refl
written_within (x ∷ xs) zero (suc k) v bound new old = old
written_within (x ∷ xs) (suc i) zero v bound new old = old
written_within (x ∷ xs) (suc i) (suc k) v bound new old = written_within xs i k v bound (λ e. new (ap suc e)) old

-- a number from another one on is that, or behind it
pub two_cases : (a b : ℕ) → a ≤ b → (a ≡ b) ⊎ (a < b)
two_cases zero zero le = inl refl
two_cases zero (suc b) le = inr (omega arith)
two_cases (suc a) zero le = absurd (omega arith)
two_cases (suc a) (suc b) le = elim (two_cases a b (omega arith)) [ inl e ↦ inl (ap suc e) | inr lt ↦ inr (omega arith) ]

-- a number is at most another one, or behind it
pub at_most : (a b : ℕ) → (a ≤ b) ⊎ (b < a)
at_most zero b = inl (omega arith)
at_most (suc a) zero = inr (omega arith)
at_most (suc a) (suc b) = elim (at_most a b) [ inl le ↦ inl (omega arith) | inr lt ↦ inr (omega arith) ]

-- each of these numbers is at most this
abbrev pub AreWithin : List ℕ → ℕ → Type 0
AreWithin xs most = (k x : ℕ) → slice_get xs k ≡ Some x → x ≤ most

pub within_alike : (n v : ℕ) → AreWithin (replicate n v) v
within_alike n v k x is = omega (arith, read_alike n v k x is)

pub within_set : (xs : List ℕ) (i v most : ℕ) → AreWithin xs most → v ≤ most → AreWithin (set xs i v) most
within_set xs i v most old new k x is = elim (read_back xs i k v x is) [
  | inl h ↦ omega (arith, h.1)
  | inr h ↦ old k x h.1
]

-- ## A line before those behind it

-- the lists begin no later than their lines from a place on
abbrev pub BeginFrom : (Seen → ℕ) → List Seen → List ℕ → ℕ → Type 0
BeginFrom list seen first from = (place : ℕ) (s : Seen) → from ≤ place → slice_get seen place ≡ Some s → get_or first (list s) 0 ≤ place

-- no gap passes over a line of the list from a place on
abbrev pub PassFrom : (Seen → ℕ) → List Seen → List ℕ → ℕ → Type 0
PassFrom list seen gaps from =
    (place later : ℕ) (s t : Seen)
    → from ≤ place → place < later → slice_get seen place ≡ Some s → slice_get seen later ≡ Some t → list s ≡ list t → place + gap_at gaps (length seen) place < later

pub begun_before : (list : Seen → ℕ) (seen : List Seen) (first : List ℕ) (place : ℕ) (s : Seen)
    → slice_get seen place ≡ Some s → BeginFrom list seen first (place + 1) → BeginFrom list seen (set first (list s) place) place
begun_before list seen first place s at begun later t from is =
    elim (two_cases place later from) [
      | inl same ↦
          let eq : slice_get seen place ≡ Some t = subst (λ (n : ℕ). slice_get seen n ≡ Some t) (sym same) is in
          let one : s ≡ t = cc in
          subst (λ (x : Seen). get_or (set first (list s) place) (list x) 0 ≤ later) one (omega (arith, written_at first (list s) place))
      | inr behind ↦ written_within first (list s) (list t) place later (λ e. omega arith) (begun later t (omega arith) is)
    ]

pub passed_before : (list : Seen → ℕ) (seen : List Seen) (first gaps : List ℕ) (place gap : ℕ) (s : Seen)
    → slice_get seen place ≡ Some s → place + 1 + length gaps ≡ length seen → gap ≤ get_or first (list s) 0 - place - 1
    → BeginFrom list seen first (place + 1) → PassFrom list seen gaps (place + 1) → PassFrom list seen (gaps ++ gap ∷ []) place
passed_before list seen first gaps place gap s at sized small begun passed here later r t from lt is there same =
    elim (two_cases place here from) [
      | inl e ↦
          let eq : slice_get seen place ≡ Some r = subst (λ (n : ℕ). slice_get seen n ≡ Some r) (sym e) is in
          let one : s ≡ r = cc in
          let lists : list s ≡ list t = ap list one ∙ same in
          let head : get_or first (list s) 0 ≤ later = subst (λ (n : ℕ). get_or first n 0 ≤ later) (sym lists) (begun later t (omega arith) there) in
          let index : length seen - 1 - here ≡ length gaps = omega arith in
          let new : gap_at (gaps ++ gap ∷ []) (length seen) here ≡ gap =
          subst (λ (n : ℕ). get_or (gaps ++ gap ∷ []) n 0 ≡ gap) (sym index) (get_or-append_seam gaps gap [] 0) in
          omega arith
      | inr behind ↦
          let inside : length seen - 1 - here < length gaps = omega (arith, slice_get_within seen here r is) in
          let old : gap_at (gaps ++ gap ∷ []) (length seen) here ≡ gap_at gaps (length seen) here =
          get_or_append_left gaps (gap ∷ []) 0 (length seen - 1 - here) inside in
          omega (arith, passed here later r t (omega arith) lt is there same)
    ]

pub of_wires_before : (seen : List Seen) (next : List ℕ) (place : ℕ) (s : Seen)
    → slice_get seen place ≡ Some s → AreOfTheirWires seen next → AreOfTheirWires seen (set next (number_of (wire_of s)) place)
of_wires_before seen next place s at old wire here is t there =
    elim (read_back next (number_of (wire_of s)) wire place here is) [
      | inl e ↦
          let eq : slice_get seen place ≡ Some t = subst (λ (n : ℕ). slice_get seen n ≡ Some t) (sym e.1) there in
          let one : s ≡ t = cc in
          ap (λ (x : Seen). number_of (wire_of x)) (sym one) ∙ e.0
      | inr e ↦ old wire here e.1 t there
    ]

-- where each wire goes on behind all, it goes on at no line
pub of_no_wire : (seen : List Seen) (wires : ℕ) → AreOfTheirWires seen (replicate wires (length seen))
of_no_wire seen wires wire place is s there =
    absurd (omega (arith, read_alike wires (length seen) wire place is, slice_get_within seen place s there))

-- ## A line that is sent

pub of_wires_on : (seen : List Seen) (next : List ℕ) (wire on : ℕ)
    → AreOfTheirWires seen next → IsOnWire seen wire on → AreOfTheirWires seen (set next wire on)
of_wires_on seen next wire on old there w here is t at =
    elim (read_back next wire w on here is) [
      | inl e ↦ there t (subst (λ (n : ℕ). slice_get seen n ≡ Some t) (sym e.1) at) ∙ e.0
      | inr e ↦ old w here e.1 t at
    ]

pub begun_on : (list : Seen → ℕ) (seen : List Seen) (next first first' : List ℕ) (wire place on behind : ℕ) (s : Seen)
    → AreOfTheirWires seen next → BeginInTime list seen next first
    → slice_get next wire ≡ Some place → slice_get seen place ≡ Some s → place < on
    → ((later : ℕ) (t : Seen) → place < later → later < behind → slice_get seen later ≡ Some t → list s ≢ list t)
    → IsMovedOn first first' (list s) place behind → BeginInTime list seen (set next wire on) first'
begun_on list seen next first first' wire place on behind s of_wires in_time is_next at lt passed moved later from t there is le =
    let old : get_or first (list t) 0 ≤ later =
    elim (read_back next wire (number_of (wire_of t)) on from is) [
      | inl e ↦ in_time later place t there (subst (λ (n : ℕ). slice_get next n ≡ Some place) e.0 is_next) (omega (arith, e.1))
      | inr e ↦ in_time later from t there e.1 le
    ] in
    let apart : place ≡ later → ⊥ = λ same.
    let here : slice_get seen place ≡ Some t = subst (λ (n : ℕ). slice_get seen n ≡ Some t) (sym same) there in
    let one : s ≡ t = cc in
    let of_wire : wire ≡ number_of (wire_of t) = sym (of_wires wire place is_next s at) ∙ ap (λ (x : Seen). number_of (wire_of x)) one in
    elim (read_back next wire (number_of (wire_of t)) on from is) [
      | inl e ↦ omega (arith, e.1)
      | inr e ↦ e.0 of_wire
    ] in
    elim moved [
      | inl e ↦ subst (λ (xs : List ℕ). get_or xs (list t) 0 ≤ later) (sym e) old
      | inr m ↦ subst (λ (xs : List ℕ). get_or xs (list t) 0 ≤ later) (sym m.1) (written_within first (list s) (list t) behind later
          (λ same.
          let head : get_or first (list s) 0 ≤ later = subst (λ (n : ℕ). get_or first n 0 ≤ later) (sym same) old in
          elim (two_cases place later (omega (arith, m.0))) [
            | inl e ↦ absurd (apart e)
            | inr behind_it ↦ elim (at_most behind later) [
              | inl within ↦ within
              | inr beyond ↦ absurd (passed later t behind_it beyond there same)
            ]
          ]) old)
    ]

-- ## A look-up

-- what is like this, from one place to another, is none of what was seen
abbrev pub PassedBy : (Seen → Type 0) → List Seen → ℕ → ℕ → Type 0
PassedBy P seen from to = (place : ℕ) (s : Seen) → from ≤ place → place < to → slice_get seen place ≡ Some s → P s → ⊥

pub passed_on : (P : Seen → Type 0) (seen : List Seen) (from place to : ℕ) (line : Seen)
    → PassedBy P seen from place → slice_get seen place ≡ Some line → (P line → ⊥)
    → ((later : ℕ) (s : Seen) → place < later → later < to → slice_get seen later ≡ Some s → P s → ⊥) → PassedBy P seen from to
passed_on P seen from place to line passed at unlike beyond here s ge lt is like =
    elim (at_most place here) [
      | inr before ↦ passed here s ge before is like
      | inl le ↦ elim (two_cases place here le) [
        | inl e ↦
            let eq : slice_get seen place ≡ Some s = subst (λ (n : ℕ). slice_get seen n ≡ Some s) (sym e) is in
            let one : s ≡ line = cc in
            unlike (subst P one like)
        | inr behind ↦ beyond here s behind lt is like
      ]
    ]

-- what is sought of a block on a wire is in the block's list
pub list_like : (width bytes : ℕ) (wire : Wire) (block : ℕ) (sought : Sought) (s : Seen)
    → IsLike bytes wire block sought s → list_at width bytes s ≡ list_of width wire block
list_like width bytes wire block sought s like =
    ap (λ (w : Wire). list_of width w (block_of bytes s)) like.0 ∙ ap (λ (n : ℕ). list_of width wire n) like.1

-- ## Grants

link_same : (x c : ℕ) (channel : Channel) → number_of (Link x channel) ≡ number_of (Link c D) → Link x channel ≡ Link c D
link_same x c A e = absurd (omega arith)
link_same x c B e = absurd (omega arith)
link_same x c C e = absurd (omega arith)
link_same x c D e = ap (λ (n : ℕ). Link n D) (omega arith)
link_same x c E e = absurd (omega arith)

-- a Grant on the wire of this number is on the client's channel D
pub granted_on : (s : Seen) (c : ℕ) → number_of (wire_of s) ≡ number_of (Link c D) → is_grant s ≡ true → wire_of s ≡ Link c D
granted_on (OnLink x block message) c on grants = link_same x c (channel_of message.kind) on
granted_on (OnMemory block message) c on grants = cc
granted_on (Load x address read) c on grants = cc
granted_on (Store x address written) c on grants = cc
