-- The accesses of a client, in order, answer its loads and stores, each once.
use Rattle.std.proofs.Common.{◌≡◌, ℕ, zero, suc, ◌+◌, ◌<◌, ◌≤◌, Bool, true, false, cond, ◌==◌, List, [], ◌∷◌, length, get_or, slice_get, map, All, AllPairs, IsPermutation, filter, count_by, Option, Some, None, ◌⊎◌, inl, inr, ⊎_elim, refl, sym, ap, ◌∙◌, subst, arith}
use Rattle.std.specs.List.{AllZip}
use Rattle.std.proofs.lemmas.Bool.{false≢true, eqb-true, cond-true, cond-false, cond_both, cases_Bool}
use Rattle.std.proofs.lemmas.List.Elements.{All-nil, All-cons, All-head, All-tail, All-append, All-filter, filter_passes}
use Rattle.std.proofs.lemmas.List.Sorted.{All-permutation, sum_by-IsPermutation}
use Rattle.std.proofs.lemmas.List.Sums.{sum_by-cons}
use Rattle.tl_protocol.specs.declared.event.Access.{Access}
use Rattle.tl_protocol.specs.declared.event.Event.{Event}
use Rattle.tl_protocol.specs.declared.event.Event.TheVariants.{Load as Loaded, Store as Stored}
use Rattle.tl_script_words.specs.declared.command.Command.{Command}
use Rattle.tl_script_words.specs.declared.command.Command.TheVariants.{Load, Store, Drop}
use Rattle.tl_protocol.specs.OneMemory.{access_of, accesses, is_access}
use Rattle.tl_text.specs.declared.report.Answered.{Answered}
use Rattle.tl_rules.specs.Certified.{accesses_of, all_accesses}
use Rattle.tl_rules.specs.Left.{Pairwise}
use Rattle.tl_rules.specs.Ordered.{joined, IndexRises}
use Rattle.tl_rules.proofs.Joined.{made_joined, accesses_all, down_all, down_pairs}
use Rattle.tl_rules.proofs.Pairs.{one_by_one}
use Rattle.tl_rules.proofs.Sorting.{len_cond, pairs_filter, pairs_with}
use Rattle.tl_runner_report.specs.Carried.{makes_access, CarriesOut, Answers, bytes_in, is_line, is_of_client, is_by, commands_of, HasCommand, EachHasCommand}

-- the index of an access, 0 where there is none
abbrev pub index_in : Option Access → ℕ
index_in None = 0
index_in (Some access) = access.index

-- an event is one of a list's elements, that at its index, counted from i on
pub record HasAt {X : Type 0} (Rel : X → Event → Type 0) (i : ℕ) (cs : List X) (e : Event) : Type 0 where
  pub place : ℕ
  pub one : X
  pub at : index_in (access_of e) ≡ i + place
  pub is : slice_get cs place ≡ Some one
  pub carries : Rel one e

-- its index is below
abbrev pub IndexBelow : Event → Event → Type 0
IndexBelow e g = index_in (access_of e) < index_in (access_of g)

same_one : {X : Type 0} (c x : X) → Some c ≡ Some x → c ≡ x
same_one c x p = cc

-- those behind the first have greater indexes
past_first : (i : ℕ) (e : Event) (es : List Event) → i ≤ index_in (access_of e) → All (IndexBelow e) es → All (λ g. i < index_in (access_of g)) es
past_first i e es le h = λ k d l. let lt : index_in (access_of e) < index_in (access_of (get_or es k d)) = h k d l in omega arith

module _ {X : Type 0} (test : X → Bool) (Rel : X → Event → Type 0) (sound : (x : X) (e : Event) → Rel x e → test x ≡ true) where
  shift_at : (i : ℕ) (c : X) (cs : List X) (e : Event) (place : ℕ) (one : X) → index_in (access_of e) ≡ i + place
      → slice_get (c ∷ cs) place ≡ Some one → Rel one e → i < index_in (access_of e) → HasAt Rel (i + 1) cs e
  shift_at i c cs e zero one at is carries lt = absurd (omega arith)
  shift_at i c cs e (suc place) one at is carries lt =
      record { place = place; one = one; at = omega arith; is = is; carries = carries }

  -- of a later one
  shift : (i : ℕ) (c : X) (cs : List X) (e : Event) → HasAt Rel i (c ∷ cs) e → i < index_in (access_of e) → HasAt Rel (i + 1) cs e
  shift i c cs e h lt = shift_at i c cs e h.place h.one h.at h.is h.carries lt

  shift_all : (i : ℕ) (c : X) (cs : List X) (es : List Event) → All (HasAt Rel i (c ∷ cs)) es
      → All (λ e. i < index_in (access_of e)) es → All (HasAt Rel (i + 1) cs) es
  shift_all i c cs es h lt = λ k d l. shift i c cs (get_or es k d) (h k d l) (lt k d l)

  none_there : (i : ℕ) (e : Event) → HasAt Rel i [] e → ⊥
  none_there i e h = let n : None ≡ Some h.one = h.is in cc

  case_at : (i : ℕ) (c : X) (cs : List X) (e : Event) (place : ℕ) (one : X) → index_in (access_of e) ≡ i + place
      → slice_get (c ∷ cs) place ≡ Some one → Rel one e → (Rel c e × (index_in (access_of e) ≡ i)) ⊎ (i < index_in (access_of e))
  case_at i c cs e zero one at is carries = inl (subst (λ (x : X). Rel x e) (sym (same_one c one is)) carries, omega arith)
  case_at i c cs e (suc place) one at is carries = inr (omega arith)

  -- what the first event has
  first_case : (i : ℕ) (c : X) (cs : List X) (e : Event) → HasAt Rel i (c ∷ cs) e
      → (Rel c e × (index_in (access_of e) ≡ i)) ⊎ (i < index_in (access_of e))
  first_case i c cs e h = case_at i c cs e h.place h.one h.at h.is h.carries

  count_first : (c : X) (cs : List X) → count_by test (c ∷ cs) ≡ cond (test c) 1 0 + count_by test cs
  count_first c cs = sum_by-cons (λ (x : X). cond (test x) 1 0) c cs

  -- there are no more events than elements that pass
  bound : (cs : List X) (i : ℕ) (es : List Event) → Pairwise IndexBelow es → All (HasAt Rel i cs) es → length es ≤ count_by test cs
  bound [] i [] p h = omega arith
  bound [] i (e ∷ es) p h = absurd (none_there i e (All-head (HasAt Rel i []) e es h))
  bound (c ∷ cs) i [] p h = omega arith
  bound (c ∷ cs) i (e ∷ es) p h =
      let own : HasAt Rel i (c ∷ cs) e = All-head (HasAt Rel i (c ∷ cs)) e es h in
      let le : i ≤ index_in (access_of e) = (let at = own.at in omega arith) in
      let tail = All-tail (HasAt Rel i (c ∷ cs)) e es h in
      let count = count_first c cs in
      ⊎_elim
      (λ (here : Rel c e × (index_in (access_of e) ≡ i)).
      let one : cond {A = ℕ} (test c) 1 0 ≡ 1 = ap (λ (t : Bool). cond {A = ℕ} t 1 0) (sound c e here.0) in
      let rest = bound cs (i + 1) es p.1 (shift_all i c cs es tail (past_first i e es le p.0)) in
      omega arith)
      (λ (past : i < index_in (access_of e)).
      let rest = bound cs (i + 1) (e ∷ es) p
      (All-cons (HasAt Rel (i + 1) cs) e es (shift i c cs e own past) (shift_all i c cs es tail (past_first i e es le p.0))) in
      omega arith)
      (first_case i c cs e own)

  -- one that passes, and those behind it
  exact_more : (c : X) (cs : List X) (i : ℕ) (es : List Event) → test c ≡ true
      → ((es : List Event) → Pairwise IndexBelow es → All (HasAt Rel (i + 1) cs) es → length es ≡ count_by test cs
      → AllZip Rel (filter test cs) es)
      → Pairwise IndexBelow es → All (HasAt Rel i (c ∷ cs)) es → length es ≡ count_by test (c ∷ cs)
      → AllZip Rel (c ∷ filter test cs) es
  exact_more c cs i [] is rec p h same =
      let count = count_first c cs in let one : cond {A = ℕ} (test c) 1 0 ≡ 1 = ap (λ (t : Bool). cond {A = ℕ} t 1 0) is in absurd (omega arith)
  exact_more c cs i (e ∷ es) is rec p h same =
      let own : HasAt Rel i (c ∷ cs) e = All-head (HasAt Rel i (c ∷ cs)) e es h in
      let le : i ≤ index_in (access_of e) = (let at = own.at in omega arith) in
      let tail = All-tail (HasAt Rel i (c ∷ cs)) e es h in
      let count = count_first c cs in
      let one : cond {A = ℕ} (test c) 1 0 ≡ 1 = ap (λ (t : Bool). cond {A = ℕ} t 1 0) is in
      let more = shift_all i c cs es tail (past_first i e es le p.0) in
      ⊎_elim
      (λ (here : Rel c e × (index_in (access_of e) ≡ i)). (here.0, rec es p.1 more (omega arith)))
      (λ (past : i < index_in (access_of e)).
      let most = bound cs (i + 1) (e ∷ es) p (All-cons (HasAt Rel (i + 1) cs) e es (shift i c cs e own past) more) in
      absurd (omega arith))
      (first_case i c cs e own)

  -- one that does not
  exact_less : (c : X) (cs : List X) (i : ℕ) (es : List Event) → test c ≡ false
      → ((es : List Event) → Pairwise IndexBelow es → All (HasAt Rel (i + 1) cs) es → length es ≡ count_by test cs
      → AllZip Rel (filter test cs) es)
      → Pairwise IndexBelow es → All (HasAt Rel i (c ∷ cs)) es → length es ≡ count_by test (c ∷ cs)
      → AllZip Rel (filter test cs) es
  exact_less c cs i [] is rec p h same =
      let count = count_first c cs in
      let none : cond {A = ℕ} (test c) 1 0 ≡ 0 = ap (λ (t : Bool). cond {A = ℕ} t 1 0) is in
      rec [] tt (All-nil (HasAt Rel (i + 1) cs)) (omega arith)
  exact_less c cs i (e ∷ es) is rec p h same =
      let own : HasAt Rel i (c ∷ cs) e = All-head (HasAt Rel i (c ∷ cs)) e es h in
      let le : i ≤ index_in (access_of e) = (let at = own.at in omega arith) in
      let past : i < index_in (access_of e) =
      ⊎_elim (λ (here : Rel c e × (index_in (access_of e) ≡ i)). absurd (false≢true (sym is ∙ sound c e here.0))) (λ (l : i < index_in (access_of e)). l)
      (first_case i c cs e own) in
      let tail = All-tail (HasAt Rel i (c ∷ cs)) e es h in
      let count = count_first c cs in
      let none : cond {A = ℕ} (test c) 1 0 ≡ 0 = ap (λ (t : Bool). cond {A = ℕ} t 1 0) is in
      rec (e ∷ es) p
      (All-cons (HasAt Rel (i + 1) cs) e es (shift i c cs e own past) (shift_all i c cs es tail (past_first i e es le p.0)))
      (omega arith)

  -- where there are as many, they are those, in order
  pub exact : (cs : List X) (i : ℕ) (es : List Event) → Pairwise IndexBelow es → All (HasAt Rel i cs) es
      → length es ≡ count_by test cs → AllZip Rel (filter test cs) es
  exact [] i [] p h same = tt
  exact [] i (e ∷ es) p h same = absurd (none_there i e (All-head (HasAt Rel i []) e es h))
  exact (c ∷ cs) i es p h same =
      ⊎_elim
      (λ (is : test c ≡ true).
      subst (λ (zs : List X). AllZip Rel zs es) (sym (cond-true (test c) (c ∷ filter test cs) (filter test cs) is))
      (exact_more c cs i es is (exact cs (i + 1)) p h same))
      (λ (is : test c ≡ false).
      subst (λ (zs : List X). AllZip Rel zs es) (sym (cond-false (test c) (c ∷ filter test cs) (filter test cs) is))
      (exact_less c cs i es is (exact cs (i + 1)) p h same))
      (cases_Bool (test c))

-- ## A client's accesses among those in order

by_access : (client : ℕ) (o : Option Access) → is_of_client client o ≡ true → (a : Access) × (o ≡ Some a) × (a.client ≡ client)
by_access client None h = absurd (false≢true h)
by_access client (Some a) h = (a, refl, eqb-true a.client client h)

count_events : (client : ℕ) (es : List Event) → count_by (is_by client) (accesses es) ≡ count_by (λ (a : Access). a.client == client) (accesses_of es)
count_events client [] = refl
count_events client (Loaded a ∷ es) =
    sum_by-cons (λ (e : Event). cond {A = ℕ} (is_by client e) 1 0) (Loaded a) (accesses es)
    ∙ (ap (λ (k : ℕ). cond {A = ℕ} (a.client == client) 1 0 + k) (count_events client es)
    ∙ sym (sum_by-cons (λ (x : Access). cond {A = ℕ} (x.client == client) 1 0) a (accesses_of es)))
count_events client (Stored a ∷ es) =
    sum_by-cons (λ (e : Event). cond {A = ℕ} (is_by client e) 1 0) (Stored a) (accesses es)
    ∙ (ap (λ (k : ℕ). cond {A = ℕ} (a.client == client) 1 0 + k) (count_events client es)
    ∙ sym (sum_by-cons (λ (x : Access). cond {A = ℕ} (x.client == client) 1 0) a (accesses_of es)))
count_events client (e ∷ es) = count_events client es

-- how many pass a test
length_passing : (q : Event → Bool) (es : List Event) → length (filter q es) ≡ count_by q es
length_passing q [] = refl
length_passing q (e ∷ es) =
    len_cond (q e) e (filter q es)
    ∙ (ap (λ (k : ℕ). cond {A = ℕ} (q e) 1 0 + k) (length_passing q es) ∙ sym (sum_by-cons (λ (x : Event). cond {A = ℕ} (q x) 1 0) e es))

-- loads and stores are all that they are
all_access : (es : List Event) → All (λ e. is_access e ≡ true) (accesses es)
all_access [] = All-nil (λ e. is_access e ≡ true)
all_access (e ∷ es) =
    cond_both (is_access e) (e ∷ accesses es) (accesses es) (All (λ x. is_access x ≡ true))
    (λ is. All-cons (λ x. is_access x ≡ true) e (accesses es) is (all_access es)) (λ _. all_access es)

keep_access : (es : List Event) → All (λ e. is_access e ≡ true) es → accesses es ≡ es
keep_access [] h = refl
keep_access (e ∷ es) h =
    cond-true (is_access e) (e ∷ accesses es) (accesses es) (All-head (λ x. is_access x ≡ true) e es h)
    ∙ ap (λ (xs : List Event). e ∷ xs) (keep_access es (All-tail (λ x. is_access x ≡ true) e es h))

pub all_joined : (P : Event → Type 0) (logs : List (List Event)) → All (λ log. All P log) logs → All P (joined logs)
all_joined P [] h = All-nil P
all_joined P (log ∷ logs) h =
    All-append P log (joined logs) (All-head (λ log. All P log) log logs h) (all_joined P logs (All-tail (λ log. All P log) log logs h))

-- of the accesses that two events are
abbrev Rise : Event → Event → Type 0
Rise e g = (a b : Access) → access_of e ≡ Some a → access_of g ≡ Some b → IndexRises a b

one_access : (o : Option Access) (a b : Access) → o ≡ Some a → o ≡ Some b → a ≡ b
one_access o a b p q = let e : Some a ≡ Some b = sym p ∙ q in cc

rise_at : (e g : Event) (a b : Access) → access_of e ≡ Some a → access_of g ≡ Some b → IndexRises a b → Rise e g
rise_at e g a b is there h x y p q =
    subst (λ (u : Access). IndexRises u y) (one_access (access_of e) a x is p)
    (subst (λ (v : Access). IndexRises a v) (one_access (access_of g) b y there q) h)

index_below : (client : ℕ) (e g : Event) → is_by client e ≡ true → is_by client g ≡ true → Rise e g → IndexBelow e g
index_below client e g p q rise =
    let a = by_access client (access_of e) p in
    let b = by_access client (access_of g) q in
    let lt : (a.0).index < (b.0).index = rise a.0 b.0 a.1 b.1 (a.2 ∙ sym b.2) in
    let here = ap index_in a.1 in
    let there = ap index_in b.1 in
    omega arith

-- ## A client's lines

carries_access : (c : Command) (e : Event) → CarriesOut c e → makes_access c ≡ true
carries_access (Load address len) e h = refl
carries_access (Store address bytes) e h = refl
carries_access (Drop address) e h = absurd h

answers_access : (line : Answered) (e : Event) → Answers line e → is_line line ≡ true
answers_access line e h = carries_access line.command e h.0

count_lines : (lines : List Answered) → count_by is_line lines ≡ count_by makes_access (map (λ (line : Answered). line.command) lines)
count_lines [] = refl
count_lines (line ∷ lines) =
    sum_by-cons (λ (l : Answered). cond {A = ℕ} (is_line l) 1 0) line lines
    ∙ (ap (λ (k : ℕ). cond {A = ℕ} (makes_access line.command) 1 0 + k) (count_lines lines)
    ∙ sym (sum_by-cons (λ (c : Command). cond {A = ℕ} (makes_access c) 1 0) line.command (map (λ (l : Answered). l.command) lines)))

-- the line with a command and with bytes
record LineAt (lines : List Answered) (i : ℕ) (command : Command) (bytes : List ℕ) : Type 0 where
  line : Answered
  is : slice_get lines i ≡ Some line
  same : line.command ≡ command
  got : line.bytes ≡ bytes

line_at : (lines : List Answered) (i : ℕ) (command : Command) (bytes : List ℕ) → slice_get (map (λ (l : Answered). l.command) lines) i ≡ Some command
    → slice_get (map (λ (l : Answered). l.bytes) lines) i ≡ Some bytes → LineAt lines i command bytes
line_at [] i command bytes p q = let n : None ≡ Some command = p in absurd (cc)
line_at (l ∷ ls) zero command bytes p q =
    record { line = l; is = refl; same = same_one l.command command p; got = same_one l.bytes bytes q }
line_at (l ∷ ls) (suc i) command bytes p q =
    let rest : LineAt ls i command bytes = line_at ls i command bytes p q in
    record { line = rest.line; is = rest.is; same = rest.same; got = rest.got }

-- what is shown of an access of the client
abbrev pub IsShown : ℕ → List Answered → Access → Type 0
IsShown client lines a = a.client ≡ client → slice_get (map (λ (l : Answered). l.bytes) lines) a.index ≡ Some a.bytes

-- of an event
abbrev IsEventShown : ℕ → List Answered → Event → Type 0
IsEventShown client lines e = (a : Access) → access_of e ≡ Some a → IsShown client lines a

event_shown : (client : ℕ) (lines : List Answered) (e : Event) (a : Access) → access_of e ≡ Some a → IsShown client lines a → IsEventShown client lines e
event_shown client lines e a is h b there = subst (IsShown client lines) (one_access (access_of e) a b is there) h

-- an event of the client, with the line at its index
by_client : (commands : List (List Command)) (client : ℕ) (lines : List Answered) → map (λ (l : Answered). l.command) lines ≡ commands_of commands client
    → (e : Event) → is_by client e ≡ true → HasCommand commands e (access_of e) → IsEventShown client lines e → HasAt Answers 0 lines e
by_client commands client lines same e is has shown =
    let found = by_access client (access_of e) is in
    let a : Access = found.0 in
    let there : HasCommand commands e (Some a) = subst (λ (o : Option Access). HasCommand commands e o) found.1 has in
    let command : slice_get (commands_of commands client) a.index ≡ Some there.0 =
    subst (λ (c : ℕ). slice_get (commands_of commands c) a.index ≡ Some there.0) found.2 there.1 in
    let at : LineAt lines a.index there.0 a.bytes =
    line_at lines a.index there.0 a.bytes (ap (λ (cs : List Command). slice_get cs a.index) same ∙ command) (shown a found.1 found.2) in
    record {
      place = a.index;
      one = at.line;
      at = ap index_in found.1 ∙ (let zeroed : a.index ≡ 0 + a.index = omega arith in zeroed);
      is = at.is;
      carries = (
        subst (λ (c : Command). CarriesOut c e) (sym at.same) there.2,
        at.got ∙ sym (ap bytes_in found.1),
      );
    }

-- the accesses of a client in order are answered by its lines
pub answered : (commands : List (List Command)) (logs : List (List Event)) (order : List Event) → IsPermutation (accesses (joined logs)) order
    → AllPairs IndexRises (accesses_of order) → EachHasCommand commands logs → (client : ℕ)
    → count_by (λ (a : Access). a.client == client) (all_accesses logs) ≡ count_by makes_access (commands_of commands client)
    → (lines : List Answered) → map (λ (l : Answered). l.command) lines ≡ commands_of commands client
    → All (IsShown client lines) (all_accesses logs)
    → AllZip Answers (filter is_line lines) (filter (is_by client) order)
answered commands logs order moved rises each client as_many lines same shown =
    let list = accesses (joined logs) in
    let own = filter (is_by client) order in
    let Has : Event → Type 0 = λ (e : Event). HasCommand commands e (access_of e) in
    let has : All Has own =
    All-filter (is_by client) Has order (All-permutation Has list order moved (accesses_all Has (joined logs) (all_joined Has logs each))) in
    let seen : All (IsEventShown client lines) own =
    All-filter (is_by client) (IsEventShown client lines) order
    (All-permutation (IsEventShown client lines) list order moved
    (down_all (IsShown client lines) (IsEventShown client lines) (event_shown client lines) (joined logs)
    (subst (λ (xs : List Access). All (IsShown client lines) xs) (sym (made_joined logs)) shown))) in
    let by : All (λ e. is_by client e ≡ true) own = filter_passes (is_by client) order in
    let plain : accesses order ≡ order = keep_access order (All-permutation (λ e. is_access e ≡ true) list order moved (all_access (joined logs))) in
    let rise : Pairwise Rise order =
    subst (Pairwise Rise) plain (down_pairs IndexRises Rise rise_at order (one_by_one IndexRises (accesses_of order) rises)) in
    let rising : Pairwise IndexBelow own =
    pairs_with (λ e. is_by client e ≡ true) Rise IndexBelow (index_below client) own by (pairs_filter Rise (is_by client) order rise) in
    let long : length own ≡ count_by is_line lines =
    length_passing (is_by client) order
    ∙ (sum_by-IsPermutation (λ (e : Event). cond {A = ℕ} (is_by client e) 1 0) list order moved
    ∙ (count_events client (joined logs)
    ∙ (ap (λ (xs : List Access). count_by (λ (a : Access). a.client == client) xs) (made_joined logs)
    ∙ (as_many ∙ (ap (λ (cs : List Command). count_by makes_access cs) (sym same) ∙ sym (count_lines lines)))))) in
    exact is_line Answers answers_access lines 0 own rising
    (λ k d l. by_client commands client lines same (get_or own k d) (by k d l) (has k d l) (seen k d l)) long

-- a client that has no commands has no accesses
no_access : (commands : List (List Command)) (client : ℕ) → commands_of commands client ≡ [] → (e : Event) → is_by client e ≡ true
    → HasCommand commands e (access_of e) → ⊥
no_access commands client none e is has =
    let found = by_access client (access_of e) is in
    let a : Access = found.0 in
    let there : HasCommand commands e (Some a) = subst (λ (o : Option Access). HasCommand commands e o) found.1 has in
    let command : slice_get (commands_of commands client) a.index ≡ Some there.0 =
    subst (λ (c : ℕ). slice_get (commands_of commands c) a.index ≡ Some there.0) found.2 there.1 in
    let n : None ≡ Some there.0 = ap (λ (cs : List Command). slice_get cs a.index) (sym none) ∙ command in
    cc

nobody : (P : Event → Type 0) (es : List Event) → All P es → ((e : Event) → P e → ⊥) → es ≡ []
nobody P [] h never = refl
nobody P (e ∷ es) h never = absurd (never e (All-head P e es h))

pub none_beyond : (commands : List (List Command)) (logs : List (List Event)) (order : List Event) → IsPermutation (accesses (joined logs)) order
    → EachHasCommand commands logs → (client : ℕ) → commands_of commands client ≡ [] → filter (is_by client) order ≡ []
none_beyond commands logs order moved each client none =
    let list = accesses (joined logs) in
    let own = filter (is_by client) order in
    let Has : Event → Type 0 = λ (e : Event). HasCommand commands e (access_of e) in
    let has : All Has own =
    All-filter (is_by client) Has order (All-permutation Has list order moved (accesses_all Has (joined logs) (all_joined Has logs each))) in
    let by : All (λ e. is_by client e ≡ true) own = filter_passes (is_by client) order in
    nobody (λ e. (is_by client e ≡ true) × HasCommand commands e (access_of e)) own (λ k d l. (by k d l, has k d l))
    (λ e h. no_access commands client none e h.0 h.1)
