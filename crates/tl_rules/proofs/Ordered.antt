-- The accesses of certified runs, in order, are one memory's.
use Rattle.std.proofs.Common.{◌≡◌, ℕ, ◌<◌, ◌≤◌, ◌⊎◌, inl, inr, ⊎_elim, Bool, true, false, ◌==◌, ◌&&◌, ◌||◌, nat_lt, List, [], length, AllPairs, Option, Some, None, sym, ap, ◌∙◌, subst, arith}
use Rattle.std.proofs.lemmas.Bool.{false≢true, or_cases, and_parts, and_from, or_left, or_right, ltb-true, eqb-true, lt-ltb, eq-eqb, cases_order, cases_lt}
use Rattle.std.proofs.lemmas.List.{get_or_past}
use Rattle.std.proofs.lemmas.List.Elements.{All-get_or}
use Rattle.tl_protocol.specs.declared.event.Access.{Access}
use Rattle.tl_protocol.specs.declared.event.Event.{Event}
use Rattle.tl_protocol.specs.declared.shape.Shape.{Shape}
use Rattle.tl_protocol.specs.OneMemory.{accesses, EveryMergeIsOneMemory, access_of}
use Rattle.tl_protocol.specs.Runs.{IsRun}
use Rattle.tl_protocol.specs.Merges.{on_bank}
use Rattle.tl_rules.specs.Certified.{accesses_of, all_accesses, IsEarlier, AreApart, KeepIndexes, IsCertified}
use Rattle.tl_rules.specs.Left.{Pairwise}
use Rattle.tl_rules.specs.Ordered.{log_at, joined, ComesBefore, IndexRises, AreRuns, EveryCertifiedHasOneOrder, EveryCertifiedOrderIsOneMemory}
use Rattle.tl_rules.proofs.Joined.{down_pairs, up_pairs, made_joined, is_of, bank_is_filter, of_bank}
use Rattle.tl_rules.proofs.Pairs.{by_place, one_by_one}
use Rattle.tl_rules.proofs.Sorting.{permuted, sort, pairs_sort, both_pairs, sorted, sort_same, filter_sort}

-- ## The order

abbrev pub first_of : Access → Access → Bool
first_of a b = nat_lt a.stamp b.stamp || ((a.stamp == b.stamp) && nat_lt a.client b.client)

is_first : (a b : Access) → first_of a b ≡ true → ComesBefore a b
is_first a b h =
    ⊎_elim (λ (l : nat_lt a.stamp b.stamp ≡ true). inl (ltb-true a.stamp b.stamp l))
    (λ (r : ((a.stamp == b.stamp) && nat_lt a.client b.client) ≡ true).
    let both = and_parts (a.stamp == b.stamp) (nat_lt a.client b.client) r in
    inr (eqb-true a.stamp b.stamp both.0, ltb-true a.client b.client both.1))
    (or_cases (nat_lt a.stamp b.stamp) ((a.stamp == b.stamp) && nat_lt a.client b.client) h)

first_is : (a b : Access) → ComesBefore a b → first_of a b ≡ true
first_is a b h =
    ⊎_elim (λ (l : a.stamp < b.stamp). or_left (nat_lt a.stamp b.stamp) ((a.stamp == b.stamp) && nat_lt a.client b.client) (lt-ltb a.stamp b.stamp l))
    (λ (r : (a.stamp ≡ b.stamp) × (a.client < b.client)).
    or_right (nat_lt a.stamp b.stamp) ((a.stamp == b.stamp) && nat_lt a.client b.client)
    (and_from (a.stamp == b.stamp) (nat_lt a.client b.client) (eq-eqb a.stamp b.stamp r.0) (lt-ltb a.client b.client r.1)))
    h

before_both : (a b c : Access) → ComesBefore a b → ComesBefore b c → ComesBefore a c
before_both a b c (inl p) (inl q) = inl (omega arith)
before_both a b c (inl p) (inr q) = inl (omega arith)
before_both a b c (inr p) (inl q) = inl (omega arith)
before_both a b c (inr p) (inr q) = inr (omega arith, omega arith)

before_either : (a b : Access) → AreApart a b → ComesBefore a b ⊎ ComesBefore b a
before_either a b apart =
    ⊎_elim (λ (same : a.stamp ≡ b.stamp).
    ⊎_elim (λ (e : a.client ≡ b.client). absurd (apart same e))
    (⊎_elim (λ (l : a.client < b.client). inl (inr (same, l))) (λ (l : b.client < a.client). inr (inr (sym same, l))))
    (cases_order a.client b.client))
    (⊎_elim (λ (l : a.stamp < b.stamp). inl (inl l)) (λ (l : b.stamp < a.stamp). inr (inl l)))
    (cases_order a.stamp b.stamp)

-- of events
abbrev pub goes : Option Access → Option Access → Bool
goes None b = false
goes (Some a) None = false
goes (Some a) (Some b) = first_of a b

abbrev pub test : Event → Event → Bool
test e g = goes (access_of e) (access_of g)

abbrev pub Lt : Event → Event → Type 0
Lt e g = test e g ≡ true

goes_both : (a b c : Option Access) → goes a b ≡ true → goes b c ≡ true → goes a c ≡ true
goes_both None b c p q = p
goes_both (Some a) None c p q = absurd (false≢true p)
goes_both (Some a) (Some b) None p q = q
goes_both (Some a) (Some b) (Some c) p q = first_is a c (before_both a b c (is_first a b p) (is_first b c q))

pub same_true : (e g : Event) → test e g ≡ true → Lt e g
same_true e g h = h

pub lt_both : (e g h : Event) → Lt e g → Lt g h → Lt e h
lt_both e g h p q = goes_both (access_of e) (access_of g) (access_of h) p q

goes_at : (o p : Option Access) (a b : Access) → o ≡ Some a → p ≡ Some b → ComesBefore a b → goes o p ≡ true
goes_at o p a b is there h =
    subst (λ (x : Option Access). goes x p ≡ true) (sym is) (subst (λ (y : Option Access). goes (Some a) y ≡ true) (sym there) (first_is a b h))

at_goes : (o p : Option Access) (a b : Access) → o ≡ Some a → p ≡ Some b → goes o p ≡ true → ComesBefore a b
at_goes o p a b is there h =
    is_first a b (subst (λ (y : Option Access). goes (Some a) y ≡ true) there (subst (λ (x : Option Access). goes x p ≡ true) is h))

decided : (e g : Event) (a b : Access) → access_of e ≡ Some a → access_of g ≡ Some b → AreApart a b → test e g ≡ false → Lt g e
decided e g a b is there apart no_test =
    ⊎_elim (λ (p : ComesBefore a b). absurd (false≢true (sym no_test ∙ goes_at (access_of e) (access_of g) a b is there p)))
    (λ (p : ComesBefore b a). goes_at (access_of g) (access_of e) b a there is p)
    (before_either a b apart)

-- ## Each client's indexes

-- of the accesses that two events are
abbrev pub Keep : Event → Event → Type 0
Keep e g = (a b : Access) → access_of e ≡ Some a → access_of g ≡ Some b → KeepIndexes a b

keep_sym : (e g : Event) → Keep e g → Keep g e
keep_sym e g h a b is there same = let both = h b a there is (sym same) in (both.1, both.0)

one_access : (o : Option Access) (a b : Access) → o ≡ Some a → o ≡ Some b → a ≡ b
one_access o a b p q = let e : Some a ≡ Some b = sym p ∙ q in cc

keep_at : (e g : Event) (a b : Access) → access_of e ≡ Some a → access_of g ≡ Some b → KeepIndexes a b → Keep e g
keep_at e g a b is there h x y p q =
    subst (λ (u : Access). KeepIndexes u y) (one_access (access_of e) a x is p)
    (subst (λ (v : Access). KeepIndexes a v) (one_access (access_of g) b y there q) h)

rises : (a b : Access) → ComesBefore a b → KeepIndexes a b → IndexRises a b
rises a b (inl p) keep same = (keep same).0 p
rises a b (inr p) keep same = let l : a.client < b.client = p.1 in absurd (omega arith)

-- ## All together

module _ (shape : Shape) (image : List ℕ) (bank_of : ℕ → ℕ) (logs : List (List Event)) (certified : IsCertified logs)
    (runs : AreRuns shape image bank_of logs) where
  -- the accesses in order
  abbrev pub all : List Event
  all = accesses (joined logs)

  abbrev pub ordered : List Event
  ordered = sort test all

  pub all_decided : Pairwise (λ e g. test e g ≡ false → Lt g e) all
  all_decided =
      down_pairs AreApart (λ e g. test e g ≡ false → Lt g e) decided (joined logs)
      (subst (Pairwise AreApart) (sym (made_joined logs)) (one_by_one AreApart (all_accesses logs) certified.apart))

  pub all_sorted : Pairwise Lt ordered
  all_sorted = sorted test Lt same_true same_true lt_both all all_decided

  pub is_rising : Pairwise ComesBefore (accesses_of ordered)
  is_rising = up_pairs ComesBefore Lt (λ e g a b is there h. at_goes (access_of e) (access_of g) a b is there h) ordered all_sorted

  all_kept : Pairwise KeepIndexes (accesses_of ordered)
  all_kept =
      up_pairs KeepIndexes Keep (λ e g a b is there h. h a b is there) ordered
      (pairs_sort Keep keep_sym test all
      (down_pairs KeepIndexes Keep keep_at (joined logs) (subst (Pairwise KeepIndexes) (sym (made_joined logs)) (one_by_one KeepIndexes (all_accesses logs) certified.indexes))))

  -- of the accesses that two events are
  abbrev pub Rise : Event → Event → Type 0
  Rise e g = (a b : Access) → access_of e ≡ Some a → access_of g ≡ Some b → IndexRises a b

  pub events_rise : Pairwise Rise ordered
  events_rise =
      both_pairs Lt Keep Rise
      (λ e g lt keep a b is there. rises a b (at_goes (access_of e) (access_of g) a b is there lt) (keep a b is there)) ordered all_sorted
      (pairs_sort Keep keep_sym test all
      (down_pairs KeepIndexes Keep keep_at (joined logs) (subst (Pairwise KeepIndexes) (sym (made_joined logs)) (one_by_one KeepIndexes (all_accesses logs) certified.indexes))))

  pub index_rises : Pairwise IndexRises (accesses_of ordered)
  index_rises = both_pairs ComesBefore KeepIndexes IndexRises rises (accesses_of ordered) is_rising all_kept

  none_at : (bank : ℕ) → length logs ≤ bank → log_at logs bank ≡ []
  none_at bank le = get_or_past logs bank [] le

  log_sorted : (bank : ℕ) → Pairwise Lt (accesses (log_at logs bank))
  log_sorted bank =
      ⊎_elim (λ (lt : bank < length logs).
      down_pairs IsEarlier Lt (λ e g a b is there l. goes_at (access_of e) (access_of g) a b is there (inl l)) (log_at logs bank)
      (one_by_one IsEarlier (accesses_of (log_at logs bank))
      (All-get_or (λ (log : List Event). AllPairs IsEarlier (accesses_of log)) logs bank [] lt certified.rising)))
      (λ (le : length logs ≤ bank). subst (λ (log : List Event). Pairwise Lt (accesses log)) (sym (none_at bank le)) tt)
      (cases_lt bank (length logs))

  pub each_bank : (bank : ℕ) → on_bank shape bank_of bank ordered ≡ accesses (log_at logs bank)
  each_bank bank =
      bank_is_filter shape bank_of bank ordered
      ∙ (filter_sort test Lt same_true same_true lt_both (is_of shape bank_of bank) all all_decided
      ∙ (ap (sort test) (of_bank shape bank_of logs 0 bank bank (λ i lt k d l. (runs i lt).1 k d l ∙ omega arith) (omega arith))
      ∙ sort_same test Lt same_true same_true lt_both (accesses (log_at logs bank)) (log_sorted bank)))

  pub each_run : (bank : ℕ) → IsRun shape image (log_at logs bank)
  each_run bank =
      ⊎_elim (λ (lt : bank < length logs). (runs bank lt).0)
      (λ (le : length logs ≤ bank). subst (λ (log : List Event). IsRun shape image log) (sym (none_at bank le)) tt)
      (cases_lt bank (length logs))

-- one memory
pub every_certified_order_is_one_memory : EveryMergeIsOneMemory → EveryCertifiedOrderIsOneMemory
every_certified_order_is_one_memory merges shape image bank_of logs certified runs = (
  ordered shape image bank_of logs certified runs,
  record {
    all = permuted test (accesses (joined logs));
    rising = by_place ComesBefore (accesses_of (ordered shape image bank_of logs certified runs)) (is_rising shape image bank_of logs certified runs);
    merge = each_bank shape image bank_of logs certified runs;
  },
  by_place IndexRises (accesses_of (ordered shape image bank_of logs certified runs)) (index_rises shape image bank_of logs certified runs),
  merges shape image bank_of (log_at logs) (ordered shape image bank_of logs certified runs)
      (each_run shape image bank_of logs certified runs) (each_bank shape image bank_of logs certified runs),
)

-- ## Of logs alone

keeps_sym : (a b : Access) → KeepIndexes a b → KeepIndexes b a
keeps_sym a b h same = let both = h (sym same) in (both.1, both.0)

undecided : (a b : Access) → AreApart a b → first_of a b ≡ false → ComesBefore b a
undecided a b apart past =
    ⊎_elim (λ (p : ComesBefore a b). absurd (false≢true (sym past ∙ first_is a b p))) (λ (p : ComesBefore b a). p) (before_either a b apart)

-- the accesses of certified logs, put in order
pub every_certified_has_one_order : EveryCertifiedHasOneOrder
every_certified_has_one_order logs certified =
    let all = all_accesses logs in
    let apart = one_by_one AreApart all certified.apart in
    let rising : Pairwise ComesBefore (sort first_of all) =
    sorted first_of ComesBefore is_first first_is before_both all
    (both_pairs AreApart AreApart (λ a b. first_of a b ≡ false → ComesBefore b a) (λ a b h _. undecided a b h) all apart apart) in
    let keep = pairs_sort KeepIndexes keeps_sym first_of all (one_by_one KeepIndexes all certified.indexes) in (
      sort first_of all,
      record {
        all = permuted first_of all;
        rising = by_place ComesBefore (sort first_of all) rising;
        indexes = by_place IndexRises (sort first_of all) (both_pairs ComesBefore KeepIndexes IndexRises rises (sort first_of all) rising keep);
      },
    )
