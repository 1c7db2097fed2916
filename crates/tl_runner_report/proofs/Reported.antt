-- The lines of a report.
use Rattle.std.proofs.Common.{◌≡◌, ℕ, zero, suc, ◌<◌, ⊎_elim, true, List, [], ◌∷◌, length, get_or, slice_get, map, replicate, All, Vec, Option, Some, None, refl, sym, ap, ◌∙◌, subst, arith}
use Rattle.std.specs.declared.alloc.Global.{Global}
use Rattle.std.proofs.lemmas.Bool.{false≢true, cases_order}
use Rattle.std.proofs.lemmas.Option.{slice_get_within, get_or_from_slice_get, slice_get-get_or}
use Rattle.std.proofs.lemmas.List.{get_or-replicate, length-replicate}
use Rattle.tl_protocol.specs.declared.event.Access.{Access}
use Rattle.tl_protocol.specs.declared.event.Event.{Event}
use Rattle.tl_script_words.specs.declared.command.Command.{Command}
use Rattle.tl_script_words.specs.declared.command.Command.TheVariants.{Load, Store, Drop}
use Rattle.tl_text.specs.declared.report.Answered.{Answered}
use Rattle.tl_protocol.specs.OneMemory.{access_of}
use Rattle.tl_rules.specs.Certified.{all_accesses, AreApart, KeepIndexes, IsCertified}
use Rattle.tl_rules.specs.Left.{Pairwise}
use Rattle.tl_rules.proofs.Joined.{up_all}
use Rattle.tl_rules.proofs.Loop.{all_of}
use Rattle.tl_rules.proofs.Pairs.{one_by_one}
use Rattle.tl_rules.proofs.Sorting.{both_pairs}
use Rattle.tl_runner_report.specs.Carried.{makes_access, CarriesOut, HasCommand, EachHasCommand, AreAsMany, commands_of}
use Rattle.tl_runner_report.specs.Loops.{AreDistinct, IsAtAccess, bytes_on, commands_on, with_accesses}
use Rattle.tl_runner_report.specs.Conclusion.{ShowsClient, ShowsAll}
use Rattle.tl_runner_report.proofs.Filling.{filled, filled_at, filled_other, rows}

-- ## What is known of matched banks

distinct : (a b : Access) → AreApart a b → KeepIndexes a b → AreDistinct a b
distinct a b apart keep same is =
    let both = keep same in
    ⊎_elim (λ (e : a.stamp ≡ b.stamp). apart e same)
    (⊎_elim (λ (l : a.stamp < b.stamp). let lt : a.index < b.index = both.0 l in absurd (omega arith))
    (λ (l : b.stamp < a.stamp). let lt : b.index < a.index = both.1 l in absurd (omega arith)))
    (cases_order a.stamp b.stamp)

pub all_distinct : (logs : List (List Event)) → IsCertified logs → Pairwise AreDistinct (all_accesses logs)
all_distinct logs certified =
    both_pairs AreApart KeepIndexes AreDistinct distinct (all_accesses logs) (one_by_one AreApart (all_accesses logs) certified.apart)
    (one_by_one KeepIndexes (all_accesses logs) certified.indexes)

carries_access : (c : Command) (e : Event) → CarriesOut c e → makes_access c ≡ true
carries_access (Load address len) e h = refl
carries_access (Store address bytes) e h = refl
carries_access (Drop address) e h = absurd h

at_access : (commands : List (List Command)) (client : ℕ) (e : Event) (a : Access) → access_of e ≡ Some a → HasCommand commands e (access_of e)
    → IsAtAccess (commands_of commands client) client a
at_access commands client e a some has own =
    let there : HasCommand commands e (Some a) = subst (λ (o : Option Access). HasCommand commands e o) some has in (
      there.0,
      subst (λ (k : ℕ). slice_get (commands_of commands k) a.index ≡ Some there.0) own there.1,
      carries_access there.0 e there.2,
    )

pub all_at_access : (commands : List (List Command)) (logs : List (List Event)) → EachHasCommand commands logs → (client : ℕ)
    → All (IsAtAccess (commands_of commands client) client) (all_accesses logs)
all_at_access commands logs each client =
    all_of (IsAtAccess (commands_of commands client) client) logs
    (λ i lt. up_all (IsAtAccess (commands_of commands client) client) (λ e. HasCommand commands e (access_of e))
    (λ e a some has. at_access commands client e a some has) (get_or logs i []) (each i [] lt))

-- ## A client's lines

pub index_within : (commands : List Command) (client : ℕ) (xs : List Access) → All (IsAtAccess commands client) xs
    → All (λ (a : Access). a.client ≡ client → a.index < length commands) xs
index_within commands client xs h =
    λ k d l own. let at = h k d l own in slice_get_within commands (get_or xs k d).index at.0 at.1

one_command : (c x : Command) → Some c ≡ Some x → c ≡ x
one_command c x p = cc

no_drop : (commands : List Command) (client : ℕ) (a : Access) (i address : ℕ) → IsAtAccess commands client a
    → slice_get commands i ≡ Some (Drop address) → a.client ≡ client → a.index ≡ i → ⊥
no_drop commands client a i address at is own same =
    let there = at own in
    let e : there.0 ≡ Drop address = one_command there.0 (Drop address) (sym there.1 ∙ (ap (slice_get commands) same ∙ is)) in
    false≢true (sym (ap makes_access e) ∙ there.2)

pub shows_client : (commands : List Command) (client : ℕ) (logs : List (List Event)) (lines : List Answered)
    → Pairwise AreDistinct (all_accesses logs) → All (IsAtAccess commands client) (all_accesses logs)
    → map (λ (line : Answered). line.command) lines ≡ commands
    → map (λ (line : Answered). line.bytes) lines ≡ filled client (replicate (length commands) []) (all_accesses logs)
    → ShowsClient commands client logs lines
shows_client commands client logs lines apart at same bytes =
    let table : List (List ℕ) = replicate (length commands) [] in
    let long : length table ≡ length commands = length-replicate (length commands) [] in
    let within = index_within commands client (all_accesses logs) at in
    record {
      same = same;
      accesses =
          λ k d l own.
          ap (λ (t : List (List ℕ)). slice_get t (get_or (all_accesses logs) k d).index) bytes
          ∙ filled_at client table (all_accesses logs) apart
          (λ i e m q. subst (λ (n : ℕ). (get_or (all_accesses logs) i e).index < n) (sym long) (within i e m q)) k d l own;
      drops =
          λ i address is.
          let lt : i < length commands = slice_get_within commands i (Drop address) is in
          ap (λ (t : List (List ℕ)). slice_get t i) bytes
          ∙ (filled_other client table (all_accesses logs) i (λ k d l own q. no_drop commands client (get_or (all_accesses logs) k d) i address (at k d l) is own q)
          ∙ (slice_get-get_or table i [] (omega arith) ∙ ap Some (get_or-replicate (length commands) i [] [] lt)));
    }

-- ## The lines of all clients

length_map : {X Y : Type 0} (f : X → Y) (xs : List X) → length (map f xs) ≡ length xs
length_map f [] = refl
length_map f (x ∷ xs) = let rest = length_map f xs in omega arith

mapped_at : {X Y : Type 0} (f : X → Y) (xs : List X) (i : ℕ) (x : X) (d : Y) → slice_get xs i ≡ Some x → get_or (map f xs) i d ≡ f x
mapped_at f [] i x d is = let e : None ≡ Some x = is in absurd (cc)
mapped_at {X} f (y ∷ ys) zero x d is = ap f (let e : y ≡ x = cc in e)
mapped_at f (y ∷ ys) (suc i) x d is = mapped_at f ys i x d is

-- the bytes of lines that were not answered
abbrev pub no_bytes : List (List Command) → List (List (List ℕ))
no_bytes commands = map (λ (list : List Command). replicate (length list) []) commands

no_bytes_at : (commands : List (List Command)) (client : ℕ) → get_or (no_bytes commands) client [] ≡ replicate (length (commands_of commands client)) []
no_bytes_at [] client = refl
no_bytes_at (list ∷ lists) zero = refl
no_bytes_at (list ∷ lists) (suc client) = no_bytes_at lists client

pub shows_all : (commands : List (List Command)) (logs : List (List Event)) (all : List (Vec Answered Global))
    → Pairwise AreDistinct (all_accesses logs) → EachHasCommand commands logs → commands_on all ≡ commands
    → bytes_on all ≡ with_accesses (no_bytes commands) (all_accesses logs) → ShowsAll commands logs all (length commands)
shows_all commands logs all apart each same bytes = record {
  as_many = sym (length_map (λ (lines : Vec Answered Global). map (λ (line : Answered). line.command) lines.items) all)
      ∙ ap (λ (cs : List (List Command)). length cs) same;
  each = λ client lines there.
      shows_client (commands_of commands client) client logs lines.items apart (all_at_access commands logs each client)
      (sym (mapped_at (λ (ls : Vec Answered Global). map (λ (line : Answered). line.command) ls.items) all client lines [] there)
      ∙ ap (λ (cs : List (List Command)). get_or cs client []) same)
      (sym (mapped_at (λ (ls : Vec Answered Global). map (λ (line : Answered). line.bytes) ls.items) all client lines [] there)
      ∙ (ap (λ (bs : List (List (List ℕ))). get_or bs client []) bytes
      ∙ (rows (no_bytes commands) (all_accesses logs) client
      ∙ ap (λ (t : List (List ℕ)). filled client t (all_accesses logs)) (no_bytes_at commands client))));
}

-- ## Elements that were read

pub read_at : {X : Type 0} (xs : List X) (i : ℕ) (x y : X) → x ≡ get_or xs i x → slice_get xs i ≡ Some y → x ≡ y
read_at xs i x y is there = is ∙ get_or_from_slice_get xs i y x there

-- ## The same lists

pub each_moved : (cs ds : List (List Command)) (ls ms : List (List Event)) → cs ≡ ds → ls ≡ ms → EachHasCommand cs ls → EachHasCommand ds ms
each_moved cs ds ls ms p q h =
    subst (λ (c : List (List Command)). EachHasCommand c ms) p (subst (λ (l : List (List Event)). EachHasCommand cs l) q h)

pub many_moved : (cs ds : List (List Command)) (ls ms : List (List Event)) → cs ≡ ds → ls ≡ ms → AreAsMany cs ls → AreAsMany ds ms
many_moved cs ds ls ms p q h =
    subst (λ (c : List (List Command)). AreAsMany c ms) p (subst (λ (l : List (List Event)). AreAsMany cs l) q h)
