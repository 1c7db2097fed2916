-- The subcommand that a parse met, and what it says of the words.
use Rattle.std.proofs.Common.{◌≡◌, ◌⊎◌, Result, Ok, Err, List, [], ◌∷◌, Bool, true, codes, Option, Some, None, option_map, Bor, Box, Global, IfOk, string_bytes, subst, refl, sym, ap, ap₂, ◌∙◌, inl, inr}
use Rattle.clap.specs.Words.{App, IsAmong, Kinds, Row, Text, fault_of, first_of, first_value, is_simple, is_simple_and_free, rows_of, subcommand_of, subcommand_rows, subcommand_rows_of, subcommand_name_of}
use Rattle.clap.specs.declared.parser.matches.ArgMatches.{ArgMatches}
use Rattle.clap.specs.declared.parser.matches.ArgMatches.TheViews.{out-ArgMatches, out-SubCommand}
use Rattle.clap.specs.declared.parser.matches.Found.{Found}
use Rattle.clap.specs.declared.parser.matches.SubCommand.{SubCommand}
use Rattle.clap.specs.declared.error.kind.ErrorKind.{ErrorKind}
use Rattle.clap.specs.declared.error.kind.ErrorKind.TheVariants.{OutOfMemory}
use Rattle.clap.proofs.OnLiterals.{clap_on_literals}
use Rattle.clap.proofs.WalkLemmas.{first_value-rows}
use Rattle.std.proofs.lemmas.Option.{same_Some}
use Rattle.std.specs.Box.{box_value}
use Rattle.tl_runner.specs.declared.asked.Job.{Job}
use Rattle.tl_streams.specs.declared.command_line.WordsError.{WordsError as JobError}
use Rattle.tl_streams.specs.declared.command_line.WordsError.TheVariants.{Usage, Memory}
use Rattle.tl_streams.specs.Words.{error_of_parse}
use Rattle.tl_runner.specs.Job.{tlcache, job_of, asked_in, asked_of, unless_refused}

-- ## The command line

-- the command line is one of which the words give the matches
pub tlcache_is_simple : is_simple tlcache ≡ true
unfolding clap_on_literals
tlcache_is_simple = refl

-- and no argument of it has a rule on another
pub tlcache_is_free : is_simple_and_free tlcache ≡ true
unfolding clap_on_literals
tlcache_is_free = refl

-- ## What was met

-- the name of the subcommand that a parse met, by its rows
name_by_rows : (o : Option (Box SubCommand Global)) → option_map (λ p. p.0) (subcommand_rows o) ≡ option_map (λ b. (out-SubCommand (box_value b)).name.now) o
name_by_rows None = refl
name_by_rows (Some b) = refl

-- what was met is known by its name and its rows
joined : (o : Option (Text × List Row)) (name : Text) (rows : List Row) → Some name ≡ option_map (λ p. p.0) o → Some rows ≡ option_map (λ p. p.1) o → o ≡ Some (name, rows)
joined None name rows a b = cc
joined (Some p) name rows a b = ap₂ (λ (n : Text) (r : List Row). Some (n, r)) (same_Some _ _ (sym a)) (same_Some _ _ (sym b))

-- the subcommand that was met, with its rows
pub met : (m : ArgMatches) (name : Text) (rows : List Row) → Some name ≡ subcommand_name_of m → Some rows ≡ option_map (λ p. p.1) (subcommand_rows_of m) → subcommand_rows_of m ≡ Some (name, rows)
met m name rows a b = joined (subcommand_rows_of m) name rows (a ∙ sym (name_by_rows (out-ArgMatches m).subcommand)) b

-- the file that was read
pub file_met : (f : Found) (r : Option (Bor Text)) → option_map (λ s. s.now) r ≡ first_value f (codes "file") → first_of (codes "file") (rows_of f) ≡ option_map (λ s. s.now) r
file_met f r e = sym (first_value-rows f (codes "file")) ∙ sym e

-- ## What it says of the words

-- what was met is what the words ask for, where the parse has no fault
pub asked_by : (a : App) (words : List Text) (m : ArgMatches) → a ≡ tlcache → (is_simple_and_free a ≡ true → fault_of a words ≡ []) → (is_simple a ≡ true → subcommand_rows_of m ≡ subcommand_of a words)
    → job_of (subcommand_rows_of m) ≡ asked_of words
asked_by a words m same none rows =
    let simple : is_simple a ≡ true = ap (λ (b : App). is_simple b) same ∙ tlcache_is_simple in
    let free : is_simple_and_free a ≡ true = ap (λ (b : App). is_simple_and_free b) same ∙ tlcache_is_free in
    let here : asked_in a words ≡ job_of (subcommand_of a words) = ap (λ (ks : Kinds). unless_refused ks (job_of (subcommand_of a words))) (none free) in
    ap (λ o. job_of o) (rows simple) ∙ sym here ∙ ap (λ (b : App). asked_in b words) same

-- a job that is one of two equal things is the other
pub job_along : (r : Result Job JobError) (x y : Option (Bool × Text)) → x ≡ y → IfOk r (λ j. x ≡ Some (j.traces, string_bytes j.file)) → IfOk r (λ j. y ≡ Some (j.traces, string_bytes j.file))
job_along r x y e h = let P : Option (Bool × Text) → Type 0 = λ v. IfOk r (λ j. v ≡ Some (j.traces, string_bytes j.file)) in subst P e h

-- a parse with a fault gives no job
is_refused : (kinds : Kinds) (k : ErrorKind) (job : Option (Bool × Text)) → IsAmong k kinds → unless_refused kinds job ≡ None
is_refused [] k job among = absurd among
is_refused (x ∷ xs) k job among = refl

-- an error that is a fault of usage is not one for want of memory
not_memory : (k : ErrorKind) → error_of_parse k ≡ Usage → k ≡ OutOfMemory → ⊥
not_memory k h e = let bad : Memory ≡ Usage = rw e at h in cc

-- the fault of an answer, and Usage where it has none
abbrev fault_in : {T : Type 0} → Result T JobError → JobError
fault_in (Ok x) = Usage
fault_in (Err e) = e

-- an answer has one fault
pub same_fault : {T : Type 0} (r : Result T JobError) (a b : JobError) → r ≡ Err a → r ≡ Err b → a ≡ b
same_fault {T} r a b p q = sym (ap (λ (s : Result T JobError). fault_in s) p) ∙ ap (λ (s : Result T JobError). fault_in s) q

-- an error that is not for memory refuses the words
pub refused_by : (a : App) (words : List Text) (k : ErrorKind) → a ≡ tlcache → (is_simple_and_free a ≡ true → (k ≡ OutOfMemory) ⊎ IsAmong k (fault_of a words)) → error_of_parse k ≡ Usage → asked_of words ≡ None
refused_by a words k same fails usage =
    let free : is_simple_and_free a ≡ true = ap (λ (b : App). is_simple_and_free b) same ∙ tlcache_is_free in
    elim (fails free) [
      | inl memory ↦ absurd (not_memory k usage memory)
      | inr among ↦ ap (λ (b : App). asked_in b words) (sym same) ∙ is_refused (fault_of a words) k (job_of (subcommand_of a words)) among
    ]
