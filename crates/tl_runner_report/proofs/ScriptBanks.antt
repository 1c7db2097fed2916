-- The banks of a script, and their logs.
use Rattle.std.proofs.Common.{◌≡◌, ℕ, zero, suc, ◌+◌, ◌<◌, List, [], ◌∷◌, ◌++◌, length, get_or, take, All, refl, sym, ap, ◌∙◌, subst, arith}
use native.Mathlib.Numerals.{unary_clauses}
use Rattle.std.specs.Borrow.{Bor}
use Rattle.tl_map.specs.Numbers.{Numbers}
use Rattle.tl_map.specs.Places.{bank_of}
use Rattle.tl_protocol.specs.declared.event.Event.{Event}
use Rattle.tl_protocol.specs.Protocol.{block_of}
use Rattle.tl_protocol.specs.Runs.{IsRun}
use Rattle.tl_script.specs.declared.script.Script.{Script}
use Rattle.tl_bank_spec.specs.View.{View, shape_of}
use Rattle.tl_rules.specs.Certified.{events_of}
use Rattle.tl_rules.specs.Ordered.{AreRuns}
use Rattle.tl_runner_report.specs.Banks.{IsBankOf, AreBanksOf, IsWhole, logs_in, HasRun}

-- ## Their logs

take_more : (banks : List View) (i : ℕ) (v : View) → i < length banks → v ≡ get_or banks i v
    → take (i + 1) (logs_in banks) ≡ take i (logs_in banks) ++ v.log ∷ []
take_more [] i v lt is = absurd (omega arith)
take_more (x ∷ xs) zero v lt is = ap (λ (u : View). u.log ∷ []) (sym is)
take_more (x ∷ xs) (suc i) v lt is =
    simp unary_clauses (ap (λ (ls : List (List Event)). x.log ∷ ls) (simp unary_clauses at (take_more xs i v (omega arith) is)))

events_more : (xs : List (Bor (List Event))) (x : Bor (List Event)) → events_of (xs ++ x ∷ []) ≡ events_of xs ++ x.now ∷ []
events_more [] x = refl
events_more (y ∷ ys) x = ap (λ (ls : List (List Event)). y.now ∷ ls) (events_more ys x)

pub log_pushed : (banks : List View) (i : ℕ) (v : View) (items : List (Bor (List Event))) (log : Bor (List Event)) → i < length banks
    → v ≡ get_or banks i v → events_of items ≡ take i (logs_in banks) → log.now ≡ v.log
    → events_of (items ++ log ∷ []) ≡ take (i + 1) (logs_in banks)
log_pushed banks i v items log lt is so_far same =
    events_more items log
    ∙ (ap (λ (ls : List (List Event)). ls ++ log.now ∷ []) so_far
    ∙ (ap (λ (es : List Event). take i (logs_in banks) ++ es ∷ []) same ∙ sym (take_more banks i v lt is)))

pub length_banks : (banks : List View) → length (logs_in banks) ≡ length banks
length_banks [] = refl
length_banks (x ∷ xs) = let rest = length_banks xs in omega arith

-- the banks of a script have forgotten nothing
pub all_whole : (script : Script) (banks : List View) → AreBanksOf script banks → All IsWhole banks
all_whole script banks are i d lt = (are.each i d lt).3

-- ## The runs

-- the bank at an index
record BankAt (banks : List View) (i : ℕ) : Type 0 where
  bank : View
  log : get_or (logs_in banks) i [] ≡ bank.log
  is : (d : View) → get_or banks i d ≡ bank

bank_at : (banks : List View) (i : ℕ) → i < length banks → BankAt banks i
bank_at [] i lt = absurd (omega arith)
bank_at (v ∷ vs) zero lt = record { bank = v; log = refl; is = λ d. refl }
bank_at (v ∷ vs) (suc i) lt =
    let rest : BankAt vs i = bank_at vs i (omega arith) in record { bank = rest.bank; log = rest.log; is = rest.is }

-- the runs of the script's banks are on its shape and image
pub runs_of_script : (script : Script) (banks : List View) → AreBanksOf script banks → All HasRun banks
    → AreRuns (shape_of script.geometry) script.image.items (bank_of script.geometry) (logs_in banks)
runs_of_script script banks are runs i lt =
    let there : BankAt banks i = bank_at banks i (let long = length_banks banks in omega arith) in
    let v : View = there.bank in
    let known : i < length banks = (let long = length_banks banks in omega arith) in
    let of : IsBankOf script i v = subst (IsBankOf script i) (there.is v) (are.each i v known) in
    let run : HasRun v = subst HasRun (there.is v) (runs i v known) in
    let g : Numbers = script.geometry in
    let same : v.geometry ≡ g = of.0 in
    let is_run : IsRun (shape_of g) script.image.items v.log =
    subst (λ (image : List ℕ). IsRun (shape_of g) image v.log) of.2
    (subst (λ (n : Numbers). IsRun (shape_of n) v.image v.log) same run.0) in
    let own : All (λ e. bank_of g (block_of (shape_of g) e) ≡ i) v.log =
    λ k d l.
    let at : bank_of v.geometry (block_of (shape_of v.geometry) (get_or v.log k d)) ≡ v.number = (run.1 k d l).1 in
    subst (λ (n : Numbers). bank_of n (block_of (shape_of n) (get_or v.log k d)) ≡ i) same (at ∙ of.1) in
    subst (λ (log : List Event). IsRun (shape_of g) script.image.items log × All (λ e. bank_of g (block_of (shape_of g) e) ≡ i) log) (sym there.log)
    (is_run, own)
