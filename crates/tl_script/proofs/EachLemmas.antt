-- Reading each element, as a loop does.
use Rattle.std.proofs.Common.{◌≡◌, ℕ, ◌+◌, ◌<◌, ◌≤◌, List, [], ◌∷◌, ◌++◌, length, get_or, drop, map, Bool, Result, Ok, Err, refl, sym, ap, ◌∙◌, append_assoc, arith}
use Rattle.std.proofs.lemmas.List.{append-nil, drop_more, drop_all, map_push}
use Rattle.std.proofs.Common.{Vec, Global}
use Rattle.tl_script_words.specs.declared.command.Command.{Command}
use Rattle.std.proofs.Common.{suc, ◌-◌, replicate, length-append, Option, Some, None, true, false, cond}
use Rattle.std.proofs.lemmas.Str.{IsUtf8-from_is_utf8, is_utf8-from_IsUtf8}
use Rattle.std.specs.Str.{IsUtf8, is_utf8}
use Rattle.toml.specs.Data.{Members}
use Rattle.toml.specs.Parse.{parse_document}
use Rattle.toml.specs.Data.{Data}
use Rattle.toml.specs.View.{items_of}
use Rattle.tl_script.specs.Document.{list_of, document_of}
use Rattle.tl_script.specs.Commands.{commands}
use Rattle.tl_script.specs.declared.error.ScriptError.{ScriptError}
use Rattle.tl_script.specs.declared.error.ScriptError.TheVariants as error
use Rattle.tl_script.specs.Each.{◌>>=◌, Fails, each}

-- what was read before, and what is still read
abbrev pub with_front : {B : Type 0} → List B → Result (List B) ScriptError → Result (List B) ScriptError
with_front front read = read >>= λ ys. Ok (front ++ ys)

-- a fault of what is read first is the fault of the whole
fails_along : {Y Z : Type 0} (e : ScriptError) (read : Result Y ScriptError) (next : Y → Result Z ScriptError) → Fails e read → Fails e (read >>= next)
fails_along error.Memory read next h = tt
fails_along error.NotToml read next h = rw h
fails_along (error.Missing k) read next h = rw h
fails_along (error.Geometry g) read next h = rw h
fails_along (error.Command c i) read next h = rw h
fails_along error.TooMany read next h = rw h
fails_along (error.Step i) read next h = rw h

-- a value that is read next goes behind those read before
regroup : {B : Type 0} (front : List B) (y : B) (read : Result (List B) ScriptError) → with_front front (read >>= λ ys. Ok (y ∷ ys)) ≡ with_front (front ++ y ∷ []) read
regroup {B} front y (Ok ys) = ap (λ (zs : List B). Ok zs) (simp append_assoc)
regroup front y (Err e) = refl

module _ {V A B : Type 0} (view : V → A) (f : ℕ → A → Result B ScriptError) (xs : List V) (total : Result (List B) ScriptError) where
  pub goes_on : (i : ℕ) (x : V) (front : List B) (y : B) → i < length xs → x ≡ get_or xs i x → f i (view x) ≡ Ok y
      → with_front front (each f i (map view (drop i xs))) ≡ total → with_front (front ++ y ∷ []) (each f (i + 1) (map view (drop (i + 1) xs))) ≡ total
  goes_on i x front y lt is h so_far =
      let one : with_front front (each f i (map view (drop i xs))) ≡ with_front (front ++ y ∷ []) (each f (i + 1) (map view (drop (i + 1) xs)))
      = rw (drop_more xs i x lt, ← is, h) (regroup front y (each f (i + 1) (map view (drop (i + 1) xs)))) in
      sym one ∙ so_far

  pub ends : (e : ScriptError) (i : ℕ) (x : V) (front : List B) → i < length xs → x ≡ get_or xs i x → Fails e (f i (view x))
      → with_front front (each f i (map view (drop i xs))) ≡ total → Fails e total
  ends e i x front lt is h so_far =
      let here : Fails e (each f i (map view (drop i xs))) = rw (drop_more xs i x lt, ← is) (fails_along e (f i (view x)) _ h) in
      rw so_far at (fails_along e (each f i (map view (drop i xs))) (λ (ys : List B). Ok (front ++ ys)) here)

  pub is_done : (i : ℕ) (front : List B) → length xs ≤ i → with_front front (each f i (map view (drop i xs))) ≡ total → total ≡ Ok front
  is_done i front ge so_far =
      let none : with_front front (each f i (map view (drop i xs))) ≡ Ok front = rw (drop_all i xs ge) (ap (λ (ys : List B). Ok ys) (append-nil front)) in
      sym so_far ∙ none

-- the items of an array as the list that they were made from
pub list_of-items_of : (ds : List Data) → list_of (items_of ds) ≡ ds
list_of-items_of [] = refl
list_of-items_of (d ∷ ds) = ap (λ (es : List Data). d ∷ es) (list_of-items_of ds)

-- no document is read where the bytes are a text that writes none, or no text
if_utf8 : (b : Bool) (parsed document : Option Members) → (b ≡ true → parsed ≡ document) → document ≡ None → cond b parsed None ≡ document
if_utf8 true parsed document h none = h refl
if_utf8 false parsed document h none = sym none

-- the document that was read
pub document_of-read : (bytes : List ℕ) (ms : Members) → IsUtf8 bytes → parse_document bytes ≡ Some ms → document_of bytes ≡ Some ms
document_of-read bytes ms text e = rw (is_utf8-from_IsUtf8 bytes text) e

-- no document, where none was read of a text
pub document_of-refused : (bytes : List ℕ) → (IsUtf8 bytes → parse_document bytes ≡ None) → document_of bytes ≡ None
document_of-refused bytes h = if_utf8 (is_utf8 bytes) (parse_document bytes) None (λ e. h (IsUtf8-from_is_utf8 bytes e)) refl

-- one more empty list
pub pad_more : (vs : List (Vec Command Global)) (v : Vec Command Global) (clients : ℕ) (all : List (List Command)) → length vs < clients → v.items ≡ []
    → commands vs ++ replicate (clients - length vs) [] ≡ all → commands (vs ++ v ∷ []) ++ replicate (clients - length (vs ++ v ∷ [])) [] ≡ all
pad_more vs v clients all lt none so_far =
    let k : clients - length vs ≡ suc (clients - length (vs ++ v ∷ [])) = omega (arith, length-append vs (v ∷ [])) in
    let more : commands (vs ++ v ∷ []) ≡ commands vs ++ [] ∷ [] = map_push (λ w. w.items) vs v ∙ ap (λ (cs : List Command). commands vs ++ cs ∷ []) none in
    rw (more, append_assoc) (rw k at so_far)
