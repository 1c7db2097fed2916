-- Values that were looked at, and the texts that are read of them.
use Rattle.std.proofs.Common.{◌≡◌, ℕ, ◌+◌, Bool, true, false, ◌&&◌, cond, List, [], ◌∷◌, map, length, Option, Some, None, is_some, unwrap_or, Result, Ok, Err, refl, ap}
use Rattle.std.proofs.lemmas.List.{length-map}
use Rattle.std.proofs.lemmas.List.Folds.{list_all-map}
use Rattle.std.specs.List.{list_all, list_any}
use Rattle.toml.specs.Data.{Data, Items, no_items, as_str, as_array}
use Rattle.toml.specs.View.{view, items_of}
use Rattle.toml.specs.declared.value.Value.{Value}
use Rattle.tl_script.specs.declared.key.Key.{Key}
use Rattle.tl_script.specs.declared.key.Key.TheVariants as key
use Rattle.tl_script.specs.declared.error.ScriptError.{ScriptError}
use Rattle.tl_script.specs.declared.error.ScriptError.TheVariants as error
use Rattle.tl_script.specs.Each.{◌>>=◌, or_fault, each}
use Rattle.tl_script.specs.Document.{or_missing, list_of, text_in, texts_in}
use Rattle.tl_script.specs.Values.{values_of, are_texts, text_of, texts_of, words, lists}
use Rattle.tl_script.specs.Commands.{is_long}
use Rattle.tl_script.proofs.EachLemmas.{list_of-items_of}

-- the first value and the others are read where both pass their tests
both : {B : Type 0} (first others : Bool) (y : B) (ys : List B) (fault : ScriptError)
    → (let one : Result B ScriptError = cond first (Ok y) (Err fault) in one >>= λ z. (let more : Result (List B) ScriptError = cond others (Ok ys) (Err fault) in more >>= λ zs. Ok (z ∷ zs))) ≡ cond (first && others) (Ok (y ∷ ys)) (Err fault)
both true true y ys fault = refl
both true false y ys fault = refl
both false others y ys fault = refl

-- where a test tells what is read of each value, it tells what is read of all
each-tested : {A B : Type 0} (test : A → Bool) (of : A → B) (fault : ScriptError) (f : ℕ → A → Result B ScriptError) → ((i : ℕ) (x : A) → f i x ≡ cond (test x) (Ok (of x)) (Err fault))
    → (i : ℕ) (xs : List A) → each f i xs ≡ cond (list_all test xs) (Ok (map of xs)) (Err fault)
each-tested test of fault f told i [] = refl
each-tested test of fault f told i (x ∷ xs) = rw (told i x, each-tested test of fault f told (i + 1) xs) (both (test x) (list_all test xs) (of x) (map of xs) fault)

-- a value that may be absent, or else a fault
or_fault-tested : {A : Type 0} (fault : ScriptError) (o : Option A) (other : A) → or_fault fault o ≡ cond (is_some o) (Ok (unwrap_or o other)) (Err fault)
or_fault-tested fault None other = refl
or_fault-tested fault (Some x) other = refl

-- the text of a value that is one
text_in-tested : (k : Key) (value : Data) → text_in k value ≡ cond (is_some (as_str value)) (Ok (text_of value)) (Err (error.Missing k))
unfolding text_in
text_in-tested k value = or_fault-tested (error.Missing k) (as_str value) []

-- the texts of items that may be absent
items-tested : (k : Key) (o : Option Items) → (or_missing k o >>= λ items. each (λ _ e. text_in k e) 0 (list_of items))
    ≡ cond (is_some o && list_all (λ e. is_some (as_str e)) (list_of (unwrap_or o no_items))) (Ok (map text_of (list_of (unwrap_or o no_items)))) (Err (error.Missing k))
items-tested k None = refl
items-tested k (Some items) = each-tested (λ e. is_some (as_str e)) text_of (error.Missing k) (λ _ e. text_in k e) (λ i e. text_in-tested k e) 0 (list_of items)

-- the texts of a value that is an array of them
texts_in-tested : (k : Key) (value : Data) → texts_in k value ≡ cond (are_texts value) (Ok (texts_of value)) (Err (error.Missing k))
unfolding texts_in
texts_in-tested k value = items-tested k (as_array value)

-- what is made of the data of some values
map-view : {B : Type 0} (of : Data → B) (vs : List Value) → map of (map view vs) ≡ map (λ v. of (view v)) vs
map-view of [] = refl
map-view {B} of (v ∷ vs) = ap (λ (ys : List B). of (view v) ∷ ys) (map-view of vs)

-- the texts of clients' values, where each was found to be an array of texts
pub lists-tested : (vs : List Value) (found : Bool) → found ≡ list_all (λ v. are_texts (view v)) vs → each (λ _ e. texts_in key.Commands e) 0 (map view vs) ≡ cond found (Ok (lists vs)) (Err (error.Missing key.Commands))
lists-tested vs found is =
    rw (is, ← list_all-map are_texts view vs, ← map-view texts_of vs)
    (each-tested are_texts texts_of (error.Missing key.Commands) (λ _ e. texts_in key.Commands e) (λ i e. texts_in-tested key.Commands e) 0 (map view vs))

-- the values in an array
pub values_of-array : (value : Data) (vs : List Value) → Some (items_of (map view vs)) ≡ as_array value → map view vs ≡ values_of value
values_of-array value vs is = rw (← is, list_of-items_of)

-- the texts of the values in an array
pub words-values : (value : Data) (vs : List Value) → map view vs ≡ values_of value → words vs ≡ texts_of value
words-values value vs is = rw (← is, map-view)

-- there are as many texts as values
pub length-texts : (value : Data) (vs : List Value) → map view vs ≡ values_of value → length (texts_of value) ≡ length vs
length-texts value vs is = simp (← is, length-map)

-- a client has too many commands where a test says so of its value
pub list_any-lists : (vs : List Value) → list_any (λ v. is_long (texts_of (view v))) vs ≡ list_any is_long (lists vs)
list_any-lists [] = refl
list_any-lists (v ∷ vs) = rw (list_any-lists vs)
