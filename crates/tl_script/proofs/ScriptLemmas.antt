-- What a document that is read says of its values.
use Rattle.std.proofs.Common.{◌≡◌, ℕ, zero, suc, ◌+◌, ◌-◌, ◌*◌, ◌≤◌, Bool, true, false, nat_lt, cond, List, [], ◌∷◌, ◌++◌, length, replicate, Option, Some, None, Result, Ok, Err, Vec, Global, refl, sym, subst, ◌∙◌, arith, length-append}
use Rattle.std.proofs.lemmas.Bool.{and_from, ltb-false}
use Rattle.std.proofs.lemmas.List.Folds.{list_all-append}
use Rattle.std.specs.List.{list_all, list_any}
use Rattle.tl_script_words.specs.Command.{command_of}
use Rattle.std.proofs.lemmas.List.{length-replicate, length-map}
use Rattle.std.specs.Prelude.{◌||◌}
use Rattle.toml.specs.Data.{Data, Members, get_member}
use Rattle.tl_map.specs.Numbers.{Numbers}
use Rattle.tl_script_words.specs.declared.command.Command.{Command}
use Rattle.tl_script.specs.declared.key.Key.TheVariants as key
use Rattle.tl_script.specs.declared.error.ScriptError.{ScriptError}
use Rattle.tl_script.specs.declared.error.ScriptError.TheVariants as error
use Rattle.tl_script.specs.Key.{name_of}
use Rattle.tl_script.specs.Each.{◌>>=◌, each}
use Rattle.tl_script.specs.Image.{bytes_in, image_in, image_of}
use Rattle.tl_script.specs.Commands.{fits, all_fit, if_fits, is_long, command_at, commands_of_client, commands, commands_of}
use Rattle.tl_script.specs.Steps.{step_at, steps_of}
use Rattle.tl_script.specs.Script.{are_too_many, counted_of}
use Rattle.tl_script_words.specs.declared.step.Step.{Step}

-- ## The image

-- an image that is taken is not too long, and is the bytes that were read
no_longer : (long : Bool) (bytes image : List ℕ) (e : ScriptError) → cond long (Err e) (Ok bytes) ≡ Ok image → (long ≡ false) × (bytes ≡ image)
no_longer true bytes image e h = cc
no_longer false bytes image e h = (refl, cc)

-- an image that is taken has room
kept : (room : ℕ) (read : Result (List ℕ) ScriptError) (image : List ℕ) (e : ScriptError) → (read >>= λ bytes. cond (nat_lt room (length bytes)) (Err e) (Ok bytes)) ≡ Ok image → length image ≤ room
kept room (Err f) image e h = cc
kept room (Ok bytes) image e h =
    let p = no_longer (nat_lt room (length bytes)) bytes image e h in
    rw (← p.1) (ltb-false room (length bytes) p.0)

-- an image, given or not, is no longer than the memory
inside_in : (g : Numbers) (value : Option Data) (image : List ℕ) → image_in g value ≡ Ok image → length image ≤ g.memory_blocks * g.block_bytes
inside_in g None image h =
    let none : [] ≡ image = cc in
    rw (← none) (omega arith)
inside_in g (Some value) image h = kept (g.memory_blocks * g.block_bytes) (bytes_in value) image (error.Missing key.Image) h

-- an image is no longer than the memory
pub inside_of : (g : Numbers) (document : Members) (image : List ℕ) → image_of g document ≡ Ok image → length image ≤ g.memory_blocks * g.block_bytes
unfolding image_of
inside_of g document image h = inside_in g (get_member (name_of key.Image) document) image h

-- ## The commands

-- a list that is read is one longer than the rest of it, which is read too
joined : {B : Type 0} (first : Result B ScriptError) (others : Result (List B) ScriptError) (ys : List B) → (first >>= λ y. others >>= λ rest. Ok (y ∷ rest)) ≡ Ok ys
    → (rest : List B) × ((others ≡ Ok rest) × (length ys ≡ length rest + 1))
joined (Err e) others ys h = cc
joined (Ok y) (Err e) ys h = cc
joined (Ok y) (Ok rest) ys h =
    let whole : y ∷ rest ≡ ys = cc in
    (rest, (refl, rw (← whole) (omega arith)))

-- as many values are read as there are texts
one_each : {A B : Type 0} (f : ℕ → A → Result B ScriptError) (i : ℕ) (xs : List A) (ys : List B) → each f i xs ≡ Ok ys → length ys ≡ length xs
one_each f i [] ys h =
    let none : [] ≡ ys = cc in
    rw (← none) refl
one_each f i (x ∷ xs) ys h =
    let j = joined (f i x) (each f (i + 1) xs) ys h in
    omega (arith, j.1.1, one_each f (i + 1) xs j.0 j.1.0)

-- commands that are taken are not too many, and are those that were read
counted : (many : Bool) (read : Result (List (List Command)) ScriptError) (cs : List (List Command)) (e : ScriptError) → cond many (Err e) read ≡ Ok cs → (many ≡ false) × (read ≡ Ok cs)
counted true read cs e h = cc
counted false read cs e h = (refl, h)

-- where none of three limits is passed, the first is not
first_false : (a b c : Bool) → (a || b || c) ≡ false → a ≡ false
first_false true b c h = h
first_false false b c h = refl

-- with empty lists for the clients that have none, there is a list for each client
padded : (clients given : ℕ) (read : Result (List (List Command)) ScriptError) (cs : List (List Command)) → ((ys : List (List Command)) → read ≡ Ok ys → length ys ≡ given) → given ≤ clients
    → (read >>= λ ys. Ok (ys ++ replicate (clients - length ys) [])) ≡ Ok cs → length cs ≡ clients
padded clients given (Err e) cs h few done = cc
padded clients given (Ok ys) cs h few done =
    let whole : ys ++ replicate (clients - length ys) [] ≡ cs = cc in
    rw (← whole) (simp (length-append, length-replicate) (omega (arith, h ys refl)))

-- each client has its list of commands
each_client_of : (g : Numbers) (lists : List (List (List ℕ))) (steps : List (List ℕ)) (cs : List (List Command)) → counted_of g lists steps ≡ Ok cs → length cs ≡ g.clients
unfolding counted_of commands_of
each_client_of g lists steps cs h =
    let p = counted (are_too_many g.clients lists steps) (commands_of g lists) cs error.TooMany h in
    let few = ltb-false g.clients (length lists) (first_false _ _ _ p.0) in
    padded g.clients (length lists) (each (commands_of_client g) 0 lists) cs (λ ys e. one_each (commands_of_client g) 0 lists ys e) few p.1

-- ## What fits

-- a command that is taken fits, and is the one that was read
fits_if : (fit : Bool) (d c : Command) (e : ScriptError) → cond fit (Ok d) (Err e) ≡ Ok c → (fit ≡ true) × (d ≡ c)
fits_if true d c e h = (refl, cc)
fits_if false d c e h = cc

-- a command that is taken fits the geometry
command_fits_in : (g : Numbers) (client index : ℕ) (read : Option Command) (c : Command) → if_fits g client index read ≡ Ok c → fits g c ≡ true
command_fits_in g client index None c h = cc
command_fits_in g client index (Some d) c h =
    let p = fits_if (fits g d) d c (error.Command client index) h in
    let P : Command → Type 0 = λ x. fits g x ≡ true in
    subst P p.1 p.0

-- so does the command that a text writes
command_fits : (g : Numbers) (client index : ℕ) (text : List ℕ) (c : Command) → command_at g client index text ≡ Ok c → fits g c ≡ true
unfolding command_at
command_fits g client index text c h = command_fits_in g client index (command_of text) c h

-- what holds of the first value that is read, and of the others, holds of the list
taken : {B : Type 0} (p : B → Bool) (first : Result B ScriptError) (others : Result (List B) ScriptError) (ys : List B) → (first >>= λ y. others >>= λ rest. Ok (y ∷ rest)) ≡ Ok ys
    → ((y : B) → first ≡ Ok y → p y ≡ true) → ((rest : List B) → others ≡ Ok rest → list_all p rest ≡ true) → list_all p ys ≡ true
taken p (Err e) others ys h one more = cc
taken p (Ok y) (Err e) ys h one more = cc
taken {B} p (Ok y) (Ok rest) ys h one more =
    let whole : y ∷ rest ≡ ys = cc in
    let P : List B → Type 0 = λ zs. list_all p zs ≡ true in
    subst P whole (and_from (p y) (list_all p rest) (one y refl) (more rest refl))

-- what holds of each value that is read holds of all
each_has : {A B : Type 0} (p : B → Bool) (f : ℕ → A → Result B ScriptError) → ((i : ℕ) (x : A) (y : B) → f i x ≡ Ok y → p y ≡ true) → (i : ℕ) (xs : List A) (ys : List B) → each f i xs ≡ Ok ys → list_all p ys ≡ true
each_has p f holds i [] ys h =
    let none : [] ≡ ys = cc in
    rw (← none) refl
each_has p f holds i (x ∷ xs) ys h = taken p (f i x) (each f (i + 1) xs) ys h (λ y e. holds i x y e) (λ rest e. each_has p f holds (i + 1) xs rest e)

-- all commands that are read of a client fit
client_fits : (g : Numbers) (client : ℕ) (texts : List (List ℕ)) (cs : List Command) → commands_of_client g client texts ≡ Ok cs → list_all (fits g) cs ≡ true
unfolding commands_of_client
client_fits g client texts cs h = each_has (fits g) (command_at g client) (λ i text c e. command_fits g client i text c e) 0 texts cs h

-- clients without commands have none that does not fit
empty_fit : (g : Numbers) (n : ℕ) → all_fit g (replicate n []) ≡ true
empty_fit g zero = refl
empty_fit g (suc n) = empty_fit g n

-- with empty lists put last, all commands still fit
padded_fit : (g : Numbers) (n : List (List Command) → ℕ) (read : Result (List (List Command)) ScriptError) (cs : List (List Command)) → ((ys : List (List Command)) → read ≡ Ok ys → all_fit g ys ≡ true)
    → (read >>= λ ys. Ok (ys ++ replicate (n ys) [])) ≡ Ok cs → all_fit g cs ≡ true
padded_fit g n (Err e) cs h done = cc
padded_fit g n (Ok ys) cs h done =
    let whole : ys ++ replicate (n ys) [] ≡ cs = cc in
    rw (← whole, list_all-append) (and_from _ _ (h ys refl) (empty_fit g (n ys)))

-- all commands that are read of all clients fit
pub all_fit_of : (g : Numbers) (lists : List (List (List ℕ))) (steps : List (List ℕ)) (cs : List (List Command)) → counted_of g lists steps ≡ Ok cs → all_fit g cs ≡ true
unfolding counted_of commands_of
all_fit_of g lists steps cs h =
    let p = counted (are_too_many g.clients lists steps) (commands_of g lists) cs error.TooMany h in
    padded_fit g (λ ys. g.clients - length ys) (each (commands_of_client g) 0 lists) cs (λ ys e. each_has (λ commands. list_all (fits g) commands) (commands_of_client g) (λ client texts c e. client_fits g client texts c e) 0 lists ys e) p.1

-- ## The steps

-- where none of three limits is passed, the last is not
last_false : (a b c : Bool) → (a || b || c) ≡ false → c ≡ false
last_false true b c h = cc
last_false false true c h = cc
last_false false false c h = h

-- where commands are taken there are at most 4,096 texts of steps
few_texts : (g : Numbers) (lists : List (List (List ℕ))) (steps : List (List ℕ)) (cs : List (List Command)) → counted_of g lists steps ≡ Ok cs → length steps ≤ 4096
unfolding counted_of commands_of
few_texts g lists steps cs h =
    let p = counted (are_too_many g.clients lists steps) (commands_of g lists) cs error.TooMany h in
    ltb-false 4096 (length steps) (last_false (nat_lt g.clients (length lists)) (list_any is_long lists) (nat_lt 4096 (length steps)) p.0)

-- steps that are read are few
pub few : (g : Numbers) (lists : List (List (List ℕ))) (texts : List (List ℕ)) (cs : List (List Command)) (steps : List Step) → counted_of g lists texts ≡ Ok cs → steps_of texts ≡ Ok steps → length steps ≤ 4096
unfolding steps_of
few g lists texts cs steps counted read =
    omega (arith, few_texts g lists texts cs counted, one_each step_at 0 texts steps read)

-- ## As a vector

-- commands that are read have a list for each client
pub each_client : (g : Numbers) (lists : List (List (List ℕ))) (steps : List (List ℕ)) (vs : List (Vec Command Global)) → counted_of g lists steps ≡ Ok (commands vs) → length vs ≡ g.clients
each_client g lists steps vs read =
    let same : length (commands vs) ≡ length vs = simp length-map in
    sym same ∙ each_client_of g lists steps (commands vs) read
