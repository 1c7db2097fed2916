-- A geometry that was read has a client.
use Rattle.std.proofs.Common.{◌≡◌, ◌<◌, ◌≤◌, ℕ, Bool, true, false, cond, List, [], ◌∷◌, Result, Ok, Err, refl, sym, subst, arith}
use Rattle.std.proofs.lemmas.Bool.{leb-true}
use Rattle.std.specs.Prelude.{nat_le, ◌&&◌}
use Rattle.tl_script_words.specs.Words.{words_of}
use Rattle.tl_protocol.specs.declared.shape.Shape.{Shape}
use Rattle.tlcheck_rules.specs.declared.order.ChannelOrder.{ChannelOrder}
use Rattle.tlcheck_record.specs.Cause.{◌>>=◌}
use Rattle.tlcheck_record.specs.Header.{blocks_in, bytes_in, field_of, head_in, head_of, in_range, is_in_range, order_in}
use Rattle.tlcheck_record.specs.declared.cause.Cause.{Cause}
use Rattle.tlcheck_record.specs.declared.cause.Cause.TheVariants as cause
use Rattle.tlcheck_record.specs.declared.header.Head.{Head}
use Rattle.tlcheck_record.specs.declared.header.Key.TheVariants as key

-- the first of five tests
first_of : (a b c d e : Bool) → (a && b && c && d && e) ≡ true → a ≡ true
first_of true b c d e h = refl
first_of false b c d e h = h

in_range_as : (t : Bool) (made head : Head) → t ≡ is_in_range made.shape → cond t (Ok made) (Err cause.Range) ≡ Ok head → 0 < head.shape.clients
in_range_as false made head at e = cc
in_range_as true made head at e =
    let same : made ≡ head = cc in
    let some : 1 ≤ made.shape.clients = leb-true 1 made.shape.clients (first_of (nat_le 1 made.shape.clients) _ _ _ _ (sym at)) in
    subst (λ (x : Head). 0 < x.shape.clients) same (omega (arith, some))

in_range_client : (s : Shape) (order : ChannelOrder) (head : Head) → in_range s order ≡ Ok head → 0 < head.shape.clients
in_range_client s order head e = in_range_as (is_in_range s) (record { shape = s; order = order }) head refl e

order_as : (s : Shape) (o : Result ChannelOrder Cause) (head : Head) → (o >>= (λ order. in_range s order)) ≡ Ok head → 0 < head.shape.clients
order_as s (Err c) head e = cc
order_as s (Ok order) head e = in_range_client s order head e

blocks_as : (clients size : ℕ) (o : Result ℕ Cause) (rest : List (List ℕ)) (head : Head)
    → (o >>= (λ n. order_in rest >>= (λ order. in_range (record { clients = clients; block_bytes = size; blocks = n }) order))) ≡ Ok head
    → 0 < head.shape.clients
blocks_as clients size (Err c) rest head e = cc
blocks_as clients size (Ok n) rest head e = order_as (record { clients = clients; block_bytes = size; blocks = n }) (order_in rest) head e

blocks_client : (clients size : ℕ) (words : List (List ℕ)) (head : Head) → blocks_in clients size words ≡ Ok head → 0 < head.shape.clients
unfolding blocks_in
blocks_client clients size [] head e = cc
blocks_client clients size (word ∷ []) head e = cc
blocks_client clients size (word ∷ value ∷ rest) head e = blocks_as clients size (field_of key.MemoryBlocks word value) rest head e

bytes_as : (clients : ℕ) (o : Result ℕ Cause) (rest : List (List ℕ)) (head : Head) → (o >>= (λ n. blocks_in clients n rest)) ≡ Ok head
    → 0 < head.shape.clients
bytes_as clients (Err c) rest head e = cc
bytes_as clients (Ok n) rest head e = blocks_client clients n rest head e

bytes_client : (clients : ℕ) (words : List (List ℕ)) (head : Head) → bytes_in clients words ≡ Ok head → 0 < head.shape.clients
unfolding bytes_in
bytes_client clients [] head e = cc
bytes_client clients (word ∷ []) head e = cc
bytes_client clients (word ∷ value ∷ rest) head e = bytes_as clients (field_of key.BlockBytes word value) rest head e

head_as : (o : Result ℕ Cause) (rest : List (List ℕ)) (head : Head) → (o >>= (λ n. bytes_in n rest)) ≡ Ok head → 0 < head.shape.clients
head_as (Err c) rest head e = cc
head_as (Ok n) rest head e = bytes_client n rest head e

words_client : (words : List (List ℕ)) (head : Head) → head_in words ≡ Ok head → 0 < head.shape.clients
unfolding head_in
words_client [] head e = cc
words_client (word ∷ []) head e = cc
words_client (word ∷ value ∷ rest) head e = head_as (field_of key.Clients word value) rest head e

-- a geometry that a line writes has a client
pub has_client : (line : List ℕ) (head : Head) → head_of line ≡ Ok head → 0 < head.shape.clients
has_client line head e = words_client (words_of line) head e
