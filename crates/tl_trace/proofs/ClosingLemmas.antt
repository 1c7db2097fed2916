-- One more block of a bank, and one more bank, at the end.
use Rattle.std.proofs.Common.{◌≡◌, ℕ, zero, suc, Bool, if◌then◌else◌, Option, Some, None, is_some, append_assoc, refl, List, [], ◌∷◌, ◌++◌, length, take, get_or, ◌+◌, ◌<◌, sym, ap, ◌∙◌, subst}
use Rattle.std.proofs.lemmas.List.{append-nil, take_more}
use Rattle.std.proofs.lemmas.List.Elements.{All-push}
use Rattle.tl_text.specs.declared.closing.BankClosing.{BankClosing}
use Rattle.tl_bank_spec.specs.Coherent.{IsCoherent}
use Rattle.tl_bank_spec.specs.View.{View}
use Rattle.tl_bank_spec.specs.Views.{dirty_at, is_at_home, passing_below}
use Rattle.tl_trace.specs.Closing.{Close, Closes, LineState, line_if, lines_below}
use Rattle.tl_trace.specs.NetworkState.{AreCoherent, SharedBankState}

-- the closings of some banks, and that of one more, are the closings of all of them
pub Close-push : (shared_banks : List SharedBankState) (closings : List BankClosing) (shared_bank : SharedBankState) (closing : BankClosing)
    → Close shared_banks closings → Closes shared_bank.bank closing → Close (shared_banks ++ shared_bank ∷ []) (closings ++ closing ∷ [])
Close-push [] [] shared_bank closing h last = (last, tt)
Close-push [] (x ∷ closings) shared_bank closing h last = absurd h
Close-push (x ∷ shared_banks) [] shared_bank closing h last = absurd h
Close-push (x ∷ shared_banks) (y ∷ closings) shared_bank closing h last = (h.0, Close-push shared_banks closings shared_bank closing h.1 last)

-- the closings of one more of these banks
pub Close-more : (shared_banks : List SharedBankState) (i : ℕ) (shared_bank : SharedBankState) (closings more : List BankClosing) (closing : BankClosing)
    → i < length shared_banks → shared_bank ≡ get_or shared_banks i shared_bank → Close (take i shared_banks) closings → Closes shared_bank.bank closing
    → more ≡ closings ++ closing ∷ [] → Close (take (i + 1) shared_banks) more
Close-more shared_banks i shared_bank closings more closing lt at h last is =
    let t : take (i + 1) shared_banks ≡ take i shared_banks ++ shared_bank ∷ [] =
    take_more shared_banks i shared_bank lt ∙ ap (λ (x : SharedBankState). take i shared_banks ++ x ∷ []) (sym at) in
    subst (λ (xs : List SharedBankState). Close xs more) (sym t)
    (subst (λ (ys : List BankClosing). Close (take i shared_banks ++ shared_bank ∷ []) ys) (sym is)
    (Close-push (take i shared_banks) closings shared_bank closing h last))

-- one more of these banks is coherent
pub coherent-more : (shared_banks : List SharedBankState) (i : ℕ) (shared_bank : SharedBankState) → i < length shared_banks → shared_bank ≡ get_or shared_banks i shared_bank
    → AreCoherent (take i shared_banks) → IsCoherent shared_bank.bank → AreCoherent (take (i + 1) shared_banks)
coherent-more shared_banks i shared_bank lt at all one =
    let t : take (i + 1) shared_banks ≡ take i shared_banks ++ shared_bank ∷ [] =
    take_more shared_banks i shared_bank lt ∙ ap (λ (x : SharedBankState). take i shared_banks ++ x ∷ []) (sym at) in
    subst (λ (xs : List SharedBankState). AreCoherent xs) (sym t)
    (All-push (λ (x : SharedBankState). IsCoherent x.bank) (take i shared_banks) shared_bank all one)

-- ## The lines of a bank

-- the lines of these blocks
abbrev pub lines_of : View → List ℕ → List LineState
lines_of v [] = []
lines_of v (b ∷ rest) = line_if v b (dirty_at v b) ++ lines_of v rest

-- those of two lists of blocks
lines-append : (v : View) (xs ys : List ℕ) → lines_of v (xs ++ ys) ≡ lines_of v xs ++ lines_of v ys
lines-append v [] ys = refl
lines-append v (x ∷ xs) ys =
    ap (λ (zs : List LineState). line_if v x (dirty_at v x) ++ zs) (lines-append v xs ys)
    ∙ sym (append_assoc (line_if v x (dirty_at v x)) (lines_of v xs) (lines_of v ys))

-- that of one block
lines-one : (v : View) (b : ℕ) → lines_of v (b ∷ []) ≡ line_if v b (dirty_at v b)
lines-one v b = append-nil (line_if v b (dirty_at v b))

-- one more block
pub lines-more : (v : View) (blocks : List ℕ) (i b : ℕ) → i < length blocks → b ≡ get_or blocks i b
    → lines_of v (take (i + 1) blocks) ≡ lines_of v (take i blocks) ++ line_if v b (dirty_at v b)
lines-more v blocks i b lt at =
    ap (lines_of v) (take_more blocks i b lt ∙ ap (λ (x : ℕ). take i blocks ++ x ∷ []) (sym at))
    ∙ lines-append v (take i blocks) (b ∷ [])
    ∙ ap (λ (zs : List LineState). lines_of v (take i blocks) ++ zs) (lines-one v b)

-- one more block of the memory, at home or not
lines-step : (v : View) (n : ℕ) (xs : List ℕ) (o : Option Bool) → dirty_at v n ≡ o
    → lines_of v (if is_some o then xs ++ n ∷ [] else xs) ≡ lines_of v xs ++ line_if v n o
lines-step v n xs None e = sym (append-nil (lines_of v xs))
lines-step v n xs (Some dirty) e =
    lines-append v xs (n ∷ [])
    ∙ ap (λ (zs : List LineState). lines_of v xs ++ zs) (lines-one v n ∙ ap (line_if v n) e)

-- the lines of the blocks at home are those of all blocks
pub lines-all : (v : View) (n : ℕ) → lines_of v (passing_below (is_at_home v) n) ≡ lines_below v n
lines-all v zero = refl
lines-all v (suc n) =
    lines-step v n (passing_below (is_at_home v) n) (dirty_at v n) refl
    ∙ ap (λ (zs : List LineState). zs ++ line_if v n (dirty_at v n)) (lines-all v n)
