-- One more bank at reset.
use Rattle.std.proofs.Common.{◌≡◌, ℕ, zero, suc, ◌+◌, ◌<◌, List, [], ◌∷◌, ◌++◌, length, length-append, refl, sym, subst, arith}
use Rattle.tl_bank_spec.specs.Share.{ShareView, first_shares}
use Rattle.tl_map.specs.Numbers.{Numbers}
use Rattle.tl_trace.specs.NetworkState.{AreFresh, IsFresh, SharedBankState}

-- banks at reset, and one more with the next number, are all at reset
pub AreFresh-push : (g : Numbers) (image : List ℕ) (number : ℕ) (shared_banks : List SharedBankState) (shared_bank : SharedBankState)
    → AreFresh g image number shared_banks → IsFresh g image (number + length shared_banks) shared_bank
    → AreFresh g image number (shared_banks ++ shared_bank ∷ [])
AreFresh-push g image number [] shared_bank h fresh =
    let at : number + 0 ≡ number = omega arith in (subst (λ (n : ℕ). IsFresh g image n shared_bank) at fresh, tt)
AreFresh-push g image number (first ∷ shared_banks) shared_bank h fresh =
    let at : number + suc (length shared_banks) ≡ suc number + length shared_banks = omega arith in
    (h.0, AreFresh-push g image (suc number) shared_banks shared_bank h.1 (subst (λ (n : ℕ). IsFresh g image n shared_bank) at fresh))

-- a bank more, and how many there are then
pub fresh-more : (g : Numbers) (image : List ℕ) (shared_banks more : List SharedBankState) (shared_bank : SharedBankState) (number n : ℕ)
    → AreFresh g image 0 shared_banks → length shared_banks ≡ n → number ≡ n → IsFresh g image number shared_bank → more ≡ shared_banks ++ shared_bank ∷ []
    → AreFresh g image 0 more
fresh-more g image shared_banks more shared_bank number n h count is fresh after =
    let at : number ≡ 0 + length shared_banks = omega arith in
    subst (λ (xs : List SharedBankState). AreFresh g image 0 xs) (sym after)
    (AreFresh-push g image 0 shared_banks shared_bank h (subst (λ (k : ℕ). IsFresh g image k shared_bank) at fresh))

-- with one more bank there is one more than there were
pub count-more : (shared_banks more : List SharedBankState) (shared_bank : SharedBankState) (n : ℕ) → length shared_banks ≡ n → more ≡ shared_banks ++ shared_bank ∷ []
    → length more ≡ n + 1
count-more shared_banks more shared_bank n count after = rw after (omega (arith, length-append shared_banks (shared_bank ∷ [])))

-- a share for each client
pub length-first_shares : (bank n : ℕ) → length (first_shares bank n) ≡ n
length-first_shares bank zero = refl
length-first_shares bank (suc n) =
    let last : ShareView = record { client = n; bank = bank; count = 0 } in
    omega (arith, length-append (first_shares bank n) (last ∷ []), length-first_shares bank n)

-- where there are clients there are shares
pub some-shares : (bank n : ℕ) (shares : List ShareView) → shares ≡ first_shares bank n → 0 < n → 0 < length shares
some-shares bank n shares is some = rw is (omega (arith, length-first_shares bank n))
