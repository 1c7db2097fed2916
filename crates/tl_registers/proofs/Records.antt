-- Whom a register has to probe, by the entry of home's directory.
use Rattle.std.proofs.Common.{◌≡◌, ℕ, suc, ◌+◌, ◌&&◌, ◌<◌, ◌≤◌, not, Bool, false, Option, Some, None, refl, sym, ◌∙◌, ap, subst, arith, inl, inr}
use Rattle.std.proofs.Math.Bool.{and-false}
use Rattle.std.proofs.lemmas.Bool.{cases_lt}
use Rattle.tl_types.proofs.Lowest.{lowest-none, none-lowest}
use Rattle.tl_types.specs.Lowest.{lowest}
use Rattle.tl_types.specs.Permission.{rank, probe_perm}
use Rattle.tl_types.specs.declared.permission.Perm.{Perm}
use Rattle.tl_types.specs.declared.permission.Perm.TheVariants.{None as NoAccess, Branch, Tip}
use Rattle.tl_types.specs.declared.permission.ProbeCap.{ProbeCap}
use Rattle.tl_types.specs.declared.permission.ProbeCap.TheVariants.{ToB, ToN}
use Rattle.tl_protocol.specs.Protocol.{Block}
use Rattle.tl_ways.specs.Entries.{Entry, entry_perm}
use Rattle.tl_registers.specs.Records.{Records}
use Rattle.tl_registers.specs.Register.{has_probed, is_above, is_other, must_probe}
use Rattle.tl_registers.specs.declared.register.Register.{Register}

-- a client with a permission, other than the one that asks, has to be probed
abbrev probes_at : Register → Option ℕ → ProbeCap → ℕ → Perm → Bool
probes_at r asking cap client perm = is_other asking client && (is_above perm cap && not (has_probed r client))

-- no permission is above no cap
nothing-above : (cap : ProbeCap) → is_above NoAccess cap ≡ false
nothing-above ToB = refl
nothing-above ToN = refl

-- what an entry says of a client is what the state says
pub probed-by : (r : Register) (entry : Entry) (s : Block) (asking : Option ℕ) (cap : ProbeCap) (client number : ℕ) (perm : Perm)
    → Records (Some entry) s → client ≡ number → perm ≡ entry_perm entry client
    → probes_at r asking cap client perm ≡ must_probe r s asking cap number
probed-by r entry s asking cap client number perm records same is =
    ap (probes_at r asking cap client) (is ∙ sym (records.1 client)) ∙ ap (must_probe r s asking cap) same

-- who has no more than the cap has not to be probed
not-above : (perm : Perm) (cap : ProbeCap) → rank perm ≤ rank (probe_perm cap) → is_above perm cap ≡ false
not-above NoAccess cap within = nothing-above cap
not-above Branch ToB within = refl
not-above Branch ToN within = let bad : 1 ≤ 0 = within in absurd (omega (arith, bad))
not-above Tip ToB within = let bad : 2 ≤ 1 = within in absurd (omega (arith, bad))
not-above Tip ToN within = let bad : 2 ≤ 0 = within in absurd (omega (arith, bad))

-- where an entry records no more than the cap for the clients below a number, none of them has to be probed
pub none-probed : (r : Register) (entry : Entry) (s : Block) (asking : Option ℕ) (cap : ProbeCap) (n : ℕ)
    → Records (Some entry) s → ((client : ℕ) → client < n → rank (entry_perm entry client) ≤ rank (probe_perm cap))
    → lowest (must_probe r s asking cap) n ≡ None
none-probed r entry s asking cap n records few =
    none-lowest (must_probe r s asking cap) n
    (λ client below.
    ap (probes_at r asking cap client) (records.1 client)
    ∙ ap (λ above. is_other asking client && (above && not (has_probed r client)))
    (not-above (entry_perm entry client) cap (few client below))
    ∙ and-false (is_other asking client))

-- where nothing is recorded from a number on, none that has to be probed below it is none at all
pub none-past : (r : Register) (entry : Entry) (s : Block) (asking : Option ℕ) (cap : ProbeCap) (m n : ℕ)
    → Records (Some entry) s → ((client : ℕ) → m ≤ client → client < n → entry_perm entry client ≡ NoAccess)
    → lowest (must_probe r s asking cap) m ≡ None → lowest (must_probe r s asking cap) n ≡ None
none-past r entry s asking cap m n records rest none =
    none-lowest (must_probe r s asking cap) n
    (λ client below.
    elim (cases_lt client m) [
      | inl early ↦ lowest-none (must_probe r s asking cap) m client none early
      | inr late ↦
          ap (probes_at r asking cap client) (records.1 client ∙ rest client late below)
          ∙ ap (λ above. is_other asking client && (above && not (has_probed r client))) (nothing-above cap)
          ∙ and-false (is_other asking client)
    ])

-- where there is no lowest, there is none below a lower number either
pub none-within : (test : ℕ → Bool) (n m : ℕ) → lowest test n ≡ None → m ≤ n → lowest test m ≡ None
none-within test n m none within = none-lowest test m (λ x below. lowest-none test n x none (omega (arith, below, within)))

-- where the next one fails too, there is still no lowest
pub lowest-more : (test : ℕ → Bool) (n : ℕ) → lowest test n ≡ None → test n ≡ false → lowest test (n + 1) ≡ None
lowest-more test n none fails =
    let next : lowest test (suc n) ≡ None = rw (none, fails) refl in
    let same : suc n ≡ n + 1 = omega arith in
    subst (λ k. lowest test k ≡ None) same next
