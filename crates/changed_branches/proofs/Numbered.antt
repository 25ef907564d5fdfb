-- Names with numbers, and the first that is new.
use Rattle.std.proofs.Common.{◌≡◌, ◌⊎◌, ℕ, suc, ◌+◌, ◌<◌, ◌^◌, Bool, true, false, List, [], ◌∷◌, ◌++◌, refl, sym, ◌∙◌, ap, subst, inl, inr, arith}
use Rattle.std.specs.Prelude.{codes}
use Rattle.std.specs.Fmt.{decimal}
use Rattle.std.proofs.lemmas.Fmt.{decimal-digits_of}
use Rattle.std.proofs.lemmas.Bool.{cases_order}
use Rattle.qed_terms.specs.Fresh.{numeral}
use Rattle.branches.specs.Branch.{Branch}
use Rattle.branch_changes.specs.NewNames.{is_in_branch, numbered_name, IsFirstNew}

pub spelled : (digits : List ℕ) (n : ℕ) → 0 < n → n < 2 ^ 64 → digits ≡ decimal n → codes "sk" ++ digits ≡ numbered_name n
unfolding numbered_name
spelled digits n some small d = ap (λ z. codes "sk" ++ z) (d ∙ decimal-digits_of n some small)

abbrev pub Earlier : Branch → ℕ → Type 0
Earlier b n = (m : ℕ) → 0 < m → m < n → is_in_branch (numbered_name m) b ≡ true

pub earlier_more : (b : Branch) (n : ℕ) (x : List ℕ) → Earlier b n → x ≡ numbered_name n → is_in_branch x b ≡ true → Earlier b (n + 1)
earlier_more b n x earlier is e m some below = go (cases_order m n)
  where
    go : (m ≡ n) ⊎ ((m < n) ⊎ (n < m)) → is_in_branch (numbered_name m) b ≡ true
    go (inl k) = ap (λ z. is_in_branch (numbered_name z) b) k ∙ ap (λ z. is_in_branch z b) (sym is) ∙ e
    go (inr (inl k)) = earlier m some k
    go (inr (inr k)) = absurd (omega (arith, k, below))

pub first_new_here : (b : Branch) (n : ℕ) (x : List ℕ) → 0 < n → Earlier b n → x ≡ numbered_name n → is_in_branch x b ≡ false → IsFirstNew b n
first_new_here b n x some earlier is e = record { counted = some; new = ap (λ z. is_in_branch z b) (sym is) ∙ e; earlier = earlier }
