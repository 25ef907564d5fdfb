-- The kinds of all temporaries, as they were told.
use Rattle.std.proofs.Common.{◌≡◌, ℕ, suc, ◌+◌, nat_lt, if◌then◌else◌, Bool, true, false, List, [], ◌∷◌, map, length, Option, refl, ap, ◌∙◌, arith}
use Rattle.std.proofs.lemmas.Bool.Decides.{nat_tests}
use Rattle.wp_base.specs.declared.kinds.CellKind.{CellKind}
use Rattle.temporary_kinds.specs.Kinds.{or_int, greater, kinds_from}
use Rattle.temporary_kinds.specs.View.{kind_at, Tells}

number_same : (n : ℕ) → n + 0 ≡ n
number_same n = grind (arith)

next_same : (n i : ℕ) → n + suc i ≡ suc n + i
next_same n i = grind (arith)

listed : (f : ℕ → Option CellKind) (n : ℕ) (xs : List (Option CellKind)) → ((i : ℕ) → kind_at xs i ≡ f (n + i)) → map or_int xs ≡ kinds_from f n (length xs)
listed f n [] same = refl
listed f n (x ∷ xs) same =
    λ j. (ap or_int (same 0 ∙ ap f (number_same n)) j) ∷ (listed f (suc n) xs (λ i. same (suc i) ∙ ap f (next_same n i)) j)

from_zero : (i : ℕ) → i ≡ 0 + i
from_zero i = grind (arith)

from_nothing : (n : ℕ) → greater 0 n ≡ n
from_nothing n = by (nat_lt 0 n) refl where
  by : (b : Bool) → nat_lt 0 n ≡ b → (if b then n else 0) ≡ n
  by true is = refl
  by false is = grind (arith, nat_tests, is)

pub all_settled : (xs : List (Option CellKind)) (f : ℕ → Option CellKind) (n : ℕ) → Tells [] xs f n → map or_int xs ≡ kinds_from f 0 n
all_settled xs f n h = listed f 0 xs (λ i. h.kinds_are i ∙ ap f (from_zero i)) ∙ ap (kinds_from f 0) (h.count_is ∙ from_nothing n)
