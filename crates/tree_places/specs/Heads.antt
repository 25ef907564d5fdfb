-- Numbers of heads.
use Rattle.std.specs.Prelude.{◌≡◌, ℕ, ◌<◌, List, Option, Some}
use Rattle.std.specs.Map.{lookup}
use Rattle.qed_terms.specs.declared.head.Head.{Head}
use Rattle.qed_terms.specs.Order.{same_head}

-- the number that a table has for a head
unfoldable pub number_in : List (Head × ℕ) → Head → Option ℕ
number_in entries head = lookup (λ g. same_head head g) entries

-- each number is below the count and is that of one head
pub record AreHeads (number : Head → Option ℕ) (count : ℕ) : Type 0 where
  pub below : (g : Head) (n : ℕ) → number g ≡ Some n → n < count
  pub one : (g k : Head) (n : ℕ) → number g ≡ Some n → number k ≡ Some n → g ≡ k

-- what had a number has it still
abbrev pub KeepsNumbers : (number number' : Head → Option ℕ) → Type 0
KeepsNumbers number number' = (g : Head) (n : ℕ) → number g ≡ Some n → number' g ≡ Some n
