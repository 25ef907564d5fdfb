-- Each word has one meaning and each meaning one word.
use Rattle.std.specs.Prelude.{◌≡◌, ◌↔◌, ◌^◌, ℕ, ℤ, nat_lt, true, List, ◌∷◌, ◌++◌, Some}
use Rattle.std.specs.List.{list_all}
use Rattle.std.specs.Fmt.{decimal, signed_decimal}
use Rattle.wp_base.specs.declared.kinds.CellKind.{CellKind}
use Rattle.goal_words.specs.Bytes.{ends, is_plain, part}
use Rattle.goal_words.specs.Kinds.{cell_of, cell_text}
use Rattle.goal_words.specs.Numbers.{count, fits_128, number}

abbrev pub NumberHasOneText : Type 0
NumberHasOneText = (word : List ℕ) (z : ℤ) → (number word ≡ Some z) ↔ ((signed_decimal z ≡ word) × (fits_128 z ≡ true))

abbrev pub CountHasOneText : Type 0
CountHasOneText = (word : List ℕ) (n : ℕ) → (count word ≡ Some n) ↔ ((decimal n ≡ word) × (nat_lt n (2 ^ 32) ≡ true))

abbrev pub KindHasOneWord : Type 0
KindHasOneWord = (word : List ℕ) (k : CellKind) → (cell_of word ≡ Some k) ↔ (word ≡ cell_text k)

abbrev pub PartIsSpaceAndWord : Type 0
PartIsSpaceAndWord = (bytes word rest : List ℕ) → (part bytes ≡ Some (word, rest)) ↔ ((bytes ≡ 32 ∷ (word ++ rest)) × (list_all is_plain word ≡ true) × (ends rest ≡ true))
