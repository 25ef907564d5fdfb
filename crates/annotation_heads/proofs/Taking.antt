-- Items that are taken out at the front, in the words of the code.
use Rattle.std.proofs.Common.{◌≡◌, ℕ, suc, List, [], ◌∷◌, map, length, get_or, refl, ap, arith}
use Rattle.std.specs.List.{remove}
use Rattle.acsl_encode.specs.Readings.{nothing}
use Rattle.acsl_encode.specs.Encode.{terms_at}
use Rattle.annotation_heads.specs.declared.terms.Terms.{Terms}
use Rattle.annotation_heads.specs.View.{view_terms}

pub taken_first : (ts : List Terms) (t : Terms) → (length ts ≡ 0 → ⊥) → t ≡ get_or ts 0 t → view_terms t ≡ terms_at (map view_terms ts) 0
taken_first [] t some is = absurd (some refl)
taken_first (x ∷ xs) t some is = ap view_terms is

pub taken_rest : (ts us : List Terms) (i : ℕ) → (length ts ≡ 0 → ⊥) → us ≡ remove ts 0 → terms_at (map view_terms us) i ≡ terms_at (map view_terms ts) (suc i)
taken_rest [] us i some is = absurd (some refl)
taken_rest (x ∷ xs) us i some is = ap (λ ys. terms_at (map view_terms ys) i) is

pub none_first : (ts : List Terms) → length ts ≡ 0 → nothing ≡ terms_at (map view_terms ts) 0
none_first [] none = refl
none_first (x ∷ xs) none = absurd (omega (arith, none))

pub none_rest : (ts : List Terms) (i : ℕ) → length ts ≡ 0 → terms_at (map view_terms ts) i ≡ terms_at (map view_terms ts) (suc i)
none_rest [] i none = refl
none_rest (x ∷ xs) i none = absurd (omega (arith, none))
