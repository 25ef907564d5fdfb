-- Arguments as a list.
use Rattle.std.proofs.Common.{◌≡◌, List, [], ◌∷◌, refl, ap}
use Rattle.c_syntax.specs.Term.{Term, Terms, terms_of, list_of}

pub listed : (ts : List Term) → list_of (terms_of ts) ≡ ts
listed [] = refl
listed (t ∷ ts) = ap (λ us. t ∷ us) (listed ts)
