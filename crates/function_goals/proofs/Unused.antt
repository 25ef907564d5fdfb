-- Temporaries of which none is used.
use Rattle.std.proofs.Common.{◌≡◌, ℕ, zero, suc, ◌+◌, Bool, false, List, [], ◌∷◌, ◌++◌, refl, ap, ◌∙◌, arith}
use Rattle.program_steps.specs.Temporaries.{no_temporaries}
use Rattle.walk_live.specs.Bits.{bits}

behind : (n : ℕ) → bits n no_temporaries ++ false ∷ [] ≡ bits (suc n) no_temporaries
behind zero = refl
behind (suc n) = ap (λ bs. false ∷ bs) (behind n)

pub one_more : (xs ys : List Bool) (n : ℕ) → xs ≡ bits n no_temporaries → ys ≡ xs ++ false ∷ [] → ys ≡ bits (n + 1) no_temporaries
one_more xs ys n e h = let next : suc n ≡ n + 1 = omega arith in h ∙ ap (λ bs. bs ++ false ∷ []) e ∙ behind n ∙ ap (λ k. bits k no_temporaries) next
