-- What is told of branches that are looked at late.
use Rattle.std.proofs.Common.{◌≡◌, ℕ, zero, suc, ◌<◌, Bool, true, false, List, [], ◌∷◌, length, get_or, refl, arith}
use Rattle.std.specs.Prelude.{Option, Some, None, ◌↔◌, IsTrue}
use Rattle.std.specs.Option.{is_none}
use Rattle.branches.specs.Steps.{NoneSo}
use Rattle.branches.specs.Firsts.{IsFirst}

none_there : {A : Type 0} (so : A → Type 0) (xs : List A) (at : ℕ) (d : A) → at < length xs → NoneSo so xs → so (get_or xs at d) → ⊥
none_there so [] at d l n h = absurd (omega arith)
none_there so (x ∷ xs) zero d l n h = n.0 h
none_there so (x ∷ xs) (suc at) d l n h = none_there so xs at d (omega arith) n.1 h

some_there : {A : Type 0} (so : A → Type 0) (xs : List A) (at : ℕ) → IsFirst so xs (Some at) → NoneSo so xs → ⊥
some_there so [] at h n = absurd (let l = h.0 in omega arith)
some_there so (x ∷ xs) at h n = none_there so (x ∷ xs) at x h.0 n (h.2 x)

pub none_is_first : {A : Type 0} (so : A → Type 0) (xs : List A) (o : Option ℕ) → IsFirst so xs o → IsTrue (is_none o) ↔ IsFirst so xs None
none_is_first so xs None h = (λ x. h, λ y. refl)
none_is_first so xs (Some at) h = (λ x. absurd cc, λ y. absurd (some_there so xs at h y))

-- ---- both of two

pub not_first : {A B : Type 0} (t : Bool) → IsTrue t ↔ A → t ≡ false → IsTrue false ↔ (A × B)
not_first t a e = (λ x. absurd cc, λ y. let z = a.1 y.0 in absurd cc)

pub and_second : {A B : Type 0} (t u : Bool) → IsTrue t ↔ A → t ≡ true → IsTrue u ↔ B → IsTrue u ↔ (A × B)
and_second t u a e b = (λ x. (a.0 e, b.0 x), λ y. b.1 y.1)
