-- Lists of goals, line by line.
use Rattle.std.proofs.Common.{◌≡◌, ℕ, zero, suc, ◌+◌, List, [], ◌∷◌, map, drop, length, Option, Some, None, refl, sym, ap, ◌∙◌, arith}
use Rattle.std.specs.Prelude.{slice_get}
use Rattle.std.specs.Borrow.{Bor}
use Rattle.report_read.specs.Report.{Goal}
use Rattle.report_read.specs.View.{bytes_of}
use Rattle.report_shown.specs.Source.{first_list, other_lists}

pub others_dropped : {A : Type 0} (see : A → List Goal) (i : ℕ) (lists : List A) → other_lists (map see (drop i lists)) ≡ map see (drop (i + 1) lists)
others_dropped see zero [] = refl
others_dropped see zero (x ∷ lists) = refl
others_dropped see (suc i) [] = let e : suc i + 1 ≡ suc (i + 1) = omega arith in ap (λ n. map see (drop n [])) (sym e)
others_dropped see (suc i) (x ∷ lists) = let e : suc i + 1 ≡ suc (i + 1) = omega arith in others_dropped see i lists ∙ ap (λ n. map see (drop n (x ∷ lists))) (sym e)

pub seen_length : (ls : List (Bor (List ℕ))) → length (map bytes_of ls) ≡ length ls
seen_length [] = refl
seen_length (l ∷ ls) = let more = seen_length ls in omega (arith, more)

pub no_goals : {A : Type 0} (see : A → List Goal) (i : ℕ) (lists : List A) → slice_get lists i ≡ None → first_list (map see (drop i lists)) ≡ []
no_goals see zero [] e = refl
no_goals see zero (x ∷ lists) e = absurd cc
no_goals see (suc i) [] e = refl
no_goals see (suc i) (x ∷ lists) e = no_goals see i lists e

pub some_goals : {A : Type 0} (see : A → List Goal) (i : ℕ) (lists : List A) (x : A) → slice_get lists i ≡ Some x → first_list (map see (drop i lists)) ≡ see x
some_goals see zero [] x e = absurd cc
some_goals see zero (y ∷ lists) x e = ap see (let same : y ≡ x = cc in same)
some_goals see (suc i) [] x e = absurd cc
some_goals see (suc i) (y ∷ lists) x e = some_goals see i lists x e
