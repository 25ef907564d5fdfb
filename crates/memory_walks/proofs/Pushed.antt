-- Goals and exits that are pushed.
use Rattle.std.proofs.Common.{◌≡◌, ℕ, suc, ◌+◌, List, [], ◌∷◌, ◌++◌, length, refl, sym, ap, ◌∙◌, arith, add-zero, add-suc, suc-add}
use Rattle.walk_steps.specs.Walk.{Goal}
use Rattle.memory_walks.specs.declared.sinks.Claimed.{Claimed}
use Rattle.memory_walks.specs.View.{goal_in, goals_from}

goals_push : (n : ℕ) (cs : List Claimed) (c : Claimed) → goals_from n (cs ++ c ∷ []) ≡ goals_from n cs ++ goal_in (n + length cs) c ∷ []
goals_push n [] c = ap (λ m. goal_in m c ∷ []) (sym (add-zero n))
goals_push n (x ∷ cs) c = ap (λ gs. goal_in n x ∷ gs) (goals_push (suc n) cs c ∙ ap (λ m. goals_from (suc n) cs ++ goal_in m c ∷ []) (suc-add n (length cs) ∙ sym (add-suc n (length cs))))

goals_length : (n : ℕ) (cs : List Claimed) → length (goals_from n cs) ≡ length cs
goals_length n [] = refl
goals_length n (x ∷ cs) = ap suc (goals_length (suc n) cs)

pub one_taken : (cs ds : List Claimed) (c : Claimed) (gs : List Goal) → ds ≡ cs ++ c ∷ [] → goals_from 0 cs ≡ gs → goals_from 0 ds ≡ gs ++ goal_in (length gs) c ∷ []
one_taken cs ds c gs e h =
    let number : 0 + length cs ≡ length gs = (let l : length (goals_from 0 cs) ≡ length cs = goals_length 0 cs in let m = ap length h in omega (arith, l, m)) in
    ap (goals_from 0) e ∙ goals_push 0 cs c ∙ (λ i. h i ++ goal_in (number i) c ∷ [])
