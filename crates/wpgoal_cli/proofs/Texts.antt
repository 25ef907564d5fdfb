-- Texts of formulas as those of goals that know nothing.
use Rattle.std.proofs.Common.{◌≡◌, ℕ, true, List, [], ◌∷◌, ◌++◌, refl, sym, ◌∙◌, ap, arith}
use Rattle.std.proofs.lemmas.List.{append_cancel_left, append_cancel_right}
use Rattle.std.specs.Prelude.{codes, Result, Err}
use Rattle.qed_terms.specs.declared.term.Goal.{Goal}
use Rattle.qed_terms.specs.Tree.{Tree, trees_of}
use Rattle.qed_terms.specs.View.{formula_tree}
use Rattle.qed_terms.specs.WellFormed.{is_goal}
use Rattle.goal_text.specs.declared.answer.GoalText.{GoalText}
use Rattle.goal_text.specs.declared.answer.GoalText.TheVariants as end
use Rattle.goal_text.specs.Held.{goal_held}
use Rattle.goal_text.specs.Text.{bracket, tree_text, tree_texts, goal_text}
use Rattle.goal_text.specs.Views.{known_of, check_of}
use Rattle.wpgoal_cli.specs.Lines.{IsTextOf, IsNoFormula}

abbrev front : List ℕ
front = codes "(imp (and) "

append_none : (xs : List ℕ) → xs ++ [] ≡ xs
append_none [] = refl
append_none (x ∷ xs) = ap (λ ys. x ∷ ys) (append_none xs)

pub check_text : (f : Tree) → goal_text [] f ≡ front ++ (tree_text f ++ 41 ∷ [])
check_text f = ap (λ t. front ++ (t ++ 41 ∷ [])) (append_none (tree_text f))

-- the text of a goal by the texts of its parts
abbrev text_of : (known : List (List ℕ)) → (check : List ℕ) → List ℕ
text_of ks c = bracket (codes "imp") (bracket (codes "and") ks ∷ c ∷ [])

differs : (a b : List ℕ) → 32 ∷ a ≡ 41 ∷ b → ⊥
differs a b e = let n : 32 ≡ 41 = ap first e in absurd (omega (arith, n))
  where
    first : List ℕ → ℕ
    first [] = 0
    first (x ∷ xs) = x

with_known : (t : List ℕ) (ts : List (List ℕ)) (c line : List ℕ) → text_of (t ∷ ts) c ≡ front ++ (line ++ 41 ∷ []) → ⊥
with_known t ts c line e = differs _ _ (append_cancel_left (codes "(imp (and") _ _ e)

without_known : (c line : List ℕ) → text_of [] c ≡ front ++ (line ++ 41 ∷ []) → c ≡ line
without_known c line e = append_cancel_right c line (41 ∷ []) (ap (λ t. t ++ 41 ∷ []) (sym (append_none c)) ∙ append_cancel_left front ((c ++ []) ++ 41 ∷ []) (line ++ 41 ∷ []) e)

only_check : (known : List Tree) (f : Tree) (line : List ℕ) → is_goal known f ≡ true → goal_text known f ≡ front ++ (line ++ 41 ∷ []) → IsTextOf line f
only_check [] f line w e = record { well_formed = w; spelled = without_known (tree_text f) line e }
only_check (k ∷ ks) f line w e = absurd (with_known (tree_text k) (tree_texts (trees_of ks)) (tree_text f) line e)

pub text_read : (g : Goal) (line text : List ℕ) → is_goal (known_of g) (check_of g) ≡ true → goal_text (known_of g) (check_of g) ≡ text → text ≡ front ++ (line ++ 41 ∷ []) → IsTextOf line (formula_tree g.check)
text_read g line text w e f = only_check (known_of g) (check_of g) line w (e ∙ f)

pub none_read : {T : Type 0} (x : GoalText) (line text : List ℕ) → text ≡ front ++ (line ++ 41 ∷ [])
    → ((known : List Tree) (check : Tree) → is_goal known check ≡ true → goal_held known check ≡ true → goal_text known check ≡ text → x ≡ end.NoMemory)
    → ◌≡◌ {A = Result T GoalText} (Err x) (Err end.NotAGoal) → IsNoFormula line
none_read {T} x line text t only e f w h k = ends x (only [] f w h (check_text f ∙ ap (λ s. front ++ (s ++ 41 ∷ [])) k ∙ sym t)) e
  where
    ends : (x : GoalText) → x ≡ end.NoMemory → ◌≡◌ {A = Result T GoalText} (Err x) (Err end.NotAGoal) → ⊥
    ends x p q = absurd cc
