-- The ranges of variables, one behind the other.
use Rattle.std.proofs.Common.{◌≡◌, ◌<◌, ◌≤◌, ℕ, zero, suc, ◌+◌, ◌-◌, ℤ, true, List, [], ◌∷◌, ◌++◌, map, drop, length, get_or, refl, sym, ap, ◌∙◌, append_assoc, append-nil, arith}
use Rattle.std.proofs.lemmas.List.{at_drop_more, at_drop_all, map-append}
use Rattle.wp_base.specs.declared.kinds.Kind.{Kind}
use Rattle.c_kinds.specs.Models.{low, high}
use Rattle.core_trees.specs.View.{view_variable, view_variables}
use Rattle.core_trees.specs.declared.variables.FunctionVariable.{FunctionVariable}
use Rattle.c_runs.specs.Program.{Variable, Facts}
use Rattle.qed_terms.specs.Meaning as sense
use Rattle.qed_terms.specs.Tree.{Tree, num, at_most}
use Rattle.plain_states.specs.Slots.{value_slot, local_value}
use Rattle.plain_states.specs.Scopes.{kind_of}
use Rattle.plain_runs.specs.Fitting.{Shape, sizes}
use Rattle.walk_steps.specs.Forms.{Slots}
use Rattle.program_steps.specs.Leaves.{fill, leaf}
use Rattle.program_steps.specs.Terms.{Texts}
use Rattle.program_steps.specs.Starting.{range_trees, file_ranges, param_ranges}
use Rattle.value_words.specs.OverSlots.{slot_term}
use Rattle.value_words.proofs.Filled.{leaf_written}

leaf_filled : (ts : Slots) (i : ℕ) → fill (ts ∷ []) (leaf 0 i) ≡ slot_term ts i
leaf_filled ts i = (leaf_written {strict = true} ts [] i).filled

module _ (m : sense.World) (p : Facts) (s : Shape) (texts : Texts) (ts : Slots) where
  -- both bounds of a slot
  pub range_put : (k : Kind) (i : ℕ) (old one two : List Tree) (lo hi : ℤ) (a b : Tree) → lo ≡ low p.model k → hi ≡ high p.model k → a ≡ at_most (num lo) (slot_term ts i)
      → b ≡ at_most (slot_term ts i) (num hi) → one ≡ old ++ a ∷ [] → two ≡ one ++ b ∷ [] → two ≡ old ++ map (fill (ts ∷ [])) (range_trees m p s texts k i)
  range_put k i old one two lo hi a b least most is_a is_b first second =
      second ∙ ap (λ xs. xs ++ b ∷ []) first ∙ append_assoc old (a ∷ []) (b ∷ [])
      ∙ (λ j. old ++ is_a j ∷ is_b j ∷ [])
      ∙ (λ j. old ++ at_most (num (least j)) (sym (leaf_filled ts i) j) ∷ at_most (sym (leaf_filled ts i) j) (num (most j)) ∷ [])

  -- ---- the variables of the file

  pub file_bounds_step : (gs : List FunctionVariable) (n i : ℕ) (x : FunctionVariable) (old new all : List Tree) → n < length gs → x ≡ get_or gs n x → i ≡ value_slot n
      → old ++ map (fill (ts ∷ [])) (file_ranges m p s texts n (view_variables (drop n gs))) ≡ all → new ≡ old ++ map (fill (ts ∷ [])) (range_trees m p s texts (kind_of (view_variable x)) i)
      → new ++ map (fill (ts ∷ [])) (file_ranges m p s texts (n + 1) (view_variables (drop (n + 1) gs))) ≡ all
  file_bounds_step gs n i x old new all lt is at h e =
      let rest = view_variables (drop (n + 1) gs) in
      let next : n + 1 ≡ suc n = omega arith in
      let these = range_trees m p s texts (kind_of (view_variable x)) i in
      ap (λ xs. xs ++ map (fill (ts ∷ [])) (file_ranges m p s texts (n + 1) rest)) e
      ∙ append_assoc old (map (fill (ts ∷ [])) these) (map (fill (ts ∷ [])) (file_ranges m p s texts (n + 1) rest))
      ∙ ap (λ xs. old ++ xs) (sym (map-append (fill (ts ∷ [])) these (file_ranges m p s texts (n + 1) rest)))
      ∙ (λ j. old ++ map (fill (ts ∷ [])) (range_trees m p s texts (kind_of (view_variable (is j))) (at j) ++ file_ranges m p s texts (next j) rest))
      ∙ sym (at_drop_more (λ xs. old ++ map (fill (ts ∷ [])) (file_ranges m p s texts n (view_variables xs))) gs n x lt)
      ∙ h

  pub file_bounds_done : (gs : List FunctionVariable) (n : ℕ) (old all : List Tree) → length gs ≤ n
      → old ++ map (fill (ts ∷ [])) (file_ranges m p s texts n (view_variables (drop n gs))) ≡ all → old ≡ all
  file_bounds_done gs n old all over h =
      sym (append-nil old) ∙ sym (at_drop_all (λ xs. old ++ map (fill (ts ∷ [])) (file_ranges m p s texts n (view_variables xs))) gs n over) ∙ h

  -- ---- parameters

  param_suc : (n x : ℕ) (v : Variable) (vs : List Variable) → 0 < n
      → param_ranges m p s texts n x (v ∷ vs) ≡ range_trees m p s texts (kind_of v) (local_value (sizes p s) x) ++ param_ranges m p s texts (n - 1) (suc x) vs
  param_suc zero x v vs lt = absurd (omega (arith, lt))
  param_suc (suc n) x v vs lt =
      let same : n ≡ suc n - 1 = omega arith in ap (λ k. range_trees m p s texts (kind_of v) (local_value (sizes p s) x) ++ param_ranges m p s texts k (suc x) vs) same

  pub param_bounds_step : (gs : List FunctionVariable) (params n i : ℕ) (x : FunctionVariable) (old new all : List Tree) → n < params → n < length gs → x ≡ get_or gs n x → i ≡ local_value (sizes p s) n
      → old ++ map (fill (ts ∷ [])) (param_ranges m p s texts (params - n) n (view_variables (drop n gs))) ≡ all
      → new ≡ old ++ map (fill (ts ∷ [])) (range_trees m p s texts (kind_of (view_variable x)) i)
      → new ++ map (fill (ts ∷ [])) (param_ranges m p s texts (params - (n + 1)) (n + 1) (view_variables (drop (n + 1) gs))) ≡ all
  param_bounds_step gs params n i x old new all some lt is at h e =
      let rest = view_variables (drop (n + 1) gs) in
      let next : n + 1 ≡ suc n = omega arith in
      let less : params - (n + 1) ≡ params - n - 1 = omega (arith, some) in
      let left : 0 < params - n = omega (arith, some) in
      let these = range_trees m p s texts (kind_of (view_variable x)) i in
      ap (λ xs. xs ++ map (fill (ts ∷ [])) (param_ranges m p s texts (params - (n + 1)) (n + 1) rest)) e
      ∙ append_assoc old (map (fill (ts ∷ [])) these) (map (fill (ts ∷ [])) (param_ranges m p s texts (params - (n + 1)) (n + 1) rest))
      ∙ ap (λ xs. old ++ xs) (sym (map-append (fill (ts ∷ [])) these (param_ranges m p s texts (params - (n + 1)) (n + 1) rest)))
      ∙ (λ j. old ++ map (fill (ts ∷ [])) (range_trees m p s texts (kind_of (view_variable (is j))) (at j) ++ param_ranges m p s texts (less j) (next j) rest))
      ∙ ap (λ xs. old ++ map (fill (ts ∷ [])) xs) (sym (param_suc (params - n) n (view_variable (get_or gs n x)) rest left))
      ∙ sym (at_drop_more (λ xs. old ++ map (fill (ts ∷ [])) (param_ranges m p s texts (params - n) n (view_variables xs))) gs n x lt)
      ∙ h

  param_none : (n x : ℕ) → param_ranges m p s texts n x [] ≡ []
  param_none zero x = refl
  param_none (suc n) x = refl

  pub param_bounds_done : (gs : List FunctionVariable) (params n : ℕ) (old all : List Tree) → length gs ≤ n
      → old ++ map (fill (ts ∷ [])) (param_ranges m p s texts (params - n) n (view_variables (drop n gs))) ≡ all → old ≡ all
  param_bounds_done gs params n old all over h =
      sym (append-nil old) ∙ ap (λ xs. old ++ map (fill (ts ∷ [])) xs) (sym (param_none (params - n) n))
      ∙ sym (at_drop_all (λ xs. old ++ map (fill (ts ∷ [])) (param_ranges m p s texts (params - n) n (view_variables xs))) gs n over) ∙ h

  pub param_bounds_over : (gs : List FunctionVariable) (params n : ℕ) (old all : List Tree) → params ≤ n
      → old ++ map (fill (ts ∷ [])) (param_ranges m p s texts (params - n) n (view_variables (drop n gs))) ≡ all → old ≡ all
  param_bounds_over gs params n old all over h =
      let none : params - n ≡ 0 = omega (arith, over) in
      sym (append-nil old) ∙ ap (λ k. old ++ map (fill (ts ∷ [])) (param_ranges m p s texts k n (view_variables (drop n gs)))) (sym none) ∙ h
