-- Items that pass a test, in turn.
use Rattle.std.proofs.Common.{◌≡◌, ◌<◌, ◌≤◌, ℕ, zero, suc, ◌+◌, ◌==◌, Bool, true, false, ◌&&◌, List, [], ◌∷◌, map, length, drop, get_or, refl, sym, ap, ◌∙◌, arith}
use Rattle.std.specs.List.{list_all}
use Rattle.std.proofs.lemmas.Bool.Decides.{nat_tests}
use Rattle.std.proofs.lemmas.List.{at_drop_more, at_drop_all}
use Rattle.acsl_trees.specs.declared.tree.Tree.{Tree as Code}
use Rattle.acsl_trees.specs.Tree.{view_trees}
use Rattle.c_runs.specs.Program.{Facts}
use Rattle.plain_runs.specs.Fitting.{Shape}
use Rattle.program_steps.specs.Terms.{Texts}
use Rattle.checked_trees.specs.declared.steps.Step.{Step}
use Rattle.checked_trees.specs.View.{view_step, view_steps}
use Rattle.plain_annotations.specs.Places.{are_none}
use Rattle.plain_annotations.specs.Annotated.{step_claims, all_claim}
use Rattle.plain_trees.proofs.Reading.{passed, failed}

module _ {X : Type 0} {Y : Type 0} (view : X → Y) (f : Y → Bool) where
  item_next : (xs : List X) (i : ℕ) (x : X) (b : Bool) → i < length xs → x ≡ get_or xs i x → b ≡ f (view x)
      → list_all f (map view (drop i xs)) ≡ (b && list_all f (map view (drop (i + 1) xs)))
  item_next xs i x b lt is made =
      at_drop_more (λ ys. list_all f (map view ys)) xs i x lt
      ∙ ap (λ c. c && list_all f (map view (drop (i + 1) xs))) (ap (λ y. f (view y)) (sym is) ∙ sym made)

  pub item_turn : (xs : List X) (i : ℕ) (x : X) (b all : Bool) → i < length xs → x ≡ get_or xs i x → b ≡ f (view x) → b ≡ true
      → list_all f (map view (drop i xs)) ≡ all → list_all f (map view (drop (i + 1) xs)) ≡ all
  item_turn xs i x b all lt is made fits so_far = passed b (list_all f (map view (drop (i + 1) xs))) all fits (sym (item_next xs i x b lt is made) ∙ so_far)

  pub item_fault : (xs : List X) (i : ℕ) (x : X) (b all : Bool) → i < length xs → x ≡ get_or xs i x → b ≡ f (view x) → b ≡ false
      → list_all f (map view (drop i xs)) ≡ all → false ≡ all
  item_fault xs i x b all lt is made fails so_far = failed b (list_all f (map view (drop (i + 1) xs))) all fails (sym (item_next xs i x b lt is made) ∙ so_far)

  pub items_done : (xs : List X) (i : ℕ) (all : Bool) → length xs ≤ i → list_all f (map view (drop i xs)) ≡ all → true ≡ all
  items_done xs i all past so_far = sym (at_drop_all (λ ys. list_all f (map view ys)) xs i past) ∙ so_far

-- ---- no item

some_items : (n : ℕ) → (suc n == 0) ≡ false
some_items n = grind (arith, nat_tests)

pub none_is : (ts : List Code) → (length ts == 0) ≡ are_none (view_trees ts)
none_is [] = refl
none_is (t ∷ ts) = some_items (length ts)

-- ---- statements

module _ (p : Facts) (texts : Texts) (s : Shape) where
  step_next : (xs : List Step) (i : ℕ) (x : Step) (b : Bool) → i < length xs → x ≡ get_or xs i x → b ≡ step_claims p texts s (view_step x)
      → all_claim p texts s (view_steps (drop i xs)) ≡ (b && all_claim p texts s (view_steps (drop (i + 1) xs)))
  step_next xs i x b lt is made =
      at_drop_more (λ ys. all_claim p texts s (view_steps ys)) xs i x lt
      ∙ ap (λ c. c && all_claim p texts s (view_steps (drop (i + 1) xs))) (ap (λ y. step_claims p texts s (view_step y)) (sym is) ∙ sym made)

  pub step_turn : (xs : List Step) (i : ℕ) (x : Step) (b all : Bool) → i < length xs → x ≡ get_or xs i x → b ≡ step_claims p texts s (view_step x) → b ≡ true
      → all_claim p texts s (view_steps (drop i xs)) ≡ all → all_claim p texts s (view_steps (drop (i + 1) xs)) ≡ all
  step_turn xs i x b all lt is made fits so_far =
      passed b (all_claim p texts s (view_steps (drop (i + 1) xs))) all fits (sym (step_next xs i x b lt is made) ∙ so_far)

  pub step_fault : (xs : List Step) (i : ℕ) (x : Step) (b all : Bool) → i < length xs → x ≡ get_or xs i x → b ≡ step_claims p texts s (view_step x) → b ≡ false
      → all_claim p texts s (view_steps (drop i xs)) ≡ all → false ≡ all
  step_fault xs i x b all lt is made fails so_far =
      failed b (all_claim p texts s (view_steps (drop (i + 1) xs))) all fails (sym (step_next xs i x b lt is made) ∙ so_far)

  pub steps_done : (xs : List Step) (i : ℕ) (all : Bool) → length xs ≤ i → all_claim p texts s (view_steps (drop i xs)) ≡ all → true ≡ all
  steps_done xs i all past so_far = sym (at_drop_all (λ ys. all_claim p texts s (view_steps ys)) xs i past) ∙ so_far

pub ruleset step_laws = (step_turn, step_fault, steps_done)
