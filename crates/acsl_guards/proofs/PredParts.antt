-- The calls that a predicate has beside those of the predicates in it, and these predicates, by its shape.
use Rattle.std.proofs.Common.{◌≡◌, ℕ, Bool, false, List, [], ◌∷◌, ◌++◌, map, sym, ap, ◌∙◌, append-nil}
use Rattle.std.specs.Borrow.{Bor}
use Rattle.std.proofs.lemmas.List.{map-append}
use Rattle.c_syntax.specs.declared.annot.Pred.{Pred}
use Rattle.c_syntax.specs.declared.annot.PredNode.{PredNode}
use Rattle.c_syntax.specs.declared.annot.PredNode.TheVariants as pred
use Rattle.c_syntax.specs.declared.shapes.preds.PredLeaf.{PredLeaf}
use Rattle.c_syntax.specs.declared.shapes.preds.PredLeaf.TheVariants as leaf
use Rattle.c_syntax.specs.declared.shapes.preds.PredOne.{PredOne}
use Rattle.c_syntax.specs.declared.shapes.preds.PredOne.TheVariants as one
use Rattle.c_syntax.specs.declared.shapes.preds.PredTwo.{PredTwo}
use Rattle.c_syntax.specs.declared.shapes.preds.PredTwo.TheVariants as two
use Rattle.c_syntax.specs.PredShapes.{pred_leaf, pred_one, pred_two}
use Rattle.c_syntax.specs.View.{view_pred, view_pred_node}
use Rattle.c_syntax.proofs.Equations.{view_pred_node-True, view_pred_node-False, view_pred_node-Not, view_pred_node-And, view_pred_node-Xor, view_pred_node-Or, view_pred_node-Implies, view_pred_node-Iff, view_pred_node-Cond, view_pred_node-Let, view_pred_node-Chain, view_pred_node-Forall, view_pred_node-Exists, view_pred_node-Valid, view_pred_node-ValidRead, view_pred_node-Separated, view_pred_node-Old, view_pred_node-Call}
use Rattle.acsl_guards.specs.Parts.{head_calls, leaf_calls, pointed, pred_own_calls, pred_parts, preds_in}

-- ---- its own calls

module _ (f : List ℕ) (line : ℕ) where
  abbrev Own : PredNode → Bool → Type 0
  Own x b = pred_own_calls f (view_pred_node x line) ≡ b

  pub own_leaf : (head : PredLeaf) → Own (pred_leaf head) (leaf_calls f head)
  unfolding pred_own_calls
  own_leaf leaf.True = ap (pred_own_calls f) (view_pred_node-True line)
  own_leaf leaf.False = ap (pred_own_calls f) (view_pred_node-False line)
  own_leaf (leaf.Chain terms ops) = ap (pred_own_calls f) (view_pred_node-Chain terms.now ops.now line)
  own_leaf (leaf.Valid pointer) = ap (pred_own_calls f) (view_pred_node-Valid pointer.now line)
  own_leaf (leaf.ValidRead pointer) = ap (pred_own_calls f) (view_pred_node-ValidRead pointer.now line)
  own_leaf (leaf.Separated pointers) = ap (pred_own_calls f) (view_pred_node-Separated pointers.now line)
  own_leaf (leaf.Call g args) = ap (pred_own_calls f) (view_pred_node-Call g.now args.now line)

  pub own_one : (head : PredOne) (a : Pred) → Own (pred_one head a) (head_calls f head)
  unfolding pred_own_calls
  own_one one.Not a = ap (pred_own_calls f) (view_pred_node-Not a line)
  own_one one.Old a = ap (pred_own_calls f) (view_pred_node-Old a line)
  own_one (one.Let x value) a = ap (pred_own_calls f) (view_pred_node-Let x.now value.now a line)
  own_one (one.Forall binders) a = ap (pred_own_calls f) (view_pred_node-Forall binders.now a line)
  own_one (one.Exists binders) a = ap (pred_own_calls f) (view_pred_node-Exists binders.now a line)

  pub own_two : (head : PredTwo) (a b : Pred) → Own (pred_two head a b) false
  unfolding pred_own_calls
  own_two two.And a b = ap (pred_own_calls f) (view_pred_node-And a b line)
  own_two two.Xor a b = ap (pred_own_calls f) (view_pred_node-Xor a b line)
  own_two two.Or a b = ap (pred_own_calls f) (view_pred_node-Or a b line)
  own_two two.Implies a b = ap (pred_own_calls f) (view_pred_node-Implies a b line)
  own_two two.Iff a b = ap (pred_own_calls f) (view_pred_node-Iff a b line)

  pub own_cond : (test a b : Pred) → Own (pred.Cond test a b) false
  unfolding pred_own_calls
  own_cond test a b = ap (pred_own_calls f) (view_pred_node-Cond test a b line)

pub ruleset own_laws = (own_leaf, own_one, own_two, own_cond)

-- ---- what it holds

module _ (line : ℕ) where
  abbrev Holds : PredNode → List Pred → Type 0
  Holds x xs = pred_parts (view_pred_node x line) ≡ map view_pred xs

  leaf_parts : (head : PredLeaf) → Holds (pred_leaf head) []
  unfolding pred_parts
  leaf_parts leaf.True = ap pred_parts (view_pred_node-True line)
  leaf_parts leaf.False = ap pred_parts (view_pred_node-False line)
  leaf_parts (leaf.Chain terms ops) = ap pred_parts (view_pred_node-Chain terms.now ops.now line)
  leaf_parts (leaf.Valid pointer) = ap pred_parts (view_pred_node-Valid pointer.now line)
  leaf_parts (leaf.ValidRead pointer) = ap pred_parts (view_pred_node-ValidRead pointer.now line)
  leaf_parts (leaf.Separated pointers) = ap pred_parts (view_pred_node-Separated pointers.now line)
  leaf_parts (leaf.Call f args) = ap pred_parts (view_pred_node-Call f.now args.now line)

  one_parts : (head : PredOne) (a : Pred) → Holds (pred_one head a) (a ∷ [])
  unfolding pred_parts
  one_parts one.Not a = ap pred_parts (view_pred_node-Not a line)
  one_parts one.Old a = ap pred_parts (view_pred_node-Old a line)
  one_parts (one.Let x value) a = ap pred_parts (view_pred_node-Let x.now value.now a line)
  one_parts (one.Forall binders) a = ap pred_parts (view_pred_node-Forall binders.now a line)
  one_parts (one.Exists binders) a = ap pred_parts (view_pred_node-Exists binders.now a line)

  two_parts : (head : PredTwo) (a b : Pred) → Holds (pred_two head a b) (a ∷ b ∷ [])
  unfolding pred_parts
  two_parts two.And a b = ap pred_parts (view_pred_node-And a b line)
  two_parts two.Xor a b = ap pred_parts (view_pred_node-Xor a b line)
  two_parts two.Or a b = ap pred_parts (view_pred_node-Or a b line)
  two_parts two.Implies a b = ap pred_parts (view_pred_node-Implies a b line)
  two_parts two.Iff a b = ap pred_parts (view_pred_node-Iff a b line)

  cond_parts : (test a b : Pred) → Holds (pred.Cond test a b) (test ∷ a ∷ b ∷ [])
  unfolding pred_parts
  cond_parts test a b = ap pred_parts (view_pred_node-Cond test a b line)

-- by the node x, as the code finds it
module _ (l l' : List (Bor Pred)) (x : PredNode) (line : ℕ) where
  abbrev Put : List (Bor Pred) → Type 0
  Put after = preds_in after ≡ preds_in l ++ pred_parts (view_pred_node x line)

  put : (xs : List Pred) (n : PredNode) → x ≡ n → Holds line n xs → pointed l' ≡ pointed l ++ xs → Put l'
  put xs n is parts there =
      ap (map view_pred) there ∙ map-append view_pred (pointed l) xs ∙ ap (λ ys. preds_in l ++ ys) (sym (ap (λ n. pred_parts (view_pred_node n line)) is ∙ parts))

  pub leaf_put : (head : PredLeaf) → x ≡ pred_leaf head → Put l
  leaf_put head is = sym (ap (λ ys. preds_in l ++ ys) (ap (λ n. pred_parts (view_pred_node n line)) is ∙ leaf_parts line head) ∙ append-nil (preds_in l))

  pub one_put : (head : PredOne) (a b : Pred) → x ≡ pred_one head a → b ≡ a → pointed l' ≡ pointed l ++ b ∷ [] → Put l'
  one_put head a b is same there = put (b ∷ []) (pred_one head a) is (one_parts line head a ∙ ap (λ c. view_pred c ∷ []) (sym same)) there

  pub two_put : (head : PredTwo) (a b a' b' : Pred) → x ≡ pred_two head a b → a' ≡ a → b' ≡ b → pointed l' ≡ pointed l ++ (a' ∷ b' ∷ []) → Put l'
  two_put head a b a' b' is first second there =
      put (a' ∷ b' ∷ []) (pred_two head a b) is (two_parts line head a b ∙ (λ i. view_pred (sym first i) ∷ view_pred (sym second i) ∷ [])) there

  pub cond_put : (test a b test' a' b' : Pred) → x ≡ pred.Cond test a b → test' ≡ test → a' ≡ a → b' ≡ b → pointed l' ≡ pointed l ++ (test' ∷ a' ∷ b' ∷ []) → Put l'
  cond_put test a b test' a' b' is zeroth first second there =
      put (test' ∷ a' ∷ b' ∷ []) (pred.Cond test a b) is (cond_parts line test a b ∙ (λ i. view_pred (sym zeroth i) ∷ view_pred (sym first i) ∷ view_pred (sym second i) ∷ [])) there

pub ruleset part_laws = (leaf_put, one_put, two_put, cond_put)
