-- The names that a predicate has beside those of the predicates in it, those that it hides in them, and these predicates, by shapes.
use Rattle.std.proofs.Common.{◌≡◌, ℕ, List, [], ◌∷◌, ◌++◌, Result, Ok, Err, OnOk, map, sym, ap, ◌∙◌, append-nil, append_assoc}
use Rattle.std.specs.Borrow.{Bor}
use Rattle.std.proofs.lemmas.List.{map-append}
use Rattle.c_syntax.specs.declared.annot.Pred.{Pred}
use Rattle.c_syntax.specs.declared.annot.PredNode.{PredNode}
use Rattle.c_syntax.specs.declared.annot.PredNode.TheVariants as pred
use Rattle.c_syntax.specs.declared.shapes.preds.PredLeaf.{PredLeaf}
use Rattle.c_syntax.specs.declared.shapes.preds.PredLeaf.TheVariants as leaf
use Rattle.c_syntax.specs.declared.shapes.preds.PredOne.{PredOne}
use Rattle.c_syntax.specs.declared.shapes.preds.PredOne.TheVariants as one
use Rattle.c_syntax.specs.declared.shapes.preds.PredTwo.{PredTwo}
use Rattle.c_syntax.specs.declared.shapes.preds.PredTwo.TheVariants as two
use Rattle.c_syntax.specs.PredShapes.{pred_leaf, pred_one, pred_two}
use Rattle.c_syntax.specs.View.{view_pred, view_pred_node}
use Rattle.c_syntax.proofs.Equations.{view_pred_node-True, view_pred_node-False, view_pred_node-Not, view_pred_node-And, view_pred_node-Xor, view_pred_node-Or, view_pred_node-Implies, view_pred_node-Iff, view_pred_node-Cond, view_pred_node-Let, view_pred_node-Chain, view_pred_node-Forall, view_pred_node-Exists, view_pred_node-Valid, view_pred_node-ValidRead, view_pred_node-Separated, view_pred_node-Old, view_pred_node-Call}
use Rattle.c_taken.specs.declared.preds.Piece.{Piece}
use Rattle.c_taken.specs.declared.preds.Piece.TheVariants.{Look}
use Rattle.c_taken.specs.Pieces.{Task, look, tasks_in, pred_own, bound, pred_parts, leaf_own, head_own, head_bound}

-- ---- its own names

pub own_leaf : (head : PredLeaf) (line : ℕ) → pred_own (view_pred_node (pred_leaf head) line) ≡ leaf_own head
unfolding pred_own
own_leaf leaf.True line = ap pred_own (view_pred_node-True line)
own_leaf leaf.False line = ap pred_own (view_pred_node-False line)
own_leaf (leaf.Chain terms ops) line = ap pred_own (view_pred_node-Chain terms.now ops.now line)
own_leaf (leaf.Valid pointer) line = ap pred_own (view_pred_node-Valid pointer.now line)
own_leaf (leaf.ValidRead pointer) line = ap pred_own (view_pred_node-ValidRead pointer.now line)
own_leaf (leaf.Separated pointers) line = ap pred_own (view_pred_node-Separated pointers.now line)
own_leaf (leaf.Call f args) line = ap pred_own (view_pred_node-Call f.now args.now line)

pub own_one : (head : PredOne) (a : Pred) (line : ℕ) → pred_own (view_pred_node (pred_one head a) line) ≡ head_own head
unfolding pred_own
own_one one.Not a line = ap pred_own (view_pred_node-Not a line)
own_one one.Old a line = ap pred_own (view_pred_node-Old a line)
own_one (one.Let x value) a line = ap pred_own (view_pred_node-Let x.now value.now a line)
own_one (one.Forall binders) a line = ap pred_own (view_pred_node-Forall binders.now a line)
own_one (one.Exists binders) a line = ap pred_own (view_pred_node-Exists binders.now a line)

pub own_two : (head : PredTwo) (a b : Pred) (line : ℕ) → pred_own (view_pred_node (pred_two head a b) line) ≡ []
unfolding pred_own
own_two two.And a b line = ap pred_own (view_pred_node-And a b line)
own_two two.Xor a b line = ap pred_own (view_pred_node-Xor a b line)
own_two two.Or a b line = ap pred_own (view_pred_node-Or a b line)
own_two two.Implies a b line = ap pred_own (view_pred_node-Implies a b line)
own_two two.Iff a b line = ap pred_own (view_pred_node-Iff a b line)

pub own_cond : (test a b : Pred) (line : ℕ) → pred_own (view_pred_node (pred.Cond test a b) line) ≡ []
unfolding pred_own
own_cond test a b line = ap pred_own (view_pred_node-Cond test a b line)

pub ruleset own_laws = (own_leaf, own_one, own_two, own_cond)

-- ---- the names that it hides

pub bound_leaf : (head : PredLeaf) (line : ℕ) → bound (view_pred_node (pred_leaf head) line) ≡ []
unfolding bound
bound_leaf leaf.True line = ap bound (view_pred_node-True line)
bound_leaf leaf.False line = ap bound (view_pred_node-False line)
bound_leaf (leaf.Chain terms ops) line = ap bound (view_pred_node-Chain terms.now ops.now line)
bound_leaf (leaf.Valid pointer) line = ap bound (view_pred_node-Valid pointer.now line)
bound_leaf (leaf.ValidRead pointer) line = ap bound (view_pred_node-ValidRead pointer.now line)
bound_leaf (leaf.Separated pointers) line = ap bound (view_pred_node-Separated pointers.now line)
bound_leaf (leaf.Call f args) line = ap bound (view_pred_node-Call f.now args.now line)

pub bound_one : (head : PredOne) (a : Pred) (line : ℕ) → bound (view_pred_node (pred_one head a) line) ≡ head_bound head
unfolding bound
bound_one one.Not a line = ap bound (view_pred_node-Not a line)
bound_one one.Old a line = ap bound (view_pred_node-Old a line)
bound_one (one.Let x value) a line = ap bound (view_pred_node-Let x.now value.now a line)
bound_one (one.Forall binders) a line = ap bound (view_pred_node-Forall binders.now a line)
bound_one (one.Exists binders) a line = ap bound (view_pred_node-Exists binders.now a line)

pub bound_two : (head : PredTwo) (a b : Pred) (line : ℕ) → bound (view_pred_node (pred_two head a b) line) ≡ []
unfolding bound
bound_two two.And a b line = ap bound (view_pred_node-And a b line)
bound_two two.Xor a b line = ap bound (view_pred_node-Xor a b line)
bound_two two.Or a b line = ap bound (view_pred_node-Or a b line)
bound_two two.Implies a b line = ap bound (view_pred_node-Implies a b line)
bound_two two.Iff a b line = ap bound (view_pred_node-Iff a b line)

pub bound_cond : (test a b : Pred) (line : ℕ) → bound (view_pred_node (pred.Cond test a b) line) ≡ []
unfolding bound
bound_cond test a b line = ap bound (view_pred_node-Cond test a b line)

pub ruleset bound_laws = (bound_leaf, bound_one, bound_two, bound_cond)

-- ---- what is put behind what is still to be done

leaf_parts : (head : PredLeaf) (line : ℕ) → pred_parts (view_pred_node (pred_leaf head) line) ≡ []
unfolding pred_parts
leaf_parts leaf.True line = ap pred_parts (view_pred_node-True line)
leaf_parts leaf.False line = ap pred_parts (view_pred_node-False line)
leaf_parts (leaf.Chain terms ops) line = ap pred_parts (view_pred_node-Chain terms.now ops.now line)
leaf_parts (leaf.Valid pointer) line = ap pred_parts (view_pred_node-Valid pointer.now line)
leaf_parts (leaf.ValidRead pointer) line = ap pred_parts (view_pred_node-ValidRead pointer.now line)
leaf_parts (leaf.Separated pointers) line = ap pred_parts (view_pred_node-Separated pointers.now line)
leaf_parts (leaf.Call f args) line = ap pred_parts (view_pred_node-Call f.now args.now line)

one_parts : (head : PredOne) (a : Pred) (line : ℕ) → pred_parts (view_pred_node (pred_one head a) line) ≡ view_pred a ∷ []
unfolding pred_parts
one_parts one.Not a line = ap pred_parts (view_pred_node-Not a line)
one_parts one.Old a line = ap pred_parts (view_pred_node-Old a line)
one_parts (one.Let x value) a line = ap pred_parts (view_pred_node-Let x.now value.now a line)
one_parts (one.Forall binders) a line = ap pred_parts (view_pred_node-Forall binders.now a line)
one_parts (one.Exists binders) a line = ap pred_parts (view_pred_node-Exists binders.now a line)

two_parts : (head : PredTwo) (a b : Pred) (line : ℕ) → pred_parts (view_pred_node (pred_two head a b) line) ≡ view_pred a ∷ view_pred b ∷ []
unfolding pred_parts
two_parts two.And a b line = ap pred_parts (view_pred_node-And a b line)
two_parts two.Xor a b line = ap pred_parts (view_pred_node-Xor a b line)
two_parts two.Or a b line = ap pred_parts (view_pred_node-Or a b line)
two_parts two.Implies a b line = ap pred_parts (view_pred_node-Implies a b line)
two_parts two.Iff a b line = ap pred_parts (view_pred_node-Iff a b line)

cond_parts : (test a b : Pred) (line : ℕ) → pred_parts (view_pred_node (pred.Cond test a b) line) ≡ view_pred test ∷ view_pred a ∷ view_pred b ∷ []
unfolding pred_parts
cond_parts test a b line = ap pred_parts (view_pred_node-Cond test a b line)

-- one predicate more
pub more_tasks : (l l' : List Piece) (a : Bor Pred) → l' ≡ l ++ Look a ∷ [] → tasks_in l' ≡ tasks_in l ++ look (view_pred a.now) ∷ []
more_tasks l l' a is = ap tasks_in is ∙ map-append _ l (Look a ∷ [])

-- by the node x, as the code finds it
module _ (l : List Task) (x : PredNode) (line : ℕ) where
  pub leaf_put : (head : PredLeaf) → x ≡ pred_leaf head → l ≡ l ++ map look (pred_parts (view_pred_node x line))
  leaf_put head is = sym (ap (λ n. l ++ map look (pred_parts (view_pred_node n line))) is ∙ ap (λ ps. l ++ map look ps) (leaf_parts head line) ∙ append-nil l)

  pub one_put : (l' : List Task) (head : PredOne) (a b : Pred) → x ≡ pred_one head a → b ≡ a → l' ≡ l ++ look (view_pred b) ∷ [] → l' ≡ l ++ map look (pred_parts (view_pred_node x line))
  one_put l' head a b is same put =
      put ∙ ap (λ c. l ++ look (view_pred c) ∷ []) same ∙ sym (ap (λ n. l ++ map look (pred_parts (view_pred_node n line))) is ∙ ap (λ ps. l ++ map look ps) (one_parts head a line))

  pub two_put : (l' l'' : List Task) (head : PredTwo) (a b a' b' : Pred) → x ≡ pred_two head a b → a' ≡ a → b' ≡ b → l' ≡ l ++ look (view_pred a') ∷ [] → l'' ≡ l' ++ look (view_pred b') ∷ []
      → l'' ≡ l ++ map look (pred_parts (view_pred_node x line))
  two_put l' l'' head a b a' b' is first second put put' =
      put' ∙ ap (λ ts. ts ++ look (view_pred b') ∷ []) put ∙ append_assoc l (look (view_pred a') ∷ []) (look (view_pred b') ∷ [])
      ∙ (λ i. l ++ (look (view_pred (first i)) ∷ look (view_pred (second i)) ∷ []))
      ∙ sym (ap (λ n. l ++ map look (pred_parts (view_pred_node n line))) is ∙ ap (λ ps. l ++ map look ps) (two_parts head a b line))

  pub cond_put : (l' l'' l''' : List Task) (test a b test' a' b' : Pred) → x ≡ pred.Cond test a b → test' ≡ test → a' ≡ a → b' ≡ b
      → l' ≡ l ++ look (view_pred test') ∷ [] → l'' ≡ l' ++ look (view_pred a') ∷ [] → l''' ≡ l'' ++ look (view_pred b') ∷ []
      → l''' ≡ l ++ map look (pred_parts (view_pred_node x line))
  cond_put l' l'' l''' test a b test' a' b' is zeroth first second put put' put'' =
      put'' ∙ ap (λ ts. ts ++ look (view_pred b') ∷ []) (put' ∙ ap (λ ts. ts ++ look (view_pred a') ∷ []) put ∙ append_assoc l (look (view_pred test') ∷ []) (look (view_pred a') ∷ []))
      ∙ append_assoc l (look (view_pred test') ∷ look (view_pred a') ∷ []) (look (view_pred b') ∷ [])
      ∙ (λ i. l ++ (look (view_pred (zeroth i)) ∷ look (view_pred (first i)) ∷ look (view_pred (second i)) ∷ []))
      ∙ sym (ap (λ n. l ++ map look (pred_parts (view_pred_node n line))) is ∙ ap (λ ps. l ++ map look ps) (cond_parts test a b line))

pub ruleset part_laws = (leaf_put, one_put, two_put, cond_put)

-- where a call has put something
pub moved_ok : {A E X : Type 0} (r : Result A E) (x y z : X) → y ≡ z → OnOk r (x ≡ y) → OnOk r (x ≡ z)
moved_ok (Ok v) x y z e h = h ∙ e
moved_ok (Err v) x y z e h = tt
