-- A call in a predicate, looked for with a list of what is still to be looked at.
use Rattle.std.proofs.Common.{◌≡◌, ℕ, ◌+◌, ◌<◌, Bool, true, false, ◌||◌, List, [], ◌∷◌, ◌++◌, refl, sym, ap, ◌∙◌, arith}
use Rattle.std.specs.List.{list_any}
use Rattle.std.specs.Str.{bytes_eq}
use Rattle.std.specs.Borrow.{Bor}
use Rattle.c_syntax.specs.declared.annot.Pred.{Pred}
use Rattle.c_syntax.specs.Pred as p
use Rattle.c_syntax.specs.View.{view_pred}
use Rattle.acsl_guards.specs.Mentions.{calls}
use Rattle.acsl_guards.specs.Recursive.{pred_calls}
use Rattle.acsl_guards.specs.Parts.{pointed, preds_in, pred_own_calls, pred_parts}
use Rattle.acsl_guards.proofs.Turning.{ended, less, on, one_left, or_none, total}

so_by_parts : (f : List ℕ) (a : p.Pred) → pred_calls f a ≡ pred_own_calls f a || list_any (pred_calls f) (pred_parts a)
unfolding pred_own_calls pred_parts
so_by_parts f (p.always line) = refl
so_by_parts f (p.never line) = refl
so_by_parts f (p.not_of line a) = or_none (pred_calls f a)
so_by_parts f (p.and_of line a b) = ap (λ c. pred_calls f a || c) (or_none (pred_calls f b))
so_by_parts f (p.xor_of line a b) = ap (λ c. pred_calls f a || c) (or_none (pred_calls f b))
so_by_parts f (p.or_of line a b) = ap (λ c. pred_calls f a || c) (or_none (pred_calls f b))
so_by_parts f (p.implies line a b) = ap (λ c. pred_calls f a || c) (or_none (pred_calls f b))
so_by_parts f (p.iff line a b) = ap (λ c. pred_calls f a || c) (or_none (pred_calls f b))
so_by_parts f (p.cond line test a b) = ap (λ c. pred_calls f test || (pred_calls f a || c)) (or_none (pred_calls f b))
so_by_parts f (p.let_in line x value a) = ap (λ c. calls f value || c) (or_none (pred_calls f a))
so_by_parts f (p.chain line ts os) = or_none (list_any (calls f) ts)
so_by_parts f (p.for_all line bs a) = or_none (pred_calls f a)
so_by_parts f (p.for_some line bs a) = or_none (pred_calls f a)
so_by_parts f (p.valid line a) = or_none (calls f a)
so_by_parts f (p.valid_read line a) = or_none (calls f a)
so_by_parts f (p.separated line ts) = or_none (list_any (calls f) ts)
so_by_parts f (p.old line a) = or_none (pred_calls f a)
so_by_parts f (p.call line g args) = or_none (bytes_eq f g || list_any (calls f) args)

-- ---- how much is left

abbrev weight : p.Pred → ℕ
weight (p.not_of line a) = 1 + weight a
weight (p.and_of line a b) = 1 + (weight a + weight b)
weight (p.xor_of line a b) = 1 + (weight a + weight b)
weight (p.or_of line a b) = 1 + (weight a + weight b)
weight (p.implies line a b) = 1 + (weight a + weight b)
weight (p.iff line a b) = 1 + (weight a + weight b)
weight (p.cond line test a b) = 1 + (weight test + (weight a + weight b))
weight (p.let_in line x value a) = 1 + weight a
weight (p.for_all line bs a) = 1 + weight a
weight (p.for_some line bs a) = 1 + weight a
weight (p.old line a) = 1 + weight a
weight a = 1

parts_weigh : (a : p.Pred) → total weight (pred_parts a) < weight a
unfolding pred_parts
parts_weigh (p.always line) = omega arith
parts_weigh (p.never line) = omega arith
parts_weigh (p.not_of line a) = omega arith
parts_weigh (p.and_of line a b) = omega arith
parts_weigh (p.xor_of line a b) = omega arith
parts_weigh (p.or_of line a b) = omega arith
parts_weigh (p.implies line a b) = omega arith
parts_weigh (p.iff line a b) = omega arith
parts_weigh (p.cond line test a b) = omega arith
parts_weigh (p.let_in line x value a) = omega arith
parts_weigh (p.chain line ts os) = omega arith
parts_weigh (p.for_all line bs a) = omega arith
parts_weigh (p.for_some line bs a) = omega arith
parts_weigh (p.valid line a) = omega arith
parts_weigh (p.valid_read line a) = omega arith
parts_weigh (p.separated line ts) = omega arith
parts_weigh (p.old line a) = omega arith
parts_weigh (p.call line g args) = omega arith

abbrev pub left_weight : List (Bor Pred) → ℕ
left_weight l = total weight (preds_in l)

-- ---- one turn

module _ (l l' l'' : List (Bor Pred)) (a : Bor Pred) where
  pub lighter : l ≡ l' ++ a ∷ [] → preds_in l'' ≡ preds_in l' ++ pred_parts (view_pred a.now) → left_weight l'' < left_weight l
  lighter taken put = less view_pred l l' l'' a taken weight pred_parts parts_weigh put

  pub turn : (f : List ℕ) (whole b : Bool) → l ≡ l' ++ a ∷ [] → b ≡ pred_own_calls f (view_pred a.now) → b ≡ false → preds_in l'' ≡ preds_in l' ++ pred_parts (view_pred a.now)
      → list_any (pred_calls f) (preds_in l) ≡ whole → list_any (pred_calls f) (preds_in l'') ≡ whole
  turn f whole b taken is not_it put sofar = on view_pred l l' l'' a taken (pred_own_calls f) (pred_calls f) pred_parts (so_by_parts f) whole (sym is ∙ not_it) put sofar

  pub found : (f : List ℕ) (whole b : Bool) → l ≡ l' ++ a ∷ [] → b ≡ pred_own_calls f (view_pred a.now) → b ≡ true → list_any (pred_calls f) (preds_in l) ≡ whole → true ≡ whole
  found f whole b taken is is_it sofar = ended view_pred l l' l'' a taken (pred_own_calls f) (pred_calls f) pred_parts (so_by_parts f) whole (sym is ∙ is_it) sofar

-- before the first turn
pub begun : (l l' : List (Bor Pred)) (a : Pred) (f : List ℕ) → l ≡ [] → pointed l' ≡ pointed l ++ a ∷ [] → list_any (pred_calls f) (preds_in l') ≡ pred_calls f (view_pred a)
begun l l' a f none put = one_left view_pred l l' a (pred_calls f) none put

pub ruleset turns = (lighter, turn, found, begun)
