-- A list of one kid.
use Rattle.std.proofs.Common.{◌≡◌, List, [], ◌∷◌, ◌++◌, length, Some, None, ap, refl, arith, length-append}
use Rattle.acsl_trees.specs.declared.tree.Tree.{Tree}
use Rattle.acsl_trees.specs.Tree.{trees_of, view_tree, view_trees}
use Rattle.acsl_rules.specs.Operators.{only_of}

popped_by : (xs ys : List Tree) (t : Tree) → xs ≡ ys ++ t ∷ [] → length ys ≡ 0 → only_of (trees_of (view_trees xs)) ≡ Some (view_tree t)
popped_by xs [] t whole none = ap (λ ts. only_of (trees_of (view_trees ts))) whole
popped_by xs (y ∷ ys) t whole none = absurd (omega arith)

pub only_popped : (xs ys : List Tree) (t : Tree) → length xs ≡ 1 → xs ≡ ys ++ t ∷ [] → only_of (trees_of (view_trees xs)) ≡ Some (view_tree t)
only_popped xs ys t one whole = popped_by xs ys t whole (omega (arith, ap length whole, length-append ys (t ∷ [])))

pub only_none : (xs : List Tree) → (length xs ≡ 1 → ⊥) → only_of (trees_of (view_trees xs)) ≡ None
only_none [] h = refl
only_none (x ∷ []) h = absurd (h refl)
only_none (x ∷ y ∷ ys) h = refl

pub ruleset only_laws = (only_popped, only_none)
