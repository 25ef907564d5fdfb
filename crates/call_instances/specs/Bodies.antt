-- Bodies with arguments that stand in slots.
use Rattle.std.specs.Prelude.{ℕ, zero, suc, List, [], ◌∷◌, Option, Some, None}
use Rattle.qed_terms.specs.declared.head.Head.{Head}
use Rattle.qed_terms.specs.declared.head.Head.TheVariants as h
use Rattle.qed_terms.specs.Setting.{Param, Logic}
use Rattle.qed_terms.specs.Tree.{Tree, node, Trees, stop, more, trees_of, num, at_most, less, equal, or_of}
use Rattle.qed_linear.specs.Linear.{unwrap_or}
use Rattle.qed_calls.specs.Calls.{argument_for, with_arguments}

-- what stands in so many slots, from a slot on
abbrev pub in_slots : (ℕ → Tree) → (from count : ℕ) → Trees
in_slots f i zero = stop
in_slots f i (suc n) = more (f i) (in_slots f (suc i) n)

-- the argument for a head that is a name
abbrev pub argument_at : List Param → Trees → Head → Option Tree
argument_at ps us (h.Var x s) = argument_for ps us x s
argument_at ps us head = None

-- what takes the place of a head over kids in which arguments are placed
abbrev pub placed_tree : List Param → Trees → Head → List Tree → Tree
placed_tree ps us head ts = unwrap_or (argument_at ps us head) (node head (trees_of ts))

-- ---- the formulas of a call

-- above the cut or the base case
abbrev pub up_to_cut : Logic → Trees → (call number : Tree) → Tree
up_to_cut f ts t n = or_of (less (num f.cut) n ∷ equal t (with_arguments f.params ts f.base) ∷ [])

-- up to the cut or the step
abbrev pub above_cut : Logic → Trees → (call number : Tree) → Tree
above_cut f ts t n = or_of (at_most n (num f.cut) ∷ equal t (with_arguments f.params ts f.step) ∷ [])

-- the name that a head calls
unfoldable pub called : Head → Option (List ℕ)
called (h.App x) = Some x
called head = None
