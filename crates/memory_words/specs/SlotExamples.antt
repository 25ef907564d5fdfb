-- A formula and a fact over places, written over slots and told of states, worked out by hand.
use Rattle.std.specs.Prelude.{◌≡◌, true, false, ℤ, pos, List, [], ◌∷◌, map, codes}
use Rattle.wp_base.specs.declared.kinds.Kind.TheVariants as kind
use Rattle.wp_base.specs.Blocks.{ended}
use Rattle.typed_prog.specs.declared.operators.Variable.TheVariants as variables
use Rattle.qed_terms.specs.declared.head.Head.TheVariants as h
use Rattle.qed_terms.specs.declared.head.TermOp.TheVariants as op
use Rattle.qed_terms.specs.Tree.{Tree, node, three, num, var, at_most, less, equal, and_of, false_tree}
use Rattle.qed_terms.specs.Memory.{Memory}
use Rattle.qed_terms.specs.Meaning as sense
use Rattle.memory_steps.specs.State.{Datum, number, cells, State, state, nothing}
use Rattle.memory_steps.specs.World.{memory_var, table_var, count_of}
use Rattle.memory_steps.specs.Forms.{Slots, slots_of}
use Rattle.memory_words.specs.Places.{Place, value, offset, numbers, Sizes, places, slots_by}
use Rattle.memory_words.specs.Leaves.{leaf, memory_leaf, table_leaf, leaf_name, form, fact}

-- a file with one variable, and a function with the variable `p`, a pointer to `int`, and one temporary
abbrev sizes : Sizes
sizes = record { globals = 1; locals = 1; temporaries = 1 }

abbrev p_block : Place
p_block = value (variables.Local 0)

abbrev p_offset : Place
p_offset = offset (variables.Local 0)

abbrev load_of : (memory block offset : Tree) → Tree
load_of m b o = node (h.Term op.Load) (three m b o)

-- no place but these three is told of
abbrev by_three : {X : Type 0} → (other block offset memory : X) → Place → X
by_three d b o m (value (variables.Local x)) = b
by_three d b o m (offset (variables.Local x)) = o
by_three d b o m (numbers kind.Int) = m
by_three d b o m a = d

abbrev terms : (block offset memory : Tree) → List Tree
terms b o m = map (by_three (num (pos 0)) b o m) (places sizes)

abbrev slots_held : (block offset : ℤ) → Memory → List Datum
slots_held b o m = slots_by sizes (by_three nothing (number b) (number o) (cells m))

abbrev holds : (block offset value : ℤ) → Memory
holds b o z = record { block = b; offset = o; value = z } ∷ []

-- all logic functions are 0
abbrev zeros : sense.World
zeros = record { long_bits = 64; apps = λ f vs. pos 0 }

-- ---- `*p <= 9`, and p leads to a block that there is

abbrev at_most_nine : Tree
at_most_nine =
    and_of
    (at_most (load_of (memory_leaf sizes 0 (numbers kind.Int)) (leaf sizes 0 p_block) (leaf sizes 0 p_offset)) (num (pos 9))
    ∷ less (leaf sizes 0 p_block) (count_of (table_leaf 0)) ∷ [])

abbrev now : Slots
now = slots_of (terms (var (codes "pb")) (var (codes "po")) (memory_var (codes "M:int"))) (table_var (codes "T")) []

abbrev at_most_nine_written : Tree
at_most_nine_written =
    and_of
    (at_most (load_of (memory_var (codes "M:int")) (var (codes "pb")) (var (codes "po"))) (num (pos 9))
    ∷ less (var (codes "pb")) (count_of (table_var (codes "T"))) ∷ [])

abbrev state_now : (value : ℤ) → State
state_now z = state (slots_held (pos 1) (pos 2) (holds (pos 1) (pos 2) z)) (ended ∷ [])

-- ---- where p leads now, a new memory holds what was held there at the remembered state

abbrev as_before : Tree
as_before = equal (load_of (memory_var (leaf_name 0 0)) (leaf sizes 1 p_block) (leaf sizes 1 p_offset))
    (load_of (memory_leaf sizes 2 (numbers kind.Int)) (leaf sizes 1 p_block) (leaf sizes 1 p_offset))

abbrev before : Slots
before = slots_of (terms (num (pos 5)) (num (pos 6)) (memory_var (codes "M#1:int"))) (table_var (codes "T")) []

abbrev new_memory : Tree
new_memory = memory_var (codes "M#2:int")

abbrev as_before_written : Tree
as_before_written = equal (load_of new_memory (var (codes "pb")) (var (codes "po"))) (load_of (memory_var (codes "M#1:int")) (var (codes "pb")) (var (codes "po")))

abbrev state_before : State
state_before = state (slots_held (pos 5) (pos 6) (holds (pos 1) (pos 2) (pos 4))) []

-- ---- a name that a quantifier would bind, and none does

abbrev unbound : Tree
unbound = less (var (codes "i!")) (num (pos 9))

pub record WorkedForms : Type 0 where
  pub written : (form zeros at_most_nine).written (now ∷ []) ≡ at_most_nine_written
  pub so : (form zeros at_most_nine).told (state_now (pos 7) ∷ []) ≡ true
  pub not_so : (form zeros at_most_nine).told (state_now (pos 12) ∷ []) ≡ false
  pub fact_written : (fact zeros as_before).written (now ∷ before ∷ []) new_memory ≡ as_before_written
  pub fact_so : (fact zeros as_before).told (state_now (pos 7) ∷ state_before ∷ []) (cells (holds (pos 1) (pos 2) (pos 4))) (pos 0) (pos 0) ≡ true
  pub fact_not_so : (fact zeros as_before).told (state_now (pos 7) ∷ state_before ∷ []) (cells (holds (pos 1) (pos 2) (pos 7))) (pos 0) (pos 0) ≡ false
  pub unbound : (form zeros unbound).written (now ∷ []) ≡ false_tree
