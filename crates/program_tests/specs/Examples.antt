-- A small function that passes, with sets of its own, and what is refused.
use Rattle.std.specs.Prelude.{◌≡◌, ℕ, zero, suc, pos, Bool, true, false, List, [], ◌∷◌, Option, Some, None}
use Rattle.wp_base.specs.declared.kinds.Kind.TheVariants as kind
use Rattle.typed_prog.specs.declared.operators.Root.TheVariants as root
use Rattle.typed_prog.specs.declared.operators.Variable.TheVariants as variables
use Rattle.typed_prog.specs.Tree as t
use Rattle.acsl_trees.specs.declared.heads.Content.TheVariants as content
use Rattle.acsl_trees.specs.declared.heads.Head.TheVariants as head
use Rattle.acsl_trees.specs.Tree.{Tree, leaf, one}
use Rattle.c_runs.specs.Program.{Behavior, Claim, Function}
use Rattle.c_runs.specs.Tree as core
use Rattle.c_runs.specs.Tree.{Steps}
use Rattle.acsl_well_typed.specs.Definitions.{known_with}
use Rattle.typed_runs.specs.Examples.{int, held, turns, turn, f, small}
use Rattle.typed_runs.specs.Examples as example
use Rattle.memory_words.specs.Shapes.{FileCells}
use Rattle.memory_words.specs.Readings.{InScope, Texts}
use Rattle.program_tests.specs.Tests.{Where, steps_pass, function_passes}

-- int f(int *p) { int x = 1; int *q = &x; while (*q < *p) x = *p; *p = f(q); return *q; }

abbrev pub cells : FileCells
cells = record { has_blocks = true; has_kind = λ k. true }

-- ---- sets: the object that a pointer variable points to, and a variable

abbrev pub pointed : (variable : ℕ) → Tree
pointed x = one (head.Region (content.Integer kind.Int)) (one head.Pointed (one (head.Read content.Pointer None) (leaf (head.Variable (variables.Local x)))))

abbrev pub pointer : (variable : ℕ) → Tree
pointer x = one (head.Region content.Pointer) (leaf (head.Variable (variables.Local x)))

abbrev pub number : (variable : ℕ) → Tree
number x = one (head.Region (content.Integer kind.Int)) (leaf (head.Variable (variables.Local x)))

-- the function with such a set of its own
abbrev pub with_set : List Tree → Function Steps
with_set ts = record f {
  contract = record { plain = record { assumes = []; requires = []; ensures = []; assigns = Some ts }; decreases = None; behaviors = []; together = [] };
}

-- and a loop
abbrev pub loop_with : Option (List Tree) → Steps
loop_with o = core.then_ (core.repeat (record turns { assigns = o }) turn) core.end

-- ---- claims: an integer, and a set, which is none

abbrev pub so : Tree
so = leaf (head.Number (pos 1))

abbrev pub claimed : Tree → Claim
claimed a = record { what = a; line = 1 }

-- a behavior that assumes, requires and ensures these
abbrev pub behaves : (assumed required ensured : Tree) → Behavior
behaves a b c = record { assumes = a ∷ []; requires = claimed b ∷ []; ensures = claimed c ∷ []; assigns = None }

-- the function with such behaviors, by this measure, and a loop with this invariant and variant
abbrev pub with_behaviors : List Behavior → (measured : Tree) → Function Steps
with_behaviors bs a = record f {
  contract = record {
    plain = record { assumes = []; requires = claimed so ∷ []; ensures = claimed so ∷ []; assigns = None };
    decreases = Some (record { what = a; line = 1 });
    behaviors = bs;
    together = [];
  };
}

abbrev pub loop_by : (invariant variant : Tree) → Steps
loop_by a b = core.then_ (core.repeat (record turns { invariants = claimed a ∷ []; variant = Some (record { what = b; line = 1 }) }) turn) core.end

-- ---- places

-- in so many blocks, where the first variables are in scope
abbrev pub first : (count : ℕ) → InScope
first zero x = false
first (suc n) zero = true
first (suc n) (suc x) = first n x

abbrev pub within : (outs count : ℕ) → Where
within n k = record { outs = n; in_scope = first k; loop_scope = first 0; in_loop = false }

abbrev pub Passes : Where → Steps → Bool → Type 0
Passes h ss b = (texts : Texts) → steps_pass small.facts cells texts (known_with true [] int) f.variables (first 1) h ss ≡ b

abbrev pub FunctionPasses : Function Steps → Bool → Type 0
FunctionPasses g b = (texts : Texts) → function_passes small.facts cells texts [] int g ≡ b

-- a call whose result goes there
abbrev pub result_to : core.Goal → Steps
result_to to = core.then_ (core.call [] to 0 1 t.stop) core.end

abbrev pub to_variable : (variable : ℕ) → t.Values → core.Goal
to_variable x es = core.place [] int 1 (record { root = root.Variable (variables.Local x); steps = []; line = 1 }) es

pub record ExamplesPass : Type 0 where
  pub whole : FunctionPasses f true
  -- a contract speaks of what its parameter points to, not of the parameter, nor of variables of the body
  pub set : FunctionPasses (with_set (pointed 0 ∷ [])) true
  pub parameter : FunctionPasses (with_set (pointer 0 ∷ [])) false
  pub local : FunctionPasses (with_set (pointed 2 ∷ [])) false
  -- a loop names a variable that no pointer leads to, and one with a block, as long as they are in scope
  pub names : Passes (within 1 3) (loop_with (Some (pointer 2 ∷ number 1 ∷ pointed 2 ∷ []))) true
  pub unseen : Passes (within 1 2) (loop_with (Some (pointer 2 ∷ []))) false
  pub unseen_block : Passes (within 1 1) (loop_with (Some (number 1 ∷ []))) false
  -- without a set it may change what it sets
  pub sets : Passes (within 1 3) (loop_with None) true
  pub sets_unseen : Passes (within 1 1) (loop_with None) false
  -- exits lead out of blocks around; the loop's own leads out of one
  pub exit : Passes (within 0 3) (core.then_ (core.around (core.then_ (core.exit 0) core.end)) core.end) true
  pub no_exit : Passes (within 0 3) (core.then_ (core.exit 0) core.end) false
  pub too_far : Passes (within 0 3) (core.then_ (core.around (core.then_ (core.exit 1) core.end)) core.end) false
  -- assertions, invariants and variants
  pub asserted : Passes (within 0 3) (core.then_ (core.claim (claimed so)) core.end) true
  pub no_claim : Passes (within 0 3) (core.then_ (core.claim (claimed (number 1))) core.end) false
  pub turned : Passes (within 1 3) (loop_by so so) true
  pub no_invariant : Passes (within 1 3) (loop_by (number 1) so) false
  pub no_variant : Passes (within 1 3) (loop_by so (number 1)) false
  -- behaviors and measures
  pub behaved : FunctionPasses (with_behaviors (behaves so so so ∷ []) so) true
  pub no_assumption : FunctionPasses (with_behaviors (behaves (pointed 0) so so ∷ []) so) false
  pub no_requirement : FunctionPasses (with_behaviors (behaves so (pointed 0) so ∷ []) so) false
  pub no_promise : FunctionPasses (with_behaviors (behaves so so (pointed 0) ∷ []) so) false
  pub no_measure : FunctionPasses (with_behaviors [] (pointed 0)) false
  -- results
  pub result : Passes (within 0 3) (result_to (to_variable 2 t.stop)) true
  pub with_operand : Passes (within 0 3) (result_to (to_variable 2 (t.more (held 0) t.stop))) false
  pub to_block : Passes (within 0 3) (result_to (to_variable 1 (t.more (held 0) t.stop))) true
  pub to_pointed : Passes (within 0 3) (result_to (core.place [] int 1 example.to_pointed (t.more (held 0) t.stop))) true
