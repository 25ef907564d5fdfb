-- The goals of a function that calls another one, worked out by hand.
use Rattle.std.specs.Prelude.{◌≡◌, ℕ, zero, suc, true, false, pos, negsuc, List, [], ◌∷◌, ◌++◌, codes, Option, Some, None}
use Rattle.wp_base.specs.declared.kinds.CellKind.TheVariants as cell
use Rattle.wp_base.specs.declared.kinds.Kind.TheVariants as kind
use Rattle.typed_prog.specs.declared.operators.Arithmetic.TheVariants as ar
use Rattle.typed_prog.specs.declared.operators.Comparison.TheVariants as cmp
use Rattle.typed_prog.specs.declared.operators.Op.TheVariants as op
use Rattle.typed_prog.specs.declared.operators.Variable.TheVariants as variables
use Rattle.typed_prog.specs.Types.{of_kind, pointer_to}
use Rattle.typed_prog.specs.Tree as t
use Rattle.acsl_trees.specs.declared.heads.Content.TheVariants as content
use Rattle.acsl_trees.specs.declared.heads.Head.TheVariants as head
use Rattle.acsl_trees.specs.declared.heads.Label.TheVariants as label
use Rattle.acsl_trees.specs.declared.heads.Range.TheVariants as range
use Rattle.acsl_trees.specs.Tree as acsl
use Rattle.qed_terms.specs.declared.head.Shape.TheVariants as shape
use Rattle.qed_terms.specs.Tree.{Tree, num, var, equal, at_most, less, and_of, or_of}
use Rattle.c_runs.specs.Program.{Function, Program}
use Rattle.c_runs.specs.Claims as broken
use Rattle.c_runs.specs.Tree.{Steps}
use Rattle.c_runs.specs.Tree as core
use Rattle.program_steps.specs.Stops.{broken_place}
use Rattle.walk_steps.specs.Walk.{Goal}
use Rattle.memory_steps.specs.World.{memory_var, table_var, count_of, grow_of}
use Rattle.memory_words.specs.Shapes.{FileCells}
use Rattle.memory_words.specs.Readings.{Texts}
use Rattle.memory_functions.specs.Words.{Written}
use Rattle.memory_functions.specs.Shown.{layout, scalar, object, path_to, read, number, applied, all_steps, said, claim_at, behavior_of, contract_of, cells_with, binders_by}
use Rattle.memory_functions.specs.Shown.{whole_name, written_by, program_of, goal, add, load, can_read, has_layout, formed, framed, every, some, bound, goals_in}

-- ---- the program

-- int g; int h;
-- /*@ assigns h; requires \valid_read(p2); requires n < 7;
--     ensures (\exists integer k3; 0 <= k3 <= 4 && k3 == g) || (\forall integer k4; 0 <= k4 < 3 ==> p2[k4] >= 0); */
-- int f1(int n, int *p2);
-- /*@ ensures \exists integer k9; 0 <= k9 <= 4 && k9 == g;
--     ensures (1 + g) >= \old(g) && (\exists integer k8; 0 <= k8 <= 4 && k8 == \old(g)); */
-- void f(void) { f1(3, &h); int v10; v10 = h; }

abbrev f1 : Function Steps
f1 = record {
  params = 2;
  variables = scalar (cell.Of kind.Int) true ∷ scalar cell.Ptr true ∷ [];
  result = Some (cell.Of kind.Int);
  contract =
      contract_of (behavior_of [] (claim_at 5 (said (head.Valid (content.Integer kind.Int) false) (said head.Pointed (said (head.Read content.Pointer None) (acsl.leaf
      (head.Variable (variables.Local 1))
      ∷ []) ∷ []) ∷ []))
      ∷ claim_at 7 (said head.Chain (said (head.Read (content.Integer kind.Int) None) (acsl.leaf (head.Variable (variables.Local 0)) ∷ [])
      ∷ said (head.Link cmp.Less) (acsl.leaf (head.Number (pos 7)) ∷ []) ∷ []))
      ∷ []) (claim_at 6 (said head.Or (said (head.Some (range.Between false false (record { line = 6; node = 4 }))) (acsl.leaf (head.Number (pos 0))
      ∷ acsl.leaf (head.Number (pos 4)) ∷ said head.Chain (acsl.leaf (head.Name 0)
      ∷ said (head.Link cmp.Equal) (said (head.Read (content.Integer kind.Int) None) (acsl.leaf (head.Variable (variables.Global 0)) ∷ []) ∷ [])
      ∷ []) ∷ []) ∷ said (head.Every (range.Between false true (record { line = 6; node = 14 }))) (acsl.leaf (head.Number (pos 0))
      ∷ acsl.leaf (head.Number (pos 3))
      ∷ said head.Chain (said (head.Read (content.Integer kind.Int) None) (said head.Pointed (said (head.Moved false 1) (said (head.Read content.Pointer None) (acsl.leaf
      (head.Variable (variables.Local 1))
      ∷ []) ∷ acsl.leaf (head.Name 0) ∷ []) ∷ []) ∷ []) ∷ said (head.Link cmp.AtLeast) (acsl.leaf (head.Number (pos 0)) ∷ []) ∷ []) ∷ []) ∷ []))
      ∷ []) (Some (said (head.Region (content.Integer kind.Int)) (acsl.leaf (head.Variable (variables.Global 1)) ∷ []) ∷ []))) None [] [];
  body = core.end;
  end = 8;
}

abbrev f : Function Steps
f = record {
  params = 0;
  variables = scalar (cell.Of kind.Int) false ∷ [];
  result = None;
  contract =
      contract_of (behavior_of [] [] (claim_at 13 (said (head.Some (range.Between false false (record { line = 13; node = 1 }))) (acsl.leaf (head.Number (pos 0))
      ∷ acsl.leaf (head.Number (pos 4)) ∷ said head.Chain (acsl.leaf (head.Name 0)
      ∷ said (head.Link cmp.Equal) (said (head.Read (content.Integer kind.Int) None) (acsl.leaf (head.Variable (variables.Global 0)) ∷ []) ∷ [])
      ∷ []) ∷ [])) ∷ claim_at 14 (said head.And (said head.Chain (said (head.Arithmetic ar.Add) (acsl.leaf (head.Number (pos 1))
      ∷ said (head.Read (content.Integer kind.Int) None) (acsl.leaf (head.Variable (variables.Global 0)) ∷ []) ∷ [])
      ∷ said (head.Link cmp.AtLeast) (said (head.At label.Pre) (said (head.Read (content.Integer kind.Int) None) (acsl.leaf (head.Variable (variables.Global 0))
      ∷ []) ∷ []) ∷ []) ∷ []) ∷ said (head.Some (range.Between false false (record { line = 14; node = 17 }))) (acsl.leaf (head.Number (pos 0))
      ∷ acsl.leaf (head.Number (pos 4)) ∷ said head.Chain (acsl.leaf (head.Name 0)
      ∷ said (head.Link cmp.Equal) (said (head.At label.Pre) (said (head.Read (content.Integer kind.Int) None) (acsl.leaf (head.Variable (variables.Global 0))
      ∷ []) ∷ []) ∷ []) ∷ []) ∷ []) ∷ [])) ∷ []) None) None [] [];
  body = all_steps (
      core.scope (0 ∷ []) (all_steps (
      core.call [] core.nowhere 0 15 (t.values_of (number (pos 3) (of_kind kind.Int) 15 ∷ applied (op.Address (path_to (variables.Global 1) 15) false) (pointer_to
      (of_kind kind.Int) false) 15 [] ∷ []))
      ∷ core.store [] (of_kind kind.Int) 15 (path_to (variables.Local 0) 15) (t.values_of (read (variables.Global 1) (of_kind kind.Int) 15 ∷ []))
      ∷ []))
      ∷ []);
  end = 15;
}

abbrev functions : ℕ → Option (Function Steps)
functions zero = Some f1
functions (suc zero) = None
functions (suc (suc zero)) = Some f
functions (suc (suc (suc n))) = None

abbrev small : Program Steps
small = program_of (scalar (cell.Of kind.Int) false ∷ object (layout 1 (cell.Of kind.Int ∷ []) true) false ∷ []) [] functions

abbrev kinds : FileCells
kinds = cells_with true (cell.Of kind.Int ∷ [])

abbrev names : Written
names =
    written_by (whole_name (codes "g") ∷ whole_name (codes "h") ∷ []) (whole_name (codes "v10") ∷ []) [] (whole_name (codes "\\result")) (whole_name (codes "%"))

abbrev texts : Texts
texts = binders_by (bound 6 4 (codes "k3" ∷ codes "k4" ∷ []) ∷ bound 13 1 (codes "k9" ∷ []) ∷ bound 14 17 (codes "k8" ∷ []) ∷ [])

-- ---- its goals

abbrev v_answer_1 : Tree
v_answer_1 = var (codes "%#1")

abbrev memory_1_int : Tree
memory_1_int = memory_var (codes "M#1:int")

abbrev memory_int : Tree
memory_int = memory_var (codes "M:int")

abbrev T : Tree
T = table_var (codes "T")

abbrev v_count_1 : Tree
v_count_1 = var (codes "c#1")

abbrev v_g : Tree
v_g = var (codes "g")

abbrev v_k3_1 : Tree
v_k3_1 = var (codes "k3!1")

abbrev v_k4_1 : Tree
v_k4_1 = var (codes "k4!1")

abbrev v_k8_1 : Tree
v_k8_1 = var (codes "k8!1")

abbrev v_k9_1 : Tree
v_k9_1 = var (codes "k9!1")

abbrev t1 : Tree
t1 = some (codes "k9!1") (num (pos 0)) (add (num (pos 4)) (num (pos 1))) (equal v_k9_1 v_g)

abbrev known_1 : List Tree
known_1 =
    has_layout T (num (pos 1)) (layout 1 (cell.Of kind.Int ∷ []) true) ∷ at_most (num (pos 2)) (count_of T) ∷ formed (cell.Of kind.Int) (T
    ∷ memory_int ∷ []) ∷ at_most (num (negsuc 2147483647)) v_g ∷ at_most v_g (num (pos 2147483647)) ∷ []

abbrev known_2 : List Tree
known_2 = known_1 ++ (can_read (cell.Of kind.Int) T (num (pos 1)) (num (pos 0)) ∷ [])

abbrev known_3 : List Tree
known_3 =
    known_2 ++ (less (num (pos 3)) (num (pos 7)) ∷ at_most (count_of T) v_count_1 ∷ formed (cell.Of kind.Int) ((grow_of T v_count_1) ∷ memory_1_int
    ∷ []) ∷ (framed (shape.Cells ∷ shape.New ∷ []) (memory_int ∷ memory_1_int ∷ num (pos 1) ∷ num (pos 0) ∷ add (num (pos 0)) (num (pos 1))
    ∷ count_of T ∷ [])) ∷ at_most (num (negsuc 2147483647)) v_answer_1 ∷ at_most v_answer_1 (num (pos 2147483647))
    ∷ (or_of ((some (codes "k3!1") (num (pos 0)) (add (num (pos 4)) (num (pos 1))) (equal v_k3_1 v_g))
    ∷ (every (codes "k4!1") (num (pos 0)) (num (pos 3)) (at_most (num (pos 0)) (load memory_1_int (num (pos 1)) (add (num (pos 0)) v_k4_1)))) ∷ []))
    ∷ at_most (num (negsuc 2147483647)) (load memory_1_int (num (pos 1)) (num (pos 0)))
    ∷ at_most (load memory_1_int (num (pos 1)) (num (pos 0))) (num (pos 2147483647)) ∷ [])

abbrev known_4 : List Tree
known_4 = known_3 ++ (t1 ∷ [])

abbrev expected : List Goal
expected =
    goal 0 (broken_place broken.requires 15) known_1 (can_read (cell.Of kind.Int) T (num (pos 1)) (num (pos 0)))
    ∷ goal 1 (broken_place broken.requires 15) known_2 (less (num (pos 3)) (num (pos 7)))
    ∷ goal 2 (broken_place broken.ensures 13) known_3 t1
    ∷ goal 3 (broken_place broken.ensures 14) known_4 (and_of ((at_most v_g (add (num (pos 1)) v_g))
    ∷ (some (codes "k8!1") (num (pos 0)) (add (num (pos 4)) (num (pos 1))) (equal v_k8_1 v_g)) ∷ []))
    ∷ []

abbrev pub calls_have_goals : Type 0
calls_have_goals = goals_in small kinds texts 2 f names ≡ expected
