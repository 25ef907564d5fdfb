-- The goals of a function with a local array, one of whose arms stores to it, worked out by hand.
use Rattle.std.specs.Prelude.{◌≡◌, ℕ, zero, suc, true, false, pos, negsuc, List, [], ◌∷◌, ◌++◌, codes, Option, Some, None}
use Rattle.wp_base.specs.declared.kinds.CellKind.TheVariants as cell
use Rattle.wp_base.specs.declared.kinds.Kind.TheVariants as kind
use Rattle.typed_prog.specs.declared.operators.Arithmetic.TheVariants as ar
use Rattle.typed_prog.specs.declared.operators.Comparison.TheVariants as cmp
use Rattle.typed_prog.specs.declared.operators.Op.TheVariants as op
use Rattle.typed_prog.specs.declared.operators.Root.TheVariants as root
use Rattle.typed_prog.specs.declared.operators.Step.TheVariants as way
use Rattle.typed_prog.specs.declared.operators.Variable.TheVariants as variables
use Rattle.typed_prog.specs.Types.{of_kind}
use Rattle.typed_prog.specs.Tree as t
use Rattle.acsl_trees.specs.declared.heads.Content.TheVariants as content
use Rattle.acsl_trees.specs.declared.heads.Head.TheVariants as head
use Rattle.acsl_trees.specs.Tree as acsl
use Rattle.qed_terms.specs.declared.head.TermOp.TheVariants as term
use Rattle.qed_terms.specs.declared.head.Shape.TheVariants as shape
use Rattle.qed_terms.specs.Tree.{Tree, num, var, false_tree, equal, at_most, less, not_of, and_of, or_of, ite}
use Rattle.c_runs.specs.Program.{Function, Program}
use Rattle.c_runs.specs.Operators.{overflow, shift, index, noreturn}
use Rattle.c_runs.specs.Claims as broken
use Rattle.c_runs.specs.Tree.{Steps}
use Rattle.c_runs.specs.Tree as core
use Rattle.program_steps.specs.Stops.{undefined_place, broken_place}
use Rattle.walk_steps.specs.Walk.{Goal}
use Rattle.memory_steps.specs.World.{memory_var, table_var, count_of, grow_of, alloc_of, same_of}
use Rattle.memory_words.specs.Shapes.{FileCells}
use Rattle.memory_words.specs.Readings.{Texts}
use Rattle.memory_functions.specs.Words.{Written}
use Rattle.memory_functions.specs.Shown.{layout, scalar, object, path_to, path_of, read, number, applied, all_steps, said, claim_at, behavior_of, contract_of, cells_with}
use Rattle.memory_functions.specs.Shown.{binders_by, whole_name, written_by, program_of, goal, add, sub, load, store, of_term, formed, framed, goals_in}

-- ---- the program

-- int g;
-- /*@ requires 0 <= i <= 3; assigns g; ensures (i & \result) == g; */
-- int f(char i) {
--     --i; g <<= 1;
--     {
--         int b2[3];
--         if (b2[2] & g) { --i; ; } else { b2[1] = !(i & g); i -= 1; long v3 = (1 | i); }
--         i -= 1;
--         /*@ assert (b2[0] + i) != g; */
--     }
-- }

abbrev f : Function Steps
f = record {
  params = 1;
  variables = scalar (cell.Of kind.Char) true ∷ object (layout 3 (cell.Of kind.Int ∷ []) true) false ∷ scalar (cell.Of kind.Long) true ∷ [];
  result = Some (cell.Of kind.Int);
  contract =
      contract_of (behavior_of [] (claim_at 2 (said head.Chain (acsl.leaf (head.Number (pos 0))
      ∷ said (head.Link cmp.AtMost) (said (head.Read (content.Integer kind.Char) None) (acsl.leaf (head.Variable (variables.Local 0)) ∷ []) ∷ [])
      ∷ said (head.Link cmp.AtMost) (acsl.leaf (head.Number (pos 3)) ∷ []) ∷ []))
      ∷ []) (claim_at 4 (said head.Chain (said (head.Arithmetic ar.And) (said (head.Read (content.Integer kind.Char) None) (acsl.leaf (head.Variable (variables.Local 0))
      ∷ []) ∷ acsl.leaf head.Result ∷ [])
      ∷ said (head.Link cmp.Equal) (said (head.Read (content.Integer kind.Int) None) (acsl.leaf (head.Variable (variables.Global 0)) ∷ []) ∷ [])
      ∷ [])) ∷ []) (Some (said (head.Region (content.Integer kind.Int)) (acsl.leaf (head.Variable (variables.Global 0)) ∷ []) ∷ []))) None [] [];
  body = all_steps (
      core.scope [] (all_steps (
      core.store [] (of_kind kind.Char) 5 (path_to (variables.Local 0) 5) (t.values_of (applied op.Convert (of_kind kind.Char) 5 (applied (op.Arithmetic ar.Sub)
      (of_kind kind.Int) 5 (applied op.Convert (of_kind kind.Int) 5 (read (variables.Local 0) (of_kind kind.Char) 5 ∷ []) ∷ number (pos 1) (of_kind kind.Int) 5
      ∷ []) ∷ []) ∷ []))
      ∷ core.store [] (of_kind kind.Int) 5 (path_to (variables.Global 0) 5) (t.values_of (applied op.Convert (of_kind kind.Int) 5 (applied (op.Arithmetic ar.Shl)
      (of_kind kind.Int) 5 (applied op.Convert (of_kind kind.Int) 5 (read (variables.Global 0) (of_kind kind.Int) 5 ∷ []) ∷ number (pos 1) (of_kind kind.Int) 5
      ∷ []) ∷ []) ∷ []))
      ∷ core.scope (1 ∷ []) (all_steps (
      core.branch [] (applied (op.Arithmetic ar.And) (of_kind kind.Int) 5 (applied (op.Read (path_of (root.Variable (variables.Local 1)) (way.Element 0 1 3 5
      ∷ []) 5)) (of_kind kind.Int) 5 (number (pos 2) (of_kind kind.Int) 5 ∷ []) ∷ read (variables.Global 0) (of_kind kind.Int) 5 ∷ [])) (all_steps (
      core.scope [] (all_steps (
      core.store [] (of_kind kind.Char) 5 (path_to (variables.Local 0) 5) (t.values_of (applied op.Convert (of_kind kind.Char) 5 (applied
      (op.Arithmetic ar.Sub) (of_kind kind.Int) 5 (applied op.Convert (of_kind kind.Int) 5 (read (variables.Local 0) (of_kind kind.Char) 5 ∷ [])
      ∷ number (pos 1) (of_kind kind.Int) 5 ∷ []) ∷ []) ∷ []))
      ∷ []))
      ∷ [])) (all_steps (
      core.scope (2 ∷ []) (all_steps (
      core.store [] (of_kind kind.Int) 6 (path_of (root.Variable (variables.Local 1)) (way.Element 0 1 3 6 ∷ []) 6) (t.values_of (applied op.Not
      (of_kind kind.Int) 6 (applied (op.Arithmetic ar.And) (of_kind kind.Int) 6 (applied op.Convert (of_kind kind.Int) 6 (read (variables.Local 0)
      (of_kind kind.Char) 6 ∷ []) ∷ read (variables.Global 0) (of_kind kind.Int) 6 ∷ []) ∷ []) ∷ number (pos 1) (of_kind kind.Int) 6 ∷ []))
      ∷ core.store [] (of_kind kind.Char) 6 (path_to (variables.Local 0) 6) (t.values_of (applied op.Convert (of_kind kind.Char) 6 (applied
      (op.Arithmetic ar.Sub) (of_kind kind.Int) 6 (applied op.Convert (of_kind kind.Int) 6 (read (variables.Local 0) (of_kind kind.Char) 6 ∷ [])
      ∷ number (pos 1) (of_kind kind.Int) 6 ∷ []) ∷ []) ∷ []))
      ∷ core.start [] 2 (applied op.Convert (of_kind kind.Long) 6 (applied (op.Arithmetic ar.Or) (of_kind kind.Int) 6 (number (pos 1) (of_kind kind.Int) 6
      ∷ applied op.Convert (of_kind kind.Int) 6 (read (variables.Local 0) (of_kind kind.Char) 6 ∷ []) ∷ []) ∷ []))
      ∷ []))
      ∷ []))
      ∷ core.store [] (of_kind kind.Char) 7 (path_to (variables.Local 0) 7) (t.values_of (applied op.Convert (of_kind kind.Char) 7 (applied (op.Arithmetic ar.Sub)
      (of_kind kind.Int) 7 (applied op.Convert (of_kind kind.Int) 7 (read (variables.Local 0) (of_kind kind.Char) 7 ∷ []) ∷ number (pos 1)
      (of_kind kind.Int) 7 ∷ []) ∷ []) ∷ []))
      ∷ core.claim (claim_at 7 (said head.Chain (said (head.Arithmetic ar.Add) (said (head.Read (content.Integer kind.Int) None) (said (head.Element 1 3)
      (acsl.leaf (head.Variable (variables.Local 1)) ∷ acsl.leaf (head.Number (pos 0)) ∷ []) ∷ []) ∷ said (head.Read (content.Integer kind.Char) None)
      (acsl.leaf (head.Variable (variables.Local 0)) ∷ []) ∷ []) ∷ said (head.Link cmp.NotEqual) (said (head.Read (content.Integer kind.Int) None) (acsl.leaf
      (head.Variable (variables.Global 0)) ∷ []) ∷ []) ∷ [])))
      ∷ []))
      ∷ []))
      ∷ []);
  end = 8;
}

abbrev functions : ℕ → Option (Function Steps)
functions zero = Some f
functions (suc n) = None

abbrev small : Program Steps
small = program_of (scalar (cell.Of kind.Int) false ∷ []) [] functions

abbrev kinds : FileCells
kinds = cells_with true (cell.Of kind.Int ∷ [])

abbrev names : Written
names =
    written_by (whole_name (codes "g") ∷ []) (whole_name (codes "i") ∷ whole_name (codes "b2") ∷ whole_name (codes "v3") ∷ []) [] (whole_name (codes "\\result"))
    (whole_name (codes "%"))

abbrev texts : Texts
texts = binders_by []

-- ---- its goals

abbrev memory_1_int : Tree
memory_1_int = memory_var (codes "M#1:int")

abbrev memory_2_int : Tree
memory_2_int = memory_var (codes "M#2:int")

abbrev memory_3_int : Tree
memory_3_int = memory_var (codes "M#3:int")

abbrev memory_int : Tree
memory_int = memory_var (codes "M:int")

abbrev T : Tree
T = table_var (codes "T")

abbrev v_g : Tree
v_g = var (codes "g")

abbrev v_i : Tree
v_i = var (codes "i")

abbrev t1 : Tree
t1 = alloc_of T (layout 3 (cell.Of kind.Int ∷ []) true)

abbrev t2 : Tree
t2 = and_of ((at_most (num (pos 0)) (num (pos 1))) ∷ (less (num (pos 1)) (num (pos 32))) ∷ [])

abbrev t3 : Tree
t3 = and_of ((at_most (num (pos 0)) (num (pos 2))) ∷ (less (num (pos 2)) (num (pos 3))) ∷ [])

abbrev t4 : Tree
t4 = load memory_1_int (count_of T) (add (num (pos 0)) (num (pos 2)))

abbrev t5 : Tree
t5 = sub (of_term (term.Wrap kind.Char) ((sub v_i (num (pos 1))) ∷ [])) (num (pos 1))

abbrev t6 : Tree
t6 = and_of ((at_most (num (pos 0)) (num (pos 1))) ∷ (less (num (pos 1)) (num (pos 3))) ∷ [])

abbrev t7 : Tree
t7 = and_of ((at_most (num (pos 0)) v_g) ∷ (at_most (of_term term.ShiftLeft (v_g ∷ (num (pos 1)) ∷ [])) (num (pos 2147483647))) ∷ [])

abbrev t8 : Tree
t8 =
    of_term term.BitAnd ((of_term (term.Wrap kind.Char) ((sub v_i (num (pos 1))) ∷ [])) ∷ (of_term term.ShiftLeft (v_g ∷ (num (pos 1)) ∷ [])) ∷ [])

abbrev t9 : Tree
t9 = of_term (term.Wrap kind.Char) (t5 ∷ [])

abbrev t10 : Tree
t10 = and_of ((at_most (num (negsuc 2147483647)) (sub v_i (num (pos 1)))) ∷ (at_most (sub v_i (num (pos 1))) (num (pos 2147483647))) ∷ [])

abbrev t11 : Tree
t11 = of_term term.BitAnd (t4 ∷ (of_term term.ShiftLeft (v_g ∷ (num (pos 1)) ∷ [])) ∷ [])

abbrev t12 : Tree
t12 = at_most (num (negsuc 2147483647)) t8

abbrev t13 : Tree
t13 = at_most t8 (num (pos 2147483647))

abbrev t14 : Tree
t14 = of_term term.BitOr ((num (pos 1)) ∷ t9 ∷ [])

abbrev t15 : Tree
t15 = sub t9 (num (pos 1))

abbrev t16 : Tree
t16 = not_of (equal t11 (num (pos 0)))

abbrev t17 : Tree
t17 = not_of t16

abbrev t18 : Tree
t18 = and_of ((at_most (num (negsuc 2147483647)) t5) ∷ (at_most t5 (num (pos 2147483647))) ∷ [])

abbrev t19 : Tree
t19 =
    not_of (equal (add (load memory_2_int (count_of T) (add (num (pos 0)) (num (pos 0)))) (of_term (term.Wrap kind.Char) (t15
    ∷ []))) (of_term term.ShiftLeft (v_g ∷ (num (pos 1)) ∷ [])))

abbrev t20 : Tree
t20 = and_of ((at_most (num (negsuc 2147483647)) t15) ∷ (at_most t15 (num (pos 2147483647))) ∷ [])

abbrev known_1 : List Tree
known_1 =
    at_most (num (pos 1)) (count_of T) ∷ formed (cell.Of kind.Int) (T ∷ memory_int ∷ []) ∷ at_most (num (negsuc 2147483647)) v_g
    ∷ at_most v_g (num (pos 2147483647)) ∷ at_most (num (negsuc 127)) v_i ∷ at_most v_i (num (pos 127)) ∷ (and_of ((at_most (num (pos 0)) v_i)
    ∷ at_most v_i (num (pos 3)) ∷ [])) ∷ []

abbrev known_2 : List Tree
known_2 = known_1 ++ (t10 ∷ [])

abbrev known_3 : List Tree
known_3 = known_2 ++ (t2 ∷ [])

abbrev known_4 : List Tree
known_4 =
    known_3 ++ (t7 ∷ formed (cell.Of kind.Int) (t1 ∷ memory_1_int ∷ []) ∷ framed (shape.New ∷ []) (memory_int ∷ memory_1_int ∷ (count_of T) ∷ [])
    ∷ [])

abbrev known_5 : List Tree
known_5 =
    known_4 ++ (t3 ∷ at_most (num (negsuc 2147483647)) t4 ∷ at_most t4 (num (pos 2147483647)) ∷ at_most (num (negsuc 2147483647)) t11
    ∷ at_most t11 (num (pos 2147483647)) ∷ t16 ∷ [])

abbrev known_6 : List Tree
known_6 =
    known_4 ++ (t3 ∷ at_most (num (negsuc 2147483647)) t4 ∷ at_most t4 (num (pos 2147483647)) ∷ at_most (num (negsuc 2147483647)) t11
    ∷ at_most t11 (num (pos 2147483647)) ∷ t17 ∷ t12 ∷ t13 ∷ [])

abbrev known_7 : List Tree
known_7 = known_6 ++ (t6 ∷ [])

abbrev known_8 : List Tree
known_8 = known_7 ++ (at_most (count_of T) (count_of T) ∷ [])

abbrev known_9 : List Tree
known_9 =
    known_4 ++ (t3 ∷ at_most (num (negsuc 2147483647)) t4 ∷ at_most t4 (num (pos 2147483647)) ∷ at_most (num (negsuc 2147483647)) t11
    ∷ at_most t11 (num (pos 2147483647)) ∷ (or_of ((and_of (t16 ∷ t18 ∷ same_of memory_2_int memory_1_int ∷ [])) ∷ (and_of (t17 ∷ t12 ∷ t13 ∷ t6
    ∷ at_most (count_of T) (count_of T) ∷ t18 ∷ at_most (num (negsuc 2147483647)) t14 ∷ at_most t14 (num (pos 2147483647))
    ∷ (same_of memory_2_int (store memory_1_int (count_of T) (add (num (pos 0)) (num (pos 1))) (ite (not_of (not_of (equal t8 (num (pos 0))))) (num (pos 1)) (num
    (pos 0)))))
    ∷ [])) ∷ [])) ∷ [])

abbrev known_10 : List Tree
known_10 = known_9 ++ (t20 ∷ [])

abbrev known_11 : List Tree
known_11 =
    known_10 ++ (t19 ∷ formed (cell.Of kind.Int) ((grow_of T (count_of t1)) ∷ memory_3_int ∷ []) ∷ framed (shape.New ∷ []) (memory_2_int
    ∷ memory_3_int ∷ (count_of T) ∷ []) ∷ [])

abbrev expected : List Goal
expected =
    goal 0 (undefined_place overflow 5) known_1 t10
    ∷ goal 1 (undefined_place shift 5) known_2 t2
    ∷ goal 2 (undefined_place overflow 5) known_3 t7
    ∷ goal 3 (undefined_place index 5) known_4 t3
    ∷ goal 4 (undefined_place overflow 5) known_5 t18
    ∷ goal 5 (undefined_place index 6) known_6 t6
    ∷ goal 6 (broken_place broken.assigns 6) known_7 (at_most (count_of T) (count_of T))
    ∷ goal 7 (undefined_place overflow 6) known_8 t18
    ∷ goal 8 (undefined_place overflow 7) known_9 t20
    ∷ goal 9 (broken_place broken.assert 7) known_10 t19
    ∷ goal 10 (undefined_place noreturn 8) known_11 false_tree
    ∷ []

abbrev pub locals_have_goals : Type 0
locals_have_goals = goals_in small kinds texts 0 f names ≡ expected
