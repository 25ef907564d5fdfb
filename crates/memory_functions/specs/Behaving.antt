-- The goals of a function with behaviors, and a loop without a set of its own, worked out by hand.
use Rattle.std.specs.Prelude.{◌≡◌, ℕ, zero, suc, true, false, pos, negsuc, List, [], ◌∷◌, ◌++◌, codes, Option, Some, None}
use Rattle.wp_base.specs.declared.kinds.CellKind.TheVariants as cell
use Rattle.wp_base.specs.declared.kinds.Kind.TheVariants as kind
use Rattle.typed_prog.specs.declared.operators.Arithmetic.TheVariants as ar
use Rattle.typed_prog.specs.declared.operators.Comparison.TheVariants as cmp
use Rattle.typed_prog.specs.declared.operators.Op.TheVariants as op
use Rattle.typed_prog.specs.declared.operators.Variable.TheVariants as variables
use Rattle.typed_prog.specs.Types.{of_kind, pointer_to}
use Rattle.typed_prog.specs.Tree as t
use Rattle.acsl_trees.specs.declared.heads.Content.TheVariants as content
use Rattle.acsl_trees.specs.declared.heads.Head.TheVariants as head
use Rattle.acsl_trees.specs.declared.heads.Label.TheVariants as label
use Rattle.acsl_trees.specs.declared.heads.Range.TheVariants as range
use Rattle.acsl_trees.specs.Tree as acsl
use Rattle.qed_terms.specs.declared.head.TermOp.TheVariants as term
use Rattle.qed_terms.specs.declared.head.Shape.TheVariants as shape
use Rattle.qed_terms.specs.Tree.{Tree, num, var, equal, at_most, less, not_of, and_of, or_of, imp_of, ite}
use Rattle.c_runs.specs.Program.{Function, Program}
use Rattle.c_runs.specs.Operators.{overflow}
use Rattle.c_runs.specs.Claims as broken
use Rattle.c_runs.specs.Tree.{Steps}
use Rattle.c_runs.specs.Tree as core
use Rattle.program_steps.specs.Stops.{undefined_place, broken_place, kept_place}
use Rattle.walk_steps.specs.Walk.{Goal}
use Rattle.memory_steps.specs.World.{memory_var, table_var, count_of, grow_of}
use Rattle.memory_words.specs.Shapes.{FileCells}
use Rattle.memory_words.specs.Readings.{Texts}
use Rattle.memory_functions.specs.Words.{Written}
use Rattle.memory_functions.specs.Shown.{layout, scalar, object, path_to, read, number, applied, all_steps, said, claim_at, loop_of, behavior_of, contract_of, together_of}
use Rattle.memory_functions.specs.Shown.{cells_with, binders_by, whole_name, pointer_name, written_by, program_of, goal, add, sub, neg_of, of_term, has_layout, formed, framed}
use Rattle.memory_functions.specs.Shown.{some, bound, goals_in}

-- ---- the program

-- int g; int h;
-- /*@ ensures (i6 % 5) > i6 && (\old(g) - i6) == i7;
--     ensures (\exists integer k8; 0 <= k8 <= 4 && k8 == i6) ==> (\exists integer k9; 0 <= k9 <= 4 && k9 == g);
--     behavior b1: assumes i > 0;
--     behavior b2: assumes i <= 0; requires \exists integer k10; 0 <= k10 <= 4 && k10 == 5; assigns g, h;
--         ensures \exists integer k11; 0 <= k11 <= 4 && k11 == g;
--     complete behaviors; */
-- int *f(unsigned i, _Bool i6, unsigned i7) {
--     /*@ loop invariant -3 <= i6 <= 9; */ while (i6 != 5) { unsigned v12; int v13; i6--; }
--     return &h;
-- }

abbrev f : Function Steps
f = record {
  params = 3;
  variables = scalar (cell.Of kind.UInt) true ∷ scalar (cell.Of kind.Bool) true ∷ scalar (cell.Of kind.UInt) true ∷ scalar (cell.Of kind.UInt) false ∷ scalar
      (cell.Of kind.Int) false ∷ [];
  result = Some cell.Ptr;
  contract =
      contract_of (behavior_of [] [] (claim_at 6 (said head.And (said head.Chain (said (head.Arithmetic ar.Rem) (said (head.Read (content.Integer kind.Bool) None)
      (acsl.leaf (head.Variable (variables.Local 1))
      ∷ []) ∷ acsl.leaf (head.Number (pos 5)) ∷ [])
      ∷ said (head.Link cmp.Greater) (said (head.Read (content.Integer kind.Bool) None) (acsl.leaf (head.Variable (variables.Local 1)) ∷ []) ∷ [])
      ∷ [])
      ∷ said head.Chain (said (head.Arithmetic ar.Sub) (said (head.At label.Pre) (said (head.Read (content.Integer kind.Int) None) (acsl.leaf (head.Variable
      (variables.Global 0))
      ∷ []) ∷ []) ∷ said (head.Read (content.Integer kind.Bool) None) (acsl.leaf (head.Variable (variables.Local 1)) ∷ []) ∷ [])
      ∷ said (head.Link cmp.Equal) (said (head.Read (content.Integer kind.UInt) None) (acsl.leaf (head.Variable (variables.Local 2)) ∷ []) ∷ [])
      ∷ []) ∷ []))
      ∷ claim_at 7 (said head.Implies (said (head.Some (range.Between false false (record { line = 7; node = 13 }))) (acsl.leaf (head.Number (pos 0))
      ∷ acsl.leaf (head.Number (pos 4)) ∷ said head.Chain (acsl.leaf (head.Name 0)
      ∷ said (head.Link cmp.Equal) (said (head.Read (content.Integer kind.Bool) None) (acsl.leaf (head.Variable (variables.Local 1)) ∷ []) ∷ [])
      ∷ []) ∷ []) ∷ said (head.Some (range.Between false false (record { line = 7; node = 23 }))) (acsl.leaf (head.Number (pos 0))
      ∷ acsl.leaf (head.Number (pos 4)) ∷ said head.Chain (acsl.leaf (head.Name 0)
      ∷ said (head.Link cmp.Equal) (said (head.Read (content.Integer kind.Int) None) (acsl.leaf (head.Variable (variables.Global 0)) ∷ []) ∷ [])
      ∷ []) ∷ []) ∷ []))
      ∷ []) None) None (behavior_of (said head.Chain (said (head.Read (content.Integer kind.UInt) None) (acsl.leaf (head.Variable (variables.Local 0))
      ∷ []) ∷ said (head.Link cmp.Greater) (acsl.leaf (head.Number (pos 0)) ∷ []) ∷ []) ∷ []) [] [] None
      ∷ behavior_of (said head.Chain (said (head.Read (content.Integer kind.UInt) None) (acsl.leaf (head.Variable (variables.Local 0)) ∷ [])
      ∷ said (head.Link cmp.AtMost) (acsl.leaf (head.Number (pos 0)) ∷ []) ∷ [])
      ∷ []) (claim_at 9 (said (head.Some (range.Between false false (record { line = 9; node = 38 }))) (acsl.leaf (head.Number (pos 0))
      ∷ acsl.leaf (head.Number (pos 4)) ∷ said head.Chain (acsl.leaf (head.Name 0) ∷ said (head.Link cmp.Equal) (acsl.leaf (head.Number (pos 5))
      ∷ []) ∷ []) ∷ []))
      ∷ []) (claim_at 9 (said (head.Some (range.Between false false (record { line = 9; node = 49 }))) (acsl.leaf (head.Number (pos 0))
      ∷ acsl.leaf (head.Number (pos 4)) ∷ said head.Chain (acsl.leaf (head.Name 0)
      ∷ said (head.Link cmp.Equal) (said (head.Read (content.Integer kind.Int) None) (acsl.leaf (head.Variable (variables.Global 0)) ∷ []) ∷ [])
      ∷ []) ∷ [])) ∷ []) (Some (said (head.Region (content.Integer kind.Int)) (acsl.leaf (head.Variable (variables.Global 0)) ∷ [])
      ∷ said (head.Region (content.Integer kind.Int)) (acsl.leaf (head.Variable (variables.Global 1)) ∷ []) ∷ [])) ∷ []) (together_of true [] 10 ∷ []);
  body = all_steps (
      core.scope [] (all_steps (
      core.around (all_steps (
      core.repeat (loop_of (claim_at 11 (said head.Chain (said head.Negate (acsl.leaf (head.Number (pos 3)) ∷ []) ∷ said (head.Link cmp.AtMost) (said (head.Read
      (content.Integer kind.Bool) None) (acsl.leaf (head.Variable (variables.Local 1)) ∷ []) ∷ []) ∷ said (head.Link cmp.AtMost) (acsl.leaf (head.Number
      (pos 9)) ∷ []) ∷ [])) ∷ []) None 0 None 3) (all_steps (
      core.branch [] (applied (op.Compare cmp.NotEqual) (of_kind kind.Int) 11 (applied op.Convert (of_kind kind.Int) 11 (read (variables.Local 1)
      (of_kind kind.Bool) 11 ∷ []) ∷ number (pos 5) (of_kind kind.Int) 11 ∷ [])) core.end (all_steps (
      core.exit 0
      ∷ []))
      ∷ core.around (all_steps (
      core.scope (3 ∷ 4 ∷ []) (all_steps (
      core.store [] (of_kind kind.Bool) 11 (path_to (variables.Local 1) 11) (t.values_of (applied op.Convert (of_kind kind.Bool) 11 (applied
      (op.Arithmetic ar.Sub) (of_kind kind.Int) 11 (applied op.Convert (of_kind kind.Int) 11 (read (variables.Local 1) (of_kind kind.Bool) 11
      ∷ []) ∷ number (pos 1) (of_kind kind.Int) 11 ∷ []) ∷ []) ∷ []))
      ∷ []))
      ∷ []))
      ∷ []))
      ∷ []))
      ∷ core.give [] (Some (applied (op.Address (path_to (variables.Global 1) 12) false) (pointer_to (of_kind kind.Int) false) 12 []))
      ∷ []))
      ∷ []);
  end = 12;
}

abbrev functions : ℕ → Option (Function Steps)
functions zero = None
functions (suc zero) = Some f
functions (suc (suc n)) = None

abbrev small : Program Steps
small = program_of (scalar (cell.Of kind.Int) false ∷ object (layout 1 (cell.Of kind.Int ∷ []) true) false ∷ []) ((cell.Of kind.Int ∷ cell.Of kind.Char ∷ cell.Ptr
    ∷ cell.Of kind.Int ∷ cell.Of kind.Int ∷ cell.Of kind.Int ∷ []) ∷ []) functions

abbrev kinds : FileCells
kinds = cells_with true (cell.Of kind.Char ∷ cell.Of kind.Int ∷ cell.Ptr ∷ [])

abbrev names : Written
names =
    written_by (whole_name (codes "g") ∷ whole_name (codes "h") ∷ []) (whole_name (codes "i") ∷ whole_name (codes "i6") ∷ whole_name (codes "i7") ∷ whole_name
    (codes "v12") ∷ whole_name (codes "v13") ∷ []) [] (pointer_name (codes "\\result")) (whole_name (codes "%"))

abbrev texts : Texts
texts = binders_by (bound 7 13 (codes "k8" ∷ codes "k9" ∷ []) ∷ bound 9 38 (codes "k10" ∷ []) ∷ bound 9 49 (codes "k11" ∷ []) ∷ [])

-- ---- its goals

abbrev memory_1_char : Tree
memory_1_char = memory_var (codes "M#1:char")

abbrev memory_1_int : Tree
memory_1_int = memory_var (codes "M#1:int")

abbrev memory_1_ptrb : Tree
memory_1_ptrb = memory_var (codes "M#1:ptrb")

abbrev memory_1_ptro : Tree
memory_1_ptro = memory_var (codes "M#1:ptro")

abbrev memory_char : Tree
memory_char = memory_var (codes "M:char")

abbrev memory_int : Tree
memory_int = memory_var (codes "M:int")

abbrev memory_ptrb : Tree
memory_ptrb = memory_var (codes "M:ptrb")

abbrev memory_ptro : Tree
memory_ptro = memory_var (codes "M:ptro")

abbrev T : Tree
T = table_var (codes "T")

abbrev v_count_1 : Tree
v_count_1 = var (codes "c#1")

abbrev v_g : Tree
v_g = var (codes "g")

abbrev v_g_1 : Tree
v_g_1 = var (codes "g#1")

abbrev v_i : Tree
v_i = var (codes "i")

abbrev v_i6 : Tree
v_i6 = var (codes "i6")

abbrev v_i6_1 : Tree
v_i6_1 = var (codes "i6#1")

abbrev v_i7 : Tree
v_i7 = var (codes "i7")

abbrev v_k10_1 : Tree
v_k10_1 = var (codes "k10!1")

abbrev v_k11_1 : Tree
v_k11_1 = var (codes "k11!1")

abbrev v_k8_1 : Tree
v_k8_1 = var (codes "k8!1")

abbrev v_k9_1 : Tree
v_k9_1 = var (codes "k9!1")

abbrev t1 : Tree
t1 = or_of ((less (num (pos 0)) v_i) ∷ (at_most v_i (num (pos 0))) ∷ [])

abbrev t2 : Tree
t2 = and_of ((at_most (neg_of (num (pos 3))) v_i6) ∷ (at_most v_i6 (num (pos 9))) ∷ [])

abbrev t3 : Tree
t3 = ite (equal (sub v_i6_1 (num (pos 1))) (num (pos 0))) (num (pos 0)) (num (pos 1))

abbrev t4 : Tree
t4 = and_of ((at_most (num (negsuc 2147483647)) (sub v_i6_1 (num (pos 1)))) ∷ (at_most (sub v_i6_1 (num (pos 1))) (num (pos 2147483647))) ∷ [])

abbrev t5 : Tree
t5 = and_of ((less v_i6 (of_term term.Mod (v_i6 ∷ (num (pos 5)) ∷ []))) ∷ (equal (sub v_g v_i6) v_i7) ∷ [])

abbrev t6 : Tree
t6 =
    imp_of (some (codes "k8!1") (num (pos 0)) (add (num (pos 4)) (num (pos 1))) (equal v_k8_1 v_i6)) (some (codes "k9!1") (num (pos 0)) (add (num (pos 4)) (num (pos 1)))
    (equal v_k9_1 v_g_1))

abbrev known_1 : List Tree
known_1 =
    has_layout T (num (pos 1)) (layout 1 (cell.Of kind.Int ∷ []) true) ∷ at_most (num (pos 2)) (count_of T) ∷ formed (cell.Of kind.Char) (T
    ∷ memory_char ∷ []) ∷ formed (cell.Of kind.Int) (T ∷ memory_int ∷ []) ∷ formed cell.Ptr (T ∷ memory_ptrb ∷ memory_ptro ∷ [])
    ∷ at_most (num (negsuc 2147483647)) v_g ∷ at_most v_g (num (pos 2147483647)) ∷ at_most (num (pos 0)) v_i ∷ at_most v_i (num (pos 4294967295))
    ∷ at_most (num (pos 0)) v_i6 ∷ at_most v_i6 (num (pos 1)) ∷ at_most (num (pos 0)) v_i7 ∷ at_most v_i7 (num (pos 4294967295))
    ∷ (imp_of (at_most v_i (num (pos 0))) (some (codes "k10!1") (num (pos 0)) (add (num (pos 4)) (num (pos 1))) (equal v_k10_1 (num (pos 5))))) ∷ []

abbrev known_2 : List Tree
known_2 = known_1 ++ (t1 ∷ [])

abbrev known_3 : List Tree
known_3 =
    known_2 ++ (t2 ∷ at_most (count_of T) v_count_1 ∷ at_most (num (negsuc 2147483647)) v_g_1 ∷ at_most v_g_1 (num (pos 2147483647))
    ∷ at_most (num (pos 0)) v_i6_1 ∷ at_most v_i6_1 (num (pos 1)) ∷ formed (cell.Of kind.Char) ((grow_of T v_count_1) ∷ memory_1_char ∷ [])
    ∷ formed (cell.Of kind.Int) ((grow_of T v_count_1) ∷ memory_1_int ∷ []) ∷ formed cell.Ptr ((grow_of T v_count_1) ∷ memory_1_ptrb ∷ memory_1_ptro
    ∷ []) ∷ imp_of (at_most v_i (num (pos 0))) (framed (shape.New ∷ []) (memory_char ∷ memory_1_char ∷ (count_of T) ∷ []))
    ∷ (imp_of (at_most v_i (num (pos 0))) (framed (shape.Cells ∷ shape.New ∷ []) (memory_int ∷ memory_1_int ∷ num (pos 1) ∷ num (pos 0)
    ∷ add (num (pos 0)) (num (pos 1)) ∷ count_of T ∷ []))) ∷ imp_of (at_most v_i (num (pos 0))) (framed (shape.New ∷ []) (memory_ptrb ∷ memory_1_ptrb
    ∷ (count_of T) ∷ [])) ∷ imp_of (at_most v_i (num (pos 0))) (framed (shape.New ∷ []) (memory_ptro ∷ memory_1_ptro ∷ (count_of T) ∷ []))
    ∷ (and_of ((at_most (neg_of (num (pos 3))) v_i6_1) ∷ at_most v_i6_1 (num (pos 9)) ∷ [])) ∷ not_of (equal v_i6_1 (num (pos 5))) ∷ [])

abbrev known_4 : List Tree
known_4 = known_3 ++ (t4 ∷ [])

abbrev known_5 : List Tree
known_5 =
    known_2 ++ (t2 ∷ at_most (count_of T) v_count_1 ∷ at_most (num (negsuc 2147483647)) v_g_1 ∷ at_most v_g_1 (num (pos 2147483647))
    ∷ at_most (num (pos 0)) v_i6_1 ∷ at_most v_i6_1 (num (pos 1)) ∷ formed (cell.Of kind.Char) ((grow_of T v_count_1) ∷ memory_1_char ∷ [])
    ∷ formed (cell.Of kind.Int) ((grow_of T v_count_1) ∷ memory_1_int ∷ []) ∷ formed cell.Ptr ((grow_of T v_count_1) ∷ memory_1_ptrb ∷ memory_1_ptro
    ∷ []) ∷ imp_of (at_most v_i (num (pos 0))) (framed (shape.New ∷ []) (memory_char ∷ memory_1_char ∷ (count_of T) ∷ []))
    ∷ (imp_of (at_most v_i (num (pos 0))) (framed (shape.Cells ∷ shape.New ∷ []) (memory_int ∷ memory_1_int ∷ num (pos 1) ∷ num (pos 0)
    ∷ add (num (pos 0)) (num (pos 1)) ∷ count_of T ∷ []))) ∷ imp_of (at_most v_i (num (pos 0))) (framed (shape.New ∷ []) (memory_ptrb ∷ memory_1_ptrb
    ∷ (count_of T) ∷ [])) ∷ imp_of (at_most v_i (num (pos 0))) (framed (shape.New ∷ []) (memory_ptro ∷ memory_1_ptro ∷ (count_of T) ∷ []))
    ∷ (and_of ((at_most (neg_of (num (pos 3))) v_i6_1) ∷ at_most v_i6_1 (num (pos 9)) ∷ [])) ∷ (not_of (not_of (equal v_i6_1 (num (pos 5))))) ∷ [])

abbrev known_6 : List Tree
known_6 = known_5 ++ (t5 ∷ [])

abbrev known_7 : List Tree
known_7 = known_6 ++ (t6 ∷ [])

abbrev expected : List Goal
expected =
    goal 0 (broken_place broken.complete 10) known_1 t1
    ∷ goal 1 (broken_place broken.invariant 11) known_2 t2
    ∷ goal 2 (undefined_place overflow 11) known_3 t4
    ∷ goal 3 (kept_place 11) known_4 (and_of ((at_most (neg_of (num (pos 3))) t3)
    ∷ (at_most t3 (num (pos 9))) ∷ []))
    ∷ goal 4 (broken_place broken.ensures 6) known_5 t5
    ∷ goal 5 (broken_place broken.ensures 7) known_6 t6
    ∷ goal 6 (broken_place broken.ensures 9) known_7 (imp_of (at_most v_i (num (pos 0))) (some (codes "k11!1") (num (pos 0)) (add (num (pos 4)) (num (pos 1)))
    (equal v_k11_1 v_g_1)))
    ∷ []

abbrev pub behaviors_have_goals : Type 0
behaviors_have_goals = goals_in small kinds texts 1 f names ≡ expected
