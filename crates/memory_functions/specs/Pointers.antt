-- The goals of a function that counts down behind a pointer, in a loop for which its own set is in force, worked out by hand.
use Rattle.std.specs.Prelude.{◌≡◌, ℕ, zero, suc, true, false, pos, negsuc, List, [], ◌∷◌, ◌++◌, codes, Option, Some, None}
use Rattle.wp_base.specs.declared.kinds.CellKind.TheVariants as cell
use Rattle.wp_base.specs.declared.kinds.Kind.TheVariants as kind
use Rattle.typed_prog.specs.declared.operators.Arithmetic.TheVariants as ar
use Rattle.typed_prog.specs.declared.operators.Comparison.TheVariants as cmp
use Rattle.typed_prog.specs.declared.operators.Op.TheVariants as op
use Rattle.typed_prog.specs.declared.operators.Root.TheVariants as root
use Rattle.typed_prog.specs.declared.operators.Variable.TheVariants as variables
use Rattle.typed_prog.specs.Types.{of_kind, pointer_to}
use Rattle.typed_prog.specs.Tree as t
use Rattle.acsl_trees.specs.declared.heads.Content.TheVariants as content
use Rattle.acsl_trees.specs.declared.heads.Head.TheVariants as head
use Rattle.acsl_trees.specs.declared.heads.Range.TheVariants as range
use Rattle.acsl_trees.specs.Tree as acsl
use Rattle.qed_terms.specs.declared.head.TermOp.TheVariants as term
use Rattle.qed_terms.specs.declared.head.Shape.TheVariants as shape
use Rattle.qed_terms.specs.Tree.{Tree, num, var, equal, at_most, less, not_of, and_of, or_of, ite}
use Rattle.c_runs.specs.Program.{Function, Program}
use Rattle.c_runs.specs.Operators.{overflow, access}
use Rattle.c_runs.specs.Claims as broken
use Rattle.c_runs.specs.Tree.{Steps}
use Rattle.c_runs.specs.Tree as core
use Rattle.program_steps.specs.Stops.{undefined_place, broken_place}
use Rattle.walk_steps.specs.Walk.{Goal}
use Rattle.memory_steps.specs.World.{memory_var, table_var, count_of, grow_of}
use Rattle.memory_words.specs.Shapes.{FileCells}
use Rattle.memory_words.specs.Readings.{Texts}
use Rattle.memory_functions.specs.Words.{Written}
use Rattle.memory_functions.specs.Shown.{scalar, path_to, path_of, read, number, applied, all_steps, said, claim_at, loop_of, behavior_of, contract_of, cells_with, binders_by}
use Rattle.memory_functions.specs.Shown.{whole_name, pointer_name, written_by, program_of, goal, add, sub, load, iff_of, of_term, can_read, can_write, formed, framed, every}
use Rattle.memory_functions.specs.Shown.{bound, goals_in}

-- ---- the program

-- /*@ ensures (\forall integer k3; 0 <= k3 < 3 ==> p2[k3] < \result) ^^ (\forall integer k4; 0 <= k4 < 3 ==> p2[k4] < p2[2]);
--     assigns *p2;
--     requires n < 7;
--     requires p2 == \null || \valid(p2); */
-- int f(int *p2, unsigned n) {
--     /*@ loop variant n; */ for (; n < 0; n++) { --*p2; }
--     /*@ assert \forall integer k5; 0 <= k5 < 3 ==> p2[k5] < *p2; */
--     return (n <= n); return (n * n);
-- }

abbrev f : Function Steps
f = record {
  params = 2;
  variables = scalar cell.Ptr true ∷ scalar (cell.Of kind.UInt) true ∷ [];
  result = Some (cell.Of kind.Int);
  contract =
      contract_of (behavior_of [] (claim_at 6 (said head.Chain (said (head.Read (content.Integer kind.UInt) None) (acsl.leaf (head.Variable (variables.Local 1))
      ∷ []) ∷ said (head.Link cmp.Less) (acsl.leaf (head.Number (pos 7)) ∷ []) ∷ []))
      ∷ claim_at 7 (said head.Or (said head.Chain (said (head.Read content.Pointer None) (acsl.leaf (head.Variable (variables.Local 0)) ∷ [])
      ∷ said (head.LinkPointers cmp.Equal) (acsl.leaf head.Null ∷ []) ∷ [])
      ∷ said (head.Valid (content.Integer kind.Int) true) (said head.Pointed (said (head.Read content.Pointer None) (acsl.leaf (head.Variable (variables.Local 0))
      ∷ []) ∷ []) ∷ []) ∷ []))
      ∷ []) (claim_at 4 (said head.Xor (said (head.Every (range.Between false true (record { line = 4; node = 1 }))) (acsl.leaf (head.Number (pos 0))
      ∷ acsl.leaf (head.Number (pos 3))
      ∷ said head.Chain (said (head.Read (content.Integer kind.Int) None) (said head.Pointed (said (head.Moved false 1) (said (head.Read content.Pointer None) (acsl.leaf
      (head.Variable (variables.Local 0))
      ∷ []) ∷ acsl.leaf (head.Name 0) ∷ []) ∷ []) ∷ []) ∷ said (head.Link cmp.Less) (acsl.leaf head.Result ∷ []) ∷ []) ∷ [])
      ∷ said (head.Every (range.Between false true (record { line = 4; node = 13 }))) (acsl.leaf (head.Number (pos 0))
      ∷ acsl.leaf (head.Number (pos 3))
      ∷ said head.Chain (said (head.Read (content.Integer kind.Int) None) (said head.Pointed (said (head.Moved false 1) (said (head.Read content.Pointer None) (acsl.leaf
      (head.Variable (variables.Local 0))
      ∷ []) ∷ acsl.leaf (head.Name 0) ∷ []) ∷ []) ∷ [])
      ∷ said (head.Link cmp.Less) (said (head.Read (content.Integer kind.Int) None) (said head.Pointed (said (head.Moved false 1) (said (head.Read content.Pointer None)
      (acsl.leaf (head.Variable (variables.Local 0))
      ∷ []) ∷ acsl.leaf (head.Number (pos 2)) ∷ []) ∷ []) ∷ []) ∷ []) ∷ []) ∷ []) ∷ []))
      ∷ []) (Some (said (head.Region (content.Integer kind.Int)) (said head.Pointed (said (head.Read content.Pointer None) (acsl.leaf (head.Variable (variables.Local 0))
      ∷ []) ∷ []) ∷ []) ∷ []))) None [] [];
  body = all_steps (
      core.scope [] (all_steps (
      core.scope [] (all_steps (
      core.around (all_steps (
      core.repeat (loop_of [] None 0 (Some (record {
        what = said (head.Read (content.Integer kind.UInt) None) (acsl.leaf (head.Variable (variables.Local 1))
            ∷ []);
        line = 8;
      })) 2) (all_steps (
      core.branch [] (applied (op.Compare cmp.Less) (of_kind kind.Int) 8 (read (variables.Local 1) (of_kind kind.UInt) 8 ∷ number (pos 0)
      (of_kind kind.UInt) 8 ∷ [])) core.end (all_steps (
      core.exit 0
      ∷ []))
      ∷ core.around (all_steps (
      core.scope [] (all_steps (
      core.store [] (of_kind kind.Int) 8 (path_of (root.Pointed 0) [] 8) (t.values_of (applied op.Convert (of_kind kind.Int) 8 (applied
      (op.Arithmetic ar.Sub) (of_kind kind.Int) 8 (applied op.Convert (of_kind kind.Int) 8 (applied (op.Read (path_of (root.Pointed 0) [] 8))
      (of_kind kind.Int) 8 (read (variables.Local 0) (pointer_to (of_kind kind.Int) false) 8 ∷ []) ∷ []) ∷ number (pos 1) (of_kind kind.Int) 8
      ∷ []) ∷ []) ∷ read (variables.Local 0) (pointer_to (of_kind kind.Int) false) 8 ∷ []))
      ∷ []))
      ∷ []))
      ∷ core.store [] (of_kind kind.UInt) 8 (path_to (variables.Local 1) 8) (t.values_of (applied op.Convert (of_kind kind.UInt) 8 (applied
      (op.Arithmetic ar.Add) (of_kind kind.UInt) 8 (applied op.Convert (of_kind kind.UInt) 8 (read (variables.Local 1) (of_kind kind.UInt) 8 ∷ [])
      ∷ number (pos 1) (of_kind kind.UInt) 8 ∷ []) ∷ []) ∷ []))
      ∷ []))
      ∷ []))
      ∷ []))
      ∷ core.claim (claim_at 9 (said (head.Every (range.Between false true (record { line = 9; node = 1 }))) (acsl.leaf (head.Number (pos 0)) ∷ acsl.leaf (head.Number
      (pos 3)) ∷ said head.Chain (said (head.Read (content.Integer kind.Int) None) (said head.Pointed (said (head.Moved false 1) (said
      (head.Read content.Pointer None) (acsl.leaf (head.Variable (variables.Local 0)) ∷ []) ∷ acsl.leaf (head.Name 0) ∷ []) ∷ []) ∷ []) ∷ said
      (head.Link cmp.Less) (said (head.Read (content.Integer kind.Int) None) (said head.Pointed (said (head.Read content.Pointer None) (acsl.leaf (head.Variable
      (variables.Local 0)) ∷ []) ∷ []) ∷ []) ∷ []) ∷ []) ∷ [])))
      ∷ core.give [] (Some (applied (op.Compare cmp.AtMost) (of_kind kind.Int) 9 (read (variables.Local 1) (of_kind kind.UInt) 9 ∷ read (variables.Local 1)
      (of_kind kind.UInt) 9 ∷ [])))
      ∷ core.give [] (Some (applied op.Convert (of_kind kind.Int) 9 (applied (op.Arithmetic ar.Mul) (of_kind kind.UInt) 9 (read (variables.Local 1)
      (of_kind kind.UInt) 9 ∷ read (variables.Local 1) (of_kind kind.UInt) 9 ∷ []) ∷ [])))
      ∷ []))
      ∷ []);
  end = 9;
}

abbrev functions : ℕ → Option (Function Steps)
functions zero = Some f
functions (suc n) = None

abbrev small : Program Steps
small = program_of [] ((cell.Of kind.Int ∷ cell.Of kind.Char ∷ cell.Ptr ∷ cell.Of kind.Int ∷ cell.Of kind.Int ∷ cell.Of kind.Int ∷ []) ∷ []) functions

abbrev kinds : FileCells
kinds = cells_with true (cell.Of kind.Int ∷ [])

abbrev names : Written
names =
    written_by [] (pointer_name (codes "p2") ∷ whole_name (codes "n") ∷ []) [] (whole_name (codes "\\result")) (whole_name (codes "%"))

abbrev texts : Texts
texts = binders_by (bound 4 1 (codes "k3" ∷ codes "k4" ∷ []) ∷ bound 9 1 (codes "k5" ∷ []) ∷ [])

-- ---- its goals

abbrev memory_1_int : Tree
memory_1_int = memory_var (codes "M#1:int")

abbrev memory_int : Tree
memory_int = memory_var (codes "M:int")

abbrev T : Tree
T = table_var (codes "T")

abbrev v_count_1 : Tree
v_count_1 = var (codes "c#1")

abbrev v_k3_1 : Tree
v_k3_1 = var (codes "k3!1")

abbrev v_k4_1 : Tree
v_k4_1 = var (codes "k4!1")

abbrev v_k5_1 : Tree
v_k5_1 = var (codes "k5!1")

abbrev v_n : Tree
v_n = var (codes "n")

abbrev v_n_1 : Tree
v_n_1 = var (codes "n#1")

abbrev v_p2_b : Tree
v_p2_b = var (codes "p2:b")

abbrev v_p2_o : Tree
v_p2_o = var (codes "p2:o")

abbrev t1 : Tree
t1 = sub (load memory_1_int v_p2_b v_p2_o) (num (pos 1))

abbrev t2 : Tree
t2 = can_read (cell.Of kind.Int) (grow_of T v_count_1) v_p2_b v_p2_o

abbrev t3 : Tree
t3 = can_write (cell.Of kind.Int) (grow_of T v_count_1) v_p2_b v_p2_o

abbrev t4 : Tree
t4 = every (codes "k5!1") (num (pos 0)) (num (pos 3)) (less (load memory_1_int v_p2_b (add v_p2_o v_k5_1)) (load memory_1_int v_p2_b v_p2_o))

abbrev t5 : Tree
t5 = and_of ((at_most (num (negsuc 2147483647)) t1) ∷ (at_most t1 (num (pos 2147483647))) ∷ [])

abbrev t6 : Tree
t6 =
    or_of ((and_of ((equal v_p2_b v_p2_b) ∷ (at_most v_p2_o v_p2_o) ∷ (less v_p2_o (add v_p2_o (num (pos 1)))) ∷ [])) ∷ (at_most (count_of T) v_p2_b)
    ∷ [])

abbrev known_1 : List Tree
known_1 =
    at_most (num (pos 1)) (count_of T) ∷ formed (cell.Of kind.Int) (T ∷ memory_int ∷ []) ∷ at_most (num (pos 0)) v_p2_b ∷ less v_p2_b (count_of T)
    ∷ at_most (num (pos 0)) v_n ∷ at_most v_n (num (pos 4294967295)) ∷ less v_n (num (pos 7)) ∷ (or_of ((and_of ((equal v_p2_b (num (pos 0)))
    ∷ equal v_p2_o (num (pos 0)) ∷ [])) ∷ can_write (cell.Of kind.Int) T v_p2_b v_p2_o ∷ [])) ∷ at_most (count_of T) v_count_1
    ∷ at_most (num (pos 0)) v_n_1 ∷ at_most v_n_1 (num (pos 4294967295)) ∷ formed (cell.Of kind.Int) ((grow_of T v_count_1) ∷ memory_1_int ∷ [])
    ∷ (framed (shape.Cells ∷ shape.New ∷ []) (memory_int ∷ memory_1_int ∷ v_p2_b ∷ v_p2_o ∷ add v_p2_o (num (pos 1)) ∷ count_of T ∷ []))
    ∷ less v_n_1 (num (pos 0)) ∷ []

abbrev known_2 : List Tree
known_2 =
    known_1 ++ (t2 ∷ at_most (num (negsuc 2147483647)) (load memory_1_int v_p2_b v_p2_o)
    ∷ at_most (load memory_1_int v_p2_b v_p2_o) (num (pos 2147483647)) ∷ [])

abbrev known_3 : List Tree
known_3 = known_2 ++ (t5 ∷ [])

abbrev known_4 : List Tree
known_4 = known_3 ++ (t3 ∷ [])

abbrev known_5 : List Tree
known_5 = known_4 ++ (t6 ∷ [])

abbrev known_6 : List Tree
known_6 = known_5 ++ (at_most (num (pos 0)) v_n_1 ∷ [])

abbrev known_7 : List Tree
known_7 =
    at_most (num (pos 1)) (count_of T) ∷ formed (cell.Of kind.Int) (T ∷ memory_int ∷ []) ∷ at_most (num (pos 0)) v_p2_b ∷ less v_p2_b (count_of T)
    ∷ at_most (num (pos 0)) v_n ∷ at_most v_n (num (pos 4294967295)) ∷ less v_n (num (pos 7)) ∷ (or_of ((and_of ((equal v_p2_b (num (pos 0)))
    ∷ equal v_p2_o (num (pos 0)) ∷ [])) ∷ can_write (cell.Of kind.Int) T v_p2_b v_p2_o ∷ [])) ∷ at_most (count_of T) v_count_1
    ∷ at_most (num (pos 0)) v_n_1 ∷ at_most v_n_1 (num (pos 4294967295)) ∷ formed (cell.Of kind.Int) ((grow_of T v_count_1) ∷ memory_1_int ∷ [])
    ∷ (framed (shape.Cells ∷ shape.New ∷ []) (memory_int ∷ memory_1_int ∷ v_p2_b ∷ v_p2_o ∷ add v_p2_o (num (pos 1)) ∷ count_of T ∷ []))
    ∷ not_of (less v_n_1 (num (pos 0))) ∷ []

abbrev known_8 : List Tree
known_8 = known_7 ++ (t4 ∷ [])

abbrev expected : List Goal
expected =
    goal 0 (undefined_place access 8) known_1 t2
    ∷ goal 1 (undefined_place overflow 8) known_2 t5
    ∷ goal 2 (undefined_place access 8) known_3 t3
    ∷ goal 3 (broken_place broken.assigns 8) known_4 t6
    ∷ goal 4 (broken_place broken.variant_positive 8) known_5 (at_most (num (pos 0)) v_n_1)
    ∷ goal 5 (broken_place broken.variant_less 8) known_6 (less (of_term (term.Wrap kind.UInt) ((add v_n_1 (num (pos 1))) ∷ [])) v_n_1)
    ∷ goal 6 (broken_place broken.assert 9) known_7 t4
    ∷ goal 7 (broken_place broken.ensures 4) known_8 (not_of (iff_of (every (codes "k3!1") (num (pos 0)) (num (pos 3)) (less (load memory_1_int v_p2_b
    (add v_p2_o v_k3_1)) (ite (at_most v_n_1 v_n_1) (num (pos 1)) (num (pos 0))))) (every (codes "k4!1") (num (pos 0)) (num (pos 3)) (less (load memory_1_int v_p2_b
    (add v_p2_o v_k4_1)) (load memory_1_int v_p2_b (add v_p2_o (num (pos 2))))))))
    ∷ []

abbrev pub pointers_have_goals : Type 0
pointers_have_goals = goals_in small kinds texts 0 f names ≡ expected
