-- The goals of a function with a loop that changes a range behind a pointer, worked out by hand.
use Rattle.std.specs.Prelude.{◌≡◌, ℕ, zero, suc, true, false, pos, negsuc, List, [], ◌∷◌, ◌++◌, codes, Option, Some, None}
use Rattle.wp_base.specs.declared.kinds.CellKind.TheVariants as cell
use Rattle.wp_base.specs.declared.kinds.Kind.TheVariants as kind
use Rattle.typed_prog.specs.declared.operators.Arithmetic.TheVariants as ar
use Rattle.typed_prog.specs.declared.operators.Comparison.TheVariants as cmp
use Rattle.typed_prog.specs.declared.operators.Op.TheVariants as op
use Rattle.typed_prog.specs.declared.operators.Root.TheVariants as root
use Rattle.typed_prog.specs.declared.operators.Step.TheVariants as way
use Rattle.typed_prog.specs.declared.operators.Variable.TheVariants as variables
use Rattle.typed_prog.specs.Types.{of_kind, pointer_to}
use Rattle.typed_prog.specs.Tree as t
use Rattle.acsl_trees.specs.declared.heads.Content.TheVariants as content
use Rattle.acsl_trees.specs.declared.heads.Head.TheVariants as head
use Rattle.acsl_trees.specs.declared.heads.Label.TheVariants as label
use Rattle.acsl_trees.specs.Tree as acsl
use Rattle.qed_terms.specs.declared.head.TermOp.TheVariants as term
use Rattle.qed_terms.specs.declared.head.Shape.TheVariants as shape
use Rattle.qed_terms.specs.Tree.{Tree, num, var, false_tree, equal, at_most, less, not_of, and_of, or_of}
use Rattle.c_runs.specs.Program.{Function, Program}
use Rattle.c_runs.specs.Operators.{overflow, access, pointing, comparing}
use Rattle.c_runs.specs.Claims as broken
use Rattle.c_runs.specs.Tree.{Steps}
use Rattle.c_runs.specs.Tree as core
use Rattle.program_steps.specs.Stops.{undefined_place, broken_place, kept_place}
use Rattle.walk_steps.specs.Walk.{Goal}
use Rattle.memory_steps.specs.World.{memory_var, table_var, count_of, grow_of}
use Rattle.memory_words.specs.Shapes.{FileCells}
use Rattle.memory_words.specs.Readings.{Texts}
use Rattle.memory_functions.specs.Words.{Written}
use Rattle.memory_functions.specs.Shown.{scalar, path_to, path_of, read, number, applied, all_steps, said, claim_at, loop_of, behavior_of, contract_of, cells_with, binders_by}
use Rattle.memory_functions.specs.Shown.{whole_name, pointer_name, written_by, program_of, goal, add, sub, load, store, len_of, live_in, of_term, can_read, can_write, formed}
use Rattle.memory_functions.specs.Shown.{framed, goals_in}

-- ---- the program

-- /*@ ensures (p7[1] / *p7) <= \old(*p7); ensures *p7 > p7[1]; requires p7 == \null || \valid(p7); */
-- void f(int *p7) {
--     int v8 = (int)(p7 - p7);
--     /*@ loop invariant v8 <= 7; loop assigns *(p7 + (1 .. 2)), v8; loop variant *p7 + 5; */
--     while (v8 != 0 && (*p7 <= 3)) { p7[v8] = v8; long v10 = v8; p7 = &p7[v10]; v8--; }
-- }

abbrev f : Function Steps
f = record {
  params = 1;
  variables = scalar cell.Ptr true ∷ scalar (cell.Of kind.Int) true ∷ scalar (cell.Of kind.Long) true ∷ [];
  result = None;
  contract =
      contract_of (behavior_of [] (claim_at 9 (said head.Or (said head.Chain (said (head.Read content.Pointer None) (acsl.leaf (head.Variable (variables.Local 0))
      ∷ []) ∷ said (head.LinkPointers cmp.Equal) (acsl.leaf head.Null ∷ []) ∷ [])
      ∷ said (head.Valid (content.Integer kind.Int) true) (said head.Pointed (said (head.Read content.Pointer None) (acsl.leaf (head.Variable (variables.Local 0))
      ∷ []) ∷ []) ∷ []) ∷ []))
      ∷ []) (claim_at 7 (said head.Chain (said (head.Arithmetic ar.Div) (said (head.Read (content.Integer kind.Int) None) (said head.Pointed (said (head.Moved false 1)
      (said (head.Read content.Pointer None) (acsl.leaf (head.Variable (variables.Local 0))
      ∷ []) ∷ acsl.leaf (head.Number (pos 1)) ∷ []) ∷ []) ∷ [])
      ∷ said (head.Read (content.Integer kind.Int) None) (said head.Pointed (said (head.Read content.Pointer None) (acsl.leaf (head.Variable (variables.Local 0))
      ∷ []) ∷ []) ∷ []) ∷ [])
      ∷ said (head.Link cmp.AtMost) (said (head.At label.Pre) (said (head.Read (content.Integer kind.Int) None) (said head.Pointed (said (head.Read content.Pointer None)
      (acsl.leaf (head.Variable (variables.Local 0))
      ∷ []) ∷ []) ∷ []) ∷ []) ∷ []) ∷ []))
      ∷ claim_at 8 (said head.Chain (said (head.Read (content.Integer kind.Int) None) (said head.Pointed (said (head.Read content.Pointer None) (acsl.leaf (head.Variable
      (variables.Local 0))
      ∷ []) ∷ []) ∷ [])
      ∷ said (head.Link cmp.Greater) (said (head.Read (content.Integer kind.Int) None) (said head.Pointed (said (head.Moved false 1) (said
      (head.Read content.Pointer None) (acsl.leaf (head.Variable (variables.Local 0))
      ∷ []) ∷ acsl.leaf (head.Number (pos 1)) ∷ []) ∷ []) ∷ []) ∷ []) ∷ [])) ∷ []) None) None [] [];
  body = all_steps (
      core.scope (1 ∷ []) (all_steps (
      core.start [] 1 (applied op.Cast (of_kind kind.Int) 10 (applied (op.Difference 1) (of_kind kind.Long) 10 (read (variables.Local 0) (pointer_to
      (of_kind kind.Int) false) 10 ∷ read (variables.Local 0) (pointer_to (of_kind kind.Int) false) 10 ∷ []) ∷ []))
      ∷ core.around (all_steps (
      core.repeat (loop_of (claim_at 10 (said head.Chain (said (head.Read (content.Integer kind.Int) None) (acsl.leaf (head.Variable (variables.Local 1)) ∷ [])
      ∷ said (head.Link cmp.AtMost) (acsl.leaf (head.Number (pos 7)) ∷ []) ∷ [])) ∷ []) (Some (said (head.Region (content.Integer kind.Int)) (said
      (head.Behind 1) (said (head.Read content.Pointer None) (acsl.leaf (head.Variable (variables.Local 0)) ∷ []) ∷ acsl.leaf (head.Number (pos 1))
      ∷ acsl.leaf (head.Number (pos 2)) ∷ []) ∷ []) ∷ said (head.Region (content.Integer kind.Int)) (acsl.leaf (head.Variable (variables.Local 1)) ∷ [])
      ∷ [])) 10 (Some (record {
        what = said (head.Arithmetic ar.Add) (said (head.Read (content.Integer kind.Int) None) (said head.Pointed (said
            (head.Read content.Pointer None) (acsl.leaf (head.Variable (variables.Local 0)) ∷ []) ∷ []) ∷ []) ∷ acsl.leaf (head.Number (pos 5))
            ∷ []);
        line = 10;
      })) 2) (all_steps (
      core.branch [] (applied (op.Compare cmp.NotEqual) (of_kind kind.Int) 10 (read (variables.Local 1) (of_kind kind.Int) 10 ∷ number (pos 0)
      (of_kind kind.Int) 10 ∷ [])) core.end (all_steps (
      core.exit 0
      ∷ []))
      ∷ core.branch [] (applied (op.Compare cmp.AtMost) (of_kind kind.Int) 10 (applied (op.Read (path_of (root.Pointed 0) [] 10)) (of_kind kind.Int) 10 (read
      (variables.Local 0) (pointer_to (of_kind kind.Int) false) 10 ∷ []) ∷ number (pos 3) (of_kind kind.Int) 10 ∷ [])) core.end (all_steps (
      core.exit 0
      ∷ []))
      ∷ core.around (all_steps (
      core.scope (2 ∷ []) (all_steps (
      core.store [] (of_kind kind.Int) 10 (path_of (root.Pointed 0) (way.Moved 1 1 ∷ []) 10) (t.values_of (read (variables.Local 1)
      (of_kind kind.Int) 10 ∷ read (variables.Local 0) (pointer_to (of_kind kind.Int) false) 10 ∷ read (variables.Local 1) (of_kind kind.Int) 10
      ∷ []))
      ∷ core.start [] 2 (applied op.Convert (of_kind kind.Long) 10 (read (variables.Local 1) (of_kind kind.Int) 10 ∷ []))
      ∷ core.store [] (pointer_to (of_kind kind.Int) false) 10 (path_to (variables.Local 0) 10) (t.values_of (applied (op.Address (path_of
      (root.Pointed 0) (way.Moved 1 1 ∷ []) 10) false) (pointer_to (of_kind kind.Int) false) 10 (read (variables.Local 0) (pointer_to
      (of_kind kind.Int) false) 10 ∷ read (variables.Local 2) (of_kind kind.Long) 10 ∷ []) ∷ []))
      ∷ core.store [] (of_kind kind.Int) 10 (path_to (variables.Local 1) 10) (t.values_of (applied op.Convert (of_kind kind.Int) 10 (applied
      (op.Arithmetic ar.Sub) (of_kind kind.Int) 10 (applied op.Convert (of_kind kind.Int) 10 (read (variables.Local 1) (of_kind kind.Int) 10 ∷ [])
      ∷ number (pos 1) (of_kind kind.Int) 10 ∷ []) ∷ []) ∷ []))
      ∷ []))
      ∷ []))
      ∷ []))
      ∷ []))
      ∷ []))
      ∷ []);
  end = 11;
}

abbrev functions : ℕ → Option (Function Steps)
functions zero = None
functions (suc zero) = Some f
functions (suc (suc n)) = None

abbrev small : Program Steps
small = program_of [] ((cell.Of kind.Int ∷ cell.Of kind.Char ∷ cell.Ptr ∷ cell.Of kind.Int ∷ cell.Of kind.Int ∷ cell.Of kind.Int ∷ []) ∷ []) functions

abbrev kinds : FileCells
kinds = cells_with true (cell.Of kind.Int ∷ [])

abbrev names : Written
names =
    written_by [] (pointer_name (codes "p7") ∷ whole_name (codes "v8") ∷ whole_name (codes "v10") ∷ []) [] (whole_name (codes "\\result")) (whole_name (codes "%"))

abbrev texts : Texts
texts = binders_by []

-- ---- its goals

abbrev memory_1_int : Tree
memory_1_int = memory_var (codes "M#1:int")

abbrev memory_int : Tree
memory_int = memory_var (codes "M:int")

abbrev T : Tree
T = table_var (codes "T")

abbrev v_count_1 : Tree
v_count_1 = var (codes "c#1")

abbrev v_p7_b : Tree
v_p7_b = var (codes "p7:b")

abbrev v_p7_o : Tree
v_p7_o = var (codes "p7:o")

abbrev v_v8_1 : Tree
v_v8_1 = var (codes "v8#1")

abbrev t1 : Tree
t1 = at_most (num (negsuc 2147483647)) (load memory_1_int v_p7_b v_p7_o)

abbrev t2 : Tree
t2 = at_most (load memory_1_int v_p7_b v_p7_o) (num (pos 2147483647))

abbrev t3 : Tree
t3 = at_most (load memory_1_int v_p7_b v_p7_o) (num (pos 3))

abbrev t4 : Tree
t4 = add (load memory_1_int v_p7_b v_p7_o) (num (pos 5))

abbrev t5 : Tree
t5 = load memory_1_int v_p7_b (add v_p7_o (num (pos 1)))

abbrev t6 : Tree
t6 = at_most (of_term (term.Wrap kind.Int) ((sub v_p7_o v_p7_o) ∷ [])) (num (pos 7))

abbrev t7 : Tree
t7 = can_read (cell.Of kind.Int) (grow_of T v_count_1) v_p7_b v_p7_o

abbrev t8 : Tree
t8 = at_most (num (pos 0)) t4

abbrev t9 : Tree
t9 = can_write (cell.Of kind.Int) (grow_of T v_count_1) v_p7_b (add v_p7_o v_v8_1)

abbrev t10 : Tree
t10 = and_of ((at_most (num (negsuc 2147483647)) (sub v_v8_1 (num (pos 1)))) ∷ (at_most (sub v_v8_1 (num (pos 1))) (num (pos 2147483647))) ∷ [])

abbrev t11 : Tree
t11 = at_most (of_term term.Div (t5 ∷ (load memory_1_int v_p7_b v_p7_o) ∷ [])) (load memory_int v_p7_b v_p7_o)

abbrev t12 : Tree
t12 =
    and_of ((live_in (grow_of T v_count_1) v_p7_b) ∷ (at_most (num (pos 0)) (add v_p7_o v_v8_1))
    ∷ (at_most (add v_p7_o v_v8_1) (len_of (grow_of T v_count_1) v_p7_b)) ∷ [])

abbrev t13 : Tree
t13 =
    and_of ((equal v_p7_b v_p7_b) ∷ (live_in T v_p7_b) ∷ (at_most (num (pos 0)) v_p7_o) ∷ (at_most v_p7_o (len_of T v_p7_b))
    ∷ (at_most (num (pos 0)) v_p7_o) ∷ (at_most v_p7_o (len_of T v_p7_b)) ∷ [])

abbrev t14 : Tree
t14 =
    or_of ((and_of ((equal v_p7_b v_p7_b) ∷ (at_most (add v_p7_o (num (pos 1))) (add v_p7_o v_v8_1))
    ∷ (less (add v_p7_o v_v8_1) (add v_p7_o (add (num (pos 2)) (num (pos 1))))) ∷ [])) ∷ (at_most (count_of T) v_p7_b) ∷ [])

abbrev known_1 : List Tree
known_1 =
    at_most (num (pos 1)) (count_of T) ∷ formed (cell.Of kind.Int) (T ∷ memory_int ∷ []) ∷ at_most (num (pos 0)) v_p7_b ∷ less v_p7_b (count_of T)
    ∷ (or_of ((and_of ((equal v_p7_b (num (pos 0))) ∷ equal v_p7_o (num (pos 0)) ∷ [])) ∷ can_write (cell.Of kind.Int) T v_p7_b v_p7_o ∷ [])) ∷ []

abbrev known_2 : List Tree
known_2 = known_1 ++ (t13 ∷ [])

abbrev known_3 : List Tree
known_3 =
    known_2 ++ (t6 ∷ at_most (count_of T) v_count_1 ∷ at_most (num (negsuc 2147483647)) v_v8_1 ∷ at_most v_v8_1 (num (pos 2147483647))
    ∷ formed (cell.Of kind.Int) ((grow_of T v_count_1) ∷ memory_1_int ∷ []) ∷ (framed (shape.Cells ∷ shape.New ∷ []) (memory_int ∷ memory_1_int
    ∷ v_p7_b ∷ add v_p7_o (num (pos 1)) ∷ add v_p7_o (add (num (pos 2)) (num (pos 1))) ∷ count_of T ∷ [])) ∷ at_most v_v8_1 (num (pos 7))
    ∷ not_of (equal v_v8_1 (num (pos 0))) ∷ [])

abbrev known_4 : List Tree
known_4 = known_3 ++ (t7 ∷ t1 ∷ t2 ∷ t3 ∷ [])

abbrev known_5 : List Tree
known_5 = known_4 ++ (t9 ∷ [])

abbrev known_6 : List Tree
known_6 = known_5 ++ (t14 ∷ [])

abbrev known_7 : List Tree
known_7 = known_6 ++ (t12 ∷ [])

abbrev known_8 : List Tree
known_8 = known_7 ++ (false_tree ∷ [])

abbrev known_9 : List Tree
known_9 = known_8 ++ (t10 ∷ [])

abbrev known_10 : List Tree
known_10 = known_9 ++ (at_most (sub v_v8_1 (num (pos 1))) (num (pos 7)) ∷ [])

abbrev known_11 : List Tree
known_11 = known_10 ++ (t8 ∷ [])

abbrev known_12 : List Tree
known_12 =
    known_2 ++ (t6 ∷ at_most (count_of T) v_count_1 ∷ at_most (num (negsuc 2147483647)) v_v8_1 ∷ at_most v_v8_1 (num (pos 2147483647))
    ∷ formed (cell.Of kind.Int) ((grow_of T v_count_1) ∷ memory_1_int ∷ []) ∷ (framed (shape.Cells ∷ shape.New ∷ []) (memory_int ∷ memory_1_int
    ∷ v_p7_b ∷ add v_p7_o (num (pos 1)) ∷ add v_p7_o (add (num (pos 2)) (num (pos 1))) ∷ count_of T ∷ [])) ∷ at_most v_v8_1 (num (pos 7))
    ∷ (or_of ((not_of (not_of (equal v_v8_1 (num (pos 0))))) ∷ (and_of ((not_of (equal v_v8_1 (num (pos 0)))) ∷ t7 ∷ t1 ∷ t2 ∷ not_of t3 ∷ []))
    ∷ [])) ∷ [])

abbrev known_13 : List Tree
known_13 = known_12 ++ (t11 ∷ [])

abbrev expected : List Goal
expected =
    goal 0 (undefined_place comparing 10) known_1 t13
    ∷ goal 1 (broken_place broken.invariant 10) known_2 t6
    ∷ goal 2 (undefined_place access 10) known_3 t7
    ∷ goal 3 (undefined_place access 10) known_4 t9
    ∷ goal 4 (broken_place broken.assigns 10) known_5 t14
    ∷ goal 5 (undefined_place pointing 10) known_6 t12
    ∷ goal 6 (broken_place broken.assigns 10) known_7 false_tree
    ∷ goal 7 (undefined_place overflow 10) known_8 t10
    ∷ goal 8 (kept_place 10) known_9 (at_most (sub v_v8_1 (num (pos 1))) (num (pos 7)))
    ∷ goal 9 (broken_place broken.variant_positive 10) known_10 t8
    ∷ goal 10 (broken_place broken.variant_less 10) known_11 (less (add (load (store memory_1_int v_p7_b (add v_p7_o v_v8_1) v_v8_1) v_p7_b (add v_p7_o v_v8_1)) (num
    (pos 5))) t4)
    ∷ goal 11 (broken_place broken.ensures 7) known_12 t11
    ∷ goal 12 (broken_place broken.ensures 8) known_13 (less t5 (load memory_1_int v_p7_b v_p7_o))
    ∷ []

abbrev pub ranges_have_goals : Type 0
ranges_have_goals = goals_in small kinds texts 1 f names ≡ expected
