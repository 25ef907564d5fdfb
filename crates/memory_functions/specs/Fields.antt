-- The goals of a function that reads and writes fields of a structure behind a pointer, by a switch, worked out by hand.
use Rattle.std.specs.Prelude.{◌≡◌, ℕ, zero, suc, true, false, pos, negsuc, List, [], ◌∷◌, ◌++◌, codes, Option, Some, None}
use Rattle.wp_base.specs.declared.kinds.CellKind.TheVariants as cell
use Rattle.wp_base.specs.declared.kinds.Kind.TheVariants as kind
use Rattle.typed_prog.specs.declared.operators.Arithmetic.TheVariants as ar
use Rattle.typed_prog.specs.declared.operators.Comparison.TheVariants as cmp
use Rattle.typed_prog.specs.declared.operators.Op.TheVariants as op
use Rattle.typed_prog.specs.declared.operators.Root.TheVariants as root
use Rattle.typed_prog.specs.declared.operators.Step.TheVariants as way
use Rattle.typed_prog.specs.declared.operators.Variable.TheVariants as variables
use Rattle.typed_prog.specs.Types.{of_kind, pointer_to}
use Rattle.typed_prog.specs.Tree as t
use Rattle.acsl_trees.specs.declared.heads.Content.TheVariants as content
use Rattle.acsl_trees.specs.declared.heads.Head.TheVariants as head
use Rattle.acsl_trees.specs.Tree as acsl
use Rattle.qed_terms.specs.declared.head.TermOp.TheVariants as term
use Rattle.qed_terms.specs.Tree.{Tree, num, var, equal, at_most, less, not_of, and_of, or_of, ite}
use Rattle.c_runs.specs.Program.{Function, Program}
use Rattle.c_runs.specs.Operators.{access, pointing}
use Rattle.c_runs.specs.Claims as broken
use Rattle.c_runs.specs.Tree.{Steps}
use Rattle.c_runs.specs.Tree as core
use Rattle.program_steps.specs.Stops.{undefined_place, broken_place}
use Rattle.walk_steps.specs.Walk.{Goal}
use Rattle.memory_steps.specs.World.{memory_var, table_var, count_of, same_of}
use Rattle.memory_words.specs.Shapes.{FileCells}
use Rattle.memory_words.specs.Readings.{Texts}
use Rattle.memory_functions.specs.Words.{Written}
use Rattle.memory_functions.specs.Shown.{of_struct, scalar, path_to, path_of, read, number, applied, all_steps, said, claim_at, behavior_of, contract_of, cells_with, binders_by}
use Rattle.memory_functions.specs.Shown.{whole_name, pointer_name, written_by, program_of, goal, add, load, store, len_of, live_in, of_term, can_read, can_write, formed, goals_in}

-- ---- the program

-- struct s { int a; char c; int *p; int r[3]; };
-- int g; unsigned char gc;
-- /*@ requires q2 != 0; assigns *q2, q2->p; */
-- int *f(struct s *q2) {
--     int *w3 = q2->p;
--     switch (g) { case 0: w3[2] = !(gc < gc); case 1: w3 = &q2->a; default: *w3 = (gc & g); }
--     return w3;
-- }

abbrev f : Function Steps
f = record {
  params = 1;
  variables = scalar cell.Ptr true ∷ scalar cell.Ptr true ∷ [];
  result = Some cell.Ptr;
  contract =
      contract_of (behavior_of [] (claim_at 4 (said head.Chain (said (head.Read content.Pointer None) (acsl.leaf (head.Variable (variables.Local 0))
      ∷ []) ∷ said (head.LinkPointers cmp.NotEqual) (acsl.leaf head.Null ∷ []) ∷ []))
      ∷ []) [] (Some (said (head.Region (content.Struct 0)) (said head.Pointed (said (head.Read content.Pointer None) (acsl.leaf (head.Variable (variables.Local 0))
      ∷ []) ∷ []) ∷ [])
      ∷ said (head.Region content.Pointer) (said (head.Field 2 2) (said head.Pointed (said (head.Read content.Pointer None) (acsl.leaf (head.Variable (variables.Local 0))
      ∷ []) ∷ []) ∷ []) ∷ []) ∷ []))) None [] [];
  body = all_steps (
      core.scope (1 ∷ []) (all_steps (
      core.start [] 1 (applied (op.Read (path_of (root.Pointed 0) (way.Field 2 2 ∷ []) 6)) (pointer_to (of_kind kind.Int) false) 6 (read (variables.Local 0)
      (pointer_to (of_struct 0) false) 6 ∷ []))
      ∷ core.set [] 0 (read (variables.Global 0) (of_kind kind.Int) 6)
      ∷ core.around (all_steps (
      core.around (all_steps (
      core.around (all_steps (
      core.around (all_steps (
      core.branch [] (applied (op.Compare cmp.Equal) (of_kind kind.Int) 6 (t.typed (t.temporary 0) (of_kind kind.Int) 6 ∷ number (pos 0)
      (of_kind kind.Int) 6 ∷ [])) (all_steps (
      core.exit 0
      ∷ [])) core.end
      ∷ core.branch [] (applied (op.Compare cmp.Equal) (of_kind kind.Int) 6 (t.typed (t.temporary 0) (of_kind kind.Int) 6 ∷ number (pos 1)
      (of_kind kind.Int) 6 ∷ [])) (all_steps (
      core.exit 1
      ∷ [])) core.end
      ∷ core.exit 2
      ∷ []))
      ∷ core.store [] (of_kind kind.Int) 6 (path_of (root.Pointed 0) (way.Moved 1 1 ∷ []) 6) (t.values_of (applied op.Not (of_kind kind.Int) 6 (applied
      (op.Compare cmp.Less) (of_kind kind.Int) 6 (applied op.Convert (of_kind kind.Int) 6 (read (variables.Global 1) (of_kind kind.UChar) 6 ∷ [])
      ∷ applied op.Convert (of_kind kind.Int) 6 (read (variables.Global 1) (of_kind kind.UChar) 6 ∷ []) ∷ []) ∷ []) ∷ read (variables.Local 1)
      (pointer_to (of_kind kind.Int) false) 6 ∷ number (pos 2) (of_kind kind.Int) 6 ∷ []))
      ∷ []))
      ∷ core.store [] (pointer_to (of_kind kind.Int) false) 6 (path_to (variables.Local 1) 6) (t.values_of (applied (op.Address (path_of (root.Pointed 0)
      (way.Field 0 0 ∷ []) 6) false) (pointer_to (of_kind kind.Int) false) 6 (read (variables.Local 0) (pointer_to (of_struct 0) false) 6 ∷ []) ∷ []))
      ∷ []))
      ∷ core.store [] (of_kind kind.Int) 6 (path_of (root.Pointed 0) [] 6) (t.values_of (applied (op.Arithmetic ar.And) (of_kind kind.Int) 6 (applied op.Convert
      (of_kind kind.Int) 6 (read (variables.Global 1) (of_kind kind.UChar) 6 ∷ []) ∷ read (variables.Global 0) (of_kind kind.Int) 6 ∷ []) ∷ read
      (variables.Local 1) (pointer_to (of_kind kind.Int) false) 6 ∷ []))
      ∷ []))
      ∷ core.give [] (Some (read (variables.Local 1) (pointer_to (of_kind kind.Int) false) 6))
      ∷ []))
      ∷ []);
  end = 6;
}

abbrev functions : ℕ → Option (Function Steps)
functions zero = Some f
functions (suc n) = None

abbrev small : Program Steps
small = program_of (scalar (cell.Of kind.Int) false ∷ scalar (cell.Of kind.UChar) false ∷ []) ((cell.Of kind.Int ∷ cell.Of kind.Char ∷ cell.Ptr ∷ cell.Of kind.Int
    ∷ cell.Of kind.Int ∷ cell.Of kind.Int ∷ []) ∷ []) functions

abbrev kinds : FileCells
kinds = cells_with true (cell.Of kind.Char ∷ cell.Of kind.Int ∷ cell.Ptr ∷ [])

abbrev names : Written
names =
    written_by (whole_name (codes "g") ∷ whole_name (codes "gc") ∷ []) (pointer_name (codes "q2") ∷ pointer_name (codes "w3") ∷ []) (whole_name (codes "%1") ∷ [])
    (pointer_name (codes "\\result")) (whole_name (codes "%"))

abbrev texts : Texts
texts = binders_by []

-- ---- its goals

abbrev memory_1_int : Tree
memory_1_int = memory_var (codes "M#1:int")

abbrev memory_2_int : Tree
memory_2_int = memory_var (codes "M#2:int")

abbrev memory_char : Tree
memory_char = memory_var (codes "M:char")

abbrev memory_int : Tree
memory_int = memory_var (codes "M:int")

abbrev memory_ptrb : Tree
memory_ptrb = memory_var (codes "M:ptrb")

abbrev memory_ptro : Tree
memory_ptro = memory_var (codes "M:ptro")

abbrev T : Tree
T = table_var (codes "T")

abbrev v_g : Tree
v_g = var (codes "g")

abbrev v_gc : Tree
v_gc = var (codes "gc")

abbrev v_q2_b : Tree
v_q2_b = var (codes "q2:b")

abbrev v_q2_o : Tree
v_q2_o = var (codes "q2:o")

abbrev v_w3_1_b : Tree
v_w3_1_b = var (codes "w3#1:b")

abbrev v_w3_1_o : Tree
v_w3_1_o = var (codes "w3#1:o")

abbrev t1 : Tree
t1 = load memory_ptrb v_q2_b (add v_q2_o (num (pos 2)))

abbrev t2 : Tree
t2 = load memory_ptro v_q2_b (add v_q2_o (num (pos 2)))

abbrev t3 : Tree
t3 = can_read cell.Ptr T v_q2_b (add v_q2_o (num (pos 2)))

abbrev t4 : Tree
t4 = add t2 (num (pos 2))

abbrev t5 : Tree
t5 = and_of ((live_in T v_q2_b) ∷ (at_most (num (pos 0)) v_q2_o) ∷ (at_most v_q2_o (len_of T v_q2_b)) ∷ [])

abbrev t6 : Tree
t6 = can_write (cell.Of kind.Int) T t1 t4

abbrev t7 : Tree
t7 = or_of ((and_of ((equal t1 v_q2_b) ∷ (at_most v_q2_o t4) ∷ (less t4 (add v_q2_o (num (pos 6)))) ∷ [])) ∷ (at_most (count_of T) t1) ∷ [])

abbrev t8 : Tree
t8 =
    or_of ((and_of ((not_of (equal v_g (num (pos 0)))) ∷ (equal v_g (num (pos 1))) ∷ (same_of memory_1_int memory_int) ∷ []))
    ∷ (and_of ((equal v_g (num (pos 0))) ∷ t6 ∷ t7
    ∷ (same_of memory_1_int (store memory_int t1 t4 (ite (not_of (less v_gc v_gc)) (num (pos 1)) (num (pos 0))))) ∷ [])) ∷ [])

abbrev known_1 : List Tree
known_1 =
    at_most (num (pos 1)) (count_of T) ∷ formed (cell.Of kind.Char) (T ∷ memory_char ∷ []) ∷ formed (cell.Of kind.Int) (T ∷ memory_int ∷ [])
    ∷ formed cell.Ptr (T ∷ memory_ptrb ∷ memory_ptro ∷ []) ∷ at_most (num (negsuc 2147483647)) v_g ∷ at_most v_g (num (pos 2147483647))
    ∷ at_most (num (pos 0)) v_gc ∷ at_most v_gc (num (pos 255)) ∷ at_most (num (pos 0)) v_q2_b ∷ less v_q2_b (count_of T)
    ∷ (not_of (and_of ((equal v_q2_b (num (pos 0))) ∷ equal v_q2_o (num (pos 0)) ∷ []))) ∷ []

abbrev known_2 : List Tree
known_2 = known_1 ++ (t3 ∷ at_most (num (pos 0)) t1 ∷ less t1 (count_of T) ∷ equal v_g (num (pos 0)) ∷ [])

abbrev known_3 : List Tree
known_3 = known_2 ++ (t6 ∷ [])

abbrev known_4 : List Tree
known_4 = known_1 ++ (t3 ∷ at_most (num (pos 0)) t1 ∷ less t1 (count_of T) ∷ t8 ∷ [])

abbrev known_5 : List Tree
known_5 =
    known_1 ++ (t3 ∷ at_most (num (pos 0)) t1 ∷ less t1 (count_of T) ∷ (or_of ((and_of ((not_of (equal v_g (num (pos 0))))
    ∷ not_of (equal v_g (num (pos 1))) ∷ equal v_w3_1_b t1 ∷ equal v_w3_1_o t2 ∷ same_of memory_2_int memory_int ∷ [])) ∷ and_of (t8 ∷ t5
    ∷ (equal v_w3_1_b v_q2_b) ∷ (equal v_w3_1_o v_q2_o) ∷ (same_of memory_2_int memory_1_int) ∷ []) ∷ []))
    ∷ at_most (num (negsuc 2147483647)) (of_term term.BitAnd (v_gc ∷ v_g ∷ [])) ∷ at_most (of_term term.BitAnd (v_gc ∷ v_g
    ∷ [])) (num (pos 2147483647)) ∷ [])

abbrev known_6 : List Tree
known_6 = known_5 ++ (can_write (cell.Of kind.Int) T v_w3_1_b v_w3_1_o ∷ [])

abbrev expected : List Goal
expected =
    goal 0 (undefined_place access 6) known_1 t3
    ∷ goal 1 (undefined_place access 6) known_2 t6
    ∷ goal 2 (broken_place broken.assigns 6) known_3 t7
    ∷ goal 3 (undefined_place pointing 6) known_4 t5
    ∷ goal 4 (undefined_place access 6) known_5 (can_write (cell.Of kind.Int) T v_w3_1_b v_w3_1_o)
    ∷ goal 5 (broken_place broken.assigns 6) known_6 (or_of ((and_of ((equal v_w3_1_b v_q2_b) ∷ (at_most v_q2_o v_w3_1_o)
    ∷ (less v_w3_1_o (add v_q2_o (num (pos 6)))) ∷ [])) ∷ (at_most (count_of T) v_w3_1_b) ∷ []))
    ∷ []

abbrev pub fields_have_goals : Type 0
fields_have_goals = goals_in small kinds texts 0 f names ≡ expected
