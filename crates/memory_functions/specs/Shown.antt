-- Words in which the examples are written: small programs, and the terms and formulas of their goals.
use Rattle.std.specs.Prelude.{ℕ, ◌==◌, Bool, true, false, ◌&&◌, if◌then◌else◌, ℤ, pos, List, [], ◌∷◌, ◌++◌, codes, Option, Some, None, length, slice_index_or}
use Rattle.std.specs.List.{list_any}
use Rattle.wp_base.specs.Blocks.{same_cell}
use Rattle.wp_base.specs.declared.kinds.CellKind.{CellKind}
use Rattle.wp_base.specs.declared.kinds.CellKind.TheVariants as cell
use Rattle.wp_base.specs.declared.kinds.Kind.{Kind}
use Rattle.wp_base.specs.declared.kinds.Kind.TheVariants as kind
use Rattle.wp_base.specs.declared.kinds.Layout.{Layout}
use Rattle.c_kinds.specs.declared.models.Machdep.TheVariants as model
use Rattle.typed_prog.specs.declared.types.Base.TheVariants as base
use Rattle.typed_prog.specs.declared.types.CoreType.{CoreType}
use Rattle.typed_prog.specs.declared.operators.Op.{Op}
use Rattle.typed_prog.specs.declared.operators.Op.TheVariants as op
use Rattle.typed_prog.specs.declared.operators.Path.{Path}
use Rattle.typed_prog.specs.declared.operators.Root.{Root}
use Rattle.typed_prog.specs.declared.operators.Root.TheVariants as root
use Rattle.typed_prog.specs.declared.operators.Step.{Step}
use Rattle.typed_prog.specs.declared.operators.Variable.{Variable}
use Rattle.typed_prog.specs.declared.operators.Variable.TheVariants as variables
use Rattle.typed_prog.specs.Tree as t
use Rattle.acsl_trees.specs.declared.heads.BinderPlace.{BinderPlace}
use Rattle.acsl_trees.specs.declared.heads.Head.{Head}
use Rattle.acsl_trees.specs.declared.heads.Head.TheVariants as head
use Rattle.acsl_trees.specs.declared.heads.Range.{Range}
use Rattle.acsl_trees.specs.declared.heads.Range.TheVariants as range
use Rattle.acsl_trees.specs.Tree as acsl
use Rattle.qed_terms.specs.declared.head.Head.TheVariants as h
use Rattle.qed_terms.specs.declared.head.TermOp.{TermOp}
use Rattle.qed_terms.specs.declared.head.TermOp.TheVariants as term
use Rattle.qed_terms.specs.declared.head.FormOp.TheVariants as form
use Rattle.qed_terms.specs.declared.head.Shape.{Shape}
use Rattle.qed_terms.specs.Meaning as sense
use Rattle.qed_terms.specs.Tree.{Tree, node, one, two, three, trees_of}
use Rattle.c_runs.specs.Program as program
use Rattle.c_runs.specs.Program.{Claim, Measure, Behavior, Together, Contract, Loop, Function, Program}
use Rattle.c_runs.specs.Tree as core
use Rattle.walk_steps.specs.Forms.{Place as CheckPlace}
use Rattle.walk_steps.specs.Walk.{Goal}
use Rattle.memory_steps.specs.Laws.{goals}
use Rattle.memory_words.specs.Places.{Place, value, offset, flag, result, result_offset, answer, answer_offset, temporary, temporary_offset, numbers, blocks, offsets}
use Rattle.memory_words.specs.Shapes.{FileCells}
use Rattle.memory_words.specs.Readings.{Texts}
use Rattle.memory_functions.specs.Words.{Written, word_of, start_in, bases_in}

-- ---- variables

abbrev pub layout : (count : ℕ) → (cells : List CellKind) → (writable : Bool) → Layout
layout n ks w = record { count = n; cells = ks; writable = w }

-- one that no pointer leads to, and one with a block
abbrev pub scalar : CellKind → (has_value : Bool) → program.Variable
scalar k v = record { layout = layout 1 (k ∷ []) true; is_plain = true; has_value = v }

abbrev pub object : Layout → (has_value : Bool) → program.Variable
object l v = record { layout = l; is_plain = false; has_value = v }

-- ---- expressions, each with its type and its line

abbrev pub of_struct : (number : ℕ) → CoreType
of_struct n = record { base = base.Struct n; stars = []; count = None }

abbrev pub path_of : Root → List Step → (line : ℕ) → Path
path_of r ss l = record { root = r; steps = ss; line = l }

abbrev pub path_to : Variable → (line : ℕ) → Path
path_to x l = path_of (root.Variable x) [] l

abbrev pub applied : Op → CoreType → (line : ℕ) → List t.Value → t.Value
applied o type l es = t.typed (t.apply o (t.values_of es)) type l

abbrev pub read : Variable → CoreType → (line : ℕ) → t.Value
read x type l = applied (op.Read (path_to x l)) type l []

abbrev pub number : ℤ → CoreType → (line : ℕ) → t.Value
number z type l = t.typed (t.constant z) type l

abbrev pub all_steps : List core.Step → core.Steps
all_steps [] = core.end
all_steps (s ∷ ss) = core.then_ s (all_steps ss)

-- ---- annotations

abbrev pub said : Head → List acsl.Tree → acsl.Tree
said what ts = acsl.node what (acsl.trees_of ts)

abbrev pub claim_at : (line : ℕ) → acsl.Tree → Claim
claim_at l a = record { what = a; line = l }

abbrev pub measure_at : (line : ℕ) → acsl.Tree → Measure
measure_at l a = record { what = a; line = l }

abbrev pub loop_of : (invariants : List Claim) → (assigns : Option (List acsl.Tree)) → (line : ℕ) → Option Measure → (declared : ℕ) → Loop
loop_of is as_ l v d = record { invariants = is; assigns = as_; line = l; variant = v; declared = d }

abbrev pub behavior_of : (assumes : List acsl.Tree) → (requires ensures : List Claim) → (assigns : Option (List acsl.Tree)) → Behavior
behavior_of a r e as_ = record { assumes = a; requires = r; ensures = e; assigns = as_ }

abbrev pub contract_of : (plain : Behavior) → (decreases : Option Measure) → List Behavior → List Together → Contract
contract_of p d bs ts = record { plain = p; decreases = d; behaviors = bs; together = ts }

abbrev pub together_of : (is_complete : Bool) → (numbers : List ℕ) → (line : ℕ) → Together
together_of c ns l = record { is_complete = c; numbers = ns; line = l }

-- the place of the first binder, by which annotations with binders are told apart
abbrev pub place_in : Range → BinderPlace
place_in (range.Between low_out high_out place) = place
place_in (range.Kind k place) = place

abbrev pub or_place : Option BinderPlace → Option BinderPlace → Option BinderPlace
or_place (Some p) o = Some p
or_place None o = o

abbrev pub own_place : Head → Option BinderPlace
own_place (head.Every g) = Some (place_in g)
own_place (head.Some g) = Some (place_in g)
own_place _ = None

abbrev mutual
  pub first_binder : acsl.Tree → Option BinderPlace
  first_binder (acsl.node what ts) = or_place (own_place what) (first_of ts)

  pub first_of : acsl.Trees → Option BinderPlace
  first_of acsl.stop = None
  first_of (acsl.more t ts) = or_place (first_binder t) (first_of ts)

-- the binders of the annotation whose first one stands there
pub record Bound : Type 0 where
  pub line : ℕ
  pub node : ℕ
  pub names : List (List ℕ)

abbrev pub bound : (line node : ℕ) → (names : List (List ℕ)) → Bound
bound l n xs = record { line = l; node = n; names = xs }

abbrev pub bound_at : List Bound → Option BinderPlace → List (List ℕ)
bound_at bs None = []
bound_at [] (Some p) = []
bound_at (b ∷ bs) (Some p) = if b.line == p.line && b.node == p.node then b.names else bound_at bs (Some p)

abbrev pub binders_by : List Bound → Texts
binders_by bs = record { binders = λ a. bound_at bs (first_binder a); called = λ n. None }

-- ---- names of slots

pub record Spelled : Type 0 where
  pub name : List ℕ
  pub is_pointer : Bool

abbrev pub whole_name : List ℕ → Spelled
whole_name x = record { name = x; is_pointer = false }

abbrev pub pointer_name : List ℕ → Spelled
pointer_name x = record { name = x; is_pointer = true }

abbrev pub first_name : Spelled → List ℕ
first_name s = if s.is_pointer then s.name ++ codes ":b" else s.name

abbrev pub second_name : Spelled → List ℕ
second_name s = s.name ++ codes ":o"

abbrev pub flag_name : Spelled → List ℕ
flag_name s = s.name ++ codes ":i"

abbrev pub memory_name : Kind → List ℕ
memory_name kind.Bool = codes "M:bool"
memory_name kind.Char = codes "M:char"
memory_name kind.SChar = codes "M:schar"
memory_name kind.UChar = codes "M:uchar"
memory_name kind.Short = codes "M:short"
memory_name kind.UShort = codes "M:ushort"
memory_name kind.Int = codes "M:int"
memory_name kind.UInt = codes "M:uint"
memory_name kind.Long = codes "M:long"
memory_name kind.ULong = codes "M:ulong"
memory_name kind.LLong = codes "M:llong"
memory_name kind.ULLong = codes "M:ullong"

-- of the variables of the file and of the function, of what is given and of temporaries
abbrev pub spelled_at : List Spelled → ℕ → Spelled
spelled_at ns n = slice_index_or ns n (whole_name [])

abbrev pub variable_name : (file own : List Spelled) → Variable → Spelled
variable_name gs ns (variables.Global x) = spelled_at gs x
variable_name gs ns (variables.Local x) = spelled_at ns x

abbrev pub name_at : (file own temporaries : List Spelled) → (given called : Spelled) → Place → List ℕ
name_at gs ns ts r c (value x) = first_name (variable_name gs ns x)
name_at gs ns ts r c (offset x) = second_name (variable_name gs ns x)
name_at gs ns ts r c (flag x) = flag_name (variable_name gs ns x)
name_at gs ns ts r c result = first_name r
name_at gs ns ts r c result_offset = second_name r
name_at gs ns ts r c answer = first_name c
name_at gs ns ts r c answer_offset = second_name c
name_at gs ns ts r c (temporary n) = first_name (spelled_at ts n)
name_at gs ns ts r c (temporary_offset n) = second_name (spelled_at ts n)
name_at gs ns ts r c (numbers k) = memory_name k
name_at gs ns ts r c blocks = codes "M:ptrb"
name_at gs ns ts r c offsets = codes "M:ptro"

-- temporaries hold integers of kind `int`, or pointers
abbrev pub kind_at : List Spelled → ℕ → CellKind
kind_at ts n = if (spelled_at ts n).is_pointer then cell.Ptr else cell.Of kind.Int

abbrev pub written_by : (file own temporaries : List Spelled) → (given called : Spelled) → Written
written_by gs ns ts r c = record { temporaries = length ts; temp_kind = kind_at ts; name = name_at gs ns ts r c }

-- ---- programs, and their goals

abbrev pub cells_with : (has_blocks : Bool) → List CellKind → FileCells
cells_with b ks = record { has_blocks = b; has_kind = λ k. list_any (same_cell k) ks }

abbrev pub program_of : (globals : List program.Variable) → (structs : List (List CellKind)) → (functions : ℕ → Option (Function core.Steps)) → Program core.Steps
program_of gs ss fs = record {
  facts = record { model = model.X86_64; globals = gs; structs = ss; definitions = []; in_cluster = λ m n. false };
  functions = fs;
}

-- all logic functions are 0
abbrev pub zeros : sense.World
zeros = record { long_bits = 64; apps = λ f vs. pos 0 }

abbrev pub goals_in : Program core.Steps → FileCells → Texts → (number : ℕ) → Function core.Steps → Written → List Goal
goals_in q cells texts n f g = goals (bases_in zeros q cells texts n f g) (start_in zeros q cells texts n f g) (word_of zeros q cells texts n f g)

abbrev pub goal : (number : ℕ) → CheckPlace → (known : List Tree) → (claim : Tree) → Goal
goal n at ks f = record { number = n; place = at; known = ks; claim = f }

-- ---- terms

abbrev pub of_term : TermOp → List Tree → Tree
of_term o ts = node (h.Term o) (trees_of ts)

abbrev pub add : Tree → Tree → Tree
add t u = node (h.Term term.Add) (two t u)

abbrev pub sub : Tree → Tree → Tree
sub t u = node (h.Term term.Sub) (two t u)

abbrev pub mul : Tree → Tree → Tree
mul t u = node (h.Term term.Mul) (two t u)

abbrev pub neg_of : Tree → Tree
neg_of t = node (h.Term term.Neg) (one t)

abbrev pub len_of : (table block : Tree) → Tree
len_of t b = node (h.Term term.Len) (two t b)

abbrev pub load : (memory block offset : Tree) → Tree
load m b o = node (h.Term term.Load) (three m b o)

abbrev pub store : (memory block offset stored : Tree) → Tree
store m b o u = node (h.Term term.Store) (trees_of (m ∷ b ∷ o ∷ u ∷ []))

-- ---- formulas

abbrev pub iff_of : Tree → Tree → Tree
iff_of f g = node h.Iff (two f g)

abbrev pub every : (name : List ℕ) → (low high body : Tree) → Tree
every x low high f = node (h.Forall x) (three low high f)

abbrev pub some : (name : List ℕ) → (low high body : Tree) → Tree
some x low high f = node (h.Exists x) (three low high f)

abbrev pub live_in : (table block : Tree) → Tree
live_in t b = node (h.Form form.Live) (two t b)

abbrev pub can_read : CellKind → (table block offset : Tree) → Tree
can_read k t b o = node (h.Form (form.Read k)) (three t b o)

abbrev pub can_write : CellKind → (table block offset : Tree) → Tree
can_write k t b o = node (h.Form (form.Write k)) (three t b o)

abbrev pub has_layout : (table block : Tree) → Layout → Tree
has_layout t b l = node (h.Form (form.Has l)) (two t b)

abbrev pub formed : CellKind → List Tree → Tree
formed k ts = node (h.Form (form.WellFormed k)) (trees_of ts)

abbrev pub framed : List Shape → List Tree → Tree
framed ss ts = node (h.Form (form.Frame ss)) (trees_of ts)
