-- The setting of formulas: logic functions that call themselves, made of their definitions (ACSL 2.6.3). A body is a term under the names of its parameters,
-- of the memories and of the variables of the file that it reads.
use Rattle.std.specs.Prelude.{ℕ, zero, suc, ◌-◌, ◌==◌, if◌then◌else◌, List, [], ◌∷◌, ◌++◌, map, length, codes, slice_index_or, Option, Some, None, ℤ}
use Rattle.wp_base.specs.declared.kinds.Kind.{Kind}
use Rattle.wp_base.specs.declared.kinds.CellKind.{CellKind}
use Rattle.wp_base.specs.declared.kinds.CellKind.TheVariants as cell
use Rattle.wp_base.specs.Kinds.{kind_place}
use Rattle.c_kinds.specs.Models.{long_bits}
use Rattle.typed_prog.specs.declared.operators.Variable.{Variable}
use Rattle.typed_prog.specs.declared.operators.Variable.TheVariants as variables
use Rattle.acsl_trees.specs.Tree.{Tree}
use Rattle.acsl_expand.specs.Expansion.{Definition, definition_at}
use Rattle.c_runs.specs.Truth.{kid, test_number}
use Rattle.qed_terms.specs.declared.head.Sort.TheVariants as sort
use Rattle.qed_terms.specs.declared.head.Head.TheVariants as th
use Rattle.qed_terms.specs.Names.{kind_names}
use Rattle.qed_terms.specs.Setting.{Param, Logic, Setting}
use Rattle.qed_terms.specs.Tree as tree
use Rattle.qed_terms.specs.Tree.{Tree as Term, num, var}
use Rattle.acsl_encode.specs.Readings.{Pointer, at, Named, one, two, Global, integer_global, pointer_global, Called, Terms, address, nothing, Slot, whole}
use Rattle.acsl_encode.specs.Readings.{pointer, home, absent, Seen, Common, Reading}
use Rattle.acsl_encode.specs.Encode.{Names, unbounded, as_integer, terms_at, encoded, on_two}

-- ---- names

abbrev pub integer_param : List ℕ → Param
integer_param x = record { name = x; sort = sort.Int }

abbrev pub memory_param : List ℕ → Param
memory_param x = record { name = x; sort = sort.Memory }

-- `M:KIND`, and `M:ptrb` and `M:ptro`
abbrev pub memory_name : Kind → List ℕ
memory_name k = codes "M:" ++ slice_index_or kind_names (kind_place k) []

abbrev pub blocks_name : List ℕ
blocks_name = codes "M:ptrb"

abbrev pub offsets_name : List ℕ
offsets_name = codes "M:ptro"

abbrev pub params_of : Named → List Param
params_of (one x) = integer_param x ∷ []
params_of (two b o) = integer_param b ∷ integer_param o ∷ []

abbrev pub memory_params : CellKind → List Param
memory_params (cell.Of k) = memory_param (memory_name k) ∷ []
memory_params cell.Ptr = memory_param blocks_name ∷ memory_param offsets_name ∷ []

abbrev pub global_params : Global → List Param
global_params (integer_global n k x) = integer_param x ∷ []
global_params (pointer_global n b o) = integer_param b ∷ integer_param o ∷ []

abbrev pub all_params : {X : Type 0} → (X → List Param) → List X → List Param
all_params f [] = []
all_params f (x ∷ xs) = f x ++ all_params f xs

abbrev pub params_in : Called → List Param
params_in c = all_params params_of c.params ++ (all_params memory_params c.memories ++ all_params global_params c.globals)

-- ---- the reading of a body

abbrev pub terms_named : Named → Terms
terms_named (one x) = unbounded (var x)
terms_named (two b o) = address (var b) (var o)

abbrev pub names_of : List Named → Names
names_of ps x = terms_at (map terms_named ps) x

abbrev pub slot_in : List Global → (number : ℕ) → Slot
slot_in [] n = absent
slot_in (integer_global i k x ∷ gs) n = if i == n then whole k (var x) else slot_in gs n
slot_in (pointer_global i b o ∷ gs) n = if i == n then pointer (var b) (var o) else slot_in gs n

-- a block has a number
abbrev pub or_home : Option ℤ → Slot → Slot
or_home (Some b) s = home (num b)
or_home None s = s

abbrev pub body_slot : Common → Called → Variable → Slot
body_slot r c (variables.Global n) = or_home (r.homes n) (slot_in c.globals n)
body_slot r c (variables.Local n) = absent

abbrev pub memory_var : List ℕ → Term
memory_var x = tree.node (th.Var x sort.Memory) tree.stop

abbrev pub numbers_in : List CellKind → Kind → Option Term
numbers_in [] k = None
numbers_in (cell.Of l ∷ ks) k = if kind_place l == kind_place k then Some (memory_var (memory_name l)) else numbers_in ks k
numbers_in (cell.Ptr ∷ ks) k = numbers_in ks k

abbrev pub pointers_in : List CellKind → Option Pointer
pointers_in [] = None
pointers_in (cell.Of l ∷ ks) = pointers_in ks
pointers_in (cell.Ptr ∷ ks) = Some (at (memory_var blocks_name) (memory_var offsets_name))

abbrev pub body_seen : Common → Called → Seen
body_seen r c = record { variable = body_slot r c; table = None; numbers = numbers_in c.memories; pointers = pointers_in c.memories }

abbrev pub unseen : Seen
unseen = record { variable = λ x. absent; table = None; numbers = λ k. None; pointers = None }

-- which logic functions may be called, by their numbers
abbrev pub Known : Type 0
Known = (number : ℕ) → Option Called

abbrev pub body_reading : Common → Known → Called → Reading
body_reading r known c = record {
  here = body_seen r c;
  pre = unseen;
  post = unseen;
  loop_entry = unseen;
  result = nothing;
  common = r;
  called = known;
}

abbrev pub body_term : Common → Known → Called → Tree → Option Term
body_term r known c t = as_integer (encoded (body_reading r known c) (names_of c.params) 0 (length c.params) t)

-- ---- functions

-- one more of these
abbrev pub with_called : (number : ℕ) → Option Called → Known → Known
with_called n o known i = if i == n then o else known i

-- the last parameter is the number that becomes less
abbrev pub number_place : Called → ℕ
number_place c = length (all_params params_of c.params) - 1

abbrev pub function_of : Called → (cut : ℤ) → (base step : Term) → Logic
function_of c z t u = record { name = c.name; params = params_in c; number = number_place c; cut = z; base = t; step = u }

-- Its number, how it is called, and its body. It calls itself in the step alone.
abbrev pub logic_of : Common → Known → (number : ℕ) → Called → Tree → Option Logic
logic_of r known n c t =
    on_two (function_of c (test_number t)) (body_term r known c (kid t 1)) (body_term r (with_called n (Some c) known) c (kid t 2))

abbrev pub logic_at : Common → Known → (told : ℕ → Called) → List Definition → (number : ℕ) → Option Logic
logic_at r known told ds n = if (definition_at ds n).is_recursive then logic_of r known n (told n) (definition_at ds n).body else None

abbrev pub in_form : Called → Option Logic → Option Called
in_form c (Some f) = Some c
in_form c None = None

-- Of so many definitions: those that are in form. `told` is how each is called.
unfoldable pub known_first : Common → (told : ℕ → Called) → List Definition → (count : ℕ) → Known
known_first r told ds zero i = None
known_first r told ds (suc n) i = with_called n (in_form (told n) (logic_at r (known_first r told ds n) told ds n)) (known_first r told ds n) i

abbrev pub more_logic : List Logic → Option Logic → List Logic
more_logic fs (Some f) = fs ++ f ∷ []
more_logic fs None = fs

abbrev pub logic_first : Common → (told : ℕ → Called) → List Definition → (count : ℕ) → List Logic
logic_first r told ds zero = []
logic_first r told ds (suc n) = more_logic (logic_first r told ds n) (logic_at r (known_first r told ds n) told ds n)

abbrev pub setting_of : Common → (told : ℕ → Called) → List Definition → Setting
setting_of r told ds = record { long_bits = long_bits r.model; logic = logic_first r told ds (length ds) }

abbrev pub known_of : Common → (told : ℕ → Called) → List Definition → Known
known_of r told ds = known_first r told ds (length ds)
