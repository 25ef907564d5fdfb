-- How logic functions are called: with the memories, in the order of kinds, and the variables of the file that their bodies read, also through the functions
-- that these call.
use Rattle.std.specs.Prelude.{◌≡◌, ℕ, zero, suc, ◌==◌, Bool, true, false, not, ◌&&◌, ◌||◌, if◌then◌else◌, List, [], ◌∷◌, Option, Some, None}
use Rattle.std.specs.List.{list_any}
use Rattle.wp_base.specs.declared.kinds.Kind.{Kind}
use Rattle.wp_base.specs.declared.kinds.Kind.TheVariants as kind
use Rattle.wp_base.specs.declared.kinds.CellKind.{CellKind}
use Rattle.wp_base.specs.declared.kinds.CellKind.TheVariants as cell
use Rattle.wp_base.specs.Blocks.{same_cell}
use Rattle.typed_prog.specs.declared.operators.Variable.TheVariants as variables
use Rattle.acsl_trees.specs.declared.heads.Content.{Content}
use Rattle.acsl_trees.specs.declared.heads.Content.TheVariants as content
use Rattle.acsl_trees.specs.declared.heads.Head.{Head}
use Rattle.acsl_trees.specs.declared.heads.Head.TheVariants as h
use Rattle.acsl_trees.specs.Tree.{Tree, Trees, node, stop, more}
use Rattle.acsl_expand.specs.Expansion.{Definition, definition_at}
use Rattle.c_runs.specs.Truth.{heads_of}
use Rattle.acsl_encode.specs.Readings.{Named, Global, integer_global, pointer_global, Called}
use Rattle.acsl_encode.specs.Setting.{numbers_in, pointers_in}

-- what is asked of a node, by its head and the heads of its kids
abbrev pub Asked : Type 0
Asked = Head → List Head → Bool

-- a call reads what the function reads
abbrev pub node_reads : Asked → (calls : (number : ℕ) → Bool) → Asked
node_reads own calls (h.Call f) ls = calls f
node_reads own calls head ls = own head ls

abbrev mutual
  pub reads : Asked → (calls : (number : ℕ) → Bool) → Tree → Bool
  reads own calls (node head ks) = node_reads own calls head (heads_of ks) || some_reads own calls ks

  pub some_reads : Asked → (calls : (number : ℕ) → Bool) → Trees → Bool
  some_reads own calls stop = false
  some_reads own calls (more t ts) = reads own calls t || some_reads own calls ts

-- of so many definitions
abbrev pub reads_first : Asked → List Definition → (count : ℕ) → (number : ℕ) → Bool
reads_first own ds zero f = false
reads_first own ds (suc n) f = if f == n then reads own (reads_first own ds n) (definition_at ds n).body else reads_first own ds n f

-- ---- nodes

abbrev pub number_of : Global → ℕ
number_of (integer_global n k x) = n
number_of (pointer_global n b o) = n

-- a variable of the file that no pointer leads to
abbrev pub is_among : List Global → (number : ℕ) → Bool
is_among gs n = list_any (λ g. number_of g == n) gs

abbrev pub is_variable : List Global → List Head → Bool
is_variable gs (h.Variable (variables.Global n) ∷ ls) = is_among gs n
is_variable gs _ = false

abbrev pub is_cell_of : CellKind → Content → Bool
is_cell_of k (content.Integer l) = same_cell k (cell.Of l)
is_cell_of k content.Pointer = same_cell k cell.Ptr
is_cell_of k (content.Struct n) = false

abbrev pub reads_cell : List Global → CellKind → Asked
reads_cell gs k (h.Read c l) ls = is_cell_of k c && not (is_variable gs ls)
reads_cell gs k head ls = false

abbrev pub reads_variable : (number : ℕ) → Asked
reads_variable n (h.Read c l) (h.Variable (variables.Global i) ∷ ls) = i == n
reads_variable n head ls = false

-- ---- functions

abbrev pub those : {X : Type 0} → (X → Bool) → List X → List X
those p [] = []
those p (x ∷ xs) = if p x then x ∷ those p xs else those p xs

abbrev pub every_cell : List CellKind
every_cell =
    cell.Of kind.Bool ∷ cell.Of kind.Char ∷ cell.Of kind.SChar ∷ cell.Of kind.UChar ∷ cell.Of kind.Short ∷ cell.Of kind.UShort ∷ cell.Of kind.Int
    ∷ cell.Of kind.UInt ∷ cell.Of kind.Long ∷ cell.Of kind.ULong ∷ cell.Of kind.LLong ∷ cell.Of kind.ULLong ∷ cell.Ptr ∷ []

-- a function's name and those of its parameters, as they are spelled
pub record Spelling : Type 0 where
  pub name : List ℕ
  pub params : List Named

-- whether a cell of this kind, or this variable, is read by the function with this number
abbrev pub cell_is_read : List Global → List Definition → (number : ℕ) → CellKind → Bool
cell_is_read gs ds n k = reads_first (reads_cell gs k) ds (suc n) n

abbrev pub variable_is_read : List Definition → (number : ℕ) → Global → Bool
variable_is_read ds n g = reads_first (reads_variable (number_of g)) ds (suc n) n

-- the variables of the file that no pointer leads to are in the order of their declaration
abbrev pub told_by : (spelling : ℕ → Spelling) → List Global → List Definition → (number : ℕ) → Called
told_by spelling gs ds n = record {
  name = (spelling n).name;
  params = (spelling n).params;
  memories = those (cell_is_read gs ds n) every_cell;
  globals = those (variable_is_read ds n) gs;
}

-- ---- what is so

abbrev pub IsGiven : {X : Type 0} → Option X → Type 0
IsGiven (Some x) = Unit {0}
IsGiven None = ⊥

-- a function is given the memories that it reads
pub record ReadsAreGiven : Type 0 where
  pub numbers : (spelling : ℕ → Spelling) (gs : List Global) (ds : List Definition) (n : ℕ) (k : Kind) → cell_is_read gs ds n (cell.Of k) ≡ true
      → IsGiven (numbers_in (told_by spelling gs ds n).memories k)
  pub pointers : (spelling : ℕ → Spelling) (gs : List Global) (ds : List Definition) (n : ℕ) → cell_is_read gs ds n cell.Ptr ≡ true
      → IsGiven (pointers_in (told_by spelling gs ds n).memories)
