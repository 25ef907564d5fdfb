-- What is asked of a body: whether it reads cells of a kind, or a variable of the file.
use Rattle.std.specs.Prelude.{ℕ, nat_lt, Bool, false, not, ◌&&◌, List, Option, Some, None, slice_index_or}
use Rattle.wp_base.specs.declared.kinds.CellKind.{CellKind}
use Rattle.acsl_trees.specs.declared.heads.Content.{Content}
use Rattle.acsl_trees.specs.declared.heads.Head.{Head}
use Rattle.acsl_trees.specs.declared.heads.Head.TheVariants as h
use Rattle.acsl_encode.specs.Told.{Asked as AskedOf, is_cell_of}
use Rattle.logic_trees.specs.Heads.{first_global, is_name}
use Rattle.logic_trees.specs.declared.questions.Asked.{Asked}
use Rattle.logic_trees.specs.declared.questions.Asked.TheVariants as asked

-- there are so many variables of the file
abbrev pub is_below : (globals : ℕ) → Option ℕ → Bool
is_below g (Some n) = nat_lt n g
is_below g None = false

abbrev pub asks_cell : (globals : ℕ) → CellKind → AskedOf
asks_cell g k (h.Read c l) ls = is_cell_of k c && not (is_below g (first_global ls))
asks_cell g k head ls = false

abbrev pub asks_variable : (number : ℕ) → AskedOf
asks_variable n (h.Read c l) ls = is_name n (first_global ls)
asks_variable n head ls = false

abbrev pub asks : (globals : ℕ) → Asked → AskedOf
asks g (asked.Cell k) = asks_cell g k
asks g (asked.Variable n) = asks_variable n

-- what is read is a variable of the file, or not, and holds this
abbrev pub reads_content : (globals : ℕ) → Asked → Content → Option ℕ → Bool
reads_content g (asked.Cell k) c o = is_cell_of k c && not (is_below g o)
reads_content g (asked.Variable n) c o = is_name n o

-- which functions read what is asked of
abbrev pub told_in : List Bool → (number : ℕ) → Bool
told_in calls f = slice_index_or calls f false

-- ---- nodes by what they call and read

abbrev pub call_in : Head → Option ℕ
call_in (h.Call f) = Some f
call_in _ = None

abbrev pub content_in : Head → Option Content
content_in (h.Read c l) = Some c
content_in _ = None

abbrev pub reads_by : (globals : ℕ) → Asked → ((number : ℕ) → Bool) → (function : Option ℕ) → Option Content → List Head → Bool
reads_by g a calls (Some f) o ls = calls f
reads_by g a calls None (Some c) ls = reads_content g a c (first_global ls)
reads_by g a calls None None ls = false
