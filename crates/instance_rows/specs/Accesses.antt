-- Loads, and cells that are read, written or asked for.
use Rattle.std.specs.Prelude.{ℕ, ◌||◌, if◌then◌else◌, List, [], ◌∷◌, codes, Option, Some, None, option_map}
use Rattle.std.specs.Str.{bytes_eq}
use Rattle.wp_base.specs.declared.kinds.CellKind.{CellKind}
use Rattle.wp_base.specs.declared.kinds.CellKind.TheVariants as cell
use Rattle.goal_words.specs.Kinds.{row_of, kind_words}
use Rattle.qed_terms.specs.declared.head.Sort.TheVariants as sort
use Rattle.qed_terms.specs.declared.head.Head.TheVariants as h
use Rattle.qed_terms.specs.declared.head.TermOp.TheVariants as op
use Rattle.qed_terms.specs.declared.head.FormOp.TheVariants as form
use Rattle.qed_terms.specs.Names.{after_colon, is_memory_name}
use Rattle.qed_terms.specs.Tree.{Tree, node, stop, more}

-- ---- the kind of the cells of a memory, by its name: `M:KIND`, `M:ptrb` and `M:ptro`, with or without `#` and a number before the colon

abbrev pub named_kind : List ℕ → Option CellKind
named_kind word = if bytes_eq word (codes "ptrb") || bytes_eq word (codes "ptro") then Some cell.Ptr else option_map cell.Of (row_of kind_words word)

abbrev pub memory_kind : List ℕ → Option CellKind
memory_kind x = if is_memory_name x then named_kind (after_colon x) else None

-- by the name under its stores
abbrev pub kind_under : Tree → Option CellKind
kind_under (node (h.Var x sort.Memory) stop) = memory_kind x
kind_under (node (h.Term op.Store) (more m ts)) = kind_under m
kind_under m = None

-- ---- loads

pub record Load : Type 0 where
  pub memory : Tree
  pub block : Tree
  pub offset : Tree

abbrev pub load_at : Tree → Option Load
load_at (node (h.Term op.Load) (more m (more b (more o stop)))) = Some (record { memory = m; block = b; offset = o })
load_at t = None

-- ---- accesses: loads, and the relations on cells; an access is to a cell of a kind

pub record Access : Type 0 where
  pub kind : CellKind
  pub block : Tree
  pub offset : Tree

abbrev pub access_to : (block offset : Tree) → CellKind → Access
access_to b o k = record { kind = k; block = b; offset = o }

abbrev pub access_at : Tree → Option Access
access_at (node (h.Term op.Load) (more m (more b (more o stop)))) = option_map (access_to b o) (kind_under m)
access_at (node (h.Form (form.Read k)) (more t (more b (more o stop)))) = Some (access_to b o k)
access_at (node (h.Form (form.Write k)) (more t (more b (more o stop)))) = Some (access_to b o k)
access_at t = None

-- ---- of several trees

abbrev pub with_some : {A : Type 0} → Option A → List A → List A
with_some None xs = xs
with_some (Some x) xs = x ∷ xs

abbrev pub each_some : {A : Type 0} → (Tree → Option A) → List Tree → List A
each_some f [] = []
each_some f (t ∷ ts) = with_some (f t) (each_some f ts)

abbrev pub loads_in : List Tree → List Load
loads_in = each_some load_at

abbrev pub accesses_in : List Tree → List Access
accesses_in = each_some access_at
