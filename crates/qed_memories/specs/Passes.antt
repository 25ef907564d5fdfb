-- What the rules at memories and tables make of a node, each applied again as long as it changes what it made.
use Rattle.std.specs.Prelude.{Bool, true, false, if◌then◌else◌, Option, Some, None, option_map}
use Rattle.wp_base.specs.declared.kinds.Layout.{Layout}
use Rattle.qed_terms.specs.declared.head.Head.{Head}
use Rattle.qed_terms.specs.declared.head.Head.TheVariants as h
use Rattle.qed_terms.specs.declared.head.TermOp.TheVariants as op
use Rattle.qed_terms.specs.declared.head.FormOp.TheVariants as rel
use Rattle.qed_terms.specs.Tree.{Tree, node, Trees, stop, more, head_of, one}
use Rattle.qed_linear.specs.Linear.{Lin, to_lin, is_integer}
use Rattle.qed_numbers.specs.Numbers.{Rule, then_some}
use Rattle.qed_memories.specs.Memories.{difference, apart, is_zero_where, is_from_zero, is_address, same_address, load_tree, store_tree, normal_count, grow_tree, is_own_count, asked, layout_answer, past_count, is_no_block, no_answer}

-- ---- loads down a chain of stores

-- the value that was stored at the address, or the memory that is to be read there
pub data Cell : Type 0 where
  value : Tree → Cell
  unread : Tree → Cell

abbrev pub value_or : Bool → (value memory : Tree) → Cell
value_or true v m = value v
value_or false v m = unread m

abbrev pub cell_by : Option Bool → (value memory : Tree) → (below : Cell) → Cell
cell_by None v m down = unread m
cell_by (Some true) v m down = value_or (is_integer (head_of v)) v m
cell_by (Some false) v m down = down

-- at the address that has these forms
unfoldable pub find_cell : (memory : Tree) → (block offset : Lin) → Cell
find_cell (node (h.Term op.Store) (more m (more b (more o (more v stop))))) f g = cell_by (is_address f g b o) v (store_tree m b o v) (find_cell m f g)
find_cell m f g = unread m

abbrev pub cell_tree : Cell → (block offset : Tree) → Tree
cell_tree (value v) b o = v
cell_tree (unread m) b o = load_tree m b o

abbrev pub loaded_down : Option Bool → (value : Tree) → (below : Tree) → Option Tree
loaded_down None v t = None
loaded_down (Some true) v t = then_some (is_integer (head_of v)) v
loaded_down (Some false) v t = Some t

unfoldable pub load_down : (memory block offset : Tree) → Option Tree
load_down (node (h.Term op.Store) (more m (more b' (more o' (more v stop))))) b o = loaded_down (same_address b o b' o') v (cell_tree (find_cell m (to_lin b) (to_lin o)) b o)
load_down m b o = None

-- ---- stores over stores at their address

abbrev pub is_so : Option Bool → Bool
is_so None = false
is_so (Some b) = b

unfoldable pub store_base : (memory : Tree) → (block offset : Lin) → Tree
store_base (node (h.Term op.Store) (more m (more b (more o (more v stop))))) f g = if is_so (is_address f g b o) then store_base m f g else store_tree m b o v
store_base m f g = m

unfoldable pub store_down : (memory block offset value : Tree) → Option Tree
store_down (node (h.Term op.Store) (more m (more b' (more o' (more v' stop))))) b o v = then_some (is_so (same_address b o b' o')) (store_tree (store_base m (to_lin b) (to_lin o)) b o v)
store_down m b o v = None

-- ---- tables

unfoldable pub count_down : Tree → Option Tree
count_down (node (h.Term (op.Alloc layout)) (more t stop)) = Some (normal_count (node (h.Term (op.Alloc layout)) (more t stop)))
count_down t = None

-- the table below those that were grown to no larger a count
unfoldable pub grow_base : (table : Tree) → (count : Lin) → Tree
grow_base (node (h.Term op.Grow) (more t (more u stop))) f = if is_from_zero (difference f (to_lin u)) then grow_base t f else grow_tree t u
grow_base t f = t

abbrev pub grow_end : (table count : Tree) → Tree
grow_end t v = if is_own_count t v then t else grow_tree t v

unfoldable pub grow_down : (table count : Tree) → Option Tree
grow_down (node (h.Term op.Grow) (more t (more u stop))) v =
    if is_from_zero (apart v u) then Some (grow_end (grow_base t (to_lin v)) v) else then_some (is_own_count (grow_tree t u) v) (grow_tree t u)
grow_down t v = then_some (is_own_count t v) t

-- ---- what is asked of a block of a table

-- where a block is found: it has this layout, there is no such block, or another table is to be asked
pub data Found : Type 0 where
  made_as : Layout → Found
  nowhere : Found
  unmade : Tree → Found

abbrev pub nowhere_or : Bool → Tree → Found
nowhere_or true t = nowhere
nowhere_or false t = unmade t

abbrev pub made_or : Option Bool → Layout → (below here : Found) → Found
made_or None l down here = here
made_or (Some true) l down here = made_as l
made_or (Some false) l down here = down

unfoldable pub find : (table : Tree) → (block : Lin) → Found
find (node (h.Term op.Grow) (more t (more u stop))) f = find t f
find (node (h.Term (op.Alloc l)) (more t stop)) f = made_or (is_zero_where (past_count f t)) l (find t f) (nowhere_or (is_no_block (node (h.Term (op.Alloc l)) (more t stop)) f) (node (h.Term (op.Alloc l)) (more t stop)))
find t f = nowhere_or (is_no_block t f) t

abbrev pub nowhere_where : Bool → Option Found
nowhere_where true = Some nowhere
nowhere_where false = None

abbrev pub made_where : Option Bool → Layout → (below : Found) → Bool → Option Found
made_where None l down n = nowhere_where n
made_where (Some true) l down n = Some (made_as l)
made_where (Some false) l down n = Some down

-- where it is found, if that isn't the table itself
unfoldable pub find_down : (table : Tree) → (block : Lin) → Option Found
find_down (node (h.Term op.Grow) (more t (more u stop))) f = Some (find t f)
find_down (node (h.Term (op.Alloc l)) (more t stop)) f = made_where (is_zero_where (past_count f t)) l (find t f) (is_no_block (node (h.Term (op.Alloc l)) (more t stop)) f)
find_down t f = nowhere_where (is_no_block t f)

abbrev pub found_tree : Head → (block : Tree) → Trees → Found → Tree
found_tree head b ts (made_as l) = layout_answer l head ts
found_tree head b ts nowhere = no_answer head
found_tree head b ts (unmade t) = asked head t b ts

abbrev pub found_down : Head → (table block : Tree) → Trees → Option Tree
found_down head t b ts = option_map (found_tree head b ts) (find_down t (to_lin b))

-- ---- all of them

-- what they make of a node whose kids are in normal form, where they change it
abbrev pub memory_pass : Rule
memory_pass (h.Term op.Load) (more m (more b (more o stop))) = load_down m b o
memory_pass (h.Term op.Store) (more m (more b (more o (more v stop)))) = store_down m b o v
memory_pass (h.Term op.Count) (more t stop) = count_down t
memory_pass (h.Term op.Grow) (more t (more u stop)) = grow_down t u
memory_pass (h.Term op.Len) (more t (more b stop)) = found_down (h.Term op.Len) t b stop
memory_pass (h.Form rel.Live) (more t (more b stop)) = found_down (h.Form rel.Live) t b stop
memory_pass (h.Form (rel.Read k)) (more t (more b (more o stop))) = found_down (h.Form (rel.Read k)) t b (one o)
memory_pass (h.Form (rel.Write k)) (more t (more b (more o stop))) = found_down (h.Form (rel.Write k)) t b (one o)
memory_pass head ts = None
