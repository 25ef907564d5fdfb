-- A term that is well formed as an integer means one, and so does one of a memory.
use Rattle.std.proofs.Common.{◌≡◌, ℕ, Bool, true, false, ◌&&◌, List, refl, sym, ◌∙◌, ap}
use Rattle.qed_terms.specs.declared.head.Sort.{Sort}
use Rattle.qed_terms.specs.declared.head.Sort.TheVariants as sort
use Rattle.qed_terms.specs.declared.head.Head.{Head}
use Rattle.qed_terms.specs.declared.head.Head.TheVariants as h
use Rattle.qed_terms.specs.declared.head.TermOp.{TermOp}
use Rattle.qed_terms.specs.declared.head.TermOp.TheVariants as op
use Rattle.qed_terms.specs.Meaning.{World, Values, Whole, Cells, whole, memory, meaning}
use Rattle.qed_terms.specs.Names.{is_name}
use Rattle.qed_terms.specs.Tree.{Tree, node, Trees, head_of}
use Rattle.qed_terms.specs.WellFormed.{same_sort, made_by, fits, term, may_stand, all_fit, kid_places, kid_count}
use Rattle.branch_changes.proofs.Truths.{and_left, and_right}

abbrev pub MeansInteger : World → Tree → Type 0
MeansInteger w u = (env : Values) → meaning w env u ≡ Whole (whole (meaning w env u))

abbrev pub MeansMemory : World → Tree → Type 0
MeansMemory w u = (env : Values) → meaning w env u ≡ Cells (memory (meaning w env u))

op_integer : (w : World) (o : TermOp) (ts : Trees) → same_sort sort.Int (made_by o) ≡ true → MeansInteger w (node (h.Term o) ts)
op_integer w op.Store ts e env = absurd cc
op_integer w (op.Alloc layout) ts e env = absurd cc
op_integer w op.Grow ts e env = absurd cc
op_integer w op.Add ts e env = refl
op_integer w op.Sub ts e env = refl
op_integer w op.Mul ts e env = refl
op_integer w op.Neg ts e env = refl
op_integer w op.Div ts e env = refl
op_integer w op.Mod ts e env = refl
op_integer w (op.Wrap k) ts e env = refl
op_integer w op.ShiftLeft ts e env = refl
op_integer w op.ShiftRight ts e env = refl
op_integer w op.BitAnd ts e env = refl
op_integer w op.BitOr ts e env = refl
op_integer w op.BitXor ts e env = refl
op_integer w op.BitNot ts e env = refl
op_integer w op.Load ts e env = refl
op_integer w op.Count ts e env = refl
op_integer w op.Len ts e env = refl

op_memory : (w : World) (o : TermOp) (ts : Trees) → same_sort sort.Memory (made_by o) ≡ true → MeansMemory w (node (h.Term o) ts)
op_memory w op.Store ts e env = refl
op_memory w o ts e env = absurd cc

name_integer : (w : World) (x : List ℕ) (s : Sort) (ts : Trees) → same_sort sort.Int s ≡ true → MeansInteger w (node (h.Var x s) ts)
name_integer w x sort.Int ts e env = refl
name_integer w x sort.Memory ts e env = absurd cc
name_integer w x sort.Table ts e env = absurd cc

name_memory : (w : World) (x : List ℕ) (s : Sort) (ts : Trees) → same_sort sort.Memory s ≡ true → MeansMemory w (node (h.Var x s) ts)
name_memory w x sort.Memory ts e env = refl
name_memory w x sort.Int ts e env = absurd cc
name_memory w x sort.Table ts e env = absurd cc

stands : (s : Sort) (head : Head) (ts : Trees) → fits (term s) (node head ts) ≡ true → may_stand (term s) head ≡ true
stands s head ts e = and_left (may_stand (term s) head) (all_fit (kid_places head (kid_count ts)) ts) e

integer_by : (w : World) (head : Head) (ts : Trees) → may_stand (term sort.Int) head ≡ true → MeansInteger w (node head ts)
integer_by w (h.Num z) ts e env = refl
integer_by w (h.Var x s) ts e env = name_integer w x s ts (and_right (is_name x) (same_sort sort.Int s) e) env
integer_by w (h.Term o) ts e env = op_integer w o ts e env
integer_by w h.Ite ts e env = refl
integer_by w (h.App f) ts e env = refl
integer_by w (h.Form o) ts e env = absurd cc
integer_by w h.True ts e env = absurd cc
integer_by w h.False ts e env = absurd cc
integer_by w h.Not ts e env = absurd cc
integer_by w h.And ts e env = absurd cc
integer_by w h.Or ts e env = absurd cc
integer_by w h.Imp ts e env = absurd cc
integer_by w h.Iff ts e env = absurd cc
integer_by w (h.Forall x) ts e env = let k = and_right (is_name x) false e in absurd cc
integer_by w (h.Exists x) ts e env = let k = and_right (is_name x) false e in absurd cc

memory_by : (w : World) (head : Head) (ts : Trees) → may_stand (term sort.Memory) head ≡ true → MeansMemory w (node head ts)
memory_by w (h.Num z) ts e env = absurd cc
memory_by w (h.Var x s) ts e env = name_memory w x s ts (and_right (is_name x) (same_sort sort.Memory s) e) env
memory_by w (h.Term o) ts e env = op_memory w o ts e env
memory_by w h.Ite ts e env = absurd cc
memory_by w (h.App f) ts e env = let k = and_right (is_name f) false e in absurd cc
memory_by w (h.Form o) ts e env = absurd cc
memory_by w h.True ts e env = absurd cc
memory_by w h.False ts e env = absurd cc
memory_by w h.Not ts e env = absurd cc
memory_by w h.And ts e env = absurd cc
memory_by w h.Or ts e env = absurd cc
memory_by w h.Imp ts e env = absurd cc
memory_by w h.Iff ts e env = absurd cc
memory_by w (h.Forall x) ts e env = let k = and_right (is_name x) false e in absurd cc
memory_by w (h.Exists x) ts e env = let k = and_right (is_name x) false e in absurd cc

pub means_integer : (w : World) (u : Tree) → fits (term sort.Int) u ≡ true → MeansInteger w u
means_integer w (node head ts) e = integer_by w head ts (stands sort.Int head ts e)

pub means_memory : (w : World) (u : Tree) → fits (term sort.Memory) u ≡ true → MeansMemory w u
means_memory w (node head ts) e = memory_by w head ts (stands sort.Memory head ts e)
