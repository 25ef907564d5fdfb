-- Each world has a reading: numbers for what variables hold, and memories that list what the cells of its blocks do.
use Rattle.std.proofs.Common.{◌≡◌, ℕ, zero, suc, ◌+◌, ◌<◌, ◌==◌, inl, inr, Bool, true, false, ◌&&◌, ◌||◌, ℤ, pos, negsuc, List, [], ◌∷◌, ◌++◌, length, refl, sym, ap, ◌∙◌, subst, arith}
use Rattle.std.specs.Prelude.{if◌then◌else◌, slice_get}
use Rattle.std.specs.Ordering.{int_eq}
use Rattle.std.proofs.lemmas.Bool.{and_parts, cases_lt}
use Rattle.std.proofs.lemmas.Bool.Decides.{Decides-int_eq}
use Rattle.wp_base.specs.declared.kinds.CellKind.{CellKind}
use Rattle.wp_base.specs.declared.kinds.CellKind.TheVariants as cell
use Rattle.wp_base.specs.Blocks.{Table, block_at, or_ended, block_cells, is_some_cell, is_cell}
use Rattle.c_kinds.specs.Models.{long_bits}
use Rattle.qed_terms.specs.declared.head.Head.TheVariants as h
use Rattle.qed_terms.specs.declared.head.Sort.TheVariants as sort
use Rattle.qed_terms.specs.Meaning as m
use Rattle.qed_terms.specs.Memory.{Entry, Memory, is_at, load}
use Rattle.qed_terms.specs.Names.{is_name}
use Rattle.qed_terms.specs.Tree.{Tree, node, stop, num}
use Rattle.c_runs.specs.TruthStates.{Value, number, pointer, addresses, region, number_of, block_of, offset_of}
use Rattle.c_runs.specs.Program.{Facts}
use Rattle.c_runs.specs.States.{World, held_by, global_home, block_of_local}
use Rattle.c_runs.specs.Scopes.{is_content}
use Rattle.c_runs.specs.Values.{Temps}
use Rattle.c_runs.specs.Tests.{is_set_by}
use Rattle.value_terms.specs.Readings.{Term, as_number, as_pointer, Reading, term_fits}
use Rattle.value_terms.specs.Worlds.{Means, flag_of}
use Rattle.value_terms.specs.Laws.{WorldsHaveReadings}

-- ---- constants

constant : Value → Term
constant (number z) = as_number (num z)
constant (pointer b o) = as_pointer (num b) (num o)
constant _ = as_number (num (pos 0))

constant_means : (w : m.World) (env : m.Values) (p : Facts) (n : ℤ) (k : CellKind) (v : Value) → is_content p n k v ≡ true → Means w env (constant v) v
unfolding constant
constant_means w env p n k (number z) h = refl
constant_means w env p n k (pointer b o) h = refl
constant_means w env p n (cell.Of k) (addresses s) h = absurd cc
constant_means w env p n cell.Ptr (addresses s) h = absurd cc
constant_means w env p n (cell.Of k) (region cs s) h = absurd cc
constant_means w env p n cell.Ptr (region cs s) h = absurd cc

constant_fits : (v : Value) → term_fits (constant v) ≡ true
unfolding constant
constant_fits (number z) = refl
constant_fits (pointer b o) = refl
constant_fits (addresses s) = refl
constant_fits (region cs s) = refl

-- ---- a memory that lists all cells of a table

abbrev Content : Type 0
Content = (block offset : ℤ) → ℤ

entry : Content → (block offset : ℤ) → Entry
entry f b o = record { block = b; offset = o; value = f b o }

-- so many cells of a block
row : Content → (block : ℤ) → ℕ → Memory
row f b zero = []
row f b (suc n) = entry f b (pos n) ∷ row f b n

-- those of the blocks from a number on
rows : Content → (before : ℕ) → Table → Memory
rows f i [] = []
rows f i (b ∷ t) = row f (pos (suc i)) (length (block_cells b)) ++ rows f (suc i) t

-- each entry has what is wanted
abbrev Right : Content → Memory → Type 0
Right f [] = Unit {0}
Right f (e ∷ es) = (e.value ≡ f e.block e.offset) × Right f es

right_append : (f : Content) (es fs : Memory) → Right f es → Right f fs → Right f (es ++ fs)
right_append f [] fs h g = g
right_append f (e ∷ es) fs h g = (h.0, right_append f es fs h.1 g)

right_row : (f : Content) (b : ℤ) (n : ℕ) → Right f (row f b n)
unfolding row entry
right_row f b zero = tt
right_row f b (suc n) = (refl, right_row f b n)

right_rows : (f : Content) (i : ℕ) (t : Table) → Right f (rows f i t)
unfolding rows
right_rows f i [] = tt
right_rows f i (b ∷ t) = right_append f _ _ (right_row f (pos (suc i)) (length (block_cells b))) (right_rows f (suc i) t)

-- the address stands in some entry
abbrev found : Memory → (block offset : ℤ) → Bool
found [] b o = false
found (e ∷ es) b o = is_at b o e || found es b o

same_address : (b o : ℤ) (e : Entry) → is_at b o e ≡ true → (e.block ≡ b) × (e.offset ≡ o)
same_address b o e h =
    let parts = and_parts (int_eq e.block b) (int_eq e.offset o) h in
    ((Decides-int_eq e.block b).0 parts.0, (Decides-int_eq e.offset o).0 parts.1)

load_found : (f : Content) (es : Memory) (b o : ℤ) → Right f es → found es b o ≡ true → load es b o ≡ f b o
unfolding load
load_found f [] b o h g = absurd cc
load_found f (e ∷ es) b o h g = by_test (is_at b o e) refl g (λ k. load_found f es b o h.1 k)
  where
    by_test : (t : Bool) → is_at b o e ≡ t → (t || found es b o) ≡ true → (found es b o ≡ true → load es b o ≡ f b o)
        → (if t then e.value else load es b o) ≡ f b o
    by_test true is k rest = let at = same_address b o e is in h.0 ∙ (λ i. f (at.0 i) (at.1 i))
    by_test false is k rest = rest k

found_later : (a b : Bool) → b ≡ true → (a || b) ≡ true
found_later true b h = refl
found_later false b h = h

found_first : (a b : Bool) → a ≡ true → (a || b) ≡ true
found_first true b h = refl
found_first false b h = absurd cc

found_behind : (es fs : Memory) (b o : ℤ) → found fs b o ≡ true → found (es ++ fs) b o ≡ true
found_behind [] fs b o h = h
found_behind (e ∷ es) fs b o h = found_later (is_at b o e) _ (found_behind es fs b o h)

at_itself : (f : Content) (b o : ℤ) → is_at b o (entry f b o) ≡ true
unfolding entry
at_itself f b o = λ i. (Decides-int_eq b b).1 refl i && (Decides-int_eq o o).1 refl i

found_in_row : (f : Content) (b : ℤ) (n j : ℕ) (fs : Memory) → j < n → found (row f b n ++ fs) b (pos j) ≡ true
unfolding row
found_in_row f b zero j fs h = absurd (omega (arith, h))
found_in_row f b (suc n) j fs h = elim (cases_lt j n) [
  | inl below ↦ found_later (is_at b (pos j) (entry f b (pos n))) (found (row f b n ++ fs) b (pos j)) (found_in_row f b n j fs below)
  | inr above ↦
      let same : n ≡ j = omega (arith, h, above) in
      found_first (is_at b (pos j) (entry f b (pos n))) (found (row f b n ++ fs) b (pos j))
      (ap (λ k. is_at b (pos k) (entry f b (pos n))) (sym same) ∙ at_itself f b (pos n))
]

-- ---- cells are in the list

some_below : (k : CellKind) (cs : List CellKind) (j : ℕ) → is_some_cell k (slice_get cs j) ≡ true → j < length cs
some_below k [] j h = absurd cc
some_below k (c ∷ cs) zero h = omega arith
some_below k (c ∷ cs) (suc j) h = let rest = some_below k cs j h in omega (arith, rest)

found_in_rows : (f : Content) (i : ℕ) (t : Table) (n : ℕ) (k : CellKind) (j : ℕ) → is_some_cell k (slice_get (block_cells (or_ended (slice_get t n))) j) ≡ true
    → found (rows f i t) (pos (suc (i + n))) (pos j) ≡ true
unfolding rows
found_in_rows f i [] n k j h = absurd cc
found_in_rows f i (b ∷ t) zero k j h =
    let same : suc (i + 0) ≡ suc i = omega arith in
    ap (λ x. found (row f (pos (suc i)) (length (block_cells b)) ++ rows f (suc i) t) (pos x) (pos j)) same
    ∙ found_in_row f (pos (suc i)) (length (block_cells b)) j (rows f (suc i) t) (some_below k (block_cells b) j h)
found_in_rows f i (b ∷ t) (suc n) k j h =
    let same : suc (i + suc n) ≡ suc (suc i + n) = omega arith in
    ap (λ x. found (row f (pos (suc i)) (length (block_cells b)) ++ rows f (suc i) t) (pos x) (pos j)) same
    ∙ found_behind (row f (pos (suc i)) (length (block_cells b))) (rows f (suc i) t) (pos (suc (suc i + n))) (pos j) (found_in_rows f (suc i) t n k j h)

cell_found : (f : Content) (t : Table) (k : CellKind) (b o : ℤ) → is_cell k t b o ≡ true → found (rows f 0 t) b o ≡ true
unfolding block_at
cell_found f t k (pos zero) (pos j) h = let none = some_below k [] j h in absurd (omega (arith, none))
cell_found f t k (pos (suc n)) (pos j) h =
    let same : suc (0 + n) ≡ suc n = omega arith in
    subst (λ x. found (rows f 0 t) (pos x) (pos j) ≡ true) same (found_in_rows f 0 t n k j h)
cell_found f t k (pos n) (negsuc j) h = absurd cc
cell_found f t k (negsuc n) (pos j) h = let none = some_below k [] j h in absurd (omega (arith, none))
cell_found f t k (negsuc n) (negsuc j) h = absurd cc

-- what a cell holds is loaded
loads : (f : Content) (t : Table) (k : CellKind) (b o : ℤ) → is_cell k t b o ≡ true → load (rows f 0 t) b o ≡ f b o
loads f t k b o h = load_found f (rows f 0 t) b o (right_rows f 0 t) (cell_found f t k b o h)

-- ---- the reading

abbrev memory_name : ℕ → Tree
memory_name n = node (h.Var (n ∷ []) sort.Memory) stop

-- numbers, blocks and offsets of the cells, by their letters
abbrev letter : List ℕ → ℕ
letter [] = 0
letter (b ∷ bytes) = b

abbrev taken : List ℕ → Value → ℤ
taken x v = if letter x == 66 then block_of v else if letter x == 67 then offset_of v else number_of v

module _ (p : Facts) (tm : Temps) (w : World) where
  abbrev values : m.Values
  values = record {
    ints = λ x. pos 0;
    memories = λ x. rows (λ b o. taken x (w.memory.cells b o)) 0 w.memory.blocks;
    tables = λ x. w.memory.blocks;
  }

  abbrev reading : Reading
  reading = record {
    locals = λ x. constant (held_by (w.locals x));
    globals = λ x. constant (w.memory.cells (global_home p x) (pos 0));
    temporaries = λ n. constant (tm n);
    flags = λ x. num (flag_of (is_set_by (w.locals x)));
    homes = λ x. num (block_of_local p x (w.locals x));
    table = node (h.Var (65 ∷ []) sort.Table) stop;
    numbers = λ k. memory_name 65;
    blocks = memory_name 66;
    offsets = memory_name 67;
  }

abbrev terms_world : Facts → m.World
terms_world p = record { long_bits = long_bits p.model; apps = λ f vs. pos 0 }

pub worlds_have_readings : WorldsHaveReadings
unfolding is_name
worlds_have_readings p xs s tm w fine = record {
  world = terms_world p;
  values = values p tm w;
  reading = reading p tm w;
  stood = record {
    kinds = fine;
    stands = record {
      model = refl;
      locals = λ x v found on plain set. constant_means (terms_world p) (values p tm w) p _ _ (held_by (w.locals x)) (fine.locals x v found on plain set);
      flags = λ x v found on plain. refl;
      temporaries = λ n k e. constant_means (terms_world p) (values p tm w) p _ k (tm n) (fine.temporaries n k e);
      globals = λ x v found plain.
          constant_means (terms_world p) (values p tm w) p _ _ (w.memory.cells (global_home p x) (pos 0)) (fine.globals x v found plain);
      homes = λ on x v found declared block. refl;
      table = λ on. refl;
      numbers = λ on k has b o there. loads (λ b o. number_of (w.memory.cells b o)) w.memory.blocks (cell.Of k) b o there;
      blocks = λ on has b o there. loads (λ b o. block_of (w.memory.cells b o)) w.memory.blocks cell.Ptr b o there;
      offsets = λ on has b o there. loads (λ b o. offset_of (w.memory.cells b o)) w.memory.blocks cell.Ptr b o there;
    };
  };
  well_formed = record {
    locals = λ x. constant_fits (held_by (w.locals x));
    globals = λ x. constant_fits (w.memory.cells (global_home p x) (pos 0));
    temporaries = λ n. constant_fits (tm n);
    flags = λ x. refl;
    homes = λ x. refl;
    table = refl;
    numbers = λ k. refl;
    blocks = refl;
    offsets = refl;
  };
}
