-- The memories that list the addresses of all cells of a state hold what is read of it.
use Rattle.std.proofs.Common.{◌≡◌, ℕ, zero, suc, ◌+◌, Bool, true, false, ◌||◌, ℤ, pos, negsuc, List, [], ◌∷◌, ◌++◌, Option, Some, None, slice_get, refl, sym, ap, ap₂, ◌∙◌, subst, arith}
use Rattle.std.specs.List.{list_any}
use Rattle.wp_base.specs.declared.kinds.Kind.{Kind}
use Rattle.wp_base.specs.declared.kinds.CellKind.{CellKind}
use Rattle.wp_base.specs.declared.kinds.CellKind.TheVariants as cell
use Rattle.wp_base.specs.Blocks.{Table, or_ended, block_at, block_cells, is_cell}
use Rattle.qed_terms.specs.Memory.{load}
use Rattle.c_runs.specs.TruthStates.{Value, number, pointer, addresses, region, number_of, block_of, offset_of, nothing_of}
use Rattle.c_runs.specs.States.{Memory}
use Rattle.typed_memories.specs.Cells.{typed, kind_at, read_in, HasForm, AllRead, Address, listed, row, rows, encoded}
use Rattle.typed_memories.specs.Laws.{CleanHasMemories, StatesHaveMemories}
use Rattle.typed_memories.proofs.Tests.{on_test, not_both, chosen, unchosen, or_first, or_second, or_left, here, is_here, moved}
use Rattle.typed_memories.proofs.CellKinds.{no_cell_of}
use Rattle.typed_memories.proofs.Decoding.{read_nothing, read_has_form, decodes_back, reads_clean, reads_typed}

-- ---- addresses that are listed

abbrev is_address : (b o : ℤ) → Address → Bool
is_address b o a = is_here a.block a.offset b o

abbrev is_listed : List Address → (b o : ℤ) → Bool
is_listed xs b o = list_any (is_address b o) xs

-- of a function that is 0 at every other address, all is held
listed_holds : (f : (block offset : ℤ) → ℤ) (xs : List Address) (b o : ℤ) → (is_listed xs b o ≡ false → f b o ≡ pos 0) → load (listed f xs) b o ≡ f b o
unfolding load
listed_holds f [] b o none = sym (none refl)
listed_holds f (a ∷ xs) b o none =
    on_test (is_address b o a)
    (λ so. chosen (is_address b o a) (f a.block a.offset) (load (listed f xs) b o) so
    ∙ moved (λ b' o'. f a.block a.offset ≡ f b' o') a.block a.offset b o so refl)
    (λ not_so. unchosen (is_address b o a) (f a.block a.offset) (load (listed f xs) b o) not_so
    ∙ listed_holds f xs b o (λ apart. none (ap (λ t. t || is_listed xs b o) not_so ∙ apart)))

front_listed : (xs ys : List Address) (b o : ℤ) → is_listed xs b o ≡ true → is_listed (xs ++ ys) b o ≡ true
front_listed [] ys b o h = absurd cc
front_listed (a ∷ xs) ys b o h =
    on_test (is_address b o a) (or_first (is_address b o a) (is_listed (xs ++ ys) b o))
    (λ not_so. or_second (is_address b o a) (is_listed (xs ++ ys) b o) (front_listed xs ys b o (or_left (is_address b o a) (is_listed xs b o) h not_so)))

back_listed : (xs ys : List Address) (b o : ℤ) → is_listed ys b o ≡ true → is_listed (xs ++ ys) b o ≡ true
back_listed [] ys b o h = h
back_listed (a ∷ xs) ys b o h = or_second (is_address b o a) (is_listed (xs ++ ys) b o) (back_listed xs ys b o h)

-- the numbers are given by equations, so that no sum has to compute
row_lists : (b : ℤ) (n : ℕ) (ks : List CellKind) (j i : ℕ) (k : CellKind) → slice_get ks j ≡ Some k → i ≡ n + j → is_listed (row b n ks) b (pos i) ≡ true
row_lists b n [] j i k h e = absurd cc
row_lists b n (x ∷ ks) zero i k h e =
    let same : n ≡ i = omega (arith, e) in
    or_first (is_address b (pos i) (record { block = b; offset = pos n })) (is_listed (row b (suc n) ks) b (pos i))
    (subst (λ i. is_here b (pos n) b (pos i) ≡ true) same (here b (pos n)))
row_lists b n (x ∷ ks) (suc j) i k h e =
    or_second (is_address b (pos i) (record { block = b; offset = pos n })) (is_listed (row b (suc n) ks) b (pos i))
    (row_lists b (suc n) ks j i k h (omega (arith, e)))

rows_list : (n : ℕ) (t : Table) (j l i : ℕ) (k : CellKind) → slice_get (block_cells (or_ended (slice_get t j))) i ≡ Some k → l ≡ n + j
    → is_listed (rows n t) (pos (suc l)) (pos i) ≡ true
rows_list n [] j l i k h e = absurd cc
rows_list n (x ∷ t) zero l i k h e =
    let same : n ≡ l = omega (arith, e) in
    let none : i ≡ 0 + i = omega arith in
    front_listed (row (pos (suc n)) 0 (block_cells x)) (rows (suc n) t) (pos (suc l)) (pos i)
    (subst (λ l. is_listed (row (pos (suc n)) 0 (block_cells x)) (pos (suc l)) (pos i) ≡ true) same (row_lists (pos (suc n)) 0 (block_cells x) i i k h none))
rows_list n (x ∷ t) (suc j) l i k h e =
    back_listed (row (pos (suc n)) 0 (block_cells x)) (rows (suc n) t) (pos (suc l)) (pos i) (rows_list (suc n) t j l i k h (omega (arith, e)))

cell_listed : (t : Table) (b o : ℤ) (k : CellKind) → kind_at t b o ≡ Some k → is_listed (rows 0 t) b o ≡ true
unfolding block_at
cell_listed t (pos zero) (pos i) k h = absurd cc
cell_listed t (pos (suc j)) (pos i) k h = rows_list 0 t j j i k h (omega arith)
cell_listed t (negsuc j) (pos i) k h = absurd cc
cell_listed t b (negsuc i) k h = absurd cc

-- where no address is listed there is no cell
unlisted_kind : (t : Table) (b o : ℤ) → is_listed (rows 0 t) b o ≡ false → kind_at t b o ≡ None
unlisted_kind t b o h = by (kind_at t b o) refl
  where
    by : (c : Option CellKind) → kind_at t b o ≡ c → c ≡ None
    by None e = refl
    by (Some k) e = not_both (is_listed (rows 0 t) b o) (cell_listed t b o k e) h

-- ---- the memories of a state

-- a value of the form of its kind, by its parts
number_form : (v : Value) (k : Kind) → HasForm (cell.Of k) v → number (number_of v) ≡ v
number_form (number z) k h = refl
number_form (pointer b o) k h = h
number_form (addresses s) k h = h
number_form (region ks s) k h = h

pointer_form : (v : Value) → HasForm cell.Ptr v → pointer (block_of v) (offset_of v) ≡ v
pointer_form (number z) h = h
pointer_form (pointer b o) h = refl
pointer_form (addresses s) h = h
pointer_form (region ks s) h = h

module _ (m : Memory) where
  part_held : (k : CellKind) (part : Value → ℤ) → part (nothing_of k) ≡ pos 0 → (b o : ℤ)
      → load (listed (λ b o. part (read_in m k b o)) (rows 0 m.blocks)) b o ≡ part (read_in m k b o)
  part_held k part none b o =
      listed_holds (λ b o. part (read_in m k b o)) (rows 0 m.blocks) b o
      (λ apart. ap part (read_nothing m k b o (no_cell_of k m.blocks b o (unlisted_kind m.blocks b o apart))) ∙ none)

  pub encoded_reads : AllRead m (typed (encoded m))
  encoded_reads (cell.Of k) b o =
      ap number (part_held (cell.Of k) number_of refl b o) ∙ number_form (read_in m (cell.Of k) b o) k (read_has_form m (cell.Of k) b o)
  encoded_reads cell.Ptr b o =
      ap₂ pointer (part_held cell.Ptr block_of refl b o) (part_held cell.Ptr offset_of refl b o)
      ∙ pointer_form (read_in m cell.Ptr b o) (read_has_form m cell.Ptr b o)

-- ---- what is clean

module _ (t : Table) (f : (block offset : ℤ) → ℤ) (k : CellKind) (empty : (b o : ℤ) → is_cell k t b o ≡ false → f b o ≡ pos 0) where
  clean_listed : load (listed f (rows 0 t)) ≡ f
  clean_listed = λ i. λ b o. listed_holds f (rows 0 t) b o (λ apart. empty b o (no_cell_of k t b o (unlisted_kind t b o apart))) i

pub clean_has_memories : CleanHasMemories
clean_has_memories t = record {
  numbers = λ k f clean. (listed f (rows 0 t), clean_listed t f (cell.Of k) (λ b o none. ap number_of (clean b o none)));
  pointers = λ f g clean. (
    listed f (rows 0 t),
    listed g (rows 0 t),
    clean_listed t f cell.Ptr (λ b o none. ap block_of (clean b o none)),
    clean_listed t g cell.Ptr (λ b o none. ap offset_of (clean b o none)),
  );
}

pub states_have_memories : StatesHaveMemories
states_have_memories m = record { some = encoded_reads m; clean = reads_clean m; typed = reads_typed m; decode = decodes_back m }
