-- A block that is left: the memory is as good as it was, and its variables hold nothing.
use Rattle.std.proofs.Common.{◌≡◌, ℕ, zero, suc, ◌+◌, ◌<◌, ◌≤◌, ℤ, pos, negsuc, ◌-ℤ◌, Bool, true, false, ◌&&◌, if◌then◌else◌, List, [], ◌∷◌, ◌++◌, length, Option, Some, None, slice_get, refl, sym, ap, ◌∙◌, subst, length-append, arith}
use Rattle.std.specs.Prelude.{int_le, int_lt, neg_ℤ}
use Rattle.std.specs.List.{list_all}
use Rattle.std.proofs.lemmas.Bool.{false≢true, and_parts, ltb-true, lt-ltb, le-leb, leb-true}
use Rattle.std.proofs.lemmas.Int.{ints}
use Rattle.wp_base.specs.declared.kinds.CellKind.{CellKind}
use Rattle.wp_base.specs.declared.kinds.CellKind.TheVariants as cell
use Rattle.wp_base.specs.Blocks.{Table, Block, ended, count, to_nat, or_ended, block_at, block_cells, has_cell, is_cell, len, endeds, grow}
use Rattle.c_kinds.specs.Models.{high, difference_kind}
use Rattle.c_runs.specs.TruthStates.{Value, number, pointer, addresses, region}
use Rattle.c_runs.specs.Program.{Variable, Facts}
use Rattle.c_runs.specs.States.{Memory, plain_globals}
use Rattle.c_runs.specs.Scopes.{scalar_of, ended_since}
use Rattle.c_runs.specs.Entry.{is_value, is_placed, is_home, is_block, leads_well}
use Rattle.plain_states.specs.Scopes.{is_integer, kind_of}
use Rattle.plain_states.proofs.Entering.{when_true}
use Rattle.goal_segments.specs.Told.{IsGood, Shape}
use Rattle.goal_segments.proofs.Told.{no_negative, home_is}
use Rattle.goal_segments.specs.Segments.{SameBlocks}
use Rattle.program_steps.proofs.Filling.{on_bool}
use Rattle.program_steps.proofs.Standing.{of_file}

-- ---- tables

ended_at : (n i : ℕ) → or_ended (slice_get (endeds n) i) ≡ ended
ended_at zero i = refl
ended_at (suc n) zero = refl
ended_at (suc n) (suc i) = ended_at n i

grown_at : (t : Table) (n i : ℕ) → or_ended (slice_get (t ++ endeds n) i) ≡ or_ended (slice_get t i)
grown_at [] n i = ended_at n i
grown_at (x ∷ t) n zero = refl
grown_at (x ∷ t) n (suc i) = grown_at t n i

pub grow_block : (t : Table) (z b : ℤ) → block_at (grow t z) b ≡ block_at t b
unfolding block_at
grow_block t z (pos zero) = refl
grow_block t z (pos (suc n)) = grown_at t (to_nat (z -ℤ count t)) n
grow_block t z (negsuc n) = refl

endeds_length : (n : ℕ) → length (endeds n) ≡ n
endeds_length zero = refl
endeds_length (suc n) = ap suc (endeds_length n)

grown_length : (t : Table) (n : ℕ) → length (t ++ endeds n) ≡ length t + n
grown_length t n = length-append t (endeds n) ∙ ap (λ k. length t + k) (endeds_length n)

pub grow_more : (t : Table) (z : ℤ) → int_le (count t) (count (grow t z)) ≡ true
grow_more t z = let e = grown_length t (to_nat (z -ℤ count t)) in le-leb (suc (length t)) (suc (length (grow t z))) (omega (arith, e))

reaches : (d : ℤ) (a b : ℕ) → d ≡ pos a -ℤ pos b → a ≤ b + to_nat d
reaches (pos n) a b e = omega (arith, ints, e)
reaches (negsuc n) a b e = omega (arith, ints, e)

grow_to : (t u : Table) → int_le (count u) (count (grow t (count u))) ≡ true
grow_to t u =
    let e = grown_length t (to_nat (count u -ℤ count t)) in
    let r = reaches (count u -ℤ count t) (suc (length u)) (suc (length t)) refl in
    le-leb (suc (length u)) (suc (length (grow t (count u)))) (omega (arith, e, r))

grow_below : (t u : Table) (b : ℤ) → int_lt b (count u) ≡ true → int_lt b (count (grow t (count u))) ≡ true
grow_below t u (pos n) h =
    let e = grown_length t (to_nat (count u -ℤ count t)) in
    let r = reaches (count u -ℤ count t) (suc (length u)) (suc (length t)) refl in
    let l = ltb-true n (suc (length u)) h in
    lt-ltb n (suc (length (grow t (count u)))) (omega (arith, e, r, l))
grow_below t u (negsuc n) h = refl

-- ---- cells

no_cell : (k : CellKind) (o : ℤ) → has_cell k [] o ≡ true → ⊥
no_cell k (pos n) h = false≢true h
no_cell k (negsuc n) h = false≢true h

listed : (t : Table) (i : ℕ) (k : CellKind) (o : ℤ) → has_cell k (block_cells (or_ended (slice_get t i))) o ≡ true → i < length t
listed [] i k o h = absurd (no_cell k o h)
listed (x ∷ t) zero k o h = omega arith
listed (x ∷ t) (suc i) k o h = let r = listed t i k o h in omega (arith, r)

cell_before : (k : CellKind) (t : Table) (b o : ℤ) → is_cell k t b o ≡ true → int_lt b (count t) ≡ true
unfolding block_at
cell_before k t (pos zero) o h = absurd (no_cell k o h)
cell_before k t (pos (suc i)) o h = let r = listed t i k o h in lt-ltb (suc i) (suc (length t)) (omega (arith, r))
cell_before k t (negsuc n) o h = absurd (no_cell k o h)

-- ---- the memory behind a block

module _ (p : Facts) (s : Shape) (globals : list_all is_integer p.globals ≡ true) (integers : list_all is_integer s.variables ≡ true) (m n : Memory) (good : IsGood p n)
    (same : (b : ℤ) → block_at n.blocks b ≡ block_at m.blocks b) where
  abbrev left_table : Table
  left_table = grow m.blocks (count n.blocks)

  abbrev pub left_memory : Memory
  left_memory = ended_since m n

  cell_same : (k : CellKind) (b o : ℤ) → is_cell k left_table b o ≡ is_cell k n.blocks b o
  cell_same k b o = ap (λ x. has_cell k (block_cells x) o) (grow_block m.blocks (count n.blocks) b ∙ sym (same b))

  cell_there : (k : CellKind) (b o : ℤ) → is_cell k m.blocks b o ≡ is_cell k n.blocks b o
  cell_there k b o = ap (λ x. has_cell k (block_cells x) o) (sym (same b))

  value_grows : (k : CellKind) (v : Value) → is_value p n.blocks k v ≡ true → is_value p left_table k v ≡ true
  value_grows (cell.Of k) (number z) h = h
  value_grows (cell.Of k) (pointer b o) h = absurd (false≢true h)
  value_grows (cell.Of k) (addresses a) h = absurd (false≢true h)
  value_grows (cell.Of k) (region cells a) h = absurd (false≢true h)
  value_grows cell.Ptr (number z) h = absurd (false≢true h)
  value_grows cell.Ptr (pointer b o) h =
      let both = and_parts (int_lt b (count n.blocks)) (int_le (neg_ℤ (pos (plain_globals p))) b) h in
      ap (λ t. t && int_le (neg_ℤ (pos (plain_globals p))) b) (grow_below m.blocks n.blocks b both.0) ∙ both.1
  value_grows cell.Ptr (addresses a) h = absurd (false≢true h)
  value_grows cell.Ptr (region cells a) h = absurd (false≢true h)

  global_at : (x : ℕ) (v : Variable) → slice_get p.globals x ≡ Some v → is_placed p left_memory (negsuc x) v ≡ true
  global_at x v e =
      let parts = of_file p s globals integers x v e in
      let there : is_value p n.blocks (scalar_of v.layout.cells) (n.cells (negsuc x) (pos 0)) ≡ true =
      sym (when_true v.is_plain _ _ parts.0) ∙ subst (λ b. is_placed p n b v ≡ true) (home_is p globals x v e) (good.well.globals x v e) in
      when_true v.is_plain _ _ parts.0 ∙ value_grows (scalar_of v.layout.cells) (n.cells (negsuc x) (pos 0)) there

  cell_at : (k : CellKind) (b o : ℤ) → is_cell k left_table b o ≡ true → is_value p left_table k (left_memory.cells b o) ≡ true
  cell_at k b o h =
      let here = sym (cell_same k b o) ∙ h in
      let before = cell_before k m.blocks b o (cell_there k b o ∙ here) in
      ap (λ t. is_value p left_table k (if t then n.cells b o else number (pos 0))) before ∙ value_grows k (n.cells b o) (good.well.cells k b o here)

  nothing_at : (b o : ℤ) → is_home p b o ≡ false → ((k : CellKind) → is_cell k left_table b o ≡ false) → left_memory.cells b o ≡ number (pos 0)
  nothing_at b o out none = on_bool (int_lt b (count m.blocks))
      (λ e. ap (λ t. if t then n.cells b o else number (pos 0)) e ∙ good.well.elsewhere b o out (λ k. sym (cell_same k b o) ∙ none k))
      (λ e. ap (λ t. if t then n.cells b o else number (pos 0)) e)

  pointer_at : (b o : ℤ) → leads_well (left_memory.cells b o) ≡ true
  pointer_at b o = by (int_lt b (count m.blocks)) where
    by : (t : Bool) → leads_well (if t then n.cells b o else number (pos 0)) ≡ true
    by true = good.pointers b o
    by false = refl

  pub left_good : IsGood p left_memory
  left_good = record {
    well = record {
      globals = λ x v e. subst (λ b. is_placed p left_memory b v ≡ true) (sym (home_is p globals x v e)) (global_at x v e);
      cells = cell_at;
      elsewhere = nothing_at;
      short = λ b. ap (λ x. int_le (pos (length (block_cells x))) (high p.model (difference_kind p.model))) (grow_block m.blocks (count n.blocks) b ∙ sym (same b)) ∙ good.well.short b;
    };
    pointers = pointer_at;
  }

le_both : (a b c : Table) → int_le (count a) (count b) ≡ true → int_le (count b) (count c) ≡ true → int_le (count a) (count c) ≡ true
le_both a b c h k =
    let x = leb-true (suc (length a)) (suc (length b)) h in
    let y = leb-true (suc (length b)) (suc (length c)) k in
    le-leb (suc (length a)) (suc (length c)) (omega (arith, x, y))

pub left_blocks : (t m n : Table) → SameBlocks t m → SameBlocks t (grow m (count n))
left_blocks t m n h = record { live = λ b. grow_block m (count n) b ∙ h.live b; more = le_both t m (grow m (count n)) h.more (grow_more m (count n)) }
