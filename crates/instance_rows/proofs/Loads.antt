-- The rows at loads: over a store, through a frame, and from well formed memories.
use Rattle.std.proofs.Common.{◌≡◌, ◌⊎◌, ℕ, ◌-◌, ◌^◌, Bool, true, false, not, ◌&&◌, ◌||◌, cond, refl, sym, ◌∙◌, ap, inl, inr, arith}
use Rattle.std.specs.Prelude.{ℤ, pos, ◌-ℤ◌, ◌≤ℤ◌, int_lt, int_le, List, [], ◌∷◌, ◌++◌, map}
use Rattle.std.specs.Ordering.{int_eq}
use Rattle.std.specs.List.{list_all, list_any}
use Rattle.std.proofs.lemmas.Int.{ints}
use Rattle.std.proofs.lemmas.Bool.Decides.{Decides-int_eq}
use Rattle.wp_base.specs.declared.kinds.Kind.{Kind}
use Rattle.wp_base.specs.declared.kinds.Kind.TheVariants as kind
use Rattle.wp_base.specs.declared.kinds.CellKind.TheVariants as cell
use Rattle.wp_base.specs.Kinds.{kind_low, kind_high}
use Rattle.wp_base.specs.Blocks.{Table, count, is_cell}
use Rattle.qed_terms.specs.declared.head.Head.{Head}
use Rattle.qed_terms.specs.declared.head.Head.TheVariants as h
use Rattle.qed_terms.specs.declared.head.TermOp.TheVariants as op
use Rattle.qed_terms.specs.declared.head.FormOp.TheVariants as form
use Rattle.qed_terms.specs.declared.head.Shape.{Shape}
use Rattle.qed_terms.specs.declared.head.Shape.TheVariants as shape
use Rattle.qed_terms.specs.Meaning.{World, Values, truth, value, meaning, meanings, whole, memory, table, regions}
use Rattle.qed_terms.specs.Memory.{Memory, Entry, is_at, load, store, is_between, is_well_formed, are_well_formed, Region, is_inside, agree_outside}
use Rattle.qed_terms.specs.Operators.{is_equal}
use Rattle.qed_terms.specs.Order.{same}
use Rattle.qed_terms.specs.Tree.{Tree, node, Trees, stop, more, equal}
use Rattle.qed_memories.specs.Memories.{load_tree}
use Rattle.branches.specs.Branch.{AreTrue}
use Rattle.instance_rows.specs.Rows.{load_below, load_of_store}
use Rattle.instance_rows.specs.PairRows.{at_load_of, in_regions, agreement, frame_of_load, kind_range, block_range, range_of_load}
use Rattle.instance_rows.specs.Laws.{RowIsValid, PairRowFollows}
use Rattle.instance_rows.proofs.Tests.{first, second, both, and_left, and_right, alone, le_so, lt_so, equal_so, unequal_so, some_so, some_front, some_behind}

-- ---- a load over a store

-- the two tests of equality agree
same_test : (a b : ℤ) → int_eq a b ≡ is_equal a b
same_test a b = go (int_eq a b) refl
  where
    go : (v : Bool) → int_eq a b ≡ v → v ≡ is_equal a b
    go true e = sym (equal_so a b ((Decides-int_eq a b).0 e))
    go false e = sym (unequal_so a b (λ k. no ((Decides-int_eq a b).1 k) e))
      where
        no : int_eq a b ≡ true → int_eq a b ≡ false → ⊥
        no f g = absurd cc

entry : (b o z : ℤ) → Entry
entry b o z = record { block = b; offset = o; value = z }

loaded : (m : Memory) (b o z b' o' : ℤ) → load (store m b o z) b' o' ≡ cond (is_equal b b' && is_equal o o') z (load m b' o')
unfolding load
loaded m b o z b' o' = λ i. cond (same_test b b' i && same_test o o' i) z (load m b' o')

by_case : (p q : Bool) (l z below : ℤ) → l ≡ cond (p && q) z below
    → ((p && (q && (is_equal l z && true))) || (((not p || (not q || false)) && (is_equal l below && true)) || false)) ≡ true
by_case true true l z below e = first (is_equal l z && true) _ (both (is_equal l z) true (equal_so l z e) refl)
by_case true false l z below e = alone (is_equal l below && true) (both (is_equal l below) true (equal_so l below e) refl)
by_case false q l z below e = alone (is_equal l below && true) (both (is_equal l below) true (equal_so l below e) refl)

module _ (w : World) (env : Values) where
  below_true : (m b o : Tree) → AreTrue w env (load_below m b o)
  below_true (node (h.Term op.Store) (more m (more b (more o (more v stop))))) b' o' = (
    by_case (is_equal (value w env b) (value w env b')) (is_equal (value w env o) (value w env o')) _ (value w env v) (load (memory (meaning w env m)) (value w env b') (value w env o'))
        (loaded (memory (meaning w env m)) (value w env b) (value w env o) (value w env v) (value w env b') (value w env o')),
    tt,
  )
  below_true m b o = tt

pub stores_valid : (w : World) → RowIsValid w load_of_store
stores_valid w (h.Term op.Load) (more m (more b (more o stop))) env = below_true w env m b o
stores_valid w head ts env = tt

-- ---- memories whose entries pass a test

abbrev Test : Type 0
Test = (block offset : ℤ) → Bool

abbrev all_pass : Test → Memory → Bool
all_pass p m = list_all (λ (e : Entry). p (e.block) (e.offset)) m

-- an address passes, or the memory holds 0 there
passes_or_zero : (p : Test) (m : Memory) → all_pass p m ≡ true → (b o : ℤ) → (p b o ≡ true) ⊎ (load m b o ≡ pos 0)
unfolding load
passes_or_zero p [] k b o = inr refl
passes_or_zero p (e ∷ m) k b o = go (is_at b o e) refl (passes_or_zero p m (and_right (p (e.block) (e.offset)) (all_pass p m) k) b o)
  where
    go : (x : Bool) → is_at b o e ≡ x → (p b o ≡ true) ⊎ (load m b o ≡ pos 0) → (p b o ≡ true) ⊎ (cond x (e.value) (load m b o) ≡ pos 0)
    go true f r =
        let s = (Decides-int_eq (e.block) b).0 (and_left (int_eq (e.block) b) (int_eq (e.offset) o) f) in
        let t = (Decides-int_eq (e.offset) o).0 (and_right (int_eq (e.block) b) (int_eq (e.offset) o) f) in
        inl ((λ i. p (sym s i) (sym t i)) ∙ and_left (p (e.block) (e.offset)) (all_pass p m) k)
    go false f r = r

front_passes : (p : Test) (m n : Memory) → all_pass p (m ++ n) ≡ true → all_pass p m ≡ true
front_passes p [] n k = refl
front_passes p (e ∷ m) n k =
    both (p (e.block) (e.offset)) (all_pass p m) (and_left (p (e.block) (e.offset)) (all_pass p (m ++ n)) k)
    (front_passes p m n (and_right (p (e.block) (e.offset)) (all_pass p (m ++ n)) k))

behind_passes : (p : Test) (m n : Memory) → all_pass p (m ++ n) ≡ true → all_pass p n ≡ true
behind_passes p [] n k = k
behind_passes p (e ∷ m) n k = behind_passes p m n (and_right (p (e.block) (e.offset)) (all_pass p (m ++ n)) k)

-- ---- a load through a frame

in_or_agrees : (m n : Memory) (rs : List Region) → agree_outside m n rs ≡ true → (b o : ℤ) → (list_any (is_inside b o) rs ≡ true) ⊎ (load m b o ≡ load n b o)
unfolding agree_outside
in_or_agrees m n rs k b o = go (passes_or_zero p m (front_passes p m n k) b o) (passes_or_zero p n (behind_passes p m n k) b o)
  where
    p : Test
    p x y = list_any (is_inside x y) rs || int_eq (load m x y) (load n x y)

    told : (a c : Bool) → (a || c) ≡ true → (a ≡ true) ⊎ (c ≡ true)
    told true c e = inl refl
    told false c e = inr e

    at : p b o ≡ true → (list_any (is_inside b o) rs ≡ true) ⊎ (load m b o ≡ load n b o)
    at e = elim (told (list_any (is_inside b o) rs) (int_eq (load m b o) (load n b o)) e) [
      | inl f ↦ inl f
      | inr f ↦ inr ((Decides-int_eq (load m b o) (load n b o)).0 f)
    ]

    go : (p b o ≡ true) ⊎ (load m b o ≡ pos 0) → (p b o ≡ true) ⊎ (load n b o ≡ pos 0) → (list_any (is_inside b o) rs ≡ true) ⊎ (load m b o ≡ load n b o)
    go (inl e) r = at e
    go (inr e) (inl f) = at f
    go (inr e) (inr f) = inr (e ∙ sym f)

module _ (w : World) (env : Values) where
  abbrev V : Tree → ℤ
  V = value w env

  -- an address that lies in a region makes one of the disjuncts true
  region_true : (shapes : List Shape) (ts : Trees) (b o : Tree) → list_any (is_inside (V b) (V o)) (regions shapes (map whole (meanings w env ts))) ≡ true
      → some_so w env (in_regions shapes ts b o) ≡ true
  region_true [] ts b o e = absurd cc
  region_true (shape.Cells ∷ shapes) stop b o e = absurd cc
  region_true (shape.Cells ∷ shapes) (more c stop) b o e = absurd cc
  region_true (shape.Cells ∷ shapes) (more c (more low stop)) b o e = absurd cc
  region_true (shape.Cells ∷ shapes) (more c (more low (more high ts))) b o e =
      go (int_eq (V b) (V c)) (same_test (V b) (V c)) (int_le (V low) (V o)) (int_lt (V o) (V high)) e (region_true shapes ts b o)
    where
      rest : Bool
      rest = list_any (is_inside (V b) (V o)) (regions shapes (map whole (meanings w env ts)))

      go : (x : Bool) → x ≡ is_equal (V b) (V c) → (y z : Bool) → (((x && y) && z) || rest) ≡ true → (rest ≡ true → some_so w env (in_regions shapes ts b o) ≡ true)
          → ((is_equal (V b) (V c) && (y && (z && true))) || some_so w env (in_regions shapes ts b o)) ≡ true
      go x q true true k r = parted x q k
        where
          parted : (x : Bool) → x ≡ is_equal (V b) (V c) → (((x && true) && true) || rest) ≡ true → ((is_equal (V b) (V c) && true) || some_so w env (in_regions shapes ts b o)) ≡ true
          parted true q k = first (is_equal (V b) (V c) && true) _ (both (is_equal (V b) (V c)) true (sym q) refl)
          parted false q k = second (is_equal (V b) (V c) && true) _ (r k)
      go true q true false k r = second (is_equal (V b) (V c) && false) _ (r k)
      go false q true false k r = second (is_equal (V b) (V c) && false) _ (r k)
      go true q false z k r = second (is_equal (V b) (V c) && false) _ (r k)
      go false q false z k r = second (is_equal (V b) (V c) && false) _ (r k)
  region_true (shape.New ∷ shapes) stop b o e = absurd cc
  region_true (shape.New ∷ shapes) (more c ts) b o e = go (int_le (V c) (V b)) e (region_true shapes ts b o)
    where
      rest : Bool
      rest = list_any (is_inside (V b) (V o)) (regions shapes (map whole (meanings w env ts)))

      go : (x : Bool) → (x || rest) ≡ true → (rest ≡ true → some_so w env (in_regions shapes ts b o) ≡ true) → (x || some_so w env (in_regions shapes ts b o)) ≡ true
      go true k r = refl
      go false k r = r k

  agreement_true : (shapes : List Shape) (rs : Trees) (m n b o : Tree) → truth w env (node (h.Form (form.Frame shapes)) (more m (more n rs))) ≡ true
      → truth w env (agreement shapes rs m n b o) ≡ true
  agreement_true shapes rs m n b o e =
      elim (in_or_agrees (memory (meaning w env m)) (memory (meaning w env n)) (regions shapes (map whole (meanings w env rs))) e (V b) (V o)) [
        | inl k ↦ some_front w env (in_regions shapes rs b o) (equal (load_tree m b o) (load_tree n b o) ∷ []) (region_true shapes rs b o k)
        | inr k ↦ some_behind w env (in_regions shapes rs b o) (equal (load_tree m b o) (load_tree n b o) ∷ []) (alone _ (equal_so _ _ k))
      ]

  -- ---- rows at a load of a memory

  at_load_true : (m : Tree) (formula : (block offset : Tree) → Tree) → ((b o : Tree) → truth w env (formula b o) ≡ true) → (head : Head) (ts : Trees) → AreTrue w env (at_load_of m formula head ts)
  at_load_true m formula so (h.Term op.Load) (more n (more b (more o stop))) = go (same m n)
    where
      go : (x : Bool) → AreTrue w env (cond x (formula b o ∷ []) [])
      go true = (so b o, tt)
      go false = tt
  at_load_true m formula so head ts = tt

pub frames_follow : (w : World) → PairRowFollows w frame_of_load
frames_follow w (h.Form (form.Frame shapes)) (more m (more n rs)) env e head ts = at_load_true w env n (agreement shapes rs m n) (λ b o. agreement_true w env shapes rs m n b o e) head ts
frames_follow w g us env e head ts = tt

-- ---- the range of what is loaded

-- 0 is a number of each kind
low_up : (x y : ℤ) → x ≤ℤ pos 0 → pos 0 ≤ℤ y → is_between x y (pos 0) ≡ true
low_up x y k l = both (int_le x (pos 0)) (int_le (pos 0) y) (le_so x (pos 0) k) (le_so (pos 0) y l)

zero_signed : (n : ℕ) → is_between (pos 0 -ℤ pos (2 ^ (n - 1))) (pos (2 ^ (n - 1) - 1)) (pos 0) ≡ true
zero_signed n = low_up (pos 0 -ℤ pos (2 ^ (n - 1))) (pos (2 ^ (n - 1) - 1)) (omega (arith, ints)) (omega (arith, ints))

zero_unsigned : (n : ℕ) → is_between (pos 0) (pos (2 ^ n - 1)) (pos 0) ≡ true
zero_unsigned n = low_up (pos 0) (pos (2 ^ n - 1)) (omega (arith, ints)) (omega (arith, ints))

zero_of : (bits : ℕ) (k : Kind) → is_between (kind_low bits k) (kind_high bits k) (pos 0) ≡ true
zero_of bits kind.Bool = refl
zero_of bits kind.Char = zero_signed 8
zero_of bits kind.SChar = zero_signed 8
zero_of bits kind.UChar = zero_unsigned 8
zero_of bits kind.Short = zero_signed 16
zero_of bits kind.UShort = zero_unsigned 16
zero_of bits kind.Int = zero_signed 32
zero_of bits kind.UInt = zero_unsigned 32
zero_of bits kind.Long = zero_signed bits
zero_of bits kind.ULong = zero_unsigned bits
zero_of bits kind.LLong = zero_signed 64
zero_of bits kind.ULLong = zero_unsigned 64

in_range : (bits : ℕ) (k : Kind) (t : Table) (m : Memory) → is_well_formed bits k t m ≡ true → (b o : ℤ) → is_between (kind_low bits k) (kind_high bits k) (load m b o) ≡ true
unfolding is_well_formed
in_range bits k t m e b o = go (passes_or_zero p m e b o)
  where
    p : Test
    p x y = cond (is_cell (cell.Of k) t x y) (is_between (kind_low bits k) (kind_high bits k) (load m x y)) (int_eq (load m x y) (pos 0))

    zero_there : load m b o ≡ pos 0 → is_between (kind_low bits k) (kind_high bits k) (load m b o) ≡ true
    zero_there e = ap (is_between (kind_low bits k) (kind_high bits k)) e ∙ zero_of bits k

    at : (x : Bool) → cond x (is_between (kind_low bits k) (kind_high bits k) (load m b o)) (int_eq (load m b o) (pos 0)) ≡ true → is_between (kind_low bits k) (kind_high bits k) (load m b o) ≡ true
    at true e = e
    at false e = zero_there ((Decides-int_eq (load m b o) (pos 0)).0 e)

    go : (p b o ≡ true) ⊎ (load m b o ≡ pos 0) → is_between (kind_low bits k) (kind_high bits k) (load m b o) ≡ true
    go (inl e) = at (is_cell (cell.Of k) t b o) e
    go (inr e) = zero_there e

block_in_range : (t : Table) (bs os : Memory) → are_well_formed t bs os ≡ true → (b o : ℤ) → int_le (pos 0) (load bs b o) && int_lt (load bs b o) (count t) ≡ true
unfolding are_well_formed
block_in_range t bs os e b o = go (passes_or_zero p bs (front_passes p bs os e) b o)
  where
    p : Test
    p x y = cond (is_cell cell.Ptr t x y) (int_le (pos 0) (load bs x y) && int_lt (load bs x y) (count t)) (int_eq (load bs x y) (pos 0) && int_eq (load os x y) (pos 0))

    null : int_le (pos 0) (pos 0) && int_lt (pos 0) (count t) ≡ true
    null = both (int_le (pos 0) (pos 0)) (int_lt (pos 0) (count t)) refl (lt_so (pos 0) (count t) (omega (arith, ints)))

    zero_there : load bs b o ≡ pos 0 → int_le (pos 0) (load bs b o) && int_lt (load bs b o) (count t) ≡ true
    zero_there e = ap (λ z. int_le (pos 0) z && int_lt z (count t)) e ∙ null

    at : (x : Bool) → cond x (int_le (pos 0) (load bs b o) && int_lt (load bs b o) (count t)) (int_eq (load bs b o) (pos 0) && int_eq (load os b o) (pos 0)) ≡ true
        → int_le (pos 0) (load bs b o) && int_lt (load bs b o) (count t) ≡ true
    at true e = e
    at false e = zero_there ((Decides-int_eq (load bs b o) (pos 0)).0 (and_left (int_eq (load bs b o) (pos 0)) (int_eq (load os b o) (pos 0)) e))

    go : (p b o ≡ true) ⊎ (load bs b o ≡ pos 0) → int_le (pos 0) (load bs b o) && int_lt (load bs b o) (count t) ≡ true
    go (inl e) = at (is_cell cell.Ptr t b o) e
    go (inr e) = zero_there e

-- a conjunction of two, as a tree has it
ended : (p q : Bool) → p && q ≡ true → (p && (q && true)) ≡ true
ended p q e = both p (q && true) (and_left p q e) (both q true (and_right p q e) refl)

pub ranges_follow : (w : World) → PairRowFollows w (range_of_load w.long_bits)
ranges_follow w (h.Form (form.WellFormed (cell.Of k))) (more t (more m stop)) env e head ts =
    at_load_true w env m (λ b o. kind_range w.long_bits k (load_tree m b o)) (λ b o. ended _ _ (in_range w.long_bits k (table (meaning w env t)) (memory (meaning w env m)) e (value w env b) (value w env o))) head ts
ranges_follow w (h.Form (form.WellFormed cell.Ptr)) (more t (more m (more n stop))) env e head ts =
    at_load_true w env m (λ b o. block_range t (load_tree m b o)) (λ b o. ended _ _ (block_in_range (table (meaning w env t)) (memory (meaning w env m)) (memory (meaning w env n)) e (value w env b) (value w env o))) head ts
ranges_follow w g us env e head ts = tt
