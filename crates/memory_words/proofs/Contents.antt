-- Values of their kinds, and where variables of the file stand.
use Rattle.std.proofs.Common.{◌≡◌, ℕ, zero, suc, ◌+◌, ◌-◌, ◌<◌, ℤ, pos, negsuc, true, false, ◌&&◌, if◌then◌else◌, List, [], ◌∷◌, Option, Some, is_some, slice_get, refl, sym, ap, ◌∙◌, inl, inr, arith}
use Rattle.std.specs.Prelude.{nat_lt, int_le, int_lt}
use Rattle.std.specs.Option.{unwrap_or}
use Rattle.std.proofs.lemmas.Bool.{false≢true, and_parts, lt-ltb, ltb-true, false_from_ne_true}
use Rattle.wp_base.specs.declared.kinds.CellKind.{CellKind}
use Rattle.wp_base.specs.declared.kinds.CellKind.TheVariants as cell
use Rattle.wp_base.specs.declared.kinds.Layout.{Layout}
use Rattle.wp_base.specs.Blocks.{Table, count, block_at, has_layout}
use Rattle.qed_terms.specs.Operators.{is_equal}
use Rattle.c_runs.specs.TruthStates.{Value, number, pointer, addresses, region, number_of, block_of as block_in, offset_of, of_kind, is_negative}
use Rattle.c_runs.specs.Program.{Variable, Facts}
use Rattle.c_runs.specs.States.{Memory, Local, home_from, global_home, count_plain, plain_globals, hidden, cell_by, held_by}
use Rattle.c_runs.specs.Scopes.{is_content, scalar_of}
use Rattle.c_runs.specs.Entry.{is_value, leads_well}
use Rattle.goal_segments.specs.Told.{IsGood, IsFlag}
use Rattle.value_terms.specs.Worlds.{flag_of}
use Rattle.typed_memories.proofs.Tests.{on_test, chosen, unchosen}

-- ---- values

-- a value of the kind that leads to no plain variable of the file
pub content_is : (p : Facts) (t : Table) (k : CellKind) (v : Value) → is_value p t k v ≡ true → leads_well v ≡ true → is_content p (count t) k v ≡ true
content_is p t (cell.Of k) (number z) h w = h
content_is p t (cell.Of k) (pointer b o) h w = absurd (false≢true h)
content_is p t (cell.Of k) (addresses s) h w = absurd (false≢true h)
content_is p t (cell.Of k) (region cells s) h w = absurd (false≢true h)
content_is p t cell.Ptr (number z) h w = absurd (false≢true h)
content_is p t cell.Ptr (pointer b o) h w = ap (λ x. x && int_lt b (count t)) w ∙ (and_parts (int_lt b (count t)) _ h).0
content_is p t cell.Ptr (addresses s) h w = absurd (false≢true h)
content_is p t cell.Ptr (region cells s) h w = absurd (false≢true h)

not_below : (b : ℤ) → int_le (pos 0) b ≡ true → is_negative b ≡ false
not_below (pos n) h = refl
not_below (negsuc n) h = absurd (false≢true h)

-- no pointer in a cell leads to a variable without an address
pub content_address : (p : Facts) (n b o : ℤ) → is_content p n cell.Ptr (pointer b o) ≡ true → is_negative b ≡ false
content_address p n b o h = not_below b (and_parts (int_le (pos 0) b) (int_lt b n) h).0

pub leads_address : (b o : ℤ) → leads_well (pointer b o) ≡ true → is_negative b ≡ false
leads_address b o h = not_below b h

-- what isn't of the kind counts as 0 or null
pub number_of_kind : (k : _) (v : Value) → number_of (of_kind (cell.Of k) v) ≡ number_of v
number_of_kind k (number z) = refl
number_of_kind k (pointer b o) = refl
number_of_kind k (addresses s) = refl
number_of_kind k (region cells s) = refl

pub block_of_kind : (v : Value) → block_in (of_kind cell.Ptr v) ≡ block_in v
block_of_kind (number z) = refl
block_of_kind (pointer b o) = refl
block_of_kind (addresses s) = refl
block_of_kind (region cells s) = refl

pub offset_of_kind : (v : Value) → offset_of (of_kind cell.Ptr v) ≡ offset_of v
offset_of_kind (number z) = refl
offset_of_kind (pointer b o) = refl
offset_of_kind (addresses s) = refl
offset_of_kind (region cells s) = refl

-- a flag is what it tells
pub flag_is : (z : ℤ) → IsFlag z → z ≡ flag_of (is_equal (pos 1) z)
flag_is z (inl e) = e ∙ sym (ap (λ x. flag_of (is_equal (pos 1) x)) e)
flag_is z (inr e) = e ∙ sym (ap (λ x. flag_of (is_equal (pos 1) x)) e)

-- ---- blocks

no_layout : (t : Table) (n : ℕ) (l : Layout) → has_layout t (negsuc n) l ≡ false
unfolding block_at
no_layout t n l = refl

-- a block has an address
pub layout_address : (t : Table) (b : ℤ) (l : Layout) → has_layout t b l ≡ true → is_negative b ≡ false
layout_address t (pos n) l h = refl
layout_address t (negsuc n) l h = absurd (false≢true (sym (no_layout t n l) ∙ h))

-- ---- variables of the file

-- one that no pointer leads to has a negative number, among the first ones
hidden_home : (n k : ℕ) (xs : List Variable) (x : ℕ) (v : Variable) → slice_get xs x ≡ Some v → v.is_plain ≡ true
    → (i : ℕ) × (home_from n k xs x ≡ negsuc i) × (i < k + count_plain xs)
hidden_home n k [] x v e is = absurd (false≢true (ap is_some e))
hidden_home n k (y ∷ xs) zero v e is =
    let plain : y.is_plain ≡ true = ap (λ (o : Option Variable). (unwrap_or o v).is_plain) e ∙ is in
    let more : count_plain (y ∷ xs) ≡ suc (count_plain xs) = ap (λ b. if b then suc (count_plain xs) else count_plain xs) plain in
    (k, ap (λ b. if b then negsuc k else pos (suc n)) plain, omega (arith, more))
hidden_home n k (y ∷ xs) (suc x) v e is =
    on_test y.is_plain
    (λ t. let r = hidden_home n (suc k) xs x v e is in
    let more : count_plain (y ∷ xs) ≡ suc (count_plain xs) = ap (λ b. if b then suc (count_plain xs) else count_plain xs) t in
    let below : r.0 < suc k + count_plain xs = r.2 in
    (r.0, ap (λ b. if b then home_from n (suc k) xs x else home_from (suc n) k xs x) t ∙ r.1, omega (arith, more, below)))
    (λ t. let r = hidden_home (suc n) k xs x v e is in
    let more : count_plain (y ∷ xs) ≡ count_plain xs = ap (λ b. if b then suc (count_plain xs) else count_plain xs) t in
    let below : r.0 < k + count_plain xs = r.2 in
    (r.0, ap (λ b. if b then home_from n (suc k) xs x else home_from (suc n) k xs x) t ∙ r.1, omega (arith, more, below)))

-- any other one has an address
open_home : (n k : ℕ) (xs : List Variable) (x : ℕ) (v : Variable) → slice_get xs x ≡ Some v → v.is_plain ≡ false → is_negative (home_from n k xs x) ≡ false
open_home n k [] x v e is = absurd (false≢true (ap is_some e))
open_home n k (y ∷ xs) zero v e is =
    ap (λ b. is_negative (if b then negsuc k else pos (suc n))) (ap (λ (o : Option Variable). (unwrap_or o v).is_plain) e ∙ is)
open_home n k (y ∷ xs) (suc x) v e is =
    on_test y.is_plain
    (λ t. ap (λ b. is_negative (if b then home_from n (suc k) xs x else home_from (suc n) k xs x)) t ∙ open_home n (suc k) xs x v e is)
    (λ t. ap (λ b. is_negative (if b then home_from n (suc k) xs x else home_from (suc n) k xs x)) t ∙ open_home (suc n) k xs x v e is)

module _ (p : Facts) (x : ℕ) (v : Variable) (e : slice_get p.globals x ≡ Some v) where
  pub hidden_negative : v.is_plain ≡ true → is_negative (global_home p x) ≡ true
  hidden_negative is = let h = hidden_home 0 0 p.globals x v e is in ap is_negative h.1

  pub open_address : v.is_plain ≡ false → is_negative (global_home p x) ≡ false
  open_address is = open_home 0 0 p.globals x v e is

  -- annotations read its cell in the memory
  pub hidden_cell : v.is_plain ≡ true → (ls : ℕ → Local) (f : (block offset : ℤ) → Value) → cell_by p ls f (global_home p x) (pos 0) ≡ f (global_home p x) (pos 0)
  hidden_cell is ls f =
      let h = hidden_home 0 0 p.globals x v e is in
      let below : h.0 < 0 + count_plain p.globals = h.2 in
      ap (λ b. cell_by p ls f b (pos 0)) h.1
      ∙ ap (λ t. if t then f (negsuc h.0) (pos 0) else held_by (ls (h.0 - plain_globals p))) (lt-ltb h.0 (plain_globals p) (omega (arith, below)))
      ∙ sym (ap (λ b. f b (pos 0)) h.1)

  -- which holds a value of its kind in a good memory
  pub file_content : (m : Memory) → IsGood p m → v.is_plain ≡ true → is_content p (count m.blocks) (scalar_of v.layout.cells) (m.cells (global_home p x) (pos 0)) ≡ true
  file_content m good is =
      content_is p m.blocks (scalar_of v.layout.cells) (m.cells (global_home p x) (pos 0))
      (sym (chosen v.is_plain _ _ is) ∙ good.well.globals x v e) (good.pointers (global_home p x) (pos 0))

  pub file_block : (m : Memory) → IsGood p m → v.is_plain ≡ false → has_layout m.blocks (global_home p x) v.layout ≡ true
  file_block m good is = sym (unchosen v.is_plain _ _ is) ∙ good.well.globals x v e

-- and that of a variable of the function in the variable
pub local_cell : (p : Facts) (ls : ℕ → Local) (f : (block offset : ℤ) → Value) (x : ℕ) → cell_by p ls f (hidden p x) (pos 0) ≡ held_by (ls x)
local_cell p ls f x =
    ap (λ t. if t then f (hidden p x) (pos 0) else held_by (ls ((plain_globals p + x) - plain_globals p)))
    (false_from_ne_true (nat_lt (plain_globals p + x) (plain_globals p)) (λ e. let l = ltb-true (plain_globals p + x) (plain_globals p) e in absurd (omega (arith, l))))
    ∙ ap (λ k. held_by (ls k)) same
  where
    same : (plain_globals p + x) - plain_globals p ≡ x
    same = omega arith
