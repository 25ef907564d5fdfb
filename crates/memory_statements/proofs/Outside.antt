-- What stands inside of a scope, where it is left, stands outside of it.
use Rattle.std.proofs.Common.{◌≡◌, ◌⊎◌, ℕ, zero, suc, ◌<◌, ℤ, pos, true, false, if◌then◌else◌, List, [], ◌∷◌, length, Option, Some, None, refl, sym, ap, ◌∙◌, subst}
use Rattle.std.proofs.Common.{inl, inr}
use Rattle.std.specs.Prelude.{int_le, int_lt}
use Rattle.std.proofs.lemmas.Bool.{false≢true, and_parts}
use Rattle.wp_base.specs.declared.kinds.CellKind.{CellKind}
use Rattle.wp_base.specs.declared.kinds.CellKind.TheVariants as cell
use Rattle.wp_base.specs.Blocks.{Table, count, grow}
use Rattle.c_runs.specs.TruthStates.{Value, number, pointer, addresses, region}
use Rattle.c_runs.specs.Program.{Facts}
use Rattle.c_runs.specs.States.{Memory}
use Rattle.c_runs.specs.Scopes.{ended_since}
use Rattle.c_runs.specs.Entry.{is_value}
use Rattle.goal_segments.specs.Told.{with_name, with_names}
use Rattle.goal_segments.specs.Segments.{IsResult}
use Rattle.typed_memories.proofs.Tests.{on_test, both_so}
use Rattle.typed_memories.proofs.Tables.{below_more, grown_count}
use Rattle.memory_words.specs.Shapes.{FileCells, Shape}
use Rattle.memory_words.specs.Readings.{InScope}
use Rattle.memory_words.proofs.Lists.{found_below}
use Rattle.memory_words.specs.Typed.{Declares}
use Rattle.memory_words.specs.Placed.{Opening, left_of, all_of}
use Rattle.memory_statements.proofs.Ending.{as_many}
use Rattle.memory_statements.proofs.Framing.{named_or_not}
use Rattle.memory_statements.proofs.Restoring.{Named, Unnamed, named_so}

-- ---- the variables of a block

module _ (s : Shape) (cells : FileCells) where
  pub declared_below : (ys : List ℕ) (i : InScope) → Declares s cells i ys → (y : ℕ) → Named y ys → y < length s.variables
  declared_below [] i d y h = absurd h
  declared_below (x ∷ ys) i d y (inl e) = subst (λ y. y < length s.variables) e (found_below s.variables x d.1.0 d.1.1)
  declared_below (x ∷ ys) i d y (inr h) = declared_below ys (with_name x i) d.2 y h

  -- they weren't in scope
  pub declared_out : (ys : List ℕ) (i : InScope) → Declares s cells i ys → (y : ℕ) → Named y ys → i y ≡ false
  declared_out [] i d y h = absurd h
  declared_out (x ∷ ys) i d y (inl e) = subst (λ y. i y ≡ false) e d.0
  declared_out (x ∷ ys) i d y (inr h) = by (named_or_not x y) (declared_out ys (with_name x i) d.2 y h) where
    by : (x ≡ y) ⊎ ((x ≡ y → ⊥) × ((i : InScope) → with_name x i y ≡ i y)) → with_name x i y ≡ false → i y ≡ false
    by (inl e) k = subst (λ y. i y ≡ false) e d.0
    by (inr (n, same)) k = sym (same i) ∙ k

pub names_unnamed : (ys : List ℕ) (i : InScope) (x : ℕ) → Unnamed x ys → with_names ys i x ≡ i x
names_unnamed [] i x h = refl
names_unnamed (y ∷ ys) i x h = names_unnamed ys (with_name y i) x h.1 ∙ by (named_or_not y x) where
  by : (y ≡ x) ⊎ ((y ≡ x → ⊥) × ((i : InScope) → with_name y i x ≡ i x)) → with_name y i x ≡ i x
  by (inl e) = absurd (h.0 e)
  by (inr (n, same)) = same i

module _ (s : Shape) (cells : FileCells) (ys : List ℕ) (i : InScope) (d : Declares s cells i ys) where
  pub in_unnamed : (x : ℕ) → i x ≡ true → Unnamed x ys
  in_unnamed x scoped = by (named_so x ys) where
    by : Named x ys ⊎ Unnamed x ys → Unnamed x ys
    by (inl h) = absurd (false≢true (sym (declared_out s cells ys i d x h) ∙ scoped))
    by (inr h) = h

  pub out_or_named : (x : ℕ) → i x ≡ false → (with_names ys i x ≡ false) ⊎ Named x ys
  out_or_named x out = by (named_so x ys) where
    by : Named x ys ⊎ Unnamed x ys → (with_names ys i x ≡ false) ⊎ Named x ys
    by (inl h) = inr h
    by (inr h) = inl (names_unnamed ys i x h ∙ out)

-- ---- the scopes that are left

pub left_inner : (k : ℕ) (q : Opening) (qs : List Opening) (qss : List (List Opening)) → left_of k (q ∷ qs) qss ≡ q ∷ left_of k qs qss
left_inner zero q qs qss = refl
left_inner (suc k) q qs [] = refl
left_inner (suc k) q qs (r ∷ qss) = refl

pub all_inner : (q : Opening) (qs : List Opening) (qss : List (List Opening)) → all_of (q ∷ qs) qss ≡ q ∷ all_of qs qss
all_inner q qs [] = refl
all_inner q qs (r ∷ qss) = refl

-- ---- memories

-- blocks that have ended end once
pub ends_once : (a b n : Memory) → int_le (count a.blocks) (count b.blocks) ≡ true → int_le (count b.blocks) (count n.blocks) ≡ true
    → ended_since a (ended_since b n) ≡ ended_since a n
ends_once a b n h k = λ i. record { blocks = grow a.blocks (counts i); cells = λ c o. held c o i } where
  counts : count (grow b.blocks (count n.blocks)) ≡ count n.blocks
  counts = grown_count b.blocks (count n.blocks) k

  held : (c o : ℤ) → (if int_lt c (count a.blocks) then (if int_lt c (count b.blocks) then n.cells c o else number (pos 0)) else number (pos 0))
      ≡ (if int_lt c (count a.blocks) then n.cells c o else number (pos 0))
  held c o = on_test (int_lt c (count a.blocks))
      (λ e. ap (λ t. if int_lt c (count a.blocks) then (if t then n.cells c o else number (pos 0)) else number (pos 0)) (below_more c (count a.blocks) (count b.blocks) e h))
      (λ e. ap (λ t. if t then (if int_lt c (count b.blocks) then n.cells c o else number (pos 0)) else number (pos 0)) e ∙ sym (ap (λ t. if t then n.cells c o else number (pos 0)) e))

-- ---- results

value_more : (p : Facts) (t u : Table) → int_le (count t) (count u) ≡ true → (k : CellKind) (v : Value) → is_value p t k v ≡ true → is_value p u k v ≡ true
value_more p t u more (cell.Of k) (number z) h = h
value_more p t u more (cell.Of k) (pointer b o) h = absurd (false≢true h)
value_more p t u more (cell.Of k) (addresses s) h = absurd (false≢true h)
value_more p t u more (cell.Of k) (region ks s) h = absurd (false≢true h)
value_more p t u more cell.Ptr (number z) h = absurd (false≢true h)
value_more p t u more cell.Ptr (pointer b o) h =
    let both = and_parts (int_lt b (count t)) _ h in both_so (int_lt b (count u)) _ (below_more b (count t) (count u) both.0 more) both.1
value_more p t u more cell.Ptr (addresses s) h = absurd (false≢true h)
value_more p t u more cell.Ptr (region ks s) h = absurd (false≢true h)

pub result_behind : (p : Facts) (before n : Memory) (o : Option CellKind) (v : Value) → int_le (count before.blocks) (count n.blocks) ≡ true → IsResult p n.blocks o v
    → IsResult p (ended_since before n).blocks o v
result_behind p before n None v k h = h
result_behind p before n (Some j) v k h =
    (value_more p n.blocks (grow before.blocks (count n.blocks)) (ap (λ z. int_le (count n.blocks) z) (grown_count before.blocks (count n.blocks) k) ∙ as_many n.blocks) j v h.0, h.1)
