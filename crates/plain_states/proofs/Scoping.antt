-- Scopes of variables that are integers, as changes of slots.
use Rattle.std.proofs.Common.{◌≡◌, ℕ, zero, suc, ◌+◌, ◌<◌, ◌≤◌, ℤ, pos, Bool, true, false, if◌then◌else◌, List, [], ◌∷◌, length, Option, Some, None, is_some, slice_get, refl, sym, ap, ◌∙◌, arith}
use Rattle.std.specs.List.{list_all}
use Rattle.std.proofs.lemmas.Bool.{false≢true, and_parts}
use Rattle.wp_base.specs.declared.kinds.CellKind.{CellKind}
use Rattle.wp_base.specs.declared.kinds.CellKind.TheVariants as cell
use Rattle.wp_base.specs.declared.kinds.Kind.{Kind}
use Rattle.wp_base.specs.Blocks.{count}
use Rattle.c_kinds.specs.Models.{holds}
use Rattle.c_runs.specs.Told.{Value, number, pointer, addresses, region, number_of, nothing_of}
use Rattle.c_runs.specs.Program.{Variable, Facts}
use Rattle.c_runs.specs.States.{plain, Memory, with_local}
use Rattle.c_runs.specs.Scopes.{next_content, others, scalar_of, plain_made, block_made, variable_made, entered, without_locals}
use Rattle.plain_states.specs.Slots.{State, Sizes, sizes_of, with_variable, result_slot, world_in}
use Rattle.plain_states.specs.Scopes.{are_one_integer, is_integer, kind_in, kind_of, first_value, first_flag, made_state, made_contents, scope_state, scope_contents, without_variables, AllBelow}
use Rattle.plain_states.proofs.Lists.{set_length}
use Rattle.plain_states.proofs.Puts.{local_world}

-- ---- contents

-- a content of an integer is a number of its kind
pub content_number : (p : Facts) (n : ℤ) (k : Kind) (vs : List Value) → number (number_of (next_content p n (cell.Of k) vs)) ≡ next_content p n (cell.Of k) vs
content_number p n k [] = refl
content_number p n k (number z ∷ vs) = by (holds p.model k z) where
  by : (t : Bool) → number (number_of (if t then number z else number (pos 0))) ≡ (if t then number z else number (pos 0))
  by true = refl
  by false = refl
content_number p n k (pointer b o ∷ vs) = refl
content_number p n k (addresses s ∷ vs) = refl
content_number p n k (region cells s ∷ vs) = refl

pub cell_of_integer : (ks : List CellKind) → are_one_integer ks ≡ true → scalar_of ks ≡ cell.Of (kind_in ks)
cell_of_integer [] h = absurd (false≢true h)
cell_of_integer (cell.Of k ∷ []) h = refl
cell_of_integer (cell.Of k ∷ l ∷ ks) h = absurd (false≢true h)
cell_of_integer (cell.Ptr ∷ ks) h = absurd (false≢true h)

-- ---- a block is entered

all_first : {X : Type 0} (f : X → Bool) (x : X) (xs : List X) → list_all f (x ∷ xs) ≡ true → f x ≡ true
all_first f x xs h = (and_parts (f x) (list_all f xs) h).0

all_rest : {X : Type 0} (f : X → Bool) (x : X) (xs : List X) → list_all f (x ∷ xs) ≡ true → list_all f xs ≡ true
all_rest f x xs h = (and_parts (f x) (list_all f xs) h).1

pub none_some : {X : Type 0} (x : X) → None ≡ Some x → ⊥
none_some {X} x e = false≢true (ap (λ (o : Option X). is_some o) e)

pub listed_integer : (xs : List Variable) → list_all is_integer xs ≡ true → (x : ℕ) (v : Variable) → slice_get xs x ≡ Some v → is_integer v ≡ true
listed_integer [] h x v e = absurd (none_some v e)
listed_integer (y ∷ xs) h zero v e = sym (ap is_so e) ∙ all_first is_integer y xs h where
  is_so : Option Variable → Bool
  is_so None = true
  is_so (Some v) = is_integer v
listed_integer (y ∷ xs) h (suc x) v e = listed_integer xs (all_rest is_integer y xs h) x v e

pub found_below : {X : Type 0} (xs : List X) (i : ℕ) (x : X) → slice_get xs i ≡ Some x → i < length xs
found_below [] i x e = absurd (none_some x e)
found_below (y ∷ xs) zero x e = omega arith
found_below (y ∷ xs) (suc i) x e = let h = found_below xs i x e in omega (arith, h)

module _ (p : Facts) (xs : List Variable) (all : list_all is_integer xs ≡ true) (m : Memory) (n : ℕ) where
  made_by : (x : ℕ) (c : CellKind) (k : Kind) (b : Bool) (vs : List Value) (st : State) → c ≡ cell.Of k → x < length xs → result_slot (sizes_of p xs) ≤ length st
      → (if b then with_local x (plain (nothing_of c) true) (world_in (sizes_of p xs) m n vs st)
      else with_local x (plain (next_content p (count m.blocks) c vs) false) (world_in (sizes_of p xs) m n (others vs) st))
      ≡ world_in (sizes_of p xs) m n (if b then vs else others vs)
      (with_variable ((sizes_of p xs).globals + x) (if b then pos 0 else number_of (next_content p (count m.blocks) c vs)) (if b then pos 1 else pos 0) st)
  made_by x c k true vs st e l big =
      ap (λ c. with_local x (plain (nothing_of c) true) (world_in (sizes_of p xs) m n vs st)) e ∙ local_world (sizes_of p xs) m n vs st x (pos 0) (pos 1) true refl l big
  made_by x c k false vs st e l big =
      let as_number : number (number_of (next_content p (count m.blocks) c vs)) ≡ next_content p (count m.blocks) c vs =
      ap (λ c. number (number_of (next_content p (count m.blocks) c vs))) e ∙ content_number p (count m.blocks) k vs ∙ sym (ap (λ c. next_content p (count m.blocks) c vs) e) in
      ap (λ v. with_local x (plain v false) (world_in (sizes_of p xs) m n (others vs) st)) (sym as_number)
      ∙ local_world (sizes_of p xs) m n (others vs) st x (number_of (next_content p (count m.blocks) c vs)) (pos 0) false refl l big

  made_one : (x : ℕ) (v : Variable) (vs : List Value) (st : State) → slice_get xs x ≡ Some v → result_slot (sizes_of p xs) ≤ length st
      → variable_made p x (Some v) (world_in (sizes_of p xs) m n vs st)
      ≡ world_in (sizes_of p xs) m n (made_contents p xs (count m.blocks) (Some v) vs) (made_state p xs (count m.blocks) x (Some v) vs st)
  made_one x v vs st e big =
      let integer = and_parts v.is_plain (are_one_integer v.layout.cells) (listed_integer xs all x v e) in
      let plainly : variable_made p x (Some v) (world_in (sizes_of p xs) m n vs st) ≡ plain_made p x v (world_in (sizes_of p xs) m n vs st) =
      ap (λ b. if b then plain_made p x v (world_in (sizes_of p xs) m n vs st) else block_made p x v (world_in (sizes_of p xs) m n vs st)) integer.0 in
      plainly ∙ made_by x (scalar_of v.layout.cells) (kind_of v) v.has_value vs st (cell_of_integer v.layout.cells integer.1) (found_below xs x v e) big

  made_any : (x : ℕ) (o : Option Variable) (vs : List Value) (st : State) → slice_get xs x ≡ o → result_slot (sizes_of p xs) ≤ length st
      → variable_made p x o (world_in (sizes_of p xs) m n vs st)
      ≡ world_in (sizes_of p xs) m n (made_contents p xs (count m.blocks) o vs) (made_state p xs (count m.blocks) x o vs st)
  made_any x None vs st e big = refl
  made_any x (Some v) vs st e big = made_one x v vs st e big

  made_length : (x : ℕ) (o : Option Variable) (vs : List Value) (st : State) → length (made_state p xs (count m.blocks) x o vs st) ≡ length st
  made_length x None vs st = refl
  made_length x (Some v) vs st = set_length ((sizes_of p xs).globals + x) (first_value p (count m.blocks) v vs) (first_flag v) st

  pub scope_length : (ys : List ℕ) (vs : List Value) (st : State) → length (scope_state p xs (count m.blocks) ys vs st) ≡ length st
  scope_length [] vs st = refl
  scope_length (x ∷ ys) vs st =
      scope_length ys (made_contents p xs (count m.blocks) (slice_get xs x) vs) (made_state p xs (count m.blocks) x (slice_get xs x) vs st) ∙ made_length x (slice_get xs x) vs st

  pub enters_scope : (ys : List ℕ) (vs : List Value) (st : State) → result_slot (sizes_of p xs) ≤ length st
      → entered p xs ys (world_in (sizes_of p xs) m n vs st)
      ≡ world_in (sizes_of p xs) m n (scope_contents p xs (count m.blocks) ys vs) (scope_state p xs (count m.blocks) ys vs st)
  enters_scope [] vs st big = refl
  enters_scope (x ∷ ys) vs st big =
      let h = made_length x (slice_get xs x) vs st in
      ap (entered p xs ys) (made_any x (slice_get xs x) vs st refl big)
      ∙ enters_scope ys (made_contents p xs (count m.blocks) (slice_get xs x) vs) (made_state p xs (count m.blocks) x (slice_get xs x) vs st) (omega (arith, h, big))

-- ---- a block is left

module _ (z : Sizes) (m : Memory) (n : ℕ) (vs : List Value) where
  pub leaves_variables : (ys : List ℕ) (st : State) → AllBelow z.locals ys → result_slot z ≤ length st
      → without_locals ys (world_in z m n vs st) ≡ world_in z m n vs (without_variables z ys st)
  leaves_variables [] st h big = refl
  leaves_variables (x ∷ ys) st h big =
      let e = set_length (z.globals + x) (pos 0) (pos 0) st in
      ap (without_locals ys) (local_world z m n vs st x (pos 0) (pos 0) false refl h.0 big)
      ∙ leaves_variables ys (with_variable (z.globals + x) (pos 0) (pos 0) st) h.1 (omega (arith, e, big))
