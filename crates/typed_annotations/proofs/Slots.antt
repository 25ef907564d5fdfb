-- What stands for variables, memories and the table: closed terms of their sorts, of the sites that the variables tell.
use Rattle.std.proofs.Common.{◌≡◌, ℕ, suc, Bool, true, false, if◌then◌else◌, nat_lt, List, [], ◌∷◌, ◌++◌, ◌==◌, ◌||◌, Option, Some, None, is_some, slice_get, ℤ, refl}
use Rattle.wp_base.specs.declared.kinds.CellKind.{CellKind}
use Rattle.wp_base.specs.declared.kinds.CellKind.TheVariants as cell
use Rattle.typed_prog.specs.declared.operators.Variable as code
use Rattle.typed_prog.specs.declared.operators.Variable.TheVariants as variables
use Rattle.typed_prog.specs.Tree as t
use Rattle.qed_terms.specs.Fresh.{numeral}
use Rattle.qed_terms.specs.Tree.{num}
use Rattle.c_runs.specs.Program as program
use Rattle.c_runs.specs.Program.{Function, Facts}
use Rattle.c_runs.specs.States.{global_home}
use Rattle.c_runs.specs.Tree.{Steps}
use Rattle.acsl_encode.specs.Readings.{Slot, home, absent, Pointer, at}
use Rattle.acsl_encode.specs.Meaning.{Holds}
use Rattle.acsl_encode.specs.Binders.{Spelled, spelled_at, bound_before, numbered}
use Rattle.annotations_encoded.specs.Sights.{Site, has_block, unknown, site_of, value_given, has_memory, sight_of}
use Rattle.memory_words.specs.Places.{Place, value, offset, numbers, blocks, offsets}
use Rattle.memory_words.specs.Leaves.{table_leaf, is_marked}
use Rattle.memory_words.proofs.Leaves.{leaf_closed}
use Rattle.memory_words.specs.Shapes.{FileCells, Shape, sizes, kind_of}
use Rattle.memory_words.specs.Readings.{InScope, slot_of_kind, slot_of_any, terms_of_kind, leaf, memory_leaf, global_slot, local_slot, param_slot, body_slot, contract_slot, if_there, seen_by}
use Rattle.memory_calls.specs.Callee as callee
use Rattle.memory_calls.specs.Callee.{argument_slot, callee_slot}
use Rattle.memory_statements.proofs.Closed.{number_closed, block_closed, offset_closed}
use Rattle.leaf_annotations.specs.Closed.{IsClosed, TermsClosed, SlotClosed, SeenClosed}
use Rattle.leaf_annotations.specs.Sorted.{IsCells, TermsSorted, SlotSorted, SeenSorted}
use Rattle.typed_annotations.specs.Sights.{kind_site, any_site, file_site, local_site, param_site, body_site, contract_site, params_of, sight_by, result_given}
use Rattle.typed_annotations.proofs.Naming.{argument_closed, argument_number, argument_block, argument_offset}

-- ---- names of binders

mark_inside : (base rest : List ℕ) → is_marked (base ++ 33 ∷ rest) ≡ true
mark_inside [] rest = refl
mark_inside (b ∷ base) rest = by (b == 33) (mark_inside base rest) where
  by : (t : Bool) → is_marked (base ++ 33 ∷ rest) ≡ true → (t || is_marked (base ++ 33 ∷ rest)) ≡ true
  by true e = refl
  by false e = e

pub numbered_marked : (names : Spelled) (n : ℕ) → is_marked (numbered names n) ≡ true
unfolding numbered
numbered_marked names n = mark_inside (spelled_at names n) (numeral (suc (bound_before names (spelled_at names n) n)))

-- ---- slots

-- closed, of its sort, and of this site
pub record IsOpen (o : Slot) (z : Site) : Type 0 where
  pub closed : SlotClosed o
  pub sorted : SlotSorted o
  pub site : site_of o ≡ z

open_if : (b : Bool) (o o' : Slot) (z z' : Site) → IsOpen o z → IsOpen o' z' → IsOpen (if b then o else o') (if b then z else z')
open_if true o o' z z' h k = h
open_if false o o' z z' h k = k

nothing_open : IsOpen absent unknown
nothing_open = record { closed = tt; sorted = tt; site = refl }

module _ (p : Facts) (s : Shape) (cells : FileCells) where
  place_closed : (l : ℕ) (a : Place) → IsClosed [] (leaf p s cells l a)
  place_closed l a = leaf_closed [] (sizes p s) l a

  kind_open : (k : CellKind) (l : ℕ) (a b : Place) → IsOpen (slot_of_kind k (leaf p s cells l a) (leaf p s cells l b)) (kind_site k)
  kind_open (cell.Of k) l a b = record { closed = place_closed l a; sorted = λ q env. refl; site = refl }
  kind_open cell.Ptr l a b = record { closed = (place_closed l a, place_closed l b); sorted = ((λ q env. refl), (λ q env. refl)); site = refl }

  any_open : (k : CellKind) (l : ℕ) (a b : Place) → IsOpen (slot_of_any k (leaf p s cells l a) (leaf p s cells l b)) (any_site k)
  any_open (cell.Of k) l a b = record { closed = place_closed l a; sorted = λ q env. refl; site = refl }
  any_open cell.Ptr l a b = record { closed = (place_closed l a, place_closed l b); sorted = ((λ q env. refl), (λ q env. refl)); site = refl }

  number_open : (z : ℤ) → IsOpen (home (num z)) has_block
  number_open z = record { closed = refl; sorted = λ q env. refl; site = refl }

  home_open : (l : ℕ) (a : Place) → IsOpen (home (leaf p s cells l a)) has_block
  home_open l a = record { closed = place_closed l a; sorted = λ q env. refl; site = refl }

  file_open : (l x : ℕ) (o : Option program.Variable) → IsOpen (global_slot p s cells l x o) (file_site o)
  file_open l x (Some v) =
      open_if v.is_plain _ _ _ _ (kind_open (kind_of v) l (value (variables.Global x)) (offset (variables.Global x))) (number_open (global_home p x))
  file_open l x None = nothing_open

  local_open : (l x : ℕ) (o : Option program.Variable) → IsOpen (local_slot p s cells l x o) (local_site o)
  local_open l x (Some v) =
      open_if v.is_plain _ _ _ _
      (open_if v.has_value _ _ _ _ (kind_open (kind_of v) l (value (variables.Local x)) (offset (variables.Local x)))
      (any_open (kind_of v) l (value (variables.Local x)) (offset (variables.Local x))))
      (home_open l (value (variables.Local x)))
  local_open l x None = nothing_open

  param_open : (l x : ℕ) (o : Option program.Variable) → IsOpen (param_slot p s cells l x o) (param_site o)
  param_open l x (Some v) = kind_open (kind_of v) l (value (variables.Local x)) (offset (variables.Local x))
  param_open l x None = nothing_open

  pub body_open : (l : ℕ) (i : InScope) (x : code.Variable) → IsOpen (body_slot p s cells l i x) (body_site p s.variables i x)
  body_open l i (variables.Global x) = file_open l x (slice_get p.globals x)
  body_open l i (variables.Local x) = open_if (i x) _ _ _ _ (local_open l x (slice_get s.variables x)) nothing_open

  pub contract_open : (g l : ℕ) (i : InScope) (x : code.Variable) → IsOpen (contract_slot p s cells g l i x) (contract_site p s.variables i x)
  contract_open g l i (variables.Global x) = file_open g x (slice_get p.globals x)
  contract_open g l i (variables.Local x) = open_if (i x) _ _ _ _ (param_open l x (slice_get s.variables x)) nothing_open

  -- ---- a function that is called

  module _ (texts : _) (f : Function Steps) (es : t.Values) where
    argument_open : (l x : ℕ) (k : CellKind) → IsOpen (argument_slot k (callee.argument p s cells texts f es l x)) (kind_site k)
    argument_open l x (cell.Of k) = record {
      closed = number_closed (callee.argument p s cells texts f es l x) (argument_closed p s cells l es x);
      sorted = argument_number p s cells l es x;
      site = refl;
    }
    argument_open l x cell.Ptr = record {
      closed = (
        block_closed (callee.argument p s cells texts f es l x) (argument_closed p s cells l es x),
        offset_closed (callee.argument p s cells texts f es l x) (argument_closed p s cells l es x),
      );
      sorted = (argument_block p s cells l es x, argument_offset p s cells l es x);
      site = refl;
    }

    given_open : (l x : ℕ) (o : Option program.Variable) → IsOpen (callee.param_slot p s cells texts f es l x o) (param_site o)
    given_open l x (Some v) = argument_open l x (kind_of v)
    given_open l x None = nothing_open

    pub callee_open : (g l : ℕ) (x : code.Variable) → IsOpen (callee_slot p s cells texts f es g l x) (contract_site p f.variables (params_of f) x)
    callee_open g l (variables.Global x) = file_open g x (slice_get p.globals x)
    callee_open g l (variables.Local x) = open_if (nat_lt x f.params) _ _ _ _ (given_open l x (slice_get f.variables x)) nothing_open

  -- ---- states

  there_so : {X : Type 0} (P : X → Type 0) (b : Bool) (x : X) → P x → Holds P (if_there p s cells b x)
  there_so P true x h = h
  there_so P false x h = tt

  is_there : {X : Type 0} (b : Bool) (x : X) → is_some (if_there p s cells b x) ≡ b
  is_there true x = refl
  is_there false x = refl

  module _ (l : ℕ) (f : code.Variable → Slot) (z : code.Variable → Site) (h : (x : code.Variable) → IsOpen (f x) (z x)) where
    pub seen_closed : SeenClosed (seen_by p s cells l f)
    seen_closed = record {
      variables = λ x. (h x).closed;
      table = there_so _ cells.has_blocks (table_leaf l) refl;
      numbers = λ k. there_so _ (cells.has_kind (cell.Of k)) (memory_leaf p s cells l (numbers k)) refl;
      pointers = there_so _ (cells.has_kind cell.Ptr) (at (memory_leaf p s cells l blocks) (memory_leaf p s cells l offsets)) (refl, refl);
    }

    pub seen_sorted : SeenSorted (seen_by p s cells l f)
    seen_sorted = record {
      variables = λ x. (h x).sorted;
      numbers = λ k. there_so IsCells (cells.has_kind (cell.Of k)) (memory_leaf p s cells l (numbers k)) (λ q env. refl);
      pointers = there_so (λ (a : Pointer). IsCells a.block × IsCells a.offset) (cells.has_kind cell.Ptr) (at (memory_leaf p s cells l blocks) (memory_leaf p s cells l offsets))
          ((λ q env. refl), (λ q env. refl));
    }

    kinds_seen : (k : CellKind) → has_memory (seen_by p s cells l f) k ≡ cells.has_kind k
    kinds_seen (cell.Of k) = is_there (cells.has_kind (cell.Of k)) (memory_leaf p s cells l (numbers k))
    kinds_seen cell.Ptr = is_there (cells.has_kind cell.Ptr) (at (memory_leaf p s cells l blocks) (memory_leaf p s cells l offsets))

    pub seen_sight : sight_of (seen_by p s cells l f) ≡ sight_by cells z
    seen_sight = λ i. record {
      site = λ x. (h x).site i;
      has_table = is_there cells.has_blocks (table_leaf l) i;
      has_kind = λ k. kinds_seen k i;
    }

  -- ---- `\result`

  pub result_closed : (o : Option CellKind) (l : ℕ) (a b : Place) → TermsClosed [] (terms_of_kind o (leaf p s cells l a) (leaf p s cells l b))
  result_closed None l a b = tt
  result_closed (Some (cell.Of k)) l a b = place_closed l a
  result_closed (Some cell.Ptr) l a b = (place_closed l a, place_closed l b)

  pub result_sorted : (o : Option CellKind) (l : ℕ) (a b : Place) → TermsSorted (terms_of_kind o (leaf p s cells l a) (leaf p s cells l b))
  result_sorted None l a b = tt
  result_sorted (Some (cell.Of k)) l a b = λ q env. refl
  result_sorted (Some cell.Ptr) l a b = ((λ q env. refl), (λ q env. refl))

  pub result_is : (o : Option CellKind) (l : ℕ) (a b : Place) → value_given (terms_of_kind o (leaf p s cells l a) (leaf p s cells l b)) ≡ result_given o
  result_is None l a b = refl
  result_is (Some (cell.Of k)) l a b = refl
  result_is (Some cell.Ptr) l a b = refl
