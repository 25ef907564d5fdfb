-- Readings where one more state is remembered are those of the level before.
use Rattle.std.proofs.Common.{◌≡◌, ℕ, suc, Bool, true, false, ◌||◌, if◌then◌else◌, List, [], ◌∷◌, ◌++◌, Option, Some, None, refl, sym, ap, ap₂, ◌∙◌}
use Rattle.std.specs.Prelude.{◌==◌, slice_get}
use Rattle.std.specs.Option.{option_map}
use Rattle.wp_base.specs.declared.kinds.CellKind.{CellKind}
use Rattle.wp_base.specs.declared.kinds.CellKind.TheVariants as cell
use Rattle.typed_prog.specs.declared.operators.Variable as code
use Rattle.typed_prog.specs.declared.operators.Variable.TheVariants as variables
use Rattle.acsl_trees.specs.Tree as acsl
use Rattle.qed_terms.specs.Tree.{Tree, var, num}
use Rattle.c_runs.specs.Program.{Variable, Facts}
use Rattle.c_runs.specs.States.{global_home}
use Rattle.qed_terms.specs.Fresh.{numeral}
use Rattle.acsl_encode.specs.Readings.{Slot, home, absent, at}
use Rattle.acsl_encode.specs.Binders.{Spelled, spelled_at, bound_before, numbered, mark}
use Rattle.memory_words.specs.Places.{Place, value, offset, numbers, blocks, offsets, slot}
use Rattle.memory_words.specs.Leaves.{leaf_name, is_marked, table_leaf}
use Rattle.memory_words.proofs.Leaves.{leaf_unmarked}
use Rattle.memory_words.specs.Shapes.{FileCells, Shape, sizes, kind_of}
use Rattle.memory_words.specs.Readings.{InScope, Texts, Standpoint, leaf, memory_leaf, slot_of_kind, slot_of_any, global_slot, local_slot, param_slot, body_slot}
use Rattle.memory_words.specs.Readings.{contract_slot, if_there, seen_by, seen_in_body, seen_by_contract, seen_at_loop, body_reading, entry_reading}
use Rattle.memory_words.specs.Points.{later}
use Rattle.memory_statements.proofs.ShiftedTrees.{later_tree}
use Rattle.memory_statements.proofs.ShiftedHeads.{later_pointer, later_slot, later_seen, later_reading}

-- ---- names of binders

marked_from : (xs ys : List ℕ) → is_marked (xs ++ mark ∷ ys) ≡ true
marked_from [] ys = refl
marked_from (x ∷ xs) ys = ap (λ t. (x == 33) || t) (marked_from xs ys) ∙ by (x == 33) where
  by : (b : Bool) → b || true ≡ true
  by true = refl
  by false = refl

pub binders_marked : (names : Spelled) (n : ℕ) → is_marked (numbered names n) ≡ true
unfolding numbered
binders_marked names n = marked_from (spelled_at names n) (numeral (suc (bound_before names (spelled_at names n) n)))

-- ---- leaves

module _ (p : Facts) (s : Shape) (cells : FileCells) where
  later_leaf : (l : ℕ) (a : Place) → leaf p s cells (suc l) a ≡ later_tree (leaf p s cells l a)
  unfolding leaf_name
  later_leaf l a = sym (ap (λ t. var (if t then leaf_name l (slot (sizes p s) a) else 97 ∷ leaf_name l (slot (sizes p s) a))) (leaf_unmarked l (slot (sizes p s) a)))

  later_memory_leaf : (l : ℕ) (a : Place) → memory_leaf p s cells (suc l) a ≡ later_tree (memory_leaf p s cells l a)
  unfolding leaf_name
  later_memory_leaf l a = refl

pub later_table_leaf : (l : ℕ) → table_leaf (suc l) ≡ later_tree (table_leaf l)
unfolding leaf_name
later_table_leaf l = refl

-- ---- slots

later_of_kind : (k : CellKind) (t u : Tree) → slot_of_kind k (later_tree t) (later_tree u) ≡ later_slot (slot_of_kind k t u)
later_of_kind (cell.Of k) t u = refl
later_of_kind cell.Ptr t u = refl

later_of_any : (k : CellKind) (t u : Tree) → slot_of_any k (later_tree t) (later_tree u) ≡ later_slot (slot_of_any k t u)
later_of_any (cell.Of k) t u = refl
later_of_any cell.Ptr t u = refl

later_if : (b : Bool) (t u : Slot) → (if b then later_slot t else later_slot u) ≡ later_slot (if b then t else u)
later_if true t u = refl
later_if false t u = refl

module _ (p : Facts) (s : Shape) (cells : FileCells) where
  two_leaves : (k : CellKind) (l : ℕ) (a b : Place) → slot_of_kind k (leaf p s cells (suc l) a) (leaf p s cells (suc l) b) ≡ later_slot (slot_of_kind k (leaf p s cells l a) (leaf p s cells l b))
  two_leaves k l a b = ap₂ (slot_of_kind k) (later_leaf p s cells l a) (later_leaf p s cells l b) ∙ later_of_kind k (leaf p s cells l a) (leaf p s cells l b)

  any_leaves : (k : CellKind) (l : ℕ) (a b : Place) → slot_of_any k (leaf p s cells (suc l) a) (leaf p s cells (suc l) b) ≡ later_slot (slot_of_any k (leaf p s cells l a) (leaf p s cells l b))
  any_leaves k l a b = ap₂ (slot_of_any k) (later_leaf p s cells l a) (later_leaf p s cells l b) ∙ later_of_any k (leaf p s cells l a) (leaf p s cells l b)

  later_global : (l x : ℕ) (o : Option Variable) → global_slot p s cells (suc l) x o ≡ later_slot (global_slot p s cells l x o)
  later_global l x None = refl
  later_global l x (Some v) =
      ap (λ t. if v.is_plain then t else home (num (global_home p x))) (two_leaves (kind_of v) l (value (variables.Global x)) (offset (variables.Global x)))
      ∙ later_if v.is_plain (slot_of_kind (kind_of v) (leaf p s cells l (value (variables.Global x))) (leaf p s cells l (offset (variables.Global x)))) (home (num (global_home p x)))

  later_local : (l x : ℕ) (o : Option Variable) → local_slot p s cells (suc l) x o ≡ later_slot (local_slot p s cells l x o)
  later_local l x None = refl
  later_local l x (Some v) =
      let t = slot_of_kind (kind_of v) (leaf p s cells l (value (variables.Local x))) (leaf p s cells l (offset (variables.Local x))) in
      let u = slot_of_any (kind_of v) (leaf p s cells l (value (variables.Local x))) (leaf p s cells l (offset (variables.Local x))) in
      (λ i. if v.is_plain then (if v.has_value then two_leaves (kind_of v) l (value (variables.Local x)) (offset (variables.Local x)) i
      else any_leaves (kind_of v) l (value (variables.Local x)) (offset (variables.Local x)) i) else home (later_leaf p s cells l (value (variables.Local x)) i))
      ∙ ap (λ q. if v.is_plain then q else home (later_tree (leaf p s cells l (value (variables.Local x))))) (later_if v.has_value t u)
      ∙ later_if v.is_plain (if v.has_value then t else u) (home (leaf p s cells l (value (variables.Local x))))

  later_param : (l x : ℕ) (o : Option Variable) → param_slot p s cells (suc l) x o ≡ later_slot (param_slot p s cells l x o)
  later_param l x None = refl
  later_param l x (Some v) = two_leaves (kind_of v) l (value (variables.Local x)) (offset (variables.Local x))

  later_body_slot : (l : ℕ) (i : InScope) (x : code.Variable) → body_slot p s cells (suc l) i x ≡ later_slot (body_slot p s cells l i x)
  later_body_slot l i (variables.Global x) = later_global l x (slice_get p.globals x)
  later_body_slot l i (variables.Local x) =
      ap (λ t. if i x then t else absent) (later_local l x (slice_get s.variables x)) ∙ later_if (i x) (local_slot p s cells l x (slice_get s.variables x)) absent

  later_contract_slot : (g l : ℕ) (i : InScope) (x : code.Variable) → contract_slot p s cells (suc g) (suc l) i x ≡ later_slot (contract_slot p s cells g l i x)
  later_contract_slot g l i (variables.Global x) = later_global g x (slice_get p.globals x)
  later_contract_slot g l i (variables.Local x) =
      ap (λ t. if i x then t else absent) (later_param l x (slice_get s.variables x)) ∙ later_if (i x) (param_slot p s cells l x (slice_get s.variables x)) absent

  -- ---- what is seen

  later_there : {X : Type 0} (g : X → X) (b : Bool) (x : X) → if_there p s cells b (g x) ≡ option_map g (if_there p s cells b x)
  later_there g true x = refl
  later_there g false x = refl

  later_seen_by : (l : ℕ) (f f' : code.Variable → Slot) → ((x : code.Variable) → f' x ≡ later_slot (f x)) → seen_by p s cells (suc l) f' ≡ later_seen (seen_by p s cells l f)
  later_seen_by l f f' h =
      let table = ap (if_there p s cells cells.has_blocks) (later_table_leaf l) ∙ later_there later_tree cells.has_blocks (table_leaf l) in
      let lists : (k : _) → if_there p s cells (cells.has_kind (cell.Of k)) (memory_leaf p s cells (suc l) (numbers k))
      ≡ option_map later_tree (if_there p s cells (cells.has_kind (cell.Of k)) (memory_leaf p s cells l (numbers k))) =
      λ k. ap (if_there p s cells (cells.has_kind (cell.Of k))) (later_memory_leaf p s cells l (numbers k))
      ∙ later_there later_tree (cells.has_kind (cell.Of k)) (memory_leaf p s cells l (numbers k)) in
      let two = ap₂ (λ b o. if_there p s cells (cells.has_kind cell.Ptr) (at b o)) (later_memory_leaf p s cells l blocks) (later_memory_leaf p s cells l offsets)
      ∙ later_there later_pointer (cells.has_kind cell.Ptr) (at (memory_leaf p s cells l blocks) (memory_leaf p s cells l offsets)) in
      λ i. record { variable = λ x. h x i; table = table i; numbers = λ k. lists k i; pointers = two i }

  later_in_body : (l : ℕ) (i : InScope) → seen_in_body p s cells (suc l) i ≡ later_seen (seen_in_body p s cells l i)
  later_in_body l i = later_seen_by l (body_slot p s cells l i) (body_slot p s cells (suc l) i) (later_body_slot l i)

  later_by_contract : (g l : ℕ) (i : InScope) → seen_by_contract p s cells (suc g) (suc l) i ≡ later_seen (seen_by_contract p s cells g l i)
  later_by_contract g l i = later_seen_by g (contract_slot p s cells g l i) (contract_slot p s cells (suc g) (suc l) i) (later_contract_slot g l i)

  module _ (texts : Texts) (a : acsl.Tree) where
    later_at_loop : (sp : Standpoint) (o : Option ℕ) → seen_at_loop p s cells texts (later sp) (option_map suc o) ≡ later_seen (seen_at_loop p s cells texts sp o)
    later_at_loop sp (Some l) = later_in_body l sp.loop_scope
    later_at_loop sp None = later_by_contract sp.entry sp.entry sp.is_param

    pub later_body_reading : (sp : Standpoint) → body_reading p s cells texts (later sp) a ≡ later_reading (body_reading p s cells texts sp a)
    later_body_reading sp =
        let here = later_in_body sp.here sp.in_scope in
        let pre = later_by_contract sp.entry sp.entry sp.is_param in
        let loop = later_at_loop sp sp.loop_entry in
        λ i. record (body_reading p s cells texts sp a) { here = here i; pre = pre i; post = here i; loop_entry = loop i }

    pub later_entry_reading : (e : ℕ) (i : InScope) → entry_reading p s cells texts (suc e) i a ≡ later_reading (entry_reading p s cells texts e i a)
    later_entry_reading e i =
        let here = later_by_contract e e i in
        λ j. record (entry_reading p s cells texts e i a) { here = here j; pre = here j; post = here j; loop_entry = here j }
