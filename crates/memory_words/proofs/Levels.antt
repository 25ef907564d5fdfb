-- What is seen of a level is what is seen of its state by itself: the leaves of both have the same values.
use Rattle.std.proofs.Common.{◌≡◌, ℕ, pos, Bool, true, false, if◌then◌else◌, List, [], ◌∷◌, Option, Some, None, slice_get, sym, ◌∙◌, subst}
use Rattle.wp_base.specs.declared.kinds.Kind.{Kind}
use Rattle.wp_base.specs.declared.kinds.CellKind.{CellKind}
use Rattle.wp_base.specs.declared.kinds.CellKind.TheVariants as cell
use Rattle.typed_prog.specs.declared.operators.Variable as code
use Rattle.typed_prog.specs.declared.operators.Variable.TheVariants as variables
use Rattle.acsl_trees.specs.Tree as acsl
use Rattle.qed_terms.specs.Meaning as sense
use Rattle.qed_terms.specs.Meaning.{Values, meaning, value}
use Rattle.qed_terms.specs.Tree.{Tree, num}
use Rattle.c_runs.specs.TruthStates as labelled
use Rattle.c_runs.specs.TruthStates.{number, pointer}
use Rattle.c_runs.specs.Program.{Variable, Facts}
use Rattle.c_runs.specs.States.{global_home}
use Rattle.acsl_encode.specs.Readings.{Common, Slot, home, absent, Pointer, at}
use Rattle.acsl_encode.specs.Meaning.{Holds, IsOfKind, HasAddress, SlotStands, SeenStands, NumbersHeld, PointersHeld}
use Rattle.walk_steps.specs.State.{at_or}
use Rattle.memory_steps.specs.State.{State, state}
use Rattle.memory_words.specs.Places.{Place, value as value_place, offset, numbers, blocks, offsets}
use Rattle.memory_words.specs.Leaves.{leaves_of, table_leaf}
use Rattle.memory_words.specs.Shapes.{FileCells, Shape, sizes, kind_of}
use Rattle.memory_words.specs.Readings.{InScope, Texts, slot_of_kind, slot_of_any, leaf, memory_leaf, global_slot, local_slot, param_slot, body_slot, contract_slot, if_there, common_of, seen_by}
use Rattle.memory_words.specs.ReadingLaws.{LevelsAre, LevelsAreStates}
use Rattle.memory_words.proofs.Leaves.{leaves_are_held}

module _ (m : sense.World) (p : Facts) (s : Shape) (cells : FileCells) (r : Common) (q : labelled.State) (old new : Values) where
  -- terms of integers, of memories and of tables with the same values
  abbrev Same : (t u : Tree) → Type 0
  Same t u = value m old t ≡ value m new u

  abbrev SameMemory : (t u : Tree) → Type 0
  SameMemory t u = sense.memory (meaning m old t) ≡ sense.memory (meaning m new u)

  abbrev SameTable : (t u : Tree) → Type 0
  SameTable t u = sense.table (meaning m old t) ≡ sense.table (meaning m new u)

  -- ---- single slots

  kind_moves : (x : code.Variable) (k : CellKind) (t u t' u' : Tree) → Same t t' → Same u u' → SlotStands m r old x (slot_of_kind k t u) q → SlotStands m r new x (slot_of_kind k t' u') q
  kind_moves x (cell.Of k) t u t' u' first second h = (h.0, subst (λ z. (q.cells (r.hidden x) (pos 0) ≡ number z) × IsOfKind r.model (Some k) z) first h.1)
  kind_moves x cell.Ptr t u t' u' first second h = (
    h.0,
    subst (λ z. (q.cells (r.hidden x) (pos 0) ≡ pointer z (value m new u')) × HasAddress z) first
        (subst (λ z. (q.cells (r.hidden x) (pos 0) ≡ pointer (value m old t) z) × HasAddress (value m old t)) second h.1),
  )

  any_moves : (x : code.Variable) (k : CellKind) (t u t' u' : Tree) → Same t t' → Same u u' → SlotStands m r old x (slot_of_any k t u) q → SlotStands m r new x (slot_of_any k t' u') q
  any_moves x (cell.Of k) t u t' u' first second h = (h.0, subst (λ z. (q.cells (r.hidden x) (pos 0) ≡ number z) × IsOfKind r.model None z) first h.1)
  any_moves x cell.Ptr t u t' u' first second h = kind_moves x cell.Ptr t u t' u' first second h

  home_moves : (x : code.Variable) (t t' : Tree) → Same t t' → SlotStands m r old x (home t) q → SlotStands m r new x (home t') q
  home_moves x t t' same h = subst (λ z. (q.home x ≡ z) × HasAddress z) same h

  -- leaves of a variable
  abbrev value_leaf : (l : ℕ) → code.Variable → Tree
  value_leaf l x = leaf p s cells l (value_place x)

  abbrev offset_leaf : (l : ℕ) → code.Variable → Tree
  offset_leaf l x = leaf p s cells l (offset x)

  -- ---- variables, from one level to another one

  module _ (g l : ℕ) (same : (a : Place) → Same (leaf p s cells g a) (leaf p s cells l a)) where
    global_moves : (x : ℕ) (o : Option Variable) → SlotStands m r old (variables.Global x) (global_slot p s cells g x o) q
        → SlotStands m r new (variables.Global x) (global_slot p s cells l x o) q
    global_moves x (Some v) h = by v.is_plain h
      where
        by : (b : Bool) → SlotStands m r old (variables.Global x)
            (if b then slot_of_kind (kind_of v) (value_leaf g (variables.Global x)) (offset_leaf g (variables.Global x)) else home (num (global_home p x))) q
            → SlotStands m r new (variables.Global x)
            (if b then slot_of_kind (kind_of v) (value_leaf l (variables.Global x)) (offset_leaf l (variables.Global x)) else home (num (global_home p x))) q
        by true h = kind_moves (variables.Global x) (kind_of v) _ _ _ _ (same (value_place (variables.Global x))) (same (offset (variables.Global x))) h
        by false h = h
    global_moves x None h = tt

    param_moves : (x : ℕ) (o : Option Variable) → SlotStands m r old (variables.Local x) (param_slot p s cells g x o) q
        → SlotStands m r new (variables.Local x) (param_slot p s cells l x o) q
    param_moves x (Some v) h = kind_moves (variables.Local x) (kind_of v) _ _ _ _ (same (value_place (variables.Local x))) (same (offset (variables.Local x))) h
    param_moves x None h = tt

    local_moves : (x : ℕ) (o : Option Variable) → SlotStands m r old (variables.Local x) (local_slot p s cells g x o) q
        → SlotStands m r new (variables.Local x) (local_slot p s cells l x o) q
    local_moves x (Some v) h = by v.is_plain v.has_value h
      where
        by : (b d : Bool) → SlotStands m r old (variables.Local x)
            (if b then (if d then slot_of_kind (kind_of v) (value_leaf g (variables.Local x)) (offset_leaf g (variables.Local x))
            else slot_of_any (kind_of v) (value_leaf g (variables.Local x)) (offset_leaf g (variables.Local x))) else home (value_leaf g (variables.Local x))) q
            → SlotStands m r new (variables.Local x)
            (if b then (if d then slot_of_kind (kind_of v) (value_leaf l (variables.Local x)) (offset_leaf l (variables.Local x))
            else slot_of_any (kind_of v) (value_leaf l (variables.Local x)) (offset_leaf l (variables.Local x))) else home (value_leaf l (variables.Local x))) q
        by true true h = kind_moves (variables.Local x) (kind_of v) _ _ _ _ (same (value_place (variables.Local x))) (same (offset (variables.Local x))) h
        by true false h = any_moves (variables.Local x) (kind_of v) _ _ _ _ (same (value_place (variables.Local x))) (same (offset (variables.Local x))) h
        by false d h = home_moves (variables.Local x) (value_leaf g (variables.Local x)) (value_leaf l (variables.Local x)) (same (value_place (variables.Local x))) h
    local_moves x None h = tt

    body_moves : (i : InScope) (x : code.Variable) → SlotStands m r old x (body_slot p s cells g i x) q → SlotStands m r new x (body_slot p s cells l i x) q
    body_moves i (variables.Global x) h = global_moves x (slice_get p.globals x) h
    body_moves i (variables.Local x) h = by (i x) h
      where
        by : (b : Bool) → SlotStands m r old (variables.Local x) (if b then local_slot p s cells g x (slice_get s.variables x) else absent) q
            → SlotStands m r new (variables.Local x) (if b then local_slot p s cells l x (slice_get s.variables x) else absent) q
        by true h = local_moves x (slice_get s.variables x) h
        by false h = tt

  -- the file's variables in one state, and the parameters in another one
  contract_moves : (g l g' l' : ℕ) (file : (a : Place) → Same (leaf p s cells g a) (leaf p s cells g' a)) (params : (a : Place) → Same (leaf p s cells l a) (leaf p s cells l' a))
      (i : InScope) (x : code.Variable) → SlotStands m r old x (contract_slot p s cells g l i x) q → SlotStands m r new x (contract_slot p s cells g' l' i x) q
  contract_moves g l g' l' file params i (variables.Global x) h = global_moves g g' file x (slice_get p.globals x) h
  contract_moves g l g' l' file params i (variables.Local x) h = by (i x) h
    where
      by : (b : Bool) → SlotStands m r old (variables.Local x) (if b then param_slot p s cells l x (slice_get s.variables x) else absent) q
          → SlotStands m r new (variables.Local x) (if b then param_slot p s cells l' x (slice_get s.variables x) else absent) q
      by true h = param_moves l l' params x (slice_get s.variables x) h
      by false h = tt

  -- ---- what is seen of a level

  there_moves : {X : Type 0} (P Q : X → Type 0) (b : Bool) (x y : X) → (P x → Q y) → Holds P (if_there p s cells b x) → Holds Q (if_there p s cells b y)
  there_moves P Q true x y f h = f h
  there_moves P Q false x y f h = tt

  abbrev NumbersIn : Values → Kind → Tree → Type 0
  NumbersIn env k t = NumbersHeld r.model k (sense.memory (meaning m env t)) q

  abbrev PointersIn : Values → Pointer → Type 0
  PointersIn env x = PointersHeld (sense.memory (meaning m env x.block)) (sense.memory (meaning m env x.offset)) q

  seen_moves : (g l : ℕ) (f f' : code.Variable → Slot) → ((x : code.Variable) → SlotStands m r old x (f x) q → SlotStands m r new x (f' x) q)
      → SameTable (table_leaf g) (table_leaf l) → ((a : Place) → SameMemory (memory_leaf p s cells g a) (memory_leaf p s cells l a))
      → SeenStands m r old (seen_by p s cells g f) q → SeenStands m r new (seen_by p s cells l f') q
  seen_moves g l f f' slots same_table same h = record {
    variables = λ x. slots x (h.variables x);
    table = there_moves (λ t. sense.table (meaning m old t) ≡ q.blocks) (λ t. sense.table (meaning m new t) ≡ q.blocks) cells.has_blocks (table_leaf g) (table_leaf l)
        (λ e. sym same_table ∙ e) h.table;
    numbers = λ k. there_moves (NumbersIn old k) (NumbersIn new k) (cells.has_kind (cell.Of k)) (memory_leaf p s cells g (numbers k)) (memory_leaf p s cells l (numbers k))
        (λ e. subst (λ c. NumbersHeld r.model k c q) (same (numbers k)) e) (h.numbers k);
    pointers = there_moves (PointersIn old) (PointersIn new) (cells.has_kind cell.Ptr) (at (memory_leaf p s cells g blocks) (memory_leaf p s cells g offsets))
        (at (memory_leaf p s cells l blocks) (memory_leaf p s cells l offsets))
        (λ e. subst (λ c. PointersHeld c (sense.memory (meaning m new (memory_leaf p s cells l offsets))) q) (same blocks)
        (subst (λ c. PointersHeld (sense.memory (meaning m old (memory_leaf p s cells g blocks))) c q) (same offsets) e)) h.pointers;
  }

module _ (m : sense.World) (p : Facts) (s : Shape) (cells : FileCells) (texts : Texts) (sts : List State) (q : labelled.State) (a : acsl.Tree) where
  abbrev level : ℕ → State
  level l = at_or (state [] []) sts l

  pub levels_are : LevelsAre m p s cells texts sts q a
  levels_are = record {
    body = λ l i h. let alone = level l ∷ [] in
        seen_moves m p s cells (common_of p s cells texts a) q (leaves_of alone) (leaves_of sts) 0 l (body_slot p s cells 0 i) (body_slot p s cells l i)
        (body_moves m p s cells (common_of p s cells texts a) q (leaves_of alone) (leaves_of sts) 0 l (λ b. (leaves_are_held m alone 0).number (sizes p s) b ∙ sym ((leaves_are_held m sts l).number (sizes p s) b)) i)
        ((leaves_are_held m alone 0).table ∙ sym ((leaves_are_held m sts l).table))
        (λ b. (leaves_are_held m alone 0).memory (sizes p s) b ∙ sym ((leaves_are_held m sts l).memory (sizes p s) b)) (h a);
    contract = λ l e i h. let both = level l ∷ level e ∷ [] in
        seen_moves m p s cells (common_of p s cells texts a) q (leaves_of both) (leaves_of sts) 0 l (contract_slot p s cells 0 1 i) (contract_slot p s cells l e i)
        (contract_moves m p s cells (common_of p s cells texts a) q (leaves_of both) (leaves_of sts) 0 1 l e
        (λ b. (leaves_are_held m both 0).number (sizes p s) b ∙ sym ((leaves_are_held m sts l).number (sizes p s) b))
        (λ b. (leaves_are_held m both 1).number (sizes p s) b ∙ sym ((leaves_are_held m sts e).number (sizes p s) b)) i)
        ((leaves_are_held m both 0).table ∙ sym ((leaves_are_held m sts l).table))
        (λ b. (leaves_are_held m both 0).memory (sizes p s) b ∙ sym ((leaves_are_held m sts l).memory (sizes p s) b)) (h a);
  }

pub levels_are_states : LevelsAreStates
levels_are_states m p s cells texts sts q a = levels_are m p s cells texts sts q a
