-- What annotations see of the file, its memories and its table, where slots hold it.
use Rattle.std.proofs.Common.{◌≡◌, ℕ, ℤ, pos, negsuc, Bool, true, false, if◌then◌else◌, List, ◌∷◌, Option, Some, None, slice_get, refl, sym, ap, ◌∙◌, subst}
use Rattle.std.proofs.lemmas.Bool.{false≢true}
use Rattle.wp_base.specs.declared.kinds.Kind.{Kind}
use Rattle.wp_base.specs.declared.kinds.CellKind.{CellKind}
use Rattle.wp_base.specs.declared.kinds.CellKind.TheVariants as cell
use Rattle.wp_base.specs.Blocks.{count}
use Rattle.c_kinds.specs.Models.{holds}
use Rattle.typed_prog.specs.declared.operators.Variable as code
use Rattle.typed_prog.specs.declared.operators.Variable.TheVariants as variables
use Rattle.acsl_trees.specs.Tree as acsl
use Rattle.qed_terms.specs.Memory.{load}
use Rattle.qed_terms.specs.Meaning as sense
use Rattle.qed_terms.specs.Meaning.{Values, meaning, value}
use Rattle.qed_terms.specs.Tree.{Tree, num}
use Rattle.c_runs.specs.TruthStates as labelled
use Rattle.c_runs.specs.TruthStates.{Value, number, pointer, number_of, block_of, offset_of, is_negative}
use Rattle.c_runs.specs.Program.{Variable, Facts}
use Rattle.c_runs.specs.States.{Memory, Local, seen_with, global_home}
use Rattle.c_runs.specs.Scopes.{is_content}
use Rattle.c_runs.specs.Entry.{leads_well}
use Rattle.typed_memories.specs.Cells.{Cells, numbers_by, pointers_by, Reads, IsShaped, typed, encoded}
use Rattle.typed_memories.proofs.Decoding.{loads_agree}
use Rattle.typed_memories.proofs.Formed.{formed_is_clean_and_in_range}
use Rattle.typed_memories.proofs.Stated.{formed_is_of_contents, well_formed_states_are_formed}
use Rattle.acsl_encode.specs.Readings.{Common, Slot, home, Pointer, at}
use Rattle.acsl_encode.specs.Meaning.{Holds, SlotStands, SeenStands, NumbersHeld, PointersHeld, HasAddress}
use Rattle.memory_steps.specs.State.{State}
use Rattle.memory_words.specs.Places.{Place, value as value_place, offset, numbers, blocks, offsets, memory_in, held, number_at}
use Rattle.memory_words.specs.Leaves.{leaves_of, table_leaf}
use Rattle.memory_words.specs.Shapes.{FileCells, Shape, sizes, kind_of}
use Rattle.memory_words.specs.Readings.{Texts, slot_of_kind, slot_of_any, leaf, memory_leaf, global_slot, if_there, hidden_if, hidden_block, common_of, seen_by}
use Rattle.memory_words.specs.Standing.{IsHeldAs, FileStands}
use Rattle.memory_words.proofs.Leaves.{leaves_are_held}
use Rattle.memory_words.proofs.Contents.{content_is, content_address, leads_address, open_address, hidden_cell, file_content}

-- ---- single slots

module _ (m : sense.World) (r : Common) (env : Values) (q : labelled.State) (x : code.Variable) (at_home : q.home x ≡ r.hidden x) where
  -- of a value of the kind
  pub kind_stands : (p : Facts) (n : ℤ) → r.model ≡ p.model → (k : CellKind) (t u : Tree) (v : Value) → q.cells (r.hidden x) (pos 0) ≡ v
      → IsHeldAs k v (value m env t) (value m env u) → is_content p n k v ≡ true → SlotStands m r env x (slot_of_kind k t u) q
  kind_stands p n model (cell.Of k) t u v same is fits = (
    at_home,
    (same ∙ is, subst (λ d. holds d k (value m env t) ≡ true) (sym model) (sym (ap (is_content p n (cell.Of k)) is) ∙ fits)),
  )
  kind_stands p n model cell.Ptr t u v same is fits =
      (at_home, (same ∙ is, content_address p n (value m env t) (value m env u) (sym (ap (is_content p n cell.Ptr) is) ∙ fits)))

  -- and of any value that leads well
  pub any_stands : (k : CellKind) (t u : Tree) (v : Value) → q.cells (r.hidden x) (pos 0) ≡ v → IsHeldAs k v (value m env t) (value m env u) → leads_well v ≡ true
      → SlotStands m r env x (slot_of_any k t u) q
  any_stands (cell.Of k) t u v same is leads = (at_home, (same ∙ is, tt))
  any_stands cell.Ptr t u v same is leads = (at_home, (same ∙ is, leads_address (value m env t) (value m env u) (sym (ap leads_well is) ∙ leads)))

pub held_same : (k : CellKind) (v : Value) (x y x' y' : ℤ) → x' ≡ x → y' ≡ y → IsHeldAs k v x y → IsHeldAs k v x' y'
held_same k v x y x' y' first second h = subst (λ z. IsHeldAs k v z y') (sym first) (subst (λ z. IsHeldAs k v x z) (sym second) h)

-- what is there stands
pub holds_if : {X : Type 0} (P : X → Type 0) (p : Facts) (s : Shape) (cells : FileCells) (b : Bool) (x : X) → (b ≡ true → P x) → Holds P (if_there p s cells b x)
holds_if P p s cells true x h = h refl
holds_if P p s cells false x h = tt

-- ---- files

module _ (m : sense.World) (p : Facts) (s : Shape) (cells : FileCells) (texts : Texts) (mem : Memory) (ls : ℕ → Local) (st : State) (file : FileStands p s cells mem st)
    (olds : List State) (a : acsl.Tree) where
  abbrev r : Common
  r = common_of p s cells texts a

  abbrev env : Values
  env = leaves_of (st ∷ olds)

  abbrev q : labelled.State
  q = seen_with p ls mem

  abbrev n : ℤ
  n = count mem.blocks

  pub leaf_is : (a : Place) → value m env (leaf p s cells 0 a) ≡ number_at (sizes p s) st a
  leaf_is a = (leaves_are_held m (st ∷ olds) 0).number (sizes p s) a

  pub both_leaves : (k : CellKind) (v : Value) (a b : Place) → IsHeldAs k v (number_at (sizes p s) st a) (number_at (sizes p s) st b)
      → IsHeldAs k v (value m env (leaf p s cells 0 a)) (value m env (leaf p s cells 0 b))
  both_leaves k v a b h =
      held_same k v (number_at (sizes p s) st a) (number_at (sizes p s) st b) (value m env (leaf p s cells 0 a)) (value m env (leaf p s cells 0 b)) (leaf_is a) (leaf_is b) h

  -- leaves of a variable
  abbrev value_leaf : code.Variable → Tree
  value_leaf x = leaf p s cells 0 (value_place x)

  abbrev offset_leaf : code.Variable → Tree
  offset_leaf x = leaf p s cells 0 (offset x)

  -- ---- variables of the file

  pub global_seen : (x : ℕ) (o : Option Variable) → slice_get p.globals x ≡ o → SlotStands m r env (variables.Global x) (global_slot p s cells 0 x o) q
  global_seen x (Some v) e = by v.is_plain refl
    where
      hides : v.is_plain ≡ true → hidden_block p s cells (variables.Global x) ≡ global_home p x
      hides is = ap (λ o. hidden_if p s cells o (global_home p x) (negsuc x)) e ∙ ap (λ b. if b then global_home p x else negsuc x) is

      by : (b : Bool) → v.is_plain ≡ b
          → SlotStands m r env (variables.Global x) (if b then slot_of_kind (kind_of v) (value_leaf (variables.Global x)) (offset_leaf (variables.Global x))
          else home (num (global_home p x))) q
      by true is =
          kind_stands m r env q (variables.Global x) (sym (hides is)) p n refl (kind_of v)
          (value_leaf (variables.Global x)) (offset_leaf (variables.Global x)) (mem.cells (global_home p x) (pos 0))
          (ap (λ b. q.cells b (pos 0)) (hides is) ∙ hidden_cell p x v e is ls mem.cells)
          (both_leaves (kind_of v) (mem.cells (global_home p x) (pos 0)) (value_place (variables.Global x)) (offset (variables.Global x)) (file.globals x v e is))
          (file_content p x v e mem file.good is)
      by false is = (refl, open_address p x v e is)
  global_seen x None e = tt

  -- ---- memories

  shaped : IsShaped mem
  shaped = (well_formed_states_are_formed p mem (typed (encoded mem))).shaped file.good.well

  -- what reads the memory holds values of the kind
  content_read : (k : CellKind) (g : Cells) → Reads mem k g → (b o : ℤ) → is_content p n k (g b o) ≡ true
  content_read k g reads b o =
      (formed_is_clean_and_in_range p mem.blocks k g b o).value
      ((formed_is_of_contents p mem k g shaped reads).1
      (λ b o so. content_is p mem.blocks k (mem.cells b o) (file.good.well.cells k b o so) (file.good.pointers b o)) b o)

  held_read : (k : CellKind) (g : Cells) → Reads mem k g → (b o : ℤ) → HasAddress b → labelled.held k q b o ≡ g b o
  held_read k g reads (pos i) o address = sym ((loads_agree mem k g shaped).annotation reads p ls i o)
  held_read k g reads (negsuc i) o address = absurd (false≢true (sym address))

  list_is : (a : Place) → sense.memory (meaning m env (memory_leaf p s cells 0 a)) ≡ memory_in (held (sizes p s) st a)
  list_is a = (leaves_are_held m (st ∷ olds) 0).memory (sizes p s) a

  numbers_seen : (k : Kind) → cells.has_kind (cell.Of k) ≡ true → NumbersHeld p.model k (sense.memory (meaning m env (memory_leaf p s cells 0 (numbers k)))) q
  numbers_seen k has =
      let g = file.numbers_are k has in
      subst (λ l. NumbersHeld p.model k l q) (sym (list_is (numbers k) ∙ ap memory_in g.same))
      (λ b o address. record {
        number = held_read (cell.Of k) (numbers_by (load g.list)) g.reads b o address;
        kind = content_read (cell.Of k) (numbers_by (load g.list)) g.reads b o;
      })

  pointers_seen : cells.has_kind cell.Ptr ≡ true
      → PointersHeld (sense.memory (meaning m env (memory_leaf p s cells 0 blocks))) (sense.memory (meaning m env (memory_leaf p s cells 0 offsets))) q
  pointers_seen has =
      let g = file.pointers_are has in
      subst (λ l. PointersHeld l (sense.memory (meaning m env (memory_leaf p s cells 0 offsets))) q) (sym (list_is blocks ∙ ap memory_in g.same_blocks))
      (subst (λ l. PointersHeld g.block_list l q) (sym (list_is offsets ∙ ap memory_in g.same_offsets))
      (λ b o address. record {
        pointer = held_read cell.Ptr (pointers_by (load g.block_list) (load g.offset_list)) g.reads b o address;
        address = content_address p n (load g.block_list b o) (load g.offset_list b o)
            (content_read cell.Ptr (pointers_by (load g.block_list) (load g.offset_list)) g.reads b o);
      }))

  -- the table, the memories and these variables
  abbrev IsTable : Tree → Type 0
  IsTable t = sense.table (meaning m env t) ≡ q.blocks

  abbrev HasNumbers : Kind → Tree → Type 0
  HasNumbers k t = NumbersHeld p.model k (sense.memory (meaning m env t)) q

  abbrev HasPointers : Pointer → Type 0
  HasPointers x = PointersHeld (sense.memory (meaning m env x.block)) (sense.memory (meaning m env x.offset)) q

  pub all_seen : (f : code.Variable → Slot) → ((x : code.Variable) → SlotStands m r env x (f x) q) → SeenStands m r env (seen_by p s cells 0 f) q
  all_seen f each = record {
    variables = each;
    table = holds_if IsTable p s cells cells.has_blocks (table_leaf 0) (λ there. (leaves_are_held m (st ∷ olds) 0).table ∙ file.table_is there);
    numbers = λ k. holds_if (HasNumbers k) p s cells (cells.has_kind (cell.Of k)) (memory_leaf p s cells 0 (numbers k)) (numbers_seen k);
    pointers = holds_if HasPointers p s cells (cells.has_kind cell.Ptr) (at (memory_leaf p s cells 0 blocks) (memory_leaf p s cells 0 offsets)) pointers_seen;
  }
