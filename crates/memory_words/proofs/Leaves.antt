-- Leaves by the numbers in their names: of a level, and of a slot.
use Rattle.std.proofs.Common.{◌≡◌, ℕ, zero, suc, true, false, not, ◌||◌, if◌then◌else◌, pos, List, [], ◌∷◌, map, refl, sym, ap, ◌∙◌}
use Rattle.std.specs.List.{list_any}
use Rattle.std.specs.Str.{bytes_eq}
use Rattle.qed_terms.specs.declared.head.Sort.TheVariants as sort
use Rattle.qed_terms.specs.declared.head.Head.TheVariants as h
use Rattle.qed_terms.specs.Tree.{node, stop, num}
use Rattle.walk_steps.specs.State.{at_or}
use Rattle.walk_steps.proofs.Lists.{at_map}
use Rattle.memory_steps.specs.State.{State, nothing}
use Rattle.memory_steps.specs.Forms.{Slots}
use Rattle.memory_words.specs.Places.{Place, Sizes, slot, number_in, memory_in}
use Rattle.memory_words.specs.Leaves.{after_as, leaf_name, leaf, memory_leaf, table_leaf, item_named, slot_named, level_named, is_marked, as_integer, as_memory, as_table, terms_in, tables_in, fill, is_closed}
use Rattle.memory_words.specs.SlotLaws.{no_state, LeavesAreHeld}

-- ---- names

as_unmarked : (n : ℕ) (bytes : List ℕ) → is_marked bytes ≡ false → is_marked (after_as n bytes) ≡ false
as_unmarked zero bytes e = e
as_unmarked (suc n) bytes e = as_unmarked n bytes e

pub leaf_unmarked : (l i : ℕ) → is_marked (leaf_name l i) ≡ false
unfolding leaf_name
leaf_unmarked l i = as_unmarked l (98 ∷ after_as i []) (as_unmarked i [] refl)

item_numbered : {X : Type 0} (d : X) (xs : List X) (i : ℕ) → item_named d xs (after_as i []) ≡ at_or d xs i
item_numbered d [] i = refl
item_numbered d (x ∷ xs) zero = refl
item_numbered d (x ∷ xs) (suc i) = item_numbered d xs i

slot_numbered : {X : Type 0} (d : X) (xss : List (List X)) (l i : ℕ) → slot_named d xss (after_as l (98 ∷ after_as i [])) ≡ at_or d (at_or [] xss l) i
slot_numbered d [] l i = refl
slot_numbered d (xs ∷ xss) zero i = item_numbered d xs i
slot_numbered d (xs ∷ xss) (suc l) i = slot_numbered d xss l i

level_numbered : {X : Type 0} (d : X) (xs : List X) (l : ℕ) (name : List ℕ) → level_named d xs (after_as l (98 ∷ name)) ≡ at_or d xs l
level_numbered d [] l name = refl
level_numbered d (x ∷ xs) zero name = refl
level_numbered d (x ∷ xs) (suc l) name = level_numbered d xs l name

pub slot_of_leaf : {X : Type 0} (d : X) (xss : List (List X)) (l i : ℕ) → slot_named d xss (leaf_name l i) ≡ at_or d (at_or [] xss l) i
unfolding leaf_name
slot_of_leaf d xss l i = slot_numbered d xss l i

pub level_of_leaf : {X : Type 0} (d : X) (xs : List X) (l i : ℕ) → level_named d xs (leaf_name l i) ≡ at_or d xs l
unfolding leaf_name
level_of_leaf d xs l i = level_numbered d xs l (after_as i [])

-- ---- told

module _ (sts : List State) (l : ℕ) where
  slots_at : at_or [] (map (λ (st : State). st.slots) sts) l ≡ (at_or no_state sts l).slots
  slots_at = sym (at_map (λ (st : State). st.slots) no_state sts l)

  told_at : (i : ℕ) → slot_named nothing (map (λ (st : State). st.slots) sts) (leaf_name l i) ≡ at_or nothing (at_or no_state sts l).slots i
  told_at i = slot_of_leaf nothing (map (λ (st : State). st.slots) sts) l i ∙ ap (λ ds. at_or nothing ds i) slots_at

pub leaves_are_held : LeavesAreHeld
leaves_are_held m sts l = record {
  number = λ z a. ap number_in (told_at sts l (slot z a));
  memory = λ z a. ap memory_in (told_at sts l (slot z a));
  table = level_of_leaf [] (map (λ (st : State). st.table) sts) l 0 ∙ sym (at_map (λ (st : State). st.table) no_state sts l);
}

-- ---- written

pub written_leaf : (ss : List Slots) (z : Sizes) (l : ℕ) (a : Place) → fill ss (leaf z l a) ≡ as_integer (at_or (num (pos 0)) (at_or [] (terms_in ss) l) (slot z a))
written_leaf ss z l a =
    ap (λ t. if t then node (h.Var (leaf_name l (slot z a)) sort.Int) stop else as_integer (slot_named (num (pos 0)) (terms_in ss) (leaf_name l (slot z a))))
    (leaf_unmarked l (slot z a))
    ∙ ap as_integer (slot_of_leaf (num (pos 0)) (terms_in ss) l (slot z a))

pub written_memory_leaf : (ss : List Slots) (z : Sizes) (l : ℕ) (a : Place)
    → fill ss (memory_leaf z l a) ≡ as_memory (at_or (num (pos 0)) (at_or [] (terms_in ss) l) (slot z a))
written_memory_leaf ss z l a = ap as_memory (slot_of_leaf (num (pos 0)) (terms_in ss) l (slot z a))

pub written_table_leaf : (ss : List Slots) (l : ℕ) → fill ss (table_leaf l) ≡ as_table (at_or (num (pos 0)) (tables_in ss) l)
written_table_leaf ss l = ap as_table (level_of_leaf (num (pos 0)) (tables_in ss) l 0)

-- a leaf may stand wherever a term may
pub leaf_closed : (xs : List (List ℕ)) (z : Sizes) (l : ℕ) (a : Place) → is_closed xs (leaf z l a) ≡ true
leaf_closed xs z l a = ap (λ t. not t || list_any (bytes_eq (leaf_name l (slot z a))) xs) (leaf_unmarked l (slot z a))
