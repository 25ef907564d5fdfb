-- What is kept where places are put, and what the term of a store is told to be.
use Rattle.std.proofs.Common.{◌≡◌, ℕ, true, false, ◌&&◌, ℤ, List, [], ◌∷◌, length, refl, sym, ap, ◌∙◌, subst}
use Rattle.std.proofs.lemmas.Bool.{false≢true}
use Rattle.wp_base.specs.declared.kinds.CellKind.TheVariants as cell
use Rattle.qed_terms.specs.Meaning as sense
use Rattle.qed_terms.specs.Meaning.{meaning}
use Rattle.qed_terms.specs.Memory.{store}
use Rattle.qed_terms.specs.Tree.{Tree}
use Rattle.same_memories.specs.Canonical.{canonical}
use Rattle.value_terms.specs.Readings.{Term, block_term, offset_term}
use Rattle.memory_steps.specs.State.{Datum, HasSort, cells as memory_datum, State, state}
use Rattle.walk_steps.specs.State.{at_or}
use Rattle.memory_words.specs.Places.{Place, Sizes, IsIn, slots_in, held, number_at, memory_at, with_held}
use Rattle.memory_words.specs.Leaves.{leaf, memory_leaf, leaves_of, or_false, is_closed, closed}
use Rattle.memory_words.proofs.Leaves.{leaf_closed, leaves_are_held}
use Rattle.memory_words.proofs.Holding.{puts_are_held}
use Rattle.memory_words.specs.Standing.{Temporaries}
use Rattle.memory_words.proofs.Sorts.{held_sorted}
use Rattle.memory_words.specs.Words.{store_of}
use Rattle.memory_words.specs.Puts.{counts, Keeps, NoPlace, first_value, second_value}
use Rattle.memory_statements.specs.Stored.{SpareChanged}

-- ---- what is kept

module _ (z : Sizes) (g : Temporaries) (but : Place → Type 0) (old : State) where
  pub keeps_all : length old.slots ≡ slots_in z → Keeps z g but old old
  keeps_all size = record { size = size; table = refl; same = λ a there counts other. refl; sorted = λ a there was. was }

  -- where something is put at a place that doesn't count, or is one of these
  pub keeps_put : (mid : State) → Keeps z g but old mid → (a : Place) → IsIn z a → (counts g a ≡ true → but a) → (d : Datum)
      → (HasSort false (held z old a) → HasSort false d) → Keeps z g but old (with_held z a d mid)
  keeps_put mid keeps a there free d fits =
      let put = puts_are_held z a d mid there keeps.size in
      record {
        size = put.size ∙ keeps.size;
        table = keeps.table;
        same = λ b in_z counted other.
            put.elsewhere b in_z (λ e. other (subst but e (free (subst (λ a. counts g a ≡ true) (sym e) counted)))) ∙ keeps.same b in_z counted other;
        sorted = λ b in_z was. held_sorted z a d old mid b fits was (keeps.sorted b in_z was);
      }

-- ---- what a store is told to be

module _ (m : sense.World) (z : Sizes) (st : State) (olds : List State) (a : Term) (closed_block : is_closed [] (block_term a) ≡ true)
    (closed_offset : is_closed [] (offset_term a) ≡ true) (to from : Place) where
  abbrev stored : Tree
  stored = store_of m z (memory_leaf z 0 to) a (leaf z 0 from)

  stored_closed : is_closed [] stored ≡ true
  stored_closed = λ i. closed_block i && (closed_offset i && (leaf_closed [] z 0 from i && true))

  pub store_told : (b o x : ℤ) → first_value m (st ∷ olds) cell.Ptr a ≡ b → second_value m (st ∷ olds) cell.Ptr a ≡ o → number_at z st from ≡ x
      → memory_datum (canonical (sense.memory (meaning m (leaves_of (st ∷ olds)) (closed stored)))) ≡ memory_datum (canonical (store (memory_at z st to) b o x))
  store_told b o x first second third =
      let env = leaves_of (st ∷ olds) in
      let held = leaves_are_held m (st ∷ olds) 0 in
      let fb = ap (λ t. sense.value m env (or_false t (block_term a))) (sym closed_block) ∙ first in
      let fo = ap (λ t. sense.value m env (or_false t (offset_term a))) (sym closed_offset) ∙ second in
      ap (λ t. memory_datum (canonical (sense.memory (meaning m env (or_false t stored))))) stored_closed
      ∙ (λ i. memory_datum (canonical (store (held.memory z to i) (fb i) (fo i) ((held.number z from ∙ third) i))))

-- a leaf is what its place holds in the state of its level
pub leaf_told : (m : sense.World) (z : Sizes) (sts : List State) (l : ℕ) (a : Place)
    → sense.value m (leaves_of sts) (closed (leaf z l a)) ≡ number_at z (at_or (state [] []) sts l) a
leaf_told m z sts l a =
    ap (λ t. sense.value m (leaves_of sts) (or_false t (leaf z l a))) (leaf_closed [] z l a) ∙ (leaves_are_held m sts l).number z a

-- at a place that no expression reads
pub spare_put : (z : Sizes) (st mid : State) → SpareChanged z st mid → (a : Place) → IsIn z a → counts (λ n. true) a ≡ false → (d : Datum)
    → (HasSort false (held z st a) → HasSort false d) → SpareChanged z st (with_held z a d mid)
spare_put z st mid keeps a there free d fits = keeps_put z (λ n. true) NoPlace st mid keeps a there (λ e. false≢true (sym free ∙ e)) d fits
