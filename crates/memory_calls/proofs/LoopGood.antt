-- All forms and changes of the word of a loop are good.
use Rattle.std.proofs.Common.{◌≡◌, ℕ, zero, suc, Bool, true, false, ◌&&◌, List, [], ◌∷◌, ◌++◌, map, Option, Some, None, slice_get, refl, sym, ap, ◌∙◌}
use Rattle.std.specs.Prelude.{pos}
use Rattle.std.proofs.lemmas.Option.{same_Some}
use Rattle.wp_base.specs.declared.kinds.CellKind.{CellKind}
use Rattle.wp_base.specs.declared.kinds.CellKind.TheVariants as cell
use Rattle.typed_prog.specs.declared.operators.Variable.TheVariants as variables
use Rattle.qed_terms.specs.Meaning as sense
use Rattle.qed_terms.specs.Tree.{Tree, num, at_most, less}
use Rattle.same_memories.specs.Alike.{Respects}
use Rattle.c_runs.specs.Program.{Claim, Measure, Facts}
use Rattle.c_runs.specs.Claims as broken
use Rattle.walk_steps.specs.Forms.{Place as CheckPlace}
use Rattle.memory_steps.specs.State.{Base}
use Rattle.memory_steps.specs.Forms.{Check, forms, IsForm, AreForms, AreFacts}
use Rattle.memory_steps.specs.Step.{Change, sort_at, IsChange, AreChanges, IsGood}
use Rattle.memory_words.specs.Places.{Place, Sizes, value, offset, flag, result, result_offset, answer, answer_offset, temporary, temporary_offset, numbers, blocks, offsets, places, changes_by}
use Rattle.memory_words.specs.Leaves.{form, fact}
use Rattle.memory_words.proofs.Filling.{forms_are_good}
use Rattle.memory_words.proofs.SlotListing.{slots_of_places}
use Rattle.memory_words.specs.Shapes.{FileCells, Shape, sizes, is_memory}
use Rattle.memory_words.specs.Readings.{Texts}
use Rattle.memory_words.specs.Bases.{AreSorted}
use Rattle.memory_words.specs.Points.{Point}
use Rattle.memory_words.specs.Renewal.{Leave, number_facts, pointer_facts, changed_if, first_change as first_renewed, second_change as second_renewed, renewal}
use Rattle.memory_words.specs.Sets.{claim_tree}
use Rattle.memory_words.specs.Words.{check}
use Rattle.program_steps.specs.Stops.{broken_place}
use Rattle.memory_calls.specs.Havoc.{Havoc, range_facts, first_change, second_change, flag_change, kind_in, found, changes, change_of, grown_if, havoc_word}
use Rattle.memory_calls.specs.LoopSets.{inside_trees, turns}
use Rattle.memory_calls.specs.LoopWords.{stay_trees, head_tree, entry_check, kept_check, variant_checks, measure_tree, before_reading, end_reading}
use Rattle.memory_calls.specs.LoopLaws.{LoopsAreGood}

module _ (m : sense.World) (respects : Respects m) where
  good_form : (f : Tree) → IsForm m (form m f)
  good_form f = (forms_are_good m respects f).form

  facts_good : (fs : List Tree) → AreFacts m (map (fact m) fs)
  facts_good [] = tt
  facts_good (f ∷ fs) = ((forms_are_good m respects f).fact, facts_good fs)

  -- ---- changes by places

  item_sort : (bases : List Base) (i : ℕ) (b : Base) → slice_get bases i ≡ Some b → sort_at bases i ≡ b.is_memory
  item_sort [] i b e = absurd (none_some e) where
    none_some : {X : Type 0} {x : X} → None ≡ Some x → ⊥
    none_some e = cc
  item_sort (c ∷ bases) zero b e = ap (λ (b : Base). b.is_memory) (same_Some c b e)
  item_sort (c ∷ bases) (suc i) b e = item_sort bases i b e

  listed_good : (bases : List Base) (as_ : List Place) (f : Place → Change) → ((i : ℕ) (a : Place) (b : Base) → slice_get as_ i ≡ Some a → slice_get bases i ≡ Some b → IsChange m b (f a))
      → AreChanges m bases (map f as_)
  listed_good bases [] f h = tt
  listed_good [] (a ∷ as_) f h = tt
  listed_good (b ∷ bases) (a ∷ as_) f h = (h 0 a b refl refl, listed_good bases as_ f (λ i a b e k. h (suc i) a b e k))

  module _ (z : Sizes) (cells : FileCells) (bases : List Base) (sorted : AreSorted z cells bases) where
    -- flags are no memories
    abbrev Suits : (a : Place) → Change → Type 0
    Suits a k = (b : Base) → (is_memory cells a ≡ b.is_memory) → IsChange m b k

    by_good : (f : Place → Change) → ((a : Place) → Suits a (f a)) → AreChanges m bases (changes_by z f)
    by_good f h = listed_good bases (places z) f (λ i a b e k. let x = (slots_of_places z).back i a e in
        h a b (sym (sorted a x.0) ∙ ap (sort_at bases) x.1 ∙ item_sort bases i b k))

  module _ (p : Facts) (s : Shape) (cells : FileCells) (bases : List Base) (sorted : AreSorted (sizes p s) cells bases) where
    module _ (renewed : CellKind → Bool) (leave : Leave) where
      fresh_if : (b : Bool) (fs : List Tree) (c : Base) → IsChange m c (changed_if (sizes p s) renewed leave m b fs)
      fresh_if true fs c = facts_good fs
      fresh_if false fs c = tt

      first_good : (a : Place) → Suits (sizes p s) cells bases sorted a (first_renewed (sizes p s) renewed leave m a)
      first_good (value x) c e = tt
      first_good (offset x) c e = tt
      first_good (flag x) c e = tt
      first_good result c e = tt
      first_good result_offset c e = tt
      first_good answer c e = tt
      first_good answer_offset c e = tt
      first_good (temporary n) c e = tt
      first_good (temporary_offset n) c e = tt
      first_good (numbers k) c e = fresh_if (renewed (cell.Of k)) (number_facts (sizes p s) renewed leave k) c
      first_good blocks c e = fresh_if (renewed cell.Ptr) [] c
      first_good offsets c e = tt

      second_good : (a : Place) → Suits (sizes p s) cells bases sorted a (second_renewed (sizes p s) renewed leave m a)
      second_good (value x) c e = tt
      second_good (offset x) c e = tt
      second_good (flag x) c e = tt
      second_good result c e = tt
      second_good result_offset c e = tt
      second_good answer c e = tt
      second_good answer_offset c e = tt
      second_good (temporary n) c e = tt
      second_good (temporary_offset n) c e = tt
      second_good (numbers k) c e = tt
      second_good blocks c e = tt
      second_good offsets c e = fresh_if (renewed cell.Ptr) (pointer_facts (sizes p s) renewed leave) c

      renewal_good : IsGood m bases (renewal (sizes p s) renewed leave m)
      renewal_good = (
        by_good (sizes p s) cells bases sorted (first_renewed (sizes p s) renewed leave m) first_good,
        by_good (sizes p s) cells bases sorted (second_renewed (sizes p s) renewed leave m) second_good,
      )

    module _ (h : Havoc) where
      first_of : (b : Bool) (k : CellKind) (c : Base) → IsChange m c (first_change m p b k)
      first_of true k c = facts_good (range_facts p k)
      first_of false k c = tt

      second_of : (b : Bool) (k : CellKind) (c : Base) → IsChange m c (second_change m p b k)
      second_of true (cell.Of k) c = tt
      second_of true cell.Ptr c = tt
      second_of false k c = tt

      flag_of : (b : Bool) (c : Base) → false ≡ c.is_memory → IsChange m c (flag_change m p b)
      flag_of true c e = sym e
      flag_of false c e = tt

      change_good : (a : Place) → Suits (sizes p s) cells bases sorted a (change_of m p s cells h a)
      change_good (value x) c e = first_of (changes m p s cells h x) (kind_in (found m p s cells h x)) c
      change_good (offset x) c e = second_of (changes m p s cells h x) (kind_in (found m p s cells h x)) c
      change_good (flag (variables.Global x)) c e = tt
      change_good (flag (variables.Local x)) c e = flag_of (changes m p s cells h (variables.Local x)) c e
      change_good result c e = tt
      change_good result_offset c e = tt
      change_good answer c e = tt
      change_good answer_offset c e = tt
      change_good (temporary n) c e = tt
      change_good (temporary_offset n) c e = tt
      change_good (numbers k) c e = tt
      change_good blocks c e = tt
      change_good offsets c e = tt

      grown_good : (b : Bool) → IsGood m bases (grown_if m p s cells h b)
      grown_good true = tt
      grown_good false = tt

      pub havoc_good : IsGood m bases (havoc_word m p s cells h)
      havoc_good = (
        grown_good cells.has_blocks,
        (by_good (sizes p s) cells bases sorted (change_of m p s cells h) change_good, renewal_good (λ k. cells.has_kind k && h.kinds k) h.leave),
      )

  -- ---- checks

  asked_good : (z : Sizes) (fs : List Tree) (a : CheckPlace) → AreForms m (forms (map (λ f. check m z f a) fs))
  asked_good z [] a = tt
  asked_good z (f ∷ fs) a = (good_form f, asked_good z fs a)

  known_good : (fs : List Tree) → AreForms m (map (form m) fs)
  known_good [] = tt
  known_good (f ∷ fs) = (good_form f, known_good fs)

  more_good : (cs ds : List Check) → AreForms m (forms cs) → AreForms m (forms ds) → AreForms m (forms (cs ++ ds))
  more_good [] ds h k = k
  more_good (c ∷ cs) ds h k = (h.0, more_good cs ds h.1 k)

  module _ (p : Facts) (s : Shape) (cells : FileCells) (texts : Texts) where
    entries_good : (l : _) (pt : Point) (cs : List Claim) → AreForms m (forms (map (entry_check p s cells texts m l pt) cs))
    entries_good l pt [] = tt
    entries_good l pt (c ∷ cs) = (good_form (head_tree p s cells texts l pt c), entries_good l pt cs)

    kept_good : (l : _) (pt : Point) (cs : List Claim) → AreForms m (forms (map (kept_check p s cells texts m l pt) cs))
    kept_good l pt [] = tt
    kept_good l pt (c ∷ cs) = (good_form (claim_tree (end_reading p s cells texts l pt) c.what), kept_good l pt cs)

    variant_good : (l : _) (pt : Point) (v : Option Measure) → AreForms m (forms (variant_checks p s cells texts m l pt v))
    variant_good l pt None = tt
    variant_good l pt (Some v) = (
      good_form (at_most (num (pos 0)) (measure_tree (before_reading p s cells texts l pt) v.what)),
      (good_form (less (measure_tree (end_reading p s cells texts l pt) v.what) (measure_tree (before_reading p s cells texts l pt) v.what)), tt),
    )

pub loops_are_good : LoopsAreGood
loops_are_good m respects p s cells texts bases sorted c pt l ss pass good = (
  asked_good m respects (sizes p s) (inside_trees p s cells texts c pt l) (broken_place broken.assigns l.line),
  (
    entries_good m respects p s cells texts l pt l.invariants,
    (
      havoc_good m respects p s cells bases sorted (turns p s cells texts c pt l ss),
      (
        known_good m respects (stay_trees p s cells texts c pt l ss ++ map (head_tree p s cells texts l pt) l.invariants),
        (
          good,
          (
            more_good m respects (map (kept_check p s cells texts m l pt) l.invariants) (variant_checks p s cells texts m l pt l.variant)
                (kept_good m respects p s cells texts l pt l.invariants) (variant_good m respects p s cells texts l pt l.variant),
            tt,
          ),
        ),
      ),
    ),
  ),
)
