-- Runs of a renewal, place by place: numbers and blocks first, then offsets.
use Rattle.std.proofs.Common.{◌≡◌, ℕ, suc, Bool, true, false, if◌then◌else◌, ℤ, List, [], ◌∷◌, map, length, refl, sym, ap, ◌∙◌, subst}
use Rattle.wp_base.specs.declared.kinds.Kind.{Kind}
use Rattle.wp_base.specs.declared.kinds.CellKind.{CellKind}
use Rattle.wp_base.specs.declared.kinds.CellKind.TheVariants as cell
use Rattle.c_kinds.specs.Models.{long_bits}
use Rattle.qed_terms.specs.Memory.{load}
use Rattle.qed_terms.specs.Meaning as sense
use Rattle.c_runs.specs.Program.{Facts}
use Rattle.typed_memories.specs.Cells.{Cells, numbers_by, pointers_by, FormedAt}
use Rattle.typed_memories.specs.Changes.{Sets}
use Rattle.memory_steps.specs.State.{Datum, State, state, with_slots, IsLike}
use Rattle.memory_steps.specs.Forms.{AllTold}
use Rattle.memory_steps.specs.Step.{Change}
use Rattle.memory_steps.specs.Run as seg
use Rattle.memory_steps.specs.Run.{End, goes_on, Changed, Changes, Seg}
use Rattle.memory_steps.proofs.Readings.{remember_way, changes_then, change_way}
use Rattle.memory_words.specs.Places.{Place, Sizes, numbers, blocks, offsets, IsIn, slots_in, held, memory_in, memory_at, slots_by, changes_by}
use Rattle.memory_words.specs.Leaves.{fact}
use Rattle.memory_words.proofs.Holding.{slots_are_what_places_hold}
use Rattle.memory_words.specs.Renewal.{Leave, number_facts, pointer_facts, changed_if, first_change, second_change, renewal}
use Rattle.memory_statements.specs.Renewed.{is_renewed, LeaveIs}
use Rattle.memory_statements.proofs.Facts.{FramesSo, SameBelow, numbers_told, tells_numbers, pointers_told, tells_pointers}

changes_length : (sts : List State) (cs : List Change) (xs ys : List Datum) → Changes sts cs xs ys → length ys ≡ length xs
changes_length sts [] xs ys e = ap length (sym e)
changes_length sts (c ∷ cs) [] [] h = refl
changes_length sts (c ∷ cs) [] (y ∷ ys) h = absurd h
changes_length sts (c ∷ cs) (x ∷ xs) [] h = absurd h
changes_length sts (c ∷ cs) (x ∷ xs) (y ∷ ys) h = ap suc (changes_length sts cs xs ys h.1)

-- the places that change first, and those that change then
abbrev is_first : (CellKind → Bool) → Place → Bool
is_first f (numbers k) = f (cell.Of k)
is_first f blocks = f cell.Ptr
is_first f a = false

abbrev is_second : (CellKind → Bool) → Place → Bool
is_second f offsets = f cell.Ptr
is_second f a = false

-- what the lists in a state hold of a kind
abbrev pub cells_held : Sizes → State → CellKind → Cells
cells_held z st (cell.Of k) = numbers_by (load (memory_at z st (numbers k)))
cells_held z st cell.Ptr = pointers_by (load (memory_at z st blocks)) (load (memory_at z st offsets))

-- data of the sorts of before
abbrev pub AreLike : Sizes → (old new : State) → CellKind → Type 0
AreLike z old new (cell.Of k) = IsLike (held z old (numbers k)) (held z new (numbers k))
AreLike z old new cell.Ptr = IsLike (held z old blocks) (held z new blocks) × IsLike (held z old offsets) (held z new offsets)

-- the lists of a kind are renewed
pub record KindIs (p : Facts) (set : Sets) (z : Sizes) (leave : Leave) (old new : State) (k : CellKind) : Type 0 where
  pub like : AreLike z old new k
  pub formed : (b o : ℤ) → FormedAt p old.table k (cells_held z new k) b o
  pub frames : FramesSo leave (set k) (cells_held z old k) (cells_held z new k)

pub record RunIs (p : Facts) (set : Sets) (z : Sizes) (renewed : CellKind → Bool) (leave : Leave) (old new : State) : Type 0 where
  pub table : new.table ≡ old.table
  pub size : length new.slots ≡ slots_in z
  pub places : (a : Place) → IsIn z a → is_renewed renewed a ≡ false → held z new a ≡ held z old a
  pub kinds : (k : CellKind) → renewed k ≡ true → KindIs p set z leave old new k

module _ (w : sense.World) (p : Facts) (model : w.long_bits ≡ long_bits p.model) (set : Sets) (olds : List State) (z : Sizes) (renewed : CellKind → Bool) (leave : Leave) (st : State)
    (size : length st.slots ≡ slots_in z) (bounds : LeaveIs w leave st olds set) where
  abbrev first : Place → Change
  first a = first_change z renewed leave w a

  abbrev second : Place → Change
  second a = second_change z renewed leave w a

  -- ---- from slots that are renewed to a run

  module _ (new : State) (r : RunIs p set z renewed leave st new) (below : (k : CellKind) → renewed k ≡ true → SameBelow (cells_held z st k) (cells_held z new k)) where
    abbrev mid_at : Place → Datum
    mid_at a = if is_first renewed a then held z new a else held z st a

    abbrev mid : State
    mid = with_slots st (slots_by z mid_at)

    mid_size : length mid.slots ≡ slots_in z
    mid_size = (slots_are_what_places_hold z).size mid_at

    mid_held : (a : Place) → IsIn z a → held z mid a ≡ mid_at a
    mid_held a there = (slots_are_what_places_hold z).by mid_at a there

    mid_new : (a : Place) → IsIn z a → is_first renewed a ≡ true → held z mid a ≡ held z new a
    mid_new a there e = mid_held a there ∙ ap (λ t. if t then held z new a else held z st a) e

    mid_old : (a : Place) → IsIn z a → is_first renewed a ≡ false → held z mid a ≡ held z st a
    mid_old a there e = mid_held a there ∙ ap (λ t. if t then held z new a else held z st a) e

    first_number : (k : Kind) (t : Bool) → renewed (cell.Of k) ≡ t
        → Changed (st ∷ st ∷ olds) (changed_if z renewed leave w t (number_facts z renewed leave k)) (held z st (numbers k)) (if t then held z new (numbers k) else held z st (numbers k))
    first_number k true e =
        let is = r.kinds (cell.Of k) e in
        (is.like, tells_numbers w p model set st olds z st (held z new (numbers k)) k renewed leave bounds (below (cell.Of k) e) is.formed is.frames)
    first_number k false e = refl

    first_blocks : (t : Bool) → renewed cell.Ptr ≡ t
        → Changed (st ∷ st ∷ olds) (changed_if z renewed leave w t []) (held z st blocks) (if t then held z new blocks else held z st blocks)
    first_blocks true e = ((r.kinds cell.Ptr e).like.0, tt)
    first_blocks false e = refl

    first_at : (a : Place) → Changed (st ∷ st ∷ olds) (first a) (held z st a) (mid_at a)
    first_at (numbers k) = first_number k (renewed (cell.Of k)) refl
    first_at blocks = first_blocks (renewed cell.Ptr) refl
    first_at a = refl

    second_offsets : (t : Bool) → renewed cell.Ptr ≡ t
        → Changed (mid ∷ st ∷ olds) (changed_if z renewed leave w t (pointer_facts z renewed leave)) (held z mid offsets) (held z new offsets)
    second_offsets true e =
        let is = r.kinds cell.Ptr e in
        let same = mid_new blocks tt e in
        let at : Datum → Cells = λ d. pointers_by (load (memory_in d)) (load (memory_at z new offsets)) in (
          subst (λ d. IsLike d (held z new offsets)) (sym (mid_old offsets tt refl)) is.like.1,
          tells_pointers w p model set st olds z mid (held z new offsets) renewed leave bounds
              (subst (λ d. SameBelow (cells_held z st cell.Ptr) (at d)) (sym same) (below cell.Ptr e))
              (subst (λ d. (b o : ℤ) → FormedAt p st.table cell.Ptr (at d) b o) (sym same) is.formed)
              (subst (λ d. FramesSo leave (set cell.Ptr) (cells_held z st cell.Ptr) (at d)) (sym same) is.frames),
        )
    second_offsets false e = mid_old offsets tt refl ∙ sym (r.places offsets tt e)

    second_first : (a : Place) → IsIn z a → (is_first renewed a ≡ false → held z new a ≡ held z st a) → (t : Bool) → is_first renewed a ≡ t → held z mid a ≡ held z new a
    second_first a there same true e = mid_new a there e
    second_first a there same false e = mid_old a there e ∙ sym (same e)

    second_at : (a : Place) → IsIn z a → Changed (mid ∷ st ∷ olds) (second a) (held z mid a) (held z new a)
    second_at (numbers k) there = second_first (numbers k) there (r.places (numbers k) there) (renewed (cell.Of k)) refl
    second_at blocks there = second_first blocks there (r.places blocks there) (renewed cell.Ptr) refl
    second_at offsets there = second_offsets (renewed cell.Ptr) refl
    second_at a there = mid_old a there refl ∙ sym (r.places a there refl)

    pub run_of : (j : ℕ) → Seg olds j (renewal z renewed leave w) st (goes_on new)
    run_of j =
        let are = slots_are_what_places_hold z in
        let one = (are.changes (st ∷ st ∷ olds) first st.slots mid.slots size mid_size).1
        (λ a there. subst (Changed (st ∷ st ∷ olds) (first a) (held z st a)) (sym (mid_held a there)) (first_at a)) in
        let two = (are.changes (mid ∷ st ∷ olds) second mid.slots new.slots mid_size r.size).1 second_at in
        subst (λ t. Seg olds j (renewal z renewed leave w) st (goes_on (state new.slots t))) (sym r.table)
        (seg.remembers (seg.goes_both (seg.changes mid.slots one) (seg.changes new.slots two)))

  -- ---- from a run to slots that are renewed

  module _ (mid new : List Datum) (one : Changes (st ∷ st ∷ olds) (changes_by z first) st.slots mid)
      (two : Changes (with_slots st mid ∷ st ∷ olds) (changes_by z second) mid new) where
    abbrev at_mid : State
    at_mid = with_slots st mid

    abbrev at_end : State
    at_end = with_slots st new

    mid_length : length mid ≡ slots_in z
    mid_length = changes_length (st ∷ st ∷ olds) (changes_by z first) st.slots mid one ∙ size

    new_length : length new ≡ slots_in z
    new_length = changes_length (at_mid ∷ st ∷ olds) (changes_by z second) mid new two ∙ mid_length

    one_at : (a : Place) → IsIn z a → Changed (st ∷ st ∷ olds) (first a) (held z st a) (held z at_mid a)
    one_at = ((slots_are_what_places_hold z).changes (st ∷ st ∷ olds) first st.slots mid size mid_length).0 one

    two_at : (a : Place) → IsIn z a → Changed (at_mid ∷ st ∷ olds) (second a) (held z at_mid a) (held z at_end a)
    two_at = ((slots_are_what_places_hold z).changes (at_mid ∷ st ∷ olds) second mid new mid_length new_length).0 two

    one_kept : (a : Place) → IsIn z a → is_first renewed a ≡ false → held z st a ≡ held z at_mid a
    one_kept (numbers k) there e =
        subst (λ t. Changed (st ∷ st ∷ olds) (changed_if z renewed leave w t (number_facts z renewed leave k)) (held z st (numbers k)) (held z at_mid (numbers k))) e (one_at (numbers k) there)
    one_kept blocks there e = subst (λ t. Changed (st ∷ st ∷ olds) (changed_if z renewed leave w t []) (held z st blocks) (held z at_mid blocks)) e (one_at blocks there)
    one_kept a there e = one_at a there

    two_kept : (a : Place) → IsIn z a → is_second renewed a ≡ false → held z at_mid a ≡ held z at_end a
    two_kept offsets there e =
        subst (λ t. Changed (at_mid ∷ st ∷ olds) (changed_if z renewed leave w t (pointer_facts z renewed leave)) (held z at_mid offsets) (held z at_end offsets)) e (two_at offsets there)
    two_kept a there e = two_at a there

    both_kept : (a : Place) → IsIn z a → is_renewed renewed a ≡ false → held z at_end a ≡ held z st a
    both_kept (numbers k) there e = sym (one_kept (numbers k) there e ∙ two_kept (numbers k) there refl)
    both_kept blocks there e = sym (one_kept blocks there e ∙ two_kept blocks there refl)
    both_kept offsets there e = sym (one_kept offsets there refl ∙ two_kept offsets there e)
    both_kept a there e = sym (one_kept a there refl ∙ two_kept a there refl)

    kind_is : (k : CellKind) → renewed k ≡ true → KindIs p set z leave st at_end k
    kind_is (cell.Of k) e =
        let h = subst (λ d. IsLike (held z st (numbers k)) d × AllTold (st ∷ st ∷ olds) (map (fact w) (number_facts z renewed leave k)) d) (two_kept (numbers k) tt refl)
        (subst (λ t. Changed (st ∷ st ∷ olds) (changed_if z renewed leave w t (number_facts z renewed leave k)) (held z st (numbers k)) (held z at_mid (numbers k))) e (one_at (numbers k) tt)) in
        let told = (numbers_told w p model set st olds z st (held z at_end (numbers k)) k renewed leave bounds h.1) in
        record { like = h.0; formed = told.0; frames = told.1 }
    kind_is cell.Ptr e =
        let b = subst (λ t. Changed (st ∷ st ∷ olds) (changed_if z renewed leave w t []) (held z st blocks) (held z at_mid blocks)) e (one_at blocks tt) in
        let c = subst (λ t. Changed (at_mid ∷ st ∷ olds) (changed_if z renewed leave w t (pointer_facts z renewed leave)) (held z at_mid offsets) (held z at_end offsets)) e (two_at offsets tt) in
        let same = two_kept blocks tt refl in
        let told = subst (λ d. ((b o : ℤ) → FormedAt p st.table cell.Ptr (pointers_by (load (memory_in d)) (load (memory_at z at_end offsets))) b o)
        × FramesSo leave (set cell.Ptr) (cells_held z st cell.Ptr) (pointers_by (load (memory_in d)) (load (memory_at z at_end offsets)))) same
        (pointers_told w p model set st olds z at_mid (held z at_end offsets) renewed leave bounds c.1) in
        record {
          like = (subst (IsLike (held z st blocks)) same b.0, subst (λ d. IsLike d (held z at_end offsets)) (sym (one_kept offsets tt refl)) c.0);
          formed = told.0;
          frames = told.1;
        }

    run_is : RunIs p set z renewed leave st at_end
    run_is = record { table = refl; size = new_length; places = both_kept; kinds = kind_is }

  pub of_run : (j : ℕ) (o : End) → Seg olds j (renewal z renewed leave w) st o → (new : State) × (goes_on new ≡ o) × RunIs p set z renewed leave st new
  of_run j o s =
      let x = changes_then (remember_way s) in
      let y = change_way x.2 in
      (with_slots st y.0, y.2, run_is x.0 y.0 x.1 y.1)
