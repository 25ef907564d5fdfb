-- The slots of a scope's variables hold nothing behind it, as before.
use Rattle.std.proofs.Common.{◌≡◌, ◌⊎◌, ℕ, zero, suc, ◌<◌, Bool, true, false, if◌then◌else◌, List, [], ◌∷◌, length, refl, sym, ap, ◌∙◌, subst, inl, inr}
use Rattle.std.specs.Prelude.{◌==◌}
use Rattle.std.proofs.lemmas.Bool.{false≢true}
use Rattle.std.proofs.lemmas.Bool.Decides.{Decides-eqb}
use Rattle.wp_base.specs.Blocks.{has_layout}
use Rattle.typed_prog.specs.declared.operators.Variable.TheVariants as variables
use Rattle.qed_terms.specs.Meaning as sense
use Rattle.c_runs.specs.Program.{Facts}
use Rattle.c_runs.specs.States.{World, home, unset, with_local}
use Rattle.c_runs.specs.Scopes.{without_locals}
use Rattle.c_runs.specs.CoreRun.{CoreWorld, in_world}
use Rattle.goal_segments.specs.Segments.{SameBlocks}
use Rattle.typed_memories.proofs.Tests.{on_test}
use Rattle.walk_steps.specs.State.{at_or, put, restore}
use Rattle.walk_steps.proofs.Lists.{put_length}
use Rattle.memory_steps.specs.State.{Datum, State, HasSort, number as number_datum, nothing}
use Rattle.memory_steps.specs.Run.{put_back}
use Rattle.program_steps.specs.Temporaries.{Temporaries}
use Rattle.memory_words.specs.Places.{Place, value, offset, flag, temporary, temporary_offset, numbers, blocks, offsets, Sizes, IsIn, slot, slots_in, held, number_at}
use Rattle.memory_words.proofs.SlotListing.{differ, below}
use Rattle.memory_words.proofs.Lists.{put_here, put_elsewhere, found_below}
use Rattle.memory_words.specs.Shapes.{FileCells, Shape, sizes, kind_of}
use Rattle.memory_words.specs.Standing.{NumbersAre, PointersAre, LocalIs, Frame, StandsFor}
use Rattle.memory_words.proofs.Sorts.{put_sorted}
use Rattle.memory_words.specs.Words.{slots_of}
use Rattle.memory_words.proofs.PutStanding.{two_same, local_same, temp_same}

-- ---- variables of a list

abbrev pub Named : ℕ → List ℕ → Type 0
Named y [] = ⊥
Named y (x ∷ xs) = (x ≡ y) ⊎ Named y xs

abbrev pub Unnamed : ℕ → List ℕ → Type 0
Unnamed y [] = Unit {0}
Unnamed y (x ∷ xs) = (x ≡ y → ⊥) × Unnamed y xs

pub named_so : (y : ℕ) (xs : List ℕ) → Named y xs ⊎ Unnamed y xs
named_so y [] = inr tt
named_so y (x ∷ xs) = on_test (x == y) (λ e. inl (inl ((Decides-eqb x y).0 e))) (λ e. by (named_so y xs) (λ same. false≢true (sym e ∙ (Decides-eqb x y).1 same))) where
  by : Named y xs ⊎ Unnamed y xs → (x ≡ y → ⊥) → ((x ≡ y) ⊎ Named y xs) ⊎ ((x ≡ y → ⊥) × Unnamed y xs)
  by (inl h) n = inl (inr h)
  by (inr h) n = inr (n, h)

-- ---- slots that are restored

module _ {X : Type 0} (d : X) where
  put_keeps : (xs : List X) (i j : ℕ) (x v : X) → at_or d xs j ≡ v → (i ≡ j → x ≡ v) → at_or d (put xs i x) j ≡ v
  put_keeps [] i j x v h k = h
  put_keeps (a ∷ xs) zero zero x v h k = k refl
  put_keeps (a ∷ xs) zero (suc j) x v h k = h
  put_keeps (a ∷ xs) (suc i) zero x v h k = h
  put_keeps (a ∷ xs) (suc i) (suc j) x v h k = put_keeps xs i j x v h (λ e. k (ap suc e))

  restored_stays : (is : List ℕ) (old new : List X) (j : ℕ) → at_or d new j ≡ at_or d old j → at_or d (restore d is old new) j ≡ at_or d old j
  restored_stays [] old new j h = h
  restored_stays (i ∷ is) old new j h =
      restored_stays is old (put new i (at_or d old i)) j (put_keeps new i j (at_or d old i) (at_or d old j) h (λ e. ap (at_or d old) e))

  restored_in : (is : List ℕ) (old new : List X) (j : ℕ) → j < length new → Named j is → at_or d (restore d is old new) j ≡ at_or d old j
  restored_in [] old new j l h = absurd h
  restored_in (i ∷ is) old new j l (inl e) =
      restored_stays is old (put new i (at_or d old i)) j
      (subst (λ j. at_or d (put new i (at_or d old i)) j ≡ at_or d old j) e (put_here d new i (at_or d old i) (subst (λ j. j < length new) (sym e) l)))
  restored_in (i ∷ is) old new j l (inr h) = restored_in is old (put new i (at_or d old i)) j (subst (λ n. j < n) (sym (put_length new i (at_or d old i))) l) h

  restored_out : (is : List ℕ) (old new : List X) (j : ℕ) → Unnamed j is → at_or d (restore d is old new) j ≡ at_or d new j
  restored_out [] old new j h = refl
  restored_out (i ∷ is) old new j h = restored_out is old (put new i (at_or d old i)) j h.1 ∙ put_elsewhere d new i j (at_or d old i) h.0

  restored_length : (is : List ℕ) (old new : List X) → length (restore d is old new) ≡ length new
  restored_length [] old new = refl
  restored_length (i ∷ is) old new = restored_length is old (put new i (at_or d old i)) ∙ put_length new i (at_or d old i)

-- a number stays one where those that are restored are numbers
restored_sorted : (is : List ℕ) (old new : List Datum) (j : ℕ) → ((i : ℕ) → Named i is → HasSort false (at_or nothing old i)) → HasSort false (at_or nothing new j)
    → HasSort false (at_or nothing (restore nothing is old new) j)
restored_sorted [] old new j were is = is
restored_sorted (i ∷ is) old new j were now =
    restored_sorted is old (put new i (at_or nothing old i)) j (λ k h. were k (inr h)) (put_sorted new i j (at_or nothing old i) (λ e. were i (inl refl)) now)

-- ---- places

module _ (m : sense.World) (z : Sizes) where
  value_named : (ys : List ℕ) (y : ℕ) → Named y ys → Named (slot z (value (variables.Local y))) (slots_of m z ys)
  value_named [] y h = absurd h
  value_named (x ∷ ys) y (inl e) = inl (ap (λ y. slot z (value (variables.Local y))) e)
  value_named (x ∷ ys) y (inr h) = inr (inr (inr (value_named ys y h)))

  offset_named : (ys : List ℕ) (y : ℕ) → Named y ys → Named (slot z (offset (variables.Local y))) (slots_of m z ys)
  offset_named [] y h = absurd h
  offset_named (x ∷ ys) y (inl e) = inr (inl (ap (λ y. slot z (offset (variables.Local y))) e))
  offset_named (x ∷ ys) y (inr h) = inr (inr (inr (offset_named ys y h)))

  flag_named : (ys : List ℕ) (y : ℕ) → Named y ys → Named (slot z (flag (variables.Local y))) (slots_of m z ys)
  flag_named [] y h = absurd h
  flag_named (x ∷ ys) y (inl e) = inr (inr (inl (ap (λ y. slot z (flag (variables.Local y))) e)))
  flag_named (x ∷ ys) y (inr h) = inr (inr (inr (flag_named ys y h)))

  abbrev pub AllBelow : List ℕ → Type 0
  AllBelow ys = (y : ℕ) → Named y ys → y < z.locals

  others_unnamed : (a : Place) → IsIn z a → (ys : List ℕ) → AllBelow ys
      → ((y : ℕ) → Named y ys → (value (variables.Local y) ≡ a → ⊥) × (offset (variables.Local y) ≡ a → ⊥) × (flag (variables.Local y) ≡ a → ⊥)) → Unnamed (slot z a) (slots_of m z ys)
  others_unnamed a there [] low apart = tt
  others_unnamed a there (x ∷ ys) low apart =
      let l = low x (inl refl) in
      let n = apart x (inl refl) in (
        λ e. n.0 (differ z (value (variables.Local x)) a l there e),
        (
          λ e. n.1 (differ z (offset (variables.Local x)) a l there e),
          (λ e. n.2 (differ z (flag (variables.Local x)) a l there e), others_unnamed a there ys (λ y h. low y (inr h)) (λ y h. apart y (inr h))),
        ),
      )

  -- what is held behind
  module _ (ys : List ℕ) (low : AllBelow ys) (old new : State) (size : length new.slots ≡ slots_in z) where
    abbrev pub behind : State
    behind = put_back (slots_of m z ys) old new

    pub behind_size : length behind.slots ≡ length new.slots
    behind_size = restored_length nothing (slots_of m z ys) old.slots new.slots

    pub other_kept : (a : Place) → IsIn z a → ((y : ℕ) → Named y ys → (value (variables.Local y) ≡ a → ⊥) × (offset (variables.Local y) ≡ a → ⊥) × (flag (variables.Local y) ≡ a → ⊥))
        → held z behind a ≡ held z new a
    other_kept a there apart = restored_out nothing (slots_of m z ys) old.slots new.slots (slot z a) (others_unnamed a there ys low apart)

    within : (a : Place) → IsIn z a → slot z a < length new.slots
    within a there = subst (λ n. slot z a < n) (sym size) (below z a there)

    pub value_back : (y : ℕ) → y < z.locals → Named y ys → held z behind (value (variables.Local y)) ≡ held z old (value (variables.Local y))
    value_back y l h = restored_in nothing (slots_of m z ys) old.slots new.slots (slot z (value (variables.Local y))) (within (value (variables.Local y)) l) (value_named ys y h)

    pub offset_back : (y : ℕ) → y < z.locals → Named y ys → held z behind (offset (variables.Local y)) ≡ held z old (offset (variables.Local y))
    offset_back y l h = restored_in nothing (slots_of m z ys) old.slots new.slots (slot z (offset (variables.Local y))) (within (offset (variables.Local y)) l) (offset_named ys y h)

    pub flag_back : (y : ℕ) → y < z.locals → Named y ys → held z behind (flag (variables.Local y)) ≡ held z old (flag (variables.Local y))
    flag_back y l h = restored_in nothing (slots_of m z ys) old.slots new.slots (slot z (flag (variables.Local y))) (within (flag (variables.Local y)) l) (flag_named ys y h)

-- ---- the world's variables

pub unset_stays : (ys : List ℕ) (w : World) (y : ℕ) → w.locals y ≡ unset → (without_locals ys w).locals y ≡ unset
unset_stays [] w y h = h
unset_stays (x ∷ ys) w y h = unset_stays ys (with_local x unset w) y (by (x == y)) where
  by : (b : Bool) → (if b then unset else w.locals y) ≡ unset
  by true = refl
  by false = h

pub unset_named : (ys : List ℕ) (w : World) (y : ℕ) → Named y ys → (without_locals ys w).locals y ≡ unset
unset_named [] w y h = absurd h
unset_named (x ∷ ys) w y (inl e) = unset_stays ys (with_local x unset w) y (ap (λ b. if b then unset else w.locals y) ((Decides-eqb x y).1 e))
unset_named (x ∷ ys) w y (inr h) = unset_named ys (with_local x unset w) y h

pub unnamed_kept : (ys : List ℕ) (w : World) (y : ℕ) → Unnamed y ys → (without_locals ys w).locals y ≡ w.locals y
unnamed_kept [] w y h = refl
unnamed_kept (x ∷ ys) w y h = unnamed_kept ys (with_local x unset w) y h.1 ∙ on_test (x == y) (λ e. absurd (h.0 ((Decides-eqb x y).0 e))) (λ e. ap (λ b. if b then unset else w.locals y) e)

-- ---- slots behind a scope

module _ (m : sense.World) (p : Facts) (s : Shape) (cells : FileCells) (f : Temporaries) (c : CoreWorld) (ys : List ℕ) (fr to : Frame) (old new : State)
    (stands : StandsFor p s cells fr f c new) where
  -- the frame behind has the variables that weren't named, with the blocks that they had
  pub record Leaves : Type 0 where
    pub low : AllBelow m (sizes p s) ys
    pub table : to.table ≡ fr.table
    pub scoped : (x : ℕ) → to.in_scope x ≡ true → (fr.in_scope x ≡ true) × Unnamed x ys
    pub unscoped : (x : ℕ) → to.in_scope x ≡ false → (fr.in_scope x ≡ false) ⊎ Named x ys
    pub lives : (x : ℕ) → to.in_scope x ≡ true → to.lives x ≡ true → fr.lives x ≡ true
    pub homes : (x : ℕ) → to.in_scope x ≡ true → to.homes x ≡ fr.homes x
    pub nothing_before : (x : ℕ) → x < length s.variables → Named x ys
        → (held (sizes p s) old (value (variables.Local x)) ≡ nothing) × (held (sizes p s) old (offset (variables.Local x)) ≡ nothing)
        × (held (sizes p s) old (flag (variables.Local x)) ≡ nothing)

  named_apart : (zs : List ℕ) (x y : ℕ) → Named y zs → Unnamed x zs → y ≡ x → ⊥
  named_apart [] x y h n e = h
  named_apart (z ∷ zs) x y (inl q) n e = n.0 (q ∙ e)
  named_apart (z ∷ zs) x y (inr h) n e = named_apart zs x y h n.1 e

  module _ (h : Leaves) where
    abbrev z : Sizes
    z = sizes p s

    abbrev end : State
    end = put_back (slots_of m z ys) old new

    same_other : (a : Place) → IsIn z a
        → ((y : ℕ) → Named y ys → (value (variables.Local y) ≡ a → ⊥) × (offset (variables.Local y) ≡ a → ⊥) × (flag (variables.Local y) ≡ a → ⊥)) → held z end a ≡ held z new a
    same_other a there apart = other_kept m z ys h.low old new stands.size a there apart

    same_value : {x y : ℕ} → value (variables.Local x) ≡ value (variables.Local y) → x ≡ y
    same_value e = cc

    same_offset : {x y : ℕ} → offset (variables.Local x) ≡ offset (variables.Local y) → x ≡ y
    same_offset e = cc

    same_flag : {x y : ℕ} → flag (variables.Local x) ≡ flag (variables.Local y) → x ≡ y
    same_flag e = cc

    module _ (x : ℕ) (l : x < length s.variables) (n : Unnamed x ys) where
      value_kept : held z end (value (variables.Local x)) ≡ held z new (value (variables.Local x))
      value_kept = same_other (value (variables.Local x)) l (λ y k. (λ e. named_apart ys x y k n (same_value e), λ e. cc, λ e. cc))

      offset_kept : held z end (offset (variables.Local x)) ≡ held z new (offset (variables.Local x))
      offset_kept = same_other (offset (variables.Local x)) l (λ y k. (λ e. cc, λ e. named_apart ys x y k n (same_offset e), λ e. cc))

      flag_kept : held z end (flag (variables.Local x)) ≡ held z new (flag (variables.Local x))
      flag_kept = same_other (flag (variables.Local x)) l (λ y k. (λ e. cc, λ e. cc, λ e. named_apart ys x y k n (same_flag e)))

    module _ (w : World) (named : (x : ℕ) → Named x ys → w.locals x ≡ unset) (kept : (x : ℕ) → Unnamed x ys → w.locals x ≡ c.world.locals x) where
      left_unscoped : (x : ℕ) → x < length s.variables → to.in_scope x ≡ false
          → (w.locals x ≡ unset) × (held z end (value (variables.Local x)) ≡ nothing) × (held z end (offset (variables.Local x)) ≡ nothing)
          × (held z end (flag (variables.Local x)) ≡ nothing)
      left_unscoped x l out = by (named_so x ys) (h.unscoped x out) where
        of_named : Named x ys → (w.locals x ≡ unset) × (held z end (value (variables.Local x)) ≡ nothing) × (held z end (offset (variables.Local x)) ≡ nothing)
            × (held z end (flag (variables.Local x)) ≡ nothing)
        of_named k =
            let was = h.nothing_before x l k in (
              named x k,
              value_back m z ys h.low old new stands.size x l k ∙ was.0,
              offset_back m z ys h.low old new stands.size x l k ∙ was.1,
              flag_back m z ys h.low old new stands.size x l k ∙ was.2,
            )

        by : Named x ys ⊎ Unnamed x ys → (fr.in_scope x ≡ false) ⊎ Named x ys
            → (w.locals x ≡ unset) × (held z end (value (variables.Local x)) ≡ nothing) × (held z end (offset (variables.Local x)) ≡ nothing)
            × (held z end (flag (variables.Local x)) ≡ nothing)
        by (inl k) o = of_named k
        by (inr n) (inr k) = of_named k
        by (inr n) (inl e) =
            let was = stands.unscoped x l e in
            (kept x n ∙ was.0, value_kept x l n ∙ was.1, offset_kept x l n ∙ was.2, flag_kept x l n ∙ was.3)

      were_numbers : (xs : List ℕ) → ((x : ℕ) → Named x xs → Named x ys) → (i : ℕ) → Named i (slots_of m z xs) → HasSort false (at_or nothing old.slots i)
      were_numbers [] inside i k = absurd k
      were_numbers (x ∷ xs) inside i k = by k (were_numbers xs (λ y k. inside y (inr k)) i)
        where
          before : (held z old (value (variables.Local x)) ≡ nothing) × (held z old (offset (variables.Local x)) ≡ nothing) × (held z old (flag (variables.Local x)) ≡ nothing)
          before = let there = inside x (inl refl) in h.nothing_before x (h.low x there) there

          number_of : (a : Place) → held z old a ≡ nothing → slot z a ≡ i → HasSort false (at_or nothing old.slots i)
          number_of a was e = subst (λ i. HasSort false (at_or nothing old.slots i)) e (subst (HasSort false) (sym was) tt)

          by : Named i (slots_of m z (x ∷ xs)) → (Named i (slots_of m z xs) → HasSort false (at_or nothing old.slots i)) → HasSort false (at_or nothing old.slots i)
          by (inl e) rest = number_of (value (variables.Local x)) before.0 e
          by (inr (inl e)) rest = number_of (offset (variables.Local x)) before.1 e
          by (inr (inr (inl e))) rest = number_of (flag (variables.Local x)) before.2 e
          by (inr (inr (inr k))) rest = rest k

      left_same : StandsFor p s cells to f (in_world c (record w { memory = c.world.memory })) end
      left_same = record {
        size = behind_size m z ys h.low old new stands.size ∙ stands.size;
        sorted = λ a there off. restored_sorted (slots_of m z ys) old.slots new.slots (slot z a) (were_numbers ys (λ x k. k)) (stands.sorted a there off);
        good = stands.good;
        blocks_are = subst (λ t. SameBlocks t c.world.memory.blocks) (sym h.table) stands.blocks_are;
        table_is = stands.table_is;
        numbers_are = λ k has. subst (NumbersAre c.world.memory k) (sym (same_other (numbers k) tt (λ y k. (λ e. cc, λ e. cc, λ e. cc)))) (stands.numbers_are k has);
        pointers_are = λ has.
            subst (λ d. PointersAre c.world.memory d (held z end offsets)) (sym (same_other blocks tt (λ y k. (λ e. cc, λ e. cc, λ e. cc))))
            (subst (PointersAre c.world.memory (held z new blocks)) (sym (same_other offsets tt (λ y k. (λ e. cc, λ e. cc, λ e. cc)))) (stands.pointers_are has));
        globals = λ x v e plain. let l = found_below p.globals x v e in
            two_same z new end (kind_of v) _ (value (variables.Global x)) (offset (variables.Global x)) (same_other (value (variables.Global x)) l (λ y k. (λ e. cc, λ e. cc, λ e. cc)))
            (same_other (offset (variables.Global x)) l (λ y k. (λ e. cc, λ e. cc, λ e. cc))) (stands.globals x v e plain);
        locals = λ x v e plain scoped.
            let l = found_below s.variables x v e in
            let was = h.scoped x scoped in
            subst (λ u. LocalIs p c.world.memory.blocks v u (number_at z end (value (variables.Local x))) (number_at z end (offset (variables.Local x)))
            (number_at z end (flag (variables.Local x)))) (sym (kept x was.1))
            (local_same z new end p c.world.memory.blocks v (c.world.locals x) (value (variables.Local x)) (offset (variables.Local x)) (flag (variables.Local x)) (value_kept x l was.1)
            (offset_kept x l was.1) (flag_kept x l was.1) (stands.locals x v e plain was.0));
        homes = λ x v e plain scoped.
            let l = found_below s.variables x v e in
            let was = h.scoped x scoped in
            let is = stands.homes x v e plain was.0 in
            (kept x was.1 ∙ is.0 ∙ ap home (sym (h.homes x scoped)), value_kept x l was.1 ∙ is.1 ∙ ap number_datum (sym (h.homes x scoped)));
        living = λ x v e plain scoped lives.
            (λ i. has_layout (h.table i) (h.homes x scoped i) v.layout) ∙ stands.living x v e plain (h.scoped x scoped).0 (h.lives x scoped lives);
        temporaries = λ n l used.
            temp_same z new end p c.world.memory.blocks (s.temp_kind n) (c.temps n) (temporary n) (temporary_offset n) (same_other (temporary n) l (λ y k. (λ e. cc, λ e. cc, λ e. cc)))
            (same_other (temporary_offset n) l (λ y k. (λ e. cc, λ e. cc, λ e. cc))) (stands.temporaries n l used);
        unscoped = left_unscoped;
      }

      pub left_stands : w.memory ≡ c.world.memory → StandsFor p s cells to f (in_world c w) end
      left_stands e = subst (λ n. StandsFor p s cells to f (in_world c (record w { memory = n })) end) (sym e) left_same
