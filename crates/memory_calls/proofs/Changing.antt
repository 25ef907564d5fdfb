-- What a change of variables does, place by place.
use Rattle.std.proofs.Common.{◌≡◌, ℕ, suc, ◌<◌, Bool, true, false, ◌&&◌, if◌then◌else◌, ℤ, pos, List, [], ◌∷◌, map, length, Option, Some, None, slice_get, refl, sym, ap, ◌∙◌, subst, inl, inr}
use Rattle.std.specs.Prelude.{int_le}
use Rattle.std.proofs.lemmas.Bool.{false≢true, and_parts}
use Rattle.wp_base.specs.declared.kinds.CellKind.{CellKind}
use Rattle.wp_base.specs.declared.kinds.CellKind.TheVariants as cell
use Rattle.wp_base.specs.Blocks.{count}
use Rattle.typed_prog.specs.declared.operators.Variable as code
use Rattle.typed_prog.specs.declared.operators.Variable.TheVariants as variables
use Rattle.qed_terms.specs.Meaning as sense
use Rattle.qed_terms.specs.Operators.{is_equal}
use Rattle.c_runs.specs.Program.{Variable, Facts}
use Rattle.c_runs.specs.Scopes.{is_content}
use Rattle.goal_segments.specs.Told.{IsFlag}
use Rattle.value_terms.specs.Worlds.{flag_of}
use Rattle.typed_memories.proofs.Tests.{chosen, unchosen}
use Rattle.memory_steps.specs.State.{Datum, number, cells as memory_datum, State, with_slots, HasSort, IsLike}
use Rattle.memory_steps.specs.Forms.{AllTold}
use Rattle.memory_steps.specs.Step.{Change}
use Rattle.memory_steps.specs.Run.{Raised, Changed, Changes}
use Rattle.memory_words.specs.Places.{Place, value, offset, flag, Sizes, IsIn, slots_in, held, number_at, slots_by, changes_by, ChangedBy}
use Rattle.memory_words.specs.Leaves.{fact}
use Rattle.memory_words.proofs.Holding.{slots_are_what_places_hold}
use Rattle.memory_words.specs.Shapes.{FileCells, Shape, sizes, is_pointer_cell, is_memory}
use Rattle.memory_words.specs.Seen.{InSetting}
use Rattle.memory_words.proofs.Sorts.{number_is, changed_number}
use Rattle.memory_calls.specs.Havoc.{Havoc, range_facts, first_change, second_change, flag_change, changes_plain, kind_in, found, changes, change_of}
use Rattle.memory_calls.proofs.Values.{value_of, range_told}

changes_length : (sts : List State) (cs : List Change) (xs ys : List Datum) → Changes sts cs xs ys → length ys ≡ length xs
changes_length sts [] xs ys e = ap length (sym e)
changes_length sts (c ∷ cs) [] [] h = refl
changes_length sts (c ∷ cs) [] (y ∷ ys) h = absurd h
changes_length sts (c ∷ cs) (x ∷ xs) [] h = absurd h
changes_length sts (c ∷ cs) (x ∷ xs) (y ∷ ys) h = ap suc (changes_length sts cs xs ys h.1)

-- ---- which variables change

pub record ChangesSo (b : Bool) (o : Option Variable) : Type 0 where
  pub variable : Variable
  pub found_it : o ≡ Some variable
  pub asked : b ≡ true
  pub plain : variable.is_plain ≡ true

pub changes_so : (b : Bool) (o : Option Variable) → changes_plain b o ≡ true → ChangesSo b o
changes_so b (Some v) h = let both = and_parts b v.is_plain h in record { variable = v; found_it = refl; asked = both.0; plain = both.1 }
changes_so b None h = absurd (false≢true h)

pub so_changes : (b : Bool) (o : Option Variable) (v : Variable) → o ≡ Some v → v.is_plain ≡ true → changes_plain b o ≡ b
so_changes b o v e is = ap (changes_plain b) e ∙ ap (λ t. b && t) is ∙ by b
  where
    by : (b : Bool) → (b && true) ≡ b
    by true = refl
    by false = refl

pub not_asked : (b : Bool) (o : Option Variable) → b ≡ false → changes_plain b o ≡ false
not_asked b (Some v) e = ap (λ b. b && v.is_plain) e
not_asked b None e = refl

pub not_plain : (b : Bool) (o : Option Variable) (v : Variable) → o ≡ Some v → v.is_plain ≡ false → changes_plain b o ≡ false
not_plain b o v e is = ap (changes_plain b) e ∙ ap (λ t. b && t) is ∙ by b
  where
    by : (b : Bool) → (b && false) ≡ false
    by true = refl
    by false = refl

-- a file without blocks has no pointers that change
pub integer_changes : (m : sense.World) (p : Facts) (s : Shape) (cells : FileCells) → InSetting m p s cells → (h : Havoc) → cells.has_blocks ≡ false
    → (x : code.Variable) → changes m p s cells h x ≡ true → is_pointer_cell (kind_in (found m p s cells h x)) ≡ false
integer_changes m p s cells setting h none (variables.Global x) on =
    let so = changes_so (h.variables (variables.Global x)) (slice_get p.globals x) on in
    ap (λ o. is_pointer_cell (kind_in o)) so.found_it ∙ setting.integer_globals none x so.variable so.found_it
integer_changes m p s cells setting h none (variables.Local x) on =
    let so = changes_so (h.variables (variables.Local x)) (slice_get s.variables x) on in
    ap (λ o. is_pointer_cell (kind_in o)) so.found_it ∙ setting.integer_locals none x so.variable so.found_it

-- ---- flags

flag_raised : (x : ℤ) (b : Bool) → IsFlag x → (is_equal (pos 1) x ≡ true → b ≡ true) → Raised (number x) (number (flag_of b))
flag_raised x true (inl e) stays = (refl, refl, ap (λ x. int_le x (pos 1)) e)
flag_raised x true (inr e) stays = (refl, refl, ap (λ x. int_le x (pos 1)) e)
flag_raised x false (inl e) stays = (refl, refl, ap (λ x. int_le x (pos 0)) e)
flag_raised x false (inr e) stays = absurd (false≢true (stays (ap (is_equal (pos 1)) e)))

like_number : (d : Datum) (z : ℤ) → HasSort false d → IsLike d (number z)
like_number (number y) z h = tt
like_number (memory_datum l) z h = absurd h

-- ---- one change

module _ (m : sense.World) (p : Facts) (sts : List State) where
  value_changed : (b : Bool) (k : CellKind) (x y : Datum) → Changed sts (first_change m p b k) x y → (b ≡ true → AllTold sts (map (fact m) (range_facts p k)) y) × (b ≡ false → x ≡ y)
  value_changed true k x y h = ((λ e. h.1), (λ e. absurd (false≢true (sym e))))
  value_changed false k x y h = ((λ e. absurd (false≢true e)), (λ e. h))

  changed_value : (b : Bool) (k : CellKind) (x y : Datum) → (b ≡ true → IsLike x y × AllTold sts (map (fact m) (range_facts p k)) y) → (b ≡ false → x ≡ y)
      → Changed sts (first_change m p b k) x y
  changed_value true k x y h g = h refl
  changed_value false k x y h g = g refl

  offset_changed : (b : Bool) (k : CellKind) (x y : Datum) → Changed sts (second_change m p b k) x y → (b && is_pointer_cell k) ≡ false → x ≡ y
  offset_changed true (cell.Of k) x y h e = h
  offset_changed true cell.Ptr x y h e = absurd (false≢true (sym e))
  offset_changed false k x y h e = h

  changed_offset : (b : Bool) (k : CellKind) (x y : Datum) → ((b && is_pointer_cell k) ≡ true → IsLike x y) → ((b && is_pointer_cell k) ≡ false → x ≡ y)
      → Changed sts (second_change m p b k) x y
  changed_offset true (cell.Of k) x y h g = g refl
  changed_offset true cell.Ptr x y h g = (h refl, tt)
  changed_offset false k x y h g = g refl

  flag_changed : (b : Bool) (x y : Datum) → Changed sts (flag_change m p b) x y → (b ≡ true → Raised x y) × (b ≡ false → x ≡ y)
  flag_changed true x y h = ((λ e. h), (λ e. absurd (false≢true (sym e))))
  flag_changed false x y h = ((λ e. absurd (false≢true e)), (λ e. h))

  changed_flag : (b : Bool) (x y : Datum) → (b ≡ true → Raised x y) → (b ≡ false → x ≡ y) → Changed sts (flag_change m p b) x y
  changed_flag true x y h g = h refl
  changed_flag false x y h g = g refl

-- ---- all places

module _ (m : sense.World) (p : Facts) (s : Shape) (cells : FileCells) (h : Havoc) where
  abbrev z : Sizes
  z = sizes p s

  abbrev pub changing : code.Variable → Bool
  changing x = changes m p s cells h x

  abbrev pub kind_at : code.Variable → CellKind
  kind_at x = kind_in (found m p s cells h x)

  abbrev pub is_changed : Place → Bool
  is_changed (value x) = changing x
  is_changed (offset x) = changing x && is_pointer_cell (kind_at x)
  is_changed (flag (variables.Local x)) = changing (variables.Local x)
  is_changed a = false

  -- Variables that change hold values of their kinds, flags are raised, and all else is as it was.
  pub record Renewed (old new : State) : Type 0 where
    pub size : length new.slots ≡ slots_in z
    pub table : new.table ≡ old.table
    pub fits : (x : code.Variable) → IsIn z (value x) → changing x ≡ true
        → is_content p (count old.table) (kind_at x) (value_of (kind_at x) (number_at z new (value x)) (number_at z new (offset x))) ≡ true
    pub raised : (x : ℕ) → x < length s.variables → changing (variables.Local x) ≡ true
        → Raised (held z old (flag (variables.Local x))) (held z new (flag (variables.Local x)))
    pub same : (a : Place) → IsIn z a → is_changed a ≡ false → held z old a ≡ held z new a
    pub sorted : (a : Place) → IsIn z a → HasSort false (held z old a) → HasSort false (held z new a)

  module _ (olds : List State) (old : State) (size : length old.slots ≡ slots_in z) where
    abbrev sts : List State
    sts = old ∷ olds

    -- ---- from a change

    module _ (ds : List Datum) (change : Changes sts (changes_by z (change_of m p s cells h)) old.slots ds) where
      abbrev new : State
      new = with_slots old ds

      size_then : length ds ≡ slots_in z
      size_then = changes_length sts (changes_by z (change_of m p s cells h)) old.slots ds change ∙ size

      at : ChangedBy z sts (change_of m p s cells h) old.slots ds
      at = ((slots_are_what_places_hold z).changes sts (change_of m p s cells h) old.slots ds size size_then).0 change

      value_at : (x : code.Variable) → IsIn z (value x)
          → (changing x ≡ true → AllTold sts (map (fact m) (range_facts p (kind_at x))) (held z new (value x))) × (changing x ≡ false → held z old (value x) ≡ held z new (value x))
      value_at x there = value_changed m p sts (changing x) (kind_at x) (held z old (value x)) (held z new (value x)) (at (value x) there)

      same_at : (a : Place) → IsIn z a → is_changed a ≡ false → held z old a ≡ held z new a
      same_at (value x) there e = (value_at x there).1 e
      same_at (offset x) there e = offset_changed m p sts (changing x) (kind_at x) (held z old (offset x)) (held z new (offset x)) (at (offset x) there) e
      same_at (flag (variables.Local x)) there e =
          (flag_changed m p sts (changing (variables.Local x)) (held z old (flag (variables.Local x))) (held z new (flag (variables.Local x))) (at (flag (variables.Local x)) there)).1 e
      same_at (flag (variables.Global x)) there e = at (flag (variables.Global x)) there
      same_at a there e = at a there

      pub renewed : Renewed old new
      renewed = record {
        size = size_then;
        table = refl;
        fits = λ x there on. (range_told m p old olds (held z new (value x)) (kind_at x) (number_at z new (offset x))).0 ((value_at x there).0 on);
        raised = λ x there on.
            (flag_changed m p sts (changing (variables.Local x)) (held z old (flag (variables.Local x))) (held z new (flag (variables.Local x))) (at (flag (variables.Local x)) there)).0 on;
        same = same_at;
        sorted = λ a there was. changed_number sts (change_of m p s cells h a) (held z old a) (held z new a) (at a there) was;
      }

    -- ---- to a change

    module _ (first second : code.Variable → ℤ) (set : ℕ → Bool) (sorted : (a : Place) → IsIn z a → is_memory cells a ≡ false → HasSort false (held z old a))
        (fits : (x : code.Variable) → changing x ≡ true → is_content p (count old.table) (kind_at x) (value_of (kind_at x) (first x) (second x)) ≡ true)
        (flags : (x : ℕ) → changing (variables.Local x) ≡ true
        → IsFlag (number_at z old (flag (variables.Local x))) × (is_equal (pos 1) (number_at z old (flag (variables.Local x))) ≡ true → set x ≡ true)) where
      abbrev pub new_at : Place → Datum
      new_at (value x) = if changing x then number (first x) else held z old (value x)
      new_at (offset x) = if changing x && is_pointer_cell (kind_at x) then number (second x) else held z old (offset x)
      new_at (flag (variables.Local x)) = if changing (variables.Local x) then number (flag_of (set x)) else held z old (flag (variables.Local x))
      new_at a = held z old a

      abbrev pub after : State
      after = with_slots old (slots_by z new_at)

      pub after_size : length after.slots ≡ slots_in z
      after_size = (slots_are_what_places_hold z).size new_at

      pub after_held : (a : Place) → IsIn z a → held z after a ≡ new_at a
      after_held a there = (slots_are_what_places_hold z).by new_at a there

      value_to : (x : code.Variable) → IsIn z (value x) → Changed sts (first_change m p (changing x) (kind_at x)) (held z old (value x)) (new_at (value x))
      value_to x there = changed_value m p sts (changing x) (kind_at x) (held z old (value x)) (new_at (value x))
          (λ on. subst (λ d. IsLike (held z old (value x)) d × AllTold sts (map (fact m) (range_facts p (kind_at x))) d) (sym (chosen (changing x) _ _ on))
          (like_number (held z old (value x)) (first x) (sorted (value x) there refl), (range_told m p old olds (number (first x)) (kind_at x) (second x)).1 (fits x on)))
          (λ off. sym (unchosen (changing x) _ _ off))

      offset_to : (x : code.Variable) → IsIn z (offset x) → Changed sts (second_change m p (changing x) (kind_at x)) (held z old (offset x)) (new_at (offset x))
      offset_to x there = changed_offset m p sts (changing x) (kind_at x) (held z old (offset x)) (new_at (offset x))
          (λ on. subst (IsLike (held z old (offset x))) (sym (chosen (changing x && is_pointer_cell (kind_at x)) _ _ on))
          (like_number (held z old (offset x)) (second x) (sorted (offset x) there refl)))
          (λ off. sym (unchosen (changing x && is_pointer_cell (kind_at x)) _ _ off))

      raise : (x : ℕ) → x < length s.variables → changing (variables.Local x) ≡ true → Raised (held z old (flag (variables.Local x))) (number (flag_of (set x)))
      raise x there on =
          subst (λ d. Raised d (number (flag_of (set x)))) (sym (number_is (held z old (flag (variables.Local x))) (sorted (flag (variables.Local x)) there refl)))
          (flag_raised (number_at z old (flag (variables.Local x))) (set x) (flags x on).0 (flags x on).1)

      flag_to : (x : ℕ) → x < length s.variables → Changed sts (flag_change m p (changing (variables.Local x))) (held z old (flag (variables.Local x))) (new_at (flag (variables.Local x)))
      flag_to x there = changed_flag m p sts (changing (variables.Local x)) (held z old (flag (variables.Local x))) (new_at (flag (variables.Local x)))
          (λ on. subst (Raised (held z old (flag (variables.Local x)))) (sym (chosen (changing (variables.Local x)) _ _ on)) (raise x there on))
          (λ off. sym (unchosen (changing (variables.Local x)) _ _ off))

      each_to : (a : Place) → IsIn z a → Changed sts (change_of m p s cells h a) (held z old a) (new_at a)
      each_to (value x) there = value_to x there
      each_to (offset x) there = offset_to x there
      each_to (flag (variables.Local x)) there = flag_to x there
      each_to (flag (variables.Global x)) there = refl
      each_to a there = refl

      pub after_sorted : (a : Place) → IsIn z a → is_memory cells a ≡ false → HasSort false (new_at a)
      after_sorted a there off = changed_number sts (change_of m p s cells h a) (held z old a) (new_at a) (each_to a there) (sorted a there off)

      pub changes_to : Changes sts (changes_by z (change_of m p s cells h)) old.slots after.slots
      changes_to = ((slots_are_what_places_hold z).changes sts (change_of m p s cells h) old.slots after.slots size after_size).1
          (λ a there. subst (Changed sts (change_of m p s cells h a) (held z old a)) (sym (after_held a there)) (each_to a there))
