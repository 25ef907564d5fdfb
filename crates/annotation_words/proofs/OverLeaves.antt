-- Readings over leaves: they are closed, and filled they are those over the slots of states.
use Rattle.std.proofs.Common.{◌≡◌, ℕ, zero, suc, ◌+◌, ◌==◌, Bool, true, false, not, ◌||◌, if◌then◌else◌, pos, List, [], ◌∷◌, ◌++◌, length, slice_get, refl, ap, ◌∙◌}
use Rattle.std.specs.Prelude.{Option, Some, None}
use Rattle.std.specs.Option.{option_map}
use Rattle.std.specs.List.{list_any}
use Rattle.std.specs.Str.{bytes_eq}
use Rattle.typed_prog.specs.declared.operators.Variable.{Variable}
use Rattle.typed_prog.specs.declared.operators.Variable.TheVariants as variables
use Rattle.acsl_trees.specs.Tree as acsl
use Rattle.qed_terms.specs.Tree.{Tree, num, var}
use Rattle.qed_terms.specs.Fresh.{numeral}
use Rattle.c_runs.specs.Program as program
use Rattle.c_runs.specs.Program.{Facts}
use Rattle.plain_states.specs.Slots as plain
use Rattle.plain_states.specs.Slots.{value_slot, local_value, result_slot}
use Rattle.plain_states.specs.Scopes.{kind_of}
use Rattle.plain_runs.specs.Fitting.{Shape, sizes}
use Rattle.walk_steps.specs.State.{at_or}
use Rattle.walk_steps.specs.Forms.{Slots}
use Rattle.program_steps.specs.Leaves.{after_as, leaf_name, leaf, slot_named, as_integer, is_marked, fill, or_false, closed}
use Rattle.program_steps.specs.Terms as terms
use Rattle.program_steps.specs.Terms.{Texts, held_in, global_slot, local_slot, slot_of, common_of, body_reading, return_reading, or_none, claim_tree, kind_given}
use Rattle.program_steps.proofs.Listing.{slot_leaf}
use Rattle.acsl_encode.specs.Readings.{whole, any_integer, Reading, integer}
use Rattle.acsl_encode.specs.Binders.{Spelled, spelled_at, bound_before, numbered}
use Rattle.acsl_encode.specs.Encode.{formula_of}
use Rattle.annotation_words.specs.Seen.{slot_term, of_kind, of_local, variable_slot, in_slots, seen_over, hidden_block, common_with}
use Rattle.annotation_words.specs.Bodies.{body_over, return_over}
use Rattle.annotation_words.specs.Claims.{claimed}
use Rattle.annotation_words.specs.Closed.{IsClosed, SlotClosed, SeenClosed, ReadingClosed}
use Rattle.annotation_words.specs.Filled.{fill_slot, fill_seen, filled}
use Rattle.annotation_words.specs.Laws.{AnnotationsAreClosed, AnnotationsAreFilled}
use Rattle.annotation_words.proofs.Filling.{formula_is_filled, number_is_filled}
use Rattle.annotation_words.proofs.ClosedHeads.{formula_is_closed, number_is_closed}

-- ---- names

after_unmarked : (n : ℕ) (bytes : List ℕ) → is_marked bytes ≡ false → is_marked (after_as n bytes) ≡ false
after_unmarked zero bytes e = e
after_unmarked (suc n) bytes e = after_unmarked n bytes e

leaf_unmarked : (l i : ℕ) → is_marked (leaf_name l i) ≡ false
unfolding leaf_name
leaf_unmarked l i = after_unmarked l (98 ∷ after_as i []) (after_unmarked i [] refl)

pub leaf_closed : (xs : List (List ℕ)) (l i : ℕ) → IsClosed xs (leaf l i)
leaf_closed xs l i = ap (λ b. not b || list_any (bytes_eq (leaf_name l i)) xs) (leaf_unmarked l i)

mark_inside : (base rest : List ℕ) → is_marked (base ++ 33 ∷ rest) ≡ true
mark_inside [] rest = refl
mark_inside (b ∷ base) rest = by (b == 33) (mark_inside base rest) where
  by : (t : Bool) → is_marked (base ++ 33 ∷ rest) ≡ true → (t || is_marked (base ++ 33 ∷ rest)) ≡ true
  by true e = refl
  by false e = e

numbered_marked : (names : Spelled) (n : ℕ) → is_marked (numbered names n) ≡ true
unfolding numbered
numbered_marked names n = mark_inside (spelled_at names n) (numeral (suc (bound_before names (spelled_at names n) n)))

-- ---- leaves that are filled

same_at : {X : Type 0} (d : X) (xs : List X) (i : ℕ) → plain.at_or d xs i ≡ at_or d xs i
same_at d [] i = refl
same_at d (x ∷ xs) zero = refl
same_at d (x ∷ xs) (suc i) = same_at d xs i

pub leaf_filled : (ss : List Slots) (l i : ℕ) → fill ss (leaf l i) ≡ slot_term (at_or [] ss l) i
leaf_filled ss l i =
    ap (λ b. if b then var (leaf_name l i) else as_integer (slot_named (num (pos 0)) ss (leaf_name l i))) (leaf_unmarked l i)
    ∙ ap as_integer (slot_leaf (num (pos 0)) ss l i ∙ same_at (num (pos 0)) (at_or [] ss l) i)

-- ---- variables that are declared with or without a value

held_closed : (v : program.Variable) (t : Tree) → IsClosed [] t → SlotClosed (held_in v t)
held_closed v t good = by v.has_value where
  by : (b : Bool) → SlotClosed (if b then whole (kind_of v) t else any_integer t)
  by true = good
  by false = good

held_filled : (ss : List Slots) (v : program.Variable) (t : Tree) → fill_slot ss (held_in v t) ≡ held_in v (fill ss t)
held_filled ss v t = by v.has_value where
  by : (b : Bool) → fill_slot ss (if b then whole (kind_of v) t else any_integer t) ≡ (if b then whole (kind_of v) (fill ss t) else any_integer (fill ss t))
  by true = refl
  by false = refl

module _ (p : Facts) (s : Shape) where
  -- ---- states

  global_closed : (l x : ℕ) (o : Option program.Variable) → SlotClosed (global_slot p s l x o)
  global_closed l x (Some v) = leaf_closed [] l (value_slot x)
  global_closed l x None = tt

  local_closed : (l x : ℕ) (o : Option program.Variable) → SlotClosed (local_slot p s l x o)
  local_closed l x (Some v) = held_closed v (leaf l (local_value (sizes p s) x)) (leaf_closed [] l (local_value (sizes p s) x))
  local_closed l x None = tt

  slot_closed : (g l : ℕ) (x : Variable) → SlotClosed (slot_of p s g l x)
  slot_closed g l (variables.Global x) = global_closed g x (slice_get p.globals x)
  slot_closed g l (variables.Local x) = local_closed l x (slice_get s.variables x)

  seen_closed : (g l : ℕ) → SeenClosed (terms.seen_at p s g l)
  seen_closed g l = record { variables = slot_closed g l; table = tt; numbers = λ k. tt; pointers = tt }

  module _ (ss : List Slots) where
    global_filled : (l x : ℕ) (o : Option program.Variable) → fill_slot ss (global_slot p s l x o) ≡ of_kind o (slot_term (at_or [] ss l) (value_slot x))
    global_filled l x (Some v) = ap (whole (kind_of v)) (leaf_filled ss l (value_slot x))
    global_filled l x None = refl

    local_filled : (l x : ℕ) (o : Option program.Variable)
        → fill_slot ss (local_slot p s l x o) ≡ of_local o (slot_term (at_or [] ss l) (value_slot (length p.globals + x)))
    local_filled l x (Some v) =
        held_filled ss v (leaf l (local_value (sizes p s) x)) ∙ ap (held_in v) (leaf_filled ss l (local_value (sizes p s) x))
    local_filled l x None = refl

    variable_filled : (g l : ℕ) (x : Variable)
        → fill_slot ss (slot_of p s g l x) ≡ variable_slot p (at_or [] ss g) (in_slots p s.variables (at_or [] ss l)) x
    variable_filled g l (variables.Global x) = global_filled g x (slice_get p.globals x)
    variable_filled g l (variables.Local x) = local_filled l x (slice_get s.variables x)

    seen_filled : (g l : ℕ) → fill_seen ss (terms.seen_at p s g l) ≡ seen_over p (at_or [] ss g) (in_slots p s.variables (at_or [] ss l))
    seen_filled g l = λ i. record { variable = λ x. variable_filled g l x i; table = None; numbers = λ k. None; pointers = None }

  -- ---- readings

  hidden_same : (x : Variable) → terms.hidden_block p s x ≡ hidden_block p x
  hidden_same (variables.Global x) = refl
  hidden_same (variables.Local x) = refl

  module _ (texts : Texts) where
    pub common_same : (a : acsl.Tree) → common_of p s texts a ≡ common_with p (texts.binders a)
    common_same a = λ i. record {
      model = p.model;
      structs = (common_with p (texts.binders a)).structs;
      hidden = λ x. hidden_same x i;
      homes = λ n. None;
      binder = numbered (texts.binders a);
    }

    pub body_closed : (h e g : ℕ) (a : acsl.Tree) → ReadingClosed (body_reading p s texts h e g a)
    body_closed h e g a = record {
      here = seen_closed h h;
      pre = seen_closed e e;
      post = seen_closed h h;
      loop_entry = seen_closed g g;
      result = tt;
      binders = numbered_marked (texts.binders a);
    }

    pub return_closed : (e : ℕ) (a : acsl.Tree) → ReadingClosed (return_reading p s texts e a)
    return_closed e a = record {
      here = seen_closed 0 e;
      pre = seen_closed e e;
      post = seen_closed 0 e;
      loop_entry = seen_closed e e;
      result = leaf_closed [] 0 (result_slot (sizes p s));
      binders = numbered_marked (texts.binders a);
    }

    pub body_filled : (ss : List Slots) (h e g : ℕ) (a : acsl.Tree) → filled ss (body_reading p s texts h e g a)
        ≡ body_over p s texts.called (texts.binders a) (at_or [] ss h) (at_or [] ss e) (at_or [] ss g)
    body_filled ss h e g a = λ i. record {
      here = seen_filled ss h h i;
      pre = seen_filled ss e e i;
      post = seen_filled ss h h i;
      loop_entry = seen_filled ss g g i;
      result = (body_reading p s texts h e g a).result;
      common = common_same a i;
      called = texts.called;
    }

    pub return_filled : (ss : List Slots) (e : ℕ) (a : acsl.Tree)
        → filled ss (return_reading p s texts e a) ≡ return_over p s texts.called (texts.binders a) (at_or [] ss 0) (at_or [] ss e)
    return_filled ss e a = λ i. record {
      here = seen_filled ss 0 e i;
      pre = seen_filled ss e e i;
      post = seen_filled ss 0 e i;
      loop_entry = seen_filled ss e e i;
      result = integer (kind_given s.result) (leaf_filled ss 0 (result_slot (sizes p s)) i);
      common = common_same a i;
      called = texts.called;
    }

    pub claim_filled : (ss : List Slots) (r : acsl.Tree → Reading) (a : acsl.Tree) → ReadingClosed (r a)
        → fill ss (closed (claim_tree p s texts r a)) ≡ claimed (formula_of (filled ss (r a)) a)
    claim_filled ss r a good = by (formula_of (r a) a) refl ∙ ap claimed (formula_is_filled ss (r a) a good.binders) where
      by : (o : Option Tree) → formula_of (r a) a ≡ o → fill ss (closed (or_none p s texts o)) ≡ claimed (option_map (fill ss) o)
      by (Some f) e = ap (λ b. fill ss (or_false b f)) (formula_is_closed (r a) a f good e)
      by None e = refl

pub annotations_closed : AnnotationsAreClosed
annotations_closed = record {
  formulas = formula_is_closed;
  numbers = number_is_closed;
  bodies = body_closed;
  returns = return_closed;
}

pub annotations_filled : AnnotationsAreFilled
annotations_filled = record {
  formulas = formula_is_filled;
  numbers = number_is_filled;
  claims = λ ss p s texts r a good. claim_filled p s texts ss r a good;
  bodies = λ ss p s texts h e g a. body_filled p s texts ss h e g a;
  returns = λ ss p s texts e a. return_filled p s texts ss e a;
}
