-- What a function that is called sees: over leaves, and in memory.
use Rattle.std.proofs.Common.{◌≡◌, ◌<◌, ◌≤◌, ℕ, zero, suc, ◌+◌, Bool, true, false, ltb, pos, List, [], ◌∷◌, ◌++◌, map, length, length-append, Option, Some, None, slice_get, refl, sym, ap, ◌∙◌, arith}
use Rattle.std.proofs.lemmas.Bool.{ltb-true, ltb-false}
use Rattle.program_steps.proofs.Filling.{on_bool}
use Rattle.std.specs.Option.{option_map}
use Rattle.typed_prog.specs.Tree as t
use Rattle.typed_prog.specs.declared.operators.Variable.{Variable}
use Rattle.typed_prog.specs.declared.operators.Variable.TheVariants as variables
use Rattle.acsl_trees.specs.Tree as acsl
use Rattle.acsl_trees.specs.declared.heads.Head.TheVariants as head
use Rattle.qed_terms.specs.Tree.{Tree, num}
use Rattle.walk_steps.specs.Forms.{Slots}
use Rattle.walk_steps.specs.State.{at_or}
use Rattle.c_runs.specs.Program as program
use Rattle.c_runs.specs.Program.{Function, Facts}
use Rattle.c_runs.specs.Tree.{Steps}
use Rattle.plain_states.specs.Slots as plain
use Rattle.plain_states.specs.Slots.{answer_slot}
use Rattle.plain_states.specs.Scopes.{kind_of}
use Rattle.plain_runs.specs.Fitting.{Shape, sizes}
use Rattle.value_terms.specs.Readings.{Term, number_term, term_at}
use Rattle.acsl_encode.specs.Readings.{Slot, whole, absent, Seen, Reading, integer, nothing}
use Rattle.acsl_encode.specs.Encode.{formula_of, term_of, all_of}
use Rattle.program_steps.specs.Leaves.{leaf, fill, is_closed, as_integer}
use Rattle.program_steps.specs.Terms.{Texts, body_reading, entry_reading, or_none, claim_tree, assumed_tree, or_zero, common_of, kind_given}
use Rattle.value_words.specs.OverSlots.{fill_term}
use Rattle.value_words.specs.Laws.{AreClosed}
use Rattle.annotation_words.specs.Seen as seen
use Rattle.annotation_words.specs.Seen.{slot_term, common_with}
use Rattle.annotation_words.specs.Claims.{claimed}
use Rattle.annotation_words.specs.Closed.{SlotClosed, SeenClosed, AreMarked, ReadingClosed}
use Rattle.annotation_words.specs.Filled.{fill_slot, fill_seen, filled}
use Rattle.annotation_words.proofs.OverLeaves.{annotations_closed, annotations_filled}
use Rattle.call_words.specs.Callee.{terms_at, argument, param_slot, callee_slot, callee_seen, entered_at, returned_from}
use Rattle.call_walks.specs.View.{numbers_to, arguments_over, entered_over, returned_over, callee_over}
use Rattle.call_walks.proofs.Said.{IsSaid, AreSaid, map_said, all_said}
use Rattle.call_walks.proofs.Levels.{leaf_said, number_filled, number_closed, levels_alike}

-- some annotation, of which nothing is said
any_tree : acsl.Tree
any_tree = acsl.node head.Null acsl.stop

same_at : {X : Type 0} (d : X) (xs : List X) (i : ℕ) → plain.at_or d xs i ≡ at_or d xs i
same_at d [] i = refl
same_at d (x ∷ xs) zero = refl
same_at d (x ∷ xs) (suc i) = same_at d xs i

-- ---- annotations

-- a reading over leaves is closed, and filled it is another one
pub record Sees (ss : List Slots) (r r' : acsl.Tree → Reading) : Type 0 where
  pub closed : (a : acsl.Tree) → ReadingClosed (r a)
  pub filled : (a : acsl.Tree) → filled ss (r a) ≡ r' a

module _ (p : Facts) (s : Shape) (texts : Texts) {ss : List Slots} {r r' : acsl.Tree → Reading} (sees : Sees ss r r') where
  pub claim_said : (a : acsl.Tree) → IsSaid ss (claim_tree p s texts r a) (claimed (formula_of (r' a) a))
  claim_said a = record {
    closed = closed_by (formula_of (r a) a) refl;
    filled =
        filled_by (formula_of (r a) a) ∙ ap claimed (annotations_filled.formulas ss (r a) a (sees.closed a).binders)
        ∙ ap (λ q. claimed (formula_of q a)) (sees.filled a);
  }
    where
      closed_by : (o : Option Tree) → formula_of (r a) a ≡ o → is_closed [] (or_none p s texts o) ≡ true
      closed_by (Some f) e = annotations_closed.formulas (r a) a f (sees.closed a) e
      closed_by None e = refl

      filled_by : (o : Option Tree) → fill ss (or_none p s texts o) ≡ claimed (option_map (fill ss) o)
      filled_by (Some f) = refl
      filled_by None = refl

  pub assumed_said : (as_ : List acsl.Tree) → IsSaid ss (assumed_tree p s texts r as_) (all_of (map (λ a. claimed (formula_of (r' a) a)) as_))
  assumed_said as_ = all_said (map_said (claim_tree p s texts r) (λ a. claimed (formula_of (r' a) a)) claim_said as_)

  pub measure_said : (a : acsl.Tree) → IsSaid ss (or_zero (term_of (r a) a)) (or_zero (term_of (r' a) a))
  measure_said a = record {
    closed = closed_by (term_of (r a) a) refl;
    filled =
        filled_by (term_of (r a) a) ∙ ap or_zero (annotations_filled.numbers ss (r a) a (sees.closed a).binders)
        ∙ ap (λ q. or_zero (term_of q a)) (sees.filled a);
  }
    where
      closed_by : (o : Option Tree) → term_of (r a) a ≡ o → is_closed [] (or_zero o) ≡ true
      closed_by (Some f) e = annotations_closed.numbers (r a) a f (sees.closed a) e
      closed_by None e = refl

      filled_by : (o : Option Tree) → fill ss (or_zero o) ≡ or_zero (option_map (fill ss) o)
      filled_by (Some f) = refl
      filled_by None = refl

-- ---- the caller, where it was entered

module _ (p : Facts) (s : Shape) (texts : Texts) (ss : List Slots) (level : ℕ) where
  itself_seen : Sees ss (entry_reading p s texts level) (λ a. filled ss (entry_reading p s texts level a))
  itself_seen = record { closed = λ a. annotations_closed.bodies p s texts level level level a; filled = λ a. refl }

  pub caller_assumes : (as_ : List acsl.Tree)
      → IsSaid ss (assumed_tree p s texts (entry_reading p s texts level) as_) (fill ss (assumed_tree p s texts (entry_reading p s texts level) as_))
  caller_assumes as_ = record { closed = (assumed_said p s texts itself_seen as_).closed; filled = refl }

  pub caller_measure : (a : acsl.Tree)
      → IsSaid ss (or_zero (term_of (entry_reading p s texts level a) a)) (or_zero (option_map (fill ss) (term_of (entry_reading p s texts level a) a)))
  caller_measure a =
      let said = measure_said p s texts itself_seen a in
      record { closed = said.closed; filled = said.filled ∙ ap or_zero (sym (annotations_filled.numbers ss (entry_reading p s texts level a) a (annotations_closed.bodies p s texts level level level a).binders)) }

-- ---- arguments

slice_last : {X : Type 0} (xs : List X) (y : X) (i : ℕ) → i ≡ length xs → slice_get (xs ++ y ∷ []) i ≡ Some y
slice_last [] y zero e = refl
slice_last [] y (suc i) e = absurd (omega (arith, e))
slice_last (x ∷ xs) y zero e = absurd (omega (arith, e))
slice_last (x ∷ xs) y (suc i) e = slice_last xs y i (omega (arith, e))

slice_front : {X : Type 0} (xs : List X) (y : X) (i : ℕ) → i < length xs → slice_get (xs ++ y ∷ []) i ≡ slice_get xs i
slice_front [] y i lt = absurd (omega (arith, lt))
slice_front (x ∷ xs) y zero lt = refl
slice_front (x ∷ xs) y (suc i) lt = slice_front xs y i (omega (arith, lt))

numbers_long : (ts : List Term) (n : ℕ) → length (numbers_to ts n) ≡ n
numbers_long ts zero = refl
numbers_long ts (suc n) =
    let e = numbers_long ts n in
    let l = length-append (numbers_to ts n) (number_term (term_at ts n) ∷ []) in
    omega (arith, e, l)

number_there : (ts : List Term) (n x : ℕ) → x < n → slice_get (numbers_to ts n) x ≡ Some (number_term (term_at ts x))
number_there ts zero x lt = absurd (omega (arith, lt))
number_there ts (suc n) x lt = on_bool (ltb x n) (λ e. before (ltb-true x n e) (number_there ts n x (ltb-true x n e))) (λ e. last (ltb-false x n e)) where
  last : n ≤ x → slice_get (numbers_to ts n ++ number_term (term_at ts n) ∷ []) x ≡ Some (number_term (term_at ts x))
  last le =
      let same : x ≡ n = omega (arith, le, lt) in
      let l = numbers_long ts n in
      slice_last (numbers_to ts n) (number_term (term_at ts n)) x (omega (arith, same, l)) ∙ ap (λ k. Some (number_term (term_at ts k))) (sym same)

  before : x < n → slice_get (numbers_to ts n) x ≡ Some (number_term (term_at ts x)) → slice_get (numbers_to ts n ++ number_term (term_at ts n) ∷ []) x ≡ Some (number_term (term_at ts x))
  before below so =
      let l = numbers_long ts n in
      slice_front (numbers_to ts n) (number_term (term_at ts n)) x (omega (arith, below, l)) ∙ so

some_below : {X : Type 0} (xs : List X) (i : ℕ) (x : X) → slice_get xs i ≡ Some x → i < length xs
some_below [] i x e = absurd cc
some_below (y ∷ ys) zero x e = omega arith
some_below (y ∷ ys) (suc i) x e = let h = some_below ys i x e in omega (arith, h)

-- ---- the function, where it is called with arguments that are told over the states before

module _ (p : Facts) (s : Shape) (texts : Texts) (g : Function Steps) (es : t.Values) (good : AreClosed p s es) where
  -- over leaves
  param_closed : (l x : ℕ) (o : Option program.Variable) → SlotClosed (param_slot p s texts g es l x o)
  param_closed l x (Some v) = number_closed p s es good l x
  param_closed l x None = tt

  slot_closed : (f l : ℕ) (x : Variable) → SlotClosed (callee_slot p s texts g es f l x)
  slot_closed f l (variables.Global x) = (annotations_closed.bodies p s texts f f f any_tree).here.variables (variables.Global x)
  slot_closed f l (variables.Local x) = param_closed l x (slice_get g.variables x)

  seen_closed : (f l : ℕ) → SeenClosed (callee_seen p s texts g es f l)
  seen_closed f l = record { variables = slot_closed f l; table = tt; numbers = λ k. tt; pointers = tt }

  binders_marked : (a : acsl.Tree) → AreMarked (body_reading p s texts 0 0 0 a)
  binders_marked a = (annotations_closed.bodies p s texts 0 0 0 a).binders

  entered_closed : (l : ℕ) (a : acsl.Tree) → ReadingClosed (entered_at p s texts g es l a)
  entered_closed l a =
      record { here = seen_closed l l; pre = seen_closed l l; post = seen_closed l l; loop_entry = seen_closed l l; result = tt; binders = binders_marked a }

  returned_closed : (a : acsl.Tree) → ReadingClosed (returned_from p s texts g es a)
  returned_closed a = record {
    here = seen_closed 0 1;
    pre = seen_closed 1 1;
    post = seen_closed 0 1;
    loop_entry = seen_closed 1 1;
    result = (leaf_said [] 0 (answer_slot (sizes p s))).closed;
    binders = binders_marked a;
  }

  module _ (ss before : List Slots) (ts : List Tree) (are : ts ≡ arguments_over p s.variables before es (length g.variables)) where
    same_common : (a : acsl.Tree) → common_of p s texts a ≡ common_with p (texts.binders a)
    same_common a = ap (λ (r : Reading). r.common) (annotations_filled.bodies ss p s texts 0 0 0 a)

    module _ (l : ℕ) (same : at_or [] ss l ≡ at_or [] before 0) where
      argument_filled : (x : ℕ) → fill ss (argument p s texts g es l x) ≡ number_term (term_at (map (fill_term before) (terms_at p s 0 es)) x)
      argument_filled x = number_filled ss (terms_at p s l es) x ∙ ap (λ us. number_term (term_at us x)) (levels_alike p s es ss before l same)

      argument_there : (x : ℕ) (v : program.Variable) → slice_get g.variables x ≡ Some v → slice_get ts x ≡ Some (fill ss (argument p s texts g es l x))
      argument_there x v e =
          ap (λ us. slice_get us x) are
          ∙ number_there (map (fill_term before) (terms_at p s 0 es)) (length g.variables) x (some_below g.variables x v e)
          ∙ ap Some (sym (argument_filled x))

      none_there : (o : Option Tree) → absent ≡ seen.argument None o
      none_there (Some u) = refl
      none_there None = refl

      param_filled : (x : ℕ) (o : Option program.Variable) → slice_get g.variables x ≡ o → fill_slot ss (param_slot p s texts g es l x o) ≡ seen.argument o (slice_get ts x)
      param_filled x (Some v) e = sym (ap (seen.argument (Some v)) (argument_there x v e))
      param_filled x None e = none_there (slice_get ts x)

      slot_filled : (f : ℕ) (x : Variable) → fill_slot ss (callee_slot p s texts g es f l x) ≡ (callee_over p texts g.variables (at_or [] ss f) ts).variable x
      slot_filled f (variables.Global x) = ap (λ (r : Reading). r.here.variable (variables.Global x)) (annotations_filled.bodies ss p s texts f f f any_tree)
      slot_filled f (variables.Local x) = param_filled x (slice_get g.variables x) refl

      seen_filled : (f : ℕ) → fill_seen ss (callee_seen p s texts g es f l) ≡ callee_over p texts g.variables (at_or [] ss f) ts
      seen_filled f = λ i. record { variable = λ x. slot_filled f x i; table = None; numbers = λ k. None; pointers = None }

      entered_filled : (a : acsl.Tree) → filled ss (entered_at p s texts g es l a) ≡ entered_over p texts g.variables (at_or [] ss l) ts a
      entered_filled a = λ i. record {
        here = seen_filled l i;
        pre = seen_filled l i;
        post = seen_filled l i;
        loop_entry = seen_filled l i;
        result = nothing;
        common = same_common a i;
        called = texts.called;
      }

      pub entered_sees : {r : acsl.Tree → Reading} → ((a : acsl.Tree) → r a ≡ entered_over p texts g.variables (at_or [] ss l) ts a) → Sees ss (entered_at p s texts g es l) r
      entered_sees e = record { closed = entered_closed l; filled = λ a. entered_filled a ∙ sym (e a) }

    module _ (same : at_or [] ss 1 ≡ at_or [] before 0) where
      returned_filled : (a : acsl.Tree)
          → filled ss (returned_from p s texts g es a) ≡ returned_over p texts g.variables (kind_given g.result) (answer_slot (sizes p s)) (at_or [] ss 0) (at_or [] ss 1) ts a
      returned_filled a = λ i. record {
        here = seen_filled 1 same 0 i;
        pre = seen_filled 1 same 1 i;
        post = seen_filled 1 same 0 i;
        loop_entry = seen_filled 1 same 1 i;
        result = integer (kind_given g.result) (result_filled i);
        common = same_common a i;
        called = texts.called;
      }
        where
          result_filled : fill ss (leaf 0 (answer_slot (sizes p s))) ≡ slot_term (at_or [] ss 0) (answer_slot (sizes p s))
          result_filled = (leaf_said ss 0 (answer_slot (sizes p s))).filled ∙ ap as_integer (same_at (num (pos 0)) (at_or [] ss 0) (answer_slot (sizes p s)))

      pub returned_sees : {r : acsl.Tree → Reading} → ((a : acsl.Tree) → r a ≡ returned_over p texts g.variables (kind_given g.result) (answer_slot (sizes p s)) (at_or [] ss 0) (at_or [] ss 1) ts a)
          → Sees ss (returned_from p s texts g es) r
      returned_sees e = record { closed = returned_closed; filled = λ a. returned_filled a ∙ sym (e a) }
