-- All forms, terms and changes of words are good.
use Rattle.std.proofs.Common.{◌≡◌, ◌≤◌, ◌<◌, ℕ, zero, suc, ◌+◌, Bool, true, false, ◌&&◌, if◌then◌else◌, pos, List, [], ◌∷◌, ◌++◌, map, length, Option, Some, None, slice_get, refl, sym, ap, ◌∙◌, subst, arith, le_refl}
use Rattle.std.proofs.lemmas.Bool.{false≢true}
use Rattle.std.proofs.lemmas.Bool.Decides.{Decides-ltb}
use Rattle.wp_base.specs.declared.kinds.CellKind.{CellKind}
use Rattle.wp_base.specs.declared.kinds.CellKind.TheVariants as cell
use Rattle.typed_prog.specs.declared.types.CoreType.{CoreType}
use Rattle.typed_prog.specs.declared.operators.Path.{Path}
use Rattle.typed_prog.specs.declared.operators.Variable.TheVariants as variables
use Rattle.typed_prog.specs.Tree as t
use Rattle.qed_terms.specs.Meaning as sense
use Rattle.qed_terms.specs.Tree.{Tree, num, false_tree, not_of}
use Rattle.same_memories.specs.Alike.{Respects}
use Rattle.acsl_encode.specs.Encode as encode
use Rattle.c_runs.specs.Program as program
use Rattle.c_runs.specs.Program.{Claim, Behavior, Together, Contract, Function, Loop, Facts}
use Rattle.c_runs.specs.Objects.{is_plain_in, plain_root, cell_of}
use Rattle.c_runs.specs.Claims as broken
use Rattle.c_runs.specs.Claims.{in_order}
use Rattle.c_runs.specs.Tree as core
use Rattle.value_terms.specs.Readings.{Term, number_term, block_term, offset_term, as_pointer, plain_global}
use Rattle.value_terms.specs.Words.{Item, asked, known, word_of, words}
use Rattle.value_terms.specs.Places.{way_items}
use Rattle.walk_steps.specs.Forms.{Place as CheckPlace}
use Rattle.program_steps.specs.Stops.{broken_place}
use Rattle.program_steps.specs.Temporaries.{Temporaries, no_temporaries}
use Rattle.memory_steps.specs.State.{Base}
use Rattle.memory_steps.specs.Forms.{Check, forms, IsForm, IsTerm, AreForms, AreFacts}
use Rattle.memory_steps.specs.Step as step
use Rattle.memory_steps.specs.Step.{Change, keeps, fresh, Step, sort_at, IsChange, AreChanges, IsGood}
use Rattle.memory_words.specs.Places.{Place, Sizes, IsIn, slot, value, offset, flag, result, result_offset, answer, answer_offset, temporary, temporary_offset, numbers, blocks, offsets, changes_by}
use Rattle.memory_words.specs.Leaves as leaves
use Rattle.memory_words.specs.Leaves.{form, fact}
use Rattle.memory_words.proofs.Filling.{forms_are_good}
use Rattle.memory_words.proofs.Lists.{found_below}
use Rattle.memory_words.specs.Shapes.{FileCells, Shape, sizes, kind_of, is_pointer_cell}
use Rattle.memory_words.specs.Readings.{Texts, leaf, term_of_kind, reading, body_reading, return_reading}
use Rattle.memory_words.specs.Bases.{AreSorted}
use Rattle.memory_words.specs.Points.{Open, Point, in_block}
use Rattle.memory_words.specs.Renewal.{Leave, of_regions, number_facts, pointer_facts, changed_if, first_change, second_change, renewal}
use Rattle.memory_words.specs.Sets.{claim_tree, under, variable_trees, cell_trees, since}
use Rattle.memory_words.specs.Regions.{any_of}
use Rattle.memory_words.specs.Words as word
use Rattle.memory_words.specs.Words.{Others, check, items_step, set_number, set_memory, set_value, assign, set_variable, put_cell, store_cell, drop, arms, known_test, has_cell_of, any_facts, is_value_of, is_offset_of, any_change, opened, all_opened, block_opened, scope_ends, all_end, open_scope, in_scope_of, has_home, in_pass, store_by, rest_of}
use Rattle.memory_words.specs.Typed.{OtherFits, LeadsTo, to_local, to_global, to_cell, WordFits, AllFit, Takes}
use Rattle.memory_functions.specs.GoalFunctions.{is_param, numbers_from, behavior_tree, named_trees, no_two, together_check, ensure_check, ensure_checks, all_ensured, param_made, params_made, all_params, body_point, ending, in_params}
use Rattle.memory_functions.specs.GoodLaws.{OthersAreGood, WordsAreGood, ParamsAreStored, FunctionsAreGood}

pub plain_below : (x : ℕ) (xs : List program.Variable) → is_plain_in (slice_get xs x) ≡ true → x < length xs
plain_below x xs h = by (slice_get xs x) refl h where
  by : (o : Option program.Variable) → slice_get xs x ≡ o → is_plain_in o ≡ true → x < length xs
  by None e h = absurd (false≢true h)
  by (Some v) e h = found_below xs x v e

-- ---- forms and facts

module _ (m : sense.World) (r : Respects m) where
  pub good_form : (f : Tree) → IsForm m (form m f)
  good_form f = (forms_are_good m r f).form

  pub all_good : (z : Sizes) (fs : List Tree) (a : CheckPlace) → AreForms m (forms (map (λ f. check m z f a) fs))
  all_good z [] a = tt
  all_good z (f ∷ fs) a = (good_form f, all_good z fs a)

  pub known_good : (fs : List Tree) → AreForms m (map (form m) fs)
  known_good [] = tt
  known_good (f ∷ fs) = (good_form f, known_good fs)

  pub facts_good : (fs : List Tree) → AreFacts m (map (fact m) fs)
  facts_good [] = tt
  facts_good (f ∷ fs) = ((forms_are_good m r f).fact, facts_good fs)

  -- a change of each place that is good for whatever slot
  abbrev pub IsSafe : Change → Type 0
  IsSafe c = (b : Base) → IsChange m b c

  pub safe_all : (bases : List Base) (f : Place → Change) → ((a : Place) → IsSafe (f a)) → (as_ : List Place) → AreChanges m bases (map f as_)
  safe_all bases f h [] = tt
  safe_all [] f h (a ∷ as_) = tt
  safe_all (b ∷ bases) f h (a ∷ as_) = (h a b, safe_all bases f h as_)

-- ---- words

module _ (m : sense.World) (r : Respects m) (z : Sizes) (cells : FileCells) (bases : List Base) (sorted : AreSorted z cells bases) where
  abbrev Good : Step → Type 0
  Good a = IsGood m bases a

  pub items_good : (is : List Item) → Good (items_step m z is)
  items_good [] = tt
  items_good (asked c f ∷ is) = ((good_form m r f, tt), items_good is)
  items_good (known f ∷ is) = ((good_form m r f, tt), items_good is)

  pub number_good : (a : Place) (u : Tree) → IsIn z a → sort_at bases (slot z a) ≡ false → Good (set_number m z a u)
  number_good a u i e = subst (λ b. IsTerm m b (leaves.number_term m u)) (sym e) (forms_are_good m r u).number

  pub memory_good : (a : Place) (u : Tree) → sort_at bases (slot z a) ≡ true → Good (set_memory m z a u)
  memory_good a u e = subst (λ b. IsTerm m b (leaves.memory_term m u)) (sym e) (forms_are_good m r u).memory

  -- places of numbers
  pub record IsNumberPlace (a : Place) : Type 0 where
    pub there : IsIn z a
    pub sort : sort_at bases (slot z a) ≡ false

  pub put_good : (a : Place) (u : Tree) → IsNumberPlace a → Good (set_number m z a u)
  put_good a u h = number_good a u h.there h.sort

  pub set_good : (k : CellKind) (a b : Place) (v : Term) → IsNumberPlace a → IsNumberPlace b → Good (set_value m z k a b v)
  set_good (cell.Of k) a b v h i = put_good a (number_term v) h
  set_good cell.Ptr a b v h i = (put_good a (block_term v) h, put_good b (offset_term v) i)

  pub in_answer : IsNumberPlace answer
  in_answer = record { there = tt; sort = sorted answer tt }

  pub in_answer_offset : IsNumberPlace answer_offset
  in_answer_offset = record { there = tt; sort = sorted answer_offset tt }

  pub assign_good : (k : CellKind) (a b : Place) (v : Term) → IsNumberPlace a → IsNumberPlace b → Good (assign m z k a b v)
  assign_good (cell.Of k) a b v h i = put_good a (number_term v) h
  assign_good cell.Ptr a b v h i = (put_good answer (block_term v) in_answer, (put_good b (offset_term v) i, put_good a (leaves.leaf z 0 answer) h))

  pub temporary_good : (k : CellKind) (n : ℕ) (v : Term) → n < z.temporaries → Good (word.set_temporary m z k n v)
  temporary_good k n v h =
      assign_good k (temporary n) (temporary_offset n) v (record { there = h; sort = sorted (temporary n) h }) (record { there = h; sort = sorted (temporary_offset n) h })

  pub local_good : (k : CellKind) (x : ℕ) (v : Term) → x < z.locals → Good (set_variable m z k (variables.Local x) v)
  local_good k x v h = (
    assign_good k (value (variables.Local x)) (offset (variables.Local x)) v (record { there = h; sort = sorted (value (variables.Local x)) h })
        (record { there = h; sort = sorted (offset (variables.Local x)) h }),
    put_good (flag (variables.Local x)) (num (pos 1)) (record { there = h; sort = sorted (flag (variables.Local x)) h }),
  )

  pub global_good : (k : CellKind) (x : ℕ) (v : Term) → x < z.globals → Good (set_variable m z k (variables.Global x) v)
  global_good k x v h = (
    assign_good k (value (variables.Global x)) (offset (variables.Global x)) v (record { there = h; sort = sorted (value (variables.Global x)) h })
        (record { there = h; sort = sorted (offset (variables.Global x)) h }),
    put_good (flag (variables.Global x)) (num (pos 1)) (record { there = h; sort = sorted (flag (variables.Global x)) h }),
  )

  pub put_cell_good : (k : CellKind) (a : Term) → cells.has_kind k ≡ true → Good (put_cell m z k a)
  put_cell_good (cell.Of k) a h = memory_good (numbers k) (word.store_of m z (leaves.memory_leaf z 0 (numbers k)) a (leaves.leaf z 0 answer)) (sorted (numbers k) tt ∙ h)
  put_cell_good cell.Ptr a h = (
    memory_good blocks (word.store_of m z (leaves.memory_leaf z 0 blocks) a (leaves.leaf z 0 answer)) (sorted blocks tt ∙ h),
    memory_good offsets (word.store_of m z (leaves.memory_leaf z 0 offsets) a (leaves.leaf z 0 answer_offset)) (sorted offsets tt ∙ h),
  )

  pub store_cell_good : (k : CellKind) (a : ℕ → Term) (v : Term) → cells.has_kind k ≡ true → Good (store_cell m z k a v)
  store_cell_good (cell.Of k) a v h = (set_good (cell.Of k) answer answer_offset v in_answer in_answer_offset, put_cell_good (cell.Of k) (a 0) h)
  store_cell_good cell.Ptr a v h = (set_good cell.Ptr answer answer_offset v in_answer in_answer_offset, put_cell_good cell.Ptr (a 1) h)

  pub drop_good : (n : ℕ) (f : Temporaries) → n ≤ z.temporaries → Good (drop m z n f)
  drop_good zero f h = tt
  drop_good (suc n) f h = (drop_good n f (omega (arith, h)), by (f n)) where
    below : n < z.temporaries
    below = omega (arith, h)

    by : (b : Bool) → Good (if b then step.seq (set_number m z (temporary n) (num (pos 0))) (set_number m z (temporary_offset n) (num (pos 0))) else step.skip)
    by true = (
      put_good (temporary n) (num (pos 0)) (record { there = below; sort = sorted (temporary n) below }),
      put_good (temporary_offset n) (num (pos 0)) (record { there = below; sort = sorted (temporary_offset n) below }),
    )
    by false = tt

  pub arms_good : (o : Option Bool) (g : Tree) (a b : Step) → Good a → Good b → Good (arms m z o g a b)
  arms_good None g a b x y = (good_form m r g, x, y)
  arms_good (Some true) g a b x y = ((good_form m r g, tt), x)
  arms_good (Some false) g a b x y = ((good_form m r (not_of g), tt), y)

  pub renewal_good : (f : CellKind → Bool) (w : Leave) → Good (renewal z f w m)
  renewal_good f w = (safe_all m r bases (first_change z f w m) first _, safe_all m r bases (second_change z f w m) second _) where
    if_good : (b : Bool) (fs : List Tree) → IsSafe m r (changed_if z f w m b fs)
    if_good true fs x = facts_good m r fs
    if_good false fs x = tt

    first : (a : Place) → IsSafe m r (first_change z f w m a)
    first (numbers k) b = if_good (f (cell.Of k)) (number_facts z f w k) b
    first blocks b = if_good (f cell.Ptr) [] b
    first (value x) b = tt
    first (offset x) b = tt
    first (flag x) b = tt
    first result b = tt
    first result_offset b = tt
    first answer b = tt
    first answer_offset b = tt
    first (temporary n) b = tt
    first (temporary_offset n) b = tt
    first offsets b = tt

    second : (a : Place) → IsSafe m r (second_change z f w m a)
    second offsets b = if_good (f cell.Ptr) (pointer_facts z f w) b
    second (numbers k) b = tt
    second blocks b = tt
    second (value x) b = tt
    second (offset x) b = tt
    second (flag x) b = tt
    second result b = tt
    second result_offset b = tt
    second answer b = tt
    second answer_offset b = tt
    second (temporary n) b = tt
    second (temporary_offset n) b = tt

-- ---- statements

module _ (m : sense.World) (r : Respects m) (p : Facts) (s : Shape) (cells : FileCells) (bases : List Base) (sorted : AreSorted (sizes p s) cells bases) where
  any_good : (k : CellKind) (x : ℕ) (a : Place) → IsSafe m r (any_change m p s cells k x a)
  any_good k x a b = by (is_value_of x a) (is_pointer_cell k && is_offset_of x a) where
    by : (v o : Bool) → IsChange m b (if v then fresh (map (fact m) (any_facts k)) else if o then fresh [] else keeps)
    by true o = facts_good m r (any_facts k)
    by false true = tt
    by false false = tt

  pub block_good : (x : ℕ) (v : program.Variable) → x < length s.variables → IsGood m bases (block_opened m p s cells x v)
  block_good x v h = (
    sorted (value (variables.Local x)) h,
    renewal_good m r (sizes p s) cells bases sorted (λ k. cells.has_kind k && has_cell_of v.layout k) (of_regions (leaves.leaf (sizes p s) 2 (value (variables.Local x)) ∷ []) []),
  )

  plain_good : (x : ℕ) (v : program.Variable) → x < length s.variables → IsGood m bases (word.plain_opened m p s cells x v)
  plain_good x v h = by v.has_value where
    by : (b : Bool)
        → IsGood m bases (if b then set_variable m (sizes p s) (kind_of v) (variables.Local x) (word.zero_term m p s cells (kind_of v))
        else step.seq (step.change (changes_by (sizes p s) (any_change m p s cells (kind_of v) x))) (set_number m (sizes p s) (flag (variables.Local x)) (num (pos 0))))
    by true = local_good m r (sizes p s) cells bases sorted (kind_of v) x (word.zero_term m p s cells (kind_of v)) h
    by false = (safe_all m r bases (any_change m p s cells (kind_of v) x) (any_good (kind_of v) x) _, number_good m r (sizes p s) cells bases sorted _ (num (pos 0)) h (sorted (flag (variables.Local x)) h))

  opened_good : (x : ℕ) (o : Option program.Variable) → slice_get s.variables x ≡ o → IsGood m bases (opened m p s cells x o)
  opened_good x None e = tt
  opened_good x (Some v) e = by v.is_plain where
    below : x < length s.variables
    below = found_below s.variables x v e

    by : (b : Bool) → IsGood m bases (if b then word.plain_opened m p s cells x v else block_opened m p s cells x v)
    by true = plain_good x v below
    by false = block_good x v below

  opens_good : (ys : List ℕ) → IsGood m bases (all_opened m p s cells ys)
  opens_good [] = tt
  opens_good (x ∷ ys) = (opened_good x (slice_get s.variables x) refl, opens_good ys)

  pub ends_good : (o : Open) → IsGood m bases (scope_ends m p s cells o)
  ends_good o = (tt, renewal_good m r (sizes p s) cells bases sorted o.has_kind (of_regions (since (suc (suc (suc o.level))) ∷ []) []))

  all_ends_good : (os : List Open) → IsGood m bases (all_end m p s cells os)
  all_ends_good [] = tt
  all_ends_good (o ∷ os) = (ends_good o, all_ends_good os)

module _ (m : sense.World) (r : Respects m) (p : Facts) (s : Shape) (cells : FileCells) (texts : Texts) (contract : Contract) (others : Others) (bases : List Base)
    (sorted : AreSorted (sizes p s) cells bases) where
  z : Sizes
  z = sizes p s

  abbrev GoodIn : Step → Type 0
  GoodIn a = IsGood m bases a

  value_good : (e : t.Value) → GoodIn (word.value_step m p s cells texts contract others e)
  value_good e = items_good m r (sizes p s) cells bases sorted (word_of p s.variables (reading p s cells) e)

  pub values_good : (es : t.Values) → GoodIn (word.values_step m p s cells texts contract others es)
  values_good es = items_good m r (sizes p s) cells bases sorted (words p s.variables (reading p s cells) es)

  -- ---- stores

  pub to_variable_good : (pt : Point) (l : ℕ) (k : CellKind) (x : ℕ) (v : Term) → x < length s.variables
      → GoodIn (word.store_to_variable m p s cells texts contract others pt l k (variables.Local x) v)
  to_variable_good pt l k x v h = (
    all_good m r (sizes p s) (variable_trees p s cells texts contract pt (variables.Local x)) (broken_place broken.assigns l),
    local_good m r (sizes p s) cells bases sorted k x v h,
  )

  pub to_global_good : (pt : Point) (l : ℕ) (k : CellKind) (x : ℕ) (v : Term) → x < length p.globals
      → GoodIn (word.store_to_variable m p s cells texts contract others pt l k (variables.Global x) v)
  to_global_good pt l k x v h = (
    all_good m r (sizes p s) (variable_trees p s cells texts contract pt (variables.Global x)) (broken_place broken.assigns l),
    global_good m r (sizes p s) cells bases sorted k x v h,
  )

  pub to_cell_good : (pt : Point) (l : ℕ) (type : CoreType) (path : Path) (ts : ℕ → List Term) (v : Term) → cells.has_kind (cell_of type) ≡ true
      → GoodIn (word.store_to_cell m p s cells texts contract others pt l type path ts v)
  to_cell_good pt l type path ts v h = (
    items_good m r (sizes p s) cells bases sorted (way_items p (reading p s cells) type path (ts 0)),
    (
      all_good m r (sizes p s) (cell_trees p s cells texts contract pt (cell_of type) (block_term (word.address_at m p s cells texts contract others path ts 0))
          (offset_term (word.address_at m p s cells texts contract others path ts 0))) (broken_place broken.assigns l),
      store_cell_good m r (sizes p s) cells bases sorted (cell_of type) (word.address_at m p s cells texts contract others path ts) v h,
    ),
  )

  -- where the way leads to
  pub store_good : (pt : Point) (l : ℕ) (type : CoreType) (path : Path) (ts : ℕ → List Term) (v : Term) (i : ℕ → Bool) (f : Temporaries) (us : List Term)
      → LeadsTo p s cells i f type path us → GoodIn (word.store_to m p s cells texts contract others pt l type path ts v)
  store_good pt l type path ts v i f us (to_local x y at_root _ found plain kind scoped) =
      subst (λ rt. GoodIn (store_by m p s cells texts contract others (plain_root s.variables rt) (plain_global p.globals rt) pt l type path ts v)) (sym at_root)
      (subst (λ b. GoodIn (store_by m p s cells texts contract others (if b then Some x else None) None pt l type path ts v)) (sym (ap is_plain_in found ∙ plain))
      (to_variable_good pt l (cell_of type) x v (found_below s.variables x y found)))
  store_good pt l type path ts v i f us (to_global x y at_root _ found plain kind) =
      subst (λ rt. GoodIn (store_by m p s cells texts contract others (plain_root s.variables rt) (plain_global p.globals rt) pt l type path ts v)) (sym at_root)
      (subst (λ b. GoodIn (store_by m p s cells texts contract others None (if b then Some x else None) pt l type path ts v)) (sym (ap is_plain_in found ∙ plain))
      (to_global_good pt l (cell_of type) x v (found_below p.globals x y found)))
  store_good pt l type path ts v i f us (to_cell no_local no_global has_blocks has_kind typed closed closed_address) =
      subst (λ o. GoodIn (store_by m p s cells texts contract others o (plain_global p.globals path.root) pt l type path ts v)) (sym no_local)
      (subst (λ o. GoodIn (store_by m p s cells texts contract others None o pt l type path ts v)) (sym no_global) (to_cell_good pt l type path ts v has_kind))

  -- ---- a declared variable

  pub started_good : (x : ℕ) (y : program.Variable) (v : Term) → slice_get s.variables x ≡ Some y → (y.is_plain ≡ false → cells.has_kind (kind_of y) ≡ true)
      → GoodIn (word.start_of m p s cells texts contract others x (Some y) v)
  started_good x y v e h = by y.is_plain refl where
    by : (b : Bool) → y.is_plain ≡ b
        → IsGood m bases (if b then set_variable m (sizes p s) (kind_of y) (variables.Local x) v
        else store_cell m (sizes p s) (kind_of y) (λ l. as_pointer (leaf p s cells l (value (variables.Local x))) (num (pos 0))) v)
    by true q = local_good m r (sizes p s) cells bases sorted (kind_of y) x v (found_below s.variables x y e)
    by false q = store_cell_good m r (sizes p s) cells bases sorted (kind_of y) _ v (h q)

  pub start_good : (i : ℕ → Bool) (x : ℕ) (k : CellKind) (v : Term) → Takes s cells i x k → GoodIn (word.start_of m p s cells texts contract others x (slice_get s.variables x) v)
  start_good i x k v h =
      subst (λ o. GoodIn (word.start_of m p s cells texts contract others x o v)) (sym h.found)
      (started_good x h.variable v h.found (λ plain. ap cells.has_kind h.kind ∙ (h.one_cell plain).2))

  -- ---- ways out

  result_good : (o : Option CellKind) (v : Term) → GoodIn (word.result_set m p s cells texts contract others o v)
  result_good None v = tt
  result_good (Some k) v =
      set_good m r (sizes p s) cells bases sorted k result result_offset v (record { there = tt; sort = sorted result tt }) (record { there = tt; sort = sorted result_offset tt })

  dropped_good : (f g : Temporaries) → GoodIn (word.dropped m p s cells texts contract others f g)
  dropped_good f g = drop_good m r (sizes p s) cells bases sorted s.temporaries _ (le_refl s.temporaries)

  leave_good : (pt : Point) → GoodIn (word.leave_all m p s cells texts contract others pt)
  leave_good pt = (all_ends_good m r p s cells bases sorted _, tt)

  scope_good : (b : Bool) (pt : Point) (ys : List ℕ) (inner : Point → Step) → GoodIn (inner (in_scope_of s cells b pt ys))
      → GoodIn (word.scope_word m p s cells texts contract others b pt ys inner)
  scope_good true pt ys inner h = (opens_good m r p s cells bases sorted ys, (h, ends_good m r p s cells bases sorted (open_scope s cells ys)))
  scope_good false pt ys inner h = (opens_good m r p s cells bases sorted ys, h)

  module _ (fits : OtherFits) (good : OthersAreGood m bases fits others) where
    mutual
      step_good : (a : core.Step) (pt : Point) (f : Temporaries) → WordFits m p s cells texts fits pt f a → GoodIn (word.step m p s cells texts contract others pt a f)
      step_good (core.set cs n e) pt f h = (value_good e, temporary_good m r (sizes p s) cells bases sorted (s.temp_kind n) n _ h.0)
      step_good (core.store cs type l path es) pt f h = (values_good es, store_good pt l type path _ _ _ _ _ h.way)
      step_good (core.start cs x e) pt f h = (value_good e, start_good _ x h.0 _ h.1)
      step_good (core.call cs to n l es) pt f h = good.call pt f cs to n l es h
      step_good (core.branch cs e a b) pt f h = (
        value_good e,
        arms_good m r (sizes p s) cells bases sorted (known_test e) _ _ _ (dropped_good _ _, steps_good a pt f h.3) (dropped_good _ _, steps_good b pt f h.4),
      )
      step_good (core.repeat l ss) pt f h = good.loop pt l ss (word.steps m p s cells texts contract others (in_pass l pt) ss (λ n. false)) h.0 (steps_good ss (in_pass l pt) (λ n. false) h.1)
      step_good (core.around ss) pt f h = steps_good ss (in_block f pt) f h
      step_good (core.exit k) pt f h = (all_ends_good m r p s cells bases sorted _, tt)
      step_good (core.give cs None) pt f h = leave_good pt
      step_good (core.give cs (Some e)) pt f h =
          (value_good e, (result_good s.result _, (drop_good m r (sizes p s) cells bases sorted s.temporaries _ (le_refl s.temporaries), leave_good pt)))
      step_good (core.claim c) pt f h = (good_form m r (claim_tree (body_reading p s cells texts pt.stands) c.what), tt)
      step_good (core.scope ys ss) pt f h =
          scope_good (has_home s.variables ys) pt ys _ (steps_good ss (in_scope_of s cells (has_home s.variables ys) pt ys) f h.1)

      steps_good : (ss : core.Steps) (pt : Point) (f : Temporaries) → AllFit m p s cells texts fits pt f ss → GoodIn (word.steps m p s cells texts contract others pt ss f)
      steps_good core.end pt f h = tt
      steps_good (core.then_ a ss) pt f h = (step_good a pt _ h.0, (dropped_good _ _, steps_good ss pt f h.1))

pub words_are_good : (fits : OtherFits) → WordsAreGood fits
words_are_good fits m r p s cells texts contract others bases sorted good pt f ss h = steps_good m r p s cells texts contract others bases sorted fits good ss pt f h

-- ---- functions

module _ (m : sense.World) (r : Respects m) where
  are_append : (cs ds : List Check) → AreForms m (forms cs) → AreForms m (forms ds) → AreForms m (forms (cs ++ ds))
  are_append [] ds h k = k
  are_append (c ∷ cs) ds h k = (h.0, are_append cs ds h.1 k)

  module _ (p : Facts) (s : Shape) (cells : FileCells) (texts : Texts) (n : ℕ) where
    together_good : (bs : List Behavior) (t : Together) → IsForm m ((together_check m p s cells texts n bs t).form)
    together_good bs t = by t.is_complete where
      by : (b : Bool)
          → IsForm m ((if b then check m (sizes p s) (any_of (named_trees m p s cells texts n bs t.numbers)) (broken_place broken.complete t.line)
          else check m (sizes p s) (encode.all_of (no_two (named_trees m p s cells texts n bs t.numbers))) (broken_place broken.disjoint t.line)).form)
      by true = good_form m r (any_of (named_trees m p s cells texts n bs t.numbers))
      by false = good_form m r (encode.all_of (no_two (named_trees m p s cells texts n bs t.numbers)))

    togethers_good : (bs : List Behavior) (ts : List Together) → AreForms m (forms (map (together_check m p s cells texts n bs) ts))
    togethers_good bs [] = tt
    togethers_good bs (t ∷ ts) = (together_good bs t, togethers_good bs ts)

    ensures_good : (plain : Bool) (b : Behavior) (cs : List Claim) → AreForms m (forms (map (ensure_check m p s cells texts n plain b) cs))
    ensures_good plain b [] = tt
    ensures_good plain b (c ∷ cs) =
        (good_form m r (under plain (behavior_tree m p s cells texts n b) (claim_tree (return_reading p s cells texts 1 (is_param n)) c.what)), ensures_good plain b cs)

    ensured_good : (bs : List Behavior) → AreForms m (forms (all_ensured m p s cells texts n bs))
    ensured_good [] = tt
    ensured_good (b ∷ bs) = are_append (ensure_checks m p s cells texts n false b) (all_ensured m p s cells texts n bs) (ensures_good false b b.ensures) (ensured_good bs)

    module _ (bases : List Base) (sorted : AreSorted (sizes p s) cells bases) where
      ending_good : (o : Option CellKind) (l : ℕ) → IsGood m bases (ending m p s cells texts n o l)
      ending_good None l = tt
      ending_good (Some k) l = ((good_form m r false_tree, tt), tt)

      made_good : (stored : ParamsAreStored s cells n) (x : ℕ) (o : Option program.Variable) → slice_get s.variables x ≡ o → is_param n x ≡ true
          → IsGood m bases (param_made m p s cells texts n x o)
      made_good stored x None e h = tt
      made_good stored x (Some v) e h = by v.is_plain refl where
        by : (b : Bool) → v.is_plain ≡ b
            → IsGood m bases (if b then step.skip else step.seq (block_opened m p s cells x v)
            (store_cell m (sizes p s) (kind_of v) (λ l. as_pointer (leaf p s cells l (value (variables.Local x))) (num (pos 0)))
            (term_of_kind (kind_of v) (leaf p s cells 1 (value (variables.Local x))) (leaf p s cells 1 (offset (variables.Local x))))))
        by true q = tt
        by false q = (block_good m r p s cells bases sorted x v (found_below s.variables x v e), store_cell_good m r (sizes p s) cells bases sorted (kind_of v) _ _ (stored x v e h q))

      from_good : ParamsAreStored s cells n → (first count : ℕ) → first + count ≤ n → IsGood m bases (params_made m p s cells texts n (numbers_from first count))
      from_good stored first zero h = tt
      from_good stored first (suc k) h =
          (made_good stored first (slice_get s.variables first) refl ((Decides-ltb first n).1 (omega (arith, h))), from_good stored (suc first) k (omega (arith, h)))

      body_good : (stored : ParamsAreStored s cells n) (b : Bool) (inner : Step) → IsGood m bases inner → IsGood m bases (in_params m p s cells texts n b inner)
      body_good stored true inner h = (from_good stored 0 n (omega arith), (h, ends_good m r p s cells bases sorted (open_scope s cells (all_params m p s cells texts n))))
      body_good stored false inner h = h

pub functions_are_good : (fits : OtherFits) → FunctionsAreGood fits
functions_are_good fits m r p s cells texts others bases sorted good own f stored h = (
  togethers_good m r p s cells texts f.params f.contract.behaviors (in_order f.contract.together),
  (
    body_good m r p s cells texts f.params bases sorted stored (has_home s.variables (all_params m p s cells texts f.params)) _ (
      steps_good m r p s cells texts f.contract others bases sorted fits good f.body (body_point m p s cells texts f.params own) no_temporaries h,
      ending_good m r p s cells texts f.params bases sorted f.result f.end,
    ),
    are_append m r (ensure_checks m p s cells texts f.params true f.contract.plain) (all_ensured m p s cells texts f.params f.contract.behaviors)
        (ensures_good m r p s cells texts f.params true f.contract.plain f.contract.plain.ensures) (ensured_good m r p s cells texts f.params f.contract.behaviors),
  ),
)
