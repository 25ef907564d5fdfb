-- Slots in which the word of a function may start are those of a world in which it is entered as it asks for.
use Rattle.std.proofs.Common.{◌≡◌, ◌⊎◌, ℕ, zero, suc, ◌+◌, ◌-◌, ◌<◌, ◌≤◌, ℤ, pos, negsuc, Bool, true, false, not, ◌&&◌, ◌||◌, if◌then◌else◌, List, [], ◌∷◌, ◌++◌, map, length, Option, Some, None, slice_get, refl, sym, ap, ◌∙◌, subst, inl, inr, length-append, arith}
use Rattle.std.specs.Prelude.{nat_lt, int_le}
use Rattle.std.specs.List.{list_all}
use Rattle.std.proofs.lemmas.Bool.{false≢true, and_parts, ltb-true, ltb-false, lt-ltb}
use Rattle.wp_base.specs.declared.kinds.CellKind.{CellKind}
use Rattle.wp_base.specs.declared.kinds.Kind.{Kind}
use Rattle.wp_base.specs.Blocks.{Table, block_at, has_cell, is_cell, len}
use Rattle.c_kinds.specs.Models.{low, high, holds, difference_kind}
use Rattle.c_runs.specs.TruthStates as labelled
use Rattle.c_runs.specs.TruthStates.{Value, number}
use Rattle.qed_terms.specs.Meaning as sense
use Rattle.qed_terms.specs.Meaning.{truth}
use Rattle.qed_terms.specs.Setting.{Setting, world_of}
use Rattle.qed_terms.specs.Tree.{Tree, num, at_most}
use Rattle.c_runs.specs.Program.{Variable, Claim, Behavior, Contract, Function, Facts, Program}
use Rattle.c_runs.specs.States.{Memory, World, no_locals}
use Rattle.c_runs.specs.Claims as broken
use Rattle.c_runs.specs.Claims.{Stop, at_entry, is_assumed, is_required, all_hold, unless_true, required, parts_of}
use Rattle.c_runs.specs.Calls.{Eval, gives, stops}
use Rattle.c_runs.specs.Scopes.{scalar_of}
use Rattle.c_runs.specs.Entry.{IsWellFormed, is_value, is_placed, Enters, are_arguments, all_lead_well}
use Rattle.c_runs.specs.Tree.{Steps}
use Rattle.goal_segments.specs.Segments.{FunctionSeg}
use Rattle.plain_states.specs.Slots.{State, at, held, double, value_slot, flag_slot, local_value, local_flag, temp_slot, memory_in}
use Rattle.plain_states.specs.Scopes.{is_integer, are_one_integer, kind_of}
use Rattle.plain_states.proofs.Lists.{double_is}
use Rattle.plain_states.proofs.Scoping.{found_below, listed_integer, cell_of_integer}
use Rattle.plain_states.proofs.Calling.{some_same, entry_argument}
use Rattle.plain_states.proofs.Entering.{found, when_true}
use Rattle.goal_segments.specs.Told.{IsGood, IsFlag, Shape, sizes, shape_of, Fit, AreOf}
use Rattle.goal_segments.proofs.Told.{zero_of, more_slots, start as start_state}
use Rattle.goal_segments.proofs.Arguments.{arguments_are, numbers_lead}
use Rattle.goal_segments.proofs.Heads.{good_state}
use Rattle.walk_steps.specs.State.{AllTrue, In}
use Rattle.walk_steps.specs.Forms.{Place, told_forms, state_of}
use Rattle.walk_steps.specs.Step.{places}
use Rattle.walk_steps.specs.Run.{fails}
use Rattle.walk_steps.specs.Laws.{Origin, own, fixed, IsFrom, Starts, AreFit, start_slots}
use Rattle.walk_steps.proofs.Exact.{falsified_decode}
use Rattle.program_steps.specs.Leaves.{leaf, is_closed, closed, leaves_of, form}
use Rattle.program_steps.specs.Terms.{Texts}
use Rattle.program_steps.specs.Words.{Others, under}
use Rattle.program_steps.specs.Standing.{SeenBy, FailsAs}
use Rattle.program_steps.specs.Typed.{ClaimFits}
use Rattle.program_steps.specs.Placed.{InSetting}
use Rattle.program_steps.specs.Functions.{AllOf, EntersAs, FunctionEnds, function_word}
use Rattle.program_steps.specs.Typed.{OtherFits}
use Rattle.program_steps.specs.Starting.{file_origins, own_origins, zero_origins, origins_of, range_trees, file_ranges, param_ranges, start_claim, start_assumed, required_trees, all_required, start_trees, start_of, BehaviorStarts, StartFits}
use Rattle.program_steps.specs.Laws.{StartsEnter, FalsifiedFail}
use Rattle.program_steps.proofs.Filling.{on_bool}
use Rattle.program_steps.proofs.Listing.{leaf_value}
use Rattle.program_steps.proofs.Asking.{closed_told}
use Rattle.program_steps.proofs.Arriving.{first, entered, file_at}
use Rattle.program_steps.proofs.Starting.{leaf_closed, AllTold, one_closed, one_true, assumed_so}
use Rattle.program_steps.proofs.Beginning.{same_list, Half, of_value, of_flag, half, from_length, BehindFile, behind_file, OwnSlots, own_slots}
use Rattle.program_steps.proofs.Sufficing.{first_from, forms_all}
use Rattle.program_steps.proofs.Good.{functions_are_good}
use Rattle.program_steps.proofs.Wholes.{back}

-- ---- what is known at the start

module _ (m : sense.World) (p : Facts) (s : Shape) (texts : Texts) (st : State) where
  told_parts : (fs gs : List Tree) → AllTold m p s texts st (fs ++ gs) → AllTold m p s texts st fs × AllTold m p s texts st gs
  told_parts [] gs h = (tt, h)
  told_parts (f ∷ fs) gs h = let r = told_parts fs gs h.1 in ((h.0, r.0), r.1)

  range_holds : (k : Kind) (i : ℕ) → AllTold m p s texts st (range_trees m p s texts k i) → holds p.model k (at st i) ≡ true
  range_holds k i h =
      let least = sym (closed_told m (st ∷ []) (at_most (num (low p.model k)) (leaf 0 i)) (ap (λ b. b && true) (leaf_closed 0 i)) ∙ ap (int_le (low p.model k)) (leaf_value m (st ∷ []) 0 i)) ∙ h.0 in
      let most = sym (closed_told m (st ∷ []) (at_most (leaf 0 i) (num (high p.model k))) (ap (λ b. b && true) (leaf_closed 0 i)) ∙ ap (λ x. int_le x (high p.model k)) (leaf_value m (st ∷ []) 0 i)) ∙ h.1.0 in
      ap (λ b. b && int_le (at st i) (high p.model k)) least ∙ most

  files_hold : (x : ℕ) (vs : List Variable) → AllTold m p s texts st (file_ranges m p s texts x vs) → (i : ℕ) (v : Variable) → slice_get vs i ≡ Some v
      → holds p.model (kind_of v) (at st (value_slot (x + i))) ≡ true
  files_hold x [] h i v e = absurd (no e) where
    no : {X : Type 0} {y : X} → None ≡ Some y → ⊥
    no e = cc
  files_hold x (u ∷ vs) h zero v e =
      let r = told_parts (range_trees m p s texts (kind_of u) (value_slot x)) (file_ranges m p s texts (suc x) vs) h in
      subst (λ n. holds p.model (kind_of v) (at st (value_slot n)) ≡ true) (let q : x ≡ x + 0 = omega arith in q)
      (subst (λ v. holds p.model (kind_of v) (at st (value_slot x)) ≡ true) (some_same u v e) (range_holds (kind_of u) (value_slot x) r.0))
  files_hold x (u ∷ vs) h (suc i) v e =
      let r = told_parts (range_trees m p s texts (kind_of u) (value_slot x)) (file_ranges m p s texts (suc x) vs) h in
      subst (λ n. holds p.model (kind_of v) (at st (value_slot n)) ≡ true) (let q : suc x + i ≡ x + suc i = omega arith in q) (files_hold (suc x) vs r.1 i v e)

  params_hold : (n x : ℕ) (vs : List Variable) → AllTold m p s texts st (param_ranges m p s texts n x vs) → (i : ℕ) (v : Variable) → i < n → slice_get vs i ≡ Some v
      → holds p.model (kind_of v) (at st (local_value (sizes p s) (x + i))) ≡ true
  params_hold zero x vs h i v l e = absurd (omega (arith, l))
  params_hold (suc n) x [] h i v l e = absurd (no e) where
    no : {X : Type 0} {y : X} → None ≡ Some y → ⊥
    no e = cc
  params_hold (suc n) x (u ∷ vs) h zero v l e =
      let r = told_parts (range_trees m p s texts (kind_of u) (local_value (sizes p s) x)) (param_ranges m p s texts n (suc x) vs) h in
      subst (λ n. holds p.model (kind_of v) (at st (local_value (sizes p s) n)) ≡ true) (let q : x ≡ x + 0 = omega arith in q)
      (subst (λ v. holds p.model (kind_of v) (at st (local_value (sizes p s) x)) ≡ true) (some_same u v e) (range_holds (kind_of u) (local_value (sizes p s) x) r.0))
  params_hold (suc n) x (u ∷ vs) h (suc i) v l e =
      let r = told_parts (range_trees m p s texts (kind_of u) (local_value (sizes p s) x)) (param_ranges m p s texts n (suc x) vs) h in
      subst (λ n. holds p.model (kind_of v) (at st (local_value (sizes p s) n)) ≡ true) (let q : suc x + i ≡ x + suc i = omega arith in q) (params_hold n (suc x) vs r.1 i v (omega (arith, l)) e)

  -- ---- requirements

  module _ (w : labelled.World) (seen : SeenBy p s w (st ∷ []) 0 0 0) where
    claim_holds : (plain : Bool) (b : Behavior) → BehaviorStarts m p s texts b → (c : Claim) → ClaimFits m p s texts c.what 0 0 0
        → truth m (leaves_of (st ∷ [])) (closed (under plain (start_assumed m p s texts b) (start_claim m p s texts c))) ≡ true → is_assumed p w b ≡ true → broken.holds p w c.what ≡ true
    claim_holds true b fits c fit told so =
        sym (one_true m p s texts st w seen c.what fit) ∙ sym (closed_told m (st ∷ []) (start_claim m p s texts c) (one_closed m p s texts st w seen c.what fit)) ∙ told
    claim_holds false b fits c fit told so =
        let a = assumed_so m p s texts st w seen b fits in
        let k = one_closed m p s texts st w seen c.what fit in
        let t = one_true m p s texts st w seen c.what fit in
        sym (ap (λ x. not x || broken.holds p w c.what) so) ∙ sym (λ i. not (a.1 i) || t i)
        ∙ sym (closed_told m (st ∷ []) (under false (start_assumed m p s texts b) (start_claim m p s texts c)) (λ i. a.0 i && (k i && true))) ∙ told

    claims_hold : (plain : Bool) (b : Behavior) → BehaviorStarts m p s texts b → (cs : List Claim) → AllOf (λ (c : Claim). ClaimFits m p s texts c.what 0 0 0) cs
        → AllTold m p s texts st (map (λ c. under plain (start_assumed m p s texts b) (start_claim m p s texts c)) cs) → is_assumed p w b ≡ true → all_hold p w cs ≡ true
    claims_hold plain b fits [] fit told so = refl
    claims_hold plain b fits (c ∷ cs) fit told so =
        ap (λ t. t && all_hold p w cs) (claim_holds plain b fits c fit.0 told.0 so) ∙ claims_hold plain b fits cs fit.1 told.1 so

    one_required : (plain : Bool) (b : Behavior) → BehaviorStarts m p s texts b → AllTold m p s texts st (required_trees m p s texts plain b) → is_required p w b ≡ true
    one_required plain b fits told = on_bool (is_assumed p w b)
        (λ e. ap (λ t. if t then all_hold p w b.requires else true) e ∙ claims_hold plain b fits b.requires fits.requires told e)
        (λ e. ap (λ t. if t then all_hold p w b.requires else true) e)

    all_are_required : (bs : List Behavior) → AllOf (BehaviorStarts m p s texts) bs → AllTold m p s texts st (all_required m p s texts bs) → list_all (is_required p w) bs ≡ true
    all_are_required [] fits told = refl
    all_are_required (b ∷ bs) fits told =
        let r = told_parts (required_trees m p s texts false b) (all_required m p s texts bs) told in
        ap (λ t. t && list_all (is_required p w) bs) (one_required false b fits.0 r.0) ∙ all_are_required bs fits.1 r.1

    required_so : (c : Contract) → StartFits m p s texts c → AllTold m p s texts st (required_trees m p s texts true c.plain ++ all_required m p s texts c.behaviors)
        → list_all (is_required p w) (parts_of c) ≡ true
    required_so c fits told =
        let r = told_parts (required_trees m p s texts true c.plain) (all_required m p s texts c.behaviors) told in
        ap (λ t. t && list_all (is_required p w) c.behaviors) (one_required true c.plain fits.plain r.0) ∙ all_are_required c.behaviors fits.behaviors r.1

-- ---- a memory without blocks

no_cell : (k : CellKind) (o : ℤ) → has_cell k [] o ≡ true → ⊥
no_cell k (pos n) h = false≢true h
no_cell k (negsuc n) h = false≢true h

nothing_there : (k : CellKind) (b o : ℤ) → is_cell k [] b o ≡ true → ⊥
unfolding block_at
nothing_there k (pos zero) o h = no_cell k o h
nothing_there k (pos (suc n)) o h = no_cell k o h
nothing_there k (negsuc n) o h = no_cell k o h

no_length : (p : Facts) (b : ℤ) → int_le (len [] b) (high p.model (difference_kind p.model)) ≡ true
unfolding block_at
no_length p (pos zero) = (and_parts (int_le (low p.model (difference_kind p.model)) (pos 0)) (int_le (pos 0) (high p.model (difference_kind p.model))) (zero_of p.model (difference_kind p.model))).1
no_length p (pos (suc n)) = (and_parts (int_le (low p.model (difference_kind p.model)) (pos 0)) (int_le (pos 0) (high p.model (difference_kind p.model))) (zero_of p.model (difference_kind p.model))).1
no_length p (negsuc n) = (and_parts (int_le (low p.model (difference_kind p.model)) (pos 0)) (int_le (pos 0) (high p.model (difference_kind p.model))) (zero_of p.model (difference_kind p.model))).1

abbrev empty : Memory
empty = record { blocks = []; cells = λ b o. number (pos 0) }

empty_good : (p : Facts) → list_all is_integer p.globals ≡ true → IsGood p empty
empty_good p globals = record {
  well = record {
    globals = λ x v e. let both = and_parts v.is_plain (are_one_integer v.layout.cells) (listed_integer p.globals globals x v e) in
        when_true v.is_plain _ _ both.0 ∙ ap (λ c. is_value p [] c (number (pos 0))) (cell_of_integer v.layout.cells both.1) ∙ zero_of p.model (kind_of v);
    cells = λ k b o h. absurd (nothing_there k b o h);
    elsewhere = λ b o h none. refl;
    short = no_length p;
  };
  pointers = λ b o. refl;
}

-- ---- lengths

own_length : (n : ℕ) (vs : List Variable) → length (own_origins n vs) ≡ double (length vs)
own_length n [] = refl
own_length zero (v ∷ vs) = ap (λ k. suc (suc k)) (own_length zero vs)
own_length (suc n) (v ∷ vs) = ap (λ k. suc (suc k)) (own_length n vs)

zero_length : (n : ℕ) → length (zero_origins n) ≡ n
zero_length zero = refl
zero_length (suc n) = ap suc (zero_length n)

number_same : {a b : ℤ} → number a ≡ number b → a ≡ b
number_same e = cc

-- ---- values of parameters

abbrev taken : (ℕ → ℤ) → (n x : ℕ) → List ℤ
taken f zero x = []
taken f (suc n) x = f x ∷ taken f n (suc x)

taken_length : (f : ℕ → ℤ) (n x : ℕ) → length (taken f n x) ≡ n
taken_length f zero x = refl
taken_length f (suc n) x = ap suc (taken_length f n (suc x))

taken_at : (f : ℕ → ℤ) (n x i : ℕ) (z : ℤ) → slice_get (taken f n x) i ≡ Some z → (i < n) × (f (x + i) ≡ z)
taken_at f zero x i z e = absurd (no e) where
  no : {X : Type 0} {y : X} → None ≡ Some y → ⊥
  no e = cc
taken_at f (suc n) x zero z e = (omega arith, ap f (let q : x + 0 ≡ x = omega arith in q) ∙ some_same (f x) z e)
taken_at f (suc n) x (suc i) z e = let r = taken_at f n (suc x) i z e in let l = r.0 in (omega (arith, l), ap f (let q : x + suc i ≡ suc x + i = omega arith in q) ∙ r.1)

-- ---- the world

module _ (m : sense.World) (q : Program Steps) (f : Function Steps) (temporaries : ℕ) (temp_kind : ℕ → Kind) (texts : Texts)
    (setting : InSetting m q.facts (shape_of f temporaries temp_kind)) (enough : f.params ≤ length f.variables) (fits : StartFits m q.facts (shape_of f temporaries temp_kind) texts f.contract)
    (st : State) (start : Starts (start_of m q.facts (shape_of f temporaries temp_kind) texts f) st) where
  abbrev p : Facts
  p = q.facts

  abbrev s : Shape
  s = shape_of f temporaries temp_kind

  abbrev rest_origins : List Origin
  rest_origins = own_origins f.params f.variables ++ zero_origins (suc (suc temporaries))

  abbrev g : ℕ
  g = length p.globals

  abbrev l : ℕ
  l = length f.variables

  -- what a start says of its slots
  pub record Begins (ys : State) : Type 0 where
    pub size : length ys ≡ temp_slot (sizes p s) temporaries
    pub file_flags : (x : ℕ) → x < g → at ys (flag_slot x) ≡ pos 1
    pub given : (x : ℕ) → x < f.params → at ys (local_flag (sizes p s) x) ≡ pos 1
    pub values : (x : ℕ) → f.params ≤ x → x < l → at ys (local_value (sizes p s) x) ≡ pos 0
    pub flags : (x : ℕ) → f.params ≤ x → x < l → at ys (local_flag (sizes p s) x) ≡ pos 0
    pub others : (i : ℕ) → double (g + l) ≤ i → at ys i ≡ pos 0

  begins : (st : State) → IsFrom (origins_of m p s texts f.params) st → Begins st
  begins st from =
      let b = behind_file p.globals rest_origins st from in
      let o = own_slots f.params f.variables (suc (suc temporaries)) b.tail enough b.from in
      let value : (x : ℕ) → at st (local_value (sizes p s) x) ≡ at b.tail (value_slot x) = λ x. ap (at st) (doubled x) ∙ b.same (double x) in
      let flag : (x : ℕ) → at st (local_flag (sizes p s) x) ≡ at b.tail (flag_slot x) = λ x. ap (at st) (doubled_flag x) ∙ b.same (suc (double x)) in
      record {
        size = sized b.size (from_length rest_origins b.tail b.from);
        file_flags = b.flags;
        given = λ x k. flag x ∙ o.given x k;
        values = λ x k c. value x ∙ o.values x k c;
        flags = λ x k c. flag x ∙ o.flags x k c;
        others = λ i k. other i k b.tail b.same o.others;
      }
    where
      doubled : (x : ℕ) → double (g + x) ≡ double g + double x
      doubled x = let a = double_is (g + x) in let b = double_is g in let c = double_is x in omega (arith, a, b, c)

      doubled_flag : (x : ℕ) → suc (double (g + x)) ≡ double g + suc (double x)
      doubled_flag x = let a = double_is (g + x) in let b = double_is g in let c = double_is x in omega (arith, a, b, c)

      sized : {n k : ℕ} → n ≡ double g + k → k ≡ length rest_origins → n ≡ suc (suc (double (g + l))) + temporaries
      sized e k =
          let a = length-append (own_origins f.params f.variables) (zero_origins (suc (suc temporaries))) in
          let b = own_length f.params f.variables in let c = zero_length (suc (suc temporaries)) in let d = doubled l in
          omega (arith, e, k, a, b, c, d)

      other : (i : ℕ) → double (g + l) ≤ i → (tail : State) → ((i : ℕ) → at st (double g + i) ≡ at tail i) → ((i : ℕ) → double l ≤ i → at tail i ≡ pos 0) → at st i ≡ pos 0
      other i k tail same zero_at =
          let d = doubled l in
          ap (at st) (let e : i ≡ double g + (i - double g) = omega (arith, k, d) in e) ∙ same (i - double g) ∙ zero_at (i - double g) (omega (arith, k, d))

  here : Begins st
  here = begins st start.from

  abbrev facts_of_files : AllTold m p s texts st (file_ranges m p s texts 0 p.globals) × AllTold m p s texts st (param_ranges m p s texts f.params 0 f.variables ++ (required_trees m p s texts true f.contract.plain ++ all_required m p s texts f.contract.behaviors))
  facts_of_files = told_parts m p s texts st (file_ranges m p s texts 0 p.globals) (param_ranges m p s texts f.params 0 f.variables ++ (required_trees m p s texts true f.contract.plain ++ all_required m p s texts f.contract.behaviors)) start.facts

  abbrev facts_of_params : AllTold m p s texts st (param_ranges m p s texts f.params 0 f.variables) × AllTold m p s texts st (required_trees m p s texts true f.contract.plain ++ all_required m p s texts f.contract.behaviors)
  facts_of_params = told_parts m p s texts st (param_ranges m p s texts f.params 0 f.variables) (required_trees m p s texts true f.contract.plain ++ all_required m p s texts f.contract.behaviors) facts_of_files.1

  file_holds : (x : ℕ) (v : Variable) → slice_get p.globals x ≡ Some v → holds p.model (kind_of v) (at st (value_slot x)) ≡ true
  file_holds x v e = subst (λ n. holds p.model (kind_of v) (at st (value_slot n)) ≡ true) (let r : 0 + x ≡ x = omega arith in r) (files_hold m p s texts st 0 p.globals facts_of_files.0 x v e)

  param_holds : (x : ℕ) (v : Variable) → x < f.params → slice_get f.variables x ≡ Some v → holds p.model (kind_of v) (at st (local_value (sizes p s) x)) ≡ true
  param_holds x v k e = subst (λ n. holds p.model (kind_of v) (at st (local_value (sizes p s) n)) ≡ true) (let r : 0 + x ≡ x = omega arith in r)
      (params_hold m p s texts st f.params 0 f.variables facts_of_params.0 x v k e)

  fit : Fit p s st
  fit = record {
    size = here.size;
    globals = file_holds;
    locals = λ x v e. on_bool (nat_lt x f.params) (λ t. param_holds x v (ltb-true x f.params t) e)
        (λ t. ap (holds p.model (kind_of v)) (here.values x (ltb-false x f.params t) (found_below f.variables x v e)) ∙ zero_of p.model (kind_of v));
    temps = λ n k. ap (holds p.model (temp_kind n)) (here.others (temp_slot (sizes p s) n) (omega arith)) ∙ zero_of p.model (temp_kind n);
    flags = flag;
  }
    where
      local_flag_is : (x : ℕ) → x < l → IsFlag (at st (local_flag (sizes p s) x))
      local_flag_is x k = on_bool (nat_lt x f.params) (λ t. inr (here.given x (ltb-true x f.params t))) (λ t. inl (here.flags x (ltb-false x f.params t) k))

      flag : (x : ℕ) → x < g + l → IsFlag (at st (flag_slot x))
      flag x k = on_bool (nat_lt x g) (λ t. inr (here.file_flags x (ltb-true x g t)))
          (λ t. let b = ltb-false x g t in
          subst (λ n. IsFlag (at st (flag_slot n))) (let e : g + (x - g) ≡ x = omega (arith, b) in e) (local_flag_is (x - g) (omega (arith, b, k))))

  abbrev memory : Memory
  memory = memory_in (sizes p s) empty st

  good : IsGood p memory
  good = good_state p setting.globals empty (empty_good p setting.globals) s st fit

  abbrev w : World
  w = record { turns = 0; contents = []; memory = memory; locals = no_locals }

  abbrev zs : List ℤ
  zs = taken (λ x. at st (local_value (sizes p s) x)) f.params 0

  args : AreOf p f.variables f.params zs
  args = (
    taken_length (λ x. at st (local_value (sizes p s) x)) f.params 0,
    λ x v z e k.
        let r = taken_at (λ x. at st (local_value (sizes p s) x)) f.params 0 x z k in
        subst (λ z. holds p.model (kind_of v) z ≡ true) (ap (λ n. at st (local_value (sizes p s) n)) (let q : x ≡ 0 + x = omega arith in q) ∙ r.1) (param_holds x v r.0 e),
  )

  abbrev made : State
  made = first p f temporaries temp_kind setting.globals setting.integers enough w good zs args

  there : Begins made
  there = begins made (first_from m p f temporaries temp_kind texts setting.globals setting.integers enough w good zs args)

  file_same : (x : ℕ) → x < g → at made (value_slot x) ≡ at st (value_slot x)
  file_same x k =
      let v = found p.globals x k in
      number_same (sym (file_at p f temporaries temp_kind setting.globals setting.integers enough w good zs args x v.0 v.1)
      ∙ ap (λ t. if t && true then held st (value_slot x) else number (pos 0)) (lt-ltb x g k))

  param_same : (x : ℕ) → x < f.params → at made (local_value (sizes p s) x) ≡ at st (local_value (sizes p s) x)
  param_same x k =
      let z = found zs x (let e = args.0 in omega (arith, e, k)) in
      let r = taken_at (λ x. at st (local_value (sizes p s) x)) f.params 0 x z.0 z.1 in
      (entry_argument g x zs (more_slots (sizes p s) temporaries (length zs)) (start_state p setting.globals memory good.well) z.0 z.1).0
      ∙ sym (ap (λ n. at st (local_value (sizes p s) n)) (let q : x ≡ 0 + x = omega arith in q) ∙ r.1)

  value_same : (x : ℕ) → at made (value_slot x) ≡ at st (value_slot x)
  value_same x = on_bool (nat_lt x g) (λ t. file_same x (ltb-true x g t)) (λ t. behind x (ltb-false x g t)) where
    own_same : (y : ℕ) → at made (local_value (sizes p s) y) ≡ at st (local_value (sizes p s) y)
    own_same y = on_bool (nat_lt y f.params) (λ t. param_same y (ltb-true y f.params t))
        (λ t. on_bool (nat_lt y l) (λ u. there.values y (ltb-false y f.params t) (ltb-true y l u) ∙ sym (here.values y (ltb-false y f.params t) (ltb-true y l u)))
        (λ u. let b = ltb-false y l u in let d = double_is (g + l) in let e = double_is (g + y) in
        there.others (local_value (sizes p s) y) (omega (arith, b, d, e)) ∙ sym (here.others (local_value (sizes p s) y) (omega (arith, b, d, e)))))

    behind : (x : ℕ) → g ≤ x → at made (value_slot x) ≡ at st (value_slot x)
    behind x b = subst (λ n. at made (value_slot n) ≡ at st (value_slot n)) (let e : g + (x - g) ≡ x = omega (arith, b) in e) (own_same (x - g))

  flag_same : (x : ℕ) → at made (flag_slot x) ≡ at st (flag_slot x)
  flag_same x = on_bool (nat_lt x g) (λ t. there.file_flags x (ltb-true x g t) ∙ sym (here.file_flags x (ltb-true x g t))) (λ t. behind x (ltb-false x g t)) where
    own_same : (y : ℕ) → at made (local_flag (sizes p s) y) ≡ at st (local_flag (sizes p s) y)
    own_same y = on_bool (nat_lt y f.params) (λ t. there.given y (ltb-true y f.params t) ∙ sym (here.given y (ltb-true y f.params t)))
        (λ t. on_bool (nat_lt y l) (λ u. there.flags y (ltb-false y f.params t) (ltb-true y l u) ∙ sym (here.flags y (ltb-false y f.params t) (ltb-true y l u)))
        (λ u. let b = ltb-false y l u in let d = double_is (g + l) in let e = double_is (g + y) in
        there.others (local_flag (sizes p s) y) (omega (arith, b, d, e)) ∙ sym (here.others (local_flag (sizes p s) y) (omega (arith, b, d, e)))))

    behind : (x : ℕ) → g ≤ x → at made (flag_slot x) ≡ at st (flag_slot x)
    behind x b = subst (λ n. at made (flag_slot n) ≡ at st (flag_slot n)) (let e : g + (x - g) ≡ x = omega (arith, b) in e) (own_same (x - g))

  same : made ≡ st
  same = same_list made st (there.size ∙ sym here.size) (λ i. by i (half i)) where
    by : (i : ℕ) → Half i → at made i ≡ at st i
    by i (of_value x e) = ap (at made) e ∙ value_same x ∙ ap (at st) (sym e)
    by i (of_flag x e) = ap (at made) e ∙ flag_same x ∙ ap (at st) (sym e)

  as_slots : EntersAs p s f (map number zs) w st
  as_slots = subst (EntersAs p s f (map number zs) w) same (entered p f temporaries temp_kind setting.globals setting.integers enough w good zs args)

  seen : SeenBy p s (at_entry p (map number zs) memory) (st ∷ []) 0 0 0
  seen = record { here_is = as_slots.seen; pre_is = as_slots.seen; post_is = as_slots.seen; loop_entry_is = as_slots.seen; model = refl; structs = λ n. refl }

  enters : Enters q f (map number zs) memory
  enters = record {
    state = good.well;
    arguments = arguments_are p [] f.params f.variables setting.integers enough zs args;
    required = ap (λ b. unless_true b broken.requires 0) (required_so m p s texts st (at_entry p (map number zs) memory) seen f.contract fits facts_of_params.1);
    pointers = numbers_lead zs;
    cells = good.pointers;
  }

  pub world_found : (vs : List Value) × ((w : World) × (Enters q f vs w.memory × EntersAs p s f vs w st))
  world_found = (map number zs, (w, (enters, as_slots)))

pub starts_enter : StartsEnter
starts_enter m q f temporaries temp_kind texts setting enough fits st start = world_found m q f temporaries temp_kind texts setting enough fits st start

-- ---- falsified goals

stops_so : (p : Facts) (s : Shape) (ps : List Place) (o : Eval) (i : ℕ) → FunctionEnds p s ps o (fails i) → (e : Stop) × ((stops e ≡ o) × FailsAs ps 0 i e)
stops_so p s ps (gives v u) i h = absurd h
stops_so p s ps (stops e) i h = (e, (refl, h))

pub falsified_fail : (asked : OtherFits) → FalsifiedFail asked
falsified_fail asked setting q n f temporaries temp_kind texts others bases runs in_setting fits starts good enough size names differ g listed env untrue =
    let m = world_of setting in
    let s = shape_of f temporaries temp_kind in
    let word = function_word m q.facts s texts others n f in
    let fit : AreFit setting bases (start_of m q.facts s texts f) word = record {
      size = size;
      names = names;
      own = differ;
      facts = forms_all m (start_trees m q.facts s texts f);
      step = functions_are_good m q.facts s texts others good n f;
    } in
    let st = state_of m env (start_slots bases (origins_of m q.facts s texts f.params)) in
    let run = falsified_decode setting bases (start_of m q.facts s texts f) word fit g listed env untrue in
    let world = starts_enter m q f temporaries temp_kind texts in_setting enough starts st run.0 in
    let r = back m q n f temporaries temp_kind texts others asked runs in_setting fits world.0 world.1.0 st world.1.1.1 (fails g.number) run.1 in
    let x = stops_so q.facts s (places word) r.0 g.number r.2 in
    (world.0, (world.1.0, (world.1.1.0, (x.0, (subst (FunctionSeg q n f world.0 world.1.0) (sym x.1.0) r.1, x.1.1)))))
