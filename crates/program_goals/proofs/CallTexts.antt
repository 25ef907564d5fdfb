-- The words of calls write terms and formulas of a property, where filled ones are of it.
use Rattle.std.proofs.Common.{◌≡◌, ℕ, zero, suc, ◌+◌, Bool, true, false, ◌&&◌, if◌then◌else◌, List, [], ◌∷◌, ◌++◌, map, Option, Some, None, slice_get, refl}
use Rattle.std.specs.Prelude.{ℤ, pos}
use Rattle.std.specs.List.{list_all}
use Rattle.wp_base.specs.declared.kinds.CellKind.{CellKind}
use Rattle.wp_base.specs.declared.kinds.CellKind.TheVariants as cell
use Rattle.c_kinds.specs.Models.{low, high}
use Rattle.typed_prog.specs.Tree as t
use Rattle.typed_prog.specs.declared.operators.Root.{Root}
use Rattle.typed_prog.specs.declared.operators.Root.TheVariants as root
use Rattle.typed_prog.specs.declared.operators.Variable.{Variable}
use Rattle.typed_prog.specs.declared.operators.Variable.TheVariants as variables
use Rattle.acsl_trees.specs.Tree as acsl
use Rattle.qed_terms.specs.Meaning as sense
use Rattle.qed_terms.specs.Tree.{Tree, num, at_most, less, equal}
use Rattle.qed_terms.specs.WellFormed.{fits, int}
use Rattle.qed_terms.specs.Names.{is_name}
use Rattle.c_runs.specs.Program as program
use Rattle.c_runs.specs.Program.{Claim, Measure, Behavior, Contract, Function, Facts}
use Rattle.c_runs.specs.Claims as broken
use Rattle.c_runs.specs.Checks.{Check as CheckOf}
use Rattle.c_runs.specs.Tree.{Goal, nowhere, temporary, place, variable, Steps}
use Rattle.plain_states.specs.Slots.{value_slot, local_value, local_flag, answer_slot, temp_slot}
use Rattle.plain_states.specs.Scopes.{kind_of}
use Rattle.plain_runs.specs.Fitting.{Shape, sizes}
use Rattle.value_terms.specs.Readings as readings
use Rattle.value_terms.specs.Readings.{number_term, term_at}
use Rattle.value_terms.proofs.Places.{operands_are_well_formed}
use Rattle.acsl_encode.specs.Readings as annotation
use Rattle.acsl_encode.specs.WellFormed.{IsInt, IsFormula, SlotFits, SeenFits, ReadingFits}
use Rattle.acsl_encode.specs.Encode as encode
use Rattle.acsl_encode.proofs.Fitting.{AllFormulas}
use Rattle.acsl_encode.proofs.Fitted.{formulas_fit}
use Rattle.walk_steps.specs.Step.{Change, keeps}
use Rattle.walk_steps.specs.Texts.{ChangesWrite, Writes}
use Rattle.walk_words.specs.Changes.{ranged}
use Rattle.program_steps.specs.Leaves.{leaf, is_closed}
use Rattle.program_steps.specs.Stops.{broken_place}
use Rattle.program_steps.specs.Terms.{Texts, entry_reading, or_zero}
use Rattle.program_steps.specs.Words.{Force, of_function, of_loop, Point, under, lacks, write_trees, variable_number}
use Rattle.program_steps.specs.Staying.{stay_of, stays_from, all_stay}
use Rattle.program_steps.proofs.Starting.{leaf_closed}
use Rattle.call_words.specs.Callee.{reading_at, terms_at, argument, param_slot, callee_seen, entered_at, returned_from}
use Rattle.call_words.specs.Sets.{is_in, truth_tree, only_under, callee_assumes, clause_in, clauses_in, included, included_in, included_in_all, included_by, refuses, unless_nothing, inclusion_trees, may_differ, file_changes}
use Rattle.call_words.specs.Words.{stay_trees, one_further, change_at, entry_claim, required_trees, all_required, call_requires, lower_by, promise, promised_trees, all_promised, call_promises, answer_step, answer_term, placed_in, received, behind_call, call_by, call_word}
use Rattle.program_goals.specs.Texts.{TextsFit}
use Rattle.program_goals.proofs.Names.{and_both, leaf_is_int, binder_is_int}
use Rattle.program_goals.proofs.Formulas.{more_formulas, refused_fits, under_fits, and_fits, any_of_fits, global_fits, claim_fits, assumed_fits, entry_fits, body_fits, writes_fit}
use Rattle.program_goals.proofs.Writes.{Fills, number_writes, asks_write, knows_write, set_writes, values_write}
use Rattle.program_goals.proofs.Arguments.{given_int, terms_plain}

-- ---- what the function sees

module _ (p : Facts) (s : Shape) where
  at_fits : (l : ℕ) → readings.IsWellFormed (reading_at p s l)
  unfolding is_name
  at_fits l = record {
    locals = λ x. (leaf_is_int l (local_value (sizes p s) x)).int;
    globals = λ x. (leaf_is_int l (value_slot x)).int;
    temporaries = λ n. (leaf_is_int l (temp_slot (sizes p s) n)).int;
    flags = λ x. (leaf_is_int l (local_flag (sizes p s) x)).int;
    homes = λ x. refl;
    table = refl;
    numbers = λ k. refl;
    blocks = refl;
    offsets = refl;
  }

  module _ (texts : Texts) (named : TextsFit texts) (g : Function Steps) (es : t.Values) where
    argument_fits : (l x : ℕ) → IsInt (argument p s texts g es l x)
    argument_fits l x = given_int (term_at (terms_at p s l es) x) ((operands_are_well_formed p s.variables (reading_at p s l) (at_fits l) es).terms x)
        (terms_plain p s.variables (reading_at p s l) (λ x e. (leaf_is_int l (local_value (sizes p s) x)).argument) (λ x e. (leaf_is_int l (value_slot x)).argument)
        (λ n e. (leaf_is_int l (temp_slot (sizes p s) n)).argument) es x)

    param_fits : (l x : ℕ) (o : Option program.Variable) → SlotFits (param_slot p s texts g es l x o)
    param_fits l x None = tt
    param_fits l x (Some v) = argument_fits l x

    sees_fit : (f l : ℕ) → SeenFits (callee_seen p s texts g es f l)
    sees_fit f l = record { variables = variables_fit; table = tt; numbers = λ k. tt; pointers = tt } where
      variables_fit : (x : Variable) → SlotFits ((callee_seen p s texts g es f l).variable x)
      variables_fit (variables.Global x) = global_fits p s f x (slice_get p.globals x)
      variables_fit (variables.Local x) = param_fits l x (slice_get g.variables x)

    entered_fits : (l : ℕ) (a : acsl.Tree) → ReadingFits (entered_at p s texts g es l a)
    entered_fits l a = record {
      here = sees_fit l l;
      pre = sees_fit l l;
      post = sees_fit l l;
      loop_entry = sees_fit l l;
      result = tt;
      binders = λ n. binder_is_int (texts.binders a) (named.binders a) n;
      called = named.called;
    }

    returned_fits : (a : acsl.Tree) → ReadingFits (returned_from p s texts g es a)
    returned_fits a = record {
      here = sees_fit 0 1;
      pre = sees_fit 1 1;
      post = sees_fit 0 1;
      loop_entry = sees_fit 1 1;
      result = leaf_is_int 0 (answer_slot (sizes p s));
      binders = λ n. binder_is_int (texts.binders a) (named.binders a) n;
      called = named.called;
    }

    -- ---- formulas

    assumes_fit : (l : ℕ) (b : Behavior) → IsFormula (callee_assumes p s texts g es l b)
    assumes_fit l b = assumed_fits p s texts named (entered_at p s texts g es l) (entered_fits l) b.assumes

    required_fit : (plain : Bool) (b : Behavior) (cs : List Claim) → AllFormulas (map (λ c. under plain (callee_assumes p s texts g es 0 b) (entry_claim p s texts g es c)) cs)
    required_fit plain b [] = tt
    required_fit plain b (c ∷ cs) =
        (under_fits plain _ _ (assumes_fit 0 b) (claim_fits p s texts named (entered_at p s texts g es 0) c.what (entered_fits 0 c.what)), required_fit plain b cs)

    all_required_fit : (bs : List Behavior) → AllFormulas (all_required p s texts g es bs)
    all_required_fit [] = tt
    all_required_fit (b ∷ bs) = more_formulas (required_trees p s texts g es false b) _ (required_fit false b b.requires) (all_required_fit bs)

    requires_fit : AllFormulas (call_requires p s texts g es)
    requires_fit = more_formulas (required_trees p s texts g es true g.contract.plain) _ (required_fit true g.contract.plain g.contract.plain.requires) (all_required_fit g.contract.behaviors)

    promised_fit : (plain : Bool) (b : Behavior) (cs : List Claim) → AllFormulas (map (λ c. under plain (callee_assumes p s texts g es 1 b) (promise p s texts g es c)) cs)
    promised_fit plain b [] = tt
    promised_fit plain b (c ∷ cs) =
        (under_fits plain _ _ (assumes_fit 1 b) (claim_fits p s texts named (returned_from p s texts g es) c.what (returned_fits c.what)), promised_fit plain b cs)

    all_promised_fit : (bs : List Behavior) → AllFormulas (all_promised p s texts g es bs)
    all_promised_fit [] = tt
    all_promised_fit (b ∷ bs) = more_formulas (promised_trees p s texts g es false b) _ (promised_fit false b b.ensures) (all_promised_fit bs)

    promises_fit : AllFormulas (call_promises p s texts g es)
    promises_fit = more_formulas (promised_trees p s texts g es true g.contract.plain) _ (promised_fit true g.contract.plain g.contract.plain.ensures) (all_promised_fit g.contract.behaviors)

    measure_int : (r : annotation.Reading) (a : acsl.Tree) → ReadingFits r → fits int (or_zero (encode.term_of r a)) ≡ true
    measure_int r a good = by (encode.term_of r a) refl where
      by : (o : Option Tree) → encode.term_of r a ≡ o → fits int (or_zero o) ≡ true
      by None e = refl
      by (Some u) e = ((formulas_fit r a good).number u e).int

    lower_fits : (e : ℕ) (b : Bool) (old now : Option Measure) → AllFormulas (lower_by p s texts g es e b old now)
    lower_fits e false old now = tt
    lower_fits e true None now = tt
    lower_fits e true (Some a) None = tt
    lower_fits e true (Some a) (Some b) =
        let old = or_zero (encode.term_of (entry_reading p s texts e a.what) a.what) in
        let now = or_zero (encode.term_of (entered_at p s texts g es 0 b.what) b.what) in
        let old_int = measure_int (entry_reading p s texts e a.what) a.what (body_fits p s texts named e e e a.what) in
        let now_int = measure_int (entered_at p s texts g es 0 b.what) b.what (entered_fits 0 b.what) in
        (and_fits (at_most (num (pos 0)) old) (less now old) (and_both refl (and_both old_int refl)) (and_both now_int (and_both old_int refl)), tt)

    -- ---- sets

    truth_fits : (b : Bool) → IsFormula (truth_tree b)
    truth_fits true = refl
    truth_fits false = refl

    only_fits : (plain : Bool) (a f : Tree) → IsFormula a → IsFormula f → IsFormula (only_under plain a f)
    only_fits true a f h k = k
    only_fits false a f h k = and_fits a f h k

    clause_fits : (ws : List acsl.Tree) (plain : Bool) (b : Behavior) (o : Option (List acsl.Tree)) → AllFormulas (clause_in p s texts g es ws plain b o)
    clause_fits ws plain b None = tt
    clause_fits ws plain b (Some rs) = (only_fits plain _ _ (assumes_fit 0 b) (truth_fits (list_all (is_in ws) rs)), tt)

    clauses_fit : (ws : List acsl.Tree) (bs : List Behavior) → AllFormulas (clauses_in p s texts g es ws bs)
    clauses_fit ws [] = tt
    clauses_fit ws (b ∷ bs) = more_formulas (clause_in p s texts g es ws false b b.assigns) _ (clause_fits ws false b b.assigns) (clauses_fit ws bs)

    included_fits : (ws : List acsl.Tree) → IsFormula (included p s texts g es ws)
    included_fits ws =
        any_of_fits (clause_in p s texts g es ws true g.contract.plain g.contract.plain.assigns ++ clauses_in p s texts g es ws g.contract.behaviors)
        (more_formulas (clause_in p s texts g es ws true g.contract.plain g.contract.plain.assigns) _ (clause_fits ws true g.contract.plain g.contract.plain.assigns)
        (clauses_fit ws g.contract.behaviors))

    included_in_fits : (e : ℕ) (plain : Bool) (b : Behavior) (o : Option (List acsl.Tree)) → AllFormulas (included_in p s texts g es e plain b o)
    included_in_fits e plain b None = tt
    included_in_fits e plain b (Some ws) = (under_fits plain _ _ (entry_fits p s texts named e b) (included_fits ws), tt)

    included_all_fit : (e : ℕ) (bs : List Behavior) → AllFormulas (included_in_all p s texts g es e bs)
    included_all_fit e [] = tt
    included_all_fit e (b ∷ bs) = more_formulas (included_in p s texts g es e false b b.assigns) _ (included_in_fits e false b b.assigns) (included_all_fit e bs)

    included_by_fits : (e : ℕ) (c : Contract) (w : Force) → AllFormulas (included_by p s texts g es e c w)
    included_by_fits e c of_function =
        refused_fits (refuses g.contract c.plain.assigns) (included_in p s texts g es e true c.plain c.plain.assigns ++ included_in_all p s texts g es e c.behaviors)
        (more_formulas (included_in p s texts g es e true c.plain c.plain.assigns) _ (included_in_fits e true c.plain c.plain.assigns) (included_all_fit e c.behaviors))
    included_by_fits e c (of_loop ws d) = (included_fits ws, tt)

    unless_fits : (o : Option (List acsl.Tree)) (fs : List Tree) → AllFormulas fs → AllFormulas (unless_nothing p s texts g es o fs)
    unless_fits None fs h = h
    unless_fits (Some []) fs h = tt
    unless_fits (Some (r ∷ rs)) fs h = h

    inclusions_fit : (c : Contract) (pt : Point) → AllFormulas (inclusion_trees p s texts g es c pt)
    inclusions_fit c pt = unless_fits g.contract.plain.assigns (included_by p s texts g es (suc pt.entry) c pt.force) (included_by_fits (suc pt.entry) c pt.force)

    abbrev stay : Behavior → ℕ → List Tree
    stay b x = stay_of (callee_assumes p s texts g es 1 b) b.assigns (may_differ g.contract) x

    abbrev stays : Behavior → ℕ → List program.Variable → List Tree
    stays b x vs = stays_from (callee_assumes p s texts g es 1 b) b.assigns (may_differ g.contract) x vs

    stay_fits : (b : Behavior) (x : ℕ) → AllFormulas (stay b x)
    stay_fits b x = by (may_differ g.contract x && lacks b.assigns (variables.Global x)) where
      by : (t : Bool) → AllFormulas (if t then under false (callee_assumes p s texts g es 1 b) (equal (leaf 0 (value_slot x)) (leaf 1 (value_slot x))) ∷ [] else [])
      by true = (under_fits false (callee_assumes p s texts g es 1 b) (equal (leaf 0 (value_slot x)) (leaf 1 (value_slot x))) (assumes_fit 1 b) (and_both (leaf_is_int 0 (value_slot x)).int (and_both (leaf_is_int 1 (value_slot x)).int refl)), tt)
      by false = tt

    stays_fit : (b : Behavior) (x : ℕ) (vs : List program.Variable) → AllFormulas (stays b x vs)
    stays_fit b x [] = tt
    stays_fit b x (v ∷ vs) = more_formulas (stay b x) _ (stay_fits b x) (stays_fit b (suc x) vs)

    abbrev staying : List Behavior → List Tree
    staying bs = all_stay (callee_assumes p s texts g es 1) (may_differ g.contract) p.globals bs

    all_stay_fit : (bs : List Behavior) → AllFormulas (staying bs)
    all_stay_fit [] = tt
    all_stay_fit (b ∷ bs) = more_formulas (stays b 0 p.globals) _ (stays_fit b 0 p.globals) (all_stay_fit bs)

-- ---- words

module _ (Term Formula : Tree → Type 0) (fills : Fills Term Formula) (m : sense.World) (p : Facts) where
  ranged_writes : (l h : ℤ) (cs : List Change) → ChangesWrite Term Formula cs → ChangesWrite Term Formula (ranged l h ∷ cs)
  ranged_writes l h cs rest = (((λ ss u slots so. fills.at_least l u so), ((λ ss u slots so. fills.up_to h u so), tt)), rest)

  files_write : (c : Contract) (x : ℕ) (vs : List program.Variable) → ChangesWrite Term Formula (file_changes p c x vs)
  files_write c x [] = tt
  files_write c x (v ∷ vs) = by (may_differ c x) (files_write c (suc x) vs) where
    by : (b : Bool) → ChangesWrite Term Formula (file_changes p c (suc x) vs)
        → ChangesWrite Term Formula ((if b then ranged (low p.model (kind_of v)) (high p.model (kind_of v)) else keeps) ∷ keeps ∷ file_changes p c (suc x) vs)
    by true rest = ranged_writes (low p.model (kind_of v)) (high p.model (kind_of v)) (keeps ∷ file_changes p c (suc x) vs) rest
    by false rest = rest

  one_writes : (i : ℕ) (l h : ℤ) → ChangesWrite Term Formula (change_at i (ranged l h))
  one_writes zero l h = ranged_writes l h [] tt
  one_writes (suc i) l h = one_writes i l h

  module _ (s : Shape) (texts : Texts) (named : TextsFit texts) (contract : Contract) (functions : ℕ → Option (Function Steps)) where
    answer_writes : (o : Option CellKind) → Writes Term Formula (answer_step m p s texts contract functions o)
    answer_writes None = tt
    answer_writes (Some (cell.Of k)) = one_writes (answer_slot (sizes p s)) (low p.model k) (high p.model k)
    answer_writes (Some cell.Ptr) = tt

    answer_int : (o : Option CellKind) → fits int (answer_term m p s texts contract functions o) ≡ true
    answer_int None = refl
    answer_int (Some k) = (leaf_is_int 0 (answer_slot (sizes p s))).int

    answer_closed : (o : Option CellKind) → is_closed [] (answer_term m p s texts contract functions o) ≡ true
    answer_closed None = refl
    answer_closed (Some k) = leaf_closed 0 (answer_slot (sizes p s))

    placed_writes : (pt : Point) (l : ℕ) (r : Root) (u : Tree) → fits int u ≡ true → is_closed [] u ≡ true → Writes Term Formula (placed_in m p s texts contract functions pt l r u)
    placed_writes pt l (root.Variable x) u h c = (
      asks_write Term Formula fills m (write_trees p s texts contract pt x) (broken_place broken.assigns l) (writes_fit p s texts named contract pt x),
      set_writes Term Formula fills m (variable_number (sizes p s) x) u h c,
    )
    placed_writes pt l (root.Pointed n) u h c = tt

    received_writes : (pt : Point) (to : Goal) (u : Tree) → fits int u ≡ true → is_closed [] u ≡ true → Writes Term Formula (received m p s texts contract functions pt to u)
    received_writes pt nowhere u h c = tt
    received_writes pt (temporary n) u h c = number_writes Term Formula fills m u h c
    received_writes pt (place cs type l path es) u h c = (values_write Term Formula fills m p s texts named es, placed_writes (one_further pt) l path.root u h c)
    received_writes pt (variable x) u h c = set_writes Term Formula fills m ((sizes p s).globals + x) u h c

    behind_writes : (pt : Point) (to : Goal) (g : Function Steps) (es : t.Values) → Writes Term Formula (behind_call m p s texts contract functions pt to g es)
    behind_writes pt to g es = (
      files_write g.contract 0 p.globals,
      (
        knows_write Term Formula fills m (stay_trees p s texts g es) (all_stay_fit p s texts named g es g.contract.behaviors),
        (
          answer_writes g.result,
          (
            knows_write Term Formula fills m (call_promises p s texts g es) (promises_fit p s texts named g es),
            received_writes pt to (answer_term m p s texts contract functions g.result) (answer_int g.result) (answer_closed g.result),
          ),
        ),
      ),
    )

    by_writes : (pt : Point) (to : Goal) (n l : ℕ) (o : Option (Function Steps)) (es : t.Values) → Writes Term Formula (call_by m p s texts contract functions pt to n l o es)
    by_writes pt to n l None es = tt
    by_writes pt to n l (Some g) es = (
      values_write Term Formula fills m p s texts named es,
      (
        asks_write Term Formula fills m (call_requires p s texts g es) (broken_place broken.requires l) (requires_fit p s texts named g es),
        (
          asks_write Term Formula fills m (lower_by p s texts g es (suc pt.entry) (p.in_cluster pt.self n) contract.decreases g.contract.decreases) (broken_place broken.decreases l)
              (lower_fits p s texts named g es (suc pt.entry) (p.in_cluster pt.self n) contract.decreases g.contract.decreases),
          (
            asks_write Term Formula fills m (inclusion_trees p s texts g es contract pt) (broken_place broken.assigns l) (inclusions_fit p s texts named g es contract pt),
            behind_writes pt to g es,
          ),
        ),
      ),
    )

pub call_writes : (Term Formula : Tree → Type 0) → Fills Term Formula → (m : sense.World) (p : Facts) (s : Shape) (texts : Texts) → TextsFit texts → (contract : Contract)
    (functions : ℕ → Option (Function Steps)) (pt : Point) (cs : List CheckOf) (to : Goal) (n l : ℕ) (es : t.Values)
    → Writes Term Formula (call_word m p s texts contract functions pt cs to n l es)
call_writes Term Formula fills m p s texts named contract functions pt cs to n l es = by_writes Term Formula fills m p s texts named contract functions pt to n l (functions n) es
