-- All formulas and terms that stand in words are well formed.
use Rattle.std.proofs.Common.{◌≡◌, ℕ, zero, suc, Bool, true, false, ◌||◌, if◌then◌else◌, List, [], ◌∷◌, ◌++◌, map, Option, Some, None, slice_get, refl}
use Rattle.wp_base.specs.declared.kinds.Kind.{Kind}
use Rattle.typed_prog.specs.declared.operators.Variable.{Variable}
use Rattle.typed_prog.specs.declared.operators.Variable.TheVariants as variables
use Rattle.acsl_trees.specs.Tree as acsl
use Rattle.qed_terms.specs.Meaning as sense
use Rattle.qed_terms.specs.Tree.{Tree, false_tree, and_of, or_of}
use Rattle.qed_terms.specs.Names.{is_name}
use Rattle.c_runs.specs.Program as program
use Rattle.c_runs.specs.Program.{Claim, Behavior, Together, Contract, Function, Facts}
use Rattle.c_runs.specs.Tree.{Steps}
use Rattle.plain_states.specs.Slots.{value_slot, local_value, local_flag, result_slot, temp_slot}
use Rattle.plain_states.specs.Scopes.{kind_of}
use Rattle.plain_runs.specs.Fitting.{Shape, sizes}
use Rattle.value_terms.specs.Readings as readings
use Rattle.acsl_encode.specs.Readings as annotation
use Rattle.acsl_encode.specs.Readings.{whole, any_integer}
use Rattle.acsl_encode.specs.WellFormed.{IsFormula, SlotFits, SeenFits, ReadingFits}
use Rattle.acsl_encode.specs.Encode.{formula_of}
use Rattle.acsl_encode.proofs.Fitting.{AllFormulas, all_of_fits, two_fit}
use Rattle.acsl_encode.proofs.Fitted.{formulas_fit}
use Rattle.program_steps.specs.Leaves.{leaf}
use Rattle.program_steps.specs.Terms.{Texts, reading, global_slot, local_slot, seen_at, body_reading, entry_reading, return_reading, or_none, claim_tree, assumed_tree, has_variable}
use Rattle.program_steps.specs.Words.{Force, of_function, of_loop, Point, as_one, as_one_unless, under, lacks, missing_in, missing_all, missing, is_inside, write_trees}
use Rattle.program_steps.specs.Functions.{any_of, not_both, no_two, behavior_tree, named_tree, named_trees}
use Rattle.program_steps.specs.Starting.{range_trees, file_ranges, param_ranges, start_claim, start_assumed, required_trees, all_required, start_trees}
use Rattle.program_goals.specs.Texts.{TextsFit}
use Rattle.program_goals.proofs.Names.{and_both, leaf_is_int, binder_is_int}

-- ---- lists of formulas

pub more_formulas : (fs gs : List Tree) → AllFormulas fs → AllFormulas gs → AllFormulas (fs ++ gs)
more_formulas [] gs h k = k
more_formulas (f ∷ fs) gs h k = (h.0, more_formulas fs gs h.1 k)

one_formula : (fs : List Tree) → AllFormulas fs → AllFormulas (as_one fs)
one_formula [] h = tt
one_formula (f ∷ fs) h = (all_of_fits (f ∷ fs) h, tt)

pub refused_fits : (refused : Bool) (fs : List Tree) → AllFormulas fs → AllFormulas (as_one_unless refused fs)
refused_fits true fs h = (refl, tt)
refused_fits false fs h = one_formula fs h

pub under_fits : (plain : Bool) (a f : Tree) → IsFormula a → IsFormula f → IsFormula (under plain a f)
under_fits true a f h k = k
under_fits false a f h k = two_fit a f h k

pub and_fits : (f g : Tree) → IsFormula f → IsFormula g → IsFormula (and_of (f ∷ g ∷ []))
and_fits f g h k = two_fit f g h k

not_both_fit : (f : Tree) (gs : List Tree) → IsFormula f → AllFormulas gs → AllFormulas (not_both f gs)
not_both_fit f [] h k = tt
not_both_fit f (g ∷ gs) h k = (and_both (and_fits f g h k.0) refl, not_both_fit f gs h k.1)

pub no_two_fit : (fs : List Tree) → AllFormulas fs → AllFormulas (no_two fs)
no_two_fit [] h = tt
no_two_fit (f ∷ fs) h = more_formulas (not_both f fs) (no_two fs) (not_both_fit f fs h.0 h.1) (no_two_fit fs h.1)

or_fits : (fs : List Tree) → AllFormulas fs → IsFormula (or_of fs)
or_fits [] h = refl
or_fits (f ∷ fs) h = and_both h.0 (or_fits fs h.1)

pub any_of_fits : (fs : List Tree) → AllFormulas fs → IsFormula (any_of fs)
any_of_fits [] h = refl
any_of_fits (f ∷ []) h = h.0
any_of_fits (f ∷ g ∷ fs) h = or_fits (f ∷ g ∷ fs) h

module _ (p : Facts) (s : Shape) where
  -- ---- readings

  pub reading_fits : readings.IsWellFormed (reading p s)
  unfolding is_name
  reading_fits = record {
    locals = λ x. (leaf_is_int 0 (local_value (sizes p s) x)).int;
    globals = λ x. (leaf_is_int 0 (value_slot x)).int;
    temporaries = λ n. (leaf_is_int 0 (temp_slot (sizes p s) n)).int;
    flags = λ x. (leaf_is_int 0 (local_flag (sizes p s) x)).int;
    homes = λ x. refl;
    table = refl;
    numbers = λ k. refl;
    blocks = refl;
    offsets = refl;
  }

  pub global_fits : (l x : ℕ) (o : Option program.Variable) → SlotFits (global_slot p s l x o)
  global_fits l x None = tt
  global_fits l x (Some v) = leaf_is_int l (value_slot x)

  local_fits : (l x : ℕ) (o : Option program.Variable) → SlotFits (local_slot p s l x o)
  local_fits l x None = tt
  local_fits l x (Some v) = by v.has_value where
    by : (b : Bool) → SlotFits (if b then whole (kind_of v) (leaf l (local_value (sizes p s) x)) else any_integer (leaf l (local_value (sizes p s) x)))
    by true = leaf_is_int l (local_value (sizes p s) x)
    by false = leaf_is_int l (local_value (sizes p s) x)

  pub seen_fits : (g l : ℕ) → SeenFits (seen_at p s g l)
  seen_fits g l = record { variables = variables_fit; table = tt; numbers = λ k. tt; pointers = tt } where
    variables_fit : (x : Variable) → SlotFits ((seen_at p s g l).variable x)
    variables_fit (variables.Global x) = global_fits g x (slice_get p.globals x)
    variables_fit (variables.Local x) = local_fits l x (slice_get s.variables x)

  module _ (texts : Texts) (named : TextsFit texts) where
    pub body_fits : (h e g : ℕ) (a : acsl.Tree) → ReadingFits (body_reading p s texts h e g a)
    body_fits h e g a = record {
      here = seen_fits h h;
      pre = seen_fits e e;
      post = seen_fits h h;
      loop_entry = seen_fits g g;
      result = tt;
      binders = λ n. binder_is_int (texts.binders a) (named.binders a) n;
      called = named.called;
    }

    pub return_fits : (e : ℕ) (a : acsl.Tree) → ReadingFits (return_reading p s texts e a)
    return_fits e a = record {
      here = seen_fits 0 e;
      pre = seen_fits e e;
      post = seen_fits 0 e;
      loop_entry = seen_fits e e;
      result = leaf_is_int 0 (result_slot (sizes p s));
      binders = λ n. binder_is_int (texts.binders a) (named.binders a) n;
      called = named.called;
    }

    -- ---- annotations

    pub claim_fits : (r : acsl.Tree → annotation.Reading) (a : acsl.Tree) → ReadingFits (r a) → IsFormula (claim_tree p s texts r a)
    claim_fits r a good = by (formula_of (r a) a) refl where
      by : (o : Option Tree) → formula_of (r a) a ≡ o → IsFormula (or_none p s texts o)
      by None e = refl
      by (Some f) e = (formulas_fit (r a) a good).formula f e

    claims_fit : (r : acsl.Tree → annotation.Reading) → ((a : acsl.Tree) → ReadingFits (r a)) → (as_ : List acsl.Tree) → AllFormulas (map (claim_tree p s texts r) as_)
    claims_fit r good [] = tt
    claims_fit r good (a ∷ as_) = (claim_fits r a (good a), claims_fit r good as_)

    pub assumed_fits : (r : acsl.Tree → annotation.Reading) → ((a : acsl.Tree) → ReadingFits (r a)) → (as_ : List acsl.Tree) → IsFormula (assumed_tree p s texts r as_)
    assumed_fits r good as_ = all_of_fits (map (claim_tree p s texts r) as_) (claims_fit r good as_)

    pub entry_fits : (e : ℕ) (b : Behavior) → IsFormula (assumed_tree p s texts (entry_reading p s texts e) b.assumes)
    entry_fits e b = assumed_fits (entry_reading p s texts e) (λ a. body_fits e e e a) b.assumes

    -- ---- writes

    missing_in_fits : (e : ℕ) (plain : Bool) (b : Behavior) (x : Variable) → AllFormulas (missing_in p s texts e plain b x)
    missing_in_fits e plain b x = by (lacks b.assigns x) where
      by : (t : Bool) → AllFormulas (if t then under plain (assumed_tree p s texts (entry_reading p s texts e) b.assumes) false_tree ∷ [] else [])
      by true = (under_fits plain _ false_tree (entry_fits e b) refl, tt)
      by false = tt

    missing_all_fits : (e : ℕ) (bs : List Behavior) (x : Variable) → AllFormulas (missing_all p s texts e bs x)
    missing_all_fits e [] x = tt
    missing_all_fits e (b ∷ bs) x = more_formulas (missing_in p s texts e false b x) (missing_all p s texts e bs x) (missing_in_fits e false b x) (missing_all_fits e bs x)

    missing_fits : (e : ℕ) (c : Contract) (x : Variable) → AllFormulas (missing p s texts e c x)
    missing_fits e c (variables.Global x) =
        refused_fits (lacks c.plain.assigns (variables.Global x)) (missing_in p s texts e true c.plain (variables.Global x) ++ missing_all p s texts e c.behaviors (variables.Global x))
        (more_formulas (missing_in p s texts e true c.plain (variables.Global x)) _ (missing_in_fits e true c.plain (variables.Global x)) (missing_all_fits e c.behaviors (variables.Global x)))
    missing_fits e c (variables.Local x) = tt

    unless_fits : (b : Bool) → AllFormulas (if b then [] else false_tree ∷ [])
    unless_fits true = tt
    unless_fits false = (refl, tt)

    pub writes_fit : (c : Contract) (pt : Point) (x : Variable) → AllFormulas (write_trees p s texts c pt x)
    writes_fit c pt x = by pt.force where
      by : (w : Force) → AllFormulas (write_trees p s texts c (record pt { force = w }) x)
      by of_function = missing_fits (suc pt.entry) c x
      by (of_loop rs d) = unless_fits (has_variable rs x || is_inside p s texts d x)

    -- ---- contracts

    module _ (m : sense.World) where
      pub behavior_fits : (b : Behavior) → IsFormula (behavior_tree m p s texts b)
      behavior_fits b = entry_fits 1 b

      named_fits : (o : Option Behavior) → IsFormula (named_tree m p s texts o)
      named_fits None = refl
      named_fits (Some b) = behavior_fits b

      all_named : (bs : List Behavior) → AllFormulas (map (behavior_tree m p s texts) bs)
      all_named [] = tt
      all_named (b ∷ bs) = (behavior_fits b, all_named bs)

      by_number : (bs : List Behavior) (ns : List ℕ) → AllFormulas (map (λ i. named_tree m p s texts (slice_get bs i)) ns)
      by_number bs [] = tt
      by_number bs (n ∷ ns) = (named_fits (slice_get bs n), by_number bs ns)

      pub named_all_fit : (bs : List Behavior) (ns : List ℕ) → AllFormulas (named_trees m p s texts bs ns)
      named_all_fit bs [] = all_named bs
      named_all_fit bs (n ∷ ns) = by_number bs (n ∷ ns)

      -- ---- the start

      ranges_fit : (k : Kind) (i : ℕ) → AllFormulas (range_trees m p s texts k i)
      ranges_fit k i = (and_both refl (and_both (leaf_is_int 0 i).int refl), (and_both (leaf_is_int 0 i).int refl, tt))

      files_fit : (x : ℕ) (vs : List program.Variable) → AllFormulas (file_ranges m p s texts x vs)
      files_fit x [] = tt
      files_fit x (v ∷ vs) = more_formulas (range_trees m p s texts (kind_of v) (value_slot x)) _ (ranges_fit (kind_of v) (value_slot x)) (files_fit (suc x) vs)

      params_fit : (n x : ℕ) (vs : List program.Variable) → AllFormulas (param_ranges m p s texts n x vs)
      params_fit zero x vs = tt
      params_fit (suc n) x [] = tt
      params_fit (suc n) x (v ∷ vs) =
          more_formulas (range_trees m p s texts (kind_of v) (local_value (sizes p s) x)) _ (ranges_fit (kind_of v) (local_value (sizes p s) x)) (params_fit n (suc x) vs)

      required_fit : (plain : Bool) (b : Behavior) (cs : List Claim) → AllFormulas (map (λ c. under plain (start_assumed m p s texts b) (start_claim m p s texts c)) cs)
      required_fit plain b [] = tt
      required_fit plain b (c ∷ cs) =
          (under_fits plain _ _ (entry_fits 0 b) (claim_fits (entry_reading p s texts 0) c.what (body_fits 0 0 0 c.what)), required_fit plain b cs)

      all_required_fit : (bs : List Behavior) → AllFormulas (all_required m p s texts bs)
      all_required_fit [] = tt
      all_required_fit (b ∷ bs) = more_formulas (required_trees m p s texts false b) _ (required_fit false b b.requires) (all_required_fit bs)

      pub starts_fit : (f : Function Steps) → AllFormulas (start_trees m p s texts f)
      starts_fit f =
          more_formulas (file_ranges m p s texts 0 p.globals) _ (files_fit 0 p.globals)
          (more_formulas (param_ranges m p s texts f.params 0 s.variables) _ (params_fit f.params 0 s.variables)
          (more_formulas (required_trees m p s texts true f.contract.plain) _ (required_fit true f.contract.plain f.contract.plain.requires) (all_required_fit f.contract.behaviors)))
