-- The word of a call: what is asked before it, what it changes, what is known behind it, and where its result goes.
use Rattle.std.specs.Prelude.{ℕ, zero, suc, ◌+◌, Bool, true, false, pos, List, [], ◌∷◌, ◌++◌, map, Option, Some, None}
use Rattle.wp_base.specs.declared.kinds.CellKind.{CellKind}
use Rattle.wp_base.specs.declared.kinds.CellKind.TheVariants as cell
use Rattle.c_kinds.specs.Models.{low, high}
use Rattle.typed_prog.specs.Tree as t
use Rattle.typed_prog.specs.declared.operators.Root.{Root}
use Rattle.typed_prog.specs.declared.operators.Root.TheVariants as root
use Rattle.acsl_encode.specs.Encode.{term_of}
use Rattle.qed_terms.specs.Meaning as sense
use Rattle.qed_terms.specs.Tree.{Tree, num, at_most, less, and_of}
use Rattle.c_runs.specs.Program.{Claim, Measure, Behavior, Contract, Function, Facts}
use Rattle.c_runs.specs.Claims as broken
use Rattle.c_runs.specs.Checks.{Check}
use Rattle.c_runs.specs.Tree.{Goal, nowhere, temporary, place, variable, Steps}
use Rattle.plain_states.specs.Slots.{answer_slot, temp_slot}
use Rattle.plain_runs.specs.Fitting.{Shape, sizes}
use Rattle.value_terms.specs.Words.{words}
use Rattle.walk_steps.specs.Step.{Change, keeps, Step, skip, halt, seq, know, set, change, scope, remember}
use Rattle.walk_words.specs.Changes.{ranged}
use Rattle.program_steps.specs.Leaves.{leaf, form, number}
use Rattle.program_steps.specs.Stops.{broken_place}
use Rattle.program_steps.specs.Terms.{Texts, reading, entry_reading, claim_tree, or_zero}
use Rattle.program_steps.specs.Words.{Point, under, write_trees, variable_number, ask_all, items_step, set_variable}
use Rattle.program_steps.specs.Staying.{all_stay}
use Rattle.call_words.specs.Callee.{entered_at, returned_from}
use Rattle.call_words.specs.Sets.{callee_assumes, inclusion_trees, may_differ, file_changes}

-- with one more state that is remembered
abbrev pub one_further : Point → Point
one_further pt = record pt { entry = suc pt.entry; loop_entry = suc pt.loop_entry }

-- this change of a slot alone
abbrev pub change_at : ℕ → Change → List Change
change_at zero c = c ∷ []
change_at (suc i) c = keeps ∷ change_at i c

module _ (p : Facts) (s : Shape) (texts : Texts) (g : Function Steps) (es : t.Values) where
  -- ---- what is asked before the call

  abbrev pub entry_claim : Claim → Tree
  entry_claim c = claim_tree p s texts (entered_at p s texts g es 0) c.what

  abbrev pub required_trees : (is_plain : Bool) → Behavior → List Tree
  required_trees plain b = map (λ c. under plain (callee_assumes p s texts g es 0 b) (entry_claim c)) b.requires

  abbrev pub all_required : List Behavior → List Tree
  all_required [] = []
  all_required (b ∷ bs) = required_trees false b ++ all_required bs

  abbrev pub call_requires : List Tree
  call_requires = required_trees true g.contract.plain ++ all_required g.contract.behaviors

  -- the caller's measure where the caller was entered, and that of the function where it is called
  abbrev pub lower_by : (entry : ℕ) → (in_cluster : Bool) → (old now : Option Measure) → List Tree
  lower_by e true (Some a) (Some b) =
      let old = or_zero (term_of (entry_reading p s texts e a.what) a.what) in
      let now = or_zero (term_of (entered_at p s texts g es 0 b.what) b.what) in
      and_of (at_most (num (pos 0)) old ∷ less now old ∷ []) ∷ []
  lower_by e _ old now = []

  -- ---- what is known behind it

  -- what a behavior doesn't name of what may differ
  abbrev pub stay_trees : List Tree
  stay_trees = all_stay (callee_assumes p s texts g es 1) (may_differ g.contract) p.globals g.contract.behaviors

  abbrev pub promise : Claim → Tree
  promise c = claim_tree p s texts (returned_from p s texts g es) c.what

  abbrev pub promised_trees : (is_plain : Bool) → Behavior → List Tree
  promised_trees plain b = map (λ c. under plain (callee_assumes p s texts g es 1 b) (promise c)) b.ensures

  abbrev pub all_promised : List Behavior → List Tree
  all_promised [] = []
  all_promised (b ∷ bs) = promised_trees false b ++ all_promised bs

  abbrev pub call_promises : List Tree
  call_promises = promised_trees true g.contract.plain ++ all_promised g.contract.behaviors

module _ (m : sense.World) (p : Facts) (s : Shape) (texts : Texts) (contract : Contract) (functions : ℕ → Option (Function Steps)) where
  -- ---- the result

  -- any value of its kind
  abbrev pub answer_step : Option CellKind → Step
  answer_step (Some (cell.Of k)) = change (change_at (answer_slot (sizes p s)) (ranged (low p.model k) (high p.model k)))
  answer_step _ = skip

  -- a function without result gives what is of no use
  abbrev pub answer_term : Option CellKind → Tree
  answer_term None = num (pos 0)
  answer_term (Some k) = leaf 0 (answer_slot (sizes p s))

  abbrev pub placed_in : Point → (line : ℕ) → Root → Tree → Step
  placed_in pt l (root.Variable x) u =
      seq (ask_all m (write_trees p s texts contract pt x) (broken_place broken.assigns l)) (set_variable m (variable_number (sizes p s) x) u)
  placed_in pt l (root.Pointed n) u = halt

  -- where the state before the call is remembered
  abbrev pub received : Point → Goal → Tree → Step
  received pt nowhere u = skip
  received pt (temporary n) u = set (temp_slot (sizes p s) n) (number m u)
  received pt (place cs type l path es) u = seq (items_step m (words p s.variables (reading p s) es)) (placed_in (one_further pt) l path.root u)
  received pt (variable x) u = set_variable m ((sizes p s).globals + x) u

  -- ---- the call

  -- behind what is asked
  abbrev pub behind_call : Point → Goal → Function Steps → t.Values → Step
  behind_call pt to g es =
      remember (scope (answer_slot (sizes p s) ∷ [])
      (seq (change (file_changes p g.contract 0 p.globals))
      (seq (know (map (form m) (stay_trees p s texts g es)))
      (seq (answer_step g.result)
      (seq (know (map (form m) (call_promises p s texts g es)))
      (received pt to (answer_term g.result)))))))

  abbrev pub call_of : Point → Goal → (function line : ℕ) → Function Steps → t.Values → Step
  call_of pt to n l g es =
      seq (items_step m (words p s.variables (reading p s) es))
      (seq (ask_all m (call_requires p s texts g es) (broken_place broken.requires l))
      (seq (ask_all m (lower_by p s texts g es (suc pt.entry) (p.in_cluster pt.self n) contract.decreases g.contract.decreases) (broken_place broken.decreases l))
      (seq (ask_all m (inclusion_trees p s texts g es contract pt) (broken_place broken.assigns l))
      (behind_call pt to g es))))

  -- a function that isn't there has no run
  abbrev pub call_by : Point → Goal → (function line : ℕ) → Option (Function Steps) → t.Values → Step
  call_by pt to n l (Some g) es = call_of pt to n l g es
  call_by pt to n l None es = halt

  abbrev pub call_word : Point → List Check → Goal → (function line : ℕ) → t.Values → Step
  call_word pt cs to n l es = call_by pt to n l (functions n) es
