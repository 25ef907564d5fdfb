-- The word of a call: what is asked before it, what it changes, what is known behind it, and where its result goes.
use Rattle.std.specs.Prelude.{ℕ, Bool, true, false, pos, List, [], ◌∷◌, ◌++◌, map, Option, Some, None, slice_get}
use Rattle.wp_base.specs.declared.kinds.CellKind.{CellKind}
use Rattle.typed_prog.specs.Tree as t
use Rattle.acsl_encode.specs.Encode.{term_of}
use Rattle.qed_terms.specs.Meaning as sense
use Rattle.qed_terms.specs.Tree.{Tree, num, at_most, less, and_of}
use Rattle.c_runs.specs.Program.{Claim, Measure, Behavior, Contract, Function, Facts}
use Rattle.c_runs.specs.Claims as broken
use Rattle.c_runs.specs.Checks.{Check}
use Rattle.c_runs.specs.Tree.{Goal, nowhere, temporary, place, variable, Steps}
use Rattle.program_steps.specs.Stops.{broken_place}
use Rattle.program_steps.specs.Temporaries.{Temporaries}
use Rattle.value_terms.specs.Readings.{Term, as_number}
use Rattle.memory_steps.specs.Step.{Change, keeps, Step, skip, halt, seq, know, change, scope, remember}
use Rattle.memory_words.specs.Places.{Place, answer, answer_offset, slot, changes_by}
use Rattle.memory_words.specs.Leaves.{form}
use Rattle.memory_words.specs.Shapes.{FileCells, Shape, sizes}
use Rattle.memory_words.specs.Readings.{Texts, leaf, term_of_kind}
use Rattle.memory_words.specs.Points.{Point, remembered}
use Rattle.memory_words.specs.Sets.{claim_tree, under, since, entry_at}
use Rattle.memory_words.specs.Words.{Others, ask_all, values_step, terms_at, store_to, start_of, set_temporary}
use Rattle.memory_calls.specs.LoopWords.{or_zero}
use Rattle.memory_calls.specs.Havoc.{first_change, second_change, havoc_word}
use Rattle.memory_calls.specs.Stays.{all_stay}
use Rattle.memory_calls.specs.Callee.{entered_at, returned_from}
use Rattle.memory_calls.specs.CallSets.{callee_assumes, inclusion_trees, call_havoc}

module _ (p : Facts) (s : Shape) (cells : FileCells) (texts : Texts) (g : Function Steps) (es : t.Values) where
  -- ---- what is asked before the call

  abbrev pub entry_claim : Claim → Tree
  entry_claim c = claim_tree (entered_at p s cells texts g es 0) c.what

  abbrev pub required_trees : (is_plain : Bool) → Behavior → List Tree
  required_trees plain b = map (λ c. under plain (callee_assumes p s cells texts g es 0 b) (entry_claim c)) b.requires

  abbrev pub all_required : List Behavior → List Tree
  all_required [] = []
  all_required (b ∷ bs) = required_trees false b ++ all_required bs

  abbrev pub call_requires : List Tree
  call_requires = required_trees true g.contract.plain ++ all_required g.contract.behaviors

  -- the caller's measure where the caller was entered, and that of the function where it is called
  abbrev pub lower_by : Point → (in_cluster : Bool) → (old now : Option Measure) → List Tree
  lower_by pt true (Some a) (Some b) =
      let old = or_zero (term_of (entry_at p s cells texts pt.stands a.what) a.what) in
      let now = or_zero (term_of (entered_at p s cells texts g es 0 b.what) b.what) in
      and_of (at_most (num (pos 0)) old ∷ less now old ∷ []) ∷ []
  lower_by pt _ old now = []

  -- ---- what is known behind it

  -- by the clauses of behaviors, of which what they assume is read where the function was entered
  abbrev pub stay_trees : List Tree
  stay_trees = all_stay p s cells texts (entered_at p s cells texts g es 1) (callee_assumes p s cells texts g es 1) (since 1) (call_havoc p s cells texts g es)
      g.contract.behaviors

  abbrev pub promise : Claim → Tree
  promise c = claim_tree (returned_from p s cells texts g es) c.what

  abbrev pub promised_trees : (is_plain : Bool) → Behavior → List Tree
  promised_trees plain b = map (λ c. under plain (callee_assumes p s cells texts g es 1 b) (promise c)) b.ensures

  abbrev pub all_promised : List Behavior → List Tree
  all_promised [] = []
  all_promised (b ∷ bs) = promised_trees false b ++ all_promised bs

  abbrev pub call_promises : List Tree
  call_promises = promised_trees true g.contract.plain ++ all_promised g.contract.behaviors

module _ (m : sense.World) (p : Facts) (s : Shape) (cells : FileCells) (texts : Texts) (contract : Contract) (functions : ℕ → Option (Function Steps)) where
  -- ---- the result

  abbrev pub answer_change : CellKind → Place → Change
  answer_change k answer = first_change m p true k
  answer_change k answer_offset = second_change m p true k
  answer_change k a = keeps

  -- any value of its kind
  abbrev pub answer_step : Option CellKind → Step
  answer_step (Some k) = change (changes_by (sizes p s) (answer_change k))
  answer_step None = skip

  -- a function without result gives what is of no use
  abbrev pub answer_term : Option CellKind → Term
  answer_term None = as_number (num (pos 0))
  answer_term (Some k) = term_of_kind k (leaf p s cells 0 answer) (leaf p s cells 0 answer_offset)

  module _ (others : Others) where
    -- where the state before the call is remembered
    abbrev pub received : Point → Goal → Term → Step
    received pt nowhere u = skip
    received pt (temporary n) u = set_temporary m (sizes p s) (s.temp_kind n) n u
    received pt (place cs type l path es) u =
        seq (values_step m p s cells texts contract others es)
        (store_to m p s cells texts contract others (remembered pt) l type path (terms_at m p s cells texts contract others es) u)
    received pt (variable x) u = start_of m p s cells texts contract others x (slice_get s.variables x) u

    -- ---- the call

    -- behind what is asked
    abbrev pub behind_call : Point → Goal → Function Steps → t.Values → Step
    behind_call pt to g es =
        remember (scope (slot (sizes p s) answer ∷ slot (sizes p s) answer_offset ∷ [])
        (seq (havoc_word m p s cells (call_havoc p s cells texts g es))
        (seq (know (map (form m) (stay_trees p s cells texts g es)))
        (seq (answer_step g.result)
        (seq (know (map (form m) (call_promises p s cells texts g es)))
        (received pt to (answer_term g.result)))))))

    abbrev pub call_of : Point → Goal → (function line : ℕ) → Function Steps → t.Values → Step
    call_of pt to n l g es =
        seq (values_step m p s cells texts contract others es)
        (seq (ask_all m (sizes p s) (call_requires p s cells texts g es) (broken_place broken.requires l))
        (seq (ask_all m (sizes p s) (lower_by p s cells texts g es pt (p.in_cluster pt.self n) contract.decreases g.contract.decreases) (broken_place broken.decreases l))
        (seq (ask_all m (sizes p s) (inclusion_trees p s cells texts g es contract pt) (broken_place broken.assigns l))
        (behind_call pt to g es))))

    -- a function that isn't there has no run
    abbrev pub call_by : Point → Goal → (function line : ℕ) → Option (Function Steps) → t.Values → Step
    call_by pt to n l (Some g) es = call_of pt to n l g es
    call_by pt to n l None es = halt

    abbrev pub call_word : Point → List Check → Goal → (function line : ℕ) → t.Values → (after : Temporaries) → Step
    call_word pt cs to n l es f = call_by pt to n l (functions n) es
