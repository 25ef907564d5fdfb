-- Statements of a core program as words made of steps. What a loop and what a call is, is told apart from the other statements.
use Rattle.std.specs.Prelude.{ℕ, zero, suc, ◌+◌, ◌==◌, nat_le, Bool, true, false, not, ◌&&◌, ◌||◌, if◌then◌else◌, ℤ, pos, List, [], ◌∷◌, ◌++◌, map, length, Option, Some, None, slice_get}
use Rattle.qed_terms.specs.Meaning as sense
use Rattle.qed_terms.specs.Operators.{is_zero}
use Rattle.qed_terms.specs.Tree.{Tree, num, false_tree, not_of, imp_of}
use Rattle.typed_prog.specs.Tree as t
use Rattle.typed_prog.specs.declared.operators.Path.{Path}
use Rattle.typed_prog.specs.declared.operators.Root.{Root}
use Rattle.typed_prog.specs.declared.operators.Root.TheVariants as root
use Rattle.typed_prog.specs.declared.operators.Variable.{Variable}
use Rattle.typed_prog.specs.declared.operators.Variable.TheVariants as variables
use Rattle.acsl_trees.specs.Tree as acsl
use Rattle.acsl_encode.specs.Readings as annotation
use Rattle.acsl_encode.specs.Encode.{all_of}
use Rattle.c_runs.specs.Program as program
use Rattle.c_runs.specs.Program.{Claim, Behavior, Contract, Loop, Facts}
use Rattle.c_runs.specs.Claims as broken
use Rattle.c_runs.specs.Claims.{Broken}
use Rattle.c_runs.specs.Checks as rte
use Rattle.c_runs.specs.Checks.{constant_of}
use Rattle.c_runs.specs.Tree as core
use Rattle.c_runs.specs.Tree.{Goal}
use Rattle.plain_states.specs.Slots.{Sizes, value_slot, flag_slot, result_slot, temp_slot}
use Rattle.goal_segments.specs.Told.{Shape, sizes, temps}
use Rattle.value_terms.specs.Readings.{Term, number_term, condition, term_at}
use Rattle.value_terms.specs.Terms.{term_of, terms_of}
use Rattle.value_terms.specs.Words.{Item, asked, known, word_of, words}
use Rattle.walk_steps.specs.Forms.{Form, Number, Place, Check}
use Rattle.walk_steps.specs.Step.{Change, keeps, fresh, Step, skip, halt, seq, ask, know, set, change, choose, block, exit, scope}
use Rattle.program_steps.specs.Leaves.{form, number}
use Rattle.program_steps.specs.Stops.{undefined_place, broken_place}
use Rattle.program_steps.specs.Temporaries.{Temporaries, out_at, uses, live, all_live}
use Rattle.program_steps.specs.Terms.{Texts, reading, body_reading, entry_reading, claim_tree, assumed_tree, has_variable}

-- ---- where a statement stands

-- the set in force: the function's clauses, or those of a loop, which finds so many variables declared
pub data Force : Type 0 where
  of_function : Force
  of_loop : (regions : List acsl.Tree) (declared : ℕ) → Force

-- The number of the function; which of the remembered states, the last one being 0, are its entry and that of the innermost loop; which temporaries are used
-- behind the blocks around; and the set in force.
pub record Point : Type 0 where
  pub self : ℕ
  pub entry : ℕ
  pub loop_entry : ℕ
  pub outs : List Temporaries
  pub force : Force

abbrev pub in_block : Temporaries → Point → Point
in_block f pt = record pt { outs = f ∷ pt.outs }

-- ---- formulas that are asked

-- several as one, if there are any
abbrev pub as_one : List Tree → List Tree
as_one [] = []
as_one (f ∷ fs) = all_of (f ∷ fs) ∷ []

-- `false` alone where the clause outside of behaviors refuses
abbrev pub as_one_unless : (refused : Bool) → List Tree → List Tree
as_one_unless true fs = false_tree ∷ []
as_one_unless false fs = as_one fs

-- where this is assumed
abbrev pub under : (is_plain : Bool) → (assumed f : Tree) → Tree
under true a f = f
under false a f = imp_of a f

-- a clause that doesn't name the variable, if it says what may change
abbrev pub lacks : Option (List acsl.Tree) → Variable → Bool
lacks None x = false
lacks (Some rs) x = not (has_variable rs x)

module _ (p : Facts) (s : Shape) (texts : Texts) where
  abbrev pub missing_in : (entry : ℕ) → (is_plain : Bool) → Behavior → Variable → List Tree
  missing_in e plain b x = if lacks b.assigns x then under plain (assumed_tree p s texts (entry_reading p s texts e) b.assumes) false_tree ∷ [] else []

  abbrev pub missing_all : (entry : ℕ) → List Behavior → Variable → List Tree
  missing_all e [] x = []
  missing_all e (b ∷ bs) x = missing_in e false b x ++ missing_all e bs x

  -- a variable of the function needs no leave from the function's clauses
  abbrev pub missing : (entry : ℕ) → Contract → Variable → List Tree
  missing e c (variables.Global x) =
      as_one_unless (lacks c.plain.assigns (variables.Global x)) (missing_in e true c.plain (variables.Global x) ++ missing_all e c.behaviors (variables.Global x))
  missing e c (variables.Local x) = []

  -- a loop says nothing of variables that are declared inside of it
  abbrev pub is_inside : (declared : ℕ) → Variable → Bool
  is_inside d (variables.Global x) = false
  is_inside d (variables.Local x) = nat_le d x

  abbrev pub write_trees : Contract → Point → Variable → List Tree
  write_trees c pt x = by pt.force where
    by : Force → List Tree
    by of_function = missing (suc pt.entry) c x
    by (of_loop rs d) = if has_variable rs x || is_inside d x then [] else false_tree ∷ []

-- ---- checks and values

abbrev pub variable_number : Sizes → Variable → ℕ
variable_number z (variables.Global x) = x
variable_number z (variables.Local x) = z.globals + x

abbrev pub is_so : Tree → Bool → Tree
is_so f true = f
is_so f false = not_of f

-- the value of a condition that is a constant
abbrev pub known_test : t.Value → Option Bool
known_test e = by (constant_of (t.node_of e)) where
  by : Option ℤ → Option Bool
  by (Some z) = Some (not (is_zero z))
  by None = None

module _ (m : sense.World) where
  abbrev pub check : Tree → Place → Check
  check f at = record { form = form m f; place = at }

  abbrev pub ask_one : Tree → Place → Step
  ask_one f at = ask (check f at ∷ [])

  abbrev pub ask_all : List Tree → Place → Step
  ask_all fs at = ask (map (λ f. check f at) fs)

  -- what an expression asks for, and what is known of it
  abbrev pub items_step : List Item → Step
  items_step [] = skip
  items_step (asked c f ∷ is) = seq (ask_one f (undefined_place c.kind c.line)) (items_step is)
  items_step (known f ∷ is) = seq (know (form m f ∷ [])) (items_step is)

  abbrev pub set_variable : (variable : ℕ) → Tree → Step
  set_variable x t = seq (set (value_slot x) (number m t)) (set (flag_slot x) (number m (num (pos 1))))

  -- so many temporaries, where they are no more used
  abbrev pub drop : Sizes → (count : ℕ) → Temporaries → Step
  drop z zero f = skip
  drop z (suc n) f = seq (drop z n f) (if f n then set (temp_slot z n) (number m (num (pos 0))) else skip)

  abbrev pub arms : Option Bool → Tree → Step → Step → Step
  arms None f a b = choose (form m f) a b
  arms (Some true) f a b = seq (know (form m f ∷ [])) a
  arms (Some false) f a b = seq (know (form m (not_of f) ∷ [])) b

-- ---- scopes

abbrev pub slots_of : Sizes → List ℕ → List ℕ
slots_of z [] = []
slots_of z (x ∷ ys) = value_slot (z.globals + x) ∷ flag_slot (z.globals + x) ∷ slots_of z ys

-- any value in this slot alone
abbrev pub any_at : ℕ → List Change
any_at zero = fresh [] ∷ []
any_at (suc i) = keeps ∷ any_at i

module _ (m : sense.World) (s : Shape) (z : Sizes) where
  -- a variable that is declared without a value holds anything; one with a value gets it where that stands
  abbrev pub opened : ℕ → Option program.Variable → Step
  opened x None = skip
  opened x (Some v) =
      if v.has_value then seq (set (value_slot (z.globals + x)) (number m (num (pos 0)))) (set (flag_slot (z.globals + x)) (number m (num (pos 1))))
      else seq (change (any_at (value_slot (z.globals + x)))) (set (flag_slot (z.globals + x)) (number m (num (pos 0))))

  abbrev pub all_opened : List ℕ → Step
  all_opened [] = skip
  all_opened (x ∷ ys) = seq (opened x (slice_get s.variables x)) (all_opened ys)

-- ---- statements

-- what a loop is, with its pass, and what a call is, behind which these temporaries are used
pub record Others : Type 0 where
  pub loop_word : Point → Loop → core.Steps → (pass : Step) → Step
  pub call_word : Point → List rte.Check → Goal → (function line : ℕ) → t.Values → Step

abbrev pub inside_loop : Loop → Force → Force
inside_loop l w = by l.assigns where
  by : Option (List acsl.Tree) → Force
  by None = w
  by (Some rs) = of_loop rs l.declared

-- in a pass, before which the entry of the loop and the head are remembered
abbrev pub in_pass : Loop → Point → Point
in_pass l pt = record { self = pt.self; entry = suc (suc pt.entry); loop_entry = 1; outs = pt.outs; force = inside_loop l pt.force }

module _ (m : sense.World) (p : Facts) (s : Shape) (texts : Texts) (contract : Contract) (others : Others) where
  abbrev pub term_in : t.Value → Tree
  term_in e = number_term (term_of p s.variables (reading p s) e)

  abbrev pub condition_in : t.Value → Tree
  condition_in e = condition (term_of p s.variables (reading p s) e)

  abbrev pub value_step : t.Value → Step
  value_step e = items_step m (word_of p s.variables (reading p s) e)

  abbrev pub store_to : Point → (line : ℕ) → Root → Tree → Step
  store_to pt l (root.Variable x) t =
      seq (ask_all m (write_trees p s texts contract pt x) (broken_place broken.assigns l)) (set_variable m (variable_number (sizes p s) x) t)
  store_to pt l (root.Pointed n) t = halt

  -- those of the first ones that the second ones aren't among
  abbrev pub dropped : (before after : Temporaries) → Step
  dropped f g = drop m (sizes p s) s.temporaries (λ n. f n && not (g n))

  -- behind a value that is returned none is used
  abbrev pub all_dropped : Step
  all_dropped = drop m (sizes p s) s.temporaries (λ n. true)

  abbrev mutual
    pub step : Point → core.Step → (after : Temporaries) → Step
    step pt (core.set cs n e) f = seq (value_step e) (set (temp_slot (sizes p s) n) (number m (term_in e)))
    step pt (core.store cs type l path es) f =
        seq (items_step m (words p s.variables (reading p s) es)) (store_to pt l path.root (number_term (term_at (terms_of p s.variables (reading p s) es) 0)))
    step pt (core.start cs x e) f = seq (value_step e) (set_variable m ((sizes p s).globals + x) (term_in e))
    step pt (core.call cs to n l es) f = others.call_word pt cs to n l es
    step pt (core.branch cs e a b) f =
        seq (value_step e) (arms m (known_test e) (condition_in e)
        (seq (dropped (λ n. uses e n || all_live b pt.outs f n) (all_live a pt.outs f)) (steps pt a f))
        (seq (dropped (λ n. uses e n || all_live a pt.outs f n) (all_live b pt.outs f)) (steps pt b f)))
    step pt (core.repeat l ss) f = others.loop_word pt l ss (steps (in_pass l pt) ss (λ n. false))
    step pt (core.around ss) f = block (steps (in_block f pt) ss f)
    step pt (core.exit k) f = exit k
    step pt (core.give cs None) f = exit (length pt.outs)
    step pt (core.give cs (Some e)) f = seq (value_step e) (seq (set (result_slot (sizes p s)) (number m (term_in e))) (seq all_dropped (exit (length pt.outs))))
    step pt (core.claim c) f = ask_one m (claim_tree p s texts (body_reading p s texts 0 (suc pt.entry) (suc pt.loop_entry)) c.what) (broken_place broken.assert c.line)
    step pt (core.scope ys ss) f = scope (slots_of (sizes p s) ys) (seq (all_opened m s (sizes p s) ys) (steps pt ss f))

    pub steps : Point → core.Steps → (after : Temporaries) → Step
    steps pt core.end f = skip
    steps pt (core.then_ a ss) f =
        seq (step pt a (all_live ss pt.outs f))
        (seq (dropped (λ n. live a pt.outs (all_live ss pt.outs f) n || temps a n) (all_live ss pt.outs f)) (steps pt ss f))
