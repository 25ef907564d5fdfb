-- Worlds in which a function is entered are starts of its word, so that no segment run of it fails where its goals are valid.
use Rattle.std.proofs.Common.{◌≡◌, ◌⊎◌, ℕ, zero, suc, ◌+◌, ◌-◌, ◌<◌, ◌≤◌, ℤ, pos, Bool, true, false, List, [], ◌∷◌, ◌++◌, map, length, Option, Some, None, slice_get, refl, sym, ap, ◌∙◌, subst, arith}
use Rattle.std.specs.List.{list_all}
use Rattle.std.proofs.lemmas.Bool.{false≢true}
use Rattle.wp_base.specs.declared.kinds.Kind.{Kind}
use Rattle.c_kinds.specs.Models.{holds}
use Rattle.c_runs.specs.TruthStates.{Value}
use Rattle.qed_terms.specs.Meaning as sense
use Rattle.qed_terms.specs.Tree.{Tree}
use Rattle.qed_terms.specs.Meaning.{truth}
use Rattle.qed_terms.specs.Setting.{Setting, world_of, Valid}
use Rattle.c_runs.specs.Program.{Variable, Function, Facts, Program}
use Rattle.c_runs.specs.States.{World, Memory}
use Rattle.c_runs.specs.Claims.{Stop, at_entry, required, is_required, unless_true, parts_of, failed}
use Rattle.c_runs.specs.Claims as broken
use Rattle.c_runs.specs.Calls.{stops}
use Rattle.c_runs.specs.Entry.{Enters}
use Rattle.c_runs.specs.Tree.{Steps}
use Rattle.goal_segments.specs.Segments.{FunctionSeg}
use Rattle.plain_states.specs.Slots.{State, at, double, value_slot, local_value, temp_slot}
use Rattle.plain_states.specs.Scopes.{is_integer, kind_of, zeros, first_slots, argument_slots}
use Rattle.plain_states.proofs.Lists.{double_is}
use Rattle.plain_states.proofs.Scoping.{found_below}
use Rattle.goal_segments.specs.Told.{IsGood, Shape, sizes, shape_of, AreOf}
use Rattle.goal_segments.proofs.Told.{more_slots, file_slots}
use Rattle.goal_segments.proofs.Arguments.{Numbers, numbers_of}
use Rattle.walk_steps.specs.State.{In}
use Rattle.walk_steps.specs.Step.{Step, places}
use Rattle.walk_steps.specs.Run.{End, goes_on, leaves, fails, Seg}
use Rattle.walk_steps.specs.World.{AreBases}
use Rattle.walk_steps.specs.Walk.{Goal, formula_of}
use Rattle.walk_steps.specs.Laws.{Origin, own, fixed, Start, IsFrom, Starts, AreFit, OwnDiffer, goals, Refuted}
use Rattle.walk_steps.specs.Forms.{Place, AreForms}
use Rattle.walk_steps.proofs.Exact.{failures_have_goals}
use Rattle.program_steps.specs.Leaves.{form}
use Rattle.program_steps.specs.Terms.{Texts}
use Rattle.program_steps.specs.Words.{Others}
use Rattle.program_steps.specs.Standing.{SeenBy, FailsAs}
use Rattle.program_steps.specs.Placed.{InSetting}
use Rattle.program_steps.specs.Functions.{EntersAs, FunctionFits, FunctionEnds, function_word}
use Rattle.program_steps.specs.Typed.{OtherFits}
use Rattle.program_steps.specs.Starting.{file_origins, own_origins, zero_origins, origins_of, file_ranges, param_ranges, required_trees, all_required, start_trees, start_of, StartFits}
use Rattle.program_steps.specs.Laws.{OthersAreGood, EntriesStart, GoalsSuffice}
use Rattle.program_steps.proofs.Filling.{forms_are_good}
use Rattle.program_steps.proofs.Good.{functions_are_good}
use Rattle.program_steps.proofs.Arriving.{first, entered, first_fits}
use Rattle.program_steps.proofs.Starting.{from_more, own_from, told_more, files_told, params_told, required_told}
use Rattle.program_steps.proofs.Wholes.{forth}

files_from : (xs : List Variable) (n : ℕ) (m : Memory) (more : State) → IsFrom (file_origins xs) (first_slots (double (length xs)) (file_slots xs n m ++ more))
files_from [] n m more = tt
files_from (x ∷ xs) n m more = (refl, files_from xs (suc n) m more)

all_of_required : (b : Bool) (l : ℕ) → unless_true b broken.requires l ≡ None → b ≡ true
all_of_required true l e = refl
all_of_required false l e = absurd (no e) where
  no : {X : Type 0} {x : X} → Some x ≡ None → ⊥
  no e = cc

module _ (m : sense.World) (p : Facts) (f : Function Steps) (temporaries : ℕ) (temp_kind : ℕ → Kind) (texts : Texts) (globals : list_all is_integer p.globals ≡ true)
    (integers : list_all is_integer f.variables ≡ true) (enough : f.params ≤ length f.variables) (w : World) (good : IsGood p w.memory) (zs : List ℤ) (args : AreOf p f.variables f.params zs) where
  abbrev shape : Shape
  shape = shape_of f temporaries temp_kind

  abbrev behind : ℕ
  behind = more_slots (sizes p shape) temporaries (length zs)

  pub first_from : IsFrom (origins_of m p shape texts f.params) (first p f temporaries temp_kind globals integers enough w good zs args)
  first_from = from_more (file_origins p.globals) (own_origins f.params f.variables ++ zero_origins (suc (suc temporaries))) (first_slots (double (length p.globals)) (file_slots p.globals 0 w.memory ++ zeros 2))
      (argument_slots zs ++ zeros behind) (files_from p.globals 0 w.memory (zeros 2))
      (subst (λ n. IsFrom (own_origins n f.variables ++ zero_origins (suc (suc temporaries))) (argument_slots zs ++ zeros behind)) args.0
      (own_from zs f.variables (suc (suc temporaries)) behind few all))
    where
      few : length zs ≤ length f.variables
      few = let e = args.0 in omega (arith, e, enough)

      all : behind + double (length zs) ≡ double (length f.variables) + suc (suc temporaries)
      all =
          let a = double_is (length p.globals + length f.variables) in let b = double_is (length p.globals) in let c = double_is (length f.variables) in
          let d = double_is (length zs) in let e = args.0 in
          omega (arith, a, b, c, d, e, enough)

module _ (m : sense.World) (q : Program Steps) (f : Function Steps) (temporaries : ℕ) (temp_kind : ℕ → Kind) (texts : Texts)
    (setting : InSetting m q.facts (shape_of f temporaries temp_kind)) (enough : f.params ≤ length f.variables) (starts : StartFits m q.facts (shape_of f temporaries temp_kind) texts f.contract)
    (vs : List Value) (w : World) (enters : Enters q f vs w.memory) where
  abbrev p : Facts
  p = q.facts

  abbrev s : Shape
  s = shape_of f temporaries temp_kind

  abbrev good : IsGood p w.memory
  good = record { well = enters.state; pointers = enters.cells }

  abbrev zs : Numbers p f.variables f.params vs
  zs = numbers_of p w.memory.blocks f.params f.variables setting.integers vs enters.arguments

  abbrev pub st : State
  st = first p f temporaries temp_kind setting.globals setting.integers enough w good zs.numbers zs.fit

  pub entered_as : EntersAs p s f vs w st
  entered_as = subst (λ vs. EntersAs p s f vs w st) (sym zs.same) (entered p f temporaries temp_kind setting.globals setting.integers enough w good zs.numbers zs.fit)

  is_from : IsFrom (origins_of m p s texts f.params) st
  is_from = first_from m p f temporaries temp_kind texts setting.globals setting.integers enough w good zs.numbers zs.fit

  seen : SeenBy p s (at_entry p vs w.memory) (st ∷ []) 0 0 0
  seen = record { here_is = entered_as.seen; pre_is = entered_as.seen; post_is = entered_as.seen; loop_entry_is = entered_as.seen; model = refl; structs = λ n. refl }

  pub starts_so : Starts (start_of m p s texts f) st
  starts_so = record {
    from = is_from;
    facts = told_more m p s texts st (file_ranges m p s texts 0 p.globals) (param_ranges m p s texts f.params 0 f.variables ++ (required_trees m p s texts true f.contract.plain ++ all_required m p s texts f.contract.behaviors))
        (files_told m p s texts st 0 p.globals (λ i v e. subst (λ n. holds p.model (kind_of v) (at st (value_slot n)) ≡ true) (let r : i ≡ 0 + i = omega arith in r) (entered_as.seen.file_fits i v e)))
        (told_more m p s texts st (param_ranges m p s texts f.params 0 f.variables) (required_trees m p s texts true f.contract.plain ++ all_required m p s texts f.contract.behaviors)
        (params_told m p s texts st f.params 0 f.variables (λ i v l e. subst (λ n. holds p.model (kind_of v) (at st (local_value (sizes p s) n)) ≡ true) (let r : i ≡ 0 + i = omega arith in r)
        ((first_fits p f temporaries temp_kind setting.globals setting.integers enough w good zs.numbers zs.fit).locals i v e)))
        (required_told m p s texts st (at_entry p vs w.memory) seen f.contract starts
        (all_of_required (list_all (is_required p (at_entry p vs w.memory)) (parts_of f.contract)) 0 enters.required)));
  }

pub entries_start : EntriesStart
entries_start m q f temporaries temp_kind texts setting enough starts vs w enters = (
  st m q f temporaries temp_kind texts setting enough starts vs w enters,
  (starts_so m q f temporaries temp_kind texts setting enough starts vs w enters, entered_as m q f temporaries temp_kind texts setting enough starts vs w enters),
)

-- ---- goals

pub forms_all : (m : sense.World) (fs : List Tree) → AreForms m (map (form m) fs)
forms_all m [] = tt
forms_all m (g ∷ fs) = ((forms_are_good m g).form, forms_all m fs)

fails_never : (p : Facts) (s : Shape) (ps : List Place) (x : Stop) (e : End) → FunctionEnds p s ps (stops x) e → ((i : ℕ) → e ≡ fails i → ⊥) → ⊥
fails_never p s ps x (goes_on st) h none = h
fails_never p s ps x (leaves k st) h none = h
fails_never p s ps x (fails i) h none = none i refl

pub goals_suffice : (asked : OtherFits) → GoalsSuffice asked
goals_suffice asked setting q number f temporaries temp_kind texts others bases runs in_setting fits starts good enough size names differ valid vs w enters x run =
    let m = world_of setting in
    let s = shape_of f temporaries temp_kind in
    let entry = entries_start m q f temporaries temp_kind texts in_setting enough starts vs w enters in
    let word = function_word m q.facts s texts others number f in
    let fit : AreFit setting bases (start_of m q.facts s texts f) word = record {
      size = size;
      names = names;
      own = differ;
      facts = forms_all m (start_trees m q.facts s texts f);
      step = functions_are_good m q.facts s texts others good number f;
    } in
    let r = forth m q number f temporaries temp_kind texts others asked runs in_setting fits vs w entry.0 entry.1.1 (stops x) run in
    fails_never q.facts s (places word) x r.0 r.2 (λ i e.
    let g = failures_have_goals setting bases (start_of m q.facts s texts f) word fit i entry.0 (entry.1.0, subst (Seg [] 0 word entry.0) e r.1) in
    false≢true (sym g.4.claim ∙ valid g.0 g.1 g.3 g.4.bounded))
