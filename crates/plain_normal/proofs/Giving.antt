-- Typed core programs fit, with their checks.
use Rattle.std.proofs.Common.{◌≡◌, ℕ, ◌<◌, ◌≤◌, Bool, true, List, length, Option, Some, None, option_map, slice_get, refl, sym, ap, ◌∙◌, subst}
use Rattle.std.specs.List.{list_all}
use Rattle.wp_base.specs.declared.kinds.CellKind.TheVariants as cell
use Rattle.wp_base.specs.declared.kinds.Kind.{Kind}
use Rattle.typed_prog.specs.declared.types.CoreType.{CoreType}
use Rattle.typed_prog.specs.declared.operators.Path.{Path}
use Rattle.typed_prog.specs.Tree as t
use Rattle.c_runs.specs.Program.{Function, Facts, Program}
use Rattle.c_runs.specs.Core.{Target, nowhere, temporary, Core, set, store, start, call, branch, repeat, around, exit, give, claim, scope, Cores, end, then_}
use Rattle.c_runs.specs.Checks.{all_checks}
use Rattle.c_runs.specs.Tree.{Steps}
use Rattle.c_runs.specs.Adding.{goal_of, step_of, steps_of, function_of, add_checks}
use Rattle.plain_states.specs.Scopes.{is_integer}
use Rattle.plain_states.proofs.Scoping.{none_some}
use Rattle.plain_states.proofs.Calling.{some_same}
use Rattle.plain_runs.specs.Fitting.{Shape, LeadsTo, GiveAll, Calls, for_none, for_nothing, for_result, FitsStep, FitsSteps, FitsFunction, with_names}
use Rattle.plain_typing.specs.Laws.{count_of}
use Rattle.plain_typing.proofs.Giving.{typed_give}
use Rattle.plain_typing.proofs.Operands.{typed_give_all, typed_store}
use Rattle.plain_normal.specs.Typed.{OneOfKind, ArePassed, IsReceived, none_received, dropped, received, CoreIsTyped, CoresAreTyped, FunctionIsTyped, ProgramIsTyped}
use Rattle.plain_normal.specs.Laws.{TypedProgramsFit}

module _ (p : Facts) (s : Shape) (globals : list_all is_integer p.globals ≡ true) (integers : list_all is_integer s.variables ≡ true) (functions : ℕ → Option (Function Cores)) where
  abbrev pub with_checks : ℕ → Option (Function Steps)
  with_checks n = option_map function_of (functions n)

  arguments_give : (es : t.Values) (g : Function Cores) → ArePassed p s es g → GiveAll p s (all_checks s.variables es) es (function_of g).variables (function_of g).params
  arguments_give es g h =
      subst (GiveAll p s (all_checks s.variables es) es g.variables) h.count
      (typed_give_all p s globals integers es h.typed g.variables (subst (λ i. i ≤ length g.variables) (sym h.count) h.enough) h.kinds)

  store_fits : (f : ℕ → Bool) (low : ℕ) (type : CoreType) (l : ℕ) (path : Path) (es : t.Values) (k : Kind) → LeadsTo p s f path k → OneOfKind p s es k → FitsStep p s with_checks f low (step_of s.variables (store type l path es))
  store_fits f low type l path t.stop k way h = elim h [ ]
  store_fits f low type l path (t.more e (t.more e' es)) k way h = elim h [ ]
  store_fits f low type l path (t.more e t.stop) k way h = (k, way, typed_store p s globals integers e h.0 f type path k way h.1)

  calls_are : (f : ℕ → Bool) (low : ℕ) (es : t.Values) (g : Function Cores) {to : Target} → ArePassed p s es g → IsReceived p s f low g to
      → Calls p s with_checks f low (all_checks s.variables es) es (function_of g) (goal_of s.variables to)
  calls_are f low es g h (none_received none below) = for_none (arguments_give es g h) none below
  calls_are f low es g h dropped = for_nothing (arguments_give es g h)
  calls_are f low es g h (received result to) = for_result (arguments_give es g h) result to

  mutual
    core_fits : (f : ℕ → Bool) (low : ℕ) (c : Core) → CoreIsTyped p s functions f low c → FitsStep p s with_checks f low (step_of s.variables c)
    core_fits f low (set n e) h = (h.0, typed_give p s globals integers e h.1.0 (s.temp_kind n) h.1.1)
    core_fits f low (store type l path es) h = store_fits f low type l path es h.0 h.1 h.2
    core_fits f low (start x e) h = (h.0, h.1, typed_give p s globals integers e h.2.0 h.0 h.2.1)
    core_fits f low (call to n l es) h = (function_of h.0, ap (option_map function_of) h.1, calls_are f low es h.0 h.2 h.3)
    core_fits f low (branch e a b) h = (cores_fit f low a h.2, cores_fit f low b h.3)
    core_fits f low (repeat l ss) h = (h.0, h.1, cores_fit f l.declared ss h.2)
    core_fits f low (around ss) h = cores_fit f low ss h
    core_fits f low (exit k) h = tt
    core_fits f low (give None) h = h
    core_fits f low (give (Some e)) h = (h.0, h.1, typed_give p s globals integers e h.2.0 h.0 h.2.1)
    core_fits f low (claim c) h = tt
    core_fits f low (scope ys ss) h = (h.0, cores_fit (with_names ys f) low ss h.1)

    pub cores_fit : (f : ℕ → Bool) (low : ℕ) (cs : Cores) → CoresAreTyped p s functions f low cs → FitsSteps p s with_checks f low (steps_of s.variables cs)
    cores_fit f low end h = tt
    cores_fit f low (then_ c cs) h = (core_fits f low c h.0, cores_fit f low cs h.1)

function_fits : (q : Program Cores) (f : Function Cores) → list_all is_integer q.facts.globals ≡ true → FunctionIsTyped q f → FitsFunction (add_checks q) (function_of f)
function_fits q f globals h = record {
  temporaries = h.temporaries;
  temp_kind = h.temp_kind;
  integers = h.integers;
  params = h.params;
  body = cores_fit q.facts (record { variables = f.variables; temporaries = h.temporaries; temp_kind = h.temp_kind; result = f.result }) globals h.integers q.functions _ 0 f.body h.body;
}

pub typed_programs_fit : TypedProgramsFit
typed_programs_fit q h = record { globals = h.globals; functions = λ n f e. by n (q.functions n) refl f e } where
  by : (n : ℕ) (o : Option (Function Cores)) → q.functions n ≡ o → (f : Function Steps) → option_map function_of o ≡ Some f → FitsFunction (add_checks q) f
  by n None e f k = absurd (none_some f k)
  by n (Some g) e f k = subst (FitsFunction (add_checks q)) (some_same (function_of g) f k) (function_fits q g h.globals (h.functions n g e))
