-- Typed core programs whose temporaries are set first fit, with their checks.
use Rattle.std.proofs.Common.{◌≡◌, ℕ, Bool, true, false, not, ◌&&◌, ◌||◌, if◌then◌else◌, List, [], ◌∷◌, ◌++◌, Option, Some, None, option_map, refl, sym, ap, ◌∙◌, subst, inr}
use Rattle.std.specs.Prelude.{nat_lt, ◌==◌}
use Rattle.std.proofs.lemmas.Bool.{false≢true}
use Rattle.std.proofs.lemmas.Bool.Decides.{Decides-eqb}
use Rattle.wp_base.specs.declared.kinds.CellKind.{CellKind}
use Rattle.typed_prog.specs.declared.types.CoreType.{CoreType}
use Rattle.typed_prog.specs.declared.operators.Path.{Path}
use Rattle.typed_prog.specs.Tree as tree
use Rattle.c_runs.specs.Program.{Function, Facts, Program}
use Rattle.c_runs.specs.Operators.{access}
use Rattle.c_runs.specs.Objects.{plain_root, is_pointed}
use Rattle.c_runs.specs.Core.{Target, Core, set, store, start, call, branch, repeat, around, exit, give, claim, scope, Cores, end, then_}
use Rattle.c_runs.specs.Checks.{checks_of, all_checks, index_checks, one_if}
use Rattle.c_runs.specs.Tree.{Steps}
use Rattle.c_runs.specs.Adding as adding
use Rattle.c_runs.specs.Adding.{goal_of, step_of, steps_of, function_of, add_checks}
use Rattle.goal_segments.specs.Told.{with_names, is_param, goal_temp}
use Rattle.plain_states.proofs.Scoping.{none_some}
use Rattle.plain_states.proofs.Calling.{some_same}
use Rattle.program_steps.specs.Temporaries.{Temporaries, no_temporaries, uses, some_use, goal_uses, live, all_live}
use Rattle.value_terms.specs.Readings.{plain_global}
use Rattle.value_terms.specs.Typed.{IsTyped, AreTyped}
use Rattle.typed_runs.specs.Fitting.{Shape, InScope, scope_at, ValueFits, LeadsTo, to_local, to_global, to_cell, way_checks, place_checks, Receives, by_none, by_unused, by_temporary, by_place, by_variable, FitsStep, FitsSteps, FitsFunction}
use Rattle.typed_normal.specs.Typed.{all_temporaries, core_scope, IsOfKind, IsReceived, dropped, none_received, temporary_gets, place_gets, variable_gets, CoreIsTyped, CoresAreTyped, FunctionIsTyped}
use Rattle.typed_normal.specs.Order.{KeepsOrder, KeepOrder, SetsFirst}
use Rattle.typed_normal.specs.Laws.{TypedProgramsFit}
use Rattle.typed_normal.proofs.Sorts.{NoLess, types_same, op_kept}
use Rattle.typed_normal.proofs.Objects.{leads_kept}

-- ---- tests

either_left : (a b : Bool) → a ≡ true → (a || b) ≡ true
either_left true b h = refl
either_left false b h = absurd (false≢true h)

either_right : (a b : Bool) → b ≡ true → (a || b) ≡ true
either_right true b h = refl
either_right false b h = h

equal_self : (n : ℕ) → (n == n) ≡ true
equal_self n = (Decides-eqb n n).1 refl

-- ---- expressions over the temporaries that they use

abbrev Covers : (u t : Temporaries) → Type 0
Covers u t = (n : ℕ) → u n ≡ true → t n ≡ true

module _ (p : Facts) (s : Shape) (f : InScope) where
  module _ (t : Temporaries) where
    no_less : NoLess (core_scope p s f) (scope_at p s f t)
    no_less = record { blocks = λ h. h; kinds = λ k h. h; declared = λ x h. h }

    temporary_by : (a b : Bool) (k : CellKind) {o : Option CellKind} → b ≡ true → (if a && true then Some k else None) ≡ o → (if a && b then Some k else None) ≡ o
    temporary_by a b k e h = ap (λ c. if a && c then Some k else None) e ∙ h

    mutual
      value_over : (e : tree.Value) → Covers (uses e) t → IsTyped p s.variables (core_scope p s f) e → IsTyped p s.variables (scope_at p s f t) e
      value_over (tree.typed (tree.constant z) type l) c h = h
      value_over (tree.typed tree.null type l) c h = h
      value_over (tree.typed (tree.temporary n) type l) c h = temporary_by (nat_lt n s.temporaries) (t n) (s.temp_kind n) (c n (equal_self n)) h
      value_over (tree.typed (tree.apply o es) type l) c h =
          (values_over es c h.0, op_kept p s.variables (core_scope p s f) (scope_at p s f t) no_less type o es es (types_same es) h.1)
      value_over (tree.typed (tree.logic how a b) type l) c h = elim h [ ]
      value_over (tree.typed (tree.choose how a b) type l) c h = elim h [ ]
      value_over (tree.typed (tree.effect e es) type l) c h = elim h [ ]

      values_over : (es : tree.Values) → Covers (some_use es) t → AreTyped p s.variables (core_scope p s f) es → AreTyped p s.variables (scope_at p s f t) es
      values_over tree.stop c h = tt
      values_over (tree.more e es) c h =
          (value_over e (λ n u. c n (either_left (uses e n) (some_use es n) u)) h.0, values_over es (λ n u. c n (either_right (uses e n) (some_use es n) u)) h.1)

-- ---- checks of ways

module _ (p : Facts) (s : Shape) where
  same_way : (o g : Option ℕ) (path : Path) → ((x : ℕ) → g ≡ Some x → (index_checks 0 path.steps ++ one_if (is_pointed path.root) access path.line) ≡ [])
      → adding.way_checks_by o path ≡ way_checks p s o g path
  same_way (Some x) g path h = refl
  same_way None None path h = refl
  same_way None (Some x) path h = h x refl

  nothing_asked : (path : Path) → path.steps ≡ [] → is_pointed path.root ≡ false → (index_checks 0 path.steps ++ one_if (is_pointed path.root) access path.line) ≡ []
  nothing_asked path ss r = ap (λ l. index_checks 0 l ++ one_if (is_pointed path.root) access path.line) ss ∙ ap (λ b. one_if b access path.line) r

  file_way : (f : InScope) (type : CoreType) (path : Path) → LeadsTo p s f all_temporaries type path → (x : ℕ) → plain_global p.globals path.root ≡ Some x
      → (index_checks 0 path.steps ++ one_if (is_pointed path.root) access path.line) ≡ []
  file_way f type path (to_local y v r ss found plain kind so) x e = nothing_asked path ss (ap is_pointed r)
  file_way f type path (to_global y v r ss found plain kind) x e = nothing_asked path ss (ap is_pointed r)
  file_way f type path (to_cell local file object) x e = absurd (none_some x (sym file ∙ e))

  checks_same : (f : InScope) (type : CoreType) (path : Path) (es : tree.Values) → LeadsTo p s f all_temporaries type path
      → adding.place_checks s.variables path es ≡ place_checks p s path es
  checks_same f type path es way =
      ap (λ cs. all_checks s.variables es ++ cs) (same_way (plain_root s.variables path.root) (plain_global p.globals path.root) path (file_way f type path way))

  leads_over : (f : InScope) (t : Temporaries) (type : CoreType) (path : Path) → LeadsTo p s f all_temporaries type path → LeadsTo p s f t type path
  leads_over f t type path h = leads_kept p s s f f all_temporaries t refl (no_less p s f t) type path h

  -- ---- statements

  module _ (functions : ℕ → Option (Function Cores)) where
    abbrev with_checks : ℕ → Option (Function Steps)
    with_checks n = option_map function_of (functions n)

    value_fits : (f : InScope) (t : Temporaries) (e : tree.Value) (k : CellKind) → Covers (uses e) t → IsOfKind p s f e k → ValueFits p s f t (checks_of s.variables e) e k
    value_fits f t e k c h = record { typed = value_over p s f t e c h.0; kind = h.1; checks = refl }

    receives_are : (f : InScope) (low : ℕ) (used after : Temporaries) {r : Option CellKind} {to : Target} → Covers (goal_uses (goal_of s.variables to)) used → IsReceived p s f low r to
        → Receives p s f low used after r (goal_of s.variables to)
    receives_are f low used after c dropped = by_none
    receives_are f low used after c (none_received {k = k} e) = by_unused (inr (k, e))
    receives_are f low used after c (temporary_gets e) = by_temporary e
    receives_are f low used after c (place_gets {type = type} {path = path} {es = es} typed way) =
        by_place (values_over p s f used es c typed) (leads_over f used type path way) (checks_same f type path es way)
    receives_are f low used after c (variable_gets takes) = by_variable takes

    mutual
      core_fits : (f : InScope) (low : ℕ) (os : List Temporaries) (t : Temporaries) (c : Core) → CoreIsTyped p s functions f low c → KeepsOrder os t (step_of s.variables c)
          → FitsStep p s with_checks f low os t (step_of s.variables c)
      core_fits f low os t (set n e) h o =
          value_fits f (live (step_of s.variables (set n e)) os t) e (s.temp_kind n) (λ i u. either_left (uses e i) (not (n == i) && t i) u) h
      core_fits f low os t (store type l path es) h o = record {
        typed = values_over p s f (live (step_of s.variables (store type l path es)) os t) es (λ i u. either_left (some_use es i) (t i) u) h.typed;
        some = h.some;
        stored = h.kind;
        way = leads_over f (live (step_of s.variables (store type l path es)) os t) type path h.way;
        checks = checks_same f type path es h.way;
      }
      core_fits f low os t (start x e) h o =
          (h.0, h.1, value_fits f (live (step_of s.variables (start x e)) os t) e h.0 (λ i u. either_left (uses e i) (t i) u) h.2)
      core_fits f low os t (call to n l es) h o =
          let used = live (step_of s.variables (call to n l es)) os t in
          let to' = goal_of s.variables to in (
            function_of h.0,
            ap (option_map function_of) h.1,
            record {
              typed = values_over p s f used es (λ i u. either_left (some_use es i || goal_uses to' i) (not (goal_temp to' i) && t i) (either_left (some_use es i) (goal_uses to' i) u)) h.2.typed;
              kinds = h.2.kinds;
              checks = refl;
            },
            receives_are f low used t (λ i u. either_left (some_use es i || goal_uses to' i) (not (goal_temp to' i) && t i)
                (either_right (some_use es i) (goal_uses to' i) u)) h.3,
          )
      core_fits f low os t (branch e a b) h o = (cores_fit f low os t a h.1 o.0, cores_fit f low os t b h.2 o.1)
      core_fits f low os t (repeat l ss) h o =
          (record { inside = h.0; inner = h.1; temporaries = o.0 }, cores_fit f l.declared os no_temporaries ss h.2 o.1)
      core_fits f low os t (around ss) h o = cores_fit f low (t ∷ os) t ss h o
      core_fits f low os t (exit k) h o = tt
      core_fits f low os t (give None) h o = h
      core_fits f low os t (give (Some e)) h o = (h.0, h.1, value_fits f (live (step_of s.variables (give (Some e))) os t) e h.0 (λ i u. u) h.2)
      core_fits f low os t (claim c) h o = tt
      core_fits f low os t (scope ys ss) h o = (h.0, cores_fit (with_names ys f) low os t ss h.1 o)

      pub cores_fit : (f : InScope) (low : ℕ) (os : List Temporaries) (t : Temporaries) (cs : Cores) → CoresAreTyped p s functions f low cs → KeepOrder os t (steps_of s.variables cs)
          → FitsSteps p s with_checks f low os t (steps_of s.variables cs)
      cores_fit f low os t end h o = tt
      cores_fit f low os t (then_ c cs) h o =
          (core_fits f low os (all_live (steps_of s.variables cs) os t) c h.0 o.0, cores_fit f low os t cs h.1 o.1)

-- ---- functions and programs

function_fits : (q : Program Cores) (b : Bool) (k : CellKind → Bool) (g : Function Cores) → FunctionIsTyped q b k g → SetsFirst (function_of g).body
    → FitsFunction (add_checks q) b k (function_of g)
function_fits q b k g h order = record {
  temporaries = h.temporaries;
  temp_kind = h.temp_kind;
  short = h.short;
  params = h.params;
  one_cell = h.one_cell;
  unset = λ n used. absurd (false≢true (sym (order.begins n) ∙ used));
  body = cores_fit q.facts
      (record { variables = g.variables; temporaries = h.temporaries; temp_kind = h.temp_kind; result = g.result; has_blocks = b; has_kind = k })
      q.functions (is_param g.params) 0 [] no_temporaries g.body h.body order.loops;
}

pub typed_programs_fit : TypedProgramsFit
typed_programs_fit q h order = record { has_blocks = h.has_blocks; has_kind = h.has_kind; functions = λ n f e. by n (q.functions n) refl f e } where
  by : (n : ℕ) (o : Option (Function Cores)) → q.functions n ≡ o → (f : Function Steps) → option_map function_of o ≡ Some f → FitsFunction (add_checks q) h.has_blocks h.has_kind f
  by n None e f k = absurd (none_some f k)
  by n (Some g) e f k =
      subst (FitsFunction (add_checks q) h.has_blocks h.has_kind) (some_same (function_of g) f k)
      (function_fits q h.has_blocks h.has_kind g (h.functions n g e) (order n (function_of g) (ap (option_map function_of) e)))
