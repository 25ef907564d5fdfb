-- Typed core statements, with their checks, stand.
use Rattle.std.proofs.Common.{◌≡◌, ℕ, suc, ◌<◌, ◌≤◌, Bool, true, false, not, ◌&&◌, ◌||◌, List, [], ◌∷◌, Option, Some, None, option_map, refl, sym, ap, ◌∙◌, inl, inr, subst, arith}
use Rattle.std.specs.Prelude.{◌⊎◌, nat_lt, ◌==◌}
use Rattle.std.specs.List.{list_all}
use Rattle.std.proofs.lemmas.Bool.{false≢true, and_parts, ltb-true}
use Rattle.std.proofs.lemmas.Bool.Decides.{nat_tests}
use Rattle.wp_base.specs.declared.kinds.CellKind.{CellKind}
use Rattle.wp_base.specs.declared.kinds.CellKind.TheVariants as cell
use Rattle.wp_base.specs.declared.kinds.Kind.{Kind}
use Rattle.typed_prog.specs.declared.types.CoreType.{CoreType}
use Rattle.typed_prog.specs.declared.operators.Path.{Path}
use Rattle.typed_prog.specs.declared.operators.Variable.{Variable}
use Rattle.typed_prog.specs.declared.operators.Variable.TheVariants as variables
use Rattle.typed_prog.specs.Tree as t
use Rattle.acsl_trees.specs.declared.heads.Head.TheVariants as head
use Rattle.acsl_trees.specs.Tree as acsl
use Rattle.c_runs.specs.Program.{Loop, Function, Facts}
use Rattle.c_runs.specs.Core.{Target, nowhere, temporary, place, variable, Core, set, store, start, call, branch, repeat, around, exit, give, claim, scope, Cores, end, then_}
use Rattle.c_runs.specs.Tree as checked
use Rattle.c_runs.specs.Tree.{Goal, Steps}
use Rattle.c_runs.specs.Adding.{goal_of, step_of, steps_of, function_of}
use Rattle.plain_states.specs.Slots.{value_slot, local_value, local_flag, temp_slot}
use Rattle.plain_states.specs.Scopes.{is_integer}
use Rattle.plain_runs.specs.Fitting as fitting
use Rattle.plain_runs.specs.Fitting.{Shape, sizes, LeadsTo, with_name, with_names}
use Rattle.plain_runs.specs.Kept.{some_sets, goal_temp}
use Rattle.plain_typing.specs.Laws.{count_of}
use Rattle.loop_words.specs.Told.{Temporaries, no_temporaries, uses, some_use, goal_uses, live, all_live, reading, same_variable, is_region_of, has_variable}
use Rattle.loop_words.specs.Told.{scope_at, ValueFits, Takes, Declares}
use Rattle.loop_words.proofs.Told.{leaf_closed}
use Rattle.call_words.specs.Fits as words
use Rattle.call_words.specs.Fits.{Receives, by_nothing, by_temporary, by_place, by_variable, ResultGoes, none_nowhere, none_to, goes_to}
use Rattle.loop_words.specs.Sets.{region_variable, lets_local}
use Rattle.plain_normal.specs.Typed.{IsOfKind, OneOfKind, IsReceived, none_received, dropped, received, CoreIsTyped, CoresAreTyped}
use Rattle.plain_words.specs.Sets.{is_there, region_is_there, set_is_there, set_stands}
use Rattle.plain_words.specs.Results.{ResultIsNumber}
use Rattle.plain_words.specs.Standing.{LoopStands, StepStands, AllStand}
use Rattle.plain_words.proofs.Closed.{number, number_part, condition_part, value_closed}
use Rattle.plain_words.proofs.Items.{word_closed, words_closed}
use Rattle.plain_words.proofs.Live.{either, Among, left_in, lives, StaysOne, Stays}
use Rattle.plain_words.proofs.Scoping.{cores_there}
use Rattle.plain_words.proofs.Typed.{value_typed, values_typed, no_way_checks, stored_checks}

-- ---- sets

-- a region that is this variable
region_is : (y : Variable) (a : acsl.Tree) → is_region_of y a ≡ true → (x : Variable) × ((region_variable a ≡ Some x) × (same_variable y x ≡ true))
region_is y (acsl.node (head.Region c) (acsl.more (acsl.node (head.Variable x) acsl.stop) acsl.stop)) e = (x, (refl, e))
region_is y a e = absurd (false≢true e)

named_by : (f : ℕ → Bool) (n x : ℕ) (o : Option Variable) (y : Variable) → is_there f n o ≡ true → o ≡ Some y → same_variable (variables.Local x) y ≡ true → (x < n) × (f x ≡ true)
named_by f n x o (variables.Global y) h is same = absurd (false≢true same)
named_by f n x o (variables.Local y) h is same =
    let both = and_parts (nat_lt y n) (f y) (sym (ap (is_there f n) is) ∙ h) in
    let it = equal_number x y same in
    subst (λ z. (z < n) × (f z ≡ true)) (sym it) (ltb-true y n both.0, both.1) where
      equal_number : (x y : ℕ) → (x == y) ≡ true → x ≡ y
      equal_number x y e = grind (arith, nat_tests, e)

-- what a set names is there
named_there : (f : ℕ → Bool) (n : ℕ) (rs : List acsl.Tree) → list_all (region_is_there f n) rs ≡ true → (x : ℕ) → has_variable rs (variables.Local x) ≡ true → (x < n) × (f x ≡ true)
named_there f n [] h x e = absurd (false≢true e)
named_there f n (a ∷ rs) h x e =
    let both = and_parts (region_is_there f n a) (list_all (region_is_there f n) rs) h in
    either (is_region_of (variables.Local x) a) (has_variable rs (variables.Local x)) (λ k. let is = region_is (variables.Local x) a k in named_by f n x (region_variable a) is.0 both.0 is.1.0 is.1.1)
    (named_there f n rs both.1 x) e

module _ (p : Facts) (s : Shape) where
  -- ---- expressions

  -- what it uses is used there
  value_fits : (f : Temporaries) (e : t.Value) (k : Kind) → IsOfKind p s e k → Among (uses e) f → ValueFits p s f e k
  value_fits f e k h among =
      let typed = value_typed p s f e h.0 among in
      let term = value_closed p s.variables (scope_at s f) refl (reading p s) (λ x. number (leaf_closed 0 (local_value (sizes p s) x))) (λ x. number (leaf_closed 0 (value_slot x)))
      (λ n. number (leaf_closed 0 (temp_slot (sizes p s) n))) e typed in
      record {
        typed = typed;
        kind = h.1;
        items = word_closed p s.variables (scope_at s f) refl (reading p s) (λ x. number (leaf_closed 0 (local_value (sizes p s) x))) (λ x. number (leaf_closed 0 (value_slot x)))
            (λ n. number (leaf_closed 0 (temp_slot (sizes p s) n))) (λ x. leaf_closed 0 (local_flag (sizes p s) x)) e typed;
        term = number_part term;
        condition = condition_part term;
      }

  -- ---- scopes

  takes : (f : ℕ → Bool) (low x : ℕ) (k : Kind) → fitting.Takes p s f low x k → Takes s f x k
  takes f low x k h = (h.0, h.1, h.2, h.3)

  declares : (f : ℕ → Bool) (low : ℕ) (ys : List ℕ) → fitting.Declares p s f low ys → Declares s f ys
  declares f low [] h = tt
  declares f low (y ∷ ys) h = (h.0, h.2, declares (with_name y f) low ys h.3)

  -- ---- calls

  same_count : (es : t.Values) → words.count_of es ≡ count_of es
  same_count t.stop = refl
  same_count (t.more e es) = ap suc (same_count es)

  module _ (integers : list_all is_integer s.variables ≡ true) (f : ℕ → Bool) (low : ℕ) where
    receives : (k : Kind) (to : Target) → fitting.Receives p s f low k (goal_of s.variables to) → Receives p s f k (goal_of s.variables to)
    receives k nowhere h = by_nothing
    receives k (temporary n) (fitting.by_temporary below same) = by_temporary below same
    receives k (place type l path t.stop) (fitting.by_place way) =
        subst (λ cs. Receives p s f k (checked.place cs type l path t.stop)) (sym (no_way_checks p s integers f path k way)) (by_place way)
    receives k (place type l path (t.more e es)) h = elim h [ ]
    receives k (variable x) (fitting.by_variable h) = by_variable (takes f low x k h)

    result_goes : (g : Function Cores) (to : Target) → ResultIsNumber g.result → IsReceived p s f low g to → ResultGoes p s f g.result (goal_of s.variables to)
    result_goes g to so (none_received none below) = subst (λ r. ResultGoes p s f r (goal_of s.variables to)) (sym none) (none_to below)
    result_goes g to so dropped = by g.result so where
      by : (r : Option CellKind) → ResultIsNumber r → ResultGoes p s f r checked.nowhere
      by None h = none_nowhere
      by (Some (cell.Of k)) h = goes_to by_nothing
      by (Some cell.Ptr) h = absurd h
    result_goes g to so (received {k = k} result way) = subst (λ r. ResultGoes p s f r (goal_of s.variables to)) (sym result) (goes_to (receives k to way))

  -- ---- loops

  module _ (functions : ℕ → Option (Function Cores)) where
    -- the locals that are let are set in its text, or named by its set
    abbrev lets : Cores → ℕ → Option (List acsl.Tree) → Bool
    lets ss x None = some_sets (steps_of s.variables ss) x
    lets ss x (Some rs) = has_variable rs (variables.Local x)

    on_bool : (b : Bool) → (b ≡ true) ⊎ (b ≡ false)
    on_bool true = inl refl
    on_bool false = inr refl

    module _ (f : ℕ → Bool) (n : ℕ) (ss : Cores) where
      scoped_by : CoresAreTyped p s functions f n ss → (o : Option (List acsl.Tree)) → set_is_there f n o ≡ true → (x : ℕ) → x < n → lets ss x o ≡ true → f x ≡ true
      scoped_by typed None h x below e = by (cores_there p s functions f n ss typed x e) where
        by : (f x ≡ true) ⊎ (n ≤ x) → f x ≡ true
        by (inl k) = k
        by (inr le) = absurd (omega (arith, below, le))
      scoped_by typed (Some rs) h x below e = (named_there f n rs h x e).1

      inner_by : ((x : ℕ) → n ≤ x → (f x ≡ false) ⊎ (some_sets (steps_of s.variables ss) x ≡ false)) → (o : Option (List acsl.Tree)) → set_is_there f n o ≡ true → (x : ℕ) → n ≤ x → (f x ≡ false) ⊎ (lets ss x o ≡ false)
      inner_by inside None h x le = inside x le
      inner_by inside (Some rs) h x le = by (on_bool (has_variable rs (variables.Local x))) where
        by : (has_variable rs (variables.Local x) ≡ true) ⊎ (has_variable rs (variables.Local x) ≡ false) → (f x ≡ false) ⊎ (has_variable rs (variables.Local x) ≡ false)
        by (inl e) = let below = (named_there f n rs h x e).0 in absurd (omega (arith, below, le))
        by (inr e) = inr e

    stands_by : (f : ℕ → Bool) (l : Loop) (ss : Cores) → CoresAreTyped p s functions f l.declared ss → set_stands f l ≡ true
        → ((x : ℕ) → l.declared ≤ x → (f x ≡ false) ⊎ (some_sets (steps_of s.variables ss) x ≡ false)) → (os : List Temporaries)
        → ((n : ℕ) → lives s.variables ss os no_temporaries n ≡ false) → LoopStands f os l (steps_of s.variables ss)
    stands_by f l ss typed named inside os none = record {
      scoped = λ x e.
          let both = and_parts (nat_lt x l.declared) (lets_local l (steps_of s.variables ss) x) e in scoped_by f l.declared ss typed l.assigns named x (ltb-true x l.declared both.0) both.1;
      inner = λ x le. inner_by f l.declared ss inside l.assigns named x le;
      temporaries = λ n e. absurd (false≢true (sym (none n) ∙ e));
    }

    -- ---- statements

    module _ (integers : list_all is_integer s.variables ≡ true) (numbers : (n : ℕ) (g : Function Cores) → functions n ≡ Some g → ResultIsNumber g.result) where
      abbrev there : ℕ → Option (Function Steps)
      there n = option_map function_of (functions n)

      call_stands : (f : ℕ → Bool) (low : ℕ) (os : List Temporaries) (after : Temporaries) (to : Target) (n l : ℕ) (es : t.Values) → CoreIsTyped p s functions f low (call to n l es)
          → StepStands p s there f os after (step_of s.variables (call to n l es))
      call_stands f low os after to n l es h =
          let g = h.0 in
          let used = live (step_of s.variables (call to n l es)) os after in
          let typed = values_typed p s used es h.2.typed
          (λ j e. left_in (some_use es j || goal_uses (goal_of s.variables to) j) (not (goal_temp (goal_of s.variables to) j) && after j) (left_in (some_use es j) (goal_uses (goal_of s.variables to) j) e)) in
          record {
            function = function_of g;
            found = ap (option_map function_of) h.1;
            checks = refl;
            typed = typed;
            items = words_closed p s.variables (scope_at s used) refl (reading p s) (λ x. number (leaf_closed 0 (local_value (sizes p s) x))) (λ x. number (leaf_closed 0 (value_slot x)))
                (λ i. number (leaf_closed 0 (temp_slot (sizes p s) i))) (λ x. leaf_closed 0 (local_flag (sizes p s) x)) es typed;
            count = same_count es ∙ h.2.count;
            kinds = λ x v e below. h.2.kinds x v (subst (λ m. x < m) (sym h.2.count) below) e;
            result = result_goes integers f low g to (numbers n g h.1) h.3;
          }

      store_stands : (f : ℕ → Bool) (os : List Temporaries) (after : Temporaries) (type : CoreType) (l : ℕ) (path : Path) (es : t.Values) (k : Kind) → LeadsTo p s f path k → OneOfKind p s es k
          → StepStands p s there f os after (step_of s.variables (store type l path es))
      store_stands f os after type l path t.stop k way h = elim h [ ]
      store_stands f os after type l path (t.more e (t.more e' es)) k way h = elim h [ ]
      store_stands f os after type l path (t.more e t.stop) k way h = (
        k,
        way,
        value_fits (live (step_of s.variables (store type l path (t.more e t.stop))) os after) e k h (λ j u. left_in (uses e j || false) (after j) (left_in (uses e j) false u)),
        stored_checks p s integers f path k way (t.more e t.stop),
      )

      mutual
        core_stands : (f : ℕ → Bool) (low : ℕ) (os : List Temporaries) (after : Temporaries) (c : Core) → CoreIsTyped p s functions f low c → StaysOne s.variables f os after c
            → StepStands p s there f os after (step_of s.variables c)
        core_stands f low os after (set n e) h k =
            (h.0, value_fits (live (step_of s.variables (set n e)) os after) e (s.temp_kind n) h.1 (λ j u. left_in (uses e j) (not (n == j) && after j) u), refl)
        core_stands f low os after (store type l path es) h k = store_stands f os after type l path es h.0 h.1 h.2
        core_stands f low os after (start x e) h k =
            (h.0, takes f low x h.0 h.1, value_fits (live (step_of s.variables (start x e)) os after) e h.0 h.2 (λ j u. left_in (uses e j) (after j) u), refl)
        core_stands f low os after (call to n l es) h k = call_stands f low os after to n l es h
        core_stands f low os after (branch e a b) h k = (
          h.0,
          value_fits (live (step_of s.variables (branch e a b)) os after) e h.0 h.1
              (λ j u. left_in (uses e j) (all_live (steps_of s.variables a) os after j || all_live (steps_of s.variables b) os after j) u),
          refl,
          cores_stand f low os after a h.2 k.0,
          cores_stand f low os after b h.3 k.1,
        )
        core_stands f low os after (repeat l ss) h k = (stands_by f l ss h.2 k.0 h.1 os k.1, cores_stand f l.declared os no_temporaries ss h.2 k.2)
        core_stands f low os after (around ss) h k = cores_stand f low (after ∷ os) after ss h k
        core_stands f low os after (exit n) h k = k
        core_stands f low os after (give None) h k = h
        core_stands f low os after (give (Some e)) h k = (h.0, h.1, value_fits (live (step_of s.variables (give (Some e))) os after) e h.0 h.2 (λ j u. u), refl)
        core_stands f low os after (claim c) h k = tt
        core_stands f low os after (scope ys ss) h k = (declares f low ys h.0, cores_stand (with_names ys f) low os after ss h.1 k)

        pub cores_stand : (f : ℕ → Bool) (low : ℕ) (os : List Temporaries) (after : Temporaries) (cs : Cores) → CoresAreTyped p s functions f low cs → Stays s.variables f os after cs
            → AllStand p s there f os after (steps_of s.variables cs)
        cores_stand f low os after end h k = tt
        cores_stand f low os after (then_ c cs) h k = (core_stands f low os (all_live (steps_of s.variables cs) os after) c h.0 k.0, cores_stand f low os after cs h.1 k.1)
