-- More variables in scope do no harm; and what isn't in scope isn't set.
use Rattle.std.proofs.Common.{◌≡◌, ℕ, Bool, true, false, ◌||◌, List, [], ◌∷◌, Option, Some, None, refl, sym, ap, ◌∙◌}
use Rattle.std.specs.Prelude.{◌==◌}
use Rattle.std.proofs.lemmas.Bool.{false≢true}
use Rattle.std.proofs.lemmas.Bool.Decides.{Decides-eqb}
use Rattle.wp_base.specs.declared.kinds.CellKind.{CellKind}
use Rattle.typed_prog.specs.declared.types.CoreType.{CoreType}
use Rattle.typed_prog.specs.declared.operators.Effect.{Effect}
use Rattle.typed_prog.specs.declared.operators.Effect.TheVariants as effect
use Rattle.typed_prog.specs.declared.operators.Op.TheVariants as op
use Rattle.typed_prog.specs.declared.operators.Path.{Path}
use Rattle.typed_prog.specs.declared.operators.Root.{Root}
use Rattle.typed_prog.specs.declared.operators.Root.TheVariants as root
use Rattle.typed_prog.specs.declared.operators.Step.{Step}
use Rattle.typed_prog.specs.declared.operators.Variable.TheVariants as variable
use Rattle.typed_prog.specs.Tree as t
use Rattle.c_runs.specs.Program.{Variable, Function, Facts, Stmt, evaluate, block, initial, choose, loop, switch, case_of, default, break, continue, return_of, assert, Stmts, stop, more}
use Rattle.c_runs.specs.Objects.{cell_of}
use Rattle.c_runs.specs.Core.{Target, Core, set, store, start, call, branch, repeat, around, exit, give, claim, scope, Cores, end, then_}
use Rattle.c_runs.specs.Adding.{goal_of, step_of, steps_of}
use Rattle.goal_segments.specs.Told.{with_name, with_names}
use Rattle.plain_runs.specs.Touched.{is_local, goal_sets, sets, some_sets}
use Rattle.value_terms.specs.Typed.{ObjectIsTyped}
use Rattle.program_steps.specs.Temporaries.{no_temporaries}
use Rattle.plain_normal.specs.Plain.{up_to}
use Rattle.plain_normal.proofs.Done.{on_test}
use Rattle.plain_normal.proofs.Scopes.{Within, names_within}
use Rattle.typed_runs.specs.Fitting.{Shape, InScope, LeadsTo, to_local, to_global, to_cell, Declares}
use Rattle.typed_normal.specs.Spelled.{spelled_scope, EffectIsKinded, NodeIsKinded, IsKinded, AllAreKinded, IsWanted, IfWanted, Begins, StmtIsKinded, StmtsAreKinded}
use Rattle.typed_normal.specs.Typed.{all_temporaries, core_scope, IsReceived, dropped, none_received, temporary_gets, place_gets, variable_gets, CoreIsTyped, CoresAreTyped}
use Rattle.typed_normal.proofs.Sorts.{NoLess, types_same, op_kept}
use Rattle.typed_normal.proofs.Objects.{leads_kept, takes_kept}

-- ---- scopes

or_wider : (a b c : Bool) → (b ≡ true → c ≡ true) → (a || b) ≡ true → (a || c) ≡ true
or_wider true b c h k = refl
or_wider false b c h k = h k

not_within : (g f : InScope) → Within g f → (x : ℕ) → f x ≡ false → g x ≡ false
not_within g f h x e = on_test (g x) (λ b. b ≡ false) (λ t. absurd (false≢true (sym e ∙ h x t))) (λ t. refl)

module _ (p : Facts) (s : Shape) (functions : ℕ → Option (Function Stmts)) where
  -- ---- expressions

  module _ (g f : InScope) (within : Within g f) where
    less : NoLess (spelled_scope p s g) (spelled_scope p s f)
    less = record { blocks = λ h. h; kinds = λ k h. h; declared = within }

    leads_wider : (type : CoreType) (path : Path) → LeadsTo p s g no_temporaries type path → LeadsTo p s f no_temporaries type path
    leads_wider type path h = leads_kept p s s g f no_temporaries no_temporaries refl less type path h

    effect_wider : (type : CoreType) (e : Effect) (es : t.Values) → EffectIsKinded p s functions g type e es → EffectIsKinded p s functions f type e es
    effect_wider type (effect.Assign path) t.stop h = h
    effect_wider type (effect.Assign path) (t.more e es) h = (h.0, leads_wider type path h.1, h.2, h.3)
    effect_wider type (effect.Update path by form) t.stop h = h
    effect_wider type (effect.Update path by form) (t.more e es) h =
        (h.0, leads_wider type path h.1, op_kept p s.variables (spelled_scope p s g) (spelled_scope p s f) less type (op.Read path) es es (types_same es) h.2, h.3)
    effect_wider type (effect.Call n) es h = h

    mutual
      node_wider : (type : CoreType) (e : t.ValueNode) → NodeIsKinded p s functions g type e → NodeIsKinded p s functions f type e
      node_wider type (t.constant z) h = h
      node_wider type t.null h = h
      node_wider type (t.temporary n) h = h
      node_wider type (t.apply o es) h = (all_wider es h.0, op_kept p s.variables (spelled_scope p s g) (spelled_scope p s f) less type o es es (types_same es) h.1)
      node_wider type (t.logic c a b) h = (value_wider a h.0, value_wider b h.1, h.2)
      node_wider type (t.choose c a b) h = (value_wider c h.0, value_wider a h.1, value_wider b h.2, h.3, h.4)
      node_wider type (t.effect e es) h = (all_wider es h.0, effect_wider type e es h.1)

      value_wider : (e : t.Value) → IsKinded p s functions g e → IsKinded p s functions f e
      value_wider (t.typed node type l) h = node_wider type node h

      all_wider : (es : t.Values) → AllAreKinded p s functions g es → AllAreKinded p s functions f es
      all_wider t.stop h = tt
      all_wider (t.more e es) h = (value_wider e h.0, all_wider es h.1)

    pub wanted_wider : (e : t.Value) → IsWanted p s functions g e → IsWanted p s functions f e
    wanted_wider e h = (value_wider e h.0, h.1)

    pub if_wanted_wider : (o : Option t.Value) → IfWanted p s functions g o → IfWanted p s functions f o
    if_wanted_wider None h = tt
    if_wanted_wider (Some e) h = wanted_wider e h

    pub begins_wider : (low x : ℕ) (e : t.Value) → Begins p s functions g low x e → Begins p s functions f low x e
    begins_wider low x e h = record { takes = takes_kept p s s g f refl within low x _ h.takes; valued = h.valued; wanted = wanted_wider e h.wanted }

  -- ---- statements, where fewer variables are made around them

  new_narrower : (g f : InScope) → Within g f → (low : ℕ) (ys : List ℕ) → Declares p s f low ys → Declares p s g low ys
  new_narrower g f h low [] new = tt
  new_narrower g f h low (y ∷ ys) new =
      (not_within g f h y new.0, new.1, new.2, new_narrower (with_name y g) (with_name y f) (λ x e. or_wider (y == x) (g x) (f x) (h x) e) low ys new.3)

  mutual
    pub stmt_narrower : (f' f g : InScope) → Within f' f → (low : ℕ) (a : Stmt) → StmtIsKinded p s functions f g low a → StmtIsKinded p s functions f' g low a
    stmt_narrower f' f g w low (evaluate e) h = h
    stmt_narrower f' f g w low (block ys ss) h =
        (new_narrower f' f w low ys h.0, stmts_narrower (with_names ys f') (with_names ys f) (with_names ys g) (names_within f' f ys w) low ss h.1)
    stmt_narrower f' f g w low (initial x line e) h = h
    stmt_narrower f' f g w low (choose e a b) h = (h.0, stmt_narrower f' f g w low a h.1, stmt_narrower f' f g w low b h.2)
    stmt_narrower f' f g w low (loop l before a step behind) h = (h.0, h.1, stmt_narrower f' f (up_to l.declared g) w l.declared a h.2, h.3, h.4)
    stmt_narrower f' f g w low (switch e ss) h = (h.0, h.1, h.2, stmts_narrower f' f g w low ss h.3)
    stmt_narrower f' f g w low (case_of z) h = tt
    stmt_narrower f' f g w low default h = tt
    stmt_narrower f' f g w low break h = tt
    stmt_narrower f' f g w low continue h = tt
    stmt_narrower f' f g w low (return_of None) h = h
    stmt_narrower f' f g w low (return_of (Some e)) h = h
    stmt_narrower f' f g w low (assert c) h = tt

    stmts_narrower : (f' f g : InScope) → Within f' f → (low : ℕ) (ss : Stmts) → StmtsAreKinded p s functions f g low ss → StmtsAreKinded p s functions f' g low ss
    stmts_narrower f' f g w low stop h = tt
    stmts_narrower f' f g w low (more a ss) h = (stmt_narrower f' f g w low a h.0, stmts_narrower f' f g w low ss h.1)

-- ---- what isn't in scope isn't set

either_false : (a b : Bool) → a ≡ false → b ≡ false → (a || b) ≡ false
either_false true b h k = h
either_false false b h k = k

or_true : (a : Bool) → (a || true) ≡ true
or_true true = refl
or_true false = refl

-- another variable than one that isn't in scope yet
new_other : (f : InScope) (x y : ℕ) → f y ≡ false → f x ≡ true → (y == x) ≡ false
new_other f x y h k = on_test (y == x) (λ b. b ≡ false) (λ e. absurd (false≢true (sym h ∙ ap f ((Decides-eqb y x).0 e) ∙ k))) (λ e. refl)

-- another variable than one that is in scope
other : (g : InScope) (x y : ℕ) → g y ≡ true → g x ≡ false → (y == x) ≡ false
other g x y h k = on_test (y == x) (λ b. b ≡ false) (λ e. absurd (false≢true (sym k ∙ sym (ap g ((Decides-eqb y x).0 e)) ∙ h))) (λ e. refl)

module _ (p : Facts) (s s' : Shape) (functions : ℕ → Option (Function Cores)) (xs : List Variable) where
  object_other : (g : InScope) (x : ℕ) (r : Root) (ss : List Step) (k : CellKind) → ObjectIsTyped p s'.variables (core_scope p s' g) r ss k → g x ≡ false → is_local r x ≡ false
  object_other g x (root.Variable (variable.Local y)) ss k o h = other g x y o.0.is.1 h
  object_other g x (root.Variable (variable.Global y)) ss k o h = refl
  object_other g x (root.Pointed n) ss k o h = refl

  leads_other : (g : InScope) (x : ℕ) (type : CoreType) (path : Path) → LeadsTo p s' g all_temporaries type path → g x ≡ false → is_local path.root x ≡ false
  leads_other g x type path (to_local y v r ss e plain kind so) h = ap (λ r. is_local r x) r ∙ other g x y so h
  leads_other g x type path (to_global y v r ss e plain kind) h = ap (λ r. is_local r x) r
  leads_other g x type path (to_cell local file object) h = object_other g x path.root path.steps (cell_of type) object h

  receives_other : (g : InScope) (x low : ℕ) {r : Option CellKind} {to : Target} → IsReceived p s' g low r to → g x ≡ false → goal_sets (goal_of xs to) x ≡ false
  receives_other g x low dropped h = refl
  receives_other g x low (none_received kind) h = refl
  receives_other g x low (temporary_gets kind) h = refl
  receives_other g x low (place_gets {type = type} {path = path} typed way) h = leads_other g x type path way h
  receives_other g x low (variable_gets {x = y} takes) h = other g x y takes.scoped h

  names_keep : (f : InScope) (ys : List ℕ) (x : ℕ) → f x ≡ true → with_names ys f x ≡ true
  names_keep f [] x h = h
  names_keep f (y ∷ ys) x h = names_keep (with_name y f) ys x (ap (λ b. (y == x) || b) h ∙ or_true (y == x))

  names_none : (f g : InScope) (low : ℕ) (ys : List ℕ) (x : ℕ) → Declares p s f low ys → f x ≡ true → g x ≡ false → with_names ys g x ≡ false
  names_none f g low [] x d h k = k
  names_none f g low (y ∷ ys) x d h k =
      names_none (with_name y f) (with_name y g) low ys x d.3 (ap (λ b. (y == x) || b) h ∙ or_true (y == x)) (either_false (y == x) (g x) (new_other f x y d.0 h) k)

  mutual
    core_unset : (f g : InScope) (low low' : ℕ) (a : Core) (x : ℕ) → CoreIsTyped p s functions f low a → CoreIsTyped p s' functions g low' a → f x ≡ true → g x ≡ false
        → sets (step_of xs a) x ≡ false
    core_unset f g low low' (set n e) x a b h k = refl
    core_unset f g low low' (store type l path es) x a b h k = leads_other g x type path b.way k
    core_unset f g low low' (start y e) x a b h k = other g x y b.1.scoped k
    core_unset f g low low' (call to n l es) x a b h k = receives_other g x low' b.3 k
    core_unset f g low low' (branch e c d) x a b h k =
        either_false (some_sets (steps_of xs c) x) (some_sets (steps_of xs d) x) (cores_unset f g low low' c x a.1 b.1 h k) (cores_unset f g low low' d x a.2 b.2 h k)
    core_unset f g low low' (repeat l ss) x a b h k = cores_unset f g l.declared l.declared ss x a.2 b.2 h k
    core_unset f g low low' (around ss) x a b h k = cores_unset f g low low' ss x a b h k
    core_unset f g low low' (exit n) x a b h k = refl
    core_unset f g low low' (give e) x a b h k = refl
    core_unset f g low low' (claim c) x a b h k = refl
    core_unset f g low low' (scope ys ss) x a b h k =
        cores_unset (with_names ys f) (with_names ys g) low low' ss x a.1 b.1 (names_keep f ys x h) (names_none f g low ys x a.0 h k)

    pub cores_unset : (f g : InScope) (low low' : ℕ) (ss : Cores) (x : ℕ) → CoresAreTyped p s functions f low ss → CoresAreTyped p s' functions g low' ss → f x ≡ true → g x ≡ false
        → some_sets (steps_of xs ss) x ≡ false
    cores_unset f g low low' end x a b h k = refl
    cores_unset f g low low' (then_ c ss) x a b h k =
        either_false (sets (step_of xs c) x) (some_sets (steps_of xs ss) x) (core_unset f g low low' c x a.0 b.0 h k) (cores_unset f g low low' ss x a.1 b.1 h k)
