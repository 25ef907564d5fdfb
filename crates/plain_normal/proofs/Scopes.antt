-- More variables in scope do no harm; and what isn't in scope isn't set.
use Rattle.std.proofs.Common.{◌≡◌, ℕ, ◌≤◌, Bool, true, false, ◌&&◌, ◌||◌, List, [], ◌∷◌, Option, Some, None, refl, sym, ap, ◌∙◌, arith}
use Rattle.std.specs.Prelude.{nat_lt, ◌==◌}
use Rattle.std.proofs.lemmas.Bool.{false≢true, and_parts, ltb-true}
use Rattle.std.proofs.lemmas.Bool.Decides.{Decides-eqb}
use Rattle.wp_base.specs.declared.kinds.CellKind.{CellKind}
use Rattle.wp_base.specs.declared.kinds.Kind.{Kind}
use Rattle.typed_prog.specs.declared.types.CoreType.{CoreType}
use Rattle.typed_prog.specs.declared.operators.Effect.{Effect}
use Rattle.typed_prog.specs.declared.operators.Effect.TheVariants as effect
use Rattle.typed_prog.specs.declared.operators.Path.{Path}
use Rattle.typed_prog.specs.Tree as t
use Rattle.c_runs.specs.Program.{Variable, Function, Facts, Stmt, evaluate, block, initial, choose, loop, switch, case_of, default, break, continue, return_of, assert, Stmts, stop, more}
use Rattle.c_runs.specs.Checks.{Check}
use Rattle.c_runs.specs.Tree.{Goal, nowhere, temporary, place, variable as to_variable, Step, set, store, start, call, branch, repeat, around, exit, give, claim, scope, Steps, end, then_}
use Rattle.plain_runs.specs.Touched.{is_local, goal_sets, sets, some_sets}
use Rattle.plain_runs.specs.Fitting.{Shape, LeadsTo, to_local, to_global, with_name, with_names, Declares, Receives, by_place, by_variable, Calls, for_none, for_nothing, for_result, FitsStep, FitsSteps}
use Rattle.plain_normal.specs.Plain.{Names, local, global, EffectIsPlain, NodeIsPlain, IsPlain, AreAllPlain, IsWanted, IfWanted, Begins, AreNew, up_to, StmtIsPlain, StmtsArePlain}
use Rattle.plain_normal.proofs.Done.{on_test}

-- ---- scopes

abbrev pub Within : (g f : ℕ → Bool) → Type 0
Within g f = (x : ℕ) → g x ≡ true → f x ≡ true

or_wider : (a b c : Bool) → (b ≡ true → c ≡ true) → (a || b) ≡ true → (a || c) ≡ true
or_wider true b c h k = refl
or_wider false b c h k = h k

pub names_within : (g f : ℕ → Bool) (ys : List ℕ) → Within g f → Within (with_names ys g) (with_names ys f)
names_within g f [] h = h
names_within g f (y ∷ ys) h = names_within (with_name y g) (with_name y f) ys (λ x e. or_wider (y == x) (g x) (f x) (h x) e)

pub up_to_within : (n : ℕ) (g f : ℕ → Bool) → Within g f → Within (up_to n g) f
up_to_within n g f h x e = h x (and_parts (nat_lt x n) (g x) e).1

pub not_up_to : (g : ℕ → Bool) (n x : ℕ) → n ≤ x → up_to n g x ≡ false
not_up_to g n x h = on_test (nat_lt x n) (λ b. (b && g x) ≡ false) (λ t. absurd (omega (arith, h, ltb-true x n t))) (λ t. refl)

not_within : (g f : ℕ → Bool) → Within g f → (x : ℕ) → f x ≡ false → g x ≡ false
not_within g f h x e = on_test (g x) (λ b. b ≡ false) (λ t. absurd (false≢true (sym e ∙ h x t))) (λ t. refl)

module _ (p : Facts) (xs : List Variable) (functions : ℕ → Option (Function Stmts)) where
  -- ---- expressions

  module _ (g f : ℕ → Bool) (within : Within g f) where
    names_wider : (path : Path) (k : Kind) → Names p xs g path k → Names p xs f path k
    names_wider path k (local x v r ss e kind so) = local x v r ss e kind (within x so)
    names_wider path k (global x v r ss e kind) = global x v r ss e kind

    effect_wider : (type : CoreType) (e : Effect) (es : t.Values) → EffectIsPlain p xs functions g type e es → EffectIsPlain p xs functions f type e es
    effect_wider type (effect.Assign path) es h = (h.0, h.1, names_wider path h.0 h.2, h.3)
    effect_wider type (effect.Update path by form) es h = (h.0, h.1, names_wider path h.0 h.2, h.3)
    effect_wider type (effect.Call n) es h = h

    mutual
      node_wider : (type : CoreType) (e : t.ValueNode) → NodeIsPlain p xs functions g type e → NodeIsPlain p xs functions f type e
      node_wider type (t.constant z) h = h
      node_wider type t.null h = h
      node_wider type (t.temporary n) h = h
      node_wider type (t.apply o es) h = (all_wider es h.0, h.1)
      node_wider type (t.logic c a b) h = (value_wider a h.0, value_wider b h.1, h.2)
      node_wider type (t.choose c a b) h = (value_wider c h.0, value_wider a h.1, value_wider b h.2, h.3, h.4)
      node_wider type (t.effect e es) h = (all_wider es h.0, effect_wider type e es h.1)

      value_wider : (e : t.Value) → IsPlain p xs functions g e → IsPlain p xs functions f e
      value_wider (t.typed node type l) h = (h.0, node_wider type node h.1)

      all_wider : (es : t.Values) → AreAllPlain p xs functions g es → AreAllPlain p xs functions f es
      all_wider t.stop h = tt
      all_wider (t.more e es) h = (value_wider e h.0, all_wider es h.1)

    pub wanted_wider : (e : t.Value) → IsWanted p xs functions g e → IsWanted p xs functions f e
    wanted_wider e h = (value_wider e h.0, h.1)

    pub if_wanted_wider : (o : Option t.Value) → IfWanted p xs functions g o → IfWanted p xs functions f o
    if_wanted_wider None h = tt
    if_wanted_wider (Some e) h = wanted_wider e h

    pub begins_wider : (low x : ℕ) (e : t.Value) → Begins p xs functions g low x e → Begins p xs functions f low x e
    begins_wider low x e h =
        record { variable = h.variable; found = h.found; type = h.type; in_its_scope = within x h.in_its_scope; own = h.own; wanted = wanted_wider e h.wanted }

  -- ---- statements, where fewer variables are made around them

  new_narrower : (g f : ℕ → Bool) → Within g f → (low : ℕ) (ys : List ℕ) → AreNew p xs functions f low ys → AreNew p xs functions g low ys
  new_narrower g f h low [] new = tt
  new_narrower g f h low (y ∷ ys) new =
      (not_within g f h y new.0, new.1, new.2, new_narrower (with_name y g) (with_name y f) (λ x e. or_wider (y == x) (g x) (f x) (h x) e) low ys new.3)

  module _ (result : Option CellKind) where
    mutual
      pub stmt_narrower : (f' f g : ℕ → Bool) → Within f' f → (low : ℕ) (s : Stmt) → StmtIsPlain p xs functions result f g low s → StmtIsPlain p xs functions result f' g low s
      stmt_narrower f' f g w low (evaluate e) h = h
      stmt_narrower f' f g w low (block ys ss) h =
          (new_narrower f' f w low ys h.0, stmts_narrower (with_names ys f') (with_names ys f) (with_names ys g) (names_within f' f ys w) low ss h.1)
      stmt_narrower f' f g w low (initial x line e) h = h
      stmt_narrower f' f g w low (choose e a b) h = (h.0, stmt_narrower f' f g w low a h.1, stmt_narrower f' f g w low b h.2)
      stmt_narrower f' f g w low (loop l before s step behind) h = (h.0, h.1, stmt_narrower f' f (up_to l.declared g) w l.declared s h.2, h.3, h.4)
      stmt_narrower f' f g w low (switch e ss) h = (h.0, h.1, stmts_narrower f' f g w low ss h.2)
      stmt_narrower f' f g w low (case_of z) h = tt
      stmt_narrower f' f g w low default h = tt
      stmt_narrower f' f g w low break h = tt
      stmt_narrower f' f g w low continue h = tt
      stmt_narrower f' f g w low (return_of None) h = h
      stmt_narrower f' f g w low (return_of (Some e)) h = h
      stmt_narrower f' f g w low (assert c) h = tt

      stmts_narrower : (f' f g : ℕ → Bool) → Within f' f → (low : ℕ) (ss : Stmts) → StmtsArePlain p xs functions result f g low ss → StmtsArePlain p xs functions result f' g low ss
      stmts_narrower f' f g w low stop h = tt
      stmts_narrower f' f g w low (more s ss) h = (stmt_narrower f' f g w low s h.0, stmts_narrower f' f g w low ss h.1)

-- ---- what isn't in scope isn't set

either_false : (a b : Bool) → a ≡ false → b ≡ false → (a || b) ≡ false
either_false true b h k = h
either_false false b h k = k

or_true : (a : Bool) → (a || true) ≡ true
or_true true = refl
or_true false = refl

-- another variable than one that isn't in scope yet
new_other : (f : ℕ → Bool) (x y : ℕ) → f y ≡ false → f x ≡ true → (y == x) ≡ false
new_other f x y h k = on_test (y == x) (λ b. b ≡ false) (λ e. absurd (false≢true (sym h ∙ ap f ((Decides-eqb y x).0 e) ∙ k))) (λ e. refl)

-- another variable than one that is in scope
other : (g : ℕ → Bool) (x y : ℕ) → g y ≡ true → g x ≡ false → (y == x) ≡ false
other g x y h k = on_test (y == x) (λ b. b ≡ false) (λ e. absurd (false≢true (sym k ∙ sym (ap g ((Decides-eqb y x).0 e)) ∙ h))) (λ e. refl)

module _ (p : Facts) (s s' : Shape) (functions : ℕ → Option (Function Steps)) where
  leads_other : (g : ℕ → Bool) (x : ℕ) (path : Path) (k : Kind) → LeadsTo p s' g path k → g x ≡ false → is_local path.root x ≡ false
  leads_other g x path k (to_local y v r ss e kind so) h = ap (λ r. is_local r x) r ∙ other g x y so h
  leads_other g x path k (to_global y v r ss e kind) h = ap (λ r. is_local r x) r

  receives_other : (g : ℕ → Bool) (x low : ℕ) (k : Kind) (to : Goal) → Receives p s' g low k to → g x ≡ false → goal_sets to x ≡ false
  receives_other g x low k nowhere r h = refl
  receives_other g x low k (temporary n) r h = refl
  receives_other g x low k (place cs type l path t.stop) (by_place way) h = leads_other g x path k way h
  receives_other g x low k (place cs type l path (t.more e es)) r h = elim r [ ]
  receives_other g x low k (to_variable y) (by_variable d) h = other g x y d.3 h

  call_other : (g : ℕ → Bool) (x low : ℕ) {f : Function Steps} {to : Goal} (cs : List Check) (es : t.Values) → Calls p s' functions g low cs es f to → g x ≡ false → goal_sets to x ≡ false
  call_other g x low cs es (for_none args none within) h = refl
  call_other g x low cs es (for_nothing args) h = refl
  call_other g x low {to = to} cs es (for_result {k = k} args result receives) h = receives_other g x low k to receives h

  names_keep : (f : ℕ → Bool) (ys : List ℕ) (x : ℕ) → f x ≡ true → with_names ys f x ≡ true
  names_keep f [] x h = h
  names_keep f (y ∷ ys) x h = names_keep (with_name y f) ys x (ap (λ b. (y == x) || b) h ∙ or_true (y == x))

  names_none : (f g : ℕ → Bool) (low : ℕ) (ys : List ℕ) (x : ℕ) → Declares p s f low ys → f x ≡ true → g x ≡ false → with_names ys g x ≡ false
  names_none f g low [] x d h k = k
  names_none f g low (y ∷ ys) x d h k =
      names_none (with_name y f) (with_name y g) low ys x d.3 (ap (λ b. (y == x) || b) h ∙ or_true (y == x)) (either_false (y == x) (g x) (new_other f x y d.0 h) k)

  mutual
    step_unset : (f g : ℕ → Bool) (low low' : ℕ) (a : Step) (x : ℕ) → FitsStep p s functions f low a → FitsStep p s' functions g low' a → f x ≡ true → g x ≡ false → sets a x ≡ false
    step_unset f g low low' (set cs n e) x a b h k = refl
    step_unset f g low low' (store cs type l path es) x a b h k = leads_other g x path b.0 b.1 k
    step_unset f g low low' (start cs y e) x a b h k = other g x y b.1.3 k
    step_unset f g low low' (call cs to n l es) x a b h k = call_other g x low' cs es b.2 k
    step_unset f g low low' (branch cs e c d) x a b h k =
        either_false (some_sets c x) (some_sets d x) (steps_unset f g low low' c x a.0 b.0 h k) (steps_unset f g low low' d x a.1 b.1 h k)
    step_unset f g low low' (repeat l ss) x a b h k = steps_unset f g l.declared l.declared ss x a.2 b.2 h k
    step_unset f g low low' (around ss) x a b h k = steps_unset f g low low' ss x a b h k
    step_unset f g low low' (exit n) x a b h k = refl
    step_unset f g low low' (give cs e) x a b h k = refl
    step_unset f g low low' (claim c) x a b h k = refl
    step_unset f g low low' (scope ys ss) x a b h k =
        steps_unset (with_names ys f) (with_names ys g) low low' ss x a.1 b.1 (names_keep f ys x h) (names_none f g low ys x a.0 h k)

    pub steps_unset : (f g : ℕ → Bool) (low low' : ℕ) (ss : Steps) (x : ℕ) → FitsSteps p s functions f low ss → FitsSteps p s' functions g low' ss → f x ≡ true → g x ≡ false → some_sets ss x ≡ false
    steps_unset f g low low' end x a b h k = refl
    steps_unset f g low low' (then_ c ss) x a b h k =
        either_false (sets c x) (some_sets ss x) (step_unset f g low low' c x a.0 b.0 h k) (steps_unset f g low low' ss x a.1 b.1 h k)
