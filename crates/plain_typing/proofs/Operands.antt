-- Typed operands, and values that are stored.
use Rattle.std.proofs.Common.{◌≡◌, ℕ, zero, suc, ◌<◌, ◌≤◌, ℤ, pos, negsuc, Bool, true, false, ◌&&◌, if◌then◌else◌, List, [], ◌∷◌, ◌++◌, map, length, Option, Some, None, slice_get, refl, sym, ap, ◌∙◌, subst, append-nil, arith}
use Rattle.std.specs.List.{list_all}
use Rattle.std.proofs.lemmas.Bool.{and_parts}
use Rattle.wp_base.specs.declared.kinds.CellKind.TheVariants as cell
use Rattle.wp_base.specs.declared.kinds.Kind.{Kind}
use Rattle.c_kinds.specs.Models.{holds}
use Rattle.typed_prog.specs.declared.types.CoreType.{CoreType}
use Rattle.typed_prog.specs.declared.operators.Path.{Path}
use Rattle.typed_prog.specs.declared.operators.Root.{Root}
use Rattle.typed_prog.specs.declared.operators.Root.TheVariants as root
use Rattle.typed_prog.specs.declared.operators.Step.{Step}
use Rattle.typed_prog.specs.declared.operators.Variable.TheVariants as variable
use Rattle.typed_prog.specs.Tree as t
use Rattle.c_runs.specs.TruthStates.{Value, number}
use Rattle.c_runs.specs.Program.{Variable, Facts}
use Rattle.c_runs.specs.States.{Memory, World}
use Rattle.c_runs.specs.Operators.{Undefined, access}
use Rattle.c_runs.specs.Objects.{plain_root, is_plain_in, is_pointed}
use Rattle.c_runs.specs.Values.{Temps}
use Rattle.c_runs.specs.Checks.{Check, checks_of, all_checks, index_checks, one_if, in_operand, bump, later}
use Rattle.c_runs.specs.Tests.{total, totals, is_met, holds_in}
use Rattle.c_runs.specs.Adding.{way_checks, way_checks_by, place_checks}
use Rattle.c_runs.specs.CheckedRun.{is_met_in, place_test}
use Rattle.plain_states.specs.Slots.{State, temps_in, world_in}
use Rattle.plain_states.specs.Scopes.{is_integer, are_one_integer, kind_of}
use Rattle.plain_states.proofs.Scoping.{listed_integer}
use Rattle.plain_states.proofs.Calling.{some_same}
use Rattle.plain_states.proofs.Scoping.{none_some}
use Rattle.plain_runs.specs.Fitting.{IsGood, Shape, sizes, Fit, IsOf, AreOf, LeadsTo, to_local, to_global}
use Rattle.value_terms.specs.Typed.{operand_kind, AreTyped}
use Rattle.plain_typing.specs.Laws.{scope_of, count_of, TypedGiveAll, TypedStore}
use Rattle.plain_typing.proofs.Giving.{typed_give}

-- ---- checks of operands

all_two : {X : Type 0} (f : X → Bool) (xs ys : List X) → list_all f (xs ++ ys) ≡ true → (list_all f xs ≡ true) × (list_all f ys ≡ true)
all_two f [] ys h = (refl, h)
all_two f (x ∷ xs) ys h =
    let both = and_parts (f x) (list_all f (xs ++ ys)) h in
    let rest = all_two f xs ys both.1 in
    (ap (λ b. b && list_all f xs) both.0 ∙ rest.0, rest.1)

module _ (p : Facts) (xs : List Variable) (tm : Temps) (w : World) where
  in_first : (e : t.Value) (es : t.Values) (cs : List Check) → list_all (is_met_in p xs tm w (t.more e es)) (map (in_operand 0) cs) ≡ true → list_all (is_met p xs tm w e) cs ≡ true
  in_first e es [] h = refl
  in_first e es (c ∷ cs) h =
      let both = and_parts (is_met p xs tm w e c) (list_all (is_met_in p xs tm w (t.more e es)) (map (in_operand 0) cs)) h in
      ap (λ b. b && list_all (is_met p xs tm w e) cs) both.0 ∙ in_first e es cs both.1

  no_way : (es : t.Values) (u : Undefined) (n : ℕ) → holds_in p xs tm w es [] u n ≡ true
  no_way t.stop u n = refl
  no_way (t.more e es) u n = refl

  further : (e : t.Value) (es : t.Values) (way : List ℕ) (u : Undefined) (n : ℕ) → holds_in p xs tm w (t.more e es) (bump way) u n ≡ holds_in p xs tm w es way u n
  further e es [] u n = sym (no_way es u n)
  further e es (i ∷ way) u n = refl

  in_others : (e : t.Value) (es : t.Values) (cs : List Check) → list_all (is_met_in p xs tm w (t.more e es)) (map later cs) ≡ true → list_all (is_met_in p xs tm w es) cs ≡ true
  in_others e es [] h = refl
  in_others e es (c ∷ cs) h =
      let both = and_parts (is_met_in p xs tm w (t.more e es) (later c)) (list_all (is_met_in p xs tm w (t.more e es)) (map later cs)) h in
      ap (λ b. b && list_all (is_met_in p xs tm w es) cs) (sym (further e es c.way c.kind c.step) ∙ both.0) ∙ in_others e es cs both.1

-- ---- operands

first_kind : (p : Facts) (x : Variable) (xs : List Variable) (u : ℤ) (zs : List ℤ) → holds p.model (kind_of x) u ≡ true
    → ((i : ℕ) (y : Variable) (z : ℤ) → slice_get xs i ≡ Some y → slice_get zs i ≡ Some z → holds p.model (kind_of y) z ≡ true)
    → (i : ℕ) (y : Variable) (z : ℤ) → slice_get (x ∷ xs) i ≡ Some y → slice_get (u ∷ zs) i ≡ Some z → holds p.model (kind_of y) z ≡ true
first_kind p x xs u zs h rest zero y z e g = subst (λ y. holds p.model (kind_of y) z ≡ true) (some_same x y e) (subst (λ z. holds p.model (kind_of x) z ≡ true) (some_same u z g) h)
first_kind p x xs u zs h rest (suc i) y z e g = rest i y z e g

module _ (p : Facts) (s : Shape) (globals : list_all is_integer p.globals ≡ true) (integers : list_all is_integer s.variables ≡ true) (m : Memory) (good : IsGood p m) (n : ℕ) (vs : List Value) (st : State) (fit : Fit p s st) where
  abbrev w : World
  w = world_in (sizes p s) m n vs st

  operands_give : (es : t.Values) → AreTyped p s.variables (scope_of s) es → (xs : List Variable) → count_of es ≤ length xs
      → ((i : ℕ) (v : Variable) → i < count_of es → slice_get xs i ≡ Some v → operand_kind es i ≡ cell.Of (kind_of v))
      → list_all (is_met_in p s.variables (temps_in (sizes p s) st) w es) (all_checks s.variables es) ≡ true
      → (zs : List ℤ) × (totals p s.variables (temps_in (sizes p s) st) w es ≡ map number zs) × AreOf p xs (count_of es) zs
  operands_give t.stop typed xs enough kinds met = ([], refl, (refl, λ x v z e g. absurd (none_some z g)))
  operands_give (t.more e es) typed [] enough kinds met = absurd (omega (arith, enough))
  operands_give (t.more e es) typed (x ∷ xs) enough kinds met =
      let both = all_two (is_met_in p s.variables (temps_in (sizes p s) st) w (t.more e es)) (map (in_operand 0) (checks_of s.variables e)) (map later (all_checks s.variables es)) met in
      let v = typed_give p s globals integers e typed.0 (kind_of x) (kinds 0 x (omega arith) refl) m good n vs st fit (in_first p s.variables (temps_in (sizes p s) st) w e es (checks_of s.variables e) both.0) in
      let rest = operands_give es typed.1 xs (omega (arith, enough)) (λ i y l h. kinds (suc i) y (omega (arith, l)) h) (in_others p s.variables (temps_in (sizes p s) st) w e es (all_checks s.variables es) both.1) in
      let are = rest.2 in
      (v.0 ∷ rest.0, (λ i. (v.1 i) ∷ (rest.1 i)), (ap suc are.0, first_kind p x xs v.0 rest.0 v.2 are.1))

pub typed_give_all : TypedGiveAll
typed_give_all p s globals integers es typed xs enough kinds m good n vs st fit met = operands_give p s globals integers m good n vs st fit es typed xs enough kinds met

-- ---- values that are stored

-- a way to a plain variable has no checks
no_way_checks : (p : Facts) (s : Shape) → list_all is_integer s.variables ≡ true → (f : ℕ → Bool) (path : Path) (k : Kind) → LeadsTo p s f path k → way_checks s.variables path ≡ []
no_way_checks p s integers f path k (to_local x y r ss e kind so) =
    let is_plain = (and_parts y.is_plain (are_one_integer y.layout.cells) (listed_integer s.variables integers x y e)).0 in
    ap (λ o. way_checks_by o path) (ap (plain_root s.variables) r ∙ ap (λ o. if is_plain_in o then Some x else None) e ∙ ap (λ b. if b then Some x else None) is_plain)
no_way_checks p s integers f path k (to_global x y r ss e kind) =
    ap (λ o. way_checks_by o path) (ap (plain_root s.variables) r)
    ∙ ap (λ l. index_checks 0 l ++ one_if (is_pointed path.root) access path.line) ss ∙ ap (λ o. one_if (is_pointed o) access path.line) r

placed : (p : Facts) (xs : List Variable) (tm : Temps) (w : World) (type : CoreType) (path : Path) (ws : List Value) (e : t.Value) (cs : List Check)
    → list_all (place_test p xs tm w type path ws (t.more e t.stop)) (map (in_operand 0) cs) ≡ true → list_all (is_met p xs tm w e) cs ≡ true
placed p xs tm w type path ws e [] h = refl
placed p xs tm w type path ws e (c ∷ cs) h =
    let both = and_parts (is_met p xs tm w e c) (list_all (place_test p xs tm w type path ws (t.more e t.stop)) (map (in_operand 0) cs)) h in
    ap (λ b. b && list_all (is_met p xs tm w e) cs) both.0 ∙ placed p xs tm w type path ws e cs both.1

pub typed_store : TypedStore
typed_store p s globals integers e typed f type path k way kind m good n vs st fit met =
    let w = world_in (sizes p s) m n vs st in
    let checks : place_checks s.variables path (t.more e t.stop) ≡ map (in_operand 0) (checks_of s.variables e) =
    ap (λ l. (map (in_operand 0) (checks_of s.variables e) ++ []) ++ l) (no_way_checks p s integers f path k way)
    ∙ append-nil (map (in_operand 0) (checks_of s.variables e) ++ []) ∙ append-nil (map (in_operand 0) (checks_of s.variables e)) in
    typed_give p s globals integers e typed k kind m good n vs st fit
    (placed p s.variables (temps_in (sizes p s) st) w type path [] e (checks_of s.variables e)
    (ap (list_all (place_test p s.variables (temps_in (sizes p s) st) w type path [] (t.more e t.stop))) (sym checks) ∙ met))
