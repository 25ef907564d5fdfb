-- Objects that are read and written, updates of them, and calls.
use Rattle.std.proofs.Common.{◌≡◌, ℕ, Bool, true, false, Option, Some, None, option_map, slice_get, refl, sym, ap, ◌∙◌, subst}
use Rattle.std.proofs.lemmas.Bool.{false≢true}
use Rattle.wp_base.specs.declared.kinds.CellKind.{CellKind}
use Rattle.wp_base.specs.declared.kinds.CellKind.TheVariants as cell
use Rattle.typed_prog.specs.declared.types.CoreType.{CoreType}
use Rattle.typed_prog.specs.declared.operators.Change.{Change}
use Rattle.typed_prog.specs.declared.operators.Change.TheVariants as change
use Rattle.typed_prog.specs.declared.operators.Path.{Path}
use Rattle.typed_prog.specs.Types.{is_pointer, is_void}
use Rattle.typed_prog.specs.Tree as t
use Rattle.c_runs.specs.Program.{Facts}
use Rattle.c_runs.specs.Objects.{plain_root, cell_of}
use Rattle.c_runs.specs.Values.{kind_at}
use Rattle.c_runs.specs.Effects.{changed}
use Rattle.c_runs.specs.Core.{Target, nowhere, temporary, store, call}
use Rattle.c_runs.specs.Normal.{normal_function}
use Rattle.program_steps.specs.Temporaries.{Temporaries, no_temporaries}
use Rattle.value_terms.specs.Typed.{given_by, kind_given, ObjectIsTyped, AreTyped}
use Rattle.typed_runs.specs.Fitting.{Shape, InScope, scope_at, LeadsTo, to_local, to_global, to_cell, Takes}
use Rattle.typed_normal.specs.Spelled.{GivesKind, ChangeIsKinded, spelled_scope, IsCalled, IsKinded}
use Rattle.typed_normal.specs.Typed.{all_temporaries, core_scope, ArePassed, IsReceived, dropped, none_received, temporary_gets}
use Rattle.typed_normal.proofs.Sorts.{SameTypes, NoLess, arguments_same, object_kept}
use Rattle.typed_normal.proofs.Making.{Place, Env, shape, IsTemp, TypedIn, FitsOne}

-- ---- objects

-- a way leads as before where no less is known
pub leads_kept : (p : Facts) (s s' : Shape) (f g : InScope) (t u : Temporaries) → s.variables ≡ s'.variables → NoLess (scope_at p s f t) (scope_at p s' g u)
    → (type : CoreType) (path : Path) → LeadsTo p s f t type path → LeadsTo p s' g u type path
leads_kept p s s' f g t u same less type path (to_local x v r ss found plain kind so) =
    to_local x v r ss (ap (λ xs. slice_get xs x) (sym same) ∙ found) plain kind (less.declared x so)
leads_kept p s s' f g t u same less type path (to_global x v r ss found plain kind) = to_global x v r ss found plain kind
leads_kept p s s' f g t u same less type path (to_cell local file object) =
    to_cell (ap (λ xs. plain_root xs path.root) (sym same) ∙ local) file
    (subst (λ xs. ObjectIsTyped p xs (scope_at p s' g u) path.root path.steps (cell_of type)) same
    (object_kept p s.variables (scope_at p s f t) (scope_at p s' g u) less path.root path.steps (cell_of type) object))

pub takes_kept : (p : Facts) (s s' : Shape) (f g : InScope) → s.variables ≡ s'.variables → ((x : ℕ) → f x ≡ true → g x ≡ true) → (low x : ℕ) (k : CellKind)
    → Takes p s f low x k → Takes p s' g low x k
takes_kept p s s' f g same wide low x k h = record {
  variable = h.variable;
  found = ap (λ xs. slice_get xs x) (sym same) ∙ h.found;
  scoped = wide x h.scoped;
  inside = h.inside;
  kind = h.kind;
  one_cell = h.one_cell;
}

-- ---- kinds

pub pointer_given : (type : CoreType) → is_pointer type ≡ true → kind_given type ≡ cell.Ptr
pointer_given type h = ap (λ b. given_by b (kind_at type)) h

-- a void expression has no result to be of use
pub some_result : (type : CoreType) (result : Option CellKind) → GivesKind type result → is_void type ≡ false → result ≡ Some (kind_given type)
some_result type (Some k) h valued = ap Some (sym h)
some_result type None h valued = absurd (false≢true (sym valued ∙ ap is_void h))

module _ (q : Place) where
  -- nothing but temporaries is known more
  pub in_core : (f : InScope) (e : Env) → NoLess (spelled_scope q.facts q.bare f) (core_scope q.facts (shape q e) f)
  in_core f e = record { blocks = λ h. h; kinds = λ k h. h; declared = λ x h. h }

  pub leads : (f : InScope) (e : Env) (type : CoreType) (path : Path) → LeadsTo q.facts q.bare f no_temporaries type path
      → LeadsTo q.facts (shape q e) f all_temporaries type path
  leads f e type path h = leads_kept q.facts q.bare (shape q e) f f no_temporaries all_temporaries refl (in_core f e) type path h

  -- ---- writing

  -- the first of these values goes to the object
  pub store_fits : (f : InScope) (low : ℕ) (e : Env) (type : CoreType) (l : ℕ) (path : Path) (a : t.Value) (es vs : t.Values) → cell_of type ≡ kind_given type
      → LeadsTo q.facts q.bare f no_temporaries type path → kind_given (t.type_of a) ≡ kind_given type → AreTyped q.facts q.bare.variables (core_scope q.facts (shape q e) f) vs
      → SameTypes (t.more a es) vs → FitsOne q f low e (store type l path vs)
  store_fits f low e type l path a es t.stop cell_is way given typed same = elim same [ ]
  store_fits f low e type l path a es (t.more v vs) cell_is way given typed same = record {
    typed = typed;
    some = λ h. absurd (false≢true (ap is_stop h));
    kind = ap kind_given (sym same.0) ∙ given ∙ sym cell_is;
    way = leads f e type path way;
  } where
    is_stop : t.Values → Bool
    is_stop t.stop = true
    is_stop (t.more v vs) = false

  -- ---- updates

  pub changed_typed : (f : InScope) (by : Change) (e : Env) (type : CoreType) (l : ℕ) (a b : t.Value) → ChangeIsKinded q.facts q.bare type by (t.type_of b) → t.type_of a ≡ type
      → TypedIn q f e a → TypedIn q f e b → TypedIn q f e (changed by type l a b)
  changed_typed f (change.Integer o k) e type l a b h same ta tb =
      ((((((ta, tt), refl), (tb, tt)), (record { no_pointer = refl; promoted = h.0 }, refl, h.1)), tt), h.2)
  changed_typed f (change.Pointer minus size) e type l a b h same ta tb = ((ta, (tb, tt)), (h.0, h.1, pointer_given (t.type_of a) (ap is_pointer same ∙ h.0)))

  pub changed_kinded : (f : InScope) (by : Change) (type : CoreType) (l : ℕ) (a b : t.Value) → ChangeIsKinded q.facts q.bare type by (t.type_of b) → t.type_of a ≡ type
      → IsKinded q.facts q.bare q.functions f a → IsKinded q.facts q.bare q.functions f b → IsKinded q.facts q.bare q.functions f (changed by type l a b)
  changed_kinded f (change.Integer o k) type l a b h same pa pb =
      ((((((pa, tt), refl), (pb, tt)), (record { no_pointer = refl; promoted = h.0 }, refl, h.1)), tt), h.2)
  changed_kinded f (change.Pointer minus size) type l a b h same pa pb = ((pa, (pb, tt)), (h.0, h.1, pointer_given (t.type_of a) (ap is_pointer same ∙ h.0)))

  -- ---- calls

  module _ (f : InScope) (low : ℕ) (e : Env) (n l : ℕ) (type : CoreType) (es vs : t.Values) (c : IsCalled q.facts q.bare q.functions n type es)
      (typed : AreTyped q.facts q.bare.variables (core_scope q.facts (shape q e) f) vs) (same : SameTypes es vs) where
    passed : ArePassed q.facts (shape q e) f vs (normal_function c.function)
    passed = record { typed = typed; kinds = arguments_same q.facts q.bare (shape q e) c.function.params c.function.variables es vs same c.arguments }

    pub call_fits : (to : Target) → IsReceived q.facts (shape q e) f low c.function.result to → FitsOne q f low e (call to n l vs)
    call_fits to received = (normal_function c.function, ap (option_map normal_function) c.found, passed, received)

    -- a result goes to a temporary of its type's kind
    sent_by : (i : ℕ) (result : Option CellKind) → GivesKind type result → IsTemp i (kind_given type) e → IsReceived q.facts (shape q e) f low result (temporary i)
    sent_by i (Some k) gives temp = temporary_gets (temp.1 ∙ gives)
    sent_by i None gives temp = none_received (temp.1 ∙ ap kind_given gives)

    pub sent_fits : (i : ℕ) → IsTemp i (kind_given type) e → FitsOne q f low e (call (temporary i) n l vs)
    sent_fits i temp = call_fits (temporary i) (sent_by i c.function.result c.gives temp)

    pub drops : FitsOne q f low e (call nowhere n l vs)
    drops = call_fits nowhere dropped
