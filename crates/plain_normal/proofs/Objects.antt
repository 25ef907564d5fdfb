-- Variables that are read and written, updates of them, and calls.
use Rattle.std.proofs.Common.{◌≡◌, ℕ, ◌<◌, ◌≤◌, Bool, true, false, if◌then◌else◌, List, length, Some, None, option_map, slice_get, refl, sym, ap, ◌∙◌, subst, inl, inr}
use Rattle.std.specs.List.{list_all}
use Rattle.std.proofs.lemmas.Bool.{and_parts}
use Rattle.wp_base.specs.declared.kinds.CellKind.TheVariants as cell
use Rattle.wp_base.specs.declared.kinds.Kind.{Kind}
use Rattle.typed_prog.specs.declared.types.CoreType.{CoreType}
use Rattle.typed_prog.specs.declared.operators.Change.{Change}
use Rattle.typed_prog.specs.declared.operators.Change.TheVariants as change
use Rattle.typed_prog.specs.declared.operators.Op.TheVariants as op
use Rattle.typed_prog.specs.declared.operators.Path.{Path}
use Rattle.typed_prog.specs.declared.operators.Root.TheVariants as root
use Rattle.typed_prog.specs.declared.operators.Variable.TheVariants as variable
use Rattle.typed_prog.specs.Types.{of_kind, is_pointer}
use Rattle.typed_prog.specs.Tree as t
use Rattle.c_runs.specs.Program.{Variable, Function, Stmts}
use Rattle.c_runs.specs.Objects.{is_plain_in, plain_root, cell_of}
use Rattle.c_runs.specs.Scopes.{scalar_of}
use Rattle.c_runs.specs.Values.{kind_at}
use Rattle.c_runs.specs.Effects.{changed}
use Rattle.c_runs.specs.Run.{old_value}
use Rattle.c_runs.specs.Core.{Target, nowhere, temporary, store, call}
use Rattle.c_runs.specs.Normal.{normal_function}
use Rattle.c_runs.specs.Adding.{goal_of}
use Rattle.plain_states.specs.Scopes.{is_integer, are_one_integer, kind_of}
use Rattle.plain_states.proofs.Scoping.{listed_integer, cell_of_integer}
use Rattle.plain_runs.specs.Fitting.{LeadsTo, to_local, to_global, Receives, by_temporary}
use Rattle.plain_typing.specs.Laws.{scope_of}
use Rattle.value_terms.specs.Readings.{plain_global}
use Rattle.value_terms.specs.Typed.{kind_given, ReadIsTyped, CellIsTyped, OpIsTyped, AreTyped}
use Rattle.plain_normal.specs.Plain.{anywhere, ChangeIsPlain, IsCalled, ResultIsPlain, Names, local, global, IsPlain}
use Rattle.plain_normal.specs.Typed.{ArePassed, none_received, dropped, received}
use Rattle.plain_normal.proofs.Sorts.{SameTypes, same_count, same_kind}
use Rattle.plain_normal.proofs.Making.{Place, Env, shape, normals, IsTemp, TypedIn, FitsOne}

module _ (q : Place) where
  -- ---- reading

  plain_local : (x : ℕ) (v : Variable) → slice_get q.variables x ≡ Some v → plain_root q.variables (root.Variable (variable.Local x)) ≡ Some x
  plain_local x v e =
      ap (λ o. if is_plain_in o then Some x else None) e
      ∙ ap (λ b. if b then Some x else None) (and_parts v.is_plain (are_one_integer v.layout.cells) (listed_integer q.variables q.integers x v e)).0

  plain_file : (x : ℕ) (v : Variable) → slice_get q.facts.globals x ≡ Some v → plain_global q.facts.globals (root.Variable (variable.Global x)) ≡ Some x
  plain_file x v e =
      ap (λ o. if is_plain_in o then Some x else None) e
      ∙ ap (λ b. if b then Some x else None) (and_parts v.is_plain (are_one_integer v.layout.cells) (listed_integer q.facts.globals q.globals x v e)).0

  held_kind : (xs : List Variable) → list_all is_integer xs ≡ true → (x : ℕ) (v : Variable) (k : Kind) → slice_get xs x ≡ Some v → kind_of v ≡ k → scalar_of v.layout.cells ≡ cell.Of k
  held_kind xs all x v k e kind =
      cell_of_integer v.layout.cells (and_parts v.is_plain (are_one_integer v.layout.cells) (listed_integer xs all x v e)).1 ∙ ap cell.Of kind

  -- the variable has the type
  pub reads : (f : ℕ → Bool) (type : CoreType) (path : Path) (k : Kind) → type ≡ of_kind k → Names q.facts q.variables f path k → OpIsTyped q.facts q.variables anywhere type (op.Read path) t.stop
  reads f type path k same (local x v r ss e kind so) =
      subst (λ o. ReadIsTyped q.facts q.variables anywhere o type path) (sym (ap (plain_root q.variables) r ∙ plain_local x v e))
      (record { variable = v; found = e; declared = refl; kind = held_kind q.variables q.integers x v k e kind ∙ sym (ap kind_given same) })
  reads f type path k same (global x v r ss e kind) =
      subst (λ o. ReadIsTyped q.facts q.variables anywhere o type path) (sym (ap (plain_root q.variables) r)) (
        ap cell_of same ∙ sym (ap kind_given same),
        subst (λ o. CellIsTyped q.facts q.variables anywhere o path.root path.steps (kind_given type)) (sym (ap (plain_global q.facts.globals) r ∙ plain_file x v e))
            (record { variable = v; found = e; kind = held_kind q.facts.globals q.globals x v k e kind ∙ sym (ap kind_given same) }, ss),
      )

  -- ---- writing

  pub leads : (f : ℕ → Bool) (e : Env) (path : Path) (k : Kind) → Names q.facts q.variables f path k → LeadsTo q.facts (shape q e) f path k
  leads f e path k (local x v r ss found kind so) = to_local x v r ss found kind so
  leads f e path k (global x v r ss found kind) = to_global x v r ss found kind

  pub store_fits : (f : ℕ → Bool) (low : ℕ) (e : Env) (type : CoreType) (l : ℕ) (path : Path) (k : Kind) → type ≡ of_kind k → Names q.facts q.variables f path k
      → (a : t.Value) (vs : t.Values) → t.type_of a ≡ type → AreTyped q.facts q.variables (scope_of (shape q e)) vs → SameTypes (t.more a t.stop) vs → FitsOne q f low e (store type l path vs)
  store_fits f low e type l path k int names a t.stop same typed types = elim types [ ]
  store_fits f low e type l path k int names a (t.more v (t.more w vs)) same typed types = elim types.1 [ ]
  store_fits f low e type l path k int names a (t.more v t.stop) same typed types =
      let way = leads f e path k names in
      (k, way, (typed.0, ap kind_given (sym types.0 ∙ same ∙ int)))

  -- ---- updates

  pub changed_typed : (by : Change) (e : Env) (type : CoreType) (l : ℕ) (a b : t.Value) → is_pointer type ≡ false → ChangeIsPlain by (t.type_of b) → TypedIn q e a → TypedIn q e b
      → TypedIn q e (changed by type l a b)
  changed_typed (change.Integer o k) e type l a b number h ta tb =
      ((((((ta, tt), refl), (tb, tt)), (record { no_pointer = refl; promoted = h.0 }, refl, h.1)), tt), number)
  changed_typed (change.Pointer minus size) e type l a b number h ta tb = elim h [ ]

  pub changed_plain : (f : ℕ → Bool) (by : Change) (type : CoreType) (l : ℕ) (a b : t.Value) → is_pointer type ≡ false → ChangeIsPlain by (t.type_of b) → IsPlain q.facts q.variables q.functions f a
      → IsPlain q.facts q.variables q.functions f b → IsPlain q.facts q.variables q.functions f (changed by type l a b)
  changed_plain f (change.Integer o k) type l a b number h pa pb =
      (number, (((refl, (((refl, ((pa, tt), refl)), (pb, tt)), (record { no_pointer = refl; promoted = h.0 }, refl, h.1))), tt), number))
  changed_plain f (change.Pointer minus size) type l a b number h pa pb = elim h [ ]

  pub old_plain : (f : ℕ → Bool) (type : CoreType) (l : ℕ) (path : Path) (k : Kind) → is_pointer type ≡ false → type ≡ of_kind k → Names q.facts q.variables f path k
      → IsPlain q.facts q.variables q.functions f (old_value path type l t.stop)
  old_plain f type l path k number int names = (number, (tt, reads f type path k int names))

  -- ---- calls

  found_normal : (n : ℕ) (g : Function Stmts) → q.functions n ≡ Some g → normals q n ≡ Some (normal_function g)
  found_normal n g e = ap (option_map normal_function) e

  arguments_pass : (e : Env) (n : ℕ) (es vs : t.Values) (c : IsCalled q.functions n es) → AreTyped q.facts q.variables (scope_of (shape q e)) vs → SameTypes es vs
      → ArePassed q.facts (shape q e) vs (normal_function c.function)
  arguments_pass e n es vs c typed same =
      let counts = same_count es vs same in
      record {
        typed = typed;
        count = sym counts ∙ c.passes.count;
        enough = c.passes.enough;
        kinds = λ i v below h. sym (same_kind es vs same i) ∙ c.passes.kinds i v (subst (λ j. i < j) (sym counts) below) h;
      }

  -- a result that nobody wants
  pub call_fits : (f : ℕ → Bool) (low : ℕ) (e : Env) (n l : ℕ) (es vs : t.Values) → IsCalled q.functions n es → AreTyped q.facts q.variables (scope_of (shape q e)) vs → SameTypes es vs
      → FitsOne q f low e (call nowhere n l vs)
  call_fits f low e n l es vs c typed same =
      (normal_function c.function, found_normal n c.function c.found, arguments_pass e n es vs c typed same, dropped)

  -- a function without result gives what is of no use
  none_fits : (f : ℕ → Bool) (low : ℕ) (e : Env) (n l i : ℕ) (es vs : t.Values) (c : IsCalled q.functions n es) → c.function.result ≡ None → i < e.count
      → AreTyped q.facts q.variables (scope_of (shape q e)) vs → SameTypes es vs → FitsOne q f low e (call (temporary i) n l vs)
  none_fits f low e n l i es vs c result below typed same =
      (normal_function c.function, found_normal n c.function c.found, arguments_pass e n es vs c typed same, none_received result below)

  -- a result of the kind
  pub result_fits : (f : ℕ → Bool) (low : ℕ) (e : Env) (n l : ℕ) (es vs : t.Values) (k : Kind) (to : Target) (c : IsCalled q.functions n es) → c.function.result ≡ Some (cell.Of k)
      → AreTyped q.facts q.variables (scope_of (shape q e)) vs → SameTypes es vs → Receives q.facts (shape q e) f low k (goal_of q.variables to) → FitsOne q f low e (call to n l vs)
  result_fits f low e n l es vs k to c result typed same receives =
      (normal_function c.function, found_normal n c.function c.found, arguments_pass e n es vs c typed same, received result receives)

  -- a result goes to a temporary of its type's kind
  pub sent_fits : (f : ℕ → Bool) (low : ℕ) (e : Env) (type : CoreType) (n l i : ℕ) (es vs : t.Values) (c : IsCalled q.functions n es) → ResultIsPlain type c.function.result → IsTemp i (kind_at type) e
      → AreTyped q.facts q.variables (scope_of (shape q e)) vs → SameTypes es vs → FitsOne q f low e (call (temporary i) n l vs)
  sent_fits f low e type n l i es vs c (inl r) temp typed same = result_fits f low e n l es vs r.0 (temporary i) c r.2 typed same (by_temporary temp.0 (temp.1 ∙ ap kind_at r.1))
  sent_fits f low e type n l i es vs c (inr r) temp typed same = none_fits f low e n l i es vs c r.1 temp.0 typed same
