-- Values without pointers that are well typed are those of a program over plain integers.
use Rattle.std.proofs.Common.{◌≡◌, ℕ, ℤ, zero, suc, ◌<◌, Bool, true, false, ◌&&◌, ◌||◌, List, [], ◌∷◌, length, Option, Some, None, is_some, slice_get, refl, sym, ap, ◌∙◌, subst, inl, inr, arith}
use Rattle.std.specs.Prelude.{◌⊎◌}
use Rattle.std.specs.Option.{unwrap_or}
use Rattle.std.proofs.lemmas.Bool.{false≢true, and_parts}
use Rattle.wp_base.specs.declared.kinds.CellKind.{CellKind}
use Rattle.wp_base.specs.declared.kinds.CellKind.TheVariants as cell
use Rattle.wp_base.specs.declared.kinds.Kind.{Kind}
use Rattle.wp_base.specs.declared.kinds.Kind.TheVariants as kind
use Rattle.c_kinds.specs.declared.models.Machdep.{Machdep}
use Rattle.c_kinds.specs.Conversions.{promote}
use Rattle.c_kinds.specs.Models.{holds}
use Rattle.typed_prog.specs.declared.types.Base.{Base}
use Rattle.typed_prog.specs.declared.types.Base.TheVariants as base
use Rattle.typed_prog.specs.declared.types.CoreType.{CoreType}
use Rattle.typed_prog.specs.declared.operators.Arithmetic.{Arithmetic}
use Rattle.typed_prog.specs.declared.operators.Arithmetic.TheVariants as ar
use Rattle.typed_prog.specs.declared.operators.Change.{Change}
use Rattle.typed_prog.specs.declared.operators.Change.TheVariants as change
use Rattle.typed_prog.specs.declared.operators.Effect.{Effect}
use Rattle.typed_prog.specs.declared.operators.Effect.TheVariants as effect
use Rattle.typed_prog.specs.declared.operators.Op.{Op}
use Rattle.typed_prog.specs.declared.operators.Op.TheVariants as op
use Rattle.typed_prog.specs.declared.operators.Path.{Path}
use Rattle.typed_prog.specs.declared.operators.Root.{Root}
use Rattle.typed_prog.specs.declared.operators.Root.TheVariants as root
use Rattle.typed_prog.specs.declared.operators.Step.{Step}
use Rattle.typed_prog.specs.declared.operators.Variable as code
use Rattle.typed_prog.specs.declared.operators.Variable.TheVariants as variable
use Rattle.typed_prog.specs.Types.{kind_of as type_kind, type_with, of_kind, void, kind_by, is_pointer_by, is_pointer, is_void_by}
use Rattle.typed_prog.specs.Tree as t
use Rattle.c_scopes.specs.declared.symbols.Resolved.{Resolved}
use Rattle.c_exprs.specs.Typing.{Around}
use Rattle.c_well_typed.specs.Paths.{object, IsVariable, Begins, AllLead, Reaches}
use Rattle.c_well_typed.specs.Operators.{IsPromotedInteger, OfOne, OfTwo, IsArithmetic, IsIntegerUpdate, OpFits, ChangeFits, IsCall, EffectFits}
use Rattle.c_well_typed.specs.WellTyped.{types_of, NodeFits, ValueFits, ValuesFit}
use Rattle.c_programs.specs.Files.{result_of}
use Rattle.c_runs.specs.Values.{kind_at}
use Rattle.plain_states.specs.Scopes.{kind_of}
use Rattle.plain_typing.specs.Laws.{count_of}
use Rattle.value_terms.specs.Typed.{IsInteger, kind_given, operand_kind, second_is, OpIsTyped}
use Rattle.plain_normal.specs.Plain.{anywhere, ChangeIsPlain, IsCalled, ResultIsPlain, Names, local, global, EffectIsPlain, NodeIsPlain, IsPlain, AreAllPlain}
use Rattle.plain_normal.proofs.Making.{Place}
use Rattle.plain_normal.proofs.Objects.{reads}
use Rattle.plain_test.specs.Plain.{is_number_of, is_integer_type, is_value_type, is_variable, is_plain_path, is_plain_op, is_integer_change, is_plain_effect, has_operands, is_plain_node, is_plain_value, are_plain_values}
use Rattle.plain_programs.specs.Values.{root_in, effect_in, node_stands, stands, all_stand, Meets, WellTypedArePlain}

-- ---- types

number_by : (b : Base) (stars : List Bool) (count : Option ℕ) → (is_some (kind_by b stars count) || is_void_by b stars count) ≡ true → is_pointer_by stars count ≡ false
number_by b [] count h = refl
number_by (base.Of k) (s ∷ stars) count h = absurd (false≢true h)
number_by base.Void (s ∷ stars) count h = absurd (false≢true h)
number_by (base.Struct n) (s ∷ stars) count h = absurd (false≢true h)

pub no_pointer : (type : CoreType) → is_value_type type ≡ true → is_pointer type ≡ false
no_pointer type h = number_by type.base type.stars type.count h

integer_by : (b : Base) (stars : List Bool) (count : Option ℕ) → is_some (kind_by b stars count) ≡ true → (k : Kind) × (type_with b stars count ≡ of_kind k)
integer_by (base.Of k) [] None h = (k, refl)
integer_by (base.Of k) [] (Some n) h = absurd (false≢true h)
integer_by (base.Of k) (s ∷ stars) count h = absurd (false≢true h)
integer_by base.Void stars count h = absurd (false≢true h)
integer_by (base.Struct n) stars count h = absurd (false≢true h)

-- an integer, or no value
value_by : (b : Base) (stars : List Bool) (count : Option ℕ) → (is_some (kind_by b stars count) || is_void_by b stars count) ≡ true
    → ((k : Kind) × (type_with b stars count ≡ of_kind k)) ⊎ (type_with b stars count ≡ void)
value_by (base.Of k) [] None h = inl (k, refl)
value_by (base.Of k) [] (Some n) h = absurd (false≢true h)
value_by (base.Of k) (s ∷ stars) count h = absurd (false≢true h)
value_by base.Void [] None h = inr refl
value_by base.Void [] (Some n) h = absurd (false≢true h)
value_by base.Void (s ∷ stars) count h = absurd (false≢true h)
value_by (base.Struct n) stars count h = absurd (false≢true h)

result_is : (type : CoreType) (r : Option CellKind) → is_value_type type ≡ true → r ≡ result_of type → ResultIsPlain type r
result_is type r h e = by (value_by type.base type.stars type.count h) where
  by : ((k : Kind) × (type ≡ of_kind k)) ⊎ (type ≡ void) → ResultIsPlain type r
  by (inl k) = inl (k.0, k.1, e ∙ ap result_of k.1)
  by (inr v) = inr (v, e ∙ ap result_of v)

pub integer_is : (type : CoreType) → is_integer_type type ≡ true → (k : Kind) × (type ≡ of_kind k)
integer_is type h = integer_by type.base type.stars type.count h

abbrev is_bool : Kind → Bool
is_bool kind.Bool = true
is_bool k = false

promoted_bool : (k : Kind) → promote k ≡ k → k ≡ kind.Bool → ⊥
promoted_bool k h e = false≢true (ap is_bool (sym (ap promote e) ∙ h ∙ e))

of_promoted : (type : CoreType) (k : Kind) → type ≡ of_kind k → promote k ≡ k → IsInteger type
of_promoted type k same promoted = record { no_pointer = ap is_pointer same; promoted = λ e. promoted_bool k promoted (sym (ap kind_at same) ∙ e) }

second_of : (o : Arithmetic) (a b type : CoreType) → IsArithmetic o a b type → second_is o (kind_given type) (kind_given b)
second_of ar.Shl a b type h = tt
second_of ar.Shr a b type h = tt
second_of ar.Mul a b type h = ap kind_given h.second ∙ sym (ap kind_given h.result)
second_of ar.Div a b type h = ap kind_given h.second ∙ sym (ap kind_given h.result)
second_of ar.Rem a b type h = ap kind_given h.second ∙ sym (ap kind_given h.result)
second_of ar.Add a b type h = ap kind_given h.second ∙ sym (ap kind_given h.result)
second_of ar.Sub a b type h = ap kind_given h.second ∙ sym (ap kind_given h.result)
second_of ar.And a b type h = ap kind_given h.second ∙ sym (ap kind_given h.result)
second_of ar.Xor a b type h = ap kind_given h.second ∙ sym (ap kind_given h.result)
second_of ar.Or a b type h = ap kind_given h.second ∙ sym (ap kind_given h.result)

second_in : (m : Machdep) (o : Arithmetic) (k : Kind) (a type : CoreType) → IsIntegerUpdate m o k a type → second_is o (cell.Of k) (kind_given a)
second_in m ar.Shl k a type h = tt
second_in m ar.Shr k a type h = tt
second_in m ar.Mul k a type h = ap kind_given h.second
second_in m ar.Div k a type h = ap kind_given h.second
second_in m ar.Rem k a type h = ap kind_given h.second
second_in m ar.Add k a type h = ap kind_given h.second
second_in m ar.Sub k a type h = ap kind_given h.second
second_in m ar.And k a type h = ap kind_given h.second
second_in m ar.Xor k a type h = ap kind_given h.second
second_in m ar.Or k a type h = ap kind_given h.second

pub number_holds : (m : Machdep) (k : Option Kind) (z : ℤ) → is_number_of m k z ≡ true → holds m (unwrap_or k kind.Int) z ≡ true
number_holds m None z h = absurd (false≢true h)
number_holds m (Some k) z h = h

-- ---- operands

one_operand : (type : CoreType) (es : t.Values) → OfOne (types_of es) (λ a. (type ≡ a) × IsPromotedInteger a) → IsInteger type × (operand_kind es 0 ≡ kind_given type)
one_operand type t.stop h = elim h [ ]
one_operand type (t.more a (t.more b es)) h = elim h [ ]
one_operand type (t.more a t.stop) h = (of_promoted type h.1.0 (h.0 ∙ h.1.1) h.1.2, ap kind_given (sym h.0))

two_operands : (o : Arithmetic) (type : CoreType) (es : t.Values) → OfTwo (types_of es) (λ a b. IsArithmetic o a b type)
    → IsInteger type × (operand_kind es 0 ≡ kind_given type) × second_is o (kind_given type) (operand_kind es 1)
two_operands o type t.stop h = elim h [ ]
two_operands o type (t.more a t.stop) h = elim h [ ]
two_operands o type (t.more a (t.more b (t.more c es))) h = elim h [ ]
two_operands o type (t.more a (t.more b t.stop)) h =
    (of_promoted type h.of h.result h.promoted, ap kind_given (h.first ∙ sym h.result), second_of o (t.type_of a) (t.type_of b) type h)

count_types : (es : t.Values) → count_of es ≡ length (types_of es)
count_types t.stop = refl
count_types (t.more e es) = ap suc (count_types es)

operand_type : (es : t.Values) (i : ℕ) → i < count_of es → (type : CoreType) × (slice_get (types_of es) i ≡ Some type) × (operand_kind es i ≡ kind_given type)
operand_type t.stop i h = absurd (omega (arith, h))
operand_type (t.more e es) zero h = (t.type_of e, refl, refl)
operand_type (t.more e es) (suc i) h = operand_type es i (omega (arith, h))

-- ---- variables

way_is : (r : Root) (ss : List Step) → is_variable r ss ≡ true → (x : code.Variable) × (r ≡ root.Variable x) × (ss ≡ [])
way_is (root.Variable x) [] h = (x, refl, refl)
way_is (root.Variable x) (s ∷ ss) h = absurd (false≢true h)
way_is (root.Pointed n) ss h = absurd (false≢true h)

all_in : (r : Root) → root_in (λ x. true) r ≡ true
all_in (root.Variable (variable.Local x)) = refl
all_in (root.Variable (variable.Global x)) = refl
all_in (root.Pointed n) = refl

module _ (q : Place) (c : Around) (meets : Meets c q.facts q.variables q.functions) where
  variable_names : (f : ℕ → Bool) (path : Path) (x : code.Variable) (type : CoreType) (to : Resolved) → path.root ≡ root.Variable x → path.steps ≡ [] → IsVariable c x to → type ≡ to.ty
      → root_in f (root.Variable x) ≡ true → (k : Kind) × (type ≡ of_kind k) × Names q.facts q.variables f path k
  variable_names f path (variable.Local n) type to r ss is same so =
      let h = meets.locals n is.declared is.found in
      (kind_of h.variable, same ∙ ap (λ (u : Resolved). u.ty) is.same ∙ h.kind, local n h.variable r ss h.found refl so)
  variable_names f path (variable.Global n) type to r ss is same so =
      let h = meets.globals n is.declared is.found in
      (kind_of h.variable, same ∙ ap (λ (u : Resolved). u.ty) is.same ∙ h.kind, global n h.variable r ss h.found refl)

  names_of : (f : ℕ → Bool) (types : List CoreType) (path : Path) (type : CoreType) (is_const : Bool) → Reaches c types path (object type is_const) → is_plain_path path ≡ true → root_in f path.root ≡ true
      → (k : Kind) × (type ≡ of_kind k) × Names q.facts q.variables f path k
  names_of f types path type is_const reaches plain so =
      let w = way_is path.root path.steps plain in
      variable_names f path w.0 type reaches.first w.1 w.2 (subst (λ r. Begins c types r reaches.first) w.1 reaches.begins)
      (ap (λ (u : Resolved). u.ty) (subst (λ ss. AllLead c types ss reaches.first (object type is_const)) w.2 reaches.leads)) (subst (λ r. root_in f r ≡ true) w.1 so)

  op_is : (o : Op) (es : t.Values) (type : CoreType) → is_pointer type ≡ false → is_plain_op o ≡ true → OpFits c o (types_of es) type → OpIsTyped q.facts q.variables anywhere type o es
  op_is (op.Read path) es type number plain fits =
      let names = names_of (λ x. true) (types_of es) path type fits.is_const fits.reaches plain (all_in path.root) in reads q (λ x. true) type path names.0 names.1 names.2
  op_is (op.Address path accessed) es type number plain fits = absurd (false≢true plain)
  op_is (op.Decay path accessed) es type number plain fits = absurd (false≢true plain)
  op_is op.Negate es type number plain fits = one_operand type es fits
  op_is op.Complement es type number plain fits = one_operand type es fits
  op_is op.Not es type number plain fits = number
  op_is (op.Arithmetic o) es type number plain fits = two_operands o type es fits
  op_is (op.Compare how) es type number plain fits = number
  op_is (op.ComparePointers how) es type number plain fits = absurd (false≢true plain)
  op_is (op.Offset minus index_first size accessed) es type number plain fits = absurd (false≢true plain)
  op_is (op.Difference size) es type number plain fits = absurd (false≢true plain)
  op_is op.Convert es type number plain fits = number
  op_is op.Requalify es type number plain fits = absurd (false≢true plain)
  op_is op.Cast es type number plain fits = number

  -- ---- effects

  change_is : (by : Change) (a type : CoreType) → ChangeFits c by a type → is_integer_change by ≡ true → ChangeIsPlain by a
  change_is (change.Integer o k) a type fits plain = (promoted_bool k fits.promoted, second_in c.model o k a type fits)
  change_is (change.Pointer minus size) a type fits plain = absurd (false≢true plain)

  abbrev is_called : (n : ℕ) (es : t.Values) (type : CoreType) → IsCall c n (types_of es) type → IsCalled q.functions n es
  is_called n es type fits =
      let d = meets.called n fits.function fits.declared in
      record {
        function = d.function;
        found = d.found;
        passes = record {
          count = count_types es ∙ ap length fits.arguments ∙ d.count;
          enough = d.enough;
          kinds = λ i v below found.
              let x = operand_type es i below in
              x.2 ∙ ap kind_given (d.kinds i x.0 v (ap (λ l. slice_get l i) (sym fits.arguments) ∙ x.1) found);
        };
      }

  effect_is : (f : ℕ → Bool) (does : Effect) (es : t.Values) (type : CoreType) → is_plain_effect does ≡ true → has_operands does es ≡ true → effect_in f does ≡ true → is_value_type type ≡ true
      → EffectFits c does (types_of es) type → EffectIsPlain q.facts q.variables q.functions f type does es
  effect_is f (effect.Assign path) t.stop type plain one so valued fits = absurd (false≢true one)
  effect_is f (effect.Assign path) (t.more a (t.more b es)) type plain one so valued fits = absurd (false≢true one)
  effect_is f (effect.Assign path) (t.more a t.stop) type plain one so valued fits =
      let names = names_of f [] path type false fits.0.reaches plain so in (names.0, names.1, names.2, fits.1)
  effect_is f (effect.Update path by form) t.stop type plain one so valued fits = absurd (false≢true one)
  effect_is f (effect.Update path by form) (t.more a (t.more b es)) type plain one so valued fits = absurd (false≢true one)
  effect_is f (effect.Update path by form) (t.more a t.stop) type plain one so valued fits =
      let both = and_parts (is_plain_path path) (is_integer_change by) plain in
      let names = names_of f [] path type false fits.0.reaches both.0 so in
      (names.0, names.1, names.2, change_is by (t.type_of a) type fits.1 both.1)
  effect_is f (effect.Call n) es type plain one so valued fits =
      let d = meets.called n fits.function fits.declared in
      (is_called n es type fits, result_is type d.function.result valued (d.result ∙ ap result_of (sym fits.result)))

  -- ---- values

  module _ (f : ℕ → Bool) where
    mutual
      node_is : (type : CoreType) (e : t.ValueNode) → is_value_type type ≡ true → NodeFits c e type → is_plain_node q.facts.model type e ≡ true → node_stands f e ≡ true
          → NodeIsPlain q.facts q.variables q.functions f type e
      node_is type (t.constant z) number fits plain so = number_holds q.facts.model (type_kind type) z plain
      node_is type t.null number fits plain so = absurd (false≢true plain)
      node_is type (t.temporary n) number fits plain so = absurd (false≢true plain)
      node_is type (t.apply o es) valued fits plain so =
          let both = and_parts (is_plain_op o) (are_plain_values q.facts.model es) plain in
          (all_are es fits.0 both.1 so, op_is o es type (no_pointer type valued) both.0 fits.1)
      node_is type (t.logic how a b) number fits plain so =
          let both = and_parts (is_plain_value q.facts.model a) (is_plain_value q.facts.model b) plain in
          let in_both = and_parts (stands f a) (stands f b) so in
          (value_is a fits.0 both.0 in_both.0, value_is b fits.1 both.1 in_both.1, fits.4)
      node_is type (t.choose test a b) number fits plain so =
          let first = and_parts (is_plain_value q.facts.model test) (is_plain_value q.facts.model a && is_plain_value q.facts.model b) plain in
          let arms = and_parts (is_plain_value q.facts.model a) (is_plain_value q.facts.model b) first.1 in
          let in_first = and_parts (stands f test) (stands f a && stands f b) so in
          let in_arms = and_parts (stands f a) (stands f b) in_first.1 in
          (value_is test fits.0 first.0 in_first.0, value_is a fits.1 arms.0 in_arms.0, value_is b fits.2 arms.1 in_arms.1, fits.4, fits.5)
      node_is type (t.effect does es) valued fits plain so =
          let first = and_parts (is_plain_effect does) (has_operands does es && are_plain_values q.facts.model es) plain in
          let rest = and_parts (has_operands does es) (are_plain_values q.facts.model es) first.1 in
          let both = and_parts (effect_in f does) (all_stand f es) so in
          (all_are es fits.0 rest.1 both.1, effect_is f does es type first.0 rest.0 both.0 valued fits.1)

      pub value_is : (e : t.Value) → ValueFits c e → is_plain_value q.facts.model e ≡ true → stands f e ≡ true → IsPlain q.facts q.variables q.functions f e
      value_is (t.typed node type line) fits plain so =
          let both = and_parts (is_value_type type) (is_plain_node q.facts.model type node) plain in
          (no_pointer type both.0, node_is type node both.0 fits both.1 so)

      pub all_are : (es : t.Values) → ValuesFit c es → are_plain_values q.facts.model es ≡ true → all_stand f es ≡ true → AreAllPlain q.facts q.variables q.functions f es
      all_are t.stop fits plain so = tt
      all_are (t.more e es) fits plain so =
          let both = and_parts (is_plain_value q.facts.model e) (are_plain_values q.facts.model es) plain in
          let in_both = and_parts (stands f e) (all_stand f es) so in
          (value_is e fits.0 both.0 in_both.0, all_are es fits.1 both.1 in_both.1)

pub well_typed_are_plain : WellTypedArePlain
well_typed_are_plain p xs functions f c globals integers meets v fits plain so =
    value_is (record { facts = p; globals = globals; variables = xs; integers = integers; result = None; functions = functions }) c meets f v fits plain so
