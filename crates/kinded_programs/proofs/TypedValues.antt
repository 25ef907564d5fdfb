-- Well-typed values that stand have the kinds that are asked of a program with blocks and pointers.
use Rattle.std.proofs.Common.{◌≡◌, ℕ, zero, suc, ◌≤◌, Bool, true, false, not, if◌then◌else◌, List, [], ◌∷◌, length, Option, Some, None, slice_get, refl, sym, ap, ◌∙◌, subst, inl, inr, arith}
use Rattle.std.specs.List.{list_all}
use Rattle.std.proofs.lemmas.Bool.{false≢true}
use Rattle.wp_base.specs.declared.kinds.CellKind.{CellKind}
use Rattle.wp_base.specs.declared.kinds.CellKind.TheVariants as cell
use Rattle.wp_base.specs.declared.kinds.Kind.{Kind}
use Rattle.wp_base.specs.declared.kinds.Kind.TheVariants as kind
use Rattle.c_kinds.specs.declared.models.Machdep.{Machdep}
use Rattle.c_kinds.specs.Conversions.{promote}
use Rattle.typed_prog.specs.declared.types.Base.{Base}
use Rattle.typed_prog.specs.declared.types.Base.TheVariants as base
use Rattle.typed_prog.specs.declared.types.CoreType.{CoreType}
use Rattle.typed_prog.specs.declared.operators.Arithmetic.{Arithmetic}
use Rattle.typed_prog.specs.declared.operators.Arithmetic.TheVariants as ar
use Rattle.typed_prog.specs.declared.operators.Change.{Change}
use Rattle.typed_prog.specs.declared.operators.Change.TheVariants as change
use Rattle.typed_prog.specs.declared.operators.Effect.{Effect}
use Rattle.typed_prog.specs.declared.operators.Effect.TheVariants as effect
use Rattle.typed_prog.specs.declared.operators.Op.{Op}
use Rattle.typed_prog.specs.declared.operators.Op.TheVariants as op
use Rattle.typed_prog.specs.declared.operators.Path.{Path}
use Rattle.typed_prog.specs.declared.operators.Root.{Root}
use Rattle.typed_prog.specs.declared.operators.Root.TheVariants as root
use Rattle.typed_prog.specs.declared.operators.Step.{Step}
use Rattle.typed_prog.specs.declared.operators.Variable.TheVariants as variable
use Rattle.typed_prog.specs.Types.{type_with, of_kind, is_pointer, is_void_by, is_void}
use Rattle.typed_prog.specs.Tree as t
use Rattle.c_scopes.specs.declared.symbols.Object.{Object}
use Rattle.c_scopes.specs.declared.symbols.Resolved.{Resolved}
use Rattle.c_exprs.specs.Typing.{Around}
use Rattle.c_well_typed.specs.Paths.{object, Begins, AllLead}
use Rattle.c_well_typed.specs.Operators.{IsScalar, IsIntegerUpdate, OpFits, ChangeFits, IsCall, EffectFits}
use Rattle.c_well_typed.specs.Scalars.{IsScalarOrVoid}
use Rattle.c_well_typed.specs.WellTyped.{types_of, NodeFits, ValueFits, ValuesFit}
use Rattle.c_programs.specs.Files.{result_of}
use Rattle.c_runs.specs.Program.{Stmts, Variable, Function, Facts}
use Rattle.c_runs.specs.Objects.{is_plain_in, plain_root, cell_of}
use Rattle.value_terms.specs.Readings.{plain_global}
use Rattle.value_terms.specs.Typed.{Scope, kind_given, second_is, ObjectIsTyped, CellIsTyped, ReadIsTyped}
use Rattle.typed_values.specs.Kinds.{TargetIsKnown}
use Rattle.typed_values.specs.Declared.{Holds, Meets}
use Rattle.typed_values.specs.Values.{stays, stays_inside, is_in_block, OpStands, AreKnown, WayIs}
use Rattle.typed_values.proofs.Types.{scalar_one, cell_is, number_is, target_pointer, pointer_blocks}
use Rattle.typed_values.proofs.Reading.{changed_are_typed}
use Rattle.typed_values.proofs.Ways.{no_parts}
use Rattle.typed_values.proofs.Typing.{operators_are_typed}
use Rattle.typed_runs.specs.Fitting.{Shape, InScope, kind_of, ArgumentsAre, LeadsTo, to_local, to_global, to_cell}
use Rattle.program_steps.specs.Temporaries.{no_temporaries}
use Rattle.typed_normal.specs.Spelled.{GivesKind, spelled_scope, ChangeIsKinded, EffectIsKinded, IsKinded, AllAreKinded}
use Rattle.kinded_programs.specs.Nodes.{EachPart, EachOperand}
use Rattle.kinded_programs.specs.Values.{OpIsFine, EffectStands, NodeStands, Stands, AreThere, WellTypedAreKinded}

-- ---- types

-- a scalar is a value
scalar_valued_by : (b : Base) (stars : List Bool) (count : Option ℕ) → IsScalar (type_with b stars count) → is_void_by b stars count ≡ false
scalar_valued_by (base.Of k) stars count h = refl
scalar_valued_by (base.Struct n) stars count h = refl
scalar_valued_by base.Void (star ∷ stars) count h = refl
scalar_valued_by base.Void [] (Some n) h = refl
scalar_valued_by base.Void [] None h = absurd cc

pub scalar_valued : (type : CoreType) → IsScalar type → is_void type ≡ false
scalar_valued type h = scalar_valued_by type.base type.stars type.count h

-- what gives a value gives a scalar
pub valued_scalar : (type : CoreType) → IsScalarOrVoid type → is_void type ≡ false → IsScalar type
valued_scalar type (inl h) valued = h
valued_scalar type (inr h) valued = absurd (false≢true (sym valued ∙ ap is_void h))

-- what a function gives
gives_by : (type : CoreType) (r : Option CellKind) (b : Bool) → is_void type ≡ b → r ≡ (if b then None else Some (cell_of type)) → IsScalarOrVoid type → GivesKind type r
gives_by type r true e same (inl h) = absurd (false≢true (sym (scalar_valued type h) ∙ e))
gives_by type r true e same (inr h) = subst (GivesKind type) (sym same) h
gives_by type r false e same h = subst (GivesKind type) (sym same) (sym (cell_is type (valued_scalar type h e)))

gives : (type : CoreType) (r : Option CellKind) → r ≡ result_of type → IsScalarOrVoid type → GivesKind type r
gives type r same h = gives_by type r (is_void type) refl same h

abbrev is_bool : Kind → Bool
is_bool kind.Bool = true
is_bool k = false

promoted_bool : (k : Kind) → promote k ≡ k → k ≡ kind.Bool → ⊥
promoted_bool k h e = false≢true (ap is_bool (sym (ap promote e) ∙ h ∙ e))

second_in : (m : Machdep) (o : Arithmetic) (k : Kind) (a type : CoreType) → IsIntegerUpdate m o k a type → second_is o (cell.Of k) (kind_given a)
second_in m ar.Shl k a type h = tt
second_in m ar.Shr k a type h = tt
second_in m ar.Mul k a type h = ap kind_given h.second
second_in m ar.Div k a type h = ap kind_given h.second
second_in m ar.Rem k a type h = ap kind_given h.second
second_in m ar.Add k a type h = ap kind_given h.second
second_in m ar.Sub k a type h = ap kind_given h.second
second_in m ar.And k a type h = ap kind_given h.second
second_in m ar.Xor k a type h = ap kind_given h.second
second_in m ar.Or k a type h = ap kind_given h.second

-- ---- where ways lead

some_is : {X : Type 0} (x y : X) → Some x ≡ Some y → x ≡ y
some_is x y h = cc

no_some : {X : Type 0} (x : X) → None ≡ Some x → ⊥
no_some x h = cc

-- a variable of this number that no pointer leads to
local_at : (xs : List Variable) (r : Root) (x : ℕ) → plain_root xs r ≡ Some x → (r ≡ root.Variable (variable.Local x)) × (is_plain_in (slice_get xs x) ≡ true)
local_at xs (root.Variable (variable.Global y)) x h = absurd (no_some x h)
local_at xs (root.Pointed n) x h = absurd (no_some x h)
local_at xs (root.Variable (variable.Local y)) x h = by (is_plain_in (slice_get xs y)) refl h where
  by : (b : Bool) → is_plain_in (slice_get xs y) ≡ b → (if b then Some y else None) ≡ Some x → (root.Variable (variable.Local y) ≡ root.Variable (variable.Local x)) × (is_plain_in (slice_get xs x) ≡ true)
  by true e k = let same = some_is y x k in (ap (λ n. root.Variable (variable.Local n)) same, ap (λ n. is_plain_in (slice_get xs n)) (sym same) ∙ e)
  by false e k = absurd (no_some x k)

global_at : (xs : List Variable) (r : Root) (x : ℕ) → plain_global xs r ≡ Some x → (r ≡ root.Variable (variable.Global x)) × (is_plain_in (slice_get xs x) ≡ true)
global_at xs (root.Variable (variable.Local y)) x h = absurd (no_some x h)
global_at xs (root.Pointed n) x h = absurd (no_some x h)
global_at xs (root.Variable (variable.Global y)) x h = by (is_plain_in (slice_get xs y)) refl h where
  by : (b : Bool) → is_plain_in (slice_get xs y) ≡ b → (if b then Some y else None) ≡ Some x → (root.Variable (variable.Global y) ≡ root.Variable (variable.Global x)) × (is_plain_in (slice_get xs x) ≡ true)
  by true e k = let same = some_is y x k in (ap (λ n. root.Variable (variable.Global n)) same, ap (λ n. is_plain_in (slice_get xs n)) (sym same) ∙ e)
  by false e k = absurd (no_some x k)

module _ (p : Facts) (s : Shape) (f : InScope) where
  abbrev scope : Scope
  scope = spelled_scope p s f

  abbrev Leads : CoreType → Path → Type 0
  Leads type path = LeadsTo p s f no_temporaries type path

  -- the way to an object that is read leads to it where it is changed
  file_leads : (type : CoreType) (path : Path) → cell_of type ≡ kind_given type → plain_root s.variables path.root ≡ None → (g : Option ℕ) → plain_global p.globals path.root ≡ g
      → CellIsTyped p s.variables scope g path.root path.steps (kind_given type) → Leads type path
  file_leads type path same no_local (Some x) at is =
      let r = global_at p.globals path.root x at in
      to_global x is.0.variable r.0 is.1 is.0.found (ap is_plain_in (sym is.0.found) ∙ r.1) (is.0.kind ∙ sym same)
  file_leads type path same no_local None at is =
      to_cell no_local at (subst (λ k. ObjectIsTyped p s.variables scope path.root path.steps k) (sym same) is.2)

  leads_by : (type : CoreType) (path : Path) → cell_of type ≡ kind_given type → WayIs p s.variables scope type path → (l : Option ℕ) → plain_root s.variables path.root ≡ l
      → ReadIsTyped p s.variables scope l type path → Leads type path
  leads_by type path same way (Some x) at is =
      let r = local_at s.variables path.root x at in
      to_local x is.variable r.0 (way.whole x at) is.found (ap is_plain_in (sym is.found) ∙ r.1) (is.kind ∙ sym same) is.declared
  leads_by type path same way None at is = file_leads type path same at (plain_global p.globals path.root) refl is.1

  leads : (type : CoreType) (path : Path) → cell_of type ≡ kind_given type → WayIs p s.variables scope type path → Leads type path
  leads type path same way = leads_by type path same way (plain_root s.variables path.root) refl way.typed

-- ---- calls

module _ (p : Facts) (s : Shape) where
  -- an argument of its kind for each parameter
  arguments_are : (n : ℕ) (xs : List Variable) (es : t.Values) → length (types_of es) ≡ n → n ≤ length xs
      → ((i : ℕ) (type : CoreType) (v : Variable) → slice_get (types_of es) i ≡ Some type → slice_get xs i ≡ Some v → kind_given type ≡ kind_of v) → ArgumentsAre p s n xs es
  arguments_are zero xs t.stop count enough kinds = tt
  arguments_are zero xs (t.more e es) count enough kinds = absurd (omega (arith, count))
  arguments_are (suc n) [] es count enough kinds = absurd (omega (arith, enough))
  arguments_are (suc n) (x ∷ xs) t.stop count enough kinds = absurd (omega (arith, count))
  arguments_are (suc n) (x ∷ xs) (t.more e es) count enough kinds =
      (kinds 0 (t.type_of e) x refl refl, arguments_are n xs es (omega (arith, count)) (omega (arith, enough)) (λ i type v h k. kinds (suc i) type v h k))

-- ---- values

module _ (p : Facts) (s : Shape) (functions : ℕ → Option (Function Stmts)) (f : InScope) (c : Around) (there : AreThere p s functions c) where
  abbrev here : Scope
  here = spelled_scope p s f

  meets : Meets c p s.variables here
  meets = there.meets f

  -- a value has the kinds that are asked, and what it leads to is spoken of
  pub record ValueIs (v : t.Value) : Type 0 where
    pub kinded : IsKinded p s functions f v
    pub known : TargetIsKnown here (t.type_of v)

  pub record ValuesAre (es : t.Values) : Type 0 where
    pub kinded : AllAreKinded p s functions f es
    pub known : AreKnown p s.variables here es

  number_known : (type : CoreType) (k : Kind) → type ≡ of_kind k → TargetIsKnown here type
  number_known type k h = subst (TargetIsKnown here) (sym h) tt

  -- ---- effects

  record EffectIs (type : CoreType) (e : Effect) (es : t.Values) : Type 0 where
    pub kinded : EffectIsKinded p s functions f type e es
    pub known : TargetIsKnown here type

  change_is : (by : Change) (a type : CoreType) → IsScalar type → TargetIsKnown here type → ChangeFits c by a type → ChangeIsKinded p s type by a
  change_is (change.Integer o k) a type scalar known fits = (promoted_bool k fits.promoted, second_in c.model o k a type fits, ap is_pointer fits.integer)
  change_is (change.Pointer minus size) a type scalar known fits =
      let pointer = target_pointer type (fits.movable.to, fits.movable.is_const) fits.movable.leads in (pointer, pointer_blocks here type pointer known)

  call_is : (n : ℕ) (es : t.Values) (type : CoreType) → IsCall c n (types_of es) type → EffectIs type (effect.Call n) es
  call_is n es type fits =
      let d = there.called n fits.function fits.declared in
      record {
        kinded = record {
          function = d.function;
          found = d.found;
          arguments = arguments_are p s d.function.params d.function.variables es (ap length fits.arguments ∙ d.count) d.enough
              (λ i u v h k. d.kinds i u v (ap (λ ts. slice_get ts i) (sym fits.arguments) ∙ h) k);
          gives = subst (λ u. GivesKind u d.function.result) (sym fits.result) (gives fits.function.result d.function.result d.result d.returns);
        };
        known = subst (TargetIsKnown here) (sym fits.result) (d.target f);
      }

  effect_is : (e : Effect) (es : t.Values) (type : CoreType) → EffectFits c e (types_of es) type → EffectStands p s f e → ValuesAre es → EffectIs type e es
  effect_is (effect.Assign path) t.stop type fits so all = absurd fits
  effect_is (effect.Assign path) (t.more a es) type fits so all =
      let way = changed_are_typed p s.variables here c meets es path type fits.0 all.known.1 so.0 so.1 in
      let same = cell_is type fits.0.scalar in
      record { kinded = (same, leads p s f type path same way, fits.1, scalar_valued type fits.0.scalar); known = way.known }
  effect_is (effect.Update path by form) t.stop type fits so all = absurd fits
  effect_is (effect.Update path by form) (t.more a es) type fits so all =
      let way = changed_are_typed p s.variables here c meets es path type fits.0 all.known.1 so.0 so.1 in
      let same = cell_is type fits.0.scalar in
      record { kinded = (same, leads p s f type path same way, way.typed, change_is by (t.type_of a) type fits.0.scalar way.known fits.1); known = way.known }
  effect_is (effect.Call n) es type fits so all = call_is n es type fits

  -- ---- where addresses begin

  -- a variable that no pointer leads to is a scalar, which has no parts
  block_by : (vs : List Variable) (x : ℕ) (o : Object) (h : Holds c.scope.file.structs here vs x o) (ss : List Step) (types : List CoreType) (to : Resolved) → (b : Bool) → h.variable.is_plain ≡ b
      → AllLead c types ss (object o.ty o.is_const) to → list_all stays ss ≡ true → (ss ≡ [] → not (is_plain_in (slice_get vs x)) ≡ true) → not (is_plain_in (slice_get vs x)) ≡ true
  block_by vs x o h ss types to true e leads stay whole = whole (no_parts c types ss (object o.ty o.is_const) to (h.scalar e) leads stay)
  block_by vs x o h ss types to false e leads stay whole = ap (λ v. not (is_plain_in v)) h.found ∙ ap not e

  block_is : (r : Root) (ss : List Step) (types : List CoreType) (first to : Resolved) → Begins c types r first → AllLead c types ss first to → stays_inside r ss ≡ true
      → (ss ≡ [] → is_in_block p s.variables r ≡ true) → is_in_block p s.variables r ≡ true
  block_is (root.Variable (variable.Local x)) ss types first to begins leads stay whole =
      let h = meets.locals x begins.declared begins.found in
      block_by s.variables x begins.declared h ss types to h.variable.is_plain refl (subst (λ (u : Resolved). AllLead c types ss u to) begins.same leads) stay whole
  block_is (root.Variable (variable.Global x)) ss types first to begins leads stay whole =
      let h = meets.globals x begins.declared begins.found in
      block_by p.globals x begins.declared h ss types to h.variable.is_plain refl (subst (λ (u : Resolved). AllLead c types ss u to) begins.same leads) stay whole
  block_is (root.Pointed n) ss types first to begins leads stay whole = refl

  -- no scalar is an array
  whole_type : (ss : List Step) (types : List CoreType) (o : Object) (to : Resolved) → ss ≡ [] → AllLead c types ss (object o.ty o.is_const) to → to.ty ≡ o.ty
  whole_type ss types o to none leads = ap (λ (u : Resolved). u.ty) (subst (λ steps. AllLead c types steps (object o.ty o.is_const) to) none leads)

  array_by : (vs : List Variable) (x : ℕ) (o : Object) (h : Holds c.scope.file.structs here vs x o) (b : Bool) → h.variable.is_plain ≡ b → {type : CoreType} {n : ℕ} → type ≡ o.ty → type.count ≡ Some n
      → not (is_plain_in (slice_get vs x)) ≡ true
  array_by vs x o h true e same array = absurd (no_some _ (sym (scalar_one o.ty (h.scalar e)) ∙ ap (λ (u : CoreType). u.count) (sym same) ∙ array))
  array_by vs x o h false e same array = ap (λ v. not (is_plain_in v)) h.found ∙ ap not e

  no_array : (r : Root) (ss : List Step) (types : List CoreType) (first to : Resolved) (n : ℕ) → Begins c types r first → AllLead c types ss first to → to.ty.count ≡ Some n → ss ≡ []
      → is_in_block p s.variables r ≡ true
  no_array (root.Variable (variable.Local x)) ss types first to n begins leads array none =
      let h = meets.locals x begins.declared begins.found in
      array_by s.variables x begins.declared h h.variable.is_plain refl (whole_type ss types begins.declared to none (subst (λ (u : Resolved). AllLead c types ss u to) begins.same leads)) array
  no_array (root.Variable (variable.Global x)) ss types first to n begins leads array none =
      let h = meets.globals x begins.declared begins.found in
      array_by p.globals x begins.declared h h.variable.is_plain refl (whole_type ss types begins.declared to none (subst (λ (u : Resolved). AllLead c types ss u to) begins.same leads)) array
  no_array (root.Pointed x) ss types first to n begins leads array none = refl

  op_stands : (o : Op) (es : t.Values) (type : CoreType) → OpFits c o (types_of es) type → OpIsFine p s f o → OpStands p s.variables here o
  op_stands (op.Read path) es type fits so = so
  op_stands (op.Address path accessed) es type fits so =
      (so.0.0, block_is path.root path.steps (types_of es) fits.reaches.first fits.to fits.reaches.begins fits.reaches.leads so.0.1 so.1)
  op_stands (op.Decay path accessed) es type fits so = (
    so.0,
    block_is path.root path.steps (types_of es) fits.reaches.first fits.to fits.reaches.begins fits.reaches.leads so.1
        (λ none. no_array path.root path.steps (types_of es) fits.reaches.first fits.to fits.count fits.reaches.begins fits.reaches.leads fits.is_array none),
  )
  op_stands op.Negate es type fits so = tt
  op_stands op.Complement es type fits so = tt
  op_stands op.Not es type fits so = tt
  op_stands (op.Arithmetic o) es type fits so = tt
  op_stands (op.Compare how) es type fits so = tt
  op_stands (op.ComparePointers how) es type fits so = tt
  op_stands (op.Offset minus index_first size accessed) es type fits so = tt
  op_stands (op.Difference size) es type fits so = tt
  op_stands op.Convert es type fits so = tt
  op_stands op.Requalify es type fits so = tt
  op_stands op.Cast es type fits so = tt

  -- ---- nodes

  mutual
    node_is : (node : t.ValueNode) (type : CoreType) (line : ℕ) → NodeFits c node type → NodeStands p s f type node → EachPart (NodeStands p s f) node → ValueIs (t.typed node type line)
    node_is (t.constant z) type line fits so parts =
        let n = number_is type fits in record { kinded = (ap is_pointer n.1, so); known = number_known type n.0 n.1 }
    node_is t.null type line fits so parts = record { kinded = fits; known = so }
    node_is (t.temporary n) type line fits so parts = absurd fits
    node_is (t.apply o es) type line fits so parts =
        let all = values_are es fits.0 parts in
        let is = operators_are_typed p s.variables here c meets o es type fits.1 all.known (op_stands o es type fits.1 so) in
        record { kinded = (all.kinded, is.typed); known = is.known }
    node_is (t.logic how a b) type line fits so parts =
        record { kinded = ((value_is a fits.0 parts.0).kinded, (value_is b fits.1 parts.1).kinded, fits.4); known = number_known type kind.Int fits.4 }
    node_is (t.choose test a b) type line fits so parts =
        let first = value_is a fits.1 parts.1 in
        record {
          kinded = ((value_is test fits.0 parts.0).kinded, first.kinded, (value_is b fits.2 parts.2).kinded, ap kind_given fits.4, ap kind_given fits.5);
          known = subst (TargetIsKnown here) fits.4 first.known;
        }
    node_is (t.effect e es) type line fits so parts =
        let all = values_are es fits.0 parts in
        let is = effect_is e es type fits.1 so all in
        record { kinded = (all.kinded, is.kinded); known = is.known }

    pub value_is : (v : t.Value) → ValueFits c v → Stands p s f v → ValueIs v
    value_is (t.typed node type line) fits so = node_is node type line fits so.0 so.1

    pub values_are : (es : t.Values) → ValuesFit c es → EachOperand (NodeStands p s f) es → ValuesAre es
    values_are t.stop fits so = record { kinded = tt; known = tt }
    values_are (t.more e es) fits so =
        let first = value_is e fits.0 so.0 in
        let rest = values_are es fits.1 so.1 in record { kinded = (first.kinded, rest.kinded); known = (first.known, rest.known) }

pub well_typed_are_kinded : WellTypedAreKinded
well_typed_are_kinded p s functions f c there v fits so = (value_is p s functions f c there v fits so).kinded
