-- A value that fits is a scalar, or there is none.
use Rattle.std.proofs.Common.{◌≡◌, ℕ, Bool, true, false, ◌||◌, List, [], ◌∷◌, Option, Some, None, ap, sym, ◌∙◌, refl, subst, ◌⊎◌, inl, inr}
use Rattle.std.specs.Option.{is_some}
use Rattle.wp_base.specs.declared.kinds.Kind.{Kind}
use Rattle.typed_prog.specs.declared.types.Base.{Base}
use Rattle.typed_prog.specs.declared.types.Base.TheVariants as base
use Rattle.typed_prog.specs.declared.types.CoreType.{CoreType}
use Rattle.typed_prog.specs.declared.operators.Op.{Op}
use Rattle.typed_prog.specs.declared.operators.Op.TheVariants as op
use Rattle.typed_prog.specs.declared.operators.Effect.{Effect}
use Rattle.typed_prog.specs.declared.operators.Effect.TheVariants as effect
use Rattle.typed_prog.specs.declared.operators.Path.{Path}
use Rattle.typed_prog.specs.declared.operators.Root.{Root}
use Rattle.typed_prog.specs.declared.operators.Root.TheVariants as root
use Rattle.typed_prog.specs.declared.operators.Step.{Step}
use Rattle.typed_prog.specs.declared.operators.Step.TheVariants as step
use Rattle.typed_prog.specs.Types.{type_with, of_kind, kind_of, void, pointer_to, target_by, target_of, struct_by, is_pointer, is_void_by, is_void, with_const_by, with_const_target, is_pointer_by}
use Rattle.typed_prog.specs.Tree as t
use Rattle.c_scopes.specs.declared.symbols.Resolved.{Resolved}
use Rattle.c_exprs.specs.Typing.{Around}
use Rattle.c_well_typed.specs.Paths.{IsInteger, Begins, Leads, AllLead, Reaches}
use Rattle.c_well_typed.specs.Operators.{IsScalar, OfOne, OfTwo, OfFirst, IsValueOf, IsMoved, Moves, OpFits, EffectFits}
use Rattle.c_well_typed.specs.Scalars.{HasObjects, IsScalarOrVoid, IsDeclaredInOrder, ValuesAreScalars}

-- ---- which types are scalars

or_second : (a b : Bool) → b ≡ true → (a || b) ≡ true
or_second true b h = refl
or_second false b h = h

pointer_is : (type : CoreType) → is_pointer type ≡ true → IsScalar type
pointer_is type h = or_second (is_some (kind_of type)) (is_pointer type) h

integer_is : (type : CoreType) → IsInteger type → IsScalar type
integer_is type h = ap (λ k. is_some k || is_pointer type) h.1

kind_is : (type : CoreType) (k : Kind) → type ≡ of_kind k → IsScalar type
kind_is type k h = subst IsScalar (sym h) refl

address_is : (type to : CoreType) (is_const : Bool) → type ≡ pointer_to to is_const → IsScalar type
address_is type to is_const h = pointer_is type (ap is_pointer h)

const_pointer_by : (b : Base) (stars : List Bool) (count : Option ℕ) → is_pointer_by stars count ≡ true → is_pointer (with_const_by b stars count) ≡ true
const_pointer_by b [] count h = h
const_pointer_by b (star ∷ stars) None h = refl
const_pointer_by b (star ∷ stars) (Some n) h = h

const_pointer : (a type : CoreType) → is_pointer a ≡ true → type ≡ with_const_target a → IsScalar type
const_pointer a type h e = pointer_is type (ap is_pointer e ∙ const_pointer_by a.base a.stars a.count h)

held_by : (b : Base) (stars : List Bool) (count : Option ℕ) → is_void_by b stars None ≡ false → count ≡ None → struct_by b stars count ≡ None
    → IsScalar (type_with b stars count)
held_by b stars (Some n) h none e = absurd cc
held_by base.Void [] None h none e = absurd cc
held_by base.Void (star ∷ stars) None h none e = refl
held_by (base.Of k) [] None h none e = refl
held_by (base.Of k) (star ∷ stars) None h none e = refl
held_by (base.Struct n) [] None h none e = absurd cc
held_by (base.Struct n) (star ∷ stars) None h none e = refl

-- ---- what a path reaches

target_is_one : (b : Base) (stars : List Bool) (count : Option ℕ) (to : CoreType × Bool) → target_by b stars count ≡ Some to → to.0.count ≡ None
target_is_one b [] count to h = absurd cc
target_is_one b (star ∷ stars) (Some n) to h = absurd cc
target_is_one b (star ∷ stars) None to h =
    let target : CoreType × Bool = (type_with b stars None, star) in let same : target ≡ to = cc in ap (λ p. p.0.count) (sym same)

pointed_is : (pointer : CoreType) (to : Resolved) → target_of pointer ≡ Some (to.ty, to.is_const) → is_void to.ty ≡ false → HasObjects to.ty
pointed_is pointer to leads h =
    subst (λ n. is_void (type_with to.ty.base to.ty.stars n) ≡ false) (target_is_one pointer.base pointer.stars pointer.count (to.ty, to.is_const) leads) h

begins_is : (c : Around) (types : List CoreType) (r : Root) (to : Resolved) → IsDeclaredInOrder c → Begins c types r to → HasObjects to.ty
begins_is c types (root.Variable x) to order h = subst (λ o. HasObjects o.ty) (sym h.same) (order.variables x h.declared h.found)
begins_is c types (root.Pointed n) to order h = pointed_is h.pointer to h.leads h.not_void

leads_is : (c : Around) (types : List CoreType) (s : Step) (from to : Resolved) → IsDeclaredInOrder c → HasObjects from.ty → Leads c types s from to
    → HasObjects to.ty
leads_is c types (step.Field number offset) from to order fine h =
    subst (λ o. HasObjects o.ty) (sym h.same) (order.fields h.tag number h.structure h.member h.declared h.has)
leads_is c types (step.Element n size count line) from to order fine h = subst (λ o. HasObjects o.ty) (sym h.same) fine
leads_is c types (step.Moved n size) from to order fine h = subst (λ o. HasObjects o.ty) (sym h.same) fine

all_is : (c : Around) (types : List CoreType) (ss : List Step) (from to : Resolved) → IsDeclaredInOrder c → HasObjects from.ty → AllLead c types ss from to
    → HasObjects to.ty
all_is c types [] from to order fine h = subst (λ o. HasObjects o.ty) (sym h) fine
all_is c types (s ∷ ss) from to order fine h = all_is c types ss h.0 to order (leads_is c types s from h.0 order fine h.1) h.2

reached_is : (c : Around) (types : List CoreType) (p : Path) (to : Resolved) → IsDeclaredInOrder c → Reaches c types p to → HasObjects to.ty
reached_is c types p to order r = all_is c types p.steps r.first to order (begins_is c types p.root r.first order r.begins) r.leads

-- ---- operators

read_is : (c : Around) (types : List CoreType) (p : Path) (type : CoreType) → IsDeclaredInOrder c → IsValueOf c types p type → IsScalar type
read_is c types p type order h = held_by type.base type.stars type.count (reached_is c types p _ order h.reaches) h.no_array h.no_struct

of_one : (types : List CoreType) (f : CoreType → Type 0) (Q : Type 0) → OfOne types f → ((a : CoreType) → f a → Q) → Q
of_one [] f Q h more = absurd h
of_one (a ∷ []) f Q h more = more a h
of_one (a ∷ b ∷ rest) f Q h more = absurd h

of_two : (types : List CoreType) (f : CoreType → CoreType → Type 0) (Q : Type 0) → OfTwo types f → ((a b : CoreType) → f a b → Q) → Q
of_two [] f Q h more = absurd h
of_two (a ∷ []) f Q h more = absurd h
of_two (a ∷ b ∷ []) f Q h more = more a b h
of_two (a ∷ b ∷ b' ∷ rest) f Q h more = absurd h

of_first : (types : List CoreType) (f : CoreType → List CoreType → Type 0) (Q : Type 0) → OfFirst types f
    → ((a : CoreType) (rest : List CoreType) → f a rest → Q) → Q
of_first [] f Q h more = absurd h
of_first (a ∷ rest) f Q h more = more a rest h

target_points : (b : Base) (stars : List Bool) (count : Option ℕ) (to : CoreType × Bool) → target_by b stars count ≡ Some to → is_pointer_by stars count ≡ true
target_points b [] count to h = absurd cc
target_points b (star ∷ stars) (Some n) to h = absurd cc
target_points b (star ∷ stars) None to h = refl

moved_is : (c : Around) (size : ℕ) (pointer index type : CoreType) → IsMoved c size pointer index type → IsScalar type
moved_is c size pointer index type h =
    pointer_is type (ap is_pointer h.same ∙ target_points pointer.base pointer.stars pointer.count (h.movable.to, h.movable.is_const) h.movable.leads)

moves_is : (c : Around) (index_first : Bool) (size : ℕ) (a b type : CoreType) → Moves c index_first size a b type → IsScalar type
moves_is c false size a b type h = moved_is c size a b type h
moves_is c true size a b type h = moved_is c size b a type h

cast_is : (a type : CoreType) → (IsInteger a × IsInteger type) ⊎ (type ≡ void) → IsScalarOrVoid type
cast_is a type (inl h) = inl (integer_is type h.1)
cast_is a type (inr h) = inr h

op_is : (c : Around) (o : Op) (types : List CoreType) (type : CoreType) → IsDeclaredInOrder c → OpFits c o types type → IsScalarOrVoid type
op_is c (op.Read p) types type order h = inl (read_is c types p type order h)
op_is c (op.Address p accessed) types type order h = inl (address_is type h.to.ty h.to.is_const h.same)
op_is c (op.Decay p accessed) types type order h = inl (address_is type h.to.ty h.to.is_const h.same)
op_is c op.Negate types type order h = of_one types _ (IsScalarOrVoid type) h (λ a f. inl (kind_is type f.1.0 (f.0 ∙ f.1.1)))
op_is c op.Complement types type order h = of_one types _ (IsScalarOrVoid type) h (λ a f. inl (kind_is type f.1.0 (f.0 ∙ f.1.1)))
op_is c op.Not types type order h = of_one types _ (IsScalarOrVoid type) h (λ a f. inl (kind_is type _ f.1))
op_is c (op.Arithmetic o) types type order h = of_two types _ (IsScalarOrVoid type) h (λ a b f. inl (kind_is type f.of f.result))
op_is c (op.Compare how) types type order h = of_two types _ (IsScalarOrVoid type) h (λ a b f. inl (kind_is type _ f.result))
op_is c (op.ComparePointers how) types type order h = of_two types _ (IsScalarOrVoid type) h (λ a b f. inl (kind_is type _ f.1))
op_is c (op.Offset minus index_first size accessed) types type order h =
    of_two types _ (IsScalarOrVoid type) h (λ a b f. inl (moves_is c index_first size a b type f))
op_is c (op.Difference size) types type order h = of_two types _ (IsScalarOrVoid type) h (λ a b f. inl (kind_is type _ f.2))
op_is c op.Convert types type order h = of_one types _ (IsScalarOrVoid type) h (λ a f. inl (integer_is type f.1))
op_is c op.Requalify types type order h = of_one types _ (IsScalarOrVoid type) h (λ a f. inl (const_pointer a type f.pointer f.same))
op_is c op.Cast types type order h = of_one types _ (IsScalarOrVoid type) h (λ a f. cast_is a type f)

effect_is : (c : Around) (does : Effect) (types : List CoreType) (type : CoreType) → IsDeclaredInOrder c → EffectFits c does types type → IsScalarOrVoid type
effect_is c (effect.Assign p) types type order h = of_first types _ (IsScalarOrVoid type) h (λ a rest f. inl f.0.scalar)
effect_is c (effect.Update p by form) types type order h = of_first types _ (IsScalarOrVoid type) h (λ a rest f. inl f.0.scalar)
effect_is c (effect.Call n) types type order h = subst IsScalarOrVoid (sym h.result) (order.results n h.function h.declared)

-- the arms of `?:` have its type
pub values_are_scalars : ValuesAreScalars
values_are_scalars c order (t.typed (t.constant z) type line) fits = inl (integer_is type fits)
values_are_scalars c order (t.typed t.null type line) fits = inl (pointer_is type fits)
values_are_scalars c order (t.typed (t.temporary n) type line) fits = absurd fits
values_are_scalars c order (t.typed (t.apply o operands) type line) fits = op_is c o _ type order fits.1
values_are_scalars c order (t.typed (t.logic how a b) type line) fits = inl (kind_is type _ fits.4)
values_are_scalars c order (t.typed (t.choose test a b) type line) fits = subst IsScalarOrVoid fits.4 (values_are_scalars c order a fits.1)
values_are_scalars c order (t.typed (t.effect does operands) type line) fits = effect_is c does _ type order fits.1
