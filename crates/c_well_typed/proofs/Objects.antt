-- What names an object fits, and so does its address.
use Rattle.std.proofs.Common.{◌≡◌, ℕ, suc, zero, Bool, true, false, ◌||◌, if◌then◌else◌, List, [], ◌∷◌, ◌++◌, map, length, Option, Some, None, Ok, ap, sym, refl, subst, slice_get}
use Rattle.wp_base.specs.declared.kinds.Kind.{Kind}
use Rattle.c_answers.specs.Answers.{wrong}
use Rattle.typed_prog.specs.declared.types.CoreType.{CoreType}
use Rattle.typed_prog.specs.declared.operators.Root.{Root}
use Rattle.typed_prog.specs.declared.operators.Root.TheVariants as root
use Rattle.typed_prog.specs.declared.operators.Step.{Step}
use Rattle.typed_prog.specs.declared.operators.Step.TheVariants as step
use Rattle.typed_prog.specs.Types.{target_of, struct_of, is_void}
use Rattle.typed_prog.specs.Tree as t
use Rattle.c_operands.specs.Operands.{Operand, object, value, Place, Rvalue, valued}
use Rattle.c_operands.specs.Conversions.{kind_of_value}
use Rattle.c_rules.specs.Pointers.{stride}
use Rattle.c_places.specs.declared.objects.Field.{Field}
use Rattle.c_places.specs.Objects.{followed_place, followed_by, dereferenced, is_bare, only_of, address_by, address_of_object, address, index_by, index_value, element, step_behind, root_behind, element_swapped, pointed_by, indexed_values_by, array_count, indexed_by, indexed, member_by, member_in, member}
use Rattle.c_scopes.specs.declared.symbols.Resolved.{Resolved}
use Rattle.c_exprs.specs.Typing.{Around}
use Rattle.c_well_typed.specs.Paths.{object as object_of, IsIndex, IsInteger, IsField, Begins, Leads, AllLead}
use Rattle.c_well_typed.specs.WellTyped.{types_of, ValueFits, ValuesFit, OperandFits}
use Rattle.c_well_typed.proofs.Types.{movable_is}
use Rattle.c_well_typed.proofs.Fitting.{Holds, after_holds, Made, RvalueFits, valued_fits, followed_fits}

-- ---- `*`

followed_by_made : (c : Around) (line : ℕ) (v : t.Value) (type : CoreType) (is_const b : Bool) → ValueFits c v
    → target_of (t.type_of v) ≡ Some (type, is_const) → is_void type ≡ b
    → Made c (if b then wrong line else Ok (object (followed_place line v type) is_const))
followed_by_made c line v type is_const true fits e h = tt
followed_by_made c line v type is_const false fits e h =
    let made = followed_fits c true v fits in (
      (made.0, tt),
      record {
        first = object_of type is_const;
        begins = record { pointer = t.type_of v; is_operand = ap Some made.1; leads = e; not_void = h };
        leads = refl;
      },
    )

target_made : (c : Around) (line : ℕ) (v : t.Value) (target : Option (CoreType × Bool)) → ValueFits c v → target_of (t.type_of v) ≡ target
    → Made c (followed_by line v target)
target_made c line v None fits e = tt
target_made c line v (Some to) fits e = followed_by_made c line v to.0 to.1 _ fits e refl

pub dereferenced_made : (c : Around) (line : ℕ) (x : Operand) → OperandFits c x → Made c (dereferenced line x)
unfolding dereferenced
dereferenced_made c line x fits =
    after_holds (RvalueFits c) (OperandFits c) (valued line x) _ (valued_fits c line x fits) (λ v fv. target_made c line v.value _ fv refl)

-- ---- `&`

only_fits : (c : Around) (vs : List t.Value) (v : t.Value) → only_of vs ≡ Some v → ValuesFit c (t.values_of vs) → ValueFits c v
only_fits c [] v e fits = absurd cc
only_fits c (w ∷ []) v e fits = let same : w ≡ v = cc in subst (ValueFits c) same fits.0
only_fits c (w ∷ w' ∷ ws) v e fits = absurd cc

address_by_fits : (c : Around) (line : ℕ) (p : Place) (is_const : Bool) (leading : Option t.Value) → OperandFits c (object p is_const) → p.type.count ≡ None
    → ((v : t.Value) → leading ≡ Some v → ValueFits c v) → ValueFits c (address_by line p is_const leading)
address_by_fits c line p is_const (Some v) fits none more = (followed_fits c false v (more v refl)).0
address_by_fits c line p is_const None fits none more = (fits.0, record { to = object_of p.type is_const; reaches = fits.1; no_array = none; same = refl })

address_at_fits : (c : Around) (line : ℕ) (p : Place) (is_const bare : Bool) → OperandFits c (object p is_const) → p.type.count ≡ None
    → ValueFits c (if bare then address_by line p is_const (only_of p.operands) else address_by line p is_const None)
address_at_fits c line p is_const true fits none = address_by_fits c line p is_const (only_of p.operands) fits none (λ v e. only_fits c p.operands v e fits.0)
address_at_fits c line p is_const false fits none = address_by_fits c line p is_const None fits none (λ v e. absurd cc)

address_of_made : (c : Around) (line : ℕ) (p : Place) (is_const : Bool) (count : Option ℕ) → OperandFits c (object p is_const) → p.type.count ≡ count
    → Made c (address_of_object line p is_const count)
address_of_made c line p is_const (Some n) fits e = tt
address_of_made c line p is_const None fits e = address_at_fits c line p is_const (is_bare p.path) fits e

pub address_made : (c : Around) (line : ℕ) (x : Operand) → OperandFits c x → Made c (address line x)
unfolding address
address_made c line (object p is_const) fits = address_of_made c line p is_const _ fits refl
address_made c line (value v is_constant) fits = tt

-- ---- more operands behind, or one in front

-- what is found among some types is found among others
abbrev Kept : (types types' : List CoreType) → Type 0
Kept types types' = (n : ℕ) (type : CoreType) → slice_get types n ≡ Some type → slice_get types' n ≡ Some type

index_kept : (types types' : List CoreType) (n : ℕ) → Kept types types' → IsIndex types n → IsIndex types' n
index_kept types types' n keep i = record { type = i.type; is_operand = keep n i.type i.is_operand; integer = i.integer }

begins_kept : (c : Around) (types types' : List CoreType) → Kept types types' → (r : Root) (to : Resolved)
    → Begins c types r to → Begins c types' r to
begins_kept c types types' keep (root.Variable x) to h = h
begins_kept c types types' keep (root.Pointed n) to h =
    record { pointer = h.pointer; is_operand = keep n h.pointer h.is_operand; leads = h.leads; not_void = h.not_void }

leads_kept : (c : Around) (types types' : List CoreType) → Kept types types' → (s : Step) (from to : Resolved)
    → Leads c types s from to → Leads c types' s from to
leads_kept c types types' keep (step.Field number offset) from to h = h
leads_kept c types types' keep (step.Element n size count line) from to h =
    record { index = index_kept types types' n keep h.index; is_array = h.is_array; cells = h.cells; same = h.same }
leads_kept c types types' keep (step.Moved n size) from to h = record { index = index_kept types types' n keep h.index; cells = h.cells; same = h.same }

all_kept : (c : Around) (types types' : List CoreType) → Kept types types' → (ss : List Step) (from to : Resolved)
    → AllLead c types ss from to → AllLead c types' ss from to
all_kept c types types' keep [] from to h = h
all_kept c types types' keep (s ∷ ss) from to h = (h.0, leads_kept c types types' keep s from h.0 h.1, all_kept c types types' keep ss h.0 to h.2)

-- one operand in front
begins_behind : (c : Around) (types : List CoreType) (type : CoreType) (r : Root) (to : Resolved) → Begins c types r to
    → Begins c (type ∷ types) (root_behind r) to
begins_behind c types type (root.Variable x) to h = h
begins_behind c types type (root.Pointed n) to h = record { pointer = h.pointer; is_operand = h.is_operand; leads = h.leads; not_void = h.not_void }

index_behind : (types : List CoreType) (type : CoreType) (n : ℕ) → IsIndex types n → IsIndex (type ∷ types) (suc n)
index_behind types type n i = record { type = i.type; is_operand = i.is_operand; integer = i.integer }

leads_behind : (c : Around) (types : List CoreType) (type : CoreType) (s : Step) (from to : Resolved) → Leads c types s from to
    → Leads c (type ∷ types) (step_behind s) from to
leads_behind c types type (step.Field number offset) from to h = h
leads_behind c types type (step.Element n size count line) from to h =
    record { index = index_behind types type n h.index; is_array = h.is_array; cells = h.cells; same = h.same }
leads_behind c types type (step.Moved n size) from to h = record { index = index_behind types type n h.index; cells = h.cells; same = h.same }

all_behind : (c : Around) (types : List CoreType) (type : CoreType) (ss : List Step) (from to : Resolved) → AllLead c types ss from to
    → AllLead c (type ∷ types) (map step_behind ss) from to
all_behind c types type [] from to h = h
all_behind c types type (s ∷ ss) from to h = (h.0, leads_behind c types type s from h.0 h.1, all_behind c types type ss h.0 to h.2)

-- one step more
one_more : (c : Around) (types : List CoreType) (ss : List Step) (s : Step) (from next to : Resolved) → AllLead c types ss from next → Leads c types s next to
    → AllLead c types (ss ++ s ∷ []) from to
one_more c types [] s from next to h l = (to, subst (λ o. Leads c types s o to) h l, refl)
one_more c types (s' ∷ ss) s from next to h l = (h.0, h.1, one_more c types ss s h.0 next to h.2 l)

-- ---- an operand more, behind the others

fits_behind : (c : Around) (vs : List t.Value) (v : t.Value) → ValuesFit c (t.values_of vs) → ValueFits c v → ValuesFit c (t.values_of (vs ++ v ∷ []))
fits_behind c [] v fits fv = (fv, tt)
fits_behind c (w ∷ ws) v fits fv = (fits.0, fits_behind c ws v fits.1 fv)

last_is : (vs : List t.Value) (v : t.Value) → slice_get (types_of (t.values_of (vs ++ v ∷ []))) (length vs) ≡ Some (t.type_of v)
last_is [] v = refl
last_is (w ∷ ws) v = last_is ws v

still_is : (vs : List t.Value) (v : t.Value) (n : ℕ) (type : CoreType) → slice_get (types_of (t.values_of vs)) n ≡ Some type
    → slice_get (types_of (t.values_of (vs ++ v ∷ []))) n ≡ Some type
still_is [] v n type h = absurd cc
still_is (w ∷ ws) v zero type h = h
still_is (w ∷ ws) v (suc n) type h = still_is ws v n type h

-- ---- `[ ]`

abbrev IndexFits : Around → t.Value → Type 0
IndexFits c v = ValueFits c v × IsInteger (t.type_of v)

index_by_fits : (c : Around) (line : ℕ) (v : Rvalue) (k : Option Kind) → RvalueFits c v → kind_of_value v.value ≡ k → Holds (IndexFits c) (index_by line v k)
index_by_fits c line v None fits e = tt
index_by_fits c line v (Some k) fits e = (fits, (k, e))

index_fits : (c : Around) (line : ℕ) (x : Operand) → OperandFits c x → Holds (IndexFits c) (index_value line x)
unfolding index_value
index_fits c line x fits = after_holds (RvalueFits c) (IndexFits c) (valued line x) _ (valued_fits c line x fits) (λ v fv. index_by_fits c line v _ fv refl)

element_fits : (c : Around) (line n : ℕ) (p : Place) (is_const : Bool) (i : t.Value) → OperandFits c (object p is_const) → p.type.count ≡ Some n → IndexFits c i
    → OperandFits c (object (element c.sizes line n p i) is_const)
element_fits c line n p is_const i fits array fi =
    let types = types_of (t.values_of p.operands) in let types' = types_of (t.values_of (p.operands ++ i ∷ [])) in let r = fits.1 in (
      fits_behind c p.operands i fits.0 fi.0,
      record {
        first = r.first;
        begins = begins_kept c types types' (still_is p.operands i) p.path.root r.first r.begins;
        leads = one_more c types' p.path.steps _ r.first (object_of p.type is_const) _
            (all_kept c types types' (still_is p.operands i) p.path.steps r.first _ r.leads)
            (record { index = record { type = t.type_of i; is_operand = last_is p.operands i; integer = fi.1 }; is_array = array; cells = refl; same = refl });
      },
    )

swapped_fits : (c : Around) (line n : ℕ) (p : Place) (is_const : Bool) (i : t.Value) → OperandFits c (object p is_const) → p.type.count ≡ Some n → IndexFits c i
    → OperandFits c (object (element_swapped c.sizes line n p i) is_const)
swapped_fits c line n p is_const i fits array fi =
    let types = types_of (t.values_of p.operands) in let r = fits.1 in (
      (fi.0, fits.0),
      record {
        first = r.first;
        begins = begins_behind c types (t.type_of i) p.path.root r.first r.begins;
        leads = one_more c (t.type_of i ∷ types) (map step_behind p.path.steps) _ r.first (object_of p.type is_const) _
            (all_behind c types (t.type_of i) p.path.steps r.first _ r.leads)
            (record { index = record { type = t.type_of i; is_operand = refl; integer = fi.1 }; is_array = array; cells = refl; same = refl });
      },
    )

-- what a pointer that is moved leads to
pointed_by_made : (c : Around) (line p i : ℕ) (vs : List t.Value) (type index : CoreType) (size : Option ℕ) → ValuesFit c (t.values_of vs)
    → slice_get (types_of (t.values_of vs)) p ≡ Some type → slice_get (types_of (t.values_of vs)) i ≡ Some index → IsInteger index
    → stride c.sizes type ≡ size → Made c (pointed_by line p i vs size (target_of type))
pointed_by_made c line p i vs type index None fits ep ei integer es = tt
pointed_by_made c line p i vs type index (Some size) fits ep ei integer es =
    let m = movable_is c type size es in subst (λ target. Made c (pointed_by line p i vs (Some size) target)) (sym m.leads) (
      fits,
      record {
        first = object_of m.to m.is_const;
        begins = record { pointer = type; is_operand = ep; leads = m.leads; not_void = m.not_void };
        leads = (object_of m.to m.is_const, record { index = record { type = index; is_operand = ei; integer = integer }; cells = m.cells; same = refl }, refl);
      },
    )

values_by_made : (c : Around) (line : ℕ) (v w : Rvalue) (j k : Option Kind) → RvalueFits c v → RvalueFits c w → kind_of_value v.value ≡ j
    → kind_of_value w.value ≡ k
    → Made c (indexed_values_by c.sizes line v w j k)
values_by_made c line v w None (Some k) fv fw ev ew =
    pointed_by_made c line 0 1 (v.value ∷ w.value ∷ []) (t.type_of v.value) (t.type_of w.value) _ (fv, (fw, tt)) refl refl (k, ew) refl
values_by_made c line v w (Some j) None fv fw ev ew =
    pointed_by_made c line 1 0 (v.value ∷ w.value ∷ []) (t.type_of w.value) (t.type_of v.value) _ (fv, (fw, tt)) refl refl (j, ev) refl
values_by_made c line v w None None fv fw ev ew = tt
values_by_made c line v w (Some j) (Some k) fv fw ev ew = tt

indexed_by_made : (c : Around) (line : ℕ) (x y : Operand) (m n : Option ℕ) → OperandFits c x → OperandFits c y → array_count x ≡ m → array_count y ≡ n
    → Made c (indexed_by c.sizes line x y m n)
indexed_by_made c line (object p is_const) y (Some n) second fx fy ex ey =
    after_holds (IndexFits c) (OperandFits c) (index_value line y) _ (index_fits c line y fy) (λ i fi. element_fits c line n p is_const i fx ex fi)
indexed_by_made c line (value v is_constant) y (Some n) second fx fy ex ey = absurd cc
indexed_by_made c line x (object p is_const) None (Some n) fx fy ex ey =
    after_holds (IndexFits c) (OperandFits c) (index_value line x) _ (index_fits c line x fx) (λ i fi. swapped_fits c line n p is_const i fy ey fi)
indexed_by_made c line x (value v is_constant) None (Some n) fx fy ex ey = absurd cc
indexed_by_made c line x y None None fx fy ex ey =
    after_holds (RvalueFits c) (OperandFits c) (valued line x) _ (valued_fits c line x fx) (λ v fv.
    after_holds (RvalueFits c) (OperandFits c) (valued line y) _ (valued_fits c line y fy) (λ w fw. values_by_made c line v w _ _ fv fw refl refl))

pub indexed_made : (c : Around) (line : ℕ) (x y : Operand) → OperandFits c x → OperandFits c y → Made c (indexed c.sizes line x y)
unfolding indexed
indexed_made c line x y fx fy = indexed_by_made c line x y _ _ fx fy refl refl

-- ---- `.`

-- what is found as a field of a struct is declared as one
abbrev pub AreDeclared : Around → (ℕ → Option Field) → Type 0
AreDeclared c fields = (n : ℕ) (f : Field) (from : Resolved) → struct_of from.ty ≡ Some n → fields n ≡ Some f
    → IsField c f.number f.offset from (object_of f.ty (from.is_const || f.is_const))

member_by_made : (c : Around) (line : ℕ) (fields : ℕ → Option Field) (p : Place) (is_const : Bool) (n : ℕ) (f : Option Field) → AreDeclared c fields
    → OperandFits c (object p is_const)
    → struct_of p.type ≡ Some n → fields n ≡ f → Made c (member_by line (object p is_const) f)
member_by_made c line fields p is_const n None declared fits e h = tt
member_by_made c line fields p is_const n (Some f) declared fits e h =
    let r = fits.1 in (
      fits.0,
      record {
        first = r.first;
        begins = r.begins;
        leads = one_more c _ p.path.steps _ r.first (object_of p.type is_const) _ r.leads (declared n f (object_of p.type is_const) e h);
      },
    )

member_in_made : (c : Around) (line : ℕ) (fields : ℕ → Option Field) (p : Place) (is_const : Bool) (n : Option ℕ) → AreDeclared c fields
    → OperandFits c (object p is_const)
    → struct_of p.type ≡ n → Made c (member_in line fields (object p is_const) n)
member_in_made c line fields p is_const None declared fits e = tt
member_in_made c line fields p is_const (Some n) declared fits e = member_by_made c line fields p is_const n _ declared fits e refl

pub member_made : (c : Around) (line : ℕ) (fields : ℕ → Option Field) (x : Operand) → AreDeclared c fields → OperandFits c x → Made c (member line fields x)
unfolding member
member_made c line fields (object p is_const) declared fits = member_in_made c line fields p is_const _ declared fits refl
member_made c line fields (value v is_constant) declared fits = tt
