-- Operands of an operator, by their numbers.
use Rattle.std.proofs.Common.{◌≡◌, ℕ, ◌<◌, ◌≤◌, Bool, true, false, ◌&&◌, List, [], ◌∷◌, length, get_or, Option, Some, None, is_some, is_none, refl, sym, ap, ◌∙◌}
use Rattle.std.specs.Prelude.{slice_get}
use Rattle.std.proofs.lemmas.Option.{slice_get_read, slice_get_past}
use Rattle.typed_prog.specs.declared.operators.Op.{Op}
use Rattle.typed_prog.specs.declared.operators.Op.TheVariants as op
use Rattle.typed_prog.specs.declared.tree.Value.{Value}
use Rattle.typed_prog.specs.declared.tree.ValueNode.TheVariants as value
use Rattle.typed_prog.specs.Tree as t
use Rattle.typed_prog.specs.View.{view_value, view_values, view_value_node}
use Rattle.typed_prog.proofs.Equations.{view_value_node-Apply}
use Rattle.c_operands.specs.Conversions.{number_of}
use Rattle.c_decls.specs.Constants.{is_address, is_address_node}
use Rattle.c_decls.specs.Reaching.{is_address_there, beside_number, reached, is_address_alone, is_address_moved, is_address_applied}
use Rattle.c_decls.specs.declared.constants.Reach.{Reach}
use Rattle.c_decls.specs.declared.constants.Reach.TheVariants as reach

-- ---- one operand

pub not_alone : (or_null : Bool) (vs : List Value) → (length vs ≡ 1 → ⊥) → false ≡ is_address_alone or_null (t.values_of (view_values vs))
not_alone or_null [] other = refl
not_alone or_null (v ∷ []) other = absurd (other refl)
not_alone or_null (v ∷ w ∷ vs) other = refl

pub alone_there : (or_null : Bool) (vs : List Value) → length vs ≡ 1 → is_address_there or_null (slice_get vs 0) ≡ is_address_alone or_null (t.values_of (view_values vs))
alone_there or_null [] single = cc
alone_there or_null (v ∷ []) single = refl
alone_there or_null (v ∷ w ∷ vs) single = cc

pub ruleset alone_laws = (not_alone, alone_there)

-- ---- two operands

pub not_two : (index_first : Bool) (vs : List Value) → (length vs ≡ 2 → ⊥) → false ≡ is_address_moved index_first (t.values_of (view_values vs))
not_two index_first [] other = refl
not_two index_first (v ∷ []) other = refl
not_two index_first (v ∷ w ∷ []) other = absurd (other refl)
not_two index_first (v ∷ w ∷ u ∷ vs) other = refl

behind_it : (vs : List Value) → length vs ≡ 2 → beside_number (slice_get vs 1) (slice_get vs 0) ≡ is_address_moved false (t.values_of (view_values vs))
behind_it [] two = cc
behind_it (v ∷ []) two = cc
behind_it (v ∷ w ∷ []) two = refl
behind_it (v ∷ w ∷ u ∷ vs) two = cc

before_it : (vs : List Value) → length vs ≡ 2 → beside_number (slice_get vs 0) (slice_get vs 1) ≡ is_address_moved true (t.values_of (view_values vs))
before_it [] two = cc
before_it (v ∷ []) two = cc
before_it (v ∷ w ∷ []) two = refl
before_it (v ∷ w ∷ u ∷ vs) two = cc

pub index_behind : (index_first : Bool) (vs : List Value) (whole : Bool) → index_first ≡ false → length vs ≡ 2 → whole ≡ beside_number (slice_get vs 1) (slice_get vs 0)
    → whole ≡ is_address_moved index_first (t.values_of (view_values vs))
index_behind index_first vs whole is two made = made ∙ behind_it vs two ∙ sym (ap (λ b. is_address_moved b (t.values_of (view_values vs))) is)

pub index_before : (index_first : Bool) (vs : List Value) (whole : Bool) → index_first ≡ true → length vs ≡ 2 → whole ≡ beside_number (slice_get vs 0) (slice_get vs 1)
    → whole ≡ is_address_moved index_first (t.values_of (view_values vs))
index_before index_first vs whole is two made = made ∙ before_it vs two ∙ sym (ap (λ b. is_address_moved b (t.values_of (view_values vs))) is)

pub ruleset moved_laws = (not_two, index_behind, index_before)

-- ---- a number beside

none_is_some : {X : Type 0} (o : Option X) → is_none o ≡ true → is_some o ≡ false
none_is_some None h = refl
none_is_some (Some x) h = cc

some_is_some : {X : Type 0} (o : Option X) → is_none o ≡ false → is_some o ≡ true
some_is_some None h = cc
some_is_some (Some x) h = refl

pub no_number : (vs : List Value) (i p : ℕ) (v : Value) → i < length vs → v ≡ get_or vs i v → is_none (number_of (view_value v)) ≡ true → false ≡ beside_number (slice_get vs i) (slice_get vs p)
no_number vs i p v in_list is none =
    sym (ap (λ o. beside_number o (slice_get vs p)) (slice_get_read vs (length vs) i v refl in_list is) ∙ ap (λ b. b && is_address_there false (slice_get vs p)) (none_is_some (number_of (view_value v)) none))

pub a_number : (vs : List Value) (i p : ℕ) (v : Value) → i < length vs → v ≡ get_or vs i v → is_none (number_of (view_value v)) ≡ false → is_address_there false (slice_get vs p) ≡ beside_number (slice_get vs i) (slice_get vs p)
a_number vs i p v in_list is some =
    sym (ap (λ o. beside_number o (slice_get vs p)) (slice_get_read vs (length vs) i v refl in_list is) ∙ ap (λ b. b && is_address_there false (slice_get vs p)) (some_is_some (number_of (view_value v)) some))

pub ruleset number_laws = (no_number, a_number)

-- ---- down to an operand

moved_node : (or_null minus index_first accessed : Bool) (size : ℕ) (vs : t.Values) → is_address_node or_null (t.apply (op.Offset minus index_first size accessed) vs) ≡ is_address_moved index_first vs
moved_node or_null minus false accessed size t.stop = refl
moved_node or_null minus false accessed size (t.more v t.stop) = refl
moved_node or_null minus false accessed size (t.more v (t.more w t.stop)) = refl
moved_node or_null minus false accessed size (t.more v (t.more w (t.more u vs))) = refl
moved_node or_null minus true accessed size t.stop = refl
moved_node or_null minus true accessed size (t.more v t.stop) = refl
moved_node or_null minus true accessed size (t.more v (t.more w t.stop)) = refl
moved_node or_null minus true accessed size (t.more v (t.more w (t.more u vs))) = refl

alone_node : (or_null : Bool) (vs : t.Values) → is_address_node or_null (t.apply op.Requalify vs) ≡ is_address_alone or_null vs
alone_node or_null t.stop = refl
alone_node or_null (t.more v t.stop) = refl
alone_node or_null (t.more v (t.more w vs)) = refl

-- what an operator makes of its operands
pub applied_node : (or_null : Bool) (o : Op) (vs : t.Values) → is_address_node or_null (t.apply o vs) ≡ is_address_applied or_null o vs
applied_node or_null (op.Address path accessed) vs = refl
applied_node or_null (op.Decay path accessed) vs = refl
applied_node or_null op.Requalify vs = alone_node or_null vs
applied_node or_null (op.Offset minus index_first size accessed) vs = moved_node or_null minus index_first accessed size vs
applied_node or_null (op.Read path) vs = refl
applied_node or_null op.Negate vs = refl
applied_node or_null op.Complement vs = refl
applied_node or_null op.Not vs = refl
applied_node or_null (op.Arithmetic how) vs = refl
applied_node or_null (op.Compare how) vs = refl
applied_node or_null (op.ComparePointers how) vs = refl
applied_node or_null (op.Difference size) vs = refl
applied_node or_null op.Convert vs = refl
applied_node or_null op.Cast vs = refl

at_node : (or_null : Bool) (x : Value) (o : Op) (vs : List Value) → x.node ≡ value.Apply o vs → is_address or_null (view_value x) ≡ is_address_applied or_null o (t.values_of (view_values vs))
at_node or_null x o vs is = ap (λ n. is_address_node or_null (view_value_node n)) is ∙ ap (is_address_node or_null) (view_value_node-Apply o vs) ∙ applied_node or_null o (t.values_of (view_values vs))

pub known_there : (or_null : Bool) (x : Value) (o : Op) (vs : List Value) (r : Reach) (answer whole : Bool) → x.node ≡ value.Apply o vs → reached vs r ≡ is_address_applied or_null o (t.values_of (view_values vs)) → r ≡ reach.Known answer
    → is_address or_null (view_value x) ≡ whole → answer ≡ whole
known_there or_null x o vs r answer whole is given known so_far = sym (ap (reached vs) known) ∙ given ∙ sym (at_node or_null x o vs is) ∙ so_far

pub operand_there : (or_null with_null : Bool) (x : Value) (o : Op) (vs : List Value) (r : Reach) (n : ℕ) (v : Value) (whole : Bool) → x.node ≡ value.Apply o vs
    → reached vs r ≡ is_address_applied or_null o (t.values_of (view_values vs)) → r ≡ reach.Operand with_null n → n < length vs → v ≡ get_or vs n v → is_address or_null (view_value x) ≡ whole → is_address with_null (view_value v) ≡ whole
operand_there or_null with_null x o vs r n v whole is given goes in_list read so_far =
    sym (ap (is_address_there with_null) (slice_get_read vs (length vs) n v refl in_list read)) ∙ sym (ap (reached vs) goes) ∙ given ∙ sym (at_node or_null x o vs is) ∙ so_far

pub operand_past : (or_null with_null : Bool) (x : Value) (o : Op) (vs : List Value) (r : Reach) (n : ℕ) (whole : Bool) → x.node ≡ value.Apply o vs
    → reached vs r ≡ is_address_applied or_null o (t.values_of (view_values vs)) → r ≡ reach.Operand with_null n → length vs ≤ n → is_address or_null (view_value x) ≡ whole → false ≡ whole
operand_past or_null with_null x o vs r n whole is given goes past so_far =
    sym (ap (is_address_there with_null) (slice_get_past vs n past)) ∙ sym (ap (reached vs) goes) ∙ given ∙ sym (at_node or_null x o vs is) ∙ so_far

pub ruleset reach_laws = (known_there, operand_there, operand_past)
