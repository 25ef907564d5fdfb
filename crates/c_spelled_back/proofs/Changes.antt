-- Assignments and increments spell what they are made of.
use Rattle.std.proofs.Common.{◌≡◌, ℕ, pos, Bool, true, false, not, List, Option, Some, None, refl, sym, ap, ◌∙◌}
use Rattle.wp_base.specs.declared.kinds.Kind.{Kind}
use Rattle.wp_base.specs.declared.kinds.Kind.TheVariants as kind
use Rattle.c_syntax.specs.declared.expr.BinOp.{BinOp}
use Rattle.c_syntax.specs.declared.expr.BinOp.TheVariants as bin
use Rattle.c_syntax.specs.Expr as e
use Rattle.c_kinds.specs.declared.models.Machdep.{Machdep}
use Rattle.c_kinds.specs.declared.models.Machdep.TheVariants as model
use Rattle.c_kinds.specs.Models.{convert}
use Rattle.typed_prog.specs.declared.operators.Arithmetic.{Arithmetic}
use Rattle.typed_prog.specs.declared.operators.Arithmetic.TheVariants as ar
use Rattle.typed_prog.specs.declared.operators.Change.{Change}
use Rattle.typed_prog.specs.declared.operators.Change.TheVariants as change
use Rattle.typed_prog.specs.declared.operators.Effect.TheVariants as effect
use Rattle.typed_prog.specs.declared.operators.UpdateForm.{UpdateForm}
use Rattle.typed_prog.specs.declared.operators.UpdateForm.TheVariants as form
use Rattle.typed_prog.specs.Types.{kind_of}
use Rattle.typed_prog.specs.Tree as t
use Rattle.c_answers.specs.Answers.{Answer, after}
use Rattle.c_operands.specs.Operands.{Operand, object, value, Place, Rvalue}
use Rattle.c_operands.specs.Conversions.{number, number_of, converted, kind_of_value, assignable}
use Rattle.c_rules.specs.Pointers.{stride}
use Rattle.c_rules.specs.Operators.{is_scalar}
use Rattle.c_places.specs.Changes.{changed, modifiable_by, modifiable, assigned, arithmetic_of, is_shift, computed_in, operand_in, moves, pointer_update_by, updated_by, updated, compound_by, compound, step_operator, step_form, stepped}
use Rattle.c_exprs.specs.Typing.{Around, assign}
use Rattle.c_spelled_back.specs.Constants.{itself}
use Rattle.c_spelled_back.specs.Spelled.{computed, moving, ValueSpells, PlaceSpells, OperandSpells}
use Rattle.c_spelled_back.specs.Spelled as spec
use Rattle.c_spelled_back.proofs.Parts.{Holds, after_holds, Made, never}
use Rattle.c_spelled_back.proofs.Values.{after_valued, converted_spells, assignable_spells}

-- ---- which objects may be changed

modifiable_by_spells : (c : Around) (a : e.Expr) (line : ℕ) (p : Place) (is_const is : Bool) → PlaceSpells c p a
    → Holds (λ q. PlaceSpells c q a) (modifiable_by line p is_const is)
modifiable_by_spells c a line p false true fits = fits
modifiable_by_spells c a line p true is fits = tt
modifiable_by_spells c a line p false false fits = tt

modifiable_spells : (c : Around) (a : e.Expr) (line : ℕ) (x : Operand) → OperandSpells c x a → Holds (λ q. PlaceSpells c q a) (modifiable line x)
unfolding modifiable
modifiable_spells c a line (object p k) fits = modifiable_by_spells c a line p k (is_scalar p.type) fits
modifiable_spells c a line (value v k) fits = tt

after_modifiable : (c : Around) (a x : e.Expr) (line : ℕ) (o : Operand) (f : Place → Answer Operand) → OperandSpells c o a
    → ((p : Place) → PlaceSpells c p a → Made c x (f p))
    → Made c x (after (modifiable line o) f)
after_modifiable c a x line o f fits more =
    after_holds (λ q. PlaceSpells c q a) (λ y. OperandSpells c y x) (modifiable line o) f (modifiable_spells c a line o fits) more

-- ---- `=`

assigned_made : (c : Around) (a b : e.Expr) (m : Machdep) (line : ℕ) (x y : Operand) → OperandSpells c x a → OperandSpells c y b
    → Made c (e.assign line None a b) (assigned m line x y)
unfolding assigned
assigned_made c a b m line x y fx fy =
    after_modifiable c a _ line x _ fx (λ p fp. after_valued c b _ line y _ fy (λ v fv.
    after_holds (λ w. ValueSpells c w b) (λ o. OperandSpells c o (e.assign line None a b)) (assignable m line p.type v.value) _
    (assignable_spells c b m line p.type v.value fv.0)
    (λ w fw. ((_, itself _, refl, (b, fp.0, a, (fw, fp.1), fp.2, refl)), λ h. never h))))

-- ---- updates

-- the operator of a compound assignment is spelled before the `=`
spelled_before : (o : BinOp) (how : Arithmetic) → arithmetic_of o ≡ Some how → o ≡ spec.arithmetic how
spelled_before bin.Mul how h = let is : ar.Mul ≡ how = cc in ap spec.arithmetic is
spelled_before bin.Div how h = let is : ar.Div ≡ how = cc in ap spec.arithmetic is
spelled_before bin.Rem how h = let is : ar.Rem ≡ how = cc in ap spec.arithmetic is
spelled_before bin.Add how h = let is : ar.Add ≡ how = cc in ap spec.arithmetic is
spelled_before bin.Sub how h = let is : ar.Sub ≡ how = cc in ap spec.arithmetic is
spelled_before bin.Shl how h = let is : ar.Shl ≡ how = cc in ap spec.arithmetic is
spelled_before bin.Shr how h = let is : ar.Shr ≡ how = cc in ap spec.arithmetic is
spelled_before bin.BitAnd how h = let is : ar.And ≡ how = cc in ap spec.arithmetic is
spelled_before bin.BitXor how h = let is : ar.Xor ≡ how = cc in ap spec.arithmetic is
spelled_before bin.BitOr how h = let is : ar.Or ≡ how = cc in ap spec.arithmetic is
spelled_before bin.Less how h = cc
spelled_before bin.AtMost how h = cc
spelled_before bin.Greater how h = cc
spelled_before bin.AtLeast how h = cc
spelled_before bin.Equal how h = cc
spelled_before bin.NotEqual how h = cc
spelled_before bin.And how h = cc
spelled_before bin.Or how h = cc

moves_by : (o : Arithmetic) (minus : Bool) → moves o ≡ Some minus → moving minus ≡ o
moves_by ar.Add minus h = let is : false ≡ minus = cc in sym (ap moving is)
moves_by ar.Sub minus h = let is : true ≡ minus = cc in sym (ap moving is)
moves_by ar.Mul minus h = cc
moves_by ar.Div minus h = cc
moves_by ar.Rem minus h = cc
moves_by ar.Shl minus h = cc
moves_by ar.Shr minus h = cc
moves_by ar.And minus h = cc
moves_by ar.Xor minus h = cc
moves_by ar.Or minus h = cc

-- what an update of the place spells, where a change that computes the operator does it with an operand of this sort
abbrev Updates : Around → e.Expr → (line : ℕ) → Arithmetic → UpdateForm → Place → (Sort : t.Value → Type 0) → Type 0
Updates c x line o how p Sort = (by : Change) (w : t.Value) → computed by ≡ o → Sort w → OperandSpells c (changed (effect.Update p.path by how) p w line) x

pointer_made : (c : Around) (x : e.Expr) (line : ℕ) (o : Arithmetic) (how : UpdateForm) (p : Place) (v : t.Value) (Sort : t.Value → Type 0)
    (minus : Option Bool) (size : Option ℕ)
    → moves o ≡ minus → Updates c x line o how p Sort → Sort v → Made c x (pointer_update_by line how p v minus size)
pointer_made c x line o how p v Sort (Some minus) (Some size) is node sort = node (change.Pointer minus size) v (moves_by o minus is) sort
pointer_made c x line o how p v Sort (Some minus) None is node sort = tt
pointer_made c x line o how p v Sort None size is node sort = tt

updated_by_made : (c : Around) (x : e.Expr) (m : Machdep) (sizes : List ℕ) (line : ℕ) (o : Arithmetic) (how : UpdateForm) (p : Place) (v : t.Value)
    (Sort : t.Value → Type 0) (j k : Option Kind)
    → Updates c x line o how p Sort → Sort v → ((l : Kind) → Sort (converted m l v)) → Made c x (updated_by m sizes line o how p v j k)
updated_by_made c x m sizes line o how p v Sort (Some j) (Some k) node sort converts =
    node (change.Integer o (computed_in m (is_shift o) j k)) (converted m (operand_in m (is_shift o) j k) v) refl (converts (operand_in m (is_shift o) j k))
updated_by_made c x m sizes line o how p v Sort None (Some k) node sort converts =
    pointer_made c x line o how p v Sort (moves o) (stride sizes p.type) refl node sort
updated_by_made c x m sizes line o how p v Sort (Some j) None node sort converts = tt
updated_by_made c x m sizes line o how p v Sort None None node sort converts = tt

updated_made : (c : Around) (x : e.Expr) (m : Machdep) (sizes : List ℕ) (line : ℕ) (o : Arithmetic) (how : UpdateForm) (p : Place) (v : t.Value)
    (Sort : t.Value → Type 0)
    → Updates c x line o how p Sort → Sort v → ((l : Kind) → Sort (converted m l v)) → Made c x (updated m sizes line o how p v)
unfolding updated
updated_made c x m sizes line o how p v Sort node sort converts =
    updated_by_made c x m sizes line o how p v Sort (kind_of p.type) (kind_of_value v) node sort converts

compound_updates : (c : Around) (a b : e.Expr) (line : ℕ) (o : BinOp) (how : Arithmetic) (p : Place) → o ≡ spec.arithmetic how → PlaceSpells c p a
    → Updates c (e.assign line (Some o) a b) line how form.Compound p (λ w. ValueSpells c w b)
compound_updates c a b line o how p spelled fits by w is fw = (
  (
    e.assign line (Some o) a b,
    itself _,
    refl,
    (b, fits.0, a, (fw, fits.1), fits.2, ap (λ q. e.assign line (Some q) a b) (spelled ∙ ap spec.arithmetic (sym is))),
  ),
  λ h. never h,
)

compound_by_made : (c : Around) (a b : e.Expr) (m : Machdep) (sizes : List ℕ) (line : ℕ) (o : BinOp) (how : Option Arithmetic) (p : Place) (v : Rvalue)
    → arithmetic_of o ≡ how
    → PlaceSpells c p a → ValueSpells c v.value b → Made c (e.assign line (Some o) a b) (compound_by m sizes line how p v)
compound_by_made c a b m sizes line o None p v is fp fv = tt
compound_by_made c a b m sizes line o (Some how) p v is fp fv =
    updated_made c (e.assign line (Some o) a b) m sizes line how form.Compound p v.value (λ w. ValueSpells c w b)
    (compound_updates c a b line o how p (spelled_before o how is) fp) fv
    (λ l. converted_spells c b m l v.value fv)

compound_made : (c : Around) (a b : e.Expr) (m : Machdep) (sizes : List ℕ) (line : ℕ) (o : BinOp) (x y : Operand) → OperandSpells c x a → OperandSpells c y b
    → Made c (e.assign line (Some o) a b) (compound m sizes line o x y)
unfolding compound
compound_made c a b m sizes line o x y fx fy =
    after_modifiable c a _ line x _ fx
    (λ p fp. after_valued c b _ line y _ fy (λ v fv. compound_by_made c a b m sizes line o (arithmetic_of o) p v refl fp fv.0))

pub assign_made : (c : Around) (a b : e.Expr) (m : Machdep) (sizes : List ℕ) (line : ℕ) (o : Option BinOp) (x y : Operand) → OperandSpells c x a
    → OperandSpells c y b
    → Made c (e.assign line o a b) (assign m sizes line o x y)
unfolding assign
assign_made c a b m sizes line None x y fx fy = assigned_made c a b m line x y fx fy
assign_made c a b m sizes line (Some o) x y fx fy = compound_made c a b m sizes line o x y fx fy

-- ---- `++` and `--`

-- every kind has the number 1
one_stays : (m : Machdep) (k : Kind) → convert m k (pos 1) ≡ pos 1
one_stays model.X86_32 kind.Bool = refl
one_stays model.X86_32 _ = refl
one_stays model.X86_64 kind.Bool = refl
one_stays model.X86_64 _ = refl

one : (line : ℕ) → number_of (number kind.Int (pos 1) line) ≡ Some (pos 1)
unfolding number
one line = refl

one_converted : (m : Machdep) (line : ℕ) (k : Kind) → number_of (converted m k (number kind.Int (pos 1) line)) ≡ Some (pos 1)
unfolding converted number
one_converted m line k = ap Some (one_stays m k)

up_or_down : (up : Bool) → step_operator up ≡ moving (not up)
up_or_down true = refl
up_or_down false = refl

step_updates : (c : Around) (a : e.Expr) (line : ℕ) (up prefix : Bool) (p : Place) → PlaceSpells c p a
    → Updates c (e.step line up prefix a) line (step_operator up) (step_form prefix) p (λ w. number_of w ≡ Some (pos 1))
step_updates c a line up true p fits by w is is_one =
    ((e.step line up true a, itself _, refl, (up, fits.0, a, (is_one, fits.1), fits.2, is ∙ up_or_down up, refl)), λ h. never h)
step_updates c a line up false p fits by w is is_one =
    ((e.step line up false a, itself _, refl, (up, fits.0, a, (is_one, fits.1), fits.2, is ∙ up_or_down up, refl)), λ h. never h)

pub stepped_made : (c : Around) (a : e.Expr) (m : Machdep) (sizes : List ℕ) (line : ℕ) (up prefix : Bool) (x : Operand) → OperandSpells c x a
    → Made c (e.step line up prefix a) (stepped m sizes line up prefix x)
unfolding stepped
stepped_made c a m sizes line up prefix x fits =
    after_modifiable c a _ line x _ fits (λ p fp.
    updated_made c (e.step line up prefix a) m sizes line (step_operator up) (step_form prefix) p (number kind.Int (pos 1) line)
    (λ w. number_of w ≡ Some (pos 1))
    (step_updates c a line up prefix p fp) (one line) (λ l. one_converted m line l))
