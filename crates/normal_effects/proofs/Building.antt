-- Expressions that are built.
use Rattle.std.proofs.Common.{◌≡◌, ℕ, List, ◌∷◌, ap, ◌∙◌}
use Rattle.typed_prog.specs.declared.types.CoreType.{CoreType}
use Rattle.typed_prog.specs.declared.operators.Path.{Path}
use Rattle.typed_prog.specs.declared.operators.Change.{Change}
use Rattle.typed_prog.specs.declared.tree.Value.{Value}
use Rattle.typed_prog.specs.Tree as t
use Rattle.typed_prog.specs.View.{view_value, view_values}
use Rattle.c_runs.specs.Effects.{changed}
use Rattle.c_runs.specs.Run.{old_value, first_operand, other_operands, updating}

pub updated_is : (path : Path) (by : Change) (type : CoreType) (l : ℕ) (es : t.Values) (others way way' made : List Value) (old first value : Value) → t.values_of (view_values others) ≡ other_operands es → way ≡ others
    → view_value old ≡ old_value path type l (t.values_of (view_values way)) → view_value first ≡ first_operand es → view_value value ≡ changed by type l (view_value old) (view_value first) → way' ≡ others → made ≡ value ∷ way'
    → t.values_of (view_values made) ≡ updating path by type l es
updated_is path by type l es others way way' made old first value o w p f v w' m =
    let as_others : (ys : List Value) → ys ≡ others → t.values_of (view_values ys) ≡ other_operands es = λ ys e. ap (λ zs. t.values_of (view_values zs)) e ∙ o in
    let old_is : view_value old ≡ old_value path type l (other_operands es) = p ∙ ap (old_value path type l) (as_others way w) in
    let value_is : view_value value ≡ changed by type l (old_value path type l (other_operands es)) (first_operand es) =
    v ∙ ap (λ x. changed by type l x (view_value first)) old_is ∙ ap (changed by type l (old_value path type l (other_operands es))) f in
    ap (λ zs. t.values_of (view_values zs)) m ∙ ap (λ x. t.more x (t.values_of (view_values way'))) value_is
    ∙ ap (t.more (changed by type l (old_value path type l (other_operands es)) (first_operand es))) (as_others way' w')
