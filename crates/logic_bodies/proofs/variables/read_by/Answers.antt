use Rattle.std.proofs.Common.{◌≡◌, ℕ, sym, subst}
use Rattle.std.specs.Prelude.{Option, IfOk}
use Rattle.acsl_trees.specs.declared.heads.Content.{Content}
use Rattle.acsl_trees.specs.declared.heads.Content.TheVariants as content
use Rattle.annotation_heads.specs.View.{view_terms}
use Rattle.logic_bodies.specs.Bodies as spec
use Rattle.logic_bodies.specs.View.{reading_in}
use Rattle.logic_bodies.proofs.variables.read_by.Goals as goal

pub returns-in-Some : goal.returns-in-Some
returns-in-Some c =
    let P : Content → Option ℕ → Type 0 = λ ct o. IfOk c.variable_read.result (λ terms. view_terms terms ≡ spec.read_by (reading_in c.args.reading) ct o) in
    let at_variable = subst (λ o. P (content.Integer c.in-Integer.field-0) o) (sym c.in-Some.is) (c.variable_read.ensures c.in-Integer.field-0) in
    subst (λ ct. P ct c.args.variable) (sym c.in-Integer.is) at_variable
