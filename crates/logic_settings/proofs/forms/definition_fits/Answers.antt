use Rattle.std.proofs.Common.{◌≡◌, Bool}
use Rattle.acsl_expand.specs.Expansion.{view_meant}
use Rattle.acsl_trees.specs.Tree.{view_tree}
use Rattle.program_trees.specs.View.{view_facts}
use Rattle.qed_linear.proofs.Places.{if_ok}
use Rattle.logic_calls.specs.View.{view_names}
use Rattle.logic_order.specs.Order.{is_function, definition_fits, told_as}
use Rattle.logic_settings.proofs.Forming.{definition_so}
use Rattle.logic_settings.proofs.forms.definition_fits.Goals as goal

pub returns : goal.returns
returns c =
    let p = view_facts c.args.facts.now in
    let names = view_names c.args.names.now in
    let told = told_as p names c.args.number in
    let P : Bool → Type 0 = λ b. b ≡ is_function p c.in_ok-place.place told (view_tree c.args.meant.now.body) in
    let Q : Bool → Type 0 = λ b. b ≡ definition_fits p names c.args.number (view_meant c.args.meant.now) in
    if_ok c.told_fits.result P Q (λ b e. definition_so p names c.args.number c.args.meant.now c.in_ok-place.place b c.if-not-meant.false c.in_ok-place.ensures e)
    (c.told_fits.ensures told c.in_ok-found.ensures)
