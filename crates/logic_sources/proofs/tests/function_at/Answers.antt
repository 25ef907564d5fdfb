use Rattle.std.proofs.Common.{sym, ap, ◌∙◌}
use Rattle.std.specs.Option.{option_map}
use Rattle.checked_trees.specs.View.{view_checked_function}
use Rattle.logic_sources.proofs.Found.{here, missing, borrowed}
use Rattle.logic_sources.proofs.tests.function_at.Goals as goal

pub returns-in-Some : goal.returns-in-Some
returns-in-Some c =
    borrowed view_checked_function c.as_ref.result ∙ ap (option_map view_checked_function) c.as_ref.ensures.value
    ∙ sym (here view_checked_function c.args.functions.now c.args.number c.in-Some.found.now c.in-Some.ensures.lookup.3.0 c.in-Some.ensures.lookup.1)

pub returns-in-None : goal.returns-in-None
returns-in-None c = sym (missing view_checked_function c.args.functions.now c.args.number c.in-None.ensures.lookup.3)
