use Rattle.std.proofs.Common.{◌∙◌}
use Rattle.c_syntax.specs.View.{view_function}
use Rattle.typed_unit.specs.View.{view_part}
use Rattle.c_functions.specs.View.{view_functions}
use Rattle.c_functions.proofs.Parts.{function_is}
use Rattle.c_functions.proofs.functions.declare_function.Goals as goal

pub returns : goal.returns
returns c =
    function_is (λ _. (c.finished.new.context, view_functions c.finished.new.so_far)) c.finished.result c.args.context.now c.header.new.context (view_functions c.args.so_far.now) c.args.bodied.now c.args.taken
    (view_function c.args.function.now) (view_part c.in_ok-part.part) c.in_ok-names.names c.in_ok-tags.tags c.in_ok-header.ensures c.in_ok-part.ensures (c.in_ok-names.ensures ∙ c.len.ensures)
    (c.in_ok-tags.ensures ∙ c.len-2.ensures) c.finished.ensures
