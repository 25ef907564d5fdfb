use Rattle.std.proofs.Common.{map, sym, ap, ◌∙◌}
use Rattle.wp_base.specs.declared.kinds.CellKind.{CellKind}
use Rattle.acsl_encode.specs.Readings.{Global}
use Rattle.acsl_encode.specs.Told as told
use Rattle.acsl_expand.specs.Expansion.{view_all}
use Rattle.annotation_words.specs.View.{view_global, view_named}
use Rattle.logic_calls.specs.Told as spec
use Rattle.logic_calls.specs.View.{view_spelling}
use Rattle.logic_trees.specs.declared.questions.Asked.TheVariants as asking
use Rattle.logic_calls.proofs.Those.{mapped_length, told_made}
use Rattle.logic_calls.proofs.calls.called_as.Goals as goal

pub returns : goal.returns
returns c =
    let gs = map view_global c.args.globals.now in
    let ds = view_all c.args.definitions.now in
    let many = sym (mapped_length view_global c.args.globals.now) in
    let cells = c.in_ok-memories.ensures ∙ (λ i. told.those (λ (k : CellKind). spec.reads_at (many i) ds c.args.function (asking.Cell k)) told.every_cell) in
    let globals = c.in_ok-globals.ensures
    ∙ (λ i. told.those (λ (g : Global). spec.reads_at (many i) ds c.args.function (asking.Variable (told.number_of g))) gs) in
    told_made (view_spelling c.args.spelling.now) gs ds c.args.function _ _ _ _ c.in_ok-name.ensures
    (ap (map view_named) (c.in_ok-params.ensures ∙ c.as_slice.ensures)) cells globals
