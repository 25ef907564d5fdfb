use Rattle.std.proofs.Common.{rules, ◌≡◌, map}
use Rattle.std.specs.Option.{is_some}
use Rattle.acsl_annotated.specs.Annotated.{meant_from}
use Rattle.acsl_expand.specs.Expansion.{view_all}
use Rattle.acsl_typing.specs.Annotations.{view_annotation, view_annotations}
use Rattle.core_trees.specs.View.{view_variables}
use Rattle.c_programs.specs.Files.{variables_from, cells_in}
use Rattle.typed_unit.specs.View.{view_inits, view_typed}
use Rattle.made_programs.proofs.Joining.{facts_are}
use Rattle.made_programs.proofs.programs.facts_of.Goals as goal

pub returns : goal.returns
returns c =
    let t = c.args.typed.now in
    let a = c.args.annotations.now in
    let values : c.in_ok-valued.valued ≡ map is_some (view_inits t.inits) = search rules in
    let globals : view_variables c.in_ok-globals.globals ≡ variables_from t.file.structs t.plain c.in_ok-valued.valued 0 t.file.globals = search rules in
    let structs : c.in_ok-cells.cells ≡ map cells_in t.file.structs = search rules in
    let definitions : view_all c.in_ok-definitions.definitions ≡ meant_from a.definitions.items 0 (map view_annotation a.items) = search rules in
    facts_are (view_typed t) (view_annotations a) c.args.functions.now c.in_ok-valued.valued c.in_ok-globals.globals c.in_ok-cells.cells c.in_ok-definitions.definitions c.in_ok-clusters.clusters
    values globals structs definitions c.requires c.in_ok-clusters.ensures
