use Rattle.std.proofs.Common.{◌≡◌, map, sym, ap, ◌∙◌}
use Rattle.std.specs.Prelude.{Some, slice_get, option_map}
use Rattle.std.specs.Option.{option_copied}
use Rattle.std.proofs.lemmas.Option.{slice_get-map}
use Rattle.acsl_expand.specs.Expansion.{view_all}
use Rattle.program_trees.specs.View.{view_facts}
use Rattle.logic_calls.specs.Told.{told_with}
use Rattle.logic_calls.specs.View.{view_names, view_spelling}
use Rattle.logic_calls.proofs.Those.{told_same}
use Rattle.logic_calls.proofs.calls.told.Goals as goal

pub returns : goal.returns
returns c =
    let own = c.in-Some.spelling.now in
    let found : Some own ≡ slice_get c.args.names.now.functions c.args.number = sym (ap option_copied c.in-Some.is) ∙ c.get.ensures in
    let spelled : slice_get (map view_spelling c.args.names.now.functions) c.args.number ≡ Some (view_spelling own) =
    slice_get-map view_spelling c.args.names.now.functions c.args.number ∙ ap (option_map view_spelling) (sym found) in
    c.in_ok-called.ensures
    ∙ (λ i. told_with (view_spelling own) (c.requires.globals_ i) (view_all (c.as_slice.ensures i)) c.args.number)
    ∙ told_same (view_facts c.args.facts.now) (view_names c.args.names.now) c.args.number (view_spelling own) spelled
