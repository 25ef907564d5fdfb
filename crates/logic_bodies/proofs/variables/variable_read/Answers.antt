use Rattle.std.proofs.Common.{map, sym, ap, ◌∙◌}
use Rattle.std.specs.Prelude.{option_map}
use Rattle.annotation_heads.specs.View.{view_terms}
use Rattle.annotation_words.specs.View.{view_global}
use Rattle.logic_bodies.specs.View.{lent_global}
use Rattle.logic_bodies.proofs.Naming.{held_there, held_nowhere}
use Rattle.logic_bodies.proofs.variables.variable_read.Goals as goal

pub returns-in_default : goal.returns-in_default
returns-in_default c = held_nowhere (map view_global c.args.globals.now) c.args.number (sym (ap (option_map lent_global) c.in_default.is) ∙ c.global_at.ensures)

pub returns : goal.returns
returns c =
    held_there (map view_global c.args.globals.now) c.args.number (view_global c.in-Some.global.now) (view_terms c.in_ok-terms.terms)
    (sym (ap (option_map lent_global) c.in-Some.is) ∙ c.global_at.ensures) c.in_ok-terms.ensures
