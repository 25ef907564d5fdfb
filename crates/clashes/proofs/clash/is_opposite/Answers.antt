use Rattle.std.proofs.Common.{ap, sym, ◌∙◌}
use Rattle.clashes.specs.Seen.{place_in}
use Rattle.tree_places.specs.View.{numbers_of, find_in, nodes_of}
use Rattle.clashes.proofs.Together.{not_opposite}
use Rattle.clashes.proofs.clash.is_opposite.Goals as goal

pub returns-in-None : goal.returns-in-None
returns-in-None c =
    let table = c.args.table.now in
    let seen = place_in c.args.seen.now.entries in
    not_opposite (nodes_of table) (numbers_of table.heads) (find_in table.places.entries) c.requires.kept.table c.args.classes.now c.args.literal c.in-Some.formula seen c.in-Some.ensures.0 c.in-Some.ensures.1 (ap seen (sym c.class_at.ensures) ∙ sym c.place_in.ensures ∙ c.in-None.is)
