use Rattle.tree_places.specs.View.{node_of}
use Rattle.term_forms.proofs.Nodes.{get_mapped, head_there, kids_there, below_there}
use Rattle.term_forms.proofs.forms.node_at.Goals as goal

pub returns : goal.returns
returns c =
    let there = get_mapped node_of c.args.table.now.nodes.items c.args.place c.index.result.now c.requires.below c.index.ensures in
    record {
      head = head_there c.args.table.now c.requires.kept c.args.place c.index.result.now there;
      kids = kids_there c.args.table.now c.requires.kept c.args.place c.index.result.now there;
      below = below_there c.args.table.now c.requires.kept c.args.place c.index.result.now there c.requires.below;
    }
