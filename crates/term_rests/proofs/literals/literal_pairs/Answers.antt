use Rattle.tree_places.specs.View.{nodes_of}
use Rattle.tree_places.proofs.Nodes.{older, grows_long}
use Rattle.term_forms.specs.Forms.{tree_of, count_of}
use Rattle.term_rests.proofs.OfForms.{of_form}
use Rattle.term_rests.proofs.literals.literal_pairs.Goals as goal

pub returns-in_ok-pairs-in-Some-clause-pairs : goal.returns-in_ok-pairs-in-Some-clause-pairs
returns-in_ok-pairs-in-Some-clause-pairs c =
    let ns = nodes_of c.args.table.now in
    let ms = nodes_of c.rest_pairs.new.table in
    let told = c.in-Some.ensures in
    of_form (count_of c.args.table.now) (count_of c.rest_pairs.new.table) (tree_of c.args.table.now) (tree_of c.rest_pairs.new.table) (λ k l. older ns ms c.requires.kept.table.all c.in_ok-pairs-in-Some.ensures.grows k l) (grows_long ns ms c.in_ok-pairs-in-Some.ensures.grows) c.in_ok-form-in-Some.form c.in_ok-form-in-Some.ensures.below (tree_of c.args.table.now c.in-Some.sum) (tree_of c.args.table.now c.args.literal) c.in_ok-form-in-Some.ensures.form told.1 c.in_ok-pairs-in-Some.pairs.items c.in_ok-pairs-in-Some.ensures.pairs
