use Rattle.qed_terms.specs.View.{term_tree}
use Rattle.program_trees.specs.View.{view_contract}
use Rattle.program_steps.specs.Words.{write_trees}
use Rattle.step_walks.specs.View.{view_place}
use Rattle.value_words.specs.View.{view_sizes}
use Rattle.walk_frames.specs.View.{facts_in, shape_in, view_point}
use Rattle.walk_frames.proofs.Closedness.{formulas_closed}
use Rattle.walk_frames.proofs.Putting.{put_walks}
use Rattle.walk_frames.proofs.stores.put_to.Goals as goal

pub returns : goal.returns
returns g c first m k os t e =
    let p = facts_in c.args.frame in
    let s = shape_in c.args.frame k in
    let tx = g.T.Texts.text c.args.texts.now in
    let ct = view_contract c.args.frame.contract.now in
    let pt = view_point c.args.frame os c.args.point in
    let x = c.in-Variable.variable in
    let bases = c.args.frame.bases.now in
    put_walks m p s tx ct pt c.args.line c.args.root x t (view_place c.broken_place.result) c.in_ok-number.number (view_sizes c.sizes_in.result) (term_tree c.args.value) c.in-Variable.is
    c.sizes_in.ensures c.in_ok-number.ensures c.broken_place.ensures
    (c.in_ok-ask_all.ensures first m bases (write_trees p s tx ct pt x) (formulas_closed.writes p s tx ct pt x) (c.in_ok-asked.ensures k os)) e (λ is gs. c.in_ok-set_to.ensures m bases t gs is)
