use Rattle.std.proofs.Common.{map, ◌∙◌, ap}
use Rattle.qed_terms.specs.View.{view_setting}
use Rattle.qed_terms.specs.WellFormed.{fits, int}
use Rattle.qed_rules.specs.Rules.{step}
use Rattle.qed_simplify.specs.Normal.{Normal}
use Rattle.branches.specs.Ids.{branch_of}
use Rattle.branch_changes.specs.NewNames.{numbered_name}
use Rattle.witness_changes.proofs.Absent.{not_in_body, range_fits}
use Rattle.witness_changes.proofs.Witnessed.{new_fits, new_stands, new_may, new_may_put, witnessed_by}
use Rattle.witness_changes.proofs.exists.witnessed.Goals as goal

pub witness_normals-requires-clause-term_fits : goal.witness_normals-requires-clause-term_fits
witness_normals-requires-clause-term_fits g c =
    let tree = g.S.TermStore.tree c.witness_term.new.store in
    ap (λ t. fits int (tree t)) c.integer_given-given.ensures.term ∙ new_fits c.in_ok-new.new.number (tree c.in_ok-new.new.term) c.in_ok-new.ensures.term

pub witness_normals-requires-clause-low_fits : goal.witness_normals-requires-clause-low_fits
witness_normals-requires-clause-low_fits g c =
    let s = c.args.store.now in
    let tree = g.S.TermStore.tree s in
    let r = c.in_ok-range.range in
    let fit = range_fits r.name (tree c.args.id) (tree r.low) (tree r.high) (tree r.body) c.in_ok-range.ensures.is (g.met.S.TermStore.well_formed s c.args.id c.requires.id) in
    ap (fits int) (c.in_ok-new.ensures.older.same_tree r.low c.in_ok-range.ensures.held.0) ∙ fit.0

pub witness_normals-requires-clause-high_fits : goal.witness_normals-requires-clause-high_fits
witness_normals-requires-clause-high_fits g c =
    let s = c.args.store.now in
    let tree = g.S.TermStore.tree s in
    let r = c.in_ok-range.range in
    let fit = range_fits r.name (tree c.args.id) (tree r.low) (tree r.high) (tree r.body) c.in_ok-range.ensures.is (g.met.S.TermStore.well_formed s c.args.id c.requires.id) in
    ap (fits int) (c.in_ok-new.ensures.older.same_tree r.high c.in_ok-range.ensures.held.1) ∙ fit.1

pub witness_normals-requires-clause-stands : goal.witness_normals-requires-clause-stands
witness_normals-requires-clause-stands g c =
    let tree = g.S.TermStore.tree c.witness_term.new.store in
    new_stands c.in_ok-new.new.number c.integer_given-given.result.sort (tree c.integer_given-given.result.term) c.integer_given-given.ensures.sort (ap tree c.integer_given-given.ensures.term ∙ c.in_ok-new.ensures.term)

pub witness_normals-requires-clause-may : goal.witness_normals-requires-clause-may
witness_normals-requires-clause-may g c =
    let s = c.args.store.now in
    let tree = g.S.TermStore.tree s in
    let tree' = g.S.TermStore.tree c.witness_term.new.store in
    let r = c.in_ok-range.range in
    let n = c.in_ok-new.new.number in
    let given = c.integer_given-given.result in
    let b = branch_of tree c.args.branch.now in
    let older = c.in_ok-new.ensures.older in
    let fit = range_fits r.name (tree c.args.id) (tree r.low) (tree r.high) (tree r.body) c.in_ok-range.ensures.is (g.met.S.TermStore.well_formed s c.args.id c.requires.id) in
    let absent = not_in_body (numbered_name n) r.name b (tree c.args.id) (tree r.low) (tree r.high) (tree r.body) c.in_ok-new.ensures.new.new c.requires.waits c.in_ok-range.ensures.is in
    new_may_put r.name given.name n given.sort (tree' given.term) (tree r.low) (tree r.high) (tree r.body) (tree' r.low) (tree' r.high) (tree' r.body) c.integer_given-given.ensures.name c.integer_given-given.ensures.sort (ap tree' c.integer_given-given.ensures.term ∙ c.in_ok-new.ensures.term)
    (older.same_tree r.low c.in_ok-range.ensures.held.0) (older.same_tree r.high c.in_ok-range.ensures.held.1) (older.same_tree r.body c.in_ok-range.ensures.held.2) (new_may n r.name (tree r.body) fit.2 absent)

pub returns-clause-are : goal.returns-clause-are
returns-clause-are g c =
    let s = c.args.store.now in
    let tree = g.S.TermStore.tree s in
    let tree' = g.S.TermStore.tree c.witness_term.new.store in
    let r = c.in_ok-range.range in
    let n = c.in_ok-new.new.number in
    let given = c.integer_given-given.result in
    let b = branch_of tree c.args.branch.now in
    let older = c.in_ok-new.ensures.older in
    let fit = range_fits r.name (tree c.args.id) (tree r.low) (tree r.high) (tree r.body) c.in_ok-range.ensures.is (g.met.S.TermStore.well_formed s c.args.id c.requires.id) in
    let absent = not_in_body (numbered_name n) r.name b (tree c.args.id) (tree r.low) (tree r.high) (tree r.body) c.in_ok-new.ensures.new.new c.requires.waits c.in_ok-range.ensures.is in
    witnessed_by r.name given.name n given.sort (tree' given.term) (tree r.low) (tree r.high) (tree r.body) (tree' r.low) (tree' r.high) (tree' r.body) c.integer_given-given.ensures.name c.integer_given-given.ensures.sort (ap tree' c.integer_given-given.ensures.term ∙ c.in_ok-new.ensures.term)
    (older.same_tree r.low c.in_ok-range.ensures.held.0) (older.same_tree r.high c.in_ok-range.ensures.held.1) (older.same_tree r.body c.in_ok-range.ensures.held.2)
    (Normal (step (view_setting c.args.world.now))) b (tree c.args.id) (map (g.S.TermStore.tree c.witness_normals.new.store) c.in_ok-made.made.items) c.in_ok-range.ensures.is c.in_ok-new.ensures.new (new_may n r.name (tree r.body) fit.2 absent) c.in_ok-made.ensures.normals
