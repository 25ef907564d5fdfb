use Rattle.std.proofs.Common.{◌++◌, map, drop_of_length-le, sym, subst, ◌∙◌}
use Rattle.qed_terms.specs.View.{view_setting}
use Rattle.qed_terms.proofs.Kept.{kept_over, held_more}
use Rattle.qed_rules.specs.Rules.{step}
use Rattle.qed_simplify.specs.Normal.{Normal}
use Rattle.tree_places.specs.View.{numbers_of, find_in, nodes_of}
use Rattle.tree_places.proofs.Nodes.{kid_held}
use Rattle.branch_occurrences.specs.Marked.{AreMarked}
use Rattle.added_instances.specs.New.{IsNew}
use Rattle.added_instances.proofs.Going.{GoesOn, went}
use Rattle.added_instances.proofs.Kept.{one_added}
use Rattle.added_instances.proofs.additions.added.Goals as goal

pub loop-formula-preserved : goal.loop-formula-preserved
loop-formula-preserved g c =
    let tree = g.S.TermStore.tree in
    let held = g.S.TermStore.held in
    let s = c.args.store.now in
    let s' = c.loop-formula.store in
    let s'' = c.normal.new.store in
    let older = c.loop-formula.invariant.older in
    let later = c.in_ok-normal.ensures.older in
    let x = c.formula-item.result in
    let y = c.in_ok-normal.normal in
    let i = c.loop-formula.formula-index in
    let table = c.loop-formula.table in
    let new = c.new_place.new.table in
    let normal = Normal (step (view_setting c.args.world.now)) in
    let x_held = kid_held (held s) c.args.formulas.now i x c.requires.formulas c.loop-formula-test.true c.formula-item.is in
    let made_normal = subst (λ z. normal z (tree s'' y)) (older.same_tree x x_held) c.in_ok-normal.ensures.normal in
    let there_held = held_more (held s) (held s') (tree s) (tree s') c.args.there.now older c.requires.there in
    record {
      ready = c.in_ok-normal.ensures.ready;
      older = kept_over (held s) (held s') (held s'') (tree s) (tree s') (tree s'') older later;
      kept = c.in_ok-found.ensures.kept;
      added = one_added normal (tree s) (tree s') (tree s'') (held s') (held s'') later (nodes_of table) (nodes_of new) (numbers_of table.heads) (find_in table.places.entries) c.loop-formula.invariant.kept.table
          c.in_ok-found.ensures.grows c.args.there.now c.args.formulas.now i x y c.loop-formula-test.true c.formula-item.is there_held made_normal c.in_ok-normal.ensures.held
          c.loop-formula.made c.keep_at.new.made c.loop-formula.marks.items c.keep_at.new.marks.items c.in_ok-found.found c.loop-formula.invariant.added
          (λ ids r. c.in_ok-found.ensures.new ids (subst (AreMarked (tree s'') (nodes_of table) ids) (sym c.as_slice.ensures.value) r)) c.in_ok-keep_at.ensures;
    }

pub returns-clause-adds : goal.returns-clause-adds
returns-clause-adds g c =
    let tree = g.S.TermStore.tree in
    let s = c.args.store.now in
    let s' = c.loop-formula.store in
    let normal = Normal (step (view_setting c.args.world.now)) in
    let made = c.loop-formula.made in
    let now = map (tree s') (c.args.there.now ++ made) in
    went normal (map (tree s) c.args.there.now) (map (tree s) c.args.formulas.now) now (map (tree s') made)
    (subst (λ us. GoesOn normal (map (tree s) c.args.there.now) (map (tree s) c.args.formulas.now) now (map (tree s) us) (map (tree s') made)) (drop_of_length-le c.args.formulas.now c.loop-formula-test.false) c.loop-formula.invariant.added.goes)
