use Rattle.std.proofs.Common.{sym, ◌∙◌, subst}
use Rattle.qed_terms.specs.View.{view_setting}
use Rattle.qed_rules.specs.Rules.{step}
use Rattle.qed_simplify.specs.Normal.{Normal}
use Rattle.stored_normals.proofs.Keeping.{settled_kept, settled_here, noted_kept}
use Rattle.stored_normals.proofs.kept.normal_kept.Goals as goal

pub returns-in-Some-clause-kept : goal.returns-in-Some-clause-kept
returns-in-Some-clause-kept g c =
    settled_here _ (g.S.TermStore.held c.args.store.now) (g.S.TermStore.tree c.args.store.now) c.args.normals.now.setting c.settle_on.new.normals.setting c.args.world.now c.args.normals.now.table.entries
    c.settle_on.new.normals.table.entries c.in_ok-settle_on.ensures.setting c.in_ok-settle_on.ensures.table c.requires.kept

pub returns-in-Some-clause-held : goal.returns-in-Some-clause-held
returns-in-Some-clause-held g c =
    (settled_kept _ (g.S.TermStore.held c.args.store.now) (g.S.TermStore.tree c.args.store.now) c.args.normals.now.setting c.settle_on.new.normals.setting c.args.world.now c.args.normals.now.table.entries
    c.settle_on.new.normals.table.entries c.in_ok-settle_on.ensures.setting c.in_ok-settle_on.ensures.table c.requires.kept).made c.args.id c.in-Some.made (sym c.found.ensures ∙ c.in-Some.is)

pub returns-in-Some-clause-normal : goal.returns-in-Some-clause-normal
returns-in-Some-clause-normal g c =
    (settled_kept _ (g.S.TermStore.held c.args.store.now) (g.S.TermStore.tree c.args.store.now) c.args.normals.now.setting c.settle_on.new.normals.setting c.args.world.now c.args.normals.now.table.entries
    c.settle_on.new.normals.table.entries c.in_ok-settle_on.ensures.setting c.in_ok-settle_on.ensures.table c.requires.kept).normal c.args.id c.in-Some.made (sym c.found.ensures ∙ c.in-Some.is)

pub returns-in_ok-note-in-None-2-clause-kept : goal.returns-in_ok-note-in-None-2-clause-kept
returns-in_ok-note-in-None-2-clause-kept g c =
    let tree = g.S.TermStore.tree in
    let held = g.S.TermStore.held in
    let s = c.args.store.now in
    let s' = c.normal_in.new.store in
    let setting = c.settle_on.new.normals.setting in
    let world = c.in_ok-settle_on.ensures.setting in
    let all = settled_here _ (held s) (tree s) c.args.normals.now.setting setting c.args.world.now c.args.normals.now.table.entries c.settle_on.new.normals.table.entries world c.in_ok-settle_on.ensures.table c.requires.kept in
    let normal = subst (λ z. Normal (step (view_setting z)) (tree s c.args.id) (tree s' c.in_ok-made-in-None.made)) (sym world) c.in_ok-made-in-None.ensures.normal in
    noted_kept _ (view_setting setting) (held s) (held s') (tree s) (tree s') c.settle_on.new.normals.table.entries c.note.new.table.entries c.note-in-None.new.table.entries c.args.id c.in_ok-made-in-None.made
    c.in_ok-made-in-None.ensures.older c.requires.held c.in_ok-made-in-None.ensures.held normal c.in_ok-note-in-None.ensures c.in_ok-note-in-None-2.ensures all
