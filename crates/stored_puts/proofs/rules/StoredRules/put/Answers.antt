use Rattle.std.proofs.Common.{◌≡◌, false, sym, ◌∙◌, ap, subst}
use Rattle.qed_terms.specs.View.{view_setting}
use Rattle.qed_terms.specs.Free.{is_free}
use Rattle.qed_rules.specs.Rules.{step}
use Rattle.qed_simplify.specs.Normal.{Normal}
use Rattle.stored_normals.proofs.Keeping.{later_kept}
use Rattle.stored_puts.proofs.Unchanged.{unchanged}
use Rattle.stored_puts.proofs.rules.StoredRules.put.Goals as goal

pub normal-requires-clause-ready : goal.normal-requires-clause-ready
normal-requires-clause-ready g c =
    let tree = g.S.TermStore.tree in
    let held = g.S.TermStore.held in
    later_kept _ (view_setting c.args.self.now.normals.setting) (held c.args.store.now) (held c.put_in.new.store) (tree c.args.store.now) (tree c.put_in.new.store) c.args.self.now.normals.table.entries c.in_ok-put.ensures.older c.requires.ready

pub returns-then-is_free-clause-normal : goal.returns-then-is_free-clause-normal
returns-then-is_free-clause-normal g c =
    let tree = g.S.TermStore.tree in
    subst (λ t. Normal (step (view_setting c.args.world.now)) t (tree c.normal.new.store c.in_ok-made.made)) c.in_ok-put.ensures.put c.in_ok-made.ensures.normal

pub returns-clause-normal : goal.returns-clause-normal
returns-clause-normal g c =
    let tree = g.S.TermStore.tree c.args.store.now in
    let given = c.args.given.now in
    let other : is_free given.name given.sort (tree c.args.formula) ≡ false = ap (λ n. is_free n given.sort (tree c.args.formula)) (sym c.bytes.ensures) ∙ sym c.is_free.ensures ∙ c.if-is_free.false in
    subst (λ t. Normal (step (view_setting c.args.world.now)) t (g.S.TermStore.tree c.normal-2.new.store c.in_ok-kept.kept)) (sym (unchanged given.name (tree given.term) given.sort (tree c.args.formula) other)) c.in_ok-kept.ensures.normal
