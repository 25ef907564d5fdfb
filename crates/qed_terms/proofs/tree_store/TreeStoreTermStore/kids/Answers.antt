use Rattle.std.proofs.Common.{All, map, ap, sym, ◌∙◌, subst}
use Rattle.qed_terms.specs.Rows.{Holds, tree_at, IsOrdered}
use Rattle.qed_terms.proofs.RowLaws.{kids_here, kids_at, kids_held}
use Rattle.qed_terms.proofs.tree_store.TreeStoreTermStore.kids.Goals as goal

pub returns-clause-held : goal.returns-clause-held
returns-clause-held c =
    let rows = c.args.self.now in
    let o : IsOrdered rows = subst IsOrdered c.self.view_is c.self.invariant in
    let e = c.as_slice.ensures ∙ kids_here c.self.inside.nodes.items rows c.args.id c.index.result.now c.self.view_is c.requires.below c.index.ensures in
    subst (All (Holds rows)) (sym e) (kids_held rows c.args.id o c.requires)

pub returns-clause-stand : goal.returns-clause-stand
returns-clause-stand c =
    let rows = c.args.self.now in
    let o : IsOrdered rows = subst IsOrdered c.self.view_is c.self.invariant in
    let e = c.as_slice.ensures ∙ kids_here c.self.inside.nodes.items rows c.args.id c.index.result.now c.self.view_is c.requires.below c.index.ensures in
    ap (map (tree_at rows)) e ∙ kids_at rows c.args.id o c.requires.below
