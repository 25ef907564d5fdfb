use Rattle.std.proofs.Common.{◌≡◌, map, length, ap, sym, ◌∙◌, subst}
use Rattle.std.proofs.lemmas.List.{length-map}
use Rattle.qed_terms.specs.Rows.{Holds, row_of, tree_at, IsOrdered}
use Rattle.qed_terms.proofs.RowLaws.{keeps_older, made, held_now, means_made, rows_more}
use Rattle.qed_terms.proofs.tree_store.TreeStoreTermStore.make.Goals as goal

pub returns-clause-older : goal.returns-clause-older
returns-clause-older c =
    let rows = c.args.self.now in
    let o : IsOrdered rows = subst IsOrdered c.self.view_is c.self.invariant in
    keeps_older rows _ (c.args.head, c.args.kids.now) o (rows_more c.self.inside.nodes.items c.push.new.self.items rows record { head = c.args.head; kids = c.in_ok-kids.kids } c.args.kids.now c.self.view_is c.in_ok-push.ensures.items c.in_ok-kids.ensures.ok)

pub returns-clause-made : goal.returns-clause-made
returns-clause-made c =
    let rows = c.args.self.now in
    let rows' = map row_of c.push.new.self.items in
    let o : IsOrdered rows = subst IsOrdered c.self.view_is c.self.invariant in
    let last : c.len-id.result ≡ length rows = c.len-id.ensures ∙ c.self.inside.nodes.ok.0 ∙ sym (length-map c.self.inside.nodes.items row_of) ∙ ap length c.self.view_is in
    let h = held_now rows rows' c.args.head c.args.kids.now o c.requires.held c.requires.fit (rows_more c.self.inside.nodes.items c.push.new.self.items rows record { head = c.args.head; kids = c.in_ok-kids.kids } c.args.kids.now c.self.view_is c.in_ok-push.ensures.items c.in_ok-kids.ensures.ok) in
    subst (Holds rows') (sym last) h

pub returns-clause-stands : goal.returns-clause-stands
returns-clause-stands c =
    let rows = c.args.self.now in
    let rows' = map row_of c.push.new.self.items in
    let o : IsOrdered rows = subst IsOrdered c.self.view_is c.self.invariant in
    let last : c.len-id.result ≡ length rows = c.len-id.ensures ∙ c.self.inside.nodes.ok.0 ∙ sym (length-map c.self.inside.nodes.items row_of) ∙ ap length c.self.view_is in
    ap (tree_at rows') last ∙ made rows rows' c.args.head c.args.kids.now o c.requires.held (rows_more c.self.inside.nodes.items c.push.new.self.items rows record { head = c.args.head; kids = c.in_ok-kids.kids } c.args.kids.now c.self.view_is c.in_ok-push.ensures.items c.in_ok-kids.ensures.ok)

pub returns-clause-means : goal.returns-clause-means
returns-clause-means c =
    let rows = c.args.self.now in
    let rows' = map row_of c.push.new.self.items in
    let o : IsOrdered rows = subst IsOrdered c.self.view_is c.self.invariant in
    let last : c.len-id.result ≡ length rows = c.len-id.ensures ∙ c.self.inside.nodes.ok.0 ∙ sym (length-map c.self.inside.nodes.items row_of) ∙ ap length c.self.view_is in
    let stands = ap (tree_at rows') last ∙ made rows rows' c.args.head c.args.kids.now o c.requires.held (rows_more c.self.inside.nodes.items c.push.new.self.items rows record { head = c.args.head; kids = c.in_ok-kids.kids } c.args.kids.now c.self.view_is c.in_ok-push.ensures.items c.in_ok-kids.ensures.ok) in
    means_made (tree_at rows) c.args.head c.args.kids.now (tree_at rows' c.len-id.result) stands
