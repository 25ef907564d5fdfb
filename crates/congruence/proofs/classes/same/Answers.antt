use Rattle.std.proofs.Common.{◌≡◌, ◌<◌, true, length, sym, subst, ◌∙◌, arith}
use Rattle.std.specs.Prelude.{◌↔◌}
use Rattle.same_terms.specs.SameTerms.{SameTerm}
use Rattle.tree_places.specs.Tables.{tree_at}
use Rattle.tree_places.specs.View.{numbers_of, find_in, nodes_of}
use Rattle.tree_places.proofs.Nodes.{older, grows_on, grows_long}
use Rattle.congruence.proofs.SameClass.{closed_still, same_told}
use Rattle.congruence.proofs.classes.same.Goals as goal

pub returns-clause-same : goal.returns-clause-same
returns-clause-same g c = λ ls is.
    let old = nodes_of c.args.table.now in
    let ns = nodes_of c.place_of.new.table in
    let table = c.place_of-2.new.table in
    let ms = nodes_of table in
    let marks = c.args.closed.now.marks.items in
    let classes = c.args.closed.now.classes.items in
    let i = c.in_ok-first.first in
    let j = c.in_ok-second.second in
    let more = c.in_ok-second.ensures.grows in
    let still = closed_still ls old ms marks classes c.requires.kept.table.all (grows_on old ns ms c.in_ok-first.ensures.grows more) is in
    let i_below : i < length ms = let l = c.in_ok-first.ensures.below in let m = grows_long ns ms more in omega arith in
    let first = older ns ms c.in_ok-first.ensures.kept.table.all more i c.in_ok-first.ensures.below ∙ c.in_ok-first.ensures.tree in
    let told = same_told ls ms marks classes (numbers_of table.heads) (find_in table.places.entries) c.in_ok-second.ensures.kept.table still i j i_below c.in_ok-second.ensures.below in
    let trees = subst (λ t. (c.same_at.result ≡ true) ↔ SameTerm ls t (tree_at ms j)) first (subst (λ b. (b ≡ true) ↔ SameTerm ls (tree_at ms i) (tree_at ms j)) (sym c.same_at.ensures) told) in
    subst (λ t. (c.same_at.result ≡ true) ↔ SameTerm ls (g.S.TermStore.tree c.args.store.now c.args.first) t) c.in_ok-second.ensures.tree trees
