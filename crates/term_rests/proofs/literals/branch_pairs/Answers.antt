use Rattle.std.proofs.Common.{◌<◌, ◌+◌, ◌∷◌, ◌++◌, [], length, map, take, get_or, subst, sym, ap, ◌∙◌}
use Rattle.tree_places.specs.View.{nodes_of}
use Rattle.tree_places.proofs.Nodes.{older, grows_on, grows_long}
use Rattle.term_forms.specs.Forms.{tree_of, count_of}
use Rattle.term_rests.specs.Rests.{AreRests}
use Rattle.term_rests.proofs.Together.{together, literals_more}
use Rattle.term_rests.proofs.literals.branch_pairs.Goals as goal

pub loop-i-preserved : goal.loop-i-preserved
loop-i-preserved c =
    let first = nodes_of c.args.table.now in
    let ns = nodes_of c.loop-i.table in
    let ms = nodes_of c.literal_pairs.new.table in
    let ks = c.args.literals.now in
    let i = c.loop-i.i in
    let old = tree_of c.args.table.now in
    let new = tree_of c.literal_pairs.new.table in
    let count = count_of c.literal_pairs.new.table in
    let below : i < length ks = c.loop-i-test.true in
    let w = c.requires.below i 0 below in
    let same = older first ns c.requires.kept.table.all c.loop-i.invariant.grows (get_or ks i 0) w in
    let g = c.in_ok-more.ensures.grows in
    let both = together (count_of c.loop-i.table) count (tree_of c.loop-i.table) new (λ k l. older ns ms c.loop-i.invariant.kept.table.all g k l) (grows_long ns ms g) (map old (take i ks)) (tree_of c.loop-i.table (get_or ks i 0) ∷ []) c.loop-i.pairs.items c.in_ok-more.more.items c.loop-i.invariant.pairs c.in_ok-more.ensures.pairs in
    let literals = ap (λ t. map old (take i ks) ++ t ∷ []) same ∙ sym (literals_more old ks i below) in
    let pairs = c.in_ok-put_all.ensures ∙ ap (λ xs. c.loop-i.pairs.items ++ xs) c.as_slice.ensures.value in
    record {
      kept = c.in_ok-more.ensures.kept;
      grows = grows_on first ns ms c.loop-i.invariant.grows g;
      pairs = subst (λ xs. AreRests count new (map old (take (i + 1) ks)) xs) (sym pairs) (subst (λ ls. AreRests count new ls (c.loop-i.pairs.items ++ c.in_ok-more.more.items)) literals both);
    }
