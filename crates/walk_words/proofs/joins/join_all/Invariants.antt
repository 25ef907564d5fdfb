use Rattle.std.proofs.Common.{◌≡◌, ◌++◌, map, drop}
use Rattle.qed_terms.specs.Fresh.{used_in}
use Rattle.qed_terms.specs.View.{formula_tree, term_tree}
use Rattle.walk_steps.specs.World.{after_picks, chosen}
use Rattle.walk_steps.specs.Join.{picks, links}
use Rattle.walk_words.proofs.joins.join_all.Given as goal

-- those so far and those to come are all
abbrev pub invariant-loop-at : goal.invariant-loop-at
invariant-loop-at l =
    let now = used_in l.fresh in
    let before = used_in l.initial.fresh in
    let bs = drop l.at l.bases in
    let ss = map term_tree l.first in
    let ts = map term_tree l.second in
    let rs = map term_tree (drop l.at l.first) in
    let rt = map term_tree (drop l.at l.second) in
    record {
      slots : map term_tree l.slots.items ++ chosen (picks bs now rs rt) rs ≡ chosen (picks l.bases before ss ts) ss;
      left : map formula_tree l.rests.left.items ++ links (picks bs now rs rt) rs ≡ map formula_tree l.initial.rests.left.items ++ links (picks l.bases before ss ts) ss;
      right : map formula_tree l.rests.right.items ++ links (picks bs now rs rt) rt ≡ map formula_tree l.initial.rests.right.items ++ links (picks l.bases before ss ts) ts;
      used : after_picks bs (picks bs now rs rt) now ≡ after_picks l.bases (picks l.bases before ss ts) before;
    }
