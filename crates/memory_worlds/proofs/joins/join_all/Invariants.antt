use Rattle.std.proofs.Common.{◌≡◌, ◌++◌, map, take, drop, length}
use Rattle.qed_terms.specs.View.{formula_tree, term_tree}
use Rattle.memory_steps.specs.World.{after_picks, chosen}
use Rattle.memory_steps.specs.Join.{picks, links}
use Rattle.memory_worlds.specs.View.{used_by, view_base}
use Rattle.memory_worlds.proofs.joins.join_all.Given as goal

-- those so far and those to come are all
abbrev pub invariant-loop-at : goal.invariant-loop-at
invariant-loop-at l =
    let now = used_by l.names in
    let before = used_by l.initial.names in
    let bases = map view_base l.bases in
    let bs = map view_base (drop l.at l.bases) in
    let ss = map term_tree l.initial.terms.items in
    let us = map term_tree l.others in
    let rs = map term_tree (drop l.at l.terms.items) in
    let ru = map term_tree (drop l.at l.others) in
    record {
      long : length l.terms.items ≡ length l.initial.terms.items;
      terms : map term_tree (take l.at l.terms.items) ++ chosen (picks bs now rs ru) rs ≡ chosen (picks bases before ss us) ss;
      left : map formula_tree l.rests.left.items ++ links bs (picks bs now rs ru) rs ≡ map formula_tree l.initial.rests.left.items ++ links bases (picks bases before ss us) ss;
      right : map formula_tree l.rests.right.items ++ links bs (picks bs now rs ru) ru ≡ map formula_tree l.initial.rests.right.items ++ links bases (picks bases before ss us) us;
      used : after_picks bs (picks bs now rs ru) now ≡ after_picks bases (picks bases before ss us) before;
    }
