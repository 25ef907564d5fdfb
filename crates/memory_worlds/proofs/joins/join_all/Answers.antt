use Rattle.std.proofs.Common.{◌++◌, map, take, drop, sym, ap, ◌∙◌, append-nil, arith}
use Rattle.std.proofs.lemmas.List.{take-append-drop}
use Rattle.qed_terms.specs.View.{formula_tree, term_tree}
use Rattle.walk_steps.proofs.Lists.{map_both}
use Rattle.memory_steps.specs.World.{after_picks, chosen}
use Rattle.memory_steps.specs.Join.{links}
use Rattle.memory_worlds.specs.View.{used_by, view_base}
use Rattle.memory_worlds.proofs.Joined.{none_ahead}
use Rattle.memory_worlds.proofs.joins.join_all.Goals as goal

pub returns-clause-terms : goal.returns-clause-terms
returns-clause-terms c =
    let i = c.loop-at.at in
    let terms = c.loop-at.terms.items in
    let rs = map term_tree (drop i terms) in
    let none = none_ahead view_base term_tree term_tree (used_by c.loop-at.names) c.args.bases.now terms c.args.others.now i (omega (arith, c.len.ensures, c.min.ensures, c.min-pairs.ensures, c.loop-at.invariant.long, c.loop-at-test.false)) in
    ap (map term_tree) (sym (take-append-drop i terms)) ∙ map_both term_tree (take i terms) (drop i terms) ∙ ap (λ ps. map term_tree (take i terms) ++ chosen ps rs) (sym none) ∙ c.loop-at.invariant.terms

pub returns-clause-left : goal.returns-clause-left
returns-clause-left c =
    let i = c.loop-at.at in
    let left = map formula_tree c.loop-at.rests.left.items in
    let none = none_ahead view_base term_tree term_tree (used_by c.loop-at.names) c.args.bases.now c.loop-at.terms.items c.args.others.now i (omega (arith, c.len.ensures, c.min.ensures, c.min-pairs.ensures, c.loop-at.invariant.long, c.loop-at-test.false)) in
    sym (append-nil left) ∙ ap (λ ps. left ++ links (map view_base (drop i c.args.bases.now)) ps (map term_tree (drop i c.loop-at.terms.items))) (sym none) ∙ c.loop-at.invariant.left

pub returns-clause-right : goal.returns-clause-right
returns-clause-right c =
    let i = c.loop-at.at in
    let right = map formula_tree c.loop-at.rests.right.items in
    let none = none_ahead view_base term_tree term_tree (used_by c.loop-at.names) c.args.bases.now c.loop-at.terms.items c.args.others.now i (omega (arith, c.len.ensures, c.min.ensures, c.min-pairs.ensures, c.loop-at.invariant.long, c.loop-at-test.false)) in
    sym (append-nil right) ∙ ap (λ ps. right ++ links (map view_base (drop i c.args.bases.now)) ps (map term_tree (drop i c.args.others.now))) (sym none) ∙ c.loop-at.invariant.right

pub returns-clause-used : goal.returns-clause-used
returns-clause-used c =
    let i = c.loop-at.at in
    let none = none_ahead view_base term_tree term_tree (used_by c.loop-at.names) c.args.bases.now c.loop-at.terms.items c.args.others.now i (omega (arith, c.len.ensures, c.min.ensures, c.min-pairs.ensures, c.loop-at.invariant.long, c.loop-at-test.false)) in
    ap (λ ps. after_picks (map view_base (drop i c.args.bases.now)) ps (used_by c.loop-at.names)) (sym none) ∙ c.loop-at.invariant.used
