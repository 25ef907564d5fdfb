use Rattle.std.proofs.Common.{◌≡◌, ◌+◌, ◌++◌, map, drop, sym, ap, ◌∙◌, append-nil, arith}
use Rattle.qed_terms.specs.Fresh.{used_in}
use Rattle.qed_terms.specs.View.{formula_tree, term_tree}
use Rattle.walk_steps.specs.World.{after_picks, chosen}
use Rattle.walk_steps.specs.Join.{links}
use Rattle.walk_steps.proofs.Lists.{map_both}
use Rattle.walk_words.proofs.Pushing.{map_push}
use Rattle.walk_words.proofs.Joined.{dropped, dropped_same, chosen_next, left_next, right_next, used_next, none_ahead}
use Rattle.walk_words.proofs.joins.join_all.Goals as goal

pub loop-at-preserved : goal.loop-at-preserved
loop-at-preserved c =
    let before = used_in c.loop-at.fresh in
    let after = used_in c.join_terms.new.fresh in
    let i = c.loop-at.at in
    let b = c.index-bases-at.result in
    let s = c.index-first-at.result in
    let t = c.index-second-at.result in
    let bs = drop (i + 1) c.args.bases.now in
    let rb = drop i c.args.bases.now in
    let ss = map term_tree (drop (i + 1) c.args.first.now) in
    let ts = map term_tree (drop (i + 1) c.args.second.now) in
    let rs = map term_tree (drop i c.args.first.now) in
    let rt = map term_tree (drop i c.args.second.now) in
    let eb = dropped_same c.args.bases.now i b (omega (arith, c.min.ensures, c.min-pairs.ensures, c.loop-at-test.true)) c.index-bases-at.is in
    let e = dropped term_tree c.args.first.now i s (omega (arith, c.min.ensures, c.min-pairs.ensures, c.loop-at-test.true)) c.index-first-at.is in
    let f = dropped term_tree c.args.second.now i t (omega (arith, c.min.ensures, c.min-pairs.ensures, c.loop-at-test.true)) c.index-second-at.is in
    let made = c.in_ok-join_terms.ensures in
    record {
      slots = chosen_next before after b bs rb (term_tree s) (term_tree t) ss ts rs rt eb e f made.used (map term_tree c.loop-at.slots.items) (map term_tree c.push.new.self.items) (term_tree c.in_ok-join_terms.field-0) made.term
          (ap (map term_tree) c.in_ok-push.ensures.items ∙ map_push term_tree c.loop-at.slots.items c.in_ok-join_terms.field-0)
          ∙ c.loop-at.invariant.slots;
      left = left_next before after b bs rb (term_tree s) (term_tree t) ss ts rs rt eb e f made.used (map formula_tree c.loop-at.rests.left.items) (map formula_tree c.join_terms.new.rests.left.items) made.left ∙ c.loop-at.invariant.left;
      right = right_next before after b bs rb (term_tree s) (term_tree t) ss ts rs rt eb e f made.used (map formula_tree c.loop-at.rests.right.items) (map formula_tree c.join_terms.new.rests.right.items) made.right ∙ c.loop-at.invariant.right;
      used = used_next before after b bs rb (term_tree s) (term_tree t) ss ts rs rt eb e f made.used ∙ c.loop-at.invariant.used;
    }

pub returns-clause-slots : goal.returns-clause-slots
returns-clause-slots c =
    let now = used_in c.loop-at.fresh in
    let i = c.loop-at.at in
    let first = c.args.first.now in
    let done = c.loop-at.slots.items in
    let rs = map term_tree (drop i first) in
    let none = none_ahead term_tree term_tree now c.args.bases.now first c.args.second.now i (omega (arith, c.min.ensures, c.min-pairs.ensures, c.loop-at-test.false)) in
    let at : c.min-pairs.result ≡ i = omega (arith, c.loop-at.auto.at-end, c.loop-at-test.false) in
    ap (map term_tree) c.in_ok-extend_slots.ensures ∙ map_both term_tree done (drop c.min-pairs.result first) ∙ ap (λ n. map term_tree done ++ map term_tree (drop n first)) at
    ∙ ap (λ ps. map term_tree done ++ chosen ps rs) (sym none) ∙ c.loop-at.invariant.slots

pub returns-clause-left : goal.returns-clause-left
returns-clause-left c =
    let now = used_in c.loop-at.fresh in
    let i = c.loop-at.at in
    let none = none_ahead term_tree term_tree now c.args.bases.now c.args.first.now c.args.second.now i (omega (arith, c.min.ensures, c.min-pairs.ensures, c.loop-at-test.false)) in
    sym (append-nil (map formula_tree c.loop-at.rests.left.items))
    ∙ ap (λ ps. map formula_tree c.loop-at.rests.left.items ++ links ps (map term_tree (drop i c.args.first.now))) (sym none) ∙ c.loop-at.invariant.left

pub returns-clause-right : goal.returns-clause-right
returns-clause-right c =
    let now = used_in c.loop-at.fresh in
    let i = c.loop-at.at in
    let none = none_ahead term_tree term_tree now c.args.bases.now c.args.first.now c.args.second.now i (omega (arith, c.min.ensures, c.min-pairs.ensures, c.loop-at-test.false)) in
    sym (append-nil (map formula_tree c.loop-at.rests.right.items))
    ∙ ap (λ ps. map formula_tree c.loop-at.rests.right.items ++ links ps (map term_tree (drop i c.args.second.now))) (sym none) ∙ c.loop-at.invariant.right

pub returns-clause-used : goal.returns-clause-used
returns-clause-used c =
    let now = used_in c.loop-at.fresh in
    let i = c.loop-at.at in
    let none = none_ahead term_tree term_tree now c.args.bases.now c.args.first.now c.args.second.now i (omega (arith, c.min.ensures, c.min-pairs.ensures, c.loop-at-test.false)) in
    ap (λ ps. after_picks (drop i c.args.bases.now) ps now) (sym none) ∙ c.loop-at.invariant.used
