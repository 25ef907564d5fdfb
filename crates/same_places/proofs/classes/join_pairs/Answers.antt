use Rattle.std.proofs.Common.{◌<◌, length, get_or, arith, ◌∙◌}
use Rattle.same_places.specs.Members.{class_list}
use Rattle.same_places.specs.Same.{given}
use Rattle.same_places.proofs.Turns.{pair_at, pair_below, join_joins, join_sound, join_one, one_pair_more}
use Rattle.same_places.proofs.classes.join_pairs.Goals as goal

pub join-requires-clause-left : goal.join-requires-clause-left
join-requires-clause-left c =
    let p = get_or c.args.pairs.now c.loop-pair.pair-index (0, 0) in
    let w = c.requires.within c.loop-pair.pair-index p.0 p.1 (pair_at c.args.pairs.now c.loop-pair.pair-index (0, 0) c.loop-pair-test.true) in
    let a = w.0 in
    let e = c.loop-pair.invariant.all in
    omega arith

pub join-requires-clause-right : goal.join-requires-clause-right
join-requires-clause-right c =
    let p = get_or c.args.pairs.now c.loop-pair.pair-index (0, 0) in
    let w = c.requires.within c.loop-pair.pair-index p.0 p.1 (pair_at c.args.pairs.now c.loop-pair.pair-index (0, 0) c.loop-pair-test.true) in
    let a = w.1 in
    let e = c.loop-pair.invariant.all in
    omega arith

pub loop-pair-preserved : goal.loop-pair-preserved
loop-pair-preserved c =
    let pairs = c.args.pairs.now in
    let k = c.loop-pair.pair-index in
    let p = get_or pairs k (0, 0) in
    let cs = class_list c.loop-pair.classes in
    let d = class_list c.join.new.classes in
    let n = length (class_list c.args.classes.now) in
    let there = pair_at pairs k (0, 0) c.loop-pair-test.true in
    let w = c.requires.within k p.0 p.1 there in
    let e = c.loop-pair.invariant.all in
    let left : p.0 < length cs = let a = w.0 in omega arith in
    let right : p.1 < length cs = let a = w.1 in omega arith in
    let joins = join_joins cs d p.0 p.1 left right c.in_ok-_moved._moved c.in_ok-_moved.ensures.joined in
    record {
      kept = c.in_ok-_moved.ensures.kept;
      all = joins.0 ∙ e;
      sound = λ rows s. join_sound cs d p.0 p.1 left right rows pairs (given k there) (c.loop-pair.invariant.sound rows s) c.in_ok-_moved._moved c.in_ok-_moved.ensures.joined;
      hold = one_pair_more pairs cs d n p.0 p.1 k e c.requires.within there joins (join_one cs d p.0 p.1 left right c.in_ok-_moved._moved c.in_ok-_moved.ensures.joined) c.loop-pair.invariant.hold;
    }

pub returns-clause-hold : goal.returns-clause-hold
returns-clause-hold c k i j h = c.loop-pair.invariant.hold k i j (let b = pair_below c.args.pairs.now k (i, j) h in let e = c.loop-pair-test.false in omega arith) h
