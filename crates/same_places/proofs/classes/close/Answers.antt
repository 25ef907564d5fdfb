use Rattle.std.proofs.Common.{map, ◌∙◌}
use Rattle.same_places.specs.Members.{class_list}
use Rattle.same_places.specs.View.{row_of}
use Rattle.same_places.proofs.Joined.{apart_sound}
use Rattle.same_places.proofs.Turns.{classes_of}
use Rattle.same_places.proofs.classes.close.Goals as goal

pub loop-init : goal.loop-init
loop-init c = record {
  kept = c.in_ok-join_pairs.ensures.kept;
  all = c.in_ok-join_pairs.ensures.all ∙ c.in_ok-classes.ensures.length;
  sound = c.in_ok-join_pairs.ensures.sound (map row_of c.args.rows.now) (apart_sound (map row_of c.args.rows.now) c.args.pairs.now (class_list c.in_ok-classes.classes) c.args.count c.in_ok-classes.ensures.length c.in_ok-classes.ensures.own);
  hold = c.in_ok-join_pairs.ensures.hold;
}

pub returns-then-not-branch : goal.returns-then-not-branch
returns-then-not-branch c =
    classes_of c.args.count (map row_of c.args.rows.now) c.args.pairs.now (class_list c.loop.classes) (class_list c.pass.new.classes) c.loop.invariant.all c.requires.pairs c.in_ok-pass.ensures.joins c.loop.invariant.hold (c.in_ok-pass.ensures.sound c.args.pairs.now c.loop.invariant.sound) (c.in_ok-pass.ensures.closed c.if-not-branch.true)
