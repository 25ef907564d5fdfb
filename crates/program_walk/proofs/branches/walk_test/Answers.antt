use Rattle.program_walk.proofs.branches.walk_test.Goals as goal

pub returns : goal.returns
returns g c start m k os f ho ha closed = record {
  value = c.in_ok-made.ensures start m k closed;
  first = c.in_ok-sets.ensures.first c.args.frame.temporaries os f ho ha;
  second = c.in_ok-sets.ensures.second c.args.frame.temporaries os f ho ha;
}
