use Rattle.std.proofs.Common.{◌≡◌, take, true}
use Rattle.slot_names.specs.Bases.{differ}
use Rattle.slot_names.proofs.Differing.{Holds}
use Rattle.slot_names.proofs.tests.differ.Given as goal

abbrev pub invariant-loop-at : goal.invariant-loop-at
invariant-loop-at l = record {
  held : Holds l.table (take l.at l.names);
  so : differ (take l.at l.names) ≡ true;
}
