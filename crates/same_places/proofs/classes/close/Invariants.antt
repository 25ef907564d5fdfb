use Rattle.std.proofs.Common.{◌≡◌, length, map}
use Rattle.same_places.specs.Passing.{Sound, PairsHold}
use Rattle.same_places.specs.Members.{class_list, IsKept}
use Rattle.same_places.specs.View.{row_of}
use Rattle.same_places.proofs.classes.close.Given as goal

abbrev pub invariant-loop : goal.invariant-loop
invariant-loop l = record {
  kept : IsKept l.classes;
  all : length (class_list l.classes) ≡ l.count;
  sound : Sound (map row_of l.rows) l.pairs (class_list l.classes);
  hold : PairsHold l.pairs (class_list l.classes);
}
