use Rattle.std.proofs.Common.{map, length}
use Rattle.same_places.specs.Members.{class_list, IsKept}
use Rattle.same_places.specs.Passing.{Passing}
use Rattle.same_places.specs.View.{row_of, place_in}
use Rattle.same_places.proofs.classes.pass.Given as goal

abbrev pub invariant-loop-n : goal.invariant-loop-n
invariant-loop-n l = record {
  kept : IsKept l.classes;
  so_far : Passing (length (class_list l.fn.classes)) (map row_of l.rows) (class_list l.fn.classes) (class_list l.classes) l.moved (place_in l.seen.entries) l.n;
}
