use Rattle.std.proofs.Common.{◌≡◌, map, drop}
use Rattle.report_read.specs.View.{bytes_of}
use Rattle.report_shown.specs.Shown.{is_among}
use Rattle.report_shown.proofs.names.is_among.Given as goal

abbrev pub invariant-loop-found : goal.invariant-loop-found
invariant-loop-found l = is_among (map bytes_of l.names) l.name ≡ is_among (map bytes_of (drop l.found-index l.names)) l.name
