use Rattle.std.proofs.Common.{◌-◌, ◌≤◌, IsTrue, vec_len}
use Rattle.std.specs.Io.KnownBytes.{Consumes}
use Rattle.wp_io.specs.Reads.{SameNames}
use Rattle.wp_io.proofs.reading.read_all.Given as goal

abbrev pub invariant-loop-text : goal.invariant-loop-text
invariant-loop-text g l =
    let files = g.F.Files in
    record {
      within : vec_len l.text ≤ l.limit;
      taken : Consumes (files.left l.initial.files) (files.left l.files) l.text.items;
      later : files.faults l.initial.files ≤ files.faults l.files;
      is_open : IsTrue (files.is_open l.files);
      same : SameNames (files.may_open l.initial.files) (files.may_open l.files) (files.holds l.initial.files) (files.holds l.files);
    }

abbrev pub decreases-loop-text : goal.decreases-loop-text
decreases-loop-text g l = l.limit - vec_len l.text
