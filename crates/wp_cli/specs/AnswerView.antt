-- What a report is answered with.
use Rattle.std.specs.Prelude.{Bool, true, false}
use Rattle.wp_base.specs.declared.answers.Status.{Status}
use Rattle.wp_base.specs.declared.answers.Status.TheVariants as status

abbrev pub status_of : Bool → Status
status_of true = status.AllProved
status_of false = status.SomeUnknown
