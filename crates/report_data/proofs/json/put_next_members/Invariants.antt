use Rattle.std.proofs.Common.{◌≡◌, ◌++◌, map, drop}
use Rattle.report_read.specs.Bytes.{joined}
use Rattle.report_data.specs.Json.{next_member}
use Rattle.report_data.specs.View.{view_member}
use Rattle.report_data.proofs.json.put_next_members.Given as goal

abbrev pub invariant-loop-member : goal.invariant-loop-member
invariant-loop-member l = l.text.items ++ joined (map next_member (map view_member (drop l.member-index l.members))) ≡ l.initial.text.items ++ joined (map next_member (map view_member l.members))
