use Rattle.std.proofs.Common.{◌≡◌, ◌≤◌, length, drop, None}
use Rattle.name_table.specs.Nesting.{meaning_in}
use Rattle.name_table.proofs.scopes.Scopes.find.Given as goal

-- none of the scopes that were looked at has the name
abbrev pub invariant-loop-left : goal.invariant-loop-left
invariant-loop-left g l = record {
  within : l.left ≤ length l.self-inside.tables.items;
  none_inside : meaning_in (drop l.left l.self-inside.tables.items) l.name ≡ None;
}

abbrev pub decreases-loop-left : goal.decreases-loop-left
decreases-loop-left g l = l.left
