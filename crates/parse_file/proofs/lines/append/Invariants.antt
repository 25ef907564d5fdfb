use Rattle.std.proofs.Common.{◌≡◌, ◌++◌, length}
use Rattle.parse_file.proofs.lines.append.Given as goal

-- what was appended, and what is to come
abbrev pub invariant-loop-item : goal.invariant-loop-item
invariant-loop-item g l = record {
  count : l.item-iterator.rest.len ≡ length l.item-iterator.rest.items;
  so_far : l.all ++ l.item-iterator.rest.items ≡ l.fn.items ++ l.fn.more;
}
