use Rattle.std.proofs.Common.{◌≡◌, ◌++◌, length}
use Rattle.parse_file.proofs.file.declare_all.Given as goal

-- the names that were declared, and those that are to come
abbrev pub invariant-loop-name : goal.invariant-loop-name
invariant-loop-name l = record {
  count : l.name-iterator.rest.len ≡ length l.name-iterator.rest.items;
  so_far : l.all ++ l.name-iterator.rest.items ≡ l.fn.types ++ l.fn.names;
}
