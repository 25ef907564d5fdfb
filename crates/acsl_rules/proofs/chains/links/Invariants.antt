use Rattle.std.proofs.Common.{◌≡◌, length, map}
use Rattle.acsl_trees.specs.Operands.{view_operand}
use Rattle.acsl_trees.specs.Tree.{view_trees}
use Rattle.acsl_rules.specs.Chains.{onto, links}
use Rattle.acsl_rules.proofs.chains.links.Given as goal

-- the links so far, and those that are to come
abbrev pub invariant-loop-value : goal.invariant-loop-value
invariant-loop-value l = record {
  count : l.value-iterator.rest.len ≡ length l.value-iterator.rest.items;
  so_far : onto (view_trees l.kids) (links l.line l.before l.left (map view_operand l.value-iterator.rest.items)) ≡ onto (view_trees l.initial.kids) (links l.line l.initial.before l.fn.ops (map view_operand l.fn.values));
}
