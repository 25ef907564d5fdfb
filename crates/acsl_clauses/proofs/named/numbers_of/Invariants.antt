use Rattle.std.proofs.Common.{◌≡◌, drop}
use Rattle.acsl_clauses.specs.Clauses.{numbers_of, numbers_onto}
use Rattle.acsl_clauses.proofs.named.numbers_of.Given as goal

abbrev pub invariant-loop-i : goal.invariant-loop-i
invariant-loop-i l = numbers_onto l.numbers.items (numbers_of l.behaviors l.line (drop l.i l.names)) ≡ numbers_of l.behaviors l.line l.names
