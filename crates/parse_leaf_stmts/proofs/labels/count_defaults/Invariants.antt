use Rattle.std.proofs.Common.{◌≡◌, ◌≤◌, ◌+◌, ◌-◌, length, map}
use Rattle.c_syntax.specs.View.{view_stmt}
use Rattle.c_syntax.specs.Stmt.{stmts_of}
use Rattle.c_grammar.specs.Stmts.{defaults}
use Rattle.parse_leaf_stmts.proofs.labels.count_defaults.Given as goal

abbrev pub invariant-loop-turn : goal.invariant-loop-turn
invariant-loop-turn l = record {
  few : l.count ≤ l.turn;
  left : length l.rest ≡ l.turn-end - l.turn;
  all : l.count + defaults (stmts_of (map view_stmt l.rest)) ≡ defaults (stmts_of (map view_stmt l.stmts));
}
