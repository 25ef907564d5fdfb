use Rattle.std.proofs.Common.{◌≡◌, ◌+◌, length, map}
use Rattle.c_grammar.specs.Decls.{past_limit}
use Rattle.parse_file.specs.Views.{view_lines}
use Rattle.c_parser.proofs.limits.past_limit.Given as goal

-- what is left tells as much, with the functions before it counted
abbrev pub invariant-loop-count : goal.invariant-loop-count
invariant-loop-count l = record {
  counted : l.count + length l.rest ≡ length l.functions;
  so_far : past_limit l.count (map view_lines l.rest) ≡ past_limit 0 (map view_lines l.functions);
}
