use Rattle.std.proofs.Common.{◌≡◌, ◌++◌, length, map}
use Rattle.c_syntax.specs.View.{view_var}
use Rattle.parse_decls.specs.Views.{view_param}
use Rattle.c_grammar.specs.Decls.{params_of, param_lines}
use Rattle.parse_file.proofs.lines.split_params.Given as goal

-- the parameters so far, and those that are to come
abbrev pub invariant-loop-var : goal.invariant-loop-var
invariant-loop-var l = record {
  count : l.var-iterator.rest.len ≡ length l.var-iterator.rest.items;
  vars : map view_var l.vars ++ params_of (map view_param l.var-iterator.rest.items) ≡ params_of (map view_param l.fn.params);
  lines : l.lines ++ param_lines (map view_param l.var-iterator.rest.items) ≡ param_lines (map view_param l.fn.params);
}
