-- What the program's values are to the readers on lists.
use Rattle.std.specs.Prelude.{◌≡◌, map, Option, Some, None, List, ◌++◌}
use Rattle.std.specs.Option.{option_map}
use Rattle.std.specs.Borrow.{Bor}
use Rattle.c_syntax.specs.declared.token.Token.{Token}
use Rattle.c_syntax.specs.View.{view_ctype, view_stmt, view_decl}
use Rattle.c_grammar.specs.Decls as g
use Rattle.parse_decls.specs.Views.{view_param}
use Rattle.parse_file.specs.Read as r
use Rattle.parse_file.specs.declared.function.Header.{Header}
use Rattle.parse_file.specs.declared.function.Ending.{Ending}
use Rattle.parse_file.specs.declared.found.Lines.{Lines}
use Rattle.parse_file.specs.declared.found.Found.{Found}
use Rattle.parse_file.specs.declared.file.Front.{Front}

-- the same tokens, or none
abbrev pub Skips : Option (Bor (List Token)) → Option (List Token) → Type 0
Skips (Some rest) given = given ≡ Some rest.now
Skips None given = given ≡ None

abbrev pub view_lines : Lines → g.Lines
view_lines x = record { first = x.first; params = x.params; stmts = x.stmts }

abbrev pub view_header : Header → r.Header
view_header x = record { name = x.name; result = view_ctype x.result; params = map view_param x.params; line = x.line }

abbrev pub view_ending : Ending → r.Ending
view_ending x = record { body = option_map view_stmt x.body; end = x.end; starts = x.starts }

abbrev pub view_found : Found → r.Found
view_found x = record { decls = map view_decl x.decls; names = x.names; lines = map view_lines x.lines }

abbrev pub view_front : Front → r.Front
view_front x = record { decls = map view_decl x.decls; names = x.names; lines = map view_lines x.lines; left = x.left.now }

-- ---- files that were read in part

-- these declarations, and then those
abbrev pub and_then : r.Front → r.Front → r.Front
and_then f g = record { decls = f.decls ++ g.decls; names = g.names; lines = f.lines ++ g.lines; left = g.left }
