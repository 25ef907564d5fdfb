-- The line of an expression or a term: that of its token or operator, whatever it is.
use Rattle.std.specs.Prelude.{ℕ}
use Rattle.c_syntax.specs.Expr as e
use Rattle.c_syntax.specs.Term as t

abbrev pub line_of : e.Expr → ℕ
line_of (e.number line token) = line
line_of (e.char line value) = line
line_of (e.name line x) = line
line_of (e.unary line op a) = line
line_of (e.binary line op a b) = line
line_of (e.cond line test a b) = line
line_of (e.assign line op a b) = line
line_of (e.step line up prefix a) = line
line_of (e.call line f args) = line
line_of (e.index line a b) = line
line_of (e.field line a f arrow) = line
line_of (e.cast line type a) = line
line_of (e.sizeof line type) = line

abbrev pub term_line_of : t.Term → ℕ
term_line_of (t.number line token) = line
term_line_of (t.char line value) = line
term_line_of (t.name line x) = line
term_line_of (t.unary line op a) = line
term_line_of (t.binary line op a b) = line
term_line_of (t.cond line test a b) = line
term_line_of (t.call line f args) = line
term_line_of (t.index line a b) = line
term_line_of (t.field line a f arrow) = line
term_line_of (t.cast line type a) = line
term_line_of (t.result line) = line
term_line_of (t.old line a) = line
term_line_of (t.at_label line a label) = line
term_line_of (t.null line) = line
term_line_of (t.range line a b) = line
