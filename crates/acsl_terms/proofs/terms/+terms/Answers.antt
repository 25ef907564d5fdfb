use Rattle.std.proofs.Common.{rules}
use Rattle.c_syntax.proofs.Equations.{view_term_node-Char}
use Rattle.acsl_terms.proofs.terms.+terms.Goals as goal

pub typed_term-returns-in-Leaf-Char : goal.typed_term-returns-in-Leaf-Char
typed_term-returns-in-Leaf-Char t c = search (rules, view_term_node-Char)
