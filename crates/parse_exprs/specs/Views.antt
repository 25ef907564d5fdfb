-- What the loops and the public functions give, beside the readers on lists.
use Rattle.std.specs.Prelude.{Bool, List, [], ◌∷◌, ◌++◌, Option, Some}
use Rattle.c_syntax.specs.declared.token.Token.{Token}
use Rattle.c_syntax.specs.declared.expr.Expr.{Expr}
use Rattle.c_syntax.specs.Expr as e
use Rattle.c_syntax.specs.View.{view_expr}
use Rattle.c_grammar.specs.Reading.{◌>>=◌}
use Rattle.parse_exprs.specs.declared.trees.Place.{Place}

abbrev pub view_arg : Expr × Bool → e.Expr × Bool
view_arg x = (view_expr x.0, x.1)

abbrev pub view_arms : Expr × Expr → e.Expr × e.Expr
view_arms x = (view_expr x.0, view_expr x.1)

-- these, and then those that are read
abbrev pub with_args : List e.Expr → Option (List e.Expr × List Token) → Option (List e.Expr × List Token)
with_args es given = given >>= λ x. Some (es ++ x.0, x.1)

-- the value assigned to a place
abbrev pub assign_to : Place → e.Expr → e.Expr
assign_to p value = e.assign p.line p.op (view_expr p.to) value

-- to each of these places in turn, the last one first
unfoldable pub assign_all : List Place → e.Expr → e.Expr
assign_all [] value = value
assign_all (p ∷ ps) value = assign_to p (assign_all ps value)

abbrev pub with_places : List Place → Option (e.Expr × List Token) → Option (e.Expr × List Token)
with_places ps given = given >>= λ x. Some (assign_all ps x.0, x.1)
