-- What the code's values are in the grammar.
use Rattle.c_syntax.specs.declared.token.TokenKind.{TokenKind}
use Rattle.c_syntax.specs.declared.token.TokenKind.TheVariants as k
use Rattle.c_syntax.specs.declared.token.Punct.TheVariants as p
use Rattle.c_grammar.specs.Terms as g
use Rattle.parse_terms.specs.declared.place.Place.{Place}
use Rattle.parse_terms.specs.declared.place.Place.TheVariants as place
use Rattle.parse_terms.specs.declared.past.Side.{Side}
use Rattle.parse_terms.specs.declared.past.Side.TheVariants as side

abbrev pub view_place : Place → g.Place
view_place place.Anywhere = g.anywhere
view_place place.InSet = g.in_set
view_place place.InChain = g.in_chain

-- what a token is to the brackets around it
abbrev pub side_of : TokenKind → Side
side_of (k.Punct p.OpenParen) = side.Opens
side_of (k.Punct p.OpenBracket) = side.Opens
side_of (k.Punct p.CloseParen) = side.Closes
side_of (k.Punct p.CloseBracket) = side.Closes
side_of (k.Punct p.Range) = side.Dots
side_of _ = side.Neither
