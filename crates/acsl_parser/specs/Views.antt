-- What the code's values are in the grammar.
use Rattle.std.specs.Prelude.{ℕ}
use Rattle.c_syntax.specs.View.{view_pred}
use Rattle.c_syntax.specs.declared.annot.Pred.{Pred}
use Rattle.c_syntax.specs.Pred as r
use Rattle.c_grammar.specs.Annots as g
use Rattle.acsl_parser.specs.declared.endings.Ending.{Ending}
use Rattle.acsl_parser.specs.declared.endings.Ending.TheVariants as ending

abbrev pub view_ending : Ending → g.Ending
view_ending (ending.Complete names) = g.complete_ending names
view_ending (ending.Disjoint names) = g.disjoint_ending names

-- an assertion, with its line
abbrev pub view_assert : Pred × ℕ → r.Pred × ℕ
view_assert x = (view_pred x.0, x.1)
