-- Parameters, as the code has them.
use Rattle.std.specs.Prelude.{List, map}
use Rattle.qed_terms.specs.declared.term.Term.{Term}
use Rattle.qed_terms.specs.Setting.{Param}
use Rattle.qed_terms.specs.View.{param_of, term_tree}

abbrev pub param : Term → Param
param t = param_of (term_tree t)

abbrev pub params : List Term → List Param
params = map param
