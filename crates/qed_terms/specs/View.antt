-- The tree that a term or a formula of the program stands for, and its setting.
use Rattle.std.specs.Prelude.{[], map}
use Rattle.qed_terms.specs.declared.head.Sort.TheVariants as sort
use Rattle.qed_terms.specs.declared.head.Head.TheVariants as h
use Rattle.qed_terms.specs.declared.term.Term.{Term, Term-F, fold-Term}
use Rattle.qed_terms.specs.declared.term.Formula.{Formula, Formula-F, fold-Formula}
use Rattle.qed_terms.specs.declared.term.Goal.{Goal}
use Rattle.qed_terms.specs.declared.setting.LogicFn.{LogicFn}
use Rattle.qed_terms.specs.declared.setting.Setting as memory
use Rattle.qed_terms.specs.Tree.{Tree, node, stop, trees_of, one, two, three, goal_of}
use Rattle.qed_terms.specs.Setting.{Param, Logic, Setting}

abbrev pub term_layer : Term-F Tree Tree → Tree
term_layer (Term-F.Num z) = node (h.Num z) stop
term_layer (Term-F.Var x s) = node (h.Var x s) stop
term_layer (Term-F.Op op kids) = node (h.Term op) (trees_of kids)
term_layer (Term-F.Ite f t u) = node h.Ite (three f t u)
term_layer (Term-F.App f kids) = node (h.App f) (trees_of kids)

abbrev pub formula_layer : Formula-F Tree Tree → Tree
formula_layer Formula-F.True = node h.True stop
formula_layer Formula-F.False = node h.False stop
formula_layer (Formula-F.Rel op kids) = node (h.Form op) (trees_of kids)
formula_layer (Formula-F.Not f) = node h.Not (one f)
formula_layer (Formula-F.And fs) = node h.And (trees_of fs)
formula_layer (Formula-F.Or fs) = node h.Or (trees_of fs)
formula_layer (Formula-F.Imp f g) = node h.Imp (two f g)
formula_layer (Formula-F.Iff f g) = node h.Iff (two f g)
formula_layer (Formula-F.Forall x t u f) = node (h.Forall x) (three t u f)
formula_layer (Formula-F.Exists x t u f) = node (h.Exists x) (three t u f)

unfoldable pub term_tree : Term → Tree
term_tree = fold-Term Tree Tree formula_layer term_layer

unfoldable pub formula_tree : Formula → Tree
formula_tree = fold-Formula Tree Tree formula_layer term_layer

abbrev pub goal_tree : Goal → Tree
goal_tree g = goal_of (map formula_tree g.known) (formula_tree g.check)

-- a parameter is a name
abbrev pub param_of : Tree → Param
param_of (node (h.Var x s) ts) = record { name = x; sort = s }
param_of t = record { name = []; sort = sort.Int }

abbrev pub view_logic : LogicFn → Logic
view_logic f = record {
  name = f.name;
  params = map (λ p. param_of (term_tree p)) f.params;
  number = f.number;
  cut = f.cut;
  base = term_tree f.base;
  step = term_tree f.step;
}

abbrev pub view_setting : memory.Setting → Setting
view_setting s = record { long_bits = s.long_bits; logic = map view_logic s.logic }
