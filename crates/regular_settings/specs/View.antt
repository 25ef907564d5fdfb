-- What a body may use, as it is in memory.
use Rattle.std.specs.Prelude.{ℕ, pos, negsuc, ℤ, Bool, false, ◌&&◌, List, map, Option, Some, None, option_map}
use Rattle.std.specs.Borrow.{Bor}
use Rattle.std.specs.Str.{bytes_eq}
use Rattle.qed_terms.specs.declared.head.Sort.TheVariants as sort
use Rattle.qed_terms.specs.declared.head.Head.TheVariants as h
use Rattle.qed_terms.specs.declared.head.TermOp.{TermOp}
use Rattle.qed_terms.specs.declared.head.TermOp.TheVariants as op
use Rattle.qed_terms.specs.declared.setting.LogicFn.{LogicFn}
use Rattle.qed_terms.specs.declared.term.Term.{Term}
use Rattle.qed_terms.specs.Operators.{is_equal}
use Rattle.qed_terms.specs.Setting.{Param, Logic}
use Rattle.qed_terms.specs.Tree.{Tree, node, Trees, stop, more}
use Rattle.qed_terms.specs.View.{param_of, term_tree, view_logic}
use Rattle.regular_settings.specs.declared.bodies.Uses.{Uses}
use Rattle.regular_settings.specs.Shapes.{is_allowed}

abbrev pub param : Term → Param
param t = param_of (term_tree t)

abbrev pub params : List Term → List Param
params = map param

abbrev pub lent : Bor LogicFn → Logic
lent f = view_logic f.now

abbrev pub params_of : Uses → List Param
params_of u = params u.params.now

abbrev pub allowed : Uses → List ℕ → Trees → Bool
allowed u = is_allowed (map view_logic u.before.now) (option_map lent u.own)

-- ---- one less

-- this name of an integer
abbrev pub is_counter : List ℕ → Tree → Bool
is_counter n (node (h.Var x sort.Int) stop) = bytes_eq x n
is_counter n t = false

abbrev pub is_number : ℤ → Tree → Bool
is_number i (node (h.Num z) stop) = is_equal z i
is_number i t = false

abbrev pub is_pair : List ℕ → ℤ → Trees → Bool
is_pair n i (more t (more u stop)) = is_counter n t && is_number i u
is_pair n i ts = false

-- the sum or the difference that is one less
abbrev pub less_by : TermOp → Option ℤ
less_by op.Sub = Some (pos 1)
less_by op.Add = Some (negsuc 0)
less_by o = None

abbrev pub is_less_by : List ℕ → Option ℤ → Trees → Bool
is_less_by n (Some i) ts = is_pair n i ts
is_less_by n None ts = false
