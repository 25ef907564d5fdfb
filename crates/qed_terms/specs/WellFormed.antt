-- Well formed terms and formulas: each head has the kids of its row, in number and sort.
use Rattle.std.specs.Prelude.{ℕ, zero, suc, Bool, true, false, not, ◌&&◌, List, [], ◌∷◌}
use Rattle.std.specs.List.{list_all}
use Rattle.wp_base.specs.declared.kinds.CellKind.TheVariants as cell
use Rattle.qed_terms.specs.declared.head.Sort.{Sort}
use Rattle.qed_terms.specs.declared.head.Sort.TheVariants as sort
use Rattle.qed_terms.specs.declared.head.Shape.{Shape}
use Rattle.qed_terms.specs.declared.head.Shape.TheVariants as shape
use Rattle.qed_terms.specs.declared.head.Head.{Head}
use Rattle.qed_terms.specs.declared.head.Head.TheVariants as h
use Rattle.qed_terms.specs.declared.head.TermOp.{TermOp}
use Rattle.qed_terms.specs.declared.head.TermOp.TheVariants as op
use Rattle.qed_terms.specs.declared.head.FormOp.{FormOp}
use Rattle.qed_terms.specs.declared.head.FormOp.TheVariants as form
use Rattle.qed_terms.specs.Names.{is_name, is_memory_name}
use Rattle.qed_terms.specs.Tree.{Tree, node, Trees, stop, more}

-- What is wanted at a place: a term of a sort, a formula, or an argument of a logic function, which is an integer or a memory.
pub data Place : Type 0 where
  term : Sort → Place
  formula : Place
  argument : Place

abbrev pub int : Place
int = term sort.Int

abbrev pub mem : Place
mem = term sort.Memory

abbrev pub tab : Place
tab = term sort.Table

abbrev pub same_sort : Sort → Sort → Bool
same_sort sort.Int sort.Int = true
same_sort sort.Memory sort.Memory = true
same_sort sort.Table sort.Table = true
same_sort s t = false

-- ---- what a head makes

abbrev pub made_by : TermOp → Sort
made_by op.Store = sort.Memory
made_by (op.Alloc layout) = sort.Table
made_by op.Grow = sort.Table
made_by o = sort.Int

-- a term of this sort may stand at the place
abbrev pub takes_term : Place → Sort → Bool
takes_term (term s) t = same_sort s t
takes_term formula t = false
takes_term argument sort.Int = true
takes_term argument sort.Memory = true
takes_term argument sort.Table = false

-- among arguments a name's form tells whether it is a memory
abbrev pub takes_name : Place → Sort → List ℕ → Bool
takes_name (term s) t x = same_sort s t
takes_name formula t x = false
takes_name argument sort.Int x = not (is_memory_name x)
takes_name argument sort.Memory x = is_memory_name x
takes_name argument sort.Table x = false

abbrev pub takes_formula : Place → Bool
takes_formula formula = true
takes_formula place = false

abbrev pub may_stand : Place → Head → Bool
may_stand place (h.Num z) = takes_term place sort.Int
may_stand place (h.Var x s) = is_name x && takes_name place s x
may_stand place (h.Term o) = takes_term place (made_by o)
may_stand place h.Ite = takes_term place sort.Int
may_stand place (h.App f) = is_name f && takes_term place sort.Int
may_stand place (h.Forall x) = is_name x && takes_formula place
may_stand place (h.Exists x) = is_name x && takes_formula place
may_stand place head = takes_formula place

-- ---- what it wants of its kids

-- as many places as there are kids, all of one kind
abbrev pub each : Place → (kids : ℕ) → List Place
each place zero = []
each place (suc n) = place ∷ each place n

abbrev pub term_places : TermOp → (kids : ℕ) → List Place
term_places op.Add n = each int n
term_places op.Sub n = int ∷ int ∷ []
term_places op.Mul n = each int n
term_places op.Neg n = int ∷ []
term_places op.Div n = int ∷ int ∷ []
term_places op.Mod n = int ∷ int ∷ []
term_places (op.Wrap k) n = int ∷ []
term_places op.ShiftLeft n = int ∷ int ∷ []
term_places op.ShiftRight n = int ∷ int ∷ []
term_places op.BitAnd n = int ∷ int ∷ []
term_places op.BitOr n = int ∷ int ∷ []
term_places op.BitXor n = int ∷ int ∷ []
term_places op.BitNot n = int ∷ []
term_places op.Load n = mem ∷ int ∷ int ∷ []
term_places op.Count n = tab ∷ []
term_places op.Len n = tab ∷ int ∷ []
term_places op.Store n = mem ∷ int ∷ int ∷ int ∷ []
term_places (op.Alloc layout) n = tab ∷ []
term_places op.Grow n = tab ∷ int ∷ []

abbrev pub region_places : List Shape → List Place
region_places [] = []
region_places (shape.Cells ∷ shapes) = int ∷ int ∷ int ∷ region_places shapes
region_places (shape.New ∷ shapes) = int ∷ region_places shapes

abbrev pub form_places : FormOp → List Place
form_places form.Equal = int ∷ int ∷ []
form_places form.AtMost = int ∷ int ∷ []
form_places form.Less = int ∷ int ∷ []
form_places form.Same = mem ∷ mem ∷ []
form_places (form.Read k) = tab ∷ int ∷ int ∷ []
form_places (form.Write k) = tab ∷ int ∷ int ∷ []
form_places form.Live = tab ∷ int ∷ []
form_places (form.Has layout) = tab ∷ int ∷ []
form_places (form.WellFormed (cell.Of k)) = tab ∷ mem ∷ []
form_places (form.WellFormed cell.Ptr) = tab ∷ mem ∷ mem ∷ []
form_places (form.Frame shapes) = mem ∷ mem ∷ region_places shapes

abbrev pub kid_places : Head → (kids : ℕ) → List Place
kid_places (h.Num z) n = []
kid_places (h.Var x s) n = []
kid_places (h.Term o) n = term_places o n
kid_places h.Ite n = formula ∷ int ∷ int ∷ []
kid_places (h.App f) n = each argument n
kid_places (h.Form o) n = form_places o
kid_places h.True n = []
kid_places h.False n = []
kid_places h.Not n = formula ∷ []
kid_places h.And n = each formula n
kid_places h.Or n = each formula n
kid_places h.Imp n = formula ∷ formula ∷ []
kid_places h.Iff n = formula ∷ formula ∷ []
kid_places (h.Forall x) n = int ∷ int ∷ formula ∷ []
kid_places (h.Exists x) n = int ∷ int ∷ formula ∷ []

abbrev pub kid_count : Trees → ℕ
kid_count stop = 0
kid_count (more t ts) = suc (kid_count ts)

abbrev mutual
  -- the tree is a well formed one for the place
  pub fits : Place → Tree → Bool
  fits place (node head ts) = may_stand place head && all_fit (kid_places head (kid_count ts)) ts

  -- one for each place, in order
  pub all_fit : List Place → Trees → Bool
  all_fit [] stop = true
  all_fit [] (more t ts) = false
  all_fit (place ∷ places) stop = false
  all_fit (place ∷ places) (more t ts) = fits place t && all_fit places ts

-- a well formed goal
abbrev pub is_goal : List Tree → Tree → Bool
is_goal known check = list_all (fits formula) known && fits formula check
