-- Where a `forall` is taken: at terms for which an access or a call in its body becomes one of the branch.
use Rattle.std.specs.Prelude.{ℕ, Bool, true, false, not, ◌&&◌, if◌then◌else◌, ℤ, pos, int_div, int_rem, List, [], ◌∷◌, ◌++◌, Option, Some, None, option_map}
use Rattle.std.specs.Str.{bytes_eq}
use Rattle.std.specs.Option.{option_and_then}
use Rattle.wp_base.specs.Blocks.{same_cell}
use Rattle.qed_terms.specs.declared.head.Sort.TheVariants as sort
use Rattle.qed_terms.specs.declared.head.Head.TheVariants as h
use Rattle.qed_terms.specs.Free.{is_this, binds}
use Rattle.qed_terms.specs.Operators.{is_zero, is_equal}
use Rattle.qed_terms.specs.Setting.{Logic}
use Rattle.qed_terms.specs.Tree.{Tree, node, Trees, stop, more, head_of, at_most, less, or_of}
use Rattle.qed_linear.specs.Linear.{Part, Lin, part, lin, checked, subtract, to_lin, of_lin}
use Rattle.qed_substitution.specs.Substitution.{replace, may_replace}
use Rattle.qed_calls.specs.Calls.{fits_call}
use Rattle.instance_rows.specs.Accesses.{Access, each_some}
use Rattle.instance_rows.specs.Calls.{argument_tree}

-- ---- nodes in which a name is meant

abbrev mutual
  -- the nodes around which no quantifier over the name stands, a node before its kids, from the left
  pub nodes_with : List ℕ → Tree → List Tree
  nodes_with x (node head ts) = node head ts ∷ nodes_below (binds x sort.Int head) x ts

  -- those of the kids; the body of a quantifier over the name is left out
  pub nodes_below : (bound : Bool) → List ℕ → Trees → List Tree
  nodes_below true x (more low (more high ts)) = nodes_with x low ++ nodes_with x high
  nodes_below true x ts = []
  nodes_below false x stop = []
  nodes_below false x (more t ts) = nodes_with x t ++ nodes_below false x ts

-- ---- calls of the setting's functions, by the argument that counts down

pub record Call : Type 0 where
  pub name : List ℕ
  pub number : Tree

abbrev pub call_to : List ℕ → Tree → Call
call_to x n = record { name = x; number = n }

abbrev pub call_among : List Logic → List ℕ → Trees → Option Call
call_among [] x ts = None
call_among (f ∷ fs) x ts = if fits_call x ts f then option_map (call_to x) (argument_tree ts f.number) else call_among fs x ts

abbrev pub call_at : List Logic → Tree → Option Call
call_at fs (node (h.App x) ts) = call_among fs x ts
call_at fs t = None

abbrev pub calls_in : List Logic → List Tree → List Call
calls_in fs = each_some (call_at fs)

-- ---- the term for which a name makes one form another

abbrev pub is_variable : List ℕ → Tree → Bool
is_variable x t = is_this x sort.Int (head_of t)

-- the coefficient of the name
abbrev pub times_in : List ℕ → List Part → ℤ
times_in x [] = pos 0
times_in x (p ∷ ps) = if is_variable x p.atom then p.times else times_in x ps

abbrev pub without_name : List ℕ → List Part → List Part
without_name x [] = []
without_name x (p ∷ ps) = if is_variable x p.atom then ps else p ∷ without_name x ps

abbrev pub goes_into : ℤ → ℤ → Bool
goes_into c z = is_zero (int_rem z c)

abbrev pub goes_into_parts : ℤ → List Part → Bool
goes_into_parts c [] = true
goes_into_parts c (p ∷ ps) = goes_into c p.times && goes_into_parts c ps

abbrev pub parts_over : ℤ → List Part → List Part
parts_over c [] = []
parts_over c (p ∷ ps) = part p.atom (int_div p.times c) ∷ parts_over c ps

-- a form divided by a number other than 0, where the number goes into all of it, and where it fits 128 bits
abbrev pub divided : ℤ → Lin → Option Lin
divided c f =
    if goes_into_parts c f.parts && goes_into c f.constant then checked (lin (parts_over c f.parts) (int_div f.constant c)) else None

-- Of a form with the name and another form: the difference of the other one and what stands beside the name, divided by the name's
-- coefficient. All of it where it fits 128 bits, and the coefficient passes.
abbrev pub solved : (may : ℤ → Bool) → List ℕ → (with_name other : Lin) → Option Lin
solved may x f g =
    if may (times_in x f.parts)
    then option_and_then (divided (times_in x f.parts)) (checked (subtract g (lin (without_name x f.parts) f.constant)))
    else None

abbrev pub term_where : (may : ℤ → Bool) → List ℕ → (with_name other : Tree) → Option Tree
term_where may x t u = option_map of_lin (solved may x (to_lin t) (to_lin u))

abbrev pub is_nonzero : ℤ → Bool
is_nonzero c = not (is_zero c)

abbrev pub is_one : ℤ → Bool
is_one c = is_equal c (pos 1)

-- ---- a `forall` at a term

pub record Quantified : Type 0 where
  pub name : List ℕ
  pub low : Tree
  pub high : Tree
  pub body : Tree

abbrev pub quantified_at : Tree → Option Quantified
quantified_at (node (h.Forall x) (more low (more high (more f stop)))) = Some (record { name = x; low = low; high = high; body = f })
quantified_at t = None

-- where its bounds don't hold the term, or else its body with the term for the name
abbrev pub at_term : Quantified → Tree → Tree
at_term q t = or_of (less t q.low ∷ at_most q.high t ∷ replace q.name t q.body ∷ [])

-- no quantifier in the body may bind a name of the term
abbrev pub instance_at : Quantified → (term : Option Tree) → Option Tree
instance_at q None = None
instance_at q (Some t) = if may_replace q.name t q.body then Some (at_term q t) else None

-- by an access in the body and one in the branch, to cells of one kind
abbrev pub instance_by_access : Quantified → (trigger there : Access) → Option Tree
instance_by_access q a c = if same_cell a.kind c.kind then instance_at q (term_where is_nonzero q.name a.offset c.offset) else None

-- by a call in the body and one in the branch, of one function
abbrev pub instance_by_call : Quantified → (trigger there : Call) → Option Tree
instance_by_call q a c = if bytes_eq a.name c.name then instance_at q (term_where is_one q.name a.number c.number) else None
