-- Sums as they are written, and the rest of an equality for each of its atoms.
use Rattle.std.specs.Prelude.{Bool, true, false, if◌then◌else◌, ℤ, pos, neg_ℤ, List, [], ◌∷◌, map, Option, Some, None}
use Rattle.qed_terms.specs.declared.head.Head.{Head}
use Rattle.qed_terms.specs.declared.head.Head.TheVariants as h
use Rattle.qed_terms.specs.declared.head.TermOp.{TermOp}
use Rattle.qed_terms.specs.declared.head.TermOp.TheVariants as op
use Rattle.qed_terms.specs.Meaning.{at_two}
use Rattle.qed_terms.specs.Nodes.{kids_of}
use Rattle.qed_terms.specs.Tree.{Tree, head_of}
use Rattle.qed_linear.specs.Linear.{Part, Lin, part, lin}

abbrev pub is_sum_op : TermOp → Bool
is_sum_op op.Add = true
is_sum_op o = false

abbrev pub is_product_op : TermOp → Bool
is_product_op op.Mul = true
is_product_op o = false

abbrev pub is_sum : Head → Bool
is_sum (h.Term o) = is_sum_op o
is_sum head = false

abbrev pub is_product : Head → Bool
is_product (h.Term o) = is_product_op o
is_product head = false

abbrev pub number_in_head : Head → Option ℤ
number_in_head (h.Num z) = Some z
number_in_head head = None

abbrev pub number_in : Tree → Option ℤ
number_in t = number_in_head (head_of t)

-- ---- a term of a sum: a number times an atom, or an atom

abbrev pub multiple : Option ℤ → Tree → Tree → Part
multiple (Some z) a t = part a z
multiple None a t = part t (pos 1)

abbrev pub written_part : Tree → Part
written_part t = if is_product (head_of t) then at_two (part t (pos 1)) (λ n a. multiple (number_in n) a t) (kids_of t) else part t (pos 1)

-- the last term of a sum is its constant where it is a number
abbrev pub last_part : Option ℤ → Tree → List Part
last_part (Some z) t = []
last_part None t = written_part t ∷ []

abbrev pub last_number : Option ℤ → ℤ
last_number (Some z) = z
last_number None = pos 0

abbrev pub parts_in : List Tree → List Part
parts_in [] = []
parts_in (t ∷ []) = last_part (number_in t) t
parts_in (t ∷ u ∷ ts) = written_part t ∷ parts_in (u ∷ ts)

abbrev pub constant_in : List Tree → ℤ
constant_in [] = pos 0
constant_in (t ∷ []) = last_number (number_in t)
constant_in (t ∷ u ∷ ts) = constant_in (u ∷ ts)

abbrev pub terms_in : Tree → List Tree
terms_in t = if is_sum (head_of t) then kids_of t else t ∷ []

-- The form that a term is, as it is written. It is that of which the term of a form in order was made.
abbrev pub written : Tree → Lin
written t = lin (parts_in (terms_in t)) (constant_in (terms_in t))

-- ---- what an atom equals where a form is 0

abbrev pub turned : Part → Part
turned p = part (p.atom) (neg_ℤ (p.times))

-- for an atom of coefficient 1, and of coefficient -1
abbrev pub rest_form : (plus : Bool) → List Part → ℤ → Lin
rest_form true ps c = lin (map turned ps) (neg_ℤ c)
rest_form false ps c = lin ps c
