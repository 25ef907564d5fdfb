-- Linear forms of terms: numbers times atoms, in the order of the atoms, and a constant.
use Rattle.std.specs.Prelude.{ℕ, zero, suc, ◌+◌, ◌-◌, ◌/◌, ◌%◌, ◌^◌, nat_lt, ◌==◌, Bool, true, false, ◌&&◌, if◌then◌else◌, ℤ, pos, negsuc, ◌+ℤ◌, ◌*ℤ◌, int_lt, int_div, unsigned_abs, List, [], ◌∷◌, ◌++◌, map, Option, Some, None}
use Rattle.std.specs.declared.cmp.Ordering.{Ordering}
use Rattle.std.specs.declared.cmp.Ordering.TheVariants.{Less, Equal, Greater}
use Rattle.qed_terms.specs.declared.head.Head.{Head}
use Rattle.qed_terms.specs.declared.head.Head.TheVariants as h
use Rattle.qed_terms.specs.declared.head.TermOp.{TermOp}
use Rattle.qed_terms.specs.declared.head.TermOp.TheVariants as op
use Rattle.qed_terms.specs.declared.head.Sort.TheVariants as sort
use Rattle.qed_terms.specs.Tree.{Tree, node, Trees, stop, more, trees_of, list_of, head_of, kids_in, two, num}
use Rattle.qed_terms.specs.Operators.{is_zero, is_equal}
use Rattle.qed_terms.specs.WellFormed.{same_sort, made_by}
use Rattle.qed_terms.specs.Order.{tree_cmp}

-- whether a number fits 128 bits
unfoldable pub fits : ℤ → Bool
fits (pos n) = nat_lt n (2 ^ 127)
fits (negsuc n) = nat_lt n (2 ^ 127)

-- an atom and its coefficient
pub record Part : Type 0 where
  pub atom : Tree
  pub times : ℤ

pub record Lin : Type 0 where
  pub parts : List Part
  pub constant : ℤ

abbrev pub part : Tree → ℤ → Part
part a c = record { atom = a; times = c }

abbrev pub lin : List Part → ℤ → Lin
lin ps c = record { parts = ps; constant = c }

abbrev pub number : ℤ → Lin
number z = lin [] z

abbrev pub atom_lin : Tree → Lin
atom_lin t = lin (part t (pos 1) ∷ []) (pos 0)

abbrev pub is_empty : List Part → Bool
is_empty [] = true
is_empty (p ∷ ps) = false

abbrev pub is_number : Lin → Bool
is_number f = is_empty (f.parts)

-- ---- the term of a form: its parts, then the constant

abbrev pub part_tree : Part → Tree
part_tree p = if is_equal (p.times) (pos 1) then p.atom else node (h.Term op.Mul) (two (num (p.times)) (p.atom))

abbrev pub constant_trees : ℤ → List Tree
constant_trees c = if is_zero c then [] else num c ∷ []

abbrev pub sum_tree : List Tree → Tree
sum_tree [] = num (pos 0)
sum_tree (t ∷ []) = t
sum_tree (t ∷ u ∷ ts) = node (h.Term op.Add) (trees_of (t ∷ u ∷ ts))

abbrev pub of_lin : Lin → Tree
of_lin f = sum_tree (map part_tree (f.parts) ++ constant_trees (f.constant))

-- ---- sums and products of forms, over integers of any size

abbrev pub at_order : {A : Type 0} → Ordering → A → A → A → A
at_order Less a b c = a
at_order Equal a b c = b
at_order Greater a b c = c

-- no part of coefficient 0
abbrev pub cons_nonzero : Tree → ℤ → List Part → List Part
cons_nonzero a c ps = if is_zero c then ps else part a c ∷ ps

-- one part more
abbrev pub add_part : Tree → ℤ → List Part → List Part
add_part a c [] = cons_nonzero a c []
add_part a c (p ∷ ps) = at_order (tree_cmp a (p.atom)) (cons_nonzero a c (p ∷ ps)) (cons_nonzero (p.atom) (c +ℤ p.times) ps) (p ∷ add_part a c ps)

abbrev pub add_parts : List Part → List Part → List Part
add_parts [] qs = qs
add_parts (p ∷ ps) qs = add_part (p.atom) (p.times) (add_parts ps qs)

abbrev pub add : Lin → Lin → Lin
add f g = lin (add_parts (f.parts) (g.parts)) (f.constant +ℤ g.constant)

abbrev pub add_all : List Lin → Lin
add_all [] = number (pos 0)
add_all (f ∷ fs) = add f (add_all fs)

abbrev pub scale_parts : ℤ → List Part → List Part
scale_parts c [] = []
scale_parts c (p ∷ ps) = part (p.atom) (c *ℤ p.times) ∷ scale_parts c ps

abbrev pub scale : ℤ → Lin → Lin
scale c f = if is_zero c then number (pos 0) else lin (scale_parts c (f.parts)) (c *ℤ f.constant)

abbrev pub subtract : Lin → Lin → Lin
subtract f g = add f (scale (negsuc 0) g)

-- ---- the form of a term

-- the heads of the terms that mean an integer, whatever their kids are
abbrev pub is_integer : Head → Bool
is_integer (h.Num z) = true
is_integer (h.Var x s) = same_sort sort.Int s
is_integer (h.Term o) = same_sort sort.Int (made_by o)
is_integer h.Ite = true
is_integer (h.App f) = true
is_integer head = false

abbrev pub parts_fit : List Part → Bool
parts_fit [] = true
parts_fit (p ∷ ps) = (fits (p.times) && is_integer (head_of (p.atom))) && parts_fit ps

-- the form where it is of integers and all its numbers fit
abbrev pub checked : Lin → Option Lin
checked f = if parts_fit (f.parts) && fits (f.constant) then Some f else None

-- the numbers among the factors, multiplied
abbrev pub number_product : List Lin → ℤ
number_product [] = pos 1
number_product (f ∷ fs) = if is_number f then number_product fs *ℤ f.constant else number_product fs

abbrev pub other_factors : List Lin → List Lin
other_factors [] = []
other_factors (f ∷ fs) = if is_number f then other_factors fs else f ∷ other_factors fs

-- the number, where it fits 128 bits
abbrev pub fitted : ℤ → Option ℤ
fitted z = if fits z then Some z else None

-- ---- products of several factors: a number times an atom, of which the factors stand in order

-- the heads of the terms that stand in a product as they are
abbrev pub is_factor : Head → Bool
is_factor (h.Num z) = false
is_factor (h.Term op.Mul) = false
is_factor head = true

abbrev pub are_factors : Trees → Bool
are_factors stop = true
are_factors (more t ts) = is_factor (head_of t) && are_factors ts

abbrev pub are_several : Trees → Bool
are_several (more t (more u ts)) = true
are_several ts = false

-- a product that has neither numbers nor products among its factors
abbrev pub is_product : Tree → Bool
is_product (node (h.Term op.Mul) ts) = are_several ts && are_factors ts
is_product t = false

-- the factors of an atom
abbrev pub factors_of : Tree → List Tree
factors_of t = if is_product t then list_of (kids_in t) else t ∷ []

abbrev pub is_one_part : List Part → Bool
is_one_part (p ∷ []) = true
is_one_part ps = false

-- whether a form is a number times an atom
abbrev pub is_single : Lin → Bool
is_single f = is_one_part (f.parts) && is_zero (f.constant)

abbrev pub first_times : List Part → ℤ
first_times [] = pos 1
first_times (p ∷ ps) = p.times

abbrev pub first_factors : List Part → List Tree
first_factors [] = []
first_factors (p ∷ ps) = factors_of (p.atom)

-- the number of such a form and the factors of its atom; any other form is one factor
abbrev pub times_of : Lin → ℤ
times_of f = if is_single f then first_times (f.parts) else pos 1

abbrev pub factor_trees : Lin → List Tree
factor_trees f = if is_single f then first_factors (f.parts) else of_lin f ∷ []

abbrev pub times_product : List Lin → ℤ
times_product [] = pos 1
times_product (f ∷ fs) = times_product fs *ℤ times_of f

-- a factor in its place
abbrev pub insert_factor : Tree → List Tree → List Tree
insert_factor t [] = t ∷ []
insert_factor t (u ∷ us) = at_order (tree_cmp t u) (t ∷ u ∷ us) (t ∷ u ∷ us) (u ∷ insert_factor t us)

abbrev pub insert_factors : List Tree → List Tree → List Tree
insert_factors [] us = us
insert_factors (t ∷ ts) us = insert_factor t (insert_factors ts us)

abbrev pub sorted_factors : List Lin → List Tree
sorted_factors [] = []
sorted_factors (f ∷ fs) = insert_factors (factor_trees f) (sorted_factors fs)

abbrev pub product_tree : List Tree → Tree
product_tree ts = node (h.Term op.Mul) (trees_of ts)

abbrev pub product_part : Option ℤ → List Tree → Option Lin
product_part None ts = None
product_part (Some z) ts = Some (lin (part (product_tree ts) z ∷ []) (pos 0))

-- a number times these: a multiple of one of them, or of the product of several, and 0 where the number is 0
abbrev pub product_of : Option ℤ → List Lin → Option Lin
product_of None gs = None
product_of (Some c) [] = Some (number c)
product_of (Some c) (g ∷ []) = checked (scale c g)
product_of (Some c) (g ∷ h ∷ gs) = if is_zero c then Some (number (pos 0)) else product_part (fitted (times_product (g ∷ h ∷ gs) *ℤ c)) (sorted_factors (g ∷ h ∷ gs))

abbrev pub product_form : List Lin → Option Lin
product_form fs = product_of (fitted (number_product fs)) (other_factors fs)

abbrev pub op_form : TermOp → List Lin → Option Lin
op_form op.Add fs = checked (add_all fs)
op_form op.Sub (f ∷ g ∷ []) = checked (subtract f g)
op_form op.Mul fs = product_form fs
op_form op.Neg (f ∷ []) = checked (scale (negsuc 0) f)
op_form o fs = None

abbrev pub head_form : Head → List Lin → Option Lin
head_form (h.Num z) fs = checked (number z)
head_form (h.Term o) fs = op_form o fs
head_form head fs = None

abbrev pub or_atom : Option Lin → Tree → Lin
or_atom None t = atom_lin t
or_atom (Some f) t = f

abbrev mutual
  -- a node that has no form of its own is an atom
  pub to_lin : Tree → Lin
  to_lin (node head ts) = or_atom (head_form head (to_lins ts)) (node head ts)

  pub to_lins : Trees → List Lin
  to_lins stop = []
  to_lins (more t ts) = to_lin t ∷ to_lins ts

-- ---- forms whose numbers fit, whatever their atoms are

abbrev pub numbers_fit : List Part → Bool
numbers_fit [] = true
numbers_fit (p ∷ ps) = fits (p.times) && numbers_fit ps

-- the form, where all its numbers fit
abbrev pub fitting : Lin → Option Lin
fitting f = if numbers_fit (f.parts) && fits (f.constant) then Some f else None

-- the heads of sums, differences, products and numbers, which have a form of their own where it fits
abbrev pub is_linear : Head → Bool
is_linear (h.Num z) = true
is_linear (h.Term op.Add) = true
is_linear (h.Term op.Sub) = true
is_linear (h.Term op.Mul) = true
is_linear (h.Term op.Neg) = true
is_linear head = false

-- the form of a term, where it fits; any other term than these is an atom
abbrev pub own_form : Tree → Option Lin
own_form (node head ts) = if is_linear head then head_form head (to_lins ts) else Some (atom_lin (node head ts))

-- ---- the common divisor of the coefficients

-- Euclid's steps, at most so many; each remainder is below the one before
abbrev pub gcd_within : ℕ → ℕ → ℕ → ℕ
gcd_within zero a b = a
gcd_within (suc n) a b = if b == 0 then a else gcd_within n b (a % b)

unfoldable pub gcd : ℕ → ℕ → ℕ
gcd a b = gcd_within (b + 1) a b

abbrev pub common_divisor : List Part → ℕ
common_divisor [] = 0
common_divisor (p ∷ ps) = gcd (unsigned_abs (p.times)) (common_divisor ps)

abbrev pub divide_parts : ℕ → List Part → List Part
divide_parts d [] = []
divide_parts d (p ∷ ps) = part (p.atom) (int_div (p.times) (pos d)) ∷ divide_parts d ps

-- z divided by d, rounded up
unfoldable pub rounded_up : ℕ → ℤ → ℤ
rounded_up d (pos n) = pos ((n + (d - 1)) / d)
rounded_up d (negsuc n) = int_div (negsuc n) (pos d)

abbrev pub divides : ℕ → ℤ → Bool
divides d z = unsigned_abs z % d == 0

-- for L <= 0: the same integers are at most 0
abbrev pub tighten : Lin → Lin
tighten f = lin (divide_parts (common_divisor (f.parts)) (f.parts)) (rounded_up (common_divisor (f.parts)) (f.constant))

-- for L = 0, where the divisor divides the constant
abbrev pub divide_exact : Lin → Lin
divide_exact f = lin (divide_parts (common_divisor (f.parts)) (f.parts)) (int_div (f.constant) (pos (common_divisor (f.parts))))

abbrev pub lead_is_negative : List Part → Bool
lead_is_negative [] = false
lead_is_negative (p ∷ ps) = int_lt (p.times) (pos 0)

abbrev pub unwrap_or : {A : Type 0} → Option A → A → A
unwrap_or None a = a
unwrap_or (Some b) a = b

-- the first coefficient made positive
abbrev pub make_lead_positive : Lin → Lin
make_lead_positive f = if lead_is_negative (f.parts) then unwrap_or (checked (scale (negsuc 0) f)) f else f
