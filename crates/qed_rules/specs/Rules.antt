-- The rules of the normal form, in order. Each says what becomes of a node whose kids are in normal form, where it changes the node.
use Rattle.std.specs.Prelude.{ℕ, ℤ, Bool, true, false, not, ◌&&◌, ◌||◌, if◌then◌else◌, pos, int_le, List, [], ◌∷◌, ◌++◌, Option, Some, None, option_map}
use Rattle.qed_terms.specs.declared.head.Head.{Head}
use Rattle.qed_terms.specs.declared.head.Head.TheVariants as h
use Rattle.qed_terms.specs.declared.head.TermOp.TheVariants as op
use Rattle.qed_terms.specs.declared.head.FormOp.{FormOp}
use Rattle.qed_terms.specs.declared.head.FormOp.TheVariants as rel
use Rattle.qed_terms.specs.Tree.{Tree, node, Trees, stop, more, list_of, head_of, kids_in, two, three, num, true_tree, false_tree, at_most, equal, not_of, and_of, or_of}
use Rattle.qed_terms.specs.Operators.{is_zero, is_equal}
use Rattle.qed_terms.specs.Order.{same}
use Rattle.qed_terms.specs.Setting.{Setting}
pub use Rattle.qed_numbers.specs.Numbers.{Rule, then_some, first_some, first_of_rules}
use Rattle.qed_numbers.specs.Numbers.{number_at}
use Rattle.qed_numbers.specs.Numbers.{division_rule, divisor_one_rule, divisor_zero_rule, dividend_zero_rule, conversion_rule, long_rule, second_conversion_rule, left_shift_rule, right_shift_zero_rule, right_shift_rule, bits_rule, bits_zero_rule}
use Rattle.qed_linear.specs.Linear.{Lin, of_lin, number, is_number, subtract, checked, head_form, to_lin, to_lins, is_integer, common_divisor, divides, tighten, divide_exact, make_lead_positive}
use Rattle.qed_substitution.specs.Substitution.{replace, may_replace}
use Rattle.qed_calls.specs.Calls.{call_rule}
use Rattle.qed_memories.specs.Memories.{load_rule, store_rule, count_rule, grow_rule, no_growth_rule, at_block, over_grown, over_made, over_none}

-- the heads of formulas; a formula may stand in for a node that is one
abbrev pub is_formula : Head → Bool
is_formula (h.Num z) = false
is_formula (h.Var x s) = false
is_formula (h.Term o) = false
is_formula h.Ite = false
is_formula (h.App f) = false
is_formula head = true

-- the tree, unless it is the other one
abbrev pub unless_same : Tree → Tree → Option Tree
unless_same w t = if same w t then None else Some w

-- what is made of the form, where there is one and the node isn't that already
abbrev pub changed : (Lin → Tree) → Option Lin → Tree → Option Tree
changed make None t = None
changed make (Some f) t = unless_same (make f) t

-- ---- sums

abbrev pub sums_rule : Rule
sums_rule head ts = changed of_lin (head_form head (to_lins ts)) (node head ts)

-- ---- choice

-- The arm under `true`, under `false`, or either of two equal ones. It stands in for an integer, so it has to be one.
abbrev pub chosen_arm : Head → Tree → Tree → Option Tree
chosen_arm h.True t u = then_some (is_integer (head_of t)) t
chosen_arm h.False t u = then_some (is_integer (head_of u)) u
chosen_arm head t u = then_some (same t u && is_integer (head_of t)) t

abbrev pub choice_rule : Rule
choice_rule h.Ite (more f (more t (more u stop))) = chosen_arm (head_of f) t u
choice_rule head ts = None

-- ---- relations

abbrev pub truth_constant : Bool → Tree
truth_constant true = true_tree
truth_constant false = false_tree

abbrev pub at_most_zero : Lin → Tree
at_most_zero f = at_most (of_lin f) (num (pos 0))

abbrev pub equals_zero : Lin → Tree
equals_zero f = equal (of_lin f) (num (pos 0))

-- L <= 0 by its form
abbrev pub at_most_tree : Lin → Tree
at_most_tree f = if is_number f then truth_constant (int_le (f.constant) (pos 0)) else at_most_zero (tighten f)

-- L = 0 by its form
abbrev pub equal_tree : Lin → Tree
equal_tree f =
    if is_number f then truth_constant (is_zero (f.constant))
    else (if divides (common_divisor (f.parts)) (f.constant) then equals_zero (make_lead_positive (divide_exact f)) else false_tree)

-- strict less
abbrev pub less_rule : Rule
less_rule (h.Form rel.Less) (more t (more u stop)) = Some (at_most (node (h.Term op.Add) (two t (num (pos 1)))) u)
less_rule head ts = None

-- at most
abbrev pub at_most_rule : Rule
at_most_rule (h.Form rel.AtMost) (more t (more u stop)) = changed at_most_tree (checked (subtract (to_lin t) (to_lin u))) (at_most t u)
at_most_rule head ts = None

-- equality
abbrev pub equality_rule : Rule
equality_rule (h.Form rel.Equal) (more t (more u stop)) = changed equal_tree (checked (subtract (to_lin t) (to_lin u))) (equal t u)
equality_rule head ts = None

-- ---- implication and equivalence

abbrev pub implication_rule : Rule
implication_rule h.Imp (more a (more b stop)) = Some (node h.Or (two (not_of a) b))
implication_rule head ts = None

abbrev pub equivalence_rule : Rule
equivalence_rule h.Iff (more a (more b stop)) = Some (node h.And (two (node h.Or (two (not_of a) b)) (node h.Or (two a (not_of b)))))
equivalence_rule head ts = None

-- ---- negation inward

abbrev pub nots : Trees → Trees
nots stop = stop
nots (more t ts) = more (not_of t) (nots ts)

-- the negation of a relation, where that is a relation: 1 - L <= 0 of L <= 0
abbrev pub negated_relation_at : Head → Trees → Option Tree
negated_relation_at (h.Form rel.AtMost) (more t (more u stop)) = if same u (num (pos 0)) then option_map at_most_zero (checked (subtract (number (pos 1)) (to_lin t))) else None
negated_relation_at head ts = None

abbrev pub negated_relation : Tree → Option Tree
negated_relation t = negated_relation_at (head_of t) (kids_in t)

-- what `not` over a node becomes
abbrev pub inward : Rule
inward h.True ts = Some false_tree
inward h.False ts = Some true_tree
inward h.Not (more f stop) = then_some (is_formula (head_of f)) f
inward h.And ts = Some (node h.Or (nots ts))
inward h.Or ts = Some (node h.And (nots ts))
inward (h.Forall x) (more t (more u (more f stop))) = Some (node (h.Exists x) (three t u (not_of f)))
inward (h.Exists x) (more t (more u (more f stop))) = Some (node (h.Forall x) (three t u (not_of f)))
inward (h.Form o) ts = negated_relation_at (h.Form o) ts
inward head ts = None

abbrev pub negation_rule : Rule
negation_rule h.Not (more f stop) = inward (head_of f) (kids_in f)
negation_rule head ts = None

-- ---- junctions: `and`, said by true, and `or`, said by false

-- the junction of these operands
abbrev pub junction : Bool → List Tree → Tree
junction true ts = and_of ts
junction false ts = or_of ts

abbrev pub is_junction_head : Bool → Head → Bool
is_junction_head true h.And = true
is_junction_head false h.Or = true
is_junction_head b head = false

-- whether this is the head of `true`, or of `false`
abbrev pub is_truth_head : Bool → Head → Bool
is_truth_head true h.True = true
is_truth_head false h.False = true
is_truth_head b head = false

abbrev pub is_junction : Bool → Tree → Bool
is_junction b t = is_junction_head b (head_of t)

abbrev pub is_truth_constant : Bool → Tree → Bool
is_truth_constant b t = is_truth_head b (head_of t)

abbrev pub has : (Tree → Bool) → List Tree → Bool
has p [] = false
has p (t ∷ ts) = p t || has p ts

abbrev pub among : Tree → List Tree → Bool
among t ts = has (same t) ts

abbrev pub among_some : Option Tree → List Tree → Bool
among_some None ts = false
among_some (Some t) ts = among t ts

-- operands of operands of the same kind
abbrev pub flatten : Bool → List Tree → List Tree
flatten b [] = []
flatten b (t ∷ ts) = (if is_junction b t then list_of (kids_in t) else t ∷ []) ++ flatten b ts

abbrev pub drop_units : Bool → List Tree → List Tree
drop_units b [] = []
drop_units b (t ∷ ts) = if is_truth_constant b t then drop_units b ts else t ∷ drop_units b ts

abbrev pub has_repeat : List Tree → List Tree → Bool
has_repeat seen [] = false
has_repeat seen (t ∷ ts) = among t seen || has_repeat (seen ++ t ∷ []) ts

-- without those that are among the seen, or stand there before
abbrev pub drop_repeats : List Tree → List Tree → List Tree
drop_repeats seen [] = []
drop_repeats seen (t ∷ ts) = if among t seen then drop_repeats seen ts else t ∷ drop_repeats (seen ++ t ∷ []) ts

-- whether the negation of an operand is an operand
abbrev pub is_opposed : List Tree → Tree → Bool
is_opposed ts t = among (not_of t) ts || among_some (negated_relation t) ts

abbrev pub flat_rule : Bool → List Tree → Option Tree
flat_rule b ts = then_some (has (is_junction b) ts) (junction b (flatten b ts))

abbrev pub absorbing_rule : Bool → List Tree → Option Tree
absorbing_rule b ts = then_some (has (is_truth_constant (not b)) ts) (truth_constant (not b))

abbrev pub units_rule : Bool → List Tree → Option Tree
units_rule b ts = then_some (has (is_truth_constant b) ts) (junction b (drop_units b ts))

abbrev pub repeats_rule : Bool → List Tree → Option Tree
repeats_rule b ts = then_some (has_repeat [] ts) (junction b (drop_repeats [] ts))

abbrev pub opposites_rule : Bool → List Tree → Option Tree
opposites_rule b ts = then_some (has (is_opposed ts) ts) (truth_constant (not b))

-- one operand stands alone, none is the unit
abbrev pub single_rule : Bool → List Tree → Option Tree
single_rule b [] = Some (truth_constant b)
single_rule b (t ∷ []) = then_some (is_formula (head_of t)) t
single_rule b (t ∷ u ∷ ts) = None

abbrev pub at_junctions : (Bool → List Tree → Option Tree) → Rule
at_junctions rule h.And ts = rule true (list_of ts)
at_junctions rule h.Or ts = rule false (list_of ts)
at_junctions rule head ts = None

-- ---- quantifiers: `forall`, said by true, and `exists`, said by false

-- the two are numbers, and the second isn't above the first
abbrev pub is_empty_between : Option ℤ → Option ℤ → Bool
is_empty_between (Some a) (Some b) = int_le b a
is_empty_between a b = false

-- the form is the number 1
abbrev pub is_one : Option Lin → Bool
is_one None = false
is_one (Some f) = is_number f && is_equal (f.constant) (pos 1)

-- the end is the beginning plus 1
abbrev pub is_single_range : Tree → Tree → Bool
is_single_range t u = is_one (checked (subtract (to_lin u) (to_lin t)))

-- over an empty range of numbers, or of a body that is the unit
abbrev pub empty_rule : Bool → List ℕ → Tree → Tree → Tree → Option Tree
empty_rule b x t u f = then_some (is_empty_between (number_at t) (number_at u) || is_truth_constant b f) (truth_constant b)

-- Over the beginning alone. The beginning stands in for an integer, and the body for a formula, so they have to be such.
abbrev pub is_instance : List ℕ → Tree → Tree → Tree → Bool
is_instance x t u f = is_single_range t u && (is_integer (head_of t) && is_formula (head_of f)) && may_replace x t f

abbrev pub single_range_rule : Bool → List ℕ → Tree → Tree → Tree → Option Tree
single_range_rule b x t u f = then_some (is_instance x t u f) (replace x t f)

abbrev pub at_quantifiers : (Bool → List ℕ → Tree → Tree → Tree → Option Tree) → Rule
at_quantifiers rule (h.Forall x) (more t (more u (more f stop))) = rule true x t u f
at_quantifiers rule (h.Exists x) (more t (more u (more f stop))) = rule false x t u f
at_quantifiers rule head ts = None

-- ---- memories

-- the first two are one
abbrev pub is_twice : Trees → Bool
is_twice (more m (more n ts)) = same m n
is_twice ts = false

-- a memory and itself, which are the same, and agree outside any regions
abbrev pub is_same_memory : FormOp → Trees → Bool
is_same_memory rel.Same (more m (more n stop)) = same m n
is_same_memory (rel.Frame shapes) ts = is_twice ts
is_same_memory o ts = false

abbrev pub same_memory_rule : Rule
same_memory_rule (h.Form o) ts = then_some (is_same_memory o ts) true_tree
same_memory_rule head ts = None

-- ---- the table

-- in a setting, which says how many bits `long` has, and has the recursive logic functions
abbrev pub table : Setting → List Rule
table s =
    sums_rule
    ∷ division_rule ∷ divisor_one_rule ∷ divisor_zero_rule ∷ dividend_zero_rule ∷ conversion_rule ∷ second_conversion_rule
    ∷ left_shift_rule ∷ right_shift_zero_rule ∷ right_shift_rule ∷ bits_rule ∷ bits_zero_rule ∷ long_rule s.long_bits
    ∷ choice_rule
    ∷ load_rule ∷ store_rule ∷ count_rule ∷ grow_rule ∷ no_growth_rule ∷ at_block over_grown ∷ at_block over_made ∷ at_block over_none
    ∷ less_rule ∷ at_most_rule ∷ equality_rule ∷ implication_rule ∷ equivalence_rule ∷ negation_rule
    ∷ at_junctions flat_rule ∷ at_junctions absorbing_rule ∷ at_junctions units_rule ∷ at_junctions repeats_rule ∷ at_junctions opposites_rule ∷ at_junctions single_rule
    ∷ at_quantifiers empty_rule ∷ at_quantifiers single_range_rule ∷ same_memory_rule ∷ call_rule s.logic ∷ []

-- what the first rule that changes a node makes of it
abbrev pub step : Setting → Tree → Option Tree
step s (node head ts) = first_of_rules (table s) head ts
