-- The passes over formulas: the operands of `and` and `or` from an index on, and formulas by their variants.
use Rattle.std.proofs.Common.{◌≡◌, ℕ, ◌+◌, ◌<◌, ◌≤◌, Bool, true, false, ◌||◌, ◌&&◌, cond, List, [], ◌∷◌, ◌++◌, map, length, take, drop, get_or, take-append-drop, refl, sym, ◌∙◌, ap, arith, subst}
use Rattle.std.specs.Prelude.{Some}
use Rattle.qed_terms.specs.declared.head.Head.TheVariants as h
use Rattle.qed_terms.specs.declared.term.Term.{Term}
use Rattle.qed_terms.specs.declared.term.Formula.{Formula, Formula-F, roll-Formula, out-Formula, roll-out-Formula}
use Rattle.qed_terms.specs.declared.term.Formula.TheVariants as f
use Rattle.qed_terms.specs.Tree.{Tree, node, more, stop, trees_of, list_of, kids_in, head_of, not_of}
use Rattle.qed_terms.specs.View.{formula_tree}
use Rattle.qed_terms.proofs.Lists.{list_of-trees_of}
use Rattle.qed_terms.proofs.Equations.{formula_tree-Rel, formula_tree-Not, formula_tree-And, formula_tree-Or, formula_tree-True, formula_tree-False, formula_tree-Imp, formula_tree-Iff, formula_tree-Forall, formula_tree-Exists}
use Rattle.qed_rules.specs.Rules.{junction, is_junction, has, drop_repeats, is_formula, nots, is_single_range, is_instance}
use Rattle.qed_linear.specs.Linear.{is_integer}
use Rattle.qed_substitution.specs.Substitution.{may_replace}
use Rattle.qed_rules.specs.Passes.{unwrap_single, normal_junction, is_unquantified, are_unquantified, normal_not, normal_nots, turned}
use Rattle.qed_linear.proofs.Places.{one_off, take_one, map_append}

formula_core : (y : Formula-F Formula Term) → is_formula (head_of (formula_tree (roll-Formula y))) ≡ true
formula_core Formula-F.True = ap (λ t. is_formula (head_of t)) (ap formula_tree f.rolls-True ∙ formula_tree-True)
formula_core Formula-F.False = ap (λ t. is_formula (head_of t)) (ap formula_tree f.rolls-False ∙ formula_tree-False)
formula_core (Formula-F.Rel o xs) = ap (λ t. is_formula (head_of t)) (ap formula_tree (f.rolls-Rel o xs) ∙ formula_tree-Rel o xs)
formula_core (Formula-F.Not a) = ap (λ t. is_formula (head_of t)) (ap formula_tree (f.rolls-Not a) ∙ formula_tree-Not a)
formula_core (Formula-F.And xs) = ap (λ t. is_formula (head_of t)) (ap formula_tree (f.rolls-And xs) ∙ formula_tree-And xs)
formula_core (Formula-F.Or xs) = ap (λ t. is_formula (head_of t)) (ap formula_tree (f.rolls-Or xs) ∙ formula_tree-Or xs)
formula_core (Formula-F.Imp a b) = ap (λ t. is_formula (head_of t)) (ap formula_tree (f.rolls-Imp a b) ∙ formula_tree-Imp a b)
formula_core (Formula-F.Iff a b) = ap (λ t. is_formula (head_of t)) (ap formula_tree (f.rolls-Iff a b) ∙ formula_tree-Iff a b)
formula_core (Formula-F.Forall x t u a) = ap (λ t. is_formula (head_of t)) (ap formula_tree (f.rolls-Forall x t u a) ∙ formula_tree-Forall x t u a)
formula_core (Formula-F.Exists x t u a) = ap (λ t. is_formula (head_of t)) (ap formula_tree (f.rolls-Exists x t u a) ∙ formula_tree-Exists x t u a)

pub formula_is : (x : Formula) → is_formula (head_of (formula_tree x)) ≡ true
formula_is x = subst (λ z. is_formula (head_of (formula_tree z)) ≡ true) (roll-out-Formula x) (formula_core (out-Formula x))

-- ---- a test of some operand

has_append : (p : Tree → Bool) (ts us : List Tree) → has p (ts ++ us) ≡ has p ts || has p us
has_append p [] us = refl
has_append p (t ∷ ts) us = ap (λ b. p t || b) (has_append p ts us) ∙ assoc (p t) (has p ts) (has p us)
  where
    assoc : (x y z : Bool) → x || (y || z) ≡ (x || y) || z
    assoc true y z = refl
    assoc false y z = refl

or_true : (a b : Bool) → b ≡ true → a || b ≡ true
or_true true b e = refl
or_true false b e = e

pub has_more : (p : Tree → Bool) (xs : List Formula) (i : ℕ) (x : Formula) → i < length xs → x ≡ get_or xs i x → has p (map formula_tree (take i xs)) ≡ false → p (formula_tree x) ≡ false → has p (map formula_tree (take (i + 1) xs)) ≡ false
has_more p xs i x k e h g =
    ap (λ ys. has p (map formula_tree ys)) (take_one xs i x k e) ∙ ap (has p) (map_append formula_tree (take i xs) (x ∷ []))
    ∙ has_append p (map formula_tree (take i xs)) (formula_tree x ∷ []) ∙ (λ j. h j || (g j || false))

pub has_some : (p : Tree → Bool) (xs : List Formula) (i : ℕ) (x : Formula) → i < length xs → x ≡ get_or xs i x → p (formula_tree x) ≡ true → has p (map formula_tree xs) ≡ true
has_some p xs i x k e g =
    let split = sym (take-append-drop i xs) ∙ ap (λ ys. take i xs ++ ys) (one_off xs i x k e) in
    ap (λ ys. has p (map formula_tree ys)) split ∙ ap (has p) (map_append formula_tree (take i xs) (x ∷ drop (i + 1) xs))
    ∙ has_append p (map formula_tree (take i xs)) (map formula_tree (x ∷ drop (i + 1) xs))
    ∙ or_true (has p (map formula_tree (take i xs))) (p (formula_tree x) || has p (map formula_tree (drop (i + 1) xs))) (ap (λ b. b || has p (map formula_tree (drop (i + 1) xs))) g)

-- the operands that were kept, with what is kept of those that are left
abbrev pub Kept : List Formula → List Formula → List Tree → Type 0
Kept kept xs goal = map formula_tree kept ++ drop_repeats (map formula_tree kept) (map formula_tree xs) ≡ goal

-- ---- junctions of few operands

pub long_not_single : (b : Bool) (xs : List Formula) → 2 ≤ length xs → unwrap_single b (map formula_tree xs) ≡ junction b (map formula_tree xs)
long_not_single b [] k = absurd (omega arith)
long_not_single b (x ∷ []) k = absurd (omega arith)
long_not_single b (x ∷ y ∷ xs) k = refl

pub one_is_single : (b : Bool) (xs : List Formula) (x : Formula) → xs ≡ x ∷ [] → formula_tree x ≡ unwrap_single b (map formula_tree xs)
one_is_single b xs x e = sym (ap (λ ys. unwrap_single b (map formula_tree ys)) e ∙ ap (λ c. cond c (formula_tree x) (junction b (formula_tree x ∷ []))) (formula_is x))

-- the operands of a junction of this kind
pub operands_and : (xs : List Formula) (x : Formula) (b : Bool) → x ≡ f.And xs → b ≡ true → map formula_tree xs ≡ cond (is_junction b (formula_tree x)) (list_of (kids_in (formula_tree x))) (formula_tree x ∷ [])
operands_and xs x b e k =
    sym (ap (λ z. cond (is_junction b z) (list_of (kids_in z)) (z ∷ [])) (ap formula_tree e ∙ formula_tree-And xs)
    ∙ ap (λ c. cond (is_junction c (node h.And (trees_of (map formula_tree xs)))) (list_of (trees_of (map formula_tree xs))) (node h.And (trees_of (map formula_tree xs)) ∷ [])) k ∙ list_of-trees_of (map formula_tree xs))

pub operands_or : (xs : List Formula) (x : Formula) (b : Bool) → x ≡ f.Or xs → b ≡ false → map formula_tree xs ≡ cond (is_junction b (formula_tree x)) (list_of (kids_in (formula_tree x))) (formula_tree x ∷ [])
operands_or xs x b e k =
    sym (ap (λ z. cond (is_junction b z) (list_of (kids_in z)) (z ∷ [])) (ap formula_tree e ∙ formula_tree-Or xs)
    ∙ ap (λ c. cond (is_junction c (node h.Or (trees_of (map formula_tree xs)))) (list_of (trees_of (map formula_tree xs))) (node h.Or (trees_of (map formula_tree xs)) ∷ [])) k ∙ list_of-trees_of (map formula_tree xs))

-- ---- negation by variants

normal_nots_of : (xs : List Formula) → normal_nots (trees_of (map formula_tree xs)) ≡ map (λ x. normal_not (formula_tree x)) xs
normal_nots_of [] = refl
normal_nots_of (x ∷ xs) = ap (λ ts. normal_not (formula_tree x) ∷ ts) (normal_nots_of xs)

pub normal_not_not : (x : Formula) → normal_not (formula_tree (f.Not x)) ≡ formula_tree x
normal_not_not x = ap normal_not (formula_tree-Not x) ∙ ap (λ c. cond c (formula_tree x) (node h.Not (more (node h.Not (more (formula_tree x) stop)) stop))) (formula_is x)

pub normal_not_and : (xs ys : List Formula) → map formula_tree ys ≡ map (λ x. normal_not (formula_tree x)) xs → normal_junction false (map formula_tree ys) ≡ normal_not (formula_tree (f.And xs))
normal_not_and xs ys e = ap (normal_junction false) (e ∙ sym (normal_nots_of xs)) ∙ sym (ap normal_not (formula_tree-And xs))

pub normal_not_or : (xs ys : List Formula) → map formula_tree ys ≡ map (λ x. normal_not (formula_tree x)) xs → normal_junction true (map formula_tree ys) ≡ normal_not (formula_tree (f.Or xs))
normal_not_or xs ys e = ap (normal_junction true) (e ∙ sym (normal_nots_of xs)) ∙ sym (ap normal_not (formula_tree-Or xs))

-- ---- quantifiers that are met

abbrev pub UnquantifiedFrom : List Formula → ℕ → Bool
UnquantifiedFrom xs i = are_unquantified (trees_of (map formula_tree (drop i xs)))

pub unquantified_next : (xs : List Formula) (i : ℕ) (x : Formula) (b : Bool) → i < length xs → x ≡ get_or xs i x → b ≡ is_unquantified (formula_tree x) → UnquantifiedFrom xs i ≡ b && UnquantifiedFrom xs (i + 1)
unquantified_next xs i x b k e q = ap (λ ys. are_unquantified (trees_of (map formula_tree ys))) (one_off xs i x k e) ∙ ap (λ c. c && UnquantifiedFrom xs (i + 1)) (sym q)

nots_of : (xs : List Formula) → nots (trees_of (map formula_tree xs)) ≡ trees_of (map (λ x. not_of (formula_tree x)) xs)
nots_of [] = refl
nots_of (x ∷ xs) = ap (more (not_of (formula_tree x))) (nots_of xs)

pub turned_and : (xs ys : List Formula) → map formula_tree ys ≡ map (λ x. not_of (formula_tree x)) xs → Some (formula_tree (f.Or ys)) ≡ turned (formula_tree (f.And xs))
turned_and xs ys e = ap Some (formula_tree-Or ys ∙ ap (node h.Or) (ap trees_of e ∙ sym (nots_of xs))) ∙ sym (ap turned (formula_tree-And xs))

pub turned_or : (xs ys : List Formula) → map formula_tree ys ≡ map (λ x. not_of (formula_tree x)) xs → Some (formula_tree (f.And ys)) ≡ turned (formula_tree (f.Or xs))
turned_or xs ys e = ap Some (formula_tree-And ys ∙ ap (node h.And) (ap trees_of e ∙ sym (nots_of xs))) ∙ sym (ap turned (formula_tree-Or xs))

-- a body is a formula
pub instance_is : (x : List ℕ) (t u : Tree) (f : Formula) (m : Bool) → true ≡ is_single_range t u → true ≡ is_integer (head_of t) → m ≡ may_replace x t (formula_tree f) → m ≡ is_instance x t u (formula_tree f)
instance_is x t u f m a b c = λ i. (a i && (b i && sym (formula_is f) i)) && c i
