-- What is made of arguments and of chains whose terms fit, fits.
use Rattle.std.proofs.Common.{◌≡◌, ℕ, Bool, true, false, ◌&&◌, if◌then◌else◌, List, [], ◌∷◌, Option, Some, None, Ok, refl}
use mathlib.Core.List.{reverse, reverse_aux}
use Rattle.std.proofs.lemmas.Bool.{and_parts}
use Rattle.c_answers.specs.Answers.{wrong}
use Rattle.c_syntax.specs.declared.expr.BinOp.{BinOp}
use Rattle.typed_prog.specs.declared.types.CoreType.{CoreType}
use Rattle.typed_prog.specs.declared.operators.Comparison.{Comparison}
use Rattle.acsl_trees.specs.declared.heads.Head.TheVariants as head
use Rattle.acsl_trees.specs.declared.operands.Sort.{Sort}
use Rattle.acsl_trees.specs.declared.operands.Sort.TheVariants as sort
use Rattle.acsl_trees.specs.declared.operands.TermType.{TermType}
use Rattle.acsl_trees.specs.declared.operands.TermType.TheVariants as term_type
use Rattle.acsl_trees.specs.Tree.{Tree, node, trees_of, leaf}
use Rattle.acsl_trees.specs.Operands.{Operand}
use Rattle.acsl_rules.specs.declared.comparisons.Comparing.{Comparing}
use Rattle.acsl_rules.specs.declared.comparisons.Comparing.TheVariants as comparing
use Rattle.acsl_rules.specs.Sorts.{is_unknown, is_integer, is_pointer, is_null, alike, alike_to}
use Rattle.acsl_rules.specs.Operators.{compare_by, are_numbers, ordered, are_equatable, equated}
use Rattle.acsl_rules.specs.Contexts.{typed_passed, passed_value, passed}
use Rattle.acsl_rules.specs.Chains.{onto, all_valued, first_op, other_ops, is_equality, null, null_beside, is_beside, nulls_behind, with_nulls, both_or_neither, comparison_of, related, link_by, link, links, chained, chain}
use Rattle.acsl_rules.specs.Laws as l
use Rattle.acsl_rules.specs.Laws.{What, an_integer, a_pointer, an_object, Leaves, Makes, Links, Fits, AllFit, FitsType, Holds}
use Rattle.acsl_rules.proofs.Fitting.{after_holds, FitsValue, IsValue, from_value, integer_by, pointer_is}
use Rattle.acsl_rules.proofs.FittingTwo.{alike_second, alike_are, no_unknown, not_both}

-- ---- arguments

second_by : (g : Leaves) (line : ℕ) (type : CoreType) (v : Operand) (b : Bool) → IsValue g v → alike_to type v.sort ≡ b → Holds (Makes g a_pointer) (if b then Ok v.tree else wrong line)
second_by g line type v true f e = pointer_is g v.tree v.sort f (alike_second type v.sort e)
second_by g line type v false f e = tt

first_by : (g : Leaves) (line : ℕ) (type : CoreType) (v : Operand) (b : Bool) → IsValue g v
    → Holds (Makes g a_pointer) (if b then Ok (leaf head.Null) else if alike_to type v.sort then Ok v.tree else wrong line)
first_by g line type v true f = l.is_null
first_by g line type v false f = second_by g line type v _ f refl

any_value : (g : Leaves) (t : Tree) (s : Sort) → FitsValue g t s → (w : What) × Makes g w t
any_value g t (sort.Object type label) f = absurd f
any_value g t (sort.Integer known) f = (an_integer, f)
any_value g t (sort.Pointer type n) f = (a_pointer, f)
any_value g t sort.Unknown f = absurd f

typed_fits : (g : Leaves) (line : ℕ) (to : TermType) (v : Operand) → IsValue g v → Holds (FitsType g to) (typed_passed line to v)
typed_fits g line term_type.Integer v f = integer_by g line v _ f refl
typed_fits g line (term_type.Pointer type) v f = first_by g line type v (is_null v.sort) f
typed_fits g line term_type.Unknown v f = any_value g v.tree v.sort f

passed_by : (g : Leaves) (line : ℕ) (to : TermType) (v : Operand) (b : Bool) → IsValue g v → is_unknown v.sort ≡ b → Holds (FitsType g to) (if b then Ok v.tree else typed_passed line to v)
passed_by g line to v true f e = absurd (no_unknown g v.tree v.sort f e)
passed_by g line to v false f e = typed_fits g line to v f

pub passed_fits : (g : Leaves) (line : ℕ) (to : TermType) (x : Operand) → Fits g x → Holds (FitsType g to) (passed line to x)
unfolding passed
passed_fits g line to x f = from_value (FitsType g to) g line x (passed_value line to) f (λ v fv. passed_by g line to v _ fv refl)

-- ---- the values of a chain

abbrev pub AreValues : Leaves → List Operand → Type 0
AreValues g [] = Unit {0}
AreValues g (v ∷ vs) = IsValue g v × AreValues g vs

all_valued_fit : (g : Leaves) (line : ℕ) (xs : List Operand) → AllFit g xs → Holds (AreValues g) (all_valued line xs)
all_valued_fit g line [] f = tt
all_valued_fit g line (x ∷ xs) f =
    from_value (AreValues g) g line x _ f.0 (λ v fv. after_holds (AreValues g) (AreValues g) (all_valued line xs) _ (all_valued_fit g line xs f.1) (λ vs fvs. (fv, fvs)))

null_or : (g : Leaves) (v : Operand) (b : Bool) → IsValue g v → IsValue g (if b then null else v)
null_or g v true f = l.is_null
null_or g v false f = f

nulls_fit : (g : Leaves) (p : Bool) (ops : List BinOp) (vs : List Operand) → AreValues g vs → AreValues g (nulls_behind p ops vs)
nulls_fit g p ops [] f = tt
nulls_fit g p ops (v ∷ vs) f = (null_or g v (p && is_null v.sort) f.0, nulls_fit g (is_beside (null_beside p v).sort ops) (other_ops ops) vs f.1)

turned_onto : (g : Leaves) (vs done : List Operand) → AreValues g vs → AreValues g done → AreValues g (reverse_aux vs done)
turned_onto g [] done f h = h
turned_onto g (v ∷ vs) done f h = turned_onto g vs (v ∷ done) f.1 (f.0, h)

turned : (g : Leaves) (vs : List Operand) → AreValues g vs → AreValues g (reverse vs)
turned g vs f = turned_onto g vs [] f tt

with_nulls_fit : (g : Leaves) (ops : List BinOp) (vs : List Operand) → AreValues g vs → AreValues g (with_nulls ops vs)
unfolding with_nulls
with_nulls_fit g ops vs f =
    turned g (nulls_behind false (reverse ops) (reverse (nulls_behind false ops vs)))
    (nulls_fit g false (reverse ops) (reverse (nulls_behind false ops vs)) (turned g (nulls_behind false ops vs) (nulls_fit g false ops vs f)))

-- ---- links

-- what a value of this sort gives
abbrev pub IsOf : What → Sort → Type 0
IsOf an_integer s = is_integer s ≡ true
IsOf a_pointer s = is_pointer s ≡ true
IsOf an_object s = ⊥

-- a link behind a term that gives this, and the term in it gives the same
abbrev pub IsLink : Leaves → What → Sort → Tree → Type 0
IsLink g w s t = ((ts : List Tree) → Links g w ts → Links g w (t ∷ ts)) × IsOf w s

abbrev pub BothAre : Option Comparing → Sort → Sort → Type 0
BothAre (Some comparing.Numbers) s t = (is_integer s ≡ true) × (is_integer t ≡ true)
BothAre (Some comparing.Pointers) s t = (is_pointer s ≡ true) × (is_pointer t ≡ true)
BothAre None s t = Unit {0}

integer_tree : (g : Leaves) (t : Tree) (s : Sort) → FitsValue g t s → is_integer s ≡ true → Makes g an_integer t
integer_tree g t (sort.Object type label) f e = absurd f
integer_tree g t (sort.Integer known) f e = f
integer_tree g t (sort.Pointer type n) f e = absurd cc
integer_tree g t sort.Unknown f e = absurd f

not_two : (s : Sort) → is_integer s ≡ true → is_pointer s ≡ true → ⊥
not_two (sort.Object type label) e e' = cc
not_two (sort.Integer known) e e' = cc
not_two (sort.Pointer type n) e e' = cc
not_two sort.Unknown e e' = cc

link_by_fits : (g : Leaves) (line : ℕ) (w : What) (s : Sort) (v : Operand) (how : Option Comparison) (c : Option Comparing) → IsOf w s → IsValue g v → BothAre c s v.sort
    → Holds (IsLink g w v.sort) (link_by line v.tree how c)
link_by_fits g line an_integer s v (Some how) (Some comparing.Numbers) is f both = ((λ ts fs. l.integer_linked (integer_tree g v.tree v.sort f both.1) fs), both.1)
link_by_fits g line an_integer s v (Some how) (Some comparing.Pointers) is f both = absurd (not_two s is both.0)
link_by_fits g line a_pointer s v (Some how) (Some comparing.Numbers) is f both = absurd (not_two s both.0 is)
link_by_fits g line a_pointer s v (Some how) (Some comparing.Pointers) is f both = ((λ ts fs. l.pointer_linked (pointer_is g v.tree v.sort f both.1) fs), both.1)
link_by_fits g line an_object s v (Some how) (Some c) is f both = absurd is
link_by_fits g line w s v (Some how) None is f both = tt
link_by_fits g line w s v None c is f both = tt

-- an integer or a pointer
abbrev pub IsKnown : Sort → Type 0
IsKnown (sort.Object type label) = ⊥
IsKnown (sort.Integer known) = Unit {0}
IsKnown (sort.Pointer type n) = Unit {0}
IsKnown sort.Unknown = ⊥

known_of : (w : What) (s : Sort) → IsOf w s → IsKnown s
known_of an_integer (sort.Object type label) is = absurd cc
known_of an_integer (sort.Integer known) is = tt
known_of an_integer (sort.Pointer type n) is = tt
known_of an_integer sort.Unknown is = absurd cc
known_of a_pointer (sort.Object type label) is = absurd cc
known_of a_pointer (sort.Integer known) is = tt
known_of a_pointer (sort.Pointer type n) is = tt
known_of a_pointer sort.Unknown is = absurd cc
known_of an_object s is = absurd is

value_known : (g : Leaves) (t : Tree) (s : Sort) → FitsValue g t s → IsKnown s
value_known g t (sort.Object type label) f = f
value_known g t (sort.Integer known) f = tt
value_known g t (sort.Pointer type n) f = tt
value_known g t sort.Unknown f = f

numbers_both : (s t : Sort) → IsKnown s → IsKnown t → are_numbers s t ≡ true → (is_integer s ≡ true) × (is_integer t ≡ true)
numbers_both (sort.Integer known) (sort.Integer other) k k' e = (refl, refl)
numbers_both (sort.Integer known) (sort.Pointer type n) k k' e = absurd cc
numbers_both (sort.Integer known) (sort.Object type label) k k' e = absurd k'
numbers_both (sort.Integer known) sort.Unknown k k' e = absurd k'
numbers_both (sort.Pointer type n) (sort.Integer other) k k' e = absurd cc
numbers_both (sort.Pointer type n) (sort.Pointer type' n') k k' e = absurd cc
numbers_both (sort.Pointer type n) (sort.Object type' label) k k' e = absurd k'
numbers_both (sort.Pointer type n) sort.Unknown k k' e = absurd k'
numbers_both (sort.Object type label) t k k' e = absurd k
numbers_both sort.Unknown t k k' e = absurd k

pointers_both : (s t : Sort) → IsKnown s → IsKnown t → both_or_neither (is_pointer s) (is_pointer t) ≡ true → are_equatable s t ≡ true → (is_pointer s ≡ true) × (is_pointer t ≡ true)
pointers_both (sort.Pointer type n) t k k' e e' = (refl, e)
pointers_both (sort.Integer known) (sort.Integer other) k k' e e' = absurd (not_both (is_null (sort.Integer known)) e')
pointers_both (sort.Integer known) (sort.Pointer type n) k k' e e' = absurd cc
pointers_both (sort.Integer known) (sort.Object type label) k k' e e' = absurd k'
pointers_both (sort.Integer known) sort.Unknown k k' e e' = absurd k'
pointers_both (sort.Object type label) t k k' e e' = absurd k
pointers_both sort.Unknown t k k' e e' = absurd k

both_by : (s t : Sort) (n p : Bool) → (n ≡ true → (is_integer s ≡ true) × (is_integer t ≡ true)) → (p ≡ true → (is_pointer s ≡ true) × (is_pointer t ≡ true)) → BothAre (compare_by n p) s t
both_by s t true p f h = f refl
both_by s t false true f h = h refl
both_by s t false false f h = tt

related_by : (s t : Sort) (b : Bool) → IsKnown s → IsKnown t → (b ≡ true → both_or_neither (is_pointer s) (is_pointer t) ≡ true) → BothAre (if b then equated s t else ordered s t) s t
unfolding equated ordered
related_by s t true k k' e = both_by s t (are_numbers s t) (are_equatable s t) (numbers_both s t k k') (pointers_both s t k k' (e refl))
related_by s t false k k' e = both_by s t (are_numbers s t) (alike s t) (numbers_both s t k k') (alike_are s t)

related_both : (o : BinOp) (s t : Sort) → IsKnown s → IsKnown t → BothAre (related o s t) s t
related_both o s t k k' =
    related_by s t (is_equality o && both_or_neither (is_pointer s) (is_pointer t)) k k' (λ e. (and_parts (is_equality o) (both_or_neither (is_pointer s) (is_pointer t)) e).1)

link_fits : (g : Leaves) (line : ℕ) (w : What) (o : Option BinOp) (s : Sort) (v : Operand) → IsOf w s → IsValue g v → Holds (IsLink g w v.sort) (link line o s v)
link_fits g line w (Some o) s v is f =
    link_by_fits g line w s v (comparison_of o) (related o s v.sort) is f (related_both o s v.sort (known_of w s is) (value_known g v.tree v.sort f))
link_fits g line w None s v is f = tt

links_fit : (g : Leaves) (line : ℕ) (w : What) (s : Sort) (ops : List BinOp) (vs : List Operand) → IsOf w s → AreValues g vs → Holds (Links g w) (links line s ops vs)
links_fit g line w s ops [] is f = l.no_link
links_fit g line w s ops (v ∷ vs) is f =
    after_holds (IsLink g w v.sort) (Links g w) (link line (first_op ops) s v) _ (link_fits g line w (first_op ops) s v is f.0) (λ t ft.
    after_holds (Links g w) (Links g w) (links line v.sort (other_ops ops) vs) _ (links_fit g line w v.sort (other_ops ops) vs ft.1 f.1) (λ ts fts. ft.0 ts fts))

-- ---- the whole

-- kids of a chain
abbrev pub AreKids : Leaves → List Tree → Type 0
AreKids g ts = Makes g an_integer (node head.Chain (trees_of ts))

chain_from : (g : Leaves) (line : ℕ) (w : What) (ops : List BinOp) (v : Operand) (vs : List Operand) → Makes g w v.tree → IsOf w v.sort → AreValues g vs
    → Holds (Makes g an_integer) (chained line ops (v ∷ vs))
chain_from g line w ops v vs f is fs =
    after_holds (AreKids g) (Makes g an_integer) (onto (v.tree ∷ []) (links line v.sort ops vs)) _
    (after_holds (Links g w) (AreKids g) (links line v.sort ops vs) _ (links_fit g line w v.sort ops vs is fs) (λ ts fts. l.in_chain {w = w} {t = v.tree} {ts = ts} f fts)) (λ ts fts. fts)

-- what a value gives
what_of : (g : Leaves) (t : Tree) (s : Sort) → FitsValue g t s → (w : What) × Makes g w t × IsOf w s
what_of g t (sort.Object type label) f = absurd f
what_of g t (sort.Integer known) f = (an_integer, f, refl)
what_of g t (sort.Pointer type n) f = (a_pointer, f, refl)
what_of g t sort.Unknown f = absurd f

chained_fits : (g : Leaves) (line : ℕ) (ops : List BinOp) (vs : List Operand) → AreValues g vs → Holds (Makes g an_integer) (chained line ops vs)
chained_fits g line ops [] f = l.no_terms
chained_fits g line ops (v ∷ vs) f = let w = what_of g v.tree v.sort f.0 in chain_from g line w.0 ops v vs w.1 w.2 f.1

pub chain_fits : (g : Leaves) (line : ℕ) (xs : List Operand) (ops : List BinOp) → AllFit g xs → Holds (Makes g an_integer) (chain line xs ops)
unfolding chain
chain_fits g line xs ops f =
    after_holds (AreValues g) (Makes g an_integer) (all_valued line xs) _ (all_valued_fit g line xs f) (λ vs fs. chained_fits g line ops (with_nulls ops vs) (with_nulls_fit g ops vs fs))
