-- Two values that are there or not, in the words of the code.
use Rattle.std.proofs.Common.{◌≡◌, ℕ, ◌==◌, Bool, true, false, if◌then◌else◌, List, length, refl, sym, ap, ◌∙◌}
use Rattle.std.specs.Prelude.{Option, Some, None}
use Rattle.std.specs.Option.{option_map}
use Rattle.std.proofs.lemmas.Bool.Decides.{Decides-eqb}
use Rattle.wp_base.specs.declared.kinds.Kind.{Kind}
use Rattle.wp_base.specs.declared.kinds.CellKind.{CellKind}
use Rattle.c_kinds.specs.declared.models.Machdep.{Machdep}
use Rattle.qed_terms.specs.declared.head.TermOp.{TermOp}
use Rattle.qed_terms.specs.declared.head.TermOp.TheVariants as op
use Rattle.qed_terms.specs.declared.term.Term.{Term}
use Rattle.qed_terms.specs.declared.term.Formula.{Formula}
use Rattle.qed_terms.specs.Tree.{Tree}
use Rattle.qed_terms.specs.View.{term_tree, formula_tree}
use Rattle.annotation_heads.specs.declared.terms.Pointer as code
use Rattle.annotation_heads.specs.declared.pairs.Both.{Both}
use Rattle.acsl_encode.specs.Readings.{Terms, Pointer, integer, truth, address, variable, elements, region, nothing}
use Rattle.acsl_encode.specs.Encode as encode
use Rattle.acsl_encode.specs.Encode.{as_integer, as_formula, as_pointer, with_one, with_two, on_two, reached, moved, converted, either, region_of, Ends, low_end, high_end}
use Rattle.annotation_heads.specs.Nodes.{between}
use Rattle.annotation_heads.specs.View.{view_pointer}
use Rattle.annotation_heads.specs.Pairs.{Two, two, pair, both_of, view_integers, view_formulas, view_pointers, view_moving, Set, object, some_elements, no_set, set_in, shape_in, kind_in, way_of, chosen_by}
use Rattle.annotation_heads.specs.declared.conversions.Way.{Way}

-- ---- pairs

-- the pair of two values that were found
seen_pair : {A B X Y : Type 0} (f : A → X) (g : B → Y) (a : Option A) (b : Option B)
    → option_map (λ p. two (f p.first) (g p.second)) (both_of a b) ≡ pair (option_map f a) (option_map g b)
seen_pair f g (Some x) (Some y) = refl
seen_pair f g (Some x) None = refl
seen_pair f g None b = refl

pub integers_found : (a b : Option Term) (r : Option (Both Term Term)) (x y : Option Tree) → option_map term_tree a ≡ x → option_map term_tree b ≡ y
    → r ≡ both_of a b → option_map view_integers r ≡ pair x y
integers_found a b r x y e k is = ap (option_map view_integers) is ∙ seen_pair term_tree term_tree a b ∙ (λ i. pair (e i) (k i))

pub formulas_found : (a b : Option Formula) (r : Option (Both Formula Formula)) (x y : Option Tree) → option_map formula_tree a ≡ x
    → option_map formula_tree b ≡ y → r ≡ both_of a b → option_map view_formulas r ≡ pair x y
formulas_found a b r x y e k is = ap (option_map view_formulas) is ∙ seen_pair formula_tree formula_tree a b ∙ (λ i. pair (e i) (k i))

pub pointers_found : (a b : Option code.Pointer) (r : Option (Both code.Pointer code.Pointer)) (x y : Option Pointer) → option_map view_pointer a ≡ x
    → option_map view_pointer b ≡ y → r ≡ both_of a b → option_map view_pointers r ≡ pair x y
pointers_found a b r x y e k is = ap (option_map view_pointers) is ∙ seen_pair view_pointer view_pointer a b ∙ (λ i. pair (e i) (k i))

pub moving_found : (a : Option code.Pointer) (b : Option Term) (r : Option (Both code.Pointer Term)) (x : Option Pointer) (y : Option Tree)
    → option_map view_pointer a ≡ x → option_map term_tree b ≡ y → r ≡ both_of a b → option_map view_moving r ≡ pair x y
moving_found a b r x y e k is = ap (option_map view_moving) is ∙ seen_pair view_pointer term_tree a b ∙ (λ i. pair (e i) (k i))

pub ruleset found_laws = (integers_found, formulas_found, pointers_found, moving_found)

with_pair : {X Y : Type 0} (f : X → Y → Terms) (o : Option X) (o' : Option Y) → with_one (λ p. f p.first p.second) (pair o o') ≡ with_two f o o'
with_pair f (Some x) (Some y) = refl
with_pair f (Some x) None = refl
with_pair f None o' = refl

pub none_made : {X Y : Type 0} (f : X → Y → Terms) (o : Option X) (o' : Option Y) → None ≡ pair o o' → nothing ≡ with_two f o o'
none_made f o o' e = ap (with_one (λ p. f p.first p.second)) e ∙ with_pair f o o'

pub both_made : {X Y : Type 0} (f : X → Y → Terms) (o : Option X) (o' : Option Y) (x : X) (y : Y) (t : Terms) → Some (two x y) ≡ pair o o' → t ≡ f x y
    → t ≡ with_two f o o'
both_made f o o' x y t e made = made ∙ ap (with_one (λ p. f p.first p.second)) e ∙ with_pair f o o'

pub ruleset both_laws = (none_made, both_made)

on_pair : {X Z : Type 0} (f : X → X → Z) (o o' : Option X) → option_map (λ p. f p.first p.second) (pair o o') ≡ on_two f o o'
on_pair f (Some x) (Some y) = refl
on_pair f (Some x) None = refl
on_pair f None o' = refl

pub none_linked : {X Z : Type 0} (f : X → X → Z) (o o' : Option X) → None ≡ pair o o' → None ≡ on_two f o o'
none_linked f o o' e = ap (option_map (λ p. f p.first p.second)) e ∙ on_pair f o o'

pub both_linked : {X Z : Type 0} (f : X → X → Z) (o o' : Option X) (x y : X) (z : Z) → Some (two x y) ≡ pair o o' → z ≡ f x y → Some z ≡ on_two f o o'
both_linked f o o' x y z e made = ap Some made ∙ ap (option_map (λ p. f p.first p.second)) e ∙ on_pair f o o'

pub ruleset linked_laws = (none_linked, both_linked)

-- ---- ranges

abbrev ends_made : (p q : Bool) → Tree → Tree → Ends
ends_made p q t u = record { low = low_end p t; high = high_end q u }

pub no_range : (p q : Bool) (o o' : Option Tree) → None ≡ pair o o' → None ≡ between p q o o'
no_range p q o o' e = none_linked (ends_made p q) o o' e

pub some_range : (p q : Bool) (o o' : Option Tree) (x y : Tree) (e : Ends) → Some (two x y) ≡ pair o o' → e ≡ ends_made p q x y → Some e ≡ between p q o o'
some_range p q o o' x y e h made = both_linked (ends_made p q) o o' x y e h made

pub ruleset range_laws = (no_range, some_range)

-- ---- pointers

abbrev pointer_in : Set → Option Pointer
pointer_in (object p) = Some p
pointer_in (some_elements p n low high) = None
pointer_in no_set = None

pointer_same : (x : Terms) → pointer_in (set_in x) ≡ as_pointer x
pointer_same (address b o) = refl
pointer_same (integer k t) = refl
pointer_same (truth f) = refl
pointer_same (variable x) = refl
pointer_same (elements b o n low high) = refl
pointer_same (region cs b low high) = refl
pointer_same nothing = refl

pub pointer_of_object : (x : Terms) (p : Pointer) → object p ≡ set_in x → Some p ≡ as_pointer x
pointer_of_object x p e = ap pointer_in e ∙ pointer_same x

pub pointer_of_elements : (x : Terms) (p : Pointer) (n : ℕ) (low high : Tree) → some_elements p n low high ≡ set_in x → None ≡ as_pointer x
pointer_of_elements x p n low high e = ap pointer_in e ∙ pointer_same x

pub pointer_of_nothing : (x : Terms) → no_set ≡ set_in x → None ≡ as_pointer x
pointer_of_nothing x e = ap pointer_in e ∙ pointer_same x

pub ruleset pointer_laws = (pointer_of_object, pointer_of_elements, pointer_of_nothing)

moved_with : (minus : Bool) (n : ℕ) (p : Pointer) (t : Tree)
    → address p.block (encode.op_two (if minus then op.Sub else op.Add) p.offset (encode.times n t)) ≡ moved minus n p t
moved_with true n p t = refl
moved_with false n p t = refl

pub moved_so : (minus : Bool) (n : ℕ) (p : Pointer) (t : Tree) (x : Terms) (o : TermOp) → o ≡ (if minus then op.Sub else op.Add)
    → x ≡ address p.block (encode.op_two o p.offset (encode.times n t)) → x ≡ moved minus n p t
moved_so minus n p t x o of made = made ∙ ap (λ o. address p.block (encode.op_two o p.offset (encode.times n t))) of ∙ moved_with minus n p t

abbrev reached_by : ℕ → Option Pointer → Option (Two Tree Tree) → Terms
reached_by n (Some p) (Some q) = elements p.block p.offset n q.first q.second
reached_by n (Some p) None = nothing
reached_by n None q = nothing

reached_pair : (n : ℕ) (o : Option Pointer) (i j : Option Tree) → reached_by n o (pair i j) ≡ reached n o i j
reached_pair n (Some p) (Some t) (Some u) = refl
reached_pair n (Some p) (Some t) None = refl
reached_pair n (Some p) None j = refl
reached_pair n None i j = refl

no_ends : (n : ℕ) (o : Option Pointer) → nothing ≡ reached_by n o None
no_ends n (Some p) = refl
no_ends n None = refl

pub reached_nowhere : (n : ℕ) (o : Option Pointer) (i j : Option Tree) → None ≡ pair i j → nothing ≡ reached n o i j
reached_nowhere n o i j e = no_ends n o ∙ ap (reached_by n o) e ∙ reached_pair n o i j

pub reached_from_none : (n : ℕ) (o : Option Pointer) (i j : Option Tree) → None ≡ o → nothing ≡ reached n o i j
reached_from_none n o i j e = ap (λ p. reached n p i j) e

pub reached_there : (n : ℕ) (o : Option Pointer) (i j : Option Tree) (p : Pointer) (t u : Tree) → Some p ≡ o → Some (two t u) ≡ pair i j
    → elements p.block p.offset n t u ≡ reached n o i j
reached_there n o i j p t u e k = (λ x. reached_by n (e x) (k x)) ∙ reached_pair n o i j

pub ruleset reached_laws = (reached_nowhere, reached_from_none, reached_there)

-- ---- conversions

converted_same : (m : Machdep) (k : Kind) (x : Terms) → with_one (λ t. converted m k (integer (kind_in (shape_in x)) t)) (as_integer x) ≡ converted m k x
converted_same m k (integer l t) = refl
converted_same m k (truth f) = refl
converted_same m k (address b o) = refl
converted_same m k (variable x) = refl
converted_same m k (elements b o n low high) = refl
converted_same m k (region cs b low high) = refl
converted_same m k nothing = refl

pub converted_so : (m : Machdep) (k : Kind) (from : Option Kind) (x y t : Terms) → x ≡ y → from ≡ kind_in (shape_in x)
    → t ≡ with_one (λ t. converted m k (integer from t)) (as_integer x) → t ≡ converted m k y
converted_so m k from x y t same e made =
    made ∙ ap (λ l. with_one (λ t. converted m k (integer l t)) (as_integer x)) e ∙ converted_same m k x ∙ ap (converted m k) same

pub ruleset converted_laws = (converted_so)

-- ---- choices

either_same : (x y : Terms) (c : Tree) → chosen_by (way_of (shape_in x) (shape_in y)) c x y ≡ either x y c
either_same (truth f) (truth g) c = refl
either_same (truth f) (integer l u) c = refl
either_same (truth f) (address b o) c = refl
either_same (truth f) (variable y) c = refl
either_same (truth f) (elements b o n low high) c = refl
either_same (truth f) (region cs b low high) c = refl
either_same (truth f) nothing c = refl
either_same (integer k t) (truth g) c = refl
either_same (integer k t) (integer l u) c = refl
either_same (integer k t) (address b o) c = refl
either_same (integer k t) (variable y) c = refl
either_same (integer k t) (elements b o n low high) c = refl
either_same (integer k t) (region cs b low high) c = refl
either_same (integer k t) nothing c = refl
either_same (address b o) (truth g) c = refl
either_same (address b o) (integer l u) c = refl
either_same (address b o) (address b' o') c = refl
either_same (address b o) (variable y) c = refl
either_same (address b o) (elements b' o' n low high) c = refl
either_same (address b o) (region cs b' low high) c = refl
either_same (address b o) nothing c = refl
either_same (variable x) y c = refl
either_same (elements b o n low high) y c = refl
either_same (region cs b low high) y c = refl
either_same nothing y c = refl

pub either_way : (w v : Way) (c : Tree) (x y t : Terms) → w ≡ v → t ≡ chosen_by w c x y → t ≡ chosen_by v c x y
either_way w v c x y t e made = made ∙ ap (λ u. chosen_by u c x y) e

pub choice_missing : (f : Tree → Terms) (o : Option Tree) → None ≡ o → nothing ≡ with_one f o
choice_missing f o e = ap (with_one f) e

pub choice_made : (o : Option Tree) (c : Tree) (x y x' y' t : Terms) → Some c ≡ o → x ≡ x' → y ≡ y'
    → t ≡ chosen_by (way_of (shape_in x) (shape_in y)) c x y → t ≡ with_one (either x' y') o
choice_made o c x y x' y' t e a b made = made ∙ either_same x y c ∙ (λ i. either (a i) (b i) c) ∙ ap (with_one (either x' y')) e

pub ruleset choice_laws = (choice_missing, choice_made)

-- ---- regions

pub region_made : (ks : List CellKind) (n : ℕ) (b o i j : Tree) (t : Terms) → n ≡ length ks
    → t ≡ region ks b (encode.element_at o n i) (encode.element_at o n (encode.one_more j)) → t ≡ region_of ks (elements b o n i j)
region_made ks n b o i j t e made =
    made ∙ ap (λ c. if c then region ks b (encode.element_at o n i) (encode.element_at o n (encode.one_more j)) else nothing) (sym ((Decides-eqb n (length ks)).1 e))

pub region_of_others : (ks : List CellKind) (n : ℕ) (b o i j : Tree) → (n == length ks) ≡ false → nothing ≡ region_of ks (elements b o n i j)
region_of_others ks n b o i j e = ap (λ c. if c then region ks b (encode.element_at o n i) (encode.element_at o n (encode.one_more j)) else nothing) (sym e)

pub ruleset region_laws = (region_made, region_of_others)

abbrev region_by : List CellKind → Set → Terms
region_by ks (object p) = region_of ks (address p.block p.offset)
region_by ks (some_elements p n i j) = region_of ks (elements p.block p.offset n i j)
region_by ks no_set = nothing

region_same : (ks : List CellKind) (x : Terms) → region_by ks (set_in x) ≡ region_of ks x
region_same ks (address b o) = refl
region_same ks (elements b o n i j) = refl
region_same ks (integer k t) = refl
region_same ks (truth f) = refl
region_same ks (variable x) = refl
region_same ks (region cs b i j) = refl
region_same ks nothing = refl

pub region_of_object : (ks : List CellKind) (x : Terms) (b o : Tree) (t : Terms) → object (record { block = b; offset = o }) ≡ set_in x
    → t ≡ region_of ks (address b o) → t ≡ region_of ks x
region_of_object ks x b o t e made = made ∙ ap (region_by ks) e ∙ region_same ks x

pub region_of_elements : (ks : List CellKind) (x : Terms) (n : ℕ) (b o i j : Tree) (t : Terms) → some_elements (record { block = b; offset = o }) n i j ≡ set_in x
    → t ≡ region_of ks (elements b o n i j) → t ≡ region_of ks x
region_of_elements ks x n b o i j t e made = made ∙ ap (region_by ks) e ∙ region_same ks x

pub region_of_nothing : (ks : List CellKind) (x : Terms) → no_set ≡ set_in x → nothing ≡ region_of ks x
region_of_nothing ks x e = ap (region_by ks) e ∙ region_same ks x

pub ruleset set_laws = (region_of_object, region_of_elements, region_of_nothing)
