-- Where terms and formulas stand, and what well formed nodes have for kids.
use Rattle.std.proofs.Common.{◌≡◌, ℕ, zero, suc, Bool, true, false, not, ◌&&◌, ℤ, List, [], ◌∷◌, map, length, refl, sym, ◌∙◌, ap, subst}
use Rattle.std.proofs.lemmas.List.{length-map}
use Rattle.wp_base.specs.declared.kinds.CellKind.TheVariants as cell
use Rattle.qed_terms.specs.declared.head.Sort.{Sort}
use Rattle.qed_terms.specs.declared.head.Shape.{Shape}
use Rattle.qed_terms.specs.declared.head.Shape.TheVariants as shape
use Rattle.qed_terms.specs.declared.head.Head.{Head}
use Rattle.qed_terms.specs.declared.head.Head.TheVariants as h
use Rattle.qed_terms.specs.declared.head.TermOp.{TermOp}
use Rattle.qed_terms.specs.declared.head.TermOp.TheVariants as op
use Rattle.qed_terms.specs.declared.head.FormOp.{FormOp}
use Rattle.qed_terms.specs.declared.head.FormOp.TheVariants as form
use Rattle.qed_terms.specs.declared.term.Term.{Term, Term-F, roll-Term, out-Term, roll-out-Term, fold-roll-Term}
use Rattle.qed_terms.specs.declared.term.Formula.{Formula, Formula-F, roll-Formula, out-Formula, roll-out-Formula, fold-roll-Formula}
use Rattle.qed_terms.specs.Names.{is_name}
use Rattle.qed_terms.specs.Store.{is_well_formed, over, place_of_head}
use Rattle.qed_terms.specs.Tree.{Tree, node, stop, trees_of}
use Rattle.qed_terms.specs.View.{term_tree, term_layer, formula_tree, formula_layer}
use Rattle.qed_terms.specs.WellFormed.{Place, term as at_term, formula as at_formula, argument, int, takes_formula, may_stand, each, term_places, form_places, region_places, kid_places, kid_count, fits, all_fit}
use Rattle.qed_substitution.specs.Substitution.{quantifier}
use Rattle.qed_ids.specs.declared.made.Made.{Made}
use Rattle.qed_ids.specs.Made.{made_tree, is_formula, are_terms, are_formulas}

-- ---- the heads of terms and of formulas

formula_here : (y : Formula-F Formula Term) → is_formula (formula_tree (roll-Formula y)) ≡ true
unfolding term_tree formula_tree
formula_here Formula-F.True = ap is_formula (fold-roll-Formula Tree Tree formula_layer term_layer Formula-F.True)
formula_here Formula-F.False = ap is_formula (fold-roll-Formula Tree Tree formula_layer term_layer Formula-F.False)
formula_here (Formula-F.Rel o ts) = ap is_formula (fold-roll-Formula Tree Tree formula_layer term_layer (Formula-F.Rel o ts))
formula_here (Formula-F.Not f) = ap is_formula (fold-roll-Formula Tree Tree formula_layer term_layer (Formula-F.Not f))
formula_here (Formula-F.And fs) = ap is_formula (fold-roll-Formula Tree Tree formula_layer term_layer (Formula-F.And fs))
formula_here (Formula-F.Or fs) = ap is_formula (fold-roll-Formula Tree Tree formula_layer term_layer (Formula-F.Or fs))
formula_here (Formula-F.Imp f g) = ap is_formula (fold-roll-Formula Tree Tree formula_layer term_layer (Formula-F.Imp f g))
formula_here (Formula-F.Iff f g) = ap is_formula (fold-roll-Formula Tree Tree formula_layer term_layer (Formula-F.Iff f g))
formula_here (Formula-F.Forall x t u f) = ap is_formula (fold-roll-Formula Tree Tree formula_layer term_layer (Formula-F.Forall x t u f))
formula_here (Formula-F.Exists x t u f) = ap is_formula (fold-roll-Formula Tree Tree formula_layer term_layer (Formula-F.Exists x t u f))

term_here : (y : Term-F Formula Term) → is_formula (term_tree (roll-Term y)) ≡ false
unfolding term_tree formula_tree
term_here (Term-F.Num z) = ap is_formula (fold-roll-Term Tree Tree formula_layer term_layer (Term-F.Num z))
term_here (Term-F.Var x s) = ap is_formula (fold-roll-Term Tree Tree formula_layer term_layer (Term-F.Var x s))
term_here (Term-F.Op o ts) = ap is_formula (fold-roll-Term Tree Tree formula_layer term_layer (Term-F.Op o ts))
term_here (Term-F.Ite f t u) = ap is_formula (fold-roll-Term Tree Tree formula_layer term_layer (Term-F.Ite f t u))
term_here (Term-F.App f ts) = ap is_formula (fold-roll-Term Tree Tree formula_layer term_layer (Term-F.App f ts))

pub formula_is : (f : Formula) → is_formula (formula_tree f) ≡ true
formula_is f = let P : Formula → Type 0 = λ g. is_formula (formula_tree g) ≡ true in subst P (roll-out-Formula f) (formula_here (out-Formula f))

pub term_is : (t : Term) → is_formula (term_tree t) ≡ false
term_is t = let P : Term → Type 0 = λ u. is_formula (term_tree u) ≡ false in subst P (roll-out-Term t) (term_here (out-Term t))

-- ---- what fits a place

left : (a b : Bool) → a && b ≡ true → a ≡ true
left true b e = refl
left false b e = absurd cc

right : (a b : Bool) → a && b ≡ true → b ≡ true
right true b e = e
right false b e = absurd cc

fit_term : (place : Place) (t : Tree) → takes_formula place ≡ false → fits place t ≡ true → is_formula t ≡ false
fit_term place (node (h.Num z) ts) k e = refl
fit_term place (node (h.Var x s) ts) k e = refl
fit_term place (node (h.Term o) ts) k e = refl
fit_term place (node h.Ite ts) k e = refl
fit_term place (node (h.App f) ts) k e = refl
fit_term place (node (h.Form o) ts) k e = let q = left (takes_formula place) _ e in absurd cc
fit_term place (node h.True ts) k e = let q = left (takes_formula place) _ e in absurd cc
fit_term place (node h.False ts) k e = let q = left (takes_formula place) _ e in absurd cc
fit_term place (node h.Not ts) k e = let q = left (takes_formula place) _ e in absurd cc
fit_term place (node h.And ts) k e = let q = left (takes_formula place) _ e in absurd cc
fit_term place (node h.Or ts) k e = let q = left (takes_formula place) _ e in absurd cc
fit_term place (node h.Imp ts) k e = let q = left (takes_formula place) _ e in absurd cc
fit_term place (node h.Iff ts) k e = let q = left (takes_formula place) _ e in absurd cc
fit_term place (node (h.Forall x) ts) k e = let q = right (is_name x) (takes_formula place) (left (is_name x && takes_formula place) _ e) in absurd cc
fit_term place (node (h.Exists x) ts) k e = let q = right (is_name x) (takes_formula place) (left (is_name x && takes_formula place) _ e) in absurd cc

fit_formula : (t : Tree) → fits at_formula t ≡ true → is_formula t ≡ true
fit_formula (node (h.Num z) ts) e = absurd cc
fit_formula (node (h.Var x s) ts) e = let q = right (is_name x) false (left (is_name x && false) _ e) in absurd cc
fit_formula (node (h.Term o) ts) e = absurd cc
fit_formula (node h.Ite ts) e = absurd cc
fit_formula (node (h.App f) ts) e = let q = right (is_name f) false (left (is_name f && false) _ e) in absurd cc
fit_formula (node (h.Form o) ts) e = refl
fit_formula (node h.True ts) e = refl
fit_formula (node h.False ts) e = refl
fit_formula (node h.Not ts) e = refl
fit_formula (node h.And ts) e = refl
fit_formula (node h.Or ts) e = refl
fit_formula (node h.Imp ts) e = refl
fit_formula (node h.Iff ts) e = refl
fit_formula (node (h.Forall x) ts) e = refl
fit_formula (node (h.Exists x) ts) e = refl

-- ---- lists of kids

abbrev no_formula : List Place → Bool
no_formula [] = true
no_formula (place ∷ places) = not (takes_formula place) && no_formula places

abbrev each_formula : List Place → Bool
each_formula [] = true
each_formula (at_formula ∷ places) = each_formula places
each_formula (at_term s ∷ places) = false
each_formula (argument ∷ places) = false

turned : (b : Bool) → not b ≡ true → b ≡ false
turned true e = absurd cc
turned false e = refl

terms_fit : (places : List Place) (ts : List Tree) → no_formula places ≡ true → all_fit places (trees_of ts) ≡ true → are_terms ts ≡ true
terms_fit [] [] k e = refl
terms_fit [] (t ∷ ts) k e = absurd cc
terms_fit (place ∷ places) [] k e = absurd cc
terms_fit (place ∷ places) (t ∷ ts) k e =
    let a = fit_term place t (turned (takes_formula place) (left (not (takes_formula place)) (no_formula places) k)) (left (fits place t) (all_fit places (trees_of ts)) e) in
    let b = terms_fit places ts (right (not (takes_formula place)) (no_formula places) k) (right (fits place t) (all_fit places (trees_of ts)) e) in
    λ i. not (a i) && b i

formulas_fit : (places : List Place) (ts : List Tree) → each_formula places ≡ true → all_fit places (trees_of ts) ≡ true → are_formulas ts ≡ true
formulas_fit [] [] k e = refl
formulas_fit [] (t ∷ ts) k e = absurd cc
formulas_fit (place ∷ places) [] k e = absurd cc
formulas_fit (at_formula ∷ places) (t ∷ ts) k e =
    let a = fit_formula t (left (fits at_formula t) (all_fit places (trees_of ts)) e) in
    let b = formulas_fit places ts k (right (fits at_formula t) (all_fit places (trees_of ts)) e) in
    λ i. a i && b i
formulas_fit (at_term s ∷ places) (t ∷ ts) k e = absurd cc
formulas_fit (argument ∷ places) (t ∷ ts) k e = absurd cc

count_fit : (places : List Place) (ts : List Tree) → all_fit places (trees_of ts) ≡ true → length ts ≡ length places
count_fit [] [] e = refl
count_fit [] (t ∷ ts) e = absurd cc
count_fit (place ∷ places) [] e = absurd cc
count_fit (place ∷ places) (t ∷ ts) e = ap suc (count_fit places ts (right (fits place t) (all_fit places (trees_of ts)) e))

ints_plain : (n : ℕ) → no_formula (each int n) ≡ true
ints_plain zero = refl
ints_plain (suc n) = ints_plain n

arguments_plain : (n : ℕ) → no_formula (each argument n) ≡ true
arguments_plain zero = refl
arguments_plain (suc n) = arguments_plain n

formulas_each : (n : ℕ) → each_formula (each at_formula n) ≡ true
formulas_each zero = refl
formulas_each (suc n) = formulas_each n

term_plain : (o : TermOp) (n : ℕ) → no_formula (term_places o n) ≡ true
term_plain op.Add n = ints_plain n
term_plain op.Mul n = ints_plain n
term_plain op.Sub n = refl
term_plain op.Neg n = refl
term_plain op.Div n = refl
term_plain op.Mod n = refl
term_plain (op.Wrap k) n = refl
term_plain op.ShiftLeft n = refl
term_plain op.ShiftRight n = refl
term_plain op.BitAnd n = refl
term_plain op.BitOr n = refl
term_plain op.BitXor n = refl
term_plain op.BitNot n = refl
term_plain op.Load n = refl
term_plain op.Count n = refl
term_plain op.Len n = refl
term_plain op.Store n = refl
term_plain (op.Alloc layout) n = refl
term_plain op.Grow n = refl

regions_plain : (shapes : List Shape) → no_formula (region_places shapes) ≡ true
regions_plain [] = refl
regions_plain (shape.Cells ∷ shapes) = regions_plain shapes
regions_plain (shape.New ∷ shapes) = regions_plain shapes

form_plain : (o : FormOp) → no_formula (form_places o) ≡ true
form_plain form.Equal = refl
form_plain form.AtMost = refl
form_plain form.Less = refl
form_plain form.Same = refl
form_plain (form.Read k) = refl
form_plain (form.Write k) = refl
form_plain form.Live = refl
form_plain (form.Has layout) = refl
form_plain (form.WellFormed (cell.Of k)) = refl
form_plain (form.WellFormed cell.Ptr) = refl
form_plain (form.Frame shapes) = regions_plain shapes

-- ---- the kids of well formed nodes

kids_fit : (head : Head) (ts : List Tree) → is_well_formed (over head ts) ≡ true → all_fit (kid_places head (kid_count (trees_of ts))) (trees_of ts) ≡ true
kids_fit head ts e = right (may_stand (place_of_head head) head) _ e

pub kids_of_op : (o : TermOp) (ts : List Tree) → is_well_formed (over (h.Term o) ts) ≡ true → are_terms ts ≡ true
kids_of_op o ts e = terms_fit (term_places o (kid_count (trees_of ts))) ts (term_plain o (kid_count (trees_of ts))) (kids_fit (h.Term o) ts e)

pub kids_of_app : (f : List ℕ) (ts : List Tree) → is_well_formed (over (h.App f) ts) ≡ true → are_terms ts ≡ true
kids_of_app f ts e = terms_fit (each argument (kid_count (trees_of ts))) ts (arguments_plain (kid_count (trees_of ts))) (kids_fit (h.App f) ts e)

pub kids_of_form : (o : FormOp) (ts : List Tree) → is_well_formed (over (h.Form o) ts) ≡ true → are_terms ts ≡ true
kids_of_form o ts e = terms_fit (form_places o) ts (form_plain o) (kids_fit (h.Form o) ts e)

pub kids_of_and : (ts : List Tree) → is_well_formed (over h.And ts) ≡ true → are_formulas ts ≡ true
kids_of_and ts e = formulas_fit (each at_formula (kid_count (trees_of ts))) ts (formulas_each (kid_count (trees_of ts))) (kids_fit h.And ts e)

pub kids_of_or : (ts : List Tree) → is_well_formed (over h.Or ts) ≡ true → are_formulas ts ≡ true
kids_of_or ts e = formulas_fit (each at_formula (kid_count (trees_of ts))) ts (formulas_each (kid_count (trees_of ts))) (kids_fit h.Or ts e)

pub ruleset kid_laws = (kids_of_op, kids_of_app, kids_of_form, kids_of_and, kids_of_or)

-- no kid
pub no_kids : (head : Head) (ts : List Tree) → kid_places head (kid_count (trees_of ts)) ≡ [] → is_well_formed (over head ts) ≡ true → ts ≡ []
no_kids head ts k e = none ts (count_fit (kid_places head (kid_count (trees_of ts))) ts (kids_fit head ts e) ∙ ap length k)
  where
    none : (ts : List Tree) → length ts ≡ 0 → ts ≡ []
    none [] q = refl
    none (t ∷ ts) q = absurd cc

pub num_alone : (z : ℤ) (ts : List Tree) → is_well_formed (over (h.Num z) ts) ≡ true → node (h.Num z) stop ≡ over (h.Num z) ts
num_alone z ts e = ap (over (h.Num z)) (sym (no_kids (h.Num z) ts refl e))

pub name_alone : (x : List ℕ) (s : Sort) (ts : List Tree) → is_well_formed (over (h.Var x s) ts) ≡ true → node (h.Var x s) stop ≡ over (h.Var x s) ts
name_alone x s ts e = ap (over (h.Var x s)) (sym (no_kids (h.Var x s) ts refl e))

pub true_alone : (ts : List Tree) → is_well_formed (over h.True ts) ≡ true → node h.True stop ≡ over h.True ts
true_alone ts e = ap (over h.True) (sym (no_kids h.True ts refl e))

pub false_alone : (ts : List Tree) → is_well_formed (over h.False ts) ≡ true → node h.False stop ≡ over h.False ts
false_alone ts e = ap (over h.False) (sym (no_kids h.False ts refl e))

pub ruleset alone_laws = (num_alone, name_alone, true_alone, false_alone)

-- ---- one, two or three kids, as they were made

module _ (kids : List Made) where
  abbrev made_trees : List Tree
  made_trees = map made_tree kids

  counted : (places : List Place) → all_fit places (trees_of made_trees) ≡ true → length kids ≡ length places
  counted places e = sym (length-map kids made_tree) ∙ count_fit places made_trees e

  pub one_kid : is_well_formed (over h.Not made_trees) ≡ true → length kids ≡ 1
  one_kid e = counted (at_formula ∷ []) (kids_fit h.Not made_trees e)

  pub imp_kids : is_well_formed (over h.Imp made_trees) ≡ true → length kids ≡ 2
  imp_kids e = counted (at_formula ∷ at_formula ∷ []) (kids_fit h.Imp made_trees e)

  pub iff_kids : is_well_formed (over h.Iff made_trees) ≡ true → length kids ≡ 2
  iff_kids e = counted (at_formula ∷ at_formula ∷ []) (kids_fit h.Iff made_trees e)

  pub ite_kids : is_well_formed (over h.Ite made_trees) ≡ true → length kids ≡ 3
  ite_kids e = counted (at_formula ∷ int ∷ int ∷ []) (kids_fit h.Ite made_trees e)

  range_fits : (b : Bool) (x : List ℕ) → is_well_formed (over (quantifier b x) made_trees) ≡ true → all_fit (int ∷ int ∷ at_formula ∷ []) (trees_of made_trees) ≡ true
  range_fits true x e = kids_fit (h.Forall x) made_trees e
  range_fits false x e = kids_fit (h.Exists x) made_trees e

  pub range_kids : (b : Bool) (x : List ℕ) → is_well_formed (over (quantifier b x) made_trees) ≡ true → length kids ≡ 3
  range_kids b x e = counted (int ∷ int ∷ at_formula ∷ []) (range_fits b x e)

  module _ (a : Made) (alone : kids ≡ a ∷ []) where
    pub not_kid : is_well_formed (over h.Not made_trees) ≡ true → is_formula (made_tree a) ≡ true
    not_kid e = fit_formula (made_tree a) (left _ true (sym (ap (λ ks. all_fit (at_formula ∷ []) (trees_of (map made_tree ks))) alone) ∙ kids_fit h.Not made_trees e))

  module _ (a b : Made) (pair : kids ≡ a ∷ b ∷ []) where
    pairs : all_fit (at_formula ∷ at_formula ∷ []) (trees_of made_trees) ≡ true → fits at_formula (made_tree a) && (fits at_formula (made_tree b) && true) ≡ true
    pairs e = sym (ap (λ ks. all_fit (at_formula ∷ at_formula ∷ []) (trees_of (map made_tree ks))) pair) ∙ e

    pub imp_from : is_well_formed (over h.Imp made_trees) ≡ true → is_formula (made_tree a) ≡ true
    imp_from e = fit_formula (made_tree a) (left (fits at_formula (made_tree a)) (fits at_formula (made_tree b) && true) (pairs (kids_fit h.Imp made_trees e)))

    pub imp_to : is_well_formed (over h.Imp made_trees) ≡ true → is_formula (made_tree b) ≡ true
    imp_to e = fit_formula (made_tree b) (left (fits at_formula (made_tree b)) true (right (fits at_formula (made_tree a)) (fits at_formula (made_tree b) && true) (pairs (kids_fit h.Imp made_trees e))))

    pub iff_left : is_well_formed (over h.Iff made_trees) ≡ true → is_formula (made_tree a) ≡ true
    iff_left e = fit_formula (made_tree a) (left (fits at_formula (made_tree a)) (fits at_formula (made_tree b) && true) (pairs (kids_fit h.Iff made_trees e)))

    pub iff_right : is_well_formed (over h.Iff made_trees) ≡ true → is_formula (made_tree b) ≡ true
    iff_right e = fit_formula (made_tree b) (left (fits at_formula (made_tree b)) true (right (fits at_formula (made_tree a)) (fits at_formula (made_tree b) && true) (pairs (kids_fit h.Iff made_trees e))))

  module _ (a b c : Made) (all : kids ≡ a ∷ b ∷ c ∷ []) where
    threes : (p q r : Place) → all_fit (p ∷ q ∷ r ∷ []) (trees_of made_trees) ≡ true → fits p (made_tree a) && (fits q (made_tree b) && (fits r (made_tree c) && true)) ≡ true
    threes p q r e = sym (ap (λ ks. all_fit (p ∷ q ∷ r ∷ []) (trees_of (map made_tree ks))) all) ∙ e

    first_fits : (p q r : Place) → all_fit (p ∷ q ∷ r ∷ []) (trees_of made_trees) ≡ true → fits p (made_tree a) ≡ true
    first_fits p q r e = left (fits p (made_tree a)) (fits q (made_tree b) && (fits r (made_tree c) && true)) (threes p q r e)

    second_fits : (p q r : Place) → all_fit (p ∷ q ∷ r ∷ []) (trees_of made_trees) ≡ true → fits q (made_tree b) ≡ true
    second_fits p q r e = left (fits q (made_tree b)) (fits r (made_tree c) && true) (right (fits p (made_tree a)) (fits q (made_tree b) && (fits r (made_tree c) && true)) (threes p q r e))

    third_fits : (p q r : Place) → all_fit (p ∷ q ∷ r ∷ []) (trees_of made_trees) ≡ true → fits r (made_tree c) ≡ true
    third_fits p q r e = left (fits r (made_tree c)) true (right (fits q (made_tree b)) (fits r (made_tree c) && true) (right (fits p (made_tree a)) (fits q (made_tree b) && (fits r (made_tree c) && true)) (threes p q r e)))

    pub ite_first : is_well_formed (over h.Ite made_trees) ≡ true → is_formula (made_tree a) ≡ true
    ite_first e = fit_formula (made_tree a) (first_fits at_formula int int (kids_fit h.Ite made_trees e))

    pub ite_second : is_well_formed (over h.Ite made_trees) ≡ true → is_formula (made_tree b) ≡ false
    ite_second e = fit_term int (made_tree b) refl (second_fits at_formula int int (kids_fit h.Ite made_trees e))

    pub ite_third : is_well_formed (over h.Ite made_trees) ≡ true → is_formula (made_tree c) ≡ false
    ite_third e = fit_term int (made_tree c) refl (third_fits at_formula int int (kids_fit h.Ite made_trees e))

    pub range_first : (q : Bool) (x : List ℕ) → is_well_formed (over (quantifier q x) made_trees) ≡ true → is_formula (made_tree a) ≡ false
    range_first q x e = fit_term int (made_tree a) refl (first_fits int int at_formula (range_fits q x e))

    pub range_second : (q : Bool) (x : List ℕ) → is_well_formed (over (quantifier q x) made_trees) ≡ true → is_formula (made_tree b) ≡ false
    range_second q x e = fit_term int (made_tree b) refl (second_fits int int at_formula (range_fits q x e))

    pub range_third : (q : Bool) (x : List ℕ) → is_well_formed (over (quantifier q x) made_trees) ≡ true → is_formula (made_tree c) ≡ true
    range_third q x e = fit_formula (made_tree c) (third_fits int int at_formula (range_fits q x e))

pub ruleset part_laws = (one_kid, imp_kids, iff_kids, ite_kids, range_kids, not_kid, imp_from, imp_to, iff_left, iff_right, ite_first, ite_second, ite_third, range_first, range_second, range_third)
