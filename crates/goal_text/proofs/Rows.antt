-- Kids of a row, and what heads make of them.
use Rattle.std.proofs.Common.{◌≡◌, ℕ, Bool, true, false, List, [], ◌∷◌, ◌++◌, Some, None, refl, sym, ap, ◌∙◌, subst, append_assoc, append-nil}
use Rattle.std.proofs.lemmas.Bool.{false≢true}
use Rattle.qed_terms.specs.declared.head.FormOp.{FormOp}
use Rattle.qed_terms.specs.declared.head.Head.TheVariants as h
use Rattle.qed_terms.specs.declared.head.TermOp.{TermOp}
use Rattle.qed_terms.specs.Tree.{Tree, node, Trees, stop, more, trees_of, list_of, one, two, three}
use Rattle.qed_terms.specs.WellFormed.{Place, term, formula, argument, int, fits, all_fit}
use Rattle.goal_words.proofs.Numerals.{both_true}
use Rattle.goal_text.specs.declared.fronts.FormHead.TheVariants as fh
use Rattle.goal_text.specs.declared.fronts.TermHead.TheVariants as th
use Rattle.goal_text.specs.Reader.{Kids, no_kids, with_terms, with_kids, term_made, form_made}

pub trees_of-list_of : (ts : Trees) → trees_of (list_of ts) ≡ ts
trees_of-list_of stop = refl
trees_of-list_of (more t ts) = ap (λ us. more t us) (trees_of-list_of ts)

-- each behind the others that stand at such places
abbrev pub put_all : List Place → Trees → Kids → Kids
put_all [] ts k = k
put_all (p ∷ ps) stop k = k
put_all (p ∷ ps) (more t ts) k = put_all ps ts (with_kids p (t ∷ []) k)

-- no place of a formula
abbrev pub all_terms : List Place → Bool
all_terms [] = true
all_terms (term s ∷ ps) = all_terms ps
all_terms (argument ∷ ps) = all_terms ps
all_terms (formula ∷ ps) = false

abbrev with_terms_of : Kids → List Tree → Kids
with_terms_of k ts = record { formulas = k.formulas; terms = ts; shapes = k.shapes }

abbrev with_formulas_of : Kids → List Tree → Kids
with_formulas_of k fs = record { formulas = fs; terms = k.terms; shapes = k.shapes }

pub terms_put : (ps : List Place) (ts : Trees) (k : Kids) → all_terms ps ≡ true → all_fit ps ts ≡ true → put_all ps ts k ≡ with_terms k (list_of ts)
terms_put [] stop k a f = ap (with_terms_of k) (sym (append-nil k.terms))
terms_put [] (more t ts) k a f = absurd (false≢true f)
terms_put (p ∷ ps) stop k a f = absurd (false≢true f)
terms_put (formula ∷ ps) (more t ts) k a f = absurd (false≢true a)
terms_put (term s ∷ ps) (more t ts) k a f =
    terms_put ps ts (with_terms k (t ∷ [])) a (both_true (fits (term s) t) (all_fit ps ts) f).1
    ∙ ap (with_terms_of k) (append_assoc k.terms (t ∷ []) (list_of ts))
terms_put (argument ∷ ps) (more t ts) k a f =
    terms_put ps ts (with_terms k (t ∷ [])) a (both_true (fits argument t) (all_fit ps ts) f).1
    ∙ ap (with_terms_of k) (append_assoc k.terms (t ∷ []) (list_of ts))

-- the terms of a row are its kids
pub row_terms : (ps : List Place) (ts : Trees) → all_terms ps ≡ true → all_fit ps ts ≡ true → trees_of (put_all ps ts no_kids).terms ≡ ts
row_terms ps ts a f = ap (λ (k : Kids). trees_of k.terms) (terms_put ps ts no_kids a f) ∙ trees_of-list_of ts

pub no_more : (place : Place) (k : Kids) → k ≡ with_kids place [] k
no_more (term s) k = ap (with_terms_of k) (sym (append-nil k.terms))
no_more argument k = ap (with_terms_of k) (sym (append-nil k.terms))
no_more formula k = ap (with_formulas_of k) (sym (append-nil k.formulas))

pub kids_behind : (place : Place) (ts us : List Tree) (k : Kids) → with_kids place us (with_kids place ts k) ≡ with_kids place (ts ++ us) k
kids_behind (term s) ts us k = ap (with_terms_of k) (append_assoc k.terms ts us)
kids_behind argument ts us k = ap (with_terms_of k) (append_assoc k.terms ts us)
kids_behind formula ts us k = ap (with_formulas_of k) (append_assoc k.formulas ts us)

-- ---- as many kids as places

pub none_are : (ts : Trees) → all_fit [] ts ≡ true → ts ≡ stop
none_are stop f = refl
none_are (more t ts) f = absurd (false≢true f)

pub one_are : (p : Place) (ts : Trees) → all_fit (p ∷ []) ts ≡ true → (a : Tree) × (ts ≡ one a)
one_are p stop f = absurd (false≢true f)
one_are p (more t ts) f = (t, ap (λ us. more t us) (none_are ts (both_true (fits p t) (all_fit [] ts) f).1))

pub two_are : (p q : Place) (ts : Trees) → all_fit (p ∷ q ∷ []) ts ≡ true → (a b : Tree) × (ts ≡ two a b)
two_are p q stop f = absurd (false≢true f)
two_are p q (more t ts) f =
    let x = one_are q ts (both_true (fits p t) (all_fit (q ∷ []) ts) f).1 in
    (t, x.0, ap (λ us. more t us) x.1)

pub three_are : (p q r : Place) (ts : Trees) → all_fit (p ∷ q ∷ r ∷ []) ts ≡ true → (a b c : Tree) × (ts ≡ three a b c)
three_are p q r stop f = absurd (false≢true f)
three_are p q r (more t ts) f =
    let x = two_are q r ts (both_true (fits p t) (all_fit (q ∷ r ∷ []) ts) f).1 in
    (t, x.0, x.1, ap (λ us. more t us) x.2)

-- ---- what heads make of them

pub op_made : (o : TermOp) (k : Kids) (ts : Trees) → trees_of k.terms ≡ ts → term_made (th.Op o) None k ≡ Some (node (h.Term o) ts)
op_made o k ts e = ap (λ ts. Some (node (h.Term o) ts)) e

pub rel_made : (o : FormOp) (k : Kids) (ts : Trees) → trees_of k.terms ≡ ts → form_made (fh.Rel o) None k ≡ Some (node (h.Form o) ts)
rel_made o k ts e = ap (λ ts. Some (node (h.Form o) ts)) e

pub app_made : (x : List ℕ) (k : Kids) (ts : Trees) → trees_of k.terms ≡ ts → term_made (th.App x) None k ≡ Some (node (h.App x) ts)
app_made x k ts e = ap (λ ts. Some (node (h.App x) ts)) e

pub ite_made : (ts : Trees) → all_fit (formula ∷ int ∷ int ∷ []) ts ≡ true → term_made th.Ite None (put_all (formula ∷ int ∷ int ∷ []) ts no_kids) ≡ Some (node h.Ite ts)
ite_made ts f =
    let x = three_are formula int int ts f in
    subst (λ ts. term_made th.Ite None (put_all (formula ∷ int ∷ int ∷ []) ts no_kids) ≡ Some (node h.Ite ts)) (sym x.3) refl

pub not_made : (ts : Trees) → all_fit (formula ∷ []) ts ≡ true → form_made fh.Not None (put_all (formula ∷ []) ts no_kids) ≡ Some (node h.Not ts)
not_made ts f =
    let x = one_are formula ts f in
    subst (λ ts. form_made fh.Not None (put_all (formula ∷ []) ts no_kids) ≡ Some (node h.Not ts)) (sym x.1) refl

pub imp_made : (ts : Trees) → all_fit (formula ∷ formula ∷ []) ts ≡ true → form_made fh.Imp None (put_all (formula ∷ formula ∷ []) ts no_kids) ≡ Some (node h.Imp ts)
imp_made ts f =
    let x = two_are formula formula ts f in
    subst (λ ts. form_made fh.Imp None (put_all (formula ∷ formula ∷ []) ts no_kids) ≡ Some (node h.Imp ts)) (sym x.2) refl

pub iff_made : (ts : Trees) → all_fit (formula ∷ formula ∷ []) ts ≡ true → form_made fh.Iff None (put_all (formula ∷ formula ∷ []) ts no_kids) ≡ Some (node h.Iff ts)
iff_made ts f =
    let x = two_are formula formula ts f in
    subst (λ ts. form_made fh.Iff None (put_all (formula ∷ formula ∷ []) ts no_kids) ≡ Some (node h.Iff ts)) (sym x.2) refl

pub forall_made : (y : List ℕ) (ts : Trees) → all_fit (int ∷ int ∷ formula ∷ []) ts ≡ true → form_made (fh.Forall y) None (put_all (int ∷ int ∷ formula ∷ []) ts no_kids) ≡ Some (node (h.Forall y) ts)
forall_made y ts f =
    let x = three_are int int formula ts f in
    subst (λ ts. form_made (fh.Forall y) None (put_all (int ∷ int ∷ formula ∷ []) ts no_kids) ≡ Some (node (h.Forall y) ts)) (sym x.3) refl

pub exists_made : (y : List ℕ) (ts : Trees) → all_fit (int ∷ int ∷ formula ∷ []) ts ≡ true → form_made (fh.Exists y) None (put_all (int ∷ int ∷ formula ∷ []) ts no_kids) ≡ Some (node (h.Exists y) ts)
exists_made y ts f =
    let x = three_are int int formula ts f in
    subst (λ ts. form_made (fh.Exists y) None (put_all (int ∷ int ∷ formula ∷ []) ts no_kids) ≡ Some (node (h.Exists y) ts)) (sym x.3) refl
