-- Pieces of a text, put one behind the other.
use Rattle.std.proofs.Common.{◌≡◌, ℕ, zero, suc, ◌+◌, ◌-◌, ◌<◌, ◌≤◌, Bool, true, ◌&&◌, List, [], ◌∷◌, ◌++◌, length, length-drop, get_or, min, map, take, drop, codes, ℤ, refl, sym, ap, ◌∙◌, subst, append_assoc, append-nil, arith}
use Rattle.std.specs.Borrow.{Bor}
use Rattle.std.specs.List.{list_all}
use Rattle.std.specs.Fmt.{decimal, signed_decimal}
use Rattle.std.proofs.lemmas.List.{take-append-drop, take-map, take_all, drop_all, take_min, drop_min, drop_more}
use Rattle.std.proofs.lemmas.List.Folds.{list_all-append}
use Rattle.wp_base.specs.declared.kinds.Layout.{Layout}
use Rattle.qed_terms.specs.declared.term.Term.{Term}
use Rattle.qed_terms.specs.declared.term.Formula.{Formula}
use Rattle.qed_terms.specs.declared.term.Term.TheVariants as tv
use Rattle.qed_terms.specs.declared.term.Formula.TheVariants as fv
use Rattle.qed_terms.specs.declared.head.Shape.{Shape}
use Rattle.qed_terms.specs.declared.head.Sort.{Sort}
use Rattle.qed_terms.specs.declared.head.Head.{Head}
use Rattle.qed_terms.specs.declared.head.Head.TheVariants as h
use Rattle.qed_terms.proofs.Equations.{term_tree-Num, term_tree-Var, term_tree-Ite, formula_tree-True, formula_tree-False, formula_tree-Not, formula_tree-Imp, formula_tree-Iff, formula_tree-Forall, formula_tree-Exists}
use Rattle.qed_terms.specs.Nodes.{kids_of}
use Rattle.qed_terms.specs.Tree.{Tree, node, Trees, stop, more, trees_of, list_of, true_tree}
use Rattle.qed_terms.specs.View.{term_tree, formula_tree}
use Rattle.goal_words.specs.Kinds.{cell_text}
use Rattle.goal_words.specs.Numbers.{fits_128, flag_text}
use Rattle.goal_text.specs.Held.{fits_32, is_held, all_held, goal_held}
use Rattle.goal_text.specs.Text.{spaced, bracket, layout_text, shape_word, shape_width, regions_texts, frame_parts, tree_text, tree_texts, goal_text}
use Rattle.goal_text.specs.Writer.{look_text, LooksLike, LooksLikeTree, Writes, WritesAll, WritesRegion, WritesFrame}
use Rattle.goal_text.specs.declared.around.Around.{Around}
use Rattle.goal_text.specs.declared.around.Around.TheVariants as look
use Rattle.goal_text.proofs.Pieces.{spaced-append}

-- ---- what stands around the kids of a node

kid_texts : (ts : Trees) → tree_texts ts ≡ map tree_text (list_of ts)
kid_texts stop = refl
kid_texts (more t ts) = ap (λ xs. tree_text t ∷ xs) (kid_texts ts)

kids_held : (ts : Trees) → all_held ts ≡ list_all is_held (list_of ts)
kids_held stop = refl
kids_held (more t ts) = ap (λ b. is_held t && b) (kids_held ts)

around : (seen : Around) (head : Head) (ts : Trees) → LooksLike seen head → LooksLikeTree seen (node head ts)
around seen head ts like = record {
  text = sym (like.text (tree_texts ts)) ∙ ap (look_text seen) (kid_texts ts);
  held = λ own kids. rw (sym like.held ∙ own, kids_held ts, kids like.around);
}

pub looks_at : (seen : Around) (t : Tree) (head : Head) (ts : Trees) → t ≡ node head ts → LooksLike seen head → LooksLikeTree seen t
looks_at seen t head ts e like = subst (LooksLikeTree seen) (sym e) (around seen head ts like)

pub num_looks : (z : ℤ) → LooksLikeTree (look.Number z) (term_tree (tv.Num z))
num_looks z = subst (LooksLikeTree (look.Number z)) (sym (term_tree-Num z)) (record { text = refl; held = λ own kids. rw own })

pub var_looks : (x : List ℕ) (s : Sort) (b : Bor (List ℕ)) → b.now ≡ x → LooksLikeTree (look.Word b) (term_tree (tv.Var x s))
var_looks x s b e = subst (LooksLikeTree (look.Word b)) (sym (term_tree-Var x s)) (record { text = sym e; held = λ own kids. refl })

pub ite_looks : (w : Bor (List ℕ)) (c : Formula) (t u : Term) → w.now ≡ codes "ite" → LooksLikeTree (look.Plain w) (term_tree (tv.Ite c t u))
ite_looks w c t u e = subst (LooksLikeTree (look.Plain w)) (sym (term_tree-Ite c t u)) (around (look.Plain w) h.Ite _ (record { around = tt; text = λ ts. ap (λ w. bracket w ts) e; held = refl }))

pub true_looks : (b : Bor (List ℕ)) → b.now ≡ codes "true" → LooksLikeTree (look.Word b) (formula_tree fv.True)
true_looks b e = subst (LooksLikeTree (look.Word b)) (sym formula_tree-True) (record { text = sym e; held = λ own kids. refl })

pub false_looks : (b : Bor (List ℕ)) → b.now ≡ codes "false" → LooksLikeTree (look.Word b) (formula_tree fv.False)
false_looks b e = subst (LooksLikeTree (look.Word b)) (sym formula_tree-False) (record { text = sym e; held = λ own kids. refl })

pub not_looks : (w : Bor (List ℕ)) (a : Formula) → w.now ≡ codes "not" → LooksLikeTree (look.Plain w) (formula_tree (fv.Not a))
not_looks w a e = subst (LooksLikeTree (look.Plain w)) (sym (formula_tree-Not a)) (around (look.Plain w) h.Not _ (record { around = tt; text = λ ts. ap (λ w. bracket w ts) e; held = refl }))

pub imp_looks : (w : Bor (List ℕ)) (a b : Formula) → w.now ≡ codes "imp" → LooksLikeTree (look.Plain w) (formula_tree (fv.Imp a b))
imp_looks w a b e = subst (LooksLikeTree (look.Plain w)) (sym (formula_tree-Imp a b)) (around (look.Plain w) h.Imp _ (record { around = tt; text = λ ts. ap (λ w. bracket w ts) e; held = refl }))

pub iff_looks : (w : Bor (List ℕ)) (a b : Formula) → w.now ≡ codes "iff" → LooksLikeTree (look.Plain w) (formula_tree (fv.Iff a b))
iff_looks w a b e = subst (LooksLikeTree (look.Plain w)) (sym (formula_tree-Iff a b)) (around (look.Plain w) h.Iff _ (record { around = tt; text = λ ts. ap (λ w. bracket w ts) e; held = refl }))

pub forall_looks : (w b : Bor (List ℕ)) (x : List ℕ) (t u : Term) (a : Formula) → w.now ≡ codes "forall" → b.now ≡ x → LooksLikeTree (look.Named w b) (formula_tree (fv.Forall x t u a))
forall_looks w b x t u a e n = subst (LooksLikeTree (look.Named w b)) (sym (formula_tree-Forall x t u a)) (around (look.Named w b) (h.Forall x) _ (record { around = tt; text = λ ts. (λ i. bracket (e i) (n i ∷ ts)); held = refl }))

pub exists_looks : (w b : Bor (List ℕ)) (x : List ℕ) (t u : Term) (a : Formula) → w.now ≡ codes "exists" → b.now ≡ x → LooksLikeTree (look.Named w b) (formula_tree (fv.Exists x t u a))
exists_looks w b x t u a e n = subst (LooksLikeTree (look.Named w b)) (sym (formula_tree-Exists x t u a)) (around (look.Named w b) (h.Exists x) _ (record { around = tt; text = λ ts. (λ i. bracket (e i) (n i ∷ ts)); held = refl }))

pub app_like : (w b : Bor (List ℕ)) (x : List ℕ) → w.now ≡ codes "app" → b.now ≡ x → LooksLike (look.Named w b) (h.App x)
app_like w b x e n = record { around = tt; text = λ ts. (λ i. bracket (e i) (n i ∷ ts)); held = refl }

pub and_like : (w : Bor (List ℕ)) → w.now ≡ codes "and" → LooksLike (look.Plain w) h.And
and_like w e = record { around = tt; text = λ ts. ap (λ w. bracket w ts) e; held = refl }

pub or_like : (w : Bor (List ℕ)) → w.now ≡ codes "or" → LooksLike (look.Plain w) h.Or
or_like w e = record { around = tt; text = λ ts. ap (λ w. bracket w ts) e; held = refl }

pub ruleset look_laws = (num_looks, var_looks, ite_looks, true_looks, false_looks, not_looks, imp_looks, iff_looks, forall_looks, exists_looks)

-- ---- brackets

bracket_put : (text word : List ℕ) (ps : List (List ℕ)) → ((text ++ 40 ∷ word) ++ spaced ps) ++ 41 ∷ [] ≡ text ++ bracket word ps
bracket_put text word ps = simp append_assoc

-- one more part, and the last one
more_part : (text x : List ℕ) (ps : List (List ℕ)) → (text ++ 32 ∷ x) ++ spaced ps ≡ text ++ spaced (x ∷ ps)
more_part text x ps = append_assoc text (32 ∷ x) (spaced ps)

end_part : (text x : List ℕ) → text ++ 32 ∷ x ≡ text ++ spaced (x ∷ [])
end_part text x = ap (λ l. text ++ 32 ∷ l) (sym (append-nil x))

close_put : (text word all : List ℕ) (ps : List (List ℕ)) → all ≡ (text ++ 40 ∷ word) ++ spaced ps → all ++ 41 ∷ [] ≡ text ++ bracket word ps
close_put text word all ps e = ap (λ l. l ++ 41 ∷ []) e ∙ bracket_put text word ps

two_parts : (text a b : List ℕ) → (text ++ 32 ∷ a) ++ 32 ∷ b ≡ text ++ spaced (a ∷ b ∷ [])
two_parts text a b = end_part (text ++ 32 ∷ a) b ∙ more_part text a (b ∷ [])

two_put : (text word a b : List ℕ) → (((text ++ 40 ∷ word) ++ 32 ∷ a) ++ 32 ∷ b) ++ 41 ∷ [] ≡ text ++ bracket word (a ∷ b ∷ [])
two_put text word a b = close_put text word _ (a ∷ b ∷ []) (two_parts (text ++ 40 ∷ word) a b)

last_put : (text x : List ℕ) (ps : List (List ℕ)) → (text ++ spaced ps) ++ 32 ∷ x ≡ text ++ spaced (ps ++ x ∷ [])
last_put text x ps = rw spaced-append (simp (append_assoc, append-nil))

region_put : (text word : List ℕ) (ps : List (List ℕ)) → (((text ++ 32 ∷ []) ++ 40 ∷ word) ++ spaced ps) ++ 41 ∷ [] ≡ text ++ 32 ∷ bracket word ps
region_put text word ps = simp append_assoc

pub layout_put : (text : List ℕ) (l : Layout) → ((((text ++ codes " (lay") ++ 32 ∷ flag_text l.writable) ++ 32 ∷ decimal l.count) ++ spaced (map cell_text l.cells)) ++ 41 ∷ [] ≡ text ++ 32 ∷ layout_text l
layout_put text l =
    let cells = map cell_text l.cells in
    ap (λ x. x ++ 41 ∷ []) (more_part ((text ++ codes " (lay") ++ 32 ∷ flag_text l.writable) (decimal l.count) cells ∙ more_part (text ++ codes " (lay") (flag_text l.writable) (decimal l.count ∷ cells))
    ∙ append_assoc (text ++ codes " (lay") (spaced (flag_text l.writable ∷ decimal l.count ∷ cells)) (41 ∷ [])
    ∙ append_assoc text (codes " (lay") (spaced (flag_text l.writable ∷ decimal l.count ∷ cells) ++ 41 ∷ [])

-- ---- nodes

-- all kids, from the first to the last
all_kids : (ts : List Tree) (n : ℕ) → n ≡ length ts → drop 0 (take n ts) ≡ ts
all_kids ts n e = take_all n ts (omega arith)

kids_put : (before now : List ℕ) (ts : List Tree) (n : ℕ) → n ≡ length ts → WritesAll before now (drop 0 (take n ts)) → WritesAll before now ts
kids_put before now ts n e w = subst (WritesAll before now) (all_kids ts n e) w

pub number_put : (z : ℤ) (t : Tree) (a b : List ℕ) → LooksLikeTree (look.Number z) t → b ≡ a ++ signed_decimal z → fits_128 z ≡ true → Writes a b t
number_put z t a b seen e f = record { text = e ∙ ap (λ x. a ++ x) (sym seen.text); held = seen.held f (λ none. absurd none) }

pub word_put : (x : Bor (List ℕ)) (t : Tree) (a b : List ℕ) → LooksLikeTree (look.Word x) t → b ≡ a ++ x.now → Writes a b t
word_put x t a b seen e = record { text = e ∙ ap (λ x. a ++ x) (sym seen.text); held = seen.held refl (λ none. absurd none) }

pub plain_put : (word : Bor (List ℕ)) (t : Tree) (n : ℕ) (a b c d : List ℕ) → LooksLikeTree (look.Plain word) t → n ≡ length (kids_of t) → b ≡ a ++ 40 ∷ word.now → WritesAll b c (drop 0 (take n (kids_of t))) → d ≡ c ++ 41 ∷ [] → Writes a d t
plain_put word t n a b c d seen m p w q =
    let kids = kids_put b c (kids_of t) n m w in
    let ps = map tree_text (kids_of t) in
    record {
      text = q ∙ close_put a word.now c ps (kids.text ∙ ap (λ x. x ++ spaced ps) p) ∙ ap (λ x. a ++ x) (sym seen.text);
      held = seen.held refl (λ some. kids.held);
    }

pub named_put : (word x : Bor (List ℕ)) (t : Tree) (n : ℕ) (a b b' c d : List ℕ) → LooksLikeTree (look.Named word x) t → n ≡ length (kids_of t) → b ≡ a ++ 40 ∷ word.now → b' ≡ b ++ 32 ∷ x.now
    → WritesAll b' c (drop 0 (take n (kids_of t))) → d ≡ c ++ 41 ∷ [] → Writes a d t
named_put word x t n a b b' c d seen m p p' w q =
    let kids = kids_put b' c (kids_of t) n m w in
    let ps = map tree_text (kids_of t) in
    record {
      text = q ∙ close_put a word.now c (x.now ∷ ps) (kids.text ∙ ap (λ y. y ++ spaced ps) (p' ∙ ap (λ y. y ++ 32 ∷ x.now) p) ∙ more_part (a ++ 40 ∷ word.now) x.now ps) ∙ ap (λ x. a ++ x) (sym seen.text);
      held = seen.held refl (λ some. kids.held);
    }

pub laid_put : (word : Bor (List ℕ)) (l : Bor Layout) (t : Tree) (n : ℕ) (a b c c' d : List ℕ) → LooksLikeTree (look.Laid word l) t → n ≡ length (kids_of t) → b ≡ a ++ 40 ∷ word.now → WritesAll b c (drop 0 (take n (kids_of t)))
    → c' ≡ c ++ 32 ∷ layout_text l.now → fits_32 l.now ≡ true → d ≡ c' ++ 41 ∷ [] → Writes a d t
laid_put word l t n a b c c' d seen m p w p' f q =
    let kids = kids_put b c (kids_of t) n m w in
    let ps = map tree_text (kids_of t) in
    let lay = layout_text l.now in
    record {
      text = q ∙ close_put a word.now c' (ps ++ lay ∷ []) (p' ∙ ap (λ y. y ++ 32 ∷ lay) (kids.text ∙ ap (λ y. y ++ spaced ps) p) ∙ last_put (a ++ 40 ∷ word.now) lay ps) ∙ ap (λ x. a ++ x) (sym seen.text);
      held = seen.held f (λ some. kids.held);
    }

pub framed_put : (shapes : Bor (List Shape)) (t : Tree) (a b c d : List ℕ) → LooksLikeTree (look.Frame shapes) t → b ≡ a ++ 40 ∷ codes "frame" → WritesFrame b c shapes.now (kids_of t) → d ≡ c ++ 41 ∷ [] → Writes a d t
framed_put shapes t a b c d seen p w q =
    let ps = frame_parts shapes.now (map tree_text (kids_of t)) in
    record {
      text = q ∙ close_put a (codes "frame") c ps (w.text ∙ ap (λ x. x ++ spaced ps) p) ∙ ap (λ x. a ++ x) (sym seen.text);
      held = seen.held refl (λ some. w.held);
    }

pub region_of : (s : Shape) (word : Bor (List ℕ)) (ts : List Tree) (a b c d e : List ℕ) → word.now ≡ shape_word s → b ≡ a ++ 32 ∷ [] → c ≡ b ++ 40 ∷ word.now → WritesAll c d ts → e ≡ d ++ 41 ∷ [] → WritesRegion a e s ts
region_of s word ts a b c d e is p q w r = record {
  text = r ∙ ap (λ y. y ++ 41 ∷ []) (w.text ∙ (λ i. (q ∙ (λ j. p j ++ 40 ∷ is j)) i ++ spaced (map tree_text ts))) ∙ region_put a (shape_word s) (map tree_text ts);
  held = w.held;
}

-- ---- kids, one after the other

-- the trees from a place up to below another
abbrev pub span : ℕ → ℕ → List Tree → List Tree
span i n ts = drop i (take n ts)

span_more : (ts : List Tree) (i n : ℕ) → i < n → n ≤ length ts → span i n ts ≡ get_or ts i true_tree ∷ span (i + 1) n ts
span_more ts i n lt le = let one : suc i ≡ i + 1 = omega arith in go ts i n lt le ∙ ap (λ j. get_or ts i true_tree ∷ span j n ts) one
  where
    go : (ts : List Tree) (i n : ℕ) → i < n → n ≤ length ts → span i n ts ≡ get_or ts i true_tree ∷ span (suc i) n ts
    go [] i n lt le = absurd (omega arith)
    go (t ∷ ts) i zero lt le = absurd (omega arith)
    go (t ∷ ts) zero (suc n) lt le = refl
    go (t ∷ ts) (suc i) (suc n) lt le = go ts i n (omega arith) (omega arith)

-- what is put, and what is to come, are the whole
pub record Putting (base now : List ℕ) (all left : List Tree) : Type 0 where
  pub text : now ++ spaced (map tree_text left) ≡ base ++ spaced (map tree_text all)
  pub held : list_all is_held left ≡ true → list_all is_held all ≡ true

pub begun : (base : List ℕ) (all : List Tree) → Putting base base all all
begun base all = record { text = refl; held = λ h. h }

one_put : (base a b c : List ℕ) (all left : List Tree) (t : Tree) → Putting base a all (t ∷ left) → b ≡ a ++ 32 ∷ [] → Writes b c t → Putting base c all left
one_put base a b c all left t before p w = record {
  text = ap (λ x. x ++ spaced (map tree_text left)) (w.text ∙ ap (λ x. x ++ tree_text t) p ∙ append_assoc a (32 ∷ []) (tree_text t)) ∙ more_part a (tree_text t) (map tree_text left) ∙ before.text;
  held = λ h. before.held (rw (w.held, h));
}

pub kid_put : (ts : List Tree) (i n from : ℕ) (t : Tree) (base a b c : List ℕ) → i < n → n ≤ length ts → t ≡ get_or ts i true_tree → b ≡ a ++ 32 ∷ [] → Writes b c t → Putting base a (span from n ts) (span i n ts) → Putting base c (span from n ts) (span (i + 1) n ts)
kid_put ts i n from t base a b c lt le is p w before =
    one_put base a b c (span from n ts) (span (i + 1) n ts) t (subst (Putting base a (span from n ts)) (span_more ts i n lt le ∙ ap (λ t. t ∷ span (i + 1) n ts) (sym is)) before) p w

take_short : (ts : List Tree) (i n : ℕ) → n ≤ i → span i n ts ≡ []
take_short [] zero zero le = refl
take_short [] zero (suc n) le = refl
take_short [] (suc i) zero le = refl
take_short [] (suc i) (suc n) le = refl
take_short (t ∷ ts) zero zero le = refl
take_short (t ∷ ts) zero (suc n) le = absurd (omega arith)
take_short (t ∷ ts) (suc i) zero le = refl
take_short (t ∷ ts) (suc i) (suc n) le = take_short ts i n (omega arith)

ended : (base now : List ℕ) (all : List Tree) → Putting base now all [] → WritesAll base now all
ended base now all p = record { text = sym (append-nil now) ∙ p.text; held = p.held refl }

pub kids_end : (ts : List Tree) (i n from : ℕ) (base now : List ℕ) → n ≤ i → Putting base now (span from n ts) (span i n ts) → WritesAll base now (span from n ts)
kids_end ts i n from base now le p = ended base now (span from n ts) (subst (Putting base now (span from n ts)) (take_short ts i n le) p)

-- ---- formulas, one after the other

pub formula_put : (fs : List Formula) (i : ℕ) (f : Formula) (base a b c : List ℕ) → i < length fs → f ≡ get_or fs i f → b ≡ a ++ 32 ∷ [] → Writes b c (formula_tree f)
    → Putting base a (map formula_tree fs) (map formula_tree (drop i fs)) → Putting base c (map formula_tree fs) (map formula_tree (drop (i + 1) fs))
formula_put fs i f base a b c lt is p w before =
    one_put base a b c (map formula_tree fs) (map formula_tree (drop (i + 1) fs)) (formula_tree f)
    (subst (Putting base a (map formula_tree fs)) (ap (map formula_tree) (drop_more fs i f lt) ∙ ap (λ f. formula_tree f ∷ map formula_tree (drop (i + 1) fs)) (sym is)) before) p w

pub formulas_end : (fs : List Formula) (i : ℕ) (base now : List ℕ) → length fs ≤ i → Putting base now (map formula_tree fs) (map formula_tree (drop i fs)) → WritesAll base now (map formula_tree fs)
formulas_end fs i base now le p = ended base now (map formula_tree fs) (subst (λ gs. Putting base now (map formula_tree fs) (map formula_tree gs)) (drop_all i fs le) p)

-- ---- frames

drop_map : {X Y : Type 0} (f : X → Y) (n : ℕ) (xs : List X) → drop n (map f xs) ≡ map f (drop n xs)
drop_map f zero xs = refl
drop_map f (suc n) [] = refl
drop_map f (suc n) (x ∷ xs) = drop_map f n xs

take_none : {X : Type 0} (n : ℕ) → take {A = X} n [] ≡ []
take_none zero = refl
take_none (suc n) = refl

drop_none : {X : Type 0} (n : ℕ) → drop {A = X} n [] ≡ []
drop_none zero = refl
drop_none (suc n) = refl

span_is : (ts : List Tree) (i w n : ℕ) → n ≡ i + w → span i n ts ≡ take w (drop i ts)
span_is ts zero w n e = let same : n ≡ w = omega arith in ap (λ m. take m ts) same
span_is [] (suc i) w n e = ap (drop (suc i)) (take_none n) ∙ sym (take_none w)
span_is (t ∷ ts) (suc i) w zero e = absurd (omega arith)
span_is (t ∷ ts) (suc i) w (suc n) e = span_is ts i w n (omega arith)

drop_is : (ts : List Tree) (i w n : ℕ) → n ≡ i + w → drop n ts ≡ drop w (drop i ts)
drop_is ts zero w n e = let same : n ≡ w = omega arith in ap (λ m. drop m ts) same
drop_is [] (suc i) w n e = drop_none n ∙ sym (drop_none w)
drop_is (t ∷ ts) (suc i) w zero e = absurd (omega arith)
drop_is (t ∷ ts) (suc i) w (suc n) e = drop_is ts i w n (omega arith)

both_held : (a b : Bool) → a ≡ true → b ≡ true → (a && b) ≡ true
both_held a b p q = rw (p, q)

all_of_both : (n : ℕ) (ts : List Tree) → list_all is_held (take n ts) ≡ true → list_all is_held (drop n ts) ≡ true → list_all is_held ts ≡ true
all_of_both n ts p q =
    ap (list_all is_held) (sym (take-append-drop n ts)) ∙ list_all-append is_held (take n ts) (drop n ts)
    ∙ both_held (list_all is_held (take n ts)) (list_all is_held (drop n ts)) p q

-- what is put of a frame, and the regions that are left with the trees from a place on, are the whole
pub record Framing (base now : List ℕ) (all left : List Shape) (ts : List Tree) (i : ℕ) : Type 0 where
  pub within : i ≤ length ts
  pub text : now ++ spaced (regions_texts left (map tree_text (drop i ts))) ≡ base ++ spaced (frame_parts all (map tree_text ts))
  pub held : list_all is_held (drop i ts) ≡ true → list_all is_held ts ≡ true

join_put : (text : List ℕ) (ps qs : List (List ℕ)) → (text ++ spaced ps) ++ spaced qs ≡ text ++ spaced (ps ++ qs)
join_put text ps qs = append_assoc text (spaced ps) (spaced qs) ∙ ap (λ l. text ++ l) (sym (spaced-append ps qs))

pub frame_begun : (shapes : List Shape) (ts : List Tree) (n i : ℕ) (base now : List ℕ) → n ≡ length ts → i ≡ min n 2 → WritesAll base now (span 0 i ts) → Framing base now shapes shapes ts i
frame_begun shapes ts n i base now m e w =
    let same : i ≡ min 2 (length ts) = omega (arith, m, e) in
    let taken : take i ts ≡ take 2 ts = ap (λ i. take i ts) same ∙ take_min 2 ts in
    let left : drop i ts ≡ drop 2 ts = ap (λ i. drop i ts) same ∙ drop_min 2 ts in
    record {
      within = omega (arith, same);
      text = (λ j. w.text j ++ spaced (regions_texts shapes (map tree_text (left j))))
          ∙ join_put base (map tree_text (take i ts)) (regions_texts shapes (map tree_text (drop 2 ts)))
          ∙ ap (λ us. base ++ spaced (map tree_text us ++ regions_texts shapes (map tree_text (drop 2 ts)))) taken
          ∙ (λ j. base ++ spaced (sym (take-map tree_text 2 ts) j ++ regions_texts shapes (sym (drop_map tree_text 2 ts) j)));
      held = λ h. all_of_both i ts w.held h;
    }

pub frame_turn : (shapes : List Shape) (i : ℕ) (d : Shape) (ts : List Tree) (at n w next : ℕ) (base a b : List ℕ) → i < length shapes → n ≡ length ts → w ≡ min (shape_width (get_or shapes i d)) (n - at) → next ≡ at + w
    → WritesRegion a b (get_or shapes i d) (span at next ts) → Framing base a shapes (drop i shapes) ts at → Framing base b shapes (drop (i + 1) shapes) ts next
frame_turn shapes i d ts at n w next base a b lt m width e region before =
    let s = get_or shapes i d in
    let rest = drop at ts in
    let k = shape_width s in
    let short : w ≡ min k (length rest) = omega (arith, m, width, length-drop at ts) in
    let taken : span at next ts ≡ take k rest = span_is ts at w next e ∙ ap (λ w. take w rest) short ∙ take_min k rest in
    let left : drop next ts ≡ drop k rest = drop_is ts at w next e ∙ ap (λ w. drop w rest) short ∙ drop_min k rest in
    let one = bracket (shape_word s) (map tree_text (take k rest)) in
    let others = regions_texts (drop (i + 1) shapes) (map tree_text (drop k rest)) in
    let first : regions_texts (drop i shapes) (map tree_text rest) ≡ one ∷ others =
    ap (λ shapes. regions_texts shapes (map tree_text rest)) (drop_more shapes i d lt)
    ∙ (λ j. bracket (shape_word s) (take-map tree_text k rest j) ∷ regions_texts (drop (i + 1) shapes) (drop_map tree_text k rest j))
    in
    record {
      within = omega (arith, m, width, e, before.within);
      text = (λ j. region.text j ++ spaced (regions_texts (drop (i + 1) shapes) (map tree_text (left j))))
          ∙ ap (λ us. (a ++ 32 ∷ bracket (shape_word s) (map tree_text us)) ++ spaced others) taken
          ∙ more_part a one others
          ∙ ap (λ ps. a ++ spaced ps) (sym first)
          ∙ before.text;
      held = λ h. before.held (all_of_both k rest (subst (λ us. list_all is_held us ≡ true) taken region.held) (subst (λ us. list_all is_held us ≡ true) left h));
    }

pub frame_end : (shapes : List Shape) (i : ℕ) (ts : List Tree) (at n : ℕ) (base a b : List ℕ) → length shapes ≤ i → n ≡ length ts → WritesAll a b (span at n ts) → Framing base a shapes (drop i shapes) ts at → WritesFrame base b shapes ts
frame_end shapes i ts at n base a b le m w before =
    let all : span at n ts ≡ drop at ts = ap (drop at) (take_all n ts (omega (arith, m))) in
    record {
      text = w.text ∙ ap (λ us. a ++ spaced (map tree_text us)) all ∙ ap (λ ss. a ++ spaced (regions_texts ss (map tree_text (drop at ts)))) (sym (drop_all i shapes le)) ∙ before.text;
      held = before.held (subst (λ us. list_all is_held us ≡ true) all w.held);
    }

-- ---- goals

texts_of : (ts : List Tree) → tree_texts (trees_of ts) ≡ map tree_text ts
texts_of [] = refl
texts_of (t ∷ ts) = ap (λ xs. tree_text t ∷ xs) (texts_of ts)

pub goal_put : (known : List Tree) (check : Tree) (s a b c d e f g h : List ℕ) → s ≡ [] → a ≡ s ++ 40 ∷ codes "imp" → b ≡ a ++ 32 ∷ [] → c ≡ b ++ 40 ∷ codes "and" → WritesAll c d known → e ≡ d ++ 41 ∷ [] → f ≡ e ++ 32 ∷ [] → Writes f g check
    → h ≡ g ++ 41 ∷ [] → h ≡ goal_text known check
goal_put known check s a b c d e f g h empty p q r all t u one v =
    let ps = map tree_text known in
    let fore : e ≡ codes "(imp" ++ 32 ∷ bracket (codes "and") ps = t ∙ ap (λ x. x ++ 41 ∷ []) (all.text ∙ ap (λ x. x ++ spaced ps) (r ∙ ap (λ x. x ++ 40 ∷ codes "and") (q ∙ ap (λ x. x ++ 32 ∷ []) (p ∙ ap (λ s. s ++ 40 ∷ codes "imp") empty)))) ∙ region_put (codes "(imp") (codes "and") ps in
    let both : g ≡ (codes "(imp" ++ 32 ∷ bracket (codes "and") ps) ++ 32 ∷ tree_text check = one.text ∙ ap (λ x. x ++ tree_text check) (u ∙ ap (λ x. x ++ 32 ∷ []) fore) ∙ append_assoc (codes "(imp" ++ 32 ∷ bracket (codes "and") ps) (32 ∷ []) (tree_text check) in
    v ∙ ap (λ x. x ++ 41 ∷ []) both ∙ two_put [] (codes "imp") (bracket (codes "and") ps) (tree_text check)
    ∙ ap (λ ps. bracket (codes "imp") (bracket (codes "and") ps ∷ tree_text check ∷ [])) (sym (texts_of known))

pub goal_holds : (known : List Tree) (check : Tree) (c d f g : List ℕ) → WritesAll c d known → Writes f g check → goal_held known check ≡ true
goal_holds known check c d f g all one = rw (all.held, one.held)
