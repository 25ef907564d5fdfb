-- What the row at a block of a known layout gives, by what is seen.
use Rattle.std.proofs.Common.{◌≡◌, Bool, true, false, List, [], ◌∷◌, refl, sym, ◌∙◌, ap, subst}
use Rattle.std.specs.Prelude.{Option, Some, None, if◌then◌else◌}
use Rattle.wp_base.specs.declared.kinds.Layout.{Layout}
use Rattle.qed_terms.specs.declared.head.Head.{Head}
use Rattle.qed_terms.specs.declared.head.Head.TheVariants as h
use Rattle.qed_terms.specs.declared.head.FormOp.TheVariants as form
use Rattle.qed_terms.specs.Order.{same}
use Rattle.qed_terms.specs.Tree.{Tree, node, Trees, stop, more, head_of, kids_in, two}
use Rattle.term_sketches.specs.declared.sketch.Sketch.{Sketch}
use Rattle.instance_rows.specs.Rows.{at_asked}
use Rattle.instance_rows.specs.PairRows.{answer_by_layout, answer_where_same, answer_of_layout}
use Rattle.drawn_instances.specs.Drawn.{AreDrawn}
use Rattle.drawn_instances.specs.Heads.{is_two}
use Rattle.block_instances.specs.declared.questions.Asked.{Asked}
use Rattle.block_instances.specs.declared.questions.Asked.TheVariants as ask
use Rattle.block_instances.specs.declared.questions.Query.{Query}
use Rattle.block_instances.specs.Asking.{asked_head, asked_rest, IsAsked}
use Rattle.pair_instances.specs.Facts.{row_of_pair, had_layout}

-- ---- the first node

abbrev Has : Head → Option Layout → Type 0
Has g None = Unit {0}
Has g (Some l) = g ≡ h.Form (form.Has l)

has : (g : Head) → Has g (had_layout g)
unfolding had_layout
has (h.Form (form.Has l)) = refl
has g = tt

has_there : (g : Head) (l : Layout) → had_layout g ≡ Some l → g ≡ h.Form (form.Has l)
has_there g l e = let P : Option Layout → Type 0 = λ o. Has g o in subst P e (has g)

no_has : (g head : Head) (us ts : Trees) → had_layout g ≡ None → answer_of_layout g us head ts ≡ []
unfolding had_layout
no_has (h.Form (form.Has l)) head us ts e = absurd cc
no_has g head us ts e = refl

not_two : (g head : Head) (us ts : Trees) → is_two us ≡ false → answer_of_layout g us head ts ≡ []
not_two (h.Form (form.Has l)) head stop ts e = refl
not_two (h.Form (form.Has l)) head (more t stop) ts e = refl
not_two (h.Form (form.Has l)) head (more t (more u stop)) ts e = absurd cc
not_two (h.Form (form.Has l)) head (more t (more u (more v us))) ts e = refl
not_two g head us ts e = refl

by_question : (row : Head → Tree → Tree → Trees → List Tree) (w : Asked) (a b c : Tree) → at_asked row (asked_head w) (more a (more b (asked_rest w c))) ≡ row (asked_head w) a b (asked_rest w c)
by_question row (ask.Read k) a b c = refl
by_question row (ask.Write k) a b c = refl
by_question row ask.Live a b c = refl
by_question row ask.Length a b c = refl

-- ---- the row

pub layout_unseen : (t u : Tree) (g : Head) → g ≡ head_of t → had_layout g ≡ None → row_of_pair answer_of_layout t u ≡ []
unfolding row_of_pair
layout_unseen (node k us) (node head ts) g p e = no_has k head us ts (ap had_layout (sym p) ∙ e)

pub layout_unfit : (t u : Tree) → is_two (kids_in t) ≡ false → row_of_pair answer_of_layout t u ≡ []
unfolding row_of_pair
layout_unfit (node g us) (node head ts) e = not_two g head us ts e

at_second : (t u a n : Tree) (g : Head) (l : Layout) → g ≡ head_of t → had_layout g ≡ Some l → kids_in t ≡ two a n → row_of_pair answer_of_layout t u ≡ at_asked (answer_where_same l a n) (head_of u) (kids_in u)
unfolding row_of_pair
at_second t u a n g l p e k = λ i. answer_of_layout ((sym p ∙ has_there g l e) i) (k i) (head_of u) (kids_in u)

pub layout_unasked : (t u a n : Tree) (g : Head) (l : Layout) → g ≡ head_of t → had_layout g ≡ Some l → kids_in t ≡ two a n
    → ((row : Head → Tree → Tree → Trees → List Tree) → at_asked row (head_of u) (kids_in u) ≡ []) → row_of_pair answer_of_layout t u ≡ []
layout_unasked t u a n g l p e k none = at_second t u a n g l p e k ∙ none (answer_where_same l a n)

at_query : {Id : Type 0} (held : Id → Type 0) (tree : Id → Tree) (t u a n : Tree) (q : Query Id) (g : Head) (l : Layout) → g ≡ head_of t → had_layout g ≡ Some l → kids_in t ≡ two a n → IsAsked held tree u q
    → row_of_pair answer_of_layout t u ≡ (if same a (tree q.table) then answer_by_layout l a n (asked_head q.what) (tree q.block) (asked_rest q.what (tree q.offset)) ∷ [] else [])
at_query held tree t u a n q g l p e k asked =
    at_second t u a n g l p e k ∙ ap (λ v. at_asked (answer_where_same l a n) (head_of v) (kids_in v)) asked.asks
    ∙ by_question (answer_where_same l a n) q.what (tree q.table) (tree q.block) (tree q.offset)

pub layout_other : {Id : Type 0} (held : Id → Type 0) (tree : Id → Tree) (t u a n : Tree) (q : Query Id) (g : Head) (l : Layout) (r : Bool) → g ≡ head_of t → had_layout g ≡ Some l → kids_in t ≡ two a n → IsAsked held tree u q
    → r ≡ same a (tree q.table) → r ≡ false → row_of_pair answer_of_layout t u ≡ []
layout_other held tree t u a n q g l r p e k asked s f =
    at_query held tree t u a n q g l p e k asked
    ∙ ap (λ v. if v then answer_by_layout l a n (asked_head q.what) (tree q.block) (asked_rest q.what (tree q.offset)) ∷ [] else []) (sym s ∙ f)

pub layout_seen : {Id : Type 0} (held : Id → Type 0) (tree : Id → Tree) (ids : List Id) (sketches : List Sketch) (t u a n : Tree) (q : Query Id) (g : Head) (l : Layout) (r : Bool)
    → g ≡ head_of t → had_layout g ≡ Some l → kids_in t ≡ two a n → IsAsked held tree u q → r ≡ same a (tree q.table) → r ≡ true
    → AreDrawn held tree ids sketches (answer_by_layout l a n (asked_head q.what) (tree q.block) (asked_rest q.what (tree q.offset)) ∷ [])
    → AreDrawn held tree ids sketches (row_of_pair answer_of_layout t u)
layout_seen held tree ids sketches t u a n q g l r p e k asked s f d =
    let whole : row_of_pair answer_of_layout t u ≡ answer_by_layout l a n (asked_head q.what) (tree q.block) (asked_rest q.what (tree q.offset)) ∷ [] =
    at_query held tree t u a n q g l p e k asked
    ∙ ap (λ v. if v then answer_by_layout l a n (asked_head q.what) (tree q.block) (asked_rest q.what (tree q.offset)) ∷ [] else []) (sym s ∙ f) in
    subst (AreDrawn held tree ids sketches) (sym whole) d

pub ruleset layout_laws = (layout_unseen, layout_unfit, layout_unasked, layout_other, layout_seen)
