-- What the row at a table with one more block gives, by what is asked.
use Rattle.std.proofs.Common.{◌≡◌, Bool, true, false, List, [], ◌∷◌, refl, sym, ◌∙◌, ap, subst}
use Rattle.std.specs.Prelude.{Option, Some, None}
use Rattle.wp_base.specs.declared.kinds.Layout.{Layout}
use Rattle.qed_terms.specs.declared.head.Head.{Head}
use Rattle.qed_terms.specs.declared.head.Head.TheVariants as h
use Rattle.qed_terms.specs.declared.head.TermOp.TheVariants as op
use Rattle.qed_terms.specs.Tree.{Tree, node, Trees, stop, more, head_of, kids_in, one}
use Rattle.term_sketches.specs.declared.sketch.Sketch.{Sketch}
use Rattle.instance_rows.specs.Rows.{at_asked, answer_of_made, answer_by_block, answer_of_alloc}
use Rattle.drawn_instances.specs.Heads.{is_one}
use Rattle.drawn_instances.specs.Drawn.{AreDrawn, row_at}
use Rattle.block_instances.specs.declared.questions.Asked.{Asked}
use Rattle.block_instances.specs.declared.questions.Asked.TheVariants as ask
use Rattle.block_instances.specs.declared.questions.Query.{Query}
use Rattle.block_instances.specs.Asking.{asked_head, asked_rest, question, IsAsked, made_layout}

-- ---- a table with one more block

abbrev Makes : Head → Option Layout → Type 0
Makes g None = Unit {0}
Makes g (Some l) = g ≡ h.Term (op.Alloc l)

makes : (g : Head) → Makes g (made_layout g)
unfolding made_layout
makes (h.Term (op.Alloc l)) = refl
makes g = tt

alloc_there : (g : Head) (l : Layout) → made_layout g ≡ Some l → g ≡ h.Term (op.Alloc l)
alloc_there g l e = let P : Option Layout → Type 0 = λ o. Makes g o in subst P e (makes g)

none_made : (head g : Head) (us : Trees) (b : Tree) (ts : Trees) → made_layout g ≡ None → answer_of_made head (node g us) b ts ≡ []
unfolding made_layout
none_made head (h.Term (op.Alloc l)) us b ts e = absurd cc
none_made head g us b ts e = refl

not_one_below : (head g : Head) (us : Trees) (b : Tree) (ts : Trees) → is_one us ≡ false → answer_of_made head (node g us) b ts ≡ []
not_one_below head (h.Term (op.Alloc l)) stop b ts e = refl
not_one_below head (h.Term (op.Alloc l)) (more u stop) b ts e = absurd cc
not_one_below head (h.Term (op.Alloc l)) (more u (more v us)) b ts e = refl
not_one_below head g us b ts e = refl

-- ---- the row

by_question : (row : Head → Tree → Tree → Trees → List Tree) (w : Asked) (a b c : Tree) → at_asked row (asked_head w) (more a (more b (asked_rest w c))) ≡ row (asked_head w) a b (asked_rest w c)
by_question row (ask.Read k) a b c = refl
by_question row (ask.Write k) a b c = refl
by_question row ask.Live a b c = refl
by_question row ask.Length a b c = refl

at_question : (t : Tree) (w : Asked) (a b c : Tree) → t ≡ question w a b c → row_at answer_of_alloc t ≡ answer_of_made (asked_head w) a b (asked_rest w c)
unfolding row_at
at_question t w a b c e = ap (row_at answer_of_alloc) e ∙ by_question answer_of_made w a b c

pub alloc_unasked : (t : Tree) → ((row : Head → Tree → Tree → Trees → List Tree) → at_asked row (head_of t) (kids_in t) ≡ []) → row_at answer_of_alloc t ≡ []
unfolding row_at
alloc_unasked t n = n answer_of_made

pub alloc_unmade : {Id : Type 0} (held : Id → Type 0) (tree : Id → Tree) (t : Tree) (q : Query Id) (g : Head) → IsAsked held tree t q → g ≡ head_of (tree q.table) → made_layout g ≡ None
    → row_at answer_of_alloc t ≡ []
alloc_unmade held tree t q g a p n = at_question t q.what (tree q.table) (tree q.block) (tree q.offset) a.asks ∙ by_table (tree q.table) p
  where
    by_table : (u : Tree) → g ≡ head_of u → answer_of_made (asked_head q.what) u (tree q.block) (asked_rest q.what (tree q.offset)) ≡ []
    by_table (node k us) p = none_made (asked_head q.what) k us (tree q.block) (asked_rest q.what (tree q.offset)) (ap made_layout (sym p) ∙ n)

pub alloc_unfit : {Id : Type 0} (held : Id → Type 0) (tree : Id → Tree) (t : Tree) (q : Query Id) → IsAsked held tree t q → is_one (kids_in (tree q.table)) ≡ false → row_at answer_of_alloc t ≡ []
alloc_unfit held tree t q a n = at_question t q.what (tree q.table) (tree q.block) (tree q.offset) a.asks ∙ by_table (tree q.table) n
  where
    by_table : (u : Tree) → is_one (kids_in u) ≡ false → answer_of_made (asked_head q.what) u (tree q.block) (asked_rest q.what (tree q.offset)) ≡ []
    by_table (node k us) n = not_one_below (asked_head q.what) k us (tree q.block) (asked_rest q.what (tree q.offset)) n

pub alloc_seen : {Id : Type 0} (held : Id → Type 0) (tree : Id → Tree) (ids : List Id) (sketches : List Sketch) (t u : Tree) (q : Query Id) (g : Head) (l : Layout)
    → IsAsked held tree t q → g ≡ head_of (tree q.table) → made_layout g ≡ Some l → kids_in (tree q.table) ≡ one u
    → AreDrawn held tree ids sketches (answer_by_block l u (asked_head q.what) (tree q.block) (asked_rest q.what (tree q.offset)) ∷ [])
    → AreDrawn held tree ids sketches (row_at answer_of_alloc t)
alloc_seen held tree ids sketches t u q g l a p m n d =
    let b = tree q.block in
    let rest = asked_rest q.what (tree q.offset) in
    let whole : row_at answer_of_alloc t ≡ answer_by_block l u (asked_head q.what) b rest ∷ [] =
    at_question t q.what (tree q.table) b (tree q.offset) a.asks ∙ by_table (tree q.table) p n in
    subst (AreDrawn held tree ids sketches) (sym whole) d
  where
    by_table : (v : Tree) → g ≡ head_of v → kids_in v ≡ one u
        → answer_of_made (asked_head q.what) v (tree q.block) (asked_rest q.what (tree q.offset)) ≡ answer_by_block l u (asked_head q.what) (tree q.block) (asked_rest q.what (tree q.offset)) ∷ []
    by_table (node k us) p n =
        let made : k ≡ h.Term (op.Alloc l) = alloc_there k l (ap made_layout (sym p) ∙ m) in
        λ i. answer_of_made (asked_head q.what) (node (made i) (n i)) (tree q.block) (asked_rest q.what (tree q.offset))

pub ruleset alloc_laws = (alloc_unasked, alloc_unmade, alloc_unfit, alloc_seen)
