-- What the row at a load over a store gives, by what is seen.
use Rattle.std.proofs.Common.{◌≡◌, false, List, [], ◌∷◌, refl, sym, ◌∙◌, ap, subst}
use Rattle.qed_terms.specs.declared.head.Head.{Head}
use Rattle.qed_terms.specs.declared.head.Head.TheVariants as h
use Rattle.qed_terms.specs.declared.head.TermOp.TheVariants as op
use Rattle.qed_terms.specs.Tree.{Tree, node, Trees, stop, more, kids_in, three}
use Rattle.term_sketches.specs.declared.sketch.Sketch.{Sketch}
use Rattle.instance_rows.specs.Rows.{load_by_address, load_below, load_of_store}
use Rattle.drawn_instances.specs.declared.nodes.Seen.{Seen}
use Rattle.drawn_instances.specs.declared.nodes.Seen.TheVariants as seen
use Rattle.drawn_instances.specs.Heads.{seen_head, seen_at, is_three, is_four}
use Rattle.drawn_instances.specs.Drawn.{AreDrawn, row_at}
use Rattle.drawn_instances.proofs.HeadLaws.{load_there, store_there}
use Rattle.node_instances.proofs.Nodes.{row_there, whole}

no_load : (head : Head) (ts : Trees) → (seen_head head ≡ seen.Load → ⊥) → load_of_store head ts ≡ []
no_load (h.Term op.Load) ts n = absurd (n refl)
no_load head ts n = refl

not_three_parts : (head : Head) (ts : Trees) → is_three ts ≡ false → load_of_store head ts ≡ []
not_three_parts (h.Term op.Load) stop e = refl
not_three_parts (h.Term op.Load) (more t stop) e = refl
not_three_parts (h.Term op.Load) (more t (more u stop)) e = refl
not_three_parts (h.Term op.Load) (more t (more u (more v stop))) e = absurd cc
not_three_parts (h.Term op.Load) (more t (more u (more v (more w ts)))) e = refl
not_three_parts head ts e = refl

no_store : (head : Head) (ts : Trees) (b o : Tree) → (seen_head head ≡ seen.Store → ⊥) → load_below (node head ts) b o ≡ []
no_store (h.Term op.Store) ts b o n = absurd (n refl)
no_store head ts b o n = refl

not_four_parts : (head : Head) (ts : Trees) (b o : Tree) → is_four ts ≡ false → load_below (node head ts) b o ≡ []
not_four_parts (h.Term op.Store) stop b o e = refl
not_four_parts (h.Term op.Store) (more t stop) b o e = refl
not_four_parts (h.Term op.Store) (more t (more u stop)) b o e = refl
not_four_parts (h.Term op.Store) (more t (more u (more v stop))) b o e = refl
not_four_parts (h.Term op.Store) (more t (more u (more v (more w stop)))) b o e = absurd cc
not_four_parts (h.Term op.Store) (more t (more u (more v (more w (more z ts))))) b o e = refl
not_four_parts head ts b o e = refl

by_below : (head : Head) (m b o : Tree) → load_below m b o ≡ [] → load_of_store head (three m b o) ≡ []
by_below (h.Term op.Load) m b o e = e
by_below head m b o e = refl

pub load_unseen : (t : Tree) (x : Seen) → x ≡ seen_at t → (x ≡ seen.Load → ⊥) → row_at load_of_store t ≡ []
unfolding row_at seen_at
load_unseen (node head ts) x e n = no_load head ts (λ f. n (e ∙ f))

pub load_unfit : (t : Tree) → is_three (kids_in t) ≡ false → row_at load_of_store t ≡ []
unfolding row_at
load_unfit (node head ts) e = not_three_parts head ts e

pub store_unseen : (t m b o : Tree) (x : Seen) → kids_in t ≡ three m b o → x ≡ seen_at m → (x ≡ seen.Store → ⊥) → row_at load_of_store t ≡ []
unfolding row_at seen_at
store_unseen (node head ts) (node g us) b o x k e n = ap (load_of_store head) k ∙ by_below head (node g us) b o (no_store g us b o (λ f. n (e ∙ f)))

pub store_unfit : (t m b o : Tree) → kids_in t ≡ three m b o → is_four (kids_in m) ≡ false → row_at load_of_store t ≡ []
unfolding row_at
store_unfit (node head ts) (node g us) b o k e = ap (load_of_store head) k ∙ by_below head (node g us) b o (not_four_parts g us b o e)

pub load_stored : {Id : Type 0} (held : Id → Type 0) (tree : Id → Tree) (ids : List Id) (sketches : List Sketch) (t m b' o' n b o v : Tree) (x y : Seen)
    → x ≡ seen_at t → x ≡ seen.Load → kids_in t ≡ three m b' o' → y ≡ seen_at m → y ≡ seen.Store → kids_in m ≡ more n (three b o v)
    → AreDrawn held tree ids sketches (load_by_address n b o v b' o' ∷ []) → AreDrawn held tree ids sketches (row_at load_of_store t)
load_stored held tree ids sketches t m b' o' n b o v x y p q k p' q' l d =
    let e : row_at load_of_store t ≡ load_by_address n b o v b' o' ∷ [] =
    row_there load_of_store t (load_there t x p q) k ∙ ap (λ w. load_below w b' o') (whole m (store_there m y p' q') l) in
    subst (AreDrawn held tree ids sketches) (sym e) d

pub ruleset load_laws = (load_unseen, load_unfit, store_unseen, store_unfit, load_stored)
