-- What the row at a conversion gives, by what is seen.
use Rattle.std.proofs.Common.{◌≡◌, ℕ, Bool, true, false, List, [], refl, sym, ◌∙◌, ap, subst}
use Rattle.std.specs.Prelude.{if◌then◌else◌}
use Rattle.wp_base.specs.declared.kinds.Kind.{Kind}
use Rattle.qed_terms.specs.declared.head.Head.{Head}
use Rattle.qed_terms.specs.declared.head.Head.TheVariants as h
use Rattle.qed_terms.specs.declared.head.TermOp.TheVariants as op
use Rattle.qed_terms.specs.Tree.{Tree, node, Trees, stop, more, kids_in, one}
use Rattle.term_sketches.specs.declared.sketch.Sketch.{Sketch}
use Rattle.instance_rows.specs.Rows.{is_bool, wrap_cases, wrap_tree, cases_of_wrap}
use Rattle.drawn_instances.specs.declared.nodes.Seen.{Seen}
use Rattle.drawn_instances.specs.declared.nodes.Seen.TheVariants as seen
use Rattle.node_instances.specs.declared.ranges.Range.{Range}
use Rattle.drawn_instances.specs.Heads.{seen_head, seen_at, is_one}
use Rattle.drawn_instances.specs.Drawn.{AreDrawn, row_at}
use Rattle.drawn_instances.proofs.HeadLaws.{wrap_there}
use Rattle.node_instances.proofs.Nodes.{row_there}
use Rattle.node_instances.specs.Ranges.{kind_range}

no_wrap : (bits : ℕ) (head : Head) (ts : Trees) → ((k : Kind) → seen_head head ≡ seen.Wrap k → ⊥) → cases_of_wrap bits head ts ≡ []
no_wrap bits (h.Term (op.Wrap k)) ts n = absurd (n k refl)
no_wrap bits head ts n = refl

not_one : (bits : ℕ) (head : Head) (ts : Trees) → is_one ts ≡ false → cases_of_wrap bits head ts ≡ []
not_one bits (h.Term (op.Wrap k)) stop e = refl
not_one bits (h.Term (op.Wrap k)) (more t stop) e = absurd cc
not_one bits (h.Term (op.Wrap k)) (more t (more u ts)) e = refl
not_one bits head ts e = refl

abbrev cases : Kind → Range → Tree → List Tree
cases k r t = if is_bool k then [] else wrap_cases r.low r.high r.many (wrap_tree k t) t

pub wrap_unseen : (bits : ℕ) (t : Tree) (x : Seen) → x ≡ seen_at t → ((k : Kind) → x ≡ seen.Wrap k → ⊥) → row_at (cases_of_wrap bits) t ≡ []
unfolding row_at seen_at
wrap_unseen bits (node head ts) x e n = no_wrap bits head ts (λ k f. n k (e ∙ f))

pub wrap_unfit : (bits : ℕ) (t : Tree) → is_one (kids_in t) ≡ false → row_at (cases_of_wrap bits) t ≡ []
unfolding row_at
wrap_unfit bits (node head ts) e = not_one bits head ts e

at_wrap : (bits : ℕ) (t a : Tree) (x : Seen) (k : Kind) → x ≡ seen_at t → x ≡ seen.Wrap k → kids_in t ≡ one a → row_at (cases_of_wrap bits) t ≡ cases k (kind_range bits k) a
at_wrap bits t a x k p q l = row_there (cases_of_wrap bits) t (wrap_there t x k p q) l

pub wrap_bool : (bits : ℕ) (t a : Tree) (x : Seen) (k : Kind) (b : Bool) → x ≡ seen_at t → x ≡ seen.Wrap k → kids_in t ≡ one a → b ≡ is_bool k → b ≡ true → row_at (cases_of_wrap bits) t ≡ []
wrap_bool bits t a x k b p q l e f =
    let r = kind_range bits k in
    at_wrap bits t a x k p q l ∙ ap (λ c. if c then [] else wrap_cases r.low r.high r.many (wrap_tree k a) a) (sym e ∙ f)

pub wrap_seen : {Id : Type 0} (held : Id → Type 0) (tree : Id → Tree) (ids : List Id) (sketches : List Sketch) (bits : ℕ) (t a : Tree) (x : Seen) (k : Kind) (b : Bool) (r : Range)
    → x ≡ seen_at t → x ≡ seen.Wrap k → kids_in t ≡ one a → b ≡ is_bool k → b ≡ false → r ≡ kind_range bits k
    → AreDrawn held tree ids sketches (wrap_cases r.low r.high r.many (wrap_tree k a) a) → AreDrawn held tree ids sketches (row_at (cases_of_wrap bits) t)
wrap_seen held tree ids sketches bits t a x k b r p q l e f s d =
    let whole : row_at (cases_of_wrap bits) t ≡ wrap_cases r.low r.high r.many (wrap_tree k a) a =
    at_wrap bits t a x k p q l
    ∙ ap (λ c. if c then [] else wrap_cases (kind_range bits k).low (kind_range bits k).high (kind_range bits k).many (wrap_tree k a) a) (sym e ∙ f)
    ∙ ap (λ v. wrap_cases v.low v.high v.many (wrap_tree k a) a) (sym s) in
    subst (AreDrawn held tree ids sketches) (sym whole) d

pub ruleset wrap_laws = (wrap_unseen, wrap_unfit, wrap_bool, wrap_seen)
