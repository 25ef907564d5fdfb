-- Ranges that are all numbers of a kind have no ends, so the body isn't looked at for them.
use Rattle.std.proofs.Common.{◌≡◌, ℕ, Bool, true, false, ◌&&◌, if◌then◌else◌, List, [], ◌∷◌, Option, Some, None, refl, sym, ap, ◌∙◌}
use Rattle.std.specs.List.{list_any, list_all}
use Rattle.std.proofs.lemmas.Bool.{and_parts, false≢true}
use Rattle.acsl_trees.specs.declared.heads.BinderPlace.{BinderPlace}
use Rattle.acsl_trees.specs.declared.tree.Tree.{Tree as Code, out-Tree}
use Rattle.acsl_trees.specs.Tree.{Tree, node, view_tree}
use Rattle.acsl_preds.specs.declared.binders.Over.{Over}
use Rattle.acsl_preds.specs.declared.binders.Over.TheVariants as over
use Rattle.acsl_preds.specs.Ranges.{is_and, is_kind, is_taken_by, conjuncts, conjuncts_in, over_one, over_all, kept, or_truth, some, head_of}
use Rattle.acsl_preds.proofs.Ends.{head_is}

none_taken : (os : List Over) → list_all is_kind os ≡ true → list_any (is_taken_by 0) os ≡ false
none_taken [] are = refl
none_taken (over.Kind k ∷ os) are = none_taken os are
none_taken (over.Guarded g ∷ os) are = absurd (false≢true are)

no_ends : (place : BinderPlace) (a : Bool) (cs : List Tree) (os : List Over) (t : Tree) → list_all is_kind os ≡ true → over_all place a cs os t ≡ over_all place a [] os t
no_ends place a cs [] t are = refl
no_ends place a cs (over.Kind k ∷ os) t are = ap (over_one place a [] (over.Kind k)) (no_ends place a cs os t are)
no_ends place a cs (over.Guarded g ∷ os) t are = absurd (false≢true are)

alone : (t : Tree) → is_and (head_of t) ≡ false → conjuncts t ≡ t ∷ []
alone (node head ks) is = ap (λ b. if b then conjuncts_in ks else node head ks ∷ []) is

whole_is : (place : BinderPlace) (os : List Over) (t : Tree) → list_all is_kind os ≡ true → is_and (head_of t) ≡ false → some place os t ≡ over_all place false [] os t
whole_is place os t are is =
    ap (λ cs. over_all place false cs os (or_truth (kept os 0 None cs))) (alone t is)
    ∙ ap (λ b. over_all place false (t ∷ []) os (or_truth (if b then None else Some t))) (none_taken os are) ∙ no_ends place false (t ∷ []) os t are

pub some_of_kinds : (place : BinderPlace) (os : List Over) (c : Code) (r : Tree) → is_and (out-Tree c).head ≡ false → list_all is_kind os ≡ true → r ≡ over_all place false [] os (view_tree c) → r ≡ some place os (view_tree c)
some_of_kinds place os c r is are made = made ∙ sym (whole_is place os (view_tree c) are (ap is_and (head_is c) ∙ is))
