-- Relations are well formed, and what a witness makes stays through later stores.
use Rattle.std.proofs.Common.{◌≡◌, ℕ, ◌<◌, Bool, true, false, ◌&&◌, List, [], ◌∷◌, map, All, refl, sym, ◌∙◌, ap, subst}
use Rattle.std.proofs.lemmas.List.Elements.{All-cons}
use Rattle.qed_terms.specs.declared.head.Head.TheVariants as h
use Rattle.qed_terms.specs.declared.head.FormOp.TheVariants as form
use Rattle.qed_terms.specs.Store.{KeepsOlder, is_well_formed, over}
use Rattle.qed_terms.specs.Tree.{Tree, at_most, less}
use Rattle.qed_terms.specs.WellFormed.{fits, int}
use Rattle.branch_changes.specs.declared.rules.IdGiven.{IdGiven}
use Rattle.branch_changes.specs.Changes.{EachTo}
use Rattle.branch_changes.specs.Givens.{Given, put, may_put, may_stand_for, given}
use Rattle.branch_changes.specs.Ids.{given_of}
use Rattle.changed_branches.proofs.Made.{held_alone}

both : (p q : Bool) → p ≡ true → q ≡ true → (p && (q && true)) ≡ true
both true true e f = refl
both true false e f = f
both false q e f = absurd cc

pub at_most_fits : (a b : Tree) → fits int a ≡ true → fits int b ≡ true → is_well_formed (over (h.Form form.AtMost) (a ∷ b ∷ [])) ≡ true
at_most_fits a b e f = both (fits int a) (fits int b) e f

pub less_fits : (a b : Tree) → fits int a ≡ true → fits int b ≡ true → is_well_formed (over (h.Form form.Less) (a ∷ b ∷ [])) ≡ true
less_fits a b e f = both (fits int a) (fits int b) e f

-- the same variable and term
pub same_given : {Id : Type 0} (tree tree' : Id → Tree) (g : IdGiven Id) → tree' g.term ≡ tree g.term → given_of tree' g ≡ given_of tree g
same_given tree tree' g e = ap (given g.name g.sort) e

pub three_held : {Id : Type 0} (held : Id → Type 0) (a b c : Id) (ids : List Id) → ids ≡ a ∷ b ∷ c ∷ [] → held a → held b → held c → All held ids
three_held held a b c ids e x y z = subst (All held) (sym e) (All-cons held a (b ∷ c ∷ []) x (All-cons held b (c ∷ []) y (held_alone held c z)))

pub each_three : {Id : Type 0} (normal : Tree → Tree → Type 0) (tree : Id → Tree) (f g k : Tree) (a b c : Id) (ids : List Id) → ids ≡ a ∷ b ∷ c ∷ [] → normal f (tree a) → normal g (tree b) → normal k (tree c) → EachTo normal (f ∷ g ∷ k ∷ []) (map tree ids)
each_three normal tree f g k a b c ids e x y z = subst (λ ts. EachTo normal (f ∷ g ∷ k ∷ []) (map tree ts)) (sym e) (x, (y, (z, tt)))
