-- A well formed term may stand for a variable by its head alone.
use Rattle.std.proofs.Common.{◌≡◌, Bool, true, false, ◌&&◌, refl, ◌∙◌, ap}
use Rattle.qed_terms.specs.declared.head.Sort.{Sort}
use Rattle.qed_terms.specs.declared.head.Sort.TheVariants as sort
use Rattle.qed_terms.specs.declared.head.Head.{Head}
use Rattle.qed_terms.specs.declared.head.Head.TheVariants as h
use Rattle.qed_terms.specs.Names.{is_name}
use Rattle.qed_terms.specs.Tree.{Tree, node, head_of}
use Rattle.qed_terms.specs.Store.{is_well_formed, place_of_head}
use Rattle.qed_terms.specs.WellFormed.{term, argument, all_fit, may_stand, kid_places, kid_count, same_sort, takes_name}
use Rattle.branch_changes.specs.Givens.{may_stand_for}
use Rattle.branch_changes.proofs.Truths.{and_left, and_right}
use Rattle.equality_variables.specs.Heads.{stands_for}

same_of : (b : Bool) → (b && true) ≡ b
same_of true = refl
same_of false = refl

off : (b : Bool) → (b && false) ≡ false
off true = refl
off false = refl

with_kids : (a b k : Bool) → k ≡ true → ((a && k) && (b && k)) ≡ (a && b)
with_kids a b k e = (λ i. (a && e i) && (b && e i)) ∙ (λ i. same_of a i && same_of b i)

by_head : (s : Sort) (head : Head) → may_stand (place_of_head head) head ≡ true → (may_stand (term s) head && may_stand argument head) ≡ stands_for s head
by_head s (h.Num z) e = same_of (same_sort s sort.Int)
by_head s (h.Var x r) e = let n = and_left (is_name x) _ e in (λ i. (n i && same_sort s r) && (n i && takes_name argument r x))
by_head s (h.Term o) e = refl
by_head s h.Ite e = same_of (same_sort s sort.Int)
by_head s (h.App f) e = let n = and_left (is_name f) _ e in (λ i. (n i && same_sort s sort.Int) && (n i && true)) ∙ same_of (same_sort s sort.Int)
by_head s (h.Form o) e = refl
by_head s h.True e = refl
by_head s h.False e = refl
by_head s h.Not e = refl
by_head s h.And e = refl
by_head s h.Or e = refl
by_head s h.Imp e = refl
by_head s h.Iff e = refl
by_head s (h.Forall x) e = ap (λ b. b && (is_name x && false)) (off (is_name x))
by_head s (h.Exists x) e = ap (λ b. b && (is_name x && false)) (off (is_name x))

pub stands_by_head : (s : Sort) (t : Tree) → is_well_formed t ≡ true → may_stand_for s t ≡ stands_for s (head_of t)
stands_by_head s (node head ts) e =
    let kids = all_fit (kid_places head (kid_count ts)) ts in
    with_kids (may_stand (term s) head) (may_stand argument head) kids (and_right (may_stand (place_of_head head) head) kids e) ∙ by_head s head (and_left (may_stand (place_of_head head) head) kids e)
