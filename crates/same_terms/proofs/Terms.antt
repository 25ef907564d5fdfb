-- The terms of a branch: what stands in one, and the atoms of sums.
use Rattle.std.proofs.Common.{◌≡◌, Bool, true, false, List, [], ◌∷◌, ◌++◌, refl, subst, inl, inr}
use Rattle.std.specs.Prelude.{ℤ, pos, Option, Some, None, if◌then◌else◌}
use Rattle.qed_terms.specs.declared.head.Head.{Head}
use Rattle.qed_terms.specs.declared.head.Head.TheVariants as h
use Rattle.qed_terms.specs.Meaning.{at_two}
use Rattle.qed_terms.specs.Nodes.{kids_of}
use Rattle.qed_terms.specs.Tree.{Tree, head_of, num, equal}
use Rattle.qed_linear.specs.Linear.{Part, part}
use Rattle.same_terms.specs.Written.{is_sum, is_product, number_in, multiple, written_part, last_part, parts_in, written}
use Rattle.same_terms.specs.SameTerms.{Among, is_binder, StandsIn, as_whole, in_kid, unit_times, IsRest, InBranch, SameTerm, itself, turned, through, given, alike, paired}

-- ---- what stands in a term

pub stands_through : {t u v : Tree} → StandsIn t u → StandsIn u v → StandsIn t v
stands_through s as_whole = s
stands_through s (in_kid k n m r) = in_kid k n m (stands_through s r)

pub stands_in_branch : (ls : List Tree) (t u : Tree) → StandsIn t u → InBranch ls u → InBranch ls t
stands_in_branch ls t u s (inl x) = inl (x.0, x.1, stands_through s x.2)
stands_in_branch ls t u s (inr x) = inr (x.0, x.1, x.2, stands_through s x.3)

pub kid_in_branch : (ls : List Tree) (t k : Tree) → is_binder (head_of t) ≡ false → Among k (kids_of t) → InBranch ls t → InBranch ls k
kid_in_branch ls t k n m b = stands_in_branch ls k t (in_kid k n m as_whole) b

sum_op_binds_none : (head : Head) → is_sum head ≡ true → is_binder head ≡ false
sum_op_binds_none (h.Forall x) e = absurd cc
sum_op_binds_none (h.Exists x) e = absurd cc
sum_op_binds_none (h.Num z) e = refl
sum_op_binds_none (h.Var x s) e = refl
sum_op_binds_none (h.Term o) e = refl
sum_op_binds_none h.Ite e = refl
sum_op_binds_none (h.App f) e = refl
sum_op_binds_none (h.Form o) e = refl
sum_op_binds_none h.True e = refl
sum_op_binds_none h.False e = refl
sum_op_binds_none h.Not e = refl
sum_op_binds_none h.And e = refl
sum_op_binds_none h.Or e = refl
sum_op_binds_none h.Imp e = refl
sum_op_binds_none h.Iff e = refl

product_binds_none : (head : Head) → is_product head ≡ true → is_binder head ≡ false
product_binds_none (h.Forall x) e = absurd cc
product_binds_none (h.Exists x) e = absurd cc
product_binds_none (h.Num z) e = refl
product_binds_none (h.Var x s) e = refl
product_binds_none (h.Term o) e = refl
product_binds_none h.Ite e = refl
product_binds_none (h.App f) e = refl
product_binds_none (h.Form o) e = refl
product_binds_none h.True e = refl
product_binds_none h.False e = refl
product_binds_none h.Not e = refl
product_binds_none h.And e = refl
product_binds_none h.Or e = refl
product_binds_none h.Imp e = refl
product_binds_none h.Iff e = refl

-- ---- the atoms of sums

abbrev pub EachAtom : (Tree → Type 0) → List Part → Type 0
EachAtom P [] = Unit {0}
EachAtom P (p ∷ ps) = P (p.atom) × EachAtom P ps

pub each_map : (P Q : Tree → Type 0) → ((t : Tree) → P t → Q t) → (ps : List Part) → EachAtom P ps → EachAtom Q ps
each_map P Q f [] all = tt
each_map P Q f (p ∷ ps) all = (f (p.atom) all.0, each_map P Q f ps all.1)

each_middle : (P : Tree → Type 0) (before : List Part) (p : Part) (behind : List Part) → EachAtom P (before ++ p ∷ behind) → P (p.atom)
each_middle P [] p behind all = all.0
each_middle P (q ∷ before) p behind all = each_middle P before p behind all.1

multiple_stands : (o : Option ℤ) (n a t : Tree) → StandsIn a t → StandsIn ((multiple o a t).atom) t
multiple_stands (Some z) n a t s = s
multiple_stands None n a t s = as_whole

product_stands : (t : Tree) (ks : List Tree) → is_binder (head_of t) ≡ false → ((k : Tree) → Among k ks → Among k (kids_of t)) → StandsIn ((at_two (part t (pos 1)) (λ n a. multiple (number_in n) a t) ks).atom) t
product_stands t [] n there = as_whole
product_stands t (a ∷ []) n there = as_whole
product_stands t (a ∷ b ∷ []) n there = multiple_stands (number_in a) a b t (in_kid b n (there b (inr (inl refl))) as_whole)
product_stands t (a ∷ b ∷ c ∷ ks) n there = as_whole

part_stands : (t : Tree) → StandsIn ((written_part t).atom) t
part_stands t = go (is_product (head_of t)) refl
  where
    go : (b : Bool) → is_product (head_of t) ≡ b → StandsIn ((written_part t).atom) t
    go true e = rw e (product_stands t (kids_of t) (product_binds_none (head_of t) e) (λ k m. m))
    go false e = rw e as_whole

last_each : (P : Tree → Type 0) (o : Option ℤ) (t : Tree) → P ((written_part t).atom) → EachAtom P (last_part o t)
last_each P (Some z) t p = tt
last_each P None t p = (p, tt)

each_part : (P : Tree → Type 0) (ts : List Tree) → ((t : Tree) → Among t ts → P ((written_part t).atom)) → EachAtom P (parts_in ts)
each_part P [] f = tt
each_part P (t ∷ []) f = last_each P (number_in t) t (f t (inl refl))
each_part P (t ∷ u ∷ ts) f = (f t (inl refl), each_part P (u ∷ ts) (λ v m. f v (inr m)))

-- the atoms of a form stand in the term that is written so
pub atoms_stand : (t : Tree) → EachAtom (λ a. StandsIn a t) ((written t).parts)
atoms_stand t = go (is_sum (head_of t)) refl
  where
    go : (b : Bool) → is_sum (head_of t) ≡ b → EachAtom (λ a. StandsIn a t) (parts_in (if is_sum (head_of t) then kids_of t else t ∷ []))
    go true e = rw e (each_part (λ a. StandsIn a t) (kids_of t) (λ u m. in_kid u (sum_op_binds_none (head_of t) e) m (part_stands u)))
    go false e = rw e (each_part (λ a. StandsIn a t) (t ∷ []) (λ u m. elim m [ inl s ↦ subst (λ z. StandsIn ((written_part u).atom) z) s (part_stands u) | inr n ↦ absurd n ]))

pub atoms_in_branch : (ls : List Tree) (t : Tree) → InBranch ls t → EachAtom (InBranch ls) ((written t).parts)
atoms_in_branch ls t b = each_map (λ a. StandsIn a t) (InBranch ls) (λ a s. stands_in_branch ls a t s b) ((written t).parts) (atoms_stand t)

-- ---- same terms are in the branch

pub atom_in_branch : (ls : List Tree) (a r : Tree) → IsRest ls a r → InBranch ls a
atom_in_branch ls a r e =
    let all = subst (EachAtom (λ t. StandsIn t (e.sum))) (e.there) (atoms_stand (e.sum)) in
    let s = each_middle (λ t. StandsIn t (e.sum)) (e.before) (part a (unit_times (e.plus))) (e.behind) all in
    inl (equal (e.sum) (num (pos 0)), e.literal, in_kid (e.sum) refl (inl refl) s)

pub rest_in_branch : (ls : List Tree) (a r : Tree) → IsRest ls a r → InBranch ls r
rest_in_branch ls a r e = inr (a, r, e, as_whole)

mutual
  pub left_in : {ls : List Tree} {t u : Tree} → SameTerm ls t u → InBranch ls t
  left_in (itself b) = b
  left_in (turned s) = right_in s
  left_in (through s r) = left_in s
  left_in {ls} (given {t} {u} e) = atom_in_branch ls t u e
  left_in (alike b c n e s) = b
  left_in (paired b c m n e s) = b

  pub right_in : {ls : List Tree} {t u : Tree} → SameTerm ls t u → InBranch ls u
  right_in (itself b) = b
  right_in (turned s) = left_in s
  right_in (through s r) = right_in r
  right_in {ls} (given {t} {u} e) = rest_in_branch ls t u e
  right_in (alike b c n e s) = c
  right_in (paired b c m n e s) = c
