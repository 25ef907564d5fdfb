-- The count of a table in normal form.
use Rattle.std.proofs.Common.{◌≡◌, ℕ, zero, suc, ◌+◌, ◌<◌, ◌^◌, true, false, pos, ◌+ℤ◌, [], ◌∷◌, ◌&&◌, refl, sym, ◌∙◌, ap, arith}
use Rattle.std.proofs.lemmas.Int.{ints}
use Rattle.std.specs.Prelude.{Some, None}
use Rattle.wp_base.specs.declared.kinds.Layout.{Layout}
use Rattle.qed_terms.specs.declared.head.Head.TheVariants as h
use Rattle.qed_terms.specs.declared.head.TermOp.TheVariants as op
use Rattle.qed_terms.specs.Tree.{Tree, node, stop, more}
use Rattle.qed_linear.specs.Linear.{fits, Lin, part, lin, atom_lin, add_all, parts_fit, checked, to_lin, of_lin, or_atom}
use Rattle.qed_linear.proofs.Canonical.{fits_one, num_form, checked_is}
use Rattle.qed_linear.proofs.SumSteps.{fits_from}
use Rattle.qed_memories.specs.Memories.{count_tree, one_more, normal_count, grow_tree}
use Rattle.qed_memories.specs.Passes.{count_down}
use Rattle.qed_memories.specs.View.{is_built, raised}

-- ---- down the blocks that were made last

made_count : (l : Layout) (t : Tree) → normal_count (node (h.Term (op.Alloc l)) (more t stop)) ≡ of_lin (to_lin (one_more (normal_count t)))
unfolding normal_count
made_count l t = refl

grown_count : (t u : Tree) → normal_count (grow_tree t u) ≡ count_tree (grow_tree t u)
unfolding normal_count
grown_count t u = refl

plain_count : (t : Tree) → is_built t ≡ false → normal_count t ≡ count_tree t
unfolding normal_count
plain_count (node (h.Term (op.Alloc l)) (more t stop)) k = absurd cc
plain_count t k = refl

raised_once : (n : ℕ) (t : Tree) → raised n (of_lin (to_lin (one_more t))) ≡ raised (suc n) t
raised_once zero t = refl
raised_once (suc n) t = ap (λ u. of_lin (to_lin (one_more u))) (raised_once n t)

pub count_below : (u t s : Tree) (l : Layout) (n m : ℕ) → t ≡ node (h.Term (op.Alloc l)) (more s stop) → m ≡ n + 1 → normal_count u ≡ raised n (normal_count t) → normal_count u ≡ raised m (normal_count s)
count_below u t s l n m e k i =
    let same : m ≡ suc n = omega (arith, k) in
    i ∙ ap (λ x. raised n (normal_count x)) e ∙ ap (raised n) (made_count l s) ∙ raised_once n (normal_count s) ∙ ap (λ x. raised x (normal_count s)) (sym same)

pub count_grown : (u t s v : Tree) (n : ℕ) → t ≡ grow_tree s v → normal_count u ≡ raised n (normal_count t) → normal_count u ≡ raised n (count_tree t)
count_grown u t s v n e i = i ∙ ap (raised n) (ap normal_count e ∙ grown_count s v ∙ ap count_tree (sym e))

pub count_plain : (u t : Tree) (n : ℕ) → is_built t ≡ false → normal_count u ≡ raised n (normal_count t) → normal_count u ≡ raised n (count_tree t)
count_plain u t n k i = i ∙ ap (raised n) (plain_count t k)

pub ruleset unmade_laws = (count_below, count_grown, count_plain)

-- ---- the form of such a count

abbrev pub counted : Tree → ℕ → Lin
counted t n = lin (part (count_tree t) (pos 1) ∷ []) (pos n)

small : (n : ℕ) → n < 2 ^ 127 → fits (pos n) ≡ true
small n k = fits_from (pos n) (record { sfits = k })

counted_parts : (t : Tree) → parts_fit (part (count_tree t) (pos 1) ∷ []) ≡ true
counted_parts t = ap (λ b. (b && true) && true) fits_one

counted_form : (t : Tree) (n : ℕ) → n < 2 ^ 127 → to_lin (of_lin (counted t n)) ≡ counted t n
counted_form t zero k = refl
counted_form t (suc n) k =
    let f = small (suc n) k in
    let e : pos 0 +ℤ (pos (suc n) +ℤ pos 0) ≡ pos (suc n) = omega (arith, ints) in
    ap (λ g. or_atom (checked (add_all (atom_lin (count_tree t) ∷ g ∷ []))) (of_lin (counted t (suc n)))) (num_form (pos (suc n)) f)
    ∙ ap (λ c. or_atom (checked (lin (part (count_tree t) (pos 1) ∷ []) c)) (of_lin (counted t (suc n)))) e
    ∙ ap (λ o. or_atom o (of_lin (counted t (suc n)))) (checked_is (counted t (suc n)) (counted_parts t) f)

counted_more : (t : Tree) (n : ℕ) → suc n < 2 ^ 127 → to_lin (one_more (of_lin (counted t n))) ≡ counted t (suc n)
counted_more t n k =
    let f = small (suc n) k in
    let e : pos n +ℤ (pos 1 +ℤ pos 0) ≡ pos (suc n) = omega (arith, ints) in
    let u = one_more (of_lin (counted t n)) in
    (λ i. or_atom (checked (add_all (counted_form t n (omega (arith, k)) i ∷ num_form (pos 1) fits_one i ∷ []))) u)
    ∙ ap (λ c. or_atom (checked (lin (part (count_tree t) (pos 1) ∷ []) c)) u) e
    ∙ ap (λ o. or_atom o u) (checked_is (counted t (suc n)) (counted_parts t) f)

raised_is : (t : Tree) (n : ℕ) → n < 2 ^ 127 → raised n (count_tree t) ≡ of_lin (counted t n)
raised_is t zero k = refl
raised_is t (suc n) k = ap (λ u. of_lin (to_lin (one_more u))) (raised_is t n (omega (arith, k))) ∙ ap of_lin (counted_more t n k)

pub count_form_is : (u t : Tree) (n : ℕ) → n < 2 ^ 64 → normal_count u ≡ raised n (count_tree t) → counted t n ≡ to_lin (normal_count u)
count_form_is u t n k e = let small = wide n k in sym (counted_form t n small) ∙ ap to_lin (sym (e ∙ raised_is t n small))
  where
    wide : (n : ℕ) → n < 2 ^ 64 → n < 2 ^ 127
    wide n k = omega (arith, k)

pub count_term_is : (u t : Tree) (n : ℕ) → n < 2 ^ 64 → normal_count u ≡ raised n (count_tree t) → of_lin (counted t n) ≡ normal_count u
count_term_is u t n k e = sym (e ∙ raised_is t n (omega (arith, k)))

pub counted_down : (t s w : Tree) (l : Layout) → t ≡ node (h.Term (op.Alloc l)) (more s stop) → w ≡ normal_count t → Some w ≡ count_down t
unfolding count_down
counted_down t s w l e k = ap Some (k ∙ ap normal_count e) ∙ ap count_down (sym e)

pub not_counted_down : (t : Tree) → is_built t ≡ false → None ≡ count_down t
unfolding count_down
not_counted_down (node (h.Term (op.Alloc l)) (more t stop)) k = absurd cc
not_counted_down t k = refl

pub grown_not_down : (t s v : Tree) → t ≡ grow_tree s v → None ≡ count_down t
unfolding count_down
grown_not_down t s v e = sym (ap count_down e)

pub ruleset count_laws = (counted_down, not_counted_down, grown_not_down)
