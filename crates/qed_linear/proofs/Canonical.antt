-- Linear forms in order: sums and products keep them so.
use Rattle.std.proofs.Common.{◌≡◌, Bool, true, false, ◌&&◌, cond, ℤ, pos, negsuc, ◌+ℤ◌, ◌*ℤ◌, Ordering, Less, Equal, Greater, List, [], ◌∷◌, ◌++◌, map, refl, sym, ◌∙◌, ap, subst, arith}
use Rattle.std.proofs.lemmas.Int.{ints}
use Rattle.std.proofs.Math.IntN.{*ℤ_comm, *ℤ-zero, *ℤ-one, one}
use Rattle.std.specs.Prelude.{Some, None}
use Rattle.qed_terms.specs.declared.head.TermOp.TheVariants as op
use Rattle.qed_terms.specs.Tree.{Tree, head_of, num}
use Rattle.qed_terms.specs.Operators.{is_zero}
use Rattle.qed_terms.specs.Order.{tree_cmp}
use Rattle.qed_linear.specs.Linear.{fits, Part, Lin, part, lin, number, atom_lin, at_order, cons_nonzero, add_part, add_parts, add, add_all, scale_parts, scale, subtract, is_integer, parts_fit, checked, fitted, product_of, op_form, or_atom, to_lin}
use Rattle.qed_linear.proofs.Facts.{and_left, and_right, zero_is, no_zero}
use Rattle.std.specs.Ordering.{ordering_reverse}
use Rattle.qed_terms.proofs.Total.{tree_total}

pub tree_reversed : (t u : Tree) → tree_cmp t u ≡ Greater → tree_cmp u t ≡ Less
tree_reversed t u e = tree_total.antisymm u t ∙ ap ordering_reverse e

pub tree_chain : (t u v : Tree) → tree_cmp t u ≡ Less → tree_cmp u v ≡ Less → tree_cmp t v ≡ Less
tree_chain t u v e f = tree_total.trans t u v e f

pub fits_zero : fits (pos 0) ≡ true
unfolding fits
fits_zero = refl

pub fits_one : fits (pos 1) ≡ true
unfolding fits
fits_one = refl

abbrev pub AllAfter : Tree → List Part → Type 0
AllAfter a [] = Unit {0}
AllAfter a (p ∷ ps) = (tree_cmp a (p.atom) ≡ Less) × AllAfter a ps

after_more : (a b : Tree) (ps : List Part) → tree_cmp a b ≡ Less → AllAfter b ps → AllAfter a ps
after_more a b [] k l = tt
after_more a b (p ∷ ps) k l = (tree_chain a b (p.atom) k l.0, after_more a b ps k l.1)

cons_after : (b a : Tree) (c : ℤ) (ps : List Part) → tree_cmp b a ≡ Less → AllAfter b ps → AllAfter b (cons_nonzero a c ps)
cons_after b a c ps k l = go (is_zero c)
  where
    go : (z : Bool) → AllAfter b (cond z ps (part a c ∷ ps))
    go true = l
    go false = (k, l)

add_part_after : (b a : Tree) (c : ℤ) (ps : List Part) → tree_cmp b a ≡ Less → AllAfter b ps → AllAfter b (add_part a c ps)
add_part_after b a c [] k l = cons_after b a c [] k l
add_part_after b a c (p ∷ ps) k l = go (tree_cmp a (p.atom)) (add_part_after b a c ps k l.1)
  where
    go : (o : Ordering) → AllAfter b (add_part a c ps) → AllAfter b (at_order o (cons_nonzero a c (p ∷ ps)) (cons_nonzero (p.atom) (c +ℤ p.times) ps) (p ∷ add_part a c ps))
    go Less r = cons_after b a c (p ∷ ps) k l
    go Equal r = cons_after b (p.atom) (c +ℤ p.times) ps l.0 l.1
    go Greater r = (l.0, r)

add_part_first : (p : Part) (ps : List Part) → is_zero (p.times) ≡ false → AllAfter (p.atom) ps → add_part (p.atom) (p.times) ps ≡ p ∷ ps
add_part_first p [] z l = ap (λ b. cond b [] (p ∷ [])) z
add_part_first p (q ∷ ps) z l =
    ap (λ o. at_order o (cons_nonzero (p.atom) (p.times) (q ∷ ps)) (cons_nonzero (q.atom) (p.times +ℤ q.times) ps) (q ∷ add_part (p.atom) (p.times) ps)) l.0
    ∙ ap (λ b. cond b (q ∷ ps) (p ∷ q ∷ ps)) z

abbrev pub single : Part → Lin
single p = lin (p ∷ []) (pos 0)

abbrev pub last_forms : ℤ → List Lin
last_forms c = cond (is_zero c) [] (number c ∷ [])

last_sum : (c : ℤ) → add_all (last_forms c) ≡ number c
last_sum c = go (is_zero c) refl
  where
    go : (z : Bool) → is_zero c ≡ z → add_all (cond z [] (number c ∷ [])) ≡ number c
    go true k = ap number (sym (zero_is c k))
    go false k = let e : c +ℤ pos 0 ≡ c = omega (arith, ints) in ap number e

pub num_form : (c : ℤ) → fits c ≡ true → to_lin (num c) ≡ number c
num_form c f = ap (λ b. or_atom (cond b (Some (number c)) None) (num c)) f

pub checked_is : (f : Lin) → parts_fit (f.parts) ≡ true → fits (f.constant) ≡ true → checked f ≡ Some f
checked_is f p c = ap (λ b. cond (b && fits (f.constant)) (Some f) None) p ∙ ap (λ b. cond b (Some f) None) c

-- the product of a number that isn't 0 and an atom
pub product_is : (p : Part) → to_lin (p.atom) ≡ atom_lin (p.atom) → is_zero (p.times) ≡ false → parts_fit (p ∷ []) ≡ true → op_form op.Mul (number (p.times) ∷ to_lin (p.atom) ∷ []) ≡ Some (single p)
unfolding one
product_is p i z f =
    let c : pos 1 *ℤ p.times ≡ p.times = *ℤ_comm (pos 1) (p.times) ∙ *ℤ-one (p.times) in
    let e : p.times *ℤ pos 1 ≡ p.times = *ℤ-one (p.times) in
    let e0 : p.times *ℤ pos 0 ≡ pos 0 = *ℤ-zero (p.times) in
    let fits_times = and_left (fits (p.times)) (is_integer (head_of (p.atom))) (and_left (fits (p.times) && is_integer (head_of (p.atom))) true f) in
    ap (λ g. op_form op.Mul (number (p.times) ∷ g ∷ [])) i
    ∙ ap (λ n. product_of (fitted n) (atom_lin (p.atom) ∷ [])) c
    ∙ ap (λ b. product_of (cond b (Some (p.times)) None) (atom_lin (p.atom) ∷ [])) fits_times
    ∙ ap (λ b. checked (cond b (number (pos 0)) (lin (part (p.atom) (p.times *ℤ pos 1) ∷ []) (p.times *ℤ pos 0)))) z
    ∙ (λ i. checked (lin (part (p.atom) (e i) ∷ []) (e0 i)))
    ∙ checked_is (single p) f fits_zero

scale_after : (a : Tree) (c : ℤ) (ps : List Part) → AllAfter a ps → AllAfter a (scale_parts c ps)
scale_after a c [] l = tt
scale_after a c (p ∷ ps) l = (l.0, scale_after a c ps l.1)

-- ---- parts over atoms of which something holds: no coefficient is 0, and the atoms rise

module _ (IsAtom : Tree → Type 0) where
  abbrev pub PartsOver : List Part → Type 0
  PartsOver [] = Unit {0}
  PartsOver (p ∷ ps) = IsAtom (p.atom) × (is_zero (p.times) ≡ false) × AllAfter (p.atom) ps × PartsOver ps

  cons_canonical : (a : Tree) (c : ℤ) (ps : List Part) → IsAtom a → AllAfter a ps → PartsOver ps → PartsOver (cons_nonzero a c ps)
  cons_canonical a c ps i l g = go (is_zero c) refl
    where
      go : (z : Bool) → is_zero c ≡ z → PartsOver (cond z ps (part a c ∷ ps))
      go true k = g
      go false k = (i, k, l, g)

  add_part_canonical : (a : Tree) (c : ℤ) (ps : List Part) → IsAtom a → PartsOver ps → PartsOver (add_part a c ps)
  add_part_canonical a c [] i g = cons_canonical a c [] i tt tt
  add_part_canonical a c (p ∷ ps) i g = go (add_part_canonical a c ps i g.3) (tree_cmp a (p.atom)) refl
    where
      go : PartsOver (add_part a c ps) → (o : Ordering) → tree_cmp a (p.atom) ≡ o → PartsOver (at_order o (cons_nonzero a c (p ∷ ps)) (cons_nonzero (p.atom) (c +ℤ p.times) ps) (p ∷ add_part a c ps))
      go r Less k = cons_canonical a c (p ∷ ps) i (k, after_more a (p.atom) ps k g.2) g
      go r Equal k = cons_canonical (p.atom) (c +ℤ p.times) ps g.0 g.2 g.3
      go r Greater k = (g.0, g.1, add_part_after (p.atom) a c ps (tree_reversed a (p.atom) k) g.2, r)

  pub add_parts_canonical : (ps qs : List Part) → PartsOver ps → PartsOver qs → PartsOver (add_parts ps qs)
  add_parts_canonical [] qs g k = k
  add_parts_canonical (p ∷ ps) qs g k = add_part_canonical (p.atom) (p.times) (add_parts ps qs) g.0 (add_parts_canonical ps qs g.3 k)

  pub add_parts_none : (ps : List Part) → PartsOver ps → add_parts ps [] ≡ ps
  add_parts_none [] g = refl
  add_parts_none (p ∷ ps) g = ap (add_part (p.atom) (p.times)) (add_parts_none ps g.3) ∙ add_part_first p ps g.1 g.2

  -- the forms of the kids of a form's term add up to it
  pub add_all_back : (ps : List Part) (c : ℤ) → PartsOver ps → add_all (map single ps ++ last_forms c) ≡ lin ps c
  add_all_back [] c g = last_sum c
  add_all_back (p ∷ ps) c g =
      let rest = add_all_back ps c g.3 in
      let e : pos 0 +ℤ c ≡ c = omega (arith, ints) in
      ap (add (single p)) rest ∙ (λ i. lin (add_part_first p ps g.1 g.2 i) (e i))

  abbrev pub FormOver : Lin → Type 0
  FormOver f = PartsOver (f.parts) × (parts_fit (f.parts) ≡ true) × (fits (f.constant) ≡ true)

  pub checked_canonical : (f g : Lin) → PartsOver (f.parts) → checked f ≡ Some g → FormOver g × (f ≡ g)
  checked_canonical f g k e = go (parts_fit (f.parts) && fits (f.constant)) refl e
    where
      go : (b : Bool) → parts_fit (f.parts) && fits (f.constant) ≡ b → cond b (Some f) None ≡ Some g → FormOver g × (f ≡ g)
      go true r q = let same : f ≡ g = cc in (subst FormOver same (k, and_left (parts_fit (f.parts)) (fits (f.constant)) r, and_right (parts_fit (f.parts)) (fits (f.constant)) r), same)
      go false r q = absurd cc

  scale_parts_canonical : (c : ℤ) (ps : List Part) → is_zero c ≡ false → PartsOver ps → PartsOver (scale_parts c ps)
  scale_parts_canonical c [] z g = tt
  scale_parts_canonical c (p ∷ ps) z g = (g.0, no_zero c (p.times) z g.1, scale_after (p.atom) c ps g.2, scale_parts_canonical c ps z g.3)

  pub scale_canonical : (c : ℤ) (f : Lin) → PartsOver (f.parts) → PartsOver ((scale c f).parts)
  scale_canonical c f g = go (is_zero c) refl
    where
      go : (b : Bool) → is_zero c ≡ b → PartsOver ((cond b (number (pos 0)) (lin (scale_parts c (f.parts)) (c *ℤ f.constant))).parts)
      go true k = tt
      go false k = scale_parts_canonical c (f.parts) k g

  pub subtract_canonical : (f g : Lin) → PartsOver (f.parts) → PartsOver (g.parts) → PartsOver ((subtract f g).parts)
  subtract_canonical f g k l = add_parts_canonical (f.parts) ((scale (negsuc 0) g).parts) k (scale_canonical (negsuc 0) g l)
