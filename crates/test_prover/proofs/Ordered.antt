-- A form in order with one part more, and links in order with one link more.
use Rattle.std.proofs.Common.{◌≡◌, ◌≢◌, ◌⊎◌, ℕ, zero, suc, ◌+◌, ◌<◌, List, [], ◌∷◌, ◌++◌, map, refl, sym, ap, subst, inl, inr, arith}
use Rattle.std.specs.Prelude.{ℤ, pos, slice_get, Option, Some, None}
use Rattle.linear_chains.specs.Links.{Form, Link, IsAbove, IsOrdered}
use Rattle.linear_chains.specs.Sums.{IsBelow}
use Rattle.linear_chains.specs.Chains.{AreOrdered}
use Rattle.linear_chains.specs.View.{link_of}
use Rattle.linear_chains.specs.declared.links.LinkForm.{LinkForm}

above_more : (f : Form) (c d : ℕ) (z : ℤ) → IsAbove d f → d < c → IsAbove d (f ++ (c, z) ∷ [])
above_more [] c d z a l = l
above_more (p ∷ f) c d z a l = a

pub ordered_more : (f : Form) (c : ℕ) (z : ℤ) → IsOrdered f → IsBelow f c → z ≢ pos 0 → IsOrdered (f ++ (c, z) ∷ [])
ordered_more [] c z o b n = (n, tt, tt)
ordered_more (p ∷ f) c z o b n = (o.0, above_more f c (p.0) z (o.1) (b.0), ordered_more f c z (o.2) (b.1) n)

pub below_more : (f : Form) (c : ℕ) (z : ℤ) → IsBelow f c → IsBelow (f ++ (c, z) ∷ []) (c + 1)
below_more [] c z b = (omega arith, tt)
below_more (p ∷ f) c z b = let q = b.0 in (omega arith, below_more f c z (b.1))

pub below_rises : (f : Form) (c : ℕ) → IsBelow f c → IsBelow f (c + 1)
below_rises [] c b = tt
below_rises (p ∷ f) c b = let q = b.0 in (omega arith, below_rises f c (b.1))

-- what stands in a list with one more stands in the list, or is that one
one_or : (ls : List Link) (m l : Link) (k : ℕ) → slice_get (ls ++ m ∷ []) k ≡ Some l → (slice_get ls k ≡ Some l) ⊎ (m ≡ l)
one_or [] m l zero e = inr (some_same e)
  where
    value : Option Link → Link
    value None = m
    value (Some x) = x

    some_same : {x y : Link} → Some x ≡ Some y → x ≡ y
    some_same e = ap value e
one_or [] m l (suc k) e = absurd cc
one_or (n ∷ ls) m l zero e = inl e
one_or (n ∷ ls) m l (suc k) e = one_or ls m l k e

pub are_more : (ls : List Link) (m : Link) → AreOrdered ls → IsOrdered (m.form) → AreOrdered (ls ++ m ∷ [])
are_more ls m all one k l e = go (one_or ls m l k e)
  where
    go : (slice_get ls k ≡ Some l) ⊎ (m ≡ l) → IsOrdered (l.form)
    go (inl f) = all k l f
    go (inr f) = subst (λ x. IsOrdered (x.form)) f one

pub none_ordered : AreOrdered []
none_ordered k l e = absurd cc

pub are_more_mapped : (xs : List LinkForm) (x : LinkForm) → AreOrdered (map link_of xs) → IsOrdered (x.form.items) → AreOrdered (map link_of (xs ++ x ∷ []))
are_more_mapped xs x all one = subst AreOrdered (sym (mapped xs x)) (are_more (map link_of xs) (link_of x) all one)
  where
    mapped : (xs : List LinkForm) (x : LinkForm) → map link_of (xs ++ x ∷ []) ≡ map link_of xs ++ link_of x ∷ []
    mapped [] x = refl
    mapped (y ∷ xs) x = ap (λ z. link_of y ∷ z) (mapped xs x)
