-- What the links at three places make, in the words of the code.
use Rattle.std.proofs.Common.{◌≡◌, ℕ, ◌<◌, Bool, true, false, length, map, List, [], ◌∷◌, refl, sym, ◌∙◌, ap, subst, inr}
use Rattle.std.specs.Prelude.{ℤ, pos, ◌≤ℤ◌, Option, Some, None, slice_get, MatchOption}
use Rattle.std.specs.Bool.{MatchBool}
use Rattle.linear_chains.specs.declared.links.Refutation.{Refutation}
use Rattle.linear_chains.specs.Links.{Form, Link, step_of}
use Rattle.linear_chains.specs.Chains.{AreOrdered, IsShortSum, Meets}
use Rattle.linear_chains.specs.Sums.{IsOpposite, IsLeast, Has, Lacks, NoThird, NoSumOfThree, ThreeMake}
use Rattle.linear_chains.specs.View.{MakeAt, Answers}
use Rattle.linear_chains.proofs.Lists.{one_item}
use Rattle.linear_chains.proofs.Least.{no_sum, a_sum, no_refutation}

pub has_or_lacks : (t : Bool) (links : List Link) (look : Form → Option ℕ) (l m : Link) (k : ℕ) → look (l.form) ≡ Some k → slice_get links k ≡ Some m → MatchBool t (m.bound ≤ℤ l.bound) (l.bound ≤ℤ m.bound) → MatchBool t (Has links look l) (Lacks links look l)
has_or_lacks true links look l m k e f h = (k, m, e, f, h)
has_or_lacks false links look l m k e f h = λ k' m' e' f'.
    let same : k ≡ k' = one_item (look (l.form)) k k' e e' in
    let one : m ≡ m' = one_item (slice_get links k) m m' f (ap (slice_get links) same ∙ f') in
    subst (λ z. l.bound ≤ℤ z.bound) one h

module _ (links : List Link) (i j k : ℕ) (a b l : Link) (at_i : slice_get links i ≡ Some a) (at_j : slice_get links j ≡ Some b) (at_k : slice_get links k ≡ Some l) where
  moved : (o : Option ℤ) → ThreeMake a b l o → (a' b' l' : Link) → slice_get links i ≡ Some a' → slice_get links j ≡ Some b' → slice_get links k ≡ Some l' → ThreeMake a' b' l' o
  moved o h a' b' l' d e f =
      let x = one_item (slice_get links i) a a' at_i d in
      let y = one_item (slice_get links j) b b' at_j e in
      let z = one_item (slice_get links k) l l' at_k f in
      subst (λ w. ThreeMake w b' l' o) x (subst (λ w. ThreeMake a w l' o) y (subst (λ w. ThreeMake a b w o) z h))

  pub make_none : ThreeMake a b l None → MakeAt links i j k None
  make_none h = moved None h

  pub make_some : (r : Refutation) (total : ℤ) → ThreeMake a b l (Some total) → r.places.items ≡ i ∷ j ∷ k ∷ [] → r.total ≡ total → MakeAt links i j k (Some r)
  make_some r total h e f = (e, λ a' b' l' x y z. moved (Some (r.total)) (subst (λ t. ThreeMake a b l (Some t)) (sym f) h) a' b' l' x y z)

-- the third link of two is the one of the form that they lack
pub made_third : (links : List Link) (ordered : AreOrdered links) (look : Form → Option ℕ) (t : IsLeast links (length links) look) (i j : ℕ) (a b : Link) → slice_get links i ≡ Some a → slice_get links j ≡ Some b → (form : Form) → IsOpposite (a.form) (b.form) form → (k : ℕ) → look form ≡ Some k → (o : Option Refutation) →
    MakeAt links i j k o → MatchOption o (NoThird links look i j) (λ r. IsShortSum links (r.places.items) (r.total))
made_third links ordered look t i j a b d e form op k hit None h =
    let f = t.found form k hit in
    no_sum links ordered look t i j a b d e form op k (f.0) hit f.1 (h a b (f.0) d e f.1)
made_third links ordered look t i j a b d e form op k hit (Some r) h =
    let f = t.found form k hit in
    let m = h.1 a b (f.0) d e f.1 in
    subst (λ ks. IsShortSum links ks (r.total)) (sym h.0) (a_sum links ordered look t i j a b d e form op k (f.0) hit f.1 (r.total) m.0 m.1 m.2)

-- where numbers meet all links and no two have a third one, there is no refutation
pub answers_of : (links : List Link) (ordered : AreOrdered links) (d : Form → ℤ) → Meets (map step_of links) d → (o : Option Refutation) → MatchOption o (NoSumOfThree links) (λ r. IsShortSum links (r.places.items) (r.total)) → Answers links o
answers_of links ordered d meets None h = no_refutation links ordered d meets h.0 h.1 h.2
answers_of links ordered d meets (Some r) h = inr h
