-- Chains over classes, as links that lead to each other.
use Rattle.std.proofs.Common.{◌≡◌, ℕ, zero, suc, List, [], ◌∷◌, map, refl, ◌∙◌, ap, subst}
use Rattle.std.specs.Prelude.{ℤ, pos, ◌+ℤ◌, Some, slice_get}
use Rattle.linear_chains.specs.Links.{Form, Link, Step, step_of, positive, negative}
use Rattle.linear_chains.specs.Chains.{Walk, stays, goes, Picks, bounds_of}

abbrev pub starts : List Link → List Form
starts ks = map (λ (l : Link). positive (l.form)) ks

-- each begins with the side that the one before it ends with
abbrev pub Along : Form → List Link → Form → Type 0
Along u [] v = u ≡ v
Along u (l ∷ ks) v = (u ≡ positive (l.form)) × Along (negative (l.form)) ks v

step_back : (links : List Link) (k : ℕ) (s : Step) → slice_get (map step_of links) k ≡ Some s → (l : Link) × (slice_get links k ≡ Some l) × (s ≡ step_of l)
step_back [] k s e = absurd cc
step_back (l ∷ links) zero s e = (l, refl, (cc))
step_back (l ∷ links) (suc k) s e = step_back links k s e

step_there : (links : List Link) (k : ℕ) (l : Link) → slice_get links k ≡ Some l → slice_get (map step_of links) k ≡ Some (step_of l)
step_there [] k l e = absurd cc
step_there (m ∷ links) zero l e = let s : m ≡ l = cc in ap (λ z. Some (step_of z)) s
step_there (m ∷ links) (suc k) l e = step_there links k l e

module _ (links : List Link) where
  pub record Walked (u : Form) (ks : List ℕ) (us : List Form) (v : Form) (z : ℤ) : Type 0 where
    pub picked : List Link
    pub picks : Picks links ks picked
    pub sides : us ≡ starts picked
    pub along : Along u picked v
    pub sum : z ≡ bounds_of picked

  pub walked : {u v : Form} {ks : List ℕ} {us : List Form} {z : ℤ} → Walk (map step_of links) u ks us v z → Walked u ks us v z
  walked stays = record { picked = []; picks = tt; sides = refl; along = refl; sum = refl }
  walked {u} {v} (goes {ks = ks} {us = us} {z = z} {y = y} k s e f w g) =
      let l = step_back links k s e in
      let r = walked w in
      let from : u ≡ positive (l.0.form) = f ∙ ap (λ (t : Step). t.from) l.2 in
      record {
        picked = l.0 ∷ r.picked;
        picks = (l.1, r.picks);
        sides = λ i. from i ∷ r.sides i;
        along = (from, subst (λ x. Along x (r.picked) v) (ap (λ (t : Step). t.to) l.2) (r.along));
        sum = g ∙ (λ i. (l.2 i).bound +ℤ r.sum i);
      }

  pub walk_along : (ks : List ℕ) (picked : List Link) (u v : Form) → Picks links ks picked → Along u picked v → Walk (map step_of links) u ks (starts picked) v (bounds_of picked)
  walk_along [] [] u v p h = subst (λ x. Walk (map step_of links) u [] [] x (pos 0)) h stays
  walk_along [] (l ∷ picked) u v p h = absurd p
  walk_along (k ∷ ks) [] u v p h = absurd p
  walk_along (k ∷ ks) (l ∷ picked) u v p h =
      let w = goes k (step_of l) (step_there links k l p.0) h.0 (walk_along ks picked (negative (l.form)) v p.1 h.1) refl in
      subst (λ x. Walk (map step_of links) u (k ∷ ks) (x ∷ starts picked) v (l.bound +ℤ bounds_of picked)) h.0 w
