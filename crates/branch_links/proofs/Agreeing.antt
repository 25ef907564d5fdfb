-- Links over classes agree in their sides where those of the branch that they stand for do.
use Rattle.std.proofs.Common.{◌≡◌, ◌⊎◌, ℕ, ◌<◌, List, [], ◌∷◌, refl, sym, ◌∙◌, ap, subst, inl, inr, arith}
use Rattle.std.specs.Prelude.{ℤ, pos, ◌+ℤ◌}
use Rattle.std.proofs.lemmas.Int.{ints}
use Rattle.qed_terms.specs.Tree.{Tree}
use Rattle.linear_chains.specs.Links.{Link, times_at, positive, negative}
use Rattle.linear_chains.specs.Chains.{times_in}
use Rattle.linear_chains.specs.Chains as chains
use Rattle.linear_chains.proofs.Forms.{one_form}
use Rattle.same_terms.specs.SameTerms.{SameTerm}
use Rattle.same_terms.specs.Clashes.{AddUp}
use Rattle.branch_links.specs.BranchLinks.{IsAtom, BranchLink, bounds_of, parts_of, added, taken, unchanged, Agree, LeadsTo, SameStart, SameLink}
use Rattle.branch_links.specs.Numbered.{TellApart, StandsFor}
use Rattle.branch_links.proofs.Sums.{one_sum, both_sums}
use Rattle.branch_links.proofs.Sides.{positive_ordered, negative_ordered, positive_times, negative_times}

module _ (ls : List Tree) (count : ℕ) (tree : ℕ → Tree) (class : ℕ → ℕ) (apart : TellApart ls count tree class) where
  abbrev Stands : Link → BranchLink → Type 0
  Stands l m = StandsFor ls count tree class l m

  module _ (l k : Link) (m n : BranchLink) (s : Stands l m) (t : Stands k n) (left right : ℤ → ℤ) where
    pub agree_there : left (pos 0) ≡ right (pos 0) → Agree left right ls m n → (c : ℕ) → left (times_at (l.form) c) ≡ right (times_at (k.form) c)
    agree_there none agree c = elim (s.atoms c) [
      | inr a ↦ at_place a
      | inl e ↦ elim (t.atoms c) [ inr a ↦ at_place a | inl d ↦ ap left e ∙ none ∙ sym (ap right d) ]
    ]
      where
        at_place : ((i : ℕ) × (i < count) × IsAtom ls (tree i) × (class i ≡ c)) → left (times_at (l.form) c) ≡ right (times_at (k.form) c)
        at_place a =
            let g = agree (tree a.0) a.2 in
            let x = one_sum (SameTerm ls) (tree a.0) (m.parts) g.0 (times_at (l.form) (class a.0)) g.2 (s.times a.0 a.1 a.2) in
            let y = one_sum (SameTerm ls) (tree a.0) (n.parts) g.1 (times_at (k.form) (class a.0)) g.3 (t.times a.0 a.1 a.2) in
            ap (λ d. left (times_at (l.form) d)) (sym a.3) ∙ sym (ap left x) ∙ g.4 ∙ ap right y ∙ ap (λ d. right (times_at (k.form) d)) a.3

    pub agree_here : ((c : ℕ) → left (times_at (l.form) c) ≡ right (times_at (k.form) c)) → Agree left right ls m n
    agree_here same u atom =
        let p = apart.place u (atom.there) in
        let there : IsAtom ls (tree p.0) = subst (IsAtom ls) (sym p.2) atom in (
          times_at (l.form) (class p.0),
          times_at (k.form) (class p.0),
          subst (λ z. AddUp (SameTerm ls) z (m.parts) (times_at (l.form) (class p.0))) p.2 (s.times p.0 p.1 there),
          subst (λ z. AddUp (SameTerm ls) z (n.parts) (times_at (k.form) (class p.0))) p.2 (t.times p.0 p.1 there),
          same (class p.0),
        )

  module _ (l k : Link) (m n : BranchLink) (s : Stands l m) (t : Stands k n) where
    pub leads_there : LeadsTo ls m n → negative (l.form) ≡ positive (k.form)
    leads_there h = one_form (negative (l.form)) (positive (k.form)) (negative_ordered (l.form) (s.ordered)) (positive_ordered (k.form) (t.ordered)) (λ c. negative_times (l.form) c (s.ordered) ∙ agree_there l k m n s t taken added refl h c ∙ sym (positive_times (k.form) c (t.ordered)))

    pub leads_here : negative (l.form) ≡ positive (k.form) → LeadsTo ls m n
    leads_here e = agree_here l k m n s t taken added (λ c. sym (negative_times (l.form) c (s.ordered)) ∙ ap (λ f. times_at f c) e ∙ positive_times (k.form) c (t.ordered))

    pub starts_there : SameStart ls m n → positive (l.form) ≡ positive (k.form)
    starts_there h = one_form (positive (l.form)) (positive (k.form)) (positive_ordered (l.form) (s.ordered)) (positive_ordered (k.form) (t.ordered)) (λ c. positive_times (l.form) c (s.ordered) ∙ agree_there l k m n s t added added refl h c ∙ sym (positive_times (k.form) c (t.ordered)))

    pub starts_here : positive (l.form) ≡ positive (k.form) → SameStart ls m n
    starts_here e = agree_here l k m n s t added added (λ c. sym (positive_times (l.form) c (s.ordered)) ∙ ap (λ f. times_at f c) e ∙ positive_times (k.form) c (t.ordered))

    pub link_there : SameLink ls m n → l ≡ k
    link_there h =
        let f : l.form ≡ k.form = one_form (l.form) (k.form) (s.ordered) (t.ordered) (agree_there l k m n s t unchanged unchanged refl h.1) in
        let b : l.bound ≡ k.bound = s.bound ∙ h.0 ∙ sym (t.bound) in
        λ i. record { form = f i; bound = b i }

    pub link_here : l ≡ k → SameLink ls m n
    link_here e = (sym (s.bound) ∙ ap (λ (z : Link). z.bound) e ∙ t.bound, agree_here l k m n s t unchanged unchanged (λ c. ap (λ (z : Link). times_at (z.form) c) e))

  -- ---- several links

  abbrev pub StandAll : List Link → List BranchLink → Type 0
  StandAll [] [] = Unit {0}
  StandAll [] (m ∷ ms) = ⊥
  StandAll (l ∷ ks) [] = ⊥
  StandAll (l ∷ ks) (m ∷ ms) = StandsFor ls count tree class l m × StandAll ks ms

  pub bounds_same : (ks : List Link) (ms : List BranchLink) → StandAll ks ms → chains.bounds_of ks ≡ bounds_of ms
  bounds_same [] [] s = refl
  bounds_same [] (m ∷ ms) s = absurd s
  bounds_same (l ∷ ks) [] s = absurd s
  bounds_same (l ∷ ks) (m ∷ ms) s = λ i. s.0.bound i +ℤ bounds_same ks ms s.1 i

  pub sums_same : (ks : List Link) (ms : List BranchLink) → StandAll ks ms → (i : ℕ) → i < count → IsAtom ls (tree i) → AddUp (SameTerm ls) (tree i) (parts_of ms) (times_in ks (class i))
  sums_same [] [] s i b a = refl
  sums_same [] (m ∷ ms) s i b a = absurd s
  sums_same (l ∷ ks) [] s i b a = absurd s
  sums_same (l ∷ ks) (m ∷ ms) s i b a = both_sums (SameTerm ls) (tree i) (m.parts) (parts_of ms) (times_at (l.form) (class i)) (times_in ks (class i)) (times_at (l.form) (class i) +ℤ times_in ks (class i)) (s.0.times i b a) (sums_same ks ms s.1 i b a) refl

  -- a class of none of the atoms has no coefficient in any of them
  pub all_none : (ks : List Link) (ms : List BranchLink) → StandAll ks ms → (c : ℕ) → (times_in ks c ≡ pos 0) ⊎ ((i : ℕ) × (i < count) × IsAtom ls (tree i) × (class i ≡ c))
  all_none [] [] s c = inl refl
  all_none [] (m ∷ ms) s c = absurd s
  all_none (l ∷ ks) [] s c = absurd s
  all_none (l ∷ ks) (m ∷ ms) s c = elim (s.0.atoms c) [
    | inr a ↦ inr a
    | inl e ↦ elim (all_none ks ms s.1 c) [ inr a ↦ inr a | inl d ↦ inl (two_zeros (times_at (l.form) c) (times_in ks c) e d) ]
  ]
    where
      two_zeros : (x y : ℤ) → x ≡ pos 0 → y ≡ pos 0 → x +ℤ y ≡ pos 0
      two_zeros x y d e = omega (arith, ints)

  pub nothing_there : (ks : List Link) (ms : List BranchLink) → StandAll ks ms → ((t : Tree) → IsAtom ls t → AddUp (SameTerm ls) t (parts_of ms) (pos 0)) → (c : ℕ) → times_in ks c ≡ pos 0
  nothing_there ks ms s none c = elim (all_none ks ms s c) [
    | inl e ↦ e
    | inr a ↦ sym (ap (times_in ks) a.3) ∙ one_sum (SameTerm ls) (tree a.0) (parts_of ms) (times_in ks (class a.0)) (pos 0) (sums_same ks ms s a.0 a.1 a.2) (none (tree a.0) a.2)
  ]

  pub nothing_here : (ks : List Link) (ms : List BranchLink) → StandAll ks ms → ((c : ℕ) → times_in ks c ≡ pos 0) → (t : Tree) → IsAtom ls t → AddUp (SameTerm ls) t (parts_of ms) (pos 0)
  nothing_here ks ms s none t atom =
      let p = apart.place t (atom.there) in
      let there : IsAtom ls (tree p.0) = subst (IsAtom ls) (sym p.2) atom in
      subst (λ z. AddUp (SameTerm ls) z (parts_of ms) (pos 0)) p.2 (subst (AddUp (SameTerm ls) (tree p.0) (parts_of ms)) (none (class p.0)) (sums_same ks ms s p.0 p.1 there))
