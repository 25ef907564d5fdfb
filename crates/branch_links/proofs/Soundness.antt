-- Where the literals are true, no links of theirs are a chain or a short sum.
use Rattle.std.proofs.Common.{◌≡◌, ℕ, zero, suc, ◌≤◌, List, [], ◌∷◌, ◌++◌, map, length, true, int_le, refl, sym, ◌∙◌, ap, subst, inl, inr, arith}
use Rattle.std.specs.Prelude.{ℤ, pos, neg_ℤ, ◌+ℤ◌, ◌*ℤ◌, ◌≤ℤ◌, ◌<ℤ◌}
use Rattle.std.proofs.lemmas.Int.{ints}
use Rattle.std.proofs.Math.IntN.{zero-*ℤ}
use Rattle.qed_terms.specs.Meaning.{World, Values, whole, value}
use Rattle.qed_terms.specs.Tree.{Tree, num, equal, at_most}
use Rattle.qed_linear.specs.Linear.{Part, Lin}
use Rattle.qed_linear.proofs.Facts.{equal_is}
use Rattle.qed_linear.proofs.Ring.{sum_times}
use Rattle.qed_linear.proofs.Values as values
use Rattle.same_terms.specs.Written.{turned, written}
use Rattle.same_terms.specs.SameTerms.{Among, AreTrue, InBranch, as_whole, SameTerm, itself, turned as same_turned, through}
use Rattle.same_terms.specs.Clashes.{AddUp}
use Rattle.same_terms.proofs.Means.{number_value, written_value, same_means, turned_value}
use Rattle.same_terms.proofs.Terms.{EachAtom, atoms_in_branch, kid_in_branch}
use Rattle.branch_links.specs.BranchLinks.{NoNumber, IsAtom, NumbersAddUp, Says, BranchLink, AreLinks, bounds_of, parts_of, added, IsChain, Chained, Refute}
use Rattle.branch_links.specs.Laws.{RefutedIsFalse}
use Rattle.branch_links.proofs.Sums.{chained_sum}

-- ---- what parts are without those that are related to a term

module _ (ls : List Tree) where
  apart : (a : Tree) (ps : List Part) (z : ℤ) → AddUp (SameTerm ls) a ps z → List Part
  apart a [] z e = []
  apart a (p ∷ ps) z (inl x) = apart a ps x.1.0 x.1.1
  apart a (p ∷ ps) z (inr x) = p ∷ apart a ps z x.1

  apart_fewer : (a : Tree) (ps : List Part) (z : ℤ) (e : AddUp (SameTerm ls) a ps z) → length (apart a ps z e) ≤ length ps
  unfolding apart
  apart_fewer a [] z e = omega arith
  apart_fewer a (p ∷ ps) z (inl x) = let l = apart_fewer a ps x.1.0 x.1.1 in omega arith
  apart_fewer a (p ∷ ps) z (inr x) = let l = apart_fewer a ps z x.1 in omega arith

  apart_sum : (b : Tree) (y : ℤ) (a : Tree) (ps : List Part) (z : ℤ) (e : AddUp (SameTerm ls) a ps z) → (SameTerm ls a b → ⊥) → AddUp (SameTerm ls) b ps y → AddUp (SameTerm ls) b (apart a ps z e) y
  unfolding apart
  apart_sum b y a [] z e n d = d
  apart_sum b y a (p ∷ ps) z (inl x) n (inl d) = absurd (n (through x.0 (same_turned d.0)))
  apart_sum b y a (p ∷ ps) z (inl x) n (inr d) = apart_sum b y a ps x.1.0 x.1.1 n d.1
  apart_sum b y a (p ∷ ps) z (inr x) n (inl d) = inl (d.0, (d.1.0, apart_sum b d.1.0 a ps z x.1 n d.1.1, d.1.2))
  apart_sum b y a (p ∷ ps) z (inr x) n (inr d) = inr (d.0, apart_sum b y a ps z x.1 n d.1)

  apart_each : (A B : Tree → Type 0) (a : Tree) (ps : List Part) (z : ℤ) (e : AddUp (SameTerm ls) a ps z) → ((t : Tree) → (SameTerm ls a t → ⊥) → A t → B t) → EachAtom A ps → EachAtom B (apart a ps z e)
  unfolding apart
  apart_each A B a [] z e f all = tt
  apart_each A B a (p ∷ ps) z (inl x) f all = apart_each A B a ps x.1.0 x.1.1 f all.1
  apart_each A B a (p ∷ ps) z (inr x) f all = (f (p.atom) x.0 all.0, apart_each A B a ps z x.1 f all.1)

  -- ---- without those that are numbers

  atoms_in : (ps : List Part) (z : ℤ) → NumbersAddUp ls ps z → List Part
  atoms_in [] z e = []
  atoms_in (p ∷ ps) z (inl x) = atoms_in ps x.1 x.3
  atoms_in (p ∷ ps) z (inr x) = p ∷ atoms_in ps z x.1

  atoms_kept : (ps : List Part) (z : ℤ) (e : NumbersAddUp ls ps z) → EachAtom (InBranch ls) ps → EachAtom (IsAtom ls) (atoms_in ps z e)
  unfolding atoms_in
  atoms_kept [] z e all = tt
  atoms_kept (p ∷ ps) z (inl x) all = atoms_kept ps x.1 x.3 all.1
  atoms_kept (p ∷ ps) z (inr x) all = (record { there = all.0; none = x.0 }, atoms_kept ps z x.1 all.1)

  atoms_sum : (t : Tree) (y : ℤ) (ps : List Part) (z : ℤ) (e : NumbersAddUp ls ps z) → NoNumber ls t → AddUp (SameTerm ls) t ps y → AddUp (SameTerm ls) t (atoms_in ps z e) y
  unfolding atoms_in
  atoms_sum t y [] z e n d = d
  atoms_sum t y (p ∷ ps) z (inl x) n (inl d) = absurd (n (x.2.tree) x.0 (through d.0 (x.2.same)) (x.2.number))
  atoms_sum t y (p ∷ ps) z (inl x) n (inr d) = atoms_sum t y ps x.1 x.3 n d.1
  atoms_sum t y (p ∷ ps) z (inr x) n (inl d) = inl (d.0, (d.1.0, atoms_sum t d.1.0 ps z x.1 n d.1.1, d.1.2))
  atoms_sum t y (p ∷ ps) z (inr x) n (inr d) = inr (d.0, atoms_sum t y ps z x.1 n d.1)

  numbers_both : (ps qs : List Part) (y z x : ℤ) → NumbersAddUp ls ps y → NumbersAddUp ls qs z → x ≡ y +ℤ z → NumbersAddUp ls (ps ++ qs) x
  numbers_both [] qs y z x d e f = let g : z ≡ x = omega (arith, ints) in subst (NumbersAddUp ls qs) g e
  numbers_both (p ∷ ps) qs y z x (inl d) e f =
      let g = d.4 in
      inl (d.0, d.1 +ℤ z, d.2, numbers_both ps qs d.1 z (d.1 +ℤ z) d.3 e refl, omega (arith, ints))
  numbers_both (p ∷ ps) qs y z x (inr d) e f = inr (d.0, numbers_both ps qs y z x d.1 e f)

  -- ---- the atoms of links

  each_turned : (A : Tree → Type 0) (ps : List Part) → EachAtom A ps → EachAtom A (map turned ps)
  each_turned A [] all = tt
  each_turned A (p ∷ ps) all = (all.0, each_turned A ps all.1)

  each_both : (A : Tree → Type 0) (ps qs : List Part) → EachAtom A ps → EachAtom A qs → EachAtom A (ps ++ qs)
  each_both A [] qs all all' = all'
  each_both A (p ∷ ps) qs all all' = (all.0, each_both A ps qs all.1 all')

  each_mapped : (A B : Tree → Type 0) (ps : List Part) → ((t : Tree) → A t → B t) → EachAtom A ps → EachAtom B ps
  each_mapped A B [] f all = tt
  each_mapped A B (p ∷ ps) f all = (f (p.atom) all.0, each_mapped A B ps f all.1)

  pub says_in_branch : (l : Tree) (f : Lin) → Among l ls → Says l f → EachAtom (InBranch ls) (f.parts)
  says_in_branch l f m s = elim (s.is) [
    | inl e ↦
        let whole_in : InBranch ls (at_most (s.sum) (num (pos 0))) = inl (at_most (s.sum) (num (pos 0)), subst (λ z. Among z ls) e.0 m, as_whole) in
        let there = kid_in_branch ls (at_most (s.sum) (num (pos 0))) (s.sum) refl (inl refl) whole_in in
        subst (λ (g : Lin). EachAtom (InBranch ls) (g.parts)) (sym e.1) (atoms_in_branch ls (s.sum) there)
    | inr e ↦
        let whole_in : InBranch ls (equal (s.sum) (num (pos 0))) = inl (equal (s.sum) (num (pos 0)), subst (λ z. Among z ls) e.0 m, as_whole) in
        let there = kid_in_branch ls (equal (s.sum) (num (pos 0))) (s.sum) refl (inl refl) whole_in in
        let atoms = atoms_in_branch ls (s.sum) there in
        elim e.1 [
          | inl d ↦ subst (λ (g : Lin). EachAtom (InBranch ls) (g.parts)) (sym d) atoms
          | inr d ↦ subst (λ (g : Lin). EachAtom (InBranch ls) (g.parts)) (sym d) (each_turned (InBranch ls) ((written (s.sum)).parts) atoms)
        ]
  ]

  links_in_branch : (ms : List BranchLink) → AreLinks ls ms → EachAtom (InBranch ls) (parts_of ms)
  links_in_branch [] all = tt
  links_in_branch (m ∷ ms) all =
      let first = subst (EachAtom (InBranch ls)) (sym (all.0.parts)) (says_in_branch (m.literal) (all.0.form) (all.0.among) (all.0.says)) in
      each_both (InBranch ls) (m.parts) (parts_of ms) first (links_in_branch ms all.1)

  -- nothing is left of an atom along a chain that comes back
  chain_sum : (m : BranchLink) (ms : List BranchLink) → Chained ls m ms m → (t : Tree) → IsAtom ls t → AddUp (SameTerm ls) t (parts_of (m ∷ ms)) (pos 0)
  chain_sum m [] h t atom = let s = h t atom in chained_sum ls t atom m [] m s.0 s.0 (pos 0) h s.2 s.2 (none (added s.0))
    where
      none : (x : ℤ) → x ≡ pos 0 +ℤ x
      none x = omega (arith, ints)
  chain_sum m (n ∷ ms) h t atom = let s = h.0 t atom in chained_sum ls t atom m (n ∷ ms) m s.0 s.0 (pos 0) h s.2 s.2 (none (added s.0))
    where
      none : (x : ℤ) → x ≡ pos 0 +ℤ x
      none x = omega (arith, ints)

  nothing_left : (ms : List BranchLink) → Refute ls ms → (t : Tree) → IsAtom ls t → AddUp (SameTerm ls) t (parts_of ms) (pos 0)
  nothing_left ms r t atom = elim (r.so) [ inl c ↦ chain ms c | inr s ↦ s.nothing t atom ]
    where
      chain : (ms : List BranchLink) → IsChain ls ms → AddUp (SameTerm ls) t (parts_of ms) (pos 0)
      chain [] c = absurd c
      chain (m ∷ ms) c = chain_sum m ms c.0 t atom

-- ---- values

module _ (w : World) (env : Values) (ls : List Tree) (are : AreTrue w env ls) where
  abbrev V : Tree → ℤ
  V = value w env

  abbrev P : List Part → ℤ
  P = values.parts_value w env

  apart_value : (a : Tree) (ps : List Part) (z : ℤ) (e : AddUp (SameTerm ls) a ps z) → P ps ≡ z *ℤ V a +ℤ P (apart ls a ps z e)
  unfolding apart
  apart_value a [] z e = let m = ap (λ x. x *ℤ V a) e ∙ zero-*ℤ (V a) in omega (arith, ints, m)
  apart_value a (p ∷ ps) z (inl x) =
      let v = apart_value a ps x.1.0 x.1.1 in
      let m = ap (λ y. y *ℤ V a) x.1.2 ∙ sum_times (p.times) x.1.0 (V a) in
      let same : V a ≡ V (p.atom) = ap whole (same_means w env ls are x.0) in
      let q = ap (λ y. p.times *ℤ y) same in
      omega (arith, ints, v, m, q)
  apart_value a (p ∷ ps) z (inr x) = let v = apart_value a ps z x.1 in omega (arith, ints, v)

  -- parts of which nothing is left have value 0
  nothing_value : (n : ℕ) (ps : List Part) → length ps ≤ n → EachAtom (InBranch ls) ps → EachAtom (λ t. AddUp (SameTerm ls) t ps (pos 0)) ps → P ps ≡ pos 0
  nothing_value n [] l there all = refl
  nothing_value zero (p ∷ ps) l there all = absurd (omega arith)
  nothing_value (suc n) (p ∷ ps) l there all = go (λ rest k s v. nothing_value n rest k s v) (all.0)
    where
      left : ((rest : List Part) → length rest ≤ n → EachAtom (InBranch ls) rest → EachAtom (λ t. AddUp (SameTerm ls) t rest (pos 0)) rest → P rest ≡ pos 0) → (x : SameTerm ls (p.atom) (p.atom) × ((y : ℤ) × AddUp (SameTerm ls) (p.atom) ps y × (pos 0 ≡ p.times +ℤ y))) → P (p ∷ ps) ≡ pos 0
      left again x =
          let rest = apart ls (p.atom) ps x.1.0 x.1.1 in
          let so = apart_each ls (λ t. AddUp (SameTerm ls) t (p ∷ ps) (pos 0)) (λ t. AddUp (SameTerm ls) t rest (pos 0)) (p.atom) ps x.1.0 x.1.1 (λ t n d. elim d [ inl e ↦ absurd (n (same_turned e.0)) | inr e ↦ apart_sum ls t (pos 0) (p.atom) ps x.1.0 x.1.1 n e.1 ]) all.1 in
          let in_branch = apart_each ls (InBranch ls) (InBranch ls) (p.atom) ps x.1.0 x.1.1 (λ t n d. d) there.1 in
          let few = apart_fewer ls (p.atom) ps x.1.0 x.1.1 in
          let none = again rest (omega arith) in_branch so in
          let v = apart_value (p.atom) ps x.1.0 x.1.1 in
          let m = sum_times (p.times) x.1.0 (V (p.atom)) in
          let q = ap (λ y. y *ℤ V (p.atom)) x.1.2 in
          let o = zero-*ℤ (V (p.atom)) in
          omega (arith, ints, none, v, m, q, o)

      go : ((rest : List Part) → length rest ≤ n → EachAtom (InBranch ls) rest → EachAtom (λ t. AddUp (SameTerm ls) t rest (pos 0)) rest → P rest ≡ pos 0) → AddUp (SameTerm ls) (p.atom) (p ∷ ps) (pos 0) → P (p ∷ ps) ≡ pos 0
      go again (inl x) = left again x
      go again (inr x) = absurd (x.0 (itself there.0))

  numbers_value : (ps : List Part) (z : ℤ) (e : NumbersAddUp ls ps z) → P ps ≡ z +ℤ P (atoms_in ls ps z e)
  unfolding atoms_in
  numbers_value [] z e = omega (arith, ints)
  numbers_value (p ∷ ps) z (inl x) =
      let v = numbers_value ps x.1 x.3 in
      let same : V (p.atom) ≡ x.0 = ap whole (same_means w env ls are (x.2.same)) ∙ number_value w env (x.2.tree) x.0 (x.2.number) in
      let m = ap (λ y. p.times *ℤ y) same in
      let q = x.4 in
      omega (arith, ints, v, m, q)
  numbers_value (p ∷ ps) z (inr x) = let v = numbers_value ps z x.1 in omega (arith, ints, v)

  -- what a literal says is so
  says_value : (l : Tree) (f : Lin) → Among l ls → Says l f → (P (f.parts) +ℤ f.constant) ≤ℤ pos 0
  says_value l f m s = elim (s.is) [
    | inl e ↦
        let t : int_le (V (s.sum)) (pos 0) ≡ true = are (at_most (s.sum) (num (pos 0))) (subst (λ z. Among z ls) e.0 m) in
        let v = written_value w env (s.sum) in
        let g : P (f.parts) +ℤ f.constant ≡ P ((written (s.sum)).parts) +ℤ (written (s.sum)).constant = ap (λ (g : Lin). P (g.parts) +ℤ g.constant) e.1 in
        omega (arith, ints, t, v, g)
    | inr e ↦
        let t : V (s.sum) ≡ pos 0 = equal_is (V (s.sum)) (pos 0) (are (equal (s.sum) (num (pos 0))) (subst (λ z. Among z ls) e.0 m)) in
        let v = written_value w env (s.sum) in
        elim e.1 [
          | inl d ↦ let g : P (f.parts) +ℤ f.constant ≡ P ((written (s.sum)).parts) +ℤ (written (s.sum)).constant = ap (λ (g : Lin). P (g.parts) +ℤ g.constant) d in omega (arith, ints, t, v, g)
          | inr d ↦
              let g : P (f.parts) +ℤ f.constant ≡ P (map turned ((written (s.sum)).parts)) +ℤ neg_ℤ ((written (s.sum)).constant) = ap (λ (g : Lin). P (g.parts) +ℤ g.constant) d in
              let n = turned_value w env ((written (s.sum)).parts) in
              omega (arith, ints, t, v, g, n)
        ]
  ]

  value_both : (ps qs : List Part) → P (ps ++ qs) ≡ P ps +ℤ P qs
  value_both [] qs = omega (arith, ints)
  value_both (p ∷ ps) qs = let r = value_both ps qs in omega (arith, ints, r)

  -- all parts of some links, with the numbers in them, are at most what the bounds come to
  record Together (ms : List BranchLink) : Type 0 where
    numbers : ℤ
    put : NumbersAddUp ls (parts_of ms) numbers
    most : P (parts_of ms) ≤ℤ (numbers +ℤ bounds_of ms)

  together : (ms : List BranchLink) → AreLinks ls ms → Together ms
  together [] all = record { numbers = pos 0; put = refl; most = omega (arith, ints) }
  together (m ∷ ms) all =
      let r = together ms all.1 in
      let s = says_value (m.literal) (all.0.form) (all.0.among) (all.0.says) in
      let p : P (m.parts) ≡ P (all.0.form.parts) = ap P (all.0.parts) in
      let b = all.0.bound in
      let v = value_both (m.parts) (parts_of ms) in
      let k = r.most in
      record {
        numbers = all.0.numbers +ℤ r.numbers;
        put = numbers_both ls (m.parts) (parts_of ms) (all.0.numbers) (r.numbers) (all.0.numbers +ℤ r.numbers) (all.0.put) (r.put) refl;
        most = bounded (P (all.0.form.parts)) (all.0.form.constant) (P (m.parts)) (m.bound) (all.0.numbers) (P (parts_of ms)) (r.numbers) (bounds_of ms) (P (m.parts ++ parts_of ms)) s p b v k;
      }
    where
      bounded : (f c p b n q r s t : ℤ) → (f +ℤ c) ≤ℤ pos 0 → p ≡ f → b ≡ neg_ℤ (c +ℤ n) → t ≡ p +ℤ q → q ≤ℤ (r +ℤ s) → t ≤ℤ ((n +ℤ r) +ℤ (b +ℤ s))
      bounded f c p b n q r s t h i j k l = omega (arith, ints)

  pub false_where_true : (ms : List BranchLink) → Refute ls ms → ⊥
  false_where_true ms r =
      let all = together ms (r.links) in
      let ps = parts_of ms in
      let rest = atoms_in ls ps (all.numbers) (all.put) in
      let atoms = atoms_kept ls ps (all.numbers) (all.put) (links_in_branch ls ms (r.links)) in
      let none = each_mapped ls (IsAtom ls) (λ t. AddUp (SameTerm ls) t rest (pos 0)) rest (λ t atom. atoms_sum ls t (pos 0) ps (all.numbers) (all.put) (atom.none) (nothing_left ls ms r t atom)) atoms in
      let there = each_mapped ls (IsAtom ls) (InBranch ls) rest (λ t atom. atom.there) atoms in
      let zero_value = nothing_value (length rest) rest (omega arith) there none in
      let v = numbers_value ps (all.numbers) (all.put) in
      contradiction (P ps) (all.numbers) (P rest) (bounds_of ms) v zero_value (all.most) (r.negative)
    where
      contradiction : (p n q b : ℤ) → p ≡ n +ℤ q → q ≡ pos 0 → p ≤ℤ (n +ℤ b) → b <ℤ pos 0 → ⊥
      contradiction p n q b h i j k = absurd (omega (arith, ints))

pub refuted_is_false : RefutedIsFalse
refuted_is_false w env ls r are = false_where_true w env ls are r.0 r.1
