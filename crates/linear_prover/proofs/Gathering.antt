-- The links of literals, one literal after the other.
use Rattle.std.proofs.Common.{◌≡◌, ◌⊎◌, ℕ, zero, suc, ◌+◌, List, [], ◌∷◌, ◌++◌, map, length, refl, sym, ◌∙◌, ap, inl, inr, arith, ◌<◌, ◌≤◌, get_or, take, subst}
use Rattle.std.specs.Prelude.{Some, slice_get}
use Rattle.std.proofs.lemmas.List.{length-append, length-map, map_push, take_more}
use Rattle.qed_terms.specs.Tree.{Tree}
use Rattle.linear_chains.specs.Links.{Link}
use Rattle.same_terms.specs.SameTerms.{Among}
use Rattle.branch_links.specs.Numbered.{StandForAll}
use Rattle.linear_prover.specs.LiteralLinks.{LinksOf, Gathered, beside}

get_front : {A : Type 0} (xs ys : List A) (k : ℕ) (x : A) → slice_get xs k ≡ Some x → slice_get (xs ++ ys) k ≡ Some x
get_front [] ys k x e = absurd cc
get_front (z ∷ xs) ys zero x e = e
get_front (z ∷ xs) ys (suc k) x e = get_front xs ys k x e

get_behind : {A : Type 0} (xs ys : List A) (k : ℕ) (x : A) → slice_get ys k ≡ Some x → slice_get (xs ++ ys) (length xs + k) ≡ Some x
get_behind [] ys k x e = let n : 0 + k ≡ k = omega arith in ap (slice_get ys) n ∙ e
get_behind (z ∷ xs) ys k x e = let n : suc (length xs) + k ≡ suc (length xs + k) = omega arith in ap (slice_get (z ∷ (xs ++ ys))) n ∙ get_behind xs ys k x e

get_either : {A : Type 0} (xs ys : List A) (k : ℕ) (x : A) → slice_get (xs ++ ys) k ≡ Some x → (slice_get xs k ≡ Some x) ⊎ ((m : ℕ) × (k ≡ length xs + m) × (slice_get ys m ≡ Some x))
get_either [] ys k x e = inr (k, omega arith, e)
get_either (z ∷ xs) ys zero x e = inl e
get_either (z ∷ xs) ys (suc k) x e = elim (get_either xs ys k x e) [ inl a ↦ inl a | inr b ↦ inr (b.0, (let f = b.1 in omega arith), b.2) ]

get_mapped : {A B : Type 0} (f : A → B) (xs : List A) (k : ℕ) (x : A) → slice_get xs k ≡ Some x → slice_get (map f xs) k ≡ Some (f x)
get_mapped f [] k x e = absurd cc
get_mapped f (y ∷ xs) zero x e = let d : y ≡ x = cc in ap (λ z. Some (f z)) d
get_mapped f (y ∷ xs) (suc k) x e = get_mapped f xs k x e

among_either : (t u : Tree) (ts : List Tree) → Among t (ts ++ u ∷ []) → Among t ts ⊎ (t ≡ u)
among_either t u [] h = elim h [ inl e ↦ inr e | inr n ↦ absurd n ]
among_either t u (v ∷ ts) h = elim h [
  | inl e ↦ inl (inl e)
  | inr r ↦ elim (among_either t u ts r) [ inl a ↦ inl (inr a) | inr e ↦ inr e ]
]

module _ (ls : List Tree) (count : ℕ) (tree : ℕ → Tree) (class : ℕ → ℕ) where
  pub gathered_none : Gathered ls count tree class [] [] []
  gathered_none = record { long = refl; each = λ k l e. absurd cc; every = λ m is a. absurd a }

  pub gathered_more : (done : List Tree) (links new : List Link) (literals : List Tree) (t : Tree) → Gathered ls count tree class done links literals → LinksOf ls count tree class t new → Gathered ls count tree class (done ++ t ∷ []) (links ++ new) (literals ++ map (λ (l : Link). t) new)
  gathered_more done links new literals t g n = record {
    long = let a = g.long in let b = length-append literals (map (λ (l : Link). t) new) in let c = length-append links new in let d = length-map new (λ (l : Link). t) in omega arith;
    each = λ k l e. elim (get_either links new k l e) [
      | inl old ↦ let r = g.each k l old in (r.0, r.1, r.2, get_front literals (map (λ (l : Link). t) new) k (r.0.literal) r.3)
      | inr now ↦
          let r = n.each now.0 l now.2 in
          let at : k ≡ length literals + now.0 = let a = g.long in let b = now.1 in omega arith in
          let there = get_behind literals (map (λ (l : Link). t) new) now.0 t (get_mapped (λ (l : Link). t) new now.0 l now.2) in
          (r.0, r.1, r.2, ap (slice_get (literals ++ map (λ (l : Link). t) new)) at ∙ there ∙ ap Some (sym r.3))
    ];
    every = λ m is a. elim (among_either (m.literal) t done a) [
      | inl old ↦ let r = g.every m is old in (r.0, r.1, get_front links new r.0 r.1 r.2, r.3)
      | inr e ↦ let r = n.every m is e in (length links + r.0, r.1, get_behind links new r.0 r.1 r.2, r.3)
    ];
  }

  pub gathered_all : (links : List Link) (literals : List Tree) → Gathered ls count tree class ls links literals → StandForAll ls count tree class links literals
  gathered_all links literals g = record {
    each = g.each;
    every = λ m is. g.every m is (is.among);
  }

-- ---- literals at places of a table

pub among_at : (tree : ℕ → Tree) (ks : List ℕ) (i : ℕ) → i < length ks → Among (tree (get_or ks i 0)) (map tree ks)
among_at tree [] i l = absurd (omega arith)
among_at tree (k ∷ ks) zero l = inl refl
among_at tree (k ∷ ks) (suc i) l = inr (among_at tree ks i (omega arith))

mapped_beside : (tree : ℕ → Tree) (literals : List ℕ) (k : ℕ) (new : List Link) → map tree (literals ++ map (beside k) new) ≡ map tree literals ++ map (λ (l : Link). tree k) new
mapped_beside tree [] k [] = refl
mapped_beside tree [] k (l ∷ new) = ap (λ ts. tree k ∷ ts) (mapped_beside tree [] k new)
mapped_beside tree (m ∷ literals) k new = ap (λ ts. tree m ∷ ts) (mapped_beside tree literals k new)

module _ (ls : List Tree) (count : ℕ) (tree : ℕ → Tree) (class : ℕ → ℕ) (ks : List ℕ) where
  pub gathered_next : (i : ℕ) (links new links' : List Link) (literals literals' : List ℕ) → i < length ks → Gathered ls count tree class (map tree (take i ks)) links (map tree literals) → LinksOf ls count tree class (tree (get_or ks i 0)) new → links' ≡ links ++ new → literals' ≡ literals ++ map (beside (get_or ks i 0)) new →
      Gathered ls count tree class (map tree (take (i + 1) ks)) links' (map tree literals')
  gathered_next i links new links' literals literals' l g n e d =
      let k = get_or ks i 0 in
      let more = gathered_more ls count tree class (map tree (take i ks)) links new (map tree literals) (tree k) g n in
      let done = ap (map tree) (take_more ks i 0 l) ∙ map_push tree (take i ks) k in
      let texts = ap (map tree) d ∙ mapped_beside tree literals k new in
      subst (λ ts. Gathered ls count tree class ts links' (map tree literals')) (sym done) (subst (λ xs. Gathered ls count tree class (map tree (take i ks) ++ tree k ∷ []) xs (map tree literals')) (sym e) (subst (Gathered ls count tree class (map tree (take i ks) ++ tree k ∷ []) (links ++ new)) (sym texts) more))

  pub gathered_end : (i : ℕ) (links : List Link) (literals : List ℕ) → length ks ≤ i → Gathered ls count tree class (map tree (take i ks)) links (map tree literals) → ls ≡ map tree ks → StandForAll ls count tree class links (map tree literals)
  gathered_end i links literals l g e = gathered_all ls count tree class links (map tree literals) (subst (λ ts. Gathered ls count tree class ts links (map tree literals)) (ap (map tree) (take_whole ks i l) ∙ sym e) g)
    where
      take_whole : (xs : List ℕ) (n : ℕ) → length xs ≤ n → take n xs ≡ xs
      take_whole [] zero l = refl
      take_whole [] (suc n) l = refl
      take_whole (x ∷ xs) zero l = absurd (omega arith)
      take_whole (x ∷ xs) (suc n) l = ap (λ ys. x ∷ ys) (take_whole xs n (omega arith))
