-- What is so of the tree at a place of a list.
use Rattle.std.proofs.Common.{◌≡◌, ℕ, zero, suc, ◌<◌, List, [], ◌∷◌, map, length, get_or, refl, sym, subst, inl, inr, arith}
use Rattle.qed_terms.specs.Tree.{Tree}
use Rattle.same_terms.specs.SameTerms.{Among}
use Rattle.clashes.specs.Kinds.{OneSo}

pub found_at : (so : Tree → Type 0) (f : ℕ → Tree) (ks : List ℕ) (i : ℕ) → i < length ks → so (f (get_or ks i 0)) → OneSo so (map f ks)
found_at so f [] i l s = absurd (omega arith)
found_at so f (k ∷ ks) zero l s = (f k, inl refl, s)
found_at so f (k ∷ ks) (suc i) l s = let r = found_at so f ks i (omega arith) s in (r.0, inr r.1, r.2)

pub none_at : (so : Tree → Type 0) (f : ℕ → Tree) (ks : List ℕ) → ((i : ℕ) → i < length ks → so (f (get_or ks i 0)) → ⊥) → OneSo so (map f ks) → ⊥
none_at so f [] none o = absurd o.1
none_at so f (k ∷ ks) none o = elim o.1 [ inl e ↦ none 0 (omega arith) (subst so e o.2) | inr m ↦ none_at so f ks (λ i l s. none (suc i) (omega arith) s) (o.0, m, o.2) ]

pub among_at : (f : ℕ → Tree) (ks : List ℕ) (i : ℕ) → i < length ks → Among (f (get_or ks i 0)) (map f ks)
among_at f [] i l = absurd (omega arith)
among_at f (k ∷ ks) zero l = inl refl
among_at f (k ∷ ks) (suc i) l = inr (among_at f ks i (omega arith))

-- a tree of a list stands at a place
pub place_among : (f : ℕ → Tree) (ks : List ℕ) (t : Tree) → Among t (map f ks) → (i : ℕ) × (i < length ks) × (f (get_or ks i 0) ≡ t)
place_among f [] t m = absurd m
place_among f (k ∷ ks) t m = elim m [ inl e ↦ (0, omega arith, sym e) | inr r ↦ let q = place_among f ks t r in (suc q.0, (let l = q.1 in omega arith), q.2) ]

pub same_default : {A : Type 0} (xs : List A) (i : ℕ) (d e : A) → i < length xs → get_or xs i d ≡ get_or xs i e
same_default [] i d e l = absurd (omega arith)
same_default (x ∷ xs) zero d e l = refl
same_default (x ∷ xs) (suc i) d e l = same_default xs i d e (omega arith)
