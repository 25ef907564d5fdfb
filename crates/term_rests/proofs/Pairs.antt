-- The pairs of a form, one part after the other.
use Rattle.std.proofs.Common.{◌≡◌, ◌⊎◌, ℕ, zero, suc, ◌+◌, ◌<◌, ◌==◌, Bool, true, false, List, [], ◌∷◌, ◌++◌, length, take, drop, refl, sym, ◌∙◌, ap, subst, inl, inr, arith}
use Rattle.std.specs.Prelude.{pos, Option, Some, None, slice_get}
use Rattle.std.proofs.lemmas.List.Elements.{All-head, All-tail, All-take, All-drop, All-append}
use Rattle.qed_terms.specs.Tree.{Tree, head_of}
use Rattle.qed_linear.specs.Linear.{Lin, part, of_lin, checked, is_integer}
use Rattle.same_places.specs.Same.{Part, Pairs, PartsWithin}
use Rattle.same_terms.specs.SameTerms.{unit_times}
use Rattle.same_terms.specs.Stands.{tree_parts}
use Rattle.same_terms.specs.Written.{rest_form}
use Rattle.tree_places.specs.Tables.{Node, trees_in, tree_at, Grows}
use Rattle.tree_places.proofs.Nodes.{older, grows_long, get_front, get_end}
use Rattle.term_forms.specs.declared.forms.Form.{Form}
use Rattle.term_rests.specs.Rests.{part_at, rest_at, HasRest, IsPairAt, ArePairs, with_pair}

get_last : {A : Type 0} (xs : List A) (y : A) (i : ℕ) (x : A) → slice_get (xs ++ y ∷ []) i ≡ Some x → (slice_get xs i ≡ Some x) ⊎ (y ≡ x)
get_last [] y zero x e = inr cc
get_last [] y (suc i) x e = absurd cc
get_last (z ∷ xs) y zero x e = inl e
get_last (z ∷ xs) y (suc i) x e = get_last xs y i x e

next_or : (n k : ℕ) → k < n + 1 → (k ≡ n) ⊎ (k < n)
next_or n k l = go (k == n) refl
  where
    go : (b : Bool) → (k == n) ≡ b → (k ≡ n) ⊎ (k < n)
    go true e = inl (grind (arith, e))
    go false e = inr (grind (arith, e, l))

-- ---- a table that has grown has the same rests

same_parts : (tree tree' : ℕ → Tree) (count : ℕ) → ((k : ℕ) → k < count → tree' k ≡ tree k) → (ps : List Part) → PartsWithin count ps → tree_parts tree' ps ≡ tree_parts tree ps
same_parts tree tree' count same [] w = refl
same_parts tree tree' count same (p ∷ ps) w =
    let first = same (p.0) (All-head (λ q. q.0 < count) p ps w) in
    let rest = same_parts tree tree' count same ps (All-tail (λ q. q.0 < count) p ps w) in
    λ i. part (first i) (p.1) ∷ rest i

module _ (tree tree' : ℕ → Tree) (count : ℕ) (same : (k : ℕ) → k < count → tree' k ≡ tree k) (f : Form) (within : PartsWithin count (f.parts.items)) where
  rest_same : (at : ℕ) (plus : Bool) → rest_at tree' f at plus ≡ rest_at tree f at plus
  rest_same at plus =
      let items = f.parts.items in
      let w = All-append (λ (q : Part). q.0 < count) (take at items) (drop (at + 1) items) (All-take (λ (q : Part). q.0 < count) at items within) (All-drop (λ (q : Part). q.0 < count) (at + 1) items within) in
      ap (λ ps. rest_form plus ps (f.constant)) (same_parts tree tree' count same (take at items ++ drop (at + 1) items) w)

  pub has_older : (at : ℕ) (form : Lin) → at < length (f.parts.items) → HasRest tree' f at form → HasRest tree f at form
  has_older at form l h =
      let atom = same ((part_at f at).0) (within at (0, pos 0) l) in
      record { plus = h.plus; unit = h.unit; integer = ap (λ t. is_integer (head_of t)) (sym atom) ∙ h.integer; fits = ap checked (sym (rest_same at (h.plus))) ∙ h.fits }

  pub has_newer : (at : ℕ) (form : Lin) → at < length (f.parts.items) → HasRest tree f at form → HasRest tree' f at form
  has_newer at form l h =
      let atom = same ((part_at f at).0) (within at (0, pos 0) l) in
      record { plus = h.plus; unit = h.unit; integer = ap (λ t. is_integer (head_of t)) atom ∙ h.integer; fits = ap checked (rest_same at (h.plus)) ∙ h.fits }

-- ---- one part more

module _ (first ns ms : List Node) (all : length (trees_in first) ≡ length first) (all' : length (trees_in ns) ≡ length ns) (g : Grows first ns) (h : Grows ns ms) (f : Form) (within : PartsWithin (length first) (f.parts.items)) where
  same_first : (k : ℕ) → k < length first → tree_at ns k ≡ tree_at first k
  same_first k l = older first ns all g k l

  same_next : (k : ℕ) → k < length ns → tree_at ms k ≡ tree_at ns k
  same_next k l = older ns ms all' h k l

  module _ (n : ℕ) (pairs : Pairs) (n_below : n < length (f.parts.items)) (so_far : ArePairs (length ns) (tree_at first) (tree_at ns) f n pairs) where
    kept_each : (k i j : ℕ) → slice_get pairs k ≡ Some (i, j) → (at : ℕ) × (form : Lin) × (at < n + 1) × HasRest (tree_at first) f at form × (i ≡ (part_at f at).0) × (j < length ms) × (tree_at ms j ≡ of_lin form)
    kept_each k i j e =
        let r = so_far.each k i j e in
        let m = grows_long ns ms h in
        (r.0, r.1, (let l = r.2 in omega arith), r.3, r.4, (let l = r.5 in omega arith), same_next j r.5 ∙ r.6)

    pub pairs_more : (o : Option (ℕ × ℕ)) → IsPairAt (length ms) (tree_at ns) (tree_at ms) f n o → ArePairs (length ms) (tree_at first) (tree_at ms) f (n + 1) (with_pair pairs o)
    pairs_more None none = record {
      each = kept_each;
      every = λ at form l r. elim (next_or n at l) [
        | inl e ↦ absurd (none form (subst (λ z. HasRest (tree_at ns) f z form) e (has_newer (tree_at first) (tree_at ns) (length first) same_first f within at form (omega arith) r)))
        | inr b ↦ let v = so_far.every at form b r in let w = so_far.each v.0 ((part_at f at).0) v.1 v.2 in (v.0, v.1, v.2, same_next v.1 w.5 ∙ v.3)
      ];
    }
    pairs_more (Some p) some = record {
      each = λ k i j e. elim (get_last pairs p k (i, j) e) [
        | inl old ↦ kept_each k i j old
        | inr new ↦
            let a : p.0 ≡ i = ap (λ (z : ℕ × ℕ). z.0) new in
            let b : p.1 ≡ j = ap (λ (z : ℕ × ℕ). z.1) new in (
              n,
              some.0,
              omega arith,
              has_older (tree_at first) (tree_at ns) (length first) same_first f within n some.0 n_below some.1,
              sym a ∙ some.2,
              subst (λ z. z < length ms) b some.3,
              ap (tree_at ms) (sym b) ∙ some.4,
            )
      ];
      every = λ at form l r. elim (next_or n at l) [
        | inl e ↦
            let r' = subst (λ z. HasRest (tree_at ns) f z form) e (has_newer (tree_at first) (tree_at ns) (length first) same_first f within at form (omega arith) r) in
            let one : some.0 ≡ form = one_rest n some.0 form some.1 r' in
            (length pairs, p.1, get_end pairs p ∙ ap (λ z. Some (z, p.1)) (some.2 ∙ ap (λ z. (part_at f z).0) (sym e)), some.4 ∙ ap of_lin one)
        | inr b ↦ let v = so_far.every at form b r in let w = so_far.each v.0 ((part_at f at).0) v.1 v.2 in (v.0, v.1, get_front pairs (p ∷ []) v.0 ((part_at f at).0, v.1) v.2, same_next v.1 w.5 ∙ v.3)
      ];
    }
      where
        signs : (a b : Bool) → unit_times a ≡ unit_times b → a ≡ b
        signs true true e = refl
        signs false false e = refl
        signs true false e = absurd cc
        signs false true e = absurd cc

        one_rest : (at : ℕ) (x y : Lin) → HasRest (tree_at ns) f at x → HasRest (tree_at ns) f at y → x ≡ y
        one_rest at x y a b =
            let s = signs (a.plus) (b.plus) (sym (a.unit) ∙ b.unit) in
            let d : Some x ≡ Some y = sym (a.fits) ∙ ap (λ z. checked (rest_at (tree_at ns) f at z)) s ∙ b.fits in
            cc
