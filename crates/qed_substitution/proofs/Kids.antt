-- What is free in the kids of a node, and whether they are clear, from a place on.
use Rattle.std.proofs.Common.{◌≡◌, ℕ, ◌+◌, ◌<◌, ◌≤◌, Bool, true, false, ◌&&◌, ◌||◌, List, length, drop, get_or, drop_of_length-le, refl, sym, ◌∙◌, ap}
use Rattle.qed_terms.specs.declared.head.Sort.TheVariants as sort
use Rattle.qed_terms.specs.Free.{is_free, free_among}
use Rattle.qed_terms.specs.Nodes.{kids_of}
use Rattle.qed_terms.specs.Tree.{Tree, Trees, stop, more, trees_of, kids_in, true_tree}
use Rattle.qed_terms.proofs.Lists.{trees_of-list_of}
use Rattle.qed_terms.proofs.Places.{drop_at}
use Rattle.qed_substitution.specs.Substitution.{is_clear, are_clear}
use Rattle.qed_substitution.proofs.Booleans.{or_assoc, or_unit}

-- in the first of them, or in the rest
pub free_first : (y : List ℕ) (t : Tree) (ts : Trees) → free_among false y sort.Int (more t ts) ≡ is_free y sort.Int t || free_among false y sort.Int ts
free_first y t stop = sym (or_unit (is_free y sort.Int t))
free_first y t (more u stop) = refl
free_first y t (more u (more v stop)) = or_unit _ ∙ or_assoc (is_free y sort.Int t) (is_free y sort.Int u) (is_free y sort.Int v)
free_first y t (more u (more v (more w ts))) =
    let a = is_free y sort.Int t in
    let b = is_free y sort.Int u in
    let c = is_free y sort.Int v in
    ap (λ r. ((a || b) || c) || r) (free_first y w ts) ∙ turned a b c (is_free y sort.Int w) (free_among false y sort.Int ts)
  where
    turned : (a b c d r : Bool) → ((a || b) || c) || (d || r) ≡ a || (((b || c) || d) || r)
    turned true b c d r = refl
    turned false true c d r = refl
    turned false false true d r = refl
    turned false false false d r = refl

-- ---- from a place on

abbrev pub FreeFrom : List ℕ → Tree → ℕ → Bool
FreeFrom x t i = free_among false x sort.Int (trees_of (drop i (kids_of t)))

abbrev pub ClearFrom : Bool → List ℕ → Tree → Tree → ℕ → Bool
ClearFrom under x u t i = are_clear under x u (trees_of (drop i (kids_of t)))

pub free_start : (x : List ℕ) (t : Tree) → free_among false x sort.Int (kids_in t) ≡ FreeFrom x t 0
free_start x t = ap (free_among false x sort.Int) (sym (trees_of-list_of (kids_in t)))

pub clear_start : (under : Bool) (x : List ℕ) (u t : Tree) → are_clear under x u (kids_in t) ≡ ClearFrom under x u t 0
clear_start under x u t = ap (are_clear under x u) (sym (trees_of-list_of (kids_in t)))

pub free_next : (x : List ℕ) (t k : Tree) (i : ℕ) (b : Bool) → i < length (kids_of t) → k ≡ get_or (kids_of t) i true_tree → b ≡ is_free x sort.Int k → FreeFrom x t i ≡ b || FreeFrom x t (i + 1)
free_next x t k i b l e f =
    ap (λ ts. free_among false x sort.Int (trees_of ts)) (drop_at (kids_of t) i true_tree l) ∙ free_first x (get_or (kids_of t) i true_tree) (trees_of (drop (i + 1) (kids_of t)))
    ∙ ap (λ c. c || FreeFrom x t (i + 1)) (sym (f ∙ ap (is_free x sort.Int) e))

pub clear_next : (under : Bool) (x : List ℕ) (u t k : Tree) (i : ℕ) (b : Bool) → i < length (kids_of t) → k ≡ get_or (kids_of t) i true_tree → b ≡ is_clear under x u k → ClearFrom under x u t i ≡ b && ClearFrom under x u t (i + 1)
clear_next under x u t k i b l e f =
    ap (λ ts. are_clear under x u (trees_of ts)) (drop_at (kids_of t) i true_tree l) ∙ ap (λ c. c && ClearFrom under x u t (i + 1)) (sym (f ∙ ap (is_clear under x u) e))

pub free_end : (x : List ℕ) (t : Tree) (i : ℕ) → length (kids_of t) ≤ i → FreeFrom x t i ≡ false
free_end x t i l = ap (λ ts. free_among false x sort.Int (trees_of ts)) (drop_of_length-le (kids_of t) l)

pub clear_end : (under : Bool) (x : List ℕ) (u t : Tree) (i : ℕ) → length (kids_of t) ≤ i → ClearFrom under x u t i ≡ true
clear_end under x u t i l = ap (λ ts. are_clear under x u (trees_of ts)) (drop_of_length-le (kids_of t) l)
