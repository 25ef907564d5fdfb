-- Rows at one node after the other.
use Rattle.std.proofs.Common.{◌≡◌, ℕ, zero, suc, ◌+◌, ◌<◌, ◌≤◌, List, [], ◌∷◌, ◌++◌, map, take, length, get_or, All, refl, sym, ◌∙◌, ap, subst, append_assoc, arith}
use Rattle.std.proofs.lemmas.List.{map_push, take_all}
use Rattle.qed_terms.specs.Tree.{Tree}
use Rattle.term_sketches.specs.declared.sketch.Sketch.{Sketch}
use Rattle.term_sketches.specs.Sketches.{sketch_tree, slots}
use Rattle.instance_rows.specs.Rows.{Row}
use Rattle.instance_rows.specs.Occurrences.{at_each}
use Rattle.drawn_instances.specs.Drawn.{AreDrawn, row_at}

-- ---- one node

pub drawn_held : {Id : Type 0} (held : Id → Type 0) (tree : Id → Tree) (ids slice : List Id) (sketches : List Sketch) (fs : List Tree)
    → AreDrawn held tree ids sketches fs → slice ≡ ids → All held slice
drawn_held held tree ids slice sketches fs d e = subst (All held) (sym e) d.ids_held

pub drawn_behind : {Id : Type 0} (held : Id → Type 0) (tree : Id → Tree) (ids slice : List Id) (sketches : List Sketch) (fs before there : List Tree)
    → AreDrawn held tree ids sketches fs → slice ≡ ids → there ≡ before ++ map (sketch_tree (slots (map tree slice))) sketches → there ≡ before ++ fs
drawn_behind held tree ids slice sketches fs before there d e f =
    f ∙ ap (λ is. before ++ map (sketch_tree (slots (map tree is))) sketches) e ∙ ap (λ gs. before ++ gs) d.drawn

pub ruleset at_one_laws = (drawn_held, drawn_behind)

-- ---- one more

take_one : {A : Type 0} (xs : List A) (i : ℕ) (x : A) → i < length xs → x ≡ get_or xs i x → take (i + 1) xs ≡ take i xs ++ x ∷ []
take_one xs i x k e = let m : i + 1 ≡ suc i = omega arith in ap (λ n. take n xs) m ∙ go xs i k ∙ ap (λ y. take i xs ++ y ∷ []) (sym e)
  where
    go : (ys : List _) (j : ℕ) → j < length ys → take (suc j) ys ≡ take j ys ++ get_or ys j x ∷ []
    go [] j k = absurd (omega arith)
    go (y ∷ ys) zero k = refl
    go (y ∷ ys) (suc j) k = ap (λ zs. y ∷ zs) (go ys j (omega arith))

at_each-append : (row : Row) (ts us : List Tree) → at_each row (ts ++ us) ≡ at_each row ts ++ at_each row us
unfolding row_at
at_each-append row [] us = refl
at_each-append row (t ∷ ts) us = ap (λ fs. row_at row t ++ fs) (at_each-append row ts us) ∙ sym (append_assoc (row_at row t) (at_each row ts) (at_each row us))

nil_behind : (fs : List Tree) → fs ++ [] ≡ fs
nil_behind [] = refl
nil_behind (f ∷ fs) = ap (λ gs. f ∷ gs) (nil_behind fs)

at_each-push : (row : Row) (ts : List Tree) (t : Tree) → at_each row (ts ++ t ∷ []) ≡ at_each row ts ++ row_at row t
unfolding row_at
at_each-push row ts t = at_each-append row ts (t ∷ []) ∙ ap (λ fs. at_each row ts ++ fs) (nil_behind (row_at row t))

pub each_more : {Id : Type 0} (tree : Id → Tree) (row : Row) (nodes : List Id) (i : ℕ) (node : Id) (before there there' : List Tree) (t : Tree)
    → i < length nodes → node ≡ get_or nodes i node → t ≡ tree node → there ≡ before ++ at_each row (map tree (take i nodes)) → there' ≡ there ++ row_at row t
    → there' ≡ before ++ at_each row (map tree (take (i + 1) nodes))
unfolding row_at
each_more tree row nodes i node before there there' t k e s f g =
    g ∙ ap (λ fs. fs ++ row_at row t) f ∙ append_assoc before (at_each row (map tree (take i nodes))) (row_at row t)
    ∙ ap (λ u. before ++ (at_each row (map tree (take i nodes)) ++ row_at row u)) s
    ∙ ap (λ fs. before ++ fs)
    (sym (at_each-push row (map tree (take i nodes)) (tree node)) ∙ ap (at_each row) (sym (map_push tree (take i nodes) node) ∙ ap (map tree) (sym (take_one nodes i node k e))))

pub each_done : {Id : Type 0} (tree : Id → Tree) (row : Row) (nodes : List Id) (i : ℕ) (before there : List Tree)
    → there ≡ before ++ at_each row (map tree (take i nodes)) → length nodes ≤ i → there ≡ before ++ at_each row (map tree nodes)
each_done tree row nodes i before there f k = f ∙ ap (λ is. before ++ at_each row (map tree is)) (take_all i nodes k)

-- at the first node
pub none_yet : {Id : Type 0} (tree : Id → Tree) (row : Row) (nodes : List Id) (before : List Tree) → before ≡ before ++ at_each row (map tree (take 0 nodes))
none_yet tree row nodes before = sym (nil_behind before)
