-- Joining tables, in the words of the code.
use Rattle.std.proofs.Common.{◌≡◌, ◌≤◌, ◌<◌, ℕ, zero, suc, ◌+◌, Bool, true, false, cond, List, [], ◌∷◌, ◌++◌, map, take, drop, length, get_or, refl, sym, ap, ◌∙◌, arith}
use Rattle.std.proofs.lemmas.List.{at_drop_more, at_drop_all, take-map}
use Rattle.qed_terms.specs.Tree.{Tree}
use Rattle.qed_terms.specs.View.{term_tree}
use Rattle.memory_steps.specs.Forms.{Mark}
use Rattle.memory_steps.specs.Join.{same_mark, common, last_table}
use Rattle.memory_worlds.specs.declared.worlds.Mark as memory
use Rattle.memory_worlds.specs.View.{view_mark}

-- ---- the points that both have passed

abbrev passed : List Mark → List Mark → ℕ
passed ps qs = length (common ps qs)

common_cut : (ps qs : List Mark) → common ps qs ≡ take (passed ps qs) ps
common_cut [] qs = refl
common_cut (p ∷ ps) [] = refl
common_cut (p ∷ ps) (q ∷ qs) = by (same_mark p q) (common_cut ps qs)
  where
    by : (b : Bool) → common ps qs ≡ take (passed ps qs) ps → cond b (p ∷ common ps qs) [] ≡ take (length (cond b (p ∷ common ps qs) [])) (p ∷ ps)
    by true h = ap (λ rs. p ∷ rs) h
    by false h = refl

pub common_at : (ms ns : List memory.Mark) (qs : List Mark) (n : ℕ) → n ≡ length (common (map view_mark ms) qs) → ns ≡ take n ms → map view_mark ns ≡ common (map view_mark ms) qs
common_at ms ns qs n e h =
    ap (map view_mark) h ∙ sym (take-map view_mark n ms) ∙ ap (λ k. take k (map view_mark ms)) e ∙ sym (common_cut (map view_mark ms) qs)

passed_cons : (p q : Mark) (ps qs : List Mark) → passed (p ∷ ps) (q ∷ qs) ≡ cond (same_mark p q) (suc (passed ps qs)) 0
passed_cons p q ps qs = by (same_mark p q)
  where
    by : (b : Bool) → length (cond b (p ∷ common ps qs) []) ≡ cond b (suc (passed ps qs)) 0
    by true = refl
    by false = refl

-- one step of the count
pub passed_more : (ms ns : List memory.Mark) (i : ℕ) (p q : memory.Mark) (b : Bool) → i < length ms → i < length ns → p ≡ get_or ms i p → q ≡ get_or ns i q → b ≡ same_mark (view_mark p) (view_mark q)
    → passed (map view_mark (drop i ms)) (map view_mark (drop i ns)) ≡ cond b (suc (passed (map view_mark (drop (i + 1) ms)) (map view_mark (drop (i + 1) ns)))) 0
passed_more ms ns i p q b lt lu e d s =
    let rest = map view_mark (drop (i + 1) ms) in
    let others = map view_mark (drop (i + 1) ns) in
    at_drop_more (λ xs. passed (map view_mark xs) (map view_mark (drop i ns))) ms i p lt
    ∙ at_drop_more (λ ys. passed (view_mark (get_or ms i p) ∷ rest) (map view_mark ys)) ns i q lu
    ∙ passed_cons (view_mark (get_or ms i p)) (view_mark (get_or ns i q)) rest others
    ∙ ap (λ t. cond t (suc (passed rest others)) 0) ((λ j. same_mark (view_mark (sym e j)) (view_mark (sym d j))) ∙ sym s)

pub passed_left : (ms ns : List memory.Mark) (i : ℕ) → length ms ≤ i → passed (map view_mark (drop i ms)) (map view_mark (drop i ns)) ≡ 0
passed_left ms ns i le = at_drop_all (λ xs. passed (map view_mark xs) (map view_mark (drop i ns))) ms i le

nowhere : (ps : List Mark) → passed ps [] ≡ 0
nowhere [] = refl
nowhere (p ∷ ps) = refl

pub passed_right : (ms ns : List memory.Mark) (i : ℕ) → length ns ≤ i → passed (map view_mark (drop i ms)) (map view_mark (drop i ns)) ≡ 0
passed_right ms ns i le = at_drop_all (λ ys. passed (map view_mark (drop i ms)) (map view_mark ys)) ns i le ∙ nowhere (map view_mark (drop i ms))

-- ---- the table of the last one

pub last_none : (t : Tree) (ms : List memory.Mark) → length ms ≡ 0 → t ≡ last_table t (map view_mark ms)
last_none t [] h = refl
last_none t (m ∷ ms) h = absurd (omega (arith, h))

last_pushed : (t : Tree) (ms : List memory.Mark) (m : memory.Mark) → term_tree m.table ≡ last_table t (map view_mark (ms ++ m ∷ []))
last_pushed t [] m = refl
last_pushed t (n ∷ ms) m = last_pushed (term_tree n.table) ms m

pub last_some : (t : Tree) (ms : List memory.Mark) (i : ℕ) (m : memory.Mark) → length ms ≡ i + 1 → m ≡ get_or ms i m → term_tree m.table ≡ last_table t (map view_mark ms)
last_some t [] i m h e = absurd (omega (arith, h))
last_some t (n ∷ []) zero m h e = ap (λ (x : memory.Mark). term_tree x.table) e
last_some t (n ∷ []) (suc i) m h e = absurd (omega (arith, h))
last_some t (n ∷ k ∷ ms) zero m h e = absurd (omega (arith, h))
last_some t (n ∷ k ∷ ms) (suc i) m h e = last_some (term_tree n.table) (k ∷ ms) i m (omega (arith, h)) e
