-- What the row at a remainder, a shift and common bits gives, by what is seen.
use Rattle.std.proofs.Common.{◌≡◌, ℕ, ◌*◌, ◌%◌, ◌^◌, ◌<◌, ◌≤◌, Bool, true, false, ◌&&◌, int_le, ◌≤ℤ◌, ◌<ℤ◌, ℤ, pos, List, [], ◌∷◌, refl, sym, ◌∙◌, ap, subst, arith}
use Rattle.std.specs.Prelude.{Option, Some, None, if◌then◌else◌}
use Rattle.std.proofs.Math.Nat.{mod-eq_of_lt}
use Rattle.std.proofs.Math.Pow.{pow-lt, pow_mono}
use Rattle.wp_base.specs.Blocks.{to_nat}
use Rattle.qed_terms.specs.declared.head.Head.{Head}
use Rattle.qed_terms.specs.declared.head.Head.TheVariants as h
use Rattle.qed_terms.specs.declared.head.TermOp.TheVariants as op
use Rattle.qed_terms.specs.Tree.{Tree, node, Trees, stop, more, kids_in, two}
use Rattle.qed_numbers.specs.Numbers.{number_at}
use Rattle.term_sketches.specs.declared.sketch.Sketch.{Sketch}
use Rattle.instance_rows.specs.Rows.{remainder_case, shift_bounds, shift_by, common_bits_case, bounds_of_operator}
use Rattle.drawn_instances.specs.declared.nodes.Seen.{Seen}
use Rattle.drawn_instances.specs.declared.nodes.Seen.TheVariants as seen
use Rattle.drawn_instances.specs.Heads.{seen_head, seen_at, is_two}
use Rattle.drawn_instances.specs.Drawn.{AreDrawn, row_at}
use Rattle.drawn_instances.proofs.HeadLaws.{mod_there, shift_there, bits_there}
use Rattle.node_instances.proofs.Nodes.{row_there}
use Rattle.node_instances.proofs.QuotientLaws.{at_least, not_at_least}

-- ---- powers of 2

pub power_there : (p : ℕ) → p ≤ 126 → 1 * 2 ^ p % 340282366920938463463374607431768211456 ≡ 2 ^ p
power_there p k =
    let l : p < 127 = omega (arith, k) in
    let small : 2 ^ p < 2 ^ 127 = pow-lt l in
    let below : 1 * 2 ^ p < 340282366920938463463374607431768211456 = omega (arith, small) in
    mod-eq_of_lt below ∙ omega arith

pub power_below : (p : ℕ) → p ≤ 126 → 2 ^ p < 2 ^ 127
power_below p k = let l : p < 127 = omega (arith, k) in pow-lt l

pub power_some : (p : ℕ) → 0 < 2 ^ p
power_some p = let l : 0 ≤ p = omega arith in let k : 2 ^ 0 ≤ 2 ^ p = pow_mono l in omega (arith, k)

pub ruleset power_laws = (power_there, power_below, power_some)

pub same_places : (z : ℤ) (n : ℕ) → z ≡ pos n → to_nat z ≡ n
same_places z n e = ap to_nat e

pub ruleset divisor_laws = (same_places)

-- ---- a shift

pub no_places : (t u : Tree) (o : Option ℤ) → o ≡ number_at u → o ≡ None → shift_by (number_at u) t u ≡ []
no_places t u o e n = ap (λ p. shift_by p t u) (sym e ∙ n)

first_false : (a b : Bool) (fs : List Tree) → a ≡ false → (if a && b then fs else []) ≡ []
first_false true b fs e = absurd cc
first_false false b fs e = refl

second_false : (a b : Bool) (fs : List Tree) → b ≡ false → (if a && b then fs else []) ≡ []
second_false true true fs e = absurd cc
second_false true false fs e = refl
second_false false b fs e = refl

both_true : (a b : Bool) (fs : List Tree) → a ≡ true → b ≡ true → (if a && b then fs else []) ≡ fs
both_true true true fs e f = refl
both_true true false fs e f = absurd cc
both_true false b fs e f = absurd cc

pub few_places : (t u : Tree) (o : Option ℤ) (n : ℤ) → o ≡ number_at u → o ≡ Some n → n <ℤ pos 1 → shift_by (number_at u) t u ≡ []
few_places t u o n e s l = ap (λ p. shift_by p t u) (sym e ∙ s) ∙ first_false (int_le (pos 1) n) (int_le n (pos 126)) _ (not_at_least (pos 1) n l)

pub many_places : (t u : Tree) (o : Option ℤ) (n : ℤ) → o ≡ number_at u → o ≡ Some n → pos 126 <ℤ n → shift_by (number_at u) t u ≡ []
many_places t u o n e s l = ap (λ p. shift_by p t u) (sym e ∙ s) ∙ second_false (int_le (pos 1) n) (int_le n (pos 126)) _ (not_at_least n (pos 126) l)

-- the numbers as the code hands them on
pub shift_seen : {Id : Type 0} (held : Id → Type 0) (tree : Id → Tree) (ids : List Id) (sketches : List Sketch) (t u : Tree) (o : Option ℤ) (n z k y : ℤ)
    → o ≡ number_at u → o ≡ Some n → z ≡ n → pos 1 ≤ℤ z → z ≤ℤ pos 126 → k ≡ pos (2 ^ to_nat z) → y ≡ k
    → AreDrawn held tree ids sketches (shift_bounds y (node (h.Term op.ShiftRight) (two t u)) t ∷ []) → AreDrawn held tree ids sketches (shift_by (number_at u) t u)
shift_seen held tree ids sketches t u o n z k y e s same l m p there d =
    let whole : shift_by (number_at u) t u ≡ shift_bounds y (node (h.Term op.ShiftRight) (two t u)) t ∷ [] =
    ap (λ q. shift_by q t u) (sym e ∙ s ∙ ap Some (sym same)) ∙ both_true (int_le (pos 1) z) (int_le z (pos 126)) _ (at_least (pos 1) z l) (at_least z (pos 126) m)
    ∙ ap (λ x. shift_bounds x (node (h.Term op.ShiftRight) (two t u)) t ∷ []) (sym (there ∙ p)) in
    subst (AreDrawn held tree ids sketches) (sym whole) d

pub ruleset shift_laws = (no_places, few_places, many_places, shift_seen)

-- ---- the row

no_operator : (head : Head) (ts : Trees) → (seen_head head ≡ seen.Mod → ⊥) → (seen_head head ≡ seen.ShiftRight → ⊥) → (seen_head head ≡ seen.BitAnd → ⊥) → bounds_of_operator head ts ≡ []
no_operator (h.Term op.Mod) ts m s b = absurd (m refl)
no_operator (h.Term op.ShiftRight) ts m s b = absurd (s refl)
no_operator (h.Term op.BitAnd) ts m s b = absurd (b refl)
no_operator head ts m s b = refl

not_two_parts : (head : Head) (ts : Trees) → is_two ts ≡ false → bounds_of_operator head ts ≡ []
not_two_parts (h.Term op.Mod) stop e = refl
not_two_parts (h.Term op.Mod) (more t stop) e = refl
not_two_parts (h.Term op.Mod) (more t (more u stop)) e = absurd cc
not_two_parts (h.Term op.Mod) (more t (more u (more v ts))) e = refl
not_two_parts (h.Term op.ShiftRight) stop e = refl
not_two_parts (h.Term op.ShiftRight) (more t stop) e = refl
not_two_parts (h.Term op.ShiftRight) (more t (more u stop)) e = absurd cc
not_two_parts (h.Term op.ShiftRight) (more t (more u (more v ts))) e = refl
not_two_parts (h.Term op.BitAnd) stop e = refl
not_two_parts (h.Term op.BitAnd) (more t stop) e = refl
not_two_parts (h.Term op.BitAnd) (more t (more u stop)) e = absurd cc
not_two_parts (h.Term op.BitAnd) (more t (more u (more v ts))) e = refl
not_two_parts head ts e = refl

pub operator_unfit : (t : Tree) → is_two (kids_in t) ≡ false → row_at bounds_of_operator t ≡ []
unfolding row_at
operator_unfit (node head ts) e = not_two_parts head ts e

pub operator_unseen : (t : Tree) (x : Seen) → x ≡ seen_at t → (x ≡ seen.Mod → ⊥) → (x ≡ seen.ShiftRight → ⊥) → (x ≡ seen.BitAnd → ⊥) → row_at bounds_of_operator t ≡ []
unfolding row_at seen_at
operator_unseen (node head ts) x e m s b = no_operator head ts (λ p. m (e ∙ p)) (λ p. s (e ∙ p)) (λ p. b (e ∙ p))

pub remainder_seen : {Id : Type 0} (held : Id → Type 0) (tree : Id → Tree) (ids : List Id) (sketches : List Sketch) (t a b : Tree) (x : Seen) → x ≡ seen_at t → x ≡ seen.Mod → kids_in t ≡ two a b
    → AreDrawn held tree ids sketches (remainder_case a b ∷ []) → AreDrawn held tree ids sketches (row_at bounds_of_operator t)
remainder_seen held tree ids sketches t a b x p q k d = subst (AreDrawn held tree ids sketches) (sym (row_there bounds_of_operator t (mod_there t x p q) k)) d

pub shift_at : {Id : Type 0} (held : Id → Type 0) (tree : Id → Tree) (ids : List Id) (sketches : List Sketch) (t a b : Tree) (x : Seen) → x ≡ seen_at t → x ≡ seen.ShiftRight → kids_in t ≡ two a b
    → AreDrawn held tree ids sketches (shift_by (number_at b) a b) → AreDrawn held tree ids sketches (row_at bounds_of_operator t)
shift_at held tree ids sketches t a b x p q k d = subst (AreDrawn held tree ids sketches) (sym (row_there bounds_of_operator t (shift_there t x p q) k)) d

pub common_bits_seen : {Id : Type 0} (held : Id → Type 0) (tree : Id → Tree) (ids : List Id) (sketches : List Sketch) (t a b : Tree) (x : Seen) → x ≡ seen_at t → x ≡ seen.BitAnd → kids_in t ≡ two a b
    → AreDrawn held tree ids sketches (common_bits_case a b ∷ []) → AreDrawn held tree ids sketches (row_at bounds_of_operator t)
common_bits_seen held tree ids sketches t a b x p q k d = subst (AreDrawn held tree ids sketches) (sym (row_there bounds_of_operator t (bits_there t x p q) k)) d

pub ruleset operator_laws = (operator_unfit, operator_unseen, remainder_seen, shift_at, common_bits_seen)
