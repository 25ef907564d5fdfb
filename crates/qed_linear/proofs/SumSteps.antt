-- Sums of forms, step by step as the program makes them.
use Rattle.std.proofs.Common.{◌≡◌, ℕ, zero, suc, ◌+◌, ◌<◌, ◌≤◌, ◌^◌, Bool, true, false, ◌&&◌, cond, ℤ, pos, negsuc, ◌+ℤ◌, ◌*ℤ◌, Ordering, Less, Equal, List, [], ◌∷◌, ◌++◌, map, length, take, drop, get_or, take-append-drop, take_all, drop_of_length-le, append_assoc, append-nil, refl, sym, ◌∙◌, ap, arith, FitsSigned, lt-ltb, ltb-true}
use Rattle.std.specs.Prelude.{Some, None}
use Rattle.std.specs.Int.{w128}
use Rattle.std.proofs.lemmas.Int.{ints}
use Rattle.std.proofs.lemmas.List.{get_or_read}
use Rattle.qed_terms.specs.Tree.{Tree, head_of}
use Rattle.qed_terms.specs.Operators.{is_zero}
use Rattle.qed_terms.specs.View.{term_tree}
use Rattle.qed_linear.specs.declared.forms.LinPart.{LinPart}
use Rattle.qed_linear.specs.declared.forms.LinForm.{LinForm}
use Rattle.qed_linear.specs.declared.sums.WidePart.{WidePart}
use Rattle.qed_terms.specs.Order.{tree_cmp}
use Rattle.qed_linear.specs.Linear.{fits, Part, Lin, part, lin, number, at_order, cons_nonzero, add_part, add_parts, add, add_all, scale_parts, scale, is_integer, parts_fit, checked}
use Rattle.qed_linear.specs.View.{part_of, parts_of, lin_of, wide_value, wide_part, wide_parts, signed_value, signed_parts, signed}
use Rattle.qed_linear.proofs.Facts.{zero_is}
use Rattle.qed_linear.proofs.Places.{one_off, take_one, map_append}

-- ---- numbers that fit

pub fits_from : (z : ℤ) → FitsSigned w128 z → fits z ≡ true
unfolding fits
fits_from (pos n) f = lt-ltb n (2 ^ 127) f.sfits
fits_from (negsuc n) f = lt-ltb n (2 ^ 127) f.sfits

pub fits_back : (z : ℤ) → fits z ≡ true → FitsSigned w128 z
unfolding fits
fits_back (pos n) k = record { sfits = ltb-true n (2 ^ 127) k }
fits_back (negsuc n) k = record { sfits = ltb-true n (2 ^ 127) k }

pub unfit : (z : ℤ) → (FitsSigned w128 z → ⊥) → fits z ≡ false
unfit z f = go (fits z) refl
  where
    go : (b : Bool) → fits z ≡ b → b ≡ false
    go true e = absurd (f (fits_back z e))
    go false e = refl

-- the sum of two sums of low parts and turns
pub turns_add : (low turn l t l' t' u v : ℤ) → low +ℤ turn *ℤ pos 340282366920938463463374607431768211456 ≡ l +ℤ l' → u ≡ t +ℤ t' → v ≡ u +ℤ turn
    → low +ℤ v *ℤ pos 340282366920938463463374607431768211456 ≡ (l +ℤ t *ℤ pos 340282366920938463463374607431768211456) +ℤ (l' +ℤ t' *ℤ pos 340282366920938463463374607431768211456)
turns_add low turn l t l' t' u v e f g = omega (arith, ints, e, f, g)

-- ---- one part more

pub cons_zero : (a : Tree) (c : ℤ) (ps : List Part) → c ≡ pos 0 → cons_nonzero a c ps ≡ ps
cons_zero a c ps e = ap (λ z. cons_nonzero a z ps) e

pub none_inserted : (xs : List WidePart) (i : ℕ) (a : Tree) (c : ℤ) → c ≡ pos 0 → wide_parts xs ≡ wide_parts (take i xs) ++ cons_nonzero a c (wide_parts (drop i xs))
none_inserted xs i a c e =
    sym (ap (λ ps. wide_parts (take i xs) ++ ps) (cons_zero a c (wide_parts (drop i xs)) e) ∙ sym (map_append wide_part (take i xs) (drop i xs)) ∙ ap wide_parts (take-append-drop i xs))

removed : {A : Type 0} (xs : List A) (i : ℕ) → i < length xs → (take i (take i xs ++ drop (suc i) xs) ≡ take i xs) × (drop i (take i xs ++ drop (suc i) xs) ≡ drop (suc i) xs)
removed [] i k = absurd (omega arith)
removed (x ∷ xs) zero k = (refl, refl)
removed (x ∷ xs) (suc i) k = let r = removed xs i (omega arith) in (ap (λ ys. x ∷ ys) r.0, r.1)

pub is_joined : (xs ys zs : List WidePart) (i : ℕ) (r x : WidePart) (c s : ℤ) → i < length xs → r ≡ get_or xs i r → x ≡ get_or xs i x → ys ≡ take i xs ++ drop (suc i) xs → s ≡ c +ℤ wide_value r.times
    → wide_parts zs ≡ wide_parts (take i ys) ++ cons_nonzero (term_tree r.atom) s (wide_parts (drop i ys))
    → wide_parts zs ≡ wide_parts (take i xs) ++ cons_nonzero (term_tree x.atom) (c +ℤ wide_value x.times) (wide_parts (drop (i + 1) xs))
is_joined xs ys zs i r x c s k p q e f g =
    let same : r ≡ x = get_or_read xs i r k p x ∙ sym q in
    let n : suc i ≡ i + 1 = omega arith in
    let d = removed xs i k in
    let a = ap (take i) e ∙ d.0 in
    let b = ap (drop i) e ∙ d.1 ∙ ap (λ m. drop m xs) n in
    g ∙ (λ j. wide_parts (a j) ++ cons_nonzero (term_tree (same j).atom) (f j) (wide_parts (b j))) ∙ ap (λ y. wide_parts (take i xs) ++ cons_nonzero (term_tree x.atom) (c +ℤ wide_value y.times) (wide_parts (drop (i + 1) xs))) same

-- what the part at this place makes of one more
add_part_at : (xs : List WidePart) (i : ℕ) (x : WidePart) (a : Tree) (c : ℤ) (o : Ordering) → i < length xs → x ≡ get_or xs i x → tree_cmp a (term_tree x.atom) ≡ o
    → add_part a c (wide_parts (drop i xs)) ≡ at_order o (cons_nonzero a c (wide_parts (drop i xs))) (cons_nonzero (term_tree x.atom) (c +ℤ wide_value x.times) (wide_parts (drop (i + 1) xs))) (wide_part x ∷ add_part a c (wide_parts (drop (i + 1) xs)))
add_part_at xs i x a c o k p e =
    let d = one_off xs i x k p in
    ap (λ ys. add_part a c (wide_parts ys)) d
    ∙ ap (λ r. at_order r (cons_nonzero a c (wide_part x ∷ wide_parts (drop (i + 1) xs))) (cons_nonzero (term_tree x.atom) (c +ℤ wide_value x.times) (wide_parts (drop (i + 1) xs))) (wide_part x ∷ add_part a c (wide_parts (drop (i + 1) xs)))) e
    ∙ ap (λ ys. at_order o (cons_nonzero a c (wide_parts ys)) (cons_nonzero (term_tree x.atom) (c +ℤ wide_value x.times) (wide_parts (drop (i + 1) xs))) (wide_part x ∷ add_part a c (wide_parts (drop (i + 1) xs)))) (sym d)

-- the parts before this place stand before
abbrev pub Passed : List WidePart → ℕ → Tree → ℤ → Type 0
Passed xs i a c = add_part a c (wide_parts xs) ≡ wide_parts (take i xs) ++ add_part a c (wide_parts (drop i xs))

pub pass_less : (xs : List WidePart) (i : ℕ) (x : WidePart) (a : Tree) (c : ℤ) → i < length xs → x ≡ get_or xs i x → tree_cmp a (term_tree x.atom) ≡ Less → Passed xs i a c
    → add_part a c (wide_parts xs) ≡ wide_parts (take i xs) ++ cons_nonzero a c (wide_parts (drop i xs))
pass_less xs i x a c k p e h = h ∙ ap (λ ps. wide_parts (take i xs) ++ ps) (add_part_at xs i x a c Less k p e)

pub pass_equal : (xs : List WidePart) (i : ℕ) (x : WidePart) (a : Tree) (c : ℤ) → i < length xs → x ≡ get_or xs i x → tree_cmp a (term_tree x.atom) ≡ Equal → Passed xs i a c
    → add_part a c (wide_parts xs) ≡ wide_parts (take i xs) ++ cons_nonzero (term_tree x.atom) (c +ℤ wide_value x.times) (wide_parts (drop (i + 1) xs))
pass_equal xs i x a c k p e h = h ∙ ap (λ ps. wide_parts (take i xs) ++ ps) (add_part_at xs i x a c Equal k p e)

pub pass_end : (xs : List WidePart) (i : ℕ) (a : Tree) (c : ℤ) → length xs ≤ i → Passed xs i a c → add_part a c (wide_parts xs) ≡ wide_parts (take i xs) ++ cons_nonzero a c (wide_parts (drop i xs))
pass_end xs i a c k h =
    let e = drop_of_length-le xs k in
    h ∙ ap (λ ys. wide_parts (take i xs) ++ add_part a c (wide_parts ys)) e ∙ ap (λ ys. wide_parts (take i xs) ++ cons_nonzero a c (wide_parts ys)) (sym e)

-- ---- forms

pub add_parts_last : (ps : List Part) (p : Part) (qs : List Part) → add_parts (ps ++ p ∷ []) qs ≡ add_parts ps (add_part (p.atom) (p.times) qs)
add_parts_last [] p qs = refl
add_parts_last (q ∷ ps) p qs = ap (add_part (q.atom) (q.times)) (add_parts_last ps p qs)

pub add_parts_down : (xs : List LinPart) (i : ℕ) (x : LinPart) (qs rs : List Part) → i < length xs → x ≡ get_or xs i x → rs ≡ add_part (term_tree x.atom) x.times qs
    → add_parts (parts_of (take i xs)) rs ≡ add_parts (parts_of (take (i + 1) xs)) qs
add_parts_down xs i x qs rs k p e =
    ap (add_parts (parts_of (take i xs))) e ∙ sym (add_parts_last (parts_of (take i xs)) (part_of x) qs)
    ∙ ap (λ ps. add_parts ps qs) (sym (map_append part_of (take i xs) (x ∷ []))) ∙ ap (λ ys. add_parts (parts_of ys) qs) (sym (take_one xs i x k p))

-- the sum of forms and another
abbrev pub add_all_onto : List Lin → Lin → Lin
add_all_onto [] s = s
add_all_onto (f ∷ fs) s = add f (add_all_onto fs s)

add_all_last : (fs : List Lin) (f s : Lin) → add_all_onto (fs ++ f ∷ []) s ≡ add_all_onto fs (add f s)
add_all_last [] f s = refl
add_all_last (g ∷ fs) f s = ap (add g) (add_all_last fs f s)

pub add_all_none : (fs : List Lin) → add_all_onto fs (number (pos 0)) ≡ add_all fs
add_all_none [] = refl
add_all_none (f ∷ fs) = ap (add f) (add_all_none fs)

pub add_all_down : (xs : List LinForm) (i : ℕ) (x : LinForm) (s r : Lin) → i < length xs → x ≡ get_or xs i x → r ≡ add (lin_of x) s → add_all_onto (map lin_of (take i xs)) r ≡ add_all_onto (map lin_of (take (i + 1) xs)) s
add_all_down xs i x s r k p e =
    ap (add_all_onto (map lin_of (take i xs))) e ∙ sym (add_all_last (map lin_of (take i xs)) (lin_of x) s)
    ∙ ap (λ fs. add_all_onto fs s) (sym (map_append lin_of (take i xs) (x ∷ []))) ∙ ap (λ ys. add_all_onto (map lin_of ys) s) (sym (take_one xs i x k p))

-- ---- a form with its sign

pub signed_append : (b : Bool) (ps qs : List Part) → signed_parts b (ps ++ qs) ≡ signed_parts b ps ++ signed_parts b qs
signed_append b [] qs = refl
signed_append b (p ∷ ps) qs = ap (λ rs. part (p.atom) (signed_value b (p.times)) ∷ rs) (signed_append b ps qs)

pub signed_is : (b : Bool) (ps : List Part) (c : ℤ) → lin (signed_parts b ps) (signed_value b c) ≡ signed b (lin ps c)
signed_is true ps c = ap (λ qs. lin qs (negsuc 0 *ℤ c)) (go ps)
  where
    go : (qs : List Part) → signed_parts true qs ≡ scale_parts (negsuc 0) qs
    go [] = refl
    go (p ∷ qs) = ap (λ rs. part (p.atom) (negsuc 0 *ℤ p.times) ∷ rs) (go qs)
signed_is false ps c = ap (λ qs. lin qs c) (go ps)
  where
    go : (qs : List Part) → signed_parts false qs ≡ qs
    go [] = refl
    go (p ∷ qs) = ap (λ rs. p ∷ rs) (go qs)

pub signed_more : (b : Bool) (ws ws' : List WidePart) (xs : List LinPart) (i : ℕ) (x : LinPart) (a : Tree) (c : ℤ) → i < length xs → x ≡ get_or xs i x → a ≡ term_tree x.atom → c ≡ signed_value b x.times
    → wide_parts ws ≡ signed_parts b (parts_of (take i xs)) → wide_parts ws' ≡ wide_parts ws ++ part a c ∷ [] → wide_parts ws' ≡ signed_parts b (parts_of (take (i + 1) xs))
signed_more b ws ws' xs i x a c k p e f h g =
    g ∙ (λ j. h j ++ part (e j) (f j) ∷ []) ∙ sym (signed_append b (parts_of (take i xs)) (part_of x ∷ []))
    ∙ ap (signed_parts b) (sym (map_append part_of (take i xs) (x ∷ []))) ∙ ap (λ ys. signed_parts b (parts_of ys)) (sym (take_one xs i x k p))

-- ---- numbers cut to 128 bits

fit_append : (ps qs : List Part) → parts_fit (ps ++ qs) ≡ parts_fit ps && parts_fit qs
fit_append [] qs = refl
fit_append (p ∷ ps) qs = ap (λ b. (fits (p.times) && is_integer (head_of (p.atom))) && b) (fit_append ps qs) ∙ assoc (fits (p.times) && is_integer (head_of (p.atom))) (parts_fit ps) (parts_fit qs)
  where
    assoc : (x y z : Bool) → x && (y && z) ≡ (x && y) && z
    assoc true y z = refl
    assoc false y z = refl

pub fit_more : (ps qs : List Part) (a : Tree) (c : ℤ) → parts_fit ps ≡ true → is_integer (head_of a) ≡ true → FitsSigned w128 c → qs ≡ ps ++ part a c ∷ [] → parts_fit qs ≡ true
fit_more ps qs a c h y f e =
    let x = fits_from c f in
    ap parts_fit e ∙ fit_append ps (part a c ∷ []) ∙ (λ i. h i && ((x i && y i) && true))

and_false : (a b : Bool) → b ≡ false → a && b ≡ false
and_false true b e = e
and_false false b e = refl

-- a part that isn't an integer, or has a coefficient that doesn't fit
unfit_part : (ps qs : List Part) (a : Tree) (c : ℤ) → fits c && is_integer (head_of a) ≡ false → parts_fit (ps ++ part a c ∷ qs) ≡ false
unfit_part ps qs a c f = fit_append ps (part a c ∷ qs) ∙ and_false (parts_fit ps) (parts_fit (part a c ∷ qs)) (ap (λ b. b && parts_fit qs) f)

too_wide : (a : Tree) (c : ℤ) → (FitsSigned w128 c → ⊥) → fits c && is_integer (head_of a) ≡ false
too_wide a c f = ap (λ b. b && is_integer (head_of a)) (unfit c f)

checked_fails : (f : Lin) → parts_fit (f.parts) ≡ false → None ≡ checked f
checked_fails f e = sym (ap (λ b. cond (b && fits (f.constant)) (Some f) None) e)

pub last_fails : (f : Lin) → (FitsSigned w128 (f.constant) → ⊥) → None ≡ checked f
last_fails f k = sym (ap (λ b. cond (parts_fit (f.parts) && b) (Some f) None) (unfit (f.constant) k) ∙ ap (λ b. cond b (Some f) None) (and_false (parts_fit (f.parts)) false refl))

pub checked_done : (f g : Lin) → g ≡ f → parts_fit (g.parts) ≡ true → FitsSigned w128 (g.constant) → Some g ≡ checked f
checked_done f g e h k =
    let c = fits_from (g.constant) k in
    sym (ap checked (sym e) ∙ ap (λ b. cond (b && fits (g.constant)) (Some g) None) h ∙ ap (λ b. cond b (Some g) None) c)

pub narrowed_more : (ls ls' : List LinPart) (w : WidePart) (ws ws' all : List WidePart) (a : Tree) (c : ℤ) → parts_of ls ++ wide_parts ws ≡ wide_parts all → ws ≡ w ∷ ws' → a ≡ term_tree w.atom → c ≡ wide_value w.times
    → parts_of ls' ≡ parts_of ls ++ part a c ∷ [] → parts_of ls' ++ wide_parts ws' ≡ wide_parts all
narrowed_more ls ls' w ws ws' all a c h e f g k =
    ap (λ ps. ps ++ wide_parts ws') (k ∙ (λ i. parts_of ls ++ part (f i) (g i) ∷ [])) ∙ append_assoc (parts_of ls) (wide_part w ∷ []) (wide_parts ws')
    ∙ sym (ap (λ vs. parts_of ls ++ wide_parts vs) e) ∙ h

narrow_stops : (ls : List LinPart) (w : WidePart) (ws ws' all : List WidePart) (c : ℤ) → parts_of ls ++ wide_parts ws ≡ wide_parts all → ws ≡ w ∷ ws' → fits (wide_value w.times) && is_integer (head_of (term_tree w.atom)) ≡ false
    → None ≡ checked (lin (wide_parts all) c)
narrow_stops ls w ws ws' all c h e k =
    checked_fails (lin (wide_parts all) c) (ap parts_fit (sym h ∙ ap (λ vs. parts_of ls ++ wide_parts vs) e) ∙ unfit_part (parts_of ls) (wide_parts ws') (term_tree w.atom) (wide_value w.times) k)

pub narrow_fails : (ls : List LinPart) (w : WidePart) (ws ws' all : List WidePart) (c : ℤ) → parts_of ls ++ wide_parts ws ≡ wide_parts all → ws ≡ w ∷ ws' → (FitsSigned w128 (wide_value w.times) → ⊥) → None ≡ checked (lin (wide_parts all) c)
narrow_fails ls w ws ws' all c h e k = narrow_stops ls w ws ws' all c h e (too_wide (term_tree w.atom) (wide_value w.times) k)

pub narrow_refuses : (ls : List LinPart) (w : WidePart) (ws ws' all : List WidePart) (c : ℤ) → parts_of ls ++ wide_parts ws ≡ wide_parts all → ws ≡ w ∷ ws' → is_integer (head_of (term_tree w.atom)) ≡ false → None ≡ checked (lin (wide_parts all) c)
narrow_refuses ls w ws ws' all c h e k = narrow_stops ls w ws ws' all c h e (and_false (fits (wide_value w.times)) (is_integer (head_of (term_tree w.atom))) k)

pub narrow_done : (ls : List LinPart) (ws all : List WidePart) (c d : ℤ) → parts_of ls ++ wide_parts ws ≡ wide_parts all → ws ≡ [] → parts_fit (parts_of ls) ≡ true → c ≡ d → FitsSigned w128 c → Some (lin (parts_of ls) c) ≡ checked (lin (wide_parts all) d)
narrow_done ls ws all c d h e k f g =
    let p = sym (append-nil (parts_of ls)) ∙ sym (ap (λ vs. parts_of ls ++ wide_parts vs) e) ∙ h in
    checked_done (lin (wide_parts all) d) (lin (parts_of ls) c) (λ i. lin (p i) (f i)) k g

-- ---- a form times a number

pub scale_append : (c : ℤ) (ps qs : List Part) → scale_parts c (ps ++ qs) ≡ scale_parts c ps ++ scale_parts c qs
scale_append c [] qs = refl
scale_append c (p ∷ ps) qs = ap (λ rs. part (p.atom) (c *ℤ p.times) ∷ rs) (scale_append c ps qs)

pub scale_more : (c : ℤ) (ls ls' xs : List LinPart) (i : ℕ) (x : LinPart) (a : Tree) (d : ℤ) → i < length xs → x ≡ get_or xs i x → a ≡ term_tree x.atom → d ≡ c *ℤ x.times
    → parts_of ls ≡ scale_parts c (parts_of (take i xs)) → parts_of ls' ≡ parts_of ls ++ part a d ∷ [] → parts_of ls' ≡ scale_parts c (parts_of (take (i + 1) xs))
scale_more c ls ls' xs i x a d k p e f h g =
    g ∙ (λ j. h j ++ part (e j) (f j) ∷ []) ∙ sym (scale_append c (parts_of (take i xs)) (part_of x ∷ []))
    ∙ ap (scale_parts c) (sym (map_append part_of (take i xs) (x ∷ []))) ∙ ap (λ ys. scale_parts c (parts_of ys)) (sym (take_one xs i x k p))

pub scale_is : (c : ℤ) (f : Lin) → (c ≡ pos 0 → ⊥) → scale c f ≡ lin (scale_parts c (f.parts)) (c *ℤ f.constant)
scale_is c f n = go (is_zero c) refl
  where
    go : (b : Bool) → is_zero c ≡ b → cond b (number (pos 0)) (lin (scale_parts c (f.parts)) (c *ℤ f.constant)) ≡ lin (scale_parts c (f.parts)) (c *ℤ f.constant)
    go true e = absurd (n (zero_is c e))
    go false e = refl

pub scale_zero : (c : ℤ) (f : Lin) → c ≡ pos 0 → Some (number (pos 0)) ≡ checked (scale c f)
scale_zero c f e = checked_done (scale c f) (number (pos 0)) (sym (ap (λ z. scale z f) e)) refl (record { sfits = omega arith })

scale_stops : (c : ℤ) (f : LinForm) (i : ℕ) (x : LinPart) → (c ≡ pos 0 → ⊥) → i < length f.parts.items → x ≡ get_or f.parts.items i x → fits (c *ℤ x.times) && is_integer (head_of (term_tree x.atom)) ≡ false
    → None ≡ checked (scale c (lin_of f))
scale_stops c f i x n k p u =
    let xs = f.parts.items in
    let split = sym (take-append-drop i xs) ∙ ap (λ ys. take i xs ++ ys) (one_off xs i x k p) in
    let all = ap (λ ys. scale_parts c (parts_of ys)) split ∙ ap (scale_parts c) (map_append part_of (take i xs) (x ∷ drop (i + 1) xs)) ∙ scale_append c (parts_of (take i xs)) (parts_of (x ∷ drop (i + 1) xs)) in
    checked_fails (lin (scale_parts c (parts_of xs)) (c *ℤ f.constant)) (ap parts_fit all ∙ unfit_part (scale_parts c (parts_of (take i xs))) (scale_parts c (parts_of (drop (i + 1) xs))) (term_tree x.atom) (c *ℤ x.times) u)
    ∙ ap checked (sym (scale_is c (lin_of f) n))

pub scale_fails : (c : ℤ) (f : LinForm) (i : ℕ) (x : LinPart) → (c ≡ pos 0 → ⊥) → i < length f.parts.items → x ≡ get_or f.parts.items i x → (FitsSigned w128 (c *ℤ x.times) → ⊥) → None ≡ checked (scale c (lin_of f))
scale_fails c f i x n k p u = scale_stops c f i x n k p (too_wide (term_tree x.atom) (c *ℤ x.times) u)

pub scale_refuses : (c : ℤ) (f : LinForm) (i : ℕ) (x : LinPart) → (c ≡ pos 0 → ⊥) → i < length f.parts.items → x ≡ get_or f.parts.items i x → is_integer (head_of (term_tree x.atom)) ≡ false → None ≡ checked (scale c (lin_of f))
scale_refuses c f i x n k p u = scale_stops c f i x n k p (and_false (fits (c *ℤ x.times)) (is_integer (head_of (term_tree x.atom))) u)

pub scale_last_fails : (c : ℤ) (f : LinForm) → (c ≡ pos 0 → ⊥) → (FitsSigned w128 (c *ℤ f.constant) → ⊥) → None ≡ checked (scale c (lin_of f))
scale_last_fails c f n u = last_fails (lin (scale_parts c (parts_of f.parts.items)) (c *ℤ f.constant)) u ∙ ap checked (sym (scale_is c (lin_of f) n))

pub scale_done : (c : ℤ) (f : LinForm) (ls : List LinPart) (d : ℤ) → (c ≡ pos 0 → ⊥) → parts_of ls ≡ scale_parts c (parts_of f.parts.items) → parts_fit (parts_of ls) ≡ true → d ≡ c *ℤ f.constant → FitsSigned w128 d
    → Some (lin (parts_of ls) d) ≡ checked (scale c (lin_of f))
scale_done c f ls d n e h g k = checked_done (scale c (lin_of f)) (lin (parts_of ls) d) ((λ i. lin (e i) (g i)) ∙ sym (scale_is c (lin_of f) n)) h k

-- how a sum begins, and where none is left
pub add_all_whole : (xs : List LinForm) (s : Lin) → s ≡ number (pos 0) → add_all_onto (map lin_of (take (length xs) xs)) s ≡ add_all (map lin_of xs)
add_all_whole xs s e = ap (λ ys. add_all_onto (map lin_of ys) s) (take_all (length xs) xs (omega arith)) ∙ ap (add_all_onto (map lin_of xs)) e ∙ add_all_none (map lin_of xs)
