-- Forms whose numbers fit.
use Rattle.std.proofs.Common.{◌≡◌, Bool, true, false, ◌&&◌, cond, ℤ, pos, ◌*ℤ◌, ℕ, zero, suc, ◌+◌, ◌<◌, ◌≤◌, List, [], ◌∷◌, ◌++◌, map, length, take, drop, get_or, set, append-nil, take-append-drop, take_all, drop_of_length-le, refl, sym, ◌∙◌, ap, arith, FitsSigned}
use Rattle.std.specs.Prelude.{Some, None}
use Rattle.std.specs.Int.{w128}
use Rattle.qed_terms.specs.Tree.{Tree}
use Rattle.qed_terms.specs.View.{term_tree}
use Rattle.qed_linear.specs.declared.forms.LinPart.{LinPart}
use Rattle.qed_linear.specs.declared.sums.WidePart.{WidePart}
use Rattle.qed_linear.specs.Linear.{fits, Part, Lin, part, lin, number, scale_parts, scale, numbers_fit, fitting}
use Rattle.qed_linear.specs.View.{part_of, parts_of, multiple, multiples, wide_value, wide_parts}
use Rattle.qed_linear.proofs.SumSteps.{fits_from, unfit, scale_append, scale_is}
use Rattle.qed_linear.proofs.Places.{one_off, take_one, map_append}

fit_append : (ps qs : List Part) → numbers_fit (ps ++ qs) ≡ numbers_fit ps && numbers_fit qs
fit_append [] qs = refl
fit_append (p ∷ ps) qs = ap (λ b. fits (p.times) && b) (fit_append ps qs) ∙ assoc (fits (p.times)) (numbers_fit ps) (numbers_fit qs)
  where
    assoc : (x y z : Bool) → x && (y && z) ≡ (x && y) && z
    assoc true y z = refl
    assoc false y z = refl

and_false : (a b : Bool) → b ≡ false → a && b ≡ false
and_false true b e = e
and_false false b e = refl

pub more_fit : (ps qs : List Part) (a : Tree) (c : ℤ) → numbers_fit ps ≡ true → FitsSigned w128 c → qs ≡ ps ++ part a c ∷ [] → numbers_fit qs ≡ true
more_fit ps qs a c h f e = let x = fits_from c f in ap numbers_fit e ∙ fit_append ps (part a c ∷ []) ∙ (λ i. h i && (x i && true))

pub too_wide : (f : Lin) → numbers_fit (f.parts) ≡ false → None ≡ fitting f
too_wide f e = sym (ap (λ b. cond (b && fits (f.constant)) (Some f) None) e)

pub constant_too_wide : (f : Lin) → (FitsSigned w128 (f.constant) → ⊥) → None ≡ fitting f
constant_too_wide f k = sym (ap (λ b. cond (numbers_fit (f.parts) && b) (Some f) None) (unfit (f.constant) k) ∙ ap (λ b. cond b (Some f) None) (and_false (numbers_fit (f.parts)) false refl))

pub unfit_part : (ps qs : List Part) (a : Tree) (c : ℤ) → (FitsSigned w128 c → ⊥) → numbers_fit (ps ++ part a c ∷ qs) ≡ false
unfit_part ps qs a c k = fit_append ps (part a c ∷ qs) ∙ and_false (numbers_fit ps) (numbers_fit (part a c ∷ qs)) (ap (λ b. b && numbers_fit qs) (unfit c k))

pub part_too_wide : (ls : List LinPart) (w : WidePart) (ws ws' all : List WidePart) (c : ℤ) → parts_of ls ++ wide_parts ws ≡ wide_parts all → ws ≡ w ∷ ws' → (FitsSigned w128 (wide_value w.times) → ⊥) → None ≡ fitting (lin (wide_parts all) c)
part_too_wide ls w ws ws' all c h e k =
    too_wide (lin (wide_parts all) c) (ap numbers_fit (sym h ∙ ap (λ vs. parts_of ls ++ wide_parts vs) e) ∙ unfit_part (parts_of ls) (wide_parts ws') (term_tree w.atom) (wide_value w.times) k)

pub fits_whole : (f : Lin) → numbers_fit (f.parts) ≡ true → FitsSigned w128 (f.constant) → Some f ≡ fitting f
fits_whole f h k = let c = fits_from (f.constant) k in sym (ap (λ b. cond (b && fits (f.constant)) (Some f) None) h ∙ ap (λ b. cond b (Some f) None) c)

pub all_fit : (ls : List LinPart) (ws all : List WidePart) (c d : ℤ) → parts_of ls ++ wide_parts ws ≡ wide_parts all → ws ≡ [] → numbers_fit (parts_of ls) ≡ true → c ≡ d → FitsSigned w128 c → Some (lin (parts_of ls) c) ≡ fitting (lin (wide_parts all) d)
all_fit ls ws all c d h e k f g =
    let p = sym (append-nil (parts_of ls)) ∙ sym (ap (λ vs. parts_of ls ++ wide_parts vs) e) ∙ h in
    fits_whole (lin (parts_of ls) c) k g ∙ (λ i. fitting (lin (p i) (f i)))

-- ---- multiples

pub multiple_fits : (c z p : ℤ) → FitsSigned w128 (c *ℤ z) → p ≡ c *ℤ z → p ≡ multiple c z
multiple_fits c z p f e = e ∙ sym (ap (λ b. cond b (c *ℤ z) z) (fits_from (c *ℤ z) f))

pub multiple_wide : (c z : ℤ) → (FitsSigned w128 (c *ℤ z) → ⊥) → z ≡ multiple c z
multiple_wide c z f = sym (ap (λ b. cond b (c *ℤ z) z) (unfit (c *ℤ z) f))

pub scaled_more : (c : ℤ) (xs : List LinPart) (i : ℕ) (x : LinPart) → i < length xs → x ≡ get_or xs i x → FitsSigned w128 (c *ℤ x.times) → numbers_fit (scale_parts c (parts_of (take i xs))) ≡ true
    → numbers_fit (scale_parts c (parts_of (take (i + 1) xs))) ≡ true
scaled_more c xs i x k p f h =
    more_fit (scale_parts c (parts_of (take i xs))) (scale_parts c (parts_of (take (i + 1) xs))) (term_tree x.atom) (c *ℤ x.times) h f
    (ap (λ ys. scale_parts c (parts_of ys)) (take_one xs i x k p) ∙ ap (scale_parts c) (map_append part_of (take i xs) (x ∷ [])) ∙ scale_append c (parts_of (take i xs)) (part_of x ∷ []))

pub scaled_stops : (c : ℤ) (xs : List LinPart) (i : ℕ) (x : LinPart) → i < length xs → x ≡ get_or xs i x → (FitsSigned w128 (c *ℤ x.times) → ⊥) → false ≡ numbers_fit (scale_parts c (parts_of xs))
scaled_stops c xs i x k p u =
    let split = sym (take-append-drop i xs) ∙ ap (λ ys. take i xs ++ ys) (one_off xs i x k p) in
    let all = ap (λ ys. scale_parts c (parts_of ys)) split ∙ ap (scale_parts c) (map_append part_of (take i xs) (x ∷ drop (i + 1) xs)) ∙ scale_append c (parts_of (take i xs)) (parts_of (x ∷ drop (i + 1) xs)) in
    sym (ap numbers_fit all ∙ unfit_part (scale_parts c (parts_of (take i xs))) (scale_parts c (parts_of (drop (i + 1) xs))) (term_tree x.atom) (c *ℤ x.times) u)

-- an item changed at its place
abbrev pub changed_to : {A : Type 0} → (A → A) → List A → ℕ → List A
changed_to f xs i = map f (take i xs) ++ drop i xs

pub changed_more : {A : Type 0} (f : A → A) (xs : List A) (i : ℕ) (x y : A) → i < length xs → x ≡ get_or (changed_to f xs i) i x → y ≡ f x → set (changed_to f xs i) i y ≡ changed_to f xs (i + 1)
changed_more f [] i x y k p e = absurd (omega (arith, k))
changed_more f (a ∷ xs) zero x y k p e = ap (λ z. z ∷ xs) (e ∙ ap f p)
changed_more f (a ∷ xs) (suc i) x y k p e =
    let n : suc i + 1 ≡ suc (i + 1) = omega arith in
    ap (λ zs. f a ∷ zs) (changed_more f xs i x y (omega (arith, k)) p e) ∙ ap (λ m. changed_to f (a ∷ xs) m) (sym n)

pub changed_length : {A : Type 0} (f : A → A) (xs : List A) (i : ℕ) → length (changed_to f xs i) ≡ length xs
changed_length f [] zero = refl
changed_length f [] (suc i) = refl
changed_length f (a ∷ xs) zero = refl
changed_length f (a ∷ xs) (suc i) = ap suc (changed_length f xs i)

pub changed_all : {A : Type 0} (f : A → A) (xs : List A) (i : ℕ) → length xs ≤ i → changed_to f xs i ≡ map f xs
changed_all f xs i k = ap (λ ys. map f (take i xs) ++ ys) (drop_of_length-le xs k) ∙ append-nil (map f (take i xs)) ∙ ap (map f) (take_all i xs k)

-- a part times a number
abbrev pub with_multiple : ℤ → LinPart → LinPart
with_multiple c x = record { atom = x.atom; times = multiple c x.times }

pub multiples_of : (c : ℤ) (xs : List LinPart) → parts_of (map (with_multiple c) xs) ≡ multiples c (parts_of xs)
multiples_of c [] = refl
multiples_of c (x ∷ xs) = ap (λ ps. part (term_tree x.atom) (multiple c x.times) ∷ ps) (multiples_of c xs)

-- where all of them fit, these are the multiples
pub multiples_fit : (c : ℤ) (ps : List Part) → numbers_fit (scale_parts c ps) ≡ true → multiples c ps ≡ scale_parts c ps
multiples_fit c [] k = refl
multiples_fit c (p ∷ ps) k = go (fits (c *ℤ p.times)) refl k (multiples_fit c ps)
  where
    go : (b : Bool) → fits (c *ℤ p.times) ≡ b → b && numbers_fit (scale_parts c ps) ≡ true → (numbers_fit (scale_parts c ps) ≡ true → multiples c ps ≡ scale_parts c ps) → multiples c (p ∷ ps) ≡ scale_parts c (p ∷ ps)
    go true e h again = let m = ap (λ b. cond b (c *ℤ p.times) (p.times)) e in let r = again h in λ i. part (p.atom) (m i) ∷ r i
    go false e h again = absurd cc

pub zero_scaled : (c : ℤ) (f : Lin) → c ≡ pos 0 → Some (number (pos 0)) ≡ fitting (scale c f)
zero_scaled c f e = fits_whole (number (pos 0)) refl (record { sfits = omega arith }) ∙ ap fitting (sym (ap (λ z. scale z f) e))

pub scaled_whole : (c : ℤ) (f g : Lin) → (c ≡ pos 0 → ⊥) → numbers_fit (scale_parts c (f.parts)) ≡ true → g.parts ≡ multiples c (f.parts) → g.constant ≡ c *ℤ f.constant → FitsSigned w128 (g.constant) → Some g ≡ fitting (scale c f)
scaled_whole c f g n h p e k =
    let parts = p ∙ multiples_fit c (f.parts) h in
    fits_whole g (ap numbers_fit parts ∙ h) k ∙ ap fitting ((λ i. lin (parts i) (e i)) ∙ sym (scale_is c f n))

pub scaled_part_wide : (c : ℤ) (f : Lin) → (c ≡ pos 0 → ⊥) → numbers_fit (scale_parts c (f.parts)) ≡ false → None ≡ fitting (scale c f)
scaled_part_wide c f n h = too_wide (lin (scale_parts c (f.parts)) (c *ℤ f.constant)) h ∙ ap fitting (sym (scale_is c f n))

pub scaled_constant_wide : (c : ℤ) (f : Lin) → (c ≡ pos 0 → ⊥) → (FitsSigned w128 (c *ℤ f.constant) → ⊥) → None ≡ fitting (scale c f)
scaled_constant_wide c f n u = constant_too_wide (lin (scale_parts c (f.parts)) (c *ℤ f.constant)) u ∙ ap fitting (sym (scale_is c f n))
