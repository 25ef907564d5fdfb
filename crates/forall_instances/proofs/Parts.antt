-- A form without the part of a name, and forms divided part by part.
use Rattle.std.proofs.Common.{◌≡◌, ℕ, zero, suc, ◌+◌, ◌<◌, ◌≤◌, Bool, true, false, ◌&&◌, cond, ℤ, pos, negsuc, List, [], ◌∷◌, ◌++◌, drop, length, get_or, append_assoc, refl, sym, ◌∙◌, ap, arith, FitsSigned}
use Rattle.std.specs.Prelude.{Option, Some, None, SomeIff, MatchOption, int_div}
use Rattle.std.specs.List.{remove}
use Rattle.std.specs.Option.{option_and_then}
use Rattle.std.specs.Int.{w128, CanDivide, IsNonZero}
use Rattle.std.proofs.lemmas.List.{drop_more, map_push, length-map}
use Rattle.qed_terms.specs.Operators.{is_zero}
use Rattle.qed_terms.specs.Tree.{head_of}
use Rattle.qed_terms.specs.View.{term_tree}
use Rattle.qed_linear.specs.declared.forms.LinPart.{LinPart}
use Rattle.qed_linear.specs.Linear.{fits, Part, Lin, part, lin, checked, subtract, parts_fit, is_integer}
use Rattle.qed_linear.specs.View.{part_of, parts_of}
use Rattle.qed_linear.proofs.Places.{none_left}
use Rattle.qed_linear.proofs.SumSteps.{fits_from, unfit}
use Rattle.forall_instances.specs.Forms.{place_in, solved_by}
use Rattle.instance_rows.specs.Triggers.{is_variable, times_in, without_name, goes_into, goes_into_parts, parts_over, divided, is_nonzero}

-- ---- the place of a name

module _ (x : List ℕ) where
  -- parts that aren't of the name
  pub place_later : (all : List LinPart) (i : ℕ) (p : LinPart) → i < length all → p ≡ get_or all i p → false ≡ is_variable x (term_tree p.atom) → place_in x (parts_of all) ≡ i + place_in x (parts_of (drop i all))
      → place_in x (parts_of all) ≡ (i + 1) + place_in x (parts_of (drop (i + 1) all))
  place_later all i p k e n w =
      let q = ap (λ ps. place_in x (parts_of ps)) (drop_more all i p k ∙ ap (λ z. z ∷ drop (i + 1) all) (sym e)) ∙ ap (λ b. cond b 0 (suc (place_in x (parts_of (drop (i + 1) all))))) (sym n) in
      omega (arith, w, q)

  pub place_here : (all : List LinPart) (i : ℕ) (p : LinPart) → i < length all → p ≡ get_or all i p → true ≡ is_variable x (term_tree p.atom) → place_in x (parts_of all) ≡ i + place_in x (parts_of (drop i all)) → i ≡ place_in x (parts_of all)
  place_here all i p k e n w =
      let q = ap (λ ps. place_in x (parts_of ps)) (drop_more all i p k ∙ ap (λ z. z ∷ drop (i + 1) all) (sym e)) ∙ ap (λ b. cond b 0 (suc (place_in x (parts_of (drop (i + 1) all))))) (sym n) in
      omega (arith, w, q)

  nothing : (all : List LinPart) (i : ℕ) → length all ≤ i → drop i all ≡ []
  nothing [] zero k = refl
  nothing [] (suc i) k = refl
  nothing (p ∷ ps) zero k = absurd (omega (arith, k))
  nothing (p ∷ ps) (suc i) k = nothing ps i (omega (arith, k))

  pub place_nowhere : (all : List LinPart) (i : ℕ) → i < length all + 1 → length all ≤ i → place_in x (parts_of all) ≡ i + place_in x (parts_of (drop i all)) → length all ≡ place_in x (parts_of all)
  place_nowhere all i below past w = let q = ap (λ ps. place_in x (parts_of ps)) (nothing all i past) in omega (arith, below, past, w, q)

  pub place_within : (ps : List Part) → place_in x ps ≤ length ps
  place_within [] = omega arith
  place_within (p ∷ ps) = go (is_variable x p.atom) (place_within ps)
    where
      go : (b : Bool) → place_in x ps ≤ length ps → cond b 0 (suc (place_in x ps)) ≤ suc (length ps)
      go true k = omega arith
      go false k = omega (arith, k)

  pub none_times : (ps : List Part) → place_in x ps ≡ length ps → pos 0 ≡ times_in x ps
  none_times [] e = refl
  none_times (p ∷ ps) e = go (is_variable x p.atom) (none_times ps) e
    where
      go : (b : Bool) → (place_in x ps ≡ length ps → pos 0 ≡ times_in x ps) → cond b 0 (suc (place_in x ps)) ≡ suc (length ps) → pos 0 ≡ cond b p.times (times_in x ps)
      go true f e = absurd (omega (arith, e))
      go false f e = f (omega (arith, e))

  pub none_left_out : (ps : List Part) → place_in x ps ≡ length ps → ps ≡ without_name x ps
  none_left_out [] e = refl
  none_left_out (p ∷ ps) e = go (is_variable x p.atom) (none_left_out ps) e
    where
      go : (b : Bool) → (place_in x ps ≡ length ps → ps ≡ without_name x ps) → cond b 0 (suc (place_in x ps)) ≡ suc (length ps) → p ∷ ps ≡ cond b ps (p ∷ without_name x ps)
      go true f e = absurd (omega (arith, e))
      go false f e = ap (λ qs. p ∷ qs) (f (omega (arith, e)))

  pub some_times : (all : List LinPart) (i : ℕ) (q : LinPart) → i ≡ place_in x (parts_of all) → i < length all → q ≡ get_or all i q → q.times ≡ times_in x (parts_of all)
  some_times [] i q e k is = absurd (omega (arith, k))
  some_times (p ∷ ps) i q e k is = go (is_variable x (term_tree p.atom)) (λ j. some_times ps j q) i e k is
    where
      go : (b : Bool) → ((j : ℕ) → j ≡ place_in x (parts_of ps) → j < length ps → q ≡ get_or ps j q → q.times ≡ times_in x (parts_of ps)) → (i : ℕ) → i ≡ cond b 0 (suc (place_in x (parts_of ps))) → i < suc (length ps) → q ≡ get_or (p ∷ ps) i q → q.times ≡ cond b p.times (times_in x (parts_of ps))
      go true f zero e k is = ap (λ z. z.times) is
      go true f (suc i) e k is = absurd (omega (arith, e))
      go false f zero e k is = absurd (omega (arith, e))
      go false f (suc i) e k is = f i (omega (arith, e)) (omega (arith, k)) is

  pub some_left_out : (all : List LinPart) (i : ℕ) → i ≡ place_in x (parts_of all) → i < length all → parts_of (remove all i) ≡ without_name x (parts_of all)
  some_left_out [] i e k = absurd (omega (arith, k))
  some_left_out (p ∷ ps) i e k = go (is_variable x (term_tree p.atom)) (some_left_out ps) i e k
    where
      go : (b : Bool) → ((j : ℕ) → j ≡ place_in x (parts_of ps) → j < length ps → parts_of (remove ps j) ≡ without_name x (parts_of ps)) → (i : ℕ) → i ≡ cond b 0 (suc (place_in x (parts_of ps))) → i < suc (length ps) → parts_of (remove (p ∷ ps) i) ≡ cond b (parts_of ps) (part_of p ∷ without_name x (parts_of ps))
      go true f zero e k = refl
      go true f (suc i) e k = absurd (omega (arith, e))
      go false f zero e k = absurd (omega (arith, e))
      go false f (suc i) e k = ap (λ qs. part_of p ∷ qs) (f i (omega (arith, e)) (omega (arith, k)))

  module _ (all : List LinPart) (place : ℕ) (is : place ≡ place_in x (parts_of all)) where
    pub place_below : (place ≡ length all → ⊥) → place < length all
    place_below n = let k = place_within (parts_of all) in let m = length-map all part_of in omega (arith, k, m, is, n)

    counted : place ≡ length all → place_in x (parts_of all) ≡ length (parts_of all)
    counted e = sym is ∙ e ∙ sym (length-map all part_of)

    pub nowhere_times : place ≡ length all → pos 0 ≡ times_in x (parts_of all)
    nowhere_times e = none_times (parts_of all) (counted e)

    pub nowhere_others : place ≡ length all → (constant : ℤ) → lin (parts_of all) constant ≡ lin (without_name x (parts_of all)) constant
    nowhere_others e constant = ap (λ ps. lin ps constant) (none_left_out (parts_of all) (counted e))

-- ---- numbers other than 0

pub not_zero : (c : ℤ) → is_nonzero c ≡ true → is_zero c ≡ false
not_zero (pos zero) e = absurd cc
not_zero (pos (suc n)) e = refl
not_zero (negsuc n) e = refl

pub non_zero : (c : ℤ) → FitsSigned w128 c → is_nonzero c ≡ true → IsNonZero w128 c
non_zero (pos zero) f k = absurd cc
non_zero (pos (suc n)) f k = omega arith
non_zero (negsuc n) f k = let l = f.sfits in omega (arith, l)

pub quotient_is : (o : Option ℤ) (z c : ℤ) → FitsSigned w128 c → is_nonzero c ≡ true → SomeIff o (CanDivide w128 z c) (int_div z c) → MatchOption o (fits (int_div z c) ≡ false) (λ q. (q ≡ int_div z c) × (fits q ≡ true))
quotient_is None z c f n k = unfit (int_div z c) (λ g. k (non_zero c f n, g))
quotient_is (Some q) z c f n k = (k.1, ap fits k.1 ∙ fits_from (int_div z c) k.0.1)

-- ---- whether a number goes into all parts

module _ (c : ℤ) where
  pub into_next : (all : List LinPart) (i : ℕ) (p : LinPart) → i < length all → p ≡ get_or all i p → goes_into_parts c (parts_of (drop i all)) ≡ goes_into c p.times && goes_into_parts c (parts_of (drop (i + 1) all))
  into_next all i p k e = ap (λ ps. goes_into_parts c (parts_of ps)) (drop_more all i p k ∙ ap (λ z. z ∷ drop (i + 1) all) (sym e))

  pub into_later : (all : List LinPart) (i : ℕ) (p : LinPart) → i < length all → p ≡ get_or all i p → goes_into c p.times ≡ true → goes_into_parts c (parts_of all) ≡ goes_into_parts c (parts_of (drop i all))
      → goes_into_parts c (parts_of all) ≡ goes_into_parts c (parts_of (drop (i + 1) all))
  into_later all i p k e g w = w ∙ into_next all i p k e ∙ ap (λ b. b && goes_into_parts c (parts_of (drop (i + 1) all))) g

  pub into_fails : (all : List LinPart) (i : ℕ) (p : LinPart) → i < length all → p ≡ get_or all i p → goes_into c p.times ≡ false → goes_into_parts c (parts_of all) ≡ goes_into_parts c (parts_of (drop i all)) → false ≡ goes_into_parts c (parts_of all)
  into_fails all i p k e g w = sym (w ∙ into_next all i p k e ∙ ap (λ b. b && goes_into_parts c (parts_of (drop (i + 1) all))) g)

  pub into_all : (all : List LinPart) (i : ℕ) → length all ≤ i → goes_into_parts c (parts_of all) ≡ goes_into_parts c (parts_of (drop i all)) → true ≡ goes_into_parts c (parts_of all)
  into_all all i k w = sym (w ∙ ap (λ ps. goes_into_parts c (parts_of ps)) (nothing [] all i k))

  -- ---- parts divided

  over_append : (ps qs : List Part) → parts_over c (ps ++ qs) ≡ parts_over c ps ++ parts_over c qs
  over_append [] qs = refl
  over_append (p ∷ ps) qs = ap (λ rs. part p.atom (int_div p.times c) ∷ rs) (over_append ps qs)

  fit_append : (ps qs : List Part) → parts_fit (ps ++ qs) ≡ parts_fit ps && parts_fit qs
  fit_append [] qs = refl
  fit_append (p ∷ ps) qs = ap (λ b. (fits p.times && is_integer (head_of p.atom)) && b) (fit_append ps qs) ∙ assoc (fits p.times && is_integer (head_of p.atom)) (parts_fit ps) (parts_fit qs)
    where
      assoc : (x y z : Bool) → x && (y && z) ≡ (x && y) && z
      assoc true y z = refl
      assoc false y z = refl

  and_false : (a b : Bool) → b ≡ false → a && b ≡ false
  and_false true b e = e
  and_false false b e = refl

  module _ (all made rest rest' : List LinPart) (p : LinPart) (so_far : parts_of made ++ parts_over c (parts_of rest) ≡ parts_over c (parts_of all)) (next : rest ≡ p ∷ rest') where
    pub over_more : (made' : List LinPart) (q : LinPart) → made' ≡ made ++ q ∷ [] → part_of q ≡ part (term_tree p.atom) (int_div p.times c) → parts_of made' ++ parts_over c (parts_of rest') ≡ parts_over c (parts_of all)
    over_more made' q m e =
        (λ i. (ap parts_of m ∙ map_push part_of made q) i ++ parts_over c (parts_of rest')) ∙ append_assoc (parts_of made) (part_of q ∷ []) (parts_over c (parts_of rest'))
        ∙ ap (λ z. parts_of made ++ z ∷ parts_over c (parts_of rest')) e ∙ ap (λ z. parts_of made ++ parts_over c (parts_of z)) (sym next) ∙ so_far

    pub over_fails : parts_fit (part (term_tree p.atom) (int_div p.times c) ∷ []) ≡ false → parts_fit (parts_over c (parts_of all)) ≡ false
    over_fails e =
        ap parts_fit (sym so_far ∙ ap (λ z. parts_of made ++ parts_over c (parts_of z)) next)
        ∙ fit_append (parts_of made) (part (term_tree p.atom) (int_div p.times c) ∷ parts_over c (parts_of rest'))
        ∙ and_false (parts_fit (parts_of made)) _ (fit_append (part (term_tree p.atom) (int_div p.times c) ∷ []) (parts_over c (parts_of rest')) ∙ ap (λ b. b && parts_fit (parts_over c (parts_of rest'))) e)

  pub fit_more : (made made' : List LinPart) (q : LinPart) → made' ≡ made ++ q ∷ [] → parts_fit (parts_of made) ≡ true → parts_fit (part_of q ∷ []) ≡ true → parts_fit (parts_of made') ≡ true
  fit_more made made' q m e f = ap parts_fit (ap parts_of m ∙ map_push part_of made q) ∙ fit_append (parts_of made) (part_of q ∷ []) ∙ (λ i. e i && f i)

  pub over_all : (all made rest : List LinPart) → parts_of made ++ parts_over c (parts_of rest) ≡ parts_over c (parts_of all) → length rest ≡ 0 → parts_of made ≡ parts_over c (parts_of all)
  over_all all made rest w e = sym (no_more (parts_of made)) ∙ ap (λ z. parts_of made ++ parts_over c (parts_of z)) (sym (none_left rest e)) ∙ w
    where
      no_more : (xs : List Part) → xs ++ [] ≡ xs
      no_more [] = refl
      no_more (x ∷ xs) = ap (λ ys. x ∷ ys) (no_more xs)

  -- ---- the whole form

  module _ (f : Lin) where
    pub not_into_parts : goes_into_parts c f.parts ≡ false → None ≡ divided c f
    not_into_parts e = sym (ap (λ b. cond (b && goes_into c f.constant) (checked (lin (parts_over c f.parts) (int_div f.constant c))) None) e)

    module _ (into_parts : goes_into_parts c f.parts ≡ true) where
      to_constant : divided c f ≡ cond (goes_into c f.constant) (checked (lin (parts_over c f.parts) (int_div f.constant c))) None
      to_constant = ap (λ b. cond (b && goes_into c f.constant) (checked (lin (parts_over c f.parts) (int_div f.constant c))) None) into_parts

      pub not_into_constant : goes_into c f.constant ≡ false → None ≡ divided c f
      not_into_constant e = sym (to_constant ∙ ap (λ b. cond b (checked (lin (parts_over c f.parts) (int_div f.constant c))) None) e)

      module _ (into_constant : goes_into c f.constant ≡ true) where
        to_checked : divided c f ≡ checked (lin (parts_over c f.parts) (int_div f.constant c))
        to_checked = to_constant ∙ ap (λ b. cond b (checked (lin (parts_over c f.parts) (int_div f.constant c))) None) into_constant

        pub constant_wide : fits (int_div f.constant c) ≡ false → None ≡ divided c f
        constant_wide e = sym (to_checked ∙ ap (λ b. cond b (Some (lin (parts_over c f.parts) (int_div f.constant c))) None) (and_false (parts_fit (parts_over c f.parts)) (fits (int_div f.constant c)) e))

        pub parts_wide : parts_fit (parts_over c f.parts) ≡ false → None ≡ divided c f
        parts_wide e = sym (to_checked ∙ ap (λ b. cond (b && fits (int_div f.constant c)) (Some (lin (parts_over c f.parts) (int_div f.constant c))) None) e)

        pub divided_is : (qs : List Part) (d : ℤ) → qs ≡ parts_over c f.parts → parts_fit qs ≡ true → d ≡ int_div f.constant c → fits d ≡ true → Some (lin qs d) ≡ divided c f
        divided_is qs d e g k l =
            (λ i. Some (lin (e i) (k i)))
            ∙ sym (to_checked ∙ (λ i. cond ((ap parts_fit (sym e) ∙ g) i && (ap fits (sym k) ∙ l) i) (Some (lin (parts_over c f.parts) (int_div f.constant c))) None))

-- ---- the form by the coefficient, what stands beside the name, and the other form

pub not_solved : (b : Bool) (c : ℤ) (f g : Lin) → b ≡ false → None ≡ solved_by b c f g
not_solved b c f g e = sym (ap (λ z. cond z (option_and_then (divided c) (checked (subtract g f))) None) e)

pub no_difference : (b : Bool) (c : ℤ) (f g : Lin) → b ≡ true → None ≡ checked (subtract g f) → None ≡ solved_by b c f g
no_difference b c f g e d = ap (option_and_then (divided c)) d ∙ sym (ap (λ z. cond z (option_and_then (divided c) (checked (subtract g f))) None) e)

pub with_difference : (b : Bool) (c : ℤ) (f g difference : Lin) (o : Option Lin) → b ≡ true → Some difference ≡ checked (subtract g f) → o ≡ divided c difference → o ≡ solved_by b c f g
with_difference b c f g difference o e d m = m ∙ ap (option_and_then (divided c)) d ∙ sym (ap (λ z. cond z (option_and_then (divided c) (checked (subtract g f))) None) e)
