-- Well formed goals.
use Rattle.std.proofs.Common.{◌≡◌, ℕ, zero, suc, ◌+◌, ◌==◌, Bool, true, false, cond, not, ◌&&◌, ◌||◌, List, [], ◌∷◌, ◌++◌, map, codes, refl, ap, ap₂, ◌∙◌, inl, inr, arith}
use Rattle.std.proofs.lemmas.Bool.{le-leb}
use Rattle.std.specs.Prelude.{nat_le}
use Rattle.std.specs.List.{list_all, list_any}
use Rattle.std.specs.Int.Digits.{digits_of, AllBelowBase}
use Rattle.std.proofs.lemmas.Int.Digits.{all_below_base_digits_of}
use Rattle.qed_terms.specs.Tree.{Tree, trees_of, var}
use Rattle.qed_terms.specs.Names.{is_digit, is_letter, is_name_byte, is_name, before_colon}
use Rattle.qed_terms.specs.Fresh.{fresh_name, from_colon, numeral, none_used}
use Rattle.qed_terms.specs.WellFormed.{int, formula, each, kid_count, fits, all_fit}
use Rattle.walk_steps.specs.State.{In}
use Rattle.walk_steps.specs.World.{large_base}
use Rattle.walk_steps.specs.Laws.{Origin, own, fixed, start_slots, start_world}
use Rattle.walk_steps.specs.Texts.{AllTerms, IsIntTerm, IsFormula, AreNames, GoalsAreWellFormed}
use Rattle.walk_steps.proofs.Written.{Keeps, Fine, walk_fine, forms_fine}

and_both : (a b : Bool) → a ≡ true → b ≡ true → (a && b) ≡ true
and_both a b h k = ap₂ (λ x y. x && y) h k

and_first : (a b : Bool) → (a && b) ≡ true → a ≡ true
and_first true b h = refl
and_first false b h = absurd cc

and_second : (a b : Bool) → (a && b) ≡ true → b ≡ true
and_second true b h = h
and_second false b h = absurd cc

-- ---- fresh names are names

all_both : (p : ℕ → Bool) (xs ys : List ℕ) → list_all p xs ≡ true → list_all p ys ≡ true → list_all p (xs ++ ys) ≡ true
all_both p [] ys h k = k
all_both p (x ∷ xs) ys h k = and_both (p x) (list_all p (xs ++ ys)) (and_first (p x) (list_all p xs) h) (all_both p xs ys (and_second (p x) (list_all p xs) h) k)

all_before : (p : ℕ → Bool) (x : List ℕ) → list_all p x ≡ true → list_all p (before_colon x) ≡ true
all_before p [] h = refl
all_before p (b ∷ x) h = by (all_before p x (and_second (p b) (list_all p x) h)) (b == 58)
  where
    by : list_all p (before_colon x) ≡ true → (t : Bool) → list_all p (cond t [] (b ∷ before_colon x)) ≡ true
    by rest true = refl
    by rest false = and_both (p b) (list_all p (before_colon x)) (and_first (p b) (list_all p x) h) rest

all_from : (p : ℕ → Bool) (x : List ℕ) → list_all p x ≡ true → list_all p (from_colon x) ≡ true
all_from p [] h = refl
all_from p (b ∷ x) h = by (all_from p x (and_second (p b) (list_all p x) h)) (b == 58)
  where
    by : list_all p (from_colon x) ≡ true → (t : Bool) → list_all p (cond t (b ∷ x) (from_colon x)) ≡ true
    by rest true = h
    by rest false = rest

digit_byte : (b : ℕ) → is_digit b ≡ true → is_name_byte b ≡ true
digit_byte b h = by (is_letter b) (is_digit b) h
  where
    by : (l d : Bool) → d ≡ true → ((l || d) || list_any (λ c. b == c) (codes "_\\%:#!")) ≡ true
    by true d e = refl
    by false true e = refl
    by false false e = absurd cc

digits_are : (ds : List ℕ) → AllBelowBase 10 ds → list_all is_name_byte (map (λ d. 48 + d) ds) ≡ true
digits_are [] h = refl
digits_are (d ∷ ds) h =
    let low : nat_le 48 (48 + d) ≡ true = le-leb 48 (48 + d) (omega (arith)) in
    let high : nat_le (48 + d) 57 ≡ true = le-leb (48 + d) 57 (omega (arith, h.0)) in
    and_both (is_name_byte (48 + d)) _ (digit_byte (48 + d) (and_both (nat_le 48 (48 + d)) (nat_le (48 + d) 57) low high)) (digits_are ds h.1)

fresh_is_name : (b : List ℕ) (n : ℕ) → is_name b ≡ true → is_name (fresh_name b n) ≡ true
unfolding is_name fresh_name
fresh_is_name [] n h = absurd cc
fresh_is_name (x ∷ b) n h = by (x == 58) (all_before is_name_byte b (and_second (is_name_byte x) (list_all is_name_byte b) all))
  where
    first : not (is_digit x) ≡ true
    first = and_first (not (is_digit x)) (list_all is_name_byte (x ∷ b)) h

    all : list_all is_name_byte (x ∷ b) ≡ true
    all = and_second (not (is_digit x)) (list_all is_name_byte (x ∷ b)) h

    back : list_all is_name_byte (codes "#" ++ (numeral n ++ from_colon (x ∷ b))) ≡ true
    back = all_both is_name_byte (numeral n) (from_colon (x ∷ b)) (digits_are (digits_of 10 n) (all_below_base_digits_of 10 n (omega arith))) (all_from is_name_byte (x ∷ b) all)

    by : (t : Bool) → list_all is_name_byte (before_colon b) ≡ true → is_name (cond t [] (x ∷ before_colon b) ++ (codes "#" ++ (numeral n ++ from_colon (x ∷ b)))) ≡ true
    by true k = back
    by false k =
        and_both (not (is_digit x)) _ first
        (and_both (is_name_byte x) _ (and_first (is_name_byte x) (list_all is_name_byte b) all) (all_both is_name_byte (before_colon b) _ k back))

name_at : (bases : List (List ℕ)) → AreNames bases → (b : List ℕ) → In b bases → is_name b ≡ true
name_at [] h b i = absurd i
name_at (c ∷ bases) h b (inl e) = ap is_name e ∙ h.0
name_at (c ∷ bases) h b (inr i) = name_at bases h.1 b i

large_name : is_name large_base ≡ true
unfolding is_name
large_name = refl

var_fits : (x : List ℕ) → is_name x ≡ true → IsIntTerm (var x)
var_fits x h = and_both (is_name x && true) true (and_both (is_name x) true h refl) refl

-- ---- the property

formulas_fit : (fs : List Tree) → AllTerms IsFormula IsFormula fs → all_fit (each formula (kid_count (trees_of fs))) (trees_of fs) ≡ true
formulas_fit [] h = refl
formulas_fit (f ∷ fs) h = and_both (fits formula f) _ h.0 (formulas_fit fs h.1)

all_formulas : (fs : List Tree) → AllTerms IsFormula IsFormula fs → list_all (fits formula) fs ≡ true
all_formulas [] h = refl
all_formulas (f ∷ fs) h = and_both (fits formula f) (list_all (fits formula) fs) h.0 (all_formulas fs h.1)

two_fit : (a b : Bool) → a ≡ true → b ≡ true → (a && (b && true)) ≡ true
two_fit a b h k = ap₂ (λ x y. x && (y && true)) h k

module _ (bases : List (List ℕ)) (names : AreNames bases) where
  keeps : Keeps bases IsIntTerm IsFormula
  keeps = record {
    number = λ z. refl;
    name = λ b i n. var_fits (fresh_name b (suc n)) (fresh_is_name b (suc n) (name_at (large_base ∷ bases) (large_name, names) b i));
    equal = λ t u h k. two_fit (fits int t) (fits int u) h k;
    at_most = λ t u h k. two_fit (fits int t) (fits int u) h k;
    not_of = λ f h. and_both (fits formula f) true h refl;
    truth = refl;
    and_of = λ fs h. formulas_fit fs h;
    or_of = λ fs h. formulas_fit fs h;
  }

start_fine : (bases : List (List ℕ)) → AreNames bases → (os : List Origin) → AllTerms IsIntTerm IsFormula (start_slots bases os)
start_fine bases h [] = tt
start_fine [] h (o ∷ os) = tt
start_fine (b ∷ bases) h (own ∷ os) = (var_fits b h.0, start_fine bases h.1 os)
start_fine (b ∷ bases) h (fixed z ∷ os) = (refl, start_fine bases h.1 os)

pub goals_are_well_formed : GoalsAreWellFormed
goals_are_well_formed bases e a names facts writes g i =
    let k = keeps bases names in
    let ts = start_fine bases names e.origins in
    let w : Fine bases IsIntTerm IsFormula k (start_world bases e) = record { known = forms_fine bases IsIntTerm IsFormula k e.facts facts (start_slots bases e.origins ∷ []) (ts, tt); slots = ts } in
    let x = (walk_fine bases IsIntTerm IsFormula k a writes [] tt zero none_used (start_world bases e) w).goals g i in
    and_both (list_all (fits formula) g.known) (fits formula g.claim) (all_formulas g.known x.known) x.claim
