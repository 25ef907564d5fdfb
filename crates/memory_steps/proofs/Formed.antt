-- Well formed goals.
use Rattle.std.proofs.Common.{◌≡◌, ℕ, zero, suc, ◌+◌, ◌==◌, Bool, true, false, cond, not, ◌&&◌, ◌||◌, List, [], ◌∷◌, ◌++◌, map, length, codes, refl, sym, ap, ap₂, ◌∙◌, subst, inl, inr, arith}
use Rattle.std.proofs.lemmas.Bool.{le-leb}
use Rattle.std.specs.Prelude.{nat_le}
use Rattle.std.specs.List.{list_all, list_any}
use Rattle.std.specs.Int.Digits.{digits_of, AllBelowBase}
use Rattle.std.proofs.lemmas.Int.Digits.{all_below_base_digits_of}
use Rattle.qed_terms.specs.Tree.{Tree, trees_of, num}
use Rattle.qed_terms.specs.Names.{is_digit, is_letter, is_name_byte, is_name, before_colon}
use Rattle.qed_terms.specs.Fresh.{fresh_name, from_colon, numeral, none_used}
use Rattle.qed_terms.specs.WellFormed.{int, mem, tab, formula, each, kid_count, fits, all_fit}
use Rattle.walk_steps.specs.State.{In}
use Rattle.walk_steps.specs.World.{large_base}
use Rattle.memory_steps.specs.State.{Base}
use Rattle.memory_steps.specs.World.{name_for, table_var, count_base}
use Rattle.memory_steps.specs.Laws.{Origin, own, fixed, table_name, start_terms, start_slots, OriginsFit, start_world}
use Rattle.memory_steps.specs.Texts as texts
use Rattle.memory_steps.specs.Texts.{IsNumberTerm, IsMemoryTerm, IsTableTerm, IsFormula, AreNames, GoalsAreWellFormed}
use Rattle.memory_steps.proofs.Written.{Keeps, Fine, Written, walk_fine, claims_fine}

and_both : (a b : Bool) → a ≡ true → b ≡ true → (a && b) ≡ true
and_both a b h k = ap₂ (λ x y. x && y) h k

and_first : (a b : Bool) → (a && b) ≡ true → a ≡ true
and_first true b h = refl
and_first false b h = absurd cc

and_second : (a b : Bool) → (a && b) ≡ true → b ≡ true
and_second true b h = h
and_second false b h = absurd cc

-- ---- fresh names are names

all_both : (p : ℕ → Bool) (xs ys : List ℕ) → list_all p xs ≡ true → list_all p ys ≡ true → list_all p (xs ++ ys) ≡ true
all_both p [] ys h k = k
all_both p (x ∷ xs) ys h k = and_both (p x) (list_all p (xs ++ ys)) (and_first (p x) (list_all p xs) h) (all_both p xs ys (and_second (p x) (list_all p xs) h) k)

all_before : (p : ℕ → Bool) (x : List ℕ) → list_all p x ≡ true → list_all p (before_colon x) ≡ true
all_before p [] h = refl
all_before p (b ∷ x) h = by (all_before p x (and_second (p b) (list_all p x) h)) (b == 58)
  where
    by : list_all p (before_colon x) ≡ true → (t : Bool) → list_all p (cond t [] (b ∷ before_colon x)) ≡ true
    by rest true = refl
    by rest false = and_both (p b) (list_all p (before_colon x)) (and_first (p b) (list_all p x) h) rest

all_from : (p : ℕ → Bool) (x : List ℕ) → list_all p x ≡ true → list_all p (from_colon x) ≡ true
all_from p [] h = refl
all_from p (b ∷ x) h = by (all_from p x (and_second (p b) (list_all p x) h)) (b == 58)
  where
    by : list_all p (from_colon x) ≡ true → (t : Bool) → list_all p (cond t (b ∷ x) (from_colon x)) ≡ true
    by rest true = h
    by rest false = rest

digit_byte : (b : ℕ) → is_digit b ≡ true → is_name_byte b ≡ true
digit_byte b h = by (is_letter b) (is_digit b) h
  where
    by : (l d : Bool) → d ≡ true → ((l || d) || list_any (λ c. b == c) (codes "_\\%:#!")) ≡ true
    by true d e = refl
    by false true e = refl
    by false false e = absurd cc

digits_are : (ds : List ℕ) → AllBelowBase 10 ds → list_all is_name_byte (map (λ d. 48 + d) ds) ≡ true
digits_are [] h = refl
digits_are (d ∷ ds) h =
    let low : nat_le 48 (48 + d) ≡ true = le-leb 48 (48 + d) (omega (arith)) in
    let high : nat_le (48 + d) 57 ≡ true = le-leb (48 + d) 57 (omega (arith, h.0)) in
    and_both (is_name_byte (48 + d)) _ (digit_byte (48 + d) (and_both (nat_le 48 (48 + d)) (nat_le (48 + d) 57) low high)) (digits_are ds h.1)

fresh_is_name : (b : List ℕ) (n : ℕ) → is_name b ≡ true → is_name (fresh_name b n) ≡ true
unfolding is_name fresh_name
fresh_is_name [] n h = absurd cc
fresh_is_name (x ∷ b) n h = by (x == 58) (all_before is_name_byte b (and_second (is_name_byte x) (list_all is_name_byte b) all))
  where
    first : not (is_digit x) ≡ true
    first = and_first (not (is_digit x)) (list_all is_name_byte (x ∷ b)) h

    all : list_all is_name_byte (x ∷ b) ≡ true
    all = and_second (not (is_digit x)) (list_all is_name_byte (x ∷ b)) h

    back : list_all is_name_byte (codes "#" ++ (numeral n ++ from_colon (x ∷ b))) ≡ true
    back = all_both is_name_byte (numeral n) (from_colon (x ∷ b)) (digits_are (digits_of 10 n) (all_below_base_digits_of 10 n (omega arith))) (all_from is_name_byte (x ∷ b) all)

    by : (t : Bool) → list_all is_name_byte (before_colon b) ≡ true → is_name (cond t [] (x ∷ before_colon b) ++ (codes "#" ++ (numeral n ++ from_colon (x ∷ b)))) ≡ true
    by true k = back
    by false k =
        and_both (not (is_digit x)) _ first
        (and_both (is_name_byte x) _ (and_first (is_name_byte x) (list_all is_name_byte b) all) (all_both is_name_byte (before_colon b) _ k back))

name_of : (bases : List Base) → AreNames bases → (b : Base) → In b bases → is_name b.name ≡ true
name_of [] h b i = absurd i
name_of (c ∷ bases) h b (inl e) = ap (λ (b : Base). is_name b.name) e ∙ h.0
name_of (c ∷ bases) h b (inr i) = name_of bases h.1 b i

known_names : (is_name large_base ≡ true) × (is_name count_base.name ≡ true) × (is_name table_name ≡ true)
unfolding is_name
known_names = (refl, refl, refl)

abbrev OfSort : Bool → Tree → Type 0
OfSort = texts.OfSort [] IsNumberTerm IsMemoryTerm IsTableTerm IsFormula

var_fits : (s : Bool) (x : List ℕ) → is_name x ≡ true → OfSort s (name_for s x)
var_fits true x h = and_both (is_name x && true) true (and_both (is_name x) true h refl) refl
var_fits false x h = and_both (is_name x && true) true (and_both (is_name x) true h refl) refl

table_fits : (x : List ℕ) → is_name x ≡ true → IsTableTerm (table_var x)
table_fits x h = and_both (is_name x && true) true (and_both (is_name x) true h refl) refl

-- ---- the property

abbrev AllFormulas : List Tree → Type 0
AllFormulas = texts.AllFormulas [] IsNumberTerm IsMemoryTerm IsTableTerm IsFormula

formulas_fit : (fs : List Tree) → AllFormulas fs → all_fit (each formula (kid_count (trees_of fs))) (trees_of fs) ≡ true
formulas_fit [] h = refl
formulas_fit (f ∷ fs) h = and_both (fits formula f) _ h.0 (formulas_fit fs h.1)

all_formulas : (fs : List Tree) → AllFormulas fs → list_all (fits formula) fs ≡ true
all_formulas [] h = refl
all_formulas (f ∷ fs) h = and_both (fits formula f) (list_all (fits formula) fs) h.0 (all_formulas fs h.1)

two_fit : (a b : Bool) → a ≡ true → b ≡ true → (a && (b && true)) ≡ true
two_fit a b h k = ap₂ (λ x y. x && (y && true)) h k

module _ (bases : List Base) (names : AreNames bases) where
  keeps : Keeps bases IsNumberTerm IsMemoryTerm IsTableTerm IsFormula
  keeps = record {
    number = λ z. refl;
    name = λ b i n. var_fits b.is_memory (fresh_name b.name (suc n)) (fresh_is_name b.name (suc n) (name_of bases names b i));
    large = λ n. var_fits false (fresh_name large_base (suc n)) (fresh_is_name large_base (suc n) known_names.0);
    counted = λ n. var_fits false (fresh_name count_base.name (suc n)) (fresh_is_name count_base.name (suc n) known_names.1);
    equal = λ t u h k. two_fit (fits int t) (fits int u) h k;
    same = λ t u h k. two_fit (fits mem t) (fits mem u) h k;
    at_most = λ t u h k. two_fit (fits int t) (fits int u) h k;
    count = λ t h. and_both (fits tab t) true h refl;
    grow = λ t c h k. two_fit (fits tab t) (fits int c) h k;
    alloc = λ t l h. and_both (fits tab t) true h refl;
    not_of = λ f h. and_both (fits formula f) true h refl;
    truth = refl;
    and_of = λ fs h. formulas_fit fs h;
    or_of = λ fs h. formulas_fit fs h;
  }

start_fine : (bases : List Base) → AreNames bases → (os : List Origin) → length os ≡ length bases → OriginsFit bases os
    → texts.AllTerms [] IsNumberTerm IsMemoryTerm IsTableTerm IsFormula bases (start_terms bases os)
start_fine [] h [] l o = tt
start_fine (b ∷ bases) h [] l o = absurd cc
start_fine [] h (x ∷ os) l o = absurd cc
start_fine (b ∷ bases) h (own ∷ os) l o = (var_fits b.is_memory b.name h.0, start_fine bases h.1 os (cc) o.1)
start_fine (b ∷ bases) h (fixed z ∷ os) l o = (subst (λ s. OfSort s (num z)) (sym o.0) refl, start_fine bases h.1 os (cc) o.1)

pub goals_are_well_formed : GoalsAreWellFormed
goals_are_well_formed bases e a size fit names facts writes g i =
    let k = keeps bases names in
    let ss : Written bases IsNumberTerm IsMemoryTerm IsTableTerm IsFormula k (start_slots bases e.origins) =
    let t = table_fits table_name known_names.2 in
    record { terms = start_fine bases names e.origins size fit; table = t; trail = (t, tt) }
    in
    let w : Fine bases IsNumberTerm IsMemoryTerm IsTableTerm IsFormula k (start_world bases e) =
    record { known = claims_fine bases IsNumberTerm IsMemoryTerm IsTableTerm IsFormula k e.facts facts (start_slots bases e.origins ∷ []) (ss, tt); slots = ss }
    in
    let x = (walk_fine bases IsNumberTerm IsMemoryTerm IsTableTerm IsFormula k a writes [] tt zero none_used (start_world bases e) w).goals g i in
    and_both (list_all (fits formula) g.known) (fits formula g.claim) (all_formulas g.known x.known) x.claim
