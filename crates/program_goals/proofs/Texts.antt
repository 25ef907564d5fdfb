-- Goals are well formed, and their free names were given out.
use Rattle.std.proofs.Common.{◌≡◌, ℕ, zero, suc, ℤ, true, List, [], ◌∷◌, ◌||◌, refl, sym, subst, inl, inr, ⊎_elim}
use Rattle.std.specs.List.{list_all}
use Rattle.std.proofs.lemmas.Bool.{false≢true}
use Rattle.qed_terms.specs.declared.head.Sort.{Sort}
use Rattle.qed_terms.specs.Tree.{Tree, trees_of, num}
use Rattle.qed_terms.specs.WellFormed.{formula, int, fits, all_fit, each, kid_count}
use Rattle.qed_terms.specs.Free.{is_free}
use Rattle.qed_terms.specs.Fresh.{fresh_name, none_used}
use Rattle.qed_terms.specs.Names.{is_name}
use Rattle.qed_terms.specs.Setting.{world_of}
use Rattle.acsl_encode.specs.WellFormed.{IsInt, IsFormula}
use Rattle.walk_steps.specs.State.{In}
use Rattle.walk_steps.specs.World.{large_base}
use Rattle.walk_steps.specs.Laws.{Origin, own, fixed, start_slots, start_world}
use Rattle.walk_steps.specs.Texts.{AllTerms, IsGiven, NamesAreGiven}
use Rattle.walk_steps.proofs.Lists.{or_parts}
use Rattle.walk_steps.proofs.Written.{Keeps, Fine, walk_fine, forms_fine}
use Rattle.walk_steps.proofs.Given as given
use Rattle.program_steps.specs.Starting.{start_trees}
use Rattle.program_goals.specs.Words.{shape_in, others_of, fits_of, word_of, start_in}
use Rattle.program_goals.specs.Texts.{IsIntegerName, AreIntegerNames}
use Rattle.program_goals.specs.Laws.{GoalsAreWellFormed, GoalsHaveGivenNames}
use Rattle.program_goals.proofs.Names.{and_both, name_is_int, fresh_integer}
use Rattle.program_goals.proofs.Filled.{formula_filled, int_filled, name_given, formula_given}
use Rattle.program_goals.proofs.Formulas.{starts_fit}
use Rattle.program_goals.proofs.Writes.{Fills, knows_write, function_writes}
use Rattle.program_goals.proofs.Others.{others_write}

-- ---- well formed

formulas_fit : (fs : List Tree) → AllTerms IsFormula IsFormula fs → all_fit (each formula (kid_count (trees_of fs))) (trees_of fs) ≡ true
formulas_fit [] h = refl
formulas_fit (f ∷ fs) h = and_both h.0 (formulas_fit fs h.1)

all_formulas : (fs : List Tree) → AllTerms IsFormula IsFormula fs → list_all (fits formula) fs ≡ true
all_formulas [] h = refl
all_formulas (f ∷ fs) h = and_both h.0 (all_formulas fs h.1)

large_integer : IsIntegerName large_base
unfolding is_name
large_integer = record { name = refl; behind = refl }

integer_at : (bases : List (List ℕ)) → AreIntegerNames bases → (b : List ℕ) → In b bases → IsIntegerName b
integer_at [] h b i = absurd i
integer_at (c ∷ bases) h b (inl e) = subst IsIntegerName (sym e) h.0
integer_at (c ∷ bases) h b (inr i) = integer_at bases h.1 b i

keeps : (bases : List (List ℕ)) → AreIntegerNames bases → Keeps bases IsInt IsFormula
keeps bases names = record {
  number = λ z. record { int = refl; argument = refl };
  name = λ b i n. name_is_int (fresh_name b (suc n)) (fresh_integer b (integer_at (large_base ∷ bases) (large_integer, names) b i) (suc n));
  equal = λ t u h k. and_both h.int (and_both k.int refl);
  at_most = λ t u h k. and_both h.int (and_both k.int refl);
  not_of = λ f h. and_both h refl;
  truth = refl;
  and_of = λ fs h. formulas_fit fs h;
  or_of = λ fs h. formulas_fit fs h;
}

pub well_formed : Fills IsInt IsFormula
well_formed = record {
  form = λ f h ss slots. formula_filled ss slots f h;
  number = λ u h c ss slots. int_filled ss slots u h c;
  at_least = λ z u h. and_both refl (and_both h.int refl);
  up_to = λ z u h. and_both h.int (and_both refl refl);
}

start_integer : (bases : List (List ℕ)) → AreIntegerNames bases → (os : List Origin) → AllTerms IsInt IsFormula (start_slots bases os)
start_integer bases h [] = tt
start_integer [] h (o ∷ os) = tt
start_integer (b ∷ bases) h (own ∷ os) = (name_is_int b h.0, start_integer bases h.1 os)
start_integer (b ∷ bases) h (fixed z ∷ os) = (record { int = refl; argument = refl }, start_integer bases h.1 os)

pub goals_are_well_formed : GoalsAreWellFormed
goals_are_well_formed setting q texts written fits named n f is names a listed =
    let m = world_of setting in
    let g = written n in
    let e = start_in m q texts n f g in
    let word = word_of m q texts n f g in
    let k = keeps g.bases names in
    let ts = start_integer g.bases names e.origins in
    let facts = knows_write IsInt IsFormula well_formed m (start_trees m q.facts (shape_in f g) texts f) (starts_fit q.facts (shape_in f g) texts named m f) in
    let writes = function_writes IsInt IsFormula well_formed m q.facts (shape_in f g) texts named (others_of m q texts n f g) (fits_of m q texts n f g)
    (others_write IsInt IsFormula well_formed m q texts named n f g) n f (fits.functions n f is).fits in
    let w : Fine g.bases IsInt IsFormula k (start_world g.bases e) = record { known = forms_fine g.bases IsInt IsFormula k e.facts facts (start_slots g.bases e.origins ∷ []) (ts, tt); slots = ts } in
    let x = (walk_fine g.bases IsInt IsFormula k word writes [] tt zero none_used (start_world g.bases e) w).goals a listed in
    and_both (all_formulas a.known x.known) x.claim

-- ---- names

module _ (bases : List (List ℕ)) where
  two_free : (t u : Tree) → NamesAreGiven bases t → NamesAreGiven bases u → (x : List ℕ) (s : Sort) → (is_free x s t || is_free x s u) ≡ true → IsGiven bases x
  two_free t u h k x s f = ⊎_elim (λ a. h x s a) (λ b. k x s b) (or_parts (is_free x s t) (is_free x s u) f)

  no_name : (z : ℤ) → NamesAreGiven bases (num z)
  no_name z x s f = absurd (false≢true f)

  pub names_given : Fills (NamesAreGiven bases) (NamesAreGiven bases)
  names_given = record {
    form = λ f h ss slots x s free. formula_given x s bases ss slots f h free;
    number = λ u h c ss slots x s free. name_given x s bases ss slots int u h c free;
    at_least = λ z u h x s free. two_free (num z) u (no_name z) h x s free;
    up_to = λ z u h x s free. two_free u (num z) h (no_name z) x s free;
  }

pub goals_have_given_names : GoalsHaveGivenNames
goals_have_given_names setting q texts written fits named n f is a listed =
    let m = world_of setting in
    let g = written n in
    let P = NamesAreGiven g.bases in
    given.goals_have_given_names g.bases (start_in m q texts n f g) (word_of m q texts n f g)
    (knows_write P P (names_given g.bases) m (start_trees m q.facts (shape_in f g) texts f) (starts_fit q.facts (shape_in f g) texts named m f))
    (function_writes P P (names_given g.bases) m q.facts (shape_in f g) texts named (others_of m q texts n f g) (fits_of m q texts n f g)
    (others_write P P (names_given g.bases) m q texts named n f g) n f (fits.functions n f is).fits) a listed
