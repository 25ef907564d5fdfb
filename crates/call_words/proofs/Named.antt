-- Sets of variables of the file: which of them a set names, and whether one set lies in another.
use Rattle.std.proofs.Common.{◌≡◌, ℕ, ◌+◌, ℤ, pos, negsuc, Bool, true, false, not, ◌&&◌, ◌||◌, List, [], ◌∷◌, Some, slice_get, refl, sym, ap, ◌∙◌, arith}
use Rattle.std.specs.Prelude.{◌==◌, ◌-ℤ◌, ◌-◌, nat_lt, nat_le}
use Rattle.std.specs.List.{list_all}
use Rattle.std.proofs.lemmas.Bool.{false≢true}
use Rattle.std.proofs.lemmas.Int.{ints}
use Rattle.std.proofs.lemmas.Bool.Decides.{Decides-eqb}
use Rattle.wp_base.specs.declared.kinds.CellKind.TheVariants as cell
use Rattle.wp_base.specs.declared.kinds.Kind.{Kind}
use Rattle.typed_prog.specs.declared.operators.Variable as code
use Rattle.typed_prog.specs.declared.operators.Variable.TheVariants as variables
use Rattle.typed_prog.specs.Tree as t
use Rattle.acsl_trees.specs.Tree as acsl
use Rattle.c_runs.specs.TruthStates as labelled
use Rattle.c_runs.specs.TruthStates.{Value, covers, one_address, region}
use Rattle.c_runs.specs.TruthAllowed.{is_named}
use Rattle.qed_terms.specs.Meaning as sense
use Rattle.qed_terms.specs.Operators.{is_zero, is_equal}
use Rattle.c_runs.specs.Program.{Function, Facts, Variable}
use Rattle.c_runs.specs.States.{Granted, plain_globals}
use Rattle.c_runs.specs.Claims.{regions_of, value_of}
use Rattle.c_runs.specs.Tree.{Steps}
use Rattle.goal_segments.specs.Sets.{region_inside}
use Rattle.plain_states.specs.Slots.{State}
use Rattle.plain_states.specs.Scopes.{is_integer}
use Rattle.plain_states.proofs.Scoping.{found_below}
use Rattle.plain_states.proofs.Puts.{equal_is}
use Rattle.plain_runs.specs.Fitting.{Shape}
use Rattle.plain_runs.proofs.Whole.{all_plain, outer}
use Rattle.program_steps.specs.Terms.{Texts, is_region_of, same_variable, has_variable}
use Rattle.program_steps.specs.Functions.{AllOf, IsKnown, RegionFits}
use Rattle.program_steps.specs.Standing.{SeenAs}
use Rattle.program_steps.proofs.Filling.{on_bool}
use Rattle.program_steps.proofs.Granting.{and_so}
use Rattle.program_steps.proofs.Scoping.{found_at}
use Rattle.program_steps.proofs.Seeing.{in_file}
use Rattle.call_words.specs.Sets.{is_in}
use Rattle.call_words.specs.Fits.{FileRegionFits}

same_block : (z x : ℕ) → is_equal (negsuc z) (negsuc x) ≡ (x == z)
same_block z x = by (x == z) refl where
  same : (n : ℕ) → is_equal (negsuc n) (negsuc n) ≡ true
  same n = let d : negsuc n -ℤ negsuc n ≡ pos 0 = omega (arith, ints) in ap is_zero d

  parts : {a b : ℕ} → negsuc a ≡ negsuc b → a ≡ b
  parts e = cc

  by : (b : Bool) → (x == z) ≡ b → is_equal (negsuc z) (negsuc x) ≡ b
  by true e = ap (λ n. is_equal (negsuc n) (negsuc x)) (sym ((Decides-eqb x z).0 e)) ∙ same x
  by false e = on_bool (is_equal (negsuc z) (negsuc x)) (λ h. absurd (false≢true (sym e ∙ (Decides-eqb x z).1 (sym (parts (equal_is (negsuc z) (negsuc x) h)))))) (λ h. h)

module _ (m : sense.World) (p : Facts) (s : Shape) (texts : Texts) (g : Function Steps) (es : t.Values) (globals : list_all is_integer p.globals ≡ true) where
  module _ (x : ℕ) (v : Variable) (found : slice_get p.globals x ≡ Some v) where
    -- ---- the caller's own sets

    module _ (w : labelled.World) (file st : State) (seen : SeenAs p s w.here file st) where
      home_so : (y : code.Variable) → IsKnown p s y → is_equal (w.here.home y) (negsuc x) ≡ same_variable (variables.Global x) y
      home_so (variables.Global z) known =
          let u = found_at p.globals z known in
          ap (λ b. is_equal b (negsuc x)) (seen.file_homes z u.0 u.1) ∙ same_block z x
      home_so (variables.Local z) known =
          let u = found_at s.variables z known in
          ap (λ b. is_equal b (negsuc x)) (seen.homes z u.0 u.1) ∙ same_block (plain_globals p + z) x
          ∙ on_bool (x == (plain_globals p + z))
          (λ e. absurd (let q = (Decides-eqb x (plain_globals p + z)).0 e in let c = all_plain p.globals globals in let l = found_below p.globals x v found in omega (arith, q, c, l))) (λ e. e)

      region_so : (a : acsl.Tree) → RegionFits p s a → covers (value_of p w a) (negsuc x) (pos 0) ≡ is_region_of (variables.Global x) a
      region_so a fits =
          ap (λ a. covers (value_of p w a) (negsuc x) (pos 0)) fits.is ∙ and_so (is_equal (w.here.home fits.variable) (negsuc x)) ∙ home_so fits.variable fits.known
          ∙ sym (ap (is_region_of (variables.Global x)) fits.is)

      pub names_own : (as_ : List acsl.Tree) → AllOf (RegionFits p s) as_ → is_named (regions_of p w as_) (negsuc x) ≡ has_variable as_ (variables.Global x)
      names_own [] fits = refl
      names_own (a ∷ as_) fits = λ i. (region_so a fits.0 i) || (names_own as_ fits.1 i)

  -- ---- sets of the function that is called

  abbrev pub HomesAre : labelled.World → Type 0
  HomesAre w = (x : ℕ) (v : Variable) → slice_get p.globals x ≡ Some v → w.here.home (variables.Global x) ≡ negsuc x

  module _ (w : labelled.World) (homes : HomesAre w) where
    home_at : (a : acsl.Tree) (fits : FileRegionFits m p s texts g es a) → w.here.home (variables.Global fits.number) ≡ negsuc fits.number
    home_at a fits = let u = found_at p.globals fits.number fits.known in homes fits.number u.0 u.1

    file_region_so : (x : ℕ) (a : acsl.Tree) → FileRegionFits m p s texts g es a → covers (value_of p w a) (negsuc x) (pos 0) ≡ is_region_of (variables.Global x) a
    file_region_so x a fits =
        ap (λ a. covers (value_of p w a) (negsuc x) (pos 0)) fits.is ∙ and_so (is_equal (w.here.home (variables.Global fits.number)) (negsuc x))
        ∙ ap (λ b. is_equal b (negsuc x)) (home_at a fits) ∙ same_block fits.number x ∙ sym (ap (is_region_of (variables.Global x)) fits.is)

    pub names_so : (x : ℕ) (as_ : List acsl.Tree) → AllOf (FileRegionFits m p s texts g es) as_ → is_named (regions_of p w as_) (negsuc x) ≡ has_variable as_ (variables.Global x)
    names_so x [] fits = refl
    names_so x (a ∷ as_) fits = λ i. (file_region_so x a fits.0 i) || (names_so x as_ fits.1 i)

    -- ---- inside of a set that names these variables

    module _ (around : Granted) (ws : List acsl.Tree) (names : (x : ℕ) (v : Variable) → slice_get p.globals x ≡ Some v → is_named around.regions (negsuc x) ≡ has_variable ws (variables.Global x)) where
      abbrev inside_at : ℤ → Kind → Bool
      inside_at b k = region_inside p around (region (cell.Of k ∷ []) (one_address b (pos 0)))

      variable_inside : (x : ℕ) (v : Variable) → slice_get p.globals x ≡ Some v → (k : Kind) → inside_at (negsuc x) k ≡ has_variable ws (variables.Global x)
      variable_inside x v e k =
          ap (λ b. is_named around.regions (negsuc x) || (not b && nat_le around.declared (x - plain_globals p))) (file_number x v e) ∙ or_so (is_named around.regions (negsuc x)) ∙ names x v e
        where
          file_number : (x : ℕ) (v : Variable) → slice_get p.globals x ≡ Some v → nat_lt x (plain_globals p) ≡ true
          file_number x v e = in_file p outer globals refl x v e

          or_so : (b : Bool) → (b || false) ≡ b
          or_so true = refl
          or_so false = refl

      region_in : (a : acsl.Tree) → FileRegionFits m p s texts g es a → region_inside p around (value_of p w a) ≡ is_in ws a
      region_in a fits =
          let u = found_at p.globals fits.number fits.known in
          ap (λ a. region_inside p around (value_of p w a)) fits.is ∙ ap (λ b. inside_at b fits.kind) (home_at a fits) ∙ variable_inside fits.number u.0 u.1 fits.kind ∙ sym (ap (is_in ws) fits.is)

      pub all_in : (as_ : List acsl.Tree) → AllOf (FileRegionFits m p s texts g es) as_ → list_all (region_inside p around) (regions_of p w as_) ≡ list_all (is_in ws) as_
      all_in [] fits = refl
      all_in (a ∷ as_) fits = λ i. (region_in a fits.0 i) && (all_in as_ fits.1 i)
