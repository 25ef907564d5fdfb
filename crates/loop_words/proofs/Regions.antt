-- Regions that are variables: which variables a set names, and whether one set lies in another.
use Rattle.std.proofs.Common.{◌≡◌, ℕ, ◌+◌, ◌-◌, pos, negsuc, ◌-ℤ◌, Bool, true, false, not, ◌&&◌, ◌||◌, List, [], ◌∷◌, length, Option, Some, None, refl, sym, ap, ◌∙◌, arith}
use Rattle.std.specs.Prelude.{◌==◌, nat_lt, nat_le}
use Rattle.std.specs.List.{list_all}
use Rattle.std.proofs.lemmas.Bool.{false≢true, false_from_ne_true, ltb-true, lt-ltb}
use Rattle.std.proofs.lemmas.Int.{ints}
use Rattle.std.proofs.lemmas.Bool.Decides.{Decides-eqb}
use Rattle.wp_base.specs.declared.kinds.CellKind.TheVariants as cell
use Rattle.wp_base.specs.declared.kinds.Kind.{Kind}
use Rattle.typed_prog.specs.declared.operators.Variable as code
use Rattle.typed_prog.specs.declared.operators.Variable.TheVariants as variables
use Rattle.acsl_trees.specs.Tree as acsl
use Rattle.c_runs.specs.TruthStates as labelled
use Rattle.c_runs.specs.TruthStates.{Value, covers, one_address, region, span_of, is_negative}
use Rattle.c_runs.specs.TruthAllowed.{is_named}
use Rattle.qed_terms.specs.Operators.{is_zero, is_equal}
use Rattle.c_runs.specs.Program.{Facts}
use Rattle.c_runs.specs.States.{Granted, plain_globals, hidden}
use Rattle.c_runs.specs.Claims.{regions_of, value_of, may_change_local, lets_cell, lets_local}
use Rattle.goal_segments.specs.Sets.{lets_variable, region_inside, set_inside}
use Rattle.plain_states.specs.Scopes.{is_integer}
use Rattle.plain_states.proofs.Puts.{equal_is}
use Rattle.plain_runs.specs.Fitting.{Shape}
use Rattle.plain_runs.specs.Kept.{may_change_global}
use Rattle.plain_runs.proofs.Whole.{all_plain}
use Rattle.program_steps.specs.Terms.{is_region_of, same_variable, has_variable}
use Rattle.program_steps.specs.Functions.{AllOf, IsKnown, RegionFits}
use Rattle.program_steps.proofs.Filling.{on_bool}
use Rattle.program_steps.proofs.Granting.{and_so}
use Rattle.loop_words.specs.Sets.{region_variable}

-- ---- numbers of blocks

same_block : (z x : ℕ) → is_equal (negsuc z) (negsuc x) ≡ (x == z)
same_block z x = by (x == z) refl where
  same : (n : ℕ) → is_equal (negsuc n) (negsuc n) ≡ true
  same n = let d : negsuc n -ℤ negsuc n ≡ pos 0 = omega (arith, ints) in ap is_zero d

  parts : {a b : ℕ} → negsuc a ≡ negsuc b → a ≡ b
  parts e = cc

  by : (t : Bool) → (x == z) ≡ t → is_equal (negsuc z) (negsuc x) ≡ t
  by true e = ap (λ n. is_equal (negsuc n) (negsuc x)) (sym ((Decides-eqb x z).0 e)) ∙ same x
  by false e = on_bool (is_equal (negsuc z) (negsuc x)) (λ h. absurd (false≢true (sym e ∙ (Decides-eqb x z).1 (sym (parts (equal_is (negsuc z) (negsuc x) h)))))) (λ h. h)

-- two tests on numbers are the same where both say that numbers are
same_tests : (a b c d : ℕ) → (a ≡ b → c ≡ d) → (c ≡ d → a ≡ b) → (a == b) ≡ (c == d)
same_tests a b c d to from = by (c == d) refl where
  by : (t : Bool) → (c == d) ≡ t → (a == b) ≡ t
  by true e = (Decides-eqb a b).1 (from ((Decides-eqb c d).0 e))
  by false e = on_bool (a == b) (λ h. absurd (false≢true (sym e ∙ (Decides-eqb c d).1 (to ((Decides-eqb a b).0 h))))) (λ h. h)

differ : (a b : ℕ) → (a ≡ b → ⊥) → (a == b) ≡ false
differ a b h = on_bool (a == b) (λ e. absurd (h ((Decides-eqb a b).0 e))) (λ e. e)

-- ---- lists of tests

all_swap : {X Y : Type 0} (f : X → Y → Bool) (xs : List X) (ys : List Y) → list_all (λ x. list_all (f x) ys) xs ≡ list_all (λ y. list_all (λ x. f x y) xs) ys
all_swap f [] ys = all_true ys where
  all_true : {Y : Type 0} (ys : List Y) → true ≡ list_all (λ y. true) ys
  all_true [] = refl
  all_true (y ∷ ys) = all_true ys
all_swap {X} {Y} f (x ∷ xs) ys = ap (λ b. list_all (f x) ys && b) (all_swap f xs ys) ∙ split ys where
  regroup : (a b c d : Bool) → ((a && b) && (c && d)) ≡ ((a && c) && (b && d))
  regroup true true c d = refl
  regroup true false true d = refl
  regroup true false false d = refl
  regroup false b c d = refl

  split : (ys : List Y) → (list_all (f x) ys && list_all (λ y. list_all (λ x. f x y) xs) ys) ≡ list_all (λ y. list_all (λ x. f x y) (x ∷ xs)) ys
  split [] = refl
  split (y ∷ ys) = regroup (f x y) (list_all (f x) ys) (list_all (λ x. f x y) xs) (list_all (λ y. list_all (λ x. f x y) xs) ys)
      ∙ ap (λ b. (f x y && list_all (λ x. f x y) xs) && b) (split ys)

-- ---- what is so of each variable of a set

abbrev pub at_variable : (code.Variable → Bool) → Option code.Variable → Bool
at_variable f (Some x) = f x
at_variable f None = true

abbrev pub all_named : (code.Variable → Bool) → List acsl.Tree → Bool
all_named f rs = list_all (λ a. at_variable f (region_variable a)) rs

-- these sets let the variable change
abbrev pub may_change_it : Facts → List Granted → code.Variable → Bool
may_change_it p gs (variables.Global x) = may_change_global gs x
may_change_it p gs (variables.Local x) = may_change_local p gs x

module _ (p : Facts) (s : Shape) (globals : list_all is_integer p.globals ≡ true) where
  -- the number of its block
  abbrev pub block_of : code.Variable → ℕ
  block_of (variables.Global x) = x
  block_of (variables.Local x) = plain_globals p + x

  -- where the variables are
  pub record Homes (q : labelled.State) : Type 0 where
    pub is : (x : code.Variable) → IsKnown p s x → q.home x ≡ negsuc (block_of x)

  block_same : (x y : code.Variable) → IsKnown p s x → IsKnown p s y → (block_of x == block_of y) ≡ same_variable x y
  block_same (variables.Global x) (variables.Global y) k l = refl
  block_same (variables.Global x) (variables.Local y) k l = differ x (plain_globals p + y) (λ e. let c = all_plain p.globals globals in omega (arith, e, c, k))
  block_same (variables.Local x) (variables.Global y) k l = differ (plain_globals p + x) y (λ e. let c = all_plain p.globals globals in omega (arith, e, c, l))
  block_same (variables.Local x) (variables.Local y) k l = same_tests (plain_globals p + x) (plain_globals p + y) x y (λ e. omega (arith, e)) (λ e. omega (arith, e))

  -- a known variable in the place of a region's
  pub region_is : (a : acsl.Tree) (fits : RegionFits p s a) → region_variable a ≡ Some fits.variable
  region_is a fits = ap region_variable fits.is

  module _ (w : labelled.World) (homes : Homes w.here) where
    value_is : (a : acsl.Tree) (fits : RegionFits p s a) → value_of p w a ≡ region (cell.Of fits.kind ∷ []) (one_address (negsuc (block_of fits.variable)) (pos 0))
    value_is a fits = ap (value_of p w) fits.is ∙ ap (λ b. region (cell.Of fits.kind ∷ []) (one_address b (pos 0))) (homes.is fits.variable fits.known)

    covers_is : (k : Kind) (n x : ℕ) → covers (region (cell.Of k ∷ []) (one_address (negsuc n) (pos 0))) (negsuc x) (pos 0) ≡ is_equal (negsuc n) (negsuc x)
    covers_is k n x = and_so (is_equal (negsuc n) (negsuc x))

    -- a variable is named where its block is
    pub names_so : (x : code.Variable) → IsKnown p s x → (as_ : List acsl.Tree) → AllOf (RegionFits p s) as_ → is_named (regions_of p w as_) (negsuc (block_of x)) ≡ has_variable as_ x
    names_so x known [] fits = refl
    names_so x known (a ∷ as_) fits = λ i. one i || (names_so x known as_ fits.1 i) where
      one : covers (value_of p w a) (negsuc (block_of x)) (pos 0) ≡ is_region_of x a
      one = ap (λ v. covers v (negsuc (block_of x)) (pos 0)) (value_is a fits.0)
          ∙ covers_is fits.0.kind (block_of fits.0.variable) (block_of x)
          ∙ same_block (block_of fits.0.variable) (block_of x)
          ∙ block_same x fits.0.variable known fits.0.known
          ∙ sym (ap (is_region_of x) fits.0.is)

    -- ---- one set in another

    behind : (x : ℕ) → nat_lt (plain_globals p + x) (plain_globals p) ≡ false
    behind x = false_from_ne_true (nat_lt (plain_globals p + x) (plain_globals p)) (λ e. let l = ltb-true (plain_globals p + x) (plain_globals p) e in absurd (omega (arith, l)))

    among : (x : ℕ) → (plain_globals p + x) - plain_globals p ≡ x
    among x = omega arith

    lets_so : (g : Granted) (x : code.Variable) → IsKnown p s x → lets_variable p g (negsuc (block_of x)) ≡ may_change_it p (g ∷ []) x
    lets_so g (variables.Global x) known =
        let below : nat_lt x (plain_globals p) ≡ true = ap (nat_lt x) (all_plain p.globals globals) ∙ lt-ltb x (length p.globals) known in
        ap (λ t. is_named g.regions (negsuc x) || (not t && nat_le g.declared (x - plain_globals p))) below ∙ swap (is_named g.regions (negsuc x)) where
          swap : (b : Bool) → (b || false) ≡ (b && true)
          swap true = refl
          swap false = refl
    lets_so g (variables.Local x) known =
        ap (λ t. is_named g.regions (hidden p x) || (not t && nat_le g.declared ((plain_globals p + x) - plain_globals p))) (behind x)
        ∙ ap (λ k. is_named g.regions (hidden p x) || nat_le g.declared k) (among x)
        ∙ swap (is_named g.regions (hidden p x)) (nat_le g.declared x) where
          swap : (a b : Bool) → (a || b) ≡ ((b || a) && true)
          swap true true = refl
          swap true false = refl
          swap false true = refl
          swap false false = refl

    one_inside : (g : Granted) (a : acsl.Tree) (fits : RegionFits p s a) → region_inside p g (value_of p w a) ≡ may_change_it p (g ∷ []) fits.variable
    one_inside g a fits = ap (region_inside p g) (value_is a fits) ∙ lets_so g fits.variable fits.known

    all_more : (g : Granted) (gs : List Granted) (x : code.Variable) → (may_change_it p (g ∷ []) x && may_change_it p gs x) ≡ may_change_it p (g ∷ gs) x
    all_more g gs (variables.Global x) = ap (λ b. b && may_change_global gs x) (and_so (lets_cell cell.Ptr (negsuc x) (pos 0) g))
    all_more g gs (variables.Local x) = ap (λ b. b && may_change_local p gs x) (and_so (lets_local p x g))

    none_more : (x : code.Variable) → true ≡ may_change_it p [] x
    none_more (variables.Global x) = refl
    none_more (variables.Local x) = refl

    in_all : (gs : List Granted) (a : acsl.Tree) (fits : RegionFits p s a) → list_all (λ g. region_inside p g (value_of p w a)) gs ≡ may_change_it p gs fits.variable
    in_all [] a fits = none_more fits.variable
    in_all (g ∷ gs) a fits = (λ i. one_inside g a fits i && in_all gs a fits i) ∙ all_more g gs fits.variable

    over_regions : (gs : List Granted) (rs : List acsl.Tree) → AllOf (RegionFits p s) rs
        → list_all (λ r. list_all (λ g. region_inside p g r) gs) (regions_of p w rs) ≡ all_named (may_change_it p gs) rs
    over_regions gs [] fits = refl
    over_regions gs (a ∷ rs) fits =
        λ i. (in_all gs a fits.0 ∙ sym (ap (at_variable (may_change_it p gs)) (region_is a fits.0))) i && over_regions gs rs fits.1 i

    pub set_inside_so : (gs : List Granted) (rs : List acsl.Tree) → AllOf (RegionFits p s) rs → set_inside p gs (regions_of p w rs) ≡ all_named (may_change_it p gs) rs
    set_inside_so gs rs fits = all_swap (λ g r. region_inside p g r) gs (regions_of p w rs) ∙ over_regions gs rs fits
