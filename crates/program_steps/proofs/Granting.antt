-- What is asked before a write says whether the clauses of the function let it.
use Rattle.std.proofs.Common.{◌≡◌, ◌⊎◌, ℕ, zero, suc, ◌+◌, ◌<◌, ◌≤◌, ℤ, pos, negsuc, ◌-ℤ◌, Bool, true, false, not, ◌&&◌, ◌||◌, if◌then◌else◌, List, [], ◌∷◌, ◌++◌, map, length, Option, Some, None, slice_get, refl, sym, ap, ◌∙◌, subst, arith}
use Rattle.std.specs.Prelude.{◌==◌, nat_le}
use Rattle.std.specs.List.{list_all, list_any}
use Rattle.std.proofs.lemmas.Bool.{false≢true, and_parts, le-leb}
use Rattle.std.proofs.lemmas.Int.{ints}
use Rattle.std.proofs.lemmas.Bool.Decides.{Decides-eqb}
use Rattle.wp_base.specs.declared.kinds.CellKind.TheVariants as cell
use Rattle.wp_base.specs.declared.kinds.Kind.{Kind}
use Rattle.wp_base.specs.Blocks.{count}
use Rattle.typed_prog.specs.declared.operators.Variable as code
use Rattle.typed_prog.specs.declared.operators.Variable.TheVariants as variables
use Rattle.acsl_trees.specs.Tree as acsl
use Rattle.acsl_trees.specs.declared.heads.Content.TheVariants as content
use Rattle.acsl_trees.specs.declared.heads.Head.TheVariants as head
use Rattle.c_runs.specs.TruthStates as labelled
use Rattle.c_runs.specs.TruthStates.{Value, covers, one_address, region}
use Rattle.c_runs.specs.TruthAllowed.{is_named}
use Rattle.qed_terms.specs.Meaning as sense
use Rattle.qed_terms.specs.Meaning.{truth}
use Rattle.qed_terms.specs.Operators.{is_zero, is_equal}
use Rattle.qed_terms.specs.Tree.{Tree, false_tree}
use Rattle.c_runs.specs.Program.{Behavior, Contract, Facts, Variable}
use Rattle.c_runs.specs.States.{Granted, plain_globals, hidden}
use Rattle.acsl_encode.specs.Encode as encode
use Rattle.c_runs.specs.Claims.{holds, is_assumed, regions_of, value_of, granted_by, granted_in, lets_cell, lets_local}
use Rattle.plain_states.specs.Slots.{State}
use Rattle.plain_states.specs.Scopes.{is_integer}
use Rattle.plain_states.proofs.Scoping.{found_below}
use Rattle.plain_states.proofs.Puts.{equal_is}
use Rattle.goal_segments.specs.Told.{Shape}
use Rattle.goal_segments.proofs.Told.{all_plain}
use Rattle.program_steps.specs.Leaves.{is_closed, closed, leaves_of}
use Rattle.program_steps.specs.Terms.{Texts, is_region_of, same_variable, has_variable}
use Rattle.program_steps.specs.Words.{lacks, under, as_one, as_one_unless, missing_in, missing_all}
use Rattle.program_steps.specs.Standing.{SeenAs, SeenBy}
use Rattle.program_steps.specs.Placed.{all_told}
use Rattle.program_steps.specs.Functions.{AllOf, IsKnown, RegionFits, SetFits, BehaviorFits, behavior_tree}
use Rattle.program_steps.proofs.Filling.{on_bool}
use Rattle.program_steps.proofs.Asking.{closed_told}
use Rattle.program_steps.proofs.Scoping.{found_at}
use Rattle.program_steps.proofs.Tests.{all_closed, all_so}
use Rattle.program_steps.proofs.Contracts.{Tells, told_so, behavior_tells}

pub and_so : (b : Bool) → (b && true) ≡ b
and_so true = refl
and_so false = refl

pub all_append : {X : Type 0} (f : X → Bool) (xs ys : List X) → list_all f (xs ++ ys) ≡ (list_all f xs && list_all f ys)
all_append f [] ys = refl
all_append f (x ∷ xs) ys = ap (λ b. f x && b) (all_append f xs ys) ∙ grouped (f x) (list_all f xs) (list_all f ys) where
  grouped : (a b c : Bool) → (a && (b && c)) ≡ ((a && b) && c)
  grouped true b c = refl
  grouped false b c = refl

-- ---- regions that are variables

covers_is : (k : Kind) (b : ℤ) (x : ℕ) → covers (region (cell.Of k ∷ []) (one_address b (pos 0))) (negsuc x) (pos 0) ≡ is_equal b (negsuc x)
covers_is k b x = and_so (is_equal b (negsuc x))

same_block : (z x : ℕ) → is_equal (negsuc z) (negsuc x) ≡ (x == z)
same_block z x = by (x == z) refl where
  same : (n : ℕ) → is_equal (negsuc n) (negsuc n) ≡ true
  same n = let d : negsuc n -ℤ negsuc n ≡ pos 0 = omega (arith, ints) in ap is_zero d

  parts : {a b : ℕ} → negsuc a ≡ negsuc b → a ≡ b
  parts e = cc

  by : (t : Bool) → (x == z) ≡ t → is_equal (negsuc z) (negsuc x) ≡ t
  by true e = ap (λ n. is_equal (negsuc n) (negsuc x)) (sym ((Decides-eqb x z).0 e)) ∙ same x
  by false e = on_bool (is_equal (negsuc z) (negsuc x)) (λ h. absurd (false≢true (sym e ∙ (Decides-eqb x z).1 (sym (parts (equal_is (negsuc z) (negsuc x) h)))))) (λ h. h)

module _ (m : sense.World) (p : Facts) (s : Shape) (texts : Texts) (globals : list_all is_integer p.globals ≡ true) (st' st : State) (w : labelled.World)
    (seen : SeenBy p s w (st' ∷ st ∷ []) 1 1 1) (n : ℤ) where
  abbrev sts : List State
  sts = st' ∷ st ∷ []

  module _ (x : ℕ) (v : Variable) (found : slice_get p.globals x ≡ Some v) where
    x_below : x < length p.globals
    x_below = found_below p.globals x v found

    home_so : (y : code.Variable) → IsKnown p s y → is_equal (w.here.home y) (negsuc x) ≡ same_variable (variables.Global x) y
    home_so (variables.Global z) known =
        let u = found_at p.globals z known in
        ap (λ b. is_equal b (negsuc x)) (seen.here_is.file_homes z u.0 u.1) ∙ same_block z x
    home_so (variables.Local z) known =
        let u = found_at s.variables z known in
        ap (λ b. is_equal b (negsuc x)) (seen.here_is.homes z u.0 u.1) ∙ same_block (plain_globals p + z) x
        ∙ on_bool (x == (plain_globals p + z)) (λ e. absurd (let q = (Decides-eqb x (plain_globals p + z)).0 e in let c = all_plain p.globals globals in let l = x_below in omega (arith, q, c, l))) (λ e. e)

    region_so : (a : acsl.Tree) → RegionFits p s a → covers (value_of p w a) (negsuc x) (pos 0) ≡ is_region_of (variables.Global x) a
    region_so a fits =
        ap (λ a. covers (value_of p w a) (negsuc x) (pos 0)) fits.is
        ∙ covers_is fits.kind (w.here.home fits.variable) x ∙ home_so fits.variable fits.known
        ∙ sym (ap (is_region_of (variables.Global x)) fits.is)

    names_so : (as_ : List acsl.Tree) → AllOf (RegionFits p s) as_ → is_named (regions_of p w as_) (negsuc x) ≡ has_variable as_ (variables.Global x)
    names_so [] fits = refl
    names_so (a ∷ as_) fits = λ i. (region_so a fits.0 i) || (names_so as_ fits.1 i)

    abbrev lets : Granted → Bool
    lets g = lets_cell cell.Ptr (negsuc x) (pos 0) g

    -- of one behavior
    abbrev not_lacking : Behavior → Bool
    not_lacking b = not (is_assumed p w b) || not (lacks b.assigns (variables.Global x))

    granted_so : (b : Behavior) → SetFits p s b.assigns → list_all lets (if is_assumed p w b then granted_by p w n 0 b.assigns else []) ≡ not_lacking b
    granted_so b fits = by (is_assumed p w b) b.assigns fits where
      none : (a : Bool) → true ≡ (not a || true)
      none true = refl
      none false = refl

      by : (a : Bool) (o : Option (List acsl.Tree)) → SetFits p s o → list_all lets (if a then granted_by p w n 0 o else []) ≡ (not a || not (lacks o (variables.Global x)))
      by true None fits = refl
      by false None fits = refl
      by true (Some as_) fits = and_so (is_named (regions_of p w as_) (negsuc x)) ∙ names_so as_ fits ∙ twice (has_variable as_ (variables.Global x)) where
        twice : (b : Bool) → b ≡ not (not b)
        twice true = refl
        twice false = refl
      by false (Some as_) fits = refl

    missing_so : (plain : Bool) (b : Behavior) → BehaviorFits m p s texts b → (plain ≡ true → is_assumed p w b ≡ true)
        → (list_all (is_closed []) (missing_in p s texts 1 plain b (variables.Global x)) ≡ true)
        × (all_told m sts (missing_in p s texts 1 plain b (variables.Global x)) ≡ not_lacking b)
    missing_so plain b fits so = by (lacks b.assigns (variables.Global x)) where
      one : (plain : Bool) → (plain ≡ true → is_assumed p w b ≡ true)
          → (is_closed [] (under plain (behavior_tree m p s texts b) false_tree) ≡ true) × (truth m (leaves_of sts) (under plain (behavior_tree m p s texts b) false_tree) ≡ (not (is_assumed p w b) || false))
      one true so = (refl, sym (ap (λ a. not a || false) (so refl)))
      one false so = let h = behavior_tells m p s texts st' st w seen b fits in ((λ i. h.closed_so i && true), (λ i. not (h.true_so i) || false))

      by : (l : Bool) → (list_all (is_closed []) (if l then under plain (behavior_tree m p s texts b) false_tree ∷ [] else []) ≡ true)
          × (all_told m sts (if l then under plain (behavior_tree m p s texts b) false_tree ∷ [] else []) ≡ (not (is_assumed p w b) || not l))
      by true =
          let h = one plain so in (
            (λ i. h.0 i && true),
            and_so (truth m (leaves_of sts) (closed (under plain (behavior_tree m p s texts b) false_tree)))
                ∙ closed_told m sts (under plain (behavior_tree m p s texts b) false_tree) h.0 ∙ h.1,
          )
      by false = (refl, sym (none (is_assumed p w b))) where
        none : (a : Bool) → (not a || true) ≡ true
        none true = refl
        none false = refl

    one_more : (plain : Bool) (b : Behavior) (bs : List Behavior) (fits : BehaviorFits m p s texts b) (so : plain ≡ true → is_assumed p w b ≡ true)
        → (list_all (is_closed []) (missing_all p s texts 1 bs (variables.Global x)) ≡ true) × (all_told m sts (missing_all p s texts 1 bs (variables.Global x)) ≡ list_all lets (granted_in p w n bs))
        → (list_all (is_closed []) (missing_in p s texts 1 plain b (variables.Global x) ++ missing_all p s texts 1 bs (variables.Global x)) ≡ true)
        × (all_told m sts (missing_in p s texts 1 plain b (variables.Global x) ++ missing_all p s texts 1 bs (variables.Global x)) ≡ list_all lets (granted_in p w n (b ∷ bs)))
    one_more plain b bs fits so rest =
        let h = missing_so plain b fits so in
        let g = granted_so b fits.assigns in (
          all_append (is_closed []) (missing_in p s texts 1 plain b (variables.Global x)) (missing_all p s texts 1 bs (variables.Global x)) ∙ (λ i. h.0 i && rest.0 i),
          all_append (λ f. truth m (leaves_of sts) (closed f)) (missing_in p s texts 1 plain b (variables.Global x)) (missing_all p s texts 1 bs (variables.Global x))
              ∙ (λ i. (h.1 ∙ sym g) i && rest.1 i)
              ∙ sym (all_append lets (if is_assumed p w b then granted_by p w n 0 b.assigns else []) (granted_in p w n bs)),
        )

    behaviors_so : (bs : List Behavior) → AllOf (BehaviorFits m p s texts) bs
        → (list_all (is_closed []) (missing_all p s texts 1 bs (variables.Global x)) ≡ true)
        × (all_told m sts (missing_all p s texts 1 bs (variables.Global x)) ≡ list_all lets (granted_in p w n bs))
    behaviors_so [] fits = (refl, refl)
    behaviors_so (b ∷ bs) fits = one_more false b bs fits.0 (λ e. absurd (false≢true e)) (behaviors_so bs fits.1)

    each : (fs : List Tree) → list_all (is_closed []) fs ≡ true → all_told m sts fs ≡ list_all (truth m (leaves_of sts)) fs
    each [] h = refl
    each (f ∷ fs) h = let both = and_parts (is_closed [] f) (list_all (is_closed []) fs) h in λ i. (closed_told m sts f both.0 i) && (each fs both.1 i)

    one_so : (fs : List Tree) → list_all (is_closed []) fs ≡ true → all_told m sts (as_one fs) ≡ all_told m sts fs
    one_so [] h = refl
    one_so (f ∷ fs) h =
        and_so (truth m (leaves_of sts) (closed (encode.all_of (f ∷ fs)))) ∙ closed_told m sts (encode.all_of (f ∷ fs)) (all_closed (f ∷ fs) h) ∙ all_so m (leaves_of sts) (f ∷ fs) ∙ sym (each (f ∷ fs) h)

    unless_so : (refused : Bool) (fs : List Tree) → (refused ≡ true → all_told m sts fs ≡ false) → list_all (is_closed []) fs ≡ true
        → all_told m sts (as_one_unless refused fs) ≡ all_told m sts fs
    unless_so true fs none h = sym (none refl)
    unless_so false fs none h = one_so fs h

    -- the write of a variable of the file
    pub writes_so : (c : Contract) → BehaviorFits m p s texts c.plain → c.plain.assumes ≡ [] → AllOf (BehaviorFits m p s texts) c.behaviors
        → all_told m sts (as_one_unless (lacks c.plain.assigns (variables.Global x)) (missing_in p s texts 1 true c.plain (variables.Global x) ++ missing_all p s texts 1 c.behaviors (variables.Global x)))
        ≡ list_all lets (granted_in p w n (c.plain ∷ c.behaviors))
    writes_so c fits none behaviors =
        let h = one_more true c.plain c.behaviors fits (λ e. ap (list_all (holds p w)) none) (behaviors_so c.behaviors behaviors) in
        unless_so (lacks c.plain.assigns (variables.Global x)) (missing_in p s texts 1 true c.plain (variables.Global x) ++ missing_all p s texts 1 c.behaviors (variables.Global x))
        (λ refused. ap (λ l. all_told m sts ((if l then false_tree ∷ [] else []) ++ missing_all p s texts 1 c.behaviors (variables.Global x))) refused) h.0 ∙ h.1

  -- no variable of the function needs leave
  pub locals_so : (x : ℕ) (bs : List Behavior) → list_all (lets_local p x) (granted_in p w n bs) ≡ true
  locals_so x [] = refl
  locals_so x (b ∷ bs) =
      all_append (lets_local p x) (if is_assumed p w b then granted_by p w n 0 b.assigns else []) (granted_in p w n bs)
      ∙ (λ i. (by (is_assumed p w b) b.assigns i) && (locals_so x bs i))
    where
      by : (a : Bool) (o : Option (List acsl.Tree)) → list_all (lets_local p x) (if a then granted_by p w n 0 o else []) ≡ true
      by true None = refl
      by true (Some as_) = ap (λ t. (t || is_named (regions_of p w as_) (hidden p x)) && true) (le-leb 0 x (omega arith))
      by false o = refl
