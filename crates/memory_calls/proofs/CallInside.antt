-- What is asked of the sets at a call says whether they lie in the sets in force.
use Rattle.std.proofs.Common.{◌≡◌, ℕ, ℤ, Bool, true, false, not, ◌&&◌, ◌||◌, if◌then◌else◌, List, [], ◌∷◌, ◌++◌, Option, Some, None, refl, sym, ap, ◌∙◌, subst}
use Rattle.std.specs.List.{list_all, list_any}
use Rattle.std.proofs.lemmas.Bool.{false≢true, and_parts}
use Rattle.typed_prog.specs.declared.operators.Variable as code
use Rattle.typed_prog.specs.declared.operators.Variable.TheVariants as variables
use Rattle.typed_prog.specs.Tree as t
use Rattle.acsl_trees.specs.Tree as acsl
use Rattle.c_runs.specs.TruthStates as labelled
use Rattle.c_runs.specs.TruthStates.{Value}
use Rattle.c_runs.specs.TruthAllowed as allowed
use Rattle.acsl_encode.specs.Readings as annotation
use Rattle.acsl_encode.specs.Meaning.{Stands}
use Rattle.qed_terms.specs.Meaning as sense
use Rattle.qed_terms.specs.Meaning.{truth, value}
use Rattle.qed_terms.specs.Tree.{Tree, false_tree}
use Rattle.c_runs.specs.Program.{Behavior, Function, Facts}
use Rattle.c_runs.specs.States.{Granted}
use Rattle.c_runs.specs.Claims.{holds, is_assumed, regions_of, granted_by, granted_in, parts_of}
use Rattle.c_runs.specs.Tree.{Steps}
use Rattle.goal_segments.specs.Sets.{lets_variable, region_inside, some_inside}
use Rattle.memory_steps.specs.State.{State}
use Rattle.memory_words.specs.Leaves.{leaves_of, is_closed}
use Rattle.memory_words.specs.Shapes.{FileCells, Shape}
use Rattle.memory_words.specs.Readings.{Texts, hidden_block}
use Rattle.memory_words.specs.Regions.{RegionTree, regions_in, regions_inside}
use Rattle.memory_words.specs.Sets.{has_variable}
use Rattle.memory_words.specs.Typed.{AllOf, is_plain_variable}
use Rattle.memory_statements.specs.Renewed.{is_closed_region}
use Rattle.memory_statements.specs.Regions.{set_of, HasEnds, AreRegions}
use Rattle.memory_calls.specs.LoopSets.{region_variable}
use Rattle.memory_calls.specs.LoopFits.{SetRegion, SetRegions, IsInSight}
use Rattle.memory_calls.proofs.Regions.{ReadsPlain, IsPlainSlot, entry_plain, regions_closed}
use Rattle.memory_calls.proofs.Including.{by_closed, by_told, lets_is, included_told}
use Rattle.memory_calls.specs.Callee.{entered_at}
use Rattle.memory_calls.specs.CallSets.{Around, only_under, is_named, all_named, callee_assumes, set_inside, clause_in, clauses_in, included}
use Rattle.memory_calls.specs.CallFits.{no_local, CalleeBehaviorFits, CalleeFits}
use Rattle.memory_calls.proofs.Tells.{any_append, Tells, AnyTells, tells_as, only_tells, no_tells, first_tells, either_tells, any_tells}
use Rattle.memory_calls.proofs.Claims.{callee_assumed}

twice : (b : Bool) → not (not b) ≡ b
twice true = refl
twice false = refl

or_so : (b : Bool) → (b || false) ≡ b
or_so true = refl
or_so false = refl

module _ (p : Facts) (s : Shape) (ws : List acsl.Tree) where
  -- none of them is refused
  named_is : (rs : List acsl.Tree) → all_named p s ws rs ≡ not (list_any (λ a. not (is_named p s ws (region_variable a))) rs)
  named_is [] = refl
  named_is (a ∷ rs) = ap (λ b. is_named p s ws (region_variable a) && b) (named_is rs) ∙ by (is_named p s ws (region_variable a)) (list_any (λ a. not (is_named p s ws (region_variable a))) rs) where
    by : (a b : Bool) → (a && not b) ≡ not (not a || b)
    by true b = refl
    by false b = refl

  others_named : (x : code.Variable) → is_plain_variable p s x ≡ false → not (is_named p s ws (Some x)) ≡ false
  others_named (variables.Global x) h = ap (λ t. not (not t || has_variable ws (variables.Global x))) h
  others_named (variables.Local x) h = refl

-- what a function that is called reads of variables that no pointer leads to
pub callee_plain : (p : Facts) (s : Shape) (cells : FileCells) (texts : Texts) (g : Function Steps) (es : t.Values) (l : ℕ)
    → ReadsPlain p s cells no_local (entered_at p s cells texts g es l)
callee_plain p s cells texts g es l = record { slots = slots; hidden = λ a x. refl } where
  slots : (a : acsl.Tree) (x : code.Variable) → is_plain_variable p s x ≡ true → IsInSight no_local x → IsPlainSlot ((entered_at p s cells texts g es l a).here.variable x)
  slots a (variables.Global x) h sight = (entry_plain p s cells texts l no_local).slots a (variables.Global x) h tt
  slots a (variables.Local x) h sight = absurd (false≢true sight)

module _ (m : sense.World) (p : Facts) (s : Shape) (cells : FileCells) (texts : Texts) (g : Function Steps) (es : t.Values) (sts : List State) (w : labelled.World)
    (stands : (a : acsl.Tree) → Stands m (entered_at p s cells texts g es 0 a) (leaves_of sts) w) (fits : CalleeFits m p s cells texts g es) (n : ℤ) where
  abbrev env : sense.Values
  env = leaves_of sts

  abbrev r : acsl.Tree → annotation.Reading
  r = entered_at p s cells texts g es 0

  abbrev pub clauses : List Granted
  clauses = granted_in p w n (parts_of g.contract)

  -- the terms of a set in force
  pub record AroundIs (around : Around) (vs : List Value) (n0 : ℤ) : Type 0 where
    pub closed_count : is_closed [] around.count ≡ true
    pub closed_regions : list_all is_closed_region around.regions ≡ true
    pub are : AreRegions (HasEnds m env) around.regions vs
    pub count_is : cells.has_blocks ≡ true → value m env around.count ≡ n0
    pub names : (x : ℕ) → is_plain_variable p s (variables.Global x) ≡ true
        → allowed.is_named vs (hidden_block p s cells (variables.Global x)) ≡ has_variable around.names (variables.Global x)

  module _ (around : Around) (vs : List Value) (n0 : ℤ) (is : AroundIs around vs n0) (d : ℕ) where
    abbrev set : Granted
    set = set_of vs n0 d

    lets_named : (x : code.Variable) → is_plain_variable p s x ≡ true → IsInSight no_local x
        → not (not (is_named p s around.names (Some x))) ≡ lets_variable p set (hidden_block p s cells x)
    lets_named (variables.Local x) plain sight = absurd (false≢true sight)
    lets_named (variables.Global x) plain sight =
        twice (is_named p s around.names (Some (variables.Global x))) ∙ ap (λ t. not t || has_variable around.names (variables.Global x)) plain
        ∙ sym (or_so (has_variable around.names (variables.Global x)))
        ∙ sym (lets_is p s cells around.names vs n0 d (variables.Global x) plain (is.names x plain))

    abbrev tree_of : List acsl.Tree → Tree
    tree_of rs = regions_inside around.count around.regions (regions_in r rs)

    one_closed : (gs : List RegionTree) → list_all is_closed_region gs ≡ true → is_closed [] (regions_inside around.count around.regions gs) ≡ true
    one_closed [] h = refl
    one_closed (q ∷ gs) h =
        (and_parts (is_closed [] (regions_inside around.count around.regions (q ∷ gs))) true
        (by_closed around.count is.closed_count around.regions is.closed_regions false (q ∷ gs) h)).0

    set_tells : (rs : List acsl.Tree) → AllOf (SetRegion m p s cells no_local r) rs
        → Tells m sts (set_inside p s cells texts g es around rs) (list_all (region_inside p set) (regions_of p w rs))
    set_tells rs fit = record {
      closed_so = closed_by (all_named p s around.names rs);
      true_so = true_by (all_named p s around.names rs)
          ∙ ap (λ b. b && truth m env (tree_of rs)) (named_is p s around.names rs)
          ∙ sym (by_told around.count is.closed_count around.regions is.closed_regions m sts refused (regions_in r rs) closed_rs)
          ∙ included_told m p s cells no_local r (callee_plain p s cells texts g es 0) sts w stands around.regions around.count is.closed_count is.closed_regions vs is.are n0
          is.count_is d (λ o. not (is_named p s around.names o)) refl (others_named p s around.names) lets_named rs fit;
    } where
      refused : Bool
      refused = list_any (λ a. not (is_named p s around.names (region_variable a))) rs

      closed_rs : list_all is_closed_region (regions_in r rs) ≡ true
      closed_rs = regions_closed m p s cells no_local r (callee_plain p s cells texts g es 0) sts w stands rs fit

      closed_by : (b : Bool) → is_closed [] (if b then tree_of rs else false_tree) ≡ true
      closed_by true = one_closed (regions_in r rs) closed_rs
      closed_by false = refl

      true_by : (b : Bool) → truth m env (if b then tree_of rs else false_tree) ≡ (b && truth m env (tree_of rs))
      true_by true = refl
      true_by false = refl

    -- ---- by each clause of it that counts

    abbrev inside : Granted → Bool
    inside c = list_all (region_inside p set) c.regions

    clause_tells : (plain : Bool) (b : Behavior) → CalleeBehaviorFits m p s cells texts g es b → (plain ≡ true → is_assumed p w b ≡ true) → (o : Option (List acsl.Tree))
        → SetRegions m p s cells no_local r o → AnyTells m sts (clause_in p s cells texts g es around plain b o) (list_any inside (if is_assumed p w b then granted_by p w n 0 o else []))
    clause_tells plain b fit so None ok = by (is_assumed p w b) where
      by : (a : Bool) → AnyTells m sts [] (list_any inside (if a then [] else []))
      by true = no_tells m sts
      by false = no_tells m sts
    clause_tells plain b fit so (Some rs) ok =
        let f = only_under plain (callee_assumes p s cells texts g es 0 b) (set_inside p s cells texts g es around rs) in
        first_tells m sts f (list_any inside (if is_assumed p w b then granted_by p w n 0 (Some rs) else []))
        (tells_as m sts f (is_assumed p w b && list_all (region_inside p set) (regions_of p w rs)) (list_any inside (if is_assumed p w b then granted_by p w n 0 (Some rs) else []))
        (by (is_assumed p w b))
        (only_tells m sts plain (callee_assumes p s cells texts g es 0 b) (set_inside p s cells texts g es around rs) (is_assumed p w b)
        (list_all (region_inside p set) (regions_of p w rs)) (callee_assumed m p s cells texts sts g es 0 w stands b fit) (set_tells rs ok) so))
      where
        by : (a : Bool) → (a && list_all (region_inside p set) (regions_of p w rs)) ≡ list_any inside (if a then granted_by p w n 0 (Some rs) else [])
        by true = sym (or_so (list_all (region_inside p set) (regions_of p w rs)))
        by false = refl

    clauses_tell : (bs : List Behavior) → AllOf (CalleeBehaviorFits m p s cells texts g es) bs
        → AnyTells m sts (clauses_in p s cells texts g es around bs) (list_any inside (granted_in p w n bs))
    clauses_tell [] fit = no_tells m sts
    clauses_tell (b ∷ bs) fit =
        subst (AnyTells m sts (clauses_in p s cells texts g es around (b ∷ bs)))
        (sym (any_append inside (if is_assumed p w b then granted_by p w n 0 b.assigns else []) (granted_in p w n bs)))
        (either_tells m sts (clause_in p s cells texts g es around false b b.assigns) (clauses_in p s cells texts g es around bs)
        (list_any inside (if is_assumed p w b then granted_by p w n 0 b.assigns else [])) (list_any inside (granted_in p w n bs))
        (clause_tells false b fit.0 (λ e. absurd (false≢true e)) b.assigns (fit.0.assigns 0)) (clauses_tell bs fit.1))

    -- some clause of it that counts lies in the set
    pub included_tells : Tells m sts (included p s cells texts g es around) (some_inside p clauses set)
    included_tells =
        let c = g.contract in
        let own = clause_in p s cells texts g es around true c.plain c.plain.assigns in
        let rest = clauses_in p s cells texts g es around c.behaviors in
        any_tells m sts (own ++ rest) (some_inside p clauses set)
        (subst (AnyTells m sts (own ++ rest)) (sym (any_append inside (if is_assumed p w c.plain then granted_by p w n 0 c.plain.assigns else []) (granted_in p w n c.behaviors)))
        (either_tells m sts own rest (list_any inside (if is_assumed p w c.plain then granted_by p w n 0 c.plain.assigns else [])) (list_any inside (granted_in p w n c.behaviors))
        (clause_tells true c.plain fits.plain (λ e. ap (list_all (holds p w)) fits.assumes) c.plain.assigns (fits.plain.assigns 0)) (clauses_tell c.behaviors fits.behaviors)))
