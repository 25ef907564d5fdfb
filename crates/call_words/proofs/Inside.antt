-- What is asked of the sets at a call says whether they lie in the set in force.
use Rattle.std.proofs.Common.{◌≡◌, ℕ, suc, Bool, true, false, not, ◌&&◌, ◌||◌, if◌then◌else◌, ℤ, negsuc, List, [], ◌∷◌, ◌++◌, Option, Some, None, slice_get, refl, sym, ap, ◌∙◌, subst}
use Rattle.std.specs.List.{list_all, list_any}
use Rattle.std.proofs.lemmas.Bool.{false≢true}
use Rattle.typed_prog.specs.declared.operators.Variable.TheVariants as variables
use Rattle.typed_prog.specs.Tree as t
use Rattle.acsl_trees.specs.Tree as acsl
use Rattle.c_runs.specs.TruthStates as labelled
use Rattle.c_runs.specs.TruthAllowed.{is_named}
use Rattle.qed_terms.specs.Meaning as sense
use Rattle.c_runs.specs.Program.{Behavior, Contract, Function, Facts, Variable}
use Rattle.c_runs.specs.States.{Granted, Here}
use Rattle.c_runs.specs.Claims.{holds, is_assumed, regions_of, granted_by, granted_in, parts_of, in_state}
use Rattle.c_runs.specs.Tree.{Steps}
use Rattle.goal_segments.specs.Sets.{region_inside, some_inside, call_inside}
use Rattle.plain_states.specs.Slots.{State}
use Rattle.plain_states.specs.Scopes.{is_integer}
use Rattle.plain_runs.specs.Fitting.{Shape}
use Rattle.program_steps.specs.Terms.{Texts, entry_reading, assumed_tree, has_variable}
use Rattle.program_steps.specs.Words.{Force, of_function, of_loop, Point, under}
use Rattle.program_steps.specs.Standing.{SeenBy}
use Rattle.program_steps.specs.Functions.{AllOf, SetFits}
use Rattle.program_steps.specs.Placed.{all_told}
use Rattle.program_steps.proofs.Granting.{all_append}
use Rattle.call_words.specs.Sets.{is_in, truth_tree, only_under, callee_assumes, clause_in, clauses_in, included, included_in, included_in_all, included_by, refuses, unless_nothing, inclusion_trees}
use Rattle.call_words.specs.Fits.{SeenCall, FileSetFits, CalleeBehaviorFits, CalleeFits, CallerBehaviorFits, CallerFits}
use Rattle.program_steps.specs.Carried.{GrantedBy}
use Rattle.call_words.proofs.Tells.{any_append, Tells, AllTell, AnyTells, tells_as, truth_tells, only_tells, under_tells, no_tells, first_tells, either_tells, any_tells, none_tell, more_tell, both_tell, all_as, unless_tells, one_tells}
use Rattle.call_words.proofs.Claims.{caller_assumes, callee_assumed}
use Rattle.call_words.proofs.Refusing.{refused_so}
use Rattle.call_words.proofs.Named.{names_own, HomesAre, all_in}

module _ (m : sense.World) (p : Facts) (s : Shape) (texts : Texts) (g : Function Steps) (es : t.Values) (globals : list_all is_integer p.globals ≡ true) (sts : List State)
    (w : labelled.World) (seen : SeenCall m p s texts g es w sts 0) (fits : CalleeFits m p s texts g es) (n : ℤ) where
  abbrev clauses : List Granted
  clauses = granted_in p w n (parts_of g.contract)

  homes : HomesAre m p s texts g es globals w
  homes x v e = seen.here_is.file_homes x v e

  -- ---- in one set

  abbrev Names : Granted → List acsl.Tree → Type 0
  Names around ws = (x : ℕ) (v : Variable) → slice_get p.globals x ≡ Some v → is_named around.regions (negsuc x) ≡ has_variable ws (variables.Global x)

  module _ (around : Granted) (ws : List acsl.Tree) (names : Names around ws) where
    abbrev inside : Granted → Bool
    inside c = list_all (region_inside p around) c.regions

    clause_tells : (plain : Bool) (b : Behavior) → CalleeBehaviorFits m p s texts g es b → (plain ≡ true → is_assumed p w b ≡ true) → (o : Option (List acsl.Tree))
        → FileSetFits m p s texts g es o → AnyTells m sts (clause_in p s texts g es ws plain b o) (list_any inside (if is_assumed p w b then granted_by p w n 0 o else []))
    clause_tells plain b fit so None set = by (is_assumed p w b) where
      by : (a : Bool) → AnyTells m sts [] (list_any inside (if a then [] else []))
      by true = no_tells m sts
      by false = no_tells m sts
    clause_tells plain b fit so (Some rs) set =
        let f = only_under plain (callee_assumes p s texts g es 0 b) (truth_tree (list_all (is_in ws) rs)) in
        first_tells m sts f (list_any inside (if is_assumed p w b then granted_by p w n 0 (Some rs) else []))
        (tells_as m sts f (is_assumed p w b && list_all (is_in ws) rs) (list_any inside (if is_assumed p w b then granted_by p w n 0 (Some rs) else []))
        (ap (λ z. is_assumed p w b && z) (sym (all_in m p s texts g es globals w homes around ws names rs set)) ∙ by (is_assumed p w b) (list_all (region_inside p around) (regions_of p w rs)) refl)
        (only_tells m sts plain (callee_assumes p s texts g es 0 b) (truth_tree (list_all (is_in ws) rs)) (is_assumed p w b) (list_all (is_in ws) rs)
        (callee_assumed m p s texts sts g es 0 w seen b fit) (truth_tells m sts (list_all (is_in ws) rs)) so))
      where
        or_so : (x : Bool) → x ≡ (x || false)
        or_so true = refl
        or_so false = refl

        by : (a x : Bool) → list_all (region_inside p around) (regions_of p w rs) ≡ x → (a && x) ≡ list_any inside (if a then granted_by p w n 0 (Some rs) else [])
        by true x e = sym e ∙ or_so (list_all (region_inside p around) (regions_of p w rs))
        by false x e = refl

    clauses_tell : (bs : List Behavior) → AllOf (CalleeBehaviorFits m p s texts g es) bs → AnyTells m sts (clauses_in p s texts g es ws bs) (list_any inside (granted_in p w n bs))
    clauses_tell [] fit = no_tells m sts
    clauses_tell (b ∷ bs) fit = subst (AnyTells m sts (clauses_in p s texts g es ws (b ∷ bs))) (sym (any_append inside (if is_assumed p w b then granted_by p w n 0 b.assigns else []) (granted_in p w n bs)))
        (either_tells m sts (clause_in p s texts g es ws false b b.assigns) (clauses_in p s texts g es ws bs) (list_any inside (if is_assumed p w b then granted_by p w n 0 b.assigns else [])) (list_any inside (granted_in p w n bs))
        (clause_tells false b fit.0 (λ e. absurd (false≢true e)) b.assigns fit.0.assigns) (clauses_tell bs fit.1))

    included_tells : Tells m sts (included p s texts g es ws) (some_inside p clauses around)
    included_tells =
        let c = g.contract in
        any_tells m sts (clause_in p s texts g es ws true c.plain c.plain.assigns ++ clauses_in p s texts g es ws c.behaviors) (some_inside p clauses around)
        (subst (AnyTells m sts (clause_in p s texts g es ws true c.plain c.plain.assigns ++ clauses_in p s texts g es ws c.behaviors))
        (sym (any_append inside (if is_assumed p w c.plain then granted_by p w n 0 c.plain.assigns else []) (granted_in p w n c.behaviors)))
        (either_tells m sts (clause_in p s texts g es ws true c.plain c.plain.assigns) (clauses_in p s texts g es ws c.behaviors)
        (list_any inside (if is_assumed p w c.plain then granted_by p w n 0 c.plain.assigns else [])) (list_any inside (granted_in p w n c.behaviors))
        (clause_tells true c.plain fits.plain (λ e. ap (list_all (holds p w)) fits.assumes) c.plain.assigns fits.plain.assigns) (clauses_tell c.behaviors fits.behaviors)))

  -- ---- in the set in force

  module _ (caller : Contract) (caller_fits : CallerFits m p s texts g es caller) (e : ℕ) (w0 : labelled.World) (entry : SeenBy p s w0 sts e e e) (n0 : ℤ) where
    abbrev lets : Granted → Bool
    lets g0 = some_inside p clauses g0

    own_tells : (plain : Bool) (b : Behavior) → CallerBehaviorFits m p s texts g es b → (plain ≡ true → is_assumed p w0 b ≡ true) → (o : Option (List acsl.Tree)) → SetFits p s o
        → AllTell m sts (included_in p s texts g es e plain b o) (list_all lets (if is_assumed p w0 b then granted_by p w0 n0 0 o else []))
    own_tells plain b fit so None set = by (is_assumed p w0 b) where
      by : (a : Bool) → AllTell m sts [] (list_all lets (if a then [] else []))
      by true = none_tell m sts
      by false = none_tell m sts
    own_tells plain b fit so (Some ws) set =
        let own : Granted = record { regions = regions_of p w0 ws; count = n0; declared = 0 } in
        let a = assumed_tree p s texts (entry_reading p s texts e) b.assumes in
        let f = under plain a (included p s texts g es ws) in
        all_as m sts (f ∷ []) ((not (is_assumed p w0 b) || lets own) && true) (list_all lets (if is_assumed p w0 b then granted_by p w0 n0 0 (Some ws) else []))
        (by (is_assumed p w0 b))
        (more_tell m sts f [] (not (is_assumed p w0 b) || lets own) true
        (under_tells m sts plain a (included p s texts g es ws) (is_assumed p w0 b) (lets own)
        (caller_assumes m p s texts sts e w0 entry b.assumes fit.assumes)
        (included_tells own ws (λ x v found. names_own m p s texts g es globals x v found w0 _ _ entry.here_is ws set)) so)
        (none_tell m sts))
      where
        by : (a : Bool) → ((not a || lets (record { regions = regions_of p w0 ws; count = n0; declared = 0 })) && true) ≡ list_all lets (if a then granted_by p w0 n0 0 (Some ws) else [])
        by true = refl
        by false = refl

    owns_tell : (bs : List Behavior) → AllOf (CallerBehaviorFits m p s texts g es) bs → AllTell m sts (included_in_all p s texts g es e bs) (list_all lets (granted_in p w0 n0 bs))
    owns_tell [] fit = none_tell m sts
    owns_tell (b ∷ bs) fit = all_as m sts (included_in_all p s texts g es e (b ∷ bs))
        (list_all lets (if is_assumed p w0 b then granted_by p w0 n0 0 b.assigns else []) && list_all lets (granted_in p w0 n0 bs)) (list_all lets (granted_in p w0 n0 (b ∷ bs)))
        (sym (all_append lets (if is_assumed p w0 b then granted_by p w0 n0 0 b.assigns else []) (granted_in p w0 n0 bs)))
        (both_tell m sts (included_in p s texts g es e false b b.assigns) (included_in_all p s texts g es e bs) (list_all lets (if is_assumed p w0 b then granted_by p w0 n0 0 b.assigns else []))
        (list_all lets (granted_in p w0 n0 bs)) (own_tells false b fit.0 (λ e. absurd (false≢true e)) b.assigns fit.0.assigns) (owns_tell bs fit.1))

    function_told : all_told m sts (included_by p s texts g es e caller of_function) ≡ list_all lets (granted_in p w0 n0 (parts_of caller))
    function_told = unless_tells m sts (refuses g.contract caller.plain.assigns)
        (included_in p s texts g es e true caller.plain caller.plain.assigns ++ included_in_all p s texts g es e caller.behaviors)
        (list_all lets (granted_in p w0 n0 (parts_of caller)))
        (refused_so m p s texts g es sts e caller.plain caller.plain.assigns (included_in_all p s texts g es e caller.behaviors))
        (all_as m sts (included_in p s texts g es e true caller.plain caller.plain.assigns ++ included_in_all p s texts g es e caller.behaviors)
        (list_all lets (if is_assumed p w0 caller.plain then granted_by p w0 n0 0 caller.plain.assigns else []) && list_all lets (granted_in p w0 n0 caller.behaviors))
        (list_all lets (granted_in p w0 n0 (parts_of caller)))
        (sym (all_append lets (if is_assumed p w0 caller.plain then granted_by p w0 n0 0 caller.plain.assigns else []) (granted_in p w0 n0 caller.behaviors)))
        (both_tell m sts (included_in p s texts g es e true caller.plain caller.plain.assigns) (included_in_all p s texts g es e caller.behaviors)
        (list_all lets (if is_assumed p w0 caller.plain then granted_by p w0 n0 0 caller.plain.assigns else [])) (list_all lets (granted_in p w0 n0 caller.behaviors))
        (own_tells true caller.plain caller_fits.plain (λ e. ap (list_all (holds p w0)) caller_fits.assumes) caller.plain.assigns caller_fits.plain.assigns)
        (owns_tell caller.behaviors caller_fits.behaviors)))

  module _ (caller : Contract) (caller_fits : CallerFits m p s texts g es caller) (here : Here) where
    force_told : (e : ℕ) → SeenBy p s (in_state p here.entry) sts e e e → (force : Force) → GrantedBy p caller here force
        → all_told m sts (included_by p s texts g es e caller force) ≡ call_inside p here.granted clauses
    force_told e entry of_function (n0, is) =
        function_told caller caller_fits e (in_state p here.entry) entry n0 ∙ ap (λ gs. call_inside p gs clauses) (sym is)
    force_told e entry (of_loop ws d) (own, is, names) =
        one_tells m sts (included p s texts g es ws) (some_inside p clauses own) (included_tells own ws names) ∙ and_so (some_inside p clauses own) ∙ ap (λ gs. call_inside p gs clauses) (sym is)
      where
        and_so : (b : Bool) → b ≡ (b && true)
        and_so true = refl
        and_so false = refl

    -- nothing lies in each set
    nothing_inside : (gs : List Granted) → g.contract.plain.assigns ≡ Some [] → call_inside p gs clauses ≡ true
    nothing_inside [] e = refl
    nothing_inside (g0 ∷ gs) e = ap (λ b. b && call_inside p gs clauses) first ∙ nothing_inside gs e where
      assumed : is_assumed p w g.contract.plain ≡ true
      assumed = ap (list_all (holds p w)) fits.assumes

      first : some_inside p clauses g0 ≡ true
      first = λ i. some_inside p ((if assumed i then granted_by p w n 0 (e i) else []) ++ granted_in p w n g.contract.behaviors) g0

    pub inclusion_told : (pt : Point) → SeenBy p s (in_state p here.entry) sts (suc pt.entry) (suc pt.entry) (suc pt.entry) → GrantedBy p caller here pt.force
        → all_told m sts (inclusion_trees p s texts g es caller pt) ≡ call_inside p here.granted clauses
    inclusion_told pt entry granted = by g.contract.plain.assigns refl where
      told : all_told m sts (included_by p s texts g es (suc pt.entry) caller pt.force) ≡ call_inside p here.granted clauses
      told = force_told (suc pt.entry) entry pt.force granted

      by : (o : Option (List acsl.Tree)) → g.contract.plain.assigns ≡ o
          → all_told m sts (unless_nothing p s texts g es o (included_by p s texts g es (suc pt.entry) caller pt.force)) ≡ call_inside p here.granted clauses
      by None e = told
      by (Some []) e = sym (nothing_inside here.granted e)
      by (Some (r ∷ rs)) e = told
