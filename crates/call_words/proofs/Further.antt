-- Behind a call the state before it is remembered too, and what is asked before writes says the same.
use Rattle.std.proofs.Common.{◌≡◌, ℕ, suc, Bool, true, false, not, ◌&&◌, ◌||◌, if◌then◌else◌, List, [], ◌∷◌, ◌++◌, refl, sym, ap, ◌∙◌}
use Rattle.std.specs.List.{list_all}
use Rattle.std.proofs.lemmas.Bool.{false≢true}
use Rattle.typed_prog.specs.declared.operators.Variable as code
use Rattle.typed_prog.specs.declared.operators.Variable.TheVariants as variables
use Rattle.typed_prog.specs.Tree as t
use Rattle.c_runs.specs.TruthStates as labelled
use Rattle.qed_terms.specs.Meaning as sense
use Rattle.qed_terms.specs.Meaning.{truth}
use Rattle.qed_terms.specs.Tree.{Tree, false_tree}
use Rattle.c_runs.specs.Program.{Behavior, Contract, Function, Facts}
use Rattle.c_runs.specs.States.{Here}
use Rattle.c_runs.specs.Claims.{holds, is_assumed, in_state}
use Rattle.c_runs.specs.Tree.{Steps}
use Rattle.plain_states.specs.Slots.{State}
use Rattle.plain_runs.specs.Fitting.{Shape}
use Rattle.program_steps.specs.Leaves.{leaves_of}
use Rattle.program_steps.specs.Temporaries.{Temporaries}
use Rattle.program_steps.specs.Terms.{Texts, entry_reading, assumed_tree, has_variable}
use Rattle.program_steps.specs.Words.{Force, of_function, of_loop, Point, under, lacks, missing_in, missing_all, missing, is_inside, write_trees}
use Rattle.program_steps.specs.Standing.{SeenBy}
use Rattle.program_steps.specs.Functions.{AllOf}
use Rattle.program_steps.specs.Placed.{all_told, Placed}
use Rattle.call_words.specs.Words.{one_further}
use Rattle.call_words.specs.Fits.{CallerBehaviorFits, CallerFits}
use Rattle.call_words.proofs.Tells.{AllTell, none_tell, more_tell, both_tell, all_as, under_tells, unless_tells, truth_tells}
use Rattle.call_words.proofs.Claims.{caller_assumes}

module _ (m : sense.World) (p : Facts) (s : Shape) (texts : Texts) (g : Function Steps) (es : t.Values) (contract : Contract) (fits : CallerFits m p s texts g es contract) (w : labelled.World) where
  -- some behavior that is there lacks it
  abbrev not_lacking : code.Variable → Behavior → Bool
  not_lacking x b = not (is_assumed p w b) || not (lacks b.assigns x)

  module _ (e : ℕ) (sts : List State) (seen : SeenBy p s w sts e e e) (x : code.Variable) where
    missing_tells : (plain : Bool) (b : Behavior) → CallerBehaviorFits m p s texts g es b → (plain ≡ true → is_assumed p w b ≡ true) → AllTell m sts (missing_in p s texts e plain b x) (not_lacking x b)
    missing_tells plain b fit so = by (lacks b.assigns x) where
      a : Tree
      a = assumed_tree p s texts (entry_reading p s texts e) b.assumes

      by : (l : Bool) → AllTell m sts (if l then under plain a false_tree ∷ [] else []) (not (is_assumed p w b) || not l)
      by true = all_as m sts (under plain a false_tree ∷ []) ((not (is_assumed p w b) || false) && true) (not (is_assumed p w b) || false) (and_so (not (is_assumed p w b) || false))
          (more_tell m sts (under plain a false_tree) [] (not (is_assumed p w b) || false) true
          (under_tells m sts plain a false_tree (is_assumed p w b) false (caller_assumes m p s texts sts e w seen b.assumes fit.assumes) (truth_tells m sts false) so) (none_tell m sts)) where
            and_so : (b : Bool) → (b && true) ≡ b
            and_so true = refl
            and_so false = refl
      by false = all_as m sts [] true (not (is_assumed p w b) || true) (none (is_assumed p w b)) (none_tell m sts) where
        none : (a : Bool) → true ≡ (not a || true)
        none true = refl
        none false = refl

    missing_tell : (bs : List Behavior) → AllOf (CallerBehaviorFits m p s texts g es) bs → AllTell m sts (missing_all p s texts e bs x) (list_all (not_lacking x) bs)
    missing_tell [] fit = none_tell m sts
    missing_tell (b ∷ bs) fit = both_tell m sts (missing_in p s texts e false b x) (missing_all p s texts e bs x) (not_lacking x b) (list_all (not_lacking x) bs)
        (missing_tells false b fit.0 (λ e. absurd (false≢true e))) (missing_tell bs fit.1)

    all_missing : AllTell m sts (missing_in p s texts e true contract.plain x ++ missing_all p s texts e contract.behaviors x) (not_lacking x contract.plain && list_all (not_lacking x) contract.behaviors)
    all_missing = both_tell m sts (missing_in p s texts e true contract.plain x) (missing_all p s texts e contract.behaviors x) (not_lacking x contract.plain) (list_all (not_lacking x) contract.behaviors)
        (missing_tells true contract.plain fits.plain (λ e. ap (list_all (holds p w)) fits.assumes)) (missing_tell contract.behaviors fits.behaviors)

  refused_so : (e : ℕ) (sts : List State) (x : code.Variable) → lacks contract.plain.assigns x ≡ true
      → list_all (truth m (leaves_of sts)) (missing_in p s texts e true contract.plain x ++ missing_all p s texts e contract.behaviors x) ≡ false
  refused_so e sts x h = ap (λ l. list_all (truth m (leaves_of sts)) ((if l then false_tree ∷ [] else []) ++ missing_all p s texts e contract.behaviors x)) h

  -- wherever it stands
  missing_same : (e d : ℕ) (sts sts' : List State) → SeenBy p s w sts e e e → SeenBy p s w sts' d d d → (x : code.Variable)
      → all_told m sts (missing p s texts e contract x) ≡ all_told m sts' (missing p s texts d contract x)
  missing_same e d sts sts' seen seen' (variables.Global x) =
      let b = not_lacking (variables.Global x) contract.plain && list_all (not_lacking (variables.Global x)) contract.behaviors in
      let refused = lacks contract.plain.assigns (variables.Global x) in
      unless_tells m sts refused (missing_in p s texts e true contract.plain (variables.Global x) ++ missing_all p s texts e contract.behaviors (variables.Global x)) b
      (refused_so e sts (variables.Global x)) (all_missing e sts seen (variables.Global x))
      ∙ sym (unless_tells m sts' refused (missing_in p s texts d true contract.plain (variables.Global x) ++ missing_all p s texts d contract.behaviors (variables.Global x)) b
      (refused_so d sts' (variables.Global x)) (all_missing d sts' seen' (variables.Global x)))
  missing_same e d sts sts' seen seen' (variables.Local x) = refl

  module _ (olds : List State) (a b : State) (n e l : ℕ) (outs : List Temporaries) (seen : SeenBy p s w (a ∷ olds) (suc e) (suc e) (suc e)) where
    seen_further : SeenBy p s w (a ∷ b ∷ olds) (suc (suc e)) (suc (suc e)) (suc (suc e))
    seen_further = record { here_is = seen.here_is; pre_is = seen.pre_is; post_is = seen.post_is; loop_entry_is = seen.loop_entry_is; model = seen.model; structs = seen.structs }

    writes_same : (force : Force) (x : code.Variable)
        → all_told m (a ∷ b ∷ olds) (write_trees p s texts contract (record { self = n; entry = suc e; loop_entry = suc l; outs = outs; force = force }) x)
        ≡ all_told m (a ∷ olds) (write_trees p s texts contract (record { self = n; entry = e; loop_entry = l; outs = outs; force = force }) x)
    writes_same of_function x = missing_same (suc (suc e)) (suc e) (a ∷ b ∷ olds) (a ∷ olds) seen_further seen x
    writes_same (of_loop rs d) x = by (has_variable rs x || is_inside p s texts d x) where
      by : (t : Bool) → all_told m (a ∷ b ∷ olds) (if t then [] else false_tree ∷ []) ≡ all_told m (a ∷ olds) (if t then [] else false_tree ∷ [])
      by true = refl
      by false = refl

-- where the state before the call is remembered
pub placed_further : (m : sense.World) (p : Facts) (s : Shape) (texts : Texts) (g : Function Steps) (es : t.Values) (contract : Contract) → CallerFits m p s texts g es contract
    → (here : Here) (pt : Point) (olds : List State) → Placed m p s texts contract pt here olds → (b : State) → Placed m p s texts contract (one_further pt) here (b ∷ olds)
placed_further m p s texts g es contract fits here pt olds placed b = record {
  entry = placed.entry;
  loop_entry = placed.loop_entry;
  locals = λ x v e a. writes_same m p s texts g es contract fits (in_state p here.entry) olds a b pt.self pt.entry pt.loop_entry pt.outs (seen a) pt.force (variables.Local x) ∙ placed.locals x v e a;
  globals = λ x v e a. writes_same m p s texts g es contract fits (in_state p here.entry) olds a b pt.self pt.entry pt.loop_entry pt.outs (seen a) pt.force (variables.Global x) ∙ placed.globals x v e a;
  carried = record { function = placed.carried.function; measure = placed.carried.measure; granted = placed.carried.granted };
}
  where
    seen : (a : State) → SeenBy p s (in_state p here.entry) (a ∷ olds) (suc pt.entry) (suc pt.entry) (suc pt.entry)
    seen a = record { here_is = placed.entry; pre_is = placed.entry; post_is = placed.entry; loop_entry_is = placed.entry; model = refl; structs = λ n. refl }
