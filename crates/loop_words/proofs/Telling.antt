-- What the formulas of a contract's clauses say, at whatever level the function's entry is remembered.
use Rattle.std.proofs.Common.{◌≡◌, ℕ, Bool, true, false, not, ◌&&◌, ◌||◌, if◌then◌else◌, List, [], ◌∷◌, ◌++◌, map, Option, refl, sym, ap, ◌∙◌}
use Rattle.std.specs.List.{list_all}
use Rattle.typed_prog.specs.declared.operators.Variable.TheVariants as variables
use Rattle.acsl_trees.specs.Tree as acsl
use Rattle.c_runs.specs.TruthStates as labelled
use Rattle.acsl_encode.specs.Encode.{all_of}
use Rattle.qed_terms.specs.Meaning as sense
use Rattle.qed_terms.specs.Meaning.{truth}
use Rattle.qed_terms.specs.Tree.{Tree, false_tree}
use Rattle.c_runs.specs.Program.{Behavior, Contract, Facts}
use Rattle.c_runs.specs.Claims.{holds, is_assumed, in_state}
use Rattle.plain_states.specs.Slots.{State}
use Rattle.plain_runs.specs.Fitting.{Shape}
use Rattle.walk_steps.specs.State.{at_or}
use Rattle.program_steps.specs.Leaves.{is_closed, closed, leaves_of}
use Rattle.program_steps.specs.Terms.{Texts, entry_reading, or_none, claim_tree, assumed_tree}
use Rattle.program_steps.specs.Words.{of_function, as_one, as_one_unless, under, lacks, missing_all, missing}
use Rattle.program_steps.specs.Standing.{SeenAs, SeenBy}
use Rattle.program_steps.specs.Typed.{ClaimFits}
use Rattle.program_steps.specs.Placed.{all_told}
use Rattle.program_steps.specs.Functions.{AllOf}
use Rattle.program_steps.proofs.Asking.{closed_told}
use Rattle.program_steps.proofs.Tests.{all_closed, all_so}
use Rattle.program_steps.proofs.Granting.{and_so, all_append}
use Rattle.loop_words.specs.Sets.{lacks_some, lacking_all, within}

-- the clauses let what they don't lack, those of behaviors where they are there
abbrev pub clauses_let : Facts → labelled.World → (lacking : Option (List acsl.Tree) → Bool) → Contract → Bool
clauses_let p w f c = not (f c.plain.assigns) && list_all (λ (b : Behavior). not (is_assumed p w b) || not (f b.assigns)) c.behaviors

module _ (m : sense.World) (p : Facts) (s : Shape) (texts : Texts) where
  abbrev pub AssumesFit : Behavior → Type 0
  AssumesFit b = AllOf (λ a. (level : ℕ) → ClaimFits m p s texts a level level level) b.assumes

  -- a state that is remembered, alone
  pub seen_in : (sts : List State) (e : ℕ) (q : labelled.State) → SeenAs p s q (at_or [] sts e) (at_or [] sts e) → SeenBy p s (in_state p q) sts e e e
  seen_in sts e q h = record { here_is = h; pre_is = h; post_is = h; loop_entry_is = h; model = refl; structs = λ n. refl }

  module _ (sts : List State) where
    -- a formula that is closed, and true where this is
    pub record Tells (f : Tree) (b : Bool) : Type 0 where
      pub closed_so : is_closed [] f ≡ true
      pub true_so : truth m (leaves_of sts) f ≡ b

    pub told_so : (f : Tree) (b : Bool) → Tells f b → truth m (leaves_of sts) (closed f) ≡ b
    told_so f b h = closed_told m sts f h.closed_so ∙ h.true_so

    pub record AllTell (fs : List Tree) (b : Bool) : Type 0 where
      pub closed_so : list_all (is_closed []) fs ≡ true
      pub true_so : list_all (truth m (leaves_of sts)) fs ≡ b

    pub none_tell : AllTell [] true
    none_tell = record { closed_so = refl; true_so = refl }

    pub more_tell : (fs gs : List Tree) (a b : Bool) → AllTell fs a → AllTell gs b → AllTell (fs ++ gs) (a && b)
    more_tell fs gs a b h k = record {
      closed_so = all_append (is_closed []) fs gs ∙ (λ i. h.closed_so i && k.closed_so i);
      true_so = all_append (truth m (leaves_of sts)) fs gs ∙ (λ i. h.true_so i && k.true_so i);
    }

    pub as_one_tells : (fs : List Tree) (b : Bool) → AllTell fs b → all_told m sts (as_one fs) ≡ b
    as_one_tells [] b h = h.true_so
    as_one_tells (f ∷ fs) b h =
        and_so (truth m (leaves_of sts) (closed (all_of (f ∷ fs)))) ∙ closed_told m sts (all_of (f ∷ fs)) (all_closed (f ∷ fs) h.closed_so) ∙ all_so m (leaves_of sts) (f ∷ fs) ∙ h.true_so

    unless_tells : (refused : Bool) (fs : List Tree) (b : Bool) → (refused ≡ true → list_all (truth m (leaves_of sts)) fs ≡ false) → AllTell fs b
        → all_told m sts (as_one_unless refused fs) ≡ b
    unless_tells true fs b none h = sym (none refl) ∙ h.true_so
    unless_tells false fs b none h = as_one_tells fs b h

    module _ (w : labelled.World) (e : ℕ) (seen : SeenBy p s w sts e e e) where
      -- ---- what behaviors assume

      abbrev tree_at : acsl.Tree → Tree
      tree_at a = claim_tree p s texts (entry_reading p s texts e) a

      abbrev pub assumed_at : Behavior → Tree
      assumed_at b = assumed_tree p s texts (entry_reading p s texts e) b.assumes

      claims_tell : (as_ : List acsl.Tree) → AllOf (λ a. (level : ℕ) → ClaimFits m p s texts a level level level) as_ → AllTell (map tree_at as_) (list_all (holds p w) as_)
      claims_tell [] fits = none_tell
      claims_tell (a ∷ as_) fits =
          let x = fits.0 e in
          let r = claims_tell as_ fits.1 in
          record {
            closed_so = (λ i. (ap (λ o. is_closed [] (or_none p s texts o)) x.is ∙ x.closed) i && r.closed_so i);
            true_so = (λ i. (ap (λ o. truth m (leaves_of sts) (or_none p s texts o)) x.is ∙ x.means w sts seen) i && r.true_so i);
          }

      pub assumed_tells : (b : Behavior) → AssumesFit b → Tells (assumed_at b) (is_assumed p w b)
      assumed_tells b fits =
          let x = claims_tell b.assumes fits in
          record { closed_so = all_closed (map tree_at b.assumes) x.closed_so; true_so = all_so m (leaves_of sts) (map tree_at b.assumes) ∙ x.true_so }

      -- ---- clauses that lack something

      module _ (f : Option (List acsl.Tree) → Bool) where
        abbrev lacking : (is_plain : Bool) → Behavior → List Tree
        lacking plain b = if f b.assigns then under plain (assumed_at b) false_tree ∷ [] else []

        abbrev lacking_of : List Behavior → List Tree
        lacking_of [] = []
        lacking_of (b ∷ bs) = lacking false b ++ lacking_of bs

        abbrev lets : Behavior → Bool
        lets b = not (is_assumed p w b) || not (f b.assigns)

        plain_tells : (b : Behavior) → AllTell (lacking true b) (not (f b.assigns))
        plain_tells b = by (f b.assigns) where
          by : (l : Bool) → AllTell (if l then under true (assumed_at b) false_tree ∷ [] else []) (not l)
          by true = record { closed_so = refl; true_so = refl }
          by false = none_tell

        clause_tells : (b : Behavior) → AssumesFit b → AllTell (lacking false b) (lets b)
        clause_tells b fits = by (f b.assigns) where
          a : Tells (assumed_at b) (is_assumed p w b)
          a = assumed_tells b fits

          none : (a : Bool) → true ≡ (not a || true)
          none true = refl
          none false = refl

          by : (l : Bool) → AllTell (if l then under false (assumed_at b) false_tree ∷ [] else []) (not (is_assumed p w b) || not l)
          by true = record {
            closed_so = (λ i. (a.closed_so i && true) && true);
            true_so = (λ i. (not (a.true_so i) || false) && true) ∙ and_so (not (is_assumed p w b) || false);
          }
          by false = record { closed_so = refl; true_so = none (is_assumed p w b) }

        all_clauses : (bs : List Behavior) → AllOf AssumesFit bs → AllTell (lacking_of bs) (list_all lets bs)
        all_clauses [] fits = none_tell
        all_clauses (b ∷ bs) fits = more_tell (lacking false b) (lacking_of bs) (lets b) (list_all lets bs) (clause_tells b fits.0) (all_clauses bs fits.1)

        pub clauses_tell : (c : Contract) → AllOf AssumesFit c.behaviors → all_told m sts (as_one_unless (f c.plain.assigns) (lacking true c.plain ++ lacking_of c.behaviors)) ≡ clauses_let p w f c
        clauses_tell c fits = unless_tells (f c.plain.assigns) (lacking true c.plain ++ lacking_of c.behaviors) (clauses_let p w f c)
            (λ refused. ap (λ l. list_all (truth m (leaves_of sts)) ((if l then false_tree ∷ [] else []) ++ lacking_of c.behaviors)) refused)
            (more_tell (lacking true c.plain) (lacking_of c.behaviors) (not (f c.plain.assigns)) (list_all lets c.behaviors) (plain_tells c.plain) (all_clauses c.behaviors fits))

      missing_is : (x : ℕ) (bs : List Behavior) → missing_all p s texts e bs (variables.Global x) ≡ lacking_of (λ o. lacks o (variables.Global x)) bs
      missing_is x [] = refl
      missing_is x (b ∷ bs) = ap (λ fs. lacking (λ o. lacks o (variables.Global x)) false b ++ fs) (missing_is x bs)

      lacking_is : (rs : List acsl.Tree) (bs : List Behavior) → lacking_all p s texts e bs rs ≡ lacking_of (λ o. lacks_some o rs) bs
      lacking_is rs [] = refl
      lacking_is rs (b ∷ bs) = ap (λ fs. lacking (λ o. lacks_some o rs) false b ++ fs) (lacking_is rs bs)

      -- the write of a variable of the file
      pub missing_tells : (c : Contract) → AllOf AssumesFit c.behaviors → (x : ℕ)
          → all_told m sts (missing p s texts e c (variables.Global x)) ≡ clauses_let p w (λ o. lacks o (variables.Global x)) c
      missing_tells c fits x =
          ap (λ fs. all_told m sts (as_one_unless (lacks c.plain.assigns (variables.Global x)) (lacking (λ o. lacks o (variables.Global x)) true c.plain ++ fs))) (missing_is x c.behaviors)
          ∙ clauses_tell (λ o. lacks o (variables.Global x)) c fits

      -- a loop's own set
      pub within_tells : (c : Contract) → AllOf AssumesFit c.behaviors → (rs : List acsl.Tree)
          → all_told m sts (within p s texts e c of_function rs) ≡ clauses_let p w (λ o. lacks_some o rs) c
      within_tells c fits rs =
          ap (λ fs. all_told m sts (as_one_unless (lacks_some c.plain.assigns rs) (lacking (λ o. lacks_some o rs) true c.plain ++ fs))) (lacking_is rs c.behaviors)
          ∙ clauses_tell (λ o. lacks_some o rs) c fits
