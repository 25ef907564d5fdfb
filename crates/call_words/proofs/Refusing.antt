-- Where a clause of the caller refuses a call, what is asked of it is `false`.
use Rattle.std.proofs.Common.{◌≡◌, ℕ, Bool, true, false, not, ◌&&◌, List, [], ◌∷◌, ◌++◌, Option, Some, None, refl, sym, ap, ◌∙◌}
use Rattle.std.specs.List.{list_all}
use Rattle.std.proofs.lemmas.Bool.{false≢true, and_parts}
use Rattle.typed_prog.specs.Tree as t
use Rattle.acsl_trees.specs.Tree as acsl
use Rattle.qed_terms.specs.Meaning as sense
use Rattle.qed_terms.specs.Meaning.{truth}
use Rattle.qed_terms.specs.Tree.{Tree, false_tree}
use Rattle.c_runs.specs.Program.{Behavior, Function, Facts}
use Rattle.c_runs.specs.Tree.{Steps}
use Rattle.plain_states.specs.Slots.{State}
use Rattle.plain_runs.specs.Fitting.{Shape}
use Rattle.program_steps.specs.Leaves.{leaves_of}
use Rattle.program_steps.specs.Terms.{Texts, entry_reading, assumed_tree}
use Rattle.program_steps.specs.Words.{under}
use Rattle.program_steps.specs.Functions.{any_of}
use Rattle.call_words.specs.Sets.{is_in, truth_tree, lies_outside, is_unset, refuses, clause_in, clauses_in, included, included_in}

module _ (p : Facts) (s : Shape) (texts : Texts) (g : Function Steps) (es : t.Values) (ws : List acsl.Tree) where
  no_clause : (o : Option (List acsl.Tree)) (b : Behavior) → is_unset o ≡ true → clause_in p s texts g es ws false b o ≡ []
  no_clause None b h = refl
  no_clause (Some rs) b h = absurd (false≢true h)

  no_clauses : (bs : List Behavior) → list_all (λ b. is_unset b.assigns) bs ≡ true → clauses_in p s texts g es ws bs ≡ []
  no_clauses [] h = refl
  no_clauses (b ∷ bs) h =
      let parts = and_parts (is_unset b.assigns) (list_all (λ b. is_unset b.assigns) bs) h in
      (λ i. no_clause b.assigns b parts.0 i ++ no_clauses bs parts.1 i)

  is_false : (b : Bool) → not b ≡ true → truth_tree b ≡ false_tree
  is_false true h = absurd (false≢true h)
  is_false false h = refl

  plain_false : (b : Behavior) (o : Option (List acsl.Tree)) → lies_outside ws o ≡ true → any_of (clause_in p s texts g es ws true b o ++ []) ≡ false_tree
  plain_false b None h = refl
  plain_false b (Some rs) h = is_false (list_all (is_in ws) rs) h

  included_false : refuses g.contract (Some ws) ≡ true → included p s texts g es ws ≡ false_tree
  included_false h =
      let parts = and_parts (lies_outside ws g.contract.plain.assigns) (list_all (λ b. is_unset b.assigns) g.contract.behaviors) h in
      ap (λ cs. any_of (clause_in p s texts g es ws true g.contract.plain g.contract.plain.assigns ++ cs)) (no_clauses g.contract.behaviors parts.1)
      ∙ plain_false g.contract.plain g.contract.plain.assigns parts.0

module _ (m : sense.World) (p : Facts) (s : Shape) (texts : Texts) (g : Function Steps) (es : t.Values) (sts : List State) (e : ℕ) where
  pub refused_so : (b : Behavior) (o : Option (List acsl.Tree)) (rest : List Tree) → refuses g.contract o ≡ true
      → list_all (truth m (leaves_of sts)) (included_in p s texts g es e true b o ++ rest) ≡ false
  refused_so b None rest h = absurd (false≢true h)
  refused_so b (Some ws) rest h =
      ap (λ f. list_all (truth m (leaves_of sts)) (under true (assumed_tree p s texts (entry_reading p s texts e) b.assumes) f ∷ rest)) (included_false p s texts g es ws h)
