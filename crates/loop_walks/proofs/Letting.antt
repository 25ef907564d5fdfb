-- Which variables change, by the set in force.
use Rattle.std.proofs.Common.{◌≡◌, ℕ, Bool, not, List, Some, None, sym, ◌∙◌}
use Rattle.std.specs.Option.{option_map}
use Rattle.std.specs.Borrow.{Bor}
use Rattle.typed_prog.specs.declared.operators.Variable.TheVariants as variables
use Rattle.acsl_trees.specs.Tree.{view_trees}
use Rattle.acsl_trees.specs.declared.tree.Tree.{Tree as Code}
use Rattle.c_runs.specs.Tree.{Steps}
use Rattle.core_trees.specs.View.{view_loop}
use Rattle.core_trees.specs.declared.claims.Loop.{Loop}
use Rattle.c_runs.specs.Program.{Contract}
use Rattle.plain_runs.specs.Kept.{some_sets}
use Rattle.program_steps.specs.Temporaries.{Temporaries}
use Rattle.program_steps.specs.Terms.{has_variable}
use Rattle.program_steps.specs.Words.{lacks}
use Rattle.walk_frames.specs.declared.frames.Frame.{Frame}
use Rattle.walk_frames.specs.declared.frames.Force.TheVariants as force
use Rattle.walk_frames.specs.declared.frames.Point.{Point}
use Rattle.walk_frames.specs.View.{view_force, view_point}
use Rattle.loop_words.specs.Sets.{file_changes, lets_local}
use Rattle.loop_walks.proofs.Changing.{not_not}

module _ (x : Frame) (os : List Temporaries) (c : Contract) (pt : Point) (l : Loop) (n : ℕ) (b : Bool) where
  pub own_named : (rs : List Code) → l.assigns ≡ Some rs → b ≡ has_variable (view_trees rs) (variables.Global n) → b ≡ file_changes c (view_point x os pt) (view_loop l) n
  own_named rs e h =
      h ∙ sym (not_not (has_variable (view_trees rs) (variables.Global n)))
      ∙ (λ i. file_changes c (view_point x os pt) (record (view_loop l) { assigns = option_map view_trees (sym e i) }) n)

  pub plain_named : l.assigns ≡ None → pt.force ≡ force.OfFunction → b ≡ not (lacks c.plain.assigns (variables.Global n)) → b ≡ file_changes c (view_point x os pt) (view_loop l) n
  plain_named e f h =
      h ∙ (λ i. file_changes c (record (view_point x os pt) { force = view_force (sym f i) }) (record (view_loop l) { assigns = option_map view_trees (sym e i) }) n)

  pub around_named : (ws : Bor (List Code)) (d : ℕ) → l.assigns ≡ None → pt.force ≡ force.OfLoop ws d → b ≡ has_variable (view_trees ws.now) (variables.Global n)
      → b ≡ file_changes c (view_point x os pt) (view_loop l) n
  around_named ws d e f h =
      h ∙ sym (not_not (has_variable (view_trees ws.now) (variables.Global n)))
      ∙ (λ i. file_changes c (record (view_point x os pt) { force = view_force (sym f i) }) (record (view_loop l) { assigns = option_map view_trees (sym e i) }) n)

module _ (l : Loop) (ss : Steps) (n : ℕ) (b : Bool) where
  pub own_let : (rs : List Code) → l.assigns ≡ Some rs → b ≡ has_variable (view_trees rs) (variables.Local n) → b ≡ lets_local (view_loop l) ss n
  own_let rs e h = h ∙ (λ i. lets_local (record (view_loop l) { assigns = option_map view_trees (sym e i) }) ss n)

  pub text_let : l.assigns ≡ None → b ≡ some_sets ss n → b ≡ lets_local (view_loop l) ss n
  text_let e h = h ∙ (λ i. lets_local (record (view_loop l) { assigns = option_map view_trees (sym e i) }) ss n)
