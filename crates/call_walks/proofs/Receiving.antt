-- The result of a call, and where it goes.
use Rattle.std.proofs.Common.{◌≡◌, ℕ, pos, List, [], ◌∷◌, Option, Some, None, refl, sym, ap, ◌∙◌, subst}
use Rattle.wp_base.specs.declared.kinds.CellKind.{CellKind}
use Rattle.typed_prog.specs.declared.operators.Root.{Root}
use Rattle.typed_prog.specs.declared.operators.Root.TheVariants as root
use Rattle.qed_terms.specs.Meaning as sense
use Rattle.qed_terms.specs.Tree.{Tree}
use Rattle.c_runs.specs.Program.{Contract, Function, Facts}
use Rattle.c_runs.specs.Tree.{Steps}
use Rattle.plain_states.specs.Slots.{answer_slot}
use Rattle.plain_runs.specs.Fitting.{Shape, sizes}
use Rattle.walk_steps.specs.Forms.{Slots}
use Rattle.walk_steps.specs.Step.{Step}
use Rattle.program_steps.specs.Leaves.{leaf, fill, closed, or_false}
use Rattle.program_steps.specs.Terms.{Texts}
use Rattle.program_steps.specs.Words.{Point}
use Rattle.value_words.specs.OverSlots.{slot_term}
use Rattle.walk_frames.specs.Words.{put_word}
use Rattle.call_words.specs.Words.{answer_term, placed_in}
use Rattle.call_walks.proofs.Levels.{leaf_said}

module _ (m : sense.World) (p : Facts) (s : Shape) (texts : Texts) (c : Contract) (functions : ℕ → Option (Function Steps)) where
  pub answer_filled : (slots : Slots) (olds : List Slots) (r : Option CellKind) (k : CellKind) (i : ℕ) (t : Tree) → r ≡ Some k → i ≡ answer_slot (sizes p s) → t ≡ slot_term slots i
      → fill (slots ∷ olds) (closed (answer_term m p s texts c functions r)) ≡ t
  answer_filled slots olds r k i t e f is =
      let said = leaf_said (slots ∷ olds) 0 (answer_slot (sizes p s)) in
      ap (λ o. fill (slots ∷ olds) (closed (answer_term m p s texts c functions o))) e
      ∙ ap (λ b. fill (slots ∷ olds) (or_false b (leaf 0 (answer_slot (sizes p s))))) said.closed ∙ said.filled ∙ sym (is ∙ ap (slot_term slots) f)

  pub placed_is : (pt : Point) (l : ℕ) (o : Root) (t : Tree) → put_word m p s texts c pt l o t ≡ placed_in m p s texts c functions pt l o t
  placed_is pt l (root.Variable x) t = refl
  placed_is pt l (root.Pointed n) t = refl
