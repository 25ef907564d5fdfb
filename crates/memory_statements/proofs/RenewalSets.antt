-- Where the same blocks live: cells in sets change.
use Rattle.std.proofs.Common.{◌≡◌, Bool, pos, [], length, refl, sym, ap, ◌∙◌, subst}
use Rattle.std.specs.Prelude.{int_le}
use Rattle.wp_base.specs.declared.kinds.CellKind.{CellKind}
use Rattle.wp_base.specs.Blocks.{Table, block_cells}
use Rattle.c_kinds.specs.Models.{high, difference_kind}
use Rattle.c_runs.specs.Program.{Facts}
use Rattle.c_runs.specs.States.{Memory}
use Rattle.goal_segments.specs.Told.{IsGood}
use Rattle.goal_segments.specs.Segments.{SameBlocks}
use Rattle.typed_memories.specs.Cells.{read_in}
use Rattle.typed_memories.specs.Changes.{Sets}
use Rattle.typed_memories.specs.ChangeLaws.{Both, FramesAre}
use Rattle.typed_memories.proofs.Framing.{frames_are_changes}
use Rattle.typed_memories.proofs.Alone.{same_changed}
use Rattle.run_blocks.proofs.Standing.{still_same}
use Rattle.run_blocks.proofs.Good.{good_shaped, have_blocks}
use Rattle.memory_words.specs.Shapes.{FileCells}
use Rattle.memory_statements.specs.Renewed.{IsRenewal, MayGet}
use Rattle.memory_statements.specs.RenewalLaws.{ChangesRenewed, SetsAreRenewed}
use Rattle.memory_statements.proofs.Machine.{renewals_change_memories}

-- two good memories, and what is read of them
pub both_read : (p : Facts) (m n : Memory) → IsGood p m → IsGood p n → Both m n (read_in m) (read_in n)
both_read p m n good good' = record { before = λ k b o. refl; behind = λ k b o. refl; shaped_before = good_shaped p m good; shaped_behind = good_shaped p n good' }

module _ (p : Facts) (file : FileCells) (renewed : CellKind → Bool) (set : Sets) (m : Memory) (good : IsGood p m) (t : Table) (same : SameBlocks m.blocks t) where
  may_get : MayGet p file renewed m t
  may_get = record {
    good = good;
    same_cells = λ k has off. same_changed k m.blocks t same;
    no_newer = λ k none b o is. sym (same_changed k m.blocks t same b o) ∙ is;
    more = same.more;
    placed = have_blocks p m good t (still_same m.blocks t same);
    short = λ b. ap (λ x. int_le (pos (length (block_cells x))) (high p.model (difference_kind p.model))) (same.live b) ∙ good.well.short b;
  }

  module _ (n : Memory) (good' : IsGood p n) (e : n.blocks ≡ t) where
    same_there : SameBlocks m.blocks n.blocks
    same_there = subst (SameBlocks m.blocks) (sym e) same

    frames : (set : Sets) → FramesAre set m n (read_in m) (read_in n)
    frames set = frames_are_changes set m n (read_in m) (read_in n) (both_read p m n good good')

    is_renewal : ChangesRenewed file renewed set m n → IsRenewal p file renewed set t m n
    is_renewal changed = record {
      good = good';
      table = e;
      framed = λ k on. ((frames set).of_one k same_there).1 (changed.renewed_kinds k on);
      kept = λ k has off b o. sym (((frames (λ k. [])).of_one k same_there).1 (λ b o is out. changed.other_kinds k has off b o is) b o refl);
    }

    has_changed : IsRenewal p file renewed set t m n → ChangesRenewed file renewed set m n
    has_changed is = record {
      renewed_kinds = λ k on. ((frames set).of_one k same_there).0 (is.framed k on);
      other_kinds = λ k has off b o there. ((frames (λ k. [])).of_one k same_there).0 (λ b o out. sym (is.kept k has off b o)) b o there refl;
    }

pub sets_are_renewed : SetsAreRenewed
sets_are_renewed w p s file renewed leave set olds j m st holds of_file bounds good same =
    let law = renewals_change_memories w p s file renewed leave set olds j m st holds of_file bounds in
    record {
      forth = λ n good' e changed. law.forth n (is_renewal p file renewed set m good st.table same n good' e changed);
      back = λ o run.
          let x = law.back (may_get p file renewed set m good st.table same) o run in
          (x.0, x.1, x.2, x.3.good, x.3.table, has_changed p file renewed set m good st.table same x.2 x.3.good x.3.table x.3, x.4, x.5);
    }
