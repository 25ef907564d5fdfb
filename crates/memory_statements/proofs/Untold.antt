-- Frames of all kinds, those that no list tells of among them.
use Rattle.std.proofs.Common.{◌≡◌, Bool, false, ℤ, sym, ap, ◌∙◌}
use Rattle.wp_base.specs.declared.kinds.CellKind.{CellKind}
use Rattle.wp_base.specs.Blocks.{Table, is_cell}
use Rattle.c_runs.specs.TruthStates.{of_kind}
use Rattle.c_runs.specs.Program.{Facts}
use Rattle.c_runs.specs.States.{Memory}
use Rattle.typed_memories.specs.Cells.{read_in, lies_inside}
use Rattle.typed_memories.proofs.Tests.{on_test}
use Rattle.typed_memories.proofs.Decoding.{read_cell, read_nothing}
use Rattle.typed_memories.specs.Changes.{Sets, AllFramed}
use Rattle.memory_words.specs.Shapes.{FileCells}
use Rattle.memory_statements.specs.Renewed.{IsRenewal, KeepsUntold}

-- where the cells outside of the set are the same ones
pub all_framed : (p : Facts) (file : FileCells) (renewed : CellKind → Bool) (set : Sets) (t : Table) (m n : Memory) → IsRenewal p file renewed set t m n
    → KeepsUntold p file renewed m n → ((k : CellKind) (b o : ℤ) → lies_inside (set k) b o ≡ false → is_cell k n.blocks b o ≡ is_cell k m.blocks b o)
    → AllFramed set (read_in m) (read_in n)
all_framed p file renewed set t m n is keeps same k b o out =
    on_test (file.has_kind k)
    (λ has. on_test (renewed k) (λ on. is.framed k on b o out) (λ off. sym (is.kept k has off b o)))
    (λ none. on_test (is_cell k n.blocks b o)
    (λ there. read_cell n k b o there ∙ ap (of_kind k) (keeps.absent k none b o there) ∙ sym (read_cell m k b o (sym (same k b o out) ∙ there)))
    (λ no_cell. read_nothing n k b o no_cell ∙ sym (read_nothing m k b o (sym (same k b o out) ∙ no_cell))))
