-- A place of no memory isn't renewed, as only memories of the file's kinds are.
use Rattle.std.proofs.Common.{◌≡◌, Bool, true, false, refl, sym, ◌∙◌}
use Rattle.std.proofs.lemmas.Bool.{false≢true}
use Rattle.wp_base.specs.declared.kinds.CellKind.{CellKind}
use Rattle.wp_base.specs.declared.kinds.CellKind.TheVariants as cell
use Rattle.typed_memories.proofs.Tests.{on_test}
use Rattle.memory_words.specs.Places.{Place, numbers, blocks, offsets}
use Rattle.memory_words.specs.Shapes.{FileCells, is_memory}
use Rattle.memory_statements.specs.Renewed.{is_renewed}

module _ (file : FileCells) (renewed : CellKind → Bool) (of_file : (k : CellKind) → renewed k ≡ true → file.has_kind k ≡ true) where
  absent : (k : CellKind) → file.has_kind k ≡ false → renewed k ≡ false
  absent k off = on_test (renewed k) (λ on. absurd (false≢true (sym off ∙ of_file k on))) (λ e. e)

  pub not_renewed : (a : Place) → is_memory file a ≡ false → is_renewed renewed a ≡ false
  not_renewed (numbers k) off = absent (cell.Of k) off
  not_renewed blocks off = absent cell.Ptr off
  not_renewed offsets off = absent cell.Ptr off
  not_renewed a off = refl
