-- What stands in cells, and what is made of a value that a draft came to.
use Rattle.std.proofs.Common.{◌≡◌, pos, List, [], ◌∷◌, Option, Some, ℕ, sym, subst}
use Rattle.std.specs.Prelude.{Result}
use Rattle.wp_base.specs.declared.kinds.Kind.{Kind}
use Rattle.wp_base.specs.declared.kinds.CellKind.{CellKind}
use Rattle.wp_base.specs.declared.kinds.CellKind.TheVariants as cell
use Rattle.wp_base.specs.declared.memory.NoMemory.{NoMemory}
use Rattle.typed_prog.specs.declared.types.CoreType.{CoreType}
use Rattle.typed_prog.specs.declared.operators.Path.{Path}
use Rattle.qed_terms.specs.declared.head.TermOp.TheVariants as term
use Rattle.qed_terms.specs.declared.term.Formula.{Formula}
use Rattle.qed_terms.specs.Tree.{num, at_most, less}
use Rattle.term_drafts.specs.Drafts.{FormulaIs}
use Rattle.c_runs.specs.Program.{Facts}
use Rattle.value_terms.specs.Readings.{Term, as_number, as_pointer, Reading}
use Rattle.value_terms.specs.Terms.{of_one, load_term, loaded, cell_term}
use Rattle.value_terms.specs.Words.{known, range_facts, pointing_term, cell_facts}
use Rattle.memory_values.specs.declared.items.Item.{Item}
use Rattle.memory_values.specs.declared.terms.ValueTerm.{ValueTerm}
use Rattle.memory_values.specs.View.{view_term}
use Rattle.memory_values.specs.Drafts.{ValueIs, Pushes}

module _ (p : Facts) (r : Reading) where
  pub cell_some : (draft : Result ValueTerm NoMemory) (o : Option ℕ) (x : ℕ) (type : CoreType) (path : Path) (ts : List Term) → ValueIs draft (r.globals x) → o ≡ Some x
      → ValueIs draft (cell_term p r o type path ts)
  cell_some draft o x type path ts h e = subst (λ o. ValueIs draft (cell_term p r o type path ts)) (sym e) h

  pub loaded_number : (draft : Result ValueTerm NoMemory) (kind : CellKind) (k : Kind) (a : Term) → kind ≡ cell.Of k → ValueIs draft (as_number (load_term p r (r.numbers k) a))
      → ValueIs draft (loaded p r kind a)
  loaded_number draft kind k a e h = subst (λ kind. ValueIs draft (loaded p r kind a)) (sym e) h

  pub loaded_pointer : (draft : Result ValueTerm NoMemory) (kind : CellKind) (a : Term) → kind ≡ cell.Ptr
      → ValueIs draft (as_pointer (load_term p r r.blocks a) (load_term p r r.offsets a)) → ValueIs draft (loaded p r kind a)
  loaded_pointer draft kind a e h = subst (λ kind. ValueIs draft (loaded p r kind a)) (sym e) h

  pub number_facts : {A : Type 0} (done : Result A NoMemory) (old new : List Item) (kind : CellKind) (k : Kind) (a : Term) → kind ≡ cell.Of k
      → Pushes done old new (range_facts p.model k (load_term p r (r.numbers k) a)) → Pushes done old new (cell_facts p r kind (loaded p r kind a))
  number_facts done old new kind k a e h = subst (λ kind. Pushes done old new (cell_facts p r kind (loaded p r kind a))) (sym e) h

  pub pointer_facts : {A : Type 0} (done : Result A NoMemory) (old new : List Item) (kind : CellKind) (a : Term) → kind ≡ cell.Ptr
      → Pushes done old new (known (at_most (num (pos 0)) (load_term p r r.blocks a)) ∷ known (less (load_term p r r.blocks a) (of_one term.Count r.table)) ∷ [])
      → Pushes done old new (cell_facts p r kind (loaded p r kind a))
  pointer_facts done old new kind a e h = subst (λ kind. Pushes done old new (cell_facts p r kind (loaded p r kind a))) (sym e) h

  pub pointing_as : (draft : Result Formula NoMemory) (made : ValueTerm) (a : Term) → FormulaIs draft (pointing_term p r (view_term made)) → view_term made ≡ a
      → FormulaIs draft (pointing_term p r a)
  pointing_as draft made a h e = subst (λ a. FormulaIs draft (pointing_term p r a)) e h
