-- The laws of the changes.
use Rattle.std.specs.Prelude.{◌≡◌, ℕ, true, List}
use Rattle.qed_terms.specs.Meaning.{World, Values, Cells, memory, meaning}
use Rattle.qed_terms.specs.Setting.{Setting}
use Rattle.qed_terms.specs.Tree.{Tree}
use Rattle.qed_rules.specs.Rules.{step}
use Rattle.qed_simplify.specs.Normal.{Normal, Suits}
use Rattle.branches.specs.Steps.{LeadsToOne}
use Rattle.branches.specs.Branch.{Branch, HasModel}
use Rattle.branch_changes.specs.MemoryNames.{with_memory, replace_memory, may_replace_memory}
use Rattle.branch_changes.specs.Changes.{Changes}

-- a branch that is closed has no model
abbrev pub Refutes : World → (Branch → Type 0) → Type 0
Refutes w closed = (b : Branch) → closed b → HasModel w b → ⊥

module _ (closed : Branch → Type 0) where
  -- A change leaves a branch a model, in a world that suits the setting.
  abbrev pub ChangesKeepModels : Type 0
  ChangesKeepModels =
      (s : Setting) (w : World) → Suits s w → Refutes w closed → (b c : Branch) → Changes (Normal (step s)) closed b c → HasModel w b → HasModel w c

  -- A branch is changed in one way.
  abbrev pub ChangesLeadToOne : Type 0
  ChangesLeadToOne = (s : Setting) → LeadsToOne (Changes (Normal (step s)) closed)

-- A term that is a memory under all values may be put in the places of a memory where no quantifier binds a name of it: then the tree means what it
-- means with the name at the term's memory.
abbrev pub ReplacingMemoriesKeepsMeaning : Type 0
ReplacingMemoriesKeepsMeaning =
    (w : World) (x : List ℕ) (u t : Tree) → ((env : Values) → meaning w env u ≡ Cells (memory (meaning w env u))) → may_replace_memory x u t ≡ true
    → (env : Values) → meaning w env (replace_memory x u t) ≡ meaning w (with_memory env x (memory (meaning w env u))) t
