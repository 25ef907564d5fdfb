-- Drafts of values, and lists of drafts.
use Rattle.std.specs.Prelude.{◌≡◌, List, [], ◌∷◌, Result, IfOk, OnOk}
use Rattle.wp_base.specs.declared.memory.NoMemory.{NoMemory}
use Rattle.qed_terms.specs.declared.term.Term.{Term}
use Rattle.qed_terms.specs.declared.term.Formula.{Formula}
use Rattle.qed_terms.specs.Tree.{Trees, stop, more}
use Rattle.term_drafts.specs.Drafts.{TermIs, FormulaIs}
use Rattle.value_terms.specs.Readings as plain
use Rattle.value_terms.specs.Words as words
use Rattle.memory_values.specs.declared.items.Item.{Item}
use Rattle.memory_values.specs.declared.terms.ValueTerm.{ValueTerm}
use Rattle.memory_values.specs.View.{view_term, Pushed}

pub record ValueIs (draft : Result ValueTerm NoMemory) (a : plain.Term) : Type 0 where
  pub is : IfOk draft (λ made. view_term made ≡ a)

-- one after the other, as the kids of a node
abbrev pub TermsAre : List (Result Term NoMemory) → Trees → Type 0
TermsAre [] stop = Unit {0}
TermsAre [] (more t ts) = ⊥
TermsAre (d ∷ ds) stop = ⊥
TermsAre (d ∷ ds) (more t ts) = TermIs d t × TermsAre ds ts

abbrev pub FormulasAre : List (Result Formula NoMemory) → Trees → Type 0
FormulasAre [] stop = Unit {0}
FormulasAre [] (more f fs) = ⊥
FormulasAre (d ∷ ds) stop = ⊥
FormulasAre (d ∷ ds) (more f fs) = FormulaIs d f × FormulasAre ds fs

-- these items are pushed behind those that were there, up to want of memory
pub record Pushes {A : Type 0} (done : Result A NoMemory) (old new : List Item) (items : List words.Item) : Type 0 where
  pub is : OnOk done (Pushed old new items)
