-- What is so of texts that are read.
use Rattle.std.specs.Prelude.{◌≡◌, ℕ, List}
use Rattle.wp_base.specs.declared.answers.Refusal.{Refusal}
use Rattle.c_kinds.specs.declared.models.Machdep.{Machdep}
use Rattle.logic_sources.specs.Told.{Source}
use Rattle.plain_front.specs.Text.{Spells, HasFault, SpellsOrHasFault}

-- What a text is read as is determined; a text that is read has no fault, and no text has two; and each is read or has one.
pub record TextsAreRead : Type 0 where
  pub once : (m : Machdep) (text : List ℕ) (s x : Source) → Spells m text s → Spells m text x → s ≡ x
  pub no_fault : (m : Machdep) (text : List ℕ) (s : Source) (r : Refusal) → Spells m text s → HasFault m text r → ⊥
  pub one_fault : (m : Machdep) (text : List ℕ) (r q : Refusal) → HasFault m text r → HasFault m text q → r ≡ q
  pub each : (m : Machdep) (text : List ℕ) → SpellsOrHasFault m text
