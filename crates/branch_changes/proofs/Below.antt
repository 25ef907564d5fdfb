-- What the laws of the changes take from below.
use Rattle.std.proofs.Common.{◌≡◌}
use Rattle.qed_terms.specs.Free.{MeaningOfFreeNames}
use Rattle.qed_terms.specs.Meaning.{Value, is_so}
use Rattle.qed_substitution.specs.Laws.{ReplacingKeepsMeaning}
use Rattle.qed_memories.specs.Alike.{Alike, HeadsKeepAlike}
use Rattle.qed_simplify.specs.Normal.{NormalIsOne, NormalKeepsMeaning}
use Rattle.same_terms.specs.Laws.{SameMeans}

pub record Below : Type 0 where
  pub free_names : MeaningOfFreeNames
  pub replacing : ReplacingKeepsMeaning
  pub heads : HeadsKeepAlike
  pub truths : (v w : Value) → Alike v w → is_so v ≡ is_so w
  pub normal_means : NormalKeepsMeaning
  pub one_normal : NormalIsOne
  pub same_means : SameMeans
