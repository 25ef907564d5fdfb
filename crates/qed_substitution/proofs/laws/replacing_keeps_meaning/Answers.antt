use Rattle.qed_substitution.proofs.Substituted.{replaced_means}
use Rattle.qed_substitution.proofs.laws.replacing_keeps_meaning.Goals as goal

pub returns : goal.returns
returns c = λ w x u t integer clear env. replaced_means w x u integer t env clear
