-- The laws as they are stated, from those of the crates below.
use Rattle.qed_terms.proofs.FreeNames.{meaning_of_free_names}
use Rattle.qed_substitution.proofs.Substituted.{replaced_means}
use Rattle.qed_memories.proofs.Congruence.{heads_keep_alike, so_alike}
use Rattle.qed_rules.specs.Rules.{step}
use Rattle.qed_simplify.specs.Normal.{Normal}
use Rattle.qed_simplify.proofs.Laws.{normal-keeps, normal_is_one}
use Rattle.same_terms.proofs.Stated.{same_mean}
use Rattle.branches.specs.Branch.{Branch}
use Rattle.branch_changes.specs.Laws.{ChangesKeepModels, ChangesLeadToOne, ReplacingMemoriesKeepsMeaning}
use Rattle.branch_changes.proofs.Below.{Below}
use Rattle.branch_changes.proofs.Keeps.{keep_models}
use Rattle.branch_changes.proofs.MemoryPuts.{replaced_memory}
use Rattle.branch_changes.proofs.One.{one_change}

below : Below
below = record {
  free_names = meaning_of_free_names;
  replacing = λ w x u t integer clear env. replaced_means w x u integer t env clear;
  heads = heads_keep_alike;
  truths = so_alike;
  normal_means = normal-keeps;
  one_normal = normal_is_one;
  same_means = same_mean;
}

pub keeps_models : (closed : Branch → Type 0) → ChangesKeepModels closed
keeps_models closed s w suits refutes b c change m = keep_models below w s suits closed refutes b c change m

pub leads_to_one : (closed : Branch → Type 0) → ChangesLeadToOne closed
leads_to_one closed s = one_change (Normal (step s)) (normal_is_one s) closed

pub replacing_memories : ReplacingMemoriesKeepsMeaning
replacing_memories = replaced_memory meaning_of_free_names
