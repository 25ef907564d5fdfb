-- What is proved of all predicates, definitions, files and programs.
use Rattle.acsl_same_meaning.specs.Preds.{PredsAreWellFormed}
use Rattle.acsl_same_meaning.specs.Definitions.{DefinitionsAreWellFormed}
use Rattle.acsl_same_meaning.specs.Laws.{FilesAreWellFormed, FilesMeanTheSame}
use Rattle.acsl_same_meaning.specs.Programs.{ProgramsMeanTheSame}
use Rattle.acsl_same_meaning.proofs.Truths.{pred_fits}
use Rattle.acsl_same_meaning.proofs.Bodies.{definition_is}
use Rattle.acsl_same_meaning.proofs.Meanings.{well_formed, mean_the_same}
use Rattle.acsl_same_meaning.proofs.Guards.{all_stand}
use Rattle.acsl_same_meaning.proofs.Grammar.{programs_are_spelled}
use Rattle.acsl_same_meaning.proofs.Programs.{typed_files_are_spelled}

pub preds_are_well_formed : PredsAreWellFormed
preds_are_well_formed l s c b r n a sig lab are binds = pred_fits l s c sig lab (all_stand l s c sig lab) b r n a are binds

pub definitions_are_well_formed : DefinitionsAreWellFormed
definitions_are_well_formed f ds l spelled = definition_is all_stand f ds l spelled

pub files_are_well_formed : FilesAreWellFormed
files_are_well_formed = well_formed all_stand

pub files_mean_the_same : FilesMeanTheSame
files_mean_the_same = mean_the_same all_stand

pub programs_mean_the_same : ProgramsMeanTheSame
programs_mean_the_same tokens q ls m t a b spelled typed annotated expanded =
    files_mean_the_same t a b (typed_files_are_spelled m q t (programs_are_spelled tokens q ls spelled) typed) annotated expanded
