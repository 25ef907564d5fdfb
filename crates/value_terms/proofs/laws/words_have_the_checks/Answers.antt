use Rattle.value_terms.proofs.Listing.{words_have_the_checks}
use Rattle.value_terms.proofs.laws.words_have_the_checks.Goals as goal

pub returns : goal.returns
returns c = words_have_the_checks
