use Rattle.verified_sources.proofs.Sources.{tests_are_of_sources}
use Rattle.verified_sources.proofs.laws.tests_are_of_sources.Goals as goal

pub returns : goal.returns
returns c = tests_are_of_sources
