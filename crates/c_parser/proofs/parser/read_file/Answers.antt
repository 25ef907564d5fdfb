use Rattle.std.proofs.Common.{ap, ◌∙◌, subst}
use Rattle.c_parser.specs.Outcome.{Answers, outcome}
use Rattle.parse_file.specs.Views.{view_front}
use Rattle.c_parser.proofs.Reading.{outcome_is}
use Rattle.c_parser.proofs.parser.read_file.Goals as goal

pub returns : goal.returns
returns c =
    subst (Answers c.finish.result) (outcome_is c.as_slice.result.now (view_front c.in_ok-front.front) c.in_ok-front.ensures ∙ ap outcome c.as_slice.ensures) c.finish.ensures
