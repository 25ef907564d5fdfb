use Rattle.std.proofs.Common.{refl}
use Rattle.wp_cli.proofs.Answering.{too_long_answers}
use Rattle.wp_cli.proofs.answer.too_long_answer.Goals as goal

pub returns-clause-answer : goal.returns-clause-answer
returns-clause-answer c = too_long_answers _ c.refusal_answer.result refl c.refusal_answer.ensures.status c.refusal_answer.ensures.text
