use Rattle.wp_words.specs.CommandView.{view_wanted}
use Rattle.wp_cli.specs.Answers.{faulty}
use Rattle.wp_cli.proofs.Answering.{report_answers, refusal_answers, text_refused}
use Rattle.wp_cli.proofs.answer.text_answer.Goals as goal

pub returns-in-Ok : goal.returns-in-Ok
returns-in-Ok c =
    report_answers c.args.model (view_wanted c.args.wanted) c.args.text.now c.in-Ok.report c.report_answer.result.status c.report_answer.result.text c.requires c.in-Ok.ensures c.report_answer.ensures.status c.report_answer.ensures.text

pub returns-in-Err-Refused : goal.returns-in-Err-Refused
returns-in-Err-Refused c =
    let refusal = c.in-Err-Refused.refusal in
    let fault = text_refused c.args.model (view_wanted c.args.wanted) c.args.text.now c.in-Err-Refused.field-0 refusal c.in-Err-Refused.field-0-is c.in-Err-Refused.ensures in
    refusal_answers c.args.model (view_wanted c.args.wanted) c.args.text.now refusal c.refusal_answer.result c.refusal_answer.ensures.status c.refusal_answer.ensures.text (faulty refusal c.requires fault)
