use Rattle.std.proofs.Common.{ap, Err}
use Rattle.wp_words.specs.CommandView.{view_wanted}
use Rattle.wp_cli.proofs.Answering.{too_long_file}
use Rattle.wp_cli.proofs.top.file_answer.Goals as goal

pub returns-in_ok-answer-in-Err-TooLong-clause-answer : goal.returns-in_ok-answer-in-Err-TooLong-clause-answer
returns-in_ok-answer-in-Err-TooLong-clause-answer g c =
    let answer = c.in_ok-answer-in-Err-TooLong.answer in
    too_long_file c.args.machdep (view_wanted c.args.wanted) (g.F.Files.holds c.args.files.now c.args.name.now) (g.F.Files.left c.open.new.self) (g.F.Files.left c.read_all.new.files) answer.status answer.text
    c.in_ok-open.ensures.whole (c.in-Err-TooLong.ensures.too_long (ap Err c.in-Err-TooLong.field-0-is)) c.in_ok-answer-in-Err-TooLong.ensures.answer
