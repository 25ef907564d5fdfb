use Rattle.std.proofs.Common.{refl}
use Rattle.wp_base.specs.declared.answers.Status.TheVariants as status
use Rattle.view_words.specs.CommandView.{view_command}
use Rattle.report_view.specs.View.{view_answer}
use Rattle.report_view.proofs.Statuses.{answers_are, no_fault}
use Rattle.report_view.proofs.top.view_main.Goals as goal

pub returns-in-Ok-write_all-clause-answered : goal.returns-in-Ok-write_all-clause-answered
returns-in-Ok-write_all-clause-answered g c =
    answers_are g.F.Files.holds c.args.files.now c.args.words.now (view_command c.in-Some.asked) _ _ (view_answer c.in-Ok.answer) _ _ c.in-Some.ensures c.in-Ok.ensures.answer c.as_slice.ensures.value c.in-Ok-write_all.ensures.whole
    c.from_vec.ensures

pub returns-in-Ok-write_all-clause-read_fault : goal.returns-in-Ok-write_all-clause-read_fault
returns-in-Ok-write_all-clause-read_fault g c = λ e. no_fault status.ReadFault _ _ _ (view_answer c.in-Ok.answer) refl c.in-Ok.ensures.answer e

pub returns-in-Ok-write_all-clause-write_fault : goal.returns-in-Ok-write_all-clause-write_fault
returns-in-Ok-write_all-clause-write_fault g c = λ e. no_fault status.WriteFault _ _ _ (view_answer c.in-Ok.answer) refl c.in-Ok.ensures.answer e

pub returns-in-Ok-write_all-clause-unread_unwritten : goal.returns-in-Ok-write_all-clause-unread_unwritten
returns-in-Ok-write_all-clause-unread_unwritten g c = λ e. no_fault status.ReadFault _ _ _ (view_answer c.in-Ok.answer) refl c.in-Ok.ensures.answer e

pub returns-in-Ok-write_all-clause-no_memory_unwritten : goal.returns-in-Ok-write_all-clause-no_memory_unwritten
returns-in-Ok-write_all-clause-no_memory_unwritten g c = λ e. no_fault status.NoMemory _ _ _ (view_answer c.in-Ok.answer) refl c.in-Ok.ensures.answer e
