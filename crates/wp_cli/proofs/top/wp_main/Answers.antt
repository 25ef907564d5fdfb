use Rattle.std.proofs.Common.{ℕ, List, sym, subst}
use Rattle.std.specs.Io.KnownBytes.{Appends}
use Rattle.wp_words.specs.Command.{model_asked, wanted_of}
use Rattle.wp_words.specs.CommandView.{view_command, view_wanted}
use Rattle.wp_cli.specs.Top.{told}
use Rattle.wp_cli.proofs.Claims.{words_answered, answer_written, file_answered, no_write_fault}
use Rattle.wp_cli.proofs.top.wp_main.Goals as goal

pub returns-in-Ok-write_all-clause-answered : goal.returns-in-Ok-write_all-clause-answered
returns-in-Ok-write_all-clause-answered g c =
    let answer = c.in-Ok.answer in
    let words = c.args.words.now in
    let file = words_answered g.F.Files.holds c.args.files.now words (view_command c.in-Some.command) answer.status answer.text (sym c.in-Some.ensures) c.in-Ok.ensures.answer in
    let written = subst (λ (bytes : List ℕ). Appends (g.K.Sink.taken c.args.out.now) (g.K.Sink.taken c.write_all.new.out) bytes) c.bytes.ensures c.in-Ok-write_all.ensures.whole in
    answer_written (model_asked words) (wanted_of words) (told g.F.Files.holds c.args.files.now words) (g.K.Sink.taken c.args.out.now) (g.K.Sink.taken c.write_all.new.out) answer.status answer.text file written

pub returns-in-Ok-write_all-clause-complete : goal.returns-in-Ok-write_all-clause-complete
returns-in-Ok-write_all-clause-complete g c text is none none' =
    let answer = c.in-Ok.answer in
    let words = c.args.words.now in
    let file = words_answered g.F.Files.holds c.args.files.now words (view_command c.in-Some.command) answer.status answer.text (sym c.in-Some.ensures) c.in-Ok.ensures.answer in
    file_answered (model_asked words) (wanted_of words) (told g.F.Files.holds c.args.files.now words) text answer.status answer.text is file

pub returns-in-Ok-write_all-clause-front : goal.returns-in-Ok-write_all-clause-front
returns-in-Ok-write_all-clause-front g c is =
    let answer = c.in-Ok.answer in
    absurd (no_write_fault c.in-Some.command.model (view_wanted c.in-Some.command.wanted) (g.F.Files.holds c.args.files.now c.in-Some.command.file.now) answer.status answer.text c.in-Ok.ensures.answer is)
