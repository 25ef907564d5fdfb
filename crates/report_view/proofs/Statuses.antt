-- An answer is no fault.
use Rattle.std.proofs.Common.{◌≡◌, ℕ, Bool, true, false, cond, List, Option, Some, None, refl, sym, ap, subst, ◌∙◌}
use Rattle.std.proofs.lemmas.Bool.{false≢true}
use Rattle.wp_base.specs.declared.answers.Status.{Status}
use Rattle.wp_base.specs.declared.answers.Status.TheVariants as status
use Rattle.report_read.specs.Report.{Report, report, refusal}
use Rattle.report_read.specs.Read as reading
use Rattle.report_read.specs.Read.{document_in, read, unread}
use Rattle.report_shown.specs.Shown.{shown, all_proved}
use Rattle.view_words.specs.Command.{Command}
use Rattle.report_view.specs.Answer.{Answer, said_of, shown_answer, answer_unless, report_answer, answer_by}
use Rattle.std.specs.Prelude.{option_map}
use Rattle.std.specs.Io.KnownBytes.{Appends}
use Rattle.view_words.specs.Command.{command_of}
use Rattle.report_view.specs.Top.{AnswersFiles, Answers, Written, file_named, report_named, told}

abbrev pub is_fault : Status → Bool
is_fault status.ReadFault = true
is_fault status.WriteFault = true
is_fault status.NoMemory = true
is_fault _ = false

by_verdicts : (b : Bool) → is_fault (cond b status.AllProved status.SomeUnknown) ≡ false
by_verdicts true = refl
by_verdicts false = refl

unless : (o : Option (List ℕ)) (a : Answer) → is_fault a.status ≡ false → is_fault (answer_unless o a).status ≡ false
unless None a h = h
unless (Some said) a h = refl

of_report : (c : Command) (source : List ℕ) (r : Report) → is_fault (report_answer c source r).status ≡ false
unfolding report_answer
of_report c source r = unless (said_of r.goals c.wanted) (shown_answer c source r (shown c.wanted r.goals)) (by_verdicts (all_proved (shown c.wanted r.goals)))

by_reading : (c : Command) (source : List ℕ) (o : reading.Answer) → is_fault (answer_by c source o).status ≡ false
by_reading c source (read (report r)) = of_report c source r
by_reading c source (read (refusal r)) = refl
by_reading c source (unread line) = refl

-- so a status that tells of a fault isn't that of an answer
pub no_fault : {X : Type 0} (s : Status) (c : Command) (file text : Option (List ℕ)) (a : Answer) → is_fault s ≡ true → AnswersFiles c file text a → a.status ≡ s → X
no_fault s c file text a h f e = absurd (false≢true (sym (by_reading c f.source (document_in f.text)) ∙ ap (λ (b : Answer). is_fault b.status) (sym f.answered) ∙ ap is_fault e ∙ h))

written_answers : (s : Status) (c : Command) (file text before after : Option (List ℕ)) (said : List ℕ) → is_fault s ≡ false → Written c file text before after s said → Answers (Some c) file text before after s said
written_answers status.AllProved c file text before after said h w = w
written_answers status.SomeUnknown c file text before after said h w = w
written_answers status.Refused c file text before after said h w = w
written_answers status.Usage c file text before after said h w = w
written_answers status.ReadFault c file text before after said h w = absurd (false≢true (sym h))
written_answers status.WriteFault c file text before after said h w = absurd (false≢true (sym h))
written_answers status.NoMemory c file text before after said h w = absurd (false≢true (sym h))

-- what was written whole is the answer to the command that the words are
pub answers_are : {S : Type 0} (holds : S → List ℕ → Option (List ℕ)) (files : S) (words : List (List ℕ)) (c : Command) (before after : Option (List ℕ)) (a : Answer) (bytes said : List ℕ)
    → Some c ≡ command_of words → AnswersFiles c (holds files c.file) (holds files c.report) a → bytes ≡ a.text → Appends before after bytes → said ≡ a.said
    → Answers (command_of words) (told holds files (file_named words)) (told holds files (report_named words)) before after a.status said
answers_are holds files words c before after a bytes said e f b w s =
    let P : Option Command → Type 0 = λ o. Answers o (told holds files (option_map (λ (d : Command). d.file) o)) (told holds files (option_map (λ (d : Command). d.report) o)) before after a.status said in
    let Q : List ℕ → Type 0 = λ t. Appends before after t in
    let is_none : is_fault a.status ≡ false = ap (λ (b : Answer). is_fault b.status) f.answered ∙ by_reading c f.source (document_in f.text) in
    subst P e (written_answers a.status c (holds files c.file) (holds files c.report) before after said is_none (record { given = a; answered = f; written = subst Q b w; same_status = refl; same_said = s }))
