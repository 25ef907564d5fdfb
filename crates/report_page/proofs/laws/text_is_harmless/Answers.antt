use Rattle.report_page.proofs.Reading.{harmless_text}
use Rattle.report_page.proofs.laws.text_is_harmless.Goals as goal

pub returns : goal.returns
returns c = harmless_text
