-- Answers in memory, as plain ones.
use Rattle.std.specs.Prelude.{ℕ, List, Vec}
use Rattle.std.specs.declared.alloc.Global.{Global}
use Rattle.report_view.specs.declared.answers.Answer as memory
use Rattle.report_view.specs.Answer.{Answer}

abbrev pub view_answer : memory.Answer → Answer
view_answer a = record { status = a.status; text = a.text.items; said = a.said.items }

abbrev pub items_of : Vec ℕ Global → List ℕ
items_of text = text.items
