use Rattle.std.proofs.Common.{sym, ◌∙◌}
use Rattle.std.proofs.lemmas.List.{take_rest}
use Rattle.c_lexer.proofs.Quoted.{char_at_front}
use Rattle.c_lexer.proofs.chars.char_at.Goals as goal

pub returns : goal.returns
returns c = (rw take_rest at c.char_behind.ensures) ∙ sym (char_at_front c.args.annotated c.args.bytes.now c.requires)
