use Rattle.std.proofs.Common.{◌∙◌}
use Rattle.std.proofs.lemmas.List.{take_rest}
use Rattle.std.proofs.lemmas.Result.{IfOk-weaker}
use Rattle.c_lexer.proofs.Names.{name_found}
use Rattle.c_lexer.proofs.lexemes.name_at.Goals as goal

pub returns : goal.returns
returns c =
    let found = name_found c.args.annotated c.args.bytes.now c.word_len-len.result c.requires (rw take_rest at c.word_len-len.ensures.value) in
    IfOk-weaker c.name_of.result _ _ (λ piece e. e ∙ found) c.name_of.ensures
