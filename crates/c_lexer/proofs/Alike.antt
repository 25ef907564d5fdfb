-- The code's tables are those of the definition.
use Rattle.std.proofs.Common.{◌≡◌, map, refl}
use Rattle.c_lexer.specs.declared.tables.TheConstants.{PUNCTUATORS, WORDS, SUFFIXES}
use Rattle.c_lexer.specs.Tables.{punctuators, words, suffixes}

pub punctuator_rows : map (λ row. (row.0.now, row.1, row.2)) PUNCTUATORS ≡ punctuators
unfolding punctuators
punctuator_rows = refl

pub word_rows : map (λ row. (row.0.now, row.1, row.2)) WORDS ≡ words
unfolding words
word_rows = refl

pub suffix_rows : map (λ row. (row.0.now, row.1, row.2)) SUFFIXES ≡ suffixes
unfolding suffixes
suffix_rows = refl
