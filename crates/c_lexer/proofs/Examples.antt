use Rattle.std.proofs.Common.{◌≡◌, ℕ, pos, negsuc, ◌^◌, ◌-◌, [], ◌∷◌, refl, codes, Ok, Err}
use Rattle.c_syntax.specs.declared.token.Token.{Token}
use Rattle.c_syntax.specs.declared.token.TokenKind.{TokenKind}
use Rattle.c_syntax.specs.declared.token.TokenKind.TheVariants as k
use Rattle.c_syntax.specs.declared.token.Base.TheVariants as b
use Rattle.c_syntax.specs.declared.token.Suffix.TheVariants as x
use Rattle.c_syntax.specs.declared.token.Punct.TheVariants as p
use Rattle.wp_base.specs.declared.answers.Rule.TheVariants as rule
use Rattle.c_lexer.specs.Tokens.{tokens_of}
use Rattle.c_lexer.specs.Lexemes.{token_at, kind_of, is_lexeme, is_number, char_value}
use Rattle.c_lexer.specs.Pieces.{piece_at}
use Rattle.c_lexer.specs.Tables.{punctuators, words, suffixes}

abbrev t : ℕ → TokenKind → Token
t line kind = record { kind = kind; line = line }

ex0 : tokens_of (codes "0x1Fu") ≡ Ok (t 1 (k.Number (pos (31)) b.Hexadecimal x.U) ∷ [])
unfolding piece_at token_at kind_of is_lexeme is_number char_value punctuators words suffixes
ex0 = refl

ex1 : tokens_of (codes "017L") ≡ Ok (t 1 (k.Number (pos (15)) b.Octal x.L) ∷ [])
unfolding piece_at token_at kind_of is_lexeme is_number char_value punctuators words suffixes
ex1 = refl

ex2 : tokens_of (codes "0") ≡ Ok (t 1 (k.Number (pos (0)) b.Decimal x.None) ∷ [])
unfolding piece_at token_at kind_of is_lexeme is_number char_value punctuators words suffixes
ex2 = refl

ex3 : tokens_of (codes "00") ≡ Ok (t 1 (k.Number (pos (0)) b.Octal x.None) ∷ [])
unfolding piece_at token_at kind_of is_lexeme is_number char_value punctuators words suffixes
ex3 = refl

ex4 : tokens_of (codes "1.") ≡ Err (record { rule = rule.Lexical; line = 1 })
unfolding piece_at token_at kind_of is_lexeme is_number char_value punctuators words suffixes
ex4 = refl

ex5 : tokens_of (codes "1..2") ≡ Ok (t 1 (k.Number (pos (1)) b.Decimal x.None) ∷ t 1 (k.Punct p.Dot) ∷ t 1 (k.Punct p.Dot) ∷ t 1 (k.Number (pos (2)) b.Decimal x.None) ∷ [])
unfolding piece_at token_at kind_of is_lexeme is_number char_value punctuators words suffixes
ex5 = refl

ex6 : tokens_of (codes "/*@ 1..2 */") ≡ Ok (t 1 (k.AnnotOpen) ∷ t 1 (k.Number (pos (1)) b.Decimal x.None) ∷ t 1 (k.Punct p.Range) ∷ t 1 (k.Number (pos (2)) b.Decimal x.None) ∷ t 1 (k.AnnotClose) ∷ [])
unfolding piece_at token_at kind_of is_lexeme is_number char_value punctuators words suffixes
ex6 = refl

ex7 : tokens_of (codes "0xg") ≡ Err (record { rule = rule.Lexical; line = 1 })
unfolding piece_at token_at kind_of is_lexeme is_number char_value punctuators words suffixes
ex7 = refl

ex8 : tokens_of (codes "18446744073709551615") ≡ Ok (t 1 (k.Number (pos (18446744073709551615)) b.Decimal x.None) ∷ [])
unfolding piece_at token_at kind_of is_lexeme is_number char_value punctuators words suffixes
ex8 = refl

ex9 : tokens_of (codes "18446744073709551616") ≡ Err (record { rule = rule.Lexical; line = 1 })
unfolding piece_at token_at kind_of is_lexeme is_number char_value punctuators words suffixes
ex9 = refl

ex10 : tokens_of (codes "//@ 170141183460469231731687303715884105727") ≡ Ok (t 1 (k.AnnotOpen) ∷ t 1 (k.Number (pos (2 ^ 127 - 1)) b.Decimal x.None) ∷ t 1 (k.AnnotClose) ∷ [])
unfolding piece_at token_at kind_of is_lexeme is_number char_value punctuators words suffixes
ex10 = refl

ex11 : tokens_of (codes "//@ 170141183460469231731687303715884105728") ≡ Err (record { rule = rule.Lexical; line = 1 })
unfolding piece_at token_at kind_of is_lexeme is_number char_value punctuators words suffixes
ex11 = refl

ex12 : tokens_of (codes "'\\x41'") ≡ Ok (t 1 (k.Char (pos 65)) ∷ [])
unfolding piece_at token_at kind_of is_lexeme is_number char_value punctuators words suffixes
ex12 = refl

ex13 : tokens_of (codes "'\\377'") ≡ Ok (t 1 (k.Char (negsuc 0)) ∷ [])
unfolding piece_at token_at kind_of is_lexeme is_number char_value punctuators words suffixes
ex13 = refl

ex14 : tokens_of (codes "'\\400'") ≡ Err (record { rule = rule.Lexical; line = 1 })
unfolding piece_at token_at kind_of is_lexeme is_number char_value punctuators words suffixes
ex14 = refl

ex15 : tokens_of (codes "'ab'") ≡ Err (record { rule = rule.Lexical; line = 1 })
unfolding piece_at token_at kind_of is_lexeme is_number char_value punctuators words suffixes
ex15 = refl

ex16 : tokens_of (codes "a/**/b") ≡ Ok (t 1 (k.Name (codes "a")) ∷ t 1 (k.Name (codes "b")) ∷ [])
unfolding piece_at token_at kind_of is_lexeme is_number char_value punctuators words suffixes
ex16 = refl

ex17 : tokens_of (codes "//@ x") ≡ Ok (t 1 (k.AnnotOpen) ∷ t 1 (k.Name (codes "x")) ∷ t 1 (k.AnnotClose) ∷ [])
unfolding piece_at token_at kind_of is_lexeme is_number char_value punctuators words suffixes
ex17 = refl

ex18 : tokens_of (codes "/*@ a // b */ c") ≡ Ok (t 1 (k.AnnotOpen) ∷ t 1 (k.Name (codes "a")) ∷ t 1 (k.AnnotClose) ∷ t 1 (k.Name (codes "c")) ∷ [])
unfolding piece_at token_at kind_of is_lexeme is_number char_value punctuators words suffixes
ex18 = refl

ex19 : tokens_of (codes "# 1 \"f.c\"") ≡ Ok ([])
unfolding piece_at token_at kind_of is_lexeme is_number char_value punctuators words suffixes
ex19 = refl

ex20 : tokens_of (codes "#define") ≡ Err (record { rule = rule.Lexical; line = 1 })
unfolding piece_at token_at kind_of is_lexeme is_number char_value punctuators words suffixes
ex20 = refl

ex21 : tokens_of (codes "a<==>b") ≡ Ok (t 1 (k.Name (codes "a")) ∷ t 1 (k.Punct p.AtMost) ∷ t 1 (k.Punct p.Assign) ∷ t 1 (k.Punct p.Greater) ∷ t 1 (k.Name (codes "b")) ∷ [])
unfolding piece_at token_at kind_of is_lexeme is_number char_value punctuators words suffixes
ex21 = refl

ex22 : tokens_of (codes "/*@a<==>b*/") ≡ Ok (t 1 (k.AnnotOpen) ∷ t 1 (k.Name (codes "a")) ∷ t 1 (k.Punct p.Iff) ∷ t 1 (k.Name (codes "b")) ∷ t 1 (k.AnnotClose) ∷ [])
unfolding piece_at token_at kind_of is_lexeme is_number char_value punctuators words suffixes
ex22 = refl

ex23 : tokens_of (codes "\\result") ≡ Err (record { rule = rule.Lexical; line = 1 })
unfolding piece_at token_at kind_of is_lexeme is_number char_value punctuators words suffixes
ex23 = refl

ex24 : tokens_of (codes "//@ \\foo") ≡ Err (record { rule = rule.Word; line = 1 })
unfolding piece_at token_at kind_of is_lexeme is_number char_value punctuators words suffixes
ex24 = refl

ex25 : tokens_of (codes "float") ≡ Err (record { rule = rule.Word; line = 1 })
unfolding piece_at token_at kind_of is_lexeme is_number char_value punctuators words suffixes
ex25 = refl

ex26 : tokens_of (codes "boolean") ≡ Ok (t 1 (k.Name (codes "boolean")) ∷ [])
unfolding piece_at token_at kind_of is_lexeme is_number char_value punctuators words suffixes
ex26 = refl

ex27 : tokens_of (codes "/*@ boolean*/") ≡ Err (record { rule = rule.Word; line = 1 })
unfolding piece_at token_at kind_of is_lexeme is_number char_value punctuators words suffixes
ex27 = refl

ex28 : tokens_of (codes "a\n/*@ b\n@ # 1 x */# 1") ≡ Err (record { rule = rule.Lexical; line = 3 })
unfolding piece_at token_at kind_of is_lexeme is_number char_value punctuators words suffixes
ex28 = refl

ex29 : tokens_of (codes "a\n/*@ b\n # 1 x */\n/* */ #/**/ 1 /* zz \nc") ≡ Ok (t 1 (k.Name (codes "a")) ∷ t 2 (k.AnnotOpen) ∷ t 2 (k.Name (codes "b")) ∷ t 3 (k.AnnotClose) ∷ t 5 (k.Name (codes "c")) ∷ [])
unfolding piece_at token_at kind_of is_lexeme is_number char_value punctuators words suffixes
ex29 = refl

ex30 : tokens_of (codes "x\n/*\n*/y /*") ≡ Err (record { rule = rule.Lexical; line = 3 })
unfolding piece_at token_at kind_of is_lexeme is_number char_value punctuators words suffixes
ex30 = refl
