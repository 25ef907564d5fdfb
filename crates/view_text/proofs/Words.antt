-- A formula, word by word: what is put, and what is to come, make the whole.
use Rattle.std.proofs.Common.{◌≡◌, ℕ, List, [], ◌∷◌, ◌++◌, length, Some, None, sym, ap, ◌∙◌, arith, append_assoc, append-nil, length-append}
use Rattle.report_read.specs.Bytes.{until}
use Rattle.report_read.proofs.Fronts.{until_is}
use Rattle.report_read.proofs.Many.{Consumes, all_more, all_end}
use Rattle.view_text.specs.Text.{words, word_put, next_column, filled}

pub space_consumes : Consumes (until 32)
space_consumes bytes part rest h = let a = ap length (until_is 32 bytes part rest h).0 in let l = length-append part (32 ∷ rest) in omega (arith, a, l)

pub words_more : (bytes word rest : List ℕ) → until 32 bytes ≡ Some (word, rest) → words bytes ≡ word ∷ words rest
unfolding words
words_more bytes word rest e = ap (λ (p : List (List ℕ) × List ℕ). p.0 ++ p.1 ∷ []) (all_more (until 32) space_consumes bytes word rest e)

pub words_end : (bytes : List ℕ) → until 32 bytes ≡ None → words bytes ≡ bytes ∷ []
unfolding words
words_end bytes e = ap (λ (p : List (List ℕ) × List ℕ). p.0 ++ p.1 ∷ []) (all_end (until 32) bytes e)

pub word_more : (bytes word rest before after whole : List ℕ) (c next : ℕ) → until 32 bytes ≡ Some (word, rest) → after ≡ before ++ word_put c word → next ≡ next_column c word
    → before ++ filled c (words bytes) ≡ whole → after ++ filled next (words rest) ≡ whole
word_more bytes word rest before after whole c next e a n h =
    (λ j. a j ++ filled (n j) (words rest)) ∙ append_assoc before (word_put c word) (filled (next_column c word) (words rest))
    ∙ ap (λ ws. before ++ filled c ws) (sym (words_more bytes word rest e)) ∙ h

pub word_last : (bytes before after whole : List ℕ) (c : ℕ) → until 32 bytes ≡ None → after ≡ before ++ word_put c bytes → before ++ filled c (words bytes) ≡ whole → after ≡ whole
word_last bytes before after whole c e a h =
    a ∙ ap (λ r. before ++ r) (sym (append-nil (word_put c bytes))) ∙ ap (λ ws. before ++ filled c ws) (sym (words_end bytes e)) ∙ h
