-- The words of types.
use Rattle.std.proofs.Common.{◌≡◌, true, false, List, Some, refl, sym, ap, ◌∙◌}
use Rattle.c_syntax.specs.declared.token.Token.{Token}
use Rattle.c_syntax.specs.declared.token.TokenKind.{TokenKind}
use Rattle.c_syntax.specs.declared.token.TokenKind.TheVariants as k
use Rattle.c_syntax.specs.declared.token.Word.{Word}
use Rattle.c_syntax.specs.declared.token.Word.TheVariants as w
use Rattle.c_grammar.specs.Types.{is_kind_word}
use Rattle.c_grammar.proofs.Readers.{guard_ok}
use Rattle.parse_types.specs.Read as r

pub kind_word_is : (kind : TokenKind) (v : Word) → r.kind_word kind ≡ Some v → (kind ≡ k.Word v) × (is_kind_word v ≡ true)
kind_word_is (k.Word u) v h =
    let x = guard_ok (is_kind_word u) u v h in
    (ap k.Word x.1, ap is_kind_word (sym x.1) ∙ x.0)
kind_word_is _ v h = absurd cc

pub const_is : (kind : TokenKind) → r.is_const kind ≡ true → kind ≡ k.Word w.Const
const_is (k.Word w.Const) h = refl
const_is (k.Word _) h = absurd cc
const_is _ h = absurd cc

-- no word of a kind is `const`
pub kind_not_const : (v : Word) → is_kind_word v ≡ true → r.is_const (k.Word v) ≡ false
kind_not_const w.Const h = absurd cc
kind_not_const _ h = refl

pub kind_word_starts : (v : Word) → is_kind_word v ≡ true → r.word_starts v ≡ true
kind_word_starts w.Const h = refl
kind_word_starts w.Void h = refl
kind_word_starts w.Struct h = refl
kind_word_starts w.Enum h = refl
kind_word_starts _ h = h

-- a word of a kind begins with a kind of its own
pub kind_worded : (v : Word) → is_kind_word v ≡ true → (ts after : List Token) → r.worded v ts after ≡ r.worded w.Int ts after
kind_worded w.Void h ts after = absurd cc
kind_worded w.Struct h ts after = absurd cc
kind_worded w.Enum h ts after = absurd cc
kind_worded _ h ts after = refl
