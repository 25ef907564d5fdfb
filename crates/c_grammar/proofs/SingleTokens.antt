-- Single tokens: what a list begins with, where a reader took a token of it.
use Rattle.std.proofs.Common.{◌≡◌, ℕ, ◌≤◌, Bool, true, false, cond, List, [], ◌∷◌, ◌++◌, length, Some, None, refl, sym, ap, ◌∙◌, arith}
use denote.Enum.Bare.{sameb, same_true}
use Rattle.c_syntax.specs.declared.token.Token.{Token}
use Rattle.c_syntax.specs.declared.token.TokenKind.{TokenKind}
use Rattle.c_syntax.specs.declared.token.TokenKind.TheVariants as k
use Rattle.c_syntax.specs.declared.token.Word.{Word}
use Rattle.c_syntax.specs.declared.token.Punct.{Punct}
use Rattle.c_syntax.specs.contracts.token.Punct.{the_type as punct_type}
use Rattle.c_syntax.specs.contracts.token.Word.{the_type as word_type}
use Rattle.c_grammar.specs.Tokens.{Names, is_type, punct, word, name, annot_open, annot_close, first_line}
use Rattle.c_grammar.specs.Reading.{punct_at, punct_by, word_at, word_by, name_at, name_by, new_name_at, unless_type, annot_open_at, annot_open_by, annot_close_at, annot_close_by}
use Rattle.c_grammar.proofs.Readers.{bind_ok, guard_ok, pair_is}

punct_by_is : (q : Punct) (line : ℕ) (kind : TokenKind) (ts : List Token) (line' : ℕ) (after : List Token) → punct_by q line kind ts ≡ Some (line', after)
    → (kind ≡ k.Punct q) × (line ≡ line') × (ts ≡ after)
punct_by_is q line (k.Punct found) ts line' after h =
    let x = guard_ok (sameb punct_type found q) (line, ts) (line', after) h in
    let same = pair_is line line' ts after (ap Some x.1) in
    (ap k.Punct (same_true punct_type tt found q x.0), same.0, same.1)
punct_by_is q line _ ts line' after h = absurd cc

pub punct_is : (q : Punct) (ts : List Token) (line : ℕ) (after : List Token) → punct_at q ts ≡ Some (line, after) → ts ≡ punct q line ∷ after
punct_is q [] line after h = absurd cc
punct_is q (t ∷ ts) line after h =
    let x = punct_by_is q t.line t.kind ts line after h in
    ap (λ kind. record { kind = kind; line = t.line } ∷ ts) x.0 ∙ ap (λ line. punct q line ∷ ts) x.1 ∙ ap (λ ts. punct q line ∷ ts) x.2

word_by_is : (v : Word) (line : ℕ) (kind : TokenKind) (ts : List Token) (line' : ℕ) (after : List Token) → word_by v line kind ts ≡ Some (line', after)
    → (kind ≡ k.Word v) × (line ≡ line') × (ts ≡ after)
word_by_is v line (k.Word found) ts line' after h =
    let x = guard_ok (sameb word_type found v) (line, ts) (line', after) h in
    let same = pair_is line line' ts after (ap Some x.1) in
    (ap k.Word (same_true word_type tt found v x.0), same.0, same.1)
word_by_is v line _ ts line' after h = absurd cc

pub word_is : (v : Word) (ts : List Token) (line : ℕ) (after : List Token) → word_at v ts ≡ Some (line, after) → ts ≡ word v line ∷ after
word_is v [] line after h = absurd cc
word_is v (t ∷ ts) line after h =
    let x = word_by_is v t.line t.kind ts line after h in
    ap (λ kind. record { kind = kind; line = t.line } ∷ ts) x.0 ∙ ap (λ line. word v line ∷ ts) x.1 ∙ ap (λ ts. word v line ∷ ts) x.2

name_by_is : (line : ℕ) (kind : TokenKind) (ts : List Token) (x : List ℕ × ℕ) (after : List Token) → name_by line kind ts ≡ Some (x, after)
    → (kind ≡ k.Name x.0) × (line ≡ x.1) × (ts ≡ after)
name_by_is line (k.Name y) ts x after h =
    let found : List ℕ × ℕ = (y, line) in
    let same = pair_is found x ts after h in
    (ap (λ (x : List ℕ × ℕ). k.Name x.0) same.0, ap (λ (x : List ℕ × ℕ). x.1) same.0, same.1)
name_by_is line _ ts x after h = absurd cc

pub name_is : (ts : List Token) (x : List ℕ × ℕ) (after : List Token) → name_at ts ≡ Some (x, after) → ts ≡ name x.0 x.1 ∷ after
name_is [] x after h = absurd cc
name_is (t ∷ ts) x after h =
    let y = name_by_is t.line t.kind ts x after h in
    ap (λ kind. record { kind = kind; line = t.line } ∷ ts) y.0 ∙ ap (λ line. name x.0 line ∷ ts) y.1 ∙ ap (λ ts. name x.0 x.1 ∷ ts) y.2

unless_ok : {X : Type 0} (types : Names) (x : List ℕ) (b : Bool) (found y : X) → cond b None (Some found) ≡ Some y → (b ≡ false) × (found ≡ y)
unless_ok types x false found y h = (refl, cc)
unless_ok types x true found y h = absurd cc

pub new_name_is : (types : Names) (ts : List Token) (x : List ℕ × ℕ) (after : List Token) → new_name_at types ts ≡ Some (x, after) → (ts ≡ name x.0 x.1 ∷ after) × (is_type types x.0 ≡ false)
new_name_is types ts x after h =
    let y = bind_ok (name_at ts) (λ x. unless_type types x.0.0 x) (x, after) h in
    let z = unless_ok types y.0.0.0 (is_type types y.0.0.0) y.0 (x, after) y.2 in
    let same = pair_is y.0.0 x y.0.1 after (ap Some z.1) in
    (name_is ts y.0.0 y.0.1 y.1 ∙ ap (λ (x : List ℕ × ℕ). name x.0 x.1 ∷ y.0.1) same.0 ∙ ap (λ ts. name x.0 x.1 ∷ ts) same.1, ap (λ (x : List ℕ × ℕ). is_type types x.0) (sym same.0) ∙ z.0)

-- ---- annotations

open_by_is : (line : ℕ) (kind : TokenKind) (ts : List Token) (line' : ℕ) (after : List Token) → annot_open_by line kind ts ≡ Some (line', after)
    → (kind ≡ k.AnnotOpen) × (line ≡ line') × (ts ≡ after)
open_by_is line k.AnnotOpen ts line' after h = let same = pair_is line line' ts after h in (refl, same.0, same.1)
open_by_is line _ ts line' after h = absurd cc

pub open_is : (ts : List Token) (line : ℕ) (after : List Token) → annot_open_at ts ≡ Some (line, after) → ts ≡ annot_open line ∷ after
open_is [] line after h = absurd cc
open_is (t ∷ ts) line after h =
    let x = open_by_is t.line t.kind ts line after h in
    ap (λ kind. record { kind = kind; line = t.line } ∷ ts) x.0 ∙ ap (λ line. annot_open line ∷ ts) x.1 ∙ ap (λ ts. annot_open line ∷ ts) x.2

close_by_is : (line : ℕ) (kind : TokenKind) (ts : List Token) (line' : ℕ) (after : List Token) → annot_close_by line kind ts ≡ Some (line', after)
    → (kind ≡ k.AnnotClose) × (line ≡ line') × (ts ≡ after)
close_by_is line k.AnnotClose ts line' after h = let same = pair_is line line' ts after h in (refl, same.0, same.1)
close_by_is line _ ts line' after h = absurd cc

pub close_is : (ts : List Token) (line : ℕ) (after : List Token) → annot_close_at ts ≡ Some (line, after) → ts ≡ annot_close line ∷ after
close_is [] line after h = absurd cc
close_is (t ∷ ts) line after h =
    let x = close_by_is t.line t.kind ts line after h in
    ap (λ kind. record { kind = kind; line = t.line } ∷ ts) x.0 ∙ ap (λ line. annot_close line ∷ ts) x.1 ∙ ap (λ ts. annot_close line ∷ ts) x.2

-- ---- lines

pub first_line_front : (xs rest : List Token) → 1 ≤ length xs → first_line (xs ++ rest) ≡ first_line xs
first_line_front [] rest some = absurd (omega arith)
first_line_front (t ∷ xs) rest some = refl
