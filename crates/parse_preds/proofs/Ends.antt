-- What comes next, and what readers of single tokens took.
use Rattle.std.proofs.Common.{◌≡◌, ℕ, suc, ◌≤◌, Bool, true, false, cond, eqb, List, [], ◌∷◌, Option, Some, None, refl, sym, ap, ◌∙◌, arith}
use Rattle.std.proofs.lemmas.Bool.Decides.{Decides-eqb, nat_tests}
use denote.Enum.Bare.{sameb, same_true}
use Rattle.c_syntax.specs.declared.token.Token.{Token}
use Rattle.c_syntax.specs.declared.token.TokenKind.{TokenKind}
use Rattle.c_syntax.specs.declared.token.TokenKind.TheVariants as k
use Rattle.c_syntax.specs.declared.token.Punct.{Punct}
use Rattle.c_syntax.specs.declared.token.Punct.TheVariants as p
use Rattle.c_syntax.specs.contracts.token.Punct.{the_type as punct_type}
use Rattle.c_syntax.specs.declared.expr.BinOp.{BinOp}
use Rattle.c_grammar.specs.Tokens.{punct}
use Rattle.c_grammar.specs.Operators.{comparison_of, Connective, connective_of, connective_level}
use Rattle.c_grammar.specs.Reading.{punct_at, punct_by}
use Rattle.c_grammar.proofs.Readers.{guard_ok, got, pair_is}
use Rattle.std.specs.Prelude.{not, ◌&&◌}
use Rattle.parse_terms.specs.Next.{extends, has_tight, ends_chain_term, ends_chain_term_by, continues, continues_punct, continues_by}
use Rattle.c_grammar.specs.Operators.{binop_of}
use Rattle.parse_preds.specs.Next.{ends, ends_by, ends_atom, ends_atom_by, ends_pred, ends_pred_by, if_some, comparison_at, comparison_by, of_level, connective_at, connective_by}

-- ---- what an operator is

if_some_ok : {X : Type 0} (o : Option X) (line : ℕ) (ts : List Token) (x : X) (line' : ℕ) (after : List Token) → if_some o line ts ≡ Some ((x, line'), after) → (o ≡ Some x) × (line ≡ line') × (ts ≡ after)
if_some_ok None line ts x line' after h = absurd cc
if_some_ok {X} (Some y) line ts x line' after h =
    let a : X × ℕ = (y, line) in
    let b : X × ℕ = (x, line') in
    let same = pair_is a b ts after h in
    (ap (λ (x : X × ℕ). Some x.0) same.0, ap (λ (x : X × ℕ). x.1) same.0, same.1)

comparison_by_is : (line : ℕ) (kind : TokenKind) (ts : List Token) (op : BinOp) (line' : ℕ) (after : List Token) → comparison_by line kind ts ≡ Some ((op, line'), after)
    → (q : Punct) × (kind ≡ k.Punct q) × (line ≡ line') × (ts ≡ after) × (comparison_of q ≡ Some op)
comparison_by_is line (k.Punct q) ts op line' after h =
    let x = if_some_ok (comparison_of q) line ts op line' after h in
    (q, refl, x.1, x.2, x.0)
comparison_by_is line _ ts op line' after h = absurd cc

pub comparison_is : (ts : List Token) (op : BinOp) (line : ℕ) (after : List Token) → comparison_at ts ≡ Some ((op, line), after) → (q : Punct) × (ts ≡ punct q line ∷ after) × (comparison_of q ≡ Some op)
unfolding comparison_at
comparison_is [] op line after h = absurd cc
comparison_is (t ∷ ts) op line after h =
    let x = comparison_by_is t.line t.kind ts op line after h in
    (x.0, ap (λ kind. record { kind = kind; line = t.line } ∷ ts) x.1 ∙ ap (λ line. punct x.0 line ∷ ts) x.2 ∙ ap (λ ts. punct x.0 line ∷ ts) x.3, x.4)

of_level_is : (n : ℕ) (o : Option Connective) (c : Connective) → of_level n o ≡ Some c → (o ≡ Some c) × (connective_level c ≡ n)
of_level_is n None c h = absurd cc
of_level_is n (Some d) c h =
    let x = guard_ok (eqb (connective_level d) n) d c h in
    (ap Some x.1, sym (ap connective_level x.1) ∙ (Decides-eqb (connective_level d) n).0 x.0)

connective_by_is : (n line : ℕ) (kind : TokenKind) (ts : List Token) (c : Connective) (line' : ℕ) (after : List Token) → connective_by n line kind ts ≡ Some ((c, line'), after)
    → (q : Punct) × (kind ≡ k.Punct q) × (line ≡ line') × (ts ≡ after) × (connective_of q ≡ Some c) × (connective_level c ≡ n)
connective_by_is n line (k.Punct q) ts c line' after h =
    let x = if_some_ok (of_level n (connective_of q)) line ts c line' after h in
    let y = of_level_is n (connective_of q) c x.0 in
    (q, refl, x.1, x.2, y.0, y.1)
connective_by_is n line _ ts c line' after h = absurd cc

pub connective_is : (n : ℕ) (ts : List Token) (c : Connective) (line : ℕ) (after : List Token) → connective_at n ts ≡ Some ((c, line), after)
    → (q : Punct) × (ts ≡ punct q line ∷ after) × (connective_of q ≡ Some c) × (connective_level c ≡ n)
unfolding connective_at
connective_is n [] c line after h = absurd cc
connective_is n (t ∷ ts) c line after h =
    let x = connective_by_is n t.line t.kind ts c line after h in
    (x.0, ap (λ kind. record { kind = kind; line = t.line } ∷ ts) x.1 ∙ ap (λ line. punct x.0 line ∷ ts) x.2 ∙ ap (λ ts. punct x.0 line ∷ ts) x.3, x.4, x.5)

-- ---- where nothing goes on

-- a punctuator that may not come next does not
pub stops_before : (test : Punct → Bool) (q : Punct) → test q ≡ false → (ts : List Token) → ends test ts ≡ true → punct_at q ts ≡ None
stops_before test q no' [] h = refl
stops_before test q no' (t ∷ ts) h = by_kind t.kind h
  where
    by_kind : (kind : TokenKind) → ends_by test kind ≡ true → punct_by q t.line kind ts ≡ None
    by_kind (k.Punct found) h =
        elim (sameb punct_type found q) as (λ b. sameb punct_type found q ≡ b → cond b (got t.line ts) None ≡ None) [
          | true ↦ (λ same. let is : found ≡ q = same_true punct_type tt found q same in let no'' : test found ≡ false = ap test is ∙ no' in absurd cc)
          | false ↦ (λ other. refl)
        ]
        refl
    by_kind _ h = refl

pub pred_stops : (q : Punct) → ends_pred_by q ≡ false → (ts : List Token) → ends_pred ts ≡ true → punct_at q ts ≡ None
unfolding ends_pred
pred_stops q no' ts h = stops_before ends_pred_by q no' ts h

pub atom_stops : (q : Punct) → ends_atom_by q ≡ false → (ts : List Token) → ends_atom ts ≡ true → punct_at q ts ≡ None
unfolding ends_atom
atom_stops q no' ts h = stops_before ends_atom_by q no' ts h

no_connective_of : (q : Punct) → ends_pred_by q ≡ true → connective_of q ≡ None
no_connective_of p.And h = absurd cc
no_connective_of p.Xor h = absurd cc
no_connective_of p.Or h = absurd cc
no_connective_of _ h = refl

pub no_connective : (n : ℕ) (ts : List Token) → ends_pred ts ≡ true → connective_at n ts ≡ None
unfolding ends_pred connective_at
no_connective n [] h = refl
no_connective n (t ∷ ts) h = by_kind t.kind h
  where
    by_kind : (kind : TokenKind) → ends_by ends_pred_by kind ≡ true → connective_by n t.line kind ts ≡ None
    by_kind (k.Punct q) h = rw (no_connective_of q h) refl
    by_kind _ h = refl

no_comparison_of : (q : Punct) → ends_atom_by q ≡ true → comparison_of q ≡ None
no_comparison_of p.Less h = absurd cc
no_comparison_of p.AtMost h = absurd cc
no_comparison_of p.Greater h = absurd cc
no_comparison_of p.AtLeast h = absurd cc
no_comparison_of p.Equal h = absurd cc
no_comparison_of p.NotEqual h = absurd cc
no_comparison_of _ h = refl

pub no_comparison : (ts : List Token) → ends_atom ts ≡ true → comparison_at ts ≡ None
unfolding ends_atom comparison_at
no_comparison [] h = refl
no_comparison (t ∷ ts) h = by_kind t.kind h
  where
    by_kind : (kind : TokenKind) → ends_by ends_atom_by kind ≡ true → comparison_by t.line kind ts ≡ None
    by_kind (k.Punct q) h = rw (no_comparison_of q h) refl
    by_kind _ h = refl

-- ---- behind an atom

chain_ends_by : (q : Punct) → ends_atom_by q ≡ true → (not (extends q) && not (has_tight (binop_of q))) ≡ true
chain_ends_by p.Star h = absurd cc
chain_ends_by p.Slash h = absurd cc
chain_ends_by p.Percent h = absurd cc
chain_ends_by p.Plus h = absurd cc
chain_ends_by p.Minus h = absurd cc
chain_ends_by p.Shl h = absurd cc
chain_ends_by p.Shr h = absurd cc
chain_ends_by p.OpenParen h = absurd cc
chain_ends_by p.OpenBracket h = absurd cc
chain_ends_by p.Dot h = absurd cc
chain_ends_by p.Arrow h = absurd cc
chain_ends_by _ h = refl

pub chain_may_end : (ts : List Token) → ends_atom ts ≡ true → ends_chain_term ts ≡ true
unfolding ends_atom ends_chain_term
chain_may_end [] h = refl
chain_may_end (t ∷ ts) h = by_kind t.kind h
  where
    by_kind : (kind : TokenKind) → ends_by ends_atom_by kind ≡ true → ends_chain_term_by kind ≡ true
    by_kind (k.Punct q) h = chain_ends_by q h
    by_kind _ h = refl

not_continued_by : (q : Punct) → ends_atom_by q ≡ true → continues_punct q ≡ false
not_continued_by p.Less h = absurd cc
not_continued_by p.AtMost h = absurd cc
not_continued_by p.Greater h = absurd cc
not_continued_by p.AtLeast h = absurd cc
not_continued_by p.Equal h = absurd cc
not_continued_by p.NotEqual h = absurd cc
not_continued_by p.Star h = absurd cc
not_continued_by p.Slash h = absurd cc
not_continued_by p.Percent h = absurd cc
not_continued_by p.Plus h = absurd cc
not_continued_by p.Minus h = absurd cc
not_continued_by p.Shl h = absurd cc
not_continued_by p.Shr h = absurd cc
not_continued_by p.OpenBracket h = absurd cc
not_continued_by p.Dot h = absurd cc
not_continued_by p.Arrow h = absurd cc
not_continued_by _ h = refl

pub not_continued : (ts : List Token) → ends_atom ts ≡ true → continues ts ≡ false
unfolding ends_atom continues
not_continued [] h = refl
not_continued (t ∷ ts) h = by_kind t.kind h
  where
    by_kind : (kind : TokenKind) → ends_by ends_atom_by kind ≡ true → continues_by kind ≡ false
    by_kind (k.Punct q) h = not_continued_by q h
    by_kind _ h = refl

pred_ends_by : (q : Punct) → ends_pred_by q ≡ true → ends_atom_by q ≡ true
pred_ends_by p.And h = absurd cc
pred_ends_by p.Xor h = absurd cc
pred_ends_by p.Or h = absurd cc
pred_ends_by p.Implies h = absurd cc
pred_ends_by p.Iff h = absurd cc
pred_ends_by p.Question h = absurd cc
pred_ends_by _ h = h

pub atom_may_end : (ts : List Token) → ends_pred ts ≡ true → ends_atom ts ≡ true
unfolding ends_pred ends_atom
atom_may_end [] h = refl
atom_may_end (t ∷ ts) h = by_kind t.kind h
  where
    by_kind : (kind : TokenKind) → ends_by ends_pred_by kind ≡ true → ends_by ends_atom_by kind ≡ true
    by_kind (k.Punct q) h = pred_ends_by q h
    by_kind _ h = refl

-- ---- before an operator

pub connective_ends : (q : Punct) (c : Connective) → connective_of q ≡ Some c → (line : ℕ) (ts : List Token) → ends_atom (punct q line ∷ ts) ≡ true
unfolding ends_atom
connective_ends p.And c h line ts = refl
connective_ends p.Xor c h line ts = refl
connective_ends p.Or c h line ts = refl
connective_ends _ c h line ts = absurd cc

pub connective_takes : (q : Punct) (c : Connective) (n : ℕ) → connective_of q ≡ Some c → connective_level c ≡ n → (line : ℕ) (ts : List Token) → connective_at n (punct q line ∷ ts) ≡ Some ((c, line), ts)
unfolding connective_at
connective_takes q c n h level line ts =
    let same : eqb (connective_level c) n ≡ true = (Decides-eqb (connective_level c) n).1 level in
    rw (h, same) refl

pub connective_skips : (q : Punct) (c : Connective) (m n : ℕ) → connective_of q ≡ Some c → connective_level c ≡ suc m → n ≤ m → (line : ℕ) (ts : List Token) → connective_at n (punct q line ∷ ts) ≡ None
unfolding connective_at
connective_skips q c m n h level le line ts =
    let other : eqb (connective_level c) n ≡ false = grind (arith, nat_tests) in
    rw (h, other) refl

pub comparison_ends : (q : Punct) (op : BinOp) → comparison_of q ≡ Some op → (line : ℕ) (ts : List Token) → ends_chain_term (punct q line ∷ ts) ≡ true
unfolding ends_chain_term
comparison_ends p.Less op h line ts = refl
comparison_ends p.AtMost op h line ts = refl
comparison_ends p.Greater op h line ts = refl
comparison_ends p.AtLeast op h line ts = refl
comparison_ends p.Equal op h line ts = refl
comparison_ends p.NotEqual op h line ts = refl
comparison_ends _ op h line ts = absurd cc

pub comparison_continues : (q : Punct) (op : BinOp) → comparison_of q ≡ Some op → (line : ℕ) (ts : List Token) → continues (punct q line ∷ ts) ≡ true
unfolding continues
comparison_continues p.Less op h line ts = refl
comparison_continues p.AtMost op h line ts = refl
comparison_continues p.Greater op h line ts = refl
comparison_continues p.AtLeast op h line ts = refl
comparison_continues p.Equal op h line ts = refl
comparison_continues p.NotEqual op h line ts = refl
comparison_continues _ op h line ts = absurd cc

pub comparison_takes : (q : Punct) (op : BinOp) → comparison_of q ≡ Some op → (line : ℕ) (ts : List Token) → comparison_at (punct q line ∷ ts) ≡ Some ((op, line), ts)
unfolding comparison_at
comparison_takes q op h line ts = rw h refl
