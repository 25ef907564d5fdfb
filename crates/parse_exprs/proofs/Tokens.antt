-- Operators at the front of a list of tokens: which punctuator was found, and what is found where it comes.
use Rattle.std.proofs.Common.{◌≡◌, ℕ, eqb, Bool, List, [], ◌∷◌, Option, Some, None, refl, sym, ap, ◌∙◌}
use Rattle.std.proofs.lemmas.Bool.Decides.{Decides-eqb}
use Rattle.c_syntax.specs.declared.token.Token.{Token}
use Rattle.c_syntax.specs.declared.token.TokenKind.{TokenKind}
use Rattle.c_syntax.specs.declared.token.TokenKind.TheVariants as k
use Rattle.c_syntax.specs.declared.token.Punct.{Punct}
use Rattle.c_syntax.specs.declared.token.Punct.TheVariants as p
use Rattle.c_syntax.specs.declared.expr.UnOp.{UnOp}
use Rattle.c_syntax.specs.declared.expr.BinOp.{BinOp}
use Rattle.c_grammar.specs.Tokens.{punct, token}
use Rattle.c_grammar.specs.Operators.{unop_of, step_of, binop_of, level, assign_of, field_of}
use Rattle.c_grammar.proofs.Readers.{guard_ok, pair_is}
use Rattle.parse_exprs.specs.declared.operators.Prefix.{Prefix}
use Rattle.parse_exprs.specs.declared.operators.Prefix.TheVariants as before
use Rattle.parse_exprs.specs.declared.operators.Suffix.{Suffix}
use Rattle.parse_exprs.specs.declared.operators.Suffix.TheVariants as behind
use Rattle.parse_exprs.specs.Operators.{found, found_by, found_at, at_level, level_table, before_of, prefix_of, suffix_of, operator, assign_at, prefix_at, suffix_at}

-- ---- what was found

-- the punctuator in front, and what the table says of it
pub record Found {X : Type 0} (table : Punct → Option X) (ts : List Token) (x : X) (line : ℕ) (after : List Token) : Type 0 where
  pub q : Punct
  pub front : ts ≡ punct q line ∷ after
  pub says : table q ≡ Some x

found_some : {X : Type 0} (o : Option X) (line : ℕ) (ts : List Token) (x : X) (line' : ℕ) (after : List Token) → found o line ts ≡ Some ((x, line'), after) → (o ≡ Some x) × (line ≡ line') × (ts ≡ after)
found_some None line ts x line' after h = absurd cc
found_some {X} (Some y) line ts x line' after h =
    let u : X × ℕ = (y, line) in
    let v : X × ℕ = (x, line') in
    let same = pair_is u v ts after h in
    let inner = pair_is y x line line' (ap Some same.0) in
    (ap Some inner.0, inner.1, same.1)

found_by_is : {X : Type 0} (table : Punct → Option X) (line : ℕ) (kind : TokenKind) (ts : List Token) (x : X) (line' : ℕ) (after : List Token) → found_by table line kind ts ≡ Some ((x, line'), after)
    → Found table (token kind line ∷ ts) x line' after
found_by_is table line (k.Punct q) ts x line' after h =
    let f = found_some (table q) line ts x line' after h in
    record { q = q; front = ap (λ line. punct q line ∷ ts) f.1 ∙ ap (λ ts. punct q line' ∷ ts) f.2; says = f.0 }
found_by_is table line _ ts x line' after h = absurd cc

pub found_is : {X : Type 0} (table : Punct → Option X) (ts : List Token) (x : X) (line : ℕ) (after : List Token) → found_at table ts ≡ Some ((x, line), after) → Found table ts x line after
found_is table [] x line after h = absurd cc
found_is table (t ∷ ts) x line after h = found_by_is table t.line t.kind ts x line after h

pub operator_found : (n : ℕ) (ts : List Token) (op : BinOp) (line : ℕ) (after : List Token) → operator n ts ≡ Some ((op, line), after) → Found (level_table n) ts op line after
unfolding operator
operator_found n ts op line after h = found_is (level_table n) ts op line after h

pub assign_found : (ts : List Token) (op : Option BinOp) (line : ℕ) (after : List Token) → assign_at ts ≡ Some ((op, line), after) → Found assign_of ts op line after
unfolding assign_at
assign_found ts op line after h = found_is assign_of ts op line after h

pub prefix_found : (ts : List Token) (how : Prefix) (line : ℕ) (after : List Token) → prefix_at ts ≡ Some ((how, line), after) → Found prefix_of ts how line after
unfolding prefix_at
prefix_found ts how line after h = found_is prefix_of ts how line after h

pub suffix_found : (ts : List Token) (how : Suffix) (line : ℕ) (after : List Token) → suffix_at ts ≡ Some ((how, line), after) → Found suffix_of ts how line after
unfolding suffix_at
suffix_found ts how line after h = found_is suffix_of ts how line after h

-- ---- what the tables say

at_level_is : (n : ℕ) (o : Option BinOp) (op : BinOp) → at_level n o ≡ Some op → (o ≡ Some op) × (level op ≡ n)
at_level_is n None op h = absurd cc
at_level_is n (Some op') op h =
    let x = guard_ok (eqb (level op') n) op' op h in
    (ap Some x.1, ap level (sym x.1) ∙ (Decides-eqb (level op') n).0 x.0)

pub level_is : (n : ℕ) (q : Punct) (op : BinOp) → level_table n q ≡ Some op → (binop_of q ≡ Some op) × (level op ≡ n)
level_is n q op h = at_level_is n (binop_of q) op h

before_operator : (o : Option UnOp) (s : Option Bool) (op : UnOp) → before_of o s ≡ Some (before.Operator op) → o ≡ Some op
before_operator (Some op') s op h = cc
before_operator None (Some up) op h = absurd cc
before_operator None None op h = absurd cc

pub prefix_operator : (q : Punct) (op : UnOp) → prefix_of q ≡ Some (before.Operator op) → unop_of q ≡ Some op
prefix_operator q op h = before_operator (unop_of q) (step_of q) op h

before_step : (o : Option UnOp) (s : Option Bool) (up : Bool) → before_of o s ≡ Some (before.Step up) → s ≡ Some up
before_step (Some op') s up h = absurd cc
before_step None (Some up') up h = cc
before_step None None up h = absurd cc

pub prefix_step : (q : Punct) (up : Bool) → prefix_of q ≡ Some (before.Step up) → step_of q ≡ Some up
prefix_step q up h = before_step (unop_of q) (step_of q) up h

pub suffix_index : (q : Punct) → suffix_of q ≡ Some behind.Index → q ≡ p.OpenBracket
suffix_index p.OpenBracket h = refl
suffix_index p.Dot h = absurd cc
suffix_index p.Arrow h = absurd cc
suffix_index p.Increment h = absurd cc
suffix_index p.Decrement h = absurd cc
suffix_index _ h = absurd cc

pub suffix_field : (q : Punct) (arrow : Bool) → suffix_of q ≡ Some (behind.Field arrow) → field_of q ≡ Some arrow
suffix_field p.OpenBracket arrow h = absurd cc
suffix_field p.Dot arrow h = cc
suffix_field p.Arrow arrow h = cc
suffix_field p.Increment arrow h = absurd cc
suffix_field p.Decrement arrow h = absurd cc
suffix_field _ arrow h = absurd cc

pub suffix_step : (q : Punct) (up : Bool) → suffix_of q ≡ Some (behind.Step up) → step_of q ≡ Some up
suffix_step p.OpenBracket up h = absurd cc
suffix_step p.Dot up h = absurd cc
suffix_step p.Arrow up h = absurd cc
suffix_step p.Increment up h = cc
suffix_step p.Decrement up h = cc
suffix_step _ up h = absurd cc
