-- Arguments and primary expressions that are read are spelled.
use Rattle.std.proofs.Common.{◌≡◌, ℕ, zero, suc, Bool, true, false, cond, List, [], ◌∷◌, ◌++◌, length, Option, Some, None, refl, sym, ap, ◌∙◌, subst, append_assoc}
use Rattle.c_syntax.specs.declared.token.Token.{Token}
use Rattle.c_syntax.specs.declared.token.TokenKind.{TokenKind}
use Rattle.c_syntax.specs.declared.token.TokenKind.TheVariants as k
use Rattle.c_syntax.specs.declared.token.Punct.{Punct}
use Rattle.c_syntax.specs.declared.token.Punct.TheVariants as p
use Rattle.c_syntax.specs.declared.token.Word.TheVariants as w
use Rattle.c_syntax.specs.Expr as e
use Rattle.c_grammar.specs.Tokens.{Names, is_type, token, punct, name, number, char}
use Rattle.c_grammar.specs.Types.{SpellsTypeName}
use Rattle.c_grammar.specs.Exprs as g
use Rattle.c_grammar.specs.Exprs.{SpellsPrimary, SpellsArgs, SpellsSomeArgs, SpellsUnary, SpellsCond, SpellsExpr}
use Rattle.c_grammar.specs.Reading.{Reader, ◌>>=◌, punct_at}
use Rattle.c_grammar.proofs.Readers.{bind_ok, got, pair_is, Took, Sound}
use Rattle.c_grammar.proofs.SingleTokens.{punct_is}
use Rattle.parse_exprs.specs.declared.operators.Prefix.TheVariants as before
use Rattle.parse_exprs.specs.declared.operators.Suffix.TheVariants as behind
use Rattle.parse_exprs.specs.Read.{Inside, enclosed, arg, arg_end, args_then, some_args, args_or_close, args_over, named, named_by, primary, primary_by, suffix}

pub took_same : {X : Type 0} (S : List Token → X → Type 0) (ts : List Token) (a b : X) (after rest : List Token) → got a after ≡ got b rest → Took S ts a after → Took S ts b rest
took_same S ts a b after rest h took =
    let same = pair_is a b after rest h in
    (took.0, took.1 ∙ ap (λ l. took.0 ++ l) same.1, subst (S took.0) same.0 took.2)

-- ---- what stands inside

-- where it reads, one more form may be open, and the tokens are spelled with the rest of it
abbrev Within : {X : Type 0} → (S : ℕ → List Token → X → Type 0) → (room : ℕ) → Reader X → Type 0
Within {X} S room read = (ts : List Token) (a : X) (rest : List Token) → read ts ≡ Some (a, rest) → (less : ℕ) × (room ≡ suc less) × Took (S less) ts a rest

-- these tokens, and the punctuator that closes them
pub record Closed {X : Type 0} (S : List Token → X → Type 0) (close : Punct) (xs : List Token) (a : X) : Type 0 where
  pub line : ℕ
  pub inside : List Token
  pub spelled : S inside a
  pub all : xs ≡ inside ++ punct close line ∷ []

took_closed : {X : Type 0} (S : List Token → X → Type 0) (close : Punct) (ts : List Token) (a : X) (line : ℕ) (after rest : List Token) → Took S ts a after → after ≡ punct close line ∷ rest → Took (Closed S close) ts a rest
took_closed S close ts a line after rest took same = (
  took.0 ++ punct close line ∷ [],
  took.1 ∙ ap (λ l. took.0 ++ l) same ∙ sym (append_assoc took.0 (punct close line ∷ []) rest),
  record { line = line; inside = took.0; spelled = took.2; all = refl },
)

abbrev ArgsOf : Names → ℕ → List Token → List e.Expr → Type 0
ArgsOf types room xs es = SpellsArgs types room xs (e.exprs_of es)

abbrev SomeArgsOf : Names → ℕ → List Token → List e.Expr → Type 0
SomeArgsOf types room xs es = SpellsSomeArgs types room xs (e.exprs_of es)

pub record InsideSound (types : Names) (room : ℕ) (within : Inside) : Type 0 where
  pub unary : Within (SpellsUnary types) room within.unary
  pub cond : Within (SpellsCond types) room within.cond
  pub expr : Within (SpellsExpr types) room within.expr
  pub args : Within (λ less. Closed (ArgsOf types less) p.CloseParen) room within.args
  pub type_name : Within (λ less. SpellsTypeName types) room within.type_name

pub enclosed_sound : (types : Names) (room : ℕ) (close : Punct) (within : Inside) → InsideSound types room within → Within (λ less. Closed (SpellsExpr types less) close) room (enclosed close within)
unfolding enclosed
enclosed_sound types room close within sound ts a rest h =
    let x = bind_ok (within.expr ts) (λ a. punct_at close a.1 >>= λ c. Some (a.0, c.1)) (a, rest) h in
    let y = bind_ok (punct_at close x.0.1) (λ c. Some (x.0.0, c.1)) (a, rest) x.2 in
    let took = sound.expr ts x.0.0 x.0.1 x.1 in
    let found = took_closed (SpellsExpr types took.0) close ts x.0.0 y.0.0 x.0.1 y.0.1 took.2 (punct_is close x.0.1 y.0.0 y.0.1 y.1) in
    (took.0, took.1, took_same (Closed (SpellsExpr types took.0) close) ts x.0.0 a y.0.1 rest y.2 found)

-- ---- arguments

abbrev mark_of : Bool → Punct
mark_of true = p.Comma
mark_of false = p.CloseParen

pub record ArgRead (types : Names) (room : ℕ) (ts : List Token) (a : e.Expr) (another : Bool) (rest : List Token) : Type 0 where
  pub front : List Token
  pub line : ℕ
  pub spelled : SpellsExpr types room front a
  pub all : ts ≡ front ++ punct (mark_of another) line ∷ rest

abbrev arg_got : e.Expr → Bool → List Token → Option ((e.Expr × Bool) × List Token)
arg_got a another ts = Some ((a, another), ts)

arg_parts : (a a' : e.Expr) (b b' : Bool) (ts ts' : List Token) → arg_got a b ts ≡ arg_got a' b' ts' → (a ≡ a') × (b ≡ b') × (ts ≡ ts')
arg_parts a a' b b' ts ts' h =
    let u : e.Expr × Bool = (a, b) in
    let v : e.Expr × Bool = (a', b') in
    let same = pair_is u v ts ts' h in
    let inner = pair_is a a' b b' (ap Some same.0) in
    (inner.0, inner.1, same.1)

arg_read : (types : Names) (room : ℕ) (ts : List Token) (a a' : e.Expr) (b b' : Bool) (line : ℕ) (after rest rest' : List Token) → Took (SpellsExpr types room) ts a after → after ≡ punct (mark_of b) line ∷ rest
    → arg_got a b rest ≡ arg_got a' b' rest' → ArgRead types room ts a' b' rest'
arg_read types room ts a a' b b' line after rest rest' took front h =
    let same = arg_parts a a' b b' rest rest' h in
    record {
      front = took.0;
      line = line;
      spelled = subst (SpellsExpr types room took.0) same.0 took.2;
      all = took.1 ∙ ap (λ l. took.0 ++ l) (front ∙ ap (λ b. punct (mark_of b) line ∷ rest) same.1 ∙ ap (λ l. punct (mark_of b') line ∷ l) same.2);
    }

arg_sound : (types : Names) (room : ℕ) (read : Reader e.Expr) → Sound (SpellsExpr types room) read → (ts : List Token) (a : e.Expr) (another : Bool) (rest : List Token) → arg read ts ≡ Some ((a, another), rest)
    → ArgRead types room ts a another rest
unfolding arg
arg_sound types room read sound ts a another rest h =
    let x = bind_ok (read ts) (λ a. arg_end a.0 (punct_at p.Comma a.1) (punct_at p.CloseParen a.1)) ((a, another), rest) h in
    let took = sound ts x.0.0 x.0.1 x.1 in
    elim (punct_at p.Comma x.0.1) as (λ o. punct_at p.Comma x.0.1 ≡ o → arg_end x.0.0 o (punct_at p.CloseParen x.0.1) ≡ Some ((a, another), rest) → ArgRead types room ts a another rest) [
      | Some c ↦ (λ some h. arg_read types room ts x.0.0 a true another c.0 x.0.1 c.1 rest took (punct_is p.Comma x.0.1 c.0 c.1 some) h)
      | None ↦ (λ none h.
          let y = bind_ok (punct_at p.CloseParen x.0.1) (λ c. Some ((x.0.0, false), c.1)) ((a, another), rest) h in
          arg_read types room ts x.0.0 a false another y.0.0 x.0.1 y.0.1 rest took (punct_is p.CloseParen x.0.1 y.0.0 y.0.1 y.1) y.2)
    ]
    refl x.2

args_then_sound : (types : Names) (room : ℕ) (go : Reader (List e.Expr)) → Sound (Closed (SomeArgsOf types room) p.CloseParen) go
    → (ts : List Token) (a : e.Expr) (another : Bool) (after : List Token) → ArgRead types room ts a another after
    → (es : List e.Expr) (rest : List Token) → args_then another a after go ≡ Some (es, rest) → Took (Closed (SomeArgsOf types room) p.CloseParen) ts es rest
args_then_sound types room go sound ts a true after x es rest h =
    let y = bind_ok (go after) (λ es. Some (a ∷ es.0, es.1)) (es, rest) h in
    let more = sound after y.0.0 y.0.1 y.1 in
    let comma = punct p.Comma x.line in
    took_same (Closed (SomeArgsOf types room) p.CloseParen) ts (a ∷ y.0.0) es y.0.1 rest y.2 (
      x.front ++ comma ∷ more.0,
      x.all ∙ ap (λ l. x.front ++ comma ∷ l) more.1 ∙ sym (append_assoc x.front (comma ∷ more.0) y.0.1),
      record {
        line = more.2.line;
        inside = x.front ++ comma ∷ more.2.inside;
        spelled = g.more_args x.line x.spelled more.2.spelled refl;
        all = ap (λ l. x.front ++ comma ∷ l) more.2.all ∙ sym (append_assoc x.front (comma ∷ more.2.inside) (punct p.CloseParen more.2.line ∷ []));
      },
    )
args_then_sound types room go sound ts a false after x es rest h =
    took_same (Closed (SomeArgsOf types room) p.CloseParen) ts (a ∷ []) es after rest h (
      x.front ++ punct p.CloseParen x.line ∷ [],
      x.all ∙ sym (append_assoc x.front (punct p.CloseParen x.line ∷ []) after),
      record { line = x.line; inside = x.front; spelled = g.one_arg x.spelled; all = refl },
    )

some_args_sound : (types : Names) (room : ℕ) (read : Reader e.Expr) → Sound (SpellsExpr types room) read → (turns : ℕ) → Sound (Closed (SomeArgsOf types room) p.CloseParen) (some_args read turns)
unfolding some_args
some_args_sound types room read sound zero ts es rest h = absurd cc
some_args_sound types room read sound (suc turns) ts es rest h =
    let x = bind_ok (arg read ts) (λ a. args_then a.0.1 a.0.0 a.1 (some_args read turns)) (es, rest) h in
    args_then_sound types room (some_args read turns) (some_args_sound types room read sound turns) ts x.0.0.0 x.0.0.1 x.0.1
    (arg_sound types room read sound ts x.0.0.0 x.0.0.1 x.0.1 x.1) es rest x.2

pub args_sound : (types : Names) (room : ℕ) (read : Reader e.Expr) → Sound (SpellsExpr types room) read → Sound (Closed (ArgsOf types room) p.CloseParen) (args_over read)
unfolding args_over
args_sound types room read sound ts es rest h =
    elim (punct_at p.CloseParen ts) as (λ o. punct_at p.CloseParen ts ≡ o → args_or_close read o ts ≡ Some (es, rest) → Took (Closed (ArgsOf types room) p.CloseParen) ts es rest) [
      | Some c ↦ (λ some h. took_same (Closed (ArgsOf types room) p.CloseParen) ts [] es c.1 rest h
          (punct p.CloseParen c.0 ∷ [], punct_is p.CloseParen ts c.0 c.1 some, record { line = c.0; inside = []; spelled = g.no_args; all = refl }))
      | None ↦ (λ none h.
          let took = some_args_sound types room read sound (length ts) ts es rest h in
          (took.0, took.1, record { line = took.2.line; inside = took.2.inside; spelled = g.args took.2.spelled; all = took.2.all }))
    ]
    refl h

-- ---- primary expressions

parens_sound : (types : Names) (room : ℕ) (within : Inside) → InsideSound types room within → (line : ℕ) (ts : List Token) (a : e.Expr) (rest : List Token) → enclosed p.CloseParen within ts ≡ Some (a, rest)
    → Took (SpellsPrimary types room) (punct p.OpenParen line ∷ ts) a rest
parens_sound types room within sound line ts a rest h =
    let x = enclosed_sound types room p.CloseParen within sound ts a rest h in
    let inner = x.2.2 in
    let tok = punct p.OpenParen line in (
      tok ∷ x.2.0,
      ap (λ l. tok ∷ l) x.2.1,
      subst (λ room. SpellsPrimary types room (tok ∷ x.2.0) a) (sym x.1) (g.parens line inner.line inner.spelled (ap (λ l. tok ∷ l) inner.all)),
    )

named_by_sound : (types : Names) (room : ℕ) (within : Inside) → InsideSound types room within → (line : ℕ) (x : List ℕ) → is_type types x ≡ false → (ts : List Token) (o : Option (ℕ × List Token)) → punct_at p.OpenParen ts ≡ o
    → (a : e.Expr) (rest : List Token) → named_by within x line o ts ≡ Some (a, rest) → Took (SpellsPrimary types room) (name x line ∷ ts) a rest
named_by_sound types room within sound line x new ts None is a rest h =
    took_same (SpellsPrimary types room) (name x line ∷ ts) (e.name line x) a ts rest h (name x line ∷ [], refl, g.variable new)
named_by_sound types room within sound line x new ts (Some o) is a rest h =
    let y = bind_ok (within.args o.1) (λ es. Some (e.call line x (e.exprs_of es.0), es.1)) (a, rest) h in
    let took = sound.args o.1 y.0.0 y.0.1 y.1 in
    let inner = took.2.2 in
    let tok = punct p.OpenParen o.0 in
    let all = name x line ∷ tok ∷ took.2.0 in
    took_same (SpellsPrimary types room) (name x line ∷ ts) (e.call line x (e.exprs_of y.0.0)) a y.0.1 rest y.2 (
      all,
      ap (λ l. name x line ∷ l) (punct_is p.OpenParen ts o.0 o.1 is ∙ ap (λ l. tok ∷ l) took.2.1),
      subst (λ room. SpellsPrimary types room all (e.call line x (e.exprs_of y.0.0))) (sym took.1) (g.call o.0 inner.line new inner.spelled (ap (λ l. name x line ∷ tok ∷ l) inner.all)),
    )

named_sound : (types : Names) (room : ℕ) (within : Inside) → InsideSound types room within → (line : ℕ) (x : List ℕ) (ts : List Token) (a : e.Expr) (rest : List Token) → named types within x line ts ≡ Some (a, rest)
    → Took (SpellsPrimary types room) (name x line ∷ ts) a rest
unfolding named
named_sound types room within sound line x ts a rest h =
    elim (is_type types x) as (λ b. is_type types x ≡ b → cond b None (named_by within x line (punct_at p.OpenParen ts) ts) ≡ Some (a, rest) → Took (SpellsPrimary types room) (name x line ∷ ts) a rest) [
      | true ↦ (λ is h. absurd cc)
      | false ↦ (λ new h. named_by_sound types room within sound line x new ts (punct_at p.OpenParen ts) refl a rest h)
    ]
    refl h

primary_by_sound : (types : Names) (room : ℕ) (within : Inside) → InsideSound types room within → (line : ℕ) (kind : TokenKind) (ts : List Token) (a : e.Expr) (rest : List Token) → primary_by types within line kind ts ≡ Some (a, rest)
    → Took (SpellsPrimary types room) (token kind line ∷ ts) a rest
primary_by_sound types room within sound line (k.Number value base suffix) ts a rest h =
    let tok = number value base suffix line in
    took_same (SpellsPrimary types room) (tok ∷ ts) (e.number line tok) a ts rest h (tok ∷ [], refl, g.constant)
primary_by_sound types room within sound line (k.Char value) ts a rest h =
    took_same (SpellsPrimary types room) (char value line ∷ ts) (e.char line value) a ts rest h (char value line ∷ [], refl, g.character)
primary_by_sound types room within sound line (k.Name x) ts a rest h = named_sound types room within sound line x ts a rest h
primary_by_sound types room within sound line (k.Punct p.OpenParen) ts a rest h = parens_sound types room within sound line ts a rest h
primary_by_sound types room within sound line (k.Punct _) ts a rest h = absurd cc
primary_by_sound types room within sound line _ ts a rest h = absurd cc

pub primary_sound : (types : Names) (room : ℕ) (within : Inside) → InsideSound types room within → Sound (SpellsPrimary types room) (primary types within)
unfolding primary
primary_sound types room within sound [] a rest h = absurd cc
primary_sound types room within sound (t ∷ ts) a rest h = primary_by_sound types room within sound t.line t.kind ts a rest h
