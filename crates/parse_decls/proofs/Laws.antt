-- The readers of declarations read exactly what is spelled. The crates above cite these laws.
use Rattle.std.proofs.Common.{◌≡◌, ℕ, Bool, true, false, not, List, [], ◌∷◌, ◌++◌, Some, None, refl, ap, ◌∙◌}
use Rattle.c_syntax.specs.declared.token.Token.{Token}
use Rattle.c_syntax.specs.declared.token.TokenKind.{TokenKind}
use Rattle.c_syntax.specs.declared.token.TokenKind.TheVariants as k
use Rattle.c_syntax.specs.declared.token.Punct.TheVariants as p
use Rattle.c_syntax.specs.Expr as e
use Rattle.c_grammar.specs.Tokens.{Names, punct}
use Rattle.c_grammar.specs.Lists.{Separated}
use Rattle.c_grammar.specs.Exprs.{SpellsCond, SpellsExpr}
use Rattle.c_grammar.specs.Declarators.{SpellsDeclarator, SpellsInitialised, SpellsVariables}
use Rattle.c_grammar.specs.Decls.{SpellsParams, SpellsFields, SpellsEnumerators, SpellsLinkage}
use Rattle.c_grammar.specs.Reading.{punct_at, punct_by}
use Rattle.c_grammar.proofs.Readers.{Sound}
use Rattle.parse_types.specs.Read.{starts_type}
use Rattle.parse_exprs.specs.Read.{cond_at, expr_at, ends_expr, starts_expr, starts_by}
use Rattle.parse_exprs.specs.Read.{ends_by as expr_ends_by}
use Rattle.parse_exprs.proofs.Laws as exprs
use Rattle.parse_decls.specs.Read.{declarator_at, variables_after, variables_at, params_at, fields_at, enumerators_at, linkage_at, at_close, at_brace}
use Rattle.parse_decls.specs.Spelled.{SpellsEnded}
use Rattle.parse_decls.proofs.Parts.{Parts, ends_by, ends_value}
use Rattle.parse_decls.proofs.Sound as sound
use Rattle.parse_decls.proofs.Complete as complete
use Rattle.parse_decls.proofs.SoundMembers as sound_members
use Rattle.parse_decls.proofs.CompleteMembers as complete_members

-- ---- the readers of expressions
value_ends_by : (kind : TokenKind) → ends_by kind ≡ true → expr_ends_by kind ≡ true
value_ends_by (k.Punct p.CloseBracket) h = refl
value_ends_by (k.Punct p.Comma) h = refl
value_ends_by (k.Punct p.Semicolon) h = refl
value_ends_by (k.Punct p.CloseBrace) h = refl
value_ends_by (k.Punct _) h = absurd cc
value_ends_by _ h = absurd cc

value_ends : (ts : List Token) → ends_value ts ≡ true → ends_expr ts ≡ true
value_ends [] h = refl
value_ends (t ∷ ts) h = value_ends_by t.kind h

start_no_bracket : (types : Names) (kind : TokenKind) (line : ℕ) (ts : List Token) → starts_by types kind ≡ true → punct_by p.CloseBracket line kind ts ≡ None
start_no_bracket types (k.Punct p.CloseBracket) line ts h = absurd cc
start_no_bracket types (k.Punct _) line ts h = refl
start_no_bracket types _ line ts h = refl

-- what begins like an expression closes no bracket
starts_no_bracket : (types : Names) (ts : List Token) → starts_expr types ts ≡ true → punct_at p.CloseBracket ts ≡ None
starts_no_bracket types [] h = refl
starts_no_bracket types (t ∷ ts) h = start_no_bracket types t.kind t.line ts h

parts : (types : Names) → Parts types (cond_at types) (expr_at types)
parts types = record {
  cond_sound = exprs.cond_sound types;
  cond_complete = λ room xs a s rest ends. exprs.cond_complete types room xs a s rest (value_ends rest ends);
  cond_opens = λ room xs a s rest. starts_no_bracket types (xs ++ rest) (exprs.cond_starts types room xs a s rest);
  expr_sound = exprs.expr_sound types;
  expr_complete = λ room xs a s rest ends. exprs.expr_complete types room xs a s rest (value_ends rest ends);
}

-- ---- declarators and variables

pub declarator_sound : (types : Names) (room : ℕ) (base : e.CType) → Sound (SpellsDeclarator types room base) (declarator_at types room base)
unfolding declarator_at
declarator_sound types room base = sound.declarator_sound types (cond_at types) (parts types).cond_sound room base

pub declarator_complete : (types : Names) (room : ℕ) (base : e.CType) (xs : List Token) (v : e.VarDecl) → SpellsDeclarator types room base xs v
    → (rest : List Token) → punct_at p.OpenBracket rest ≡ None → declarator_at types room base (xs ++ rest) ≡ Some (v, rest)
unfolding declarator_at
declarator_complete types room base = complete.declarator_complete types (cond_at types) (parts types).cond_complete room base

pub variables_after_sound : (types : Names) (room : ℕ) (base : e.CType) → Sound (SpellsEnded (Separated (SpellsInitialised types room base))) (variables_after types room base)
unfolding variables_after
variables_after_sound types room base = sound.variables_after_sound types (cond_at types) (expr_at types) (parts types) room base

pub variables_after_complete : (types : Names) (room : ℕ) (base : e.CType) (xs : List Token) (vs : List e.VarDecl) → SpellsEnded (Separated (SpellsInitialised types room base)) xs vs
    → (rest : List Token) → variables_after types room base (xs ++ rest) ≡ Some (vs, rest)
unfolding variables_after
variables_after_complete types room base xs vs s rest =
    ap (λ xs. variables_after types room base (xs ++ rest)) s.2 ∙ complete.variables_after_complete types (cond_at types) (expr_at types) (parts types) room base s.0 vs s.3 s.1 rest

pub variables_sound : (types : Names) (room : ℕ) → Sound (SpellsVariables types room) (variables_at types room)
unfolding variables_at
variables_sound types room = sound.variables_sound types (cond_at types) (expr_at types) (parts types) room

pub variables_complete : (types : Names) (room : ℕ) (xs : List Token) (vs : List e.VarDecl) → SpellsVariables types room xs vs → (rest : List Token) → variables_at types room (xs ++ rest) ≡ Some (vs, rest)
unfolding variables_at
variables_complete types room = complete.variables_complete types (cond_at types) (expr_at types) (parts types) room

pub variables_start : (types : Names) (room : ℕ) (xs : List Token) (vs : List e.VarDecl) → SpellsVariables types room xs vs → (rest : List Token) → starts_type types (xs ++ rest) ≡ true
variables_start = complete.variables_start

-- ---- parameters, fields and enumerators

pub params_sound : (types : Names) (room : ℕ) → Sound (SpellsParams types room) (params_at types room)
unfolding params_at
params_sound types room = sound_members.params_sound types (cond_at types) (parts types).cond_sound room

pub params_complete : (types : Names) (room : ℕ) (xs : List Token) (vs : List (e.VarDecl × ℕ)) → SpellsParams types room xs vs → (rest : List Token) → at_close rest ≡ true → params_at types room (xs ++ rest) ≡ Some (vs, rest)
unfolding params_at
params_complete types room = complete_members.params_complete types (cond_at types) (parts types).cond_complete (parts types).cond_opens room

pub fields_sound : (types : Names) (room : ℕ) → Sound (SpellsFields types room) (fields_at types room)
unfolding fields_at
fields_sound types room = sound_members.fields_sound types (cond_at types) (parts types).cond_sound room

pub fields_complete : (types : Names) (room : ℕ) (xs : List Token) (vs : List e.VarDecl) → SpellsFields types room xs vs → (rest : List Token) → at_brace rest ≡ true → fields_at types room (xs ++ rest) ≡ Some (vs, rest)
unfolding fields_at
fields_complete types room = complete_members.fields_complete types (cond_at types) (parts types).cond_complete room

pub enumerators_sound : (types : Names) (room : ℕ) → Sound (SpellsEnumerators types room) (enumerators_at types room)
unfolding enumerators_at
enumerators_sound types room = sound_members.enumerators_sound types (cond_at types) (parts types).cond_sound room

pub enumerators_complete : (types : Names) (room : ℕ) (xs : List Token) (vs : List e.VarDecl) → SpellsEnumerators types room xs vs → (rest : List Token) → enumerators_at types room (xs ++ rest) ≡ Some (vs, rest)
unfolding enumerators_at
enumerators_complete types room = complete_members.enumerators_complete types (cond_at types) (parts types).cond_complete room

-- a closing parenthesis, and a closing brace
pub close_is_next : (line : ℕ) (ts : List Token) → at_close (punct p.CloseParen line ∷ ts) ≡ true
unfolding at_close
close_is_next line ts = refl

pub brace_is_next : (line : ℕ) (ts : List Token) → at_brace (punct p.CloseBrace line ∷ ts) ≡ true
unfolding at_brace
brace_is_next line ts = refl

-- ---- linkage

pub linkage_sound : (ts : List Token) → (xs : List Token) × (ts ≡ xs ++ linkage_at ts) × SpellsLinkage xs
linkage_sound = sound_members.linkage_sound

pub linkage_complete : (types : Names) (xs : List Token) → SpellsLinkage xs → (rest : List Token) → starts_type types rest ≡ true → linkage_at (xs ++ rest) ≡ rest
linkage_complete = complete_members.linkage_complete
