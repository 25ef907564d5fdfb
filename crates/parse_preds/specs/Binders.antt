-- Readers of the types and the names that annotations declare (ACSL 2.2, 2.6.1), as functions on token lists.
use Rattle.std.specs.Prelude.{ℕ, zero, suc, Bool, true, false, List, [], ◌∷◌, length, codes, Option, Some, None, if◌then◌else◌}
use Rattle.c_syntax.specs.declared.token.Token.{Token}
use Rattle.c_syntax.specs.declared.token.TokenKind.{TokenKind}
use Rattle.c_syntax.specs.declared.token.TokenKind.TheVariants as k
use Rattle.c_syntax.specs.declared.token.Punct.TheVariants as p
use Rattle.c_syntax.specs.Expr as e
use Rattle.c_grammar.specs.Tokens.{Names}
use Rattle.c_grammar.specs.Preds.{without_integer}
use Rattle.c_grammar.specs.Reading.{Reader, ◌>>=◌, punct_at, keyword_at, new_name_at}
use Rattle.c_grammar.specs.Declarators.{declared}
use Rattle.c_grammar.specs.ListReaders.{with_items}
use Rattle.parse_types.specs.Read.{starts_type, type_name_at}

abbrev pub logic_type_by : Names → Option (ℕ × List Token) → Reader e.CType
logic_type_by types (Some x) ts = Some (e.integer, x.1)
logic_type_by types None ts = type_name_at (without_integer types) ts

-- "integer" | type {"*"}
unfoldable pub logic_type_at : Names → Reader e.CType
logic_type_at types ts = logic_type_by types (keyword_at (codes "integer") ts) ts

-- a name of this type
unfoldable pub declared_at : Names → e.CType → Reader e.VarDecl
declared_at types type ts = new_name_at types ts >>= λ x. Some (declared x.0.0 type x.0.1, x.1)

-- ltype NAME
unfoldable pub typed_at : Names → Reader e.VarDecl
typed_at types ts = logic_type_at types ts >>= λ t. declared_at types t.0 t.1

abbrev pub is_name_by : TokenKind → Bool
is_name_by (k.Name x) = true
is_name_by _ = false

abbrev pub name_comes : List Token → Bool
name_comes [] = false
name_comes (t ∷ ts) = is_name_by t.kind

abbrev pub type_comes_by : Names → Option (ℕ × List Token) → List Token → Bool
type_comes_by types (Some x) ts = name_comes x.1
type_comes_by types None ts = starts_type types ts

-- Whether a type comes next, where a name may come in its place. `integer` is the type where a name comes behind it.
unfoldable pub type_comes : Names → List Token → Bool
type_comes types ts = type_comes_by types (keyword_at (codes "integer") ts) ts

-- [ltype] NAME, by default of this type
unfoldable pub binder_at : Names → e.CType → Reader e.VarDecl
binder_at types type ts = if type_comes types ts then typed_at types ts else declared_at types type ts

abbrev pub comma_binders : Names → Option (ℕ × List Token) → e.CType → List Token → (e.CType → Reader (List e.VarDecl)) → Option (List e.VarDecl × List Token)
comma_binders types None type ts go = Some ([], ts)
comma_binders types (Some c) type ts go = binder_at types type c.1 >>= λ x. with_items (x.0 ∷ []) (go x.0.ty x.1)

-- {"," [ltype] NAME}, at most so many; a binder without a type has that of the one before it
unfoldable pub more_binders : Names → (turns : ℕ) → e.CType → Reader (List e.VarDecl)
more_binders types zero type ts = Some ([], ts)
more_binders types (suc turns) type ts = comma_binders types (punct_at p.Comma ts) type ts (more_binders types turns)

-- the binders from the first one on
abbrev pub binders_from : Names → e.VarDecl → Reader (List e.VarDecl)
binders_from types x ts = with_items (x ∷ []) (more_binders types (length ts) x.ty ts)

-- ltype NAME {"," [ltype] NAME}
unfoldable pub binders_at : Names → Reader (List e.VarDecl)
binders_at types ts = typed_at types ts >>= λ x. binders_from types x.0 x.1
