-- Readers of declarators and declarations (C11 6.7), as functions on token lists.
use Rattle.std.specs.Prelude.{ℕ, zero, suc, ◌-◌, ◌==◌, Bool, true, false, List, [], ◌∷◌, ◌++◌, length, Option, Some, None, if◌then◌else◌}
use Rattle.wp_base.specs.declared.kinds.Kind.TheVariants as kind
use Rattle.c_syntax.specs.declared.token.Token.{Token}
use Rattle.c_syntax.specs.declared.token.TokenKind.{TokenKind}
use Rattle.c_syntax.specs.declared.token.TokenKind.TheVariants as k
use Rattle.c_syntax.specs.declared.token.Word.TheVariants as w
use Rattle.c_syntax.specs.declared.token.Punct.TheVariants as p
use Rattle.c_syntax.specs.Expr as e
use Rattle.c_grammar.specs.Tokens.{Names, first_line}
use Rattle.c_grammar.specs.Declarators.{declared, with_init}
use Rattle.c_grammar.specs.Reading.{Reader, ◌>>=◌, punct_at, word_at, name_at, new_name_at}
use Rattle.c_grammar.specs.ListReaders.{separated_at}
use Rattle.parse_types.specs.Read.{type_at, stars_at}
use Rattle.parse_exprs.specs.Read.{cond_at, expr_at}

-- ---- declarators (C11 6.7.6), over readers of conditionals and expressions

-- what stands behind an opening bracket, up to the one that closes it
unfoldable pub length_of : (cond : ℕ → Reader e.Expr) → (room : ℕ) → Reader e.Expr
length_of cond room ts = if room == 0 then None else (cond (room - 1) ts >>= λ n. punct_at p.CloseBracket n.1 >>= λ c. Some (n.0, c.1))

-- a variable, with a length behind a bracket
abbrev pub sized : Reader e.Expr → List ℕ × ℕ → e.CType → Option (ℕ × List Token) → List Token → Option (e.VarDecl × List Token)
sized length x t None ts = Some (declared x.0 t x.1, ts)
sized length x t (Some b) ts = length b.1 >>= λ n. Some (declared x.0 (e.array t n.0) x.1, n.1)

-- {"*" ["const"]} NAME ["[" conditional "]"]
unfoldable pub declarator_of : Names → (cond : ℕ → Reader e.Expr) → (room : ℕ) → e.CType → Reader e.VarDecl
declarator_of types cond room base ts =
    stars_at true base ts >>= λ t. new_name_at types t.1 >>= λ x. sized (length_of cond room) x.0 t.0 (punct_at p.OpenBracket x.1) x.1

abbrev pub initial : Reader e.Expr → e.VarDecl → Option (ℕ × List Token) → List Token → Option (e.VarDecl × List Token)
initial value v None ts = Some (v, ts)
initial value v (Some a) ts = value a.1 >>= λ a. Some (with_init v a.0, a.1)

-- declarator ["=" expr]
unfoldable pub initialised_of : Names → (cond expr : ℕ → Reader e.Expr) → (room : ℕ) → e.CType → Reader e.VarDecl
initialised_of types cond expr room base ts = declarator_of types cond room base ts >>= λ v. initial (expr room) v.0 (punct_at p.Assign v.1) v.1

-- items between commas, and a semicolon
abbrev pub ended : {X : Type 0} → Reader (List X) → Reader (List X)
ended items ts = items ts >>= λ xs. punct_at p.Semicolon xs.1 >>= λ s. Some (xs.0, s.1)

unfoldable pub variables_after_of : Names → (cond expr : ℕ → Reader e.Expr) → (room : ℕ) → e.CType → Reader (List e.VarDecl)
variables_after_of types cond expr room base ts = ended (separated_at (initialised_of types cond expr room base)) ts

-- type initialised {"," initialised} ";"
unfoldable pub variables_of : Names → (cond expr : ℕ → Reader e.Expr) → (room : ℕ) → Reader (List e.VarDecl)
variables_of types cond expr room ts = type_at types ts >>= λ t. variables_after_of types cond expr room t.0 t.1

-- ---- parameters (C11 6.7.6.3)

-- behind an opening bracket: nothing, for a pointer, or a length
abbrev pub unsized : Reader e.Expr → List ℕ × ℕ → e.CType → Option (ℕ × List Token) → List Token → Option (e.VarDecl × List Token)
unsized length x t (Some c) ts = Some (declared x.0 (e.pointer t) x.1, c.1)
unsized length x t None ts = length ts >>= λ n. Some (declared x.0 (e.array t n.0) x.1, n.1)

unfoldable pub bracketed : (length : Reader e.Expr) → (room : ℕ) → List ℕ × ℕ → e.CType → Reader e.VarDecl
bracketed length room x t ts = if room == 0 then None else unsized length x t (punct_at p.CloseBracket ts) ts

abbrev pub sized_param : (length : Reader e.Expr) → (room : ℕ) → List ℕ × ℕ → e.CType → Option (ℕ × List Token) → List Token → Option (e.VarDecl × List Token)
sized_param length room x t None ts = Some (declared x.0 t x.1, ts)
sized_param length room x t (Some b) ts = bracketed length room x t b.1

-- type {"*" ["const"]} NAME ["[" [conditional] "]"]
unfoldable pub param_of : Names → (cond : ℕ → Reader e.Expr) → (room : ℕ) → Reader e.VarDecl
param_of types cond room ts =
    type_at types ts >>= λ t. stars_at true t.0 t.1 >>= λ t. new_name_at types t.1 >>= λ x.
    sized_param (length_of cond room) room x.0 t.0 (punct_at p.OpenBracket x.1) x.1

-- a parameter, with the line of its first token
unfoldable pub param_on_of : Names → (cond : ℕ → Reader e.Expr) → (room : ℕ) → Reader (e.VarDecl × ℕ)
param_on_of types cond room ts = param_of types cond room ts >>= λ v. Some ((v.0, first_line ts), v.1)

abbrev pub closes : TokenKind → Bool
closes (k.Punct p.CloseParen) = true
closes _ = false

-- whether a closing parenthesis comes next
unfoldable pub at_close : List Token → Bool
at_close [] = false
at_close (t ∷ ts) = closes t.kind

-- `void` alone
abbrev pub no_params : Option (ℕ × List Token) → Option (List Token)
no_params None = None
no_params (Some v) = if at_close v.1 then Some v.1 else None

abbrev pub some_params : Option (List Token) → Reader (List (e.VarDecl × ℕ)) → Reader (List (e.VarDecl × ℕ))
some_params (Some rest) params ts = Some ([], rest)
some_params None params ts = params ts

-- "void" | param {"," param} | nothing, up to the parenthesis that closes them
unfoldable pub params_of : Names → (cond : ℕ → Reader e.Expr) → (room : ℕ) → Reader (List (e.VarDecl × ℕ))
params_of types cond room ts =
    if at_close ts then Some ([], ts)
    else some_params (no_params (word_at w.Void ts)) (separated_at (param_on_of types cond room)) ts

-- ---- structs and enums (C11 6.7.2.1, 6.7.2.2)

-- type declarator {"," declarator} ";"
unfoldable pub group_of : Names → (cond : ℕ → Reader e.Expr) → (room : ℕ) → Reader (List e.VarDecl)
group_of types cond room ts = type_at types ts >>= λ t. ended (separated_at (declarator_of types cond room t.0)) t.1

abbrev pub groups_go : (end : Bool) → List e.VarDecl → List Token → Reader (List e.VarDecl) → Option (List e.VarDecl × List Token)
groups_go true vs ts go = Some (vs, ts)
groups_go false vs ts go = go ts >>= λ ws. Some (vs ++ ws.0, ws.1)

abbrev pub closes_brace : TokenKind → Bool
closes_brace (k.Punct p.CloseBrace) = true
closes_brace _ = false

-- whether a closing brace comes next
unfoldable pub at_brace : List Token → Bool
at_brace [] = false
at_brace (t ∷ ts) = closes_brace t.kind

-- groups up to a closing brace, at most so many
unfoldable pub groups : Reader (List e.VarDecl) → (turns : ℕ) → Reader (List e.VarDecl)
groups group zero ts = None
groups group (suc turns) ts = group ts >>= λ vs. groups_go (at_brace vs.1) vs.0 vs.1 (groups group turns)

unfoldable pub fields_of : Names → (cond : ℕ → Reader e.Expr) → (room : ℕ) → Reader (List e.VarDecl)
fields_of types cond room ts = groups (group_of types cond room) (length ts) ts

-- NAME ["=" conditional]
unfoldable pub enumerator_of : Names → (cond : ℕ → Reader e.Expr) → (room : ℕ) → Reader e.VarDecl
enumerator_of types cond room ts = new_name_at types ts >>= λ x. initial (cond room) (declared x.0.0 (e.kind kind.Int) x.0.1) (punct_at p.Assign x.1) x.1

-- goes on behind a comma, unless a brace closes there
abbrev pub enumerators_go : Reader e.VarDecl → Option (ℕ × List Token) → List Token → Reader (List e.VarDecl) → Option (List e.VarDecl × List Token)
enumerators_go item None ts go = Some ([], ts)
enumerators_go item (Some c) ts go = if at_brace c.1 then Some ([], c.1) else (item c.1 >>= λ x. go x.1 >>= λ xs. Some (x.0 ∷ xs.0, xs.1))

-- more enumerators, at most so many, and the comma behind the last
unfoldable pub more_enumerators : Reader e.VarDecl → (turns : ℕ) → Reader (List e.VarDecl)
more_enumerators item zero ts = Some ([], ts)
more_enumerators item (suc turns) ts = enumerators_go item (punct_at p.Comma ts) ts (more_enumerators item turns)

abbrev pub some_enumerators : Reader e.VarDecl → Reader (List e.VarDecl)
some_enumerators item ts = item ts >>= λ x. more_enumerators item (length x.1) x.1 >>= λ xs. Some (x.0 ∷ xs.0, xs.1)

-- enumerators, up to a brace and a semicolon
unfoldable pub enumerated : Reader e.VarDecl → Reader (List e.VarDecl)
enumerated item ts = some_enumerators item ts >>= λ vs. punct_at p.CloseBrace vs.1 >>= λ b. punct_at p.Semicolon b.1 >>= λ s. Some (vs.0, s.1)

-- "{" enumerator {"," enumerator} [","] "}" ";"
unfoldable pub enumerators_of : Names → (cond : ℕ → Reader e.Expr) → (room : ℕ) → Reader (List e.VarDecl)
enumerators_of types cond room ts = punct_at p.OpenBrace ts >>= λ o. (if room == 0 then None else enumerated (enumerator_of types cond (room - 1)) o.1)

-- ---- over the readers of expressions

unfoldable pub declarator_at : Names → (room : ℕ) → e.CType → Reader e.VarDecl
declarator_at types room base = declarator_of types (cond_at types) room base

unfoldable pub variables_after : Names → (room : ℕ) → e.CType → Reader (List e.VarDecl)
variables_after types room base = variables_after_of types (cond_at types) (expr_at types) room base

unfoldable pub variables_at : Names → (room : ℕ) → Reader (List e.VarDecl)
variables_at types room = variables_of types (cond_at types) (expr_at types) room

unfoldable pub params_at : Names → (room : ℕ) → Reader (List (e.VarDecl × ℕ))
params_at types room = params_of types (cond_at types) room

unfoldable pub fields_at : Names → (room : ℕ) → Reader (List e.VarDecl)
fields_at types room = fields_of types (cond_at types) room

unfoldable pub enumerators_at : Names → (room : ℕ) → Reader (List e.VarDecl)
enumerators_at types room = enumerators_of types (cond_at types) room

abbrev pub links : TokenKind → Bool
links (k.Word w.Extern) = true
links (k.Word w.Static) = true
links _ = false

-- the tokens behind `extern` or `static`, if one comes first
unfoldable pub linkage_at : List Token → List Token
linkage_at [] = []
linkage_at (t ∷ ts) = if links t.kind then ts else t ∷ ts
