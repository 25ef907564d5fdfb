-- What it is that the readers of declarations read what is spelled, and all of it.
use Rattle.std.specs.Prelude.{◌≡◌, ℕ, true, None, List, ◌++◌}
use Rattle.c_syntax.specs.declared.token.Token.{Token}
use Rattle.c_syntax.specs.declared.token.Punct.TheVariants as p
use Rattle.c_syntax.specs.Expr as e
use Rattle.c_grammar.specs.Tokens.{Names}
use Rattle.c_grammar.specs.Lists.{Separated}
use Rattle.c_grammar.specs.Declarators.{SpellsDeclarator, SpellsInitialised, SpellsVariables}
use Rattle.c_grammar.specs.Decls.{SpellsParams, SpellsFields, SpellsEnumerators, SpellsLinkage}
use Rattle.c_grammar.specs.Reading.{punct_at}
use Rattle.c_grammar.specs.Exactness.{IsExact}
use Rattle.parse_types.specs.Read.{starts_type}
use Rattle.parse_decls.specs.Read.{declarator_at, variables_after, variables_at, params_at, fields_at, enumerators_at, linkage_at, at_close, at_brace}
use Rattle.parse_decls.specs.Spelled.{SpellsEnded, IsAfterLinkage}

abbrev pub DeclaratorIsExact : Type 0
DeclaratorIsExact = (types : Names) (room : ℕ) (base : e.CType) → IsExact (SpellsDeclarator types room base) (λ rest. punct_at p.OpenBracket rest ≡ None) (declarator_at types room base)

abbrev pub VariablesAfterAreExact : Type 0
VariablesAfterAreExact = (types : Names) (room : ℕ) (base : e.CType) → IsExact (SpellsEnded (Separated (SpellsInitialised types room base))) (λ rest. Unit {0}) (variables_after types room base)

abbrev pub VariablesAreExact : Type 0
VariablesAreExact = (types : Names) (room : ℕ) → IsExact (SpellsVariables types room) (λ rest. Unit {0}) (variables_at types room)

abbrev pub ParamsAreExact : Type 0
ParamsAreExact = (types : Names) (room : ℕ) → IsExact (SpellsParams types room) (λ rest. at_close rest ≡ true) (params_at types room)

abbrev pub FieldsAreExact : Type 0
FieldsAreExact = (types : Names) (room : ℕ) → IsExact (SpellsFields types room) (λ rest. at_brace rest ≡ true) (fields_at types room)

abbrev pub EnumeratorsAreExact : Type 0
EnumeratorsAreExact = (types : Names) (room : ℕ) → IsExact (SpellsEnumerators types room) (λ rest. Unit {0}) (enumerators_at types room)

-- a linkage is left behind, where a type comes next
pub record LinkageIsExact : Type 0 where
  pub sound : (ts : List Token) → IsAfterLinkage ts (linkage_at ts)
  pub complete : (types : Names) (xs : List Token) → SpellsLinkage xs → (rest : List Token) → starts_type types rest ≡ true → linkage_at (xs ++ rest) ≡ rest
