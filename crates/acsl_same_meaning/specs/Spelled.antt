-- What the grammar says of annotations: each quantifier binds a name, and a definition stands for a term exactly where it has a result.
use Rattle.std.specs.Prelude.{Option, Some, None}
use Rattle.c_syntax.specs.Expr as e
use Rattle.c_syntax.specs.Decl as d
use Rattle.typed_unit.specs.Unit as u
use Rattle.acsl_clauses.specs.Items as i
use Rattle.acsl_well_typed.specs.Ranges.{EachBinds}
use Rattle.acsl_well_typed.specs.Clauses.{All, ItemBinds}
use Rattle.acsl_well_typed.specs.Files.{StmtBinds}

-- ---- definitions

-- A logic function has a result and stands for a term, a predicate has none.
abbrev pub BodyIsSpelled : Option e.CType → d.LogicBody → Type 0
BodyIsSpelled (Some x) (d.term a) = Unit {0}
BodyIsSpelled None (d.pred a) = EachBinds a
BodyIsSpelled _ _ = ⊥

abbrev pub IsSpelled : d.LogicDecl → Type 0
IsSpelled l = BodyIsSpelled l.result l.body

-- ---- files

abbrev pub PartIsSpelled : u.Annotated → Type 0
PartIsSpelled (u.of_function k ps q has_body) = All ItemBinds (i.contract_items q)
PartIsSpelled (u.of_logic l) = IsSpelled l

-- as the grammar has it: each quantifier binds a name, and a definition stands for a term exactly where it has a result
pub record FileIsSpelled (t : u.Typed) : Type 0 where
  pub parts : All (λ p. PartIsSpelled p.decl) t.parts
  pub bodies : All (λ b. StmtBinds b.stmt) t.bodies
