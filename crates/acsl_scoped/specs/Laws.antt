-- The sets of typed loops name variables that are in scope where the loop stands (ACSL 2.4.2).
use Rattle.std.specs.Prelude.{◌≡◌, ℕ, List, [], ◌∷◌, Some}
use Rattle.typed_prog.specs.declared.operators.Variable.TheVariants as variable
use Rattle.name_table.specs.Names.{Names, meaning_among}
use Rattle.c_scopes.specs.declared.symbols.Symbol.TheVariants as symbol
use Rattle.c_syntax.specs.Contract.{LoopAnnot}
use Rattle.acsl_rules.specs.Laws.{Holds}
use Rattle.acsl_names.specs.Names.{Around}
use Rattle.acsl_clauses.specs.Typed.{Said, claims, decreases, assigns, begins, together, TypedClause}
use Rattle.acsl_clauses.specs.Clauses.{loop_typed}
use Rattle.acsl_scoped.specs.Scoped.{AreRegions}

abbrev pub SaidIsScoped : (blocks : List (Names ℕ)) → Said → Type 0
SaidIsScoped bs (claims r t) = Unit {0}
SaidIsScoped bs (decreases t) = Unit {0}
SaidIsScoped bs (assigns ts) = AreRegions bs ts
SaidIsScoped bs (begins n) = Unit {0}
SaidIsScoped bs (together g ns) = Unit {0}

abbrev pub AreScoped : (blocks : List (Names ℕ)) → List TypedClause → Type 0
AreScoped bs [] = Unit {0}
AreScoped bs (x ∷ xs) = SaidIsScoped bs x.said × AreScoped bs xs

-- no name of the file stands for a local
abbrev pub NamesNoLocals : Around → Type 0
NamesNoLocals c = (x : List ℕ) (i : ℕ) → meaning_among c.names c.file.names x ≡ Some (symbol.Object (variable.Local i)) → ⊥

-- So it is of what typing makes of a loop's clauses.
abbrev pub LoopsAreScoped : Type 0
LoopsAreScoped = (c : Around) (a : LoopAnnot) → NamesNoLocals c → Holds (AreScoped c.blocks) (loop_typed c a)
