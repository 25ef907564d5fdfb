-- Typing leaves layouts: where all that is declared has the cells of its type, so it has behind each statement and each declaration (C11 6.7p7).
use Rattle.std.specs.Prelude.{◌≡◌, length}
use Rattle.c_syntax.specs.Stmt as p
use Rattle.typed_unit.specs.Stmt as s
use Rattle.c_variables.specs.declared.context.Context.{Context}
use Rattle.c_variables.specs.Contexts.{around_of}
use Rattle.c_typed_stmts.specs.Judgement.{IsTyped, AreTyped}
use Rattle.typed_values.specs.Programs.{HasLayouts, PlainAreScalars}

-- all that is declared has a layout, and what no pointer leads to is a scalar
pub record IsLaid (c : Context) : Type 0 where
  pub layouts : HasLayouts (around_of c)
  pub globals : PlainAreScalars c.globals c.scope.file.globals
  pub global_flags : length c.globals ≡ length c.scope.file.globals
  pub locals : PlainAreScalars c.locals c.scope.local.objects
  pub local_flags : length c.locals ≡ length c.scope.local.objects
  pub struct_sizes : length c.sizes ≡ length c.scope.file.structs

abbrev pub StatementsStayLaid : Type 0
StatementsStayLaid = (c : Context) (x : p.Stmt) (y : s.Stmt) (behind : Context) → IsTyped c x y behind → IsLaid c → IsLaid behind

-- and one after the other, as in a body
abbrev pub BodiesStayLaid : Type 0
BodiesStayLaid = (c : Context) (xs : p.Stmts) (ys : s.Stmts) (behind : Context) → AreTyped c xs ys behind → IsLaid c → IsLaid behind
