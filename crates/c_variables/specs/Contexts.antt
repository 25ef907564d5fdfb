-- What expressions are typed with at a place of a file.
use Rattle.std.specs.Prelude.{ℕ, Bool}
use Rattle.c_exprs.specs.Typing.{Around, around}
use Rattle.c_sequence.specs.Sequence.{Plain, plain_of}
use Rattle.c_scopes.specs.declared.scope.Scope.{Scope}
use Rattle.c_scopes.specs.declared.local.Local.{Local}
use Rattle.c_variables.specs.declared.context.Context.{Context}

abbrev pub around_of : Context → Around
around_of c = around c.model c.sizes c.scope

abbrev pub plain_in : Context → Plain
plain_in c = plain_of c.globals c.locals

-- the same, with other locals in scope
abbrev pub with_locals : Context → Local → Context
with_locals c l = record c { scope = record c.scope { local = l } }
