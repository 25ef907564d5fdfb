-- Locals and parameters have no more cells than the limit of objects, and that many are within the differences of pointers.
use Rattle.std.proofs.Common.{◌≡◌, ℕ, ℤ, pos, ◌≤◌, true, List, length, Option, Some, slice_get, sym, subst, ◌⊎◌, inl, inr, arith}
use Rattle.std.specs.Prelude.{int_le}
use Rattle.wp_base.specs.declared.kinds.Kind.{Kind}
use Rattle.wp_base.specs.declared.kinds.Layout.{Layout}
use Rattle.wp_base.specs.Blocks.{cells_of}
use Rattle.c_kinds.specs.declared.models.Machdep.{Machdep}
use Rattle.c_kinds.specs.declared.models.Machdep.TheVariants as model
use Rattle.c_kinds.specs.Models.{high, difference_kind}
use Rattle.c_syntax.specs.Expr as e
use Rattle.c_syntax.specs.Stmt as spelled
use Rattle.c_scopes.specs.declared.symbols.Object.{Object}
use Rattle.c_scopes.specs.Declarations.{is_free_here}
use Rattle.c_scopes.specs.Extents.{most_cells}
use Rattle.c_scopes.proofs.Holding.{extents_are_within}
use Rattle.c_variables.specs.declared.context.Context.{Context}
use Rattle.c_variables.specs.Variables.{object_with}
use Rattle.typed_unit.specs.Stmt as unit
use Rattle.c_typed_stmts.specs.Judgement as j
use Rattle.c_typed_stmts.specs.Judgement.{IsLocal, AreLocals, IsTyped, AreTyped, AreLabelled}
use Rattle.plain_files.proofs.Scoping.{at_most}
use Rattle.typed_values.specs.Declared.{HasLayout}
use Rattle.typed_layouts.proofs.Laying.{has_layout}
use Rattle.kinded_files.proofs.Layouts.{one_of_if}

-- ---- the limit

pub within_differences : (m : Machdep) (n : ℕ) → n ≤ most_cells → int_le (pos n) (high m (difference_kind m)) ≡ true
within_differences model.X86_32 n h = at_most n 2147483647 (omega (arith, h))
within_differences model.X86_64 n h = at_most n 9223372036854775807 (omega (arith, h))

-- ---- locals

-- the cells of a local are within the limit
abbrev pub AreShort : Context → Type 0
AreShort c = (n : ℕ) (o : Object) → slice_get c.scope.local.objects n ≡ Some o → (l : Layout) × HasLayout c.scope.file.structs o.ty l × (length (cells_of l) ≤ most_cells)

pub one_short : (c : Context) (x : Object) → AreShort c → ((l : Layout) × HasLayout c.scope.file.structs x.ty l × (length (cells_of l) ≤ most_cells)) → (n : ℕ) (o : Object)
    → (slice_get c.scope.local.objects n ≡ Some o) ⊎ (x ≡ o) → (l : Layout) × HasLayout c.scope.file.structs o.ty l × (length (cells_of l) ≤ most_cells)
one_short c x before new n o (inl h) = before n o h
one_short c x before new n o (inr h) = subst (λ (q : Object). (l : Layout) × HasLayout c.scope.file.structs q.ty l × (length (cells_of l) ≤ most_cells)) h new

local_short : {c : Context} {d : e.VarDecl} {r : unit.Declared} {b : Context} → IsLocal c d r b → AreShort c → AreShort b
local_short {c = c} {d = d} h before =
    let extends = (extents_are_within c.scope.file.structs d.line h.is h.layout).0 h.held in
    subst AreShort (sym h.declares) (λ n o found.
    one_short c (object_with d h.is) before (h.layout, has_layout c.scope.file.structs d.line h.is h.layout h.held, extends.within) n o
    (one_of_if (is_free_here c.scope.local d.name) c.scope.local.objects (object_with d h.is) o n found))

locals_short : {c : Context} {ds : List e.VarDecl} {rs : List unit.Declared} {b : Context} → AreLocals c ds rs b → AreShort c → AreShort b
locals_short (j.no_local c) before = before
locals_short (j.one_local c next behind d r ds rs h are) before = locals_short are (local_short h before)

mutual
  pub stmt_short : {c : Context} {x : spelled.Stmt} {y : unit.Stmt} {behind : Context} → IsTyped c x y behind → AreShort c → AreShort behind
  stmt_short (j.empty c line) before = before
  stmt_short (j.expr c line a v is) before = before
  stmt_short (j.block c behind line xs ys are) before = stmts_short are before
  stmt_short (j.locals c behind line ds rs are) before = locals_short are before
  stmt_short (j.if_only c behind line test v x y is so) before = stmt_short so before
  stmt_short (j.if_else c next behind line test v x x' y y' is so so') before = stmt_short so' (stmt_short so before)
  stmt_short (j.while_loop c behind line annot test v x y is so) before = stmt_short so before
  stmt_short (j.do_loop c behind line annot test v x y so is) before = stmt_short so before
  stmt_short (j.for_loop c next behind line annot first body test step y z v w so is is' so') before = stmt_short so' (stmt_short so before)
  stmt_short (j.switch c behind line a v xs ys is are) before = labelled_short are before
  stmt_short (j.break c line) before = before
  stmt_short (j.continue c line) before = before
  stmt_short (j.return_of c line a v is) before = before
  stmt_short (j.assert c line q) before = before

  pub stmts_short : {c : Context} {xs : spelled.Stmts} {ys : unit.Stmts} {behind : Context} → AreTyped c xs ys behind → AreShort c → AreShort behind
  stmts_short (j.no_stmt c) before = before
  stmts_short (j.one_stmt c next behind x y xs ys is are) before = stmts_short are (stmt_short is before)

  labelled_short : {k : Option Kind} {zs : List ℤ} {c : Context} {xs : spelled.Stmts} {ys : unit.Stmts} {behind : Context} → AreLabelled k zs c xs ys behind → AreShort c → AreShort behind
  labelled_short (j.no_item k zs c) before = before
  labelled_short (j.label k zs c behind line a z xs ys is new are) before = labelled_short are before
  labelled_short (j.default k zs c behind line xs ys are) before = labelled_short are before
  labelled_short (j.one_item k zs c next behind x y xs ys is are) before = labelled_short are (stmt_short is before)
