-- By induction on typed statements: only declarations of locals declare something.
use Rattle.std.proofs.Common.{◌≡◌, ℕ, ℤ, zero, suc, ◌+◌, Bool, true, false, not, List, [], ◌∷◌, ◌++◌, length, Option, Some, None, Ok, slice_get, slice_index_or, refl, sym, ap, subst, ◌∙◌, ◌⊎◌, inl, inr, arith, length-append}
use Rattle.std.specs.Option.{unwrap_or}
use Rattle.std.proofs.lemmas.Bool.{and_parts}
use Rattle.wp_base.specs.declared.kinds.Kind.{Kind}
use Rattle.wp_base.specs.declared.kinds.Layout.{Layout}
use Rattle.c_syntax.specs.Expr as e
use Rattle.c_syntax.specs.Stmt as p
use Rattle.typed_prog.specs.declared.operators.Variable.{Variable}
use Rattle.typed_prog.specs.declared.operators.Variable.TheVariants as variable
use Rattle.c_rules.specs.Operators.{is_scalar}
use Rattle.c_scopes.specs.declared.symbols.Object.{Object}
use Rattle.c_scopes.specs.declared.symbols.Resolved.{Resolved}
use Rattle.c_scopes.specs.declared.symbols.Structure.{Structure}
use Rattle.c_scopes.specs.Declarations.{more_if, is_free_here, object_of}
use Rattle.c_scopes.specs.Extents.{extent}
use Rattle.c_scopes.proofs.Holding.{extents_are_within}
use Rattle.c_well_typed.specs.Operators.{IsScalar}
use Rattle.c_variables.specs.declared.context.Context.{Context}
use Rattle.c_variables.specs.Variables.{object_with}
use Rattle.c_stmts.specs.Locals.{is_plain_local, count_of, with_variable, initialising}
use Rattle.c_stmts.specs.Statements.{entered, left}
use Rattle.typed_unit.specs.Stmt as s
use Rattle.c_typed_stmts.specs.Judgement as j
use Rattle.c_typed_stmts.specs.Judgement.{IsLocal, AreLocals, IsTyped, AreTyped, AreLabelled}
use Rattle.typed_values.specs.Declared.{HasLayout}
use Rattle.typed_values.specs.Programs.{PlainAreScalars}
use Rattle.typed_layouts.specs.Laid.{IsLaid, StatementsStayLaid, BodiesStayLaid}

-- ---- layouts

pub has_layout : (ss : List Structure) (line : ℕ) (t : Resolved) (l : Layout) → extent ss line t ≡ Ok l → HasLayout ss t.ty l
has_layout ss line t l h =
    let is = (extents_are_within ss line t l).0 h in record { elements = is.elements; count = by is.count }
  where
    by : ((t.ty.count ≡ Some l.count) ⊎ ((t.ty.count ≡ None) × (l.count ≡ 1))) → l.count ≡ unwrap_or t.ty.count 1
    by (inl some) = sym (ap (λ (c : Option ℕ). unwrap_or c 1) some)
    by (inr none) = none.1 ∙ sym (ap (λ (c : Option ℕ). unwrap_or c 1) none.0)

-- ---- one more

-- what stands in a list with one item more
pub last_of : {X : Type 0} (xs : List X) (y x : X) (i : ℕ) → slice_get (xs ++ y ∷ []) i ≡ Some x → (slice_get xs i ≡ Some x) ⊎ (y ≡ x)
last_of [] y x zero h = inr cc
last_of [] y x (suc i) h = absurd cc
last_of (z ∷ xs) y x zero h = inl h
last_of (z ∷ xs) y x (suc i) h = last_of xs y x i h

pub scalars_more : (fs : List Bool) (f : Bool) (os : List Object) (o : Object) → length fs ≡ length os → PlainAreScalars fs os → (f ≡ true → IsScalar o.ty)
    → PlainAreScalars (fs ++ f ∷ []) (os ++ o ∷ [])
scalars_more [] f [] o e before new zero x h plain = let same : o ≡ x = cc in subst (λ (y : Object). IsScalar y.ty) same (new plain)
scalars_more [] f [] o e before new (suc n) x h plain = absurd cc
scalars_more [] f (q ∷ os) o e before new n x h plain = absurd (omega (arith, e))
scalars_more (g ∷ fs) f [] o e before new n x h plain = absurd (omega (arith, e))
scalars_more (g ∷ fs) f (q ∷ os) o e before new zero x h plain = before 0 x h plain
scalars_more (g ∷ fs) f (q ∷ os) o e before new (suc n) x h plain =
    scalars_more fs f os o (omega (arith, e)) (λ m y k. before (suc m) y k) new n x h plain

one_more : {X : Type 0} (b : Bool) (xs : List X) (x : X) → b ≡ true → more_if b xs x ≡ xs ++ x ∷ []
one_more true xs x h = refl
one_more false xs x h = absurd cc

-- ---- a local

module _ (c : Context) (d : e.VarDecl) (t : Resolved) (laid : IsLaid c) (new : is_free_here c.scope.local d.name ≡ true) where
  abbrev objects : List Object
  objects = c.scope.local.objects

  grown : more_if (is_free_here c.scope.local d.name) objects (object_with d t) ≡ objects ++ object_with d t ∷ []
  grown = one_more (is_free_here c.scope.local d.name) objects (object_with d t) new

  plain_scalar : is_plain_local c (count_of c) t.ty ≡ true → IsScalar t.ty
  plain_scalar h = (and_parts (not (slice_index_or c.taken (count_of c) true)) (is_scalar t.ty) h).1

  pub variable_laid : ((l : Layout) × HasLayout c.scope.file.structs t.ty l) → IsLaid (with_variable c d t)
  variable_laid l = record {
    layouts = record { variables = there; structs = laid.layouts.structs; sizes = laid.layouts.sizes };
    globals = laid.globals;
    global_flags = laid.global_flags;
    locals = subst (PlainAreScalars (c.locals ++ is_plain_local c (count_of c) t.ty ∷ [])) (sym grown)
        (scalars_more c.locals (is_plain_local c (count_of c) t.ty) objects (object_with d t) laid.local_flags laid.locals plain_scalar);
    local_flags =
        let fs = length-append c.locals (is_plain_local c (count_of c) t.ty ∷ []) in
        let os = length-append objects (object_with d t ∷ []) in
        let same = laid.local_flags in
        let both : length (c.locals ++ is_plain_local c (count_of c) t.ty ∷ []) ≡ length (objects ++ object_with d t ∷ []) = omega (arith, fs, os, same) in
        both ∙ sym (ap length grown);
    struct_sizes = laid.struct_sizes;
  }
    where
      by : (o : Object) → ((m : ℕ) → slice_get objects m ≡ Some o → (k : Layout) × HasLayout c.scope.file.structs o.ty k) → (n : ℕ)
          → ((slice_get objects n ≡ Some o) ⊎ (object_with d t ≡ o)) → (k : Layout) × HasLayout c.scope.file.structs o.ty k
      by o before n (inl old) = before n old
      by o before n (inr same) = subst (λ (q : Object). (k : Layout) × HasLayout c.scope.file.structs q.ty k) same l

      there : (x : Variable) (o : Object) → object_of (with_variable c d t).scope x ≡ Some o → (k : Layout) × HasLayout c.scope.file.structs o.ty k
      there (variable.Global n) o h = laid.layouts.variables (variable.Global n) o h
      there (variable.Local n) o h =
          by o (λ m. laid.layouts.variables (variable.Local m) o) n (last_of objects (object_with d t) o n (ap (λ os. slice_get os n) (sym grown) ∙ h))

-- what is in scope of what is declared changes no layout
initialising_laid : (c : Context) (which : Option ℕ) → IsLaid c → IsLaid (initialising c which)
initialising_laid c which h = record {
  layouts = record { variables = there; structs = h.layouts.structs; sizes = h.layouts.sizes };
  globals = h.globals;
  global_flags = h.global_flags;
  locals = h.locals;
  local_flags = h.local_flags;
  struct_sizes = h.struct_sizes;
}
  where
    there : (x : Variable) (o : Object) → object_of (initialising c which).scope x ≡ Some o → (k : Layout) × HasLayout c.scope.file.structs o.ty k
    there (variable.Global n) o e = h.layouts.variables (variable.Global n) o e
    there (variable.Local n) o e = h.layouts.variables (variable.Local n) o e

entered_laid : (c : Context) → IsLaid c → IsLaid (entered c)
entered_laid c h = record {
  layouts = record { variables = there; structs = h.layouts.structs; sizes = h.layouts.sizes };
  globals = h.globals;
  global_flags = h.global_flags;
  locals = h.locals;
  local_flags = h.local_flags;
  struct_sizes = h.struct_sizes;
}
  where
    there : (x : Variable) (o : Object) → object_of (entered c).scope x ≡ Some o → (k : Layout) × HasLayout c.scope.file.structs o.ty k
    there (variable.Global n) o e = h.layouts.variables (variable.Global n) o e
    there (variable.Local n) o e = h.layouts.variables (variable.Local n) o e

left_laid : (c : Context) → IsLaid c → IsLaid (left c)
left_laid c h = record {
  layouts = record { variables = there; structs = h.layouts.structs; sizes = h.layouts.sizes };
  globals = h.globals;
  global_flags = h.global_flags;
  locals = h.locals;
  local_flags = h.local_flags;
  struct_sizes = h.struct_sizes;
}
  where
    there : (x : Variable) (o : Object) → object_of (left c).scope x ≡ Some o → (k : Layout) × HasLayout c.scope.file.structs o.ty k
    there (variable.Global n) o e = h.layouts.variables (variable.Global n) o e
    there (variable.Local n) o e = h.layouts.variables (variable.Local n) o e

local_laid : {c : Context} {d : e.VarDecl} {r : s.Declared} {b : Context} → IsLocal c d r b → IsLaid c → IsLaid b
local_laid {c = c} {d = d} h laid =
    subst IsLaid (sym h.declares)
    (initialising_laid (with_variable c d h.is) None (variable_laid c d h.is laid h.new (h.layout, has_layout c.scope.file.structs d.line h.is h.layout h.held)))

locals_laid : {c : Context} {ds : List e.VarDecl} {rs : List s.Declared} {b : Context} → AreLocals c ds rs b → IsLaid c → IsLaid b
locals_laid (j.no_local c) laid = laid
locals_laid (j.one_local c next behind d r ds rs h are) laid = locals_laid are (local_laid h laid)

-- ---- statements

mutual
  stmt_laid : {c : Context} {x : p.Stmt} {y : s.Stmt} {behind : Context} → IsTyped c x y behind → IsLaid c → IsLaid behind
  stmt_laid (j.empty c line) laid = laid
  stmt_laid (j.expr c line a v is) laid = laid
  stmt_laid (j.block c behind line xs ys are) laid = left_laid behind (stmts_laid are (entered_laid c laid))
  stmt_laid (j.locals c behind line ds rs are) laid = locals_laid are laid
  stmt_laid (j.if_only c behind line test v x y is so) laid = stmt_laid so laid
  stmt_laid (j.if_else c next behind line test v x x' y y' is so so') laid = stmt_laid so' (stmt_laid so laid)
  stmt_laid (j.while_loop c behind line annot test v x y is so) laid = stmt_laid so laid
  stmt_laid (j.do_loop c behind line annot test v x y so is) laid = stmt_laid so laid
  stmt_laid (j.for_loop c next behind line annot first body test step y z v w so is is' so') laid = left_laid behind (stmt_laid so' (stmt_laid so (entered_laid c laid)))
  stmt_laid (j.switch c behind line a v xs ys is are) laid = left_laid behind (labelled_laid are (entered_laid c laid))
  stmt_laid (j.break c line) laid = laid
  stmt_laid (j.continue c line) laid = laid
  stmt_laid (j.return_of c line a v is) laid = laid
  stmt_laid (j.assert c line q) laid = laid

  stmts_laid : {c : Context} {xs : p.Stmts} {ys : s.Stmts} {behind : Context} → AreTyped c xs ys behind → IsLaid c → IsLaid behind
  stmts_laid (j.no_stmt c) laid = laid
  stmts_laid (j.one_stmt c next behind x y xs ys is are) laid = stmts_laid are (stmt_laid is laid)

  labelled_laid : {k : Option Kind} {zs : List ℤ} {c : Context} {xs : p.Stmts} {ys : s.Stmts} {behind : Context} → AreLabelled k zs c xs ys behind → IsLaid c → IsLaid behind
  labelled_laid (j.no_item k zs c) laid = laid
  labelled_laid (j.label k zs c behind line a z xs ys is new are) laid = labelled_laid are laid
  labelled_laid (j.default k zs c behind line xs ys are) laid = labelled_laid are laid
  labelled_laid (j.one_item k zs c next behind x y xs ys is are) laid = labelled_laid are (stmt_laid is laid)

pub statements_stay_laid : StatementsStayLaid
statements_stay_laid c x y behind is laid = stmt_laid is laid

pub bodies_stay_laid : BodiesStayLaid
bodies_stay_laid c xs ys behind are laid = stmts_laid are laid
