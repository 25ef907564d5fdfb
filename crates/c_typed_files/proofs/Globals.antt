-- Variables of the file, one after the other.
use Rattle.std.proofs.Common.{◌≡◌, ℕ, Bool, true, false, is_some, if◌then◌else◌, List, [], ◌∷◌, Option, Some, None, Ok, Err, refl, sym, subst}
use Rattle.wp_base.specs.declared.kinds.Layout.{Layout}
use Rattle.c_syntax.specs.Expr as e
use Rattle.c_syntax.specs.Lines.{line_of}
use Rattle.c_answers.specs.Answers.{Answer, after, unknown, wrong}
use Rattle.typed_prog.specs.declared.types.CoreType.{CoreType}
use Rattle.typed_prog.specs.Tree as t
use Rattle.name_table.specs.Names.{Names}
use Rattle.c_contexts.specs.Contexts.{initialiser}
use Rattle.c_scopes.specs.declared.symbols.Resolved.{Resolved}
use Rattle.c_scopes.specs.Extents.{extent}
use Rattle.c_variables.specs.declared.context.Context.{Context}
use Rattle.c_variables.specs.Contexts.{around_of, plain_in}
use Rattle.c_variables.specs.Variables.{variable}
use Rattle.c_decls.specs.Each.{each}
use Rattle.c_decls.specs.Constants.{is_constant}
use Rattle.c_decls.specs.Globals.{Inits, may_declare, earlier_of, agrees, agreed, held_type, global_type, place_of, with_global, with_place, as_constant, initial_value, initialised, global, globals_declared}
use Rattle.c_well_typed.proofs.Fitting.{Holds, after_holds}
use Rattle.c_typed_stmts.specs.Full.{IsAssigned}
use Rattle.c_typed_stmts.proofs.Values.{initialised_by}
use Rattle.c_typed_files.specs.Globals.{IsInitial, IsInitialised, IsGlobal, AreGlobals}
use Rattle.c_typed_files.specs.Globals as g
use Rattle.c_typed_stmts.proofs.Names.{kept, new_variable}

-- ---- initialisers

an_initial : (c : Context) (type : CoreType) (a : e.Expr) → Holds (IsInitial c type a) (initial_value c type a)
unfolding initial_value
an_initial c type a = after_holds (IsAssigned c type a) (IsInitial c type a) (initialiser (around_of c) (plain_in c) type a) _ (initialised_by c type a) (λ v is. by v is (is_constant v) refl)
  where
    by : (v : t.Value) → IsAssigned c type a v → (b : Bool) → is_constant v ≡ b → Holds (IsInitial c type a) (if b then Ok v else wrong (line_of a))
    by v is true constant = record { assigned = is; constant = constant }
    by v is false constant = tt

a_place : (c : Context) (inits : Inits) (n : ℕ) (type : CoreType) (a : Option e.Expr)
    → Holds (λ r. (r.0 ≡ c) × IsInitialised c n type a inits r.1) (initialised c inits n type a)
a_place c inits n type None = (refl, g.not_written inits)
a_place c inits n type (Some a) =
    after_holds (IsInitial c type a) (λ r. (r.0 ≡ c) × IsInitialised c n type (Some a) inits r.1) (initial_value c type a) _ (an_initial c type a) (λ v is. (refl, g.written inits a v is))

-- ---- types

record TypeOf (c : Context) (inits : Inits) (d : e.VarDecl) (r : Resolved) : Type 0 where
  layout : Layout
  may : may_declare (earlier_of c d.name) ≡ true
  means : variable (around_of c) true d.line d.ty ≡ Ok r
  same : agrees c inits (is_some d.init) r (earlier_of c d.name) ≡ true
  held : extent c.scope.file.structs d.line r ≡ Ok layout

a_type : (c : Context) (inits : Inits) (d : e.VarDecl) → Holds (TypeOf c inits d) (global_type c inits d)
unfolding global_type
a_type c inits d = after_holds (λ r. variable (around_of c) (may_declare (earlier_of c d.name)) d.line d.ty ≡ Ok r) (TypeOf c inits d) _ _
    (kept (variable (around_of c) (may_declare (earlier_of c d.name)) d.line d.ty)) (λ r is. with_same r is (agrees c inits (is_some d.init) r (earlier_of c d.name)) refl)
  where
    with_held : (r : Resolved) → variable (around_of c) (may_declare (earlier_of c d.name)) d.line d.ty ≡ Ok r → agrees c inits (is_some d.init) r (earlier_of c d.name) ≡ true
        → Holds (TypeOf c inits d) (held_type c d r)
    with_held r is same = after_holds (λ layout. extent c.scope.file.structs d.line r ≡ Ok layout) (TypeOf c inits d) _ _ (kept (extent c.scope.file.structs d.line r)) (λ layout held.
        let may = new_variable (around_of c) (may_declare (earlier_of c d.name)) d.line d.ty r is in
        record { layout = layout; may = may; means = subst (λ b. variable (around_of c) b d.line d.ty ≡ Ok r) may is; same = same; held = held })

    with_same : (r : Resolved) → variable (around_of c) (may_declare (earlier_of c d.name)) d.line d.ty ≡ Ok r → (b : Bool) → agrees c inits (is_some d.init) r (earlier_of c d.name) ≡ b
        → Holds (TypeOf c inits d) (after (if b then Ok r else unknown d.line) (held_type c d))
    with_same r is true same = with_held r is same
    with_same r is false same = tt

-- ---- declarators

a_global : (taken : Names Bool) (s : Context × Inits) (d : e.VarDecl) → Holds (IsGlobal taken s d) (global taken s d)
unfolding global
a_global taken s d = after_holds (TypeOf s.0 s.1 d) (IsGlobal taken s d) (global_type s.0 s.1 d) _ (a_type s.0 s.1 d) (λ r is.
    declared r is (initialised (with_global taken s.0 d r) (with_place s.0 s.1 d) (place_of s.0 d.name) r.ty d.init)
    (a_place (with_global taken s.0 d r) (with_place s.0 s.1 d) (place_of s.0 d.name) r.ty d.init))
  where
    declared : (r : Resolved) → TypeOf s.0 s.1 d r → (o : Answer (Context × Inits))
        → Holds (λ q. (q.0 ≡ with_global taken s.0 d r) × IsInitialised (with_global taken s.0 d r) (place_of s.0 d.name) r.ty d.init (with_place s.0 s.1 d) q.1) o → Holds (IsGlobal taken s d) o
    declared r is (Ok q) h = record {
      is = r;
      layout = is.layout;
      may = is.may;
      means = is.means;
      same = is.same;
      held = is.held;
      declares = h.0;
      init = subst (λ c. IsInitialised c (place_of s.0 d.name) r.ty d.init (with_place s.0 s.1 d) q.1) (sym h.0) h.1;
    }
    declared r is (Err q) h = tt

pub all_globals : (taken : Names Bool) (s : Context × Inits) (ds : List e.VarDecl) → Holds (AreGlobals taken s ds) (each (global taken) s ds)
all_globals taken s [] = g.no_global s
all_globals taken s (d ∷ ds) =
    after_holds (IsGlobal taken s d) (AreGlobals taken s (d ∷ ds)) (global taken s d) _ (a_global taken s d) (λ next is.
    more next is (each (global taken) next ds) (all_globals taken next ds))
  where
    more : (next : Context × Inits) → IsGlobal taken s d next → (o : Answer (Context × Inits)) → Holds (AreGlobals taken next ds) o → Holds (AreGlobals taken s (d ∷ ds)) o
    more next is (Ok behind) are = g.one_global s next behind d ds is are
    more next is (Err r) are = tt
