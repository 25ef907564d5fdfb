-- What is so of marks, in other words than those of the walk.
use Rattle.std.specs.Prelude.{◌≡◌, ◌≢◌, ℕ, ◌<◌, true, not, List, [], ◌∷◌, ◌++◌, length, Some, slice_get}
use Rattle.c_syntax.specs.Expr as e
use Rattle.c_syntax.specs.Stmt as s
use Rattle.c_syntax.specs.Decl as d
use Rattle.name_table.specs.Names.{is_free}
use Rattle.name_table.specs.Nesting.{meaning_in, innermost}
use Rattle.c_taken.specs.Addressed.{Names, addressed, option_addressed, type_addressed, is_among, loop_addressed}
use Rattle.c_taken.specs.declared.marks.Marks.{Marks}
use Rattle.c_taken.specs.Marking.{inside, marked}
use Rattle.c_taken.specs.Walks.{var_walked, vars_walked, tests_marked, walked, all_walked, taken_names}
use Rattle.c_taken.specs.Free.{free_in_vars, free_in_all, free_in_decls}

-- ---- names of the file scope

-- Marked are exactly the names that are free in the file, whatever it declares.
abbrev pub OuterNamesAreFree : Type 0
OuterNamesAreFree = (decls : d.Program) (x : List ℕ) → is_free (taken_names decls) x ≡ not (is_among (free_in_decls decls) x)

-- ---- declarations on the way

-- Something is so at each declaration that the walk meets, of the name and of what is marked before it.
abbrev pub VarsMeet : (List ℕ → Marks → Type 0) → List e.VarDecl → Marks → Type 0
VarsMeet P [] m = Unit {0}
VarsMeet P (v ∷ vs) m = P v.name (marked (type_addressed v.ty) m) × VarsMeet P vs (var_walked v m)

abbrev mutual
  pub Meets : (List ℕ → Marks → Type 0) → s.Stmt → Marks → Type 0
  Meets P (s.empty line) m = Unit {0}
  Meets P (s.expr line a) m = Unit {0}
  Meets P (s.block line body) m = AllMeet P body (inside m)
  Meets P (s.locals line vars) m = VarsMeet P vars m
  Meets P (s.if_only line test a) m = Meets P a (marked (addressed test) m)
  Meets P (s.if_else line test a b) m = Meets P a (marked (addressed test) m) × Meets P b (walked a (marked (addressed test) m))
  Meets P (s.while_of line annot test a) m = Meets P a (marked (addressed test) (marked (loop_addressed annot) m))
  Meets P (s.do_of line annot a test) m = Meets P a (marked (loop_addressed annot) m)
  Meets P (s.for_of line annot first test next a) m = Meets P first (inside m) × Meets P a (tests_marked annot test next (walked first (inside m)))
  Meets P (s.switch line a body) m = AllMeet P body (inside (marked (addressed a) m))
  Meets P (s.case_of line value) m = Unit {0}
  Meets P (s.default line) m = Unit {0}
  Meets P (s.break line) m = Unit {0}
  Meets P (s.continue line) m = Unit {0}
  Meets P (s.return_of line value) m = Unit {0}
  Meets P (s.assert line a) m = Unit {0}

  pub AllMeet : (List ℕ → Marks → Type 0) → s.Stmts → Marks → Type 0
  AllMeet P s.stop m = Unit {0}
  AllMeet P (s.more a rest) m = Meets P a m × AllMeet P rest (walked a m)

-- a name is new in its block, as it has to be (C11 6.7p3)
abbrev pub IsNew : List ℕ → Marks → Type 0
IsNew x m = is_free (innermost m.scopes) x ≡ true

-- ---- locals

-- every number in scope is that of a flag
abbrev pub NumbersAreBelow : Marks → Type 0
NumbersAreBelow m = (x : List ℕ) (n : ℕ) → meaning_in m.scopes x ≡ Some n → n < length m.taken

-- The flag of a local is set exactly where its name is free in its initialiser and in what follows in its block: other declarations, names that are
-- marked at once (those of the contract, behind the parameters), and statements.
abbrev pub FlagsAreFreeNames : Type 0
FlagsAreFreeNames = (m : Marks) (v : e.VarDecl) (vs : List e.VarDecl) (noted : Names) (body : s.Stmts)
    → NumbersAreBelow m → VarsMeet IsNew (v ∷ vs) m → AllMeet IsNew body (marked noted (vars_walked (v ∷ vs) m))
    → slice_get (all_walked body (marked noted (vars_walked (v ∷ vs) m))).taken (length m.taken)
    ≡ Some (is_among (option_addressed v.init ++ free_in_vars vs (noted ++ free_in_all body [])) v.name)

-- Numbers in scope stay those of flags; and a local that no name in scope means keeps its flag, so what is marked when its block ends is marked at
-- the end.
pub record StaysMarked (a : s.Stmt) (m : Marks) : Type 0 where
  pub below : Meets IsNew a m → NumbersAreBelow m → NumbersAreBelow (walked a m)
  pub stays : Meets IsNew a m → (n : ℕ) → n < length m.taken → ((x : List ℕ) → meaning_in m.scopes x ≢ Some n)
      → slice_get (walked a m).taken n ≡ slice_get m.taken n

abbrev pub MarksStayInScope : Type 0
MarksStayInScope = (a : s.Stmt) (m : Marks) → StaysMarked a m
