-- What is so of each full expression by what is in scope there is so of each in a body, as it stands in the program.
use Rattle.std.proofs.Common.{◌≡◌, ℕ, ℤ, Bool, true, false, List, [], map, Option, Some, None, refl, sym, ap, ◌∙◌, subst, arith, inl, inr}
use Rattle.std.specs.Prelude.{nat_lt}
use Rattle.std.proofs.lemmas.Bool.{false≢true}
use Rattle.wp_base.specs.declared.kinds.Kind.{Kind}
use Rattle.c_syntax.specs.Expr as e
use Rattle.c_syntax.specs.Stmt as spelled
use Rattle.typed_prog.specs.Tree as t
use Rattle.c_variables.specs.declared.context.Context.{Context}
use Rattle.c_stmts.specs.Locals.{with_variable, count_of, initialising}
use Rattle.c_stmts.specs.Statements.{turns_with}
use Rattle.typed_unit.specs.Stmt as unit
use Rattle.acsl_notes.specs.Notes.{Note}
use Rattle.c_typed_stmts.specs.Full.{IsFull, IsTest, IsAssigned, IfThere}
use Rattle.c_typed_stmts.specs.Judgement as j
use Rattle.c_typed_stmts.specs.Judgement.{IsLocal, AreLocals, IsReturned, IsTyped, AreTyped, AreLabelled}
use Rattle.c_typed_files.specs.Functions as body_of
use Rattle.c_typed_files.specs.Functions.{IsBody}
use Rattle.c_runs.specs.Program.{loop, Stmts, stop}
use Rattle.plain_programs.specs.Told.{one, whole, initials, initial_of, number_of, declared_by, variables_in, clauses_at, placed, all_placed, behind, loop_with}
use Rattle.goal_segments.specs.Told.{with_names}
use Rattle.plain_normal.specs.Plain.{up_to}
use Rattle.plain_files.specs.Blocks.{is_declaration, Nests, AllNest, NoneDeclares}
use Rattle.plain_files.proofs.Scoping.{both, below, In, in_first, in_second, added, added_own}
use Rattle.plain_files.proofs.Contexts.{counted, InScope, scope_entered, scope_with, stmt_scope}
use Rattle.typed_runs.specs.Fitting.{InScope as Scope}
use Rattle.kinded_programs.specs.Nodes.{IfValue, AllValues}
use Rattle.kinded_files.proofs.Nodes.{then_values, whole_values}

-- in a loop what is declared before it is in scope
scope_up_to : (c : Context) (g : ℕ → Bool) (n : ℕ) → n ≡ count_of c → InScope c g → InScope c (up_to n g)
scope_up_to c g n e h = record {
  named = λ x k is. let r = h.named x k is in (both (nat_lt k n) (g k) (below k n (omega (arith, r.1, e))) r.0, r.1);
  of_file = h.of_file;
}

scope_initialising : (c : Context) (g : ℕ → Bool) (which : Option ℕ) → InScope c g → InScope (initialising c which) g
scope_initialising c g which h = record { named = h.named; of_file = h.of_file }

abbrev Own : List ℕ → (ℕ → Bool) → Type 0
Own ys g = (z : ℕ) → In z ys → g z ≡ true

-- a statement that is no declaration declares nothing in its block
none_declared : {c : Context} {x : spelled.Stmt} {y : unit.Stmt} {b : Context} → IsTyped c x y b → is_declaration x ≡ false → declared_by y ≡ []
none_declared (j.empty c line) h = refl
none_declared (j.expr c line a v is) h = refl
none_declared (j.block c b line xs ys are) h = refl
none_declared (j.locals c b line ds rs are) h = absurd (false≢true (sym h))
none_declared (j.if_only c b line test v x y is so) h = refl
none_declared (j.if_else c next b line test v x x' y y' is so so') h = refl
none_declared (j.while_loop c b line annot test v x y is so) h = refl
none_declared (j.do_loop c b line annot test v x y so is) h = refl
none_declared (j.for_loop c next b line annot first body test step y z v w so is is' so') h = refl
none_declared (j.switch c b line a v xs ys is are) h = refl
none_declared (j.break c line) h = refl
none_declared (j.continue c line) h = refl
none_declared (j.return_of c line a v is) h = refl
none_declared (j.assert c line q) h = refl

own_none : {c : Context} {x : spelled.Stmt} {y : unit.Stmt} {b : Context} → IsTyped c x y b → is_declaration x ≡ false → (g : ℕ → Bool) → Own (declared_by y) g
own_none {y = y} is none g z i = absurd (subst (In z) (none_declared is none) i)

module _ (Q : Scope → t.Value → Type 0) (full_is : (c : Context) (g : ℕ → Bool) → InScope c g → (a : e.Expr) (v : t.Value) → IsFull c a v → Q g v) where
  abbrev Values : Scope → Stmts → Type 0
  Values g ss = AllValues Q g ss

  test_is : (c : Context) (g : ℕ → Bool) → InScope c g → (a : Option e.Expr) (v : Option t.Value) → IfThere (IsTest c) a v → IfValue Q g v
  test_is c g h None None is = tt
  test_is c g h (Some a) (Some v) is = full_is c g h a v is.full
  test_is c g h None (Some v) is = elim is [ ]
  test_is c g h (Some a) None is = elim is [ ]

  step_is : (c : Context) (g : ℕ → Bool) → InScope c g → (a : Option e.Expr) (v : Option t.Value) → IfThere (IsFull c) a v → IfValue Q g v
  step_is c g h None None is = tt
  step_is c g h (Some a) (Some v) is = full_is c g h a v is
  step_is c g h None (Some v) is = elim is [ ]
  step_is c g h (Some a) None is = elim is [ ]

  returned_is : (c : Context) (g : ℕ → Bool) → InScope c g → {a : Option e.Expr} {v : Option t.Value} → IsReturned c a v → IfValue Q g v
  returned_is c g h (j.without void) = tt
  returned_is c g h (j.with_value a v not_void is) = full_is c g h a v is.full

  -- ---- declarations

  initial_is : (c : Context) (d : e.VarDecl) (b : Context) (r : unit.Declared) (h : IsLocal c d r b) → (g : ℕ → Bool) → InScope (with_variable c d h.is) g → (a : Option e.Expr) (v : Option t.Value)
      → IfThere (IsAssigned (initialising (with_variable c d h.is) (Some r.local)) h.is.ty) a v → Values g (initial_of r.local r.line v)
  initial_is c d b r h g in_scope None None is = tt
  initial_is c d b r h g in_scope (Some a) None is = elim is [ ]
  initial_is c d b r h g in_scope None (Some v) is = elim is [ ]
  initial_is c d b r h g in_scope (Some a) (Some v) is =
      (full_is (initialising (with_variable c d h.is) (Some r.local)) g (scope_initialising (with_variable c d h.is) g (Some r.local) in_scope) a v is.full, tt)

  locals_are : {c : Context} {ds : List e.VarDecl} {rs : List unit.Declared} {b : Context} → AreLocals c ds rs b → (g : ℕ → Bool) → InScope c g → Own (map number_of rs) g → Values g (initials rs)
  locals_are (j.no_local c) g h own = tt
  locals_are (j.one_local c next b d r ds rs is are) g h own =
      let own_here : g (count_of c) ≡ true = ap g (sym is.number) ∙ own r.local (inl refl) in
      let within = scope_with c d is.is g h is.new own_here in
      then_values Q g (initial_of r.local r.line r.init) (initials rs) (initial_is c d next r is g within d.init r.init is.init)
      (locals_are are g (subst (λ k. InScope k g) (sym is.declares) (scope_initialising (with_variable c d is.is) g None within)) (λ z i. own z (inr i)))

  -- ---- statements

  mutual
    stmt_is : {c : Context} {x : spelled.Stmt} {y : unit.Stmt} {b : Context} → IsTyped c x y b → Nests x → (g : ℕ → Bool) → InScope c g → Own (declared_by y) g → (ns : List Note) (n : ℕ)
        → n ≡ count_of c → Values g (placed y ns n).stmts
    stmt_is (j.empty c line) nests g h own ns n e = tt
    stmt_is (j.expr c line a v is) nests g h own ns n e = (full_is c g h a v is, tt)
    stmt_is (j.block c b line xs ys are) nests g h own ns n e =
        let zs = variables_in ys in
        (stmts_are are nests (with_names zs g) (scope_entered c g (with_names zs g) h (λ z k. added zs g z k)) (λ z i. added_own zs g z i) ns n e, tt)
    stmt_is (j.locals c b line ds rs are) nests g h own ns n e = locals_are are g h own
    stmt_is (j.if_only c b line test v x y is so) nests g h own ns n e =
        ((full_is c g h test v is.full, whole_values Q g (placed y ns n).stmts (stmt_is so nests.1 g h (own_none so nests.0 g) ns n e), tt), tt)
    stmt_is (j.if_else c next b line test v x x' y y' is so so') nests g h own ns n e =
        let first = placed y ns n in
        let first_own = own_none so nests.0 g in (
          (
            full_is c g h test v is.full,
            whole_values Q g first.stmts (stmt_is so nests.1 g h first_own ns n e),
            whole_values Q g (placed y' first.notes first.declared).stmts
                (stmt_is so' nests.3 g (stmt_scope so nests.1 g h first_own) (own_none so' nests.2 g) first.notes first.declared (counted so ns n e)),
          ),
          tt,
        )
    stmt_is (j.while_loop c b line annot test v x y is so) nests g h own ns n e =
        let h' = scope_up_to c g n e h in
        ((full_is c (up_to n g) h' test v is.full, whole_values Q (up_to n g) (placed y (behind ns) n).stmts (stmt_is so nests.1 (up_to n g) h' (own_none so nests.0 (up_to n g)) (behind ns) n e), tt, tt), tt)
    stmt_is (j.do_loop c b line annot test v x y so is) nests g h own ns n e =
        let h' = scope_up_to c g n e h in
        let none = own_none so nests.0 (up_to n g) in (
          (
            tt,
            whole_values Q (up_to n g) (placed y (behind ns) n).stmts (stmt_is so nests.1 (up_to n g) h' none (behind ns) n e),
            tt,
            full_is b (up_to n g) (stmt_scope so nests.1 (up_to n g) h' none) test v is.full,
          ),
          tt,
        )
    stmt_is (j.for_loop c next b line annot first body test step y z v w so is is' so') nests g h own ns n e =
        let again = unit.loop_of line annot (turns_with v None w) z in
        let zs = variables_in (unit.more y (unit.more again unit.stop)) in
        let first_placed = placed y ns n in
        let k = first_placed.declared in
        let l = loop_with k (clauses_at first_placed.notes) in
        let xs = (placed z (behind first_placed.notes) k).stmts in
        let g' = with_names zs g in
        let at_next = counted so ns n e in
        let own_first : Own (declared_by y) g' = λ i m. added_own zs g i (in_first i (declared_by y) [] m) in
        let inside = scope_entered c g g' h (λ i m. added zs g i m) in
        let next_scope = stmt_scope so nests.0 g' inside own_first in
        let in_loop = scope_up_to next g' k at_next next_scope in (
          then_values Q g' first_placed.stmts (one (loop l v (whole xs) w None)) (stmt_is so nests.0 g' inside own_first ns n e) (
            (
              test_is next (up_to k g') in_loop test v is,
              whole_values Q (up_to k g') xs (stmt_is so' nests.2 (up_to k g') in_loop (own_none so' nests.1 (up_to k g')) (behind first_placed.notes) k at_next),
              step_is next (up_to k g') in_loop step w is',
              tt,
            ),
            tt,
          ),
          tt,
        )
    stmt_is (j.switch c b line a v xs ys is are) nests g h own ns n e =
        ((full_is c g h a v is.full, labelled_are are nests g (scope_entered c g g h (λ z k. k)) ns n e), tt)
    stmt_is (j.break c line) nests g h own ns n e = (tt, tt)
    stmt_is (j.continue c line) nests g h own ns n e = (tt, tt)
    stmt_is (j.return_of c line a v is) nests g h own ns n e = (returned_is c g h is, tt)
    stmt_is (j.assert c line q) nests g h own ns n e = (tt, tt)

    stmts_are : {c : Context} {xs : spelled.Stmts} {ys : unit.Stmts} {b : Context} → AreTyped c xs ys b → AllNest xs → (g : ℕ → Bool) → InScope c g → Own (variables_in ys) g → (ns : List Note) (n : ℕ)
        → n ≡ count_of c → Values g (all_placed ys ns n).stmts
    stmts_are (j.no_stmt c) nests g h own ns n e = tt
    stmts_are (j.one_stmt c next b x y xs ys is are) nests g h own ns n e =
        let first = placed y ns n in
        let own_first : Own (declared_by y) g = λ z i. own z (in_first z (declared_by y) (variables_in ys) i) in
        then_values Q g first.stmts (all_placed ys first.notes first.declared).stmts (stmt_is is nests.0 g h own_first ns n e)
        (stmts_are are nests.1 g (stmt_scope is nests.0 g h own_first) (λ z i. own z (in_second z (declared_by y) (variables_in ys) i)) first.notes first.declared (counted is ns n e))

    labelled_are : {k : Option Kind} {zs : List ℤ} {c : Context} {xs : spelled.Stmts} {ys : unit.Stmts} {b : Context} → AreLabelled k zs c xs ys b → NoneDeclares xs → (g : ℕ → Bool) → InScope c g
        → (ns : List Note) (n : ℕ) → n ≡ count_of c → Values g (all_placed ys ns n).stmts
    labelled_are (j.no_item k zs c) nests g h ns n e = tt
    labelled_are (j.label k zs c b line a z xs ys is new are) nests g h ns n e = (tt, labelled_are are nests.2 g h ns n e)
    labelled_are (j.default k zs c b line xs ys are) nests g h ns n e = (tt, labelled_are are nests.2 g h ns n e)
    labelled_are (j.one_item k zs c next b x y xs ys is are) nests g h ns n e =
        let first = placed y ns n in
        let none = own_none is nests.0 g in
        then_values Q g first.stmts (all_placed ys first.notes first.declared).stmts (stmt_is is nests.1 g h none ns n e)
        (labelled_are are nests.2 g (stmt_scope is nests.1 g h none) first.notes first.declared (counted is ns n e))

  -- the outermost block of a body is that of the parameters
  pub body_is : {c : Context} {x : spelled.Stmt} {y : unit.Stmt} {b : Context} → IsBody c x y b → Nests x → is_declaration x ≡ false → (g : ℕ → Bool) → InScope c g → (ns : List Note) (n : ℕ)
      → n ≡ count_of c → Values g (placed y ns n).stmts
  body_is (body_of.block c b line xs ys are) nests none g h ns n e =
      let zs = variables_in ys in (
        stmts_are are nests (with_names zs g) (record { named = λ x k is. let r = h.named x k is in (added zs g k r.0, r.1); of_file = h.of_file }) (λ z i. added_own zs g z i) ns n e,
        tt,
      )
  body_is (body_of.other c b x y is) nests none g h ns n e = stmt_is is nests g h (own_none is none g) ns n e
