-- By induction on the statement that is typed.
use Rattle.std.proofs.Common.{◌≡◌, ℕ, ℤ, Bool, true, false, if◌then◌else◌, List, [], ◌∷◌, ◌++◌, Option, Some, None, Ok, Err, refl, sym, ap, subst, ◌∙◌}
use Rattle.wp_base.specs.declared.kinds.Kind.{Kind}
use Rattle.c_syntax.specs.Expr as e
use Rattle.c_syntax.specs.Contract.{LoopAnnot}
use Rattle.c_syntax.specs.Stmt as p
use Rattle.wp_base.specs.declared.kinds.Layout.{Layout}
use Rattle.c_answers.specs.Answers.{Answer, after, wrong}
use Rattle.typed_prog.specs.declared.types.CoreType.{CoreType}
use Rattle.typed_prog.specs.Types.{is_void}
use Rattle.typed_prog.specs.Tree as t
use Rattle.c_operands.specs.Conversions.{kind_of_value}
use Rattle.c_contexts.specs.Contexts.{case_number, initialiser}
use Rattle.c_scopes.specs.declared.symbols.Resolved.{Resolved}
use Rattle.c_scopes.specs.Declarations.{is_free_here}
use Rattle.c_scopes.specs.Extents.{extent}
use Rattle.c_variables.specs.declared.context.Context.{Context}
use Rattle.c_variables.specs.Contexts.{around_of, plain_in}
use Rattle.c_variables.specs.Variables.{variable}
use Rattle.typed_unit.specs.Stmt as s
use Rattle.c_stmts.specs.Locals.{local_type, with_variable, count_of, initialising, initial_value, initialised, made_local, local, locals}
use Rattle.c_stmts.specs.Cases.{is_among, with_case}
use Rattle.c_stmts.specs.Statements.{entered, left, test_of, value_of, switched_value, test_if, step_if, return_by, return_value, turns_with, turns_before, turns_behind, turns_of, in_for, loop_by, for_by, number_for, Item, item_with, label, item, stmt, stmts, labelled}
use Rattle.c_well_typed.proofs.Fitting.{Holds, after_holds}
use Rattle.c_typed_stmts.specs.Full.{IsFull, IsTest, IsAssigned, IsSwitched, IfThere}
use Rattle.c_typed_stmts.specs.Judgement as j
use Rattle.c_typed_stmts.specs.Judgement.{IsLocal, AreLocals, IsReturned, IsTyped, AreTyped, AreLabelled}
use Rattle.c_typed_stmts.specs.Law.{TypedStatementsAreInOrder}
use Rattle.c_typed_stmts.proofs.Names.{new_variable}
use Rattle.c_typed_stmts.proofs.Values.{after_this, this, tested, done, initialised_by, returned_by, switched_over}

-- ---- expressions that may be left out

test_there : (c : Context) (a : Option e.Expr) → Holds (IfThere (IsTest c) a) (test_if c a)
unfolding test_of
test_there c None = tt
test_there c (Some a) = after_holds (IsTest c a) (IfThere (IsTest c) (Some a)) (test_of c a) (λ v. Ok (Some v)) (tested c a) (λ v is. is)

step_there : (c : Context) (a : Option e.Expr) → Holds (IfThere (IsFull c) a) (step_if c a)
unfolding value_of
step_there c None = tt
step_there c (Some a) = after_holds (IsFull c a) (IfThere (IsFull c) (Some a)) (value_of c a) (λ v. Ok (Some v)) (done c a) (λ v is. is)

init_there : (c : Context) (type : CoreType) (a : Option e.Expr) → Holds (IfThere (IsAssigned c type) a) (initial_value c type a)
init_there c type None = tt
init_there c type (Some a) =
    after_holds (IsAssigned c type a) (IfThere (IsAssigned c type) (Some a)) (initialiser (around_of c) (plain_in c) type a) (λ v. Ok (Some v)) (initialised_by c type a) (λ v is. is)

-- what a loop evaluates beside its body
record Before (c : Context) (a : e.Expr) (r : s.Turns) : Type 0 where
  test : t.Value
  is : IsTest c a test
  made : r ≡ turns_with (Some test) None None

before_there : (c : Context) (a : e.Expr) → Holds (Before c a) (turns_before c a)
unfolding test_of
before_there c a = after_holds (IsTest c a) (Before c a) (test_of c a) _ (tested c a) (λ v is. record { test = v; is = is; made = refl })

record Behind (c : Context) (a : e.Expr) (r : s.Turns) : Type 0 where
  test : t.Value
  is : IsTest c a test
  made : r ≡ turns_with None (Some test) None

behind_there : (c : Context) (a : e.Expr) → Holds (Behind c a) (turns_behind c a)
unfolding test_of
behind_there c a = after_holds (IsTest c a) (Behind c a) (test_of c a) _ (tested c a) (λ v is. record { test = v; is = is; made = refl })

record Around (c : Context) (a b : Option e.Expr) (r : s.Turns) : Type 0 where
  test : Option t.Value
  step : Option t.Value
  is : IfThere (IsTest c) a test
  so : IfThere (IsFull c) b step
  made : r ≡ turns_with test None step

around_there : (c : Context) (a b : Option e.Expr) → Holds (Around c a b) (turns_of c a b)
around_there c a b =
    after_holds (IfThere (IsTest c) a) (Around c a b) (test_if c a) _ (test_there c a) (λ v is.
    after_holds (IfThere (IsFull c) b) (Around c a b) (step_if c b) _ (step_there c b) (λ w so. record { test = v; step = w; is = is; so = so; made = refl }))

returned_there : (c : Context) (line : ℕ) (a : Option e.Expr) → Holds (IsReturned c a) (return_value c line a)
unfolding return_value
returned_there c line a = by a (is_void c.result) refl
  where
    by : (a : Option e.Expr) (b : Bool) → is_void c.result ≡ b → Holds (IsReturned c a) (return_by c line b a)
    by None true is = j.without is
    by (Some a) true is = tt
    by None false is = tt
    by (Some a) false is = after_holds (IsAssigned c c.result a) (IsReturned c (Some a)) _ (λ v. Ok (Some v)) (returned_by c line c.result a) (λ v made. j.with_value a v is made)

-- ---- locals

-- the type of a local, and its layout
record TypeOf (c : Context) (d : e.VarDecl) (r : Resolved) : Type 0 where
  layout : Layout
  new : is_free_here c.scope.local d.name ≡ true
  means : variable (around_of c) true d.line d.ty ≡ Ok r
  held : extent c.scope.file.structs d.line r ≡ Ok layout

typed_local : (c : Context) (d : e.VarDecl) → Holds (TypeOf c d) (local_type c d)
typed_local c d = by (variable (around_of c) (is_free_here c.scope.local d.name) d.line d.ty) refl
  where
    held_by : (r : Resolved) → is_free_here c.scope.local d.name ≡ true → variable (around_of c) true d.line d.ty ≡ Ok r → (o : Answer Layout) → extent c.scope.file.structs d.line r ≡ o
        → Holds (TypeOf c d) (after o (λ layout. Ok r))
    held_by r new is (Ok layout) held = record { layout = layout; new = new; means = is; held = held }
    held_by r new is (Err q) held = tt

    by : (o : Answer Resolved) → variable (around_of c) (is_free_here c.scope.local d.name) d.line d.ty ≡ o
        → Holds (TypeOf c d) (after o (λ t. after (extent c.scope.file.structs d.line t) (λ layout. Ok t)))
    by (Ok r) is =
        let new = new_variable (around_of c) (is_free_here c.scope.local d.name) d.line d.ty r is in
        held_by r new (subst (λ b. variable (around_of c) b d.line d.ty ≡ Ok r) new is) (extent c.scope.file.structs d.line r) refl
    by (Err q) is = tt

a_local : (c : Context) (d : e.VarDecl) → Holds (λ r. IsLocal c d r.0 r.1) (local c d)
unfolding local initialised
a_local c d = after_holds (TypeOf c d) (λ r. IsLocal c d r.0 r.1) (local_type c d) _ (typed_local c d) (λ r is.
    let inner = initialising (with_variable c d r) (Some (count_of c)) in
    after_holds (IfThere (IsAssigned inner r.ty) d.init) (λ q. IsLocal c d q.0 q.1) (initial_value inner r.ty d.init) _ (init_there inner r.ty d.init) (λ init made.
    record { is = r; layout = is.layout; new = is.new; means = is.means; held = is.held; number = refl; init = made; line = refl; declares = refl }))

all_locals : (c : Context) (ds : List e.VarDecl) → Holds (λ r. AreLocals c ds r.0 r.1) (locals c ds)
all_locals c [] = j.no_local c
all_locals c (d ∷ ds) =
    after_holds (λ r. IsLocal c d r.0 r.1) (λ r. AreLocals c (d ∷ ds) r.0 r.1) (local c d) _ (a_local c d) (λ r is.
    after_holds (λ q. AreLocals r.1 ds q.0 q.1) (λ q. AreLocals c (d ∷ ds) q.0 q.1) (locals r.1 ds) _ (all_locals r.1 ds) (λ q are.
    j.one_local c r.1 q.1 d r.0 ds q.0 is are))

-- ---- labels

-- the first item of the body of a `switch`, whatever follows it
abbrev Begins : Option Kind → List ℤ → Context → p.Stmt → Item → Type 0
Begins k zs c x i = (xs : p.Stmts) (ys : s.Stmts) (behind : Context) → AreLabelled k i.numbers i.context xs ys behind → AreLabelled k zs c (p.more x xs) (s.more i.stmt ys) behind

a_label : (k : Option Kind) (zs : List ℤ) (c : Context) (line : ℕ) (a : e.Expr) → Holds (Begins k zs c (p.case_of line a)) (label k zs c line a)
unfolding label
a_label None zs c line a = tt
a_label (Some k) zs c line a = by (case_number (around_of c) k a) refl
  where
    differs : (z : ℤ) (b : Bool) → case_number (around_of c) k a ≡ Ok z → is_among z zs ≡ b
        → Holds (Begins (Some k) zs c (p.case_of line a)) (after (if b then wrong line else Ok (zs ++ z ∷ [])) (λ ws. Ok (item_with (s.case_of line z) ws c)))
    differs z true is among = tt
    differs z false is among = λ xs ys behind rest. j.label k zs c behind line a z xs ys is among rest

    by : (o : Answer ℤ) → case_number (around_of c) k a ≡ o
        → Holds (Begins (Some k) zs c (p.case_of line a)) (after o (λ z. after (with_case line zs z) (λ ws. Ok (item_with (s.case_of line z) ws c))))
    by (Ok z) is = differs z (is_among z zs) is refl
    by (Err r) is = tt

other_item : (k : Option Kind) (zs : List ℤ) (c : Context) (x : p.Stmt) (o : Answer (s.Stmt × Context)) → Holds (λ r. IsTyped c x r.0 r.1) o
    → Holds (Begins k zs c x) (after o (λ r. Ok (item_with r.0 zs r.1)))
other_item k zs c x (Ok r) is = λ xs ys behind rest. j.one_item k zs c r.1 behind x r.0 xs ys is rest
other_item k zs c x (Err r) is = tt

an_item : (k : Option Kind) (zs : List ℤ) (c : Context) (x : p.Stmt) (o : Answer (s.Stmt × Context)) → Holds (λ r. IsTyped c x r.0 r.1) o → Holds (Begins k zs c x) (item k zs c x o)
an_item k zs c (p.case_of line a) o is = a_label k zs c line a
an_item k zs c (p.default line) o is = λ xs ys behind rest. j.default k zs c behind line xs ys rest
an_item k zs c (p.empty line) o is = other_item k zs c (p.empty line) o is
an_item k zs c (p.expr line a) o is = other_item k zs c (p.expr line a) o is
an_item k zs c (p.block line xs) o is = other_item k zs c (p.block line xs) o is
an_item k zs c (p.locals line ds) o is = other_item k zs c (p.locals line ds) o is
an_item k zs c (p.if_only line a x) o is = other_item k zs c (p.if_only line a x) o is
an_item k zs c (p.if_else line a x y) o is = other_item k zs c (p.if_else line a x y) o is
an_item k zs c (p.while_of line annot a x) o is = other_item k zs c (p.while_of line annot a x) o is
an_item k zs c (p.do_of line annot x a) o is = other_item k zs c (p.do_of line annot x a) o is
an_item k zs c (p.for_of line annot x a b y) o is = other_item k zs c (p.for_of line annot x a b y) o is
an_item k zs c (p.switch line a xs) o is = other_item k zs c (p.switch line a xs) o is
an_item k zs c (p.break line) o is = other_item k zs c (p.break line) o is
an_item k zs c (p.continue line) o is = other_item k zs c (p.continue line) o is
an_item k zs c (p.return_of line a) o is = other_item k zs c (p.return_of line a) o is
an_item k zs c (p.assert line q) o is = other_item k zs c (p.assert line q) o is

-- ---- statements

abbrev Typed : Context → p.Stmt → s.Stmt × Context → Type 0
Typed c x r = IsTyped c x r.0 r.1

a_test : (c : Context) (a : e.Expr) → Holds (IsTest c a) (test_of c a)
unfolding test_of
a_test c a = tested c a

a_value : (c : Context) (a : e.Expr) → Holds (IsFull c a) (value_of c a)
unfolding value_of
a_value c a = done c a

a_switch : (c : Context) (a : e.Expr) → Holds (IsSwitched c a) (switched_value c a)
unfolding switched_value
a_switch c a = switched_over c a

-- the loop of a `for` behind what comes first in it
looped : (c : Context) (line : ℕ) (annot : LoopAnnot) (first : p.Stmt) (test next : Option e.Expr) (body : p.Stmt) (r : s.Stmt × Context) → IsTyped (entered c) first r.0 r.1
    → (o : Answer s.Turns) → Holds (Around r.1 test next) o → (q : Answer (s.Stmt × Context)) → Holds (Typed r.1 body) q
    → Holds (Typed c (p.for_of line annot first test next body)) (for_by line r.0 (after o (λ turns. loop_by line annot turns q)))
looped c line annot first test next body r so (Ok turns) of (Ok q) on =
    subst (λ u. IsTyped c (p.for_of line annot first test next body) (in_for line r.0 (s.loop_of line annot u q.0)) (left q.1)) (sym of.made)
    (j.for_loop c r.1 q.1 line annot first body test next r.0 q.0 of.test of.step so of.is of.so on)
looped c line annot first test next body r so (Ok turns) of (Err f) on = tt
looped c line annot first test next body r so (Err f) of q on = tt

mutual
  pub a_stmt : (c : Context) (x : p.Stmt) → Holds (Typed c x) (stmt c x)
  a_stmt c (p.empty line) = j.empty c line
  a_stmt c (p.expr line a) = after_holds (IsFull c a) (Typed c (p.expr line a)) (value_of c a) _ (a_value c a) (λ v is. j.expr c line a v is)
  a_stmt c (p.block line xs) =
      after_holds (λ r. AreTyped (entered c) xs r.0 r.1) (Typed c (p.block line xs)) (stmts (entered c) xs) _ (all_stmts (entered c) xs) (λ r are. j.block c r.1 line xs r.0 are)
  a_stmt c (p.locals line ds) =
      after_holds (λ r. AreLocals c ds r.0 r.1) (Typed c (p.locals line ds)) (locals c ds) _ (all_locals c ds) (λ r are. j.locals c r.1 line ds r.0 are)
  a_stmt c (p.if_only line test x) =
      after_holds (IsTest c test) (Typed c (p.if_only line test x)) (test_of c test) _ (a_test c test) (λ v is.
      after_holds (Typed c x) (Typed c (p.if_only line test x)) (stmt c x) _ (a_stmt c x) (λ r of. j.if_only c r.1 line test v x r.0 is of))
  a_stmt c (p.if_else line test x y) =
      after_holds (IsTest c test) (Typed c (p.if_else line test x y)) (test_of c test) _ (a_test c test) (λ v is.
      after_holds (Typed c x) (Typed c (p.if_else line test x y)) (stmt c x) _ (a_stmt c x) (λ r of.
      after_holds (Typed r.1 y) (Typed c (p.if_else line test x y)) (stmt r.1 y) _ (a_stmt r.1 y) (λ q of'. j.if_else c r.1 q.1 line test v x y r.0 q.0 is of of')))
  a_stmt c (p.while_of line annot test x) =
      after_holds (Before c test) (Typed c (p.while_of line annot test x)) (turns_before c test) _ (before_there c test) (λ turns of.
      after_holds (Typed c x) (Typed c (p.while_of line annot test x)) (stmt c x) _ (a_stmt c x) (λ r so.
      subst (λ u. IsTyped c (p.while_of line annot test x) (s.loop_of line annot u r.0) r.1) (sym of.made) (j.while_loop c r.1 line annot test of.test x r.0 of.is so)))
  a_stmt c (p.do_of line annot x test) =
      after_holds (Typed c x) (Typed c (p.do_of line annot x test)) (stmt c x) _ (a_stmt c x) (λ r so.
      after_holds (Behind r.1 test) (Typed c (p.do_of line annot x test)) (turns_behind r.1 test) _ (behind_there r.1 test) (λ turns of.
      subst (λ u. IsTyped c (p.do_of line annot x test) (s.loop_of line annot u r.0) r.1) (sym of.made) (j.do_loop c r.1 line annot test of.test x r.0 so of.is)))
  a_stmt c (p.for_of line annot first test next body) =
      after_holds (Typed (entered c) first) (Typed c (p.for_of line annot first test next body)) (stmt (entered c) first) _ (a_stmt (entered c) first) (λ r so.
      looped c line annot first test next body r so (turns_of r.1 test next) (around_there r.1 test next) (stmt r.1 body) (a_stmt r.1 body))
  a_stmt c (p.switch line a xs) =
      after_holds (IsSwitched c a) (Typed c (p.switch line a xs)) (switched_value c a) _ (a_switch c a) (λ v is.
      after_holds (λ r. AreLabelled (kind_of_value v) [] (entered c) xs r.0 r.1) (Typed c (p.switch line a xs)) (labelled (kind_of_value v) [] (entered c) xs) _
      (all_labelled (kind_of_value v) [] (entered c) xs) (λ r are. j.switch c r.1 line a v xs r.0 is are))
  a_stmt c (p.case_of line a) = tt
  a_stmt c (p.default line) = tt
  a_stmt c (p.break line) = j.break c line
  a_stmt c (p.continue line) = j.continue c line
  a_stmt c (p.return_of line a) =
      after_holds (IsReturned c a) (Typed c (p.return_of line a)) (return_value c line a) _ (returned_there c line a) (λ v is. j.return_of c line a v is)
  a_stmt c (p.assert line q) = j.assert c line q

  pub all_stmts : (c : Context) (xs : p.Stmts) → Holds (λ r. AreTyped c xs r.0 r.1) (stmts c xs)
  all_stmts c p.stop = j.no_stmt c
  all_stmts c (p.more x xs) =
      after_holds (Typed c x) (λ r. AreTyped c (p.more x xs) r.0 r.1) (stmt c x) _ (a_stmt c x) (λ r is.
      after_holds (λ q. AreTyped r.1 xs q.0 q.1) (λ q. AreTyped c (p.more x xs) q.0 q.1) (stmts r.1 xs) _ (all_stmts r.1 xs) (λ q are. j.one_stmt c r.1 q.1 x r.0 xs q.0 is are))

  all_labelled : (k : Option Kind) (zs : List ℤ) (c : Context) (xs : p.Stmts) → Holds (λ r. AreLabelled k zs c xs r.0 r.1) (labelled k zs c xs)
  all_labelled k zs c p.stop = j.no_item k zs c
  all_labelled k zs c (p.more x xs) =
      after_holds (Begins k zs c x) (λ r. AreLabelled k zs c (p.more x xs) r.0 r.1) (item k zs c x (stmt c x)) _ (an_item k zs c x (stmt c x) (a_stmt c x)) (λ i begins.
      after_holds (λ q. AreLabelled k i.numbers i.context xs q.0 q.1) (λ q. AreLabelled k zs c (p.more x xs) q.0 q.1) (labelled k i.numbers i.context xs) _
      (all_labelled k i.numbers i.context xs) (λ q are. begins xs q.0 q.1 are))

pub typed_statements_are_in_order : TypedStatementsAreInOrder
typed_statements_are_in_order c x y behind is = this (Typed c x) (stmt c x) (y, behind) (a_stmt c x) is
