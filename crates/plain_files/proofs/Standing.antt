-- In the program typed statements use and declare variables in their scopes.
use Rattle.std.proofs.Common.{◌≡◌, ℕ, ℤ, ◌<◌, ◌≤◌, Bool, true, false, ◌&&◌, List, [], ◌++◌, map, Option, Some, None, refl, sym, ap, ◌∙◌, subst, arith, inl, inr}
use Rattle.std.specs.Prelude.{◌⊎◌, nat_le, nat_lt}
use Rattle.std.proofs.lemmas.Bool.{false≢true, and_parts}
use Rattle.wp_base.specs.declared.kinds.Kind.{Kind}
use Rattle.c_syntax.specs.Expr as e
use Rattle.c_syntax.specs.Stmt as p
use Rattle.typed_prog.specs.Tree as t
use Rattle.c_variables.specs.declared.context.Context.{Context}
use Rattle.c_variables.specs.Contexts.{around_of}
use Rattle.c_stmts.specs.Locals.{with_variable, count_of, initialising}
use Rattle.c_stmts.specs.Statements.{turns_with}
use Rattle.typed_unit.specs.Stmt as s
use Rattle.acsl_notes.specs.Notes.{Note}
use Rattle.c_typed_stmts.specs.Full.{IsFull, IsTest, IsAssigned, IfThere}
use Rattle.c_typed_stmts.specs.Judgement as j
use Rattle.c_typed_stmts.specs.Judgement.{IsLocal, AreLocals, IsReturned, IsTyped, AreTyped, AreLabelled}
use Rattle.c_typed_files.specs.Functions as body_of
use Rattle.c_typed_files.specs.Functions.{IsBody}
use Rattle.c_runs.specs.Program.{Loop, Stmt, evaluate, block, initial, choose, loop, switch, return_of, Stmts, stop, more}
use Rattle.plain_programs.specs.Told.{one, then_, whole, initials, initial_of, number_of, declared_by, variables_in, clauses_at, placed, all_placed, behind}
use Rattle.plain_programs.specs.Told.{loop_with}
use Rattle.plain_runs.specs.Fitting.{with_names, is_param}
use Rattle.plain_normal.specs.Plain.{up_to}
use Rattle.plain_programs.specs.Values.{stands}
use Rattle.plain_programs.specs.Standing.{are_new, if_stands, stmt_stands, stmts_stand}
use Rattle.plain_files.specs.Blocks.{is_declaration, Nests, AllNest, NoneDeclares}
use Rattle.plain_files.proofs.Scoping.{both, at_most, below, not_below, In, in_one_of, in_first, in_second, Between, no_more, in_between, one_behind, added, added_own, others_same, are_new_between}
use Rattle.plain_files.proofs.Spelling.{value_stands}
use Rattle.plain_files.proofs.Contexts.{local_count, stmt_between, stmts_between, stmt_more, stmts_more, labelled_more, counted, InScope, scope_entered, scope_with, stmt_scope, finds}

-- ---- expressions

full_stands : (c : Context) (g : ℕ → Bool) → InScope c g → (a : e.Expr) (v : t.Value) → IsFull c a v → stands g v ≡ true
full_stands c g h a v full = value_stands (around_of c) g (finds c g c.scope.local.initialising h) v a full.spells

test_stands : (total : ℕ) (c : Context) (g : ℕ → Bool) → InScope c g → (a : Option e.Expr) (v : Option t.Value) → IfThere (IsTest c) a v → if_stands total g v ≡ true
test_stands total c g h None None is = refl
test_stands total c g h (Some a) (Some v) is = full_stands c g h a v is.full
test_stands total c g h None (Some v) is = absurd is
test_stands total c g h (Some a) None is = refl

step_stands : (total : ℕ) (c : Context) (g : ℕ → Bool) → InScope c g → (a : Option e.Expr) (v : Option t.Value) → IfThere (IsFull c) a v → if_stands total g v ≡ true
step_stands total c g h None None is = refl
step_stands total c g h (Some a) (Some v) is = full_stands c g h a v is
step_stands total c g h None (Some v) is = absurd is
step_stands total c g h (Some a) None is = refl

returned_stands : (total : ℕ) (c : Context) (g : ℕ → Bool) → InScope c g → {a : Option e.Expr} {v : Option t.Value} → IsReturned c a v → if_stands total g v ≡ true
returned_stands total c g h (j.without void) = refl
returned_stands total c g h (j.with_value a v not_void is) = full_stands c g h a v is.full

-- in a loop what is declared before it is in scope
scope_up_to : (c : Context) (g : ℕ → Bool) (n : ℕ) → n ≡ count_of c → InScope c g → InScope c (up_to n g)
scope_up_to c g n e h = record {
  named = λ x k is. let r = h.named x k is in (both (nat_lt k n) (g k) (below k n (omega (arith, r.1, e))) r.0, r.1);
  of_file = h.of_file;
}

-- ---- lists of statements

module _ (total : ℕ) where
  abbrev AllStand : (f g : ℕ → Bool) (low : ℕ) → Stmts → Type 0
  AllStand f g low ss = stmts_stand total f g low ss ≡ true

  both_stand : (f g : ℕ → Bool) (low : ℕ) (xs ys : Stmts) → AllStand f g low xs → AllStand f g low ys → AllStand f g low (then_ xs ys)
  both_stand f g low stop ys h k = k
  both_stand f g low (more x xs) ys h k =
      let parts = and_parts (stmt_stands total f g low x) (stmts_stand total f g low xs) h in
      both (stmt_stands total f g low x) (stmts_stand total f g low (then_ xs ys)) parts.0 (both_stand f g low xs ys parts.1 k)

  one_stands : (f g : ℕ → Bool) (low : ℕ) (x : Stmt) → stmt_stands total f g low x ≡ true → AllStand f g low (one x)
  one_stands f g low x h = both (stmt_stands total f g low x) true h refl

  whole_stands : (f g : ℕ → Bool) (low : ℕ) (xs : Stmts) → AllStand f g low xs → stmt_stands total f g low (whole xs) ≡ true
  whole_stands f g low stop h = refl
  whole_stands f g low (more x stop) h = (and_parts (stmt_stands total f g low x) true h).0
  whole_stands f g low (more x (more y ys)) h = h

  -- variables that are declared in a statement are new, but for those of its own block
  abbrev Unused : (n m : ℕ) → List ℕ → (ℕ → Bool) → Type 0
  Unused n m ys f = (z : ℕ) → n ≤ z → z < m → (f z ≡ false) ⊎ In z ys

  abbrev Own : List ℕ → (ℕ → Bool) → Type 0
  Own ys g = (z : ℕ) → In z ys → g z ≡ true

  all_unused : (n m : ℕ) (f : ℕ → Bool) → Unused n m [] f → (z : ℕ) → n ≤ z → z < m → f z ≡ false
  all_unused n m f h z above below = by (h z above below) where
    by : (f z ≡ false) ⊎ ⊥ → f z ≡ false
    by (inl e) = e
    by (inr x) = absurd x

  -- of what follows in a block too
  first_unused : (n k m : ℕ) (xs ys : List ℕ) (f : ℕ → Bool) → Between k ys m → k ≤ m → Unused n m (xs ++ ys) f → Unused n k xs f
  first_unused n k m xs ys f far le h z above below = by (h z above (omega (arith, below, le))) where
    by_in : In z xs ⊎ In z ys → (f z ≡ false) ⊎ In z xs
    by_in (inl i) = inr i
    by_in (inr i) = absurd (omega (arith, below, (in_between k m ys z far i).0))

    by : (f z ≡ false) ⊎ In z (xs ++ ys) → (f z ≡ false) ⊎ In z xs
    by (inl e) = inl e
    by (inr i) = by_in (in_one_of z xs ys i)

  rest_unused : (n k m : ℕ) (xs ys : List ℕ) (f : ℕ → Bool) → Between n xs k → Unused n m (xs ++ ys) f → Unused k m ys f
  rest_unused n k m xs ys f near h z above below = by (h z (omega (arith, above, no_more n k xs near)) below) where
    by_in : In z xs ⊎ In z ys → (f z ≡ false) ⊎ In z ys
    by_in (inl i) = absurd (omega (arith, above, (in_between n k xs z near i).1))
    by_in (inr i) = inr i

    by : (f z ≡ false) ⊎ In z (xs ++ ys) → (f z ≡ false) ⊎ In z ys
    by (inl e) = inl e
    by (inr i) = by_in (in_one_of z xs ys i)

  to_none : (n m : ℕ) (ys : List ℕ) (f : ℕ → Bool) → Unused n m [] f → Unused n m ys f
  to_none n m ys f h z above below = inl (all_unused n m f h z above below)

  -- a statement that is no declaration declares nothing in its block
  none_declared : {c : Context} {x : p.Stmt} {y : s.Stmt} {b : Context} → IsTyped c x y b → is_declaration x ≡ false → declared_by y ≡ []
  none_declared (j.empty c line) h = refl
  none_declared (j.expr c line a v is) h = refl
  none_declared (j.block c b line xs ys are) h = refl
  none_declared (j.locals c b line ds rs are) h = absurd (false≢true (sym h))
  none_declared (j.if_only c b line test v x y is so) h = refl
  none_declared (j.if_else c next b line test v x x' y y' is so so') h = refl
  none_declared (j.while_loop c b line annot test v x y is so) h = refl
  none_declared (j.do_loop c b line annot test v x y so is) h = refl
  none_declared (j.for_loop c next b line annot first body test step y z v w so is is' so') h = refl
  none_declared (j.switch c b line a v xs ys is are) h = refl
  none_declared (j.break c line) h = refl
  none_declared (j.continue c line) h = refl
  none_declared (j.return_of c line a v is) h = refl
  none_declared (j.assert c line q) h = refl

  own_none : {c : Context} {x : p.Stmt} {y : s.Stmt} {b : Context} → IsTyped c x y b → is_declaration x ≡ false → (g : ℕ → Bool) → Own (declared_by y) g
  own_none so none g z i = absurd (subst (In z) (none_declared so none) i)

  -- ---- declarations

  initial_stands : (c : Context) (d : e.VarDecl) (b : Context) (r : s.Declared) → (h : IsLocal c d r b) → (f g : ℕ → Bool) (low : ℕ) → InScope (with_variable c d h.is) g → low ≤ count_of c → g r.local ≡ true
      → (a : Option e.Expr) (v : Option t.Value) → IfThere (IsAssigned (initialising (with_variable c d h.is) (Some r.local)) h.is.ty) a v
      → AllStand f g low (initial_of r.local r.line v)
  initial_stands c d b r h f g low in_scope le own None None is = refl
  initial_stands c d b r h f g low in_scope le own (Some a) None is = refl
  initial_stands c d b r h f g low in_scope le own None (Some v) is = absurd is
  initial_stands c d b r h f g low in_scope le own (Some a) (Some v) is =
      one_stands f g low (initial r.local r.line v)
      (both (g r.local) (nat_le low r.local && stands g v) own
      (both (nat_le low r.local) (stands g v) (at_most low r.local (omega (arith, le, h.number)))
      (value_stands (around_of (initialising (with_variable c d h.is) (Some r.local))) g (finds (with_variable c d h.is) g (Some r.local) in_scope) v a is.full.spells)))

  locals_stand : {c : Context} {ds : List e.VarDecl} {rs : List s.Declared} {b : Context} → AreLocals c ds rs b → (f g : ℕ → Bool) (low : ℕ) → InScope c g → low ≤ count_of c
      → Own (map number_of rs) g → AllStand f g low (initials rs)
  locals_stand (j.no_local c) f g low h le own = refl
  locals_stand (j.one_local c next b d r ds rs is are) f g low h le own =
      let own_here : g (count_of c) ≡ true = ap g (sym is.number) ∙ own r.local (inl refl) in
      let within = scope_with c d is.is g h is.new own_here in
      both_stand f g low (initial_of r.local r.line r.init) (initials rs) (initial_stands c d next r is f g low within le (own r.local (inl refl)) d.init r.init is.init)
      (locals_stand are f g low (subst (λ k. InScope k g) (sym is.declares) (record { named = within.named; of_file = within.of_file })) (omega (arith, le, local_count is)) (λ z i. own z (inr i)))

  -- ---- statements

  -- a block, whose variables are new
  block_stands : (f g : ℕ → Bool) (low n m : ℕ) (ys : List ℕ) (xs : Stmts) → Between n ys m → low ≤ n → m ≤ total → Unused n m [] f
      → AllStand (with_names ys f) (with_names ys g) low xs → AllStand f g low (one (block ys xs))
  block_stands f g low n m ys xs far le within unused inside =
      one_stands f g low (block ys xs)
      (both (are_new total f low ys) (stmts_stand total (with_names ys f) (with_names ys g) low xs)
      (are_new_between total low n f ys m far le within (λ z above i. all_unused n m f unused z above (in_between n m ys z far i).1)) inside)

  within_unused : (f : ℕ → Bool) (n m : ℕ) (ys : List ℕ) → Unused n m [] f → Unused n m ys (with_names ys f)
  within_unused f n m ys h z above below = others_same ys f z (all_unused n m f h z above below)

  loop_stands : (f g : ℕ → Bool) (low : ℕ) (l : Loop) (before step behind : Option t.Value) (xs : Stmts) → low ≤ l.declared → if_stands total (up_to l.declared g) before ≡ true
      → AllStand f (up_to l.declared g) l.declared xs → if_stands total (up_to l.declared g) step ≡ true → if_stands total (up_to l.declared g) behind ≡ true
      → AllStand f g low (one (loop l before (whole xs) step behind))
  loop_stands f g low l before step behind xs le first body third last =
      let g' = up_to l.declared g in
      let p5 = if_stands total g' behind in
      let p4 = if_stands total g' step in
      let p3 = stmt_stands total f g' l.declared (whole xs) in
      let p2 = if_stands total g' before in
      one_stands f g low (loop l before (whole xs) step behind)
      (both (nat_le low l.declared) (p2 && (p3 && (p4 && p5))) (at_most low l.declared le)
      (both p2 (p3 && (p4 && p5)) first (both p3 (p4 && p5) (whole_stands f g' l.declared xs body) (both p4 p5 third last))))

  arms_stand : (f g : ℕ → Bool) (low : ℕ) (v : t.Value) (xs ys : Stmts) → stands g v ≡ true → AllStand f g low xs → AllStand f g low ys → AllStand f g low (one (choose v (whole xs) (whole ys)))
  arms_stand f g low v xs ys test first second =
      one_stands f g low (choose v (whole xs) (whole ys))
      (both (stands g v) (stmt_stands total f g low (whole xs) && stmt_stands total f g low (whole ys)) test
      (both (stmt_stands total f g low (whole xs)) (stmt_stands total f g low (whole ys)) (whole_stands f g low xs first) (whole_stands f g low ys second)))

  mutual
    pub stmt_is : {c : Context} {x : p.Stmt} {y : s.Stmt} {b : Context} → IsTyped c x y b → Nests x → (f g : ℕ → Bool) (low : ℕ) → InScope c g → low ≤ count_of c → count_of b ≤ total
        → Unused (count_of c) (count_of b) (declared_by y) f → Own (declared_by y) g → (ns : List Note) (n : ℕ) → n ≡ count_of c → AllStand f g low (placed y ns n).stmts
    stmt_is (j.empty c line) nests f g low h le within unused own ns n e = refl
    stmt_is (j.expr c line a v is) nests f g low h le within unused own ns n e = one_stands f g low (evaluate v) (full_stands c g h a v is)
    stmt_is (j.block c b line xs ys are) nests f g low h le within unused own ns n e =
        let zs = variables_in ys in
        block_stands f g low (count_of c) (count_of b) zs (all_placed ys ns n).stmts (stmts_between are) le within unused
        (stmts_are are nests (with_names zs f) (with_names zs g) low (scope_entered c g (with_names zs g) h (λ z k. added zs g z k)) le within
        (within_unused f (count_of c) (count_of b) zs unused) (λ z i. added_own zs g z i) ns n e)
    stmt_is (j.locals c b line ds rs are) nests f g low h le within unused own ns n e = locals_stand are f g low h le own
    stmt_is (j.if_only c b line test v x y is so) nests f g low h le within unused own ns n e =
        arms_stand f g low v (placed y ns n).stmts stop (full_stands c g h test v is.full)
        (stmt_is so nests.1 f g low h le within (to_none (count_of c) (count_of b) (declared_by y) f unused) (own_none so nests.0 g) ns n e) refl
    stmt_is (j.if_else c next b line test v x x' y y' is so so') nests f g low h le within unused own ns n e =
        let first = placed y ns n in
        let first_own = own_none so nests.0 g in
        arms_stand f g low v first.stmts (placed y' first.notes first.declared).stmts (full_stands c g h test v is.full)
        (stmt_is so nests.1 f g low h le (omega (arith, within, stmt_more so'))
        (λ z above below. inl (all_unused (count_of c) (count_of b) f unused z above (omega (arith, below, stmt_more so')))) first_own ns n e)
        (stmt_is so' nests.3 f g low (stmt_scope so nests.1 g h first_own) (omega (arith, le, stmt_more so)) within
        (λ z above below. inl (all_unused (count_of c) (count_of b) f unused z (omega (arith, above, stmt_more so)) below)) (own_none so' nests.2 g) first.notes first.declared (counted so ns n e))
    stmt_is (j.while_loop c b line annot test v x y is so) nests f g low h le within unused own ns n e =
        let h' = scope_up_to c g n e h in
        loop_stands f g low (loop_with n (clauses_at ns)) (Some v) None None (placed y (behind ns) n).stmts (omega (arith, le, e)) (full_stands c (up_to n g) h' test v is.full)
        (stmt_is so nests.1 f (up_to n g) n h' (omega (arith, e)) within (to_none (count_of c) (count_of b) (declared_by y) f unused) (own_none so nests.0 (up_to n g)) (behind ns) n e) refl refl
    stmt_is (j.do_loop c b line annot test v x y so is) nests f g low h le within unused own ns n e =
        let h' = scope_up_to c g n e h in
        let none = own_none so nests.0 (up_to n g) in
        loop_stands f g low (loop_with n (clauses_at ns)) None None (Some v) (placed y (behind ns) n).stmts (omega (arith, le, e)) refl
        (stmt_is so nests.1 f (up_to n g) n h' (omega (arith, e)) within (to_none (count_of c) (count_of b) (declared_by y) f unused) none (behind ns) n e) refl
        (full_stands b (up_to n g) (stmt_scope so nests.1 (up_to n g) h' none) test v is.full)
    stmt_is (j.for_loop c next b line annot first body test step y z v w so is is' so') nests f g low h le within unused own ns n e =
        let again = s.loop_of line annot (turns_with v None w) z in
        let zs = variables_in (s.more y (s.more again s.stop)) in
        let first_placed = placed y ns n in
        let k = first_placed.declared in
        let l = loop_with k (clauses_at first_placed.notes) in
        let xs = (placed z (behind first_placed.notes) k).stmts in
        let f' = with_names zs f in
        let g' = with_names zs g in
        let at_next = counted so ns n e in
        let le_next = stmt_more so' in
        let near = stmt_between so in
        let far = one_behind (count_of c) (count_of next) (count_of b) (declared_by y) [] near le_next in
        let unused' = within_unused f (count_of c) (count_of b) zs unused in
        let own_first : Own (declared_by y) g' = λ i k. added_own zs g i (in_first i (declared_by y) [] k) in
        let inside = scope_entered c g g' h (λ i k. added zs g i k) in
        let next_scope = stmt_scope so nests.0 g' inside own_first in
        let in_loop = scope_up_to next g' k at_next next_scope in
        block_stands f g low (count_of c) (count_of b) zs (then_ first_placed.stmts (one (loop l v (whole xs) w None))) far le within unused
        (both_stand f' g' low first_placed.stmts (one (loop l v (whole xs) w None))
        (stmt_is so nests.0 f' g' low inside le (omega (arith, within, le_next))
        (first_unused (count_of c) (count_of next) (count_of b) (declared_by y) [] f' le_next le_next unused') own_first ns n e)
        (loop_stands f' g' low l v w None xs (omega (arith, le, at_next, stmt_more so)) (test_stands total next (up_to k g') in_loop test v is)
        (stmt_is so' nests.2 f' (up_to k g') k in_loop (omega (arith, at_next)) within
        (to_none (count_of next) (count_of b) (declared_by z) f' (rest_unused (count_of c) (count_of next) (count_of b) (declared_by y) [] f' near unused'))
        (own_none so' nests.1 (up_to k g')) (behind first_placed.notes) k at_next)
        (step_stands total next (up_to k g') in_loop step w is') refl))
    stmt_is (j.switch c b line a v xs ys is are) nests f g low h le within unused own ns n e =
        one_stands f g low (switch v (all_placed ys ns n).stmts)
        (both (stands g v) (stmts_stand total f g low (all_placed ys ns n).stmts) (full_stands c g h a v is.full)
        (labelled_are are nests f g low (scope_entered c g g h (λ z k. k)) le within (all_unused (count_of c) (count_of b) f unused) ns n e))
    stmt_is (j.break c line) nests f g low h le within unused own ns n e = refl
    stmt_is (j.continue c line) nests f g low h le within unused own ns n e = refl
    stmt_is (j.return_of c line a v is) nests f g low h le within unused own ns n e = one_stands f g low (return_of v) (returned_stands total c g h is)
    stmt_is (j.assert c line q) nests f g low h le within unused own ns n e = refl

    pub stmts_are : {c : Context} {xs : p.Stmts} {ys : s.Stmts} {b : Context} → AreTyped c xs ys b → AllNest xs → (f g : ℕ → Bool) (low : ℕ) → InScope c g → low ≤ count_of c → count_of b ≤ total
        → Unused (count_of c) (count_of b) (variables_in ys) f → Own (variables_in ys) g → (ns : List Note) (n : ℕ) → n ≡ count_of c → AllStand f g low (all_placed ys ns n).stmts
    stmts_are (j.no_stmt c) nests f g low h le within unused own ns n e = refl
    stmts_are (j.one_stmt c next b x y xs ys is are) nests f g low h le within unused own ns n e =
        let first = placed y ns n in
        let own_first : Own (declared_by y) g = λ z i. own z (in_first z (declared_by y) (variables_in ys) i) in
        both_stand f g low first.stmts (all_placed ys first.notes first.declared).stmts
        (stmt_is is nests.0 f g low h le (omega (arith, within, stmts_more are))
        (first_unused (count_of c) (count_of next) (count_of b) (declared_by y) (variables_in ys) f (stmts_between are) (stmts_more are) unused) own_first ns n e)
        (stmts_are are nests.1 f g low (stmt_scope is nests.0 g h own_first) (omega (arith, le, stmt_more is)) within
        (rest_unused (count_of c) (count_of next) (count_of b) (declared_by y) (variables_in ys) f (stmt_between is) unused)
        (λ z i. own z (in_second z (declared_by y) (variables_in ys) i)) first.notes first.declared (counted is ns n e))

    labelled_are : {k : Option Kind} {zs : List ℤ} {c : Context} {xs : p.Stmts} {ys : s.Stmts} {b : Context} → AreLabelled k zs c xs ys b → NoneDeclares xs → (f g : ℕ → Bool) (low : ℕ) → InScope c g
        → low ≤ count_of c → count_of b ≤ total → ((z : ℕ) → count_of c ≤ z → z < count_of b → f z ≡ false) → (ns : List Note) (n : ℕ) → n ≡ count_of c → AllStand f g low (all_placed ys ns n).stmts
    labelled_are (j.no_item k zs c) nests f g low h le within unused ns n e = refl
    labelled_are (j.label k zs c b line a z xs ys is new are) nests f g low h le within unused ns n e = labelled_are are nests.2 f g low h le within unused ns n e
    labelled_are (j.default k zs c b line xs ys are) nests f g low h le within unused ns n e = labelled_are are nests.2 f g low h le within unused ns n e
    labelled_are (j.one_item k zs c next b x y xs ys is are) nests f g low h le within unused ns n e =
        let first = placed y ns n in
        let none = own_none is nests.0 g in
        both_stand f g low first.stmts (all_placed ys first.notes first.declared).stmts
        (stmt_is is nests.1 f g low h le (omega (arith, within, labelled_more are)) (λ z above below. inl (unused z above (omega (arith, below, labelled_more are)))) none ns n e)
        (labelled_are are nests.2 f g low (stmt_scope is nests.1 g h none) (omega (arith, le, stmt_more is)) within (λ z above below. unused z (omega (arith, above, stmt_more is)) below)
        first.notes first.declared (counted is ns n e))

  -- ---- bodies

  no_param : (n z : ℕ) → n ≤ z → is_param n z ≡ false
  no_param n z h = not_below z n h

  -- the outermost block of a body is that of the parameters
  pub body_stands : {c : Context} {x : p.Stmt} {y : s.Stmt} {b : Context} → IsBody c x y b → Nests x → is_declaration x ≡ false → InScope c (is_param (count_of c)) → count_of b ≤ total
      → (ns : List Note) (n : ℕ) → n ≡ count_of c → AllStand (is_param (count_of c)) (is_param (count_of c)) 0 (placed y ns n).stmts
  body_stands (body_of.block c b line xs ys are) nests none h within ns n e =
      let f = is_param (count_of c) in
      let zs = variables_in ys in
      let unused : Unused (count_of c) (count_of b) [] f = λ z above below. inl (no_param (count_of c) z above) in
      block_stands f f 0 (count_of c) (count_of b) zs (all_placed ys ns n).stmts (stmts_between are) (omega arith) within unused
      (stmts_are are nests (with_names zs f) (with_names zs f) 0 (record { named = λ x k is. let r = h.named x k is in (added zs f k r.0, r.1); of_file = h.of_file }) (omega arith) within
      (within_unused f (count_of c) (count_of b) zs unused) (λ z i. added_own zs f z i) ns n e)
  body_stands (body_of.other c b x y is) nests none h within ns n e =
      let f = is_param (count_of c) in
      stmt_is is nests f f 0 h (omega arith) within (λ z above below. inl (no_param (count_of c) z above)) (own_none is none f) ns n e
