-- Statements put behind those that are there.
use Rattle.std.proofs.Common.{◌≡◌, ◌≢◌, ℕ, ◌+◌, ◌<◌, ◌≤◌, List, [], ◌∷◌, ◌++◌, map, length, drop, get_or, refl, sym, ap, ◌∙◌, append_assoc, append-nil}
use Rattle.std.proofs.lemmas.List.{at_drop_more, at_drop_all}
use Rattle.c_runs.specs.Program as run
use Rattle.c_runs.specs.Program.{Stmts, stop, more}
use Rattle.typed_unit.specs.declared.stmt.Declared.{Declared}
use Rattle.typed_unit.specs.declared.stmt.Stmt.{Stmt as Typed}
use Rattle.typed_unit.specs.View.{view_declared, view_stmt as view_typed, view_stmts as view_all_typed}
use Rattle.c_programs.specs.Bodies.{one, then_, whole, initial_of, initials, declared_behind, number_of, declared_by, variables_in, as_it_is}
use Rattle.program_trees.specs.declared.stmts.Stmt.{Stmt}
use Rattle.program_trees.specs.View.{view_stmt, view_stmts}
use Rattle.placed_bodies.specs.declared.left.Left.{Left}
use Rattle.placed_bodies.specs.Into.{notes_left, PutInto}

-- ---- one behind another

pub then-stop : (xs : Stmts) → then_ xs stop ≡ xs
then-stop stop = refl
then-stop (more x xs) = ap (more x) (then-stop xs)

pub then-assoc : (xs ys zs : Stmts) → then_ (then_ xs ys) zs ≡ then_ xs (then_ ys zs)
then-assoc stop ys zs = refl
then-assoc (more x xs) ys zs = ap (more x) (then-assoc xs ys zs)

view-push : (xs : List Stmt) (x : Stmt) → view_stmts (xs ++ x ∷ []) ≡ then_ (view_stmts xs) (one (view_stmt x))
view-push [] x = refl
view-push (y ∷ xs) x = ap (more (view_stmt y)) (view-push xs x)

pub pushed : (xs all : List Stmt) (x : Stmt) (u : run.Stmt) → all ≡ xs ++ x ∷ [] → view_stmt x ≡ u → view_stmts all ≡ then_ (view_stmts xs) (one u)
pushed xs all x u grown is = ap view_stmts grown ∙ view-push xs x ∙ ap (λ v. then_ (view_stmts xs) (one v)) is

pub nothing_put : (xs : List Stmt) → view_stmts xs ≡ then_ (view_stmts xs) stop
nothing_put xs = sym (then-stop (view_stmts xs))

pub put_one : (xs all : List Stmt) (x : Stmt) (l : Left) → all ≡ xs ++ x ∷ [] → PutInto xs all (as_it_is (one (view_stmt x)) (notes_left l) l.declared) l
put_one xs all x l grown = record { stmts = pushed xs all x (view_stmt x) grown refl; notes = refl; declared = refl }

pub ruleset put_laws = (pushed, nothing_put, put_one)

-- ---- declarations

module _ (xs : List Declared) (i : ℕ) (x : Declared) (in_list : i < length xs) (is : x ≡ get_or xs i x) where
  initials_left : initials (map view_declared (drop i xs)) ≡ then_ (initial_of x.local x.line (view_declared x).init) (initials (map view_declared (drop (i + 1) xs)))
  initials_left =
      at_drop_more (λ zs. initials (map view_declared zs)) xs i x in_list
      ∙ ap (λ z. then_ (initial_of z.local z.line (view_declared z).init) (initials (map view_declared (drop (i + 1) xs)))) (sym is)

  declared_left : (n : ℕ) → declared_behind n (map view_declared (drop i xs)) ≡ declared_behind (x.local + 1) (map view_declared (drop (i + 1) xs))
  declared_left n =
      at_drop_more (λ zs. declared_behind n (map view_declared zs)) xs i x in_list ∙ ap (λ z. declared_behind (z.local + 1) (map view_declared (drop (i + 1) xs))) (sym is)

pub initial_turn : (xs : List Declared) (i : ℕ) (x : Declared) (out next : List Stmt) (all : Stmts) → i < length xs → x ≡ get_or xs i x
    → view_stmts next ≡ then_ (view_stmts out) (initial_of x.local x.line (view_declared x).init)
    → then_ (view_stmts out) (initials (map view_declared (drop i xs))) ≡ all → then_ (view_stmts next) (initials (map view_declared (drop (i + 1) xs))) ≡ all
initial_turn xs i x out next all in_list is put so_far =
    let rest = initials (map view_declared (drop (i + 1) xs)) in
    ap (λ us. then_ us rest) put ∙ then-assoc (view_stmts out) (initial_of x.local x.line (view_declared x).init) rest
    ∙ ap (then_ (view_stmts out)) (sym (initials_left xs i x in_list is)) ∙ so_far

pub declared_turn : (xs : List Declared) (i : ℕ) (x : Declared) (n next all : ℕ) → i < length xs → x ≡ get_or xs i x → next ≡ x.local + 1
    → declared_behind n (map view_declared (drop i xs)) ≡ all → declared_behind next (map view_declared (drop (i + 1) xs)) ≡ all
declared_turn xs i x n next all in_list is made so_far =
    ap (λ m. declared_behind m (map view_declared (drop (i + 1) xs))) made ∙ sym (declared_left xs i x in_list is n) ∙ so_far

pub initials_done : (xs : List Declared) (i : ℕ) (out : List Stmt) (all : Stmts) → length xs ≤ i → then_ (view_stmts out) (initials (map view_declared (drop i xs))) ≡ all → view_stmts out ≡ all
initials_done xs i out all past so_far =
    sym (then-stop (view_stmts out)) ∙ sym (at_drop_all (λ zs. then_ (view_stmts out) (initials (map view_declared zs))) xs i past) ∙ so_far

pub declared_done : (xs : List Declared) (i n all : ℕ) → length xs ≤ i → declared_behind n (map view_declared (drop i xs)) ≡ all → n ≡ all
declared_done xs i n all past so_far = sym (at_drop_all (λ zs. declared_behind n (map view_declared zs)) xs i past) ∙ so_far

pub ruleset locals_laws = (initial_turn, declared_turn, initials_done, declared_done)

-- ---- the variables of a block

pub number_turn : (xs : List Declared) (i : ℕ) (x : Declared) (ns next all : List ℕ) → i < length xs → x ≡ get_or xs i x → next ≡ ns ++ x.local ∷ []
    → ns ++ map number_of (map view_declared (drop i xs)) ≡ all → next ++ map number_of (map view_declared (drop (i + 1) xs)) ≡ all
number_turn xs i x ns next all in_list is made so_far =
    let rest = map number_of (map view_declared (drop (i + 1) xs)) in
    ap (λ us. us ++ rest) made ∙ append_assoc ns (x.local ∷ []) rest
    ∙ ap (λ us. ns ++ us) (sym (at_drop_more (λ zs. map number_of (map view_declared zs)) xs i x in_list ∙ ap (λ z. z.local ∷ rest) (sym is))) ∙ so_far

pub number_done : (xs : List Declared) (i : ℕ) (ns all : List ℕ) → length xs ≤ i → ns ++ map number_of (map view_declared (drop i xs)) ≡ all → ns ≡ all
number_done xs i ns all past so_far = sym (append-nil ns) ∙ sym (at_drop_all (λ zs. ns ++ map number_of (map view_declared zs)) xs i past) ∙ so_far

pub ruleset number_laws = (number_turn, number_done)

pub nothing_more : (ns : List ℕ) → ns ≡ ns ++ []
nothing_more ns = sym (append-nil ns)

pub variable_turn : (xs : List Typed) (i : ℕ) (x : Typed) (ns next all : List ℕ) → i < length xs → x ≡ get_or xs i x → next ≡ ns ++ declared_by (view_typed x)
    → ns ++ variables_in (view_all_typed (drop i xs)) ≡ all → next ++ variables_in (view_all_typed (drop (i + 1) xs)) ≡ all
variable_turn xs i x ns next all in_list is made so_far =
    let rest = variables_in (view_all_typed (drop (i + 1) xs)) in
    ap (λ us. us ++ rest) made ∙ append_assoc ns (declared_by (view_typed x)) rest
    ∙ ap (λ us. ns ++ us) (sym (at_drop_more (λ zs. variables_in (view_all_typed zs)) xs i x in_list ∙ ap (λ z. declared_by (view_typed z) ++ rest) (sym is))) ∙ so_far

pub variables_done : (xs : List Typed) (i : ℕ) (ns all : List ℕ) → length xs ≤ i → ns ++ variables_in (view_all_typed (drop i xs)) ≡ all → ns ≡ all
variables_done xs i ns all past so_far = sym (append-nil ns) ∙ sym (at_drop_all (λ zs. ns ++ variables_in (view_all_typed zs)) xs i past) ∙ so_far

pub ruleset variable_laws = (variable_turn, variables_done)

-- ---- as one statement

pub whole_none : (xs : List Stmt) → xs ≡ [] → run.block [] (view_stmts []) ≡ whole (view_stmts xs)
whole_none xs is = ap (λ zs. whole (view_stmts zs)) (sym is)

pub whole_one : (xs rest : List Stmt) (x : Stmt) → xs ≡ rest ++ x ∷ [] → rest ≡ [] → view_stmt x ≡ whole (view_stmts xs)
whole_one xs rest x is none = ap (λ zs. whole (view_stmts (zs ++ x ∷ []))) (sym none) ∙ ap (λ zs. whole (view_stmts zs)) (sym is)

two_at_least : (rest : List Stmt) (x : Stmt) → (rest ≢ []) → run.block [] (view_stmts (rest ++ x ∷ [])) ≡ whole (view_stmts (rest ++ x ∷ []))
two_at_least [] x some = absurd (some refl)
two_at_least (y ∷ []) x some = refl
two_at_least (y ∷ z ∷ rest) x some = refl

pub whole_more : (xs rest all : List Stmt) (x : Stmt) → xs ≡ rest ++ x ∷ [] → (rest ≢ []) → all ≡ rest ++ x ∷ [] → run.block [] (view_stmts all) ≡ whole (view_stmts xs)
whole_more xs rest all x is some grown =
    ap (λ zs. run.block [] (view_stmts zs)) grown ∙ two_at_least rest x some ∙ ap (λ zs. whole (view_stmts zs)) (sym is)

pub ruleset whole_laws = (whole_none, whole_one, whole_more)
