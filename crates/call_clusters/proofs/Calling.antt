-- A function is called where it is among those that are called.
use Rattle.std.proofs.Common.{◌≡◌, ℕ, ◌==◌, Bool, true, false, ◌||◌, List, [], ◌∷◌, ◌++◌, Option, Some, None, refl, sym, ap, ◌∙◌, append_assoc, append-nil, length, ◌<◌, ◌≤◌, ◌+◌, drop, get_or}
use Rattle.std.proofs.lemmas.List.{at_drop_more, at_drop_all}
use Rattle.typed_prog.specs.declared.operators.Effect.{Effect}
use Rattle.typed_prog.specs.declared.operators.Effect.TheVariants as effect
use Rattle.typed_prog.specs.declared.tree.Value.{Value as CodeValue}
use Rattle.typed_prog.specs.View.{view_value, view_values}
use Rattle.typed_prog.specs.Tree as t
use Rattle.c_runs.specs.Program.{Stmt, evaluate, block, initial, choose, loop, switch, case_of, default, break, continue, return_of, assert, Stmts, stop, more, Function}
use Rattle.c_runs.specs.Reach.{is_call_of, node_calls, calls, some_calls, may_call, stmt_calls, stmts_call}
use Rattle.program_trees.specs.declared.stmts.Stmt.{Stmt as CodeStmt}
use Rattle.program_trees.specs.View.{view_stmt, view_stmts}
use Rattle.c_programs.specs.Clusters.{body_calls}
use Rattle.call_clusters.specs.Callees.{is_among, called_by, node_callees, callees, all_callees, callees_if, stmt_callees, stmts_callees, body_callees}

or-assoc : (a b c : Bool) → ((a || b) || c) ≡ (a || (b || c))
or-assoc true b c = refl
or-assoc false b c = refl

or-false : (a : Bool) → (a || false) ≡ a
or-false true = refl
or-false false = refl

among-append : (g : ℕ) (xs ys : List ℕ) → is_among g (xs ++ ys) ≡ (is_among g xs || is_among g ys)
among-append g [] ys = refl
among-append g (x ∷ xs) ys = ap (λ b. (x == g) || b) (among-append g xs ys) ∙ sym (or-assoc (x == g) (is_among g xs) (is_among g ys))

-- two parts
joined : (g : ℕ) (xs ys : List ℕ) (a b : Bool) → is_among g xs ≡ a → is_among g ys ≡ b → is_among g (xs ++ ys) ≡ (a || b)
joined g xs ys a b x y = among-append g xs ys ∙ ap (λ u. u || is_among g ys) x ∙ ap (λ u. a || u) y

effect_among : (g : ℕ) (e : Effect) → is_among g (called_by e) ≡ is_call_of g e
effect_among g (effect.Call f) = or-false (f == g)
effect_among g (effect.Assign path) = refl
effect_among g (effect.Update path by form) = refl

mutual
  node_among : (g : ℕ) (x : t.ValueNode) → is_among g (node_callees x) ≡ node_calls g x
  node_among g (t.constant z) = refl
  node_among g t.null = refl
  node_among g (t.temporary n) = refl
  node_among g (t.apply o es) = all_among g es
  node_among g (t.logic c a b) = joined g (callees a) (callees b) _ _ (among g a) (among g b)
  node_among g (t.choose c a b) = joined g (callees c) (callees a ++ callees b) _ _ (among g c) (joined g (callees a) (callees b) _ _ (among g a) (among g b))
  node_among g (t.effect e es) = joined g (called_by e) (all_callees es) _ _ (effect_among g e) (all_among g es)

  among : (g : ℕ) (e : t.Value) → is_among g (callees e) ≡ calls g e
  among g (t.typed node type line) = node_among g node

  all_among : (g : ℕ) (es : t.Values) → is_among g (all_callees es) ≡ some_calls g es
  all_among g t.stop = refl
  all_among g (t.more e es) = joined g (callees e) (all_callees es) _ _ (among g e) (all_among g es)

among_if : (g : ℕ) (e : Option t.Value) → is_among g (callees_if e) ≡ may_call g e
among_if g None = refl
among_if g (Some e) = among g e

mutual
  stmt_among : (g : ℕ) (x : Stmt) → is_among g (stmt_callees x) ≡ stmt_calls g x
  stmt_among g (evaluate e) = among g e
  stmt_among g (block ys ss) = stmts_among g ss
  stmt_among g (initial x line e) = among g e
  stmt_among g (choose e a b) =
      joined g (callees e) (stmt_callees a ++ stmt_callees b) _ _ (among g e) (joined g (stmt_callees a) (stmt_callees b) _ _ (stmt_among g a) (stmt_among g b))
  stmt_among g (loop l before s step behind) =
      joined g (callees_if before) (stmt_callees s ++ (callees_if step ++ callees_if behind)) _ _ (among_if g before)
      (joined g (stmt_callees s) (callees_if step ++ callees_if behind) _ _ (stmt_among g s) (joined g (callees_if step) (callees_if behind) _ _ (among_if g step) (among_if g behind)))
  stmt_among g (switch e ss) = joined g (callees e) (stmts_callees ss) _ _ (among g e) (stmts_among g ss)
  stmt_among g (case_of z) = refl
  stmt_among g default = refl
  stmt_among g break = refl
  stmt_among g continue = refl
  stmt_among g (return_of e) = among_if g e
  stmt_among g (assert c) = refl

  stmts_among : (g : ℕ) (ss : Stmts) → is_among g (stmts_callees ss) ≡ stmts_call g ss
  stmts_among g stop = refl
  stmts_among g (more s ss) = joined g (stmt_callees s) (stmts_callees ss) _ _ (stmt_among g s) (stmts_among g ss)

pub body_among : (g : ℕ) (f : Option (Function Stmts)) → is_among g (body_callees f) ≡ body_calls f g
body_among g None = refl
body_among g (Some f) = stmts_among g f.body

-- ---- gathering

pub both_put : (xs ys zs us vs : List ℕ) → ys ≡ xs ++ us → zs ≡ ys ++ vs → zs ≡ xs ++ (us ++ vs)
both_put xs ys zs us vs first second = second ∙ ap (λ ws. ws ++ vs) first ∙ append_assoc xs us vs

pub three_put : (xs ys zs ws us vs ts : List ℕ) → ys ≡ xs ++ us → zs ≡ ys ++ vs → ws ≡ zs ++ ts → ws ≡ xs ++ (us ++ (vs ++ ts))
three_put xs ys zs ws us vs ts first second third = both_put xs ys ws us (vs ++ ts) first (both_put ys zs ws vs ts second third)

pub nothing_put : (xs : List ℕ) → xs ≡ xs ++ []
nothing_put xs = sym (append-nil xs)

pub ruleset gather_laws = (both_put, three_put, nothing_put)

pub values_turn : (vs : List CodeValue) (i : ℕ) (v : CodeValue) (ns next all : List ℕ) → i < length vs → v ≡ get_or vs i v → next ≡ ns ++ callees (view_value v)
    → ns ++ all_callees (t.values_of (view_values (drop i vs))) ≡ all → next ++ all_callees (t.values_of (view_values (drop (i + 1) vs))) ≡ all
values_turn vs i v ns next all in_list is made so_far =
    let rest = all_callees (t.values_of (view_values (drop (i + 1) vs))) in
    ap (λ us. us ++ rest) made ∙ append_assoc ns (callees (view_value v)) rest
    ∙ ap (λ us. ns ++ us) (sym (at_drop_more (λ zs. all_callees (t.values_of (view_values zs))) vs i v in_list ∙ ap (λ z. callees (view_value z) ++ rest) (sym is))) ∙ so_far

pub values_done : (vs : List CodeValue) (i : ℕ) (ns all : List ℕ) → length vs ≤ i → ns ++ all_callees (t.values_of (view_values (drop i vs))) ≡ all → ns ≡ all
values_done vs i ns all past so_far = sym (append-nil ns) ∙ sym (at_drop_all (λ zs. ns ++ all_callees (t.values_of (view_values zs))) vs i past) ∙ so_far

pub ruleset values_laws = (values_turn, values_done)

pub stmts_turn : (xs : List CodeStmt) (i : ℕ) (x : CodeStmt) (ns next all : List ℕ) → i < length xs → x ≡ get_or xs i x → next ≡ ns ++ stmt_callees (view_stmt x)
    → ns ++ stmts_callees (view_stmts (drop i xs)) ≡ all → next ++ stmts_callees (view_stmts (drop (i + 1) xs)) ≡ all
stmts_turn xs i x ns next all in_list is made so_far =
    let rest = stmts_callees (view_stmts (drop (i + 1) xs)) in
    ap (λ us. us ++ rest) made ∙ append_assoc ns (stmt_callees (view_stmt x)) rest
    ∙ ap (λ us. ns ++ us) (sym (at_drop_more (λ zs. stmts_callees (view_stmts zs)) xs i x in_list ∙ ap (λ z. stmt_callees (view_stmt z) ++ rest) (sym is))) ∙ so_far

pub stmts_done : (xs : List CodeStmt) (i : ℕ) (ns all : List ℕ) → length xs ≤ i → ns ++ stmts_callees (view_stmts (drop i xs)) ≡ all → ns ≡ all
stmts_done xs i ns all past so_far = sym (append-nil ns) ∙ sym (at_drop_all (λ zs. ns ++ stmts_callees (view_stmts zs)) xs i past) ∙ so_far

pub ruleset stmts_laws = (stmts_turn, stmts_done)
