-- Statements one after another.
use Rattle.std.proofs.Common.{◌≡◌, ℕ, ◌+◌, ◌<◌, ◌≤◌, ℤ, List, [], ◌∷◌, ◌++◌, map, length, drop, get_or, Option, Some, Result, Ok, Err, refl, sym, ap, ◌∙◌}
use Rattle.std.proofs.lemmas.List.{at_drop_more, at_drop_all}
use Rattle.wp_base.specs.declared.answers.Stop.{Stop}
use Rattle.wp_base.specs.declared.answers.Stop.TheVariants as stop
use Rattle.wp_base.specs.declared.kinds.Kind.{Kind}
use Rattle.c_syntax.specs.declared.stmt.Stmt.{Stmt as Spelled}
use Rattle.c_syntax.specs.declared.expr.Expr.{Expr}
use Rattle.c_syntax.specs.declared.stmt.StmtNode.TheVariants as node
use Rattle.c_syntax.specs.Stmt as p
use Rattle.c_syntax.specs.View.{view_expr, view_stmt as spelled, view_stmt_node}
use Rattle.c_syntax.proofs.Equations.{view_stmt_node-If}
use Rattle.c_answers.specs.Answers.{Answer, after, Gives}
use Rattle.typed_unit.specs.Stmt as s
use Rattle.c_variables.specs.declared.context.Context.{Context}
use Rattle.c_stmts.specs.Bodies.{spelled_stmts}
use Rattle.c_stmts.specs.Statements.{Item, item_with, stmt, stmts, labelled, item}

abbrev pub joined : List s.Stmt → s.Stmts → s.Stmts
joined [] q = q
joined (x ∷ xs) q = s.more x (joined xs q)

-- these statements, and then those that are typed
abbrev pub behind : List s.Stmt → Answer (s.Stmts × Context) → Answer (s.Stmts × Context)
behind xs o = after o (λ q. Ok (joined xs q.0, q.1))

joined_more : (xs : List s.Stmt) (x : s.Stmt) (q : s.Stmts) → joined (xs ++ x ∷ []) q ≡ joined xs (s.more x q)
joined_more [] x q = refl
joined_more (y ∷ xs) x q = ap (s.more y) (joined_more xs x q)

joined_stop : (xs : List s.Stmt) → joined xs s.stop ≡ s.stmts_of xs
joined_stop [] = refl
joined_stop (x ∷ xs) = ap (s.more x) (joined_stop xs)

one_behind : (xs : List s.Stmt) (x : s.Stmt) (o : Answer (s.Stmts × Context)) → behind (xs ++ x ∷ []) o ≡ behind xs (after o (λ q. Ok (s.more x q.0, q.1)))
one_behind xs x (Ok q) = ap (λ u. Ok (u, q.1)) (joined_more xs x q.0)
one_behind xs x (Err r) = refl

-- ---- in a block

one_left : (c : Context) (ss : List Spelled) (i : ℕ) (x : Spelled) → i < length ss → x ≡ get_or ss i x
    → stmts c (spelled_stmts (drop i ss)) ≡ after (stmt c (spelled x)) (λ r. after (stmts r.1 (spelled_stmts (drop (i + 1) ss))) (λ q. Ok (s.more r.0 q.0, q.1)))
one_left c ss i x inside is =
    at_drop_more (λ xs. stmts c (spelled_stmts xs)) ss i x inside ∙ ap (λ y. stmts c (spelled_stmts (y ∷ drop (i + 1) ss))) (sym is)

pub stmt_turn : (c c' : Context) (ss : List Spelled) (i : ℕ) (x : Spelled) (vs more : List s.Stmt) (v : s.Stmt) (whole : Answer (s.Stmts × Context)) → i < length ss → x ≡ get_or ss i x
    → stmt c (spelled x) ≡ Ok (v, c') → more ≡ vs ++ v ∷ [] → behind vs (stmts c (spelled_stmts (drop i ss))) ≡ whole → behind more (stmts c' (spelled_stmts (drop (i + 1) ss))) ≡ whole
stmt_turn c c' ss i x vs more v whole inside is made grown so_far =
    let rest = spelled_stmts (drop (i + 1) ss) in
    ap (λ us. behind us (stmts c' rest)) grown ∙ one_behind vs v (stmts c' rest) ∙ ap (λ o. behind vs (after o (λ r. after (stmts r.1 rest) (λ q. Ok (s.more r.0 q.0, q.1))))) (sym made)
    ∙ ap (behind vs) (sym (one_left c ss i x inside is)) ∙ so_far

pub stmt_fault : {V W : Type 0} (see : V → s.Stmt × Context) (see' : W → s.Stmts × Context) (c : Context) (ss : List Spelled) (i : ℕ) (x : Spelled) (vs : List s.Stmt) (e : Stop) (whole : Answer (s.Stmts × Context))
    → i < length ss → x ≡ get_or ss i x → Gives see (Err e) (stmt c (spelled x)) → behind vs (stmts c (spelled_stmts (drop i ss))) ≡ whole → Gives see' (Err e) whole
stmt_fault see see' c ss i x vs (stop.Refused r) whole inside is fault so_far =
    let rest = spelled_stmts (drop (i + 1) ss) in
    sym so_far ∙ ap (behind vs) (one_left c ss i x inside is) ∙ ap (λ o. behind vs (after o (λ r. after (stmts r.1 rest) (λ q. Ok (s.more r.0 q.0, q.1))))) fault
stmt_fault see see' c ss i x vs stop.NoMemory whole inside is fault so_far = tt

pub stmts_done : (c : Context) (ss : List Spelled) (i : ℕ) (vs : List s.Stmt) (whole : Answer (s.Stmts × Context)) → length ss ≤ i → behind vs (stmts c (spelled_stmts (drop i ss))) ≡ whole → whole ≡ Ok (s.stmts_of vs, c)
stmts_done c ss i vs whole all so_far =
    sym so_far ∙ at_drop_all (λ xs. behind vs (stmts c (spelled_stmts xs))) ss i all ∙ ap (λ u. Ok (u, c)) (joined_stop vs)

pub ruleset stmts_laws = (stmt_turn, stmt_fault, stmts_done)

-- ---- in the body of a `switch`

item_left : (k : Option Kind) (zs : List ℤ) (c : Context) (ss : List Spelled) (i : ℕ) (x : Spelled) → i < length ss → x ≡ get_or ss i x
    → labelled k zs c (spelled_stmts (drop i ss)) ≡ after (item k zs c (spelled x) (stmt c (spelled x))) (λ r. after (labelled k r.numbers r.context (spelled_stmts (drop (i + 1) ss))) (λ q. Ok (s.more r.stmt q.0, q.1)))
item_left k zs c ss i x inside is =
    at_drop_more (λ xs. labelled k zs c (spelled_stmts xs)) ss i x inside ∙ ap (λ y. labelled k zs c (spelled_stmts (y ∷ drop (i + 1) ss))) (sym is)

pub item_turn : (k : Option Kind) (zs zs' : List ℤ) (c c' : Context) (ss : List Spelled) (i : ℕ) (x : Spelled) (vs more : List s.Stmt) (v : s.Stmt) (whole : Answer (s.Stmts × Context)) → i < length ss → x ≡ get_or ss i x
    → item k zs c (spelled x) (stmt c (spelled x)) ≡ Ok (item_with v zs' c') → more ≡ vs ++ v ∷ [] → behind vs (labelled k zs c (spelled_stmts (drop i ss))) ≡ whole
    → behind more (labelled k zs' c' (spelled_stmts (drop (i + 1) ss))) ≡ whole
item_turn k zs zs' c c' ss i x vs more v whole inside is made grown so_far =
    let rest = spelled_stmts (drop (i + 1) ss) in
    ap (λ us. behind us (labelled k zs' c' rest)) grown ∙ one_behind vs v (labelled k zs' c' rest)
    ∙ ap (λ o. behind vs (after o (λ r. after (labelled k r.numbers r.context rest) (λ q. Ok (s.more r.stmt q.0, q.1))))) (sym made)
    ∙ ap (behind vs) (sym (item_left k zs c ss i x inside is)) ∙ so_far

pub item_fault : {V W : Type 0} (see : V → Item) (see' : W → s.Stmts × Context) (k : Option Kind) (zs : List ℤ) (c : Context) (ss : List Spelled) (i : ℕ) (x : Spelled) (vs : List s.Stmt) (e : Stop) (whole : Answer (s.Stmts × Context))
    → i < length ss → x ≡ get_or ss i x → Gives see (Err e) (item k zs c (spelled x) (stmt c (spelled x))) → behind vs (labelled k zs c (spelled_stmts (drop i ss))) ≡ whole → Gives see' (Err e) whole
item_fault see see' k zs c ss i x vs (stop.Refused r) whole inside is fault so_far =
    let rest = spelled_stmts (drop (i + 1) ss) in
    sym so_far ∙ ap (behind vs) (item_left k zs c ss i x inside is) ∙ ap (λ o. behind vs (after o (λ r. after (labelled k r.numbers r.context rest) (λ q. Ok (s.more r.stmt q.0, q.1))))) fault
item_fault see see' k zs c ss i x vs stop.NoMemory whole inside is fault so_far = tt

pub labelled_done : (k : Option Kind) (zs : List ℤ) (c : Context) (ss : List Spelled) (i : ℕ) (vs : List s.Stmt) (whole : Answer (s.Stmts × Context)) → length ss ≤ i → behind vs (labelled k zs c (spelled_stmts (drop i ss))) ≡ whole → whole ≡ Ok (s.stmts_of vs, c)
labelled_done k zs c ss i vs whole all so_far =
    sym so_far ∙ at_drop_all (λ xs. behind vs (labelled k zs c (spelled_stmts xs))) ss i all ∙ ap (λ u. Ok (u, c)) (joined_stop vs)

pub ruleset labelled_laws = (item_turn, item_fault, labelled_done)

-- ---- an `if` with an `else`

pub if_else_is : (x : Spelled) (test : Expr) (first other a b : Spelled) (o : Option Spelled) → x.node ≡ node.If test first o → o ≡ Some other → a ≡ first → b ≡ other
    → p.if_else x.line (view_expr test) (spelled a) (spelled b) ≡ spelled x
if_else_is x test first other a b o is some a_is b_is =
    (λ i. p.if_else x.line (view_expr test) (spelled (a_is i)) (spelled (b_is i)))
    ∙ sym (ap (λ n. view_stmt_node n x.line) (is ∙ ap (λ q. node.If test first q) some) ∙ view_stmt_node-If test first (Some other) x.line)
