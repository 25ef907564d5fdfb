-- Statements, locals and parameters, one after another.
use Rattle.std.proofs.Common.{◌≡◌, ℕ, ◌+◌, ◌<◌, ◌≤◌, List, [], ◌∷◌, map, length, drop, get_or, Option, Ok, Err, refl, sym, ap, ◌∙◌, slice_get}
use Rattle.std.proofs.lemmas.List.{at_drop_more, at_drop_all}
use Rattle.wp_base.specs.declared.answers.Stop.{Stop}
use Rattle.wp_base.specs.declared.answers.Stop.TheVariants as stop
use Rattle.c_answers.specs.Answers.{Answer, after, Gives}
use Rattle.name_table.specs.Names.{Names}
use Rattle.name_table.specs.Nesting.{declared_in}
use Rattle.c_scopes.specs.declared.symbols.Object.{Object}
use Rattle.typed_unit.specs.declared.stmt.Stmt.{Stmt}
use Rattle.typed_unit.specs.declared.stmt.Declared.{Declared}
use Rattle.typed_unit.specs.View.{view_stmt, view_stmts, view_declared}
use Rattle.acsl_notes.specs.Notes.{Enclosing, Noted, noted, all_noted, named_from, with_object, with_locals}

-- ---- parameters

pub param_turn : (os : List Object) (i : ℕ) (o : Object) (bs next whole : List (Names ℕ)) → i < length os → o ≡ get_or os i o → next ≡ declared_in bs o.name i
    → named_from i (drop i os) bs ≡ whole → named_from (i + 1) (drop (i + 1) os) next ≡ whole
param_turn os i o bs next whole in_list is made so_far =
    ap (named_from (i + 1) (drop (i + 1) os)) made
    ∙ sym (at_drop_more (λ us. named_from i us bs) os i o in_list ∙ ap (λ u. named_from i (u ∷ drop (i + 1) os) bs) (sym is)) ∙ so_far

pub params_done : (os : List Object) (i : ℕ) (bs whole : List (Names ℕ)) → length os ≤ i → named_from i (drop i os) bs ≡ whole → bs ≡ whole
params_done os i bs whole all so_far = sym (at_drop_all (λ us. named_from i us bs) os i all) ∙ so_far

pub ruleset param_laws = (param_turn, params_done)

-- ---- locals

pub local_turn : (os : List Object) (ds : List Declared) (i : ℕ) (d : Declared) (k next whole : Noted) → i < length ds → d ≡ get_or ds i d → next ≡ with_object k d.local (slice_get os d.local)
    → with_locals os k (map view_declared (drop i ds)) ≡ whole → with_locals os next (map view_declared (drop (i + 1) ds)) ≡ whole
local_turn os ds i d k next whole in_list is made so_far =
    ap (λ j. with_locals os j (map view_declared (drop (i + 1) ds))) made
    ∙ sym (at_drop_more (λ us. with_locals os k (map view_declared us)) ds i d in_list ∙ ap (λ u. with_locals os k (map view_declared (u ∷ drop (i + 1) ds))) (sym is)) ∙ so_far

pub locals_done : (os : List Object) (ds : List Declared) (i : ℕ) (k whole : Noted) → length ds ≤ i → with_locals os k (map view_declared (drop i ds)) ≡ whole → k ≡ whole
locals_done os ds i k whole all so_far = sym (at_drop_all (λ us. with_locals os k (map view_declared us)) ds i all) ∙ so_far

pub ruleset local_laws = (local_turn, locals_done)

-- ---- statements

module _ (e : Enclosing) (entry : Option ℕ) where
  one_left : (k : Noted) (xs : List Stmt) (i : ℕ) (x : Stmt) → i < length xs → x ≡ get_or xs i x
      → all_noted e entry k (view_stmts (drop i xs)) ≡ after (noted e entry k (view_stmt x)) (λ j. all_noted e entry j (view_stmts (drop (i + 1) xs)))
  one_left k xs i x in_list is = at_drop_more (λ us. all_noted e entry k (view_stmts us)) xs i x in_list ∙ ap (λ u. all_noted e entry k (view_stmts (u ∷ drop (i + 1) xs))) (sym is)

  pub stmt_turn : (k next : Noted) (xs : List Stmt) (i : ℕ) (x : Stmt) (whole : Answer Noted) → i < length xs → x ≡ get_or xs i x → noted e entry k (view_stmt x) ≡ Ok next
      → all_noted e entry k (view_stmts (drop i xs)) ≡ whole → all_noted e entry next (view_stmts (drop (i + 1) xs)) ≡ whole
  stmt_turn k next xs i x whole in_list is made so_far =
      sym (one_left k xs i x in_list is ∙ ap (λ o. after o (λ j. all_noted e entry j (view_stmts (drop (i + 1) xs)))) made) ∙ so_far

  pub stmt_fault : {V W : Type 0} (see : V → Noted) (see' : W → Noted) (k : Noted) (xs : List Stmt) (i : ℕ) (x : Stmt) (r : Stop) (whole : Answer Noted) → i < length xs → x ≡ get_or xs i x
      → Gives see (Err r) (noted e entry k (view_stmt x)) → all_noted e entry k (view_stmts (drop i xs)) ≡ whole → Gives see' (Err r) whole
  stmt_fault see see' k xs i x (stop.Refused r) whole in_list is fault so_far =
      sym so_far ∙ one_left k xs i x in_list is ∙ ap (λ o. after o (λ j. all_noted e entry j (view_stmts (drop (i + 1) xs)))) fault
  stmt_fault see see' k xs i x stop.NoMemory whole in_list is fault so_far = tt

  pub stmts_done : (k : Noted) (xs : List Stmt) (i : ℕ) (whole : Answer Noted) → length xs ≤ i → all_noted e entry k (view_stmts (drop i xs)) ≡ whole → whole ≡ Ok k
  stmts_done k xs i whole all so_far = sym so_far ∙ at_drop_all (λ us. all_noted e entry k (view_stmts us)) xs i all

pub ruleset stmt_laws = (stmt_turn, stmt_fault, stmts_done)
