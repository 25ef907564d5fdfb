-- Tests of lists, item by item.
use Rattle.std.proofs.Common.{◌≡◌, ℕ, suc, ◌+◌, ◌<◌, ◌≤◌, ◌==◌, Bool, true, false, not, ◌&&◌, List, [], ◌∷◌, map, length, Option, drop, get_or, refl, sym, ap, ◌∙◌, arith}
use Rattle.std.specs.Prelude.{slice_index_or}
use Rattle.std.specs.List.{list_all}
use Rattle.std.specs.Option.{option_map}
use Rattle.std.proofs.lemmas.Bool.Decides.{nat_tests}
use Rattle.std.proofs.lemmas.List.{at_drop_more, at_drop_all}
use Rattle.wp_base.specs.declared.kinds.Kind.{Kind}
use Rattle.c_kinds.specs.declared.models.Machdep.{Machdep}
use Rattle.typed_prog.specs.declared.tree.Value.{Value}
use Rattle.typed_prog.specs.View.{view_value, view_values}
use Rattle.typed_prog.specs.Tree.{values_of}
use Rattle.c_scopes.specs.declared.symbols.Object.{Object}
use Rattle.typed_unit.specs.declared.stmt.Declared.{Declared}
use Rattle.typed_unit.specs.declared.stmt.Stmt.{Stmt}
use Rattle.typed_unit.specs.declared.unit.Body.{Body}
use Rattle.typed_unit.specs.View.{view_declared, view_stmt, view_stmts, view_body}
use Rattle.plain_test.specs.Plain.{is_integer_type, is_one, is_plain_value, are_plain_values, if_plain, is_plain_declared, label_fits, labels_fit, is_plain_stmt, are_plain_stmts, are_plain_objects, is_plain_body}

-- ---- one item

more_than_one : (n : ℕ) → (suc (suc n) == 1) ≡ false
more_than_one n = grind (arith, nat_tests)

pub one_is : (vs : List Value) → (length vs == 1) ≡ is_one (values_of (view_values vs))
one_is [] = refl
one_is (v ∷ []) = refl
one_is (v ∷ w ∷ vs) = more_than_one (length vs)

pub ruleset one_laws = (one_is)

-- ---- in turn

passed : (b c all : Bool) → not b ≡ false → (b && c) ≡ all → c ≡ all
passed true c all h k = k
passed false c all h k = absurd cc

failed : (b c all : Bool) → not b ≡ true → (b && c) ≡ all → false ≡ all
failed true c all h k = absurd cc
failed false c all h k = k

pub values_turn : (m : Machdep) (xs : List Value) (i : ℕ) (x : Value) (b all : Bool) → i < length xs → x ≡ get_or xs i x → b ≡ is_plain_value m (view_value x) → not b ≡ false → are_plain_values m (values_of (view_values (drop i xs))) ≡ all
    → are_plain_values m (values_of (view_values (drop (i + 1) xs))) ≡ all
values_turn m xs i x b all in_list is so fits so_far =
    passed b (are_plain_values m (values_of (view_values (drop (i + 1) xs)))) all fits (ap (λ u. u && are_plain_values m (values_of (view_values (drop (i + 1) xs)))) (so ∙ ap (λ z. is_plain_value m (view_value z)) is) ∙ sym (at_drop_more (λ zs. are_plain_values m (values_of (view_values zs))) xs i x in_list) ∙ so_far)

pub values_fault : (m : Machdep) (xs : List Value) (i : ℕ) (x : Value) (b all : Bool) → i < length xs → x ≡ get_or xs i x → b ≡ is_plain_value m (view_value x) → not b ≡ true → are_plain_values m (values_of (view_values (drop i xs))) ≡ all → false ≡ all
values_fault m xs i x b all in_list is so fails so_far =
    failed b (are_plain_values m (values_of (view_values (drop (i + 1) xs)))) all fails (ap (λ u. u && are_plain_values m (values_of (view_values (drop (i + 1) xs)))) (so ∙ ap (λ z. is_plain_value m (view_value z)) is) ∙ sym (at_drop_more (λ zs. are_plain_values m (values_of (view_values zs))) xs i x in_list) ∙ so_far)

pub values_done : (m : Machdep) (xs : List Value) (i : ℕ) (all : Bool) → length xs ≤ i → are_plain_values m (values_of (view_values (drop i xs))) ≡ all → true ≡ all
values_done m xs i all past so_far = sym (at_drop_all (λ zs. are_plain_values m (values_of (view_values zs))) xs i past) ∙ so_far

pub ruleset values_laws = (values_turn, values_fault, values_done)

pub locals_turn : (m : Machdep) (xs : List Declared) (i : ℕ) (x : Declared) (b all : Bool) → i < length xs → x ≡ get_or xs i x → b ≡ if_plain m (option_map view_value x.init) → not b ≡ false → list_all (is_plain_declared m) (map view_declared (drop i xs)) ≡ all
    → list_all (is_plain_declared m) (map view_declared (drop (i + 1) xs)) ≡ all
locals_turn m xs i x b all in_list is so fits so_far =
    passed b (list_all (is_plain_declared m) (map view_declared (drop (i + 1) xs))) all fits (ap (λ u. u && list_all (is_plain_declared m) (map view_declared (drop (i + 1) xs))) (so ∙ ap (λ z. if_plain m (option_map view_value z.init)) is) ∙ sym (at_drop_more (λ zs. list_all (is_plain_declared m) (map view_declared zs)) xs i x in_list) ∙ so_far)

pub locals_fault : (m : Machdep) (xs : List Declared) (i : ℕ) (x : Declared) (b all : Bool) → i < length xs → x ≡ get_or xs i x → b ≡ if_plain m (option_map view_value x.init) → not b ≡ true → list_all (is_plain_declared m) (map view_declared (drop i xs)) ≡ all → false ≡ all
locals_fault m xs i x b all in_list is so fails so_far =
    failed b (list_all (is_plain_declared m) (map view_declared (drop (i + 1) xs))) all fails (ap (λ u. u && list_all (is_plain_declared m) (map view_declared (drop (i + 1) xs))) (so ∙ ap (λ z. if_plain m (option_map view_value z.init)) is) ∙ sym (at_drop_more (λ zs. list_all (is_plain_declared m) (map view_declared zs)) xs i x in_list) ∙ so_far)

pub locals_done : (m : Machdep) (xs : List Declared) (i : ℕ) (all : Bool) → length xs ≤ i → list_all (is_plain_declared m) (map view_declared (drop i xs)) ≡ all → true ≡ all
locals_done m xs i all past so_far = sym (at_drop_all (λ zs. list_all (is_plain_declared m) (map view_declared zs)) xs i past) ∙ so_far

pub ruleset locals_laws = (locals_turn, locals_fault, locals_done)

pub stmts_turn : (m : Machdep) (xs : List Stmt) (i : ℕ) (x : Stmt) (b all : Bool) → i < length xs → x ≡ get_or xs i x → b ≡ is_plain_stmt m (view_stmt x) → not b ≡ false → are_plain_stmts m (view_stmts (drop i xs)) ≡ all
    → are_plain_stmts m (view_stmts (drop (i + 1) xs)) ≡ all
stmts_turn m xs i x b all in_list is so fits so_far =
    passed b (are_plain_stmts m (view_stmts (drop (i + 1) xs))) all fits (ap (λ u. u && are_plain_stmts m (view_stmts (drop (i + 1) xs))) (so ∙ ap (λ z. is_plain_stmt m (view_stmt z)) is) ∙ sym (at_drop_more (λ zs. are_plain_stmts m (view_stmts zs)) xs i x in_list) ∙ so_far)

pub stmts_fault : (m : Machdep) (xs : List Stmt) (i : ℕ) (x : Stmt) (b all : Bool) → i < length xs → x ≡ get_or xs i x → b ≡ is_plain_stmt m (view_stmt x) → not b ≡ true → are_plain_stmts m (view_stmts (drop i xs)) ≡ all → false ≡ all
stmts_fault m xs i x b all in_list is so fails so_far =
    failed b (are_plain_stmts m (view_stmts (drop (i + 1) xs))) all fails (ap (λ u. u && are_plain_stmts m (view_stmts (drop (i + 1) xs))) (so ∙ ap (λ z. is_plain_stmt m (view_stmt z)) is) ∙ sym (at_drop_more (λ zs. are_plain_stmts m (view_stmts zs)) xs i x in_list) ∙ so_far)

pub stmts_done : (m : Machdep) (xs : List Stmt) (i : ℕ) (all : Bool) → length xs ≤ i → are_plain_stmts m (view_stmts (drop i xs)) ≡ all → true ≡ all
stmts_done m xs i all past so_far = sym (at_drop_all (λ zs. are_plain_stmts m (view_stmts zs)) xs i past) ∙ so_far

pub ruleset stmts_laws = (stmts_turn, stmts_fault, stmts_done)

pub labels_turn : (m : Machdep) (k : Option Kind) (xs : List Stmt) (i : ℕ) (x : Stmt) (b all : Bool) → i < length xs → x ≡ get_or xs i x → b ≡ label_fits m k (view_stmt x) → not b ≡ false → labels_fit m k (view_stmts (drop i xs)) ≡ all
    → labels_fit m k (view_stmts (drop (i + 1) xs)) ≡ all
labels_turn m k xs i x b all in_list is so fits so_far =
    passed b (labels_fit m k (view_stmts (drop (i + 1) xs))) all fits (ap (λ u. u && labels_fit m k (view_stmts (drop (i + 1) xs))) (so ∙ ap (λ z. label_fits m k (view_stmt z)) is) ∙ sym (at_drop_more (λ zs. labels_fit m k (view_stmts zs)) xs i x in_list) ∙ so_far)

pub labels_fault : (m : Machdep) (k : Option Kind) (xs : List Stmt) (i : ℕ) (x : Stmt) (b all : Bool) → i < length xs → x ≡ get_or xs i x → b ≡ label_fits m k (view_stmt x) → not b ≡ true → labels_fit m k (view_stmts (drop i xs)) ≡ all → false ≡ all
labels_fault m k xs i x b all in_list is so fails so_far =
    failed b (labels_fit m k (view_stmts (drop (i + 1) xs))) all fails (ap (λ u. u && labels_fit m k (view_stmts (drop (i + 1) xs))) (so ∙ ap (λ z. label_fits m k (view_stmt z)) is) ∙ sym (at_drop_more (λ zs. labels_fit m k (view_stmts zs)) xs i x in_list) ∙ so_far)

pub labels_done : (m : Machdep) (k : Option Kind) (xs : List Stmt) (i : ℕ) (all : Bool) → length xs ≤ i → labels_fit m k (view_stmts (drop i xs)) ≡ all → true ≡ all
labels_done m k xs i all past so_far = sym (at_drop_all (λ zs. labels_fit m k (view_stmts zs)) xs i past) ∙ so_far

pub ruleset labels_laws = (labels_turn, labels_fault, labels_done)

pub bodies_turn : (m : Machdep) (xs : List Body) (i : ℕ) (x : Body) (b all : Bool) → i < length xs → x ≡ get_or xs i x → b ≡ is_plain_body m (view_body x) → not b ≡ false → list_all (is_plain_body m) (map view_body (drop i xs)) ≡ all
    → list_all (is_plain_body m) (map view_body (drop (i + 1) xs)) ≡ all
bodies_turn m xs i x b all in_list is so fits so_far =
    passed b (list_all (is_plain_body m) (map view_body (drop (i + 1) xs))) all fits (ap (λ u. u && list_all (is_plain_body m) (map view_body (drop (i + 1) xs))) (so ∙ ap (λ z. is_plain_body m (view_body z)) is) ∙ sym (at_drop_more (λ zs. list_all (is_plain_body m) (map view_body zs)) xs i x in_list) ∙ so_far)

pub bodies_fault : (m : Machdep) (xs : List Body) (i : ℕ) (x : Body) (b all : Bool) → i < length xs → x ≡ get_or xs i x → b ≡ is_plain_body m (view_body x) → not b ≡ true → list_all (is_plain_body m) (map view_body (drop i xs)) ≡ all → false ≡ all
bodies_fault m xs i x b all in_list is so fails so_far =
    failed b (list_all (is_plain_body m) (map view_body (drop (i + 1) xs))) all fails (ap (λ u. u && list_all (is_plain_body m) (map view_body (drop (i + 1) xs))) (so ∙ ap (λ z. is_plain_body m (view_body z)) is) ∙ sym (at_drop_more (λ zs. list_all (is_plain_body m) (map view_body zs)) xs i x in_list) ∙ so_far)

pub bodies_done : (m : Machdep) (xs : List Body) (i : ℕ) (all : Bool) → length xs ≤ i → list_all (is_plain_body m) (map view_body (drop i xs)) ≡ all → true ≡ all
bodies_done m xs i all past so_far = sym (at_drop_all (λ zs. list_all (is_plain_body m) (map view_body zs)) xs i past) ∙ so_far

pub ruleset bodies_laws = (bodies_turn, bodies_fault, bodies_done)

-- of objects from this number on

pub objects_turn : (ps : List Bool) (xs : List Object) (i : ℕ) (x : Object) (b all : Bool) → i < length xs → x ≡ get_or xs i x → b ≡ (slice_index_or ps i false && is_integer_type x.ty) → not b ≡ false
    → are_plain_objects ps i (drop i xs) ≡ all → are_plain_objects ps (i + 1) (drop (i + 1) xs) ≡ all
objects_turn ps xs i x b all in_list is so fits so_far =
    let rest = are_plain_objects ps (i + 1) (drop (i + 1) xs) in
    passed b rest all fits (ap (λ u. u && rest) (so ∙ ap (λ (z : Object). slice_index_or ps i false && is_integer_type z.ty) is) ∙ sym (at_drop_more (are_plain_objects ps i) xs i x in_list) ∙ so_far)

pub objects_fault : (ps : List Bool) (xs : List Object) (i : ℕ) (x : Object) (b all : Bool) → i < length xs → x ≡ get_or xs i x → b ≡ (slice_index_or ps i false && is_integer_type x.ty) → not b ≡ true
    → are_plain_objects ps i (drop i xs) ≡ all → false ≡ all
objects_fault ps xs i x b all in_list is so fails so_far =
    let rest = are_plain_objects ps (i + 1) (drop (i + 1) xs) in
    failed b rest all fails (ap (λ u. u && rest) (so ∙ ap (λ (z : Object). slice_index_or ps i false && is_integer_type z.ty) is) ∙ sym (at_drop_more (are_plain_objects ps i) xs i x in_list) ∙ so_far)

pub objects_done : (ps : List Bool) (xs : List Object) (i : ℕ) (all : Bool) → length xs ≤ i → are_plain_objects ps i (drop i xs) ≡ all → true ≡ all
objects_done ps xs i all past so_far = sym (at_drop_all (are_plain_objects ps i) xs i past) ∙ so_far

pub ruleset objects_laws = (objects_turn, objects_fault, objects_done)
