-- Lists that are made item by item.
use Rattle.std.proofs.Common.{◌≡◌, ℕ, ◌+◌, ◌<◌, ◌≤◌, Bool, false, List, [], ◌∷◌, ◌++◌, map, length, drop, get_or, Option, sym, ap, ◌∙◌, append_assoc, append-nil}
use Rattle.std.specs.Prelude.{slice_index_or}
use Rattle.std.specs.Option.{is_some, option_map}
use Rattle.std.proofs.lemmas.List.{at_drop_more, at_drop_all, map_push}
use Rattle.wp_base.specs.declared.kinds.CellKind.{CellKind}
use Rattle.typed_prog.specs.declared.tree.Value.{Value}
use Rattle.typed_prog.specs.View.{view_value}
use Rattle.c_scopes.specs.declared.symbols.Object.{Object}
use Rattle.c_scopes.specs.declared.symbols.Signature.{Signature}
use Rattle.c_scopes.specs.declared.symbols.Structure.{Structure}
use Rattle.typed_unit.specs.declared.stmt.Declared.{Declared}
use Rattle.typed_unit.specs.declared.stmt.Stmt.{Stmt}
use Rattle.typed_unit.specs.Unit as u
use Rattle.typed_unit.specs.View.{view_declared, view_inits, view_stmt, view_stmts}
use Rattle.acsl_names.specs.declared.names.Definition.{Definition as Declaration}
use Rattle.acsl_expand.specs.declared.expansion.Meant.{Meant}
use Rattle.acsl_expand.specs.Expansion.{Definition, view_all}
use Rattle.acsl_typing.specs.declared.annotations.Annotation.{Annotation as CodeAnnotation}
use Rattle.acsl_notes.specs.Notes.{Note}
use Rattle.acsl_typing.specs.Annotations.{Annotations, view_annotation}
use Rattle.acsl_annotated.specs.Annotated.{behind, meant_in, meant_from}
use Rattle.c_runs.specs.Program.{Stmts, Variable, Function}
use Rattle.core_trees.specs.declared.variables.FunctionVariable.{FunctionVariable}
use Rattle.core_trees.specs.View.{view_variable, view_variables}
use Rattle.program_trees.specs.declared.files.Function.{Function as CodeFunction}
use Rattle.program_trees.specs.View.{view_function}
use Rattle.c_programs.specs.Bodies.{has_init, valued, all_valued}
use Rattle.c_programs.specs.Files.{variable_of, variables_from, cells_in, clauses_for, notes_of, text_of, function_with, functions_from}

-- ---- one item more

-- what is made so far, seen, and what is to come
one_more : {C Y : Type 0} (view : C → Y) (made more : List C) (c : C) (y : Y) (left rest whole : List Y) → more ≡ made ++ c ∷ [] → view c ≡ y → left ≡ y ∷ rest
    → map view made ++ left ≡ whole → map view more ++ rest ≡ whole
one_more view made more c y left rest whole grown is splits so =
    ap (λ us. map view us ++ rest) grown ∙ ap (λ us. us ++ rest) (map_push view made c) ∙ append_assoc (map view made) (view c ∷ []) rest
    ∙ ap (λ v. map view made ++ v ∷ rest) is ∙ ap (λ us. map view made ++ us) (sym splits) ∙ so

-- the same with nothing to see
one_plain : {Y : Type 0} (made more : List Y) (y : Y) (left rest whole : List Y) → more ≡ made ++ y ∷ [] → left ≡ y ∷ rest → made ++ left ≡ whole → more ++ rest ≡ whole
one_plain made more y left rest whole grown splits so =
    ap (λ us. us ++ rest) grown ∙ append_assoc made (y ∷ []) rest ∙ ap (λ us. made ++ us) (sym splits) ∙ so

-- several more
several : {Y : Type 0} (made more ys : List Y) (left rest whole : List Y) → more ≡ made ++ ys → left ≡ ys ++ rest → made ++ left ≡ whole → more ++ rest ≡ whole
several made more ys left rest whole grown splits so =
    ap (λ us. us ++ rest) grown ∙ append_assoc made ys rest ∙ ap (λ us. made ++ us) (sym splits) ∙ so

none_left : {Y : Type 0} (made left whole : List Y) → left ≡ [] → made ++ left ≡ whole → made ≡ whole
none_left made left whole none so = sym (append-nil made) ∙ ap (λ us. made ++ us) (sym none) ∙ so

pub both_put : (xs ys zs us vs : List Bool) → ys ≡ xs ++ us → zs ≡ ys ++ vs → zs ≡ xs ++ (us ++ vs)
both_put xs ys zs us vs first second = second ∙ ap (λ ws. ws ++ vs) first ∙ append_assoc xs us vs

pub nothing_put : (xs : List Bool) → xs ≡ xs ++ []
nothing_put xs = sym (append-nil xs)

pub ruleset put_laws = (both_put, nothing_put)

-- ---- variables

pub variable_turn : (ss : List Structure) (ps vs : List Bool) (os : List Object) (i : ℕ) (o : Object) (made more : List FunctionVariable) (x : FunctionVariable) (p h : Bool) (whole : List Variable) → i < length os
    → o ≡ get_or os i o → p ≡ slice_index_or ps i false → h ≡ slice_index_or vs i false → view_variable x ≡ variable_of ss o p h → more ≡ made ++ x ∷ []
    → view_variables made ++ variables_from ss ps vs i (drop i os) ≡ whole → view_variables more ++ variables_from ss ps vs (i + 1) (drop (i + 1) os) ≡ whole
variable_turn ss ps vs os i o made more x p h whole in_list is plain value view grown =
    let rest = variables_from ss ps vs (i + 1) (drop (i + 1) os) in
    one_more view_variable made more x (variable_of ss o (slice_index_or ps i false) (slice_index_or vs i false)) (variables_from ss ps vs i (drop i os)) rest whole grown
    (view ∙ ap (λ b. variable_of ss o b h) plain ∙ ap (variable_of ss o (slice_index_or ps i false)) value)
    (at_drop_more (variables_from ss ps vs i) os i o in_list ∙ ap (λ z. variable_of ss z (slice_index_or ps i false) (slice_index_or vs i false) ∷ rest) (sym is))

pub variables_done : (ss : List Structure) (ps vs : List Bool) (os : List Object) (i : ℕ) (made : List FunctionVariable) (whole : List Variable) → length os ≤ i
    → view_variables made ++ variables_from ss ps vs i (drop i os) ≡ whole → view_variables made ≡ whole
variables_done ss ps vs os i made whole past = none_left (view_variables made) (variables_from ss ps vs i (drop i os)) whole (at_drop_all (variables_from ss ps vs i) os i past)

pub ruleset variable_laws = (variable_turn, variables_done)

-- ---- values

pub init_turn : (ds : List Declared) (i : ℕ) (d : Declared) (made more whole : List Bool) (b : Bool) → i < length ds → d ≡ get_or ds i d → b ≡ has_init (view_declared d) → more ≡ made ++ b ∷ []
    → made ++ map has_init (map view_declared (drop i ds)) ≡ whole → more ++ map has_init (map view_declared (drop (i + 1) ds)) ≡ whole
init_turn ds i d made more whole b in_list is view grown =
    let rest = map has_init (map view_declared (drop (i + 1) ds)) in
    one_plain made more b (map has_init (map view_declared (drop i ds))) rest whole grown
    (at_drop_more (λ zs. map has_init (map view_declared zs)) ds i d in_list ∙ ap (λ z. has_init (view_declared z) ∷ rest) (sym is) ∙ ap (λ c. c ∷ rest) (sym view))

pub inits_done : (ds : List Declared) (i : ℕ) (made whole : List Bool) → length ds ≤ i → made ++ map has_init (map view_declared (drop i ds)) ≡ whole → made ≡ whole
inits_done ds i made whole past = none_left made (map has_init (map view_declared (drop i ds))) whole (at_drop_all (λ zs. map has_init (map view_declared zs)) ds i past)

pub ruleset init_laws = (init_turn, inits_done)

pub valued_turn : (xs : List Stmt) (i : ℕ) (x : Stmt) (made more whole : List Bool) → i < length xs → x ≡ get_or xs i x → more ≡ made ++ valued (view_stmt x)
    → made ++ all_valued (view_stmts (drop i xs)) ≡ whole → more ++ all_valued (view_stmts (drop (i + 1) xs)) ≡ whole
valued_turn xs i x made more whole in_list is grown =
    let rest = all_valued (view_stmts (drop (i + 1) xs)) in
    several made more (valued (view_stmt x)) (all_valued (view_stmts (drop i xs))) rest whole grown
    (at_drop_more (λ zs. all_valued (view_stmts zs)) xs i x in_list ∙ ap (λ z. valued (view_stmt z) ++ rest) (sym is))

pub valued_done : (xs : List Stmt) (i : ℕ) (made whole : List Bool) → length xs ≤ i → made ++ all_valued (view_stmts (drop i xs)) ≡ whole → made ≡ whole
valued_done xs i made whole past = none_left made (all_valued (view_stmts (drop i xs))) whole (at_drop_all (λ zs. all_valued (view_stmts zs)) xs i past)

pub ruleset valued_laws = (valued_turn, valued_done)

pub file_turn : (xs : List (Option Value)) (i : ℕ) (x : Option Value) (made more whole : List Bool) (b : Bool) → i < length xs → x ≡ get_or xs i x → b ≡ is_some (option_map view_value x) → more ≡ made ++ b ∷ []
    → made ++ map is_some (view_inits (drop i xs)) ≡ whole → more ++ map is_some (view_inits (drop (i + 1) xs)) ≡ whole
file_turn xs i x made more whole b in_list is view grown =
    let rest = map is_some (view_inits (drop (i + 1) xs)) in
    one_plain made more b (map is_some (view_inits (drop i xs))) rest whole grown
    (at_drop_more (λ zs. map is_some (view_inits zs)) xs i x in_list ∙ ap (λ z. is_some (option_map view_value z) ∷ rest) (sym is) ∙ ap (λ c. c ∷ rest) (sym view))

pub file_done : (xs : List (Option Value)) (i : ℕ) (made whole : List Bool) → length xs ≤ i → made ++ map is_some (view_inits (drop i xs)) ≡ whole → made ≡ whole
file_done xs i made whole past = none_left made (map is_some (view_inits (drop i xs))) whole (at_drop_all (λ zs. map is_some (view_inits zs)) xs i past)

pub ruleset file_laws = (file_turn, file_done)

-- ---- definitions

pub nothing_meant : (ms : List Meant) → view_all ms ≡ view_all ms ++ []
nothing_meant ms = sym (append-nil (view_all ms))

pub meant_put : (ms all : List Meant) (m : Meant) (d : Definition) → all ≡ ms ++ m ∷ [] → view_all (m ∷ []) ≡ d ∷ [] → view_all all ≡ view_all ms ++ d ∷ []
meant_put ms all m d grown is = ap view_all grown ∙ map_push _ ms m ∙ ap (λ us. view_all ms ++ us) is

module _ (ds : List Declaration) where
  pub meant_turn : (xs : List CodeAnnotation) (i : ℕ) (x : CodeAnnotation) (k n : ℕ) (ms more : List Meant) (whole : List Definition) → i < length xs → x ≡ get_or xs i x
      → view_all more ≡ view_all ms ++ meant_in ds k (view_annotation x) → n ≡ behind k (view_annotation x)
      → view_all ms ++ meant_from ds k (map view_annotation (drop i xs)) ≡ whole → view_all more ++ meant_from ds n (map view_annotation (drop (i + 1) xs)) ≡ whole
  meant_turn xs i x k n ms more whole in_list is made next =
      let rest : ℕ → List Definition = λ j. meant_from ds j (map view_annotation (drop (i + 1) xs)) in
      several (view_all ms) (view_all more) (meant_in ds k (view_annotation x)) (meant_from ds k (map view_annotation (drop i xs))) (rest n) whole made
      (at_drop_more (λ zs. meant_from ds k (map view_annotation zs)) xs i x in_list
      ∙ ap (λ z. meant_in ds k (view_annotation z) ++ meant_from ds (behind k (view_annotation z)) (map view_annotation (drop (i + 1) xs))) (sym is)
      ∙ ap (λ j. meant_in ds k (view_annotation x) ++ rest j) (sym next))

  pub meant_done : (xs : List CodeAnnotation) (i k : ℕ) (ms : List Meant) (whole : List Definition) → length xs ≤ i → view_all ms ++ meant_from ds k (map view_annotation (drop i xs)) ≡ whole → view_all ms ≡ whole
  meant_done xs i k ms whole past = none_left (view_all ms) (meant_from ds k (map view_annotation (drop i xs))) whole (at_drop_all (λ zs. meant_from ds k (map view_annotation zs)) xs i past)

pub ruleset meant_laws = (meant_turn, meant_done)

-- ---- functions and structs

module _ (t : u.Typed) (a : Annotations) where
  pub function_turn : (gs : List Signature) (i : ℕ) (g : Signature) (nss : List (List Note)) (made more : List (Option CodeFunction)) (x : Option CodeFunction) (whole : List (Option (Function Stmts))) → i < length gs
      → g ≡ get_or gs i g → nss ≡ notes_of t.parts a.items
      → option_map view_function x ≡ option_map (function_with t.file.structs g (clauses_for i t.parts a.items)) (text_of i t.bodies nss) → more ≡ made ++ x ∷ []
      → map (option_map view_function) made ++ functions_from t a i (drop i gs) ≡ whole → map (option_map view_function) more ++ functions_from t a (i + 1) (drop (i + 1) gs) ≡ whole
  function_turn gs i g nss made more x whole in_list is its view grown =
      let rest = functions_from t a (i + 1) (drop (i + 1) gs) in
      one_more (option_map view_function) made more x (option_map (function_with t.file.structs g (clauses_for i t.parts a.items)) (text_of i t.bodies (notes_of t.parts a.items)))
      (functions_from t a i (drop i gs)) rest whole grown (view ∙ ap (λ us. option_map (function_with t.file.structs g (clauses_for i t.parts a.items)) (text_of i t.bodies us)) its)
      (at_drop_more (functions_from t a i) gs i g in_list
      ∙ ap (λ z. option_map (function_with t.file.structs z (clauses_for i t.parts a.items)) (text_of i t.bodies (notes_of t.parts a.items)) ∷ rest) (sym is))

  pub functions_done : (gs : List Signature) (i : ℕ) (made : List (Option CodeFunction)) (whole : List (Option (Function Stmts))) → length gs ≤ i
      → map (option_map view_function) made ++ functions_from t a i (drop i gs) ≡ whole → map (option_map view_function) made ≡ whole
  functions_done gs i made whole past =
      none_left (map (option_map view_function) made) (functions_from t a i (drop i gs)) whole (at_drop_all (functions_from t a i) gs i past)

pub ruleset function_laws = (function_turn, functions_done)

pub struct_turn : (ss : List Structure) (i : ℕ) (x : Structure) (made more whole : List (List CellKind)) (ks : List CellKind) → i < length ss → x ≡ get_or ss i x → ks ≡ cells_in x → more ≡ made ++ ks ∷ []
    → made ++ map cells_in (drop i ss) ≡ whole → more ++ map cells_in (drop (i + 1) ss) ≡ whole
struct_turn ss i x made more whole ks in_list is view grown =
    let rest = map cells_in (drop (i + 1) ss) in
    one_plain made more ks (map cells_in (drop i ss)) rest whole grown (at_drop_more (map cells_in) ss i x in_list ∙ ap (λ z. cells_in z ∷ rest) (sym is) ∙ ap (λ c. c ∷ rest) (sym view))

pub structs_done : (ss : List Structure) (i : ℕ) (made whole : List (List CellKind)) → length ss ≤ i → made ++ map cells_in (drop i ss) ≡ whole → made ≡ whole
structs_done ss i made whole past = none_left made (map cells_in (drop i ss)) whole (at_drop_all (map cells_in) ss i past)

pub ruleset struct_laws = (struct_turn, structs_done)
