-- Functions and files, in the words of the code.
use Rattle.std.proofs.Common.{◌≡◌, Bool, true, if◌then◌else◌, ◌<◌, ◌≤◌, ◌++◌, length, get_or, arith, ℕ, zero, suc, List, [], ◌∷◌, map, flat_map, Option, Some, None, refl, sym, ap, subst, ◌∙◌}
use Rattle.std.specs.Option.{option_map}
use Rattle.acsl_trees.specs.Tree.{view_tree}
use Rattle.acsl_expand.specs.declared.expansion.Meant.{Meant}
use Rattle.acsl_expand.specs.Expansion.{view_meant, view_all}
use Rattle.checked_trees.specs.declared.files.CheckedFunction.{CheckedFunction}
use Rattle.checked_trees.specs.View.{view_checked_function}
use Rattle.c_runs.specs.Program.{Program, Facts}
use Rattle.c_runs.specs.Tree.{Steps}
use Rattle.program_trees.specs.Files.{at}
use Rattle.typed_unit.specs.Unit as u
use Rattle.typed_unit.specs.declared.unit.Body.{Body}
use Rattle.typed_unit.specs.View.{view_body}
use Rattle.program_cells.specs.declared.cells.Cells.{Cells}
use Rattle.program_cells.specs.Parts.{Part}
use Rattle.program_cells.specs.Trees.{Declared, tree_parts}
use Rattle.program_cells.specs.Programs.{declared_in, declared_alone, function_parts, function_parts_if, body_parts, bodies_parts, definition_parts, definitions_parts}
use Rattle.program_cells.specs.View.{Adds}
use Rattle.program_cells.proofs.Adding.{nothing}

found_at : (fs : List (Option CheckedFunction)) (n : ℕ) (d : Option CheckedFunction) → n < length fs
    → at (map (option_map view_checked_function) fs) n ≡ option_map view_checked_function (get_or fs n d)
found_at [] n d there = absurd (omega arith)
found_at (f ∷ fs) zero d there = refl
found_at (f ∷ fs) (suc n) d there = found_at fs n d (omega arith)

missing_at : (fs : List (Option CheckedFunction)) (n : ℕ) → length fs ≤ n → at (map (option_map view_checked_function) fs) n ≡ None
missing_at [] n end = refl
missing_at (f ∷ fs) zero end = absurd (omega arith)
missing_at (f ∷ fs) (suc n) end = missing_at fs n (omega arith)

module _ (p : Facts) (d : Declared) (fs : List (Option CheckedFunction)) (n : ℕ) where
  pub function_added : (x : Option CheckedFunction) (f : CheckedFunction) (a b : Cells) → n < length fs → x ≡ get_or fs n x → x ≡ Some f
      → Adds a b (function_parts p d (view_checked_function f)) → Adds a b (function_parts_if p d (at (map (option_map view_checked_function) fs) n))
  function_added x f a b there is some h =
      subst (λ o. Adds a b (function_parts_if p d o)) (sym (found_at fs n x there ∙ ap (option_map view_checked_function) (sym is ∙ some))) h

  pub none_added : (x : Option CheckedFunction) (a : Cells) → n < length fs → x ≡ get_or fs n x → x ≡ None
      → Adds a a (function_parts_if p d (at (map (option_map view_checked_function) fs) n))
  none_added x a there is none =
      subst (λ o. Adds a a (function_parts_if p d o)) (sym (found_at fs n x there ∙ ap (option_map view_checked_function) (sym is ∙ none))) (nothing a)

  pub missing_added : (a : Cells) → length fs ≤ n → Adds a a (function_parts_if p d (at (map (option_map view_checked_function) fs) n))
  missing_added a end = subst (λ o. Adds a a (function_parts_if p d o)) (sym (missing_at fs n end)) (nothing a)

pub ruleset found_laws = (function_added, none_added, missing_added)

module _ (t : u.Typed) (q : Program Steps) where
  pub body_added : (b : u.Body) (d : Declared) (a c : Cells) → d ≡ declared_in t q b → Adds a c (function_parts_if q.facts d (q.functions b.function))
      → Adds a c (body_parts t q b)
  body_added b d a c is h = subst (λ (e : Declared). Adds a c (function_parts_if q.facts e (q.functions b.function))) is h

  pub definition_added : (m : Meant) (d : Declared) (a c : Cells) → m.is_recursive ≡ true → d ≡ declared_alone t q → Adds a c (tree_parts q.facts [] d (view_tree m.body))
      → Adds a c (definition_parts t q (view_meant m))
  definition_added m d a c so is h =
      subst (λ (b : Bool). Adds a c (if b then tree_parts q.facts [] (declared_alone t q) (view_tree m.body) else [])) (sym so)
      (subst (λ (e : Declared). Adds a c (tree_parts q.facts [] e (view_tree m.body))) is h)

  abbrev pub code_body : Body → List Part
  code_body b = body_parts t q (view_body b)

  pub parts_of_bodies : (bs : List Body) → bodies_parts t q (map view_body bs) ≡ flat_map code_body bs
  parts_of_bodies [] = refl
  parts_of_bodies (b ∷ bs) = ap (λ ps. code_body b ++ ps) (parts_of_bodies bs)

  abbrev pub code_definition : Meant → List Part
  code_definition d = definition_parts t q (view_meant d)

  pub parts_of_definitions : (ds : List Meant) → definitions_parts t q (view_all ds) ≡ flat_map code_definition ds
  parts_of_definitions [] = refl
  parts_of_definitions (d ∷ ds) = ap (λ ps. code_definition d ++ ps) (parts_of_definitions ds)
