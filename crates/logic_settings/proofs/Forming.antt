-- Definitions in form, in the words of the code.
use Rattle.std.proofs.Common.{◌≡◌, ℕ, zero, suc, ◌+◌, ◌<◌, ◌≤◌, Bool, true, false, ◌&&◌, if◌then◌else◌, List, [], ◌∷◌, map, length, drop, get_or, refl, sym, ap, ◌∙◌, arith}
use Rattle.std.specs.List.{list_all}
use Rattle.std.proofs.lemmas.Bool.{and_parts, false≢true}
use Rattle.std.proofs.lemmas.List.{at_drop_more, at_drop_all}
use Rattle.wp_base.specs.declared.kinds.CellKind.{CellKind}
use Rattle.acsl_trees.specs.declared.tree.Tree.{Tree as Code, out-Tree}
use Rattle.acsl_trees.specs.Tree.{Tree, node, trees_of, view_tree, view_trees}
use Rattle.acsl_expand.specs.declared.expansion.Meant.{Meant}
use Rattle.acsl_expand.specs.Expansion.{nought, view_meant, view_all}
use Rattle.c_runs.specs.Truth.{kid}
use Rattle.c_runs.specs.Program.{Facts}
use Rattle.acsl_encode.specs.Readings as readings
use Rattle.annotation_words.specs.View.{view_named}
use Rattle.annotation_words.specs.declared.readings.Named.{Named}
use Rattle.plain_annotations.specs.Places.{is_one, are_none, is_given, takes_integers}
use Rattle.logic_order.specs.Names.{FileNames}
use Rattle.logic_order.specs.Order.{called_fits, has_simple_parts, is_function, told_as, definition_fits, all_fit}
use Rattle.logic_order.specs.Recursive.{is_recursion, descends}
use Rattle.logic_order.specs.Simple.{is_simple}
use Rattle.logic_trees.proofs.Kids.{view_whole}

-- ---- the last parameter

pub descends_none : (n : ℕ) (ps : List Named) (t : Tree) → length ps ≡ 0 → false ≡ descends n (map view_named ps) t
descends_none n [] t none = refl
descends_none n (p ∷ ps) t none = absurd (omega (arith, none))

as_many : (ps : List Named) → length (map view_named ps) ≡ length ps
as_many [] = refl
as_many (p ∷ ps) = ap suc (as_many ps)

pub descends_by : (n : ℕ) (ps : List Named) (t : Tree) (i : ℕ) (b : Bool) → b ≡ is_recursion n i t → suc i ≡ length ps → b ≡ descends n (map view_named ps) t
descends_by n [] t i b made last = absurd (omega (arith, last))
descends_by n (p ∷ ps) t i b made last = let same : i ≡ length ps = omega (arith, last) in made ∙ ap (λ k. is_recursion n k t) (same ∙ sym (as_many ps))

pub ruleset descends_laws = (descends_none, descends_by)

-- ---- kids

kid_same : (u : Code) (ks : List Code) (at : ℕ) → ks ≡ (out-Tree u).kids → kid (node (out-Tree u).head (trees_of (view_trees ks))) at ≡ kid (view_tree u) at
kid_same u ks at is = ap (λ vs. kid (node (out-Tree u).head (trees_of (view_trees vs))) at) is ∙ ap (λ t. kid t at) (sym (view_whole u))

kid_at : (head : _) (ks : List Code) (at : ℕ) (x : Code) → at < length ks → x ≡ get_or ks at x → view_tree x ≡ kid (node head (trees_of (view_trees ks))) at
kid_at head [] at x l is = absurd (omega (arith, l))
kid_at head (k ∷ ks) zero x l is = ap view_tree is
kid_at head (k ∷ ks) (suc at) x l is = kid_at head ks at x (omega (arith, l)) is

kid_past : (head : _) (ks : List Code) (at : ℕ) → length ks ≤ at → nought ≡ kid (node head (trees_of (view_trees ks))) at
kid_past head [] at l = refl
kid_past head (k ∷ ks) zero l = absurd (omega (arith, l))
kid_past head (k ∷ ks) (suc at) l = kid_past head ks at (omega (arith, l))

pub kid_there : (u : Code) (ks : List Code) (at : ℕ) (x : Code) → ks ≡ (out-Tree u).kids → at < length ks → x ≡ get_or ks at x → view_tree x ≡ kid (view_tree u) at
kid_there u ks at x is l found = kid_at (out-Tree u).head ks at x l found ∙ kid_same u ks at is

pub kid_nowhere : (u : Code) (ks : List Code) (at : ℕ) → ks ≡ (out-Tree u).kids → length ks ≤ at → nought ≡ kid (view_tree u) at
kid_nowhere u ks at is l = kid_past (out-Tree u).head ks at l ∙ kid_same u ks at is

pub simple_there : (u : Code) (ks : List Code) (at : ℕ) (x : Code) (b : Bool) → ks ≡ (out-Tree u).kids → at < length ks → x ≡ get_or ks at x → b ≡ is_simple (view_tree x)
    → b ≡ is_simple (kid (view_tree u) at)
simple_there u ks at x b is l found made = made ∙ ap is_simple (kid_there u ks at x is l found)

pub simple_nowhere : (u : Code) (ks : List Code) (at : ℕ) → ks ≡ (out-Tree u).kids → length ks ≤ at → true ≡ is_simple (kid (view_tree u) at)
simple_nowhere u ks at is l = ap is_simple (kid_nowhere u ks at is l)

pub ruleset kid_laws = (simple_there, simple_nowhere)

-- ---- functions

no_cells : (ks : List CellKind) → are_none ks ≡ true → ks ≡ []
no_cells [] e = refl
no_cells (k ∷ ks) e = absurd (false≢true e)

pub takes_none : (p : Facts) (c : readings.Called) → takes_integers p c ≡ true → c.memories ≡ []
takes_none p c h =
    let first = and_parts (list_all is_one c.params) (are_none c.memories && list_all (is_given p) c.globals) h in
    no_cells c.memories (and_parts (are_none c.memories) (list_all (is_given p) c.globals) first.1).0

pub takes_ones : (p : Facts) (c : readings.Called) → takes_integers p c ≡ true → list_all is_one c.params ≡ true
takes_ones p c h = (and_parts (list_all is_one c.params) (are_none c.memories && list_all (is_given p) c.globals) h).0

module _ (p : Facts) (n : ℕ) (c : readings.Called) (t : Tree) where
  pub function_takes : (b : Bool) → b ≡ takes_integers p c → b ≡ false → false ≡ is_function p n c t
  function_takes b is lost = ap (λ a. a && (called_fits c && (descends n c.params t && has_simple_parts t))) (sym lost ∙ is)

  pub function_names : (b d : Bool) → b ≡ takes_integers p c → b ≡ true → d ≡ called_fits c → d ≡ false → false ≡ is_function p n c t
  function_names b d is so made lost =
      λ i. (sym so ∙ is) i && ((sym lost ∙ made) i && (descends n c.params t && has_simple_parts t))

  pub function_so : (b d e : Bool) → b ≡ takes_integers p c → b ≡ true → d ≡ called_fits c → d ≡ true → e ≡ (descends n c.params t && has_simple_parts t)
      → e ≡ is_function p n c t
  function_so b d e is so made fit form = form ∙ (λ i. (sym so ∙ is) i && ((sym fit ∙ made) i && (descends n c.params t && has_simple_parts t)))

pub ruleset function_laws = (function_takes, function_names, function_so, takes_none)

and_false : (b : Bool) → false ≡ (b && false)
and_false true = refl
and_false false = refl

pub function_none : (p : Facts) (n : ℕ) (c : readings.Called) (t : Tree) → c.params ≡ [] → false ≡ is_function p n c t
function_none p n c t none =
    and_false (takes_integers p c) ∙ ap (λ a. takes_integers p c && a) (and_false (called_fits c))
    ∙ ap (λ ps. takes_integers p c && (called_fits c && (descends n ps t && has_simple_parts t))) (sym none)

-- ---- definitions

module _ (p : Facts) (names : FileNames) (n : ℕ) (d : Meant) where
  pub definition_plain : d.is_recursive ≡ false → true ≡ definition_fits p names n (view_meant d)
  definition_plain e = ap (λ b. if b then is_function p n (told_as p names n) (view_tree d.body) else true) (sym e)

  pub definition_so : (m : ℕ) (b : Bool) → d.is_recursive ≡ true → m ≡ n → b ≡ is_function p m (told_as p names n) (view_tree d.body)
      → b ≡ definition_fits p names n (view_meant d)
  definition_so m b e same made =
      made ∙ ap (λ k. is_function p k (told_as p names n) (view_tree d.body)) same
      ∙ ap (λ b. if b then is_function p n (told_as p names n) (view_tree d.body) else true) (sym e)

pub ruleset definition_laws = (definition_plain, definition_so)

module _ (p : Facts) (names : FileNames) (ds : List Meant) (i : ℕ) where
  abbrev pub FitFrom : ℕ → Bool
  FitFrom n = all_fit p names n (view_all (drop n ds))

  opened : (d : Meant) → i < length ds → d ≡ get_or ds i d → FitFrom i ≡ definition_fits p names i (view_meant d) && FitFrom (i + 1)
  opened d l is =
      let more : suc i ≡ i + 1 = omega arith in
      at_drop_more (λ es. all_fit p names i (view_all es)) ds i d l
      ∙ (λ j. definition_fits p names i (view_meant (sym is j)) && all_fit p names (more j) (view_all (drop (i + 1) ds)))

  pub all_found : (whole : Bool) (d : Meant) → whole ≡ FitFrom i → i < length ds → d ≡ get_or ds i d → false ≡ definition_fits p names i (view_meant d) → false ≡ whole
  all_found whole d k l is so = sym (k ∙ opened d l is ∙ ap (λ b. b && FitFrom (i + 1)) (sym so))

  pub all_next : (whole : Bool) (d : Meant) → whole ≡ FitFrom i → i < length ds → d ≡ get_or ds i d → true ≡ definition_fits p names i (view_meant d) → whole ≡ FitFrom (i + 1)
  all_next whole d k l is so = k ∙ opened d l is ∙ ap (λ b. b && FitFrom (i + 1)) (sym so)

  pub all_end : (whole : Bool) → whole ≡ FitFrom i → length ds ≤ i → true ≡ whole
  all_end whole k l = sym (k ∙ at_drop_all (λ es. all_fit p names i (view_all es)) ds i l)

pub ruleset all_laws = (all_found, all_next, all_end)
