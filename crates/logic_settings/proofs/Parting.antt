-- Parts of bodies, in the words of the code.
use Rattle.std.proofs.Common.{◌≡◌, ℕ, suc, ◌-◌, ◌<◌, ◌≤◌, true, ℤ, List, [], ◌∷◌, map, length, get_or, refl, sym, ap, ◌∙◌, arith}
use Rattle.std.specs.Prelude.{pos, Option, Some, None}
use Rattle.std.specs.List.{list_all}
use Rattle.std.proofs.lemmas.Bool.{false≢true}
use Rattle.acsl_trees.specs.declared.heads.Head.TheVariants as hd
use Rattle.acsl_trees.specs.declared.tree.Tree.{Tree as Code, out-Tree}
use Rattle.acsl_trees.specs.Tree.{Tree, node, view_tree}
use Rattle.c_runs.specs.Truth.{kid, head_of, spelled_number, test_number}
use Rattle.acsl_encode.specs.Readings.{Named, one, two}
use Rattle.acsl_encode.specs.Encode.{on_two}
use Rattle.acsl_encode.specs.Setting.{params_of, all_params, number_place}
use Rattle.annotation_words.specs.View.{view_named, view_called}
use Rattle.annotation_words.specs.declared.readings.Called as code
use Rattle.plain_annotations.specs.Places.{is_one}
use Rattle.logic_trees.proofs.Kids.{view_whole}
use Rattle.logic_settings.specs.Growing.{number_of_head}
use Rattle.logic_settings.proofs.Forming.{kid_there, kid_nowhere}

-- ---- the number

spelled_head : (t : Tree) → number_of_head (head_of t) ≡ spelled_number t
spelled_head (node (hd.Number z) ks) = refl
spelled_head (node head ks) = refl

pub spelled_there : (u : Code) (ks : List Code) (at : ℕ) (x : Code) (z : ℤ) → ks ≡ (out-Tree u).kids → at < length ks → x ≡ get_or ks at x
    → z ≡ number_of_head (out-Tree x).head → z ≡ spelled_number (kid (view_tree u) at)
spelled_there u ks at x z is l found made =
    made ∙ ap (λ (t : Tree). number_of_head (head_of t)) (sym (view_whole x)) ∙ spelled_head (view_tree x) ∙ ap spelled_number (kid_there u ks at x is l found)

pub spelled_nowhere : (u : Code) (ks : List Code) (at : ℕ) → ks ≡ (out-Tree u).kids → length ks ≤ at → pos 0 ≡ spelled_number (kid (view_tree u) at)
spelled_nowhere u ks at is l = ap spelled_number (kid_nowhere u ks at is l)

pub ruleset spelled_laws = (spelled_there, spelled_nowhere)

pub test_there : (u : Code) (ks : List Code) (x : Code) (z : ℤ) → ks ≡ (out-Tree u).kids → (length ks ≡ 0 → ⊥) → x ≡ get_or ks 0 x
    → z ≡ spelled_number (kid (view_tree x) 1) → z ≡ test_number (view_tree u)
test_there u ks x z is some found made =
    let l : 0 < length ks = omega (arith, some) in made ∙ ap (λ t. spelled_number (kid t 1)) (kid_there u ks 0 x is l found)

pub test_nowhere : (u : Code) (ks : List Code) → ks ≡ (out-Tree u).kids → length ks ≡ 0 → pos 0 ≡ test_number (view_tree u)
test_nowhere u ks is none = let l : length ks ≤ 0 = omega (arith, none) in ap (λ t. spelled_number (kid t 1)) (kid_nowhere u ks 0 is l)

pub ruleset test_laws = (test_there, test_nowhere)

-- ---- the last parameter

one_each : (ps : List Named) → list_all is_one ps ≡ true → length (all_params params_of ps) ≡ length ps
one_each [] h = refl
one_each (one x ∷ ps) h = ap suc (one_each ps h)
one_each (two b o ∷ ps) h = absurd (false≢true h)

as_many : {X Y : Type 0} (f : X → Y) (xs : List X) → length (map f xs) ≡ length xs
as_many f [] = refl
as_many f (x ∷ xs) = ap suc (as_many f xs)

pub place_is : (c : code.Called) (n : ℕ) → list_all is_one (map view_named c.params) ≡ true → n ≡ length c.params - 1 → n ≡ number_place (view_called c)
place_is c n ones made = made ∙ ap (λ k. k - 1) (sym (one_each (map view_named c.params) ones ∙ as_many view_named c.params))

pub ruleset place_laws = (place_is)

-- ---- both parts

module _ {X Y : Type 0} (f : X → X → Y) where
  pub first_missing : (o o' : Option X) → None ≡ o → None ≡ on_two f o o'
  first_missing o o' e = ap (λ q. on_two f q o') e

  pub second_missing : (x : X) (o' : Option X) → None ≡ o' → None ≡ on_two f (Some x) o'
  second_missing x o' e = ap (on_two f (Some x)) e

  pub both_there : (x y : X) (z : Y) → z ≡ f x y → Some z ≡ on_two f (Some x) (Some y)
  both_there x y z e = ap Some e

pub ruleset two_laws = (first_missing, second_missing, both_there)
