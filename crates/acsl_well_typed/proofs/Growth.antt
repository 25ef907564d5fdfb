-- What is in order by some definitions is so by more.
use Rattle.std.proofs.Common.{◌≡◌, ℕ, zero, suc, Bool, true, false, List, [], ◌∷◌, ◌++◌, Option, Some, None, slice_get, refl, ap, ◌∙◌}
use Rattle.std.specs.Option.{option_map, option_and_then}
use Rattle.typed_prog.specs.declared.types.CoreType.{CoreType}
use Rattle.acsl_trees.specs.declared.heads.Head.{Head}
use Rattle.acsl_trees.specs.declared.heads.Head.TheVariants as head
use Rattle.acsl_trees.specs.Tree.{Tree, node, Trees, stop, more}
use Rattle.acsl_names.specs.declared.names.Definition.{Definition}
use Rattle.acsl_well_typed.specs.WellTyped.{What, Names, Binder, no_name, a_value, a_name, a_number, binder_of, names_in, binder_behind, kid_gives, called, gives, what_of, kids_give}
use Rattle.acsl_well_typed.specs.Terms.{Gives}
use Rattle.acsl_well_typed.specs.Definitions.{known_with, TestsGrow}

-- what a call gives by the first definitions, it gives by the second ones
abbrev pub Grow : List Definition → List Definition → Type 0
Grow ds es = (i : ℕ) (ws : List What) (w : What) → called (slice_get ds i) ws ≡ Some w → called (slice_get es i) ws ≡ Some w

pub more_grow : (ds rest : List Definition) → Grow ds (ds ++ rest)
more_grow [] rest i ws w e = absurd cc
more_grow (d ∷ ds) rest zero ws w e = e
more_grow (d ∷ ds) rest (suc i) ws w e = more_grow ds rest i ws w e

module _ (z : Bool) (ds es : List Definition) (result : CoreType) (grow : Grow ds es) where
  head_grows : (ns : Names) (h : Head) (ws : List What) (w : What) → gives (known_with z ds result) ns h ws ≡ Some w
      → gives (known_with z es result) ns h ws ≡ Some w
  head_grows ns (head.Number x) ws w e = e
  head_grows ns head.Null ws w e = e
  head_grows ns (head.Name x) ws w e = e
  head_grows ns (head.Call x) ws w e = grow x ws w e
  head_grows ns head.Result ws w e = e
  head_grows ns (head.At x) ws w e = e
  head_grows ns (head.Variable x) ws w e = e
  head_grows ns head.Pointed ws w e = e
  head_grows ns (head.Field x y) ws w e = e
  head_grows ns (head.Element x y) ws w e = e
  head_grows ns (head.Elements x y) ws w e = e
  head_grows ns (head.Behind x) ws w e = e
  head_grows ns (head.Read x y) ws w e = e
  head_grows ns head.Address ws w e = e
  head_grows ns (head.Moved x y) ws w e = e
  head_grows ns (head.Difference x) ws w e = e
  head_grows ns head.Negate ws w e = e
  head_grows ns head.Complement ws w e = e
  head_grows ns (head.Arithmetic x) ws w e = e
  head_grows ns (head.Convert x) ws w e = e
  head_grows ns (head.Compare x) ws w e = e
  head_grows ns (head.ComparePointers x) ws w e = e
  head_grows ns head.Not ws w e = e
  head_grows ns head.And ws w e = e
  head_grows ns head.Or ws w e = e
  head_grows ns head.Xor ws w e = e
  head_grows ns head.Implies ws w e = e
  head_grows ns head.Iff ws w e = e
  head_grows ns head.Choose ws w e = e
  head_grows ns head.Chain ws w e = e
  head_grows ns (head.Link x) ws w e = e
  head_grows ns (head.LinkPointers x) ws w e = e
  head_grows ns head.Let ws w e = e
  head_grows ns (head.Every x) ws w e = e
  head_grows ns (head.Some x) ws w e = e
  head_grows ns (head.Valid x y) ws w e = e
  head_grows ns head.Separated ws w e = e
  head_grows ns (head.Region x) ws w e = e

  node_grows : (ns : Names) (h : Head) (o q : Option (List What)) (w : What) → ((ws : List What) → o ≡ Some ws → q ≡ Some ws)
      → option_and_then (gives (known_with z ds result) ns h) o ≡ Some w
      → option_and_then (gives (known_with z es result) ns h) q ≡ Some w
  node_grows ns h (Some ws) q w go e = ap (option_and_then (gives (known_with z es result) ns h)) (go ws refl) ∙ head_grows ns h ws w e
  node_grows ns h None q w go e = absurd cc

  -- a kid, by whether it is looked at, and those behind it
  kids_grow_by : (o q : Option What) (f g : What → Option (List What)) (ws : List What) → ((w : What) → o ≡ Some w → q ≡ Some w)
      → ((w : What) (vs : List What) → f w ≡ Some vs → g w ≡ Some vs)
      → option_and_then (λ w. option_map (λ vs. w ∷ vs) (f w)) o ≡ Some ws → option_and_then (λ w. option_map (λ vs. w ∷ vs) (g w)) q ≡ Some ws
  kids_grow_by None q f g ws kid rest e = absurd cc
  kids_grow_by (Some w) q f g ws kid rest e = ap (option_and_then (λ w. option_map (λ vs. w ∷ vs) (g w))) (kid w refl) ∙ rest_by (f w) (g w) w ws (rest w) e
    where
      rest_by : (o q : Option (List What)) (w : What) (ws : List What) → ((vs : List What) → o ≡ Some vs → q ≡ Some vs) → option_map (λ vs. w ∷ vs) o ≡ Some ws
          → option_map (λ vs. w ∷ vs) q ≡ Some ws
      rest_by None q w ws go e = absurd cc
      rest_by (Some vs) q w ws go e = ap (option_map (λ vs. w ∷ vs)) (go vs refl) ∙ e

  seen_grows : (b : Binder) (rest : Trees) (y : Bool) (o q : Option What) → ((w : What) → o ≡ Some w → q ≡ Some w) → (w : What) → kid_gives b rest y o ≡ Some w
      → kid_gives b rest y q ≡ Some w
  seen_grows no_name rest y o q go w e = go w e
  seen_grows a_value rest y o q go w e = go w e
  seen_grows (a_name v) rest y o q go w e = go w e
  seen_grows a_number stop y o q go w e = go w e
  seen_grows a_number (more t rest) true o q go w e = go w e
  seen_grows a_number (more t rest) false o q go w e = e

  mutual
    pub tree_grows : (ns : Names) (w : What) (t : Tree) → Gives (known_with z ds result) ns w t → Gives (known_with z es result) ns w t
    tree_grows ns w (node h kids) e = node_grows ns h (kids_give (known_with z ds result) ns (binder_of h) kids)
        (kids_give (known_with z es result) ns (binder_of h) kids) w (kids_grow ns (binder_of h) kids) e

    kids_grow : (ns : Names) (b : Binder) (kids : Trees) (ws : List What) → kids_give (known_with z ds result) ns b kids ≡ Some ws
        → kids_give (known_with z es result) ns b kids ≡ Some ws
    kids_grow ns b stop ws e = e
    kids_grow ns b (more t rest) ws e =
        kids_grow_by (kid_gives b rest z (what_of (known_with z ds result) (names_in b rest ns) t))
        (kid_gives b rest z (what_of (known_with z es result) (names_in b rest ns) t))
        (λ w. kids_give (known_with z ds result) ns (binder_behind b w) rest) (λ w. kids_give (known_with z es result) ns (binder_behind b w) rest) ws
        (seen_grows b rest z _ _ (λ w f. tree_grows (names_in b rest ns) w t f)) (λ w vs f. kids_grow ns (binder_behind b w) rest vs f) e

pub tests_grow : TestsGrow
tests_grow z ds rest result ns w t e = tree_grows z ds (ds ++ rest) result (more_grow ds rest) ns w t e
