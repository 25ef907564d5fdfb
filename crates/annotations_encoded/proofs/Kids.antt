-- The kids of a node by what they give, one, two or three.
use Rattle.std.proofs.Common.{◌≡◌, List, [], ◌∷◌, Option, Some, None, option_map, option_and_then, refl}
use Rattle.acsl_trees.specs.declared.heads.Head.{Head}
use Rattle.acsl_trees.specs.declared.heads.Head.TheVariants as head
use Rattle.acsl_trees.specs.Tree.{Tree, Trees, stop, more}
use Rattle.c_runs.specs.Truth.{head_of}
use Rattle.acsl_encode.specs.Readings.{Terms}
use Rattle.acsl_well_typed.specs.WellTyped.{What, a_region, a_linked_integer, a_linked_pointer}
use Rattle.annotations_encoded.specs.Sights.{Sights}
use Rattle.annotations_encoded.specs.Shapes.{shape, IsFor}

-- only a link gives what a chain compares, and only a region's node a region
abbrev pub HasLink : What → Head → Type 0
HasLink a_linked_integer (head.Link c) = Unit {0}
HasLink a_linked_integer _ = ⊥
HasLink a_linked_pointer (head.LinkPointers c) = Unit {0}
HasLink a_linked_pointer _ = ⊥
HasLink a_region (head.Region c) = Unit {0}
HasLink a_region _ = ⊥
HasLink _ _ = Unit {0}

abbrev pub Is : What → Sights → Tree → Terms → Type 0
Is w g t x = IsFor w (shape g t) x × HasLink w (head_of t)

-- each of the kids
abbrev pub AllAre : Sights → List What → Trees → List Terms → Type 0
AllAre g [] stop [] = Unit {0}
AllAre g (w ∷ ws) (more t ts) (x ∷ xs) = Is w g t x × AllAre g ws ts xs
AllAre g _ _ _ = ⊥

-- ---- what is given

pub node_given : {X Y : Type 0} (f : X → Option Y) (o : Option X) (y : Y) → option_and_then f o ≡ Some y → (x : X) × (o ≡ Some x) × (f x ≡ Some y)
node_given f (Some x) y e = (x, refl, e)
node_given f None y e = absurd cc

rest_given : {X : Type 0} (w : X) (o : Option (List X)) (us : List X) → option_map (λ ws. w ∷ ws) o ≡ Some us → (vs : List X) × (o ≡ Some vs) × (us ≡ w ∷ vs)
rest_given w (Some vs) us e = (vs, refl, cc)
rest_given w None us e = absurd cc

pub more_given : (o : Option What) (f : What → Option (List What)) (us : List What) → option_and_then (λ w. option_map (λ ws. w ∷ ws) (f w)) o ≡ Some us
    → (v : What) × (vs : List What) × (o ≡ Some v) × (f v ≡ Some vs) × (us ≡ v ∷ vs)
more_given (Some v) f us e = let r = rest_given v (f v) us e in (v, r.0, refl, r.1, r.2)
more_given None f us e = absurd cc

-- ---- kids by their number

module _ (g : Sights) where
  pub none_by : (P : Trees → List Terms → Type 0) (ks : Trees) (xs : List Terms) → AllAre g [] ks xs → P stop [] → P ks xs
  none_by P stop [] a go = go
  none_by P ks xs a go = absurd a

  pub one_by : (P : Trees → List Terms → Type 0) (v : What) (ks : Trees) (xs : List Terms) → AllAre g (v ∷ []) ks xs
      → ((t : Tree) (x : Terms) → Is v g t x → P (more t stop) (x ∷ [])) → P ks xs
  one_by P v (more t stop) (x ∷ []) a go = go t x a.0
  one_by P v (more t stop) (x ∷ y ∷ xs) a go = absurd a.1
  one_by P v (more t (more u ts)) (x ∷ xs) a go = absurd a.1
  one_by P v ks xs a go = absurd a

  pub two_by : (P : Trees → List Terms → Type 0) (v w : What) (ks : Trees) (xs : List Terms) → AllAre g (v ∷ w ∷ []) ks xs
      → ((t u : Tree) (x y : Terms) → Is v g t x → Is w g u y → P (more t (more u stop)) (x ∷ y ∷ [])) → P ks xs
  two_by P v w (more t ts) (x ∷ xs) a go = one_by (λ ts xs. P (more t ts) (x ∷ xs)) w ts xs a.1 (λ u y b. go t u x y a.0 b)
  two_by P v w ks xs a go = absurd a

  pub three_by : (P : Trees → List Terms → Type 0) (v w z : What) (ks : Trees) (xs : List Terms) → AllAre g (v ∷ w ∷ z ∷ []) ks xs
      → ((t u s : Tree) (x y q : Terms) → Is v g t x → Is w g u y → Is z g s q → P (more t (more u (more s stop))) (x ∷ y ∷ q ∷ [])) → P ks xs
  three_by P v w z (more t ts) (x ∷ xs) a go = two_by (λ ts xs. P (more t ts) (x ∷ xs)) w z ts xs a.1 (λ u s y q b c. go t u s x y q a.0 b c)
  three_by P v w z ks xs a go = absurd a
