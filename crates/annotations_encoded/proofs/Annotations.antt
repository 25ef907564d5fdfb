-- Annotations, which are under no names.
use Rattle.std.proofs.Common.{◌≡◌, true, List, [], ◌∷◌, Some, ◌&&◌, refl, subst}
use Rattle.std.proofs.lemmas.Bool.{and_parts}
use Rattle.typed_prog.specs.declared.types.CoreType.{CoreType}
use Rattle.acsl_trees.specs.declared.heads.Content.{Content}
use Rattle.acsl_trees.specs.declared.heads.Head.{Head}
use Rattle.acsl_trees.specs.declared.heads.Head.TheVariants as head
use Rattle.acsl_trees.specs.Tree.{Tree, Trees, node, stop, more, one}
use Rattle.acsl_names.specs.declared.names.Definition.{Definition}
use Rattle.acsl_encode.specs.Readings.{Reading}
use Rattle.acsl_encode.specs.Encode.{no_names, terms_of}
use Rattle.acsl_well_typed.specs.WellTyped.{What, an_integer, a_pointer, an_object, a_region, a_linked_integer, a_linked_pointer, Known, no_name, binder_behind, gives, what_of, kids_give}
use Rattle.acsl_well_typed.specs.Definitions.{known_with}
use Rattle.annotations_encoded.specs.Sights.{sights_of}
use Rattle.annotations_encoded.specs.Shapes.{Shape, shape, IsFor}
use Rattle.annotations_encoded.specs.Serving.{cells_of, is_region, serves}
use Rattle.annotations_encoded.specs.Laws.{IsEncoded, AreNamed, AnnotationsAreEncoded, IsRegionNode, RegionsAreNodes}
use Rattle.annotations_encoded.proofs.Terms.{number_there, formula_there, pointer_there, region_there}
use Rattle.annotations_encoded.proofs.Inverting.{region_kids}
use Rattle.annotations_encoded.proofs.Kids.{HasLink, node_given, more_given}
use Rattle.annotations_encoded.proofs.Binders.{Same, node_counted}
use Rattle.annotations_encoded.proofs.Encoded.{tree, trees_are_encoded}

none_named : AreNamed [] no_names
none_named x w e = absurd cc

encoded_as : (r : Reading) (t : Tree) (w : What) (z : Shape) → IsFor w z (terms_of r t) → IsEncoded r t w
encoded_as r t an_integer z h = (formula_there (terms_of r t) h, number_there (terms_of r t) h)
encoded_as r t a_pointer z h = pointer_there (terms_of r t) h
encoded_as r t an_object z h = tt
encoded_as r t a_region z h = region_there (terms_of r t) h
encoded_as r t a_linked_integer z h = tt
encoded_as r t a_linked_pointer z h = tt

pub annotations_are_encoded : AnnotationsAreEncoded
annotations_are_encoded ds result r t w e s =
    encoded_as r t w (shape (sights_of r) t) (trees_are_encoded ds result r [] no_names none_named 0 t w e s)

-- ---- regions

module _ (ds : List Definition) (result : CoreType) (r : Reading) where
  abbrev K : Known
  K = known_with true ds result

  object_of : (c : Content) (t : Tree) → what_of K [] (one (head.Region c) t) ≡ Some a_region → what_of K [] t ≡ Some an_object
  object_of c t e =
      let p = node_given (gives K [] (head.Region c)) (kids_give K [] no_name (more t stop)) a_region e in
      let q = more_given (what_of K [] t) (λ w. kids_give K [] (binder_behind no_name w) stop) p.0 p.1 in
      let i = region_kids K [] c p.0 a_region p.2 in
      let a : p.0 ≡ q.0 ∷ q.1 = q.4 in
      let b : p.0 ≡ an_object ∷ [] = i.0 in
      let same : q.0 ≡ an_object = cc in
      subst (λ v. what_of K [] t ≡ Some v) same q.2

  region_node : (c : Content) (ks : Trees) → Same (an_object ∷ []) ks → what_of K [] (node (head.Region c) ks) ≡ Some a_region
      → serves K (sights_of r) (node (head.Region c) ks) ≡ true → IsRegionNode r (node (head.Region c) ks)
  region_node c (more t stop) same e s =
      let p = and_parts (is_region (cells_of (sights_of r) c) (shape (sights_of r) t)) (serves K (sights_of r) t && true) s in
      let q = and_parts (serves K (sights_of r) t) true p.1 in
      record {
        content = c;
        object = t;
        is = refl;
        shaped = (tree ds result t r [] no_names 0 0 refl none_named an_object (object_of c t e) q.0).0;
        reached = p.0;
      }
  region_node c (more t (more u ts)) same e s = absurd same
  region_node c stop same e s = absurd same

  by_head : (h : Head) (ks : Trees) → what_of K [] (node h ks) ≡ Some a_region → serves K (sights_of r) (node h ks) ≡ true → HasLink a_region h
      → IsRegionNode r (node h ks)
  by_head (head.Region c) ks e s k =
      region_node c ks (node_counted K [] (head.Region c) (an_object ∷ []) ks a_region (λ us f. (region_kids K [] c us a_region f).0) e) e s
  by_head h ks e s k = absurd k

pub regions_are_nodes : RegionsAreNodes
regions_are_nodes ds result r (node h ks) e s =
    by_head ds result r h ks e s (tree ds result (node h ks) r [] no_names 0 0 refl none_named a_region e s).1
