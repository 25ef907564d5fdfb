-- Which heads give pointers.
use Rattle.std.proofs.Common.{◌≡◌, ℕ, Bool, true, false, if◌then◌else◌, List, [], ◌∷◌, Option, Some, None, option_and_then, slice_get, refl, ap, subst}
use Rattle.std.proofs.lemmas.Bool.{and_parts}
use Rattle.acsl_trees.specs.declared.heads.Content.TheVariants as content
use Rattle.acsl_trees.specs.declared.heads.Range.TheVariants as range
use Rattle.acsl_trees.specs.declared.heads.Head.{Head}
use Rattle.acsl_trees.specs.declared.heads.Head.TheVariants as head
use Rattle.acsl_trees.specs.declared.operands.TermType.{TermType}
use Rattle.acsl_trees.specs.declared.operands.TermType.TheVariants as type
use Rattle.acsl_trees.specs.Tree.{Tree, Trees, stop, more}
use Rattle.typed_prog.specs.Types.{is_void, is_pointer}
use Rattle.acsl_names.specs.declared.names.Definition.{Definition}
use Rattle.acsl_encode.specs.Readings.{Called}
use Rattle.acsl_well_typed.specs.WellTyped.{What, an_integer, a_pointer, an_object, a_region, a_linked_integer, a_linked_pointer, Known, no_name, binder_behind, gives, what_of, kids_give, result_gives, called, all_taken, are_regions, integers_linked, pointers_linked, chained, returned, value_gives}
use Rattle.annotations_encoded.specs.Sights.{Sights}
use Rattle.annotations_encoded.specs.Serving.{gives_integer, is_result, may_call}
use Rattle.annotations_encoded.proofs.Kids.{node_given, more_given}
use Rattle.annotations_encoded.proofs.Inverting.{number_kids, null_kids, pointer_read_kids, address_kids, moved_kids, variable_kids, pointed_kids, field_kids, element_kids, elements_kids, behind_kids, integer_read_kids, difference_kids, negate_kids, complement_kids, arithmetic_kids, convert_kids, compare_kids, compare_pointers_kids, not_kids, link_kids, link_pointers_kids, every_kind_kids, every_between_kids, some_kind_kids, some_between_kids, valid_kids, region_kids, truth_kids, alone_kids, no_struct}
use Rattle.annotations_encoded.proofs.Binders.{let_three}

-- a node that gives a pointer: null, a read, an address, a pointer that is moved, in another state or chosen, and none that is called or named
abbrev pub GivesPointer : Head → Type 0
GivesPointer head.Null = Unit {0}
GivesPointer head.Result = Unit {0}
GivesPointer (head.Name i) = Unit {0}
GivesPointer (head.Call i) = Unit {0}
GivesPointer (head.At l) = Unit {0}
GivesPointer (head.Read content.Pointer l) = Unit {0}
GivesPointer head.Address = Unit {0}
GivesPointer (head.Moved minus size) = Unit {0}
GivesPointer head.Choose = Unit {0}
GivesPointer h = ⊥

abbrev pub IsRegion : Head → Type 0
IsRegion (head.Region c) = Unit {0}
IsRegion h = ⊥

no_integer : a_pointer ≡ an_integer → ⊥
no_integer e = absurd cc

no_object : a_pointer ≡ an_object → ⊥
no_object e = absurd cc

no_region : a_pointer ≡ a_region → ⊥
no_region e = absurd cc

no_linked : a_pointer ≡ a_linked_integer → ⊥
no_linked e = absurd cc

no_linked_pointer : a_pointer ≡ a_linked_pointer → ⊥
no_linked_pointer e = absurd cc

regions_no : (us : List What) → are_regions us ≡ Some a_pointer → ⊥
regions_no [] e = absurd cc
regions_no (a_region ∷ us) e = regions_no us e
regions_no us e = absurd cc

integers_no : (us : List What) → integers_linked us ≡ Some a_pointer → ⊥
integers_no [] e = absurd cc
integers_no (a_linked_integer ∷ us) e = integers_no us e
integers_no us e = absurd cc

pointers_no : (us : List What) → pointers_linked us ≡ Some a_pointer → ⊥
pointers_no [] e = absurd cc
pointers_no (a_linked_pointer ∷ us) e = pointers_no us e
pointers_no us e = absurd cc

chain_no : (us : List What) → chained us ≡ Some a_pointer → ⊥
chain_no [] e = absurd cc
chain_no (an_integer ∷ us) e = integers_no us e
chain_no (a_pointer ∷ us) e = pointers_no us e
chain_no (an_object ∷ []) e = absurd cc
chain_no us e = absurd cc

regions_region : (us : List What) → are_regions us ≡ Some a_region → ⊥
regions_region [] e = absurd cc
regions_region (a_region ∷ us) e = regions_region us e
regions_region us e = absurd cc

integers_region : (us : List What) → integers_linked us ≡ Some a_region → ⊥
integers_region [] e = absurd cc
integers_region (a_linked_integer ∷ us) e = integers_region us e
integers_region us e = absurd cc

pointers_region : (us : List What) → pointers_linked us ≡ Some a_region → ⊥
pointers_region [] e = absurd cc
pointers_region (a_linked_pointer ∷ us) e = pointers_region us e
pointers_region us e = absurd cc

chain_region : (us : List What) → chained us ≡ Some a_region → ⊥
chain_region [] e = absurd cc
chain_region (an_integer ∷ us) e = integers_region us e
chain_region (a_pointer ∷ us) e = pointers_region us e
chain_region (an_object ∷ []) e = absurd cc
chain_region us e = absurd cc

given_region : (o : Option TermType) → result_gives o ≡ Some a_region → ⊥
given_region None e = absurd cc
given_region (Some type.Integer) e = absurd cc
given_region (Some (type.Pointer t)) e = absurd cc
given_region (Some type.Unknown) e = absurd cc

call_region : (d : Option Definition) (us : List What) → called d us ≡ Some a_region → ⊥
call_region (Some d) us e = by (all_taken d.params us) e where
  by : (b : Bool) → (if b then result_gives d.result else None) ≡ Some a_region → ⊥
  by true e = given_region d.result e
  by false e = absurd cc
call_region None us e = absurd cc

value_region : (v p : Bool) → value_gives v p ≡ Some a_region → ⊥
value_region true p e = absurd cc
value_region false true e = absurd cc
value_region false false e = absurd cc

no_name_given : (i : ℕ) (w : What) → slice_get [] i ≡ Some w → ⊥
no_name_given i w e = absurd cc

module _ (k : Known) where
  -- a node under no names
  pub gives_pointer : (h : Head) (us : List What) → gives k [] h us ≡ Some a_pointer → GivesPointer h
  gives_pointer head.Null us e = tt
  gives_pointer head.Result us e = tt
  gives_pointer (head.Name i) us e = tt
  gives_pointer (head.Call i) us e = tt
  gives_pointer (head.At l) us e = tt
  gives_pointer (head.Read content.Pointer l) us e = tt
  gives_pointer head.Address us e = tt
  gives_pointer (head.Moved minus size) us e = tt
  gives_pointer head.Choose us e = tt
  gives_pointer (head.Number z) us e = no_integer (number_kids k [] z us a_pointer e).1
  gives_pointer (head.Variable x) us e = no_object (variable_kids k [] x us a_pointer e).1
  gives_pointer head.Pointed us e = no_object (pointed_kids k [] us a_pointer e).1
  gives_pointer (head.Field n o) us e = no_object (field_kids k [] n o us a_pointer e).1
  gives_pointer (head.Element n c) us e = no_object (element_kids k [] n c us a_pointer e).1
  gives_pointer (head.Elements n c) us e = no_object (elements_kids k [] n c us a_pointer e).1
  gives_pointer (head.Behind n) us e = no_object (behind_kids k [] n us a_pointer e).1
  gives_pointer (head.Read (content.Integer c) l) us e = no_integer (integer_read_kids k [] c l us a_pointer e).1
  gives_pointer (head.Read (content.Struct c) l) us e = no_struct k [] c l us a_pointer e
  gives_pointer (head.Difference n) us e = no_integer (difference_kids k [] n us a_pointer e).1
  gives_pointer head.Negate us e = no_integer (negate_kids k [] us a_pointer e).1
  gives_pointer head.Complement us e = no_integer (complement_kids k [] us a_pointer e).1
  gives_pointer (head.Arithmetic o) us e = no_integer (arithmetic_kids k [] o us a_pointer e).1
  gives_pointer (head.Convert c) us e = no_integer (convert_kids k [] c us a_pointer e).1
  gives_pointer (head.Compare c) us e = no_integer (compare_kids k [] c us a_pointer e).1
  gives_pointer (head.ComparePointers c) us e = no_integer (compare_pointers_kids k [] c us a_pointer e).1
  gives_pointer head.Not us e = no_integer (not_kids k [] us a_pointer e).1
  gives_pointer head.And us e = no_integer (truth_kids k [] us a_pointer e).1
  gives_pointer head.Or us e = no_integer (truth_kids k [] us a_pointer e).1
  gives_pointer head.Xor us e = no_integer (truth_kids k [] us a_pointer e).1
  gives_pointer head.Implies us e = no_integer (truth_kids k [] us a_pointer e).1
  gives_pointer head.Iff us e = no_integer (truth_kids k [] us a_pointer e).1
  gives_pointer (head.Link c) us e = no_linked (link_kids k [] c us a_pointer e).1
  gives_pointer (head.LinkPointers c) us e = no_linked_pointer (link_pointers_kids k [] c us a_pointer e).1
  gives_pointer head.Let us e = no_integer (let_three k [] us a_pointer e).2
  gives_pointer (head.Every (range.Kind c p)) us e = no_integer (every_kind_kids k [] c p us a_pointer e).1
  gives_pointer (head.Every (range.Between a b p)) us e = no_integer (every_between_kids k [] a b p us a_pointer e).1
  gives_pointer (head.Some (range.Kind c p)) us e = no_integer (some_kind_kids k [] c p us a_pointer e).1
  gives_pointer (head.Some (range.Between a b p)) us e = no_integer (some_between_kids k [] a b p us a_pointer e).1
  gives_pointer (head.Valid c x) us e = no_integer (valid_kids k [] c x us a_pointer e).1
  gives_pointer (head.Region c) us e = no_region (region_kids k [] c us a_pointer e).1
  gives_pointer head.Chain us e = chain_no us e
  gives_pointer head.Separated us e = regions_no us e

  at_region : (l : _) (us : List What) → gives k [] (head.At l) us ≡ Some a_region → ⊥
  at_region l (an_integer ∷ []) e = absurd cc
  at_region l (a_pointer ∷ []) e = absurd cc
  at_region l (an_object ∷ []) e = absurd cc
  at_region l us e = absurd cc

  chosen_region : (us : List What) → gives k [] head.Choose us ≡ Some a_region → ⊥
  chosen_region (an_integer ∷ an_integer ∷ an_integer ∷ []) e = absurd cc
  chosen_region (an_integer ∷ a_pointer ∷ a_pointer ∷ []) e = absurd cc
  chosen_region (an_integer ∷ an_object ∷ an_object ∷ []) e = absurd cc
  chosen_region us e = absurd cc

  -- only a region's node gives a region
  pub region_only : (h : Head) (us : List What) → gives k [] h us ≡ Some a_region → IsRegion h
  region_only head.Null us e = let i : a_region ≡ a_pointer = (null_kids k [] us a_region e).1 in absurd cc
  region_only head.Result us e = value_region (is_void k.result) (is_pointer k.result) (alone_kids k [] us (returned k.result) a_region e).1
  region_only (head.Name i) us e = no_name_given i a_region (alone_kids k [] us (slice_get [] i) a_region e).1
  region_only (head.Call i) us e = call_region (slice_get k.definitions i) us e
  region_only (head.At l) us e = at_region l us e
  region_only (head.Read content.Pointer l) us e = let i : a_region ≡ a_pointer = (pointer_read_kids k [] l us a_region e).1 in absurd cc
  region_only head.Address us e = let i : a_region ≡ a_pointer = (address_kids k [] us a_region e).1 in absurd cc
  region_only (head.Moved minus size) us e = let i : a_region ≡ a_pointer = (moved_kids k [] minus size us a_region e).1 in absurd cc
  region_only head.Choose us e = chosen_region us e
  region_only (head.Number z) us e = let i : a_region ≡ an_integer = (number_kids k [] z us a_region e).1 in absurd cc
  region_only (head.Variable x) us e = let i : a_region ≡ an_object = (variable_kids k [] x us a_region e).1 in absurd cc
  region_only head.Pointed us e = let i : a_region ≡ an_object = (pointed_kids k [] us a_region e).1 in absurd cc
  region_only (head.Field n o) us e = let i : a_region ≡ an_object = (field_kids k [] n o us a_region e).1 in absurd cc
  region_only (head.Element n c) us e = let i : a_region ≡ an_object = (element_kids k [] n c us a_region e).1 in absurd cc
  region_only (head.Elements n c) us e = let i : a_region ≡ an_object = (elements_kids k [] n c us a_region e).1 in absurd cc
  region_only (head.Behind n) us e = let i : a_region ≡ an_object = (behind_kids k [] n us a_region e).1 in absurd cc
  region_only (head.Read (content.Integer c) l) us e = let i : a_region ≡ an_integer = (integer_read_kids k [] c l us a_region e).1 in absurd cc
  region_only (head.Read (content.Struct c) l) us e = no_struct k [] c l us a_region e
  region_only (head.Difference n) us e = let i : a_region ≡ an_integer = (difference_kids k [] n us a_region e).1 in absurd cc
  region_only head.Negate us e = let i : a_region ≡ an_integer = (negate_kids k [] us a_region e).1 in absurd cc
  region_only head.Complement us e = let i : a_region ≡ an_integer = (complement_kids k [] us a_region e).1 in absurd cc
  region_only (head.Arithmetic o) us e = let i : a_region ≡ an_integer = (arithmetic_kids k [] o us a_region e).1 in absurd cc
  region_only (head.Convert c) us e = let i : a_region ≡ an_integer = (convert_kids k [] c us a_region e).1 in absurd cc
  region_only (head.Compare c) us e = let i : a_region ≡ an_integer = (compare_kids k [] c us a_region e).1 in absurd cc
  region_only (head.ComparePointers c) us e = let i : a_region ≡ an_integer = (compare_pointers_kids k [] c us a_region e).1 in absurd cc
  region_only head.Not us e = let i : a_region ≡ an_integer = (not_kids k [] us a_region e).1 in absurd cc
  region_only head.And us e = let i : a_region ≡ an_integer = (truth_kids k [] us a_region e).1 in absurd cc
  region_only head.Or us e = let i : a_region ≡ an_integer = (truth_kids k [] us a_region e).1 in absurd cc
  region_only head.Xor us e = let i : a_region ≡ an_integer = (truth_kids k [] us a_region e).1 in absurd cc
  region_only head.Implies us e = let i : a_region ≡ an_integer = (truth_kids k [] us a_region e).1 in absurd cc
  region_only head.Iff us e = let i : a_region ≡ an_integer = (truth_kids k [] us a_region e).1 in absurd cc
  region_only (head.Link c) us e = let i : a_region ≡ a_linked_integer = (link_kids k [] c us a_region e).1 in absurd cc
  region_only (head.LinkPointers c) us e = let i : a_region ≡ a_linked_pointer = (link_pointers_kids k [] c us a_region e).1 in absurd cc
  region_only head.Let us e = let i : a_region ≡ an_integer = (let_three k [] us a_region e).2 in absurd cc
  region_only (head.Every (range.Kind c p)) us e = let i : a_region ≡ an_integer = (every_kind_kids k [] c p us a_region e).1 in absurd cc
  region_only (head.Every (range.Between a b p)) us e = let i : a_region ≡ an_integer = (every_between_kids k [] a b p us a_region e).1 in absurd cc
  region_only (head.Some (range.Kind c p)) us e = let i : a_region ≡ an_integer = (some_kind_kids k [] c p us a_region e).1 in absurd cc
  region_only (head.Some (range.Between a b p)) us e = let i : a_region ≡ an_integer = (some_between_kids k [] a b p us a_region e).1 in absurd cc
  region_only (head.Valid c x) us e = let i : a_region ≡ an_integer = (valid_kids k [] c x us a_region e).1 in absurd cc
  region_only (head.Region c) us e = tt
  region_only head.Chain us e = chain_region us e
  region_only head.Separated us e = regions_region us e

  -- ---- what is chosen, and what is in another state

  pub chosen_kids : (us : List What) → gives k [] head.Choose us ≡ Some a_pointer → us ≡ an_integer ∷ a_pointer ∷ a_pointer ∷ []
  chosen_kids (an_integer ∷ an_integer ∷ an_integer ∷ []) e = absurd cc
  chosen_kids (an_integer ∷ a_pointer ∷ a_pointer ∷ []) e = refl
  chosen_kids (an_integer ∷ an_object ∷ an_object ∷ []) e = absurd cc
  chosen_kids us e = absurd cc

  pub chosen_objects : (us : List What) → gives k [] head.Choose us ≡ Some an_object → us ≡ an_integer ∷ an_object ∷ an_object ∷ []
  chosen_objects (an_integer ∷ an_integer ∷ an_integer ∷ []) e = absurd cc
  chosen_objects (an_integer ∷ a_pointer ∷ a_pointer ∷ []) e = absurd cc
  chosen_objects (an_integer ∷ an_object ∷ an_object ∷ []) e = refl
  chosen_objects us e = absurd cc

  pub at_kids : (l : _) (us : List What) (w : What) → gives k [] (head.At l) us ≡ Some w → us ≡ w ∷ []
  at_kids l (an_integer ∷ []) w e = ap (λ w. w ∷ []) (let s : an_integer ≡ w = cc in s)
  at_kids l (a_pointer ∷ []) w e = ap (λ w. w ∷ []) (let s : a_pointer ≡ w = cc in s)
  at_kids l (an_object ∷ []) w e = ap (λ w. w ∷ []) (let s : an_object ≡ w = cc in s)
  at_kids l us w e = absurd cc

  -- ---- kids of a node that binds no name

  pub node_kids : (h : Head) (ks : Trees) (w : What) (vs : List What) → ((us : List What) → gives k [] h us ≡ Some w → us ≡ vs)
      → option_and_then (gives k [] h) (kids_give k [] no_name ks) ≡ Some w → kids_give k [] no_name ks ≡ Some vs
  node_kids h ks w vs inv e =
      let p = node_given (gives k [] h) (kids_give k [] no_name ks) w e in subst (λ us. kids_give k [] no_name ks ≡ Some us) (inv p.0 p.2) p.1

  pub one_more : (t : Tree) (ts : Trees) (v : What) (vs : List What) → kids_give k [] no_name (more t ts) ≡ Some (v ∷ vs)
      → (what_of k [] t ≡ Some v) × (kids_give k [] no_name ts ≡ Some vs)
  one_more t ts v vs e =
      let q = more_given (what_of k [] t) (λ w. kids_give k [] (binder_behind no_name w) ts) (v ∷ vs) e in
      let a : v ∷ vs ≡ q.0 ∷ q.1 = q.4 in
      let one : q.0 ≡ v = cc in
      let rest : q.1 ≡ vs = cc in
      (subst (λ v. what_of k [] t ≡ Some v) one q.2, subst (λ vs. kids_give k [] no_name ts ≡ Some vs) rest q.3)

  pub none_left : (v : What) (vs : List What) → kids_give k [] no_name stop ≡ Some (v ∷ vs) → ⊥
  none_left v vs e = absurd cc

  -- the first kid of a node that has some, and that it has some
  pub kid_is : (h : Head) (t : Tree) (ts : Trees) (w v : What) (vs : List What) → ((us : List What) → gives k [] h us ≡ Some w → us ≡ v ∷ vs)
      → option_and_then (gives k [] h) (kids_give k [] no_name (more t ts)) ≡ Some w → what_of k [] t ≡ Some v
  kid_is h t ts w v vs inv e = (one_more t ts v vs (node_kids h (more t ts) w (v ∷ vs) inv e)).0

  pub no_kid : (h : Head) (w v : What) (vs : List What) → ((us : List What) → gives k [] h us ≡ Some w → us ≡ v ∷ vs)
      → option_and_then (gives k [] h) (kids_give k [] no_name stop) ≡ Some w → ⊥
  no_kid h w v vs inv e = none_left v vs (node_kids h stop w (v ∷ vs) inv e)

  -- ---- what the kids of objects and of pointers are

  pub pointed_has : (us : List What) → gives k [] head.Pointed us ≡ Some an_object → us ≡ a_pointer ∷ []
  pointed_has us i = (pointed_kids k [] us an_object i).0

  pub field_has : (n o : _) (us : List What) → gives k [] (head.Field n o) us ≡ Some an_object → us ≡ an_object ∷ []
  field_has n o us i = (field_kids k [] n o us an_object i).0

  pub element_has : (n c : _) (us : List What) → gives k [] (head.Element n c) us ≡ Some an_object → us ≡ an_object ∷ an_integer ∷ []
  element_has n c us i = (element_kids k [] n c us an_object i).0

  pub elements_has : (n c : _) (us : List What) → gives k [] (head.Elements n c) us ≡ Some an_object → us ≡ an_object ∷ an_integer ∷ an_integer ∷ []
  elements_has n c us i = (elements_kids k [] n c us an_object i).0

  pub behind_has : (n : _) (us : List What) → gives k [] (head.Behind n) us ≡ Some an_object → us ≡ a_pointer ∷ an_integer ∷ an_integer ∷ []
  behind_has n us i = (behind_kids k [] n us an_object i).0

  pub read_has : (l : _) (us : List What) → gives k [] (head.Read content.Pointer l) us ≡ Some a_pointer → us ≡ an_object ∷ []
  read_has l us i = (pointer_read_kids k [] l us a_pointer i).0

  pub address_has : (us : List What) → gives k [] head.Address us ≡ Some a_pointer → us ≡ an_object ∷ []
  address_has us i = (address_kids k [] us a_pointer i).0

  pub moved_has : (m n : _) (us : List What) → gives k [] (head.Moved m n) us ≡ Some a_pointer → us ≡ a_pointer ∷ an_integer ∷ []
  moved_has m n us i = (moved_kids k [] m n us a_pointer i).0

-- ---- names, results and calls

type_no : (o : Option TermType) → gives_integer o ≡ true → result_gives o ≡ Some a_pointer → ⊥
type_no None h e = absurd cc
type_no (Some type.Integer) h e = absurd cc
type_no (Some (type.Pointer t)) h e = absurd cc
type_no (Some type.Unknown) h e = absurd cc

-- what is called gives no pointer, where it is served
pub call_no : (g : Sights) (d : Option Definition) (c : Option Called) (us : List What) → may_call g d c ≡ true → called d us ≡ Some a_pointer → ⊥
call_no g (Some d) (Some c) us h e = by (all_taken d.params us) e where
  by : (b : Bool) → (if b then result_gives d.result else None) ≡ Some a_pointer → ⊥
  by true e = type_no d.result (and_parts (gives_integer d.result) _ h).0 e
  by false e = absurd cc
call_no g (Some d) None us h e = absurd cc
call_no g None c us h e = absurd cc

-- no result is given
pub result_no : (o : Option What) → is_result o None ≡ true → ⊥
result_no None h = absurd cc
result_no (Some an_integer) h = absurd cc
result_no (Some a_pointer) h = absurd cc
result_no (Some an_object) h = absurd cc
result_no (Some a_region) h = absurd cc
result_no (Some a_linked_integer) h = absurd cc
result_no (Some a_linked_pointer) h = absurd cc

pub name_no : (k : Known) (i : ℕ) (us : List What) → gives k [] (head.Name i) us ≡ Some a_pointer → ⊥
name_no k i us e = no_name_given i a_pointer (alone_kids k [] us (slice_get [] i) a_pointer e).1
