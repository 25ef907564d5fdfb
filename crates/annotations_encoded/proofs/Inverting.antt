-- What the kids of a node give, by what the node gives.
use Rattle.std.proofs.Common.{◌≡◌, List, [], ◌∷◌, Option, Some, refl}
use Rattle.acsl_trees.specs.declared.heads.Content.TheVariants as content
use Rattle.acsl_trees.specs.declared.heads.Range.TheVariants as range
use Rattle.acsl_trees.specs.declared.heads.Head.TheVariants as head
use Rattle.acsl_well_typed.specs.WellTyped.{What, an_integer, a_pointer, an_object, a_region, a_linked_integer, a_linked_pointer, Known, Names, gives, both_truths, alone}

module _ (k : Known) (ns : Names) where
  pub number_kids : (z : _) (us : List What) (w : What) → gives k ns (head.Number z) us ≡ Some w → (us ≡ []) × (w ≡ an_integer)
  number_kids z [] w e = (refl, cc)
  number_kids z us w e = absurd cc

  pub null_kids : (us : List What) (w : What) → gives k ns head.Null us ≡ Some w → (us ≡ []) × (w ≡ a_pointer)
  null_kids [] w e = (refl, cc)
  null_kids us w e = absurd cc

  pub variable_kids : (x : _) (us : List What) (w : What) → gives k ns (head.Variable x) us ≡ Some w → (us ≡ []) × (w ≡ an_object)
  variable_kids x [] w e = (refl, cc)
  variable_kids x us w e = absurd cc

  pub pointed_kids : (us : List What) (w : What) → gives k ns head.Pointed us ≡ Some w → (us ≡ a_pointer ∷ []) × (w ≡ an_object)
  pointed_kids (a_pointer ∷ []) w e = (refl, cc)
  pointed_kids us w e = absurd cc

  pub field_kids : (n o : _) (us : List What) (w : What) → gives k ns (head.Field n o) us ≡ Some w → (us ≡ an_object ∷ []) × (w ≡ an_object)
  field_kids n o (an_object ∷ []) w e = (refl, cc)
  field_kids n o us w e = absurd cc

  pub element_kids : (n c : _) (us : List What) (w : What) → gives k ns (head.Element n c) us ≡ Some w → (us ≡ an_object ∷ an_integer ∷ []) × (w ≡ an_object)
  element_kids n c (an_object ∷ an_integer ∷ []) w e = (refl, cc)
  element_kids n c us w e = absurd cc

  pub elements_kids : (n c : _) (us : List What) (w : What) → gives k ns (head.Elements n c) us ≡ Some w → (us ≡ an_object ∷ an_integer ∷ an_integer ∷ []) × (w ≡ an_object)
  elements_kids n c (an_object ∷ an_integer ∷ an_integer ∷ []) w e = (refl, cc)
  elements_kids n c us w e = absurd cc

  pub behind_kids : (n : _) (us : List What) (w : What) → gives k ns (head.Behind n) us ≡ Some w → (us ≡ a_pointer ∷ an_integer ∷ an_integer ∷ []) × (w ≡ an_object)
  behind_kids n (a_pointer ∷ an_integer ∷ an_integer ∷ []) w e = (refl, cc)
  behind_kids n us w e = absurd cc

  pub integer_read_kids : (c l : _) (us : List What) (w : What) → gives k ns (head.Read (content.Integer c) l) us ≡ Some w → (us ≡ an_object ∷ []) × (w ≡ an_integer)
  integer_read_kids c l (an_object ∷ []) w e = (refl, cc)
  integer_read_kids c l us w e = absurd cc

  pub pointer_read_kids : (l : _) (us : List What) (w : What) → gives k ns (head.Read content.Pointer l) us ≡ Some w → (us ≡ an_object ∷ []) × (w ≡ a_pointer)
  pointer_read_kids l (an_object ∷ []) w e = (refl, cc)
  pointer_read_kids l us w e = absurd cc

  pub address_kids : (us : List What) (w : What) → gives k ns head.Address us ≡ Some w → (us ≡ an_object ∷ []) × (w ≡ a_pointer)
  address_kids (an_object ∷ []) w e = (refl, cc)
  address_kids us w e = absurd cc

  pub moved_kids : (m n : _) (us : List What) (w : What) → gives k ns (head.Moved m n) us ≡ Some w → (us ≡ a_pointer ∷ an_integer ∷ []) × (w ≡ a_pointer)
  moved_kids m n (a_pointer ∷ an_integer ∷ []) w e = (refl, cc)
  moved_kids m n us w e = absurd cc

  pub difference_kids : (n : _) (us : List What) (w : What) → gives k ns (head.Difference n) us ≡ Some w → (us ≡ a_pointer ∷ a_pointer ∷ []) × (w ≡ an_integer)
  difference_kids n (a_pointer ∷ a_pointer ∷ []) w e = (refl, cc)
  difference_kids n us w e = absurd cc

  pub negate_kids : (us : List What) (w : What) → gives k ns head.Negate us ≡ Some w → (us ≡ an_integer ∷ []) × (w ≡ an_integer)
  negate_kids (an_integer ∷ []) w e = (refl, cc)
  negate_kids us w e = absurd cc

  pub complement_kids : (us : List What) (w : What) → gives k ns head.Complement us ≡ Some w → (us ≡ an_integer ∷ []) × (w ≡ an_integer)
  complement_kids (an_integer ∷ []) w e = (refl, cc)
  complement_kids us w e = absurd cc

  pub arithmetic_kids : (o : _) (us : List What) (w : What) → gives k ns (head.Arithmetic o) us ≡ Some w → (us ≡ an_integer ∷ an_integer ∷ []) × (w ≡ an_integer)
  arithmetic_kids o (an_integer ∷ an_integer ∷ []) w e = (refl, cc)
  arithmetic_kids o us w e = absurd cc

  pub convert_kids : (c : _) (us : List What) (w : What) → gives k ns (head.Convert c) us ≡ Some w → (us ≡ an_integer ∷ []) × (w ≡ an_integer)
  convert_kids c (an_integer ∷ []) w e = (refl, cc)
  convert_kids c us w e = absurd cc

  pub compare_kids : (c : _) (us : List What) (w : What) → gives k ns (head.Compare c) us ≡ Some w → (us ≡ an_integer ∷ an_integer ∷ []) × (w ≡ an_integer)
  compare_kids c (an_integer ∷ an_integer ∷ []) w e = (refl, cc)
  compare_kids c us w e = absurd cc

  pub compare_pointers_kids : (c : _) (us : List What) (w : What) → gives k ns (head.ComparePointers c) us ≡ Some w → (us ≡ a_pointer ∷ a_pointer ∷ []) × (w ≡ an_integer)
  compare_pointers_kids c (a_pointer ∷ a_pointer ∷ []) w e = (refl, cc)
  compare_pointers_kids c us w e = absurd cc

  pub not_kids : (us : List What) (w : What) → gives k ns head.Not us ≡ Some w → (us ≡ an_integer ∷ []) × (w ≡ an_integer)
  not_kids (an_integer ∷ []) w e = (refl, cc)
  not_kids us w e = absurd cc

  pub link_kids : (c : _) (us : List What) (w : What) → gives k ns (head.Link c) us ≡ Some w → (us ≡ an_integer ∷ []) × (w ≡ a_linked_integer)
  link_kids c (an_integer ∷ []) w e = (refl, cc)
  link_kids c us w e = absurd cc

  pub link_pointers_kids : (c : _) (us : List What) (w : What) → gives k ns (head.LinkPointers c) us ≡ Some w → (us ≡ a_pointer ∷ []) × (w ≡ a_linked_pointer)
  link_pointers_kids c (a_pointer ∷ []) w e = (refl, cc)
  link_pointers_kids c us w e = absurd cc

  pub every_kind_kids : (c p : _) (us : List What) (w : What) → gives k ns (head.Every (range.Kind c p)) us ≡ Some w → (us ≡ an_integer ∷ []) × (w ≡ an_integer)
  every_kind_kids c p (an_integer ∷ []) w e = (refl, cc)
  every_kind_kids c p us w e = absurd cc

  pub every_between_kids : (a b p : _) (us : List What) (w : What) → gives k ns (head.Every (range.Between a b p)) us ≡ Some w
      → (us ≡ an_integer ∷ an_integer ∷ an_integer ∷ []) × (w ≡ an_integer)
  every_between_kids a b p (an_integer ∷ an_integer ∷ an_integer ∷ []) w e = (refl, cc)
  every_between_kids a b p us w e = absurd cc

  pub some_kind_kids : (c p : _) (us : List What) (w : What) → gives k ns (head.Some (range.Kind c p)) us ≡ Some w → (us ≡ an_integer ∷ []) × (w ≡ an_integer)
  some_kind_kids c p (an_integer ∷ []) w e = (refl, cc)
  some_kind_kids c p us w e = absurd cc

  pub some_between_kids : (a b p : _) (us : List What) (w : What) → gives k ns (head.Some (range.Between a b p)) us ≡ Some w
      → (us ≡ an_integer ∷ an_integer ∷ an_integer ∷ []) × (w ≡ an_integer)
  some_between_kids a b p (an_integer ∷ an_integer ∷ an_integer ∷ []) w e = (refl, cc)
  some_between_kids a b p us w e = absurd cc

  pub valid_kids : (c x : _) (us : List What) (w : What) → gives k ns (head.Valid c x) us ≡ Some w → (us ≡ an_object ∷ []) × (w ≡ an_integer)
  valid_kids c x (an_object ∷ []) w e = (refl, cc)
  valid_kids c x us w e = absurd cc

  pub region_kids : (c : _) (us : List What) (w : What) → gives k ns (head.Region c) us ≡ Some w → (us ≡ an_object ∷ []) × (w ≡ a_region)
  region_kids c (an_object ∷ []) w e = (refl, cc)
  region_kids c us w e = absurd cc

  pub truth_kids : (us : List What) (w : What) → both_truths us ≡ Some w → (us ≡ an_integer ∷ an_integer ∷ []) × (w ≡ an_integer)
  truth_kids (an_integer ∷ an_integer ∷ []) w e = (refl, cc)
  truth_kids us w e = absurd cc

  pub alone_kids : (us : List What) (o : Option What) (w : What) → alone us o ≡ Some w → (us ≡ []) × (o ≡ Some w)
  alone_kids [] o w e = (refl, e)
  alone_kids (u ∷ us) o w e = absurd cc

  pub no_struct : (n l : _) (us : List What) (w : What) → gives k ns (head.Read (content.Struct n) l) us ≡ Some w → ⊥
  no_struct n l us w e = absurd cc
