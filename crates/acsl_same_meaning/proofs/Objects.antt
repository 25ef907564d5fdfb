-- What names objects, casts, states and arguments are well formed where their terms are.
use Rattle.std.proofs.Common.{◌≡◌, ℕ, Bool, true, false, if◌then◌else◌, List, Option, Some, None, Ok, refl}
use Rattle.std.specs.Option.{option_map}
use Rattle.wp_base.specs.declared.kinds.Kind.{Kind}
use Rattle.c_kinds.specs.declared.models.Machdep.{Machdep}
use Rattle.c_kinds.specs.Models.{convert}
use Rattle.c_answers.specs.Answers.{Answer, wrong}
use Rattle.c_rules.specs.Pointers.{stride}
use Rattle.c_scopes.specs.declared.file.File.{File}
use Rattle.typed_prog.specs.declared.types.CoreType.{CoreType}
use Rattle.typed_prog.specs.Types.{kind_of, is_pointer, struct_of, target_of}
use Rattle.acsl_trees.specs.declared.heads.Content.{Content}
use Rattle.acsl_trees.specs.declared.heads.Content.TheVariants as content_of
use Rattle.acsl_trees.specs.declared.heads.Head.TheVariants as head
use Rattle.acsl_trees.specs.declared.heads.Label.{Label}
use Rattle.acsl_trees.specs.declared.operands.Sort.{Sort}
use Rattle.acsl_trees.specs.declared.operands.Sort.TheVariants as sort
use Rattle.acsl_trees.specs.declared.operands.TermType.{TermType}
use Rattle.acsl_trees.specs.declared.operands.TermType.TheVariants as term_type
use Rattle.acsl_trees.specs.Tree.{Tree, one, leaf}
use Rattle.acsl_trees.specs.Operands.{Operand, operand}
use Rattle.acsl_rules.specs.Sorts.{content, known_in, is_zero, is_null, is_unknown, may_be_integer, alike_to, array_count}
use Rattle.acsl_rules.specs.Values.{integer_value}
use Rattle.acsl_rules.specs.Operators.{sum, dereferenced, dereferenced_value}
use Rattle.acsl_rules.specs.Objects.{indexed_values, indexed_by, indexed, member_named, member_by, member_of, dotted_by, dotted, field_by, field, behind_by, behind_at, behind_base, elements_by, elements_base, bounded, elements, behind, region_by, target_content, region_at, region_of, pointed}
use Rattle.acsl_rules.specs.Contexts.{to_kind, to_pointer, cast_by, cast_value, cast, object_at, labelled_by, labelled, pointer_passed, typed_passed, passed_value, passed}
use Rattle.acsl_rules.specs.Laws.{Holds}
use Rattle.c_runs.specs.TruthLaws.{Signatures}
use Rattle.acsl_same_meaning.proofs.Answers.{after_holds, if_holds}
use Rattle.acsl_same_meaning.proofs.Operators.{only, pair, triple, Good, IsGood, Made, from_value, from_integer, integer_fits, integer_value_fits, sum_fits, dereferenced_fits, dereferenced_value_fits}

module _ (l u : Bool) (s : Signatures) (d : ℕ) where
  abbrev G : Tree → Type 0
  G = Good l u s d

  abbrev I : Operand → Type 0
  I = IsGood l u s d

  abbrev M : Answer Operand → Type 0
  M = Made l u s d

  -- ---- `[ ]`

  indexed_values_fit : (sizes : List ℕ) (line : ℕ) (v w : Operand) → I v → I w → M (indexed_values sizes line v w)
  indexed_values_fit sizes line v w f g =
      after_holds I I (sum sizes line v w) (dereferenced_value line) (sum_fits l u s d sizes line v w f g) (dereferenced_value_fits l u s d line)

  indexed_by_fits : (sizes : List ℕ) (line : ℕ) (x y : Operand) (first second : Option ℕ) → I x → I y → M (indexed_by sizes line x y first second)
  indexed_by_fits sizes line x y (Some n) second f g = from_integer l u s d line y _ g (λ i fi. pair f fi)
  indexed_by_fits sizes line x y None (Some n) f g = from_integer l u s d line x _ f (λ i fi. pair g fi)
  indexed_by_fits sizes line x y None None f g =
      from_value l u s d I line x _ f (λ v fv. from_value l u s d I line y (indexed_values sizes line v) g (λ w fw. indexed_values_fit sizes line v w fv fw))

  pub indexed_fits : (sizes : List ℕ) (line : ℕ) (x y : Operand) → I x → I y → M (indexed sizes line x y)
  unfolding indexed
  indexed_fits sizes line x y f g = indexed_by_fits sizes line x y (array_count x.sort) (array_count y.sort) f g

  -- ---- `.` and `->`

  member_of_fits : (file : File) (line : ℕ) (name : List ℕ) (t : Tree) (label : Option Label) (struct : Option ℕ) → G t
      → M (member_of file line name t label struct)
  member_of_fits file line name t label None f = tt
  member_of_fits file line name t label (Some n) f = member_by_fits (member_named file name n) f
    where
      member_by_fits : (m : _) → G t → M (member_by line t label m)
      member_by_fits (Some m) f = only f
      member_by_fits None f = tt

  dotted_by_fits : (file : File) (line : ℕ) (name : List ℕ) (t : Tree) (q : Sort) → G t → M (dotted_by file line name t q)
  dotted_by_fits file line name t (sort.Object type label) f = member_of_fits file line name t label (struct_of type) f
  dotted_by_fits file line name t (sort.Integer known) f = tt
  dotted_by_fits file line name t (sort.Pointer type null) f = tt
  dotted_by_fits file line name t sort.Unknown f = f

  dotted_fits : (file : File) (line : ℕ) (name : List ℕ) (x : Operand) → I x → M (dotted file line name x)
  dotted_fits file line name x f = dotted_by_fits file line name x.tree x.sort f

  field_by_fits : (file : File) (line : ℕ) (name : List ℕ) (arrow : Bool) (x : Operand) → I x → M (field_by file line name arrow x)
  field_by_fits file line name false x f = dotted_fits file line name x f
  field_by_fits file line name true x f =
      after_holds I I (dereferenced line x) (dotted file line name) (dereferenced_fits l u s d line x f) (dotted_fits file line name)

  pub field_fits : (file : File) (line : ℕ) (name : List ℕ) (arrow : Bool) (x : Operand) → I x → M (field file line name arrow x)
  unfolding field
  field_fits file line name arrow x f = field_by_fits file line name arrow x f

  -- ---- `[low .. high]`

  behind_by_fits : (line : ℕ) (p i j : Tree) (size : Option ℕ) (target : Option (CoreType × Bool)) → G p → G i → G j → M (behind_by line p i j size target)
  behind_by_fits line p i j (Some size) (Some (type, is_const)) f g h = triple f g h
  behind_by_fits line p i j (Some size) None f g h = tt
  behind_by_fits line p i j None target f g h = tt

  behind_at_fits : (sizes : List ℕ) (line : ℕ) (p : Tree) (q : Sort) (i j : Tree) → G p → G i → G j → M (behind_at sizes line p q i j)
  behind_at_fits sizes line p (sort.Pointer type null) i j f g h = behind_by_fits line p i j (stride sizes type) (target_of type) f g h
  behind_at_fits sizes line p sort.Unknown i j f g h = f
  behind_at_fits sizes line p (sort.Object type label) i j f g h = tt
  behind_at_fits sizes line p (sort.Integer known) i j f g h = tt

  behind_base_fits : (sizes : List ℕ) (line : ℕ) (x : Operand) (i j : Tree) → I x → G i → G j → M (behind_base sizes line x i j)
  unfolding behind_base
  behind_base_fits sizes line x i j f g h = from_value l u s d I line x _ f (λ v fv. behind_at_fits sizes line v.tree v.sort i j fv g h)

  elements_by_fits : (sizes : List ℕ) (line : ℕ) (x : Operand) (i j : Tree) (count : Option ℕ) → I x → G i → G j → M (elements_by sizes line x i j count)
  elements_by_fits sizes line x i j (Some n) f g h = triple f g h
  elements_by_fits sizes line x i j None f g h = behind_base_fits sizes line x i j f g h

  bounded_fits : (low_line high_line : ℕ) (low high : Operand) (make : Tree → Tree → Answer Operand) → I low → I high
      → ((i j : Tree) → G i → G j → M (make i j))
      → M (bounded low_line high_line low high make)
  bounded_fits low_line high_line low high make f g go =
      after_holds G I (integer_value low_line low) _ (integer_value_fits l u s d low_line low f)
      (λ i fi. after_holds G I (integer_value high_line high) (make i) (integer_value_fits l u s d high_line high g) (λ j fj. go i j fi fj))

  pub elements_fit : (sizes : List ℕ) (line low_line high_line : ℕ) (x low high : Operand) → I x → I low → I high
      → M (elements sizes line low_line high_line x low high)
  unfolding elements
  elements_fit sizes line low_line high_line x low high f g h =
      bounded_fits low_line high_line low high (elements_base sizes line x) g h (λ i j fi fj. elements_by_fits sizes line x i j (array_count x.sort) f fi fj)

  pub behind_fits : (sizes : List ℕ) (line low_line high_line : ℕ) (x low high : Operand) → I x → I low → I high
      → M (behind sizes line low_line high_line x low high)
  unfolding behind
  behind_fits sizes line low_line high_line x low high f g h =
      bounded_fits low_line high_line low high (behind_base sizes line x) g h (λ i j fi fj. behind_base_fits sizes line x i j f fi fj)

  -- ---- regions

  abbrev pub IsSet : Tree × Content → Type 0
  IsSet q = G q.0

  region_by_fits : (line : ℕ) (p : Tree) (o : Option Content) → G p → Holds IsSet (region_by line p o)
  region_by_fits line p (Some c) f = only f
  region_by_fits line p None f = tt

  region_at_fits : (line : ℕ) (p : Tree) (q : Sort) → G p → Holds IsSet (region_at line p q)
  region_at_fits line p (sort.Pointer type null) f = region_by_fits line p (target_content (target_of type)) f
  region_at_fits line p sort.Unknown f = region_by_fits line p (Some content_of.Pointer) f
  region_at_fits line p (sort.Object type label) f = tt
  region_at_fits line p (sort.Integer known) f = tt

  pub pointed_fits : (line : ℕ) (x : Operand) → I x → Holds IsSet (pointed line x)
  unfolding pointed
  pointed_fits line x f = from_value l u s d IsSet line x (region_of line) f (λ v fv. region_at_fits line v.tree v.sort fv)

  -- ---- casts

  kind_fits : (m : Machdep) (line : ℕ) (k : Kind) (v : Operand) → I v → M (to_kind m line k v)
  kind_fits m line k v f =
      if_holds I (may_be_integer v.sort) (Ok (operand (one (head.Convert k) v.tree) (sort.Integer (option_map (convert m k) (known_in v.sort))))) (wrong line)
      (only f) tt

  pointer_fits : (line : ℕ) (type : CoreType) (null : Bool) (v : Operand) → M (to_pointer line type null v)
  pointer_fits line type null v = if_holds I (is_zero (known_in v.sort)) (Ok (operand (leaf head.Null) (sort.Pointer type null))) (wrong line) refl tt

  cast_by_fits : (m : Machdep) (line : ℕ) (type : CoreType) (null : Bool) (v : Operand) (k : Option Kind) (p : Bool) → I v → M (cast_by m line type null v k p)
  cast_by_fits m line type null v (Some k) p f = kind_fits m line k v f
  cast_by_fits m line type null v None true f = pointer_fits line type null v
  cast_by_fits m line type null v None false f = tt

  pub cast_fits : (m : Machdep) (line : ℕ) (type : CoreType) (null : Bool) (x : Operand) → I x → M (cast m line type null x)
  unfolding cast
  cast_fits m line type null x f =
      from_value l u s d I line x (cast_value m line type null) f (λ v fv. cast_by_fits m line type null v (kind_of type) (is_pointer type) fv)

  -- ---- states, where labels may stand

  object_at_fits : (x : Label) (t : Tree) (type : CoreType) (inner : Option Label) (c : Option Content) → l ≡ true → G t → I (object_at x t type inner c)
  object_at_fits x t type inner (Some (content_of.Integer k)) may f = pair may (only f)
  object_at_fits x t type inner (Some content_of.Pointer) may f = pair may (only f)
  object_at_fits x t type None (Some (content_of.Struct n)) may f = pair may f
  object_at_fits x t type (Some i) (Some (content_of.Struct n)) may f = f
  object_at_fits x t type None None may f = pair may f
  object_at_fits x t type (Some i) None may f = f

  labelled_by_fits : (x : Label) (t : Tree) (q : Sort) → l ≡ true → G t → I (labelled_by x t q)
  labelled_by_fits x t (sort.Object type inner) may f = object_at_fits x t type inner (content type) may f
  labelled_by_fits x t (sort.Integer known) may f = pair may f
  labelled_by_fits x t (sort.Pointer type null) may f = pair may f
  labelled_by_fits x t sort.Unknown may f = pair may f

  pub labelled_fits : (x : Label) (v : Operand) → l ≡ true → I v → M (labelled x v)
  unfolding labelled
  labelled_fits x v may f = labelled_by_fits x v.tree v.sort may f

  -- ---- arguments

  pointer_passed_fits : (line : ℕ) (type : CoreType) (v : Operand) → I v → Holds G (pointer_passed line type v)
  pointer_passed_fits line type v f =
      if_holds G (is_null v.sort) (Ok (leaf head.Null)) (if alike_to type v.sort then Ok v.tree else wrong line) refl
      (if_holds G (alike_to type v.sort) (Ok v.tree) (wrong line) f tt)

  typed_passed_fits : (line : ℕ) (to : TermType) (v : Operand) → I v → Holds G (typed_passed line to v)
  typed_passed_fits line term_type.Integer v f = integer_fits l u s d line v f
  typed_passed_fits line (term_type.Pointer type) v f = pointer_passed_fits line type v f
  typed_passed_fits line term_type.Unknown v f = f

  pub passed_fits : (line : ℕ) (to : TermType) (x : Operand) → I x → Holds G (passed line to x)
  unfolding passed
  passed_fits line to x f =
      from_value l u s d G line x (passed_value line to) f (λ v fv. if_holds G (is_unknown v.sort) (Ok v.tree) (typed_passed line to v) fv
      (typed_passed_fits line to v fv))
