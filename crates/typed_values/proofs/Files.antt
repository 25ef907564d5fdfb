-- The cells that a file speaks of are among those that its types tell.
use Rattle.std.proofs.Common.{◌≡◌, ℕ, zero, suc, ◌+◌, Bool, true, false, ◌||◌, if◌then◌else◌, List, [], ◌∷◌, ◌++◌, map, flat_map, Some, slice_get, slice_index_or, refl, sym, ap, subst, ◌∙◌, ◌⊎◌, inl, inr, arith, eq-eqb}
use Rattle.std.specs.List.{list_any}
use Rattle.wp_base.specs.declared.kinds.CellKind.{CellKind}
use Rattle.wp_base.specs.declared.kinds.CellKind.TheVariants as cell
use Rattle.wp_base.specs.Kinds.{cell_place}
use Rattle.wp_base.specs.Blocks.{same_cell}
use Rattle.typed_prog.specs.declared.types.Base.{Base}
use Rattle.typed_prog.specs.declared.types.Base.TheVariants as base
use Rattle.typed_prog.specs.declared.types.CoreType.{CoreType}
use Rattle.c_scopes.specs.declared.symbols.Object.{Object}
use Rattle.c_scopes.specs.declared.symbols.Signature.{Signature}
use Rattle.c_scopes.specs.declared.symbols.Structure.{Structure}
use Rattle.c_scopes.specs.declared.symbols.Field.{Field as Member}
use Rattle.typed_unit.specs.Unit as u
use Rattle.value_terms.specs.Typed.{Scope}
use Rattle.typed_values.specs.Kinds.{ObjectIs, TargetIs, ObjectIsKnown, TargetIsKnown}
use Rattle.typed_values.specs.Files.{object_cells, target_cells, cells_in, cells_behind, has_items, has_pointers, stmt_nulls, type_of, in_blocks, body_objects, body_values, field_type, field_types, result_type, object_types, value_types, has_blocks, cell_kinds, has_kind, IsOfFile, VariablesAreKnown, BodyIsKnown, FilesKnowTheirCells}

-- ---- lists

abbrev In : {X : Type 0} → X → List X → Type 0
In x [] = ⊥
In x (y ∷ ys) = (y ≡ x) ⊎ In x ys

in_left : {X : Type 0} (x : X) (xs ys : List X) → In x xs → In x (xs ++ ys)
in_left x [] ys h = elim h [ ]
in_left x (z ∷ xs) ys (inl h) = inl h
in_left x (z ∷ xs) ys (inr h) = inr (in_left x xs ys h)

in_right : {X : Type 0} (x : X) (xs ys : List X) → In x ys → In x (xs ++ ys)
in_right x [] ys h = h
in_right x (z ∷ xs) ys h = inr (in_right x xs ys h)

in_slice : {X : Type 0} (xs : List X) (i : ℕ) (x : X) → slice_get xs i ≡ Some x → In x xs
in_slice [] i x h = absurd cc
in_slice (z ∷ xs) zero x h = inl cc
in_slice (z ∷ xs) (suc i) x h = inr (in_slice xs i x h)

in_flat : {X Y : Type 0} (f : X → List Y) (xs : List X) (i : ℕ) (x : X) (y : Y) → slice_get xs i ≡ Some x → In y (f x) → In y (flat_map f xs)
in_flat f [] i x y h there = absurd cc
in_flat f (z ∷ xs) zero x y h there = let same : x ≡ z = cc in in_left y (f z) (flat_map f xs) (subst (λ a. In y (f a)) same there)
in_flat f (z ∷ xs) (suc i) x y h there = in_right y (f z) (flat_map f xs) (in_flat f xs i x y h there)

in_map : {X Y : Type 0} (f : X → Y) (xs : List X) (i : ℕ) (x : X) → slice_get xs i ≡ Some x → In (f x) (map f xs)
in_map f [] i x h = absurd cc
in_map f (z ∷ xs) zero x h = let same : z ≡ x = cc in inl (ap f same)
in_map f (z ∷ xs) (suc i) x h = inr (in_map f xs i x h)

or_first : (a b : Bool) → a ≡ true → (a || b) ≡ true
or_first true b h = refl
or_first false b h = absurd cc

or_second : (a b : Bool) → b ≡ true → (a || b) ≡ true
or_second true b h = refl
or_second false b h = h

any_in : {X : Type 0} (f : X → Bool) (xs : List X) (x : X) → In x xs → f x ≡ true → list_any f xs ≡ true
any_in f [] x h so = elim h [ ]
any_in f (y ∷ ys) x (inl h) so = or_first (f y) (list_any f ys) (ap f h ∙ so)
any_in f (y ∷ ys) x (inr h) so = or_second (f y) (list_any f ys) (any_in f ys x h so)

has_one : {X : Type 0} (xs : List X) (x : X) → In x xs → has_items xs ≡ true
has_one [] x h = elim h [ ]
has_one (y ∷ ys) x h = refl

-- ---- kinds among others

among_flat : (f : CoreType → List CellKind) (types : List CoreType) (type : CoreType) (k : CellKind) → In type types → In k (f type) → In k (flat_map f types)
among_flat f [] type k h there = elim h [ ]
among_flat f (z ∷ types) type k (inl h) there = in_left k (f z) (flat_map f types) (subst (λ a. In k (f a)) (sym h) there)
among_flat f (z ∷ types) type k (inr h) there = in_right k (f z) (flat_map f types) (among_flat f types type k h there)

module _ (f : u.Typed) (s : Scope) (of_file : IsOfFile f s) where
  kind_there : (k : CellKind) → In k (cell_kinds f) → s.has_kind k ≡ true
  unfolding has_kind
  kind_there k h = of_file.kinds k ∙ any_in (same_cell k) (cell_kinds f) k h (eq-eqb (cell_place k) (cell_place k) refl)

  -- ---- types

  object_is : (b : Base) (stars : List Bool) → s.has_blocks ≡ true → ((k : CellKind) → In k (object_cells b stars) → In k (cell_kinds f)) → ObjectIs s b stars
  object_is (base.Of k) [] blocks all = kind_there (cell.Of k) (all (cell.Of k) (inl refl))
  object_is base.Void [] blocks all = tt
  object_is (base.Struct n) [] blocks all = tt
  object_is (base.Of k) (star ∷ stars) blocks all =
      (kind_there cell.Ptr (all cell.Ptr (inl refl)), blocks, object_is (base.Of k) stars blocks (λ l h. all l (inr h)))
  object_is base.Void (star ∷ stars) blocks all =
      (kind_there cell.Ptr (all cell.Ptr (inl refl)), blocks, object_is base.Void stars blocks (λ l h. all l (inr h)))
  object_is (base.Struct n) (star ∷ stars) blocks all =
      (kind_there cell.Ptr (all cell.Ptr (inl refl)), blocks, object_is (base.Struct n) stars blocks (λ l h. all l (inr h)))

  target_is : (b : Base) (stars : List Bool) → (has_items stars ≡ true → s.has_blocks ≡ true) → ((k : CellKind) → In k (target_cells b stars) → In k (cell_kinds f)) → TargetIs s b stars
  target_is b [] blocks all = tt
  target_is b (star ∷ stars) blocks all = (blocks refl, object_is b stars (blocks refl) all)

  blocks_by_object : (type : CoreType) → In type (object_types f) → s.has_blocks ≡ true
  unfolding has_blocks
  blocks_by_object type h = of_file.blocks ∙ or_first (has_items (object_types f)) (list_any has_pointers (value_types f)) (has_one (object_types f) type h)

  blocks_by_value : (type : CoreType) → In type (value_types f) → has_pointers type ≡ true → s.has_blocks ≡ true
  unfolding has_blocks
  blocks_by_value type h pointers =
      of_file.blocks ∙ or_second (has_items (object_types f)) (list_any has_pointers (value_types f)) (any_in has_pointers (value_types f) type h pointers)

  object_known : (type : CoreType) → In type (object_types f) → ObjectIsKnown s type
  unfolding cell_kinds
  object_known type h =
      object_is type.base type.stars (blocks_by_object type h)
      (λ k there. in_left k (flat_map cells_in (object_types f)) (flat_map cells_behind (value_types f)) (among_flat cells_in (object_types f) type k h there))

  value_known : (type : CoreType) → In type (value_types f) → TargetIsKnown s type
  unfolding cell_kinds
  value_known type h =
      target_is type.base type.stars (blocks_by_value type h)
      (λ k there. in_right k (flat_map cells_in (object_types f)) (flat_map cells_behind (value_types f)) (among_flat cells_behind (value_types f) type k h there))

  -- ---- variables

  in_block : (ps : List Bool) (start n m : ℕ) (os : List Object) (o : Object) → m ≡ start + n → slice_get os n ≡ Some o → slice_index_or ps m false ≡ false → In o.ty (in_blocks ps start os)
  in_block ps start n m [] o at h block = absurd cc
  in_block ps start zero m (x ∷ os) o at h block =
      let e : m ≡ start = omega (arith, at) in
      let same : x ≡ o = cc in
      let first : slice_index_or ps start false ≡ false = ap (λ i. slice_index_or ps i false) (sym e) ∙ block in
      subst (λ (b : Bool). In o.ty (if b then in_blocks ps (start + 1) os else x.ty ∷ in_blocks ps (start + 1) os)) (sym first) (inl (ap type_of same))
  in_block ps start (suc n) m (x ∷ os) o at h block =
      let rest = in_block ps (start + 1) n m os o (omega (arith, at)) h block in
      by (slice_index_or ps start false) rest
    where
      by : (b : Bool) → In o.ty (in_blocks ps (start + 1) os) → In o.ty (if b then in_blocks ps (start + 1) os else x.ty ∷ in_blocks ps (start + 1) os)
      by true r = r
      by false r = inr r

  variables_known : (ps : List Bool) (os : List Object) → ((type : CoreType) → In type (in_blocks ps 0 os) → In type (object_types f))
      → ((type : CoreType) → In type (map type_of os) → In type (value_types f)) → VariablesAreKnown s ps os
  variables_known ps os objects values n o h = record {
    target = value_known o.ty (values o.ty (in_map type_of os n o h));
    blocks = λ block. blocks_by_object o.ty (objects o.ty (in_block ps 0 n n os o (omega arith) h block));
    object = λ block. object_known o.ty (objects o.ty (in_block ps 0 n n os o (omega arith) h block));
  }

  globals_known : VariablesAreKnown s f.plain f.file.globals
  unfolding object_types value_types
  globals_known =
      variables_known f.plain f.file.globals
      (λ type h. in_left type (in_blocks f.plain 0 f.file.globals) (flat_map body_objects f.bodies ++ flat_map field_types f.file.structs) h)
      (λ type h. in_left type (map type_of f.file.globals) (flat_map body_values f.bodies ++ map result_type f.file.functions) h)

  body_object : (n : ℕ) (b : u.Body) (type : CoreType) → slice_get f.bodies n ≡ Some b → In type (body_objects b) → In type (object_types f)
  unfolding object_types
  body_object n b type h there =
      in_right type (in_blocks f.plain 0 f.file.globals) (flat_map body_objects f.bodies ++ flat_map field_types f.file.structs)
      (in_left type (flat_map body_objects f.bodies) (flat_map field_types f.file.structs) (in_flat body_objects f.bodies n b type h there))

  body_value : (n : ℕ) (b : u.Body) (type : CoreType) → slice_get f.bodies n ≡ Some b → In type (body_values b) → In type (value_types f)
  unfolding value_types
  body_value n b type h there =
      in_right type (map type_of f.file.globals) (flat_map body_values f.bodies ++ map result_type f.file.functions)
      (in_left type (flat_map body_values f.bodies) (map result_type f.file.functions) (in_flat body_values f.bodies n b type h there))

  body_known : (n : ℕ) (b : u.Body) → slice_get f.bodies n ≡ Some b → BodyIsKnown s b
  body_known n b h = record {
    locals = variables_known b.plain b.locals (λ type there. body_object n b type h there)
        (λ type there. body_value n b type h (in_left type (map type_of b.locals) (stmt_nulls b.stmt) there));
    nulls = λ i type found. value_known type
        (body_value n b type h (in_right type (map type_of b.locals) (stmt_nulls b.stmt) (in_slice (stmt_nulls b.stmt) i type found)));
  }

  field_known : (tag number : ℕ) (x : Structure) (m : Member) → slice_get f.file.structs tag ≡ Some x → slice_get x.fields number ≡ Some m → ObjectIsKnown s m.ty
  unfolding object_types
  field_known tag number x m h there =
      object_known m.ty
      (in_right m.ty (in_blocks f.plain 0 f.file.globals) (flat_map body_objects f.bodies ++ flat_map field_types f.file.structs)
      (in_right m.ty (flat_map body_objects f.bodies) (flat_map field_types f.file.structs)
      (in_flat field_types f.file.structs tag x m.ty h (in_map field_type x.fields number m there))))

  result_known : (n : ℕ) (g : Signature) → slice_get f.file.functions n ≡ Some g → TargetIsKnown s g.result
  unfolding value_types
  result_known n g h =
      value_known g.result
      (in_right g.result (map type_of f.file.globals) (flat_map body_values f.bodies ++ map result_type f.file.functions)
      (in_right g.result (flat_map body_values f.bodies) (map result_type f.file.functions) (in_map result_type f.file.functions n g h)))

pub files_know_their_cells : FilesKnowTheirCells
files_know_their_cells f s of_file = record {
  globals = globals_known f s of_file;
  bodies = body_known f s of_file;
  fields = field_known f s of_file;
  results = result_known f s of_file;
}
