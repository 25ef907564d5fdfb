-- Objects and addresses spell what they are made of.
use Rattle.std.proofs.Common.{◌≡◌, ℕ, zero, suc, ◌==◌, Bool, true, false, ◌&&◌, if◌then◌else◌, List, [], ◌∷◌, ◌++◌, length, Option, Some, None, Ok, refl, ap, subst, ◌∙◌, inl, inr, arith}
use Rattle.std.specs.Prelude.{slice_get, position, bytes_eq}
use Rattle.std.proofs.lemmas.Bool.Decides.{nat_tests}
use Rattle.std.proofs.lemmas.Option.{get_or_from_slice_get}
use Rattle.std.proofs.lemmas.List.Quantifiers.{position-Some}
use Rattle.wp_base.specs.declared.kinds.Kind.{Kind}
use Rattle.c_syntax.specs.declared.expr.UnOp.TheVariants as un
use Rattle.c_syntax.specs.Expr as e
use Rattle.c_syntax.specs.Lines.{line_of}
use Rattle.typed_prog.specs.declared.types.CoreType.{CoreType}
use Rattle.typed_prog.specs.declared.operators.Root.{Root}
use Rattle.typed_prog.specs.declared.operators.Root.TheVariants as root
use Rattle.typed_prog.specs.declared.operators.Step.{Step}
use Rattle.typed_prog.specs.declared.operators.Step.TheVariants as step
use Rattle.typed_prog.specs.Types.{target_of, is_void}
use Rattle.typed_prog.specs.Tree as t
use Rattle.c_answers.specs.Answers.{wrong, after}
use Rattle.c_operands.specs.Operands.{Operand, object, value, Place, Rvalue, valued, followed}
use Rattle.c_operands.specs.Conversions.{kind_of_value}
use Rattle.c_rules.specs.Pointers.{stride, element_cells}
use Rattle.c_places.specs.declared.objects.Field.{Field}
use Rattle.c_places.specs.Objects.{followed_by, dereferenced, is_bare_root, is_bare, only_of, address_by, address_of_object, address, index_by, index_value, element, element_swapped, pointed_by, indexed_values_by, array_count, indexed_by, indexed, dotted_struct, member_by, member_in, member}
use Rattle.c_scopes.specs.declared.symbols.Structure.{Structure}
use Rattle.c_scopes.specs.declared.symbols.Field.{Field as Member}
use Rattle.c_exprs.specs.Leaves.{field_with, field_by, field_in, field_named}
use Rattle.c_exprs.specs.Typing.{Around, unary, member_named, field_by as dotted_by, field, typed}
use Rattle.c_spelled_back.specs.Constants.{itself}
use Rattle.c_spelled_back.specs.Ways.{IsElement, IsMember, NamesField, WaySpells}
use Rattle.c_spelled_back.specs.Spelled.{ValueSpells, ValuesSpell, PlaceSpells, OperandSpells}
use Rattle.c_spelled_back.proofs.Parts.{after_holds, after_known, RvalueSpells, Made, never, both, both_stand}
use Rattle.c_spelled_back.proofs.Values.{valued_spells, after_valued, followed_spells, ValueMade}
use Rattle.c_spelled_back.proofs.Leading.{operands_more, get_last, way_wider, way_behind, way_more}

-- ---- `*`

followed_if : (c : Around) (a : e.Expr) (line : ℕ) (v : t.Value) (type : CoreType) (is_const is_nothing : Bool) → ValueSpells c v a
    → Made c (e.unary line un.Deref a)
    (if is_nothing then wrong line else Ok
    (object (record { path = record { root = root.Pointed 0; steps = []; line = line }; operands = followed true v ∷ []; type = type }) is_const))
followed_if c a line v type k true fits = tt
followed_if c a line v type k false fits = (a ∷ [], (followed_spells c a true v fits, tt), (refl, (a, refl, (line, refl))))

followed_made : (c : Around) (a : e.Expr) (line : ℕ) (v : t.Value) (to : Option (CoreType × Bool)) → ValueSpells c v a
    → Made c (e.unary line un.Deref a) (followed_by line v to)
followed_made c a line v None fits = tt
followed_made c a line v (Some (type, k)) fits = followed_if c a line v type k (is_void type) fits

pub dereferenced_made : (c : Around) (a : e.Expr) (line : ℕ) (x : Operand) → OperandSpells c x a → Made c (e.unary line un.Deref a) (dereferenced line x)
unfolding dereferenced
dereferenced_made c a line x fits = after_valued c a _ line x _ fits (λ v fv. followed_made c a line v.value (target_of (t.type_of v.value)) fv.0)

-- ---- `&`

no_zero : {X : Type 0} (n : ℕ) → (suc n == 0) ≡ true → X
no_zero n h = absurd (grind (arith, nat_tests, h))

-- where the object is what the first operand leads to, that operand stands behind `&*`
leading : (c : Around) (a : e.Expr) (line : ℕ) (v : t.Value) (r : Root) (ss : List Step) (vs : List t.Value) (xs : List e.Expr)
    → (is_bare_root r && length ss == 0) ≡ true
    → only_of vs ≡ Some v → ValuesSpell c (t.values_of vs) xs → WaySpells c xs r ss a → ValueSpells c v (e.unary line un.AddressOf a)
leading c a line v (root.Variable x) ss vs xs h only fits way = never h
leading c a line v (root.Pointed (suc n)) ss vs xs h only fits way = no_zero n (both (suc n == 0) (length ss == 0) h).0
leading c a line v (root.Pointed zero) (s ∷ ss) vs xs h only fits way = no_zero (length ss) (both true (length (s ∷ ss) == 0) h).1
leading c a line v (root.Pointed zero) [] [] xs h only fits way = cc
leading c a line v (root.Pointed zero) [] (w ∷ w' ∷ ws) xs h only fits way = cc
leading c a line v (root.Pointed zero) [] (w ∷ []) [] h only fits way = absurd fits
leading c a line v (root.Pointed zero) [] (w ∷ []) (z ∷ z' ∷ zs) h only fits way = absurd fits.1
leading c a line v (root.Pointed zero) [] (w ∷ []) (z ∷ []) h only fits way =
    let same : w ≡ v = cc in
    let first : z ≡ way.0 = cc in
    let stands : ValueSpells c w (e.unary line un.AddressOf (e.unary way.2.0 un.Deref z)) = both_stand c line way.2.0 w z fits.0 in
    subst (λ y. ValueSpells c y (e.unary line un.AddressOf a)) same
    (subst (λ y. ValueSpells c w (e.unary line un.AddressOf y)) (ap (e.unary way.2.0 un.Deref) first ∙ way.2.1) stands)

addressed : (c : Around) (a : e.Expr) (line : ℕ) (p : Place) (k : Bool) → PlaceSpells c p a
    → ValueSpells c (address_by line p k None) (e.unary line un.AddressOf a)
addressed c a line p k fits = (e.unary line un.AddressOf a, itself _, refl, (fits.0, a, fits.1, fits.2, refl))

addressed_by : (c : Around) (a : e.Expr) (line : ℕ) (p : Place) (k : Bool) (one : Option t.Value) → is_bare p.path ≡ true → only_of p.operands ≡ one
    → PlaceSpells c p a
    → ValueSpells c (address_by line p k one) (e.unary line un.AddressOf a)
addressed_by c a line p k None h only fits = addressed c a line p k fits
addressed_by c a line p k (Some v) h only fits =
    followed_spells c _ false v (leading c a line v p.path.root p.path.steps p.operands fits.0 h only fits.1 fits.2.1)

addressed_if : (c : Around) (a : e.Expr) (line : ℕ) (p : Place) (k : Bool) (bare : Bool) → is_bare p.path ≡ bare → PlaceSpells c p a
    → ValueSpells c (if bare then address_by line p k (only_of p.operands) else address_by line p k None) (e.unary line un.AddressOf a)
addressed_if c a line p k true h fits = addressed_by c a line p k (only_of p.operands) h refl fits
addressed_if c a line p k false h fits = addressed c a line p k fits

address_of_made : (c : Around) (a : e.Expr) (line : ℕ) (p : Place) (k : Bool) (count : Option ℕ) → PlaceSpells c p a
    → Made c (e.unary line un.AddressOf a) (address_of_object line p k count)
address_of_made c a line p k (Some n) fits = tt
address_of_made c a line p k None fits = (addressed_if c a line p k (is_bare p.path) refl fits, λ h. never h)

pub address_made : (c : Around) (a : e.Expr) (line : ℕ) (x : Operand) → OperandSpells c x a → Made c (e.unary line un.AddressOf a) (address line x)
unfolding address
address_made c a line (object p k) fits = address_of_made c a line p k p.type.count fits
address_made c a line (value v k) fits = tt

-- ---- `[ ]`

index_by_spells : (c : Around) (b : e.Expr) (line : ℕ) (v : Rvalue) (k : Option Kind) → ValueSpells c v.value b → ValueMade c b (index_by line v k)
index_by_spells c b line v (Some k) fits = fits
index_by_spells c b line v None fits = tt

index_spells : (c : Around) (b : e.Expr) (line : ℕ) (y : Operand) → OperandSpells c y b → ValueMade c b (index_value line y)
unfolding index_value
index_spells c b line y fits =
    after_holds (RvalueSpells c b) (λ v. ValueSpells c v b) (valued line y) _ (valued_spells c b line y fits)
    (λ v fv. index_by_spells c b line v (kind_of_value v.value) fv.0)

element_spells : (c : Around) (a b x : e.Expr) (sizes : List ℕ) (line n : ℕ) (p : Place) (i : t.Value) → line_of x ≡ line → IsElement line a b x
    → PlaceSpells c p a → ValueSpells c i b
    → PlaceSpells c (element sizes line n p i) x
element_spells c a b x sizes line n p i at is fits fit = (
  fits.0 ++ b ∷ [],
  operands_more c p.operands fits.0 i b fits.1 fit,
  (
    at,
    way_more c (fits.0 ++ b ∷ []) p.path.root p.path.steps (step.Element (length p.operands) (element_cells sizes p.type) n line) a x
        (way_wider c fits.0 (b ∷ []) p.path.root p.path.steps a fits.2.1) (b, get_last c p.operands fits.0 b fits.1, is),
  ),
)

swapped_spells : (c : Around) (a b x : e.Expr) (sizes : List ℕ) (line n : ℕ) (p : Place) (i : t.Value) → line_of x ≡ line → IsElement line a b x
    → PlaceSpells c p a → ValueSpells c i b
    → PlaceSpells c (element_swapped sizes line n p i) x
swapped_spells c a b x sizes line n p i at is fits fit = (
  b ∷ fits.0,
  (fit, fits.1),
  (
    at,
    way_more c (b ∷ fits.0) _ _ (step.Element 0 (element_cells sizes p.type) n line) a x (way_behind c b fits.0 p.path.root p.path.steps a fits.2.1)
        (b, refl, is),
  ),
)

pointed_first : (c : Around) (a b : e.Expr) (line : ℕ) (v w : t.Value) (size : Option ℕ) (to : Option (CoreType × Bool)) → ValueSpells c v a
    → ValueSpells c w b
    → Made c (e.index line a b) (pointed_by line 0 1 (v ∷ w ∷ []) size to)
pointed_first c a b line v w (Some size) (Some (type, k)) fv fw =
    (a ∷ b ∷ [], (fv, (fw, tt)), (refl, (a, refl, (line, b, e.index line a b, refl, inl refl, refl))))
pointed_first c a b line v w (Some size) None fv fw = tt
pointed_first c a b line v w None to fv fw = tt

pointed_second : (c : Around) (a b : e.Expr) (line : ℕ) (v w : t.Value) (size : Option ℕ) (to : Option (CoreType × Bool)) → ValueSpells c v a
    → ValueSpells c w b
    → Made c (e.index line a b) (pointed_by line 1 0 (v ∷ w ∷ []) size to)
pointed_second c a b line v w (Some size) (Some (type, k)) fv fw =
    (a ∷ b ∷ [], (fv, (fw, tt)), (refl, (b, refl, (line, a, e.index line a b, refl, inr refl, refl))))
pointed_second c a b line v w (Some size) None fv fw = tt
pointed_second c a b line v w None to fv fw = tt

indexed_values_made : (c : Around) (a b : e.Expr) (sizes : List ℕ) (line : ℕ) (v w : Rvalue) (j k : Option Kind) → ValueSpells c v.value a
    → ValueSpells c w.value b
    → Made c (e.index line a b) (indexed_values_by sizes line v w j k)
indexed_values_made c a b sizes line v w None (Some k) fv fw =
    pointed_first c a b line v.value w.value (stride sizes (t.type_of v.value)) (target_of (t.type_of v.value)) fv fw
indexed_values_made c a b sizes line v w (Some j) None fv fw =
    pointed_second c a b line v.value w.value (stride sizes (t.type_of w.value)) (target_of (t.type_of w.value)) fv fw
indexed_values_made c a b sizes line v w None None fv fw = tt
indexed_values_made c a b sizes line v w (Some j) (Some k) fv fw = tt

-- an array has a count, so it is an object
first_array : (c : Around) (a b : e.Expr) (sizes : List ℕ) (line n : ℕ) (x y : Operand) (second : Option ℕ) → array_count x ≡ Some n → OperandSpells c x a
    → OperandSpells c y b
    → Made c (e.index line a b) (indexed_by sizes line x y (Some n) second)
first_array c a b sizes line n (value v k) y second h fx fy = cc
first_array c a b sizes line n (object p k) y second h fx fy =
    after_holds (λ i. ValueSpells c i b) (λ o. OperandSpells c o (e.index line a b)) (index_value line y) _ (index_spells c b line y fy)
    (λ i fi. element_spells c a b (e.index line a b) sizes line n p i refl (inl refl) fx fi)

second_array : (c : Around) (a b : e.Expr) (sizes : List ℕ) (line n : ℕ) (x y : Operand) → array_count y ≡ Some n → OperandSpells c x a → OperandSpells c y b
    → Made c (e.index line a b) (indexed_by sizes line x y None (Some n))
second_array c a b sizes line n x (value v k) h fx fy = cc
second_array c a b sizes line n x (object p k) h fx fy =
    after_holds (λ i. ValueSpells c i a) (λ o. OperandSpells c o (e.index line a b)) (index_value line x) _ (index_spells c a line x fx)
    (λ i fi. swapped_spells c b a (e.index line a b) sizes line n p i refl (inr refl) fy fi)

indexed_by_made : (c : Around) (a b : e.Expr) (sizes : List ℕ) (line : ℕ) (x y : Operand) (m n : Option ℕ) → array_count x ≡ m → array_count y ≡ n
    → OperandSpells c x a → OperandSpells c y b
    → Made c (e.index line a b) (indexed_by sizes line x y m n)
indexed_by_made c a b sizes line x y (Some m) n hx hy fx fy = first_array c a b sizes line m x y n hx fx fy
indexed_by_made c a b sizes line x y None (Some n) hx hy fx fy = second_array c a b sizes line n x y hy fx fy
indexed_by_made c a b sizes line x y None None hx hy fx fy =
    after_valued c a _ line x _ fx
    (λ v fv. after_valued c b _ line y _ fy (λ w fw. indexed_values_made c a b sizes line v w (kind_of_value v.value) (kind_of_value w.value) fv.0 fw.0))

pub indexed_made : (c : Around) (a b : e.Expr) (sizes : List ℕ) (line : ℕ) (x y : Operand) → OperandSpells c x a → OperandSpells c y b
    → Made c (e.index line a b) (indexed sizes line x y)
unfolding indexed
indexed_made c a b sizes line x y fx fy = indexed_by_made c a b sizes line x y (array_count x) (array_count y) refl refl fx fy

-- ---- `.` and `->`

named_first : (f : List ℕ) (ms : List Member) (i : ℕ) (m : Member) → position (λ m. bytes_eq f m.name) ms ≡ Some i → slice_get ms i ≡ Some m
    → bytes_eq f m.name ≡ true
named_first f ms i m first there =
    subst (λ y. bytes_eq f y.name ≡ true) (get_or_from_slice_get ms i m m there) (position-Some (λ m. bytes_eq f m.name) ms i m first).1

-- what typing found of a base: that it is this operand, which is struct number n
abbrev IsStruct : Around → e.Expr → Operand → (n : ℕ) → Type 0
IsStruct c a o n = (typed c a ≡ Ok o) × (dotted_struct o ≡ Some n)

names_with : (c : Around) (a : e.Expr) (o : Operand) (f : List ℕ) (n : ℕ) (s : Structure) (i : ℕ) (m : Option Member) (offset : Option ℕ) (g : Field)
    → IsStruct c a o n
    → slice_get c.scope.file.structs n ≡ Some s → position (λ m. bytes_eq f m.name) s.fields ≡ Some i → slice_get s.fields i ≡ m
    → slice_get s.layout.fields i ≡ offset
    → field_with i m offset ≡ Some g → NamesField c a g.number g.offset f
names_with c a o f n s i None offset g of there first hm ho is = cc
names_with c a o f n s i (Some m) None g of there first hm ho is = cc
names_with c a o f n s i (Some m) (Some offset) g of there first hm ho is =
    let same : record { number = i; offset = offset; ty = m.ty; is_const = m.is_const } ≡ g = cc in
    subst (λ y. NamesField c a y.number y.offset f) same (o, n, s, m, of.0, of.1, there, hm, named_first f s.fields i m first hm, ho)

names_by : (c : Around) (a : e.Expr) (o : Operand) (f : List ℕ) (n : ℕ) (s : Structure) (i : Option ℕ) (g : Field) → IsStruct c a o n
    → slice_get c.scope.file.structs n ≡ Some s
    → position (λ m. bytes_eq f m.name) s.fields ≡ i → field_by s i ≡ Some g → NamesField c a g.number g.offset f
names_by c a o f n s None g of there first is = cc
names_by c a o f n s (Some i) g of there first is =
    names_with c a o f n s i (slice_get s.fields i) (slice_get s.layout.fields i) g of there first refl refl is

names_field : (c : Around) (a : e.Expr) (o : Operand) (f : List ℕ) (n : ℕ) (s : Option Structure) (g : Field) → IsStruct c a o n
    → slice_get c.scope.file.structs n ≡ s
    → field_in f s ≡ Some g → NamesField c a g.number g.offset f
names_field c a o f n None g of there is = cc
names_field c a o f n (Some s) g of there is = names_by c a o f n s (position (λ m. bytes_eq f m.name) s.fields) g of there refl is

member_by_made : (c : Around) (a x : e.Expr) (line n : ℕ) (f : List ℕ) (o : Operand) (g : Option Field) → IsStruct c a o n → field_named c.scope f n ≡ g
    → line_of x ≡ line
    → IsMember line a f x → OperandSpells c o a → Made c x (member_by line o g)
member_by_made c a x line n f o None of is at whole fits = tt
member_by_made c a x line n f (value v k) (Some g) of is at whole fits = tt
member_by_made c a x line n f (object p k) (Some g) of is at whole fits = (
  fits.0,
  fits.1,
  (
    at,
    way_more c fits.0 p.path.root p.path.steps (step.Field g.number g.offset) a x fits.2.1
        (line, f, names_field c a (object p k) f n (slice_get c.scope.file.structs n) g of refl is, whole),
  ),
)

member_in_made : (c : Around) (a x : e.Expr) (line : ℕ) (f : List ℕ) (o : Operand) (n : Option ℕ) → typed c a ≡ Ok o → dotted_struct o ≡ n → line_of x ≡ line
    → IsMember line a f x
    → OperandSpells c o a → Made c x (member_in line (field_named c.scope f) o n)
member_in_made c a x line f o None given of at whole fits = tt
member_in_made c a x line f o (Some n) given of at whole fits = member_by_made c a x line n f o (field_named c.scope f n) (given, of) refl at whole fits

member_made : (c : Around) (a x : e.Expr) (line : ℕ) (f : List ℕ) (o : Operand) → typed c a ≡ Ok o → line_of x ≡ line → IsMember line a f x
    → OperandSpells c o a
    → Made c x (member_named c.scope line f o)
unfolding member
member_made c a x line f o given at whole fits = member_in_made c a x line f o (dotted_struct o) given refl at whole fits

typed_behind : (c : Around) (a : e.Expr) (line : ℕ) (o y : Operand) → typed c a ≡ Ok o → dereferenced line o ≡ Ok y → typed c (e.unary line un.Deref a) ≡ Ok y
unfolding unary
typed_behind c a line o y given leads = ap (λ q. after q (unary c.model line un.Deref)) given ∙ leads

field_by_made : (c : Around) (a : e.Expr) (line : ℕ) (f : List ℕ) (arrow : Bool) (o : Operand) → typed c a ≡ Ok o → OperandSpells c o a
    → Made c (e.field line a f arrow) (dotted_by c.scope line f arrow o)
field_by_made c a line f false o given fits = member_made c a (e.field line a f false) line f o given refl (inl refl) fits
field_by_made c a line f true o given fits =
    after_known (λ y. OperandSpells c y (e.unary line un.Deref a)) (λ y. OperandSpells c y (e.field line a f true)) (dereferenced line o)
    (member_named c.scope line f)
    (dereferenced_made c a line o fits)
    (λ y leads fy. member_made c (e.unary line un.Deref a) (e.field line a f true) line f y (typed_behind c a line o y given leads) refl
    (inr (line, a, refl, refl)) fy)

pub field_made : (c : Around) (a : e.Expr) (line : ℕ) (f : List ℕ) (arrow : Bool) (o : Operand) → typed c a ≡ Ok o → OperandSpells c o a
    → Made c (e.field line a f arrow) (field c.scope line f arrow o)
unfolding field
field_made c a line f arrow o given fits = field_by_made c a line f arrow o given fits
