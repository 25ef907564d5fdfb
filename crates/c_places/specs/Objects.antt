-- What names an object, and addresses (C11 6.5.2.1, 6.5.2.3, 6.5.3.2). The operands have been typed.
use Rattle.std.specs.Prelude.{ℕ, suc, ◌==◌, Bool, true, false, ◌&&◌, ◌||◌, if◌then◌else◌, List, [], ◌∷◌, ◌++◌, map, length, Option, Some, None, Ok, Err}
use Rattle.wp_base.specs.declared.kinds.Kind.{Kind}
use Rattle.c_answers.specs.Answers.{Answer, wrong, unknown, after}
use Rattle.typed_prog.specs.declared.types.CoreType.{CoreType}
use Rattle.typed_prog.specs.declared.operators.Root.{Root}
use Rattle.typed_prog.specs.declared.operators.Root.TheVariants as root
use Rattle.typed_prog.specs.declared.operators.Step.{Step}
use Rattle.typed_prog.specs.declared.operators.Step.TheVariants as step
use Rattle.typed_prog.specs.declared.operators.Path.{Path}
use Rattle.typed_prog.specs.declared.operators.Op.TheVariants as op
use Rattle.typed_prog.specs.declared.operators.Variable.{Variable}
use Rattle.typed_prog.specs.Types.{target_of, struct_of, is_void, pointer_to, element_of}
use Rattle.typed_prog.specs.Tree as t
use Rattle.c_operands.specs.Operands.{Operand, object, value, Place, Rvalue, valued, followed, applied}
use Rattle.c_operands.specs.Conversions.{kind_of_value}
use Rattle.c_rules.specs.Pointers.{stride, element_cells}
use Rattle.c_places.specs.declared.objects.Field.{Field}

abbrev pub path : Root → List Step → (line : ℕ) → Path
path r steps line = record { root = r; steps = steps; line = line }

abbrev pub place : Path → List t.Value → CoreType → Place
place p operands type = record { path = p; operands = operands; type = type }

-- ---- names (6.5.1p2)

abbrev pub variable : (line : ℕ) → Variable → CoreType → (is_const : Bool) → Operand
variable line x type is_const = object (place (path (root.Variable x) [] line) [] type) is_const

-- ---- `*` (6.5.3.2p4)

abbrev pub followed_place : (line : ℕ) → t.Value → CoreType → Place
followed_place line v type = place (path (root.Pointed 0) [] line) (followed true v ∷ []) type

-- what a pointer leads to; `void` is no object
abbrev pub followed_by : (line : ℕ) → t.Value → Option (CoreType × Bool) → Answer Operand
followed_by line v None = wrong line
followed_by line v (Some (type, is_const)) =
    if is_void type then wrong line else Ok (object (followed_place line v type) is_const)

abbrev pub dereferenced_value : (line : ℕ) → Rvalue → Answer Operand
dereferenced_value line v = followed_by line v.value (target_of (t.type_of v.value))

unfoldable pub dereferenced : (line : ℕ) → Operand → Answer Operand
dereferenced line x = after (valued line x) (dereferenced_value line)

-- ---- `&` (6.5.3.2p3)

-- the way ends where the first operand points
abbrev pub is_bare_root : Root → Bool
is_bare_root (root.Pointed operand) = operand == 0
is_bare_root (root.Variable x) = false

abbrev pub is_bare : Path → Bool
is_bare p = is_bare_root p.root && length p.steps == 0

abbrev pub only_of : List t.Value → Option t.Value
only_of (v ∷ []) = Some v
only_of _ = None

-- `&*p` is p; `leading` is the pointer, where the object is what it leads to and nothing more
abbrev pub address_by : (line : ℕ) → Place → (is_const : Bool) → (leading : Option t.Value) → t.Value
address_by line p is_const (Some v) = followed false v
address_by line p is_const None = applied (op.Address p.path false) p.operands (pointer_to p.type is_const) line

abbrev pub address_at : (line : ℕ) → Place → (is_const : Bool) → t.Value
address_at line p is_const = if is_bare p.path then address_by line p is_const (only_of p.operands) else address_by line p is_const None

-- an array has no pointer to it
abbrev pub address_of_object : (line : ℕ) → Place → (is_const : Bool) → (count : Option ℕ) → Answer Operand
address_of_object line p is_const (Some n) = wrong line
address_of_object line p is_const None = Ok (value (address_at line p is_const) false)

unfoldable pub address : (line : ℕ) → Operand → Answer Operand
address line (object p is_const) = address_of_object line p is_const p.type.count
address line (value v is_constant) = wrong line

-- ---- `[ ]` (6.5.2.1)

-- an integer
abbrev pub index_by : (line : ℕ) → Rvalue → Option Kind → Answer t.Value
index_by line v (Some k) = Ok v.value
index_by line v None = wrong line

unfoldable pub index_value : (line : ℕ) → Operand → Answer t.Value
index_value line x = after (valued line x) (λ v. index_by line v (kind_of_value v.value))

-- an element of an array, whose index is spelled behind it
abbrev pub element : List ℕ → (line count : ℕ) → Place → t.Value → Place
element sizes line n p i =
    place (path p.path.root (p.path.steps ++ step.Element (length p.operands) (element_cells sizes p.type) n line ∷ []) line) (p.operands ++ i ∷ []) (element_of p.type)

-- the same way, where one operand more stands in front
abbrev pub step_behind : Step → Step
step_behind (step.Field number offset) = step.Field number offset
step_behind (step.Element operand size count line) = step.Element (suc operand) size count line
step_behind (step.Moved operand size) = step.Moved (suc operand) size

abbrev pub root_behind : Root → Root
root_behind (root.Variable x) = root.Variable x
root_behind (root.Pointed operand) = root.Pointed (suc operand)

-- an element of an array, whose index is spelled before it: `i[a]`
abbrev pub element_swapped : List ℕ → (line count : ℕ) → Place → t.Value → Place
element_swapped sizes line n p i =
    place (path (root_behind p.path.root) (map step_behind p.path.steps ++ step.Element 0 (element_cells sizes p.type) n line ∷ []) line) (i ∷ p.operands) (element_of p.type)

-- what stands so many elements behind where a pointer leads; `index` and `pointer` are the numbers of the operands
abbrev pub pointed_by : (line : ℕ) → (pointer index : ℕ) → List t.Value → Option ℕ → Option (CoreType × Bool) → Answer Operand
pointed_by line p i operands (Some size) (Some (type, is_const)) = Ok (object (place (path (root.Pointed p) (step.Moved i size ∷ []) line) operands type) is_const)
pointed_by line p i operands size target = wrong line

abbrev pub pointed : List ℕ → (line : ℕ) → (pointer index : ℕ) → List t.Value → CoreType → Answer Operand
pointed sizes line p i operands type = pointed_by line p i operands (stride sizes type) (target_of type)

-- neither operand is an array: one is a pointer, and the other an integer
abbrev pub indexed_values_by : List ℕ → (line : ℕ) → Rvalue → Rvalue → Option Kind → Option Kind → Answer Operand
indexed_values_by sizes line v w None (Some k) = pointed sizes line 0 1 (v.value ∷ w.value ∷ []) (t.type_of v.value)
indexed_values_by sizes line v w (Some k) None = pointed sizes line 1 0 (v.value ∷ w.value ∷ []) (t.type_of w.value)
indexed_values_by sizes line v w j k = wrong line

abbrev pub indexed_values : List ℕ → (line : ℕ) → Rvalue → Rvalue → Answer Operand
indexed_values sizes line v w = indexed_values_by sizes line v w (kind_of_value v.value) (kind_of_value w.value)

-- how many elements an operand has that is an array
abbrev pub array_count : Operand → Option ℕ
array_count (object p is_const) = p.type.count
array_count (value v is_constant) = None

-- what is made of an object, with the constness of it
abbrev pub of_object : Operand → (Place → Place) → Operand
of_object (object p is_const) f = object (f p) is_const
of_object (value v is_constant) f = value v is_constant

abbrev pub indexed_by : List ℕ → (line : ℕ) → Operand → Operand → (first second : Option ℕ) → Answer Operand
indexed_by sizes line x y (Some n) second = after (index_value line y) (λ i. Ok (of_object x (λ p. element sizes line n p i)))
indexed_by sizes line x y None (Some n) = after (index_value line x) (λ i. Ok (of_object y (λ p. element_swapped sizes line n p i)))
indexed_by sizes line x y None None = after (valued line x) (λ v. after (valued line y) (indexed_values sizes line v))

unfoldable pub indexed : List ℕ → (line : ℕ) → Operand → Operand → Answer Operand
indexed sizes line x y = indexed_by sizes line x y (array_count x) (array_count y)

-- ---- `.` and `->` (6.5.2.3)

-- the number of the struct that an operand of `.` is
abbrev pub dotted_struct : Operand → Option ℕ
dotted_struct (object p is_const) = struct_of p.type
dotted_struct (value v is_constant) = None

abbrev pub member_of : (line : ℕ) → Field → Place → Place
member_of line f p = place (path p.path.root (p.path.steps ++ step.Field f.number f.offset ∷ []) line) p.operands f.ty

-- a field of an object is constant where the object or the field is (6.5.2.3p3)
abbrev pub member_by : (line : ℕ) → Operand → Option Field → Answer Operand
member_by line x None = unknown line
member_by line (object p is_const) (Some f) = Ok (object (member_of line f p) (is_const || f.is_const))
member_by line (value v is_constant) (Some f) = wrong line

-- by the fields of each struct
abbrev pub member_in : (line : ℕ) → (ℕ → Option Field) → Operand → Option ℕ → Answer Operand
member_in line fields x None = wrong line
member_in line fields x (Some n) = member_by line x (fields n)

unfoldable pub member : (line : ℕ) → (ℕ → Option Field) → Operand → Answer Operand
member line fields x = member_in line fields x (dotted_struct x)
