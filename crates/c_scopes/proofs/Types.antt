-- Types as spelled, and what they mean.
use Rattle.std.proofs.Common.{◌≡◌, ◌≢◌, ℕ, zero, suc, Bool, true, false, not, ◌&&◌, ℤ, pos, List, [], ◌∷◌, length, Option, Some, None, Ok, Err, refl, sym, ap, subst, ◌∙◌, if◌then◌else◌, true≢false}
use Rattle.std.specs.Prelude.{slice_get, int_lt, nat_lt, ◌^◌}
use Rattle.std.specs.Option.{is_none, option_map}
use Rattle.wp_base.specs.Blocks.{to_nat}
use Rattle.c_syntax.specs.Expr as e
use Rattle.typed_prog.specs.declared.types.Base.{Base}
use Rattle.typed_prog.specs.declared.types.Base.TheVariants as base
use Rattle.typed_prog.specs.declared.types.CoreType.{CoreType}
use Rattle.typed_prog.specs.Types.{type_with, pointer_to, is_void_by}
use Rattle.name_table.specs.Names.{meaning_of, is_free}
use Rattle.name_table.proofs.Declaring.{declares}
use Rattle.c_answers.specs.Answers.{Answer, after, wrong, too_large}
use Rattle.c_scopes.specs.declared.symbols.Symbol.{Symbol}
use Rattle.c_scopes.specs.declared.symbols.Symbol.TheVariants as symbol
use Rattle.c_scopes.specs.declared.symbols.Tag.{Tag}
use Rattle.c_scopes.specs.declared.symbols.Tag.TheVariants as tag
use Rattle.c_scopes.specs.declared.symbols.Resolved.{Resolved}
use Rattle.c_scopes.specs.declared.file.File.{File}
use Rattle.c_scopes.specs.Declarations.{more_if}
use Rattle.c_scopes.specs.Meanings.{named, type_of, constant, plain, has_pointers, pointed, struct_meaning, enum_meaning, typedef_meaning, or_unknown, elements_of, array_meaning, with_count, to_elements, sized_parameter, parameter_by, parameter_of}
use Rattle.c_scopes.specs.Laws.{TypeNamesMean, qualified, spelled, PointersAreSpelled, VoidAlone, AllAlone, VoidsStandAlone, ParametersPoint}
use Rattle.c_scopes.proofs.Declaring.{new_there}

-- ---- names

pub type_names_mean : TypeNamesMean
type_names_mean f line = record {
  typedefs = λ x t free.
      ap (λ s. after (typedef_meaning (more_if (is_free f.names x) f.typedefs t) line s) (type_of line)) ((declares f.names x (symbol.Typedef (length f.typedefs))).new free)
      ∙ ap (λ t. after (or_unknown line t) (type_of line)) (new_there (is_free f.names x) f.typedefs t free);
  structs = λ x free. ap (λ m. after (struct_meaning line m) (type_of line)) ((declares f.tags x (tag.Struct (length f.structs))).new free);
  enums = λ x k free. ap (λ m. after (enum_meaning line m) (type_of line)) ((declares f.tags x (tag.Enum k)).new free);
  no_enum = λ x free. ap (λ m. after (enum_meaning line m) (type_of line)) ((declares f.tags x (tag.Struct (length f.structs))).new free);
  no_struct = λ x k free. ap (λ m. after (struct_meaning line m) (type_of line)) ((declares f.tags x (tag.Enum k)).new free);
}

-- ---- pointers

is_pointed : (root : Base) (stars : List Bool) → root ≢ base.Void → has_pointers (type_with root stars None) ≡ true
is_pointed base.Void stars some = absurd (some refl)
is_pointed (base.Of k) stars some = refl
is_pointed (base.Struct n) stars some = refl

qualifies : (f : File) (line : ℕ) (c : e.CType) (type : CoreType) (is_const : Bool) → named f line c ≡ Ok (Some (plain type)) → named f line (qualified is_const c) ≡ Ok (Some (record { ty = type; is_const = is_const }))
qualifies f line c type true h = ap (λ o. after o (λ t. Ok (option_map constant t))) h
qualifies f line c type false h = h

pub pointers_are_spelled : PointersAreSpelled
pointers_are_spelled f line c root is_const [] h some = qualifies f line c (type_with root [] None) is_const h
pointers_are_spelled f line c root is_const (star ∷ stars) h some =
    qualifies f line (e.pointer (spelled c star stars)) (type_with root (star ∷ stars) None) is_const
    (ap (λ o. after o (λ t. Ok (pointed t))) (pointers_are_spelled f line c root star stars h some)
    ∙ ap (λ b. Ok (if b then Some (plain (type_with root (star ∷ stars) None)) else None)) (is_pointed root stars some))

-- ---- void

one_of : (ts : List Resolved) (n : ℕ) (t : Resolved) → AllAlone ts → slice_get ts n ≡ Some t → VoidAlone t.ty
one_of [] n t all h = absurd cc
one_of (u ∷ ts) zero t all h = let same : u ≡ t = cc in subst (λ (t : Resolved). VoidAlone t.ty) same all.0
one_of (u ∷ ts) (suc n) t all h = one_of ts n t all.1 h

-- a type that is alone where it has pointers isn't `void`
no_void : (type : CoreType) → VoidAlone type → has_pointers type ≡ true → type.base ≡ base.Void → ⊥
no_void type alone has is =
    let e = alone is in
    true≢false (sym has ∙ (λ i. not (is_void_by (is i) (e.0 i) (e.1 i)) && is_none (e.1 i)))

there_is : {X Y : Type 0} (o : Answer X) (f : X → Answer Y) (y : Y) → after o f ≡ Ok y → (x : X) × (o ≡ Ok x) × (f x ≡ Ok y)
there_is (Ok x) f y h = (x, refl, h)
there_is (Err r) f y h = absurd cc

result_is : {t u : Resolved} → (let o : Answer Resolved = Ok t in o) ≡ Ok u → t ≡ u
result_is h = cc

some_is : {t u : Resolved} → (let o : Answer (Option Resolved) = Ok (Some t) in o) ≡ Ok (Some u) → t ≡ u
some_is h = cc

struct_alone : (line : ℕ) (o : Option Tag) (t : Resolved) → struct_meaning line o ≡ Ok (Some t) → VoidAlone t.ty
struct_alone line (Some (tag.Struct n)) t h = subst (λ (t : Resolved). VoidAlone t.ty) (some_is h) (λ v. absurd cc)
struct_alone line (Some (tag.Enum k)) t h = absurd cc
struct_alone line None t h = absurd cc

enum_alone : (line : ℕ) (o : Option Tag) (t : Resolved) → enum_meaning line o ≡ Ok (Some t) → VoidAlone t.ty
enum_alone line (Some (tag.Enum k)) t h = subst (λ (t : Resolved). VoidAlone t.ty) (some_is h) (λ v. absurd cc)
enum_alone line (Some (tag.Struct n)) t h = absurd cc
enum_alone line None t h = absurd cc

named_one : (ts : List Resolved) (line n : ℕ) (t : Resolved) (o : Option Resolved) → AllAlone ts → slice_get ts n ≡ o → or_unknown line o ≡ Ok (Some t) → VoidAlone t.ty
named_one ts line n t (Some u) all is h = one_of ts n t all (is ∙ ap (λ u. Some u) (some_is h))
named_one ts line n t None all is h = absurd cc

named_alone : (ts : List Resolved) (line : ℕ) (o : Option Symbol) (t : Resolved) → AllAlone ts → typedef_meaning ts line o ≡ Ok (Some t) → VoidAlone t.ty
named_alone ts line (Some (symbol.Typedef n)) t all h = named_one ts line n t (slice_get ts n) all refl h
named_alone ts line (Some (symbol.Object v)) t all h = absurd cc
named_alone ts line (Some (symbol.Function n)) t all h = absurd cc
named_alone ts line (Some (symbol.Enumerator z)) t all h = absurd cc
named_alone ts line None t all h = absurd cc

pointed_by : (u t : Resolved) (b : Bool) → has_pointers u.ty ≡ b → VoidAlone u.ty → (if b then Some (plain (pointer_to u.ty u.is_const)) else None) ≡ Some t → VoidAlone t.ty
pointed_by u t true has alone h = let same : plain (pointer_to u.ty u.is_const) ≡ t = cc in subst (λ (t : Resolved). VoidAlone t.ty) same (λ v. absurd (no_void u.ty alone has v))
pointed_by u t false has alone h = absurd cc

pointer_alone : (u : Option Resolved) (t : Resolved) → ((v : Resolved) → u ≡ Some v → VoidAlone v.ty) → pointed u ≡ Some t → VoidAlone t.ty
pointer_alone (Some u) t alone h = pointed_by u t (has_pointers u.ty) refl (alone u refl) h
pointer_alone None t alone h = absurd cc

constant_alone : (u : Option Resolved) (t : Resolved) → ((v : Resolved) → u ≡ Some v → VoidAlone v.ty) → option_map constant u ≡ Some t → VoidAlone t.ty
constant_alone (Some u) t alone h = let same : constant u ≡ t = cc in subst (λ (t : Resolved). VoidAlone t.ty) same (alone u refl)
constant_alone None t alone h = absurd cc

alone : (f : File) (line : ℕ) (c : e.CType) (t : Resolved) → AllAlone f.typedefs → named f line c ≡ Ok (Some t) → VoidAlone t.ty
alone f line e.void t all h = subst (λ (t : Resolved). VoidAlone t.ty) (some_is h) (λ v. (refl, refl))
alone f line (e.kind k) t all h = subst (λ (t : Resolved). VoidAlone t.ty) (some_is h) (λ v. absurd cc)
alone f line e.integer t all h = absurd cc
alone f line (e.struct_of x) t all h = struct_alone line (meaning_of f.tags x) t h
alone f line (e.enum_of x) t all h = enum_alone line (meaning_of f.tags x) t h
alone f line (e.named x) t all h = named_alone f.typedefs line (meaning_of f.names x) t all h
alone f line (e.pointer to) t all h =
    let u = there_is (named f line to) (λ t. Ok (pointed t)) (Some t) h in
    let is : pointed u.0 ≡ Some t = cc (u.2) in
    pointer_alone u.0 t (λ v e. alone f line to v all (u.1 ∙ ap (λ t. Ok t) e)) is
alone f line (e.array of length) t all h =
    let u = there_is (named f line of) (λ t. Ok None) (Some t) h in
    absurd (cc (u.2))
alone f line (e.constant of) t all h =
    let u = there_is (named f line of) (λ t. Ok (option_map constant t)) (Some t) h in
    let is : option_map constant u.0 ≡ Some t = cc (u.2) in
    constant_alone u.0 t (λ v e. alone f line of v all (u.1 ∙ ap (λ t. Ok t) e)) is

-- ---- arrays and parameters

has_by : (line : ℕ) (element t : Resolved) (b : Bool) → has_pointers element.ty ≡ b → (if b then Ok element else wrong line) ≡ Ok t → (element ≡ t) × (has_pointers element.ty ≡ true)
has_by line element t true has h = (result_is h, has)
has_by line element t false has h = absurd cc

elements_by : (line length_line : ℕ) (element t : Resolved) (b : Bool) → (if b then wrong length_line else (if has_pointers element.ty then Ok element else wrong line)) ≡ Ok t
    → (element ≡ t) × (has_pointers element.ty ≡ true)
elements_by line length_line element t true h = absurd cc
elements_by line length_line element t false h = has_by line element t (has_pointers element.ty) refl h

counted_alone : (line : ℕ) (element : Resolved) (n : ℕ) (t : Resolved) (b : Bool) → has_pointers element.ty ≡ true → VoidAlone element.ty
    → (if b then Ok (with_count element n) else too_large line) ≡ Ok t → VoidAlone t.ty
counted_alone line element n t true has alone h = subst (λ (t : Resolved). VoidAlone t.ty) (result_is h) (λ v. absurd (no_void element.ty alone has v))
counted_alone line element n t false has alone h = absurd cc

array_alone : (line length_line : ℕ) (element : Resolved) (z : ℤ) (t : Resolved) → VoidAlone element.ty → array_meaning line length_line (Some element) z ≡ Ok t → VoidAlone t.ty
array_alone line length_line element z t alone h =
    let u = there_is (elements_of line length_line (Some element) z) (λ t. if nat_lt (to_nat z) (2 ^ 32) then Ok (with_count t (to_nat z)) else too_large line) t h in
    let e = elements_by line length_line element u.0 (int_lt z (pos 1)) u.1 in
    counted_alone line u.0 (to_nat z) t (nat_lt (to_nat z) (2 ^ 32)) (subst (λ (t : Resolved). has_pointers t.ty ≡ true) e.0 e.1) (subst (λ (t : Resolved). VoidAlone t.ty) e.0 alone) u.2

sized_parameter_alone : (line length_line : ℕ) (element : Resolved) (z : ℤ) (t : Resolved) → VoidAlone element.ty → sized_parameter line length_line (Some element) z ≡ Ok t → VoidAlone t.ty
sized_parameter_alone line length_line element z t alone h =
    let u = there_is (elements_of line length_line (Some element) z) (λ t. Ok (to_elements t)) t h in
    let e = elements_by line length_line element u.0 (int_lt z (pos 1)) u.1 in
    let has : has_pointers u.0.ty ≡ true = subst (λ (t : Resolved). has_pointers t.ty ≡ true) e.0 e.1 in
    let here : VoidAlone u.0.ty = subst (λ (t : Resolved). VoidAlone t.ty) e.0 alone in
    subst (λ (t : Resolved). VoidAlone t.ty) (result_is u.2) (λ v. absurd (no_void u.0.ty here has v))

pointer_by : (line : ℕ) (u t : Resolved) (n : ℕ) (b : Bool) → (if b then Ok (with_count u n) else too_large line) ≡ Ok t → to_elements u ≡ parameter_of t
pointer_by line u t n true h = ap parameter_of (result_is h)
pointer_by line u t n false h = absurd cc

pub parameters_point : ParametersPoint
parameters_point line length_line element z t h =
    let u = there_is (elements_of line length_line element z) (λ t. if nat_lt (to_nat z) (2 ^ 32) then Ok (with_count t (to_nat z)) else too_large line) t h in
    ap (λ o. after o (λ t. Ok (to_elements t))) u.1 ∙ ap (λ t. Ok t) (pointer_by line u.0 t (to_nat z) (nat_lt (to_nat z) (2 ^ 32)) u.2)

parameter_by_count : (t : Resolved) (o : Option ℕ) → t.ty.count ≡ o → VoidAlone t.ty → VoidAlone (parameter_by o t).ty
parameter_by_count t (Some n) is alone = λ v. let none : t.ty.count ≡ None = (alone v).1 in absurd cc
parameter_by_count t None is alone = alone

parameter_alone : (t : Resolved) → VoidAlone t.ty → VoidAlone (parameter_of t).ty
parameter_alone t alone = parameter_by_count t t.ty.count refl alone

pub voids_stand_alone : VoidsStandAlone
voids_stand_alone f line t all = record { types = λ c. alone f line c t all; arrays = λ length_line element z. array_alone line length_line element z t; sized_parameters = λ length_line element z. sized_parameter_alone line length_line element z t; parameters = parameter_alone t }
