-- What is made of terms that are of what a node wants.
use Rattle.std.proofs.Common.{◌≡◌, ℕ, ◌==◌, Bool, true, false, if◌then◌else◌, List, ◌∷◌, length, is_some, refl, sym, ap, ◌∙◌, subst}
use Rattle.std.specs.Prelude.{Option, Some, None}
use Rattle.wp_base.specs.declared.kinds.Kind.{Kind}
use Rattle.wp_base.specs.declared.kinds.CellKind.{CellKind}
use Rattle.c_kinds.specs.declared.models.Machdep.{Machdep}
use Rattle.typed_prog.specs.declared.operators.Variable.{Variable}
use Rattle.acsl_trees.specs.declared.heads.Content.TheVariants as content
use Rattle.acsl_trees.specs.declared.heads.Range.TheVariants as range
use Rattle.qed_terms.specs.Tree.{Tree as Term, ite}
use Rattle.acsl_encode.specs.Readings.{Terms, integer, truth, address, variable, elements, region, nothing, Pointer, at, Slot, whole, any_integer, pointer, home, absent, Seen}
use Rattle.acsl_encode.specs.Encode as encode
use Rattle.acsl_encode.specs.Encode.{with_one, with_two, as_integer, as_formula, as_pointer, of_variable}
use Rattle.annotations_encoded.specs.Sights.{site_of, sight_of}
use Rattle.annotations_encoded.specs.Shapes.{Shape, an_address, a_variable, a_set, no_shape, shape_at, part_of, elements_of, either_of, IsInteger, IsAddress, IsRegion, AreElements, HasShape}
use Rattle.annotations_encoded.specs.Serving.{holds_content, is_read, is_address, is_reach, is_region}

abbrev pub IsThere : {X : Type 0} → Option X → Type 0
IsThere (Some x) = Unit {0}
IsThere None = ⊥

-- ---- what an integer and an address are taken for is there

pub by_integer : (P : Option Term → Type 0) (x : Terms) → IsInteger x → ((t : Term) → P (Some t)) → P (as_integer x)
by_integer P (integer k t) h go = go t
by_integer P (truth f) h go = go (encode.truth_term f)
by_integer P x h go = absurd h

pub by_formula : (P : Option Term → Type 0) (x : Terms) → IsInteger x → ((f : Term) → P (Some f)) → P (as_formula x)
by_formula P (integer k t) h go = go (encode.not_zero t)
by_formula P (truth f) h go = go f
by_formula P x h go = absurd h

pub by_pointer : (P : Option Pointer → Type 0) (x : Terms) → IsAddress x → ((p : Pointer) → P (Some p)) → P (as_pointer x)
by_pointer P (address b o) h go = go (at b o)
by_pointer P x h go = absurd h

pub by_address : (P : Terms → Type 0) (x : Terms) → IsAddress x → ((b o : Term) → P (address b o)) → P x
by_address P (address b o) h go = go b o
by_address P x h go = absurd h

pub number_there : (x : Terms) → IsInteger x → (t : Term) × (as_integer x ≡ Some t)
number_there x h = by_integer (λ o. (t : Term) × (o ≡ Some t)) x h (λ t. (t, refl))

pub formula_there : (x : Terms) → IsInteger x → (f : Term) × (as_formula x ≡ Some f)
formula_there x h = by_formula (λ o. (t : Term) × (o ≡ Some t)) x h (λ t. (t, refl))

pub pointer_there : (x : Terms) → IsAddress x → (p : Pointer) × (as_pointer x ≡ Some p)
pointer_there x h = by_pointer (λ o. (t : Pointer) × (o ≡ Some t)) x h (λ t. (t, refl))

pub region_there : (x : Terms) → IsRegion x → (cells : List CellKind) × (block : Term) × (low : Term) × (high : Term) × (x ≡ region cells block low high)
region_there (region cells b low high) h = (cells, b, low, high, refl)
region_there x h = absurd h

pub there_one : {X : Type 0} (P : Terms → Type 0) (f : X → Terms) (o : Option X) → IsThere o → ((x : X) → P (f x)) → P (with_one f o)
there_one P f (Some x) h go = go x
there_one P f None h go = absurd h

-- ---- operands

module _ (P : Terms → Type 0) where
  pub on_number : (f : Term → Terms) (x : Terms) → IsInteger x → ((t : Term) → P (f t)) → P (with_one f (as_integer x))
  on_number f x h go = by_integer (λ o. P (with_one f o)) x h go

  pub on_formula : (f : Term → Terms) (x : Terms) → IsInteger x → ((t : Term) → P (f t)) → P (with_one f (as_formula x))
  on_formula f x h go = by_formula (λ o. P (with_one f o)) x h go

  pub on_pointer : (f : Pointer → Terms) (x : Terms) → IsAddress x → ((p : Pointer) → P (f p)) → P (with_one f (as_pointer x))
  on_pointer f x h go = by_pointer (λ o. P (with_one f o)) x h go

  pub on_numbers : (f : Term → Term → Terms) (x y : Terms) → IsInteger x → IsInteger y → ((t u : Term) → P (f t u)) → P (with_two f (as_integer x) (as_integer y))
  on_numbers f x y h e go = by_integer (λ o. P (with_two f o (as_integer y))) x h (λ t. on_number (f t) y e (go t))

  pub on_formulas : (f : Term → Term → Terms) (x y : Terms) → IsInteger x → IsInteger y → ((t u : Term) → P (f t u)) → P (with_two f (as_formula x) (as_formula y))
  on_formulas f x y h e go = by_formula (λ o. P (with_two f o (as_formula y))) x h (λ t. on_formula (f t) y e (go t))

  pub on_pointers : (f : Pointer → Pointer → Terms) (x y : Terms) → IsAddress x → IsAddress y → ((p q : Pointer) → P (f p q))
      → P (with_two f (as_pointer x) (as_pointer y))
  on_pointers f x y h e go = by_pointer (λ o. P (with_two f o (as_pointer y))) x h (λ p. on_pointer (f p) y e (go p))

  pub on_both : (f : Pointer → Term → Terms) (x y : Terms) → IsAddress x → IsInteger y → ((p : Pointer) (t : Term) → P (f p t))
      → P (with_two f (as_pointer x) (as_integer y))
  on_both f x y h e go = by_pointer (λ o. P (with_two f o (as_integer y))) x h (λ p. on_number (f p) y e (go p))

pub moved_is : (minus : Bool) (size : ℕ) (p : Pointer) (t : Term) → IsAddress (encode.moved minus size p t)
moved_is true size p t = tt
moved_is false size p t = tt

pub converted_is : (m : Machdep) (k : Kind) (x : Terms) → IsInteger x → IsInteger (encode.converted m k x)
converted_is m k (integer (Some l) t) h = tt
converted_is m k (integer None t) h = tt
converted_is m k (truth f) h = tt
converted_is m k x h = absurd h

-- ---- objects

pub variable_is : (x : Variable) (s : Slot) → HasShape (shape_at x (site_of s)) (of_variable x s)
variable_is x (whole k t) = refl
variable_is x (any_integer t) = refl
variable_is x (pointer b o) = refl
variable_is x (home b) = tt
variable_is x absent = tt

-- a part of one object
pub part_is : (z : Shape) (x : Terms) (f : Pointer → Terms) → HasShape z x → ((p : Pointer) → IsAddress (f p)) → HasShape (part_of z) (with_one f (as_pointer x))
part_is an_address x f h go = on_pointer IsAddress f x h go
part_is (a_variable y) x f h go = tt
part_is (a_set size) x f h go = tt
part_is no_shape x f h go = tt

pub element_is : (z : Shape) (x y : Terms) (size : ℕ) → HasShape z x → IsInteger y
    → HasShape (part_of z) (with_two (encode.moved false size) (as_pointer x) (as_integer y))
element_is an_address x y size h e = on_both IsAddress (encode.moved false size) x y h e (moved_is false size)
element_is (a_variable v) x y size h e = tt
element_is (a_set n) x y size h e = tt
element_is no_shape x y size h e = tt

pub reached_is : (size : ℕ) (x y z : Terms) → IsAddress x → IsInteger y → IsInteger z
    → AreElements size (encode.reached size (as_pointer x) (as_integer y) (as_integer z))
reached_is size x y z h e f =
    by_pointer (λ o. AreElements size (encode.reached size o (as_integer y) (as_integer z))) x h
    (λ p. on_numbers (AreElements size) (elements p.block p.offset size) y z e f (λ t u. refl))

pub elements_is : (s : Shape) (size : ℕ) (x y z : Terms) → HasShape s x → IsInteger y → IsInteger z
    → HasShape (elements_of size s) (encode.reached size (as_pointer x) (as_integer y) (as_integer z))
elements_is an_address size x y z h e f = reached_is size x y z h e f
elements_is (a_variable v) size x y z h e f = tt
elements_is (a_set n) size x y z h e f = tt
elements_is no_shape size x y z h e f = tt

-- ---- choices

pub either_integer : (x y : Terms) (c : Term) → IsInteger x → IsInteger y → IsInteger (encode.either x y c)
either_integer (integer k t) y c h e = on_number IsInteger (λ u. encode.unbounded (ite c t u)) y e (λ u. tt)
either_integer (truth f) (integer k u) c h e = tt
either_integer (truth f) (truth g) c h e = tt
either_integer (truth f) y c h e = absurd e
either_integer x y c h e = absurd h

pub either_pointer : (x y : Terms) (c : Term) → IsAddress x → IsAddress y → IsAddress (encode.either x y c)
either_pointer (address b o) (address b' o') c h e = tt
either_pointer (address b o) y c h e = absurd e
either_pointer x y c h e = absurd h

pub either_object : (z s : Shape) (x y : Terms) (c : Term) → HasShape z x → HasShape s y → HasShape (either_of z s) (encode.either x y c)
either_object an_address an_address x y c h e = either_pointer x y c h e
either_object an_address (a_variable v) x y c h e = tt
either_object an_address (a_set n) x y c h e = tt
either_object an_address no_shape x y c h e = tt
either_object (a_variable v) s x y c h e = tt
either_object (a_set n) s x y c h e = tt
either_object no_shape s x y c h e = tt

-- ---- what is read

slot_integer : (k : Kind) (o : Slot) → holds_content (content.Integer k) (site_of o) ≡ true → IsInteger (encode.held (content.Integer k) o)
slot_integer k (whole l t) e = tt
slot_integer k (any_integer t) e = tt
slot_integer k (pointer b o) e = absurd cc
slot_integer k (home b) e = absurd cc
slot_integer k absent e = absurd cc

slot_pointer : (o : Slot) → holds_content content.Pointer (site_of o) ≡ true → IsAddress (encode.held content.Pointer o)
slot_pointer (whole l t) e = absurd cc
slot_pointer (any_integer t) e = absurd cc
slot_pointer (pointer b o) e = tt
slot_pointer (home b) e = absurd cc
slot_pointer absent e = absurd cc

loaded_integer : (k : Kind) (b o : Term) (m : Option Term) → is_some m ≡ true → IsInteger (with_one (λ t. integer (Some k) (encode.load t b o)) m)
loaded_integer k b o (Some t) e = tt
loaded_integer k b o None e = absurd cc

loaded_pointer : (b o : Term) (m : Option Pointer) → is_some m ≡ true
    → IsAddress (with_one (λ (p : Pointer). address (encode.load p.block b o) (encode.load p.offset b o)) m)
loaded_pointer b o (Some p) e = tt
loaded_pointer b o None e = absurd cc

pub read_integer : (k : Kind) (s : Seen) (z : Shape) (x : Terms) → HasShape z x → is_read (content.Integer k) (sight_of s) z ≡ true
    → IsInteger (encode.read (content.Integer k) s x)
read_integer k s an_address (address b o) h e = loaded_integer k b o (s.numbers k) e
read_integer k s an_address x h e = absurd h
read_integer k s (a_variable v) (variable y) h e = slot_integer k (s.variable y) (subst (λ y. holds_content (content.Integer k) (site_of (s.variable y)) ≡ true) (sym h) e)
read_integer k s (a_variable v) x h e = absurd h
read_integer k s (a_set n) x h e = absurd cc
read_integer k s no_shape x h e = absurd cc

pub read_pointer : (s : Seen) (z : Shape) (x : Terms) → HasShape z x → is_read content.Pointer (sight_of s) z ≡ true
    → IsAddress (encode.read content.Pointer s x)
read_pointer s an_address (address b o) h e = loaded_pointer b o s.pointers e
read_pointer s an_address x h e = absurd h
read_pointer s (a_variable v) (variable y) h e = slot_pointer (s.variable y) (subst (λ y. holds_content content.Pointer (site_of (s.variable y)) ≡ true) (sym h) e)
read_pointer s (a_variable v) x h e = absurd h
read_pointer s (a_set n) x h e = absurd cc
read_pointer s no_shape x h e = absurd cc

pub address_is : (z : Shape) (x : Terms) → HasShape z x → is_address z ≡ true → IsAddress x
address_is an_address x h e = h
address_is (a_variable v) x h e = absurd cc
address_is (a_set n) x h e = absurd cc
address_is no_shape x h e = absurd cc

-- ---- validity and regions

pub valid_is : (n : List ℕ) (writable : Bool) (ks : List CellKind) (table : Option Term) (z : Shape) (x : Terms) → HasShape z x → is_some table ≡ true
    → is_reach z ≡ true → IsInteger (encode.valid n writable ks table x)
valid_is n writable ks None z x h e f = absurd cc
valid_is n writable ks (Some t) an_address (address b o) h e f = tt
valid_is n writable ks (Some t) an_address x h e f = absurd h
valid_is n writable ks (Some t) (a_variable v) x h e f = absurd cc
valid_is n writable ks (Some t) (a_set size) (elements b o m low high) h e f = tt
valid_is n writable ks (Some t) (a_set size) x h e f = absurd h
valid_is n writable ks (Some t) no_shape x h e f = absurd cc

region_if : (c : Bool) (ks : List CellKind) (b low high : Term) → c ≡ true → IsRegion (if c then region ks b low high else nothing)
region_if true ks b low high e = tt
region_if false ks b low high e = absurd cc

pub region_is : (ks : List CellKind) (z : Shape) (x : Terms) → HasShape z x → is_region ks z ≡ true → IsRegion (encode.region_of ks x)
region_is ks an_address (address b o) h e = tt
region_is ks an_address x h e = absurd h
region_is ks (a_variable v) x h e = absurd cc
region_is ks (a_set size) (elements b o m low high) h e =
    region_if (m == length ks) ks b (encode.element_at o m low) (encode.element_at o m (encode.one_more high)) (ap (λ n. n == length ks) h ∙ e)
region_is ks (a_set size) x h e = absurd h
region_is ks no_shape x h e = absurd cc

-- ---- ranges

pub ends_there : (m : Machdep) (low_out high_out : Bool) (place : _) (x y : Terms) (rest : List Terms) → IsInteger x → IsInteger y
    → IsThere (encode.ends_of m (range.Between low_out high_out place) (x ∷ y ∷ rest))
ends_there m low_out high_out place x y rest h e =
    by_integer (λ o. IsThere (encode.on_two ends o (as_integer y))) x h (λ t. by_integer (λ o. IsThere (encode.on_two ends (Some t) o)) y e (λ u. tt))
  where
    ends : Term → Term → encode.Ends
    ends t u = record { low = encode.low_end low_out t; high = encode.high_end high_out u }

pub quantified_is : (q : _) (o : Option encode.Ends) (x : Terms) → IsThere o → IsInteger x → IsInteger (encode.quantified q o (as_formula x))
quantified_is q (Some e) x h i = on_formula IsInteger (λ f. truth (encode.over q e f)) x i (λ f. tt)
quantified_is q None x h i = absurd h
