-- Fresh names in the words of the code.
use Rattle.std.proofs.Common.{◌≡◌, ◌<◌, ◌≤◌, ◌^◌, ℕ, zero, suc, ◌+◌, Bool, true, false, cond, List, [], ◌∷◌, ◌++◌, map, length, get_or, refl, sym, ap, ◌∙◌, append-nil, arith}
use Rattle.std.specs.Fmt.{decimal}
use Rattle.std.specs.Str.{bytes_eq}
use Rattle.std.proofs.lemmas.Slice.Eq.{bytes_eq-Decides}
use Rattle.qed_terms.specs.Fresh.{Used, use_one, used_in, none_used, fresh_name}
use Rattle.qed_terms.specs.Tree.{Tree, var}
use Rattle.qed_terms.proofs.Colons.{parts}
use Rattle.walk_steps.specs.State.{put}
use Rattle.walk_steps.specs.World.{large_base, is_large}
use Rattle.memory_steps.specs.State.{Base, base}
use Rattle.memory_steps.specs.World.{World, world, with_terms, memory_var, new_name, is_same, base_at, Named, named, set_to}
use Rattle.memory_worlds.specs.declared.names.Base as memory
use Rattle.memory_worlds.specs.declared.names.Names.{Names}
use Rattle.memory_worlds.specs.View.{view_base, used_by}

-- ---- what was given

same_text : (x : List ℕ) → bytes_eq x x ≡ true
same_text x = (bytes_eq-Decides x x).1 refl

other_text : (x y : List ℕ) → (x ≡ y → ⊥) → bytes_eq x y ≡ false
other_text x y n = by (bytes_eq x y) refl
  where
    by : (t : Bool) → bytes_eq x y ≡ t → t ≡ false
    by true e = absurd (n ((bytes_eq-Decides x y).0 e))
    by false e = refl

pub none_yet : (f : List (List ℕ × ℕ)) → used_in f ≡ none_used → used_by (record { fresh = f; marks = 0 }) ≡ none_used
unfolding used_by
none_yet f h = λ i x. by x (bytes_eq x []) i
  where
    by : (x : List ℕ) (t : Bool) → cond t 0 (used_in f x) ≡ 0
    by x true = refl
    by x false = ap (λ (c : Used). c x) h

marks_of : (n : Names) → used_by n [] ≡ n.marks
unfolding used_by
marks_of n = ap (λ t. cond t n.marks (used_in n.fresh [])) (same_text [])

pub mark_number : (n : Names) (k : ℕ) → k ≡ n.marks + 1 → k ≡ suc (used_by n [])
mark_number n k e = let h = marks_of n in omega (arith, e, h)

pub mark_used : (n : Names) (k : ℕ) → k ≡ n.marks + 1 → used_by (record { fresh = n.fresh; marks = k }) ≡ use_one (used_by n) []
unfolding used_by
mark_used n k e = λ i x. by x (bytes_eq x []) i
  where
    by : (x : List ℕ) (t : Bool) → cond t k (used_in n.fresh x) ≡ cond t (suc (cond t n.marks (used_in n.fresh x))) (cond t n.marks (used_in n.fresh x))
    by x true = omega (arith, e)
    by x false = refl

-- ---- a base without text

pub numbered_so : (digits : List ℕ) (n : ℕ) → 0 < n → n < 2 ^ 64 → digits ≡ decimal n → ([] ++ 35 ∷ []) ++ digits ≡ fresh_name [] n
numbered_so digits n some small d = sym (append-nil (35 ∷ [] ++ digits)) ∙ parts [] digits 0 n refl some small d

pub empty_base : (base : List ℕ) → length base ≡ 0 → base ≡ []
empty_base [] h = refl
empty_base (b ∷ bytes) h = absurd (omega (arith, h))

pub empty_name : (n : Names) (base name : List ℕ) (k : ℕ) → length base ≡ 0 → name ≡ fresh_name [] k → k ≡ suc (used_by n []) → name ≡ fresh_name base (suc (used_by n base))
empty_name n base name k h e f = e ∙ ap (fresh_name []) f ∙ ap (λ b. fresh_name b (suc (used_by n b))) (sym (empty_base base h))

pub empty_used : (c d : Used) (base : List ℕ) → length base ≡ 0 → d ≡ use_one c [] → d ≡ use_one c base
empty_used c d base h e = e ∙ ap (use_one c) (sym (empty_base base h))

-- ---- one with text

pub next_name : (n : Names) (f : List (List ℕ × ℕ)) (base name : List ℕ) → (length base ≡ 0 → ⊥) → name ≡ fresh_name base (used_in f base) → used_in f ≡ use_one (used_in n.fresh) base
    → name ≡ fresh_name base (suc (used_by n base))
unfolding used_by
next_name n f base name some e u =
    e ∙ ap (λ (c : Used). fresh_name base (c base)) u
    ∙ (λ i. fresh_name base (cond (same_text base i) (suc (cond (sym not_empty i) n.marks (used_in n.fresh base))) (used_in n.fresh base)))
  where
    not_empty : bytes_eq base [] ≡ false
    not_empty = other_text base [] (λ h. some (ap length h))

pub next_used : (n : Names) (f : List (List ℕ × ℕ)) (base : List ℕ) → (length base ≡ 0 → ⊥) → used_in f ≡ use_one (used_in n.fresh) base
    → used_by (record { fresh = f; marks = n.marks }) ≡ use_one (used_by n) base
unfolding used_by
next_used n f base some u = λ i x. by x (bytes_eq x []) refl i
  where
    by : (x : List ℕ) (t : Bool) → bytes_eq x [] ≡ t
        → cond t n.marks (used_in f x) ≡ cond (bytes_eq x base) (suc (cond t n.marks (used_in n.fresh x))) (cond t n.marks (used_in n.fresh x))
    by x true e = ap (λ t. cond t (suc n.marks) n.marks) (sym (other_text x base (λ h. some (ap length (sym h ∙ (bytes_eq-Decides x []).0 e)))))
    by x false e = ap (λ (c : Used). c x) u

-- ---- names of a sort

pub memory_named : (c : Used) (b : memory.Base) (name : List ℕ) (t : Tree) → b.is_memory ≡ true → name ≡ fresh_name b.name (suc (c b.name)) → t ≡ memory_var name → t ≡ new_name c (view_base b)
memory_named c b name t m e h = h ∙ ap memory_var e ∙ ap (λ s. new_name c (base b.name s)) (sym m)

pub number_named : (c : Used) (b : memory.Base) (name : List ℕ) (t : Tree) → b.is_memory ≡ false → name ≡ fresh_name b.name (suc (c b.name)) → t ≡ var name → t ≡ new_name c (view_base b)
number_named c b name t m e h = h ∙ ap var e ∙ ap (λ s. new_name c (base b.name s)) (sym m)

-- ---- the base of a large value

base_here : (bs : List memory.Base) (i : ℕ) (b : memory.Base) → i < length bs → b ≡ get_or bs i b → base_at (map view_base bs) i ≡ cond b.is_memory (view_base b) (base large_base false)
base_here [] i b lt e = absurd (omega (arith, lt))
base_here (x ∷ bs) zero b lt e = ap (λ (y : memory.Base). cond y.is_memory (view_base y) (base large_base false)) (sym e)
base_here (x ∷ bs) (suc i) b lt e = base_here bs i b (omega (arith, lt)) e

base_past : (bs : List memory.Base) (i : ℕ) → length bs ≤ i → base_at (map view_base bs) i ≡ base large_base false
base_past [] i h = refl
base_past (x ∷ bs) zero h = absurd (omega (arith, h))
base_past (x ∷ bs) (suc i) h = base_past bs i (omega (arith, h))

pub memory_at : (bs : List memory.Base) (i : ℕ) (b : memory.Base) → i < length bs → b ≡ get_or bs i b → b.is_memory ≡ (base_at (map view_base bs) i).is_memory
memory_at bs i b lt e = by b.is_memory refl ∙ ap (λ (x : Base). x.is_memory) (sym (base_here bs i b lt e))
  where
    by : (m : Bool) → b.is_memory ≡ m → m ≡ (cond m (view_base b) (base large_base false)).is_memory
    by true h = sym h
    by false h = refl

pub memory_past : (bs : List memory.Base) (i : ℕ) → length bs ≤ i → false ≡ (base_at (map view_base bs) i).is_memory
memory_past bs i h = ap (λ (x : Base). x.is_memory) (sym (base_past bs i h))

own_base : (bs : List memory.Base) (i : ℕ) (b : memory.Base) → i < length bs → b ≡ get_or bs i b → b.is_memory ≡ true → view_base b ≡ base_at (map view_base bs) i
own_base bs i b lt e m = sym (base_here bs i b lt e ∙ ap (λ t. cond t (view_base b) (base large_base false)) m)

size_base : (bs : List memory.Base) (i : ℕ) (b : memory.Base) → i < length bs → b ≡ get_or bs i b → b.is_memory ≡ false → base large_base false ≡ base_at (map view_base bs) i
size_base bs i b lt e m = sym (base_here bs i b lt e ∙ ap (λ t. cond t (view_base b) (base large_base false)) m)

module _ (c : Used) (t : Tree) (bs : List memory.Base) (i : ℕ) where
  pub own_name : (b : memory.Base) → i < length bs → b ≡ get_or bs i b → b.is_memory ≡ true → t ≡ new_name c (view_base b) → t ≡ new_name c (base_at (map view_base bs) i)
  own_name b lt e m h = h ∙ ap (new_name c) (own_base bs i b lt e m)

  pub size_name : (b : memory.Base) → i < length bs → b ≡ get_or bs i b → b.is_memory ≡ false → t ≡ new_name c (base large_base false) → t ≡ new_name c (base_at (map view_base bs) i)
  size_name b lt e m h = h ∙ ap (new_name c) (size_base bs i b lt e m)

  pub past_name : length bs ≤ i → t ≡ new_name c (base large_base false) → t ≡ new_name c (base_at (map view_base bs) i)
  past_name le h = h ∙ ap (new_name c) (sym (base_past bs i le))

module _ (c d : Used) (bs : List memory.Base) (i : ℕ) where
  pub own_used : (b : memory.Base) → i < length bs → b ≡ get_or bs i b → b.is_memory ≡ true → d ≡ use_one c b.name → d ≡ use_one c (base_at (map view_base bs) i).name
  own_used b lt e m h = h ∙ ap (λ (x : Base). use_one c x.name) (own_base bs i b lt e m)

  pub size_used : (b : memory.Base) → i < length bs → b ≡ get_or bs i b → b.is_memory ≡ false → d ≡ use_one c large_base → d ≡ use_one c (base_at (map view_base bs) i).name
  size_used b lt e m h = h ∙ ap (λ (x : Base). use_one c x.name) (size_base bs i b lt e m)

  pub past_used : length bs ≤ i → d ≡ use_one c large_base → d ≡ use_one c (base_at (map view_base bs) i).name
  past_used le h = h ∙ ap (λ (x : Base). use_one c x.name) (sym (base_past bs i le))

-- ---- values

abbrev named_by : Bool → Base → Used → Tree → Named
named_by l b c t =
    cond l (record { term = new_name c b; used = use_one c b.name; links = is_same b.is_memory (new_name c b) t ∷ [] })
    (record { term = t; used = c; links = [] })

-- a value that isn't large stands for itself
pub small_term : (b : Base) (c : Used) (t : Tree) → is_large t ≡ false → t ≡ (named b c t).term
small_term b c t h = ap (λ l. (named_by l b c t).term) (sym h)

pub small_used : (b : Base) (c : Used) (t : Tree) → is_large t ≡ false → c ≡ (named b c t).used
small_used b c t h = ap (λ l. (named_by l b c t).used) (sym h)

pub small_known : (b : Base) (c : Used) (t : Tree) (known : List Tree) → is_large t ≡ false → known ≡ known ++ (named b c t).links
small_known b c t known h = sym (append-nil known) ∙ ap (λ l. known ++ (named_by l b c t).links) (sym h)

-- one that is has a name
pub large_term : (b : Base) (c : Used) (t x : Tree) → is_large t ≡ true → x ≡ new_name c b → x ≡ (named b c t).term
large_term b c t x h e = e ∙ ap (λ l. (named_by l b c t).term) (sym h)

pub large_used : (b : Base) (c d : Used) (t : Tree) → is_large t ≡ true → d ≡ use_one c b.name → d ≡ (named b c t).used
large_used b c d t h e = e ∙ ap (λ l. (named_by l b c t).used) (sym h)

pub large_known : (b : Base) (m : Bool) (c : Used) (t x : Tree) (known after : List Tree) → is_large t ≡ true → x ≡ new_name c b → m ≡ b.is_memory → after ≡ known ++ is_same m x t ∷ []
    → after ≡ known ++ (named b c t).links
large_known b m c t x known after h e s k = k ∙ (λ i. known ++ is_same (s i) (e i) t ∷ []) ∙ ap (λ l. known ++ (named_by l b c t).links) (sym h)

pub set_so : (w : World) (i : ℕ) (t : Named) (x : Tree) (known terms : List Tree) → x ≡ t.term → known ≡ w.known ++ t.links → terms ≡ put w.slots.terms i x → world known (with_terms w.slots terms) ≡ set_to w i t
set_so w i t x known terms e k h = λ j. world (k j) (with_terms w.slots ((h ∙ ap (put w.slots.terms i) e) j))
