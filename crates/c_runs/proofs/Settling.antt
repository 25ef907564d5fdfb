-- A value, or what the first check that isn't met says: lists of checks put together.
use Rattle.std.proofs.Common.{◌≡◌, ℕ, Bool, true, false, List, [], ◌∷◌, ◌++◌, refl}
use Rattle.std.specs.Prelude.{if◌then◌else◌, map}
use Rattle.c_runs.specs.Told.{Value}
use Rattle.c_runs.specs.Operators.{Undefined, Val, is, wrong, where_true}
use Rattle.c_runs.specs.Values.{are, wrongs, push_val, with_vals}
use Rattle.c_runs.specs.Checks.{Check, here, one_if}
use Rattle.c_runs.specs.CheckLaws.{settle}

-- ---- lists

pub settle_append : {X : Type 0} (us vs : List Check) (test : Check → Bool) (bad : Undefined → ℕ → X) (x : X)
    → settle (us ++ vs) test bad x ≡ settle us test bad (settle vs test bad x)
settle_append [] vs test bad x = refl
settle_append (u ∷ us) vs test bad x = rw (settle_append us vs test bad x) refl

-- checks that are moved keep what they say
pub settle_map : {X : Type 0} (f : Check → Check) → ((c : Check) → (f c).kind ≡ c.kind) → ((c : Check) → (f c).line ≡ c.line) → (cs : List Check)
    (test test' : Check → Bool) → ((c : Check) → test (f c) ≡ test' c) → (bad : Undefined → ℕ → X) (x : X) → settle (map f cs) test bad x ≡ settle cs test' bad x
settle_map f k l [] test test' h bad x = refl
settle_map f k l (c ∷ cs) test test' h bad x = rw (h c, k c, l c, settle_map f k l cs test test' h bad x) refl

-- what goes on from a value, or stops
pub settle_through : {A X : Type 0} (f : A → X) (cs : List Check) (test : Check → Bool) (bad : Undefined → ℕ → A) (x : A)
    → f (settle cs test bad x) ≡ settle cs test (λ u l. f (bad u l)) (f x)
settle_through f [] test bad x = refl
settle_through f (c ∷ cs) test bad x =
    elim (test c) as (λ t. f (if t then settle cs test bad x else bad c.kind c.line)
    ≡ (if t then settle cs test (λ u l. f (bad u l)) (f x) else f (bad c.kind c.line))) [ true ↦ settle_through f cs test bad x | false ↦ refl ]

-- ---- operands

-- an operand's checks, and then those of the others
pub push_settle : (us vs : List Check) (test : Check → Bool) (z : Value) (zs : List Value)
    → push_val (settle us test wrong (is z)) (settle vs test wrongs (are zs)) ≡ settle (us ++ vs) test wrongs (are (z ∷ zs))
push_settle [] [] test z zs = refl
push_settle [] (b ∷ vs) test z zs =
    elim (test b) as (λ t. push_val (is z) (if t then settle vs test wrongs (are zs) else wrongs b.kind b.line)
    ≡ (if t then settle vs test wrongs (are (z ∷ zs)) else wrongs b.kind b.line)) [ true ↦ push_settle [] vs test z zs | false ↦ refl ]
push_settle (a ∷ us) vs test z zs =
    elim (test a) as (λ t. push_val (if t then settle us test wrong (is z) else wrong a.kind a.line) (settle vs test wrongs (are zs))
    ≡ (if t then settle (us ++ vs) test wrongs (are (z ∷ zs)) else wrongs a.kind a.line)) [ true ↦ push_settle us vs test z zs | false ↦ refl ]

-- all operands' checks, and then those of the operation
pub with_settle : (go : List Value → Val) (us cs : List Check) (test : Check → Bool) (zs : List Value) (z : Value)
    → go zs ≡ settle cs test wrong (is z) → with_vals (settle us test wrongs (are zs)) go ≡ settle (us ++ cs) test wrong (is z)
with_settle go [] cs test zs z h = h
with_settle go (a ∷ us) cs test zs z h =
    elim (test a) as (λ t. with_vals (if t then settle us test wrongs (are zs) else wrongs a.kind a.line) go
    ≡ (if t then settle (us ++ cs) test wrong (is z) else wrong a.kind a.line)) [ true ↦ with_settle go us cs test zs z h | false ↦ refl ]

-- ---- one check

-- One that is asked for, or can't fail, and what stands behind it.
pub one_settle : (asked ok : Bool) (u : Undefined) (l : ℕ) (test : Check → Bool) (cs : List Check) (v : Val) (x : Value)
    → (asked ≡ false → ok ≡ true) → test (here u l) ≡ ok → v ≡ settle cs test wrong (is x)
    → where_true ok u l v ≡ settle (one_if asked u l ++ cs) test wrong (is x)
one_settle true true u l test cs v x sure met rest = rw met rest
one_settle true false u l test cs v x sure met rest = rw met refl
one_settle false ok u l test cs v x sure met rest = rw (sure refl) rest

-- the last one
pub last_settle : (asked ok : Bool) (u : Undefined) (l : ℕ) (test : Check → Bool) (x : Value)
    → (asked ≡ false → ok ≡ true) → test (here u l) ≡ ok → where_true ok u l (is x) ≡ settle (one_if asked u l) test wrong (is x)
last_settle true true u l test x sure met = rw met refl
last_settle true false u l test x sure met = rw met refl
last_settle false ok u l test x sure met = rw (sure refl) refl
