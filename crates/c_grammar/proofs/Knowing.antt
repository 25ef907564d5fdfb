-- A table that has the names of a list has them still where a name is declared in both.
use Rattle.std.proofs.Common.{◌≡◌, ℕ, Bool, true, false, cond, ◌||◌, List, [], ◌∷◌, ◌++◌, Option, Some, None, is_some, refl, sym, ap, ◌∙◌, if◌then◌else◌}
use Rattle.std.specs.Option.{is_none}
use Rattle.std.specs.Str.{bytes_eq}
use Rattle.std.proofs.lemmas.Slice.Eq.{bytes_eq-Decides}
use Rattle.name_table.specs.Names.{Names as Declarations, meaning_of, is_free, declared}
use Rattle.c_grammar.specs.Tokens.{Names, is_type}
use Rattle.c_grammar.specs.Known.{Knows}

or_none : (a : Bool) → (a || false) ≡ a
or_none true = refl
or_none false = refl

or_or : (a b c : Bool) → (a || (b || c)) ≡ ((a || b) || c)
or_or true b c = refl
or_or false b c = refl

-- what follows from the first adds nothing to it
or_less : (a b : Bool) → (b ≡ true → a ≡ true) → a ≡ (a || b)
or_less true b h = refl
or_less false false h = refl
or_less false true h = h refl

-- whether two texts are the same, either way round
same_turned : (x y : List ℕ) → bytes_eq x y ≡ bytes_eq y x
same_turned x y = by (bytes_eq x y) (bytes_eq y x) refl refl
  where
    by : (a b : Bool) → bytes_eq x y ≡ a → bytes_eq y x ≡ b → a ≡ b
    by true true p q = refl
    by false false p q = refl
    by true false p q = sym ((bytes_eq-Decides y x).1 (sym ((bytes_eq-Decides x y).0 p))) ∙ q
    by false true p q = sym p ∙ (bytes_eq-Decides x y).1 (sym ((bytes_eq-Decides y x).0 q))

-- ---- one name more

listed_behind : (types : Names) (x y : List ℕ) → is_type (types ++ x ∷ []) y ≡ (is_type types y || bytes_eq x y)
listed_behind [] x y = or_none (bytes_eq x y)
listed_behind (t ∷ types) x y = ap (λ b. bytes_eq t y || b) (listed_behind types x y) ∙ or_or (bytes_eq t y) (is_type types y) (bytes_eq x y)

some_if : {V : Type 0} (b : Bool) (v : V) → is_some (cond b (Some v) None) ≡ b
some_if true v = refl
some_if false v = refl

found_behind : {V : Type 0} (ds : Declarations V) (x y : List ℕ) (v : V) → is_some (meaning_of (ds ++ (x, v) ∷ []) y) ≡ (is_some (meaning_of ds y) || bytes_eq x y)
found_behind [] x y v = some_if (bytes_eq y x) v ∙ same_turned y x
found_behind {V} (d ∷ ds) x y v = by (bytes_eq y d.0) (found_behind ds x y v)
  where
    by : (b : Bool) → is_some (meaning_of (ds ++ (x, v) ∷ []) y) ≡ (is_some (meaning_of ds y) || bytes_eq x y)
        → is_some (cond b (Some d.1) (meaning_of (ds ++ (x, v) ∷ []) y)) ≡ (is_some (cond b (Some d.1) (meaning_of ds y)) || bytes_eq x y)
    by true rest = refl
    by false rest = rest

there : {V : Type 0} (o : Option V) → is_none o ≡ false → is_some o ≡ true
there None h = cc
there (Some v) h = refl

-- ---- what the code needs

pub nothing_known : {V : Type 0} (known : Declarations V) (types : Names) → known ≡ [] → types ≡ [] → Knows known types
nothing_known known types none no_names x = ap (λ ds. is_some (meaning_of ds x)) none ∙ sym (ap (λ ts. is_type ts x) no_names)

declared_known : {V : Type 0} (known : Declarations V) (types : Names) (x : List ℕ) (v : V) → Knows known types → Knows (declared known x v) (types ++ x ∷ [])
declared_known {V} known types x v h y = by (is_free known x) refl ∙ sym (listed_behind types x y)
  where
    listed : is_free known x ≡ false → bytes_eq x y ≡ true → is_type types y ≡ true
    listed taken same = ap (is_type types) (sym ((bytes_eq-Decides x y).0 same)) ∙ sym (h x) ∙ there (meaning_of known x) taken

    by : (b : Bool) → is_free known x ≡ b → is_some (meaning_of (if b then known ++ (x, v) ∷ [] else known) y) ≡ (is_type types y || bytes_eq x y)
    by true free = found_behind known x y v ∙ ap (λ b. b || bytes_eq x y) (h y)
    by false taken = h y ∙ or_less (is_type types y) (bytes_eq x y) (listed taken)

pub one_more_known : {V : Type 0} (known known' : Declarations V) (types types' : Names) (x : List ℕ) (v : V) → Knows known types → known' ≡ declared known x v → types' ≡ types ++ x ∷ [] → Knows known' types'
one_more_known known known' types types' x v h declares adds y =
    ap (λ ds. is_some (meaning_of ds y)) declares ∙ declared_known known types x v h y ∙ sym (ap (λ ts. is_type ts y) adds)
