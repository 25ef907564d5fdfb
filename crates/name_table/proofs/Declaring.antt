-- Declarations in one scope.
use Rattle.std.proofs.Common.{◌≡◌, ◌≢◌, ℕ, Bool, true, false, cond, List, [], ◌∷◌, ◌++◌, Some, None, refl, sym, ap, ◌∙◌, true≢false, if◌then◌else◌}
use Rattle.std.specs.Str.{bytes_eq}
use Rattle.std.proofs.lemmas.Slice.Eq.{bytes_eq-Decides}
use Rattle.name_table.specs.Names.{Names, meaning_of, is_free}
use Rattle.name_table.specs.Laws.{Lacks, DeclaresFirst, MeaningsAreDeclared, Declares, DeclarationsAdd}
use Rattle.name_table.proofs.Tables.{none_of}

differ : (x y : List ℕ) → bytes_eq x y ≡ false → x ≢ y
differ x y h e = true≢false (sym ((bytes_eq-Decides x y).1 e) ∙ h)

pub same_name : (x : List ℕ) → bytes_eq x x ≡ true
same_name x = (bytes_eq-Decides x x).1 refl

other_name : (x y : List ℕ) → x ≢ y → bytes_eq x y ≡ false
other_name x y ne = by (bytes_eq x y) refl
  where
    by : (b : Bool) → bytes_eq x y ≡ b → bytes_eq x y ≡ false
    by true h = absurd (ne ((bytes_eq-Decides x y).0 h))
    by false h = h

pair_is : {V : Type 0} (d : List ℕ × V) (x : List ℕ) (v : V) → d.0 ≡ x → d.1 ≡ v → d ≡ (x, v)
pair_is d x v p q i = (p i, q i)

some_is : {V : Type 0} (v w : V) → Some v ≡ Some w → v ≡ w
some_is v w h = cc

-- ---- a name means what its first declaration says

first : {V : Type 0} (ds : Names V) (x : List ℕ) (v : V) → meaning_of ds x ≡ Some v → DeclaresFirst ds x v
first [] x v h = cc
first {V} (d ∷ ds) x v h = by (bytes_eq x d.0) refl h (first ds x v)
  where
    by : (b : Bool) → bytes_eq x d.0 ≡ b → (if b then Some d.1 else meaning_of ds x) ≡ Some v → (meaning_of ds x ≡ Some v → DeclaresFirst ds x v) → DeclaresFirst (d ∷ ds) x v
    by true e is rest = record {
      before = [];
      behind = ds;
      whole = ap (λ d. d ∷ ds) (pair_is d x v (sym ((bytes_eq-Decides x d.0).0 e)) (some_is d.1 v is));
      first = tt;
    }
    by false e is rest =
        let r = rest is in
        record { before = d ∷ r.before; behind = r.behind; whole = ap (λ ds. d ∷ ds) r.whole; first = (differ x d.0 e, r.first) }

pub lacking : {V : Type 0} (ds : Names V) (x : List ℕ) → Lacks ds x → meaning_of ds x ≡ None
lacking [] x h = refl
lacking (d ∷ ds) x h = ap (λ b. cond b (Some d.1) (meaning_of ds x)) (other_name x d.0 h.0) ∙ lacking ds x h.1

pub lacks : {V : Type 0} (ds : Names V) (x : List ℕ) → meaning_of ds x ≡ None → Lacks ds x
lacks [] x h = tt
lacks (d ∷ ds) x h = by (bytes_eq x d.0) refl h (lacks ds x)
  where
    by : (b : Bool) → bytes_eq x d.0 ≡ b → (if b then Some d.1 else meaning_of ds x) ≡ None → (meaning_of ds x ≡ None → Lacks ds x) → Lacks (d ∷ ds) x
    by true e is rest = cc
    by false e is rest = (differ x d.0 e, rest is)

passed : {V : Type 0} (before : Names V) (x : List ℕ) (v : V) (behind : Names V) → Lacks before x → meaning_of (before ++ (x, v) ∷ behind) x ≡ Some v
passed [] x v behind h = ap (λ b. cond b (Some v) (meaning_of behind x)) (same_name x)
passed (d ∷ ds) x v behind h = ap (λ b. cond b (Some d.1) (meaning_of (ds ++ (x, v) ∷ behind) x)) (other_name x d.0 h.0) ∙ passed ds x v behind h.1

pub found : {V : Type 0} (ds : Names V) (x : List ℕ) (v : V) → DeclaresFirst ds x v → meaning_of ds x ≡ Some v
found ds x v r = ap (λ ds. meaning_of ds x) r.whole ∙ passed r.before x v r.behind r.first

pub meanings_are_declared : {V : Type 0} → MeaningsAreDeclared V
meanings_are_declared ds x v = (first ds x v, found ds x v)

-- ---- one declaration more

behind_others : {V : Type 0} (ds : Names V) (x y : List ℕ) (v : V) → y ≢ x → meaning_of (ds ++ (x, v) ∷ []) y ≡ meaning_of ds y
behind_others [] x y v ne = ap (λ b. cond b (Some v) None) (other_name y x ne)
behind_others (d ∷ ds) x y v ne = ap (λ o. cond (bytes_eq y d.0) (Some d.1) o) (behind_others ds x y v ne)

pub declares : {V : Type 0} (ds : Names V) (x : List ℕ) (v : V) → Declares ds x v
declares {V} ds x v = record {
  new = λ free. ap (λ b. meaning_of (if b then ds ++ (x, v) ∷ [] else ds) x) free ∙ passed ds x v [] (lacks ds x (none_of (meaning_of ds x) free));
  old = λ there. ap (λ b. if b then ds ++ (x, v) ∷ [] else ds) there;
  others = λ y ne. by y ne (is_free ds x);
}
  where
    by : (y : List ℕ) → y ≢ x → (b : Bool) → meaning_of (if b then ds ++ (x, v) ∷ [] else ds) y ≡ meaning_of ds y
    by y ne true = behind_others ds x y v ne
    by y ne false = refl

pub declarations_add : {V : Type 0} → DeclarationsAdd V
declarations_add ds x v = declares ds x v
