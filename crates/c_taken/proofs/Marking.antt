-- Marks and the scopes around them.
use Rattle.std.proofs.Common.{◌≡◌, ◌≢◌, ℕ, zero, suc, ◌<◌, ◌≤◌, Bool, true, false, List, [], ◌∷◌, ◌++◌, length, Option, Some, None, refl, sym, ap, ◌∙◌, arith, slice_get, length-append}
use Rattle.std.specs.Option.{option_or, is_none}
use Rattle.std.proofs.Math.ListN.{set, length-set}
use Rattle.name_table.specs.Names.{Names as Table, meaning_of, is_free, declared}
use Rattle.name_table.specs.Nesting.{meaning_in, innermost, declared_in, around}
use Rattle.name_table.proofs.Declaring.{declares}
use Rattle.name_table.proofs.Hiding.{hides, enters}
use Rattle.c_taken.specs.Addressed.{Names}
use Rattle.c_taken.specs.declared.marks.Marks.{Marks}
use Rattle.c_taken.specs.Marking.{inside, one_more, declared_here, mark_by, mark, marked}

-- ---- marks leave the scopes as they are

mark_by_scopes : (o : Option ℕ) (x : List ℕ) (m : Marks) → (mark_by o x m).scopes ≡ m.scopes
mark_by_scopes (Some n) x m = refl
mark_by_scopes None x m = refl

-- a mark, by what the name means
pub mark_is : (x : List ℕ) (m : Marks) (o : Option ℕ) → meaning_in m.scopes x ≡ o → mark x m ≡ mark_by o x m
unfolding mark
mark_is x m o h = ap (λ o. mark_by o x m) h

pub mark_scopes : (x : List ℕ) (m : Marks) → (mark x m).scopes ≡ m.scopes
unfolding mark
mark_scopes x m = mark_by_scopes (meaning_in m.scopes x) x m

pub marked_scopes : (xs : Names) (m : Marks) → (marked xs m).scopes ≡ m.scopes
marked_scopes [] m = refl
marked_scopes (x ∷ xs) m = marked_scopes xs (mark x m) ∙ mark_scopes x m

pub marked-append : (xs ys : Names) (m : Marks) → marked (xs ++ ys) m ≡ marked ys (marked xs m)
marked-append [] ys m = refl
marked-append (x ∷ xs) ys m = marked-append xs ys (mark x m)

-- ---- and the number of flags

mark_by_flags : (o : Option ℕ) (x : List ℕ) (m : Marks) → length (mark_by o x m).taken ≡ length m.taken
mark_by_flags (Some n) x m = length-set m.taken n true
mark_by_flags None x m = refl

pub mark_flags : (x : List ℕ) (m : Marks) → length (mark x m).taken ≡ length m.taken
unfolding mark
mark_flags x m = mark_by_flags (meaning_in m.scopes x) x m

pub marked_flags : (xs : Names) (m : Marks) → length (marked xs m).taken ≡ length m.taken
marked_flags [] m = refl
marked_flags (x ∷ xs) m = marked_flags xs (mark x m) ∙ mark_flags x m

one_more_flags : (b : Bool) (flags : List Bool) → length flags ≤ length (one_more b flags)
one_more_flags true flags = omega (arith, length-append flags (false ∷ []))
one_more_flags false flags = omega arith

pub declared_flags : (x : List ℕ) (m : Marks) → length m.taken ≤ length (declared_here x m).taken
declared_flags x m = one_more_flags (is_free (innermost m.scopes) x) m.taken

-- ---- one flag

pub set_other : (flags : List Bool) (n k : ℕ) → k ≢ n → slice_get (set flags k true) n ≡ slice_get flags n
set_other [] n k ne = refl
set_other (f ∷ flags) zero zero ne = absurd (ne refl)
set_other (f ∷ flags) (suc n) zero ne = refl
set_other (f ∷ flags) zero (suc k) ne = refl
set_other (f ∷ flags) (suc n) (suc k) ne = set_other flags n k (λ e. ne (ap suc e))

pub set_there : (flags : List Bool) (n : ℕ) (b : Bool) → slice_get flags n ≡ Some b → slice_get (set flags n true) n ≡ Some true
set_there [] n b h = absurd cc
set_there (f ∷ flags) zero b h = refl
set_there (f ∷ flags) (suc n) b h = set_there flags n b h

pub set_alike : (flags flags' : List Bool) (n k : ℕ) → slice_get flags n ≡ slice_get flags' n → slice_get (set flags k true) n ≡ slice_get (set flags' k true) n
set_alike [] [] n k h = refl
set_alike [] (g ∷ flags') zero k h = absurd cc
set_alike [] (g ∷ flags') (suc n) zero h = h
set_alike [] (g ∷ flags') (suc n) (suc k) h = set_alike [] flags' n k h
set_alike (f ∷ flags) [] zero k h = absurd cc
set_alike (f ∷ flags) [] (suc n) zero h = h
set_alike (f ∷ flags) [] (suc n) (suc k) h = set_alike flags [] n k h
set_alike (f ∷ flags) (g ∷ flags') zero zero h = refl
set_alike (f ∷ flags) (g ∷ flags') (suc n) zero h = h
set_alike (f ∷ flags) (g ∷ flags') zero (suc k) h = h
set_alike (f ∷ flags) (g ∷ flags') (suc n) (suc k) h = set_alike flags flags' n k h

pub more_at : (flags : List Bool) (b : Bool) (n : ℕ) → n < length flags → slice_get (one_more b flags) n ≡ slice_get flags n
more_at flags false n h = refl
more_at [] true n h = absurd (omega arith)
more_at (f ∷ flags) true zero h = refl
more_at (f ∷ flags) true (suc n) h = more_at flags true n (omega arith)

pub new_at : (flags : List Bool) → slice_get (flags ++ false ∷ []) (length flags) ≡ Some false
new_at [] = refl
new_at (f ∷ flags) = new_at flags

-- ---- what a declared name means

or_none : {X : Type 0} (o : Option X) → option_or o None ≡ o
or_none None = refl
or_none (Some x) = refl

or_or : {X : Type 0} (o p q : Option X) → option_or (option_or o p) q ≡ option_or o (option_or p q)
or_or None p q = refl
or_or (Some x) p q = refl

last_scope : (ss : List (Table ℕ)) (s : Table ℕ) (x : List ℕ) → meaning_in (ss ++ s ∷ []) x ≡ option_or (meaning_of s x) (meaning_in ss x)
last_scope [] s x = sym (or_none (meaning_of s x))
last_scope (t ∷ ss) s x = ap (λ o. option_or o (meaning_of t x)) (last_scope ss s x) ∙ or_or (meaning_of s x) (meaning_in ss x) (meaning_of t x)

-- a name has a meaning once it is declared, new or not
pub means_something : (ss : List (Table ℕ)) (x : List ℕ) (n : ℕ) → (k : ℕ) × (meaning_in (declared_in ss x n) x ≡ Some k)
means_something ss x n = by (is_free (innermost ss) x) refl
  where
    old : (o : Option ℕ) → is_none o ≡ false → meaning_of (declared (innermost ss) x n) x ≡ o → (k : ℕ) × (meaning_in (declared_in ss x n) x ≡ Some k)
    old None h e = absurd cc
    old (Some k) h e = (k, last_scope (around ss) (declared (innermost ss) x n) x ∙ ap (λ o. option_or o (meaning_in (around ss) x)) e)

    by : (b : Bool) → is_free (innermost ss) x ≡ b → (k : ℕ) × (meaning_in (declared_in ss x n) x ≡ Some k)
    by true h = (n, (hides ss x n).new h)
    by false h = old (meaning_of (innermost ss) x) h (ap (λ t. meaning_of t x) ((declares (innermost ss) x n).old h))

pub others_mean : (ss : List (Table ℕ)) (x : List ℕ) (n : ℕ) (y : List ℕ) → y ≢ x → meaning_in (declared_in ss x n) y ≡ meaning_in ss y
others_mean ss x n y ne = (hides ss x n).others y ne

-- ---- scopes that begin and end

pub same_inside : (m : Marks) (x : List ℕ) → meaning_in (inside m).scopes x ≡ meaning_in m.scopes x
same_inside m x = (enters m.scopes).same x

pub around_inside : (m : Marks) → around (inside m).scopes ≡ m.scopes
around_inside m = (enters m.scopes).left

pub around_declared : (x : List ℕ) (m : Marks) → around (declared_here x m).scopes ≡ around m.scopes
around_declared x m = (hides m.scopes x (length m.taken)).left
