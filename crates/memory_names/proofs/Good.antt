-- Names of slots are well formed bases.
use Rattle.std.proofs.Common.{◌≡◌, ◌<◌, ℕ, zero, suc, ◌+◌, Bool, true, false, List, [], ◌∷◌, ◌++◌, length, get_or, codes, refl, ap, sym, ◌∙◌, subst, true≢false, arith}
use Rattle.std.specs.Prelude.{◌&&◌, ◌||◌, ◌==◌, not}
use Rattle.std.specs.List.{list_all, list_any}
use Rattle.std.proofs.lemmas.Slice.Eq.{bytes_eq-Decides}
use Rattle.std.proofs.lemmas.Bool.{and_parts, and_from, or_parts, eq-eqb}
use Rattle.wp_base.specs.declared.kinds.Kind.{Kind}
use Rattle.wp_base.specs.declared.kinds.Kind.TheVariants as kind
use Rattle.qed_terms.specs.Names.{is_digit, is_name, is_name_byte}
use Rattle.qed_terms.specs.Fresh.{Lacks, hash}
use Rattle.c_runs.specs.Program as program
use Rattle.walk_steps.specs.Forms.{bang}
use Rattle.walk_steps.specs.World.{IsBase}
use Rattle.walk_steps.specs.Texts as plain_texts
use Rattle.walk_steps.specs.World as plain
use Rattle.slot_names.specs.Bases.{Name, is_among, is_c_name, shown_as, flag_name, temporary_name, temporary_names, slot_bases, are_fit}
use Rattle.slot_names.proofs.Fitting.{bases_fit}
use Rattle.memory_names.specs.Names.{block_name, offset_name, first_name, memory_name}

-- well formed, and a base
abbrev pub Good : Name → Type 0
Good x = (is_name x ≡ true) × IsBase x

-- ---- names of C and of temporaries, as the slots of plain programs have them

some_variable : program.Variable
some_variable = record { layout = record { count = 0; cells = []; writable = false }; is_plain = false; has_value = false }

among_itself : (x : Name) → is_among x (x ∷ []) ≡ true
among_itself x = ap (λ b. b || false) ((bytes_eq-Decides x x).1 refl)

alone_fits : (x : Name) → is_c_name x ≡ true → are_fit (x ∷ []) 1 (x ∷ []) ≡ true
alone_fits x h = λ i. ((h i && true) && (h i && true)) && true

pub shown_is_good : (hidden : Bool) (x : Name) → is_c_name x ≡ true → Good (shown_as hidden x)
shown_is_good hidden x h = by hidden
  where
    fit : (plain_texts.AreNames (slot_bases (x ∷ []) 1 (x ∷ []) 0)) × plain.AreBases (slot_bases (x ∷ []) 1 (x ∷ []) 0)
    fit = let f = bases_fit (x ∷ []) 1 (x ∷ []) 0 (alone_fits x h) (omega (arith)) (some_variable ∷ []) (some_variable ∷ []) refl refl in (f.names, f.bases)

    by : (b : Bool) → Good (shown_as b x)
    by true = subst (λ b. Good (shown_as b x)) (among_itself x) (fit.0.1.1.0, fit.1.1.1.0)
    by false = (fit.0.0, fit.1.0)

-- of the last one of so many from a number on
last_is_good : (m k : ℕ) → plain_texts.AreNames (temporary_names m (suc k)) → plain.AreBases (temporary_names m (suc k)) → Good (temporary_name (m + k))
last_is_good m zero h b = let e : m ≡ m + 0 = omega (arith) in subst (λ n. Good (temporary_name n)) e (h.0, b.0)
last_is_good m (suc k) h b =
    let e : suc m + k ≡ m + suc k = omega (arith) in subst (λ n. Good (temporary_name n)) e (last_is_good (suc m) k h.1 b.1)

pub temporary_is_good : (n : ℕ) → Good (temporary_name (suc n))
temporary_is_good n =
    let f = bases_fit [] 0 [] (suc n) refl (omega (arith)) [] [] refl refl in
    let e : 1 + n ≡ suc n = omega (arith) in
    subst (λ m. Good (temporary_name m)) e (last_is_good 1 n f.names.1.1 f.bases.1.1)

-- ---- with something behind

all_behind : (x y : Name) → list_all is_name_byte x ≡ true → list_all is_name_byte y ≡ true → list_all is_name_byte (x ++ y) ≡ true
all_behind [] y h k = k
all_behind (b ∷ x) y h k =
    let both = and_parts (is_name_byte b) (list_all is_name_byte x) h in
    and_from (is_name_byte b) (list_all is_name_byte (x ++ y)) both.0 (all_behind x y both.1 k)

lacks_behind : (c : ℕ) (x y : Name) → Lacks c x → Lacks c y → Lacks c (x ++ y)
lacks_behind c [] y h k = k
lacks_behind c (b ∷ x) y h k = (h.0, lacks_behind c x y h.1 k)

pub none_of : (c : ℕ) (x : Name) → list_any (λ b. b == c) x ≡ false → Lacks c x
none_of c [] h = tt
none_of c (b ∷ x) h =
    let both = or_parts (b == c) (list_any (λ b. b == c) x) h in
    ((λ same. true≢false (sym (eq-eqb b c same) ∙ both.0)), none_of c x both.1)

-- what may stand behind a name
record Behind (s : Name) : Type 0 where
  bytes : list_all is_name_byte s ≡ true
  hashes : list_any (λ b. b == hash) s ≡ false
  bangs : list_any (λ b. b == bang) s ≡ false

behind_is_good : (s : Name) → Behind s → (x : Name) → Good x → Good (x ++ s)
unfolding is_name
behind_is_good s k [] h = absurd (true≢false (sym h.0))
behind_is_good s k (b ∷ x) h =
    let parts = and_parts (not (is_digit b)) (list_all is_name_byte (b ∷ x)) h.0 in (
      and_from (not (is_digit b)) (list_all is_name_byte ((b ∷ x) ++ s)) parts.0 (all_behind (b ∷ x) s parts.1 k.bytes),
      (lacks_behind hash (b ∷ x) s h.1.0 (none_of hash s k.hashes), lacks_behind bang (b ∷ x) s h.1.1 (none_of bang s k.bangs)),
    )

block_is_good : (x : Name) → Good x → Good (block_name x)
block_is_good x h = behind_is_good (codes ":b") (record { bytes = refl; hashes = refl; bangs = refl }) x h

pub offset_is_good : (x : Name) → Good x → Good (offset_name x)
offset_is_good x h = behind_is_good (codes ":o") (record { bytes = refl; hashes = refl; bangs = refl }) x h

pub flag_is_good : (x : Name) → Good x → Good (flag_name x)
flag_is_good x h = behind_is_good (codes ":i") (record { bytes = refl; hashes = refl; bangs = refl }) x h

pub first_is_good : (is_pointer : Bool) (x : Name) → Good x → Good (first_name is_pointer x)
first_is_good true x h = block_is_good x h
first_is_good false x h = h

-- ---- names that are always the same

fixed_is_good : (x : Name) → is_name x ≡ true → list_any (λ b. b == hash) x ≡ false → list_any (λ b. b == bang) x ≡ false → Good x
fixed_is_good x n h b = (n, (none_of hash x h, none_of bang x b))

pub result_is_good : Good (codes "\\result")
unfolding is_name
result_is_good = fixed_is_good (codes "\\result") refl refl refl

pub answer_is_good : Good (codes "%")
unfolding is_name
answer_is_good = fixed_is_good (codes "%") refl refl refl

pub blocks_are_good : Good (codes "M:ptrb")
unfolding is_name
blocks_are_good = fixed_is_good (codes "M:ptrb") refl refl refl

pub offsets_are_good : Good (codes "M:ptro")
unfolding is_name
offsets_are_good = fixed_is_good (codes "M:ptro") refl refl refl

pub memory_is_good : (k : Kind) → Good (memory_name k)
unfolding is_name
memory_is_good kind.Bool = fixed_is_good (codes "M:bool") refl refl refl
memory_is_good kind.Char = fixed_is_good (codes "M:char") refl refl refl
memory_is_good kind.SChar = fixed_is_good (codes "M:schar") refl refl refl
memory_is_good kind.UChar = fixed_is_good (codes "M:uchar") refl refl refl
memory_is_good kind.Short = fixed_is_good (codes "M:short") refl refl refl
memory_is_good kind.UShort = fixed_is_good (codes "M:ushort") refl refl refl
memory_is_good kind.Int = fixed_is_good (codes "M:int") refl refl refl
memory_is_good kind.UInt = fixed_is_good (codes "M:uint") refl refl refl
memory_is_good kind.Long = fixed_is_good (codes "M:long") refl refl refl
memory_is_good kind.ULong = fixed_is_good (codes "M:ulong") refl refl refl
memory_is_good kind.LLong = fixed_is_good (codes "M:llong") refl refl refl
memory_is_good kind.ULLong = fixed_is_good (codes "M:ullong") refl refl refl

-- ---- lists of names of C

pub c_at : (xs : List Name) (i : ℕ) → i < length xs → list_all is_c_name xs ≡ true → is_c_name (get_or xs i []) ≡ true
c_at [] i l h = absurd (omega (arith, l))
c_at (x ∷ xs) zero l h = (and_parts (is_c_name x) (list_all is_c_name xs) h).0
c_at (x ∷ xs) (suc i) l h = c_at xs i (omega (arith, l)) (and_parts (is_c_name x) (list_all is_c_name xs) h).1
