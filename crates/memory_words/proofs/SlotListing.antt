-- The list of all places, and their slots.
use Rattle.std.proofs.Common.{◌≡◌, ◌<◌, ℕ, zero, suc, ◌+◌, List, [], ◌∷◌, ◌++◌, length, Some, slice_get, refl, sym, ap, ◌∙◌, subst, arith, length-append}
use Rattle.std.proofs.lemmas.Option.{none-some, same_Some}
use Rattle.wp_base.specs.declared.kinds.Kind.{Kind}
use Rattle.wp_base.specs.declared.kinds.Kind.TheVariants as kind
use Rattle.wp_base.specs.Kinds.{kind_place}
use Rattle.typed_prog.specs.declared.operators.Variable.{Variable}
use Rattle.typed_prog.specs.declared.operators.Variable.TheVariants as variables
use Rattle.memory_words.specs.Places.{Place, value, offset, flag, result, result_offset, answer, answer_offset, temporary, temporary_offset, numbers, blocks, offsets, Sizes, IsIn, double, triple, behind_variables, behind_temporaries, slot, slots_in, variable_places, temporary_places, memory_places, places}
use Rattle.memory_words.specs.SlotLaws.{SlotsOfPlaces}
use Rattle.memory_words.proofs.Lists.{found_below, in_first, in_second}

pub double_is : (n : ℕ) → double n ≡ n + n
double_is zero = refl
double_is (suc n) = let h = double_is n in omega (arith, h)

pub triple_is : (n : ℕ) → triple n ≡ n + (n + n)
triple_is zero = refl
triple_is (suc n) = let h = triple_is n in omega (arith, h)

-- ---- variables, temporaries and memories alone

variable_length : (f : ℕ → Variable) (n k : ℕ) → length (variable_places f n k) ≡ triple k
variable_length f n zero = refl
variable_length f n (suc k) = ap (λ l. suc (suc (suc l))) (variable_length f (suc n) k)

temporary_length : (n k : ℕ) → length (temporary_places n k) ≡ double k
temporary_length n zero = refl
temporary_length n (suc k) = ap (λ l. suc (suc l)) (temporary_length (suc n) k)

record IsListed (f : ℕ → Variable) (n k x y : ℕ) : Type 0 where
  value : slice_get (variable_places f n k) (triple x) ≡ Some (value (f y))
  offset : slice_get (variable_places f n k) (suc (triple x)) ≡ Some (offset (f y))
  flag : slice_get (variable_places f n k) (suc (suc (triple x))) ≡ Some (flag (f y))

variable_listed : (f : ℕ → Variable) (n k x y : ℕ) → x < k → y ≡ n + x → IsListed f n k x y
variable_listed f n zero x y l e = absurd (omega (arith, l))
variable_listed f n (suc k) zero y l e =
    let s : n ≡ y = omega (arith, e) in
    record { value = ap (λ n. Some (value (f n))) s; offset = ap (λ n. Some (offset (f n))) s; flag = ap (λ n. Some (flag (f n))) s }
variable_listed f n (suc k) (suc x) y l e =
    let h = variable_listed f (suc n) k x y (omega (arith, l)) (omega (arith, e)) in
    record { value = h.value; offset = h.offset; flag = h.flag }

record IsTemporary (n k x y : ℕ) : Type 0 where
  value : slice_get (temporary_places n k) (double x) ≡ Some (temporary y)
  offset : slice_get (temporary_places n k) (suc (double x)) ≡ Some (temporary_offset y)

temporary_listed : (n k x y : ℕ) → x < k → y ≡ n + x → IsTemporary n k x y
temporary_listed n zero x y l e = absurd (omega (arith, l))
temporary_listed n (suc k) zero y l e =
    let s : n ≡ y = omega (arith, e) in
    record { value = ap (λ n. Some (temporary n)) s; offset = ap (λ n. Some (temporary_offset n)) s }
temporary_listed n (suc k) (suc x) y l e =
    let h = temporary_listed (suc n) k x y (omega (arith, l)) (omega (arith, e)) in
    record { value = h.value; offset = h.offset }

numbers_listed : (k : Kind) → slice_get memory_places (kind_place k) ≡ Some (numbers k)
numbers_listed kind.Bool = refl
numbers_listed kind.Char = refl
numbers_listed kind.SChar = refl
numbers_listed kind.UChar = refl
numbers_listed kind.Short = refl
numbers_listed kind.UShort = refl
numbers_listed kind.Int = refl
numbers_listed kind.UInt = refl
numbers_listed kind.Long = refl
numbers_listed kind.ULong = refl
numbers_listed kind.LLong = refl
numbers_listed kind.ULLong = refl

module _ (z : Sizes) where
  -- ---- the list, part by part

  abbrev file_part : List Place
  file_part = variable_places variables.Global 0 z.globals

  abbrev function_part : List Place
  function_part = variable_places variables.Local 0 z.locals

  abbrev temporary_part : List Place
  temporary_part = temporary_places 0 z.temporaries

  abbrev behind_results : List Place
  behind_results = temporary_part ++ memory_places

  abbrev behind_locals : List Place
  behind_locals = result ∷ result_offset ∷ answer ∷ answer_offset ∷ behind_results

  abbrev all_places : List Place
  all_places = file_part ++ (function_part ++ behind_locals)

  are_all : places z ≡ all_places
  unfolding places
  are_all = refl

  in_function : (i j : ℕ) → i ≡ triple z.globals + j → slice_get all_places i ≡ slice_get (function_part ++ behind_locals) j
  in_function i j e = let h = variable_length variables.Global 0 z.globals in in_second file_part (function_part ++ behind_locals) i j (omega (arith, e, h))

  in_locals : (i j : ℕ) → i ≡ behind_variables z + j → slice_get all_places i ≡ slice_get behind_locals j
  in_locals i j e =
      let h = variable_length variables.Local 0 z.locals in
      let a = triple_is (z.globals + z.locals) in
      let b = triple_is z.globals in
      let c = triple_is z.locals in
      in_function i (triple z.locals + j) (omega (arith, e, a, b, c)) ∙ in_second function_part behind_locals (triple z.locals + j) j (omega (arith, h))

  in_temporaries : (i j : ℕ) → i ≡ behind_variables z + (4 + j) → slice_get all_places i ≡ slice_get behind_results j
  in_temporaries i j e =
      let four : 4 + j ≡ suc (suc (suc (suc j))) = omega arith in
      in_locals i (4 + j) e ∙ ap (slice_get behind_locals) four

  in_memories : (i j : ℕ) → i ≡ behind_temporaries z + j → slice_get all_places i ≡ slice_get memory_places j
  in_memories i j e =
      let h = temporary_length 0 z.temporaries in
      in_temporaries i (double z.temporaries + j) (omega (arith, e)) ∙ in_second temporary_part memory_places (double z.temporaries + j) j (omega (arith, h))

  pub places_count : length (places z) ≡ slots_in z
  places_count =
      let a = variable_length variables.Global 0 z.globals in
      let b = variable_length variables.Local 0 z.locals in
      let c = temporary_length 0 z.temporaries in
      let d = length-append file_part (function_part ++ behind_locals) in
      let e = length-append function_part behind_locals in
      let f = length-append temporary_part memory_places in
      let g = triple_is (z.globals + z.locals) in
      let h = triple_is z.globals in
      let i = triple_is z.locals in
      ap length are_all ∙ omega (arith, a, b, c, d, e, f, g, h, i)

  -- ---- each place is listed at its slot

  abbrev Stands : Place → Type 0
  Stands a = slice_get all_places (slot z a) ≡ Some a

  in_file : (a : Place) → slice_get file_part (slot z a) ≡ Some a → Stands a
  in_file a e = in_first file_part (function_part ++ behind_locals) (slot z a) a e

  of_function : (a : Place) (j : ℕ) → slot z a ≡ triple z.globals + j → slice_get function_part j ≡ Some a → Stands a
  of_function a j s e = in_function (slot z a) j s ∙ in_first function_part behind_locals j a e

  of_temporaries : (a : Place) (j : ℕ) → slot z a ≡ behind_variables z + (4 + j) → slice_get temporary_part j ≡ Some a → Stands a
  of_temporaries a j s e = in_temporaries (slot z a) j s ∙ in_first temporary_part memory_places j a e

  local_at : (x : ℕ) → triple (z.globals + x) ≡ triple z.globals + triple x
  local_at x = let a = triple_is (z.globals + x) in let b = triple_is z.globals in let c = triple_is x in omega (arith, a, b, c)

  stands : (a : Place) → IsIn z a → Stands a
  unfolding slot
  stands (value (variables.Global x)) l = in_file (value (variables.Global x)) (variable_listed variables.Global 0 z.globals x x l (omega arith)).value
  stands (value (variables.Local x)) l =
      let q = local_at x in of_function (value (variables.Local x)) (triple x) q (variable_listed variables.Local 0 z.locals x x l (omega arith)).value
  stands (offset (variables.Global x)) l = in_file (offset (variables.Global x)) (variable_listed variables.Global 0 z.globals x x l (omega arith)).offset
  stands (offset (variables.Local x)) l =
      let q = local_at x in of_function (offset (variables.Local x)) (suc (triple x)) (omega (arith, q)) (variable_listed variables.Local 0 z.locals x x l (omega arith)).offset
  stands (flag (variables.Global x)) l = in_file (flag (variables.Global x)) (variable_listed variables.Global 0 z.globals x x l (omega arith)).flag
  stands (flag (variables.Local x)) l =
      let q = local_at x in of_function (flag (variables.Local x)) (suc (suc (triple x))) (omega (arith, q)) (variable_listed variables.Local 0 z.locals x x l (omega arith)).flag
  stands result l = in_locals (behind_variables z) 0 (omega arith)
  stands result_offset l = in_locals (behind_variables z + 1) 1 refl
  stands answer l = in_locals (behind_variables z + 2) 2 refl
  stands answer_offset l = in_locals (behind_variables z + 3) 3 refl
  stands (temporary n) l = of_temporaries (temporary n) (double n) refl (temporary_listed 0 z.temporaries n n l (omega arith)).value
  stands (temporary_offset n) l = of_temporaries (temporary_offset n) (suc (double n)) (omega arith) (temporary_listed 0 z.temporaries n n l (omega arith)).offset
  stands (numbers k) l = in_memories (behind_temporaries z + kind_place k) (kind_place k) refl ∙ numbers_listed k
  stands blocks l = in_memories (behind_temporaries z + 12) 12 refl
  stands offsets l = in_memories (behind_temporaries z + 13) 13 refl

  pub listed : (a : Place) → IsIn z a → slice_get (places z) (slot z a) ≡ Some a
  listed a l = ap (λ ps. slice_get ps (slot z a)) are_all ∙ stands a l

  -- ---- each listed place is one, and its slot is where it stands

  abbrev Has : ℕ → Place → Type 0
  Has n a = IsIn z a × (slot z a ≡ n)

  -- from number n on
  abbrev Numbered : ℕ → List Place → Type 0
  Numbered n [] = Unit {0}
  Numbered n (a ∷ ps) = Has n a × Numbered (suc n) ps

  next : {A B : Type 0} → A → B → A × B
  next a b = (a, b)

  numbered_at : (ps : List Place) (n i : ℕ) (a : Place) → Numbered n ps → slice_get ps i ≡ Some a → Has (n + i) a
  numbered_at [] n i a all e = absurd (none-some a e)
  numbered_at (b ∷ ps) n zero a all e = subst (Has (n + zero)) (same_Some b a e) (all.0.0, (let q = all.0.1 in omega (arith, q)))
  numbered_at (b ∷ ps) n (suc i) a all e = let h = numbered_at ps (suc n) i a all.1 e in (h.0, (let q = h.1 in omega (arith, q)))

  numbered_both : (ps qs : List Place) (n m : ℕ) → m ≡ n + length ps → Numbered n ps → Numbered m qs → Numbered n (ps ++ qs)
  numbered_both [] qs n m e first second = subst (λ k. Numbered k qs) (omega (arith, e)) second
  numbered_both (p ∷ ps) qs n m e first second = (first.0, numbered_both ps qs (suc n) m (omega (arith, e)) first.1 second)

  record HasThree (x : Variable) (n : ℕ) : Type 0 where
    value : Has n (value x)
    offset : Has (suc n) (offset x)
    flag : Has (suc (suc n)) (flag x)

  variables_numbered : (f : ℕ → Variable) (first k n : ℕ) → ((x j p : ℕ) → x ≡ first + j → j < k → p ≡ n + triple j → HasThree (f x) p)
      → Numbered n (variable_places f first k)
  variables_numbered f first zero n have = tt
  variables_numbered f first (suc k) n have =
      let now = have first 0 n (omega arith) (omega arith) (omega arith) in (
        now.value,
        (
          now.offset,
          (
            now.flag,
            variables_numbered f (suc first) k (suc (suc (suc n)))
                (λ x j p e l q. have x (suc j) p (omega (arith, e)) (omega (arith, l)) (omega (arith, q))),
          ),
        ),
      )

  temporaries_numbered : (first k n : ℕ) → ((x j p : ℕ) → x ≡ first + j → j < k → p ≡ n + double j → Has p (temporary x) × Has (suc p) (temporary_offset x))
      → Numbered n (temporary_places first k)
  temporaries_numbered first zero n have = tt
  temporaries_numbered first (suc k) n have =
      let now = have first 0 n (omega arith) (omega arith) (omega arith) in
      (now.0, (now.1, temporaries_numbered (suc first) k (suc (suc n)) (λ x j p e l q. have x (suc j) p (omega (arith, e)) (omega (arith, l)) (omega (arith, q)))))

  file_numbered : Numbered 0 file_part
  unfolding slot
  file_numbered = variables_numbered variables.Global 0 z.globals 0 have where
    have : (x j p : ℕ) → x ≡ 0 + j → j < z.globals → p ≡ 0 + triple j → HasThree (variables.Global x) p
    have x j p e l q =
        let below : x < z.globals = omega (arith, e, l) in
        let same : x ≡ j = omega (arith, e) in
        let there : triple x ≡ p = ap triple same ∙ omega (arith, q) in
        record { value = (below, there); offset = (below, ap suc there); flag = (below, ap (λ n. suc (suc n)) there) }

  function_numbered : Numbered (triple z.globals) function_part
  unfolding slot
  function_numbered = variables_numbered variables.Local 0 z.locals (triple z.globals) have where
    have : (x j p : ℕ) → x ≡ 0 + j → j < z.locals → p ≡ triple z.globals + triple j → HasThree (variables.Local x) p
    have x j p e l q =
        let below : x < z.locals = omega (arith, e, l) in
        let same : x ≡ j = omega (arith, e) in
        let there : triple (z.globals + x) ≡ p = local_at x ∙ ap (λ x. triple z.globals + triple x) same ∙ sym q in
        record { value = (below, there); offset = (below, ap suc there); flag = (below, ap (λ n. suc (suc n)) there) }

  temporary_numbered : Numbered (behind_variables z + 4) temporary_part
  unfolding slot
  temporary_numbered = temporaries_numbered 0 z.temporaries (behind_variables z + 4) have where
    have : (x j p : ℕ) → x ≡ 0 + j → j < z.temporaries → p ≡ behind_variables z + 4 + double j → Has p (temporary x) × Has (suc p) (temporary_offset x)
    have x j p e l q =
        let below : x < z.temporaries = omega (arith, e, l) in
        let one : x ≡ j = omega (arith, e) in
        let same : double x ≡ double j = ap double one in
        ((below, omega (arith, q, same)), (below, omega (arith, q, same)))

  memories_numbered : (n : ℕ) → n ≡ behind_temporaries z → Numbered n memory_places
  unfolding slot
  memories_numbered n e =
      next (tt, omega (arith, e)) (next (tt, omega (arith, e)) (next (tt, omega (arith, e)) (next (tt, omega (arith, e)) (next (tt, omega (arith, e)) (
      next (tt, omega (arith, e)) (next (tt, omega (arith, e)) (next (tt, omega (arith, e)) (next (tt, omega (arith, e)) (next (tt, omega (arith, e)) (
      next (tt, omega (arith, e)) (next (tt, omega (arith, e)) (next (tt, omega (arith, e)) (next (tt, omega (arith, e)) tt)))))))))))))

  results_numbered : Numbered (behind_variables z) behind_locals
  unfolding slot
  results_numbered =
      let h = temporary_length 0 z.temporaries in
      let there = numbered_both temporary_part memory_places (behind_variables z + 4) (behind_temporaries z) (omega (arith, h)) temporary_numbered
      (memories_numbered (behind_temporaries z) refl) in
      let four : behind_variables z + 4 ≡ suc (suc (suc (suc (behind_variables z)))) = omega arith in
      ((tt, refl), ((tt, omega arith), ((tt, omega arith), ((tt, omega arith), subst (λ n. Numbered n behind_results) four there))))

  all_numbered : Numbered 0 all_places
  all_numbered =
      let g = variable_length variables.Global 0 z.globals in
      let l = variable_length variables.Local 0 z.locals in
      let a = triple_is (z.globals + z.locals) in
      let b = triple_is z.globals in
      let c = triple_is z.locals in
      numbered_both file_part (function_part ++ behind_locals) 0 (triple z.globals) (omega (arith, g)) file_numbered
      (numbered_both function_part behind_locals (triple z.globals) (behind_variables z) (omega (arith, l, a, b, c)) function_numbered results_numbered)

  pub back : (i : ℕ) (a : Place) → slice_get (places z) i ≡ Some a → IsIn z a × (slot z a ≡ i)
  back i a e = let h = numbered_at all_places 0 i a all_numbered (sym (ap (λ ps. slice_get ps i) are_all) ∙ e) in (h.0, (let q = h.1 in omega (arith, q)))

  pub below : (a : Place) → IsIn z a → slot z a < slots_in z
  below a l = let h = found_below (places z) (slot z a) a (listed a l) in let k = places_count in omega (arith, h, k)

  pub differ : (a b : Place) → IsIn z a → IsIn z b → slot z a ≡ slot z b → a ≡ b
  differ a b k l same = same_Some a b (sym (listed a k) ∙ ap (slice_get (places z)) same ∙ listed b l)

pub slots_of_places : SlotsOfPlaces
slots_of_places z = record { size = places_count z; listed = listed z; back = back z; below = below z; differ = differ z }
