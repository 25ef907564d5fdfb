-- The changes at a loop's head, slot by slot.
use Rattle.std.proofs.Common.{◌≡◌, ℕ, zero, suc, ◌+◌, ◌-◌, ◌<◌, ◌≤◌, ℤ, pos, Bool, true, false, ◌&&◌, List, [], ◌∷◌, ◌++◌, length, Some, slice_get, refl, sym, ap, ◌∙◌, subst, arith}
use Rattle.std.specs.Prelude.{nat_lt, int_le}
use Rattle.std.proofs.lemmas.Bool.{false≢true, and_parts, ltb-true, ltb-false}
use Rattle.wp_base.specs.declared.kinds.Kind.{Kind}
use Rattle.c_kinds.specs.Models.{low, high, holds}
use Rattle.c_runs.specs.Program.{Variable, Facts}
use Rattle.plain_states.specs.Slots.{State, at_or, at, double, value_slot, flag_slot, local_value, local_flag}
use Rattle.plain_states.specs.Scopes.{kind_of}
use Rattle.plain_states.proofs.Lists.{double_is, value_before, flag_before}
use Rattle.plain_states.proofs.Scoping.{found_below, none_some}
use Rattle.plain_states.proofs.Calling.{some_same}
use Rattle.plain_states.proofs.Entering.{found}
use Rattle.plain_runs.specs.Fitting.{Shape, sizes}
use Rattle.walk_steps.specs.Step.{Change, keeps}
use Rattle.walk_steps.specs.Run.{Changed, Changes}
use Rattle.program_steps.proofs.Filling.{on_bool}
use Rattle.program_steps.proofs.Beginning.{Half, of_value, of_flag, half}
use Rattle.loop_words.specs.Words.{value_change, flag_change, file_list, local_list}

-- ---- changes by slots

abbrev change_at : List Change → ℕ → Change
change_at cs i = at_or keeps cs i

changes_length : (sts : List State) (cs : List Change) (xs ys : State) → Changes sts cs xs ys → length ys ≡ length xs
changes_length sts [] xs ys h = ap (λ zs. length zs) (sym h)
changes_length sts (c ∷ cs) [] [] h = refl
changes_length sts (c ∷ cs) [] (y ∷ ys) h = absurd h
changes_length sts (c ∷ cs) (x ∷ xs) [] h = absurd h
changes_length sts (c ∷ cs) (x ∷ xs) (y ∷ ys) h = ap suc (changes_length sts cs xs ys h.1)

changes_at : (sts : List State) (cs : List Change) (xs ys : State) → Changes sts cs xs ys → (i : ℕ) → i < length xs → Changed sts (change_at cs i) (at xs i) (at ys i)
changes_at sts [] xs ys h i l = ap (λ zs. at zs i) h
changes_at sts (c ∷ cs) [] ys h i l = absurd (omega (arith, l))
changes_at sts (c ∷ cs) (x ∷ xs) [] h i l = absurd h
changes_at sts (c ∷ cs) (x ∷ xs) (y ∷ ys) h zero l = h.0
changes_at sts (c ∷ cs) (x ∷ xs) (y ∷ ys) h (suc i) l = changes_at sts cs xs ys h.1 i (omega (arith, l))

same_items : (xs ys : State) → length ys ≡ length xs → ((i : ℕ) → i < length xs → at xs i ≡ at ys i) → xs ≡ ys
same_items [] [] e h = refl
same_items [] (y ∷ ys) e h = absurd (omega (arith, e))
same_items (x ∷ xs) [] e h = absurd (omega (arith, e))
same_items (x ∷ xs) (y ∷ ys) e h =
    let rest = same_items xs ys (omega (arith, e)) (λ i l. h (suc i) (omega (arith, l))) in
    λ k. (h 0 (omega arith) k) ∷ (rest k)

changes_of : (sts : List State) (cs : List Change) (xs ys : State) → length ys ≡ length xs → ((i : ℕ) → i < length xs → Changed sts (change_at cs i) (at xs i) (at ys i)) → Changes sts cs xs ys
changes_of sts [] xs ys e h = same_items xs ys e h
changes_of sts (c ∷ cs) [] [] e h = tt
changes_of sts (c ∷ cs) [] (y ∷ ys) e h = absurd (omega (arith, e))
changes_of sts (c ∷ cs) (x ∷ xs) [] e h = absurd (omega (arith, e))
changes_of sts (c ∷ cs) (x ∷ xs) (y ∷ ys) e h = (h 0 (omega arith), changes_of sts cs xs ys (omega (arith, e)) (λ i l. h (suc i) (omega (arith, l))))

at_over : (xs : State) (i : ℕ) → length xs ≤ i → at xs i ≡ pos 0
at_over [] i l = refl
at_over (x ∷ xs) zero l = absurd (omega (arith, l))
at_over (x ∷ xs) (suc i) l = at_over xs i (omega (arith, l))

-- ---- which change a slot has

module _ (p : Facts) where
  file_value : (f : ℕ → Bool) (x : ℕ) (vs : List Variable) (cs : List Change) (i : ℕ) (v : Variable) → slice_get vs i ≡ Some v
      → change_at (file_list p f x vs ++ cs) (value_slot i) ≡ value_change p (f (x + i)) (kind_of v)
  file_value f x [] cs i v e = absurd (none_some v e)
  file_value f x (u ∷ vs) cs zero v e =
      ap (λ u. value_change p (f x) (kind_of u)) (some_same u v e) ∙ ap (λ n. value_change p (f n) (kind_of v)) (let q : x ≡ x + 0 = omega arith in q)
  file_value f x (u ∷ vs) cs (suc i) v e = file_value f (suc x) vs cs i v e ∙ ap (λ n. value_change p (f n) (kind_of v)) (let q : suc x + i ≡ x + suc i = omega arith in q)

  file_flag : (f : ℕ → Bool) (x : ℕ) (vs : List Variable) (cs : List Change) (i : ℕ) → i < length vs → change_at (file_list p f x vs ++ cs) (flag_slot i) ≡ keeps
  file_flag f x [] cs i l = absurd (omega (arith, l))
  file_flag f x (u ∷ vs) cs zero l = refl
  file_flag f x (u ∷ vs) cs (suc i) l = file_flag f (suc x) vs cs i (omega (arith, l))

  file_behind : (f : ℕ → Bool) (x : ℕ) (vs : List Variable) (cs : List Change) (i : ℕ) → double (length vs) ≤ i
      → change_at (file_list p f x vs ++ cs) i ≡ change_at cs (i - double (length vs))
  file_behind f x [] cs i l = ap (change_at cs) (let e : i ≡ i - 0 = omega arith in e)
  file_behind f x (v ∷ vs) cs zero l = absurd (omega (arith, l))
  file_behind f x (v ∷ vs) cs (suc zero) l = absurd (omega (arith, l))
  file_behind f x (v ∷ vs) cs (suc (suc i)) l =
      file_behind f (suc x) vs cs i (omega (arith, l)) ∙ ap (change_at cs) (let e : i - double (length vs) ≡ suc (suc i) - suc (suc (double (length vs))) = omega arith in e)

  local_value_at : (f : ℕ → Bool) (x : ℕ) (vs : List Variable) (i : ℕ) (v : Variable) → slice_get vs i ≡ Some v
      → change_at (local_list p f x vs) (value_slot i) ≡ value_change p (f (x + i)) (kind_of v)
  local_value_at f x [] i v e = absurd (none_some v e)
  local_value_at f x (u ∷ vs) zero v e =
      ap (λ u. value_change p (f x) (kind_of u)) (some_same u v e) ∙ ap (λ n. value_change p (f n) (kind_of v)) (let q : x ≡ x + 0 = omega arith in q)
  local_value_at f x (u ∷ vs) (suc i) v e = local_value_at f (suc x) vs i v e ∙ ap (λ n. value_change p (f n) (kind_of v)) (let q : suc x + i ≡ x + suc i = omega arith in q)

  local_flag_at : (f : ℕ → Bool) (x : ℕ) (vs : List Variable) (i : ℕ) → i < length vs → change_at (local_list p f x vs) (flag_slot i) ≡ flag_change p (f (x + i))
  local_flag_at f x [] i l = absurd (omega (arith, l))
  local_flag_at f x (u ∷ vs) zero l = ap (λ n. flag_change p (f n)) (let q : x ≡ x + 0 = omega arith in q)
  local_flag_at f x (u ∷ vs) (suc i) l = local_flag_at f (suc x) vs i (omega (arith, l)) ∙ ap (λ n. flag_change p (f n)) (let q : suc x + i ≡ x + suc i = omega arith in q)

  local_behind : (f : ℕ → Bool) (x : ℕ) (vs : List Variable) (j : ℕ) → double (length vs) ≤ j → change_at (local_list p f x vs) j ≡ keeps
  local_behind f x [] j l = refl
  local_behind f x (v ∷ vs) zero l = absurd (omega (arith, l))
  local_behind f x (v ∷ vs) (suc zero) l = absurd (omega (arith, l))
  local_behind f x (v ∷ vs) (suc (suc j)) l = local_behind f (suc x) vs j (omega (arith, l))

  -- ---- what a change is

  -- a flag, which doesn't fall
  pub record Rises (x y : ℤ) : Type 0 where
    pub least : int_le (pos 0) y ≡ true
    pub most : int_le y (pos 1) ≡ true
    pub more : int_le x y ≡ true

  value_changed : (sts : List State) (b : Bool) (k : Kind) (x y : ℤ) → Changed sts (value_change p b k) x y → (b ≡ true → holds p.model k y ≡ true) × (b ≡ false → x ≡ y)
  value_changed sts true k x y h = ((λ e. ap (λ t. t && int_le y (high p.model k)) h.0 ∙ h.1.0), (λ e. absurd (false≢true (sym e))))
  value_changed sts false k x y h = ((λ e. absurd (false≢true e)), (λ e. h))

  changed_value : (sts : List State) (b : Bool) (k : Kind) (x y : ℤ) → (b ≡ true → holds p.model k y ≡ true) → (b ≡ false → x ≡ y) → Changed sts (value_change p b k) x y
  changed_value sts true k x y h g = let both = and_parts (int_le (low p.model k) y) (int_le y (high p.model k)) (h refl) in (both.0, (both.1, tt))
  changed_value sts false k x y h g = g refl

  flag_changed : (sts : List State) (b : Bool) (x y : ℤ) → Changed sts (flag_change p b) x y → (b ≡ true → Rises x y) × (b ≡ false → x ≡ y)
  flag_changed sts true x y h = ((λ e. record { least = h.0; most = h.1; more = h.2 }), (λ e. absurd (false≢true (sym e))))
  flag_changed sts false x y h = ((λ e. absurd (false≢true e)), (λ e. h))

  changed_flag : (sts : List State) (b : Bool) (x y : ℤ) → (b ≡ true → Rises x y) → (b ≡ false → x ≡ y) → Changed sts (flag_change p b) x y
  changed_flag sts true x y h g = let r = h refl in (r.least, r.most, r.more)
  changed_flag sts false x y h g = g refl

  -- ---- all slots

  module _ (s : Shape) (f g : ℕ → Bool) where
    abbrev cs : List Change
    cs = file_list p f 0 p.globals ++ local_list p g 0 s.variables

    abbrev n : ℕ
    n = length p.globals

    abbrev k : ℕ
    k = length s.variables

    -- these variables of the file and these locals change
    pub record Renewed (st after : State) : Type 0 where
      pub size : length after ≡ length st
      pub file : (x : ℕ) (v : Variable) → slice_get p.globals x ≡ Some v → f x ≡ true → holds p.model (kind_of v) (at after (value_slot x)) ≡ true
      pub file_same : (x : ℕ) → x < n → f x ≡ false → at st (value_slot x) ≡ at after (value_slot x)
      pub file_flags : (x : ℕ) → x < n → at st (flag_slot x) ≡ at after (flag_slot x)
      pub own : (x : ℕ) (v : Variable) → slice_get s.variables x ≡ Some v → g x ≡ true → holds p.model (kind_of v) (at after (local_value (sizes p s) x)) ≡ true
      pub flags : (x : ℕ) → x < k → g x ≡ true → Rises (at st (local_flag (sizes p s) x)) (at after (local_flag (sizes p s) x))
      pub own_same : (x : ℕ) → x < k → g x ≡ false → at st (local_value (sizes p s) x) ≡ at after (local_value (sizes p s) x)
      pub flags_same : (x : ℕ) → x < k → g x ≡ false → at st (local_flag (sizes p s) x) ≡ at after (local_flag (sizes p s) x)
      pub behind : (i : ℕ) → double (n + k) ≤ i → at st i ≡ at after i

    of_file : (x : ℕ) (v : Variable) → slice_get p.globals x ≡ Some v → change_at cs (value_slot x) ≡ value_change p (f x) (kind_of v)
    of_file x v e = file_value f 0 p.globals (local_list p g 0 s.variables) x v e ∙ ap (λ n. value_change p (f n) (kind_of v)) (let q : 0 + x ≡ x = omega arith in q)

    of_file_flag : (x : ℕ) → x < n → change_at cs (flag_slot x) ≡ keeps
    of_file_flag x l = file_flag f 0 p.globals (local_list p g 0 s.variables) x l

    later : (i : ℕ) → double n ≤ i → change_at cs i ≡ change_at (local_list p g 0 s.variables) (i - double n)
    later i l = file_behind f 0 p.globals (local_list p g 0 s.variables) i l

    of_own : (x : ℕ) (v : Variable) → slice_get s.variables x ≡ Some v → change_at cs (local_value (sizes p s) x) ≡ value_change p (g x) (kind_of v)
    of_own x v e =
        let a = double_is (n + x) in let b = double_is n in let c = double_is x in
        later (local_value (sizes p s) x) (omega (arith, a, b))
        ∙ ap (change_at (local_list p g 0 s.variables)) (let q : double (n + x) - double n ≡ double x = omega (arith, a, b, c) in q)
        ∙ local_value_at g 0 s.variables x v e ∙ ap (λ n. value_change p (g n) (kind_of v)) (let q : 0 + x ≡ x = omega arith in q)

    of_own_flag : (x : ℕ) → x < k → change_at cs (local_flag (sizes p s) x) ≡ flag_change p (g x)
    of_own_flag x l =
        let a = double_is (n + x) in let b = double_is n in let c = double_is x in
        later (local_flag (sizes p s) x) (omega (arith, a, b))
        ∙ ap (change_at (local_list p g 0 s.variables)) (let q : suc (double (n + x)) - double n ≡ suc (double x) = omega (arith, a, b, c) in q)
        ∙ local_flag_at g 0 s.variables x l ∙ ap (λ n. flag_change p (g n)) (let q : 0 + x ≡ x = omega arith in q)

    of_others : (i : ℕ) → double (n + k) ≤ i → change_at cs i ≡ keeps
    of_others i l =
        let a = double_is (n + k) in let b = double_is n in let c = double_is k in
        later i (omega (arith, a, b, l)) ∙ local_behind g 0 s.variables (i - double n) (omega (arith, a, b, c, l))

    module _ (sts : List State) (st after : State) (big : double (n + k) ≤ length st) where
      file_in : (x : ℕ) → x < n → (value_slot x < length st) × (flag_slot x < length st)
      file_in x l = let a = value_before x (n + k) (omega (arith, l)) in let b = flag_before x (n + k) (omega (arith, l)) in (omega (arith, a, big), omega (arith, b, big))

      own_in : (x : ℕ) → x < k → (local_value (sizes p s) x < length st) × (local_flag (sizes p s) x < length st)
      own_in x l = let a = value_before (n + x) (n + k) (omega (arith, l)) in let b = flag_before (n + x) (n + k) (omega (arith, l)) in (omega (arith, a, big), omega (arith, b, big))

      pub renewed : Changes sts cs st after → Renewed st after
      renewed h = record {
        size = size;
        file = λ x v e on. (file_one x v e).0 on;
        file_same = λ x l off. let v = found p.globals x l in (file_one x v.0 v.1).1 off;
        file_flags = λ x l. subst (λ c. Changed sts c (at st (flag_slot x)) (at after (flag_slot x))) (of_file_flag x l) (changes_at sts cs st after h (flag_slot x) (file_in x l).1);
        own = λ x v e on. (own_one x v e).0 on;
        flags = λ x l on. (flag_one x l).0 on;
        own_same = λ x l off. let v = found s.variables x l in (own_one x v.0 v.1).1 off;
        flags_same = λ x l off. (flag_one x l).1 off;
        behind = behind;
      }
        where
          size : length after ≡ length st
          size = changes_length sts cs st after h

          file_one : (x : ℕ) (v : Variable) → slice_get p.globals x ≡ Some v
              → (f x ≡ true → holds p.model (kind_of v) (at after (value_slot x)) ≡ true) × (f x ≡ false → at st (value_slot x) ≡ at after (value_slot x))
          file_one x v e = value_changed sts (f x) (kind_of v) (at st (value_slot x)) (at after (value_slot x))
              (subst (λ c. Changed sts c (at st (value_slot x)) (at after (value_slot x))) (of_file x v e) (changes_at sts cs st after h (value_slot x) (file_in x (found_below p.globals x v e)).0))

          own_one : (x : ℕ) (v : Variable) → slice_get s.variables x ≡ Some v
              → (g x ≡ true → holds p.model (kind_of v) (at after (local_value (sizes p s) x)) ≡ true)
              × (g x ≡ false → at st (local_value (sizes p s) x) ≡ at after (local_value (sizes p s) x))
          own_one x v e = value_changed sts (g x) (kind_of v) (at st (local_value (sizes p s) x)) (at after (local_value (sizes p s) x))
              (subst (λ c. Changed sts c (at st (local_value (sizes p s) x)) (at after (local_value (sizes p s) x))) (of_own x v e)
              (changes_at sts cs st after h (local_value (sizes p s) x) (own_in x (found_below s.variables x v e)).0))

          flag_one : (x : ℕ) → x < k
              → (g x ≡ true → Rises (at st (local_flag (sizes p s) x)) (at after (local_flag (sizes p s) x))) × (g x ≡ false → at st (local_flag (sizes p s) x) ≡ at after (local_flag (sizes p s) x))
          flag_one x l = flag_changed sts (g x) (at st (local_flag (sizes p s) x)) (at after (local_flag (sizes p s) x))
              (subst (λ c. Changed sts c (at st (local_flag (sizes p s) x)) (at after (local_flag (sizes p s) x))) (of_own_flag x l)
              (changes_at sts cs st after h (local_flag (sizes p s) x) (own_in x l).1))

          behind : (i : ℕ) → double (n + k) ≤ i → at st i ≡ at after i
          behind i l = on_bool (nat_lt i (length st))
              (λ t. subst (λ c. Changed sts c (at st i) (at after i)) (of_others i l) (changes_at sts cs st after h i (ltb-true i (length st) t)))
              (λ t. let b = ltb-false i (length st) t in let e = size in at_over st i b ∙ sym (at_over after i (omega (arith, b, e))))

      pub renews : Renewed st after → Changes sts cs st after
      renews r = changes_of sts cs st after r.size (λ i l. by i (half i)) where
        Slot : ℕ → Type 0
        Slot i = Changed sts (change_at cs i) (at st i) (at after i)

        other : (i : ℕ) → double (n + k) ≤ i → Slot i
        other i l = subst (λ c. Changed sts c (at st i) (at after i)) (sym (of_others i l)) (r.behind i l)

        file : (x : ℕ) → x < n → Slot (value_slot x) × Slot (flag_slot x)
        file x l =
            let v = found p.globals x l in (
              subst (λ c. Changed sts c (at st (value_slot x)) (at after (value_slot x))) (sym (of_file x v.0 v.1))
                  (changed_value sts (f x) (kind_of v.0) (at st (value_slot x)) (at after (value_slot x)) (r.file x v.0 v.1) (r.file_same x l)),
              subst (λ c. Changed sts c (at st (flag_slot x)) (at after (flag_slot x))) (sym (of_file_flag x l)) (r.file_flags x l),
            )

        own : (x : ℕ) → x < k → Slot (local_value (sizes p s) x) × Slot (local_flag (sizes p s) x)
        own x l =
            let v = found s.variables x l in (
              subst (λ c. Changed sts c (at st (local_value (sizes p s) x)) (at after (local_value (sizes p s) x))) (sym (of_own x v.0 v.1))
                  (changed_value sts (g x) (kind_of v.0) (at st (local_value (sizes p s) x)) (at after (local_value (sizes p s) x)) (r.own x v.0 v.1) (r.own_same x l)),
              subst (λ c. Changed sts c (at st (local_flag (sizes p s) x)) (at after (local_flag (sizes p s) x))) (sym (of_own_flag x l))
                  (changed_flag sts (g x) (at st (local_flag (sizes p s) x)) (at after (local_flag (sizes p s) x)) (r.flags x l) (r.flags_same x l)),
            )

        pair : (x : ℕ) → Slot (value_slot x) × Slot (flag_slot x)
        pair x = on_bool (nat_lt x n) (λ t. file x (ltb-true x n t))
            (λ t. let b = ltb-false x n t in
            on_bool (nat_lt (x - n) k)
            (λ u. subst (λ y. Slot (value_slot y) × Slot (flag_slot y)) (let e : n + (x - n) ≡ x = omega (arith, b) in e) (own (x - n) (ltb-true (x - n) k u)))
            (λ u. let d = ltb-false (x - n) k u in let a = double_is (n + k) in let c = double_is x in (other (value_slot x) (omega (arith, a, b, c, d)), other (flag_slot x) (omega (arith, a, b, c, d)))))

        by : (i : ℕ) → Half i → Slot i
        by i (of_value x e) = subst Slot (sym e) (pair x).0
        by i (of_flag x e) = subst Slot (sym e) (pair x).1
