-- Each check of the table with operands for which it isn't met.
use Rattle.std.proofs.Common.{◌≡◌, ℕ, zero, suc, ◌+◌, ◌<◌, ◌==◌, Bool, true, false, not, ◌&&◌, ◌||◌, List, [], ◌∷◌, ◌++◌, length, refl, sym, ap, ◌∙◌, subst, arith, ℤ, pos, negsuc, neg_ℤ, ◌+ℤ◌, ◌-ℤ◌, ◌*ℤ◌, Option, Some, None}
use Rattle.std.specs.Prelude.{if◌then◌else◌, nat_lt, slice_get}
use Rattle.std.specs.List.{list_all}
use Rattle.std.proofs.lemmas.Bool.{and_parts}
use Rattle.std.proofs.lemmas.Bool.Decides.{Decides-eqb, nat_tests}
use Rattle.wp_base.specs.declared.kinds.Kind.{Kind}
use Rattle.wp_base.specs.declared.kinds.CellKind.{CellKind}
use Rattle.wp_base.specs.Kinds.{is_signed}
use Rattle.wp_base.specs.Blocks.{block_at, is_live, is_cell}
use Rattle.c_kinds.specs.declared.models.Machdep.TheVariants as model
use Rattle.c_kinds.specs.Models.{low}
use Rattle.c_kinds.proofs.Ranking.{every_kind, for_each, where_signed}
use Rattle.typed_prog.specs.declared.types.CoreType.{CoreType}
use Rattle.typed_prog.specs.declared.operators.Op.TheVariants as op
use Rattle.typed_prog.specs.declared.operators.Path.{Path}
use Rattle.typed_prog.specs.declared.operators.Step.{Step}
use Rattle.typed_prog.specs.declared.operators.Step.TheVariants as step
use Rattle.typed_prog.specs.Tree as t
use Rattle.qed_terms.specs.Operators.{is_equal}
use Rattle.c_runs.specs.Told.{Value, number, number_of, block_of, offset_of, value_at}
use Rattle.c_runs.specs.Program.{Facts, Variable}
use Rattle.c_runs.specs.States.{World, no_locals}
use Rattle.c_runs.specs.Operators.{Undefined, init, access, index, fits, may_point, may_compare}
use Rattle.c_runs.specs.Objects.{plain_root, has_value, is_pointed, cell_of, address, is_index}
use Rattle.c_runs.specs.Values.{Temps}
use Rattle.c_runs.specs.Checks.{Check, here, one_if, read_checks_by, index_checks}
use Rattle.c_runs.specs.Tests.{totals, step_test, read_test_by, op_test, is_met}
use Rattle.c_runs.specs.Failing.{temporaries_from, temporaries, is_index_of, are_apart, CanFail, EachOf}

-- ---- a state without blocks, and temporaries

abbrev pub some_facts : Facts
some_facts = record { model = model.X86_64; globals = []; structs = []; definitions = []; in_cluster = λ f g. false }

abbrev pub no_blocks : World
no_blocks = record { turns = 0; contents = []; memory = record { blocks = []; cells = λ b o. number (pos 0) }; locals = no_locals }

abbrev pub holding : (a b : ℤ) → Temps
holding a b zero = number a
holding a b (suc n) = number b

none_live : (b : ℤ) → is_live [] b ≡ false
unfolding block_at
none_live (pos zero) = refl
none_live (pos (suc n)) = refl
none_live (negsuc n) = refl

front_false : (a b c : Bool) → a ≡ false → ((a && b) && c) ≡ false
front_false true b c e = absurd cc
front_false false b c e = refl

pub none_pointed : (v : Value) → may_point [] v ≡ false
none_pointed v = front_false (is_live [] (block_of v)) _ _ (none_live (block_of v))

second_false : (x y : Bool) → y ≡ false → (x && y) ≡ false
second_false true y e = e
second_false false y e = refl

pub none_compared : (v w : Value) → may_compare [] v w ≡ false
none_compared v w = second_false (is_equal (block_of v) (block_of w)) _ (ap (λ b. b && may_point [] w) (none_pointed v))

-- ---- lists of checks

pub each_if : (xs : List Variable) (e : t.Value) (before : List Check) (b : Bool) (u : Undefined) (l : ℕ)
    → (b ≡ true → CanFail xs e before (here u l)) → EachOf xs e before (one_if b u l)
each_if xs e before true u l h = (h refl, tt)
each_if xs e before false u l h = tt

-- one that isn't there
pub none_before : (xs : List Variable) (e : t.Value) (b : Bool) (u : Undefined) (l : ℕ) (cs : List Check)
    → b ≡ false → EachOf xs e [] cs → EachOf xs e [] (one_if b u l ++ cs)
none_before xs e true u l cs h rest = absurd cc
none_before xs e false u l cs h rest = rest

-- ---- integers

-- the least number, less than which a signed kind has none
abbrev pub least : Kind → ℤ
least k = low model.X86_64 k

abbrev overflows : Kind → Bool
overflows k =
    not (is_signed k)
    || (((not (fits model.X86_64 k (least k *ℤ negsuc 0)) && not (fits model.X86_64 k (least k +ℤ negsuc 0)))
    && (not (fits model.X86_64 k (least k -ℤ pos 1)) && not (fits model.X86_64 k (neg_ℤ (least k))))) && is_equal (least k) (least k))

all_overflow : list_all overflows every_kind ≡ true
unfolding every_kind
all_overflow = refl

not_false : (b : Bool) → not b ≡ true → b ≡ false
not_false true e = absurd cc
not_false false e = refl

pub record Overflows (k : Kind) : Type 0 where
  pub product : fits model.X86_64 k (least k *ℤ negsuc 0) ≡ false
  pub sum : fits model.X86_64 k (least k +ℤ negsuc 0) ≡ false
  pub difference : fits model.X86_64 k (least k -ℤ pos 1) ≡ false
  pub opposite : fits model.X86_64 k (neg_ℤ (least k)) ≡ false
  pub itself : is_equal (least k) (least k) ≡ true

pub overflowing : (k : Kind) → is_signed k ≡ true → Overflows k
overflowing k s =
    let all = and_parts _ _ (where_signed (is_signed k) _ (for_each overflows all_overflow k) s) in
    let four = and_parts _ _ all.0 in
    let one = and_parts _ _ four.0 in
    let two = and_parts _ _ four.1 in
    record { product = not_false _ one.0; sum = not_false _ one.1; difference = not_false _ two.0; opposite = not_false _ two.1; itself = all.1 }

-- ---- reading, by a way

-- the operand with this number is -1, and the others are 0
abbrev wrong_at : (operand : ℕ) → Temps
wrong_at i n = if i == n then number (negsuc 0) else number (pos 0)

abbrev pub all_zero : Temps
all_zero n = number (pos 0)

-- an operand is what its temporary holds
operand_in : (xs : List Variable) (at : CoreType) (tm : Temps) (k n i : ℕ) → i < n
    → value_at (totals some_facts xs tm no_blocks (temporaries_from at k n)) i ≡ tm (k + i)
operand_in xs at tm k zero i h = absurd (omega arith)
operand_in xs at tm k (suc n) zero h = ap tm (omega arith)
operand_in xs at tm k (suc n) (suc i) h = operand_in xs at tm (suc k) n i (omega arith) ∙ ap tm (omega arith)

-- where there is none it is 0
operand_is : (P : Value → Type 0) → P (number (pos 0)) → (xs : List Variable) (at : CoreType) (tm : Temps) (k n i : ℕ)
    → ((j : ℕ) → j ≡ k + i → P (tm j)) → P (value_at (totals some_facts xs tm no_blocks (temporaries_from at k n)) i)
operand_is P nought xs at tm k zero i h = nought
operand_is P nought xs at tm k (suc n) zero h = h k (omega arith)
operand_is P nought xs at tm k (suc n) (suc i) h = operand_is P nought xs at tm (suc k) n i (λ j e. h j (omega arith))

less_of : (m n : ℕ) → nat_lt m n ≡ true → m < n
less_of m n h = grind (arith, nat_tests)

never_true : (b : Bool) → (b ≡ true → ⊥) → b ≡ false
never_true true h = absurd (h refl)
never_true false h = refl

same_number : (i j : ℕ) → i ≡ j → (i == j) ≡ true
same_number i j e = (Decides-eqb i j).1 e

other_number : (i j : ℕ) → (i ≡ j → ⊥) → (i == j) ≡ false
other_number i j h = never_true (i == j) (λ e. h ((Decides-eqb i j).0 e))

first_true : (a b : Bool) → a ≡ true → (a || b) ≡ true
first_true true b e = refl
first_true false b e = absurd cc

both_true : (a b : Bool) → a ≡ true → b ≡ true → (a && b) ≡ true
both_true true b e h = h
both_true false b e h = absurd cc

second_or : (a b : Bool) → b ≡ true → (a || b) ≡ true
second_or true b e = refl
second_or false b e = e

-- the first index of an array that has elements
starts : (c : ℕ) (z : ℤ) → nat_lt 0 c ≡ true → z ≡ pos 0 → is_index c z ≡ true
starts c z h e = rw e h

none_cell : (k : CellKind) (b o : ℤ) → is_cell k [] b o ≡ false
unfolding block_at
none_cell k (pos zero) (pos n) = refl
none_cell k (pos zero) (negsuc n) = refl
none_cell k (pos (suc b)) (pos n) = refl
none_cell k (pos (suc b)) (negsuc n) = refl
none_cell k (negsuc b) (pos n) = refl
none_cell k (negsuc b) (negsuc n) = refl

where_pointed : (b c : Bool) → b ≡ true → c ≡ false → (if b then c else true) ≡ false
where_pointed true c e h = h
where_pointed false c e h = absurd cc

-- ---- lists of steps

-- each step passes its check
abbrev pass : List Value → List Step → Bool
pass vs ss = list_all (λ s. step_test vs (Some s)) ss

at_length : {X : Type 0} (a : List X) (s : X) (b : List X) → slice_get (a ++ s ∷ b) (length a) ≡ Some s
at_length [] s b = refl
at_length (x ∷ a) s b = at_length a s b

length_push : (a : List Step) (s : Step) → length (a ++ s ∷ []) ≡ suc (length a)
length_push [] s = refl
length_push (x ∷ a) s = ap suc (length_push a s)

push_assoc : (a : List Step) (s : Step) (b : List Step) → (a ++ s ∷ b) ≡ ((a ++ s ∷ []) ++ b)
push_assoc [] s b = refl
push_assoc (x ∷ a) s b = ap (λ q. x ∷ q) (push_assoc a s b)

none_behind : {X : Type 0} (a : List X) → (a ++ []) ≡ a
none_behind [] = refl
none_behind (x ∷ a) = ap (λ q. x ∷ q) (none_behind a)

all_push : (f : Step → Bool) (a : List Step) (s : Step) → list_all f a ≡ true → f s ≡ true → list_all f (a ++ s ∷ []) ≡ true
all_push f [] s h g = both_true (f s) true g refl
all_push f (x ∷ a) s h g = let parts = and_parts (f x) (list_all f a) h in both_true (f x) _ parts.0 (all_push f a s parts.1 g)

abbrev at_step : Undefined → (line n : ℕ) → Check
at_step u l n = record { kind = u; line = l; step = n; way = [] }

index_push : (k : ℕ) (a : List Step) (s : Step) → index_checks k (a ++ s ∷ []) ≡ (index_checks k a ++ index_checks (k + length a) (s ∷ []))
index_push k [] s = ap (λ n. index_checks n (s ∷ [])) (omega arith)
index_push k (step.Element i size c line ∷ a) s =
    ap (λ q. at_step index line k ∷ q) (index_push (suc k) a s ∙ ap (λ n. index_checks (suc k) a ++ index_checks n (s ∷ [])) (omega arith))
index_push k (step.Field i offset ∷ a) s = index_push (suc k) a s ∙ ap (λ n. index_checks (suc k) a ++ index_checks n (s ∷ [])) (omega arith)
index_push k (step.Moved i size ∷ a) s = index_push (suc k) a s ∙ ap (λ n. index_checks (suc k) a ++ index_checks n (s ∷ [])) (omega arith)

-- ---- a way that begins at no plain local

module _ (xs : List Variable) (type at : CoreType) (l n : ℕ) (path : Path) (none : plain_root xs path.root ≡ None) where
  abbrev reading : t.Value
  reading = t.typed (t.apply (op.Read path) (temporaries at n)) type l

  abbrev values_by : Temps → List Value
  values_by tm = totals some_facts xs tm no_blocks (temporaries at n)

  abbrev test : Temps → Check → Bool
  test tm = is_met some_facts xs tm no_blocks reading

  test_index : (tm : Temps) (line k : ℕ) → test tm (at_step index line k) ≡ step_test (values_by tm) (slice_get path.steps k)
  unfolding op_test
  test_index tm line k = ap (λ r. read_test_by r some_facts xs no_blocks type path index k (values_by tm)) none

  test_here : (tm : Temps) (line : ℕ) (pre : List Step) (s : Step) (ss : List Step) → path.steps ≡ (pre ++ s ∷ ss)
      → test tm (at_step index line (length pre)) ≡ step_test (values_by tm) (Some s)
  test_here tm line pre s ss e =
      test_index tm line (length pre)
      ∙ ap (λ q. step_test (values_by tm) (slice_get q (length pre))) e
      ∙ ap (step_test (values_by tm)) (at_length pre s ss)

  met_steps : (tm : Temps) (pre ss post : List Step) → path.steps ≡ (pre ++ (ss ++ post)) → pass (values_by tm) ss ≡ true
      → list_all (test tm) (index_checks (length pre) ss) ≡ true
  met_steps tm pre [] post e h = refl
  met_steps tm pre (step.Element i size c line ∷ ss) post e h =
      let s = step.Element i size c line in
      let parts = and_parts (step_test (values_by tm) (Some s)) (pass (values_by tm) ss) h in
      both_true _ _ (test_here tm line pre s (ss ++ post) e ∙ parts.0)
      (subst (λ k. list_all (test tm) (index_checks k ss) ≡ true) (length_push pre s)
      (met_steps tm (pre ++ s ∷ []) ss post (e ∙ push_assoc pre s (ss ++ post)) parts.1))
  met_steps tm pre (step.Field i offset ∷ ss) post e h =
      let s = step.Field i offset in
      subst (λ k. list_all (test tm) (index_checks k ss) ≡ true) (length_push pre s)
      (met_steps tm (pre ++ s ∷ []) ss post (e ∙ push_assoc pre s (ss ++ post)) h)
  met_steps tm pre (step.Moved i size ∷ ss) post e h =
      let s = step.Moved i size in
      subst (λ k. list_all (test tm) (index_checks k ss) ≡ true) (length_push pre s)
      (met_steps tm (pre ++ s ∷ []) ss post (e ∙ push_assoc pre s (ss ++ post)) h)

  -- another operand than the wrong one is a good index
  other_passes : (j i size c line : ℕ) → (j ≡ i → ⊥) → nat_lt 0 c ≡ true → step_test (values_by (wrong_at j)) (Some (step.Element i size c line)) ≡ true
  other_passes j i size c line other some =
      operand_is (λ v. is_index c (number_of v) ≡ true) (starts c (pos 0) some refl) xs at (wrong_at j) 0 n i
      (λ m e. let e' : m ≡ i = omega arith in
      ap (λ b. is_index c (number_of (if b then number (negsuc 0) else number (pos 0)))) (other_number j m (λ q. other (q ∙ e'))) ∙ starts c (pos 0) some refl)

  wrong_fails : (i size c line : ℕ) → i < n → step_test (values_by (wrong_at i)) (Some (step.Element i size c line)) ≡ false
  wrong_fails i size c line h =
      ap (λ v. is_index c (number_of v)) (operand_in xs at (wrong_at i) 0 n i h)
      ∙ ap (λ b. is_index c (number_of (if b then number (negsuc 0) else number (pos 0)))) (same_number i (0 + i) (omega arith))

  zero_passes : (ss : List Step) → are_apart n ss ≡ true → pass (values_by all_zero) ss ≡ true
  zero_passes [] h = refl
  zero_passes (step.Element i size c line ∷ ss) h =
      let parts = and_parts (nat_lt i n && nat_lt 0 c) (not (is_index_of i ss) && are_apart n ss) h in
      let some = (and_parts (nat_lt i n) (nat_lt 0 c) parts.0).1 in
      both_true _ _
      (operand_is (λ v. is_index c (number_of v) ≡ true) (starts c (pos 0) some refl) xs at all_zero 0 n i (λ m e. starts c (pos 0) some refl))
      (zero_passes ss (and_parts (not (is_index_of i ss)) (are_apart n ss) parts.1).1)
  zero_passes (step.Field i offset ∷ ss) h = zero_passes ss h
  zero_passes (step.Moved i size ∷ ss) h = zero_passes ss h

  -- what has been passed, and what is to come
  abbrev Passed : List Step → List Step → Type 0
  Passed pre ss = (j : ℕ) → is_index_of j ss ≡ true → pass (values_by (wrong_at j)) pre ≡ true

  walk : (pre ss : List Step) → path.steps ≡ (pre ++ ss) → are_apart n ss ≡ true → Passed pre ss → (tail : List Check)
      → EachOf xs reading (index_checks 0 path.steps) tail → EachOf xs reading (index_checks 0 pre) (index_checks (length pre) ss ++ tail)
  walk pre [] e h ok tail done = subst (λ q. EachOf xs reading (index_checks 0 q) tail) (e ∙ none_behind pre) done
  walk pre (step.Element i size c line ∷ ss) e h ok tail done =
      let s = step.Element i size c line in
      let parts = and_parts (nat_lt i n && nat_lt 0 c) (not (is_index_of i ss) && are_apart n ss) h in
      let sizes = and_parts (nat_lt i n) (nat_lt 0 c) parts.0 in
      let apart = and_parts (not (is_index_of i ss)) (are_apart n ss) parts.1 in
      let fails : CanFail xs reading (index_checks 0 pre) (at_step index line (length pre)) =
      record {
        facts = some_facts;
        temps = wrong_at i;
        world = no_blocks;
        met = met_steps (wrong_at i) [] pre (s ∷ ss) e (ok i (first_true (i == i) _ (same_number i i refl)));
        unmet = test_here (wrong_at i) line pre s ss e ∙ wrong_fails i size c line (less_of i n sizes.0);
      } in
      let next : Passed (pre ++ s ∷ []) ss = λ j is. all_push (λ s. step_test (values_by (wrong_at j)) (Some s)) pre s (ok j (second_or (j == i) _ is))
      (other_passes j i size c line (λ q. let there : is_index_of i ss ≡ true = ap (λ k. is_index_of k ss) (sym q) ∙ is in
      let nowhere = not_false (is_index_of i ss) apart.0 in absurd cc) sizes.1) in
      let front : index_checks 0 (pre ++ s ∷ []) ≡ (index_checks 0 pre ++ at_step index line (length pre) ∷ []) =
      index_push 0 pre s ∙ ap (λ k. index_checks 0 pre ++ at_step index line k ∷ []) (omega arith) in
      let rest : EachOf xs reading (index_checks 0 (pre ++ s ∷ [])) (index_checks (length (pre ++ s ∷ [])) ss ++ tail) =
      walk (pre ++ s ∷ []) ss (e ∙ push_assoc pre s ss) apart.1 next tail done in
      let there : EachOf xs reading (index_checks 0 pre ++ at_step index line (length pre) ∷ []) (index_checks (length (pre ++ s ∷ [])) ss ++ tail) =
      subst (λ b. EachOf xs reading b (index_checks (length (pre ++ s ∷ [])) ss ++ tail)) front rest in
      (fails, subst (λ k. EachOf xs reading (index_checks 0 pre ++ at_step index line (length pre) ∷ []) (index_checks k ss ++ tail)) (length_push pre s) there)
  walk pre (step.Field i offset ∷ ss) e h ok tail done =
      let s = step.Field i offset in
      let next : Passed (pre ++ s ∷ []) ss = λ j is. all_push (λ s. step_test (values_by (wrong_at j)) (Some s)) pre s (ok j is) refl in
      let rest : EachOf xs reading (index_checks 0 (pre ++ s ∷ [])) (index_checks (length (pre ++ s ∷ [])) ss ++ tail) =
      walk (pre ++ s ∷ []) ss (e ∙ push_assoc pre s ss) h next tail done in
      let there : EachOf xs reading (index_checks 0 pre) (index_checks (length (pre ++ s ∷ [])) ss ++ tail) =
      subst (λ b. EachOf xs reading b (index_checks (length (pre ++ s ∷ [])) ss ++ tail)) (index_push 0 pre s ∙ none_behind (index_checks 0 pre)) rest in
      subst (λ k. EachOf xs reading (index_checks 0 pre) (index_checks k ss ++ tail)) (length_push pre s) there
  walk pre (step.Moved i size ∷ ss) e h ok tail done =
      let s = step.Moved i size in
      let next : Passed (pre ++ s ∷ []) ss = λ j is. all_push (λ s. step_test (values_by (wrong_at j)) (Some s)) pre s (ok j is) refl in
      let rest : EachOf xs reading (index_checks 0 (pre ++ s ∷ [])) (index_checks (length (pre ++ s ∷ [])) ss ++ tail) =
      walk (pre ++ s ∷ []) ss (e ∙ push_assoc pre s ss) h next tail done in
      let there : EachOf xs reading (index_checks 0 pre) (index_checks (length (pre ++ s ∷ [])) ss ++ tail) =
      subst (λ b. EachOf xs reading b (index_checks (length (pre ++ s ∷ [])) ss ++ tail)) (index_push 0 pre s ∙ none_behind (index_checks 0 pre)) rest in
      subst (λ k. EachOf xs reading (index_checks 0 pre) (index_checks k ss ++ tail)) (length_push pre s) there

  access_fails : are_apart n path.steps ≡ true → is_pointed path.root ≡ true → CanFail xs reading (index_checks 0 path.steps) (here access path.line)
  unfolding op_test
  access_fails h is = record {
    facts = some_facts;
    temps = all_zero;
    world = no_blocks;
    met = met_steps all_zero [] path.steps [] (sym (none_behind path.steps)) (zero_passes path.steps h);
    unmet =
        ap (λ r. read_test_by r some_facts xs no_blocks type path access 0 (values_by all_zero)) none
        ∙ where_pointed (is_pointed path.root) _ is
        (none_cell (cell_of type) (block_of (address some_facts no_blocks path (values_by all_zero))) (offset_of (address some_facts no_blocks path (values_by all_zero))));
  }

  way_each : are_apart n path.steps ≡ true → EachOf xs reading [] (index_checks 0 path.steps ++ one_if (is_pointed path.root) access path.line)
  way_each h =
      walk [] path.steps refl h (λ j is. refl) (one_if (is_pointed path.root) access path.line)
      (each_if xs reading (index_checks 0 path.steps) (is_pointed path.root) access path.line (access_fails h))

-- ---- operators

unset_by : (b : Bool) → not b ≡ true → (b || false) ≡ false
unset_by true e = absurd cc
unset_by false e = refl

init_fails : (xs : List Variable) (type at : CoreType) (l n : ℕ) (path : Path) (x : ℕ) → plain_root xs path.root ≡ Some x → not (has_value xs x) ≡ true
    → CanFail xs (t.typed (t.apply (op.Read path) (temporaries at n)) type l) [] (here init path.line)
unfolding op_test
init_fails xs type at l n path x e h = record {
  facts = some_facts;
  temps = all_zero;
  world = no_blocks;
  met = refl;
  unmet =
      ap (λ r. read_test_by r some_facts xs no_blocks type path init 0 (totals some_facts xs all_zero no_blocks (temporaries at n))) e
      ∙ unset_by (has_value xs x) h;
}

pub read_each : (xs : List Variable) (type at : CoreType) (l n : ℕ) (path : Path) → are_apart n path.steps ≡ true
    → (r : Option ℕ) → plain_root xs path.root ≡ r → EachOf xs (t.typed (t.apply (op.Read path) (temporaries at n)) type l) [] (read_checks_by r xs path)
read_each xs type at l n path h (Some x) e =
    each_if xs (t.typed (t.apply (op.Read path) (temporaries at n)) type l) [] (not (has_value xs x)) init path.line (init_fails xs type at l n path x e)
read_each xs type at l n path h None e = way_each xs type at l n path e h
