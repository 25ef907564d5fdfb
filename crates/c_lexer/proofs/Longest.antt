-- The longest front that passes a test, and runs of bytes.
use Rattle.std.proofs.Common.{◌≡◌, ℕ, zero, suc, ◌+◌, ◌<◌, ◌≤◌, leb, eqb, Bool, true, false, cond, ◌&&◌, List, [], ◌∷◌, length, take, refl, sym, ◌∙◌, subst, ⊎_elim, arith}
use Rattle.std.specs.List.{list_all, prefix_len}
use Rattle.std.proofs.lemmas.Bool.{cases_lt, cases_Bool, false≢true}
use Rattle.std.proofs.lemmas.Bool.Decides.{nat_tests, Decides-eqb}
use Rattle.std.proofs.lemmas.List.Sums.{prefix_len-le-length}
use Rattle.c_lexer.specs.Lexemes.{longest}

-- the greatest length that passes, of those up to a bound; 0 where none does
pub record Greatest (test : List ℕ → Bool) (bytes : List ℕ) (bound n : ℕ) : Type 0 where
  pub within : n ≤ bound
  pub passes : 0 < n → test (take n bytes) ≡ true
  pub no_longer : (k : ℕ) → n < k → k ≤ bound → test (take k bytes) ≡ false

pub longest_greatest : (test : List ℕ → Bool) (bytes : List ℕ) (bound : ℕ) → Greatest test bytes bound (longest test bytes bound)
longest_greatest test bytes zero = record { within = omega arith; passes = λ lt. absurd (omega arith); no_longer = λ k lt le. absurd (omega arith) }
longest_greatest test bytes (suc bound) =
    let below = longest_greatest test bytes bound in
    elim (test (take (suc bound) bytes)) as (λ b. test (take (suc bound) bytes) ≡ b → Greatest test bytes (suc bound) (cond b (suc bound) (longest test bytes bound))) [
      | true ↦ (λ pass. record { within = omega arith; passes = λ lt. pass; no_longer = λ k lt le. absurd (omega arith) })
      | false ↦ (λ fail. record {
        within = omega (arith, below.within);
        passes = below.passes;
        no_longer = λ k lt le.
            ⊎_elim (λ less. below.no_longer k lt (omega arith)) (λ more. let top : suc bound ≡ k = omega arith in subst (λ k. test (take k bytes) ≡ false) top fail) (cases_lt k (suc bound));
      })
    ]
    refl

greatest_alike : (test : List ℕ → Bool) (bytes : List ℕ) (bound m n : ℕ) → Greatest test bytes bound m → Greatest test bytes bound n → m ≡ n
greatest_alike test bytes bound m n a b =
    ⊎_elim
    (λ less. absurd (false≢true (sym (a.no_longer n less b.within) ∙ b.passes (omega arith))))
    (λ rest.
    ⊎_elim
    (λ more. absurd (false≢true (sym (b.no_longer m more a.within) ∙ a.passes (omega arith))))
    (λ same. omega arith)
    (cases_lt n m))
    (cases_lt m n)

pub longest_is : (test : List ℕ → Bool) (bytes : List ℕ) (n : ℕ) → Greatest test bytes (length bytes) n → longest test bytes (length bytes) ≡ n
longest_is test bytes n g = greatest_alike test bytes (length bytes) _ n (longest_greatest test bytes (length bytes)) g

-- no front passes
pub longest_none : (test : List ℕ → Bool) (bytes : List ℕ) → ((k : ℕ) → k ≤ length bytes → test (take k bytes) ≡ false) → longest test bytes (length bytes) ≡ 0
longest_none test bytes h = longest_is test bytes 0 (record { within = omega arith; passes = λ lt. absurd (omega arith); no_longer = λ k lt le. h k le })

-- one length alone passes
pub longest_only : (test : List ℕ → Bool) (bytes : List ℕ) (n : ℕ) → n ≤ length bytes → ((k : ℕ) → k ≤ length bytes → test (take k bytes) ≡ eqb k n) → longest test bytes (length bytes) ≡ n
longest_only test bytes n le h =
    longest_is test bytes n (record { within = le; passes = λ lt. h n le ∙ (Decides-eqb n n).1 refl; no_longer = λ k lt in_text. let other : eqb k n ≡ false = grind (arith, nat_tests) in h k in_text ∙ other })

-- ---- runs

run_more : (k n : ℕ) → leb (suc k) (1 + n) ≡ leb k n
run_more k n = grind (arith, nat_tests)

-- the fronts that pass throughout are those no longer than the run
pub front_of_run : (test : ℕ → Bool) (xs : List ℕ) (k : ℕ) → k ≤ length xs → list_all test (take k xs) ≡ leb k (prefix_len test xs)
front_of_run test xs zero le = let least : leb 0 (prefix_len test xs) ≡ true = grind (arith, nat_tests) in sym least
front_of_run test [] (suc k) le = absurd (omega arith)
front_of_run test (x ∷ xs) (suc k) le =
    let further = front_of_run test xs k (omega arith) in
    let never : leb (suc k) 0 ≡ false = grind (arith, nat_tests) in
    elim (test x) as (λ b. (b && list_all test (take k xs)) ≡ leb (suc k) (cond b (1 + prefix_len test xs) 0))
    [ true ↦ further ∙ sym (run_more k (prefix_len test xs)) | false ↦ sym never ]

pub run_all : (test : ℕ → Bool) (xs : List ℕ) → list_all test (take (prefix_len test xs) xs) ≡ true
run_all test xs =
    let all : leb (prefix_len test xs) (prefix_len test xs) ≡ true = grind (arith, nat_tests) in
    front_of_run test xs (prefix_len test xs) (prefix_len-le-length test xs) ∙ all

pub past_run : (test : ℕ → Bool) (xs : List ℕ) (k : ℕ) → prefix_len test xs < k → k ≤ length xs → list_all test (take k xs) ≡ false
past_run test xs k lt le = let past : leb k (prefix_len test xs) ≡ false = grind (arith, nat_tests) in front_of_run test xs k le ∙ past

-- a front that passes throughout lies in the run
pub in_run : (test : ℕ → Bool) (xs : List ℕ) (k : ℕ) → k ≤ length xs → list_all test (take k xs) ≡ true → k ≤ prefix_len test xs
in_run test xs k le h = let passes : leb k (prefix_len test xs) ≡ true = sym (front_of_run test xs k le) ∙ h in grind (arith, nat_tests)

pub all_also : (test other : ℕ → Bool) → ((b : ℕ) → test b ≡ true → other b ≡ true) → (xs : List ℕ) → list_all test xs ≡ true → list_all other xs ≡ true
all_also test other also [] h = refl
all_also test other also (x ∷ xs) h =
    ⊎_elim
    (λ t. rw (also x t) (all_also test other also xs (rw t at h)))
    (λ f. let never : false ≡ true = rw f at h in absurd (false≢true never))
    (cases_Bool (test x))

-- a run within a front
pub run_in_front : (test : ℕ → Bool) (xs : List ℕ) (k : ℕ) → k ≤ prefix_len test xs → prefix_len test (take k xs) ≡ k
run_in_front test xs zero le = refl
run_in_front test [] (suc k) le = absurd (omega arith)
run_in_front test (x ∷ xs) (suc k) le =
    elim (test x) as (λ b. suc k ≤ cond b (1 + prefix_len test xs) 0 → cond b (1 + prefix_len test (take k xs)) 0 ≡ suc k)
    [ true ↦ (λ le. let inner = run_in_front test xs k (omega (arith, le)) in omega (arith, inner)) | false ↦ (λ le. absurd (omega (arith, le))) ]
    le

pub run_past_front : (test : ℕ → Bool) (xs : List ℕ) (k : ℕ) → prefix_len test xs ≤ k → prefix_len test (take k xs) ≡ prefix_len test xs
run_past_front test [] zero le = refl
run_past_front test [] (suc k) le = refl
run_past_front test (x ∷ xs) zero le =
    elim (test x) as (λ b. cond b (1 + prefix_len test xs) 0 ≤ 0 → 0 ≡ cond b (1 + prefix_len test xs) 0)
    [ true ↦ (λ le. absurd (omega (arith, le))) | false ↦ (λ le. refl) ]
    le
run_past_front test (x ∷ xs) (suc k) le =
    elim (test x) as (λ b. cond b (1 + prefix_len test xs) 0 ≤ suc k → cond b (1 + prefix_len test (take k xs)) 0 ≡ cond b (1 + prefix_len test xs) 0)
    [ true ↦ (λ le. let inner = run_past_front test xs k (omega (arith, le)) in omega (arith, inner)) | false ↦ (λ le. refl) ]
    le

-- what begins with a byte and goes on with a run is that byte and the whole run
pub run_greatest : (test : List ℕ → Bool) (run : ℕ → Bool) (b : ℕ) (bs : List ℕ) → ((k : ℕ) → k ≤ length bs → test (b ∷ take k bs) ≡ list_all run (take k bs)) → Greatest test (b ∷ bs) (length (b ∷ bs)) (suc (prefix_len run bs))
run_greatest test run b bs h =
    let within = prefix_len-le-length run bs in
    record { within = omega (arith, within); passes = λ lt. h (prefix_len run bs) within ∙ run_all run bs; no_longer = λ k lt le. longer k lt le }
  where
    longer : (k : ℕ) → suc (prefix_len run bs) < k → k ≤ length (b ∷ bs) → test (take k (b ∷ bs)) ≡ false
    longer zero lt le = absurd (omega arith)
    longer (suc k) lt le = h k (omega arith) ∙ past_run run bs k (omega arith) (omega arith)
