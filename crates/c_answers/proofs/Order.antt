-- The fault of several parts in order is that of the first part that has one.
use Rattle.std.proofs.Common.{◌≡◌, ℕ, List, [], ◌∷◌, ◌++◌, Result, Ok, Err, ap, sym, ◌∙◌, refl, subst}
use Rattle.wp_base.specs.declared.answers.Refusal.{Refusal}
use Rattle.c_answers.specs.Answers.{Answer, after, all_of, AllGive, IsFirstFault, AnswersInOrder, FaultsComeInOrder}

-- one part more in front, which gives something
further : (o : Answer ℕ) (x : ℕ) (os : List (Answer ℕ)) (r : Refusal) → o ≡ Ok x → IsFirstFault os r → IsFirstFault (o ∷ os) r
further o x os r given found = record {
  before = o ∷ found.before;
  given = x ∷ found.given;
  behind = found.behind;
  whole = ap (λ rest. o ∷ rest) found.whole;
  fine = (given, found.fine);
}

-- what a fault of the rest says of the rest
rest_fault : (o : Answer (List ℕ)) (x : ℕ) (r : Refusal) → after o (λ xs. Ok (x ∷ xs)) ≡ Err r → o ≡ Err r
rest_fault (Ok xs) x r h = cc
rest_fault (Err s) x r h = h

first_by : (o : Answer ℕ) (os : List (Answer ℕ)) (r : Refusal) → (all_of os ≡ Err r → IsFirstFault os r) → all_of (o ∷ os) ≡ Err r → IsFirstFault (o ∷ os) r
first_by (Ok x) os r go h = further (Ok x) x os r refl (go (rest_fault (all_of os) x r h))
first_by (Err s) os r go h =
    let e : s ≡ r = cc in
    record { before = []; given = []; behind = os; whole = ap (λ q. Err q ∷ os) e; fine = tt }

first_fault : (os : List (Answer ℕ)) (r : Refusal) → all_of os ≡ Err r → IsFirstFault os r
first_fault [] r h = cc
first_fault (o ∷ os) r h = first_by o os r (first_fault os r) h

one_more : (o : Answer ℕ) (x : ℕ) (os : List (Answer ℕ)) (r : Refusal) → o ≡ Ok x → all_of os ≡ Err r → all_of (o ∷ os) ≡ Err r
one_more o x os r given rest = ap (λ a. after a (λ y. after (all_of os) (λ ys. Ok (y ∷ ys)))) given ∙ ap (λ a. after a (λ ys. Ok (x ∷ ys))) rest

only_by : (before : List (Answer ℕ)) (given : List ℕ) (behind : List (Answer ℕ)) (r : Refusal) → AllGive before given → all_of (before ++ (Err r) ∷ behind) ≡ Err r
only_by [] [] behind r fine = refl
only_by [] (x ∷ xs) behind r fine = absurd fine
only_by (o ∷ os) [] behind r fine = absurd fine
only_by (o ∷ os) (x ∷ xs) behind r fine = one_more o x (os ++ (Err r) ∷ behind) r fine.0 (only_by os xs behind r fine.1)

only_fault : (os : List (Answer ℕ)) (r : Refusal) → IsFirstFault os r → all_of os ≡ Err r
only_fault os r found = ap all_of found.whole ∙ only_by found.before found.given found.behind r found.fine

pub faults_come_in_order : FaultsComeInOrder
faults_come_in_order os r = record { first = first_fault os r; only = only_fault os r }
