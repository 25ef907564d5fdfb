-- Items of a list one after another, each in the state that those before it leave.
use Rattle.std.specs.Prelude.{List, [], ◌∷◌, ◌++◌, Ok}
use Rattle.c_answers.specs.Answers.{Answer, after}

abbrev pub each : {S X Y : Type 0} → (S → X → Answer (Y × S)) → S → List X → Answer (List Y × S)
each f s [] = Ok ([], s)
each f s (x ∷ xs) = after (f s x) (λ y. after (each f y.1 xs) (λ ys. Ok (y.0 ∷ ys.0, ys.1)))

-- what was made so far, and what is to come
abbrev pub onto : {S Y : Type 0} → List Y → Answer (List Y × S) → Answer (List Y × S)
onto ys a = after a (λ zs. Ok (ys ++ zs.0, zs.1))
