-- Spaced parts at the front of a text: what is written is found, and what is found stands there.
use Rattle.std.proofs.Common.{◌≡◌, ℕ, zero, suc, ◌≤◌, true, List, [], ◌∷◌, ◌++◌, length, length-append, Some, None, refl, sym, ap, ◌∙◌, subst, arith, append_assoc, append-nil}
use Rattle.goal_words.specs.Bytes.{Reader, expect, ends}
use Rattle.goal_words.proofs.Front.{then_some, both, parts, expect_is}
use Rattle.goal_text.specs.Text.{spaced, bracket}
use Rattle.goal_text.specs.Reader.{repeat, repeat_by}

-- ---- spaced parts

pub spaced-append : (xs ys : List (List ℕ)) → spaced (xs ++ ys) ≡ spaced xs ++ spaced ys
spaced-append [] ys = refl
spaced-append (x ∷ xs) ys = ap (λ l. 32 ∷ (x ++ l)) (spaced-append xs ys) ∙ ap (λ l. 32 ∷ l) (sym (append_assoc x (spaced xs) (spaced ys)))

pub spaced_ends : (xs : List (List ℕ)) (rest : List ℕ) → ends rest ≡ true → ends (spaced xs ++ rest) ≡ true
spaced_ends [] rest e = e
spaced_ends (x ∷ xs) rest e = refl

pub spaced_long : (xs : List (List ℕ)) (rest : List ℕ) → length xs ≤ length (spaced xs ++ rest)
spaced_long [] rest = omega arith
spaced_long (x ∷ xs) rest =
    let more = spaced_long xs rest in
    rw (append_assoc x (spaced xs) rest) (omega (arith, length-append x (spaced xs ++ rest)))

pub bracket_rest : (word : List ℕ) (ps : List (List ℕ)) (rest : List ℕ) → bracket word ps ++ rest ≡ 40 ∷ (word ++ (spaced ps ++ 41 ∷ rest))
bracket_rest word ps rest = ap (λ l. 40 ∷ l) (append_assoc word (spaced ps ++ 41 ∷ []) rest ∙ ap (λ l. word ++ l) (append_assoc (spaced ps) (41 ∷ []) rest))

-- ---- steps that are repeated

-- each part takes the state one step on
abbrev pub Path : {S : Type 0} → (S → Reader S) → S → List (List ℕ) → S → Type 0
Path step s [] s' = s ≡ s'
Path {S} step s (p ∷ ps) s' = (m : S) × ((rest : List ℕ) → ends rest ≡ true → step s (p ++ rest) ≡ Some (m, rest)) × Path step m ps s'

pub repeat_path : {S : Type 0} (step : S → Reader S) (turns : ℕ) (s : S) (ps : List (List ℕ)) (s' : S) (rest : List ℕ) → Path step s ps s' → length ps ≤ turns → repeat step turns s (spaced ps ++ 41 ∷ rest) ≡ Some (s', 41 ∷ rest)
unfolding repeat
repeat_path step zero s [] s' rest path le = ap (λ s. Some (s, 41 ∷ rest)) path
repeat_path step (suc turns) s [] s' rest path le = ap (λ s. Some (s, 41 ∷ rest)) path
repeat_path step zero s (p ∷ ps) s' rest path le = absurd (omega arith)
repeat_path step (suc turns) s (p ∷ ps) s' rest path le =
    rw (append_assoc p (spaced ps) (41 ∷ rest), path.1 (spaced ps ++ 41 ∷ rest) (spaced_ends ps (41 ∷ rest) refl))
    (repeat_path step turns path.0 ps s' rest path.2 (omega arith))

-- a step reads a part, and what held of the parts so far holds with it
abbrev pub StepSound : {S : Type 0} → (S → List (List ℕ) → Type 0) → (S → Reader S) → Type 0
StepSound {S} P step = (s : S) (ps : List (List ℕ)) (bytes : List ℕ) (s' : S) (rest : List ℕ) → P s ps → step s bytes ≡ Some (s', rest) → (p : List ℕ) × (bytes ≡ p ++ rest) × P s' (ps ++ p ∷ [])

abbrev Went : {S : Type 0} → (S → List (List ℕ) → Type 0) → List (List ℕ) → List ℕ → S → List ℕ → Type 0
Went P ps bytes s' rest = (more : List (List ℕ)) × (bytes ≡ spaced more ++ rest) × P s' (ps ++ more)

went_nowhere : {S : Type 0} (P : S → List (List ℕ) → Type 0) (s : S) (ps : List (List ℕ)) (bytes : List ℕ) (s' : S) (rest : List ℕ) → P s ps → both s bytes ≡ both s' rest → Went P ps bytes s' rest
went_nowhere P s ps bytes s' rest holds h =
    let same = parts s s' bytes rest h in
    ([], same.1, subst (λ s. P s (ps ++ [])) same.0 (rw append-nil holds))

pub repeat_sound : {S : Type 0} (P : S → List (List ℕ) → Type 0) (step : S → Reader S) → StepSound P step → (turns : ℕ) (s : S) (ps : List (List ℕ)) (bytes : List ℕ) (s' : S) (rest : List ℕ)
    → P s ps → repeat step turns s bytes ≡ Some (s', rest) → Went P ps bytes s' rest
unfolding repeat
repeat_sound P step sound zero s ps bytes s' rest holds h = went_nowhere P s ps bytes s' rest holds h
repeat_sound {S} P step sound (suc turns) s ps bytes s' rest holds h =
    elim (expect 32 bytes) as (λ o. expect 32 bytes ≡ o → repeat_by o step s bytes (repeat step turns) ≡ Some (s', rest) → Went P ps bytes s' rest) [
      | None ↦ (λ none h. went_nowhere P s ps bytes s' rest holds h)
      | Some left ↦ (λ some h.
          let whole : S × List ℕ = (s', rest) in
          let x = then_some (step s left) _ whole h in
          let one = sound s ps left x.0.0 x.0.1 holds x.1 in
          let others = repeat_sound P step sound turns x.0.0 (ps ++ one.0 ∷ []) x.0.1 s' rest one.2 x.2 in (
            one.0 ∷ others.0,
            expect_is 32 bytes left some ∙ ap (λ l. 32 ∷ l) (one.1 ∙ ap (λ l. one.0 ++ l) others.1 ∙ sym (append_assoc one.0 (spaced others.0) rest)),
            subst (P s') (append_assoc ps (one.0 ∷ []) others.0) others.2,
          ))
    ]
    refl h
