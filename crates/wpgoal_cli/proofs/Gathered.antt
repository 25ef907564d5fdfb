-- Lines answered one after another.
use Rattle.std.proofs.Common.{◌≡◌, ℕ, suc, ◌+◌, ◌<◌, ◌≤◌, ◌==◌, Bool, false, List, [], ◌∷◌, ◌++◌, length, refl, sym, ◌∙◌, ap, subst, arith, eq-eqb}
use Rattle.wp_base.specs.declared.answers.Status.TheVariants as status
use Rattle.wpgoal_cli.specs.Command.{Wish}
use Rattle.wpgoal_cli.specs.Lines.{IsLine, IsNoFormula, AnswersLine, Answered, nothing, one_more, no_goal_line, Answers, answered, none}
use Rattle.wpgoal_cli.proofs.Places.{shorter}

pub line_answered : (wish : Wish) (all left behind line text out out' : List ℕ) (n m : ℕ) → Answered wish all left n out → IsLine line left behind → AnswersLine wish line text → m ≡ n + 1 → out' ≡ out ++ (text ++ 10 ∷ []) → Answered wish all behind m out'
line_answered wish all left behind line text out out' n m a i t e f =
    let s : suc n ≡ m = omega (arith, e) in
    subst (λ o. Answered wish all behind m o) (sym f) (subst (λ k. Answered wish all behind k (out ++ (text ++ 10 ∷ []))) s (one_more text a i t))

pub fewer_left : (line left behind : List ℕ) (n m total : ℕ) → (length left ≡ 0 → ⊥) → IsLine line left behind → m ≡ n + 1 → n + length left ≤ total → m + length behind ≤ total
fewer_left line left behind n m total k i e l = let s = shorter line left behind k i in omega (arith, s, e, l)

pub text_refused : (wish : Wish) (all left behind line out text : List ℕ) (n m : ℕ) → Answered wish all left n out → IsLine line left behind → IsNoFormula line → m ≡ n + 1 → text ≡ no_goal_line m → Answers wish all status.Refused text
text_refused wish all left behind line out text n m a i k e f =
    let s : m ≡ suc n = omega (arith, e) in
    subst (λ t. Answers wish all status.Refused t) (sym (f ∙ ap no_goal_line s)) (none a i k)

none_left : (xs : List ℕ) → length xs ≡ 0 → xs ≡ []
none_left [] e = refl
none_left (x ∷ xs) e = absurd (omega (arith, e))

pub text_done : (wish : Wish) (all left out : List ℕ) (n : ℕ) → Answered wish all left n out → length left ≡ 0 → Answers wish all status.AllProved out
text_done wish all left out n a e = answered (subst (λ xs. Answered wish all xs n out) (none_left left e) a)

pub nothing_yet : (wish : Wish) (all out : List ℕ) → out ≡ [] → Answered wish all all 0 out
nothing_yet wish all out e = subst (λ o. Answered wish all all 0 o) (sym e) nothing

pub not_empty : (n : ℕ) → n == 0 ≡ false → n ≡ 0 → ⊥
not_empty n e z = let t = eq-eqb n 0 z in absurd cc
