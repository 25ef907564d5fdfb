-- A refusal and the line that it tells.
use Rattle.std.proofs.Common.{◌≡◌, ℕ, zero, suc, ◌-◌, eqb, Bool, true, false, List, [], ◌∷◌, ◌++◌, map, codes, Option, None, refl, sym, ap, ◌∙◌, append_assoc, eq-eqb, eqb-true}
use Rattle.std.specs.Prelude.{option_map, slice_get}
use Rattle.std.specs.Borrow.{Bor}
use Rattle.std.specs.Fmt.{decimal}
use Rattle.report_read.specs.Report.{Refusal, refusal_line}
use Rattle.report_read.specs.View.{bytes_of}
use Rattle.report_shown.specs.Source.{lines}
use Rattle.view_text.specs.Refused.{line_at, told_line, refusal_view}

pub refusal_put : (r : Refusal) (text one two three four five six seven : List ℕ) → one ≡ text ++ codes "refused line " → two ≡ one ++ decimal r.line → three ≡ two ++ codes ": " → four ≡ three ++ decimal r.number → five ≡ four ++ codes " " → six ≡ five ++ r.rule → seven ≡ six ++ codes "\n"
    → seven ≡ text ++ refusal_line r
refusal_put r text one two three four five six seven a b c d e f h =
    h ∙ ap (λ t. t ++ codes "\n") (f ∙ ap (λ t. t ++ r.rule) (e ∙ ap (λ t. t ++ codes " ") (d ∙ ap (λ t. t ++ decimal r.number) (c ∙ ap (λ t. t ++ codes ": ") (b ∙ ap (λ t. t ++ decimal r.line) a)))))
    ∙ simp append_assoc

seen_get : (ls : List (Bor (List ℕ))) (i : ℕ) → slice_get (map bytes_of ls) i ≡ option_map bytes_of (slice_get ls i)
seen_get [] zero = refl
seen_get [] (suc i) = refl
seen_get (l ∷ ls) zero = refl
seen_get (l ∷ ls) (suc i) = seen_get ls i

other : (x y : ℕ) → (x ≡ y → ⊥) → eqb x y ≡ false
other x y n = by (eqb x y) refl
  where
    by : (t : Bool) → eqb x y ≡ t → t ≡ false
    by true e = absurd (n (eqb-true x y e))
    by false e = refl

pub no_line_at : (ls : List (List ℕ)) (n : ℕ) → n ≡ 0 → None ≡ line_at ls n
unfolding line_at
no_line_at ls n e = rw (eq-eqb n 0 e) refl

pub line_found : (ls : List (Bor (List ℕ))) (n : ℕ) (line : Option (List ℕ)) → (n ≡ 0 → ⊥) → line ≡ option_map bytes_of (slice_get ls (n - 1)) → line ≡ line_at (map bytes_of ls) n
unfolding line_at
line_found ls n line e h = rw (other n 0 e) (h ∙ sym (seen_get ls (n - 1)))

pub both_put : (source : List ℕ) (r : Refusal) (ls : List (Bor (List ℕ))) (line : Option (List ℕ)) (text one two : List ℕ) → map bytes_of ls ≡ lines source → line ≡ line_at (map bytes_of ls) r.line
    → one ≡ text ++ refusal_line r → two ≡ one ++ told_line r.line line → two ≡ text ++ refusal_view source r
unfolding refusal_view
both_put source r ls line text one two l f a b =
    b ∙ (λ j. a j ++ told_line r.line (f j)) ∙ ap (λ k. (text ++ refusal_line r) ++ told_line r.line (line_at k r.line)) l ∙ append_assoc text (refusal_line r) (told_line r.line (line_at (lines source) r.line))
