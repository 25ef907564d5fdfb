-- An expansion comes to one end.
use Rattle.std.proofs.Common.{◌≡◌, ◌⊎◌, ℕ, Bool, List, [], ◌∷◌, ◌++◌, refl, sym, ◌∙◌, subst, inl, inr, arith}
use Rattle.qed_terms.specs.Nodes.{kids_of}
use Rattle.qed_terms.specs.Tree.{Tree}
use Rattle.branches.specs.Steps.{LeadsToOne}
use Rattle.branches.specs.Branch.{Branch, IsOr}
use Rattle.branches.specs.Expansion.{Rules, rules_of, Task, End, all_closed, ends, goes, LacksRoom, IsLarge, Closes, Changes, Splits, GoesRound, PassesOver, StaysOpen, FromLeaf, FromRound, FromSplit, FromChange, FromClosed, FromSize, Turns, Runs, none_left, stops, goes_on, stand, with_each}
use Rattle.branches.specs.Laws.{AreExact, OneEnd, OneEndBy}
use Rattle.branches.proofs.Steps.{one_or_else, one_first}

-- ---- each step

one_splits : LeadsToOne Splits
one_splits s o o' x y =
    let same = one_first IsOr s.now.at.waiting x.0 y.0 x.1 y.1 x.2 y.2 x.3 y.3 in
    x.4 ∙ (λ i. goes (with_each s.now.fuel s.now.at.literals (same.0 i) (same.2 i) (kids_of (same.1 i)) ++ s.later) s.leaves []) ∙ sym y.4

one_changes : (rules : Rules) → LeadsToOne rules.change → LeadsToOne (Changes rules)
one_changes rules one s o o' x y = let c = one s.now.at x.0 y.0 x.1 y.1 in let a = x.2 in let b = y.2 in cc

one_round : (rules : Rules) → LeadsToOne rules.round → LeadsToOne (GoesRound rules)
one_round rules one s o o' x y =
    let fs = one s.now.at x.1 y.1 x.3 y.3 in
    let f = x.2 in
    let g = y.2 in
    let left : x.0 ≡ y.0 = omega (arith, f, g) in
    let a = x.5 in
    let b = y.5 in
    cc

one_turn : (rules : Rules) → AreExact rules → (budget : ℕ) → LeadsToOne (Turns rules budget)
one_turn rules exact budget =
    one_or_else (LacksRoom budget) (FromSize rules) (λ s o o' x y. x.2 ∙ sym y.2)
    (one_or_else IsLarge (FromClosed rules) (λ s o o' x y. x.1 ∙ sym y.1)
    (one_or_else (Closes rules) (FromChange rules) (λ s o o' x y. x.1 ∙ sym y.1)
    (one_or_else (Changes rules) (FromSplit rules) (one_changes rules exact.0)
    (one_or_else Splits (FromRound rules) one_splits
    (one_or_else (GoesRound rules) (FromLeaf rules) (one_round rules exact.1)
    (one_or_else (PassesOver rules) StaysOpen (λ s o o' x y. x.1 ∙ sym y.1) (λ s o o' x y. x ∙ sym y)))))))

-- ---- the whole

-- an expansion by its first turn
abbrev Begins : Rules → ℕ → List Task → ℕ → List Branch → End → Type 0
Begins rules budget [] n ds e = (ds ≡ []) × (e ≡ all_closed)
Begins rules budget (t ∷ ts) n ds e =
    (Turns rules budget (stand t ts n) (ends e) × (ds ≡ []))
    ⊎ ((us : List Task) × (m : ℕ) × (bs : List Branch) × (cs : List Branch) × Turns rules budget (stand t ts n) (goes us m bs) × Runs rules budget us m cs e × (ds ≡ bs ++ cs))

begins : {rules : Rules} {budget : ℕ} {ts : List Task} {n : ℕ} {ds : List Branch} {e : End} → Runs rules budget ts n ds e → Begins rules budget ts n ds e
begins none_left = (refl, refl)
begins (stops x) = inl (x, refl)
begins (goes_on x r s) = inr (_, _, _, _, x, r, s)

module _ (rules : Rules) (exact : AreExact rules) (budget : ℕ) where
  same_end : {ts : List Task} {n : ℕ} {bs cs : List Branch} {e d : End} → Runs rules budget ts n bs e → Runs rules budget ts n cs d → (bs ≡ cs) × (e ≡ d)
  same_end none_left r = let k = begins r in (sym k.0, sym k.1)
  same_end {cs = cs} {d = d} (stops {t} {ts} {n} {e} x) r = elim (begins r) [
    | inl y ↦ let o = one_turn rules exact budget (stand t ts n) _ _ x y.0 in (sym y.1, cc)
    | inr y ↦ let o = one_turn rules exact budget (stand t ts n) _ _ x y.4 in absurd cc
  ]
  same_end {cs = other} {d = d} (goes_on {t} {ts} {us} {n} {m} {bs} {cs} {ds} {e} x k s) r = elim (begins r) [
    | inl y ↦ let o = one_turn rules exact budget (stand t ts n) _ _ x y.0 in absurd cc
    | inr y ↦
        let o : goes us m bs ≡ goes y.0 y.1 y.2 = one_turn rules exact budget (stand t ts n) _ _ x y.4 in
        let same_tasks : us ≡ y.0 = cc in
        let same_leaves : m ≡ y.1 = cc in
        let same_over : bs ≡ y.2 = cc in
        let rest : Runs rules budget us m y.3 d = subst (λ z. Runs rules budget us z y.3 d) (sym same_leaves) (subst (λ z. Runs rules budget z y.1 y.3 d) (sym same_tasks) y.5) in
        let same = same_end k rest in
        (s ∙ (λ i. same_over i ++ same.0 i) ∙ sym y.6, same.1)
  ]

pub one_end : OneEnd
one_end rules exact budget ts n bs cs e d x y = same_end rules exact budget x y

pub one_end_by : (passes : Bool) (closed : Branch → Type 0) (change : Branch → Branch → Type 0) (round : Branch → List Tree → Type 0) → OneEndBy passes closed change round
one_end_by passes closed change round one two budget ts n bs cs e d x y = same_end (rules_of passes closed change round) (one, two) budget x y
