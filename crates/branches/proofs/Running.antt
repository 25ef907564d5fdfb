-- What an expansion comes to, turn by turn.
use Rattle.std.proofs.Common.{◌≡◌, ℕ, suc, true, false, List, [], ◌∷◌, ◌++◌, map, length, All, append_assoc, refl, inl, inr, sym, ◌∙◌, ap, subst}
use Rattle.std.proofs.lemmas.List.{map-append}
use Rattle.qed_terms.specs.declared.verdict.IdBranch.{IdBranch}
use Rattle.qed_terms.specs.declared.verdict.Verdict.{Verdict}
use Rattle.qed_terms.specs.Tree.{Tree}
use Rattle.branches.specs.declared.tasks.IdTask.{IdTask}
use Rattle.branches.specs.declared.turns.Turned.{Turned}
use Rattle.branches.specs.declared.turns.Turned.TheVariants as turned
use Rattle.branches.specs.Steps.{or_else}
use Rattle.branches.specs.Branch.{Branch, branch}
use Rattle.branches.specs.Expansion.{Rules, rules_of, Task, task, Stand, stand, End, all_closed, stays_open, Turn, ends, goes, LacksRoom, IsLarge, Closes, Changes, Splits, GoesRound, PassesOver, StaysOpen, FromLeaf, FromRound, FromSplit, FromChange, FromClosed, FromSize, Turns, Runs, none_left, stops, goes_on, from_formula}
use Rattle.branches.specs.Ids.{branch_of, task_of, tasks_of, turn_of, end_of, BranchHeld}
use Rattle.qed_terms.specs.Store.{KeepsOlder}
use Rattle.branches.proofs.Stores.{tasks_push, branch_same, branches_same}

no_items : {A : Type 0} (xs : List A) → length xs ≡ 0 → xs ≡ []
no_items [] e = refl
no_items (x ∷ xs) e = absurd cc

module _ {Id : Type 0} (tree : Id → Tree) (rules : Rules) (budget leaves : ℕ) (ts : List (IdTask Id)) where
  pub run_empty : length ts ≡ 0 → Runs rules budget (tasks_of tree ts) leaves [] all_closed
  run_empty e = subst (λ z. Runs rules budget z leaves [] all_closed) (ap (tasks_of tree) (sym (no_items ts e))) none_left

  module _ (us : List (IdTask Id)) (t : IdTask Id) (made : Turned) (later : List Task) (popped : ts ≡ us ++ t ∷ []) (x : Turns rules budget (stand (task_of tree t) (tasks_of tree us) leaves) (turn_of (branch_of tree t.at) made later)) where
    stack : task_of tree t ∷ tasks_of tree us ≡ tasks_of tree ts
    stack = sym (ap (tasks_of tree) popped ∙ tasks_push tree us t)

    pub run_ends : (v : Verdict) → made ≡ turned.Ends v → Runs rules budget (tasks_of tree ts) leaves [] (end_of v)
    run_ends v is = subst (λ z. Runs rules budget z leaves [] (end_of v)) stack (stops (subst (λ z. Turns rules budget (stand (task_of tree t) (tasks_of tree us) leaves) (turn_of (branch_of tree t.at) z later)) is x))

    pub run_goes : (more : ℕ) (bs : List Branch) (e : End) → made ≡ turned.Goes more → Runs rules budget later more bs e → Runs rules budget (tasks_of tree ts) leaves bs e
    run_goes more bs e is r = subst (λ z. Runs rules budget z leaves bs e) stack (goes_on (subst (λ z. Turns rules budget (stand (task_of tree t) (tasks_of tree us) leaves) (turn_of (branch_of tree t.at) z later)) is x) r refl)

    pub run_passes : (more : ℕ) (bs : List Branch) (e : End) → made ≡ turned.Passes more → Runs rules budget later more bs e → Runs rules budget (tasks_of tree ts) leaves (branch_of tree t.at ∷ bs) e
    run_passes more bs e is r = subst (λ z. Runs rules budget z leaves (branch_of tree t.at ∷ bs) e) stack (goes_on (subst (λ z. Turns rules budget (stand (task_of tree t) (tasks_of tree us) leaves) (turn_of (branch_of tree t.at) z later)) is x) r refl)

-- ---- what was passed over, in a later store

module _ {Id : Type 0} (held held' : Id → Type 0) (tree tree' : Id → Tree) (kept : KeepsOlder held held' tree tree') (over over' : List (IdBranch Id)) (h : All (BranchHeld held) over) (bs : List Branch) where
  pub over_still : over' ≡ over → map (branch_of tree) over ++ bs ≡ map (branch_of tree') over' ++ bs
  over_still e = let same = branches_same held held' tree tree' kept over h in ap (λ z. z ++ bs) (sym same) ∙ ap (λ z. map (branch_of tree') z ++ bs) (sym e)

  pub over_more : (b : IdBranch Id) → BranchHeld held b → over' ≡ over ++ b ∷ [] → map (branch_of tree) over ++ branch_of tree b ∷ bs ≡ map (branch_of tree') over' ++ bs
  over_more b k e =
      let same = branches_same held held' tree tree' kept over h in
      let last = branch_same held held' tree tree' kept b k in
      let all : map (branch_of tree') over' ≡ map (branch_of tree) over ++ branch_of tree b ∷ [] = ap (map (branch_of tree')) e ∙ map-append (branch_of tree') over (b ∷ []) ∙ (λ i. same i ++ last i ∷ []) in
      sym (append_assoc (map (branch_of tree) over) (branch_of tree b ∷ []) bs) ∙ ap (λ z. z ++ bs) (sym all)

-- the first task
pub begun : {Id : Type 0} (tree : Id → Tree) (start : Id) (fuel : ℕ) (t : IdTask Id) (todo : List (IdTask Id)) → (t.fuel ≡ fuel) × (t.asks ≡ false) × (t.at.literals ≡ []) × (t.at.waiting ≡ start ∷ []) → todo ≡ t ∷ [] → tasks_of tree todo ≡ from_formula fuel (tree start)
begun tree start fuel t todo is pushed =
    let n = is.0 in
    let asks = is.1 in
    let ls = ap (map tree) is.2 in
    let ws = ap (map tree) is.3 in
    ap (tasks_of tree) pushed ∙ (λ i. task (n i) (asks i) (branch (ls i) (ws i)) ∷ [])

-- ---- what is never passed over, and what never stays open

abbrev Over : (Stand → Turn → Type 0) → Type 0
Over step = (s : Stand) (us : List Task) (m : ℕ) (bs : List Branch) → step s (goes us m bs) → bs ≡ []

over_or_else : (first second : Stand → Turn → Type 0) → Over first → Over second → Over (or_else first second)
over_or_else first second k l s us m bs x = elim x [ inl p ↦ k s us m bs p | inr p ↦ l s us m bs p.1 ]

module _ (closed : Branch → Type 0) (change : Branch → Branch → Type 0) (round : Branch → List Tree → Type 0) (budget : ℕ) where
  abbrev proving : Rules
  proving = rules_of false closed change round

  over_none : Over (Turns proving budget)
  over_none =
      over_or_else (LacksRoom budget) (FromSize proving) (λ s us m bs x. absurd cc)
      (over_or_else IsLarge (FromClosed proving) (λ s us m bs x. absurd cc)
      (over_or_else (Closes proving) (FromChange proving) (λ s us m bs x. let k = x.1 in cc)
      (over_or_else (Changes proving) (FromSplit proving) (λ s us m bs x. let k = x.2 in cc)
      (over_or_else Splits (FromRound proving) (λ s us m bs x. let k = x.4 in cc)
      (over_or_else (GoesRound proving) (FromLeaf proving) (λ s us m bs x. let k = x.5 in cc)
      (over_or_else (PassesOver proving) StaysOpen (λ s us m bs x. let k = x.0 in absurd cc) (λ s us m bs x. absurd cc)))))))

  passes_none : {ts : List Task} {n : ℕ} {bs : List Branch} {e : End} → Runs proving budget ts n bs e → bs ≡ []
  passes_none none_left = refl
  passes_none (stops x) = refl
  passes_none (goes_on {t} {ts} {us} {n} {m} {bs} {cs} {ds} {e} x r s) = let first = over_none (stand t ts n) us m bs x in let rest = passes_none r in s ∙ (λ i. first i ++ rest i)

  pub none_over : (ts : List Task) (n : ℕ) (bs : List Branch) (e : End) → Runs proving budget ts n bs e → Runs proving budget ts n [] e
  none_over ts n bs e r = subst (λ z. Runs proving budget ts n z e) (passes_none r) r

abbrev NotOpen : (Stand → Turn → Type 0) → Type 0
NotOpen step = (s : Stand) → step s (ends stays_open) → ⊥

open_or_else : (first second : Stand → Turn → Type 0) → NotOpen first → NotOpen second → NotOpen (or_else first second)
open_or_else first second k l s x = elim x [ inl p ↦ k s p | inr p ↦ l s p.1 ]

module _ (closed : Branch → Type 0) (change : Branch → Branch → Type 0) (round : Branch → List Tree → Type 0) (budget : ℕ) where
  abbrev splitting : Rules
  splitting = rules_of true closed change round

  -- each open leaf is passed over
  leaf_is_passed : NotOpen (FromLeaf splitting)
  leaf_is_passed s x = elim x [ inl p ↦ (let k = p.1 in absurd cc) | inr p ↦ p.0 (goes s.later (suc s.leaves) (s.now.at ∷ [])) (refl, refl) ]

  not_open : NotOpen (Turns splitting budget)
  not_open =
      open_or_else (LacksRoom budget) (FromSize splitting) (λ s x. let k = x.2 in absurd cc)
      (open_or_else IsLarge (FromClosed splitting) (λ s x. let k = x.1 in absurd cc)
      (open_or_else (Closes splitting) (FromChange splitting) (λ s x. let k = x.1 in absurd cc)
      (open_or_else (Changes splitting) (FromSplit splitting) (λ s x. let k = x.2 in absurd cc)
      (open_or_else Splits (FromRound splitting) (λ s x. let k = x.4 in absurd cc)
      (open_or_else (GoesRound splitting) (FromLeaf splitting) (λ s x. let k = x.5 in absurd cc) leaf_is_passed)))))

  comes_open : {ts : List Task} {n : ℕ} {bs : List Branch} {e : End} → Runs splitting budget ts n bs e → e ≡ stays_open → ⊥
  comes_open none_left e = cc
  comes_open (stops {t} {ts} {n} x) e = not_open (stand t ts n) (subst (λ z. Turns splitting budget (stand t ts n) (ends z)) e x)
  comes_open (goes_on x r s) e = comes_open r e

  pub never_open : (ts : List Task) (n : ℕ) (bs : List Branch) → Runs splitting budget ts n bs stays_open → ⊥
  never_open ts n bs r = comes_open r refl
