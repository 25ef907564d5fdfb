-- What a turn puts on the stack, and what follows of the expansion.
use Rattle.std.proofs.Common.{◌≡◌, ℕ, suc, ◌+◌, ◌-◌, ◌<◌, Bool, true, false, List, [], ◌∷◌, ◌++◌, map, drop, length, get_or, drop-cons, refl, inl, inr, sym, ◌∙◌, ap, subst, arith}
use Rattle.std.proofs.lemmas.List.{length-map}
use Rattle.qed_terms.specs.Store.{KeepsOlder}
use Rattle.qed_terms.specs.Tree.{Tree}
use Rattle.branches.specs.declared.tasks.IdTask.{IdTask}
use Rattle.branches.specs.declared.turns.Turned.{Turned}
use Rattle.branches.specs.Steps.{Stuck, NoneSo, LeadsToOne}
use Rattle.branches.specs.Branch.{Branch, branch, IsOr}
use Rattle.branches.specs.Expansion.{Rules, rules_of, Task, task, Stand, stand, Turn, goes, with_each, is_empty, Splits, GoesRound, FromLeaf, FromRound, FromChange}
use Rattle.branches.specs.Ids.{branch_of, task_of, tasks_of, BranchHeld, TasksHeld, turn_of, IsLeafTurn}
use Rattle.branches.proofs.Steps.{no_first}
use Rattle.branches.proofs.Places.{tree_at}
use Rattle.branches.proofs.Stores.{branch_same, tasks_same, tasks_push}

-- ---- disjuncts on the stack

module _ {Id : Type 0} (tree : Id → Tree) (fuel : ℕ) (ls before behind : List Tree) (kids : List Id) (rest : List Task) where
  abbrev Pushed : ℕ → List (IdTask Id) → Type 0
  Pushed i todo = tasks_of tree todo ≡ with_each fuel ls before behind (drop (length kids - i) (map tree kids)) ++ rest

  -- one more
  pub one_pushed : (i : ℕ) (kid : Id) (todo todo' : List (IdTask Id)) (t : IdTask Id) → Pushed i todo → i < length kids → kid ≡ get_or kids (length kids - 1 - i) kid → todo' ≡ todo ++ t ∷ []
      → task_of tree t ≡ task fuel true (branch ls (before ++ tree kid ∷ behind)) → Pushed (i + 1) todo'
  one_pushed i kid todo todo' t so_far k is pushed new =
      let long = length-map kids tree in
      let n : ℕ = length kids - 1 - i in
      let less : length kids - (i + 1) ≡ n = omega arith in
      let more : length kids - i ≡ suc n = omega arith in
      let within : n < length kids = omega arith in
      let here : get_or (map tree kids) n (tree kid) ≡ tree kid = tree_at tree kids n kid (tree kid) within ∙ ap tree (sym is) in
      let cut : drop n (map tree kids) ≡ get_or (map tree kids) n (tree kid) ∷ drop (suc n) (map tree kids) = drop-cons (map tree kids) n (tree kid) (omega (arith, long)) in
      let all : drop (length kids - (i + 1)) (map tree kids) ≡ tree kid ∷ drop (length kids - i) (map tree kids) = ap (λ z. drop z (map tree kids)) less ∙ cut ∙ (λ j. here j ∷ drop (sym more j) (map tree kids)) in
      ap (tasks_of tree) pushed ∙ tasks_push tree todo t ∙ (λ j. new j ∷ so_far j) ∙ ap (λ z. with_each fuel ls before behind z ++ rest) (sym all)

-- ---- the steps

-- a round adds nothing, or something
pub none_added : {Id : Type 0} (tree : Id → Tree) (ids : List Id) (n : ℕ) → n ≡ length ids → n ≡ 0 → is_empty (map tree ids) ≡ true
none_added tree [] n e k = refl
none_added tree (id ∷ ids) n e k = absurd cc

pub some_added : {Id : Type 0} (tree : Id → Tree) (ids : List Id) (n : ℕ) → n ≡ length ids → (n ≡ 0 → ⊥) → is_empty (map tree ids) ≡ false
some_added tree [] n e k = absurd (k e)
some_added tree (id ∷ ids) n e k = refl

-- an open leaf, where no step before it applies
pub leaf_made : (passes : Bool) (closed : Branch → Type 0) (change : Branch → Branch → Type 0) (round : Branch → List Tree → Type 0) (b : Branch) (fuel leaves : ℕ) (asks : Bool) (later : List Task) (made : Turned) → IsLeafTurn passes leaves made
    → FromLeaf (rules_of passes closed change round) (stand (task fuel asks b) later leaves) (turn_of b made later)
leaf_made true closed change round b fuel leaves asks later made e = inl (refl, ap (λ z. turn_of b z later) e)
leaf_made false closed change round b fuel leaves asks later made e = inr ((λ o x. let k = x.0 in absurd cc), ap (λ z. turn_of b z later) e)

module _ (passes : Bool) (closed : Branch → Type 0) (change : Branch → Branch → Type 0) (round : Branch → List Tree → Type 0) where
  abbrev rules : Rules
  rules = rules_of passes closed change round

  pub no_fuel : (s : Stand) → s.now.fuel ≡ 0 → Stuck (GoesRound rules) s
  no_fuel s e o x = let f = x.2 in absurd cc

  pub nothing_added : (s : Stand) (fs : List Tree) → LeadsToOne round → round s.now.at fs → is_empty fs ≡ true → Stuck (GoesRound rules) s
  nothing_added s fs one r e o x = let same = one s.now.at fs x.1 r x.3 in let f = x.4 in let k = ap is_empty same in absurd cc

  pub round_made : (fuel left leaves : ℕ) (asks : Bool) (b c : Branch) (later todo : List Task) (fs : List Tree) → fuel ≡ suc left → round b fs → is_empty fs ≡ false → todo ≡ task left false c ∷ later → c ≡ branch b.literals (b.waiting ++ fs)
      → FromRound rules (stand (task fuel asks b) later leaves) (goes todo leaves [])
  round_made fuel left leaves asks b c later todo fs e r some pushed new = inl (left, fs, e, r, some, ap (λ z. goes z leaves []) pushed ∙ ap (λ z. goes (task left false z ∷ later) leaves []) new)

  pub no_split : (s : Stand) → NoneSo IsOr s.now.at.waiting → Stuck Splits s
  no_split s n o x = no_first IsOr s.now.at.waiting n x.0 x.1 x.2 x.3

  pub change_made : (fuel leaves : ℕ) (asks : Bool) (b c : Branch) (later todo : List Task) → change b c → todo ≡ task fuel false c ∷ later → FromChange rules (stand (task fuel asks b) later leaves) (goes todo leaves [])
  change_made fuel leaves asks b c later todo x pushed = inl (c, x, ap (λ z. goes z leaves []) pushed)

-- a step from a branch of a later store is one from the branch of the older store
pub from_older : {Id : Type 0} (held held' : Id → Type 0) (tree tree' : Id → Tree) (step : Stand → Turn → Type 0) (t : IdTask Id) (ts : List (IdTask Id)) (leaves : ℕ) (made : Turned) (later : List Task)
    → KeepsOlder held held' tree tree' → BranchHeld held t.at → TasksHeld held ts → step (stand (task_of tree' t) (tasks_of tree' ts) leaves) (turn_of (branch_of tree' t.at) made later)
    → step (stand (task_of tree t) (tasks_of tree ts) leaves) (turn_of (branch_of tree t.at) made later)
from_older held held' tree tree' step t ts leaves made later k h l x =
    let b = branch_same held held' tree tree' k t.at h in
    let c = tasks_same held held' tree tree' k ts l in
    subst (λ z. step (stand (task t.fuel t.asks z) (tasks_of tree ts) leaves) (turn_of z made later)) b (subst (λ z. step (stand (task_of tree' t) z leaves) (turn_of (branch_of tree' t.at) made later)) c x)
