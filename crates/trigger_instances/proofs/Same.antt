-- What ids stand for in a store that grows: the same accesses, calls and `forall`s.
use Rattle.std.proofs.Common.{◌≡◌, List, [], ◌∷◌, map, All, refl}
use Rattle.std.proofs.lemmas.List.Elements.{All-head, All-tail, All-nil, All-cons}
use Rattle.qed_terms.specs.Store.{KeepsOlder}
use Rattle.qed_terms.specs.Tree.{Tree}
use Rattle.branch_accesses.specs.declared.accesses.IdAccess.{IdAccess}
use Rattle.branch_accesses.specs.Ids.{access_of, AccessHeld}
use Rattle.forall_instances.specs.declared.foralls.IdForall.{IdForall}
use Rattle.forall_instances.specs.Foralls.{forall_of, ForallHeld}
use Rattle.trigger_instances.specs.declared.calls.IdCall.{IdCall}
use Rattle.trigger_instances.specs.Ids.{call_of, CallHeld}

module _ {Id : Type 0} (held held' : Id → Type 0) (tree tree' : Id → Tree) (k : KeepsOlder held held' tree tree') where
  pub forall_same : (q : IdForall Id) → ForallHeld held q → forall_of tree' q ≡ forall_of tree q
  forall_same q h = λ i. record { name = q.name; low = k.same_tree q.low h.0 i; high = k.same_tree q.high h.1 i; body = k.same_tree q.body h.2 i }

  pub forall_still : (q : IdForall Id) → ForallHeld held q → ForallHeld held' q
  forall_still q h = (k.still_held q.low h.0, k.still_held q.high h.1, k.still_held q.body h.2)

  pub access_same : (a : IdAccess Id) → AccessHeld held a → access_of tree' a ≡ access_of tree a
  access_same a h = λ i. record { kind = a.kind; block = k.same_tree a.block h.0 i; offset = k.same_tree a.offset h.1 i }

  pub access_still : (a : IdAccess Id) → AccessHeld held a → AccessHeld held' a
  access_still a h = (k.still_held a.block h.0, k.still_held a.offset h.1)

  pub accesses_same : (xs : List (IdAccess Id)) → All (AccessHeld held) xs → map (access_of tree') xs ≡ map (access_of tree) xs
  accesses_same [] h = refl
  accesses_same (x ∷ xs) h = λ i. access_same x (All-head (AccessHeld held) x xs h) i ∷ accesses_same xs (All-tail (AccessHeld held) x xs h) i

  pub accesses_still : (xs : List (IdAccess Id)) → All (AccessHeld held) xs → All (AccessHeld held') xs
  accesses_still [] h = All-nil (AccessHeld held')
  accesses_still (x ∷ xs) h = All-cons (AccessHeld held') x xs (access_still x (All-head (AccessHeld held) x xs h)) (accesses_still xs (All-tail (AccessHeld held) x xs h))

  pub call_same : (c : IdCall Id) → CallHeld held c → call_of tree' c ≡ call_of tree c
  call_same c h = λ i. record { name = c.name; number = k.same_tree c.number h i }

  pub calls_same : (xs : List (IdCall Id)) → All (CallHeld held) xs → map (call_of tree') xs ≡ map (call_of tree) xs
  calls_same [] h = refl
  calls_same (x ∷ xs) h = λ i. call_same x (All-head (CallHeld held) x xs h) i ∷ calls_same xs (All-tail (CallHeld held) x xs h) i

  pub calls_still : (xs : List (IdCall Id)) → All (CallHeld held) xs → All (CallHeld held') xs
  calls_still [] h = All-nil (CallHeld held')
  calls_still (x ∷ xs) h = All-cons (CallHeld held') x xs (k.still_held x.number (All-head (CallHeld held) x xs h)) (calls_still xs (All-tail (CallHeld held) x xs h))
