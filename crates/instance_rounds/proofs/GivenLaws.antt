-- Accesses and calls in a later store, and what was given.
use Rattle.std.proofs.Common.{◌≡◌, List, [], ◌∷◌, ◌++◌, map, All, refl, sym, ◌∙◌, ap, subst}
use Rattle.std.proofs.lemmas.List.Elements.{All-head, All-tail}
use Rattle.qed_terms.specs.Setting.{Logic}
use Rattle.qed_terms.specs.Store.{KeepsOlder}
use Rattle.qed_terms.specs.Tree.{Tree}
use Rattle.qed_terms.proofs.Kept.{kept_trees}
use Rattle.instance_rows.specs.Accesses.{Load, Access}
use Rattle.instance_rows.specs.Triggers.{Call}
use Rattle.instance_rows.specs.Candidates.{Candidate, Given, offset_candidates, forall_candidates, marker}
use Rattle.branch_accesses.specs.Ids.{access_of, load_of, AccessHeld, LoadHeld}
use Rattle.branch_accesses.specs.declared.accesses.IdAccess.{IdAccess}
use Rattle.trigger_instances.specs.Ids.{call_of, CallHeld}
use Rattle.trigger_instances.specs.declared.calls.IdCall.{IdCall}
use Rattle.instance_rounds.specs.declared.given.Seen.{Seen}
use Rattle.instance_rounds.specs.Given.{AreGiven, IsSeen, SeenHeld}

map_kept : {X Y : Type 0} (f g : X → Y) (holds : X → Type 0) → ((x : X) → holds x → g x ≡ f x) → (xs : List X) → All holds xs → map g xs ≡ map f xs
map_kept f g holds same [] h = refl
map_kept f g holds same (x ∷ xs) h =
    let first = same x (All-head holds x xs h) in
    let rest = map_kept f g holds same xs (All-tail holds x xs h) in
    λ i. first i ∷ rest i

pub given_as : (us bs : List Tree) (cs ds : List Candidate) (fs gs : List Tree) → us ≡ bs → cs ≡ ds → fs ≡ gs → Given us cs fs → Given bs ds gs
given_as us bs cs ds fs gs e f h given = subst (λ zs. Given bs ds zs) h (subst (λ zs. Given bs zs fs) f (subst (λ zs. Given zs cs fs) e given))

module _ {Id : Type 0} (held held' : Id → Type 0) (tree tree' : Id → Tree) (kept : KeepsOlder held held' tree tree') where
  access_kept : (a : IdAccess Id) → AccessHeld held a → access_of tree' a ≡ access_of tree a
  access_kept a h =
      let block = kept.same_tree a.block h.0 in
      let offset = kept.same_tree a.offset h.1 in
      λ i. record { kind = a.kind; block = block i; offset = offset i }

  call_kept : (c : IdCall Id) → CallHeld held c → call_of tree' c ≡ call_of tree c
  call_kept c h = let number = kept.same_tree c.number h in λ i. record { name = c.name; number = number i }

  -- those on offsets were made before those of `forall`s
  pub both_given : (fs : List Logic) (ls : List Id) (ts : List Tree) (seen : Seen Id) (on_offsets of_foralls : List Tree)
      → All held ls → SeenHeld held seen → IsSeen fs (map tree ls) ts tree seen
      → Given (map tree ls ++ map marker (map tree seen.asked.items)) (offset_candidates (map (load_of tree) seen.loads.items)) on_offsets
      → Given (map tree' ls ++ map marker (map tree' seen.asked.items)) (forall_candidates fs (map (access_of tree') seen.accesses.items) (map (call_of tree') seen.calls.items) (map tree' ls)) of_foralls
      → AreGiven fs (map tree ls) ts on_offsets of_foralls
  both_given fs ls ts seen on_offsets of_foralls h k s offs foralls =
      let same_ls = kept_trees held held' tree tree' ls kept h in
      let same_asked = kept_trees held held' tree tree' seen.asked.items kept k.asked ∙ s.asked in
      let same_accesses = map_kept (access_of tree) (access_of tree') (AccessHeld held) access_kept seen.accesses.items k.accesses ∙ s.accesses in
      let same_calls = map_kept (call_of tree) (call_of tree') (CallHeld held) call_kept seen.calls.items k.calls ∙ s.calls in
      record {
        offsets = given_as _ _ _ _ _ _ (λ i. map tree ls ++ map marker (s.asked i)) (λ i. offset_candidates (s.loads i)) refl offs;
        foralls = given_as _ _ _ _ _ _ (λ i. same_ls i ++ map marker (same_asked i)) (λ i. forall_candidates fs (same_accesses i) (same_calls i) (same_ls i)) refl foralls;
      }
