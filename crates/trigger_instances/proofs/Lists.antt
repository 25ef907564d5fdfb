-- Lists of candidates, with one item more.
use Rattle.std.proofs.Common.{◌≡◌, ℕ, ◌+◌, ◌<◌, ◌≤◌, List, [], ◌∷◌, ◌++◌, map, take, length, get_or, append_assoc, refl, sym, ◌∙◌, ap}
use Rattle.std.specs.Prelude.{Option, Some, None}
use Rattle.std.proofs.lemmas.List.{map_push, take_all}
use Rattle.qed_terms.specs.Setting.{Logic}
use Rattle.qed_terms.specs.Tree.{Tree}
use Rattle.instance_rows.specs.Accesses.{Access, access_at}
use Rattle.instance_rows.specs.Triggers.{Call, Quantified, call_at, quantified_at, instance_by_access, instance_by_call}
use Rattle.instance_rows.specs.Candidates.{Candidate, with_instance, by_access, by_call, if_access, if_call, by_nodes, by_literal, forall_candidates}
use Rattle.branch_accesses.proofs.Gathered.{nil_behind, take_one}
use Rattle.trigger_instances.specs.Ids.{by_one_access, by_one_call, by_one_node}

with_behind : (o : Option Tree) (us : List (Tree × Tree)) (cs : List Candidate) → with_instance o us cs ≡ with_instance o us [] ++ cs
with_behind None us cs = refl
with_behind (Some f) us cs = refl

pub access_push : (q : Quantified) (a : Access) (cs : List Access) (c : Access) → by_access q a (cs ++ c ∷ []) ≡ by_access q a cs ++ by_one_access q a c
access_push q a [] c = refl
access_push q a (d ∷ cs) c =
    let o = instance_by_access q a d in
    let us = (a.block, d.block) ∷ [] in
    ap (with_instance o us) (access_push q a cs c) ∙ with_behind o us (by_access q a cs ++ by_one_access q a c)
    ∙ sym (append_assoc (with_instance o us []) (by_access q a cs) (by_one_access q a c)) ∙ ap (λ ds. ds ++ by_one_access q a c) (sym (with_behind o us (by_access q a cs)))

pub call_push : (q : Quantified) (a : Call) (cs : List Call) (c : Call) → by_call q a (cs ++ c ∷ []) ≡ by_call q a cs ++ by_one_call q a c
call_push q a [] c = refl
call_push q a (d ∷ cs) c =
    let o = instance_by_call q a d in
    ap (with_instance o []) (call_push q a cs c) ∙ with_behind o [] (by_call q a cs ++ by_one_call q a c)
    ∙ sym (append_assoc (with_instance o [] []) (by_call q a cs) (by_one_call q a c)) ∙ ap (λ ds. ds ++ by_one_call q a c) (sym (with_behind o [] (by_call q a cs)))

module _ (fs : List Logic) (accesses : List Access) (calls : List Call) where
  pub node_push : (q : Quantified) (ts : List Tree) (t : Tree) → by_nodes fs accesses calls q (ts ++ t ∷ []) ≡ by_nodes fs accesses calls q ts ++ by_one_node fs accesses calls q t
  node_push q [] t = ap (λ cs. if_access q (access_at t) accesses ++ cs) (nil_behind (if_call q (call_at fs t) calls))
  node_push q (u ∷ ts) t =
      let a = if_access q (access_at u) accesses in
      let b = if_call q (call_at fs u) calls in
      let rest = by_nodes fs accesses calls q ts in
      let one = by_one_node fs accesses calls q t in
      ap (λ cs. a ++ (b ++ cs)) (node_push q ts t) ∙ ap (λ cs. a ++ cs) (sym (append_assoc b rest one)) ∙ sym (append_assoc a (b ++ rest) one)

  pub literal_push : (ls : List Tree) (l : Tree) → forall_candidates fs accesses calls (ls ++ l ∷ []) ≡ forall_candidates fs accesses calls ls ++ by_literal fs accesses calls (quantified_at l)
  literal_push [] l = nil_behind (by_literal fs accesses calls (quantified_at l))
  literal_push (k ∷ ls) l =
      let here = by_literal fs accesses calls (quantified_at k) in
      let rest = forall_candidates fs accesses calls ls in
      let one = by_literal fs accesses calls (quantified_at l) in
      ap (λ cs. here ++ cs) (literal_push ls l) ∙ sym (append_assoc here rest one)

-- an item more of those that are seen in some way
pub seen_more : {X A : Type 0} (view : X → A) (xs : List X) (i : ℕ) (x : X) → i < length xs → x ≡ get_or xs i x → map view (take (i + 1) xs) ≡ map view (take i xs) ++ view x ∷ []
seen_more view xs i x k e = ap (map view) (take_one xs i x k e) ∙ map_push view (take i xs) x

pub seen_all : {X A : Type 0} (view : X → A) (xs : List X) (i : ℕ) → length xs ≤ i → map view (take i xs) ≡ map view xs
seen_all view xs i k = ap (map view) (take_all i xs k)
