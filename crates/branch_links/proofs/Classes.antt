-- Links over classes that stand for those of a branch are refuted where the branch is.
use Rattle.std.proofs.Common.{◌≡◌, ℕ, suc, List, [], ◌∷◌, length, refl, sym, ◌∙◌, ap, subst, inl, inr, arith}
use Rattle.std.specs.Prelude.{ℤ, pos, ◌<ℤ◌}
use Rattle.std.proofs.lemmas.Int.{ints}
use Rattle.qed_terms.specs.Tree.{Tree}
use Rattle.linear_chains.specs.Links.{Form, Link, positive, negative}
use Rattle.linear_chains.specs.Chains.{AllDiffer, NotAmong, Picks, IsRefuted}
use Rattle.linear_chains.specs.Chains as chains
use Rattle.branch_links.specs.BranchLinks.{BranchLink, AreLinks, bounds_of, SameStart, SameLink, ApartFrom, AllApart, Chained, IsChain, LinksRefute, literals_of, RefutedBy}
use Rattle.branch_links.specs.Numbered.{TellApart, StandsFor, StandForAll, At}
use Rattle.branch_links.specs.Laws.{RefutedByClasses}
use Rattle.branch_links.proofs.Agreeing.{StandAll, bounds_same, leads_there, leads_here, starts_there, starts_here, link_there, link_here, nothing_there, nothing_here}
use Rattle.branch_links.proofs.Walks.{starts, Along, walked, walk_along}

module _ (ls : List Tree) (count : ℕ) (tree : ℕ → Tree) (class : ℕ → ℕ) (tells : TellApart ls count tree class) where
  abbrev Stands : Link → BranchLink → Type 0
  Stands l m = StandsFor ls count tree class l m

  abbrev StandEach : List Link → List BranchLink → Type 0
  StandEach ks ms = StandAll ls count tree class tells ks ms

  -- ---- one leads to the next

  chained_here : (l : Link) (ks : List Link) (m : BranchLink) (ms : List BranchLink) (e : Link) (end : BranchLink) → Stands l m → StandEach ks ms → Stands e end → Along (negative (l.form)) ks (positive (e.form)) → Chained ls m ms end
  chained_here l [] m [] e end s q t h = leads_here ls count tree class tells l e m end s t h
  chained_here l [] m (n ∷ ms) e end s q t h = absurd q
  chained_here l (k ∷ ks) m [] e end s q t h = absurd q
  chained_here l (k ∷ ks) m (n ∷ ms) e end s q t h = (leads_here ls count tree class tells l k m n s q.0 h.0, chained_here k ks n ms e end q.0 q.1 t h.1)

  chained_there : (l : Link) (ks : List Link) (m : BranchLink) (ms : List BranchLink) (e : Link) (end : BranchLink) → Stands l m → StandEach ks ms → Stands e end → Chained ls m ms end → Along (negative (l.form)) ks (positive (e.form))
  chained_there l [] m [] e end s q t h = leads_there ls count tree class tells l e m end s t h
  chained_there l [] m (n ∷ ms) e end s q t h = absurd q
  chained_there l (k ∷ ks) m [] e end s q t h = absurd q
  chained_there l (k ∷ ks) m (n ∷ ms) e end s q t h = (leads_there ls count tree class tells l k m n s q.0 h.0, chained_there k ks n ms e end q.0 q.1 t h.1)

  -- ---- no two start with one side

  start_apart_here : (l : Link) (m : BranchLink) (ks : List Link) (ms : List BranchLink) → Stands l m → StandEach ks ms → NotAmong (positive (l.form)) (starts ks) → ApartFrom (SameStart ls) m ms
  start_apart_here l m [] [] s q h = tt
  start_apart_here l m [] (n ∷ ms) s q h = absurd q
  start_apart_here l m (k ∷ ks) [] s q h = absurd q
  start_apart_here l m (k ∷ ks) (n ∷ ms) s q h = ((λ e. h.0 (starts_there ls count tree class tells l k m n s q.0 e)), start_apart_here l m ks ms s q.1 h.1)

  starts_apart_here : (ks : List Link) (ms : List BranchLink) → StandEach ks ms → AllDiffer (starts ks) → AllApart (SameStart ls) ms
  starts_apart_here [] [] q h = tt
  starts_apart_here [] (m ∷ ms) q h = absurd q
  starts_apart_here (l ∷ ks) [] q h = absurd q
  starts_apart_here (l ∷ ks) (m ∷ ms) q h = (start_apart_here l m ks ms q.0 q.1 h.0, starts_apart_here ks ms q.1 h.1)

  start_apart_there : (l : Link) (m : BranchLink) (ks : List Link) (ms : List BranchLink) → Stands l m → StandEach ks ms → ApartFrom (SameStart ls) m ms → NotAmong (positive (l.form)) (starts ks)
  start_apart_there l m [] [] s q h = tt
  start_apart_there l m [] (n ∷ ms) s q h = absurd q
  start_apart_there l m (k ∷ ks) [] s q h = absurd q
  start_apart_there l m (k ∷ ks) (n ∷ ms) s q h = ((λ e. h.0 (starts_here ls count tree class tells l k m n s q.0 e)), start_apart_there l m ks ms s q.1 h.1)

  starts_apart_there : (ks : List Link) (ms : List BranchLink) → StandEach ks ms → AllApart (SameStart ls) ms → AllDiffer (starts ks)
  starts_apart_there [] [] q h = tt
  starts_apart_there [] (m ∷ ms) q h = absurd q
  starts_apart_there (l ∷ ks) [] q h = absurd q
  starts_apart_there (l ∷ ks) (m ∷ ms) q h = (start_apart_there l m ks ms q.0 q.1 h.0, starts_apart_there ks ms q.1 h.1)

  -- ---- no two are one link

  link_apart_here : (l : Link) (m : BranchLink) (ks : List Link) (ms : List BranchLink) → Stands l m → StandEach ks ms → NotAmong l ks → ApartFrom (SameLink ls) m ms
  link_apart_here l m [] [] s q h = tt
  link_apart_here l m [] (n ∷ ms) s q h = absurd q
  link_apart_here l m (k ∷ ks) [] s q h = absurd q
  link_apart_here l m (k ∷ ks) (n ∷ ms) s q h = ((λ e. h.0 (link_there ls count tree class tells l k m n s q.0 e)), link_apart_here l m ks ms s q.1 h.1)

  links_apart_here : (ks : List Link) (ms : List BranchLink) → StandEach ks ms → AllDiffer ks → AllApart (SameLink ls) ms
  links_apart_here [] [] q h = tt
  links_apart_here [] (m ∷ ms) q h = absurd q
  links_apart_here (l ∷ ks) [] q h = absurd q
  links_apart_here (l ∷ ks) (m ∷ ms) q h = (link_apart_here l m ks ms q.0 q.1 h.0, links_apart_here ks ms q.1 h.1)

  link_apart_there : (l : Link) (m : BranchLink) (ks : List Link) (ms : List BranchLink) → Stands l m → StandEach ks ms → ApartFrom (SameLink ls) m ms → NotAmong l ks
  link_apart_there l m [] [] s q h = tt
  link_apart_there l m [] (n ∷ ms) s q h = absurd q
  link_apart_there l m (k ∷ ks) [] s q h = absurd q
  link_apart_there l m (k ∷ ks) (n ∷ ms) s q h = ((λ e. h.0 (link_here ls count tree class tells l k m n s q.0 e)), link_apart_there l m ks ms s q.1 h.1)

  links_apart_there : (ks : List Link) (ms : List BranchLink) → StandEach ks ms → AllApart (SameLink ls) ms → AllDiffer ks
  links_apart_there [] [] q h = tt
  links_apart_there [] (m ∷ ms) q h = absurd q
  links_apart_there (l ∷ ks) [] q h = absurd q
  links_apart_there (l ∷ ks) (m ∷ ms) q h = (link_apart_there l m ks ms q.0 q.1 h.0, links_apart_there ks ms q.1 h.1)

  same_length : (ks : List Link) (ms : List BranchLink) → StandEach ks ms → length ks ≡ length ms
  same_length [] [] q = refl
  same_length [] (m ∷ ms) q = absurd q
  same_length (l ∷ ks) [] q = absurd q
  same_length (l ∷ ks) (m ∷ ms) q = ap suc (same_length ks ms q.1)

  module _ (links : List Link) (literals : List Tree) (stand : StandForAll ls count tree class links literals) where
    picked_length : (ks : List ℕ) (picked : List Link) → Picks links ks picked → length ks ≡ length picked
    picked_length [] [] p = refl
    picked_length [] (l ∷ picked) p = absurd p
    picked_length (k ∷ ks) [] p = absurd p
    picked_length (k ∷ ks) (l ∷ picked) p = ap suc (picked_length ks picked p.1)

    -- ---- the links at places, and places of links

    record Picked (ks : List ℕ) (picked : List Link) : Type 0 where
      those : List BranchLink
      stand_each : StandEach picked those
      are : AreLinks ls those
      at : At literals ks (literals_of those)

    pick_all : (ks : List ℕ) (picked : List Link) → Picks links ks picked → Picked ks picked
    pick_all [] [] p = record { those = []; stand_each = tt; are = tt; at = tt }
    pick_all [] (l ∷ picked) p = absurd p
    pick_all (k ∷ ks) [] p = absurd p
    pick_all (k ∷ ks) (l ∷ picked) p =
        let e = stand.each k l p.0 in
        let r = pick_all ks picked p.1 in
        record { those = e.0 ∷ r.those; stand_each = (e.2, r.stand_each); are = (e.1, r.are); at = (e.3, r.at) }

    record Placed (ms : List BranchLink) : Type 0 where
      places : List ℕ
      there : List Link
      picks : Picks links places there
      stand_each : StandEach there ms

    place_all : (ms : List BranchLink) → AreLinks ls ms → Placed ms
    place_all [] all = record { places = []; there = []; picks = tt; stand_each = tt }
    place_all (m ∷ ms) all =
        let e = stand.every m all.0 in
        let r = place_all ms all.1 in
        record { places = e.0 ∷ r.places; there = e.1 ∷ r.there; picks = (e.2, r.picks); stand_each = (e.3, r.stand_each) }

    -- ---- from classes to the branch

    chain_here : (picked : List Link) (ms : List BranchLink) (start : Form) → StandEach picked ms → Along start picked start → AllDiffer (starts picked) → chains.bounds_of picked <ℤ pos 0 → IsChain ls ms
    chain_here [] [] start q a once neg = absurd (omega (arith, ints, neg))
    chain_here [] (m ∷ ms) start q a once neg = absurd q
    chain_here (l ∷ ks) [] start q a once neg = absurd q
    chain_here (l ∷ ks) (m ∷ ms) start q a once neg =
        (chained_here l ks m ms l m q.0 q.1 q.0 (subst (Along (negative (l.form)) ks) a.0 a.1), starts_apart_here (l ∷ ks) (m ∷ ms) q once)

    negative_here : (picked : List Link) (ms : List BranchLink) (total : ℤ) → StandEach picked ms → total ≡ chains.bounds_of picked → total <ℤ pos 0 → bounds_of ms <ℤ pos 0
    negative_here picked ms total q e neg = subst (λ z. z <ℤ pos 0) (e ∙ bounds_same ls count tree class tells picked ms q) neg

    pub from_classes : (ks : List ℕ) (total : ℤ) → IsRefuted links ks total → (taken : List Tree) × At literals ks taken × RefutedBy ls taken
    from_classes ks total (inl c) =
        let w = walked links (c.walk) in
        let p = pick_all ks (w.picked) (w.picks) in
        let once = subst AllDiffer (w.sides) (c.once) in
        let below = subst (λ z. z <ℤ pos 0) (w.sum) (c.negative) in (
          literals_of (p.those),
          p.at,
          (
            p.those,
            record {
              links = p.are;
              so = inl (chain_here (w.picked) (p.those) (c.start) (p.stand_each) (w.along) once below);
              negative = negative_here (w.picked) (p.those) total (p.stand_each) (w.sum) (c.negative);
            },
            refl,
          ),
        )
    from_classes ks total (inr s) =
        let p = pick_all ks (s.picked) (s.picks) in
        let few = s.few in (
          literals_of (p.those),
          p.at,
          (
            p.those,
            record {
              links = p.are;
              so = inr (record {
                few = let a = picked_length ks (s.picked) (s.picks) in let b = same_length (s.picked) (p.those) (p.stand_each) in omega arith;
                differ = links_apart_here (s.picked) (p.those) (p.stand_each) (s.differ);
                nothing = nothing_here ls count tree class tells (s.picked) (p.those) (p.stand_each) (s.nothing);
              });
              negative = negative_here (s.picked) (p.those) total (p.stand_each) (s.sum) (s.negative);
            },
            refl,
          ),
        )

    -- ---- and back

    chain_there : (ks : List ℕ) (picked : List Link) (ms : List BranchLink) → Picks links ks picked → StandEach picked ms → IsChain ls ms → chains.bounds_of picked <ℤ pos 0 → IsRefuted links ks (chains.bounds_of picked)
    chain_there ks [] [] p q c neg = absurd c
    chain_there ks [] (m ∷ ms) p q c neg = absurd q
    chain_there ks (l ∷ picked) [] p q c neg = absurd q
    chain_there ks (l ∷ picked) (m ∷ ms) p q c neg =
        let a = chained_there l picked m ms l m q.0 q.1 q.0 c.0 in
        inl (record {
          start = positive (l.form);
          sides = starts (l ∷ picked);
          walk = walk_along links ks (l ∷ picked) (positive (l.form)) (positive (l.form)) p (refl, a);
          once = starts_apart_there (l ∷ picked) (m ∷ ms) q c.1;
          negative = neg;
        })

    pub to_classes : LinksRefute ls → (ks : List ℕ) × (total : ℤ) × IsRefuted links ks total
    to_classes r =
        let p = place_all r.0 (r.1.links) in
        let total = chains.bounds_of (p.there) in
        let same = bounds_same ls count tree class tells (p.there) r.0 (p.stand_each) in
        let neg : total <ℤ pos 0 = subst (λ z. z <ℤ pos 0) (sym same) (r.1.negative) in (
          p.places,
          total,
          elim (r.1.so) [
            | inl c ↦ chain_there (p.places) (p.there) r.0 (p.picks) (p.stand_each) c neg
            | inr s ↦
                let few = s.few in
                inr (record {
                  picked = p.there;
                  picks = p.picks;
                  few = let a = picked_length (p.places) (p.there) (p.picks) in let b = same_length (p.there) r.0 (p.stand_each) in omega arith;
                  differ = links_apart_there (p.there) r.0 (p.stand_each) (s.differ);
                  nothing = nothing_there ls count tree class tells (p.there) r.0 (p.stand_each) (s.nothing);
                  sum = refl;
                  negative = neg;
                })
          ],
        )

pub refuted_by_classes : RefutedByClasses
refuted_by_classes ls count tree class links literals tells stand = (from_classes ls count tree class tells links literals stand, to_classes ls count tree class tells links literals stand)
