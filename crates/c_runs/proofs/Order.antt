-- What is said of several behaviors, in the order in which it is tested.
use Rattle.std.proofs.Common.{◌≡◌, Bool, true, false, List, [], ◌∷◌, ◌++◌, Option, Some, None, refl, sym, ap, ◌∙◌}
use Rattle.std.specs.List.{filter}
use Rattle.c_runs.specs.TruthStates.{World}
use Rattle.c_runs.specs.Program.{Behavior, Together, Contract, Facts}
use Rattle.c_runs.specs.Claims.{Stop, or_stop, together_holds, all_together, says_complete, says_disjoint, entered_well}
use Rattle.c_runs.specs.Laws.{first_broken, CompleteComesFirst}

or_stop_assoc : (a b c : Option Stop) → or_stop (or_stop a b) c ≡ or_stop a (or_stop b c)
or_stop_assoc (Some s) b c = refl
or_stop_assoc None b c = refl

module _ (p : Facts) (w : World) (bs : List Behavior) where
  joined : (ts us : List Together) → all_together p w bs (ts ++ us) ≡ or_stop (all_together p w bs ts) (all_together p w bs us)
  joined [] us = refl
  joined (t ∷ ts) us =
      ap (or_stop (together_holds p w bs t)) (joined ts us) ∙ sym (or_stop_assoc (together_holds p w bs t) (all_together p w bs ts) (all_together p w bs us))

  complete_one : (t : Together) (ts : List Together) (b : Bool) → t.is_complete ≡ b
      → all_together p w bs (filter says_complete ts) ≡ first_broken true p w bs ts
      → all_together p w bs (filter says_complete (t ∷ ts)) ≡ first_broken true p w bs (t ∷ ts)
  complete_one t ts true h so_far = rw h (ap (or_stop _) so_far)
  complete_one t ts false h so_far = rw h so_far

  complete_ones : (ts : List Together) → all_together p w bs (filter says_complete ts) ≡ first_broken true p w bs ts
  complete_ones [] = refl
  complete_ones (t ∷ ts) = complete_one t ts t.is_complete refl (complete_ones ts)

  disjoint_one : (t : Together) (ts : List Together) (b : Bool) → t.is_complete ≡ b
      → all_together p w bs (filter says_disjoint ts) ≡ first_broken false p w bs ts
      → all_together p w bs (filter says_disjoint (t ∷ ts)) ≡ first_broken false p w bs (t ∷ ts)
  disjoint_one t ts true h so_far = rw h so_far
  disjoint_one t ts false h so_far = rw h (ap (or_stop _) so_far)

  disjoint_ones : (ts : List Together) → all_together p w bs (filter says_disjoint ts) ≡ first_broken false p w bs ts
  disjoint_ones [] = refl
  disjoint_ones (t ∷ ts) = disjoint_one t ts t.is_complete refl (disjoint_ones ts)

pub complete_comes_first : CompleteComesFirst
complete_comes_first p w c =
    joined p w c.behaviors (filter says_complete c.together) (filter says_disjoint c.together)
    ∙ ap (λ o. or_stop o (all_together p w c.behaviors (filter says_disjoint c.together))) (complete_ones p w c.behaviors c.together)
    ∙ ap (or_stop (first_broken true p w c.behaviors c.together)) (disjoint_ones p w c.behaviors c.together)
