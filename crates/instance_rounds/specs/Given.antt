-- The formulas of a round that hang on which terms are same, over the literals of a branch and what occurs in it.
use Rattle.std.specs.Prelude.{◌≡◌, List, ◌++◌, map, All}
use Rattle.qed_terms.specs.Setting.{Logic}
use Rattle.qed_terms.specs.Tree.{Tree}
use Rattle.instance_rows.specs.Accesses.{loads_in, accesses_in}
use Rattle.instance_rows.specs.Triggers.{calls_in}
use Rattle.instance_rows.specs.Candidates.{Given, offset_candidates, forall_candidates, asked_terms, marker}
use Rattle.branch_accesses.specs.Ids.{access_of, load_of, AccessHeld, LoadHeld}
use Rattle.trigger_instances.specs.Ids.{call_of, CallHeld}
use Rattle.instance_rounds.specs.declared.given.Seen.{Seen}

pub record AreGiven (fs : List Logic) (ls ts on_offsets of_foralls : List Tree) : Type 0 where
  pub offsets : Given (ls ++ map marker (asked_terms (loads_in ts) (accesses_in ts) ls)) (offset_candidates (loads_in ts)) on_offsets
  pub foralls : Given (ls ++ map marker (asked_terms (loads_in ts) (accesses_in ts) ls)) (forall_candidates fs (accesses_in ts) (calls_in fs ts) ls) of_foralls

-- what was seen is what occurs
pub record IsSeen {Id : Type 0} (fs : List Logic) (ls ts : List Tree) (tree : Id → Tree) (seen : Seen Id) : Type 0 where
  pub loads : map (load_of tree) seen.loads.items ≡ loads_in ts
  pub accesses : map (access_of tree) seen.accesses.items ≡ accesses_in ts
  pub calls : map (call_of tree) seen.calls.items ≡ calls_in fs ts
  pub asked : map tree seen.asked.items ≡ asked_terms (loads_in ts) (accesses_in ts) ls

pub record SeenHeld {Id : Type 0} (held : Id → Type 0) (seen : Seen Id) : Type 0 where
  pub loads : All (LoadHeld held) seen.loads.items
  pub accesses : All (AccessHeld held) seen.accesses.items
  pub calls : All (CallHeld held) seen.calls.items
  pub asked : All held seen.asked.items
