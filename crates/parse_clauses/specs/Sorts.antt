-- The clauses of a contract, a behavior or a loop, by their sorts (ACSL 2.3, 2.4.2, 2.5).
use Rattle.std.specs.Prelude.{ℕ, Bool, List, ◌++◌}
use Rattle.c_syntax.specs.Contract.{Clause, Measure, AssignsClause, Behavior, LoopAnnot, Contract}
use Rattle.c_grammar.specs.Annots.{Item, Ending, requires_of, ensures_of, assumes_of, invariants_of, assigns_of, decreases_of, variants_of, assigns_or_none, first_of, is_in_contract, is_in_behavior, is_in_loop, complete_of, disjoint_of}
use Rattle.parse_clauses.specs.declared.items.Part.{Part}
use Rattle.parse_clauses.specs.declared.items.Part.TheVariants as part

pub record Sorted : Type 0 where
  pub requires_ : List Clause
  pub ensures_ : List Clause
  pub assumes : List Clause
  pub invariants : List Clause
  pub assigns : List AssignsClause
  pub decreases_ : List Measure
  pub variants : List Measure

abbrev pub sorted_of : List Item → Sorted
sorted_of items = record {
  requires_ = requires_of items;
  ensures_ = ensures_of items;
  assumes = assumes_of items;
  invariants = invariants_of items;
  assigns = assigns_of items;
  decreases_ = decreases_of items;
  variants = variants_of items;
}

-- those of the one, and then those of the other
abbrev pub and_then : Sorted → Sorted → Sorted
and_then s s' = record {
  requires_ = s.requires_ ++ s'.requires_;
  ensures_ = s.ensures_ ++ s'.ensures_;
  assumes = s.assumes ++ s'.assumes;
  invariants = s.invariants ++ s'.invariants;
  assigns = s.assigns ++ s'.assigns;
  decreases_ = s.decreases_ ++ s'.decreases_;
  variants = s.variants ++ s'.variants;
}

-- whether the clause may stand in this part
abbrev pub is_in : Part → Item → Bool
is_in part.Contract item = is_in_contract item
is_in part.Behavior item = is_in_behavior item
is_in part.Loop item = is_in_loop item

abbrev pub behavior_of : (place : ℕ) → List ℕ × ℕ → Sorted → Behavior
behavior_of place x s = record {
  name = x.0;
  assumes = s.assumes;
  requires_ = s.requires_;
  assigns = assigns_or_none s.assigns;
  ensures_ = s.ensures_;
  line = x.1;
  place = place;
}

abbrev pub loop_made : Sorted → LoopAnnot
loop_made s = record { invariants = s.invariants; assigns = assigns_or_none s.assigns; variant = first_of s.variants }

abbrev pub contract_made : Sorted → List Behavior → List Ending → Contract
contract_made s behaviors endings = record {
  requires_ = s.requires_;
  assigns = assigns_or_none s.assigns;
  ensures_ = s.ensures_;
  decreases_ = first_of s.decreases_;
  behaviors = behaviors;
  complete = complete_of endings;
  disjoint = disjoint_of endings;
}
