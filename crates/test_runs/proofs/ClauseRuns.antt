-- Runs of small programs with sets, behaviors, labels, quantifiers and logic functions, by computing them.
use Rattle.std.proofs.Common.{refl}
use Rattle.test_runs.specs.Clauses.{ChangesNothing, Behaves, Loops, Labels, Says, Valid, Elsewhere, OnClauses}
use Rattle.c_runs.specs.Run.{levels}
use Rattle.c_runs.specs.Values.{applied}
use Rattle.c_runs.specs.Effects.{write}
use Rattle.wp_base.specs.Blocks.{block_at}

changes_nothing : ChangesNothing
unfolding levels applied write block_at
changes_nothing = record { own = refl; of_file = refl; named = refl; of_caller = refl; led_to = refl; of_no_such_kind = refl; without = refl }

behaves : Behaves
unfolding levels applied write block_at
behaves = record {
  asked = refl;
  met = refl;
  not_asked = refl;
  promised = refl;
  not_promised = refl;
  at_entry = refl;
  held_to = refl;
  not_held_to = refl;
}

loops : Loops
unfolding levels applied write block_at
loops = record { named = refl; not_named = refl; declared_inside = refl; by_inner = refl; named_by_inner = refl }

labels : Labels
unfolding levels applied write block_at
labels = record { entry = refl; no_entry = refl; at_heads = refl; second_head = refl; before = refl; not_now = refl; here_there = refl }

says : Says
unfolding levels applied write block_at
says = record {
  every = refl;
  not_every = refl;
  every_of_none = refl;
  every_backwards = refl;
  some = refl;
  some_of_none = refl;
  of_a_kind = refl;
  above_the_cut = refl;
  at_the_cut = refl;
  below_the_cut = refl;
  past_int = refl;
  by_zero = refl;
}

valid : Valid
unfolding levels applied write block_at
valid = record { inside = refl; ended = refl; no_element = refl; too_many = refl; of_char = refl }

elsewhere : Elsewhere
unfolding levels applied write block_at
elsewhere = refl

pub on_clauses : OnClauses
on_clauses = record { changes_nothing = changes_nothing; behaves_ = behaves; loops = loops; labels = labels; says_ = says; valid_ = valid; elsewhere = elsewhere }
