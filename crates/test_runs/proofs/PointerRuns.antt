-- Runs of small programs with pointers, by computing them.
use Rattle.std.proofs.Common.{refl}
use Rattle.test_runs.specs.Pointers.{Compares, OfNull, OfEnded, Writes, Finds, Calls, Scopes, OnPointers}
use Rattle.c_runs.specs.Run.{levels}
use Rattle.c_runs.specs.Values.{applied}
use Rattle.c_runs.specs.Effects.{write}
use Rattle.wp_base.specs.Blocks.{block_at}

compares : Compares
unfolding levels applied write block_at
compares = record {
  in_one = refl;
  behind = refl;
  in_two = refl;
  equal = refl;
  unequal = refl;
  null_order = refl;
  null_equal = refl;
  elements = refl;
  backwards = refl;
  between_two = refl;
  before = refl;
}

of_null : OfNull
unfolding levels applied write block_at
of_null = record { followed = refl; is_null = refl; still = refl }

of_ended : OfEnded
unfolding levels applied write block_at
of_ended = record { equal = refl; not_null = refl; order = refl; moved_ = refl }

writes : Writes
unfolding levels applied write block_at
writes = record { well = refl; constant = refl; constant_read = refl; other_kind = refl; other_kind_read = refl }

finds : Finds
unfolding levels applied write block_at
finds = record { last = refl; first_ = refl; next_struct = refl; both_out = refl; below = refl }

calls : Calls
unfolding levels applied write block_at
calls = record { lends_ = refl; hands_out_ = refl; keeps_ = refl }

scopes : Scopes
unfolding levels applied write block_at
scopes = record { anew_ = refl; of_last_pass_ = refl }

pub on_pointers : OnPointers
on_pointers = record { compares_ = compares; of_null_ = of_null; of_ended_ = of_ended; writes_ = writes; finds_ = finds; calls = calls; scopes = scopes }
