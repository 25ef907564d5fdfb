-- The laws as they are stated, from those of the crates below.
use Rattle.c_kinds.proofs.Converting.{split, rest_below, power_twice}
use Rattle.qed_terms.proofs.Division.{division_truncates}
use Rattle.qed_linear.proofs.Ring.{sum_times}
use Rattle.qed_substitution.proofs.Substituted.{replaced_means}
use Rattle.qed_numbers.proofs.Keeps.{integer_whole}
use Rattle.qed_memories.proofs.Cells.{same_cell_is}
use Rattle.qed_memories.proofs.Congruence.{so_alike}
use Rattle.qed_memories.proofs.Growth.{last_block, other_block}
use Rattle.qed_memories.proofs.Placed.{cell_answer, repeated_length}
use Rattle.qed_calls.proofs.Bodies.{arguments, placed}
use Rattle.qed_calls.proofs.Fixed.{calls_are_fixed}
use Rattle.qed_simplify.proofs.Laws.{normal-keeps, normal_is_one, settings_suit}
use Rattle.instance_rows.specs.Laws.{MadeBlocksAnswer, LayoutsAnswer, ConversionsWrap, QuotientsAreBounded, OperatorsAreBounded, CallsAreUnfolded, RoundFollows, RoundLeadsToOne}
use Rattle.instance_rows.proofs.Below.{Below}
use Rattle.instance_rows.proofs.Blocks.{allocs_valid, layouts_valid}
use Rattle.instance_rows.proofs.Conversions.{wraps_valid}
use Rattle.instance_rows.proofs.Quotients.{quotients_valid, operators_valid}
use Rattle.instance_rows.proofs.Unfolded.{calls_valid}
use Rattle.instance_rows.proofs.Rounds.{round_follows, round_leads_to_one}

below : Below
below = record {
  cell_answer = cell_answer;
  repeated_length = repeated_length;
  last_block = last_block;
  other_block = other_block;
  same_cell_is = same_cell_is;
  division = division_truncates;
  sum_times = sum_times;
  floor_split = split;
  floor_rest = rest_below;
  power_twice = power_twice;
  integer_whole = integer_whole;
  replacing = λ w x u t integer clear env. replaced_means w x u integer t env clear;
  truths = so_alike;
  normal_means = normal-keeps;
  one_normal = normal_is_one;
  suit = settings_suit;
  calls_fixed = calls_are_fixed;
  arguments_fit = arguments;
  arguments_put = placed;
}

pub made_blocks : MadeBlocksAnswer
made_blocks = allocs_valid below

pub layouts : LayoutsAnswer
layouts = layouts_valid below

pub conversions : ConversionsWrap
conversions = wraps_valid below

pub quotients : QuotientsAreBounded
quotients = quotients_valid below

pub operators : OperatorsAreBounded
operators = operators_valid below

pub calls : CallsAreUnfolded
calls = calls_valid below

pub round_keeps : RoundFollows
round_keeps = round_follows below

pub one_round : RoundLeadsToOne
one_round = round_leads_to_one below
