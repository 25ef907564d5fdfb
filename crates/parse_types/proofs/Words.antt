-- The words of the integer kinds.
use Rattle.std.proofs.Common.{◌≡◌, ℕ, suc, ◌+◌, Bool, true, false, cond, List, map, refl, arith, count_by}
use Rattle.std.proofs.lemmas.List.Recursion.{is_count_by}
use denote.Enum.Bare.{sameb}
use Rattle.c_syntax.specs.contracts.token.Word.{the_type}
use Rattle.c_syntax.specs.declared.token.Word.{Word}
use Rattle.c_grammar.specs.Types.{times, kind_rows, kind_of}
use Rattle.parse_types.specs.Read.{kind_among}
use Rattle.parse_types.specs.declared.kinds.TheConstants.{KIND_ROWS}

counted : (b : Bool) (n : ℕ) → cond b (suc n) n ≡ cond b (1 + n) n
counted true n = omega arith
counted false n = refl

pub times_counts : (x : Word) (ys : List Word) → times x ys ≡ count_by (λ y. sameb the_type x y) ys
times_counts x ys = is_count_by (times x) (λ y. sameb the_type x y) refl (λ y ys. counted (sameb the_type x y) (times x ys)) ys

-- the code's table is that of the grammar
pub kind_table : map (λ row. (row.0.now, row.1)) KIND_ROWS ≡ kind_rows
unfolding kind_rows
kind_table = refl

pub kind_among_is : (ws : List Word) → kind_among kind_rows ws ≡ kind_of ws
unfolding kind_of
kind_among_is ws = refl
