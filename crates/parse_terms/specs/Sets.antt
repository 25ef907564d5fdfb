-- What tells entries of sets from other terms, gathered in one walk over the term (ACSL 2.3.4).
use Rattle.std.specs.Prelude.{Bool, true, false, not, ◌&&◌, ◌||◌}
use Rattle.c_syntax.specs.declared.expr.UnOp.{UnOp}
use Rattle.c_syntax.specs.declared.expr.UnOp.TheVariants as u
use Rattle.c_syntax.specs.declared.expr.BinOp.{BinOp}
use Rattle.c_syntax.specs.declared.expr.BinOp.TheVariants as o
use Rattle.c_syntax.specs.Term as t
use Rattle.c_grammar.specs.Terms.{has_index, has_range, has_range_last, some_index, some_range, some_range_last, last_of, is_entry}
use Rattle.parse_terms.specs.declared.entries.Ranges.{Ranges}

-- a range of bounds without ranges
abbrev pub is_bare : t.Term → Bool
is_bare (t.range line lo hi) = not (has_range lo) && not (has_range hi)
is_bare _ = false

-- such a range, added to a term without ranges
abbrev pub is_sum : t.Term → Bool
is_sum (t.binary line o.Add a b) = not (has_range a) && is_bare b
is_sum _ = false

unfoldable pub ranges_of : t.Term → Ranges
ranges_of a = record { index = has_index a; range = has_range a; last = has_range_last a; bare = is_bare a; sum = is_sum a; entry = is_entry a }

unfoldable pub args_ranges : t.Terms → Ranges
args_ranges args = record { index = some_index args; range = some_range args; last = some_range_last args; bare = false; sum = false; entry = some_range_last args }

abbrev pub no_ranges : Ranges
no_ranges = record { index = false; range = false; last = true; bare = false; sum = false; entry = true }

-- those of a part are those of the whole
abbrev pub passed : Ranges → Ranges
passed r = record { index = r.index; range = r.range; last = r.last; bare = false; sum = false; entry = r.last }

-- of two parts, one behind the other
abbrev pub joined : Ranges → Ranges → Ranges
joined r r' =
    let last = last_of r.range r.last r'.range r'.last r'.index in
    record { index = r.index || r'.index; range = r.range || r'.range; last = last; bare = false; sum = false; entry = last }

abbrev pub is_deref : UnOp → Bool
is_deref u.Deref = true
is_deref _ = false

abbrev pub prefixed : UnOp → Ranges → Ranges
prefixed op r = record { index = r.index; range = r.range; last = r.last; bare = false; sum = false; entry = r.last || (is_deref op && r.sum) }

abbrev pub is_add : BinOp → Bool
is_add o.Add = true
is_add _ = false

abbrev pub summed : BinOp → Ranges → Ranges → Ranges
summed op r r' =
    let last = last_of r.range r.last r'.range r'.last r'.index in
    record { index = r.index || r'.index; range = r.range || r'.range; last = last; bare = false; sum = is_add op && (not r.range && r'.bare); entry = last }

abbrev pub indexed : Ranges → Ranges → Ranges
indexed r r' =
    let last = not r.range && (r'.bare || not r'.range) in
    record { index = true; range = r.range || r'.range; last = last; bare = false; sum = false; entry = last }

abbrev pub spanned : Ranges → Ranges → Ranges
spanned r r' = record { index = r.index || r'.index; range = true; last = false; bare = not r.range && not r'.range; sum = false; entry = false }
