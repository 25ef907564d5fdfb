-- Where ranges stand in a term, by its parts.
use Rattle.std.proofs.Common.{◌≡◌, ℕ, ℤ, ◌+◌, ◌<◌, ◌≤◌, Bool, true, false, not, ◌&&◌, ◌||◌, List, refl, sym, ap, ◌∙◌, map, drop, length, get_or}
use Rattle.std.proofs.lemmas.List.{at_drop_more, at_drop_all}
use Rattle.c_syntax.specs.declared.annot.Term.{Term}
use Rattle.c_syntax.specs.View.{view_term}
use Rattle.c_syntax.specs.declared.token.Token.{Token}
use Rattle.c_syntax.specs.declared.expr.UnOp.{UnOp}
use Rattle.c_syntax.specs.declared.expr.UnOp.TheVariants as u
use Rattle.c_syntax.specs.declared.expr.BinOp.{BinOp}
use Rattle.c_syntax.specs.declared.expr.BinOp.TheVariants as o
use Rattle.c_syntax.specs.Expr.{CType}
use Rattle.c_syntax.specs.Term as t
use Rattle.c_grammar.specs.Terms.{has_index, has_range, has_range_last, last_of, last_index, is_entry}
use Rattle.parse_terms.specs.declared.entries.Ranges.{Ranges}
use Rattle.parse_terms.specs.Sets.{ranges_of, args_ranges, no_ranges, passed, joined, prefixed, summed, indexed, spanned, is_bare, is_sum, is_deref, is_add}

or_false : (b : Bool) → b ≡ b || false
or_false true = refl
or_false false = refl

or_and_false : (b c : Bool) → b ≡ b || (c && false)
or_and_false true c = refl
or_and_false false true = refl
or_and_false false false = refl

-- a sum of a range is no other entry
range_added : (ra la ib bare : Bool) → not ra && bare ≡ last_of ra la true false ib || (not ra && bare)
range_added true true ib bare = refl
range_added true false ib bare = refl
range_added false la ib bare = refl

sum_entry : (line line' : ℕ) (a b : t.Term) → is_entry (t.unary line u.Deref (t.binary line' o.Add a b)) ≡ has_range_last (t.binary line' o.Add a b) || (not (has_range a) && is_bare b)
sum_entry line line' a (t.range line'' lo hi) = range_added (has_range a) (has_range_last a) (has_index lo || has_index hi) (not (has_range lo) && not (has_range hi))
sum_entry line line' a b = or_and_false (has_range_last (t.binary line' o.Add a b)) (not (has_range a))

deref_entry : (line : ℕ) (a : t.Term) → is_entry (t.unary line u.Deref a) ≡ has_range_last a || is_sum a
deref_entry line (t.binary line' o.Add a b) = sum_entry line line' a b
deref_entry line a = or_false (has_range_last a)

unary_entry : (line : ℕ) (op : UnOp) (a : t.Term) → is_entry (t.unary line op a) ≡ has_range_last a || (is_deref op && is_sum a)
unary_entry line u.Deref a = deref_entry line a
unary_entry line op a = or_false (has_range_last a)

-- ---- by what the term is

pub ranges_number : (line : ℕ) (tok : Token) → ranges_of (t.number line tok) ≡ no_ranges
unfolding ranges_of
ranges_number line tok = refl

pub ranges_char : (line : ℕ) (value : ℤ) → ranges_of (t.char line value) ≡ no_ranges
unfolding ranges_of
ranges_char line value = refl

pub ranges_name : (line : ℕ) (x : List ℕ) → ranges_of (t.name line x) ≡ no_ranges
unfolding ranges_of
ranges_name line x = refl

pub ranges_result : (line : ℕ) → ranges_of (t.result line) ≡ no_ranges
unfolding ranges_of
ranges_result line = refl

pub ranges_null : (line : ℕ) → ranges_of (t.null line) ≡ no_ranges
unfolding ranges_of
ranges_null line = refl

pub ranges_unary : (line : ℕ) (op : UnOp) (a : t.Term) → ranges_of (t.unary line op a) ≡ prefixed op (ranges_of a)
unfolding ranges_of
ranges_unary line op a = λ i. record { index = has_index a; range = has_range a; last = has_range_last a; bare = false; sum = false; entry = unary_entry line op a i }

no_sum : (op : BinOp) (line : ℕ) (a b : t.Term) → is_sum (t.binary line op a b) ≡ is_add op && (not (has_range a) && is_bare b)
no_sum o.Add line a b = refl
no_sum op line a b = refl

pub ranges_binary : (line : ℕ) (op : BinOp) (a b : t.Term) → ranges_of (t.binary line op a b) ≡ summed op (ranges_of a) (ranges_of b)
unfolding ranges_of
ranges_binary line op a b =
    let last = has_range_last (t.binary line op a b) in
    λ i. record { index = has_index a || has_index b; range = has_range a || has_range b; last = last; bare = false; sum = no_sum op line a b i; entry = last }

pub ranges_cond : (line : ℕ) (a b c : t.Term) → ranges_of (t.cond line a b c) ≡ joined (ranges_of a) (joined (ranges_of b) (ranges_of c))
unfolding ranges_of
ranges_cond line a b c = refl

pub ranges_call : (line : ℕ) (f : List ℕ) (args : t.Terms) → ranges_of (t.call line f args) ≡ args_ranges args
unfolding ranges_of args_ranges
ranges_call line f args = refl

last_in_index : (a : Bool) (b : t.Term) → last_index b a (has_range b) ≡ not a && (is_bare b || not (has_range b))
last_in_index a (t.range line lo hi) = ap (λ b. not a && b) (or_false (not (has_range lo) && not (has_range hi)))
last_in_index a b = refl

pub ranges_index : (line : ℕ) (a b : t.Term) → ranges_of (t.index line a b) ≡ indexed (ranges_of a) (ranges_of b)
unfolding ranges_of
ranges_index line a b =
    λ i. record { index = true; range = has_range a || has_range b; last = last_in_index (has_range a) b i; bare = false; sum = false; entry = last_in_index (has_range a) b i }

pub ranges_field : (line : ℕ) (a : t.Term) (f : List ℕ) (arrow : Bool) → ranges_of (t.field line a f arrow) ≡ passed (ranges_of a)
unfolding ranges_of
ranges_field line a f arrow = refl

pub ranges_cast : (line : ℕ) (type : CType) (a : t.Term) → ranges_of (t.cast line type a) ≡ passed (ranges_of a)
unfolding ranges_of
ranges_cast line type a = refl

pub ranges_old : (line : ℕ) (a : t.Term) → ranges_of (t.old line a) ≡ passed (ranges_of a)
unfolding ranges_of
ranges_old line a = refl

pub ranges_at : (line : ℕ) (a : t.Term) (label : List ℕ) → ranges_of (t.at_label line a label) ≡ passed (ranges_of a)
unfolding ranges_of
ranges_at line a label = refl

pub ranges_range : (line : ℕ) (a b : t.Term) → ranges_of (t.range line a b) ≡ spanned (ranges_of a) (ranges_of b)
unfolding ranges_of
ranges_range line a b = refl

pub ruleset ranges_laws = (ranges_number, ranges_char, ranges_name, ranges_result, ranges_null, ranges_unary, ranges_binary, ranges_cond, ranges_call, ranges_index, ranges_field, ranges_cast, ranges_old, ranges_at, ranges_range)

-- ---- arguments

or_assoc : (a b c : Bool) → (a || b) || c ≡ a || (b || c)
or_assoc true b c = refl
or_assoc false b c = refl

last_assoc : (ra la rb lb ib rc lc ic : Bool) → last_of (ra || rb) (last_of ra la rb lb ib) rc lc ic ≡ last_of ra la (rb || rc) (last_of rb lb rc lc ic) (ib || ic)
last_assoc true false rb lb ib rc lc ic = refl
last_assoc true true true lb ib rc lc ic = refl
last_assoc true true false lb true true lc ic = refl
last_assoc true true false lb true false lc ic = refl
last_assoc true true false lb false rc lc ic = refl
last_assoc false la true lb ib rc lc ic = refl
last_assoc false la false lb ib rc lc ic = refl

joined_assoc : (r s u : Ranges) → joined (joined r s) u ≡ joined r (joined s u)
joined_assoc r s u =
    let index = or_assoc r.index s.index u.index in
    let range = or_assoc r.range s.range u.range in
    let last = last_assoc r.range r.last s.range s.last s.index u.range u.last u.index in
    λ i. record { index = index i; range = range i; last = last i; bare = false; sum = false; entry = last i }

abbrev pub rest_ranges : (items : List Term) (i : ℕ) → Ranges
rest_ranges items i = args_ranges (t.terms_of (map view_term (drop i items)))

pub args_next : (items : List Term) (i : ℕ) (x : Term) (r r' : Ranges) → i < length items → x ≡ get_or items i x → r' ≡ joined r (ranges_of (view_term x)) → joined r' (rest_ranges items (i + 1)) ≡ joined r (rest_ranges items i)
unfolding args_ranges ranges_of
args_next items i x r r' lt is made =
    ap (λ r. joined r (rest_ranges items (i + 1))) made
    ∙ joined_assoc r (ranges_of (view_term x)) (rest_ranges items (i + 1))
    ∙ ap (joined r) (ap (λ x. args_ranges (t.more (view_term x) (t.terms_of (map view_term (drop (i + 1) items))))) is ∙ sym (at_drop_more (λ xs. args_ranges (t.terms_of (map view_term xs))) items i x lt))

pub args_end : (items : List Term) (i : ℕ) → length items ≤ i → no_ranges ≡ rest_ranges items i
unfolding args_ranges
args_end items i le = sym (at_drop_all (λ xs. args_ranges (t.terms_of (map view_term xs))) items i le)

-- none before the arguments
pub args_first : (args : t.Terms) → joined no_ranges (args_ranges args) ≡ args_ranges args
unfolding args_ranges
args_first args = refl
