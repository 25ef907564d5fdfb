-- The first token past a limit, function by function, in the words of the code.
use Rattle.std.proofs.Common.{◌≡◌, ℕ, suc, ◌+◌, ◌≤◌, ◌<◌, true, false, List, [], ◌∷◌, length, map, Option, Some, None, refl, sym, ap, ◌∙◌, add-one, arith}
use Rattle.std.proofs.lemmas.Bool.Decides.{nat_tests}
use Rattle.std.specs.Prelude.{nat_le, slice_get}
use Rattle.c_grammar.specs.Decls.{past_limit, or_else}
use Rattle.c_grammar.specs.declared.limits.TheConstants.{MOST_PARAMS, MOST_STMTS, MOST_FUNCTIONS}
use Rattle.parse_file.specs.declared.found.Lines.{Lines}
use Rattle.c_parser.specs.Outcome.{line_within}
use Rattle.parse_file.specs.Views.{view_lines}

or_else_group : (a b c : Option ℕ) → or_else (or_else a b) c ≡ or_else a (or_else b c)
or_else_group None b c = refl
or_else_group (Some a) b c = refl

pub limit_none : (count : ℕ) (rest : List Lines) → length rest ≡ 0 → past_limit count (map view_lines rest) ≡ None
limit_none count [] h = refl
limit_none count (x ∷ xs) h = absurd (omega arith)

pub limit_first : (count : ℕ) (rest after : List Lines) (x : Lines) → rest ≡ x ∷ after → MOST_FUNCTIONS ≤ count → past_limit count (map view_lines rest) ≡ Some x.first
limit_first count rest after x is le =
    let test : nat_le MOST_FUNCTIONS count ≡ true = grind (arith, nat_tests) in
    rw (is, test) refl

below : (count : ℕ) (rest after : List Lines) (x : Lines) → rest ≡ x ∷ after → count < MOST_FUNCTIONS
    → past_limit count (map view_lines rest) ≡ or_else (line_within (view_lines x)) (past_limit (suc count) (map view_lines after))
below count rest after x is lt =
    let test : nat_le MOST_FUNCTIONS count ≡ false = grind (arith, nat_tests) in
    rw (is, test) (sym (or_else_group (slice_get x.params MOST_PARAMS) (slice_get x.stmts MOST_STMTS) (past_limit (suc count) (map view_lines after))))

pub limit_inside : (count line : ℕ) (rest after : List Lines) (x : Lines) → rest ≡ x ∷ after → count < MOST_FUNCTIONS → line_within (view_lines x) ≡ Some line → past_limit count (map view_lines rest) ≡ Some line
limit_inside count line rest after x is lt found = below count rest after x is lt ∙ ap (λ o. or_else o (past_limit (suc count) (map view_lines after))) found

pub limit_goes : (count : ℕ) (rest after : List Lines) (x : Lines) → rest ≡ x ∷ after → count < MOST_FUNCTIONS → line_within (view_lines x) ≡ None
    → past_limit (count + 1) (map view_lines after) ≡ past_limit count (map view_lines rest)
limit_goes count rest after x is lt none =
    ap (λ n. past_limit n (map view_lines after)) (add-one count) ∙ sym (below count rest after x is lt ∙ ap (λ o. or_else o (past_limit (suc count) (map view_lines after))) none)
