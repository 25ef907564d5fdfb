-- What ends an annotation ends each part of it, and how the parts begin.
use Rattle.std.proofs.Common.{◌≡◌, ℕ, Bool, true, false, ◌&&◌, List, ◌∷◌, ◌++◌, codes, None, refl, ap, ◌∙◌}
use Rattle.std.specs.List.{list_all}
use Rattle.c_syntax.specs.declared.token.Token.{Token}
use Rattle.c_grammar.specs.Tokens.{Names, name, annot_close}
use Rattle.c_grammar.specs.Annots as g
use Rattle.c_grammar.specs.Reading.{keyword_at}
use Rattle.acsl_parser.specs.Read as s
use Rattle.acsl_parser.proofs.CompleteParts.{NoPart}

pub close_no_part : (line : ℕ) (rest : List Token) → NoPart (annot_close line ∷ rest)
unfolding s.starts_item s.starts_behavior
close_no_part line rest = (refl, refl)

pub close_no_ending : (line : ℕ) (rest : List Token) → s.starts_ending (annot_close line ∷ rest) ≡ false
unfolding s.starts_ending
close_no_ending line rest = refl

pub close_no_logic : (line : ℕ) (rest : List Token) → s.starts_logic (annot_close line ∷ rest) ≡ false
unfolding s.starts_logic
close_no_logic line rest = refl

-- begins with this name
abbrev pub Begins : List ℕ → List Token → Type 0
Begins keyword xs = (line : ℕ) × (more : List Token) × (xs ≡ name keyword line ∷ more)

pub assert_begins : {types : Names} {room line : ℕ} {xs : List Token} {a : _} → g.SpellsAssert types room xs a line → Begins (codes "assert") xs
assert_begins (g.assert {line} line' {inside} sp eq) = (line, _, eq)

-- the first clause of a loop
in_loop_begins : {types : Names} {room at : ℕ} {xs : List Token} {item : g.Item} → g.SpellsItem types room at xs item → g.is_in_loop item ≡ true → Begins (codes "loop") xs
in_loop_begins (g.requires sp) h = absurd cc
in_loop_begins (g.ensures sp) h = absurd cc
in_loop_begins (g.assumes sp) h = absurd cc
in_loop_begins (g.assigns sp) h = absurd cc
in_loop_begins (g.decreases sp) h = absurd cc
in_loop_begins (g.invariant {line} {rest} sp same) h = (line, rest, refl)
in_loop_begins (g.loop_assigns {line} {rest} sp same) h = (line, rest, refl)
in_loop_begins (g.variant {line} {rest} sp same) h = (line, rest, refl)

pub and_left : (a b : Bool) → (a && b) ≡ true → a ≡ true
and_left true b h = refl
and_left false b h = absurd cc

-- an annotation of a loop is no assertion
pub loop_no_assert : {types : Names} {room at : ℕ} {xs : List Token} {items : List g.Item} → g.SpellsItems types room at xs items → list_all g.is_in_loop items ≡ true → (line : ℕ) (rest : List Token)
    → keyword_at (codes "assert") (xs ++ annot_close line ∷ rest) ≡ None
loop_no_assert g.SpellsItems.none h line rest = refl
loop_no_assert (g.SpellsItems.more {first} {rest = tail} {item} {items} sp others eq) h line rest =
    let begun = in_loop_begins sp (and_left (g.is_in_loop item) (list_all g.is_in_loop items) h) in
    ap (λ l. keyword_at (codes "assert") (l ++ annot_close line ∷ rest)) (eq ∙ ap (λ l. l ++ tail) begun.2)
