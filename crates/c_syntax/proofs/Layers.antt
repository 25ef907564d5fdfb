-- One layer more on the inside.
use Rattle.std.proofs.Common.{◌≡◌, List, [], ◌∷◌, ◌++◌, refl, sym, ap, ◌∙◌}
use Rattle.c_syntax.specs.declared.copies.types.Layer.{Layer}
use Rattle.c_syntax.specs.declared.expr.CType.{CType}
use Rattle.c_syntax.specs.Layers.{around, around_all}

pub around_none : (inner : CType) → around_all [] inner ≡ inner
unfolding around_all
around_none inner = refl

pub around_last : (ls : List Layer) (l : Layer) (inner : CType) → around_all (ls ++ l ∷ []) inner ≡ around_all ls (around l inner)
unfolding around_all
around_last [] l inner = refl
around_last (k ∷ ls) l inner = ap (around k) (around_last ls l inner)

-- one layer further inside, what stands around is one layer more
pub further : (ls more : List Layer) (l : Layer) (inner next whole : CType) → more ≡ ls ++ l ∷ [] → inner ≡ around l next → around_all ls inner ≡ whole → around_all more next ≡ whole
further ls more l inner next whole grown same sofar =
    ap (λ k. around_all k next) grown ∙ around_last ls l next ∙ ap (around_all ls) (sym same) ∙ sofar
