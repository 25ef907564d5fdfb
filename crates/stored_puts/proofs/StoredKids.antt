-- Kids of a node of a store.
use Rattle.std.proofs.Common.{◌≡◌, ℕ, ◌<◌, List, map, length, get_or, All, sym, ◌∙◌, ap, subst, arith}
use Rattle.std.proofs.lemmas.List.{length-map}
use Rattle.qed_terms.specs.Nodes.{kids_of}
use Rattle.qed_terms.specs.Tree.{Tree, size, true_tree}
use Rattle.qed_terms.proofs.Kids.{mapped}
use Rattle.qed_terms.proofs.Sizes.{size-kid}

pub kid_less : {Id : Type 0} (tree : Id → Tree) (ids : List Id) (i : ℕ) (id : Id) (t : Tree) → i < length ids → id ≡ get_or ids i id → map tree ids ≡ kids_of t → size (tree id) < size t
kid_less tree ids i id t k e stand =
    let count : length (kids_of t) ≡ length ids = ap length (sym stand) ∙ length-map ids tree in
    let here : get_or (kids_of t) i true_tree ≡ tree id = ap (λ ts. get_or ts i true_tree) (sym stand) ∙ mapped tree ids i id k e in
    let less = size-kid t i (omega (arith, k, count)) in
    let same = ap size here in
    omega (arith, less, same)

pub kid_held : {Id : Type 0} (held : Id → Type 0) (ids : List Id) (i : ℕ) (id : Id) → All held ids → i < length ids → id ≡ get_or ids i id → held id
kid_held held ids i id all k e = subst held (sym e) (all i id k)

-- the kid at a place
pub kid_is : {Id : Type 0} (tree : Id → Tree) (ids : List Id) (i : ℕ) (id : Id) (t : Tree) → i < length ids → id ≡ get_or ids i id → map tree ids ≡ kids_of t → get_or (kids_of t) i true_tree ≡ tree id
kid_is tree ids i id t k e stand = ap (λ ts. get_or ts i true_tree) (sym stand) ∙ mapped tree ids i id k e

-- the store has as many kids as it had before
pub kid_below : {Id : Type 0} (before tree : Id → Tree) (t : Tree) (olds ids : List Id) (i : ℕ) → map before olds ≡ kids_of t → map tree ids ≡ kids_of t → i < length olds → i < length ids
kid_below before tree t olds ids i old stand k =
    let m = length-map olds before in
    let n = length-map ids tree in
    let e = ap length (old ∙ sym stand) in
    omega (arith, k, m, n, e)
