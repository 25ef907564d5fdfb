-- Fresh names in the words of the code.
use Rattle.std.proofs.Common.{◌≡◌, ℕ, suc, Bool, true, false, cond, List, [], ◌∷◌, ◌++◌, refl, sym, ap, ◌∙◌, append-nil}
use Rattle.std.proofs.lemmas.Slice.Eq.{bytes_eq-Decides}
use Rattle.qed_terms.specs.Fresh.{Used, use_one, fresh_name}
use Rattle.qed_terms.specs.Tree.{Tree, var, equal}
use Rattle.walk_steps.specs.State.{put}
use Rattle.walk_steps.specs.World.{World, world, new_name, large_base, is_large, Named, named, set_to}

-- the name of the number that a base has now
pub newly_named : (c d : Used) (base name : List ℕ) → name ≡ fresh_name base (d base) → d ≡ use_one c base → var name ≡ new_name c base
newly_named c d base name e u =
    let now : d base ≡ suc (c base) = ap (λ (c : Used). c base) u ∙ ap (λ b. cond b (suc (c base)) (c base)) ((bytes_eq-Decides base base).1 refl) in
    ap var (e ∙ ap (fresh_name base) now)

abbrev named_by : Bool → Used → Tree → Named
named_by b c t =
    cond b (record { term = new_name c large_base; used = use_one c large_base; links = equal (new_name c large_base) t ∷ [] })
    (record { term = t; used = c; links = [] })

-- a value that isn't large stands for itself
pub small_term : (c : Used) (t : Tree) → is_large t ≡ false → t ≡ (named c t).term
small_term c t h = ap (λ b. (named_by b c t).term) (sym h)

pub small_used : (c : Used) (t : Tree) → is_large t ≡ false → c ≡ (named c t).used
small_used c t h = ap (λ b. (named_by b c t).used) (sym h)

pub small_known : (c : Used) (t : Tree) (known : List Tree) → is_large t ≡ false → known ≡ known ++ (named c t).links
small_known c t known h = sym (append-nil known) ∙ ap (λ b. known ++ (named_by b c t).links) (sym h)

-- one that is has a name
pub large_term : (c : Used) (t x : Tree) → is_large t ≡ true → x ≡ new_name c large_base → x ≡ (named c t).term
large_term c t x h e = e ∙ ap (λ b. (named_by b c t).term) (sym h)

pub large_used : (c d : Used) (t : Tree) → is_large t ≡ true → d ≡ use_one c large_base → d ≡ (named c t).used
large_used c d t h e = e ∙ ap (λ b. (named_by b c t).used) (sym h)

pub large_known : (c : Used) (t x : Tree) (known after : List Tree) → is_large t ≡ true → x ≡ new_name c large_base → after ≡ known ++ equal x t ∷ [] → after ≡ known ++ (named c t).links
large_known c t x known after h e k = k ∙ ap (λ x. known ++ equal x t ∷ []) e ∙ ap (λ b. known ++ (named_by b c t).links) (sym h)

pub set_so : (w : World) (i : ℕ) (t : Named) (x : Tree) (known slots : List Tree) → x ≡ t.term → known ≡ w.known ++ t.links → slots ≡ put w.slots i x → world known slots ≡ set_to w i t
set_so w i t x known slots e k h = λ j. world (k j) ((h ∙ ap (put w.slots i) e) j)
