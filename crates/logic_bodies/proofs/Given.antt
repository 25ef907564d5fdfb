-- What functions are given in bodies, in the words of the code.
use Rattle.std.proofs.Common.{◌≡◌, ◌<◌, ◌≤◌, ℕ, Bool, true, false, List, [], ◌∷◌, ◌++◌, map, length, refl, sym, ap, ◌∙◌, append_assoc, arith}
use Rattle.std.specs.Prelude.{Option, Some, None}
use Rattle.std.proofs.lemmas.List.{map-append}
use Rattle.wp_base.specs.declared.kinds.CellKind.{CellKind}
use Rattle.wp_base.specs.declared.kinds.CellKind.TheVariants as cell
use Rattle.c_kinds.specs.declared.models.Machdep.{Machdep}
use Rattle.c_runs.specs.Program.{Facts}
use Rattle.qed_terms.specs.declared.term.Term as memory
use Rattle.qed_terms.specs.Tree.{Tree}
use Rattle.qed_terms.specs.View.{term_tree}
use Rattle.acsl_encode.specs.Readings.{Global, integer_global, pointer_global}
use Rattle.acsl_encode.specs.Encode.{put, all_put, global_of, memory_of}
use Rattle.acsl_encode.specs.Setting.{Known, slot_in}
use Rattle.acsl_encode.specs.Told.{number_of}
use Rattle.annotation_heads.specs.Gathered.{given_if}
use Rattle.logic_trees.specs.Told.{shared}
use Rattle.logic_bodies.specs.Bodies.{reading_with, found_in, slot_of, wanted}
use Rattle.logic_bodies.proofs.Naming.{slot_found}

abbrev trees : List memory.Term → List Tree
trees = map term_tree

pub name_put : (given more : List memory.Term) (t : memory.Term) (y : Tree) → term_tree t ≡ y → more ≡ given ++ t ∷ []
    → Some (trees more) ≡ put (Some (trees given)) (Some (y ∷ []))
name_put given more t y is pushed =
    ap (λ ts. Some (trees ts)) pushed ∙ ap Some (map-append term_tree given (t ∷ [])) ∙ ap (λ x. Some (trees given ++ x ∷ [])) is

pub names_put : (given one more : List memory.Term) (t u : memory.Term) (y z : Tree) → term_tree t ≡ y → term_tree u ≡ z → one ≡ given ++ t ∷ [] → more ≡ one ++ u ∷ []
    → Some (trees more) ≡ put (Some (trees given)) (Some (y ∷ z ∷ []))
names_put given one more t u y z is is' first second =
    ap (λ ts. Some (trees ts)) (second ∙ ap (λ ts. ts ++ u ∷ []) first ∙ append_assoc given (t ∷ []) (u ∷ []))
    ∙ ap Some (map-append term_tree given (t ∷ u ∷ [])) ∙ (λ i. Some (trees given ++ is i ∷ is' i ∷ []))

-- ---- one variable

module _ (p : Facts) (known : Known) (gs : List Global) (m : Machdep) where
  global_is : (g : Global) → wanted m g (slot_in gs (number_of g)) ≡ global_of m (reading_with (shared p) known gs).here g
  global_is (integer_global n k x) = refl
  global_is (pointer_global n b o) = refl

  none_wanted : (g : Global) → None ≡ wanted m g (slot_of None)
  none_wanted (integer_global n k x) = refl
  none_wanted (pointer_global n b o) = refl

  pub wanted_none : (g : Global) (n : ℕ) (given : List memory.Term) → n ≡ number_of g → None ≡ found_in gs n
      → None ≡ put (Some (trees given)) (global_of m (reading_with (shared p) known gs).here g)
  wanted_none g n given own is =
      ap (put (Some (trees given))) (none_wanted g ∙ ap (λ o. wanted m g (slot_of o)) (is ∙ ap (found_in gs) own)
      ∙ ap (wanted m g) (slot_found gs (number_of g)) ∙ global_is g)

  pub wanted_is : (g h : Global) (n : ℕ) → n ≡ number_of g → Some h ≡ found_in gs n → wanted m g (slot_of (Some h)) ≡ global_of m (reading_with (shared p) known gs).here g
  wanted_is g h n own is = ap (λ o. wanted m g (slot_of o)) (is ∙ ap (found_in gs) own) ∙ ap (wanted m g) (slot_found gs (number_of g)) ∙ global_is g

-- ---- all that is given

was_there : (b : Bool) (ts : List Tree) (o : Option (List Tree)) → given_if b ts ≡ o → b ≡ true → Some ts ≡ o
was_there b ts o e told = ap (λ c. given_if c ts) (sym told) ∙ e

was_missing : (b : Bool) (ts : List Tree) (o : Option (List Tree)) → given_if b ts ≡ o → b ≡ false → None ≡ o
was_missing b ts o e lost = ap (λ c. given_if c ts) (sym lost) ∙ e

put_twice : (ds : List Tree) (o o' : Option (List Tree)) → put (put (Some ds) o) o' ≡ put (Some ds) (put o o')
put_twice ds (Some xs) (Some ys) = ap Some (append_assoc ds xs ys)
put_twice ds (Some xs) None = refl
put_twice ds None o' = refl

put_missing : (o : Option (List Tree)) → None ≡ put o None
put_missing (Some ts) = refl
put_missing None = refl

put_nothing : (o : Option (List Tree)) → o ≡ put (Some []) o
put_nothing (Some ys) = refl
put_nothing None = refl

module _ (p : Facts) (known : Known) (gs : List Global) where
  abbrev memories : List CellKind → Option (List Tree)
  memories ks = all_put (memory_of (reading_with (shared p) known gs).here) ks

  some_memory : (ks : List CellKind) → 0 < length ks → None ≡ memories ks
  some_memory [] some = absurd (omega (arith, some))
  some_memory (cell.Of k ∷ ks) some = refl
  some_memory (cell.Ptr ∷ ks) some = refl

  no_memory : (ks : List CellKind) → length ks ≤ 0 → Some [] ≡ memories ks
  no_memory [] none = refl
  no_memory (k ∷ ks) none = absurd (omega (arith, none))

  pub memories_missing : (o vs : Option (List Tree)) (ks : List CellKind) (given : List memory.Term) → 0 < length ks
      → None ≡ put (Some (trees given)) (put o (put (memories ks) vs))
  memories_missing o vs ks given some =
      ap (put (Some (trees given))) (put_missing o) ∙ ap (λ q. put (Some (trees given)) (put o (put q vs))) (some_memory ks some)

  pub all_there : (o vs found : Option (List Tree)) (ks : List CellKind) (given more : List memory.Term) (b : Bool)
      → given_if b (trees more) ≡ put (Some (trees given)) o → b ≡ true → length ks ≤ 0 → found ≡ put (Some (trees more)) vs
      → found ≡ put (Some (trees given)) (put o (put (memories ks) vs))
  all_there o vs found ks given more b e told none made =
      made ∙ ap (λ q. put q vs) (was_there b (trees more) _ e told) ∙ put_twice (trees given) o vs
      ∙ ap (λ q. put (Some (trees given)) (put o q)) (put_nothing vs) ∙ ap (λ q. put (Some (trees given)) (put o (put q vs))) (no_memory ks none)

pub no_arguments : (o ms vs : Option (List Tree)) (given more : List memory.Term) (b : Bool) → given_if b (trees more) ≡ put (Some (trees given)) o → b ≡ false
    → None ≡ put (Some (trees given)) (put o (put ms vs))
no_arguments o ms vs given more b e lost =
    ap (λ p. put p (put ms vs)) (was_missing b (trees more) _ e lost) ∙ put_twice (trees given) o (put ms vs)

pub ruleset given_laws = (no_arguments, memories_missing, all_there)
