-- The slots, the start and the word of a function are such that the goals of its word are exact.
use Rattle.std.proofs.Common.{◌≡◌, ◌<◌, ℕ, zero, suc, ◌+◌, true, false, List, [], ◌∷◌, map, Some, slice_get, refl, sym, ap, ◌∙◌, subst, arith}
use Rattle.std.proofs.lemmas.List.{length-map}
use Rattle.std.proofs.lemmas.Option.{none-some, same_Some}
use Rattle.wp_base.specs.declared.kinds.CellKind.TheVariants as cell
use Rattle.qed_terms.specs.Tree.{Tree}
use Rattle.qed_terms.specs.Meaning as sense
use Rattle.qed_terms.specs.Setting.{Setting, world_of}
use Rattle.same_memories.specs.Alike.{Respects}
use Rattle.same_memories.proofs.Functions.{settings_respect}
use Rattle.c_runs.specs.Program.{Function, Program}
use Rattle.c_runs.specs.Tree.{Steps}
use Rattle.memory_steps.specs.State.{Base, base}
use Rattle.memory_steps.specs.Forms.{AreClaims}
use Rattle.memory_steps.specs.Step.{sort_at}
use Rattle.memory_steps.specs.Laws as steps
use Rattle.memory_steps.specs.Laws.{Origin, fixed, Away, OriginsFit, AreFit}
use Rattle.memory_words.specs.Places.{Place, Sizes, IsIn, value, offset, flag, result, result_offset, answer, answer_offset, temporary, temporary_offset, numbers, blocks, offsets, slot, places}
use Rattle.memory_words.specs.Leaves.{claim}
use Rattle.memory_words.proofs.SlotListing.{slots_of_places}
use Rattle.memory_words.proofs.Filling.{forms_are_good}
use Rattle.memory_words.specs.Shapes.{FileCells, sizes, is_memory}
use Rattle.memory_words.specs.Readings.{Texts}
use Rattle.memory_words.specs.Words.{Others}
use Rattle.memory_words.specs.Typed.{OtherFits}
use Rattle.memory_words.specs.Bases.{AreSorted}
use Rattle.memory_functions.specs.Starting.{own_if, origin_of, start_trees}
use Rattle.memory_functions.specs.Words.{Written, shape_in}
use Rattle.memory_functions.proofs.Good.{functions_are_good}
use Rattle.memory_functions.proofs.Staying.{functions_are_bracketed}
use Rattle.memory_exact.specs.Programs.{word_with, start, bases, FunctionIn}

-- ---- bases

module _ (f : Place → Base) where
  sort_there : (ps : List Place) (i : ℕ) (a : Place) → slice_get ps i ≡ Some a → sort_at (map f ps) i ≡ (f a).is_memory
  sort_there [] i a e = absurd (none-some a e)
  sort_there (c ∷ ps) zero a e = ap (λ (a : Place). (f a).is_memory) (same_Some c a e)
  sort_there (c ∷ ps) (suc i) a e = sort_there ps i a e

claims_good : (m : sense.World) → Respects m → (fs : List Tree) → AreClaims m (map (claim m) fs)
claims_good m r [] = tt
claims_good m r (f ∷ fs) = ((forms_are_good m r f).claim, claims_good m r fs)

own_not_fixed : (x : _) → steps.own ≡ fixed x → ⊥
own_not_fixed x e = cc

module _ (setting : Setting) (q : Program Steps) (cells : FileCells) (texts : Texts) (others : Others) (n : ℕ) (f : Function Steps) (g : Written) (asked : OtherFits)
    (part : FunctionIn setting q cells texts others n f g asked) where
  abbrev z : Sizes
  z = sizes q.facts (shape_in f g)

  abbrev base_of : Place → Base
  base_of a = base (g.name a) (is_memory cells a)

  abbrev origin : Place → Origin
  origin a = origin_of q.facts (shape_in f g) cells f.params a

  sorted : AreSorted z cells (bases setting q cells texts others n f g)
  sorted a there = sort_there base_of (places z) (slot z a) a ((slots_of_places z).listed a there)

  -- ---- origins

  not_memory : (b : _) (x : _) → own_if b ≡ fixed x → b ≡ false
  not_memory true x e = absurd (own_not_fixed x e)
  not_memory false x e = refl

  fixed_number : (a : Place) (x : _) → origin a ≡ fixed x → is_memory cells a ≡ false
  fixed_number (numbers k) x e = not_memory (cells.has_kind (cell.Of k)) x e
  fixed_number blocks x e = not_memory (cells.has_kind cell.Ptr) x e
  fixed_number offsets x e = not_memory (cells.has_kind cell.Ptr) x e
  fixed_number (value y) x e = refl
  fixed_number (offset y) x e = refl
  fixed_number (flag y) x e = refl
  fixed_number result x e = refl
  fixed_number result_offset x e = refl
  fixed_number answer x e = refl
  fixed_number answer_offset x e = refl
  fixed_number (temporary y) x e = refl
  fixed_number (temporary_offset y) x e = refl

  -- these places stand among all places from this number on
  abbrev StandFrom : ℕ → List Place → Type 0
  StandFrom k ps = (i : ℕ) (a : Place) → slice_get ps i ≡ Some a → slice_get (places z) (k + i) ≡ Some a

  later : (k : ℕ) (a : Place) (ps : List Place) → StandFrom k (a ∷ ps) → StandFrom (suc k) ps
  later k a ps h i c e = subst (λ j. slice_get (places z) j ≡ Some c) (let r : k + suc i ≡ suc k + i = omega arith in r) (h (suc i) c e)

  there_at : (k : ℕ) (a : Place) (ps : List Place) → StandFrom k (a ∷ ps) → IsIn z a × (slot z a ≡ k)
  there_at k a ps h = (slots_of_places z).back k a (subst (λ j. slice_get (places z) j ≡ Some a) (let r : k + 0 ≡ k = omega arith in r) (h 0 a refl))

  module _ (a : Place) (there : IsIn z a) (is_own : origin a ≡ steps.own) where
    away_one : (o : Origin) (b : Place) (ps : List Place) → origin b ≡ o → IsIn z b → slot z a < slot z b → Away (g.name a) (map base_of ps) (map origin ps)
        → Away (g.name a) (base_of b ∷ map base_of ps) (o ∷ map origin ps)
    away_one steps.own b ps e in_b less rest = (
      λ same. let e = ap (slot z) (part.differ a b there in_b is_own e same) in omega (arith, e, less),
      rest,
    )
    away_one (fixed x) b ps e in_b less rest = rest

    away : (ps : List Place) (k : ℕ) → StandFrom k ps → slot z a < k → Away (g.name a) (map base_of ps) (map origin ps)
    away [] k h less = tt
    away (b ∷ ps) k h less =
        let at = there_at k b ps h in let same = at.1 in
        away_one (origin b) b ps refl at.0 (omega (arith, same, less)) (away ps (suc k) (later k b ps h) (omega (arith, less)))

  fit_one : (o : Origin) (a : Place) (ps : List Place) (k : ℕ) → origin a ≡ o → StandFrom k (a ∷ ps) → OriginsFit (map base_of ps) (map origin ps)
      → OriginsFit (base_of a ∷ map base_of ps) (o ∷ map origin ps)
  fit_one steps.own a ps k e h rest =
      let at = there_at k a ps h in let same = at.1 in (away a at.0 e ps (suc k) (later k a ps h) (omega (arith, same)), rest)
  fit_one (fixed x) a ps k e h rest = (fixed_number a x e, rest)

  fit_from : (ps : List Place) (k : ℕ) → StandFrom k ps → OriginsFit (map base_of ps) (map origin ps)
  fit_from [] k h = tt
  fit_from (a ∷ ps) k h = fit_one (origin a) a ps k refl h (fit_from ps (suc k) (later k a ps h))

  pub are_fit : AreFit setting (bases setting q cells texts others n f g) (start setting q cells texts others n f g) (word_with setting q cells texts others n f g)
  are_fit = record {
    size = length-map (places z) origin ∙ sym (length-map (places z) base_of);
    names = part.names;
    origins = fit_from (places z) 0 (λ i a e. subst (λ j. slice_get (places z) j ≡ Some a) (let r : i ≡ 0 + i = omega arith in r) e);
    facts = claims_good (world_of setting) (settings_respect setting) (start_trees (world_of setting) q.facts (shape_in f g) cells texts f.params f);
    step = functions_are_good asked (world_of setting) (settings_respect setting) q.facts (shape_in f g) cells texts others (bases setting q cells texts others n f g) sorted part.good n f
        (λ x v e param plain. ((part.fits.params x v e param).one_cell plain).1) part.fits.body;
    bracketed = functions_are_bracketed asked (world_of setting) q.facts (shape_in f g) cells texts others part.stay n f part.fits.body;
  }
