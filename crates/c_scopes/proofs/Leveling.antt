-- Levels around a type, gone down one by one.
use Rattle.std.proofs.Common.{◌≡◌, ℕ, Bool, true, false, ◌||◌, List, [], ◌∷◌, ◌++◌, Option, Some, None, Ok, Err, length, get_or, refl, sym, ap, ◌∙◌, if◌then◌else◌, append_assoc}
use Rattle.std.specs.Prelude.{remove}
use Rattle.std.specs.Option.{option_map}
use Rattle.wp_base.specs.declared.answers.Refusal.{Refusal}
use Rattle.c_syntax.specs.Expr as e
use Rattle.typed_prog.specs.declared.types.Base.{Base}
use Rattle.typed_prog.specs.declared.types.Base.TheVariants as base
use Rattle.typed_prog.specs.Types.{type_with, pointer_to}
use Rattle.c_answers.specs.Answers.{Answer, after}
use Rattle.c_scopes.specs.declared.symbols.Resolved.{Resolved}
use Rattle.c_scopes.specs.declared.file.File.{File}
use Rattle.c_scopes.specs.Meanings.{named, constant, plain, pointed, has_pointers}
use Rattle.c_scopes.specs.Levels.{leveled, constant_if, around}

-- ---- going down

none_yet : (t : Option Resolved) → leveled [] false t ≡ t
none_yet (Some t) = refl
none_yet None = refl

one_pointer : (levels : List Bool) (c : Bool) (t : Option Resolved) → leveled (levels ++ c ∷ []) false t ≡ leveled levels c (pointed t)
one_pointer [] c t = ap (λ t. option_map (constant_if c) (pointed t)) (none_yet t)
one_pointer (l ∷ levels) c t = ap (λ t. option_map (constant_if l) (pointed t)) (one_pointer levels c t)

one_const : (levels : List Bool) (c : Bool) (t : Option Resolved) → leveled levels true t ≡ leveled levels c (option_map constant t)
one_const [] true (Some t) = refl
one_const [] false (Some t) = refl
one_const [] c None = refl
one_const (l ∷ levels) c t = ap (λ t. option_map (constant_if l) (pointed t)) (one_const levels c t)

pub none_through : (levels : List Bool) (c : Bool) → leveled levels c None ≡ None
none_through [] c = refl
none_through (l ∷ levels) c = ap (λ t. option_map (constant_if l) (pointed t)) (none_through levels c)

-- what stands around a type with its names looked up
abbrev pub around_all : (is_array : Bool) → List Bool → (is_const : Bool) → Answer (Option Resolved) → Answer (Option Resolved)
around_all a levels c o = after o (λ t. Ok (around a levels c t))

pub nothing_around : (o : Answer (Option Resolved)) → around_all false [] false o ≡ o
nothing_around (Ok t) = ap (λ t. Ok t) (none_yet t)
nothing_around (Err r) = refl

pointer_around : (a : Bool) (levels : List Bool) (c : Bool) (o : Answer (Option Resolved)) → around_all a (levels ++ c ∷ []) false o ≡ around_all a levels c (after o (λ t. Ok (pointed t)))
pointer_around true levels c (Ok t) = refl
pointer_around false levels c (Ok t) = ap (λ t. Ok t) (one_pointer levels c t)
pointer_around a levels c (Err r) = refl

const_around : (a : Bool) (levels : List Bool) (c : Bool) (o : Answer (Option Resolved)) → around_all a levels true o ≡ around_all a levels c (after o (λ t. Ok (option_map constant t)))
const_around true levels c (Ok t) = refl
const_around false levels c (Ok t) = ap (λ t. Ok t) (one_const levels c t)
const_around a levels c (Err r) = refl

array_around : (a : Bool) (levels : List Bool) (c : Bool) (o : Answer (Option Resolved)) → around_all true levels c o ≡ around_all a levels c (after o (λ t. Ok None))
array_around true levels c (Ok t) = refl
array_around false levels c (Ok t) = ap (λ t. Ok t) (sym (none_through levels c))
array_around a levels c (Err r) = refl

module _ (f : File) (line : ℕ) (a : Bool) (levels : List Bool) (c : Bool) (x t : e.CType) (whole : Answer (Option Resolved)) where
  pub pointer_turn : x ≡ e.pointer t → around_all a levels c (named f line x) ≡ whole → around_all a (levels ++ c ∷ []) false (named f line t) ≡ whole
  pointer_turn is h = pointer_around a levels c (named f line t) ∙ ap (λ x. around_all a levels c (named f line x)) (sym is) ∙ h

  pub const_turn : x ≡ e.constant t → around_all a levels c (named f line x) ≡ whole → around_all a levels true (named f line t) ≡ whole
  const_turn is h = const_around a levels c (named f line t) ∙ ap (λ x. around_all a levels c (named f line x)) (sym is) ∙ h

  pub array_turn : (n : e.Expr) → x ≡ e.array t n → around_all a levels c (named f line x) ≡ whole → around_all true levels c (named f line t) ≡ whole
  array_turn n is h = array_around a levels c (named f line t) ∙ ap (λ x. around_all a levels c (named f line x)) (sym is) ∙ h

pub leaf_end : (f : File) (line : ℕ) (a : Bool) (levels : List Bool) (c : Bool) (x : e.CType) (t : Option Resolved) (whole : Answer (Option Resolved)) → named f line x ≡ Ok t
    → around_all a levels c (named f line x) ≡ whole → whole ≡ Ok (around a levels c t)
leaf_end f line a levels c x t whole is h = sym h ∙ ap (around_all a levels c) is

pub leaf_fault : (f : File) (line : ℕ) (a : Bool) (levels : List Bool) (c : Bool) (x : e.CType) (r : Refusal) (whole : Answer (Option Resolved)) → named f line x ≡ Err r
    → around_all a levels c (named f line x) ≡ whole → whole ≡ Err r
leaf_fault f line a levels c x r whole is h = sym h ∙ ap (around_all a levels c) is

pub ruleset turns = (nothing_around, pointer_turn, const_turn, array_turn, leaf_end, leaf_fault)

-- ---- all at once

-- what stands around a pointer is a pointer again
pointers_more : (root : Base) (ls : List Bool) (l : Bool) (stars : List Bool) → has_pointers (type_with root (ls ++ l ∷ stars) None) ≡ true
pointers_more base.Void [] l stars = refl
pointers_more base.Void (k ∷ ls) l stars = refl
pointers_more (base.Of k) [] l stars = refl
pointers_more (base.Of k) (m ∷ ls) l stars = refl
pointers_more (base.Struct n) [] l stars = refl
pointers_more (base.Struct n) (k ∷ ls) l stars = refl

abbrev leveled_to : (level : Bool) (levels : List Bool) (c : Bool) (t : Resolved) → Bool → Option Resolved
leveled_to level levels c t true = Some (record { ty = type_with t.ty.base (levels ++ (c || t.is_const) ∷ t.ty.stars) None; is_const = level })
leveled_to level levels c t false = None

abbrev pointed_if : Bool → Resolved → Option Resolved
pointed_if b t = if b then Some (plain (pointer_to t.ty t.is_const)) else None

one_level : (level c : Bool) (t : Resolved) (b : Bool) → has_pointers t.ty ≡ b → leveled (level ∷ []) c (Some t) ≡ leveled_to level [] c t b
one_level true true t true h = ap (λ b. option_map constant (pointed_if b (constant t))) h
one_level false true t true h = ap (λ b. option_map (constant_if false) (pointed_if b (constant t))) h
one_level true false t true h = ap (λ b. option_map constant (pointed_if b t)) h
one_level false false t true h = ap (λ b. option_map (constant_if false) (pointed_if b t)) h
one_level level true t false h = ap (λ b. option_map (constant_if level) (pointed_if b (constant t))) h
one_level level false t false h = ap (λ b. option_map (constant_if level) (pointed_if b t)) h

outer_level : (level next : Bool) (levels : List Bool) (c : Bool) (t : Resolved) (b : Bool) → option_map (constant_if level) (pointed (leveled_to next levels c t b)) ≡ leveled_to level (next ∷ levels) c t b
outer_level true next levels c t true =
    ap (λ b. option_map constant (pointed_if b (record { ty = type_with t.ty.base (levels ++ (c || t.is_const) ∷ t.ty.stars) None; is_const = next })))
    (pointers_more t.ty.base levels (c || t.is_const) t.ty.stars)
outer_level false next levels c t true =
    ap (λ b. option_map (constant_if false) (pointed_if b (record { ty = type_with t.ty.base (levels ++ (c || t.is_const) ∷ t.ty.stars) None; is_const = next })))
    (pointers_more t.ty.base levels (c || t.is_const) t.ty.stars)
outer_level level next levels c t false = refl

-- a type with some levels around it
leveled_some : (level : Bool) (levels : List Bool) (c : Bool) (t : Resolved) (b : Bool) → has_pointers t.ty ≡ b → leveled (level ∷ levels) c (Some t) ≡ leveled_to level levels c t b
leveled_some level [] c t b h = one_level level c t b h
leveled_some level (next ∷ levels) c t b h = ap (λ t. option_map (constant_if level) (pointed t)) (leveled_some next levels c t b h) ∙ outer_level level next levels c t b

-- what the code makes of it: the levels and the stars in one list, whose first item is whether the whole is constant
pub leveled_type : (levels : List Bool) (c d : Bool) (t : Resolved) (pushed all stars : List Bool) (outermost : Bool) → (length levels ≡ 0 → ⊥) → has_pointers t.ty ≡ true
    → d ≡ (c || t.is_const) → pushed ≡ levels ++ d ∷ [] → all ≡ pushed ++ t.ty.stars → outermost ≡ get_or all 0 outermost → stars ≡ remove all 0
    → Some (record { ty = type_with t.ty.base stars None; is_const = outermost }) ≡ leveled levels c (Some t)
leveled_type [] c d t pushed all stars outermost some pointed joined push extend first rest = absurd (some refl)
leveled_type (level ∷ levels) c d t pushed all stars outermost some pointed joined push extend first rest =
    let whole : all ≡ level ∷ (levels ++ (c || t.is_const) ∷ t.ty.stars) =
    extend ∙ ap (λ l. l ++ t.ty.stars) (push ∙ ap (λ d. level ∷ (levels ++ d ∷ [])) joined) ∙ ap (λ l. level ∷ l) (append_assoc levels ((c || t.is_const) ∷ []) t.ty.stars) in
    ap (λ c. Some (record { ty = type_with t.ty.base stars None; is_const = c })) (first ∙ ap (λ l. get_or l 0 outermost) whole)
    ∙ ap (λ stars. Some (record { ty = type_with t.ty.base stars None; is_const = level })) (rest ∙ ap (λ l. remove l 0) whole)
    ∙ sym (leveled_some level levels c t true pointed)

pub not_pointed : (levels : List Bool) (c : Bool) (t : Resolved) → (length levels ≡ 0 → ⊥) → has_pointers t.ty ≡ false → leveled levels c (Some t) ≡ None
not_pointed [] c t some pointed = absurd (some refl)
not_pointed (level ∷ levels) c t some pointed = leveled_some level levels c t false pointed
