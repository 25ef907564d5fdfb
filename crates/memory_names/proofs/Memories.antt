-- Which names are told to be those of memories.
use Rattle.std.proofs.Common.{◌≡◌, ℕ, ◌+◌, Bool, true, false, List, [], ◌∷◌, ◌++◌, map, codes, refl, ap, ◌∙◌, arith}
use Rattle.std.specs.Prelude.{if◌then◌else◌}
use Rattle.std.specs.List.{list_any}
use Rattle.std.specs.Str.{bytes_eq}
use Rattle.std.specs.Int.Digits.{digits_of, AllBelowBase}
use Rattle.std.proofs.lemmas.Int.Digits.{all_below_base_digits_of}
use Rattle.std.proofs.lemmas.Bool.{and_right, ne_eqb}
use Rattle.wp_base.specs.declared.kinds.Kind.{Kind}
use Rattle.wp_base.specs.declared.kinds.Kind.TheVariants as kind
use Rattle.qed_terms.specs.Names.{after_colon, before_colon, is_memory_base, is_memory_name, memory_kinds}
use Rattle.qed_terms.specs.Fresh.{Lacks}
use Rattle.slot_names.specs.Bases.{Name, temporary_name}
use Rattle.memory_names.specs.Names.{memory_name}
use Rattle.memory_names.proofs.Good.{none_of}
use Rattle.memory_names.proofs.Apart.{colon}

-- ---- what stands behind the colon tells

abbrev pub is_memory_end : Name → Bool
is_memory_end s = list_any (bytes_eq (after_colon s)) memory_kinds

after_end : (x s : Name) → Lacks colon x → after_colon (x ++ s) ≡ after_colon s
after_end [] s l = refl
after_end (b ∷ x) s l = ap (λ t. if t then x ++ s else after_colon (x ++ s)) (ne_eqb b 58 l.0) ∙ after_end x s l.1

pub no_memory_name : (x s : Name) → Lacks colon x → is_memory_end s ≡ false → is_memory_name (x ++ s) ≡ false
unfolding is_memory_name
no_memory_name x s l e =
    and_right (is_memory_base (before_colon (x ++ s))) (list_any (bytes_eq (after_colon (x ++ s))) memory_kinds)
    (ap (λ t. list_any (bytes_eq t) memory_kinds) (after_end x s l) ∙ e)

-- ---- names without a colon

pub result_lacks : Lacks colon (codes "\\result")
result_lacks = none_of colon (codes "\\result") refl

pub answer_lacks : Lacks colon (codes "%")
answer_lacks = none_of colon (codes "%") refl

digits_lack : (ds : List ℕ) → AllBelowBase 10 ds → Lacks colon (map (λ d. 48 + d) ds)
digits_lack [] h = tt
digits_lack (d ∷ ds) h = ((λ e. let l = h.0 in omega (arith, e, l)), digits_lack ds h.1)

pub temporary_lacks : (n : ℕ) → Lacks colon (temporary_name n)
temporary_lacks n = ((λ e. omega (arith, e)), digits_lack (digits_of 10 n) (all_below_base_digits_of 10 n (omega arith)))

-- ---- those of memories

pub kind_is_memory : (k : Kind) → is_memory_name (memory_name k) ≡ true
unfolding is_memory_name
kind_is_memory kind.Bool = refl
kind_is_memory kind.Char = refl
kind_is_memory kind.SChar = refl
kind_is_memory kind.UChar = refl
kind_is_memory kind.Short = refl
kind_is_memory kind.UShort = refl
kind_is_memory kind.Int = refl
kind_is_memory kind.UInt = refl
kind_is_memory kind.Long = refl
kind_is_memory kind.ULong = refl
kind_is_memory kind.LLong = refl
kind_is_memory kind.ULLong = refl

pub blocks_are_memory : is_memory_name (codes "M:ptrb") ≡ true
unfolding is_memory_name
blocks_are_memory = refl

pub offsets_are_memory : is_memory_name (codes "M:ptro") ≡ true
unfolding is_memory_name
offsets_are_memory = refl
