-- Bases that are pushed one after the other.
use Rattle.std.proofs.Common.{◌≡◌, ◌<◌, ◌≤◌, ℕ, zero, suc, ◌+◌, ◌-◌, List, [], ◌∷◌, ◌++◌, map, length, get_or, refl, ap, sym, ◌∙◌, append_assoc, append-nil, arith}
use Rattle.std.proofs.Common.{◌^◌}
use Rattle.std.specs.Fmt.{decimal}
use Rattle.std.proofs.lemmas.Fmt.{decimal-digits_of}
use Rattle.std.specs.Prelude.{Bool, false}
use Rattle.wp_base.specs.declared.kinds.CellKind.{CellKind}
use Rattle.wp_base.specs.declared.kinds.CellKind.TheVariants as cell
use Rattle.wp_base.specs.declared.kinds.Kind.TheVariants as kind
use Rattle.memory_steps.specs.State.{Base, base}
use Rattle.memory_worlds.specs.declared.names.Base as memory
use Rattle.memory_worlds.specs.View.{view_base}
use Rattle.memory_words.specs.Shapes.{is_pointer_cell}
use Rattle.slot_names.specs.Bases.{Name, flag_name, temporary_name}
use Rattle.memory_names.specs.Names.{first_name, offset_name, kind_at}
use Rattle.memory_names.specs.Parts.{two_of, three_of, from_on, temporary_part}

-- the name of a temporary, as it is written
pub numbered : (n : ℕ) (digits : List ℕ) → 0 < n → n < 2 ^ 64 → digits ≡ decimal n → ([] ++ 37 ∷ []) ++ digits ≡ temporary_name n
numbered n digits some small e = ap (λ ds. 37 ∷ ds) (e ∙ decimal-digits_of n some small)

-- ---- one more

pub map_push : (xs ys : List memory.Base) (x : memory.Base) (b : Base) → ys ≡ xs ++ x ∷ [] → view_base x ≡ b → map view_base ys ≡ map view_base xs ++ b ∷ []
map_push xs ys x b e h = ap (map view_base) e ∙ one xs ∙ ap (λ c. map view_base xs ++ c ∷ []) h
  where
    one : (zs : List memory.Base) → map view_base (zs ++ x ∷ []) ≡ map view_base zs ++ view_base x ∷ []
    one [] = refl
    one (z ∷ zs) = ap (λ ws. view_base z ∷ ws) (one zs)

pub two_pushed : (old mid new : List Base) (p : Bool) (x first second : Name) → first ≡ first_name p x → second ≡ offset_name x → mid ≡ old ++ base first false ∷ []
    → new ≡ mid ++ base second false ∷ [] → new ≡ old ++ two_of p x
two_pushed old mid new p x first second e f g h =
    h ∙ (λ i. g i ++ base (f i) false ∷ []) ∙ append_assoc old (base first false ∷ []) (base (offset_name x) false ∷ [])
    ∙ ap (λ y. old ++ base y false ∷ base (offset_name x) false ∷ []) e

pub three_pushed : (old mid new : List Base) (p : Bool) (x third : Name) → third ≡ flag_name x → mid ≡ old ++ two_of p x → new ≡ mid ++ base third false ∷ []
    → new ≡ old ++ three_of p x
three_pushed old mid new p x third e g h = h ∙ (λ i. g i ++ base (e i) false ∷ []) ∙ append_assoc old (two_of p x) (base (flag_name x) false ∷ [])

-- of a temporary
pub temporary_pushed : (old new : List Base) (ks : List CellKind) (k : CellKind) (n : ℕ) (x : Name) (p : Bool) → n < length ks → k ≡ get_or ks n k → p ≡ is_pointer_cell k
    → x ≡ temporary_name (n + 1) → new ≡ old ++ two_of p x → new ≡ old ++ temporary_part ks n
temporary_pushed old new ks k n x p l at is named e =
    e ∙ (λ i. old ++ two_of (is i) (named i)) ∙ (λ i. old ++ two_of (is_pointer_cell (same i)) (temporary_name (one i)))
  where
    one : n + 1 ≡ suc n
    one = omega (arith)

    any : (ks : List CellKind) (n : ℕ) (d e : CellKind) → n < length ks → get_or ks n d ≡ get_or ks n e
    any [] n d e l = absurd (omega (arith, l))
    any (k ∷ ks) zero d e l = refl
    any (k ∷ ks) (suc n) d e l = any ks n d e (omega (arith, l))

    same : k ≡ kind_at ks n
    same = at ∙ any ks n k (cell.Of kind.Int) l

-- ---- several, one behind the other

pub both_pushed : (o p q : List Base) (a b : Base) → p ≡ o ++ a ∷ [] → q ≡ p ++ b ∷ [] → q ≡ o ++ a ∷ b ∷ []
both_pushed o p q a b e f = f ∙ ap (λ xs. xs ++ b ∷ []) e ∙ append_assoc o (a ∷ []) (b ∷ [])

pub parts_pushed : (o p q r t xs ys zs ws : List Base) → p ≡ o ++ xs → q ≡ p ++ ys → r ≡ q ++ zs → t ≡ r ++ ws → t ≡ o ++ (xs ++ (ys ++ (zs ++ ws)))
parts_pushed o p q r t xs ys zs ws e f g h =
    h ∙ ap (λ l. l ++ ws) (g ∙ ap (λ l. l ++ zs) (f ∙ ap (λ l. l ++ ys) e))
    ∙ append_assoc ((o ++ xs) ++ ys) zs ws ∙ append_assoc (o ++ xs) ys (zs ++ ws) ∙ append_assoc o xs (ys ++ (zs ++ ws))

pub four_pushed : (o p q r t : List Base) (a b c d : Base) → p ≡ o ++ a ∷ [] → q ≡ p ++ b ∷ [] → r ≡ q ++ c ∷ [] → t ≡ r ++ d ∷ [] → t ≡ o ++ a ∷ b ∷ c ∷ d ∷ []
four_pushed o p q r t a b c d e f g h = parts_pushed o p q r t (a ∷ []) (b ∷ []) (c ∷ []) (d ∷ []) e f g h

-- ---- a turn of a loop

pub next_part : (f : ℕ → List Base) (whole old new : List Base) (n count : ℕ) → n < count → new ≡ old ++ f n → old ++ from_on f n (count - n) ≡ whole
    → new ++ from_on f (n + 1) (count - (n + 1)) ≡ whole
next_part f whole old new n count l e h =
    ap (λ xs. xs ++ from_on f (n + 1) (count - (n + 1))) e ∙ append_assoc old (f n) (from_on f (n + 1) (count - (n + 1)))
    ∙ ap (λ m. old ++ (f n ++ from_on f m (count - (n + 1)))) one ∙ ap (λ m. old ++ from_on f n m) left ∙ h
  where
    one : n + 1 ≡ suc n
    one = omega (arith)

    left : suc (count - (n + 1)) ≡ count - n
    left = omega (arith, l)

pub all_parts : (f : ℕ → List Base) (whole old : List Base) (n count : ℕ) → count ≤ n → old ++ from_on f n (count - n) ≡ whole → old ≡ whole
all_parts f whole old n count l h = sym (append-nil old) ∙ ap (λ m. old ++ from_on f n m) none ∙ h
  where
    none : 0 ≡ count - n
    none = omega (arith, l)
