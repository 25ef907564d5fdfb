-- What stands around a part, in the words of the definition.
use Rattle.std.proofs.Common.{◌≡◌, Bool, true, false, not, ◌&&◌, ◌||◌, refl, sym, ap, ◌∙◌}
use Rattle.typed_prog.specs.declared.operators.Op.{Op}
use Rattle.typed_prog.specs.declared.operators.Op.TheVariants as op
use Rattle.typed_prog.specs.declared.operators.Effect.{Effect}
use Rattle.c_sequence.specs.declared.found.Embedded.{Embedded}
use Rattle.c_sequence.specs.declared.summaries.Summary.{Summary}
use Rattle.c_sequence.specs.declared.frames.Around.{Around}
use Rattle.c_sequence.specs.Sequence.{Plain, summary, beside, in_order, reading, through, at_effect, is_pending, may_read}
use Rattle.c_sequence.specs.Around.{whole, outside, nothing_around, beside_this, in_order_with, read_of, operator_of, effect_of}

summary_is : (h h' r r' f f' p p' : Bool) → h ≡ h' → r ≡ r' → f ≡ f' → p ≡ p' → summary h r f p ≡ summary h' r' f' p'
summary_is h h' r r' f f' p p' hs rs fs ps = λ i. summary (hs i) (rs i) (fs i) (ps i)

-- ---- truth values

and_true : (a : Bool) → (a && true) ≡ a
and_true true = refl
and_true false = refl

or_false : (a : Bool) → (a || false) ≡ a
or_false true = refl
or_false false = refl

or_true : (a : Bool) → (a || true) ≡ true
or_true true = refl
or_true false = refl

and_assoc : (a b c : Bool) → ((a && b) && c) ≡ (a && (b && c))
and_assoc true b c = refl
and_assoc false b c = refl

or_assoc : (a b c : Bool) → ((a || b) || c) ≡ (a || (b || c))
or_assoc true b c = refl
or_assoc false b c = refl

-- two pairs, by their first and their second parts
paired : (a b c d : Bool) → ((a && b) && (c && d)) ≡ ((a && c) && (b && d))
paired true true c d = refl
paired true false true d = refl
paired true false false d = refl
paired false b true d = refl
paired false b false d = refl

middle_last : (a b c d : Bool) → (((a && b) && c) && d) ≡ ((a && c) && (b && d))
middle_last true true c d = refl
middle_last true false true d = refl
middle_last true false false d = refl
middle_last false b true d = refl
middle_last false b false d = refl

-- ---- each part

held : (x d c : Bool) → ((x || d) || c) ≡ (x || (d || c))
held x d c = or_assoc x d c

effect_part : (x e d c : Bool) → ((not x || e) && (not (x || d) || c)) ≡ ((not x || (e && c)) && (not d || c))
effect_part true true true true = refl
effect_part true true true false = refl
effect_part true true false true = refl
effect_part true true false false = refl
effect_part true false d c = refl
effect_part false e d c = refl

read_part : (x e d c : Bool) → ((x || e) && ((x && d) || c)) ≡ ((x || (e && c)) && (d || c))
read_part true e d c = refl
read_part false true true true = refl
read_part false true true false = refl
read_part false true false true = refl
read_part false true false false = refl
read_part false false d c = refl

pending_part : (x e s d c : Bool) → ((not x || e) && (not ((x && s) || d) || c)) ≡ ((not x || (e && (not s || c))) && (not d || c))
pending_part true true true true true = refl
pending_part true true true true false = refl
pending_part true true true false true = refl
pending_part true true true false false = refl
pending_part true true false d c = refl
pending_part true false s d c = refl
pending_part false e s d c = refl

still_pending : (x s d t c : Bool) → ((((x && s) || d) && t) || c) ≡ ((x && (s && t)) || ((d && t) || c))
still_pending true true true true c = refl
still_pending true true true false c = refl
still_pending true true false true c = refl
still_pending true true false false c = refl
still_pending true false d t c = refl
still_pending false s d t c = refl

turned : (f u t c d : Bool) → (((f && u) && t) && (d && c)) ≡ ((f && ((u && t) && c)) && d)
turned false u t c d = refl
turned true false t c d = refl
turned true true false c d = refl
turned true true true true true = refl
turned true true true true false = refl
turned true true true false true = refl
turned true true true false false = refl

-- what stands outside of what stands outside
fine_part : (f uf tf a1 a2 a3 b1 b2 b3 c1 c2 c3 d1 d2 d3 : Bool) → (a1 && b1) ≡ (d1 && c1) → (a2 && b2) ≡ (d2 && c2) → (a3 && b3) ≡ (d3 && c3)
    → ((((f && uf) && (a1 && (a2 && a3))) && tf) && (b1 && (b2 && b3))) ≡ ((f && ((uf && tf) && (c1 && (c2 && c3)))) && (d1 && (d2 && d3)))
fine_part f uf tf a1 a2 a3 b1 b2 b3 c1 c2 c3 d1 d2 d3 first second third =
    middle_last (f && uf) (a1 && (a2 && a3)) tf (b1 && (b2 && b3))
    ∙ ap (λ b. ((f && uf) && tf) && b) (paired a1 (a2 && a3) b1 (b2 && b3) ∙ ap (λ b. (a1 && b1) && b) (paired a2 a3 b2 b3) ∙ (λ i. first i && (second i && third i))
    ∙ sym (ap (λ b. (d1 && c1) && b) (paired d2 d3 c2 c3)) ∙ sym (paired d1 (d2 && d3) c1 (c2 && c3)))
    ∙ turned f uf tf (c1 && (c2 && c3)) (d1 && (d2 && d3))

pub whole-outside : (c d : Around) (x : Summary) → whole (outside c d) x ≡ whole c (whole d x)
whole-outside c d x = sym (summary_is _ _ _ _ _ _ _ _
    (or_assoc x.holds d.own.holds c.own.holds)
    (and_assoc x.reads d.own.reads c.own.reads)
    (fine_part x.fine d.own.fine c.own.fine
    (not x.holds || d.beside_effect) (x.reads || d.beside_read) (not x.pending || d.behind_pending)
    (not (x.holds || d.own.holds) || c.beside_effect) ((x.reads && d.own.reads) || c.beside_read) (not ((x.pending && d.stays_pending) || d.own.pending) || c.behind_pending)
    (not d.own.holds || c.beside_effect) (d.own.reads || c.beside_read) (not d.own.pending || c.behind_pending)
    (not x.holds || (d.beside_effect && c.beside_effect)) (x.reads || (d.beside_read && c.beside_read)) (not x.pending || (d.behind_pending && (not d.stays_pending || c.behind_pending)))
    (effect_part x.holds d.beside_effect d.own.holds c.beside_effect)
    (read_part x.reads d.beside_read d.own.reads c.beside_read)
    (pending_part x.pending d.behind_pending d.stays_pending d.own.pending c.behind_pending))
    (still_pending x.pending d.stays_pending d.own.pending c.stays_pending c.own.pending))

-- ---- single forms

three_true : (h r p : Bool) → ((not h || true) && ((r || true) && (not p || true))) ≡ true
three_true true true true = refl
three_true true true false = refl
three_true true false true = refl
three_true true false false = refl
three_true false true true = refl
three_true false true false = refl
three_true false false true = refl
three_true false false false = refl

pub whole-nothing : (x : Summary) → whole nothing_around x ≡ x
whole-nothing x = summary_is _ _ _ _ _ _ _ _ (or_false x.holds) (and_true x.reads)
    ((λ i. and_true x.fine i && three_true x.holds x.reads x.pending i) ∙ and_true x.fine) (or_false (x.pending && true) ∙ and_true x.pending)

pending_with : (x y : Bool) → ((x && true) || y) ≡ (x || y)
pending_with x y = ap (λ b. b || y) (and_true x)

pub whole-in_order : (x y : Summary) → whole (in_order_with y) x ≡ in_order x y
whole-in_order x y = summary_is _ _ _ _ _ _ _ _ refl refl (ap (λ b. (x.fine && y.fine) && b) (three_true x.holds x.reads x.pending) ∙ and_true (x.fine && y.fine)) (pending_with x.pending y.pending)

or_comm : (a b : Bool) → (a || b) ≡ (b || a)
or_comm true b = sym (or_true b)
or_comm false b = sym (or_false b)

beside_part : (f g h r p a b : Bool) → ((f && g) && ((not h || a) && ((r || not b) && (not p || true)))) ≡ (f && g && ((not h || a) && (not b || r)))
beside_part false g h r p a b = refl
beside_part true false h r p a b = refl
beside_part true true h r p a b = ap (λ c. (not h || a) && c) (ap (λ c. (r || not b) && c) (or_true (not p)) ∙ and_true (r || not b) ∙ or_comm r (not b))

pub whole-beside : (x y : Summary) → whole (beside_this y) x ≡ beside x y
whole-beside x y = summary_is _ _ _ _ _ _ _ _ refl refl (beside_part x.fine y.fine x.holds x.reads x.pending y.reads y.holds) (pending_with x.pending y.pending)

read_fine : (f h r p m : Bool) → ((f && true) && ((not h || true) && ((r || true) && (not p || m)))) ≡ (f && (not p || m))
read_fine false h r p m = refl
read_fine true h r p m = (λ i. or_true (not h) i && (or_true r i && (not p || m)))

whole-read : (may : Bool) (x : Summary) → whole (read_of may) x ≡ reading may x
whole-read may x = summary_is _ _ _ _ _ _ _ _ (or_false x.holds) refl (read_fine x.fine x.holds x.reads x.pending may) (or_false (x.pending && true) ∙ and_true x.pending)

pub whole-operator : (p : Plain) (e : Embedded) (o : Op) (x : Summary) → whole (operator_of p e o) x ≡ through p e o x
whole-operator p e (op.Read path) x = whole-read (may_read p e path) x
whole-operator p e (op.Address path followed) x = whole-nothing x
whole-operator p e (op.Decay path followed) x = whole-nothing x
whole-operator p e op.Negate x = whole-nothing x
whole-operator p e op.Complement x = whole-nothing x
whole-operator p e op.Not x = whole-nothing x
whole-operator p e (op.Arithmetic how) x = whole-nothing x
whole-operator p e (op.Compare how) x = whole-nothing x
whole-operator p e (op.ComparePointers how) x = whole-nothing x
whole-operator p e (op.Offset minus first size accessed) x = whole-nothing x
whole-operator p e (op.Difference size) x = whole-nothing x
whole-operator p e op.Convert x = whole-nothing x
whole-operator p e op.Requalify x = whole-nothing x
whole-operator p e op.Cast x = whole-nothing x

and_false : (a b : Bool) → ((a && false) || b) ≡ b
and_false true b = refl
and_false false b = refl

pub whole-effect : (e : Effect) (x : Summary) → whole (effect_of e) x ≡ at_effect e x
whole-effect e x = summary_is _ _ _ _ _ _ _ _ (or_true x.holds) (and_true x.reads)
    ((λ i. and_true x.fine i && three_true x.holds x.reads x.pending i) ∙ and_true x.fine) (and_false x.pending (is_pending e))
