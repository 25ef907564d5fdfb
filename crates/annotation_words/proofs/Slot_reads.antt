-- Variables that are read, in the words of the code.
use Rattle.std.proofs.Common.{◌≡◌, ℕ, Bool, true, false, refl, sym, ap, ◌∙◌, subst}
use Rattle.std.specs.Prelude.{Option, Some, None, if◌then◌else◌}
use Rattle.std.proofs.lemmas.Bool.{false≢true}
use Rattle.wp_base.specs.declared.kinds.Kind.{Kind}
use Rattle.typed_prog.specs.declared.operators.Variable.{Variable}
use Rattle.typed_prog.specs.declared.operators.Variable.TheVariants as variables
use Rattle.acsl_trees.specs.declared.heads.Content.TheVariants as content
use Rattle.qed_terms.specs.Tree.{Tree}
use Rattle.c_runs.specs.Program as program
use Rattle.c_runs.specs.Program.{Facts}
use Rattle.plain_states.specs.Scopes.{kind_of}
use Rattle.program_steps.specs.Terms.{held_in}
use Rattle.acsl_encode.specs.Readings.{Terms, integer, truth, address, variable, elements, region, nothing, Slot, whole, any_integer, absent}
use Rattle.acsl_encode.specs.Readings.{at, Seen as Seen_}
use Rattle.acsl_encode.specs.Encode.{of_variable, held, read, as_pointer}
use Rattle.annotation_heads.specs.declared.terms.Shape.{Shape}
use Rattle.annotation_heads.specs.declared.terms.Shape.TheVariants as shape
use Rattle.annotation_heads.specs.Pairs.{shape_in}
use Rattle.annotation_words.specs.Seen.{of_kind, of_local, argument, is_known}
use Rattle.annotation_words.specs.View.{slot_with, view_locals, view_seen}
use Rattle.annotation_words.specs.declared.readings.Locals.{Locals}
use Rattle.annotation_words.specs.declared.readings.Locals.TheVariants as locals
use Rattle.annotation_words.specs.declared.readings.Seen.{Seen}

-- what is so of each slot that holds an integer, and of none, is so of each variable
module _ (holds : Slot → Type 0) (wholes : (k : Kind) (t : Tree) → holds (whole k t)) (any : (t : Tree) → holds (any_integer t)) (none : holds absent) where
  of_kind_so : (v : Option program.Variable) (t : Tree) → holds (of_kind v t)
  of_kind_so (Some v) t = wholes _ t
  of_kind_so None t = none

  held_so : (v : program.Variable) (t : Tree) → holds (held_in v t)
  held_so v t = by v.has_value where
    by : (b : Bool) → holds (if b then whole (kind_of v) t else any_integer t)
    by true = wholes _ t
    by false = any t

  of_local_so : (v : Option program.Variable) (t : Tree) → holds (of_local v t)
  of_local_so (Some v) t = held_so v t
  of_local_so None t = none

  argument_so : (v : Option program.Variable) (o : Option Tree) → holds (argument v o)
  argument_so v (Some t) = of_kind_so v t
  argument_so v None = none

  locals_so : (p : Facts) (l : Locals) (x : ℕ) → holds (view_locals p l x)
  locals_so p (locals.Slots vs ts) x = of_local_so _ _
  locals_so p (locals.Arguments vs ts) x = argument_so _ _

  pub variable_so : (p : Facts) (s : Seen) (x : Variable) → holds ((view_seen p s).variable x)
  variable_so p s (variables.Global x) = of_kind_so _ _
  variable_so p s (variables.Local x) = locals_so p s.locals x

abbrev IsKnownSo : Variable → Slot → Type 0
IsKnownSo x s = (b : Bool) → is_known s ≡ b → b ≡ true → variable x ≡ of_variable x s

abbrev IsUnknownSo : Variable → Slot → Type 0
IsUnknownSo x s = (b : Bool) → is_known s ≡ b → b ≡ false → nothing ≡ of_variable x s

pub variable_known : (p : Facts) (s : Seen) (x : Variable) (b : Bool) → is_known ((view_seen p s).variable x) ≡ b → b ≡ true
    → variable x ≡ of_variable x ((view_seen p s).variable x)
variable_known p s x = variable_so (IsKnownSo x) (λ k t b e h. refl) (λ t b e h. refl) (λ b e h. absurd (false≢true (e ∙ h))) p s x

pub variable_unknown : (p : Facts) (s : Seen) (x : Variable) (b : Bool) → is_known ((view_seen p s).variable x) ≡ b → b ≡ false
    → nothing ≡ of_variable x ((view_seen p s).variable x)
variable_unknown p s x = variable_so (IsUnknownSo x) (λ k t b e h. absurd (false≢true (sym (e ∙ h)))) (λ t b e h. absurd (false≢true (sym (e ∙ h)))) (λ b e h. refl) p s x

pub ruleset reading_laws = (variable_known, variable_unknown)

held_with : (k : Kind) (o : Option Kind) (t : Tree) → integer o t ≡ held (content.Integer k) (slot_with o t)
held_with k (Some l) t = refl
held_with k None t = refl

pub held_some : (k : Kind) (o : Option Kind) (s : Slot) (t : Tree) → slot_with o t ≡ s → integer o t ≡ held (content.Integer k) s
held_some k o s t e = held_with k o t ∙ ap (held (content.Integer k)) e

pub held_none : (k : Kind) (s : Slot) → absent ≡ s → nothing ≡ held (content.Integer k) s
held_none k s e = ap (held (content.Integer k)) e

pub no_pointers : (p : Facts) (s : Seen) (x : Terms) → nothing ≡ read content.Pointer (view_seen p s) x
no_pointers p s (integer k t) = refl
no_pointers p s (truth f) = refl
no_pointers p s (address b o) = refl
no_pointers p s (variable x) = variable_so (λ o. nothing ≡ held content.Pointer o) (λ k t. refl) (λ t. refl) refl p s x
no_pointers p s (elements b o n low high) = refl
no_pointers p s (region cells b low high) = refl
no_pointers p s nothing = refl

pub read_variable : (q : Seen_) (k : Kind) (x : Terms) (y : Variable) (t : Terms) → shape_in x ≡ shape.Variable y → t ≡ held (content.Integer k) (q.variable y)
    → t ≡ read (content.Integer k) q x
read_variable q k (variable z) y t e made = let same : y ≡ z = cc in made ∙ ap (λ v. held (content.Integer k) (q.variable v)) same
read_variable q k (integer l u) y t e made = absurd cc
read_variable q k (truth f) y t e made = absurd cc
read_variable q k (address b o) y t e made = absurd cc
read_variable q k (elements b o n low high) y t e made = absurd cc
read_variable q k (region cells b low high) y t e made = absurd cc
read_variable q k nothing y t e made = absurd cc

-- what is no variable and no address isn't read
abbrev pub IsElsewhere : Shape → Type 0
IsElsewhere (shape.Integer k) = Unit {0}
IsElsewhere shape.Truth = Unit {0}
IsElsewhere shape.Address = Unit {0}
IsElsewhere (shape.Variable x) = ⊥
IsElsewhere shape.Other = Unit {0}

read_elsewhere : (p : Facts) (s : Seen) (k : Kind) (x : Terms) → IsElsewhere (shape_in x) → nothing ≡ read (content.Integer k) (view_seen p s) x
read_elsewhere p s k (variable z) e = absurd e
read_elsewhere p s k (integer l u) e = refl
read_elsewhere p s k (truth f) e = refl
read_elsewhere p s k (address b o) e = refl
read_elsewhere p s k (elements b o n low high) e = refl
read_elsewhere p s k (region cells b low high) e = refl
read_elsewhere p s k nothing e = refl

pub read_integer : (p : Facts) (s : Seen) (k : Kind) (x : Terms) (l : Option Kind) → shape_in x ≡ shape.Integer l → nothing ≡ read (content.Integer k) (view_seen p s) x
read_integer p s k x l e = read_elsewhere p s k x (subst IsElsewhere (sym e) tt)

pub read_truth : (p : Facts) (s : Seen) (k : Kind) (x : Terms) → shape_in x ≡ shape.Truth → nothing ≡ read (content.Integer k) (view_seen p s) x
read_truth p s k x e = read_elsewhere p s k x (subst IsElsewhere (sym e) tt)

pub read_address : (p : Facts) (s : Seen) (k : Kind) (x : Terms) → shape_in x ≡ shape.Address → nothing ≡ read (content.Integer k) (view_seen p s) x
read_address p s k x e = read_elsewhere p s k x (subst IsElsewhere (sym e) tt)

pub read_other : (p : Facts) (s : Seen) (k : Kind) (x : Terms) → shape_in x ≡ shape.Other → nothing ≡ read (content.Integer k) (view_seen p s) x
read_other p s k x e = read_elsewhere p s k x (subst IsElsewhere (sym e) tt)

pub ruleset read_laws = (read_variable, read_integer, read_truth, read_address, read_other)

pub struct_there : (q : Seen_) (n : ℕ) (x : Terms) (b o : Tree) → Some (at b o) ≡ as_pointer x → address b o ≡ read (content.Struct n) q x
struct_there q n (address c u) b o e = let same : at b o ≡ at c u = cc in λ i. address (same i).block (same i).offset
struct_there q n (variable z) b o e = absurd cc
struct_there q n (integer l u) b o e = absurd cc
struct_there q n (truth f) b o e = absurd cc
struct_there q n (elements c u m low high) b o e = absurd cc
struct_there q n (region cells c low high) b o e = absurd cc
struct_there q n nothing b o e = absurd cc

pub struct_missing : (q : Seen_) (n : ℕ) (x : Terms) → None ≡ as_pointer x → nothing ≡ read (content.Struct n) q x
struct_missing q n (address c u) e = absurd cc
struct_missing q n (variable z) e = refl
struct_missing q n (integer l u) e = refl
struct_missing q n (truth f) e = refl
struct_missing q n (elements c u m low high) e = refl
struct_missing q n (region cells c low high) e = refl
struct_missing q n nothing e = refl

pub ruleset struct_laws = (struct_there, struct_missing)
