-- Words as lists: their checks, and what is said of them put together.
use Rattle.std.proofs.Common.{◌≡◌, ℕ, suc, Bool, true, false, List, [], ◌∷◌, ◌++◌, refl, ap, ◌∙◌}
use Rattle.std.specs.Prelude.{map, ◌&&◌, Option, Some, None}
use Rattle.std.specs.List.{list_all}
use Rattle.std.proofs.lemmas.Bool.{and_parts}
use Rattle.wp_base.specs.declared.kinds.CellKind.{CellKind}
use Rattle.wp_base.specs.declared.kinds.CellKind.TheVariants as cell
use Rattle.wp_base.specs.declared.kinds.Kind.{Kind}
use Rattle.wp_base.specs.Kinds.{is_signed}
use Rattle.c_kinds.specs.declared.models.Machdep.{Machdep}
use Rattle.typed_prog.specs.declared.types.CoreType.{CoreType}
use Rattle.typed_prog.specs.declared.operators.Arithmetic.{Arithmetic}
use Rattle.typed_prog.specs.declared.operators.Arithmetic.TheVariants as ar
use Rattle.typed_prog.specs.declared.operators.Op.{Op}
use Rattle.typed_prog.specs.declared.operators.Op.TheVariants as op
use Rattle.typed_prog.specs.declared.operators.Path.{Path}
use Rattle.typed_prog.specs.declared.operators.Step.{Step}
use Rattle.typed_prog.specs.declared.operators.Step.TheVariants as step
use Rattle.typed_prog.specs.Tree as t
use Rattle.qed_terms.specs.Tree.{Tree}
use Rattle.c_runs.specs.Program.{Facts, Variable}
use Rattle.c_runs.specs.Operators.{Undefined, overflow, divzero, shift, access, index}
use Rattle.c_runs.specs.Objects.{plain_root, is_pointed, cell_of}
use Rattle.c_runs.specs.Checks.{Check, here, one_if, in_operand, later, index_checks, read_checks_by, division_checks, arithmetic_checks, may_be_zero, may_be_minus_one, op_checks, node_checks, checks_of, all_checks}
use Rattle.value_terms.specs.Readings.{Term, Reading, plain_global}
use Rattle.value_terms.specs.Terms.{terms_of, address_term}
use Rattle.value_terms.specs.Words.{Item, asked, known, checks_in, asked_if, with_check, division_items, arithmetic_items, index_items, cell_facts, facts_by, read_items, access_term, op_items, node_word, word_of, words}
use Rattle.value_terms.specs.Laws.{WordsHaveTheChecks}

-- ---- the checks of a list of items

pub checks_append : (us vs : List Item) → checks_in (us ++ vs) ≡ checks_in us ++ checks_in vs
checks_append [] vs = refl
checks_append (asked c f ∷ us) vs = ap (λ cs. c ∷ cs) (checks_append us vs)
checks_append (known f ∷ us) vs = checks_append us vs

pub checks_map : (g : Check → Check) (is : List Item) → checks_in (map (with_check g) is) ≡ map g (checks_in is)
checks_map g [] = refl
checks_map g (asked c f ∷ is) = ap (λ cs. g c ∷ cs) (checks_map g is)
checks_map g (known f ∷ is) = checks_map g is

pub asked_checks : (b : Bool) (u : Undefined) (l : ℕ) (f : Tree) → checks_in (asked_if b u l f) ≡ one_if b u l
asked_checks true u l f = refl
asked_checks false u l f = refl

-- one check that is asked, and what stands behind it
asked_then : (b : Bool) (u : Undefined) (l : ℕ) (f : Tree) (is : List Item) (cs : List Check)
    → checks_in is ≡ cs → checks_in (asked_if b u l f ++ is) ≡ one_if b u l ++ cs
asked_then true u l f is cs e = ap (λ cs. here u l ∷ cs) e
asked_then false u l f is cs e = e

with_none : (cs : List Check) → cs ++ [] ≡ cs
with_none [] = refl
with_none (c ∷ cs) = ap (λ ds. c ∷ ds) (with_none cs)

-- checks, one more, and facts
three_have : (us : List Item) (b : Bool) (u : Undefined) (l : ℕ) (f : Tree) (is : List Item) (cs : List Check)
    → checks_in us ≡ cs → checks_in is ≡ [] → checks_in (us ++ (asked_if b u l f ++ is)) ≡ cs ++ one_if b u l
three_have us b u l f is cs e k =
    checks_append us (asked_if b u l f ++ is) ∙ (λ i. e i ++ asked_then b u l f is [] k i) ∙ ap (λ ds. cs ++ ds) (with_none (one_if b u l))

-- ---- operators

division_has : (m : Machdep) (k : Kind) (l : ℕ) (z : Option _) (a b : Tree) → checks_in (division_items m k l z a b) ≡ division_checks (is_signed k) l z
division_has m k l z a b = asked_then (may_be_zero z) divzero l _ _ _ (asked_checks (is_signed k && may_be_minus_one z) overflow l _)

arithmetic_has : (m : Machdep) (k : Kind) (l : ℕ) (o : Arithmetic) (z : Option _) (a b : Tree)
    → checks_in (arithmetic_items m k l o z a b) ≡ arithmetic_checks (is_signed k) l o z
arithmetic_has m k l ar.Mul z a b = asked_checks (is_signed k) overflow l _
arithmetic_has m k l ar.Add z a b = asked_checks (is_signed k) overflow l _
arithmetic_has m k l ar.Sub z a b = asked_checks (is_signed k) overflow l _
arithmetic_has m k l ar.Div z a b = division_has m k l z a b
arithmetic_has m k l ar.Rem z a b = division_has m k l z a b
arithmetic_has m k l ar.Shl z a b = ap (λ cs. here shift l ∷ cs) (asked_checks (is_signed k) overflow l _)
arithmetic_has m k l ar.Shr z a b = refl
arithmetic_has m k l ar.And z a b = refl
arithmetic_has m k l ar.Xor z a b = refl
arithmetic_has m k l ar.Or z a b = refl

module _ (p : Facts) (xs : List Variable) (r : Reading) where
  pub index_has : (ts : List Term) (n : ℕ) (ss : List Step) → checks_in (index_items p r ts n ss) ≡ index_checks n ss
  index_has ts n [] = refl
  index_has ts n (step.Element operand size count line ∷ ss) =
      ap (λ cs. record { kind = index; line = line; step = n; way = [] } ∷ cs) (index_has ts (suc n) ss)
  index_has ts n (step.Field number offset ∷ ss) = index_has ts (suc n) ss
  index_has ts n (step.Moved operand size ∷ ss) = index_has ts (suc n) ss

  cell_has : (k : CellKind) (a : Term) → checks_in (cell_facts p r k a) ≡ []
  cell_has (cell.Of k) a = refl
  cell_has cell.Ptr a = refl

  facts_have : (o : Option ℕ) (type : CoreType) (path : Path) (ts : List Term) → checks_in (facts_by p r o type path ts) ≡ []
  facts_have (Some x) type path ts = refl
  facts_have None type path ts = cell_has (cell_of type) _

  read_has : (o : Option ℕ) (type : CoreType) (path : Path) (ts : List Term) → checks_in (read_items p r o xs type path ts) ≡ read_checks_by o xs path
  read_has (Some x) type path ts = asked_checks _ _ path.line _
  read_has None type path ts =
      three_have (index_items p r ts 0 path.steps) (is_pointed path.root) access path.line (access_term p r (cell_of type) (address_term p r path ts))
      (facts_by p r (plain_global p.globals path.root) type path ts) (index_checks 0 path.steps)
      (index_has ts 0 path.steps) (facts_have (plain_global p.globals path.root) type path ts)

  pub op_has : (type : CoreType) (l : ℕ) (o : Op) (es : t.Values) (ts : List Term) → checks_in (op_items p xs r type l o es ts) ≡ op_checks xs type l o es
  unfolding op_items
  op_has type l (op.Read path) es ts = read_has (plain_root xs path.root) type path ts
  op_has type l (op.Address path accessed) es ts = asked_checks _ _ path.line _
  op_has type l (op.Decay path accessed) es ts = asked_checks _ _ path.line _
  op_has type l op.Negate es ts = asked_checks _ _ l _
  op_has type l op.Complement es ts = refl
  op_has type l op.Not es ts = refl
  op_has type l (op.Arithmetic o) es ts = arithmetic_has p.model _ l o _ _ _
  op_has type l (op.Compare c) es ts = refl
  op_has type l (op.ComparePointers c) es ts = asked_checks _ _ l _
  op_has type l (op.Offset minus index_first size accessed) es ts = asked_checks _ _ l _
  op_has type l (op.Difference size) es ts = refl
  op_has type l op.Convert es ts = refl
  op_has type l op.Requalify es ts = refl
  op_has type l op.Cast es ts = refl

  mutual
    node_has : (type : CoreType) (l : ℕ) (what : t.ValueNode) → checks_in (node_word p xs r type l what) ≡ node_checks xs type l what
    node_has type l (t.constant z) = refl
    node_has type l t.null = refl
    node_has type l (t.temporary n) = refl
    node_has type l (t.apply o es) =
        checks_append (words p xs r es) _ ∙ (λ i. words_have es i ++ op_has type l o es (terms_of p xs r es) i)
    node_has type l (t.logic c a b) = refl
    node_has type l (t.choose c a b) = refl
    node_has type l (t.effect e es) = refl

    pub word_has : (e : t.Value) → checks_in (word_of p xs r e) ≡ checks_of xs e
    word_has (t.typed what type l) = node_has type l what

    pub words_have : (es : t.Values) → checks_in (words p xs r es) ≡ all_checks xs es
    words_have t.stop = refl
    words_have (t.more e es) =
        checks_append (map (with_check (in_operand 0)) (word_of p xs r e)) _
        ∙ (λ i. checks_map (in_operand 0) (word_of p xs r e) i ++ checks_map later (words p xs r es) i)
        ∙ (λ i. map (in_operand 0) (word_has e i) ++ map later (words_have es i))

pub words_have_the_checks : WordsHaveTheChecks
words_have_the_checks p xs r e = word_has p xs r e

-- ---- all checks are met

abbrev pub all : (met : Check → Bool) → List Check → Bool
all met cs = list_all met cs

both_true : (a b : Bool) → a ≡ true → b ≡ true → (a && b) ≡ true
both_true a b p q = λ i. p i && q i

pub all_parts : (met : Check → Bool) (us vs : List Check) → all met (us ++ vs) ≡ true → (all met us ≡ true) × (all met vs ≡ true)
all_parts met [] vs h = (refl, h)
all_parts met (u ∷ us) vs h =
    let one = and_parts (met u) _ h in
    let rest = all_parts met us vs one.1 in
    (both_true (met u) _ one.0 rest.0, rest.1)

pub all_join : (met : Check → Bool) (us vs : List Check) → all met us ≡ true → all met vs ≡ true → all met (us ++ vs) ≡ true
all_join met [] vs h g = g
all_join met (u ∷ us) vs h g = let parts = and_parts (met u) _ h in both_true (met u) _ parts.0 (all_join met us vs parts.1 g)

pub all_map : (met : Check → Bool) (g : Check → Check) (cs : List Check) → all met (map g cs) ≡ all (λ c. met (g c)) cs
all_map met g [] = refl
all_map met g (c ∷ cs) = ap (λ b. met (g c) && b) (all_map met g cs)

-- something is so of each
abbrev pub Each : (Check → Type 0) → List Check → Type 0
Each P [] = Unit {0}
Each P (c ∷ cs) = P c × Each P cs

each_all : (P : Check → Type 0) → ((c : Check) → P c) → (cs : List Check) → Each P cs
each_all P h [] = tt
each_all P h (c ∷ cs) = (h c, each_all P h cs)

each_map : (P : Check → Type 0) (g : Check → Check) (cs : List Check) → Each (λ c. P (g c)) cs → Each P (map g cs)
each_map P g [] h = tt
each_map P g (c ∷ cs) h = (h.0, each_map P g cs h.1)

each_append : (P : Check → Type 0) (us vs : List Check) → Each P us → Each P vs → Each P (us ++ vs)
each_append P [] vs h k = k
each_append P (u ∷ us) vs h k = (h.0, each_append P us vs h.1 k)

pub all_same : (met met' : Check → Bool) (cs : List Check) → Each (λ c. met c ≡ met' c) cs → all met cs ≡ all met' cs
all_same met met' [] h = refl
all_same met met' (c ∷ cs) h = λ i. h.0 i && all_same met met' cs h.1 i

-- each check of operands has a way that isn't empty
pub deep : (xs : List Variable) (es : t.Values) (met met' : Check → Bool)
    → ((u : Undefined) (l n i : ℕ) (way : List ℕ)
    → met (record { kind = u; line = l; step = n; way = i ∷ way }) ≡ met' (record { kind = u; line = l; step = n; way = i ∷ way }))
    → Each (λ c. met c ≡ met' c) (all_checks xs es)
deep xs t.stop met met' h = tt
deep xs (t.more e es) met met' h =
    each_append _ (map (in_operand 0) (checks_of xs e)) (map later (all_checks xs es))
    (each_map (λ c. met c ≡ met' c) (in_operand 0) (checks_of xs e) (each_all _ (λ c. h c.kind c.line c.step 0 c.way) (checks_of xs e)))
    (each_map (λ c. met c ≡ met' c) later (all_checks xs es) (deep xs es (λ c. met (later c)) (λ c. met' (later c)) (λ u l n i way. h u l n (suc i) way)))
