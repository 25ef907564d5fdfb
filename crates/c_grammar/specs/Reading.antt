-- Readers as functions on token lists: what is read, and the tokens after it. The parsers are made of these.
use Rattle.std.specs.Prelude.{ℕ, zero, suc, Bool, true, List, [], ◌∷◌, length, Option, Some, None, if◌then◌else◌}
use Rattle.std.specs.Str.{bytes_eq}
use denote.Enum.Bare.{sameb}
use Rattle.c_syntax.specs.contracts.token.Punct.{the_type as punct_type}
use Rattle.c_syntax.specs.contracts.token.Word.{the_type as word_type}
use Rattle.c_syntax.specs.declared.token.Token.{Token}
use Rattle.c_syntax.specs.declared.token.TokenKind.{TokenKind}
use Rattle.c_syntax.specs.declared.token.TokenKind.TheVariants as k
use Rattle.c_syntax.specs.declared.token.Punct.{Punct}
use Rattle.c_syntax.specs.declared.token.Punct.TheVariants as p
use Rattle.c_syntax.specs.declared.token.Word.{Word}
use Rattle.c_grammar.specs.Tokens.{Names, is_type}

abbrev pub Reader : Type 0 → Type 0
Reader X = List Token → Option (X × List Token)

infixl 10 ◌>>=◌
abbrev pub ◌>>=◌ : {X Y : Type 0} → Option X → (X → Option Y) → Option Y
None >>= f = None
(Some x) >>= f = f x

-- reads nothing
abbrev pub nothing : {X : Type 0} → Reader X
nothing ts = None

-- ---- one token

abbrev pub punct_by : Punct → (line : ℕ) → TokenKind → Reader ℕ
punct_by q line (k.Punct found) ts = if sameb punct_type found q then Some (line, ts) else None
punct_by q line _ ts = None

-- the line of a punctuator that comes first
abbrev pub punct_at : Punct → Reader ℕ
punct_at q [] = None
punct_at q (t ∷ ts) = punct_by q t.line t.kind ts

abbrev pub word_by : Word → (line : ℕ) → TokenKind → Reader ℕ
word_by w line (k.Word found) ts = if sameb word_type found w then Some (line, ts) else None
word_by w line _ ts = None

-- the line of a word that comes first
abbrev pub word_at : Word → Reader ℕ
word_at w [] = None
word_at w (t ∷ ts) = word_by w t.line t.kind ts

abbrev pub name_by : (line : ℕ) → TokenKind → Reader (List ℕ × ℕ)
name_by line (k.Name x) ts = Some ((x, line), ts)
name_by line _ ts = None

-- a name that comes first, with its line
abbrev pub name_at : Reader (List ℕ × ℕ)
name_at [] = None
name_at (t ∷ ts) = name_by t.line t.kind ts

abbrev pub unless_type : Names → List ℕ → {X : Type 0} → X → Option X
unless_type types x found = if is_type types x then None else Some found

-- a name that no typedef declared
abbrev pub new_name_at : Names → Reader (List ℕ × ℕ)
new_name_at types ts = name_at ts >>= λ x. unless_type types x.0.0 x

abbrev pub keyword_by : List ℕ → (line : ℕ) → TokenKind → Reader ℕ
keyword_by text line (k.Name x) ts = if bytes_eq x text then Some (line, ts) else None
keyword_by text line _ ts = None

-- the line of a name with this text, which annotations use as a word
abbrev pub keyword_at : List ℕ → Reader ℕ
keyword_at text [] = None
keyword_at text (t ∷ ts) = keyword_by text t.line t.kind ts

abbrev pub annot_open_by : (line : ℕ) → TokenKind → Reader ℕ
annot_open_by line k.AnnotOpen ts = Some (line, ts)
annot_open_by line _ ts = None

-- the line of what opens an annotation, where it comes first
abbrev pub annot_open_at : Reader ℕ
annot_open_at [] = None
annot_open_at (t ∷ ts) = annot_open_by t.line t.kind ts

abbrev pub annot_close_by : (line : ℕ) → TokenKind → Reader ℕ
annot_close_by line k.AnnotClose ts = Some (line, ts)
annot_close_by line _ ts = None

-- the line of what ends an annotation, where it comes first
abbrev pub annot_close_at : Reader ℕ
annot_close_at [] = None
annot_close_at (t ∷ ts) = annot_close_by t.line t.kind ts

-- ---- levels of operators, each grouped to the left, over any readers of operators and operands

-- goes on after an operator, or stops before what is none
abbrev pub linked : {X O : Type 0} → (O → ℕ → X → X → X) → Option ((O × ℕ) × List Token) → X → List Token → Reader X → (X → Reader X) → Option (X × List Token)
linked make None a ts operand go = Some (a, ts)
linked make (Some x) a ts operand go = operand x.1 >>= λ b. go (make x.0.0 x.0.1 a b.0) b.1

-- more operands of one level, at most so many
unfoldable pub chain : {X O : Type 0} → (make : O → ℕ → X → X → X) → (operator : Reader (O × ℕ)) → (operand : Reader X) → (turns : ℕ) → X → Reader X
chain make operator operand zero a ts = Some (a, ts)
chain make operator operand (suc turns) a ts = linked make (operator ts) a ts operand (chain make operator operand turns)

-- operators up to the level, over these operands
unfoldable pub levels : {X O : Type 0} → (make : O → ℕ → X → X → X) → (operator : ℕ → Reader (O × ℕ)) → (n : ℕ) → Reader X → Reader X
levels make operator zero operand ts = operand ts
levels make operator (suc n) operand ts =
    levels make operator n operand ts >>= λ a. chain make (operator (suc n)) (levels make operator n operand) (length a.1) a.0 a.1

-- ---- past a bracket

-- What comes after the bracket that is open here, `depth` brackets deeper, and whether `..` stands directly in it. All brackets are counted alike.
abbrev pub past_by : (go : (depth : ℕ) → (found : Bool) → Option (Bool × List Token)) → (depth : ℕ) → (found : Bool) → TokenKind → List Token → Option (Bool × List Token)
past_by go depth found (k.Punct p.OpenParen) ts = go (suc depth) found
past_by go depth found (k.Punct p.OpenBracket) ts = go (suc depth) found
past_by go zero found (k.Punct p.CloseParen) ts = Some (found, ts)
past_by go (suc depth) found (k.Punct p.CloseParen) ts = go depth found
past_by go zero found (k.Punct p.CloseBracket) ts = Some (found, ts)
past_by go (suc depth) found (k.Punct p.CloseBracket) ts = go depth found
past_by go zero found (k.Punct p.Range) ts = go zero true
past_by go depth found _ ts = go depth found

abbrev pub past : (depth : ℕ) → (found : Bool) → List Token → Option (Bool × List Token)
past depth found [] = None
past depth found (t ∷ ts) = past_by (λ depth found. past depth found ts) depth found t.kind ts
