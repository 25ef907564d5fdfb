-- The first tokens of statements.
use Rattle.std.proofs.Common.{◌≡◌, refl}
use Rattle.c_syntax.specs.declared.token.TokenKind.{TokenKind}
use Rattle.c_syntax.specs.declared.token.TokenKind.TheVariants as k
use Rattle.c_syntax.specs.declared.token.Word.TheVariants as w
use Rattle.c_syntax.specs.declared.token.Punct.TheVariants as p
use Rattle.parse_leaf_stmts.specs.declared.forms.Form.{Form}
use Rattle.parse_leaf_stmts.specs.declared.forms.Form.TheVariants as form
use Rattle.parse_leaf_stmts.specs.Read.{form_of}

-- what the first token is
abbrev pub Begun : Form → TokenKind → Type 0
Begun form.Empty kind = kind ≡ k.Punct p.Semicolon
Begun form.Block kind = kind ≡ k.Punct p.OpenBrace
Begun form.If kind = kind ≡ k.Word w.If
Begun form.While kind = kind ≡ k.Word w.While
Begun form.Do kind = kind ≡ k.Word w.Do
Begun form.For kind = kind ≡ k.Word w.For
Begun form.Switch kind = kind ≡ k.Word w.Switch
Begun form.Break kind = kind ≡ k.Word w.Break
Begun form.Continue kind = kind ≡ k.Word w.Continue
Begun form.Return kind = kind ≡ k.Word w.Return
Begun form.Annotated kind = kind ≡ k.AnnotOpen
Begun form.Value kind = Unit {0}
Begun form.Nothing kind = Unit {0}

pub begun : (kind : TokenKind) → Begun (form_of kind) kind
begun (k.Punct p.Semicolon) = refl
begun (k.Punct p.OpenBrace) = refl
begun (k.Punct _) = tt
begun (k.Word w.If) = refl
begun (k.Word w.While) = refl
begun (k.Word w.Do) = refl
begun (k.Word w.For) = refl
begun (k.Word w.Switch) = refl
begun (k.Word w.Break) = refl
begun (k.Word w.Continue) = refl
begun (k.Word w.Return) = refl
begun (k.Word _) = tt
begun k.AnnotOpen = refl
begun _ = tt
