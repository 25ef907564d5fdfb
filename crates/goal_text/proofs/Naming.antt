-- The tables of words: they are those of the definitions, and each word stands for one head.
use Rattle.std.proofs.Common.{◌≡◌, ℕ, List, map, codes, Some, refl}
use Rattle.goal_words.specs.Kinds.{row_of}
use Rattle.goal_words.proofs.Naming.{AreNamed, row_of_is}
use Rattle.goal_text.specs.declared.words.TermWord.{TermWord}
use Rattle.goal_text.specs.declared.words.TermWord.TheVariants as t
use Rattle.goal_text.specs.declared.words.FormWord.{FormWord}
use Rattle.goal_text.specs.declared.words.FormWord.TheVariants as f
use Rattle.goal_text.specs.declared.words.TheConstants.{TERM_WORDS, FORM_WORDS}
use Rattle.goal_text.specs.Words.{term_words, form_words}

pub term_rows : map (λ row. (row.0.now, row.1)) TERM_WORDS ≡ term_words
unfolding term_words
term_rows = refl

pub form_rows : map (λ row. (row.0.now, row.1)) FORM_WORDS ≡ form_words
unfolding form_words
form_rows = refl

abbrev pub term_word_text : TermWord → List ℕ
term_word_text t.Add = codes "+"
term_word_text t.Sub = codes "-"
term_word_text t.Mul = codes "*"
term_word_text t.Neg = codes "neg"
term_word_text t.Div = codes "div"
term_word_text t.Mod = codes "mod"
term_word_text t.Wrap = codes "wrap"
term_word_text t.ShiftLeft = codes "shl"
term_word_text t.ShiftRight = codes "shr"
term_word_text t.BitAnd = codes "band"
term_word_text t.BitOr = codes "bor"
term_word_text t.BitXor = codes "bxor"
term_word_text t.BitNot = codes "bnot"
term_word_text t.Ite = codes "ite"
term_word_text t.Load = codes "load"
term_word_text t.Count = codes "count"
term_word_text t.Len = codes "len"
term_word_text t.App = codes "app"
term_word_text t.Store = codes "store"
term_word_text t.Alloc = codes "alloc"
term_word_text t.Grow = codes "grow"

abbrev pub form_word_text : FormWord → List ℕ
form_word_text f.Equal = codes "="
form_word_text f.AtMost = codes "<="
form_word_text f.Less = codes "<"
form_word_text f.Same = codes "same"
form_word_text f.Not = codes "not"
form_word_text f.And = codes "and"
form_word_text f.Or = codes "or"
form_word_text f.Imp = codes "imp"
form_word_text f.Iff = codes "iff"
form_word_text f.Forall = codes "forall"
form_word_text f.Exists = codes "exists"
form_word_text f.Read = codes "read"
form_word_text f.Write = codes "write"
form_word_text f.Live = codes "live"
form_word_text f.Has = codes "has"
form_word_text f.WellFormed = codes "wf"
form_word_text f.Frame = codes "frame"

terms_named : AreNamed term_word_text term_words
unfolding term_words
terms_named = search tt

forms_named : AreNamed form_word_text form_words
unfolding form_words
forms_named = search tt

pub term_word_is : (word : List ℕ) (w : TermWord) → row_of term_words word ≡ Some w → word ≡ term_word_text w
term_word_is word w h = row_of_is term_word_text term_words word w terms_named h

pub form_word_is : (word : List ℕ) (w : FormWord) → row_of form_words word ≡ Some w → word ≡ form_word_text w
form_word_is word w h = row_of_is form_word_text form_words word w forms_named h

pub term_word_found : (w : TermWord) → row_of term_words (term_word_text w) ≡ Some w
unfolding term_words
term_word_found t.Add = refl
term_word_found t.Sub = refl
term_word_found t.Mul = refl
term_word_found t.Neg = refl
term_word_found t.Div = refl
term_word_found t.Mod = refl
term_word_found t.Wrap = refl
term_word_found t.ShiftLeft = refl
term_word_found t.ShiftRight = refl
term_word_found t.BitAnd = refl
term_word_found t.BitOr = refl
term_word_found t.BitXor = refl
term_word_found t.BitNot = refl
term_word_found t.Ite = refl
term_word_found t.Load = refl
term_word_found t.Count = refl
term_word_found t.Len = refl
term_word_found t.App = refl
term_word_found t.Store = refl
term_word_found t.Alloc = refl
term_word_found t.Grow = refl

pub form_word_found : (w : FormWord) → row_of form_words (form_word_text w) ≡ Some w
unfolding form_words
form_word_found f.Equal = refl
form_word_found f.AtMost = refl
form_word_found f.Less = refl
form_word_found f.Same = refl
form_word_found f.Not = refl
form_word_found f.And = refl
form_word_found f.Or = refl
form_word_found f.Imp = refl
form_word_found f.Iff = refl
form_word_found f.Forall = refl
form_word_found f.Exists = refl
form_word_found f.Read = refl
form_word_found f.Write = refl
form_word_found f.Live = refl
form_word_found f.Has = refl
form_word_found f.WellFormed = refl
form_word_found f.Frame = refl
