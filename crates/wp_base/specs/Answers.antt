-- The numbers and texts of the program's answers.
use Rattle.std.specs.Prelude.{ℕ, List, codes, []}
use Rattle.wp_base.specs.declared.answers.Rule.{Rule}
use Rattle.wp_base.specs.declared.answers.Rule.TheVariants as rule
use Rattle.wp_base.specs.declared.answers.Status.{Status}
use Rattle.wp_base.specs.declared.answers.Status.TheVariants as status

-- the number of a rule in a refusal
abbrev pub number_of : Rule → ℕ
number_of rule.Lexical = 1
number_of rule.Word = 2
number_of rule.Syntax = 3
number_of rule.Limit = 4
number_of rule.Name = 5
number_of rule.Typing = 6
number_of rule.Shape = 7
number_of rule.Unsequenced = 8
number_of rule.NoBody = 9
number_of rule.Unbuilt = 10

-- its name
abbrev pub name_of : Rule → List ℕ
name_of rule.Lexical = codes "lexical"
name_of rule.Word = codes "word"
name_of rule.Syntax = codes "syntax"
name_of rule.Limit = codes "limit"
name_of rule.Name = codes "name"
name_of rule.Typing = codes "type"
name_of rule.Shape = codes "shape"
name_of rule.Unsequenced = codes "unsequenced"
name_of rule.NoBody = codes "no_body"
name_of rule.Unbuilt = codes "unbuilt"

-- the exit status
abbrev pub code_of : Status → ℕ
code_of status.AllProved = 0
code_of status.SomeUnknown = 1
code_of status.Refused = 2
code_of status.Usage = 3
code_of status.ReadFault = 4
code_of status.WriteFault = 5
code_of status.NoMemory = 6

-- what is said on standard error
abbrev pub text_of : Status → List ℕ
text_of status.AllProved = []
text_of status.SomeUnknown = []
text_of status.Refused = []
text_of status.Usage = codes "usage: wp [--machdep NAME] [--goals] FILE"
text_of status.ReadFault = codes "wp: cannot read"
text_of status.WriteFault = codes "wp: cannot write"
text_of status.NoMemory = codes "wp: out of memory"
