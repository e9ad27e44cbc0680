-- The codes that are reported for the whole text.
use Rattle.cddl_token.specs.declared.Code.{Code}
use Rattle.cddl_token.specs.declared.Code.TheVariants as CodeV
use Rattle.check_text.specs.declared.everywhere.codes.TextCode.{TextCode}
use Rattle.check_text.specs.declared.everywhere.codes.TextCode.TheVariants.{Duplicate, KindClash, Undefined, Arity, NoRoot, BadRoot, GroupAsType, HashForm, UnknownControl}

abbrev pub code_of : TextCode → Code
code_of Duplicate = CodeV.Duplicate
code_of KindClash = CodeV.KindClash
code_of Undefined = CodeV.Undefined
code_of Arity = CodeV.Arity
code_of NoRoot = CodeV.NoRoot
code_of BadRoot = CodeV.BadRoot
code_of GroupAsType = CodeV.GroupAsType
code_of HashForm = CodeV.HashForm
code_of UnknownControl = CodeV.UnknownControl
