-- Which words are names.
use Rattle.std.specs.Prelude.{Bool, true, false}
use Rattle.check_reading.specs.declared.words.word.Role.{Role}
use Rattle.check_reading.specs.declared.words.word.Role.TheVariants as RoleV

abbrev pub is_name_role : Role → Bool
is_name_role (RoleV.Name b) = true
is_name_role (RoleV.Unwrapped b u) = true
is_name_role RoleV.ChosenFrom = true
is_name_role _ = false
