-- What kinds names may not be of.
use Rattle.std.specs.Prelude.{Bool, false, ◌&&◌, not}
use Rattle.check_reading.specs.declared.words.word.Role.{Role}
use Rattle.check_reading.specs.declared.words.word.Role.TheVariants as RoleV

-- a group's where a type is demanded, or a type's after `&`
abbrev pub is_wrong_kind : Role → (is_group : Bool) → Bool
is_wrong_kind (RoleV.Name b) g = b && g
is_wrong_kind RoleV.ChosenFrom g = not g
is_wrong_kind _ g = false
