-- What a handle owns.
use Rattle.std.specs.Prelude.{Option, Some, None}
use mir.Syntax.{Ty}
use base.Fml.{Fml, feq}
use denote.RattleType.{RattleType}
use denote.RawPtr.{Ptr, null_ptr}
use Rattle.std_alloc.specs.Box.Ownership.{box_owns}

-- a null pointer where it holds nothing; else what a box at its pointer owns, with what it holds in it, and the right to free that
abbrev pub may_own : (Ty → Ptr → Fml) → (R : RattleType) → Ptr → Option R.Denot → Fml
may_own holds R p None = feq Ptr p null_ptr
may_own holds R p (Some x) = box_owns holds R p x
