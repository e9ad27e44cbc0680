-- Why an item is not sound.
use Rattle.std.specs.Prelude.{◌<◌, ◌≤◌}
use Rattle.cbor_data.specs.Value.{Value, AreBitsFitting, AreSimplesAssignable, depth_of}
use Rattle.cbor_data.specs.Validity.{IsFirstRepeatedKey}
use Rattle.cbor_data.specs.Sound.{HasShortSpelling}
use Rattle.cbor_item.specs.declared.sound.Unsound.{Unsound}
use Rattle.cbor_item.specs.declared.sound.Unsound.TheVariants.{TooDeep, BadSimple, BadBits, TooBig, Duplicate, Memory}

-- the first of these, in this order, that holds of the item; that there was no memory says no more than that the first
-- three, which are reported without any, do not
abbrev pub IsFirstUnsoundness : Value → Unsound → Type 0
IsFirstUnsoundness x TooDeep = 256 < depth_of x
IsFirstUnsoundness x BadSimple = (depth_of x ≤ 256) × (AreSimplesAssignable x → ⊥)
IsFirstUnsoundness x BadBits = (depth_of x ≤ 256) × AreSimplesAssignable x × (AreBitsFitting x → ⊥)
IsFirstUnsoundness x TooBig = (depth_of x ≤ 256) × AreSimplesAssignable x × AreBitsFitting x × (HasShortSpelling x → ⊥)
IsFirstUnsoundness x (Duplicate place) =
    (depth_of x ≤ 256) × AreSimplesAssignable x × AreBitsFitting x × HasShortSpelling x × IsFirstRepeatedKey x place
IsFirstUnsoundness x Memory = (depth_of x ≤ 256) × AreSimplesAssignable x × AreBitsFitting x

-- of an item that is sound but for its keys: the first repeated key, or there was no memory to look for it
abbrev pub IsRepeat : Value → Unsound → Type 0
IsRepeat x (Duplicate place) = IsFirstRepeatedKey x place
IsRepeat x Memory = Unit {0}
IsRepeat x _ = ⊥
