-- How long an item's spellings are.
use Rattle.std.specs.Prelude.{ℕ, ◌+◌, ◌-◌, ◌^◌, ◌≤◌, length, min}
use Rattle.cbor_data.specs.Preferred.{preferred}
use Rattle.cbor_data.specs.Value.{Value}
use Rattle.cbor_data.specs.Sound.{HasShortSpelling}
use Rattle.cbor_item.specs.declared.sound.Unsound.{Unsound}
use Rattle.cbor_item.specs.declared.sound.Unsound.TheVariants.{TooBig, Memory}

-- so many and so many more, as far as 2^128 - 1
abbrev pub capped_sum : ℕ → ℕ → ℕ
capped_sum before more = min (before + more) (2 ^ 128 - 1)

-- why an item is refused for its length: none of its spellings is short; or its preferred one is not, which does not tell
abbrev pub IsTooLong : Value → Unsound → Type 0
IsTooLong x TooBig = HasShortSpelling x → ⊥
IsTooLong x Memory = 2 ^ 64 ≤ length (preferred x)
IsTooLong x _ = ⊥
