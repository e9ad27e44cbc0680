-- What bytes hold that are to be items again, as those of a byte string may be (RFC 8610 section 3.8.4): one item, or a
-- CBOR sequence (RFC 8742), in any spelling.
use Rattle.std.specs.Prelude.{ℕ, ◌≤◌, List, [], ◌++◌}
use Rattle.cbor_data.specs.Value.{Value, Values, no_values, value, depth_of}
use Rattle.cbor_data.specs.Validity.{IsValid}
use Rattle.cbor_data.specs.Forms.{Spells}

-- the bytes are a spelling of the item, which is valid and not deeper than 256
pub record Embeds (b : List ℕ) (x : Value) : Type 0 where
  pub spells : Spells x b
  pub valid : IsValid x
  pub shallow : depth_of x ≤ 256

-- the bytes are such spellings of these items, one after the other
pub data EmbedsAll : List ℕ → Values → Type 0 where
  none : EmbedsAll [] no_values
  one_more : {b c : List ℕ} {x : Value} {xs : Values} → Embeds b x → EmbedsAll c xs → EmbedsAll (b ++ c) (value x xs)
