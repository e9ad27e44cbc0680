-- What a byte string holds to the controls `.cbor` and `.cborseq` (RFC 8610 section 3.8.4).
use Rattle.std.specs.Prelude.{ℕ, List}
use Rattle.cbor_data.specs.Value.{Value, array, Values}
use Rattle.cbor_data.specs.Embedded.{Embeds, EmbedsAll}
use Rattle.cddl_meaning.specs.Forms.{Content, one_item, sequence_of_items}

-- A byte string of these bytes holds this item. What a sequence holds is the array of its items, which may be one deeper
-- than they are.
pub data Holds : Content → List ℕ → Value → Type 0 where
  item : {b : List ℕ} {x : Value} → Embeds b x → Holds one_item b x
  items : {b : List ℕ} {xs : Values} → EmbedsAll b xs → Holds sequence_of_items b (array xs)
