-- Items that have no parts.
use Rattle.std.proofs.Common.{◌≡◌, ℕ, ◌+◌, ◌/◌, ◌%◌, ◌==◌, ◌<◌, ◌≤◌, Bool, true, false, List, length, take, drop, get_or, refl, sym, subst, if◌then◌else◌}
use Rattle.cbor_data.specs.declared.Width.TheVariants.{W16, W32, W64}
use Rattle.cbor_data.specs.Value.{Value, uint, nint, bytes, text, simple, float, AreBytes}
use Rattle.item_nodes.specs.Apart.{has_parts}
use Rattle.read_items.specs.Whole.Parts.{IsArgumentAt, IsBytesAt, IsTextAt, AreChunksAt}
use Rattle.read_items.proofs.OfWhole.Lemmas.{uint_item, nint_item, bytes_item, text_item, last_item, bytes_in_chunks, text_in_chunks}
use Rattle.cbor_tape.specs.Parts.{IsLeafAt, AreSomeChunksAt}

pub uint_leaf : (b : List ℕ) (at n end : ℕ) → IsArgumentAt b at n end → get_or b at 0 / 32 ≡ 0 → IsLeafAt b at end
uint_leaf b at n end h m = record { value = uint n; plain = refl; there = uint_item 0 b at n end (uint n) h m refl }

pub nint_leaf : (b : List ℕ) (at n end : ℕ) → IsArgumentAt b at n end → get_or b at 0 / 32 ≡ 1 → IsLeafAt b at end
nint_leaf b at n end h m = record { value = nint n; plain = refl; there = nint_item 0 b at n end (nint n) h m refl }

pub bytes_leaf : (b : List ℕ) (at n start end : ℕ) → ((k : ℕ) → AreBytes (take k (drop start b))) → IsArgumentAt b at n start → get_or b at 0 / 32 ≡ 2 → IsBytesAt b start n (bytes (take n (drop start b))) end → IsLeafAt b at end
bytes_leaf b at n start end all h m s = record { value = bytes (take n (drop start b)); plain = refl; there = bytes_item 0 b at n start end (bytes (take n (drop start b))) all h m s }

pub text_leaf : (b : List ℕ) (at n start end : ℕ) → ((k : ℕ) → AreBytes (take k (drop start b))) → IsArgumentAt b at n start → get_or b at 0 / 32 ≡ 3 → IsTextAt b start n (text (take n (drop start b))) end → IsLeafAt b at end
text_leaf b at n start end all h m s = record { value = text (take n (drop start b)); plain = refl; there = text_item 0 b at n start end (text (take n (drop start b))) all h m s }

-- the simple value or the float of a head of major type 7
abbrev pub last_value : (info n : ℕ) → Value
last_value info n = if info == 25 then float W16 n else (if info == 26 then float W32 n else (if info == 27 then float W64 n else simple n))

pub last_plain : (a c e : Bool) (n : ℕ) → has_parts (if a then float W16 n else (if c then float W32 n else (if e then float W64 n else simple n))) ≡ false
last_plain true c e n = refl
last_plain false true e n = refl
last_plain false false true n = refl
last_plain false false false n = refl

pub last_leaf : (b : List ℕ) (at n start end : ℕ) → IsArgumentAt b at n start → get_or b at 0 / 32 ≡ 7 → (get_or b at 0 % 32 ≡ 24 → 32 ≤ n) → end ≡ start → IsLeafAt b at end
last_leaf b at n start end h m assignable e =
    let info = get_or b at 0 % 32 in
    subst (IsLeafAt b at) (sym e) (record {
      value = last_value info n;
      plain = last_plain (info == 25) (info == 26) (info == 27) n;
      there = last_item 0 b at n start (last_value info n) h m (record { is = refl; assignable = assignable });
    })

pub byte_chunks_leaf : (b : List ℕ) (at end : ℕ) → at < length b → get_or b at 0 ≡ 95 → AreSomeChunksAt 2 b (at + 1) end → IsLeafAt b at end
byte_chunks_leaf b at end few is s = record { value = bytes s.content; plain = refl; there = bytes_in_chunks 0 b at end (bytes s.content) few is (record { content = s.content; there = s.there; meant = refl }) }

pub text_chunks_leaf : (b : List ℕ) (at end : ℕ) → at < length b → get_or b at 0 ≡ 127 → AreSomeChunksAt 3 b (at + 1) end → IsLeafAt b at end
text_chunks_leaf b at end few is s = record { value = text s.content; plain = refl; there = text_in_chunks 0 b at end (text s.content) few is (record { content = s.content; there = s.there; meant = refl }) }

-- chunks that were read so far
pub record AreChunksRead (major : ℕ) (b : List ℕ) (start at : ℕ) : Type 0 where
  pub content : List ℕ
  pub there : AreChunksAt major b start content at
