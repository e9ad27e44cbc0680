-- Parts up to a break, and chunks of strings.
use Rattle.std.proofs.Common.{◌≡◌, ℕ, ◌+◌, ◌-◌, ◌/◌, ◌<◌, ◌≤◌, ◌^◌, List, [], ◌∷◌, ◌++◌, length, take, drop, get_or, refl, sym, ap, ◌∙◌, subst, arith, append_assoc, length-append, Option, Some, None}
use Rattle.std.specs.Str.{IsUtf8}
use Rattle.std.proofs.lemmas.List.{drop_more}
use Rattle.cbor_data.specs.Value.{Value, bytes, text, values_depth, pairs_depth, AreBytes}
use Rattle.cbor_data.specs.Forms.{FitsSize, head_in, Chunk, chunk_bytes, chunks_bytes, bytes_chunks, text_chunks, array_to_break, pairs_to_break, forms_flat, pair_forms_flat, meanings, pair_meanings}
use Rattle.cbor_data.proofs.Lemmas.{head_some}
use Rattle.read_items.specs.Whole.Parts.{IsArgumentAt, IsBreak, IsEnd, end_length, IsChunkAt, AreChunksAt, IsJoinedAt, IsItemAt, IsArrayAt, IsMapAt}
use Rattle.read_items.proofs.OfWhole.Items.{Lies, then, item_of, content_len, string_lies, moves}
use Rattle.read_items.proofs.OfWhole.Joined.{chunks_bytes-with, joined-with, chunks_ok-with, chunks_text-with}

byte_lies : (b : List ℕ) (at end x : ℕ) → at < length b → get_or b at 0 ≡ x → end ≡ at + 1 → Lies b at end (x ∷ [])
byte_lies b at end x few is e = record {
  placed = omega arith;
  is = drop_more b at 0 few ∙ (ap (λ y. y ∷ drop (at + 1) b) is ∙ ap (λ n. x ∷ drop n b) (sym e));
}

-- an initial byte, what is in the form, and a break
broken_lies : (b : List ℕ) (at x stop end : ℕ) (inner : List ℕ) → at < length b → get_or b at 0 ≡ x → Lies b (at + 1) stop inner → IsBreak b stop → end ≡ stop + 1 → Lies b at end (x ∷ (inner ++ 255 ∷ []))
broken_lies b at x stop end inner few is l h e =
    then b at (at + 1) end (x ∷ []) (inner ++ 255 ∷ []) (byte_lies b at (at + 1) x few is refl) (then b (at + 1) stop end inner (255 ∷ []) l (byte_lies b stop end 255 h.0 h.1 e))

-- where a list ends there are bytes for the end
pub end_within : (count : Option ℕ) (read : ℕ) (b : List ℕ) (at : ℕ) → IsEnd count read b at → at < 2 ^ 64 → length b < 2 ^ 63 → at + end_length count < 2 ^ 64
end_within (Some n) read b at h small short = omega arith
end_within None read b at h small short = let few : at < length b = h.0 in omega arith

pub broken_array : (d : ℕ) (b : List ℕ) (at end : ℕ) (x : Value) → at < length b → get_or b at 0 ≡ 159 → IsArrayAt d None b (at + 1) x end → IsItemAt d b at x end
broken_array d b at end x few is s =
    let shallow : values_depth (meanings s.written) ≤ d - 1 = s.there.shallow in
    let some : 0 < d = s.some in
    item_of d b at end x (array_to_break s.written) s.there.ok s.there.text s.meant (omega arith)
    (broken_lies b at 159 s.stop end (forms_flat s.written) few is (record { placed = s.there.placed; is = s.there.is }) s.ends s.placed)

pub broken_map : (d : ℕ) (b : List ℕ) (at end : ℕ) (x : Value) → at < length b → get_or b at 0 ≡ 191 → IsMapAt d None b (at + 1) x end → IsItemAt d b at x end
broken_map d b at end x few is s =
    let shallow : pairs_depth (pair_meanings s.written) ≤ d - 1 = s.there.shallow in
    let some : 0 < d = s.some in
    item_of d b at end x (pairs_to_break s.written) s.there.ok s.there.text s.meant (omega arith)
    (broken_lies b at 191 s.stop end (pair_forms_flat s.written) few is (record { placed = s.there.placed; is = s.there.is }) s.ends s.placed)

-- strings in chunks

chunks_lie : (m : ℕ) (b : List ℕ) (start end : ℕ) (content : List ℕ) (s : AreChunksAt m b start content end) → Lies b start end (chunks_bytes m s.chunks)
chunks_lie m b start end content s = record { placed = s.placed; is = s.is }

pub bytes_in_chunks : (d : ℕ) (b : List ℕ) (at end : ℕ) (x : Value) → at < length b → get_or b at 0 ≡ 95 → IsJoinedAt 2 bytes b (at + 1) x end → IsItemAt d b at x end
bytes_in_chunks d b at end x few is s =
    let j = s.there in
    let t = j.there in
    item_of d b at end x (bytes_chunks t.chunks) t.ok tt (s.meant ∙ ap bytes t.holds) (omega arith)
    (broken_lies b at 95 j.stop end (chunks_bytes 2 t.chunks) few is (chunks_lie 2 b (at + 1) j.stop s.content t) j.ends j.placed)

pub text_in_chunks : (d : ℕ) (b : List ℕ) (at end : ℕ) (x : Value) → at < length b → get_or b at 0 ≡ 127 → IsJoinedAt 3 text b (at + 1) x end → IsItemAt d b at x end
text_in_chunks d b at end x few is s =
    let j = s.there in
    let t = j.there in
    item_of d b at end x (text_chunks t.chunks) t.ok (t.text refl) (s.meant ∙ ap text t.holds) (omega arith)
    (broken_lies b at 127 j.stop end (chunks_bytes 3 t.chunks) few is (chunks_lie 3 b (at + 1) j.stop s.content t) j.ends j.placed)

-- one chunk from its head
pub chunk_there : (m : ℕ) (b : List ℕ) (at n start end : ℕ) (content : List ℕ) → ((k : ℕ) → AreBytes (take k (drop start b))) → IsArgumentAt b at n start → get_or b at 0 / 32 ≡ m → start + n ≤ length b → end ≡ start + n → content ≡ take n (drop start b) →
    (m ≡ 3 → IsUtf8 content) → IsChunkAt m b at content end
chunk_there m b at n start end content all h major within placed is utf8 =
    let l = string_lies b at n start end m h major within placed in
    subst (λ c. (m ≡ 3 → IsUtf8 c) → IsChunkAt m b at c end) (sym is) (λ t. record {
      size = h.size;
      fits = subst (FitsSize h.size) (sym (content_len b start n within)) h.fits;
      bytes = all n;
      text = t;
      placed = l.placed;
      is = l.is;
    }) utf8

pub no_chunks : (m : ℕ) (b : List ℕ) (start : ℕ) (content : List ℕ) → content ≡ [] → AreChunksAt m b start content start
no_chunks m b start content none = record { chunks = []; ok = tt; text = λ e. tt; holds = none; placed = omega arith; is = refl }

-- and one more
pub one_chunk_more : (m : ℕ) (b : List ℕ) (start at end : ℕ) (content chunk : List ℕ) → AreChunksAt m b start content at → IsChunkAt m b at chunk end → AreChunksAt m b start (content ++ chunk) end
one_chunk_more m b start at end content chunk s h =
    let c : Chunk = record { size = h.size; content = chunk } in
    let front = chunks_bytes m s.chunks in
    record {
      chunks = s.chunks ++ c ∷ [];
      ok = chunks_ok-with s.chunks c s.ok h.fits h.bytes;
      text = λ e. chunks_text-with s.chunks c (s.text e) (h.text e);
      holds = ap (λ r. r ++ chunk) s.holds ∙ sym (joined-with s.chunks c);
      placed = omega (arith, h.placed, s.placed, ap length (chunks_bytes-with m s.chunks c), length-append front (chunk_bytes m c));
      is = s.is ∙ (ap (λ r. front ++ r) h.is ∙ (sym (append_assoc front (chunk_bytes m c) (drop end b)) ∙ ap (λ r. r ++ drop end b) (sym (chunks_bytes-with m s.chunks c))));
    }

pub chunk_moves : (m : ℕ) (b : List ℕ) (at end : ℕ) (chunk : List ℕ) → IsChunkAt m b at chunk end → length b - end < length b - at
chunk_moves m b at end chunk h =
    moves b at end (head_in h.size m (length chunk) ++ chunk) (record { placed = h.placed; is = h.is })
    (omega (arith, head_some h.size m (length chunk), length-append (head_in h.size m (length chunk)) chunk))
