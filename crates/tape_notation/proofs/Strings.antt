-- What strings hold, in one part and in chunks.
use Rattle.std.proofs.Common.{◌≡◌, ℕ, ◌+◌, ◌%◌, ◌<◌, ◌≤◌, List, [], ◌∷◌, ◌++◌, length, take, drop, get_or, refl, sym, ap, ◌∙◌, arith, append_assoc, length-append, length-drop}
use Rattle.std.proofs.lemmas.List.{drop-drop, drop_at, take_at}
use Rattle.cbor_data.specs.Forms.{head_in, Chunk, AreChunksOk, chunks_bytes, joined}
use Rattle.cbor_data.proofs.Lemmas.{head_some}
use Rattle.tape_notation.specs.Heads.{HasHead, IsReadAt, AreChunksFrom}
use Rattle.tape_notation.specs.Put.{IsPut}
use Rattle.tape_notation.proofs.Forms.{IsStringAt}
use Rattle.cbor_tape.proofs.Lemmas.{info_of, info_below}
use Rattle.tape_notation.proofs.Heads.{byte_at, head_there}
use Rattle.tape_notation.proofs.Puts.{Splits, more_put, same_put}

-- the content of a string whose head was read
pub record IsContent (b : List ℕ) (at start n : ℕ) (s rest : List ℕ) : Type 0 where
  pub within : start + n ≤ length b
  pub is : take n (drop start b) ≡ s
  pub behind : drop (start + n) b ≡ rest
  pub on : at < start

pub content_there : (b : List ℕ) (at major n start : ℕ) (s : List ℕ) (h : IsStringAt b at major s) → IsReadAt b at n start → IsContent b at start n s h.rest
content_there b at major n start s h read =
    let r = read major (length s) h.head in
    let behind : drop start b ≡ s ++ h.rest = r.2 ∙ h.is in
    let len : length s ≡ n = sym r.0 in
    let head = head_in h.head.size major (length s) in
    let some : 0 < length head = head_some h.head.size major (length s) in
    record {
      within = omega (arith, r.1, ap length behind, length-append s h.rest, length-drop start b);
      is = ap (take n) behind ∙ take_at s h.rest n len;
      behind = sym (drop-drop n start b) ∙ (ap (drop n) behind ∙ drop_at s h.rest n len);
      on = omega (arith, r.1, ap length r.2, ap length h.head.is, length-append head h.head.after, length-drop start b, length-drop at b);
    }

-- chunks whose content is shown so far, and those that are left
pub record AreShown (image : List ℕ → List ℕ) (major : ℕ) (b : List ℕ) (old new : List ℕ) (at chunk end : ℕ) (cs : List Chunk) : Type 0 where
  pub left : List Chunk
  pub there : AreChunksFrom major b chunk left
  pub done : List ℕ
  pub all : joined cs ≡ done ++ joined left
  pub put : IsPut old new at (image done) end

-- the chunk where no break is, and those behind it
pub record IsChunkFirst (major : ℕ) (b : List ℕ) (chunk : ℕ) (left : List Chunk) : Type 0 where
  pub content : List ℕ
  pub more : List Chunk
  pub holds : joined left ≡ content ++ joined more
  pub string : IsStringAt b chunk major content
  pub ok : AreChunksOk more
  pub after : List ℕ
  pub rest : string.rest ≡ chunks_bytes major more ++ 255 ∷ after

pub chunk_here : (major : ℕ) (b : List ℕ) (chunk : ℕ) (left : List Chunk) → AreChunksFrom major b chunk left → chunk < length b
chunk_here major b chunk left h =
    omega (arith, ap length h.is, length-append (chunks_bytes major left) (255 ∷ h.after), length-drop chunk b)

pub chunk_first : (major : ℕ) (b : List ℕ) (chunk : ℕ) (left : List Chunk) → AreChunksFrom major b chunk left → (get_or b chunk 0 ≡ 255 → ⊥) → IsChunkFirst major b chunk left
chunk_first major b chunk [] h not_so = absurd (not_so (byte_at b chunk 255 h.after h.is))
chunk_first major b chunk (c ∷ cs) h not_so =
    let head = head_in c.size major (length c.content) in
    let tail = chunks_bytes major cs ++ 255 ∷ h.after in
    record {
      content = c.content;
      more = cs;
      holds = refl;
      string = record {
        head = record {
          size = c.size;
          fits = h.ok.0.0;
          after = c.content ++ tail;
          is = h.is ∙ (append_assoc (head ++ c.content) (chunks_bytes major cs) (255 ∷ h.after) ∙ append_assoc head c.content tail);
        };
        rest = tail;
        is = refl;
      };
      ok = h.ok.1;
      after = h.after;
      rest = refl;
    }

pub chunk_head : (major : ℕ) (b : List ℕ) (chunk : ℕ) (left : List Chunk) → AreChunksFrom major b chunk left → (get_or b chunk 0 ≡ 255 → ⊥) → HasHead b chunk
chunk_head major b chunk left h not_so =
    let c = chunk_first major b chunk left h not_so in
    (major, length c.content, c.string.head)

-- where a break is none is left
pub none_left : (major : ℕ) (b : List ℕ) (chunk : ℕ) (left : List Chunk) → major < 4 → AreChunksFrom major b chunk left → get_or b chunk 0 ≡ 255 → joined left ≡ []
none_left major b chunk [] small h end = refl
none_left major b chunk (c ∷ cs) small h end =
    let d = chunk_first_of c cs h in
    absurd (omega (arith, small, end, d, info_below c.size (length c.content) h.ok.0.0))
  where
    chunk_first_of : (c : Chunk) (cs : List Chunk) → (h : AreChunksFrom major b chunk (c ∷ cs)) → get_or b chunk 0 % 32 ≡ info_of c.size (length c.content)
    chunk_first_of c cs h =
        let head = head_in c.size major (length c.content) in
        let tail = c.content ++ (chunks_bytes major cs ++ 255 ∷ h.after) in
        (head_there b chunk major (length c.content) c.size tail h.ok.0.0 (h.is ∙ (append_assoc (head ++ c.content) (chunks_bytes major cs) (255 ∷ h.after) ∙ append_assoc head c.content (chunks_bytes major cs ++ 255 ∷ h.after)))).info

-- the room that is left for a chunk, where all chunks had room
pub chunk_room : (image : List ℕ → List ℕ) → Splits image → (major : ℕ) (b old out : List ℕ) (at chunk end start n : ℕ) (cs : List Chunk) → at + length (image (joined cs)) ≤ length old → (s : AreShown image major b old out at chunk end cs) → (f : IsChunkFirst major b chunk s.left) →
    IsContent b chunk start n f.content f.string.rest → end + length (image (take n (drop start b))) ≤ length out
chunk_room image splits major b old out at chunk end start n cs room s f c =
    let own = image f.content in
    let left = image (joined f.more) in
    let split : image (joined cs) ≡ image s.done ++ (own ++ left) = ap image (s.all ∙ ap (λ r. s.done ++ r) f.holds) ∙ (splits s.done (f.content ++ joined f.more) ∙ ap (λ r. image s.done ++ r) (splits f.content (joined f.more))) in
    omega (arith, room, s.put.placed, s.put.long, ap length split, ap (λ r. length (image r)) c.is, length-append (image s.done) (own ++ left), length-append own left)

pub one_chunk : (image : List ℕ → List ℕ) → Splits image → (major : ℕ) (b old mid new : List ℕ) (at chunk end start n after : ℕ) (cs : List Chunk) → (s : AreShown image major b old mid at chunk end cs) → (f : IsChunkFirst major b chunk s.left) →
    IsContent b chunk start n f.content f.string.rest → IsPut mid new end (image (take n (drop start b))) after → AreShown image major b old new at (start + n) after cs
one_chunk image splits major b old mid new at chunk end start n after cs s f c put = record {
  left = f.more;
  there = record { ok = f.ok; after = f.after; is = c.behind ∙ f.rest };
  done = s.done ++ f.content;
  all = s.all ∙ (ap (λ r. s.done ++ r) f.holds ∙ sym (append_assoc s.done f.content (joined f.more)));
  put = same_put (image s.done ++ image (take n (drop start b))) (image (s.done ++ f.content)) (ap (λ r. image s.done ++ image r) c.is ∙ sym (splits s.done f.content))
      (more_put old mid new at end after (image s.done) (image (take n (drop start b))) s.put put);
}

-- the content of the chunk whose head was read
pub chunk_content : (major : ℕ) (b : List ℕ) (chunk n start : ℕ) (left : List Chunk) → (h : AreChunksFrom major b chunk left) → (more : get_or b chunk 0 ≡ 255 → ⊥) → IsReadAt b chunk n start → IsContent b chunk start n (chunk_first major b chunk left h more).content (chunk_first major b chunk left h more).string.rest
chunk_content major b chunk n start left h more read =
    let f = chunk_first major b chunk left h more in
    content_there b chunk major n start f.content f.string read
