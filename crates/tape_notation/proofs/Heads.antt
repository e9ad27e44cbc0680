-- What is read of a head that is surely there.
use Rattle.std.proofs.Common.{◌≡◌, ℕ, ◌+◌, ◌%◌, ◌<◌, ◌≤◌, ◌^◌, List, [], ◌∷◌, ◌++◌, length, take, drop, get_or, refl, sym, ap, ◌∙◌, arith, length-append, length-drop}
use Rattle.std.specs.Int.{to_be_bytes, from_be_bytes, w16, w32, w64}
use Rattle.std.proofs.lemmas.List.{drop-drop, drop_at, take_at}
use Rattle.std.proofs.lemmas.Nat.{from_be_bytes-to_be_bytes_2, from_be_bytes-to_be_bytes_4, from_be_bytes-to_be_bytes_8}
use Rattle.cbor_data.specs.Preferred.{initial}
use Rattle.cbor_data.specs.Forms.{ArgumentSize, inside, one, two, four, eight, head_in, FitsSize}
use Rattle.cbor_data.proofs.Lemmas.{head_some}
use Rattle.cbor_tape.proofs.Lemmas.{info_of, info_below, head_first, byte_there}
use Rattle.tape_notation.specs.Heads.{IsHeadAt, IsReadAt}

-- what is behind a front
pub past : (b : List ℕ) (at k : ℕ) (xs ys : List ℕ) → drop at b ≡ xs ++ ys → length xs ≡ k → drop (at + k) b ≡ ys
past b at k xs ys is len = sym (drop-drop k at b) ∙ (ap (drop k) is ∙ drop_at xs ys k len)

pub byte_at : (b : List ℕ) (at x : ℕ) (ys : List ℕ) → drop at b ≡ x ∷ ys → get_or b at 0 ≡ x
byte_at b at x ys is = byte_there b at (x ∷ ys) is

abbrev pub head_length : ArgumentSize → ℕ
head_length inside = 1
head_length one = 2
head_length two = 3
head_length four = 5
head_length eight = 9

head_counted : (p : ArgumentSize) (m n : ℕ) → length (head_in p m n) ≡ head_length p
head_counted inside m n = refl
head_counted one m n = refl
head_counted two m n = refl
head_counted four m n = refl
head_counted eight m n = refl

-- where a head is its additional information is the first byte's, and its bytes are there
pub record HeadThere (b : List ℕ) (at : ℕ) (p : ArgumentSize) (n : ℕ) (after : List ℕ) : Type 0 where
  pub info : get_or b at 0 % 32 ≡ info_of p n
  pub within : at + head_length p ≤ length b
  pub behind : drop (at + head_length p) b ≡ after

pub head_there : (b : List ℕ) (at m n : ℕ) (p : ArgumentSize) (after : List ℕ) → FitsSize p n → drop at b ≡ head_in p m n ++ after → HeadThere b at p n after
head_there b at m n p after fits is =
    let first : get_or b at 0 ≡ initial m (info_of p n) = byte_there b at (head_in p m n ++ after) is ∙ head_first p m n after in
    let small : info_of p n < 28 = info_below p n fits in
    let counted : length (head_in p m n) ≡ head_length p = head_counted p m n in
    let some : 0 < length (head_in p m n) = head_some p m n in
    record {
      info = omega arith;
      within = omega (arith, ap length is, length-append (head_in p m n) after, length-drop at b);
      behind = past b at (head_length p) (head_in p m n) after is counted;
    }

-- the digits of an argument are those that are read
digits_read : (b : List ℕ) (at x k : ℕ) (digits after read : List ℕ) → drop at b ≡ (x ∷ digits) ++ after → length digits ≡ k → read ≡ take k (drop (at + 1) b) → read ≡ digits
digits_read b at x k digits after read is len e = e ∙ (ap (take k) (past b at 1 (x ∷ []) (digits ++ after) is refl) ∙ take_at digits after k len)

-- an argument in the initial byte
pub read_inside : (b : List ℕ) (at : ℕ) → (get_or b at 0 % 32 ≡ 24 → ⊥) → (get_or b at 0 % 32 ≡ 25 → ⊥) → (get_or b at 0 % 32 ≡ 26 → ⊥) → (get_or b at 0 % 32 ≡ 27 → ⊥) → IsReadAt b at (get_or b at 0 % 32) (at + 1)
read_inside b at no_one no_two no_four no_eight major m h = by h.size h.fits h.is
  where
    by : (p : ArgumentSize) → FitsSize p m → drop at b ≡ head_in p major m ++ h.after → (get_or b at 0 % 32 ≡ m) × (at + 1 ≤ length b) × (drop (at + 1) b ≡ h.after)
    by inside fits is = let t = head_there b at major m inside h.after fits is in (t.info, t.within, t.behind)
    by one fits is = absurd (no_one (head_there b at major m one h.after fits is).info)
    by two fits is = absurd (no_two (head_there b at major m two h.after fits is).info)
    by four fits is = absurd (no_four (head_there b at major m four h.after fits is).info)
    by eight fits is = absurd (no_eight (head_there b at major m eight h.after fits is).info)

-- an argument in the byte after it
pub read_one : (b : List ℕ) (at : ℕ) → get_or b at 0 % 32 ≡ 24 → IsReadAt b at (get_or b (at + 1) 0) (at + 2)
read_one b at info major m h = by h.size h.fits h.is
  where
    by : (p : ArgumentSize) → FitsSize p m → drop at b ≡ head_in p major m ++ h.after → (get_or b (at + 1) 0 ≡ m) × (at + 2 ≤ length b) × (drop (at + 2) b ≡ h.after)
    by one fits is =
        let t = head_there b at major m one h.after fits is in
        let read : get_or b (at + 1) 0 ≡ m % 256 = byte_at b (at + 1) (m % 256) h.after (past b at 1 (initial major 24 ∷ []) (m % 256 ∷ h.after) is refl) in
        (omega (arith, read, fits), t.within, t.behind)
    by inside fits is = absurd (omega (arith, (head_there b at major m inside h.after fits is).info, fits))
    by two fits is = absurd (omega (arith, (head_there b at major m two h.after fits is).info))
    by four fits is = absurd (omega (arith, (head_there b at major m four h.after fits is).info))
    by eight fits is = absurd (omega (arith, (head_there b at major m eight h.after fits is).info))

-- an argument in two, four or eight bytes

pub read_two : (b : List ℕ) (at n : ℕ) → get_or b at 0 % 32 ≡ 25 → n < 2 ^ 16 → to_be_bytes w16 n ≡ take 2 (drop (at + 1) b) → IsReadAt b at n (at + 3)
read_two b at n info small digits major m h = by h.size h.fits h.is
  where
    by : (p : ArgumentSize) → FitsSize p m → drop at b ≡ head_in p major m ++ h.after → (n ≡ m) × (at + 3 ≤ length b) × (drop (at + 3) b ≡ h.after)
    by two fits is =
        let t = head_there b at major m two h.after fits is in
        let same : to_be_bytes w16 n ≡ to_be_bytes w16 m = digits_read b at (initial major 25) 2 (to_be_bytes w16 m) h.after (to_be_bytes w16 n) is refl digits in
        (sym (from_be_bytes-to_be_bytes_2 n small) ∙ (ap (from_be_bytes w16) same ∙ from_be_bytes-to_be_bytes_2 m fits), t.within, t.behind)
    by inside fits is = absurd (omega (arith, (head_there b at major m inside h.after fits is).info, fits))
    by one fits is = absurd (omega (arith, (head_there b at major m one h.after fits is).info))
    by four fits is = absurd (omega (arith, (head_there b at major m four h.after fits is).info))
    by eight fits is = absurd (omega (arith, (head_there b at major m eight h.after fits is).info))

pub read_four : (b : List ℕ) (at n : ℕ) → get_or b at 0 % 32 ≡ 26 → n < 2 ^ 32 → to_be_bytes w32 n ≡ take 4 (drop (at + 1) b) → IsReadAt b at n (at + 5)
read_four b at n info small digits major m h = by h.size h.fits h.is
  where
    by : (p : ArgumentSize) → FitsSize p m → drop at b ≡ head_in p major m ++ h.after → (n ≡ m) × (at + 5 ≤ length b) × (drop (at + 5) b ≡ h.after)
    by four fits is =
        let t = head_there b at major m four h.after fits is in
        let same : to_be_bytes w32 n ≡ to_be_bytes w32 m = digits_read b at (initial major 26) 4 (to_be_bytes w32 m) h.after (to_be_bytes w32 n) is refl digits in
        (sym (from_be_bytes-to_be_bytes_4 n small) ∙ (ap (from_be_bytes w32) same ∙ from_be_bytes-to_be_bytes_4 m fits), t.within, t.behind)
    by inside fits is = absurd (omega (arith, (head_there b at major m inside h.after fits is).info, fits))
    by one fits is = absurd (omega (arith, (head_there b at major m one h.after fits is).info))
    by two fits is = absurd (omega (arith, (head_there b at major m two h.after fits is).info))
    by eight fits is = absurd (omega (arith, (head_there b at major m eight h.after fits is).info))

pub read_eight : (b : List ℕ) (at n : ℕ) → get_or b at 0 % 32 ≡ 27 → n < 2 ^ 64 → to_be_bytes w64 n ≡ take 8 (drop (at + 1) b) → IsReadAt b at n (at + 9)
read_eight b at n info small digits major m h = by h.size h.fits h.is
  where
    by : (p : ArgumentSize) → FitsSize p m → drop at b ≡ head_in p major m ++ h.after → (n ≡ m) × (at + 9 ≤ length b) × (drop (at + 9) b ≡ h.after)
    by eight fits is =
        let t = head_there b at major m eight h.after fits is in
        let same : to_be_bytes w64 n ≡ to_be_bytes w64 m = digits_read b at (initial major 27) 8 (to_be_bytes w64 m) h.after (to_be_bytes w64 n) is refl digits in
        (sym (from_be_bytes-to_be_bytes_8 n small) ∙ (ap (from_be_bytes w64) same ∙ from_be_bytes-to_be_bytes_8 m fits), t.within, t.behind)
    by inside fits is = absurd (omega (arith, (head_there b at major m inside h.after fits is).info, fits))
    by one fits is = absurd (omega (arith, (head_there b at major m one h.after fits is).info))
    by two fits is = absurd (omega (arith, (head_there b at major m two h.after fits is).info))
    by four fits is = absurd (omega (arith, (head_there b at major m four h.after fits is).info))

-- the bytes of a head are within those that are there
pub record HeadRoom (b : List ℕ) (at : ℕ) : Type 0 where
  pub here : at < length b
  pub one : get_or b at 0 % 32 ≡ 24 → at + 2 ≤ length b
  pub two : get_or b at 0 % 32 ≡ 25 → at + 3 ≤ length b
  pub four : get_or b at 0 % 32 ≡ 26 → at + 5 ≤ length b
  pub eight : get_or b at 0 % 32 ≡ 27 → at + 9 ≤ length b

pub head_room : (b : List ℕ) (at major n : ℕ) → IsHeadAt b at major n → HeadRoom b at
head_room b at major n h = by h.size h.fits (head_there b at major n h.size h.after h.fits h.is)
  where
    by : (p : ArgumentSize) → FitsSize p n → HeadThere b at p n h.after → HeadRoom b at
    by inside fits t = record {
      here = omega (arith, t.within);
      one = λ e. absurd (omega (arith, t.info, fits, e));
      two = λ e. absurd (omega (arith, t.info, fits, e));
      four = λ e. absurd (omega (arith, t.info, fits, e));
      eight = λ e. absurd (omega (arith, t.info, fits, e));
    }
    by one fits t = record {
      here = omega (arith, t.within);
      one = λ e. t.within;
      two = λ e. absurd (omega (arith, t.info, e));
      four = λ e. absurd (omega (arith, t.info, e));
      eight = λ e. absurd (omega (arith, t.info, e));
    }
    by two fits t = record {
      here = omega (arith, t.within);
      one = λ e. absurd (omega (arith, t.info, e));
      two = λ e. t.within;
      four = λ e. absurd (omega (arith, t.info, e));
      eight = λ e. absurd (omega (arith, t.info, e));
    }
    by four fits t = record {
      here = omega (arith, t.within);
      one = λ e. absurd (omega (arith, t.info, e));
      two = λ e. absurd (omega (arith, t.info, e));
      four = λ e. t.within;
      eight = λ e. absurd (omega (arith, t.info, e));
    }
    by eight fits t = record {
      here = omega (arith, t.within);
      one = λ e. absurd (omega (arith, t.info, e));
      two = λ e. absurd (omega (arith, t.info, e));
      four = λ e. absurd (omega (arith, t.info, e));
      eight = λ e. t.within;
    }
