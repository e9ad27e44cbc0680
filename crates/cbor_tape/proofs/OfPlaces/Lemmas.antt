-- Items at places of a tape, from one to the next.
use Rattle.std.proofs.Common.{◌≡◌, ℕ, MatchOption, IfSome, Option, Some, None, suc, ◌+◌, ◌/◌, ◌<◌, ◌≤◌, List, [], ◌∷◌, ◌++◌, length, take, drop, get_or, refl, sym, ap, ◌∙◌, subst, arith, append_assoc, length-drop, length-append}
use Rattle.std.proofs.lemmas.List.{drop-drop, drop_at, get_or-drop, take-append-drop}
use Rattle.cbor_data.specs.declared.Width.TheVariants.{W16, W32, W64}
use Rattle.cbor_data.specs.Value.{Value, uint, nint, bytes, text, array, pairs, tag, simple, float, Values, no_values, value, Pairs, no_pairs, pair, place_count, values_place_count, pairs_place_count, places, values_places, pairs_places}
use Rattle.cbor_data.specs.Forms.{head_in, Form, uint_form, nint_form, bytes_form, bytes_chunks, text_form, text_chunks, array_form, array_to_break, pairs_form, pairs_to_break, tag_form, simple_inside, simple_next, float_form, flat, meaning, Spells}
use Rattle.cbor_data.proofs.Lemmas.{form_some}
use Rattle.read_items.specs.Whole.Parts.{IsArgumentAt}
use Rattle.cbor_tape.specs.declared.entry.Entry.{Entry}
use Rattle.cbor_tape.specs.declared.places.Taped.{Taped}
use Rattle.cbor_tape.specs.declared.places.Seen.{Seen}
use Rattle.cbor_tape.specs.declared.places.Seen.TheVariants as S
use Rattle.cbor_tape.specs.Parts.{next_at}
use Rattle.cbor_tape.specs.Keys.{mark, IsKeyAt}
use Rattle.cbor_tape.specs.Parted.{IsFormAt}
use Rattle.cbor_tape.specs.Tape.{IsEntryOf, AreEntriesOf, IsWholeTape}
use Rattle.cbor_tape.specs.Places.{major_type, AreOn, IsAt, AreAt, ArePairsAt, IsFirstOf, IsFirstPairOf, IsSeen, IsLeaf, IsLeafSeen, IsTagSeen}
use Rattle.cbor_tape.proofs.Entries.{places_counted, first_place}
use Rattle.cbor_tape.proofs.Forms.{form_major, form_byte}
use Rattle.cbor_tape.proofs.Heads.{same_head}
use Rattle.cbor_tape.proofs.Marks.{spelled_mark}

-- the entries of some items, and behind them those of others
record AreSplit (b : List ℕ) (p : ℕ) (xs ys : List Value) (es : List Entry) : Type 0 where
  front : List Entry
  back : List Entry
  is : es ≡ front ++ back
  counted : length front ≡ length xs
  these : AreEntriesOf b p xs front
  those : AreEntriesOf b (p + length xs) ys back

split : (b : List ℕ) (p : ℕ) (xs ys : List Value) (es : List Entry) → AreEntriesOf b p (xs ++ ys) es → AreSplit b p xs ys es
split b p [] ys es h = let same : p ≡ p + 0 = omega arith in record { front = []; back = es; is = refl; counted = refl; these = tt; those = subst (λ n. AreEntriesOf b n ys es) same h }
split b p (x ∷ xs) ys [] h = absurd h
split b p (x ∷ xs) ys (e ∷ es) h =
    let s = split b (suc p) xs ys es h.1 in
    let same : suc p + length xs ≡ p + suc (length xs) = omega arith in
    record {
      front = e ∷ s.front;
      back = s.back;
      is = ap (λ fs. e ∷ fs) s.is;
      counted = ap suc s.counted;
      these = (h.0, s.these);
      those = subst (λ n. AreEntriesOf b n ys s.back) same s.those;
    }

pub these_on : (b : List ℕ) (t : List Entry) (place : ℕ) (xs ys : List Value) → AreOn b t place (xs ++ ys) → AreOn b t place xs
these_on b t place xs ys h =
    let s = split b place xs ys h.entries h.stand in
    record {
      entries = s.front;
      after = s.back ++ h.after;
      stand = s.these;
      is = h.is ∙ (ap (λ es. es ++ h.after) s.is ∙ append_assoc s.front s.back h.after);
    }

pub those_on : (b : List ℕ) (t : List Entry) (place next : ℕ) (xs ys : List Value) → next ≡ place + length xs → AreOn b t place (xs ++ ys) → AreOn b t next ys
those_on b t place next xs ys is h =
    let s = split b place xs ys h.entries h.stand in
    let front : drop place t ≡ s.front ++ (s.back ++ h.after) = h.is ∙ (ap (λ es. es ++ h.after) s.is ∙ append_assoc s.front s.back h.after) in
    subst (λ n. AreOn b t n ys) (sym is) (record {
      entries = s.back;
      after = h.after;
      stand = s.those;
      is = sym (drop-drop (length xs) place t) ∙ (ap (drop (length xs)) front ∙ drop_at s.front (s.back ++ h.after) (length xs) s.counted);
    })

-- an item is where its entry says
pub record IsHere (b : List ℕ) (t : List Entry) (place : ℕ) (x : Value) (e : Entry) : Type 0 where
  pub within : place < length t
  pub next : e.next ≡ place + place_count x
  pub spelling : List ℕ
  pub after : List ℕ
  pub spells : Spells x spelling
  pub is : drop e.head b ≡ spelling ++ after
  pub some : 0 < place_count x

pub item_here : (b : List ℕ) (t : List Entry) (place : ℕ) (x : Value) (d : Entry) → AreOn b t place (places x) → IsHere b t place x (get_or t place d)
item_here b t place x d h = by h.entries h.is (subst (λ xs. AreEntriesOf b place xs h.entries) (first_place x).1 h.stand)
  where
    by : (es : List Entry) → drop place t ≡ es ++ h.after → AreEntriesOf b place (x ∷ (first_place x).0) es → IsHere b t place x (get_or t place d)
    by [] is stand = absurd stand
    by (e ∷ es) is stand =
        let same : place ≡ place + 0 = omega arith in
        let read : e ≡ get_or t place d = sym (ap (λ k. get_or t k d) same ∙ (sym (get_or-drop place t 0 d) ∙ ap (λ l. get_or l 0 d) is)) in
        let entry : IsEntryOf b place x e = stand.0 in
        subst (IsHere b t place x) read (record {
          within = omega (arith, ap length is, length-drop place t);
          next = entry.next;
          spelling = entry.spelling;
          after = entry.after;
          spells = entry.spells;
          is = entry.is;
          some = omega (arith, places_counted x, ap length (first_place x).1);
        })

-- the form that spells it, and its major type by the first byte

form_there : (b : List ℕ) (head : ℕ) (x : Value) (spelling after : List ℕ) (s : Spells x spelling) → drop head b ≡ spelling ++ after → IsFormAt b head s.written after
form_there b head x spelling after s is = record { ok = s.ok; is = is ∙ ap (λ r. r ++ after) s.is }

meant_major : (f : Form) → major_type (meaning f) ≡ form_major f
meant_major (uint_form p n) = refl
meant_major (nint_form p n) = refl
meant_major (bytes_form p s) = refl
meant_major (bytes_chunks cs) = refl
meant_major (text_form p s) = refl
meant_major (text_chunks cs) = refl
meant_major (array_form p fs) = refl
meant_major (array_to_break fs) = refl
meant_major (pairs_form p ps) = refl
meant_major (pairs_to_break ps) = refl
meant_major (tag_form p n f) = refl
meant_major (simple_inside n) = refl
meant_major (simple_next n) = refl
meant_major (float_form w n) = refl

major_there : (b : List ℕ) (head : ℕ) (x : Value) (spelling after : List ℕ) → Spells x spelling → drop head b ≡ spelling ++ after → major_type x ≡ get_or b head 0 / 32
major_there b head x spelling after s is = ap major_type s.meant ∙ (meant_major s.written ∙ (form_byte b head s.written after (form_there b head x spelling after s is)).major)

pub major_here : (t : Taped) (place : ℕ) (d : Entry) (x : Value) → IsAt t place x → major_type x ≡ get_or t.bytes.now (get_or t.tape.now place d).head 0 / 32
major_here t place d x on =
    let h = item_here t.bytes.now t.tape.now place x d on in
    major_there t.bytes.now (get_or t.tape.now place d).head x h.spelling h.after h.spells h.is

-- what is below an item that has parts

pub array_here : (t : Taped) (place : ℕ) (d : Entry) (x : Value) → IsAt t place x → get_or t.bytes.now (get_or t.tape.now place d).head 0 / 32 ≡ 4 → (xs : Values) × (x ≡ array xs) × AreAt t (place + 1) (get_or t.tape.now place d).next xs
array_here t place d x on m = by x on (major_here t place d x on ∙ m) (item_here t.bytes.now t.tape.now place x d on).next
  where
    end : ℕ
    end = (get_or t.tape.now place d).next

    by : (x : Value) → IsAt t place x → major_type x ≡ 4 → end ≡ place + place_count x → (xs : Values) × (x ≡ array xs) × AreAt t (place + 1) end xs
    by (array xs) on e next = (
      xs,
      refl,
      record {
        on = those_on t.bytes.now t.tape.now place (place + 1) (array xs ∷ []) (values_places xs) refl on;
        counted = omega (arith, next);
      },
    )
    by _ on e next = absurd (omega (arith, e))

pub map_here : (t : Taped) (place : ℕ) (d : Entry) (x : Value) → IsAt t place x → get_or t.bytes.now (get_or t.tape.now place d).head 0 / 32 ≡ 5 → (ps : Pairs) × (x ≡ pairs ps) × ArePairsAt t (place + 1) (get_or t.tape.now place d).next ps
map_here t place d x on m = by x on (major_here t place d x on ∙ m) (item_here t.bytes.now t.tape.now place x d on).next
  where
    end : ℕ
    end = (get_or t.tape.now place d).next

    by : (x : Value) → IsAt t place x → major_type x ≡ 5 → end ≡ place + place_count x → (ps : Pairs) × (x ≡ pairs ps) × ArePairsAt t (place + 1) end ps
    by (pairs ps) on e next = (
      ps,
      refl,
      record {
        on = those_on t.bytes.now t.tape.now place (place + 1) (pairs ps ∷ []) (pairs_places ps) refl on;
        counted = omega (arith, next);
      },
    )
    by _ on e next = absurd (omega (arith, e))

pub tag_here : (t : Taped) (place : ℕ) (d : Entry) (n : ℕ) (x : Value) → IsAt t place x → get_or t.bytes.now (get_or t.tape.now place d).head 0 / 32 ≡ 6 → IsTagSeen t.bytes.now (get_or t.tape.now place d).head n → (y : Value) × (x ≡ tag n y) × IsAt t (place + 1) y
tag_here t place d n x on m seen = by x on (major_here t place d x on ∙ m) (item_here t.bytes.now t.tape.now place x d on)
  where
    by : (x : Value) → IsAt t place x → major_type x ≡ 6 → IsHere t.bytes.now t.tape.now place x (get_or t.tape.now place d) → (y : Value) × (x ≡ tag n y) × IsAt t (place + 1) y
    by (tag k y) on e h = (
      y,
      ap (λ i. tag i y) (seen k y h.spelling h.after h.spells h.is),
      those_on t.bytes.now t.tape.now place (place + 1) (tag k y ∷ []) (places y) refl on,
    )
    by _ on e h = absurd (omega (arith, e))

-- the number of a tag from its head
pub tag_seen : (b : List ℕ) (head n start : ℕ) → IsArgumentAt b head n start → IsTagSeen b head n
tag_seen b head n start a m y spelling after s is = by s.written (form_there b head (tag m y) spelling after s is) s.meant
  where
    by : (f : Form) → IsFormAt b head f after → tag m y ≡ meaning f → m ≡ n
    by (tag_form p l g) h e =
        let same = same_head p a.size 6 (get_or b head 0 / 32) l n (flat g ++ after) (drop start b) h.ok.0 a.fits (sym (append_assoc (head_in p 6 l) (flat g) after) ∙ (sym h.is ∙ a.is)) in
        let number : m ≡ l = cc in
        number ∙ same.1
    by (uint_form p l) h e = absurd (omega (arith, ap major_type e))
    by (nint_form p l) h e = absurd (omega (arith, ap major_type e))
    by (bytes_form p l) h e = absurd (omega (arith, ap major_type e))
    by (bytes_chunks cs) h e = absurd (omega (arith, ap major_type e))
    by (text_form p l) h e = absurd (omega (arith, ap major_type e))
    by (text_chunks cs) h e = absurd (omega (arith, ap major_type e))
    by (array_form p l) h e = absurd (omega (arith, ap major_type e))
    by (array_to_break cs) h e = absurd (omega (arith, ap major_type e))
    by (pairs_form p l) h e = absurd (omega (arith, ap major_type e))
    by (pairs_to_break cs) h e = absurd (omega (arith, ap major_type e))
    by (simple_inside l) h e = absurd (omega (arith, ap major_type e))
    by (simple_next l) h e = absurd (omega (arith, ap major_type e))
    by (float_form w l) h e = absurd (omega (arith, ap major_type e))

-- an item from its mark

pub uint_marked : (x : Value) (n : ℕ) (ms : List ℕ) → mark x ≡ 0 ∷ n ∷ ms → x ≡ uint n
uint_marked (uint m) n ms e = ap (λ l. uint (get_or l 1 0)) e
uint_marked (nint m) n ms e = absurd (omega (arith, ap (λ l. get_or l 0 0) e))
uint_marked (bytes s) n ms e = absurd (omega (arith, ap (λ l. get_or l 0 0) e))
uint_marked (text s) n ms e = absurd (omega (arith, ap (λ l. get_or l 0 0) e))
uint_marked (array xs) n ms e = absurd (omega (arith, ap (λ l. get_or l 0 0) e))
uint_marked (pairs ps) n ms e = absurd (omega (arith, ap (λ l. get_or l 0 0) e))
uint_marked (tag m x) n ms e = absurd (omega (arith, ap (λ l. get_or l 0 0) e))
uint_marked (simple m) n ms e = absurd (omega (arith, ap (λ l. get_or l 0 0) e))
uint_marked (float W16 m) n ms e = absurd (omega (arith, ap (λ l. get_or l 0 0) e))
uint_marked (float W32 m) n ms e = absurd (omega (arith, ap (λ l. get_or l 0 0) e))
uint_marked (float W64 m) n ms e = absurd (omega (arith, ap (λ l. get_or l 0 0) e))

pub nint_marked : (x : Value) (n : ℕ) (ms : List ℕ) → mark x ≡ 1 ∷ n ∷ ms → x ≡ nint n
nint_marked (uint m) n ms e = absurd (omega (arith, ap (λ l. get_or l 0 0) e))
nint_marked (nint m) n ms e = ap (λ l. nint (get_or l 1 0)) e
nint_marked (bytes s) n ms e = absurd (omega (arith, ap (λ l. get_or l 0 0) e))
nint_marked (text s) n ms e = absurd (omega (arith, ap (λ l. get_or l 0 0) e))
nint_marked (array xs) n ms e = absurd (omega (arith, ap (λ l. get_or l 0 0) e))
nint_marked (pairs ps) n ms e = absurd (omega (arith, ap (λ l. get_or l 0 0) e))
nint_marked (tag m x) n ms e = absurd (omega (arith, ap (λ l. get_or l 0 0) e))
nint_marked (simple m) n ms e = absurd (omega (arith, ap (λ l. get_or l 0 0) e))
nint_marked (float W16 m) n ms e = absurd (omega (arith, ap (λ l. get_or l 0 0) e))
nint_marked (float W32 m) n ms e = absurd (omega (arith, ap (λ l. get_or l 0 0) e))
nint_marked (float W64 m) n ms e = absurd (omega (arith, ap (λ l. get_or l 0 0) e))

pub bytes_marked : (x : Value) (n : ℕ) (s : List ℕ) → mark x ≡ 2 ∷ n ∷ s → x ≡ bytes s
bytes_marked (uint m) n s e = absurd (omega (arith, ap (λ l. get_or l 0 0) e))
bytes_marked (nint m) n s e = absurd (omega (arith, ap (λ l. get_or l 0 0) e))
bytes_marked (bytes t) n s e = ap (λ l. bytes (drop 2 l)) e
bytes_marked (text t) n s e = absurd (omega (arith, ap (λ l. get_or l 0 0) e))
bytes_marked (array xs) n s e = absurd (omega (arith, ap (λ l. get_or l 0 0) e))
bytes_marked (pairs ps) n s e = absurd (omega (arith, ap (λ l. get_or l 0 0) e))
bytes_marked (tag m x) n s e = absurd (omega (arith, ap (λ l. get_or l 0 0) e))
bytes_marked (simple m) n s e = absurd (omega (arith, ap (λ l. get_or l 0 0) e))
bytes_marked (float W16 m) n s e = absurd (omega (arith, ap (λ l. get_or l 0 0) e))
bytes_marked (float W32 m) n s e = absurd (omega (arith, ap (λ l. get_or l 0 0) e))
bytes_marked (float W64 m) n s e = absurd (omega (arith, ap (λ l. get_or l 0 0) e))

pub text_marked : (x : Value) (n : ℕ) (s : List ℕ) → mark x ≡ 3 ∷ n ∷ s → x ≡ text s
text_marked (uint m) n s e = absurd (omega (arith, ap (λ l. get_or l 0 0) e))
text_marked (nint m) n s e = absurd (omega (arith, ap (λ l. get_or l 0 0) e))
text_marked (bytes t) n s e = absurd (omega (arith, ap (λ l. get_or l 0 0) e))
text_marked (text t) n s e = ap (λ l. text (drop 2 l)) e
text_marked (array xs) n s e = absurd (omega (arith, ap (λ l. get_or l 0 0) e))
text_marked (pairs ps) n s e = absurd (omega (arith, ap (λ l. get_or l 0 0) e))
text_marked (tag m x) n s e = absurd (omega (arith, ap (λ l. get_or l 0 0) e))
text_marked (simple m) n s e = absurd (omega (arith, ap (λ l. get_or l 0 0) e))
text_marked (float W16 m) n s e = absurd (omega (arith, ap (λ l. get_or l 0 0) e))
text_marked (float W32 m) n s e = absurd (omega (arith, ap (λ l. get_or l 0 0) e))
text_marked (float W64 m) n s e = absurd (omega (arith, ap (λ l. get_or l 0 0) e))

pub simple_marked : (x : Value) (n : ℕ) (ms : List ℕ) → mark x ≡ 7 ∷ n ∷ ms → x ≡ simple n
simple_marked (uint m) n ms e = absurd (omega (arith, ap (λ l. get_or l 0 0) e))
simple_marked (nint m) n ms e = absurd (omega (arith, ap (λ l. get_or l 0 0) e))
simple_marked (bytes s) n ms e = absurd (omega (arith, ap (λ l. get_or l 0 0) e))
simple_marked (text s) n ms e = absurd (omega (arith, ap (λ l. get_or l 0 0) e))
simple_marked (array xs) n ms e = absurd (omega (arith, ap (λ l. get_or l 0 0) e))
simple_marked (pairs ps) n ms e = absurd (omega (arith, ap (λ l. get_or l 0 0) e))
simple_marked (tag m x) n ms e = absurd (omega (arith, ap (λ l. get_or l 0 0) e))
simple_marked (simple m) n ms e = ap (λ l. simple (get_or l 1 0)) e
simple_marked (float W16 m) n ms e = absurd (omega (arith, ap (λ l. get_or l 0 0) e))
simple_marked (float W32 m) n ms e = absurd (omega (arith, ap (λ l. get_or l 0 0) e))
simple_marked (float W64 m) n ms e = absurd (omega (arith, ap (λ l. get_or l 0 0) e))

pub half_marked : (x : Value) (n : ℕ) (ms : List ℕ) → mark x ≡ 8 ∷ n ∷ ms → x ≡ float W16 n
half_marked (uint m) n ms e = absurd (omega (arith, ap (λ l. get_or l 0 0) e))
half_marked (nint m) n ms e = absurd (omega (arith, ap (λ l. get_or l 0 0) e))
half_marked (bytes s) n ms e = absurd (omega (arith, ap (λ l. get_or l 0 0) e))
half_marked (text s) n ms e = absurd (omega (arith, ap (λ l. get_or l 0 0) e))
half_marked (array xs) n ms e = absurd (omega (arith, ap (λ l. get_or l 0 0) e))
half_marked (pairs ps) n ms e = absurd (omega (arith, ap (λ l. get_or l 0 0) e))
half_marked (tag m x) n ms e = absurd (omega (arith, ap (λ l. get_or l 0 0) e))
half_marked (simple m) n ms e = absurd (omega (arith, ap (λ l. get_or l 0 0) e))
half_marked (float W16 m) n ms e = ap (λ l. float W16 (get_or l 1 0)) e
half_marked (float W32 m) n ms e = absurd (omega (arith, ap (λ l. get_or l 0 0) e))
half_marked (float W64 m) n ms e = absurd (omega (arith, ap (λ l. get_or l 0 0) e))

pub single_marked : (x : Value) (n : ℕ) (ms : List ℕ) → mark x ≡ 9 ∷ n ∷ ms → x ≡ float W32 n
single_marked (uint m) n ms e = absurd (omega (arith, ap (λ l. get_or l 0 0) e))
single_marked (nint m) n ms e = absurd (omega (arith, ap (λ l. get_or l 0 0) e))
single_marked (bytes s) n ms e = absurd (omega (arith, ap (λ l. get_or l 0 0) e))
single_marked (text s) n ms e = absurd (omega (arith, ap (λ l. get_or l 0 0) e))
single_marked (array xs) n ms e = absurd (omega (arith, ap (λ l. get_or l 0 0) e))
single_marked (pairs ps) n ms e = absurd (omega (arith, ap (λ l. get_or l 0 0) e))
single_marked (tag m x) n ms e = absurd (omega (arith, ap (λ l. get_or l 0 0) e))
single_marked (simple m) n ms e = absurd (omega (arith, ap (λ l. get_or l 0 0) e))
single_marked (float W16 m) n ms e = absurd (omega (arith, ap (λ l. get_or l 0 0) e))
single_marked (float W32 m) n ms e = ap (λ l. float W32 (get_or l 1 0)) e
single_marked (float W64 m) n ms e = absurd (omega (arith, ap (λ l. get_or l 0 0) e))

pub double_marked : (x : Value) (n : ℕ) (ms : List ℕ) → mark x ≡ 10 ∷ n ∷ ms → x ≡ float W64 n
double_marked (uint m) n ms e = absurd (omega (arith, ap (λ l. get_or l 0 0) e))
double_marked (nint m) n ms e = absurd (omega (arith, ap (λ l. get_or l 0 0) e))
double_marked (bytes s) n ms e = absurd (omega (arith, ap (λ l. get_or l 0 0) e))
double_marked (text s) n ms e = absurd (omega (arith, ap (λ l. get_or l 0 0) e))
double_marked (array xs) n ms e = absurd (omega (arith, ap (λ l. get_or l 0 0) e))
double_marked (pairs ps) n ms e = absurd (omega (arith, ap (λ l. get_or l 0 0) e))
double_marked (tag m x) n ms e = absurd (omega (arith, ap (λ l. get_or l 0 0) e))
double_marked (simple m) n ms e = absurd (omega (arith, ap (λ l. get_or l 0 0) e))
double_marked (float W16 m) n ms e = absurd (omega (arith, ap (λ l. get_or l 0 0) e))
double_marked (float W32 m) n ms e = absurd (omega (arith, ap (λ l. get_or l 0 0) e))
double_marked (float W64 m) n ms e = ap (λ l. float W64 (get_or l 1 0)) e

-- one after the other

pub first_here : (t : Taped) (place end : ℕ) (d : Entry) (xs : Values) → AreAt t place end xs → place < end → IsFirstOf t place end (get_or t.tape.now place d).next xs
first_here t place end d no_values h some = absurd (omega (arith, h.counted))
first_here t place end d (value x xs) h some =
    let on = these_on t.bytes.now t.tape.now place (places x) (values_places xs) h.on in
    let here = item_here t.bytes.now t.tape.now place x d on in
    let next : ℕ = (get_or t.tape.now place d).next in
    record {
      first = x;
      others = xs;
      split = refl;
      here = on;
      there = record {
        on = those_on t.bytes.now t.tape.now place next (places x) (values_places xs) (omega (arith, here.next, places_counted x)) h.on;
        counted = omega (arith, h.counted, here.next);
      };
      ahead = omega (arith, here.next, here.some);
    }

pub none_here : (t : Taped) (place end : ℕ) (xs : Values) → AreAt t place end xs → (place < end → place < length t.tape.now → ⊥) → xs ≡ no_values
none_here t place end no_values h none = refl
none_here t place end (value x xs) h none =
    let on = these_on t.bytes.now t.tape.now place (places x) (values_places xs) h.on in
    let here = item_here t.bytes.now t.tape.now place x (record { head = 0; next = 0 }) on in
    absurd (none (omega (arith, h.counted, here.some)) here.within)

pub first_pair_here : (t : Taped) (place end : ℕ) (d : Entry) (ps : Pairs) → ArePairsAt t place end ps → place < end → IsFirstPairOf t place end (get_or t.tape.now place d).next (get_or t.tape.now (get_or t.tape.now place d).next d).next ps
first_pair_here t place end d no_pairs h some = absurd (omega (arith, h.counted))
first_pair_here t place end d (pair k v ps) h some =
    let b = t.bytes.now in
    let es = t.tape.now in
    let key_on = these_on b es place (places k) (places v ++ pairs_places ps) h.on in
    let key_here = item_here b es place k d key_on in
    let held : ℕ = (get_or es place d).next in
    let behind = those_on b es place held (places k) (places v ++ pairs_places ps) (omega (arith, key_here.next, places_counted k)) h.on in
    let value_on = these_on b es held (places v) (pairs_places ps) behind in
    let value_here = item_here b es held v d value_on in
    let next : ℕ = (get_or es held d).next in
    record {
      key = k;
      value = v;
      others = ps;
      split = refl;
      key_here = key_on;
      value_here = value_on;
      there = record {
        on = those_on b es held next (places v) (pairs_places ps) (omega (arith, value_here.next, places_counted v)) behind;
        counted = omega (arith, h.counted, key_here.next, value_here.next);
      };
      ahead = omega (arith, key_here.next, key_here.some, value_here.next);
    }

pub no_pair_here : (t : Taped) (place end : ℕ) (d : Entry) (ps : Pairs) → ArePairsAt t place end ps → (place < end → place < length t.tape.now → (get_or t.tape.now place d).next < length t.tape.now → ⊥) → ps ≡ no_pairs
no_pair_here t place end d no_pairs h none = refl
no_pair_here t place end d (pair k v ps) h none =
    let b = t.bytes.now in
    let es = t.tape.now in
    let key_on = these_on b es place (places k) (places v ++ pairs_places ps) h.on in
    let key_here = item_here b es place k d key_on in
    let held : ℕ = (get_or es place d).next in
    let behind = those_on b es place held (places k) (places v ++ pairs_places ps) (omega (arith, key_here.next, places_counted k)) h.on in
    let value_here = item_here b es held v d (these_on b es held (places v) (pairs_places ps) behind) in
    absurd (none (omega (arith, h.counted, key_here.some)) key_here.within value_here.within)

-- the whole item is at the first place
pub whole_on : (depth : ℕ) (b : List ℕ) (t : List Entry) (n : ℕ) → (w : IsWholeTape depth b t n) → AreOn b t 0 (places w.value)
whole_on depth b t n w = record {
  entries = take (place_count w.value) t;
  after = drop (place_count w.value) t;
  stand = w.stands;
  is = sym (take-append-drop (place_count w.value) t);
}

pub whole_here : (t : Taped) (depth n : ℕ) → (w : IsWholeTape depth t.bytes.now t.tape.now n) → IsAt t 0 w.value
whole_here t depth n w = whole_on depth t.bytes.now t.tape.now n w

-- what is read of an entry

pub after_here : (t : Taped) (place : ℕ) (r : Option ℕ) → MatchOption r (length t.tape.now ≤ place) (λ next. next ≡ next_at t.tape.now place) → IfSome r (λ next. (x : Value) → IsAt t place x → next ≡ place + place_count x)
after_here t place None h = tt
after_here t place (Some next) h = λ x on. h ∙ (item_here t.bytes.now t.tape.now place x (record { head = 0; next = 0 }) on).next

pub some_first : (t : Taped) (place end : ℕ) (r : Option ℕ) (xs : Values) → place < end → MatchOption r (length t.tape.now ≤ place) (λ next. next ≡ next_at t.tape.now place) → AreAt t place end xs → MatchOption r (xs ≡ no_values) (λ next. IsFirstOf t place end next xs)
some_first t place end None xs some h on = none_here t place end xs on (λ a within. omega (arith, h, within))
some_first t place end (Some next) xs some h on = subst (λ n. IsFirstOf t place end n xs) (sym h) (first_here t place end (record { head = 0; next = 0 }) xs on some)

pub leaf_here : (t : Taped) (place : ℕ) (d : Entry) (r : Option Seen) → IfSome r (IsLeafSeen t.bytes.now (get_or t.tape.now place d).head) → IfSome r (λ seen. (x : Value) → IsAt t place x → IsSeen t x seen)
leaf_here t place d None h = tt
leaf_here t place d (Some seen) h = λ x on.
    let i = item_here t.bytes.now t.tape.now place x d on in
    by x seen (h x i.spelling i.after i.spells i.is)
  where
    by : (x : Value) (seen : Seen) → IsLeaf x seen → IsSeen t x seen
    by x (S.Uint n) e = e
    by x (S.Nint n) e = e
    by x (S.Bytes s) e = e
    by x (S.Text s) e = e
    by x (S.Simple n) e = e
    by x (S.Float w n) e = e
    by x (S.Array first end) e = absurd e
    by x (S.Map first end) e = absurd e
    by x (S.Tag n content) e = absurd e

pub some_first_pair : (t : Taped) (place end held next : ℕ) (ps : Pairs) → held ≡ next_at t.tape.now place → next ≡ next_at t.tape.now held → place < end → ArePairsAt t place end ps → IsFirstPairOf t place end held next ps
some_first_pair t place end held next ps h g some on =
    subst (λ n. IsFirstPairOf t place end held n ps) (sym g) (subst (λ m. IsFirstPairOf t place end m (next_at t.tape.now m) ps) (sym h) (first_pair_here t place end (record { head = 0; next = 0 }) ps on some))
