-- Heads of lines that are put: one of which all is known, and one that differs from it in the last two digits of its numbers.
use Rattle.std.proofs.Common.{◌≡◌, ℕ, zero, suc, ◌+◌, ◌-◌, ◌/◌, ◌%◌, ◌^◌, ◌<◌, ◌≤◌, List, [], ◌∷◌, ◌++◌, length, take, drop, decimal, slice_index_or, refl, sym, ap, ap₂, ◌∙◌, arith, append_assoc, length-append}
use Rattle.std.specs.Prelude.{codes}
use Rattle.std.proofs.lemmas.List.{drop_at, length-take-le, take-append-drop, take_at}
use Rattle.std.proofs.lemmas.Fmt.{decimal_digit, decimal_step_wide}
use Rattle.std.proofs.Math.Seq.{take-add}
use Rattle.cbor_data.specs.Notation.{notation}
use Rattle.cbor_data.specs.Value.{Value, uint}
use Rattle.tape_notation.specs.Put.{IsPut, two_digits}
use Rattle.tape_notation.proofs.Lemmas.{more_put, same_put}
use Rattle.seq_run.specs.Heads.{AreNear, IsHundred, IsTemplate}
use Rattle.seq_run.specs.Output.{item_output, items_output}
use Rattle.seq_run.specs.Report.{head_text, item_line}
use Rattle.seq_run.specs.Smalls.{smalls_from}
use Rattle.seq_run.specs.declared.head.Hundred.{Hundred}
use Rattle.seq_run.specs.declared.head.Template.{Template}
use Rattle.seq_run.specs.declared.output.Mode.TheVariants.{Report}
use Rattle.seq_run.proofs.Appending.{few_digits, head_parts}
use Rattle.seq_run.proofs.Reporting.{items_output_append, items_output_more, range_from}
use Rattle.seq_run.proofs.Smalls.{front_count, smalls_count, smalls_found_more, smalls_join}

-- the digits of two numbers that differ in the last two alone
record IsSameFront (m n : ℕ) : Type 0 where
  front : List ℕ
  first : decimal m ≡ front ++ two_digits (m % 100)
  second : decimal n ≡ front ++ two_digits (n % 100)

last_two : (n : ℕ) → 100 ≤ n → n < 10 ^ 64 → decimal n ≡ decimal (n / 100) ++ two_digits (n % 100)
last_two n low high =
    let a : n / 10 / 10 ≡ n / 100 = omega arith in
    let b : n / 10 % 10 ≡ n % 100 / 10 = omega arith in
    let c : n % 10 ≡ n % 100 % 10 = omega arith in
    rw (decimal_step_wide n (omega arith) high, decimal_step_wide (n / 10) (omega arith) (omega arith), append_assoc, a, b, ← c)

just_two : (n : ℕ) → 10 ≤ n → n < 100 → decimal n ≡ two_digits n
just_two n low high = decimal_step_wide n low (omega arith) ∙ ap (λ (xs : List ℕ). xs ++ (48 + n % 10) ∷ []) (decimal_digit (n / 10) (omega arith))

-- all digits but the last two of a number that has so many hundreds
front_of : ℕ → List ℕ
front_of zero = []
front_of (suc k) = decimal (suc k)

by_front : (n q : ℕ) → n / 100 ≡ q → 10 ≤ n → n < 10 ^ 64 → decimal n ≡ front_of q ++ two_digits (n % 100)
unfolding front_of
by_front n zero is low high =
    let below : n < 100 = omega (arith, is) in
    just_two n low below ∙ ap two_digits (let e : n ≡ n % 100 = omega (arith, below) in e)
by_front n (suc q) is low high = last_two n (omega (arith, is)) high ∙ ap (λ (k : ℕ). decimal k ++ two_digits (n % 100)) is

same_front : (m n : ℕ) → AreNear m n → IsSameFront m n
same_front m n h = record { front = front_of (m / 100); first = by_front m (m / 100) refl h.first (omega (arith, h.fits)); second = by_front n (m / 100) h.front h.second (omega (arith, h.fits, h.front)) }

pub length-head : (number offset : ℕ) → length (head_text number offset) ≡ 11 + length (decimal number) + length (decimal offset)
length-head number offset =
    omega (
      arith,
      length-append (codes "item ") (decimal number ++ (codes " at " ++ (decimal offset ++ codes ": "))),
      length-append (decimal number) (codes " at " ++ (decimal offset ++ codes ": ")),
      length-append (codes " at ") (decimal offset ++ codes ": "),
      length-append (decimal offset) (codes ": "),
    )

-- how long the head of a template is, of which each number has two digits or more
pub template_len : (t : Template) (m p : ℕ) → IsTemplate t m p → t.end ≡ 11 + length (decimal m) + length (decimal p)
template_len t m p h = omega (arith, ap length h.text, length-take-le t.end t.text (omega (arith, h.short, h.long)), length-head m p)

some_digits : (n : ℕ) → 10 ≤ n → n < 10 ^ 64 → 2 ≤ length (decimal n)
some_digits n low high = omega (arith, ap length (by_front n (n / 100) refl low high), length-append (front_of (n / 100)) (two_digits (n % 100)))

-- bytes in the midst of others are written anew
overwritten : {old new : List ℕ} {at end : ℕ} (a d b t : List ℕ) → IsPut old new at t end → drop end new ≡ drop end old → old ≡ a ++ (d ++ b) → length a ≡ at → length d ≡ length t → new ≡ a ++ (t ++ b)
overwritten {old} {new} {at} {end} a d b t put after is first same =
    let front : take at old ≡ a = ap (take at) is ∙ take_at a (d ++ b) at first in
    let rest : drop end old ≡ b = ap (drop end) (is ∙ sym (append_assoc a d b)) ∙ drop_at (a ++ d) b end (omega (arith, length-append a d, first, same, put.placed)) in
    sym (take-append-drop end new) ∙ (ap₂ (λ (x y : List ℕ). x ++ y) (put.is ∙ ap (λ (r : List ℕ). r ++ t) front) (after ∙ rest) ∙ append_assoc a t b)

apart : (x f g b r c d : List ℕ) → x ++ (((codes "item " ++ ((f ++ c) ++ (codes " at " ++ ((g ++ d) ++ codes ": ")))) ++ b) ++ r) ≡ (x ++ (codes "item " ++ f)) ++ (c ++ ((codes " at " ++ g) ++ (d ++ (codes ": " ++ (b ++ r)))))
apart x f g b r c d = simp append_assoc

joined : (x f g s c d : List ℕ) → ((x ++ (codes "item " ++ f)) ++ (c ++ (codes " at " ++ g))) ++ (d ++ (codes ": " ++ s)) ≡ (x ++ (codes "item " ++ ((f ++ c) ++ (codes " at " ++ ((g ++ d) ++ codes ": "))))) ++ s
joined x f g s c d = simp append_assoc

two_apart : (x c y z : List ℕ) → x ++ (c ++ (y ++ z)) ≡ (x ++ (c ++ y)) ++ z
two_apart x c y z = simp append_assoc

-- the bytes that a text was put into, all of them
all_of : {o0 o1 : List ℕ} {at e : ℕ} (text : List ℕ) → IsPut o0 o1 at text e → o1 ≡ take at o0 ++ (text ++ drop e o1)
all_of {o0} {o1} {at} {e} text put = sym (take-append-drop e o1) ∙ (ap (λ (f : List ℕ). f ++ drop e o1) put.is ∙ append_assoc (take at o0) text (drop e o1))

-- a template that was put is its head
pub exact_put : {o0 o1 : List ℕ} {at e : ℕ} (t : Template) (m p : ℕ) → IsTemplate t m p → IsPut o0 o1 at t.text e → IsPut o0 o1 at (head_text m p) (at + t.end)
exact_put {o0} {o1} {at} {e} t m p h put =
    let x = take at o0 in
    let b = drop t.end t.text in
    let r = drop e o1 in
    let long : length x ≡ at = length-take-le at o0 (omega (arith, put.placed, put.within, put.long)) in
    let text : t.text ≡ head_text m p ++ b = sym (take-append-drop t.end t.text) ∙ ap (λ (y : List ℕ). y ++ b) h.text in
    let whole : o1 ≡ (x ++ head_text m p) ++ (b ++ r) =
    all_of t.text put ∙ (ap (λ (y : List ℕ). x ++ (y ++ r)) text ∙ (ap (λ (y : List ℕ). x ++ y) (append_assoc (head_text m p) b r) ∙ sym (append_assoc x (head_text m p) (b ++ r)))) in
    let size : t.end ≡ length (head_text m p) = omega (arith, template_len t m p h, length-head m p) in
    record {
      placed = ap (λ (k : ℕ). at + k) size;
      within = omega (arith, put.placed, put.within, h.long, h.short);
      long = put.long;
      is = ap (take (at + t.end)) whole ∙ take_at (x ++ head_text m p) (b ++ r) (at + t.end) (omega (arith, length-append x (head_text m p), long, size));
    }

-- a template that was put, and then the last two digits of both numbers
pub near_put : {o0 o1 o2 o3 : List ℕ} {at e1 e2 e3 : ℕ} (t : Template) (m p n o k j : ℕ) → IsTemplate t m p → AreNear m n → AreNear p o → k ≡ n % 100 → j ≡ o % 100 → IsPut o0 o1 at t.text e1 →
    IsPut o1 o2 (at + t.number_end - 2) (two_digits k) e2 → drop e2 o2 ≡ drop e2 o1 → IsPut o2 o3 (at + t.end - 4) (two_digits j) e3 → drop e3 o3 ≡ drop e3 o2 → IsPut o0 o3 at (head_text n o) (at + t.end)
near_put {o0} {o1} {o2} {o3} {at} {e1} {e2} {e3} t m p n o k j h near_n near_o k_is j_is put one after_one two after_two =
    let a = same_front m n near_n in
    let q = same_front p o near_o in
    let x = take at o0 in
    let b = drop t.end t.text in
    let r = drop e1 o1 in
    let head : List ℕ → List ℕ → List ℕ = λ u v. codes "item " ++ (u ++ (codes " at " ++ (v ++ codes ": "))) in
    let long : length x ≡ at = length-take-le at o0 (omega (arith, put.placed, put.within, put.long)) in
    let size = template_len t m p h in
    let dm : length (decimal m) ≡ length a.front + 2 = ap length a.first ∙ length-append a.front (two_digits (m % 100)) in
    let dn : length (decimal n) ≡ length a.front + 2 = ap length a.second ∙ length-append a.front (two_digits (n % 100)) in
    let dp : length (decimal p) ≡ length q.front + 2 = ap length q.first ∙ length-append q.front (two_digits (p % 100)) in
    let d_o : length (decimal o) ≡ length q.front + 2 = ap length q.second ∙ length-append q.front (two_digits (o % 100)) in
    let text : t.text ≡ head (a.front ++ two_digits (m % 100)) (q.front ++ two_digits (p % 100)) ++ b =
    sym (take-append-drop t.end t.text) ∙ (ap (λ (y : List ℕ). y ++ b) h.text ∙ ap₂ (λ (u v : List ℕ). head u v ++ b) a.first q.first) in
    let parts = all_of t.text put ∙ (ap (λ (y : List ℕ). x ++ (y ++ r)) text ∙ apart x a.front q.front b r (two_digits (m % 100)) (two_digits (p % 100))) in
    let before = x ++ (codes "item " ++ a.front) in
    let between = codes " at " ++ q.front in
    let first_len : length before ≡ at + t.number_end - 2 = omega (arith, length-append x (codes "item " ++ a.front), length-append (codes "item ") a.front, long, dm, h.place) in
    let changed = overwritten before (two_digits (m % 100)) (between ++ (two_digits (p % 100) ++ (codes ": " ++ (b ++ r)))) (two_digits k) one after_one parts first_len refl ∙ two_apart before (two_digits k) between (two_digits (p % 100) ++ (codes ": " ++ (b ++ r))) in
    let second_len : length (before ++ (two_digits k ++ between)) ≡ at + t.end - 4 =
    omega (arith, length-append before (two_digits k ++ between), length-append (two_digits k) between, length-append (codes " at ") q.front, length-append x (codes "item " ++ a.front), length-append (codes "item ") a.front, long, dm, dp, size) in
    let both = overwritten (before ++ (two_digits k ++ between)) (two_digits (p % 100)) (codes ": " ++ (b ++ r)) (two_digits j) two after_two changed second_len refl in
    let digits : head (a.front ++ two_digits k) (q.front ++ two_digits j) ≡ head_text n o = ap₂ (λ (u v : ℕ). head (a.front ++ two_digits u) (q.front ++ two_digits v)) k_is j_is ∙ sym (ap₂ head a.second q.second) in
    let whole : o3 ≡ (x ++ head_text n o) ++ (b ++ r) = both ∙ (joined x a.front q.front (b ++ r) (two_digits k) (two_digits j) ∙ ap (λ (y : List ℕ). (x ++ y) ++ (b ++ r)) digits) in
    let same : t.end ≡ length (head_text n o) = omega (arith, size, length-head n o, dm, dn, dp, d_o) in
    let all_long : length o3 ≡ length o0 = two.long ∙ (one.long ∙ put.long) in
    record {
      placed = ap (λ (i : ℕ). at + i) same;
      within = omega (arith, all_long, put.long, put.placed, put.within, h.long, h.short);
      long = all_long;
      is = ap (take (at + t.end)) whole ∙ take_at (x ++ head_text n o) (b ++ r) (at + t.end) (omega (arith, length-append x (head_text n o), long, same));
    }

-- the parts of a head, put one after the other at the front
pub template_put : {o0 o1 o2 o3 o4 : List ℕ} {start number_end place offset_end end : ℕ} (text : List ℕ) (n o : ℕ) → n < 2 ^ 64 → o < 2 ^ 64 → length text ≡ 64 → IsPut o0 o1 0 (codes "item ") start → IsPut o1 o2 start (decimal n) number_end →
    IsPut o2 o3 number_end (codes " at ") place → IsPut o3 o4 place (decimal o) offset_end → IsPut o4 text offset_end (codes ": ") end → IsTemplate (record { text = text; number_end = number_end; end = end }) n o
template_put {o0} {o1} {o2} {o3} {o4} {start} {number_end} {place} {offset_end} {end} text n o n_fits o_fits long a b c d e =
    let tail = more_put o3 o4 text place offset_end end (decimal o) (codes ": ") d e in
    let middle = more_put o2 o3 text number_end place end (codes " at ") (decimal o ++ codes ": ") c tail in
    let rest = more_put o1 o2 text start number_end end (decimal n) (codes " at " ++ (decimal o ++ codes ": ")) b middle in
    let whole : IsPut o0 text 0 (head_text n o) end = more_put o0 o1 text 0 start end (codes "item ") (decimal n ++ (codes " at " ++ (decimal o ++ codes ": "))) a rest in
    record { text = whole.is; place = omega (arith, a.placed, b.placed); short = omega (arith, whole.placed, length-head n o, few_digits n n_fits, few_digits o o_fits); long = long }

-- the numbers of a hundred are near
pub in_hundred : (h : Hundred) (m n : ℕ) → IsHundred h m → m < 2 ^ 64 → h.first ≤ n → n < h.end → AreNear m n
in_hundred h m n is fits low high = record {
  first = is.some (omega (arith, high));
  second = omega (arith, is.two, low);
  fits = fits;
  front = omega (arith, is.base_is, is.from, is.upto, low, high);
}

pub last_of_hundred : (h : Hundred) (m n : ℕ) → IsHundred h m → h.first ≤ n → n < h.end → n - h.base ≡ n % 100
last_of_hundred h m n is low high = omega (arith, is.base_is, is.from, is.upto, low, high)

-- the line of a number below 24
pub line_put : {o0 o1 o2 : List ℕ} {at start end : ℕ} (n o d : ℕ) → IsPut o0 o1 at (head_text n o) start → IsPut o1 o2 start (decimal d ++ codes "\n") end → IsPut o0 o2 at (item_output Report n (record { offset = o; item = uint d })) end
line_put {o0} {o1} {o2} {at} {start} {end} n o d head rest =
    let text : List ℕ = decimal d ++ codes "\n" in
    same_put (head_text n o ++ text) (item_output Report n (record { offset = o; item = uint d })) (sym (head_parts n o text)) (more_put o0 o1 o2 at start end (head_text n o) text head rest)

-- lines that were put, and one more
pub lines_more : {o0 o1 o2 : List ℕ} {at end after : ℕ} (n o : ℕ) (ns : List ℕ) (k : ℕ) → k < length ns → IsPut o0 o1 at (items_output Report n (smalls_from o (take k ns))) end →
    IsPut o1 o2 end (item_output Report (n + k) (record { offset = o + k; item = uint (slice_index_or ns k 0) })) after → IsPut o0 o2 at (items_output Report n (smalls_from o (take (k + 1) ns))) after
lines_more {o0} {o1} {o2} {at} {end} {after} n o ns k within so_far line =
    let front = smalls_from o (take k ns) in
    let last : List ℕ = item_output Report (n + k) (record { offset = o + k; item = uint (slice_index_or ns k 0) }) in
    let number : n + length front ≡ n + k = omega (arith, smalls_count o (take k ns), front_count ns k within) in
    let all : items_output Report n (smalls_from o (take (k + 1) ns)) ≡ items_output Report n front ++ last =
    ap (items_output Report n) (smalls_found_more o ns k within) ∙ (items_output_more Report n front (record { offset = o + k; item = uint (slice_index_or ns k 0) })
    ∙ ap (λ (j : ℕ). items_output Report n front ++ item_output Report j (record { offset = o + k; item = uint (slice_index_or ns k 0) })) number) in
    same_put (items_output Report n front ++ last) (items_output Report n (smalls_from o (take (k + 1) ns))) (sym all) (more_put o0 o1 o2 at end after (items_output Report n front) last so_far line)

-- and so many more
pub runs_more : {o0 o1 o2 : List ℕ} {at end after : ℕ} (n o : ℕ) (ns : List ℕ) (k j : ℕ) → k ≤ length ns → IsPut o0 o1 at (items_output Report n (smalls_from o (take k ns))) end →
    IsPut o1 o2 end (items_output Report (n + k) (smalls_from (o + k) (take j (drop k ns)))) after → IsPut o0 o2 at (items_output Report n (smalls_from o (take (k + j) ns))) after
runs_more {o0} {o1} {o2} {at} {end} {after} n o ns k j within so_far more =
    let front = take k ns in
    let back = take j (drop k ns) in
    let count : length front ≡ k = length-take-le k ns within in
    let number : n + length (smalls_from o front) ≡ n + k = omega (arith, smalls_count o front, count) in
    let all : items_output Report n (smalls_from o (take (k + j) ns)) ≡ items_output Report n (smalls_from o front) ++ items_output Report (n + k) (smalls_from (o + k) back) =
    ap (λ (xs : List ℕ). items_output Report n (smalls_from o xs)) (take-add k j ns) ∙ (ap (items_output Report n) (smalls_join o front back)
    ∙ (items_output_append Report n (smalls_from o front) (smalls_from (o + length front) back)
    ∙ ap₂ (λ (i p : ℕ). items_output Report n (smalls_from o front) ++ items_output Report i (smalls_from p back)) number (ap (λ (i : ℕ). o + i) count))) in
    same_put (items_output Report n (smalls_from o front) ++ items_output Report (n + k) (smalls_from (o + k) back)) (items_output Report n (smalls_from o (take (k + j) ns))) (sym all)
    (more_put o0 o1 o2 at end after (items_output Report n (smalls_from o front)) (items_output Report (n + k) (smalls_from (o + k) back)) so_far more)

-- the same, of the rest of the numbers
pub some_more : {o0 o1 o2 : List ℕ} {at end after : ℕ} (before o : ℕ) (ns : List ℕ) (k j : ℕ) → k ≤ length ns → IsPut o0 o1 at (items_output Report (suc before) (smalls_from o (take k ns))) end →
    IsPut o1 o2 end (items_output Report (before + 1 + k) (smalls_from (o + k) (take j (take (length ns - k) (drop k ns))))) after → IsPut o0 o2 at (items_output Report (suc before) (smalls_from o (take (k + j) ns))) after
some_more before o ns k j within so_far more =
    let number : before + 1 + k ≡ suc before + k = omega arith in
    runs_more (suc before) o ns k j within so_far
    (same_put (items_output Report (before + 1 + k) (smalls_from (o + k) (take j (take (length ns - k) (drop k ns))))) (items_output Report (suc before + k) (smalls_from (o + k) (take j (drop k ns))))
    (ap₂ (λ (i : ℕ) (xs : List ℕ). items_output Report i (smalls_from (o + k) (take j xs))) number (range_from k ns)) more)

-- so many more in the same hundred
pub near_more : (m n i last : ℕ) → AreNear m n → last ≡ n % 100 → last + i < 100 → AreNear m (n + i)
near_more m n i last h is within = record { first = h.first; second = omega (arith, h.second); fits = h.fits; front = omega (arith, h.front, is, within) }

-- a head, and the notation of an item and a line feed after it
pub item_put : {o0 o1 o2 o3 : List ℕ} {at start after end : ℕ} (n o : ℕ) (x : Value) → IsPut o0 o1 at (head_text n o) start → IsPut o1 o2 start (notation x) after → IsPut o2 o3 after (codes "\n") end → IsPut o0 o3 at (item_line n (record { offset = o; item = x })) end
item_put {o0} {o1} {o2} {o3} {at} {start} {after} {end} n o x head text feed =
    let rest : List ℕ = notation x ++ codes "\n" in
    same_put (head_text n o ++ rest) (item_line n (record { offset = o; item = x })) (sym (head_parts n o rest)) (more_put o0 o1 o3 at start end (head_text n o) rest head (more_put o1 o2 o3 start after end (notation x) (codes "\n") text feed))
