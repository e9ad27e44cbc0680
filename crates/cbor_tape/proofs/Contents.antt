-- What strings hold, compared.
use Rattle.std.proofs.Common.{◌≡◌, ℕ, ◌+◌, ◌<◌, ◌≤◌, ◌==◌, true, List, [], ◌∷◌, ◌++◌, length, take, drop, Option, Some, None, refl, sym, ap, ap₂, ◌∙◌, subst, arith, append_assoc, length-append}
use Rattle.std.specs.Cmp.Lexicographic.{slice_cmp}
use Rattle.std.specs.Ordering.{nat_cmp, ordering_then}
use Rattle.std.specs.declared.cmp.Ordering.{Ordering}
use Rattle.std.specs.declared.cmp.Ordering.TheVariants.{Less, Equal, Greater}
use Rattle.std.proofs.lemmas.Bool.Decides.{nat_tests}
use Rattle.std.proofs.lemmas.Cmp.{nat_cmp_total, tied_itself}
use Rattle.std.proofs.lemmas.Map.Lookups.{exact_bytes}
use Rattle.std.proofs.lemmas.List.{drop-drop, length-take-le, take-append-drop}
use Rattle.cbor_data.specs.Forms.{Chunk, chunks_bytes, joined}
use Rattle.read_items.specs.Whole.Parts.{IsBreak}
use Rattle.cbor_tape.specs.declared.strings.Content.{Content}
use Rattle.cbor_tape.specs.Contents.{AreChunksFrom, AreSizedAt, HasChunks, HasContent, IsFilled, IsPieceAt, IsTold}
use Rattle.cbor_tape.proofs.Forms.{info_of, info_below, head_first, byte_there}

-- orders of lists

pub decided : (c r s o : Ordering) → ordering_then c r ≡ o → (r ≡ o → s ≡ o) → ordering_then c s ≡ o
decided Less r s o is same = is
decided Greater r s o is same = is
decided Equal r s o is same = same is

-- lists of one length that differ are in the same order whatever comes after them
pub told_fronts : (xs ys u v : List ℕ) (o : Ordering) → length xs ≡ length ys → slice_cmp nat_cmp xs ys ≡ o → (o ≡ Equal → ⊥) → slice_cmp nat_cmp (xs ++ u) (ys ++ v) ≡ o
told_fronts [] [] u v o len is differ = absurd (differ (sym is))
told_fronts [] (y ∷ ys) u v o len is differ = absurd (omega (arith, len))
told_fronts (x ∷ xs) [] u v o len is differ = absurd (omega (arith, len))
told_fronts (x ∷ xs) (y ∷ ys) u v o len is differ = decided (nat_cmp x y) (slice_cmp nat_cmp xs ys) (slice_cmp nat_cmp (xs ++ u) (ys ++ v)) o is (λ rest. told_fronts xs ys u v o (omega (arith, len)) rest differ)

-- what is equal before them changes no order
pub same_front : (p s t : List ℕ) → slice_cmp nat_cmp (p ++ s) (p ++ t) ≡ slice_cmp nat_cmp s t
same_front [] s t = refl
same_front (x ∷ p) s t = ap (λ c. ordering_then c (slice_cmp nat_cmp (p ++ s) (p ++ t))) (tied_itself nat_cmp_total x) ∙ same_front p s t

pub told_from : (o : Ordering) (s t : List ℕ) → (o ≡ Equal → ⊥) → ((u v : List ℕ) → slice_cmp nat_cmp (s ++ u) (t ++ v) ≡ o) → IsTold o s t
told_from Less s t differ h = h
told_from Greater s t differ h = h
told_from Equal s t differ h = absurd (differ refl)

pub told_order : (o : Ordering) (s t u v : List ℕ) → IsTold o s t → (o ≡ Equal → ⊥) → slice_cmp nat_cmp (s ++ u) (t ++ v) ≡ o
told_order Less s t u v h differ = h u v
told_order Greater s t u v h differ = h u v
told_order Equal s t u v h differ = absurd (differ refl)

pub told_equal : (o : Ordering) (s t : List ℕ) → IsTold o s t → o ≡ Equal → s ≡ t
told_equal Equal s t h is = h
told_equal Less s t h is = absurd (cc)
told_equal Greater s t h is = absurd (cc)

-- chunks that are counted so far
abbrev pub AreCounted : List ℕ → ℕ → ℕ → ℕ → Type 0
AreCounted b start at len = (cs : List Chunk) (after : List ℕ) → AreChunksFrom b start cs after → (ds : List Chunk) × AreChunksFrom b at ds after × (length (joined cs) ≡ len + length (joined ds))

pub none_counted : (b : List ℕ) (start : ℕ) → AreCounted b start start 0
none_counted b start cs after h = (cs, h, omega arith)

pub one_counted : (b : List ℕ) (start at len end : ℕ) (piece : List ℕ) → AreCounted b start at len → IsPieceAt b at piece end → AreCounted b start end (len + length piece)
one_counted b start at len end piece h p cs after there =
    let s = h cs after there in
    let r = p s.0 after s.1 in
    (r.0, r.2, omega (arith, s.2, ap length r.1, length-append piece (joined r.0)))

-- where a break is no chunk is left
pub none_left : (b : List ℕ) (at : ℕ) (cs : List Chunk) (after : List ℕ) → AreChunksFrom b at cs after → IsBreak b at → (joined cs ≡ []) × (drop (at + 1) b ≡ after)
none_left b at [] after h end = (refl, sym (drop-drop 1 at b) ∙ ap (drop 1) h.is)
none_left b at (c ∷ cs) after h end =
    let own = chunks_bytes h.major cs ++ 255 ∷ after in
    let small : info_of c.size (length c.content) < 28 = info_below c.size (length c.content) h.ok.0.0 in
    let first = byte_there b at _ (h.is ∙ (append_assoc (_ ++ c.content) (chunks_bytes h.major cs) (255 ∷ after) ∙ append_assoc _ c.content own)) ∙ head_first c.size h.major (length c.content) (c.content ++ own) in
    let few : h.major < 4 = h.string in
    absurd (omega (arith, first, end.1))

pub all_counted : (b : List ℕ) (start at len : ℕ) → AreCounted b start at len → IsBreak b at → AreSizedAt b start len (at + 1)
all_counted b start at len h end cs after there =
    let s = h cs after there in
    let none = none_left b at s.0 after s.1 end in
    (omega (arith, s.2, ap length none.0), none.1)

-- contents

none_of : (l : List ℕ) → length l ≡ 0 → l ≡ []
none_of [] h = refl
none_of (x ∷ l) h = absurd (omega arith)

pub empty : (l : List ℕ) → true ≡ (length l == 0) → l ≡ []
empty l h = none_of l (grind (arith, nat_tests))

-- the chunk that comes next, and those behind it
pub next_piece : (b : List ℕ) (at end : ℕ) (chunks : Option ℕ) (front piece s : List ℕ) → front ≡ [] → chunks ≡ Some at → IsPieceAt b at piece end → (h : (t : List ℕ) × HasChunks b chunks t × (s ≡ front ++ t)) → (t : List ℕ) × HasChunks b (Some end) t × (s ≡ piece ++ t)
next_piece b at end chunks front piece s none from there h =
    let held : HasChunks b (Some at) h.0 = subst (λ (o : Option ℕ). HasChunks b o h.0) from h.1 in
    let r = there held.0 held.1 held.2 in
    (joined r.0, (r.0, held.1, r.2, refl), h.2 ∙ (ap (λ l. l ++ h.0) none ∙ (held.3 ∙ r.1)))

-- where a break is nothing is left
pub none_behind : (b : List ℕ) (at : ℕ) (chunks : Option ℕ) (front s : List ℕ) → front ≡ [] → chunks ≡ Some at → IsBreak b at → (t : List ℕ) × HasChunks b chunks t × (s ≡ front ++ t) → s ≡ []
none_behind b at chunks front s none from end h =
    let held : HasChunks b (Some at) h.0 = subst (λ (o : Option ℕ). HasChunks b o h.0) from h.1 in
    h.2 ∙ (ap (λ l. l ++ h.0) none ∙ (held.3 ∙ (none_left b at held.0 held.1 held.2 end).0))

-- nor where there are no chunks
pub no_chunks : (b : List ℕ) (chunks : Option ℕ) (front s : List ℕ) → front ≡ [] → chunks ≡ None → (t : List ℕ) × HasChunks b chunks t × (s ≡ front ++ t) → s ≡ []
no_chunks b chunks front s none from h =
    let held : h.0 ≡ [] = subst (λ (o : Option ℕ). HasChunks b o h.0) from h.1 in
    h.2 ∙ (ap (λ l. l ++ h.0) none ∙ held)

-- of both contents the same was gone through
pub record AreBoth (b : List ℕ) (c d : Content) (s t : List ℕ) : Type 0 where
  pub seen : List ℕ
  pub one : List ℕ
  pub other : List ℕ
  pub first : s ≡ seen ++ one
  pub second : t ≡ seen ++ other
  pub held : IsFilled b c one
  pub held_too : IsFilled b d other

abbrev pub AreBothOf : List ℕ → Content → Content → Content → Content → Type 0
AreBothOf b c0 d0 c d = (s t : List ℕ) → HasContent b c0 s → HasContent b d0 t → AreBoth b c d s t

pub none_seen : (b : List ℕ) (c0 d0 c d : Content) → ((s : List ℕ) → HasContent b c0 s → IsFilled b c s) → ((s : List ℕ) → HasContent b d0 s → IsFilled b d s) → AreBothOf b c0 d0 c d
none_seen b c0 d0 c d f g s t h k = record { seen = []; one = s; other = t; first = refl; second = refl; held = f s h; held_too = g t k }

-- the fronts' first bytes are equal
pub more_seen : (b : List ℕ) (c0 d0 c d e f : Content) (n : ℕ) → slice_cmp nat_cmp (take n c.front.now) (take n d.front.now) ≡ Equal
    → ((s : List ℕ) → HasContent b c s → (t : List ℕ) × (s ≡ take n c.front.now ++ t) × IsFilled b e t)
    → ((s : List ℕ) → HasContent b d s → (t : List ℕ) × (s ≡ take n d.front.now ++ t) × IsFilled b f t)
    → AreBothOf b c0 d0 c d → AreBothOf b c0 d0 e f
more_seen b c0 d0 c d e f n equal g k h s t hold hold_too =
    let w = h s t hold hold_too in
    let p = g w.one w.held.0 in
    let q = k w.other w.held_too.0 in
    let same : take n c.front.now ≡ take n d.front.now = exact_bytes (take n c.front.now) (take n d.front.now) equal in
    let more = w.seen ++ take n c.front.now in
    record {
      seen = more;
      one = p.0;
      other = q.0;
      first = w.first ∙ (ap (λ l. w.seen ++ l) p.1 ∙ sym (append_assoc w.seen (take n c.front.now) p.0));
      second = w.second ∙ (ap (λ l. w.seen ++ l) (q.1 ∙ ap (λ l. l ++ q.0) (sym same)) ∙ sym (append_assoc w.seen (take n c.front.now) q.0));
      held = p.2;
      held_too = q.2;
    }

-- the fronts' first bytes differ
pub told_here : (b : List ℕ) (c0 d0 c d : Content) (n : ℕ) (o : Ordering) → n ≤ length c.front.now → n ≤ length d.front.now → slice_cmp nat_cmp (take n c.front.now) (take n d.front.now) ≡ o → (o ≡ Equal → ⊥) → AreBothOf b c0 d0 c d → (s t : List ℕ) → HasContent b c0 s → HasContent b d0 t → IsTold o s t
told_here b c0 d0 c d n o few few_too is differ h s t hold hold_too = told_from o s t differ by
  where
    w : AreBoth b c d s t
    w = h s t hold hold_too

    by : (u v : List ℕ) → slice_cmp nat_cmp (s ++ u) (t ++ v) ≡ o
    by u v =
        let p = w.held.0 in
        let q = w.held_too.0 in
        let xs = take n c.front.now in
        let ys = take n d.front.now in
        let x = drop n c.front.now ++ (p.0 ++ u) in
        let y = drop n d.front.now ++ (q.0 ++ v) in
        let len : length xs ≡ length ys = omega (arith, length-take-le n c.front.now few, length-take-le n d.front.now few_too) in
        let left : s ++ u ≡ w.seen ++ (xs ++ x) = split w.seen w.one s c.front.now p.0 u n w.first p.2 in
        let right : t ++ v ≡ w.seen ++ (ys ++ y) = split w.seen w.other t d.front.now q.0 v n w.second q.2 in
        ap₂ (slice_cmp nat_cmp) left right ∙ (same_front w.seen (xs ++ x) (ys ++ y) ∙ told_fronts xs ys x y o len is differ)
      where
        split : (seen one s front t u : List ℕ) (n : ℕ) → s ≡ seen ++ one → one ≡ front ++ t → s ++ u ≡ seen ++ (take n front ++ (drop n front ++ (t ++ u)))
        split seen one s front t u n e f =
            ap (λ l. l ++ u) (e ∙ ap (λ l. seen ++ l) f)
            ∙ (append_assoc seen (front ++ t) u
            ∙ ap (λ l. seen ++ l) (append_assoc front t u
            ∙ (ap (λ l. l ++ (t ++ u)) (sym (take-append-drop n front)) ∙ append_assoc (take n front) (drop n front) (t ++ u))))

-- nothing is left of both
pub told_same : (b : List ℕ) (c0 d0 c d : Content) → c.front.now ≡ [] → d.front.now ≡ [] → AreBothOf b c0 d0 c d → (s t : List ℕ) → HasContent b c0 s → HasContent b d0 t → s ≡ t
told_same b c0 d0 c d none none_too h s t hold hold_too =
    let w = h s t hold hold_too in
    w.first ∙ (ap (λ l. w.seen ++ l) (w.held.1 none ∙ sym (w.held_too.1 none_too)) ∙ sym w.second)

-- what is left of a content after so many bytes of its front
pub left_after : (b : List ℕ) (chunks : Option ℕ) (front s : List ℕ) (n : ℕ) → (h : (t : List ℕ) × HasChunks b chunks t × (s ≡ front ++ t)) → s ≡ take n front ++ (drop n front ++ h.0)
left_after b chunks front s n h = h.2 ∙ (ap (λ l. l ++ h.0) (sym (take-append-drop n front)) ∙ append_assoc (take n front) (drop n front) h.0)
