-- Items that are whole in a piece, and lead on as the machine does byte by byte.
use Rattle.std.proofs.Common.{◌≡◌, ℕ, zero, suc, ◌+◌, ◌/◌, ◌<◌, ◌≤◌, inr, inl, ◌⊎◌, List, [], ◌∷◌, ◌++◌, length, take, drop, set, get_or, true, false, Option, Some, None, Result, Ok, Err, IfOk, refl, sym, ap, ◌∙◌, subst, arith, append-nil, length-drop}
use Rattle.std.specs.Bool.{nat_le, nat_lt}
use Rattle.std.proofs.lemmas.Bool.Decides.{nat_tests}
use Rattle.std.proofs.lemmas.List.{drop-drop}
use Rattle.std.specs.declared.vec.Vec.{Vec}
use Rattle.std.specs.declared.alloc.Global.{Global}
use Rattle.lists.proofs.Lemmas.{tested}
use Rattle.cbor_data.specs.Value.{Value, uint, nint, depth_of}
use Rattle.cbor_data.specs.Value.{bytes as byte_string}
use Rattle.cbor_data.specs.Forms.{Form, flat, meaning, IsOk}
use Rattle.item_nodes.specs.View.{view}
use Rattle.item_nodes.specs.declared.item.Item.{Item}
use Rattle.cbor_data.specs.Machine.Machine as machine
use Rattle.cbor_data.proofs.OfMachine.Lemmas.{item_in}
use Rattle.read_items.specs.Whole.Parts.{IsArgumentAt}
use Rattle.read_items.specs.Whole.Whole.{IsWholeItem}
use Rattle.read_building.specs.Building.{State, Frame, item, give, after, Text, steps, steps_in, frames_of}
use Rattle.read_building.specs.Builds.{IsRun}
use Rattle.read_building.specs.Taking.{AreTaken, is_last}
use Rattle.read_building.specs.Stages.{ends, one_less, frame_of, stack_of}
use Rattle.read_building.specs.Texts.{texts_of}
use Rattle.read_building.specs.Turns.{HasRoom, IsOn}
use Rattle.read_building.specs.declared.frame.Frame as code
use Rattle.read_building.specs.declared.frame.Frame.TheVariants.{Array, Map}
use Rattle.read_building.proofs.Builds.{reached, restricts_all}
use Rattle.read_building.proofs.Containers.{member_added, key_added, pair_added}
use Rattle.read_building.proofs.Forms.{form_of-steps_in, frames_of-length}
use Rattle.read_building.proofs.Forward.{forward}
use Rattle.read_building.proofs.Runs.{joined}
use Rattle.read_building.proofs.Stacks.{stack_top, stack_replaced}
use Rattle.read_building.proofs.Texts.{kept}
use Rattle.read_building.proofs.WholeHeads.{heads, head_on, string_head_on}

-- the machine of forms gets along a form that is not too deep
form_runs : (d : ℕ) (f : Form) (K : List machine.Frame) → IsOk f → depth_of (meaning f) + length K ≤ d → machine.steps_in d (machine.item K) (flat f) ≡ Some (machine.give K)
form_runs d f K ok few =
    let t : nat_le (depth_of (meaning f) + length K) d ≡ true = grind (arith, nat_tests) in
    ap (machine.steps_in d (machine.item K)) (sym (append-nil (flat f))) ∙ (item_in d f K [] ok (omega arith) ∙ rw t refl)

-- a whole item leads to where it is given
pub whole_run : (d at room : ℕ) (b : List ℕ) (x : Value) (n : ℕ) (K : List Frame) → length K + room ≤ d → IsWholeItem room b x n → IsRun d at (item K) (take n b) (give x K)
whole_run d at room b x n K few h = λ T good.
    let f : Form = h.spells.written in
    let T' : List Text = texts_of at f T in
    let shallow : depth_of (meaning f) ≤ room = subst (λ y. depth_of y ≤ room) h.spells.meant h.shallow in
    let len : length (frames_of K) ≡ length K = frames_of-length K in
    let r = reached (steps_in d at T (item K) (flat f)) (machine.give (frames_of K)) (form_of-steps_in d at T (item K) (flat f) ∙ form_runs d f (frames_of K) h.spells.ok (omega arith)) in
    let there : steps at T (item K) (flat f) ≡ Some (T', give (meaning f) K) = ap (steps at T (item K)) (sym (append-nil (flat f))) ∙ forward f at T K [] h.spells.ok in
    let same : Some r.0 ≡ Some (T', give (meaning f) K) = sym (restricts_all d (flat f) at T (item K) r.0 r.1) ∙ there in
    record {
      told = T';
      is = ap (steps_in d at T (item K)) h.spells.is ∙ (r.1 ∙ (same ∙ ap (λ y. Some (T', give y K)) (sym h.spells.meant)));
      utf8 = kept f at T h.spells.text good;
    }

-- where nothing is taken, all is as it was
pub nothing_taken : (d at : ℕ) (K L : List Frame) (b : List ℕ) → AreTaken d at (item K) b 0 (item L) → L ≡ K
nothing_taken d at K L b h = sym (ap (λ (o : Option (List Text × State)). frames_in o) (h.run [] tt).is)
  where
    frames_or : State → List Frame
    frames_or (item M) = M
    frames_or _ = K

    frames_in : Option (List Text × State) → List Frame
    frames_in None = K
    frames_in (Some q) = frames_or q.1

pub array_goes_on : (left : Option ℕ) (v : Vec Item Global) → is_last left ≡ false → ends (Array left v) ≡ false
array_goes_on None v h = refl
array_goes_on (Some zero) v h = absurd (cc)
array_goes_on (Some (suc n)) v h = refl

pub map_goes_on : (left : Option ℕ) (v : Vec (Item × Item) Global) (k : Item) → is_last left ≡ false → ends (Map left v (Some k)) ≡ false
map_goes_on None v k h = refl
map_goes_on (Some zero) v k h = absurd (cc)
map_goes_on (Some (suc n)) v k h = refl

-- ---- one part more

taken_on : (d at : ℕ) (s t u : State) (bytes : List ℕ) (used n : ℕ) → AreTaken d at s bytes used t → n ≤ length (drop used bytes) → IsRun d (at + used) t (take n (drop used bytes)) u → AreTaken d at s bytes (used + n) u
taken_on d at s t u bytes used n h few run = record {
  within = (let inside : used ≤ length bytes = h.within in omega (arith, length-drop used bytes));
  run = joined d at s t u bytes used n h.within h.run run;
}

-- the item x at the front of the rest
item_taken : (d at room : ℕ) (s t : State) (bytes rest : List ℕ) (used n : ℕ) (x : Value) (K : List Frame) → rest ≡ drop used bytes → length K + room ≤ d → AreTaken d at s bytes used (item K) → IsWholeItem room rest x n → give x K ≡ t → AreTaken d at s bytes (used + n) t
item_taken d at room s t bytes rest used n x K is few h whole e =
    let there : IsWholeItem room (drop used bytes) x n = subst (λ b. IsWholeItem room b x n) is whole in
    subst (AreTaken d at s bytes (used + n)) e (taken_on d at s (item K) (give x K) bytes used n h there.within (whole_run d (at + used) room (drop used bytes) x n K few there))

pub first_member_taken : (d at room : ℕ) (b : List ℕ) (n : ℕ) (left more : Option ℕ) (v w : Vec Item Global) (x : Item) (around : List Frame) → length around + 1 + room ≤ d → is_last left ≡ false → more ≡ one_less left → w.items ≡ v.items ++ x ∷ [] →
    IsWholeItem room b (view x) n → AreTaken d at (item (frame_of (Array left v) ∷ around)) b n (item (frame_of (Array more w) ∷ around))
first_member_taken d at room b n left more v w x around few goes less e h =
    let K : List Frame = frame_of (Array left v) ∷ around in
    let to : give (view x) K ≡ item (frame_of (Array more w) ∷ around) = member_added left v w x around e (array_goes_on left v goes) ∙ ap (λ m. item (frame_of (Array m w) ∷ around)) (sym less) in
    record { within = h.within; run = subst (IsRun d at (item K) (take n b)) to (whole_run d at room b (view x) n K (omega arith) h) }

pub pair_taken : (d at room : ℕ) (s : State) (bytes rest after : List ℕ) (used n m : ℕ) (left more : Option ℕ) (v w : Vec (Item × Item) Global) (k x : Item) (around : List Frame) → rest ≡ drop used bytes → after ≡ drop n rest → length around + 1 + room ≤ d → is_last left ≡ false → more ≡ one_less left → w.items ≡ v.items ++ (k, x) ∷ [] →
    AreTaken d at s bytes used (item (frame_of (Map left v None) ∷ around)) → IsWholeItem room rest (view k) n → IsWholeItem room after (view x) m → AreTaken d at s bytes (used + (n + m)) (item (frame_of (Map more w None) ∷ around))
pair_taken d at room s bytes rest after used n m left more v w k x around is then few goes less e h key worth =
    let first : AreTaken d at s bytes (used + n) (item (frame_of (Map left v (Some k)) ∷ around)) = item_taken d at room s _ bytes rest used n (view k) (frame_of (Map left v None) ∷ around) is (omega arith) h key (key_added left v k around) in
    let there : after ≡ drop (used + n) bytes = then ∙ (ap (drop n) is ∙ drop-drop n used bytes) in
    let all : used + n + m ≡ used + (n + m) = omega arith in
    subst (λ k. AreTaken d at s bytes k (item (frame_of (Map more w None) ∷ around))) all
    (item_taken d at room s _ bytes after (used + n) m (view x) (frame_of (Map left v (Some k)) ∷ around) there (omega arith) first worth
    (pair_added left v w k x around e (map_goes_on left v k goes) ∙ ap (λ l. item (frame_of (Map l w None) ∷ around)) (sym less)))

-- the integer x, of this head
small_room : (d at : ℕ) (K : List Frame) (b : ℕ) → b < 128 → HasRoom d at K b
small_room d at K b h = let t : nat_lt 3 (b / 32) ≡ false = grind (arith, nat_tests) in rw t refl

integer_given : (b n : ℕ) (x : Value) → b < 64 → (b / 32 ≡ 0 → x ≡ uint n) → (b / 32 ≡ 1 → x ≡ nint n) → (from : ℕ) (K : List Frame) → give x K ≡ after from (b / 32) n K
integer_given b n x few unsigned negative from K = elim (either b few) [
  | inl m ↦ ap (λ y. give y K) (unsigned m) ∙ ap (λ k. after from k n K) (sym m)
  | inr m ↦ ap (λ y. give y K) (negative m) ∙ ap (λ k. after from k n K) (sym m)
]
  where
    either : (c : ℕ) → c < 64 → (c / 32 ≡ 0) ⊎ (c / 32 ≡ 1)
    either c few = elim (tested (nat_lt c 32)) [ inl t ↦ inl (grind (arith, nat_tests)) | inr t ↦ inr (grind (arith, nat_tests)) ]

pub integer_taken : (d at : ℕ) (s : State) (bytes rest : List ℕ) (used end n : ℕ) (left more : Option ℕ) (v w : Vec Item Global) (x : Item) (around : List Frame) → rest ≡ drop used bytes → IsArgumentAt rest 0 n end → get_or rest 0 0 < 64 →
    (get_or rest 0 0 / 32 ≡ 0 → view x ≡ uint n) → (get_or rest 0 0 / 32 ≡ 1 → view x ≡ nint n) → is_last left ≡ false → more ≡ one_less left → w.items ≡ v.items ++ x ∷ [] →
    AreTaken d at s bytes used (item (frame_of (Array left v) ∷ around)) → AreTaken d at s bytes (used + end) (item (frame_of (Array more w) ∷ around))
integer_taken d at s bytes rest used end n left more v w x around is head few unsigned negative goes less e h =
    let K : List Frame = frame_of (Array left v) ∷ around in
    let b : ℕ = get_or rest 0 0 in
    let to : give (view x) K ≡ item (frame_of (Array more w) ∷ around) = member_added left v w x around e (array_goes_on left v goes) ∙ ap (λ m. item (frame_of (Array m w) ∷ around)) (sym less) in
    let on : IsOn d (at + used) (item K) rest end (item (frame_of (Array more w) ∷ around)) = head_on d (at + used) (b / 32) n end K rest _ (heads rest (b / 32) n end refl head) (omega arith) (small_room d (at + used) K b (omega arith)) (sym to ∙ integer_given b n (view x) few unsigned negative (at + used) K) in
    let there : IsOn d (at + used) (item K) (drop used bytes) end (item (frame_of (Array more w) ∷ around)) = subst (λ c. IsOn d (at + used) (item K) c end (item (frame_of (Array more w) ∷ around))) is on in
    taken_on d at s (item K) _ bytes used end h there.within there.run

-- the byte string x, of this head
pub bytes_taken : (d at : ℕ) (b : List ℕ) (n end : ℕ) (left more : Option ℕ) (v w : Vec Item Global) (x : Item) (around : List Frame) → IsArgumentAt b 0 n end → get_or b 0 0 / 32 ≡ 2 → end + n ≤ length b → view x ≡ byte_string (take n (drop end b)) →
    is_last left ≡ false → more ≡ one_less left → w.items ≡ v.items ++ x ∷ [] → AreTaken d at (item (frame_of (Array left v) ∷ around)) b (end + n) (item (frame_of (Array more w) ∷ around))
bytes_taken d at b n end left more v w x around head kind within is goes less e =
    let K : List Frame = frame_of (Array left v) ∷ around in
    let to : give (view x) K ≡ item (frame_of (Array more w) ∷ around) = member_added left v w x around e (array_goes_on left v goes) ∙ ap (λ m. item (frame_of (Array m w) ∷ around)) (sym less) in
    let on : IsOn d at (item K) b (end + n) (item (frame_of (Array more w) ∷ around)) = string_head_on d at n end false K b _ (heads b 2 n end kind head) (small_room d at K (get_or b 0 0) (omega arith)) within (λ no. absurd (omega arith)) (sym to ∙ ap (λ y. give y K) is) in
    record { within = on.within; run = on.run }

-- one after the other
pub taken_more : (d at : ℕ) (s t u : State) (bytes rest : List ℕ) (used n : ℕ) → rest ≡ drop used bytes → AreTaken d at s bytes used t → AreTaken d (at + used) t rest n u → AreTaken d at s bytes (used + n) u
taken_more d at s t u bytes rest used n is h more =
    let there : AreTaken d (at + used) t (drop used bytes) n u = subst (λ b. AreTaken d (at + used) t b n u) is more in
    taken_on d at s t u bytes used n h there.within there.run

pub still_taken : (d at : ℕ) (s t u : State) (bytes rest : List ℕ) (used n : ℕ) → rest ≡ drop used bytes → n ≡ 0 → AreTaken d at s bytes used t → AreTaken d (at + used) t rest n u → AreTaken d at s bytes used u
still_taken d at s t u bytes rest used n is none h more =
    let same : used + n ≡ used = omega arith in
    subst (λ k. AreTaken d at s bytes k u) same (taken_more d at s t u bytes rest used n is h more)

pub none_taken : (d at : ℕ) (s : State) (bytes : List ℕ) → AreTaken d at s bytes 0 s
none_taken d at s bytes = record { within = omega arith; run = λ T good. record { told = T; is = refl; utf8 = good } }

-- on the stack of the vector

pub top_taken : (d at used : ℕ) (fs : List code.Frame) (i : ℕ) (f g : code.Frame) (b : List ℕ) → length fs ≡ i + 1 → f ≡ get_or fs i f →
    AreTaken d at (item (frame_of f ∷ stack_of (take i fs))) b used (item (frame_of g ∷ stack_of (take i fs))) → AreTaken d at (item (stack_of fs)) b used (item (stack_of (set fs i g)))
top_taken d at used fs i f g b len is h =
    subst (λ K. AreTaken d at (item K) b used (item (stack_of (set fs i g)))) (sym (stack_top fs i f len is))
    (subst (λ K. AreTaken d at (item (frame_of f ∷ stack_of (take i fs))) b used (item K)) (sym (stack_replaced fs i g len)) h)

pub taken_then : {T E : Type 0} {P Q : T → Type 0} (r : Result T E) → ((x : T) → P x → Q x) → IfOk r P → IfOk r Q
taken_then (Ok x) f h = f x h
taken_then (Err e) f h = h
