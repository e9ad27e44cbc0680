-- What a reader rests on: what is built is the value of each form that prints the bytes.
use Rattle.std.proofs.Common.{◌≡◌, ℕ, suc, ◌+◌, ◌≤◌, inl, inr, List, [], ◌∷◌, ◌++◌, length, Option, Some, None, option_and_then, refl, sym, ap, ap₂, ◌∙◌, subst, arith, append-nil}
use Rattle.cbor_data.specs.Value.{Value, AreBytes}
use Rattle.cbor_data.specs.Forms.{Form, flat, IsOk, HasText, meaning}
use Rattle.cbor_data.specs.Faults.{IsBadTextAt}
use Rattle.cbor_data.specs.Machine.Machine as machine
use Rattle.cbor_data.specs.Machine.Reads.{LeadsWithin}
use Rattle.cbor_data.proofs.OfMachine.Lemmas.{bytes-append}
use Rattle.read_building.specs.Building.{State, item, argument, string, bits, chunk, chunk_argument, chunk_string, simple_value, done, Text, ended, step_in, steps, steps_in, form_of, form_reached}
use Rattle.read_building.specs.Texts.{AreTexts, IsFirstBad, texts_of}
use Rattle.read_building.specs.Builds.{IsRun, IsBadRun, Builds, Notes}
use Rattle.read_building.specs.Counts.{held, open_in, open_form, opened}
use Rattle.read_building.proofs.Forms.{form_of-steps_in, frames_of-length}
use Rattle.read_building.proofs.Forward.{forward}
use Rattle.read_building.proofs.Texts.{hold, bad, ended_bad}
use Rattle.read_building.proofs.Counts.{restricts, held-steps_in, open-steps_in}

-- what the bounded machine does the other does too
pub restricts_all : (d : ℕ) (b : List ℕ) (at : ℕ) (T : List Text) (s : State) (r : List Text × State) → steps_in d at T s b ≡ Some r → steps at T s b ≡ Some r
restricts_all d [] at T s r e = e
restricts_all d (x ∷ b) at T s r e = on (step_in d at s x) refl e (λ u. restricts_all d b (suc at) (ended s x T) u r)
  where
    on : (o : Option State) → step_in d at s x ≡ o → option_and_then (λ u. steps_in d (suc at) (ended s x T) u b) o ≡ Some r → ((u : State) → steps_in d (suc at) (ended s x T) u b ≡ Some r → steps (suc at) (ended s x T) u b ≡ Some r) → steps at T s (x ∷ b) ≡ Some r
    on None f g rest = absurd (cc)
    on (Some u) f g rest = ap (option_and_then (λ v. steps (suc at) (ended s x T) v b)) (restricts d at s u x f) ∙ rest u g

-- one run after another
pub steps_in-append : (d : ℕ) (a b : List ℕ) (at : ℕ) (T : List Text) (s : State) (r : List Text × State) (u : Option (List Text × State)) → steps_in d at T s a ≡ Some r → steps_in d (at + length a) r.0 r.1 b ≡ u → steps_in d at T s (a ++ b) ≡ u
steps_in-append d [] b at T s r u e f =
    let same : (T, s) ≡ r = ap (λ (o : Option (List Text × State)). pair_or o) e in
    ap₂ (λ n (q : List Text × State). steps_in d n q.0 q.1 b) (omega arith) same ∙ f
  where
    pair_or : Option (List Text × State) → List Text × State
    pair_or None = (T, s)
    pair_or (Some q) = q
steps_in-append d (x ∷ a) b at T s r u e f =
    on (step_in d at s x) refl e (λ v g. steps_in-append d a b (suc at) (ended s x T) v r u g (ap (λ n. steps_in d n r.0 r.1 b) (omega arith) ∙ f))
  where
    on : (o : Option State) → step_in d at s x ≡ o → option_and_then (λ v. steps_in d (suc at) (ended s x T) v a) o ≡ Some r → ((v : State) → steps_in d (suc at) (ended s x T) v a ≡ Some r → steps_in d (suc at) (ended s x T) v (a ++ b) ≡ u) →
        steps_in d at T s (x ∷ (a ++ b)) ≡ u
    on None g h rest = absurd (cc)
    on (Some v) g h rest = ap (option_and_then (λ v. steps_in d (suc at) (ended s x T) v (a ++ b))) g ∙ rest v h

-- the state of the form
pub builds_leads : (d o : ℕ) (b : List ℕ) (s : State) → Builds d o b s → LeadsWithin d b (form_of s)
builds_leads d o b s h = record { are = h.are; is = sym (form_of-steps_in d o [] (item []) b) ∙ ap form_reached h.run.is }

pub notes_leads : (d o : ℕ) (b : List ℕ) (m : machine.State) (place : ℕ) → Notes d o b m place → LeadsWithin d b m
notes_leads d o b m place h = record { are = h.are; is = (sym (form_of-steps_in d o [] (item []) b) ∙ ap form_reached h.run.is) ∙ ap Some h.form }

-- the two counts
pub builds_open : (d o : ℕ) (b : List ℕ) (s : State) → Builds d o b s → open_in s ≤ d
builds_open d o b s h = open-steps_in d b o [] h.run.told (item []) s (omega arith) h.run.is

pub builds_held : (d o : ℕ) (b : List ℕ) (s : State) → Builds d o b s → held s ≤ length b
builds_held d o b s h = let all = held-steps_in d b o [] h.run.told (item []) s h.run.is in omega arith

open_of : (s : State) → open_form (form_of s) ≡ open_in s
open_of (item K) = frames_of-length K
open_of (argument from m k n K) = ap (opened m) (frames_of-length K)
open_of (string from m k s K) = frames_of-length K
open_of (bits w k n K) = frames_of-length K
open_of (chunk m s K) = frames_of-length K
open_of (chunk_argument from m k n s K) = frames_of-length K
open_of (chunk_string from m k s c K) = frames_of-length K
open_of (simple_value K) = frames_of-length K
open_of (done x) = refl

pub notes_open : (d o : ℕ) (b : List ℕ) (m : machine.State) (place : ℕ) → Notes d o b m place → open_form m ≤ d
notes_open d o b m place h =
    let few : open_in h.state ≤ d = open-steps_in d b o [] h.run.told (item []) h.state (omega arith) h.run.is in
    subst (λ n. open_form n ≤ d) h.form (subst (λ n. n ≤ d) (sym (open_of h.state)) few)

pub nothing_built : (d o : ℕ) → Builds d o [] (item [])
nothing_built d o = record { are = tt; run = record { told = []; is = refl; utf8 = tt } }

-- more bytes
pub builds_on : (d o : ℕ) (b c : List ℕ) (s t : State) → Builds d o b s → AreBytes c → IsRun d (o + length b) s c t → Builds d o (b ++ c) t
builds_on d o b c s t h bytes run =
    let next = run h.run.told h.run.utf8 in
    record {
      are = bytes-append b c h.are bytes;
      run = record { told = next.told; is = steps_in-append d b c o [] (item []) (h.run.told, s) (Some (next.told, t)) h.run.is next.is; utf8 = next.utf8 };
    }

pub builds_bad : (d o : ℕ) (b c : List ℕ) (s t : State) (place : ℕ) → Builds d o b s → AreBytes c → IsBadRun d (o + length b) s c t place → Notes d o (b ++ c) (form_of t) place
builds_bad d o b c s t place h bytes run =
    let next = run h.run.told h.run.utf8 in
    record {
      are = bytes-append b c h.are bytes;
      state = t;
      run = record { told = next.told; is = steps_in-append d b c o [] (item []) (h.run.told, s) (Some (next.told, t)) h.run.is next.is; bad = next.bad };
      form = refl;
    }

-- after bad text the form alone is followed

record GoesOn (d at : ℕ) (T : List Text) (s : State) (c : List ℕ) (m : machine.State) : Type 0 where
  pub told : List Text
  pub state : State
  pub is : steps_in d at T s c ≡ Some (told, state)
  pub form : form_of state ≡ m
  pub kept : (i : ℕ) → IsFirstBad T i → IsFirstBad told i

pub reached : (o : Option (List Text × State)) (m : machine.State) → form_reached o ≡ Some m → (r : List Text × State) × (o ≡ Some r) × (form_of r.1 ≡ m)
reached None m e = absurd (cc)
reached (Some r) m e = (r, refl, (let f : form_of r.1 ≡ m = cc in f))

kept_all : (d : ℕ) (c : List ℕ) (at : ℕ) (T U : List Text) (s t : State) (i : ℕ) → steps_in d at T s c ≡ Some (U, t) → IsFirstBad T i → IsFirstBad U i
kept_all d [] at T U s t i e h = let same : T ≡ U = ap (λ (o : Option (List Text × State)). texts_or o) e in subst (λ V. IsFirstBad V i) same h
  where
    texts_or : Option (List Text × State) → List Text
    texts_or None = T
    texts_or (Some q) = q.0
kept_all d (x ∷ c) at T U s t i e h = on (step_in d at s x) refl e (λ u g. kept_all d c (suc at) (ended s x T) U u t i g (ended_bad s x T i h))
  where
    on : (o : Option State) → step_in d at s x ≡ o → option_and_then (λ u. steps_in d (suc at) (ended s x T) u c) o ≡ Some (U, t) → ((u : State) → steps_in d (suc at) (ended s x T) u c ≡ Some (U, t) → IsFirstBad U i) → IsFirstBad U i
    on None f g rest = absurd (cc)
    on (Some u) f g rest = rest u g

pub notes_on : (d o : ℕ) (b c : List ℕ) (m n : machine.State) (place : ℕ) → Notes d o b m place → AreBytes c → machine.steps_in d m c ≡ Some n → Notes d o (b ++ c) n place
notes_on d o b c m n place h bytes e =
    let r = reached (steps_in d (o + length b) h.run.told h.state c) n (form_of-steps_in d (o + length b) h.run.told h.state c ∙ (ap (λ k. machine.steps_in d k c) h.form ∙ e)) in
    record {
      are = bytes-append b c h.are bytes;
      state = r.0.1;
      run = record { told = r.0.0; is = steps_in-append d b c o [] (item []) (h.run.told, h.state) (Some r.0) h.run.is r.1; bad = kept_all d c (o + length b) h.run.told r.0.0 h.state r.0.1 place r.1 h.run.bad };
      form = r.2;
    }

-- where the item is whole

runs : (o : ℕ) (b : List ℕ) (f : Form) → IsOk f → b ≡ flat f → steps o [] (item []) b ≡ Some (texts_of o f [], done (meaning f))
runs o b f ok is = ap (steps o [] (item [])) (is ∙ sym (append-nil (flat f))) ∙ forward f o [] [] [] ok

-- what was built is the meaning of each form that prints the bytes, and each text chunk of it is UTF-8
pub built : (d o : ℕ) (b : List ℕ) (x : Value) → Builds d o b (done x) → (f : Form) → IsOk f → b ≡ flat f → HasText f × (x ≡ meaning f)
built d o b x h f ok is =
    let e : Some (h.run.told, done x) ≡ Some (texts_of o f [], done (meaning f)) = sym (restricts_all d b o [] (item []) (h.run.told, done x) h.run.is) ∙ runs o b f ok is in (
      (hold f o [] (subst AreTexts (ap (λ (q : Option (List Text × State)). texts_or q) e) h.run.utf8)).0,
      ap (λ (q : Option (List Text × State)). value_or q) e,
    )
  where
    texts_or : Option (List Text × State) → List Text
    texts_or None = []
    texts_or (Some q) = q.0

    value_in : State → Value
    value_in (done y) = y
    value_in _ = x

    value_or : Option (List Text × State) → Value
    value_or None = x
    value_or (Some q) = value_in q.1

-- the place that was noted is that of the first bad text of each form that prints the bytes
pub noted : (d o : ℕ) (b : List ℕ) (place : ℕ) → Notes d o b machine.done place → (f : Form) → IsOk f → b ≡ flat f → (i : ℕ) × (place ≡ o + i) × IsBadTextAt f i
noted d o b place h f ok is =
    let e : Some (h.run.told, h.state) ≡ Some (texts_of o f [], done (meaning f)) = sym (restricts_all d b o [] (item []) (h.run.told, h.state) h.run.is) ∙ runs o b f ok is in
    elim (bad f o [] place (subst (λ T. IsFirstBad T place) (ap (λ (q : Option (List Text × State)). texts_or q) e) h.run.bad)) [
      | inl g ↦ absurd g
      | inr g ↦ (g.1, g.2, g.3)
    ]
  where
    texts_or : Option (List Text × State) → List Text
    texts_or None = []
    texts_or (Some q) = q.0
