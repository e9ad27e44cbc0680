-- What a group takes: nothing, which its form is to allow, or some items.
use Rattle.std.proofs.Common.{◌≡◌, ℕ, ◌<◌, ◌⊎◌, inl, inr, length, List, ◌∷◌, ap, ◌∙◌, arith}
use Rattle.cbor_data.specs.Value.{Value}
use Rattle.cddl_meaning.specs.Judges.{Reply, Takes, Fails}
use Rattle.cddl_meaning.specs.Size.{list_size}
use Rattle.cddl_meaning.proofs.Lemmas.{size_some}

-- fewer items, of a smaller size
abbrev pub IsShorter : List Value → List Value → Type 0
IsShorter left xs = (list_size left < list_size xs) × (length left < length xs)

-- nothing is taken, which this allows; or something is
abbrev pub IsBehind : Type 0 → List Value → List Value → Type 0
IsBehind Empty left xs = (Empty × (left ≡ xs)) ⊎ IsShorter left xs

abbrev pub TakesWell : Type 0 → List Value → Reply → Type 0
TakesWell Empty xs (Takes left b far) = IsBehind Empty left xs
TakesWell Empty xs (Fails far) = Unit {0}

abbrev pub AnyReply : Reply → Type 0
AnyReply r = Unit {0}

pub takes_as : (E F : Type 0) → (E → F) → (xs : List Value) (r : Reply) → TakesWell E xs r → TakesWell F xs r
takes_as E F f xs (Takes left b far) (inl h) = inl (f h.0, h.1)
takes_as E F f xs (Takes left b far) (inr h) = inr h
takes_as E F f xs (Fails far) h = tt

-- more is taken from what was left
pub takes_more : (E F : Type 0) (xs left : List Value) (r : Reply) → IsBehind E left xs → TakesWell F left r → TakesWell (E × F) xs r
takes_more E F xs left (Takes more b far) (inl h) (inl i) = inl ((h.0, i.0), i.1 ∙ h.1)
takes_more E F xs left (Takes more b far) (inl h) (inr i) = inr (omega (arith, i.0, ap list_size h.1), omega (arith, i.1, ap (λ ys. length ys) h.1))
takes_more E F xs left (Takes more b far) (inr h) (inl i) = inr (omega (arith, h.0, ap list_size i.1), omega (arith, h.1, ap (λ ys. length ys) i.1))
takes_more E F xs left (Takes more b far) (inr h) (inr i) = inr (omega (arith, h.0, i.0), omega (arith, h.1, i.1))
takes_more E F xs left (Fails far) h i = tt

-- after what is shorter nothing is as long
pub takes_less : (E F : Type 0) (xs left : List Value) (r : Reply) → IsShorter left xs → TakesWell F left r → TakesWell E xs r
takes_less E F xs left (Takes more b far) h (inl i) = inr (omega (arith, h.0, ap list_size i.1), omega (arith, h.1, ap (λ ys. length ys) i.1))
takes_less E F xs left (Takes more b far) h (inr i) = inr (omega (arith, h.0, i.0), omega (arith, h.1, i.1))
takes_less E F xs left (Fails far) h i = tt

pub entry_takes : (E : Type 0) (x : Value) (xs : List Value) (b far : ℕ) → TakesWell E (x ∷ xs) (Takes xs b far)
entry_takes E x xs b far = inr (omega (arith, size_some x), omega arith)
