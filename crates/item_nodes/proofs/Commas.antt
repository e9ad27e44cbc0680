-- The members of a list in diagnostic notation, from some index on.
use Rattle.std.proofs.Common.{◌≡◌, ℕ, zero, suc, ◌+◌, List, [], ◌++◌, refl, sym, ap, ◌∙◌, append_assoc, add-one}
use Rattle.std.specs.Prelude.{codes}
use Rattle.cbor_data.specs.Notation.{notation, members_notation, further_members_notation, pairs_notation, further_pairs_notation}
use Rattle.cbor_data.specs.Value.{Value, Values, no_values, value, Pairs, no_pairs, pair}
use Rattle.item_nodes.specs.Comma.{comma}

abbrev pub members_from : ℕ → Values → List ℕ
members_from zero xs = members_notation xs
members_from (suc i) xs = further_members_notation xs

abbrev pub pairs_from : ℕ → Pairs → List ℕ
pairs_from zero ps = pairs_notation ps
pairs_from (suc i) ps = further_pairs_notation ps

members_from-none : (i : ℕ) → members_from i no_values ≡ []
members_from-none zero = refl
members_from-none (suc i) = refl

pairs_from-none : (i : ℕ) → pairs_from i no_pairs ≡ []
pairs_from-none zero = refl
pairs_from-none (suc i) = refl

members_from-value : (i : ℕ) (x : Value) (xs : Values) → members_from i (value x xs) ≡ comma i ++ (notation x ++ members_from (suc i) xs)
members_from-value zero x xs = refl
members_from-value (suc i) x xs = refl

pairs_from-pair : (i : ℕ) (k v : Value) (ps : Pairs) → pairs_from i (pair k v ps) ≡ comma i ++ (notation k ++ (codes ": " ++ (notation v ++ pairs_from (suc i) ps)))
pairs_from-pair zero k v ps = refl
pairs_from-pair (suc i) k v ps = refl

-- a member more is shown
pub member_shown : (i : ℕ) (x : Value) (xs : Values) (end all out mid new : List ℕ) → out ++ (members_from i (value x xs) ++ end) ≡ all →
    mid ≡ out ++ comma i → new ≡ mid ++ notation x → new ++ (members_from (i + 1) xs ++ end) ≡ all
member_shown i x xs end all out mid new h e f =
    rw (add-one, f, e)
    (append_assoc (out ++ comma i) (notation x) _ ∙ append_assoc out (comma i) _
    ∙ ap (λ r. out ++ r) (ap (λ r. comma i ++ r) (sym (append_assoc (notation x) (members_from (suc i) xs) end)) ∙ sym (append_assoc (comma i) _ end) ∙ ap (λ r. r ++ end) (sym (members_from-value i x xs)))
    ∙ h)

-- a pair more is shown
pub pair_shown : (i : ℕ) (k v : Value) (ps : Pairs) (end all out mid keyed parted new : List ℕ) → out ++ (pairs_from i (pair k v ps) ++ end) ≡ all →
    mid ≡ out ++ comma i → keyed ≡ mid ++ notation k → parted ≡ keyed ++ codes ": " → new ≡ parted ++ notation v → new ++ (pairs_from (i + 1) ps ++ end) ≡ all
pair_shown i k v ps end all out mid keyed parted new h e f g j =
    let whole : (comma i ++ (notation k ++ (codes ": " ++ (notation v ++ pairs_from (suc i) ps)))) ++ end ≡ comma i ++ (notation k ++ (codes ": " ++ (notation v ++ (pairs_from (suc i) ps ++ end)))) = simp append_assoc in
    let parts : ((((out ++ comma i) ++ notation k) ++ codes ": ") ++ notation v) ++ (pairs_from (suc i) ps ++ end) ≡ out ++ (comma i ++ (notation k ++ (codes ": " ++ (notation v ++ (pairs_from (suc i) ps ++ end))))) = simp append_assoc in
    rw (add-one, j, g, f, e) (parts ∙ ap (λ r. out ++ r) (sym whole ∙ ap (λ r. r ++ end) (sym (pairs_from-pair i k v ps))) ∙ h)

-- none is left
pub members_shown : (i : ℕ) (end all out new : List ℕ) → out ++ (members_from i no_values ++ end) ≡ all → new ≡ out ++ end → new ≡ all
members_shown i end all out new h e = e ∙ ap (λ r. out ++ (r ++ end)) (sym (members_from-none i)) ∙ h

pub pairs_shown : (i : ℕ) (end all out new : List ℕ) → out ++ (pairs_from i no_pairs ++ end) ≡ all → new ≡ out ++ end → new ≡ all
pairs_shown i end all out new h e = e ∙ ap (λ r. out ++ (r ++ end)) (sym (pairs_from-none i)) ∙ h
