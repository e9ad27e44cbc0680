-- A set of the bytes of keys.
use Rattle.std.proofs.Common.{◌≡◌, ℕ, List, [], ◌∷◌, Bool, true, false, ◌||◌, refl, sym, ap, ◌∙◌}
use Rattle.std.specs.BTreeSet.{insert_key}
use Rattle.std.specs.BTreeMap.{is_at}
use Rattle.std.specs.Cmp.Lexicographic.{slice_cmp}
use Rattle.std.specs.Ordering.{nat_cmp, is_eq, match_ordering}
use Rattle.std.specs.List.{list_any}
use Rattle.std.specs.Str.{bytes_eq}
use Rattle.std.specs.declared.cmp.Ordering.{Ordering}
use Rattle.std.specs.declared.cmp.Ordering.TheVariants.{Less, Equal, Greater}
use Rattle.std.specs.declared.vec.Vec.{Vec}
use Rattle.std.specs.declared.alloc.Global.{Global}
use Rattle.std.proofs.lemmas.Map.Lookups.{exact_bytes}
use Rattle.std.proofs.lemmas.Map.Text.{is_eq-slice_cmp}
use Rattle.cbor_item.proofs.Keys.{or_swap}

abbrev items_cmp : Vec ℕ Global → Vec ℕ Global → Ordering
items_cmp x y = slice_cmp nat_cmp x.items y.items

-- whether one of the keys has these bytes
abbrev has_among : List (Vec ℕ Global) → List ℕ → Bool
has_among ks bytes = list_any (is_at (λ (k : Vec ℕ Global). slice_cmp nat_cmp bytes k.items)) ks

or_again : (b r : Bool) → (b || r) ≡ (b || (b || r))
or_again true r = refl
or_again false r = refl

at_key : (bytes : List ℕ) (k : Vec ℕ Global) → is_eq (slice_cmp nat_cmp bytes k.items) ≡ bytes_eq bytes k.items
at_key bytes k = is_eq-slice_cmp bytes k.items

inserted_at : (o : Ordering) (x k : Vec ℕ Global) (xs : List (Vec ℕ Global)) (bytes : List ℕ) → o ≡ items_cmp k x →
    has_among (insert_key items_cmp xs k) bytes ≡ (bytes_eq bytes k.items || has_among xs bytes) →
    has_among (match_ordering o (k ∷ (x ∷ xs)) (x ∷ xs) (x ∷ insert_key items_cmp xs k)) bytes ≡ (bytes_eq bytes k.items || has_among (x ∷ xs) bytes)
inserted_at Less x k xs bytes e rest = ap (λ b. b || has_among (x ∷ xs) bytes) (at_key bytes k)
inserted_at Equal x k xs bytes e rest =
    let same : k.items ≡ x.items = exact_bytes k.items x.items (sym e) in
    let at : is_eq (slice_cmp nat_cmp bytes x.items) ≡ bytes_eq bytes k.items = at_key bytes x ∙ ap (bytes_eq bytes) (sym same) in
    ap (λ b. b || has_among xs bytes) at ∙ or_again (bytes_eq bytes k.items) (has_among xs bytes) ∙ ap (λ b. bytes_eq bytes k.items || (b || has_among xs bytes)) (sym at)
inserted_at Greater x k xs bytes e rest =
    ap (λ r. is_eq (slice_cmp nat_cmp bytes x.items) || r) rest ∙ or_swap (is_eq (slice_cmp nat_cmp bytes x.items)) (bytes_eq bytes k.items) (has_among xs bytes)

-- what the set has with one key more
pub has-insert : (ks : List (Vec ℕ Global)) (k : Vec ℕ Global) (bytes : List ℕ) →
    list_any (is_at (λ (x : Vec ℕ Global). slice_cmp nat_cmp bytes x.items)) (insert_key (λ (x y : Vec ℕ Global). slice_cmp nat_cmp x.items y.items) ks k) ≡ (bytes_eq bytes k.items || list_any (is_at (λ (x : Vec ℕ Global). slice_cmp nat_cmp bytes x.items)) ks)
has-insert [] k bytes = ap (λ b. b || false) (at_key bytes k)
has-insert (x ∷ xs) k bytes = inserted_at (items_cmp k x) x k xs bytes refl (has-insert xs k bytes)
