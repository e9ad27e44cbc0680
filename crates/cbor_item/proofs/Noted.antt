-- What a map from keys to values holds, as bytes.
use Rattle.std.proofs.Common.{◌≡◌, ℕ, List, [], ◌∷◌, Bool, true, false, ◌||◌, Option, Some, cond, refl, ap, ap₂, ◌∙◌}
use Rattle.std.specs.BTreeMap.{insert_entry, is_at}
use Rattle.std.specs.Map.{lookup}
use Rattle.std.specs.Option.{is_some}
use Rattle.std.specs.Cmp.Lexicographic.{slice_cmp}
use Rattle.std.specs.Ordering.{nat_cmp, is_eq, match_ordering}
use Rattle.std.specs.declared.cmp.Ordering.{Ordering}
use Rattle.std.specs.declared.cmp.Ordering.TheVariants.{Less, Equal, Greater}
use Rattle.std.specs.declared.vec.Vec.{Vec}
use Rattle.std.specs.declared.alloc.Global.{Global}
use Rattle.std.proofs.lemmas.Map.Text.{is_eq-slice_cmp}
use Rattle.cbor_item.specs.Laying.{has_key, seen_entries}

there : {X : Type 0} (b : Bool) (x : X) (o : Option X) → is_some (cond b (Some x) o) ≡ (b || is_some o)
there true x o = refl
there false x o = refl

pub noted_key : (bytes : List ℕ) (es : List (Vec ℕ Global × Vec ℕ Global)) → is_some (lookup (is_at (λ (k : Vec ℕ Global). slice_cmp nat_cmp bytes k.items)) es) ≡ has_key bytes (seen_entries es)
noted_key bytes [] = refl
noted_key bytes (e ∷ es) =
    there (is_eq (slice_cmp nat_cmp bytes (e.0).items)) e.1 (lookup (is_at (λ (k : Vec ℕ Global). slice_cmp nat_cmp bytes k.items)) es)
    ∙ ap₂ (λ a b. a || b) (is_eq-slice_cmp bytes (e.0).items) (noted_key bytes es)

abbrev vecs_cmp : Vec ℕ Global → Vec ℕ Global → Ordering
vecs_cmp x y = slice_cmp nat_cmp x.items y.items

seen_at : (o : Ordering) (k v : Vec ℕ Global) (e : Vec ℕ Global × Vec ℕ Global) (es : List (Vec ℕ Global × Vec ℕ Global)) → seen_entries (insert_entry vecs_cmp es k v) ≡ insert_entry (slice_cmp nat_cmp) (seen_entries es) k.items v.items →
    seen_entries (match_ordering o ((k, v) ∷ e ∷ es) ((e.0, v) ∷ es) (e ∷ insert_entry vecs_cmp es k v))
    ≡ match_ordering o ((k.items, v.items) ∷ seen_entries (e ∷ es)) (((e.0).items, v.items) ∷ seen_entries es) (((e.0).items, (e.1).items) ∷ insert_entry (slice_cmp nat_cmp) (seen_entries es) k.items v.items)
seen_at Less k v e es h = refl
seen_at Equal k v e es h = refl
seen_at Greater k v e es h = ap (λ fs. ((e.0).items, (e.1).items) ∷ fs) h

pub seen_insert : (es : List (Vec ℕ Global × Vec ℕ Global)) (k v : Vec ℕ Global) → seen_entries (insert_entry vecs_cmp es k v) ≡ insert_entry (slice_cmp nat_cmp) (seen_entries es) k.items v.items
seen_insert [] k v = refl
seen_insert (e ∷ es) k v = seen_at (vecs_cmp k e.0) k v e es (seen_insert es k v)
