-- Items on a tape, from one to the next.
use Rattle.std.proofs.Common.{◌≡◌, ℕ, ◌+◌, ◌/◌, ◌<◌, List, [], ◌∷◌, ◌++◌, length, get_or, refl, ap, ◌∙◌, subst, arith}
use Rattle.cbor_data.specs.Value.{Value, array, pairs, tag, Values, Pairs, place_count, places, values_places, pairs_places}
use Rattle.cbor_data.specs.Forms.{Form, meaning}
use Rattle.cbor_data.proofs.Lemmas.{form_some}
use Rattle.cbor_tape.specs.declared.entry.Entry.{Entry}
use Rattle.cbor_tape.specs.Places.{AreOn}
use Rattle.cbor_tape.proofs.OfPlaces.Lemmas as sights
use Rattle.cbor_tape.proofs.OfPlaces.Lemmas.{those_on}
use Rattle.tape_notation.specs.Heads.{IsFormAt}
use Rattle.tape_notation.specs.OnTape.{AreMembersOn, ArePairsOn, IsTagOn}
use Rattle.tape_notation.proofs.Forms.{form_here, is_array, is_map, is_tag}

-- an item is where its entry says, in this form
pub record IsHere (b : List ℕ) (t : List Entry) (place : ℕ) (x : Value) (e : Entry) : Type 0 where
  pub within : place < length t
  pub next : e.next ≡ place + place_count x
  pub form : Form
  pub there : IsFormAt b e.head form
  pub meant : x ≡ meaning form
  pub here : e.head < length b
  pub some : 0 < place_count x

pub item_here : (b : List ℕ) (t : List Entry) (place : ℕ) (x : Value) (d : Entry) → AreOn b t place (places x) → IsHere b t place x (get_or t place d)
item_here b t place x d h =
    let e = get_or t place d in
    let s = sights.item_here b t place x d h in
    let f = s.spells.written in
    let there : IsFormAt b e.head f = record { ok = s.spells.ok; after = s.after; is = s.is ∙ ap (λ r. r ++ s.after) s.spells.is } in
    record { within = s.within; next = s.next; form = f; there = there; meant = s.spells.meant; here = form_here b e.head f there (form_some f); some = s.some }

-- what is below an item that has parts

pub members_there : (b : List ℕ) (t : List Entry) (place : ℕ) (x : Value) (e : Entry) → AreOn b t place (places x) → IsHere b t place x e → get_or b e.head 0 / 32 ≡ 4 → (xs : Values) × (x ≡ array xs) × AreMembersOn b t (place + 1) e.next xs
members_there b t place x e on h m =
    let a = is_array b e.head h.form h.there m in
    let xs = a.0 in
    let is : x ≡ array xs = h.meant ∙ a.1 in
    let count : place_count x ≡ place_count (array xs) = ap place_count is in (
      xs,
      is,
      record {
        on = those_on b t place (place + 1) (array xs ∷ []) (values_places xs) refl (subst (λ y. AreOn b t place (places y)) is on);
        counted = omega (arith, h.next, count);
      },
    )

pub pairs_there : (b : List ℕ) (t : List Entry) (place : ℕ) (x : Value) (e : Entry) → AreOn b t place (places x) → IsHere b t place x e → get_or b e.head 0 / 32 ≡ 5 → (ps : Pairs) × (x ≡ pairs ps) × ArePairsOn b t (place + 1) e.next ps
pairs_there b t place x e on h m =
    let a = is_map b e.head h.form h.there m in
    let ps = a.0 in
    let is : x ≡ pairs ps = h.meant ∙ a.1 in
    let count : place_count x ≡ place_count (pairs ps) = ap place_count is in (
      ps,
      is,
      record {
        on = those_on b t place (place + 1) (pairs ps ∷ []) (pairs_places ps) refl (subst (λ y. AreOn b t place (places y)) is on);
        counted = omega (arith, h.next, count);
      },
    )

pub tag_there : (b : List ℕ) (t : List Entry) (place : ℕ) (x : Value) (e : Entry) → AreOn b t place (places x) → IsHere b t place x e → get_or b e.head 0 / 32 ≡ 6 → (n : ℕ) × (y : Value) × (x ≡ tag n y) × IsTagOn b e.head t (place + 1) n y
tag_there b t place x e on h m =
    let a = is_tag b e.head h.form h.there m in
    let n = a.0 in
    let y = a.1 in
    let is : x ≡ tag n y = h.meant ∙ a.3 in (
      n,
      y,
      is,
      record {
        head = a.2;
        on = those_on b t place (place + 1) (tag n y ∷ []) (places y) refl (subst (λ z. AreOn b t place (places z)) is on);
      },
    )
