-- What is put is the notation of the item at a place.
use Rattle.std.proofs.Common.{◌≡◌, ℕ, ◌+◌, ◌/◌, List, get_or, sym, ap}
use Rattle.cbor_data.specs.Forms.{Form, meaning}
use Rattle.cbor_data.specs.Notation.{notation}
use Rattle.cbor_data.specs.Value.{Value, array, pairs, tag, Values, Pairs, places}
use Rattle.cbor_tape.specs.declared.entry.Entry.{Entry}
use Rattle.tape_notation.specs.Heads.{HasForm, IsFormAt}
use Rattle.cbor_tape.specs.Places.{AreOn}
use Rattle.tape_notation.specs.OnTape.{AreMembersOn, ArePairsOn, HasItem, HasMembers, HasPairs, HasTag, IsTagOn}
use Rattle.tape_notation.specs.Put.{IsPut}
use Rattle.tape_notation.proofs.OnTape.{IsHere, item_here, members_there, pairs_there, tag_there}
use Rattle.tape_notation.proofs.Puts.{room_for, same_put}

abbrev pub IsItemPut : List ℕ → List Entry → ℕ → List ℕ → List ℕ → ℕ → ℕ → Type 0
IsItemPut b t place old new at end = (x : Value) → AreOn b t place (places x) → IsPut old new at (notation x) end

-- the item that is surely there is where its entry says
pub surely_here : (b : List ℕ) (t : List Entry) (place at len : ℕ) (d : Entry) → (h : HasItem b t place at len) → IsHere b t place h.item (get_or t place d)
surely_here b t place at len d h = item_here b t place h.item d h.on

pub form_on : (b : List ℕ) (t : List Entry) (place at len : ℕ) (d : Entry) → HasItem b t place at len → HasForm b (get_or t place d).head at len
form_on b t place at len d h =
    let i = surely_here b t place at len d h in
    record { form = i.form; there = i.there; room = room_for at len (notation h.item) (notation (meaning i.form)) (ap notation i.meant) h.room }

pub leaf_on : (b : List ℕ) (t : List Entry) (place : ℕ) (d : Entry) (old new : List ℕ) (at end : ℕ) → ((f : Form) → IsFormAt b (get_or t place d).head f → IsPut old new at (notation (meaning f)) end) → IsItemPut b t place old new at end
leaf_on b t place d old new at end p x on =
    let h = item_here b t place x d on in
    same_put (notation (meaning h.form)) (notation x) (ap notation (sym h.meant)) (p h.form h.there)

pub has_members : (b : List ℕ) (t : List Entry) (place at len : ℕ) (d : Entry) → HasItem b t place at len → get_or b (get_or t place d).head 0 / 32 ≡ 4 → HasMembers b t (place + 1) (get_or t place d).next at len
has_members b t place at len d h m =
    let a = members_there b t place h.item (get_or t place d) h.on (surely_here b t place at len d h) m in
    record { members = a.0; on = a.2; room = room_for at len (notation h.item) (notation (array a.0)) (ap notation a.1) h.room }

pub array_on : (b : List ℕ) (t : List Entry) (place : ℕ) (d : Entry) (old new : List ℕ) (at end : ℕ) → get_or b (get_or t place d).head 0 / 32 ≡ 4 →
    ((xs : Values) → AreMembersOn b t (place + 1) (get_or t place d).next xs → IsPut old new at (notation (array xs)) end) → IsItemPut b t place old new at end
array_on b t place d old new at end m p x on =
    let a = members_there b t place x (get_or t place d) on (item_here b t place x d on) m in
    same_put (notation (array a.0)) (notation x) (ap notation (sym a.1)) (p a.0 a.2)

pub has_pairs : (b : List ℕ) (t : List Entry) (place at len : ℕ) (d : Entry) → HasItem b t place at len → get_or b (get_or t place d).head 0 / 32 ≡ 5 → HasPairs b t (place + 1) (get_or t place d).next at len
has_pairs b t place at len d h m =
    let a = pairs_there b t place h.item (get_or t place d) h.on (surely_here b t place at len d h) m in
    record { all = a.0; on = a.2; room = room_for at len (notation h.item) (notation (pairs a.0)) (ap notation a.1) h.room }

pub map_on : (b : List ℕ) (t : List Entry) (place : ℕ) (d : Entry) (old new : List ℕ) (at end : ℕ) → get_or b (get_or t place d).head 0 / 32 ≡ 5 →
    ((ps : Pairs) → ArePairsOn b t (place + 1) (get_or t place d).next ps → IsPut old new at (notation (pairs ps)) end) → IsItemPut b t place old new at end
map_on b t place d old new at end m p x on =
    let a = pairs_there b t place x (get_or t place d) on (item_here b t place x d on) m in
    same_put (notation (pairs a.0)) (notation x) (ap notation (sym a.1)) (p a.0 a.2)

pub has_tag : (b : List ℕ) (t : List Entry) (place at len : ℕ) (d : Entry) → HasItem b t place at len → get_or b (get_or t place d).head 0 / 32 ≡ 6 → HasTag b (get_or t place d).head t (place + 1) at len
has_tag b t place at len d h m =
    let a = tag_there b t place h.item (get_or t place d) h.on (surely_here b t place at len d h) m in
    record { number = a.0; content = a.1; on = a.3; room = room_for at len (notation h.item) (notation (tag a.0 a.1)) (ap notation a.2) h.room }

pub tag_on : (b : List ℕ) (t : List Entry) (place : ℕ) (d : Entry) (old new : List ℕ) (at end : ℕ) → get_or b (get_or t place d).head 0 / 32 ≡ 6 →
    ((n : ℕ) (x : Value) → IsTagOn b (get_or t place d).head t (place + 1) n x → IsPut old new at (notation (tag n x)) end) → IsItemPut b t place old new at end
tag_on b t place d old new at end m p x on =
    let a = tag_there b t place x (get_or t place d) on (item_here b t place x d on) m in
    same_put (notation (tag a.0 a.1)) (notation x) (ap notation (sym a.2)) (p a.0 a.1 a.3)
