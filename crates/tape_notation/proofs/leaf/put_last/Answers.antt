use Rattle.std.proofs.Common.{◌≡◌, ◌+◌, ◌-◌, ◌/◌, ◌%◌, ◌++◌, length, get_or, take, drop, sym, ap, ◌∙◌, arith}
use Rattle.std.specs.Prelude.{codes}
use Rattle.hex.specs.Hex.{encode_lower}
use Rattle.cbor_data.specs.Forms.{meaning}
use Rattle.cbor_data.specs.Notation.{notation, simple_notation}
use Rattle.tape_notation.proofs.Forms.{double_there, form_within, half_there, inside_there, next_there, single_there}
use Rattle.tape_notation.proofs.Puts.{forms_put, room_for}
use Rattle.tape_notation.proofs.leaf.put_last.Goals as goal

pub bounds-bytes-head : goal.bounds-bytes-head
bounds-bytes-head c = let w = c.requires.there in form_within c.args.bytes.now c.args.head w.form w.there

pub bounds-bytes-content : goal.bounds-bytes-content
bounds-bytes-content c =
    let w = c.requires.there in
    let b = c.args.bytes.now in
    let major : get_or b c.args.head 0 / 32 ≡ 7 = omega (arith, c.requires.last, c.type_inv.bytes c.args.head) in
    (next_there b c.args.head w.form w.there major c.in-24.is).0

pub slice_bounds-put_float-end-in-25 : goal.slice_bounds-put_float-end-in-25
slice_bounds-put_float-end-in-25 c =
    let w = c.requires.there in
    let b = c.args.bytes.now in
    let major : get_or b c.args.head 0 / 32 ≡ 7 = omega (arith, c.requires.last, c.type_inv.bytes c.args.head) in
    (half_there b c.args.head w.form w.there major c.in-25.is).1

pub slice_bounds-put_float-end-in-26-2 : goal.slice_bounds-put_float-end-in-26-2
slice_bounds-put_float-end-in-26-2 c =
    let w = c.requires.there in
    let b = c.args.bytes.now in
    let major : get_or b c.args.head 0 / 32 ≡ 7 = omega (arith, c.requires.last, c.type_inv.bytes c.args.head) in
    (single_there b c.args.head w.form w.there major c.in-26.is).1

pub slice_bounds-put_float-end-in-27-2 : goal.slice_bounds-put_float-end-in-27-2
slice_bounds-put_float-end-in-27-2 c =
    let w = c.requires.there in
    let b = c.args.bytes.now in
    let major : get_or b c.args.head 0 / 32 ≡ 7 = omega (arith, c.requires.last, c.type_inv.bytes c.args.head) in
    (double_there b c.args.head w.form w.there major c.in-27.is).1

pub returns-in-24 : goal.returns-in-24
returns-in-24 c =
    let b = c.args.bytes.now in
    let major : get_or b c.args.head 0 / 32 ≡ 7 = omega (arith, c.requires.last, c.type_inv.bytes c.args.head) in
    forms_put b c.args.head c.args.out.now c.put_simple.new.out c.args.at c.put_simple.result (simple_notation (get_or b (c.args.head + 1) 0)) (λ f h. ap notation (sym (next_there b c.args.head f h major c.in-24.is).1)) c.put_simple.ensures

pub returns-in-25 : goal.returns-in-25
returns-in-25 c =
    let b = c.args.bytes.now in
    let head = c.args.head in
    let major : get_or b head 0 / 32 ≡ 7 = omega (arith, c.requires.last, c.type_inv.bytes head) in
    let same : ((head + 1) + 2) - (head + 1) ≡ 2 = omega arith in
    forms_put b head c.args.out.now c.put_float.new.out c.args.at c.put_float.result (codes "f16'" ++ (encode_lower (take (((head + 1) + 2) - (head + 1)) (drop (head + 1) b)) ++ codes "'")) (λ f h.
    let u = half_there b head f h major c.in-25.is in
    ap (λ r. codes "f16'" ++ (encode_lower r ++ codes "'")) (ap (λ k. take k (drop (head + 1) b)) same ∙ u.2) ∙ ap notation (sym u.3)) c.put_float.ensures

pub returns-in-26 : goal.returns-in-26
returns-in-26 c =
    let b = c.args.bytes.now in
    let head = c.args.head in
    let major : get_or b head 0 / 32 ≡ 7 = omega (arith, c.requires.last, c.type_inv.bytes head) in
    let same : ((head + 1) + 4) - (head + 1) ≡ 4 = omega arith in
    forms_put b head c.args.out.now c.put_float-in-26.new.out c.args.at c.put_float-in-26.result (codes "f32'" ++ (encode_lower (take (((head + 1) + 4) - (head + 1)) (drop (head + 1) b)) ++ codes "'")) (λ f h.
    let u = single_there b head f h major c.in-26.is in
    ap (λ r. codes "f32'" ++ (encode_lower r ++ codes "'")) (ap (λ k. take k (drop (head + 1) b)) same ∙ u.2) ∙ ap notation (sym u.3)) c.put_float-in-26.ensures

pub returns-in-27 : goal.returns-in-27
returns-in-27 c =
    let b = c.args.bytes.now in
    let head = c.args.head in
    let major : get_or b head 0 / 32 ≡ 7 = omega (arith, c.requires.last, c.type_inv.bytes head) in
    let same : ((head + 1) + 8) - (head + 1) ≡ 8 = omega arith in
    forms_put b head c.args.out.now c.put_float-in-27.new.out c.args.at c.put_float-in-27.result (codes "f64'" ++ (encode_lower (take (((head + 1) + 8) - (head + 1)) (drop (head + 1) b)) ++ codes "'")) (λ f h.
    let u = double_there b head f h major c.in-27.is in
    ap (λ r. codes "f64'" ++ (encode_lower r ++ codes "'")) (ap (λ k. take k (drop (head + 1) b)) same ∙ u.2) ∙ ap notation (sym u.3)) c.put_float-in-27.ensures

pub returns-in_default : goal.returns-in_default
returns-in_default c =
    let b = c.args.bytes.now in
    let head = c.args.head in
    let major : get_or b head 0 / 32 ≡ 7 = omega (arith, c.requires.last, c.type_inv.bytes head) in
    forms_put b head c.args.out.now c.put_simple-in_default.new.out c.args.at c.put_simple-in_default.result (simple_notation (get_or b head 0 % 32)) (λ f h.
    ap notation (sym (inside_there b head f h major (λ e. absurd (omega (arith, e))) (λ e. absurd (omega (arith, e))) (λ e. absurd (omega (arith, e))) (λ e. absurd (omega (arith, e)))))) c.put_simple-in_default.ensures

pub put_float-requires-clause-room : goal.put_float-requires-clause-room
put_float-requires-clause-room c =
    let b = c.args.bytes.now in
    let head = c.args.head in
    let w = c.requires.there in
    let major : get_or b head 0 / 32 ≡ 7 = omega (arith, c.requires.last, c.type_inv.bytes head) in
    let same : ((head + 1) + 2) - (head + 1) ≡ 2 = omega arith in
    let u = half_there b head w.form w.there major c.in-25.is in
    room_for c.args.at (length c.args.out.now) (notation (meaning w.form)) (codes "f16'" ++ (encode_lower (take (((head + 1) + 2) - (head + 1)) (drop (head + 1) b)) ++ codes "'"))
    (ap notation u.3 ∙ sym (ap (λ r. codes "f16'" ++ (encode_lower r ++ codes "'")) (ap (λ k. take k (drop (head + 1) b)) same ∙ u.2))) w.room

pub put_float-requires-in-26-clause-room : goal.put_float-requires-in-26-clause-room
put_float-requires-in-26-clause-room c =
    let b = c.args.bytes.now in
    let head = c.args.head in
    let w = c.requires.there in
    let major : get_or b head 0 / 32 ≡ 7 = omega (arith, c.requires.last, c.type_inv.bytes head) in
    let same : ((head + 1) + 4) - (head + 1) ≡ 4 = omega arith in
    let u = single_there b head w.form w.there major c.in-26.is in
    room_for c.args.at (length c.args.out.now) (notation (meaning w.form)) (codes "f32'" ++ (encode_lower (take (((head + 1) + 4) - (head + 1)) (drop (head + 1) b)) ++ codes "'"))
    (ap notation u.3 ∙ sym (ap (λ r. codes "f32'" ++ (encode_lower r ++ codes "'")) (ap (λ k. take k (drop (head + 1) b)) same ∙ u.2))) w.room

pub put_float-requires-in-27-clause-room : goal.put_float-requires-in-27-clause-room
put_float-requires-in-27-clause-room c =
    let b = c.args.bytes.now in
    let head = c.args.head in
    let w = c.requires.there in
    let major : get_or b head 0 / 32 ≡ 7 = omega (arith, c.requires.last, c.type_inv.bytes head) in
    let same : ((head + 1) + 8) - (head + 1) ≡ 8 = omega arith in
    let u = double_there b head w.form w.there major c.in-27.is in
    room_for c.args.at (length c.args.out.now) (notation (meaning w.form)) (codes "f64'" ++ (encode_lower (take (((head + 1) + 8) - (head + 1)) (drop (head + 1) b)) ++ codes "'"))
    (ap notation u.3 ∙ sym (ap (λ r. codes "f64'" ++ (encode_lower r ++ codes "'")) (ap (λ k. take k (drop (head + 1) b)) same ∙ u.2))) w.room

pub put_simple-requires : goal.put_simple-requires
put_simple-requires c =
    let b = c.args.bytes.now in
    let w = c.requires.there in
    let major : get_or b c.args.head 0 / 32 ≡ 7 = omega (arith, c.requires.last, c.type_inv.bytes c.args.head) in
    room_for c.args.at (length c.args.out.now) (notation (meaning w.form)) (simple_notation (get_or b (c.args.head + 1) 0)) (ap notation (next_there b c.args.head w.form w.there major c.in-24.is).1) w.room

pub put_simple-requires-in_default : goal.put_simple-requires-in_default
put_simple-requires-in_default c =
    let b = c.args.bytes.now in
    let head = c.args.head in
    let w = c.requires.there in
    let major : get_or b head 0 / 32 ≡ 7 = omega (arith, c.requires.last, c.type_inv.bytes head) in
    room_for c.args.at (length c.args.out.now) (notation (meaning w.form)) (simple_notation (get_or b head 0 % 32))
    (ap notation (inside_there b head w.form w.there major (λ e. absurd (omega (arith, e))) (λ e. absurd (omega (arith, e))) (λ e. absurd (omega (arith, e))) (λ e. absurd (omega (arith, e))))) w.room
