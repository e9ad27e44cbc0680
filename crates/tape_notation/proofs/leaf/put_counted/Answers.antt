use Rattle.std.proofs.Common.{◌≡◌, ◌+◌, ◌-◌, ◌++◌, length, take, drop, decimal, sym, ap, ◌∙◌, arith}
use Rattle.std.specs.Prelude.{codes}
use Rattle.cbor_data.specs.Forms.{meaning}
use Rattle.cbor_data.specs.Notation.{bytes_notation, notation, text_notation}
use Rattle.tape_notation.proofs.Strings.{content_there}
use Rattle.tape_notation.proofs.Forms.{form_within, plain_head, uint_there, nint_there, bytes_there, text_there}
use Rattle.tape_notation.proofs.Puts.{forms_put, room_for}
use Rattle.tape_notation.proofs.leaf.put_counted.Goals as goal

pub head_at-argument-requires : goal.head_at-argument-requires
head_at-argument-requires c = let w = c.requires.there in plain_head c.args.bytes.now c.args.head w.form w.there c.requires.plain c.requires.no_bytes c.requires.no_text

pub bounds-bytes-head : goal.bounds-bytes-head
bounds-bytes-head c = let w = c.requires.there in form_within c.args.bytes.now c.args.head w.form w.there

-- numbers

pub put_number-requires : goal.put_number-requires
put_number-requires c =
    let w = c.requires.there in
    let u = uint_there c.args.bytes.now c.args.head w.form w.there c.in-0.is in
    room_for c.args.at (length c.args.out.now) (notation (meaning w.form)) (decimal c.head_at-argument.result.0) (u.2 ∙ sym (ap decimal (c.head_at-argument.ensures 0 u.0 u.1).0)) w.room

pub returns-in-0 : goal.returns-in-0
returns-in-0 c =
    let b = c.args.bytes.now in
    let r = c.head_at-argument.result in
    forms_put b c.args.head c.args.out.now c.put_number.new.out c.args.at c.put_number.result (decimal r.0) (λ f h.
    let u = uint_there b c.args.head f h c.in-0.is in
    ap decimal (c.head_at-argument.ensures 0 u.0 u.1).0 ∙ sym u.2) c.put_number.ensures

pub put_negative-requires : goal.put_negative-requires
put_negative-requires c =
    let w = c.requires.there in
    let u = nint_there c.args.bytes.now c.args.head w.form w.there c.in-1.is in
    room_for c.args.at (length c.args.out.now) (notation (meaning w.form)) (codes "-" ++ decimal (c.head_at-argument.result.0 + 1)) (u.2 ∙ sym (ap (λ n. codes "-" ++ decimal (n + 1)) (c.head_at-argument.ensures 1 u.0 u.1).0)) w.room

pub returns-in-1 : goal.returns-in-1
returns-in-1 c =
    let b = c.args.bytes.now in
    let r = c.head_at-argument.result in
    forms_put b c.args.head c.args.out.now c.put_negative.new.out c.args.at c.put_negative.result (codes "-" ++ decimal (r.0 + 1)) (λ f h.
    let u = nint_there b c.args.head f h c.in-1.is in
    ap (λ n. codes "-" ++ decimal (n + 1)) (c.head_at-argument.ensures 1 u.0 u.1).0 ∙ sym u.2) c.put_negative.ensures

-- strings

pub overflow_add-start : goal.overflow_add-start
overflow_add-start c =
    let w = c.requires.there in
    let b = c.args.bytes.now in
    let r = c.head_at-argument.result in
    let u = bytes_there b c.args.head w.form w.there c.in-2.is c.requires.no_bytes in
    omega (arith, (content_there b c.args.head 2 r.0 r.1 u.0 u.1 c.head_at-argument.ensures).within)

pub slice_bounds-put_bytes-end : goal.slice_bounds-put_bytes-end
slice_bounds-put_bytes-end c =
    let w = c.requires.there in
    let b = c.args.bytes.now in
    let r = c.head_at-argument.result in
    let u = bytes_there b c.args.head w.form w.there c.in-2.is c.requires.no_bytes in
    omega (arith, (content_there b c.args.head 2 r.0 r.1 u.0 u.1 c.head_at-argument.ensures).within)

pub put_bytes-requires : goal.put_bytes-requires
put_bytes-requires c =
    let w = c.requires.there in
    let b = c.args.bytes.now in
    let r = c.head_at-argument.result in
    let same : (r.1 + r.0) - r.1 ≡ r.0 = omega arith in
    let u = bytes_there b c.args.head w.form w.there c.in-2.is c.requires.no_bytes in
    room_for c.args.at (length c.args.out.now) (notation (meaning w.form)) (bytes_notation (take ((r.1 + r.0) - r.1) (drop r.1 b)))
    (ap notation u.2 ∙ sym (ap bytes_notation (ap (λ k. take k (drop r.1 b)) same ∙ (content_there b c.args.head 2 r.0 r.1 u.0 u.1 c.head_at-argument.ensures).is))) w.room

pub returns-in-2 : goal.returns-in-2
returns-in-2 c =
    let b = c.args.bytes.now in
    let r = c.head_at-argument.result in
    let same : (r.1 + r.0) - r.1 ≡ r.0 = omega arith in
    forms_put b c.args.head c.args.out.now c.put_bytes.new.out c.args.at c.put_bytes.result (bytes_notation (take ((r.1 + r.0) - r.1) (drop r.1 b))) (λ f h.
    let u = bytes_there b c.args.head f h c.in-2.is c.requires.no_bytes in
    ap bytes_notation (ap (λ k. take k (drop r.1 b)) same ∙ (content_there b c.args.head 2 r.0 r.1 u.0 u.1 c.head_at-argument.ensures).is) ∙ ap notation (sym u.2)) c.put_bytes.ensures

pub overflow_add-start-in_default : goal.overflow_add-start-in_default
overflow_add-start-in_default c =
    let w = c.requires.there in
    let b = c.args.bytes.now in
    let r = c.head_at-argument.result in
    let u = text_there b c.args.head w.form w.there (omega (arith, c.requires.plain)) c.requires.no_text in
    omega (arith, (content_there b c.args.head 3 r.0 r.1 u.0 u.1 c.head_at-argument.ensures).within)

pub slice_bounds-put_text-end : goal.slice_bounds-put_text-end
slice_bounds-put_text-end c =
    let w = c.requires.there in
    let b = c.args.bytes.now in
    let r = c.head_at-argument.result in
    let u = text_there b c.args.head w.form w.there (omega (arith, c.requires.plain)) c.requires.no_text in
    omega (arith, (content_there b c.args.head 3 r.0 r.1 u.0 u.1 c.head_at-argument.ensures).within)

pub put_text-requires : goal.put_text-requires
put_text-requires c =
    let w = c.requires.there in
    let b = c.args.bytes.now in
    let r = c.head_at-argument.result in
    let same : (r.1 + r.0) - r.1 ≡ r.0 = omega arith in
    let u = text_there b c.args.head w.form w.there (omega (arith, c.requires.plain)) c.requires.no_text in
    room_for c.args.at (length c.args.out.now) (notation (meaning w.form)) (text_notation (take ((r.1 + r.0) - r.1) (drop r.1 b)))
    (ap notation u.2 ∙ sym (ap text_notation (ap (λ k. take k (drop r.1 b)) same ∙ (content_there b c.args.head 3 r.0 r.1 u.0 u.1 c.head_at-argument.ensures).is))) w.room

pub returns-in_default : goal.returns-in_default
returns-in_default c =
    let b = c.args.bytes.now in
    let r = c.head_at-argument.result in
    let same : (r.1 + r.0) - r.1 ≡ r.0 = omega arith in
    forms_put b c.args.head c.args.out.now c.put_text.new.out c.args.at c.put_text.result (text_notation (take ((r.1 + r.0) - r.1) (drop r.1 b))) (λ f h.
    let u = text_there b c.args.head f h (omega (arith, c.requires.plain)) c.requires.no_text in
    ap text_notation (ap (λ k. take k (drop r.1 b)) same ∙ (content_there b c.args.head 3 r.0 r.1 u.0 u.1 c.head_at-argument.ensures).is) ∙ ap notation (sym u.2)) c.put_text.ensures
