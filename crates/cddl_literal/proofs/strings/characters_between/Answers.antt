use Rattle.std.proofs.Common.{◌≡◌, ℕ, ◌+◌, ◌-◌, ◌<◌, ◌≤◌, length, slice_index, List, [], ◌∷◌, ◌++◌, false, lit<, refl, sym, ap, subst, ◌∙◌, arith, append_assoc}
use Rattle.std.proofs.lemmas.List.{append-nil}
use Rattle.std.proofs.lemmas.Str.{encode_ascii, IsCharBoundary-after_ascii, IsCharBoundary-before_ascii}
use Rattle.std.specs.Prelude.{slice_range}
use Rattle.std.specs.Char.{encode_utf8}
use Rattle.std.specs.Str.{IsCharBoundary}
use Rattle.std.specs.String.{string_bytes}
use Rattle.cddl_literal.specs.Bytes.{Each}
use Rattle.cddl_literal.specs.Escapes.{Escape}
use Rattle.cddl_literal.specs.Strings.{is_plain}
use Rattle.cddl_literal.specs.Prefixed.{IsCrLf}
use Rattle.cddl_literal.specs.declared.Quote.TheVariants.{Single}
use Rattle.cddl_literal.proofs.EscapeFacts.{escape_past, escape_ascii}
use Rattle.cddl_literal.proofs.StringFacts.{after_escape, after_line, after_run, moves, characters_le, characters_none, is_plain_here, run_within, run_moves, other_ascii, quote_ascii}
use Rattle.cddl_literal.proofs.strings.characters_between.Goals as goal

-- what has been pushed joins what is left
joined_front : (v out front w out2 : List ℕ) (rest : List ℕ) → v ≡ out ++ rest → rest ≡ front ++ w → out2 ≡ out ++ front → v ≡ out2 ++ w
joined_front v out front w out2 rest e f g = e ∙ ap (λ l. out ++ l) f ∙ sym (append_assoc out front w) ∙ sym (ap (λ l. l ++ w) g)

pub loop-i-init : goal.loop-i-init
loop-i-init c =
    let text = c.args.text.now in
    let before : c.args.from - 1 + 1 ≡ c.args.from = (let some = c.requires.inside in omega arith) in
    let in_range : c.args.from ≤ c.args.to = characters_le c.requires.holds.1 in
    record {
      in_range = in_range;
      boundary = subst (IsCharBoundary text) before (IsCharBoundary-after_ascii text (c.args.from - 1) c.utf8.text (let inside = c.requires.within in omega arith) (quote_ascii c.args.quote _ c.requires.opens));
      left = λ v h. (v, h, sym (ap (λ l. l ++ v) c.new-out.ensures.bytes));
    }

pub loop-i-preserved-in-Some : goal.loop-i-preserved-in-Some
loop-i-preserved-in-Some c =
    let text = c.args.text.now in
    let end = c.in-Some.escape.end in
    let here = subst (λ s. Escape c.args.quote s c.loop-i.i end c.in-Some.escape.scalar) c.as_bytes-source.ensures.value c.in-Some.ensures.0 in
    let past = escape_past here in
    let left = c.loop-i.invariant.left in
    let whole = c.requires.holds in
    let front = encode_utf8 c.in-Some.escape.scalar in
    let in_range : end ≤ c.args.to = characters_le (moves front c.loop-i-test.true (after_escape here (left whole.0 whole.1).1)).1 in
    let last : end - 1 + 1 ≡ end = omega arith in
    let inside : end - 1 < length text = (let within = c.requires.within in omega arith) in
    record {
      in_range = in_range;
      boundary = subst (IsCharBoundary text) last (IsCharBoundary-after_ascii text (end - 1) c.utf8.text inside (escape_ascii here));
      left = λ v h.
          let r = left v h in
          let next = moves front c.loop-i-test.true (after_escape here r.1) in
          (next.0, next.1, joined_front v (string_bytes c.loop-i.out) front next.0 (string_bytes c.push.new.self) r.0 r.2 next.2 c.in_ok-push.ensures.bytes);
    }

pub loop-i-preserved-then-is_line : goal.loop-i-preserved-then-is_line
loop-i-preserved-then-is_line c =
    let text = c.args.text.now in
    let here = subst (λ s. IsCrLf s c.loop-i.i) c.as_bytes-source.ensures.value (c.if-is_line.ensures.yes refl).1 in
    let left = c.loop-i.invariant.left in
    let whole = c.requires.holds in
    let in_range : c.loop-i.i + 2 ≤ c.args.to = characters_le (moves (10 ∷ []) c.loop-i-test.true (after_line here (left whole.0 whole.1).1)).1 in
    let last : c.loop-i.i + 1 + 1 ≡ c.loop-i.i + 2 = omega arith in
    let inside : c.loop-i.i + 1 < length text = (let within = c.requires.within in omega arith) in
    record {
      in_range = in_range;
      boundary = subst (IsCharBoundary text) last (IsCharBoundary-after_ascii text (c.loop-i.i + 1) c.utf8.text inside (omega (arith, here.1)));
      left = λ v h.
          let r = left v h in
          let next = moves (10 ∷ []) c.loop-i-test.true (after_line here r.1) in
          (next.0, next.1, joined_front v (string_bytes c.loop-i.out) (10 ∷ []) next.0 (string_bytes c.push-then-is_line.new.self) r.0 r.2 next.2 (c.in_ok-push-2.ensures.bytes ∙ ap (λ l. string_bytes c.loop-i.out ++ l) (encode_ascii 10 (lit< tt))));
    }

pub loop-i-smaller : goal.loop-i-smaller
loop-i-smaller c =
    let same = c.as_bytes-source.ensures.value in
    let left = c.loop-i.invariant.left in
    let whole = c.requires.holds in
    let no_escape = subst (λ s. (k v : ℕ) → Escape c.args.quote s c.loop-i.i k v → ⊥) same c.in_default.ensures in
    let no_line = subst (λ s. c.args.quote ≡ Single → IsCrLf s c.loop-i.i → ⊥) same (c.if-is_line.ensures.no_line refl) in
    let here = is_plain_here c.loop-i-test.true no_escape no_line (left whole.0 whole.1).1 in
    let stops = subst (λ s. is_plain c.args.quote (slice_index s c.plain_end-end.result) ≡ false) same c.plain_end-end.ensures.stops in
    let moved = run_moves c.args.quote c.args.text.now c.loop-i.i c.plain_end-end.result c.plain_end-end.ensures.from here stops in
    omega arith

pub loop-i-preserved : goal.loop-i-preserved
loop-i-preserved c =
    let text = c.args.text.now in
    let end = c.plain_end-end.result in
    let run = subst (λ s. Each (is_plain c.args.quote) s c.loop-i.i end) c.as_bytes-source.ensures.value c.plain_end-end.ensures.each in
    let stops = subst (λ s. is_plain c.args.quote (slice_index s end) ≡ false) c.as_bytes-source.ensures.value c.plain_end-end.ensures.stops in
    let from : c.loop-i.i ≤ end = c.plain_end-end.ensures.from in
    let sum : c.loop-i.i + (end - c.loop-i.i) ≡ end = omega arith in
    let in_range : end ≤ c.args.to = run_within c.args.quote text c.loop-i.i end c.args.to run c.loop-i.invariant.in_range c.requires.closes in
    let inside : end < length text = (let within = c.requires.within in omega arith) in
    record {
      in_range = in_range;
      boundary = IsCharBoundary-before_ascii text end inside (other_ascii c.args.quote (slice_index text end) stops);
      left = λ v h.
          let r = c.loop-i.invariant.left v h in
          let next = after_run (end - c.loop-i.i) c.args.quote text c.loop-i.i end c.args.to r.0 sum in_range (omega arith) run r.1 in
          (next.0, next.1, joined_front v (string_bytes c.loop-i.out) (slice_range text c.loop-i.i end) next.0 (string_bytes c.push_str.new.self) r.0 r.2 next.2 (c.in_ok-push_str.ensures.bytes ∙ ap (λ l. string_bytes c.loop-i.out ++ l) c.range.ensures.value));
    }

pub returns : goal.returns
returns c = λ v h.
    let r = c.loop-i.invariant.left v h in
    let in_range = c.loop-i.invariant.in_range in
    sym (r.2 ∙ ap (λ l. string_bytes c.loop-i.out ++ l) (characters_none r.1 (omega arith)) ∙ append-nil (string_bytes c.loop-i.out))
