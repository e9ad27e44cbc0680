use Rattle.std.proofs.Common.{◌≡◌, ◌+◌, get_or, sym, subst, arith}
use Rattle.tape_notation.specs.Heads.{IsReadAt}
use Rattle.tape_notation.proofs.Heads.{head_room, read_one, read_two, read_four, read_eight}
use Rattle.tape_notation.proofs.head.head_at.Goals as goal

pub two_bytes-requires : goal.two_bytes-requires
two_bytes-requires c = let w = c.requires in let r = head_room c.args.bytes.now c.args.at w.0 w.1 w.2 in omega (arith, r.two c.in-25.is)

pub four_bytes-requires : goal.four_bytes-requires
four_bytes-requires c = let w = c.requires in let r = head_room c.args.bytes.now c.args.at w.0 w.1 w.2 in omega (arith, r.four c.in-26.is)

pub eight_bytes-requires : goal.eight_bytes-requires
eight_bytes-requires c = let w = c.requires in let r = head_room c.args.bytes.now c.args.at w.0 w.1 w.2 in omega (arith, r.eight c.in-27.is)

pub returns-in-24 : goal.returns-in-24
returns-in-24 c =
    let b = c.args.bytes.now in
    let at = c.args.at in
    let same : get_or b (at + 1) 0 ≡ c.from.result = sym c.from.ensures in
    subst (λ n. IsReadAt b at n (at + 2)) same (read_one b at c.in-24.is)

pub returns-in-25 : goal.returns-in-25
returns-in-25 c = read_two c.args.bytes.now c.args.at c.two_bytes.result c.in-25.is c.two_bytes.ensures.range c.two_bytes.ensures.digits

pub returns-in-26 : goal.returns-in-26
returns-in-26 c = read_four c.args.bytes.now c.args.at c.four_bytes.result c.in-26.is c.four_bytes.ensures.range c.four_bytes.ensures.digits

pub returns-in-27 : goal.returns-in-27
returns-in-27 c = read_eight c.args.bytes.now c.args.at c.eight_bytes.result c.in-27.is c.eight_bytes.ensures.range c.eight_bytes.ensures.digits
