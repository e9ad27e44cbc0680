use Rattle.std.proofs.Common.{refl}
use Rattle.check_faults.proofs.text.all_faults.Goals as goal

pub returns : goal.returns
returns c =
    record {
      whole = c.in_ok-all.all.items;
      rest = c.in_ok-further.further.items;
      is = c.in_ok-append.ensures.items;
      of_text = λ worth. c.in_ok-all.ensures _ worth refl refl;
      of_root = c.in_ok-further.ensures;
    }
