use Rattle.std.proofs.Common.{[], ap, map, refl}
use Rattle.cddl_meaning.proofs.Lemmas.{said}
use Rattle.cddl_match.specs.Machine.{root_question}
use Rattle.cddl_match.specs.Open.{nothing}
use Rattle.cddl_match.proofs.Lemmas.{open_asked, room}
use Rattle.table_nodes.specs.Language.{language_of}
use Rattle.cddl_reasons.specs.Told.{holder_view}
use Rattle.cddl_reasons.proofs.collecting.root_reason.Goals as goal

pub returns : goal.returns
returns c = λ w d.
    let t = c.args.table.now in
    let x = c.args.item.now in
    record {
      before = [];
      waits = [];
      last = root_question t x;
      next = _;
      opened = open_asked (language_of t) nothing;
      fails = (w, said (language_of t) (room x c.item-sound.ensures.sound) d);
      links = rw (c.in_ok-push.ensures.items, c.new-links.ensures.items, c.root.ensures) refl;
      strings = ap (λ hs. map holder_view hs) c.new-strings.ensures.items;
      cause = tt;
      greedy = refl;
      needed = refl;
    }
