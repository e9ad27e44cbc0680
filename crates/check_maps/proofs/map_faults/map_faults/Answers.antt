use Rattle.std.proofs.Common.{rules, ◌≡◌, ◌+◌, ◌∙◌, Some, ap, length, slice_get, subst, sym}
use Rattle.lists.proofs.Lemmas.{push_length}
use Rattle.check_maps.specs.MapFaults.Large.{AreFlags, HasLarge, HasPartFaults, IsLarge}
use Rattle.check_maps.proofs.OfMapFaults.Flags.{one_more}
use Rattle.check_maps.proofs.OfMapFaults.Parts.{StandAlike}
use Rattle.check_maps.proofs.OfMapFaults.Told.{are_faults}
use Rattle.check_maps.proofs.map_faults.map_faults.Goals as goal

pub loop-number-preserved : goal.loop-number-preserved
loop-number-preserved c =
    let parts = c.args.parts.now in
    let items = c.loop-number.faults.items in
    let known = c.loop-number.invariant in
    record {
      all = ap length c.in_ok-push.ensures.items ∙ (push_length items c.faults_at.result ∙ ap (λ n. n + 1) known.all);
      told = λ are n f e.
          let large = c.in_ok-large.ensures parts are in
          let inside = c.in_ok-inside.ensures (subst (AreFlags (IsLarge parts) parts) (sym c.deref.ensures.value) large) in
          one_more (HasPartFaults parts) items c.faults_at.result (known.told are) (subst (λ m. HasPartFaults parts m c.faults_at.result) (sym known.all) (c.faults_at.ensures are (subst (AreFlags (IsLarge parts) parts) (sym c.deref-in-loop-number.ensures.value) large) (subst (AreFlags (HasLarge parts) parts) (sym c.deref-in-loop-number-2.ensures.value) inside))) n f (subst (λ xs. slice_get xs n ≡ Some f) c.in_ok-push.ensures.items e);
    }

pub returns : goal.returns
returns c xs root refs t have instances few are summaries =
    let parts = c.args.parts.now in
    let faults = c.loop-number.faults.items in
    let whole : length faults ≡ length parts = search rules in
    let same : StandAlike xs root t parts = record {
      group_some = c.parts_stand_for_choices.ensures.some xs root t parts are;
      group_only = c.parts_stand_for_choices.ensures.only xs root refs t parts have instances few are;
      entry_some = c.parts_stand_for_entries.ensures.some xs root t parts are;
      entry_only = c.parts_stand_for_entries.ensures.only xs root refs t parts have instances few are;
    } in
    are_faults xs root t parts are same (c.groups_occur_alike.ensures t) faults whole (c.loop-number.invariant.told summaries)
