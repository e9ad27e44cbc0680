use Rattle.std.proofs.Common.{sym, ap, subst, ◌∙◌}
use Rattle.std.proofs.lemmas.Result.{IfOk-weaker}
use Rattle.cddl_language.specs.Faults.{definitions, rules}
use Rattle.graphs.specs.Implications.Implications.{AreFollowing}
use Rattle.check_maps.specs.Spliced.Spliced.{AreSpliced}
use Rattle.check_maps.specs.Spliced.Steps.{edges_of, flagged, most_facts}
use Rattle.check_maps.proofs.OfSpliced.Following.{Laws, are_spliced}
use Rattle.check_maps.proofs.spliced.listing.spliced_entries.Goals as goal

pub returns : goal.returns
returns c = IfOk-weaker c.flagged.result _ _ (λ v e s root refs clear is kinds openings endings are.
    let t = c.args.terms.now in
    let laws : Laws s root = record {
      each = c.spliced_groups.ensures.each (rules s) root;
      every = c.spliced_groups.ensures.every (rules s) root;
      bare = record { found = c.bare_groups.ensures.found; only = c.bare_groups.ensures.only };
      map = c.reached_parts.ensures.map s root clear;
      body = c.reached_rules.ensures.body s root clear;
      defined = c.reached_rules.ensures.defined s clear;
    } in
    let ways = c.in_ok-ways.ways.items in
    let flags = c.in_ok-flags.flags.items in
    let edges = c.deref-2.ensures.value ∙ c.in_ok-edges.ensures ∙ ap edges_of c.deref.ensures.value in
    let following = subst (λ x. AreFollowing most_facts x flags) edges c.in_ok-flags.ensures in
    let told = are_spliced s root laws t c.equal_numbers.ensures.reference c.equal_numbers.ensures.entry refs c.args.closed.now is c.args.asked.now are ways (c.in_ok-ways.ensures (definitions s) root refs is kinds openings endings) flags following in
    subst (AreSpliced (rules s) root t refs) (sym (e ∙ ap (λ x. flagged c.args.closed.now.places.items x c.args.asked.now) c.deref-3.ensures.value)) told) c.flagged.ensures
