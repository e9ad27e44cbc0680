use Rattle.std.proofs.Common.{◌≡◌, ◌≤◌, ◌∙◌, sym, subst}
use Rattle.lists.proofs.Lemmas.{ok_then as if_ok}
use Rattle.cddl_language.specs.Reading.{rules_of}
use Rattle.tree_nodes.specs.View.{token_of, view}
use Rattle.check_live.specs.Live.{AreLive}
use Rattle.check_live.specs.Search.{live_in, state}
use Rattle.check_live.proofs.Ending.{Laws, ends}
use Rattle.check_live.proofs.live.live_sites.Goals as goal

pub returns : goal.returns
returns c =
    if_ok c.live_of.result _ _ (λ v e defined outer.
    let laws : Laws = record { outer = c.found_outer_sites.ensures.outside; found = c.found_outer_sites.ensures.found; every = c.found_outer_sites.ensures.every } in
    subst (AreLive (rules_of (view c.args.tree.now)) (token_of c.args.tree.now)) (sym (subst (λ es. v.items ≡ live_in c.in_ok-flags.flags.items es) c.deref-3.ensures.value (subst (λ bs. v.items ≡ live_in bs c.deref-3.result.now) c.deref-2.ensures.value e)))
    (ends c.args.terms.now c.args.tree.now c.args.definitions.now c.args.sites.now laws (subst (λ n. n ≤ 4294967296) c.text_count.ensures.value c.if-text_count-gt-NUMBERS.false) c.is_table.ensures defined outer c.in_ok-numbers.field-0.numbers.keys c.in_ok-numbers.field-0.implications.items c.len-count.result c.len.result (state c.in_ok-search.search) (state c.run.new.search) c.deref.result.now c.in_ok-flags.flags.items c.len-count.ensures.len c.in_ok-numbers.ensures c.in_ok-search.ensures.implied c.in_ok-search.ensures.standing c.in_ok-run.ensures (c.len.ensures ∙ c.run.new.search.implications.ok.0) c.deref.ensures.value c.in_ok-flags.ensures)) c.live_of.ensures
