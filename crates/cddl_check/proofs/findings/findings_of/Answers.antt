use Rattle.std.proofs.Common.{List, ℕ, Option, Bor, refl, sym, subst, ◌∙◌}
use Rattle.std.specs.Option.{option_map}
use Rattle.tree_nodes.specs.View.{view}
use Rattle.cddl_language.specs.Literals.{AreRight, Values}
use Rattle.cddl_check.specs.Outcome.{IsChecked, IsFaulty, specification}
use Rattle.cddl_check.specs.Spec.{AreFindings, IsSpec, definitions_of}
use Rattle.cddl_check.specs.Stages.{IsGiven}
use Rattle.cddl_check.specs.Told.{refusal_of}
use Rattle.cddl_check.specs.declared.findings.Findings.{Findings}
use Rattle.cddl_check.proofs.Faulty.{faulty, same_root}
use Rattle.cddl_check.proofs.Handing.{handed}
use Rattle.cddl_check.proofs.findings.findings_of.Goals as goal

pub returns-clause-found : goal.returns-clause-found
returns-clause-found c =
    let n : Option (List ℕ) = option_map (λ (t : Bor (List ℕ)). t.now) c.args.given in
    let tree = c.args.tree.now in
    let x = view tree in
    let s = specification x n in
    let given : (worth : Values) → AreRight x worth → IsGiven s worth tree n = λ worth right. record { tree = refl; given = refl; tokens = c.requires; right = right } in
    let some = c.one_table_of_values.ensures.some x c.requires in
    let first = c.in_ok-reading.ensures.read s some.0 (given some.0 some.1) in
    let root = first.0 in
    let reading = c.in_ok-reading.reading in
    let found : Findings = record { terms = c.read_tree.new.terms; root = reading.instanced.root; kinds = reading.survey.kinds; meant = reading.meant; splices = reading.splices; ranks = c.in_ok-ranks.ranks } in
    let checked : IsChecked x n root = record {
      rooted = first.2.rooted.rooted;
      accepted = λ worth right.
          let r = c.in_ok-reading.ensures.read s worth (given worth right) in
          c.in_ok-ranks.ensures.accepted s worth tree r.0 r.1 c.requires right r.2;
    } in (
      root,
      checked,
      subst (IsSpec tree root) (sym c.kept.ensures) (record {
        tokens = c.requires;
        given = n;
        checked = checked;
        number = first.2.number;
        found = λ worth right.
            let r = c.in_ok-reading.ensures.read s worth (given worth right) in (
              r.1,
              subst (λ m. AreFindings (definitions_of x) worth m r.1 found) (same_root r.0 root (sym r.2.rooted.rooted ∙ first.2.rooted.rooted)) (record {
                is_type = c.root_is_type.ensures.is_type s worth r.0 r.2.rooted.rooted r.2.right.no_fault;
                kinds = r.2.named.kinds;
                meant = r.2.meant;
                splices = r.2.splices;
                ranked = c.in_ok-ranks.ensures.ranked s worth tree r.0 r.1 c.requires right r.2;
              }),
            );
      }),
    )

pub returns-in_err-reading-clause-faulty : goal.returns-in_err-reading-clause-faulty
returns-in_err-reading-clause-faulty c =
    let n : Option (List ℕ) = option_map (λ (t : Bor (List ℕ)). t.now) c.args.given in
    let x = view c.args.tree.now in
    let e = c.in_err-reading.field-0.0 in
    handed (λ y. IsFaulty x n (refusal_of y)) _ e c.from_residual.ensures.1 (faulty x n e (λ worth right. c.in_err-reading.ensures.stopped (specification x n) worth (record { tree = refl; given = refl; tokens = c.requires; right = right })))

pub returns-in_err-ranks-clause-faulty : goal.returns-in_err-ranks-clause-faulty
returns-in_err-ranks-clause-faulty c =
    let n : Option (List ℕ) = option_map (λ (t : Bor (List ℕ)). t.now) c.args.given in
    let x = view c.args.tree.now in
    let s = specification x n in
    let e = c.in_err-ranks.field-0.0 in
    handed (λ y. IsFaulty x n (refusal_of y)) _ e c.from_residual-in_err-ranks.ensures.1 (faulty x n e (λ worth right.
    let r = c.in_ok-reading.ensures.read s worth (record { tree = refl; given = refl; tokens = c.requires; right = right }) in
    c.in_err-ranks.ensures.stopped s worth c.args.tree.now r.0 r.1 c.requires right r.2))
