use Rattle.std.proofs.Common.{ap, ◌∙◌}
use Rattle.cddl_language.specs.Environment.{is_group_socket}
use Rattle.check_names.specs.Kinds.Kinds.{defines_group_by}
use Rattle.check_names.proofs.OfKinds.Defining.{defined_kind}
use Rattle.check_names.proofs.kinds.kinds.Kinds.is_group_definition.Goals as goal

pub returns : goal.returns
returns c xs x are is =
    let ks = c.args.self.now in
    let d = c.args.definition.now in
    c.defines_group.ensures ∙ ap (λ b. defines_group_by ks b d.sign c.head_of.result) (c.is_group_socket-is_socket.ensures ∙ ap is_group_socket c.text_at.ensures) ∙ defined_kind c.args.terms.now xs ks are d x is c.head_of.result c.head_of.ensures
