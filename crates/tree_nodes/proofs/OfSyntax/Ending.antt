-- After the end of the source the machine is stuck or done.
use Rattle.std.proofs.Common.{◌≡◌, ◌⊎◌, inl, inr, None, refl}
use Rattle.cddl_token.specs.declared.Token.{Token}
use Rattle.cddl_token.specs.declared.Kind.TheVariants.{End}
use Rattle.tree_nodes.specs.Syntax.Syntax.{Types, only, or, Type1, Group, entries, GrpEnt, typed, keyed, type_or, type_rule, Rules, no_rules, rules, Cddl, cddl}
use Rattle.tree_nodes.specs.Syntax.Machine.{TypeOpening, paren, tag, tag_head, tag_content, simple_head, brace, bracket, choice, AtType2, lower, AtType1, head, next, argument_of, AtTypes, body, inside, start, value_of, AtEntry, group_body, member, AtGroup, within, in_entry, State, begin, awaits_parm, have_parm, awaits_assign, want, want_ref, want_content, have, want_arrow, have_group, done, stuck, group_of, rule_of, next_rule, shut_group, ends_want, after_entry, shut_types, after_types, after_type1, step}

abbrev pub IsAtEnd : State → Type 0
IsAtEnd s = (s ≡ stuck) ⊎ ((x : Cddl) × (s ≡ done x))

end_next_rule : (rs : Rules) (t : Token) → IsAtEnd (next_rule rs End t)
end_next_rule rs t = inr (cddl rs t, refl)

end_shut_group : (k : AtGroup) (g : Group) (t : Token) → IsAtEnd (shut_group k g End t)
end_shut_group (within k (brace o)) g t = inl refl
end_shut_group (within k (bracket o)) g t = inl refl
end_shut_group (within k (choice a o)) g t = inl refl
end_shut_group (in_entry p oc o) g t = inl refl

end_ends_want : (k : AtType2) (t : Token) → IsAtEnd (ends_want k End t)
end_ends_want (lower (head (start (member k b es) None))) t = end_shut_group k (group_of b es) t
end_ends_want _ t = inl refl

end_after_entry : (p : AtEntry) (e : GrpEnt) (t : Token) → IsAtEnd (after_entry p e End t)
end_after_entry (group_body rs n a) e t = end_next_rule (rules rs (rule_of n a e)) t
end_after_entry (member k b es) e t = end_ends_want (lower (head (start (member k b (entries es e None)) None))) t

end_shut_types : (k : AtType2) (o : TypeOpening) (s : Types) (t : Token) → IsAtEnd (shut_types k o s End t)
end_shut_types k (paren o) s t = inl refl
end_shut_types k (tag o) s t = inl refl
end_shut_types k (tag_head o) s t = inl refl
end_shut_types k (tag_content o h a p) s t = inl refl
end_shut_types k (simple_head o) s t = inl refl

end_after_types : (k : AtTypes) (s : Types) (t : Token) → IsAtEnd (after_types k s End t)
end_after_types (body rs n a) s t = end_next_rule (rules rs (type_rule n (type_or a) s)) t
end_after_types (inside k o) s t = end_shut_types k o s t
end_after_types (start p oc) s t = end_after_entry p (typed oc s) t
end_after_types (value_of p oc m) s t = end_after_entry p (keyed oc m s) t

end_after_type1 : (k : AtType1) (r : Type1) (t : Token) → IsAtEnd (after_type1 k r End t)
end_after_type1 (head k) r t = end_after_types k (only r) t
end_after_type1 (next k ts s) r t = end_after_types k (or ts s r) t
end_after_type1 (argument_of k p o b) r t = inl refl

pub ends_at : (s : State) (t : Token) → IsAtEnd (step s End t)
ends_at begin t = end_next_rule no_rules t
ends_at (awaits_parm rs o b) t = inl refl
ends_at (have_parm rs o p) t = inl refl
ends_at (awaits_assign rs n) t = inl refl
ends_at (want k) t = end_ends_want k t
ends_at (want_ref k p) t = inl refl
ends_at (want_content k o s a) t = inl refl
ends_at (have k r) t = end_after_type1 k r t
ends_at (want_arrow p oc r u) t = inl refl
ends_at (have_group p e) t = end_after_entry p e t
ends_at (done x) t = inl refl
ends_at stuck t = inl refl
