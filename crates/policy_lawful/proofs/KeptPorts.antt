-- Rule 10: the ranges of ports of devices are ranges of ports.
use Rattle.std.proofs.Common.{◌≡◌, ◌∙◌, true, List, [], ◌∷◌, ◌++◌, None, refl, sym}
use Rattle.std.specs.List.{list_all}
use Rattle.std.proofs.lemmas.Bool.{and_from}
use Rattle.muen_num.proofs.SearchLaws.{none_both, unless_none}
use Rattle.muen_num.specs.Search.{first_after, first_in, unless}
use Rattle.policy_lawful.specs.MoreRules.{device_ports, offence_10, ports_apart, ports_offence}
use Rattle.policy_lawful.specs.Offences.{alone, two}
use Rattle.policy_lawful.proofs.EachPasses.{all_flat}
use Rattle.policy_types.specs.declared.source.Ports.{Ports}
use Rattle.policy_types.specs.declared.source.Source.{Source}
use Rattle.policy_lawful.specs.Ranges.{is_port_range}

ranges_after : (before xs : List Ports) → first_after ports_offence before xs ≡ None → list_all is_port_range xs ≡ true
ranges_after before [] h = refl
ranges_after before (x ∷ xs) h =
    let both = none_both (ports_offence before x) (first_after ports_offence (before ++ x ∷ []) xs) h in
    let own = none_both (unless (is_port_range x) (alone x.name)) (first_in (λ b. unless (ports_apart b x) (two b.name x.name)) before) both.0 in
    and_from (is_port_range x) (list_all is_port_range xs) (unless_none (is_port_range x) (alone x.name) own.0) (ranges_after (before ++ x ∷ []) xs both.1)

pub ports_kept : (p : Source) → offence_10 p ≡ None → list_all (λ d. list_all is_port_range d.io_ports) p.devices ≡ true
unfolding offence_10
ports_kept p h = sym (all_flat is_port_range (λ d. d.io_ports) p.devices) ∙ ranges_after [] (device_ports p) h
