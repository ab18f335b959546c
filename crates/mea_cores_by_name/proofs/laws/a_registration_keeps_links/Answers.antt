use Rattle.mea_cores_by_name.proofs.Sets.{registered_links, registered_names}
use Rattle.mea_cores_by_name.proofs.laws.a_registration_keeps_links.Goals as goal

pub returns-clause-links : goal.returns-clause-links
returns-clause-links c = λ s slots n f w slot linked there. registered_links s slots n f w slot linked there

pub returns-clause-names : goal.returns-clause-names
returns-clause-names c = λ s slots n f w slot linked there. registered_names s slots n f w slot linked there
