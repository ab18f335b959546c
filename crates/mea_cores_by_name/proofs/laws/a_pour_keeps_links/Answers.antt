use Rattle.mea_cores_by_name.proofs.Pours.{linked_poured}
use Rattle.mea_cores_by_name.proofs.laws.a_pour_keeps_links.Goals as goal

pub returns : goal.returns
returns c = λ q granted acquires n linked. linked_poured acquires q granted n linked
