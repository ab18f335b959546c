-- semaphores with the list of ready wakers that an event is lent
use Rattle.std.proofs.Common.{◌≡◌, ℕ, [], ap}
use Rattle.mea_base.specs.Ready.{Waking}
use Rattle.mea_family.specs.Play.{Part}
use Rattle.mea_sem_model.specs.Hall.{Hall}
use Rattle.mea_sem.specs.declared.family.SemFamily.TheInside.{Inside as Kept}
use Rattle.mea_sem.specs.Play.{Play}

pub record Inside : Type 0 where
  pub kept : Kept
  pub list : Waking ℕ

abbrev pub lent : Kept → Waking ℕ → Inside
lent k w = record { kept = k; list = w }

-- semaphores as they are seen, with a list
abbrev pub played_with : Part Hall → Waking ℕ → Play
played_with p w = record { hall = p.hall; wakes = w.wakers; next = p.next }

-- and with none
abbrev pub lone : Part Hall → Play
lone p = record { hall = p.hall; wakes = []; next = p.next }

abbrev pub part_of : Play → Part Hall
part_of p = record { hall = p.hall; next = p.next }

pub seen_with : (w : Waking ℕ) {p q : Part Hall} → p ≡ q → played_with p w ≡ played_with q w
seen_with w same = ap (λ p. played_with p w) same

pub seen_alone : {p q : Part Hall} → p ≡ q → lone p ≡ lone q
seen_alone same = ap lone same
