-- what an action does, in the words of a family
use Rattle.std.proofs.Common.{◌≡◌, ◌≢◌, ◌⊎◌, inl, inr, ℕ, ◌+◌, ◌≤◌, Some, None, length, Result, Ok, Err, IfOk, IfErr, OnOk, OnErr, Option, ap, arith}
use Rattle.mea_family.specs.declared.answer.Answer.{Answer}
use Rattle.mea_family.specs.declared.stop.Stop.{Stop}
use Rattle.mea_family.specs.declared.stop.Stop.TheVariants.{NoMemory}
use Rattle.mea_family.specs.Acts.{Refuses}
use Rattle.mea_base.specs.Ready.{Waking}
use Rattle.mea_base.proofs.Totals.{total-empty}
use Rattle.mea_family.specs.Play.{Part, PartYields}
use Rattle.mea_share_model.specs.Admissions.{Admission, ShareHall, empty_hall, registered}
use Rattle.mea_share_model.specs.Next.{waiting_in}
use Rattle.mea_share_model.specs.Actions.{Action, cause_in, act_in}
use Rattle.mea_share.specs.Halls.{IsFree, Acts}

of_cause : (cause : Option Stop) (free : Type 0) (stop : Stop) → Refuses cause free stop → (cause ≡ Some stop) ⊎ ((cause ≡ None) × (stop ≡ NoMemory))
of_cause cause free stop (inl is) = inl is.0
of_cause cause free stop (inr lack) = inr (lack.0, lack.1)

takes_some : (cause : Option Stop) (free : Type 0) (stop : Stop) → free → stop ≡ NoMemory → Refuses cause free stop → ⊥
takes_some cause free stop it is (inl told) = told.1 is
takes_some cause free stop it is (inr lack) = lack.2 it

-- in the order of the family's clauses
pub told : (old : Part ShareHall) (i : ℕ) (a : Action) (new : Part ShareHall) (before after : Waking ℕ) → registered (act_in old.hall i a).hall + length (act_in old.hall i a).wakes ≤ registered old.hall + 1 → (r : Result Answer Stop) → Acts old i a r new before after
    → IfOk r (λ answer. PartYields registered old i (act_in old.hall i a) answer new before after) × (registered new.hall ≤ registered old.hall + 1) × OnOk r (cause_in old.hall a ≡ None)
    × IfErr r (λ stop. (cause_in old.hall a ≡ Some stop) ⊎ ((cause_in old.hall a ≡ None) × (stop ≡ NoMemory))) × (IsFree a → r ≢ Err NoMemory) × OnErr r ((new ≡ old) × (after ≡ before))
told old i a new before after law (Ok answer) did = (did.1, (let is = ap (λ (p : Part ShareHall). registered p.hall) did.1.moved in omega (arith, law, is)), did.0, tt, (λ free is. absurd (cc)), tt)
told old i a new before after law (Err stop) did = (tt, (let is = ap (λ (p : Part ShareHall). registered p.hall) did.1 in omega (arith, is)), tt, of_cause _ _ stop did.0, (λ free is. takes_some _ _ stop free (let same : stop ≡ NoMemory = cc in same) did.0), (did.1, did.2))

pub none_registered : registered empty_hall ≡ 0
none_registered = total-empty (λ o (r : Admission). waiting_in r.shares)
