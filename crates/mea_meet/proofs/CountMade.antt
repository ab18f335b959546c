-- a point that is made, with its first holder
use Rattle.std.proofs.Common.{◌≡◌, ℕ, ◌+◌, ◌≤◌, Bool, true, false, cond, IsSome, if◌then◌else◌, refl, ap, sym, ◌∙◌, arith}
use Rattle.std.specs.FinMap.{get, insert, remove, empty, len, len-empty, get-empty}
use Rattle.std.specs.Ordering.{nat_cmp}
use Rattle.mea_base.proofs.Maps.{get-there, is_there}
use Rattle.mea_family.specs.Play.{Part}
use Rattle.mea_family.specs.declared.answer.Answer.TheVariants as answers
use Rattle.mea_by_name.specs.ByName.{Names, own}
use Rattle.mea_by_name.proofs.Own.{Moves, Stays, Comes, seen-insert, own-put, put_gone, gone_none, len-new}
use Rattle.mea_meet_model.specs.Counts as model
use Rattle.mea_meet_model.specs.Counts.{Counts, New, of_itself}
use Rattle.mea_meet_model.specs.CountActions.{Make}
use Rattle.mea_meet_model.specs.Hall.{Kind, Latches}
use Rattle.mea_meet.specs.declared.holder_entry.HolderEntry.{HolderEntry}
use Rattle.mea_meet.specs.Actions.{IsNewOf}
use Rattle.mea_meet.specs.CountCores.{NamedPoint, point_from}
use Rattle.mea_meet.specs.CountEntries.{KeptPoint}
use Rattle.mea_meet.specs.CountParts.{point_seen, holder_seen, of_holder}
use Rattle.mea_meet.proofs.OneCount.{new_kept}
use Rattle.mea_meet.proofs.CountSites.{Site, here, new_holder, new_sender, own_no_wait, own_no_holder, own_no_sender, each_made, kept_made}
use Rattle.mea_meet.proofs.CountCalls.{Rests, rests_by}

-- its members are its first holder, where that is counted
pub fair : (k : Kind) (new : New) → IsNewOf k new → new.members ≡ cond new.counted 1 0
fair Latches new is = ap (λ (new : New). new.members) is ∙ sym (ap (λ (new : New). cond new.counted 1 0) is)
fair _ new is = ap (λ (new : New). new.members) is ∙ sym (ap (λ (new : New). cond new.counted 1 0) is)

-- a sender that was put there, if one was, is taken away again
pub put_there : (m : Names ℕ) (k : ℕ) (b : Bool) → b ≡ true → IsSome (get (if b then insert m k k else m) k)
put_there m k true is = is_there _ k (get-there m k k)
put_there m k false is = absurd (cc)

module _ {old : Part Counts} {i : ℕ} (s : Site old i) where
  module _ (new : New) (members : new.members ≡ cond new.counted 1 0) where
    abbrev first : HolderEntry
    first = record { point = i; counted = new.counted; borrowers = 0 }

    made_as : (sends : Bool) → new.sends ≡ sends → (ss' : Names ℕ) → Moves of_itself i i s.ss ss' → ss' ≡ (if sends then insert s.ss i i else s.ss) → (things : ℕ) → things ≡ len (own of_itself i ss') + 1 → things ≤ 2
        → Rests s (Make new) answers.Made (insert s.ps i (record { point = point_from new; things = things })) ss' (insert s.hs i first) s.ws
    made_as sends told ss' moves are things all few =
        rests_by s (Make new) (model.make (here s) i new) refl refl members answers.Made refl
        (insert s.ps i (record { point = point_from new; things = things })) ss' (insert s.hs i first) s.ws
        (seen-insert point_seen s.ps i (record { point = point_from new; things = things })) (are ∙ ap (λ b. if b then insert s.ss i i else s.ss) (sym told)) (seen-insert holder_seen s.hs i first) refl
        (each_made s ss' (insert s.hs i first) moves (Comes i first (omega arith) refl (λ y is. absurd (let none = new_holder s in cc))) (record { point = point_from new; things = things })
        (rw (own_no_wait s, own-put of_holder i s.hs i first refl, own_no_holder s) (new_kept new i things first refl (own of_itself i ss') all few)))
        refl (kept_made s (record { point = point_from new; things = things }) refl)

    by_sends : (sends : Bool) → new.sends ≡ sends → Rests s (Make new) answers.Made (insert s.ps i (record { point = point_from new; things = if sends then 2 else 1 })) (if sends then insert s.ss i i else s.ss) (insert s.hs i first) s.ws
    by_sends true told = made_as true told (insert s.ss i i) (Comes i i (omega arith) refl (λ y is. absurd (let none = new_sender s in cc))) refl 2
        (let one : len (own of_itself i (insert s.ss i i)) ≡ len (insert (empty {X = ℕ} {R = nat_cmp}) i i) = ap len (own-put of_itself i s.ss i i refl) ∙ ap (λ (m : Names ℕ). len (insert m i i)) (own_no_sender s) in
        let two = len-new (empty {X = ℕ} {R = nat_cmp}) i i (get-empty nat_cmp i) in let none = len-empty nat_cmp ℕ in omega (arith, one, two, none)) (omega arith)
    by_sends false told = made_as false told s.ss Stays refl 1 (let none : len (own of_itself i s.ss) ≡ 0 = ap len (own_no_sender s) ∙ len-empty nat_cmp ℕ in omega (arith, none)) (omega arith)

    pub made : (p : NamedPoint) → p ≡ point_from new → (d : KeptPoint) → d ≡ record { point = p; things = if new.sends then 2 else 1 } → (ps' : Names KeptPoint) → ps' ≡ insert s.ps i d → (ss' : Names ℕ) → ss' ≡ (if new.sends then insert s.ss i i else s.ss)
        → (hs' : Names HolderEntry) → hs' ≡ insert s.hs i first → Rests s (Make new) answers.Made ps' ss' hs' s.ws
    made p is d entry ps' put ss' sends hs' comes = rw (put, entry, is, sends, comes) (by_sends new.sends refl)

  -- where one could not be made
  pub no_holder_left : (x : HolderEntry) (between hs' : Names HolderEntry) → between ≡ insert s.hs i x → hs' ≡ remove between i → hs' ≡ s.hs
  no_holder_left x between hs' comes goes = goes ∙ ap (λ (m : Names HolderEntry). remove m i) comes ∙ put_gone s.hs i x ∙ gone_none s.hs i (new_holder s)

  pub no_sender_left : (b : Bool) (between ss' : Names ℕ) → between ≡ (if b then insert s.ss i i else s.ss) → ss' ≡ (if b then remove between i else between) → ss' ≡ s.ss
  no_sender_left true between ss' comes goes = goes ∙ ap (λ (m : Names ℕ). remove m i) comes ∙ put_gone s.ss i i ∙ gone_none s.ss i (new_sender s)
  no_sender_left false between ss' comes goes = goes ∙ comes
