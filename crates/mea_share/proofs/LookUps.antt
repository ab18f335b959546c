-- what is looked up in admissions as they are seen
use Rattle.std.proofs.Common.{◌≡◌, ℕ, ◌≤◌, ◌⊎◌, inl, inr, true, cond, if◌then◌else◌, Option, Some, None, IsSome, option_map, is_some, refl, ap, sym, subst, ◌∙◌, arith}
use Rattle.std.specs.FinMap.{get, insert, remove, empty}
use Rattle.mea_family.specs.declared.stop.Stop.TheVariants.{Unknown}
use Rattle.mea_family.specs.Causes.{unknown_unless}
use Rattle.mea_base.specs.Ready.{Waking}
use Rattle.mea_base.proofs.Maps.{total-has, nothing_at, get-there, is_there}
use Rattle.std.proofs.lemmas.Bool.{eq-eqb}
use Rattle.mea_base.proofs.Totals.{get_removed}
use Rattle.mea_base.proofs.NamedMaps.{get-seen, is_some-map}
use Rattle.mea_by_name.specs.ByName.{Names, seen}
use Rattle.mea_family.specs.Play.{Part}
use Rattle.mea_by_name.proofs.Own.{seen-at, seen-none, seen-back, seen-empty, insert_same, gone_none}
use Rattle.mea_share_core.specs.Groups.{waiting_in}
use Rattle.mea_share_core.specs.Fair.{IsSettled}
use Rattle.mea_share_model.specs.Next as next_model
use Rattle.mea_share_model.specs.Admissions as model
use Rattle.mea_share_model.specs.Admissions.{Admission, SharePermit, ShareHall, registered, plain_of, is_named, is_named_one, is_future, is_permit}
use Rattle.mea_share_model.specs.Actions.{Poll, End, cause_in}
use Rattle.mea_share_model.specs.Valid.{AreValid}
use Rattle.mea_share_model.proofs.Keeping.{valid_start}
use Rattle.mea_share.specs.Kept.{KeptAdmission, KeptFuture, shares_seen, admission_seen, future_seen, hall_seen, AreKeptAdmissions}
use Rattle.mea_share.specs.Lends.{StandsFor, AreSettled}
use Rattle.mea_share.proofs.Sites.{Site, part_of, plain_is, registered_is, waiters}

pub nothing_left : (fs : Names KeptFuture) (x : ℕ) → get (remove fs x) x ≡ None
nothing_left fs x = get_removed fs x x ∙ ap (λ b. cond b None (get fs x)) (eq-eqb x x refl)

module _ {old : Part ShareHall} {i : ℕ} (s : Site old i) where
  pub future_none : (f : ℕ) → get old.hall.futures f ≡ None → get s.fs f ≡ None
  future_none f none = at (get s.fs f) refl
    where
      at : (p : Option KeptFuture) → get s.fs f ≡ p → get s.fs f ≡ None
      at None is = is
      at (Some x) is = absurd (let there = seen-at future_seen s.fs f x is in let gone : get (seen future_seen s.fs) f ≡ None = ap (λ (p : Part ShareHall). get p.hall.futures f) s.view ∙ none in cc)

  -- what was looked at is as it was
  pub same_both : (o : ℕ) (e : KeptAdmission) (f : ℕ) (x : KeptFuture) → get s.es o ≡ Some e → get s.fs f ≡ Some x
      → AreKeptAdmissions (insert s.es o e) (insert s.fs f x) s.ps s.next × (◌≡◌ {A = Part ShareHall} (part_of (insert s.es o e) (insert s.fs f x) s.ps s.next) old)
  same_both o e f x there is = rw (insert_same s.es o e there, insert_same s.fs f x is) (s.kept, s.view)

  pub over_put : (o : ℕ) (e : KeptAdmission) → IsSome (get (insert s.es o e) o)
  over_put o e = is_there (get (insert s.es o e) o) e (get-there s.es o e)

  pub future_home : (f : ℕ) (x : KeptFuture) → get s.fs f ≡ Some x → IsSome (get s.es x.admission)
  future_home f x is = (s.kept.hall.firsts.at f x is).1

  -- there is room for each that waits
  pub its_room : (o : ℕ) (e : KeptAdmission) (before : Waking ℕ) → get s.es o ≡ Some e → registered old.hall ≤ before.registered → waiters e ≤ before.registered
  its_room o e before there room =
      let all = ap (λ (p : Part ShareHall). registered p.hall) s.view in
      omega (arith, room, all, registered_is s.es s.fs s.ps s.next s.kept.hall, total-has (λ o (d : KeptAdmission). waiters d) s.es o e there)

  -- what was not there to be taken is as it was
  pub without_future : (f : ℕ) → get s.fs f ≡ None → AreKeptAdmissions s.es (remove s.fs f) s.ps s.next × (◌≡◌ {A = Part ShareHall} (part_of s.es (remove s.fs f) s.ps s.next) old)
  without_future f none = rw (gone_none s.fs f none) (s.kept, s.view)

  pub without_permit : (p : ℕ) → get s.ps p ≡ None → AreKeptAdmissions s.es s.fs (remove s.ps p) s.next × (◌≡◌ {A = Part ShareHall} (part_of s.es s.fs (remove s.ps p) s.next) old)
  without_permit p none = rw (gone_none s.ps p none) (s.kept, s.view)

  pub may_poll : (f w : ℕ) (x : KeptFuture) → get s.fs f ≡ Some x → cause_in (hall_seen s.es s.fs s.ps) (Poll f w) ≡ None
  may_poll f w x is = ap unknown_unless (ap is_some (seen-at future_seen s.fs f x is))

  pub ends_nothing : (x : ℕ) → get s.fs x ≡ None → get s.ps x ≡ None → cause_in (hall_seen s.es s.fs s.ps) (End x) ≡ Some Unknown
  ends_nothing x no_future no_permit = ap (λ q. unknown_unless (if is_some q then true else is_permit (hall_seen s.es s.fs s.ps) x)) (seen-none future_seen s.fs x no_future) ∙ ap (λ q. unknown_unless (is_some q)) no_permit

-- ---- what is looked up in admissions that are seen so
module _ {old : Part ShareHall} (es : Names KeptAdmission) (fs : Names KeptFuture) (ps : Names SharePermit) (next : ℕ) (view : ◌≡◌ {A = Part ShareHall} (record { hall = hall_seen es fs ps; next = next }) old) where
  pub named_of : (o : ℕ) (p : Option KeptAdmission) → get es o ≡ p → is_named_one (option_map admission_seen p) ≡ is_named old.hall o
  named_of o p is = ap (λ q. is_named_one (option_map admission_seen q)) (sym is) ∙ ap is_named_one (sym (get-seen (λ k e. admission_seen e) es o)) ∙ ap (λ (p : Part ShareHall). is_named p.hall o) view

  pub future_of : (f : ℕ) → is_some (get fs f) ≡ is_future old.hall f
  future_of f = sym (is_some-map future_seen (get fs f)) ∙ ap is_some (sym (get-seen (λ k x. future_seen x) fs f)) ∙ ap (λ (p : Part ShareHall). is_future p.hall f) view

  module _ (kept : AreKeptAdmissions es fs ps next) where
    pub plain_of_it : (o : ℕ) (e : KeptAdmission) → get es o ≡ Some e → plain_of old.hall o ≡ e.plain
    plain_of_it o e there = ap (λ (p : Part ShareHall). plain_of p.hall o) (sym view) ∙ plain_is es fs ps o e (kept.hall.each o e there).good

    pub stands_for_it : (o : ℕ) (e : KeptAdmission) → get es o ≡ Some e → e.named ≡ true → StandsFor old.hall o e.fair
    stands_for_it o e there named = ap (λ (p : Part ShareHall). get p.hall.admissions o) (sym view) ∙ seen-at admission_seen es o e there
        ∙ (λ j. Some (record { free = e.fair.free; next = e.fair.next; shares = shares_seen e.fair.shares; named = named j }))

    pub valid_of : AreValid old.hall
    valid_of = subst (λ (p : Part ShareHall). AreValid p.hall) view kept.valid

    pub settled_of : AreSettled old.hall
    settled_of = subst (λ (p : Part ShareHall). AreSettled p.hall) view (λ o r there.
        let e = seen-back admission_seen es o r there in
        let g = (kept.hall.each o e.0 e.1).good in
        at e.0 r e.2 g.settled g.waiting)
      where
        at : (e : KeptAdmission) (r : Admission) → admission_seen e ≡ r → IsSettled e.fair → waiting_in e.fair.shares ≡ next_model.waiting_in (shares_seen e.fair.shares) → (r.free ≡ 0) ⊎ (next_model.waiting_in r.shares ≡ 0)
        at e r is (inl free) tallies = inl (sym (ap (λ (q : Admission). q.free) is) ∙ free)
        at e r is (inr nobody) tallies = inr (sym (ap (λ (q : Admission). next_model.waiting_in q.shares) is) ∙ sym tallies ∙ nobody)

-- ---- nothing is there
pub new_kept : AreKeptAdmissions empty empty empty 0
new_kept = record {
  hall = record {
    each = λ o e is. absurd (nothing_at KeptAdmission o e is);
    below = λ o e is. absurd (nothing_at KeptAdmission o e is);
    firsts = record { at = λ f x is. absurd (nothing_at KeptFuture f x is) };
    seconds = record { at = λ p x is. absurd (nothing_at SharePermit p x is) };
    low = omega arith;
  };
  valid = rw (seen-empty admission_seen, seen-empty future_seen) valid_start;
}

pub new_view : ◌≡◌ {A = Part ShareHall} (record { hall = hall_seen empty empty empty; next = 0 }) (record { hall = model.empty_hall; next = 0 })
new_view = (λ j. record { hall = record { admissions = seen-empty admission_seen j; futures = seen-empty future_seen j; permits = empty }; next = 0 })
