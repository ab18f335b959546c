-- what each event does to one admission, its future and its permit
use Rattle.std.proofs.Common.{◌≡◌, ◌≢◌, ℕ, ◌+◌, ◌-◌, ◌<◌, ◌≤◌, ◌^◌, ◌==◌, ◌&&◌, ◌++◌, inl, inr, Bool, true, false, not, cond, List, [], nat_eq, Some, None, IsSome, is_some, if◌then◌else◌, refl, ap, sym, subst, ◌∙◌, arith, append-nil}
use Rattle.std.specs.FinMap.{get, insert, remove, len}
use Rattle.std.proofs.lemmas.Bool.{cases_lt, eq-eqb, ne_eqb}
use Rattle.std.proofs.lemmas.Bool.Decides.{nat_tests}
use Rattle.mea_base.specs.declared.poll.Poll.{Poll}
use Rattle.mea_base.specs.declared.poll.Poll.TheVariants.{Ready, Pending}
use Rattle.mea_family.specs.declared.answer.Answer.TheVariants as answers
use Rattle.mea_family.specs.declared.stop.Stop.TheVariants.{Unknown}
use Rattle.mea_family.specs.Family.{Outcome, quietly}
use Rattle.mea_family.specs.Causes.{unknown_unless, borrowed_by}
use Rattle.mea_base.specs.Ready.{Waking}
use Rattle.mea_base.specs.Totals.{weight}
use Rattle.mea_base.proofs.Maps.{inside, is_there, value_in, by_put, removed_there, is_absent}
use Rattle.mea_base.proofs.Totals.{total-insert, total-remove}
use Rattle.mea_by_name.specs.ByName.{Names, seen, own, count}
use Rattle.mea_family.specs.Play.{Part, found}
use Rattle.mea_by_name.proofs.Cases.{found_is, if_true, if_false}
use Rattle.mea_by_name.proofs.Halls as halls
use Rattle.mea_by_name.proofs.Own.{seen-at, seen-none, seen-insert, seen-remove, seen-alike, own-seen, len-seen, own-at, own-none, own-put, own-gone, len-some, len-new, len-over, len-gone, count-put, count-over, count-new, count-gone, count-least, insert_same, put_gone, Moves, Stays, Comes, Goes}
use Rattle.mea_share_core.specs.declared.share_acquire.ShareStage.{ShareStage}
use Rattle.mea_share_core.specs.declared.share_acquire.ShareStage.TheVariants.{New, Queued, Done}
use Rattle.mea_share_core.specs.Share.{Share, IsWaiting, IsAdmitted, taken, queued, left, readied, given_up, released, weighing}
use Rattle.mea_share_core.specs.Groups.{held_in, waiting_in}
use Rattle.mea_share_core.specs.Fair.{Fair, IsSettled, share_of, waiters_of, is_queued, Becomes, IsSame, GivesBack, Belongs, Polls, Cancels}
use Rattle.mea_share_model.specs.Next.{share_at, put_share, next_of}
use Rattle.mea_share_model.specs.Admissions as model
use Rattle.mea_share_model.specs.Admissions.{Admission, ShareFuture, SharePermit, ShareHall, registered, with_share, passed, woken, tidied_admissions, things_of, plain_of, is_named, is_named_one, is_permit}
use Rattle.mea_share_model.specs.Actions as actions
use Rattle.mea_share_model.specs.Actions.{Action, Weigh, Begin, Try, End, Drop, zero_by, cause_in, act_in, end_by}
use Rattle.mea_share_model.specs.Valid.{is_of as model_is_of, HasNumber, HasAt, AreValid}
use Rattle.mea_share.specs.Kept.{KeptAdmission, KeptFuture, shares_seen, admission_seen, number_of, future_seen, hall_seen, AreGood, AreKept, of_future, of_permit, size_of, AreKeptAdmissions}
use Rattle.mea_share.specs.Entries.{begun, finished, is_over, Takes, Weighs, PollsEntry, HandsOn, EndsWait, Releases}
use Rattle.mea_share.proofs.Seen.{share_seen, alike_seen, Tallies, tallies_sets, tallies_alike, passes_seen}
use Rattle.mea_base.proofs.Tests.{over_is}
use Rattle.mea_share_model.proofs.Acting.{passed_next}
use Rattle.mea_share.proofs.LookUps.{may_poll}
use Rattle.mea_share.proofs.Sites.{Did, DidWake, HallOf, Owned, Site, all_waiters, becomes_seen, good_becomes, good_with_future, good_with_permit, good_without_future, good_without_permit, nameless, part_of, passes_sums, plain_is, rests_as, stays, waited, waiters, yields_as}

module _ {old : Part ShareHall} {i : ℕ} (s : Site old i) where
  pub drop_unknown : (o : ℕ) → get s.es o ≡ None → cause_in (hall_seen s.es s.fs s.ps) (Drop o) ≡ Some Unknown
  drop_unknown o none = ap (λ b. borrowed_by b (plain_of (hall_seen s.es s.fs s.ps) o)) (nameless s o none)

  -- ---- one admission
  module _ (o : ℕ) (e : KeptAdmission) (there : get s.es o ≡ Some e) where
    pub good : AreGood e (own of_future o s.fs) (own of_permit o s.ps)
    good = (s.kept.hall.each o e there).good

    was_owned : Owned e (own of_future o s.fs) (own of_permit o s.ps)
    was_owned = (s.kept.hall.each o e there).owned

    seen_there : get (seen admission_seen s.es) o ≡ Some (admission_seen e)
    seen_there = seen-at admission_seen s.es o e there

    step_is : (act : Admission → Outcome ShareHall) → found (get (seen admission_seen s.es) o) (hall_seen s.es s.fs s.ps) act ≡ act (admission_seen e)
    step_is act = found_is (get (seen admission_seen s.es) o) (hall_seen s.es s.fs s.ps) act (admission_seen e) seen_there

    -- ---- why an event on it is refused, as what is kept of it says
    named_at : is_named (hall_seen s.es s.fs s.ps) o ≡ e.named
    named_at = ap is_named_one seen_there

    pub use_cause : (b : Bool) → e.named ≡ b → unknown_unless (is_named (hall_seen s.es s.fs s.ps) o) ≡ unknown_unless b
    use_cause b is = ap unknown_unless (named_at ∙ is)

    pub weight_cause : (k n : ℕ) → cause_in (hall_seen s.es s.fs s.ps) (Weigh o k n) ≡ zero_by e.named n
    weight_cause k n = ap (λ b. zero_by b n) named_at

    pub drop_cause : cause_in (hall_seen s.es s.fs s.ps) (Drop o) ≡ borrowed_by e.named e.plain
    drop_cause = λ j. borrowed_by (named_at j) (plain_is s.es s.fs s.ps o e good j)

    -- its counts are far below their greatest values
    pub few_things : (e.things + 1 < 2 ^ 128) × (e.plain + 1 < 2 ^ 128)
    few_things =
        let bound = (s.kept.hall.below o e there).1 in
        let firsts = count-least (λ (x : KeptFuture). x.plain) (own of_future o s.fs) in
        let seconds = count-least (λ (x : SharePermit). x.plain) (own of_permit o s.ps) in
        (omega (arith, bound, s.kept.hall.low), omega (arith, bound, s.kept.hall.low, good.things, good.plain, firsts, seconds))

    turn : (e' : KeptAdmission) (fs : Names KeptFuture) (ps : Names SharePermit) → Moves of_future o i s.fs fs → Moves of_permit o i s.ps ps → AreGood e' (own of_future o fs) (own of_permit o ps) → Owned e' (own of_future o fs) (own of_permit o ps) → size_of e' ≤ size_of e + 1 → HallOf (insert s.es o e') fs ps (i + 1)
    turn e' fs ps firsts seconds now owned bound = halls.turns of_future of_permit AreKept size_of s.es s.fs s.ps s.next i s.kept.hall s.later s.fits o e e' fs ps there firsts seconds (record { good = now; owned = owned }) bound

    put_waiters : (e' : KeptAdmission) → all_waiters (insert s.es o e') + waiters e ≡ all_waiters s.es + waiters e'
    put_waiters e' =
        let here : weight (λ o (d : KeptAdmission). waiters d) o (get s.es o) ≡ waiters e = ap (weight (λ o (d : KeptAdmission). waiters d) o) there in
        omega (arith, here, total-insert (λ o (d : KeptAdmission). waiters d) s.es o e')

    seen_put : (e' : KeptAdmission) (r : Admission) (fs : Names KeptFuture) (ps : Names SharePermit) (xs : Names ShareFuture) → admission_seen e' ≡ r → seen future_seen fs ≡ xs
        → hall_seen (insert s.es o e') fs ps ≡ record { admissions = insert (seen admission_seen s.es) o r; futures = xs; permits = ps }
    seen_put e' r fs ps xs is futures = (λ j. record { admissions = (seen-insert admission_seen s.es o e' ∙ ap (insert (seen admission_seen s.es) o) is) j; futures = futures j; permits = ps })

    -- nothing of it changed
    pub same_put : (e' : KeptAdmission) → e' ≡ e → insert s.es o e' ≡ s.es
    same_put e' is = insert_same s.es o e' (there ∙ ap (λ d. Some d) (sym is))

    -- ---- a weight is set
    pub weighs : (k n : ℕ) (e' : KeptAdmission) → cause_in (hall_seen s.es s.fs s.ps) (Weigh o k n) ≡ None → Weighs e k n e' → Did s (Weigh o k n) answers.Done (insert s.es o e') s.fs s.ps
    weighs k n e' none did =
        let becomes = did.becomes in
        let h = hall_seen s.es s.fs s.ps in
        let t = weighing (share_of nat_eq e.fair k) n in
        let size : size_of e' ≤ size_of e + 1 = let things = ap (λ (d : KeptAdmission). d.things) did.rest in omega (arith, things, becomes.number) in
        rests_as s (Weigh o k n) (model.weigh h o k n (admission_seen e)) answers.Done (insert s.es o e') s.fs s.ps
        none
        (step_is (model.weigh h o k n))
        (turn e' s.fs s.ps Stays Stays (good_becomes e e' _ _ k t e.fair.free e.fair.next good did.rest becomes did.settled) (omega (arith, was_owned, becomes.shares.held, becomes.shares.waiting)) size)
        refl
        (seen_put e' _ s.fs s.ps (seen future_seen s.fs) (becomes_seen e e' k t (weighing (share_at (shares_seen e.fair.shares) k) n) e.fair.free e.fair.next did.rest becomes (ap (λ u. weighing u n) (sym (share_seen e.fair.shares k)))) refl)
        refl
        (omega (arith, put_waiters e', becomes.shares.waiting))

    -- ---- a future is made
    pub begins_one : (plain : Bool) (k : ℕ) (x : KeptFuture) → cause_in (hall_seen s.es s.fs s.ps) (Begin o k plain) ≡ None → x ≡ record { admission = o; key = k; stage = New; plain = plain }
        → Did s (Begin o k plain) answers.Made (insert s.es o (begun e plain)) (insert s.fs i x) s.ps
    begins_one plain k x none is =
        let fresh = halls.no_first of_future of_permit AreKept size_of s.es s.fs s.ps s.next i s.kept.hall s.later s.fits in
        let mine : of_future x ≡ o = ap (λ (y : KeptFuture). y.admission) is in
        let stage : x.stage ≡ New = ap (λ (y : KeptFuture). y.stage) is in
        let as_seen : future_seen x ≡ record { admission = o; key = k; plain = plain; number = None } = ap future_seen is in
        rests_as s (Begin o k plain) (model.begin (hall_seen s.es s.fs s.ps) i o k plain) answers.Made (insert s.es o (begun e plain)) (insert s.fs i x) s.ps none refl
        (turn (begun e plain) (insert s.fs i x) s.ps (Comes i x (omega arith) mine (λ y there. absurd (let none = fresh in cc))) Stays
        (rw (own-put of_future o s.fs i x mine) (subst (λ b. AreGood (begun e b) (insert (own of_future o s.fs) i x) (own of_permit o s.ps)) (ap (λ (y : KeptFuture). y.plain) is)
        (good_with_future e (own of_future o s.fs) (own of_permit o s.ps) i x good (own-none of_future o s.fs i fresh) (λ done. absurd (let differ = sym stage ∙ done in cc)))))
        (rw (own-put of_future o s.fs i x mine) (let counted = count-new (own of_future o s.fs) i (λ (y : KeptFuture). is_queued y.stage) x (own-none of_future o s.fs i fresh) in let new : ◌≡◌ {A = ℕ} (cond (is_queued x.stage) 1 0) 0 = ap (λ t. cond (is_queued t) 1 0) stage in omega (arith, was_owned, counted, new)))
        (omega arith))
        refl
        (λ j. record { admissions = seen-alike admission_seen s.es o e (begun e plain) there refl j; futures = (seen-insert future_seen s.fs i x ∙ ap (insert (seen future_seen s.fs) i) as_seen) j; permits = s.ps })
        refl
        (omega (arith, put_waiters (begun e plain)))

    -- nothing has changed
    pub unchanged : (e' : KeptAdmission) → e' ≡ e → AreKeptAdmissions (insert s.es o e') s.fs s.ps s.next × (◌≡◌ {A = Part ShareHall} (part_of (insert s.es o e') s.fs s.ps s.next) old)
    unchanged e' is = rw (same_put e' is) (s.kept, s.view)

    -- ---- a permit is taken
    free_is : (r : Admission) → 0 < r.free → (r.free == 0) ≡ false
    free_is r some = grind (arith, nat_tests)

    pub holds_one : (plain got : Bool) (k : ℕ) (e' : KeptAdmission) → cause_in (hall_seen s.es s.fs s.ps) (Try o k plain) ≡ None → (e.fair.free ≡ 0 → ⊥) → Takes e k got e'
        → Did s (Try o k plain) answers.Held (insert s.es o (begun e' plain)) s.fs (insert s.ps i (record { admission = o; key = k; plain = plain }))
    holds_one plain false k e' none some takes = absurd (some (takes.none refl).0)
    holds_one plain true k e' none some takes =
        let fresh = halls.no_second of_future of_permit AreKept size_of s.es s.fs s.ps s.next i s.kept.hall s.later s.fits in
        let becomes = (takes.some refl).1 in
        let t = taken (share_of nat_eq e.fair k) in
        let p : SharePermit = record { admission = o; key = k; plain = plain } in
        let h = hall_seen s.es s.fs s.ps in
        let u = taken (share_at (shares_seen e.fair.shares) k) in
        let things = ap (λ (d : KeptAdmission). d.things) takes.rest in
        rests_as s (Try o k plain) (quietly (record h { admissions = insert h.admissions o (model.taken_for (admission_seen e) k); permits = insert h.permits i p }) answers.Held) answers.Held (insert s.es o (begun e' plain)) s.fs (insert s.ps i p) none
        (step_is (model.try h i o k plain) ∙ if_false (e.fair.free == 0) _ _ (ne_eqb e.fair.free 0 some))
        (turn (begun e' plain) s.fs (insert s.ps i p) Stays (Comes i p (omega arith) refl (λ y there. absurd (cc)))
        (rw (own-put of_permit o s.ps i p refl) (good_with_permit e' (own of_future o s.fs) (own of_permit o s.ps) i p (good_becomes e e' _ _ k t (e.fair.free - 1) e.fair.next good takes.rest becomes takes.settled) (own-none of_permit o s.ps i fresh)))
        (rw (own-put of_permit o s.ps i p refl) (let more = len-new (own of_permit o s.ps) i p (own-none of_permit o s.ps i fresh) in omega (arith, was_owned, more, becomes.shares.held, becomes.shares.waiting)))
        (omega (arith, things, becomes.number)))
        refl
        (seen_put (begun e' plain) _ s.fs (insert s.ps i p) (seen future_seen s.fs) (becomes_seen e e' k t u (e.fair.free - 1) e.fair.next takes.rest becomes (ap taken (sym (share_seen e.fair.shares k)))) refl)
        refl
        (omega (arith, put_waiters (begun e' plain), becomes.shares.waiting))

    -- none is free
    pub lacks : (plain : Bool) (k : ℕ) → cause_in (hall_seen s.es s.fs s.ps) (Try o k plain) ≡ None → e.fair.free ≡ 0 → Did s (Try o k plain) answers.Lacking (insert s.es o e) s.fs s.ps
    lacks plain k none nothing = rw (same_put e refl) (rests_as s (Try o k plain) (quietly (hall_seen s.es s.fs s.ps) answers.Lacking) answers.Lacking s.es s.fs s.ps none
        (step_is (model.try (hall_seen s.es s.fs s.ps) i o k plain) ∙ if_true (e.fair.free == 0) _ _ (eq-eqb e.fair.free 0 nothing)) (stays s) refl refl refl refl)

    pub not_tried : (e' : KeptAdmission) → e' ≡ e → AreKeptAdmissions (insert s.es o e') s.fs s.ps s.next × (◌≡◌ {A = Part ShareHall} (part_of (insert s.es o e') s.fs s.ps s.next) old)
    not_tried e' is = rw (same_put e' is) (s.kept, s.view)

    -- ---- the end of its name
    pub tidies : (e' : KeptAdmission) (fs : Names KeptFuture) (ps : Names SharePermit) → Moves of_future o i s.fs fs → Moves of_permit o i s.ps ps → AreGood e' (own of_future o fs) (own of_permit o ps) → Owned e' (own of_future o fs) (own of_permit o ps) → size_of e' ≤ size_of e + 1
        → HallOf (if is_over e' then remove (insert s.es o e') o else insert s.es o e') fs ps (i + 1)
    tidies e' fs ps firsts seconds now owned bound = at (is_over e') refl
      where
        at : (b : Bool) → is_over e' ≡ b → HallOf (if b then remove (insert s.es o e') o else insert s.es o e') fs ps (i + 1)
        at false is = turn e' fs ps firsts seconds now owned bound
        at true is =
            let over = over_is e'.named e'.things is in
            let none = over.1 in
            rw (put_gone s.es o e')
            (halls.goes_out of_future of_permit AreKept size_of s.es s.fs s.ps s.next i s.kept.hall s.later s.fits o e fs ps there firsts seconds (let all = now.things in omega (arith, all, none)) (let all = now.things in omega (arith, all, none)))

    -- and is seen to be
    tidied_seen : (e' : KeptAdmission) (r : Admission) (fs : Names KeptFuture) (ps : Names SharePermit) (things : ℕ) → admission_seen e' ≡ r → things ≡ e'.things
        → seen admission_seen (if is_over e' then remove (insert s.es o e') o else insert s.es o e') ≡ tidied_admissions (seen admission_seen s.es) o r things
    tidied_seen e' r fs ps things is many = subst (λ q. seen admission_seen (if is_over e' then remove (insert s.es o e') o else insert s.es o e') ≡ tidied_admissions (seen admission_seen s.es) o q things) is
        (subst (λ n. seen admission_seen (if is_over e' then remove (insert s.es o e') o else insert s.es o e') ≡ tidied_admissions (seen admission_seen s.es) o (admission_seen e') n) (sym many) (at e'.named (e'.things == 0)))
      where
        at : (named none : Bool) → seen admission_seen (if not named && none then remove (insert s.es o e') o else insert s.es o e')
            ≡ (if named then insert (seen admission_seen s.es) o (admission_seen e') else if none then remove (seen admission_seen s.es) o else insert (seen admission_seen s.es) o (admission_seen e'))
        at true none = seen-insert admission_seen s.es o e'
        at false true = ap (seen admission_seen) (put_gone s.es o e') ∙ seen-remove admission_seen s.es o
        at false false = seen-insert admission_seen s.es o e'

    -- how many wait, where nobody waits at one that is over
    tidied_waiters : (e' : KeptAdmission) → (is_over e' ≡ true → waiters e' ≡ 0) → all_waiters (if is_over e' then remove (insert s.es o e') o else insert s.es o e') + waiters e ≡ all_waiters s.es + waiters e'
    tidied_waiters e' none = at (is_over e') refl
      where
        at : (b : Bool) → is_over e' ≡ b → all_waiters (if b then remove (insert s.es o e') o else insert s.es o e') + waiters e ≡ all_waiters s.es + waiters e'
        at false is = put_waiters e'
        at true is =
            let nobody = none is in
            let here : weight (λ o (d : KeptAdmission). waiters d) o (get s.es o) ≡ waiters e = ap (weight (λ o (d : KeptAdmission). waiters d) o) there in
            rw (put_gone s.es o e') (omega (arith, nobody, here, total-remove (λ o (d : KeptAdmission). waiters d) s.es o))

    nobody_over : (e' : KeptAdmission) (fs : Names KeptFuture) (ps : Names SharePermit) → AreGood e' fs ps → Owned e' fs ps → is_over e' ≡ true → waiters e' ≡ 0
    nobody_over e' fs ps now owned is =
        let over = over_is e'.named e'.things is in
        let none = over.1 in
        let few = count-least (λ (x : KeptFuture). is_queued x.stage) fs in
        omega (arith, none, now.things, owned, few)

    things_are : (e' : KeptAdmission) (fs : Names KeptFuture) (ps : Names SharePermit) (xs : Names ShareFuture) → AreGood e' (own of_future o fs) (own of_permit o ps) → seen future_seen fs ≡ xs
        → len (own (λ (x : ShareFuture). x.admission) o xs) + len (own (λ (x : SharePermit). x.admission) o ps) ≡ e'.things
    things_are e' fs ps xs now is =
        let futures = ap (λ m. len (own (λ (x : ShareFuture). x.admission) o m)) (sym is) ∙ ap (λ m. len m) (own-seen of_future (λ (x : ShareFuture). x.admission) future_seen (λ x. refl) o fs) ∙ len-seen future_seen (own of_future o fs) in
        omega (arith, futures, now.things)

    -- ---- the end of its name
    abbrev unnamed : KeptAdmission
    unnamed = record e { named = false }

    unnamed_good : AreGood unnamed (own of_future o s.fs) (own of_permit o s.ps)
    unnamed_good = record { quiet = good.quiet; settled = good.settled; waiting = good.waiting; lasting = good.lasting; things = good.things; plain = good.plain }

    pub drops : cause_in (hall_seen s.es s.fs s.ps) (Drop o) ≡ None
        → Did s (Drop o) answers.Done (if is_over (record e { named = false }) then remove (insert s.es o (record e { named = false })) o else insert s.es o (record e { named = false })) s.fs s.ps
    drops none =
        let h = hall_seen s.es s.fs s.ps in
        rests_as s (Drop o) (model.drop h o (admission_seen e)) answers.Done (if is_over unnamed then remove (insert s.es o unnamed) o else insert s.es o unnamed) s.fs s.ps none
        (step_is (model.drop h o))
        (tidies unnamed s.fs s.ps Stays Stays unnamed_good was_owned (omega arith))
        refl
        (λ j. record { admissions = tidied_seen unnamed (admission_seen unnamed) s.fs s.ps (things_of h o) refl (things_are unnamed s.fs s.ps (seen future_seen s.fs) unnamed_good refl) j; futures = seen future_seen s.fs; permits = s.ps })
        refl
        (omega (arith, tidied_waiters unnamed (nobody_over unnamed (own of_future o s.fs) (own of_permit o s.ps) unnamed_good was_owned)))

    -- ---- what hands a waker on
    handed_rest : (e' : KeptAdmission) (f : Fair ℕ ℕ) (before after : Waking ℕ) → HandsOn e f e' before after → (e'.things ≡ e.things) × (e'.plain ≡ e.plain) × (e'.named ≡ e.named) × (e'.fair ≡ record f { wakes = [] })
    handed_rest e' f before after hands = (ap (λ (d : KeptAdmission). d.things) hands.rest, ap (λ (d : KeptAdmission). d.plain) hands.rest, ap (λ (d : KeptAdmission). d.named) hands.rest, ap (λ (d : KeptAdmission). d.fair) hands.rest)

    handed_good : (e' : KeptAdmission) (f : Fair ℕ ℕ) (before after : Waking ℕ) → HandsOn e f e' before after → Tallies f.shares → AreGood e' (own of_future o s.fs) (own of_permit o s.ps)
    handed_good e' f before after hands tallies =
        let rest = handed_rest e' f before after hands in
        record {
          quiet = ap (λ (g : Fair ℕ ℕ). g.wakes) rest.3;
          settled = hands.settled;
          waiting = subst (λ (g : Fair ℕ ℕ). Tallies g.shares) (sym rest.3) tallies;
          lasting = good.lasting;
          things = rest.0 ∙ good.things;
          plain = rest.1 ∙ good.plain;
        }

    -- a permit came back from a key, and passed on
    pub record Gave (e' : KeptAdmission) (f : Fair ℕ ℕ) (r1 : Admission) : Type 0 where
      pub is : admission_seen e' ≡ passed r1 (next_of r1.shares)
      pub wakes : f.wakes ≡ woken (next_of r1.shares)
      pub tallies : Tallies f.shares

    gave : (k : ℕ) (t u : Share ℕ) (e' : KeptAdmission) (f : Fair ℕ ℕ) (before after : Waking ℕ) → GivesBack nat_eq e.fair f k t → t ≡ u → u.waiting ≡ (share_at (shares_seen e.fair.shares) k).waiting → HandsOn e f e' before after
        → Gave e' f (with_share (admission_seen e) k u)
    gave k t u e' f before after gives same waits hands =
        let b = gives.between in
        let eb : KeptAdmission = record e { fair = b } in
        let m = shares_seen e.fair.shares in
        let rest = handed_rest e' f before after hands in
        let between : admission_seen eb ≡ with_share (admission_seen e) k u = becomes_seen e eb k t u e.fair.free e.fair.next refl gives.becomes same in
        let shares : shares_seen b.shares ≡ put_share m k u = ap (λ (r : Admission). r.shares) between in
        let tallies = tallies_sets e.fair.shares b.shares k t gives.becomes.shares good.waiting in
        let passed_on = passes_seen b f e.named gives.passes tallies (gives.becomes.wakes ∙ good.quiet) (λ j l n first second.
        s.kept.valid.once o (admission_seen e) seen_there j l n
        (inl (waited m k u waits j n (subst (λ x. IsWaiting (share_at x j) n) shares first))) (inl (waited m k u waits l n (subst (λ x. IsWaiting (share_at x l) n) shares second)))) in
        let now : admission_seen e' ≡ record { free = f.free; next = f.next; shares = shares_seen f.shares; named = e.named } =
        (λ j. record { free = (rest.3 j).free; next = (rest.3 j).next; shares = shares_seen (rest.3 j).shares; named = rest.2 j }) in
        record {
          is = now ∙ passed_on.0 ∙ ap (λ r. passed r (next_of r.shares)) between;
          wakes = passed_on.1 ∙ ap (λ (r : Admission). woken (next_of r.shares)) between;
          tallies = passed_on.2;
        }

    -- and what ended is gone
    closes : (a : Action) (e' : KeptAdmission) (f : Fair ℕ ℕ) (r : Admission) (ws : List ℕ) (plain : Bool) (fs : Names KeptFuture) (ps : Names SharePermit) (xs : Names ShareFuture) (before after : Waking ℕ) → HandsOn e f e' before after
        → admission_seen e' ≡ r → f.wakes ≡ ws → seen future_seen fs ≡ xs → cause_in (hall_seen s.es s.fs s.ps) a ≡ None
        → act_in (hall_seen s.es s.fs s.ps) i a ≡ record { hall = model.tidied (record { admissions = seen admission_seen s.es; futures = xs; permits = ps }) o r; reply = answers.Done; wakes = ws }
        → Moves of_future o i s.fs fs → Moves of_permit o i s.ps ps → AreGood (finished e' plain) (own of_future o fs) (own of_permit o ps) → Owned (finished e' plain) (own of_future o fs) (own of_permit o ps)
        → size_of (finished e' plain) ≤ size_of e + 1
        → DidWake s a answers.Done (if is_over (finished e' plain) then remove (insert s.es o (finished e' plain)) o else insert s.es o (finished e' plain)) fs ps before after
    closes a e' f r ws plain fs ps xs before after hands is wakes futures none does firsts seconds now owned bound =
        let e2 = finished e' plain in
        let h : ShareHall = record { admissions = seen admission_seen s.es; futures = xs; permits = ps } in
        let rest = handed_rest e' f before after hands in
        let waits = ap (λ (g : Fair ℕ ℕ). waiters_of g) rest.3 in
        yields_as s a (record { hall = model.tidied h o r; reply = answers.Done; wakes = ws }) answers.Done (if is_over e2 then remove (insert s.es o e2) o else insert s.es o e2) fs ps none does
        (tidies e2 fs ps firsts seconds now owned bound)
        refl
        (λ j. record { admissions = tidied_seen e2 r fs ps (things_of h o) is (things_are e2 fs ps xs now futures) j; futures = futures j; permits = ps })
        before after (hands.woken ∙ ap (λ v. before.wakers ++ v) wakes)
        (omega (arith, hands.counted, waits, tidied_waiters e2 (nobody_over e2 (own of_future o fs) (own of_permit o ps) now owned)))

    -- ---- a permit ends
    module _ (q : ℕ) (p : SharePermit) (is : get s.ps q ≡ Some p) (mine : p.admission ≡ o) where
      own_permit : get (own of_permit o s.ps) q ≡ Some p
      own_permit = own-at of_permit o s.ps q p is mine

      pub permit_lives : 0 < (share_of nat_eq e.fair p.key).living
      permit_lives =
          let all = s.kept.valid.living o p.key (admission_seen e) seen_there in
          let here = ap (λ (t : Share ℕ). t.living) (share_seen e.fair.shares p.key) in
          let one = count-gone s.ps q (model_is_of o p.key) p is in
          let counts : ◌≡◌ {A = ℕ} (cond (model_is_of o p.key p) 1 0) 1 = ap (λ b. cond (b && (p.key == p.key)) 1 0) (eq-eqb p.admission o mine) ∙ ap (λ b. cond b 1 0) (eq-eqb p.key p.key refl) in
          omega (arith, all, here, one, counts)

      -- its counts allow one less
      pub permit_counts : (1 ≤ e.things) × (cond p.plain 1 0 ≤ e.plain)
      permit_counts =
          let some = len-some (own of_permit o s.ps) q p own_permit in
          let one = count-gone (own of_permit o s.ps) q (λ (x : SharePermit). x.plain) p own_permit in
          (omega (arith, good.things, some), omega (arith, good.plain, one))

      pub ends_permit : (e' : KeptAdmission) (before after : Waking ℕ) → get s.fs q ≡ None → Releases e p.key e' before after
          → DidWake s (End q) answers.Done (if is_over (finished e' p.plain) then remove (insert s.es o (finished e' p.plain)) o else insert s.es o (finished e' p.plain)) s.fs (remove s.ps q) before after
      ends_permit e' before after none did =
          let f = did.0 in
          let gives = did.1 in
          let hands = did.2 in
          let h = hall_seen s.es s.fs s.ps in
          let t = released (share_of nat_eq e.fair p.key) in
          let u = released (share_at (shares_seen e.fair.shares) p.key) in
          let r1 = with_share (admission_seen e) p.key u in
          let back = gave p.key t u e' f before after gives (ap released (sym (share_seen e.fair.shares p.key))) refl hands in
          let rest = handed_rest e' f before after hands in
          let no_future : get (seen future_seen s.fs) q ≡ None = seen-none future_seen s.fs q none in
          let here = handed_good e' f before after hands back.tallies in
          let fewer = len-gone (own of_permit o s.ps) q p own_permit in
          let some = len-some (own of_permit o s.ps) q p own_permit in
          let sums = passes_sums gives.between f gives.passes in
          let waits = ap (λ (g : Fair ℕ ℕ). waiting_in g.shares) rest.3 in
          let holds = ap (λ (g : Fair ℕ ℕ). held_in g.shares) rest.3 in
          let lives = permit_lives in
          let number = ap (λ (r : Admission). r.next) back.is ∙ passed_next r1 (next_of r1.shares) in
          closes (End q) e' f (passed r1 (next_of r1.shares)) (woken (next_of r1.shares)) p.plain s.fs (remove s.ps q) (seen future_seen s.fs) before after hands back.is back.wakes refl
          (ap (λ b. unknown_unless (if b then true else is_permit h q)) (ap is_some no_future) ∙ ap unknown_unless (is_there (get s.ps q) p is))
          (ap (end_by h q) no_future ∙ found_is (get s.ps q) h _ p is ∙ ap (λ k. found (get (seen admission_seen s.es) k) h (model.end_permit h q p)) mine ∙ step_is (model.end_permit h q p)
          ∙ ap (λ k. model.gives_back (record h { permits = remove s.ps q }) k r1) mine)
          Stays (Goes q (λ y there. ap of_permit (sym (inside (sym is ∙ there))) ∙ mine))
          (rw (own-gone of_permit o s.ps q) (good_without_permit e' (own of_future o s.fs) (own of_permit o s.ps) q p here own_permit))
          (rw (own-gone of_permit o s.ps q) (omega (arith, was_owned, fewer, some, sums, waits, holds, gives.becomes.shares.held, gives.becomes.shares.waiting, lives)))
          (omega (arith, rest.0, number))

    -- ---- a future
    module _ (f : ℕ) (x : KeptFuture) (is : get s.fs f ≡ Some x) (mine : x.admission ≡ o) where
      own_future : get (own of_future o s.fs) f ≡ Some x
      own_future = own-at of_future o s.fs f x is mine

      seen_future : get (seen future_seen s.fs) f ≡ Some (future_seen x)
      seen_future = seen-at future_seen s.fs f x is

      was_of : (y : KeptFuture) → get s.fs f ≡ Some y → of_future y ≡ o
      was_of y there = ap of_future (sym (inside (sym is ∙ there))) ∙ mine

      not_done : x.stage ≢ Done
      not_done = good.lasting f x own_future

      has_number : (n : ℕ) → x.stage ≡ Queued n → HasNumber (share_of nat_eq e.fair x.key) n
      has_number n stage =
          let there_is = s.kept.valid.there f (future_seen x) n seen_future (ap number_of stage) in
          subst (λ t. HasNumber t n) (share_seen e.fair.shares x.key) (subst (λ r. HasAt r x.key n) (ap (get (seen admission_seen s.es)) mine ∙ seen_there) there_is)

      pub belongs : Belongs nat_eq e.fair x.key x.stage
      belongs = at x.stage refl
        where
          at : (t : ShareStage) → x.stage ≡ t → Belongs nat_eq e.fair x.key t
          at New stage = tt
          at (Queued n) stage = has_number n stage
          at Done stage = tt

      queued_count : ◌≡◌ {A = ℕ} (count (λ (y : KeptFuture). is_queued y.stage) (remove (own of_future o s.fs) f) + cond (is_queued x.stage) 1 0) (count (λ (y : KeptFuture). is_queued y.stage) (own of_future o s.fs))
      queued_count = count-gone (own of_future o s.fs) f (λ (y : KeptFuture). is_queued y.stage) x own_future

      pub future_counts : (1 ≤ e.things) × (cond x.plain 1 0 ≤ e.plain)
      future_counts =
          let some = len-some (own of_future o s.fs) f x own_future in
          let one = count-gone (own of_future o s.fs) f (λ (y : KeptFuture). y.plain) x own_future in
          (omega (arith, good.things, some), omega (arith, good.plain, one))

      -- ---- it ends
      ended : (e' : KeptAdmission) (g : Fair ℕ ℕ) (r : Admission) (ws : List ℕ) (d : ℕ) (before after : Waking ℕ) → HandsOn e g e' before after → Tallies g.shares → admission_seen e' ≡ r → g.wakes ≡ ws → r.next ≡ e.fair.next
          → waiting_in g.shares + held_in g.shares + d ≤ waiting_in e.fair.shares + held_in e.fair.shares → cond (is_queued x.stage) 1 0 ≡ d
          → model.end_at (record { admissions = seen admission_seen s.es; futures = remove (seen future_seen s.fs) f; permits = s.ps }) (future_seen x) (admission_seen e) (number_of x.stage)
          ≡ record { hall = model.tidied (record { admissions = seen admission_seen s.es; futures = remove (seen future_seen s.fs) f; permits = s.ps }) o r; reply = answers.Done; wakes = ws }
          → DidWake s (End f) answers.Done (if is_over (finished e' x.plain) then remove (insert s.es o (finished e' x.plain)) o else insert s.es o (finished e' x.plain)) (remove s.fs f) s.ps before after
      ended e' g r ws d before after hands tallies sees wakes next sums queued does =
          let h = hall_seen s.es s.fs s.ps in
          let rest = handed_rest e' g before after hands in
          let waits = ap (λ (k : Fair ℕ ℕ). waiting_in k.shares) rest.3 in
          let holds = ap (λ (k : Fair ℕ ℕ). held_in k.shares) rest.3 in
          let number = ap (λ (r : Admission). r.next) sees in
          closes (End f) e' g r ws x.plain (remove s.fs f) s.ps (remove (seen future_seen s.fs) f) before after hands sees wakes (seen-remove future_seen s.fs f)
          (ap (λ b. unknown_unless (if b then true else is_permit h f)) (ap is_some seen_future))
          (ap (end_by h f) seen_future ∙ ap (λ k. model.end_future h f (future_seen x) (get (seen admission_seen s.es) k)) mine ∙ ap (model.end_future h f (future_seen x)) seen_there ∙ does)
          (Goes f was_of) Stays
          (rw (own-gone of_future o s.fs f) (good_without_future e' (own of_future o s.fs) (own of_permit o s.ps) f x (handed_good e' g before after hands tallies) own_future))
          (rw (own-gone of_future o s.fs f) (omega (arith, was_owned, sums, queued, queued_count, waits, holds)))
          (omega (arith, rest.0, number, next))

      abbrev After : KeptAdmission → Waking ℕ → Waking ℕ → Type 0
      After e' before after = DidWake s (End f) answers.Done (if is_over (finished e' x.plain) then remove (insert s.es o (finished e' x.plain)) o else insert s.es o (finished e' x.plain)) (remove s.fs f) s.ps before after

      abbrev without : ShareHall
      without = record { admissions = seen admission_seen s.es; futures = remove (seen future_seen s.fs) f; permits = s.ps }

      ends_new : (e' : KeptAdmission) (g : Fair ℕ ℕ) (before after : Waking ℕ) → HandsOn e g e' before after → g ≡ e.fair → x.stage ≡ New → After e' before after
      ends_new e' g before after hands same stage =
          let rest = handed_rest e' g before after hands in
          let fair = rest.3 ∙ ap (λ (k : Fair ℕ ℕ). record k { wakes = [] }) same in
          let sums = ap (λ (k : Fair ℕ ℕ). waiting_in k.shares + held_in k.shares) same in
          ended e' g (admission_seen e) [] 0 before after hands (subst (λ (k : Fair ℕ ℕ). Tallies k.shares) (sym same) good.waiting)
          (λ j. record { free = (fair j).free; next = (fair j).next; shares = shares_seen (fair j).shares; named = rest.2 j }) (ap (λ (k : Fair ℕ ℕ). k.wakes) same ∙ good.quiet) refl (omega (arith, sums)) (ap (λ t. cond (is_queued t) 1 0) stage)
          (ap (λ t. model.end_at without (future_seen x) (admission_seen e) (number_of t)) stage ∙ ap (λ k. quietly (model.tidied without k (admission_seen e)) answers.Done) mine)

      -- one that waits leaves
      ends_waiting : (e' : KeptAdmission) (g : Fair ℕ ℕ) (n : ℕ) (before after : Waking ℕ) → HandsOn e g e' before after → x.stage ≡ Queued n → IsWaiting (share_of nat_eq e.fair x.key) n → Becomes nat_eq e.fair g x.key (left (share_of nat_eq e.fair x.key) n) e.fair.free e.fair.next
          → After e' before after
      ends_waiting e' g n before after hands stage waits becomes =
          let rest = handed_rest e' g before after hands in
          let t = share_of nat_eq e.fair x.key in
          let u = share_at (shares_seen e.fair.shares) x.key in
          let same : u ≡ t = share_seen e.fair.shares x.key in
          let ek : KeptAdmission = record e { fair = g } in
          let as_seen = becomes_seen e ek x.key (left t n) (left u n) e.fair.free e.fair.next refl becomes (ap (λ (v : Share ℕ). left v n) (sym same)) in
          let w = value_in (get t.waiting n) waits in
          let gone = len-gone t.waiting n w.0 w.1 in
          let some = len-some t.waiting n w.0 w.1 in
          ended e' g (with_share (admission_seen e) x.key (left u n)) [] 1 before after hands (tallies_sets e.fair.shares g.shares x.key (left t n) becomes.shares good.waiting)
          ((λ j. record { free = (rest.3 j).free; next = (rest.3 j).next; shares = shares_seen (rest.3 j).shares; named = rest.2 j }) ∙ as_seen) (becomes.wakes ∙ good.quiet) refl
          (omega (arith, becomes.shares.waiting, becomes.shares.held, gone, some)) (ap (λ t. cond (is_queued t) 1 0) stage)
          (ap (λ t. model.end_at without (future_seen x) (admission_seen e) (number_of t)) stage
          ∙ if_true (is_some (get u.waiting n)) _ _ (ap (λ (v : Share ℕ). is_some (get v.waiting n)) same ∙ waits) ∙ ap (λ k. quietly (model.tidied without k (with_share (admission_seen e) x.key (left u n))) answers.Done) mine)

      -- one that was admitted gives its permit back
      ends_admitted : (e' : KeptAdmission) (g : Fair ℕ ℕ) (n : ℕ) (before after : Waking ℕ) → HandsOn e g e' before after → x.stage ≡ Queued n → IsAdmitted (share_of nat_eq e.fair x.key) n → is_some (get (share_of nat_eq e.fair x.key).waiting n) ≡ false
          → GivesBack nat_eq e.fair g x.key (given_up (share_of nat_eq e.fair x.key) n) → After e' before after
      ends_admitted e' g n before after hands stage was quiet gives =
          let t = share_of nat_eq e.fair x.key in
          let u = share_at (shares_seen e.fair.shares) x.key in
          let same : u ≡ t = share_seen e.fair.shares x.key in
          let r1 = with_share (admission_seen e) x.key (given_up u n) in
          let back = gave x.key (given_up t n) (given_up u n) e' g before after gives (ap (λ (v : Share ℕ). given_up v n) (sym same)) refl hands in
          let w = value_in (get t.admitted n) was in
          let gone = len-gone t.admitted n w.0 w.1 in
          let some = len-some t.admitted n w.0 w.1 in
          let sums = passes_sums gives.between g gives.passes in
          ended e' g (passed r1 (next_of r1.shares)) (woken (next_of r1.shares)) 1 before after hands back.tallies back.is back.wakes (passed_next r1 (next_of r1.shares))
          (omega (arith, sums, gives.becomes.shares.waiting, gives.becomes.shares.held, gone, some)) (ap (λ t. cond (is_queued t) 1 0) stage)
          (ap (λ t. model.end_at without (future_seen x) (admission_seen e) (number_of t)) stage
          ∙ if_false (is_some (get u.waiting n)) _ _ (ap (λ (v : Share ℕ). is_some (get v.waiting n)) same ∙ quiet) ∙ ap (λ k. model.gives_back without k r1) mine)

      pub ends_future : (e' : KeptAdmission) (before after : Waking ℕ) → EndsWait e x e' before after → After e' before after
      ends_future e' before after did = by_stage x.stage refl did.1
        where
          by_waits : (n : ℕ) (b : Bool) → is_some (get (share_of nat_eq e.fair x.key).waiting n) ≡ b → x.stage ≡ Queued n → Cancels nat_eq e.fair x.key (Queued n) did.0 → HasNumber (share_of nat_eq e.fair x.key) n → After e' before after
          by_waits n true waits stage cancels has = ends_waiting e' did.0 n before after did.2 stage waits (cancels.0 waits)
          by_waits n false quiet stage cancels (inl waits) = absurd (let yes : is_some (get (share_of nat_eq e.fair x.key).waiting n) ≡ true = waits in cc)
          by_waits n false quiet stage cancels (inr was) = ends_admitted e' did.0 n before after did.2 stage was quiet (cancels.1 was)

          by_stage : (t : ShareStage) → x.stage ≡ t → Cancels nat_eq e.fair x.key t did.0 → After e' before after
          by_stage New stage cancels = ends_new e' did.0 before after did.2 cancels stage
          by_stage (Queued n) stage cancels = by_waits n (is_some (get (share_of nat_eq e.fair x.key).waiting n)) refl stage cancels (has_number n stage)
          by_stage Done stage cancels = absurd (not_done stage)

      -- ---- it is polled
      fresh_permit : get s.ps i ≡ None
      fresh_permit = halls.no_second of_future of_permit AreKept size_of s.es s.fs s.ps s.next i s.kept.hall s.later s.fits

      abbrev permit : SharePermit
      permit = record { admission = x.admission; key = x.key; plain = x.plain }

      poll_step : (w : ℕ) → act_in (hall_seen s.es s.fs s.ps) i (actions.Poll f w) ≡ model.poll_at (hall_seen s.es s.fs s.ps) i f w (future_seen x) (admission_seen e) (number_of x.stage)
      poll_step w =
          found_is (get (seen future_seen s.fs) f) (hall_seen s.es s.fs s.ps) _ (future_seen x) seen_future
          ∙ ap (λ k. found (get (seen admission_seen s.es) k) (hall_seen s.es s.fs s.ps) (model.poll (hall_seen s.es s.fs s.ps) i f w (future_seen x))) mine ∙ step_is (model.poll (hall_seen s.es s.fs s.ps) i f w (future_seen x))

      -- a number that waits is not new
      next_waits_not : get (share_of nat_eq e.fair x.key).waiting e.fair.next ≡ None
      next_waits_not = is_absent (get (share_of nat_eq e.fair x.key).waiting e.fair.next) (λ waits.
          let low = s.kept.valid.below o (admission_seen e) seen_there x.key e.fair.next (inl (subst (λ t. IsWaiting t e.fair.next) (sym (share_seen e.fair.shares x.key)) waits)) in absurd (omega (arith, low)))

      -- it goes on, and waits
      pends : (e' : KeptAdmission) (y : KeptFuture) (w : ℕ) (o' : Outcome ShareHall) (more : ℕ) (before after : Waking ℕ) → IsSettled e'.fair → e' ≡ record e { fair = e'.fair } → Tallies e'.fair.shares → e'.fair.wakes ≡ []
          → e'.fair.next ≤ e.fair.next + 1 → y ≡ record x { stage = y.stage } → y.stage ≢ Done → act_in (hall_seen s.es s.fs s.ps) i (actions.Poll f w) ≡ o' → o'.reply ≡ answers.Pending → o'.wakes ≡ []
          → hall_seen (insert s.es o e') (insert s.fs f y) s.ps ≡ o'.hall → waiters e' ≡ waiters e + more → held_in e'.fair.shares ≡ held_in e.fair.shares → cond (is_queued y.stage) 1 0 ≡ cond (is_queued x.stage) 1 0 + more
          → after ≡ record before { registered = before.registered + more } → DidWake s (actions.Poll f w) answers.Pending (insert s.es o e') (insert s.fs f y) s.ps before after
      pends e' y w o' more before after settled rest tallies quiet number future lasts does reply silent moved waits holds queued counted =
          let things = ap (λ (d : KeptAdmission). d.things) rest in
          let plain = ap (λ (d : KeptAdmission). d.plain) rest in
          let mine_too : y.admission ≡ o = ap (λ (z : KeptFuture). z.admission) future ∙ mine in
          let alike : y.plain ≡ x.plain = ap (λ (z : KeptFuture). z.plain) future in
          let as_many = len-over (own of_future o s.fs) f y x own_future in
          let plains = count-over (own of_future o s.fs) f (λ (z : KeptFuture). z.plain) y x own_future alike in
          let puts = count-put (own of_future o s.fs) f (λ (z : KeptFuture). is_queued z.stage) y in
          let had : weight (λ k (z : KeptFuture). cond (is_queued z.stage) 1 0) f (get (own of_future o s.fs) f) ≡ cond (is_queued x.stage) 1 0 = ap (weight (λ k (z : KeptFuture). cond (is_queued z.stage) 1 0) f) own_future in
          (yields_as s (actions.Poll f w) o' answers.Pending (insert s.es o e') (insert s.fs f y) s.ps (may_poll s f w x is) does
          (turn e' (insert s.fs f y) s.ps (Comes f y (let low = (s.kept.hall.firsts.at f x is).0 in omega (arith, low, s.later)) mine_too was_of) Stays
          (rw (own-put of_future o s.fs f y mine_too) (record {
            quiet = quiet;
            settled = settled;
            waiting = tallies;
            lasting = by_put (own of_future o s.fs) f y (λ k p. (z : KeptFuture) → p ≡ Some z → z.stage ≢ Done) (λ z there. subst (λ (v : KeptFuture). v.stage ≢ Done) (inside there) lasts) (λ k apart z there. good.lasting k z there);
            things = omega (arith, things, good.things, as_many);
            plain = omega (arith, plain, good.plain, plains);
          }))
          (rw (own-put of_future o s.fs f y mine_too) (omega (arith, was_owned, waits, holds, queued, puts, had)))
          (omega (arith, things, number)))
          (sym reply) moved before after
          (ap (λ (a : Waking ℕ). a.wakers) counted ∙ sym (ap (λ ws. before.wakers ++ ws) silent ∙ append-nil before.wakers))
          (let registered_now = ap (λ (a : Waking ℕ). a.registered) counted in omega (arith, registered_now, waits, put_waiters e')))

      -- it is ready, and a permit
      gets : (e' : KeptAdmission) (y : KeptFuture) (w : ℕ) (r : Admission) (before after : Waking ℕ) → IsSettled e'.fair → e' ≡ record e { fair = e'.fair } → Tallies e'.fair.shares → e'.fair.wakes ≡ [] → e'.fair.next ≡ e.fair.next
          → act_in (hall_seen s.es s.fs s.ps) i (actions.Poll f w) ≡ model.becomes_permit (hall_seen s.es s.fs s.ps) i f (future_seen x) r → admission_seen e' ≡ r → waiters e' ≡ waiters e
          → held_in e'.fair.shares + cond (is_queued x.stage) 1 0 ≡ held_in e.fair.shares + 1 → after ≡ before
          → DidWake s (actions.Poll f w) answers.Ready (insert s.es o e') (remove (insert s.fs f y) f) (insert s.ps i permit) before after
      gets e' y w r before after settled rest tallies quiet number does sees waits holds counted =
          let things = ap (λ (d : KeptAdmission). d.things) rest in
          let plain = ap (λ (d : KeptAdmission). d.plain) rest in
          let h = hall_seen s.es s.fs s.ps in
          let fewer = len-gone (own of_future o s.fs) f x own_future in
          let some = len-some (own of_future o s.fs) f x own_future in
          let plains = count-gone (own of_future o s.fs) f (λ (z : KeptFuture). z.plain) x own_future in
          let none = own-none of_permit o s.ps i fresh_permit in
          let more = len-new (own of_permit o s.ps) i permit none in
          let more_plain = count-new (own of_permit o s.ps) i (λ (z : SharePermit). z.plain) permit none in
          rw (put_gone s.fs f y) (yields_as s (actions.Poll f w) (model.becomes_permit h i f (future_seen x) r) answers.Ready (insert s.es o e') (remove s.fs f) (insert s.ps i permit) (may_poll s f w x is) does
          (turn e' (remove s.fs f) (insert s.ps i permit) (Goes f was_of) (Comes i permit (omega arith) mine (λ z there. absurd (let none = fresh_permit in cc)))
          (rw (own-gone of_future o s.fs f, own-put of_permit o s.ps i permit mine) (record {
            quiet = quiet;
            settled = settled;
            waiting = tallies;
            lasting = λ k z there. good.lasting k z (removed_there (own of_future o s.fs) f k z there);
            things = omega (arith, things, good.things, fewer, some, more);
            plain = omega (arith, plain, good.plain, plains, more_plain);
          }))
          (rw (own-gone of_future o s.fs f, own-put of_permit o s.ps i permit mine) (omega (arith, was_owned, waits, holds, queued_count, more)))
          (omega (arith, things, number)))
          refl
          (λ j. record { admissions = (seen-insert admission_seen s.es o e' ∙ ap (insert (seen admission_seen s.es) o) sees ∙ ap (λ k. insert (seen admission_seen s.es) k r) (sym mine)) j; futures = seen-remove future_seen s.fs f j; permits = insert s.ps i permit })
          before after (ap (λ (a : Waking ℕ). a.wakers) counted ∙ sym (append-nil before.wakers))
          (let registered_now = ap (λ (a : Waking ℕ). a.registered) counted in omega (arith, registered_now, waits, put_waiters e')))

      no_ready : {A : Type 0} (u : Unit {0}) → ◌≡◌ {A = Poll (Unit {0})} (Ready u) Pending → A
      no_ready u is = absurd (cc)

      no_pending : {A : Type 0} (u : Unit {0}) → ◌≡◌ {A = Poll (Unit {0})} Pending (Ready u) → A
      no_pending u is = absurd (cc)

      no_new_done : (n : ℕ) → ◌≢◌ {A = ShareStage} (Queued n) Done
      no_new_done n is = absurd (cc)

      share_here : share_at (shares_seen e.fair.shares) x.key ≡ share_of nat_eq e.fair x.key
      share_here = share_seen e.fair.shares x.key

      abbrev waits_at : ℕ → Bool
      waits_at n = is_some (get (share_of nat_eq e.fair x.key).waiting n)

      seen_waits : (n : ℕ) → is_some (get (share_at (shares_seen e.fair.shares) x.key).waiting n) ≡ waits_at n
      seen_waits n = ap (λ (t : Share ℕ). is_some (get t.waiting n)) share_here

      -- it begins to wait
      begins_to_wait : (e' : KeptAdmission) (y : KeptFuture) (w : ℕ) (before after : Waking ℕ) → PollsEntry e x w Pending e' y before after → x.stage ≡ New → e.fair.free ≡ 0 → y.stage ≡ Queued e.fair.next
          → Becomes nat_eq e.fair e'.fair x.key (queued (share_of nat_eq e.fair x.key) e.fair.next w) 0 (e.fair.next + 1) → DidWake s (actions.Poll f w) answers.Pending (insert s.es o e') (insert s.fs f y) s.ps before after
      begins_to_wait e' y w before after did stage none now becomes =
          let h = hall_seen s.es s.fs s.ps in
          let t = share_of nat_eq e.fair x.key in
          let u = share_at (shares_seen e.fair.shares) x.key in
          let more = len-new t.waiting e.fair.next w next_waits_not in
          let sees = becomes_seen e e' x.key (queued t e.fair.next w) (queued u e.fair.next w) 0 (e.fair.next + 1) did.rest becomes (ap (λ (v : Share ℕ). queued v e.fair.next w) (sym share_here)) in
          let r : Admission = record (with_share (admission_seen e) x.key (queued u e.fair.next w)) { next = e.fair.next + 1 } in
          let sees_free : admission_seen e' ≡ r = sees ∙ (λ j. record (with_share (admission_seen e) x.key (queued u e.fair.next w)) { free = sym none j; next = e.fair.next + 1 }) in
          pends e' y w (model.queues h f w (future_seen x) (admission_seen e)) 1 before after did.settled did.rest (tallies_sets e.fair.shares e'.fair.shares x.key _ becomes.shares good.waiting) (becomes.wakes ∙ good.quiet)
          (let number = becomes.number in omega (arith, number)) did.future (subst (λ z. z ≢ Done) (sym now) (no_new_done e.fair.next))
          (poll_step w ∙ ap (λ z. model.poll_at h i f w (future_seen x) (admission_seen e) (number_of z)) stage ∙ if_true (e.fair.free == 0) _ _ (eq-eqb e.fair.free 0 none)) refl refl
          (λ j. record {
            admissions = (seen-insert admission_seen s.es o e' ∙ ap (insert (seen admission_seen s.es) o) sees_free ∙ ap (λ k. insert (seen admission_seen s.es) k r) (sym mine)) j;
            futures = (seen-insert future_seen s.fs f y ∙ ap (insert (seen future_seen s.fs) f) (ap future_seen did.future ∙ ap (λ z. record { admission = x.admission; key = x.key; plain = x.plain; number = number_of z }) now)) j;
            permits = s.ps;
          })
          (omega (arith, becomes.shares.waiting, more)) (omega (arith, becomes.shares.held)) (ap (λ z. cond (is_queued z) 1 0) now ∙ sym (ap (λ z. cond (is_queued z) 1 0 + 1) stage))
          (did.counted ∙ ap (λ z. record before { registered = before.registered + cond (is_queued z) 0 1 }) stage)

      -- it waits on
      waits_again : (e' : KeptAdmission) (y : KeptFuture) (w n : ℕ) (before after : Waking ℕ) → PollsEntry e x w Pending e' y before after → x.stage ≡ Queued n → IsWaiting (share_of nat_eq e.fair x.key) n → y.stage ≡ Queued n
          → Becomes nat_eq e.fair e'.fair x.key (queued (share_of nat_eq e.fair x.key) n w) e.fair.free e.fair.next → DidWake s (actions.Poll f w) answers.Pending (insert s.es o e') (insert s.fs f y) s.ps before after
      waits_again e' y w n before after did stage waits now becomes =
          let h = hall_seen s.es s.fs s.ps in
          let t = share_of nat_eq e.fair x.key in
          let u = share_at (shares_seen e.fair.shares) x.key in
          let v = value_in (get t.waiting n) waits in
          let as_many = len-over t.waiting n w v.0 v.1 in
          let r : Admission = with_share (admission_seen e) x.key (queued u n w) in
          let sees : admission_seen e' ≡ r = becomes_seen e e' x.key (queued t n w) (queued u n w) e.fair.free e.fair.next did.rest becomes (ap (λ (z : Share ℕ). queued z n w) (sym share_here)) in
          let same : y ≡ x = did.future ∙ (λ j. record x { stage = (now ∙ sym stage) j }) in
          pends e' y w (model.waits_on h n w (future_seen x) (admission_seen e)) 0 before after did.settled did.rest (tallies_sets e.fair.shares e'.fair.shares x.key _ becomes.shares good.waiting) (becomes.wakes ∙ good.quiet)
          (let number = becomes.number in omega (arith, number)) did.future (subst (λ z. z ≢ Done) (sym now) (no_new_done n))
          (poll_step w ∙ ap (λ z. model.poll_at h i f w (future_seen x) (admission_seen e) (number_of z)) stage ∙ if_true (is_some (get u.waiting n)) _ _ (seen_waits n ∙ waits)) refl refl
          (λ j. record {
            admissions = (seen-insert admission_seen s.es o e' ∙ ap (insert (seen admission_seen s.es) o) sees ∙ ap (λ k. insert (seen admission_seen s.es) k r) (sym mine)) j;
            futures = seen-alike future_seen s.fs f x y is (ap future_seen same) j;
            permits = s.ps;
          })
          (omega (arith, becomes.shares.waiting, as_many)) (omega (arith, becomes.shares.held)) (let a : ◌≡◌ {A = ℕ} (cond (is_queued y.stage) 1 0) (cond (is_queued x.stage) 1 0) = ap (λ (z : KeptFuture). cond (is_queued z.stage) 1 0) same in omega (arith, a))
          (did.counted ∙ ap (λ z. record before { registered = before.registered + cond (is_queued z) 0 1 }) stage)

      pub pended : (e' : KeptAdmission) (y : KeptFuture) (w : ℕ) (before after : Waking ℕ) → PollsEntry e x w Pending e' y before after → DidWake s (actions.Poll f w) answers.Pending (insert s.es o e') (insert s.fs f y) s.ps before after
      pended e' y w before after did = by_stage x.stage refl did.polls
        where
          by_stage : (t : ShareStage) → x.stage ≡ t → Polls nat_eq e.fair x.key t w Pending e'.fair y.stage → DidWake s (actions.Poll f w) answers.Pending (insert s.es o e') (insert s.fs f y) s.ps before after
          by_stage New stage polls = elim (cases_lt 0 e.fair.free) as (λ _. DidWake s (actions.Poll f w) answers.Pending (insert s.es o e') (insert s.fs f y) s.ps before after) [
            | inl some ↦ no_pending tt (polls.0 some).0
            | inr none ↦ let zero : e.fair.free ≡ 0 = omega (arith, none) in let all = polls.1 zero in begins_to_wait e' y w before after did stage zero all.1 all.2
          ]
          by_stage (Queued n) stage polls = by_has (has_number n stage)
            where
              by_has : HasNumber (share_of nat_eq e.fair x.key) n → DidWake s (actions.Poll f w) answers.Pending (insert s.es o e') (insert s.fs f y) s.ps before after
              by_has (inl waits) = let all = polls.0 waits in waits_again e' y w n before after did stage waits all.1 all.2
              by_has (inr was) = no_pending tt (polls.1 was).0
          by_stage Done stage polls = absurd (not_done stage)

      -- it did not wait yet, and no permit is free
      pub queued_now : (poll : Poll (Unit {0})) (e' : KeptAdmission) (y : KeptFuture) (w : ℕ) (before after : Waking ℕ) → PollsEntry e x w poll e' y before after → (not (is_queued x.stage) && (e.fair.free == 0)) ≡ true
          → DidWake s (actions.Poll f w) answers.Pending (insert s.es o e') (insert s.fs f y) s.ps before after
      queued_now Pending e' y w before after did waits = pended e' y w before after did
      queued_now (Ready u) e' y w before after did waits = by_stage x.stage refl (over_is (is_queued x.stage) e.fair.free waits) did.polls
        where
          by_stage : (t : ShareStage) → x.stage ≡ t → (is_queued t ≡ false) × (e.fair.free ≡ 0) → Polls nat_eq e.fair x.key t w (Ready u) e'.fair y.stage → DidWake s (actions.Poll f w) answers.Pending (insert s.es o e') (insert s.fs f y) s.ps before after
          by_stage New stage is polls = no_ready u (polls.1 is.1).0
          by_stage (Queued n) stage is polls = absurd (let no = is.0 in cc)
          by_stage Done stage is polls = absurd (not_done stage)

      pub readied_now : (e' : KeptAdmission) (y : KeptFuture) (w : ℕ) (u : Unit {0}) (before after : Waking ℕ) → PollsEntry e x w (Ready u) e' y before after → DidWake s (actions.Poll f w) answers.Ready (insert s.es o e') (remove (insert s.fs f y) f) (insert s.ps i permit) before after
      readied_now e' y w unit before after did = by_stage x.stage refl did.polls
        where
          h : ShareHall
          h = hall_seen s.es s.fs s.ps

          same_waking : after ≡ before
          same_waking = did.counted ∙ (λ j. record before { registered = zero_more before.registered j })
            where
              zero_more : (n : ℕ) → n + 0 ≡ n
              zero_more n = omega arith

          taken_now : x.stage ≡ New → 0 < e.fair.free → Becomes nat_eq e.fair e'.fair x.key (taken (share_of nat_eq e.fair x.key)) (e.fair.free - 1) e.fair.next → DidWake s (actions.Poll f w) answers.Ready (insert s.es o e') (remove (insert s.fs f y) f) (insert s.ps i permit) before after
          taken_now stage some becomes =
              let u = share_at (shares_seen e.fair.shares) x.key in
              let nothing : ◌≡◌ {A = ℕ} (cond (is_queued x.stage) 1 0) 0 = ap (λ t. cond (is_queued t) 1 0) stage in
              gets e' y w (model.taken_for (admission_seen e) x.key) before after did.settled did.rest (tallies_sets e.fair.shares e'.fair.shares x.key _ becomes.shares good.waiting) (becomes.wakes ∙ good.quiet) becomes.number
              (poll_step w ∙ ap (λ z. model.poll_at (hall_seen s.es s.fs s.ps) i f w (future_seen x) (admission_seen e) (number_of z)) stage ∙ if_false (e.fair.free == 0) _ _ (free_is (admission_seen e) some))
              (becomes_seen e e' x.key _ (taken u) (e.fair.free - 1) e.fair.next did.rest becomes (ap taken (sym share_here)))
              (omega (arith, becomes.shares.waiting)) (omega (arith, becomes.shares.held, nothing)) same_waking

          readied_here : (n : ℕ) → x.stage ≡ Queued n → waits_at n ≡ false → IsAdmitted (share_of nat_eq e.fair x.key) n → Becomes nat_eq e.fair e'.fair x.key (readied (share_of nat_eq e.fair x.key) n) e.fair.free e.fair.next
              → DidWake s (actions.Poll f w) answers.Ready (insert s.es o e') (remove (insert s.fs f y) f) (insert s.ps i permit) before after
          readied_here n stage quiet was becomes =
              let t = share_of nat_eq e.fair x.key in
              let u = share_at (shares_seen e.fair.shares) x.key in
              let v = value_in (get t.admitted n) was in
              let gone = len-gone t.admitted n v.0 v.1 in
              let some = len-some t.admitted n v.0 v.1 in
              let one : ◌≡◌ {A = ℕ} (cond (is_queued x.stage) 1 0) 1 = ap (λ t. cond (is_queued t) 1 0) stage in
              gets e' y w (with_share (admission_seen e) x.key (readied u n)) before after did.settled did.rest (tallies_sets e.fair.shares e'.fair.shares x.key _ becomes.shares good.waiting) (becomes.wakes ∙ good.quiet) becomes.number
              (poll_step w ∙ ap (λ z. model.poll_at (hall_seen s.es s.fs s.ps) i f w (future_seen x) (admission_seen e) (number_of z)) stage ∙ if_false (is_some (get u.waiting n)) _ _ (seen_waits n ∙ quiet))
              (becomes_seen e e' x.key _ (readied u n) e.fair.free e.fair.next did.rest becomes (ap (λ (z : Share ℕ). readied z n) (sym share_here)))
              (omega (arith, becomes.shares.waiting)) (omega (arith, becomes.shares.held, gone, some, one)) same_waking

          by_waits : (n : ℕ) (b : Bool) → waits_at n ≡ b → x.stage ≡ Queued n → Polls nat_eq e.fair x.key (Queued n) w (Ready unit) e'.fair y.stage → HasNumber (share_of nat_eq e.fair x.key) n
              → DidWake s (actions.Poll f w) answers.Ready (insert s.es o e') (remove (insert s.fs f y) f) (insert s.ps i permit) before after
          by_waits n true waits stage polls has = no_ready unit (polls.0 waits).0
          by_waits n false quiet stage polls (inl waits) = absurd (let yes : waits_at n ≡ true = waits in cc)
          by_waits n false quiet stage polls (inr was) = readied_here n stage quiet was (polls.1 was).2

          by_stage : (t : ShareStage) → x.stage ≡ t → Polls nat_eq e.fair x.key t w (Ready unit) e'.fair y.stage → DidWake s (actions.Poll f w) answers.Ready (insert s.es o e') (remove (insert s.fs f y) f) (insert s.ps i permit) before after
          by_stage New stage polls = elim (cases_lt 0 e.fair.free) as (λ _. DidWake s (actions.Poll f w) answers.Ready (insert s.es o e') (remove (insert s.fs f y) f) (insert s.ps i permit) before after) [
            | inl some ↦ taken_now stage some (polls.0 some).2
            | inr none ↦ no_ready unit (polls.1 (omega (arith, none))).0
          ]
          by_stage (Queued n) stage polls = by_waits n (waits_at n) refl stage polls (has_number n stage)
          by_stage Done stage polls = absurd (not_done stage)

      -- nothing that is seen has changed
      pub failed : (e' : KeptAdmission) (y : KeptFuture) → e' ≡ record e { fair = e'.fair } → IsSame nat_eq e.fair e'.fair → y ≡ x → AreKeptAdmissions (insert s.es o e') (insert s.fs f y) s.ps s.next
          × (◌≡◌ {A = Part ShareHall} (part_of (insert s.es o e') (insert s.fs f y) s.ps s.next) old)
      failed e' y rest same alike =
          let futures : insert s.fs f y ≡ s.fs = insert_same s.fs f y (is ∙ ap (λ z. Some z) (sym alike)) in
          let named = ap (λ (d : KeptAdmission). d.named) rest in
          let things = ap (λ (d : KeptAdmission). d.things) rest in
          let plain = ap (λ (d : KeptAdmission). d.plain) rest in
          let sees : admission_seen e' ≡ admission_seen e = (λ j. record { free = same.free j; next = same.next j; shares = alike_seen e.fair.shares e'.fair.shares same.shares.shares j; named = named j }) in
          let moved : hall_seen (insert s.es o e') s.fs s.ps ≡ hall_seen s.es s.fs s.ps = (λ j. record { admissions = seen-alike admission_seen s.es o e e' there sees j; futures = seen future_seen s.fs; permits = s.ps }) in
          let keep : (q : ℕ) → IsSome (get s.es q) → IsSome (get (insert s.es o e') q) = λ q some. by_put s.es o e' (λ q p. IsSome (get s.es q) → IsSome p) (λ some. refl) (λ q apart some. some) q some in
          let kept = s.kept.hall in
          let size = same.next in
          rw futures (
            record {
              hall = record {
                each = by_put s.es o e' (λ q p. (d : KeptAdmission) → p ≡ Some d → AreKept d (own of_future q s.fs) (own of_permit q s.ps))
                    (λ d there. subst (λ v. AreKept v (own of_future o s.fs) (own of_permit o s.ps)) (inside there) (record {
                      good = record {
                        quiet = same.wakes ∙ good.quiet;
                        settled = settles good.settled;
                        waiting = tallies_alike e.fair.shares e'.fair.shares same.shares good.waiting;
                        lasting = good.lasting;
                        things = things ∙ good.things;
                        plain = plain ∙ good.plain;
                      };
                      owned = omega (arith, was_owned, same.shares.held, same.shares.waiting);
                    }))
                    (λ q apart d there. kept.each q d there);
                below = by_put s.es o e' (λ q p. (d : KeptAdmission) → p ≡ Some d → (q < s.next) × (size_of d ≤ s.next))
                    (λ d it. subst (λ v. (o < s.next) × (size_of v ≤ s.next)) (inside it) (let low = kept.below o e there in (low.0, omega (arith, low.1, things, size))))
                    (λ q apart d it. kept.below q d it);
                firsts = record { at = λ k z it. let home = kept.firsts.at k z it in (home.0, keep (of_future z) home.1) };
                seconds = record { at = λ k z it. let home = kept.seconds.at k z it in (home.0, keep (of_permit z) home.1) };
                low = kept.low;
              };
              valid = subst AreValid (sym moved) s.kept.valid;
            },
            ap (λ hall. record { hall = hall; next = s.next }) moved ∙ s.view,
          )
        where
          settles : IsSettled e.fair → IsSettled e'.fair
          settles (inl free) = inl (same.free ∙ free)
          settles (inr nobody) = inr (same.shares.waiting ∙ nobody)
