-- the wakers of futures that wait
use Rattle.std.proofs.Common.{◌≡◌, ℕ, ◌+◌, ◌≤◌, ◌==◌, ◌⊎◌, inl, inr, Bool, true, false, cond, List, Option, Some, None, IsSome, is_some, refl, ap, sym, subst, ◌∙◌}
use Rattle.std.specs.List.{Contains}
use Rattle.std.specs.FinMap.{get}
use Rattle.std.proofs.lemmas.Bool.{eqb-true, eq-eqb}
use Rattle.mea_family.specs.declared.answer.Answer.TheVariants as answers
use Rattle.mea_family.specs.Family.{Outcome, IsRun, RunOf, KeepsWakers, LosesNoWake, NamesFutures}
use Rattle.mea_base.proofs.Maps.{by_put, by_gone, get-there, get-other, get-removed_other, is_there, value_in, inside}
use Rattle.mea_base.proofs.Tests.{by_name}
use Rattle.mea_family.proofs.Causes.{known}
use Rattle.mea_family.proofs.Wakes.{loses_no_wake}
use Rattle.mea_by_name.specs.ByName.{Names}
use Rattle.mea_family.specs.Play.{found}
use Rattle.mea_by_name.proofs.Cases.{by_found, by_if, if_true}
use Rattle.mea_share_core.specs.Share.{Share, queued}
use Rattle.mea_share_model.specs.Next.{Shares, share_at, put_share}
use Rattle.mea_share_model.specs.Admissions as admissions
use Rattle.mea_share_model.specs.Admissions.{Admission, ShareFuture, SharePermit, ShareHall, new_admission, with_share, waker_under, waker_at, placed}
use Rattle.mea_share_model.specs.Actions.{Action, Make, Free, Waiters, Weight, Weigh, Try, Begin, Poll, Key, End, Drop, cause_in, act_in, polled_in, ends_in, registers_in}
use Rattle.mea_share_model.specs.Meaning.{meaning_of}
use Rattle.mea_share_model.specs.ShareFamily.{shares_family}
use Rattle.mea_share_model.specs.Valid.{AreValid}
use Rattle.mea_share_model.proofs.Waiting.{share_put}
use Rattle.mea_share_model.proofs.Acting.{AdmissionsGo, Same, Put, Made, Gone, FuturesGo, Kept, Begun, Queued, Ended, Touches, Fresh, Polled, Ends, Acts}
use Rattle.mea_share_model.proofs.Keeping.{AreLow, did, reached, no_future, no_admission}

no_waker : (w : ℕ) → ◌≡◌ {A = Option ℕ} None (Some w) → ⊥
no_waker w is = absurd (cc)

-- ---- who is polled
polled_is : (g w f v : ℕ) → cond (g == f) (Some w) None ≡ Some v → (g ≡ f) × (w ≡ v)
polled_is g w f v is = at (g == f) refl is
  where
    at : (b : Bool) → (g == f) ≡ b → cond b (Some w) None ≡ Some v → (g ≡ f) × (w ≡ v)
    at true same h = (eqb-true g f same, inside h)
    at false differs h = absurd (no_waker v h)

-- what is done where f is polled
poll_is : (a : Action) (f w : ℕ) → polled_in a f ≡ Some w → a ≡ Poll f w
poll_is (Poll g v) f w is = let same = polled_is g v f w is in ap (λ k. Poll k v) same.0 ∙ ap (Poll f) same.1
poll_is (Make n) f w is = absurd (no_waker w is)
poll_is (Free o) f w is = absurd (no_waker w is)
poll_is (Waiters o) f w is = absurd (no_waker w is)
poll_is (Weight o k) f w is = absurd (no_waker w is)
poll_is (Weigh o k n) f w is = absurd (no_waker w is)
poll_is (Try o k plain) f w is = absurd (no_waker w is)
poll_is (Begin o k plain) f w is = absurd (no_waker w is)
poll_is (Key p) f w is = absurd (no_waker w is)
poll_is (End x) f w is = absurd (no_waker w is)
poll_is (Drop o) f w is = absurd (no_waker w is)

module _ (h : ShareHall) (i f w : ℕ) where
  -- a poll that is pending places the waker
  placed_at : (x : ShareFuture) (rs : Names Admission) (xs : Names ShareFuture) (r : Admission) → get xs f ≡ Some x → get rs x.admission ≡ Some r → waker_under (share_at r.shares x.key) x.number ≡ Some w
      → admissions.placed_of (record { admissions = rs; futures = xs; permits = h.permits }) (get xs f) ≡ Some w
  placed_at x rs xs r is there waker = ap (admissions.placed_of (record { admissions = rs; futures = xs; permits = h.permits })) is ∙ ap (λ o. waker_at o x) there ∙ waker

  queued_waker : (m : Shares) (k n : ℕ) → get (share_at (put_share m k (queued (share_at m k) n w)) k).waiting n ≡ Some w
  queued_waker m k n =
      ap (λ (s : Share ℕ). get s.waiting n) (share_put m k (queued (share_at m k) n w) k ∙ ap (λ b. cond b (queued (share_at m k) n w) (share_at m k)) (eq-eqb k k refl))
      ∙ get-there (share_at m k).waiting n w

  places_at : (x : ShareFuture) (r : Admission) (p : Option ℕ) → get h.futures f ≡ Some x → x.number ≡ p → (admissions.poll_at h i f w x r p).reply ≡ answers.Pending → placed (admissions.poll_at h i f w x r p).hall f ≡ Some w
  places_at x r None is new = by_if (λ o. o.reply ≡ answers.Pending → placed o.hall f ≡ Some w) (r.free == 0) (admissions.queues h f w x r) (admissions.becomes_permit h i f x (admissions.taken_for r x.key))
      (λ none pending. placed_at (record x { number = Some r.next }) _ _ (record (with_share r x.key (queued (share_at r.shares x.key) r.next w)) { next = r.next + 1 })
      (get-there h.futures f (record x { number = Some r.next })) (get-there h.admissions x.admission _) (queued_waker r.shares x.key r.next))
      (λ some ready. absurd (cc))
  places_at x r (Some n) is number = by_if (λ o. o.reply ≡ answers.Pending → placed o.hall f ≡ Some w) (is_some (get (share_at r.shares x.key).waiting n)) (admissions.waits_on h n w x r)
      (admissions.becomes_permit h i f x (with_share r x.key _))
      (λ waits pending. placed_at x _ _ (with_share r x.key (queued (share_at r.shares x.key) n w)) is (get-there h.admissions x.admission _)
      (ap (waker_under (share_at (put_share r.shares x.key (queued (share_at r.shares x.key) n w)) x.key)) number ∙ queued_waker r.shares x.key n))
      (λ was ready. absurd (cc))

  pub places : (act_in h i (Poll f w)).reply ≡ answers.Pending → placed (act_in h i (Poll f w)).hall f ≡ Some w
  places = by_found (λ o. o.reply ≡ answers.Pending → placed o.hall f ≡ Some w) (get h.futures f) h _ (λ none. absurd (cc))
      (λ x is. by_found (λ o. o.reply ≡ answers.Pending → placed o.hall f ≡ Some w) (get h.admissions x.admission) h _ (λ none. absurd (cc)) (λ r there. places_at x r x.number is refl))

  -- while a waker is placed a poll is pending
  waits_at : (x : ShareFuture) (r : Admission) (p : Option ℕ) (v : ℕ) → waker_under (share_at r.shares x.key) p ≡ Some v → (admissions.poll_at h i f w x r p).reply ≡ answers.Pending
  waits_at x r None v is = absurd (no_waker v is)
  waits_at x r (Some n) v is = ap (λ (o : Outcome ShareHall). o.reply) (if_true (is_some (get (share_at r.shares x.key).waiting n)) (admissions.waits_on h n w x r) (admissions.becomes_permit h i f x _) (is_there (get (share_at r.shares x.key).waiting n) v is))

  pub waits : (v : ℕ) → placed h f ≡ Some v → (act_in h i (Poll f w)).reply ≡ answers.Pending
  waits v is = at (get h.futures f) is
    where
      at_admission : (x : ShareFuture) (o : Option Admission) → waker_at o x ≡ Some v → (found o h (admissions.poll h i f w x)).reply ≡ answers.Pending
      at_admission x None is = absurd (no_waker v is)
      at_admission x (Some r) is = waits_at x r x.number v is

      at : (o : Option ShareFuture) → admissions.placed_of h o ≡ Some v → (found o h (λ x. found (get h.admissions x.admission) h (admissions.poll h i f w x))).reply ≡ answers.Pending
      at None is = absurd (no_waker v is)
      at (Some x) is = at_admission x (get h.admissions x.admission) is

-- ---- who is neither polled nor ended
module _ (h : ShareHall) (n i : ℕ) (low : AreLow h n) (later : n ≤ i) (valid : AreValid h) (a : Action) where
  untouched : (k f : ℕ) → Touches h i a k → IsSome (get h.futures f) → polled_in a f ≡ None → ends_in a f ≡ false → k ≡ f → ⊥
  untouched k f (Fresh same) lives quiet lasts is = absurd (let none = no_future h n i low later in let gone : get h.futures f ≡ None = ap (get h.futures) (sym is ∙ same) ∙ none in let x = value_in (get h.futures f) lives in let there = x.1 in cc)
  untouched k f (Polled w poll) lives quiet lasts is = absurd (let here : polled_in a f ≡ Some w = ap (polled_in a) (sym is) ∙ poll in cc)
  untouched k f (Ends ended) lives quiet lasts is = absurd (let here : ends_in a f ≡ true = ap (ends_in a) (sym is) ∙ ended in cc)

  -- it lives on as it was
  same_after : (k : ℕ) (rs : Names Admission) (xs : Names ShareFuture) → FuturesGo h i a k rs xs → (f : ℕ) (x : ShareFuture) → (k ≡ f → ⊥) → get h.futures f ≡ Some x → get xs f ≡ Some x
  same_after k rs _ Kept f x apart is = is
  same_after k rs _ (Begun y new known) f x apart is = by_name i f
      (λ same. absurd (let none = no_future h n i low later in let gone : get h.futures f ≡ None = ap (get h.futures) (sym same) ∙ none in cc)) (λ differs. get-other h.futures i f y differs ∙ is)
  same_after k rs _ (Queued y r was there has) f x apart is = get-other h.futures k f (record y { number = Some r.next }) apart ∙ is
  same_after k rs _ Ended f x apart is = get-removed_other h.futures k f apart ∙ is

  waker_after : (k extra : ℕ) (xs : Names ShareFuture) (ps : Names SharePermit) (rs : Names Admission) (ws : List ℕ) → AdmissionsGo h i k extra xs ps rs ws → (f w : ℕ) (x : ShareFuture) → (k ≡ f → ⊥) → get h.futures f ≡ Some x → get xs f ≡ Some x
      → waker_at (get h.admissions x.admission) x ≡ Some w → (waker_at (get rs x.admission) x ≡ Some w) ⊎ Contains ws w
  waker_after k extra xs ps _ _ (Same counts) f w x apart was is waker = inl waker
  waker_after k extra xs ps _ _ (Put o r r' s l ws more less there change touch loses here elsewhere) f w x apart was is waker =
      by_put h.admissions o r' (λ j t. o ≡ o → j ≡ x.admission → waker_at (get h.admissions j) x ≡ Some w → (waker_at t x ≡ Some w) ⊎ Contains ws w)
      (λ _ mine waker. at mine x.number refl (subst (λ t. waker_at t x ≡ Some w) there waker)) (λ j differs _ mine waker. inl waker) x.admission refl refl waker
    where
      at : o ≡ x.admission → (p : Option ℕ) → x.number ≡ p → waker_under (share_at r.shares x.key) x.number ≡ Some w → (waker_under (share_at r'.shares x.key) x.number ≡ Some w) ⊎ Contains ws w
      at mine None none waker = absurd (no_waker w (sym (ap (waker_under (share_at r.shares x.key)) none) ∙ waker))
      at mine (Some m) number waker = subst (λ p. (waker_under (share_at r'.shares x.key) p ≡ Some w) ⊎ Contains ws w) (sym number)
          (change.keeps x.key m w (λ spot. apart (touch f x m was mine number spot)) (sym (ap (waker_under (share_at r.shares x.key)) number) ∙ waker))
  waker_after k extra xs ps _ _ (Made c same) f w x apart was is waker =
      inl (by_put h.admissions i (new_admission c) (λ j t. waker_at (get h.admissions j) x ≡ Some w → waker_at t x ≡ Some w)
      (λ waker. absurd (no_waker w (sym (ap (λ t. waker_at t x) (no_admission h n i low later)) ∙ waker))) (λ j differs waker. waker) x.admission waker)
  waker_after k extra xs ps _ _ (Gone o r r' ws there few alone elsewhere) f w x apart was is waker =
      inl (ap (λ t. waker_at t x) (get-removed_other h.admissions o x.admission (λ mine. alone f x is mine)) ∙ waker)

  module _ (none : cause_in h a ≡ None) where
    act : Acts h i a (cond (registers_in a) 1 0) (act_in h i a)
    act = did h n i low later valid a none

    pub keeps_on : (f w : ℕ) → admissions.is_future h f ≡ true → placed h f ≡ Some w → polled_in a f ≡ None → ends_in a f ≡ false → (placed (act_in h i a).hall f ≡ Some w) ⊎ Contains (act_in h i a).wakes w
    keeps_on f w lives is quiet lasts =
        let x = value_in (get h.futures f) lives in
        let apart = untouched act.f f act.touches lives quiet lasts in
        let after = same_after act.f _ _ act.futures f x.0 apart x.1 in
        subst (λ o. (admissions.placed_of (act_in h i a).hall o ≡ Some w) ⊎ Contains (act_in h i a).wakes w) (sym after)
        (waker_after act.f _ _ _ _ _ act.admissions f w x.0 apart x.1 after (sym (ap (admissions.placed_of h) x.1) ∙ is))

    pub lives_on : (f : ℕ) → admissions.is_future h f ≡ true → polled_in a f ≡ None → ends_in a f ≡ false → admissions.is_future (act_in h i a).hall f ≡ true
    lives_on f lives quiet lasts =
        let x = value_in (get h.futures f) lives in
        is_there (get (act_in h i a).hall.futures f) x.0 (same_after act.f _ _ act.futures f x.0 (untouched act.f f act.touches lives quiet lasts) x.1)

    pub gone : (f : ℕ) → ends_in a f ≡ true → admissions.is_future (act_in h i a).hall f ≡ false
    gone f ended = ap is_some (act.over f ended)

    made_after : (k : ℕ) (rs : Names Admission) (xs : Names ShareFuture) → FuturesGo h i a k rs xs → (f : ℕ) → IsSome (get xs f) → IsSome (get h.futures f) ⊎ (f ≡ i)
    made_after k rs _ Kept f lives = inl lives
    made_after k rs _ (Begun y new known) f lives = by_put h.futures i y (λ f o. IsSome o → IsSome (get h.futures f) ⊎ (f ≡ i)) (λ some. inr refl) (λ f apart some. inl some) f lives
    made_after k rs _ (Queued y r was there has) f lives = by_put h.futures k (record y { number = Some r.next }) (λ f o. IsSome o → IsSome (get h.futures f) ⊎ (f ≡ i)) (λ some. inl (is_there (get h.futures k) y was)) (λ f apart some. inl some) f lives
    made_after k rs _ Ended f lives = inl (by_gone h.futures k (λ f o. IsSome o → IsSome (get h.futures f)) (λ some. absurd (cc)) (λ f apart some. some) f lives)

    pub made : (f : ℕ) → admissions.is_future (act_in h i a).hall f ≡ true → (admissions.is_future h f ≡ true) ⊎ (f ≡ i)
    made f lives = made_after act.f _ _ act.futures f lives

pub keeps : KeepsWakers shares_family
keeps = record {
  places = λ r i e runs later cause f w is pending. let poll = poll_is (meaning_of e) f w is in
      subst (λ a. placed (act_in r.hall i a).hall f ≡ Some w) (sym poll) (places r.hall i f w (subst (λ a. (act_in r.hall i a).reply ≡ answers.Pending) poll pending));
  waits = λ r i e runs f w v lives is polled. subst (λ a. (act_in r.hall i a).reply ≡ answers.Pending) (sym (poll_is (meaning_of e) f v polled)) (waits r.hall i f v w is);
  wakes = λ r i e runs later cause f w lives is quiet lasts. let at = reached r runs in keeps_on r.hall r.next i at.0 later at.1 (meaning_of e) cause f w lives is quiet lasts;
  stays = λ r i e runs later cause f lives quiet lasts. let at = reached r runs in lives_on r.hall r.next i at.0 later at.1 (meaning_of e) cause f lives quiet lasts;
  goes = λ r i e runs later cause f ended. let at = reached r runs in gone r.hall r.next i at.0 later at.1 (meaning_of e) cause f ended;
}

names : NamesFutures shares_family
names = record {
  polls = λ h e cause f w is. known (admissions.is_future h f) (subst (λ a. cause_in h a ≡ None) (poll_is (meaning_of e) f w is) cause);
  below = λ r runs f lives. let x = value_in (get r.hall.futures f) lives in ((reached r runs).0.futures f x.0 x.1).0;
  made = λ r i e runs later cause f lives. let at = reached r runs in made r.hall r.next i at.0 later at.1 (meaning_of e) cause f lives;
}

pub no_wake_is_lost : (r : RunOf shares_family) → IsRun shares_family r → LosesNoWake shares_family r
no_wake_is_lost r runs = loses_no_wake shares_family keeps names r runs
