-- admissions before an event, and what holds after it as they are kept and as they are seen
use Rattle.std.proofs.Common.{◌≡◌, ◌≢◌, ℕ, ◌+◌, ◌<◌, ◌≤◌, ◌^◌, ◌==◌, ◌++◌, inl, inr, true, false, cond, [], nat_eq, Some, None, IsSome, is_some, Ok, refl, ap, sym, subst, ◌∙◌, arith}
use Rattle.std.specs.Ordering.{nat_cmp}
use Rattle.std.specs.Cmp.{nat_cmp_total}
use Rattle.std.specs.FinMap.{get, insert, remove, len, empty, len-empty, len-insert}
use Rattle.std.proofs.lemmas.Bool.{cases_lt}
use Rattle.mea_family.specs.declared.answer.Answer.{Answer}
use Rattle.mea_family.specs.declared.answer.Answer.TheVariants as answers
use Rattle.mea_family.specs.declared.stop.Stop.{Stop}
use Rattle.mea_family.specs.declared.stop.Stop.TheVariants.{Unknown, NoMemory}
use Rattle.mea_family.specs.Acts.{Refuses}
use Rattle.mea_family.specs.Family.{Outcome, quietly}
use Rattle.mea_family.specs.Causes.{unknown_unless}
use Rattle.mea_base.specs.Ready.{Waking}
use Rattle.mea_base.specs.Totals.{total, weight}
use Rattle.mea_base.proofs.Maps.{nothing_at, inside, is_there, value_in, by_put, removed_there}
use Rattle.mea_base.proofs.Totals.{total-insert, total-same, total-empty}
use Rattle.mea_by_name.specs.ByName.{Names, seen, own, count}
use Rattle.mea_by_name.specs.HallKept.{HallKept}
use Rattle.mea_family.specs.Play.{Part, found}
use Rattle.mea_by_name.proofs.Cases.{found_is, if_false}
use Rattle.mea_by_name.proofs.Halls as halls
use Rattle.mea_by_name.proofs.Own.{seen-none, seen-back, seen-insert, own-seen, total-seen, len-some, len-new, len-gone, count-new, count-gone}
use Rattle.mea_share_core.specs.declared.share_acquire.ShareStage.TheVariants.{Done}
use Rattle.mea_share_core.specs.Share.{Share, waiting_of, IsWaiting}
use Rattle.mea_share_core.specs.Groups.{share_in, held_in, waiting_in}
use Rattle.mea_share_core.specs.Fair.{Fair, IsSettled, share_of, waiters_of, is_queued, Becomes, PassesOn}
use Rattle.mea_share_model.specs.Next as next_model
use Rattle.mea_share_model.specs.Next.{Shares, share_at, put_share}
use Rattle.mea_share_model.specs.Admissions as model
use Rattle.mea_share_model.specs.Admissions.{Admission, ShareFuture, SharePermit, ShareHall, registered, with_share, passed, woken, is_named, is_named_one, is_future, plain_of}
use Rattle.mea_share_model.specs.Actions.{Action, Make, Free, Waiters, Weight, Key, cause_in, act_in}
use Rattle.mea_share_model.specs.Valid.{AreValid}
use Rattle.mea_share_model.proofs.Keeping.{AreLow, valid_after}
use Rattle.mea_share_model.proofs.Changes.{len-least, by_key}
use Rattle.mea_share.specs.Kept.{KeptAdmission, KeptFuture, shares_seen, admission_seen, future_seen, hall_seen, AreGood, AreKept, of_future, of_permit, size_of, AreKeptAdmissions}
use Rattle.mea_share.specs.Entries.{new_admission, begun, finished}
use Rattle.mea_share.specs.Lends.{StandsFor}
use Rattle.mea_share.specs.Halls.{IsFree, Acts, ActsQuietly}
use Rattle.mea_share.proofs.Seen.{share_seen, sets_seen, nothing_seen, tallies_sets}

abbrev pub waiters : KeptAdmission → ℕ
waiters e = waiters_of e.fair

abbrev pub all_waiters : Names KeptAdmission → ℕ
all_waiters es = total (λ o e. waiters e) es

abbrev pub Owned : KeptAdmission → Names KeptFuture → Names SharePermit → Type 0
Owned e fs ps = waiting_in e.fair.shares + held_in e.fair.shares ≤ count (λ (x : KeptFuture). is_queued x.stage) fs + len ps

abbrev pub HallOf : Names KeptAdmission → Names KeptFuture → Names SharePermit → ℕ → Type 0
HallOf es fs ps next = HallKept of_future of_permit AreKept size_of es fs ps next

pub registered_is : (es : Names KeptAdmission) (fs : Names KeptFuture) (ps : Names SharePermit) (next : ℕ) → HallOf es fs ps next → registered (hall_seen es fs ps) ≡ all_waiters es
registered_is es fs ps next kept =
    total-seen admission_seen (λ (r : Admission). next_model.waiting_in r.shares) es
    ∙ total-same (λ o (e : KeptAdmission). next_model.waiting_in (shares_seen e.fair.shares)) (λ o e. waiters e) es (λ o e there. sym (kept.each o e there).good.waiting)

-- how many of its things are plain
pub plain_is : (es : Names KeptAdmission) (fs : Names KeptFuture) (ps : Names SharePermit) (o : ℕ) (e : KeptAdmission) → AreGood e (own of_future o fs) (own of_permit o ps) → plain_of (hall_seen es fs ps) o ≡ e.plain
plain_is es fs ps o e good =
    let futures = ap (count (λ (x : ShareFuture). x.plain)) (own-seen of_future (λ (x : ShareFuture). x.admission) future_seen (λ x. refl) o fs) ∙ total-seen future_seen (λ (x : ShareFuture). cond x.plain 1 0) (own of_future o fs) in
    omega (arith, futures, good.plain)

-- ---- admissions before event number i
pub record Site (old : Part ShareHall) (i : ℕ) : Type 0 where
  pub es : Names KeptAdmission
  pub fs : Names KeptFuture
  pub ps : Names SharePermit
  pub next : ℕ
  pub view : ◌≡◌ {A = Part ShareHall} (record { hall = hall_seen es fs ps; next = next }) old
  pub kept : AreKeptAdmissions es fs ps next
  pub later : next ≤ i
  pub fits : i < 2 ^ 64

abbrev pub site : {old : Part ShareHall} {i : ℕ} (es : Names KeptAdmission) (fs : Names KeptFuture) (ps : Names SharePermit) (next : ℕ) → ◌≡◌ {A = Part ShareHall} (record { hall = hall_seen es fs ps; next = next }) old → AreKeptAdmissions es fs ps next → old.next ≤ i → i < 2 ^ 64 → Site old i
site es fs ps next view kept later fits = record { es = es; fs = fs; ps = ps; next = next; view = view; kept = kept; later = rw (← view) at later; fits = fits }

abbrev pub part_of : Names KeptAdmission → Names KeptFuture → Names SharePermit → ℕ → Part ShareHall
part_of es fs ps next = record { hall = hall_seen es fs ps; next = next }

pub low : (es : Names KeptAdmission) (fs : Names KeptFuture) (ps : Names SharePermit) (next : ℕ) → HallOf es fs ps next → AreLow (hall_seen es fs ps) next
low es fs ps next kept = record {
  admissions = record { at = λ o r is. let e = seen-back admission_seen es o r is in (kept.below o e.0 e.1).0 };
  futures = λ f x is.
      let y = seen-back future_seen fs f x is in
      let home = kept.firsts.at f y.0 y.1 in
      let e = value_in (get es y.0.admission) home.1 in
      let same : y.0.admission ≡ x.admission = ap (λ (z : ShareFuture). z.admission) y.2 in
      let small = (kept.below y.0.admission e.0 e.1).0 in
      (home.0, omega (arith, small, same));
  permits = λ p x is. let home = kept.seconds.at p x is in let e = value_in (get es x.admission) home.1 in (home.0, (kept.below x.admission e.0 e.1).0);
}

module _ {old : Part ShareHall} {i : ℕ} (s : Site old i) where
  -- what an action under number i leaves, and that it was done; and where it leaves the ready wakers as they are
  abbrev pub DidWake : Action → Answer → Names KeptAdmission → Names KeptFuture → Names SharePermit → Waking ℕ → Waking ℕ → Type 0
  DidWake a answer es fs ps before after = AreKeptAdmissions es fs ps (i + 1) × Acts old i a (Ok answer) (part_of es fs ps (i + 1)) before after

  abbrev pub Did : Action → Answer → Names KeptAdmission → Names KeptFuture → Names SharePermit → Type 0
  Did a answer es fs ps = AreKeptAdmissions es fs ps (i + 1) × ActsQuietly old i a (Ok answer) (part_of es fs ps (i + 1))

  module _ (a : Action) (o : Outcome ShareHall) (answer : Answer) (es : Names KeptAdmission) (fs : Names KeptFuture) (ps : Names SharePermit) (none : cause_in (hall_seen s.es s.fs s.ps) a ≡ None) (is : act_in (hall_seen s.es s.fs s.ps) i a ≡ o)
      (kept : HallOf es fs ps (i + 1)) (replied : answer ≡ o.reply) (moved : hall_seen es fs ps ≡ o.hall) where
    kept_as : AreKeptAdmissions es fs ps (i + 1)
    kept_as = record { hall = kept; valid = subst AreValid (ap (λ (p : Outcome ShareHall). p.hall) is ∙ sym moved) (valid_after (hall_seen s.es s.fs s.ps) s.next i (low s.es s.fs s.ps s.next s.kept.hall) s.later s.kept.valid a none) }

    now_registered : registered o.hall ≡ all_waiters es
    now_registered = sym (ap registered moved) ∙ registered_is es fs ps (i + 1) kept

    -- what is said of the admissions as they are kept is said of them as they are seen
    pub yields_as : (before after : Waking ℕ) → after.wakers ≡ before.wakers ++ o.wakes → after.registered + all_waiters s.es ≡ before.registered + all_waiters es → DidWake a answer es fs ps before after
    yields_as before after wakes counted = (
      kept_as,
      subst (λ p. Acts p i a (Ok answer) (part_of es fs ps (i + 1)) before after) s.view (
        none,
        rw is (record {
          replied = replied;
          moved = ap (λ h. record { hall = h; next = i + 1 }) moved;
          woken = wakes;
          counted = omega (arith, counted, now_registered, registered_is s.es s.fs s.ps s.next s.kept.hall);
        }),
      ),
    )

    pub rests_as : o.wakes ≡ [] → all_waiters es ≡ all_waiters s.es → Did a answer es fs ps
    rests_as silent counted = (
      kept_as,
      subst (λ p. ActsQuietly p i a (Ok answer) (part_of es fs ps (i + 1))) s.view (
        none,
        rw is (record {
          replied = replied;
          moved = ap (λ h. record { hall = h; next = i + 1 }) moved;
          silent = silent;
          counted = now_registered ∙ counted ∙ sym (registered_is s.es s.fs s.ps s.next s.kept.hall);
        }),
      ),
    )

  -- it is refused for its cause, or for want of memory
  pub refuses : (a : Action) (stop : Stop) → cause_in (hall_seen s.es s.fs s.ps) a ≡ Some stop → stop ≢ NoMemory → Refuses (cause_in old.hall a) (IsFree a) stop
  refuses a stop is tells = inl (subst (λ (p : Part ShareHall). cause_in p.hall a ≡ Some stop) s.view is, tells)

  pub unknown : (a : Action) → cause_in (hall_seen s.es s.fs s.ps) a ≡ Some Unknown → Refuses (cause_in old.hall a) (IsFree a) Unknown
  unknown a is = refuses a Unknown is (λ no. absurd (cc))

  pub lacks_memory : (a : Action) → cause_in (hall_seen s.es s.fs s.ps) a ≡ None → (IsFree a → ⊥) → Refuses (cause_in old.hall a) (IsFree a) NoMemory
  lacks_memory a none takes = inr (subst (λ (p : Part ShareHall). cause_in p.hall a ≡ None) s.view none, refl, takes)

  -- ---- what is not there
  pub nameless : (o : ℕ) → get s.es o ≡ None → is_named (hall_seen s.es s.fs s.ps) o ≡ false
  nameless o none = ap is_named_one (seen-none admission_seen s.es o none)

  pub no_future : (f : ℕ) → get s.fs f ≡ None → is_future (hall_seen s.es s.fs s.ps) f ≡ false
  no_future f none = ap is_some (seen-none future_seen s.fs f none)

  -- ---- nothing changes
  pub stays : HallOf s.es s.fs s.ps (i + 1)
  stays = halls.rests of_future of_permit AreKept size_of s.es s.fs s.ps s.next i s.kept.hall s.later s.fits

  -- what is told of an admission that is seen so
  module _ (o : ℕ) (f : Fair ℕ ℕ) (stands : StandsFor old.hall o f) where
    pub named : cause_in (hall_seen s.es s.fs s.ps) (Free o) ≡ None
    named = ap (λ (p : Part ShareHall). unknown_unless (is_named p.hall o)) s.view ∙ ap (λ q. unknown_unless (is_named_one q)) stands

    tells : (a : Action) (answer : Answer) (act : Admission → Outcome ShareHall) → cause_in (hall_seen s.es s.fs s.ps) a ≡ None → act_in (hall_seen s.es s.fs s.ps) i a ≡ found (get (seen admission_seen s.es) o) (hall_seen s.es s.fs s.ps) act
        → act (record { free = f.free; next = f.next; shares = shares_seen f.shares; named = true }) ≡ quietly (hall_seen s.es s.fs s.ps) answer → Did a answer s.es s.fs s.ps
    tells a answer act none is does =
        rests_as a (quietly (hall_seen s.es s.fs s.ps) answer) answer s.es s.fs s.ps none (is ∙ found_is (get (seen admission_seen s.es) o) (hall_seen s.es s.fs s.ps) act _ (ap (λ (p : Part ShareHall). get p.hall.admissions o) s.view ∙ stands) ∙ does) stays refl refl refl refl

    pub tells_free : Did (Free o) (answers.Free f.free) s.es s.fs s.ps
    tells_free = tells (Free o) (answers.Free f.free) _ named refl refl

    pub tells_waiters : waiters_of f ≡ next_model.waiting_in (shares_seen f.shares) → Did (Waiters o) (answers.Count (waiters_of f)) s.es s.fs s.ps
    tells_waiters waiting = tells (Waiters o) (answers.Count (waiters_of f)) _ named refl (ap (λ n. quietly (hall_seen s.es s.fs s.ps) (answers.Count n)) (sym waiting))

    pub tells_weight : (k : ℕ) → Did (Weight o k) (answers.Count (share_of nat_eq f k).weight) s.es s.fs s.ps
    tells_weight k = tells (Weight o k) (answers.Count (share_of nat_eq f k).weight) _ named refl (ap (λ (t : Share ℕ). quietly (hall_seen s.es s.fs s.ps) (answers.Count t.weight)) (share_seen f.shares k))

  pub tells_key : (p : ℕ) (x : SharePermit) → get s.ps p ≡ Some x → Did (Key p) (answers.Key x.key) s.es s.fs s.ps
  tells_key p x there =
      rests_as (Key p) (quietly (hall_seen s.es s.fs s.ps) (answers.Key x.key)) (answers.Key x.key) s.es s.fs s.ps (ap unknown_unless (is_there (get s.ps p) x there))
      (found_is (get s.ps p) (hall_seen s.es s.fs s.ps) _ x there) stays refl refl refl refl

  -- ---- an admission is made
  pub makes : (n : ℕ) → (n == 0) ≡ false → Did (Make n) answers.Made (insert s.es i (new_admission n)) s.fs s.ps
  makes n some =
      rests_as (Make n) (model.make (hall_seen s.es s.fs s.ps) i n) answers.Made (insert s.es i (new_admission n)) s.fs s.ps (if_false (n == 0) _ _ some) refl
      (halls.makes of_future of_permit AreKept size_of s.es s.fs s.ps s.next i s.kept.hall s.later s.fits (new_admission n) (record { good = good; owned = omega arith }) refl)
      refl
      (ap (λ rs. record { admissions = rs; futures = seen future_seen s.fs; permits = s.ps }) (seen-insert admission_seen s.es i (new_admission n) ∙ ap (insert (seen admission_seen s.es) i) (ap (λ m. record { free = n; next = 0; shares = m; named = true }) nothing_seen)))
      refl
      (let none = halls.no_object of_future of_permit AreKept size_of s.es s.fs s.ps s.next i s.kept.hall s.later s.fits in
      let here : weight (λ o (e : KeptAdmission). waiters e) i (get s.es i) ≡ 0 = ap (weight (λ o (e : KeptAdmission). waiters e) i) none in
      omega (arith, here, total-insert (λ o (e : KeptAdmission). waiters e) s.es i (new_admission n)))
    where
      good : AreGood (new_admission n) empty empty
      good = record {
        quiet = refl;
        settled = inr refl;
        waiting = sym (ap next_model.waiting_in nothing_seen ∙ total-empty (λ k (t : Share ℕ). waiting_of t));
        lasting = λ f x is done. nothing_at KeptFuture f x is;
        things = omega (arith, len-empty nat_cmp KeptFuture, len-empty nat_cmp SharePermit);
        plain = omega (arith, total-empty {X = KeptFuture} (λ k x. cond x.plain 1 0), total-empty {X = SharePermit} (λ k x. cond x.plain 1 0));
      }

-- ---- one admission, after its core changed
pub becomes_seen : (e e' : KeptAdmission) (k : ℕ) (t u : Share ℕ) (free next : ℕ) → e' ≡ record e { fair = e'.fair } → Becomes nat_eq e.fair e'.fair k t free next → t ≡ u
    → admission_seen e' ≡ record (with_share (admission_seen e) k u) { free = free; next = next }
becomes_seen e e' k t u free next rest becomes same =
    let named = ap (λ (d : KeptAdmission). d.named) rest in
    let shares = sets_seen e.fair.shares e'.fair.shares k t becomes.shares ∙ ap (put_share (shares_seen e.fair.shares) k) same in
    (λ j. record { free = becomes.permits j; next = becomes.number j; shares = shares j; named = named j })

pub good_becomes : (e e' : KeptAdmission) (fs : Names KeptFuture) (ps : Names SharePermit) (k : ℕ) (t : Share ℕ) (free next : ℕ) → AreGood e fs ps → e' ≡ record e { fair = e'.fair } → Becomes nat_eq e.fair e'.fair k t free next → IsSettled e'.fair
    → AreGood e' fs ps
good_becomes e e' fs ps k t free next good rest becomes settled = record {
  quiet = becomes.wakes ∙ good.quiet;
  settled = settled;
  waiting = tallies_sets e.fair.shares e'.fair.shares k t becomes.shares good.waiting;
  lasting = good.lasting;
  things = ap (λ (d : KeptAdmission). d.things) rest ∙ good.things;
  plain = ap (λ (d : KeptAdmission). d.plain) rest ∙ good.plain;
}

-- a future, or a permit, more or less
pub good_with_future : (e : KeptAdmission) (fs : Names KeptFuture) (ps : Names SharePermit) (i : ℕ) (x : KeptFuture) → AreGood e fs ps → get fs i ≡ None → x.stage ≢ Done → AreGood (begun e x.plain) (insert fs i x) ps
good_with_future e fs ps i x good none lasts =
    let more = len-new fs i x none in
    let counted = count-new fs i (λ (y : KeptFuture). y.plain) x none in
    record {
      quiet = good.quiet;
      settled = good.settled;
      waiting = good.waiting;
      lasting = by_put fs i x (λ f o. (y : KeptFuture) → o ≡ Some y → y.stage ≢ Done) (λ y is. subst (λ (z : KeptFuture). z.stage ≢ Done) (inside is) lasts) (λ f apart y is. good.lasting f y is);
      things = omega (arith, good.things, more);
      plain = omega (arith, good.plain, counted);
    }

pub good_with_permit : (e : KeptAdmission) (fs : Names KeptFuture) (ps : Names SharePermit) (i : ℕ) (p : SharePermit) → AreGood e fs ps → get ps i ≡ None → AreGood (begun e p.plain) fs (insert ps i p)
good_with_permit e fs ps i p good none =
    let more = len-new ps i p none in
    let counted = count-new ps i (λ (y : SharePermit). y.plain) p none in
    record { quiet = good.quiet; settled = good.settled; waiting = good.waiting; lasting = good.lasting; things = omega (arith, good.things, more); plain = omega (arith, good.plain, counted) }

pub good_without_future : (e : KeptAdmission) (fs : Names KeptFuture) (ps : Names SharePermit) (f : ℕ) (x : KeptFuture) → AreGood e fs ps → get fs f ≡ Some x → AreGood (finished e x.plain) (remove fs f) ps
good_without_future e fs ps f x good there =
    let fewer = len-gone fs f x there in
    let some = len-some fs f x there in
    let counted = count-gone fs f (λ (y : KeptFuture). y.plain) x there in
    record {
      quiet = good.quiet;
      settled = good.settled;
      waiting = good.waiting;
      lasting = λ g y is. good.lasting g y (removed_there fs f g y is);
      things = omega (arith, good.things, fewer, some);
      plain = omega (arith, good.plain, counted);
    }

pub good_without_permit : (e : KeptAdmission) (fs : Names KeptFuture) (ps : Names SharePermit) (q : ℕ) (p : SharePermit) → AreGood e fs ps → get ps q ≡ Some p → AreGood (finished e p.plain) fs (remove ps q)
good_without_permit e fs ps q p good there =
    let fewer = len-gone ps q p there in
    let some = len-some ps q p there in
    let counted = count-gone ps q (λ (y : SharePermit). y.plain) p there in
    record { quiet = good.quiet; settled = good.settled; waiting = good.waiting; lasting = good.lasting; things = omega (arith, good.things, fewer, some); plain = omega (arith, good.plain, counted) }

-- who waits and what is held, as a permit comes back
pub passes_sums : (f f1 : Fair ℕ ℕ) → PassesOn nat_eq f f1 → waiting_in f1.shares + held_in f1.shares ≤ waiting_in f.shares + held_in f.shares
passes_sums f f1 passes = elim (cases_lt 0 (waiters_of f)) as (λ _. waiting_in f1.shares + held_in f1.shares ≤ waiting_in f.shares + held_in f.shares) [
  | inl some ↦
      let passed = passes.passes some in
      let admits = passed.1 in
      let t = share_in nat_eq f.shares admits.key in
      let gone = len-gone t.waiting admits.number passed.0 admits.waker in
      let one = len-some t.waiting admits.number passed.0 admits.waker in
      let more = len-insert nat_cmp_total t.admitted admits.number tt in
      omega (arith, admits.sets.held, admits.sets.waiting, gone, one, more, len-least (get t.admitted admits.number) (len t.admitted))
  | inr none ↦
      let is = passes.rests (omega (arith, none)) in
      let waits = ap (λ (g : Fair ℕ ℕ). waiting_in g.shares) is in
      let held = ap (λ (g : Fair ℕ ℕ). held_in g.shares) is in
      omega (arith, waits, held)
]

-- who waits after a change of a key that lets nobody begin to wait, waited before
pub waited : (m : Shares) (q : ℕ) (u : Share ℕ) → u.waiting ≡ (share_at m q).waiting → (j n : ℕ) → IsWaiting (share_at (put_share m q u) j) n → IsWaiting (share_at m j) n
waited m q u same j n = by_key m q u (λ j t. IsWaiting t n → IsWaiting (share_at m j) n) (λ waits. subst (λ w. IsSome (get w n)) same waits) (λ j apart waits. waits) j
