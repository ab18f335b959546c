-- what each call of the part of points that count makes of them
use Rattle.std.proofs.Common.{◌≡◌, ◌≢◌, ℕ, ◌+◌, ◌-◌, ◌<◌, ◌≤◌, ◌^◌, ◌==◌, ◌&&◌, ◌++◌, Bool, true, false, cond, [], nat_lt, Option, Some, None, IsSome, is_some, unwrap_or, if◌then◌else◌, refl, ap, sym, subst, ◌∙◌, arith, append-nil}
use Rattle.std.specs.Prelude.{IfSome, Result, Ok}
use Rattle.std.specs.Option.{option_map}
use Rattle.std.specs.FinMap.{get, insert, remove, len}
use Rattle.std.proofs.lemmas.Bool.{eqb-true, eqb-false, eq-eqb, ne_eqb}
use Rattle.mea_base.specs.Ready.{Waking}
use Rattle.mea_base.specs.Totals.{weight}
use Rattle.mea_base.proofs.Totals.{total-zero, total-alike}
use Rattle.mea_base.proofs.Maps.{by_put, inside, is_there, value_in, total-has}
use Rattle.mea_family.specs.Causes.{unknown_unless, borrowed_by}
use Rattle.mea_family.specs.Family.{Outcome, quietly}
use Rattle.mea_family.specs.Play.{Part, PartYields, PartRests, found}
use Rattle.mea_family.specs.declared.answer.Answer.{Answer}
use Rattle.mea_family.specs.declared.answer.Answer.TheVariants as answers
use Rattle.mea_family.specs.declared.stop.Stop.{Stop}
use Rattle.mea_family.specs.declared.stop.Stop.TheVariants as stops
use Rattle.mea_by_name.specs.ByName.{Names, seen, own, is_of}
use Rattle.mea_by_name.proofs.Cases.{found_is, if_true, if_false}
use Rattle.mea_by_name.proofs.Own.{Moves, Stays, Comes, Goes, seen-at, seen-back, get-own, seen-insert, seen-remove, seen-alike, own-at, own-none, own-had, own-put, own-gone, insert_same, put_gone, gone_none, len-some, len-over, count-least, total-seen}
use Rattle.mea_sets.specs.Poll.{Ready, Pending}
use Rattle.mea_sets.specs.WaitSet.{has_given}
use Rattle.mea_meet_model.specs.Count.{Count, with_waker}
use Rattle.mea_meet_model.specs.Counts as model
use Rattle.mea_meet_model.specs.Counts.{Counts, Point, Holder, Wait, is_holder, is_sender, is_wait, borrows, borrowers_of, registered, of_itself, tidied}
use Rattle.mea_meet_model.specs.CountActions.{Action, Begin, Join, Watch, Into, EndHolder, Copy, EndWait, EndEither, CopySender, Await, EndSender, act_in, cause_in, end_by, leave_by, join_cause, overflow_at, is_counted}
use Rattle.mea_meet_model.specs.CountActions as actions
use Rattle.mea_meet_model.specs.Valid.{HasCounts, BorrowNothing}
use Rattle.mea_meet_model.proofs.CountsKept.{counts_later, no_holder}
use Rattle.mea_meet_model.proofs.CountEvents.{MayAct, joins}
use Rattle.mea_meet.specs.declared.holder_entry.HolderEntry.{HolderEntry}
use Rattle.mea_meet.specs.declared.wait_entry.WaitEntry.{WaitEntry}
use Rattle.mea_meet.specs.declared.count_wait.CountWait.{CountWait}
use Rattle.mea_meet.specs.declared.count_wait.CountWait.TheVariants as waits
use Rattle.mea_meet.specs.CountCores.{NamedPoint, arrived, joined, parted, handed_on, count_at, kept_by}
use Rattle.mea_meet.specs.CountWaits.{end_of, slot_of, borrowed_of, awaits_of}
use Rattle.mea_meet.specs.CountEntries.{KeptPoint, Settles, Polled, is_full}
use Rattle.mea_meet.specs.CountParts.{point_seen, holder_seen, wait_seen, counts_seen, of_holder, of_wait, borrowers_in, AreKept, AreKeptCounts, given_back_at, given_back}
use Rattle.mea_family.specs.Acts.{Acts, ActsQuietly}
use Rattle.mea_meet.specs.Halls.{CountActs, CountActsQuietly}
use Rattle.mea_meet_model.proofs.Registrations.{at_most_one}
use Rattle.mea_meet.proofs.CountSeeing as seeing
use Rattle.mea_meet.proofs.CountSeeing.{kept_in}
use Rattle.mea_meet.proofs.OneCount as one
use Rattle.mea_meet.proofs.OneCount.{borrows_plain}
use Rattle.mea_meet.proofs.CountSites.{Each, Site, part_of, in_view, holder_is, known_holder, known_wait, known_sender, holders_point, senders_point, waits_point, its_room, rests_as, yields_as, new_holder, new_wait, new_sender, its, seen_there, its_few, found_here, kept_now, each_turned, each_tidied, seen_tidied, kept_tidied, each_rests, valid_act}

abbrev no_point_there : Point
no_point_there = record { signal = record { number = 0; waiting = [] }; members = record { number = 0; waiting = [] } }

-- a count that is full for one more
full_is : (b : Bool) (n : ℕ) → (if b && (n == 4294967295) then Some stops.Overflow else None) ≡ (if b then overflow_at n else None)
full_is true n = refl
full_is false n = refl

pub not_full : (b : Bool) (n : ℕ) → (b && (n == 4294967295)) ≡ false → b ≡ true → n ≢ 4294967295
not_full true n test is = eqb-false n 4294967295 test
not_full false n test is = absurd (cc)

-- where futures borrow no holder, none borrows this
pub free_of_all : (h : Counts) → BorrowNothing h → (k f : ℕ) (y : Wait) → get h.waits f ≡ Some y → borrows y.awaits k ≡ false
free_of_all h nothing k f y is = ap (λ a. borrows a k) (nothing f y is)

-- the end of a holder, or else of a future
module _ (old : Part Counts) (i : ℕ) where
  pub either_holder : (x : ℕ) → is_holder old.hall x ≡ true → (answer : Answer) (new : Part Counts) (before after : Waking ℕ) → PartYields registered old i (leave_by old.hall x) answer new before after → CountActs old i (EndEither x) (Ok answer) new before after
  either_holder x is answer new before after yields = (ap (λ b. unknown_unless (if b then true else is_wait old.hall x)) is, subst (λ b. PartYields registered old i (if b then leave_by old.hall x else end_by old.hall x) answer new before after) (sym is) yields)

  pub either_wait : (x : ℕ) → is_holder old.hall x ≡ false → (result : Result Answer Stop) (new : Part Counts) (before after : Waking ℕ) → CountActs old i (EndWait x) result new before after → CountActs old i (EndEither x) result new before after
  either_wait x is result new before after acts = subst (λ b. Acts registered (unknown_unless (if b then true else is_wait old.hall x)) (Unit {0}) old i (if b then leave_by old.hall x else end_by old.hall x) result new before after) (sym is) acts

module _ {old : Part Counts} {i : ℕ} (s : Site old i) where
  abbrev here : Counts
  here = counts_seen s.ps s.ss s.hs s.ws

  -- an action was done, and no waker was made ready; or some were
  abbrev pub Rests : Action → Answer → Names KeptPoint → Names ℕ → Names HolderEntry → Names WaitEntry → Type 0
  Rests a answer ps ss hs ws = AreKeptCounts ps ss hs ws (i + 1) × ((cause_in old.hall a ≡ None) × PartRests registered old i (act_in old.hall i a) answer (part_of ps ss hs ws (i + 1)))

  abbrev Yields : Action → Answer → Names KeptPoint → Names ℕ → Names HolderEntry → Names WaitEntry → Waking ℕ → Waking ℕ → Type 0
  Yields a answer ps ss hs ws before after = AreKeptCounts ps ss hs ws (i + 1) × ((cause_in old.hall a ≡ None) × PartYields registered old i (act_in old.hall i a) answer (part_of ps ss hs ws (i + 1)) before after)

  -- what an action does that has no cause for refusal
  module _ (a : Action) (out : Outcome Counts) (is : act_in here i a ≡ out) (allowed : cause_in old.hall a ≡ None) (may : MayAct here a) where
    valid : HasCounts out.hall (i + 1)
    valid = subst (λ (out : Outcome Counts). HasCounts out.hall (i + 1)) is (valid_act s a allowed may)

    module _ (answer : Answer) (replied : answer ≡ out.reply) (ps' : Names KeptPoint) (ss' : Names ℕ) (hs' : Names HolderEntry) (ws' : Names WaitEntry)
        (points : seen point_seen ps' ≡ out.hall.points) (senders : ss' ≡ out.hall.senders) (holders : seen holder_seen hs' ≡ out.hall.holders) (waits : seen wait_seen ws' ≡ out.hall.waits) (each : Each ps' ss' hs' ws' (i + 1)) where
      pub rests_by : out.wakes ≡ [] → kept_in ps' ≡ kept_in s.ps → Rests a answer ps' ss' hs' ws'
      rests_by silent waiting = let it = rests_as s (λ h. act_in h i a) out is valid answer replied ps' ss' hs' ws' points senders holders waits each silent waiting in (it.0, (allowed, it.1))

      yields_by : (before after : Waking ℕ) → after.wakers ≡ before.wakers ++ out.wakes → after.registered + kept_in s.ps ≡ before.registered + kept_in ps' → Yields a answer ps' ss' hs' ws' before after
      yields_by before after woken waiting = let it = yields_as s (λ h. act_in h i a) out is valid answer replied ps' ss' hs' ws' points senders holders waits each before after woken waiting in (it.0, (allowed, it.1))

  -- ---- why it is refused, or is not
  pub holder_told : (k : ℕ) (p : Option HolderEntry) → get s.hs k ≡ p → unknown_unless (is_holder old.hall k) ≡ unknown_unless (is_some p)
  holder_told k p is = ap unknown_unless (known_holder s k p is)

  pub wait_told : (f : ℕ) (p : Option WaitEntry) → get s.ws f ≡ p → unknown_unless (is_wait old.hall f) ≡ unknown_unless (is_some p)
  wait_told f p is = ap unknown_unless (known_wait s f p is)

  pub sender_told : (k : ℕ) (p : Option ℕ) → get s.ss k ≡ p → unknown_unless (is_sender old.hall k) ≡ unknown_unless (is_some p)
  sender_told k p is = ap unknown_unless (known_sender s k p is)

  -- what was lent and did not change
  pub untold : (ps' : Names KeptPoint) (ss' : Names ℕ) (hs' : Names HolderEntry) (ws' : Names WaitEntry) → ps' ≡ s.ps → ss' ≡ s.ss → hs' ≡ s.hs → ws' ≡ s.ws → AreKeptCounts ps' ss' hs' ws' s.next × (part_of ps' ss' hs' ws' s.next ≡ old)
  untold ps' ss' hs' ws' points senders holders waits = rw (points, senders, holders, waits) (s.kept, s.view)

  pub unlent : (k : ℕ) (x : HolderEntry) → get s.hs k ≡ Some x → AreKeptCounts s.ps s.ss (insert s.hs k x) s.ws s.next × (part_of s.ps s.ss (insert s.hs k x) s.ws s.next ≡ old)
  unlent k x holder = untold s.ps s.ss (insert s.hs k x) s.ws refl refl (insert_same s.hs k x holder) refl

  pub unturned : (o : ℕ) (e : KeptPoint) → get s.ps o ≡ Some e → AreKeptCounts (insert s.ps o e) s.ss s.hs s.ws s.next × (part_of (insert s.ps o e) s.ss s.hs s.ws s.next ≡ old)
  unturned o e there = untold (insert s.ps o e) s.ss s.hs s.ws (insert_same s.ps o e there) refl refl refl

  pub untaken_wait : (f : ℕ) → get s.ws f ≡ None → (ws' : Names WaitEntry) → ws' ≡ remove s.ws f → AreKeptCounts s.ps s.ss s.hs ws' s.next × (part_of s.ps s.ss s.hs ws' s.next ≡ old)
  untaken_wait f none ws' gone = untold s.ps s.ss s.hs ws' refl refl refl (gone ∙ gone_none s.ws f none)

  pub untaken_holder : (k : ℕ) → get s.hs k ≡ None → (hs' : Names HolderEntry) → hs' ≡ remove s.hs k → AreKeptCounts s.ps s.ss hs' s.ws s.next × (part_of s.ps s.ss hs' s.ws s.next ≡ old)
  untaken_holder k none hs' gone = untold s.ps s.ss hs' s.ws refl refl (gone ∙ gone_none s.hs k none) refl

  pub untaken_sender : (k : ℕ) → get s.ss k ≡ None → (ss' : Names ℕ) → ss' ≡ remove s.ss k → AreKeptCounts s.ps ss' s.hs s.ws s.next × (part_of s.ps ss' s.hs s.ws s.next ≡ old)
  untaken_sender k none ss' gone = untold s.ps ss' s.hs s.ws refl (gone ∙ gone_none s.ss k none) refl refl

  -- what is done by a holder, or by a sender
  by_holder : (k : ℕ) (x : HolderEntry) (e : KeptPoint) → get s.hs k ≡ Some x → get s.ps x.point ≡ Some e → (act : Holder → Point → Outcome Counts)
      → found (get (seen holder_seen s.hs) k) (counts_seen s.ps s.ss s.hs s.ws) (λ x. found (get (seen point_seen s.ps) x.point) (counts_seen s.ps s.ss s.hs s.ws) (act x)) ≡ act (holder_seen x) (point_seen e)
  by_holder k x e holder there act = found_is _ _ _ (holder_seen x) (seen-at holder_seen s.hs k x holder) ∙ found_here s x.point e there (act (holder_seen x))

  by_wait : (f : ℕ) (y : WaitEntry) (e : KeptPoint) → get s.ws f ≡ Some y → get s.ps y.point ≡ Some e → (act : Wait → Point → Outcome Counts)
      → found (get (seen wait_seen s.ws) f) (counts_seen s.ps s.ss s.hs s.ws) (λ x. found (get (seen point_seen s.ps) x.point) (counts_seen s.ps s.ss s.hs s.ws) (act x)) ≡ act (wait_seen y) (point_seen e)
  by_wait f y e future there act = found_is _ _ _ (wait_seen y) (seen-at wait_seen s.ws f y future) ∙ found_here s y.point e there (act (wait_seen y))

  by_sender : (k o : ℕ) (e : KeptPoint) → get s.ss k ≡ Some o → get s.ps o ≡ Some e → (act : ℕ → Point → Outcome Counts)
      → found (get s.ss k) (counts_seen s.ps s.ss s.hs s.ws) (λ o. found (get (seen point_seen s.ps) o) (counts_seen s.ps s.ss s.hs s.ws) (act o)) ≡ act o (point_seen e)
  by_sender k o e sender there act = found_is _ _ _ o sender ∙ found_here s o e there (act o)

  -- ---- what is told
  told : (a : Action) (out : Outcome Counts) → act_in here i a ≡ out → cause_in old.hall a ≡ None → out.hall ≡ here → out.wakes ≡ [] → (answer : Answer) → answer ≡ out.reply → Rests a answer s.ps s.ss s.hs s.ws
  told a out is allowed same silent answer replied =
      let it = rests_as s (λ h. act_in h i a) out is (rw same (counts_later here s.next (i + 1) s.kept.valid (let later = s.later in omega (arith, later)))) answer replied s.ps s.ss s.hs s.ws
      (ap (λ (h : Counts). h.points) (sym same)) (ap (λ (h : Counts). h.senders) (sym same)) (ap (λ (h : Counts). h.holders) (sym same)) (ap (λ (h : Counts). h.waits) (sym same)) (each_rests s) silent refl in
      (it.0, (allowed, it.1))

  module _ (k : ℕ) (x : HolderEntry) (e : KeptPoint) (holder : get s.hs k ≡ Some x) (there : get s.ps x.point ≡ Some e) where
    pub numbered : (n : ℕ) → n ≡ e.point.signal.number → Rests (actions.Number k) (answers.Count n) s.ps s.ss s.hs s.ws
    numbered n is = told (actions.Number k) (model.number here (point_seen e)) (by_holder k x e holder there (λ x. model.number here)) (holder_told k (Some x) holder) refl refl (answers.Count n) (ap (λ n. answers.Count n) is)

    pub tried : (n : ℕ) → n ≡ e.point.signal.number → (answer : Answer) → answer ≡ cond (n == 0) answers.Accepted (answers.Left n) → Rests (actions.Try k) answer s.ps s.ss s.hs s.ws
    tried n is answer replied = told (actions.Try k) (model.try here (point_seen e)) (by_holder k x e holder there (λ x. model.try here)) (holder_told k (Some x) holder) refl refl answer (replied ∙ ap (λ n. cond (n == 0) answers.Accepted (answers.Left n)) is)

    pub asked : (b : Bool) → b ≡ (e.point.signal.number == 0) → (answer : Answer) → answer ≡ cond b answers.Yes answers.No → Rests (actions.Now k) answer s.ps s.ss s.hs s.ws
    asked b is answer replied = told (actions.Now k) (model.now here (point_seen e)) (by_holder k x e holder there (λ x. model.now here)) (holder_told k (Some x) holder) refl refl answer (replied ∙ ap (λ b. cond b answers.Yes answers.No) is)

  -- ---- at a point
  module _ (o : ℕ) (e : KeptPoint) (there : get s.ps o ≡ Some e) where
    abbrev kept : AreKept e (own of_wait o s.ws) (own of_holder o s.hs) (own of_itself o s.ss) s.next
    kept = its s o e there

    arrives : (a : Action) (m : ℕ) → act_in here i a ≡ model.arrive here m o (point_seen e) → cause_in old.hall a ≡ None → MayAct here a → (d : KeptPoint) (before after : Waking ℕ) → Settles e (arrived e.point m) d before after
        → Yields a answers.Done (insert s.ps o d) s.ss s.hs s.ws before after
    arrives a m is allowed may d before after settles =
        let now = kept_now s o e there (record e { point = handed_on (arrived e.point m) }) in
        let fewer = seeing.kept_arrived e.point (kept).quiet m in
        rw settles.entry (yields_by a (model.arrive here m o (point_seen e)) is allowed may answers.Done refl
        (insert s.ps o (record e { point = handed_on (arrived e.point m) })) s.ss s.hs s.ws
        (seen-insert point_seen s.ps o (record e { point = handed_on (arrived e.point m) }) ∙ ap (insert (seen point_seen s.ps) o) (seeing.core_arrived e.point m)) refl refl refl
        (each_turned s o e there s.ss s.hs s.ws Stays Stays Stays (record e { point = handed_on (arrived e.point m) }) (one.arrives e (own of_wait o s.ws) (own of_holder o s.hs) (own of_itself o s.ss) s.next i kept s.later m)) before after
        (settles.wakers ∙ ap (λ ws. before.wakers ++ ws) (seeing.woken_arrived e.point (kept).quiet m)) (let counted = settles.counted in omega (arith, now, fewer, counted)))

    -- a future more, where holders are these now
    module _ (y : WaitEntry) (mine : y.point ≡ o) (new : slot_of y.wait ≡ None) where
      comes : Moves of_wait o i s.ws (insert s.ws i y)
      comes = Comes i y (omega arith) mine (λ z is. absurd (let none = new_wait s in cc))

      fresh : get (own of_wait o s.ws) i ≡ None
      fresh = own-none of_wait o s.ws i (new_wait s)

      begins : (a : Action) (out : Outcome Counts) → act_in here i a ≡ out → cause_in old.hall a ≡ None → MayAct here a → out ≡ quietly (model.with_wait here i o (awaits_of y.wait)) answers.Made
          → (hs' : Names HolderEntry) → Moves of_holder o i s.hs hs' → seen holder_seen hs' ≡ seen holder_seen s.hs → len (own of_holder o hs') ≡ len (own of_holder o s.hs)
          → ((k : ℕ) (z : HolderEntry) → get (own of_holder o hs') k ≡ Some z → z.borrowers ≡ borrowers_in k (own of_wait o s.ws) + cond (borrows (awaits_of y.wait) k) 1 0)
          → Rests a answers.Made (insert s.ps o (record e { things = e.things + 1 })) s.ss hs' (insert s.ws i y)
      begins a out act allowed may made hs' holders alike many lent =
          let now = kept_now s o e there (record e { things = e.things + 1 }) in
          rests_by a (quietly (model.with_wait here i o (awaits_of y.wait)) answers.Made) (act ∙ made) allowed may answers.Made refl
          (insert s.ps o (record e { things = e.things + 1 })) s.ss hs' (insert s.ws i y)
          (seen-alike point_seen s.ps o e (record e { things = e.things + 1 }) there refl) refl alike
          (seen-insert wait_seen s.ws i y ∙ ap (insert (seen wait_seen s.ws) i) (λ j. record { point = mine j; awaits = awaits_of y.wait }))
          (each_turned s o e there s.ss hs' (insert s.ws i y) Stays holders comes (record e { things = e.things + 1 })
          (rw (own-put of_wait o s.ws i y mine) (one.begins e (own of_wait o s.ws) (own of_holder o s.hs) (own of_itself o s.ss) s.next i kept s.later y new fresh (own of_holder o hs') many lent)))
          refl (omega (arith, now))

      -- a holder becomes a future, or a sender does
      module _ (none : (k : ℕ) → borrows (awaits_of y.wait) k ≡ false) where
        goes_over : (k : ℕ) (x : HolderEntry) → get s.hs k ≡ Some x → x.point ≡ o → cause_in old.hall (Into k) ≡ None → BorrowNothing here → awaits_of y.wait ≡ model.Members
            → act_in here i (Into k) ≡ model.into here i k (holder_seen x) (point_seen e) → (d : KeptPoint) (before after : Waking ℕ) → Settles e (parted e.point x.counted) d before after
            → Yields (Into k) answers.Made (insert s.ps o d) s.ss (remove s.hs k) (insert s.ws i y) before after
        goes_over k x holder at allowed may members is d before after settles =
            let now = kept_now s o e there (record e { point = handed_on (parted e.point x.counted) }) in
            let fewer = seeing.kept_parted e.point (kept).quiet x.counted in
            rw settles.entry (yields_by (Into k) (model.into here i k (holder_seen x) (point_seen e)) is allowed may answers.Made refl
            (insert s.ps o (record e { point = handed_on (parted e.point x.counted) })) s.ss (remove s.hs k) (insert s.ws i y)
            (seen-insert point_seen s.ps o (record e { point = handed_on (parted e.point x.counted) }) ∙ (λ j. insert (seen point_seen s.ps) (sym at j) (seeing.core_parted e.point x.counted j))) refl
            (seen-remove holder_seen s.hs k)
            (seen-insert wait_seen s.ws i y ∙ ap (insert (seen wait_seen s.ws) i) (λ j. record { point = (mine ∙ sym at) j; awaits = members j }))
            (each_turned s o e there s.ss (remove s.hs k) (insert s.ws i y) Stays (Goes k (λ z is. ap (λ (x : HolderEntry). x.point) (inside (sym is ∙ holder)) ∙ at)) comes (record e { point = handed_on (parted e.point x.counted) })
            (rw (own-put of_wait o s.ws i y mine, own-gone of_holder o s.hs k) (one.goes_over e (own of_wait o s.ws) (own of_holder o s.hs) (own of_itself o s.ss) s.next i kept s.later y new fresh none k x (own-at of_holder o s.hs k x holder at) x.counted)))
            before after (settles.wakers ∙ ap (λ ws. before.wakers ++ ws) (seeing.woken_parted e.point (kept).quiet x.counted)) (let counted = settles.counted in omega (arith, now, fewer, counted)))

        awaits : (k : ℕ) → get s.ss k ≡ Some o → cause_in old.hall (Await k) ≡ None → awaits_of y.wait ≡ model.Members
            → Rests (Await k) answers.Made s.ps (remove s.ss k) s.hs (insert s.ws i y)
        awaits k sender allowed members =
            rests_by (Await k) (model.await here i k o) (found_is (get s.ss k) here (model.await here i k) o sender) allowed tt answers.Made refl
            s.ps (remove s.ss k) s.hs (insert s.ws i y) refl refl refl
            (seen-insert wait_seen s.ws i y ∙ ap (insert (seen wait_seen s.ws) i) (λ j. record { point = mine j; awaits = members j }))
            (subst (λ ps. Each ps (remove s.ss k) s.hs (insert s.ws i y) (i + 1)) (insert_same s.ps o e there)
            (each_turned s o e there (remove s.ss k) s.hs (insert s.ws i y) (Goes k (λ j is. inside (sym is ∙ sender))) Stays comes e
            (rw (own-put of_wait o s.ws i y mine, own-gone of_itself o s.ss k) (one.awaits e (own of_wait o s.ws) (own of_holder o s.hs) (own of_itself o s.ss) s.next i kept s.later y new fresh none k o (own-at of_itself o s.ss k o sender refl)))))
            refl refl

    -- a holder more
    pub added : (z : HolderEntry) → z.point ≡ o → z.borrowers ≡ 0 → (d : NamedPoint) → d ≡ joined e.point z.counted
        → AreKeptCounts (insert s.ps o (record { point = d; things = e.things + 1 })) s.ss (insert s.hs i z) s.ws (i + 1)
        × ((r : Point) → get old.hall.points o ≡ Some r → PartRests registered old i (model.join old.hall i o z.counted r) answers.Made (part_of (insert s.ps o (record { point = d; things = e.things + 1 })) s.ss (insert s.hs i z) s.ws (i + 1)))
    added z mine none d is = rw is (
      result.0,
      λ r at_old. subst (λ r. PartRests registered old i (model.join old.hall i o z.counted r) answers.Made (part_of (insert s.ps o (record { point = joined e.point z.counted; things = e.things + 1 })) s.ss (insert s.hs i z) s.ws (i + 1)))
          (inside (sym (seen_there s o e there) ∙ ap (λ (p : Part Counts). get p.hall.points o) s.view ∙ at_old)) result.1,
    )
      where
        nobody : borrowers_in i (own of_wait o s.ws) ≡ 0
        nobody = total-zero (λ f (y : WaitEntry). cond (borrows (awaits_of y.wait) i) 1 0) (own of_wait o s.ws) (λ f y is. at f y is (borrows (awaits_of y.wait) i) refl)
          where
            at : (f : ℕ) (y : WaitEntry) → get (own of_wait o s.ws) f ≡ Some y → (b : Bool) → borrows (awaits_of y.wait) i ≡ b → ◌≡◌ {A = ℕ} (cond b 1 0) 0
            at f y is false mine = refl
            at f y is true mine = absurd (
                let had = own-had of_wait o s.ws f y is in
                let lender = (s.kept.valid.each o (point_seen e) (seen_there s o e there)).borrowed f i (wait_seen y) (own-at model.of_wait o (seen wait_seen s.ws) f (wait_seen y) (seen-at wait_seen s.ws f y had.0) had.1) mine in
                let some = value_in _ lender in
                let there_ = (own-had model.of_holder o (seen holder_seen s.hs) i some.0 some.1).0 in
                let none_ = no_holder here s.next i s.kept.valid s.later in
                let no = sym none_ ∙ there_ in
                cc)

        result : AreKeptCounts (insert s.ps o (record { point = joined e.point z.counted; things = e.things + 1 })) s.ss (insert s.hs i z) s.ws (i + 1)
            × PartRests registered old i (model.join old.hall i o z.counted (point_seen e)) answers.Made (part_of (insert s.ps o (record { point = joined e.point z.counted; things = e.things + 1 })) s.ss (insert s.hs i z) s.ws (i + 1))
        result =
            let now = kept_now s o e there (record { point = joined e.point z.counted; things = e.things + 1 }) in
            let as_many = seeing.kept_joined e.point z.counted in
            rests_as s (λ h. model.join h i o z.counted (point_seen e)) (model.join here i o z.counted (point_seen e)) refl
            (joins here s.next i s.kept.valid s.later o (point_seen e) (seen_there s o e there) z.counted) answers.Made refl
            (insert s.ps o (record { point = joined e.point z.counted; things = e.things + 1 })) s.ss (insert s.hs i z) s.ws
            (seen-insert point_seen s.ps o (record { point = joined e.point z.counted; things = e.things + 1 }) ∙ ap (insert (seen point_seen s.ps) o) (seeing.core_joined e.point z.counted)) refl
            (seen-insert holder_seen s.hs i z ∙ ap (insert (seen holder_seen s.hs) i) (λ j. record { point = mine j; counted = z.counted })) refl
            (each_turned s o e there s.ss (insert s.hs i z) s.ws Stays (Comes i z (omega arith) mine (λ y is. absurd (let none = new_holder s in cc))) Stays (record { point = joined e.point z.counted; things = e.things + 1 })
            (rw (own-put of_holder o s.hs i z mine) (one.joins e (own of_wait o s.ws) (own of_holder o s.hs) (own of_itself o s.ss) s.next i kept s.later z none (own-none of_holder o s.hs i (new_holder s)) nobody z.counted)))
            refl (omega (arith, now, as_many))

    -- a sender more
    pub copied : (k : ℕ) → get s.ss k ≡ Some o → (d : KeptPoint) → d ≡ record e { things = e.things + 1 } → (ss' : Names ℕ) → ss' ≡ insert s.ss i o → Rests (CopySender k) answers.Made (insert s.ps o d) ss' s.hs s.ws
    copied k sender d more ss' put =
        let now = kept_now s o e there (record e { things = e.things + 1 }) in
        rw (more, put) (rests_by (CopySender k) (model.copy_sender here i o) (found_is (get s.ss k) here (model.copy_sender here i) o sender) (sender_told k (Some o) sender) tt answers.Made refl
        (insert s.ps o (record e { things = e.things + 1 })) (insert s.ss i o) s.hs s.ws (seen-alike point_seen s.ps o e (record e { things = e.things + 1 }) there refl) refl refl refl
        (each_turned s o e there (insert s.ss i o) s.hs s.ws (Comes i o (omega arith) refl (λ y is. absurd (let none = new_sender s in cc))) Stays Stays (record e { things = e.things + 1 })
        (rw (own-put of_itself o s.ss i o refl) (one.sends e (own of_wait o s.ws) (own of_holder o s.hs) (own of_itself o s.ss) s.next i kept s.later o (own-none of_itself o s.ss i (new_sender s)))))
        refl (omega (arith, now)))

    -- ---- something less, and the point is gone where nothing is left
    module _ (over : Bool) (before : Waking ℕ) where
      -- a sender
      sender_ended : (k : ℕ) → get s.ss k ≡ Some o → (e.things - 1 == 0) ≡ over → (after : Waking ℕ) → after.wakers ≡ before.wakers → after.registered + (if over then kept_by e.point else 0) ≡ before.registered
          → Yields (EndSender k) answers.Done (if over then remove (insert s.ps o (record e { things = e.things - 1 })) o else insert s.ps o (record e { things = e.things - 1 })) (remove s.ss k) s.hs s.ws before after
      sender_ended k sender is_it after woken released =
          let good : AreKept (record e { things = e.things - 1 }) (own of_wait o s.ws) (own of_holder o s.hs) (own of_itself o (remove s.ss k)) (i + 1) = rw (own-gone of_itself o s.ss k) (one.sends_less e (own of_wait o s.ws) (own of_holder o s.hs) (own of_itself o s.ss) s.next i kept s.later k o (own-at of_itself o s.ss k o sender refl)) in
          let goes : Moves of_itself o i s.ss (remove s.ss k) = Goes k (λ j is. inside (sym is ∙ sender)) in
          let counted = kept_tidied s o e there (remove s.ss k) s.hs s.ws goes Stays Stays (record e { things = e.things - 1 }) over is_it good before.registered after.registered released in
          yields_by (EndSender k) (model.end_sender here k o (point_seen e)) (by_sender k o e sender there (model.end_sender here k)) (sender_told k (Some o) sender) tt answers.Done refl
          (if over then remove (insert s.ps o (record e { things = e.things - 1 })) o else insert s.ps o (record e { things = e.things - 1 })) (remove s.ss k) s.hs s.ws
          (seen_tidied s o e there (remove s.ss k) s.hs s.ws goes Stays Stays (record e { things = e.things - 1 }) over is_it good (record here { senders = remove s.ss k }) (point_seen e) refl refl refl refl refl) refl refl refl
          (each_tidied s o e there (remove s.ss k) s.hs s.ws goes Stays Stays (record e { things = e.things - 1 }) over is_it good) before after (woken ∙ sym (append-nil before.wakers)) (omega (arith, counted))

      -- a holder that no future borrows
      holder_ended : (k : ℕ) (x : HolderEntry) → get s.hs k ≡ Some x → x.point ≡ o → ((f : ℕ) (y : Wait) → get old.hall.waits f ≡ Some y → borrows y.awaits k ≡ false) → (e.things - 1 == 0) ≡ over
          → (d : KeptPoint) (between after : Waking ℕ) → Settles e (parted e.point x.counted) d before between → after.wakers ≡ between.wakers → after.registered + (if over then kept_by d.point else 0) ≡ between.registered
          → Yields (EndHolder k) answers.Done (if over then remove (insert s.ps o (record d { things = d.things - 1 })) o else insert s.ps o (record d { things = d.things - 1 })) s.ss (remove s.hs k) s.ws before after
      holder_ended k x holder at free is_it d between after settles same released =
          let good : AreKept (record { point = handed_on (parted e.point x.counted); things = e.things - 1 }) (own of_wait o s.ws) (own of_holder o (remove s.hs k)) (own of_itself o s.ss) (i + 1) = rw (own-gone of_holder o s.hs k) (one.parts e (own of_wait o s.ws) (own of_holder o s.hs) (own of_itself o s.ss) s.next i kept s.later k x (own-at of_holder o s.hs k x holder at) x.counted) in
          let goes : Moves of_holder o i s.hs (remove s.hs k) = Goes k (λ z is. ap (λ (x : HolderEntry). x.point) (inside (sym is ∙ holder)) ∙ at) in
          let kept_d : kept_by d.point ≡ kept_by (handed_on (parted e.point x.counted)) = ap (λ (d : KeptPoint). kept_by d.point) settles.entry in
          let freed : between.registered ≡ after.registered + (if over then kept_by (handed_on (parted e.point x.counted)) else 0) = sym released ∙ ap (λ n. after.registered + (if over then n else 0)) kept_d in
          let counted = kept_tidied s o e there s.ss (remove s.hs k) s.ws Stays goes Stays (record { point = handed_on (parted e.point x.counted); things = e.things - 1 }) over is_it good between.registered after.registered (sym freed) in
          let fewer = seeing.kept_parted e.point (kept).quiet x.counted in
          let woken = settles.counted in
          rw settles.entry (yields_by (EndHolder k) (model.end_holder here k (holder_seen x) (point_seen e)) (by_holder k x e holder (ap (get s.ps) at ∙ there) (model.end_holder here k)) allowed tt answers.Done refl
          (if over then remove (insert s.ps o (record { point = handed_on (parted e.point x.counted); things = e.things - 1 })) o else insert s.ps o (record { point = handed_on (parted e.point x.counted); things = e.things - 1 })) s.ss (remove s.hs k) s.ws
          (seen_tidied s o e there s.ss (remove s.hs k) s.ws Stays goes Stays (record { point = handed_on (parted e.point x.counted); things = e.things - 1 }) over is_it good (record here { holders = remove (seen holder_seen s.hs) k }) (model.parted (point_seen e) x.counted) refl refl (sym (seen-remove holder_seen s.hs k)) refl (seeing.core_parted e.point x.counted)
          ∙ (λ j. (tidied (record here { holders = remove (seen holder_seen s.hs) k }) (sym at j) (model.parted (point_seen e) x.counted)).points)) refl (seen-remove holder_seen s.hs k) refl
          (each_tidied s o e there s.ss (remove s.hs k) s.ws Stays goes Stays (record { point = handed_on (parted e.point x.counted); things = e.things - 1 }) over is_it good) before after
          (same ∙ settles.wakers ∙ ap (λ ws. before.wakers ++ ws) (seeing.woken_parted e.point (kept).quiet x.counted)) (omega (arith, counted, fewer, woken)))
        where
          none_borrows : borrowers_of old.hall k ≡ 0
          none_borrows = total-zero (λ f (y : Wait). cond (borrows y.awaits k) 1 0) old.hall.waits (λ f y is. ap (λ b. cond b 1 0) (free f y is))

          allowed : cause_in old.hall (EndHolder k) ≡ None
          allowed = ap (λ b. borrowed_by b (borrowers_of old.hall k)) (known_holder s k (Some x) holder) ∙ ap (λ n. borrowed_by true n) none_borrows

      -- a future
      wait_ended : (f : ℕ) (y : WaitEntry) → get s.ws f ≡ Some y → y.point ≡ o → (hs' : Names HolderEntry) → hs' ≡ given_back s.hs (borrowed_of y.wait) → (e.things - 1 == 0) ≡ over
          → (after : Waking ℕ) → after.wakers ≡ before.wakers → after.registered + (if over then kept_by e.point else 0) ≡ before.registered
          → Yields (EndWait f) answers.Done (if over then remove (insert s.ps o (record e { things = e.things - 1 })) o else insert s.ps o (record e { things = e.things - 1 })) s.ss hs' (remove s.ws f) before after
      wait_ended f y future mine hs' given is_it after woken released = rw given (at y.wait refl)
        where
          Result : Names HolderEntry → Type 0
          Result hs' = Yields (EndWait f) answers.Done (if over then remove (insert s.ps o (record e { things = e.things - 1 })) o else insert s.ps o (record e { things = e.things - 1 })) s.ss hs' (remove s.ws f) before after

          goes : Moves of_wait o i s.ws (remove s.ws f)
          goes = Goes f (λ z is. ap (λ (y : WaitEntry). y.point) (inside (sym is ∙ future)) ∙ mine)

          is : end_by here f ≡ model.end_wait here f (wait_seen y) (point_seen e)
          is = by_wait f y e future (ap (get s.ps) mine ∙ there) (model.end_wait here f)

          ended : (hs : Names HolderEntry) → Moves of_holder o i s.hs hs → seen holder_seen hs ≡ seen holder_seen s.hs → len (own of_holder o hs) ≡ len (own of_holder o s.hs)
              → ((k : ℕ) (z : HolderEntry) → get (own of_holder o hs) k ≡ Some z → z.borrowers + cond (borrows (awaits_of y.wait) k) 1 0 ≡ borrowers_in k (own of_wait o s.ws)) → Result hs
          ended hs holders alike many back =
              let good : AreKept (record e { things = e.things - 1 }) (own of_wait o (remove s.ws f)) (own of_holder o hs) (own of_itself o s.ss) (i + 1) = rw (own-gone of_wait o s.ws f) (one.leaves e (own of_wait o s.ws) (own of_holder o s.hs) (own of_itself o s.ss) s.next i kept s.later f y (own-at of_wait o s.ws f y future mine) (own of_holder o hs) many back) in
              let counted = kept_tidied s o e there s.ss hs (remove s.ws f) Stays holders goes (record e { things = e.things - 1 }) over is_it good before.registered after.registered released in
              yields_by (EndWait f) (model.end_wait here f (wait_seen y) (point_seen e)) is (wait_told f (Some y) future) tt answers.Done refl
              (if over then remove (insert s.ps o (record e { things = e.things - 1 })) o else insert s.ps o (record e { things = e.things - 1 })) s.ss hs (remove s.ws f)
              (seen_tidied s o e there s.ss hs (remove s.ws f) Stays holders goes (record e { things = e.things - 1 }) over is_it good (record here { waits = remove (seen wait_seen s.ws) f }) (point_seen e) refl refl (sym alike) (sym (seen-remove wait_seen s.ws f)) refl
              ∙ (λ j. (tidied (record here { waits = remove (seen wait_seen s.ws) f }) (sym mine j) (point_seen e)).points)) refl alike (seen-remove wait_seen s.ws f)
              (each_tidied s o e there s.ss hs (remove s.ws f) Stays holders goes (record e { things = e.things - 1 }) over is_it good) before after (woken ∙ sym (append-nil before.wakers)) (omega (arith, counted))

          -- who borrows nothing
          none_back : ((k : ℕ) → borrows (awaits_of y.wait) k ≡ false) → Result s.hs
          none_back none = ended s.hs Stays refl refl (λ k z is. let nothing : ◌≡◌ {A = ℕ} (cond (borrows (awaits_of y.wait) k) 1 0) 0 = ap (λ b. cond b 1 0) (none k) in let all = (kept).borrowers k z is in omega (arith, nothing, all))

          -- the holder that it borrows
          lender : (k : ℕ) → borrows (awaits_of y.wait) k ≡ true → (x : HolderEntry) × (get s.hs k ≡ Some x) × (x.point ≡ o)
          lender k borrowed =
              let some = (s.kept.valid.each o (point_seen e) (seen_there s o e there)).borrowed f k (wait_seen y) (own-at model.of_wait o (seen wait_seen s.ws) f (wait_seen y) (seen-at wait_seen s.ws f y future) mine) borrowed in
              let it = value_in _ some in
              let had = own-had model.of_holder o (seen holder_seen s.hs) k it.0 it.1 in
              let back = seen-back holder_seen s.hs k it.0 had.0 in
              (back.0, back.1, ap (λ (x : Holder). x.point) back.2 ∙ had.1)

          one_back : (k : ℕ) → ((j : ℕ) → borrows (awaits_of y.wait) j ≡ (k == j)) → Result (given_back_at s.hs k (get s.hs k))
          one_back k only =
              let it = lender k (only k ∙ eq-eqb k k refl) in
              let x : HolderEntry = it.0 in
              subst (λ p. Result (given_back_at s.hs k p)) (sym it.1)
              (ended (insert s.hs k (record it.0 { borrowers = it.0.borrowers - 1 }))
              (Comes k (record it.0 { borrowers = it.0.borrowers - 1 }) (let low = (s.kept.valid.holders.at k (holder_seen it.0) (seen-at holder_seen s.hs k it.0 it.1)).0 in let later = s.later in omega (arith, low, later)) it.2 (λ z is. ap (λ (x : HolderEntry). x.point) (inside (sym is ∙ it.1)) ∙ it.2))
              (seen-alike holder_seen s.hs k it.0 (record it.0 { borrowers = it.0.borrowers - 1 }) it.1 refl)
              (ap len (own-put of_holder o s.hs k (record it.0 { borrowers = it.0.borrowers - 1 }) it.2) ∙ len-over (own of_holder o s.hs) k (record it.0 { borrowers = it.0.borrowers - 1 }) it.0 (own-at of_holder o s.hs k it.0 it.1 it.2))
              (λ j z is. by_put (own of_holder o s.hs) k (record it.0 { borrowers = it.0.borrowers - 1 }) (λ j p. p ≡ Some z → z.borrowers + cond (borrows (awaits_of y.wait) j) 1 0 ≡ borrowers_in j (own of_wait o s.ws))
              (λ has.
              let mine : it.0.borrowers - 1 ≡ z.borrowers = ap (λ (x : HolderEntry). x.borrowers) (inside has) in
              let all = (kept).borrowers k it.0 (own-at of_holder o s.hs k it.0 it.1 it.2) in
              let counts : ◌≡◌ {A = ℕ} (cond (borrows (awaits_of y.wait) k) 1 0) 1 = ap (λ b. cond b 1 0) (only k ∙ eq-eqb k k refl) in
              let some = total-has (λ f (y : WaitEntry). cond (borrows (awaits_of y.wait) k) 1 0) (own of_wait o s.ws) f y (own-at of_wait o s.ws f y future mine_) in
              omega (arith, mine, all, counts, some))
              (λ j apart has.
              let nothing : ◌≡◌ {A = ℕ} (cond (borrows (awaits_of y.wait) j) 1 0) 0 = ap (λ b. cond b 1 0) (only j ∙ ne_eqb k j apart) in
              let all = (kept).borrowers j z has in
              omega (arith, nothing, all))
              j (sym (ap (λ m. get m j) (own-put of_holder o s.hs k (record it.0 { borrowers = it.0.borrowers - 1 }) it.2)) ∙ is)))
            where
              mine_ : y.point ≡ o
              mine_ = mine

          at : (w : CountWait) → y.wait ≡ w → Result (given_back s.hs (borrowed_of y.wait))
          at (waits.Members slot) to = subst (λ b. Result (given_back s.hs b)) (sym (ap borrowed_of to)) (none_back (λ k. ap (λ w. borrows (awaits_of w) k) to))
          at (waits.Signal slot None) to = subst (λ b. Result (given_back s.hs b)) (sym (ap borrowed_of to)) (none_back (λ k. ap (λ w. borrows (awaits_of w) k) to))
          at (waits.Signal slot (Some k)) to = subst (λ b. Result (given_back s.hs b)) (sym (ap borrowed_of to)) (one_back k (λ j. ap (λ w. borrows (awaits_of w) j) to))

  -- ---- a poll that waits
  module _ (f : ℕ) (y : WaitEntry) (e : KeptPoint) (future : get s.ws f ≡ Some y) (there : get s.ps y.point ≡ Some e) where
    own_future : get (own of_wait y.point s.ws) f ≡ Some y
    own_future = own-at of_wait y.point s.ws f y future refl

    pub poll_given : has_given (count_at (end_of y.wait) e.point).waiting (slot_of y.wait) ≡ true
    poll_given = one.given e (own of_wait y.point s.ws) (own of_holder y.point s.hs) (own of_itself y.point s.ss) s.next i (its s y.point e there) s.later f y own_future

    -- where nothing changed
    pub unpolled : (d : KeptPoint) (w : CountWait) → d ≡ e → w ≡ y.wait → AreKeptCounts (insert s.ps y.point d) s.ss s.hs (insert s.ws f (record y { wait = w })) s.next × (part_of (insert s.ps y.point d) s.ss s.hs (insert s.ws f (record y { wait = w })) s.next ≡ old)
    unpolled d w first second = rw (first, second, insert_same s.ps y.point e there, insert_same s.ws f y future) (s.kept, s.view)

    ends_seen : (w : CountWait) → model.end_of (awaits_of w) ≡ end_of w
    ends_seen (waits.Signal slot borrowed) = refl
    ends_seen (waits.Members slot) = refl

    seen_number : (model.count_at (model.end_of (awaits_of y.wait)) (point_seen e)).number ≡ (count_at (end_of y.wait) e.point).number
    seen_number = ap (λ d. (model.count_at d (point_seen e)).number) (ends_seen y.wait) ∙ ap (λ (c : Count). c.number) (seeing.count_at_seen (end_of y.wait) e.point)

    pub waits_on : (w : ℕ) (d : KeptPoint) (x' : CountWait) (before after : Waking ℕ) → Polled e y.wait (record { name = f; waker = w }) Pending d x' before after
        → Yields (actions.Poll f w) answers.Pending (insert s.ps y.point d) s.ss s.hs (insert s.ws f (record y { wait = x' })) before after
    waits_on w d x' before after polled = at ((count_at (end_of y.wait) e.point).number == 0) refl
      where
        pends : (0 < (count_at (end_of y.wait) e.point).number) → ((count_at (end_of y.wait) e.point).number == 0) ≡ false → Yields (actions.Poll f w) answers.Pending (insert s.ps y.point d) s.ss s.hs (insert s.ws f (record y { wait = x' })) before after
        pends some test =
            let it = polled.turns.pending some in
            let now = kept_now s y.point e there d in
            let counted = polled.counted in
            let is = by_wait f y e future there (model.poll here f w) ∙ if_false ((model.count_at (model.end_of (awaits_of y.wait)) (point_seen e)).number == 0) _ _ (ap (λ n. n == 0) seen_number ∙ test) in
            yields_by (actions.Poll f w) (model.waits_on here f w (wait_seen y) (point_seen e)) is (wait_told f (Some y) future) tt answers.Pending refl
            (insert s.ps y.point d) s.ss s.hs (insert s.ws f (record y { wait = x' }))
            (seen-insert point_seen s.ps y.point d ∙ ap (insert (seen point_seen s.ps) y.point) (ap point_seen it.1 ∙ seeing.core_registered e.point (end_of y.wait) (slot_of y.wait) (record { name = f; waker = w }) f w
            (one.names_now e (own of_wait y.point s.ws) (own of_holder y.point s.hs) (own of_itself y.point s.ss) s.next i (its s y.point e there) s.later f y own_future w)
            ∙ ap (λ d. model.with_count d (point_seen e) (with_waker (model.count_at d (point_seen e)) f w)) (sym (ends_seen y.wait)))) refl refl
            (seen-alike wait_seen s.ws f y (record y { wait = x' }) future (λ j. record { point = y.point; awaits = (ap awaits_of it.2 ∙ one.awaits_same y.wait _) j }))
            (each_turned s y.point e there s.ss s.hs (insert s.ws f (record y { wait = x' })) Stays Stays (Comes f (record y { wait = x' }) (let low = (s.kept.valid.waits.at f (wait_seen y) (seen-at wait_seen s.ws f y future)).0 in let later = s.later in omega (arith, low, later)) refl (λ z has. ap (λ (y : WaitEntry). y.point) (inside (sym has ∙ future)))) d
            (rw (own-put of_wait y.point s.ws f (record y { wait = x' }) refl, it.1) (one.waits_on e (own of_wait y.point s.ws) (own of_holder y.point s.hs) (own of_itself y.point s.ss) s.next i (its s y.point e there) s.later f y own_future w x' it.2)))
            before after (polled.wakers ∙ sym (append-nil before.wakers)) (omega (arith, now, counted))

        at : (b : Bool) → ((count_at (end_of y.wait) e.point).number == 0) ≡ b → Yields (actions.Poll f w) answers.Pending (insert s.ps y.point d) s.ss s.hs (insert s.ws f (record y { wait = x' })) before after
        at true test = absurd (let it = polled.turns.ready (eqb-true _ 0 test) in cc)
        at false test = pends (let apart = eqb-false (count_at (end_of y.wait) e.point).number 0 test in omega (arith, apart)) test

    -- a poll that is ready: nothing changed yet, and the end of the future is all that is left
    pub ready_same : (w : ℕ) (d : KeptPoint) (x' : CountWait) (before after : Waking ℕ) → Polled e y.wait (record { name = f; waker = w }) (Ready tt) d x' before after → (d ≡ e) × (x' ≡ y.wait) × (after ≡ before) × ((count_at (end_of y.wait) e.point).number ≡ 0)
    ready_same w d x' before after polled = at ((count_at (end_of y.wait) e.point).number == 0) refl
      where
        at : (b : Bool) → ((count_at (end_of y.wait) e.point).number == 0) ≡ b → (d ≡ e) × (x' ≡ y.wait) × (after ≡ before) × ((count_at (end_of y.wait) e.point).number ≡ 0)
        at true test =
            let none = eqb-true (count_at (end_of y.wait) e.point).number 0 test in
            let it = polled.turns.ready none in
            let as_many : kept_by d.point ≡ kept_by e.point = ap (λ (d : KeptPoint). kept_by d.point) it.1 in
            let counted = polled.counted in
            let number : after.registered ≡ before.registered = omega (arith, counted, as_many) in
            (it.1, it.2, λ j. record { wakers = polled.wakers j; registered = number j }, none)
        at false test = absurd (let it = polled.turns.pending (let apart = eqb-false (count_at (end_of y.wait) e.point).number 0 test in omega (arith, apart)) in cc)

    readies : (w : ℕ) → (count_at (end_of y.wait) e.point).number ≡ 0 → (answer : Answer) (new : Part Counts) (before after : Waking ℕ) → PartYields registered old i (end_by old.hall f) answer new before after → PartYields registered old i (act_in old.hall i (actions.Poll f w)) answers.Ready new before after
    readies w none answer new before after yields =
        let ended : end_by old.hall f ≡ model.end_wait old.hall f (wait_seen y) (point_seen e) = subst (λ (p : Part Counts). end_by p.hall f ≡ model.end_wait p.hall f (wait_seen y) (point_seen e)) s.view (by_wait f y e future there (model.end_wait here f)) in
        let is : act_in old.hall i (actions.Poll f w) ≡ quietly (model.gone old.hall f (wait_seen y) (point_seen e)) answers.Ready =
        subst (λ (p : Part Counts). act_in p.hall i (actions.Poll f w) ≡ quietly (model.gone p.hall f (wait_seen y) (point_seen e)) answers.Ready) s.view
        (by_wait f y e future there (model.poll here f w) ∙ if_true ((model.count_at (model.end_of (awaits_of y.wait)) (point_seen e)).number == 0) _ _ (ap (λ n. n == 0) (seen_number ∙ none))) in
        let moved = subst (λ (out : Outcome Counts). PartYields registered old i out answer new before after) ended yields in
        subst (λ (out : Outcome Counts). PartYields registered old i out answers.Ready new before after) (sym is) (record { replied = refl; moved = moved.moved; woken = moved.woken; counted = moved.counted })

  -- ---- the calls, as they are made
  pub arrived_by : (k : ℕ) (x : HolderEntry) (e : KeptPoint) → get s.hs k ≡ Some x → get s.ps x.point ≡ Some e → (m : ℕ) (d : KeptPoint) (before after : Waking ℕ) → Settles e (arrived e.point m) d before after
      → Yields (actions.Arrive k m) answers.Done (insert s.ps x.point d) s.ss s.hs s.ws before after
  arrived_by k x e holder there m d before after settles = arrives x.point e there (actions.Arrive k m) m (by_holder k x e holder there (λ x. model.arrive here m x.point)) (holder_told k (Some x) holder) tt d before after settles

  pub sent_by : (k o : ℕ) (e : KeptPoint) → get s.ss k ≡ Some o → get s.ps o ≡ Some e → (d : KeptPoint) (before after : Waking ℕ) → Settles e (arrived e.point 1) d before after
      → Yields (actions.Send k) answers.Done (insert s.ps o d) s.ss s.hs s.ws before after
  sent_by k o e sender there d before after settles = arrives o e there (actions.Send k) 1 (by_sender k o e sender there (model.arrive here 1)) (sender_told k (Some o) sender) tt d before after settles

  -- a future on the signal
  pub begun : (k : ℕ) (x : HolderEntry) (e : KeptPoint) → get s.hs k ≡ Some x → get s.ps x.point ≡ Some e → (plain : Bool) (y : WaitEntry) → y.point ≡ x.point → slot_of y.wait ≡ None
      → awaits_of y.wait ≡ model.Signal (cond plain (Some k) None) → (one : ℕ) → one ≡ cond plain 1 0 → (d : KeptPoint) → d ≡ record e { things = e.things + 1 } → (ws' : Names WaitEntry) → ws' ≡ insert s.ws i y
      → Rests (Begin k plain) answers.Made (insert s.ps x.point d) s.ss (insert s.hs k (record x { borrowers = x.borrowers + one })) ws'
  begun k x e holder there plain y mine new awaits_it one_ is d more ws' put = rw (more, put)
      (begins x.point e there y mine new (Begin k plain) (model.begin here i k plain (holder_seen x)) (found_is _ _ _ (holder_seen x) (seen-at holder_seen s.hs k x holder)) (holder_told k (Some x) holder) tt
      (λ j. quietly (model.with_wait here i x.point (sym awaits_it j)) answers.Made) (insert s.hs k x')
      (Comes k x' (let low = (s.kept.valid.holders.at k (holder_seen x) (seen-at holder_seen s.hs k x holder)).0 in let later = s.later in omega (arith, low, later)) refl (λ w has. ap (λ (x : HolderEntry). x.point) (inside (sym has ∙ holder))))
      (seen-alike holder_seen s.hs k x x' holder refl)
      (ap len (own-put of_holder x.point s.hs k x' refl) ∙ len-over (own of_holder x.point s.hs) k x' x own_it)
      (λ j w has. by_put (own of_holder x.point s.hs) k x' (λ j p. p ≡ Some w → w.borrowers ≡ borrowers_in j (own of_wait x.point s.ws) + cond (borrows (awaits_of y.wait) j) 1 0)
      (λ it. let all = (kept x.point e there).borrowers k x own_it in let now = ap (λ (x : HolderEntry). x.borrowers) (inside it) in let lent = lends k in let yes : ◌≡◌ {A = ℕ} (cond (k == k) (cond plain 1 0) 0) (cond plain 1 0) = ap (λ b. cond b (cond plain 1 0) 0) (eq-eqb k k refl) in omega (arith, all, now, lent, yes, is))
      (λ j apart it. let all = (kept x.point e there).borrowers j w it in let lent = lends j in let not : ◌≡◌ {A = ℕ} (cond (k == j) (cond plain 1 0) 0) 0 = ap (λ b. cond b (cond plain 1 0) 0) (ne_eqb k j apart) in omega (arith, all, lent, not))
      j (sym (ap (λ m. get m j) (own-put of_holder x.point s.hs k x' refl)) ∙ has)))
    where
      x' : HolderEntry
      x' = record x { borrowers = x.borrowers + one_ }

      own_it : get (own of_holder x.point s.hs) k ≡ Some x
      own_it = own-at of_holder x.point s.hs k x holder refl

      lends : (j : ℕ) → ◌≡◌ {A = ℕ} (cond (borrows (awaits_of y.wait) j) 1 0) (cond (k == j) (cond plain 1 0) 0)
      lends j = ap (λ a. cond (borrows a j) 1 0) awaits_it ∙ borrows_plain plain k j

  -- that a holder borrowed by few is so still
  pub few_borrow : i < 2 ^ 64 → (k : ℕ) (z : HolderEntry) → get s.hs k ≡ Some z → (one : ℕ) (plain : Bool) → one ≡ cond plain 1 0 → z.borrowers + one < 2 ^ 128
  few_borrow fits k z holder one_ plain is =
      let point = value_in (get s.ps z.point) (holders_point s k z holder) in
      let all = (kept z.point point.0 point.1).borrowers k z (own-at of_holder z.point s.hs k z holder refl) in
      let few = count-least (λ (y : WaitEntry). borrows (awaits_of y.wait) k) (own of_wait z.point s.ws) in
      let things = (kept z.point point.0 point.1).things in
      let bound = its_few s z.point point.0 point.1 fits in
      let less = at_most_one plain in
      omega (arith, all, few, things, bound, less, is)

  -- a further future on the end of the members
  pub copied_wait : (f : ℕ) (x : WaitEntry) (e : KeptPoint) → get s.ws f ≡ Some x → get s.ps x.point ≡ Some e → (y : WaitEntry) → y.point ≡ x.point → slot_of y.wait ≡ None → awaits_of y.wait ≡ model.Members
      → (d : KeptPoint) → d ≡ record e { things = e.things + 1 } → (ws' : Names WaitEntry) → ws' ≡ insert s.ws i y → Rests (Copy f) answers.Made (insert s.ps x.point d) s.ss s.hs ws'
  copied_wait f x e future there y mine new awaits_it d more ws' put = rw (more, put)
      (begins x.point e there y mine new (Copy f) (model.copy here i (wait_seen x)) (found_is _ _ _ (wait_seen x) (seen-at wait_seen s.ws f x future)) (wait_told f (Some x) future) tt
      (λ j. quietly (model.with_wait here i x.point (sym awaits_it j)) answers.Made) s.hs Stays refl refl
      (λ k z is. let all = (kept x.point e there).borrowers k z is in let nothing : ◌≡◌ {A = ℕ} (cond (borrows (awaits_of y.wait) k) 1 0) 0 = ap (λ a. cond (borrows a k) 1 0) awaits_it in omega (arith, all, nothing)))

  -- a holder, or a sender, becomes one
  pub gone_over : (k : ℕ) (x : HolderEntry) (e : KeptPoint) → BorrowNothing old.hall → get s.hs k ≡ Some x → get s.ps x.point ≡ Some e → (y : WaitEntry) → y.point ≡ x.point → slot_of y.wait ≡ None → awaits_of y.wait ≡ model.Members
      → (d : KeptPoint) (before after : Waking ℕ) → Settles e (parted e.point x.counted) d before after → (ws' : Names WaitEntry) → ws' ≡ insert s.ws i y → (hs' : Names HolderEntry) → hs' ≡ remove s.hs k → Yields (Into k) answers.Made (insert s.ps x.point d) s.ss hs' ws' before after
  gone_over k x e free holder there y mine new awaits_it d before after settles ws' put hs' gone = rw (put, gone) (goes_over x.point e there y mine new (λ k. ap (λ a. borrows a k) awaits_it) k x holder refl (holder_told k (Some x) holder) (in_view s BorrowNothing free) awaits_it
      (by_holder k x e holder there (model.into here i k)) d before after settles)

  pub awaited : (k o : ℕ) → get s.ss k ≡ Some o → (y : WaitEntry) → y.point ≡ o → slot_of y.wait ≡ None → awaits_of y.wait ≡ model.Members → (ws' : Names WaitEntry) → ws' ≡ insert s.ws i y → (ss' : Names ℕ) → ss' ≡ remove s.ss k
      → Rests (Await k) answers.Made s.ps ss' s.hs ws'
  awaited k o sender y mine new awaits_it ws' put ss' gone = let e = value_in (get s.ps o) (senders_point s k o sender) in
      rw (put, gone) (awaits o e.0 e.1 y mine new (λ k. ap (λ a. borrows a k) awaits_it) k sender (sender_told k (Some o) sender) awaits_it)

  -- ---- what the calls ask
  module _ (k : ℕ) (x : HolderEntry) (e : KeptPoint) (holder : get s.hs k ≡ Some x) (there : get s.ps x.point ≡ Some e) where
    pub counted_lives : x.counted ≡ true → 0 < e.point.receivers.number
    counted_lives is =
        let all = (s.kept.valid.each x.point (point_seen e) (seen_there s x.point e there)).counted in
        let one_ : ◌≡◌ {A = ℕ} (cond x.counted 1 0) 1 = ap (λ b. cond b 1 0) is in
        let few = total-has (λ k (x : Holder). cond x.counted 1 0) (own model.of_holder x.point (seen holder_seen s.hs)) k (holder_seen x) (own-at model.of_holder x.point (seen holder_seen s.hs) k (holder_seen x) (seen-at holder_seen s.hs k x holder) refl) in
        omega (arith, all, one_, few)

    pub some_things : 1 ≤ e.things
    some_things = let all = (kept x.point e there).things in let one_ = len-some (own of_holder x.point s.hs) k x (own-at of_holder x.point s.hs k x holder refl) in omega (arith, all, one_)

  pub wait_some : (f : ℕ) (y : WaitEntry) (e : KeptPoint) → get s.ws f ≡ Some y → get s.ps y.point ≡ Some e → 1 ≤ e.things
  wait_some f y e future there = let all = (kept y.point e there).things in let one_ = len-some (own of_wait y.point s.ws) f y (own-at of_wait y.point s.ws f y future refl) in omega (arith, all, one_)

  pub sender_some : (k o : ℕ) (e : KeptPoint) → get s.ss k ≡ Some o → get s.ps o ≡ Some e → 1 ≤ e.things
  sender_some k o e sender there = let all = (kept o e there).things in let one_ = len-some (own of_itself o s.ss) k o (own-at of_itself o s.ss k o sender refl) in omega (arith, all, one_)

  -- as many borrow a holder as is counted
  pub borrowers_is : (k : ℕ) (x : HolderEntry) → get s.hs k ≡ Some x → borrowers_of old.hall k ≡ x.borrowers
  borrowers_is k x holder =
      let point = value_in (get s.ps x.point) (holders_point s k x holder) in
      ap (λ (p : Part Counts). borrowers_of p.hall k) (sym s.view) ∙ total-seen wait_seen (λ (y : Wait). cond (borrows y.awaits k) 1 0) s.ws
      ∙ total-alike (λ f (y : WaitEntry). cond (borrows (awaits_of y.wait) k) 1 0) (λ f (y : WaitEntry). cond (borrows (awaits_of y.wait) k) 1 0) s.ws (own of_wait x.point s.ws)
      (λ f. at f (get s.ws f) refl ∙ ap (weight (λ f (y : WaitEntry). cond (borrows (awaits_of y.wait) k) 1 0) f) (sym (get-own of_wait x.point s.ws f)))
      ∙ sym ((kept x.point point.0 point.1).borrowers k x (own-at of_holder x.point s.hs k x holder refl))
    where
      its_point : (f : ℕ) (y : WaitEntry) → get s.ws f ≡ Some y → borrows (awaits_of y.wait) k ≡ true → y.point ≡ x.point
      its_point f y future borrowed =
          let e = value_in (get s.ps y.point) (waits_point s f y future) in
          let some = (s.kept.valid.each y.point (point_seen e.0) (seen_there s y.point e.0 e.1)).borrowed f k (wait_seen y) (own-at model.of_wait y.point (seen wait_seen s.ws) f (wait_seen y) (seen-at wait_seen s.ws f y future) refl) borrowed in
          let it = value_in _ some in
          let had = own-had model.of_holder y.point (seen holder_seen s.hs) k it.0 it.1 in
          sym had.1 ∙ ap (λ (x : Holder). x.point) (inside (sym had.0 ∙ seen-at holder_seen s.hs k x holder))

      at : (f : ℕ) (p : Option WaitEntry) → get s.ws f ≡ p → ◌≡◌ {A = ℕ} (weight (λ f (y : WaitEntry). cond (borrows (awaits_of y.wait) k) 1 0) f p) (weight (λ f (y : WaitEntry). cond (borrows (awaits_of y.wait) k) 1 0) f (cond (is_of of_wait x.point p) p None))
      at f None is = refl
      at f (Some y) is = by_test (borrows (awaits_of y.wait) k) refl (y.point == x.point) refl
        where
          by_test : (b : Bool) → borrows (awaits_of y.wait) k ≡ b → (c : Bool) → (y.point == x.point) ≡ c → ◌≡◌ {A = ℕ} (cond b 1 0) (weight (λ f (y : WaitEntry). cond (borrows (awaits_of y.wait) k) 1 0) f (cond c (Some y) None))
          by_test b borrowed true test = ap (λ b. cond b 1 0) (sym borrowed)
          by_test false borrowed false test = refl
          by_test true borrowed false test = absurd (eqb-false y.point x.point test (its_point f y is borrowed))

  pub end_cause : (k : ℕ) (x : HolderEntry) → get s.hs k ≡ Some x → (if nat_lt 0 x.borrowers then Some stops.Borrowed else None) ≡ borrowed_by (is_holder old.hall k) (borrowers_of old.hall k)
  end_cause k x holder = ap (λ n. if nat_lt 0 n then Some stops.Borrowed else None) (sym (borrowers_is k x holder))
      ∙ sym (ap (λ b. borrowed_by b (borrowers_of old.hall k)) (known_holder s k (Some x) holder))

  -- ---- a further holder
  at_seen : (o : ℕ) (e : KeptPoint) → get s.ps o ≡ Some e → get old.hall.points o ≡ Some (point_seen e)
  at_seen o e there = ap (λ (p : Part Counts). get p.hall.points o) (sym s.view) ∙ seen_there s o e there

  holder_at : (k : ℕ) (x : HolderEntry) → get s.hs k ≡ Some x → get old.hall.holders k ≡ Some (holder_seen x)
  holder_at k x holder = ap (λ (p : Part Counts). get p.hall.holders k) (sym s.view) ∙ seen-at holder_seen s.hs k x holder

  pub join_point : (k : ℕ) (x : HolderEntry) → get s.hs k ≡ Some x → IsSome (get old.hall.points x.point)
  join_point k x holder = let e = value_in (get s.ps x.point) (holders_point s k x holder) in is_there (get old.hall.points x.point) (point_seen e.0) (at_seen x.point e.0 e.1)

  pub join_lives : (k : ℕ) (x : HolderEntry) → get s.hs k ≡ Some x → x.counted ≡ true → IfSome (get old.hall.points x.point) (λ r. 0 < r.members.number)
  join_lives k x holder is =
      let e = value_in (get s.ps x.point) (holders_point s k x holder) in
      subst (λ p. IfSome p (λ (r : Point). 0 < r.members.number)) (sym (at_seen x.point e.0 e.1)) (counted_lives k x e.0 holder e.1 is)

  pub lives_here : (o : ℕ) (e : KeptPoint) → get s.ps o ≡ Some e → IfSome (get old.hall.points o) (λ r. 0 < r.members.number) → 0 < e.point.receivers.number
  lives_here o e there lives = subst (λ p. IfSome p (λ (r : Point). 0 < r.members.number)) (at_seen o e there) lives

  -- why one more at a point is refused, as it is seen
  pub full_at : (o : ℕ) (e : KeptPoint) → get s.ps o ≡ Some e → (counted : Bool) (r : Point) → get old.hall.points o ≡ Some r → (if is_full e counted then Some stops.Overflow else None) ≡ (if counted then overflow_at r.members.number else None)
  full_at o e there counted r at_old = full_is counted e.point.receivers.number ∙ ap (λ (r : Point). if counted then overflow_at r.members.number else None) (inside (sym (at_seen o e there) ∙ at_old))

  join_cause_is : (k : ℕ) (x : HolderEntry) → get s.hs k ≡ Some x → (r : Point) → get old.hall.points x.point ≡ Some r → join_cause old.hall (get old.hall.holders k) ≡ (if x.counted then overflow_at r.members.number else None)
  join_cause_is k x holder r at_old = ap (join_cause old.hall) (holder_at k x holder) ∙ ap (λ p. if x.counted then overflow_at (unwrap_or p no_point_there).members.number else None) at_old

  pub join_refused : (k : ℕ) (x : HolderEntry) → get s.hs k ≡ Some x → (e : KeptPoint) → get s.ps x.point ≡ Some e → (if is_full e x.counted then Some stops.Overflow else None) ≡ join_cause old.hall (get old.hall.holders k)
  join_refused k x holder e there = full_at x.point e there x.counted (point_seen e) (at_seen x.point e there) ∙ sym (join_cause_is k x holder (point_seen e) (at_seen x.point e there))

  -- one was made beside another, or refused
  joined_as : (a : Action) (k : ℕ) (x : HolderEntry) → get s.hs k ≡ Some x → (b : Bool) → ((e : KeptPoint) → get s.ps x.point ≡ Some e → act_in here i a ≡ model.join here i x.point b (point_seen e))
      → ((r : Point) → get old.hall.points x.point ≡ Some r → cause_in old.hall a ≡ (if b then overflow_at r.members.number else None)) → (result : Result Answer Stop) (new : Part Counts)
      → ((r : Point) → get old.hall.points x.point ≡ Some r → ActsQuietly registered (if b then overflow_at r.members.number else None) ⊥ old i (model.join old.hall i x.point b r) result new) → ActsQuietly registered (cause_in old.hall a) ⊥ old i (act_in old.hall i a) result new
  joined_as a k x holder b is why result new made =
      let e = value_in (get s.ps x.point) (holders_point s k x holder) in
      let seen_e = at_seen x.point e.0 e.1 in
      let done : act_in old.hall i a ≡ model.join old.hall i x.point b (point_seen e.0) = subst (λ (p : Part Counts). act_in p.hall i a ≡ model.join p.hall i x.point b (point_seen e.0)) s.view (is e.0 e.1) in
      subst (λ (out : Outcome Counts). ActsQuietly registered (cause_in old.hall a) ⊥ old i out result new) (sym done) (subst (λ cause. ActsQuietly registered cause ⊥ old i (model.join old.hall i x.point b (point_seen e.0)) result new) (sym (why (point_seen e.0) seen_e)) (made (point_seen e.0) seen_e))

  pub joined_by : (k : ℕ) (x : HolderEntry) → get s.hs k ≡ Some x → (result : Result Answer Stop) (new : Part Counts)
      → ((r : Point) → get old.hall.points x.point ≡ Some r → ActsQuietly registered (if x.counted then overflow_at r.members.number else None) ⊥ old i (model.join old.hall i x.point x.counted r) result new) → CountActsQuietly old i (Join k) result new
  joined_by k x holder result new made = joined_as (Join k) k x holder x.counted (λ e there. by_holder k x e holder there (λ x. model.join here i x.point x.counted)) (join_cause_is k x holder) result new made

  counted_cause : (k : ℕ) (p : Option HolderEntry) → get s.hs k ≡ p → unknown_unless (is_counted (get old.hall.holders k)) ≡ unknown_unless (is_counted (option_map holder_seen p))
  counted_cause k p is = ap (λ p. unknown_unless (is_counted p)) (sym (holder_is s.ps s.ss s.hs s.ws s.next s.view k p is))

  pub watched_by : (k : ℕ) (x : HolderEntry) → get s.hs k ≡ Some x → x.counted ≡ true → (result : Result Answer Stop) (new : Part Counts)
      → ((r : Point) → get old.hall.points x.point ≡ Some r → ActsQuietly registered None ⊥ old i (model.join old.hall i x.point false r) result new) → CountActsQuietly old i (Watch k) result new
  watched_by k x holder counted result new made = joined_as (Watch k) k x holder false (λ e there. by_holder k x e holder there (λ x. model.join here i x.point false)) (λ r at_old. counted_cause k (Some x) holder ∙ ap unknown_unless counted) result new made

  pub no_watch : (k : ℕ) → get s.hs k ≡ None → unknown_unless (is_counted (get old.hall.holders k)) ≡ Some stops.Unknown
  no_watch k none = counted_cause k None none

  pub uncounted : (k : ℕ) (x : HolderEntry) → get s.hs k ≡ Some x → x.counted ≡ false → unknown_unless (is_counted (get old.hall.holders k)) ≡ Some stops.Unknown
  uncounted k x holder counted = counted_cause k (Some x) holder ∙ ap unknown_unless counted

  pub no_join : (k : ℕ) → get s.hs k ≡ None → join_cause old.hall (get old.hall.holders k) ≡ Some stops.Unknown
  no_join k none = ap (join_cause old.hall) (sym (holder_is s.ps s.ss s.hs s.ws s.next s.view k None none))

  -- ---- something less
  pub some_left : (k : ℕ) (x : HolderEntry) (e : KeptPoint) → get s.hs k ≡ Some x → get s.ps x.point ≡ Some e → (d : KeptPoint) (before after : Waking ℕ) → Settles e (parted e.point x.counted) d before after → 1 ≤ d.things
  some_left k x e holder there d before after settles = rw settles.entry (some_things k x e holder there)

  pub room_left : (o : ℕ) (e : KeptPoint) → get s.ps o ≡ Some e → (b : Bool) (d : KeptPoint) (before after : Waking ℕ) → Settles e (parted e.point b) d before after → registered old.hall ≤ before.registered → kept_by d.point ≤ after.registered
  room_left o e there b d before after settles room =
      let all = its_room s o e there before room in
      let fewer = seeing.kept_parted e.point (kept o e there).quiet b in
      let woken = settles.counted in
      let same : kept_by d.point ≡ kept_by (handed_on (parted e.point b)) = ap (λ (e : KeptPoint). kept_by e.point) settles.entry in
      omega (arith, all, fewer, woken, same)

  pub sender_left : (k o : ℕ) (e : KeptPoint) → get s.ss k ≡ Some o → get s.ps o ≡ Some e → (g : KeptPoint) → g ≡ record e { things = e.things - 1 } → (over : Bool) → over ≡ (g.things == 0) → (before after : Waking ℕ) → after.wakers ≡ before.wakers
      → after.registered + (if over then kept_by g.point else 0) ≡ before.registered → (ss' : Names ℕ) → ss' ≡ remove s.ss k → Yields (EndSender k) answers.Done (if over then remove (insert s.ps o g) o else insert s.ps o g) ss' s.hs s.ws before after
  sender_left k o e sender there g is over test before after woken released ss' gone =
      rw (is, gone) (sender_ended o e there over before k sender (sym (test ∙ ap (λ (g : KeptPoint). g.things == 0) is)) after woken (ap (λ (g : KeptPoint). after.registered + (if over then kept_by g.point else 0)) (sym is) ∙ released))

  pub holder_left : (k : ℕ) (x : HolderEntry) (e : KeptPoint) → get s.hs k ≡ Some x → get s.ps x.point ≡ Some e → ((f : ℕ) (y : Wait) → get old.hall.waits f ≡ Some y → borrows y.awaits k ≡ false) → (d : KeptPoint) (before between : Waking ℕ) → Settles e (parted e.point x.counted) d before between
      → (g : KeptPoint) → g ≡ record d { things = d.things - 1 } → (over : Bool) → over ≡ (g.things == 0) → (after : Waking ℕ) → after.wakers ≡ between.wakers → after.registered + (if over then kept_by g.point else 0) ≡ between.registered
      → (hs' : Names HolderEntry) → hs' ≡ remove s.hs k → Yields (EndHolder k) answers.Done (if over then remove (insert s.ps x.point g) x.point else insert s.ps x.point g) s.ss hs' s.ws before after
  holder_left k x e holder there free d before between settles g is over test after woken released hs' gone =
      rw (is, gone) (holder_ended x.point e there over before k x holder refl free (sym (test ∙ ap (λ (g : KeptPoint). g.things == 0) is ∙ ap (λ (d : KeptPoint). d.things - 1 == 0) settles.entry)) d between after settles woken
      (ap (λ (g : KeptPoint). after.registered + (if over then kept_by g.point else 0)) (sym is) ∙ released))

  pub wait_left : (f : ℕ) (y : WaitEntry) (e : KeptPoint) → get s.ws f ≡ Some y → get s.ps y.point ≡ Some e → (b : Option ℕ) → b ≡ borrowed_of y.wait → (hs' : Names HolderEntry) → hs' ≡ given_back s.hs b → (g : KeptPoint) → g ≡ record e { things = e.things - 1 }
      → (over : Bool) → over ≡ (g.things == 0) → (before after : Waking ℕ) → after.wakers ≡ before.wakers → after.registered + (if over then kept_by g.point else 0) ≡ before.registered → (ws' : Names WaitEntry) → ws' ≡ remove s.ws f
      → Yields (EndWait f) answers.Done (if over then remove (insert s.ps y.point g) y.point else insert s.ps y.point g) s.ss hs' ws' before after
  wait_left f y e future there b borrowed hs' given g is over test before after woken released ws' gone =
      rw (is, gone) (wait_ended y.point e there over before f y future refl hs' (given ∙ ap (given_back s.hs) borrowed) (sym (test ∙ ap (λ (g : KeptPoint). g.things == 0) is)) after woken (ap (λ (g : KeptPoint). after.registered + (if over then kept_by g.point else 0)) (sym is) ∙ released))

  -- a poll that is ready ends its future
  module _ (f : ℕ) (y : WaitEntry) (e : KeptPoint) (future : get s.ws f ≡ Some y) (there : get s.ps y.point ≡ Some e)
      (w : ℕ) (d : KeptPoint) (x' : CountWait) (before between : Waking ℕ) (polled : Polled e y.wait (record { name = f; waker = w }) (Ready tt) d x' before between) where
    same : (d ≡ e) × (x' ≡ y.wait) × (between ≡ before) × ((count_at (end_of y.wait) e.point).number ≡ 0)
    same = ready_same f y e future there w d x' before between polled

    pub ready_some : 1 ≤ d.things
    ready_some = let as_many = ap (λ (d : KeptPoint). d.things) (same).0 in let some = wait_some f y e future there in omega (arith, as_many, some)

    pub ready_room : registered old.hall ≤ before.registered → kept_by d.point ≤ between.registered
    ready_room room = let all = its_room s y.point e there before room in let kept_d = ap (λ (d : KeptPoint). kept_by d.point) (same).0 in let counted = ap (λ (w : Waking ℕ). w.registered) (same).2 in omega (arith, all, kept_d, counted)

    pub ready_lent : (b : Option ℕ) → b ≡ borrowed_of x' → b ≡ borrowed_of y.wait
    ready_lent b borrowed = borrowed ∙ ap borrowed_of (same).1

    pub readied : (b : Option ℕ) → b ≡ borrowed_of x' → (hs' : Names HolderEntry) → hs' ≡ given_back s.hs b → (g : KeptPoint) → g ≡ record d { things = d.things - 1 } → (over : Bool) → over ≡ (g.things == 0) → (after : Waking ℕ) → after.wakers ≡ between.wakers
        → after.registered + (if over then kept_by g.point else 0) ≡ between.registered → (ws' : Names WaitEntry) → ws' ≡ remove (insert s.ws f (record y { wait = x' })) f
        → Yields (actions.Poll f w) answers.Ready (if over then remove (insert s.ps y.point g) y.point else insert s.ps y.point g) s.ss hs' ws' before after
    readied b borrowed hs' given g is over test after woken released ws' gone =
        let left = wait_left f y e future there b (ready_lent b borrowed) hs' given g (is ∙ ap (λ (d : KeptPoint). record d { things = d.things - 1 }) (same).0) over test before after (woken ∙ ap (λ (w : Waking ℕ). w.wakers) (same).2) (released ∙ ap (λ (w : Waking ℕ). w.registered) (same).2)
        ws' (gone ∙ put_gone s.ws f (record y { wait = x' })) in
        (left.0, (wait_told f (Some y) future, readies f y e future there w (same).3 answers.Done _ before after left.1.1))

  -- what a future borrows is there, and counted
  pub lender_some : (f : ℕ) (y : WaitEntry) → get s.ws f ≡ Some y → (b : Option ℕ) → b ≡ borrowed_of y.wait → IfSome b (λ k. IfSome (get s.hs k) (λ x. 1 ≤ x.borrowers) × IsSome (get s.hs k))
  lender_some f y future b is = rw is (at y.wait refl)
    where
      lent : (k : ℕ) → borrows (awaits_of y.wait) k ≡ true → IfSome (get s.hs k) (λ x. 1 ≤ x.borrowers) × IsSome (get s.hs k)
      lent k borrowed =
          let e = value_in (get s.ps y.point) (waits_point s f y future) in
          let some = (s.kept.valid.each y.point (point_seen e.0) (seen_there s y.point e.0 e.1)).borrowed f k (wait_seen y) (own-at model.of_wait y.point (seen wait_seen s.ws) f (wait_seen y) (seen-at wait_seen s.ws f y future) refl) borrowed in
          let it = value_in _ some in
          let had = own-had model.of_holder y.point (seen holder_seen s.hs) k it.0 it.1 in
          let back = seen-back holder_seen s.hs k it.0 had.0 in
          let all = (kept y.point e.0 e.1).borrowers k back.0 (own-at of_holder y.point s.hs k back.0 back.1 (ap (λ (x : Holder). x.point) back.2 ∙ had.1)) in
          let counts : ◌≡◌ {A = ℕ} (cond (borrows (awaits_of y.wait) k) 1 0) 1 = ap (λ b. cond b 1 0) borrowed in
          let one_ = total-has (λ f (y : WaitEntry). cond (borrows (awaits_of y.wait) k) 1 0) (own of_wait y.point s.ws) f y (own-at of_wait y.point s.ws f y future refl) in
          (subst (λ p. IfSome p (λ (x : HolderEntry). 1 ≤ x.borrowers)) (sym back.1) (omega (arith, all, counts, one_)), is_there (get s.hs k) back.0 back.1)

      at : (w : CountWait) → y.wait ≡ w → IfSome (borrowed_of y.wait) (λ k. IfSome (get s.hs k) (λ x. 1 ≤ x.borrowers) × IsSome (get s.hs k))
      at (waits.Members slot) to = subst (λ b. IfSome b (λ k. IfSome (get s.hs k) (λ (x : HolderEntry). 1 ≤ x.borrowers) × IsSome (get s.hs k))) (sym (ap borrowed_of to)) tt
      at (waits.Signal slot None) to = subst (λ b. IfSome b (λ k. IfSome (get s.hs k) (λ (x : HolderEntry). 1 ≤ x.borrowers) × IsSome (get s.hs k))) (sym (ap borrowed_of to)) tt
      at (waits.Signal slot (Some k)) to = subst (λ b. IfSome b (λ k. IfSome (get s.hs k) (λ (x : HolderEntry). 1 ≤ x.borrowers) × IsSome (get s.hs k))) (sym (ap borrowed_of to)) (lent k (ap (λ w. borrows (awaits_of w) k) to ∙ eq-eqb k k refl))
