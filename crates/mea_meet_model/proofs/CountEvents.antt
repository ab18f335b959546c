-- each action keeps what holds of points that count
use Rattle.std.proofs.Common.{◌≡◌, ℕ, ◌+◌, ◌≤◌, ◌==◌, Bool, true, false, cond, Some, None, IsSome, is_some, if◌then◌else◌, refl, ap, sym, subst, ◌∙◌, arith}
use Rattle.std.specs.FinMap.{get, insert, remove, empty}
use Rattle.std.proofs.lemmas.Bool.{eqb-true, eqb-false}
use Rattle.mea_base.proofs.Maps.{by_put, by_gone, inside, is_there, value_in, get-there, get-other, removed_there, total-has}
use Rattle.mea_family.proofs.Refusals.{not_borrowed}
use Rattle.mea_family.specs.Family.{Outcome, quietly}
use Rattle.mea_family.specs.declared.answer.Answer.TheVariants as answers
use Rattle.mea_by_name.specs.ByName.{Names, own}
use Rattle.mea_by_name.specs.NamedQueue.{waker_for}
use Rattle.mea_by_name.proofs.Cases.{by_found, by_if}
use Rattle.mea_by_name.proofs.Own.{Moves, Stays, Comes, Goes, own-at, own-none, own-had, own-put, own-gone, own-empty, len-some, insert_same}
use Rattle.mea_meet_model.specs.Count.{decreased, with_waker}
use Rattle.mea_meet_model.specs.Counts as counts
use Rattle.mea_meet_model.specs.Counts.{Counts, Point, End, OfSignal, OfMembers, Holder, Awaited, Signal, Members, Wait, New, new_point, count_at, with_count, end_of, borrows, joined, parted, is_holder, borrowers_of, of_itself, of_holder, of_wait}
use Rattle.mea_meet_model.specs.CountActions.{Action, Make, Arrive, Begin, Join, Watch, Into, EndHolder, Copy, Poll, EndWait, EndEither, CopySender, Send, Await, EndSender, cause_in, act_in, end_by, leave_by}
use Rattle.mea_meet_model.specs.Valid.{IsPoint, AreThere, HasCounts, BorrowNothing}
use Rattle.mea_meet_model.proofs.ByHolder.{by_holder}
use Rattle.mea_meet_model.proofs.OnePoint as one
use Rattle.mea_meet_model.proofs.OnePoint.{decreased-was}
use Rattle.mea_meet_model.proofs.CountsKept.{counts_later, no_point, no_holder, no_wait, no_sender, old_new, old_gone, put, turned, tidies}

-- what an action asks beside that it has no cause for refusal: a new point counts its first holder among its members
-- where that is counted; and where holders end or go over at any time, no future borrows
abbrev pub MayAct : Counts → Action → Type 0
MayAct h (Make new) = new.members ≡ cond new.counted 1 0
MayAct h (Into k) = BorrowNothing h
MayAct h (EndEither k) = BorrowNothing h
MayAct h _ = Unit {0}

-- whom nobody counts as borrower, none borrows
pub none_borrows : (h : Counts) (k : ℕ) → borrowers_of h k ≡ 0 → (f : ℕ) (y : Wait) → get h.waits f ≡ Some y → borrows y.awaits k ≡ true → ⊥
none_borrows h k none f y is mine = absurd (
    let one : ◌≡◌ {A = ℕ} (cond (borrows y.awaits k) 1 0) 1 = ap (λ b. cond b 1 0) mine in
    omega (arith, one, none, total-has (λ f (x : Wait). cond (borrows x.awaits k) 1 0) h.waits f y is))

members_borrow : (a : Awaited) (k : ℕ) → a ≡ Members → borrows a k ≡ true → ⊥
members_borrow a k is mine = absurd (let no : borrows a k ≡ false = ap (λ a. borrows a k) is in cc)

joined-was : (r : Point) (b : Bool) (e : End) (f w : ℕ) → waker_for (count_at e (joined r b)).waiting f ≡ Some w → (v : ℕ) × (waker_for (count_at e r).waiting f ≡ Some v)
joined-was r true OfSignal f w is = (w, is)
joined-was r _ _ f w is = (w, is)

parted-was : (r : Point) (b : Bool) (e : End) (f w : ℕ) → waker_for (count_at e (parted r b)).waiting f ≡ Some w → (v : ℕ) × (waker_for (count_at e r).waiting f ≡ Some v)
parted-was r true OfMembers f w is = decreased-was r.members 1 f w is
parted-was r true OfSignal f w is = (w, is)
parted-was r false e f w is = (w, is)

fewer-was : (r : Point) (n : ℕ) (e : End) (f w : ℕ) → waker_for (count_at e (record r { signal = decreased r.signal n })).waiting f ≡ Some w → (v : ℕ) × (waker_for (count_at e r).waiting f ≡ Some v)
fewer-was r n OfSignal f w is = decreased-was r.signal n f w is
fewer-was r n OfMembers f w is = (w, is)

module _ (h : Counts) (n i : ℕ) (v : HasCounts h n) (later : n ≤ i) where
  abbrev Keeps : Outcome Counts → Type 0
  Keeps o = HasCounts o.hall (i + 1)

  still : Keeps (quietly h answers.Done)
  still = counts_later h n (i + 1) v (omega (arith, later))

  -- ---- at a point that is there
  module _ (o : ℕ) (r : Point) (there : get h.points o ≡ Some r) where
    abbrev its : IsPoint r (own of_wait o h.waits) (own of_holder o h.holders)
    its = v.each o r there

    abbrev same_waits : AreThere o r h.waits n
    same_waits = v.there o r there

    arrives : (m : ℕ) → Keeps (counts.arrive h m o r)
    arrives m = turned h n i v later o h.waits h.holders h.senders Stays Stays Stays v.apart (λ f x low is. is) r there (record r { signal = decreased r.signal m })
        (one.fewer r (own of_wait o h.waits) (own of_holder o h.holders) its m) (one.still o r h.waits n i same_waits later (record r { signal = decreased r.signal m }) h.waits (fewer-was r m) (λ f x low is. is))
        (v.live o (is_there (get h.points o) r there))

    -- a future more; senders may have become less, and holders and the point what they are where one became a future
    module _ (hs' : Names Holder) (ss' : Names ℕ) (holders : Moves of_holder o i h.holders hs') (senders : Moves of_itself o i h.senders ss') (fewer : (j : ℕ) → IsSome (get hs' j) → IsSome (get h.holders j))
        (y : Wait) (mine : y.point ≡ o) where
      new_future : (p : Point) → IsPoint p (own of_wait o h.waits) (own of_holder o hs') → ((e : End) (f w : ℕ) → waker_for (count_at e p).waiting f ≡ Some w → (v : ℕ) × (waker_for (count_at e r).waiting f ≡ Some v))
          → ((k : ℕ) → borrows y.awaits k ≡ true → IsSome (get (own of_holder o hs') k)) → HasCounts (record { points = insert h.points o p; senders = ss'; holders = hs'; waits = insert h.waits i y }) (i + 1)
      new_future p good was lent =
          let one_more = len-some (own of_wait o (insert h.waits i y)) i y (own-at of_wait o (insert h.waits i y) i y (get-there h.waits i y) mine) in
          turned h n i v later o (insert h.waits i y) hs' ss' (Comes i y (omega arith) mine (λ z is. absurd (let none = no_wait h n i v later in cc))) holders senders
          (λ j some. get-other h.waits i j y (λ same. absurd (let none = ap is_some (ap (get h.holders) (sym same) ∙ no_holder h n i v later) in let there = fewer j some in let no = sym none ∙ there in cc)) ∙ v.apart j (fewer j some))
          (old_new h n i v later y) r there p (rw (own-put of_wait o h.waits i y mine) (one.begins p (own of_wait o h.waits) (own of_holder o hs') good i y lent))
          (one.still o r h.waits n i same_waits later p (insert h.waits i y) was (old_new h n i v later y)) (omega (arith, one_more))

    begins : (y : Wait) → y.point ≡ o → ((k : ℕ) → borrows y.awaits k ≡ true → IsSome (get (own of_holder o h.holders) k)) → HasCounts (record h { waits = insert h.waits i y }) (i + 1)
    begins y mine lent = subst (λ ps. HasCounts (record h { points = ps; waits = insert h.waits i y }) (i + 1)) (insert_same h.points o r there)
        (new_future h.holders h.senders Stays Stays (λ j some. some) y mine r its (λ e f w is. (w, is)) lent)

    awaits : (k : ℕ) → get h.senders k ≡ Some o → Keeps (counts.await h i k o)
    awaits k sender = subst (λ ps. HasCounts (record h { points = ps; senders = remove h.senders k; waits = insert h.waits i (record { point = o; awaits = Members }) }) (i + 1)) (insert_same h.points o r there)
        (new_future h.holders (remove h.senders k) Stays (Goes k (λ j is. inside (sym is ∙ sender))) (λ j some. some) (record { point = o; awaits = Members }) refl r its (λ e f w is. (w, is)) (λ k is. absurd (cc)))

    pub joins : (counted : Bool) → Keeps (counts.join h i o counted r)
    joins counted =
        let z : Holder = record { point = o; counted = counted } in
        let one_more = len-some (own of_holder o (insert h.holders i z)) i z (own-at of_holder o (insert h.holders i z) i z (get-there h.holders i z) refl) in
        turned h n i v later o h.waits (insert h.holders i z) h.senders Stays (Comes i z (omega arith) refl (λ y is. absurd (let none = no_holder h n i v later in cc))) Stays
        (λ j. by_put h.holders i z (λ j p. IsSome p → get h.waits j ≡ None) (λ some. no_wait h n i v later) (λ j differs some. v.apart j some) j)
        (λ f x low is. is) r there (joined r counted)
        (rw (own-put of_holder o h.holders i z refl) (one.joins r (own of_wait o h.waits) (own of_holder o h.holders) its i o counted (own-none of_holder o h.holders i (no_holder h n i v later))))
        (one.still o r h.waits n i same_waits later (joined r counted) h.waits (joined-was r counted) (λ f x low is. is)) (omega (arith, one_more))

    -- by a holder that no future borrows
    module _ (k : ℕ) (x : Holder) (holder : get h.holders k ≡ Some x) (mine : x.point ≡ o) (free : (f : ℕ) (y : Wait) → get h.waits f ≡ Some y → borrows y.awaits k ≡ true → ⊥) where
      less : IsPoint (parted r x.counted) (own of_wait o h.waits) (own of_holder o (remove h.holders k))
      less = rw (own-gone of_holder o h.holders k) (one.parts r (own of_wait o h.waits) (own of_holder o h.holders) its k x (own-at of_holder o h.holders k x holder mine) (λ f y is. free f y (own-had of_wait o h.waits f y is).0))

      its_own : (y : Holder) → get h.holders k ≡ Some y → y.point ≡ o
      its_own y is = ap (λ (x : Holder). x.point) (inside (sym is ∙ holder)) ∙ mine

      fewer : (j : ℕ) → IsSome (get (remove h.holders k) j) → IsSome (get h.holders j)
      fewer j some = let it = value_in (get (remove h.holders k) j) some in is_there (get h.holders j) it.0 (removed_there h.holders k j it.0 it.1)

      parts : HasCounts (counts.tidied (record h { holders = remove h.holders k }) o (parted r x.counted)) (i + 1)
      parts = tidies h n i v later o h.waits (remove h.holders k) h.senders Stays (Goes k its_own) Stays (λ j some. v.apart j (fewer j some)) (λ f x low is. is) r there (parted r x.counted) less
          (one.still o r h.waits n i same_waits later (parted r x.counted) h.waits (parted-was r x.counted) (λ f x low is. is))

      goes_over : HasCounts (record h { points = insert h.points o (parted r x.counted); holders = remove h.holders k; waits = insert h.waits i (record { point = o; awaits = Members }) }) (i + 1)
      goes_over = new_future (remove h.holders k) h.senders (Goes k its_own) Stays fewer (record { point = o; awaits = Members }) refl (parted r x.counted) less (parted-was r x.counted) (λ k is. absurd (cc))

    copies_sender : (k : ℕ) → get h.senders k ≡ Some o → Keeps (counts.copy_sender h i o)
    copies_sender k sender =
        let one_more = len-some (own of_itself o (insert h.senders i o)) i o (own-at of_itself o (insert h.senders i o) i o (get-there h.senders i o) refl) in
        subst (λ ps. HasCounts (record h { points = ps; senders = insert h.senders i o }) (i + 1)) (insert_same h.points o r there)
        (turned h n i v later o h.waits h.holders (insert h.senders i o) Stays Stays (Comes i o (omega arith) refl (λ y is. absurd (let none = no_sender h n i v later in cc))) v.apart (λ f x low is. is) r there r its
        (one.still o r h.waits n i same_waits later r h.waits (λ e f w is. (w, is)) (λ f x low is. is)) (omega (arith, one_more)))

    ends_sender : (k : ℕ) → get h.senders k ≡ Some o → Keeps (counts.end_sender h k o r)
    ends_sender k sender = tidies h n i v later o h.waits h.holders (remove h.senders k) Stays Stays (Goes k (λ j is. inside (sym is ∙ sender))) v.apart (λ f x low is. is) r there r its
        (one.still o r h.waits n i same_waits later r h.waits (λ e f w is. (w, is)) (λ f x low is. is))

    -- by a future
    module _ (f : ℕ) (x : Wait) (future : get h.waits f ≡ Some x) (mine : x.point ≡ o) where
      leaves : HasCounts (counts.tidied (record h { waits = remove h.waits f }) o r) (i + 1)
      leaves = tidies h n i v later o (remove h.waits f) h.holders h.senders (Goes f (λ y is. ap (λ (x : Wait). x.point) (inside (sym is ∙ future)) ∙ mine)) Stays Stays
          (λ j some. by_gone h.waits f (λ j p. get h.waits j ≡ None → p ≡ None) (λ none. refl) (λ j differs none. none) j (v.apart j some)) (old_gone h n i v later f) r there r
          (rw (own-gone of_wait o h.waits f) (one.leaves r (own of_wait o h.waits) (own of_holder o h.holders) its f))
          (one.still o r h.waits n i same_waits later r (remove h.waits f) (λ e f w is. (w, is)) (old_gone h n i v later f))

      waits_on : (e : End) → end_of x.awaits ≡ e → ((count_at e r).number ≡ 0 → ⊥) → (w : ℕ) → HasCounts (record h { points = insert h.points o (with_count e r (with_waker (count_at e r) f w)) }) (i + 1)
      waits_on e to some w = turned h n i v later o h.waits h.holders h.senders Stays Stays Stays v.apart (λ f x low is. is) r there (with_count e r (with_waker (count_at e r) f w))
          (one.registers r (own of_wait o h.waits) (own of_holder o h.holders) its e f w some) (one.comes o r h.waits n i same_waits later f w x future mine (v.waits.at f x future).0 e to)
          (v.live o (is_there (get h.points o) r there))

  ends_by : (f : ℕ) → Keeps (end_by h f)
  ends_by f = by_found Keeps (get h.waits f) h _ still (λ x future. by_found Keeps (get h.points x.point) h _ still (λ r there. leaves x.point r there f x future refl))

  leaves_by : (k : ℕ) → ((f : ℕ) (y : Wait) → get h.waits f ≡ Some y → borrows y.awaits k ≡ true → ⊥) → Keeps (leave_by h k)
  leaves_by k free = by_found Keeps (get h.holders k) h _ still (λ x holder. by_found Keeps (get h.points x.point) h _ still (λ r there. parts x.point r there k x holder refl free))

  -- a future on the point of a thing that is there
  new_wait : (o : ℕ) → IsSome (get h.points o) → (a : Awaited) → ((k : ℕ) → borrows a k ≡ true → (x : Holder) × (get h.holders k ≡ Some x) × (x.point ≡ o)) → HasCounts (counts.with_wait h i o a) (i + 1)
  new_wait o some a lent =
      let it = value_in (get h.points o) some in
      begins o it.0 it.1 (record { point = o; awaits = a }) refl (λ k is. let lender = lent k is in is_there (get (own of_holder o h.holders) k) lender.0 (own-at of_holder o h.holders k lender.0 lender.1 lender.2))

  lends : (k : ℕ) (x : Holder) → get h.holders k ≡ Some x → (plain : Bool) (j : ℕ) → borrows (Signal (cond plain (Some k) None)) j ≡ true → (y : Holder) × (get h.holders j ≡ Some y) × (y.point ≡ x.point)
  lends k x holder true j is = (x, ap (get h.holders) (sym (eqb-true k j is)) ∙ holder, refl)
  lends k x holder false j is = absurd (cc)

  makes : (new : New) → new.members ≡ cond new.counted 1 0 → Keeps (counts.make h i new)
  makes new fair =
      let z : Holder = record { point = i; counted = new.counted } in
      let one_more = len-some (own of_holder i (insert h.holders i z)) i z (own-at of_holder i (insert h.holders i z) i z (get-there h.holders i z) refl) in
      put h n i v later i h.waits (insert h.holders i z) (if new.sends then insert h.senders i i else h.senders) Stays (Comes i z (omega arith) refl (λ y is. absurd (let none = no_holder h n i v later in cc)))
      (by_if (λ ss. Moves of_itself i i h.senders ss) new.sends _ _ (λ sends. Comes i i (omega arith) refl (λ y is. absurd (let none = no_sender h n i v later in cc))) (λ none. Stays))
      (λ j. by_put h.holders i z (λ j p. IsSome p → get h.waits j ≡ None) (λ some. no_wait h n i v later) (λ j differs some. v.apart j some) j) (λ f x low is. is)
      (new_point new) (λ q some. by_put h.points i (new_point new) (λ q p. IsSome (get h.points q) → IsSome p) (λ some. refl) (λ q differs some. some) q some)
      (rw (own-put of_holder i h.holders i z refl, no_futures, no_holders) (one.new_kept i new fair)) (one.nobody_there i new h.waits (i + 1)) (omega (arith, one_more)) (omega arith)
    where
      absent : IsSome (get h.points i) → ⊥
      absent some = absurd (let none = ap is_some (no_point h n i v later) in let no = sym none ∙ some in cc)

      no_futures : own of_wait i h.waits ≡ empty
      no_futures = own-empty of_wait i h.waits (λ k x is mine. absent (subst (λ o. IsSome (get h.points o)) (sym mine) (v.waits.at k x is).1))

      no_holders : own of_holder i h.holders ≡ empty
      no_holders = own-empty of_holder i h.holders (λ k x is mine. absent (subst (λ o. IsSome (get h.points o)) (sym mine) (v.holders.at k x is).1))

  pub keeps : (a : Action) → cause_in h a ≡ None → MayAct h a → Keeps (act_in h i a)
  keeps (Make new) allowed may = makes new may
  keeps (Arrive k m) allowed may = by_holder Keeps h still k (λ x. counts.arrive h m x.point) (λ x r holder there. arrives x.point r there m)
  keeps (Begin k plain) allowed may = by_found Keeps (get h.holders k) h _ still (λ x holder. new_wait x.point (v.holders.at k x holder).1 (Signal (cond plain (Some k) None)) (lends k x holder plain))
  keeps (Join k) allowed may = by_holder Keeps h still k (λ x. counts.join h i x.point x.counted) (λ x r holder there. joins x.point r there x.counted)
  keeps (Watch k) allowed may = by_holder Keeps h still k (λ x. counts.join h i x.point false) (λ x r holder there. joins x.point r there false)
  keeps (Into k) allowed may = by_holder Keeps h still k (counts.into h i k) (λ x r holder there. goes_over x.point r there k x holder refl (λ f y is. members_borrow y.awaits k (may f y is)))
  keeps (EndHolder k) allowed may = leaves_by k (none_borrows h k (not_borrowed (is_holder h k) (borrowers_of h k) allowed))
  keeps (Copy f) allowed may = by_found Keeps (get h.waits f) h _ still (λ x future. new_wait x.point (v.waits.at f x future).1 Members (λ k is. absurd (cc)))
  keeps (Poll f w) allowed may = by_found Keeps (get h.waits f) h _ still (λ x future. by_found Keeps (get h.points x.point) h _ still (λ r there.
      by_if Keeps ((count_at (end_of x.awaits) r).number == 0) _ _ (λ over. leaves x.point r there f x future refl)
      (λ goes_on. waits_on x.point r there f x future refl (end_of x.awaits) refl (eqb-false (count_at (end_of x.awaits) r).number 0 goes_on) w)))
  keeps (EndWait f) allowed may = ends_by f
  keeps (EndEither k) allowed may = by_if Keeps (is_holder h k) _ _ (λ holder. leaves_by k (λ f y is. members_borrow y.awaits k (may f y is))) (λ future. ends_by k)
  keeps (CopySender k) allowed may = by_found Keeps (get h.senders k) h _ still (λ o sender. let it = value_in (get h.points o) (v.senders.at k o sender).1 in copies_sender o it.0 it.1 k sender)
  keeps (Send k) allowed may = by_found Keeps (get h.senders k) h _ still (λ o sender. by_found Keeps (get h.points o) h _ still (λ r there. arrives o r there 1))
  keeps (Await k) allowed may = by_found Keeps (get h.senders k) h _ still (λ o sender. let it = value_in (get h.points o) (v.senders.at k o sender).1 in awaits o it.0 it.1 k sender)
  keeps (EndSender k) allowed may = by_found Keeps (get h.senders k) h _ still (λ o sender. by_found Keeps (get h.points o) h _ still (λ r there. ends_sender o r there k sender))
  keeps _ allowed may = by_holder Keeps h still _ _ (λ x r holder there. still)

-- no future borrows afterwards, where none did and none on the signal is made
pub borrow_nothing : (h : Counts) (i : ℕ) (a : Action) → ((k : ℕ) (plain : Bool) → a ≡ Begin k plain → ⊥) → BorrowNothing h → BorrowNothing (act_in h i a).hall
borrow_nothing h i a no_begin none = at a no_begin
  where
    P : Outcome Counts → Type 0
    P o = BorrowNothing o.hall

    none_new : (o : ℕ) → BorrowNothing (counts.with_wait h i o Members)
    none_new o f x = by_put h.waits i (record { point = o; awaits = Members }) (λ f p. p ≡ Some x → x.awaits ≡ Members) (λ is. ap (λ (y : Wait). y.awaits) (sym (inside is))) (λ f differs is. none f x is) f

    less : (f : ℕ) (g : ℕ) (x : Wait) → get (remove h.waits f) g ≡ Some x → x.awaits ≡ Members
    less f g x is = none g x (removed_there h.waits f g x is)

    ends : (f : ℕ) → P (end_by h f)
    ends f = by_found P (get h.waits f) h _ none (λ x future. by_found P (get h.points x.point) h _ none (λ r there. less f))

    leaves : (k : ℕ) → P (leave_by h k)
    leaves k = by_found P (get h.holders k) h _ none (λ x holder. by_found P (get h.points x.point) h _ none (λ r there. none))

    at : (a : Action) → ((k : ℕ) (plain : Bool) → a ≡ Begin k plain → ⊥) → P (act_in h i a)
    at (Make fresh) ban = none
    at (Begin k plain) ban = absurd (ban k plain refl)
    at (Into k) ban = by_holder P h none k (counts.into h i k) (λ x r holder there. none_new x.point)
    at (EndHolder k) ban = leaves k
    at (Copy f) ban = by_found P (get h.waits f) h _ none (λ x future. none_new x.point)
    at (Poll f w) ban = by_found P (get h.waits f) h _ none (λ x future. by_found P (get h.points x.point) h _ none (λ r there. by_if P ((count_at (end_of x.awaits) r).number == 0) _ _ (λ over. less f) (λ goes_on. none)))
    at (EndWait f) ban = ends f
    at (EndEither k) ban = by_if P (is_holder h k) _ _ (λ holder. leaves k) (λ future. ends k)
    at (CopySender k) ban = by_found P (get h.senders k) h _ none (λ o sender. none)
    at (Send k) ban = by_found P (get h.senders k) h _ none (λ o sender. by_found P (get h.points o) h _ none (λ r there. none))
    at (Await k) ban = by_found P (get h.senders k) h _ none (λ o sender. none_new o)
    at (EndSender k) ban = by_found P (get h.senders k) h _ none (λ o sender. by_found P (get h.points o) h _ none (λ r there. none))
    at _ ban = by_holder P h none _ _ (λ x r holder there. none)
