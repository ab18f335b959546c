-- a count that has ended stays so
use Rattle.std.proofs.Common.{◌≡◌, ℕ, ◌<◌, ◌≤◌, ◌==◌, Bool, true, false, cond, Some, IsSome, is_some, unwrap_or, refl, ap, sym, ◌∙◌, arith}
use Rattle.std.specs.FinMap.{get, insert, remove}
use Rattle.mea_base.proofs.Maps.{by_at_put, by_at_gone, at_or, total-has}
use Rattle.mea_family.specs.Family.{Outcome}
use Rattle.mea_by_name.specs.ByName.{Names, own}
use Rattle.mea_by_name.proofs.Cases.{by_found, by_if}
use Rattle.mea_by_name.proofs.Own.{own-at}
use Rattle.mea_meet_model.specs.Count.{count_from, decreased, with_waker}
use Rattle.mea_meet_model.specs.Counts as counts
use Rattle.mea_meet_model.specs.Counts.{Counts, Point, End, OfSignal, OfMembers, Holder, Awaited, Signal, Members, New, new_point, count_at, with_count, end_of, joined, parted, is_holder, things_of, of_holder, point_at}
use Rattle.mea_meet_model.specs.CountActions.{Action, Make, Arrive, Begin, Join, Watch, Into, EndHolder, Copy, Poll, EndWait, EndEither, CopySender, Send, Await, EndSender, act_in, end_by, leave_by}
use Rattle.mea_meet_model.specs.Hall.{Hall, Latches, Groups, Shutdowns}
use Rattle.mea_meet_model.specs.Meaning.{Meaning, OnCounts}
use Rattle.mea_meet_model.specs.Step.{step_by}
use Rattle.mea_meet_model.specs.Valid.{HasCounts}
use Rattle.mea_meet_model.proofs.ByHolder.{by_holder}
use Rattle.mea_meet_model.proofs.CountsKept.{no_point}

abbrev over : Point
over = record { signal = count_from 0; members = count_from 0 }

-- each count of r that has ended has done so in p
abbrev Ends : Point → Point → Type 0
Ends r p = (e : End) → (count_at e r).number ≡ 0 → (count_at e p).number ≡ 0

ends-fewer : (r : Point) (n : ℕ) → Ends r (record r { signal = decreased r.signal n })
ends-fewer r n OfSignal none = omega (arith, none)
ends-fewer r n OfMembers none = none

ends-joined : (r : Point) (b : Bool) → (b ≡ true → 0 < r.members.number) → Ends r (joined r b)
ends-joined r b live OfSignal none = none
ends-joined r true live OfMembers none = absurd (let some = live refl in omega (arith, some, none))
ends-joined r false live OfMembers none = none

ends-parted : (r : Point) (b : Bool) → Ends r (parted r b)
ends-parted r b OfSignal none = none
ends-parted r true OfMembers none = omega (arith, none)
ends-parted r false OfMembers none = none

module _ (h : Counts) (n i : ℕ) (v : HasCounts h n) (later : n ≤ i) where
  abbrev Lasts : Names Point → Type 0
  Lasts ps = (o : ℕ) (e : End) → IsSome (get h.points o) → (count_at e (at_or over h.points o)).number ≡ 0 → (count_at e (at_or over ps o)).number ≡ 0

  abbrev P : Outcome Counts → Type 0
  P o = Lasts o.hall.points

  still : Lasts h.points
  still o e some none = none

  put : (q : ℕ) (r p : Point) → get h.points q ≡ Some r → Ends r p → Lasts (insert h.points q p)
  put q r p there ends o e = by_at_put over h.points q p (λ o t. IsSome (get h.points o) → (count_at e (at_or over h.points o)).number ≡ 0 → (count_at e t).number ≡ 0)
      (λ some none. ends e (ap (λ t. (count_at e (unwrap_or t over)).number) (sym there) ∙ none)) (λ o apart some none. none) o

  none_left : (e : End) → (count_at e over).number ≡ 0
  none_left OfSignal = refl
  none_left OfMembers = refl

  gone : (q : ℕ) → Lasts (remove h.points q)
  gone q o e = by_at_gone over h.points q (λ o t. IsSome (get h.points o) → (count_at e (at_or over h.points o)).number ≡ 0 → (count_at e t).number ≡ 0) (λ some none. none_left e) (λ o apart some none. none) o

  tidied : (m : Counts) (q : ℕ) (r p : Point) → m.points ≡ h.points → get h.points q ≡ Some r → Ends r p → Lasts (counts.tidied m q p).points
  tidied m q r p same there ends = by_if Lasts (things_of m q == 0) _ _ (λ none. rw same (gone q)) (λ some. rw same (put q r p there ends))

  made : (new : New) → Lasts (insert h.points i (new_point new))
  made new o e = by_at_put over h.points i (new_point new) (λ o t. IsSome (get h.points o) → (count_at e (at_or over h.points o)).number ≡ 0 → (count_at e t).number ≡ 0)
      (λ some none. absurd (let absent = ap is_some (no_point h n i v later) in let no = sym absent ∙ some in cc)) (λ o apart some none. none) o

  ends_by : (f : ℕ) → P (end_by h f)
  ends_by f = by_found P (get h.waits f) h _ still (λ x future. by_found P (get h.points x.point) h _ still (λ r there. tidied (record h { waits = remove h.waits f }) x.point r r refl there (λ e none. none)))

  leaves_by : (k : ℕ) → P (leave_by h k)
  leaves_by k = by_holder P h still k (counts.end_holder h k) (λ x r holder there. tidied (record h { holders = remove h.holders k }) x.point r (parted r x.counted) refl there (ends-parted r x.counted))

  some_counted : (k : ℕ) (x : Holder) (r : Point) → get h.holders k ≡ Some x → get h.points x.point ≡ Some r → x.counted ≡ true → 0 < r.members.number
  some_counted k x r holder there is =
      let all = (v.each x.point r there).counted in
      let one : ◌≡◌ {A = ℕ} (cond x.counted 1 0) 1 = ap (λ b. cond b 1 0) is in
      let few = total-has (λ k (x : Holder). cond x.counted 1 0) (own of_holder x.point h.holders) k x (own-at of_holder x.point h.holders k x holder refl) in
      omega (arith, all, one, few)

  ends-with : (a : Awaited) (r : Point) (f w : ℕ) → Ends r (with_count (end_of a) r (with_waker (count_at (end_of a) r) f w))
  ends-with (Signal b) r f w OfSignal none = none
  ends-with Members r f w OfSignal none = none
  ends-with _ r f w _ none = none

  lasts : (a : Action) → P (act_in h i a)
  lasts (Make new) = made new
  lasts (Arrive k m) = by_holder P h still k (λ x. counts.arrive h m x.point) (λ x r holder there. put x.point r (record r { signal = decreased r.signal m }) there (ends-fewer r m))
  lasts (Begin k plain) = by_found P (get h.holders k) h _ still (λ x holder. still)
  lasts (Join k) = by_holder P h still k (λ x. counts.join h i x.point x.counted) (λ x r holder there. put x.point r (joined r x.counted) there (ends-joined r x.counted (some_counted k x r holder there)))
  lasts (Watch k) = by_holder P h still k (λ x. counts.join h i x.point false) (λ x r holder there. put x.point r (joined r false) there (ends-joined r false (λ is. absurd (cc))))
  lasts (Into k) = by_holder P h still k (counts.into h i k) (λ x r holder there. put x.point r (parted r x.counted) there (ends-parted r x.counted))
  lasts (EndHolder k) = leaves_by k
  lasts (Copy f) = by_found P (get h.waits f) h _ still (λ x future. still)
  lasts (Poll f w) = by_found P (get h.waits f) h _ still (λ x future. by_found P (get h.points x.point) h _ still (λ r there. by_if P ((count_at (end_of x.awaits) r).number == 0) _ _
      (λ over. tidied (record h { waits = remove h.waits f }) x.point r r refl there (λ e none. none)) (λ goes_on. put x.point r _ there (ends-with x.awaits r f w))))
  lasts (EndWait f) = ends_by f
  lasts (EndEither k) = by_if P (is_holder h k) _ _ (λ holder. leaves_by k) (λ future. ends_by k)
  lasts (CopySender k) = by_found P (get h.senders k) h _ still (λ o sender. still)
  lasts (Send k) = by_found P (get h.senders k) h _ still (λ o sender. by_found P (get h.points o) h _ still (λ r there. put o r (record r { signal = decreased r.signal 1 }) there (ends-fewer r 1)))
  lasts (Await k) = by_found P (get h.senders k) h _ still (λ o sender. still)
  lasts (EndSender k) = by_found P (get h.senders k) h _ still (λ o sender. by_found P (get h.points o) h _ still (λ r there. tidied (record h { senders = remove h.senders k }) o r r refl there (λ e none. none)))
  lasts _ = by_holder P h still _ _ (λ x r holder there. still)

  pub last : (a : Action) (o : ℕ) (e : End) → IsSome (get h.points o) → (count_at e (point_at h o)).number ≡ 0 → (count_at e (point_at (act_in h i a).hall o)).number ≡ 0
  last a = lasts a

-- an event on points of one kind, or on barriers, leaves those of the others as they are
module _ (h : Hall) (n i : ℕ) (later : n ≤ i) (o : ℕ) (e : End) where
  pub latches_last : HasCounts h.latches n → (d : Meaning) → IsSome (get h.latches.points o) → (count_at e (point_at h.latches o)).number ≡ 0 → (count_at e (point_at (step_by h i d).hall.latches o)).number ≡ 0
  latches_last v (OnCounts Latches a) some none = last h.latches n i v later a o e some none
  latches_last v _ some none = none

  pub groups_last : HasCounts h.groups n → (d : Meaning) → IsSome (get h.groups.points o) → (count_at e (point_at h.groups o)).number ≡ 0 → (count_at e (point_at (step_by h i d).hall.groups o)).number ≡ 0
  groups_last v (OnCounts Groups a) some none = last h.groups n i v later a o e some none
  groups_last v _ some none = none

  pub shutdowns_last : HasCounts h.shutdowns n → (d : Meaning) → IsSome (get h.shutdowns.points o) → (count_at e (point_at h.shutdowns o)).number ≡ 0 → (count_at e (point_at (step_by h i d).hall.shutdowns o)).number ≡ 0
  shutdowns_last v (OnCounts Shutdowns a) some none = last h.shutdowns n i v later a o e some none
  shutdowns_last v _ some none = none
