-- what an action does to the admissions of any hall: it changes one of them at the most
use Rattle.std.proofs.Common.{◌≡◌, ℕ, ◌+◌, ◌<◌, ◌≤◌, ◌==◌, ◌⊎◌, inl, inr, Bool, true, false, cond, [], Option, Some, None, is_some, if◌then◌else◌, refl, ap, arith}
use Rattle.std.specs.Cmp.{nat_cmp_total}
use Rattle.std.specs.FinMap.{get, insert, remove, len, len-insert, len-remove}
use Rattle.std.proofs.lemmas.Bool.{eq-eqb, cases_lt}
use Rattle.mea_family.specs.declared.answer.Answer.TheVariants as answers
use Rattle.mea_family.specs.declared.stop.Stop.TheVariants as stops
use Rattle.mea_family.specs.Family.{Outcome, quietly}
use Rattle.mea_by_name.specs.ByName.{Names}
use Rattle.mea_by_name.proofs.Cases.{by_found, by_if}
use Rattle.mea_family.specs.Play.{found}
use Rattle.mea_share_core.specs.Share.{Share, waiting_of, queued, left, readied, given_up, released, weighing}
use Rattle.mea_share_model.specs.Next.{share_at, waiting_in}
use Rattle.mea_share_model.specs.Admissions as admissions
use Rattle.mea_share_model.specs.Admissions.{Admission, ShareFuture, SharePermit, ShareHall, with_share, taken_for, tidied, tidied_admissions, things_of, gives_back}
use Rattle.mea_share_model.specs.Actions.{Action, Make, Free, Waiters, Weight, Weigh, Try, Begin, Poll, Key, End, Drop, zero_by, cause_in, act_in, end_by, registers_in}
use Rattle.mea_share_model.proofs.Changes.{less-least}

-- one admission is left so, where so many wakers more may be registered; what is set has a weight above 0 where that is allowed
pub data Turns (extra : ℕ) (allowed : Type 0) (r : Admission) : Admission → Type 0 where
  Same : Turns extra allowed r r
  Unnames : Turns extra allowed r (record r { named = false })
  Takes : (k : ℕ) → (r.free == 0) ≡ false → Turns extra allowed r (taken_for r k)
  Queues : (k w : ℕ) → (r.free == 0) ≡ true → 1 ≤ extra → Turns extra allowed r (record (with_share r k (queued (share_at r.shares k) r.next w)) { next = r.next + 1 })
  Sets : (k : ℕ) (s : Share ℕ) → (allowed → 0 < (share_at r.shares k).weight → 0 < s.weight) → waiting_of s ≤ waiting_of (share_at r.shares k) → Turns extra allowed r (with_share r k s)

-- it is there, or gone
abbrev pub IsLeft : Names Admission → ℕ → Admission → Names Admission → Type 0
IsLeft rs o r rs' = (rs' ≡ insert rs o r) ⊎ (rs' ≡ remove rs o)

pub tidied_is : (rs : Names Admission) (o : ℕ) (r : Admission) (things : ℕ) → IsLeft rs o r (tidied_admissions rs o r things)
tidied_is rs o r things = by_if (IsLeft rs o r) r.named _ _ (λ named. inl refl) (λ unnamed. by_if (IsLeft rs o r) (things == 0) _ _ (λ none. inr refl) (λ some. inl refl))

-- one waits on
again_few : (s : Share ℕ) (n w : ℕ) → is_some (get s.waiting n) ≡ true → waiting_of (queued s n w) ≤ waiting_of s
again_few s n w is = let more = len-insert nat_cmp_total s.waiting n w in let same = ap (λ b. cond b (len s.waiting) (len s.waiting + 1)) is in omega (arith, more, same)

-- a weight that may be set is above 0
positive : (known : Bool) (n : ℕ) → zero_by known n ≡ None → 0 < n
positive known n none = elim (cases_lt 0 n) as (λ _. 0 < n) [ inl some ↦ some | inr few ↦ absurd (refused known (n == 0) (eq-eqb n 0 (omega (arith, few))) none) ]
  where
    refused : (known zero : Bool) → zero ≡ true → (if known then (if zero then Some stops.Zero else None) else Some stops.Unknown) ≡ None → ⊥
    refused true true is none = cc
    refused true false is none = cc
    refused false zero is none = cc

module _ (h : ShareHall) (i extra : ℕ) (allowed : Type 0) where
  -- the admissions stay; one is made; one is left so, or gone; or a key of one has that, and a permit of it comes back
  pub data Does : Outcome ShareHall → Type 0 where
    Rests : (out : Outcome ShareHall) → out.hall.admissions ≡ h.admissions → out.wakes ≡ [] → Does out
    Makes : (n : ℕ) → Does (admissions.make h i n)
    Leaves : (o : ℕ) (r r' : Admission) (out : Outcome ShareHall) → get h.admissions o ≡ Some r → Turns extra allowed r r' → IsLeft h.admissions o r' out.hall.admissions → out.wakes ≡ [] → Does out
    Gives : (xs : Names ShareFuture) (ps : Names SharePermit) (o : ℕ) (r : Admission) (k : ℕ) (s : Share ℕ) → get h.admissions o ≡ Some r → s.weight ≡ (share_at r.shares k).weight → waiting_of s ≡ waiting_of (share_at r.shares k)
        → Does (gives_back (record { admissions = h.admissions; futures = xs; permits = ps }) o (with_share r k s))

  looks : (o : ℕ) (act : Admission → Outcome ShareHall) → ((r : Admission) → get h.admissions o ≡ Some r → Does (act r)) → Does (found (get h.admissions o) h act)
  looks o act does = by_found Does (get h.admissions o) h act (Rests (quietly h answers.Done) refl refl) does

  tries : (o k : ℕ) (plain : Bool) (r : Admission) → get h.admissions o ≡ Some r → Does (admissions.try h i o k plain r)
  tries o k plain r there = by_if Does (r.free == 0) _ _ (λ none. Rests (quietly h answers.Lacking) refl refl) (λ some. Leaves o r (taken_for r k) _ there (Takes k some) (inl refl) refl)

  polls : 1 ≤ extra → (f w : ℕ) (x : ShareFuture) (r : Admission) (p : Option ℕ) → get h.admissions x.admission ≡ Some r → Does (admissions.poll_at h i f w x r p)
  polls more f w x r None there = by_if Does (r.free == 0) _ _
      (λ none. Leaves x.admission r _ (admissions.queues h f w x r) there (Queues x.key w none more) (inl refl) refl)
      (λ some. Leaves x.admission r (taken_for r x.key) (admissions.becomes_permit h i f x (taken_for r x.key)) there (Takes x.key some) (inl refl) refl)
  polls more f w x r (Some n) there =
      let s = share_at r.shares x.key in
      by_if Does (is_some (get s.waiting n)) _ _
      (λ waits. Leaves x.admission r (with_share r x.key (queued s n w)) (admissions.waits_on h n w x r) there (Sets x.key (queued s n w) (λ may some. some) (again_few s n w waits)) (inl refl) refl)
      (λ was. Leaves x.admission r (with_share r x.key (readied s n)) (admissions.becomes_permit h i f x (with_share r x.key (readied s n))) there (Sets x.key (readied s n) (λ may some. some) (omega arith)) (inl refl) refl)

  tidies : (xs : Names ShareFuture) (ps : Names SharePermit) (o : ℕ) (r r' : Admission) → get h.admissions o ≡ Some r → Turns extra allowed r r' → Does (quietly (tidied (record { admissions = h.admissions; futures = xs; permits = ps }) o r') answers.Done)
  tidies xs ps o r r' there turns = Leaves o r r' _ there turns (tidied_is h.admissions o r' (things_of (record { admissions = h.admissions; futures = xs; permits = ps }) o)) refl

  ends_at : (k : ℕ) (x : ShareFuture) (r : Admission) (p : Option ℕ) → get h.admissions x.admission ≡ Some r → Does (admissions.end_at (record h { futures = remove h.futures k }) x r p)
  ends_at k x r None there = tidies (remove h.futures k) h.permits x.admission r r there Same
  ends_at k x r (Some n) there =
      let s = share_at r.shares x.key in
      by_if Does (is_some (get s.waiting n)) _ _
      (λ waits. tidies (remove h.futures k) h.permits x.admission r (with_share r x.key (left s n)) there
      (Sets x.key (left s n) (λ may some. some) (omega (arith, len-remove nat_cmp_total s.waiting n, less-least (get s.waiting n) (len s.waiting)))))
      (λ was. Gives (remove h.futures k) h.permits x.admission r x.key (given_up s n) there refl refl)

  ends_future : (k : ℕ) (x : ShareFuture) (p : Option Admission) → get h.admissions x.admission ≡ p → Does (admissions.end_future h k x p)
  ends_future k x None there = Rests (quietly (record h { futures = remove h.futures k }) answers.Done) refl refl
  ends_future k x (Some r) there = ends_at k x r x.number there

  ends_by : (k : ℕ) (p : Option ShareFuture) → Does (end_by h k p)
  ends_by k None = by_found Does (get h.permits k) h _ (Rests (quietly h answers.Done) refl refl)
      (λ p is. looks p.admission _ (λ r there. Gives h.futures (remove h.permits k) p.admission r p.key (released (share_at r.shares p.key)) there refl refl))
  ends_by k (Some x) = ends_future k x (get h.admissions x.admission) refl

module _ (h : ShareHall) (i : ℕ) where
  pub does : (a : Action) → Does h i (cond (registers_in a) 1 0) (cause_in h a ≡ None) (act_in h i a)
  does (Make n) = Makes n
  does (Free o) = looks h i 0 _ o _ (λ r there. Rests (quietly h (answers.Free r.free)) refl refl)
  does (Waiters o) = looks h i 0 _ o _ (λ r there. Rests (quietly h (answers.Count (waiting_in r.shares))) refl refl)
  does (Weight o k) = looks h i 0 _ o _ (λ r there. Rests (quietly h (answers.Count (share_at r.shares k).weight)) refl refl)
  does (Weigh o k n) = looks h i 0 _ o _ (λ r there. let s = weighing (share_at r.shares k) n in
      Leaves o r (with_share r k s) (admissions.weigh h o k n r) there (Sets k s (λ may some. positive (admissions.is_named h o) n may) (omega arith)) (inl refl) refl)
  does (Try o k plain) = looks h i 0 _ o _ (tries h i 0 _ o k plain)
  does (Begin o k plain) = Rests (admissions.begin h i o k plain) refl refl
  does (Poll f w) = by_found (Does h i 1 (cause_in h (Poll f w) ≡ None)) (get h.futures f) h _ (Rests (quietly h answers.Done) refl refl)
      (λ x is. looks h i 1 _ x.admission _ (λ r there. polls h i 1 _ (omega arith) f w x r x.number there))
  does (Key p) = by_found (Does h i 0 (cause_in h (Key p) ≡ None)) (get h.permits p) h _ (Rests (quietly h answers.Done) refl refl) (λ x is. Rests (quietly h (answers.Key x.key)) refl refl)
  does (End x) = ends_by h i 0 _ x (get h.futures x)
  does (Drop o) = looks h i 0 _ o _ (λ r there. tidies h i 0 _ h.futures h.permits o r (record r { named = false }) there Unnames)
