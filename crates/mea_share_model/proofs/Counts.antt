-- how many wakers are registered, after any event of any hall
use Rattle.std.proofs.Common.{◌≡◌, ℕ, ◌+◌, ◌≤◌, Bool, true, false, cond, length, List, [], Option, Some, None, refl, ap, sym, subst, ◌∙◌, inl, inr, arith}
use Rattle.std.specs.Cmp.{nat_cmp_total}
use Rattle.std.specs.FinMap.{get, len, len-insert}
use Rattle.mea_base.specs.Totals.{total, weight}
use Rattle.mea_family.specs.Family.{Outcome}
use Rattle.mea_base.proofs.Totals.{total-insert, total-remove, total-empty}
use Rattle.mea_base.proofs.Maps.{total-has}
use Rattle.mea_by_name.specs.ByName.{Names}
use Rattle.mea_by_name.proofs.Own.{len-gone, len-some}
use Rattle.mea_share_core.specs.Share.{Share, waiting_of, taken, queued, admitting}
use Rattle.mea_events.specs.declared.share_event.ShareEvent.{ShareEvent}
use Rattle.mea_share_model.specs.Next.{Shares, Waiter, share_at, put_share, waiting_in, next_of}
use Rattle.mea_share_model.specs.Admissions.{Admission, ShareHall, new_admission, with_share, passed, woken, registered, things_of}
use Rattle.mea_share_model.specs.Meaning.{meaning_of, step, registers}
use Rattle.mea_share_model.proofs.Waiting.{waiting_put, share_waits, next_is}
use Rattle.mea_share_model.proofs.Changes.{len-least}
use Rattle.mea_share_model.proofs.Doing.{Turns, Same, Unnames, Takes, Queues, Sets, IsLeft, tidied_is, Does, Rests, Makes, Leaves, Gives, does}

-- at one admission: those woken were registered, and so many more are at the most
record Fits (m m' : Shares) (ws : List ℕ) (extra : ℕ) : Type 0 where
  pub most : length ws ≤ waiting_in m
  pub grows : waiting_in m' + length ws ≤ waiting_in m + extra

fits_put : (m : Shares) (k : ℕ) (s : Share ℕ) (extra : ℕ) → waiting_of s ≤ waiting_of (share_at m k) + extra → Fits m (put_share m k s) [] extra
fits_put m k s extra few = record { most = omega arith; grows = omega (arith, waiting_put m k s, few) }

fits_passed : (r : Admission) (p : Option Waiter) (extra : ℕ) → next_of r.shares ≡ p → Fits r.shares (passed r p).shares (woken p) extra
fits_passed r None extra is = record { most = omega arith; grows = omega arith }
fits_passed r (Some a) extra is =
    let next = next_is r.shares a is in
    let waits : get (share_at r.shares a.key).waiting a.number ≡ Some a.waker = ap (λ s. get s.waiting a.number) next.share ∙ next.waits.waker in
    let some = len-some (share_at r.shares a.key).waiting a.number a.waker waits in
    let gone = len-gone (share_at r.shares a.key).waiting a.number a.waker waits in
    record {
      most = omega (arith, some, share_waits r.shares a.key);
      grows = omega (arith, some, gone, waiting_put r.shares a.key (admitting (share_at r.shares a.key) a.number));
    }

fits_gives : (r : Admission) (k : ℕ) (s : Share ℕ) (extra : ℕ) → waiting_of s ≡ waiting_of (share_at r.shares k)
    → Fits r.shares (passed (with_share r k s) (next_of (with_share r k s).shares)).shares (woken (next_of (with_share r k s).shares)) extra
fits_gives r k s extra same =
    let passed = fits_passed (with_share r k s) (next_of (with_share r k s).shares) extra refl in
    let put = waiting_put r.shares k s in
    record { most = omega (arith, passed.most, put, same); grows = omega (arith, passed.grows, put, same) }

abbrev Counts : ShareHall → Outcome ShareHall → ℕ → Type 0
Counts h o extra = (length o.wakes ≤ registered h) × (registered o.hall + length o.wakes ≤ registered h + extra)

abbrev CountsOf : Names Admission → Names Admission → List ℕ → ℕ → Type 0
CountsOf rs rs' ws extra = (length ws ≤ total (λ o (r : Admission). waiting_in r.shares) rs) × (total (λ o (r : Admission). waiting_in r.shares) rs' + length ws ≤ total (λ o (r : Admission). waiting_in r.shares) rs + extra)

module _ (rs : Names Admission) (o : ℕ) (r r' : Admission) (ws : List ℕ) (extra : ℕ) (there : get rs o ≡ Some r) (fits : Fits r.shares r'.shares ws extra) where
  here : weight (λ o (r : Admission). waiting_in r.shares) o (get rs o) ≡ waiting_in r.shares
  here = ap (weight (λ o (r : Admission). waiting_in r.shares) o) there

  few : length ws ≤ total (λ o (r : Admission). waiting_in r.shares) rs
  few = omega (arith, fits.most, total-has (λ o (r : Admission). waiting_in r.shares) rs o r there)

  counts_left : (rs' : Names Admission) → IsLeft rs o r' rs' → CountsOf rs rs' ws extra
  counts_left rs' (inl is) = subst (λ ts. CountsOf rs ts ws extra) (sym is) (few, omega (arith, here, fits.grows, total-insert (λ o (r : Admission). waiting_in r.shares) rs o r'))
  counts_left rs' (inr is) = subst (λ ts. CountsOf rs ts ws extra) (sym is) (few, omega (arith, here, fits.most, total-remove (λ o (r : Admission). waiting_in r.shares) rs o))

module _ (h : ShareHall) (i extra : ℕ) (allowed : Type 0) where
  turned_fits : (r r' : Admission) → Turns extra allowed r r' → Fits r.shares r'.shares [] extra
  turned_fits r _ Same = record { most = omega arith; grows = omega arith }
  turned_fits r _ Unnames = record { most = omega arith; grows = omega arith }
  turned_fits r _ (Takes k some) = fits_put r.shares k (taken (share_at r.shares k)) extra (omega arith)
  turned_fits r _ (Queues k w none more) = let s = share_at r.shares k in
      fits_put r.shares k (queued s r.next w) extra (omega (arith, more, len-insert nat_cmp_total s.waiting r.next w, len-least (get s.waiting r.next) (len s.waiting)))
  turned_fits r _ (Sets k s weighs few) = fits_put r.shares k s extra (omega (arith, few))

  -- nobody is woken, and the admissions are these
  as_left : (out : Outcome ShareHall) (rs : Names Admission) → out.hall.admissions ≡ rs → out.wakes ≡ [] → CountsOf h.admissions rs [] extra → Counts h out extra
  as_left out rs is silent counts =
      let now = ap (total (λ o (r : Admission). waiting_in r.shares)) is in
      let none = ap (λ (ws : List ℕ). length ws) silent in
      (omega (arith, none), omega (arith, now, none, counts.1))

  counts : (out : Outcome ShareHall) → Does h i extra allowed out → Counts h out extra
  counts _ (Rests out same silent) = as_left out h.admissions same silent (omega arith, omega arith)
  counts _ (Makes n) = (omega arith, omega (arith, total-insert (λ o (r : Admission). waiting_in r.shares) h.admissions i (new_admission n), total-empty {X = Share ℕ} (λ k s. waiting_of s)))
  counts _ (Leaves o r r' out there turns left silent) = as_left out out.hall.admissions refl silent (counts_left h.admissions o r r' [] extra there (turned_fits r r' turns) out.hall.admissions left)
  counts _ (Gives xs ps o r k s there weight waits) =
      let r1 = passed (with_share r k s) (next_of (with_share r k s).shares) in
      counts_left h.admissions o r r1 (woken (next_of (with_share r k s).shares)) extra there (fits_gives r k s extra waits) _ (tidied_is h.admissions o r1 (things_of (record { admissions = h.admissions; futures = xs; permits = ps }) o))

pub counted : (h : ShareHall) (i : ℕ) (e : ShareEvent) → (length (step h i e).wakes ≤ registered h) × (registered (step h i e).hall + length (step h i e).wakes ≤ registered h + cond (registers e) 1 0)
counted h i e = counts h i _ _ _ (does h i (meaning_of e))

pub extra-least : (b : Bool) → cond b 1 0 ≤ 1
extra-least true = omega arith
extra-least false = omega arith
