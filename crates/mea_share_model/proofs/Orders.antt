-- who is admitted is next
use Rattle.std.proofs.Common.{◌≡◌, ℕ, inl, inr, Option, Some, None, refl, ap, ◌∙◌}
use Rattle.std.specs.FinMap.{get}
use Rattle.mea_family.specs.declared.answer.Answer.TheVariants as answers
use Rattle.mea_family.specs.Family.{Outcome}
use Rattle.mea_share_core.specs.Share.{Share}
use Rattle.mea_events.specs.declared.share_event.ShareEvent.{ShareEvent}
use Rattle.mea_share_model.specs.Next.{Waiter, next_of}
use Rattle.mea_share_model.specs.Admissions.{Admission, ShareHall, with_share, passed, woken, tidied, gives_back}
use Rattle.mea_share_model.specs.Meaning.{meaning_of, step}
use Rattle.mea_share_model.specs.Order.{IsInOrder}
use Rattle.mea_share_model.proofs.Waiting.{next_is}
use Rattle.mea_share_model.proofs.Doing.{Does, Rests, Makes, Leaves, Gives, does}

module _ (h : ShareHall) where
  gives : (rest : ShareHall) (o : ℕ) (r : Admission) (k : ℕ) (s : Share ℕ) → get h.admissions o ≡ Some r → IsInOrder h (gives_back rest o (with_share r k s))
  gives rest o r k s there = at (next_of (with_share r k s).shares) refl
    where
      at : (a : Option Waiter) → next_of (with_share r k s).shares ≡ a → IsInOrder h (record { hall = tidied rest o (passed (with_share r k s) a); reply = answers.Done; wakes = woken a })
      at None is = inl refl
      at (Some a) is =
          let next = next_is (with_share r k s).shares a is in
          inr (
            a.waker,
            refl,
            record {
              admission = o;
              was = r;
              there = there;
              gave = k;
              share = s;
              between = with_share r k s;
              is = refl;
              key = a.key;
              number = a.number;
              next = next.first;
              waker = ap (λ t. get t.waiting a.number) next.share ∙ next.waits.waker;
              rest = rest;
              admitted = refl;
            },
          )

  done_in_order : (i extra : ℕ) (allowed : Type 0) (out : Outcome ShareHall) → Does h i extra allowed out → IsInOrder h out
  done_in_order i extra allowed _ (Rests out same silent) = inl silent
  done_in_order i extra allowed _ (Makes n) = inl refl
  done_in_order i extra allowed _ (Leaves o r r' out there turns left silent) = inl silent
  done_in_order i extra allowed _ (Gives xs ps o r k s there weight waits) = gives (record { admissions = h.admissions; futures = xs; permits = ps }) o r k s there

pub in_order : (h : ShareHall) (i : ℕ) (e : ShareEvent) → IsInOrder h (step h i e)
in_order h i e = done_in_order h i _ _ _ (does h i (meaning_of e))
