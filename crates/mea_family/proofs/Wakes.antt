-- a family that keeps the wakers of who waits loses no wake
use Rattle.std.proofs.Common.{◌≡◌, ℕ, ◌+◌, ◌<◌, ◌++◌, ◌⊎◌, inl, inr, Bool, true, false, List, Option, Some, None, refl, ap, ◌∙◌, arith}
use Rattle.std.specs.List.{Contains}
use Rattle.std.proofs.lemmas.Option.{cond_some}
use Rattle.std.proofs.lemmas.List.Elements.{Contains-append_left, Contains-append_right}
use Rattle.mea_family.specs.declared.answer.Answer.{Answer}
use Rattle.mea_family.specs.declared.answer.Answer.TheVariants as answers
use Rattle.mea_family.specs.Family.{Family, Outcome, RunOf, told, IsRun, Starts, Goes, is_pending, last_waker_at, last_waker, wakes_at, wakes_since, LosesNoWake, KeepsWakers, NamesFutures}

pending_is : (a : Answer) → is_pending a ≡ true → a ≡ answers.Pending
pending_is answers.Pending e = refl
pending_is answers.Made e = absurd (cc)
pending_is answers.Held e = absurd (cc)
pending_is answers.Lacking e = absurd (cc)
pending_is answers.Yes e = absurd (cc)
pending_is answers.No e = absurd (cc)
pending_is answers.Ready e = absurd (cc)
pending_is answers.Leader e = absurd (cc)
pending_is answers.Done e = absurd (cc)
pending_is answers.Accepted e = absurd (cc)
pending_is (answers.Full v) e = absurd (cc)
pending_is (answers.Closed v) e = absurd (cc)
pending_is (answers.Got v) e = absurd (cc)
pending_is answers.Empty e = absurd (cc)
pending_is answers.Gone e = absurd (cc)
pending_is (answers.Free k) e = absurd (cc)
pending_is (answers.Forgot k) e = absurd (cc)
pending_is (answers.Permits k) e = absurd (cc)
pending_is (answers.Count k) e = absurd (cc)
pending_is (answers.Left k) e = absurd (cc)
pending_is (answers.Value v) e = absurd (cc)
pending_is (answers.Failure v) e = absurd (cc)
pending_is (answers.Back v) e = absurd (cc)
pending_is (answers.Kept c v) e = absurd (cc)
pending_is (answers.Key k) e = absurd (cc)
pending_is (answers.Lagged k) e = absurd (cc)
pending_is (answers.Account l) e = absurd (cc)

module _ (F : Family) (keeps : KeepsWakers F) (names : NamesFutures F) where
  -- who was polled has a name below the next number
  polled_below : (r : RunOf F) → IsRun F r → (f : F.Future) (w : ℕ) → last_waker F r.trace f ≡ Some w → F.name f < r.next
  polled_below _ (Starts) f w last = absurd (cc)
  polled_below _ (Goes r i e runs later cause) f w last = at (polled_below r runs f w) (F.polled e f) refl last
    where
      at : (last_waker F r.trace f ≡ Some w → F.name f < r.next) → (o : Option ℕ) → F.polled e f ≡ o
          → last_waker_at F (told F r i e) o (last_waker F r.trace f) ≡ Some w → F.name f < i + 1
      at before (Some v) polls is = omega (arith, later, names.below r runs f (names.polls r.hall e cause f v polls))
      at before None polls is = omega (arith, later, before is)

  -- the waker of a living future's last poll is placed still, or was woken since
  placed_or_woken : (r : RunOf F) → IsRun F r → (f : F.Future) (w : ℕ) → F.lives r.hall f ≡ true → last_waker F r.trace f ≡ Some w
      → (F.placed r.hall f ≡ Some w) ⊎ Contains (wakes_since F r.trace f) w
  placed_or_woken _ (Starts) f w living last = absurd (cc)
  placed_or_woken _ (Goes r i e runs later cause) f w living last = at (placed_or_woken r runs f w) (F.polled e f) refl last
    where
      o : Outcome F.Hall
      o = F.step r.hall i e

      since : List ℕ
      since = wakes_since F r.trace f

      -- who lives still was not ended
      unended : (b : Bool) → F.ends e f ≡ b → F.ends e f ≡ false
      unended false is = is
      unended true is = absurd (let gone = keeps.goes r i e runs later cause f is in cc)

      unpolled : F.polled e f ≡ None → (F.placed r.hall f ≡ Some w) ⊎ Contains since w → F.lives r.hall f ≡ true
          → (F.placed o.hall f ≡ Some w) ⊎ Contains (since ++ o.wakes) w
      unpolled polls (inl placed) lived = elim (keeps.wakes r i e runs later cause f w lived placed polls (unended (F.ends e f) refl)) [
        | inl stays ↦ inl stays
        | inr woken ↦ inr (Contains-append_right since o.wakes w woken)
      ]
      unpolled polls (inr woken) lived = inr (Contains-append_left since o.wakes w woken)

      at : (F.lives r.hall f ≡ true → last_waker F r.trace f ≡ Some w → (F.placed r.hall f ≡ Some w) ⊎ Contains since w) → (p : Option ℕ)
          → F.polled e f ≡ p → last_waker_at F (told F r i e) p (last_waker F r.trace f) ≡ Some w
          → (F.placed o.hall f ≡ Some w) ⊎ Contains (wakes_at F (told F r i e) p since) w
      at before (Some v) polls is =
          let pending = cond_some (is_pending o.reply) v w is in
          inl (keeps.places r i e runs later cause f v polls (pending_is o.reply pending.0) ∙ ap (λ u. Some u) pending.1)
      at before None polls is = elim (names.made r i e runs later cause f living) [
        | inl lived ↦ unpolled polls (before lived is) lived
        | inr fresh ↦ absurd (let small = polled_below r runs f w is in omega (arith, small, later, fresh))
      ]

  pub loses_no_wake : (r : RunOf F) → IsRun F r → LosesNoWake F r
  loses_no_wake r runs f w v e living last polls ready = elim (placed_or_woken r runs f w living last) [
    | inl placed ↦ absurd (ready (keeps.waits r r.next e runs f w v living placed polls))
    | inr woken ↦ woken
  ]
