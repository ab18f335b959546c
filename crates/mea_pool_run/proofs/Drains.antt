-- a wait for the end of the drain is polled or ends
use Rattle.std.proofs.Common.{◌≡◌, ℕ, ◌++◌, inl, inr, Bool, true, false, [], ◌∷◌, Some, None, Ok, refl, ap, sym, subst, ◌∙◌}
use Rattle.std.specs.Option.{IsSome}
use Rattle.std.specs.Ordering.{nat_cmp}
use Rattle.std.specs.FinMap.{FinMap, get, insert, remove}
use Rattle.std.proofs.lemmas.Bool.{cases_Bool}
use Rattle.mea_base.specs.declared.poll.Poll.TheVariants as poll
use Rattle.mea_by_name.specs.declared.named_waker.NamedWaker.{NamedWaker}
use Rattle.mea_by_name.specs.ByName.{Names}
use Rattle.mea_by_name.specs.NamedQueue.{registering, without}
use Rattle.mea_by_name.proofs.Own.{seen-at, seen-remove, seen-alike}
use Rattle.mea_family.specs.declared.answer.Answer.TheVariants as answers
use Rattle.mea_lock_core.specs.Condvar.{waker_under, with_waker, without_wait}
use Rattle.mea_pool_core.specs.declared.drain_wait.DrainWait.{DrainWait}
use Rattle.mea_pool_core.specs.declared.drain_wait.DrainWait.TheVariants as drain
use Rattle.mea_pool_core.specs.Calls.{MayPollDrain, MayEndDrain, PollsDrain, EndsDrain}
use Rattle.mea_pool_core.specs.Pool.{Pool, is_drained}
use Rattle.mea_pool_run.specs.declared.reply.PoolReply.TheVariants.{Told}
use Rattle.mea_pool_run.specs.declared.thing.Thing.{Thing}
use Rattle.mea_pool_run.specs.declared.thing.Thing.TheVariants.{Wait}
use Rattle.mea_pool_run.specs.PoolByName.{PoolByName, Outcome, quietly, polled_drain, poll_of, end_of}
use Rattle.mea_pool_run.specs.Kept.{Numbered, names_of, live_of, pool_by_name, asked, awaited, held, IsGoing, AsksStand, LeasesStand, WaitsStand, Keeps, Stands, Goes, wakers_of}
use Rattle.mea_pool_run.proofs.Linking.{At, put, absent_left, left_named, registered_last, registered_again}
use Rattle.mea_pool_run.proofs.Polls.{pool_path}
use Rattle.mea_pool_run.proofs.Standing.{ready, lists_last, rewaked_lists, leaves_list}
use Rattle.mea_pool_run.proofs.Things.{put_back, at_alike, at_inserted, at_removed, at_without, going_put, going_gone}

-- the waits that are known by name are those of the pool
pub may_poll_drain : (p : Pool ℕ NamedWaker) (things : Names Thing) (f : ℕ) (c : DrainWait) → Keeps p things → get things f ≡ Some (Wait c) → MayPollDrain p c
may_poll_drain p things f drain.New keeps is = tt
may_poll_drain p things f (drain.Listed m) keeps is = elim (keeps.ending.linked.home f m (ap awaited is)) [ inl some ↦ inl some | inr told ↦ inr told.1 ]
may_poll_drain p things f drain.Done keeps is = absurd (subst IsGoing is (keeps.going f))

pub may_end_drain : (p : Pool ℕ NamedWaker) (things : Names Thing) (f : ℕ) (c : DrainWait) → Keeps p things → get things f ≡ Some (Wait c) → MayEndDrain p c
may_end_drain p things f drain.New keeps is = tt
may_end_drain p things f (drain.Listed m) keeps is = may_poll_drain p things f (drain.Listed m) keeps is
may_end_drain p things f drain.Done keeps is = tt

module _ (p : Pool ℕ NamedWaker) (things : Names Thing) (stands : Stands p things) where
  abbrev s : PoolByName
  s = pool_by_name p things

  abbrev wait_at : At
  wait_at = λ q. awaited (get things q)

  silent : wakers_of p.wakes ≡ []
  silent = ap wakers_of stands.quiet

  poll_is : (f n w : ℕ) (c : DrainWait) (b : Bool) → get things f ≡ Some (Wait c) → is_drained p ≡ b → poll_of (get s.things f) s n f w ≡ polled_drain b s f w
  poll_is f n w c b is drained = ap (λ x. poll_of x s n f w) (seen-at (live_of p.granted) things f (Wait c) is) ∙ ap (λ d. polled_drain d s f w) drained

  -- a change of these waits alone
  keeps_waits : (things' : Names Thing) (lists : Numbered) (told : FinMap nat_cmp Bool) → ((f : ℕ) → IsGoing (get things' f))
      → WaitsStand (λ q. awaited (get things' q)) lists told (is_drained p)
      → ◌≡◌ {A = At} (λ q. asked (get things' q)) (λ q. asked (get things q)) → ◌≡◌ {A = At} (λ q. held (get things' q)) (λ q. held (get things q))
      → Keeps (record p { drains = lists; told = told }) things'
  keeps_waits things' lists told going ending same_asked same_held = record {
    going = going;
    asking = subst (λ (at : At). AsksStand at p.waiting p.granted p.cut p.draining) (sym same_asked) stands.keeps.asking;
    lending = subst (λ (at : At). LeasesStand at p.lent) (sym same_held) stands.keeps.lending;
    ending = ending;
  }

  -- the wait goes
  goes_away : (f : ℕ) (c : DrainWait) (told : FinMap nat_cmp Bool) → get things f ≡ Some (Wait c) → WaitsStand (put wait_at f None) p.drains told (is_drained p)
      → Goes (quietly (record s { things = remove s.things f }) (Told answers.Ready)) (record p { told = told }) (remove things f) (Told answers.Ready)
  goes_away f c told is ending = record {
    pool = pool_path _ _ refl refl refl (seen-remove (live_of p.granted) things f) refl refl refl;
    replied = refl;
    woken = silent;
    keeps = keeps_waits (remove things f) p.drains told (going_gone things f stands.keeps.going)
        (subst (λ (at : At). WaitsStand at p.drains told (is_drained p)) (sym (at_removed awaited things f)) ending)
        (at_without asked things f (ap asked is)) (at_without held things f (ap held is));
  }

  pub is_ready : (f n w : ℕ) (c c' : DrainWait) (k : NamedWaker) (p' : Pool ℕ NamedWaker) → get things f ≡ Some (Wait c)
      → PollsDrain p c k (Ok (poll.Ready tt)) p' c' → Goes (poll_of (get s.things f) s n f w) p' (remove things f) (Told answers.Ready)
  is_ready f n w drain.New c' k p' is polls = elim (cases_Bool (is_drained p)) [
    | inl drained ↦
        subst (λ (o : Outcome). Goes o p' (remove things f) (Told answers.Ready)) (sym (poll_is f n w drain.New true is drained))
        (subst (λ (q : Pool ℕ NamedWaker). Goes (polled_drain true s f w) q (remove things f) (Told answers.Ready)) (sym (polls.0 drained).1)
        (goes_away f drain.New p.told is (subst (λ (at : At). WaitsStand at p.drains p.told (is_drained p)) (sym (put_back wait_at f None (ap awaited is))) stands.keeps.ending)))
    | inr undrained ↦ absurd (let never = (polls.1 undrained).0 in cc)
  ]
  is_ready f n w (drain.Listed m) c' k p' is polls = elim (cases_Bool (is_drained p)) [
    | inl drained ↦
        subst (λ (o : Outcome). Goes o p' (remove things f) (Told answers.Ready)) (sym (poll_is f n w (drain.Listed m) true is drained))
        (subst (λ (q : Pool ℕ NamedWaker). Goes (polled_drain true s f w) q (remove things f) (Told answers.Ready)) (sym (polls.0 drained).1)
        (goes_away f (drain.Listed m) (remove p.told m) is (ready wait_at p.drains p.told (is_drained p) stands.keeps.ending f m (ap awaited is) drained)))
    | inr undrained ↦ absurd (let never = (polls.1 undrained).0 in cc)
  ]
  is_ready f n w drain.Done c' k p' is polls = absurd (subst IsGoing is (stands.keeps.going f))

  -- the wait goes on, under this number
  stays : (f w : ℕ) (c : DrainWait) (m : ℕ) (lists : Numbered) → get things f ≡ Some (Wait c) → names_of lists ≡ registering (names_of p.drains) f w
      → WaitsStand (put wait_at f (Some m)) lists p.told (is_drained p)
      → Goes (polled_drain false s f w) (record p { drains = lists }) (insert things f (Wait (drain.Listed m))) (Told answers.Pending)
  stays f w c m lists is named ending = record {
    pool = pool_path _ _ refl refl refl (seen-alike (live_of p.granted) things f (Wait c) (Wait (drain.Listed m)) is refl) refl refl named;
    replied = refl;
    woken = silent;
    keeps = keeps_waits (insert things f (Wait (drain.Listed m))) lists p.told (going_put things f (Wait (drain.Listed m)) stands.keeps.going tt)
        (subst (λ (at : At). WaitsStand at lists p.told (is_drained p)) (sym (at_inserted awaited things f (Wait (drain.Listed m)))) ending)
        (at_alike asked things f (Wait (drain.Listed m)) (ap asked is)) (at_alike held things f (Wait (drain.Listed m)) (ap held is));
  }

  pub is_pending : (f n w : ℕ) (c c' : DrainWait) (p' : Pool ℕ NamedWaker) → get things f ≡ Some (Wait c)
      → PollsDrain p c (record { name = f; waker = w }) (Ok poll.Pending) p' c' → Goes (poll_of (get s.things f) s n f w) p' (insert things f (Wait c')) (Told answers.Pending)
  is_pending f n w drain.New c' p' is polls = elim (cases_Bool (is_drained p)) [
    | inl drained ↦ absurd (let never = (polls.0 drained).0 in cc)
    | inr undrained ↦
        let new = (polls.1 undrained).1 in
        subst (λ (o : Outcome). Goes o p' (insert things f (Wait c')) (Told answers.Pending)) (sym (poll_is f n w drain.New false is undrained))
        (subst (λ (d : DrainWait). Goes (polled_drain false s f w) p' (insert things f (Wait d)) (Told answers.Pending)) (sym new.2)
        (subst (λ (q : Pool ℕ NamedWaker). Goes (polled_drain false s f w) q (insert things f (Wait (drain.Listed new.0))) (Told answers.Pending)) (sym new.1.is)
        (stays f w drain.New new.0 (p.drains ++ (new.0, record { name = f; waker = w }) ∷ []) is
        (registered_last wait_at f new.0 w p.drains stands.keeps.ending.linked.named (ap awaited is))
        (lists_last wait_at p.drains p.told (is_drained p) stands.keeps.ending f new.0 w undrained (ap awaited is) new.1.not_listed))))
  ]
  is_pending f n w (drain.Listed m) c' p' is polls = elim (cases_Bool (is_drained p)) [
    | inl drained ↦ absurd (let never = (polls.0 drained).0 in cc)
    | inr undrained ↦
        let again = polls.1 undrained in
        let here : wait_at f ≡ Some m = ap awaited is in
        subst (λ (o : Outcome). Goes o p' (insert things f (Wait c')) (Told answers.Pending)) (sym (poll_is f n w (drain.Listed m) false is undrained))
        (subst (λ (d : DrainWait). Goes (polled_drain false s f w) p' (insert things f (Wait d)) (Told answers.Pending)) (sym again.2)
        (subst (λ (q : Pool ℕ NamedWaker). Goes (polled_drain false s f w) q (insert things f (Wait (drain.Listed m))) (Told answers.Pending)) (sym again.1)
        (stays f w (drain.Listed m) m (with_waker p.drains m (record { name = f; waker = w })) is
        (registered_again wait_at f m stands.keeps.ending.linked.single here w p.drains stands.keeps.ending.linked.named stands.keeps.ending.linked.apart (listed f m here undrained))
        (subst (λ (at : At). WaitsStand at (with_waker p.drains m (record { name = f; waker = w })) p.told (is_drained p)) (sym (put_back wait_at f (Some m) here))
        (rewaked_lists wait_at p.drains p.told (is_drained p) stands.keeps.ending f m w undrained here)))))
  ]
    where
      listed : (f m : ℕ) → wait_at f ≡ Some m → is_drained p ≡ false → IsSome (waker_under p.drains m)
      listed f m here undrained = elim (stands.keeps.ending.linked.home f m here) [
        | inl some ↦ some
        | inr told ↦ absurd (let over = told.0 in cc)
      ]
  is_pending f n w drain.Done c' p' is polls = absurd (subst IsGoing is (stands.keeps.going f))

  -- ---- a wait for the end of the drain ends

  end_is : (f : ℕ) (c : DrainWait) → get things f ≡ Some (Wait c) → end_of (get s.things f) s f ≡ quietly (record s { things = remove s.things f; drains = without s.drains f }) (Told answers.Done)
  end_is f c is = ap (λ x. end_of x s f) (seen-at (live_of p.granted) things f (Wait c) is)

  just_ends : (f : ℕ) (c : DrainWait) (lists : Numbered) (told : FinMap nat_cmp Bool) (p' : Pool ℕ NamedWaker) → get things f ≡ Some (Wait c) → p' ≡ record p { drains = lists; told = told }
      → names_of lists ≡ without (names_of p.drains) f → WaitsStand (put wait_at f None) lists told (is_drained p)
      → Goes (end_of (get s.things f) s f) p' (remove things f) (Told answers.Done)
  just_ends f c lists told p' is whole named ending =
      subst (λ (o : Outcome). Goes o p' (remove things f) (Told answers.Done)) (sym (end_is f c is))
      (subst (λ (q : Pool ℕ NamedWaker). Goes (quietly (record s { things = remove s.things f; drains = without s.drains f }) (Told answers.Done)) q (remove things f) (Told answers.Done)) (sym whole) (record {
        pool = pool_path _ _ refl refl refl (seen-remove (live_of p.granted) things f) refl refl named;
        replied = refl;
        woken = silent;
        keeps = keeps_waits (remove things f) lists told (going_gone things f stands.keeps.going)
            (subst (λ (at : At). WaitsStand at lists told (is_drained p)) (sym (at_removed awaited things f)) ending)
            (at_without asked things f (ap asked is)) (at_without held things f (ap held is));
      }))

  pub ends : (f : ℕ) (c : DrainWait) (p' : Pool ℕ NamedWaker) → get things f ≡ Some (Wait c) → EndsDrain p c p' → Goes (end_of (get s.things f) s f) p' (remove things f) (Told answers.Done)
  ends f drain.New p' is whole = just_ends f drain.New p.drains p.told p' is whole
      (sym (absent_left wait_at f p.drains stands.keeps.ending.linked.named (ap awaited is)))
      (subst (λ (at : At). WaitsStand at p.drains p.told (is_drained p)) (sym (put_back wait_at f None (ap awaited is))) stands.keeps.ending)
  ends f (drain.Listed m) p' is ended = elim (cases_Bool (is_drained p)) [
    | inl drained ↦ just_ends f (drain.Listed m) p.drains (remove p.told m) p' is (ended.0 drained)
        (nobody f (stands.keeps.ending.all_told drained)) (ready wait_at p.drains p.told (is_drained p) stands.keeps.ending f m (ap awaited is) drained)
    | inr undrained ↦ just_ends f (drain.Listed m) (without_wait p.drains m) p.told p' is (ended.1 undrained)
        (left_named wait_at f m stands.keeps.ending.linked.single (ap awaited is) p.drains stands.keeps.ending.linked.named)
        (leaves_list wait_at p.drains p.told (is_drained p) stands.keeps.ending f m undrained (ap awaited is))
  ]
    where
      nobody : (f : ℕ) → p.drains ≡ [] → names_of p.drains ≡ without (names_of p.drains) f
      nobody f none = ap (λ (q : Numbered). names_of q) none ∙ sym (ap (λ (q : Numbered). without (names_of q) f) none)
  ends f drain.Done p' is ended = absurd (subst IsGoing is (stands.keeps.going f))
